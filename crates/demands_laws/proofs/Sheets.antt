-- Sheets and the addresses in them, said of the bytes and the values, and the numbers of `find`. Assumes nothing.
use mathlib.Core.Path.{◌≡◌, refl, ap, ◌∙◌, subst}
use mathlib.Core.Logic.Iff
use mathlib.Core.Logic.{◌⊎◌, ◌↔◌}
use mathlib.Core.List.{List}
use Prim.Native.Nat.{ℕ, ◌≤◌, ◌<◌}
use native.Mathlib.Omega.{arith}
use lib.ListN.{length}
use Rattle.refusal.specs.Paper.{taken, refused}
use Rattle.refusal.specs.Limits.{most_text}
use Rattle.refusal.specs.Parts.{bytes_at}
use Rattle.refusal.specs.declared.Part.{Part}
use Rattle.bencode.specs.Value.{Value, Entries, str, dict, encode}
use Rattle.bencode.specs.Decode.{decode}
use Rattle.bencode_laws.proofs.Laws.{Numbered}
use Rattle.bencode_walk.specs.Has.{Has}
use Rattle.bencode_fields.specs.Values.{part_of}
use Rattle.hash_sha1.specs.Sha1.{sha1}
use Rattle.torrent_metainfo.specs.Keys.{announce_key}
use Rattle.torrent_metainfo.specs.Reading.{read_of}
use Rattle.torrent_metainfo.specs.declared.Torrent.{Torrent as Says}
use Rattle.torrent_laws.specs.Torrent.{TorrentSays, IsTorrent}
use Rattle.torrent_laws.proofs.Laws as torrents
use Rattle.sheets.specs.declared.Source.{Source}
use Rattle.sheets.specs.declared.Source.TheVariants.{Torrent, Sheet}
use Rattle.sheets.specs.Sheet.{IsSheet, is-sheet, address_of}
use Rattle.sheets.specs.Causes.{NoSheetText}
use Rattle.sheets.specs.Rules.{Listed, listed, unlisted, sheet_of}
use Rattle.sheets.specs.Reading.{Answered, of, find_of, about, chosen}
use Rattle.sheets.proofs.Addresses.{address-listed, address-unlisted}
use Rattle.sheets.proofs.Laws as sheets
use Rattle.sheets.proofs.Answers as answers
use Rattle.demands_laws.specs.Texts.{Encodes}
use Rattle.demands_laws.specs.Places.{PartUnder}
use Rattle.demands_laws.proofs.Texts.{fine, encodes}
use Rattle.demands_laws.proofs.Places.{torrent-placed}

module _ (t s : List ℕ) where
  -- taken exactly for a torrent and a sheet
  pub exact : ((p : Part) × ((find_of t s).what ≡ taken p)) ↔ (((v : Value) × (T : TorrentSays) × Encodes t v × IsTorrent v T) × ((w : Value) × Encodes s w × IsSheet w))
  exact = (
    λ x. let ((v, T, f, i), (w, g, j)) = (answers.find-exact t s).0 x in ((v, T, encodes f, i), (w, encodes g, j)),
    λ ((v, T, f, i), (w, g, j)). (answers.find-exact t s).1 ((v, T, fine f, i), (w, fine g, j)),
  )

  -- ---- what is handed back

  -- these bytes are the address by the two values, and the part that is handed back
  abbrev pub Right : Value → Value → Type 0
  Right v w = (p : Part) × (bs : List ℕ) × (address_of v w ≡ str bs) × ((find_of t s).what ≡ taken p) × (bytes_at (chosen (find_of t s).source t s) p ≡ bs)

  said-so : (v w : Value) (c : Source) (p : Part) (bs : List ℕ) → address_of v w ≡ str bs → find_of t s ≡ of c (taken p) → bytes_at (chosen c t s) p ≡ bs → Right v w
  said-so v w c p bs a e b = (p, bs, a, ap (λ (x : Answered). x.what) e, ap (λ (x : Answered). bytes_at (chosen x.source t s) p) e ∙ b)

  module _ (v : Value) (T : TorrentSays) (f : Encodes t v) (i : IsTorrent v T) where
    abbrev hash : List ℕ
    hash = sha1 (encode (dict T.info))

    module _ (es : Entries) (g : Encodes s (dict es)) (j : IsSheet (dict es)) where
      right_by : (y : Listed) → sheet_of hash s ≡ taken y → Right v (dict es)
      right_by (listed x) e =
          let h = sheets.listed_has hash s es (fine g) j x e in
          let a = answers.found-listed t s v T (fine f) i es (fine g) j h.1 h.2 in
          said-so v (dict es) Sheet (part_of a.0 h.1) h.1 (address-listed t v T (fine f) i es 32 g.1 h.1 h.2) a.2 a.3
      right_by unlisted e =
          let h = sheets.unlisted-has hash s es (fine g) j e in
          let a = answers.found-unlisted t s v T (fine f) i es (fine g) j h in
          said-so v (dict es) Torrent a.0.announce T.announce (address-unlisted t v T (fine f) i es h) a.2 a.3

      right-rows : Right v (dict es)
      right-rows = let y = (sheets.sheet-exact hash s).1 (dict es, fine g, j) in right_by y.0 y.1

      -- and where it stands: under the hash in the sheet, or under announce in the torrent
      pub placed-listed : (bs : List ℕ) → Has es hash (str bs) → (p : Part) × (find_of t s ≡ of Sheet (taken p)) × PartUnder 1 es hash p
      placed-listed bs h = let a = answers.found-listed t s v T (fine f) i es (fine g) j bs h in (part_of a.0 bs, a.2, (a.0, bs, a.1, refl))

      pub placed-unlisted : (ts : Entries) → v ≡ dict ts → ((w : Value) → Has es hash w → ⊥) → (p : Part) × (find_of t s ≡ of Torrent (taken p)) × PartUnder 1 ts announce_key p
      placed-unlisted ts e h =
          let a = answers.found-unlisted t s v T (fine f) i es (fine g) j h in
          (a.0.announce, a.2, (torrent-placed t a.0 a.1 ts (subst (Encodes t) e f)).0)

    pub right : (w : Value) → Encodes s w → IsSheet w → Right v w
    right w g (is-sheet es h) = right-rows es g (is-sheet es h)

  -- ---- the numbers

  pub of-torrent : (k p : ℕ) → find_of t s ≡ of Torrent (refused k p) ↔ read_of t ≡ refused k p
  of-torrent = answers.of-torrent t s

  pub torrent-read : (k p : ℕ) → k ≤ 7 → about Torrent (find_of t s) ≡ refused k p ↔ decode t ≡ refused k p
  torrent-read k p l = Iff.trans (answers.about-refused Torrent (find_of t s) k p) (Iff.trans (of-torrent k p) (torrents.by-bencode t k p (omega arith)))

  -- the sheet's, once the torrent is read
  module _ (x : Says) (e : read_of t ≡ taken x) where
    by-bencode : (k p : ℕ) → k ≤ 8 → find_of t s ≡ of Sheet (refused k p) ↔ decode s ≡ refused k p
    by-bencode k p l = Iff.trans (answers.of-sheet t s x e k p) (sheets.by-bencode (sha1 (bytes_at t x.info)) s k p l)

    pub sheet-read : (k p : ℕ) → k ≤ 7 → about Sheet (find_of t s) ≡ refused k p ↔ decode s ≡ refused k p
    sheet-read k p l = Iff.trans (answers.about-refused Sheet (find_of t s) k p) (by-bencode k p (omega arith))

    pub sheet-8 : (p : ℕ) → find_of t s ≡ of Sheet (refused 8 p) ↔ ((most_text < length s) × (p ≡ 0))
    sheet-8 p = Iff.trans (answers.of-sheet t s x e 8 p) (sheets.long-law (sha1 (bytes_at t x.info)) s p)

    pub sheet-10 : (p : ℕ) → find_of t s ≡ of Sheet (refused 10 p) ↔ NoSheetText s 10 p
    sheet-10 p = Iff.trans (answers.of-sheet t s x e 10 p) (sheets.kind-law (sha1 (bytes_at t x.info)) s p)

    pub sheet-15 : (p : ℕ) → find_of t s ≡ of Sheet (refused 15 p) ↔ NoSheetText s 15 p
    sheet-15 p = Iff.trans (answers.of-sheet t s x e 15 p) (sheets.peer-law (sha1 (bytes_at t x.info)) s p)

  -- and no other
  pub sheet-only : (k p : ℕ) → find_of t s ≡ of Sheet (refused k p) → Numbered k ⊎ ((k ≡ 10) ⊎ (k ≡ 15))
  sheet-only k p f = let (x, e) = answers.sheet-after t s k p f in sheets.none_other (sha1 (bytes_at t x.info)) s k p ((answers.of-sheet t s x e k p).0 f)

  pub sheet-after : (k p : ℕ) → find_of t s ≡ of Sheet (refused k p) → (x : Says) × (read_of t ≡ taken x)
  sheet-after = answers.sheet-after t s
