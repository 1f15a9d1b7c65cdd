-- What `find` answers of a torrent and a sheet: when it is taken, what is handed back, and whose refusal it is; and that its answer is determined. Assumes nothing.
use mathlib.Core.Path.{◌≡◌, refl, sym, ap, ◌∙◌}
use mathlib.Core.Logic.{◌↔◌}
use mathlib.Core.List.{List}
use Prim.Native.Nat.{ℕ}
use Rattle.refusal.specs.Paper.{Outcome, taken, refused}
use Rattle.refusal.specs.Parts.{bytes_at}
use Rattle.refusal.specs.declared.Part.{Part}
use Rattle.refusal.proofs.Cases.{no_way}
use Rattle.refusal.proofs.Outcomes.{map-refused, not_taken, not-refused, same-refusal}
use Rattle.bencode.specs.Value.{Value, Entries, str, dict, encode}
use Rattle.bencode.specs.Exact.{Fine}
use Rattle.bencode_walk.specs.Has.{Has}
use Rattle.bencode_walk.specs.Lookup.{under, lookup}
use Rattle.bencode_fields.specs.Values.{part_of}
use Rattle.hash_sha1.specs.Sha1.{sha1}
use Rattle.torrent_metainfo.specs.declared.Torrent.{Torrent as Says}
use Rattle.torrent_metainfo.specs.Reading.{read_of}
use Rattle.torrent_laws.specs.Torrent.{TorrentSays, IsTorrent}
use Rattle.torrent_laws.proofs.Laws.{torrent-exact}
use Rattle.sheets.specs.declared.Source.{Source}
use Rattle.sheets.specs.declared.Source.TheVariants.{Torrent, Sheet}
use Rattle.sheets.specs.declared.Found.{Found}
use Rattle.std.specs.Prelude.{Result}
use Rattle.refusal.specs.declared.Refusal.{Refusal}
use Rattle.refusal.proofs.Outcomes.{paper-determined}
use Rattle.sheets.specs.Sheet.{IsSheet}
use Rattle.sheets.specs.Rules.{Listed, listed, unlisted, sheet_of}
use Rattle.sheets.specs.Reading.{Answered, of, told, address_in, found_by, find_of, about}
use Rattle.sheets.proofs.Laws.{sheet-exact, sheet-listed, sheet-unlisted}

-- ---- determined

pub find-determined : (t s : List ℕ) (r q : Found) → told r ≡ find_of t s → told q ≡ find_of t s → r ≡ q
find-determined t s r q e f =
    let w = find_of t s in
    let c : r.source ≡ q.source = ap (λ (x : Answered). x.source) (e ∙ sym f) in
    let p : r.part ≡ q.part = paper-determined w.what r.part q.part (ap (λ (x : Answered). x.what) e) (ap (λ (x : Answered). x.what) f) in
    ap (λ (x : Source). record { source = x; part = r.part }) c ∙ ap (λ (x : Result Part Refusal). record { source = q.source; part = x }) p

-- ---- whose refusal it is

-- what is said of one text is its refusal, and nothing else
pub about-refused : (c : Source) (x : Answered) (n p : ℕ) → about c x ≡ refused n p ↔ x ≡ of c (refused n p)
about-refused c x n p = (go c x.source x.what, λ e. ap (about c) e ∙ back c)
  where
    back : (c : Source) → about c (of c (refused n p)) ≡ refused n p
    back Torrent = refl
    back Sheet = refl

    go : (c d : Source) (o : Outcome Part) → about c (of d o) ≡ refused n p → of d o ≡ of c (refused n p)
    go Torrent Torrent o e = ap (of Torrent) (map-refused (λ q. tt) o n p e)
    go Torrent Sheet o e = not-refused e
    go Sheet Torrent o e = not-refused e
    go Sheet Sheet o e = ap (of Sheet) (map-refused (λ q. tt) o n p e)

-- two that are one are of one text, and say one thing
same_text : {x y : Answered} → x ≡ y → x.source ≡ y.source
same_text e = ap (λ (x : Answered). x.source) e

same-said : {x y : Answered} → x ≡ y → x.what ≡ y.what
same-said e = ap (λ (x : Answered). x.what) e

other_text : {Q : Type 0} {o q : Outcome Part} → of Sheet o ≡ of Torrent q → Q
other_text e = let f : Sheet ≡ Torrent = same_text e in no_way (cc)

module _ (t s : List ℕ) where
  by_read : (o : Outcome Says) → read_of t ≡ o → find_of t s ≡ found_by t s o
  unfolding find_of
  by_read o e = ap (found_by t s) e

  not-torrent : {Q : Type 0} (a : Part) (o : Outcome Listed) (n p : ℕ) → address_in a o ≡ of Torrent (refused n p) → Q
  not-torrent a (taken (listed q)) n p e = other_text e
  not-torrent a (taken unlisted) n p e = not-refused (same-said e)
  not-torrent a (refused m q) n p e = other_text e

  torrent-only : (o : Outcome Says) (n p : ℕ) → found_by t s o ≡ of Torrent (refused n p) → o ≡ refused n p
  torrent-only (taken x) n p e = not-torrent x.announce (sheet_of (sha1 (bytes_at t x.info)) s) n p e
  torrent-only (refused m q) n p e = let z = same-refusal (same-said e) in rw (z.0, z.1)

  -- the torrent's are those that reading it gives, whatever the sheet is
  pub of-torrent : (n p : ℕ) → find_of t s ≡ of Torrent (refused n p) ↔ read_of t ≡ refused n p
  of-torrent n p = (λ e. torrent-only (read_of t) n p (sym (by_read (read_of t) refl) ∙ e), λ e. by_read (refused n p) e)

  sheet-only : (a : Part) (o : Outcome Listed) (n p : ℕ) → address_in a o ≡ of Sheet (refused n p) → o ≡ refused n p
  sheet-only a (taken (listed q)) n p e = not-refused (same-said e)
  sheet-only a (taken unlisted) n p e = other_text (sym e)
  sheet-only a (refused m q) n p e = let z = same-refusal (same-said e) in rw (z.0, z.1)

  -- the sheet's come after them: they are those that the sheet gives for the info hash
  pub of-sheet : (x : Says) → read_of t ≡ taken x → (n p : ℕ) → find_of t s ≡ of Sheet (refused n p) ↔ sheet_of (sha1 (bytes_at t x.info)) s ≡ refused n p
  of-sheet x e n p = (
    λ f. sheet-only x.announce (sheet_of (sha1 (bytes_at t x.info)) s) n p (sym (by_read (taken x) e) ∙ f),
    λ f. by_read (taken x) e ∙ ap (address_in x.announce) f,
  )

  pub sheet-after : (n p : ℕ) → find_of t s ≡ of Sheet (refused n p) → (x : Says) × (read_of t ≡ taken x)
  sheet-after n p f = go (read_of t) refl (sym (by_read (read_of t) refl) ∙ f)
    where
      go : (o : Outcome Says) → read_of t ≡ o → found_by t s o ≡ of Sheet (refused n p) → (x : Says) × (read_of t ≡ taken x)
      go (taken x) e g = (x, e)
      go (refused m q) e g = other_text (sym g)

  -- ---- taken exactly for a torrent and a sheet

  abbrev Both : Type 0
  Both = ((v : Value) × (T : TorrentSays) × Fine t v × IsTorrent v T) × ((w : Value) × Fine s w × IsSheet w)

  both-only : (a : Part) (h : List ℕ) (o : Outcome Listed) (p : Part) → sheet_of h s ≡ o → (address_in a o).what ≡ taken p → (w : Value) × Fine s w × IsSheet w
  both-only a h (taken y) p e f = (sheet-exact h s).0 (y, e)
  both-only a h (refused n q) p e f = not_taken f

  exact-only : (o : Outcome Says) (p : Part) → read_of t ≡ o → (found_by t s o).what ≡ taken p → Both
  exact-only (taken x) p e f =
      let h = (torrent-exact t).only x e in
      ((h.0, h.1, h.2, h.3), both-only x.announce (sha1 (bytes_at t x.info)) (sheet_of (sha1 (bytes_at t x.info)) s) p refl f)
  exact-only (refused n q) p e f = not_taken f

  some-part : (a : Part) (y : Listed) → (p : Part) × ((address_in a (taken y)).what ≡ taken p)
  some-part a (listed q) = (q, refl)
  some-part a unlisted = (a, refl)

  exact-every : Both → (p : Part) × ((find_of t s).what ≡ taken p)
  exact-every ((v, T, f, i), w) =
      let h = (torrent-exact t).every v T f i in
      let x = h.0 in
      let y = (sheet-exact (sha1 (bytes_at t x.info)) s).1 w in
      let z = some-part x.announce y.0 in
      (z.0, same-said (by_read (taken x) h.1 ∙ ap (address_in x.announce) y.1) ∙ z.1)

  pub find-exact : ((p : Part) × ((find_of t s).what ≡ taken p)) ↔ Both
  find-exact = (λ (p, e). exact-only (read_of t) p refl (same-said (sym (by_read (read_of t) refl)) ∙ e), exact-every)

  -- ---- what is handed back, where the torrent says T and the sheet has the rows es

  module _ (v : Value) (T : TorrentSays) (f : Fine t v) (i : IsTorrent v T) (es : Entries) (g : Fine s (dict es)) (j : IsSheet (dict es)) where
    abbrev hash : List ℕ
    hash = sha1 (encode (dict T.info))

    found_as : (y : Listed) → sheet_of hash s ≡ taken y → (x : Says) × (read_of t ≡ taken x) × (find_of t s ≡ address_in x.announce (taken y)) × (bytes_at t x.announce ≡ T.announce)
    found_as y e =
        let h = (torrent-exact t).every v T f i in
        let x = h.0 in
        (x, h.1, by_read (taken x) h.1 ∙ ap (λ (b : List ℕ). address_in x.announce (sheet_of (sha1 b) s)) h.2.info ∙ ap (address_in x.announce) e, h.2.announce)

    pub found-listed : (bs : List ℕ) → Has es hash (str bs) → (q : ℕ) × (lookup 1 es hash ≡ under q (str bs)) × (find_of t s ≡ of Sheet (taken (part_of q bs))) × (bytes_at s (part_of q bs) ≡ bs)
    found-listed bs h =
        let y = sheet-listed hash s es g j bs h in
        let z = found_as (listed (part_of y.0 bs)) y.2 in
        (y.0, y.1, z.2, y.3)

    pub found-unlisted : ((w : Value) → Has es hash w → ⊥) → (x : Says) × (read_of t ≡ taken x) × (find_of t s ≡ of Torrent (taken x.announce)) × (bytes_at t x.announce ≡ T.announce)
    found-unlisted h = found_as unlisted (sheet-unlisted hash s es g j h)
