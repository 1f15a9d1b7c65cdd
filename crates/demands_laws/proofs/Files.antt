-- A file by its number is the file that the torrent says. Assumes nothing.
use mathlib.Core.Path.{◌≡◌, refl, sym, ap, ◌∙◌, subst}
use mathlib.Core.Bool.{Bool, true, false, cond}
use mathlib.Core.List.{List, [], ◌∷◌}
use Prim.Native.Nat.{ℕ, zero, suc, ◌+◌, ◌≤◌, ◌<◌}
use native.Mathlib.Omega.{arith}
use lib.ListN.{length, get_or, take, drop, take-append-drop}
use lib.Seq.{take-append_seam}
use Rattle.refusal.specs.Paper.{Outcome, taken, refused, then}
use Rattle.refusal.specs.Parts.{bytes_at}
use Rattle.refusal.specs.declared.Part.{Part}
use Rattle.bencode.specs.Value.{Value, Items}
use Rattle.bencode.specs.Decode.{decode}
use Rattle.torrent_blocks.specs.Rules.{sum}
use Rattle.torrent_metainfo.specs.Keys.{files_key}
use Rattle.torrent_metainfo.specs.Reading.{read_of}
use Rattle.torrent_metainfo.specs.Rules.{torrent_of}
use Rattle.torrent_metainfo.specs.declared.File.{File}
use Rattle.torrent_metainfo.specs.declared.Torrent.{Torrent}
use Rattle.torrent_laws.specs.Torrent.{OneFile, sizes_of, TorrentFiles, single, many, TorrentSays, IsTorrent, lengths_in}
use Rattle.torrent_laws.specs.Exact.{PathAt, FilesAt, none_left, file-at, is_single, EachAt}
use Rattle.bencode_fields.specs.Nth.{nth}
use Rattle.bencode_fields.proofs.Nth.{nth_beyond}
use Rattle.torrent_contents.specs.Files.{single as one_entry, in_info, entry, entries_under, all_entries, entry_in, entry_of}
use Rattle.torrent_contents.specs.Walks.{last, next, Walked, FilesWalked}
use Rattle.torrent_contents.specs.declared.Entry.{Entry}
use Rattle.torrent_contents.proofs.Walking.{files-walked}
use Rattle.refusal.proofs.Cases.{no_way}
use Rattle.refusal.proofs.Outcomes.{then-taken}
use Rattle.torrent_laws.proofs.Laws.{torrent-exact}
use Rattle.demands_laws.specs.Texts.{Encodes, no_file, NumberOf}
use Rattle.demands_laws.proofs.Texts.{fine}

-- an entry is file number n of these, of which the first starts at o of the content
abbrev IsNumber : List ℕ → ℕ → ℕ → List OneFile → Entry → Type 0
IsNumber s n o fs e = (e.offset.0 ≡ o + sum (take n (sizes_of fs))) × (e.length ≡ (get_or fs n no_file).size) × PathAt s e.path (get_or fs n no_file).path × (e.single ≡ false)

module _ (s : List ℕ) where
  numbered : (p o : ℕ) (vs : Items) (es : List Entry) → FilesWalked s p o vs es → (n : ℕ) (fs : List OneFile) → FilesAt s p fs → n < length fs → (e : Entry) × (nth n es ≡ taken e) × IsNumber s n o fs e
  unfolding nth sizes_of sum
  numbered p o vs es (last q i g) n fs (none_left r) l = absurd (omega arith)
  numbered p o vs es (last q i g) n fs (file-at r x f gs a b c d) l = let z : refused 2 q ≡ taken x = sym g ∙ a in no_way (cc)
  numbered p o vs es (next q i v us y ks g h w) n fs (none_left r) l = absurd (omega arith)
  numbered p o vs es (next q i v us y ks g h w) zero fs (file-at r x f gs a b c d) l =
      let t : taken y ≡ taken x = sym g ∙ a in
      let u : y ≡ x = cc in
      (entry i y, refl, (omega arith, ap (λ (k : File). k.length) u ∙ b, subst (λ (k : File). PathAt s k.path f.path) (sym u) c, refl))
  numbered p o vs es (next q i v us y ks g h w) (suc n) fs (file-at r x f gs a b c d) l =
      let t : taken y ≡ taken x = sym g ∙ a in
      let u : y ≡ x = cc in
      let k = numbered y.next (i + y.length) us ks w n gs (subst (λ (j : File). FilesAt s j.next gs) (sym u) d) (omega arith) in
      let m : y.length ≡ f.size = ap (λ (j : File). j.length) u ∙ b in
      (k.0, k.1, (omega (arith, k.2.0, m), k.2.1, k.2.2, k.2.3))

sizes-length : (fs : List OneFile) → length (sizes_of fs) ≡ length fs
unfolding sizes_of
sizes-length [] = refl
sizes-length (f ∷ fs) = ap suc (sizes-length fs)

module _ (s : List ℕ) (n : ℕ) (x : Torrent) (e : read_of s ≡ taken x) where
  -- the call goes by the number among the entries
  pub by_number : (v : Value) (es : List Entry) → decode s ≡ taken v → all_entries v x ≡ taken es → entry_of s n ≡ nth n es
  by_number v es d g =
      let t : torrent_of v ≡ taken x = sym (ap (λ (o : Outcome Value). then o torrent_of) d) ∙ e in
      ap (λ (o : Outcome Value). then o (entry_in n)) d ∙ ap (λ (o : Outcome Torrent). then o (λ t. then (all_entries v t) (nth n))) t ∙ ap (λ (o : Outcome (List Entry)). then o (nth n)) g

  module _ (fs : List OneFile) (one : x.content.single ≡ false) (all : x.content.files ≡ length (sizes_of fs)) (each : FilesAt s (x.content.place + 1) fs) where
    walk : Walked s x
    walk = files-walked s x e one

    there : entry_of s n ≡ nth n walk.entries
    there = by_number walk.value walk.entries walk.decoded walk.numbered

    many-within : n < length fs → (y : Entry) × (entry_of s n ≡ taken y) × IsNumber s n 0 fs y
    many-within l =
        let k = numbered s (x.content.place + 1) 0 walk.items walk.entries walk.walked n fs each l in
        (k.0, there ∙ k.1, k.2)

    many-beyond : length fs ≤ n → entry_of s n ≡ refused 31 0
    many-beyond l = there ∙ nth_beyond n walk.entries (omega (arith, walk.counted, all, sizes-length fs, l))

  one-file : x.content.single ≡ true → entry_of s n ≡ nth n (one_entry x ∷ [])
  one-file one =
      let v = then-taken (decode s) torrent_of x e in
      by_number v.0 (one_entry x ∷ []) v.1 (ap (λ (b : Bool). cond b (taken (one_entry x ∷ [])) (entries_under (in_info v.0 files_key))) one)

  pub one-within : x.content.single ≡ true → n ≡ 0 → entry_of s n ≡ taken (one_entry x)
  unfolding nth
  one-within one z = one-file one ∙ ap (λ (k : ℕ). nth k (one_entry x ∷ [])) z

  one-beyond : x.content.single ≡ true → 1 ≤ n → entry_of s n ≡ refused 31 0
  one-beyond one l = one-file one ∙ nth_beyond n (one_entry x ∷ []) l

-- the bytes of a part, by how many they are
part_bytes : (s : List ℕ) (p : Part) (bs : List ℕ) → bytes_at s p ≡ bs → take (length bs) (drop p.from s) ≡ bs
part_bytes s p bs e =
    let rest = drop p.from s in
    ap (λ (l : List ℕ). take (length l) rest) (sym e) ∙ ap (take (length (take p.len rest))) (sym (take-append-drop p.len rest)) ∙ take-append_seam (take p.len rest) (drop p.len rest) ∙ e

sum_one : (n : ℕ) → sum (n ∷ []) ≡ n
unfolding sum
sum_one n = omega arith

-- ---- of the torrent that a text is

module _ (s : List ℕ) (n : ℕ) (v : Value) (t : TorrentSays) (e : Encodes s v) (i : IsTorrent v t) where
  pub file-said : (fs : List OneFile) → t.files ≡ many fs → (n < length fs → (y : Entry) × (entry_of s n ≡ taken y) × NumberOf s n fs y) × (length fs ≤ n → entry_of s n ≡ refused 31 0)
  file-said fs f =
      let h = (torrent-exact s).every v t (fine e) i in
      let w = h.2.files in
      let one = w.one ∙ ap is_single f in
      let all = w.files ∙ ap (λ (g : TorrentFiles). length (lengths_in g)) f in
      let each = subst (λ (g : TorrentFiles). EachAt s (h.0.content.place + 1) g) f w.each in (
        λ l. let k = many-within s n h.0 h.1 fs one all each l in (k.0, k.1, (omega (arith, k.2.0), k.2.1, k.2.2, k.2.3)),
        λ l. many-beyond s n h.0 h.1 fs one all each l,
      )

  pub one-file-said : (m : ℕ) → t.files ≡ single m
      → (n ≡ 0 → (y : Entry) × (entry_of s n ≡ taken y) × (y.offset.0 ≡ 0) × (y.length ≡ m) × (take (length t.name) (drop y.path s) ≡ t.name) × (y.single ≡ true))
      × (1 ≤ n → entry_of s n ≡ refused 31 0)
  one-file-said m f =
      let h = (torrent-exact s).every v t (fine e) i in
      let w = h.2.files in
      let one = w.one ∙ ap is_single f in
      let all : h.0.content.total ≡ m = w.total ∙ ap (λ (g : TorrentFiles). sum (lengths_in g)) f ∙ sum_one m in (
        λ z. (one_entry h.0, one-within s n h.0 h.1 one z, refl, all, part_bytes s h.0.name t.name h.2.name, refl),
        λ l. one-beyond s n h.0 h.1 one l,
      )
