-- What a torrent holds, by number: when each number is given. Assumes nothing.
use mathlib.Core.Path.{◌≡◌, refl, sym, ap, ◌∙◌}
use mathlib.Core.Logic.Iff
use mathlib.Core.Logic.{◌⊎◌, inl, inr, ⊎_elim, ◌↔◌}
use mathlib.Core.Bool.{Bool, true, false}
use mathlib.Core.List.{List}
use Prim.Native.Nat.{ℕ, ◌+◌, ◌≤◌, ◌<◌}
use native.Mathlib.Omega.{arith}
use lib.ListN.{length}
use Rattle.refusal.specs.Paper.{Outcome, taken, refused, then}
use Rattle.refusal.specs.Limits.{longest_piece}
use Rattle.refusal.specs.Parts.{bytes_at}
use Rattle.refusal.specs.declared.Part.{Part}
use Rattle.bencode.specs.Value.{Value}
use Rattle.hash_sha1.proofs.Steps.{agreement-whole}
use Rattle.bencode_fields.specs.Nth.{nth}
use Rattle.bencode_fields.proofs.Nth.{nth-within}
use Rattle.torrent_metainfo.specs.Reading.{read_of}
use Rattle.torrent_metainfo.specs.Hashes.{hashed_in, info_hash_of}
use Rattle.torrent_metainfo.proofs.Hashing.{info-hash}
use Rattle.torrent_metainfo.specs.declared.Torrent.{Torrent}
use Rattle.torrent_laws.proofs.Laws as torrent
use Rattle.torrent_contents.specs.Files as file
use Rattle.torrent_contents.specs.Pieces.{hash_part, hash_in, hash_of, piece_bytes_of, check_in, check_of}
use Rattle.torrent_contents.specs.declared.Entry.{Entry as FileEntry}
use Rattle.torrent_contents.proofs.Numbering as numbering
use Rattle.torrent_contents.proofs.Hashing.{hash-there, hash-beyond, check-beyond, check-long, check-outside, check-agreed}
use Rattle.refusal.proofs.Cases.{less-or, same_or}
use Rattle.refusal.proofs.Outcomes.{not-refused, same-refusal}
use Rattle.bencode_laws.proofs.Laws.{Numbered}
use Rattle.demands_laws.proofs.Refusals.{first_of, second-of, refusal_is, caused, at_zero, then-refused}
use Rattle.demands_laws.specs.Causes.{Unchecked, no-such-piece, long-piece, wrong-length}

torrent-number : (s : List ℕ) (n p : ℕ) → read_of s ≡ refused n p → n ≤ 13
torrent-number s n p e = ⊎_elim (λ (h : Numbered n). omega (arith, h.1)) (λ (h : (10 ≤ n) × (n ≤ 13)). h.1) (torrent.none_other s n p e)

-- ---- the hash of a piece

-- 31 exactly beyond the last
pub in-hash : (t : Torrent) (n k p : ℕ) → hash_in n t ≡ refused k p ↔ ((k ≡ 31) × (t.piece_count ≤ n) × (p ≡ 0))
in-hash t n k p = (
  λ e. less-or n t.piece_count
      (λ l. not-refused (hash-there n t l ∙ e))
      (λ l. let s = same-refusal {A = Part} (hash-beyond n t l ∙ e) in (sym s.0, l, sym s.1)),
  λ h. sym (hash-beyond n t h.1) ∙ refusal_is (sym h.0) (sym h.2),
)

pub hash-exactly : (s : List ℕ) (n p : ℕ) → hash_of s n ≡ refused 31 p ↔ ((t : Torrent) × (read_of s ≡ taken t) × (t.piece_count ≤ n) × (p ≡ 0))
hash-exactly s n p = Iff.trans (second-of (then-refused (read_of s) (hash_in n) 31 p) (λ h. let l = torrent-number s 31 p h in omega arith))
    (λ (t, e, h). let c = (in-hash t n 31 p).0 h in (t, e, c.1, c.2), λ (t, e, l, z). (t, e, (in-hash t n 31 p).1 (refl, l, z)))

pub hash-alike : (s : List ℕ) (n k p : ℕ) → (k ≡ 31 → ⊥) → hash_of s n ≡ refused k p ↔ read_of s ≡ refused k p
hash-alike s n k p l = first_of (then-refused (read_of s) (hash_in n) k p) (λ h. l ((in-hash h.0 n k p).0 h.2).0)

-- ---- the check of a piece

module _ (s : List ℕ) (t : Torrent) (n : ℕ) (m : List ℕ) where
  -- the piece that is there: its hash, and how many bytes it has
  abbrev hash : Part
  hash = hash_part n t.pieces

  abbrev size : ℕ
  size = piece_bytes_of t.content.total t.piece_length n

  every : (j : ℕ) → Unchecked t n m j → check_in s n m t ≡ refused j 0
  every j (no-such-piece l) = sym (check-beyond s n m t 31 0 (hash-beyond n t l))
  every j (long-piece l h) = sym (check-long s n m t hash (hash-there n t l) h)
  every j (wrong-length l h g) = sym (check-outside s n m t hash (hash-there n t l) h size refl g)

  module _ (k p : ℕ) (e : check_in s n m t ≡ refused k p) where
    by : {j : ℕ} → Unchecked t n m j → Unchecked t n m k × (p ≡ 0)
    by {j} c = caused (Unchecked t n m) (every j c) c e

    only : Unchecked t n m k × (p ≡ 0)
    only =
        less-or n t.piece_count
        (λ l. less-or longest_piece (length m) (λ h. by (long-piece l h)) (λ h. same_or (length m) size
        (λ g. not-refused (sym (agreement-whole m (bytes_at s hash) h) ∙ check-agreed s n m t hash (hash-there n t l) h size refl g (bytes_at s hash) refl ∙ e))
        (λ g. by (wrong-length l h g))))
        (λ l. by (no-such-piece l))

  in-check : (k p : ℕ) → check_in s n m t ≡ refused k p ↔ (Unchecked t n m k × (p ≡ 0))
  in-check k p = at_zero (only k p) (every k)

-- the torrent's refusal, or one of these
pub check-exactly : (s : List ℕ) (n : ℕ) (m : List ℕ) (k p : ℕ) → check_of s n m ≡ refused k p ↔ ((read_of s ≡ refused k p) ⊎ ((t : Torrent) × (read_of s ≡ taken t) × Unchecked t n m k × (p ≡ 0)))
check-exactly s n m k p = Iff.trans (then-refused (read_of s) (check_in s n m) k p) (
  ⊎_elim (λ (h : read_of s ≡ refused k p). inl h) (λ (h : (t : Torrent) × (read_of s ≡ taken t) × (check_in s n m t ≡ refused k p)). let c = (in-check s h.0 n m k p).0 h.2 in inr (h.0, h.1, c.0, c.1)),
  ⊎_elim (λ (h : read_of s ≡ refused k p). inl h) (λ (h : (t : Torrent) × (read_of s ≡ taken t) × Unchecked t n m k × (p ≡ 0)). inr (h.0, h.1, (in-check s h.0 n m k p).1 (h.2, h.3))),
)

-- of a number that no torrent is refused by
pub check-own : (s : List ℕ) (n : ℕ) (m : List ℕ) (k p : ℕ) → 14 ≤ k → check_of s n m ≡ refused k p ↔ ((t : Torrent) × (read_of s ≡ taken t) × Unchecked t n m k × (p ≡ 0))
check-own s n m k p l = second-of (check-exactly s n m k p) (λ h. let g = torrent-number s k p h in omega arith)

-- ---- a file by its number

module _ (s : List ℕ) (t : Torrent) (e : read_of s ≡ taken t) (n : ℕ) where
  entry-is : file.entry_of s n ≡ then (file.all_entries (numbering.value_of s t e).value t) (nth n)
  entry-is =
      let v = numbering.value_of s t e in
      ap (λ (o : Outcome Value). then o (file.entry_in n)) v.decoded ∙ ap (λ (o : Outcome Torrent). then o (λ t. then (file.all_entries v.value t) (nth n))) v.torrent

  entry-there : n < t.content.files → (x : FileEntry) × (file.entry_of s n ≡ taken x)
  entry-there l = go t.content.single refl
    where
      go : (b : Bool) → t.content.single ≡ b → (x : FileEntry) × (file.entry_of s n ≡ taken x)
      go true f = (file.single t, sym (numbering.number-only s t e n f l))
      go false f =
          let k = numbering.listed s t e n f in
          let m = numbering.entries-taken k.items (t.content.place + 1) 0 k.lengths k.taken-lengths in
          let y = nth-within n m.0 (omega (arith, m.2, k.files)) in
          (y.0, entry-is ∙ ap (λ (o : Outcome (List FileEntry)). then o (nth n)) (k.entries ∙ m.1) ∙ y.1)

pub file-exactly : (s : List ℕ) (n p : ℕ) → file.entry_of s n ≡ refused 31 p ↔ ((t : Torrent) × (read_of s ≡ taken t) × (t.content.files ≤ n) × (p ≡ 0))
file-exactly s n p = (λ e. go (read_of s) refl e, λ h. sym (numbering.number_past s h.0 h.1 n h.2) ∙ refusal_is refl (sym h.3))
  where
    go : (o : Outcome Torrent) → read_of s ≡ o → file.entry_of s n ≡ refused 31 p → (t : Torrent) × (read_of s ≡ taken t) × (t.content.files ≤ n) × (p ≡ 0)
    go (refused r q) f e =
        let z = same-refusal {A = FileEntry} (numbering.entry-refused s n r q (sym f) ∙ e) in
        let l = torrent-number s r q f in
        absurd (omega (arith, z.0))
    go (taken t) f e = less-or n t.content.files
        (λ l. let y = entry-there s t f n l in not-refused (sym y.1 ∙ e))
        (λ l. (t, f, l, sym (same-refusal {A = FileEntry} (numbering.number_past s t f n l ∙ e)).1))

pub file-alike : (s : List ℕ) (n k p : ℕ) → (k ≡ 31 → ⊥) → file.entry_of s n ≡ refused k p ↔ read_of s ≡ refused k p
file-alike s n k p l = (λ e. go (read_of s) refl e, λ h. sym (numbering.entry-refused s n k p (sym h)))
  where
    go : (o : Outcome Torrent) → read_of s ≡ o → file.entry_of s n ≡ refused k p → read_of s ≡ refused k p
    go (refused r q) f e = let z = same-refusal {A = FileEntry} (numbering.entry-refused s n r q (sym f) ∙ e) in f ∙ refusal_is z.0 z.1
    go (taken t) f e = less-or n t.content.files
        (λ h. let y = entry-there s t f n h in not-refused (sym y.1 ∙ e))
        (λ h. absurd (l (sym (same-refusal {A = FileEntry} (numbering.number_past s t f n h ∙ e)).0)))

-- ---- the info hash is refused as the torrent is

pub info_hash-alike : (s o : List ℕ) (k p : ℕ) → (info_hash_of s o).answer ≡ refused k p ↔ read_of s ≡ refused k p
info_hash-alike s o k p = go (read_of s) refl
  where
    go : (x : Outcome Torrent) → read_of s ≡ x → (info_hash_of s o).answer ≡ refused k p ↔ read_of s ≡ refused k p
    go (taken t) f = (λ e. not-refused (sym (ap (λ l. l.answer) (info-hash s o t f)) ∙ e), λ e. not-refused (sym f ∙ e))
    go (refused r q) f =
        let g : (info_hash_of s o).answer ≡ refused r q = ap (λ (x : Outcome Torrent). (hashed_in s o x).answer) f in
        (λ e. let z = same-refusal {A = Unit {0}} (sym g ∙ e) in f ∙ refusal_is z.0 z.1, λ e. let z = same-refusal {A = Torrent} (sym f ∙ e) in g ∙ refusal_is z.0 z.1)
