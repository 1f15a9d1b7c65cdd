-- The hashes of pieces and the check of a piece. Assumes nothing.
use Rattle.std.proofs.Common.{◌≡◌, refl, sym, ap, ◌∙◌, Bool, true, false, cond, List, [], ◌∷◌, ◌++◌, append_assoc, ℕ, ◌+◌, ◌*◌, ◌<◌, ◌≤◌, arith, ltb, leb, eqb, length, take, drop, length-append, length-drop, drop-drop, lt-ltb, le-ltb, ltb-true, le-leb, eq-eqb, ne_eqb, eqb-true}
use lib.Seq.{take-append-le, drop-append-le}
use borrow.Author.Tests.{lt-leb}
use Rattle.refusal.specs.Paper.{Outcome, taken, refused, then}
use Rattle.refusal.specs.Limits.{most_text, longest_piece}
use Rattle.refusal.specs.Parts.{bytes_at}
use Rattle.refusal.specs.declared.Part.{Part}
use Rattle.refusal.proofs.Outcomes.{then-taken}
use Rattle.bencode_scalar.specs.Written.{decimal}
use Rattle.bencode.specs.Value.{Value, str, encode}
use Rattle.bencode_walk.specs.Lookup.{under}
use Rattle.bencode_walk.proofs.Standing.{past, room}
use Rattle.torrent_blocks.specs.Rules.{sum}
use Rattle.torrent_blocks.specs.Spans.{joined_files, held_in}
use Rattle.torrent_blocks.proofs.Joined.{joined-held}
use Rattle.hash_sha1.specs.Sha1.{sha1}
use Rattle.hash_sha1.specs.Digest.{same, agreement_of}
use Rattle.hash_sha1.proofs.Same.{same_refl, same-equal, same_test}
use Rattle.torrent_metainfo.specs.Keys.{pieces_key}
use Rattle.torrent_metainfo.specs.Reading.{read_of}
use Rattle.torrent_metainfo.specs.declared.Torrent.{Torrent}
use Rattle.torrent_metainfo.proofs.Naming.{no_way}
use Rattle.torrent_contents.specs.Files.{in_info}
use Rattle.torrent_contents.specs.Pieces.{hash_part, hash_in, hash_of, piece_bytes_of, check_against, check_in, check_of, PieceCheck}
use Rattle.torrent_contents.proofs.Facts.{Facts}
use Rattle.torrent_contents.proofs.Numbering.{value_of}

-- ---- the hashes of a torrent that was taken

module _ (s : List ℕ) (v : Value) (t : Torrent) (f : Facts s v t) where
  abbrev head : List ℕ
  head = decimal (length f.bytes) ++ 58 ∷ []

  split : drop f.place s ≡ head ++ (f.bytes ++ f.pieces-stand.rest)
  unfolding encode
  split = f.pieces-stand.text ∙ append_assoc (decimal (length f.bytes)) (58 ∷ f.bytes) f.pieces-stand.rest ∙ sym (append_assoc (decimal (length f.bytes)) (58 ∷ []) (f.bytes ++ f.pieces-stand.rest))

  from_is : t.pieces.from ≡ f.place + length head
  from_is = ap (λ (x : Part). x.from) f.pieces-part ∙ omega (arith, length-append (decimal (length f.bytes)) (58 ∷ []))

  begins : drop t.pieces.from s ≡ f.bytes ++ f.pieces-stand.rest
  begins = ap (λ (i : ℕ). drop i s) from_is ∙ past s f.place head (f.bytes ++ f.pieces-stand.rest) split

  as_many : length f.bytes ≡ 20 * t.piece_count
  as_many = sym (ap (λ (x : Part). x.len) f.pieces-part) ∙ f.hashes

  hashes-inside : t.pieces.from + 20 * t.piece_count ≤ most_text
  hashes-inside =
      let r = room s f.place head (f.bytes ++ f.pieces-stand.rest) f.pieces-stand.inside split in
      omega (arith, as_many, from_is, ap length begins, length-append f.bytes f.pieces-stand.rest, length-drop t.pieces.from s, f.short)

  hash-bytes : (n : ℕ) → n < t.piece_count → bytes_at s (hash_part n t.pieces) ≡ take 20 (drop (20 * n) f.bytes)
  hash-bytes n h =
      let a : 20 * n ≤ length f.bytes = omega (arith, as_many) in
      let b : 20 ≤ length (drop (20 * n) f.bytes) = omega (arith, as_many, length-drop (20 * n) f.bytes) in
      ap (take 20) (sym (drop-drop (20 * n) t.pieces.from s) ∙ ap (drop (20 * n)) begins ∙ drop-append-le (20 * n) f.bytes f.pieces-stand.rest a)
      ∙ take-append-le 20 (drop (20 * n) f.bytes) f.pieces-stand.rest b

-- ---- what the functions need

module _ (s : List ℕ) (t : Torrent) (e : read_of s ≡ taken t) where
  pub inside-text : t.pieces.from + 20 * t.piece_count ≤ most_text
  inside-text = let h = value_of s t e in hashes-inside s h.value t h.known

  pub piece-fits : t.piece_length ≤ longest_piece
  piece-fits = (value_of s t e).known.piece

-- the hash of piece n is the 20 bytes from 20 n on of the string under pieces
pub record Hashed (s : List ℕ) (t : Torrent) (n : ℕ) : Type 0 where
  pub value : Value
  pub place : ℕ
  pub bytes : List ℕ
  pub found : in_info value pieces_key ≡ under place (str bytes)
  pub hash : bytes_at s (hash_part n t.pieces) ≡ take 20 (drop (20 * n) bytes)
  pub all : length bytes ≡ 20 * t.piece_count

pub piece-hash : (s : List ℕ) (t : Torrent) (n : ℕ) → read_of s ≡ taken t → n < t.piece_count → Hashed s t n
piece-hash s t n e h =
    let x = value_of s t e in
    let f = x.known in
    record { value = x.value; place = f.place; bytes = f.bytes; found = f.under-pieces; hash = hash-bytes s x.value t f n h; all = as_many s x.value t f }

-- a piece has the bytes of files in it, by the blocks' reckoning
pub piece_bytes : (ns : List ℕ) (pl n : ℕ) → piece_bytes_of (sum ns) pl n ≡ held_in (joined_files ns) pl n
piece_bytes ns pl n = sym (joined-held ns pl n)

-- ---- as the code goes

pub hash-beyond : (n : ℕ) (t : Torrent) → t.piece_count ≤ n → refused 31 0 ≡ hash_in n t
hash-beyond n t h = rw (le-ltb n t.piece_count h)

pub hash-there : (n : ℕ) (t : Torrent) → n < t.piece_count → taken (hash_part n t.pieces) ≡ hash_in n t
hash-there n t h = rw (lt-ltb n t.piece_count h)

module _ (s : List ℕ) (n : ℕ) (m : List ℕ) (t : Torrent) where
  pub check-beyond : (r o : ℕ) → refused r o ≡ hash_in n t → refused r o ≡ check_in s n m t
  check-beyond r o e = ap (λ (x : Outcome Part). then x (check_against s n m t)) e

  module _ (x : Part) (e : taken x ≡ hash_in n t) where
    against : check_against s n m t x ≡ check_in s n m t
    against = ap (λ (y : Outcome Part). then y (check_against s n m t)) e

    pub check-long : longest_piece < length m → refused 8 0 ≡ check_in s n m t
    check-long h = sym (rw (lt-leb (length m) longest_piece h)) ∙ against

    module _ (h : length m ≤ longest_piece) where
      pub check-outside : (k : ℕ) → k ≡ piece_bytes_of t.content.total t.piece_length n → (length m ≡ k → ⊥) → refused 34 0 ≡ check_in s n m t
      check-outside k i g = sym (rw (le-leb (length m) longest_piece h, ne_eqb (length m) (piece_bytes_of t.content.total t.piece_length n) (λ j. g (j ∙ sym i)))) ∙ against

      pub check-agreed : (k : ℕ) → k ≡ piece_bytes_of t.content.total t.piece_length n → length m ≡ k → (l : List ℕ) → l ≡ bytes_at s x → agreement_of m l ≡ check_in s n m t
      unfolding agreement_of
      check-agreed k i g l j =
          rw (le-leb (length m) longest_piece h)
          (ap (λ (y : List ℕ). taken (same (sha1 m) y)) j ∙ sym (rw (le-leb (length m) longest_piece h, eq-eqb (length m) (piece_bytes_of t.content.total t.piece_length n) (g ∙ i))) ∙ against)

pub hash-refused : (s : List ℕ) (n r o : ℕ) → refused r o ≡ read_of s → refused r o ≡ hash_of s n
hash-refused s n r o e = ap (λ (x : Outcome Torrent). then x (hash_in n)) e

pub check-refused : (s : List ℕ) (n : ℕ) (m : List ℕ) (r o : ℕ) → refused r o ≡ read_of s → refused r o ≡ check_of s n m
check-refused s n m r o e = ap (λ (x : Outcome Torrent). then x (check_in s n m)) e

pub hash-read : (s : List ℕ) (n : ℕ) (t : Torrent) → read_of s ≡ taken t → hash_in n t ≡ hash_of s n
hash-read s n t e = sym (ap (λ (x : Outcome Torrent). then x (hash_in n)) e)

pub check-read : (s : List ℕ) (n : ℕ) (m : List ℕ) (t : Torrent) → read_of s ≡ taken t → check_in s n m t ≡ check_of s n m
check-read s n m t e = sym (ap (λ (x : Outcome Torrent). then x (check_in s n m)) e)

-- ---- piece-check

module _ (s : List ℕ) (n : ℕ) (m : List ℕ) where
  abbrev held : Torrent → ℕ
  held t = piece_bytes_of t.content.total t.piece_length n

  answers : (t : Torrent) → read_of s ≡ taken t → n < t.piece_count → length m ≡ held t → check_of s n m ≡ taken (same (sha1 m) (bytes_at s (hash_part n t.pieces)))
  answers t e h l =
      let p = piece-fits s t e in
      let b : length m ≤ longest_piece = omega arith in
      sym (check-read s n m t e) ∙ rw (lt-ltb n t.piece_count h, le-leb (length m) longest_piece b, eq-eqb (length m) (held t) l)

  no_same : (x y : List ℕ) → (x ≡ y → ⊥) → same x y ≡ false
  no_same x y h = sym (same_test x y false (λ e. no_way (cc)) (λ e. absurd (h e)))

  only : check_of s n m ≡ taken true → (t : Torrent) × (read_of s ≡ taken t) × (n < t.piece_count) × (length m ≡ held t) × (sha1 m ≡ bytes_at s (hash_part n t.pieces))
  only e =
      let x = then-taken (read_of s) (check_in s n m) true e in
      let t = x.0 in
      let y = tested (ltb n t.piece_count) (taken (hash_part n t.pieces)) 31 (check_against s n m t) x.2 in
      let z = provided (leb (length m) longest_piece) 8 (cond (eqb (length m) (held t)) (taken (same (sha1 m) (bytes_at s (hash_part n t.pieces)))) (refused 34 0)) y.1 in
      let w = provided (eqb (length m) (held t)) 34 (taken (same (sha1 m) (bytes_at s (hash_part n t.pieces)))) z.1 in
      let g : same (sha1 m) (bytes_at s (hash_part n t.pieces)) ≡ true = cc in
      (t, x.1, ltb-true n t.piece_count y.0, eqb-true (length m) (held t) w.0, same-equal (sha1 m) (bytes_at s (hash_part n t.pieces)) g)
    where
      provided : (b : Bool) (r : ℕ) (o : Outcome Bool) → cond b o (refused r 0) ≡ taken true → (b ≡ true) × (o ≡ taken true)
      provided true r o e = (refl, e)
      provided false r o e = no_way (cc)

      tested : (b : Bool) (o : Outcome Part) (r : ℕ) (g : Part → Outcome Bool) → then (cond b o (refused r 0)) g ≡ taken true → (b ≡ true) × (then o g ≡ taken true)
      tested true o r g e = (refl, e)
      tested false o r g e = no_way (cc)

  pub piece-check : PieceCheck s n m (check_of s n m)
  piece-check = record {
    only = only;
    every = λ t e h l d. answers t e h l ∙ ap taken (ap (same (sha1 m)) (sym d) ∙ same_refl (sha1 m));
    other = λ t e h l d. answers t e h l ∙ ap taken (no_same (sha1 m) (bytes_at s (hash_part n t.pieces)) d);
  }
