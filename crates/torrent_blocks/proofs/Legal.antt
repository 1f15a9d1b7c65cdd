-- The number rules: what their tests say, and that the code's tests are these. Assumes nothing.
use mathlib.Core.Path.{◌≡◌, refl, ap, ◌∙◌}
use mathlib.Core.Bool.{Bool, true, false, ◌&&◌, ◌||◌, and-false, or-true}
use mathlib.Core.Logic.{◌⊎◌, inl, inr, ⊎_elim}
use mathlib.Core.List.{List, [], ◌∷◌}
use Prim.Native.Nat.{ℕ, zero, suc, ◌+◌, ◌-◌, ◌*◌, ◌/◌, ◌%◌, ◌^◌, ◌≤◌, ◌<◌, min}
use native.Mathlib.Omega.{arith}
use native.Mathlib.Nat.{suc-mul, div-zero, mod-zero, div-lt_iff_lt-mul, le-div_iff_mul-le, mul-le-mul}
use lib.Dec.{leb, eqb}
use lib.ListN.{length, get_or}
use lib.Pow.{pow_mono}
use borrow.Author.Tests.{eqb-true, eq-eqb, le-leb, lt-leb, leb-true}
use Rattle.refusal.specs.Limits.{longest_file, longest_piece, shortest_piece, most_files, most_pieces}
use Rattle.refusal.proofs.Cases.{cannot, lt-or-le, both, or_cases}
use Rattle.torrent_blocks.specs.Numberings.{widest, content_offset, piece_number, piece_offset}
use Rattle.torrent_blocks.specs.Rules.{power_from, piece_length_of, file_length, file_count, pieces_of, total_and, largest, sum, file_lengths, lawful, PieceLength, Lawful}

-- ---- a piece length is a power of two

power-is : (more k n : ℕ) → power_from more k n ≡ true → (e : ℕ) × (k ≤ e) × (e < k + more) × (n ≡ 2 ^ e)
unfolding power_from
power-is zero k n h = cannot false refl h
power-is (suc more) k n h =
    ⊎_elim (λ d. (k, omega arith, omega arith, eqb-true n (2 ^ k) d))
    (λ d. let r = power-is more (suc k) n d in (r.0, omega arith, omega arith, r.3))
    (or_cases (eqb n (2 ^ k)) (power_from more (suc k) n) h)

is-power : (more k n e : ℕ) → k ≤ e → e < k + more → n ≡ 2 ^ e → power_from more k n ≡ true
unfolding power_from
is-power zero k n e l h q = absurd (omega arith)
is-power (suc more) k n e l h q =
    ⊎_elim
    (λ i. ap (λ (t : Bool). eqb n (2 ^ k) || t) (is-power more (suc k) n e i (omega arith) q) ∙ or-true (eqb n (2 ^ k)))
    (λ i. let d : e ≡ k = omega arith in rw (eq-eqb n (2 ^ k) (q ∙ ap (λ (x : ℕ). 2 ^ x) d)))
    (lt-or-le k e)

module _ (n : ℕ) where
  pub piece-length-is : piece_length_of n ≡ true → PieceLength n
  piece-length-is h = let r = power-is 11 14 n h in record { exponent = r.0; low = r.1; high = omega arith; power = r.3 }

  pub is-piece-length : PieceLength n → piece_length_of n ≡ true
  is-piece-length h = is-power 11 14 n h.exponent h.low (omega (arith, h.high)) h.power

  -- and lies within the paper's bounds
  pub piece-bounds : PieceLength n → (shortest_piece ≤ n) × (n ≤ longest_piece)
  piece-bounds h =
      let e = h.power in
      (omega (arith, pow_mono {i = 14} {j = h.exponent} h.low), omega (arith, pow_mono {i = h.exponent} {j = 24} h.high))

-- ---- pieces

module _ (t pl : ℕ) (h : 0 < pl) where
  -- a piece is one exactly where it starts inside the content
  pub starts-inside : (p : ℕ) → p < pieces_of t pl → p * pl < t
  starts-inside p l = let e = (le-div_iff_mul-le {k = pl} {x = suc p} {y = t + (pl - 1)} h).0 l in omega (arith, suc-mul p pl)

  pub is-piece : (p : ℕ) → p * pl < t → p < pieces_of t pl
  is-piece p l = (le-div_iff_mul-le {k = pl} {x = suc p} {y = t + (pl - 1)} h).1 (omega (arith, suc-mul p pl))

  pub few-pieces : pieces_of t pl ≤ most_pieces → t ≤ 16384 * pl
  few-pieces l = let e = (div-lt_iff_lt-mul {k = pl} {x = t + (pl - 1)} {y = 16385} h).0 (omega arith) in omega arith

-- ---- all rules

files-each : (ns : List ℕ) → file_lengths ns ≡ true → (i : ℕ) → get_or ns i 0 ≤ longest_file
unfolding file_lengths
files-each [] h i = omega arith
files-each (n ∷ ns) h zero = leb-true n longest_file (both (file_length n) (file_lengths ns) h).0
files-each (n ∷ ns) h (suc i) = files-each ns (both (file_length n) (file_lengths ns) h).1 i

each-files : (ns : List ℕ) → ((i : ℕ) → get_or ns i 0 ≤ longest_file) → file_lengths ns ≡ true
unfolding file_lengths
each-files [] h = refl
each-files (n ∷ ns) h = rw (le-leb n longest_file (h 0)) (each-files ns (λ i. h (suc i)))

-- no file is longer than all are together
each-most : (ns : List ℕ) (i : ℕ) → get_or ns i 0 ≤ sum ns
unfolding sum
each-most [] i = omega arith
each-most (n ∷ ns) zero = omega arith
each-most (n ∷ ns) (suc i) = omega (arith, each-most ns i)

module _ (pl : ℕ) (ns : List ℕ) (k : ℕ) where
  -- the tests hold exactly where the rules do
  pub lawful-is : lawful pl ns k ≡ true → Lawful pl ns k
  unfolding lawful
  lawful-is h =
      let a = both (piece_length_of pl) (file_count (length ns) && (file_lengths ns && total_and (sum ns) k)) h in
      let b = both (file_count (length ns)) (file_lengths ns && total_and (sum ns) k) a.1 in
      let c = both (leb 1 (length ns)) (leb (length ns) most_files) b.0 in
      let d = both (file_lengths ns) (total_and (sum ns) k) b.1 in
      let e = both (leb 1 (sum ns)) (leb k most_pieces) d.1 in
      record {
        piece = piece-length-is pl a.0;
        one = leb-true 1 (length ns) c.0;
        few = leb-true (length ns) most_files c.1;
        files = files-each ns d.0;
        some = leb-true 1 (sum ns) e.0;
        most = leb-true k most_pieces e.1;
      }

  pub is_lawful : Lawful pl ns k → lawful pl ns k ≡ true
  unfolding lawful
  is_lawful h =
      rw (is-piece-length pl h.piece, le-leb 1 (length ns) h.one, le-leb (length ns) most_files h.few, each-files ns h.files, le-leb 1 (sum ns) h.some, le-leb k most_pieces h.most)

-- the code's tests: a file that is too long makes the total too large
pub tests-are : (pl : ℕ) (ns : List ℕ) (total : ℕ) → total ≡ min (sum ns) largest
    → piece_length_of pl && (file_count (length ns) && total_and total (pieces_of total pl)) ≡ lawful pl ns (pieces_of (sum ns) pl)
unfolding lawful
tests-are pl ns total e = by (piece_length_of pl) refl
  where
    Same : Bool → Type 0
    Same t = t && (file_count (length ns) && total_and total (pieces_of total pl)) ≡ t && (file_count (length ns) && (file_lengths ns && total_and (sum ns) (pieces_of (sum ns) pl)))

    large : (x : ℕ) → PieceLength pl → longest_file < x → leb (pieces_of x pl) most_pieces ≡ false
    large x h l =
        let b = piece-bounds pl h in
        lt-leb (pieces_of x pl) most_pieces (is-piece x pl (omega arith) most_pieces (omega arith))

    under : PieceLength pl → (longest_file < sum ns) ⊎ (sum ns ≤ longest_file) → Same true
    under h (inl l) =
        rw (large total h (omega arith), large (sum ns) h l, and-false (leb 1 total), and-false (leb 1 (sum ns)), and-false (file_lengths ns))
    under h (inr l) =
        let q : total ≡ sum ns = omega arith in
        rw (q, each-files ns (λ i. omega (arith, each-most ns i)))

    by : (t : Bool) → piece_length_of pl ≡ t → Same t
    by false d = refl
    by true d = under (piece-length-is pl d) (lt-or-le longest_file (sum ns))

-- ---- a piece's start

-- the product of a number of 32 bits and a piece length
pub product : (p pl : ℕ) → p < 2 ^ 32 → pl ≤ 2 ^ 24 → p * pl + 2 ^ 32 < 2 ^ 57
product p pl h l = let e : p * pl ≤ (2 ^ 32 - 1) * 2 ^ 24 = mul-le-mul {n₂ = 2 ^ 32 - 1} {m₂ = 2 ^ 24} (omega arith) (omega arith) in omega arith

-- ---- the three numberings

module _ (pl p o : ℕ) where
  -- of a number of 32 bits and a piece length it is what it says
  pub offset-exact : {r : ℕ} → pl ≤ 2 ^ 24 → p < 2 ^ 32 → o < 2 ^ 32 → r ≡ content_offset pl p o → (r ≡ p * pl + o) × (r < 2 ^ 57)
  offset-exact h i j e = let q = product p pl i h in (omega arith, omega arith)

pub number-none : (pl x : ℕ) → pl ≡ 0 → 0 ≡ piece_number pl x
number-none pl x e = let z : x / pl ≡ 0 = ap (λ (y : ℕ). x / y) e ∙ div-zero x in omega arith

pub rest-none : (pl x r : ℕ) → pl ≡ 0 → r ≡ min x widest → r ≡ piece_offset pl x
rest-none pl x r e h = let z : x % pl ≡ x = ap (λ (y : ℕ). x % y) e ∙ mod-zero x in omega arith
