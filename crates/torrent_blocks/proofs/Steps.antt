-- What one turn of a loop over the files does. Assumes nothing.
use mathlib.Core.Path.{◌≡◌, refl, sym, ap, ◌∙◌}
use mathlib.Core.Logic.{⊎_elim}
use mathlib.Core.List.{List, [], ◌∷◌, ◌++◌}
use Prim.Native.Nat.{ℕ, zero, suc, ◌+◌, ◌-◌, ◌^◌, ◌≤◌, ◌<◌, min, max}
use native.Mathlib.Omega.{arith}
use native.Mathlib.Numerals.{add-one}
use lib.ListN.{length, get_or, take, drop, drop_of_length-le}
use lib.Seq.{drop-cons, sets}
use Rattle.refusal.proofs.Places.{sets-append}
use Rattle.refusal.proofs.Cases.{lt-or-le}
use Rattle.torrent_blocks.specs.Rules.{sum, largest}
use Rattle.torrent_blocks.specs.Spans.{Span, FilePart, span, part, cut, low, high, parts_from, joined_from, joined_files}
use Rattle.torrent_blocks.specs.Steps.{files_from, total_from, Split, parts_in}
use Rattle.torrent_blocks.specs.declared.parts.File.{File}
use Rattle.torrent_blocks.specs.declared.parts.Files.{Files}
use Rattle.torrent_blocks.specs.Answers.{flat}
use Rattle.torrent_blocks.proofs.Covering.{cut-some, cut-none, empty-from}
use Rattle.torrent_blocks.proofs.Joined.{joined-count, joined-ordered}

-- ---- sums

pub sum-append : (a b : List ℕ) → sum (a ++ b) ≡ sum a + sum b
unfolding sum
sum-append [] b = omega arith
sum-append (n ∷ a) b = omega (arith, sum-append a b)

pub sum-parts : (l : List ℕ) (i : ℕ) → sum (take i l) + sum (drop i l) ≡ sum l
unfolding sum
sum-parts l zero = omega arith
sum-parts [] (suc i) = refl
sum-parts (n ∷ l) (suc i) = omega (arith, sum-parts l i)

module _ (l : List ℕ) (i : ℕ) (h : i < length l) where
  sum_step : sum (drop i l) ≡ get_or l i 0 + sum (drop (i + 1) l)
  unfolding sum
  sum_step = rw (add-one, drop-cons l i 0 h)

  pub before-step : sum (take (i + 1) l) ≡ sum (take i l) + get_or l i 0
  before-step = omega (arith, sum-parts l i, sum-parts l (i + 1), sum_step)

-- ---- parts

-- past bytes that 64 bits can number, it does not matter where a file starts
capped : (k a : ℕ) (ns : List ℕ) (from to : ℕ) → to ≤ largest → parts_from k (joined_from (min a largest) ns) from to ≡ parts_from k (joined_from a ns) from to
capped k a ns from to h =
    ⊎_elim
    (λ (l : largest < a).
    empty-from from to k (min a largest) (joined_from (min a largest) ns) (joined-ordered (min a largest) ns) (omega arith)
    ∙ sym (empty-from from to k a (joined_from a ns) (joined-ordered a ns) (omega arith)))
    (λ (l : a ≤ largest). let e : min a largest ≡ a = omega arith in ap (λ (x : ℕ). parts_from k (joined_from x ns) from to) e)
    (lt-or-le largest a)

-- a file that starts at a and has n bytes, before others
module _ (k a n : ℕ) (ns : List ℕ) (e from to : ℕ) (q : e ≡ min (a + n) largest) (m : to ≤ largest) where
  parts-step : parts_from k (joined_from a (n ∷ ns)) from to ≡ cut k (span a n) from to (parts_from (k + 1) (joined_from e ns) from to)
  unfolding parts_from joined_from
  parts-step = rw (q, capped (k + 1) (a + n) ns from to m, add-one)

  pub parts-some : max from a < min to e
      → parts_from k (joined_from a (n ∷ ns)) from to ≡ part k (max from a - a) (min to e - max from a) ∷ parts_from (k + 1) (joined_from e ns) from to
  parts-some g =
      let d : min to (a + n) ≡ min to e = omega arith in
      parts-step ∙ cut-some k (span a n) from to (parts_from (k + 1) (joined_from e ns) from to) (omega arith) ∙ rw d

  pub parts_none : min to e ≤ max from a → parts_from k (joined_from a (n ∷ ns)) from to ≡ parts_from (k + 1) (joined_from e ns) from to
  parts_none g =
      let d : min to (a + n) ≡ min to e = omega arith in
      parts-step ∙ cut-none k (span a n) from to (parts_from (k + 1) (joined_from e ns) from to) (omega arith)

-- no file is left, or the first starts past the bytes
module _ (f : Files) (from to : ℕ) where
  pub parts-end : f.lengths.now ≡ [] → parts_in f from to ≡ []
  unfolding parts_from joined_from
  parts-end h = rw h

  pub parts-past : to ≤ f.start.0 → parts_in f from to ≡ []
  parts-past h = empty-from from to f.number f.start.0 (files_from f) (joined-ordered f.start.0 f.lengths.now) h

-- the first of some files
module _ (f : Files) (x : File) (r : Files) (s : Split f x r) where
  pub split-total : total_from r ≡ total_from f
  unfolding sum
  split-total = rw (s.lengths, s.ends, s.end) (omega arith)

  module _ (from to : ℕ) (m : to ≤ largest) where
    pub split-some : max from x.start.0 < min to x.end.0
        → parts_in f from to ≡ part x.number (max from x.start.0 - x.start.0) (min to x.end.0 - max from x.start.0) ∷ parts_in r from to
    split-some g =
        rw (s.lengths, s.next, s.ends, s.number, s.start)
        (parts-some f.number f.start.0 s.size r.lengths.now x.end.0 from to s.end m (omega (arith, s.start)))

    pub split_none : min to x.end.0 ≤ max from x.start.0 → parts_in f from to ≡ parts_in r from to
    split_none g =
        rw (s.lengths, s.next, s.ends) (parts_none f.number f.start.0 s.size r.lengths.now x.end.0 from to s.end m (omega (arith, s.start)))

-- the files passed have no bytes from `from` on
pub record Sought (l : List ℕ) (from k a : ℕ) (ns : List ℕ) : Type 0 where
  pub numbered : k + length ns < 2 ^ 64
  pub total : min (a + sum ns) largest ≡ min (sum l) largest
  pub parts : (to : ℕ) → to ≤ largest → parts_from k (joined_from a ns) from to ≡ parts_from 0 (joined_files l) from to

module _ (l : List ℕ) (from : ℕ) where
  pub sought-more : (f : Files) (x : File) (r : Files) → Split f x r → Sought l from f.number f.start.0 f.lengths.now → x.end.0 ≤ from → Sought l from r.number r.start.0 r.lengths.now
  sought-more f x r d s h =
      record {
        numbered = r.numbered;
        total = split-total f x r d ∙ s.total;
        parts = λ to m. sym (split_none f x r d from to m (omega arith)) ∙ s.parts to m;
      }

-- there are no more parts than files
pub few-parts : (k : ℕ) (ss : List Span) (from to : ℕ) → length (parts_from k ss from to) ≤ length ss
unfolding parts_from
few-parts k [] from to = omega arith
few-parts k (s ∷ ss) from to =
    let d = few-parts (suc k) ss from to in
    ⊎_elim
    (λ (l : low s from < high s to). omega (arith, ap length (cut-some k s from to (parts_from (suc k) ss from to) l)))
    (λ (l : high s to ≤ low s from). omega (arith, ap length (cut-none k s from to (parts_from (suc k) ss from to) l)))
    (lt-or-le (low s from) (high s to))

module _ (f : Files) (from to : ℕ) where
  pub parts-few : length (parts_in f from to) ≤ length f.lengths.now
  parts-few = omega (arith, few-parts f.number (files_from f) from to, joined-count f.start.0 f.lengths.now)

  pub parts-fit : length (parts_in f from to) < 2 ^ 64
  parts-fit = omega (arith, parts-few, f.numbered)

-- ---- the total, file by file

pub total-start : (l : List ℕ) (t : ℕ) → t ≡ t + sum (take 0 l)
unfolding sum
total-start l t = omega arith

pub total-done : (l : List ℕ) (i t a : ℕ) → length l ≤ i → a ≡ t + sum (take i l) → a ≤ largest → a ≡ min (t + sum l) largest
unfolding sum
total-done l i t a h e m = let d : sum (drop i l) ≡ 0 = ap sum (drop_of_length-le l h) in omega (arith, sum-parts l i)

-- a is the total with the files before number i, which has n bytes
module _ (l : List ℕ) (i t a n : ℕ) (h : i < length l) (e : a ≡ t + sum (take i l)) (q : n ≡ get_or l i 0) where
  pub total-next : a + n ≡ t + sum (take (i + 1) l)
  total-next = omega (arith, before-step l i h)

  pub total-past : largest < a + n → largest ≡ min (t + sum l) largest
  total-past g = omega (arith, before-step l i h, sum-parts l (i + 1))

-- ---- the output

-- what is written part by part is written at once
pub writes-one : (out : List ℕ) (at : ℕ) (p : FilePart) (ps : List FilePart) → sets out at (flat (p ∷ ps)) ≡ sets (sets out at (p.file ∷ p.offset ∷ p.size ∷ [])) (at + 3) (flat ps)
unfolding flat
writes-one out at p ps = sets-append out at (p.file ∷ p.offset ∷ p.size ∷ []) (flat ps)

pub writes_none : (out : List ℕ) (at : ℕ) (ps : List FilePart) → ps ≡ [] → sets out at (flat ps) ≡ out
unfolding flat
writes_none out at ps e = rw e
