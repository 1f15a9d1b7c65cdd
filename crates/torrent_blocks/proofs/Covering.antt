-- The parts of some bytes are these bytes, once each and in order, over any files that are in order. Assumes nothing.
use mathlib.Core.Path.{◌≡◌, refl, sym, ap, ◌∙◌}
use mathlib.Core.Logic.{◌⊎◌, inl, inr, ⊎_elim}
use mathlib.Core.List.{List, [], ◌∷◌, ◌++◌}
use Prim.Native.Nat.{ℕ, zero, suc, ◌+◌, ◌-◌, ◌≤◌, ◌<◌, max}
use native.Mathlib.Omega.{arith}
use native.Mathlib.Nat.{zero-add, suc-add, add-suc, add-zero}
use native.Mathlib.Numerals.{add-one}
use borrow.Author.Tests.{lt-ltb, le-ltb}
use lib.ListN.{length, get_or, drop, length-drop}
use lib.Seq.{get_or-drop, drop-drop}
use Rattle.refusal.proofs.Cases.{lt-or-le}
use Rattle.torrent_blocks.specs.Spans.{Span, FilePart, part, low, high, cut, parts_from, parts_of, nowhere}
use Rattle.torrent_blocks.specs.Covers.{run, places_of, Neat, Ordered, InSome}

pub run-split : (a m n : ℕ) → run a (m + n) ≡ run a m ++ run (a + m) n
unfolding run
run-split a zero n = rw (zero-add, add-zero)
run-split a (suc m) n = rw (suc-add, add-suc, ← suc-add) (ap (λ (l : List ℕ). a ∷ l) (run-split (suc a) m n))

run_none : (a n : ℕ) → n ≡ 0 → run a n ≡ []
unfolding run
run_none a n e = rw e

-- one file's overlap, or none
module _ (k : ℕ) (s : Span) (from to : ℕ) (rest : List FilePart) where
  pub cut-some : low s from < high s to → cut k s from to rest ≡ part k (low s from - s.start) (high s to - low s from) ∷ rest
  cut-some h = rw (lt-ltb _ _ h)

  pub cut-none : high s to ≤ low s from → cut k s from to rest ≡ rest
  cut-none h = rw (le-ltb _ _ h)

-- the files from number k on, as a part of all
module _ (all : List Span) (k : ℕ) (s : Span) (ss : List Span) (e : drop k all ≡ s ∷ ss) where
  here : get_or all k nowhere ≡ s
  here = sym (get_or-drop k all 0 nowhere ∙ ap (λ (n : ℕ). get_or all n nowhere) (add-zero k)) ∙ ap (λ (l : List Span). get_or l 0 nowhere) e

  there : drop (suc k) all ≡ ss
  there = rw (← add-one) (sym (drop-drop 1 k all) ∙ ap (drop 1) e)

  inside : k < length all
  inside = omega (arith, simp length-drop at (ap length e))

past : (b : ℕ) (ss : List Span) (x : ℕ) → Ordered b ss → InSome ss x → b ≤ x
unfolding Ordered InSome
past b [] x o h = absurd h
past b (s ∷ ss) x o (inl h) = omega arith
past b (s ∷ ss) x o (inr h) = omega (arith, past (s.start + s.size) ss x o.1 h)

-- two runs are the same: as long, and at one place unless empty
run-same : (a b n m : ℕ) → n ≡ m → (0 < n → a ≡ b) → run a n ≡ run b m
run-same a b n m e h =
    ⊎_elim (λ l. ap (λ (x : ℕ). run x n) (h l) ∙ ap (run b) e) (λ z. run_none a n (omega arith) ∙ sym (run_none b m (omega arith)))
    (lt-or-le 0 n)

-- a file's overlap l..h, and what is left of it up to `to` from m on
joined : (p a l h m to : ℕ) → p ≡ l → a ≡ l → l < h → h ≤ to → (h < to → m ≡ h) → (to ≤ h → to ≤ m)
    → run a (h - l) ++ run m (to - m) ≡ run p (to - p)
joined p a l h m to e f lt le g z =
    let r : run m (to - m) ≡ run (l + (h - l)) (to - h) =
    ⊎_elim (λ i. let q = g i in run-same m (l + (h - l)) (to - m) (to - h) (omega arith) (omega arith))
    (λ i. let q = z i in run-same m (l + (h - l)) (to - m) (to - h) (omega arith) (omega arith)) (lt-or-le h to) in
    rw (r, f) (sym (run-split l (h - l) (to - h)) ∙ run-same l p (h - l + (to - h)) (to - p) (omega arith) (omega arith))

-- the first byte left of a block, which lies in s or past its end, is where s's overlap begins
first-left : (s : Span) (b from to : ℕ) → low s from < high s to → b ≤ s.start
    → ((low s from ≤ max from b) × (max from b < high s to)) ⊎ (s.start + s.size ≤ max from b) → max from b ≡ low s from
first-left s b from to l o (inl i) = omega arith
first-left s b from to l o (inr i) = omega arith

module _ (all : List Span) (from to : ℕ) where
  -- the bytes of from..to at b or later are covered, if each lies in a file
  covers-from : (k : ℕ) (ss : List Span) → drop k all ≡ ss → (b : ℕ) → Ordered b ss
      → ((x : ℕ) → from ≤ x → b ≤ x → x < to → InSome ss x)
      → places_of all (parts_from k ss from to) ≡ run (max from b) (to - max from b)
  unfolding parts_from Ordered InSome places_of
  covers-from k [] e b o h =
      ⊎_elim (λ l. absurd (h (max from b) (omega arith) (omega arith) l)) (λ l. sym (run_none _ _ (omega arith))) (lt-or-le (max from b) to)
  covers-from k (s ∷ ss) e b o h =
      let rest = covers-from (suc k) ss (there all k s ss e) (s.start + s.size) o.1
      (λ x f g l. ⊎_elim (λ i. absurd (omega arith)) (λ i. i) (h x f (omega arith) l)) in
      -- the first byte left lies in s, or past its end
      let first : max from b < to → ((low s from ≤ max from b) × (max from b < high s to)) ⊎ (s.start + s.size ≤ max from b) =
      λ l. ⊎_elim (λ i. inl (omega arith, omega arith)) (λ i. inr (past _ ss _ o.1 i)) (h (max from b) (omega arith) (omega arith) l) in
      ⊎_elim
      (λ l. rw (cut-some k s from to (parts_from (suc k) ss from to) l, here all k s ss e, rest)
      (joined (max from b) (s.start + (low s from - s.start)) (low s from) (high s to) (max from (s.start + s.size)) to (first-left s b from to l o.0 (first (omega arith))) (omega arith) l (omega arith) (omega arith) (omega arith)))
      (λ g. rw (cut-none k s from to (parts_from (suc k) ss from to) g, rest)
      (⊎_elim
      (λ l. ⊎_elim (λ i. absurd (omega arith)) (λ i. run-same _ _ _ _ (omega arith) (omega arith)) (first l))
      (λ l. run-same _ _ _ _ (omega arith) (omega arith))
      (lt-or-le (max from b) to)))
      (lt-or-le (low s from) (high s to))

  -- files that start nowhere inside another, and a block each of whose bytes lies in a file
  pub covers : Ordered 0 all → ((x : ℕ) → from ≤ x → x < to → InSome all x) → places_of all (parts_from 0 all from to) ≡ run from (to - from)
  covers o h = covers-from 0 all refl 0 o (λ x f g l. h x f l) ∙ run-same _ _ _ _ (omega arith) (omega arith)

  -- no part is empty, each lies within its file, files ascend
  neat-from : (k : ℕ) (ss : List Span) → drop k all ≡ ss → Neat all k (parts_from k ss from to)
  unfolding parts_from Neat
  neat-from k [] e = tt
  neat-from k (s ∷ ss) e =
      let rest = neat-from (suc k) ss (there all k s ss e) in
      ⊎_elim
      (λ l. rw (cut-some k s from to (parts_from (suc k) ss from to) l)
      (omega arith, record { file = inside all k s ss e; some = omega arith; ends = rw (here all k s ss e) (omega arith) }, rest))
      (λ g. rw (cut-none k s from to (parts_from (suc k) ss from to) g) (lower (parts_from (suc k) ss from to) rest))
      (lt-or-le (low s from) (high s to))
    where
      lower : (ps : List FilePart) → Neat all (suc k) ps → Neat all k ps
      lower [] n = tt
      lower (p ∷ ps) n = (omega arith, n.1, n.2)

  pub neat : Neat all 0 (parts_from 0 all from to)
  neat = neat-from 0 all refl

-- the part of one byte
pub empty-from : (from to k b : ℕ) (ss : List Span) → Ordered b ss → to ≤ b → parts_from k ss from to ≡ []
unfolding parts_from Ordered
empty-from from to k b [] o h = refl
empty-from from to k b (s ∷ ss) o h =
    cut-none k s from to (parts_from (suc k) ss from to) (omega arith) ∙ empty-from from to (suc k) (s.start + s.size) ss o.1 (omega arith)

pub starts-past : (b i : ℕ) (ss : List Span) → Ordered b ss → i < length ss → b ≤ (get_or ss i nowhere).start
unfolding Ordered
starts-past b i [] o h = absurd (omega arith)
starts-past b zero (s ∷ ss) o h = o.0
starts-past b (suc i) (s ∷ ss) o h = omega (arith, starts-past (s.start + s.size) i ss o.1 (omega arith), o.0)

same-part : (k j o p n m : ℕ) → k ≡ j → o ≡ p → n ≡ m → ◌≡◌ {A = List FilePart} (part k o n ∷ []) (part j p m ∷ [])
same-part k j o p n m a b c = rw (a, b, c)

-- o and n: an offset in file i, and a count of bytes that ends within it
one_from : (k b i o n : ℕ) (ss : List Span) → Ordered b ss → i < length ss → 0 < n → o + n ≤ (get_or ss i nowhere).size
    → parts_from k ss ((get_or ss i nowhere).start + o) ((get_or ss i nowhere).start + o + n) ≡ part (k + i) o n ∷ []
unfolding parts_from Ordered
one_from k b i o n [] p h z l = absurd (omega arith)
one_from k b zero o n (s ∷ ss) p h z l =
    cut-some k s (s.start + o) (s.start + o + n) (parts_from (suc k) ss (s.start + o) (s.start + o + n)) (omega arith)
    ∙ rw (empty-from (s.start + o) (s.start + o + n) (suc k) (s.start + s.size) ss p.1 (omega arith)) (same-part _ _ _ _ _ _ (omega arith) (omega arith) (omega arith))
one_from k b (suc i) o n (s ∷ ss) p h z l =
    let q = starts-past (s.start + s.size) i ss p.1 (omega arith) in
    cut-none k s ((get_or ss i nowhere).start + o) ((get_or ss i nowhere).start + o + n) (parts_from (suc k) ss ((get_or ss i nowhere).start + o) ((get_or ss i nowhere).start + o + n)) (omega arith)
    ∙ one_from (suc k) (s.start + s.size) i o n ss p.1 (omega arith) z l
    ∙ same-part _ _ _ _ _ _ (omega arith) refl refl

-- a block within one file, as every block of version 2 is, and as one byte is, has that one part
pub one-part : (i o n : ℕ) (ss : List Span) → Ordered 0 ss → i < length ss → 0 < n → o + n ≤ (get_or ss i nowhere).size
    → parts_of ss ((get_or ss i nowhere).start + o) n ≡ part i o n ∷ []
one-part i o n ss p h z l = one_from 0 0 i o n ss p h z l ∙ same-part _ _ _ _ _ _ (zero-add i) refl refl
