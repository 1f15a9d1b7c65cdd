-- Parts that cover a block are the only ones that do, over files that are in order. Assumes nothing.
use mathlib.Core.Path.{◌≡◌, refl, sym, ap, ◌∙◌}
use mathlib.Core.Logic.{◌⊎◌, inl, inr}
use mathlib.Core.List.{List, [], ◌∷◌, ◌++◌}
use Prim.Native.Nat.{ℕ, zero, suc, ◌+◌, ◌≤◌, ◌<◌}
use native.Mathlib.Omega.{arith}
use lib.ListN.{length, get_or, drop, length-append}
use Rattle.refusal.proofs.Cases.{lt-or-le}
use Rattle.torrent_blocks.specs.Spans.{Span, FilePart, nowhere, part}
use Rattle.torrent_blocks.specs.Covers.{run, places_of, Within, Neat, Covers, Ordered}
use Rattle.torrent_blocks.proofs.Covering.{starts-past}

-- a file ends before a later one starts
apart : (b : ℕ) (ss : List Span) → Ordered b ss → (f g : ℕ) → f < g → g < length ss → (get_or ss f nowhere).start + (get_or ss f nowhere).size ≤ (get_or ss g nowhere).start
unfolding Ordered
apart b [] o f g l h = absurd (omega arith)
apart b (s ∷ ss) o zero zero l h = absurd (omega arith)
apart b (s ∷ ss) o (suc f) zero l h = absurd (omega arith)
apart b (s ∷ ss) o zero (suc g) l h = starts-past (s.start + s.size) g ss o.1 (omega arith)
apart b (s ∷ ss) o (suc f) (suc g) l h = apart (s.start + s.size) ss o.1 f g (omega arith) (omega arith)

equal : (m n : ℕ) → (m < n → ⊥) → (n < m → ⊥) → m ≡ n
equal m n a b = go (lt-or-le m n) (lt-or-le n m)
  where
    go : (m < n) ⊎ (n ≤ m) → (n < m) ⊎ (m ≤ n) → m ≡ n
    go (inl h) k = absurd (a h)
    go (inr h) (inl k) = absurd (b k)
    go (inr h) (inr k) = omega arith

-- ---- a run, and what follows it

run_length : (a n : ℕ) → length (run a n) ≡ n
unfolding run
run_length a zero = refl
run_length a (suc n) = ap suc (run_length (suc a) n)

run_at : (a n i : ℕ) (l : List ℕ) → i < n → get_or (run a n ++ l) i 0 ≡ a + i
unfolding run
run_at a zero i l h = absurd (omega arith)
run_at a (suc n) zero l h = omega arith
run_at a (suc n) (suc i) l h = run_at (suc a) n i l (omega arith) ∙ omega arith

run-next : (a n : ℕ) (l : List ℕ) → get_or (run a n ++ l) n 0 ≡ get_or l 0 0
unfolding run
run-next a zero l = refl
run-next a (suc n) l = run-next (suc a) n l

run_drop : (a n : ℕ) (l : List ℕ) → drop n (run a n ++ l) ≡ l
unfolding run
run_drop a zero l = refl
run_drop a (suc n) l = run_drop (suc a) n l

-- ---- parts

-- where a part's first byte is in the content
abbrev from : List Span → FilePart → ℕ
from ss p = (get_or ss p.file nowhere).start + p.offset

first-at : (ss : List Span) (p : FilePart) (ps : List FilePart) → 0 < p.size → get_or (places_of ss (p ∷ ps)) 0 0 ≡ from ss p
unfolding places_of
first-at ss p ps h = run_at (from ss p) p.size 0 (places_of ss ps) h ∙ omega arith

module _ (ss : List Span) (o : Ordered 0 ss) where
  -- two parts that begin at one place are of one file
  not-before : (p q : FilePart) → Within ss p → Within ss q → from ss p ≡ from ss q → p.file < q.file → ⊥
  not-before p q v w e l = omega (arith, apart 0 ss o p.file q.file l w.file, v.some, v.ends, e)

  -- and of one length: what follows the shorter one would begin within its file
  not-shorter : (p q : FilePart) (ps qs : List FilePart) → Within ss q → p.file ≡ q.file → p.offset ≡ q.offset → Neat ss (suc p.file) ps
      → places_of ss (p ∷ ps) ≡ places_of ss (q ∷ qs) → p.size < q.size → ⊥
  unfolding places_of Neat
  not-shorter p q [] qs w f x t e l =
      let n = ap length e in
      let a = length-append (run (from ss p) p.size) [] in
      let b = length-append (run (from ss q) q.size) (places_of ss qs) in
      omega (arith, n, a, b, run_length (from ss p) p.size, run_length (from ss q) q.size)
  not-shorter p q (r ∷ ps) qs w f x t e l =
      let here = run-next (from ss p) p.size (places_of ss (r ∷ ps)) in
      let there = run_at (from ss q) q.size p.size (places_of ss qs) l in
      let same = ap (λ (m : List ℕ). get_or m p.size 0) e in
      let begins = first-at ss r ps t.1.some in
      let start : get_or ss p.file nowhere ≡ get_or ss q.file nowhere = ap (λ (k : ℕ). get_or ss k nowhere) f in
      let after = apart 0 ss o p.file r.file (omega (arith, t.0)) t.1.file in
      let at : from ss r ≡ from ss q + p.size = sym begins ∙ sym here ∙ same ∙ there in
      omega (arith, at, after, ap (λ (s : Span). s.start) start, ap (λ (s : Span). s.size) start, w.ends, x)

  part_same : (p q : FilePart) (ps qs : List FilePart) → p.file ≡ q.file → p.offset ≡ q.offset → p.size ≡ q.size → ps ≡ qs → ◌≡◌ {A = List FilePart} (p ∷ ps) (q ∷ qs)
  part_same p q ps qs f x n l = go p.file q.file p.offset q.offset p.size q.size f x n l
    where
      go : (k j y z m n : ℕ) → k ≡ j → y ≡ z → m ≡ n → ps ≡ qs → ◌≡◌ {A = List FilePart} (part k y m ∷ ps) (part j z n ∷ qs)
      go k j y z m n a b c d = rw (a, b, c, d)

  neat-unique : (k : ℕ) (ps qs : List FilePart) → Neat ss k ps → Neat ss k qs → places_of ss ps ≡ places_of ss qs → ps ≡ qs
  unfolding places_of Neat
  neat-unique k [] [] v w e = refl
  neat-unique k [] (q ∷ qs) v w e =
      absurd (omega (arith, ap length e, length-append (run (from ss q) q.size) (places_of ss qs), run_length (from ss q) q.size, w.1.some))
  neat-unique k (p ∷ ps) [] v w e =
      absurd (omega (arith, ap length e, length-append (run (from ss p) p.size) (places_of ss ps), run_length (from ss p) p.size, v.1.some))
  neat-unique k (p ∷ ps) (q ∷ qs) v w e =
      let first : from ss p ≡ from ss q = sym (first-at ss p ps v.1.some) ∙ ap (λ (m : List ℕ). get_or m 0 0) e ∙ first-at ss q qs w.1.some in
      let file : p.file ≡ q.file = equal p.file q.file (not-before p q v.1 w.1 first) (not-before q p w.1 v.1 (sym first)) in
      let offset : p.offset ≡ q.offset = omega (arith, first, ap (λ (k : ℕ). (get_or ss k nowhere).start) file) in
      let size : p.size ≡ q.size =
      equal p.size q.size (not-shorter p q ps qs w.1 file offset v.2 e) (not-shorter q p qs ps v.1 (sym file) (sym offset) w.2 (sym e)) in
      let later : places_of ss ps ≡ places_of ss qs =
      sym (run_drop (from ss p) p.size (places_of ss ps)) ∙ ap (drop p.size) e ∙ ap (λ (n : ℕ). drop n (places_of ss (q ∷ qs))) size ∙ run_drop (from ss q) q.size (places_of ss qs) in
      part_same p q ps qs file offset size (neat-unique (suc p.file) ps qs v.2 (rw file w.2) later)

  -- parts that cover the n bytes from x on are all such parts
  pub covers-unique : (x n : ℕ) (ps qs : List FilePart) → Covers ss x n ps → Covers ss x n qs → ps ≡ qs
  covers-unique x n ps qs c d = neat-unique 0 ps qs c.neat d.neat (c.bytes ∙ sym d.bytes)
