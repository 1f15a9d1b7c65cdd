-- Files one after the other: where they start and end, how many bytes a piece has of them, and that they are laid out in pieces. Assumes nothing.
use mathlib.Core.Path.{◌≡◌, refl, ap, ◌∙◌}
use mathlib.Core.Logic.{◌⊎◌, inl, inr, ⊎_elim}
use mathlib.Core.List.{List, [], ◌∷◌}
use Prim.Native.Nat.{ℕ, zero, suc, ◌+◌, ◌-◌, ◌*◌, ◌≤◌, ◌<◌, min, max}
use native.Mathlib.Omega.{arith}
use native.Mathlib.Nat.{add_assoc, min-eq_left, min-eq_right, max-eq_left, max-eq_right}
use lib.ListN.{length, get_or, take}
use Rattle.refusal.proofs.Cases.{lt-or-le}
use Rattle.torrent_blocks.specs.Rules.{sum, pieces_of, lawful}
use Rattle.torrent_blocks.specs.Spans.{Span, FilePart, span, low, high, cut, parts_from, joined_from, joined_files, lengths, end_from, end_of, nowhere, sizes, held_in}
use Rattle.torrent_blocks.specs.Covers.{Ordered, InSome, Laid}
use Rattle.torrent_blocks.proofs.Covering.{cut-some, cut-none}

-- ---- any files in order

pub end-past : (b : ℕ) (ss : List Span) → Ordered b ss → b ≤ end_from b ss
unfolding Ordered end_from
end-past b [] o = omega arith
end-past b (s ∷ ss) o = omega (arith, end-past (s.start + s.size) ss o.1, o.0)

pub inside-end : (b : ℕ) (ss : List Span) (x : ℕ) → Ordered b ss → InSome ss x → x < end_from b ss
unfolding Ordered InSome end_from
inside-end b [] x o h = absurd h
inside-end b (s ∷ ss) x o (inl h) = omega (arith, end-past (s.start + s.size) ss o.1)
inside-end b (s ∷ ss) x o (inr h) = inside-end (s.start + s.size) ss x o.1 h

pub byte_inside : (ss : List Span) (f o : ℕ) → f < length ss → o < (get_or ss f nowhere).size → InSome ss ((get_or ss f nowhere).start + o)
unfolding InSome
byte_inside [] f o h l = absurd (omega arith)
byte_inside (s ∷ ss) zero o h l = inl (omega arith, omega arith)
byte_inside (s ∷ ss) (suc f) o h l = inr (byte_inside ss f o (omega arith) l)

-- ---- files one after the other

pub joined-lengths : (a : ℕ) (ns : List ℕ) → lengths (joined_from a ns) ≡ ns
unfolding joined_from lengths
joined-lengths a [] = refl
joined-lengths a (n ∷ ns) = ap (λ (l : List ℕ). n ∷ l) (joined-lengths (a + n) ns)

pub joined_end : (a : ℕ) (ns : List ℕ) → end_from a (joined_from a ns) ≡ a + sum ns
unfolding joined_from end_from sum
joined_end a [] = omega arith
joined_end a (n ∷ ns) = joined_end (a + n) ns ∙ add_assoc a n (sum ns)

pub joined-count : (a : ℕ) (ns : List ℕ) → length (joined_from a ns) ≡ length ns
unfolding joined_from
joined-count a [] = refl
joined-count a (n ∷ ns) = ap suc (joined-count (a + n) ns)

pub joined-size : (a f : ℕ) (ns : List ℕ) → (get_or (joined_from a ns) f nowhere).size ≡ get_or ns f 0
unfolding joined_from
joined-size a f [] = refl
joined-size a zero (n ∷ ns) = refl
joined-size a (suc f) (n ∷ ns) = joined-size (a + n) f ns

pub joined-start : (a f : ℕ) (ns : List ℕ) → f < length ns → (get_or (joined_from a ns) f nowhere).start ≡ a + sum (take f ns)
unfolding joined_from sum
joined-start a f [] h = absurd (omega arith)
joined-start a zero (n ∷ ns) h = omega arith
joined-start a (suc f) (n ∷ ns) h = joined-start (a + n) f ns (omega arith) ∙ add_assoc a n (sum (take f ns))

pub joined-ordered : (a : ℕ) (ns : List ℕ) → Ordered a (joined_from a ns)
unfolding Ordered joined_from
joined-ordered a [] = tt
joined-ordered a (n ∷ ns) = (omega arith, joined-ordered (a + n) ns)

joined-full : (a : ℕ) (ns : List ℕ) (x : ℕ) → a ≤ x → x < a + sum ns → InSome (joined_from a ns) x
unfolding InSome joined_from sum
joined-full a [] x h l = absurd (omega arith)
joined-full a (n ∷ ns) x h l = ⊎_elim (λ i. inl (omega arith, omega arith)) (λ i. inr (joined-full (a + n) ns x i (omega arith))) (lt-or-le x (a + n))

-- ---- a piece

sizes-cut : (k : ℕ) (s : Span) (from to : ℕ) (rest : List FilePart) → sizes (cut k s from to rest) ≡ (high s to - low s from) + sizes rest
unfolding sizes
sizes-cut k s from to rest =
    ⊎_elim (λ l. rw (cut-some k s from to rest l)) (λ g. rw (cut-none k s from to rest g) (omega arith)) (lt-or-le (low s from) (high s to))

-- two spans that touch overlap from..to as their union does
telescopes : (a n s from to : ℕ) → (min to (a + n) - max from a) + (min to (a + n + s) - max from (a + n)) ≡ min to (a + (n + s)) - max from a
telescopes a n s from to = by (lt-or-le from (a + n)) (lt-or-le to (a + n))
  where
    by : (from < a + n) ⊎ (a + n ≤ from) → (to < a + n) ⊎ (a + n ≤ to)
        → (min to (a + n) - max from a) + (min to (a + n + s) - max from (a + n)) ≡ min to (a + (n + s)) - max from a
    by (inl l) (inl i) = rw (min-eq_left {n = to} {m = a + n} (omega arith), min-eq_left {n = to} {m = a + n + s} (omega arith), min-eq_left {n = to} {m = a + (n + s)} (omega arith)) (omega arith)
    by (inl l) (inr i) = rw (min-eq_right {n = a + n} {m = to} i, max-eq_right {n = from} {m = a + n} (omega arith), ← add_assoc) (omega arith)
    by (inr l) i = rw (max-eq_left {n = from} {m = a + n} l, max-eq_left {n = from} {m = a} (omega arith), ← add_assoc) (omega arith)

held-from : (k a : ℕ) (ns : List ℕ) (from to : ℕ) → sizes (parts_from k (joined_from a ns) from to) ≡ min to (a + sum ns) - max from a
unfolding parts_from joined_from sum sizes
held-from k a [] from to = omega arith
held-from k a (n ∷ ns) from to =
    sizes-cut k (span a n) from to (parts_from (suc k) (joined_from (a + n) ns) from to)
    ∙ rw (held-from (suc k) (a + n) ns from to) (telescopes a n (sum ns) from to)

-- a piece has the piece length of bytes, and the last what is left
pub joined-held : (ns : List ℕ) (pl p : ℕ) → held_in (joined_files ns) pl p ≡ min pl (sum ns - p * pl)
joined-held ns pl p = omega (arith, held-from 0 0 ns (p * pl) (p * pl + pl))

pub joined-laid : (ns : List ℕ) (pl : ℕ) → Laid (joined_files ns) pl
joined-laid ns pl =
    record {
      ordered = joined-ordered 0 ns;
      fills = λ p o h. let e = joined-held ns pl p in joined-full 0 ns (p * pl + o) (omega arith) (omega arith);
      holds = λ p o l i.
          let e = joined-held ns pl p in
          let h = inside-end 0 (joined_files ns) (p * pl + o) (joined-ordered 0 ns) i in
          omega (arith, joined_end 0 ns);
    }

-- the rules for the files are the rules for their lengths
pub joined_keeps : (ns : List ℕ) (pl : ℕ) → lawful pl (lengths (joined_files ns)) (pieces_of (end_of (joined_files ns)) pl) ≡ lawful pl ns (pieces_of (sum ns) pl)
joined_keeps ns pl =
    let e : end_of (joined_files ns) ≡ sum ns = omega (arith, joined_end 0 ns) in
    rw (joined-lengths 0 ns, e)
