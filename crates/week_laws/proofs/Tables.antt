-- The table of a week's file, both ways: it is taken exactly when it is right to its end, and refused at the first field that is wrong. Assumes nothing.
use mathlib.Core.Path.{◌≡◌, refl, sym, ap, ◌∙◌, subst}
use mathlib.Core.Logic.{◌⊎◌, inl, inr}
use mathlib.Core.Bool.{Bool, true, false}
use mathlib.Core.List.{List}
use Prim.Native.Nat.{ℕ, zero, suc, ◌+◌, ◌-◌, ◌<◌, ◌≤◌}
use native.Mathlib.Omega.{arith}
use lib.Dec.{leb}
use lib.ListN.{length}
use borrow.Author.Tests.{leb-true, leb-false, le-leb, lt-leb}
use Rattle.refusal.specs.Limits.{most_text}
use Rattle.refusal.specs.Numbers.{week, long}
use Rattle.refusal.specs.Paper.{Outcome, taken, refused, map, then}
use Rattle.refusal.proofs.Cases.{lt-or-le, less-or}
use Rattle.refusal.proofs.Outcomes.{then-taken, then-refused, map-taken, map-refused, not_taken, not-refused, same-refusal}
use Rattle.bencode_fields.proofs.Checks.{Checks, Same, Fault, fault, checks-as}
use Rattle.torrent_metainfo.specs.Rules.{provided}
use Rattle.week.specs.File.{table_bytes}
use Rattle.week.specs.Rules.{offset_place, length_place, hash_place, count_of, entry_of, entries_of, table_of}
use Rattle.week_laws.specs.Causes.{Number, Counts, EntryAt, NewHash, RightTo, counted, entered, WrongTable, wrong-count, wrong-offset, wrong-length, wrong-hash, bytes_after, NoTable, long-table, no_table}
use Rattle.week_laws.proofs.Fields.{checks-unless, count-checks, counts-is, BadEntry, entry-checks}

module _ (s : List ℕ) where
  -- ---- what a table that is right so far says

  pub right-counts : (n i at : ℕ) → RightTo s n i at → Counts s n
  right-counts n i at (counted c) = c
  right-counts n i at (entered j p m r l e h) = right-counts n j p r

  pub right-entry : (n i at j : ℕ) → RightTo s n i at → j < i → (p : ℕ) × (m : ℕ) × RightTo s n j p × EntryAt s j p m × NewHash s j
  right-entry n i at j (counted c) l = absurd (omega arith)
  right-entry n i at j (entered k p m r f e h) l = go (lt-or-le j k) (λ a. right-entry n k p j r a)
    where
      go : (j < k) ⊎ (k ≤ j) → (j < k → (q : ℕ) × (x : ℕ) × RightTo s n j q × EntryAt s j q x × NewHash s j) → (q : ℕ) × (x : ℕ) × RightTo s n j q × EntryAt s j q x × NewHash s j
      go (inl a) more = more a
      go (inr a) more =
          let b : k ≡ j = omega arith in
          (p, m, subst (λ (z : ℕ). RightTo s n z p) b r, subst (λ (z : ℕ). EntryAt s z p m) b e, subst (NewHash s) b h)

  right-within : (n i at : ℕ) → 1 ≤ i → RightTo s n i at → at ≤ length s
  right-within n i at l (counted c) = absurd (omega arith)
  right-within n i at l (entered j p m r f e h) = e.inside

  -- ---- entries from the front, and a table right so far

  -- where the first i entries are right, reading all is reading those that are left
  joins : (n i at k : ℕ) → RightTo s n i at → k + i ≡ n → entries_of s n 0 (table_bytes n) ≡ entries_of s k i at
  unfolding entries_of
  joins n i at k (counted c) e = let f : n ≡ k = omega arith in ap (λ (x : ℕ). entries_of s x 0 (table_bytes n)) f
  joins n i at k (entered j p m r l a h) e =
      let t = (entry-checks s j p).every m (a, h) in
      joins n j p (suc k) r (omega arith) ∙ ap (λ (o : Outcome ℕ). then o (λ past. entries_of s k (suc j) past)) t.1 ∙ ap (entries_of s k (suc j)) t.2

  entries-only : (n k i at x : ℕ) → RightTo s n i at → k + i ≡ n → entries_of s k i at ≡ taken x → RightTo s n n (length s)
  unfolding entries_of
  entries-only n zero i at x r e f = go (leb (length s) at) refl f
    where
      go : (b : Bool) → leb (length s) at ≡ b → provided b week at (taken at) ≡ taken x → RightTo s n n (length s)
      go true g h =
          let a : i ≡ n = omega arith in
          let c = right-counts n i at r in
          let d : at ≡ length s = omega (arith, leb-true (length s) at g, right-within n i at (omega (arith, c.some)) r) in
          subst (RightTo s n n) d (subst (λ (z : ℕ). RightTo s n z at) a r)
      go false g h = not_taken h
  entries-only n (suc k) i at x r e f =
      let t = then-taken (entry_of s i at) (λ past. entries_of s k (suc i) past) x f in
      let c = (entry-checks s i at).only t.0 t.1 in
      entries-only n k (suc i) (at + c.0) x (entered i at c.0 r (omega arith) c.1.0 c.1.1) (omega arith) (ap (entries_of s k (suc i)) (sym c.2) ∙ t.2)

  -- an entry that is wrong
  wrong-entry : (n i at a q : ℕ) → RightTo s n i at → i < n → BadEntry s i at a q → (a ≡ week) × WrongTable s q
  wrong-entry n i at a q r l (inl (fault h)) = (refl, wrong-offset n i at r l (λ o. h (at, o, refl)))
  wrong-entry n i at a q r l (inr (x, o, e, inl (fault h))) = (refl, wrong-length n i at r l (subst (Number s (offset_place i)) e o) (λ m f g. h (m, f, g)))
  wrong-entry n i at a q r l (inr (x, o, e, inr (m, f, g, fault h))) = (refl, wrong-hash n i at m r l (subst (Number s (offset_place i)) e o) f g (λ b w. h (b, w)))

  entries-blames : (n k i at a q : ℕ) → RightTo s n i at → k + i ≡ n → entries_of s k i at ≡ refused a q → (a ≡ week) × WrongTable s q
  unfolding entries_of
  entries-blames n zero i at a q r e f = go (leb (length s) at) refl f
    where
      go : (b : Bool) → leb (length s) at ≡ b → provided b week at (taken at) ≡ refused a q → (a ≡ week) × WrongTable s q
      go true g h = not-refused h
      go false g h =
          let z = same-refusal h in
          let c : i ≡ n = omega arith in
          (sym z.0, subst (WrongTable s) z.1 (bytes_after n at (subst (λ (x : ℕ). RightTo s n x at) c r) (leb-false (length s) at g)))
  entries-blames n (suc k) i at a q r e f = go (then-refused (entry_of s i at) (λ past. entries_of s k (suc i) past) a q f) (entries-blames n k (suc i))
    where
      go : (entry_of s i at ≡ refused a q) ⊎ ((x : ℕ) × (entry_of s i at ≡ taken x) × (entries_of s k (suc i) x ≡ refused a q))
          → ((at' a' q' : ℕ) → RightTo s n (suc i) at' → k + suc i ≡ n → entries_of s k (suc i) at' ≡ refused a' q' → (a' ≡ week) × WrongTable s q') → (a ≡ week) × WrongTable s q
      go (inl g) more = wrong-entry n i at a q r (omega arith) ((entry-checks s i at).blames a q g)
      go (inr (x, g, h)) more =
          let c = (entry-checks s i at).only x g in
          more (at + c.0) a q (entered i at c.0 r (omega arith) c.1.0 c.1.1) (omega arith) (ap (entries_of s k (suc i)) (sym c.2) ∙ h)

  -- ---- all of the table

  abbrev entries_by_of : ℕ → Outcome ℕ
  entries_by_of n = map (λ end. n) (entries_of s n 0 (table_bytes n))

  abbrev Wrong : ℕ → ℕ → Type 0
  Wrong a q = (a ≡ week) × WrongTable s q

  -- a table that is right so far, with what reading what is left comes to
  read-on : (n i at k : ℕ) (o : Outcome ℕ) → RightTo s n i at → k + i ≡ n → entries_of s k i at ≡ o → then (count_of s) entries_by_of ≡ map (λ end. n) o
  read-on n i at k o r e f = ap (λ (x : Outcome ℕ). then x entries_by_of) (counts-is s n (right-counts n i at r)) ∙ ap (map (λ end. n)) (joins n i at k r e ∙ f)

  by-entry : (n i at a q : ℕ) → RightTo s n i at → i < n → BadEntry s i at a q → then (count_of s) entries_by_of ≡ refused a q
  unfolding entries_of
  by-entry n i at a q r l b =
      let k = n - suc i in
      read-on n i at (suc k) (refused a q) r (omega arith) (ap (λ (o : Outcome ℕ). then o (λ past. entries_of s k (suc i) past)) ((entry-checks s i at).refuses a q b))

  at-end : (n at : ℕ) → entries_of s 0 n at ≡ provided (leb (length s) at) week at (taken at)
  unfolding entries_of
  at-end n at = refl

  wrong-refused : (q : ℕ) → WrongTable s q → then (count_of s) entries_by_of ≡ refused week q
  wrong-refused q (wrong-count h) = ap (λ (x : Outcome ℕ). then x entries_by_of) ((count-checks s).refuses week 0 (fault (λ c. h c.0 c.1)))
  wrong-refused q (wrong-offset n i at r l h) = by-entry n i at week (offset_place i) r l (inl (fault (λ x. h (subst (Number s (offset_place i)) x.2 x.1))))
  wrong-refused q (wrong-length n i at r l o h) = by-entry n i at week (length_place i) r l (inr (at, o, refl, inl (fault (λ x. h x.0 x.1 x.2))))
  wrong-refused q (wrong-hash n i at m r l o f g h) = by-entry n i at week (hash_place i) r l (inr (at, o, refl, inr (m, f, g, fault (λ x. h x.0 x.1))))
  wrong-refused q (bytes_after n at r l) = read-on n n at 0 (refused week at) r (omega arith) (at-end n at ∙ rw (lt-leb (length s) at l))

  inner-checks : Checks (then (count_of s) entries_by_of) (λ n. RightTo s n n (length s)) Same Wrong
  inner-checks = record {
    only = λ n e.
        let t = then-taken (count_of s) entries_by_of n e in
        let c = (count-checks s).only t.0 t.1 in
        let f : t.0 ≡ c.0 = c.2 in
        let m = map-taken (λ end. t.0) (entries_of s t.0 0 (table_bytes t.0)) n t.2 in
        (n, subst (λ (x : ℕ). RightTo s x x (length s)) m.2 (entries-only t.0 t.0 0 (table_bytes t.0) m.0 (counted (subst (Counts s) (sym f) c.1)) (omega arith) m.1), refl);
    every = λ n r. (n, read-on n n (length s) 0 (taken (length s)) r (omega arith) (at-end n (length s) ∙ rw (le-leb (length s) (length s) (omega arith))), refl);
    blames = λ a q e. blamed a q (then-refused (count_of s) entries_by_of a q e);
    refuses = λ a q h. wrong-refused q h.1 ∙ ap (λ (x : ℕ). refused x q) (sym h.0);
  }
    where
      no-count : (a q : ℕ) → Fault ((n : ℕ) × Counts s n) week 0 a q → Wrong a q
      no-count a q (fault h) = (refl, wrong-count (λ n c. h (n, c)))

      blamed : (a q : ℕ) → (count_of s ≡ refused a q) ⊎ ((n : ℕ) × (count_of s ≡ taken n) × (entries_by_of n ≡ refused a q)) → Wrong a q
      blamed a q (inl e) = no-count a q ((count-checks s).blames a q e)
      blamed a q (inr (n, e, f)) =
          let c = (count-checks s).only n e in
          entries-blames n n 0 (table_bytes n) a q (counted (subst (Counts s) (sym c.2) c.1)) (omega arith) (map-refused (λ end. n) (entries_of s n 0 (table_bytes n)) a q f)

  -- the table is taken exactly when it is right to the file's end, and refused exactly where it is wrong first
  pub table-checks : Checks (table_of s) (λ n. (length s ≤ most_text) × RightTo s n n (length s)) Same (NoTable s)
  unfolding table_of
  table-checks = checks-as (checks-unless s inner-checks) (λ x m i e. (m, i, e)) (λ n i. (n, i, λ x e. e)) to-cause from-cause
    where
      to-cause : (a q : ℕ) → Fault (length s ≤ most_text) long 0 a q ⊎ ((length s ≤ most_text) × Wrong a q) → NoTable s a q
      to-cause a q (inl (fault h)) = long-table (less-or most_text (length s) (λ l. l) (λ l. absurd (h l)))
      to-cause a q (inr (l, (e, w))) = subst (λ (x : ℕ). NoTable s x q) (sym e) (no_table q l w)

      from-cause : (a q : ℕ) → NoTable s a q → Fault (length s ≤ most_text) long 0 a q ⊎ ((length s ≤ most_text) × Wrong a q)
      from-cause a q (long-table l) = inl (fault (λ h. absurd (omega arith)))
      from-cause a q (no_table p l w) = inr (l, (refl, w))
