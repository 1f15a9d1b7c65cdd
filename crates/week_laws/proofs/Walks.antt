-- A week's file package by package, both ways: it is refused where its table is, or else where its first bad package is. Assumes nothing.
use mathlib.Core.Path.{◌≡◌, refl, sym, ap, ◌∙◌, subst}
use mathlib.Core.Logic.{◌⊎◌, inl, inr, ◌↔◌}
use mathlib.Core.List.{List}
use Prim.Native.Nat.{ℕ, zero, suc, ◌+◌, ◌<◌, ◌≤◌}
use native.Mathlib.Omega.{arith}
use lib.Dec.{ltb}
use lib.ListN.{length}
use borrow.Author.Tests.{lt-ltb}
use Rattle.refusal.specs.Limits.{most_text}
use Rattle.refusal.specs.Numbers.{beyond}
use Rattle.refusal.specs.Paper.{Outcome, taken, refused, then}
use Rattle.refusal.proofs.Cases.{less-or}
use Rattle.refusal.proofs.Outcomes.{then-refused, not-refused}
use Rattle.torrent_metainfo.specs.Rules.{provided}
use Rattle.week.specs.Rules.{body_of, table_of, package_at, none, plus, sums_from, week_of, package_of}
use Rattle.week.specs.declared.Entry.{Entry}
use Rattle.week.specs.declared.Week.{Week}
use Rattle.week_laws.specs.Causes.{EntryAt, RightTo, GoodBodies, NoWeek, bad-table, bad-body}
use Rattle.week.proofs.Summing.{week-counted, week-each, week-by}
use Rattle.week_laws.proofs.Tables.{right-counts, right-entry, table-checks}
use Rattle.week_laws.proofs.Bodies.{body-checks, at_entry}

module _ (s : List ℕ) where
  -- ---- packages one after the other

  -- the packages from i to before j are taken
  abbrev pub Each : ℕ → ℕ → Type 0
  Each i j = (l : ℕ) → i ≤ l → l < j → (e : Entry) × (package_at s l ≡ taken e)

  -- one package, and then the others
  pub next-sums : (k i : ℕ) (w : Week) (o : Outcome Entry) → package_at s i ≡ o → sums_from s (suc k) i w ≡ then o (λ e. sums_from s k (suc i) (plus w e))
  unfolding sums_from
  next-sums k i w o e = ap (λ (x : Outcome Entry). then x (λ e. sums_from s k (suc i) (plus w e))) e

  sums-refused : (k i j : ℕ) (w : Week) (a q : ℕ) → i ≤ j → j < i + k → Each i j → package_at s j ≡ refused a q → sums_from s k i w ≡ refused a q
  sums-refused zero i j w a q l b h e = absurd (omega arith)
  sums-refused (suc k) i j w a q l b h e =
      less-or i j
      (λ f. let x = h i (omega arith) f in next-sums k i w (taken x.0) x.1 ∙ sums-refused k (suc i) j (plus w x.0) a q f (omega arith) (λ y c d. h y (omega arith) d) e)
      (λ f. let g : j ≡ i = omega arith in next-sums k i w (refused a q) (ap (package_at s) (sym g) ∙ e))

  sums-taken : (k i : ℕ) (w : Week) → Each i (i + k) → (v : Week) × (sums_from s k i w ≡ taken v) × (v.count ≡ w.count)
  unfolding sums_from
  sums-taken zero i w h = (w, refl, refl)
  sums-taken (suc k) i w h =
      let x = h i (omega arith) (omega arith) in
      let r = sums-taken k (suc i) (plus w x.0) (λ y c d. h y (omega arith) (omega arith)) in
      (r.0, next-sums k i w (taken x.0) x.1 ∙ r.1, r.2)

  sums-blames : (k i : ℕ) (w : Week) (a q : ℕ) → sums_from s k i w ≡ refused a q → (j : ℕ) × (i ≤ j) × (j < i + k) × Each i j × (package_at s j ≡ refused a q)
  unfolding sums_from
  sums-blames zero i w a q e = not-refused e
  sums-blames (suc k) i w a q e = go (then-refused (package_at s i) (λ x. sums_from s k (suc i) (plus w x)) a q e) (λ v f. sums-blames k (suc i) v a q f)
    where
      go : (package_at s i ≡ refused a q) ⊎ ((x : Entry) × (package_at s i ≡ taken x) × (sums_from s k (suc i) (plus w x) ≡ refused a q))
          → ((v : Week) → sums_from s k (suc i) v ≡ refused a q → (j : ℕ) × (suc i ≤ j) × (j < suc i + k) × Each (suc i) j × (package_at s j ≡ refused a q))
          → (j : ℕ) × (i ≤ j) × (j < i + suc k) × Each i j × (package_at s j ≡ refused a q)
      go (inl f) more = (i, omega arith, omega arith, λ l b c. absurd (omega arith), f)
      go (inr (x, f, g)) more =
          let r = more (plus w x) g in
          (r.0, omega (arith, r.1), omega (arith, r.2), λ l b c. less-or i l (λ d. r.3 l d c) (λ d. let z : l ≡ i = omega arith in (x, ap (package_at s) z ∙ f)), r.4)

  -- ---- the walk

  -- where the table is taken, the file comes to its packages
  pub week-is : (n : ℕ) → table_of s ≡ taken n → week_of s ≡ sums_from s n 0 (none n)
  week-is n e = sym (week-by s (sym e))

  -- the first package that is refused is the file's refusal
  pub walk_refused : (n i k q : ℕ) → table_of s ≡ taken n → ((j : ℕ) → j < i → (e : Entry) × (package_at s j ≡ taken e)) → i < n → package_at s i ≡ refused k q → week_of s ≡ refused k q
  walk_refused n i k q t h l e = week-is n t ∙ sums-refused n 0 i (none n) k q (omega arith) (omega arith) (λ j a b. h j b) e

  -- where all are taken the file is, and each is what the file says of it
  pub walk-taken : (n : ℕ) → table_of s ≡ taken n → ((j : ℕ) → j < n → (e : Entry) × (package_at s j ≡ taken e))
      → (w : Week) × (week_of s ≡ taken w) × (w.count ≡ n) × ((i : ℕ) → i < n → package_of s i ≡ package_at s i)
  unfolding package_of
  walk-taken n t h =
      let r = sums-taken n 0 (none n) (λ j a b. h j (omega arith)) in
      let e : week_of s ≡ taken r.0 = week-is n t ∙ r.1 in
      (r.0, e, r.2, λ i l. ap (λ (o : Outcome Week). then o (λ w. provided (ltb i w.count) beyond 0 (package_at s i))) e ∙ rw (lt-ltb i r.0.count (omega (arith, r.2))))

  -- and where the file is taken, its table is, and so are all
  pub week-walked : (w : Week) → week_of s ≡ taken w → (table_of s ≡ taken w.count) × ((j : ℕ) → j < w.count → (e : Entry) × (package_at s j ≡ taken e))
  week-walked w e = ((week-counted s w e).0, λ j l. week-each s w j e l)

  -- ---- why a file is no week's file

  module _ (n : ℕ) (short : length s ≤ most_text) (right : RightTo s n n (length s)) where
    -- in a right table each package has its entry, and is its body
    entry-there : (i : ℕ) → i < n → (at : ℕ) × (m : ℕ) × EntryAt s i at m
    entry-there i l = let r = right-entry s n n (length s) i right l in (r.0, r.1, r.3)

    pub there : (i at m : ℕ) → i < n → EntryAt s i at m → package_at s i ≡ body_of s i at m
    there i at m l e = at_entry s i n at m short (right-counts s n n (length s) right) l e

    bodies-good : (i : ℕ) → i ≤ n → Each 0 i → GoodBodies s i
    bodies-good i l h j b at m e = let x = h j (omega arith) b in let r = (body-checks s j at m).only x.0 (sym (there j at m (omega arith) e) ∙ x.1) in (r.0, r.1)

    good-bodies : (i : ℕ) → i ≤ n → GoodBodies s i → (j : ℕ) → j < i → (e : Entry) × (package_at s j ≡ taken e)
    good-bodies i l h j b =
        let x = entry-there j (omega arith) in
        let t = h j b x.0 x.1 x.2 in
        let r = (body-checks s j x.0 x.1).every t.0 t.1 in
        (r.0, there j x.0 x.1 (omega arith) x.2 ∙ r.1)

    pub table_is : table_of s ≡ taken n
    table_is = let t = (table-checks s).every n (short, right) in t.1 ∙ ap taken t.2

  no-week-only : (k q : ℕ) → week_of s ≡ refused k q → NoWeek s k q
  unfolding week_of
  no-week-only k q e = go (then-refused (table_of s) (λ x. sums_from s x 0 (none x)) k q e)
    where
      go : (table_of s ≡ refused k q) ⊎ ((n : ℕ) × (table_of s ≡ taken n) × (sums_from s n 0 (none n) ≡ refused k q)) → NoWeek s k q
      go (inl f) = bad-table k q ((table-checks s).blames k q f)
      go (inr (n, f, g)) =
          let t = (table-checks s).only n f in
          let right = subst (λ (x : ℕ). RightTo s x x (length s)) (sym t.2) t.1.1 in
          let b = sums-blames n 0 (none n) k q g in
          let l : b.0 < n = omega (arith, b.2) in
          let x = entry-there n t.1.0 right b.0 l in
          bad-body n b.0 x.0 x.1 k q t.1.0 right l (bodies-good n t.1.0 right b.0 (omega arith) b.3) x.2
          ((body-checks s b.0 x.0 x.1).blames k q (sym (there n t.1.0 right b.0 x.0 x.1 l x.2) ∙ b.4))

  no-week-every : (k q : ℕ) → NoWeek s k q → week_of s ≡ refused k q
  unfolding week_of
  no-week-every k q (bad-table a p h) = ap (λ (o : Outcome ℕ). then o (λ x. sums_from s x 0 (none x))) ((table-checks s).refuses a p h)
  no-week-every k q (bad-body n i at m a p short right l g e h) =
      walk_refused n i a p (table_is n short right) (good-bodies n short right i (omega arith) g) l (there n short right i at m l e ∙ (body-checks s i at m).refuses a p h)

  pub week-faults : (k q : ℕ) → week_of s ≡ refused k q ↔ NoWeek s k q
  week-faults k q = (no-week-only k q, no-week-every k q)
