-- The checks of a sheet, both ways: what is taken is a sheet, every sheet is taken, and a refusal has its cause. Assumes nothing.
use mathlib.Core.Path.{◌≡◌, refl, sym, subst}
use mathlib.Core.Logic.{◌⊎◌, inl, inr}
use mathlib.Core.Bool.{Bool, true, false, cond}
use mathlib.Core.List.{List}
use Prim.Native.Nat.{ℕ, ◌+◌}
use lib.Dec.{eqb}
use lib.ListN.{length}
use borrow.Author.Tests.{eq-eqb, eqb-true}
use Rattle.refusal.specs.Paper.{refused, then}
use Rattle.refusal.specs.Numbers.{peer}
use Rattle.refusal.proofs.Cases.{cannot}
use Rattle.bencode_scalar.specs.Written.{written_string}
use Rattle.bencode.specs.Value.{Value, Entries, str, dict, empty, entry, encode, Prev, start, last}
use Rattle.bencode_walk.specs.Has.{Has, here, there}
use Rattle.bencode_walk.specs.Stands.{Stands, StandEntries}
use Rattle.bencode_walk.specs.Lookup.{lookup}
use Rattle.bencode_walk.proofs.Standing.{dictionary-stands, entries_next}
use Rattle.bencode_fields.specs.Causes.{Other, other, NoString, no_string}
use Rattle.bencode_fields.specs.Values.{string_at}
use Rattle.bencode_fields.proofs.Checks.{Checks, checks-refused, checks-taken, checks-as, checks-is, checks-then, checks-last}
use Rattle.bencode_fields.proofs.Typed.{string-checks, dictionary-checks, kind-checks}
use Rattle.sheets.specs.Sheet.{IsRow, IsSheet, is-sheet}
use Rattle.sheets.specs.Rules.{rows_of, listed_under, sheet_at}
use Rattle.sheets.specs.Causes.{NoRows, bad-key, bad-address, later-row, NoSheet, no-dictionary, bad-row}

-- ---- rows

-- entries that are all rows
abbrev pub Rows : Entries → Type 0
Rows es = (k : List ℕ) (v : Value) → Has es k v → IsRow k v

abbrev Any : {A B : Type 0} → A → B → Type 0
Any x y = Unit {0}

no_rows : Rows empty
no_rows k v h = elim h [ ]

more_rows : (j : List ℕ) (w : Value) (es : Entries) → IsRow j w → Rows es → Rows (entry j w es)
more_rows j w es r h k v (here i u ds) = r
more_rows j w es r h k v (there i u ds l x m) = h l x m

none-bad : (p n q : ℕ) → NoRows p empty n q → ⊥
none-bad p n q h = elim h [ ]

module _ (p : ℕ) (k : List ℕ) where
  -- by a key of 20 bytes: no string under it, or a later row
  abbrev Later : Value → Entries → ℕ → ℕ → Type 0
  Later v es n q = NoString (p + length (written_string k)) v n q ⊎ ((bs : List ℕ) × (v ≡ str bs) × NoRows (p + length (written_string k) + length (encode v)) es n q)

  later-bad : (v : Value) (es : Entries) → length k ≡ 20 → (n q : ℕ) → Later v es n q → NoRows p (entry k v es) n q
  later-bad v es l n q (inl (no_string w h)) = bad-address p k v es l h
  later-bad v es l n q (inr (bs, e, h)) =
      subst (λ (w : Value). NoRows p (entry k w es) n q) (sym e) (later-row p k bs es n q l (subst (λ (w : Value). NoRows (p + length (written_string k) + length (encode w)) es n q) e h))

  bad-later : (v : Value) (es : Entries) → length k ≡ 20 → (n q : ℕ) → NoRows p (entry k v es) n q → Later v es n q
  bad-later v es l n q (bad-key o j w ds h) = absurd (h l)
  bad-later v es l n q (bad-address o j w ds i h) = inl (no_string v h)
  bad-later v es l n q (later-row o j bs ds m r i h) = inr (bs, refl, h)

  only-key : (v : Value) (es : Entries) → (length k ≡ 20 → ⊥) → (n q : ℕ) → NoRows p (entry k v es) n q → (n ≡ 15) × (q ≡ p)
  only-key v es f n q (bad-key o j w ds h) = (refl, refl)
  only-key v es f n q (bad-address o j w ds i h) = absurd (f i)
  only-key v es f n q (later-row o j bs ds m r i h) = absurd (f i)

pub rows-checks : (s : List ℕ) (d p : ℕ) (before : Prev) (es : Entries) → StandEntries s d p before es → Checks {M = Unit {0}} (rows_of p es) (λ u. Rows es) Any (NoRows p es)
unfolding rows_of
rows-checks s d p before empty t = checks-taken tt no_rows tt (λ u h. refl) (none-bad p)
rows-checks s d p before (entry k v es) t =
    let n = entries_next s d p before k v es t in
    go n.value (rows-checks s d (p + length (written_string k) + length (encode v)) (last k) es n.others) (eqb (length k) 20) refl
  where
    go : Stands s d (p + length (written_string k)) v → Checks {M = Unit {0}} (rows_of (p + length (written_string k) + length (encode v)) es) (λ u. Rows es) Any (NoRows (p + length (written_string k) + length (encode v)) es)
        → (b : Bool) → eqb (length k) 20 ≡ b
        → Checks {M = Unit {0}} (cond b (then (string_at (p + length (written_string k)) v) (λ x. rows_of (p + length (written_string k) + length (encode v)) es)) (refused peer p)) (λ u. Rows (entry k v es)) Any (NoRows p (entry k v es))
    go w c true e =
        let l = eqb-true (length k) 20 e in
        checks-as (checks-then (string-checks s d (p + length (written_string k)) v w) (λ x bs i sh. c))
        (λ x m h u. (tt, more_rows k v es (l, (m.0, h.0)) h.1, tt)) (λ u h. let r = h k v (here k v es) in ((r.1.0, tt), (r.1.1, λ j x i. h j x (there k v es j x i)), λ x u. tt))
        (later-bad p k v es l) (bad-later p k v es l)
    go w c false e =
        let f : length k ≡ 20 → ⊥ = λ l. cannot (eqb (length k) 20) e (eq-eqb (length k) 20 l) in
        checks-refused (λ u h. f (h k v (here k v es)).0) (bad-key p k v es f) (only-key p k v es f)

-- ---- the whole

pub rows-of : (es : Entries) → IsSheet (dict es) → Rows es
rows-of es (is-sheet ds h) = h

sheet-kind : (v : Value) (n p : ℕ) → NoSheet v n p → Other dict 0 v n p ⊎ ((es : Entries) × (v ≡ dict es))
sheet-kind v n p (no-dictionary w h) = inl (other w h)
sheet-kind v n p (bad-row es m q h) = inr (es, refl)

sheet-rows : (v : Value) → IsSheet v → (es : Entries) × (v ≡ dict es) × Rows es
sheet-rows v (is-sheet es h) = (es, refl, h)

by_rows : (es : Entries) (n p : ℕ) → NoSheet (dict es) n p → NoRows 1 es n p
by_rows es n p (no-dictionary v h) = absurd (h es refl)
by_rows es n p (bad-row ds m q h) = h

pub sheet-checks : (h s : List ℕ) (v : Value) → Stands s 32 0 v → Checks {M = Unit {0}} (sheet_at h v) (λ u. IsSheet v) Any (NoSheet v)
sheet-checks h s v t =
    checks-is
    (kind-checks NoSheet (dictionary-checks 0 v)
    (λ es e. let g = (dictionary-stands s 32 0 es (subst (Stands s 32 0) e t)).1 in
    checks-as (checks-last (λ x. listed_under (lookup 1 es h)) {Shows' = Any} (rows-checks s g.0 1 start es g.2) (λ x u r a. tt)) (λ x u r a. (tt, r, tt)) (λ u r. (tt, r, λ x a. tt)) (bad-row es) (by_rows es))
    (no-dictionary v) (sheet-kind v))
    (λ u r. subst IsSheet (sym r.1) (is-sheet r.0 r.2)) (λ u. sheet-rows v)
