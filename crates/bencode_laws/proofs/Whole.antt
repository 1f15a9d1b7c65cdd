-- The outcome of a whole text, by its length. Assumes nothing.
use mathlib.Core.Path.{◌≡◌, refl, sym, ap, ◌∙◌, subst}
use mathlib.Core.Bool.{Bool, true, false}
use mathlib.Core.List.{List}
use Prim.Native.Nat.{ℕ, zero, suc, ◌<◌, ◌≤◌}
use native.Mathlib.Omega.{arith}
use lib.Dec.{ltb}
use lib.ListN.{length}
use borrow.Author.Tests.{ltb-true, ltb-false, lt-ltb, le-ltb}
use Rattle.refusal.specs.Numbers.{long}
use Rattle.refusal.specs.Limits.{most_text, most_levels}
use Rattle.refusal.specs.Paper.{refused}
use Rattle.bencode.specs.Decode.{value_from, whole_of, decode}
use Rattle.bencode_laws.proofs.Fails.{Cause}
use Rattle.bencode_laws.proofs.Only.{only}
use Rattle.bencode_laws.proofs.Every.{Ended}

pub decode-short : (s : List ℕ) → length s ≤ most_text → decode s ≡ whole_of (value_from most_levels (length s) s 0 0)
unfolding decode
decode-short s h = rw (le-ltb most_text (length s) h)

pub decode-long : (s : List ℕ) → most_text < length s → decode s ≡ refused long 0
unfolding decode
decode-long s h = rw (lt-ltb most_text (length s) h)

pub caused : (s : List ℕ) (r p : ℕ) → length s ≤ most_text → decode s ≡ refused r p → Cause s r p
caused s r p h e = only s r p (sym (decode-short s h) ∙ e)

pub refuses : (s : List ℕ) (r p : ℕ) → length s ≤ most_text → Ended s r p → decode s ≡ refused r p
refuses s r p h x = decode-short s h ∙ ap whole_of x

by_length : {P : Type 0} (s : List ℕ) → (length s ≤ most_text → P) → (most_text < length s → P) → P
by_length {P} s x y = go (ltb most_text (length s)) refl
  where
    go : (t : Bool) → ltb most_text (length s) ≡ t → P
    go true e = y (ltb-true most_text (length s) e)
    go false e = x (ltb-false most_text (length s) e)

pub long-only : (s : List ℕ) (p : ℕ) → decode s ≡ refused long p → (most_text < length s) × (p ≡ 0)
long-only s p e = by_length s (λ h. absurd (caused s long p h e)) (λ h. let x = decode-long s h in (h, cc))

-- the numbers of refused texts
abbrev pub Numbered : ℕ → Type 0
Numbered r = (1 ≤ r) × (r ≤ 8) × (r ≡ 4 → ⊥)

pub eight : Numbered long
eight = (omega arith, omega arith, λ e. omega (arith, e))

-- those that have a cause
numbered : (s : List ℕ) (r p : ℕ) → Cause s r p → Numbered r
numbered s zero p c = absurd c
numbered s (suc zero) p c = (omega arith, omega arith, λ e. omega arith)
numbered s (suc (suc zero)) p c = (omega arith, omega arith, λ e. omega arith)
numbered s (suc (suc (suc zero))) p c = (omega arith, omega arith, λ e. omega arith)
numbered s (suc (suc (suc (suc zero)))) p c = absurd c
numbered s (suc (suc (suc (suc (suc zero))))) p c = (omega arith, omega arith, λ e. omega arith)
numbered s (suc (suc (suc (suc (suc (suc zero)))))) p c = (omega arith, omega arith, λ e. omega arith)
numbered s (suc (suc (suc (suc (suc (suc (suc zero))))))) p c = (omega arith, omega arith, λ e. omega arith)
numbered s (suc (suc (suc (suc (suc (suc (suc (suc r)))))))) p c = absurd c

pub one_of : (s : List ℕ) (r p : ℕ) → decode s ≡ refused r p → Numbered r
one_of s r p e = by_length s (λ h. numbered s r p (caused s r p h e)) (λ h. let x = decode-long s h in let y : long ≡ r = cc in subst Numbered y eight)
