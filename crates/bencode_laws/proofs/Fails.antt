-- What a reader's refusal is, by its number, and how far reading has come. Assumes nothing.
use mathlib.Core.Path.{◌≡◌, subst₃}
use mathlib.Core.List.{List, ◌++◌}
use Prim.Native.Nat.{ℕ, zero, suc, ◌+◌, ◌<◌, ◌≤◌}
use native.Mathlib.Omega.{arith}
use lib.Dec.{ltb}
use lib.ListN.{length, length-append}
use borrow.Author.Tests.{ltb-true, ltb-false}
use Rattle.refusal.specs.Numbers.{many}
use Rattle.refusal.specs.Limits.{most_values}
use Rattle.refusal.proofs.Cases.{by-test}
use Rattle.bencode_scalar.specs.Written.{written_string}
use Rattle.bencode_scalar.specs.Reading.{Got, got, bad, and_then, map_got}
use Rattle.bencode_scalar.proofs.Sound.{Holds}
use Rattle.bencode.specs.Value.{encode}
use Rattle.bencode.specs.Decode.{begin}
use Rattle.bencode_laws.specs.Causes.{Due, Comes, top, an_item, in_list, past-item, in-dictionary, past-key, past-entry, Cut, Byte, Order, Deep, Many, After}

-- the cause that a number stands for; 4 has none
abbrev pub Cause : List ℕ → ℕ → ℕ → Type 0
Cause s zero p = ⊥
Cause s (suc zero) p = Cut s p
Cause s (suc (suc zero)) p = Byte s p
Cause s (suc (suc (suc zero))) p = Order s p
Cause s (suc (suc (suc (suc zero)))) p = ⊥
Cause s (suc (suc (suc (suc (suc zero))))) p = Deep s p
Cause s (suc (suc (suc (suc (suc (suc zero)))))) p = Many s p
Cause s (suc (suc (suc (suc (suc (suc (suc zero))))))) p = After s p
Cause s (suc (suc (suc (suc (suc (suc (suc (suc r)))))))) p = ⊥

-- Q of a refusal, if there is one
abbrev pub Fails : {A : Type 0} → (ℕ → ℕ → Type 0) → Got A → Type 0
Fails Q (got v l q m) = Unit
Fails Q (bad r p) = Q r p

module _ {A : Type 0} (Q : ℕ → ℕ → Type 0) where
  pub fails-map : {B : Type 0} (f : A → B) (g : Got A) → Fails Q g → Fails Q (map_got f g)
  fails-map f (got v l q m) h = tt
  fails-map f (bad r p) h = h

  pub fails-then : {B : Type 0} (P : A → List ℕ → ℕ → ℕ → Type 0) (g : Got A) (f : A → List ℕ → ℕ → ℕ → Got B)
      → Holds P g → Fails Q g → ((v : A) (l : List ℕ) (q m : ℕ) → P v l q m → Fails Q (f v l q m)) → Fails Q (and_then g f)
  fails-then P (got v l q m) f h x k = k v l q m h
  fails-then P (bad r p) f h x k = x

  pub fails-begin : (n p : ℕ) (g : Got A) → (n < most_values → Fails Q g) → (most_values ≤ n → Q many p) → Fails Q (begin n p g)
  fails-begin n p g h k = by-test (Fails Q) (ltb n most_values) (λ e. h (ltb-true n most_values e)) (λ e. k (ltb-false n most_values e))

-- what is left, by its place
pub place : {s l : List ℕ} {w : Due} {p n d : ℕ} → Comes s w l p n d → p + length l ≡ length s
place top = omega arith
place (an_item c y) = place c
place (in_list c h) = omega (arith, place c)
place (past-item {l} v c k h) = omega (arith, place c, length-append (encode v) l)
place (in-dictionary c h) = omega (arith, place c)
place (past-key {l} k c f h) = omega (arith, place c, length-append (written_string k) l)
place (past-entry {l} k v c f j h) = omega (arith, place c, length-append (written_string k) (encode v ++ l), length-append (encode v) l)

-- the same place, written otherwise
pub moved : {s l r : List ℕ} {w : Due} {p q n m d : ℕ} → Comes s w l p n d → l ≡ r → p ≡ q → n ≡ m → Comes s w r q m d
moved {s} {w = w} {d = d} c x y z = subst₃ (λ (l : List ℕ) (p n : ℕ). Comes s w l p n d) x y z c
