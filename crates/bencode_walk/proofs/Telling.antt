-- What every look says of itself: a string's bytes end where it does, and an integer's number, or the part with its sign and digits, is what stands there. Assumes nothing.
use mathlib.Core.Path.{◌≡◌, refl, sym, ap, ◌∙◌, subst}
use mathlib.Core.Bool.{true, false}
use mathlib.Core.Logic.{◌↔◌}
use mathlib.Core.List.{List, [], ◌∷◌}
use Prim.Native.Nat.{ℕ, ◌+◌, ◌-◌, ◌≤◌}
use native.Mathlib.Omega.{arith}
use lib.Dec.{ltb, eqb}
use lib.IntN.{ℤ}
use lib.ListN.{length, drop, length-append, length-drop}
use borrow.Author.Tests.{ltb-false}
use Rattle.refusal.specs.Numbers.{cut}
use Rattle.refusal.specs.Limits.{most_text}
use Rattle.refusal.specs.Paper.{Outcome, taken, refused}
use Rattle.refusal.proofs.Cases.{by-test}
use Rattle.bencode_scalar.specs.Written.{signed, written_int, in_range}
use Rattle.bencode_scalar.specs.Reading.{Got, got, bad, on_head, string_at, integer_at}
use Rattle.bencode_scalar.proofs.Sound.{Holds, IntP, integer-at-sound}
use Rattle.bencode.specs.Value.{int, encode, count, Keeps}
use Rattle.bencode_walk.specs.Walk.{Head, string, integer, long, list, dictionary, end, string_head, integer_head, look_at_of, look_of}
use Rattle.bencode_walk.specs.Stands.{Stands}
use Rattle.bencode_walk.proofs.Standing.{number-stands, long-stands}

module _ (s : List ℕ) (d p : ℕ) where
  -- an integer outside 64 bits, by m bytes from a on; q is past it
  abbrev Outside : ℕ → ℕ → ℕ → Type 0
  Outside a m q = (z : ℤ) × (in_range z ≡ false) × Stands s d p (int z) × (q ≡ p + length (written_int z)) × (a ≡ p + 1) × (m ≡ length (signed z))

  abbrev Told : Outcome Head → Type 0
  Told (taken (string a m q)) = a ≡ q - m
  Told (taken (integer z q)) = (in_range z ≡ true) × Stands s d p (int z) × (q ≡ p + length (written_int z))
  Told (taken (long a m q)) = Outside a m q
  Told (taken (list q)) = Unit
  Told (taken (dictionary q)) = Unit
  Told (taken (end q)) = Unit
  Told (refused n o) = Unit

  string-told : (g : Got (List ℕ)) → Told (string_head g)
  string-told (got k l q n) = refl
  string-told (bad r o) = tt

  here : length s ≤ most_text → (z : ℤ) (r : List ℕ) (q n : ℕ) → IntP (drop p s) p 0 z r q n → Stands s d p (int z)
  unfolding encode count Keeps
  here l z r q n h = record { rest = r; text = h.0.text; inside = omega (arith, length-drop p s, ap length h.0.text); short = l; keeps = tt; few = omega arith }

  integer-told : length s ≤ most_text → (g : Got ℤ) → Holds (IntP (drop p s) p 0) g → Told (integer_head p g)
  integer-told l (got z r q n) h =
      by-test (λ (x : Head). Told (taken x)) (in_range z) (λ e. (e, here l z r q n h, h.0.place))
      (λ e. (z, e, here l z r q n h, h.0.place, refl, omega (arith, h.0.place, length-append (signed z) (101 ∷ []))))
  integer-told l (bad r o) h = tt

  told : Told (look_of s p)
  unfolding look_of
  told = by-test Told (ltb most_text (length s)) (λ e. tt) (λ e. go (ltb-false most_text (length s) e) (drop p s))
    where
      go : length s ≤ most_text → (l : List ℕ) → Told (on_head l (refused cut (length s)) (λ b t. look_at_of s p b))
      go h [] = tt
      go h (b ∷ t) =
          by-test Told (eqb b 105) (λ e. integer-told h (integer_at (length s) (drop p s) p 0) (integer-at-sound (length s) (drop p s) p 0))
          (λ e. by-test Told (eqb b 108) (λ f. tt)
          (λ f. by-test Told (eqb b 100) (λ g. tt)
          (λ g. by-test Told (eqb b 101) (λ i. tt) (λ i. string-told (string_at (length s) (drop p s) p 0)))))

  pub string-from : (a m q : ℕ) → look_of s p ≡ taken (string a m q) → a ≡ q - m
  string-from a m q e = subst Told e told

  -- a number is told exactly where it stands, from -2^63 to 2^63 - 1
  pub number-exact : (z : ℤ) (q : ℕ) → look_of s p ≡ taken (integer z q) ↔ ((in_range z ≡ true) × Stands s d p (int z) × (q ≡ p + length (written_int z)))
  number-exact z q = (λ e. subst Told e told, λ (i, t, e). number-stands s d p z i t ∙ ap (λ (o : ℕ). taken (integer z o)) (sym e))

  -- and any other by the part between its i and its e
  pub long-exact : (a m q : ℕ) → look_of s p ≡ taken (long a m q)
      ↔ ((z : ℤ) × (in_range z ≡ false) × Stands s d p (int z) × (q ≡ p + length (written_int z)) × (a ≡ p + 1) × (m ≡ length (signed z)))
  long-exact a m q = (λ e. subst Told e told, λ (z, o, t, w, x, y). long-stands s d p z o t ∙ rw (w, x, y))
