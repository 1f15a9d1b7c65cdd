-- What a call says to C, by what the call below it answers; and what C reads from the word of a refusal: its number and its place. Assumes nothing.
use mathlib.Core.Path.{◌≡◌, ap, ◌∙◌}
use native.Mathlib.Omega.{arith}
use Prim.Native.Nat.{ℕ, ◌<◌, ◌+◌, ◌*◌, ◌/◌, ◌%◌, ◌^◌}
use Rattle.refusal.specs.Paper.{Outcome, refused}
use Rattle.refusal.specs.declared.Part.{Part}
use Rattle.sheets.specs.declared.Source.{Source}
use Rattle.sheets.specs.declared.Source.TheVariants.{Torrent, Sheet}
use Rattle.wardrail.specs.Said.{word_of, number_in, place_in, text_in, left_of, Tells}
use Rattle.wardrail.specs.Addresses.{word_from, text_number}

-- the answer a, which the contract says is x, is the case b, and g is what C is told of an answer
pub tells : {A D : Type 0} (g : Outcome A → Outcome D) {b a x : Outcome A} {was d : D} {r : ℕ} → b ≡ a → a ≡ x → r ≡ word_of (g b) → d ≡ left_of (g b) was → Tells (g x) was r d
tells {A} g {was = was} e f k h =
    record {
      word = k ∙ ap (λ (y : Outcome A). word_of (g y)) (e ∙ f);
      left = h ∙ ap (λ (y : Outcome A). left_of (g y) was) (e ∙ f);
    }

-- ---- what C reads from the word of a refusal

number_of : (n p : ℕ) → n < 256 → (n + 256 * (p % 2 ^ 56)) % 256 ≡ n
number_of n p h = omega arith

place_of : (n p : ℕ) → n < 256 → p < 2 ^ 55 → (n + 256 * (p % 2 ^ 56)) / 256 % 2 ^ 55 ≡ p
place_of n p h k = omega arith

pub number-told : {A : Type 0} (x : Outcome A) (n p : ℕ) → x ≡ refused n p → n < 256 → number_in (word_of x) ≡ n
number-told {A} x n p e h = ap (λ (y : Outcome A). number_in (word_of y)) e ∙ number_of n p h

pub place-told : {A : Type 0} (x : Outcome A) (n p : ℕ) → x ≡ refused n p → n < 256 → p < 2 ^ 55 → place_in (word_of x) ≡ p
place-told {A} x n p e h k = ap (λ (y : Outcome A). place_in (word_of y)) e ∙ place_of n p h k

-- ---- the same from that of a refusal of one of two texts, and which of them it is

pub number-from : (c : Source) (x : Outcome Part) (n p : ℕ) → x ≡ refused n p → n < 256 → number_in (word_from c x) ≡ n
number-from c x n p e h = ap (λ (y : Outcome Part). number_in (word_from c y)) e ∙ go c
  where
    go : (k : Source) → number_in (word_from k (refused n p)) ≡ n
    go Torrent = number_of n p h
    go Sheet = omega arith

pub place-from : (c : Source) (x : Outcome Part) (n p : ℕ) → x ≡ refused n p → n < 256 → p < 2 ^ 55 → place_in (word_from c x) ≡ p
place-from c x n p e h k = ap (λ (y : Outcome Part). place_in (word_from c y)) e ∙ go c
  where
    go : (d : Source) → place_in (word_from d (refused n p)) ≡ p
    go Torrent = place_of n p h k
    go Sheet = omega arith

pub text-from : (c : Source) (x : Outcome Part) (n p : ℕ) → x ≡ refused n p → n < 256 → p < 2 ^ 55 → text_in (word_from c x) ≡ text_number c
text-from c x n p e h k = ap (λ (y : Outcome Part). text_in (word_from c y)) e ∙ go c
  where
    go : (d : Source) → text_in (word_from d (refused n p)) ≡ text_number d
    go Torrent = omega arith
    go Sheet = omega arith
