-- The order of two keys from a place on. Assumes nothing.
use Rattle.std.proofs.Common.{◌≡◌, refl, sym, ◌∙◌, Bool, true, false, List, [], ℕ, ◌+◌, ◌<◌, ◌≤◌, min, arith, add-one, ltb, length, get_or, drop, drop_of_length-le}
use lib.Seq.{drop-cons}
use borrow.Author.Tests.{lt-ltb, le-ltb, ltb-true, ltb-false}
use Rattle.refusal.proofs.Cases.{less-or}
use Rattle.bencode_scalar.specs.Written.{key_lt}

-- the first i bytes of both are the same
pub record Comparing (a b : List ℕ) (i : ℕ) : Type 0 where
  pub within : i ≤ length a
  pub within-too : i ≤ length b
  pub same : key_lt a b ≡ key_lt (drop i a) (drop i b)

module _ (a b : List ℕ) where
  pub comparing-start : Comparing a b 0
  comparing-start = record { within = omega arith; within-too = omega arith; same = refl }

  module _ {i : ℕ} (c : Comparing a b i) where
    pub comparing-more : i < length a → i < length b → get_or b i 0 ≤ get_or a i 0 → get_or a i 0 ≤ get_or b i 0 → Comparing a b (i + 1)
    unfolding key_lt
    comparing-more h k x y = record {
      within = omega arith;
      within-too = omega arith;
      same = c.same ∙ rw (add-one, drop-cons a i 0 h, drop-cons b i 0 k, le-ltb _ _ x, le-ltb _ _ y);
    }

    pub comparing-less : i < length a → i < length b → get_or a i 0 < get_or b i 0 → true ≡ key_lt a b
    unfolding key_lt
    comparing-less h k x = sym (c.same ∙ rw (drop-cons a i 0 h, drop-cons b i 0 k, lt-ltb _ _ x))

    pub comparing-greater : i < length a → i < length b → get_or b i 0 ≤ get_or a i 0 → get_or b i 0 < get_or a i 0 → false ≡ key_lt a b
    unfolding key_lt
    comparing-greater h k x y = sym (c.same ∙ rw (drop-cons a i 0 h, drop-cons b i 0 k, le-ltb _ _ x, lt-ltb _ _ y))

    pub comparing-long : i < length a → length b ≤ i → false ≡ key_lt a b
    unfolding key_lt
    comparing-long h k = sym (c.same ∙ rw (drop-cons a i 0 h, drop_of_length-le b k))

    short : length a ≤ i → (t : Bool) → ltb (length a) (length b) ≡ t → ltb (length a) (length b) ≡ key_lt [] (drop i b)
    unfolding key_lt
    short h true e = let k : i < length b = omega (arith, ltb-true (length a) (length b) e, c.within) in rw (drop-cons b i 0 k) e
    short h false e = let k : length b ≤ i = omega (arith, ltb-false (length a) (length b) e) in rw (drop_of_length-le b k) e

    pub comparing-short : length a ≤ i → ltb (length a) (length b) ≡ key_lt a b
    comparing-short h = short h (ltb (length a) (length b)) refl ∙ sym (c.same ∙ rw (drop_of_length-le a h))

    -- where they differ, the lesser byte decides: p is below q exactly where a's is below b's
    pub comparing-differ : i < length a → i < length b → (p q : ℕ) → (p < q → get_or a i 0 < get_or b i 0) → (q ≤ p → get_or b i 0 < get_or a i 0) → ltb p q ≡ key_lt a b
    comparing-differ h k p q less more =
        less-or p q (λ l. lt-ltb p q l ∙ comparing-less h k (less l)) (λ l. le-ltb p q l ∙ comparing-greater h k (omega (arith, more l)) (more l))

    -- and where one ends, the lengths
    pub comparing-ended : i ≡ min (length a) (length b) → ltb (length a) (length b) ≡ key_lt a b
    comparing-ended e =
        less-or i (length a) (λ h. le-ltb (length a) (length b) (omega arith) ∙ comparing-long h (omega arith))
        (λ h. comparing-short h)
