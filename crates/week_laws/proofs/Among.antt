-- The search for a hash among those given before finds it exactly when it is one of them. Assumes nothing.
use mathlib.Core.Path.{◌≡◌, refl, sym, ap, ◌∙◌}
use mathlib.Core.Logic.{⊎_elim}
use mathlib.Core.Bool.{Bool, true, false, ◌||◌, or-true}
use mathlib.Core.List.{List, [], ◌∷◌}
use mathlib.Core.List.Memᴰ
use mathlib.Core.List.{Memᴰ as In}
use Prim.Native.Nat.{ℕ}
use Rattle.refusal.proofs.Cases.{cannot, or_cases, false-if}
use Rattle.hash_sha1.specs.Digest.{same}
use Rattle.hash_sha1.proofs.Same.{same_refl, same-equal}
use Rattle.week.specs.Rules.{among}

pub among_in : (h : List ℕ) (seen : List (List ℕ)) → among h seen ≡ true → In h seen
unfolding among
among_in h [] e = cannot false refl e
among_in h (x ∷ xs) e =
    ⊎_elim (λ (f : same x h ≡ true). In.head (sym (same-equal x h f))) (λ (f : among h xs ≡ true). In.tail (among_in h xs f)) (or_cases (same x h) (among h xs) e)

pub in-among : (h : List ℕ) (seen : List (List ℕ)) → In h seen → among h seen ≡ true
unfolding among
in-among h [] i = absurd (Memᴰ.not-nil i)
in-among h (x ∷ xs) i =
    ⊎_elim (λ (e : h ≡ x). rw (ap (λ (y : List ℕ). same y h) (sym e) ∙ same_refl h)) (λ (j : In h xs). ap (λ (t : Bool). same x h || t) (in-among h xs j) ∙ or-true (same x h)) (Memᴰ.cases_cons i)

module _ (h : List ℕ) (seen : List (List ℕ)) where
  -- it is not found exactly when it is none of them
  pub among-not : among h seen ≡ false → In h seen → ⊥
  among-not e i = cannot (among h seen) e (in-among h seen i)

  pub not-among : (In h seen → ⊥) → among h seen ≡ false
  not-among n = false-if (among h seen) (λ e. n (among_in h seen e))
