-- For every sequence of bytes exactly one answer, and what decides it. Assumes nothing.
use mathlib.Core.Path.{◌≡◌, refl, ◌∙◌}
use mathlib.Core.Logic.{◌⊎◌, inl, inr}
use mathlib.Core.List.{List}
use Prim.Native.Nat.{ℕ, ◌+◌, ◌≤◌, ◌<◌}
use native.Mathlib.Omega.{arith}
use borrow.Author.Tests.{ltb-true, ltb-false, eqb-true, eqb-false}
use lib.Dec.{ltb, eqb}
use lib.ListN.{length, get_or}
use Rattle.refusal.specs.Limits.{longest_frame}
use Rattle.refusal.specs.Numbers.{frame, payload}
use Rattle.refusal.specs.Paper.{Outcome, taken, refused}
use Rattle.refusal.proofs.Cases.{by-test}
use Rattle.peer_wire.specs.Frames.{allowed, Found, wait, found, sized_of, read_of}
use Rattle.peer_wire.specs.Causes.{named, Few, TooLong, Cut, All, Right, Cause}
use Rattle.peer_wire.proofs.Steps.{allowed-true, allowed-if, allowed-false, allowed-not, sized-long, sized-zero, sized-wait, sized-wrong, sized-whole, read-few, read-sized}

module _ (s : List ℕ) where
  sized-decided : 4 ≤ length s → Cause s (sized_of s (named s))
  unfolding sized_of
  sized-decided there =
      by-test (Cause s) (ltb longest_frame (named s)) (λ e. (inl (refl, (there, ltb-true longest_frame (named s) e)), refl))
      (λ e. by-test (Cause s) (eqb (named s) 0) (λ f. inl ((there, eqb-true (named s) 0 f), refl, refl))
      (λ f. let some : 0 < named s = positive (eqb-false (named s) 0 f) in let few = ltb-false longest_frame (named s) e in
      by-test (Cause s) (ltb (length s) (4 + named s)) (λ g. inr (there, some, few, ltb-true (length s) (4 + named s) g))
      (λ g. let all : All s = (some, few, ltb-false (length s) (4 + named s) g) in
      by-test (Cause s) (allowed (get_or s 4 0) (named s)) (λ h. inr (all, allowed-true (get_or s 4 0) (named s) h, refl, refl))
      (λ h. (inr (refl, all, allowed-false (get_or s 4 0) (named s) h), refl)))))
    where
      positive : (named s ≡ 0 → ⊥) → 0 < named s
      positive h = omega arith

  decided : Cause s (read_of s)
  unfolding read_of
  decided = by-test (Cause s) (ltb (length s) 4) (λ e. inl (ltb-true (length s) 4 e)) (λ e. sized-decided (ltb-false (length s) 4 e))

  -- each way to a cause
  from-few : Few s ⊎ Cut s → read_of s ≡ taken wait
  from-few (inl h) = read-few s h
  from-few (inr h) = read-sized s h.0 ∙ sized-wait s (named s) h.2 h.1 h.3

  pub decides : (o : Outcome Found) → Cause s o → read_of s ≡ o
  decides (taken wait) h = from-few h
  decides (taken (found m used)) (inl h) = read-sized s h.0.0 ∙ sized-zero s (named s) h.0.1 ∙ rw (h.1, h.2)
  decides (taken (found m used)) (inr (a, r, e, u)) =
      read-sized s (omega arith) ∙ sized-whole s (named s) a.1 a.0 a.2 (allowed-if (get_or s 4 0) (named s) r) ∙ rw (e, u)
  decides (refused n p) (inl h, z) = read-sized s h.1.0 ∙ sized-long s (named s) h.1.1 ∙ rw (h.0, z)
  decides (refused n p) (inr (e, a, r), z) =
      read-sized s (omega arith) ∙ sized-wrong s (named s) a.1 a.0 a.2 (allowed-not (get_or s 4 0) (named s) r) ∙ rw (e, z)

  -- an answer is given exactly for its cause
  pub exactly : (o : Outcome Found) → (read_of s ≡ o → Cause s o) × (Cause s o → read_of s ≡ o)
  exactly o = (λ e. rw e at decided, decides o)

  -- and so for each by itself
  pub wait-exactly : (read_of s ≡ taken wait → Few s ⊎ Cut s) × (Few s ⊎ Cut s → read_of s ≡ taken wait)
  wait-exactly = exactly (taken wait)

  pub twenty-exactly : (read_of s ≡ refused frame 0 → TooLong s) × (TooLong s → read_of s ≡ refused frame 0)
  twenty-exactly = (λ e. go ((exactly (refused frame 0)).0 e), λ h. decides (refused frame 0) (inl (refl, h), refl))
    where
      go : Cause s (refused frame 0) → TooLong s
      go (inl h, z) = h.1
      go (inr h, z) = let e = h.0 in absurd (omega arith)

  pub twenty-one-exactly : (read_of s ≡ refused payload 0 → All s × (Right s → ⊥)) × (All s × (Right s → ⊥) → read_of s ≡ refused payload 0)
  twenty-one-exactly = (λ e. go ((exactly (refused payload 0)).0 e), λ h. decides (refused payload 0) (inr (refl, h.0, h.1), refl))
    where
      go : Cause s (refused payload 0) → All s × (Right s → ⊥)
      go (inl h, z) = let e = h.0 in absurd (omega arith)
      go (inr h, z) = (h.1, h.2)
