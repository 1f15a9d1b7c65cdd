-- Following `next` through pages of a list in ascending order yields that list. Assumes nothing.
use mathlib.Core.Path.{◌≡◌, refl, sym, ap, subst, ◌∙◌}
use mathlib.Core.Logic.{inl, inr}
use mathlib.Core.Bool.{Bool, true, false}
use mathlib.Core.List.Memᴰ
use mathlib.Core.List.Memᴰ.{head as here}
use mathlib.Core.List.Memᴰ.{tail as there}
use mathlib.Core.List.{List, [], ◌∷◌, ◌++◌, append-nil, drop_last, flat_map, Memᴰ as In}
use Prim.Native.Nat.{ℕ, zero, suc, ◌+◌, ◌≤◌, ◌<◌}
use native.Mathlib.Omega.{arith}
use lib.ListN.{length, get_or, take, drop, length-take, length-drop, take-append-drop, get_or-eq_default}
use lib.Seq.{take_all, get_or-drop, drop-drop}
use Rattle.refusal.proofs.Cases.{cannot, less-or, by_bool}
use Rattle.paging_laws.specs.Pages.{Ascends, one, from, Printed, PageOf, Follows, asks, asks-on, Yields}

-- a place of a list has one of its own
at_place : {A : Type 0} (l : List A) (k : ℕ) (d : A) → k < length l → In (get_or l k d) l
at_place [] k d h = absurd (omega arith)
at_place (a ∷ l) zero d h = here refl
at_place (a ∷ l) (suc k) d h = there (at_place l k d (omega arith))

-- where none is before a, all are left
pub from_all : {A : Type 0} (before : A → A → Bool) (a : A) (l : List A) → ((b : A) → In b l → before b a ≡ false) → from before a l ≡ l
from_all before a [] later = refl
from_all before a (b ∷ l) later = rw (later b (here refl), from_all before a l (λ c i. later c (there i)))

module _ {A : Type 0} (before : A → A → Bool) (one_way : (a b : A) → before a b ≡ true → before b a ≡ false) where
  not_itself : (a : A) → before a a ≡ false
  not_itself a = by_bool (before a a) (one_way a a) (λ e. e)

  -- from one of the list on, that one and those after it are left
  from_place : (l : List A) → Ascends before l → (k : ℕ) (d : A) → k < length l → from before (get_or l k d) l ≡ drop k l
  from_place [] s k d h = absurd (omega arith)
  from_place (a ∷ l) (one _ _ lower s) zero d h = rw (not_itself a, from_all before a l (λ b i. one_way a b (lower b i)))
  from_place (a ∷ l) (one _ _ lower s) (suc k) d h = rw (lower (get_or l k d) (at_place l k d (omega arith))) (from_place l s k d (omega arith))

  module _ (l : List A) (ascends : Ascends before l) (end : A) (within : (a : A) → In a l → before a end ≡ true) where
    -- a place of it is not the end, nor after it
    place-within : (k : ℕ) → get_or l k end ≡ end → length l ≤ k
    place-within k e = less-or k (length l)
        (λ h. cannot (before end end) (not_itself end) (subst (λ (a : A). before a end ≡ true) e (within (get_or l k end) (at_place l k end h))))
        (λ h. h)

    not-past : (k : ℕ) → before end (get_or l k end) ≡ false
    not-past k = less-or k (length l)
        (λ h. one_way (get_or l k end) end (within (get_or l k end) (at_place l k end h)))
        (λ h. ap (before end) (get_or-eq_default l end h) ∙ not_itself end)

    -- ---- a page, when k of the list were written before it

    module _ (k : ℕ) (a : A) (left : from before a l ≡ drop k l) (s : Printed A) (p : PageOf before l end a s) where
      lines_are : s.lines ≡ take s.room (drop k l)
      lines_are = p.written ∙ ap (take s.room) left

      next-is : s.next ≡ get_or l (k + s.room) end
      next-is = p.onward ∙ ap (λ (r : List A). get_or r s.room end) left ∙ get_or-drop k l s.room end

      more_left : (s.next ≡ end → ⊥) → k + s.room < length l
      more_left on = less-or (k + s.room) (length l) (λ h. h) (λ h. absurd (on (next-is ∙ get_or-eq_default l end h)))

      none_left : s.next ≡ end → length l ≤ k + s.room
      none_left e = place-within (k + s.room) (sym next-is ∙ e)

      next-left : (s.next ≡ end → ⊥) → from before s.next l ≡ drop (k + s.room) l
      next-left on = ap (λ (b : A). from before b l) next-is ∙ from_place l ascends (k + s.room) end (more_left on)

      full-one : (s.next ≡ end → ⊥) → length s.lines ≡ s.room
      full-one on = ap length lines_are ∙ omega (arith, length-take s.room (drop k l), length-drop k l, more_left on)

      told_more : (more : List (Printed A)) → ((q : Printed A) → In q more → (q.number ≡ 0) × (q.total ≡ length l))
          → (q : Printed A) → In q (s ∷ more) → (q.number ≡ 0) × (q.total ≡ length l)
      told_more more g q i =
          elim (Memᴰ.cases_cons i) [ inl e ↦ subst (λ (t : Printed A). (t.number ≡ 0) × (t.total ≡ length l)) (sym e) (p.taken, p.counted) | inr j ↦ g q j ]

      -- it is the last
      yields-one : Yields (length l) (drop k l) end (s ∷ []) s.next
      unfolding flat_map
      yields-one = record {
        told = told_more [] (λ q i. absurd (Memᴰ.not-nil i));
        some = omega arith;
        few = omega arith;
        ends = λ on. omega (arith, more_left on, p.roomy, length-drop k l);
        full = λ q i. absurd (Memᴰ.not-nil i);
        all = λ e. append-nil s.lines ∙ lines_are ∙ take_all s.room (drop k l) (omega (arith, none_left e, length-drop k l));
      }

      -- more come after it
      yields_more : (more : List (Printed A)) (next : A) → (s.next ≡ end → ⊥) → Yields (length l) (drop (k + s.room) l) end more next → Yields (length l) (drop k l) end (s ∷ more) next
      unfolding flat_map
      yields_more more next on g = record {
        told = told_more more g.told;
        some = omega arith;
        few = omega (arith, g.few, more_left on, p.roomy, length-drop k l, length-drop (k + s.room) l);
        ends = λ e. omega (arith, g.ends e, more_left on, p.roomy, length-drop k l, length-drop (k + s.room) l);
        full = fuller more g.full;
        all = λ e.
            ap (λ (r : List A). s.lines ++ r) (g.all e ∙ sym (drop-drop s.room k l))
            ∙ ap (λ (r : List A). r ++ drop s.room (drop k l)) lines_are
            ∙ take-append-drop s.room (drop k l);
      }
        where
          fuller : (rest : List (Printed A)) → ((q : Printed A) → In q (drop_last rest) → length q.lines ≡ q.room)
              → (q : Printed A) → In q (drop_last (s ∷ rest)) → length q.lines ≡ q.room
          fuller [] full q i = absurd (Memᴰ.not-nil i)
          fuller (r ∷ rest) full q i = elim (Memᴰ.cases_cons i) [ inl e ↦ subst (λ (t : Printed A). length t.lines ≡ t.room) (sym e) (full-one on) | inr j ↦ full q j ]

    -- ---- all pages, where each call from a place up to the end leaves what it finds and gives a page of the list

    module _ {State : Type 0} (Asks : State → A → Printed A → State → Type 0) (x : State)
        (right : (a : A) (s : Printed A) (z : State) → before end a ≡ false → Asks x a s z → (z ≡ x) × PageOf before l end a s) where
      reads : (y : State) (a : A) (pages : List (Printed A)) (next : A) (k : ℕ) → y ≡ x → before end a ≡ false → from before a l ≡ drop k l
          → Follows Asks end y a pages next → Yields (length l) (drop k l) end pages next
      reads y a pages next k e h left (asks _ z _ s call) = yields-one k a left s (right a s z h (subst (λ (w : State). Asks w a s z) e call)).1
      reads y a pages next k e h left (asks-on _ z _ _ s more call on rest) =
          let (f, p) = right a s z h (subst (λ (w : State). Asks w a s z) e call) in
          let past : before end s.next ≡ false = ap (before end) (next-is k a left s p) ∙ not-past (k + s.room) in
          yields_more k a left s p more next on (reads z s.next more next (k + s.room) f past (next-left k a left s p on) rest)

      -- from a first place on that none of the list is before
      pub follows-yields : (first : A) → before end first ≡ false → ((a : A) → In a l → before a first ≡ false) → (pages : List (Printed A)) (next : A)
          → Follows Asks end x first pages next → Yields (length l) l end pages next
      follows-yields first h later pages next f = reads x first pages next 0 refl h (from_all before first l later) f
