-- A list in ascending order, read page by page: what a page is, what a caller does, and what that yields. Of any list: seats, or seats in depots. Assumes nothing: these are
-- definitions.
use Rattle.std.specs.Prelude.{◌≡◌, Bool, true, cond, ℕ, ◌≤◌, ◌<◌, max, length, get_or, take}
use mathlib.Core.List.{List, [], ◌∷◌, drop_last, flat_map, Memᴰ as In}

-- ---- the list

-- each comes before all that follow
pub data Ascends {A : Type 0} (before : A → A → Bool) : List A → Type 0 where
  none : Ascends before []
  one : (a : A) (l : List A) → ((b : A) → In b l → before a b ≡ true) → Ascends before l → Ascends before (a ∷ l)

-- those that are not before a
abbrev pub from : {A : Type 0} → (A → A → Bool) → A → List A → List A
from before a [] = []
from before a (b ∷ l) = let r = from before a l in cond (before b a) r (b ∷ r)

-- ---- a page

-- what a caller has of one: the number that the call gave, how many lines there was room for, what was written on them, the total and the next
pub record Printed (A : Type 0) : Type 0 where
  pub number : ℕ
  pub room : ℕ
  pub lines : List A
  pub total : ℕ
  pub next : A

-- a page of the list l from a on, not refused and with room for a line: as many lines as fit, l's length, and the first of them that is not on it, or the end
pub record PageOf {A : Type 0} (before : A → A → Bool) (l : List A) (end a : A) (p : Printed A) : Type 0 where
  pub taken : p.number ≡ 0
  pub roomy : 1 ≤ p.room
  pub written : p.lines ≡ take p.room (from before a l)
  pub counted : p.total ≡ length l
  pub onward : p.next ≡ get_or (from before a l) p.room end

-- what is written on some, one after the other
abbrev pub printed : {A : Type 0} → List (Printed A) → List A
printed {A} pages = flat_map (λ (p : Printed A). p.lines) pages

-- ---- what a caller does

-- the pages asked for one after the other, with no other call between: the first from a on, each further one from what the page before called next, as long as that is
-- not the end. `Asks x a p z`: a call from a on finds x, gives the page p and leaves z. `next` is what the last page called so
pub data Follows {State A : Type 0} (Asks : State → A → Printed A → State → Type 0) (end : A) : State → A → List (Printed A) → A → Type 0 where
  asks : (x z : State) (a : A) (p : Printed A) → Asks x a p z → Follows Asks end x a (p ∷ []) p.next
  asks-on : (x z : State) (a next : A) (p : Printed A) (more : List (Printed A)) → Asks x a p z → (p.next ≡ end → ⊥) → Follows Asks end z p.next more next
      → Follows Asks end x a (p ∷ more) next

-- ---- what that yields: the list l, of `total` lines

pub record Yields {A : Type 0} (total : ℕ) (l : List A) (end : A) (pages : List (Printed A)) (next : A) : Type 0 where
  -- none is refused, and each page has the same total
  pub told : (p : Printed A) → In p pages → (p.number ≡ 0) × (p.total ≡ total)
  -- it ends: at least one page is read, and at most as many as l has lines, or one; as long as `next` is not the end, fewer
  pub some : 1 ≤ length pages
  pub few : length pages ≤ max 1 (length l)
  pub ends : (next ≡ end → ⊥) → length pages < length l
  -- each page but the last is full
  pub full : (p : Printed A) → In p (drop_last pages) → length p.lines ≡ p.room
  -- and when `next` is the end, what was written on the pages, one after the other, is l
  pub all : next ≡ end → printed pages ≡ l
