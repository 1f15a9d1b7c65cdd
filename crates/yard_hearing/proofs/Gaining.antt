-- The counts that new pieces raise: whether one would pass its top, and what they become. Assumes nothing.
use mathlib.Core.Path.{◌≡◌}
use mathlib.Core.Bool.{Bool, true, false, ◌&&◌, ◌||◌, true≢false}
use Prim.Native.Nat.{ℕ, ◌+◌, ◌≤◌}
use native.Mathlib.Omega.{arith}
use borrow.Author.Tests.{lt-ltb, le-ltb, ne_eqb}
use lib.Dec.{eqb, ltb, leb}
use Rattle.yard_tables.specs.declared.Head.{Head}
use Rattle.yard_tables.specs.declared.Seat.{Seat}
use Rattle.yard_hearing.specs.Steps.{full, too_many}
use Rattle.yard_hearing.specs.declared.row.News.{News}

-- a and b are the pieces held and all pieces in the code's words, d the seats complete
module _ (n : ℕ) (h : Head) (s : Seat) (c : News) where
  pub many-none : c.over ≡ false → c.added ≡ 0 → false ≡ too_many n h s c
  many-none o z = let e : ltb 0 c.added ≡ false = le-ltb 0 c.added (omega arith) in rw (e, o)

  module _ {a b : ℕ} (ea : a ≡ s.held) (eb : b ≡ h.pieces) (o : c.over ≡ false) (f : c.added ≡ 0 → ⊥) where
    some-new : ltb 0 c.added ≡ true
    some-new = lt-ltb 0 c.added (omega (arith, f))

    pub many-not : a + c.added ≤ b → (a + c.added ≡ b → ⊥) → false ≡ too_many n h s c
    many-not l m =
        let x : ltb h.pieces (s.held + c.added) ≡ false = le-ltb h.pieces (s.held + c.added) (omega arith) in
        let y : eqb (s.held + c.added) h.pieces ≡ false = ne_eqb (s.held + c.added) h.pieces (λ e. m (omega arith)) in
        rw (some-new, x, y, o)

  third-no : (a b o : Bool) → (a || (b || o)) ≡ false → o ≡ false
  third-no true b o e = absurd (true≢false e)
  third-no false true o e = absurd (true≢false e)
  third-no false false o e = e

  module _ (e : too_many n h s c ≡ false) where
    pub room-holders : c.over ≡ false
    room-holders = third-no (ltb 0 c.added && ltb h.pieces (s.held + c.added)) (full h s c && leb n h.complete) c.over e
