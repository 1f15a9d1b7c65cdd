-- The ways through each look, and the scarcest piece. Assumes nothing.
use Rattle.std.specs.Prelude.{Err, Ok, Result}
use Rattle.refusal.specs.declared.Refusal.{Refusal}
use mathlib.Core.Path.{◌≡◌, refl, sym, ap, ◌∙◌, subst}
use mathlib.Core.Bool.{Bool, true, false, not, cond}
use mathlib.Core.List.{List}
use Prim.Native.Nat.{ℕ, suc, ◌+◌, ◌*◌, ◌/◌, ◌%◌, ◌-◌, ◌≤◌, ◌<◌}
use native.Mathlib.Omega.{arith}
use lib.Dec.{ltb}
use lib.ListN.{length, get_or}
use borrow.Author.Tests.{lt-ltb, le-ltb, not-false, not-true}
use Rattle.refusal.specs.Numbers.{seat, sizes, beyond}
use Rattle.refusal.specs.Paper.{taken}
use Rattle.refusal.proofs.Cases.{pick_yes, pick_no}
use Rattle.yard_tables.specs.Counting.{Least}
use Rattle.yard_tables.specs.Rows.{digit, width, has_in}
use Rattle.yard_tables.specs.Tables.{shows, holds, held_by_of, scarce, Around, Turn, around, paper, refuse, says, sizes_fit, sized}
use Rattle.yard_tables.specs.Looks.{fewest, place_of, scarcest_of, seat_of, has_of, count_of}
use Rattle.yard_tables.proofs.Sizing.{fitting}
use Rattle.yard_tables.proofs.Scarce.{least_start, least-turn, least-unique, place-least}
use Rattle.yard_tables.specs.declared.Head.{Head}
use Rattle.yard_tables.specs.declared.Seat.{Seat}
use Rattle.yard_tables.specs.declared.Answer.{Answer}
use Rattle.yard_tables.specs.declared.Answer.TheVariants.{Record, Holds, Holders, Piece}

-- ---- looks

module _ (h : Head) (n : ℕ) (rows holders : List ℕ) (b : Bool) (eb : b ≡ sizes_fit h n (length rows) (length holders)) (r : Result Answer Refusal) where
  fit : not b ≡ false → sizes_fit h n (length rows) (length holders) ≡ true
  fit e = sym eb ∙ not-false b e

  pieces_are : not b ≡ false → length holders ≡ h.pieces
  pieces_are e = (fitting h n (length rows) (length holders) (fit e)).counts

  module _ (s : Seat) where
    abbrev X : Around
    X = around h s rows holders

    pub look-sizes : (t : Turn) → not b ≡ true → r ≡ Err (record { place = 0; number = sizes }) → paper r ≡ (sized n X t).answer
    look-sizes t e er = ap paper er ∙ ap (λ (u : Turn). u.answer) (pick_no {z = refuse sizes X} t (sizes_fit h n (length rows) (length holders)) (sym eb ∙ not-true b e) refl)

    pub look-on : (t : Turn) → not b ≡ false → paper r ≡ t.answer → paper r ≡ (sized n X t).answer
    look-on t e er = er ∙ ap (λ (u : Turn). u.answer) (pick_yes {z = t} (refuse sizes X) (sizes_fit h n (length rows) (length holders)) (fit e) refl)

    pub scarce-sizes : not b ≡ true → r ≡ Err (record { place = 0; number = sizes }) → paper r ≡ (scarcest_of n X).answer
    unfolding scarcest_of
    scarce-sizes = look-sizes (says (scarce (place_of (fewest holders) holders)) X)

    pub scarce-piece : (p : ℕ) → not b ≡ false → p ≡ place_of (fewest holders) holders → r ≡ (Ok (Piece p)) → paper r ≡ (scarcest_of n X).answer
    unfolding scarcest_of
    scarce-piece p e ep er = look-on (says (scarce (place_of (fewest holders) holders)) X) e (ap paper er ∙ ap (λ (q : ℕ). taken (scarce q)) ep)

    module _ (i : ℕ) where
      pub seat-sizes : not b ≡ true → r ≡ Err (record { place = 0; number = sizes }) → paper r ≡ (seat_of i n X).answer
      unfolding seat_of
      seat-sizes = look-sizes (cond (ltb i n) (says (shows s) X) (refuse seat X))

      pub seat-past : not b ≡ false → n ≤ i → r ≡ Err (record { place = 0; number = seat }) → paper r ≡ (seat_of i n X).answer
      unfolding seat_of
      seat-past e l er = look-on (cond (ltb i n) (says (shows s) X) (refuse seat X)) e
          (ap paper er ∙ ap (λ (u : Turn). u.answer) (pick_no {z = refuse seat X} (says (shows s) X) (ltb i n) (le-ltb i n l) refl))

      pub seat-shown : not b ≡ false → i < n → r ≡ (Ok (Record s)) → paper r ≡ (seat_of i n X).answer
      unfolding seat_of
      seat-shown e l er = look-on (cond (ltb i n) (says (shows s) X) (refuse seat X)) e
          (ap paper er ∙ ap (λ (u : Turn). u.answer) (pick_yes {z = says (shows s) X} (refuse seat X) (ltb i n) (lt-ltb i n l) refl))

    module _ (p : ℕ) where
      abbrev Counts : Turn
      Counts = cond (ltb p h.pieces) (says (held_by_of (get_or holders p 0)) X) (refuse beyond X)

      pub count-sizes : not b ≡ true → r ≡ Err (record { place = 0; number = sizes }) → paper r ≡ (count_of p n X).answer
      unfolding count_of
      count-sizes = look-sizes Counts

      pub count-beyond : not b ≡ false → length holders ≤ p → r ≡ Err (record { place = 0; number = beyond }) → paper r ≡ (count_of p n X).answer
      unfolding count_of
      count-beyond e l er = look-on Counts e
          (ap paper er ∙ ap (λ (u : Turn). u.answer) (pick_no {z = refuse beyond X} (says (held_by_of (get_or holders p 0)) X) (ltb p h.pieces) (le-ltb p h.pieces (omega (arith, pieces_are e))) refl))

      pub count-is : (k : ℕ) → not b ≡ false → p < length holders → k ≡ get_or holders p 0 → r ≡ (Ok (Holders k)) → paper r ≡ (count_of p n X).answer
      unfolding count_of
      count-is k e l ek er = look-on Counts e
          (ap paper er ∙ ap (λ (q : ℕ). taken (held_by_of q)) ek ∙ ap (λ (u : Turn). u.answer) (pick_yes {z = says (held_by_of (get_or holders p 0)) X} (refuse beyond X) (ltb p h.pieces) (lt-ltb p h.pieces (omega (arith, pieces_are e))) refl))

      module _ (i : ℕ) where
        abbrev Has : Turn
        Has = cond (ltb p h.pieces) (says (holds (has_in (width h.pieces) rows i p)) X) (refuse beyond X)

        abbrev At : Turn
        At = cond (ltb i n) Has (refuse seat X)

        pub has-sizes : not b ≡ true → r ≡ Err (record { place = 0; number = sizes }) → paper r ≡ (has_of i p n X).answer
        unfolding has_of
        has-sizes = look-sizes At

        pub has-past : not b ≡ false → n ≤ i → r ≡ Err (record { place = 0; number = seat }) → paper r ≡ (has_of i p n X).answer
        unfolding has_of
        has-past e l er = look-on At e (ap paper er ∙ ap (λ (u : Turn). u.answer) (pick_no {z = refuse seat X} Has (ltb i n) (le-ltb i n l) refl))

        pub has-beyond : not b ≡ false → i < n → length holders ≤ p → r ≡ Err (record { place = 0; number = beyond }) → paper r ≡ (has_of i p n X).answer
        unfolding has_of
        has-beyond e m l er = look-on At e
            (ap paper er ∙ ap (λ (u : Turn). u.answer) (pick_yes {z = refuse beyond X} (refuse seat X) (ltb i n) (lt-ltb i n m)
            (pick_no (says (holds (has_in (width h.pieces) rows i p)) X) (ltb p h.pieces) (le-ltb p h.pieces (omega (arith, pieces_are e))) refl)))

        pub has-is : (w : ℕ) (a : Bool) → not b ≡ false → i < n → p < length holders → w ≡ width h.pieces → a ≡ digit (7 - p % 8) (get_or rows (i * w + p / 8) 0) → r ≡ (Ok (Holds a))
            → paper r ≡ (has_of i p n X).answer
        unfolding has_of
        has-is w a e m l ew ea er =
            let good : Turn = says (holds (has_in (width h.pieces) rows i p)) X in
            look-on At e
            (ap paper er ∙ ap (λ (q : Bool). taken (holds q)) (ea ∙ ap (λ (q : ℕ). digit (7 - p % 8) (get_or rows (i * q + p / 8) 0)) ew)
            ∙ ap (λ (u : Turn). u.answer) (pick_yes {z = good} (refuse seat X) (ltb i n) (lt-ltb i n m)
            (pick_yes (refuse beyond X) (ltb p h.pieces) (lt-ltb p h.pieces (omega (arith, pieces_are e))) refl)))

-- ---- the scarcest piece

-- of the first n counts, b is the first of the smallest
abbrev pub Rarest : List ℕ → ℕ → ℕ → Type 0
Rarest l n b = Least (λ q. get_or l q 0) n b

pub rarest-start : (l : List ℕ) → Rarest l 1 0
rarest-start l = least_start (λ q. get_or l q 0)

pub rarest-turn : (l : List ℕ) (b p r : ℕ) → Rarest l p b → r ≡ cond (ltb (get_or l p 0) (get_or l b 0)) p b → Rarest l (p + 1) r
rarest-turn l b p r x e =
    let y : Rarest l (suc p) r = subst (Rarest l (suc p)) (sym e) (least-turn (λ q. get_or l q 0) p b x) in
    let next : suc p ≡ p + 1 = omega arith in
    subst (λ (n : ℕ). Rarest l n r) next y

pub rarest-is : (l : List ℕ) (n b : ℕ) → n ≡ length l → Rarest l n b → b ≡ place_of (fewest l) l
rarest-is l n b e x =
    let y : Rarest l (length l) b = subst (λ (k : ℕ). Rarest l k b) e x in
    least-unique (λ q. get_or l q 0) (length l) b (place_of (fewest l) l) y (place-least l (omega (arith, y.within)))
