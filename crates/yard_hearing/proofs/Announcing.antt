-- Frames that announce pieces, by the tests that the code makes. Assumes nothing.
use Rattle.std.specs.Prelude.{Ok}
use mathlib.Core.Path.{◌≡◌, refl, sym, ap, ap₂, ◌∙◌}
use mathlib.Core.Logic.{◌≢◌}
use mathlib.Core.Bool.{Bool, true, false, not, ◌&&◌}
use mathlib.Core.List.{List}
use Prim.Native.Nat.{ℕ, ◌+◌, ◌*◌, ◌-◌, ◌/◌, ◌%◌, ◌^◌, ◌≤◌, ◌<◌}
use native.Mathlib.Omega.{arith}
use borrow.Author.Tests.{lt-ltb, le-ltb, eq-eqb, ne_eqb, leb-false}
use lib.Bits.{bit_or}
use lib.Dec.{eqb, ltb, leb}
use lib.ListN.{length, get_or, set}
use lib.Seq.{set-get_or}
use Rattle.refusal.specs.Numbers.{late, beyond, bitfield, spare, damaged}
use Rattle.refusal.proofs.Cases.{same_or, pick_yes, pick_no}
use Rattle.yard_tables.specs.Counting.{bit, some, each}
use Rattle.yard_tables.specs.Rows.{digit, width, bit_at, has_in, with_bit, with_bits}
use Rattle.yard_tables.specs.Seats.{on, spoken, holding, counted}
use Rattle.yard_tables.specs.Tables.{Turn, around, turn}
use Rattle.yard_tables.specs.Frames.{is_new, gain, over_top, announced, announce, have_of, spare_set, bitfield_of}
use Rattle.yard_tables.specs.declared.Head.{Head}
use Rattle.yard_tables.specs.declared.Seat.{Seat}
use Rattle.yard_tables.specs.declared.Answer.TheVariants.{Taken}
use Rattle.yard_tables.specs.declared.Stepped.{Stepped}
use Rattle.yard_tables.proofs.Digits.{or-had, row_in}
use Rattle.yard_tables.proofs.Counts.{count_none, some-none}
use Rattle.yard_tables.proofs.Single.{each_none, count-only, some-only, each-only}
use Rattle.yard_hearing.specs.Passes.{checked, raised, merged}
use Rattle.yard_tables.specs.Replies.{stepped, refusing}
use Rattle.yard_hearing.specs.Steps.{InTables, too_many, gained}
use Rattle.yard_hearing.specs.declared.row.News.{News}
use Rattle.yard_hearing.proofs.Passing.{added_is, over-is, checked-le, raised_is, merged-is}
use Rattle.yard_hearing.proofs.Gaining.{many-none, room-holders}

-- ---- in general: c is what was found of the pieces that are said

module _ (h : Head) (s : Seat) (rows holders : List ℕ) (n i used : ℕ) (said : ℕ → Bool) (after : List ℕ) (c : News)
    (ea : c.added ≡ gain i said (around h s rows holders))
    (eo : c.over ≡ some h.pieces (λ p. is_new i said (around h s rows holders) p && leb n (get_or holders p 0))) where
  many_is : too_many n h s c ≡ over_top n i said (around h s rows holders)
  unfolding over_top
  many_is = ap₂ (λ (a : ℕ) (o : Bool). too_many n h s (record { added = a; over = o })) ea eo

  pub announce-bad : (b : Bool) (r : Stepped) → b ≡ too_many n h s c → b ≡ true → r ≡ refusing h s damaged → turn r rows holders ≡ announce n i used said after (around h s rows holders)
  announce-bad b r eb f er = pick_yes _ (over_top n i said (around h s rows holders)) (sym many_is ∙ sym eb ∙ f) (ap (λ (a : Stepped). turn a rows holders) er)

  pub announce-good : (b : Bool) (r : Stepped) (rows' holders' : List ℕ) → b ≡ too_many n h s c → b ≡ false → r ≡ gained h s c used → rows' ≡ after
      → holders' ≡ each (λ p k. k + bit (is_new i said (around h s rows holders) p)) holders → turn r rows' holders' ≡ announce n i used said after (around h s rows holders)
  unfolding announced
  announce-good b r rows' holders' eb f er e1 e2 =
      pick_no _ (over_top n i said (around h s rows holders)) (sym many_is ∙ sym eb ∙ f)
      (ap (λ (a : Stepped). turn a rows' holders') er
      ∙ ap₂ (λ (x y : List ℕ). turn (gained h s c used) x y) e1 e2
      ∙ ap (λ (a : ℕ). turn (gained h s (record { added = a; over = c.over }) used) after (each (λ p k. k + bit (is_new i said (around h s rows holders) p)) holders)) ea)

-- ---- a bitfield

-- P is the number of pieces in the code's words
module _ (h : Head) (s : Seat) (rows holders : List ℕ) (n i used : ℕ) (said : List ℕ) (z : InTables h n i rows holders) (P : ℕ) (ep : P ≡ h.pieces) where
  pub row_fits : i * ((P + 7) / 8) + (P + 7) / 8 ≤ length rows
  row_fits = rw (ep, z.row) (row_in i n (width h.pieces) z.seat)

  module _ (c : News) (ec : c ≡ checked rows (i * ((P + 7) / 8)) said holders n P) where
    pub news-few : c.added ≤ 65536
    news-few = omega (arith, ap (λ (x : News). x.added) ec, checked-le rows (i * ((P + 7) / 8)) said holders n P, z.few)

    found : c ≡ checked rows (i * width h.pieces) said holders n h.pieces
    found = ec ∙ ap (λ (q : ℕ). checked rows (i * ((q + 7) / 8)) said holders n q) ep

    pub added-gain : c.added ≡ gain i (bit_at said) (around h s rows holders)
    added-gain = ap (λ (x : News). x.added) found ∙ added_is rows (i * width h.pieces) said holders n h.pieces

    pub over-some : c.over ≡ some h.pieces (λ p. is_new i (bit_at said) (around h s rows holders) p && leb n (get_or holders p 0))
    over-some = ap (λ (x : News). x.over) found ∙ over-is rows (i * width h.pieces) said holders n h.pieces

    pub bits-bad : (b : Bool) (r : Stepped) → b ≡ too_many n h s c → b ≡ true → r ≡ refusing h s damaged
        → turn r rows holders ≡ announce n i used (bit_at said) (with_bits (width h.pieces) i said rows) (around h s rows holders)
    bits-bad b r eb f er = announce-bad h s rows holders n i used (bit_at said) (with_bits (width h.pieces) i said rows) c added-gain over-some b r eb f er

    pub bits-good : (b : Bool) (r : Stepped) (rows' holders' : List ℕ) → b ≡ too_many n h s c → b ≡ false → r ≡ gained h s c used
        → rows' ≡ merged (i * ((P + 7) / 8)) said ((P + 7) / 8) rows → holders' ≡ raised rows (i * ((P + 7) / 8)) said P holders
        → turn r rows' holders' ≡ announce n i used (bit_at said) (with_bits (width h.pieces) i said rows) (around h s rows holders)
    bits-good b r rows' holders' eb f er e1 e2 =
        announce-good h s rows holders n i used (bit_at said) (with_bits (width h.pieces) i said rows) c added-gain over-some b r rows' holders' eb f er
        (e1 ∙ ap (λ (q : ℕ). merged (i * ((q + 7) / 8)) said ((q + 7) / 8) rows) ep ∙ merged-is (width h.pieces) i said rows (rw ep at row_fits))
        (e2 ∙ ap (λ (q : ℕ). raised rows (i * ((q + 7) / 8)) said q holders) ep
        ∙ ap (λ (q : ℕ). raised rows (i * width h.pieces) said q holders) (sym z.counts)
        ∙ raised_is rows (i * width h.pieces) said holders n (omega (arith, z.seats))
        (ap (λ (q : ℕ). (checked rows (i * width h.pieces) said holders n q).over) z.counts ∙ sym (ap (λ (x : News). x.over) found) ∙ room-holders n h s c (sym eb ∙ f)))

module _ (h : Head) (s : Seat) (rows holders : List ℕ) (n i used : ℕ) (said : List ℕ) where
  as-turn : {r t : Stepped} → r ≡ t → turn r rows holders ≡ turn t rows holders
  as-turn e = ap (λ (a : Stepped). turn a rows holders) e

  pub bits-late : (r : Stepped) → on s.fresh ≡ false → r ≡ refusing h s late → turn r rows holders ≡ bitfield_of n i used said (around h s rows holders)
  unfolding bitfield_of
  bits-late r f er = pick_no _ (on s.fresh) f (as-turn er)

  module _ (f : on s.fresh ≡ true) (P : ℕ) (ep : P ≡ h.pieces) where
    pub bits-length : (r : Stepped) → (length said ≡ (P + 7) / 8 → ⊥) → r ≡ refusing h s bitfield → turn r rows holders ≡ bitfield_of n i used said (around h s rows holders)
    unfolding bitfield_of
    bits-length r l er =
        pick_yes _ (on s.fresh) f
        (pick_no _ (eqb (length said) (width h.pieces)) (ne_eqb (length said) (width h.pieces) (λ e. l (e ∙ ap width (sym ep)))) (as-turn er))

    module _ (l : length said ≡ (P + 7) / 8) (b : Bool) (eb : b ≡ spare_set P said) where
      wide_enough : eqb (length said) (width h.pieces) ≡ true
      wide_enough = eq-eqb (length said) (width h.pieces) (l ∙ ap width ep)

      spare-test : spare_set h.pieces said ≡ b
      spare-test = ap (λ (q : ℕ). spare_set q said) (sym ep) ∙ sym eb

      pub bits-spare : (r : Stepped) → b ≡ true → r ≡ refusing h s spare → turn r rows holders ≡ bitfield_of n i used said (around h s rows holders)
      unfolding bitfield_of
      bits-spare r t er =
          pick_yes _ (on s.fresh) f (pick_yes _ (eqb (length said) (width h.pieces)) wide_enough (pick_yes _ (spare_set h.pieces said) (spare-test ∙ t) (as-turn er)))

      pub bits-added : (o : Turn) → b ≡ false → o ≡ announce n i used (bit_at said) (with_bits (width h.pieces) i said rows) (around h s rows holders)
          → o ≡ bitfield_of n i used said (around h s rows holders)
      unfolding bitfield_of
      bits-added o t eo =
          pick_yes _ (on s.fresh) f (pick_yes _ (eqb (length said) (width h.pieces)) wide_enough (pick_no _ (spare_set h.pieces said) (spare-test ∙ t) eo))

-- ---- a have

module _ (h : Head) (s : Seat) (rows holders : List ℕ) (n i used p : ℕ) where
  as-turn2 : {r t : Stepped} → r ≡ t → turn r rows holders ≡ turn t rows holders
  as-turn2 e = ap (λ (a : Stepped). turn a rows holders) e

  pub have-beyond : (r : Stepped) (P : ℕ) → P ≡ h.pieces → P ≤ p → r ≡ refusing h s beyond → turn r rows holders ≡ have_of n i used p (around h s rows holders)
  unfolding have_of
  have-beyond r P ep l er = pick_no _ (ltb p h.pieces) (le-ltb p h.pieces (omega arith)) (as-turn2 er)

  have-within : (o : Turn) (P : ℕ) → P ≡ h.pieces → p < P → o ≡ announce n i used (λ q. eqb q p) (with_bit (width h.pieces) i p rows) (around h s rows holders)
      → o ≡ have_of n i used p (around h s rows holders)
  unfolding have_of
  have-within o P ep l eo = pick_yes _ (ltb p h.pieces) (lt-ltb p h.pieces (omega arith)) eo

  abbrev only : ℕ → Bool
  only q = is_new i (λ k. eqb k p) (around h s rows holders) q

  abbrev at_top : ℕ → Bool
  at_top q = only q && leb n (get_or holders q 0)

  not-said : (q : ℕ) → q ≢ p → only q ≡ false
  not-said q e = let x : eqb q p ≡ false = ne_eqb q p e in rw x

  not_top : (q : ℕ) → q ≢ p → at_top q ≡ false
  not_top q e = let x : eqb q p ≡ false = ne_eqb q p e in rw x

  module _ (P : ℕ) (ep : P ≡ h.pieces) (l : p < P) (z : InTables h n i rows holders) (had : Bool) (eh : had ≡ digit (7 - p % 8) (get_or rows (i * ((P + 7) / 8) + p / 8) 0)) where
    had-is : has_in (width h.pieces) rows i p ≡ had
    had-is = sym (eh ∙ ap (λ (q : ℕ). digit (7 - p % 8) (get_or rows (i * ((q + 7) / 8) + p / 8) 0)) ep)

    only-is : only p ≡ not had
    only-is = let x : eqb p p ≡ true = eq-eqb p p refl in rw x (ap not had-is)

    -- it was there
    module _ (t : had ≡ true) where
      none : (q : ℕ) → only q ≡ false
      none q = same_or q p (λ e. ap only e ∙ only-is ∙ ap not t) (not-said q)

      none-top : (q : ℕ) → at_top q ≡ false
      none-top q = ap (λ (b : Bool). b && leb n (get_or holders q 0)) (none q)

      same_row : rows ≡ with_bit (width h.pieces) i p rows
      same_row =
          sym (set-get_or rows (i * width h.pieces + p / 8) 0)
          ∙ ap (set rows (i * width h.pieces + p / 8)) (sym (or-had (7 - p % 8) (get_or rows (i * width h.pieces + p / 8) 0) (had-is ∙ t)))

      nothing-gained : stepped h (spoken s) (Ok (Taken used)) ≡ gained h s (record { added = 0; over = false }) used
      nothing-gained =
          let a : h.complete ≡ h.complete + 0 = omega arith in
          let b : s.held ≡ s.held + 0 = omega arith in
          ap₂ (λ (x y : ℕ). stepped (counted h.taken x h) (holding y (spoken s)) (Ok (Taken used))) a b

      pub have-had : (r : Stepped) → r ≡ stepped h (spoken s) (Ok (Taken used)) → turn r rows holders ≡ have_of n i used p (around h s rows holders)
      have-had r er = have-within (turn r rows holders) P ep l
          (announce-good h s rows holders n i used (λ q. eqb q p) (with_bit (width h.pieces) i p rows) (record { added = 0; over = false })
          (sym (count_none only h.pieces (λ q m. none q)))
          (sym (some-none at_top h.pieces (λ q m. none-top q)))
          false r rows holders (many-none n h s (record { added = 0; over = false }) refl refl) refl (er ∙ nothing-gained) same_row
          (sym (each_none only holders (λ q m. none q))))

    -- it is new: c is one piece, that has so many holders
    module _ (t : had ≡ false) (c : News) (ec : c ≡ record { added = 1; over = leb n (get_or holders p 0) }) where
      is-new : only p ≡ true
      is-new = only-is ∙ ap not t

      one-added : c.added ≡ gain i (λ q. eqb q p) (around h s rows holders)
      one-added = ap (λ (x : News). x.added) ec ∙ sym (count-only only p not-said h.pieces (omega arith) ∙ ap bit is-new)

      one-over : c.over ≡ some h.pieces (λ q. is_new i (λ k. eqb k p) (around h s rows holders) q && leb n (get_or holders q 0))
      one-over = ap (λ (x : News). x.over) ec ∙ sym (some-only at_top p not_top h.pieces (omega arith) ∙ ap (λ (b : Bool). b && leb n (get_or holders p 0)) is-new)

      pub have-bad : (b : Bool) (r : Stepped) → b ≡ too_many n h s c → b ≡ true → r ≡ refusing h s damaged → turn r rows holders ≡ have_of n i used p (around h s rows holders)
      have-bad b r eb f er = have-within (turn r rows holders) P ep l
          (announce-bad h s rows holders n i used (λ q. eqb q p) (with_bit (width h.pieces) i p rows) c one-added one-over b r eb f er)

      pub have-good : (b : Bool) (r : Stepped) (m : ℕ) → b ≡ too_many n h s c → b ≡ false → r ≡ gained h s c used → m ≡ 2 ^ (7 - p % 8)
          → turn r (set rows (i * ((P + 7) / 8) + p / 8) (bit_or (get_or rows (i * ((P + 7) / 8) + p / 8) 0) m)) (set holders p (get_or holders p 0 + 1)) ≡ have_of n i used p (around h s rows holders)
      have-good b r m eb f er em = have-within _ P ep l
          (announce-good h s rows holders n i used (λ q. eqb q p) (with_bit (width h.pieces) i p rows) c one-added one-over b r
          (set rows (i * ((P + 7) / 8) + p / 8) (bit_or (get_or rows (i * ((P + 7) / 8) + p / 8) 0) m)) (set holders p (get_or holders p 0 + 1)) eb f er
          (ap (λ (x : ℕ). set rows (i * ((P + 7) / 8) + p / 8) (bit_or (get_or rows (i * ((P + 7) / 8) + p / 8) 0) x)) em ∙ ap (λ (q : ℕ). with_bit ((q + 7) / 8) i p rows) ep)
          (ap (λ (b : Bool). set holders p (get_or holders p 0 + bit b)) (sym is-new) ∙ sym (each-only only p not-said holders (omega (arith, z.counts)))))

      pub count_room : (b : Bool) → b ≡ too_many n h s c → b ≡ false → get_or holders p 0 < n
      count_room b eb f = leb-false n (get_or holders p 0) (sym (ap (λ (x : News). x.over) ec) ∙ room-holders n h s c (sym eb ∙ f))
