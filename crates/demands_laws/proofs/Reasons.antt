-- The yard's causes, number by number, as One/Numbers.antt spells them. Assumes nothing.
use mathlib.Core.Path.{◌≡◌, refl, sym, subst}
use mathlib.Core.Logic.{◌⊎◌, inl, inr, ◌↔◌}
use mathlib.Core.List.{List, [], ◌∷◌, Memᴰ as In}
use Prim.Native.Nat.{ℕ, ◌+◌, ◌*◌, ◌≤◌, ◌<◌}
use lib.ListN.{length}
use Rattle.refusal.specs.Limits.{most_sent}
use Rattle.peer_wire.specs.Message.{Message, have, piece, bitfield as bits}
use Rattle.peer_wire.specs.Causes.{TooLong, All, Right}
use Rattle.yard_tables.specs.Rows.{width, bit_at}
use Rattle.yard_tables.specs.Step.{Call, start, sit, feed, missing, look, has, count}
use Rattle.yard_laws.specs.History.{History, Fixed, sizes_of, seated, fresh, pieces, sent}
use Rattle.yard_laws.specs.Causes.{Sits, Nobody, On, Marks, Says, SpeaksOf, Fits, StartFits, Cause, too_long, wrong-payload, not_first, no-such-have, no-such-block, no-such-has, no-such-count, wrong-length, spare-bit, past-piece, all-taken, nobody, past-list, past-look, past-has, no_room, unfit, too_much}
use lib.Dec.{eqb}
use mathlib.Core.Bool.{Bool, true, false}
use borrow.Author.Tests.{eqb-true}

abbrev pub pick : Bool → Type 0 → Type 0 → Type 0
pick true A B = A
pick false A B = B

by-pick : {A B Q : Type 0} (b : Bool) → pick b A B → (b ≡ true → A → Q) → (B → Q) → Q
by-pick true s f g = f refl s
by-pick false s f g = g s

module _ (fixed : Fixed) (h : History) where
  abbrev At20 : Call → Type 0
  At20 c = ((i : ℕ) × (s : List ℕ) × (c ≡ feed i s) × Sits fixed h i × TooLong s)

  abbrev At21 : Call → Type 0
  At21 c = ((i : ℕ) × (s : List ℕ) × (c ≡ feed i s) × Sits fixed h i × All s × (Right s → ⊥))

  abbrev At30 : Call → Type 0
  At30 c = ((i : ℕ) × (s : List ℕ) × (b : List ℕ) × (bytes : ℕ) × (c ≡ feed i s) × Sits fixed h i × Says s (bits b) bytes × (fresh h i ≡ false))

  abbrev At31 : Call → Type 0
  At31 c = (((i : ℕ) × (s : List ℕ) × (q : ℕ) × (bytes : ℕ) × (c ≡ feed i s) × Sits fixed h i × Says s (have q) bytes × (pieces h ≤ q)) ⊎ (((i : ℕ) × (s : List ℕ) × (m : Message (List ℕ)) × (q : ℕ) × (b : ℕ) × (k : ℕ) × (bytes : ℕ) × (c ≡ feed i s) × Sits fixed h i × Says s m bytes × SpeaksOf q b k m × (pieces h ≤ q)) ⊎ (((i : ℕ) × (q : ℕ) × (c ≡ has i q) × (i < fixed.seats) × (pieces h ≤ q)) ⊎ ((q : ℕ) × (c ≡ count q) × (pieces h ≤ q)))))

  abbrev At32 : Call → Type 0
  At32 c = ((i : ℕ) × (s : List ℕ) × (b : List ℕ) × (bytes : ℕ) × (c ≡ feed i s) × Sits fixed h i × Says s (bits b) bytes × (fresh h i ≡ true) × (length b ≡ width (pieces h) → ⊥))

  abbrev At33 : Call → Type 0
  At33 c = ((i : ℕ) × (s : List ℕ) × (b : List ℕ) × (bytes : ℕ) × (q : ℕ) × (c ≡ feed i s) × Sits fixed h i × Says s (bits b) bytes × (fresh h i ≡ true) × (length b ≡ width (pieces h)) × (pieces h ≤ q) × (q < 8 * length b) × (bit_at b q ≡ true))

  abbrev At34 : Call → Type 0
  At34 c = ((i : ℕ) × (s : List ℕ) × (m : Message (List ℕ)) × (q : ℕ) × (b : ℕ) × (k : ℕ) × (bytes : ℕ) × (c ≡ feed i s) × Sits fixed h i × Says s m bytes × SpeaksOf q b k m × (q < pieces h) × (Fits fixed h q b k → ⊥))

  abbrev At35 : Call → Type 0
  At35 c = ((c ≡ sit) × ((i : ℕ) → i < fixed.seats → seated h i ≡ true))

  abbrev At36 : Call → Type 0
  At36 c = (((i : ℕ) × On i c × Nobody fixed h i) ⊎ (((first : ℕ) × (space : ℕ) × (c ≡ missing first space) × (fixed.seats < first)) ⊎ (((i : ℕ) × (c ≡ look i) × (fixed.seats ≤ i)) ⊎ ((i : ℕ) × (q : ℕ) × (c ≡ has i q) × (fixed.seats ≤ i)))))

  abbrev At37 : Call → Type 0
  At37 c = ((i : ℕ) × (space : ℕ) × Marks i space c × Sits fixed h i × (space < 5))

  abbrev At38 : Call → Type 0
  At38 c = ((q : ℕ) × (l : ℕ) × (k : ℕ) × (c ≡ start q l k) × (StartFits h (sizes_of q l k) → ⊥))

  abbrev At39 : Call → Type 0
  At39 c = ((i : ℕ) × (s : List ℕ) × (q : ℕ) × (b : ℕ) × (block : List ℕ) × (bytes : ℕ) × (c ≡ feed i s) × Sits fixed h i × Says s (piece q b block) bytes × (q < pieces h) × Fits fixed h q b (length block) × (most_sent < sent h i + length block))

  -- what is said at a number
  abbrev pub At : Call → ℕ → Type 0
  At c number = pick (eqb number 20) (At20 c) (pick (eqb number 21) (At21 c) (pick (eqb number 30) (At30 c) (pick (eqb number 31) (At31 c) (pick (eqb number 32) (At32 c) (pick (eqb number 33) (At33 c) (pick (eqb number 34) (At34 c) (pick (eqb number 35) (At35 c) (pick (eqb number 36) (At36 c) (pick (eqb number 37) (At37 c) (pick (eqb number 38) (At38 c) (pick (eqb number 39) (At39 c) ⊥)))))))))))

  told : (c : Call) (number : ℕ) → Cause fixed h c number → At c number
  told c number (too_long i s g0 g1) = (i, s, refl, g0, g1)
  told c number (wrong-payload i s g0 g1 g2) = (i, s, refl, g0, g1, g2)
  told c number (not_first i s b bytes g0 g1 g2) = (i, s, b, bytes, refl, g0, g1, g2)
  told c number (no-such-have i s q bytes g0 g1 g2) = (inl (i, s, q, bytes, refl, g0, g1, g2))
  told c number (no-such-block i s m q b k bytes g0 g1 g2 g3) = (inr (inl (i, s, m, q, b, k, bytes, refl, g0, g1, g2, g3)))
  told c number (no-such-has i q g0 g1) = (inr (inr (inl (i, q, refl, g0, g1))))
  told c number (no-such-count q g0) = (inr (inr (inr (q, refl, g0))))
  told c number (wrong-length i s b bytes g0 g1 g2 g3) = (i, s, b, bytes, refl, g0, g1, g2, g3)
  told c number (spare-bit i s b bytes q g0 g1 g2 g3 g4 g5 g6) = (i, s, b, bytes, q, refl, g0, g1, g2, g3, g4, g5, g6)
  told c number (past-piece i s m q b k bytes g0 g1 g2 g3 g4) = (i, s, m, q, b, k, bytes, refl, g0, g1, g2, g3, g4)
  told c number (all-taken g0) = (refl, g0)
  told c number (nobody d i g0 g1) = (inl (i, g0, g1))
  told c number (past-list first space g0) = (inr (inl (first, space, refl, g0)))
  told c number (past-look i g0) = (inr (inr (inl (i, refl, g0))))
  told c number (past-has i q g0) = (inr (inr (inr (i, q, refl, g0))))
  told c number (no_room d i space g0 g1 g2) = (i, space, g0, g1, g2)
  told c number (unfit q l k g0) = (q, l, k, refl, g0)
  told c number (too_much i s q b block bytes g0 g1 g2 g3 g4) = (i, s, q, b, block, bytes, refl, g0, g1, g2, g3, g4)

  by_number : {Q : Type 0} (c : Call) (number : ℕ) → At c number → (number ≡ 20 → At20 c → Q) → (number ≡ 21 → At21 c → Q) → (number ≡ 30 → At30 c → Q) → (number ≡ 31 → At31 c → Q) → (number ≡ 32 → At32 c → Q) → (number ≡ 33 → At33 c → Q) → (number ≡ 34 → At34 c → Q) → (number ≡ 35 → At35 c → Q) → (number ≡ 36 → At36 c → Q) → (number ≡ 37 → At37 c → Q) → (number ≡ 38 → At38 c → Q) → (number ≡ 39 → At39 c → Q) → Q
  by_number c number s f20 f21 f30 f31 f32 f33 f34 f35 f36 f37 f38 f39 =
      by-pick (eqb number 20) s (λ e x. f20 (eqb-true number 20 e) x) (λ s.
      by-pick (eqb number 21) s (λ e x. f21 (eqb-true number 21 e) x) (λ s.
      by-pick (eqb number 30) s (λ e x. f30 (eqb-true number 30 e) x) (λ s.
      by-pick (eqb number 31) s (λ e x. f31 (eqb-true number 31 e) x) (λ s.
      by-pick (eqb number 32) s (λ e x. f32 (eqb-true number 32 e) x) (λ s.
      by-pick (eqb number 33) s (λ e x. f33 (eqb-true number 33 e) x) (λ s.
      by-pick (eqb number 34) s (λ e x. f34 (eqb-true number 34 e) x) (λ s.
      by-pick (eqb number 35) s (λ e x. f35 (eqb-true number 35 e) x) (λ s.
      by-pick (eqb number 36) s (λ e x. f36 (eqb-true number 36 e) x) (λ s.
      by-pick (eqb number 37) s (λ e x. f37 (eqb-true number 37 e) x) (λ s.
      by-pick (eqb number 38) s (λ e x. f38 (eqb-true number 38 e) x) (λ s.
      by-pick (eqb number 39) s (λ e x. f39 (eqb-true number 39 e) x) (λ s. absurd s))))))))))))

  from-20 : {c : Call} → At20 c → Cause fixed h c 20
  from-20 {c} (i, s, e, g0, g1) = subst (λ (d : Call). Cause fixed h d 20) (sym e) (too_long i s g0 g1)

  from-21 : {c : Call} → At21 c → Cause fixed h c 21
  from-21 {c} (i, s, e, g0, g1, g2) = subst (λ (d : Call). Cause fixed h d 21) (sym e) (wrong-payload i s g0 g1 g2)

  from-30 : {c : Call} → At30 c → Cause fixed h c 30
  from-30 {c} (i, s, b, bytes, e, g0, g1, g2) = subst (λ (d : Call). Cause fixed h d 30) (sym e) (not_first i s b bytes g0 g1 g2)

  from-31 : {c : Call} → At31 c → Cause fixed h c 31
  from-31 {c} (inl (i, s, q, bytes, e, g0, g1, g2)) = subst (λ (d : Call). Cause fixed h d 31) (sym e) (no-such-have i s q bytes g0 g1 g2)
  from-31 {c} (inr (inl (i, s, m, q, b, k, bytes, e, g0, g1, g2, g3))) = subst (λ (d : Call). Cause fixed h d 31) (sym e) (no-such-block i s m q b k bytes g0 g1 g2 g3)
  from-31 {c} (inr (inr (inl (i, q, e, g0, g1)))) = subst (λ (d : Call). Cause fixed h d 31) (sym e) (no-such-has i q g0 g1)
  from-31 {c} (inr (inr (inr (q, e, g0)))) = subst (λ (d : Call). Cause fixed h d 31) (sym e) (no-such-count q g0)

  from-32 : {c : Call} → At32 c → Cause fixed h c 32
  from-32 {c} (i, s, b, bytes, e, g0, g1, g2, g3) = subst (λ (d : Call). Cause fixed h d 32) (sym e) (wrong-length i s b bytes g0 g1 g2 g3)

  from-33 : {c : Call} → At33 c → Cause fixed h c 33
  from-33 {c} (i, s, b, bytes, q, e, g0, g1, g2, g3, g4, g5, g6) = subst (λ (d : Call). Cause fixed h d 33) (sym e) (spare-bit i s b bytes q g0 g1 g2 g3 g4 g5 g6)

  from-34 : {c : Call} → At34 c → Cause fixed h c 34
  from-34 {c} (i, s, m, q, b, k, bytes, e, g0, g1, g2, g3, g4) = subst (λ (d : Call). Cause fixed h d 34) (sym e) (past-piece i s m q b k bytes g0 g1 g2 g3 g4)

  from-35 : {c : Call} → At35 c → Cause fixed h c 35
  from-35 {c} (e, g0) = subst (λ (d : Call). Cause fixed h d 35) (sym e) (all-taken g0)

  from-36 : {c : Call} → At36 c → Cause fixed h c 36
  from-36 {c} (inl (i, g0, g1)) = nobody c i g0 g1
  from-36 {c} (inr (inl (first, space, e, g0))) = subst (λ (d : Call). Cause fixed h d 36) (sym e) (past-list first space g0)
  from-36 {c} (inr (inr (inl (i, e, g0)))) = subst (λ (d : Call). Cause fixed h d 36) (sym e) (past-look i g0)
  from-36 {c} (inr (inr (inr (i, q, e, g0)))) = subst (λ (d : Call). Cause fixed h d 36) (sym e) (past-has i q g0)

  from-37 : {c : Call} → At37 c → Cause fixed h c 37
  from-37 {c} (i, space, g0, g1, g2) = no_room c i space g0 g1 g2

  from-38 : {c : Call} → At38 c → Cause fixed h c 38
  from-38 {c} (q, l, k, e, g0) = subst (λ (d : Call). Cause fixed h d 38) (sym e) (unfit q l k g0)

  from-39 : {c : Call} → At39 c → Cause fixed h c 39
  from-39 {c} (i, s, q, b, block, bytes, e, g0, g1, g2, g3, g4) = subst (λ (d : Call). Cause fixed h d 39) (sym e) (too_much i s q b block bytes g0 g1 g2 g3 g4)

  from : (c : Call) (number : ℕ) → At c number → Cause fixed h c number
  from c number s = by_number c number s (λ e x. subst (Cause fixed h c) (sym e) (from-20 x)) (λ e x. subst (Cause fixed h c) (sym e) (from-21 x)) (λ e x. subst (Cause fixed h c) (sym e) (from-30 x)) (λ e x. subst (Cause fixed h c) (sym e) (from-31 x)) (λ e x. subst (Cause fixed h c) (sym e) (from-32 x)) (λ e x. subst (Cause fixed h c) (sym e) (from-33 x)) (λ e x. subst (Cause fixed h c) (sym e) (from-34 x)) (λ e x. subst (Cause fixed h c) (sym e) (from-35 x)) (λ e x. subst (Cause fixed h c) (sym e) (from-36 x)) (λ e x. subst (Cause fixed h c) (sym e) (from-37 x)) (λ e x. subst (Cause fixed h c) (sym e) (from-38 x)) (λ e x. subst (Cause fixed h c) (sym e) (from-39 x))

  pub exactly : (c : Call) (number place : ℕ) → (Cause fixed h c number × (place ≡ 0)) ↔ (At c number × (place ≡ 0))
  exactly c number place = (λ q. (told c number q.0, q.1), λ q. (from c number q.0, q.1))

  pub one_of : (c : Call) (number : ℕ) → Cause fixed h c number → In number (20 ∷ 21 ∷ 30 ∷ 31 ∷ 32 ∷ 33 ∷ 34 ∷ 35 ∷ 36 ∷ 37 ∷ 38 ∷ 39 ∷ [])
  one_of c number q = by_number c number (told c number q) (λ e x. In.head e) (λ e x. In.tail (In.head e)) (λ e x. In.tail (In.tail (In.head e))) (λ e x. In.tail (In.tail (In.tail (In.head e)))) (λ e x. In.tail (In.tail (In.tail (In.tail (In.head e))))) (λ e x. In.tail (In.tail (In.tail (In.tail (In.tail (In.head e)))))) (λ e x. In.tail (In.tail (In.tail (In.tail (In.tail (In.tail (In.head e))))))) (λ e x. In.tail (In.tail (In.tail (In.tail (In.tail (In.tail (In.tail (In.head e)))))))) (λ e x. In.tail (In.tail (In.tail (In.tail (In.tail (In.tail (In.tail (In.tail (In.head e))))))))) (λ e x. In.tail (In.tail (In.tail (In.tail (In.tail (In.tail (In.tail (In.tail (In.tail (In.head e)))))))))) (λ e x. In.tail (In.tail (In.tail (In.tail (In.tail (In.tail (In.tail (In.tail (In.tail (In.tail (In.head e))))))))))) (λ e x. In.tail (In.tail (In.tail (In.tail (In.tail (In.tail (In.tail (In.tail (In.tail (In.tail (In.tail (In.head e))))))))))))
