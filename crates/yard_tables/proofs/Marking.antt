-- The seats ranked and their marks set, by the tests that the code makes. Assumes nothing.
use mathlib.Core.Path.{◌≡◌, refl, sym, ap, ap₂, ◌∙◌}
use mathlib.Core.Bool.{Bool, true, false, not, cond, ◌||◌}
use mathlib.Core.List.{List}
use Prim.Native.Nat.{ℕ, ◌<◌}
use native.Mathlib.Omega.{arith}
use borrow.Author.Tests.{eq-eqb, ne_eqb}
use lib.Dec.{eqb}
use lib.ListN.{length, get_or, set, length-set}
use lib.Seq.{ext_get_or, get_or-set_same, get_or-set_other}
use Rattle.refusal.proofs.Cases.{pick_yes, pick_no, or-first, same_or}
use Rattle.yard_tables.specs.Counting.{each}
use Rattle.yard_tables.specs.Seats.{on, cleared, we_choke, having}
use Rattle.yard_tables.specs.Ranks.{wants_it, inserted, noted, rank_step, mark_step, choke_step, unchoke_step}
use Rattle.yard_tables.specs.declared.Seat.{Seat}
use Rattle.yard_tables.specs.declared.rank.Place.{Place}
use Rattle.yard_tables.specs.declared.rank.Ranking.{Ranking}
use Rattle.yard_tables.specs.declared.round.Marks.{Marks}
use Rattle.yard_tables.proofs.Sweeps.{length-each, get_or-each, each-ext}

-- ---- the seats ranked

module _ (last i : ℕ) (r : Ranking) where
  pub step-wanting : (s : Seat) {n t : Ranking} {p : Place} → wants_it s ≡ true → n ≡ noted last i r → p ≡ record { seat = i; bytes = s.bytes } → t ≡ inserted p n → t ≡ rank_step last r s i
  unfolding rank_step
  step-wanting s e en ep et = pick_yes r (wants_it s) e (et ∙ ap₂ (λ (p : Place) (n : Ranking). inserted p n) ep en)

  pub step_past : (s : Seat) → wants_it s ≡ false → r ≡ rank_step last r s i
  unfolding rank_step
  step_past s e = pick_no (inserted (record { seat = i; bytes = s.bytes }) (noted last i r)) (wants_it s) e refl

-- ---- the marks

-- every seat choked, and unchoked at one number after the other
abbrev choked_but : (ℕ → Bool) → ℕ → Seat → Seat
choked_but free j s = cond (on s.taken) (we_choke (not (free j)) (having 0 s)) s

-- one more
abbrev unchoked_at : ℕ → List Seat → List Seat
unchoked_at i l = set l i (unchoke_step (get_or l i cleared))

unchokes-it : (b : Bool) (s : Seat) → unchoke_step (cond (on s.taken) (we_choke b (having 0 s)) s) ≡ cond (on s.taken) (we_choke false (having 0 s)) s
unchokes-it b s = go (on s.taken) refl
  where
    go : (t : Bool) → on s.taken ≡ t → unchoke_step (cond t (we_choke b (having 0 s)) s) ≡ cond t (we_choke false (having 0 s)) s
    go true e = rw e
    go false e = rw e

unchoked-more : (free : ℕ → Bool) (i : ℕ) (l : List Seat) → unchoked_at i (each (choked_but free) l) ≡ each (choked_but (λ j. eqb j i || free j)) l
unchoked-more free i l =
    let f : ℕ → Seat → Seat = choked_but free in
    let g : ℕ → Seat → Seat = choked_but (λ j. eqb j i || free j) in
    ext_get_or cleared (unchoked_at i (each f l)) (each g l) (length-set (each f l) i _ ∙ length-each f l ∙ sym (length-each g l))
    (λ j q. let m : j < length l = omega (arith, length-set (each f l) i (unchoke_step (get_or (each f l) i cleared)), length-each f l) in
    same_or j i
    (λ e. rw e (get_or-set_same (each f l) i _ cleared (omega (arith, length-each f l))
    ∙ ap unchoke_step (get_or-each f l i cleared (omega arith)) ∙ unchokes-it (not (free i)) (get_or l i cleared)
    ∙ ap (λ (b : Bool). cond (on (get_or l i cleared).taken) (we_choke (not (b || free i)) (having 0 (get_or l i cleared))) (get_or l i cleared)) (sym (eq-eqb i i refl))
    ∙ sym (get_or-each g l i cleared (omega arith))))
    (λ d. get_or-set_other (each f l) i j _ cleared d ∙ get_or-each f l j cleared m
    ∙ ap (λ (b : Bool). cond (on (get_or l j cleared).taken) (we_choke (not (b || free j)) (having 0 (get_or l j cleared))) (get_or l j cleared)) (sym (ne_eqb j i d))
    ∙ sym (get_or-each g l j cleared m)))

-- the four and the holder of the free place, unchoked after all were choked, are the marks of a round
pub marks-set : (m : Marks) (l : List Seat)
    → unchoked_at m.free (unchoked_at m.first (unchoked_at m.second (unchoked_at m.third (unchoked_at m.fourth (each (λ i s. choke_step s) l))))) ≡ each (λ i s. mark_step m s i) l
unfolding mark_step
marks-set m l =
    ap (λ (k : List Seat). unchoked_at m.free (unchoked_at m.first (unchoked_at m.second (unchoked_at m.third k)))) (unchoked-more (λ j. false) m.fourth l)
    ∙ ap (λ (k : List Seat). unchoked_at m.free (unchoked_at m.first (unchoked_at m.second k))) (unchoked-more (λ j. eqb j m.fourth || false) m.third l)
    ∙ ap (λ (k : List Seat). unchoked_at m.free (unchoked_at m.first k)) (unchoked-more (λ j. eqb j m.third || (eqb j m.fourth || false)) m.second l)
    ∙ ap (λ (k : List Seat). unchoked_at m.free k) (unchoked-more (λ j. eqb j m.second || (eqb j m.third || (eqb j m.fourth || false))) m.first l)
    ∙ unchoked-more (λ j. eqb j m.first || (eqb j m.second || (eqb j m.third || (eqb j m.fourth || false)))) m.free l
    ∙ each-ext cleared _ _ l (λ j q. ap (λ (b : Bool). cond (on (get_or l j cleared).taken)
    (we_choke (not (eqb j m.free || (eqb j m.first || (eqb j m.second || (eqb j m.third || b))))) (having 0 (get_or l j cleared))) (get_or l j cleared)) (or-first (eqb j m.fourth) false refl))
