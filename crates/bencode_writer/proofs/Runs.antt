-- Bytes put one after the other, and loops that put them. Assumes nothing.
use Rattle.std.proofs.Common.{◌≡◌, refl, sym, ap, ◌∙◌, subst, List, [], ◌++◌, append_assoc, ℕ, ◌+◌, ◌-◌, ◌≤◌, arith, length, take, drop, length-append}
use lib.Seq.{sets, length-sets}
use Rattle.refusal.specs.Paper.{Outcome}
use Rattle.refusal.proofs.Places.{sets-append, stands}
use Rattle.bencode_writer.specs.Put.{Left, left, put_of, place_past, Ran}
use Rattle.bencode_writer.proofs.Laws.{put_whole}

module _ {w : List ℕ} {at : ℕ} {o : List ℕ} {r : ℕ} {p : List ℕ} (h : Ran w at o r p) where
  pub ran-length : length p ≡ length o
  ran-length = ap length h.out ∙ length-sets o at w

  pub ran_then : {x : List ℕ} {q : ℕ} {e : List ℕ} → Ran x r p q e → Ran (w ++ x) at o q e
  ran_then {x} {q} {e} k = record {
    place = omega (arith, h.place, k.place, length-append w x);
    out = k.out ∙ rw (h.place, h.out) (sym (sets-append o at w x));
  }

  pub ran-as : {x : List ℕ} → w ≡ x → Ran x at o r p
  ran-as e = subst (λ (l : List ℕ). Ran l at o r p) e h

  -- what comes next has its room where the whole has
  pub ran-room : (x : List ℕ) → at + length (w ++ x) ≤ length o → r + length x ≤ length p
  ran-room x l = omega (arith, h.place, length-append w x, ran-length)

-- what was put, where it had its room
pub ran-there : (w : List ℕ) (at : ℕ) (o : List ℕ) {r : ℕ} {p : List ℕ} → Ran w at o r p → at + length w ≤ length o → take (r - at) (drop at p) ≡ w
ran-there w at o {r} {p} h l =
    let e : r - at ≡ length w = omega (arith, h.place) in
    rw (e, h.out) (stands (length w) at w o refl l)

-- a writer that has room puts its bytes
pub put-ran : (w : List ℕ) (at : ℕ) (o : List ℕ) {a : Outcome ℕ} {r : ℕ} {p : List ℕ} → at + length w ≤ length o → left a p ≡ put_of w at o → r ≡ place_past a → Ran w at o r p
put-ran w at o h e f =
    let g = e ∙ put_whole w at o h in
    record { place = f ∙ ap (λ (x : Left). place_past x.answer) g; out = ap (λ (x : Left). x.out) g }

-- and another after it
pub ran-put : {w : List ℕ} {at : ℕ} {o : List ℕ} {r : ℕ} {p : List ℕ} → Ran w at o r p → (x : List ℕ) {a : Outcome ℕ} {q : ℕ} {e : List ℕ} → at + length (w ++ x) ≤ length o
    → left a e ≡ put_of x r p → q ≡ place_past a → Ran (w ++ x) at o q e
ran-put h x l e f = ran_then h (put-ran x _ _ (ran-room h x l) e f)

-- two of them, and three
pub put_two : (v w : List ℕ) (at : ℕ) (o : List ℕ) {a b : Outcome ℕ} {r q : ℕ} {p e : List ℕ} → at + length (v ++ w) ≤ length o
    → left a p ≡ put_of v at o → r ≡ place_past a → left b e ≡ put_of w r p → q ≡ place_past b → Ran (v ++ w) at o q e
put_two v w at o l e₁ f₁ e₂ f₂ = ran-put (put-ran v at o (omega (arith, length-append v w)) e₁ f₁) w l e₂ f₂

pub put_three : (v w x : List ℕ) (at : ℕ) (o : List ℕ) {a b c : Outcome ℕ} {r q i : ℕ} {p e d : List ℕ} → at + length (v ++ (w ++ x)) ≤ length o
    → left a p ≡ put_of v at o → r ≡ place_past a → left b e ≡ put_of w r p → q ≡ place_past b → left c d ≡ put_of x q e → i ≡ place_past c → Ran (v ++ (w ++ x)) at o i d
put_three v w x at o l e₁ f₁ e₂ f₂ e₃ f₃ =
    let same = append_assoc v w x in
    let two = put_two v w at o (omega (arith, ap length same, length-append (v ++ w) x)) e₁ f₁ e₂ f₂ in
    ran-as (ran-put two x (omega (arith, ap length same)) e₃ f₃) same

-- ---- what is left to put

-- all the bytes were to be put at a place of o; p now has them but for those left, which go to `to`
pub record Going (all : List ℕ) (at : ℕ) (o : List ℕ) (left : List ℕ) (to : ℕ) (p : List ℕ) : Type 0 where
  pub place : to + length left ≡ at + length all
  pub same : sets p to left ≡ sets o at all

module _ (all : List ℕ) (at : ℕ) (o : List ℕ) where
  pub going_start : Going all at o all at o
  going_start = record { place = refl; same = refl }

  module _ {left : List ℕ} {to : ℕ} {p : List ℕ} (g : Going all at o left to p) where
    pub going_more : (w x : List ℕ) → left ≡ w ++ x → {r : ℕ} {e : List ℕ} → Ran w to p r e → Going all at o x r e
    going_more w x i {r} {e} k = record {
      place = omega (arith, g.place, k.place, length-append w x, ap length i);
      same = ap (λ (n : ℕ). sets e n x) k.place ∙ ap (λ (l : List ℕ). sets l (to + length w) x) k.out ∙ sym (sets-append p to w x) ∙ ap (sets p to) (sym i) ∙ g.same;
    }

    pub going_end : left ≡ [] → Ran all at o to p
    going_end e = record { place = omega (arith, g.place, ap length e); out = ap (sets p to) (sym e) ∙ g.same }

    -- nothing is put past what there is
    pub going-near : to ≤ at + length all
    going-near = omega (arith, g.place)

module _ {all : List ℕ} {at : ℕ} {o left : List ℕ} {to : ℕ} {p : List ℕ} (g : Going all at o left to p) where
  pub going-length : length p ≡ length o
  going-length = sym (length-sets p to left) ∙ ap length g.same ∙ length-sets o at all

  pub going-room : at + length all ≤ length o → to + length left ≤ length p
  going-room h = omega (arith, g.place, going-length)
