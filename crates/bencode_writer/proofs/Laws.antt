-- What `put_of` says of every writer: when it is taken and when it is refused, and what then stands in the output. Assumes nothing.
use Rattle.std.proofs.Common.{Err, Result, ◌≡◌, refl, sym, ap, ◌∙◌, Bool, true, false, List, ◌++◌, append_assoc, ℕ, ◌+◌, ◌<◌, ◌≤◌, arith, leb, length, take, drop, length-append}
use Rattle.refusal.specs.declared.Refusal.{Refusal}
use borrow.Author.Tests.{le-leb, lt-leb, leb-true, leb-false}
use lib.Seq.{sets, sets-eq, length-take-le, take_at, drop_at}
use Rattle.refusal.specs.Paper.{paper, taken, refused}
use Rattle.refusal.specs.Numbers.{room}
use Rattle.refusal.proofs.Places.{stands}
use Rattle.refusal.proofs.Outcomes.{paper-determined}
use Rattle.bencode_writer.specs.Put.{Left, left, put_of}

-- document 01's words tell the code's answers apart
pub paper-apart : (r s : Result ℕ Refusal) → paper r ≡ paper s → r ≡ s
paper-apart r s e = paper-determined (paper s) r s e refl

-- w stands at its place of out, and all else is as in o
pub record Standing (w : List ℕ) (at : ℕ) (o out : List ℕ) : Type 0 where
  pub there : take (length w) (drop at out) ≡ w
  pub before : take at out ≡ take at o
  pub past : drop (at + length w) out ≡ drop (at + length w) o

-- the bytes w, put at a place of the output o
module _ (w : List ℕ) (at : ℕ) (o : List ℕ) where
  pub put_whole : at + length w ≤ length o → put_of w at o ≡ left (taken (at + length w)) (sets o at w)
  unfolding put_of
  put_whole h = rw (le-leb (at + length w) (length o) h)

  pub put-none : length o < at + length w → put_of w at o ≡ left (refused room 0) o
  unfolding put_of
  put-none h = rw (lt-leb (at + length w) (length o) h)

  -- the same, from what the steps of the code ensure
  pub put-done : {r : ℕ} {out : List ℕ} → at + length w ≤ length o → r ≡ at + length w → out ≡ sets o at w → left (taken r) out ≡ put_of w at o
  put-done h e s = rw (e, s) (sym (put_whole h))

  pub put-nothing : {r : Result ℕ Refusal} → length o < at + length w → r ≡ Err (record { number = room; place = 0 }) → left (paper r) o ≡ put_of w at o
  put-nothing h e = rw e (sym (put-none h))

  -- by whether they fit
  by-room : {P : Type 0} → (at + length w ≤ length o → P) → (length o < at + length w → P) → P
  by-room {P} x y = go (leb (at + length w) (length o)) refl
    where
      go : (t : Bool) → leb (at + length w) (length o) ≡ t → P
      go true e = x (leb-true _ _ e)
      go false e = y (leb-false _ _ e)

  pub standing : at + length w ≤ length o → Standing w at o (sets o at w)
  standing h =
      let e = sets-eq w o at h in
      let l = length-take-le at o (omega arith) in
      let k : length (take at o ++ w) ≡ at + length w = simp length-append (omega arith) in
      record {
        there = stands (length w) at w o refl h;
        before = rw (e, append_assoc, take_at (take at o) (w ++ drop (at + length w) o) at l);
        past = rw (e, drop_at (take at o ++ w) (drop (at + length w) o) (at + length w) k);
      }

  -- what a writer's contract permits, for one entry
  module _ (r : Result ℕ Refusal) {out : List ℕ} (e : left (paper r) out ≡ put_of w at o) where
    pub determined : (s : Result ℕ Refusal) {out' : List ℕ} → left (paper s) out' ≡ put_of w at o → (r ≡ s) × (out ≡ out')
    determined s f = (paper-apart r s (ap (λ (x : Left). x.answer) (e ∙ sym f)), ap (λ (x : Left). x.out) (e ∙ sym f))

    -- 37 exactly where they do not fit
    pub refusal-keeps : {n p : ℕ} → paper r ≡ refused n p → ((n ≡ room) × (p ≡ 0) × (length o < at + length w)) × (out ≡ o)
    refusal-keeps {n} {p} h =
        by-room
        (λ l. let x = ap (λ (y : Left). y.answer) (e ∙ put_whole l) in let z : ◌≡◌ {A = ℕ} 0 1 = cc in absurd (omega arith))
        (λ l. let x = ap (λ (y : Left). y.answer) (e ∙ put-none l) in ((cc, cc, l), ap (λ (y : Left). y.out) (e ∙ put-none l)))

    pub reads-back : {q : ℕ} → paper r ≡ taken q → ((q ≡ at + length w) × (at + length w ≤ length o)) × Standing w at o out
    reads-back {q} h =
        by-room
        (λ l. let x = ap (λ (y : Left). y.answer) (e ∙ put_whole l) in ((cc, l), rw (ap (λ (y : Left). y.out) (e ∙ put_whole l)) (standing l)))
        (λ l. let x = ap (λ (y : Left). y.answer) (e ∙ put-none l) in let z : ◌≡◌ {A = ℕ} 0 1 = cc in absurd (omega arith))
