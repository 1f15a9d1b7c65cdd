-- What a call that writes comes to, by its outcome: when it is taken and what the output holds then, and when it is refused. Assumes nothing.
use Rattle.std.proofs.Common.{Err, Result, ◌≡◌, refl, sym, ap, ◌∙◌, ◌⊎◌, inl, inr, ◌↔◌, List, ◌++◌, ℕ, ◌+◌, ◌≤◌, ◌<◌, arith, length, drop}
use Rattle.refusal.specs.declared.Refusal.{Refusal}
use lib.Seq.{sets, sets-eq}
use Rattle.refusal.specs.Paper.{paper, Outcome, taken, refused}
use Rattle.refusal.proofs.Cases.{less-or}
use Rattle.refusal.proofs.Outcomes.{not_taken, not-refused, same-refusal}
use Rattle.bencode_writer.specs.Put.{Left, left, put_of, puts}
use Rattle.bencode_writer.proofs.Laws.{put_whole, put-none, refusal-keeps}

-- bytes at the front of the output
pub put_front : (w o : List ℕ) → length w ≤ length o → sets o 0 w ≡ w ++ drop (length w) o
put_front w o l =
    let z : 0 + length w ≡ length w = omega arith in
    sets-eq w o 0 (omega arith) ∙ ap (λ (k : ℕ). w ++ drop k o) z

refusal_is : {A : Type 0} {m q n p : ℕ} → m ≡ n → q ≡ p → ◌≡◌ {A = Outcome A} (refused m q) (refused n p)
refusal_is a b = rw (a, b)

-- 37 exactly where bytes do not fit
pub put-exactly : (w : List ℕ) (at : ℕ) (o : List ℕ) (n p : ℕ) → (put_of w at o).answer ≡ refused n p ↔ ((n ≡ 37) × (length o < at + length w) × (p ≡ 0))
put-exactly w at o n p = (
  λ e. let k = refusal-keeps w at o (Err (record { number = n; place = p })) (ap (λ (a : Outcome ℕ). left a (put_of w at o).out) (sym e)) refl in (k.0.0, k.0.2, k.0.1),
  λ h. ap (λ (l : Left). l.answer) (put-none w at o h.1) ∙ refusal_is (sym h.0) (sym h.2),
)

module _ (w o : List ℕ) where
  pub put-taken : (q : ℕ) → (put_of w 0 o).answer ≡ taken q ↔ ((length w ≤ length o) × (q ≡ length w))
  put-taken q = (
    λ e. less-or (length o) (length w)
        (λ l. let g : length o < 0 + length w = omega arith in not_taken (sym (ap (λ (x : Left). x.answer) (put-none w 0 o g)) ∙ e))
        (λ l. let g : 0 + length w ≤ length o = omega arith in let z : taken (0 + length w) ≡ taken q = sym (ap (λ (x : Left). x.answer) (put_whole w 0 o g)) ∙ e in let y : 0 + length w ≡ q = cc in (l, omega arith)),
    λ (l, z). let g : 0 + length w ≤ length o = omega arith in let y : 0 + length w ≡ q = omega arith in ap (λ (x : Left). x.answer) (put_whole w 0 o g) ∙ ap taken y,
  )

  pub put-there : length w ≤ length o → put_of w 0 o ≡ left (taken (length w)) (w ++ drop (length w) o)
  put-there l =
      let g : 0 + length w ≤ length o = omega arith in
      let z : 0 + length w ≡ length w = omega arith in
      put_whole w 0 o g ∙ ap (λ (k : ℕ). left (taken k) (sets o 0 w)) z ∙ ap (left (taken (length w))) (put_front w o l)

-- 37 of what is to be put, or the refusal of what is not
abbrev pub NoRoom : List ℕ → Outcome (List ℕ) → ℕ → ℕ → Type 0
NoRoom o x n p = (n ≡ 37) × ((w : List ℕ) × (x ≡ taken w) × (length o < length w)) × (p ≡ 0)

puts-only : (o : List ℕ) (x : Outcome (List ℕ)) (n p : ℕ) → (puts o x).answer ≡ refused n p → (x ≡ refused n p) ⊎ NoRoom o x n p
puts-only o (taken w) n p e = let (a, l, z) = (put-exactly w 0 o n p).0 e in inr (a, (w, refl, omega arith), z)
puts-only o (refused m q) n p e = let z = same-refusal e in inl (refusal_is z.0 z.1)

puts-every : (o : List ℕ) (x : Outcome (List ℕ)) (n p : ℕ) → (x ≡ refused n p) ⊎ NoRoom o x n p → (puts o x).answer ≡ refused n p
puts-every o (taken w) n p (inl e) = not-refused e
puts-every o (taken w) n p (inr (a, (y, e, l), z)) = let q : w ≡ y = cc in let k : length w ≡ length y = ap length q in (put-exactly w 0 o n p).1 (a, omega arith, z)
puts-every o (refused m q) n p (inl e) = let z = same-refusal e in refusal_is z.0 z.1
puts-every o (refused m q) n p (inr (a, (y, e, l), z)) = not_taken e

pub puts-refused : (o : List ℕ) (x : Outcome (List ℕ)) (n p : ℕ) → (puts o x).answer ≡ refused n p ↔ ((x ≡ refused n p) ⊎ NoRoom o x n p)
puts-refused o x n p = (puts-only o x n p, puts-every o x n p)

pub puts-taken : (o : List ℕ) (x : Outcome (List ℕ)) (q : ℕ) → (puts o x).answer ≡ taken q → (w : List ℕ) × (x ≡ taken w) × (length w ≤ length o) × (q ≡ length w) × ((puts o x).out ≡ w ++ drop q o)
puts-taken o (taken w) q e = let (l, z) = (put-taken w o q).0 e in (w, refl, l, z, ap (λ (x : Left). x.out) (put-there w o l) ∙ ap (λ (k : ℕ). w ++ drop k o) (sym z))
puts-taken o (refused m p) q e = not_taken e

-- a refusal leaves the output
pub puts-keeps : (x : Outcome (List ℕ)) (o : List ℕ) (r : Result ℕ Refusal) {out : List ℕ} → left (paper r) out ≡ puts o x → (n p : ℕ) → paper r ≡ refused n p → out ≡ o
puts-keeps (taken w) o r f n p h = (refusal-keeps w 0 o r f h).1
puts-keeps (refused m q) o r f n p h = ap (λ (l : Left). l.out) f
