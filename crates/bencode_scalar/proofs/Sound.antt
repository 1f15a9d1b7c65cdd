-- A string or an integer that is read was written so. Assumes nothing.
use Rattle.std.proofs.Common.{◌≡◌, refl, sym, ap, ◌∙◌, subst, Bool, true, false, cond, List, [], ◌∷◌, ◌++◌, append_assoc, ℕ, suc, ◌+◌, ◌-◌, ◌≤◌, pred, arith, leb, eqb, ℤ, length, take, drop, length-append, length-drop, length-take, take-append-drop}
use mathlib.Core.Bool.{false≢true}
use borrow.Author.Tests.{leb-true, eqb-true, eqb-false}
use Rattle.bencode_scalar.specs.Written.{decimal, written_string, signed, written_int}
use Rattle.bencode_scalar.specs.Reading.{Got, got, bad, map_got, and_then, is_digit, num_val, num_len, colon_of, string_of, string_at, signed_as, integer_end, closed_of, minus_at, integer_of, integer_at}
use Rattle.bencode_scalar.proofs.Printed.{number-sound, num_pos}

-- P of what is read, if anything is
abbrev pub Holds : {A : Type 0} → (A → List ℕ → ℕ → ℕ → Type 0) → Got A → Type 0
Holds P (got v l q m) = P v l q m
Holds P (bad r p) = Unit

pub holds-map : {A B : Type 0} (P : B → List ℕ → ℕ → ℕ → Type 0) (f : A → B) (g : Got A) → Holds (λ v. P (f v)) g → Holds P (map_got f g)
holds-map P f (got v l q m) h = h
holds-map P f (bad r p) h = tt

pub holds_then : {A B : Type 0} (P : A → List ℕ → ℕ → ℕ → Type 0) (Q : B → List ℕ → ℕ → ℕ → Type 0) (g : Got A) (f : A → List ℕ → ℕ → ℕ → Got B)
    → Holds P g → ((v : A) (l : List ℕ) (q m : ℕ) → P v l q m → Holds Q (f v l q m)) → Holds Q (and_then g f)
holds_then P Q (got v l q m) f h k = k v l q m h
holds_then P Q (bad r p) f h k = tt

pub holds-cond : {A : Type 0} (P : A → List ℕ → ℕ → ℕ → Type 0) (t : Bool) (x y : Got A) → (t ≡ true → Holds P x) → (t ≡ false → Holds P y) → Holds P (cond t x y)
holds-cond P true x y h k = h refl
holds-cond P false x y h k = k refl

-- l is w, and then r; and q is the place after w
pub record At (l : List ℕ) (p : ℕ) (r : List ℕ) (q : ℕ) (w : List ℕ) : Type 0 where
  pub text : l ≡ w ++ r
  pub place : q ≡ p + length w

pub at-then : {l m r : List ℕ} {p q o : ℕ} {v w : List ℕ} → At l p m q v → At m q r o w → At l p r o (v ++ w)
at-then {l} {m} {r} {p} {q} {o} {v} {w} x y = record {
  text = x.text ∙ ap (λ (z : List ℕ). v ++ z) y.text ∙ sym (append_assoc v w r);
  place = omega (arith, x.place, y.place, length-append v w);
}

pub at_byte : (b : ℕ) (t : List ℕ) (p : ℕ) → At (b ∷ t) p t (p + 1) (b ∷ [])
at_byte b t p = record { text = refl; place = refl }

-- what is left, by its place
pub at_left : {l r w : List ℕ} {p q e : ℕ} → At l p r q w → p + length l ≡ e → q + length r ≡ e
at_left {l} {r} {w} {p} {q} {e} x h = omega (arith, x.place, ap length x.text, length-append w r)

-- a number
pub at-number : (b : ℕ) (t : List ℕ) (p : ℕ) → is_digit b ≡ true → At (b ∷ t) p (drop (num_len b t) t) (p + 1 + num_len b t) (decimal (num_val b t))
at-number b t p d =
    let n = number-sound b t d in
    record { text = n.text; place = omega (arith, n.fits, ap length n.text, length-append (decimal (num_val b t)) (drop (num_len b t) t), length-drop (num_len b t) t) }

-- a string
abbrev pub TextP : List ℕ → ℕ → ℕ → List ℕ → List ℕ → ℕ → ℕ → Type 0
TextP l p n k r q m = At l p r q (written_string k) × (m ≡ n)

colon-sound : (e p m : ℕ) (l : List ℕ) (n o : ℕ) (w : List ℕ) → At w o l p (decimal m) → p + length l ≡ e → Holds (TextP w o n) (colon_of e p m l n)
colon-sound e p m [] n o w a h = tt
colon-sound e p m (c ∷ t) n o w a h =
    holds-cond (TextP w o n) (eqb c 58) _ _ (λ x. holds-cond (TextP w o n) (leb m (e - (p + 1))) _ _
    (λ y.
    let z : c ≡ 58 = eqb-true c 58 x in
    let k : length (take m t) ≡ m = length-take m t ∙ omega (arith, leb-true m (e - (p + 1)) y) in (
      record {
        text = a.text ∙ ap (λ (b : ℕ). decimal m ++ b ∷ t) z
            ∙ ap (λ (b : List ℕ). decimal m ++ 58 ∷ b) (sym (take-append-drop m t))
            ∙ sym (append_assoc (decimal m) (58 ∷ take m t) (drop m t))
            ∙ ap (λ (b : ℕ). (decimal b ++ 58 ∷ take m t) ++ drop m t) (sym k);
        place = rw (k, length-append (decimal m) (58 ∷ take m t)) (omega (arith, a.place, k));
      },
      refl,
    ))
    (λ y. tt)) (λ x. tt)

pub string-sound : (e b : ℕ) (t : List ℕ) (p n : ℕ) → is_digit b ≡ true → p + suc (length t) ≡ e → Holds (TextP (b ∷ t) p n) (string_of e b t p n)
unfolding string_of
string-sound e b t p n d h =
    let a = at-number b t p d in
    colon-sound e (p + 1 + num_len b t) (num_val b t) (drop (num_len b t) t) n p (b ∷ t) a (at_left a h)

-- an integer
abbrev pub IntP : List ℕ → ℕ → ℕ → ℤ → List ℕ → ℕ → ℕ → Type 0
IntP l p n z r q m = At l p r q (written_int z) × (m ≡ n)

pub shown : (neg : Bool) (m : ℕ) → (neg ≡ true → 1 ≤ m) → cond neg (105 ∷ 45 ∷ []) (105 ∷ []) ++ decimal m ≡ 105 ∷ signed (signed_as neg m)
shown true m h = let e : suc (pred m) ≡ m = omega (arith, h refl) in rw e
shown false m h = refl

end-sound : (neg : Bool) (e o p m : ℕ) (l : List ℕ) (n : ℕ) (w : List ℕ) → At w o l p (105 ∷ signed (signed_as neg m)) → Holds (IntP w o n) (integer_end neg e p m l n)
end-sound neg e o p m [] n w a = tt
end-sound neg e o p m (c ∷ t) n w a =
    holds-cond (IntP w o n) (eqb c 101) _ _
    (λ x. (at-then a (subst (λ (b : ℕ). At (c ∷ t) p t (p + 1) (b ∷ [])) (eqb-true c 101 x) (at_byte c t p)), refl))
    (λ x. tt)

closed-sound : (neg : Bool) (e o b : ℕ) (t : List ℕ) (p n : ℕ) (w : List ℕ) → is_digit b ≡ true → At w o (b ∷ t) p (cond neg (105 ∷ 45 ∷ []) (105 ∷ [])) → (neg ≡ true → 1 ≤ num_val b t)
    → Holds (IntP w o n) (closed_of neg e b t (p + 1) n)
unfolding closed_of
closed-sound neg e o b t p n w d a one =
    end-sound neg e o (p + 1 + num_len b t) (num_val b t) (drop (num_len b t) t) n w
    (subst (At w o (drop (num_len b t) t) (p + 1 + num_len b t)) (shown neg (num_val b t) one) (at-then a (at-number b t p d)))

minus-sound : (e o : ℕ) (t : List ℕ) (n : ℕ) → Holds (IntP (105 ∷ 45 ∷ t) o n) (minus_at e t (o + 1 + 1) n)
minus-sound e o [] n = tt
minus-sound e o (c ∷ t) n =
    holds-cond (IntP (105 ∷ 45 ∷ c ∷ t) o n) (eqb c 48) _ _ (λ x. tt) (λ x. holds-cond (IntP (105 ∷ 45 ∷ c ∷ t) o n) (is_digit c) _ _
    (λ y. closed-sound true e o c t (o + 1 + 1) n (105 ∷ 45 ∷ c ∷ t) y (at-then (at_byte 105 (45 ∷ c ∷ t) o) (at_byte 45 (c ∷ t) (o + 1))) (λ z. num_pos c t y (eqb-false c 48 x)))
    (λ y. tt))

pub int-sound : (e o : ℕ) (l : List ℕ) (n : ℕ) → Holds (IntP (105 ∷ l) o n) (integer_of e l (o + 1) n)
unfolding integer_of
int-sound e o [] n = tt
int-sound e o (b ∷ t) n =
    holds-cond (IntP (105 ∷ b ∷ t) o n) (eqb b 45) _ _
    (λ x. subst (λ (c : ℕ). Holds (IntP (105 ∷ c ∷ t) o n) (minus_at e t (o + 1 + 1) n)) (sym (eqb-true b 45 x)) (minus-sound e o t n))
    (λ x. holds-cond (IntP (105 ∷ b ∷ t) o n) (is_digit b) _ _
    (λ y. closed-sound false e o b t (o + 1) n (105 ∷ b ∷ t) y (at_byte 105 (b ∷ t) o) (λ z. absurd (false≢true z)))
    (λ y. tt))

-- at the head of what is left
pub string_at-sound : (e : ℕ) (l : List ℕ) (p n : ℕ) → p + length l ≡ e → Holds (TextP l p n) (string_at e l p n)
string_at-sound e [] p n h = tt
string_at-sound e (b ∷ t) p n h = holds-cond (TextP (b ∷ t) p n) (is_digit b) (string_of e b t p n) _ (λ d. string-sound e b t p n d h) (λ d. tt)

pub integer-at-sound : (e : ℕ) (l : List ℕ) (p n : ℕ) → Holds (IntP l p n) (integer_at e l p n)
integer-at-sound e [] p n = tt
integer-at-sound e (b ∷ t) p n =
    holds-cond (IntP (b ∷ t) p n) (eqb b 105) (integer_of e t (p + 1) n) _
    (λ x. subst (λ (c : ℕ). Holds (IntP (c ∷ t) p n) (integer_of e t (p + 1) n)) (sym (eqb-true b 105 x)) (int-sound e p t n))
    (λ x. tt)
