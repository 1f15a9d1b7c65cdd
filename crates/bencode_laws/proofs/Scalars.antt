-- A string or an integer is refused exactly where the text ends within it, or a byte cannot stand there. Assumes nothing.
use mathlib.Core.Path.{◌≡◌, refl, sym, ap, ◌∙◌, subst}
use mathlib.Core.Bool.{Bool, true, false, false≢true, cond}
use mathlib.Core.List.{List, [], ◌∷◌, ◌++◌, append-nil}
use Prim.Native.Nat.{ℕ, suc, ◌+◌, ◌-◌, ◌<◌, ◌≤◌}
use native.Mathlib.Omega.{arith}
use lib.Dec.{leb, eqb}
use lib.IntN.{ℤ, pos, negsuc}
use lib.ListN.{length, drop, length-append}
use borrow.Author.Tests.{leb-false, lt-leb, eqb-true, eqb-false, ne_eqb}
use Rattle.refusal.specs.Numbers.{cut, byte}
use Rattle.refusal.proofs.Cases.{by-test}
use Rattle.bencode_scalar.specs.Written.{decimal, signed}
use Rattle.bencode_scalar.specs.Reading.{Got, bad, is_digit, num_val, num_len, colon_of, string_of, signed_as, integer_end, closed_of, minus_at, integer_of}
use Rattle.bencode_scalar.proofs.Decimal.{digit-range, range-digit}
use Rattle.bencode_scalar.proofs.Printed.{num_pos}
use Rattle.bencode_scalar.proofs.Sound.{at-number, shown, At, at-then, at_byte, at_left}
use Rattle.bencode_laws.specs.Causes.{size, StringEnds, IntegerEnds, StringStops, IntegerStops}
use Rattle.bencode_laws.proofs.Fails.{Fails}
use Rattle.bencode_scalar.proofs.Numbers.{Over, more-other, over-number, digits}

-- why a string is refused
module _ (Q : ℕ → ℕ → Type 0) (e p b : ℕ) (t : List ℕ) (ends : StringEnds (b ∷ t) → Q cut e) (stops : (w : List ℕ) (c : ℕ) (u : List ℕ) → b ∷ t ≡ w ++ c ∷ u → StringStops w c → Q byte (p + length w)) where
  colon-fails : (k m : ℕ) (r : List ℕ) (n : ℕ) → At (b ∷ t) p r k (decimal m) → k + length r ≡ e → Over m r → Fails Q (colon_of e k m r n)
  colon-fails k m [] n a h o = ends (subst StringEnds (sym (a.text ∙ append-nil (decimal m))) (StringEnds.in-length m))
  colon-fails k m (c ∷ u) n a h o =
      by-test (Fails Q) (eqb c 58)
      (λ x. by-test (Fails Q) (leb m (e - (k + 1))) (λ y. tt)
      (λ y. ends (subst StringEnds (sym (a.text ∙ ap (λ (z : ℕ). decimal m ++ z ∷ u) (eqb-true c 58 x))) (StringEnds.in_bytes m u (omega (arith, leb-false m (e - (k + 1)) y))))))
      (λ x. subst (Q byte) (sym a.place) (stops (decimal m) c u a.text (StringStops.in-length m c o (eqb-false c 58 x))))

  pub string-fails : (n : ℕ) → is_digit b ≡ true → p + suc (length t) ≡ e → Fails Q (string_of e b t p n)
  unfolding string_of
  string-fails n d h =
      let a = at-number b t p d in
      colon-fails (p + 1 + num_len b t) (num_val b t) (drop (num_len b t) t) n a (at_left a h) (over-number b t)

-- the number with its sign
sized : (neg : Bool) (m : ℕ) → (neg ≡ true → 1 ≤ m) → m ≡ size (signed_as neg m)
sized true m h = omega (arith, h refl)
sized false m h = refl

-- why an integer is refused, whose i stands at o
module _ (Q : ℕ → ℕ → Type 0) (e o : ℕ) (l : List ℕ) (ends : IntegerEnds (105 ∷ l) → Q cut e) (stops : (w : List ℕ) (c : ℕ) (u : List ℕ) → 105 ∷ l ≡ w ++ c ∷ u → IntegerStops w c → Q byte (o + length w)) where
  end-fails : (neg : Bool) (k m : ℕ) (r : List ℕ) (n : ℕ) → At (105 ∷ l) o r k (105 ∷ signed (signed_as neg m)) → Over (size (signed_as neg m)) r → Fails Q (integer_end neg e k m r n)
  end-fails neg k m [] n a v = ends (subst IntegerEnds (sym (a.text ∙ append-nil (105 ∷ signed (signed_as neg m)))) (IntegerEnds.in-digits (signed_as neg m)))
  end-fails neg k m (c ∷ u) n a v =
      by-test (Fails Q) (eqb c 101) (λ x. tt)
      (λ x. subst (Q byte) (sym a.place) (stops (105 ∷ signed (signed_as neg m)) c u a.text (IntegerStops.in-digits (signed_as neg m) c v (eqb-false c 101 x))))

  closed-fails : (neg : Bool) (b : ℕ) (t : List ℕ) (p n : ℕ) → is_digit b ≡ true → At (105 ∷ l) o (b ∷ t) p (cond neg (105 ∷ 45 ∷ []) (105 ∷ [])) → (neg ≡ true → 1 ≤ num_val b t) → Fails Q (closed_of neg e b t (p + 1) n)
  unfolding closed_of
  closed-fails neg b t p n d a one =
      end-fails neg (p + 1 + num_len b t) (num_val b t) (drop (num_len b t) t) n
      (subst (At (105 ∷ l) o (drop (num_len b t) t) (p + 1 + num_len b t)) (shown neg (num_val b t) one) (at-then a (at-number b t p d)))
      (subst (λ (m : ℕ). Over m (drop (num_len b t) t)) (sized neg (num_val b t) one) (over-number b t))

  stops_at : (k : ℕ) (w : List ℕ) (c : ℕ) (u : List ℕ) → 105 ∷ l ≡ w ++ c ∷ u → k ≡ o + length w → IntegerStops w c → Q byte k
  stops_at k w c u x y z = subst (Q byte) (sym y) (stops w c u x z)

minus-fails : (Q : ℕ → ℕ → Type 0) (e o : ℕ) (t : List ℕ) (n : ℕ) → (IntegerEnds (105 ∷ 45 ∷ t) → Q cut e)
    → ((w : List ℕ) (c : ℕ) (u : List ℕ) → 105 ∷ 45 ∷ t ≡ w ++ c ∷ u → IntegerStops w c → Q byte (o + length w)) → Fails Q (minus_at e t (o + 1 + 1) n)
minus-fails Q e o [] n ends stops = ends IntegerEnds.after_minus
minus-fails Q e o (c ∷ t) n ends stops =
    by-test (Fails Q) (eqb c 48)
    (λ x. stops_at Q e o (45 ∷ c ∷ t) ends stops (o + 1 + 1) (105 ∷ 45 ∷ []) c t refl (omega arith) (IntegerStops.after_minus c (omega (arith, eqb-true c 48 x))))
    (λ x. by-test (Fails Q) (is_digit c)
    (λ y. closed-fails Q e o (45 ∷ c ∷ t) ends stops true c t (o + 1 + 1) n y (at-then (at_byte 105 (45 ∷ c ∷ t) o) (at_byte 45 (c ∷ t) (o + 1))) (λ z. num_pos c t y (eqb-false c 48 x)))
    (λ y. stops_at Q e o (45 ∷ c ∷ t) ends stops (o + 1 + 1) (105 ∷ 45 ∷ []) c t refl (omega arith)
    (IntegerStops.after_minus c (λ h k. false≢true (sym y ∙ range-digit c (omega arith) k)))))

pub integer-fails : (Q : ℕ → ℕ → Type 0) (e o : ℕ) (l : List ℕ) (n : ℕ) → (IntegerEnds (105 ∷ l) → Q cut e)
    → ((w : List ℕ) (c : ℕ) (u : List ℕ) → 105 ∷ l ≡ w ++ c ∷ u → IntegerStops w c → Q byte (o + length w)) → Fails Q (integer_of e l (o + 1) n)
unfolding integer_of
integer-fails Q e o [] n ends stops = ends IntegerEnds.after-i
integer-fails Q e o (b ∷ t) n ends stops =
    by-test (Fails Q) (eqb b 45)
    (λ x.
    let z : b ≡ 45 = eqb-true b 45 x in
    minus-fails Q e o t n (λ h. ends (subst (λ (c : ℕ). IntegerEnds (105 ∷ c ∷ t)) (sym z) h)) (λ w c u h k. stops w c u (ap (λ (y : ℕ). 105 ∷ y ∷ t) z ∙ h) k))
    (λ x. by-test (Fails Q) (is_digit b)
    (λ y. closed-fails Q e o (b ∷ t) ends stops false b t (o + 1) n y (at_byte 105 (b ∷ t) o) (λ z. absurd (false≢true z)))
    (λ y. stops_at Q e o (b ∷ t) ends stops (o + 1) (105 ∷ []) b t refl (omega arith) (IntegerStops.after-i b y (eqb-false b 45 x))))

-- a string that is refused by r at q
pub record BadString (e : ℕ) (l : List ℕ) (p r q : ℕ) : Type 0 where
  pub first : ℕ
  pub rest : List ℕ
  pub text : l ≡ first ∷ rest
  pub starts : is_digit first ≡ true
  pub reads : (n : ℕ) → string_of e first rest p n ≡ bad r q

pub string-ends : (e p : ℕ) {l : List ℕ} → StringEnds l → p + length l ≡ e → BadString e l p cut e
unfolding string_of
string-ends e p (StringEnds.in-length m) h =
    let g = digits m [] tt in
    record { first = g.first; rest = g.rest; text = sym (append-nil (decimal m)) ∙ g.text; starts = g.starts; reads = λ n. rw g.left }
string-ends e p (StringEnds.in_bytes m bs k) h =
    let g = digits m (58 ∷ bs) (more-other m 58 refl) in
    let z : e - (p + 1 + num_len g.first g.rest + 1) < m = omega (arith, g.size, length-append (decimal m) (58 ∷ bs)) in
    record { first = g.first; rest = g.rest; text = g.text; starts = g.starts; reads = λ n. rw (g.left, g.value, lt-leb m (e - (p + 1 + num_len g.first g.rest + 1)) z) }

pub string-stops : (e p : ℕ) {w : List ℕ} {c : ℕ} (u : List ℕ) → StringStops w c → BadString e (w ++ c ∷ u) p byte (p + length w)
unfolding string_of
string-stops e p u (StringStops.in-length m c k h) =
    let g = digits m (c ∷ u) k in
    record { first = g.first; rest = g.rest; text = g.text; starts = g.starts; reads = λ n. rw (g.left, ne_eqb c 58 h) (ap (bad byte) (omega (arith, g.size))) }

-- an integer that is refused by r at q
pub record BadInteger (e : ℕ) (l : List ℕ) (p r q : ℕ) : Type 0 where
  pub rest : List ℕ
  pub text : l ≡ 105 ∷ rest
  pub reads : (n : ℕ) → integer_of e rest (p + 1) n ≡ bad r q

pub integer-ends : (e p : ℕ) {l : List ℕ} → IntegerEnds l → BadInteger e l p cut e
unfolding integer_of closed_of
integer-ends e p IntegerEnds.after-i = record { rest = []; text = refl; reads = λ n. refl }
integer-ends e p IntegerEnds.after_minus = record { rest = 45 ∷ []; text = refl; reads = λ n. refl }
integer-ends e p (IntegerEnds.in-digits (pos m)) =
    let g = digits m [] tt in
    let d = digit-range g.first g.starts in
    let y : (g.first ≡ 45) → ⊥ = omega arith in
    record { rest = decimal m; text = refl; reads = λ n. rw (sym (append-nil (decimal m)) ∙ g.text, ne_eqb _ _ y, g.starts, g.left) }
integer-ends e p (IntegerEnds.in-digits (negsuc m)) =
    let g = digits (suc m) [] tt in
    record { rest = 45 ∷ decimal (suc m); text = refl; reads = λ n. rw (sym (append-nil (decimal (suc m))) ∙ g.text, g.left, ne_eqb _ _ (g.not-zero (omega arith)), g.starts) }

pub integer-stops : (e p : ℕ) {w : List ℕ} {c : ℕ} (u : List ℕ) → IntegerStops w c → BadInteger e (w ++ c ∷ u) p byte (p + length w)
unfolding integer_of closed_of
integer-stops e p u (IntegerStops.after-i c d h) = record { rest = c ∷ u; text = refl; reads = λ n. rw (ne_eqb c 45 h, d) }
integer-stops e p u (IntegerStops.after_minus c h) =
    let z : p + 1 + 1 ≡ p + 2 = omega arith in
    record {
      rest = 45 ∷ c ∷ u;
      text = refl;
      reads = λ n. by-test (λ (g : Got ℤ). g ≡ bad byte (p + 2)) (eqb c 48) (λ x. ap (bad byte) z)
          (λ x. by-test (λ (g : Got ℤ). g ≡ bad byte (p + 2)) (is_digit c)
          (λ y. let r = digit-range c y in let n = eqb-false c 48 x in absurd (h (omega arith) r.1))
          (λ y. ap (bad byte) z));
    }
integer-stops e p u (IntegerStops.in-digits (pos m) c k h) =
    let g = digits m (c ∷ u) k in
    let d = digit-range g.first g.starts in
    let y : (g.first ≡ 45) → ⊥ = omega arith in
    record { rest = decimal m ++ c ∷ u; text = refl; reads = λ n. rw (g.text, ne_eqb _ _ y, g.starts, g.left, ne_eqb c 101 h) (ap (bad byte) (omega (arith, g.size))) }
integer-stops e p u (IntegerStops.in-digits (negsuc m) c k h) =
    let g = digits (suc m) (c ∷ u) k in
    let q : p + 1 + 1 + 1 + num_len g.first g.rest ≡ p + suc (suc (length (decimal (suc m)))) = omega (arith, g.size) in
    record { rest = 45 ∷ (decimal (suc m) ++ c ∷ u); text = refl; reads = λ n. rw (g.text, g.left, q, ne_eqb _ _ (g.not-zero (omega arith)), g.starts, ne_eqb c 101 h) }
