-- Hashes and values at places of a text: how they go on, how they break off, and their bytes one by one. Assumes nothing.
use Rattle.std.specs.Prelude.{Err, Ok}
use mathlib.Core.Path.{◌≡◌, refl, sym, ap, ◌∙◌, subst}
use mathlib.Core.Bool.{true, false, true≢false}
use mathlib.Core.List.{List, [], ◌∷◌, ◌++◌, append_assoc, head-eq_of_cons-eq, tail-eq_of_cons-eq}
use Prim.Native.Nat.{ℕ, zero, suc, ◌+◌, ◌*◌, ◌-◌, ◌<◌, ◌≤◌, min}
use native.Mathlib.Omega.{arith}
use borrow.Author.Tests.{eqb-true, eq-eqb}
use lib.Dec.{eqb}
use lib.ListN.{length, get_or, drop, length-append, length-drop, get_or-append}
use lib.Seq.{drop-drop, get_or-drop, drop_at}
use Rattle.refusal.specs.Paper.{Outcome, refused}
use Rattle.refusal.specs.Numbers as no
use Rattle.refusal.proofs.Cases.{by_bool, less-or, false-if, no_way}
use Rattle.torrent_lines.proofs.Running.{one_more as from_place}
use Rattle.links.specs.Link.{plain_byte, HexText, no_byte, a_byte, Spells, nothing, plain, escape, Meaning}
use Rattle.links.specs.Reading.{nibble, is_hex, Seen, digits, value, percent, going, in_mode, fed, finish}
use Rattle.links.specs.Places.{answer_at, runs, SpeltTo, SpeltAt, HashAt, Valued}
use Rattle.links.specs.declared.scan.Field.{Field}
use Rattle.links.proofs.Digits.{nibble-hex, hex-nibble}
use Rattle.links.proofs.Running.{value-run}
use Rattle.links.proofs.Lengths.{runs-more, runs-stop, runs_none}
use Rattle.links.proofs.Turning.{off}

at_same : {p q : ℕ} → p ≡ q → ◌≡◌ {A = Outcome Meaning} (refused no.link p) (refused no.link q)
at_same e = ap (refused no.link) e

-- ---- the digits of a hash

-- too few of them: the fault is at the first byte that is none
pub hash-off : (p : ℕ) (n : Seen) (k : ℕ) (h t : List ℕ) → runs is_hex t < 2 * k → finish (fed (going p n (digits k h)) t) ≡ refused no.link (p + runs is_hex t)
unfolding fed in_mode finish runs
hash-off p n zero h t l = absurd (omega (arith, l))
hash-off p n (suc k) h [] l = at_same (omega arith)
hash-off p n (suc k) h (b ∷ []) l = by_bool (is_hex b) (λ e. rw e (at_same (omega arith))) (λ e. rw e (at_same (omega arith)))
hash-off p n (suc k) h (b ∷ c ∷ t) l =
    by_bool (is_hex b)
    (λ e. by_bool (is_hex c)
    (λ f. let i : runs is_hex t < 2 * k = omega (arith, rw (e, f) at l) in rw (e, f) (hash-off (p + 1 + 1) n k (h ++ ((16 * nibble b + nibble c) ∷ [])) t i ∙ at_same (omega arith)))
    (λ f. rw (e, f) (off (p + 1) t ∙ at_same (omega arith))))
    (λ e. rw e (off p (c ∷ t) ∙ at_same (omega arith)))

-- enough of them: the first 2 k are k bytes
pub record Leads (t : List ℕ) (k : ℕ) : Type 0 where
  pub text : List ℕ
  pub rest : List ℕ
  pub hash : List ℕ
  pub there : t ≡ text ++ rest
  pub hex : HexText text hash
  pub whole : length hash ≡ k
  pub double : length text ≡ 2 * k

pub hash-there : (k : ℕ) (t : List ℕ) → 2 * k ≤ runs is_hex t → Leads t k
unfolding runs
hash-there zero t l = record { text = []; rest = t; hash = []; there = refl; hex = no_byte; whole = refl; double = omega arith }
hash-there (suc k) [] l = absurd (omega (arith, l))
hash-there (suc k) (b ∷ []) l = by_bool (is_hex b) (λ e. absurd (omega (arith, rw e at l))) (λ e. absurd (omega (arith, rw e at l)))
hash-there (suc k) (b ∷ c ∷ t) l =
    by_bool (is_hex b)
    (λ e. by_bool (is_hex c)
    (λ f. let i : 2 * k ≤ runs is_hex t = omega (arith, rw (e, f) at l) in
    let x = hash-there k t i in
    record {
      text = b ∷ c ∷ x.text;
      rest = x.rest;
      hash = (16 * nibble b + nibble c) ∷ x.hash;
      there = ap {B = List ℕ} (λ (u : List ℕ). b ∷ c ∷ u) x.there;
      hex = a_byte b c (nibble b) (nibble c) x.text x.hash (nibble-hex b e) (nibble-hex c f) x.hex;
      whole = ap suc x.whole;
      double = omega (arith, x.double);
    })
    (λ f. absurd (omega (arith, rw (e, f) at l))))
    (λ e. absurd (omega (arith, rw e at l)))

-- ---- a value that goes on

three-at : (s : List ℕ) (q : ℕ) → q + 2 < length s → drop q s ≡ get_or s q 0 ∷ get_or s (q + 1) 0 ∷ get_or s (q + 2) 0 ∷ drop (q + 3) s
three-at s q h =
    let e : q + 1 + 1 ≡ q + 2 = omega arith in
    let f : q + 2 + 1 ≡ q + 3 = omega arith in
    from_place s q (omega arith)
    ∙ ap {B = List ℕ} (λ (l : List ℕ). get_or s q 0 ∷ l) (from_place s (q + 1) (omega arith))
    ∙ ap (λ (k : ℕ). get_or s q 0 ∷ get_or s (q + 1) 0 ∷ drop k s) e
    ∙ ap {B = List ℕ} (λ (l : List ℕ). get_or s q 0 ∷ get_or s (q + 1) 0 ∷ l) (from_place s (q + 2) h ∙ ap (λ (k : ℕ). get_or s (q + 2) 0 ∷ drop k s) f)

pub spells-join : {w v : List ℕ} (u x : List ℕ) → Spells w v → Spells u x → Spells (w ++ u) (v ++ x)
spells-join u x nothing t = t
spells-join u x (plain b w bs e s) t = plain b (w ++ u) (bs ++ x) e (spells-join u x s t)
spells-join u x (escape h l y z w bs i j s) t = escape h l y z (w ++ u) (bs ++ x) i j (spells-join u x s t)

module _ (s : List ℕ) where
  pub spelt-none : (p : ℕ) → p ≤ length s → SpeltTo s p p []
  spelt-none p h = record { text = []; there = refl; place = omega arith; end = h; spells = nothing }

  module _ {p q : ℕ} {bs : List ℕ} (x : SpeltTo s p q bs) where
    spelt-more : (v cs : List ℕ) (r : ℕ) → drop q s ≡ v ++ drop r s → r ≡ q + length v → r ≤ length s → Spells v cs → SpeltTo s p r (bs ++ cs)
    spelt-more v cs r e f h y = record {
      text = x.text ++ v;
      there = x.there ∙ ap (λ (l : List ℕ). x.text ++ l) e ∙ sym (append_assoc x.text v (drop r s));
      place = omega (arith, x.place, f, length-append x.text v);
      end = h;
      spells = spells-join v cs x.spells y;
    }

    pub spelt-plain : q < length s → plain_byte (get_or s q 0) ≡ true → SpeltTo s p (q + 1) (bs ++ (get_or s q 0 ∷ []))
    spelt-plain h e = spelt-more (get_or s q 0 ∷ []) (get_or s q 0 ∷ []) (q + 1) (from_place s q h) refl (omega arith) (plain (get_or s q 0) [] [] e nothing)

    -- at q stand "%" and two digits
    pub spelt-escape : q + 2 < length s → eqb (get_or s q 0) 37 ≡ true → is_hex (get_or s (q + 1) 0) ≡ true → is_hex (get_or s (q + 2) 0) ≡ true
        → SpeltTo s p (q + 3) (bs ++ ((16 * nibble (get_or s (q + 1) 0) + nibble (get_or s (q + 2) 0)) ∷ []))
    spelt-escape h e f g =
        let a = get_or s (q + 1) 0 in
        let b = get_or s (q + 2) 0 in
        let there : drop q s ≡ 37 ∷ a ∷ b ∷ drop (q + 3) s = three-at s q h ∙ ap (λ (c : ℕ). c ∷ a ∷ b ∷ drop (q + 3) s) (eqb-true (get_or s q 0) 37 e) in
        spelt-more (37 ∷ a ∷ b ∷ []) ((16 * nibble a + nibble b) ∷ []) (q + 3) there refl (omega arith) (escape a b (nibble a) (nibble b) [] [] (nibble-hex a f) (nibble-hex b g) nothing)

    -- the answer is that of what comes after it
    pub spelt_run : (n : Seen) (f : Field) (v : List ℕ) → answer_at s p n (value f v) ≡ answer_at s q n (value f (v ++ bs))
    spelt_run n f v =
        ap (λ (l : List ℕ). finish (fed (going p n (value f v)) l)) x.there ∙ ap finish (value-run p n f v (drop q s) x.spells)
        ∙ ap (λ (k : ℕ). finish (fed (going k n (value f (v ++ bs))) (drop q s))) (sym x.place)

    pub spelt-at : SpeltAt s p bs
    spelt-at = record { text = x.text; rest = drop q s; there = x.there; spells = x.spells }

-- ---- an escape that breaks off

-- fewer than two digits after "%"
pub percent-off : (p : ℕ) (n : Seen) (f : Field) (v t : List ℕ) → runs is_hex t < 2 → finish (fed (going p n (percent f v)) t) ≡ refused no.link (p + runs is_hex t)
unfolding fed in_mode finish runs
percent-off p n f v [] l = at_same (omega arith)
percent-off p n f v (b ∷ []) l = by_bool (is_hex b) (λ e. rw e (at_same (omega arith))) (λ e. rw e (at_same (omega arith)))
percent-off p n f v (b ∷ c ∷ t) l =
    by_bool (is_hex b)
    (λ e. by_bool (is_hex c) (λ g. absurd (omega (arith, rw (e, g) at l))) (λ g. rw (e, g) (off (p + 1) t ∙ at_same (omega arith))))
    (λ e. rw e (off p (c ∷ t) ∙ at_same (omega arith)))

-- what is spelt from p to q has e escapes
pub record Counted (s : List ℕ) (p q e : ℕ) : Type 0 where
  pub bytes : List ℕ
  pub spelt : SpeltTo s p q bytes
  pub count : p + length bytes + 2 * e ≡ q

-- at q, after what is spelt from p on
pub escape-off : (s : List ℕ) (p q k : ℕ) (bs : List ℕ) → SpeltTo s p q bs → q < length s → eqb (get_or s q 0) 37 ≡ true → k ≡ min 2 (runs is_hex (drop (q + 1) s)) → k < 2
    → (n : Seen) (f : Field) (v : List ℕ) → answer_at s p n (value f v) ≡ refused no.link (q + 1 + k)
unfolding fed in_mode
escape-off s p q k bs x h e i l n f v =
    let j : runs is_hex (drop (q + 1) s) ≡ k = omega arith in
    let d : drop q s ≡ 37 ∷ drop (q + 1) s = from_place s q h ∙ ap (λ (c : ℕ). c ∷ drop (q + 1) s) (eqb-true (get_or s q 0) 37 e) in
    spelt_run s x n f v ∙ ap (λ (t : List ℕ). finish (fed (going q n (value f (v ++ bs))) t)) d ∙ percent-off (q + 1) n f (v ++ bs) (drop (q + 1) s) (omega arith) ∙ at_same (omega arith)

-- two digits there
pub two_digits : (s : List ℕ) (q : ℕ) → 2 ≤ runs is_hex (drop q s) → (q + 1 < length s) × (is_hex (get_or s q 0) ≡ true) × (is_hex (get_or s (q + 1) 0) ≡ true)
two_digits s q h =
    let a : q < length s = longer q (omega arith) in
    let e : is_hex (get_or s q 0) ≡ true = digit_at q a (omega arith) in
    let m = runs-more is_hex s q a e in
    let b : q + 1 < length s = longer (q + 1) (omega (arith, m)) in
    (b, e, digit_at (q + 1) b (omega (arith, m)))
  where
    longer : (i : ℕ) → 0 < runs is_hex (drop i s) → i < length s
    longer i l = less-or i (length s) (λ x. x) (λ x. absurd (omega (arith, l, runs_none is_hex s i x)))

    digit_at : (i : ℕ) → i < length s → 0 < runs is_hex (drop i s) → is_hex (get_or s i 0) ≡ true
    digit_at i l g = by_bool (is_hex (get_or s i 0)) (λ e. e) (λ e. absurd (omega (arith, g, runs-stop is_hex s i l e)))

-- ---- one byte more

module _ (s : List ℕ) (p : ℕ) where
  pub counted_none : p ≤ length s → Counted s p p 0
  counted_none h = record { bytes = []; spelt = spelt-none s p h; count = omega arith }

  module _ {q e : ℕ} (x : Counted s p q e) where
    pub counted-plain : q < length s → plain_byte (get_or s q 0) ≡ true → Counted s p (q + 1) e
    counted-plain h i = record {
      bytes = x.bytes ++ (get_or s q 0 ∷ []);
      spelt = spelt-plain s x.spelt h i;
      count = omega (arith, x.count, length-append x.bytes (get_or s q 0 ∷ []));
    }

    module _ (h : q < length s) (i : get_or s q 0 ≡ 37) where
      pub counted-escape : 2 ≤ runs is_hex (drop (q + 1) s) → Counted s p (q + 3) (e + 1)
      counted-escape l =
          let d = two_digits s (q + 1) l in
          let z : q + 1 + 1 ≡ q + 2 = omega arith in
          let b : List ℕ = (16 * nibble (get_or s (q + 1) 0) + nibble (get_or s (q + 2) 0)) ∷ [] in
          record {
            bytes = x.bytes ++ b;
            spelt = spelt-escape s x.spelt (omega (arith, d.0)) (eq-eqb (get_or s q 0) 37 i) d.1 (subst (λ (j : ℕ). is_hex (get_or s j 0) ≡ true) z d.2);
            count = omega (arith, x.count, length-append x.bytes b);
          }

      pub counted-off : (j : ℕ) → j ≡ min 2 (runs is_hex (drop (q + 1) s)) → j < 2 → Valued s p (Err (q + 1 + j))
      counted-off j f l = escape-off s p q j x.bytes x.spelt h (eq-eqb (get_or s q 0) 37 i) f l

    pub counted-to : ((q < length s) → (plain_byte (get_or s q 0) ≡ false) × (eqb (get_or s q 0) 37 ≡ false)) → Valued s p (Ok (q, q - p - 2 * e))
    counted-to h = (x.bytes, x.spelt, omega (arith, x.count), h)

-- ---- the bytes one by one

-- the first byte that is spelt at p, and what is spelt after it
pub data Front (s : List ℕ) (p b : ℕ) (bs : List ℕ) : Type 0 where
  itself : p < length s → eqb (get_or s p 0) 37 ≡ false → get_or s p 0 ≡ b → SpeltAt s (p + 1) bs → Front s p b bs
  escaped : p + 2 < length s → eqb (get_or s p 0) 37 ≡ true → is_hex (get_or s (p + 1) 0) ≡ true → is_hex (get_or s (p + 2) 0) ≡ true
      → 16 * nibble (get_or s (p + 1) 0) + nibble (get_or s (p + 2) 0) ≡ b → SpeltAt s (p + 3) bs → Front s p b bs

-- what a text has from p on, by its first bytes
module _ (s : List ℕ) (p : ℕ) (w r : List ℕ) (e : drop p s ≡ w ++ r) where
  within_text : length w ≤ length s - p
  within_text = omega (arith, ap length e, length-append w r, length-drop p s)

  part_at : (i : ℕ) → i < length w → get_or s (p + i) 0 ≡ get_or w i 0
  part_at i h = sym (get_or-drop p s i 0) ∙ ap (λ (l : List ℕ). get_or l i 0) e ∙ get_or-append w r 0 i h

  rest_at : (k : ℕ) (v u : List ℕ) → w ≡ v ++ u → length v ≡ k → drop (p + k) s ≡ u ++ r
  rest_at k v u f l = sym (drop-drop k p s) ∙ ap (drop k) (e ∙ ap (λ (x : List ℕ). x ++ r) f ∙ append_assoc v u r) ∙ drop_at v (u ++ r) k l

plain-no-percent : (b : ℕ) → plain_byte b ≡ true → eqb b 37 ≡ false
plain-no-percent b h = false-if (eqb b 37) (λ e. absurd (true≢false (sym h ∙ ap plain_byte (eqb-true b 37 e))))

front_of : (s : List ℕ) (p : ℕ) (r w cs : List ℕ) → Spells w cs → drop p s ≡ w ++ r → (b : ℕ) (bs : List ℕ) → cs ≡ b ∷ bs → Front s p b bs
front_of s p r w cs nothing d b bs q = no_way (cc)
front_of s p r w cs (plain c v us e y) d b bs q =
    let l = within_text s p w r d in
    let g : get_or s p 0 ≡ c = ap (λ (i : ℕ). get_or s i 0) (omega arith) ∙ part_at s p w r d 0 (omega arith) in
    itself (omega (arith, l)) (ap (λ (k : ℕ). eqb k 37) g ∙ plain-no-percent c e) (g ∙ head-eq_of_cons-eq q) (record { text = v; rest = r; there = rest_at s p w r d 1 (c ∷ []) v refl refl; spells = subst (Spells v) (tail-eq_of_cons-eq q) y })
front_of s p r w cs (escape h l i j v us e f y) d b bs q =
    let z = within_text s p w r d in
    let a : get_or s p 0 ≡ 37 = ap (λ (k : ℕ). get_or s k 0) (omega arith) ∙ part_at s p w r d 0 (omega arith) in
    let c = part_at s p w r d 1 (omega arith) in
    let g = part_at s p w r d 2 (omega arith) in
    let m = hex-nibble h i e in
    let n = hex-nibble l j f in
    escaped (omega (arith, z)) (ap (λ (k : ℕ). eqb k 37) a) (ap is_hex c ∙ m.0) (ap is_hex g ∙ n.0)
    (ap (λ (k : ℕ). 16 * k + nibble (get_or s (p + 2) 0)) (ap nibble c ∙ m.1) ∙ ap (λ (k : ℕ). 16 * i + k) (ap nibble g ∙ n.1) ∙ head-eq_of_cons-eq q)
    (record { text = v; rest = r; there = rest_at s p w r d 3 (37 ∷ h ∷ l ∷ []) v refl refl; spells = subst (Spells v) (tail-eq_of_cons-eq q) y })

pub front : (s : List ℕ) (p b : ℕ) (bs : List ℕ) → SpeltAt s p (b ∷ bs) → Front s p b bs
front s p b bs x = front_of s p x.rest x.text (b ∷ bs) x.spells x.there b bs refl

-- byte i of a hash, by its two digits
pub record Digits (s : List ℕ) (p b : ℕ) : Type 0 where
  pub end : p + 1 < length s
  pub high : is_hex (get_or s p 0) ≡ true
  pub low : is_hex (get_or s (p + 1) 0) ≡ true
  pub byte : 16 * nibble (get_or s p 0) + nibble (get_or s (p + 1) 0) ≡ b

-- of digits that stand in a list w
hex-at : (w bs : List ℕ) → HexText w bs → (i : ℕ) → i < length bs
    → (2 * i + 1 < length w) × (is_hex (get_or w (2 * i) 0) ≡ true) × (is_hex (get_or w (2 * i + 1) 0) ≡ true) × (16 * nibble (get_or w (2 * i) 0) + nibble (get_or w (2 * i + 1) 0) ≡ get_or bs i 0)
hex-at w bs no_byte i h = absurd (omega (arith, h))
hex-at w bs (a_byte c l x y v cs e f t) zero h =
    let m = hex-nibble c x e in
    let n = hex-nibble l y f in
    (omega arith, m.0, n.0, ap (λ (k : ℕ). 16 * k + nibble l) m.1 ∙ ap (λ (k : ℕ). 16 * x + k) n.1)
hex-at w bs (a_byte c l x y v cs e f t) (suc i) h =
    let z : 2 * suc i ≡ suc (suc (2 * i)) = omega arith in
    let u : 2 * suc i + 1 ≡ suc (suc (2 * i + 1)) = omega arith in
    let r = hex-at v cs t i (omega (arith, h)) in
    (omega (arith, r.0), rw z r.1, rw u r.2, rw (u, z) r.3)

pub hash-digits : (s : List ℕ) (p : ℕ) (bs : List ℕ) → HashAt s p bs → (i : ℕ) → i < length bs → Digits s (p + 2 * i) (get_or bs i 0)
hash-digits s p bs x i h =
    let r = hex-at x.text bs x.hex i h in
    let l = within_text s p x.text x.rest x.there in
    let a = part_at s p x.text x.rest x.there (2 * i) (omega (arith, r.0)) in
    let k : p + 2 * i + 1 ≡ p + (2 * i + 1) = omega arith in
    let b : get_or s (p + 2 * i + 1) 0 ≡ get_or x.text (2 * i + 1) 0 = ap (λ (j : ℕ). get_or s j 0) k ∙ part_at s p x.text x.rest x.there (2 * i + 1) r.0 in
    record { end = omega (arith, l, r.0); high = ap is_hex a ∙ r.1; low = ap is_hex b ∙ r.2; byte = ap (λ (j : ℕ). 16 * nibble j + nibble (get_or s (p + 2 * i + 1) 0)) a ∙ ap (λ (j : ℕ). 16 * nibble (get_or x.text (2 * i) 0) + nibble j) b ∙ r.3 }
