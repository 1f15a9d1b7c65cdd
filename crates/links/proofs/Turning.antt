-- The pass over a link: names, hashes, values and what ends them, as the reader takes them. Assumes nothing.
use Rattle.std.specs.Prelude.{Err, None, Ok, Option, Some, is_some}
use mathlib.Core.Path.{◌≡◌, refl, sym, ap, ◌∙◌}
use mathlib.Core.Bool.{Bool, true, false, cond}
use mathlib.Core.List.{List, [], ◌∷◌, ◌++◌, append_assoc, append-nil}
use Prim.Native.Nat.{ℕ, zero, suc, ◌+◌, ◌-◌, ◌<◌, ◌≤◌}
use native.Mathlib.Omega.{arith}
use borrow.Author.Tests.{eqb-true, eq-eqb, ne_eqb, le-leb, lt-leb}
use lib.Dec.{eqb}
use lib.ListN.{length, get_or, take, drop, length-drop, drop_of_length-le}
use lib.Seq.{drop-drop, get_or-drop, length-take-le}
use Rattle.refusal.specs.Texts.{bytes}
use Rattle.bencode_walk.specs.Lookup.{same_key}
use Rattle.bencode_walk.proofs.Finding.{same_true}
use Rattle.refusal.specs.Paper.{Outcome, refused}
use Rattle.refusal.specs.Numbers as no
use Rattle.refusal.proofs.Places.{two-there}
use Rattle.refusal.proofs.Cases.{by_bool, less-or, false-if}
use Rattle.torrent_lines.proofs.Running.{one_more as from_place}
use Rattle.links.specs.Link.{name_byte, plain_byte, Said, Meaning}
use Rattle.links.specs.Reading.{field_of, Seen, has, is_said, with, Mode, naming, prefixed, urned, digits, value, State, going, stopped, opening, valued, in_mode, fed, meant, finish}
use Rattle.links.specs.Places.{answer_at, runs, common, SpeltAt, HashAt, Holds, unheld, held, Shows, TurnedAs, named_at, keeps, kept, closed_at}
use Rattle.links.specs.declared.scan.Field.{Field}
use Rattle.links.specs.declared.scan.Field.TheVariants.{Hash, Name, Address, Other}
use Rattle.links.specs.declared.scan.Spelt.{Spelt}
use Rattle.links.specs.declared.scan.Pass.{Pass}
use Rattle.links.proofs.Running.{fed-stopped}

-- a fault is the answer whatever comes after it
pub off : (p : ℕ) (s : List ℕ) → finish (fed (stopped p) s) ≡ refused no.link p
unfolding finish
off p s = ap finish (fed-stopped p s)

-- the same refusal at a place that is the same number
at_same : {p q : ℕ} → p ≡ q → ◌≡◌ {A = Outcome Meaning} (refused no.link p) (refused no.link q)
at_same e = ap (refused no.link) e

-- ---- words

pub prefix-off : (p : ℕ) (n : Seen) (s w : List ℕ) → common s w < length w → finish (fed (going p n (prefixed w)) s) ≡ refused no.link (p + common s w)
unfolding fed in_mode finish common
prefix-off p n s [] h = absurd (omega (arith, h))
prefix-off p n [] (c ∷ w) h = at_same (omega arith)
prefix-off p n (b ∷ s) (c ∷ w) h =
    by_bool (eqb b c)
    (λ e. let k : common s w < length w = omega (arith, rw e at h) in rw e (prefix-off (p + 1) n s w k ∙ at_same (omega arith)))
    (λ e. rw e (off p s ∙ at_same (omega arith)))

pub urn-off : (p : ℕ) (n : Seen) (s w : List ℕ) → common s w < length w → finish (fed (going p n (urned w)) s) ≡ refused no.link (p + common s w)
unfolding fed in_mode finish common
urn-off p n s [] h = absurd (omega (arith, h))
urn-off p n [] (c ∷ w) h = at_same (omega arith)
urn-off p n (b ∷ s) (c ∷ w) h =
    by_bool (eqb b c)
    (λ e. let k : common s w < length w = omega (arith, rw e at h) in rw e (urn-off (p + 1) n s w k ∙ at_same (omega arith)))
    (λ e. rw e (off p s ∙ at_same (omega arith)))

-- ---- names

-- the byte after a run is of another kind
runs-ends : (f : ℕ → Bool) (t : List ℕ) → runs f t < length t → f (get_or t (runs f t) 0) ≡ false
unfolding runs
runs-ends f [] h = absurd (omega (arith, h))
runs-ends f (b ∷ t) h = by_bool (f b) (λ e. rw e (runs-ends f t (omega (arith, rw e at h)))) (λ e. rw e e)

-- no bytes more
names-none : (p : ℕ) (n : Seen) (k t : List ℕ) (j : ℕ) → j ≡ 0 → fed (going p n (naming k)) t ≡ fed (going (p + j) n (naming (k ++ take j t))) (drop j t)
names-none p n k t zero e = rw (append-nil k) (ap (λ (q : ℕ). fed (going q n (naming k)) t) (omega arith))
names-none p n k t (suc j) e = absurd (omega (arith, e))

-- all bytes of a name at the front
names : (p : ℕ) (n : Seen) (k t : List ℕ)
    → fed (going p n (naming k)) t ≡ fed (going (p + runs name_byte t) n (naming (k ++ take (runs name_byte t) t))) (drop (runs name_byte t) t)
unfolding fed in_mode runs
names p n k [] = rw (append-nil k) (ap (λ (q : ℕ). going q n (naming k)) (omega arith))
names p n k (b ∷ t) =
    by_bool (name_byte b)
    (λ e. rw e
    (names (p + 1) n (k ++ (b ∷ [])) t
    ∙ ap (λ (l : List ℕ). fed (going (p + 1 + runs name_byte t) n (naming l)) (drop (runs name_byte t) t)) (append_assoc k (b ∷ []) (take (runs name_byte t) t))
    ∙ ap (λ (q : ℕ). fed (going q n (naming (k ++ (b ∷ take (runs name_byte t) t)))) (drop (runs name_byte t) t)) (omega arith)))
    (λ e. names-none p n k (b ∷ t) (runs name_byte (b ∷ t)) (rw e))

module _ (s : List ℕ) (p : ℕ) (n : Seen) where
  -- the answer after the bytes of a name at p, which go up to q
  name-at : (q : ℕ) → q ≡ p + runs name_byte (drop p s) → answer_at s p n (naming []) ≡ answer_at s q n (naming (take (q - p) (drop p s)))
  name-at q e =
      let f : q - p ≡ runs name_byte (drop p s) = omega arith in
      rw (f, e) (ap finish (names p n [] (drop p s)) ∙ ap (λ (l : List ℕ). finish (fed (going (p + runs name_byte (drop p s)) n (naming (take (runs name_byte (drop p s)) (drop p s)))) l)) (drop-drop (runs name_byte (drop p s)) p s))

  -- no name begins there
  pub no_name : p ≤ length s → runs name_byte (drop p s) ≡ 0 → answer_at s p n (naming []) ≡ refused no.link p
  unfolding fed in_mode finish runs
  no_name l = go (drop p s)
    where
      go : (t : List ℕ) → runs name_byte t ≡ 0 → finish (fed (going p n (naming [])) t) ≡ refused no.link p
      go [] e = refl
      go (b ∷ t) e =
          by_bool (name_byte b)
          (λ f. absurd (omega (arith, rw f at e)))
          (λ f. by_bool (eqb b 61) (λ g. rw (f, g) (off p t)) (λ g. rw (f, g) (off p t)))

  module _ (q : ℕ) (e : q ≡ p + runs name_byte (drop p s)) where
    -- the text ends in it
    pub name-cut : q ≡ length s → answer_at s p n (naming []) ≡ refused no.link q
    unfolding fed finish
    name-cut h = name-at q e ∙ ap (λ (l : List ℕ). finish (fed (going q n (naming (take (q - p) (drop p s)))) l)) (drop_of_length-le s {i = q} (omega arith))

    module _ (h : q < length s) where
      -- what stands at q is no byte of a name
      after-name : answer_at s p n (naming []) ≡ finish (fed (in_mode q n (naming (take (q - p) (drop p s))) (get_or s q 0)) (drop (q + 1) s))
      unfolding fed
      after-name = name-at q e ∙ ap (λ (l : List ℕ). finish (fed (going q n (naming (take (q - p) (drop p s)))) l)) (from_place s q h)

      stops : name_byte (get_or s q 0) ≡ false
      stops =
          let here : get_or (drop p s) (runs name_byte (drop p s)) 0 ≡ get_or s q 0 = get_or-drop p s (runs name_byte (drop p s)) 0 ∙ ap (λ (k : ℕ). get_or s k 0) (sym e) in
          ap name_byte (sym here) ∙ runs-ends name_byte (drop p s) (rw length-drop (omega arith))

      -- no "=" after it
      pub no-equals : eqb (get_or s q 0) 61 ≡ false → answer_at s p n (naming []) ≡ refused no.link q
      unfolding in_mode
      no-equals f = after-name ∙ rw (stops, f) (off q (drop (q + 1) s))

      pub equals : eqb (get_or s q 0) 61 ≡ true → answer_at s p n (naming []) ≡ named_at s p q n
      unfolding in_mode
      equals f = after-name ∙ rw (stops, f)

-- after "=": the name's field decides
module _ (s : List ℕ) (p q : ℕ) (n : Seen) where
  valued_by : (k : List ℕ) → 0 < length k → valued q n k ≡ cond (has (field_of k) n) (stopped (q - length k)) (going (q + 1) n (opening (field_of k)))
  valued_by [] h = absurd (omega (arith, h))
  valued_by (c ∷ k) h = refl

  module _ (f : Field) (l : p < q) (h : q < length s) (e : f ≡ field_of (take (q - p) (drop p s))) where
    name-length : length (take (q - p) (drop p s)) ≡ q - p
    name-length = length-take-le (q - p) (drop p s) (rw length-drop (omega arith))

    pub named_again : has f n ≡ true → named_at s p q n ≡ refused no.link p
    named_again g =
        let k : List ℕ = take (q - p) (drop p s) in
        let z : has (field_of k) n ≡ true = ap (λ (x : Field). has x n) (sym e) ∙ g in
        ap (λ (st : State). finish (fed st (drop (q + 1) s))) (valued_by k (omega (arith, name-length)) ∙ rw z) ∙ off (q - length k) (drop (q + 1) s) ∙ at_same (omega (arith, name-length))

    pub named-first : has f n ≡ false → named_at s p q n ≡ answer_at s (q + 1) n (opening f)
    named-first g =
        let k : List ℕ = take (q - p) (drop p s) in
        let z : has (field_of k) n ≡ false = ap (λ (x : Field). has x n) (sym e) ∙ g in
        ap (λ (st : State). finish (fed st (drop (q + 1) s))) (valued_by k (omega (arith, name-length)) ∙ rw z) ∙ ap (λ (x : Field). answer_at s (q + 1) n (opening x)) (sym e)

-- ---- what a name is the name of

unknown : (k w : List ℕ) → (length k ≡ length w → ⊥) → same_key k w ≡ false
unknown k w h = false-if (same_key k w) (λ e. h (ap length (same_true k w e)))

pub field-other : (k : List ℕ) → (length k ≡ 2 → ⊥) → Other ≡ field_of k
unfolding field_of
field-other k h = rw (unknown k (bytes "xt") h, unknown k (bytes "dn") h, unknown k (bytes "tr") h)

-- by the first of two letters
module _ (a b : ℕ) where
  pub field-x : a ≡ 120 → cond (eqb b 116) Hash Other ≡ field_of (a ∷ b ∷ [])
  unfolding field_of same_key
  field-x e = rw e (by_bool (eqb b 116) (λ f. rw f) (λ f. rw f))

  pub field-d : a ≡ 100 → cond (eqb b 110) Name Other ≡ field_of (a ∷ b ∷ [])
  unfolding field_of same_key
  field-d e = rw e (by_bool (eqb b 110) (λ f. rw f) (λ f. rw f))

  pub field-t : a ≡ 116 → cond (eqb b 114) Address Other ≡ field_of (a ∷ b ∷ [])
  unfolding field_of same_key
  field-t e = rw e (by_bool (eqb b 114) (λ f. rw f) (λ f. rw f))

  pub field-none : (a ≡ 120 → ⊥) → (a ≡ 100 → ⊥) → (a ≡ 116 → ⊥) → Other ≡ field_of (a ∷ b ∷ [])
  unfolding field_of same_key
  field-none e f g = rw (ne_eqb a 120 e, ne_eqb a 100 f, ne_eqb a 116 g)

-- the two bytes of a name from p to q
pub two-letters : (s : List ℕ) (p q : ℕ) → q < length s → q - p ≡ 2 → get_or s p 0 ∷ get_or s (p + 1) 0 ∷ [] ≡ take (q - p) (drop p s)
two-letters s p q h e = sym (ap (λ (k : ℕ). take k (drop p s)) e ∙ two-there p s (omega arith))

-- ---- what the pass keeps

said-held : {R : ℕ → List ℕ → Type 0} {x : Option Spelt} {v : Said} → Holds R x v → is_some x ≡ is_said v
said-held unheld = refl
said-held (held p k bs r e) = refl

module _ (s : List ℕ) (x : Pass) (n : Seen) (w : Shows s x n) where
  pub keeps-has : (f : Field) → keeps f x ≡ has f n
  keeps-has Hash = said-held w.hash
  keeps-has Name = said-held w.name
  keeps-has Address = said-held w.address
  keeps-has Other = refl

  pub keep-hash : (p : ℕ) (bs : List ℕ) → HashAt s p bs → Shows s (kept Hash (record { from = p; size = 20 }) x) (with Hash bs n)
  keep-hash p bs h = record { hash = held p 20 bs h (sym h.whole); name = w.name; address = w.address }

  pub keep-value : (f : Field) (p k : ℕ) (bs : List ℕ) → (f ≡ Hash → ⊥) → SpeltAt s p bs → k ≡ length bs → Shows s (kept f (record { from = p; size = k }) x) (with f bs n)
  keep-value Hash p k bs y h e = absurd (y refl)
  keep-value Name p k bs y h e = record { hash = w.hash; name = held p k bs h e; address = w.address }
  keep-value Address p k bs y h e = record { hash = w.hash; name = w.name; address = held p k bs h e }
  keep-value Other p k bs y h e = w

-- ---- the end of a pair

-- a mode that "&" or the text's end may follow, and nothing else
pub record Closing (n : Seen) (m : Mode) (then : Seen) (q b : ℕ) : Type 0 where
  pub at-end : finish (going q n m) ≡ meant q then
  pub at-and : in_mode q n m 38 ≡ going (q + 1) then (naming [])
  pub else : eqb b 38 ≡ false → in_mode q n m b ≡ stopped q

pub closes : (s : List ℕ) (p q : ℕ) (n then : Seen) (m : Mode) (x : Pass) → Closing n m then q (get_or s q 0) → Shows s x then → p ≤ q → q ≤ length s → TurnedAs s (answer_at s q n m) p (closed_at s q x)
unfolding fed
closes s p q n then m x c w l h =
    less-or q (length s)
    (λ i. let a : answer_at s q n m ≡ finish (fed (in_mode q n m (get_or s q 0)) (drop (q + 1) s)) = ap (λ (t : List ℕ). finish (fed (going q n m) t)) (from_place s q i) in
    by_bool (eqb (get_or s q 0) 38)
    (λ e. let g = eqb-true (get_or s q 0) 38 e in rw (lt-leb (length s) q i, e) (then, w, a ∙ ap (λ (b : ℕ). finish (fed (in_mode q n m b) (drop (q + 1) s))) g ∙ ap (λ (st : State). finish (fed st (drop (q + 1) s))) c.at-and, omega arith, omega arith))
    (λ e. rw (lt-leb (length s) q i, e) (a ∙ ap (λ (st : State). finish (fed st (drop (q + 1) s))) (c.else e) ∙ off q (drop (q + 1) s))))
    (λ i. let z : q ≡ length s = omega arith in
    rw (le-leb (length s) q i) (then, w, ap (λ (t : List ℕ). finish (fed (going q n m) t)) (drop_of_length-le s i) ∙ c.at-end ∙ ap (λ (k : ℕ). meant k then) z))

module _ (s : List ℕ) (p : ℕ) (x : Pass) where
  pub closed-last : length s ≤ p → Ok (x, None) ≡ closed_at s p x
  closed-last h = rw (le-leb (length s) p h)

  pub closed-off : p < length s → (get_or s p 0 ≡ 38 → ⊥) → Err p ≡ closed_at s p x
  closed-off h e = rw (lt-leb (length s) p h, ne_eqb (get_or s p 0) 38 e)

  pub closed-more : p < length s → get_or s p 0 ≡ 38 → Ok (x, Some (p + 1)) ≡ closed_at s p x
  closed-more h e = rw (lt-leb (length s) p h, eq-eqb (get_or s p 0) 38 e)

pub closing-hash : (n : Seen) (h : List ℕ) (q b : ℕ) → Closing n (digits 0 h) (with Hash h n) q b
unfolding in_mode finish
closing-hash n h q b = record { at-end = refl; at-and = refl; else = λ e. rw e }

pub closing-value : (n : Seen) (f : Field) (v : List ℕ) (q b : ℕ) → plain_byte b ≡ false → eqb b 37 ≡ false → Closing n (value f v) (with f v n) q b
unfolding in_mode finish
closing-value n f v q b e g = record { at-end = refl; at-and = refl; else = λ i. rw (e, g, i) }

-- past the text's end there is no byte
pub closing_end : (n : Seen) (f : Field) (v : List ℕ) (q b : ℕ) → b ≡ 0 → Closing n (value f v) (with f v n) q b
unfolding in_mode finish
closing_end n f v q b e = record { at-end = refl; at-and = refl; else = λ i. rw e }
