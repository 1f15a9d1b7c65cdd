-- A link begins with a text exactly where the reader goes on after it: to every state that goes on there is a text that comes to a link. Assumes nothing.
use mathlib.Core.Path.{◌≡◌, refl, sym, ap, ◌∙◌}
use mathlib.Core.Logic.{inl}
use mathlib.Core.Bool.{false}
use mathlib.Core.List.{List, [], ◌∷◌, ◌++◌}
use Prim.Native.Nat.{ℕ, zero, suc, ◌+◌, ◌*◌}
use native.Mathlib.Omega.{arith}
use lib.ListN.{length, length-append}
use Rattle.refusal.specs.Paper.{taken}
use Rattle.refusal.proofs.Cases.{no_way, false-if}
use Rattle.refusal.proofs.Outcomes.{not_taken}
use Rattle.bencode_walk.specs.Lookup.{same_key}
use Rattle.bencode_walk.proofs.Finding.{same_true}
use Rattle.links.specs.Link.{Hex, HexText, no_byte, a_byte, Said, absent, said, Meaning}
use Rattle.links_laws.specs.Form.{pair_text}
use Rattle.links_laws.specs.Causes.{Opens}
use Rattle.links.specs.Reading.{nibble, field_of, Seen, is_said, has, with, Mode, prefix, naming, urn, digits, half, value, percent, digit, State, going, stopped, opening, in_mode, fed, told, meant, finish, begun}
use Rattle.links.specs.declared.scan.Field.{Field}
use Rattle.links.specs.declared.scan.Field.TheVariants.{Hash, Other}
use Rattle.links.proofs.Running.{fed-append, fed-stopped, prefix-run, urn-run, hex-run}
use Rattle.links_laws.proofs.Reached.{hash_pair, hash-adds}
use Rattle.links_laws.proofs.Exact.{whole-end, equals-run, pair-run, link-sound, link-complete}

-- some text comes to a link
abbrev Ends : State → Type 0
Ends st = (t : List ℕ) × (m : Meaning) × (finish (fed st t) ≡ taken m)

ends_on : (st : State) (t : List ℕ) (su : State) → fed st t ≡ su → Ends su → Ends st
ends_on st t su e (u, m, f) = (t ++ u, m, ap finish (fed-append st t u ∙ ap (λ (x : State). fed x u) e) ∙ f)

-- ---- a hash of zeros

abbrev zero_text : ℕ → List ℕ
zero_text zero = []
zero_text (suc k) = 48 ∷ 48 ∷ zero_text k

abbrev zero_bytes : ℕ → List ℕ
zero_bytes zero = []
zero_bytes (suc k) = (16 * 0 + 0) ∷ zero_bytes k

zero-digit : Hex 48 0
zero-digit = (omega arith, inl refl)

zeros : (k : ℕ) → HexText (zero_text k) (zero_bytes k)
zeros zero = no_byte
zeros (suc k) = a_byte 48 48 0 0 (zero_text k) (zero_bytes k) zero-digit zero-digit (zeros k)

length-zeros : (k : ℕ) → length (zero_bytes k) ≡ k
length-zeros zero = refl
length-zeros (suc k) = ap suc (length-zeros k)

module _ (p : ℕ) (n : Seen) where
  ends-digits : (k : ℕ) (h : List ℕ) → Ends (going p n (digits k h))
  unfolding fed finish
  ends-digits k h =
      let e : k ≡ length (zero_bytes k) + 0 = omega (arith, length-zeros k) in
      ends_on (going p n (digits k h)) (zero_text k ++ []) _
      (ap (λ (i : ℕ). fed (going p n (digits i h)) (zero_text k ++ [])) e ∙ hex-run p n 0 h [] (zeros k))
      ([], _, refl)

  -- where no hash was said, one can be added
  ends-hash : n.hash ≡ absent → Ends (going p n (naming []))
  unfolding fed field_of same_key
  ends-hash e =
      let y = pair-run p n (hash_pair (zero_text 20)) (zero_bytes 20) [] (hash-adds n (zero_text 20) (zero_bytes 20) (zeros 20) (length-zeros 20) (ap is_said e)) in
      (pair_text (hash_pair (zero_text 20)) ++ [], _, ap finish y.1 ∙ whole-end y.0 n Hash (zero_bytes 20))

-- where a pair is whole
ends-whole : (st : State) (p q : ℕ) (n : Seen) → finish st ≡ meant p n → ((r : List ℕ) → fed st (38 ∷ r) ≡ fed (going q n (naming [])) r) → Ends st
unfolding fed
ends-whole st p q n e f = go n.hash refl
  where
    go : (h : Said) → n.hash ≡ h → Ends st
    go absent g = let z = ends-hash q n g in (38 ∷ z.0, z.1, ap finish (f z.0) ∙ z.2)
    go (said h) g = ([], _, e ∙ ap (λ (x : Said). told p x n) g)

-- ---- a name that is none of the three: with "." at its end

not-dotted : (k : List ℕ) (a b : ℕ) → k ++ (46 ∷ []) ≡ a ∷ b ∷ [] → b ≡ 46
not-dotted [] a b e = no_way (cc)
not-dotted (c ∷ []) a b e = cc
not-dotted (c ∷ d ∷ []) a b e = no_way (cc)
not-dotted (c ∷ d ∷ x ∷ k) a b e = no_way (cc)

dotted-not : (k : List ℕ) (a b : ℕ) → (b ≡ 46 → ⊥) → same_key (k ++ (46 ∷ [])) (a ∷ b ∷ []) ≡ false
dotted-not k a b h = false-if (same_key (k ++ (46 ∷ [])) (a ∷ b ∷ [])) (λ e. h (not-dotted k a b (same_true (k ++ (46 ∷ [])) (a ∷ b ∷ []) e)))

dotted : (k : List ℕ) → field_of (k ++ (46 ∷ [])) ≡ Other
unfolding field_of
dotted k = rw (dotted-not k 120 116 (λ e. omega arith), dotted-not k 100 110 (λ e. omega arith), dotted-not k 116 114 (λ e. omega arith))

-- ---- by where the reader stands

module _ (p : ℕ) (n : Seen) where
  ends-value : (f : Field) (v : List ℕ) → Ends (going p n (value f v))
  unfolding fed in_mode finish
  ends-value f v = ends-whole (going p n (value f v)) p (p + 1) (with f v n) refl (λ r. refl)

ends-naming : (p : ℕ) (n : Seen) (k : List ℕ) → Ends (going p n (naming k))
unfolding fed in_mode
ends-naming p n k =
    let j : List ℕ = k ++ (46 ∷ []) in
    let e : field_of j ≡ Other = dotted k in
    ends_on (going p n (naming k)) (46 ∷ 61 ∷ []) (going (p + 1 + 1) n (value Other []))
    (equals-run (p + 1) n (k ++ (46 ∷ [])) [] (omega (arith, length-append k (46 ∷ []))) (ap (λ (f : Field). has f n) e) ∙ ap (λ (f : Field). going (p + 1 + 1) n (opening f)) e)
    (ends-value (p + 1 + 1) n Other [])

ends : (p : ℕ) (n : Seen) (m : Mode) → Ends (going p n m)
unfolding fed in_mode
ends p n (prefix c w) = ends_on (going p n (prefix c w)) ((c ∷ w) ++ []) _ (prefix-run p n (c ∷ w) []) (ends-naming (p + length (c ∷ w)) n [])
ends p n (naming k) = ends-naming p n k
ends p n (urn c w) = ends_on (going p n (urn c w)) ((c ∷ w) ++ []) _ (urn-run p n (c ∷ w) []) (ends-digits (p + length (c ∷ w)) n 20 [])
ends p n (digits k h) = ends-digits p n k h
ends p n (half k h x) = ends_on (going p n (half k h x)) (48 ∷ []) (going (p + 1) n (digits k (h ++ ((16 * x + nibble 48) ∷ [])))) refl (ends-digits (p + 1) n k (h ++ ((16 * x + nibble 48) ∷ [])))
ends p n (value f v) = ends-value p n f v
ends p n (percent f v) = ends_on (going p n (percent f v)) (48 ∷ 48 ∷ []) (going (p + 1 + 1) n (value f (v ++ ((16 * nibble 48 + nibble 48) ∷ [])))) refl (ends-value (p + 1 + 1) n f (v ++ ((16 * nibble 48 + nibble 48) ∷ [])))
ends p n (digit f v x) = ends_on (going p n (digit f v x)) (48 ∷ []) (going (p + 1) n (value f (v ++ ((16 * x + nibble 48) ∷ [])))) refl (ends-value (p + 1) n f (v ++ ((16 * x + nibble 48) ∷ [])))

-- ---- going on, and links that begin so

pub going-opens : (q : List ℕ) (p : ℕ) (n : Seen) (m : Mode) → fed begun q ≡ going p n m → Opens q
going-opens q p n m f =
    let e = ends p n m in
    (e.0, (e.1, link-sound (q ++ e.0) e.1 (ap finish (fed-append begun q e.0 ∙ ap (λ (st : State). fed st e.0) f) ∙ e.2)))

pub stopped-shut : (q : List ℕ) (p : ℕ) → fed begun q ≡ stopped p → Opens q → ⊥
unfolding finish
stopped-shut q p f (r, (m, l)) = not_taken (sym (ap finish (fed-append begun q r ∙ ap (λ (st : State). fed st r) f ∙ fed-stopped p r)) ∙ link-complete (q ++ r) m l)

pub opens-going : (q : List ℕ) → Opens q → (p : ℕ) × (n : Seen) × (m : Mode) × (fed begun q ≡ going p n m)
opens-going q o = go (fed begun q) refl
  where
    go : (st : State) → fed begun q ≡ st → (p : ℕ) × (n : Seen) × (m : Mode) × (fed begun q ≡ going p n m)
    go (going p n m) e = (p, n, m, e)
    go (stopped p) e = absurd (stopped-shut q p e o)
