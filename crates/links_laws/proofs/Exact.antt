-- The reader takes exactly the links, and what it takes of them is what they say. Assumes nothing.
use mathlib.Core.Path.{◌≡◌, refl, sym, ap, ◌∙◌, subst}
use mathlib.Core.Bool.{false}
use mathlib.Core.List.{List, [], ◌∷◌, ◌++◌, append_assoc, append-nil}
use Prim.Native.Nat.{ℕ, zero, suc, ◌+◌, ◌<◌}
use native.Mathlib.Omega.{arith}
use lib.ListN.{length}
use Rattle.refusal.specs.Texts.{bytes}
use Rattle.refusal.specs.Paper.{taken}
use Rattle.refusal.proofs.Cases.{no_way}
use Rattle.refusal.proofs.Outcomes.{not_taken}
use Rattle.bencode_walk.specs.Lookup.{same_key}
use Rattle.links.specs.Link.{Spells, Said, absent, said, Meaning}
use Rattle.links_laws.specs.Form.{NamesHash, Pair, pair_text, parted, values_of, AtMostOne, IsLink}
use Rattle.links_laws.specs.Causes.{ended}
use Rattle.links.specs.Reading.{field_of, Seen, unsaid, has, with, Mode, prefix, naming, urn, digits, half, value, percent, digit, State, going, stopped, opening, in_mode, fed, told, meant, finish, begun}
use Rattle.links.specs.declared.scan.Field.{Field}
use Rattle.links.specs.declared.scan.Field.TheVariants.{Hash, Name, Address, Other}
use Rattle.links.proofs.Running.{prefix-run, urn-run, name-run, hex-run, value-run}
use Rattle.links_laws.proofs.Saying.{Gives, Adds, Says, says-more, says-form, says-through, through-says, parted-more}
use Rattle.links_laws.proofs.Reached.{In, pair, hash_pair, hash-adds, value-adds, Reached, reached}

-- ---- what is taken is a link

taken-same : {x y : Meaning} → taken x ≡ taken y → x ≡ y
taken-same e = cc

-- what all pairs have said, where it is taken
meant-taken : (p : ℕ) (n : Seen) (m : Meaning) → meant p n ≡ taken m → (n.hash ≡ said m.hash) × (n.name ≡ m.name) × (n.address ≡ m.address)
meant-taken p n m e = go n.hash refl e
  where
    go : (h : Said) → n.hash ≡ h → told p h n ≡ taken m → (n.hash ≡ said m.hash) × (n.name ≡ m.name) × (n.address ≡ m.address)
    go absent f g = not_taken g
    go (said h) f g = let x = taken-same g in (f ∙ ap (λ (y : Meaning). said y.hash) x, ap (λ (y : Meaning). y.name) x, ap (λ (y : Meaning). y.address) x)

pub link-of : (s : List ℕ) (ps : List Pair) (p : ℕ) (n : Seen) (m : Meaning) → s ≡ bytes "magnet:?" ++ parted ps → Says unsaid ps n → meant p n ≡ taken m → IsLink s m
link-of s ps p n m e a f =
    let t = says-through ps unsaid n a in
    let x = meant-taken p n m f in
    record {
      pairs = ps;
      text = e;
      form = says-form ps unsaid n a;
      xt = subst (λ (y : Said). AtMostOne NamesHash (values_of (bytes "xt") ps) y) x.0 t.hash;
      dn = subst (λ (y : Said). AtMostOne Spells (values_of (bytes "dn") ps) y) x.1 t.name;
      tr = subst (λ (y : Said). AtMostOne Spells (values_of (bytes "tr") ps) y) x.2 t.address;
    }

-- the last pair is whole at the end
last-pair : (s : List ℕ) (p : ℕ) (n : Seen) (x : Pair) (bs : List ℕ) (m : Meaning) → In s n (pair_text x) → Adds n x bs → meant p (with (field_of x.name) bs n) ≡ taken m → IsLink s m
last-pair s p n x bs m i a e =
    link-of s (i.pairs ++ (x ∷ [])) p (with (field_of x.name) bs n) m
    (i.text ∙ ap (λ (l : List ℕ). bytes "magnet:?" ++ l) (sym (parted-more i.pairs x)))
    (says-more i.pairs unsaid n x bs i.says a) e

at-end : (s : List ℕ) (m : Meaning) (st : State) → Reached s st → finish st ≡ taken m → IsLink s m
unfolding finish field_of same_key
at-end s m (going p n (prefix c w)) r e = not_taken e
at-end s m (going p n (naming k)) r e = not_taken e
at-end s m (going p n (urn c w)) r e = not_taken e
at-end s m (going p n (digits zero h)) (a, (d, i, t, l, f)) e = last-pair s p n (hash_pair d) h m i (hash-adds n d h t (omega arith) f) e
at-end s m (going p n (digits (suc k) h)) r e = not_taken e
at-end s m (going p n (half k h x)) r e = not_taken e
at-end s m (going p n (value f v)) (a, (j, w, i, h, t)) e = last-pair s p n (pair j w) v m i (value-adds n j f w v h t) (ap (λ (g : Field). meant p (with g v n)) h.field ∙ e)
at-end s m (going p n (percent f v)) r e = not_taken e
at-end s m (going p n (digit f v x)) r e = not_taken e
at-end s m (stopped p) r e = not_taken e

pub link-sound : (s : List ℕ) (m : Meaning) → finish (fed begun s) ≡ taken m → IsLink s m
link-sound s m e = at-end s m (fed begun s) (reached s) e

-- ---- a link is taken

-- where the reader stands when a pair is whole
abbrev pub whole : Field → List ℕ → Mode
whole Hash bs = digits 0 bs
whole Name bs = value Name bs
whole Address bs = value Address bs
whole Other bs = value Other bs

pub whole-end : (p : ℕ) (n : Seen) (f : Field) (bs : List ℕ) → finish (going p n (whole f bs)) ≡ meant p (with f bs n)
unfolding finish
whole-end p n Hash bs = refl
whole-end p n Name bs = refl
whole-end p n Address bs = refl
whole-end p n Other bs = refl

whole-next : (p : ℕ) (n : Seen) (f : Field) (bs r : List ℕ) → fed (going p n (whole f bs)) (38 ∷ r) ≡ fed (going (p + 1) (with f bs n) (naming [])) r
unfolding fed in_mode
whole-next p n Hash bs r = refl
whole-next p n Name bs r = refl
whole-next p n Address bs r = refl
whole-next p n Other bs r = refl

-- a value, a name's "=", a pair, each from its first byte on; at which place is left open
value-part : (p : ℕ) (n : Seen) (f : Field) (v bs r : List ℕ) → Gives f v bs → (q : ℕ) × (fed (going p n (opening f)) (v ++ r) ≡ fed (going q n (whole f bs)) r)
value-part p n Hash v bs r g = (
  _,
  ap (λ (l : List ℕ). fed (going p n (opening Hash)) (l ++ r)) g.text
      ∙ urn-run p n (bytes "urn:btih:") (g.digits ++ r)
      ∙ ap (λ (k : ℕ). fed (going (p + length (bytes "urn:btih:")) n (digits k [])) (g.digits ++ r)) (omega (arith, g.whole))
      ∙ hex-run (p + length (bytes "urn:btih:")) n 0 [] r g.hex,
)
value-part p n Name v bs r g = (_, value-run p n Name [] r g)
value-part p n Address v bs r g = (_, value-run p n Address [] r g)
value-part p n Other v bs r g = (_, value-run p n Other [] r g)

pub equals-run : (p : ℕ) (n : Seen) (k r : List ℕ) → 0 < length k → has (field_of k) n ≡ false → fed (going p n (naming k)) (61 ∷ r) ≡ fed (going (p + 1) n (opening (field_of k))) r
unfolding fed in_mode
equals-run p n [] r l h = absurd (omega arith)
equals-run p n (c ∷ k) r l h = let e : in_mode p n (naming (c ∷ k)) 61 ≡ going (p + 1) n (opening (field_of (c ∷ k))) = rw h in ap (λ (t : State). fed t r) e

pub pair-run : (p : ℕ) (n : Seen) (x : Pair) (bs r : List ℕ) → Adds n x bs → (q : ℕ) × (fed (going p n (naming [])) (pair_text x ++ r) ≡ fed (going q n (whole (field_of x.name) bs)) r)
pair-run p n x bs r a =
    let z = value-part (p + length x.name + 1) n (field_of x.name) x.value bs r a.value in (
      z.0,
      ap (λ (l : List ℕ). fed (going p n (naming [])) l) (append_assoc x.name (61 ∷ x.value) r)
          ∙ name-run p n [] (61 ∷ (x.value ++ r)) a.name
          ∙ equals-run (p + length x.name) n x.name (x.value ++ r) a.some a.fresh
          ∙ z.1,
    )

-- pairs, each with its "&"
pub ended-run : (p : ℕ) (ps : List Pair) (n m : Seen) (r : List ℕ) → Says n ps m → (q : ℕ) × (fed (going p n (naming [])) (ended ps ++ r) ≡ fed (going q m (naming [])) r)
unfolding ended
ended-run p [] n m r e = (p, ap (λ (k : Seen). fed (going p k (naming [])) r) e)
ended-run p (x ∷ ps) n m r (bs, a, s) =
    let y = pair-run p n x bs (38 ∷ (ended ps ++ r)) a in
    let z = ended-run (y.0 + 1) ps (with (field_of x.name) bs n) m r s in
    (z.0, ap (λ (l : List ℕ). fed (going p n (naming [])) l) (append_assoc (pair_text x) (38 ∷ ended ps) r) ∙ y.1 ∙ whole-next y.0 n (field_of x.name) bs (ended ps ++ r) ∙ z.1)

-- pairs, parted by "&"
parted-run : (p : ℕ) (x : Pair) (xs : List Pair) (n m : Seen) → Says n (x ∷ xs) m → (q : ℕ) × (finish (fed (going p n (naming [])) (parted (x ∷ xs))) ≡ meant q m)
unfolding parted fed
parted-run p x [] n m (bs, a, e) =
    let y = pair-run p n x bs [] a in
    (y.0, ap (λ (l : List ℕ). finish (fed (going p n (naming [])) l)) (sym (append-nil (pair_text x))) ∙ ap finish y.1 ∙ whole-end y.0 n (field_of x.name) bs ∙ ap (meant y.0) e)
parted-run p x (z ∷ zs) n m (bs, a, s) =
    let y = pair-run p n x bs (38 ∷ parted (z ∷ zs)) a in
    let w = parted-run (y.0 + 1) z zs (with (field_of x.name) bs n) m s in
    (w.0, ap finish (y.1 ∙ whole-next y.0 n (field_of x.name) bs (parted (z ∷ zs))) ∙ w.1)

abbrev pub seen_in : Meaning → Seen
seen_in m = record { hash = said m.hash; name = m.name; address = m.address }

-- what a link's pairs say from left to right
pub link-says : (s : List ℕ) (m : Meaning) (l : IsLink s m) → Says unsaid l.pairs (seen_in m)
link-says s m l = through-says l.pairs unsaid (seen_in m) l.form (record { hash = l.xt; name = l.dn; address = l.tr })

says-taken : (m : Meaning) (ps : List Pair) → Says unsaid ps (seen_in m) → finish (fed begun (bytes "magnet:?" ++ parted ps)) ≡ taken m
says-taken m [] e = let f : absent ≡ said m.hash = ap (λ (n : Seen). n.hash) e in no_way (cc)
says-taken m (x ∷ xs) s = ap finish (prefix-run 0 unsaid (bytes "magnet:?") (parted (x ∷ xs))) ∙ (parted-run (0 + length (bytes "magnet:?")) x xs unsaid (seen_in m) s).1

pub link-complete : (s : List ℕ) (m : Meaning) → IsLink s m → finish (fed begun s) ≡ taken m
link-complete s m l = ap (λ (t : List ℕ). finish (fed begun t)) l.text ∙ says-taken m l.pairs (link-says s m l)
