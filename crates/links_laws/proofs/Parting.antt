-- Pairs are read in one way from a text: the pairs with which it begins are the first of a link's. Assumes nothing.
use mathlib.Core.Path.{◌≡◌, refl, sym, ap, ◌∙◌}
use mathlib.Core.Bool.{Bool, true, false}
use mathlib.Core.List.{List, [], ◌∷◌, ◌++◌, append_assoc}
use Prim.Native.Nat.{ℕ}
use native.Mathlib.Omega.{arith}
use Rattle.refusal.proofs.Cases.{no_way, cannot}
use Rattle.links.specs.Link.{name_byte, plain_byte, Spells, nothing, plain, escape, NameBytes, no_more, one_more}
use Rattle.links_laws.specs.Form.{Pair, InForm, AllInForm, pair_text, parted}
use Rattle.links_laws.specs.Causes.{ended}
use Rattle.links_laws.proofs.Saying.{hex-plain, first-form}

-- ---- a byte that does not stand in a text

abbrev Free : ℕ → List ℕ → Type 0
Free c [] = Unit {0}
Free c (b ∷ w) = (b ≡ c → ⊥) × Free c w

free-join : (c : ℕ) (w v : List ℕ) → Free c w → Free c v → Free c (w ++ v)
free-join c [] v f g = g
free-join c (b ∷ w) v (h, f) g = (h, free-join c w v f g)

not-of : (kind : ℕ → Bool) (b c : ℕ) → kind c ≡ false → kind b ≡ true → b ≡ c → ⊥
not-of kind b c f t e = cannot (kind c) f (sym (ap kind e) ∙ t)

free-name : (c : ℕ) → name_byte c ≡ false → {k : List ℕ} → NameBytes k → Free c k
free-name c e no_more = tt
free-name c e (one_more b k t h) = (not-of (λ (x : ℕ). name_byte x) b c e t, free-name c e h)

free-value : {w bs : List ℕ} → Spells w bs → Free 38 w
free-value nothing = tt
free-value (plain b w bs e s) = (not-of (λ (x : ℕ). plain_byte x) b 38 refl e, free-value s)
free-value (escape h l x y w bs i j s) = (
  λ e. omega arith,
  (not-of (λ (z : ℕ). plain_byte z) h 38 refl (hex-plain h x i), (not-of (λ (z : ℕ). plain_byte z) l 38 refl (hex-plain l y j), free-value s)),
)

free-pair : (x : Pair) → InForm x → Free 38 (pair_text x)
free-pair x i = free-join 38 x.name (61 ∷ x.value) (free-name 38 refl i.name) (λ e. omega arith, free-value i.value)

-- ---- parted at the first of these bytes, in one way

not_in : (c : ℕ) (a b t : List ℕ) → Free c a → a ≡ b ++ (c ∷ t) → ⊥
not_in c [] [] t f e = no_way (cc)
not_in c [] (y ∷ b) t f e = no_way (cc)
not_in c (x ∷ a) [] t (h, f) e = h (cc)
not_in c (x ∷ a) (y ∷ b) t (h, f) e = not_in c a b t f (cc)

part_same : (c : ℕ) (a b r t : List ℕ) → Free c a → Free c b → a ++ (c ∷ r) ≡ b ++ (c ∷ t) → (a ≡ b) × (r ≡ t)
part_same c [] [] r t f g e = (refl, cc)
part_same c [] (y ∷ b) r t f (h, g) e = absurd (h (cc))
part_same c (x ∷ a) [] r t (h, f) g e = absurd (h (cc))
part_same c (x ∷ a) (y ∷ b) r t (h, f) (k, g) e =
    let i : x ≡ y = cc in
    let z = part_same c a b r t f g (cc) in
    (ap (λ (d : ℕ). d ∷ a) i ∙ ap {B = List ℕ} (λ (l : List ℕ). y ∷ l) z.0, z.1)

pair_same : (x y : Pair) → InForm x → InForm y → pair_text x ≡ pair_text y → x ≡ y
pair_same x y i j e =
    let z = part_same 61 x.name y.name x.value y.value (free-name 61 refl i.name) (free-name 61 refl j.name) e in
    ap {B = Pair} (λ (k : List ℕ). record { name = k; value = x.value }) z.0 ∙ ap {B = Pair} (λ (v : List ℕ). record { name = y.name; value = v }) z.1

not-empty : (a : List ℕ) (c : ℕ) (r : List ℕ) → a ++ (c ∷ r) ≡ [] → ⊥
not-empty [] c r e = no_way (cc)
not-empty (x ∷ a) c r e = no_way (cc)

-- the pairs with which it begins
pub pairs_first : (ps qs : List Pair) (r : List ℕ) → AllInForm ps → AllInForm qs → ended ps ++ r ≡ parted qs → (rs : List Pair) × (qs ≡ ps ++ rs)
unfolding ended parted
pairs_first [] qs r f g e = (qs, refl)
pairs_first (x ∷ ps) [] r f g e = absurd (not-empty (pair_text x) 38 (ended ps ++ r) (sym (append_assoc (pair_text x) (38 ∷ ended ps) r) ∙ e))
pairs_first (x ∷ ps) (y ∷ []) r f g e =
    absurd (not_in 38 (pair_text y) (pair_text x) (ended ps ++ r) (free-pair y (first-form g).0) (sym e ∙ append_assoc (pair_text x) (38 ∷ ended ps) r))
pairs_first (x ∷ ps) (y ∷ z ∷ qs) r f g e =
    let i = first-form f in
    let j = first-form g in
    let s = part_same 38 (pair_text x) (pair_text y) (ended ps ++ r) (parted (z ∷ qs)) (free-pair x i.0) (free-pair y j.0) (sym (append_assoc (pair_text x) (38 ∷ ended ps) r) ∙ e) in
    let m = pairs_first ps (z ∷ qs) r i.1 j.1 s.1 in
    (m.0, ap (λ (w : Pair). w ∷ z ∷ qs) (sym (pair_same x y i.0 j.0 s.0)) ∙ ap {B = List Pair} (λ (l : List Pair). x ∷ l) m.1)
