-- What pairs say from left to right, and that a link's pairs say the same. Assumes nothing.
use mathlib.Core.Path.{◌≡◌, refl, sym, ap, ◌∙◌, subst}
use mathlib.Core.Logic.{inl, inr}
use mathlib.Core.Bool.{Bool, true, false, ◌&&◌}
use mathlib.Core.List.{List, [], ◌∷◌, ◌++◌, append_assoc}
use Prim.Native.Nat.{ℕ, ◌+◌, ◌<◌, ◌≤◌}
use native.Mathlib.Omega.{arith}
use borrow.Author.Tests.{lt-ltb, le-ltb}
use lib.ListN.{length}
use Rattle.refusal.specs.Texts.{bytes}
use Rattle.refusal.proofs.Cases.{less-or, by_bool, both, no_way, cannot}
use Rattle.bencode_walk.specs.Lookup.{same_key}
use Rattle.bencode_walk.proofs.Finding.{same_true}
use Rattle.links.specs.Link.{plain_byte, Hex, HexText, no_byte, a_byte, Spells, nothing, plain, NameBytes, Said, absent, said}
use Rattle.links_laws.specs.Form.{NamesHash, Pair, InForm, AllInForm, no-pair, a_pair, pair_text, parted, values_of, AtMostOne, none, one}
use Rattle.links_laws.specs.Causes.{ended}
use Rattle.links.specs.Reading.{field_of, Seen, is_said, has, with}
use Rattle.links.specs.declared.scan.Field.{Field}
use Rattle.links.specs.declared.scan.Field.TheVariants.{Hash, Name, Address, Other}
use Rattle.links.proofs.Digits.{most-plain}
use Rattle.links.proofs.Spelling.{spells-join}

-- ---- names, and what they are names of

abbrev pub is_hash : Field → Bool
is_hash Hash = true
is_hash Name = false
is_hash Address = false
is_hash Other = false

abbrev pub is_name : Field → Bool
is_name Hash = false
is_name Name = true
is_name Address = false
is_name Other = false

abbrev pub is_address : Field → Bool
is_address Hash = false
is_address Name = false
is_address Address = true
is_address Other = false

pub record Kinds (j : List ℕ) (f : Field) : Type 0 where
  pub xt : same_key j (bytes "xt") ≡ is_hash f
  pub dn : same_key j (bytes "dn") ≡ is_name f
  pub tr : same_key j (bytes "tr") ≡ is_address f

-- a name is of one kind
kinds-xt : Kinds (bytes "xt") (field_of (bytes "xt"))
unfolding field_of same_key
kinds-xt = record { xt = refl; dn = refl; tr = refl }

kinds-dn : Kinds (bytes "dn") (field_of (bytes "dn"))
unfolding field_of same_key
kinds-dn = record { xt = refl; dn = refl; tr = refl }

kinds-tr : Kinds (bytes "tr") (field_of (bytes "tr"))
unfolding field_of same_key
kinds-tr = record { xt = refl; dn = refl; tr = refl }

kinds-other : (j : List ℕ) → same_key j (bytes "xt") ≡ false → same_key j (bytes "dn") ≡ false → same_key j (bytes "tr") ≡ false → Kinds j (field_of j)
unfolding field_of
kinds-other j a b c = rw (a, b, c) (record { xt = a; dn = b; tr = c })

kinds-by : (j k : List ℕ) → Kinds k (field_of k) → same_key j k ≡ true → Kinds j (field_of j)
kinds-by j k h e = subst (λ (l : List ℕ). Kinds l (field_of l)) (sym (same_true j k e)) h

pub kinds : (j : List ℕ) → Kinds j (field_of j)
kinds j =
    by_bool (same_key j (bytes "xt")) (kinds-by j (bytes "xt") kinds-xt)
    (λ a. by_bool (same_key j (bytes "dn")) (kinds-by j (bytes "dn") kinds-dn)
    (λ b. by_bool (same_key j (bytes "tr")) (kinds-by j (bytes "tr") kinds-tr)
    (λ c. kinds-other j a b c)))

-- ---- the values under a name, of which the first is of a pair or not

module _ (k : List ℕ) (x : Pair) (xs : List Pair) where
  values-here : same_key x.name k ≡ true → values_of k (x ∷ xs) ≡ x.value ∷ values_of k xs
  unfolding values_of
  values-here e = rw e

  values-not : same_key x.name k ≡ false → values_of k (x ∷ xs) ≡ values_of k xs
  unfolding values_of
  values-not e = rw e

-- ---- at most one value, after what was said before: nothing, or bytes

abbrev pub Between : (List ℕ → List ℕ → Type 0) → Said → List (List ℕ) → Said → Type 0
Between R absent vs b = AtMostOne R vs b
Between R (said bs) vs b = (vs ≡ []) × (b ≡ said bs)

module _ (R : List ℕ → List ℕ → Type 0) where
  none_said : {b : Said} → AtMostOne R [] b → absent ≡ b
  none_said none = refl

  one-said : {v : List ℕ} {vs : List (List ℕ)} {b : Said} → AtMostOne R (v ∷ vs) b → (bs : List ℕ) × R v bs × (vs ≡ []) × (b ≡ said bs)
  one-said (one v bs r) = (bs, r, refl, refl)

  between_none : (a b : Said) → Between R a [] b → a ≡ b
  between_none absent b h = none_said h
  between_none (said bs) b h = sym h.1

  between-same : (a : Said) → Between R a [] a
  between-same absent = none
  between-same (said bs) = (refl, refl)

  between_first : (a b : Said) (v : List ℕ) (vs : List (List ℕ)) → Between R a (v ∷ vs) b → (bs : List ℕ) × R v bs × (is_said a ≡ false) × ((vs ≡ []) × (b ≡ said bs))
  between_first absent b v vs h = let o = one-said h in (o.0, o.1, refl, (o.2, o.3))
  between_first (said cs) b v vs h = let e = h.0 in no_way (cc)

  between_more : (a b : Said) (v bs : List ℕ) (vs : List (List ℕ)) → R v bs → is_said a ≡ false → (vs ≡ []) × (b ≡ said bs) → Between R a (v ∷ vs) b
  between_more absent b v bs vs r e (f, g) = rw (f, g) (one v bs r)
  between_more (said cs) b v bs vs r e h = cannot true e refl

-- the same over the values under a name: those of a pair and of the pairs after it
module _ (R : List ℕ → List ℕ → Type 0) (k : List ℕ) (x : Pair) (xs : List Pair) (a b : Said) where
  past : same_key x.name k ≡ false → Between R a (values_of k xs) b → Between R a (values_of k (x ∷ xs)) b
  past e h = rw (values-not k x xs e) h

  unpast : same_key x.name k ≡ false → Between R a (values_of k (x ∷ xs)) b → Between R a (values_of k xs) b
  unpast e h = rw (values-not k x xs e) at h

  here : (bs : List ℕ) → same_key x.name k ≡ true → R x.value bs → is_said a ≡ false → (values_of k xs ≡ []) × (b ≡ said bs) → Between R a (values_of k (x ∷ xs)) b
  here bs e r f h = rw (values-here k x xs e) (between_more R a b x.value bs (values_of k xs) r f h)

  unhere : same_key x.name k ≡ true → Between R a (values_of k (x ∷ xs)) b → (bs : List ℕ) × R x.value bs × (is_said a ≡ false) × ((values_of k xs ≡ []) × (b ≡ said bs))
  unhere e h = between_first R a b x.value (values_of k xs) (rw (values-here k x xs e) at h)

pub record Through (n : Seen) (ps : List Pair) (m : Seen) : Type 0 where
  pub hash : Between NamesHash n.hash (values_of (bytes "xt") ps) m.hash
  pub name : Between Spells n.name (values_of (bytes "dn") ps) m.name
  pub address : Between Spells n.address (values_of (bytes "tr") ps) m.address

-- ---- what a pair adds, and what pairs say, from left to right

abbrev pub Gives : Field → List ℕ → List ℕ → Type 0
Gives Hash v bs = NamesHash v bs
Gives Name v bs = Spells v bs
Gives Address v bs = Spells v bs
Gives Other v bs = Spells v bs

pub record Adds (n : Seen) (x : Pair) (bs : List ℕ) : Type 0 where
  pub some : 0 < length x.name
  pub name : NameBytes x.name
  pub value : Gives (field_of x.name) x.value bs
  pub fresh : has (field_of x.name) n ≡ false

abbrev pub Says : Seen → List Pair → Seen → Type 0
Says n [] m = n ≡ m
Says n (x ∷ xs) m = (bs : List ℕ) × Adds n x bs × Says (with (field_of x.name) bs n) xs m

pub says-more : (ps : List Pair) (n m : Seen) (x : Pair) (bs : List ℕ) → Says n ps m → Adds m x bs → Says n (ps ++ (x ∷ [])) (with (field_of x.name) bs m)
says-more [] n m x bs e a = (bs, rw e a, ap (with (field_of x.name) bs) e)
says-more (y ∷ ps) n m x bs (cs, b, s) a = (cs, b, says-more ps (with (field_of y.name) cs n) m x bs s a)

pub says-split : (ps rs : List Pair) (n m : Seen) → Says n (ps ++ rs) m → (k : Seen) × Says n ps k × Says k rs m
says-split [] rs n m s = (n, refl, s)
says-split (x ∷ ps) rs n m (bs, a, s) = let r = says-split ps rs (with (field_of x.name) bs n) m s in (r.0, (bs, a, r.1), r.2)

-- ---- a hash is spelt too

abbrev plains : List ℕ → Bool
plains [] = true
plains (b ∷ w) = plain_byte b && plains w

spelt-plain : (w : List ℕ) → plains w ≡ true → Spells w w
spelt-plain [] e = nothing
spelt-plain (b ∷ w) e = let x = both (plain_byte b) (plains w) e in plain b w w x.0 (spelt-plain w x.1)

hex-range : (c x : ℕ) → Hex c x → (48 ≤ c) × (c ≤ 102)
hex-range c x (l, inl e) =
    less-or x 10
    (λ h. let f : c ≡ 48 + x = e ∙ rw (lt-ltb x 10 h) in (omega arith, omega arith))
    (λ h. let f : c ≡ 55 + x = e ∙ rw (le-ltb x 10 h) in (omega arith, omega arith))
hex-range c x (l, inr e) =
    less-or x 10
    (λ h. let f : c ≡ 48 + x = e ∙ rw (lt-ltb x 10 h) in (omega arith, omega arith))
    (λ h. let f : c ≡ 87 + x = e ∙ rw (le-ltb x 10 h) in (omega arith, omega arith))

pub hex-plain : (c x : ℕ) → Hex c x → plain_byte c ≡ true
hex-plain c x h = let r = hex-range c x h in sym (most-plain c (omega arith) (omega arith))

spelt-hex : {w bs : List ℕ} → HexText w bs → Spells w w
spelt-hex no_byte = nothing
spelt-hex (a_byte h l x y w bs i j t) = plain h (l ∷ w) (l ∷ w) (hex-plain h x i) (plain l w w (hex-plain l y j) (spelt-hex t))

spelt-hash : (v h : List ℕ) → NamesHash v h → Spells v v
spelt-hash v h x = rw x.text (spells-join x.digits x.digits (spelt-plain (bytes "urn:btih:") refl) (spelt-hex x.hex))

spelt : (f : Field) (v bs : List ℕ) → Gives f v bs → (t : List ℕ) × Spells v t
spelt Hash v bs g = (v, spelt-hash v bs g)
spelt Name v bs g = (bs, g)
spelt Address v bs g = (bs, g)
spelt Other v bs g = (bs, g)

pub says-form : (ps : List Pair) (n m : Seen) → Says n ps m → AllInForm ps
says-form [] n m s = no-pair
says-form (x ∷ xs) n m (bs, a, s) =
    let t = spelt (field_of x.name) x.value bs a.value in
    a_pair x xs (record { some = a.some; name = a.name; spelt = t.0; value = t.1 }) (says-form xs (with (field_of x.name) bs n) m s)

-- ---- from left to right, and by the values under each name

module _ (n m : Seen) (x : Pair) (xs : List Pair) where
  through-more : (bs : List ℕ) (f : Field) → Kinds x.name f → Gives f x.value bs → has f n ≡ false → Through (with f bs n) xs m → Through n (x ∷ xs) m
  through-more bs Hash k g h t = record {
    hash = here NamesHash (bytes "xt") x xs n.hash m.hash bs k.xt g h t.hash;
    name = past Spells (bytes "dn") x xs n.name m.name k.dn t.name;
    address = past Spells (bytes "tr") x xs n.address m.address k.tr t.address;
  }
  through-more bs Name k g h t = record {
    hash = past NamesHash (bytes "xt") x xs n.hash m.hash k.xt t.hash;
    name = here Spells (bytes "dn") x xs n.name m.name bs k.dn g h t.name;
    address = past Spells (bytes "tr") x xs n.address m.address k.tr t.address;
  }
  through-more bs Address k g h t = record {
    hash = past NamesHash (bytes "xt") x xs n.hash m.hash k.xt t.hash;
    name = past Spells (bytes "dn") x xs n.name m.name k.dn t.name;
    address = here Spells (bytes "tr") x xs n.address m.address bs k.tr g h t.address;
  }
  through-more bs Other k g h t = record {
    hash = past NamesHash (bytes "xt") x xs n.hash m.hash k.xt t.hash;
    name = past Spells (bytes "dn") x xs n.name m.name k.dn t.name;
    address = past Spells (bytes "tr") x xs n.address m.address k.tr t.address;
  }

  -- the way back
  through-first : InForm x → (f : Field) → Kinds x.name f → Through n (x ∷ xs) m → (bs : List ℕ) × Gives f x.value bs × (has f n ≡ false) × Through (with f bs n) xs m
  through-first i Hash k t =
      let h = unhere NamesHash (bytes "xt") x xs n.hash m.hash k.xt t.hash in (
        h.0,
        h.1,
        h.2,
        record {
          hash = h.3;
          name = unpast Spells (bytes "dn") x xs n.name m.name k.dn t.name;
          address = unpast Spells (bytes "tr") x xs n.address m.address k.tr t.address;
        },
      )
  through-first i Name k t =
      let h = unhere Spells (bytes "dn") x xs n.name m.name k.dn t.name in (
        h.0,
        h.1,
        h.2,
        record {
          hash = unpast NamesHash (bytes "xt") x xs n.hash m.hash k.xt t.hash;
          name = h.3;
          address = unpast Spells (bytes "tr") x xs n.address m.address k.tr t.address;
        },
      )
  through-first i Address k t =
      let h = unhere Spells (bytes "tr") x xs n.address m.address k.tr t.address in (
        h.0,
        h.1,
        h.2,
        record {
          hash = unpast NamesHash (bytes "xt") x xs n.hash m.hash k.xt t.hash;
          name = unpast Spells (bytes "dn") x xs n.name m.name k.dn t.name;
          address = h.3;
        },
      )
  through-first i Other k t = (
    i.spelt,
    i.value,
    refl,
    record {
      hash = unpast NamesHash (bytes "xt") x xs n.hash m.hash k.xt t.hash;
      name = unpast Spells (bytes "dn") x xs n.name m.name k.dn t.name;
      address = unpast Spells (bytes "tr") x xs n.address m.address k.tr t.address;
    },
  )

pub says-through : (ps : List Pair) (n m : Seen) → Says n ps m → Through n ps m
unfolding values_of
says-through [] n m e = rw (← e) (record { hash = between-same NamesHash n.hash; name = between-same Spells n.name; address = between-same Spells n.address })
says-through (x ∷ xs) n m (bs, a, s) = through-more n m x xs bs (field_of x.name) (kinds x.name) a.value a.fresh (says-through xs (with (field_of x.name) bs n) m s)

pub first-form : {x : Pair} {xs : List Pair} → AllInForm (x ∷ xs) → InForm x × AllInForm xs
first-form (a_pair x xs i a) = (i, a)

seen_same : (n m : Seen) → n.hash ≡ m.hash → n.name ≡ m.name → n.address ≡ m.address → n ≡ m
seen_same n m a b c =
    ap {B = Seen} (λ (s : Said). record { hash = s; name = n.name; address = n.address }) a
    ∙ ap {B = Seen} (λ (s : Said). record { hash = m.hash; name = s; address = n.address }) b
    ∙ ap {B = Seen} (λ (s : Said). record { hash = m.hash; name = m.name; address = s }) c

pub through-says : (ps : List Pair) (n m : Seen) → AllInForm ps → Through n ps m → Says n ps m
unfolding values_of
through-says [] n m a t = seen_same n m (between_none NamesHash n.hash m.hash t.hash) (between_none Spells n.name m.name t.name) (between_none Spells n.address m.address t.address)
through-says (x ∷ xs) n m a t =
    let f = first-form a in
    let i = f.0 in
    let r = through-first n m x xs i (field_of x.name) (kinds x.name) t in
    (r.0, record { some = i.some; name = i.name; value = r.1; fresh = r.2 }, through-says xs (with (field_of x.name) r.0 n) m f.1 r.3)

-- ---- one pair more at the end of a text

pub ended-more : (ps : List Pair) (x : Pair) → ended (ps ++ (x ∷ [])) ≡ ended ps ++ (pair_text x ++ (38 ∷ []))
unfolding ended
ended-more [] x = refl
ended-more (y ∷ ps) x = ap (λ (l : List ℕ). pair_text y ++ (38 ∷ l)) (ended-more ps x) ∙ sym (append_assoc (pair_text y) (38 ∷ ended ps) (pair_text x ++ (38 ∷ [])))

parted-first : (y : Pair) (ps : List Pair) (x : Pair) → parted (y ∷ (ps ++ (x ∷ []))) ≡ pair_text y ++ (38 ∷ parted (ps ++ (x ∷ [])))
unfolding parted
parted-first y [] x = refl
parted-first y (z ∷ ps) x = refl

pub parted-more : (ps : List Pair) (x : Pair) → parted (ps ++ (x ∷ [])) ≡ ended ps ++ pair_text x
unfolding parted ended
parted-more [] x = refl
parted-more (y ∷ ps) x = parted-first y ps x ∙ ap (λ (l : List ℕ). pair_text y ++ (38 ∷ l)) (parted-more ps x) ∙ sym (append_assoc (pair_text y) (38 ∷ ended ps) (pair_text x))
