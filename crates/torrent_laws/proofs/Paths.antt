-- The checks of paths. Assumes nothing.
use mathlib.Core.Path.{◌≡◌, refl, sym, ap, ◌∙◌, subst}
use mathlib.Core.Logic.{◌⊎◌, inl, inr, ⊎_elim}
use mathlib.Core.List.{List, [], ◌∷◌}
use mathlib.Core.List.Memᴰ
use mathlib.Core.List.{Memᴰ as In}
use Prim.Native.Nat.{ℕ, ◌+◌}
use lib.ListN.{length, take, drop}
use lib.Seq.{take-append_seam}
use Rattle.bencode.specs.Value.{Value, Items, str, list, none, item, encode, encode_items}
use Rattle.bencode_walk.specs.Stands.{Stands, StandItems}
use Rattle.bencode_walk.proofs.Standing.{list-stands, items-next}
use Rattle.torrent_metainfo.specs.Rules.{elements_of, path_in, path_at}
use Rattle.torrent_laws.specs.Torrent.{GoodName, string_items}
use Rattle.torrent_laws.specs.Exact.{PathAt}
use Rattle.torrent_laws.specs.Causes.{NoName, NoElements, this, later, NoPath, no_list, empty-path, bad_element}
use Rattle.torrent_laws.proofs.Names.{no_way}
use Rattle.bencode_fields.specs.Causes.{Other, other}
use Rattle.bencode_fields.proofs.Checks.{Checks, checks-refused, checks-taken, checks-as, checks-then, checks-map}
use Rattle.bencode_fields.proofs.Typed.{list-checks, kind-checks}
use Rattle.torrent_laws.proofs.Values.{Named, name-checks}

-- each of them a good name
abbrev pub AllGood : List (List ℕ) → Type 0
AllGood l = (bs : List ℕ) → In bs l → GoodName bs

abbrev Elements : Items → List (List ℕ) → Type 0
Elements vs l = (vs ≡ string_items l) × AllGood l

abbrev Any : {A B : Type 0} → A → B → Type 0
Any x y = Unit {0}

no-elements : (p n q : ℕ) → NoElements p none n q → ⊥
no-elements p n q h = elim h [ ]

none-strings : (l : List (List ℕ)) → none ≡ string_items l → l ≡ []
unfolding string_items
none-strings [] e = refl
none-strings (bs ∷ l) e = no_way (cc)

-- what a bad element is bad by
by-element : (p : ℕ) (v : Value) (vs : Items) (n q : ℕ) → NoElements p (item v vs) n q → NoName p v n q ⊎ ((bs : List ℕ) × Named v bs × NoElements (p + length (encode v)) vs n q)
by-element p v vs n q (this o w ws m r h) = inl h
by-element p v vs n q (later o bs ws m r g h) = inr (bs, (refl, g), h)

element-by : (p : ℕ) (v : Value) (vs : Items) (n q : ℕ) → NoName p v n q ⊎ ((bs : List ℕ) × Named v bs × NoElements (p + length (encode v)) vs n q) → NoElements p (item v vs) n q
element-by p v vs n q (inl h) = this p v vs n q h
element-by p v vs n q (inr h) =
    subst (λ (w : Value). NoElements p (item w vs) n q) (sym h.1.0)
    (later p h.0 vs n q h.1.1 (subst (λ (w : Value). NoElements (p + length (encode w)) vs n q) h.1.0 h.2))

-- a good name before good ones
pub more-good : (bs : List ℕ) (l : List (List ℕ)) → GoodName bs → AllGood l → AllGood (bs ∷ l)
more-good bs l g h cs i = ⊎_elim (λ (e : cs ≡ bs). subst GoodName (sym e) g) (h cs) (Memᴰ.cases_cons i)

joined : (v : Value) (vs : Items) (bs : List ℕ) (l : List (List ℕ)) → v ≡ str bs → vs ≡ string_items l → item v vs ≡ string_items (bs ∷ l)
unfolding string_items
joined v vs bs l e f = rw (e, f)

parted : (v : Value) (vs : Items) (l : List (List ℕ)) → Elements (item v vs) l → (k : List ℕ × List (List ℕ)) × (Named v k.0 × Elements vs k.1) × ((x : ℕ) → Unit {0} → Unit {0})
unfolding string_items
parted v vs [] h = let e = h.0 in no_way (cc)
parted v vs (bs ∷ l) h =
    let e = h.0 in
    let a : v ≡ str bs = cc in
    let b : vs ≡ string_items l = cc in
    ((bs, l), ((a, h.1 bs (In.head refl)), (b, λ cs i. h.1 cs (In.tail i))), λ x u. tt)

some : (v : Value) (vs : Items) (l : List (List ℕ)) → item v vs ≡ string_items l → l ≡ [] → ⊥
unfolding string_items
some v vs l e f = no_way (let g : item v vs ≡ string_items [] = e ∙ ap string_items f in cc)

-- the items, or the value, are that path
abbrev PathIn : Items → List (List ℕ) → Type 0
PathIn vs l = (vs ≡ string_items l) × (l ≡ [] → ⊥) × AllGood l

abbrev pub Pathed : Value → List (List ℕ) → Type 0
Pathed v l = (vs : Items) × (v ≡ list vs) × PathIn vs l

path-kind : (q : ℕ) (v : Value) (n p : ℕ) → NoPath q v n p → Other list q v n p ⊎ ((vs : Items) × (v ≡ list vs))
path-kind q v n p (no_list w h) = inl (other w h)
path-kind q v n p empty-path = inr (none, refl)
path-kind q v n p (bad_element vs m r h) = inr (vs, refl)

only-empty : (q n p : ℕ) → NoPath q (list none) n p → (n ≡ 13) × (p ≡ q)
only-empty q n p (no_list v h) = absurd (h none refl)
only-empty q n p empty-path = (refl, refl)
only-empty q n p (bad_element vs m r h) = absurd (no-elements (q + 1) m r h)

bad-only : (q : ℕ) (v : Value) (vs : Items) (n p : ℕ) → NoPath q (list (item v vs)) n p → NoElements (q + 1) (item v vs) n p
bad-only q v vs n p (no_list w h) = absurd (h (item v vs) refl)
bad-only q v vs n p (bad_element ws m r h) = h

module _ (s : List ℕ) where
  elements-checks : (d p : ℕ) (vs : Items) → StandItems s d p vs → Checks (elements_of p vs) (Elements vs) Any (NoElements p vs)
  unfolding elements_of string_items
  elements-checks d p none t = checks-taken [] (refl, λ bs i. absurd (Memᴰ.not-nil i)) tt (λ l h. none-strings l h.0) (no-elements p)
  elements-checks d p (item v vs) t =
      let i = items-next s d p v vs t in
      checks-as (checks-then (name-checks s d p v i.0) (λ x m k sh. elements-checks d (p + length (encode v)) vs i.1))
      (λ x k h u. (k.0 ∷ k.1, (joined v vs k.0 k.1 h.0.0 h.1.0, more-good k.0 k.1 h.0.1 h.1.1), tt))
      (parted v vs) (element-by p v vs) (by-element p v vs)

  -- what stands in a list is written there
  items_at : (d p : ℕ) (vs : Items) → StandItems s d p vs → take (length (encode_items vs)) (drop p s) ≡ encode_items vs
  items_at d p vs t = ap (take (length (encode_items vs))) t.text ∙ take-append_seam (encode_items vs) t.rest

  path-in : (d q : ℕ) (vs : Items) → StandItems s d (q + 1) vs → Checks (path_in q vs) (PathIn vs) (PathAt s) (NoPath q (list vs))
  path-in d q none t = checks-refused (λ l i. i.1 (none-strings l i.0)) empty-path (only-empty q)
  path-in d q (item v vs) t =
      checks-as
      (checks-map (λ x. q + 1) {Shows' = PathAt s} (elements-checks d (q + 1) (item v vs) t)
      (λ x l i u. subst (λ (ws : Items). take (length (encode_items ws)) (drop (q + 1) s) ≡ encode_items ws) i.0 (items_at d (q + 1) (item v vs) t)))
      (λ x l h u. (l, (h.0, some v vs l h.0, h.1), u)) (λ l h. (l, (h.0, h.2), λ x u. u)) (λ n p h. bad_element (item v vs) n p h) (bad-only q v vs)

  pub path-checks : (e q : ℕ) (v : Value) → Stands s e q v → Checks (path_at q v) (Pathed v) (PathAt s) (NoPath q v)
  path-checks e q v t =
      kind-checks (NoPath q) (list-checks q v) (λ vs f. let g = (list-stands s e q vs (subst (Stands s e q) f t)).1 in path-in g.0 q vs g.2) (no_list v) (path-kind q v)
