-- Names and paths: the rule for their bytes as the code tests it, and what the looks say where a value stands. Assumes nothing.
use Rattle.std.proofs.Common.{◌≡◌, refl, sym, ap, ◌∙◌, Bool, true, false, cond, not, ◌&&◌, List, [], ◌∷◌, ◌++◌, ℕ, suc, ◌+◌, ◌<◌, ◌≤◌, arith, eqb, length, take, drop, length-append}
use Rattle.std.specs.List.{list_all}
use Rattle.refusal.specs.Paper.{Outcome, taken, refused, then, map}
use Rattle.refusal.specs.declared.Part.{Part}
pub use Rattle.refusal.proofs.Cases.{no_way}
use Rattle.refusal.proofs.Cases.{by-test}
use Rattle.bencode_scalar.specs.Written.{written_int, in_range}
use Rattle.bencode.specs.Value.{Value, Items, str, int, list, dict, none, item, encode, encode_items}
use Rattle.bencode.specs.Decode.{closes}
use Rattle.bencode_walk.specs.Walk.{Head, string, integer, long, end, look_of, as_entry}
use Rattle.bencode_walk.specs.Walk as walk
use Rattle.bencode_walk.specs.Stands.{Stands, StandItems}
use Rattle.bencode_walk.proofs.Standing.{string-stands, integer-stands, list-stands, dictionary-stands, items-end, items-next, closes-none, closes-item}
use Rattle.bencode_walk.proofs.Seeking.{key-further}
use Rattle.bencode_fields.specs.Looks.{ending_at, string_in, string_of, list_of}
use Rattle.bencode_fields.specs.Values.{part_of, list_at_of}
use Rattle.bencode_fields.proofs.Standing.{part_bytes, look_is, string-is, list-is}
use Rattle.torrent_metainfo.specs.Rules.{clean, good_name, name_at, elements_of, path_in, path_at}

-- ---- refusals

-- a refusal is the same whatever might have been taken
pub moved : {A B : Type 0} {r o n q : ℕ} → ◌≡◌ {A = Outcome A} (refused r o) (refused n q) → ◌≡◌ {A = Outcome B} (refused r o) (refused n q)
moved {A} {B} e = ap (λ (x : Outcome A). then {B = B} x (λ y. refused 0 0)) e

pub not_taken : {A B : Type 0} (f : A → B) (r i : ℕ) (o : Outcome A) → refused r i ≡ map f o → refused r i ≡ o
not_taken f r i (taken x) e = no_way (cc)
not_taken f r i (refused n q) e = moved e

-- a look that was refused, and what was to come of it
pub not-then : {A B C : Type 0} (f : A → B) (g : A → Outcome C) {r i : ℕ} (o : Outcome A) → refused r i ≡ map f o → refused r i ≡ then o g
not-then f g {r} {i} o e = ap (λ x. then x g) (not_taken f r i o e)

-- ---- the bytes of a name

pub clean-by : (s : List ℕ) → list_all (λ y. not (eqb y 47) && not (eqb y 0)) s ≡ clean s
unfolding clean
clean-by [] = refl
clean-by (b ∷ t) = go (clean-by t) (eqb b 47) (eqb b 0)
  where
    A : Bool
    A = list_all (λ y. not (eqb y 47) && not (eqb y 0)) t

    go : A ≡ clean t → (x y : Bool) → ((not x && not y) && A) ≡ cond x false (cond y false (clean t))
    go e true y = refl
    go e false true = refl
    go e false false = e

-- ---- a name that stands at p

abbrev pub is_end : Head → Bool
is_end (string a m q) = false
is_end (integer z q) = false
is_end (long a m q) = false
is_end (walk.list q) = false
is_end (walk.dictionary q) = false
is_end (end q) = true

module _ (s : List ℕ) (d p : ℕ) where
  pub name_by : (v : Value) → Stands s d p v → (x : Part) → taken x ≡ string_of s p → {b : Bool} → good_name (take x.len (drop x.from s)) ≡ b → cond b (taken x) (refused 13 p) ≡ name_at p v
  name_by (str bs) t x e {b} g =
      let f : taken x ≡ taken (part_of p bs) = e ∙ string-is s d p (str bs) t in
      let h : x ≡ part_of p bs = cc in
      let i : b ≡ good_name bs = sym g ∙ ap (λ (y : Part). good_name (take y.len (drop y.from s))) h ∙ ap good_name (part_bytes s d p bs t) in
      ap (λ (o : Outcome Part). cond b o (refused 13 p)) f ∙ ap (λ (c : Bool). cond c (taken (part_of p bs)) (refused 13 p)) i
  name_by (int z) t x e g = let f = e ∙ string-is s d p (int z) t in no_way (cc)
  name_by (list vs) t x e g = let f = e ∙ string-is s d p (list vs) t in no_way (cc)
  name_by (dict es) t x e g = let f = e ∙ string-is s d p (dict es) t in no_way (cc)

  pub name-not : (v : Value) → Stands s d p v → (r o : ℕ) → refused r o ≡ string_of s p → refused r o ≡ name_at p v
  name-not (str bs) t r o e = let f : refused r o ≡ taken (part_of p bs) = e ∙ string-is s d p (str bs) t in no_way (cc)
  name-not (int z) t r o e = e ∙ string-is s d p (int z) t
  name-not (list vs) t r o e = e ∙ string-is s d p (list vs) t
  name-not (dict es) t r o e = e ∙ string-is s d p (dict es) t

  -- a string that is seen at p is the value there, and ends where it does
  string-ends : (v : Value) → Stands s d p v → (a m q : ℕ) → taken (string a m q) ≡ look_of s p → q ≡ p + length (encode v)
  unfolding encode
  string-ends (str bs) t a m q e = let f = e ∙ (string-stands s d p bs t).seen in cc
  string-ends (int z) t a m q e =
      by-test (λ (h : Head). taken (string a m q) ≡ taken h → q ≡ p + length (written_int z)) (in_range z) (λ i f. no_way (cc)) (λ o f. no_way (cc)) (e ∙ integer-stands s d p z t)
  string-ends (list vs) t a m q e = let f = e ∙ (list-stands s d p vs t).0 in no_way (cc)
  string-ends (dict es) t a m q e = let f = e ∙ (dictionary-stands s d p es t).0 in no_way (cc)

  -- no value is an end
  not_end : (v : Value) → Stands s d p v → (q : ℕ) → taken (end q) ≡ look_of s p → ⊥
  not_end v t q e =
      let f : taken true ≡ taken false = ap (λ (o : Outcome Head). then o (λ h. taken (is_end h))) e ∙ look_is s d p (λ h. taken (is_end h)) (λ w. taken false) (λ bs. refl) (λ z i. refl) (λ z o. refl) (λ vs. refl) (λ es. refl) v t in
      no_way (cc)

-- ---- the elements of a path

-- what is left at p of the elements that stand at `first`
pub record Elements (s : List ℕ) (d first p : ℕ) (vs : Items) : Type 0 where
  pub left : Items
  pub stands : StandItems s d p left
  pub same : elements_of p left ≡ elements_of first vs

abbrev pub Going : List ℕ → ℕ → ℕ → Type 0
Going s first p = (d : ℕ) → (vs : Items) → StandItems s d first vs → Elements s d first p vs

pub going_start : (s : List ℕ) (first : ℕ) → Going s first first
going_start s first d vs t = record { left = vs; stands = t; same = refl }

module _ (s : List ℕ) (first p : ℕ) (g : Going s first p) where
  -- a string that is seen goes further
  pub string-further : (a m q : ℕ) → taken (string a m q) ≡ look_of s p → (p < q) × (q ≤ length s)
  string-further a m q e = key-further s p a m q (ap (λ (o : Outcome Head). then o (as_entry p)) (sym e))

  pub going_more : (x : Part) (q : ℕ) → taken (string x.from x.len q) ≡ look_of s p → good_name (take x.len (drop x.from s)) ≡ true → Going s first q
  unfolding elements_of
  going_more x q e h d vs t = go (g d vs t).left (g d vs t).stands (g d vs t).same
    where
      go : (left : Items) → StandItems s d p left → elements_of p left ≡ elements_of first vs → Elements s d first q vs
      go none u i = let f = e ∙ items-end s d p u in no_way (cc)
      go (item v ws) u i =
          let n = items-next s d p v ws u in
          let f : taken x ≡ name_at p v = name_by s d p v n.0 x (ap (λ (o : Outcome Head). then o (string_in p)) e) h in
          let j : q ≡ p + length (encode v) = string-ends s d p v n.0 x.from x.len q e in
          record { left = ws; stands = rw j n.1; same = (rw (← f, ← j) at i) }

  stop-at : (r o : ℕ) → ((d : ℕ) (v : Value) → Stands s d p v → refused r o ≡ name_at p v) → ((q : ℕ) → taken (end q) ≡ look_of s p → ⊥) → (d : ℕ) (vs : Items) → StandItems s d first vs → refused r o ≡ map (λ q. q + 1) (elements_of first vs)
  unfolding elements_of
  stop-at r o h k d vs t = go (g d vs t).left (g d vs t).stands (g d vs t).same
    where
      go : (left : Items) → StandItems s d p left → elements_of p left ≡ elements_of first vs → refused r o ≡ map (λ q. q + 1) (elements_of first vs)
      go none u i = absurd (k (p + 1) (sym (items-end s d p u)))
      go (item v ws) u i = let n = items-next s d p v ws u in let k : refused r o ≡ elements_of first vs = (rw (← h d v n.0) at i) in ap (map (λ q. q + 1)) k

  pub going-bad : (x : Part) (q : ℕ) → taken (string x.from x.len q) ≡ look_of s p → good_name (take x.len (drop x.from s)) ≡ false → (d : ℕ) (vs : Items) → StandItems s d first vs → refused 13 p ≡ map (λ q. q + 1) (elements_of first vs)
  going-bad x q e h = stop-at 13 p (λ d v t. name_by s d p v t x (ap (λ (o : Outcome Head). then o (string_in p)) e) h) (λ i f. let z = e ∙ sym f in no_way (cc))

  -- anything but a string or an end
  pub going-not : (o : Outcome Head) → o ≡ look_of s p → (r q : ℕ) → then o (string_in p) ≡ refused r q → ((i : ℕ) → taken (end i) ≡ o → ⊥) → (d : ℕ) (vs : Items) → StandItems s d first vs → refused r q ≡ map (λ q. q + 1) (elements_of first vs)
  going-not o e r q f k = stop-at r q (λ d v t. name-not s d p v t r q (sym f ∙ ap (λ (x : Outcome Head). then x (string_in p)) e)) (λ i h. k i (h ∙ sym e))

  pub going_end : (q : ℕ) → taken (end q) ≡ look_of s p → (d : ℕ) (vs : Items) → StandItems s d first vs → taken q ≡ map (λ q. q + 1) (elements_of first vs)
  unfolding elements_of
  going_end q e d vs t = go (g d vs t).left (g d vs t).stands (g d vs t).same
    where
      go : (left : Items) → StandItems s d p left → elements_of p left ≡ elements_of first vs → taken q ≡ map (λ q. q + 1) (elements_of first vs)
      go none u i =
          let f : taken (end q) ≡ taken (end (p + 1)) = e ∙ items-end s d p u in
          let h : q ≡ p + 1 = cc in
          ap taken h ∙ ap (map (λ q. q + 1)) i
      go (item v ws) u i = absurd (not_end s d p v (items-next s d p v ws u).0 q e)

-- ---- a path

-- the place past the elements of a path is that of its e
elements-past : (p : ℕ) (vs : Items) (q : ℕ) → elements_of p vs ≡ taken q → q + 1 ≡ p + length (encode_items vs)
unfolding elements_of encode_items
elements-past p none q e = let f : p ≡ q = cc in omega arith
elements-past p (item v vs) q e = go (elements-past (p + length (encode v)) vs q) (name_at p v) e
  where
    go : (elements_of (p + length (encode v)) vs ≡ taken q → q + 1 ≡ p + length (encode v) + length (encode_items vs)) → (o : Outcome Part) → then o (λ x. elements_of (p + length (encode v)) vs) ≡ taken q → q + 1 ≡ p + length (encode v ++ encode_items vs)
    go more (taken x) f = omega (arith, more f, length-append (encode v) (encode_items vs))
    go more (refused r i) f = no_way (cc)

-- a path and the place past it
abbrev passing : ℕ → Value → Outcome (ℕ × ℕ)
passing p v = map (ending_at (p + length (encode v))) (path_at p v)

module _ (s : List ℕ) (d p : ℕ) where
  pub path-not : (v : Value) → Stands s d p v → (r o : ℕ) → refused r o ≡ list_of s p → refused r o ≡ passing p v
  path-not v t r o e = ap (map (ending_at (p + length (encode v)))) (not-then (λ vs. p + 1) (path_in p) (list_at_of p v) (e ∙ list-is s d p v t))

  module _ (first : ℕ) (e : taken first ≡ list_of s p) where
    pub path_empty : (v : Value) → Stands s d p v → closes (drop first s) ≡ true → refused 13 p ≡ passing p v
    path_empty (str bs) t c = let f = e ∙ list-is s d p (str bs) t in no_way (cc)
    path_empty (int z) t c = let f = e ∙ list-is s d p (int z) t in no_way (cc)
    path_empty (list none) t c = refl
    path_empty (list (item v vs)) t c =
        let f : taken first ≡ taken (p + 1) = e ∙ list-is s d p (list (item v vs)) t in
        let h : first ≡ p + 1 = cc in
        let l = (list-stands s d p (item v vs) t).1 in
        let k = closes-item s l.0 (p + 1) v vs l.2 in
        let m : closes (drop (p + 1) s) ≡ true = (rw h at c) in
        no_way (cc)
    path_empty (dict es) t c = let f = e ∙ list-is s d p (dict es) t in no_way (cc)

    module _ (o : Outcome ℕ) (h : (d : ℕ) → (vs : Items) → StandItems s d first vs → o ≡ map (λ q. q + 1) (elements_of first vs)) where
      pub path-some : (v : Value) → Stands s d p v → closes (drop first s) ≡ false → map (λ (q : ℕ). ending_at q first) o ≡ passing p v
      unfolding encode
      path-some (str bs) t c = let f = e ∙ list-is s d p (str bs) t in no_way (cc)
      path-some (int z) t c = let f = e ∙ list-is s d p (int z) t in no_way (cc)
      path-some (list none) t c =
          let f : taken first ≡ taken (p + 1) = e ∙ list-is s d p (list none) t in
          let i : first ≡ p + 1 = cc in
          let l = (list-stands s d p none t).1 in
          let k = closes-none s l.0 (p + 1) l.2 in
          let m : closes (drop (p + 1) s) ≡ false = (rw i at c) in
          no_way (cc)
      path-some (list (item v vs)) t c =
          let f : taken first ≡ taken (p + 1) = e ∙ list-is s d p (list (item v vs)) t in
          let i : first ≡ p + 1 = cc in
          let l = (list-stands s d p (item v vs) t).1 in
          let u : StandItems s l.0 first (item v vs) = rw i l.2 in
          ap (map (λ (q : ℕ). ending_at q first)) (h l.0 (item v vs) u)
          ∙ ap (λ (j : ℕ). map (λ (q : ℕ). ending_at q j) (map (λ q. q + 1) (elements_of j (item v vs)))) i
          ∙ go (elements_of (p + 1) (item v vs)) refl
        where
          go : (x : Outcome ℕ) → elements_of (p + 1) (item v vs) ≡ x → map (λ (q : ℕ). ending_at q (p + 1)) (map (λ q. q + 1) x) ≡ map (ending_at (p + suc (length (encode_items (item v vs))))) (map (λ (q : ℕ). p + 1) x)
          go (taken q) f =
              let g : q + 1 ≡ p + suc (length (encode_items (item v vs))) = elements-past (p + 1) (item v vs) q f ∙ omega arith in
              ap (λ (j : ℕ). taken (ending_at j (p + 1))) g
          go (refused r j) f = refl
      path-some (dict es) t c = let f = e ∙ list-is s d p (dict es) t in no_way (cc)

-- ---- as the code sees it

module _ (s : List ℕ) (first p : ℕ) (g : Going s first p) where
  pub going-other : refused 10 p ≡ string_of s p → taken false ≡ then (look_of s p) (λ h. taken (is_end h)) → (d : ℕ) (vs : Items) → StandItems s d first vs → refused 10 p ≡ map (λ q. q + 1) (elements_of first vs)
  going-other f k = going-not s first p g (look_of s p) refl 10 p (sym f) (λ i x. let y = k ∙ sym (ap (λ (o : Outcome Head). then o (λ h. taken (is_end h))) x) in no_way (cc))

  pub going-refused : (r o : ℕ) → refused r o ≡ look_of s p → (d : ℕ) (vs : Items) → StandItems s d first vs → refused r o ≡ map (λ q. q + 1) (elements_of first vs)
  going-refused r o e = going-not s first p g (refused r o) e r o refl (λ i x. no_way (cc))
