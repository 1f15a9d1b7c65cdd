-- What a check of a torrent's rules that is taken says of the value it looked at. Assumes nothing.
use Rattle.std.proofs.Common.{◌≡◌, refl, sym, ap, ◌∙◌, Bool, true, false, cond, List, ℕ, ◌+◌, ◌≤◌, arith, leb-true, leb, pos, negsuc, length}
use Rattle.refusal.specs.Paper.{Outcome, taken, refused}
use Rattle.refusal.specs.declared.Part.{Part}
use Rattle.refusal.proofs.Outcomes.{then-taken, map-taken}
use Rattle.bencode_scalar.specs.Written.{written_string}
use Rattle.bencode.specs.Value.{Value, Items, Entries, str, int, list, dict, none, item, empty, entry, encode}
use Rattle.bencode_walk.specs.Lookup.{Under, nothing, under, lookup, same_key}
use Rattle.bencode_fields.specs.Values.{part_of, natural_at, list_at_of, dictionary_at, must}
use Rattle.torrent_metainfo.specs.Rules.{provided, good_name, name_at, elements_of, path_in, path_at}
use Rattle.torrent_metainfo.proofs.Naming.{no_way}
use Rattle.torrent_lines.specs.Lines.{found}

-- ---- one check and then another

module _ {A : Type 0} where
  pub provided-taken : (b : Bool) (n p : ℕ) (o : Outcome A) (y : A) → provided b n p o ≡ taken y → (b ≡ true) × (o ≡ taken y)
  provided-taken true n p o y e = (refl, e)
  provided-taken false n p o y e = no_way (cc)

  pub must-taken : (d : ℕ) (u : Under) (f : ℕ → Value → Outcome A) (y : A) → must d u f ≡ taken y → (q : ℕ) × (v : Value) × (u ≡ under q v) × (f q v ≡ taken y)
  must-taken d nothing f y e = no_way (cc)
  must-taken d (under q v) f y e = (q, v, refl, e)

-- ---- kinds

pub number-taken : (most p : ℕ) (v : Value) (n : ℕ) → natural_at most p v ≡ taken n → (v ≡ int (pos n)) × (n ≤ most)
number-taken most p (str bs) n e = no_way (cc)
number-taken most p (int (pos m)) n e = go (leb m most) refl e
  where
    go : (b : Bool) → leb m most ≡ b → ◌≡◌ {A = Outcome ℕ} (cond b (taken m) (refused 11 p)) (taken n) → (int (pos m) ≡ int (pos n)) × (n ≤ most)
    go true f h = let i : m ≡ n = cc in (ap (λ (x : ℕ). int (pos x)) i, omega (arith, leb-true m most f))
    go false f h = no_way (cc)
number-taken most p (int (negsuc m)) n e = no_way (cc)
number-taken most p (list vs) n e = no_way (cc)
number-taken most p (dict es) n e = no_way (cc)

pub list-taken : (p : ℕ) (v : Value) (vs : Items) → list_at_of p v ≡ taken vs → v ≡ list vs
list-taken p (str bs) vs e = no_way (cc)
list-taken p (int z) vs e = no_way (cc)
list-taken p (list us) vs e = cc
list-taken p (dict es) vs e = no_way (cc)

pub dictionary-taken : (p : ℕ) (v : Value) (es : Entries) → dictionary_at p v ≡ taken es → v ≡ dict es
dictionary-taken p (str bs) es e = no_way (cc)
dictionary-taken p (int z) es e = no_way (cc)
dictionary-taken p (list vs) es e = no_way (cc)
dictionary-taken p (dict ws) es e = cc

-- ---- names and paths

pub name-taken : (p : ℕ) (v : Value) (x : Part) → name_at p v ≡ taken x → (bs : List ℕ) × (v ≡ str bs) × (part_of p bs ≡ x)
name-taken p (str bs) x e = let h = provided-taken (good_name bs) 13 p (taken (part_of p bs)) x e in (bs, refl, cc)
name-taken p (int z) x e = no_way (cc)
name-taken p (list vs) x e = no_way (cc)
name-taken p (dict es) x e = no_way (cc)

pub element-taken : (p : ℕ) (v : Value) (vs : Items) (q : ℕ) → elements_of p (item v vs) ≡ taken q → (bs : List ℕ) × (v ≡ str bs) × (elements_of (p + length (encode v)) vs ≡ taken q)
unfolding elements_of
element-taken p v vs q e =
    let t = then-taken (name_at p v) (λ x. elements_of (p + length (encode v)) vs) q e in
    let n = name-taken p v t.0 t.1 in
    (n.0, n.1, t.2)

-- the place of its first element, and the elements, of which there is one
pub path-taken : (p : ℕ) (v : Value) (a : ℕ) → path_at p v ≡ taken a
    → (x : Value) × (xs : Items) × (q : ℕ) × (v ≡ list (item x xs)) × (a ≡ p + 1) × (elements_of (p + 1) (item x xs) ≡ taken q)
path-taken p v a e = let t = then-taken (list_at_of p v) (path_in p) a e in go t.0 (list-taken p v t.0 t.1) t.2
  where
    go : (vs : Items) → v ≡ list vs → path_in p vs ≡ taken a → (x : Value) × (xs : Items) × (q : ℕ) × (v ≡ list (item x xs)) × (a ≡ p + 1) × (elements_of (p + 1) (item x xs) ≡ taken q)
    go none f h = no_way (cc)
    go (item x xs) f h = let m = map-taken (λ q. p + 1) (elements_of (p + 1) (item x xs)) a h in (x, xs, m.0, f, sym m.2, m.1)

-- ---- a value under a key is the same wherever its dictionary stands

pub found-any : (p q : ℕ) (es : Entries) (k : List ℕ) → found (lookup p es k) ≡ found (lookup q es k)
unfolding lookup
found-any p q empty k = refl
found-any p q (entry j v es) k = go (same_key j k) (found-any (p + length (written_string j) + length (encode v)) (q + length (written_string j) + length (encode v)) es k)
  where
    go : (b : Bool) → found (lookup (p + length (written_string j) + length (encode v)) es k) ≡ found (lookup (q + length (written_string j) + length (encode v)) es k)
        → found (cond b (under (p + length (written_string j)) v) (lookup (p + length (written_string j) + length (encode v)) es k))
        ≡ found (cond b (under (q + length (written_string j)) v) (lookup (q + length (written_string j) + length (encode v)) es k))
    go true e = refl
    go false e = e

pub found-is : (p q : ℕ) (es : Entries) (k : List ℕ) (v : Value) → lookup p es k ≡ under q v → found (lookup 0 es k) ≡ v
found-is p q es k v e = found-any 0 p es k ∙ ap found e
