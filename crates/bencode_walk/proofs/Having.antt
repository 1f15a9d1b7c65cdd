-- What a dictionary has under a key, and what the search for that key finds. Assumes nothing.
use mathlib.Core.Path.{◌≡◌, refl, subst}
use mathlib.Core.Bool.{Bool, true, false, cond}
use mathlib.Core.List.{List}
use Prim.Native.Nat.{ℕ, ◌+◌}
use native.Mathlib.Omega.{arith}
use lib.ListN.{length}
use Rattle.refusal.proofs.Cases.{no_way}
use Rattle.bencode_scalar.specs.Written.{written_string, key_lt}
use Rattle.bencode_scalar.proofs.Ordering.{key-less}
use Rattle.bencode.specs.Value.{Value, Entries, empty, entry, encode, KeepsEntries, Prev, last}
use Rattle.bencode_walk.specs.Has.{Has, here, there}
use Rattle.bencode_walk.specs.Lookup.{same_key, Under, nothing, under, lookup}
use Rattle.bencode_walk.proofs.Finding.{same_refl, same_true, same_not}

-- what is found is there
pub found-has : (p : ℕ) (es : Entries) (k : List ℕ) (q : ℕ) (v : Value) → lookup p es k ≡ under q v → Has es k v
unfolding lookup
found-has p empty k q v e = no_way (cc)
found-has p (entry j w es) k q v e = go (found-has (p + length (written_string j) + length (encode w)) es k q v) (same_key j k) refl e
  where
    go : (lookup (p + length (written_string j) + length (encode w)) es k ≡ under q v → Has es k v) → (b : Bool) → same_key j k ≡ b
        → cond b (under (p + length (written_string j)) w) (lookup (p + length (written_string j) + length (encode w)) es k) ≡ under q v → Has (entry j w es) k v
    go more true s f =
        let x = same_true j k s in
        let y : w ≡ v = cc in
        subst (λ (i : List ℕ). Has (entry j w es) i v) x (subst (λ (u : Value). Has (entry j w es) j u) y (here j w es))
    go more false s f = there j w es k v (more f)

-- keys ascend, so a key that is there comes after the one before
later : (es : Entries) (k : List ℕ) (v : Value) (d : ℕ) (j : List ℕ) → Has es k v → KeepsEntries es d (last j) → key_lt j k ≡ true
unfolding KeepsEntries
later es k v d j (here i w ds) h = h.0
later es k v d j (there i w ds l u x) h = key-less j i l h.0 (later ds l u d i x h.2)

-- what is there is found
pub has-found : (p : ℕ) (es : Entries) (k : List ℕ) (v : Value) (d : ℕ) (before : Prev) → Has es k v → KeepsEntries es d before → (q : ℕ) × (lookup p es k ≡ under q v)
unfolding lookup KeepsEntries
has-found p es k v d before (here j w ds) h = (p + length (written_string j), rw (same_refl j))
has-found p es k v d before (there j w ds l u x) h =
    let r = has-found (p + length (written_string j) + length (encode w)) ds l u d (last j) x h.2 in
    (r.0, rw (same_not j l (later ds l u d j x h.2)) r.1)

pub none_has : (p : ℕ) (es : Entries) (k : List ℕ) (d : ℕ) (before : Prev) → KeepsEntries es d before → lookup p es k ≡ nothing → (v : Value) → Has es k v → ⊥
none_has p es k d before h e v x = let r = has-found p es k v d before x h in let g = r.1 in let z : ◌≡◌ {A = ℕ} 0 1 = cc in omega arith

pub has-none : (p : ℕ) (es : Entries) (k : List ℕ) → ((v : Value) → Has es k v → ⊥) → lookup p es k ≡ nothing
has-none p es k h = go (lookup p es k) refl
  where
    go : (u : Under) → lookup p es k ≡ u → u ≡ nothing
    go nothing e = refl
    go (under q v) e = absurd (h v (found-has p es k q v e))
