-- Where the entries of a dictionary stand, the search for a key finds the value under it, and goes on for later keys. Assumes nothing.
use mathlib.Core.Path.{◌≡◌, refl, ap, ◌∙◌}
use mathlib.Core.Bool.{Bool, true, false, cond}
use mathlib.Core.List.{List, [], ◌∷◌, ◌++◌}
use Prim.Native.Nat.{ℕ, zero, suc, ◌+◌, ◌<◌, ◌≤◌}
use native.Mathlib.Omega.{arith}
use lib.Dec.{eqb}
use lib.ListN.{length, length-append}
use borrow.Author.Tests.{eq-eqb, eqb-true}
use Rattle.refusal.specs.Paper.{Outcome, taken, then}
use Rattle.refusal.proofs.Cases.{no_way}
use Rattle.bencode_scalar.specs.Written.{written_string, key_lt}
use Rattle.bencode_scalar.proofs.Ordering.{key-same, key-irreflexive, key-less}
use Rattle.bencode.specs.Value.{Value, Entries, empty, entry, encode, encode_entries, KeepsEntries, Prev, last}
use Rattle.bencode_walk.specs.Walk.{NextEntry, skip_of, Hit, found, missing, seek_by, seek_of}
use Rattle.bencode_walk.specs.Stands.{Stands, StandEntries}
use Rattle.bencode_walk.specs.Lookup.{same_key, Under, nothing, under, lookup}
use Rattle.bencode_walk.proofs.Standing.{room, skip-past, entries-end, entries_next}
use Rattle.bencode_walk.proofs.Seeking.{key-further}

-- the search among entries that stand at p
unfoldable pub sought_of : ℕ → Entries → List ℕ → Hit
sought_of p empty k = missing p
sought_of p (entry j v es) k =
    let r : Hit = sought_of (p + length (written_string j) + length (encode v)) es k in
    cond (key_lt j k) r (cond (key_lt k j) (missing p) (found p (p + length (written_string j))))

module _ (s k : List ℕ) (d : ℕ) (levels : d ≤ 32) where
  seek-by : (f p : ℕ) (before : Prev) (es : Entries) → StandEntries s d p before es → length s < p + f → seek_of f s p k ≡ taken (sought_of p es k)
  unfolding seek_of sought_of encode_entries
  seek-by zero p before empty t h = absurd (omega (arith, room s p (101 ∷ []) t.rest t.inside t.text))
  seek-by zero p before (entry j v es) t h = absurd (omega (arith, t.inside))
  seek-by (suc f) p before empty t h = ap (λ (o : Outcome NextEntry). then o (seek_by s p k (λ q. seek_of f s q k))) (entries-end s d p before t)
  seek-by (suc f) p before (entry j v es) t h =
      let n = entries_next s d p before j v es t in
      let x = key-further s p n.from (length j) (p + length (written_string j)) n.seen in
      ap (λ (o : Outcome NextEntry). then o (seek_by s p k (λ q. seek_of f s q k))) n.seen
      ∙ ap (λ (i : List ℕ). cond (key_lt i k) (then (skip_of s (p + length (written_string j))) (λ q. seek_of f s q k)) (taken (cond (key_lt k i) (missing p) (found p (p + length (written_string j)))))) n.bytes
      ∙ ap (λ (o : Outcome ℕ). cond (key_lt j k) (then o (λ q. seek_of f s q k)) (taken (cond (key_lt k j) (missing p) (found p (p + length (written_string j)))))) (skip-past s d (p + length (written_string j)) v levels n.value)
      ∙ ap (λ (o : Outcome Hit). cond (key_lt j k) o (taken (cond (key_lt k j) (missing p) (found p (p + length (written_string j))))))
      (seek-by f (p + length (written_string j) + length (encode v)) (last j) es n.others (omega arith))
      ∙ go (key_lt j k)
    where
      go : (b : Bool) → cond b (taken (sought_of (p + length (written_string j) + length (encode v)) es k)) (taken (cond (key_lt k j) (missing p) (found p (p + length (written_string j)))))
          ≡ taken (cond b (sought_of (p + length (written_string j) + length (encode v)) es k) (cond (key_lt k j) (missing p) (found p (p + length (written_string j)))))
      go true = refl
      go false = refl

  -- `seek` on entries that stand at p
  pub seek-stands : (p : ℕ) (before : Prev) (es : Entries) → StandEntries s d p before es → seek_of (suc (length s)) s p k ≡ taken (sought_of p es k)
  seek-stands p before es t = seek-by (suc (length s)) p before es t (omega arith)

pub same_refl : (j : List ℕ) → same_key j j ≡ true
unfolding same_key
same_refl [] = refl
same_refl (x ∷ xs) = rw (eq-eqb x x refl, same_refl xs)

pub same_true : (j k : List ℕ) → same_key j k ≡ true → j ≡ k
unfolding same_key
same_true [] [] e = refl
same_true [] (y ∷ ys) e = no_way (cc)
same_true (x ∷ xs) [] e = no_way (cc)
same_true (x ∷ xs) (y ∷ ys) e = go (same_true xs ys) (eqb x y) refl e
  where
    go : (same_key xs ys ≡ true → xs ≡ ys) → (b : Bool) → eqb x y ≡ b → cond b (same_key xs ys) false ≡ true → x ∷ xs ≡ y ∷ ys
    go more true f g = let h : x ≡ y = eqb-true x y f in let i = more g in rw (h, i)
    go more false f g = no_way (cc)

-- a key that is before or after another is not the same
pub same_not : (j k : List ℕ) → key_lt j k ≡ true → same_key j k ≡ false
same_not j k h = go (same_key j k) refl
  where
    go : (b : Bool) → same_key j k ≡ b → b ≡ false
    go true e = let x = same_true j k e in let y : key_lt k k ≡ true = (rw x at h) in let z = key-irreflexive k in no_way (cc)
    go false e = refl

same-not-too : (j k : List ℕ) → key_lt k j ≡ true → same_key j k ≡ false
same-not-too j k h = go (same_key j k) refl
  where
    go : (b : Bool) → same_key j k ≡ b → b ≡ false
    go true e = let x = same_true j k e in let y : key_lt k k ≡ true = (rw x at h) in let z = key-irreflexive k in no_way (cc)
    go false e = refl

-- beyond a key that is after k, there is no k
pub lookup-none : (p : ℕ) (es : Entries) (j k : List ℕ) (d : ℕ) → KeepsEntries es d (last j) → key_lt k j ≡ true → lookup p es k ≡ nothing
unfolding lookup KeepsEntries
lookup-none p empty j k d h o = refl
lookup-none p (entry i v es) j k d h o =
    let x : key_lt k i ≡ true = key-less k j i o h.0 in
    rw (same-not-too i k x) (lookup-none (p + length (written_string i) + length (encode v)) es i k d h.2 x)

-- what the search says of the value under the key
pub data Says : Under → Hit → Type 0 where
  it-is : (p q : ℕ) (v : Value) → Says (under q v) (found p q)
  it-is-not : (p : ℕ) → Says nothing (missing p)

pub says : (p : ℕ) (es : Entries) (k : List ℕ) (d : ℕ) (before : Prev) → KeepsEntries es d before → Says (lookup p es k) (sought_of p es k)
unfolding lookup sought_of KeepsEntries
says p empty k d before h = it-is-not p
says p (entry j v es) k d before h = go (says (p + length (written_string j) + length (encode v)) es k d (last j) h.2) (key_lt j k) refl (key_lt k j) refl
  where
    go : Says (lookup (p + length (written_string j) + length (encode v)) es k) (sought_of (p + length (written_string j) + length (encode v)) es k) → (a : Bool) → key_lt j k ≡ a → (b : Bool) → key_lt k j ≡ b
        → Says (cond (same_key j k) (under (p + length (written_string j)) v) (lookup (p + length (written_string j) + length (encode v)) es k))
        (cond (key_lt j k) (sought_of (p + length (written_string j) + length (encode v)) es k) (cond (key_lt k j) (missing p) (found p (p + length (written_string j)))))
    go g true x b y = rw (x, same_not j k x) g
    go g false x true y = rw (x, y, same-not-too j k y, lookup-none (p + length (written_string j) + length (encode v)) es j k d h.2 y) (it-is-not p)
    go g false x false y = let e = key-same j k x y in let f : same_key j k ≡ true = (rw e (same_refl k)) in rw (x, y, f) (it-is p (p + length (written_string j)) v)

-- what is found stands there
pub found-stands : (s : List ℕ) (d p : ℕ) (before : Prev) (es : Entries) (k : List ℕ) → StandEntries s d p before es → (q : ℕ) (v : Value) → lookup p es k ≡ under q v → Stands s d q v
unfolding lookup
found-stands s d p before empty k t q v e = no_way (cc)
found-stands s d p before (entry j w es) k t q v e =
    let n = entries_next s d p before j w es t in
    go (same_key j k) e n.value (λ f. found-stands s d (p + length (written_string j) + length (encode w)) (last j) es k n.others q v f)
  where
    go : (b : Bool) → cond b (under (p + length (written_string j)) w) (lookup (p + length (written_string j) + length (encode w)) es k) ≡ under q v → Stands s d (p + length (written_string j)) w
        → (lookup (p + length (written_string j) + length (encode w)) es k ≡ under q v → Stands s d q v) → Stands s d q v
    go true f x y = let g : p + length (written_string j) ≡ q = cc in let h : w ≡ v = cc in (rw (g, h) at x)
    go false f x y = y f

abbrev pub place_of : Hit → ℕ
place_of (found p q) = p
place_of (missing p) = p

-- a search for a later key may go on where the one before stopped
pub record Resumes (s : List ℕ) (d : ℕ) (k : List ℕ) (p : ℕ) (es : Entries) (next : ℕ) : Type 0 where
  pub before : Prev
  pub left : Entries
  pub stands : StandEntries s d next before left
  pub same : (later : List ℕ) → key_lt k later ≡ true → lookup next left later ≡ lookup p es later

pub resumes : (s : List ℕ) (d p : ℕ) (before : Prev) (es : Entries) (k : List ℕ) → StandEntries s d p before es → Resumes s d k p es (place_of (sought_of p es k))
unfolding lookup sought_of
resumes s d p before empty k t = record { before = before; left = empty; stands = t; same = λ later h. refl }
resumes s d p before (entry j v es) k t = go (resumes s d (p + length (written_string j) + length (encode v)) (last j) es k (entries_next s d p before j v es t).others) (key_lt j k) refl (key_lt k j) refl
  where
    go : Resumes s d k (p + length (written_string j) + length (encode v)) es (place_of (sought_of (p + length (written_string j) + length (encode v)) es k)) → (a : Bool) → key_lt j k ≡ a → (b : Bool) → key_lt k j ≡ b
        → Resumes s d k p (entry j v es) (place_of (cond (key_lt j k) (sought_of (p + length (written_string j) + length (encode v)) es k) (cond (key_lt k j) (missing p) (found p (p + length (written_string j))))))
    go r true x b y = rw x (record { before = r.before; left = r.left; stands = r.stands; same = λ later h. r.same later h ∙ (let z = same_not j later (key-less j k later x h) in rw z) })
    go r false x true y = rw (x, y) (record { before = before; left = entry j v es; stands = t; same = λ later h. refl })
    go r false x false y = rw (x, y) (record { before = before; left = entry j v es; stands = t; same = λ later h. refl })

-- ---- past a value that was found

pub entry_length : (j : List ℕ) (v : Value) (es : Entries) → length (encode_entries (entry j v es)) ≡ length (written_string j) + (length (encode v) + length (encode_entries es))
unfolding encode
entry_length j v es = length-append (written_string j) (encode v ++ encode_entries es) ∙ ap (λ (n : ℕ). length (written_string j) + n) (length-append (encode v) (encode_entries es))

-- what is left past v, which stands at q under k: all later keys, up to the same end
pub record Beyond (s : List ℕ) (d p : ℕ) (es : Entries) (k : List ℕ) (q : ℕ) (v : Value) : Type 0 where
  pub left : Entries
  pub stands : StandEntries s d (q + length (encode v)) (last k) left
  pub same : (later : List ℕ) → key_lt k later ≡ true → lookup (q + length (encode v)) left later ≡ lookup p es later
  pub ends : q + length (encode v) + length (encode_entries left) ≡ p + length (encode_entries es)

pub beyond : (s : List ℕ) (d p : ℕ) (before : Prev) (es : Entries) (k : List ℕ) → StandEntries s d p before es → (q : ℕ) (v : Value) → lookup p es k ≡ under q v → Beyond s d p es k q v
unfolding lookup
beyond s d p before empty k t q v e = no_way (cc)
beyond s d p before (entry j w es) k t q v e =
    let n = entries_next s d p before j w es t in
    go (same_key j k) refl e n.others (λ f. beyond s d (p + length (written_string j) + length (encode w)) (last j) es k n.others q v f)
  where
    -- a key that is found after j is not before it
    not-here : lookup (p + length (written_string j) + length (encode w)) es k ≡ under q v → KeepsEntries es d (last j) → (later : List ℕ) → key_lt k later ≡ true → (b : Bool) → same_key j later ≡ b → b ≡ false
    not-here f h later i true g =
        let x = same_true j later g in
        let y : key_lt k j ≡ true = rw x i in
        let z = lookup-none (p + length (written_string j) + length (encode w)) es j k d h y in
        no_way (cc)
    not-here f h later i false g = refl

    go : (b : Bool) → same_key j k ≡ b → cond b (under (p + length (written_string j)) w) (lookup (p + length (written_string j) + length (encode w)) es k) ≡ under q v
        → StandEntries s d (p + length (written_string j) + length (encode w)) (last j) es
        → (lookup (p + length (written_string j) + length (encode w)) es k ≡ under q v → Beyond s d (p + length (written_string j) + length (encode w)) es k q v) → Beyond s d p (entry j w es) k q v
    go true g f o r =
        let x : p + length (written_string j) ≡ q = cc in
        let y : w ≡ v = cc in
        let z : j ≡ k = same_true j k g in
        rw (← x, ← y, ← z) (record {
          left = es;
          stands = o;
          same = λ later i. (let m = same_not j later i in rw m);
          ends = omega (arith, entry_length j w es);
        })
    go false g f o r =
        let m = r f in
        record {
          left = m.left;
          stands = m.stands;
          same = λ later i. m.same later i ∙ (let n = not-here f o.keeps later i (same_key j later) refl in rw n);
          ends = m.ends ∙ omega (arith, entry_length j w es);
        }
