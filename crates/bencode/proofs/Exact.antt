-- Decode-exact: a text is taken for a value exactly when it is that value as BEP 3 writes it and the value keeps the limits. Assumes nothing.
use Rattle.std.specs.Prelude.{Err, Ok, Result}
use mathlib.Core.Path.{◌≡◌, refl, sym, ap, ◌∙◌, subst}
use mathlib.Core.Bool.{Bool, true, false, cond}
use mathlib.Core.List.{List, [], ◌∷◌, ◌++◌, append-nil}
use Prim.Native.Nat.{ℕ, ◌+◌, ◌<◌, ◌≤◌}
use native.Mathlib.Omega.{arith}
use lib.Dec.{ltb}
use lib.ListN.{length, drop, drop_of_length-le}
use lib.Seq.{drop-cons}
use borrow.Author.Tests.{lt-ltb, le-ltb, ltb-false}
use Rattle.refusal.specs.Paper.{paper, Outcome, taken, refused, map}
use Rattle.refusal.specs.Numbers.{after, long}
use Rattle.refusal.specs.declared.Refusal.{Refusal}
use Rattle.bencode_scalar.specs.Reading.{Got, got, bad}
use Rattle.bencode_scalar.proofs.Sound.{Holds}
use Rattle.bencode.specs.Value.{Value, encode, count, Keeps}
use Rattle.bencode.specs.Decode.{value_from, whole_of, decode}
use Rattle.bencode.specs.Answers.{check_of, step_of}
use Rattle.bencode.specs.Exact.{Fine, Exactly}
use Rattle.bencode.specs.declared.Cursor.{Cursor}
use Rattle.bencode.proofs.Sound.{Took, value-sound}
use Rattle.bencode.proofs.Complete.{complete}
use Rattle.bencode.proofs.Turns.{past-got, bad-got}

-- what an outcome says of its text
abbrev Says : List ℕ → Outcome Value → Type 0
Says s (taken v) = Fine s v
Says s (refused r p) = Unit

got-says : (s : List ℕ) → length s ≤ 1048576 → (g : Got Value) → Holds (Took s 32 0 0) g → Says s (whole_of g)
got-says s h (bad r p) t = tt
got-says s h (got v [] q m) t = record { text = t.at.text ∙ append-nil (encode v); keeps = t.keeps; few = omega (arith, t.counted, t.few); short = h }
got-says s h (got v (b ∷ l) q m) t = tt

decode-says : (s : List ℕ) → Says s (decode s)
unfolding decode
decode-says s = go (ltb 1048576 (length s)) refl
  where
    go : (b : Bool) → ltb 1048576 (length s) ≡ b → Says s (cond b (refused long 0) (whole_of (value_from 32 (length s) s 0 0)))
    go true e = tt
    go false e = got-says s (ltb-false 1048576 (length s) e) (value_from 32 (length s) s 0 0) (value-sound 32 (length s) s 0 0 (omega arith))

encoded : (v : Value) → Keeps v 32 → count v ≤ 16384 → length (encode v) ≤ 1048576 → decode (encode v) ≡ taken v
unfolding decode
encoded v k f h =
    let a : encode v ++ [] ≡ encode v = append-nil (encode v) in
    let c : value_from 32 (length (encode v)) (encode v ++ []) 0 0 ≡ got v [] (0 + length (encode v)) (0 + count v) = complete v 32 (length (encode v)) [] 0 0 k (omega (arith, ap length a)) (omega arith) in
    let d : value_from 32 (length (encode v)) (encode v) 0 0 ≡ got v [] (0 + length (encode v)) (0 + count v) = ap (λ (l : List ℕ). value_from 32 (length (encode v)) l 0 0) (sym a) ∙ c in
    rw (le-ltb 1048576 (length (encode v)) h, d)

-- taken as v exactly when the text is the encoding of v and v keeps the limits
pub taken_fine : (s : List ℕ) (v : Value) → decode s ≡ taken v → Fine s v
taken_fine s v e = subst (Says s) e (decode-says s)

pub fine-taken : (s : List ℕ) (v : Value) → Fine s v → decode s ≡ taken v
fine-taken s v f = ap decode f.text ∙ encoded v f.keeps f.few (omega (arith, ap length f.text, f.short))

-- encode is injective on the values that keep the limits
pub encode_injective : (v w : Value) → Fine (encode v) v → Keeps w 32 → count w ≤ 16384 → encode v ≡ encode w → v ≡ w
encode_injective v w f k n e =
    let x : decode (encode v) ≡ taken v = fine-taken (encode v) v f in
    let y : decode (encode v) ≡ taken w = fine-taken (encode v) w (record { text = e; keeps = k; few = n; short = f.short }) in
    cc

only-by : (s : List ℕ) (n : ℕ) (o : Outcome Value) → Says s o → map count o ≡ taken n → (v : Value) × Fine s v × (count v ≡ n)
only-by s n (taken v) h e = (v, h, cc)
only-by s n (refused r p) h e = absurd (let z : ◌≡◌ {A = ℕ} 0 1 = cc in omega arith)

pub exactly : (s : List ℕ) → Exactly s (check_of s)
exactly s = record { only = λ n e. only-by s n (decode s) (decode-says s) e; every = λ v f. ap (map count) (fine-taken s v f) }

-- both clauses of `check` from its outcome
pub exactly-as : (s : List ℕ) (o : Outcome ℕ) → o ≡ check_of s → (o ≡ check_of s) × Exactly s o
exactly-as s o e = (e, subst (Exactly s) (sym e) (exactly s))

-- what the code goes through for a whole text
pub check-long : (s : List ℕ) → 1048576 < length s → refused long 0 ≡ check_of s
unfolding decode
check-long s h = rw (lt-ltb 1048576 (length s) h)

module _ (s : List ℕ) (h : length s ≤ 1048576) where
  pub check-bad : (r : Refusal) → Err r ≡ step_of (value_from 32 (length s) s 0 0) → paper (Err r) ≡ check_of s
  unfolding decode
  check-bad r e = rw (le-ltb 1048576 (length s) h, bad-got (value_from 32 (length s) s 0 0) r e)

  taken-with : (v : Value) (p m : ℕ) → value_from 32 (length s) s 0 0 ≡ got v (drop p s) p m → m ≡ count v → length s ≤ p → taken m ≡ check_of s
  unfolding decode
  taken-with v p m e k l = rw (le-ltb 1048576 (length s) h, e, drop_of_length-le s l, k)

  more-with : (v : Value) (p m : ℕ) → value_from 32 (length s) s 0 0 ≡ got v (drop p s) p m → p < length s → refused after p ≡ check_of s
  unfolding decode
  more-with v p m e l = rw (le-ltb 1048576 (length s) h, e, drop-cons s p 0 l)

  module _ (c : Cursor) (e : Ok c ≡ step_of (value_from 32 (length s) s 0 0)) where
    pub check-more : c.at < length s → refused after c.at ≡ check_of s
    check-more l = let w = past-got s 32 0 0 (omega arith) c e in more-with w.what c.at c.count w.is l

    pub check-taken : length s ≤ c.at → taken c.count ≡ check_of s
    check-taken l = let w = past-got s 32 0 0 (omega arith) c e in taken-with w.what c.at c.count w.is (omega (arith, w.counted)) l

-- two answers that the contract permits for one text are the same
pub paper-tells : (r t : Result ℕ Refusal) → paper r ≡ paper t → r ≡ t
paper-tells (Ok m) (Ok n) e = cc
paper-tells (Ok m) (Err q) e = absurd (let z : ◌≡◌ {A = ℕ} 0 1 = cc in omega arith)
paper-tells (Err q) (Ok n) e = absurd (let z : ◌≡◌ {A = ℕ} 0 1 = cc in omega arith)
paper-tells (Err q) (Err r) e =
    let x : q.number ≡ r.number = cc in
    let y : q.place ≡ r.place = cc in
    rw (x, y)

pub check-determined : (s : List ℕ) (r t : Result ℕ Refusal) → paper r ≡ check_of s → paper t ≡ check_of s → r ≡ t
check-determined s r t e f = paper-tells r t (e ∙ sym f)
