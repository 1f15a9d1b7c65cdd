-- What the value at a place p of a text s, and the turns of a list and of a dictionary, come to as the code goes through them. Assumes nothing.
use Rattle.std.specs.Prelude.{Err, Ok, Result, Option, Some, None}
use mathlib.Core.Path.{◌≡◌, refl, sym, ap, ◌∙◌, subst}
use mathlib.Core.Bool.{Bool, true, false, cond}
use mathlib.Core.List.{List, [], ◌∷◌}
use Prim.Native.Nat.{ℕ, zero, suc, ◌+◌, ◌-◌, ◌%◌, ◌^◌, ◌<◌, ◌≤◌}
use native.Mathlib.Omega.{arith}
use lib.Dec.{ltb, eqb}
use lib.IntN.{ℤ}
use lib.ListN.{length, get_or, take, drop, length-append, length-drop, drop_of_length-le}
use lib.Seq.{drop-drop, drop-append_seam}
use borrow.Author.Tests.{lt-ltb, le-ltb, ne_eqb, eqb-true, eqb-false}
use Rattle.refusal.specs.Numbers.{cut, byte, order, deep, many}
use Rattle.refusal.specs.Limits.{most_values}
use Rattle.refusal.specs.declared.Refusal.{Refusal}
use Rattle.refusal.proofs.Cases.{by-test, no_way}
use Rattle.bencode_scalar.specs.Written.{decimal, written_string, in_range}
use Rattle.bencode_scalar.specs.Reading.{Got, got, bad, and_then, map_got, is_digit, string_of, string_at, integer_of, integer_at}
use Rattle.bencode_scalar.specs.Answers.{text_of, integer_is}
use Rattle.bencode_scalar.specs.declared.Int.{Int}
use Rattle.bencode_scalar.specs.declared.Int.TheVariants.{Is, Large}
use Rattle.bencode_scalar.proofs.Forms.{at_head, at_byte}
use Rattle.bencode_scalar.proofs.Sound.{Holds, At as Stood, at_left, IntP, integer-at-sound}
use Rattle.bencode.specs.Value.{Value, Items, Entries, str, int, list, dict, item, entry, count, Prev, start, last, follows}
use Rattle.bencode.specs.Decode.{Kind, digit, letter_i, letter_l, letter_d, other, kind_of, begun, value_by, closes, items_of, ordered, key_of, entries_of, value_from}
use Rattle.bencode.specs.Answers.{step_of, Inside, prev_of, key_is, told, inside}
use Rattle.bencode.specs.declared.Cursor.{Cursor}
use Rattle.refusal.specs.declared.Part.{Part}
use Rattle.bencode.proofs.Sound.{Took, value-sound, KeyP, key-sound}
use Rattle.bencode.proofs.Complete.{encode-pos, kind-digit}

pub step_map : {A B : Type 0} (f : A → B) (g : Got A) → step_of (map_got f g) ≡ step_of g
step_map f (got v l q m) = refl
step_map f (bad r q) = refl

-- a step told by a number and what is left in a cell
pub told-past : (r n : ℕ) → r < 2 ^ 63 → told r n ≡ Ok (record { at = r; count = n })
unfolding told
told-past r n h = rw (lt-ltb r (2 ^ 63) h)

pub told-bad : (r n : ℕ) → 2 ^ 63 ≤ r → told r n ≡ Err (record { number = r % 256; place = n })
unfolding told
told-bad r n h = rw (le-ltb r (2 ^ 63) h)

pub told-number : (r p : ℕ) → r < 256 → told (9223372036854775808 + r) p ≡ Err (record { number = r; place = p })
told-number r p h =
    let e : (9223372036854775808 + r) % 256 ≡ r = omega arith in
    told-bad (9223372036854775808 + r) p (omega arith) ∙ rw e

pub told-on : {r n : ℕ} {t : Result Cursor Refusal} → r < 2 ^ 63 → told r n ≡ t → Ok (record { at = r; count = n }) ≡ t
told-on {r} {n} h e = sym (told-past r n h) ∙ e

pub told-off : (r n : ℕ) {t u : Result Cursor Refusal} → 2 ^ 63 ≤ r → told r n ≡ t → ((b : Refusal) → Err b ≡ t → Err b ≡ u) → told r n ≡ u
told-off r n h e f = told-bad r n h ∙ f (record { number = r % 256; place = n }) (sym (told-bad r n h) ∙ e)

-- what was read at p, as the code's answer tells it
pub record Read (s : List ℕ) (d p n : ℕ) (c : Cursor) (g : Got Value) : Type 0 where
  pub what : Value
  pub is : g ≡ got what (drop c.at s) c.at c.count
  pub further : p < c.at
  pub counted : c.count ≡ n + count what

rest-is : (s : List ℕ) {r w : List ℕ} {p q : ℕ} → Stood (drop p s) p r q w → r ≡ drop q s
rest-is s {r} {w} {p} {q} a = sym (ap (λ (i : ℕ). drop i s) a.place ∙ sym (drop-drop (length w) p s) ∙ ap (drop (length w)) a.text ∙ drop-append_seam w r)

past_by : (s : List ℕ) (d p n : ℕ) (c : Cursor) (g : Got Value) → Ok c ≡ step_of g → Holds (Took (drop p s) d p n) g → Read s d p n c g
past_by s d p n c (got v r q m) e h =
    let x : q ≡ c.at = cc in
    let y : m ≡ c.count = cc in
    record { what = v; is = rw (rest-is s h.at, x, y); further = omega (arith, h.at.place, encode-pos v); counted = omega (arith, h.counted) }
past_by s d p n c (bad r q) e h = no_way (cc)

pub past-got : (s : List ℕ) (d p n : ℕ) → p ≤ length s → (c : Cursor) → Ok c ≡ step_of (value_from d (length s) (drop p s) p n) → Read s d p n c (value_from d (length s) (drop p s) p n)
past-got s d p n h c e = past_by s d p n c (value_from d (length s) (drop p s) p n) e (value-sound d (length s) (drop p s) p n (omega (arith, length-drop p s)))

inside-by : (s : List ℕ) (d p n : ℕ) → p ≤ length s → length s < 2 ^ 63 → (g : Got Value) → Holds (Took (drop p s) d p n) g → inside (step_of g)
inside-by s d p n h k (got v r q m) w =
    let z : q + length r ≡ length s = at_left w.at (omega (arith, length-drop p s)) in
    omega arith
inside-by s d p n h k (bad r q) w = tt

-- a value ends within the text, so that the number of its place is below 2 ^ 63
pub value-inside : (s : List ℕ) (d p n : ℕ) → p ≤ length s → length s < 2 ^ 63 → (t : Result Cursor Refusal) → t ≡ step_of (value_from d (length s) (drop p s) p n) → inside t
value-inside s d p n h k t e = subst inside (sym e) (inside-by s d p n h k (value_from d (length s) (drop p s) p n) (value-sound d (length s) (drop p s) p n (omega (arith, length-drop p s))))

pub bad-got : {A : Type 0} (g : Got A) (r : Refusal) → Err r ≡ step_of g → g ≡ bad r.number r.place
bad-got (got v l p m) r e = no_way (cc)
bad-got (bad a b) r e =
    let x : a ≡ r.number = cc in
    let y : b ≡ r.place = cc in
    rw (x, y)

-- what a byte begins
pub kind-I : (b : ℕ) → b ≡ 105 → kind_of b ≡ letter_i
unfolding kind_of
kind-I b x = rw x

pub kind-L : (b : ℕ) → b ≡ 108 → kind_of b ≡ letter_l
unfolding kind_of
kind-L b x = rw x

pub kind-D : (b : ℕ) → b ≡ 100 → kind_of b ≡ letter_d
unfolding kind_of
kind-D b x = rw x

pub kind-last : (b : ℕ) → (b ≡ 105 → ⊥) → (b ≡ 108 → ⊥) → (b ≡ 100 → ⊥) → begun (kind_of b) ≡ is_digit b
unfolding kind_of
kind-last b x y z = rw (ne_eqb _ _ x, ne_eqb _ _ y, ne_eqb _ _ z) (go (is_digit b) refl)
  where
    go : (t : Bool) → is_digit b ≡ t → begun (cond (is_digit b) digit other) ≡ is_digit b
    go true e = rw e
    go false e = rw e

-- neither an integer nor a string
open_by : (b : ℕ) → begun (kind_of b) ≡ true → (b ≡ 105 → ⊥) → is_digit b ≡ false → (b ≡ 108 → ⊥) → (t : Bool) → eqb b 100 ≡ t → kind_of b ≡ letter_d
open_by b h x d y true e = kind-D b (eqb-true b 100 e)
open_by b h x d y false e = no_way (cc (kind-last b x y (eqb-false b 100 e)))

pub kind-open : (b : ℕ) → begun (kind_of b) ≡ true → (b ≡ 105 → ⊥) → is_digit b ≡ false → (b ≡ 108 → ⊥) → kind_of b ≡ letter_d
kind-open b h x d y = open_by b h x d y (eqb b 100) refl

-- a list or dictionary with no level left
abbrev pub Opens : Kind → Type 0
Opens digit = ⊥
Opens letter_i = ⊥
Opens letter_l = Unit
Opens letter_d = Unit
Opens other = ⊥

opens_by : (b : ℕ) → begun (kind_of b) ≡ true → (b ≡ 105 → ⊥) → is_digit b ≡ false → (t : Bool) → eqb b 108 ≡ t → Opens (kind_of b)
opens_by b h x d true e = subst Opens (sym (kind-L b (eqb-true b 108 e))) tt
opens_by b h x d false e = subst Opens (sym (kind-open b h x d (eqb-false b 108 e))) tt

pub kind-opens : (b : ℕ) → begun (kind_of b) ≡ true → (b ≡ 105 → ⊥) → is_digit b ≡ false → Opens (kind_of b)
kind-opens b h x d = opens_by b h x d (eqb b 108) refl

module _ (s : List ℕ) (p n : ℕ) where
  abbrev here : ℕ → Result Cursor Refusal
  here d = step_of (value_from d (length s) (drop p s) p n)

  pub value_out : (d : ℕ) → length s ≤ p → value_from d (length s) (drop p s) p n ≡ bad cut (length s)
  unfolding value_from
  value_out zero h = rw (drop_of_length-le s h)
  value_out (suc d) h = rw (drop_of_length-le s h)

  wrong-by : (k : Kind) (ls : List ℕ → ℕ → ℕ → Got Items) (ds : List ℕ → ℕ → ℕ → Got Entries) → begun k ≡ false → value_by k ls ds (length s) (get_or s p 0) (drop (p + 1) s) p n ≡ bad byte p
  wrong-by other ls ds x = refl
  wrong-by digit ls ds x = no_way (cc)
  wrong-by letter_i ls ds x = no_way (cc)
  wrong-by letter_l ls ds x = no_way (cc)
  wrong-by letter_d ls ds x = no_way (cc)

  many_by : (k : Kind) (ls : List ℕ → ℕ → ℕ → Got Items) (ds : List ℕ → ℕ → ℕ → Got Entries) → begun k ≡ true → 16384 ≤ n → value_by k ls ds (length s) (get_or s p 0) (drop (p + 1) s) p n ≡ bad many p
  many_by other ls ds x h = no_way (cc)
  many_by digit ls ds x h = rw (le-ltb n 16384 h)
  many_by letter_i ls ds x h = rw (le-ltb n 16384 h)
  many_by letter_l ls ds x h = rw (le-ltb n 16384 h)
  many_by letter_d ls ds x h = rw (le-ltb n 16384 h)

  deep-by : (k : Kind) → Opens k → n < 16384 → value_by k (λ r q m. bad deep p) (λ r q m. bad deep p) (length s) (get_or s p 0) (drop (p + 1) s) p n ≡ bad deep p
  deep-by other x h = absurd x
  deep-by digit x h = absurd x
  deep-by letter_i x h = absurd x
  deep-by letter_l x h = rw (lt-ltb n 16384 h)
  deep-by letter_d x h = rw (lt-ltb n 16384 h)

  module _ (l : p < length s) where
    pub value-wrong : (d : ℕ) → begun (kind_of (get_or s p 0)) ≡ false → value_from d (length s) (drop p s) p n ≡ bad byte p
    unfolding value_from
    value-wrong zero e = rw (at_head s p l) (wrong-by (kind_of (get_or s p 0)) _ _ e)
    value-wrong (suc d) e = rw (at_head s p l) (wrong-by (kind_of (get_or s p 0)) _ _ e)

    pub value-many : (d : ℕ) → begun (kind_of (get_or s p 0)) ≡ true → 16384 ≤ n → value_from d (length s) (drop p s) p n ≡ bad many p
    unfolding value_from
    value-many zero e h = rw (at_head s p l) (many_by (kind_of (get_or s p 0)) _ _ e h)
    value-many (suc d) e h = rw (at_head s p l) (many_by (kind_of (get_or s p 0)) _ _ e h)

    pub value-deep : (d : ℕ) → d ≡ 0 → Opens (kind_of (get_or s p 0)) → n < 16384 → value_from d (length s) (drop p s) p n ≡ bad deep p
    unfolding value_from
    value-deep zero x e h = rw (at_head s p l) (deep-by (kind_of (get_or s p 0)) e h)
    value-deep (suc d) x e h = absurd (omega arith)

    pub value-int : (d : ℕ) → get_or s p 0 ≡ 105 → n < 16384 → step_of (integer_at (length s) (drop p s) p (n + 1)) ≡ here d
    unfolding value_from
    value-int zero e h = rw (at_byte s p 105 l e, kind-I 105 refl, lt-ltb n 16384 h) (sym (step_map int (integer_of (length s) (drop (p + 1) s) (p + 1) (n + 1))))
    value-int (suc d) e h = rw (at_byte s p 105 l e, kind-I 105 refl, lt-ltb n 16384 h) (sym (step_map int (integer_of (length s) (drop (p + 1) s) (p + 1) (n + 1))))

    pub value-str : (d : ℕ) → is_digit (get_or s p 0) ≡ true → n < 16384 → step_of (string_at (length s) (drop p s) p (n + 1)) ≡ here d
    unfolding value_from
    value-str zero e h = rw (at_head s p l, e, kind-digit (get_or s p 0) e, lt-ltb n 16384 h) (sym (step_map str (string_of (length s) (get_or s p 0) (drop (p + 1) s) p (n + 1))))
    value-str (suc d) e h = rw (at_head s p l, e, kind-digit (get_or s p 0) e, lt-ltb n 16384 h) (sym (step_map str (string_of (length s) (get_or s p 0) (drop (p + 1) s) p (n + 1))))

    pub value-list : (d : ℕ) → (d ≡ 0 → ⊥) → kind_of (get_or s p 0) ≡ letter_l → n < 16384
        → step_of (items_of (suc (length s)) (value_from (d - 1) (length s)) (length s) (drop (p + 1) s) (p + 1) (n + 1)) ≡ here d
    unfolding value_from
    value-list zero x e h = absurd (x refl)
    value-list (suc d) x e h =
        let y : suc d - 1 ≡ d = omega arith in
        rw (y, at_head s p l, e, lt-ltb n 16384 h) (sym (step_map list (items_of (suc (length s)) (value_from d (length s)) (length s) (drop (p + 1) s) (p + 1) (n + 1))))

    pub value-dict : (d : ℕ) → (d ≡ 0 → ⊥) → kind_of (get_or s p 0) ≡ letter_d → n < 16384
        → step_of (entries_of (suc (length s)) (value_from (d - 1) (length s)) (length s) start (drop (p + 1) s) (p + 1) (n + 1)) ≡ here d
    unfolding value_from
    value-dict zero x e h = absurd (x refl)
    value-dict (suc d) x e h =
        let y : suc d - 1 ≡ d = omega arith in
        rw (y, at_head s p l, e, lt-ltb n 16384 h) (sym (step_map dict (entries_of (suc (length s)) (value_from d (length s)) (length s) start (drop (p + 1) s) (p + 1) (n + 1))))

-- whether a list or dictionary ends at p
closes-no : (s : List ℕ) (p : ℕ) → p < length s → (get_or s p 0 ≡ 101 → ⊥) → closes (drop p s) ≡ false
closes-no s p l x = rw (at_head s p l, ne_eqb _ _ x)

closes-out : (s : List ℕ) (p : ℕ) → length s ≤ p → closes (drop p s) ≡ false
closes-out s p h = rw (drop_of_length-le s h)

-- the turns of a list: `left` is what is left of the bound on their number
pub record ListTurn (s : List ℕ) (d p₀ n₀ p n : ℕ) : Type 0 where
  pub left : ℕ
  pub enough : length s < p + left
  pub same : step_of (items_of left (value_from d (length s)) (length s) (drop p s) p n) ≡ step_of (items_of (suc (length s)) (value_from d (length s)) (length s) (drop p₀ s) p₀ n₀)

pub list-start : (s : List ℕ) (d p n : ℕ) → ListTurn s d p n p n
list-start s d p n = record { left = suc (length s); enough = omega arith; same = refl }

module _ (s : List ℕ) (d p₀ n₀ p n : ℕ) where
  abbrev goal : Result Cursor Refusal
  goal = step_of (items_of (suc (length s)) (value_from d (length s)) (length s) (drop p₀ s) p₀ n₀)

  abbrev turn : ℕ → Got Items
  turn f = items_of f (value_from d (length s)) (length s) (drop p s) p n

  close-with : (f : ℕ) → length s < p + f → p < length s → get_or s p 0 ≡ 101 → Ok (record { at = p + 1; count = n }) ≡ step_of (turn f)
  unfolding items_of
  close-with zero h l x = absurd (omega arith)
  close-with (suc f) h l x = rw (at_byte s p 101 l x)

  pub list_close : ListTurn s d p₀ n₀ p n → p < length s → get_or s p 0 ≡ 101 → Ok (record { at = p + 1; count = n }) ≡ goal
  list_close t l x = close-with t.left t.enough l x ∙ t.same

  items-turn : (f : ℕ) → closes (drop p s) ≡ false
      → turn (suc f) ≡ and_then (value_from d (length s) (drop p s) p n) (λ v r q m. map_got (item v) (items_of f (value_from d (length s)) (length s) r q m))
  unfolding items_of
  items-turn f a = rw a

  bad-with : (f : ℕ) (r : Refusal) → length s < p + f → p < length s → closes (drop p s) ≡ false → Err r ≡ step_of (value_from d (length s) (drop p s) p n) → Err r ≡ step_of (turn f)
  bad-with zero r h l x e = absurd (omega arith)
  bad-with (suc f) r h l x e = rw (items-turn f x, bad-got (value_from d (length s) (drop p s) p n) r e)

  pub list-bad : ListTurn s d p₀ n₀ p n → (r : Refusal) → p < length s → (get_or s p 0 ≡ 101 → ⊥) → Err r ≡ step_of (value_from d (length s) (drop p s) p n) → Err r ≡ goal
  list-bad t r l x e = bad-with t.left r t.enough l (closes-no s p l x) e ∙ t.same

  out-with : (f : ℕ) → length s ≤ p → Err (record { number = cut; place = length s }) ≡ step_of (turn f)
  unfolding items_of
  out-with zero h = refl
  out-with (suc f) h = rw (closes-out s p h, value_out s p n d h)

  pub list-out : ListTurn s d p₀ n₀ p n → length s ≤ p → Err (record { number = cut; place = length s }) ≡ goal
  list-out t h = out-with t.left h ∙ t.same

  more-with : (f : ℕ) → length s < p + f → step_of (turn f) ≡ goal → p < length s → closes (drop p s) ≡ false → (c : Cursor) → Ok c ≡ step_of (value_from d (length s) (drop p s) p n)
      → (p < c.at) × ListTurn s d p₀ n₀ c.at c.count
  more-with zero h e l x c g = absurd (omega arith)
  more-with (suc f) h e l x c g =
      let w = past-got s d p n (omega arith) c g in (
        w.further,
        record {
          left = f;
          enough = omega (arith, w.further);
          same = sym (step_map (item w.what) (items_of f (value_from d (length s)) (length s) (drop c.at s) c.at c.count)) ∙ (rw (items-turn f x, w.is) at e);
        },
      )

  pub list-more : ListTurn s d p₀ n₀ p n → p < length s → (get_or s p 0 ≡ 101 → ⊥) → (c : Cursor) → Ok c ≡ step_of (value_from d (length s) (drop p s) p n)
      → (p < c.at) × ListTurn s d p₀ n₀ c.at c.count
  list-more t l x c g = more-with t.left t.enough t.same l (closes-no s p l x) c g

-- a key that the code found
pub key-further : (s : List ℕ) (before : Prev) (p n a m : ℕ) → p ≤ length s → key_is s n (Ok (record { from = a; len = m })) ≡ key_of (length s) before (drop p s) p n → (p < a + m) × (a + m ≤ length s) × (n < 16384)
key-further s before p n a m h e =
    let w = key-sound (length s) before (drop p s) p n (omega (arith, length-drop p s)) in
    let v : KeyP (drop p s) before p n (take m (drop a s)) (drop (a + m) s) (a + m) (n + 1) = subst (Holds (KeyP (drop p s) before p n)) (sym e) w in
    let k : length (written_string (take m (drop a s))) ≡ length (decimal (length (take m (drop a s)))) + suc (length (take m (drop a s))) = length-append (decimal (length (take m (drop a s)))) (58 ∷ take m (drop a s)) in
    let z : a + m + length (drop (a + m) s) ≡ length s = at_left v.0.0 (omega (arith, length-drop p s)) in
    (omega (arith, v.0.0.place), omega (arith, length-drop (a + m) s), v.2)

-- the turns of a dictionary
pub record DictTurn (s : List ℕ) (d p₀ n₀ : ℕ) (p n : ℕ) (before : Option Part) : Type 0 where
  pub left : ℕ
  pub enough : length s < p + left
  pub within : Inside s before
  pub same : step_of (entries_of left (value_from d (length s)) (length s) (prev_of s before) (drop p s) p n) ≡ step_of (entries_of (suc (length s)) (value_from d (length s)) (length s) start (drop p₀ s) p₀ n₀)

pub dict-start : (s : List ℕ) (d p n : ℕ) → DictTurn s d p n p n None
dict-start s d p n = record { left = suc (length s); enough = omega arith; within = tt; same = refl }

module _ (s : List ℕ) (d p₀ n₀ p n : ℕ) (before : Option Part) where
  abbrev goal-dict : Result Cursor Refusal
  goal-dict = step_of (entries_of (suc (length s)) (value_from d (length s)) (length s) start (drop p₀ s) p₀ n₀)

  abbrev turn-dict : ℕ → Got Entries
  turn-dict f = entries_of f (value_from d (length s)) (length s) (prev_of s before) (drop p s) p n

  dclose-with : (f : ℕ) → length s < p + f → p < length s → get_or s p 0 ≡ 101 → Ok (record { at = p + 1; count = n }) ≡ step_of (turn-dict f)
  unfolding entries_of
  dclose-with zero h l x = absurd (omega arith)
  dclose-with (suc f) h l x = rw (at_byte s p 101 l x)

  pub dict-close : DictTurn s d p₀ n₀ p n before → p < length s → get_or s p 0 ≡ 101 → Ok (record { at = p + 1; count = n }) ≡ goal-dict
  dict-close t l x = dclose-with t.left t.enough l x ∙ t.same

  dout-with : (f : ℕ) → length s ≤ p → Err (record { number = cut; place = length s }) ≡ step_of (turn-dict f)
  unfolding entries_of key_of
  dout-with zero h = refl
  dout-with (suc f) h = rw (drop_of_length-le s h)

  pub dict-out : DictTurn s d p₀ n₀ p n before → length s ≤ p → Err (record { number = cut; place = length s }) ≡ goal-dict
  dict-out t h = dout-with t.left h ∙ t.same

  -- what is left of a turn, by the key that the code found
  entries-turn : (f : ℕ) → closes (drop p s) ≡ false → (k : Result Part Refusal) → key_is s n k ≡ key_of (length s) (prev_of s before) (drop p s) p n
      → turn-dict (suc f) ≡ and_then (key_is s n k) (λ j l₁ p₁ n₁. and_then (value_from d (length s) l₁ p₁ n₁) (λ v l₂ p₂ n₂. map_got (entry j v) (entries_of f (value_from d (length s)) (length s) (last j) l₂ p₂ n₂)))
  unfolding entries_of
  entries-turn f x k e = rw (x, ← e)

  -- at a key
  module _ (t : DictTurn s d p₀ n₀ p n before) (l : p < length s) (x : get_or s p 0 ≡ 101 → ⊥) where
    dnot-with : (f : ℕ) (r : Refusal) → length s < p + f → key_is s n (Err r) ≡ key_of (length s) (prev_of s before) (drop p s) p n → Err r ≡ step_of (turn-dict f)
    dnot-with zero r h e = absurd (omega arith)
    dnot-with (suc f) r h e = rw (entries-turn f (closes-no s p l x) (Err r) e)

    pub dict-not : (r : Refusal) → key_is s n (Err r) ≡ key_of (length s) (prev_of s before) (drop p s) p n → Err r ≡ goal-dict
    dict-not r e = dnot-with t.left r t.enough e ∙ t.same

    module _ (a m : ℕ) (e : key_is s n (Ok (record { from = a; len = m })) ≡ key_of (length s) (prev_of s before) (drop p s) p n) where
      dbad-with : (f : ℕ) (r : Refusal) → length s < p + f → Err r ≡ step_of (value_from d (length s) (drop (a + m) s) (a + m) (n + 1)) → Err r ≡ step_of (turn-dict f)
      dbad-with zero r h y = absurd (omega arith)
      dbad-with (suc f) r h y = rw (entries-turn f (closes-no s p l x) (Ok (record { from = a; len = m })) e, bad-got (value_from d (length s) (drop (a + m) s) (a + m) (n + 1)) r y)

      pub dict-bad : (r : Refusal) → Err r ≡ step_of (value_from d (length s) (drop (a + m) s) (a + m) (n + 1)) → Err r ≡ goal-dict
      dict-bad r y = dbad-with t.left r t.enough y ∙ t.same

      dmore-with : (f : ℕ) → length s < p + f → step_of (turn-dict f) ≡ goal-dict → (c : Cursor) → Ok c ≡ step_of (value_from d (length s) (drop (a + m) s) (a + m) (n + 1))
          → (p < c.at) × DictTurn s d p₀ n₀ c.at c.count (Some (record { from = a; len = m }))
      dmore-with zero h z c y = absurd (omega arith)
      dmore-with (suc f) h z c y =
          let u = key-further s (prev_of s before) p n a m (omega arith) e in
          let w = past-got s d (a + m) (n + 1) u.1 c y in (
            omega (arith, w.further, u.0),
            record {
              left = f;
              enough = omega (arith, w.further, u.0);
              within = u.1;
              same = sym (step_map (entry (take m (drop a s)) w.what) (entries_of f (value_from d (length s)) (length s) (last (take m (drop a s))) (drop c.at s) c.at c.count))
                  ∙ (rw (entries-turn f (closes-no s p l x) (Ok (record { from = a; len = m })) e, w.is) at z);
            },
          )

      pub dict-more : (c : Cursor) → Ok c ≡ step_of (value_from d (length s) (drop (a + m) s) (a + m) (n + 1))
          → (p < c.at) × DictTurn s d p₀ n₀ c.at c.count (Some (record { from = a; len = m }))
      dict-more c y = dmore-with t.left t.enough t.same c y

-- a key at p, by the string that the code found
module _ (s : List ℕ) (before : Prev) (p n : ℕ) (l : p < length s) where
  pub key-wrong : is_digit (get_or s p 0) ≡ false → bad byte p ≡ key_of (length s) before (drop p s) p n
  unfolding key_of
  key-wrong d = rw (at_head s p l, d)

  module _ (d : is_digit (get_or s p 0) ≡ true) where
    pub key-many : 16384 ≤ n → bad many p ≡ key_of (length s) before (drop p s) p n
    unfolding key_of
    key-many h = rw (at_head s p l, d, le-ltb n 16384 h)

    key_here : n < 16384 → key_of (length s) before (drop p s) p n ≡ ordered before p (string_at (length s) (drop p s) p (n + 1))
    unfolding key_of
    key_here h = rw (at_head s p l, d, lt-ltb n 16384 h)

    pub key-found : n < 16384 → (a m : ℕ) → text_of s (n + 1) (Ok (record { from = a; len = m })) ≡ string_at (length s) (drop p s) p (n + 1) → follows before (take m (drop a s)) ≡ true → key_is s n (Ok (record { from = a; len = m })) ≡ key_of (length s) before (drop p s) p n
    key-found h a m e o = sym (key_here h ∙ ap (ordered before p) (sym e) ∙ rw o)

-- any string is a first key
pub key-read : (s : List ℕ) (p n : ℕ) → p < length s → is_digit (get_or s p 0) ≡ true → n < 16384 → (r : Result Part Refusal)
    → text_of s (n + 1) r ≡ string_at (length s) (drop p s) p (n + 1) → key_is s n r ≡ key_of (length s) start (drop p s) p n
key-read s p n l d h r e = go r e ∙ sym (key_here s start p n l d h)
  where
    go : (r : Result Part Refusal) → text_of s (n + 1) r ≡ string_at (length s) (drop p s) p (n + 1) → key_is s n r ≡ ordered start p (string_at (length s) (drop p s) p (n + 1))
    go (Ok k) e = ap (ordered start p) e
    go (Err r) e = ap (ordered start p) e

-- a key is one that could be the first, and greater than the one before
key-ordered : (e : ℕ) (before : Prev) (l : List ℕ) (p n : ℕ) → ordered before p (key_of e start l p n) ≡ key_of e before l p n
unfolding key_of
key-ordered e before [] p n = refl
key-ordered e before (b ∷ t) p n = go (is_digit b) (ltb n most_values) (string_of e b t p (n + 1))
  where
    go : (x y : Bool) (g : Got (List ℕ))
        → ordered before p (cond x (cond y (ordered start p g) (bad many p)) (bad byte p)) ≡ cond x (cond y (ordered before p g) (bad many p)) (bad byte p)
    go false y g = refl
    go true false g = refl
    go true true (got k r q m) = refl
    go true true (bad r q) = refl

module _ (s : List ℕ) (before : Prev) (p n : ℕ) where
  ordered-by : (k : Result Part Refusal) → key_is s n k ≡ key_of (length s) start (drop p s) p n → ordered before p (key_is s n k) ≡ key_of (length s) before (drop p s) p n
  ordered-by k e = ap (ordered before p) e ∙ key-ordered (length s) before (drop p s) p n

  pub key-refused : (r : Refusal) → key_is s n (Err r) ≡ key_of (length s) start (drop p s) p n → key_is s n (Err r) ≡ key_of (length s) before (drop p s) p n
  key-refused r e = ordered-by (Err r) e

  module _ (a m : ℕ) (e : key_is s n (Ok (record { from = a; len = m })) ≡ key_of (length s) start (drop p s) p n) where
    pub key-follows : follows before (take m (drop a s)) ≡ true → key_is s n (Ok (record { from = a; len = m })) ≡ key_of (length s) before (drop p s) p n
    key-follows o = sym (rw o) ∙ ordered-by (Ok (record { from = a; len = m })) e

    pub key-order : follows before (take m (drop a s)) ≡ false → bad order p ≡ key_of (length s) before (drop p s) p n
    key-order o = sym (rw o) ∙ ordered-by (Ok (record { from = a; len = m })) e

-- an integer that the code read, as value number n
module _ (p n : ℕ) where
  abbrev by_int : Result Int Refusal → Result Cursor Refusal
  by_int (Ok (Is z q)) = Ok (record { at = q; count = n })
  by_int (Ok (Large q)) = Ok (record { at = q; count = n })
  by_int (Err r) = Err r

  int-by : (l : List ℕ) (g : Got ℤ) → Holds (IntP l p n) g → by_int (integer_is g) ≡ step_of g
  int-by l (got z r q m) h = by-test (λ (i : Result Int Refusal). by_int i ≡ Ok (record { at = q; count = m })) (in_range z) (λ e. rw h.1) (λ e. rw h.1)
  int-by l (bad r o) h = refl

  pub int_at : (s : List ℕ) (i : Result Int Refusal) → i ≡ integer_is (integer_at (length s) (drop p s) p n) → by_int i ≡ step_of (integer_at (length s) (drop p s) p n)
  int_at s i e = ap by_int e ∙ int-by (drop p s) (integer_at (length s) (drop p s) p n) (integer-at-sound (length s) (drop p s) p n)
