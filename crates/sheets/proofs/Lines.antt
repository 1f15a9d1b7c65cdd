-- What one row of a sheet comes to as the code reads it: its key, its value, and both together. Assumes nothing.
use Rattle.std.specs.Prelude.{Err, Ok, Option, Result, Some}
use mathlib.Core.Path.{◌≡◌, refl, sym, ap, ◌∙◌, subst}
use mathlib.Core.Bool.{Bool, true, false, cond}
use mathlib.Core.List.{List, ◌∷◌}
use Prim.Native.Nat.{ℕ, zero, suc, ◌+◌, ◌<◌, ◌≤◌}
use native.Mathlib.Omega.{arith}
use lib.Dec.{ltb}
use lib.ListN.{length, get_or, drop, length-append, length-take, length-drop}
use borrow.Author.Tests.{lt-ltb}
use Rattle.refusal.specs.Numbers.{many}
use Rattle.refusal.specs.Paper.{Outcome, taken, refused}
use Rattle.refusal.specs.Parts.{bytes_at}
use Rattle.refusal.specs.declared.Part.{Part}
use Rattle.refusal.specs.declared.Refusal.{Refusal}
use Rattle.refusal.proofs.Cases.{no_way, by_bool, same_test, less-or}
use Rattle.bencode_scalar.specs.Written.{decimal, written_string}
use Rattle.bencode_scalar.specs.Reading.{Got, got, bad, and_then, map_got, is_digit, string_at, integer_of}
use Rattle.bencode_scalar.specs.Answers.{text_of}
use Rattle.bencode_scalar.proofs.Forms.{at_head, string-other}
use Rattle.bencode_scalar.proofs.Sound.{Holds, holds-map, holds_then, at_left}
use Rattle.bencode.specs.Value.{Value, Items, Entries, str, int, list, dict, encode, Prev, start}
use Rattle.bencode.specs.Decode.{Kind, digit, letter_i, letter_l, letter_d, other, kind_of, value_by, key_of, value_from}
use Rattle.bencode.specs.Answers.{step_of}
use Rattle.bencode.specs.declared.Cursor.{Cursor}
use Rattle.bencode.proofs.Sound.{Took, KeyP, key-sound, value-sound, KindP, kind-view}
use Rattle.bencode.proofs.Complete.{kind-digit}
use Rattle.bencode.proofs.Turns.{past-got, value_out, value-many, key-further, key-read, key-refused, key-found, key-wrong}
use Rattle.bencode_walk.specs.Lookup.{same_key}
use Rattle.bencode_walk.proofs.Finding.{same_refl, same_true}
use Rattle.bencode_fields.specs.Values.{part_of}
use Rattle.sheets.specs.declared.rows.Stage.{Stage}
use Rattle.sheets.specs.declared.rows.Held.TheVariants.{String, Other}
use Rattle.sheets.specs.Rules.{Listed}
use Rattle.sheets.specs.Reading.{listed_as}
use Rattle.sheets.specs.Turns.{prev_in, key_in, value_in_of, Reads, Line, line, line_in, noted, with_address, without_address, Turned}

-- ---- two keys: the test of equal bytes

pub same_bytes : (j k : List ℕ) (t : Bool) → (t ≡ true → j ≡ k) → (j ≡ k → t ≡ true) → t ≡ same_key j k
same_bytes j k t f g = same_test t (same_key j k) (λ e. ap (λ (l : List ℕ). same_key l k) (f e) ∙ same_refl k) (λ e. g (same_true j k e))

-- ---- a key at p, by the string that the code found

module _ (s : List ℕ) (before : Prev) (p n : ℕ) (l : p < length s) (few : n < 16384) where
  pub key-unread : (r : Refusal) → text_of s (n + 1) (Err r) ≡ string_at (length s) (drop p s) p (n + 1) → key_in s n (Err r) ≡ key_of (length s) before (drop p s) p n
  key-unread r e =
      by_bool (is_digit (get_or s p 0)) (λ d. key-refused s before p n r (key-read s p n l d few (Err r) e)) (λ d. e ∙ sym (string-other s p (n + 1) l d) ∙ key-wrong s before p n l d)

pub key-whole : (s : List ℕ) (p n : ℕ) → p < length s → n < 16384 → (x : Part) → text_of s (n + 1) (Ok x) ≡ string_at (length s) (drop p s) p (n + 1)
    → key_in s n (Ok x) ≡ key_of (length s) start (drop p s) p n
key-whole s p n l few x e =
    by_bool (is_digit (get_or s p 0)) (λ d. key-found s start p n l d few x.from x.len e refl) (λ d. no_way (let f = e ∙ sym (string-other s p (n + 1) l d) in cc))

-- ---- a value at p, as the code finds it

module _ (s : List ℕ) (p n : ℕ) (l : p < length s) (d : is_digit (get_or s p 0) ≡ true) where
  string-here : (levels : ℕ) → n < 16384 → value_from levels (length s) (drop p s) p n ≡ map_got str (string_at (length s) (drop p s) p (n + 1))
  unfolding value_from
  string-here zero h = rw (at_head s p l, d, kind-digit (get_or s p 0) d, lt-ltb n 16384 h)
  string-here (suc levels) h = rw (at_head s p l, d, kind-digit (get_or s p 0) d, lt-ltb n 16384 h)

  pub string-read : n < 16384 → (x : Part) → text_of s (n + 1) (Ok x) ≡ string_at (length s) (drop p s) p (n + 1) → Reads s p n (Ok (String x))
  string-read h x e = string-here 31 h ∙ ap (map_got str) (sym e)

  pub string-unread : n < 16384 → (r : Refusal) → text_of s (n + 1) (Err r) ≡ string_at (length s) (drop p s) p (n + 1) → Reads s p n (Err r)
  string-unread h r e = string-here 31 h ∙ ap (map_got str) (sym e)

  pub string-many : 16384 ≤ n → Reads s p n (Err (record { number = many; place = p }))
  string-many h = value-many s p n l 31 (let k = kind-digit (get_or s p 0) d in rw k) h

-- where no digit stands, no string is read
module _ (e b : ℕ) (t : List ℕ) (p n : ℕ) (ls : List ℕ → ℕ → ℕ → Got Items) (ds : List ℕ → ℕ → ℕ → Got Entries) (bs r : List ℕ) (q m : ℕ) where
  not_made : {A : Type 0} (f : A → Value) → ((a : A) → f a ≡ str bs → ⊥) → (few : Bool) (g : Got A) → cond few (map_got f g) (bad many p) ≡ got (str bs) r q m → ⊥
  not_made f h true (got a x y z) w = h a (cc)
  not_made f h true (bad x y) w = no_way (cc)
  not_made f h false g w = no_way (cc)

  not-by : (k : Kind) → is_digit b ≡ false → KindP b k → value_by k ls ds e b t p n ≡ got (str bs) r q m → ⊥
  not-by digit d v w = no_way (cc)
  not-by letter_i d v w = not_made int (λ a x. no_way (cc)) (ltb n 16384) (integer_of e t (p + 1) (n + 1)) w
  not-by letter_l d v w = not_made list (λ a x. no_way (cc)) (ltb n 16384) (ls t (p + 1) (n + 1)) w
  not-by letter_d d v w = not_made dict (λ a x. no_way (cc)) (ltb n 16384) (ds t (p + 1) (n + 1)) w
  not-by other d v w = no_way (cc)

module _ (s : List ℕ) (p n : ℕ) (bs r : List ℕ) (q m : ℕ) where
  not-here : (levels : ℕ) → p < length s → is_digit (get_or s p 0) ≡ false → value_from levels (length s) (drop p s) p n ≡ got (str bs) r q m → ⊥
  unfolding value_from
  not-here zero l d e = not-by (length s) (get_or s p 0) (drop (p + 1) s) p n _ _ bs r q m (kind_of (get_or s p 0)) d (kind-view (get_or s p 0)) (rw (at_head s p l) at e)
  not-here (suc levels) l d e = not-by (length s) (get_or s p 0) (drop (p + 1) s) p n _ _ bs r q m (kind_of (get_or s p 0)) d (kind-view (get_or s p 0)) (rw (at_head s p l) at e)

  no_string : (p < length s → is_digit (get_or s p 0) ≡ false) → value_in_of s p n ≡ got (str bs) r q m → ⊥
  no_string d e = less-or p (length s) (λ l. not-here 31 l (d l) e) (λ l. no_way (let f = value_out s p n 31 l in cc))

pub other-read : (s : List ℕ) (p n : ℕ) → p ≤ length s → (p < length s → is_digit (get_or s p 0) ≡ false) → (c : Cursor) → Ok c ≡ step_of (value_in_of s p n) → Reads s p n (Ok (Other c.at c.count))
other-read s p n h d c e =
    let w = past-got s 31 p n h c e in
    (w.what, w.is, λ bs x. no_string s p n bs (drop c.at s) c.at c.count d (w.is ∙ ap (λ (v : Value). got v (drop c.at s) c.at c.count) x))

-- ---- where a value ends, and what a string's bytes are

-- a value that is read ends within the text, past where it begins, and is among the first 16,384
pub record Within (s : List ℕ) (p q m : ℕ) (v : Value) : Type 0 where
  pub ends : q ≡ p + length (encode v)
  pub inside : q ≤ length s
  pub few : m ≤ 16384

within_by : (s : List ℕ) (p n : ℕ) (g : Got Value) (v : Value) (q m : ℕ) → p ≤ length s → g ≡ got v (drop q s) q m → Holds (Took (drop p s) 31 p n) g → Within s p q m v
within_by s p n g v q m h e t =
    let w : Took (drop p s) 31 p n v (drop q s) q m = subst (Holds (Took (drop p s) 31 p n)) e t in
    let z : q + length (drop q s) ≡ length s = at_left w.at (omega (arith, length-drop p s)) in
    record { ends = w.at.place; inside = omega (arith, length-drop q s); few = w.few }

pub within : (s : List ℕ) (p n : ℕ) → p ≤ length s → (v : Value) (q m : ℕ) → value_in_of s p n ≡ got v (drop q s) q m → Within s p q m v
within s p n h v q m e = within_by s p n (value_in_of s p n) v q m h e (value-sound 31 (length s) (drop p s) p n (omega (arith, length-drop p s)))

pub part_length : (s : List ℕ) (x : Part) → x.from + x.len ≤ length s → length (bytes_at s x) ≡ x.len
part_length s x h = simp (length-take, length-drop) (omega arith)

-- the part of a string that is read is the one that its place and bytes give
pub part-is : (s : List ℕ) (p n : ℕ) → p ≤ length s → (x : Part) → Reads s p n (Ok (String x)) → part_of p (bytes_at s x) ≡ x
unfolding encode
part-is s p n h x e =
    let w = within s p n h (str (bytes_at s x)) (x.from + x.len) (n + 1) e in
    let k = part_length s x w.inside in
    let l : length (written_string (bytes_at s x)) ≡ length (decimal (length (bytes_at s x))) + suc (length (bytes_at s x)) = length-append (decimal (length (bytes_at s x))) (58 ∷ bytes_at s x) in
    let f : p + suc (length (decimal (length (bytes_at s x)))) ≡ x.from = omega (arith, w.ends) in
    ap (λ (a : ℕ). record { from = a; len = length (bytes_at s x) }) f ∙ ap (λ (m : ℕ). record { from = x.from; len = m }) k

-- ---- what the rows come to with one more, by the code's parts

module _ (h : List ℕ) (p q : ℕ) (k : List ℕ) (m : ℕ) (len : length k ≡ m) where
  pub with-noted : (bs : List ℕ) (x : Part) → part_of q bs ≡ x → (o : Outcome Listed) → with_address h p k m x o ≡ noted h p (line k q (str bs)) o
  with-noted bs x e (taken a) = rw (len, e)
  with-noted bs x e (refused n r) = refl

  without-by : (v : Value) → ((bs : List ℕ) → v ≡ str bs → ⊥) → (a : Listed) → without_address p m q (taken a) ≡ noted h p (line k q v) (taken a)
  without-by (str bs) no-str a = absurd (no-str bs refl)
  without-by (int z) no-str a = rw len
  without-by (list vs) no-str a = rw len
  without-by (dict es) no-str a = rw len

  pub without-noted : (v : Value) → ((bs : List ℕ) → v ≡ str bs → ⊥) → (o : Outcome Listed) → without_address p m q o ≡ noted h p (line k q v) o
  without-noted v no-str (taken a) = without-by v no-str a
  without-noted v no-str (refused n r) = refl

-- ---- a whole row

module _ (s : List ℕ) (before : Prev) (p n : ℕ) (x : Part) (e : key_in s n (Ok x) ≡ key_of (length s) before (drop p s) p n) where
  pub line_read : (v : Value) (q m : ℕ) → value_in_of s (x.from + x.len) (n + 1) ≡ got v (drop q s) q m → line_in s before p n ≡ got (line (bytes_at s x) (x.from + x.len) v) (drop q s) q m
  line_read v q m f =
      ap (λ (g : Got (List ℕ)). and_then g (λ k l i j. map_got (line k i) (value_from 31 (length s) l i j))) (sym e) ∙ ap (map_got (line (bytes_at s x) (x.from + x.len))) f

  pub line-unread : (r : Refusal) → Reads s (x.from + x.len) (n + 1) (Err r) → line_in s before p n ≡ bad r.number r.place
  line-unread r f =
      ap (λ (g : Got (List ℕ)). and_then g (λ k l i j. map_got (line k i) (value_from 31 (length s) l i j))) (sym e) ∙ ap (map_got (line (bytes_at s x) (x.from + x.len))) f

pub line-no-key : (s : List ℕ) (before : Prev) (p n : ℕ) (r : Refusal) → key_in s n (Err r) ≡ key_of (length s) before (drop p s) p n → line_in s before p n ≡ bad r.number r.place
line-no-key s before p n r e = ap (λ (g : Got (List ℕ)). and_then g (λ k l i j. map_got (line k i) (value_from 31 (length s) l i j))) (sym e)

-- where a row that is read begins and ends
pub record Lies (p e : ℕ) (x : Line) (r : List ℕ) (q : ℕ) : Type 0 where
  pub placed : x.place ≡ p + length (written_string x.key)
  pub ends : q ≡ x.place + length (encode x.value)
  pub left : q + length r ≡ e

value-lies : (p q e n m : ℕ) (k l : List ℕ) → q ≡ p + length (written_string k) → q + length l ≡ e → (g : Got Value) → Holds (Took l 31 q m) g → Holds (λ v r i j. Lies p e (line k q v) r i) g
value-lies p q e n m k l h z (got v r i j) t = record { placed = h; ends = t.at.place; left = at_left t.at z }
value-lies p q e n m k l h z (bad r i) t = tt

line-lies : (s : List ℕ) (before : Prev) (p n : ℕ) → p ≤ length s → Holds (λ x r q m. Lies p (length s) x r q) (line_in s before p n)
line-lies s before p n h =
    let f : p + length (drop p s) ≡ length s = omega (arith, length-drop p s) in
    holds_then (KeyP (drop p s) before p n) (λ x r q m. Lies p (length s) x r q) (key_of (length s) before (drop p s) p n) _ (key-sound (length s) before (drop p s) p n f)
    (λ k l q m w. holds-map (λ x r i j. Lies p (length s) x r i) (line k q) (value_from 31 (length s) l q m)
    (value-lies p q (length s) n m k l w.0.0.place (at_left w.0.0 f) (value_from 31 (length s) l q m) (value-sound 31 (length s) l q m (at_left w.0.0 f))))

pub lies : (s : List ℕ) (before : Prev) (p n : ℕ) → p ≤ length s → (x : Line) (r : List ℕ) (q m : ℕ) → line_in s before p n ≡ got x r q m → Lies p (length s) x r q
lies s before p n h x r q m e = subst (Holds (λ y l i j. Lies p (length s) y l i)) e (line-lies s before p n h)

-- ---- the pass after one more row whose key is read

module _ (s h : List ℕ) (p : Stage) (k : Part) (l : p.at < length s) (e : key_in s p.count (Ok k) ≡ key_of (length s) (prev_in s p.before) (drop p.at s) p.at p.count) where
  -- where its value begins
  pub value-begins : (k.from + k.len ≤ length s) × (p.count < 16384)
  value-begins = let w = key-further s (prev_in s p.before) p.at p.count k.from k.len (omega arith) e in (w.1, w.2)

  pub entered-string : (x : Part) → Reads s (k.from + k.len) (p.count + 1) (Ok (String x)) → (row : Result (Option Part) Refusal) → listed_as row ≡ with_address h p.at (bytes_at s k) k.len x (listed_as p.row)
      → Turned s h p (Ok (record { at = x.from + x.len; count = p.count + 1 + 1; before = Some k; row = row }))
  entered-string x r row f = (
    line (bytes_at s k) (k.from + k.len) (str (bytes_at s x)),
    line_read s (prev_in s p.before) p.at p.count k e (str (bytes_at s x)) (x.from + x.len) (p.count + 1 + 1) r,
    refl,
    f ∙ with-noted h p.at (k.from + k.len) (bytes_at s k) k.len (part_length s k value-begins.0) (bytes_at s x) x (part-is s (k.from + k.len) (p.count + 1) value-begins.0 x r) (listed_as p.row),
  )

  pub entered-other : (q m : ℕ) → Reads s (k.from + k.len) (p.count + 1) (Ok (Other q m)) → (row : Result (Option Part) Refusal) → listed_as row ≡ without_address p.at k.len (k.from + k.len) (listed_as p.row)
      → Turned s h p (Ok (record { at = q; count = m; before = Some k; row = row }))
  entered-other q m (v, r, no-str) row f = (
    line (bytes_at s k) (k.from + k.len) v,
    line_read s (prev_in s p.before) p.at p.count k e v q m r,
    refl,
    f ∙ without-noted h p.at (k.from + k.len) (bytes_at s k) k.len (part_length s k value-begins.0) v no-str (listed_as p.row),
  )

  pub string-ends : (x : Part) → Reads s (k.from + k.len) (p.count + 1) (Ok (String x)) → (x.from + x.len ≤ length s) × (p.count + 1 + 1 ≤ 16384)
  string-ends x r = let w = within s (k.from + k.len) (p.count + 1) value-begins.0 (str (bytes_at s x)) (x.from + x.len) (p.count + 1 + 1) r in (w.inside, w.few)
