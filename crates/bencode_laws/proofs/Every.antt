-- Wherever a cause stands, the text is refused by its number. Assumes nothing.
use mathlib.Core.Path.{◌≡◌, refl, ap, ◌∙◌}
use mathlib.Core.Logic.{◌⊎◌, inl, inr}
use mathlib.Core.Bool.{true, false}
use mathlib.Core.List.{List, [], ◌∷◌, ◌++◌}
use Prim.Native.Nat.{ℕ, zero, suc, ◌+◌, ◌<◌, ◌≤◌}
use native.Mathlib.Omega.{arith}
use lib.ListN.{length, length-append}
use borrow.Author.Tests.{lt-ltb, le-ltb, ne_eqb}
use Rattle.refusal.specs.Numbers.{cut, byte, order, deep, many, after}
use Rattle.refusal.specs.Limits.{most_values, most_levels}
use Rattle.refusal.specs.Paper.{refused}
use Rattle.bencode_scalar.specs.Written.{written_string}
use Rattle.bencode_scalar.specs.Reading.{Got, got, bad, and_then, map_got, is_digit, string_of}
use Rattle.bencode_scalar.proofs.Decimal.{digit-range}
use Rattle.bencode_scalar.proofs.Complete.{string-complete}
use Rattle.bencode.specs.Value.{Value, Items, Entries, str, int, list, dict, entry, encode, count, Prev, last, follows}
use Rattle.bencode.specs.Value.{item as one}
use Rattle.bencode.specs.Decode.{Kind, digit, letter_i, letter_l, letter_d, other, kind_of, begun, value_by, closes, items_of, ordered, key_of, entries_of, value_from, whole_of}
use Rattle.bencode.proofs.Complete.{str-here, int-here, list-here, dict-here, kind-digit, first_byte, encode-pos, complete}
use Rattle.bencode_laws.specs.Causes.{Due, value, item, key, Comes, top, an_item, in_list, past-item, in-dictionary, past-key, past-entry, Begins, Ends, Stops, Cut, Byte, Order, Deep, Many, After}
use Rattle.bencode_laws.proofs.Fails.{place}
use Rattle.bencode_laws.proofs.Scalars.{BadString, string-ends, string-stops, BadInteger, integer-ends, integer-stops}

-- one turn of a list; of a dictionary
items-turn : (f e : ℕ) (val : List ℕ → ℕ → ℕ → Got Value) (l : List ℕ) (p n : ℕ) {x : Got Items} → e < p + f → p ≤ e → closes l ≡ false
    → ((g : ℕ) → e < p + suc g → and_then (val l p n) (λ v r q m. map_got (one v) (items_of g val e r q m)) ≡ x) → items_of f val e l p n ≡ x
unfolding items_of
items-turn zero e val l p n h i y k = absurd (omega arith)
items-turn (suc f) e val l p n h i y k = rw y (k f h)

entries-turn : (f e : ℕ) (val : List ℕ → ℕ → ℕ → Got Value) (j : Prev) (l : List ℕ) (p n : ℕ) {x : Got Entries} → e < p + f → p ≤ e → closes l ≡ false
    → ((g : ℕ) → e < p + suc g → and_then (key_of e j l p n) (λ k l₁ p₁ n₁. and_then (val l₁ p₁ n₁) (λ v l₂ p₂ n₂. map_got (entry k v) (entries_of g val e (last k) l₂ p₂ n₂))) ≡ x)
    → entries_of f val e j l p n ≡ x
unfolding entries_of
entries-turn zero e val j l p n h i y k = absurd (omega arith)
entries-turn (suc f) e val j l p n h i y k = rw y (k f h)

-- no e begins a value or a key
value-open : (v : Value) (l : List ℕ) → closes (encode v ++ l) ≡ false
value-open v l = let b = first_byte v in rw (b.2, ne_eqb _ _ b.3)

digit-open : (b : ℕ) (t : List ℕ) → is_digit b ≡ true → closes (b ∷ t) ≡ false
digit-open b t d = let r = digit-range b d in ne_eqb b 101 (omega arith)

key-at : (e : ℕ) (j : Prev) (b : ℕ) (t : List ℕ) (p n : ℕ) → is_digit b ≡ true → n < most_values → key_of e j (b ∷ t) p n ≡ ordered j p (string_of e b t p (n + 1))
unfolding key_of
key-at e j b t p n d few = rw (d, lt-ltb n most_values few)

-- a key that is written there
module _ (e : ℕ) (j : Prev) (k l : List ℕ) (p n : ℕ) (h : p + length (written_string k ++ l) ≡ e) where
  key-open : closes (written_string k ++ l) ≡ false
  key-open = let y = string-complete e k l p h in rw y.text (digit-open y.first y.rest y.starts)

  key-whole : n < most_values → key_of e j (written_string k ++ l) p n ≡ ordered j p (got k l (p + length (written_string k)) (n + 1))
  key-whole few =
      let y = string-complete e k l p h in
      ap (λ (t : List ℕ). key_of e j t p n) y.text ∙ key-at e j y.first y.rest p n y.starts few ∙ ap (ordered j p) (y.reads (n + 1))

  key_here : n < most_values → follows j k ≡ true → key_of e j (written_string k ++ l) p n ≡ got k l (p + length (written_string k)) (n + 1)
  key_here few x = key-whole few ∙ rw x

-- the whole text's reader refuses by r at q; the reader of what is due at a place does
abbrev pub Ended : List ℕ → ℕ → ℕ → Type 0
Ended s r q = value_from most_levels (length s) s 0 0 ≡ bad r q

abbrev Refuses : List ℕ → Due → List ℕ → ℕ → ℕ → ℕ → ℕ → ℕ → Type 0
Refuses s value l p n d r q = value_from d (length s) l p n ≡ bad r q
Refuses s item l p n d r q = (f : ℕ) → length s < p + f → items_of f (value_from d (length s)) (length s) l p n ≡ bad r q
Refuses s (key j) l p n d r q = (f : ℕ) → length s < p + f → entries_of f (value_from d (length s)) (length s) j l p n ≡ bad r q

module _ (s : List ℕ) (r q : ℕ) where
  -- what the latter refuses, the former does
  goes : {w : Due} {l : List ℕ} {p n d : ℕ} → Comes s w l p n d → Refuses s w l p n d r q → Ended s r q
  goes top h = h
  goes (an_item {l} {p} {n} {d} c y) h = goes c (λ f k. items-turn f (length s) (value_from d (length s)) l p n k (omega (arith, place c)) y (λ g j. rw h))
  goes (in_list {l} {p} {n} {d} c few) h = goes c (list-here (length s) l p n few d ∙ ap (map_got list) (h (suc (length s)) (omega arith)))
  goes (past-item {l} {p} {n} {d} v c keeps few) h =
      goes c (λ f k. items-turn f (length s) (value_from d (length s)) (encode v ++ l) p n k (omega (arith, place c)) (value-open v l)
      (λ g j. rw (complete v d (length s) l p n keeps (place c) few, h g (omega (arith, encode-pos v)))))
  goes (in-dictionary {l} {p} {n} {d} c few) h = goes c (dict-here (length s) l p n few d ∙ ap (map_got dict) (h (suc (length s)) (omega arith)))
  goes (past-key {l} {p} {n} {d} {before = j} k c x few) h =
      goes c (λ f y. entries-turn f (length s) (value_from d (length s)) j (written_string k ++ l) p n y (omega (arith, place c)) (key-open (length s) j k l p n (place c))
      (λ g z. rw (key_here (length s) j k l p n (place c) few x, h)))
  goes (past-entry {l} {p} {n} {d} {before = j} k v c x keeps few) h =
      let w : p + length (written_string k) + length (encode v ++ l) ≡ length s = omega (arith, place c, length-append (written_string k) (encode v ++ l)) in
      goes c (λ f y. entries-turn f (length s) (value_from d (length s)) j (written_string k ++ (encode v ++ l)) p n y (omega (arith, place c)) (key-open (length s) j k (encode v ++ l) p n (place c))
      (λ g z. rw (key_here (length s) j k (encode v ++ l) p n (place c) (omega arith) x, complete v d (length s) l (p + length (written_string k)) (n + 1) keeps w few, h g (omega (arith, encode-pos v)))))

  -- where a string or an integer is due
  string-value : {l : List ℕ} {p n d : ℕ} → Comes s value l p n d → n < most_values → BadString (length s) l p r q → Ended s r q
  string-value {l} {p} {n} {d} c few y =
      goes c (ap (λ (t : List ℕ). value_from d (length s) t p n) y.text
      ∙ str-here (length s) y.rest p n few d y.first (kind-digit y.first y.starts) ∙ ap (map_got str) (y.reads (n + 1)))

  integer-value : {l : List ℕ} {p n d : ℕ} → Comes s value l p n d → n < most_values → BadInteger (length s) l p r q → Ended s r q
  integer-value {l} {p} {n} {d} c few y =
      goes c (ap (λ (t : List ℕ). value_from d (length s) t p n) y.text ∙ int-here (length s) y.rest p n few d ∙ ap (map_got int) (y.reads (n + 1)))

  -- where a key is due
  key-value : {j : Prev} {l : List ℕ} {p n d : ℕ} → Comes s (key j) l p n d → closes l ≡ false → key_of (length s) j l p n ≡ bad r q → Ended s r q
  key-value {j} {l} {p} {n} {d} c y h = goes c (λ f k. entries-turn f (length s) (value_from d (length s)) j l p n k (omega (arith, place c)) y (λ g z. rw h))

  string-key : {j : Prev} {l : List ℕ} {p n d : ℕ} → Comes s (key j) l p n d → n < most_values → BadString (length s) l p r q → Ended s r q
  string-key {j} {l} {p} {n} c few y =
      key-value c (rw y.text (digit-open y.first y.rest y.starts))
      (ap (λ (t : List ℕ). key_of (length s) j t p n) y.text ∙ key-at (length s) j y.first y.rest p n y.starts few ∙ ap (ordered j p) (y.reads (n + 1)))

value_none : (d e p n : ℕ) → value_from d e [] p n ≡ bad cut e
unfolding value_from
value_none zero e p n = refl
value_none (suc d) e p n = refl

value-other : (d e b : ℕ) (t : List ℕ) (p n : ℕ) → kind_of b ≡ other → value_from d e (b ∷ t) p n ≡ bad byte p
unfolding value_from
value-other zero e b t p n k = rw k
value-other (suc d) e b t p n k = rw k

value-deep : (e b : ℕ) (t : List ℕ) (p n : ℕ) → n < most_values → (b ≡ 108) ⊎ (b ≡ 100) → value_from 0 e (b ∷ t) p n ≡ bad deep p
unfolding value_from kind_of
value-deep e b t p n few (inl x) = rw (x, lt-ltb n most_values few)
value-deep e b t p n few (inr x) = rw (x, lt-ltb n most_values few)

by-many : (k : Kind) (ls : List ℕ → ℕ → ℕ → Got Items) (ds : List ℕ → ℕ → ℕ → Got Entries) (e b : ℕ) (t : List ℕ) (p n : ℕ) → begun k ≡ true → most_values ≤ n → value_by k ls ds e b t p n ≡ bad many p
by-many digit ls ds e b t p n k h = rw (le-ltb n most_values h)
by-many letter_i ls ds e b t p n k h = rw (le-ltb n most_values h)
by-many letter_l ls ds e b t p n k h = rw (le-ltb n most_values h)
by-many letter_d ls ds e b t p n k h = rw (le-ltb n most_values h)
by-many other ls ds e b t p n k h = cc

value-many : (d e b : ℕ) (t : List ℕ) (p n : ℕ) → begun (kind_of b) ≡ true → most_values ≤ n → value_from d e (b ∷ t) p n ≡ bad many p
unfolding value_from
value-many zero e b t p n k h = by-many (kind_of b) _ _ e b t p n k h
value-many (suc d) e b t p n k h = by-many (kind_of b) _ _ e b t p n k h

key-none : (e : ℕ) (j : Prev) (p n : ℕ) → key_of e j [] p n ≡ bad cut e
unfolding key_of
key-none e j p n = refl

key-other : (e : ℕ) (j : Prev) (b : ℕ) (t : List ℕ) (p n : ℕ) → is_digit b ≡ false → key_of e j (b ∷ t) p n ≡ bad byte p
unfolding key_of
key-other e j b t p n d = rw d

key-many : (e : ℕ) (j : Prev) (b : ℕ) (t : List ℕ) (p n : ℕ) → is_digit b ≡ true → most_values ≤ n → key_of e j (b ∷ t) p n ≡ bad many p
unfolding key_of
key-many e j b t p n d h = rw (d, le-ltb n most_values h)

-- each cause
module _ (s : List ℕ) where
  cut-once : (w : Due) {p n d : ℕ} → Comes s w [] p n d → Ended s cut (length s)
  cut-once value {p} {n} {d} c = goes s cut (length s) c (value_none d (length s) p n)
  cut-once item {p} {n} {d} c = goes s cut (length s) (an_item c refl) (value_none d (length s) p n)
  cut-once (key j) {p} {n} c = key-value s cut (length s) c refl (key-none (length s) j p n)

  cut-within : (w : Due) {l : List ℕ} {p n d : ℕ} → Comes s w l p n d → n < most_values → Ends w l → Ended s cut (length s)
  cut-within value {p = p} c few (inl h) = string-value s cut (length s) c few (string-ends (length s) p h (place c))
  cut-within value {p = p} c few (inr h) = integer-value s cut (length s) c few (integer-ends (length s) p h)
  cut-within item c few h = absurd h
  cut-within (key j) {p = p} c few h = string-key s cut (length s) c few (string-ends (length s) p h (place c))

  byte-within : (due : Due) {p n d : ℕ} (w : List ℕ) (b : ℕ) (t : List ℕ) → Comes s due (w ++ b ∷ t) p n d → n < most_values → Stops due w b → Ended s byte (p + length w)
  byte-within value {p} w b t c few (inl h) = string-value s byte (p + length w) c few (string-stops (length s) p t h)
  byte-within value {p} w b t c few (inr h) = integer-value s byte (p + length w) c few (integer-stops (length s) p t h)
  byte-within item w b t c few h = absurd h
  byte-within (key j) {p} w b t c few h = string-key s byte (p + length w) c few (string-stops (length s) p t h)

  many-begins : (w : Due) (l : List ℕ) {p n d : ℕ} → Comes s w l p n d → most_values ≤ n → Begins w l → Ended s many p
  many-begins value [] c h x = absurd x
  many-begins value (b ∷ t) {p} {n} {d} c h x = goes s many p c (value-many d (length s) b t p n x h)
  many-begins item l c h x = absurd x
  many-begins (key j) [] c h x = absurd x
  many-begins (key j) (b ∷ t) {p} {n} c h x = key-value s many p c (digit-open b t x) (key-many (length s) j b t p n x h)

  pub every-cut : {p : ℕ} → Cut s p → Ended s cut p
  every-cut (Cut.at_once {w} c) = cut-once w c
  every-cut (Cut.within {w} c few h) = cut-within w c few h

  pub every_byte : {p : ℕ} → Byte s p → Ended s byte p
  every_byte (Byte.no_value {b} {t} {p} {n} {d} c k) = goes s byte p c (value-other d (length s) b t p n k)
  every_byte (Byte.no_key {before = j} {b} {t} {p} {n} c d x) = key-value s byte p c (ne_eqb b 101 x) (key-other (length s) j b t p n d)
  every_byte (Byte.within {due} w b t c few h) = byte-within due w b t c few h

  pub every-order : {p : ℕ} → Order s p → Ended s order p
  every-order (Order.not-greater {before = j} {p} {n} k l c few x) = key-value s order p c (key-open (length s) j k l p n (place c)) (key-whole (length s) j k l p n (place c) few ∙ rw x)

  pub every-deep : {p : ℕ} → Deep s p → Ended s deep p
  every-deep (Deep.level {b} {l} {p} {n} c few x) = goes s deep p c (value-deep (length s) b l p n (omega arith) x)

  pub every-many : {p : ℕ} → Many s p → Ended s many p
  every-many (Many.begins {w} {l} c h x) = many-begins w l c (omega arith) x

  whole-after : (v : Value) (l : List ℕ) (q m : ℕ) → (l ≡ [] → ⊥) → whole_of (got v l q m) ≡ refused after q
  whole-after v [] q m h = absurd (h refl)
  whole-after v (b ∷ t) q m h = refl

  pub every-after : {p : ℕ} → After s p → whole_of (value_from most_levels (length s) s 0 0) ≡ refused after p
  every-after (After.bytes {l} v x keeps few h) =
      ap (λ (t : List ℕ). whole_of (value_from most_levels (length s) t 0 0)) x ∙ ap whole_of (complete v most_levels (length s) l 0 0 keeps (omega (arith, ap length x)) (omega arith))
      ∙ whole-after v l (0 + length (encode v)) (0 + count v) h ∙ ap (refused after) (omega arith)
