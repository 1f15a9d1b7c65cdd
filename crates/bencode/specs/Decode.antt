-- The reader's outcome: what a text is taken for, or the number and place of its first fault from left to right. Assumes nothing: these are definitions.
-- Throughout, e is the text's length, l what is left of the text, p its place, and n how many values have begun.
use Rattle.std.specs.Prelude.{Bool, true, false, cond, List, [], ◌∷◌, ℕ, zero, suc, ◌+◌, ltb, eqb, length, drop}
use Rattle.refusal.specs.Paper.{Outcome, taken, refused}
use Rattle.refusal.specs.Numbers.{cut, byte, order, deep, many, after, long}
use Rattle.refusal.specs.Limits.{most_text, most_values, most_levels}
use Rattle.bencode_scalar.specs.Reading.{Got, got, bad, and_then, map_got, on_head, is_digit, string_of, integer_of}
use Rattle.bencode.specs.Value.{Value, Items, Entries, str, int, list, dict, none, item, empty, entry, Prev, start, last, follows}

-- what a value's first byte says it is, and whether one can begin so
pub data Kind : Type 0 where
  digit letter_i letter_l letter_d other : Kind

unfoldable pub kind_of : ℕ → Kind
kind_of b = cond (eqb b 105) letter_i (cond (eqb b 108) letter_l (cond (eqb b 100) letter_d (cond (is_digit b) digit other)))

abbrev pub begun : Kind → Bool
begun digit = true
begun letter_i = true
begun letter_l = true
begun letter_d = true
begun other = false

-- a value or a key begins at p, after n others
abbrev pub begin : {A : Type 0} → ℕ → ℕ → Got A → Got A
begin n p g = cond (ltb n most_values) g (bad many p)

-- a value by its first byte b, before t, with the readers of a list's items and a dictionary's entries
abbrev pub value_by : Kind → (List ℕ → ℕ → ℕ → Got Items) → (List ℕ → ℕ → ℕ → Got Entries) → ℕ → ℕ → List ℕ → ℕ → ℕ → Got Value
value_by digit ls ds e b t p n = let r : Got Value = map_got str (string_of e b t p (n + 1)) in begin n p r
value_by letter_i ls ds e b t p n = let r : Got Value = map_got int (integer_of e t (p + 1) (n + 1)) in begin n p r
value_by letter_l ls ds e b t p n = let r : Got Value = map_got list (ls t (p + 1) (n + 1)) in begin n p r
value_by letter_d ls ds e b t p n = let r : Got Value = map_got dict (ds t (p + 1) (n + 1)) in begin n p r
value_by other ls ds e b t p n = bad byte p

-- whether a list or dictionary ends here
abbrev pub closes : List ℕ → Bool
closes l = on_head l false (λ b t. eqb b 101)

-- the items of a list, each read by `value`, and its e; f bounds their number
abbrev pub items_by : Bool → (List ℕ → ℕ → ℕ → Got Value) → (List ℕ → ℕ → ℕ → Got Items) → List ℕ → ℕ → ℕ → Got Items
items_by true value go l p n = got none (drop 1 l) (p + 1) n
items_by false value go l p n = and_then (value l p n) (λ v r q m. map_got (item v) (go r q m))

unfoldable pub items_of : ℕ → (List ℕ → ℕ → ℕ → Got Value) → ℕ → List ℕ → ℕ → ℕ → Got Items
items_of zero value e l p n = bad cut e
items_of (suc f) value e l p n = items_by (closes l) value (items_of f value e) l p n

-- a key that is read whole: is it greater than the one before?
abbrev pub ordered : Prev → ℕ → Got (List ℕ) → Got (List ℕ)
ordered prev p (got k l q n) = cond (follows prev k) (got k l q n) (bad order p)
ordered prev p (bad r q) = bad r q

-- a key
unfoldable pub key_of : ℕ → Prev → List ℕ → ℕ → ℕ → Got (List ℕ)
key_of e prev l p n = on_head l (bad cut e) (λ b t. let r : Got (List ℕ) = ordered prev p (string_of e b t p (n + 1)) in cond (is_digit b) (begin n p r) (bad byte p))

-- the entries of a dictionary, and its e
abbrev pub entries_by_of : Bool → (List ℕ → ℕ → ℕ → Got Value) → (Prev → List ℕ → ℕ → ℕ → Got Entries) → ℕ → Prev → List ℕ → ℕ → ℕ → Got Entries
entries_by_of true value go e prev l p n = got empty (drop 1 l) (p + 1) n
entries_by_of false value go e prev l p n =
    and_then (key_of e prev l p n) (λ k l₁ p₁ n₁. and_then (value l₁ p₁ n₁) (λ v l₂ p₂ n₂. map_got (entry k v) (go (last k) l₂ p₂ n₂)))

unfoldable pub entries_of : ℕ → (List ℕ → ℕ → ℕ → Got Value) → ℕ → Prev → List ℕ → ℕ → ℕ → Got Entries
entries_of zero value e prev l p n = bad cut e
entries_of (suc f) value e prev l p n = entries_by_of (closes l) value (entries_of f value e) e prev l p n

-- a value, with d more levels of lists and dictionaries
unfoldable pub value_from : ℕ → ℕ → List ℕ → ℕ → ℕ → Got Value
value_from zero e l p n = on_head l (bad cut e) (λ b t. value_by (kind_of b) (λ r q m. bad deep p) (λ r q m. bad deep p) e b t p n)
value_from (suc d) e l p n =
    on_head l (bad cut e) (λ b t. value_by (kind_of b)
    (λ r q m. items_of (suc e) (value_from d e) e r q m)
    (λ r q m. entries_of (suc e) (value_from d e) e start r q m)
    e b t p n)

-- the whole text is one value
abbrev pub whole_of : Got Value → Outcome Value
whole_of (got v [] p n) = taken v
whole_of (got v (b ∷ t) p n) = refused after p
whole_of (bad r p) = refused r p

-- a text that is too long is 8 at 0, before all else
abbrev pub unless_long : {A : Type 0} → List ℕ → Outcome A → Outcome A
unless_long s o = cond (ltb most_text (length s)) (refused long 0) o

-- the value that a text is
unfoldable pub decode : List ℕ → Outcome Value
decode s = unless_long s (whole_of (value_from most_levels (length s) s 0 0))
