-- A value that is taken was written so, is counted, and keeps the rules. Assumes nothing.
use mathlib.Core.Path.{◌≡◌, refl, sym, ap, subst}
use mathlib.Core.Bool.{Bool, true, false, false≢true}
use mathlib.Core.List.{List, [], ◌∷◌}
use Prim.Native.Nat.{ℕ, zero, suc, ◌+◌, ◌<◌, ◌≤◌}
use native.Mathlib.Omega.{arith}
use lib.Dec.{ltb, eqb}
use lib.IntN.{ℤ}
use lib.ListN.{length, drop}
use borrow.Author.Tests.{ltb-true, eqb-true}
use Rattle.refusal.specs.Numbers.{byte, order, many}
use Rattle.refusal.proofs.Cases.{by-test}
use Rattle.bencode_scalar.specs.Reading.{Got, got, bad, is_digit, string_of, integer_of}
use Rattle.bencode_scalar.proofs.Sound.{Holds, holds-map, holds_then, holds-cond, At, at-then, at_byte, at_left, TextP, string-sound, IntP, int-sound}
use Rattle.bencode.specs.Value.{Value, Items, Entries, str, int, list, dict, item, entry, encode, encode_items, encode_entries, count, count_items, count_entries, Keeps, KeepsItems, KeepsEntries, Prev, start, last, follows}
use Rattle.bencode.specs.Decode.{Kind, digit, letter_i, letter_l, letter_d, other, kind_of, begin, value_by, closes, items_by, items_of, ordered, key_of, entries_by_of, entries_of, value_from}

holds-begin : {A : Type 0} (P : A → List ℕ → ℕ → ℕ → Type 0) (n p : ℕ) (g : Got A) → (n < 16384 → Holds P g) → Holds P (begin n p g)
holds-begin P n p g h = holds-cond P (ltb n 16384) g (bad many p) (λ e. h (ltb-true n 16384 e)) (λ e. tt)

-- a key that is greater than the one before
abbrev pub KeyP : List ℕ → Prev → ℕ → ℕ → List ℕ → List ℕ → ℕ → ℕ → Type 0
KeyP l prev p n k r q m = TextP l p (n + 1) k r q m × (follows prev k ≡ true) × (n < 16384)

ordered-sound : (l : List ℕ) (prev : Prev) (p n : ℕ) → n < 16384 → (g : Got (List ℕ)) → Holds (TextP l p (n + 1)) g → Holds (KeyP l prev p n) (ordered prev p g)
ordered-sound l prev p n few (got k r q m) h = holds-cond (KeyP l prev p n) (follows prev k) (got k r q m) (bad order p) (λ e. (h, e, few)) (λ e. tt)
ordered-sound l prev p n few (bad r q) h = tt

pub key-sound : (e : ℕ) (prev : Prev) (l : List ℕ) (p n : ℕ) → p + length l ≡ e → Holds (KeyP l prev p n) (key_of e prev l p n)
unfolding key_of
key-sound e prev [] p n x = tt
key-sound e prev (b ∷ t) p n x =
    holds-cond (KeyP (b ∷ t) prev p n) (is_digit b) _ (bad byte p)
    (λ d. holds-begin (KeyP (b ∷ t) prev p n) n p _ (λ few. ordered-sound (b ∷ t) prev p n few (string_of e b t p (n + 1)) (string-sound e b t p (n + 1) d x)))
    (λ d. tt)

-- a value, the items of a list and the entries of a dictionary
pub record Took (l : List ℕ) (d p n : ℕ) (v : Value) (r : List ℕ) (q m : ℕ) : Type 0 where
  pub at : At l p r q (encode v)
  pub counted : m ≡ n + count v
  pub few : m ≤ 16384
  pub keeps : Keeps v d

pub record TookItems (l : List ℕ) (d p n : ℕ) (vs : Items) (r : List ℕ) (q m : ℕ) : Type 0 where
  pub at : At l p r q (encode_items vs)
  pub counted : m ≡ n + count_items vs
  pub few : m ≤ 16384
  pub keeps : KeepsItems vs d

pub record TookEntries (l : List ℕ) (d : ℕ) (prev : Prev) (p n : ℕ) (es : Entries) (r : List ℕ) (q m : ℕ) : Type 0 where
  pub at : At l p r q (encode_entries es)
  pub counted : m ≡ n + count_entries es
  pub few : m ≤ 16384
  pub keeps : KeepsEntries es d prev

at-e : (l : List ℕ) (p : ℕ) → closes l ≡ true → At l p (drop 1 l) (p + 1) (101 ∷ [])
at-e [] p h = absurd (false≢true h)
at-e (b ∷ t) p h = subst (λ (c : ℕ). At (b ∷ t) p t (p + 1) (c ∷ [])) (eqb-true b 101 h) (at_byte b t p)

module _ (d e : ℕ) (val : List ℕ → ℕ → ℕ → Got Value) (sound : (l : List ℕ) (p n : ℕ) → p + length l ≡ e → Holds (Took l d p n) (val l p n)) where
  items_more : (l : List ℕ) (p n : ℕ) (v : Value) (r : List ℕ) (q m : ℕ) → Took l d p n v r q m → (g : Got Items) → Holds (TookItems r d q m) g → Holds (λ vs. TookItems l d p n (item v vs)) g
  unfolding encode count Keeps
  items_more l p n v r q m k (got vs r₂ q₂ m₂) t = record { at = at-then k.at t.at; counted = omega (arith, k.counted, t.counted); few = t.few; keeps = (k.keeps, t.keeps) }
  items_more l p n v r q m k (bad x y) t = tt

  items-by : (go : List ℕ → ℕ → ℕ → Got Items) → ((l : List ℕ) (q m : ℕ) → q + length l ≡ e → m ≤ 16384 → Holds (TookItems l d q m) (go l q m))
      → (l : List ℕ) (p n : ℕ) → p + length l ≡ e → n ≤ 16384 → (t : Bool) → closes l ≡ t → Holds (TookItems l d p n) (items_by t val go l p n)
  unfolding encode count Keeps
  items-by go ih l p n x h true y = record { at = at-e l p y; counted = omega arith; few = h; keeps = tt }
  items-by go ih l p n x h false y = holds_then (Took l d p n) (TookItems l d p n) (val l p n) _ (sound l p n x)
      (λ v r q m k. holds-map (TookItems l d p n) (item v) (go r q m) (items_more l p n v r q m k (go r q m) (ih r q m (at_left k.at x) k.few)))

  items-sound : (f : ℕ) (l : List ℕ) (p n : ℕ) → p + length l ≡ e → n ≤ 16384 → Holds (TookItems l d p n) (items_of f val e l p n)
  unfolding items_of
  items-sound zero l p n x h = tt
  items-sound (suc f) l p n x h = items-by (items_of f val e) (items-sound f) l p n x h (closes l) refl

  entries-more : (l : List ℕ) (prev : Prev) (p n : ℕ) (k l₁ : List ℕ) (q m : ℕ) → KeyP l prev p n k l₁ q m → (v : Value) (l₂ : List ℕ) (q₂ m₂ : ℕ) → Took l₁ d q m v l₂ q₂ m₂
      → (g : Got Entries) → Holds (TookEntries l₂ d (last k) q₂ m₂) g → Holds (λ es. TookEntries l d prev p n (entry k v es)) g
  unfolding encode count Keeps
  entries-more l prev p n k l₁ q m x v l₂ q₂ m₂ y (got es r j i) t = record {
    at = at-then x.0.0 (at-then y.at t.at);
    counted = omega (arith, x.0.1, y.counted, t.counted);
    few = t.few;
    keeps = (x.1, y.keeps, t.keeps);
  }
  entries-more l prev p n k l₁ q m x v l₂ q₂ m₂ y (bad r j) t = tt

  entries_by : (go : Prev → List ℕ → ℕ → ℕ → Got Entries) → ((k : Prev) (l : List ℕ) (q m : ℕ) → q + length l ≡ e → m ≤ 16384 → Holds (TookEntries l d k q m) (go k l q m))
      → (prev : Prev) (l : List ℕ) (p n : ℕ) → p + length l ≡ e → n ≤ 16384 → (t : Bool) → closes l ≡ t → Holds (TookEntries l d prev p n) (entries_by_of t val go e prev l p n)
  unfolding encode count Keeps
  entries_by go ih prev l p n x h true y = record { at = at-e l p y; counted = omega arith; few = h; keeps = tt }
  entries_by go ih prev l p n x h false y =
      holds_then (KeyP l prev p n) (TookEntries l d prev p n) (key_of e prev l p n) _ (key-sound e prev l p n x)
      (λ k l₁ q m w. holds_then (Took l₁ d q m) (TookEntries l d prev p n) (val l₁ q m) _ (sound l₁ q m (at_left w.0.0 x))
      (λ v l₂ q₂ m₂ z. holds-map (TookEntries l d prev p n) (entry k v) (go (last k) l₂ q₂ m₂)
      (entries-more l prev p n k l₁ q m w v l₂ q₂ m₂ z (go (last k) l₂ q₂ m₂) (ih (last k) l₂ q₂ m₂ (at_left z.at (at_left w.0.0 x)) z.few))))

  entries-sound : (f : ℕ) (prev : Prev) (l : List ℕ) (p n : ℕ) → p + length l ≡ e → n ≤ 16384 → Holds (TookEntries l d prev p n) (entries_of f val e prev l p n)
  unfolding entries_of
  entries-sound zero prev l p n x h = tt
  entries-sound (suc f) prev l p n x h = entries_by (entries_of f val e) (entries-sound f) prev l p n x h (closes l) refl

module _ (l : List ℕ) (d p n : ℕ) (few : n < 16384) where
  value-str : (g : Got (List ℕ)) → Holds (TextP l p (n + 1)) g → Holds (λ k. Took l d p n (str k)) g
  unfolding encode count Keeps
  value-str (got k r q m) h = record { at = h.0; counted = h.1; few = omega (arith, h.1); keeps = tt }
  value-str (bad r q) h = tt

  value-int : (g : Got ℤ) → Holds (IntP l p (n + 1)) g → Holds (λ z. Took l d p n (int z)) g
  unfolding encode count Keeps
  value-int (got z r q m) h = record { at = h.0; counted = h.1; few = omega (arith, h.1); keeps = tt }
  value-int (bad r q) h = tt

  value-list : (t : List ℕ) → l ≡ 108 ∷ t → (g : Got Items) → Holds (TookItems t d (p + 1) (n + 1)) g → Holds (λ vs. Took l (suc d) p n (list vs)) g
  unfolding encode count Keeps
  value-list t x (got vs r q m) h = record { at = subst (λ (w : List ℕ). At w p r q (108 ∷ encode_items vs)) (sym x) (at-then (at_byte 108 t p) h.at); counted = omega (arith, h.counted); few = h.few; keeps = (d, refl, h.keeps) }
  value-list t x (bad r q) h = tt

  value-dict : (t : List ℕ) → l ≡ 100 ∷ t → (g : Got Entries) → Holds (TookEntries t d start (p + 1) (n + 1)) g → Holds (λ es. Took l (suc d) p n (dict es)) g
  unfolding encode count Keeps
  value-dict t x (got es r q m) h = record { at = subst (λ (w : List ℕ). At w p r q (100 ∷ encode_entries es)) (sym x) (at-then (at_byte 100 t p) h.at); counted = omega (arith, h.counted); few = h.few; keeps = (d, refl, h.keeps) }
  value-dict t x (bad r q) h = tt

-- what a kind says of the byte
abbrev pub KindP : ℕ → Kind → Type 0
KindP b digit = is_digit b ≡ true
KindP b letter_i = b ≡ 105
KindP b letter_l = b ≡ 108
KindP b letter_d = b ≡ 100
KindP b other = Unit

pub kind-view : (b : ℕ) → KindP b (kind_of b)
unfolding kind_of
kind-view b =
    by-test (KindP b) (eqb b 105) (λ y. eqb-true b 105 y)
    (λ x. by-test (KindP b) (eqb b 108) (λ y. eqb-true b 108 y)
    (λ x. by-test (KindP b) (eqb b 100) (λ y. eqb-true b 100 y)
    (λ x. by-test (KindP b) (is_digit b) (λ y. y) (λ y. tt))))

value-by : (d e b : ℕ) (t : List ℕ) (p n : ℕ) (ls : List ℕ → ℕ → ℕ → Got Items) (ds : List ℕ → ℕ → ℕ → Got Entries) → p + suc (length t) ≡ e → (k : Kind) → KindP b k
    → (b ≡ 108 → n < 16384 → Holds (λ vs. Took (b ∷ t) d p n (list vs)) (ls t (p + 1) (n + 1)))
    → (b ≡ 100 → n < 16384 → Holds (λ es. Took (b ∷ t) d p n (dict es)) (ds t (p + 1) (n + 1)))
    → Holds (Took (b ∷ t) d p n) (value_by k ls ds e b t p n)
value-by d e b t p n ls ds x other v hl hd = tt
value-by d e b t p n ls ds x digit v hl hd = holds-begin (Took (b ∷ t) d p n) n p _ (λ l. holds-map (Took (b ∷ t) d p n) str (string_of e b t p (n + 1))
    (value-str (b ∷ t) d p n l (string_of e b t p (n + 1)) (string-sound e b t p (n + 1) v x)))
value-by d e b t p n ls ds x letter_i v hl hd = holds-begin (Took (b ∷ t) d p n) n p _ (λ l. holds-map (Took (b ∷ t) d p n) int (integer_of e t (p + 1) (n + 1))
    (value-int (b ∷ t) d p n l (integer_of e t (p + 1) (n + 1))
    (subst (λ (c : ℕ). Holds (IntP (c ∷ t) p (n + 1)) (integer_of e t (p + 1) (n + 1))) (sym v) (int-sound e p t (n + 1)))))
value-by d e b t p n ls ds x letter_l v hl hd = holds-begin (Took (b ∷ t) d p n) n p _ (λ l. holds-map (Took (b ∷ t) d p n) list (ls t (p + 1) (n + 1)) (hl v l))
value-by d e b t p n ls ds x letter_d v hl hd = holds-begin (Took (b ∷ t) d p n) n p _ (λ l. holds-map (Took (b ∷ t) d p n) dict (ds t (p + 1) (n + 1)) (hd v l))

-- What is taken stands there as it is written, is counted, and keeps the rules.
pub value-sound : (d e : ℕ) (l : List ℕ) (p n : ℕ) → p + length l ≡ e → Holds (Took l d p n) (value_from d e l p n)
unfolding value_from
value-sound zero e [] p n x = tt
value-sound zero e (b ∷ t) p n x = value-by 0 e b t p n _ _ x (kind_of b) (kind-view b) (λ y h. tt) (λ y h. tt)
value-sound (suc d) e [] p n x = tt
value-sound (suc d) e (b ∷ t) p n x =
    value-by (suc d) e b t p n _ _ x (kind_of b) (kind-view b)
    (λ y h. value-list (b ∷ t) d p n h t (ap (λ (c : ℕ). c ∷ t) y) (items_of (suc e) (value_from d e) e t (p + 1) (n + 1)) (items-sound d e (value_from d e) (value-sound d e) (suc e) t (p + 1) (n + 1) (omega arith) (omega arith)))
    (λ y h. value-dict (b ∷ t) d p n h t (ap (λ (c : ℕ). c ∷ t) y) (entries_of (suc e) (value_from d e) e start t (p + 1) (n + 1)) (entries-sound d e (value_from d e) (value-sound d e) (suc e) start t (p + 1) (n + 1) (omega arith) (omega arith)))
