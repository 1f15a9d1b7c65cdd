-- A value that is written so and keeps the rules is taken. Assumes nothing.
use mathlib.Core.Path.{◌≡◌, refl, ap, ◌∙◌}
use mathlib.Core.Bool.{true, false}
use mathlib.Core.List.{List, [], ◌∷◌, ◌++◌, append_assoc}
use Prim.Native.Nat.{ℕ, zero, suc, ◌+◌, ◌<◌, ◌≤◌}
use native.Mathlib.Omega.{arith}
use lib.ListN.{length, length-append}
use borrow.Author.Tests.{lt-ltb, ne_eqb}
use Rattle.bencode_scalar.specs.Written.{written_string, signed}
use Rattle.bencode_scalar.specs.Reading.{Got, got, map_got, is_digit, string_of, integer_of}
use Rattle.bencode_scalar.proofs.Decimal.{digit-range}
use Rattle.bencode_scalar.proofs.Complete.{numeral, Key, string-complete, int-complete}
use Rattle.bencode.specs.Value.{Value, Items, Entries, str, int, list, dict, none, item, empty, entry, encode, encode_items, encode_entries, count, count_items, count_entries, Keeps, KeepsItems, KeepsEntries, Prev, start, last, follows}
use Rattle.bencode.specs.Decode.{digit, kind_of, closes, items_of, key_of, entries_of, value_from}

-- the value at a byte
module _ (e : ℕ) (t : List ℕ) (p n : ℕ) (few : n < 16384) where
  pub str-here : (d b : ℕ) → kind_of b ≡ digit → value_from d e (b ∷ t) p n ≡ map_got str (string_of e b t p (n + 1))
  unfolding value_from
  str-here zero b k = rw (k, lt-ltb n 16384 few)
  str-here (suc d) b k = rw (k, lt-ltb n 16384 few)

  pub int-here : (d : ℕ) → value_from d e (105 ∷ t) p n ≡ map_got int (integer_of e t (p + 1) (n + 1))
  unfolding value_from kind_of
  int-here zero = rw (lt-ltb n 16384 few)
  int-here (suc d) = rw (lt-ltb n 16384 few)

  pub list-here : (d : ℕ) → value_from (suc d) e (108 ∷ t) p n ≡ map_got list (items_of (suc e) (value_from d e) e t (p + 1) (n + 1))
  unfolding value_from kind_of
  list-here d = rw (lt-ltb n 16384 few)

  pub dict-here : (d : ℕ) → value_from (suc d) e (100 ∷ t) p n ≡ map_got dict (entries_of (suc e) (value_from d e) e start t (p + 1) (n + 1))
  unfolding value_from kind_of
  dict-here d = rw (lt-ltb n 16384 few)

pub kind-digit : (b : ℕ) → is_digit b ≡ true → kind_of b ≡ digit
unfolding kind_of
kind-digit b d =
    let r = digit-range b d in
    rw (ne_eqb b 105 (omega arith), ne_eqb b 108 (omega arith), ne_eqb b 100 (omega arith), d)

-- the first byte of a value is no e
pub first_byte : (v : Value) → (b : ℕ) × (w : List ℕ) × (encode v ≡ b ∷ w) × ((b ≡ 101) → ⊥)
unfolding encode
first_byte (str k) =
    let m = numeral (length k) 58 k refl in
    let d = digit-range m.first m.starts in
    (m.first, m.rest, m.text, omega arith)
first_byte (int z) = (105, signed z ++ 101 ∷ [], refl, omega arith)
first_byte (list vs) = (108, encode_items vs, refl, omega arith)
first_byte (dict es) = (100, encode_entries es, refl, omega arith)

pub encode-pos : (v : Value) → 0 < length (encode v)
encode-pos v = let f = first_byte v in rw f.2 (omega arith)

-- one turn of a list; of a dictionary
pub items-item : (f e : ℕ) (val : List ℕ → ℕ → ℕ → Got Value) (l : List ℕ) (p n b : ℕ) (w : List ℕ) (v : Value) (l₁ : List ℕ) (r m : ℕ) (vs : Items) (l₂ : List ℕ) (q j : ℕ) → e < p + f → p ≤ e → l ≡ b ∷ w → ((b ≡ 101) → ⊥)
    → val l p n ≡ got v l₁ r m → ((g : ℕ) → e < p + suc g → items_of g val e l₁ r m ≡ got vs l₂ q j) → items_of f val e l p n ≡ got (item v vs) l₂ q j
unfolding items_of
items-item zero e val l p n b w v l₁ r m vs l₂ q j h i y x z k = absurd (omega arith)
items-item (suc f) e val l p n b w v l₁ r m vs l₂ q j h i y x z k =
    let a : closes l ≡ false = rw (y, ne_eqb _ _ x) in
    rw (a, z, k f h)

pub items-none : (f e : ℕ) (val : List ℕ → ℕ → ℕ → Got Value) (r : List ℕ) (p n : ℕ) → e < p + f → p ≤ e → items_of f val e (101 ∷ r) p n ≡ got none r (p + 1) n
unfolding items_of
items-none zero e val r p n h i = absurd (omega arith)
items-none (suc f) e val r p n h i = refl

pub entries_none : (f e : ℕ) (val : List ℕ → ℕ → ℕ → Got Value) (prev : Prev) (r : List ℕ) (p n : ℕ) → e < p + f → p ≤ e → entries_of f val e prev (101 ∷ r) p n ≡ got empty r (p + 1) n
unfolding entries_of
entries_none zero e val prev r p n h i = absurd (omega arith)
entries_none (suc f) e val prev r p n h i = refl

pub entries-entry : (f e : ℕ) (val : List ℕ → ℕ → ℕ → Got Value) (prev : Prev) (l : List ℕ) (p n : ℕ) (k l₁ : List ℕ) (y : Key e k l₁ p) (v : Value) (l₂ : List ℕ) (r m : ℕ) (es : Entries) (l₃ : List ℕ) (q j : ℕ)
    → e < p + f → p ≤ e → n < 16384 → l ≡ y.first ∷ y.rest → follows prev k ≡ true
    → val l₁ (p + length (written_string k)) (n + 1) ≡ got v l₂ r m → ((g : ℕ) → e < p + suc g → entries_of g val e (last k) l₂ r m ≡ got es l₃ q j) → entries_of f val e prev l p n ≡ got (entry k v es) l₃ q j
unfolding entries_of key_of
entries-entry zero e val prev l p n k l₁ y v l₂ r m es l₃ q j h i s x w z g = absurd (omega arith)
entries-entry (suc f) e val prev l p n k l₁ y v l₂ r m es l₃ q j h i s x w z g =
    let d = digit-range y.first y.starts in
    rw (x, ne_eqb y.first 101 (omega arith), y.starts, lt-ltb n 16384 s, y.reads (n + 1), w, z, g f h)

places : {A : Type 0} {v : A} {r : List ℕ} {p q m n : ℕ} → p ≡ q → m ≡ n → got v r p m ≡ got v r q n
places x y = rw (x, y)

mutual
  unfolding encode count Keeps

  pub complete : (v : Value) (d e : ℕ) (r : List ℕ) (p n : ℕ) → Keeps v d → p + length (encode v ++ r) ≡ e → n + count v ≤ 16384 → value_from d e (encode v ++ r) p n ≡ got v r (p + length (encode v)) (n + count v)
  complete (str k) d e r p n h x c =
      let y = string-complete e k r p x in
      ap (λ (l : List ℕ). value_from d e l p n) y.text ∙ str-here e y.rest p n (omega arith) d y.first (kind-digit y.first y.starts) ∙ ap (map_got str) (y.reads (n + 1))
  complete (int z) d e r p n h x c = int-here e ((signed z ++ 101 ∷ []) ++ r) p n (omega arith) d ∙ ap (map_got int) (int-complete e p z r (n + 1))
  complete (list vs) d e r p n h x c =
      rw h.1 (list-here e (encode_items vs ++ r) p n (omega arith) h.0
      ∙ ap (map_got list) (complete-items vs h.0 e r (p + 1) (n + 1) (suc e) h.2 (omega arith) (omega arith) (omega arith))
      ∙ places (omega arith) (omega arith))
  complete (dict es) d e r p n h x c =
      rw h.1 (dict-here e (encode_entries es ++ r) p n (omega arith) h.0
      ∙ ap (map_got dict) (complete-entries es h.0 e start r (p + 1) (n + 1) (suc e) h.2 (omega arith) (omega arith) (omega arith))
      ∙ places (omega arith) (omega arith))

  pub complete-items : (vs : Items) (d e : ℕ) (r : List ℕ) (p n f : ℕ) → KeepsItems vs d → p + length (encode_items vs ++ r) ≡ e → n + count_items vs ≤ 16384 → e < p + f
      → items_of f (value_from d e) e (encode_items vs ++ r) p n ≡ got vs r (p + length (encode_items vs)) (n + count_items vs)
  complete-items none d e r p n f h x c l = items-none f e (value_from d e) r p n l (omega arith) ∙ places refl (omega arith)
  complete-items (item v vs) d e r p n f h x c l =
      let b = first_byte v in
      let a = append_assoc (encode v) (encode_items vs) r in
      let z : p + length (encode v ++ (encode_items vs ++ r)) ≡ e = omega (arith, ap length a) in
      let w : length (encode v ++ (encode_items vs ++ r)) ≡ length (encode v) + length (encode_items vs ++ r) = length-append (encode v) (encode_items vs ++ r) in
      rw a (items-item f e (value_from d e) (encode v ++ (encode_items vs ++ r)) p n b.0 (b.1 ++ (encode_items vs ++ r)) v (encode_items vs ++ r) (p + length (encode v)) (n + count v) vs r
      (p + length (encode v ++ encode_items vs)) (n + (count v + count_items vs)) l (omega arith) (ap (λ (t : List ℕ). t ++ (encode_items vs ++ r)) b.2) b.3
      (complete v d e (encode_items vs ++ r) p n h.0 z (omega arith))
      (λ g k. complete-items vs d e r (p + length (encode v)) (n + count v) g h.1 (omega arith) (omega arith) (omega (arith, encode-pos v))
      ∙ places (omega (arith, length-append (encode v) (encode_items vs))) (omega arith)))

  pub complete-entries : (es : Entries) (d e : ℕ) (prev : Prev) (r : List ℕ) (p n f : ℕ) → KeepsEntries es d prev → p + length (encode_entries es ++ r) ≡ e → n + count_entries es ≤ 16384 → e < p + f
      → entries_of f (value_from d e) e prev (encode_entries es ++ r) p n ≡ got es r (p + length (encode_entries es)) (n + count_entries es)
  complete-entries empty d e prev r p n f h x c l = entries_none f e (value_from d e) prev r p n l (omega arith) ∙ places refl (omega arith)
  complete-entries (entry k v es) d e prev r p n f h x c l =
      let a : (written_string k ++ (encode v ++ encode_entries es)) ++ r ≡ written_string k ++ (encode v ++ (encode_entries es ++ r)) =
      append_assoc (written_string k) (encode v ++ encode_entries es) r ∙ ap (λ (t : List ℕ). written_string k ++ t) (append_assoc (encode v) (encode_entries es) r) in
      let z : p + length (written_string k ++ (encode v ++ (encode_entries es ++ r))) ≡ e = omega (arith, ap length a) in
      let u : length (written_string k ++ (encode v ++ (encode_entries es ++ r))) ≡ length (written_string k) + length (encode v ++ (encode_entries es ++ r)) = length-append (written_string k) (encode v ++ (encode_entries es ++ r)) in
      let w : length (encode v ++ (encode_entries es ++ r)) ≡ length (encode v) + length (encode_entries es ++ r) = length-append (encode v) (encode_entries es ++ r) in
      let y = string-complete e k (encode v ++ (encode_entries es ++ r)) p z in
      rw a (entries-entry f e (value_from d e) prev (written_string k ++ (encode v ++ (encode_entries es ++ r))) p n k (encode v ++ (encode_entries es ++ r)) y v (encode_entries es ++ r)
      (p + length (written_string k) + length (encode v)) (n + 1 + count v) es r (p + length (written_string k ++ (encode v ++ encode_entries es))) (n + suc (count v + count_entries es))
      l (omega arith) (omega arith) y.text h.0
      (complete v d e (encode_entries es ++ r) (p + length (written_string k)) (n + 1) h.1 (omega arith) (omega arith))
      (λ g j. complete-entries es d e (last k) r (p + length (written_string k) + length (encode v)) (n + 1 + count v) g h.2 (omega arith) (omega arith) (omega (arith, encode-pos v))
      ∙ places (omega (arith, length-append (written_string k) (encode v ++ encode_entries es), length-append (encode v) (encode_entries es))) (omega arith)))
