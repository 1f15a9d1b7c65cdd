-- On a text where a value stands, the walk tells that value part by part; and what skip passes over stands there. Assumes nothing.
use mathlib.Core.Path.{◌≡◌, refl, sym, ap, ◌∙◌, subst}
use mathlib.Core.Bool.{Bool, true, false, cond}
use mathlib.Core.List.{List, [], ◌∷◌, ◌++◌, append_assoc, append-nil}
use Prim.Native.Nat.{ℕ, zero, suc, ◌+◌, ◌-◌, ◌<◌, ◌≤◌}
use native.Mathlib.Omega.{arith}
use lib.Dec.{ltb, eqb}
use lib.IntN.{ℤ}
use lib.ListN.{length, take, drop, length-append, length-drop, drop_of_length-le}
use lib.Seq.{drop-drop, drop-append_seam, take-append_seam}
use borrow.Author.Tests.{ne_eqb, ltb-true, ltb-false}
use Rattle.refusal.specs.Paper.{Outcome, taken, refused, then}
use Rattle.refusal.specs.Numbers.{long as too_long_of}
use Rattle.refusal.specs.Limits.{most_text}
use Rattle.refusal.proofs.Cases.{by-test}
use Rattle.bencode_scalar.specs.Written.{decimal, written_string, signed, written_int, in_range}
use Rattle.bencode_scalar.specs.Reading.{Got, got, bad, on_head, integer_of}
use Rattle.bencode_scalar.proofs.Decimal.{digit-range}
use Rattle.bencode_scalar.proofs.Sound.{Holds}
use Rattle.bencode_scalar.proofs.Complete.{string-complete, int-complete}
use Rattle.bencode.specs.Value.{Value, Items, Entries, str, int, list, dict, none, item, empty, entry, encode, encode_items, encode_entries, count, Keeps, KeepsItems, KeepsEntries, Prev, start, last, follows}
use Rattle.bencode.specs.Decode.{closes, value_from}
use Rattle.bencode.specs.Answers.{step_of}
use Rattle.bencode.specs.Exact.{Fine}
use Rattle.bencode.proofs.Sound.{Took, value-sound}
use Rattle.bencode.proofs.Complete.{complete, first_byte}
use Rattle.bencode_walk.specs.Walk.{Head, string, integer, long, dictionary, end, integer_head, look_at_of, look_of, as_entry, key, close, entry_of, past_of, skip_of}
use Rattle.bencode_walk.specs.Walk as walk
use Rattle.bencode_walk.specs.Stands.{Stands, StandItems, StandEntries}
use Rattle.bencode_walk.proofs.Limited.{unless-long, unless-short}
use Rattle.bencode_walk.proofs.Seeing.{look-short, by_step, past_by}

-- what follows w, where w stands at p
pub past : (s : List ℕ) (p : ℕ) (w r : List ℕ) → drop p s ≡ w ++ r → drop (p + length w) s ≡ r
past s p w r e = sym (drop-drop (length w) p s) ∙ ap (drop (length w)) e ∙ drop-append_seam w r

pub room : (s : List ℕ) (p : ℕ) (w r : List ℕ) → p ≤ length s → drop p s ≡ w ++ r → p + length w ≤ length s
room s p w r h e = omega (arith, length-drop p s, ap length e, length-append w r)

-- more levels do no harm
mutual
  unfolding Keeps

  pub keeps-more : (v : Value) (d e : ℕ) → d ≤ e → Keeps v d → Keeps v e
  keeps-more (str bs) d e h k = tt
  keeps-more (int z) d e h k = tt
  keeps-more (list vs) d zero h k = absurd (omega (arith, k.1))
  keeps-more (list vs) d (suc e) h k = (e, refl, keeps-more-items vs k.0 e (omega (arith, k.1)) k.2)
  keeps-more (dict es) d zero h k = absurd (omega (arith, k.1))
  keeps-more (dict es) d (suc e) h k = (e, refl, keeps-more-entries es k.0 e start (omega (arith, k.1)) k.2)

  keeps-more-items : (vs : Items) (d e : ℕ) → d ≤ e → KeepsItems vs d → KeepsItems vs e
  keeps-more-items none d e h k = tt
  keeps-more-items (item v vs) d e h k = (keeps-more v d e h k.0, keeps-more-items vs d e h k.1)

  keeps-more-entries : (es : Entries) (d e : ℕ) (before : Prev) → d ≤ e → KeepsEntries es d before → KeepsEntries es e before
  keeps-more-entries empty d e before h k = tt
  keeps-more-entries (entry j v es) d e before h k = (k.0, keeps-more v d e h k.1, keeps-more-entries es d e (last j) h k.2)

-- a text that is taken has its value at 0
pub fine-stands : (s : List ℕ) (v : Value) → Fine s v → Stands s 32 0 v
fine-stands s v f = record { rest = []; text = f.text ∙ sym (append-nil (encode v)); inside = omega arith; short = f.short; keeps = f.keeps; few = f.few }

-- of a text that is not too long, the value reader alone decides
pub skip-short : (s : List ℕ) (p : ℕ) → length s ≤ most_text → past_of (value_from 32 (length s) (drop p s) p 0) ≡ skip_of s p
unfolding skip_of
skip-short s p h = unless-short s _ h

-- and its answer is that of skip
pub value-skipped : (s : List ℕ) (p : ℕ) → length s ≤ most_text → by_step (step_of (value_from 32 (length s) (drop p s) p 0)) ≡ skip_of s p
value-skipped s p h = past_by (value_from 32 (length s) (drop p s) p 0) ∙ skip-short s p h

pub skip-long : (s : List ℕ) (p : ℕ) → most_text < length s → refused too_long_of 0 ≡ skip_of s p
unfolding skip_of
skip-long s p h = unless-long s _ h

-- skip goes past the value that stands there, and what it goes past stands there
pub skip-past : (s : List ℕ) (d p : ℕ) (v : Value) → d ≤ 32 → Stands s d p v → skip_of s p ≡ taken (p + length (encode v))
skip-past s d p v h t =
    sym (skip-short s p t.short)
    ∙ ap (λ (l : List ℕ). past_of (value_from 32 (length s) l p 0)) t.text
    ∙ ap past_of (complete v 32 (length s) t.rest p 0 (keeps-more v d 32 h t.keeps) (omega (arith, length-drop p s, ap length t.text, t.inside)) (omega (arith, t.few)))

abbrev Passed : List ℕ → ℕ → Outcome ℕ → Type 0
Passed s p (taken q) = (v : Value) × Stands s 32 p v × (q ≡ p + length (encode v))
Passed s p (refused r o) = Unit

passed-by : (s : List ℕ) (p : ℕ) → length s ≤ most_text → p ≤ length s → (g : Got Value) → Holds (Took (drop p s) 32 p 0) g → Passed s p (past_of g)
passed-by s p l h (got v r q m) t = (v, record { rest = r; text = t.at.text; inside = h; short = l; keeps = t.keeps; few = omega (arith, t.counted, t.few) }, t.at.place)
passed-by s p l h (bad r q) t = tt

nothing-past : (s : List ℕ) (p : ℕ) → length s ≤ p → Passed s p (past_of (value_from 32 (length s) (drop p s) p 0))
unfolding value_from
nothing-past s p h = subst (λ (l : List ℕ). Passed s p (past_of (value_from 32 (length s) l p 0))) (sym (drop_of_length-le s h)) tt

value-passed : (s : List ℕ) (p : ℕ) → length s ≤ most_text → (t : Bool) → ltb p (length s) ≡ t → Passed s p (past_of (value_from 32 (length s) (drop p s) p 0))
value-passed s p l true e =
    let h = ltb-true p (length s) e in
    passed-by s p l (omega arith) (value_from 32 (length s) (drop p s) p 0) (value-sound 32 (length s) (drop p s) p 0 (omega (arith, length-drop p s)))
value-passed s p l false e = nothing-past s p (ltb-false p (length s) e)

skip-passed : (s : List ℕ) (p : ℕ) → Passed s p (skip_of s p)
unfolding skip_of
skip-passed s p = by-test (Passed s p) (ltb most_text (length s)) (λ e. tt) (λ e. value-passed s p (ltb-false most_text (length s) e) (ltb p (length s)) refl)

pub skip-stands : (s : List ℕ) (p q : ℕ) → skip_of s p ≡ taken q → (v : Value) × Stands s 32 p v × (q ≡ p + length (encode v))
skip-stands s p q e = subst (Passed s p) e (skip-passed s p)

-- by what stands at p: b and then t
look-by : (s : List ℕ) (p b : ℕ) (t : List ℕ) → length s ≤ most_text → drop p s ≡ b ∷ t → look_of s p ≡ look_at_of s p b
look-by s p b t h e = sym (look-short s p h) ∙ ap (λ (l : List ℕ). on_head l (refused 1 (length s)) (λ c u. look_at_of s p c)) e

-- a string's bytes
pub record Bytes (s : List ℕ) (p : ℕ) (bs : List ℕ) : Type 0 where
  pub from : ℕ
  pub seen : look_of s p ≡ taken (string from (length bs) (p + length (written_string bs)))
  pub bytes : take (length bs) (drop from s) ≡ bs

look-written : (s : List ℕ) (p : ℕ) (bs r : List ℕ) → length s ≤ most_text → p ≤ length s → drop p s ≡ written_string bs ++ r → Bytes s p bs
look-written s p bs r l h e =
    let y = string-complete (length s) bs r p (omega (arith, length-drop p s, ap length e)) in
    let f : drop p s ≡ y.first ∷ y.rest = e ∙ y.text in
    let d = digit-range y.first y.starts in
    let k : length (written_string bs) ≡ length (decimal (length bs)) + suc (length bs) = length-append (decimal (length bs)) (58 ∷ bs) in
    let a : p + length (written_string bs) - length bs ≡ p + length (decimal (length bs) ++ 58 ∷ []) = omega (arith, length-append (decimal (length bs)) (58 ∷ [])) in
    let g : drop p s ≡ (decimal (length bs) ++ 58 ∷ []) ++ (bs ++ r) = e ∙ append_assoc (decimal (length bs)) (58 ∷ bs) r ∙ sym (append_assoc (decimal (length bs)) (58 ∷ []) (bs ++ r)) in
    record {
      from = p + length (written_string bs) - length bs;
      seen = look-by s p y.first y.rest l f ∙ rw (ne_eqb y.first 105 (omega arith), ne_eqb y.first 108 (omega arith), ne_eqb y.first 100 (omega arith), ne_eqb y.first 101 (omega arith), f, y.starts, y.reads 0);
      bytes = ap (λ (i : ℕ). take (length bs) (drop i s)) a ∙ ap (take (length bs)) (past s p (decimal (length bs) ++ 58 ∷ []) (bs ++ r) g) ∙ take-append_seam bs r;
    }

-- an integer z at p, as a look tells it
abbrev pub told_as : ℕ → ℤ → Head
told_as p z = cond (in_range z) (integer z (p + length (written_int z))) (long (p + 1) (length (signed z)) (p + length (written_int z)))

module _ (s : List ℕ) (d p : ℕ) where
  pub string-stands : (bs : List ℕ) → Stands s d p (str bs) → Bytes s p bs
  unfolding encode
  string-stands bs t = look-written s p bs t.rest t.short t.inside t.text

  -- an integer's number; outside 64 bits where its sign and digits stand, between the i and the e
  pub integer-stands : (z : ℤ) → Stands s d p (int z) → look_of s p ≡ taken (told_as p z)
  unfolding encode
  integer-stands z t =
      let a : p + length (written_int z) - (p + 2) ≡ length (signed z) = omega (arith, length-append (signed z) (101 ∷ [])) in
      look-by s p 105 ((signed z ++ 101 ∷ []) ++ t.rest) t.short t.text
      ∙ ap (λ (l : List ℕ). integer_head p (on_head l (bad 1 (length s)) (λ b u. cond (eqb b 105) (integer_of (length s) u (p + 1) 0) (bad 2 p)))) t.text
      ∙ ap (integer_head p) (int-complete (length s) p z t.rest 0)
      ∙ ap (λ (m : ℕ). taken (cond (in_range z) (integer z (p + length (written_int z))) (long (p + 1) m (p + length (written_int z))))) a

  pub number-stands : (z : ℤ) → in_range z ≡ true → Stands s d p (int z) → look_of s p ≡ taken (integer z (p + length (written_int z)))
  number-stands z i t = integer-stands z t ∙ rw i

  pub long-stands : (z : ℤ) → in_range z ≡ false → Stands s d p (int z) → look_of s p ≡ taken (long (p + 1) (length (signed z)) (p + length (written_int z)))
  long-stands z o t = integer-stands z t ∙ rw o

  -- the bytes between the i and the e
  pub digits-stand : (z : ℤ) → Stands s d p (int z) → take (length (signed z)) (drop (p + 1) s) ≡ signed z
  unfolding encode
  digits-stand z t =
      ap (take (length (signed z))) (past s p (105 ∷ []) ((signed z ++ 101 ∷ []) ++ t.rest) t.text ∙ append_assoc (signed z) (101 ∷ []) t.rest) ∙ take-append_seam (signed z) (101 ∷ t.rest)

  -- a list, and its items
  pub list-stands : (vs : Items) → Stands s d p (list vs) → (look_of s p ≡ taken (walk.list (p + 1))) × ((e : ℕ) × (d ≡ suc e) × StandItems s e (p + 1) vs)
  unfolding encode Keeps count
  list-stands vs t = (
    look-by s p 108 (encode_items vs ++ t.rest) t.short t.text,
    (
      t.keeps.0,
      t.keeps.1,
      record { rest = t.rest; text = past s p (108 ∷ []) (encode_items vs ++ t.rest) t.text; inside = room s p (108 ∷ []) (encode_items vs ++ t.rest) t.inside t.text; short = t.short; keeps = t.keeps.2; few = omega (arith, t.few) },
    ),
  )

  pub items-end : StandItems s d p none → look_of s p ≡ taken (end (p + 1))
  unfolding encode
  items-end t = look-by s p 101 t.rest t.short t.text

  pub items-next : (v : Value) (vs : Items) → StandItems s d p (item v vs) → Stands s d p v × StandItems s d (p + length (encode v)) vs
  unfolding encode Keeps count
  items-next v vs t =
      let e : drop p s ≡ encode v ++ (encode_items vs ++ t.rest) = t.text ∙ append_assoc (encode v) (encode_items vs) t.rest in (
        record { rest = encode_items vs ++ t.rest; text = e; inside = t.inside; short = t.short; keeps = t.keeps.0; few = omega (arith, t.few) },
        record { rest = t.rest; text = past s p (encode v) (encode_items vs ++ t.rest) e; inside = room s p (encode v) (encode_items vs ++ t.rest) t.inside e; short = t.short; keeps = t.keeps.1; few = omega (arith, t.few) },
      )

  -- a dictionary, and its entries
  pub dictionary-stands : (es : Entries) → Stands s d p (dict es) → (look_of s p ≡ taken (dictionary (p + 1))) × ((e : ℕ) × (d ≡ suc e) × StandEntries s e (p + 1) start es)
  unfolding encode Keeps count
  dictionary-stands es t = (
    look-by s p 100 (encode_entries es ++ t.rest) t.short t.text,
    (
      t.keeps.0,
      t.keeps.1,
      record { rest = t.rest; text = past s p (100 ∷ []) (encode_entries es ++ t.rest) t.text; inside = room s p (100 ∷ []) (encode_entries es ++ t.rest) t.inside t.text; short = t.short; keeps = t.keeps.2; few = omega (arith, t.few) },
    ),
  )

  pub entries-end : (before : Prev) → StandEntries s d p before empty → entry_of s p ≡ taken (close (p + 1))
  unfolding encode
  entries-end before t = ap (λ (o : Outcome Head). then o (as_entry p)) (look-by s p 101 t.rest t.short t.text)

  -- the next entry: its key's bytes, its value at the place past the key, and the entries after it
  pub record Entered (before : Prev) (k : List ℕ) (v : Value) (es : Entries) : Type 0 where
    pub from : ℕ
    pub seen : entry_of s p ≡ taken (key from (length k) (p + length (written_string k)))
    pub bytes : take (length k) (drop from s) ≡ k
    pub greater : follows before k ≡ true
    pub value : Stands s d (p + length (written_string k)) v
    pub others : StandEntries s d (p + length (written_string k) + length (encode v)) (last k) es

  pub entries_next : (before : Prev) (k : List ℕ) (v : Value) (es : Entries) → StandEntries s d p before (entry k v es) → Entered before k v es
  unfolding encode Keeps count
  entries_next before k v es t =
      let e : drop p s ≡ written_string k ++ (encode v ++ (encode_entries es ++ t.rest)) =
      t.text ∙ append_assoc (written_string k) (encode v ++ encode_entries es) t.rest ∙ ap (λ (l : List ℕ). written_string k ++ l) (append_assoc (encode v) (encode_entries es) t.rest) in
      let f = past s p (written_string k) (encode v ++ (encode_entries es ++ t.rest)) e in
      let i = room s p (written_string k) (encode v ++ (encode_entries es ++ t.rest)) t.inside e in
      let b = look-written s p k (encode v ++ (encode_entries es ++ t.rest)) t.short t.inside e in
      record {
        from = b.from;
        seen = ap (λ (o : Outcome Head). then o (as_entry p)) b.seen;
        bytes = b.bytes;
        greater = t.keeps.0;
        value = record { rest = encode_entries es ++ t.rest; text = f; inside = i; short = t.short; keeps = t.keeps.1; few = omega (arith, t.few) };
        others = record {
          rest = t.rest;
          text = past s (p + length (written_string k)) (encode v) (encode_entries es ++ t.rest) f;
          inside = room s (p + length (written_string k)) (encode v) (encode_entries es ++ t.rest) i f;
          short = t.short;
          keeps = t.keeps.2;
          few = omega (arith, t.few);
        };
      }

-- whether a list ends there
pub closes-none : (s : List ℕ) (d p : ℕ) → StandItems s d p none → closes (drop p s) ≡ true
unfolding encode_items
closes-none s d p t = ap closes t.text

pub closes-item : (s : List ℕ) (d p : ℕ) (v : Value) (vs : Items) → StandItems s d p (item v vs) → closes (drop p s) ≡ false
closes-item s d p v vs t =
    let f = first_byte v in
    let n = items-next s d p v vs t in
    ap closes (n.0.text ∙ ap (λ (l : List ℕ). l ++ n.0.rest) f.2) ∙ ne_eqb f.0 101 f.3
