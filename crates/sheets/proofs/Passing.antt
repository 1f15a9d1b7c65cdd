-- What the pass over a sheet comes to, turn by turn: what is left of it, from here on, comes to what the whole does. Assumes nothing.
use Rattle.std.specs.Prelude.{Err, Ok}
use mathlib.Core.Path.{◌≡◌, refl, sym, ap, ◌∙◌}
use mathlib.Core.Bool.{Bool, true, false, cond}
use mathlib.Core.List.{List, [], ◌∷◌}
use Prim.Native.Nat.{ℕ, zero, suc, ◌+◌, ◌<◌, ◌≤◌}
use native.Mathlib.Omega.{arith}
use lib.Dec.{eqb}
use lib.ListN.{length, get_or, drop, length-append, drop_of_length-le}
use borrow.Author.Tests.{lt-ltb, le-ltb, ne_eqb}
use Rattle.refusal.specs.Numbers.{cut, after, long, kind}
use Rattle.refusal.specs.Limits.{most_text}
use Rattle.refusal.specs.Paper.{Outcome, taken, refused, then}
use Rattle.refusal.specs.declared.Refusal.{Refusal}
use Rattle.refusal.proofs.Cases.{less-or}
use Rattle.refusal.proofs.Outcomes.{map-taken, map-refused}
use Rattle.bencode_scalar.specs.Written.{decimal, written_string}
use Rattle.bencode_scalar.specs.Reading.{Got, got, bad, and_then, map_got}
use Rattle.bencode_scalar.proofs.Forms.{at_head, at_byte}
use Rattle.bencode.specs.Value.{Value, Entries, str, int, list, dict, empty, entry, encode, count, Prev, start, last}
use Rattle.bencode.specs.Decode.{kind_of, closes, key_of, entries_of, value_from, whole_of, decode}
use Rattle.bencode.specs.Answers.{check_of}
use Rattle.bencode.proofs.Exact.{taken_fine}
use Rattle.bencode_walk.specs.Lookup.{Under, under, same_key, lookup}
use Rattle.bencode_fields.specs.Values.{part_of, string_at}
use Rattle.sheets.specs.declared.rows.Stage.{Stage}
use Rattle.sheets.specs.Rules.{rows_of, Listed, listed, unlisted, listed_under, searched, sheet_at, sheet_of}
use Rattle.sheets.specs.Reading.{listed_as}
use Rattle.sheets.specs.Turns.{prev_in, Line, line, line_in, either, under_key, noted, Turned, ended_as}
use Rattle.sheets.proofs.Lines.{Lies, lies}

-- what the rows so far come to, o, and then those after them
abbrev joined : Outcome Listed → Outcome Listed → Outcome Listed
joined (taken a) x = then x (λ b. taken (either a b))
joined (refused n p) x = refused n p

-- the same where those after them, from p on, are still to be read
abbrev came : List ℕ → Outcome Listed → ℕ → Got Entries → Outcome Listed
came h o p (got es [] q m) = joined o (searched h p es)
came h o p (got es (b ∷ t) q m) = refused after q
came h o p (bad n q) = refused n q

-- ---- one row more

-- a string under a key of 20 bytes
listed-on : (h k bs : List ℕ) (q : ℕ) (a : Listed) (u : Under) → either a (listed_under (cond (same_key k h) (under q (str bs)) u)) ≡ either (either a (under_key h k (part_of q bs))) (listed_under u)
listed-on h k bs q a u = go (same_key k h) a
  where
    go : (t : Bool) (a : Listed) → either a (listed_under (cond t (under q (str bs)) u)) ≡ either (either a (cond t (listed (part_of q bs)) unlisted)) (listed_under u)
    go true (listed x) = refl
    go true unlisted = refl
    go false (listed x) = refl
    go false unlisted = refl

module _ (h : List ℕ) (p : ℕ) (k : List ℕ) (es : Entries) where
  abbrev value-at : ℕ
  value-at = p + length (written_string k)

  then-on : (a b : Listed) (o : Outcome (Unit {0})) (c d : Listed) → either a c ≡ either b d → then (then o (λ x. taken c)) (λ y. taken (either a y)) ≡ then (then o (λ x. taken d)) (λ y. taken (either b y))
  then-on a b (taken x) c d e = ap taken e
  then-on a b (refused n q) c d e = refl

  row_on : (a : Listed) (v : Value) → joined (taken a) (searched h p (entry k v es)) ≡ joined (noted h p (line k value-at v) (taken a)) (searched h (value-at + length (encode v)) es)
  unfolding rows_of lookup
  row_on a v = go (eqb (length k) 20) v
    where
      go : (t : Bool) (v : Value)
          → then (then (cond t (then (string_at value-at v) (λ x. rows_of (value-at + length (encode v)) es)) (refused 15 p)) (λ x. taken (listed_under (cond (same_key k h) (under value-at v) (lookup (value-at + length (encode v)) es h))))) (λ b. taken (either a b))
          ≡ joined (cond t (then (string_at value-at v) (λ x. taken (either a (under_key h k x)))) (refused 15 p)) (searched h (value-at + length (encode v)) es)
      go false v = refl
      go true (str bs) = then-on a (either a (under_key h k (part_of value-at bs))) (rows_of (value-at + length (encode (str bs))) es) _ _ (listed-on h k bs value-at a (lookup (value-at + length (encode (str bs))) es h))
      go true (int z) = refl
      go true (list vs) = refl
      go true (dict ds) = refl

  joined-on : (o : Outcome Listed) (v : Value) → joined o (searched h p (entry k v es)) ≡ joined (noted h p (line k value-at v) o) (searched h (value-at + length (encode v)) es)
  joined-on (taken a) v = row_on a v
  joined-on (refused n q) v = refl

came-on : (h : List ℕ) (o : Outcome Listed) (p e q : ℕ) (x : Line) (r : List ℕ) → Lies p e x r q → (g : Got Entries) → came h o p (map_got (entry x.key x.value) g) ≡ came h (noted h p x o) q g
came-on h o p e q x r l (got es [] i m) =
    joined-on h p x.key es o x.value
    ∙ ap (λ (j : ℕ). joined (noted h p (line x.key j x.value) o) (searched h (j + length (encode x.value)) es)) (sym l.placed)
    ∙ ap (λ (j : ℕ). joined (noted h p x o) (searched h j es)) (sym l.ends)
came-on h o p e q x r l (got es (b ∷ t) i m) = refl
came-on h o p e q x r l (bad n i) = refl

-- a key as it is written has a colon at least
key-long : (k : List ℕ) → 1 ≤ length (written_string k)
key-long k = omega (arith, length-append (decimal (length k)) (58 ∷ k))

-- ---- the turns: `left` is what is left of the bound on their number

abbrev rest : List ℕ → ℕ → Prev → ℕ → ℕ → Got Entries
rest s f before p n = entries_of f (value_from 31 (length s)) (length s) before (drop p s) p n

abbrev whole : List ℕ → List ℕ → Outcome Listed
whole s h = came h (taken unlisted) 1 (rest s (suc (length s)) start 1 1)

pub record Passing (s h : List ℕ) (p : Stage) : Type 0 where
  pub left : ℕ
  pub enough : length s < p.at + left
  pub same : came h (listed_as p.row) p.at (rest s left (prev_in s p.before) p.at p.count) ≡ whole s h

line_on : (s : List ℕ) (f : ℕ) (before : Prev) (p n : ℕ) → p < length s → (get_or s p 0 ≡ 101 → ⊥)
    → rest s (suc f) before p n ≡ and_then (line_in s before p n) (λ (x : Line) l q m. map_got (entry x.key x.value) (entries_of f (value_from 31 (length s)) (length s) (last x.key) l q m))
unfolding entries_of
line_on s f before p n l x =
    let c : closes (drop p s) ≡ false = rw (at_head s p l, ne_eqb _ _ x) in
    rw c (go (key_of (length s) before (drop p s) p n))
  where
    by_value : (k : List ℕ) (q : ℕ) (g : Got Value)
        → and_then g (λ v l₂ p₂ n₂. map_got (entry k v) (entries_of f (value_from 31 (length s)) (length s) (last k) l₂ p₂ n₂))
        ≡ and_then (map_got (line k q) g) (λ (x : Line) l q m. map_got (entry x.key x.value) (entries_of f (value_from 31 (length s)) (length s) (last x.key) l q m))
    by_value k q (got v l i j) = refl
    by_value k q (bad r i) = refl

    go : (g : Got (List ℕ))
        → and_then g (λ k l₁ p₁ n₁. and_then (value_from 31 (length s) l₁ p₁ n₁) (λ v l₂ p₂ n₂. map_got (entry k v) (entries_of f (value_from 31 (length s)) (length s) (last k) l₂ p₂ n₂)))
        ≡ and_then (and_then g (λ k l q m. map_got (line k q) (value_from 31 (length s) l q m))) (λ (x : Line) l q m. map_got (entry x.key x.value) (entries_of f (value_from 31 (length s)) (length s) (last x.key) l q m))
    go (got k l q m) = by_value k q (value_from 31 (length s) l q m)
    go (bad r q) = refl

module _ (s h : List ℕ) (p : Stage) (t : Passing s h p) where
  out-with : (f : ℕ) → length s ≤ p.at → rest s f (prev_in s p.before) p.at p.count ≡ bad cut (length s)
  unfolding entries_of key_of
  out-with zero l = refl
  out-with (suc f) l = rw (drop_of_length-le s l)

  pub passing-out : length s ≤ p.at → refused cut (length s) ≡ whole s h
  passing-out l = sym (ap (came h (listed_as p.row) p.at) (out-with t.left l)) ∙ t.same

  close-with : (f : ℕ) → length s < p.at + f → p.at < length s → get_or s p.at 0 ≡ 101 → rest s f (prev_in s p.before) p.at p.count ≡ got empty (drop (p.at + 1) s) (p.at + 1) p.count
  unfolding entries_of
  close-with zero e l x = absurd (omega arith)
  close-with (suc f) e l x = rw (at_byte s p.at 101 l x)

  joined-none : (o : Outcome Listed) → joined o (taken unlisted) ≡ o
  joined-none (taken (listed x)) = refl
  joined-none (taken unlisted) = refl
  joined-none (refused n q) = refl

  ended_by : (o : Outcome Listed) (at n : ℕ) → ended_as (length s) at o ≡ came h o p.at (got empty (drop at s) at n)
  unfolding rows_of lookup
  ended_by o at n =
      less-or at (length s)
      (λ l. rw (lt-ltb at (length s) l, at_head s at l))
      (λ l. rw (le-ltb at (length s) l, drop_of_length-le s l) (sym (joined-none o)))

  pub passing-end : p.at < length s → get_or s p.at 0 ≡ 101 → ended_as (length s) (p.at + 1) (listed_as p.row) ≡ whole s h
  passing-end l x = ended_by (listed_as p.row) (p.at + 1) p.count ∙ ap (came h (listed_as p.row) p.at) (sym (close-with t.left t.enough l x)) ∙ t.same

  module _ (l : p.at < length s) (x : get_or s p.at 0 ≡ 101 → ⊥) where
    bad-with : (f : ℕ) → length s < p.at + f → (r : Refusal) → Turned s h p (Err r) → rest s f (prev_in s p.before) p.at p.count ≡ bad r.number r.place
    bad-with zero e r b = absurd (omega arith)
    bad-with (suc f) e r b = line_on s f (prev_in s p.before) p.at p.count l x ∙ rw b

    pub passing-bad : (r : Refusal) → Turned s h p (Err r) → refused r.number r.place ≡ whole s h
    passing-bad r b = sym (ap (came h (listed_as p.row) p.at) (bad-with t.left t.enough r b)) ∙ t.same

    on-with : (f : ℕ) → length s < p.at + f → came h (listed_as p.row) p.at (rest s f (prev_in s p.before) p.at p.count) ≡ whole s h → (q : Stage) → Turned s h p (Ok q) → (p.at < q.at) × Passing s h q
    on-with zero e g q b = absurd (omega arith)
    on-with (suc f) e g q (y, b, k, o) =
        let z = lies s (prev_in s p.before) p.at p.count (omega arith) y (drop q.at s) q.at q.count b in
        let w : rest s (suc f) (prev_in s p.before) p.at p.count ≡ map_got (entry y.key y.value) (rest s f (prev_in s q.before) q.at q.count) =
        line_on s f (prev_in s p.before) p.at p.count l x ∙ rw (b, k) in (
          omega (arith, z.placed, z.ends, key-long y.key),
          record {
            left = f;
            enough = omega (arith, z.placed, z.ends, key-long y.key);
            same = ap (λ (a : Outcome Listed). came h a q.at (rest s f (prev_in s q.before) q.at q.count)) o
                ∙ sym (came-on h (listed_as p.row) p.at (length s) q.at y (drop q.at s) z (rest s f (prev_in s q.before) q.at q.count))
                ∙ sym (ap (came h (listed_as p.row) p.at) w) ∙ g;
          },
        )

    pub passing-on : (q : Stage) → Turned s h p (Ok q) → (p.at < q.at) × Passing s h q
    passing-on q b = on-with t.left t.enough t.same q b

-- ---- the whole: what a text comes to that begins as a dictionary, and one that does not

pub passing-start : (s h : List ℕ) (p : Stage) → p.at ≡ 1 → p.count ≡ 1 → prev_in s p.before ≡ start → listed_as p.row ≡ taken unlisted → Passing s h p
passing-start s h p a c b r = record { left = suc (length s); enough = omega arith; same = rw (a, c, b, r) }

then-all : (o : Outcome Listed) → then o (λ b. taken (either unlisted b)) ≡ o
then-all (taken x) = refl
then-all (refused n p) = refl

opened : (h : List ℕ) (g : Got Entries) → came h (taken unlisted) 1 g ≡ then (whole_of (map_got dict g)) (sheet_at h)
opened h (got es [] q m) = then-all (searched h 1 es)
opened h (got es (b ∷ t) q m) = refl
opened h (bad n q) = refl

-- a text that begins as a dictionary
begins-so : (s : List ℕ) → 0 < length s → get_or s 0 0 ≡ 100 → s ≡ 100 ∷ drop 1 s
begins-so [] i x = absurd (omega arith)
begins-so (b ∷ t) i x = ap (λ (c : ℕ). c ∷ t) x

dictionary-by : (levels e : ℕ) (t : List ℕ) → value_from (suc levels) e (100 ∷ t) 0 0 ≡ map_got dict (entries_of (suc e) (value_from levels e) e start t 1 1)
unfolding value_from kind_of
dictionary-by levels e t = refl

dictionary-here : (s : List ℕ) → 0 < length s → get_or s 0 0 ≡ 100 → value_from 32 (length s) s 0 0 ≡ map_got dict (rest s (suc (length s)) start 1 1)
dictionary-here s i x = ap (λ (l : List ℕ). value_from 32 (length s) l 0 0) (begins-so s i x) ∙ dictionary-by 31 (length s) (drop 1 s)

decoded : (s : List ℕ) → length s ≤ most_text → 0 < length s → get_or s 0 0 ≡ 100 → decode s ≡ whole_of (map_got dict (rest s (suc (length s)) start 1 1))
unfolding decode
decoded s l i x = rw (le-ltb most_text (length s) l) (ap whole_of (dictionary-here s i x))

module _ (s h : List ℕ) where
  pub read-long : most_text < length s → refused long 0 ≡ sheet_of h s
  unfolding decode
  read-long l = rw (lt-ltb most_text (length s) l)

  pub read_opened : length s ≤ most_text → 0 < length s → get_or s 0 0 ≡ 100 → whole s h ≡ sheet_of h s
  read_opened l i x = opened h (rest s (suc (length s)) start 1 1) ∙ ap (λ (o : Outcome Value). then o (sheet_at h)) (sym (decoded s l i x))

  -- what bencode refuses is refused so
  pub read-unread : (r : Refusal) → refused r.number r.place ≡ check_of s → refused r.number r.place ≡ sheet_of h s
  read-unread r e = sym (ap (λ (o : Outcome Value). then o (sheet_at h)) (map-refused count (decode s) r.number r.place (sym e)))

  -- and what is no dictionary by 10
  no-dictionary : (v : Value) → decode s ≡ taken v → (0 < length s → get_or s 0 0 ≡ 100 → ⊥) → refused kind 0 ≡ sheet_at h v
  unfolding encode
  no-dictionary (str bs) d x = refl
  no-dictionary (int z) d x = refl
  no-dictionary (list vs) d x = refl
  no-dictionary (dict es) d x = let f = (taken_fine s (dict es) d).text in absurd (x (let g = ap length f in omega arith) (ap (λ (l : List ℕ). get_or l 0 0) f))

  pub read-other : (n : ℕ) → taken n ≡ check_of s → (0 < length s → get_or s 0 0 ≡ 100 → ⊥) → refused kind 0 ≡ sheet_of h s
  read-other n e x =
      let t = map-taken count (decode s) n (sym e) in
      no-dictionary t.0 t.1 x ∙ sym (ap (λ (o : Outcome Value). then o (sheet_at h)) t.1)
