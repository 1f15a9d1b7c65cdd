-- The table of a week's file as the code goes through it: the hashes given before, and the entries. Assumes nothing.
use mathlib.Core.Path.{◌≡◌, refl, sym, ap, ◌∙◌}
use mathlib.Core.Logic.{◌≢◌}
use mathlib.Core.Bool.{Bool, true, false, not, ◌&&◌, ◌||◌, or-true}
use mathlib.Core.List.{List}
use Prim.Native.Nat.{ℕ, zero, suc, ◌+◌, ◌*◌, ◌-◌, ◌≤◌, ◌<◌}
use native.Mathlib.Nat.{sub-zero}
use native.Mathlib.Numerals.{add-one}
use native.Mathlib.Omega.{arith}
use borrow.Author.Tests.{leb-true, le-leb, lt-leb, lt-ltb, le-ltb, eq-eqb, ne_eqb}
use lib.Dec.{leb, eqb}
use lib.ListN.{length, take, drop}
use Rattle.refusal.specs.BigEndian.{fits, number_at}
use Rattle.refusal.specs.Limits.{most_text}
use Rattle.refusal.specs.Numbers.{week, long}
use Rattle.refusal.specs.Paper.{Outcome, taken, refused, refusal, map, then}
use Rattle.refusal.specs.declared.Refusal.{Refusal}
use Rattle.std.specs.Prelude.{Some, None}
use Rattle.refusal.proofs.Cases.{less-or, both}
use Rattle.refusal.proofs.Outcomes.{not_taken, then-taken}
use Rattle.refusal.proofs.Places.{is-there, is_cut}
use Rattle.hash_sha1.proofs.Same.{same-pointwise}
use lib.Pointwise.{pointwise}
use Rattle.torrent_metainfo.specs.Rules.{provided}
use Rattle.torrent_lines.proofs.Taken.{provided-taken}
use Rattle.week.specs.File.{table_bytes}
use Rattle.week.specs.Rules.{offset_place, length_place, hash_place, field_at, count_of, runs_at, hash_at, hashes_before, among, entry_of, entries_of, table_of}

-- ---- a field

pub field_is : (s : List ℕ) (p : ℕ) {n : ℕ} → number_at 4 s p ≡ Some n → field_at s p ≡ taken n
unfolding field_at
field_is s p e = let x = is-there 4 p s e in rw (le-leb (p + 4) (length s) x.0, x.1)

pub field_cut : (s : List ℕ) (p : ℕ) → number_at 4 s p ≡ None → field_at s p ≡ refused week p
unfolding field_at
field_cut s p e = rw (lt-leb (p + 4) (length s) (is_cut 4 p s e))

-- ---- the number of packages

pub count-is : (s : List ℕ) {n : ℕ} → number_at 4 s 0 ≡ Some n → provided (leb 1 n && leb n 256) week 0 (taken n) ≡ count_of s
unfolding count_of
count-is s e = rw (field_is s 0 e)

pub count_cut : (s : List ℕ) → number_at 4 s 0 ≡ None → refused week 0 ≡ count_of s
unfolding count_of
count_cut s e = rw (field_cut s 0 e)

-- what is taken is in range
in-range : (n m : ℕ) → provided (leb 1 n && leb n 256) week 0 (taken n) ≡ taken m → m ≤ 256
in-range n m = go (leb 1 n && leb n 256) refl
  where
    go : (t : Bool) → (leb 1 n && leb n 256) ≡ t → provided t week 0 (taken n) ≡ taken m → m ≤ 256
    go true f e = let q : n ≡ m = cc in rw (← q) (leb-true n 256 (both (leb 1 n) (leb n 256) f).1)
    go false f e = not_taken e

pub count_most : (s : List ℕ) {n : ℕ} → count_of s ≡ taken n → n ≤ 256
unfolding count_of
count_most s {n} e = let x = then-taken (field_at s 0) (λ (m : ℕ). provided (leb 1 m && leb m 256) week 0 (taken m)) n e in in-range x.0 n x.2

-- ---- the hashes given before

-- whether the 20 bytes of run i are the hash, as the code tests it
abbrev pub tested : List ℕ → List ℕ → ℕ → ℕ → ℕ → Bool
tested h s from stride i = pointwise eqb (take (from + stride * i + 20 - (from + stride * i)) (drop (from + stride * i) s)) h

module _ (h s : List ℕ) (from stride : ℕ) where
  -- one more run: its test comes first
  pub run_more : (i : ℕ) {t : Bool} → t ≡ tested h s from stride i → among h (runs_at s from stride (i + 1)) ≡ (t || among h (runs_at s from stride i))
  unfolding among runs_at
  run_more i e =
      let at : ℕ = from + stride * i in
      let w : at + 20 - at ≡ 20 = omega arith in
      let q = e ∙ same-pointwise (take (at + 20 - at) (drop at s)) h in
      rw (add-one, q, w)

  -- a hash among the first runs is among all
  run_among : (i count : ℕ) → i ≤ count → among h (runs_at s from stride i) ≡ true → among h (runs_at s from stride count) ≡ true
  unfolding among runs_at
  run_among i zero l e = let z : i ≡ 0 = omega arith in rw z at e
  run_among i (suc k) l e =
      less-or k i (λ m. let z : i ≡ suc k = omega arith in rw z at e)
      (λ m. rw (run_among i k m e) (or-true _))

  pub run-hit : (i count : ℕ) {t : Bool} → i < count → t ≡ tested h s from stride i → t ≡ true → true ≡ among h (runs_at s from stride count)
  run-hit i count l e f = sym (run_among (i + 1) count (omega arith) (rw (run_more i e, f)))

  pub run-other : (i : ℕ) {t : Bool} → among h (runs_at s from stride i) ≡ false → t ≡ tested h s from stride i → t ≡ false → among h (runs_at s from stride (i + 1)) ≡ false
  run-other i l e f = rw (run_more i e, f, l)

  pub no_run : among h (runs_at s from stride 0) ≡ false
  unfolding among runs_at
  no_run = refl

-- ---- an entry

-- its hash, where its body ends at a place
abbrev fresh_of : List ℕ → ℕ → ℕ → Outcome ℕ
fresh_of s i past = provided (fits 20 s (hash_place i)) week (hash_place i) (provided (not (among (hash_at s i) (hashes_before s i))) week (hash_place i) (taken past))

-- its length and its hash, where its body begins at a place
abbrev sized_of : List ℕ → ℕ → ℕ → Outcome ℕ
sized_of s i at = then (field_at s (length_place i)) (λ n. provided (leb (at + n) (length s)) week (length_place i) (fresh_of s i (at + n)))

module _ (s : List ℕ) (i : ℕ) where
  pub length_cut : (at : ℕ) → number_at 4 s (length_place i) ≡ None → refused week (length_place i) ≡ sized_of s i at
  length_cut at e = rw (field_cut s (length_place i) e)

  pub length_over : (at : ℕ) {n : ℕ} → number_at 4 s (length_place i) ≡ Some n → length s < at + n → refused week (length_place i) ≡ sized_of s i at
  length_over at {n} e h = rw (field_is s (length_place i) e, lt-leb (at + n) (length s) h)

  pub length-right : (at : ℕ) {n : ℕ} → number_at 4 s (length_place i) ≡ Some n → at + n ≤ length s → fresh_of s i (at + n) ≡ sized_of s i at
  length-right at {n} e h = rw (field_is s (length_place i) e, le-leb (at + n) (length s) h)

  pub offset-cut : (at : ℕ) → number_at 4 s (offset_place i) ≡ None → refused week (offset_place i) ≡ entry_of s i at
  unfolding entry_of
  offset-cut at e = rw (field_cut s (offset_place i) e)

  pub offset-other : (at : ℕ) {n : ℕ} → number_at 4 s (offset_place i) ≡ Some n → n ≢ at → refused week (offset_place i) ≡ entry_of s i at
  unfolding entry_of
  offset-other at {n} e h = rw (field_is s (offset_place i) e, ne_eqb n at h)

  pub offset-right : (at : ℕ) {n : ℕ} → number_at 4 s (offset_place i) ≡ Some n → n ≡ at → sized_of s i at ≡ entry_of s i at
  unfolding entry_of
  offset-right at {n} e h = rw (field_is s (offset_place i) e, eq-eqb n at h)

-- ---- the entries one after the other

-- an entry that is right ends in the file
pub entry-ends : (s : List ℕ) (i at : ℕ) {past : ℕ} → entry_of s i at ≡ taken past → past ≤ length s
unfolding entry_of
entry-ends s i at {past} e =
    let f = then-taken (field_at s (offset_place i)) (λ (x : ℕ). provided (eqb x at) week (offset_place i) (sized_of s i at)) past e in
    let g = provided-taken (eqb f.0 at) week (offset_place i) (sized_of s i at) past f.2 in
    let h = then-taken (field_at s (length_place i)) (λ (n : ℕ). provided (leb (at + n) (length s)) week (length_place i) (fresh_of s i (at + n))) past g.1 in
    let k = provided-taken (leb (at + h.0) (length s)) week (length_place i) (fresh_of s i (at + h.0)) past h.2 in
    let l = provided-taken (fits 20 s (hash_place i)) week (hash_place i) _ past k.1 in
    let m = provided-taken (not (among (hash_at s i) (hashes_before s i))) week (hash_place i) (taken (at + h.0)) past l.1 in
    let q : taken (at + h.0) ≡ taken past = m.1 in
    let r : at + h.0 ≡ past = cc in
    rw (← r) (leb-true (at + h.0) (length s) k.0)

-- the entries from package i on, whose body is to stand at a place, come to what all of them come to
pub record Going (s : List ℕ) (n i at : ℕ) : Type 0 where
  pub within : i ≤ n
  pub short : at ≤ most_text
  pub rest : entries_of s (n - i) i at ≡ entries_of s n 0 (table_bytes n)

pub going_start : (s : List ℕ) (n : ℕ) → n ≤ 256 → Going s n 0 (table_bytes n)
going_start s n h = record { within = omega arith; short = omega arith; rest = rw sub-zero }

module _ (s : List ℕ) (n i at : ℕ) (g : Going s n i at) where
  -- where one is left, it comes first
  going-one : i < n → then (entry_of s i at) (λ past. entries_of s (n - (i + 1)) (i + 1) past) ≡ entries_of s n 0 (table_bytes n)
  unfolding entries_of
  going-one h =
      let e : n - i ≡ suc (n - (i + 1)) = omega arith in
      ap (λ (j : ℕ). then (entry_of s i at) (λ past. entries_of s (n - (i + 1)) j past)) (add-one i) ∙ ap (λ (k : ℕ). entries_of s k i at) (sym e) ∙ g.rest

  pub going_on : {past : ℕ} → length s ≤ most_text → i < n → entry_of s i at ≡ taken past → Going s n (i + 1) past
  going_on {past} l h e = record { within = omega arith; short = omega (arith, entry-ends s i at e); rest = ap (λ (o : Outcome ℕ). then o (λ past. entries_of s (n - (i + 1)) (i + 1) past)) (sym e) ∙ going-one h }

  pub going-bad : {r : Refusal} → i < n → entry_of s i at ≡ refusal r → refusal r ≡ map (λ end. n) (entries_of s n 0 (table_bytes n))
  going-bad h e = ap (λ (o : Outcome ℕ). map (λ end. n) (then o (λ past. entries_of s (n - (i + 1)) (i + 1) past))) (sym e) ∙ ap (map (λ (end : ℕ). n)) (going-one h)

  -- none is left
  going-last : n ≤ i → provided (leb (length s) at) week at (taken at) ≡ entries_of s n 0 (table_bytes n)
  unfolding entries_of
  going-last h = let e : n - i ≡ 0 = omega (arith, g.within) in ap (λ (k : ℕ). entries_of s k i at) (sym e) ∙ g.rest

  pub going_more : n ≤ i → at < length s → refused week at ≡ map (λ end. n) (entries_of s n 0 (table_bytes n))
  going_more h l = ap (λ (t : Bool). map (λ end. n) (provided t week at (taken at))) (sym (lt-leb (length s) at l)) ∙ ap (map (λ (end : ℕ). n)) (going-last h)

  pub going_end : n ≤ i → length s ≤ at → taken n ≡ map (λ end. n) (entries_of s n 0 (table_bytes n))
  going_end h l = ap (λ (t : Bool). map (λ end. n) (provided t week at (taken at))) (sym (le-leb (length s) at l)) ∙ ap (map (λ (end : ℕ). n)) (going-last h)

-- ---- the whole table

pub table-long : (s : List ℕ) → most_text < length s → refused long 0 ≡ table_of s
unfolding table_of
table-long s h = rw (lt-ltb most_text (length s) h)

pub table-all : (s : List ℕ) {n : ℕ} → length s ≤ most_text → count_of s ≡ taken n → map (λ end. n) (entries_of s n 0 (table_bytes n)) ≡ table_of s
unfolding table_of
table-all s h e = rw (le-ltb most_text (length s) h, e)

pub table-bad : (s : List ℕ) {r : Refusal} → length s ≤ most_text → count_of s ≡ refusal r → refusal r ≡ table_of s
unfolding table_of
table-bad s h e = rw (le-ltb most_text (length s) h, e)
