-- What the code's tests say of a package, and the sums over all packages. Assumes nothing.
use Rattle.std.specs.Prelude.{Ok, Result}
use Rattle.refusal.specs.declared.Refusal.{Refusal}
use mathlib.Core.Path.{◌≡◌, refl, sym, ap, ◌∙◌}
use mathlib.Core.Bool.{Bool}
use mathlib.Core.List.{List}
use Prim.Native.Nat.{ℕ, zero, suc, ◌+◌, ◌*◌, ◌-◌, ◌≤◌, ◌<◌}
use native.Mathlib.Numerals.{add-one}
use native.Mathlib.Omega.{arith}
use borrow.Author.Tests.{lt-ltb, le-ltb, le-leb, lt-leb, leb-true}
use lib.ListN.{length, get_or, take, drop, set, length-set, length-drop}
use lib.Seq.{length-take-le, get_or-set_same, get_or-set_other}
use lib.Dec.{ltb, leb}
use Rattle.refusal.specs.BigEndian.{big_endian_of, fits}
use Rattle.refusal.specs.Limits.{most_text}
use Rattle.refusal.specs.Numbers.{long, week, beyond}
use Rattle.refusal.specs.Paper.{paper, Outcome, taken, refused, map, then}
use Rattle.refusal.specs.Parts.{bytes_at}
use Rattle.refusal.proofs.Cases.{same_or, less-or, pick_yes, pick_no}
use Rattle.refusal.proofs.Outcomes.{not_taken, then-taken, map-taken}
use Rattle.bencode_walk.proofs.Limited.{unless-long, unless-short}
use Rattle.hash_sha1.specs.Sha1.{sha1}
use Rattle.hash_sha1.specs.Digest.{same, agreement_of}
use Rattle.hash_sha1.proofs.Steps.{agreement-whole}
use Rattle.torrent_metainfo.specs.Rules.{provided}
use Rattle.torrent_metainfo.specs.Reading.{read_of}
use Rattle.torrent_metainfo.specs.declared.Torrent.{Torrent}
use Rattle.torrent_metainfo.proofs.Hashing.{info-short}
use Rattle.torrent_laws.proofs.Within.{read_small}
use Rattle.torrent_lines.proofs.Taken.{provided-taken}
use Rattle.week.specs.File.{table_bytes}
use Rattle.week.specs.Rules.{offset_place, length_place, hash_place, hash_at, field_at, count_of, moved, entry_for, body_of, placed_of, within_of, package_at, none, plus, sums_from, entries_of, table_of, week_of, package_of}
use Rattle.week.specs.Noted.{Noted}
use Rattle.week.specs.declared.Entry.{Entry}
use Rattle.week.specs.declared.Week.{Week}
use Rattle.week.proofs.Tabling.{count_most}

taken-same : {A : Type 0} {x y : A} → taken x ≡ taken y → x ≡ y
taken-same e = cc

-- ---- a field

pub field-there : (s : List ℕ) (p x : ℕ) → field_at s p ≡ taken x → (p + 4 ≤ length s) × (x ≡ big_endian_of (take 4 (drop p s)))
unfolding field_at
field-there s p x e = let h = provided-taken (fits 4 s p) _ _ (taken (big_endian_of (take 4 (drop p s)))) x e in (leb-true (p + 4) (length s) h.0, sym (taken-same h.1))

-- ---- a body

-- a torrent whose text is s, of n bytes, which stands at `from`, and whether its hash is the table's
abbrev hashed_as : ℕ → ℕ → ℕ → Torrent → Bool → Outcome Entry
hashed_as i from n t b = provided b week (hash_place i) (taken (entry_for i from n t))

abbrev pub hashed_in : ℕ → ℕ → ℕ → List ℕ → List ℕ → Torrent → Outcome Entry
hashed_in i from n s h t = hashed_as i from n t (same (sha1 (bytes_at s t.info)) h)

pub hashed-by : (s h : List ℕ) (t : Torrent) (i from : ℕ) {m : List ℕ} {o : Outcome Bool} → read_of s ≡ taken t → m ≡ bytes_at s t.info → o ≡ agreement_of m h
    → then o (hashed_as i from (length s) t) ≡ hashed_in i from (length s) s h t
hashed-by s h t i from e b q =
    ap (λ (o : Outcome Bool). then o (hashed_as i from (length s) t)) (q ∙ ap (λ (m : List ℕ). agreement_of m h) b ∙ agreement-whole (bytes_at s t.info) h (info-short s t e))

abbrev pub body_in : ℕ → ℕ → List ℕ → List ℕ → Outcome Torrent → Outcome Entry
body_in i from s h o = then (moved from o) (hashed_in i from (length s) s h)

-- a body that is in the file
pub body_at : (s : List ℕ) (i from n : ℕ) → from + n ≤ length s
    → body_in i from (take (from + n - from) (drop from s)) (take (32 + 28 * i - (12 + 28 * i)) (drop (hash_place i) s)) (read_of (take (from + n - from) (drop from s))) ≡ body_of s i from n
unfolding body_of
body_at s i from n h =
    let a : from + n - from ≡ n = omega arith in
    let b : 32 + 28 * i - (12 + 28 * i) ≡ 20 = omega arith in
    let l : length (take n (drop from s)) ≡ n = length-take-le n (drop from s) (rw length-drop (omega arith)) in
    rw (a, b) (ap (λ (k : ℕ). then (moved from (read_of (take n (drop from s)))) (hashed_in i from k (take n (drop from s)) (hash_at s i))) l)

-- ---- an entry

module _ (s : List ℕ) (i from n : ℕ) where
  pub placed_past : length s < from + n → refused week (length_place i) ≡ placed_of s i from n
  unfolding placed_of
  placed_past h = pick_no _ (leb (from + n) (length s)) (lt-leb (from + n) (length s) h) refl

  pub placed-cut : from + n ≤ length s → length s < 32 + 28 * i → refused week (hash_place i) ≡ placed_of s i from n
  unfolding placed_of
  placed-cut h l = pick_yes _ (leb (from + n) (length s)) (le-leb (from + n) (length s) h) (pick_no _ (fits 20 s (hash_place i)) (lt-leb (hash_place i + 20) (length s) (omega arith)) refl)

  pub placed-body : from + n ≤ length s → 32 + 28 * i ≤ length s → body_of s i from n ≡ placed_of s i from n
  unfolding placed_of
  placed-body h l = pick_yes _ (leb (from + n) (length s)) (le-leb (from + n) (length s) h) (pick_yes _ (fits 20 s (hash_place i)) (le-leb (hash_place i + 20) (length s) (omega arith)) refl)

pub within_by : (s : List ℕ) (i : ℕ) {x y : Outcome ℕ} → field_at s (offset_place i) ≡ x → field_at s (length_place i) ≡ y
    → then x (λ from. then y (λ n. placed_of s i from n)) ≡ within_of s i
unfolding within_of
within_by s i e f = sym (rw (e, f))

-- ---- a package of those that the file begins with

module _ {A : Type 0} (i n : ℕ) (o : Outcome A) where
  pub past : n ≤ i → refused beyond 0 ≡ provided (ltb i n) beyond 0 o
  past h = pick_no _ (ltb i n) (le-ltb i n h) refl

  pub inside : i < n → o ≡ provided (ltb i n) beyond 0 o
  inside h = pick_yes _ (ltb i n) (lt-ltb i n h) refl

module _ (s : List ℕ) (i : ℕ) where
  pub package-long : most_text < length s → refused long 0 ≡ package_at s i
  unfolding package_at
  package-long h = unless-long s _ h

  pub package-by : {o : Outcome ℕ} → length s ≤ most_text → o ≡ count_of s → then o (λ n. provided (ltb i n) beyond 0 (within_of s i)) ≡ package_at s i
  unfolding package_at
  package-by h e = ap (λ (o : Outcome ℕ). then o (λ n. provided (ltb i n) beyond 0 (within_of s i))) e ∙ unless-short s _ h

-- ---- a package that is taken

-- its fields, and its body, which is a torrent
pub record Taken (s : List ℕ) (i : ℕ) (e : Entry) : Type 0 where
  pub from : ℕ
  pub size : ℕ
  pub torrent : Torrent
  pub offset : field_at s (offset_place i) ≡ taken from
  pub sized : field_at s (length_place i) ≡ taken size
  pub hash : hash_place i + 20 ≤ length s
  pub read : read_of (take size (drop from s)) ≡ taken torrent
  pub is : entry_for i from size torrent ≡ e

moved-taken : {A : Type 0} (from : ℕ) (o : Outcome A) (x : A) → moved from o ≡ taken x → o ≡ taken x
moved-taken from (taken y) x e = e
moved-taken from (refused n p) x e = not_taken e

body-taken : (s : List ℕ) (i from n : ℕ) (e : Entry) → body_of s i from n ≡ taken e → (t : Torrent) × (read_of (take n (drop from s)) ≡ taken t) × (entry_for i from n t ≡ e)
unfolding body_of
body-taken s i from n e h =
    let x = then-taken (moved from (read_of (take n (drop from s)))) (hashed_in i from n (take n (drop from s)) (hash_at s i)) e h in
    (x.0, moved-taken from (read_of (take n (drop from s))) x.0 x.1, taken-same (provided-taken (same (sha1 (bytes_at (take n (drop from s)) x.0.info)) (hash_at s i)) _ _ (taken (entry_for i from n x.0)) e x.2).1)

placed-taken : (s : List ℕ) (i from n : ℕ) (e : Entry) → placed_of s i from n ≡ taken e → (hash_place i + 20 ≤ length s) × (body_of s i from n ≡ taken e)
unfolding placed_of
placed-taken s i from n e h =
    let x = provided-taken (fits 20 s (hash_place i)) _ _ (body_of s i from n) e (provided-taken (leb (from + n) (length s)) _ _ (provided (fits 20 s (hash_place i)) week (hash_place i) (body_of s i from n)) e h).1 in
    (leb-true _ _ x.0, x.1)

within-taken : (s : List ℕ) (i : ℕ) (e : Entry) → within_of s i ≡ taken e → Taken s i e
unfolding within_of
within-taken s i e h =
    let x = then-taken (field_at s (offset_place i)) (λ from. then (field_at s (length_place i)) (λ n. placed_of s i from n)) e h in
    let y = then-taken (field_at s (length_place i)) (placed_of s i x.0) e x.2 in
    let p = placed-taken s i x.0 y.0 e y.2 in
    let b = body-taken s i x.0 y.0 e p.1 in
    record { from = x.0; size = y.0; torrent = b.0; offset = x.1; sized = y.1; hash = p.0; read = b.1; is = b.2 }

pub package-taken : (s : List ℕ) (i : ℕ) (e : Entry) → package_at s i ≡ taken e → Taken s i e
unfolding package_at
package-taken s i e h =
    less-or most_text (length s) (λ l. not_taken (unless-long s _ l ∙ h)) (λ l.
    let x = then-taken (count_of s) (λ n. provided (ltb i n) beyond 0 (within_of s i)) e (unless-short s _ l ∙ h) in
    within-taken s i e (provided-taken (ltb i x.0) _ _ (within_of s i) e x.2).1)

pub package-small : (s : List ℕ) (i : ℕ) (e : Entry) → package_at s i ≡ taken e → (e.files ≤ 1024) × (e.total ≤ 274877906944)
package-small s i e h =
    let t = package-taken s i e h in
    let b = read_small _ t.torrent t.read in
    let f = ap (λ (x : Entry). x.files) t.is in
    let g = ap (λ (x : Entry). x.total) t.is in
    (omega (arith, b.0, f), omega (arith, b.1, g))

-- ---- the sums

-- after i of n packages: what is still to come, from here, is the whole; and what is kept of those before, in a list of a length that stays
pub record Sums (s : List ℕ) (n room : ℕ) (l : List ℕ) (files total i : ℕ) : Type 0 where
  pub whole : sums_from s (n - i) i (record { count = n; files = files; total = total }) ≡ sums_from s n 0 (none n)
  pub within : i ≤ n
  pub few : files ≤ 1024 * i
  pub small : total ≤ 274877906944 * i
  pub same-room : length l ≡ room
  pub noted : Noted s i l

sums-step : (s : List ℕ) (k i : ℕ) (w : Week) → sums_from s (suc k) i w ≡ then (package_at s i) (λ e. sums_from s k (i + 1) (plus w e))
unfolding sums_from
sums-step s k i w = rw (add-one i)

module _ (s : List ℕ) (n room : ℕ) (l : List ℕ) (files total i : ℕ) (h : Sums s n room l files total i) where
  abbrev so_far : Week
  so_far = record { count = n; files = files; total = total }

  pub sums_by : {o : Outcome Entry} → i < n → o ≡ package_at s i → then o (λ e. sums_from s (n - (i + 1)) (i + 1) (plus so_far e)) ≡ sums_from s n 0 (none n)
  sums_by b e =
      let k : suc (n - (i + 1)) ≡ n - i = omega arith in
      ap (λ (o : Outcome Entry). then o (λ x. sums_from s (n - (i + 1)) (i + 1) (plus so_far x))) e ∙ sym (sums-step s (n - (i + 1)) i so_far) ∙ ap (λ (m : ℕ). sums_from s m i so_far) k ∙ h.whole

  pub sums-end : n ≤ i → taken so_far ≡ sums_from s n 0 (none n)
  unfolding sums_from
  sums-end b = let z : n - i ≡ 0 = omega arith in ap (λ (m : ℕ). sums_from s m i so_far) (sym z) ∙ h.whole

  pub sums_kept : n ≤ i → 512 ≤ room → (r : Result Week Refusal) → r ≡ Ok so_far → (w : Week) → paper r ≡ taken w → (w.count ≡ n) × (512 ≤ length l) × Noted s n l
  sums_kept b c r e w q =
      let m = ap (λ (x : Week). x.count) (taken-same (ap paper (sym e) ∙ q)) in
      (sym m, omega (arith, h.same-room), λ j d. h.noted j (omega arith))

  kept : (e : Entry) → package_at s i ≡ taken e → 2 * i + 1 < room → Noted s (i + 1) (set (set l (2 * i) e.files) (2 * i + 1) e.total)
  kept e q b j c x p =
      let r = h.same-room in
      same_or j i
      (λ a.
      let g : e ≡ x = taken-same (sym q ∙ ap (package_at s) (sym a) ∙ p) in (
        rw a (get_or-set_other (set l (2 * i) e.files) (2 * i + 1) (2 * i) e.total 0 (λ z. omega arith) ∙ get_or-set_same l (2 * i) e.files 0 (omega arith) ∙ ap (λ (y : Entry). y.files) g),
        rw a (get_or-set_same (set l (2 * i) e.files) (2 * i + 1) e.total 0 (rw length-set (omega arith)) ∙ ap (λ (y : Entry). y.total) g),
      ))
      (λ a.
      let o = h.noted j (omega arith) x p in (
        get_or-set_other (set l (2 * i) e.files) (2 * i + 1) (2 * j) e.total 0 (λ z. omega arith) ∙ get_or-set_other l (2 * i) (2 * j) e.files 0 (λ z. a (omega arith)) ∙ o.0,
        get_or-set_other (set l (2 * i) e.files) (2 * i + 1) (2 * j + 1) e.total 0 (λ z. a (omega arith)) ∙ get_or-set_other l (2 * i) (2 * j + 1) e.files 0 (λ z. omega arith) ∙ o.1,
      ))

  pub sums-more : (e : Entry) → taken e ≡ package_at s i → i < n → 2 * i + 1 < room → Sums s n room (set (set l (2 * i) e.files) (2 * i + 1) e.total) (files + e.files) (total + e.total) (i + 1)
  sums-more e q b c =
      let m = package-small s i e (sym q) in
      record {
        whole = sums_by b q;
        within = omega arith;
        few = omega (arith, h.few, m.0);
        small = omega (arith, h.small, m.1);
        same-room = length-set (set l (2 * i) e.files) (2 * i + 1) e.total ∙ length-set l (2 * i) e.files ∙ h.same-room;
        noted = kept e (sym q) c;
      }

-- ---- a package of a file that is taken

sums-count : (s : List ℕ) (k i : ℕ) (v w : Week) → sums_from s k i v ≡ taken w → w.count ≡ v.count
unfolding sums_from
sums-count s zero i v w e = sym (ap (λ (x : Week). x.count) (taken-same e))
sums-count s (suc k) i v w e = let x = then-taken (package_at s i) (λ y. sums_from s k (suc i) (plus v y)) w e in sums-count s k (suc i) (plus v x.0) w x.2

sums-each : (s : List ℕ) (k i j : ℕ) (v w : Week) → sums_from s k i v ≡ taken w → i ≤ j → j < i + k → (e : Entry) × (package_at s j ≡ taken e)
unfolding sums_from
sums-each s zero i j v w e a b = absurd (omega arith)
sums-each s (suc k) i j v w e a b =
    let x = then-taken (package_at s i) (λ y. sums_from s k (suc i) (plus v y)) w e in
    same_or j i (λ c. (x.0, ap (package_at s) c ∙ x.1)) (λ c. sums-each s k (suc i) j (plus v x.0) w x.2 (omega arith) (omega arith))

pub week-counted : (s : List ℕ) (w : Week) → week_of s ≡ taken w → (table_of s ≡ taken w.count) × (sums_from s w.count 0 (none w.count) ≡ taken w)
unfolding week_of
week-counted s w e =
    let x = then-taken (table_of s) (λ n. sums_from s n 0 (none n)) w e in
    let c : w.count ≡ x.0 = sums-count s x.0 0 (none x.0) w x.2 in
    (x.1 ∙ ap taken (sym c), ap (λ (n : ℕ). sums_from s n 0 (none n)) c ∙ x.2)

pub week-each : (s : List ℕ) (w : Week) (i : ℕ) → week_of s ≡ taken w → i < w.count → (e : Entry) × (package_at s i ≡ taken e)
week-each s w i e h = sums-each s w.count 0 i (none w.count) w (week-counted s w e).1 (omega arith) (omega arith)

-- ---- the whole file

pub table-most : (s : List ℕ) (n : ℕ) → table_of s ≡ taken n → n ≤ 256
unfolding table_of
table-most s n e =
    less-or most_text (length s) (λ l. not_taken (unless-long s _ l ∙ e)) (λ l.
    let x = then-taken (count_of s) (λ m. map (λ end. m) (entries_of s m 0 (table_bytes m))) n (unless-short s _ l ∙ e) in
    let y = map-taken (λ end. x.0) (entries_of s x.0 0 (table_bytes x.0)) n x.2 in
    omega (arith, count_most s x.1, y.2))

pub week-by : (s : List ℕ) {o : Outcome ℕ} → o ≡ table_of s → then o (λ n. sums_from s n 0 (none n)) ≡ week_of s
unfolding week_of
week-by s e = ap (λ (o : Outcome ℕ). then o (λ n. sums_from s n 0 (none n))) e

pub package-of : (s : List ℕ) (i : ℕ) {o : Outcome Week} → o ≡ week_of s → then o (λ w. provided (ltb i w.count) beyond 0 (package_at s i)) ≡ package_of s i
unfolding package_of
package-of s i e = ap (λ (o : Outcome Week). then o (λ w. provided (ltb i w.count) beyond 0 (package_at s i))) e

-- of n packages, of which files and bytes were kept
module _ (s : List ℕ) (n : ℕ) (k : (w : Week) × (week_of s ≡ taken w) × (w.count ≡ n)) (i : ℕ) (h : i < n) where
  pub chosen_is : (e : Entry) × (package_at s i ≡ taken e)
  chosen_is = week-each s k.0 i k.1 (omega (arith, k.2))

  pub chosen-fields : Taken s i chosen_is.0
  chosen-fields = package-taken s i chosen_is.0 chosen_is.1

  pub chosen-offset : (offset_place i + 4 ≤ length s) × (chosen-fields.from ≡ big_endian_of (take 4 (drop (offset_place i) s)))
  chosen-offset = field-there s (offset_place i) _ chosen-fields.offset

  pub chosen-length : (length_place i + 4 ≤ length s) × (chosen-fields.size ≡ big_endian_of (take 4 (drop (length_place i) s)))
  chosen-length = field-there s (length_place i) _ chosen-fields.sized

  pub chosen-told : (l : List ℕ) → Noted s n l → {a b : ℕ} → a ≡ big_endian_of (take 4 (drop (offset_place i) s)) → b ≡ big_endian_of (take 4 (drop (length_place i) s))
      → taken (record { hash = record { from = hash_place i; len = 20 }; body = record { from = a; len = b }; files = get_or l (2 * i) 0; total = get_or l (2 * i + 1) 0 }) ≡ provided (ltb i n) beyond 0 (package_at s i)
  chosen-told l o p q =
      let e = chosen_is.0 in
      let t = chosen-fields in
      let m = o i h e chosen_is.1 in
      let f : get_or l (2 * i) 0 ≡ t.torrent.content.files = m.0 ∙ sym (ap (λ (x : Entry). x.files) t.is) in
      let g : get_or l (2 * i + 1) 0 ≡ t.torrent.content.total = m.1 ∙ sym (ap (λ (x : Entry). x.total) t.is) in
      rw (p ∙ sym chosen-offset.1, q ∙ sym chosen-length.1, f, g) (ap taken t.is ∙ sym chosen_is.1 ∙ inside i n _ h)
