-- What the writer of a week's file has put and hashed so far. Assumes nothing.
use Rattle.std.specs.Prelude.{Err, Ok, Result}
use mathlib.Core.Path.{◌≡◌, refl, sym, ap, ◌∙◌, subst}
use mathlib.Core.Bool.{Bool, true, false}
use mathlib.Core.List.{List, [], ◌∷◌, ◌++◌, append_assoc, append-nil}
use Prim.Native.Nat.{ℕ, zero, suc, ◌+◌, ◌*◌, ◌-◌, ◌<◌, ◌≤◌}
use native.Mathlib.Omega.{arith}
use native.Mathlib.Numerals.{add-one}
use borrow.Author.Tests.{eqb-true, eq-eqb, ne_eqb, le-leb, lt-leb, lt-ltb, le-ltb}
use lib.Dec.{eqb}
use lib.ListN.{length, get_or, take, drop, set, length-append, length-drop, drop_of_length-le, take-append-drop}
use lib.Seq.{sets, length-sets, length-take-le, take_all, take-set-le, drop-set-add, drop-drop}
use Rattle.refusal.specs.BigEndian.{bytes_of, number_written}
use Rattle.refusal.specs.Limits.{most_text, most_packages}
use Rattle.refusal.specs.Numbers.{long, room, week}
use Rattle.refusal.specs.Paper.{paper, Outcome, taken, refused, refusal, map, then}
use Rattle.refusal.specs.Parts.{bytes_at}
use Rattle.refusal.specs.declared.Refusal.{Refusal}
use Rattle.refusal.proofs.Bytes.{length-bytes_of}
use Rattle.refusal.proofs.Cases.{same_test}
use Rattle.refusal.proofs.Outcomes.{not_taken, not-refused, same-refusal}
use Rattle.refusal.proofs.Places.{stands}
use Rattle.bencode_writer.specs.Put.{left, puts, put_of, place_past, Ran}
use Rattle.bencode_writer.proofs.Laws.{put-done, put-nothing}
use Rattle.bencode_writer.proofs.Runs.{ran_then, ran-as, ran-length, put-ran, Going, going_start, going_more, going_end, going-room}
use Rattle.hash_sha1.specs.Sha1.{sha1}
use Rattle.hash_sha1.specs.Digest.{Left as HashLeft}
use Rattle.hash_sha1.proofs.Determined.{digest-length}
use Rattle.torrent_blocks.specs.Rules.{sum}
use Rattle.torrent_blocks.proofs.Steps.{sum-parts, before-step}
use Rattle.torrent_lines.proofs.Running.{one_more as from_place}
use Rattle.torrent_metainfo.specs.Hashes.{hashed_in, info_hash_of}
use Rattle.torrent_metainfo.specs.Reading.{read_of}
use Rattle.torrent_metainfo.specs.declared.Torrent.{Torrent}
use Rattle.torrent_metainfo.proofs.Hashing.{info-hash}
use Rattle.week.specs.File.{Package, entries_from, bodies_of, table_bytes, file_of}
use Rattle.week.specs.Rules.{runs_at, among}
use Rattle.week.specs.Writing.{cut_by, package_in, packages_from, written_of, write_of}
use Rattle.week.specs.Noted.{short_file, packages_by, entries_by_of, Hashes, HashesOne, KeepsOne}

-- ---- lengths that are added up

module _ (ns : List ℕ) (i : ℕ) where
  pub next-sum : i < length ns → sum (drop i ns) ≡ get_or ns i 0 + sum (drop (i + 1) ns)
  next-sum h = omega (arith, sum-parts ns i, sum-parts ns (i + 1), before-step ns i h)

  no-sum : length ns ≤ i → sum (drop i ns) ≡ 0
  unfolding sum
  no-sum h = ap sum (drop_of_length-le ns h)

  -- so many are left of all where the first i are taken away
  module _ (all left : ℕ) (e : left + sum (take i ns) ≡ all) where
    pub adds-over : i < length ns → left < get_or ns i 0 → false ≡ eqb (sum ns) all
    adds-over h l = sym (ne_eqb (sum ns) all (λ z. omega (arith, sum-parts ns (i + 1), before-step ns i h)))

    pub adds-next : i < length ns → get_or ns i 0 ≤ left → (left - get_or ns i 0) + sum (take (i + 1) ns) ≡ all
    adds-next h l = omega (arith, before-step ns i h)

    pub adds-end : length ns ≤ i → eqb left 0 ≡ eqb (sum ns) all
    adds-end h =
        same_test (eqb left 0) (eqb (sum ns) all)
        (λ t. eq-eqb (sum ns) all (omega (arith, eqb-true left 0 t, sum-parts ns i, no-sum h)))
        (λ t. eq-eqb left 0 (omega (arith, eqb-true (sum ns) all t, sum-parts ns i, no-sum h)))

-- ---- one entry

-- a number of four bytes, where it has its room
four-put : (x at : ℕ) (o : List ℕ) {p : List ℕ} → at + 4 ≤ length o → p ≡ number_written 4 o at x → Ran (bytes_of 4 x) at o (at + 4) p
four-put x at o h e = record { place = omega (arith, length-bytes_of 4 x); out = e ∙ rw (le-leb (at + 4) (length o) h) }

pub entry-put : (x y at : ℕ) (h o : List ℕ) {p q : List ℕ} {a : Outcome ℕ} {r : ℕ} {e : List ℕ} → length h ≡ 20 → at + 28 ≤ length o
    → p ≡ number_written 4 o at x → q ≡ number_written 4 p (at + 4) y → left a e ≡ put_of h (at + 8) q → r ≡ place_past a → Ran (bytes_of 4 x ++ (bytes_of 4 y ++ h)) at o r e
entry-put x y at h o {p} {q} n l f g i j =
    let first = four-put x at o (omega arith) f in
    let next = ran_then first (four-put y (at + 4) p (omega (arith, ran-length first)) g) in
    let last = put-ran h (at + 8) q (omega (arith, ran-length next)) i j in
    let place : at + 4 + 4 ≡ at + 8 = omega arith in
    ran-as (ran_then (rw place at next) last) (append_assoc (bytes_of 4 x) (bytes_of 4 y) h)

-- ---- the entries

module _ (at : ℕ) (ns l : List ℕ) (i : ℕ) where
  pub entries_next : i < length ns
      → entries_by_of at (drop i ns) (drop (20 * i) l)
      ≡ (bytes_of 4 at ++ (bytes_of 4 (get_or ns i 0) ++ take 20 (drop (20 * i) l))) ++ entries_by_of (at + get_or ns i 0) (drop (i + 1) ns) (drop (20 * (i + 1)) l)
  unfolding entries_by_of
  entries_next h =
      let n : ℕ = get_or ns i 0 in
      let hash : List ℕ = take 20 (drop (20 * i) l) in
      let rest : List ℕ = entries_by_of (at + n) (drop (i + 1) ns) (drop (20 * (i + 1)) l) in
      let e : 20 * i + 20 ≡ 20 * (i + 1) = omega arith in
      ap (λ (m : List ℕ). entries_by_of at m (drop (20 * i) l)) (from_place ns i h)
      ∙ ap (λ (m : List ℕ). bytes_of 4 at ++ (bytes_of 4 n ++ (hash ++ entries_by_of (at + n) (drop (i + 1) ns) m))) (drop-drop 20 (20 * i) l ∙ ap (λ (k : ℕ). drop k l) e)
      ∙ sym (append_assoc (bytes_of 4 at) (bytes_of 4 n ++ hash) rest ∙ ap (λ (m : List ℕ). bytes_of 4 at ++ m) (append_assoc (bytes_of 4 n) hash rest))

  pub entries_none : length ns ≤ i → entries_by_of at (drop i ns) (drop (20 * i) l) ≡ []
  unfolding entries_by_of
  entries_none h = ap (λ (m : List ℕ). entries_by_of at m (drop (20 * i) l)) (drop_of_length-le ns h)

pub entries-length : (at : ℕ) (ns l : List ℕ) → 20 * length ns ≤ length l → length (entries_by_of at ns l) ≡ 28 * length ns
unfolding entries_by_of bytes_of
entries-length at [] l h = refl
entries-length at (n ∷ ns) l h =
    let rest = entries-length (at + n) ns (drop 20 l) (rw length-drop (omega arith)) in
    omega (arith, rest, length-append (take 20 l) (entries_by_of (at + n) ns (drop 20 l)), length-take-le 20 l (omega arith))

-- the 20 bytes of a hash, as the code cuts them
pub twenty : (k : ℕ) (s : List ℕ) → take (k + 20 - k) (drop k s) ≡ take 20 (drop k s)
twenty k s = let e : k + 20 - k ≡ 20 = omega arith in ap (λ (n : ℕ). take n (drop k s)) e

pub twenty-long : (k : ℕ) (s : List ℕ) → k + 20 ≤ length s → length (take (k + 20 - k) (drop k s)) ≡ 20
twenty-long k s h = ap length (twenty k s) ∙ length-take-le 20 (drop k s) (rw length-drop (omega arith))

-- the entries of the first i packages are put to o, which leaves p: the next goes to `at`, and its body to `body`
pub record Tabled (ns l o : List ℕ) (i body at : ℕ) (p : List ℕ) : Type 0 where
  pub within : i ≤ length ns
  pub place : body + sum (drop i ns) ≡ table_bytes (length ns) + sum ns
  pub going : Going (entries_by_of (table_bytes (length ns)) ns l) 4 o (entries_by_of body (drop i ns) (drop (20 * i) l)) at p

module _ (ns l o : List ℕ) where
  pub tabled_start : Tabled ns l o 0 (table_bytes (length ns)) 4 o
  tabled_start = record { within = omega arith; place = refl; going = going_start _ _ _ }

  module _ {i body at : ℕ} {p : List ℕ} (t : Tabled ns l o i body at p) where
    pub tabled-end : length ns ≤ i → Ran (entries_by_of (table_bytes (length ns)) ns l) 4 o at p
    tabled-end h = going_end _ _ _ t.going (entries_none body ns l i h)

    module _ (h : i < length ns) where
      pub tabled-room : 20 * length ns ≤ length l → table_bytes (length ns) ≤ length o → at + 28 ≤ length p
      tabled-room w m =
          let rest = entries-length body (drop i ns) (drop (20 * i) l) (rw (length-drop i ns, length-drop (20 * i) l) (omega arith)) in
          omega (arith, rest, length-drop i ns, going-room t.going (omega (arith, entries-length (table_bytes (length ns)) ns l w)))

      pub tabled-near : {n : ℕ} → table_bytes (length ns) + sum ns ≤ n → body + get_or ns i 0 ≤ n
      tabled-near m = omega (arith, t.place, next-sum ns i h)

      pub tabled-next : {r : ℕ} {e : List ℕ} → Ran (bytes_of 4 body ++ (bytes_of 4 (get_or ns i 0) ++ take (20 * i + 20 - 20 * i) (drop (20 * i) l))) at p r e
          → Tabled ns l o (i + 1) (body + get_or ns i 0) r e
      tabled-next k = record {
        within = omega arith;
        place = omega (arith, t.place, next-sum ns i h);
        going = going_more _ _ _ t.going _ _ (entries_next body ns l i h) (rw (twenty (20 * i) l) at k);
      }

-- ---- the file

packages-count : (ns bs l : List ℕ) → length (packages_by ns bs l) ≡ length ns
unfolding packages_by
packages-count [] bs l = refl
packages-count (n ∷ ns) bs l = ap suc (packages-count ns (drop n bs) (drop 20 l))

packages-bodies : (ns bs l : List ℕ) → sum ns ≡ length bs → bodies_of (packages_by ns bs l) ≡ bs
unfolding packages_by bodies_of sum
packages-bodies [] [] l e = refl
packages-bodies [] (b ∷ bs) l e = absurd (omega (arith, e))
packages-bodies (n ∷ ns) bs l e = ap (λ (x : List ℕ). take n bs ++ x) (packages-bodies ns (drop n bs) (drop 20 l) (rw length-drop (omega (arith, e)))) ∙ take-append-drop n bs

packages-entries : (at : ℕ) (ns bs l : List ℕ) → sum ns ≤ length bs → entries_from at (packages_by ns bs l) ≡ entries_by_of at ns l
unfolding packages_by entries_from entries_by_of sum
packages-entries at [] bs l h = refl
packages-entries at (n ∷ ns) bs l h =
    rw (length-take-le n bs (omega (arith, h)), packages-entries (at + n) ns (drop n bs) (drop 20 l) (rw length-drop (omega (arith, h))))

module _ (ns bs l : List ℕ) (e : sum ns ≡ length bs) where
  file-by : file_of (packages_by ns bs l) ≡ bytes_of 4 (length ns) ++ (entries_by_of (table_bytes (length ns)) ns l ++ bs)
  unfolding file_of
  file-by = rw (packages-count ns bs l, packages-bodies ns bs l e, packages-entries (table_bytes (length ns)) ns bs l (omega arith))

  module _ (w : 20 * length ns ≤ length l) where
    pub file-length : 4 + 28 * length ns + length bs ≡ length (file_of (packages_by ns bs l))
    file-length =
        omega (arith, ap length file-by, length-append (bytes_of 4 (length ns)) (entries_by_of (table_bytes (length ns)) ns l ++ bs), length-append (entries_by_of (table_bytes (length ns)) ns l) bs, length-bytes_of 4 (length ns), entries-length (table_bytes (length ns)) ns l w)

    -- put in its three parts
    pub file-put : (o : List ℕ) → 4 + 28 * length ns + length bs ≤ length o → {p q : List ℕ} {at : ℕ} {a : Outcome ℕ} {r : ℕ} {d : List ℕ} → p ≡ number_written 4 o 0 (length ns)
        → Ran (entries_by_of (table_bytes (length ns)) ns l) 4 p at q → left a d ≡ put_of bs at q → r ≡ place_past a → Ran (file_of (packages_by ns bs l)) 0 o r d
    file-put o m {p} {q} {at} f g i j =
        let two = ran_then (four-put (length ns) 0 o (omega arith) f) g in
        let here : at ≡ 4 + 28 * length ns = omega (arith, g.place, entries-length (table_bytes (length ns)) ns l w) in
        let last = put-ran bs at q (omega (arith, here, ran-length two)) i j in
        ran-as (ran_then two last) (append_assoc (bytes_of 4 (length ns)) (entries_by_of (table_bytes (length ns)) ns l) bs ∙ sym file-by)

module _ (ps : List Package) {c : ℕ} (e : c ≡ length (file_of ps)) (o : List ℕ) where
  pub file-long : {b : Result ℕ Refusal} → most_text < c → b ≡ Err (record { number = long; place = 0 }) → left (paper b) o ≡ puts o (short_file ps)
  file-long l f = rw (f, lt-ltb most_text (length (file_of ps)) (omega arith))

  module _ (l : c ≤ most_text) where
    pub file-room : {b : Result ℕ Refusal} → length o < c → b ≡ Err (record { number = room; place = 0 }) → left (paper b) o ≡ puts o (short_file ps)
    file-room h f = rw (le-ltb most_text (length (file_of ps)) (omega arith)) (put-nothing (file_of ps) 0 o (omega arith) f)

    pub file-whole : {q : ℕ} {p : List ℕ} → c ≤ length o → Ran (file_of ps) 0 o q p → left (taken q) p ≡ puts o (short_file ps)
    file-whole h r = rw (le-ltb most_text (length (file_of ps)) (omega arith)) (put-done (file_of ps) 0 o (omega arith) r.place r.out)

-- ---- a store that leaves what stands before it

drop-sets : (n : ℕ) (l : List ℕ) (i : ℕ) (v : List ℕ) → drop n (sets l (n + i) v) ≡ sets (drop n l) i v
drop-sets n l i [] = refl
drop-sets n l i (a ∷ v) =
    let e : suc (n + i) ≡ n + suc i = omega arith in
    ap (λ (k : ℕ). drop n (sets (set l (n + i) a) k v)) e ∙ drop-sets n (set l (n + i) a) (suc i) v ∙ ap (λ (m : List ℕ). sets m (suc i) v) (drop-set-add n l i a)

take-sets : (n : ℕ) (l : List ℕ) (i : ℕ) (v : List ℕ) → n ≤ i → take n (sets l i v) ≡ take n l
take-sets n l i [] h = refl
take-sets n l i (a ∷ v) h = take-sets n (set l i a) (suc i) v (omega arith) ∙ take-set-le n l i a h

runs-kept : (m : ℕ) (k : List ℕ) (p : ℕ) (h : List ℕ) → 20 * m ≤ p → runs_at (sets k p h) 0 20 m ≡ runs_at k 0 20 m
unfolding runs_at
runs-kept zero k p h l = refl
runs-kept (suc m) k p h l =
    let n : ℕ = 0 + 20 * m in
    let e : p ≡ n + (p - n) = omega arith in
    let f : take 20 (drop n (sets k p h)) ≡ take 20 (drop n k) = ap (λ (x : ℕ). take 20 (drop n (sets k x h))) e ∙ ap (take 20) (drop-sets n k (p - n) h) ∙ take-sets 20 (drop n k) (p - n) h (omega arith) in
    rw (f, runs-kept m k p h (omega arith))

packages-kept : (i : ℕ) (ns bs l h : List ℕ) → packages_by (take i ns) bs (sets l (20 * i) h) ≡ packages_by (take i ns) bs l
unfolding packages_by
packages-kept zero ns bs l h = refl
packages-kept (suc i) [] bs l h = refl
packages-kept (suc i) (n ∷ ns) bs l h =
    let e : 20 * suc i ≡ 20 + 20 * i = omega arith in
    rw (e, take-sets 20 l (20 + 20 * i) h (omega arith), drop-sets 20 l (20 * i) h, packages-kept i ns (drop n bs) (drop 20 l) h)

packages-more : (i : ℕ) (ns bs l : List ℕ) → i < length ns
    → packages_by (take (suc i) ns) bs l ≡ packages_by (take i ns) bs l ++ (record { body = take (get_or ns i 0) (drop (sum (take i ns)) bs); hash = take 20 (drop (20 * i) l) } ∷ [])
unfolding packages_by sum
packages-more i [] bs l h = absurd (omega arith)
packages-more zero (n ∷ ns) bs l h = refl
packages-more (suc i) (n ∷ ns) bs l h =
    let e : 20 + 20 * i ≡ 20 * suc i = omega arith in
    rw (packages-more i ns (drop n bs) (drop 20 l) (omega arith), drop-drop (sum (take i ns)) n bs, drop-drop (20 * i) 20 l, e)

-- the i-th hash is stored
module _ (ns bs k : List ℕ) (i : ℕ) (h : List ℕ) (l : length h ≡ 20) (m : 20 * i + 20 ≤ length k) where
  runs-next : h ∷ runs_at k 0 20 i ≡ runs_at (sets k (20 * i) h) 0 20 (i + 1)
  unfolding runs_at
  runs-next =
      let e : 0 + 20 * i ≡ 20 * i = omega arith in
      rw (add-one, e, stands 20 (20 * i) h k l m, runs-kept i k (20 * i) h (omega arith))

  packages-next : i < length ns
      → packages_by (take i ns) bs k ++ (record { body = take (get_or ns i 0) (drop (sum (take i ns)) bs); hash = h } ∷ []) ≡ packages_by (take (i + 1) ns) bs (sets k (20 * i) h)
  packages-next j = rw (add-one, packages-more i ns bs (sets k (20 * i) h) j, stands 20 (20 * i) h k l m, packages-kept i ns bs k h)

-- ---- bodies hashed one after the other

-- the first i bodies, up to `at`, are hashed, and their hashes kept in k, which is as long as k₀
pub record Packed (ns bs k₀ : List ℕ) (i at : ℕ) (k : List ℕ) : Type 0 where
  pub within : i ≤ length ns
  pub place : at ≡ sum (take i ns)
  pub size : length k ≡ length k₀
  pub same : packages_from [] (cut_by ns bs) ≡ map (λ ps. packages_by (take i ns) bs k ++ ps) (packages_from (runs_at k 0 20 i) (cut_by (drop i ns) (drop at bs)))

map-none : (o : Outcome (List Package)) → o ≡ map (λ ps. ps) o
map-none (taken ps) = refl
map-none (refused n p) = refl

map-one : (ps : List Package) (p : Package) (o : Outcome (List Package)) → map (λ qs. ps ++ qs) (map (λ qs. p ∷ qs) o) ≡ map (λ qs. (ps ++ (p ∷ [])) ++ qs) o
map-one ps p (taken qs) = ap taken (sym (append_assoc ps (p ∷ []) qs))
map-one ps p (refused m q) = refl

module _ (ns bs k₀ : List ℕ) where
  pub packed_start : Packed ns bs k₀ 0 0 k₀
  unfolding packages_by runs_at sum
  packed_start = record { within = omega arith; place = refl; size = refl; same = map-none (packages_from [] (cut_by ns bs)) }

  module _ {i at : ℕ} {k : List ℕ} (s : Packed ns bs k₀ i at k) where
    pub packed-end : length ns ≤ i → packages_from [] (cut_by ns bs) ≡ taken (packages_by ns bs k)
    unfolding packages_from cut_by
    packed-end h =
        s.same
        ∙ ap (λ (m : List ℕ). map (λ ps. packages_by (take i ns) bs k ++ ps) (packages_from (runs_at k 0 20 i) (cut_by m (drop at bs)))) (drop_of_length-le ns h)
        ∙ ap taken (append-nil (packages_by (take i ns) bs k) ∙ ap (λ (m : List ℕ). packages_by m bs k) (take_all i ns h))

    module _ (h : i < length ns) where
      pub packed-near : sum ns ≡ length bs → at + get_or ns i 0 ≤ length bs
      packed-near e = omega (arith, s.place, sum-parts ns (i + 1), before-step ns i h)

      abbrev next : List (List ℕ)
      next = cut_by (drop (i + 1) ns) (drop (at + get_or ns i 0) bs)

      -- what the next body comes to comes first
      packed-by : packages_from [] (cut_by ns bs)
          ≡ map (λ ps. packages_by (take i ns) bs k ++ ps) (then (package_in (runs_at k 0 20 i) (take (get_or ns i 0) (drop at bs))) (λ p. map (λ ps. p ∷ ps) (packages_from (p.hash ∷ runs_at k 0 20 i) next)))
      unfolding packages_from cut_by
      packed-by =
          s.same
          ∙ ap (λ (m : List ℕ). map (λ ps. packages_by (take i ns) bs k ++ ps) (packages_from (runs_at k 0 20 i) (cut_by m (drop at bs)))) (from_place ns i h)
          ∙ rw (drop-drop (get_or ns i 0) at bs)

      part : take (at + get_or ns i 0 - at) (drop at bs) ≡ take (get_or ns i 0) (drop at bs)
      part = let e : at + get_or ns i 0 - at ≡ get_or ns i 0 = omega arith in ap (λ (n : ℕ). take n (drop at bs)) e

      module _ (x : Result (Unit {0}) Refusal) (l : List ℕ) (o : HashesOne (take (at + get_or ns i 0 - at) (drop at bs)) i k x l) where
        pub packed-refused : {r : Refusal} → x ≡ Err r → packages_from [] (cut_by ns bs) ≡ refusal r
        packed-refused {r} e =
            let f : package_in (runs_at k 0 20 i) (take (get_or ns i 0) (drop at bs)) ≡ refusal r = rw part at (subst (λ (y : Result (Unit {0}) Refusal). HashesOne (take (at + get_or ns i 0 - at) (drop at bs)) i k y l) e o) in
            packed-by ∙ rw f

        pub packed-next : x ≡ (Ok tt) → 20 * i + 20 ≤ length k → Packed ns bs k₀ (i + 1) (at + get_or ns i 0) l
        packed-next e m = go (rw part at (subst (λ (y : Result (Unit {0}) Refusal). HashesOne (take (at + get_or ns i 0 - at) (drop at bs)) i k y l) e o))
          where
            go : HashesOne (take (get_or ns i 0) (drop at bs)) i k (Ok tt) l → Packed ns bs k₀ (i + 1) (at + get_or ns i 0) l
            go (h', f, n, g) =
                let p : Package = record { body = take (get_or ns i 0) (drop at bs); hash = h' } in
                let before : List Package = packages_by (take i ns) bs k in
                let more : before ++ (p ∷ []) ≡ packages_by (take (i + 1) ns) bs (sets k (20 * i) h') = rw s.place (packages-next ns bs k i h' n m h) in
                rw g (record {
                  within = omega arith;
                  place = omega (arith, s.place, before-step ns i h);
                  size = length-sets k (20 * i) h' ∙ s.size;
                  same =
                      packed-by
                      ∙ ap (λ (y : Outcome Package). map (λ ps. before ++ ps) (then y (λ q. map (λ ps. q ∷ ps) (packages_from (q.hash ∷ runs_at k 0 20 i) next)))) f
                      ∙ map-one before p (packages_from (h' ∷ runs_at k 0 20 i) next)
                      ∙ ap (λ (q : List Package). map (λ ps. q ++ ps) (packages_from (h' ∷ runs_at k 0 20 i) next)) more
                      ∙ ap (λ (y : List (List ℕ)). map (λ ps. packages_by (take (i + 1) ns) bs (sets k (20 * i) h') ++ ps) (packages_from y next)) (runs-next ns bs k i h' n m);
                })

-- ---- one body hashed

module _ (b o h : List ℕ) where
  -- a torrent's hash is written
  hash-read : left (taken tt) h ≡ info_hash_of b o → (t : Torrent) × (read_of b ≡ taken t) × (h ≡ sha1 (bytes_at b t.info))
  hash-read e = go (read_of b) refl
    where
      go : (x : Outcome Torrent) → read_of b ≡ x → (t : Torrent) × (read_of b ≡ taken t) × (h ≡ sha1 (bytes_at b t.info))
      go (taken t) r = (t, r, ap (λ (y : HashLeft). y.out) (e ∙ info-hash b o t r))
      go (refused n p) r = not-refused (ap (λ (y : HashLeft). y.answer) (e ∙ ap (hashed_in b o) r))

  hash-unread : {n p : ℕ} → left (refused n p) h ≡ info_hash_of b o → read_of b ≡ refused n p
  hash-unread {n} {p} e = go (read_of b) refl
    where
      go : (x : Outcome Torrent) → read_of b ≡ x → read_of b ≡ refused n p
      go (taken t) r = not_taken (ap (λ (y : HashLeft). y.answer) (e ∙ info-hash b o t r))
      go (refused m q) r = let f = same-refusal (ap (λ (y : HashLeft). y.answer) (e ∙ ap (hashed_in b o) r)) in r ∙ rw (f.0, f.1)

  module _ (i : ℕ) (k l : List ℕ) (y : Result (Unit {0}) Refusal) (e : left (paper y) h ≡ info_hash_of b o) where
    pub one_kept : (x : Result (Unit {0}) Refusal) → y ≡ (Ok tt) → KeepsOne h i k x l → HashesOne b i k x l
    unfolding package_in
    one_kept x j = go x
      where
        r : (t : Torrent) × (read_of b ≡ taken t) × (h ≡ sha1 (bytes_at b t.info))
        r = hash-read (rw j at e)

        go : (x : Result (Unit {0}) Refusal) → KeepsOne h i k x l → HashesOne b i k x l
        go (Ok tt) (f, g) = (h, rw (r.1, sym r.2, f), ap length r.2 ∙ digest-length (bytes_at b r.0.info), g)
        go (Err z) (f, g) = rw (r.1, sym r.2, f, g)

    pub one-refused : {z : Refusal} {x : Result (Unit {0}) Refusal} → y ≡ Err z → x ≡ Err (record { number = z.number; place = 0 }) → HashesOne b i k x l
    unfolding package_in
    one-refused j f = subst (λ (v : Result (Unit {0}) Refusal). HashesOne b i k v l) (sym f) (rw (hash-unread (rw j at e)))

-- the hash is one of those before
pub given-before : (h : List ℕ) (i : ℕ) (k : List ℕ) {t : Bool} {x : Result (Unit {0}) Refusal} → t ≡ among h (runs_at k 0 20 i) → t ≡ true → x ≡ Err (record { number = week; place = 0 }) → KeepsOne h i k x k
given-before h i k e f g = subst (λ (y : Result (Unit {0}) Refusal). KeepsOne h i k y k) (sym g) (sym e ∙ f, refl)

-- ---- the whole call

module _ (ns bs l o : List ℕ) (x : Result (Unit {0}) Refusal) (s : Hashes bs ns x l) where
  pub all-hashed : x ≡ (Ok tt) → puts o (short_file (packages_by ns bs l)) ≡ puts o (then (packages_from [] (cut_by ns bs)) short_file)
  all-hashed e = ap (λ (y : Outcome (List Package)). puts o (then y short_file)) (sym (subst (λ (y : Result (Unit {0}) Refusal). Hashes bs ns y l) e s))

  pub not-hashed : {r : Refusal} → x ≡ Err r → left (refusal r) o ≡ puts o (then (packages_from [] (cut_by ns bs)) short_file)
  not-hashed e = ap (λ (y : Outcome (List Package)). puts o (then y short_file)) (sym (subst (λ (y : Result (Unit {0}) Refusal). Hashes bs ns y l) e s))

module _ (bs ns o : List ℕ) where
  pub count_none : {b : Result ℕ Refusal} → length ns ≡ 0 → b ≡ Err (record { number = week; place = 0 }) → left (paper b) o ≡ write_of bs ns o
  unfolding written_of
  count_none e f = rw (f, lt-leb 1 (length ns) (omega arith))

  pub count-over : {b : Result ℕ Refusal} → most_packages < length ns → b ≡ Err (record { number = week; place = 0 }) → left (paper b) o ≡ write_of bs ns o
  unfolding written_of
  count-over e f = rw (f, le-leb 1 (length ns) (omega arith), lt-leb (length ns) most_packages e)

  module _ (l : 1 ≤ length ns) (m : length ns ≤ most_packages) where
    pub sum-wrong : {b : Result ℕ Refusal} {t : Bool} → t ≡ eqb (sum ns) (length bs) → t ≡ false → b ≡ Err (record { number = week; place = 0 }) → left (paper b) o ≡ write_of bs ns o
    unfolding written_of
    sum-wrong e f g = let s : eqb (sum ns) (length bs) ≡ false = sym e ∙ f in rw (g, le-leb 1 (length ns) l, le-leb (length ns) most_packages m, s)

    pub sum-right : {t : Bool} → t ≡ eqb (sum ns) (length bs) → t ≡ true → puts o (then (packages_from [] (cut_by ns bs)) short_file) ≡ write_of bs ns o
    unfolding written_of
    sum-right e f = let s : eqb (sum ns) (length bs) ≡ true = sym e ∙ f in rw (le-leb 1 (length ns) l, le-leb (length ns) most_packages m, s)
