-- Document 02's checks of a week's file, in their order, each with its number and its place. Assumes nothing: these are definitions.
-- They need not be believed: week_laws/proofs ties them to what such a file is, and to why another is none.
use Rattle.std.specs.Prelude.{Bool, false, cond, ◌&&◌, ◌||◌, not, List, [], ◌∷◌, ℕ, zero, suc, ◌+◌, ◌*◌, eqb, leb, ltb, length, take, drop}
use Rattle.refusal.specs.BigEndian.{big_endian_of, fits}
use Rattle.refusal.specs.Limits.{most_packages}
use Rattle.refusal.specs.Numbers.{week, beyond}
use Rattle.refusal.specs.Paper.{Outcome, taken, refused, map, then}
use Rattle.refusal.specs.Parts.{bytes_at}
use Rattle.bencode.specs.Decode.{unless_long}
use Rattle.hash_sha1.specs.Sha1.{sha1}
use Rattle.hash_sha1.specs.Digest.{same}
use Rattle.torrent_metainfo.specs.Rules.{provided}
use Rattle.torrent_metainfo.specs.Reading.{read_of}
use Rattle.torrent_metainfo.specs.declared.Torrent.{Torrent}
use Rattle.week.specs.File.{table_bytes}
use Rattle.week.specs.declared.Entry.{Entry}
use Rattle.week.specs.declared.Week.{Week}

-- ---- the table

-- where the fields of package i stand
abbrev pub offset_place : ℕ → ℕ
offset_place i = 4 + 28 * i

abbrev pub length_place : ℕ → ℕ
length_place i = 8 + 28 * i

abbrev pub hash_place : ℕ → ℕ
hash_place i = 12 + 28 * i

-- a field of four bytes, which is 18 at its first byte where it is cut off
unfoldable pub field_at : List ℕ → ℕ → Outcome ℕ
field_at s p = cond (fits 4 s p) (taken (big_endian_of (take 4 (drop p s)))) (refused week p)

-- the number of packages
unfoldable pub count_of : List ℕ → Outcome ℕ
count_of s = then (field_at s 0) (λ n. provided (leb 1 n && leb n most_packages) week 0 (taken n))

-- runs of 20 bytes, each so many bytes after the one before: the last of n first
unfoldable pub runs_at : List ℕ → ℕ → ℕ → ℕ → List (List ℕ)
runs_at s from stride zero = []
runs_at s from stride (suc n) = take 20 (drop (from + stride * n) s) ∷ runs_at s from stride n

-- the hash of package i by the table, and those of the packages before it
abbrev pub hash_at : List ℕ → ℕ → List ℕ
hash_at s i = take 20 (drop (hash_place i) s)

abbrev pub hashes_before : List ℕ → ℕ → List (List ℕ)
hashes_before s i = runs_at s 12 28 i

-- whether a hash is one of those
unfoldable pub among : List ℕ → List (List ℕ) → Bool
among h [] = false
among h (x ∷ xs) = same x h || among h xs

-- the entry of package i, whose body is to stand at a place; the place past the body
unfoldable pub entry_of : List ℕ → ℕ → ℕ → Outcome ℕ
entry_of s i at =
    then (field_at s (offset_place i)) (λ x.
    provided (eqb x at) week (offset_place i)
    (then (field_at s (length_place i)) (λ n.
    provided (leb (at + n) (length s)) week (length_place i)
    (provided (fits 20 s (hash_place i)) week (hash_place i)
    (provided (not (among (hash_at s i) (hashes_before s i))) week (hash_place i)
    (taken (at + n)))))))

-- k entries, from package i on, and then that nothing stands after the last body; the place past it
unfoldable pub entries_of : List ℕ → ℕ → ℕ → ℕ → Outcome ℕ
entries_of s zero i at = provided (leb (length s) at) week at (taken at)
entries_of s (suc k) i at = then (entry_of s i at) (λ past. entries_of s k (suc i) past)

-- all of the table: how many packages there are
unfoldable pub table_of : List ℕ → Outcome ℕ
table_of s = unless_long s (then (count_of s) (λ n. map (λ end. n) (entries_of s n 0 (table_bytes n))))

-- ---- the bodies

-- the places of a refusal counted from the file's first byte, where the body stands at `from`
abbrev pub moved : {A : Type 0} → ℕ → Outcome A → Outcome A
moved from (taken x) = taken x
moved from (refused n p) = refused n (from + p)

-- what is told of package i, whose body of n bytes stands at `from` and is a torrent
abbrev pub entry_for : ℕ → ℕ → ℕ → Torrent → Entry
entry_for i from n t = record { hash = record { from = hash_place i; len = 20 }; body = record { from = from; len = n }; files = t.content.files; total = t.content.total }

-- the body of package i: a torrent, whose info hash is the table's
unfoldable pub body_of : List ℕ → ℕ → ℕ → ℕ → Outcome Entry
body_of s i from n =
    then (moved from (read_of (take n (drop from s)))) (λ t.
    provided (same (sha1 (bytes_at (take n (drop from s)) t.info)) (hash_at s i)) week (hash_place i)
    (taken (entry_for i from n t)))

-- package i, whose body of n bytes is to stand at `from`: it is in the file, and so is its hash
unfoldable pub placed_of : List ℕ → ℕ → ℕ → ℕ → Outcome Entry
placed_of s i from n =
    provided (leb (from + n) (length s)) week (length_place i)
    (provided (fits 20 s (hash_place i)) week (hash_place i)
    (body_of s i from n))

-- the same by the fields of its entry
unfoldable pub within_of : List ℕ → ℕ → Outcome Entry
within_of s i = then (field_at s (offset_place i)) (λ from. then (field_at s (length_place i)) (λ n. placed_of s i from n))

-- package i of any file, by its entry alone: no other entry is looked at
unfoldable pub package_at : List ℕ → ℕ → Outcome Entry
package_at s i = unless_long s (then (count_of s) (λ n. provided (ltb i n) beyond 0 (within_of s i)))

-- ---- the whole file

-- so many packages, and no files and bytes yet; and with those of one more
abbrev pub none : ℕ → Week
none n = record { count = n; files = 0; total = 0 }

abbrev pub plus : Week → Entry → Week
plus w e = record { count = w.count; files = w.files + e.files; total = w.total + e.total }

-- k packages, from package i on, after those that come to w
unfoldable pub sums_from : List ℕ → ℕ → ℕ → Week → Outcome Week
sums_from s zero i w = taken w
sums_from s (suc k) i w = then (package_at s i) (λ e. sums_from s k (suc i) (plus w e))

-- the table, then body by body
unfoldable pub week_of : List ℕ → Outcome Week
week_of s = then (table_of s) (λ n. sums_from s n 0 (none n))

-- package i of a week's file
unfoldable pub package_of : List ℕ → ℕ → Outcome Entry
package_of s i = then (week_of s) (λ w. provided (ltb i w.count) beyond 0 (package_at s i))
