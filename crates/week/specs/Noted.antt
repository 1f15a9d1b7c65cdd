-- What inner functions of the reader and of the writer keep and answer. Assumes nothing: these are definitions.
-- They serve inner contracts alone and need not be believed: the public contracts speak of Rules.antt and Writing.antt.
use Rattle.refusal.specs.declared.Refusal.{Refusal}
use Rattle.std.specs.Prelude.{◌≡◌, true, false, List, [], ◌∷◌, ◌++◌, ℕ, ◌+◌, ◌*◌, ◌<◌, length, get_or, take, drop, Err, Ok, Result}
use Rattle.std.proofs.lemmas.List.Edits.{sets}
use Rattle.refusal.specs.BigEndian.{bytes_of}
use Rattle.refusal.specs.Numbers.{week}
use Rattle.refusal.specs.Paper.{Outcome, taken, refusal}
use Rattle.bencode.specs.Decode.{unless_long}
use Rattle.week.specs.File.{Package, file_of}
use Rattle.week.specs.Rules.{runs_at, among, package_at}
use Rattle.week.specs.Writing.{cut_by, package_in, packages_from}
use Rattle.week.specs.declared.Entry.{Entry}

-- files and bytes of each of the first n packages stand in the list two by two
abbrev pub Noted : List ℕ → ℕ → List ℕ → Type 0
Noted s n l = (j : ℕ) → j < n → (e : Entry) → package_at s j ≡ taken e → (get_or l (2 * j) 0 ≡ e.files) × (get_or l (2 * j + 1) 0 ≡ e.total)

-- the file of packages, unless it is too long
abbrev pub short_file : List Package → Outcome (List ℕ)
short_file ps = unless_long (file_of ps) (taken (file_of ps))

-- packages of bodies of these lengths, which stand one after the other, and so do their hashes of 20 bytes
unfoldable pub packages_by : List ℕ → List ℕ → List ℕ → List Package
packages_by [] bs l = []
packages_by (n ∷ ns) bs l = record { body = take n bs; hash = take 20 l } ∷ packages_by ns (drop n bs) (drop 20 l)

-- the table's entries of such packages, of which the first body stands at a place
unfoldable pub entries_by_of : ℕ → List ℕ → List ℕ → List ℕ
entries_by_of at [] l = []
entries_by_of at (n ∷ ns) l = bytes_of 4 at ++ (bytes_of 4 n ++ (take 20 l ++ entries_by_of (at + n) ns (drop 20 l)))

-- all bodies are hashed and their hashes kept; or the refusal
abbrev pub Hashes : List ℕ → List ℕ → Result (Unit {0}) Refusal → List ℕ → Type 0
Hashes bs ns (Ok tt) l = packages_from [] (cut_by ns bs) ≡ taken (packages_by ns bs l)
Hashes bs ns (Err r) l = packages_from [] (cut_by ns bs) ≡ refusal r

-- the same of one body, after i others whose hashes stand in the list k, which leaves l
abbrev pub HashesOne : List ℕ → ℕ → List ℕ → Result (Unit {0}) Refusal → List ℕ → Type 0
HashesOne b i k (Ok tt) l = (h : List ℕ) × (package_in (runs_at k 0 20 i) b ≡ taken (record { body = b; hash = h })) × (length h ≡ 20) × (l ≡ sets k (20 * i) h)
HashesOne b i k (Err r) l = package_in (runs_at k 0 20 i) b ≡ refusal r

-- and of one hash
abbrev pub KeepsOne : List ℕ → ℕ → List ℕ → Result (Unit {0}) Refusal → List ℕ → Type 0
KeepsOne h i k (Ok tt) l = (among h (runs_at k 0 20 i) ≡ false) × (l ≡ sets k (20 * i) h)
KeepsOne h i k (Err r) l = (among h (runs_at k 0 20 i) ≡ true) × (r ≡ record { number = week; place = 0 })
