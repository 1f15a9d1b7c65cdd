-- Why a file is no week's file, and why none is written: each refusal's number and place, by the first check that fails in document 02's order.
-- Assumes nothing: these are definitions.
use Rattle.std.specs.Prelude.{◌≡◌, List, [], ◌∷◌, ℕ, suc, ◌+◌, ◌<◌, ◌≤◌, length, take, drop}
use mathlib.Core.List.{Memᴰ as In}
use Rattle.refusal.specs.BigEndian.{big_endian_of}
use Rattle.refusal.specs.Limits.{most_text, most_packages}
use Rattle.refusal.specs.Numbers.{week, beyond, long, room}
use Rattle.refusal.specs.Paper.{refused}
use Rattle.bencode.specs.Value.{Value, dict, encode}
use Rattle.bencode.specs.Exact.{Fine}
use Rattle.hash_sha1.specs.Sha1.{sha1}
use Rattle.torrent_blocks.specs.Rules.{sum}
use Rattle.torrent_metainfo.specs.Reading.{read_of}
use Rattle.torrent_laws.specs.Torrent.{TorrentSays, IsTorrent}
use Rattle.week.specs.File.{Package, bodies_of, table_bytes, file_of}
use Rattle.week.specs.Rules.{offset_place, length_place, hash_place, hash_at}
use Rattle.week.specs.Writing.{cut_by}
use Rattle.week_laws.specs.Week.{IsPackage, ArePackages, AllNew, lengths_of}

-- ---- the fields of the table

-- the four bytes at p are all there, and their number is x
pub record Number (s : List ℕ) (p x : ℕ) : Type 0 where
  pub there : p + 4 ≤ length s
  pub is : big_endian_of (take 4 (drop p s)) ≡ x

-- the file begins with n, 1 to 256
pub record Counts (s : List ℕ) (n : ℕ) : Type 0 where
  pub number : Number s 0 n
  pub some : 1 ≤ n
  pub few : n ≤ most_packages

-- the fields of package i are there, and its body, of m bytes from `at` on, is in the file
pub record EntryAt (s : List ℕ) (i at m : ℕ) : Type 0 where
  pub offset : Number s (offset_place i) at
  pub size : Number s (length_place i) m
  pub inside : at + m ≤ length s
  pub hash : hash_place i + 20 ≤ length s

-- no package before has the hash of package i
abbrev pub NewHash : List ℕ → ℕ → Type 0
NewHash s i = (j : ℕ) → j < i → hash_at s j ≡ hash_at s i → ⊥

-- the table, of n packages, is right before the entry of package i, whose body is to stand at a place
pub data RightTo (s : List ℕ) (n : ℕ) : ℕ → ℕ → Type 0 where
  counted : Counts s n → RightTo s n 0 (table_bytes n)
  entered : (i at m : ℕ) → RightTo s n i at → i < n → EntryAt s i at m → NewHash s i → RightTo s n (suc i) (at + m)

-- the first field that is wrong, cut off, or a hash given before, by its place; or the first byte after the last body
pub data WrongTable (s : List ℕ) : ℕ → Type 0 where
  wrong-count : ((n : ℕ) → Counts s n → ⊥) → WrongTable s 0
  wrong-offset : (n i at : ℕ) → RightTo s n i at → i < n → (Number s (offset_place i) at → ⊥) → WrongTable s (offset_place i)
  wrong-length : (n i at : ℕ) → RightTo s n i at → i < n → Number s (offset_place i) at → ((m : ℕ) → Number s (length_place i) m → at + m ≤ length s → ⊥) → WrongTable s (length_place i)
  wrong-hash : (n i at m : ℕ) → RightTo s n i at → i < n → Number s (offset_place i) at → Number s (length_place i) m → at + m ≤ length s
      → (hash_place i + 20 ≤ length s → NewHash s i → ⊥) → WrongTable s (hash_place i)
  bytes_after : (n at : ℕ) → RightTo s n n at → at < length s → WrongTable s at

-- ---- the bodies

-- the body of package i, of m bytes from `at` on, is refused as a torrent, or its info hash is not the table's
pub data NoBody (s : List ℕ) (i at m : ℕ) : ℕ → ℕ → Type 0 where
  no-torrent : (n p : ℕ) → read_of (take m (drop at s)) ≡ refused n p → NoBody s i at m n (at + p)
  other-hash : (v : Value) (t : TorrentSays) → Fine (take m (drop at s)) v → IsTorrent v t → (hash_at s i ≡ sha1 (encode (dict t.info)) → ⊥) → NoBody s i at m week (hash_place i)

-- each of the first i packages is a torrent with its hash
abbrev pub GoodBodies : List ℕ → ℕ → Type 0
GoodBodies s i = (j : ℕ) → j < i → (at m : ℕ) → EntryAt s j at m → (t : TorrentSays) × IsPackage (record { body = take m (drop at s); hash = hash_at s j }) t

-- ---- what the calls refuse

-- the table alone
pub data NoTable (s : List ℕ) : ℕ → ℕ → Type 0 where
  long-table : most_text < length s → NoTable s long 0
  no_table : (p : ℕ) → length s ≤ most_text → WrongTable s p → NoTable s week p

-- the whole file
pub data NoWeek (s : List ℕ) : ℕ → ℕ → Type 0 where
  bad-table : (k q : ℕ) → NoTable s k q → NoWeek s k q
  bad-body : (n i at m k q : ℕ) → length s ≤ most_text → RightTo s n n (length s) → i < n → GoodBodies s i → EntryAt s i at m → NoBody s i at m k q → NoWeek s k q

-- package i of any file, by its entry alone
pub data NoEntry (s : List ℕ) (i : ℕ) : ℕ → ℕ → Type 0 where
  long-file : most_text < length s → NoEntry s i long 0
  no-count : length s ≤ most_text → ((n : ℕ) → Counts s n → ⊥) → NoEntry s i week 0
  past-last : (n : ℕ) → length s ≤ most_text → Counts s n → n ≤ i → NoEntry s i beyond 0
  no-offset : (n : ℕ) → length s ≤ most_text → Counts s n → i < n → ((at : ℕ) → Number s (offset_place i) at → ⊥) → NoEntry s i week (offset_place i)
  no_length : (n at : ℕ) → length s ≤ most_text → Counts s n → i < n → Number s (offset_place i) at → ((m : ℕ) → Number s (length_place i) m → at + m ≤ length s → ⊥)
      → NoEntry s i week (length_place i)
  no_hash : (n at m : ℕ) → length s ≤ most_text → Counts s n → i < n → Number s (offset_place i) at → Number s (length_place i) m → at + m ≤ length s → (hash_place i + 20 ≤ length s → ⊥)
      → NoEntry s i week (hash_place i)
  no_body : (n at m k q : ℕ) → length s ≤ most_text → Counts s n → i < n → EntryAt s i at m → NoBody s i at m k q → NoEntry s i k q

-- of bodies to be written, after packages whose hashes are `seen`, the first that is no torrent, or whose hash was given before
pub data NoPackages : List (List ℕ) → List (List ℕ) → ℕ → Type 0 where
  this-body : (seen : List (List ℕ)) (b : List ℕ) (bs : List (List ℕ)) (n p : ℕ) → read_of b ≡ refused n p → NoPackages seen (b ∷ bs) n
  this-hash : (seen : List (List ℕ)) (p : Package) (t : TorrentSays) (bs : List (List ℕ)) → IsPackage p t → In p.hash seen → NoPackages seen (p.body ∷ bs) week
  later : (seen : List (List ℕ)) (p : Package) (t : TorrentSays) (bs : List (List ℕ)) (n : ℕ) → IsPackage p t → (In p.hash seen → ⊥) → NoPackages (p.hash ∷ seen) bs n
      → NoPackages seen (p.body ∷ bs) n

-- bodies bs, of the lengths ns, are not written into an output of so many bytes
pub data Unwritten (bs ns : List ℕ) (size : ℕ) : ℕ → Type 0 where
  wrong-number : (1 ≤ length ns → length ns ≤ most_packages → ⊥) → Unwritten bs ns size week
  wrong-sum : 1 ≤ length ns → length ns ≤ most_packages → (sum ns ≡ length bs → ⊥) → Unwritten bs ns size week
  bad-package : (n : ℕ) → 1 ≤ length ns → length ns ≤ most_packages → sum ns ≡ length bs → NoPackages [] (cut_by ns bs) n → Unwritten bs ns size n
  long-week : (ps : List Package) (ts : List TorrentSays) → 1 ≤ length ns → length ns ≤ most_packages → ArePackages ps ts → AllNew [] ps → bodies_of ps ≡ bs → lengths_of ps ≡ ns
      → most_text < length (file_of ps) → Unwritten bs ns size long
  no_room : (ps : List Package) (ts : List TorrentSays) → 1 ≤ length ns → length ns ≤ most_packages → ArePackages ps ts → AllNew [] ps → bodies_of ps ≡ bs → lengths_of ps ≡ ns
      → length (file_of ps) ≤ most_text → size < length (file_of ps) → Unwritten bs ns size room
