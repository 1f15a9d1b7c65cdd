-- What stands at a place of any text, by its first bytes there. Assumes nothing: these are definitions.
use Rattle.refusal.specs.declared.Refusal.{Refusal}
use Rattle.std.specs.Prelude.{cond, List, ℕ, zero, suc, ◌+◌, ◌-◌, eqb, ℤ, length, take, drop, Err, Ok, Result}
use Rattle.refusal.specs.Paper.{Outcome, taken, refused, refusal, then}
use Rattle.refusal.specs.Numbers.{cut, byte}
use Rattle.refusal.specs.Limits.{most_levels}
use Rattle.bencode_scalar.specs.Written.{in_range, key_lt}
use Rattle.bencode_scalar.specs.Reading.{Got, got, bad, on_head, string_at, integer_at}
use Rattle.bencode.specs.Value.{Value}
use Rattle.bencode.specs.Decode.{value_from, unless_long}
use Rattle.bencode_walk.specs.declared.Seen.{Seen}
use Rattle.bencode_walk.specs.declared.Seen.TheVariants.{String, Integer, Long, List as ListSeen, Dictionary, End}
use Rattle.bencode_walk.specs.declared.Next.{Next}
use Rattle.bencode_walk.specs.declared.Next.TheVariants.{Key, Close}
use Rattle.bencode_walk.specs.declared.Sought.{Sought}
use Rattle.bencode_walk.specs.declared.Sought.TheVariants.{Found, Missing}

-- what can stand at a place; the last number is the place past it, or of the first thing in a list or dictionary
pub data Head : Type 0 where
  string : ℕ → ℕ → ℕ → Head
  integer : ℤ → ℕ → Head
  long : ℕ → ℕ → ℕ → Head
  list : ℕ → Head
  dictionary : ℕ → Head
  end : ℕ → Head

-- what the answers of `look` say: of a string, and of an integer outside 64 bits, where its bytes begin and how many they are
abbrev pub seen_paper : Result Seen Refusal → Outcome Head
seen_paper (Ok (String p q)) = taken (string p.from p.len q)
seen_paper (Ok (Integer z q)) = taken (integer z q)
seen_paper (Ok (Long p q)) = taken (long p.from p.len q)
seen_paper (Ok (ListSeen q)) = taken (list q)
seen_paper (Ok (Dictionary q)) = taken (dictionary q)
seen_paper (Ok (End q)) = taken (end q)
seen_paper (Err r) = refusal r

-- a string that was read: its bytes end where it does
abbrev pub string_head : Got (List ℕ) → Outcome Head
string_head (got k l q n) = taken (string (q - length k) (length k) q)
string_head (bad r p) = refused r p

-- an integer whose i stands at p: sign and digits stand between the i and the e
abbrev pub integer_head : ℕ → Got ℤ → Outcome Head
integer_head p (got z l q n) = taken (cond (in_range z) (integer z q) (long (p + 1) (q - (p + 2)) q))
integer_head p (bad r o) = refused r o

abbrev pub string_seen : List ℕ → ℕ → Outcome Head
string_seen s p = string_head (string_at (length s) (drop p s) p 0)

abbrev pub integer_seen : List ℕ → ℕ → Outcome Head
integer_seen s p = integer_head p (integer_at (length s) (drop p s) p 0)

-- what stands at p: i an integer, l a list, d a dictionary, e an end, and else it must be a string
abbrev pub look_at_of : List ℕ → ℕ → ℕ → Outcome Head
look_at_of s p b =
    cond (eqb b 105) (integer_seen s p)
    (cond (eqb b 108) (taken (list (p + 1)))
    (cond (eqb b 100) (taken (dictionary (p + 1)))
    (cond (eqb b 101) (taken (end (p + 1)))
    (string_seen s p))))

-- what `look` is to answer
unfoldable pub look_of : List ℕ → ℕ → Outcome Head
look_of s p = unless_long s (on_head (drop p s) (refused cut (length s)) (λ b t. look_at_of s p b))

-- what stands where an entry is due: a key's bytes and the place of its value, or the end and the place past it
pub data NextEntry : Type 0 where
  key : ℕ → ℕ → ℕ → NextEntry
  close : ℕ → NextEntry

abbrev pub entry_paper : Result Next Refusal → Outcome NextEntry
entry_paper (Ok (Key p q)) = taken (key p.from p.len q)
entry_paper (Ok (Close q)) = taken (close q)
entry_paper (Err r) = refusal r

abbrev pub as_entry : ℕ → Head → Outcome NextEntry
as_entry at (string p n q) = taken (key p n q)
as_entry at (integer z q) = refused byte at
as_entry at (long p n q) = refused byte at
as_entry at (list q) = refused byte at
as_entry at (dictionary q) = refused byte at
as_entry at (end q) = taken (close q)

abbrev pub entry_of : List ℕ → ℕ → Outcome NextEntry
entry_of s p = then (look_of s p) (as_entry p)

abbrev pub past_of : Got Value → Outcome ℕ
past_of (got v l q n) = taken q
past_of (bad r p) = refused r p

unfoldable pub skip_of : List ℕ → ℕ → Outcome ℕ
skip_of s p = unless_long s (past_of (value_from most_levels (length s) (drop p s) p 0))

-- where a key was found, by the places of its entry and its value; or where it would stand
pub data Hit : Type 0 where
  found : ℕ → ℕ → Hit
  missing : ℕ → Hit

abbrev pub seek_paper : Result Sought Refusal → Outcome Hit
seek_paper (Ok (Found p q)) = taken (found p q)
seek_paper (Ok (Missing p)) = taken (missing p)
seek_paper (Err r) = refusal r

-- the search for k at the entry that stands at p, with `on` for the search from a later place
abbrev pub seek_by : List ℕ → ℕ → List ℕ → (ℕ → Outcome Hit) → NextEntry → Outcome Hit
seek_by s p k on (key a m q) =
    let r : Outcome Hit = then (skip_of s q) on in
    cond (key_lt (take m (drop a s)) k) r (taken (cond (key_lt k (take m (drop a s))) (missing p) (found p q)))
seek_by s p k on (close q) = taken (missing p)

-- f bounds the number of entries
unfoldable pub seek_of : ℕ → List ℕ → ℕ → List ℕ → Outcome Hit
seek_of zero s p k = refused cut (length s)
seek_of (suc f) s p k = then (entry_of s p) (seek_by s p k (λ q. seek_of f s q k))
