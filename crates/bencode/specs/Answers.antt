-- What the code's answers say in the paper's words. Assumes nothing: these are definitions.
-- From `prev_of` on they serve inner contracts alone and need not be believed: the contracts of `check` and `value` speak of those before and of Decode.antt.
use Rattle.bencode.specs.declared.Cursor.{Cursor}
use Rattle.refusal.specs.declared.Refusal.{Refusal}
use Rattle.std.specs.Prelude.{◌≡◌, cond, List, ℕ, ◌+◌, ◌%◌, ◌^◌, ◌<◌, ◌≤◌, ltb, length, get_or, drop, Err, Ok, Result, Option, Some, None}
use Rattle.refusal.specs.Paper.{Outcome, map}
use Rattle.bencode_scalar.specs.Reading.{Got, got, bad}
use Rattle.bencode.specs.Value.{Prev, start, last, count}
use Rattle.bencode.specs.Decode.{decode}
use Rattle.refusal.specs.declared.Part.{Part}
use Rattle.refusal.specs.Parts.{bytes_at}

-- what `check` is to answer
abbrev pub check_of : List ℕ → Outcome ℕ
check_of s = map count (decode s)

-- a reader's answer: the next place and the values begun so far, or the refusal
abbrev pub step_of : {A : Type 0} → Got A → Result Cursor Refusal
step_of (got v l p n) = Ok (record { at = p; count = n })
step_of (bad r p) = Err (record { number = r; place = p })

-- the key before as the code keeps it, if there is one: its part is inside the text
abbrev pub prev_of : List ℕ → Option Part → Prev
prev_of s None = start
prev_of s (Some k) = last (bytes_at s k)

abbrev pub Inside : List ℕ → Option Part → Type 0
Inside s None = Unit
Inside s (Some k) = k.from + k.len ≤ length s

-- a key's answer, after n other values
abbrev pub key_is : List ℕ → ℕ → Result Part Refusal → Got (List ℕ)
key_is s n (Ok k) = got (bytes_at s k) (drop (k.from + k.len) s) (k.from + k.len) (n + 1)
key_is s n (Err r) = bad r.number r.place

-- a step told by a number r and what is left in a cell n: the place past and the count, or a refusal's number over 2 ^ 63 and its place
unfoldable pub told : ℕ → ℕ → Result Cursor Refusal
told r n = cond (ltb r (2 ^ 63)) (Ok (record { at = r; count = n })) (Err (record { number = r % 256; place = n }))

-- a place past that is told so
abbrev pub inside : Result Cursor Refusal → Type 0
inside (Ok c) = c.at < 2 ^ 63
inside (Err r) = Unit

-- a string's colon at c, with v bytes after it; r is past them
pub record Held (s : List ℕ) (c v r : ℕ) : Type 0 where
  pub here : c < length s
  pub colon : get_or s c 0 ≡ 58
  pub ends : c + 1 + v ≤ length s
  pub past : r ≡ c + 1 + v

-- an integer's e at c; r is past it
pub record Ended (s : List ℕ) (c r : ℕ) : Type 0 where
  pub here : c < length s
  pub ends : get_or s c 0 ≡ 101
  pub past : r ≡ c + 1
