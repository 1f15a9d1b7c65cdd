-- What the pass over a sheet comes to, row by row. Assumes nothing: these are definitions.
-- They serve inner contracts alone and need not be believed: the contract of the pass speaks of Rules.antt.
use Rattle.refusal.specs.declared.Refusal.{Refusal}
use Rattle.std.specs.Prelude.{◌≡◌, cond, List, ℕ, ◌+◌, ltb, eqb, length, drop, Err, None, Ok, Option, Result, Some}
use Rattle.refusal.specs.Paper.{Outcome, taken, refused, then}
use Rattle.refusal.specs.Numbers.{after, kind, peer}
use Rattle.refusal.specs.Parts.{bytes_at}
use Rattle.refusal.specs.declared.Part.{Part}
use Rattle.bencode_scalar.specs.Reading.{Got, got, bad, and_then, map_got}
use Rattle.bencode.specs.Value.{Value, str, Prev, start, last}
use Rattle.bencode.specs.Decode.{key_of, value_from}
use Rattle.bencode_walk.specs.Lookup.{same_key}
use Rattle.bencode_fields.specs.Values.{string_at}
use Rattle.sheets.specs.declared.rows.Stage.{Stage}
use Rattle.sheets.specs.declared.rows.Held.{Held}
use Rattle.sheets.specs.declared.rows.Held.TheVariants.{String, Other}
use Rattle.sheets.specs.Rules.{Listed, listed, unlisted}
use Rattle.sheets.specs.Reading.{listed_as}

-- the key before as the code keeps it
abbrev pub prev_in : List ℕ → Option Part → Prev
prev_in s None = start
prev_in s (Some x) = last (bytes_at s x)

-- a key's answer, after n other values
abbrev pub key_in : List ℕ → ℕ → Result Part Refusal → Got (List ℕ)
key_in s n (Ok x) = got (bytes_at s x) (drop (x.from + x.len) s) (x.from + x.len) (n + 1)
key_in s n (Err r) = bad r.number r.place

-- a value at p, after n others, and what the code's answer says of it
abbrev pub value_in_of : List ℕ → ℕ → ℕ → Got Value
value_in_of s p n = value_from 31 (length s) (drop p s) p n

abbrev pub Reads : List ℕ → ℕ → ℕ → Result Held Refusal → Type 0
Reads s p n (Ok (String x)) = value_in_of s p n ≡ got (str (bytes_at s x)) (drop (x.from + x.len) s) (x.from + x.len) (n + 1)
Reads s p n (Ok (Other q m)) = (v : Value) × (value_in_of s p n ≡ got v (drop q s) q m) × ((bs : List ℕ) → v ≡ str bs → ⊥)
Reads s p n (Err r) = value_in_of s p n ≡ bad r.number r.place

-- a row as it is read: its key, the place of its value, and that value
pub record Line : Type 0 where
  pub key : List ℕ
  pub place : ℕ
  pub value : Value

abbrev pub line : List ℕ → ℕ → Value → Line
line k p v = record { key = k; place = p; value = v }

abbrev pub line_in : List ℕ → Prev → ℕ → ℕ → Got Line
line_in s before p n = and_then (key_of (length s) before (drop p s) p n) (λ k l q m. map_got (line k q) (value_from 31 (length s) l q m))

-- the first of two that is listed
abbrev pub either : Listed → Listed → Listed
either (listed x) b = listed x
either unlisted b = b

-- the address v, where its key k is the hash h
abbrev pub under_key : List ℕ → List ℕ → Part → Listed
under_key h k v = cond (same_key k h) (listed v) unlisted

-- what the rows come to with one more, which stands at p
abbrev pub noted : List ℕ → ℕ → Line → Outcome Listed → Outcome Listed
noted h p x (taken a) =
    cond (eqb (length x.key) 20) (then (string_at x.place x.value) (λ v. taken (either a (under_key h x.key v)))) (refused peer p)
noted h p x (refused n q) = refused n q

-- the same by the code's parts: a key k of m bytes and the address v; or no string at q
abbrev pub with_address : List ℕ → ℕ → List ℕ → ℕ → Part → Outcome Listed → Outcome Listed
with_address h p k m v (taken a) = cond (eqb m 20) (taken (either a (under_key h k v))) (refused peer p)
with_address h p k m v (refused n q) = refused n q

abbrev pub without_address : ℕ → ℕ → ℕ → Outcome Listed → Outcome Listed
without_address p m q (taken a) = cond (eqb m 20) (refused kind q) (refused peer p)
without_address p m q (refused n r) = refused n r

-- the pass p after one more row, or why there is none
abbrev pub Turned : List ℕ → List ℕ → Stage → Result Stage Refusal → Type 0
Turned s h p (Ok q) =
    (x : Line) × (line_in s (prev_in s p.before) p.at p.count ≡ got x (drop q.at s) q.at q.count)
    × (prev_in s q.before ≡ last x.key) × (listed_as q.row ≡ noted h p.at x (listed_as p.row))
Turned s h p (Err r) = line_in s (prev_in s p.before) p.at p.count ≡ bad r.number r.place

-- the rows come to o, and the dictionary ends before `past`
abbrev pub ended_as : ℕ → ℕ → Outcome Listed → Outcome Listed
ended_as end past o = cond (ltb past end) (refused after past) o
