-- Demand 1 of `tracker`: replies and their entries, read. Assumes nothing.
use Rattle.refusal.specs.declared.Refusal.{Refusal}
use Rattle.tracker.specs.declared.compact.Packed.{Packed}
use Rattle.tracker.specs.declared.listed.Listed.{Listed}
use Rattle.std.specs.Prelude.{List, ◌≡◌, ℕ, Result}
use Rattle.refusal.specs.Paper.{map, then}
use Rattle.tracker.specs.Entries.{packed_paper, packed_at, listed_paper, listed_at}
use Rattle.tracker.specs.Reading.{reply_paper, peer_paper, entry_count}
use Rattle.tracker.specs.Reply.{counted, reply_of, nth_of}
use Rattle.tracker.specs.declared.Found.{Found}
use Rattle.tracker.specs.declared.Reply.{Reply}
use Rattle.demands.specs.One.{Lent, now}

-- tracker::read
abbrev pub read-ensures : (text : Lent (List ℕ)) → Result Reply Refusal → Type 0
read-ensures text r = reply_paper r ≡ map counted (reply_of (now text.entry))

-- tracker::peer
abbrev pub peer-ensures : (text : Lent (List ℕ)) (n : ℕ) → Result Found Refusal → Type 0
peer-ensures text n r = peer_paper r ≡ then (reply_of (now text.entry)) (nth_of n)

-- tracker::entries
abbrev pub entries-ensures : (reply : Result Reply Refusal) → ℕ → Type 0
entries-ensures reply r = r ≡ entry_count (reply_paper reply)

-- tracker::compact::packed_at
abbrev pub packed_at-ensures : (text : Lent (List ℕ)) (at : ℕ) → Result (Packed × ℕ) Refusal → Type 0
packed_at-ensures text at r = packed_paper r ≡ packed_at (now text.entry) at

-- tracker::listed::listed_at
abbrev pub listed_at-ensures : (text : Lent (List ℕ)) (at : ℕ) → Result (Listed × ℕ) Refusal → Type 0
listed_at-ensures text at r = listed_paper r ≡ listed_at (now text.entry) at
