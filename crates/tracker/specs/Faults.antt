-- Why a compact reply is not written, and by which number. Assumes nothing: these are definitions.
use Rattle.std.specs.Prelude.{List, ◌≡◌, ℕ, ◌%◌, ◌<◌, ◌≤◌, length}
use Rattle.refusal.specs.Numbers.{long, range, peer, room}
use Rattle.refusal.specs.Limits.{most_text, longest_interval}
use Rattle.tracker.specs.Writing.{text_of}

-- n seconds to wait and the entries bs, for the lent output o: the first rule that is broken gives the number
pub data NotWritten (n : ℕ) (bs o : List ℕ) : ℕ → Type 0 where
  too-late : longest_interval < n → NotWritten n bs o range
  not-sixes : n ≤ longest_interval → 0 < length bs % 6 → NotWritten n bs o peer
  too_long : n ≤ longest_interval → length bs % 6 ≡ 0 → most_text < length (text_of n bs) → NotWritten n bs o long
  no_room : n ≤ longest_interval → length bs % 6 ≡ 0 → length (text_of n bs) ≤ most_text → length o < length (text_of n bs) → NotWritten n bs o room
