-- Demand 1 of `tracker::writing`: replies, written. Assumes nothing.
use Rattle.refusal.specs.Paper.{paper}
use Rattle.refusal.specs.declared.Refusal.{Refusal}
use Rattle.std.specs.Prelude.{List, ◌≡◌, ℕ, Result}
use Rattle.bencode_writer.specs.Put.{left}
use Rattle.tracker.specs.Writing.{write_of}
use Rattle.demands.specs.One.{Lent, now}

-- tracker::writing::write
abbrev pub write-ensures : (interval : ℕ) (peers : Lent (List ℕ)) → Result ℕ Refusal → Lent (List ℕ) → Type 0
write-ensures interval peers r out = left (paper r) (now out.exit) ≡ write_of interval (now peers.entry) (now out.entry)
