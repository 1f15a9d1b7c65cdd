-- The counts of the pieces below q are lowered.
use Rattle.std.proofs.Common.{◌≡◌, List, ℕ, length}
use Rattle.yard_seating.specs.Steps.{lowered}
use Rattle.yard_seating.proofs.row.lower_byte.Given as goal

abbrev pub invariant-loop-q : goal.invariant-loop-q
invariant-loop-q l = (length l.holders ≡ length l.initial.holders) × ((d : List ℕ) → l.initial.holders ≡ lowered l.rows l.at l.p d → l.holders ≡ lowered l.rows l.at l.q d)
