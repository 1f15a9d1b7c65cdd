-- The counts of the pieces below q are raised.
use Rattle.std.proofs.Common.{◌≡◌, List, ℕ, length}
use Rattle.yard_hearing.specs.Passes.{raised}
use Rattle.yard_hearing.proofs.row.raise_byte.Given as goal

abbrev pub invariant-loop-q : goal.invariant-loop-q
invariant-loop-q l = (length l.holders ≡ length l.initial.holders) × ((m : List ℕ) → l.initial.holders ≡ raised l.rows l.at l.said l.p m → l.holders ≡ raised l.rows l.at l.said l.q m)
