-- The seats before the index are choked, and those from it on are as they were.
use Rattle.std.proofs.Common.{◌≡◌, ◌++◌, take, drop}
use Rattle.yard_scans.proofs.Passes.{choke_by}
use Rattle.yard_tables.specs.Counting.{each, each_from}
use Rattle.yard_scans.proofs.choke_seats.Given as goal

abbrev pub invariant-loop-s : goal.invariant-loop-s
invariant-loop-s l = take l.s-index l.seats ++ each_from l.s-index choke_by (drop l.s-index l.seats) ≡ each choke_by l.initial.seats
