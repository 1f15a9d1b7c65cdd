-- The seats left, ranked after those before them, are all ranked.
use Rattle.std.proofs.Common.{◌≡◌, drop}
use Rattle.yard_tables.specs.Ranks.{ranked, rank_from}
use Rattle.yard_scans.proofs.rank_seats.Given as goal

abbrev pub invariant-loop-i : goal.invariant-loop-i
invariant-loop-i l = rank_from l.h.last (drop l.i l.seats) l.i l.best ≡ ranked l.h.last l.seats
