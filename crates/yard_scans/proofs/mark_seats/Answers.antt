-- `mark_seats` meets its contract: all are choked, and then the five are not. Assumes nothing.
use Rattle.yard_scans.proofs.Calls.{mark_seats-is}
use Rattle.yard_scans.proofs.mark_seats.Goals as goal

pub returns : goal.returns
returns c = mark_seats-is c.args.seats.now c.args.marks c.unchoke_seat-5.new.seats c.choke_seats.ensures c.unchoke_seat.ensures c.unchoke_seat-2.ensures c.unchoke_seat-3.ensures c.unchoke_seat-4.ensures c.unchoke_seat-5.ensures
