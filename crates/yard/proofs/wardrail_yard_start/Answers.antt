-- `wardrail_yard_start` meets its contract: what it calls joins to the call on the whole yard. Assumes nothing.
use Rattle.std.specs.Prelude.{Ok, Err}
use Rattle.std.proofs.Common.{refl}
use Rattle.yard.proofs.Calls.{start_is}
use Rattle.yard.proofs.wardrail_yard_start.Goals as goal

pub returns-in-Ok : goal.returns-in-Ok
returns-in-Ok c =
    let a = c.args in
    start_is a.head.now a.seats.now a.rows.now a.holders.now a.pieces a.piece_length a.last_length c.clear_seats.new.seats c.start_step.new.rows c.start_step.new.holders (Ok c.in-Ok.begun) 0 (c.in-Ok.ensures a.head.now) c.clear_seats.ensures refl

pub returns-in-Err : goal.returns-in-Err
returns-in-Err c =
    let a = c.args in
    start_is a.head.now a.seats.now a.rows.now a.holders.now a.pieces a.piece_length a.last_length a.seats.now c.start_step.new.rows c.start_step.new.holders (Err c.in-Err.r) c.in-Err.r.number (c.in-Err.ensures a.head.now) refl refl
