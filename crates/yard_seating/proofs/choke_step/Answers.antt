-- `yard_seating::choke_step` meets its contract. Assumes nothing.
use Rattle.yard_tables.specs.Tables.{paper}
use Rattle.yard_tables.specs.Step.{if_taken}
use Rattle.yard_tables.specs.Seats.{we_choke}
use Rattle.yard_seating.proofs.Ways.{mark-refused, mark-way, refused-writes, choke-frame}
use lib.Seq.{sets}
use lib.ListN.{length}
use Prim.Native.Nat.{ℕ}
use mathlib.Core.List.{List}
use mathlib.Core.Path.{ap, ◌∙◌}
use Rattle.yard_seating.proofs.choke_step.Goals as goal

pub returns-in-Some : goal.returns-in-Some
returns-in-Some c = record { step = mark-refused c.args.h c.args.s c.args.i c.args.n c.args.rows.now c.args.holders.now (we_choke c.args.on) (length c.args.out.now) _ _ c.in-Some.ensures c.refused.ensures; frame = refused-writes c.args.h c.args.s _ _ c.args.out.now _ c.refused.ensures }

pub returns : goal.returns
returns c = record { step = mark-way c.args.h c.args.s c.args.i c.args.n c.args.rows.now c.args.holders.now (we_choke c.args.on) (length c.args.out.now) _ c.in_default.ensures c.mark.ensures.step; frame = c.mark.ensures.frame ∙ ap (λ (b : List ℕ). sets c.args.out.now 0 (if_taken (paper c.mark.result.answer) b)) (choke-frame c.args.on _ c.choke_id.ensures.0) }
