-- `links::writing::value` meets its contract. Assumes nothing.
use mathlib.Core.Path.{◌∙◌}
use lib.ListN.{length-append}
use Rattle.links.specs.Writing.{unreserved, escaped}
use Rattle.bencode_writer.proofs.Escapes.{escaped-more, escaped-none}
use Rattle.bencode_writer.proofs.Runs.{ran-length, ran_then, ran-room, put-ran, going_start, going_more, going_end, going-room, going-length}
use Rattle.links.proofs.Putting.{escaped-length}
use native.Mathlib.Omega.{arith}
use Rattle.links.proofs.writing.value.Goals as goal

pub loop-b-init : goal.loop-b-init
loop-b-init c = going_start _ _ _

pub byte-to-requires : goal.byte-to-requires
byte-to-requires c = omega (arith, going-room c.loop-b.invariant (ran-room (put-ran c.args.lead.now c.args.at c.args.out.now (omega (arith, c.requires, length-append c.args.lead.now (escaped c.args.bytes.now))) c.literal.ensures c.end-to.ensures) (escaped c.args.bytes.now) c.requires), escaped-length c.args.bytes.now c.loop-b.b-index (omega arith))

pub loop-b-preserved : goal.loop-b-preserved
loop-b-preserved c = going_more _ _ _ c.loop-b.invariant _ _ (escaped-more unreserved c.args.bytes.now c.loop-b.b-index (omega arith)) c.byte-to.ensures

pub shape_of-out : goal.shape_of-out
shape_of-out c = going-length c.loop-b.invariant ∙ ran-length (put-ran c.args.lead.now c.args.at c.args.out.now (omega (arith, c.requires, length-append c.args.lead.now (escaped c.args.bytes.now))) c.literal.ensures c.end-to.ensures)

pub returns : goal.returns
returns c = ran_then (put-ran c.args.lead.now c.args.at c.args.out.now (omega (arith, c.requires, length-append c.args.lead.now (escaped c.args.bytes.now))) c.literal.ensures c.end-to.ensures) (going_end _ _ _ c.loop-b.invariant (escaped-none unreserved c.args.bytes.now c.loop-b.b-index (omega arith)))
