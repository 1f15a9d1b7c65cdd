-- `torrent_contents::files::numbered` meets its contract. Assumes nothing.
use Rattle.refusal.specs.Paper.{refusal, paper}
use Rattle.torrent_contents.proofs.Numbering.{number_past, number-only, number-listed, place-fits}
use Rattle.std.proofs.Common.{arith, ap, ◌∙◌}
use Rattle.torrent_contents.proofs.files.numbered.Goals as goal

pub returns-then-content-number : goal.returns-then-content-number
returns-then-content-number c = ap refusal c.refuse.ensures ∙ number_past c.args.text.now c.args.t c.requires c.args.number (omega arith)

pub returns-then-content : goal.returns-then-content
returns-then-content c = ap paper c.only.ensures ∙ number-only c.args.text.now c.args.t c.requires c.args.number c.if-content.true (omega arith)

pub overflow_add-content : goal.overflow_add-content
overflow_add-content c = omega (arith, place-fits c.args.text.now c.args.t c.requires c.args.number c.if-content.false)

pub returns : goal.returns
returns c = c.nth.ensures ∙ number-listed c.args.text.now c.args.t c.requires c.args.number c.if-content.false (omega arith)
