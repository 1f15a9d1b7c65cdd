-- `bencode::integer` meets its contract. Assumes nothing.
use Rattle.std.proofs.Common.{sym, ap, ◌∙◌}
use Rattle.std.specs.Prelude.{Ok}
use Rattle.bencode.proofs.Turns.{int_at}
use Rattle.bencode.proofs.integer.Goals as goal

pub returns-in-Is : goal.returns-in-Is
returns-in-Is c = c.passed.ensures ∙ int_at c.args.at c.args.count c.args.text.now _ (ap Ok (sym c.in-Is.is) ∙ c.in_ok-next.ensures c.args.count)

pub returns-in-Large : goal.returns-in-Large
returns-in-Large c = c.passed-in-Large.ensures ∙ int_at c.args.at c.args.count c.args.text.now _ (ap Ok (sym c.in-Large.is) ∙ c.in_ok-next.ensures c.args.count)
