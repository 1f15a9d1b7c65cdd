-- `tracker::listed::ending` meets its contract. Assumes nothing.
use Rattle.std.proofs.Common.{Ok, sym, ap, ◌∙◌, [], ◌∷◌}
use Rattle.tracker.specs.Usual.{Reads}
use Rattle.tracker.proofs.Matching.{ending-is}
use Rattle.tracker.proofs.listed.ending.Goals as goal

pub returns : goal.returns
returns c =
    let e : Reads c.args.text.now c.in-Ok-Is.past (101 ∷ []) c.in_ok-next.next = c.in_ok-next.ensures in
    ending-is c.in-Ok-Is.z c.in-Ok-Is.past c.in_ok-next.next c.in_ok-id.ensures c.if-text-id-lt20.false c.in_ok-integer.ensures (ap Ok (sym c.in-Ok-Is.field-0-is) ∙ sym c.in-Ok-Is.is ∙ c.integer.ensures 0) c.in_ok-port.ensures.0 c.in_ok-port.ensures.1 e
