-- `tracker::listed::usual` meets its contract. Assumes nothing.
use Rattle.std.proofs.Common.{arith}
use Rattle.tracker.proofs.Matching.{string-reads, usual-is}
use Rattle.tracker.proofs.listed.usual.Goals as goal

pub overflow_add-past : goal.overflow_add-past
overflow_add-past c = record { fits = omega (arith, (string-reads c.args.text.now c.in_ok-string.string c.in_ok-ip.ip c.string.result c.in_ok-string.ensures.inside c.in_ok-ip.ensures.value (c.string.ensures 0)).0.inside) }

pub returns : goal.returns
returns c =
    let r = string-reads c.args.text.now c.in_ok-string.string c.in_ok-ip.ip c.string.result c.in_ok-string.ensures.inside c.in_ok-ip.ensures.value (c.string.ensures 0) in
    usual-is c.in_ok-ip.ip c.if-text-gt-TEXT.false c.in_ok-string.ensures r.0 r.1 c.in_ok-port.ensures
