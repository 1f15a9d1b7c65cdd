-- `bencode_scalar::string` meets its contract. Assumes nothing.
use Rattle.std.proofs.Common.{arith, sym, ap, ◌∙◌, Err}
use Rattle.bencode_scalar.specs.Answers.{text_of}
use Rattle.bencode_scalar.proofs.Forms.{passed_on, string-is, string-long, string-missing}
use Rattle.bencode_scalar.proofs.string.Goals as goal

pub returns-in_err-expect : goal.returns-in_err-expect
returns-in_err-expect c = λ n.
    let s = c.args.text.now in
    let r = c.number_from-run.ensures in
    ap (text_of s n) (passed_on _ _ c.from_residual-in_err-expect.ensures.1)
    ∙ string-missing s c.args.at n c.in_ok-first.ensures (sym c.digit.ensures ∙ c.if-not-digit.false) r.1 r.0 c.in_err-expect.ensures

pub returns-then-text-from : goal.returns-then-text-from
returns-then-text-from c = λ n.
    let s = c.args.text.now in
    let r = c.number_from-run.ensures in
    ap (text_of s n) (ap Err c.refuse-then-text-from.ensures)
    ∙ string-long s c.args.at n c.in_ok-first.ensures (sym c.digit.ensures ∙ c.if-not-digit.false) r.1 r.0 c.in_ok-expect.ensures (omega arith) (omega arith)

pub returns : goal.returns
returns c = λ n.
    let r = c.number_from-run.ensures in
    string-is c.args.text.now c.args.at n c.in_ok-first.ensures (sym c.digit.ensures ∙ c.if-not-digit.false) r.1 r.0 c.in_ok-expect.ensures (omega arith) (omega arith)
