-- `sheets::rows::pass` meets its contract. Assumes nothing.
use Rattle.std.specs.Prelude.{◌≡◌, Err}
use Rattle.std.proofs.Common.{refl, ap, ◌∙◌, arith, rules}
use Rattle.refusal.specs.Paper.{refusal}
use Rattle.sheets.specs.Reading.{listed_as}
use Rattle.sheets.proofs.Passing.{passing-start, passing-out, passing-end, passing-bad, passing-on, read_opened}
use Rattle.sheets.proofs.rows.pass.Goals as goal

pub loop-stage-init : goal.loop-stage-init
loop-stage-init c = passing-start c.args.sheet.now c.args.hash.now _ refl refl refl refl

pub returns-then-sheet-at : goal.returns-then-sheet-at
returns-then-sheet-at c = λ l i x. ap refusal c.refuse.ensures ∙ passing-out c.args.sheet.now c.args.hash.now c.loop-stage.stage c.loop-stage.invariant (omega arith) ∙ read_opened c.args.sheet.now c.args.hash.now l i x

pub bounds-sheet-at : goal.bounds-sheet-at
bounds-sheet-at c = omega arith

pub overflow_add-at : goal.overflow_add-at
overflow_add-at c = omega arith

pub returns-then-sheet-at-eq101 : goal.returns-then-sheet-at-eq101
returns-then-sheet-at-eq101 c = λ l i x. c.ended.ensures ∙ passing-end c.args.sheet.now c.args.hash.now c.loop-stage.stage c.loop-stage.invariant (omega arith) c.if-sheet-at-eq101.true ∙ read_opened c.args.sheet.now c.args.hash.now l i x

pub advance-requires : goal.advance-requires
advance-requires c = omega arith

pub loop-stage-smaller : goal.loop-stage-smaller
loop-stage-smaller c = omega (arith, (passing-on c.args.sheet.now c.args.hash.now c.loop-stage.stage c.loop-stage.invariant (omega arith) c.if-sheet-at-eq101.false c.in_ok-stage.stage c.in_ok-stage.ensures).0)

pub loop-stage-preserved : goal.loop-stage-preserved
loop-stage-preserved c = (passing-on c.args.sheet.now c.args.hash.now c.loop-stage.stage c.loop-stage.invariant (omega arith) c.if-sheet-at-eq101.false c.in_ok-stage.stage c.in_ok-stage.ensures).1

pub returns-in_err-stage : goal.returns-in_err-stage
returns-in_err-stage c =
    let e : c.from_residual.result ≡ Err c.in_err-stage.field-0.0 = search rules in
    λ l i x. ap listed_as e ∙ passing-bad c.args.sheet.now c.args.hash.now c.loop-stage.stage c.loop-stage.invariant (omega arith) c.if-sheet-at-eq101.false _ c.in_err-stage.ensures ∙ read_opened c.args.sheet.now c.args.hash.now l i x
