-- `yard_scans::list_step` meets its contract. Assumes nothing.
use Rattle.yard_tables.specs.declared.Page.{Page}
use Prim.Native.Nat.{ℕ, ◌+◌}
use borrow.Author.Tests.{not-true, not-false}
use mathlib.Core.Path.{sym, ap, ◌∙◌}
use Rattle.yard_scans.proofs.Steps.{missing-is, missing-free, missing-whole, step_skip, step-early, step_line, step_past}
use mathlib.Core.Bool.{not}
use Rattle.yard_scans.proofs.list_step.Goals as goal

pub returns-then-not-on : goal.returns-then-not-on
returns-then-not-on c = let k = step_skip c.args.asked c.args.p c.args.s c.args.i c.args.page.now (missing-free c.args.asked.pieces c.args.s (sym c.on.ensures ∙ not-true _ (ap not c.if-not-on.true))) in (sym k.0, sym k.1)

pub returns-then-held-wide : goal.returns-then-held-wide
returns-then-held-wide c = let k = step_skip c.args.asked c.args.p c.args.s c.args.i c.args.page.now (missing-whole c.args.asked.pieces c.args.s (sym c.on.ensures ∙ not-false _ (ap not c.if-not-on.false)) (sym c.held.ensures ∙ c.if-held-wide.true ∙ c.wide.ensures)) in (sym k.0, sym k.1)

pub returns-then-i-asked : goal.returns-then-i-asked
returns-then-i-asked c = let k = step-early c.args.asked c.args.p c.args.s c.args.i c.args.page.now (missing-is c.args.asked.pieces c.args.s (sym c.on.ensures ∙ not-false _ (ap not c.if-not-on.false)) (λ e. c.if-held-wide.false (c.held.ensures ∙ e ∙ sym c.wide.ensures))) c.if-i-asked.true in (sym k.0, sym k.1)

pub returns-then-written-asked : goal.returns-then-written-asked
returns-then-written-asked c = let k = step_line c.args.asked c.args.p c.args.s c.args.i c.args.page.now (missing-is c.args.asked.pieces c.args.s (sym c.on.ensures ∙ not-false _ (ap not c.if-not-on.false)) (λ e. c.if-held-wide.false (c.held.ensures ∙ e ∙ sym c.wide.ensures))) c.if-i-asked.false c.if-written-asked.true in (sym k.0, c.put_line.ensures ∙ sym k.1)

pub returns : goal.returns
returns c =
    let k = step_past c.args.asked c.args.p c.args.s c.args.i c.args.page.now (missing-is c.args.asked.pieces c.args.s (sym c.on.ensures ∙ not-false _ (ap not c.if-not-on.false)) (λ e. c.if-held-wide.false (c.held.ensures ∙ e ∙ sym c.wide.ensures))) c.if-i-asked.false c.if-written-asked.false in (ap {B = Page} (λ (n : ℕ). record { written = c.args.p.written; total = c.args.p.total + 1; next = n }) c.min.ensures ∙ sym k.0, sym k.1)
