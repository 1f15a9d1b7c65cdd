-- `sheets::rows::digit_at` meets its contract. Assumes nothing.
use mathlib.Core.Path.{sym, ◌∙◌}
use native.Mathlib.Omega.{arith}
use Rattle.refusal.proofs.Cases.{no_way}
use Rattle.sheets.proofs.rows.digit_at.Goals as goal

pub returns-then-sheet-at : goal.returns-then-sheet-at
returns-then-sheet-at c = (λ e. no_way (cc), λ e l. absurd (omega arith))

pub returns : goal.returns
returns c = (λ e. (omega arith, sym c.digit.ensures ∙ e), λ e l. sym c.digit.ensures ∙ e)
