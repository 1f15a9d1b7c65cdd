-- `bencode::step_told` meets its contract. Assumes nothing.
use Rattle.std.specs.Prelude.{Err}
use Rattle.std.proofs.Common.{sym, ap, ◌∙◌}
use native.Mathlib.Omega.{arith}
use Rattle.bencode.proofs.Turns.{told-past, told-bad}
use Rattle.bencode.proofs.step_told.Goals as goal

pub returns-then-end-lt9223372036854775808 : goal.returns-then-end-lt9223372036854775808
returns-then-end-lt9223372036854775808 c = c.passed.ensures ∙ sym (told-past _ _ (omega arith))

pub returns : goal.returns
returns c = (ap Err c.refuse.ensures) ∙ sym (told-bad _ _ (omega arith))
