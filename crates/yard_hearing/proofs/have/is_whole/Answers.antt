-- `yard_hearing::have::is_whole` meets its contract. Assumes nothing.
use mathlib.Core.Path.{refl}
use mathlib.Core.Bool.{true≢false}
use mathlib.Core.Path.{sym}
use native.Mathlib.Omega.{arith}
use borrow.Author.Tests.{eqb-true}
use Rattle.yard_hearing.proofs.Hearing.{whole-have}
use Rattle.yard_hearing.proofs.have.is_whole.Goals as goal

pub returns-then-bytes-lt9 : goal.returns-then-bytes-lt9
returns-then-bytes-lt9 c = λ e. absurd (true≢false (sym e))

pub returns-then-number-ne5 : goal.returns-then-number-ne5
returns-then-number-ne5 c = λ e. absurd (true≢false (sym e))

pub returns : goal.returns
returns c = λ e. (omega arith, whole-have c.args.bytes.now c.number.result _ c.number.ensures (omega arith) (omega arith) refl (eqb-true _ _ e))
