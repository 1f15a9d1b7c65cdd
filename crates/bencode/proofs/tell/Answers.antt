-- `bencode::tell` meets its contract. Assumes nothing.
use mathlib.Core.Path.{sym, subst, ◌∙◌}
use Rattle.bencode.specs.Answers.{inside}
use Rattle.bencode.proofs.tell.Goals as goal

pub returns-in-Ok : goal.returns-in-Ok
returns-in-Ok c = λ h. c.past.ensures (subst inside c.in-Ok.is h) ∙ sym c.in-Ok.is

pub returns-in-Err : goal.returns-in-Err
returns-in-Err c = λ h. c.fail.ensures ∙ sym c.in-Err.is
