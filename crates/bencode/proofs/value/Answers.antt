-- `bencode::value` meets its contract. Assumes nothing.
use mathlib.Core.Path.{◌∙◌}
use Rattle.bencode.proofs.value.Goals as goal

pub returns : goal.returns
returns c = c.step_told.ensures ∙ c.inner-end.ensures
