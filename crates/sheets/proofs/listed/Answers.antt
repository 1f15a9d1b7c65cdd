-- `sheets::listed` meets its contract. Assumes nothing.
use mathlib.Core.Path.{ap, ◌∙◌}
use Rattle.sheets.specs.Reading.{address_in}
use Rattle.sheets.proofs.listed.Goals as goal

pub returns : goal.returns
returns c = c.sourced.ensures ∙ ap (address_in c.args.announce) c.read.ensures
