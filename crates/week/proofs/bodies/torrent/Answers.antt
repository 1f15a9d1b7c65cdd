-- `week::bodies::torrent` meets its contract. Assumes nothing.
use Rattle.refusal.specs.Paper.{paper}
use mathlib.Core.Path.{sym, ap, ◌∙◌}
use native.Mathlib.Omega.{arith}
use Rattle.torrent_laws.proofs.Within.{read-within}
use Rattle.week.proofs.bodies.torrent.Goals as goal

pub overflow_add-from : goal.overflow_add-from
overflow_add-from c = omega (arith, read-within c.args.text.now _ _ (sym c.read.ensures ∙ ap paper c.in-Err.is), c.requires.1)
