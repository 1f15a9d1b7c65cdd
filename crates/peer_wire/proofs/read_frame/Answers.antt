-- `peer_wire::read_frame` meets its contract. Assumes nothing.
use mathlib.Core.Path.{sym, ap, ◌∙◌}
use native.Mathlib.Omega.{arith}
use Rattle.peer_wire.specs.Frames.{sized_of}
use Rattle.peer_wire.proofs.Steps.{read-few, read-sized}
use Rattle.peer_wire.proofs.read_frame.Goals as goal

pub returns-then-bytes-lt4 : goal.returns-then-bytes-lt4
returns-then-bytes-lt4 c = sym (read-few c.args.bytes.now (omega arith))

pub returns : goal.returns
returns c = c.sized.ensures ∙ ap (sized_of c.args.bytes.now) c.word.ensures ∙ sym (read-sized c.args.bytes.now (omega arith))
