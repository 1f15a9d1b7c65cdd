-- `peer_wire::write::cancel` meets its contract. Assumes nothing.
use Rattle.peer_wire.proofs.Writing.{three-alone}
use Rattle.peer_wire.specs.Frames.{write_of}
use Prim.Native.Nat.{ℕ}
use mathlib.Core.List.{List, ◌∷◌}
use mathlib.Core.Path.{ap, ◌∙◌}
use Rattle.peer_wire.proofs.write.cancel.Goals as goal

pub returns : goal.returns
returns c = c.framed.ensures ∙ ap (λ (l : List ℕ). write_of (8 ∷ l) c.args.out.now) (three-alone c.args.index.0 c.args.begin.0 c.args.len c.three.ensures)
