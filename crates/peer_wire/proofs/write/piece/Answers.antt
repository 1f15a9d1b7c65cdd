-- `peer_wire::write::piece` meets its contract. Assumes nothing.
use Rattle.peer_wire.proofs.Writing.{two-before}
use Rattle.peer_wire.specs.Frames.{write_of}
use Prim.Native.Nat.{ℕ}
use mathlib.Core.List.{List, ◌∷◌}
use mathlib.Core.Path.{ap, ◌∙◌}
use Rattle.peer_wire.proofs.write.piece.Goals as goal

pub returns : goal.returns
returns c = c.framed.ensures ∙ ap (λ (l : List ℕ). write_of (7 ∷ l) c.args.out.now) (two-before c.args.index.0 c.args.begin.0 0 c.args.block.now c.two.ensures)
