-- `peer_wire::write::have` meets its contract. Assumes nothing.
use Rattle.peer_wire.proofs.Writing.{one-alone}
use Rattle.peer_wire.specs.Frames.{write_of}
use Prim.Native.Nat.{ℕ}
use mathlib.Core.List.{List, ◌∷◌}
use mathlib.Core.Path.{ap, ◌∙◌}
use Rattle.peer_wire.proofs.write.have.Goals as goal

pub returns : goal.returns
returns c = c.framed.ensures ∙ ap (λ (l : List ℕ). write_of (4 ∷ l) c.args.out.now) (one-alone c.args.index.0 0 0 c.one.ensures)
