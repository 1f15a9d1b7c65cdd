-- `bencode::fail` meets its contract. Assumes nothing.
use native.Mathlib.Omega.{arith}
use Rattle.bencode.proofs.Turns.{told-number}
use Rattle.bencode.proofs.fail.Goals as goal

pub returns : goal.returns
returns c = told-number c.args.number c.args.place (omega arith)
