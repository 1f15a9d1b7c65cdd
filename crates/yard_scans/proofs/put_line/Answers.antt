-- `yard_scans::put_line` meets its contract. Assumes nothing.
use mathlib.Core.Path.{sym, ap}
use lib.Seq.{set_out}
use Prim.Native.Nat.{ℕ}
use lib.ListN.{set}
use Rattle.yard_scans.proofs.put_line.Goals as goal

pub returns-then-page-k : goal.returns-then-page-k
returns-then-page-k c = sym (set_out _ _ _ c.if-page-k.true)

pub returns : goal.returns
returns c = ap (λ (v : ℕ). set c.args.page.now c.args.k v) c.line_of.ensures
