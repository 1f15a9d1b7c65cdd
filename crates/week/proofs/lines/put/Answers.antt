-- `week::lines::put` meets its contract. Assumes nothing.
use Rattle.refusal.specs.Paper.{paper}
use mathlib.Core.Path.{sym, ap, ◌∙◌}
use native.Mathlib.Omega.{arith}
use Rattle.bencode_writer.proofs.Runs.{ran-as}
use Rattle.week.proofs.Lining.{lines-refused, refused-most}
use Rattle.week.proofs.lines.put.Goals as goal

pub returns-in-Err : goal.returns-in-Err
returns-in-Err c = let r = c.in-Err.r in
    record {
      ran = ran-as c.refused.ensures.ran (lines-refused c.args.file.now r.number r.place (sym (ap paper (sym c.in-Err.is) ∙ c.summed.ensures.result_value)));
      most = omega (arith, c.refused.ensures.ran.place, refused-most r.number r.place (omega arith) (omega arith));
    }
