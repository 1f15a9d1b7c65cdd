-- `torrent_contents::files::nth` meets its contract. Assumes nothing.
use Rattle.std.proofs.Common.{◌≡◌, refl, ap, ◌∙◌, ◌-◌, arith}
use Rattle.refusal.specs.Paper.{paper}
use Rattle.bencode_scalar.proofs.Forms.{passed_on}
use Rattle.torrent_contents.proofs.Numbering.{walk_here, walk-bad, walk_more}
use Rattle.torrent_contents.proofs.files.nth.Goals as goal

pub loop-n-init : goal.loop-n-init
loop-n-init c =
    let e : c.args.number - 0 ≡ c.args.number = omega arith in
    rw e refl

pub loop-n-preserved : goal.loop-n-preserved
loop-n-preserved c = walk_more _ _ _ c.in_ok-f.ensures (omega arith) c.with_file-passed.ensures ∙ c.loop-n.invariant

pub returns-in_err-f : goal.returns-in_err-f
returns-in_err-f c = ap paper (passed_on _ _ c.from_residual.ensures.1) ∙ walk-bad _ _ _ _ c.in_err-f.ensures ∙ c.loop-n.invariant

pub returns-in_err-f-2 : goal.returns-in_err-f-2
returns-in_err-f-2 c = ap paper (passed_on _ _ c.from_residual-in_err-f-2.ensures.1) ∙ walk-bad _ _ _ _ c.in_err-f-2.ensures ∙ c.loop-n.invariant

pub returns : goal.returns
returns c = walk_here _ _ _ c.in_ok-f-2.ensures (omega arith) ∙ c.loop-n.invariant
