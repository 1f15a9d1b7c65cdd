-- `lowest_free` meets its contract: the first seat that is free. Assumes nothing.
use Rattle.std.proofs.Common.{◌∙◌, ap, length}
use Rattle.std.specs.Prelude.{Option, ℕ, unwrap_or}
use Rattle.yard_scans.proofs.Passes.{lowest-is}
use Rattle.yard_scans.proofs.lowest_free.Goals as goal

pub returns : goal.returns
returns c =
    let ss = c.args.seats.now in
    c.unwrap_or.ensures ∙ ap (λ (r : Option ℕ). unwrap_or r (length ss)) c.first_free.ensures ∙ lowest-is ss
