-- `bencode::short::plain` meets its contract. Assumes nothing.
use Rattle.refusal.proofs.Cases.{no_way}
use Rattle.bencode.proofs.short.plain.Goals as goal

pub returns-then-text-at : goal.returns-then-text-at
returns-then-text-at c = λ e. no_way (cc)
