-- Every contract of this crate is one equation, the answer and a definition of the entry values: it permits one answer. Assumes nothing.
use Rattle.std.proofs.Common.{◌≡◌, sym, ◌∙◌}

pub determined : {A : Type 0} {x : A} (r t : A) → r ≡ x → t ≡ x → r ≡ t
determined r t e f = e ∙ sym f
