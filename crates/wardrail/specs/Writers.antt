-- What a call with lent output says to C. Assumes nothing: these are definitions.
use Rattle.std.specs.Prelude.{◌≡◌, List, ℕ}
use Rattle.refusal.specs.Paper.{Left}
use Rattle.wardrail.specs.Said.{word_of, left_of}

-- the word r is answered, what was lent for how much was written, `was` before, is d then, and the output is o, all as l has it
pub record Wrote (l : Left ℕ) (was r d : ℕ) (o : List ℕ) : Type 0 where
  pub word : r ≡ word_of l.answer
  pub left : d ≡ left_of l.answer was
  pub out : o ≡ l.out
