-- Demand 1 of `yard_telling`: the yard's answers for C. Assumes nothing.
use Rattle.std.specs.Prelude.{Result}
use Rattle.refusal.specs.declared.Refusal.{Refusal}
use Rattle.std.proofs.Common.{sym, ◌∙◌}
use Rattle.yard_tables.specs.declared.Answer.{Answer}
use Rattle.yard_tables.specs.declared.Seat.{Seat}
use Rattle.yard_telling.specs.declared.Told.{Told}
use Rattle.demands.specs.One.{Determined}
use Rattle.demands.specs.One.Inner.Telling.{code-ensures, tell-ensures, shown-ensures}

-- yard_telling::code
pub code-determined : (a : Result Answer Refusal) → Determined (code-ensures a)
code-determined a r r' x y = x ∙ sym y

-- yard_telling::tell
pub tell-determined : (a : Result Answer Refusal) (was : Told) → Determined (tell-ensures a was)
tell-determined a was r r' x y = x ∙ sym y

-- yard_telling::shown
pub shown-determined : (a : Result Answer Refusal) (seen : Seat) → Determined (shown-ensures a seen)
shown-determined a seen r r' x y = x ∙ sym y
