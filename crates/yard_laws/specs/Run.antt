-- A run of calls on tables that are handed on untouched. Assumes nothing: these are definitions.
use Rattle.std.specs.Prelude.{◌≡◌, [], ◌∷◌, length}
use Rattle.refusal.specs.Paper.{taken}
use Rattle.yard_tables.specs.Tables.{Yard, done}
use Rattle.yard_tables.specs.Step.{Call, start, step, written}
use Rattle.yard_laws.specs.History.{History, Fixed, Sizes, entry}
pub use Rattle.yard_laws.specs.View.{SizesFit}

-- what the tables y fix
abbrev pub fixed_by : Yard → Fixed
fixed_by y = record { seats = length y.seats }

-- a start of these sizes
abbrev pub start_with : Sizes → Call
start_with z = start z.pieces z.piece_length_of z.last_length_of

-- it is accepted for the tables y, whatever is in them
abbrev pub Accepted : Sizes → Yard → Type 0
Accepted z y = (step (start_with z) y).answer ≡ taken done

-- the history and the tables after a start that is accepted for the tables `lent`, and then calls: each answer is the yard's own, and so are the tables that it leaves
pub data Run (lent : Yard) : History → Yard → Type 0 where
  begins : (z : Sizes) (y : Yard) → Accepted z lent → y ≡ (step (start_with z) lent).yard → Run lent (entry (start_with z) (taken done) [] ∷ []) y
  goes_on : (h : History) (x : Yard) (c : Call) (y : Yard) → Run lent h x → y ≡ (step c x).yard → Run lent (entry c (step c x).answer (written c x) ∷ h) y
