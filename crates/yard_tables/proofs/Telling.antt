-- `paper` tells the answers apart, so what a contract permits for one entry is one answer and one content of all that is lent. Assumes nothing.
use Rattle.std.specs.Prelude.{Err, Ok, Result}
use Rattle.refusal.specs.declared.Refusal.{Refusal}
use mathlib.Core.Path.{◌≡◌, refl, sym, ap, ap₂, ◌∙◌}
use mathlib.Core.List.{List}
use Prim.Native.Nat.{ℕ}
use Rattle.refusal.specs.Paper.{Outcome, taken, refused}
use Rattle.yard_tables.specs.Tables.{Said, wait, done, used, serve, dropped, seated, wrote, listed, shows, holds, held_by_of, scarce, unchoked, paper, Around, Turn, turn, Out, out}
use Rattle.yard_tables.specs.declared.Head.{Head}
use Rattle.yard_tables.specs.declared.Seat.{Seat}
use Rattle.yard_tables.specs.declared.Stepped.{Stepped}
use Rattle.yard_tables.specs.declared.Answer.{Answer}
use Rattle.yard_tables.specs.declared.Answer.TheVariants.{Wait, Done, Taken, Serve, Dropped, Seated, Wrote, Listed, Record, Holds, Holders, Piece, Unchoked}

-- the code's answer, back from the paper's words
abbrev back : Outcome Said → Result Answer Refusal
back (refused n p) = Err (record { place = p; number = n })
back (taken wait) = (Ok Wait)
back (taken done) = (Ok Done)
back (taken (used n)) = (Ok (Taken n))
back (taken (serve n)) = (Ok (Serve n))
back (taken (dropped n)) = (Ok (Dropped n))
back (taken (seated i)) = (Ok (Seated i))
back (taken (wrote n)) = (Ok (Wrote n))
back (taken (listed x)) = (Ok (Listed x))
back (taken (shows s)) = (Ok (Record s))
back (taken (holds b)) = (Ok (Holds b))
back (taken (held_by_of n)) = (Ok (Holders n))
back (taken (scarce p)) = (Ok (Piece p))
back (taken (unchoked n)) = (Ok (Unchoked n))

back_is : (a : Result Answer Refusal) → back (paper a) ≡ a
back_is (Err r) = refl
back_is (Ok Wait) = refl
back_is (Ok Done) = refl
back_is (Ok (Taken n)) = refl
back_is (Ok (Serve n)) = refl
back_is (Ok (Dropped n)) = refl
back_is (Ok (Seated i)) = refl
back_is (Ok (Wrote n)) = refl
back_is (Ok (Listed x)) = refl
back_is (Ok (Record s)) = refl
back_is (Ok (Holds b)) = refl
back_is (Ok (Holders n)) = refl
back_is (Ok (Piece p)) = refl
back_is (Ok (Unchoked n)) = refl

pub paper-tells : (a b : Result Answer Refusal) → paper a ≡ paper b → a ≡ b
paper-tells a b e = sym (back_is a) ∙ ap back e ∙ back_is b

-- a step's equation determines the step and the tables
pub turn-tells : (r q : Stepped) (rows rows' holders holders' : List ℕ) → turn r rows holders ≡ turn q rows' holders' → (r ≡ q) × (rows ≡ rows') × (holders ≡ holders')
turn-tells r q rows rows' holders holders' e =
    let a : r.answer ≡ q.answer = paper-tells r.answer q.answer (ap (λ (t : Turn). t.answer) e) in (
      ap₂ (λ (x : Around) (y : Result Answer Refusal). record { head = x.head; seat = x.seat; answer = y }) (ap (λ (t : Turn). t.after) e) a,
      ap (λ (t : Turn). t.after.rows) e,
      ap (λ (t : Turn). t.after.holders) e,
    )

-- and so does a call's
pub out-tells : (a b : Result Answer Refusal) (h h' : Head) (seats seats' : List Seat) (rows rows' holders holders' : List ℕ) → out a h seats rows holders ≡ out b h' seats' rows' holders'
    → (a ≡ b) × (h ≡ h') × (seats ≡ seats') × (rows ≡ rows') × (holders ≡ holders')
out-tells a b h h' seats seats' rows rows' holders holders' e = (
  paper-tells a b (ap (λ (o : Out). o.answer) e),
  ap (λ (o : Out). o.yard.head) e,
  ap (λ (o : Out). o.yard.seats) e,
  ap (λ (o : Out). o.yard.rows) e,
  ap (λ (o : Out). o.yard.holders) e,
)
