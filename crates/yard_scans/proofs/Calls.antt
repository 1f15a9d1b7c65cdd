-- What the straight lines of calls come to. Each law takes what a proof of its function has: the parameters, what the lent slices hold at exit, what each
-- call answers, and what its contract says, in the order of the calls. Assumes nothing.
use mathlib.Core.Path.{◌≡◌, ap, ◌∙◌}
use mathlib.Core.List.{List}
use Prim.Native.Nat.{ℕ}
use lib.ListN.{get_or, set}
use Rattle.yard_tables.specs.Counting.{each}
use Rattle.yard_tables.specs.Seats.{cleared}
use Rattle.yard_tables.specs.Ranks.{mark_step, choke_step, unchoke_step}
use Rattle.yard_tables.specs.declared.Seat.{Seat}
use Rattle.yard_tables.specs.declared.round.Marks.{Marks}
use Rattle.yard_tables.proofs.Marking.{marks-set}

-- one seat more is unchoked
abbrev unchoked : ℕ → List Seat → List Seat
unchoked i l = set l i (unchoke_step (get_or l i cleared))

pub mark_seats-is : (seats : List Seat) (m : Marks) (end : List Seat) {a b c d e : List Seat} → a ≡ each (λ i s. choke_step s) seats
    → b ≡ unchoked m.fourth a → c ≡ unchoked m.third b → d ≡ unchoked m.second c → e ≡ unchoked m.first d
    → end ≡ unchoked m.free e → end ≡ each (λ i s. mark_step m s i) seats
mark_seats-is seats m end p q r s t u =
    u ∙ ap (unchoked m.free) (t ∙ ap (unchoked m.first) (s ∙ ap (unchoked m.second) (r ∙ ap (unchoked m.third) (q ∙ ap (unchoked m.fourth) p)))) ∙ marks-set m seats
