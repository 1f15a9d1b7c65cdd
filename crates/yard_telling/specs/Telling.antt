-- What a call of the yard says to C, in numbers. Assumes nothing: these are definitions.
use Rattle.std.specs.Prelude.{◌≡◌, cond, ℕ}
use Rattle.refusal.specs.Paper.{Outcome, taken, refused}
use Rattle.yard_tables.specs.Tables.{Yard, Out, Said, wait, done, used, serve, dropped, seated, wrote, listed, shows, holds, held_by_of, scarce, unchoked}
use Rattle.yard_tables.specs.declared.Seat.{Seat}
use Rattle.yard_telling.specs.declared.Told.{Told}

-- 0, and 255 where more bytes are needed
abbrev pub code_of_said : Said → ℕ
code_of_said wait = 255
code_of_said done = 0
code_of_said (used n) = 0
code_of_said (serve n) = 0
code_of_said (dropped n) = 0
code_of_said (seated i) = 0
code_of_said (wrote n) = 0
code_of_said (listed x) = 0
code_of_said (shows s) = 0
code_of_said (holds b) = 0
code_of_said (held_by_of n) = 0
code_of_said (scarce p) = 0
code_of_said (unchoked n) = 0

-- these, or document 01's number of the refusal
abbrev pub code_of : Outcome Said → ℕ
code_of (taken a) = code_of_said a
code_of (refused n p) = n

abbrev pub one : ℕ → Told
one n = record { value = n; request = 0; total = 0; next = 0 }

-- the number that is said; 1 beside it for a request to be served, 2 for one to be dropped; a page's lines, total and next
abbrev pub told_of_said : Said → Told → Told
told_of_said wait was = was
told_of_said done was = was
told_of_said (used n) was = one n
told_of_said (serve n) was = record { value = n; request = 1; total = 0; next = 0 }
told_of_said (dropped n) was = record { value = n; request = 2; total = 0; next = 0 }
told_of_said (seated i) was = one i
told_of_said (wrote n) was = one n
told_of_said (listed x) was = record { value = x.written; request = 0; total = x.total; next = x.next }
told_of_said (shows s) was = was
told_of_said (holds b) was = one (cond b 1 0)
told_of_said (held_by_of n) was = one n
told_of_said (scarce p) was = one p
told_of_said (unchoked n) was = one n

-- a refusal leaves what was lent for it
abbrev pub told_of : Outcome Said → Told → Told
told_of (taken a) was = told_of_said a was
told_of (refused n p) was = was

-- the record of a seat that was looked at
abbrev pub shown_of_said : Said → Seat → Seat
shown_of_said wait was = was
shown_of_said done was = was
shown_of_said (used n) was = was
shown_of_said (serve n) was = was
shown_of_said (dropped n) was = was
shown_of_said (seated i) was = was
shown_of_said (wrote n) was = was
shown_of_said (listed x) was = was
shown_of_said (shows s) was = s
shown_of_said (holds b) was = was
shown_of_said (held_by_of n) was = was
shown_of_said (scarce p) was = was
shown_of_said (unchoked n) was = was

abbrev pub shown_of : Outcome Said → Seat → Seat
shown_of (taken a) was = shown_of_said a was
shown_of (refused n p) was = was

-- of a call that comes to o: the number r is answered, and the tables are z then
abbrev pub Steps : Out → ℕ → Yard → Type 0
Steps o r z = (r ≡ code_of o.answer) × (z ≡ o.yard)

-- the same, and the record that is lent, `was` before, is t then
abbrev pub Tells : Out → Told → ℕ → Told → Yard → Type 0
Tells o was r t z = (r ≡ code_of o.answer) × (t ≡ told_of o.answer was) × (z ≡ o.yard)

-- of a call that only looks at the tables, and comes to a
abbrev pub Looks : Outcome Said → Told → ℕ → Told → Type 0
Looks a was r t = (r ≡ code_of a) × (t ≡ told_of a was)

-- of one that looks at a seat
abbrev pub Shows : Outcome Said → Seat → ℕ → Seat → Type 0
Shows a was r s = (r ≡ code_of a) × (s ≡ shown_of a was)
