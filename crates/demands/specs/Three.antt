-- DEMAND 3: after any sequence of calls, the yard's counts are what the history of calls says. Assumes nothing.
-- Nothing is asked of what stands in the tables that are lent first: the first call of a run is a start that is accepted, and from there on the tables are handed
-- from call to call as each leaves them. A history holds the calls with their answers, the newest first; `seated`, `announced`, `fresh`, the four marks and the bytes sent are
-- recursions on it that look at no table (yard_laws/specs/History.antt).
use Rattle.std.specs.Prelude.{◌≡◌, ℕ}
use Rattle.yard_telling.specs.declared.Told.{Told}
use Rattle.demands.specs.One.{Lent, before, after}
use Rattle.demands.specs.Program.{Tables}

-- a call was taken that used 4 bytes and left every table byte for byte
abbrev pub UsesFour : Tables → ℕ → Lent Told → Type 0
UsesFour t r told =
    (r ≡ 0) × (after told ≡ record { value = 4; request = 0; total = 0; next = 0 })
    × (after t.head ≡ before t.head) × (after t.seats ≡ before t.seats) × (after t.rows ≡ before t.rows) × (after t.holders ≡ before t.holders)
