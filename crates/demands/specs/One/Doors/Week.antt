-- Demand 1 of `week`: a week's packages in one file, read, walked over, written and listed. Assumes nothing.
use Rattle.refusal.specs.Paper.{paper}
use Rattle.refusal.specs.declared.Refusal.{Refusal}
use Rattle.week.specs.declared.Entry.{Entry}
use Rattle.week.specs.declared.Week.{Week}
use Rattle.std.specs.Prelude.{List, ◌≡◌, ℕ, ◌≤◌, Result}
use Rattle.bencode_writer.specs.Put.{left, Ran}
use Rattle.week.specs.Rules.{table_of, package_at, week_of, package_of}
use Rattle.week.specs.Writing.{write_of}
use Rattle.week.specs.Lines.{listing_of, most_listing}
use Rattle.demands.specs.One.{Lent, now}

-- week::read
abbrev pub read-ensures : (file : Lent (List ℕ)) → Result Week Refusal → Type 0
read-ensures file r = paper r ≡ week_of (now file.entry)

-- week::package
abbrev pub package-ensures : (file : Lent (List ℕ)) (index : ℕ) → Result Entry Refusal → Type 0
package-ensures file index r = paper r ≡ package_of (now file.entry) index

-- week::table
abbrev pub table-ensures : (file : Lent (List ℕ)) → Result ℕ Refusal → Type 0
table-ensures file r = paper r ≡ table_of (now file.entry)

-- week::package_at
abbrev pub package_at-ensures : (file : Lent (List ℕ)) (index : ℕ) → Result Entry Refusal → Type 0
package_at-ensures file index r = paper r ≡ package_at (now file.entry) index

-- week::write
abbrev pub write-ensures : (bodies lengths : Lent (List ℕ)) → Result ℕ Refusal → Lent (List ℕ) → Type 0
write-ensures bodies lengths r out =
    left (paper r) (now out.exit) ≡ write_of (now bodies.entry) (now lengths.entry) (now out.entry)

-- week::listing
abbrev pub listing-ensures : (file : Lent (List ℕ)) → ℕ → Lent (List ℕ) → Type 0
listing-ensures file r out = (Ran (listing_of (now file.entry)) 0 (now out.entry) r (now out.exit)) × (r ≤ most_listing)
