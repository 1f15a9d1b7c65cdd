-- Demand 1 of `week`: a week's packages in one file, read, walked over, written and listed. Assumes nothing.
use Rattle.std.specs.Prelude.{List, ℕ}
use Rattle.refusal.specs.Paper.{paper, taken}
use Rattle.torrent_lines.proofs.Laws.{ran-determined}
use Rattle.week.proofs.Answers as answers
use Rattle.refusal.proofs.Outcomes.{paper-determined, not-refused}
use Rattle.demands.specs.One.{Lent, now, Determined, Determined1, Keeps1, Takes1, Refused}
use Rattle.demands.specs.One.Doors.Week.{read-ensures, package-ensures, table-ensures, package_at-ensures, write-ensures, listing-ensures}

-- week::read
pub read-determined : (file : Lent (List ℕ)) → Determined (read-ensures file)
read-determined file r r' e f = paper-determined _ r r' e f

-- week::package
pub package-determined : (file : Lent (List ℕ)) (index : ℕ) → Determined (package-ensures file index)
package-determined file index r r' e f = paper-determined _ r r' e f

-- week::table
pub table-determined : (file : Lent (List ℕ)) → Determined (table-ensures file)
table-determined file r r' e f = paper-determined _ r r' e f

-- week::package_at
pub package_at-determined : (file : Lent (List ℕ)) (index : ℕ) → Determined (package_at-ensures file index)
package_at-determined file index r r' e f = paper-determined _ r r' e f

-- week::write
pub write-determined : (bodies lengths : Lent (List ℕ)) → Determined1 (write-ensures bodies lengths)
write-determined bodies lengths out r r' out₁ out₂ e f = answers.write-determined (now bodies.entry) (now lengths.entry) (now out) r r' e f

pub write-keeps : (bodies lengths : Lent (List ℕ)) → Keeps1 (write-ensures bodies lengths) (λ r. Refused (paper r))
write-keeps bodies lengths r out e k = answers.write-keeps (now bodies.entry) (now lengths.entry) (now out.entry) r e k.0 k.1 k.2

-- week::listing
pub listing-determined : (file : Lent (List ℕ)) → Determined1 (listing-ensures file)
listing-determined file out r r' out₁ out₂ e f = ran-determined _ 0 _ e.0 f.0

pub listing-takes : (file : Lent (List ℕ)) → Takes1 (listing-ensures file) (λ (r : ℕ). taken r)
listing-takes file r out e k = not-refused k.2
