-- Demand 1 of `torrent_lines`: the listing. Assumes nothing.
use Rattle.std.specs.Prelude.{List, ℕ}
use Rattle.std.proofs.Common.{sym, ◌∙◌}
use Rattle.refusal.specs.Paper.{paper, taken}
use Rattle.torrent_lines.proofs.Laws as laws
use Rattle.refusal.proofs.Outcomes.{not-refused}
use Rattle.demands.specs.One.{Lent, Determined1, Keeps1, Takes1, Refused, Determined}
use Rattle.demands.specs.One.Doors.Lines.{listing-ensures, size-ensures, refused-ensures}

-- torrent_lines::listing
pub listing-determined : (text : Lent (List ℕ)) → Determined1 (listing-ensures text)
listing-determined text out r r' out₁ out₂ e f = laws.listing-determined _ _ r e.0 r' f.0

pub listing-keeps : (text : Lent (List ℕ)) → Keeps1 (listing-ensures text) (λ r. Refused (paper r))
listing-keeps text r out e k = (laws.listing-refusal-keeps _ _ r e.0 k.2).1

-- torrent_lines::size
pub size-determined : (text : Lent (List ℕ)) → Determined (size-ensures text)
size-determined text r r' e f = e ∙ sym f

-- torrent_lines::refused
pub refused-determined : (number place : ℕ) → Determined1 (refused-ensures number place)
refused-determined number place out r r' out₁ out₂ e f = laws.ran-determined _ 0 _ e.0 f.0

pub refused-takes : (number place : ℕ) → Takes1 (refused-ensures number place) (λ (r : ℕ). taken r)
refused-takes number place r out e k = not-refused k.2
