-- Demand 1 of `links`: magnet links, read and written. Assumes nothing.
use Rattle.std.specs.Prelude.{List, ℕ}
use Rattle.refusal.specs.Paper.{paper, taken}
use Rattle.links.specs.Reading.{linked_paper}
use Rattle.torrent_lines.proofs.Laws.{ran-determined}
use Rattle.links.proofs.Answers as answers
use Rattle.links_laws.proofs.Laws as laws
use Rattle.refusal.proofs.Outcomes.{paper-determined, not-refused}
use Rattle.demands.specs.One.{Lent, now, Determined, Determined1, Determined3, Keeps1, Keeps3, Takes1, Refused}
use Rattle.demands.specs.One.Doors.Links.{read-ensures, write-ensures, size-ensures, line-ensures}

-- links::read
pub read-determined : (text : Lent (List ℕ)) → Determined3 (read-ensures text)
read-determined text hash name address r r' hash₁ hash₂ name₁ name₂ address₁ address₂ e f = laws.read-determined _ _ _ _ r e r' f

pub read-keeps : (text : Lent (List ℕ)) → Keeps3 (read-ensures text) (λ r. Refused (linked_paper r))
read-keeps text r hash name address e k = laws.read-keeps _ _ _ _ r e k.0 k.1 k.2

-- links::write
pub write-determined : (torrent : Lent (List ℕ)) → Determined1 (write-ensures torrent)
write-determined torrent out r r' out₁ out₂ e f = laws.write-determined (now torrent.entry) (now out) r r' e f

pub write-keeps : (torrent : Lent (List ℕ)) → Keeps1 (write-ensures torrent) (λ r. Refused (paper r))
write-keeps torrent r out e k = answers.link-keeps (now torrent.entry) (now out.entry) r e k.0 k.1 k.2

-- links::size
pub size-determined : (torrent : Lent (List ℕ)) → Determined (size-ensures torrent)
size-determined torrent r r' e f = paper-determined _ r r' e f

-- links::line
pub line-determined : (torrent : Lent (List ℕ)) → Determined1 (line-ensures torrent)
line-determined torrent out r r' out₁ out₂ e f = ran-determined _ 0 _ e.0 f.0

pub line-takes : (torrent : Lent (List ℕ)) → Takes1 (line-ensures torrent) (λ (r : ℕ). taken r)
line-takes torrent r out e k = not-refused k.2
