-- Demand 1 of `sheets`: the tracker's address for a torrent, by a sheet. Assumes nothing.
use Rattle.std.specs.Prelude.{List, ℕ}
use Rattle.std.proofs.Common.{sym, ◌∙◌}
use Rattle.sheets.proofs.Answers as laws
use Rattle.demands_laws.proofs.Refusals.{one-part}
use Rattle.demands.specs.One.{Lent, now, Determined, ref}
use Rattle.demands.specs.One.Doors.Sheets.{find-ensures, address-ensures}

-- sheets::find
pub find-determined : (torrent sheet : Lent (List ℕ)) → Determined (find-ensures torrent sheet)
find-determined torrent sheet r r' e f = laws.find-determined (now torrent.entry) (now sheet.entry) r r' e f

-- sheets::address
pub address-determined : (torrent sheet : Lent (List ℕ)) → Determined (address-ensures torrent sheet)
address-determined torrent sheet r r' e f = one-part ref (e.0 ∙ sym f.0, e.1.0 ∙ sym f.1.0, e.1.1 ∙ sym f.1.1)
