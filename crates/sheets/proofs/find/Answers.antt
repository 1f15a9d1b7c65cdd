-- `sheets::find` meets its contract. Assumes nothing.
use Rattle.refusal.specs.Paper.{paper}
use mathlib.Core.Path.{sym, ap, ◌∙◌}
use Rattle.torrent_metainfo.proofs.Hashing.{info-short}
use Rattle.sheets.proofs.Finding.{found-read, found-refused}
use Rattle.sheets.specs.Reading.{told}
use Rattle.sheets.proofs.find.Goals as goal

pub returns-in-Ok : goal.returns-in-Ok
returns-in-Ok c = c.hashed.ensures (info-short c.args.torrent.now c.in-Ok.t (sym (ap paper (sym c.in-Ok.is) ∙ c.read.ensures))) ∙ found-read c.args.torrent.now c.args.sheet.now c.in-Ok.t (ap paper (sym c.in-Ok.is) ∙ c.read.ensures)

pub returns-in-Err : goal.returns-in-Err
returns-in-Err c = ap told c.answered.ensures ∙ found-refused c.args.torrent.now c.args.sheet.now _ _ (ap paper (sym c.in-Err.is) ∙ c.read.ensures)
