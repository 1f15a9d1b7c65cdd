-- `sheets::part_of` meets its contract. Assumes nothing.
use mathlib.Core.Path.{sym, ap, ◌∙◌}
use Rattle.refusal.specs.Paper.{taken}
use Rattle.sheets.specs.declared.Source.{Source}
use Rattle.sheets.specs.Reading.{of, chosen, handed, handed_at}
use Rattle.sheets.proofs.part_of.Goals as goal

pub returns-in-Torrent : goal.returns-in-Torrent
returns-in-Torrent c = record { same = c.bytes.ensures.same ∙ ap (λ (k : Source). handed (of k (taken c.args.part)) c.args.torrent.now c.args.sheet.now) (sym c.in-Torrent.is); there = (c.bytes.ensures.there.0 ∙ ap (λ (k : Source). chosen k c.args.torrent.ref_ptr.0 c.args.sheet.ref_ptr.0) (sym c.in-Torrent.is), c.bytes.ensures.there.1 ∙ ap (λ (k : Source). handed_at (of k (taken c.args.part)) c.args.torrent.now c.args.sheet.now c.args.torrent.ref_ptr.1 c.args.sheet.ref_ptr.1) (sym c.in-Torrent.is)) }

pub returns-in-Sheet : goal.returns-in-Sheet
returns-in-Sheet c = record { same = c.bytes-in-Sheet.ensures.same ∙ ap (λ (k : Source). handed (of k (taken c.args.part)) c.args.torrent.now c.args.sheet.now) (sym c.in-Sheet.is); there = (c.bytes-in-Sheet.ensures.there.0 ∙ ap (λ (k : Source). chosen k c.args.torrent.ref_ptr.0 c.args.sheet.ref_ptr.0) (sym c.in-Sheet.is), c.bytes-in-Sheet.ensures.there.1 ∙ ap (λ (k : Source). handed_at (of k (taken c.args.part)) c.args.torrent.now c.args.sheet.now c.args.torrent.ref_ptr.1 c.args.sheet.ref_ptr.1) (sym c.in-Sheet.is)) }
