-- `torrent_lines::write` meets its contract. Assumes nothing.
use Rattle.std.proofs.Common.{arith}
use Rattle.bencode_writer.proofs.Runs.{ran-as}
use Rattle.torrent_lines.proofs.Reading.{listing-long, listing-refused}
use Rattle.torrent_lines.proofs.write.Goals as goal

pub returns-then-text-gt-TEXT-clause-ran : goal.returns-then-text-gt-TEXT-clause-ran
returns-then-text-gt-TEXT-clause-ran c = ran-as c.refused.ensures.ran (listing-long c.args.text.now (omega arith))

pub returns-in-Err-clause-ran : goal.returns-in-Err-clause-ran
returns-in-Err-clause-ran c = ran-as c.refused-in-Err.ensures.ran (listing-refused c.args.text.now _ _ (omega arith) c.in-Err.ensures)
