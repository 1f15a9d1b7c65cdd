-- `torrent_lines::ink::escaped` meets its contract. Assumes nothing.
use Rattle.bencode_writer.proofs.Runs.{going_more, going_end}
use Rattle.bencode_writer.proofs.Escapes.{escaped-more, escaped-none}
use Rattle.torrent_lines.specs.Lines.{plain}
use Rattle.torrent_lines.proofs.ink.escaped.Goals as goal

pub loop-b-preserved : goal.loop-b-preserved
loop-b-preserved c = going_more _ _ _ c.loop-b.invariant _ _ (escaped-more plain c.args.bytes.now c.loop-b.b-index c.loop-b-test.true) c.one-to.ensures

pub returns : goal.returns
returns c = going_end _ _ _ c.loop-b.invariant (escaped-none plain c.args.bytes.now c.loop-b.b-index c.loop-b-test.false)
