-- `torrent_lines::listing` meets its contract. Assumes nothing.
use Rattle.std.proofs.Common.{Err, ap, arith, ◌+◌, ◌≤◌, length}
use Rattle.bencode_writer.proofs.Laws.{put-done, put-nothing}
use Rattle.torrent_lines.specs.Lines.{listing_of}
use Rattle.torrent_lines.proofs.listing.Goals as goal
use Rattle.torrent_lines.proofs.listing.Goals.{else-out-lt-MOST-via-then-out-lt-MOST+else-out-size, else-out-lt-MOST-via-else-out-lt-MOST}

pub returns-then-out-size-clause-out_after : goal.returns-then-out-size-clause-out_after
returns-then-out-size-clause-out_after c = put-nothing _ 0 _ (omega (arith, c.size.ensures)) (ap Err c.refuse.ensures)

pub returns-clause-out_after : goal.returns-clause-out_after
returns-clause-out_after c =
    let fits : 0 + length (listing_of c.args.text.now) ≤ length c.args.out.now =
    elim c.else-out-lt-MOST.branch [
      | else-out-lt-MOST-via-then-out-lt-MOST+else-out-size w ↦ omega (arith, w.size.ensures)
      | else-out-lt-MOST-via-else-out-lt-MOST w ↦ omega (arith, c.write.ensures.ran.place, c.write.ensures.most)
    ] in
    put-done _ 0 _ fits c.write.ensures.ran.place c.write.ensures.ran.out
