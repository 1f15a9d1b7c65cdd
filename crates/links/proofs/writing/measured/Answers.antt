-- `links::writing::measured` meets its contract. Assumes nothing.
use mathlib.Core.Path.{ap}
use Prim.Native.Nat.{ℕ}
use lib.ListN.{length}
use Rattle.torrent_metainfo.proofs.Hashing.{part-short}
use Rattle.links.proofs.Answers.{link-length, size-long, size-whole}
use native.Mathlib.Omega.{arith}
use Rattle.links.proofs.writing.measured.Goals as goal

pub needed-count-requires : goal.needed-count-requires
needed-count-requires c = (omega (arith, ap (length {A = ℕ}) c.bytes-name.ensures.same, part-short c.args.torrent.now c.args.t c.requires c.args.t.name), omega (arith, ap (length {A = ℕ}) c.bytes-announce.ensures.same, part-short c.args.torrent.now c.args.t c.requires c.args.t.announce))

pub returns-then-count-gt-TEXT : goal.returns-then-count-gt-TEXT
returns-then-count-gt-TEXT c = size-long c.args.torrent.now c.args.t (link-length c.args.torrent.now c.args.t c.bytes-name.ensures.same c.bytes-announce.ensures.same c.needed-count.ensures) c.if-count-gt-TEXT.true c.refuse.ensures

pub returns : goal.returns
returns c = size-whole c.args.torrent.now c.args.t (link-length c.args.torrent.now c.args.t c.bytes-name.ensures.same c.bytes-announce.ensures.same c.needed-count.ensures) c.if-count-gt-TEXT.false
