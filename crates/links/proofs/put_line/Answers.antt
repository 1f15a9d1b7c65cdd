-- `links::put_line` meets its contract. Assumes nothing.
use Rattle.refusal.specs.Paper.{paper}
use mathlib.Core.Path.{sym, ap, ◌∙◌}
use Rattle.bencode_writer.proofs.Runs.{ran-as}
use Rattle.links.proofs.Lining.{line-long, line_refused}
use native.Mathlib.Omega.{arith}
use Rattle.links.proofs.put_line.Goals as goal

pub returns-then-torrent-gt-TEXT : goal.returns-then-torrent-gt-TEXT
returns-then-torrent-gt-TEXT c = record { ran = ran-as c.refused.ensures.ran (line-long c.args.torrent.now (omega arith)); most = omega (arith, c.refused.ensures.most) }

pub put_link-requires : goal.put_link-requires
put_link-requires c = (sym (ap paper (sym c.in-Ok.is) ∙ c.read.ensures), omega arith, omega (arith, c.requires))

pub returns-in-Err : goal.returns-in-Err
returns-in-Err c = record { ran = ran-as c.refused-in-Err.ensures.ran (line_refused c.args.torrent.now (omega arith) c.in-Err.r.number c.in-Err.r.place (sym (ap paper (sym c.in-Err.is) ∙ c.read.ensures))); most = omega (arith, c.refused-in-Err.ensures.most) }
