-- `torrent_lines::files::line` meets its contract. Assumes nothing.
use Rattle.torrent_lines.proofs.Running.{digits-most}
use Rattle.bencode_writer.proofs.Runs.{ran_then, ran-as}
use Rattle.bencode_scalar.specs.Written.{decimal}
use Rattle.std.proofs.Common.{[], ◌∷◌, ◌++◌, append_assoc, arith}
use Rattle.torrent_lines.proofs.files.line.Goals as goal

pub path-c-requires : goal.path-c-requires
path-c-requires c = (c.requires.0, c.requires.1, omega (arith, c.numbered-a.ensures.near, c.decimal-b.ensures.place, digits-most c.args.f.length (omega arith), c.requires.2))

pub byte-requires : goal.byte-requires
byte-requires c = omega (arith, c.numbered-a.ensures.near, c.decimal-b.ensures.place, digits-most c.args.f.length (omega arith), c.requires.2, (c.path-c.ensures c.requires.0 c.requires.1).place)

pub returns : goal.returns
returns c = λ w a. ran-as (ran_then c.numbered-a.ensures.ran (ran_then c.decimal-b.ensures (ran_then (c.path-c.ensures w a) c.byte.ensures))) (append_assoc (decimal c.args.offset) (32 ∷ []) (decimal c.args.f.length ++ (w ++ (10 ∷ []))))
