-- `next` of the parts meets its contract: a file that has no part is passed, and one that starts past the bytes ends them. Assumes nothing.
use Rattle.std.proofs.Common.{◌≡◌, ◌∷◌, length, ap, arith, rules, ◌∙◌, sym}
use Rattle.torrent_blocks.specs.Spans.{FilePart}
use Rattle.torrent_blocks.specs.Steps.{parts_left, parts_in, part_of}
use Rattle.torrent_blocks.proofs.Steps.{split-some, split_none, parts-end, parts-past}
use Rattle.torrent_blocks.proofs.parts.PartsIterator.next.Goals as goal

pub returns-then-self-file-clause-steps : goal.returns-then-self-file-clause-steps
returns-then-self-file-clause-steps c =
    let p = c.loop-file.self in
    let s = c.in-Some.ensures in
    let e = parts-past p.files p.from.0 p.to.0 (omega (arith, s.start)) in
    (sym c.loop-file.invariant ∙ e, e)

-- the part is the first of those left
given : (c : goal.In-Some-part) → parts_left c.args.self.now ≡ part_of c.in-Some-part.part ∷ parts_in c.in-Some.rest c.loop-file.self.from.0 c.loop-file.self.to.0
given c =
    let p = c.loop-file.self in
    let found = c.in-Some-part.ensures in
    sym c.loop-file.invariant
    ∙ split-some p.files c.in-Some.file c.in-Some.rest c.in-Some.ensures p.from.0 p.to.0 (omega arith) found.0
    ∙ ap (λ (x : FilePart). x ∷ parts_in c.in-Some.rest p.from.0 p.to.0) (sym found.1)

pub returns-in-Some-part-clause-steps : goal.returns-in-Some-part-clause-steps
returns-in-Some-part-clause-steps c = given c

pub returns-in-Some-part-clause-goes : goal.returns-in-Some-part-clause-goes
returns-in-Some-part-clause-goes c = let shorter = ap length (given c) in search rules

pub loop-file-preserved : goal.loop-file-preserved
loop-file-preserved c =
    let p = c.loop-file.self in
    sym (split_none p.files c.in-Some.file c.in-Some.rest c.in-Some.ensures p.from.0 p.to.0 (omega arith) c.in_default-part.ensures) ∙ c.loop-file.invariant

pub returns-clause-steps : goal.returns-clause-steps
returns-clause-steps c =
    let p = c.loop-file.self in
    let e = parts-end p.files p.from.0 p.to.0 c.in_default.ensures in
    (sym c.loop-file.invariant ∙ e, e)
