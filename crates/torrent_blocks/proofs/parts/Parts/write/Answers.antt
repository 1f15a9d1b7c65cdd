-- `write` of the parts meets its contract: a part's three stores are a run of stores. Assumes nothing.
use Rattle.std.proofs.Common.{◌≡◌, ◌+◌, ◌*◌, ℕ, slice_set, List, [], ◌∷◌, length, sym, ap, ◌∙◌, arith}
use Rattle.std.proofs.lemmas.List.Edits.{sets}
use Rattle.torrent_blocks.specs.Spans.{FilePart}
use Rattle.torrent_blocks.specs.Answers.{flat}
use Rattle.torrent_blocks.specs.Steps.{part_of, parts_left}
use Rattle.torrent_blocks.proofs.Steps.{writes-one, writes_none}
use lib.Seq.{length-sets}
use native.Mathlib.Numerals.{add-one}
use Prim.Native.Nat.{suc}
use Rattle.torrent_blocks.proofs.parts.Parts.write.Goals as goal

stored : (out : List ℕ) (at a b c : ℕ) → slice_set (slice_set (slice_set out at a) (at + 1) b) (at + 2) c ≡ sets out at (a ∷ b ∷ c ∷ [])
stored out at a b c = let two : suc (suc at) ≡ at + 2 = omega arith in rw (← two, add-one at)

pub loop-part-preserved : goal.loop-part-preserved
loop-part-preserved c =
    let l = c.loop-part in
    let p = part_of c.in-Some.part in
    let first = c.in-Some.ensures.steps in
    let at = 3 * l.n in
    let next : 3 * (l.n + 1) ≡ at + 3 = omega arith in
    let numbers = p.file ∷ p.offset ∷ p.size ∷ [] in
    rw (stored l.out at p.file p.offset p.size, next)
    (record {
      count = omega (arith, l.invariant.count, ap length first);
      room = omega (arith, l.invariant.room, ap length first, length-sets l.out at numbers);
      same =
          sym (writes-one l.out at p (parts_left c.next.new.self))
          ∙ ap (λ (ps : List FilePart). sets l.out at (flat ps)) (sym first)
          ∙ l.invariant.same;
    })

pub returns : goal.returns
returns c =
    let l = c.loop-part in
    let none = c.in-None.ensures.steps in (
      omega (arith, l.invariant.count, ap length none.0),
      sym (writes_none l.out (3 * l.n) _ none.0) ∙ l.invariant.same,
    )
