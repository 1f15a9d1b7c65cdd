-- `torrent_blocks::byte` meets its contract: each end is a law of `Ends`, from what the tests before it have shown. Assumes nothing.
use Rattle.std.specs.Prelude.{Err}
use Rattle.std.proofs.Common.{◌≡◌, ◌<◌, ◌/◌, ◌%◌, ◌+◌, ◌≤◌, length, get_or, arith, rules, ap, refl}
use native.Mathlib.Nat.{mod-lt}
use Rattle.torrent_blocks.proofs.Ends.{Known, test-fails, test-holds, byte-11, byte-31, byte-34, byte-done, place_inside, place-number}
use Rattle.torrent_blocks.proofs.byte.Goals as goal
use Rattle.torrent_blocks.proofs.byte.Goals.{Else-not-keeps_rules, In-Some}

pub returns-then-not-keeps_rules : goal.returns-then-not-keeps_rules
returns-then-not-keeps_rules c =
    let a = c.args in
    byte-11 a.lengths.now a.piece_length a.file a.offset (ap Err c.refuse.ensures)
    (test-fails a.lengths.now a.piece_length c.total-total.result.0 (omega arith) c.if-not-keeps_rules.ensures)

rules-kept : (c : Else-not-keeps_rules) → Known c.args.lengths.now c.args.piece_length c.total-total.result.0
rules-kept c =
    let a = c.args in
    test-holds a.lengths.now a.piece_length c.total-total.result.0 (omega arith) c.if-not-keeps_rules.ensures

pub returns-in_default : goal.returns-in_default
returns-in_default c =
    let a = c.args in
    let out : length a.lengths.now ≤ a.file = search rules in
    byte-31 a.lengths.now a.piece_length a.file a.offset c.total-total.result.0 (rules-kept (goal.at.returns-in_default c).Else-not-keeps_rules) (ap Err c.refuse-in_default.ensures) out

there : (c : In-Some) → (c.args.file < length c.args.lengths.now) × (c.in-Some.size.now ≡ get_or c.args.lengths.now c.args.file 0)
there c = (search rules, search rules)

pub returns-then-size-offset : goal.returns-then-size-offset
returns-then-size-offset c =
    let a = c.args in
    let e = goal.at.returns-then-size-offset c in
    byte-34 a.lengths.now a.piece_length a.file a.offset c.total-total.result.0 (rules-kept e.Else-not-keeps_rules) (there e.In-Some).0 (ap Err c.refuse-then-size-offset.ensures) (omega (arith, there e.In-Some))

pub overflow_add-place : goal.overflow_add-place
overflow_add-place c =
    let a = c.args in
    let e = goal.at.overflow_add-place c in
    omega (arith, place_inside a.lengths.now a.piece_length a.file a.offset c.total-total.result.0 (rules-kept e.Else-not-keeps_rules) (there e.In-Some).0 (omega (arith, there e.In-Some)) c.reach-files.result.start.0 c.reach-files.ensures.1)

pub returns : goal.returns
returns c =
    let a = c.args in
    let e = goal.at.returns c in
    let k = rules-kept e.Else-not-keeps_rules in
    let t = there e.In-Some in
    let x = c.reach-files.result.start.0 + a.offset in
    let n : c.piece_number.result.0 ≡ x / a.piece_length = omega (arith, c.piece_number.ensures, place-number a.lengths.now a.piece_length a.file a.offset c.total-total.result.0 k t.0 (omega arith) c.reach-files.result.start.0 c.reach-files.ensures.1 x refl) in
    let m : c.piece_offset.result.0 ≡ x % a.piece_length = omega (arith, c.piece_offset.ensures, mod-lt x {m = a.piece_length} (omega (arith, k.low)), k.high) in
    byte-done a.lengths.now a.piece_length a.file a.offset c.total-total.result.0 k t.0 (omega arith) c.reach-files.result.start.0 c.reach-files.ensures.1 x (record { piece = c.piece_number.result; offset = c.piece_offset.result }) refl n m
