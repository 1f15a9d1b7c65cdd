-- `bencode_writer::store_small_hex` meets its contract. Assumes nothing.
use Rattle.std.proofs.Common.{◌≡◌, ap, ℕ, ◌/◌, ◌%◌, length, get_or, arith}
use Rattle.bencode_writer.specs.Escaped.{small_digit}
use Rattle.bencode_writer.proofs.Runs.{going_start, going_more, going_end, going-room}
use Rattle.bencode_writer.proofs.Escapes.{hex-more, hex-none}
use Rattle.bencode_writer.proofs.store_small_hex.Goals as goal

pub loop-b-init : goal.loop-b-init
loop-b-init c = going_start _ _ _

pub store-to-requires : goal.store-to-requires
store-to-requires c = omega (arith, going-room c.loop-b.invariant c.requires, ap (length {A = ℕ}) (hex-more c.args.bytes.now c.loop-b.b-index c.loop-b-test.true))

pub loop-b-preserved : goal.loop-b-preserved
loop-b-preserved c =
    let s = c.args.bytes.now in
    let b : ℕ = get_or s c.loop-b.b-index 0 in
    let high : c.hex.result ≡ small_digit (b / 16) = c.hex.ensures in
    let low : c.hex-in-loop-b.result ≡ small_digit (b % 16) = c.hex-in-loop-b.ensures in
    going_more _ _ _ c.loop-b.invariant _ _ (hex-more s c.loop-b.b-index c.loop-b-test.true) (rw (high, low) at c.store-to.ensures)

pub returns : goal.returns
returns c = going_end _ _ _ c.loop-b.invariant (hex-none c.args.bytes.now c.loop-b.b-index c.loop-b-test.false)
