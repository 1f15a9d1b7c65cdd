-- `bencode::short::leaf` meets its contract. Assumes nothing.
use mathlib.Core.Path.{refl, sym, ◌∙◌}
use Prim.Native.Nat.{◌+◌}
use native.Mathlib.Omega.{arith}
use Rattle.bencode.proofs.Turns.{value-int, value-str}
use Rattle.bencode.proofs.short.leaf.Goals as goal

pub returns-then-b-eq105 : goal.returns-then-b-eq105
returns-then-b-eq105 c = λ z. (omega arith, λ d. c.integer.ensures (c.args.count + 1) z ∙ value-int c.args.text.now c.args.at c.args.count c.requires d c.if-b-eq105.true (omega arith))

pub returns-then-digit : goal.returns-then-digit
returns-then-digit c = λ z. (omega arith, λ d. c.string.ensures (c.args.count + 1) z ∙ value-str c.args.text.now c.args.at c.args.count c.requires d (sym c.digit.ensures ∙ c.if-digit.true) (omega arith))

pub returns-then-count-ge-VALUES : goal.returns-then-count-ge-VALUES
returns-then-count-ge-VALUES c z = absurd (z refl)

pub integer-requires : goal.integer-requires
integer-requires c = (c.requires, c.if-b-eq105.true)

pub string-requires : goal.string-requires
string-requires c = (c.requires, sym c.digit.ensures ∙ c.if-digit.true)

pub returns : goal.returns
returns c z = absurd (z refl)
