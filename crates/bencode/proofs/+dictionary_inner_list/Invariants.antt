-- The cycle goes one level down at each turn; each loop keeps what its turn says.
use Rattle.std.proofs.Common.{length, ◌-◌, ◌*◌, ◌+◌}
use Rattle.bencode.proofs.Turns.{ListTurn, DictTurn}
use Rattle.bencode.proofs.+dictionary_inner_list.Given as goal

abbrev pub decreases-dictionary : goal.decreases-dictionary
decreases-dictionary l = 2 * l.levels + 1

abbrev pub decreases-inner : goal.decreases-inner
decreases-inner l = 2 * l.levels

abbrev pub decreases-list : goal.decreases-list
decreases-list l = 2 * l.levels + 1

abbrev pub invariant-dictionary-loop-at : goal.invariant-dictionary-loop-at
invariant-dictionary-loop-at l = DictTurn l.text l.levels l.from l.others l.at l.count l.before

-- proposed from the loop's first test
abbrev pub decreases-dictionary-loop-at : goal.decreases-dictionary-loop-at
decreases-dictionary-loop-at l = length l.text - l.at

abbrev pub invariant-list-loop-at : goal.invariant-list-loop-at
invariant-list-loop-at l = ListTurn l.text l.levels l.from l.others l.at l.count

-- proposed from the loop's first test
abbrev pub decreases-list-loop-at : goal.decreases-list-loop-at
decreases-list-loop-at l = length l.text - l.at
