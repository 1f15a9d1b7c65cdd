-- `compressed` meets its contract: the words and the rounds by twenties, each from where the ones before left, and the last sum. Assumes nothing.
use Rattle.std.proofs.Common.{ap, ◌∙◌}
use Rattle.hash_sha1.specs.declared.block.Hash.{Hash}
use Rattle.hash_sha1.specs.Sha1.{compress, plus}
use Rattle.hash_sha1.proofs.Rounds.{all_done}
use Rattle.hash_sha1.proofs.block.compressed.Goals as goal

pub returns : goal.returns
unfolding compress
returns c =
    let s = c in
    let a = s.args in
    c.sum.ensures
    ∙ ap (λ (x : Hash). plus x a.h) (all_done a.h a.b.now _ a.k s.requires c.words_to_16.ensures c.opening-first.ensures c.twenty-second.ensures c.twenty-third.ensures c.twenty-last.ensures)
