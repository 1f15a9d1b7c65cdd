-- `last` meets its contract: the length has room in the first block or stands in a second. Assumes nothing.
use Rattle.std.proofs.Common.{List, ℕ, ◌++◌, ◌*◌, length, drop, replicate, refl, ap, ◌∙◌, arith}
use Rattle.refusal.specs.BigEndian.{number_written}
use Rattle.hash_digest.proofs.Blocks.{last-in-one, last-in-two}
use Rattle.hash_digest.proofs.Stores.{marks}
use Rattle.hash_sha1.specs.Sha1.{compress}
use Rattle.hash_sha1.specs.declared.block.Hash.{Hash}
use Rattle.hash_sha1.proofs.once.last.Goals as goal
use Rattle.hash_sha1.proofs.once.last.Goals.{then-held-ge-LENGTH_AT, else-held-ge-LENGTH_AT}

pub returns : goal.returns
returns c =
    let a = c.args in
    let marked =
    marks a.held.now a.count c.requires (ap (λ (x : List ℕ). x ++ drop (length a.held.now) (replicate 64 0)) c.copy_from_slice.ensures.after) in
    elim c.if-held-ge-LENGTH_AT.branch [
      | then-held-ge-LENGTH_AT w ↦
          last-in-two compress a.h a.held.now _ c.write.new.out a.count (a.count * 8) c.requires (omega arith) refl marked w.block-value.ensures
          (c.write.ensures.out_after ∙ ap (λ (x : List ℕ). number_written 8 x 56 (a.count * 8)) w.end-is)
          (c.block.ensures ∙ ap (λ (x : Hash). compress x c.write.new.out) w.value-is)
      | else-held-ge-LENGTH_AT w ↦
          last-in-one compress a.h a.held.now c.if-held-ge-LENGTH_AT.end c.write.new.out a.count (a.count * 8) c.requires (omega arith) refl (w.end-is ∙ marked)
          c.write.ensures.out_after
          (c.block.ensures ∙ ap (λ (x : Hash). compress x c.write.new.out) w.value-is)
    ]
