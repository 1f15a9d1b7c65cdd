-- Frames that speak of a block, by the tests that the code makes. Assumes nothing.
use Rattle.std.specs.Prelude.{Ok, Result}
use Rattle.refusal.specs.declared.Refusal.{Refusal}
use mathlib.Core.Path.{◌≡◌, refl, ap, ◌∙◌}
use mathlib.Core.Bool.{Bool, true, false, cond}
use mathlib.Core.List.{List}
use Prim.Native.Nat.{ℕ, ◌+◌}
use lib.Dec.{ltb}
use Rattle.refusal.specs.Limits.{most_sent}
use Rattle.refusal.specs.Numbers.{beyond, outside, damaged}
use Rattle.refusal.specs.Paper.{Outcome, taken}
use Rattle.yard_tables.specs.Seats.{spoken, having}
use Rattle.yard_tables.specs.Tables.{Around, Said, used, around, turn, paper, refuse, says}
use Rattle.yard_tables.specs.Frames.{block_fits, block_of, piece_of, hears, passed}
use Rattle.yard_tables.specs.declared.Head.{Head}
use Rattle.yard_tables.specs.declared.Seat.{Seat}
use Rattle.yard_tables.specs.declared.Answer.{Answer}
use Rattle.yard_tables.specs.declared.Answer.TheVariants.{Taken}
use Rattle.yard_tables.specs.declared.Stepped.{Stepped}
use Rattle.yard_tables.specs.Replies.{stepped, refusing, block_step, piece_step}

-- a step over a block, by what the block's frame is to get
pub block-said : (h : Head) (s : Seat) (p begin len : ℕ) (a : Result Answer Refusal) (said : Said) (fits : Bool) (r : Stepped) (rows holders : List ℕ)
    → fits ≡ block_fits h p begin len → paper a ≡ taken said → r ≡ block_step h s p fits a → turn r rows holders ≡ block_of p begin len said (around h s rows holders)
unfolding block_of
block-said h s p begin len a said fits r rows holders ef ea er =
    ap (λ (x : Stepped). turn x rows holders) er ∙ go (ltb p h.pieces) fits ∙ ap (λ (b : Bool). cond (ltb p h.pieces) (cond b (says said (passed (around h s rows holders))) (refuse outside (around h s rows holders))) (refuse beyond (around h s rows holders))) ef
  where
    go : (b c : Bool) → turn (cond b (cond c (stepped h (spoken s) a) (refusing h s outside)) (refusing h s beyond)) rows holders
        ≡ cond b (cond c (says said (passed (around h s rows holders))) (refuse outside (around h s rows holders))) (refuse beyond (around h s rows holders))
    go true true = ap (λ (o : Outcome Said). record { answer = o; after = around h (spoken s) rows holders }) ea
    go true false = refl
    go false c = refl

-- a piece, by what its frame is to get
module _ (h : Head) (s : Seat) (p begin len bytes : ℕ) (rows holders : List ℕ) where
  abbrev at-seat : Around
  at-seat = around h s rows holders

  by_tests : (a b c : Bool) → turn (cond a (cond b (cond c (refusing h s damaged) (stepped h (spoken (having (s.bytes + len) s)) (Ok (Taken bytes)))) (refusing h s outside)) (refusing h s beyond)) rows holders
      ≡ cond a (cond b (cond c (refuse damaged at-seat) (says (used bytes) (hears (having (s.bytes + len)) at-seat))) (refuse outside at-seat)) (refuse beyond at-seat)
  by_tests true true true = refl
  by_tests true true false = refl
  by_tests true false c = refl
  by_tests false b c = refl

  pub piece-said : (fits : Bool) (r : Stepped) → fits ≡ block_fits h p begin len → r ≡ piece_step h s p fits len bytes → turn r rows holders ≡ piece_of p begin len bytes at-seat
  unfolding piece_of
  piece-said fits r ef er =
      ap (λ (x : Stepped). turn x rows holders) (er ∙ ap (λ (b : Bool). piece_step h s p b len bytes) ef)
      ∙ by_tests (ltb p h.pieces) (block_fits h p begin len) (ltb most_sent (s.bytes + len))
