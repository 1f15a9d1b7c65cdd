-- Every refusal and every wait of the answer by the history has its listed cause, and where a cause holds it is given. Assumes nothing.
use mathlib.Core.Path.{◌≡◌}
use mathlib.Core.Logic.{◌↔◌}
use mathlib.Core.Bool.{true, and-eq-true_iff}
use mathlib.Core.List.{List}
use Prim.Native.Nat.{ℕ}
use borrow.Author.Tests.{eq-eqb, eqb-true, le-leb, leb-true}
use lib.Dec.{eqb, leb}
use Rattle.refusal.specs.Paper.{taken, refused}
use Rattle.refusal.proofs.Cases.{both_true}
use Rattle.torrent_blocks.specs.Rules.{piece_length_of}
use Rattle.torrent_blocks.specs.Answers.{lies}
use Rattle.torrent_blocks.proofs.Legal.{is-piece-length, piece-length-is}
use Rattle.peer_wire.specs.Message.{Message}
use Rattle.yard_tables.specs.Tables.{Said, wait}
use Rattle.yard_tables.specs.Step.{Call, feed}
use Rattle.yard_laws.specs.History.{History, Fixed, Sizes, pieces}
use Rattle.yard_laws.specs.View.{StartFits, by_history}
use Rattle.yard_laws.specs.Expected.{start_fits_of, looks_of, sits_by, message_by, answer}
use Rattle.yard_laws.specs.Causes.{Sits, Says, Fits, Cause, WaitCause}
use Rattle.yard_laws.proofs.Caused as caused

module _ (h : History) (z : Sizes) where
  pub fits-start : StartFits h z → start_fits_of h z ≡ true
  fits-start f = both_true _ _ (eq-eqb z.pieces (pieces h) f.0) (both_true _ _ (is-piece-length z.piece_length_of f.1) (both_true _ _ (le-leb 1 z.last_length_of f.2) (le-leb z.last_length_of z.piece_length_of f.3)))

  pub start_fits : start_fits_of h z ≡ true → StartFits h z
  start_fits e =
      let a = (and-eq-true_iff (eqb z.pieces (pieces h)) _).0 e in
      let b = (and-eq-true_iff (piece_length_of z.piece_length_of) _).0 a.1 in
      let c = (and-eq-true_iff (leb 1 z.last_length_of) (leb z.last_length_of z.piece_length_of)).0 b.1 in
      (eqb-true z.pieces (pieces h) a.0, piece-length-is z.piece_length_of b.0, leb-true 1 z.last_length_of c.0, leb-true z.last_length_of z.piece_length_of c.1)

module _ (fixed : Fixed) (h : History) where
  pub sits-then : (i : ℕ) → sits_by (by_history fixed h) i ≡ true → Sits fixed h i
  sits-then = caused.sits-then (by_history fixed h)

  pub then-sits : (i : ℕ) → Sits fixed h i → sits_by (by_history fixed h) i ≡ true
  then-sits = caused.then-sits (by_history fixed h)

  pub frame-says : (i : ℕ) (s : List ℕ) (m : Message (List ℕ)) (bytes : ℕ) → Sits fixed h i → Says s m bytes → answer fixed h (feed i s) ≡ message_by (by_history fixed h) i bytes m
  frame-says = caused.frame-says (by_history fixed h) (start_fits_of h) (looks_of fixed h) (fits-start h) (start_fits h)

  pub refused-exactly : (c : Call) (number place : ℕ) → answer fixed h c ≡ refused number place ↔ (Cause fixed h c number × (place ≡ 0))
  refused-exactly = caused.refused-exactly (by_history fixed h) (start_fits_of h) (looks_of fixed h) (fits-start h) (start_fits h)

  pub cause-given : (c : Call) (number : ℕ) → Cause fixed h c number → answer fixed h c ≡ refused number 0
  cause-given = caused.cause-given (by_history fixed h) (start_fits_of h) (looks_of fixed h) (fits-start h) (start_fits h)

  pub wait-exactly-when : (c : Call) → answer fixed h c ≡ taken wait ↔ WaitCause fixed h c
  wait-exactly-when = caused.wait-exactly-when (by_history fixed h) (start_fits_of h) (looks_of fixed h) (fits-start h) (start_fits h)

  -- where no cause holds the call is taken
  pub taken-without : (c : Call) → ((number : ℕ) → Cause fixed h c number → ⊥) → (a : Said) × (answer fixed h c ≡ taken a)
  taken-without = caused.taken-without (by_history fixed h) (start_fits_of h) (looks_of fixed h) (fits-start h) (start_fits h)

-- a block that fits
module _ (fixed : Fixed) (h : History) (p b k : ℕ) where
  pub fits-block : Fits fixed h p b k → lies ((by_history fixed h).longs p) b k ≡ true
  fits-block = caused.fits-block (by_history fixed h) p b k

  pub block-fits : lies ((by_history fixed h).longs p) b k ≡ true → Fits fixed h p b k
  block-fits = caused.block-fits (by_history fixed h) p b k
