-- What it says that a head's sizes fit, and that they do not. Assumes nothing.
use mathlib.Core.Path.{◌≡◌, refl, sym, ◌∙◌}
use mathlib.Core.Bool.{Bool, true, false, ◌&&◌, true≢false}
use mathlib.Core.List.{List, [], ◌∷◌}
use Prim.Native.Nat.{ℕ, zero, suc, ◌+◌, ◌*◌, ◌/◌, ◌≤◌, ◌<◌}
use native.Mathlib.Omega.{arith}
use borrow.Author.Tests.{le-leb, lt-leb, leb-true, eq-eqb, ne_eqb, eqb-true}
use lib.Dec.{leb, eqb}
use lib.ListN.{get_or}
use Rattle.torrent_blocks.specs.Rules.{piece_length_of, PieceLength}
use Rattle.torrent_blocks.proofs.Legal.{piece-length-is}
use Rattle.refusal.specs.Limits.{most_pieces, most_seats}
use Rattle.yard_tables.specs.Counting.{every}
use Rattle.yard_tables.specs.Rows.{width}
use Rattle.yard_tables.specs.Tables.{sizes_fit}
use Rattle.yard_tables.specs.declared.Head.{Head}

pub every_true : (l : List Bool) (k : ℕ) → every l ≡ true → get_or l k true ≡ true
every_true [] k e = refl
every_true (true ∷ l) zero e = refl
every_true (true ∷ l) (suc k) e = every_true l k e
every_true (false ∷ l) k e = absurd (true≢false (sym e))

pub every-false : (l : List Bool) (k : ℕ) → get_or l k true ≡ false → every l ≡ false
every-false [] k e = e
every-false (false ∷ l) k e = refl
every-false (true ∷ l) zero e = absurd (true≢false e)
every-false (true ∷ l) (suc k) e = every-false l k e

-- the sizes of a head, and of what is lent beside it
pub record Fitting (h : Head) (n rows holders : ℕ) : Type 0 where
  pub some : 1 ≤ h.pieces
  pub few : h.pieces ≤ most_pieces
  pub seat : 1 ≤ n
  pub seats : n ≤ most_seats
  pub length : PieceLength h.piece_length
  pub last : 1 ≤ h.last_length
  pub within : h.last_length ≤ h.piece_length
  pub row : rows ≡ n * width h.pieces
  pub counts : holders ≡ h.pieces

module _ (h : Head) (n rows holders : ℕ) where
  abbrev tests : List Bool
  tests =
      leb 1 h.pieces
      ∷ leb h.pieces most_pieces
      ∷ leb 1 n
      ∷ leb n most_seats
      ∷ piece_length_of h.piece_length
      ∷ leb 1 h.last_length
      ∷ leb h.last_length h.piece_length
      ∷ eqb rows (n * width h.pieces)
      ∷ eqb holders h.pieces
      ∷ []

  pub fitting : sizes_fit h n rows holders ≡ true → Fitting h n rows holders
  unfolding sizes_fit
  fitting e = record {
    some = leb-true 1 h.pieces (every_true tests 0 e);
    few = leb-true h.pieces most_pieces (every_true tests 1 e);
    seat = leb-true 1 n (every_true tests 2 e);
    seats = leb-true n most_seats (every_true tests 3 e);
    length = piece-length-is h.piece_length (every_true tests 4 e);
    last = leb-true 1 h.last_length (every_true tests 5 e);
    within = leb-true h.last_length h.piece_length (every_true tests 6 e);
    row = eqb-true rows (n * width h.pieces) (every_true tests 7 e);
    counts = eqb-true holders h.pieces (every_true tests 8 e);
  }

  -- the tests that fail, in the code's words: p is the number of pieces
  module _ (p : ℕ) (is : p ≡ h.pieces) where
    pub none : p < 1 → false ≡ sizes_fit h n rows holders
    unfolding sizes_fit
    none l = sym (every-false tests 0 (lt-leb 1 h.pieces (omega arith)))

    pub many : most_pieces < p → false ≡ sizes_fit h n rows holders
    unfolding sizes_fit
    many l = sym (every-false tests 1 (lt-leb h.pieces most_pieces (omega arith)))

    pub no-seat : n < 1 → false ≡ sizes_fit h n rows holders
    unfolding sizes_fit
    no-seat l = sym (every-false tests 2 (lt-leb 1 n l))

    pub many-seats : most_seats < n → false ≡ sizes_fit h n rows holders
    unfolding sizes_fit
    many-seats l = sym (every-false tests 3 (lt-leb n most_seats l))

    pub other_length : piece_length_of h.piece_length ≡ false → false ≡ sizes_fit h n rows holders
    unfolding sizes_fit
    other_length e = sym (every-false tests 4 e)

    pub no_last : h.last_length < 1 → false ≡ sizes_fit h n rows holders
    unfolding sizes_fit
    no_last l = sym (every-false tests 5 (lt-leb 1 h.last_length l))

    pub long-last : h.piece_length < h.last_length → false ≡ sizes_fit h n rows holders
    unfolding sizes_fit
    long-last l = sym (every-false tests 6 (lt-leb h.last_length h.piece_length l))

    pub other-rows : (rows ≡ n * ((p + 7) / 8) → ⊥) → false ≡ sizes_fit h n rows holders
    unfolding sizes_fit
    other-rows f = sym (every-false tests 7 (ne_eqb rows (n * width h.pieces) (λ e. f (rw is e))))

    -- and the last one decides
    pub by-holders : 1 ≤ p → p ≤ most_pieces → 1 ≤ n → n ≤ most_seats → piece_length_of h.piece_length ≡ true → 1 ≤ h.last_length → h.last_length ≤ h.piece_length
        → rows ≡ n * ((p + 7) / 8) → eqb holders p ≡ sizes_fit h n rows holders
    unfolding sizes_fit
    by-holders a b c d e f g i =
        let xa : leb 1 p ≡ true = le-leb 1 p a in
        let xb : leb p most_pieces ≡ true = le-leb p most_pieces b in
        let xc : leb 1 n ≡ true = le-leb 1 n c in
        let xd : leb n most_seats ≡ true = le-leb n most_seats d in
        let xf : leb 1 h.last_length ≡ true = le-leb 1 h.last_length f in
        let xg : leb h.last_length h.piece_length ≡ true = le-leb h.last_length h.piece_length g in
        let xi : eqb rows (n * ((p + 7) / 8)) ≡ true = eq-eqb rows (n * ((p + 7) / 8)) i in
        go (eqb holders p) ∙ rw (← is, xa, xb, xc, xd, e, xf, xg, xi)
      where
        go : (b : Bool) → b ≡ (b && true)
        go true = refl
        go false = refl
