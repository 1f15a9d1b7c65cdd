-- An accepted start leaves an empty yard, whatever was in the tables; and which further start is accepted. Assumes nothing.
use mathlib.Core.Path.{◌≡◌, refl, sym, ap, ap₂, ◌∙◌, subst}
use mathlib.Core.Bool.{Bool, true, false, cond, and-eq-true_iff}
use mathlib.Core.List.{List, ◌∷◌}
use Prim.Native.Nat.{ℕ, zero, suc, ◌-◌, ◌*◌}
use native.Mathlib.Omega.{arith}
use borrow.Author.Tests.{eq-eqb, eqb-true, le-leb, leb-true}
use lib.Dec.{eqb, leb}
use lib.ListN.{length, get_or, replicate, length-replicate, get_or-replicate}
use Rattle.refusal.specs.Paper.{taken, refused}
use Rattle.refusal.specs.Numbers.{sizes}
use Rattle.refusal.specs.Limits.{most_pieces, most_seats}
use Rattle.refusal.proofs.Cases.{cannot, both_true, same_test}
use Rattle.torrent_blocks.specs.Rules.{piece_length_of}
use Rattle.torrent_blocks.proofs.Legal.{is-piece-length, piece-length-is}
use Rattle.yard_tables.specs.Rows.{width}
use Rattle.yard_tables.specs.Seats.{cleared, holding}
use Rattle.yard_tables.specs.Tables.{Yard, done, sizes_fit}
use Rattle.yard_tables.specs.Rounds.{nobody}
use Rattle.yard_tables.specs.Seating.{emptied, start_of}
use Rattle.yard_tables.proofs.Counts.{count_none}
use Rattle.yard_tables.proofs.Rows.{blank}
use Rattle.yard_tables.proofs.Sizing.{Fitting, fitting}
use Rattle.yard_laws.specs.History.{History, Fixed, Sizes, entry, event, pieces, phase, seated}
use Rattle.yard_laws.specs.Says.{has_piece, held, loaded, head_of}
use Rattle.yard_laws.specs.Expected.{no, start_fits_of}
use Rattle.yard_laws.specs.Run.{SizesFit, fixed_by, start_with}
use Rattle.yard_laws.proofs.Agreeing.{Agrees, quiet-agrees, head-fits}
use Rattle.yard_laws.proofs.Calls.{Kept}

get_or-same : {A : Type 0} (n j : ℕ) (a : A) → get_or (replicate n a) j a ≡ a
get_or-same zero j a = refl
get_or-same (suc n) zero a = refl
get_or-same (suc n) (suc j) a = get_or-same n j a

-- what a start leaves
abbrev pub empty : Sizes → Yard → Yard
empty z y = emptied z.pieces z.piece_length_of z.last_length_of y

-- its sizes fit the tables y
abbrev pub fits_for : Sizes → Yard → Bool
fits_for z y = sizes_fit (empty z y).head (length y.seats) (length y.rows) (length y.holders)

pub empty-agrees : (h : History) (y : Yard) (z : Sizes) (w : List ℕ) → fits_for z y ≡ true
    → Agrees (fixed_by y) (entry (start_with z) (taken done) w ∷ h) (empty z y)
unfolding event phase
empty-agrees h y z w ok =
    let n : ℕ = length y.seats in
    let now : History = entry (start_with z) (taken done) w ∷ h in
    let f : Fitting (empty z y).head n (length y.rows) (length y.holders) = fitting (empty z y).head n (length y.rows) (length y.holders) ok in
    let none : (i : ℕ) → held now i ≡ 0 = λ i. count_none (has_piece now i) z.pieces (λ q m. refl) in
    record {
      seats-len = length-replicate n cleared;
      fits = ap₂ (λ (r s : ℕ). sizes_fit (empty z y).head n r s) (length-replicate (length y.rows) 0) (length-replicate (length y.holders) 0) ∙ ok;
      head-is = ap₂ (λ (t c : ℕ). record { pieces = z.pieces; piece_length = z.piece_length_of; last_length = z.last_length_of; taken = t; complete = c; round = 0; free = nobody; last = n - 1 })
          (sym (count_none (seated now) n (λ i m. refl))) (sym (count_none (loaded now) n (λ i m. refl)));
      seat-is = λ i. get_or-same n i cleared ∙ ap (λ (m : ℕ). holding m cleared) (sym (none i));
      row_is = λ i q m r. blank (width z.pieces) (length y.rows) i q;
      holders-is = λ q m. get_or-replicate (length y.holders) q 0 0 (omega (arith, f.counts)) ∙ sym (count_none (λ i. has_piece now i q) n (λ i r. refl));
    }

-- ---- a further start

-- the sizes fit exactly if they are legal and the tables have them
pub sized-fits : (z : Sizes) (y : Yard) → SizesFit z y → fits_for z y ≡ true
unfolding sizes_fit
sized-fits z y s =
    both_true _ _ (le-leb 1 z.pieces s.some-pieces)
    (both_true _ _ (le-leb z.pieces most_pieces s.few-pieces)
    (both_true _ _ (le-leb 1 (length y.seats) s.some-seats)
    (both_true _ _ (le-leb (length y.seats) most_seats s.few-seats)
    (both_true _ _ (is-piece-length z.piece_length_of s.piece-length)
    (both_true _ _ (le-leb 1 z.last_length_of s.some-last)
    (both_true _ _ (le-leb z.last_length_of z.piece_length_of s.last_within)
    (both_true _ _ (eq-eqb (length y.rows) (length y.seats * width z.pieces) s.rows_fit)
    (both_true _ _ (eq-eqb (length y.holders) z.pieces s.holders-fit) refl))))))))

pub fits-sized : (z : Sizes) (y : Yard) → fits_for z y ≡ true → SizesFit z y
fits-sized z y e =
    let f : Fitting (empty z y).head (length y.seats) (length y.rows) (length y.holders) =
    fitting (empty z y).head (length y.seats) (length y.rows) (length y.holders) e in
    record {
      some-pieces = f.some;
      few-pieces = f.few;
      some-seats = f.seat;
      few-seats = f.seats;
      piece-length = f.length;
      some-last = f.last;
      last_within = f.within;
      rows_fit = f.row;
      holders-fit = f.counts;
    }

-- what holds of both answers of two tests that agree
by_both : {A B : Type 0} (Q : A → B → Type 0) (t u : Bool) {x y : A} {e f : B} → t ≡ u → (t ≡ true → Q x e) → (t ≡ false → Q y f) → Q (cond t x y) (cond u e f)
by_both Q true true p f g = f refl
by_both Q true false p f g = cannot true p refl
by_both Q false true p f g = cannot false refl p
by_both Q false false p f g = g refl

module _ (fixed : Fixed) (h : History) (y : Yard) (agrees : Agrees fixed h y) (z : Sizes) where
  abbrev n : ℕ
  n = fixed.seats

  fits-now : Fitting (head_of fixed h) n (length y.rows) (length y.holders)
  fits-now = fitting (head_of fixed h) n (length y.rows) (length y.holders) (head-fits fixed h y agrees (head_of fixed h).taken (head_of fixed h).complete (head_of fixed h).round (head_of fixed h).free (head_of fixed h).last)

  fits-then : fits_for z y ≡ true → start_fits_of h z ≡ true
  fits-then e =
      let f : SizesFit z y = fits-sized z y e in
      both_true (eqb z.pieces (pieces h)) _ (eq-eqb z.pieces (pieces h) (omega (arith, f.holders-fit, fits-now.counts)))
      (both_true (piece_length_of z.piece_length_of) _ (is-piece-length z.piece_length_of f.piece-length)
      (both_true (leb 1 z.last_length_of) (leb z.last_length_of z.piece_length_of) (le-leb 1 z.last_length_of f.some-last) (le-leb z.last_length_of z.piece_length_of f.last_within)))

  then-fits : start_fits_of h z ≡ true → fits_for z y ≡ true
  then-fits e =
      let a = (and-eq-true_iff (eqb z.pieces (pieces h)) _).0 e in
      let b = (and-eq-true_iff (piece_length_of z.piece_length_of) _).0 a.1 in
      let c = (and-eq-true_iff (leb 1 z.last_length_of) (leb z.last_length_of z.piece_length_of)).0 b.1 in
      let q : z.pieces ≡ pieces h = eqb-true z.pieces (pieces h) a.0 in
      let m : length y.seats ≡ n = agrees.seats-len in
      sized-fits z y record {
        some-pieces = omega (arith, fits-now.some);
        few-pieces = omega (arith, fits-now.few);
        some-seats = omega (arith, fits-now.seat);
        few-seats = omega (arith, fits-now.seats);
        piece-length = piece-length-is z.piece_length_of b.0;
        some-last = leb-true 1 z.last_length_of c.0;
        last_within = leb-true z.last_length_of z.piece_length_of c.1;
        rows_fit = fits-now.row ∙ ap₂ (λ (a b : ℕ). a * width b) (sym m) (sym q);
        holders-fit = fits-now.counts ∙ sym q;
      }

  pub start-kept : (w : List ℕ) → Kept fixed h y agrees (start_with z) w (start_of z.pieces z.piece_length_of z.last_length_of y) (cond (start_fits_of h z) (taken done) (no sizes))
  unfolding start_of event phase
  start-kept w = by_both (Kept fixed h y agrees (start_with z) w) (fits_for z y) (start_fits_of h z) (same_test _ _ fits-then then-fits)
      (λ e. (refl, subst (λ (m : ℕ). Agrees (record { seats = m }) (entry (start_with z) (taken done) w ∷ h) (empty z y)) agrees.seats-len (empty-agrees h y z w e)))
      (λ e. (refl, quiet-agrees fixed h y agrees (entry (start_with z) (refused sizes 0) w) (λ j. refl) refl))
