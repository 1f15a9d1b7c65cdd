-- A look at a piece by a number that C gives: one past 32 bits is no piece, and neither is the largest that stands for it. Assumes nothing.
use mathlib.Core.Path.{◌≡◌, refl, sym, ap, ◌∙◌}
use mathlib.Core.Bool.{Bool, true, false, cond}
use Prim.Native.Nat.{ℕ, ◌≤◌, min}
use native.Mathlib.Omega.{arith}
use borrow.Author.Tests.{le-ltb}
use lib.Dec.{ltb}
use lib.ListN.{length, get_or}
use Rattle.refusal.specs.Limits.{most_pieces}
use Rattle.refusal.specs.Numbers.{seat, sizes, beyond}
use Rattle.refusal.proofs.Cases.{less-or, pick_no}
use Rattle.torrent_blocks.specs.Numberings.{widest}
use Rattle.yard_tables.specs.Rows.{width, has_in}
use Rattle.yard_tables.specs.Tables.{holds, held_by_of, Around, Turn, refuse, says, sizes_fit, sized}
use Rattle.yard_tables.specs.Looks.{has_of, count_of}
use Rattle.yard_tables.proofs.Sizing.{fitting}

module _ (n : ℕ) (x : Around) where
  -- what is the same where there are no more pieces than may be
  within : {t u : Turn} → (x.head.pieces ≤ most_pieces → t ≡ u) → sized n x t ≡ sized n x u
  within {t} {u} f = go (sizes_fit x.head n (length x.rows) (length x.holders)) refl
    where
      go : (b : Bool) → sizes_fit x.head n (length x.rows) (length x.holders) ≡ b → cond b t (refuse sizes x) ≡ cond b u (refuse sizes x)
      go true e = f (fitting x.head n (length x.rows) (length x.holders) e).few
      go false e = refl

  module _ (p : ℕ) {q : ℕ} (c : q ≡ min p widest) where
    piece : (f : ℕ → Turn) → x.head.pieces ≤ most_pieces → cond (ltb q x.head.pieces) (f q) (refuse beyond x) ≡ cond (ltb p x.head.pieces) (f p) (refuse beyond x)
    piece f l = less-or widest p
        (λ h. sym (pick_no (f q) (ltb q x.head.pieces) (le-ltb q x.head.pieces (omega arith)) refl) ∙ pick_no (f p) (ltb p x.head.pieces) (le-ltb p x.head.pieces (omega arith)) refl)
        (λ h. let e : q ≡ p = omega arith in ap (λ (k : ℕ). cond (ltb k x.head.pieces) (f k) (refuse beyond x)) e)

    pub count-numbered : (count_of q n x).answer ≡ (count_of p n x).answer
    unfolding count_of
    count-numbered = ap (λ (t : Turn). t.answer) (within (piece (λ k. says (held_by_of (get_or x.holders k 0)) x)))

  pub has-numbered : (i p : ℕ) {q : ℕ} → q ≡ min p widest → (has_of i q n x).answer ≡ (has_of i p n x).answer
  unfolding has_of
  has-numbered i p c =
      ap (λ (t : Turn). t.answer) (within (λ l. ap (λ (t : Turn). cond (ltb i n) t (refuse seat x)) (piece p c (λ k. says (holds (has_in (width x.head.pieces) x.rows i k)) x) l)))
