-- The numbers of a torrent, as the code tests them. Assumes nothing.
use Rattle.std.proofs.Common.{Result, ◌≡◌, refl, sym, ap, ◌∙◌, Bool, true, false, cond, ⊎_elim, List, ℕ, ◌*◌, ◌<◌, ◌≤◌, min, arith, leb, eqb, eq-eqb, ne_eqb, leb-true}
use Rattle.refusal.specs.declared.Refusal.{Refusal}
use mathlib.Core.Bool.{and-false}
use borrow.Author.Tests.{lt-leb}
use Rattle.refusal.specs.Paper.{Outcome, taken, refused, then}
use Rattle.refusal.specs.Limits.{most_pieces, longest_piece}
use Rattle.refusal.specs.declared.Part.{Part}
use Rattle.refusal.proofs.Cases.{both, lt-or-le}
use Rattle.bencode_walk.specs.Walk.{seek_paper}
use Rattle.bencode_walk.specs.Lookup.{Under, nothing, under}
use Rattle.bencode_walk.specs.declared.Sought.{Sought}
use Rattle.bencode_fields.specs.Looks.{natural_of, needed}
use Rattle.bencode.specs.Decode.{unless_long}
use Rattle.bencode_fields.specs.Values.{natural_at, must}
use Rattle.bencode_fields.proofs.Standing.{natural-is}
use Rattle.torrent_metainfo.specs.Keys.{Tells, place_found}
use Rattle.torrent_metainfo.proofs.Naming.{no_way}
use Rattle.torrent_metainfo.proofs.Telling.{tells-needed, tells-place}
use Rattle.torrent_blocks.specs.Rules.{piece_length_of, file_count, pieces_of, total_and, largest}
use Rattle.torrent_blocks.proofs.Legal.{piece-length-is, piece-bounds, is-piece}
use Rattle.torrent_metainfo.specs.declared.Content.{Content}
use Rattle.torrent_metainfo.specs.Rules.{place_under, piece_length_at, sized_of}
use Rattle.torrent_metainfo.specs.Reading.{stopped}

-- so few pieces that their hashes' length fits
pub few-pieces : (t k : ℕ) → total_and t k ≡ true → k ≤ most_pieces
few-pieces t k e = leb-true k most_pieces (both (leb 1 t) (leb k most_pieces) e).1

module _ (a i n s : Part) (p pl : ℕ) (c : Content) where
  pub sized-many : file_count c.files ≡ false → refused 11 c.place ≡ sized_of a i n s p pl c
  unfolding sized_of
  sized-many e = rw e

  module _ (f : file_count c.files ≡ true) where
    pub sized-total : total_and c.total (pieces_of c.total pl) ≡ false → refused 11 c.place ≡ sized_of a i n s p pl c
    unfolding sized_of
    sized-total e = rw (f, e)

    module _ (t : total_and c.total (pieces_of c.total pl) ≡ true) (k : ℕ) (m : k ≡ pieces_of c.total pl) where
      pub sized-wrong : (s.len ≡ 20 * k → ⊥) → refused 12 p ≡ sized_of a i n s p pl c
      unfolding sized_of
      sized-wrong e = let g : eqb s.len (20 * pieces_of c.total pl) ≡ false = ne_eqb _ _ (λ h. e (h ∙ ap (λ (x : ℕ). 20 * x) (sym m))) in rw (f, t, g)

      pub sized-right : s.len ≡ 20 * k → taken (record { announce = a; info = i; name = n; pieces = s; piece_length = pl; piece_count = k; content = c }) ≡ sized_of a i n s p pl c
      unfolding sized_of
      sized-right e =
          let g : eqb s.len (20 * pieces_of c.total pl) ≡ true = eq-eqb _ _ (e ∙ ap (λ (x : ℕ). 20 * x) m) in
          ap (λ (x : ℕ). taken (record { announce = a; info = i; name = n; pieces = s; piece_length = pl; piece_count = x; content = c })) m ∙ rw (f, t, g)

-- a total that stopped is refused as the whole is
pub sized-stopped : (a i n s : Part) (p pl : ℕ) (c : Content) → piece_length_of pl ≡ true → sized_of a i n s p pl (stopped c) ≡ sized_of a i n s p pl c
unfolding sized_of
sized-stopped a i n s p pl c h = ⊎_elim over under (lt-or-le largest c.total)
  where
    large : (x : ℕ) → largest ≤ x → total_and x (pieces_of x pl) ≡ false
    large x l =
        let b = piece-bounds pl (piece-length-is pl h) in
        let e : leb (pieces_of x pl) most_pieces ≡ false = lt-leb (pieces_of x pl) most_pieces (is-piece x pl (omega arith) most_pieces (omega arith)) in
        rw e (and-false (leb 1 x))

    over : largest < c.total → sized_of a i n s p pl (stopped c) ≡ sized_of a i n s p pl c
    over l =
        let m : min c.total largest ≡ largest = omega arith in
        rw (m, large largest (omega arith), large c.total (omega arith))

    under : c.total ≤ largest → sized_of a i n s p pl (stopped c) ≡ sized_of a i n s p pl c
    under l = let m : min c.total largest ≡ c.total = omega arith in rw m

-- ---- the piece length under its key

module _ (s : List ℕ) (d D : ℕ) (u : Under) (w : Result Sought Refusal) (t : Tells s d u w) where
  asked : unless_long s (needed D (seek_paper w) (natural_of longest_piece s)) ≡ must D u (natural_at longest_piece)
  asked = tells-needed s d D (natural_at longest_piece) u w t (natural_of longest_piece s) (λ q v x. natural-is s d q longest_piece (omega arith) v x)

  pub piece-good : (n : ℕ) → taken n ≡ unless_long s (needed D (seek_paper w) (natural_of longest_piece s)) → piece_length_of n ≡ true → taken n ≡ must D u piece_length_at
  piece-good n e h = go u (e ∙ asked)
    where
      go : (u : Under) → taken n ≡ must D u (natural_at longest_piece) → taken n ≡ must D u piece_length_at
      go nothing x = no_way (cc)
      go (under q v) x = rw (← x, h)

  pub piece-bad : (n : ℕ) → taken n ≡ unless_long s (needed D (seek_paper w) (natural_of longest_piece s)) → piece_length_of n ≡ false → refused 11 (place_found w) ≡ must D u piece_length_at
  piece-bad n e h = ap (λ (x : ℕ). refused 11 x) (tells-place s d u w t) ∙ go u (e ∙ asked)
    where
      go : (u : Under) → taken n ≡ must D u (natural_at longest_piece) → refused 11 (place_under u) ≡ must D u piece_length_at
      go nothing x = no_way (cc)
      go (under q v) x = rw (← x, h)

  pub piece-not : (r o : ℕ) → refused r o ≡ unless_long s (needed D (seek_paper w) (natural_of longest_piece s)) → refused r o ≡ must D u piece_length_at
  piece-not r o e = go u (e ∙ asked)
    where
      go : (u : Under) → refused r o ≡ must D u (natural_at longest_piece) → refused r o ≡ must D u piece_length_at
      go nothing x = x
      go (under q v) x = rw (← x)

-- a piece length that was taken is a legal one
pub piece-legal : (D : ℕ) (u : Under) (n : ℕ) → taken n ≡ must D u piece_length_at → piece_length_of n ≡ true
piece-legal D nothing n e = no_way (cc)
piece-legal D (under q v) n e = go (natural_at longest_piece q v) e
  where
    by : (m : ℕ) (b : Bool) → piece_length_of m ≡ b → taken n ≡ cond b (taken m) (refused 11 q) → piece_length_of n ≡ true
    by m true x y = let z : n ≡ m = cc in rw z x
    by m false x y = no_way (cc)

    go : (o : Outcome ℕ) → taken n ≡ then o (λ m. cond (piece_length_of m) (taken m) (refused 11 q)) → piece_length_of n ≡ true
    go (taken m) x = by m (piece_length_of m) refl x
    go (refused r i) x = no_way (cc)
