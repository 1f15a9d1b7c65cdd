-- A taken block is covered, and a file's byte finds its piece and is found again there, for any files that are laid out in pieces. Assumes nothing.
use mathlib.Core.Path.{◌≡◌, refl, ap, ◌∙◌}
use mathlib.Core.Bool.{Bool, true, false, cond, ◌&&◌}
use mathlib.Core.List.{List, [], ◌∷◌}
use Prim.Native.Nat.{ℕ, ◌+◌, ◌-◌, ◌*◌, ◌/◌, ◌%◌, ◌≤◌, ◌<◌}
use native.Mathlib.Omega.{arith}
use native.Mathlib.Nat.{div-add-mod', mod-lt}
use lib.Dec.{ltb, leb}
use lib.ListN.{length, get_or}
use borrow.Author.Tests.{ltb-true, leb-true, le-leb, lt-ltb}
use Rattle.refusal.specs.Paper.{taken, refused}
use Rattle.refusal.specs.Numbers.{range, beyond, outside}
use Rattle.refusal.specs.Limits.{longest_block}
use Rattle.refusal.proofs.Cases.{both}
use Rattle.refusal.proofs.Outcomes.{not_taken}
use Rattle.torrent_blocks.specs.Spans.{Span, FilePart, part, lengths, end_of, parts_of, held_in, nowhere}
use Rattle.torrent_blocks.specs.Answers.{Spot, spot, spot_at, pieces, keeps, lies, block_of, byte_of}
use Rattle.torrent_blocks.specs.Covers.{run, InSome, Laid, Covers, Block}
use Rattle.torrent_blocks.proofs.Legal.{is-piece, lawful-is, piece-bounds}
use Rattle.torrent_blocks.proofs.Covering.{covers, neat, one-part}
use Rattle.torrent_blocks.proofs.Joined.{inside-end, byte_inside}

-- ---- tests one after the other

-- what is taken passed all three
pub passed : {A : Type 0} (a b c : Bool) (x y : A) → cond a (cond b (cond c (taken x) (refused outside 0)) (refused beyond 0)) (refused range 0) ≡ taken y
    → (a ≡ true) × (b ≡ true) × (c ≡ true) × (x ≡ y)
passed true true true x y e = (refl, refl, refl, cc)
passed true true false x y e = not_taken e
passed true false c x y e = not_taken e
passed false b c x y e = not_taken e

-- a block's test says what the paper asks of it
module _ (held o n : ℕ) where
  pub lies-is : lies held o n ≡ true → Block held o n
  lies-is h =
      let a = both (leb 1 n) (leb n longest_block && leb (o + n) held) h in
      let b = both (leb n longest_block) (leb (o + n) held) a.1 in
      record { some = leb-true 1 n a.0; most = leb-true n longest_block b.0; ends = leb-true (o + n) held b.1 }

  pub is-lies : Block held o n → lies held o n ≡ true
  is-lies h = rw (le-leb 1 n h.some, le-leb n longest_block h.most, le-leb (o + n) held h.ends)

-- ---- the two statements

module _ (ss : List Span) (pl : ℕ) (laid : Laid ss pl) where
  -- the parts of a taken block are its bytes, once each and in order; none is empty, each lies within its file, and files ascend
  pub block-covers : (p o n : ℕ) (ps : List FilePart) → block_of ss pl (spot p o) n ≡ taken ps → Covers ss (p * pl + o) n ps
  unfolding block_of
  block-covers p o n ps e =
      let t = passed (keeps ss pl) (ltb p (pieces ss pl)) (lies (held_in ss pl p) o n) (parts_of ss (p * pl + o) n) ps e in
      let b = lies-is (held_in ss pl p) o n t.2 in
      let d : p * pl + o + n - (p * pl + o) ≡ n = omega arith in
      let inside : (x : ℕ) → p * pl + o ≤ x → x < p * pl + o + n → InSome ss x =
      λ x g h. let i : p * pl + (x - p * pl) ≡ x = omega arith in rw i at (laid.fills p (x - p * pl) (omega (arith, b.ends))) in
      rw (← t.3)
      (record {
        bytes = covers ss (p * pl + o) (p * pl + o + n) laid.ordered inside ∙ ap (run (p * pl + o)) d;
        neat = neat ss (p * pl + o) (p * pl + o + n);
      })

  -- a place in a file, as a block of one byte of its piece
  one_block : (x : ℕ) → keeps ss pl ≡ true → InSome ss x → block_of ss pl (spot (x / pl) (x % pl)) 1 ≡ taken (parts_of ss x 1)
  unfolding block_of
  one_block x e h =
      let b = piece-bounds pl (lawful-is pl (lengths ss) (pieces ss pl) e).piece in
      let d : x / pl * pl + x % pl ≡ x = div-add-mod' x pl in
      let m = mod-lt x {m = pl} (omega arith) in
      let i = is-piece (end_of ss) pl (omega arith) (x / pl) (omega (arith, inside-end 0 ss x laid.ordered h)) in
      let l = laid.holds (x / pl) (x % pl) m (rw d h) in
      rw (e, lt-ltb (x / pl) (pieces ss pl) i, is-lies (held_in ss pl (x / pl)) (x % pl) 1 (record { some = omega arith; most = omega arith; ends = omega arith }), d)

  -- the piece and the offset of a file's byte are its place in the content, and the block of one byte there is that byte of that file
  pub byte-finds-piece : (f o : ℕ) (s : Spot) → byte_of ss pl f o ≡ taken s
      → (s.piece * pl + s.offset ≡ (get_or ss f nowhere).start + o) × (block_of ss pl s 1 ≡ taken (part f o 1 ∷ []))
  unfolding byte_of
  byte-finds-piece f o s e =
      let x = (get_or ss f nowhere).start + o in
      let t = passed (keeps ss pl) (ltb f (length ss)) (ltb o (get_or ss f nowhere).size) (spot_at pl x) s e in
      let h = ltb-true f (length ss) t.1 in
      let l = ltb-true o (get_or ss f nowhere).size t.2 in
      rw (← t.3) (
        div-add-mod' x pl,
        one_block x t.0 (byte_inside ss f o h l) ∙ ap taken (one-part f o 1 ss laid.ordered h (omega arith) (omega arith)),
      )
