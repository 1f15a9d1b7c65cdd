-- The ends of each call: what its tests have shown is what its definition answers. Assumes nothing.
use Rattle.std.specs.Prelude.{Err, Result}
use Rattle.refusal.specs.declared.Refusal.{Refusal}
use mathlib.Core.Path.{◌≡◌, refl, sym, ap, ◌∙◌}
use mathlib.Core.Bool.{Bool, true, false, cond, ◌&&◌}
use mathlib.Core.List.{List, [], ◌∷◌, ◌++◌}
use Prim.Native.Nat.{ℕ, ◌+◌, ◌-◌, ◌*◌, ◌/◌, ◌%◌, ◌≤◌, ◌<◌, min}
use native.Mathlib.Omega.{arith}
use native.Mathlib.Nat.{div-lt_iff_lt-mul}
use lib.ListN.{length, get_or, take, drop}
use lib.Seq.{sets, sets-eq}
use lib.Dec.{ltb}
use borrow.Author.Tests.{le-leb, lt-leb, lt-ltb, le-ltb}
use Rattle.refusal.specs.Paper.{paper, Outcome, taken, refused, refusal}
use Rattle.refusal.specs.Numbers.{range, beyond, outside, room}
use Rattle.refusal.proofs.Outcomes.{not_taken}
use Rattle.torrent_blocks.specs.Rules.{piece_length_of, file_count, pieces_of, total_and, largest, sum, lawful}
use Rattle.torrent_blocks.specs.Spans.{Span, FilePart, lengths, joined_files, end_of, parts_from, parts_of, held_in, nowhere}
use Rattle.torrent_blocks.specs.Answers.{spot, place_paper, pieces, keeps, lies, size_of, block_of, byte_of, flat, Left, left, parts_written}
use Rattle.torrent_blocks.specs.declared.Spot.{Spot}
use Rattle.torrent_blocks.proofs.Legal.{tests-are, lawful-is, piece-bounds, few-pieces}
use Rattle.torrent_blocks.proofs.Joined.{joined_end, joined-count, joined-size, joined-start, joined-held, joined_keeps}
use Rattle.torrent_blocks.proofs.Steps.{sum-parts, before-step}

-- ---- the rules

module _ (ns : List ℕ) (pl : ℕ) where
  pub breaks-first : piece_length_of pl ≡ false → keeps (joined_files ns) pl ≡ false
  unfolding lawful
  breaks-first e = rw e

  -- what is known once the rules are kept
  pub record Known (total : ℕ) : Type 0 where
    pub law : keeps (joined_files ns) pl ≡ true
    pub is_sum : total ≡ sum ns
    pub low : 16384 ≤ pl
    pub high : pl ≤ 16777216
    pub most : total ≤ 16384 * pl
    pub count : pieces (joined_files ns) pl ≡ pieces_of total pl

  module _ (total : ℕ) (e : total ≡ min (sum ns) largest) where
    test-is : piece_length_of pl && (file_count (length ns) && total_and total (pieces_of total pl)) ≡ keeps (joined_files ns) pl
    test-is = tests-are pl ns total e ∙ sym (joined_keeps ns pl)

    known : keeps (joined_files ns) pl ≡ true → Known total
    known h =
        let f = lawful-is pl ns (pieces_of (sum ns) pl) (sym (joined_keeps ns pl) ∙ h) in
        let b = piece-bounds pl f.piece in
        let m = few-pieces (sum ns) pl (omega arith) f.most in
        let q : total ≡ sum ns = omega arith in
        let d : end_of (joined_files ns) ≡ total = omega (arith, joined_end 0 ns) in
        record { law = h; is_sum = q; low = b.0; high = b.1; most = omega arith; count = ap (λ (x : ℕ). pieces_of x pl) d }

    -- from the code's test
    pub test-fails : false ≡ piece_length_of pl && (file_count (length ns) && total_and total (pieces_of total pl)) → keeps (joined_files ns) pl ≡ false
    test-fails q = sym test-is ∙ sym q

    pub test-holds : true ≡ piece_length_of pl && (file_count (length ns) && total_and total (pieces_of total pl)) → Known total
    test-holds q = known (sym test-is ∙ sym q)

-- ---- the length of a piece

module _ (ns : List ℕ) (pl p : ℕ) where
  pub size-11 : {r : Result ℕ Refusal} → r ≡ Err (record { number = range; place = 0 }) → keeps (joined_files ns) pl ≡ false → paper r ≡ size_of (joined_files ns) pl p
  unfolding size_of
  size-11 x e = rw (x, e)

  module _ (total : ℕ) (k : Known ns pl total) where
    pub size-31 : {r : Result ℕ Refusal} → r ≡ Err (record { number = beyond; place = 0 }) → pieces_of total pl ≤ p → paper r ≡ size_of (joined_files ns) pl p
    unfolding size_of
    size-31 x h = rw (x, k.law, le-ltb p (pieces (joined_files ns) pl) (rw k.count h))

    pub size-done : (held : ℕ) → held ≡ min pl (total - p * pl) → p < pieces_of total pl → taken held ≡ size_of (joined_files ns) pl p
    unfolding size_of
    size-done held e h =
        let d : held_in (joined_files ns) pl p ≡ held = omega (arith, joined-held ns pl p, k.is_sum) in
        rw (k.law, lt-ltb p (pieces (joined_files ns) pl) (rw k.count h), d)

-- ---- a block

length-flat : (ps : List FilePart) → length (flat ps) ≡ 3 * length ps
unfolding flat
length-flat [] = refl
length-flat (p ∷ ps) = let e = length-flat ps in omega arith

-- what was refused of its piece is refused of a block
pub block-of-piece : (ss : List Span) (pl p o n : ℕ) (out : List ℕ) (r : Refusal) → ◌≡◌ {A = Outcome ℕ} (refusal r) (size_of ss pl p) → ◌≡◌ {A = Left} (left (refusal r) out) (parts_written (block_of ss pl (spot p o) n) out)
unfolding size_of block_of parts_written
block-of-piece ss pl p o n out r = by (keeps ss pl) (ltb p (pieces ss pl))
  where
    by : (a b : Bool) → ◌≡◌ {A = Outcome ℕ} (refusal r) (cond a (cond b (taken (held_in ss pl p)) (refused beyond 0)) (refused range 0))
        → left (refusal r) out ≡ parts_written (cond a (cond b (cond (lies (held_in ss pl p) o n) (taken (parts_of ss (p * pl + o) n)) (refused outside 0)) (refused beyond 0)) (refused range 0)) out
    by true true e = not_taken e
    by true false e = rw e
    by false b e = rw e

-- and where the piece is taken, the rules hold
pub piece-taken : (ss : List Span) (pl p held : ℕ) → taken held ≡ size_of ss pl p → (keeps ss pl ≡ true) × (ltb p (pieces ss pl) ≡ true) × (held_in ss pl p ≡ held)
unfolding size_of
piece-taken ss pl p held = by (keeps ss pl) (ltb p (pieces ss pl))
  where
    by : (a b : Bool) → taken held ≡ cond a (cond b (taken (held_in ss pl p)) (refused beyond 0)) (refused range 0) → (a ≡ true) × (b ≡ true) × (held_in ss pl p ≡ held)
    by true true e = (refl, refl, cc)
    by true false e = not_taken (sym e)
    by false b e = not_taken (sym e)

module _ (ns : List ℕ) (pl p held : ℕ) (k : taken held ≡ size_of (joined_files ns) pl p) where
  pub piece-high : pl ≤ 16777216
  piece-high =
      let f = lawful-is pl (lengths (joined_files ns)) (pieces (joined_files ns) pl) (piece-taken (joined_files ns) pl p held k).0 in
      (piece-bounds pl f.piece).1

  module _ (o n : ℕ) (out : List ℕ) where
    pub block-34 : {r : Result ℕ Refusal} → r ≡ Err (record { number = outside; place = 0 }) → lies held o n ≡ false → left (paper r) out ≡ parts_written (block_of (joined_files ns) pl (spot p o) n) out
    unfolding block_of parts_written
    block-34 x f = let t = piece-taken (joined_files ns) pl p held k in rw (x, t.0, t.1, t.2, f)

    module _ (f : lies held o n ≡ true) (from to m : ℕ) (ps : List FilePart) (q : from ≡ p * pl + o) (s : to ≡ from + n) (g : ps ≡ parts_from 0 (joined_files ns) from to) (c : m ≡ length ps) where
      block-taken : block_of (joined_files ns) pl (spot p o) n ≡ taken ps
      unfolding block_of
      block-taken = let t = piece-taken (joined_files ns) pl p held k in rw (t.0, t.1, t.2, f, ← q, ← s, ← g)

      pub block-37 : {r : Result ℕ Refusal} → r ≡ Err (record { number = room; place = 0 }) → length out / 3 < m → left (paper r) out ≡ parts_written (block_of (joined_files ns) pl (spot p o) n) out
      unfolding parts_written
      block-37 x l = rw (x, block-taken, ← c, lt-leb (3 * m) (length out) (omega arith))

      pub block-done : {out' : List ℕ} → m ≤ length out / 3 → out' ≡ sets out 0 (flat ps) → left (taken m) out' ≡ parts_written (block_of (joined_files ns) pl (spot p o) n) out
      unfolding parts_written
      block-done l u =
          let w : length (flat ps) ≡ 3 * m = rw c (length-flat ps) in
          let v : 0 + length (flat ps) ≡ 3 * m = omega arith in
          rw (u, block-taken, ← c, le-leb (3 * m) (length out) (omega arith), sets-eq (flat ps) out 0 (omega arith))
          (ap (λ (x : ℕ). left (taken m) (flat ps ++ drop x out)) v)

-- ---- a file's byte

module _ (ns : List ℕ) (pl f o : ℕ) where
  pub byte-11 : {r : Result Spot Refusal} → r ≡ Err (record { number = range; place = 0 }) → keeps (joined_files ns) pl ≡ false → place_paper r ≡ byte_of (joined_files ns) pl f o
  unfolding byte_of
  byte-11 x e = rw (x, e)

  module _ (total : ℕ) (k : Known ns pl total) where
    pub byte-31 : {r : Result Spot Refusal} → r ≡ Err (record { number = beyond; place = 0 }) → length ns ≤ f → place_paper r ≡ byte_of (joined_files ns) pl f o
    unfolding byte_of
    byte-31 x h = rw (x, k.law, joined-count 0 ns, le-ltb f (length ns) h)

    module _ (h : f < length ns) where
      pub byte-34 : {r : Result Spot Refusal} → r ≡ Err (record { number = outside; place = 0 }) → get_or ns f 0 ≤ o → place_paper r ≡ byte_of (joined_files ns) pl f o
      unfolding byte_of
      byte-34 x l = rw (x, k.law, joined-count 0 ns, lt-ltb f (length ns) h, joined-size 0 f ns, le-ltb o (get_or ns f 0) l)

      module _ (l : o < get_or ns f 0) (a : ℕ) (e : a ≡ min (sum (take f ns)) largest) where
        start_is : (get_or (joined_files ns) f nowhere).start ≡ a
        start_is = omega (arith, joined-start 0 f ns h, sum-parts ns f, k.is_sum, k.most, k.high)

        pub place_inside : a + o < total
        place_inside = omega (arith, before-step ns f h, sum-parts ns (f + 1), k.is_sum)

        pub place-number : (x : ℕ) → x ≡ a + o → x / pl < 16384
        place-number x q = (div-lt_iff_lt-mul {k = pl} {x = x} {y = 16384} (omega (arith, k.low))).1 (omega (arith, place_inside, k.most))

        pub byte-done : (x : ℕ) (s : Spot) → x ≡ a + o → s.piece.0 ≡ x / pl → s.offset.0 ≡ x % pl → taken (spot s.piece.0 s.offset.0) ≡ byte_of (joined_files ns) pl f o
        unfolding byte_of
        byte-done x s u v w =
            rw (k.law, joined-count 0 ns, lt-ltb f (length ns) h, joined-size 0 f ns, lt-ltb o (get_or ns f 0) l, start_is, ← u, v, w)
