-- The checks of a torrent's sizes. Assumes nothing.
use mathlib.Core.Path.{◌≡◌, refl, sym, ap, ◌∙◌, subst}
use mathlib.Core.Bool.{Bool, true, false, cond, ◌&&◌}
use mathlib.Core.Logic.{◌⊎◌, inl, inr, ⊎_elim}
use mathlib.Core.List.{List}
use Prim.Native.Nat.{ℕ, ◌*◌, ◌<◌, ◌≤◌}
use native.Mathlib.Omega.{arith}
use lib.Dec.{leb, eqb}
use lib.ListN.{length}
use borrow.Author.Tests.{eqb-true, eq-eqb, leb-true, leb-false, le-leb}
use Rattle.refusal.specs.Paper.{taken, refused}
use Rattle.refusal.specs.Limits.{most_files, most_pieces}
use Rattle.refusal.specs.declared.Part.{Part}
use Rattle.refusal.proofs.Cases.{lt-or-le, both}
use Rattle.torrent_blocks.specs.Rules.{file_count, pieces_of, total_and, sum, PieceLength}
use Rattle.torrent_blocks.proofs.Legal.{piece-bounds, starts-inside, is-piece}
use Rattle.torrent_metainfo.specs.Rules.{sized_of}
use Rattle.torrent_metainfo.specs.declared.Content.{Content}
use Rattle.torrent_metainfo.specs.declared.Torrent.{Torrent}
use Rattle.torrent_laws.specs.Torrent.{RoundedUp, GoodSizes}
use Rattle.torrent_laws.specs.Causes.{BadSizes, file-count, no_bytes, many-pieces, wrong-pieces}
use Rattle.torrent_laws.proofs.Names.{no_way}
use Rattle.bencode_fields.proofs.Checks.{Checks, checks-refused, checks-taken}

-- ---- rounding up

pub rounded : (t m : ℕ) → 0 < m → RoundedUp t m (pieces_of t m)
rounded t m h = record {
  enough = ⊎_elim (λ (l : pieces_of t m * m < t). absurd (let i = is-piece t m h (pieces_of t m) l in omega arith)) (λ (l : t ≤ pieces_of t m * m). omega arith) (lt-or-le (pieces_of t m * m) t);
  least = λ k e. ⊎_elim (λ (l : k < pieces_of t m). absurd (let i = starts-inside t m h k l in omega arith)) (λ (l : pieces_of t m ≤ k). omega arith) (lt-or-le k (pieces_of t m));
}

pub rounded-one : (t m j k : ℕ) → RoundedUp t m j → RoundedUp t m k → j ≡ k
rounded-one t m j k a b = let x = a.least k b.enough in let y = b.least j a.enough in omega arith

-- ---- how many

count-is : (m : ℕ) → file_count m ≡ true → (1 ≤ m) × (m ≤ most_files)
count-is m e = let b = both (leb 1 m) (leb m most_files) e in (leb-true 1 m b.0, leb-true m most_files b.1)

count-not : (m : ℕ) → file_count m ≡ false → 1 ≤ m → m ≤ most_files → ⊥
count-not m e l h = let a = le-leb 1 m l in let b = le-leb m most_files h in let c : file_count m ≡ true = rw (a, b) in no_way (cc)

total-is : (t k : ℕ) → total_and t k ≡ true → (1 ≤ t) × (k ≤ most_pieces)
total-is t k e = let b = both (leb 1 t) (leb k most_pieces) e in (leb-true 1 t b.0, leb-true k most_pieces b.1)

total-not : (t k : ℕ) → total_and t k ≡ false → (t ≡ 0) ⊎ ((1 ≤ t) × (most_pieces < k))
total-not t k e = go (leb 1 t) refl (leb k most_pieces) refl e
  where
    go : (a : Bool) → leb 1 t ≡ a → (b : Bool) → leb k most_pieces ≡ b → a && b ≡ false → (t ≡ 0) ⊎ ((1 ≤ t) × (most_pieces < k))
    go false f b g h = inl (let i = leb-false 1 t f in omega arith)
    go true f false g h = inr (leb-true 1 t f, leb-false k most_pieces g)
    go true f true g h = no_way (cc)

-- files of the lengths ns, which the content c counts; the hashes hs are the part x, and stand at p
module _ (a i n x : Part) (p pl : ℕ) (c : Content) (ns hs : List ℕ) (fe : c.files ≡ length ns) (te : c.total ≡ sum ns) (le : x.len ≡ length hs) (w : PieceLength pl) where
  abbrev Count : ℕ
  Count = pieces_of c.total pl

  -- the torrent that is handed back
  abbrev Handed : Torrent → ℕ → Type 0
  Handed y k = y ≡ record { announce = a; info = i; name = n; pieces = x; piece_length = pl; piece_count = k; content = c }

  abbrev Bad : ℕ → ℕ → Type 0
  Bad = BadSizes ns pl hs c.place p

  up : RoundedUp (sum ns) pl Count
  up = let b = piece-bounds pl w in subst (λ (t : ℕ). RoundedUp t pl Count) te (rounded c.total pl (omega arith))

  counted : (k : ℕ) → RoundedUp (sum ns) pl k → k ≡ Count
  counted k r = rounded-one (sum ns) pl k Count r up

  -- only the last rule is refused by 12
  by-range : (wrong : (k : ℕ) → 1 ≤ length ns → length ns ≤ most_files → 1 ≤ sum ns → RoundedUp (sum ns) pl k → k ≤ most_pieces → ⊥) → (m q : ℕ) → Bad m q → (m ≡ 11) × (q ≡ c.place)
  by-range wrong m q (file-count h) = (refl, refl)
  by-range wrong m q (no_bytes h j k) = (refl, refl)
  by-range wrong m q (many-pieces k h j l r g) = (refl, refl)
  by-range wrong m q (wrong-pieces k h j l r g z) = absurd (wrong k h j l r g)

  by-pieces : 1 ≤ length ns → length ns ≤ most_files → 1 ≤ sum ns → Count ≤ most_pieces → (m q : ℕ) → Bad m q → (m ≡ 12) × (q ≡ p) × (length hs ≡ 20 * Count → ⊥)
  by-pieces f g h l m q (file-count j) = absurd (j f g)
  by-pieces f g h l m q (no_bytes j k e) = absurd (omega arith)
  by-pieces f g h l m q (many-pieces k j o e r z) = absurd (let b = counted k r in omega arith)
  by-pieces f g h l m q (wrong-pieces k j o e r z d) = (refl, refl, subst (λ (b : ℕ). length hs ≡ 20 * b → ⊥) (counted k r) d)

  pub sized-checks : Checks (sized_of a i n x p pl c) (GoodSizes ns pl hs) Handed Bad
  unfolding sized_of
  sized-checks = go (file_count c.files) refl (total_and c.total Count) refl (eqb x.len (20 * Count)) refl
    where
      go : (f : Bool) → file_count c.files ≡ f → (t : Bool) → total_and c.total Count ≡ t → (e : Bool) → eqb x.len (20 * Count) ≡ e
          → Checks (cond f (cond t (cond e (taken (record { announce = a; info = i; name = n; pieces = x; piece_length = pl; piece_count = Count; content = c })) (refused 12 p)) (refused 11 c.place)) (refused 11 c.place))
          (GoodSizes ns pl hs) Handed Bad
      go false f t g e h =
          let no : 1 ≤ length ns → length ns ≤ most_files → ⊥ = λ l m. count-not c.files f (omega arith) (omega arith) in
          checks-refused (λ k z. no z.some-files z.few-files) (file-count no) (by-range (λ k l m o r q. no l m))
      go true f false g e h =
          let y = count-is c.files f in
          ⊎_elim
          (λ (z : c.total ≡ 0).
          checks-refused (λ k d. absurd (omega (arith, d.some_bytes))) (no_bytes (omega arith) (omega arith) (omega arith)) (by-range (λ k l m o r q. omega arith)))
          (λ (z : (1 ≤ c.total) × (most_pieces < Count)).
          checks-refused (λ k d. let b = counted k d.counted in omega (arith, d.few-pieces)) (many-pieces Count (omega arith) (omega arith) (omega arith) up z.1) (by-range (λ k l m o r q. let b = counted k r in omega arith)))
          (total-not c.total Count g)
      go true f true g false h =
          let y = count-is c.files f in
          let z = total-is c.total Count g in
          let no : length hs ≡ 20 * Count → ⊥ = λ q. no_way (let b = eq-eqb x.len (20 * Count) (le ∙ q) in cc) in
          checks-refused (λ k d. no (d.hashes ∙ ap (λ (b : ℕ). 20 * b) (counted k d.counted)))
          (wrong-pieces Count (omega arith) (omega arith) (omega arith) up z.1 no) (λ m q b. let u = by-pieces (omega arith) (omega arith) (omega arith) z.1 m q b in (u.0, u.1))
      go true f true g true h =
          let y = count-is c.files f in
          let z = total-is c.total Count g in
          let all : length hs ≡ 20 * Count = sym le ∙ eqb-true x.len (20 * Count) h in
          checks-taken Count (record { some-files = omega arith; few-files = omega arith; some_bytes = omega arith; counted = up; few-pieces = z.1; hashes = all }) refl (λ k d. counted k d.counted)
          (λ m q b. (by-pieces (omega arith) (omega arith) (omega arith) z.1 m q b).2 all)
