-- Blocks, bytes and pieces of files: when each number is given, and what is taken. Assumes nothing.
use mathlib.Core.Path.{◌≡◌, refl, sym, ap, ◌∙◌, subst}
use mathlib.Core.Bool.{Bool, true, false, cond}
use mathlib.Core.List.{List, [], ◌∷◌, ◌++◌}
use Prim.Native.Nat.{ℕ, ◌+◌, ◌-◌, ◌*◌, ◌≤◌, ◌<◌, min}
use native.Mathlib.Omega.{arith}
use native.Mathlib.Nat.{mod-lt}
use borrow.Author.Tests.{ltb-true, leb-true, lt-ltb, le-leb}
use lib.Dec.{ltb, leb}
use lib.ListN.{length, get_or, take, drop}
use Rattle.refusal.specs.Paper.{Outcome, taken, refused}
use Rattle.torrent_blocks.specs.Rules.{sum, Lawful, pieces_of, lawful}
use Rattle.torrent_blocks.specs.Spans.{Span, FilePart, joined_files, held_in, parts_of, part, nowhere, end_of}
use Rattle.torrent_blocks.specs.Answers.{Spot, spot, spot_at, pieces, keeps, lies, size_of, block_of, byte_of, flat, parts_written, left as parting, Left as Parting}
use Rattle.torrent_blocks.specs.Covers.{Block, BlockCause, ByteCause, SizeCause}
use Rattle.torrent_blocks.proofs.Legal.{is_lawful, lawful-is, piece-bounds}
use Rattle.torrent_blocks.proofs.Whole.{byte-finds-piece, is-lies, lies-is, passed as all-passed}
use Rattle.torrent_blocks.proofs.Joined.{joined-laid, joined-start, joined-count, joined-size, joined_keeps, joined-held, joined_end}
use mathlib.Core.Logic.{◌↔◌}
use Rattle.refusal.proofs.Cases.{no_way}
use Rattle.torrent_blocks.proofs.Causes as causes
use Rattle.demands_laws.proofs.Refusals.{at_zero}

-- ---- refused

pub block_refused : (files : List Span) (pl p o n : ℕ) (out : List ℕ) (k q : ℕ) → (parts_written (block_of files pl (spot p o) n) out).answer ≡ refused k q ↔ (BlockCause files pl (spot p o) n (length out) k × (q ≡ 0))
block_refused files pl p o n out k q = at_zero (causes.block-refused-only files pl p o n out k q) (λ h. ap (λ (l : Parting). l.answer) (causes.block-refused-every files pl p o n out k h))

pub byte-refused : (files : List Span) (pl f o k q : ℕ) → byte_of files pl f o ≡ refused k q ↔ (ByteCause files pl f o k × (q ≡ 0))
byte-refused files pl f o k q = at_zero (causes.byte-refused-only files pl f o k q) (causes.byte-refused-every files pl f o k)

pub size-refused : (files : List Span) (pl p k q : ℕ) → size_of files pl p ≡ refused k q ↔ (SizeCause files pl p k × (q ≡ 0))
size-refused files pl p k q = at_zero (causes.size-refused-only files pl p k q) (causes.size-refused-every files pl p k)

-- ---- taken, of files one after the other

module _ (ns : List ℕ) (pl : ℕ) where
  abbrev ss : List Span
  ss = joined_files ns

  count-is : pieces ss pl ≡ pieces_of (sum ns) pl
  count-is = let e : end_of ss ≡ sum ns = omega (arith, joined_end 0 ns) in ap (λ (k : ℕ). pieces_of k pl) e

  keeps-is : keeps ss pl ≡ lawful pl ns (pieces_of (sum ns) pl)
  keeps-is = joined_keeps ns pl

  module _ (p q n : ℕ) (o : List ℕ) where
    parts-go : (b : Outcome (List FilePart)) (a : Outcome ℕ) (out : List ℕ) → parting a out ≡ parts_written b o → (k : ℕ) → a ≡ taken k
        → (ps : List FilePart) × (b ≡ taken ps) × (k ≡ length ps) × (out ≡ flat ps ++ drop (3 * k) o) × (3 * length ps ≤ length o)
    unfolding parts_written
    parts-go (refused x y) a out c k t = let d : refused x y ≡ taken k = sym (ap (λ (l : Parting). l.answer) c) ∙ t in no_way (cc)
    parts-go (taken ps) a out c k t = by (leb (3 * length ps) (length o)) refl c
      where
        by : (b : Bool) → leb (3 * length ps) (length o) ≡ b → parting a out ≡ cond b (parting (taken (length ps)) (flat ps ++ drop (3 * length ps) o)) (parting (refused 37 0) o)
            → (qs : List FilePart) × (taken ps ≡ taken qs) × (k ≡ length qs) × (out ≡ flat qs ++ drop (3 * k) o) × (3 * length qs ≤ length o)
        by true h d =
            let f : taken k ≡ taken (length ps) = sym t ∙ ap (λ (l : Parting). l.answer) d in
            let g : k ≡ length ps = cc in
            (ps, refl, g, ap (λ (l : Parting). l.out) d ∙ ap (λ (i : ℕ). flat ps ++ drop (3 * i) o) (sym g), leb-true (3 * length ps) (length o) h)
        by false h d = let f : refused 37 0 ≡ taken k = sym (ap (λ (l : Parting). l.answer) d) ∙ t in no_way (cc)

    pub block-parts : (a : Outcome ℕ) (out : List ℕ) → parting a out ≡ parts_written (block_of ss pl (spot p q) n) o → (k : ℕ) → a ≡ taken k
        → (ps : List FilePart) × (block_of ss pl (spot p q) n ≡ taken ps) × (k ≡ length ps) × (out ≡ flat ps ++ drop (3 * k) o) × (3 * length ps ≤ length o)
    block-parts = parts-go (block_of ss pl (spot p q) n)

    abbrev Taken : Type 0
    Taken = Lawful pl ns (pieces_of (sum ns) pl) × (p < pieces_of (sum ns) pl) × (1 ≤ n) × (n ≤ 16384) × (q + n ≤ min pl (sum ns - p * pl)) × (3 * length (parts_of ss (p * pl + q) n) ≤ length o)

    block-taken : (a : Outcome ℕ) (out : List ℕ) → parting a out ≡ parts_written (block_of ss pl (spot p q) n) o → (k : ℕ) → a ≡ taken k → Taken
    unfolding block_of
    block-taken a out c k t =
        let b = block-parts a out c k t in
        let h = all-passed (keeps ss pl) (ltb p (pieces ss pl)) (lies (held_in ss pl p) q n) (parts_of ss (p * pl + q) n) b.0 b.1 in
        let l = lies-is (held_in ss pl p) q n h.2 in
        let j = ltb-true p (pieces ss pl) h.1 in (
          lawful-is pl ns (pieces_of (sum ns) pl) (sym keeps-is ∙ h.0),
          omega (arith, j, count-is),
          l.some,
          l.most,
          omega (arith, l.ends, joined-held ns pl p),
          subst (λ (x : List FilePart). 3 * length x ≤ length o) (sym h.3) b.4,
        )

    block-takes : Taken → (k : ℕ) × ((parts_written (block_of ss pl (spot p q) n) o).answer ≡ taken k)
    unfolding block_of parts_written
    block-takes (f, h, a, b, e, g) =
        let i : p < pieces ss pl = omega (arith, h, count-is) in
        let l : Block (held_in ss pl p) q n = record { some = a; most = b; ends = omega (arith, e, joined-held ns pl p) } in
        (length (parts_of ss (p * pl + q) n), rw (keeps-is ∙ is_lawful pl ns (pieces_of (sum ns) pl) f, lt-ltb p (pieces ss pl) i, is-lies (held_in ss pl p) q n l, le-leb (3 * length (parts_of ss (p * pl + q) n)) (length o) g))

    pub block-exact : (a : Outcome ℕ) (out : List ℕ) → parting a out ≡ parts_written (block_of ss pl (spot p q) n) o → ((k : ℕ) × (a ≡ taken k)) ↔ Taken
    block-exact a out c = (λ (k, t). block-taken a out c k t, λ h. let e = block-takes h in (e.0, ap (λ (x : Parting). x.answer) c ∙ e.1))

  module _ (p k : ℕ) where
    abbrev Holds : Type 0
    Holds = Lawful pl ns (pieces_of (sum ns) pl) × (p < pieces_of (sum ns) pl) × (k ≡ min pl (sum ns - p * pl))

    pub size-taken : size_of ss pl p ≡ taken k → Holds
    unfolding size_of
    size-taken e = by (keeps ss pl) (ltb p (pieces ss pl)) refl refl e
      where
        by : (a b : Bool) → keeps ss pl ≡ a → ltb p (pieces ss pl) ≡ b → cond a (cond b (taken (held_in ss pl p)) (refused 31 0)) (refused 11 0) ≡ taken k → Holds
        by true true f g e =
            let z : held_in ss pl p ≡ k = cc in
            let j = ltb-true p (pieces ss pl) g in
            (lawful-is pl ns (pieces_of (sum ns) pl) (sym keeps-is ∙ f), omega (arith, j, count-is), sym z ∙ joined-held ns pl p)
        by true false f g e = no_way (cc)
        by false b f g e = no_way (cc)

    pub size-takes : Holds → size_of ss pl p ≡ taken k
    unfolding size_of
    size-takes (f, h, e) =
        let i : p < pieces ss pl = omega (arith, h, count-is) in
        let z : held_in ss pl p ≡ k = joined-held ns pl p ∙ sym e in
        rw (keeps-is ∙ is_lawful pl ns (pieces_of (sum ns) pl) f, lt-ltb p (pieces ss pl) i) (ap taken z)

  module _ (f o : ℕ) where
    abbrev There : Type 0
    There = Lawful pl ns (pieces_of (sum ns) pl) × (f < length ns) × (o < get_or ns f 0)

    pub byte-taken : (x : Spot) → byte_of ss pl f o ≡ taken x → There
    unfolding byte_of
    byte-taken x e =
        let h = all-passed (keeps ss pl) (ltb f (length ss)) (ltb o (get_or ss f nowhere).size) (spot_at pl ((get_or ss f nowhere).start + o)) x e in
        let a = ltb-true f (length ss) h.1 in
        let b = ltb-true o (get_or ss f nowhere).size h.2 in
        (lawful-is pl ns (pieces_of (sum ns) pl) (sym keeps-is ∙ h.0), omega (arith, a, joined-count 0 ns), omega (arith, b, joined-size 0 f ns))

    pub byte-takes : There → (x : Spot) × (byte_of ss pl f o ≡ taken x)
    unfolding byte_of
    byte-takes (h, a, b) =
        let i : f < length ss = omega (arith, a, joined-count 0 ns) in
        let j : o < (get_or ss f nowhere).size = omega (arith, b, joined-size 0 f ns) in
        (spot_at pl ((get_or ss f nowhere).start + o), rw (keeps-is ∙ is_lawful pl ns (pieces_of (sum ns) pl) h, lt-ltb f (length ss) i, lt-ltb o (get_or ss f nowhere).size j))

    pub byte-found : (x : Spot) → byte_of ss pl f o ≡ taken x
        → (x.piece * pl + x.offset ≡ sum (take f ns) + o) × (x.offset < pl) × (block_of ss pl x 1 ≡ taken (part f o 1 ∷ []))
    unfolding byte_of
    byte-found x e =
        let b = byte-finds-piece ss pl (joined-laid ns pl) f o x e in
        let h = byte-taken x e in
        let y = (all-passed (keeps ss pl) (ltb f (length ss)) (ltb o (get_or ss f nowhere).size) (spot_at pl ((get_or ss f nowhere).start + o)) x e).3 in
        let k = piece-bounds pl h.0.piece in (
          b.0 ∙ omega (arith, joined-start 0 f ns h.1),
          subst (λ (z : Spot). z.offset < pl) y (mod-lt ((get_or ss f nowhere).start + o) {m = pl} (omega (arith, k))),
          b.1,
        )
