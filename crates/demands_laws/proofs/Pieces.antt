-- The hashes of a torrent's pieces, and the check of a piece. Assumes nothing.
use mathlib.Core.Path.{◌≡◌, refl, sym, ap, ◌∙◌}
use mathlib.Core.Bool.{Bool, true, false, cond}
use mathlib.Core.List.{List}
use Prim.Native.Nat.{ℕ, ◌+◌, ◌-◌, ◌*◌, ◌≤◌, ◌<◌, min}
use native.Mathlib.Omega.{arith}
use borrow.Author.Tests.{ltb-true, eqb-true, lt-ltb, le-ltb}
use lib.Dec.{ltb, leb, eqb}
use lib.ListN.{length, take, drop, length-drop, take-append-drop}
use lib.Seq.{take-append-le, drop-append-le, drop-drop}
use Rattle.refusal.specs.Paper.{Outcome, taken, refused, then}
use Rattle.refusal.specs.Parts.{bytes_at}
use Rattle.refusal.specs.declared.Part.{Part}
use Rattle.bencode.specs.Value.{Value}
use Rattle.hash_sha1.specs.Sha1.{sha1}
use Rattle.hash_sha1.specs.Digest.{same}
use Rattle.torrent_blocks.specs.Rules.{sum}
use Rattle.torrent_metainfo.specs.Reading.{read_of}
use Rattle.torrent_metainfo.specs.declared.Torrent.{Torrent}
use Rattle.torrent_laws.specs.Torrent.{TorrentSays, IsTorrent, is-torrent, lengths_in}
use Rattle.torrent_laws.specs.Exact.{ShowsTorrent}
use Rattle.torrent_laws.proofs.Laws.{torrent-exact}
use Rattle.torrent_contents.specs.Pieces.{hash_part, piece_bytes_of, check_in, check_of, hash_in, hash_of}
use Rattle.torrent_contents.proofs.Hashing.{piece-check}
use mathlib.Core.Logic.{◌↔◌}
use Rattle.refusal.proofs.Cases.{no_way}
use Rattle.refusal.proofs.Outcomes.{not_taken, then-taken}
use Rattle.demands_laws.specs.Texts.{Encodes, IsPiece, Agrees}
use Rattle.demands_laws.proofs.Texts.{fine, encodes}

-- the n-th 20 bytes of pieces, in the text and in what the torrent says
hash-bytes : (s : List ℕ) (x : Torrent) (t : TorrentSays) (n : ℕ) → bytes_at s x.pieces ≡ t.pieces → length t.pieces ≡ 20 * t.count → n < t.count
    → bytes_at s (hash_part n x.pieces) ≡ take 20 (drop (20 * n) t.pieces)
hash-bytes s x t n e l h =
    let rest = drop x.pieces.from s in
    let len = x.pieces.len in
    let k : length (take len rest) ≡ 20 * t.count = ap length e ∙ l in
    let a : 20 * n ≤ length (take len rest) = omega (arith, k) in
    let b : 20 ≤ length (drop (20 * n) (take len rest)) = omega (arith, k, length-drop (20 * n) (take len rest)) in
    ap (take 20) (sym (drop-drop (20 * n) x.pieces.from s) ∙ ap (drop (20 * n)) (sym (take-append-drop len rest)) ∙ drop-append-le (20 * n) (take len rest) (drop len rest) a)
    ∙ take-append-le 20 (drop (20 * n) (take len rest)) (drop len rest) b
    ∙ ap (λ (y : List ℕ). take 20 (drop (20 * n) y)) e

hashes-of : (v : Value) (t : TorrentSays) → IsTorrent v t → length t.pieces ≡ 20 * t.count
hashes-of v t (is-torrent es u a i h) = h.sized.hashes

module _ (s : List ℕ) (n : ℕ) (m : List ℕ) where
  abbrev held : Torrent → ℕ
  held x = piece_bytes_of x.content.total x.piece_length n

  -- what the checks before the digest leave
  passed : (x : Torrent) (b : Bool) → check_in s n m x ≡ taken b → (n < x.piece_count) × (length m ≡ held x)
  passed x b = go (ltb n x.piece_count) refl (leb (length m) 16777216) (eqb (length m) (held x)) refl
    where
      go : (i : Bool) → ltb n x.piece_count ≡ i → (j k : Bool) → eqb (length m) (held x) ≡ k
          → then (cond i (taken (hash_part n x.pieces)) (refused 31 0)) (λ y. cond j (cond k (taken (same (sha1 m) (bytes_at s y))) (refused 34 0)) (refused 8 0)) ≡ taken b
          → (n < x.piece_count) × (length m ≡ held x)
      go true f true true g e = (ltb-true n x.piece_count f, eqb-true (length m) (held x) g)
      go true f true false g e = no_way (cc)
      go true f false k g e = no_way (cc)
      go false f j k g e = no_way (cc)

  -- between what was read and what is said
  module _ (x : Torrent) (v : Value) (t : TorrentSays) (i : IsTorrent v t) (w : ShowsTorrent s x t) where
    as_long : held x ≡ min t.piece-length (sum (lengths_in t.files) - n * t.piece-length)
    as_long = ap (λ (k : ℕ). piece_bytes_of k x.piece_length n) w.files.total ∙ ap (λ (k : ℕ). piece_bytes_of (sum (lengths_in t.files)) k n) w.piece-length

    as-hashed : n < t.count → bytes_at s (hash_part n x.pieces) ≡ take 20 (drop (20 * n) t.pieces)
    as-hashed h = hash-bytes s x t n w.pieces (hashes-of v t i) h

  tells : (v : Value) (t : TorrentSays) → Encodes s v → IsTorrent v t → IsPiece n m t → (Agrees n m t → check_of s n m ≡ taken true) × ((Agrees n m t → ⊥) → check_of s n m ≡ taken false)
  tells v t f i (h, l) =
      let y = (torrent-exact s).every v t (fine f) i in
      let x = y.0 in
      let k : n < x.piece_count = omega (arith, h, y.2.count) in
      let e = l ∙ sym (as_long x v t i y.2) in
      let g = as-hashed x v t i y.2 h in
      (λ a. (piece-check s n m).every x y.1 k e (a ∙ sym g), λ a. (piece-check s n m).other x y.1 k e (λ d. a (d ∙ g)))

  told : (b : Bool) → check_of s n m ≡ taken b → (v : Value) × (t : TorrentSays) × Encodes s v × IsTorrent v t × IsPiece n m t
  told b e =
      let y = then-taken (read_of s) (check_in s n m) b e in
      let p = passed y.0 b y.2 in
      let h = (torrent-exact s).only y.0 y.1 in
      (h.0, h.1, encodes h.2, h.3, (omega (arith, p.0, h.4.count), p.1 ∙ as_long y.0 h.0 h.1 h.3 h.4))

  agreed : check_of s n m ≡ taken true → (v : Value) × (t : TorrentSays) × Encodes s v × IsTorrent v t × IsPiece n m t × Agrees n m t
  agreed e =
      let h = (piece-check s n m).only e in
      let x = (torrent-exact s).only h.0 h.1 in
      let k : n < x.1.count = omega (arith, h.2, x.4.count) in
      (x.0, x.1, encodes x.2, x.3, (k, h.3 ∙ as_long h.0 x.0 x.1 x.3 x.4), h.4 ∙ as-hashed h.0 x.0 x.1 x.3 x.4 k)

  pub yes-exactly : check_of s n m ≡ taken true ↔ ((v : Value) × (t : TorrentSays) × Encodes s v × IsTorrent v t × IsPiece n m t × Agrees n m t)
  yes-exactly = (agreed, λ (v, t, e, i, p, a). (tells v t e i p).0 a)

  pub no-exactly : check_of s n m ≡ taken false ↔ ((v : Value) × (t : TorrentSays) × Encodes s v × IsTorrent v t × IsPiece n m t × (Agrees n m t → ⊥))
  no-exactly = (
    λ e. let h = told false e in (h.0, h.1, h.2, h.3, h.4, λ a. let q = (tells h.0 h.1 h.2 h.3 h.4).0 a in no_way (cc)),
    λ (v, t, e, i, p, a). (tells v t e i p).1 a,
  )

-- the hash of a piece by its number
pub piece-hashed : (s : List ℕ) (n : ℕ) (v : Value) (t : TorrentSays) → Encodes s v → IsTorrent v t
    → (n < t.count → (x : Part) × (hash_of s n ≡ taken x) × (bytes_at s x ≡ take 20 (drop (20 * n) t.pieces))) × (t.count ≤ n → hash_of s n ≡ refused 31 0)
piece-hashed s n v t f i =
    let y = (torrent-exact s).every v t (fine f) i in
    let x = y.0 in
    let e : hash_of s n ≡ hash_in n x = ap (λ (o : Outcome Torrent). then o (hash_in n)) y.1 in (
      λ h. let k : n < x.piece_count = omega (arith, h, y.2.count) in
          (hash_part n x.pieces, e ∙ ap (λ (b : Bool). cond b (taken (hash_part n x.pieces)) (refused 31 0)) (lt-ltb n x.piece_count k), hash-bytes s x t n y.2.pieces (hashes-of v t i) h),
      λ h. let k : x.piece_count ≤ n = omega (arith, h, y.2.count) in
          e ∙ ap (λ (b : Bool). cond b (taken (hash_part n x.pieces)) (refused 31 0)) (le-ltb n x.piece_count k),
    )

-- and it is a part of pieces
pub hash-placed : (s : List ℕ) (n : ℕ) (y : Torrent) → read_of s ≡ taken y → (x : Part) → hash_of s n ≡ taken x → (x.from ≡ y.pieces.from + 20 * n) × (x.len ≡ 20)
hash-placed s n y r x e =
    let z = go (ltb n y.piece_count) (sym (ap (λ (o : Outcome Torrent). then o (hash_in n)) r) ∙ e) in
    (sym (ap (λ (p : Part). p.from) z), sym (ap (λ (p : Part). p.len) z))
  where
    go : (b : Bool) → cond b (taken (hash_part n y.pieces)) (refused 31 0) ≡ taken x → hash_part n y.pieces ≡ x
    go true f = cc
    go false f = not_taken f
