-- The checks of piece lengths and names. Assumes nothing.
use mathlib.Core.Path.{◌≡◌, refl, sym, subst}
use mathlib.Core.Bool.{Bool, true, false, cond}
use mathlib.Core.List.{List}
use Prim.Native.Nat.{ℕ}
use native.Mathlib.Omega.{arith}
use lib.Dec.{leb}
use lib.IntN.{pos, negsuc}
use borrow.Author.Tests.{leb-false}
use Rattle.refusal.specs.Paper.{taken, refused, then}
use Rattle.refusal.specs.Limits.{longest_piece}
use Rattle.refusal.specs.declared.Part.{Part}
use Rattle.bencode.specs.Value.{Value, str, int, list, dict}
use Rattle.bencode_walk.specs.Stands.{Stands}
use Rattle.bencode_fields.specs.Values.{part_of}
use Rattle.bencode_fields.proofs.Standing.{part_bytes}
use Rattle.torrent_blocks.specs.Rules.{piece_length_of, PieceLength}
use Rattle.torrent_blocks.proofs.Legal.{piece-length-is, is-piece-length, piece-bounds}
use Rattle.torrent_metainfo.specs.Rules.{good_name, name_at, piece_length_at}
use Rattle.torrent_laws.specs.Torrent.{GoodName}
use Rattle.torrent_laws.specs.Causes.{NoName, no_name, bad_name}
use Rattle.bencode_fields.specs.Causes.{NoNumber}
use Rattle.bencode_fields.proofs.Checks.{Checks, Same, checks-refused, checks-as, Fault, fault, checks-if}
use Rattle.bencode_fields.proofs.Typed.{Shown, Number, not-integer, not-range, in-range}
use Rattle.torrent_laws.proofs.Names.{no_way, good-is, is-good}

-- ---- piece lengths

pub piece-checks : (q : ℕ) (v : Value) → Checks (piece_length_at q v) (Number PieceLength v) Same (NoNumber PieceLength q v)
piece-checks q (str bs) = not-integer PieceLength q (str bs) (λ z f. no_way (cc))
piece-checks q (int (pos n)) = go (leb n longest_piece) refl (piece_length_of n) refl
  where
    go : (a : Bool) → leb n longest_piece ≡ a → (b : Bool) → piece_length_of n ≡ b
        → Checks (then (cond a (taken n) (refused 11 q)) (λ m. cond (piece_length_of m) (taken m) (refused 11 q))) (Number PieceLength (int (pos n))) Same (NoNumber PieceLength q (int (pos n)))
    go true f true g = rw g (in-range PieceLength q n (piece-length-is n g))
    go true f false g = rw g (not-range PieceLength q (pos n) (λ m h r. no_way (let i : n ≡ m = cc in let j = is-piece-length m r in cc)))
    go false f b g = not-range PieceLength q (pos n) (λ m h r. let i = leb-false n longest_piece f in let j : n ≡ m = cc in let k = piece-bounds m r in omega arith)
piece-checks q (int (negsuc n)) = not-range PieceLength q (negsuc n) (λ m g h. no_way (cc))
piece-checks q (list vs) = not-integer PieceLength q (list vs) (λ z f. no_way (cc))
piece-checks q (dict es) = not-integer PieceLength q (dict es) (λ z f. no_way (cc))

-- ---- names

-- the value is a good name
abbrev pub Named : Value → List ℕ → Type 0
Named v bs = (v ≡ str bs) × GoodName bs

module _ (s : List ℕ) (e q : ℕ) where
  only-kind : (v : Value) → ((bs : List ℕ) → v ≡ str bs → ⊥) → (n p : ℕ) → NoName q v n p → (n ≡ 10) × (p ≡ q)
  only-kind v h n p (no_name u j) = (refl, refl)
  only-kind v h n p (bad_name bs j) = absurd (h bs refl)

  not-name : (v : Value) → ((bs : List ℕ) → v ≡ str bs → ⊥) → Checks (refused 10 q) (Named v) (Shown s) (NoName q v)
  not-name v h = checks-refused (λ bs i. h bs i.0) (no_name v h) (only-kind v h)

  name_of : (bs cs : List ℕ) → Named (str bs) cs → (u : Unit {0}) × GoodName bs × ((x : Part) → Shown s x bs → Shown s x cs)
  name_of bs cs i = let a : cs ≡ bs = (let b = i.0 in cc) in (tt, subst GoodName a i.1, λ x sh. subst (Shown s x) (sym a) sh)

  name-bad : (bs : List ℕ) (n p : ℕ) → Fault (GoodName bs) 13 q n p → NoName q (str bs) n p
  name-bad bs n p (fault h) = bad_name bs h

  bad-by : (bs : List ℕ) (n p : ℕ) → NoName q (str bs) n p → Fault (GoodName bs) 13 q n p
  bad-by bs n p (no_name v h) = absurd (h bs refl)
  bad-by bs n p (bad_name cs h) = fault h

  pub name-checks : (v : Value) → Stands s e q v → Checks (name_at q v) (Named v) (Shown s) (NoName q v)
  name-checks (str bs) t =
      checks-as (checks-if (λ x. Shown s x bs) (part_of q bs) (good_name bs) (good-is bs) (is-good bs) (part_bytes s e q bs t, refl))
      (λ x u g sh. (bs, (refl, g), sh)) (name_of bs) (name-bad bs) (bad-by bs)
  name-checks (int z) t = not-name (int z) (λ bs f. no_way (cc))
  name-checks (list vs) t = not-name (list vs) (λ bs f. no_way (cc))
  name-checks (dict es) t = not-name (dict es) (λ bs f. no_way (cc))
