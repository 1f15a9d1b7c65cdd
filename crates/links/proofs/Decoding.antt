-- Values and hashes stored byte by byte. Assumes nothing.
use Rattle.std.specs.Prelude.{None, Some}
use mathlib.Core.Path.{◌≡◌, refl, sym, ap, ◌∙◌, subst}
use mathlib.Core.List.{List, ◌++◌, append-nil}
use Prim.Native.Nat.{ℕ, ◌+◌, ◌*◌, ◌<◌, ◌≤◌}
use native.Mathlib.Omega.{arith}
use native.Mathlib.Nat.{zero-add}
use borrow.Author.Tests.{eqb-true, eq-eqb, ltb-true}
use lib.Dec.{eqb}
use lib.ListN.{length, get_or, drop, set, drop_of_length-le}
use lib.Seq.{sets, length-sets}
use Rattle.refusal.proofs.Cases.{cannot}
use Rattle.bencode_writer.proofs.Puts.{put_front}
use Rattle.bencode_writer.proofs.Stores.{Storing, storing-start, storing-more, storing-end}
use Rattle.torrent_lines.proofs.Running.{one_more as from_place}
use Rattle.links.specs.Link.{Said, absent, said}
use Rattle.links.specs.Reading.{nibble}
use Rattle.links.specs.Places.{SpeltAt, HashAt, Holds, unheld, held}
use Rattle.links.specs.declared.scan.Spelt.{Spelt}
use Rattle.links.proofs.Spelling.{Front, itself, escaped, front, hash-digits}

-- ---- what the pass holds of a value

-- where its bytes stand
pub record Bytes (R : ℕ → List ℕ → Type 0) (p k : ℕ) (v : Said) : Type 0 where
  pub bytes : List ℕ
  pub told : v ≡ said bytes
  pub there : R p bytes
  pub count : k ≡ length bytes

module _ {R : ℕ → List ℕ → Type 0} where
  pub held_none : {v : Said} → Holds R None v → v ≡ absent
  held_none unheld = refl

  pub held_bytes : {x : Spelt} {v : Said} → Holds R (Some x) v → Bytes R x.from x.size v
  held_bytes (held p k bs r e) = record { bytes = bs; told = refl; there = r; count = e }

-- ---- a value

-- whatever bytes of that number are spelt at p, the first i of them are stored, and the others are spelt at q
pub record Decoding (s : List ℕ) (p k : ℕ) (o : List ℕ) (q i : ℕ) (out : List ℕ) : Type 0 where
  pub each : (bs : List ℕ) → SpeltAt s p bs → k ≡ length bs → SpeltAt s q (drop i bs) × Storing bs 0 o out i

-- such bytes, with room for them
abbrev pub Spelling : List ℕ → ℕ → ℕ → List ℕ → Type 0
Spelling s p k o = (bs : List ℕ) × SpeltAt s p bs × (k ≡ length bs) × (k ≤ length o)

module _ (s : List ℕ) (p k : ℕ) (o : List ℕ) (y : Spelling s p k o) where
  pub decoding-start : Decoding s p k o p 0 o
  decoding-start = record { each = λ bs x e. (x, storing-start bs 0 o (omega (arith, e, y.3))) }

  module _ {q i : ℕ} {out : List ℕ} (d : Decoding s p k o q i out) where
    decoding-front : (bs : List ℕ) → SpeltAt s p bs → k ≡ length bs → i < k → Front s q (get_or bs i 0) (drop (i + 1) bs)
    decoding-front bs x e h = front s q (get_or bs i 0) (drop (i + 1) bs) (subst (SpeltAt s q) (from_place bs i (omega (arith, e))) (d.each bs x e).0)

    decoding-room : i < k → i < length out
    decoding-room h = omega (arith, (d.each y.0 y.1 y.2).1.room, y.2)

    -- what is stored next, where it is spelt at q
    next : (r b : ℕ) → ((bs : List ℕ) → SpeltAt s p bs → k ≡ length bs → (get_or bs i 0 ≡ b) × SpeltAt s r (drop (i + 1) bs)) → i < k → Decoding s p k o r (i + 1) (set out i b)
    next r b f h = record {
      each = λ bs x e.
          let g = f bs x e in
          let st = storing-more bs 0 o (d.each bs x e).1 (omega (arith, e)) in
          let z : set out (0 + i) (get_or bs i 0) ≡ set out i b = ap (λ (j : ℕ). set out j (get_or bs i 0)) (zero-add i) ∙ ap (set out i) g.0 in
          (g.1, subst (λ (l : List ℕ). Storing bs 0 o l (i + 1)) z st);
    }

    pub decoding-here : i < k → (q < length s) × (i < length out)
    decoding-here h = (go (decoding-front y.0 y.1 y.2 h), decoding-room h)
      where
        go : Front s q (get_or y.0 i 0) (drop (i + 1) y.0) → q < length s
        go (itself l f g r) = l
        go (escaped l f a b g r) = omega arith

    module _ (h : i < k) (e : get_or s q 0 ≡ 37) where
      pub decoding-digits : (q + 1 + 1 < length s) × (nibble (get_or s (q + 1) 0) < 16) × (nibble (get_or s (q + 1 + 1) 0) < 16)
      decoding-digits = go (decoding-front y.0 y.1 y.2 h)
        where
          go : Front s q (get_or y.0 i 0) (drop (i + 1) y.0) → (q + 1 + 1 < length s) × (nibble (get_or s (q + 1) 0) < 16) × (nibble (get_or s (q + 1 + 1) 0) < 16)
          go (itself l f g r) = cannot (eqb (get_or s q 0) 37) f (eq-eqb (get_or s q 0) 37 e)
          go (escaped l f a b g r) = let z : q + 2 ≡ q + 1 + 1 = omega arith in (omega arith, ltb-true _ 16 a, subst (λ (j : ℕ). nibble (get_or s j 0) < 16) z (ltb-true _ 16 b))

      pub decoding-escape : (b : ℕ) → b ≡ 16 * nibble (get_or s (q + 1) 0) + nibble (get_or s (q + 1 + 1) 0) → Decoding s p k o (q + 3) (i + 1) (set out i b)
      decoding-escape b f = next (q + 3) b (λ bs x z. go bs (decoding-front bs x z h)) h
        where
          go : (bs : List ℕ) → Front s q (get_or bs i 0) (drop (i + 1) bs) → (get_or bs i 0 ≡ b) × SpeltAt s (q + 3) (drop (i + 1) bs)
          go bs (itself l j g r) = cannot (eqb (get_or s q 0) 37) j (eq-eqb (get_or s q 0) 37 e)
          go bs (escaped l j a c g r) =
              let z : q + 2 ≡ q + 1 + 1 = omega arith in
              (sym g ∙ ap (λ (j : ℕ). 16 * nibble (get_or s (q + 1) 0) + nibble (get_or s j 0)) z ∙ sym f, r)

    pub decoding-plain : i < k → (get_or s q 0 ≡ 37 → ⊥) → Decoding s p k o (q + 1) (i + 1) (set out i (get_or s q 0))
    decoding-plain h e = next (q + 1) (get_or s q 0) (λ bs x z. go bs (decoding-front bs x z h)) h
      where
        go : (bs : List ℕ) → Front s q (get_or bs i 0) (drop (i + 1) bs) → (get_or bs i 0 ≡ get_or s q 0) × SpeltAt s (q + 1) (drop (i + 1) bs)
        go bs (itself l j g r) = (sym g, r)
        go bs (escaped l j a c g r) = absurd (e (eqb-true (get_or s q 0) 37 j))

    pub decoding-end : k ≤ i → (bs : List ℕ) → SpeltAt s p bs → k ≡ length bs → out ≡ sets o 0 bs
    decoding-end h bs x e = storing-end bs 0 o (d.each bs x e).1 (omega (arith, e))

    pub decoding-length : k ≤ i → length out ≡ length o
    decoding-length h = ap length (decoding-end h y.0 y.1 y.2) ∙ length-sets o 0 y.0

-- ---- a hash

-- all of it is put anew
sets-all : (o bs : List ℕ) → length bs ≡ length o → sets o 0 bs ≡ bs
sets-all o bs e = put_front bs o (omega arith) ∙ ap (λ (l : List ℕ). bs ++ l) (drop_of_length-le o {i = length bs} (omega arith)) ∙ append-nil bs

-- the first i bytes of any hash that stands at p are stored
pub record Hashing (s : List ℕ) (p : ℕ) (o : List ℕ) (i : ℕ) (out : List ℕ) : Type 0 where
  pub most : i ≤ 20
  pub whole : length o ≡ 20
  pub each : (bs : List ℕ) → HashAt s p bs → Storing bs 0 o out i

pub hashing-digits : (s : List ℕ) (p : ℕ) (bs : List ℕ) → HashAt s p bs → (i : ℕ) → i < 20
    → (p + 2 * i + 1 < length s) × (nibble (get_or s (p + 2 * i) 0) < 16) × (nibble (get_or s (p + 2 * i + 1) 0) < 16)
hashing-digits s p bs x i h = let d = hash-digits s p bs x i (omega (arith, x.whole)) in (d.end, ltb-true _ 16 d.high, ltb-true _ 16 d.low)

module _ (s : List ℕ) (p : ℕ) (o : List ℕ) where
  pub hashing-start : length o ≡ 20 → Hashing s p o 0 o
  hashing-start h = record { most = omega arith; whole = h; each = λ bs x. storing-start bs 0 o (omega (arith, x.whole)) }

  module _ {i : ℕ} {out : List ℕ} (g : Hashing s p o i out) where
    pub hashing-more : (b : ℕ) → i < 20 → b ≡ 16 * nibble (get_or s (p + 2 * i) 0) + nibble (get_or s (p + 2 * i + 1) 0) → Hashing s p o (i + 1) (set out i b)
    hashing-more b h e = record {
      most = omega arith;
      whole = g.whole;
      each = λ bs x.
          let d = hash-digits s p bs x i (omega (arith, x.whole)) in
          let z : set out (0 + i) (get_or bs i 0) ≡ set out i b = ap (λ (j : ℕ). set out j (get_or bs i 0)) (zero-add i) ∙ ap (set out i) (sym d.byte ∙ sym e) in
          subst (λ (l : List ℕ). Storing bs 0 o l (i + 1)) z (storing-more bs 0 o (g.each bs x) (omega (arith, x.whole)));
    }

    pub hashing-end : 20 ≤ i → (bs : List ℕ) → HashAt s p bs → out ≡ bs
    hashing-end h bs x = storing-end bs 0 o (g.each bs x) (omega (arith, x.whole)) ∙ sets-all o bs (x.whole ∙ sym g.whole)
