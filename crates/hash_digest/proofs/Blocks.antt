-- The fold over blocks, for any function of a block: what a message's parts leave is what the whole leaves. Assumes nothing.
use Rattle.std.proofs.Common.{◌≡◌, ℕ, zero, suc, ◌+◌, ◌-◌, ◌*◌, ◌/◌, ◌%◌, ◌<◌, ◌≤◌, List, [], ◌∷◌, ◌++◌, length, get_or, take, drop, replicate, sym, refl, ap, ◌∙◌, add-zero, add-one, add_comm, mul-zero, mul-suc, arith, length-append, length-drop, take-append-drop, drop_of_length-le, length-take-le, take_all, take-take, drop-drop, take_at, drop_at}
use lib.Seq.{sets, length-sets, take-append-le, drop-append-le, drop-append-add}
use Rattle.refusal.specs.BigEndian.{bytes_of, number_written}
use Rattle.std.specs.Simd.{first_chunks}
use Rattle.hash_digest.specs.Message.{zeros, padding, pad, folded, block_of, hashed, rest, filled}
use Rattle.hash_digest.proofs.Stores.{filled-whole, length-filled, length-padding, ends-in, ends-after, fits-written}

-- ---- the bytes after the whole blocks

pub length_rest : (m : List ℕ) → length (rest m) ≡ length m % 64
length_rest m = simp length-drop (omega arith)

-- they are held in the block that is kept
pub held-rest : (m : List ℕ) → take (length m % 64) (filled 64 (rest m)) ≡ rest m
held-rest m =
    take-take (length m % 64) 64 (rest m ++ replicate 64 0) (omega arith) ∙ take_at (rest m) (replicate 64 0) (length m % 64) (length_rest m)

-- the whole blocks of a message, and of what it leaves with more bytes after it
blocks-append : (m l : List ℕ) → length (m ++ l) / 64 ≡ length m / 64 + length (rest m ++ l) / 64
blocks-append m l = omega (arith, length-append m l, length-append (rest m) l, length_rest m)

drop-rest : (m l : List ℕ) → drop (64 * (length m / 64)) (m ++ l) ≡ rest m ++ l
drop-rest m l = drop-append-le (64 * (length m / 64)) m l (omega arith)

pub rest-append : (m l : List ℕ) → rest (m ++ l) ≡ rest (rest m ++ l)
rest-append m l =
    let q = length m / 64 in
    let k = length (rest m ++ l) / 64 in
    let e : 64 * (length (m ++ l) / 64) ≡ 64 * q + 64 * k = omega (arith, blocks-append m l) in
    ap (λ (i : ℕ). drop i (m ++ l)) e ∙ sym (drop-drop (64 * k) (64 * q) (m ++ l)) ∙ ap (λ (x : List ℕ). drop (64 * k) x) (drop-rest m l)

-- fewer bytes than a block
pub rest-few : (l : List ℕ) → length l < 64 → rest l ≡ l
rest-few l b = let e : length l / 64 ≡ 0 = omega arith in rw e

rest-block : (l : List ℕ) → length l ≡ 64 → rest l ≡ []
rest-block l b = let h : length l ≤ 64 * (length l / 64) = omega arith in drop_of_length-le l h

-- a first block, and what comes after it
pub rest-first : (l : List ℕ) → 64 ≤ length l → rest l ≡ rest (drop 64 l)
rest-first l b =
    ap rest (sym (take-append-drop 64 l)) ∙ rest-append (take 64 l) (drop 64 l) ∙ ap (λ (x : List ℕ). rest (x ++ drop 64 l)) (rest-block (take 64 l) (length-take-le 64 l b))

-- ---- the padded message

-- 5.1.1: the zeros are the fewest that leave room for the length in a whole number of blocks
pub zeros-fewest : (n z : ℕ) → (n + 1 + z) % 64 ≡ 56 → zeros n ≤ z
zeros-fewest n z h = omega arith

pub zeros-right : (n : ℕ) → (n + 1 + zeros n) % 64 ≡ 56
zeros-right n = omega arith

pub pad-whole : (m : List ℕ) → length (pad m) % 64 ≡ 0
pad-whole m = omega (arith, length-append m (padding (length m)), length-padding (length m))

-- ---- the fold

-- the i-th of the first k chunks of n elements
chunk_at : {X : Type 0} (n k i : ℕ) (xs d : List X) → i < k → get_or (first_chunks n k xs) i d ≡ take n (drop (n * i) xs)
chunk_at n zero i xs d b = absurd (omega arith)
chunk_at n (suc k) zero xs d b = simp mul-zero
chunk_at n (suc k) (suc i) xs d b =
    let e : n + n * i ≡ n * suc i = add_comm n (n * i) ∙ sym (mul-suc n i) in
    chunk_at n k i (drop n xs) d (omega arith) ∙ ap (take n) (drop-drop (n * i) n xs) ∙ ap (λ (j : ℕ). take n (drop j xs)) e

module _ {H : Type 0} (compress : H → List ℕ → H) where
  -- blocks after others go on from their hash value
  folded_more : (h : H) (p : List ℕ) (q k : ℕ) → folded compress h p (q + k) ≡ folded compress (folded compress h p q) (drop (64 * q) p) k
  unfolding folded
  folded_more h p q zero = rw add-zero
  folded_more h p q (suc k) =
      let e : q + suc k ≡ suc (q + k) = omega arith in
      let d : 64 * q + 64 * k ≡ 64 * (q + k) = omega arith in
      rw (e, drop-drop (64 * k) (64 * q) p, d, folded_more h p q k)

  -- what stands after whole blocks does not change their hash value
  folded-front : (h : H) (m l : List ℕ) (i : ℕ) → 64 * i ≤ length m → folded compress h (m ++ l) i ≡ folded compress h m i
  unfolding folded
  folded-front h m l zero b = refl
  folded-front h m l (suc i) b =
      let a : folded compress h (m ++ l) i ≡ folded compress h m i = folded-front h m l i (omega arith) in
      let d : drop (64 * i) (m ++ l) ≡ drop (64 * i) m ++ l = drop-append-le (64 * i) m l (omega arith) in
      let t : take 64 (drop (64 * i) m ++ l) ≡ take 64 (drop (64 * i) m) = take-append-le 64 (drop (64 * i) m) l (simp length-drop (omega arith)) in
      rw (a, d, t)

  -- a message with more bytes after it: what it left, with them, goes on from its hash value
  pub hashed-append : (h : H) (m l : List ℕ) → hashed compress h (m ++ l) ≡ hashed compress (hashed compress h m) (rest m ++ l)
  hashed-append h m l =
      let q = length m / 64 in
      let k = length (rest m ++ l) / 64 in
      ap (folded compress h (m ++ l)) (blocks-append m l) ∙ folded_more h (m ++ l) q k
      ∙ ap (λ (x : H). folded compress x (drop (64 * q) (m ++ l)) k) (folded-front h m l q (omega arith))
      ∙ ap (λ (x : List ℕ). folded compress (folded compress h m q) x k) (drop-rest m l)

  -- ---- what the steps of the code leave

  -- one more block of a message
  pub hashed-next : (m : List ℕ) (i : ℕ) (h : H) (d : List ℕ) {g r : H} → i < length m / 64 → g ≡ folded compress h m i → r ≡ compress g (get_or (first_chunks 64 (length m / 64) m) i d)
      → r ≡ folded compress h m (i + 1)
  unfolding folded
  hashed-next m i h d {g} {r} b e q =
      let c : get_or (first_chunks 64 (length m / 64) m) i d ≡ block_of m i = chunk_at 64 (length m / 64) i m d b in
      rw add-one (cc)

  -- fewer bytes than a block
  pub hashed-few : (h : H) (l : List ℕ) → length l < 64 → hashed compress h l ≡ h
  unfolding folded
  hashed-few h l b = let e : length l / 64 ≡ 0 = omega arith in rw e

  pub hashed-one : (h : H) (l : List ℕ) → length l ≡ 64 → hashed compress h l ≡ compress h l
  unfolding folded
  hashed-one h l b = rw (b, take_all 64 l (omega arith))

  -- a first block, and what comes after it
  pub hashed-first : (h : H) (l : List ℕ) → 64 ≤ length l → hashed compress h l ≡ hashed compress (compress h (take 64 l)) (drop 64 l)
  hashed-first h l b =
      let f = take 64 l in
      let g = drop 64 l in
      ap (hashed compress h) (sym (take-append-drop 64 l)) ∙ hashed-append h f g ∙ ap (λ (x : H). hashed compress x (rest f ++ g)) (hashed-one h f (length-take-le 64 l b))
      ∙ ap (λ (x : List ℕ). hashed compress (compress h f) (x ++ g)) (rest-block f (length-take-le 64 l b))

  -- the last two blocks: what is left of a message of n bytes and its padding
  pub last-two : (h : H) (s t : List ℕ) (n : ℕ) {g r : H} → length s ≡ n % 64 → 56 ≤ n % 64 → t ≡ filled 128 (s ++ padding n) → g ≡ compress h (take 64 t)
      → r ≡ compress g (take 64 (drop 64 t)) → r ≡ hashed compress h (s ++ padding n)
  last-two h s t n l b e v q =
      let p : List ℕ = s ++ padding n in
      let k : length p ≡ 128 = omega (arith, length-append s (padding n), length-padding n) in
      let f : t ≡ p = e ∙ filled-whole 128 p (omega arith) ∙ take_all 128 p (omega arith) in
      let d : length (drop 64 p) ≡ 64 = omega (arith, length-drop 64 p) in
      q ∙ ap (λ (x : H). compress x (take 64 (drop 64 t))) v ∙ ap (λ (x : List ℕ). compress (compress h (take 64 x)) (take 64 (drop 64 x))) f
      ∙ ap (compress (compress h (take 64 p))) (take_all 64 (drop 64 p) (omega arith)) ∙ sym (hashed-one (compress h (take 64 p)) (drop 64 p) d)
      ∙ sym (hashed-first h p (omega arith))

  -- a block that holds s, the byte 128 and zeros: the length is written into it, or into zeros for the second
  pub last-in-one : (h : H) (s x y : List ℕ) (n bits : ℕ) {r : H} → length s ≡ n % 64 → n % 64 < 56 → bits ≡ n * 8 → x ≡ filled 64 (s ++ (128 ∷ []))
      → y ≡ number_written 8 x 56 bits → r ≡ compress h y → r ≡ hashed compress h (s ++ padding n)
  last-in-one h s x y n bits l b c e w q =
      let p : List ℕ = s ++ padding n in
      let k : length p ≡ 64 = omega (arith, length-append s (padding n), length-padding n) in
      let m : length x ≡ 64 = ap length e ∙ length-filled 64 (s ++ (128 ∷ [])) in
      let f : y ≡ p =
      w ∙ fits-written x 56 bits (omega arith) ∙ ap (λ (z : List ℕ). sets z 56 (bytes_of 8 bits)) e ∙ ends-in 64 s n 56 bits l b (omega arith) (omega arith) c
      ∙ filled-whole 64 p (omega arith) ∙ take_all 64 p (omega arith) in
      q ∙ ap (compress h) f ∙ sym (hashed-one h p k)

  pub last-in-two : (h : H) (s x y : List ℕ) (n bits : ℕ) {g r : H} → length s ≡ n % 64 → 56 ≤ n % 64 → bits ≡ n * 8 → x ≡ filled 64 (s ++ (128 ∷ []))
      → g ≡ compress h x → y ≡ number_written 8 (replicate 64 0) 56 bits → r ≡ compress g y → r ≡ hashed compress h (s ++ padding n)
  last-in-two h s x y n bits {g} l b c e v w q =
      let o : List ℕ = replicate 64 0 in
      let u : y ≡ sets o 56 (bytes_of 8 bits) = w ∙ fits-written o 56 bits (omega arith) in
      let m : length x ≡ 64 = ap length e ∙ length-filled 64 (s ++ (128 ∷ [])) in
      let k : length y ≡ 64 = ap length u ∙ length-sets o 56 (bytes_of 8 bits) in
      let f : x ++ y ≡ filled 128 (s ++ padding n) = ap (λ (z : List ℕ). z ++ y) e ∙ ap (λ (z : List ℕ). filled 64 (s ++ (128 ∷ [])) ++ z) u ∙ ends-after s n bits l b c in
      let d : take 64 (drop 64 (x ++ y)) ≡ y = ap (take 64) (drop_at x y 64 m) ∙ take_all 64 y (omega arith) in
      last-two h s (x ++ y) n l b f (v ∙ ap (compress h) (sym (take_at x y 64 m))) (q ∙ ap (compress g) (sym d))

  -- a part after the bytes that are held: too few for a block, or a first block and the rest of the part
  pub part-few : (h : H) (s l : List ℕ) (k : ℕ) → length s ≤ k → length l < 64 - k → (hashed compress h (s ++ l) ≡ h) × (rest (s ++ l) ≡ s ++ l)
  part-few h s l k a b =
      let c : length (s ++ l) < 64 = omega (arith, length-append s l) in
      (hashed-few h (s ++ l) c, rest-few (s ++ l) c)

  pub part-first : (h : H) (s l : List ℕ) (k : ℕ) → length s ≡ k → k < 64 → 64 - k ≤ length l
      → (hashed compress h (s ++ l) ≡ hashed compress (compress h (filled 64 (s ++ l))) (drop (64 - k) l)) × (rest (s ++ l) ≡ rest (drop (64 - k) l))
  part-first h s l k a b c =
      let n : 64 ≤ length (s ++ l) = omega (arith, length-append s l) in
      let i : 64 ≡ length s + (64 - k) = omega arith in
      let d : drop 64 (s ++ l) ≡ drop (64 - k) l = ap (λ (j : ℕ). drop j (s ++ l)) i ∙ drop-append-add s l (64 - k) in (
        hashed-first h (s ++ l) n ∙ ap (λ (x : List ℕ). hashed compress (compress h x) (drop 64 (s ++ l))) (sym (filled-whole 64 (s ++ l) n))
            ∙ ap (hashed compress (compress h (filled 64 (s ++ l)))) d,
        rest-first (s ++ l) n ∙ ap rest d,
      )
