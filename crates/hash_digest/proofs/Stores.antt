-- Bytes stored into zeros: the block that is kept between two parts, and the last blocks with their padding. Assumes nothing.
use Rattle.std.proofs.Common.{◌≡◌, ℕ, zero, suc, ◌+◌, ◌-◌, ◌*◌, ◌%◌, ◌<◌, ◌≤◌, min, Bool, cond, List, [], ◌∷◌, ◌++◌, length, take, drop, set, replicate, sym, refl, ap, ◌∙◌, append_assoc, arith, length-append, length-take, take_all, drop-drop, take_at, drop_at, le-leb}
use borrow.Rule.Slice.PartMut.{put_mid}
use lib.ListN.{length-replicate, replicate-append-replicate}
use lib.Seq.{sets, sets-eq, length-sets, set_at, take-append-le}
use Rattle.refusal.specs.BigEndian.{bytes_of, number_written}
use Rattle.refusal.proofs.Bytes.{length-bytes_of}
use Rattle.refusal.proofs.Places.{sets-append, copied}
use Rattle.hash_digest.specs.Message.{zeros, padding, filled}

-- ---- zeros

take-zeros : (r n : ℕ) → r ≤ n → take r (replicate {A = ℕ} n 0) ≡ replicate r 0
take-zeros r n h =
    let e : r + (n - r) ≡ n = omega arith in
    ap (λ (k : ℕ). take r (replicate k 0)) (sym e) ∙ ap (λ (l : List ℕ). take r l) (sym (replicate-append-replicate r (n - r) 0))
    ∙ take_at (replicate r 0) (replicate (n - r) 0) r (length-replicate r 0)

drop-zeros : (r n : ℕ) → r ≤ n → drop r (replicate {A = ℕ} n 0) ≡ replicate (n - r) 0
drop-zeros r n h =
    let e : r + (n - r) ≡ n = omega arith in
    ap (λ (k : ℕ). drop r (replicate k 0)) (sym e) ∙ ap (λ (l : List ℕ). drop r l) (sym (replicate-append-replicate r (n - r) 0))
    ∙ drop_at (replicate r 0) (replicate (n - r) 0) r (length-replicate r 0)

-- ---- the first bytes of one list and another

pub take-append : (n : ℕ) (a b : List ℕ) → take n (a ++ b) ≡ take n a ++ take (n - length a) b
take-append zero a b = let e : 0 - length a ≡ 0 = omega arith in rw e
take-append (suc n) [] b = let e : suc n - 0 ≡ suc n = omega arith in rw e
take-append (suc n) (x ∷ a) b = let e : suc n - suc (length a) ≡ n - length a = omega arith in rw (e, take-append n a b)

take-least : (n : ℕ) (l : List ℕ) → take (min (length l) n) l ≡ take n l
take-least zero l = let e : min (length l) 0 ≡ 0 = omega arith in rw e
take-least (suc n) [] = let e : min 0 (suc n) ≡ 0 = omega arith in rw e
take-least (suc n) (x ∷ l) = let e : min (suc (length l)) (suc n) ≡ suc (min (length l) n) = omega arith in rw (e, take-least n l)

-- ---- `filled`

-- bytes that fit, and zeros after them
pub filled-short : (n : ℕ) (l : List ℕ) → length l ≤ n → filled n l ≡ l ++ replicate (n - length l) 0
filled-short n l h = rw (take-append n l (replicate n 0), take_all n l h, take-zeros (n - length l) n (omega arith))

-- bytes that fill it
pub filled-whole : (n : ℕ) (l : List ℕ) → n ≤ length l → filled n l ≡ take n l
filled-whole n l h = take-append-le n l (replicate n 0) h

pub length-filled : (n : ℕ) (l : List ℕ) → length (filled n l) ≡ n
length-filled n l = simp (length-take, length-append, length-replicate) (omega arith)

-- more room: zeros after it
filled_more : (n k : ℕ) (l : List ℕ) → length l ≤ n → filled n l ++ replicate k 0 ≡ filled (n + k) l
filled_more n k l h =
    let e : (n - length l) + k ≡ n + k - length l = omega arith in
    rw (filled-short n l h, filled-short (n + k) l (omega arith), append_assoc, replicate-append-replicate, e)

-- ---- stores after a first part

sets-later : (c : ℕ) (l : List ℕ) (i : ℕ) (v : List ℕ) → sets (c ∷ l) (suc i) v ≡ c ∷ sets l i v
sets-later c l i [] = refl
sets-later c l i (b ∷ v) = sets-later c (set l i b) (suc i) v

sets-after : (a l : List ℕ) (n i : ℕ) (v : List ℕ) → length a ≡ n → sets (a ++ l) (n + i) v ≡ a ++ sets l i v
sets-after [] l n i v e = let k : n + i ≡ i = omega arith in rw k
sets-after (c ∷ a) l n i v e =
    let k : n + i ≡ suc (length a + i) = omega arith in
    rw k (sets-later c (a ++ l) (length a + i) v ∙ ap (λ (x : List ℕ). c ∷ x) (sets-after a l (length a) i v refl))

-- ---- stores into zeros

stored : (n : ℕ) (l : List ℕ) → length l ≤ n → sets (replicate n 0) 0 l ≡ l ++ replicate (n - length l) 0
stored n l h =
    let e : 0 + length l ≡ length l = omega arith in
    sets-eq l (replicate n 0) 0 (simp length-replicate (omega arith)) ∙ rw (e, drop-zeros (length l) n h)

-- the first n bytes of l into n zeros
stored-filled : (n : ℕ) (l : List ℕ) → sets (replicate n 0) 0 (take n l) ≡ filled n l
stored-filled n l =
    let e : n - min n (length l) ≡ n - length l = omega arith in
    let h : length (take n l) ≤ n = rw length-take (omega arith) in
    stored n (take n l) h ∙ rw (length-take n l, e, take-append n l (replicate n 0), take-zeros (n - length l) n (omega arith))

-- what two runs of stores leave: of a, and after it of b, as many bytes as there is room for
pub gathers : (n : ℕ) (a b x y o o' : List ℕ) {i j : ℕ} → i ≡ min (length a) n → j ≡ min (length b) (n - i) → x ≡ take i a → y ≡ take j b
    → o ≡ sets (replicate n 0) 0 x → o' ≡ sets o i y → o' ≡ filled n (a ++ b)
gathers n a b x y o o' {i} {j} p q s t u v =
    let k : n - i ≡ n - length a = omega arith in
    let l : 0 + length (take i a) ≡ i = omega (arith, length-take i a) in
    let ex : x ≡ take n a = s ∙ ap (λ (m : ℕ). take m a) p ∙ take-least n a in
    let ey : y ≡ take (n - length a) b = t ∙ ap (λ (m : ℕ). take m b) q ∙ take-least (n - i) b ∙ ap (λ (m : ℕ). take m b) k in
    let lx : 0 + length x ≡ i = ap (λ (z : List ℕ). 0 + length z) s ∙ l in
    let e : sets (sets (replicate n 0) 0 x) i y ≡ sets (replicate n 0) 0 (x ++ y) =
    ap (λ (m : ℕ). sets (sets (replicate n 0) 0 x) m y) (sym lx) ∙ sym (sets-append (replicate n 0) 0 x y) in
    let f : x ++ y ≡ take n (a ++ b) = ap (λ (z : List ℕ). z ++ y) ex ∙ ap (λ (z : List ℕ). take n a ++ z) ey ∙ sym (take-append n a b) in
    v ∙ ap (λ (z : List ℕ). sets z i y) u ∙ e ∙ ap (λ (z : List ℕ). sets (replicate n 0) 0 z) f ∙ stored-filled n (a ++ b)

-- the same, as two copies put them
pub gathered-put : (a b : List ℕ) {i j : ℕ} {x y : List ℕ} → i ≡ min (length a) 64 → j ≡ min (length b) (64 - i) → x ≡ take i a → y ≡ take j b
    → put_mid i (i + j - i) (x ++ drop i (replicate 64 0)) y ≡ filled 64 (a ++ b)
gathered-put a b {i} {j} {x} {y} p q s t =
    let o : List ℕ = x ++ drop i (replicate 64 0) in
    let lx : length x ≡ i = omega (arith, ap length s, length-take i a) in
    let ly : length y ≡ j = omega (arith, ap length t, length-take j b) in
    let d : drop i (replicate {A = ℕ} 64 0) ≡ replicate (64 - length x) 0 = rw lx (drop-zeros i 64 (omega arith)) in
    let e : o ≡ sets (replicate 64 0) 0 x = ap (λ (z : List ℕ). x ++ z) d ∙ sym (stored 64 x (omega arith)) in
    let l : length o ≡ 64 = ap length e ∙ length-sets (replicate 64 0) 0 x in
    gathers 64 a b x y o (put_mid i (i + j - i) o y) p q s t e (copied j i o (omega arith) refl ly)

-- ---- the padding

pub length-padding : (n : ℕ) → length (padding n) ≡ 9 + zeros n
unfolding padding
length-padding n = simp (length-append, length-replicate, length-bytes_of) (omega arith)

-- s copied into a block of zeros, and the byte 128 after it
pub marks : (s : List ℕ) (n : ℕ) {x : List ℕ} → length s ≡ n % 64 → x ≡ s ++ drop (length s) (replicate 64 0) → set x (length s) 128 ≡ filled 64 (s ++ (128 ∷ []))
marks s n l e =
    let k : length (s ++ (128 ∷ [])) ≡ length s + 1 = length-append s (128 ∷ []) in
    let a : 64 - length s ≡ suc (64 - (length s + 1)) = omega arith in
    rw (e, drop-zeros (length s) 64 (omega arith), a, set_at s 0 (replicate (64 - (length s + 1)) 0) 128 (length s) refl)
    (sym (filled-short 64 (s ++ (128 ∷ [])) (omega arith) ∙ rw (k, append_assoc)))

-- s and the byte 128, and zeros up to `at` and after it
marked : (room : ℕ) (s : List ℕ) (r at : ℕ) → length s ≡ r → r < at → at ≤ room
    → filled room (s ++ (128 ∷ [])) ≡ (s ++ ((128 ∷ []) ++ replicate (at - 1 - r) 0)) ++ replicate (room - at) 0
marked room s r at e h k =
    let l : length (s ++ (128 ∷ [])) ≡ r + 1 = length-append s (128 ∷ []) ∙ ap (λ (i : ℕ). i + 1) e in
    let a : room - (r + 1) ≡ (at - 1 - r) + (room - at) = omega arith in
    filled-short room (s ++ (128 ∷ [])) (omega arith) ∙ rw (l, a, append_assoc, append_assoc, replicate-append-replicate)

-- the length in the eight bytes from `at` on
ended_at : (room : ℕ) (s b : List ℕ) (r at : ℕ) → length s ≡ r → r < at → at + 8 ≤ room → length b ≡ 8
    → sets (filled room (s ++ (128 ∷ []))) at b ≡ filled room (s ++ ((128 ∷ []) ++ (replicate (at - 1 - r) 0 ++ b)))
ended_at room s b r at e h k l =
    let p : List ℕ = s ++ ((128 ∷ []) ++ replicate (at - 1 - r) 0) in
    let q : List ℕ = p ++ replicate (room - at) 0 in
    let lp : length p ≡ at = simp (length-append, length-replicate) (omega arith) in
    let lq : length q ≡ room = simp (length-append, length-replicate) (omega arith) in
    let lb : at + length b ≡ at + 8 = omega arith in
    let lpb : length (p ++ b) ≡ at + 8 = omega (arith, length-append p b) in
    let u : filled room (s ++ (128 ∷ [])) ≡ q = marked room s r at e h (omega arith) in
    let v : sets q at b ≡ take at q ++ b ++ drop (at + length b) q = sets-eq b q at (omega arith) in
    let w : take at q ≡ p = take_at p (replicate (room - at) 0) at lp in
    let z : room - at - 8 ≡ room - (at + 8) = omega arith in
    let m : drop (at + length b) q ≡ replicate (room - (at + 8)) 0 =
    ap (λ (i : ℕ). drop i q) lb ∙ sym (drop-drop 8 at q) ∙ ap (λ (x : List ℕ). drop 8 x) (drop_at p (replicate (room - at) 0) at lp)
    ∙ drop-zeros 8 (room - at) (omega arith) ∙ ap (λ (i : ℕ). replicate i 0) z in
    let f : filled room (p ++ b) ≡ (p ++ b) ++ replicate (room - (at + 8)) 0 = filled-short room (p ++ b) (omega arith) ∙ rw lpb in
    let g : p ++ b ≡ s ++ ((128 ∷ []) ++ (replicate (at - 1 - r) 0 ++ b)) = append_assoc s ((128 ∷ []) ++ replicate (at - 1 - r) 0) b in
    ap (λ (x : List ℕ). sets x at b) u ∙ v ∙ ap (λ (x : List ℕ). x ++ b ++ drop (at + length b) q) w ∙ ap (λ (x : List ℕ). p ++ b ++ x) m ∙ sym f
    ∙ ap (λ (x : List ℕ). filled room x) g

-- a room of any size, with the length in it
pub ends-in : (room : ℕ) (s : List ℕ) (n at bits : ℕ) → length s ≡ n % 64 → n % 64 < at → at + 8 ≤ room → zeros n ≡ at - 1 - n % 64 → bits ≡ n * 8
    → sets (filled room (s ++ (128 ∷ []))) at (bytes_of 8 bits) ≡ filled room (s ++ padding n)
unfolding padding
ends-in room s n at bits l h k z b =
    let c : bits ≡ 8 * n = omega arith in
    rw (c, z) (ended_at room s (bytes_of 8 (8 * n)) (n % 64) at l h k (length-bytes_of 8 (8 * n)))

-- the length in zeros of its own, where the first block has no room for it
pub ends-after : (s : List ℕ) (n bits : ℕ) → length s ≡ n % 64 → 56 ≤ n % 64 → bits ≡ n * 8
    → filled 64 (s ++ (128 ∷ [])) ++ sets (replicate 64 0) 56 (bytes_of 8 bits) ≡ filled 128 (s ++ padding n)
ends-after s n bits l h b =
    let m : List ℕ = s ++ (128 ∷ []) in
    let k : length m ≤ 64 = omega (arith, length-append s (128 ∷ [])) in
    sym (sets-after (filled 64 m) (replicate 64 0) 64 56 (bytes_of 8 bits) (length-filled 64 m))
    ∙ ap (λ (x : List ℕ). sets x 120 (bytes_of 8 bits)) (filled_more 64 64 m k) ∙ ends-in 128 s n 120 bits l (omega arith) (omega arith) (omega arith) b

-- the call that writes the length, where it fits
pub fits-written : (o : List ℕ) (at bits : ℕ) → at + 8 ≤ length o → number_written 8 o at bits ≡ sets o at (bytes_of 8 bits)
fits-written o at bits h = ap (λ (t : Bool). cond t (sets o at (bytes_of 8 bits)) o) (le-leb (at + 8) (length o) h)
