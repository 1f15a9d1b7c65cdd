-- The reader fed with whole words, names, hashes and values. Assumes nothing.
use mathlib.Core.Path.{◌≡◌, refl, sym, ap, ◌∙◌}
use mathlib.Core.Bool.{false}
use mathlib.Core.List.{List, [], ◌∷◌, ◌++◌, append_assoc, append-nil}
use Prim.Native.Nat.{ℕ, ◌+◌, ◌*◌}
use native.Mathlib.Omega.{arith}
use native.Mathlib.Nat.{suc-add}
use borrow.Author.Tests.{eq-eqb}
use lib.ListN.{length}
use Rattle.links.specs.Link.{plain_byte, HexText, no_byte, a_byte, Spells, nothing, plain, escape, NameBytes, no_more, one_more}
use Rattle.links.specs.Reading.{Seen, Mode, naming, prefixed, urned, digits, value, State, going, stopped, in_mode, step, fed}
use Rattle.links.specs.declared.scan.Field.{Field}
use Rattle.links.proofs.Digits.{hex-nibble}

-- ---- any bytes

pub fed-append : (st : State) (q r : List ℕ) → fed st (q ++ r) ≡ fed (fed st q) r
unfolding fed
fed-append st [] r = refl
fed-append st (b ∷ q) r = fed-append (step st b) q r

pub fed-stopped : (p : ℕ) (s : List ℕ) → fed (stopped p) s ≡ stopped p
unfolding fed
fed-stopped p [] = refl
fed-stopped p (b ∷ s) = fed-stopped p s

-- the same state at a place that is the same number
at_place : {p q : ℕ} (n : Seen) (m : Mode) (r : List ℕ) → p ≡ q → fed (going p n m) r ≡ fed (going q n m) r
at_place n m r e = ap (λ (k : ℕ). fed (going k n m) r) e

-- ---- words

pub prefix-run : (p : ℕ) (n : Seen) (w r : List ℕ) → fed (going p n (prefixed w)) (w ++ r) ≡ fed (going (p + length w) n (naming [])) r
unfolding fed in_mode
prefix-run p n [] r = at_place n (naming []) r (omega arith)
prefix-run p n (c ∷ w) r = rw (fed, eq-eqb c c refl) (prefix-run (p + 1) n w r ∙ at_place n (naming []) r (omega arith))

pub urn-run : (p : ℕ) (n : Seen) (w r : List ℕ) → fed (going p n (urned w)) (w ++ r) ≡ fed (going (p + length w) n (digits 20 [])) r
unfolding fed in_mode
urn-run p n [] r = at_place n (digits 20 []) r (omega arith)
urn-run p n (c ∷ w) r = rw (fed, eq-eqb c c refl) (urn-run (p + 1) n w r ∙ at_place n (digits 20 []) r (omega arith))

-- ---- names

pub name-run : (p : ℕ) (n : Seen) (k : List ℕ) {j : List ℕ} (r : List ℕ) → NameBytes j → fed (going p n (naming k)) (j ++ r) ≡ fed (going (p + length j) n (naming (k ++ j))) r
unfolding fed in_mode
name-run p n k r no_more = at_place n (naming k) r (omega arith) ∙ ap (λ (l : List ℕ). fed (going (p + 0) n (naming l)) r) (sym (append-nil k))
name-run p n k r (one_more b j e h) =
    rw (fed, e)
    (name-run (p + 1) n (k ++ (b ∷ [])) r h
    ∙ ap (λ (l : List ℕ). fed (going (p + 1 + length j) n (naming l)) r) (append_assoc k (b ∷ []) j)
    ∙ at_place n (naming (k ++ (b ∷ j))) r (omega arith))

-- ---- hashes

pub hex-run : (p : ℕ) (n : Seen) (k : ℕ) (h : List ℕ) {w bs : List ℕ} (r : List ℕ) → HexText w bs
    → fed (going p n (digits (length bs + k) h)) (w ++ r) ≡ fed (going (p + length w) n (digits k (h ++ bs))) r
unfolding fed in_mode
hex-run p n k h r no_byte = rw (append-nil h) (ap (λ (i : ℕ). fed (going p n (digits i h)) r) (omega arith) ∙ at_place n (digits k h) r (omega arith))
hex-run p n k h r (a_byte c l x y w bs i j t) =
    let e = hex-nibble c x i in
    let f = hex-nibble l y j in
    rw (suc-add (length bs) k, fed, e.0, f.0, e.1, f.1)
    (hex-run (p + 1 + 1) n k (h ++ ((16 * x + y) ∷ [])) r t
    ∙ ap (λ (v : List ℕ). fed (going (p + 1 + 1 + length w) n (digits k v)) r) (append_assoc h ((16 * x + y) ∷ []) bs)
    ∙ at_place n (digits k (h ++ ((16 * x + y) ∷ bs))) r (omega arith))

-- ---- values

-- "%" stands not for itself
percent-not-plain : plain_byte 37 ≡ false
percent-not-plain = refl

pub value-run : (p : ℕ) (n : Seen) (f : Field) (v : List ℕ) {w bs : List ℕ} (r : List ℕ) → Spells w bs
    → fed (going p n (value f v)) (w ++ r) ≡ fed (going (p + length w) n (value f (v ++ bs))) r
unfolding fed in_mode
value-run p n f v r nothing = rw (append-nil v) (at_place n (value f v) r (omega arith))
value-run p n f v r (plain b w bs e s) =
    rw (fed, e)
    (value-run (p + 1) n f (v ++ (b ∷ [])) r s
    ∙ ap (λ (u : List ℕ). fed (going (p + 1 + length w) n (value f u)) r) (append_assoc v (b ∷ []) bs)
    ∙ at_place n (value f (v ++ (b ∷ bs))) r (omega arith))
value-run p n f v r (escape c l x y w bs i j s) =
    let e = hex-nibble c x i in
    let g = hex-nibble l y j in
    rw (fed, e.0, g.0, e.1, g.1)
    (value-run (p + 1 + 1 + 1) n f (v ++ ((16 * x + y) ∷ [])) r s
    ∙ ap (λ (u : List ℕ). fed (going (p + 1 + 1 + 1 + length w) n (value f u)) r) (append_assoc v ((16 * x + y) ∷ []) bs)
    ∙ at_place n (value f (v ++ ((16 * x + y) ∷ bs))) r (omega arith))
