-- The order of keys is strict and total. Assumes nothing.
use Rattle.std.proofs.Common.{◌≡◌, refl, sym, ◌∙◌, Bool, true, false, List, [], ◌∷◌, ℕ, ◌<◌, ◌≤◌, arith}
use borrow.Author.Tests.{lt-ltb, le-ltb, eq-eqb, ne_eqb}
use Rattle.std.specs.Ordering.{is_lt, nat_cmp}
use Rattle.std.specs.Cmp.Lexicographic.{slice_cmp}
use Rattle.refusal.proofs.Cases.{no_way, less-or}
use Rattle.bencode_scalar.specs.Written.{key_lt}

-- by how two bytes compare
by_bytes : {P : Type 0} (x y : ℕ) → (x < y → P) → (y < x → P) → (x ≡ y → P) → P
by_bytes x y less more same = less-or x y less (λ h. less-or y x more (λ k. same (omega arith)))

first-less : (x y : ℕ) (a b : List ℕ) → x < y → key_lt (x ∷ a) (y ∷ b) ≡ true
unfolding key_lt
first-less x y a b h = rw (lt-ltb x y h)

first_more : (x y : ℕ) (a b : List ℕ) → y < x → key_lt (x ∷ a) (y ∷ b) ≡ false
unfolding key_lt
first_more x y a b h = let k : y ≤ x = omega arith in rw (le-ltb x y k, lt-ltb y x h)

first-same : (x y : ℕ) (a b : List ℕ) → x ≡ y → key_lt (x ∷ a) (y ∷ b) ≡ key_lt a b
unfolding key_lt
first-same x y a b e = let h : y ≤ x = omega arith in let k : x ≤ y = omega arith in rw (le-ltb x y h, le-ltb y x k)

-- neither before the other: the same
pub key-same : (a b : List ℕ) → key_lt a b ≡ false → key_lt b a ≡ false → a ≡ b
unfolding key_lt
key-same [] [] x y = refl
key-same [] (c ∷ b) x y = no_way (cc)
key-same (c ∷ a) [] x y = no_way (cc)
key-same (c ∷ a) (d ∷ b) x y =
    by_bytes c d (λ h. let e = first-less c d a b h in no_way (cc)) (λ h. let e = first-less d c b a h in no_way (cc))
    (λ h. let e = key-same a b (sym (first-same c d a b h) ∙ x) (sym (first-same d c b a (sym h)) ∙ y) in rw (h, e))

pub key-irreflexive : (a : List ℕ) → key_lt a a ≡ false
unfolding key_lt
key-irreflexive [] = refl
key-irreflexive (c ∷ a) = first-same c c a a refl ∙ key-irreflexive a

pub key-less : (a b c : List ℕ) → key_lt a b ≡ true → key_lt b c ≡ true → key_lt a c ≡ true
unfolding key_lt
key-less [] [] c x y = no_way (cc)
key-less [] (u ∷ b) [] x y = no_way (cc)
key-less [] (u ∷ b) (v ∷ c) x y = refl
key-less (t ∷ a) [] c x y = no_way (cc)
key-less (t ∷ a) (u ∷ b) [] x y = no_way (cc)
key-less (t ∷ a) (u ∷ b) (v ∷ c) x y =
    by_bytes t u
    (λ h. by_bytes u v (λ k. first-less t v a c (omega arith)) (λ k. let e = first_more u v b c k in no_way (cc)) (λ k. first-less t v a c (omega arith)))
    (λ h. let e = first_more t u a b h in no_way (cc))
    (λ h. by_bytes u v (λ k. first-less t v a c (omega arith)) (λ k. let e = first_more u v b c k in no_way (cc))
    (λ k. first-same t v a c (h ∙ k) ∙ key-less a b c (sym (first-same t u a b h) ∙ x) (sym (first-same u v b c k) ∙ y)))

-- one before the other: not the other way round
pub key-not : (a b : List ℕ) → key_lt a b ≡ true → key_lt b a ≡ false
key-not a b x = go (key_lt b a) refl
  where
    go : (t : Bool) → key_lt b a ≡ t → t ≡ false
    go true e = let f = key-less a b a x e in let g = key-irreflexive a in no_way (cc)
    go false e = refl

-- the library's order of bytes is that of keys
pub cmp-key : (a b : List ℕ) → is_lt (slice_cmp nat_cmp a b) ≡ key_lt a b
unfolding key_lt
cmp-key [] [] = refl
cmp-key [] (d ∷ b) = refl
cmp-key (c ∷ a) [] = refl
cmp-key (c ∷ a) (d ∷ b) =
    by_bytes c d (λ h. let k : c ≤ d = omega arith in rw (lt-ltb c d h))
    (λ h. let k : d ≤ c = omega arith in let n : (c ≡ d → ⊥) = omega arith in rw (le-ltb c d k, lt-ltb d c h, ne_eqb c d n))
    (λ h. let k : d ≤ c = omega arith in let l : c ≤ d = omega arith in rw (le-ltb c d k, le-ltb d c l, eq-eqb c d h) (cmp-key a b))
