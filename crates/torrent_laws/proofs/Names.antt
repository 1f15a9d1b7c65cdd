-- The rule for names as the reader tests it, and as document 01 says it. Assumes nothing.
use mathlib.Core.Path.{◌≡◌, refl, sym, ap}
use mathlib.Core.Bool.{Bool, true, false, cond}
use mathlib.Core.Logic.{⊎_elim}
use mathlib.Core.List.{List, [], ◌∷◌}
use mathlib.Core.List.Memᴰ
use mathlib.Core.List.{Memᴰ as In}
use Prim.Native.Nat.{ℕ}
use lib.Dec.{eqb}
use borrow.Author.Tests.{eq-eqb, ne_eqb, eqb-true}
pub use Rattle.refusal.proofs.Cases.{no_way}
use Rattle.torrent_metainfo.specs.Rules.{dots, clean, good_name}
use Rattle.torrent_laws.specs.Torrent.{GoodName}

clean_is : (bs : List ℕ) → clean bs ≡ true → (In 47 bs → ⊥) × (In 0 bs → ⊥)
unfolding clean
clean_is [] e = (λ i. Memᴰ.not-nil i, λ i. Memᴰ.not-nil i)
clean_is (b ∷ t) e = go (clean_is t) (eqb b 47) refl (eqb b 0) refl e
  where
    not : (c : ℕ) → eqb b c ≡ false → (In c t → ⊥) → In c (b ∷ t) → ⊥
    not c f h i = ⊎_elim (λ (q : c ≡ b). no_way (let g = eq-eqb b c (sym q) in cc)) h (Memᴰ.cases_cons i)

    go : (clean t ≡ true → (In 47 t → ⊥) × (In 0 t → ⊥)) → (x : Bool) → eqb b 47 ≡ x → (y : Bool) → eqb b 0 ≡ y → cond x false (cond y false (clean t)) ≡ true
        → (In 47 (b ∷ t) → ⊥) × (In 0 (b ∷ t) → ⊥)
    go more true f y g h = no_way (cc)
    go more false f true g h = no_way (cc)
    go more false f false g h = let k = more h in (not 47 f k.0, not 0 g k.1)

is-clean : (bs : List ℕ) → (In 47 bs → ⊥) → (In 0 bs → ⊥) → clean bs ≡ true
unfolding clean
is-clean [] x y = refl
is-clean (b ∷ t) x y =
    rw (ne_eqb b 47 (λ e. x (In.head (sym e))), ne_eqb b 0 (λ e. y (In.head (sym e))))
    (is-clean t (λ i. x (In.tail i)) (λ i. y (In.tail i)))

is-dots : (bs : List ℕ) → (bs ≡ [] → ⊥) → (bs ≡ 46 ∷ [] → ⊥) → (bs ≡ 46 ∷ 46 ∷ [] → ⊥) → dots bs ≡ false
is-dots [] x y z = absurd (x refl)
is-dots (b ∷ []) x y z = ne_eqb b 46 (λ e. y (ap (λ (i : ℕ). i ∷ []) e))
is-dots (b ∷ c ∷ []) x y z = go (eqb b 46) refl
  where
    go : (t : Bool) → eqb b 46 ≡ t → cond t (eqb c 46) false ≡ false
    go true f = ne_eqb c 46 (λ e. z (let g = eqb-true b 46 f in rw (g, e)))
    go false f = refl
is-dots (b ∷ c ∷ d ∷ t) x y z = refl

pub good-is : (bs : List ℕ) → good_name bs ≡ true → GoodName bs
unfolding good_name
good-is bs e = go (dots bs) refl e
  where
    go : (t : Bool) → dots bs ≡ t → cond t false (clean bs) ≡ true → GoodName bs
    go true f g = no_way (cc)
    go false f g =
        let h = clean_is bs g in
        record {
          not-empty = λ i. no_way (let j = ap dots i in cc);
          not-dot = λ i. no_way (let j = ap dots i in cc);
          not-dots = λ i. no_way (let j = ap dots i in cc);
          no_slash = h.0;
          no_zero = h.1;
        }

pub is-good : (bs : List ℕ) → GoodName bs → good_name bs ≡ true
unfolding good_name
is-good bs h = rw (is-dots bs h.not-empty h.not-dot h.not-dots) (is-clean bs h.no_slash h.no_zero)
