-- A text is refused only for the cause that the number stands for. Assumes nothing.
use mathlib.Core.Path.{◌≡◌, refl, sym, ap, ◌∙◌, subst₂}
use mathlib.Core.Logic.{inl, inr}
use mathlib.Core.Bool.{Bool, true, false}
use mathlib.Core.List.{List, [], ◌∷◌, ◌++◌}
use Prim.Native.Nat.{ℕ, zero, suc, ◌+◌, ◌<◌}
use native.Mathlib.Omega.{arith}
use lib.ListN.{length}
use borrow.Author.Tests.{eqb-false}
use Rattle.refusal.specs.Numbers.{after}
use Rattle.refusal.specs.Limits.{most_values, most_levels}
use Rattle.refusal.specs.Paper.{refused}
use Rattle.refusal.proofs.Cases.{by-test}
use Rattle.bencode_scalar.specs.Written.{written_string}
use Rattle.bencode_scalar.specs.Reading.{Got, got, bad, is_digit, string_of, integer_of}
use Rattle.bencode_scalar.proofs.Sound.{Holds, TextP, string-sound}
use Rattle.bencode.specs.Value.{Value, Items, Entries, str, int, list, dict, entry, Prev, start, last, follows}
use Rattle.bencode.specs.Value.{item as one}
use Rattle.bencode.specs.Decode.{Kind, digit, letter_i, letter_l, letter_d, other, kind_of, begun, value_by, closes, items_by, items_of, ordered, key_of, entries_by_of, entries_of, value_from, whole_of}
use Rattle.bencode.proofs.Sound.{KeyP, key-sound, Took, KindP, kind-view, value-sound}
use Rattle.bencode.proofs.Complete.{encode-pos}
use Rattle.bencode_laws.specs.Causes.{Due, value, item, key, Comes, top, an_item, in_list, past-item, in-dictionary, past-key, past-entry, StringEnds, StringStops, Ends, Stops, Cut, Byte, Order, Deep, Many, After}
use Rattle.bencode_laws.proofs.Fails.{Cause, Fails, fails-map, fails-then, fails-begin, place, moved}
use Rattle.bencode_laws.proofs.Scalars.{string-fails, integer-fails}

empty-not : {b : ℕ} {t : List ℕ} → b ∷ t ≡ [] → ⊥
empty-not n = let z : ◌≡◌ {A = ℕ} 0 1 = cc in omega arith

module _ (s : List ℕ) where
  -- a string that is due as a value or as a key
  string-due : {w : Due} {b : ℕ} {t : List ℕ} {p n d : ℕ} → Comes s w (b ∷ t) p n d → n < most_values → is_digit b ≡ true
      → (StringEnds (b ∷ t) → Ends w (b ∷ t)) → ((v : List ℕ) (c : ℕ) → StringStops v c → Stops w v c) → Fails (Cause s) (string_of (length s) b t p (n + 1))
  string-due {b = b} {t} {p} {n} c few d ends stops = string-fails (Cause s) (length s) p b t (λ h. Cut.within c few (ends h)) (λ v a u x h. Byte.within v a u (moved c x refl refl) few (stops v a h)) (n + 1) d (place c)

  -- an integer that is due
  integer-due : {t : List ℕ} {p n d : ℕ} → Comes s value (105 ∷ t) p n d → n < most_values → Fails (Cause s) (integer_of (length s) t (p + 1) (n + 1))
  integer-due {t} {p} {n} c few = integer-fails (Cause s) (length s) p t (n + 1) (λ h. Cut.within c few (inr h)) (λ w a u x h. Byte.within w a u (moved c x refl refl) few (inr h))

  -- a key that is due
  ordered-fails : {before : Prev} {l : List ℕ} {p n d : ℕ} → Comes s (key before) l p n d → n < most_values → (g : Got (List ℕ)) → Holds (TextP l p (n + 1)) g → Fails (Cause s) g → Fails (Cause s) (ordered before p g)
  ordered-fails {before} {p = p} c few (got k r q m) h x = by-test (Fails (Cause s)) (follows before k) (λ y. tt) (λ y. Order.not-greater k r (moved c h.0.text refl refl) few y)
  ordered-fails c few (bad r q) h x = x

  key-fails : (before : Prev) (l : List ℕ) (p n d : ℕ) → Comes s (key before) l p n d → closes l ≡ false → Fails (Cause s) (key_of (length s) before l p n)
  unfolding key_of
  key-fails before [] p n d c y = Cut.at_once c
  key-fails before (b ∷ t) p n d c y =
      by-test (Fails (Cause s)) (is_digit b)
      (λ x. fails-begin (Cause s) n p _
      (λ few. ordered-fails c few (string_of (length s) b t p (n + 1)) (string-sound (length s) b t p (n + 1) x (place c)) (string-due c few x (λ h. h) (λ v a h. h)))
      (λ h. Many.begins c (omega arith) x))
      (λ x. Byte.no_key c x (eqb-false b 101 y))

  module _ (d : ℕ) (fails : (l : List ℕ) (p n : ℕ) → Comes s value l p n d → Fails (Cause s) (value_from d (length s) l p n)) where
    -- the items of a list, with fuel enough
    items-by : (f : ℕ) (go : List ℕ → ℕ → ℕ → Got Items) → ((l : List ℕ) (p n : ℕ) → length s < p + f → Comes s item l p n d → Fails (Cause s) (go l p n))
        → (l : List ℕ) (p n : ℕ) → length s < p + suc f → Comes s item l p n d → (x : Bool) → closes l ≡ x → Fails (Cause s) (items_by x (value_from d (length s)) go l p n)
    items-by f go ih l p n h c true y = tt
    items-by f go ih l p n h c false y =
        fails-then (Cause s) (Took l d p n) (value_from d (length s) l p n) _ (value-sound d (length s) l p n (place c)) (fails l p n (an_item c y))
        (λ v r q m k. fails-map (Cause s) (one v) (go r q m) (ih r q m (omega (arith, k.at.place, encode-pos v))
        (moved (past-item v (moved c k.at.text refl refl) k.keeps (omega (arith, k.counted, k.few))) refl (sym k.at.place) (sym k.counted))))

    items-fails : (f : ℕ) (l : List ℕ) (p n : ℕ) → length s < p + f → Comes s item l p n d → Fails (Cause s) (items_of f (value_from d (length s)) (length s) l p n)
    unfolding items_of
    items-fails zero l p n h c = absurd (omega (arith, place c))
    items-fails (suc f) l p n h c = items-by f (items_of f (value_from d (length s)) (length s)) (items-fails f) l p n h c (closes l) refl

    -- the entries of a dictionary
    entries_by : (f : ℕ) (go : Prev → List ℕ → ℕ → ℕ → Got Entries) → ((j : Prev) (l : List ℕ) (p n : ℕ) → length s < p + f → Comes s (key j) l p n d → Fails (Cause s) (go j l p n))
        → (j : Prev) (l : List ℕ) (p n : ℕ) → length s < p + suc f → Comes s (key j) l p n d → (x : Bool) → closes l ≡ x → Fails (Cause s) (entries_by_of x (value_from d (length s)) go (length s) j l p n)
    entries_by f go ih j l p n h c true y = tt
    entries_by f go ih j l p n h c false y =
        fails-then (Cause s) (KeyP l j p n) (key_of (length s) j l p n) _ (key-sound (length s) j l p n (place c)) (key-fails j l p n d c y)
        (λ k l₁ q m w.
        let c₁ : Comes s value l₁ q m d = moved (past-key k (moved c w.0.0.text refl refl) w.1 w.2) refl (sym w.0.0.place) (sym w.0.1) in
        fails-then (Cause s) (Took l₁ d q m) (value_from d (length s) l₁ q m) _ (value-sound d (length s) l₁ q m (place c₁)) (fails l₁ q m c₁)
        (λ v l₂ q₂ m₂ z.
        let c₂ : Comes s (key (last k)) l₂ q₂ m₂ d =
        moved (past-entry k v (moved c (w.0.0.text ∙ ap (λ (r : List ℕ). written_string k ++ r) z.at.text) refl refl) w.1 z.keeps (omega (arith, w.0.1, z.counted, z.few))) refl
        (omega (arith, w.0.0.place, z.at.place)) (omega (arith, w.0.1, z.counted)) in
        fails-map (Cause s) (entry k v) (go (last k) l₂ q₂ m₂) (ih (last k) l₂ q₂ m₂ (omega (arith, w.0.0.place, z.at.place, encode-pos v)) c₂)))

    entries-fails : (f : ℕ) (j : Prev) (l : List ℕ) (p n : ℕ) → length s < p + f → Comes s (key j) l p n d → Fails (Cause s) (entries_of f (value_from d (length s)) (length s) j l p n)
    unfolding entries_of
    entries-fails zero j l p n h c = absurd (omega (arith, place c))
    entries-fails (suc f) j l p n h c = entries_by f (entries_of f (value_from d (length s)) (length s)) (entries-fails f) j l p n h c (closes l) refl

  -- a value, by its first byte
  value-by : (d b : ℕ) (t : List ℕ) (p n : ℕ) (ls : List ℕ → ℕ → ℕ → Got Items) (ds : List ℕ → ℕ → ℕ → Got Entries) → Comes s value (b ∷ t) p n d → (k : Kind) → kind_of b ≡ k → KindP b k
      → (b ≡ 108 → n < most_values → Fails (Cause s) (ls t (p + 1) (n + 1)))
      → (b ≡ 100 → n < most_values → Fails (Cause s) (ds t (p + 1) (n + 1)))
      → Fails (Cause s) (value_by k ls ds (length s) b t p n)
  value-by d b t p n ls ds c other x y hl hd = Byte.no_value c x
  value-by d b t p n ls ds c digit x y hl hd =
      fails-begin (Cause s) n p _ (λ few. fails-map (Cause s) str (string_of (length s) b t p (n + 1)) (string-due c few y inl (λ v a h. inl h))) (λ h. Many.begins c (omega arith) (ap begun x))
  value-by d b t p n ls ds c letter_i x y hl hd =
      fails-begin (Cause s) n p _ (λ few. fails-map (Cause s) int (integer_of (length s) t (p + 1) (n + 1)) (integer-due (moved c (ap (λ (a : ℕ). a ∷ t) y) refl refl) few)) (λ h. Many.begins c (omega arith) (ap begun x))
  value-by d b t p n ls ds c letter_l x y hl hd = fails-begin (Cause s) n p _ (λ few. fails-map (Cause s) list (ls t (p + 1) (n + 1)) (hl y few)) (λ h. Many.begins c (omega arith) (ap begun x))
  value-by d b t p n ls ds c letter_d x y hl hd = fails-begin (Cause s) n p _ (λ few. fails-map (Cause s) dict (ds t (p + 1) (n + 1)) (hd y few)) (λ h. Many.begins c (omega arith) (ap begun x))

  value-fails : (d : ℕ) (l : List ℕ) (p n : ℕ) → Comes s value l p n d → Fails (Cause s) (value_from d (length s) l p n)
  unfolding value_from
  value-fails zero [] p n c = Cut.at_once c
  value-fails zero (b ∷ t) p n c = value-by 0 b t p n _ _ c (kind_of b) refl (kind-view b) (λ y few. Deep.level c (omega arith) (inl y)) (λ y few. Deep.level c (omega arith) (inr y))
  value-fails (suc d) [] p n c = Cut.at_once c
  value-fails (suc d) (b ∷ t) p n c =
      value-by (suc d) b t p n _ _ c (kind_of b) refl (kind-view b)
      (λ y few. items-fails d (value-fails d) (suc (length s)) t (p + 1) (n + 1) (omega arith) (in_list (moved c (ap (λ (a : ℕ). a ∷ t) y) refl refl) few))
      (λ y few. entries-fails d (value-fails d) (suc (length s)) start t (p + 1) (n + 1) (omega arith) (in-dictionary (moved c (ap (λ (a : ℕ). a ∷ t) y) refl refl) few))

  -- what is left of the whole text
  whole_by : (r p : ℕ) (g : Got Value) → Holds (Took s most_levels 0 0) g → Fails (Cause s) g → whole_of g ≡ refused r p → Cause s r p
  whole_by r p (got v [] q m) h x e = let z : ◌≡◌ {A = ℕ} 0 1 = cc in absurd (omega arith)
  whole_by r p (got v (b ∷ t) q m) h x e =
      let y : after ≡ r = cc in
      let z : q ≡ p = cc in
      subst₂ (Cause s) y (omega (arith, h.at.place)) (After.bytes v h.at.text h.keeps (omega (arith, h.counted, h.few)) (λ n. empty-not n))
  whole_by r p (bad a q) h x e =
      let y : a ≡ r = cc in
      let z : q ≡ p = cc in
      subst₂ (Cause s) y z x

  pub only : (r p : ℕ) → whole_of (value_from most_levels (length s) s 0 0) ≡ refused r p → Cause s r p
  only r p e = whole_by r p (value_from most_levels (length s) s 0 0) (value-sound most_levels (length s) s 0 0 (omega arith)) (value-fails most_levels s 0 0 top) e
