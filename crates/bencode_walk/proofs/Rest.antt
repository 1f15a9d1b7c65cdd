-- A `match` on what was seen: the arm of one kind, and `_` for the rest. Assumes nothing.
use Rattle.std.specs.Prelude.{Ok, ◌≡◌, Bool, true, false, List, ℕ, ℤ}
use Rattle.std.proofs.Common.{refl, ap, ◌∙◌}
use Rattle.std.specs.Prelude.{not}
use lib.Dec.{T}
use mir.Val.{has_key}
use types.Run.{OneOf, miss}
use denote.Enum.Declared.{tag_of}
use Rattle.refusal.specs.Paper.{Outcome, then}
use Rattle.refusal.specs.declared.Part.{Part}
use Rattle.bencode_walk.specs.Walk.{Head, string, integer, long, list, dictionary, end, seen_paper}
use Rattle.bencode_walk.specs.declared.Seen.{Seen}
use Rattle.bencode_walk.specs.contracts.Seen.{the_type}
use Rattle.bencode_walk.specs.declared.Seen.TheVariants.{String, Integer, Long, List as ListSeen, Dictionary, End}

abbrev If : Bool → Type 0 → Type 0
If true X = X
If false X = Unit {0}

-- of each kind that is one of ks, in the order of Seen, f says y
abbrev pub Rest : {A : Type 0} → List ℕ → (Head → Outcome A) → Outcome A → Type 0
Rest ks f y =
    If (has_key ks 0) ((a m q : ℕ) → y ≡ f (string a m q))
    × If (has_key ks 1) ((z : ℤ) (q : ℕ) → y ≡ f (integer z q))
    × If (has_key ks 2) ((a m q : ℕ) → y ≡ f (long a m q))
    × If (has_key ks 3) ((q : ℕ) → y ≡ f (list q))
    × If (has_key ks 4) ((q : ℕ) → y ≡ f (dictionary q))
    × If (has_key ks 5) ((q : ℕ) → y ≡ f (end q))

-- the rest, by the value's tag
module _ {A : Type 0} (ks : List ℕ) (f : Head → Outcome A) (y : Outcome A) (h : Rest ks f y) where
  held : {X : Type 0} (k : ℕ) → OneOf ks k → If (has_key ks k) X → X
  held {X} k o = go (has_key ks k) (λ n. miss ks k n o)
    where
      go : (b : Bool) → (T (not b) → ⊥) → If b X → X
      go true n x = x
      go false n x = absurd (n tt)

  rest_of : (v : Seen) → OneOf ks (tag_of the_type v) → y ≡ then (seen_paper (Ok v)) f
  rest_of (String p q) o = held 0 o h.0 p.from p.len q
  rest_of (Integer z q) o = held 1 o h.1 z q
  rest_of (Long p q) o = held 2 o h.2 p.from p.len q
  rest_of (ListSeen q) o = held 3 o h.3 q
  rest_of (Dictionary q) o = held 4 o h.4 q
  rest_of (End q) o = held 5 o h.5 q

  pub rest-seen : (v : Seen) (o : Outcome Head) → seen_paper (Ok v) ≡ o → OneOf ks (tag_of the_type v) → y ≡ then o f
  rest-seen v o e t = rest_of v t ∙ ap (λ (x : Outcome Head). then x f) e

abbrev Unless : Bool → Type 0 → Type 0
Unless true X = Unit {0}
Unless false X = X

-- v is of no kind but those of ks, in the order of Seen, as the arm `_` says
abbrev pub But : List ℕ → Seen → Type 0
But ks v =
    Unless (has_key ks 0) ((p : Part) (q : ℕ) → v ≡ String p q → ⊥)
    × Unless (has_key ks 1) ((z : ℤ) (q : ℕ) → v ≡ Integer z q → ⊥)
    × Unless (has_key ks 2) ((p : Part) (q : ℕ) → v ≡ Long p q → ⊥)
    × Unless (has_key ks 3) ((q : ℕ) → v ≡ ListSeen q → ⊥)
    × Unless (has_key ks 4) ((q : ℕ) → v ≡ Dictionary q → ⊥)
    × Unless (has_key ks 5) ((q : ℕ) → v ≡ End q → ⊥)

-- the rest, by what it is not
module _ {A : Type 0} (ks : List ℕ) (f : Head → Outcome A) (y : Outcome A) (h : Rest ks f y) where
  kept : {X N : Type 0} (b : Bool) → Unless b N → If b X → (N → ⊥) → X
  kept true o x n = x
  kept false o x n = absurd (n o)

  but-of : (v : Seen) → But ks v → y ≡ then (seen_paper (Ok v)) f
  but-of (String p q) o = kept (has_key ks 0) o.0 h.0 (λ n. n p q refl) p.from p.len q
  but-of (Integer z q) o = kept (has_key ks 1) o.1 h.1 (λ n. n z q refl) z q
  but-of (Long p q) o = kept (has_key ks 2) o.2 h.2 (λ n. n p q refl) p.from p.len q
  but-of (ListSeen q) o = kept (has_key ks 3) o.3 h.3 (λ n. n q refl) q
  but-of (Dictionary q) o = kept (has_key ks 4) o.4 h.4 (λ n. n q refl) q
  but-of (End q) o = kept (has_key ks 5) o.5 h.5 (λ n. n q refl) q

  pub rest-but : (v : Seen) (o : Outcome Head) → seen_paper (Ok v) ≡ o → But ks v → y ≡ then o f
  rest-but v o e t = but-of v t ∙ ap (λ (x : Outcome Head). then x f) e
