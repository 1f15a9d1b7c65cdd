-- Keys of a dictionary sought in ascending order, each from where the last search stopped. Assumes nothing.
use mathlib.Core.Path.{◌≡◌, refl, sym, ap, ◌∙◌, subst}
use mathlib.Core.Bool.{true}
use mathlib.Core.List.{List}
use Prim.Native.Nat.{ℕ, suc, ◌≤◌}
use lib.ListN.{length}
use Rattle.refusal.specs.Paper.{Outcome, taken, then}
use Rattle.bencode_scalar.specs.Written.{key_lt}
use Rattle.bencode_scalar.proofs.Ordering.{key-less}
use Rattle.bencode.specs.Value.{Value, Entries, Prev, start, last, follows}
use Rattle.bencode_walk.specs.Walk.{Hit, found, missing, seek_of}
use Rattle.bencode_walk.specs.Stands.{Stands, StandEntries}
use Rattle.bencode_walk.specs.Lookup.{Under, under, lookup}
use Rattle.bencode_walk.proofs.Limited.{Limited, limited-then, limited-seek}
use Rattle.bencode_walk.proofs.Finding.{sought_of, seek-stands, Says, it-is, it-is-not, says, place_of, resumes}
use Rattle.bencode_fields.specs.Looks.{hit_at, needed, stopped, sought_from, sought_after}
use Rattle.bencode_fields.specs.Values.{must}

-- what is left at q of the entries es that stand at p: all keys after j are still there
pub record Left (s : List ℕ) (d p : ℕ) (es : Entries) (j : Prev) (q : ℕ) : Type 0 where
  pub before : Prev
  pub left : Entries
  pub stands : StandEntries s d q before left
  pub same : (k : List ℕ) → follows j k ≡ true → lookup q left k ≡ lookup p es k

-- a search for k that starts at q: what it gives, what that says of the value under k, and what is left where it stops
pub record Seeks (s : List ℕ) (d p : ℕ) (es : Entries) (k : List ℕ) (q : ℕ) : Type 0 where
  pub hit : Hit
  pub seen : seek_of (suc (length s)) s q k ≡ taken hit
  pub says : Says (lookup p es k) hit
  pub next : Left s d p es (last k) (place_of hit)

module _ (s : List ℕ) (d p : ℕ) (es : Entries) where
  pub all_left : (before : Prev) → StandEntries s d p before es → Left s d p es start p
  all_left before t = record { before = before; left = es; stands = t; same = λ k h. refl }

  follows_on : (j : Prev) (k later : List ℕ) → follows j k ≡ true → key_lt k later ≡ true → follows j later ≡ true
  follows_on start k later h i = refl
  follows_on (last j) k later h i = key-less j k later h i

  pub seeks : d ≤ 32 → (j : Prev) (k : List ℕ) (q : ℕ) → Left s d p es j q → follows j k ≡ true → Seeks s d p es k q
  seeks levels j k q l h =
      let r = resumes s d q l.before l.left k l.stands in
      let y : Says (lookup q l.left k) (sought_of q l.left k) = says q l.left k d l.before l.stands.keeps in
      record {
        hit = sought_of q l.left k;
        seen = seek-stands s k d levels q l.before l.left l.stands;
        says = (rw (l.same k h) at y);
        next = record { before = r.before; left = r.left; stands = r.stands; same = λ later i. r.same later i ∙ l.same later (follows_on j k later h i) };
      }

-- what a look says of the place that was found is what is asked of the value that stands there
pub asked : {A : Type 0} (s : List ℕ) (d D : ℕ) (u : Under) (o : Outcome Hit) (h : Hit) → o ≡ taken h → Says u h → ((q : ℕ) (v : Value) → u ≡ under q v → Stands s d q v)
    → (f : ℕ → Outcome A) (g : ℕ → Value → Outcome A) → ((q : ℕ) (v : Value) → Stands s d q v → f q ≡ g q v) → needed D o f ≡ must D u g
asked s d D u o h e y t f g same = ap (λ (x : Outcome Hit). then x (hit_at D f)) e ∙ go u h y t
  where
    go : (u : Under) (h : Hit) → Says u h → ((q : ℕ) (v : Value) → u ≡ under q v → Stands s d q v) → hit_at D f h ≡ must D u g
    go u h (it-is p q v) t = same q v (t q v refl)
    go u h (it-is-not p) t = refl

-- ---- a text that is too long, seen by the first search

module _ (s : List ℕ) (o : Outcome Hit) where
  pub sought-limited : (p : ℕ) (k : List ℕ) → o ≡ sought_from s p k → Limited s o
  sought-limited p k e = subst (λ (x : Outcome Hit). Limited s x) (sym e) (limited-seek s p (length s) k)

  module _ (h : Limited s o) where
    pub after-limited : (k : List ℕ) → Limited s (sought_after s o k)
    after-limited k = limited-then s o (λ i. sought_from s (stopped i) k) h

    pub needed-limited : {A : Type 0} (d : ℕ) (f : ℕ → Outcome A) → Limited s (needed d o f)
    needed-limited d f = limited-then s o (hit_at d f) h

same_stop : (h : Hit) → stopped h ≡ place_of h
same_stop (found p q) = refl
same_stop (missing p) = refl

-- the next search, as the code goes on from the one before
pub sought-next : (s : List ℕ) (d p : ℕ) (es : Entries) (o : Outcome Hit) (h : Hit) → o ≡ taken h → (k : List ℕ) (n : Seeks s d p es k (place_of h)) → sought_after s o k ≡ taken n.hit
sought-next s d p es o h e k n = ap (λ (x : Outcome Hit). sought_after s x k) e ∙ ap (λ (q : ℕ). sought_from s q k) (same_stop h) ∙ n.seen
