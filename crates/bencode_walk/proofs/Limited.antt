-- A text that is too long is refused by 8 at 0 before all else, and what begins with such a look is so too. Assumes nothing.
use mathlib.Core.Path.{◌≡◌, refl, ap}
use mathlib.Core.Bool.{Bool, true, false, cond}
use mathlib.Core.List.{List}
use Prim.Native.Nat.{ℕ, suc, ◌<◌, ◌≤◌}
use lib.Dec.{ltb}
use lib.ListN.{length}
use borrow.Author.Tests.{lt-ltb, le-ltb}
use Rattle.refusal.specs.Paper.{Outcome, refused, then}
use Rattle.refusal.specs.Numbers.{long}
use Rattle.refusal.specs.Limits.{most_text}
use Rattle.bencode.specs.Decode.{unless_long}
use Rattle.bencode_walk.specs.Walk.{look_of, as_entry, entry_of, skip_of, seek_by, seek_of}

module _ {A : Type 0} (s : List ℕ) (o : Outcome A) where
  pub unless-long : most_text < length s → refused long 0 ≡ unless_long s o
  unless-long h = rw (lt-ltb most_text (length s) h)

  pub unless-short : length s ≤ most_text → o ≡ unless_long s o
  unless-short h = rw (le-ltb most_text (length s) h)

  -- the test changes nothing
  abbrev pub Limited : Type 0
  Limited = o ≡ unless_long s o

  pub limited : unless_long s o ≡ unless_long s (unless_long s o)
  limited = go (ltb most_text (length s))
    where
      go : (b : Bool) → cond b (refused long 0) o ≡ cond b (refused long 0) (cond b (refused long 0) o)
      go true = refl
      go false = refl

  pub limited-then : {B : Type 0} (f : A → Outcome B) → Limited → then o f ≡ unless_long s (then o f)
  limited-then {B} f h = go (ltb most_text (length s)) h
    where
      go : (b : Bool) → o ≡ cond b (refused long 0) o → then o f ≡ cond b (refused long 0) (then o f)
      go true e = ap (λ (x : Outcome A). then x f) e
      go false e = refl

module _ (s : List ℕ) (p : ℕ) where
  pub limited-look : Limited s (look_of s p)
  unfolding look_of
  limited-look = limited s _

  pub limited-entry : Limited s (entry_of s p)
  limited-entry = limited-then s (look_of s p) (as_entry p) limited-look

  pub limited-skip : Limited s (skip_of s p)
  unfolding skip_of
  limited-skip = limited s _

  pub limited-seek : (f : ℕ) (k : List ℕ) → Limited s (seek_of (suc f) s p k)
  unfolding seek_of
  limited-seek f k = limited-then s (entry_of s p) (seek_by s p k (λ q. seek_of f s q k)) limited-entry
