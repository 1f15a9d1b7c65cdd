-- Each refusal is given exactly when its cause holds. Assumes nothing.
use mathlib.Core.Path.{◌≡◌, refl, sym}
use mathlib.Core.Bool.{Bool, true, false, cond}
use mathlib.Core.List.{List}
use Prim.Native.Nat.{ℕ, ◌+◌, ◌*◌}
use lib.Dec.{ltb, leb}
use lib.ListN.{length, get_or}
use borrow.Author.Tests.{ltb-true, ltb-false, leb-false, lt-leb, lt-ltb, le-ltb}
use Rattle.refusal.specs.Paper.{Outcome, taken, refused}
use Rattle.refusal.specs.Numbers as no
use Rattle.refusal.proofs.Cases.{cannot, false-if}
use Rattle.refusal.proofs.Outcomes.{not-refused, same-refusal}
use Rattle.torrent_blocks.specs.Spans.{Span, lengths, parts_of, held_in, nowhere}
use Rattle.torrent_blocks.specs.Answers.{Spot, spot, spot_at, pieces, keeps, lies, size_of, block_of, byte_of, left, parts_written}
use Rattle.torrent_blocks.specs.Covers.{Block, Rules, SizeCause, size-range, size-beyond, BlockCause, block-range, block-beyond, block-outside, block_room, ByteCause, byte-range, byte-beyond, byte-outside}
use Rattle.torrent_blocks.proofs.Legal.{lawful-is, is_lawful}
use Rattle.torrent_blocks.proofs.Whole.{lies-is, is-lies}

-- ---- a test that fails says that its rule does not hold

module _ (ss : List Span) (pl : ℕ) where
  breaks : keeps ss pl ≡ false → Rules ss pl → ⊥
  breaks e h = cannot _ e (is_lawful pl (lengths ss) (pieces ss pl) h)

  rules-of : keeps ss pl ≡ true → Rules ss pl
  rules-of e = lawful-is pl (lengths ss) (pieces ss pl) e

  keeps-of : Rules ss pl → keeps ss pl ≡ true
  keeps-of h = is_lawful pl (lengths ss) (pieces ss pl) h

  not-keeps : (Rules ss pl → ⊥) → keeps ss pl ≡ false
  not-keeps h = false-if (keeps ss pl) (λ e. h (rules-of e))

not-lies : (held o n : ℕ) → (Block held o n → ⊥) → lies held o n ≡ false
not-lies held o n h = false-if (lies held o n) (λ e. h (lies-is held o n e))

-- ---- a block

module _ (ss : List Span) (pl p o n : ℕ) (out : List ℕ) where
  pub block-refused-only : (r q : ℕ) → (parts_written (block_of ss pl (spot p o) n) out).answer ≡ refused r q → BlockCause ss pl (spot p o) n (length out) r × (q ≡ 0)
  unfolding block_of parts_written
  block-refused-only r q =
      by (keeps ss pl) (ltb p (pieces ss pl)) (lies (held_in ss pl p) o n) (leb (3 * length (parts_of ss (p * pl + o) n)) (length out)) refl refl refl refl
    where
      number : (k : ℕ) → ◌≡◌ {A = Outcome ℕ} (refused k 0) (refused r q) → BlockCause ss pl (spot p o) n (length out) k → BlockCause ss pl (spot p o) n (length out) r × (q ≡ 0)
      number k e h = let s = same-refusal e in (rw (← s.0) h, sym s.1)

      by : (a b c d : Bool) → keeps ss pl ≡ a → ltb p (pieces ss pl) ≡ b → lies (held_in ss pl p) o n ≡ c → leb (3 * length (parts_of ss (p * pl + o) n)) (length out) ≡ d
          → (parts_written (cond a (cond b (cond c (taken (parts_of ss (p * pl + o) n)) (refused no.outside 0)) (refused no.beyond 0)) (refused no.range 0)) out).answer ≡ refused r q
          → BlockCause ss pl (spot p o) n (length out) r × (q ≡ 0)
      by true true true true f g h i e = not-refused (rw i at e)
      by true true true false f g h i e =
          number no.room (rw i at e) (block_room (rules-of ss pl f) (ltb-true _ _ g) (lies-is (held_in ss pl p) o n h) (leb-false _ _ i))
      by true true false d f g h i e =
          number no.outside e (block-outside (rules-of ss pl f) (ltb-true _ _ g) (λ b. cannot _ h (is-lies (held_in ss pl p) o n b)))
      by true false c d f g h i e = number no.beyond e (block-beyond (rules-of ss pl f) (ltb-false _ _ g))
      by false b c d f g h i e = number no.range e (block-range (breaks ss pl f))

  -- and the output is as it was
  pub block-refused-every : (r : ℕ) → BlockCause ss pl (spot p o) n (length out) r → parts_written (block_of ss pl (spot p o) n) out ≡ left (refused r 0) out
  unfolding block_of parts_written
  block-refused-every r (block-range h) = rw (not-keeps ss pl h)
  block-refused-every r (block-beyond f h) = rw (keeps-of ss pl f, le-ltb p (pieces ss pl) h)
  block-refused-every r (block-outside f g h) = rw (keeps-of ss pl f, lt-ltb p (pieces ss pl) g, not-lies (held_in ss pl p) o n h)
  block-refused-every r (block_room f g h i) =
      rw (keeps-of ss pl f, lt-ltb p (pieces ss pl) g, is-lies (held_in ss pl p) o n h, lt-leb (3 * length (parts_of ss (p * pl + o) n)) (length out) i)

-- ---- a file's byte

module _ (ss : List Span) (pl f o : ℕ) where
  pub byte-refused-only : (r q : ℕ) → byte_of ss pl f o ≡ refused r q → ByteCause ss pl f o r × (q ≡ 0)
  unfolding byte_of
  byte-refused-only r q = by (keeps ss pl) (ltb f (length ss)) (ltb o (get_or ss f nowhere).size) refl refl refl
    where
      number : (k : ℕ) → ◌≡◌ {A = Outcome Spot} (refused k 0) (refused r q) → ByteCause ss pl f o k → ByteCause ss pl f o r × (q ≡ 0)
      number k e h = let s = same-refusal e in (rw (← s.0) h, sym s.1)

      by : (a b c : Bool) → keeps ss pl ≡ a → ltb f (length ss) ≡ b → ltb o (get_or ss f nowhere).size ≡ c
          → cond a (cond b (cond c (taken (spot_at pl ((get_or ss f nowhere).start + o))) (refused no.outside 0)) (refused no.beyond 0)) (refused no.range 0) ≡ refused r q
          → ByteCause ss pl f o r × (q ≡ 0)
      by true true true g h i e = not-refused e
      by true true false g h i e = number no.outside e (byte-outside (rules-of ss pl g) (ltb-true _ _ h) (ltb-false _ _ i))
      by true false c g h i e = number no.beyond e (byte-beyond (rules-of ss pl g) (ltb-false _ _ h))
      by false b c g h i e = number no.range e (byte-range (breaks ss pl g))

  pub byte-refused-every : (r : ℕ) → ByteCause ss pl f o r → byte_of ss pl f o ≡ refused r 0
  unfolding byte_of
  byte-refused-every r (byte-range h) = rw (not-keeps ss pl h)
  byte-refused-every r (byte-beyond g h) = rw (keeps-of ss pl g, le-ltb f (length ss) h)
  byte-refused-every r (byte-outside g h i) = rw (keeps-of ss pl g, lt-ltb f (length ss) h, le-ltb o (get_or ss f nowhere).size i)

-- ---- the length of a piece

module _ (ss : List Span) (pl p : ℕ) where
  pub size-refused-only : (r q : ℕ) → size_of ss pl p ≡ refused r q → SizeCause ss pl p r × (q ≡ 0)
  unfolding size_of
  size-refused-only r q = by (keeps ss pl) (ltb p (pieces ss pl)) refl refl
    where
      number : (k : ℕ) → ◌≡◌ {A = Outcome ℕ} (refused k 0) (refused r q) → SizeCause ss pl p k → SizeCause ss pl p r × (q ≡ 0)
      number k e h = let s = same-refusal e in (rw (← s.0) h, sym s.1)

      by : (a b : Bool) → keeps ss pl ≡ a → ltb p (pieces ss pl) ≡ b
          → cond a (cond b (taken (held_in ss pl p)) (refused no.beyond 0)) (refused no.range 0) ≡ refused r q → SizeCause ss pl p r × (q ≡ 0)
      by true true f g e = not-refused e
      by true false f g e = number no.beyond e (size-beyond (rules-of ss pl f) (ltb-false _ _ g))
      by false b f g e = number no.range e (size-range (breaks ss pl f))

  pub size-refused-every : (r : ℕ) → SizeCause ss pl p r → size_of ss pl p ≡ refused r 0
  unfolding size_of
  size-refused-every r (size-range h) = rw (not-keeps ss pl h)
  size-refused-every r (size-beyond f h) = rw (keeps-of ss pl f, le-ltb p (pieces ss pl) h)
