-- Entries walked one after the other, each from the place past the one before. Assumes nothing: these are definitions.
use Rattle.std.specs.Prelude.{◌≡◌, List, [], ◌∷◌, ℕ}
use Rattle.refusal.specs.Paper.{Outcome, taken}
use Rattle.tracker.specs.Entries.{PeerEntry, PeerStep, packed_at, listed_at}
use Rattle.tracker.specs.Reply.{Answer, failure, compact, listing}

-- from p on, `at` gives the entries of a list in order
pub data Walks (at : ℕ → Outcome PeerStep) : ℕ → List PeerEntry → Type 0 where
  ends : (p : ℕ) → Walks at p []
  goes : (p : ℕ) (x : PeerEntry) (q : ℕ) (l : List PeerEntry) → at p ≡ taken (record { entry = x; next = q }) → Walks at q l → Walks at p (x ∷ l)

-- the entries of a reply, from the place of the first on
abbrev pub Walked : List ℕ → Answer (List PeerEntry) → Type 0
Walked s (failure p) = Unit
Walked s (compact n p l) = Walks (packed_at s) p l
Walked s (listing n p l) = Walks (listed_at s) p l
