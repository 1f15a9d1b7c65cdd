-- What a reply and its entries say to C, in numbers. Assumes nothing: these are definitions.
use Rattle.std.specs.Prelude.{List, [], ◌∷◌, ℕ}
use Rattle.tracker.specs.Reply.{Answer, failure, compact, listing}
use Rattle.tracker.specs.Entries.{PeerEntry, packed, listed, PeerStep}

-- the form, and its first byte and length; or the form, the seconds to wait, how many entries, the first one's place
abbrev pub reply_detail : Answer ℕ → List ℕ
reply_detail (failure p) = 1 ∷ p.from ∷ p.len ∷ 0 ∷ []
reply_detail (compact n first count) = 2 ∷ n ∷ count ∷ first ∷ []
reply_detail (listing n first count) = 3 ∷ n ∷ count ∷ first ∷ []

-- an entry, and the place past it
abbrev pub entry_words : PeerEntry → ℕ → List ℕ
entry_words (packed x) next = x.address.0 ∷ x.address.1 ∷ x.address.2 ∷ x.address.3 ∷ x.port ∷ next ∷ []
entry_words (listed x) next = x.id.from ∷ x.id.len ∷ x.ip.from ∷ x.ip.len ∷ x.port ∷ next ∷ []

abbrev pub entry_detail : PeerStep → List ℕ
entry_detail x = entry_words x.entry x.next
