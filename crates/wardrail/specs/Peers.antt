-- What an entry of a reply says to C, in numbers. Assumes nothing: these are definitions.
use Rattle.std.specs.Prelude.{List, [], ◌∷◌, ℕ}
use Rattle.tracker.specs.Entries.{PeerEntry, packed, listed}

-- 2, four bytes of address, and the port; or 3, first byte and length of the peer id and of the ip, and the port
abbrev pub peer_detail : PeerEntry → List ℕ
peer_detail (packed x) = 2 ∷ x.address.0 ∷ x.address.1 ∷ x.address.2 ∷ x.address.3 ∷ x.port ∷ []
peer_detail (listed x) = 3 ∷ x.id.from ∷ x.id.len ∷ x.ip.from ∷ x.ip.len ∷ x.port ∷ []
