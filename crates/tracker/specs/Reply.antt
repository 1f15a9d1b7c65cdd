-- What a reply says: document 01's rules for the decoded value, in the order of its checks, with the number and place of each refusal.
-- Assumes nothing: these are definitions.
use Rattle.std.specs.Prelude.{cond, List, [], ◌∷◌, ℕ, ◌+◌, ◌%◌, eqb, length}
use Rattle.refusal.specs.Paper.{Outcome, taken, refused, map, then}
use Rattle.refusal.specs.Numbers.{kind, peer, beyond}
use Rattle.refusal.specs.Limits.{longest_interval, largest_port}
use Rattle.refusal.specs.declared.Part.{Part}
use Rattle.bencode.specs.Value.{Value, Items, Entries, str, int, list, dict, none, item, encode}
use Rattle.bencode.specs.Decode.{decode}
use Rattle.bencode_walk.specs.Lookup.{Under, nothing, under, lookup}
use Rattle.bencode_fields.specs.Values.{part_of, string_at, natural_at, dictionary_at, must}
use Rattle.bencode_fields.specs.Nth.{nth}
use Rattle.tracker.specs.Keys.{failure_reason, interval, peers, ip, peer_id, port}
use Rattle.tracker.specs.Entries.{PeerEntry, packed, listed, packed_of, id_length}
use Rattle.tracker.specs.declared.listed.Listed.{Listed}

-- a failure reason; or the seconds to wait, the place of the first entry, and the entries: of six bytes, or of a list
pub data Answer (E : Type 0) : Type 0 where
  failure : Part → Answer E
  compact : ℕ → ℕ → E → Answer E
  listing : ℕ → ℕ → E → Answer E

-- six bytes to an entry
unfoldable pub sixes : List ℕ → List PeerEntry
sixes [] = []
sixes (a ∷ []) = []
sixes (a ∷ b ∷ []) = []
sixes (a ∷ b ∷ c ∷ []) = []
sixes (a ∷ b ∷ c ∷ d ∷ []) = []
sixes (a ∷ b ∷ c ∷ d ∷ e ∷ []) = []
sixes (a ∷ b ∷ c ∷ d ∷ e ∷ f ∷ more) = packed (packed_of a b c d e f) ∷ sixes more

-- a peer id is a string of 20 bytes, else 15
abbrev pub id_at : ℕ → Value → Outcome Part
id_at p v = then (string_at p v) (id_length p)

-- the dictionary at p: peer id, ip, port
abbrev pub peer_in : ℕ → Entries → Outcome Listed
peer_in p es =
    then (must p (lookup (p + 1) es peer_id) id_at) (λ id.
    then (must p (lookup (p + 1) es ip) string_at) (λ a.
    then (must p (lookup (p + 1) es port) (natural_at largest_port)) (λ n.
    taken (record { id = id; ip = a; port = n }))))

abbrev pub peer_at : ℕ → Value → Outcome Listed
peer_at p v = then (dictionary_at p v) (peer_in p)

-- the items that stand from p on, each a peer
unfoldable pub peers_from : ℕ → Items → Outcome (List PeerEntry)
peers_from p none = taken []
peers_from p (item v vs) = then (peer_at p v) (λ x. map (λ l. listed x ∷ l) (peers_from (p + length (encode v)) vs))

-- the peers at p: a string of 6-byte entries, else 15; or a list
abbrev pub peers_at : ℕ → ℕ → Value → Outcome (Answer (List PeerEntry))
peers_at n p (str bs) = cond (eqb (length bs % 6) 0) (taken (compact n (part_of p bs).from (sixes bs))) (refused peer p)
peers_at n p (int z) = refused kind p
peers_at n p (list vs) = map (listing n (p + 1)) (peers_from (p + 1) vs)
peers_at n p (dict es) = refused kind p

-- interval, then peers
abbrev pub answered_in : Entries → Outcome (Answer (List PeerEntry))
answered_in es = then (must 0 (lookup 1 es interval) (natural_at longest_interval)) (λ n. must 0 (lookup 1 es peers) (peers_at n))

-- a failure reason is the answer, and the rest is not looked at
abbrev pub reply_by : Entries → Under → Outcome (Answer (List PeerEntry))
reply_by es nothing = answered_in es
reply_by es (under p v) = map failure (string_at p v)

abbrev pub reply_in : Entries → Outcome (Answer (List PeerEntry))
reply_in es = reply_by es (lookup 1 es failure_reason)

-- the reply that a text is
unfoldable pub reply_of : List ℕ → Outcome (Answer (List PeerEntry))
reply_of s = then (decode s) (λ v. then (dictionary_at 0 v) reply_in)

-- the same with the number of entries in their place
abbrev pub counted : Answer (List PeerEntry) → Answer ℕ
counted (failure p) = failure p
counted (compact n p l) = compact n p (length l)
counted (listing n p l) = listing n p (length l)

-- entry number n; past the last it is 31
abbrev pub nth_of : ℕ → Answer (List PeerEntry) → Outcome PeerEntry
nth_of n (failure p) = refused beyond 0
nth_of n (compact i p l) = nth n l
nth_of n (listing i p l) = nth n l
