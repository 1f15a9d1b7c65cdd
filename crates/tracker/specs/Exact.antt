-- What a reply is: a predicate on decoded values, without places and without an order of checks. Assumes nothing: these are definitions.
use Rattle.std.specs.Prelude.{◌≡◌, List, [], ◌∷◌, ℕ, ◌/◌, ◌%◌, ◌≤◌, pos, length, take, drop}
use Rattle.refusal.specs.Limits.{longest_interval, largest_port}
use Rattle.refusal.specs.Paper.{taken}
use Rattle.refusal.specs.Parts.{bytes_at}
use Rattle.refusal.specs.declared.Part.{Part}
use Rattle.bencode.specs.Value.{Value, Items, Entries, str, int, list, dict, none, item}
use Rattle.bencode.specs.Exact.{Fine}
use Rattle.bencode_walk.specs.Has.{Has}
use Rattle.tracker.specs.Keys.{failure_reason, interval, peers, ip, peer_id, port}
use Rattle.tracker.specs.Entries.{PeerEntry, listed}
use Rattle.tracker.specs.Reply.{Answer, failure, compact, listing, sixes, reply_of}

-- a peer of a list
pub record Peer : Type 0 where
  pub id : List ℕ
  pub ip : List ℕ
  pub port : ℕ

-- a dictionary is that peer
pub record IsPeer (es : Entries) (x : Peer) : Type 0 where
  pub has-id : Has es peer_id (str x.id)
  pub id-long : length x.id ≡ 20
  pub has-ip : Has es ip (str x.ip)
  pub has-port : Has es port (int (pos x.port))
  pub port-small : x.port ≤ largest_port

-- the items of a list are those peers
pub data ArePeers : Items → List Peer → Type 0 where
  no_more : ArePeers none []
  one_more : (es : Entries) (vs : Items) (x : Peer) (l : List Peer) → IsPeer es x → ArePeers vs l → ArePeers (item (dict es) vs) (x ∷ l)

-- what a reply says: why it failed; or the seconds to wait, and the bytes of its entries or its peers
pub data ReplySays : Type 0 where
  failed : List ℕ → ReplySays
  packs : ℕ → List ℕ → ReplySays
  lists : ℕ → List Peer → ReplySays

-- how many entries that are
abbrev pub said_entries : ReplySays → ℕ
said_entries (failed bs) = 0
said_entries (packs n bs) = length bs / 6
said_entries (lists n l) = length l

-- a reply that is no failure, with n seconds to wait
pub record Waits (es : Entries) (n : ℕ) : Type 0 where
  pub no-failure : (v : Value) → Has es failure_reason v → ⊥
  pub has-interval : Has es interval (int (pos n))
  pub interval-small : n ≤ longest_interval

-- a value is a reply that says so
pub data IsReply : Value → ReplySays → Type 0 where
  fails : (es : Entries) (bs : List ℕ) → Has es failure_reason (str bs) → IsReply (dict es) (failed bs)
  has-string : (es : Entries) (n : ℕ) (bs : List ℕ) → Waits es n → Has es peers (str bs) → length bs % 6 ≡ 0 → IsReply (dict es) (packs n bs)
  has-list : (es : Entries) (n : ℕ) (vs : Items) (l : List Peer) → Waits es n → Has es peers (list vs) → ArePeers vs l → IsReply (dict es) (lists n l)

-- a part of the text s is these bytes
abbrev pub Is : List ℕ → Part → List ℕ → Type 0
Is s p bs = bytes_at s p ≡ bs

-- entries that are handed back are those peers
pub data ShowsPeers (s : List ℕ) : List PeerEntry → List Peer → Type 0 where
  shows-none : ShowsPeers s [] []
  shows-one : (i a : Part) (x : Peer) (l : List PeerEntry) (k : List Peer) → Is s i x.id → Is s a x.ip → ShowsPeers s l k → ShowsPeers s (listed (record { id = i; ip = a; port = x.port }) ∷ l) (x ∷ k)

-- an answer's fields are what is said
pub data ShowsReply (s : List ℕ) : Answer (List PeerEntry) → ReplySays → Type 0 where
  shows-failure : (p : Part) (bs : List ℕ) → Is s p bs → ShowsReply s (failure p) (failed bs)
  shows-packs : (n p : ℕ) (bs : List ℕ) → take (length bs) (drop p s) ≡ bs → ShowsReply s (compact n p (sixes bs)) (packs n bs)
  shows-lists : (n p : ℕ) (l : List PeerEntry) (k : List Peer) → ShowsPeers s l k → ShowsReply s (listing n p l) (lists n k)

-- taken exactly when the text is the encoding of a value that is a reply and keeps the limits, with that value's fields
pub record ReplyExact (s : List ℕ) : Type 0 where
  pub only : (x : Answer (List PeerEntry)) → reply_of s ≡ taken x → (v : Value) × (r : ReplySays) × Fine s v × IsReply v r × ShowsReply s x r
  pub every : (v : Value) (r : ReplySays) → Fine s v → IsReply v r → (x : Answer (List PeerEntry)) × (reply_of s ≡ taken x) × ShowsReply s x r
