-- Why a text is no reply: each refusal's number and place, by the check that failed, those before it being kept. Assumes nothing: these are definitions.
use Rattle.std.specs.Prelude.{◌≡◌, List, ℕ, ◌+◌, ◌%◌, ◌<◌, ◌≤◌, pos, length}
use Rattle.refusal.specs.Paper.{taken, refused}
use Rattle.refusal.specs.Numbers.{kind, peer}
use Rattle.refusal.specs.Limits.{longest_interval, largest_port}
use Rattle.bencode.specs.Value.{Value, Items, Entries, str, int, list, dict, item, encode}
use Rattle.bencode.specs.Decode.{decode}
use Rattle.bencode_walk.specs.Lookup.{Under, nothing, under, lookup}
use Rattle.bencode_fields.specs.Causes.{Lacks, NoString, NoNumber, UpTo}
use Rattle.tracker.specs.Keys.{failure_reason, interval, peers, ip, peer_id, port}

-- what is under a key is a string, a string of 20 bytes, a number from 0 to most
abbrev pub AString : Under → Type 0
AString u = (p : ℕ) × (bs : List ℕ) × (u ≡ under p (str bs))

abbrev pub AnId : Under → Type 0
AnId u = (p : ℕ) × (bs : List ℕ) × (u ≡ under p (str bs)) × (length bs ≡ 20)

abbrev pub ANumber : ℕ → Under → Type 0
ANumber most u = (p : ℕ) × (n : ℕ) × (u ≡ under p (int (pos n))) × (n ≤ most)

-- the value at p is a peer
abbrev pub APeer : ℕ → Value → Type 0
APeer p v = (es : Entries) × (v ≡ dict es) × AnId (lookup (p + 1) es peer_id) × AString (lookup (p + 1) es ip) × ANumber largest_port (lookup (p + 1) es port)

-- the value at p is no string, or none of 20 bytes
pub data NoId (p : ℕ) : Value → ℕ → ℕ → Type 0 where
  no-id : (v : Value) (n q : ℕ) → NoString p v n q → NoId p v n q
  other_length : (bs : List ℕ) → (length bs ≡ 20 → ⊥) → NoId p (str bs) peer p

-- the value at p is no peer
pub data NoPeer (p : ℕ) : Value → ℕ → ℕ → Type 0 where
  no-dictionary : (v : Value) → ((es : Entries) → v ≡ dict es → ⊥) → NoPeer p v kind p
  bad-id : (es : Entries) (n q : ℕ) → Lacks p (lookup (p + 1) es peer_id) NoId n q → NoPeer p (dict es) n q
  bad-ip : (es : Entries) (n q : ℕ) → AnId (lookup (p + 1) es peer_id) → Lacks p (lookup (p + 1) es ip) NoString n q → NoPeer p (dict es) n q
  bad-port : (es : Entries) (n q : ℕ) → AnId (lookup (p + 1) es peer_id) → AString (lookup (p + 1) es ip) → Lacks p (lookup (p + 1) es port) (NoNumber (UpTo largest_port)) n q → NoPeer p (dict es) n q

-- the first of the items from p on that is no peer
pub data SomeNoPeer : ℕ → Items → ℕ → ℕ → Type 0 where
  this : (p : ℕ) (v : Value) (vs : Items) (n q : ℕ) → NoPeer p v n q → SomeNoPeer p (item v vs) n q
  later : (p : ℕ) (v : Value) (vs : Items) (n q : ℕ) → APeer p v → SomeNoPeer (p + length (encode v)) vs n q → SomeNoPeer p (item v vs) n q

-- the value at p is neither a string of 6-byte entries nor a list of peers
pub data NoPeers (p : ℕ) : Value → ℕ → ℕ → Type 0 where
  other-kind : (v : Value) → ((bs : List ℕ) → v ≡ str bs → ⊥) → ((vs : Items) → v ≡ list vs → ⊥) → NoPeers p v kind p
  not-whole : (bs : List ℕ) → 0 < length bs % 6 → NoPeers p (str bs) peer p
  bad-peer : (vs : Items) (n q : ℕ) → SomeNoPeer (p + 1) vs n q → NoPeers p (list vs) n q

-- the value is no reply
pub data NoReply : Value → ℕ → ℕ → Type 0 where
  no_top : (v : Value) → ((es : Entries) → v ≡ dict es → ⊥) → NoReply v kind 0
  bad-reason : (es : Entries) (p : ℕ) (v : Value) (n q : ℕ) → lookup 1 es failure_reason ≡ under p v → NoString p v n q → NoReply (dict es) n q
  bad-interval : (es : Entries) (n p : ℕ) → lookup 1 es failure_reason ≡ nothing → Lacks 0 (lookup 1 es interval) (NoNumber (UpTo longest_interval)) n p → NoReply (dict es) n p
  bad-peers : (es : Entries) (n p : ℕ) → lookup 1 es failure_reason ≡ nothing → ANumber longest_interval (lookup 1 es interval) → Lacks 0 (lookup 1 es peers) NoPeers n p → NoReply (dict es) n p

-- the text is no bencode, or its value is no reply
pub data WhyRefused (s : List ℕ) : ℕ → ℕ → Type 0 where
  no-bencode : (n p : ℕ) → decode s ≡ refused n p → WhyRefused s n p
  no-reply : (v : Value) (n p : ℕ) → decode s ≡ taken v → NoReply v n p → WhyRefused s n p
