-- Where the parts stand that a torrent or a reply hands back. Assumes nothing: these are definitions.
use Rattle.std.specs.Prelude.{◌≡◌, List, [], ◌∷◌, ℕ, suc, ◌+◌, length}
use Rattle.refusal.specs.declared.Part.{Part}
use Rattle.bencode_scalar.specs.Written.{decimal}
use Rattle.bencode.specs.Value.{Items, Entries, str, list, dict, none, item, encode}
use Rattle.bencode_walk.specs.Lookup.{under, lookup}
use Rattle.torrent_metainfo.specs.Keys.{path_key}
use Rattle.torrent_contents.specs.declared.Entry.{Entry as FileEntry}
use Rattle.tracker.specs.Keys.{failure_reason, peers, ip, peer_id}
use Rattle.tracker.specs.Entries.{PeerEntry, listed}
use Rattle.tracker.specs.Reply.{Answer, failure, compact, listing}

-- under a key of a dictionary whose first key stands at p there is a string, and the part a is its bytes: it begins past the string's length and colon
abbrev pub PartUnder : ℕ → Entries → List ℕ → Part → Type 0
PartUnder p es key a = (q : ℕ) × (bs : List ℕ) × (lookup p es key ≡ under q (str bs)) × (a ≡ record { from = q + suc (length (decimal (length bs))); len = length bs })

-- the entries handed back for the dictionaries that stand from p on: id and ip of each are parts of its own
pub data PeersPlaced : ℕ → Items → List PeerEntry → Type 0 where
  no-peers : (p : ℕ) → PeersPlaced p none []
  one-peer : (p : ℕ) (es : Entries) (vs : Items) (i a : Part) (n : ℕ) (l : List PeerEntry) → PartUnder (p + 1) es peer_id i → PartUnder (p + 1) es ip a
      → PeersPlaced (p + length (encode (dict es))) vs l → PeersPlaced p (item (dict es) vs) (listed (record { id = i; ip = a; port = n }) ∷ l)

-- a reply's failure reason is the part of its own key; the first entry stands past the length and colon of the string under peers, or past the list's l
abbrev pub ReplyPlaced : Entries → Answer (List PeerEntry) → Type 0
ReplyPlaced es (failure a) = PartUnder 1 es failure_reason a
ReplyPlaced es (compact n p l) = (q : ℕ) × (bs : List ℕ) × (lookup 1 es peers ≡ under q (str bs)) × (p ≡ q + suc (length (decimal (length bs))))
ReplyPlaced es (listing n p l) = (q : ℕ) × (vs : Items) × (lookup 1 es peers ≡ under q (list vs)) × (p ≡ q + 1) × PeersPlaced (q + 1) vs l

-- the entries handed back for the files whose dictionaries stand from p on: the path of each is the place of its first element, past the l of its own list
pub data FilesPlaced : ℕ → Items → List FileEntry → Type 0 where
  no-files : (p : ℕ) → FilesPlaced p none []
  one-file : (p q : ℕ) (es : Entries) (ps vs : Items) (e : FileEntry) (l : List FileEntry) → lookup (p + 1) es path_key ≡ under q (list ps) → e.path ≡ q + 1
      → FilesPlaced (p + length (encode (dict es))) vs l → FilesPlaced p (item (dict es) vs) (e ∷ l)
