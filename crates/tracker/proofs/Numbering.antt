-- How many entries a reply has, and which numbers they have. Assumes nothing.
use Rattle.std.proofs.Common.{◌≡◌, refl, ap, List, ℕ, suc, ◌<◌, ◌≤◌, arith, length}
use Rattle.refusal.specs.Paper.{taken, refused}
use Rattle.tracker.specs.Entries.{PeerEntry}
use Rattle.tracker.specs.Reply.{Answer, failure, compact, listing, counted, nth_of}
use Rattle.bencode_fields.proofs.Nth.{nth-within, nth_beyond}
use Rattle.tracker.specs.Reading.{entries_in}
use Rattle.tracker.specs.Exact.{Peer, ReplySays, said_entries, ShowsPeers, shows-none, shows-one, ShowsReply, shows-failure, shows-packs, shows-lists}
use Rattle.tracker.proofs.Agreeing.{sixes-length}

as_many : (s : List ℕ) (l : List PeerEntry) (k : List Peer) → ShowsPeers s l k → length l ≡ length k
as_many s l k shows-none = refl
as_many s l k (shows-one i a x m j h g more) = ap suc (as_many s m j more)

-- the number of entries is the value's
pub entries-said : (s : List ℕ) (x : Answer (List PeerEntry)) (r : ReplySays) → ShowsReply s x r → entries_in (counted x) ≡ said_entries r
entries-said s x r (shows-failure p bs h) = refl
entries-said s x r (shows-packs n p bs h) = sixes-length bs
entries-said s x r (shows-lists n p l k h) = as_many s l k h

-- a number below that of the entries has its entry, and every other is refused by 31
pub entry-within : (n : ℕ) (x : Answer (List PeerEntry)) → n < entries_in (counted x) → (y : PeerEntry) × (nth_of n x ≡ taken y)
entry-within n (failure p) h = absurd (omega arith)
entry-within n (compact i p l) h = nth-within n l h
entry-within n (listing i p l) h = nth-within n l h

pub entry-beyond : (n : ℕ) (x : Answer (List PeerEntry)) → entries_in (counted x) ≤ n → nth_of n x ≡ refused 31 0
entry-beyond n (failure p) h = refl
entry-beyond n (compact i p l) h = nth_beyond n l h
entry-beyond n (listing i p l) h = nth_beyond n l h
