-- The code's answers in document 01's words, and what its parts answer on any text. Assumes nothing: these are definitions.
-- From `compact_of` on they serve inner contracts alone and need not be believed: `read_whole` of tracker/proofs/Agreeing.antt ties them to Reply.antt.
use Rattle.refusal.specs.declared.Refusal.{Refusal}
use Rattle.std.specs.Prelude.{cond, List, ℕ, ◌+◌, ◌*◌, ◌/◌, ◌%◌, eqb, ltb, Err, Ok, Result}
use Rattle.refusal.specs.Paper.{Outcome, taken, refused, refusal, map, then}
use Rattle.refusal.specs.Numbers.{kind, peer, beyond}
use Rattle.refusal.specs.Limits.{longest_interval}
use Rattle.bencode_walk.specs.Walk.{Head, string, integer, long, list, dictionary, end, look_of, Hit, found, missing}
use Rattle.bencode_fields.specs.Looks.{string_of, natural_of, dictionary_of, needed, sought_from, sought_after}
use Rattle.tracker.specs.Keys.{failure_reason, interval, peers}
use Rattle.tracker.specs.Entries.{PeerEntry, packed, listed, packed_at, count_of, nth_at}
use Rattle.tracker.specs.Reply.{Answer, failure, compact, listing}
use Rattle.tracker.specs.declared.Reply.{Reply}
use Rattle.tracker.specs.declared.Reply.TheVariants.{Failure, Compact, List as Listing}
use Rattle.tracker.specs.declared.Found.{Found}
use Rattle.tracker.specs.declared.Found.TheVariants.{Packed, Listed}

abbrev pub reply_paper : Result Reply Refusal → Outcome (Answer ℕ)
reply_paper (Ok (Failure p)) = taken (failure p)
reply_paper (Ok (Compact p)) = taken (compact p.interval p.first p.count)
reply_paper (Ok (Listing p)) = taken (listing p.interval p.first p.count)
reply_paper (Err r) = refusal r

-- how many entries a reply has: none beside a failure reason or a refusal
abbrev pub entries_in : Answer ℕ → ℕ
entries_in (failure p) = 0
entries_in (compact n p k) = k
entries_in (listing n p k) = k

abbrev pub entry_count : Outcome (Answer ℕ) → ℕ
entry_count (taken x) = entries_in x
entry_count (refused n p) = 0

abbrev pub peer_paper : Result Found Refusal → Outcome PeerEntry
peer_paper (Ok (Packed x)) = taken (packed x)
peer_paper (Ok (Listed x)) = taken (listed x)
peer_paper (Err r) = refusal r

-- a string of m bytes at a, whose value stands at p
abbrev pub compact_of : ℕ → ℕ → ℕ → ℕ → Outcome (Answer ℕ)
compact_of n p a m = cond (eqb (m % 6) 0) (taken (compact n a (m / 6))) (refused peer p)

abbrev pub listing_of : List ℕ → ℕ → ℕ → Outcome (Answer ℕ)
listing_of s n q = map (listing n q) (count_of s q)

abbrev pub peers_in : List ℕ → ℕ → ℕ → Head → Outcome (Answer ℕ)
peers_in s n p (string a m q) = compact_of n p a m
peers_in s n p (integer z q) = refused kind p
peers_in s n p (long a m q) = refused kind p
peers_in s n p (list q) = listing_of s n q
peers_in s n p (dictionary q) = refused kind p
peers_in s n p (end q) = refused kind p

abbrev pub peers_of : List ℕ → ℕ → ℕ → Outcome (Answer ℕ)
peers_of s n p = then (look_of s p) (peers_in s n p)

abbrev pub answered_of : List ℕ → ℕ → Outcome (Answer ℕ)
answered_of s p =
    then (needed 0 (sought_from s p interval) (natural_of longest_interval s)) (λ n.
    needed 0 (sought_after s (sought_from s p interval) peers) (peers_of s n))

abbrev pub failure_of : List ℕ → ℕ → Outcome (Answer ℕ)
failure_of s q = map failure (string_of s q)

abbrev pub top_by : List ℕ → Hit → Outcome (Answer ℕ)
top_by s (found p q) = failure_of s q
top_by s (missing p) = answered_of s p

abbrev pub top_of : List ℕ → ℕ → Outcome (Answer ℕ)
top_of s first = then (sought_from s first failure_reason) (top_by s)

abbrev pub whole_of : List ℕ → Outcome (Answer ℕ)
whole_of s = then (dictionary_of s 0) (top_of s)

-- entry number n of a reply that was read
abbrev pub entry_at : List ℕ → ℕ → Answer ℕ → Outcome PeerEntry
entry_at s n (failure p) = refused beyond 0
entry_at s n (compact i first count) = cond (ltb n count) (map (λ x. x.entry) (packed_at s (first + n * 6))) (refused beyond 0)
entry_at s n (listing i first count) = cond (ltb n count) (map (λ x. x.entry) (nth_at n s first)) (refused beyond 0)
