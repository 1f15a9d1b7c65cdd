-- Two answers that a contract of the reader permits are the same: document 01's words tell the answers apart. Assumes nothing.
use Rattle.std.proofs.Common.{Err, Ok, Result, ◌≡◌, refl, sym, ap, ◌∙◌, ℕ}
use Rattle.refusal.specs.Paper.{paper, Outcome, taken, refused}
use Rattle.refusal.specs.declared.Refusal.{Refusal}
use Rattle.tracker.specs.Entries.{PeerEntry, packed, listed, PeerStep, packed_paper, listed_paper}
use Rattle.tracker.specs.Reply.{Answer, failure, compact, listing}
use Rattle.tracker.specs.Reading.{reply_paper, peer_paper}
use Rattle.tracker.specs.declared.Reply.{Reply}
use Rattle.tracker.specs.declared.Reply.TheVariants.{Failure, Compact, List as Listing}
use Rattle.tracker.specs.declared.compact.Packed.{Packed as SixBytes}
use Rattle.tracker.specs.declared.listed.Listed.{Listed as Dictionary}
use Rattle.refusal.proofs.Outcomes.{paper-determined}
use Rattle.tracker.specs.declared.Found.{Found}
use Rattle.tracker.specs.declared.Found.TheVariants.{Packed, Listed}

abbrev refusal_as : ℕ → ℕ → Refusal
refusal_as n p = record { number = n; place = p }

-- the way back
abbrev reply_as : Outcome (Answer ℕ) → Result Reply Refusal
reply_as (taken (failure p)) = Ok (Failure p)
reply_as (taken (compact n p k)) = Ok (Compact (record { interval = n; count = k; first = p }))
reply_as (taken (listing n p k)) = Ok (Listing (record { interval = n; count = k; first = p }))
reply_as (refused n p) = Err (refusal_as n p)

abbrev found_as_of : Outcome PeerEntry → Result Found Refusal
found_as_of (taken (packed x)) = Ok (Packed x)
found_as_of (taken (listed x)) = Ok (Listed x)
found_as_of (refused n p) = Err (refusal_as n p)

-- what an entry of the other form would be is of no account
abbrev packing_by : PeerEntry → ℕ → Result (SixBytes × ℕ) Refusal
packing_by (packed x) q = Ok (x, q)
packing_by (listed x) q = Err (refusal_as 0 q)

abbrev packing_as : Outcome PeerStep → Result (SixBytes × ℕ) Refusal
packing_as (taken x) = packing_by x.entry x.next
packing_as (refused n p) = Err (refusal_as n p)

abbrev listing_by : PeerEntry → ℕ → Result (Dictionary × ℕ) Refusal
listing_by (packed x) q = Err (refusal_as 0 q)
listing_by (listed x) q = Ok (x, q)

abbrev listing_as : Outcome PeerStep → Result (Dictionary × ℕ) Refusal
listing_as (taken x) = listing_by x.entry x.next
listing_as (refused n p) = Err (refusal_as n p)

reply-again : (r : Result Reply Refusal) → reply_as (reply_paper r) ≡ r
reply-again (Ok (Failure p)) = refl
reply-again (Ok (Compact p)) = refl
reply-again (Ok (Listing p)) = refl
reply-again (Err r) = refl

found-again : (r : Result Found Refusal) → found_as_of (peer_paper r) ≡ r
found-again (Ok (Packed x)) = refl
found-again (Ok (Listed x)) = refl
found-again (Err r) = refl

packing-again : (r : Result (SixBytes × ℕ) Refusal) → packing_as (packed_paper r) ≡ r
packing-again (Ok (x, q)) = refl
packing-again (Err r) = refl

listing-again : (r : Result (Dictionary × ℕ) Refusal) → listing_as (listed_paper r) ≡ r
listing-again (Ok (x, q)) = refl
listing-again (Err r) = refl

-- read, and peer
pub read-determined : (o : Outcome (Answer ℕ)) (r t : Result Reply Refusal) → reply_paper r ≡ o → reply_paper t ≡ o → r ≡ t
read-determined o r t e f = sym (reply-again r) ∙ ap reply_as (e ∙ sym f) ∙ reply-again t

pub peer-determined : (o : Outcome PeerEntry) (r t : Result Found Refusal) → peer_paper r ≡ o → peer_paper t ≡ o → r ≡ t
peer-determined o r t e f = sym (found-again r) ∙ ap found_as_of (e ∙ sym f) ∙ found-again t

-- packed_at and compact::nth, listed_at and listed::nth, count
pub packed-determined : (o : Outcome PeerStep) (r t : Result (SixBytes × ℕ) Refusal) → packed_paper r ≡ o → packed_paper t ≡ o → r ≡ t
packed-determined o r t e f = sym (packing-again r) ∙ ap packing_as (e ∙ sym f) ∙ packing-again t

pub listed-determined : (o : Outcome PeerStep) (r t : Result (Dictionary × ℕ) Refusal) → listed_paper r ≡ o → listed_paper t ≡ o → r ≡ t
listed-determined o r t e f = sym (listing-again r) ∙ ap listing_as (e ∙ sym f) ∙ listing-again t

pub count-determined : (o : Outcome ℕ) (r t : Result ℕ Refusal) → paper r ≡ o → paper t ≡ o → r ≡ t
count-determined = paper-determined
