-- A refusal of the reader is given exactly where its cause holds. Assumes nothing.
use Rattle.std.proofs.Common.{◌≡◌, ap, ◌∙◌, ⊎_elim, List, ℕ}
use Rattle.refusal.specs.Paper.{Outcome, taken, refused, then}
use Rattle.refusal.proofs.Outcomes.{then-refused}
use Rattle.bencode.specs.Value.{Value}
use Rattle.bencode.specs.Decode.{decode}
use Rattle.bencode.proofs.Exact.{taken_fine}
use Rattle.bencode_walk.specs.Stands.{Stands}
use Rattle.bencode_walk.proofs.Standing.{fine-stands}
use Rattle.bencode_fields.specs.Values.{dictionary_at}
use Rattle.tracker.specs.Reply.{reply_in, reply_of}
use Rattle.tracker.specs.Causes.{WhyRefused, no-bencode, no-reply}
use Rattle.tracker.proofs.Checking.{reply-checks}

stands : (s : List ℕ) (v : Value) → decode s ≡ taken v → Stands s 32 0 v
stands s v e = fine-stands s v (taken_fine s v e)

-- a refusal of the reader: the text is no bencode, or its value is no reply, with the number and place of what is wrong
pub reply-causes : (s : List ℕ) (n p : ℕ) → reply_of s ≡ refused n p → WhyRefused s n p
unfolding reply_of
reply-causes s n p e =
    ⊎_elim (no-bencode n p) (λ (h : (v : Value) × (decode s ≡ taken v) × (then (dictionary_at 0 v) reply_in ≡ refused n p)). no-reply h.0 n p h.1 ((reply-checks s h.0 (stands s h.0 h.1)).blames n p h.2))
    (then-refused (decode s) (λ v. then (dictionary_at 0 v) reply_in) n p e)

-- and where a cause holds, that refusal is given
pub reply-refused : (s : List ℕ) (n p : ℕ) → WhyRefused s n p → reply_of s ≡ refused n p
unfolding reply_of
reply-refused s n p (no-bencode m q e) = ap (λ (o : Outcome Value). then o (λ v. then (dictionary_at 0 v) reply_in)) e
reply-refused s n p (no-reply v m q e h) = ap (λ (o : Outcome Value). then o (λ w. then (dictionary_at 0 w) reply_in)) e ∙ (reply-checks s v (stands s v e)).refuses m q h
