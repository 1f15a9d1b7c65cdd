-- A text is taken as a reply exactly when it is the encoding of a value that is one and keeps the limits. Assumes nothing.
use Rattle.std.proofs.Common.{◌≡◌, ap, ◌∙◌, List, ℕ}
use Rattle.refusal.specs.Paper.{Outcome, taken, then}
use Rattle.refusal.proofs.Outcomes.{then-taken}
use Rattle.bencode.specs.Value.{Value}
use Rattle.bencode.specs.Decode.{decode}
use Rattle.bencode.specs.Exact.{Fine}
use Rattle.bencode.proofs.Exact.{taken_fine, fine-taken}
use Rattle.bencode_walk.proofs.Standing.{fine-stands}
use Rattle.bencode_fields.specs.Values.{dictionary_at}
use Rattle.tracker.specs.Entries.{PeerEntry}
use Rattle.tracker.specs.Reply.{Answer, reply_in, reply_of}
use Rattle.tracker.specs.Exact.{ReplySays, IsReply, ShowsReply, ReplyExact}
use Rattle.tracker.proofs.Checking.{reply-checks}

module _ (s : List ℕ) where
  -- the only texts that are taken
  pub reply-only : (x : Answer (List PeerEntry)) → reply_of s ≡ taken x → (v : Value) × (r : ReplySays) × Fine s v × IsReply v r × ShowsReply s x r
  unfolding reply_of
  reply-only x e =
      let t = then-taken (decode s) (λ v. then (dictionary_at 0 v) reply_in) x e in
      let f = taken_fine s t.0 t.1 in
      let h = (reply-checks s t.0 (fine-stands s t.0 f)).only x t.2 in
      (t.0, h.0, f, h.1, h.2)

  -- every such text is taken
  pub reply-every : (v : Value) (r : ReplySays) → Fine s v → IsReply v r → (x : Answer (List PeerEntry)) × (reply_of s ≡ taken x) × ShowsReply s x r
  unfolding reply_of
  reply-every v r f i =
      let h = (reply-checks s v (fine-stands s v f)).every r i in
      (h.0, ap (λ (o : Outcome Value). then o (λ w. then (dictionary_at 0 w) reply_in)) (fine-taken s v f) ∙ h.1, h.2)

pub reply-exact : (s : List ℕ) → ReplyExact s
reply-exact s = record { only = reply-only s; every = reply-every s }
