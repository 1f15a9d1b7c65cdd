-- Writers: when each number is given. Assumes nothing.
use Rattle.std.specs.Prelude.{Err}
use mathlib.Core.Path.{◌≡◌, refl, sym, ap, ◌∙◌}
use mathlib.Core.Logic.{◌↔◌}
use mathlib.Core.List.{List}
use Prim.Native.Nat.{ℕ, ◌+◌, ◌%◌, ◌<◌}
use native.Mathlib.Omega.{arith}
use borrow.Author.Tests.{lt-ltb, le-ltb}
use lib.ListN.{length}
use Rattle.refusal.specs.Paper.{Outcome, refused}
use Rattle.refusal.specs.Limits.{most_text, longest_interval}
use Rattle.bencode_writer.specs.Put.{Left, left}
use Rattle.bencode_writer.proofs.Laws.{put-none}
use Rattle.tracker.specs.Writing.{text_of, write_of as reply_text}
use Rattle.tracker.specs.Faults.{NotWritten, too-late, not-sixes, too_long, no_room}
use Rattle.tracker.proofs.Rewriting as replies
use Rattle.torrent_authoring.specs.Writing as author
use Rattle.torrent_authoring.specs.Rules as rules
use Rattle.torrent_authoring.proofs.Written as torrents
use Rattle.torrent_authoring.proofs.Ruling.{size-ruled, ruled-broken, limited}
use Rattle.torrent_authoring.proofs.Steps.{SizeCase, size-not, size-over, size-fine, size-cases, size-is-long}
use Rattle.refusal.proofs.Outcomes.{not-refused}
use Rattle.demands_laws.proofs.Refusals.{caused, at_zero}
use Rattle.demands_laws.specs.Causes.{Unsized, broken, over}

-- the reply writer
reply-not : (n : ℕ) (bs o : List ℕ) (k : ℕ) → NotWritten n bs o k → (reply_text n bs o).answer ≡ refused k 0
unfolding reply_text
reply-not n bs o k (too-late h) = rw (lt-ltb longest_interval n h)
reply-not n bs o k (not-sixes a h) = rw (le-ltb longest_interval n a, lt-ltb 0 (length bs % 6) h)
reply-not n bs o k (too_long a b h) = rw (le-ltb longest_interval n a, le-ltb 0 (length bs % 6) (omega arith), lt-ltb most_text (length (text_of n bs)) h)
reply-not n bs o k (no_room a b c h) =
    let g : length o < 0 + length (text_of n bs) = omega arith in
    rw (le-ltb longest_interval n a, le-ltb 0 (length bs % 6) (omega arith), le-ltb most_text (length (text_of n bs)) c) (ap (λ (l : Left). l.answer) (put-none (text_of n bs) 0 o g))

pub reply-written : (n : ℕ) (bs o : List ℕ) (k p : ℕ) → (reply_text n bs o).answer ≡ refused k p ↔ (NotWritten n bs o k × (p ≡ 0))
reply-written n bs o k p = at_zero
    (λ e. let h = replies.refusal-keeps n bs o (Err (record { number = k; place = p })) (ap (λ (a : Outcome ℕ). left a (reply_text n bs o).out) (sym e)) k p refl in (h.1, h.0))
    (reply-not n bs o k)

-- ---- the torrent writer, and the size that it asks for

module _ (f : author.Fields) where
  pub torrent-written : (o : List ℕ) (n p : ℕ) → (author.write_of f o).answer ≡ refused n p ↔ (rules.NotWritten f o n × (p ≡ 0))
  torrent-written o n p = at_zero
      (λ e. let h = torrents.refusal-keeps f o (Err (record { number = n; place = p })) (ap (λ (a : Outcome ℕ). left a (author.write_of f o).out) (sym e)) n p refl in (h.1, h.0))
      (λ h. ap (λ (l : Left). l.answer) (torrents.refused-every f o n h))

  pub torrent-sized : (n p : ℕ) → author.size_of f ≡ refused n p ↔ (Unsized f n × (p ≡ 0))
  torrent-sized n p = at_zero (only (author.size_of f) (size-cases f)) (every n)
    where
      only : (o : Outcome ℕ) → SizeCase f o → o ≡ refused n p → Unsized f n × (p ≡ 0)
      only o (size-not m b) e = caused (Unsized f) refl (broken b) e
      only o (size-over h l) e = caused (Unsized f) refl (over h l) e
      only o (size-fine h l) e = not-refused e

      every : (n : ℕ) → Unsized f n → author.size_of f ≡ refused n 0
      every n (broken b) = size-ruled f ∙ ruled-broken f (limited f) b
      every n (over h l) = size-is-long f h l
