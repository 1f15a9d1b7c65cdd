-- A request is to be served exactly if we don't choke its truck and it is interested, by the history; and what bytes say by how messages are written. Assumes nothing.
use mathlib.Core.Path.{◌≡◌, refl, sym, ap, ◌∙◌, subst}
use mathlib.Core.Logic.{◌↔◌}
use mathlib.Core.Bool.{true, not, cond, ◌&&◌, and-eq-true_iff}
use mathlib.Core.List.{List, ◌++◌}
use Prim.Native.Nat.{ℕ, ◌+◌, ◌<◌}
use borrow.Author.Tests.{lt-ltb, ltb-true, not-true}
use lib.Dec.{ltb, leb, eqb}
use lib.ListN.{length, drop, take-append-drop}
use Rattle.refusal.specs.BigEndian.{Bytes}
use Rattle.refusal.specs.Paper.{Outcome, taken, refused}
use Rattle.refusal.specs.Numbers.{beyond, outside}
use Rattle.refusal.specs.Limits.{most_sent}
use Rattle.refusal.proofs.Cases.{by-test, cannot, false-if}
use Rattle.peer_wire.specs.Message.{Message, encode, keepalive, choke, unchoke, interested, not_interested, have, request, piece, cancel, other}
use Rattle.peer_wire.specs.Message.{bitfield as bits}
use Rattle.peer_wire.specs.Frames.{Found, found, read_of, meant, Keeps}
use Rattle.peer_wire.specs.Frames.{wait as more}
use Rattle.peer_wire.proofs.Exact.{taken-was-written, reads-back}
use Rattle.yard_tables.specs.Rows.{width}
use Rattle.yard_tables.specs.Frames.{spare_set}
use Rattle.yard_tables.specs.Tables.{Said, wait, done, used, serve, dropped, wrote, listed, shows, holds, held_by_of, scarce, unchoked}
use Rattle.yard_tables.specs.Tables.{seated as gives_seat}
use Rattle.yard_tables.specs.Step.{Call, start, sit, leave, feed, interest, missing, scarcest, look, has, count, round}
use Rattle.yard_tables.specs.Step.{choke as chokes}
use Rattle.yard_laws.specs.History.{History, Fixed, sizes_of, fresh, we_are_choking, they_are_interested, sent, pieces}
use Rattle.torrent_blocks.specs.Answers.{lies}
use Rattle.yard_laws.specs.View.{by_history}
use Rattle.yard_laws.specs.Expected.{no, start_fits_of, sits_by, request_by, message_by, frame_by, mark_by, free_by, answer}
use Rattle.yard_laws.specs.Causes.{Sits, Says, Welcome, Asks, Serves, Drops}
use Rattle.yard_laws.specs.Causes.ServesBy.{serves}
use Rattle.yard_laws.specs.Causes.DropsBy.{drops}
use Rattle.yard_laws.proofs.Fair.{frame-says, sits-then, fits-block, block-fits}

-- ---- what bytes say

-- bytes that say m begin with m as it is written
pub says-written : (s : List ℕ) (b : Bytes s) (m : Message (List ℕ)) (size : ℕ) → Says s m size → (s ≡ encode m ++ drop size s) × Keeps m
says-written s b m size f =
    let t = taken-was-written s b f.at size f.reads in
    (sym (ap (λ (l : List ℕ). l ++ drop size s) (ap encode (sym f.means) ∙ t.0) ∙ take-append-drop size s), subst Keeps f.means t.1)

-- and what is written so says m, whatever follows
pub written-says : (m : Message (List ℕ)) → Keeps m → (rest : List ℕ) → Says (encode m ++ rest) m (length (encode m))
written-says m k rest = let r = reads-back m k rest in record { at = r.at; reads = r.answer; means = r.means }

-- ---- serve and drop

abbrev IfAsked : (ℕ → Type 0) → (ℕ → Type 0) → Said → Type 0
IfAsked Q R (serve b) = Q b
IfAsked Q R (dropped b) = R b
IfAsked Q R wait = Unit
IfAsked Q R done = Unit
IfAsked Q R (used b) = Unit
IfAsked Q R (gives_seat i) = Unit
IfAsked Q R (wrote b) = Unit
IfAsked Q R (listed x) = Unit
IfAsked Q R (shows s) = Unit
IfAsked Q R (holds b) = Unit
IfAsked Q R (held_by_of m) = Unit
IfAsked Q R (scarce p) = Unit
IfAsked Q R (unchoked m) = Unit

module _ (fixed : Fixed) (h : History) where
  abbrev n : ℕ
  n = fixed.seats

  welcome-then : (i : ℕ) → (not (we_are_choking fixed h i) && they_are_interested h i) ≡ true → Welcome fixed h i
  welcome-then i e = let k = (and-eq-true_iff (not (we_are_choking fixed h i)) (they_are_interested h i)).0 e in (not-true (we_are_choking fixed h i) k.0, k.1)

  then-welcome : (i : ℕ) → Welcome fixed h i → (not (we_are_choking fixed h i) && they_are_interested h i) ≡ true
  then-welcome i w = rw (w.0, w.1)

  abbrev Asked : Call → Outcome Said → Type 0
  Asked c (taken a) = IfAsked (Serves fixed h c) (Drops fixed h c) a
  Asked c (refused number place) = Unit

  module _ (i : ℕ) (s : List ℕ) (here : Sits fixed h i) where
    request-asked : (bytes : ℕ) → Asks fixed h i s bytes → Asked (feed i s) (taken (request_by (by_history fixed h) i bytes))
    request-asked bytes f = by-test (λ (a : Said). Asked (feed i s) (taken a)) (not (we_are_choking fixed h i) && they_are_interested h i)
        (λ e. serves i s bytes f (welcome-then i e)) (λ e. drops i s bytes f (λ w. cannot _ e (then-welcome i w)))

    -- a is the answer where the block is there
    block-asked : (p b k : ℕ) (a : Outcome Said) → (p < pieces h → lies ((by_history fixed h).longs p) b k ≡ true → Asked (feed i s) a)
        → Asked (feed i s) (cond (ltb p (pieces h)) (cond (lies ((by_history fixed h).longs p) b k) a (no outside)) (no beyond))
    block-asked p b k a g = by-test (Asked (feed i s)) (ltb p (pieces h))
        (λ d. by-test (Asked (feed i s)) (lies ((by_history fixed h).longs p) b k) (λ e. g (ltb-true p (pieces h) d) e) (λ e. tt)) (λ d. tt)

    message-asked : (m : Message (List ℕ)) (bytes : ℕ) → Says s m bytes → Asked (feed i s) (message_by (by_history fixed h) i bytes m)
    message-asked keepalive bytes f = tt
    message-asked choke bytes f = tt
    message-asked unchoke bytes f = tt
    message-asked interested bytes f = tt
    message-asked not_interested bytes f = tt
    message-asked (have p) bytes f = by-test (Asked (feed i s)) (ltb p (pieces h)) (λ e. tt) (λ e. tt)
    message-asked (bits b) bytes f = by-test (Asked (feed i s)) (fresh h i)
        (λ d. by-test (Asked (feed i s)) (eqb (length b) (width (pieces h))) (λ e. by-test (Asked (feed i s)) (spare_set (pieces h) b) (λ g. tt) (λ g. tt)) (λ e. tt)) (λ d. tt)
    message-asked (request p b k) bytes f = block-asked p b k (taken (request_by (by_history fixed h) i bytes))
        (λ l e. request-asked bytes (record { sits = here; piece = p; begin = b; count = k; says = f; inside = l; fits = block-fits fixed h p b k e }))
    message-asked (piece p b block) bytes f = block-asked p b (length block) _ (λ l e. by-test (Asked (feed i s)) (ltb most_sent (sent h i + length block)) (λ g. tt) (λ g. tt))
    message-asked (cancel p b k) bytes f = block-asked p b k (taken (used bytes)) (λ l e. tt)
    message-asked (other id rest) bytes f = tt

    frame-asked : (o : Outcome Found) → read_of s ≡ o → Asked (feed i s) (frame_by (by_history fixed h) i s o)
    frame-asked (refused number place) e = tt
    frame-asked (taken more) e = tt
    frame-asked (taken (found m bytes)) e = message-asked (meant s m) bytes (record { at = m; reads = e; means = refl })

  mark-asked : (c : Call) (i space : ℕ) → Asked c (mark_by (by_history fixed h) i space)
  mark-asked c i space = by-test (Asked c) (sits_by (by_history fixed h) i) (λ e. by-test (Asked c) (ltb space 5) (λ f. tt) (λ f. tt)) (λ e. tt)

  asked_of : (c : Call) → Asked c (answer fixed h c)
  asked_of (start p l k) = by-test (Asked (start p l k)) (start_fits_of h (sizes_of p l k)) (λ e. tt) (λ e. tt)
  asked_of sit = by-test (Asked sit) (leb n (free_by (by_history fixed h))) (λ e. tt) (λ e. tt)
  asked_of (leave i) = by-test (Asked (leave i)) (sits_by (by_history fixed h) i) (λ e. tt) (λ e. tt)
  asked_of (feed i s) = by-test (Asked (feed i s)) (sits_by (by_history fixed h) i) (λ e. frame-asked i s (sits-then fixed h i e) (read_of s) refl) (λ e. tt)
  asked_of (chokes i b space) = mark-asked (chokes i b space) i space
  asked_of (interest i b space) = mark-asked (interest i b space) i space
  asked_of (missing first space) = by-test (Asked (missing first space)) (leb first n) (λ e. tt) (λ e. tt)
  asked_of scarcest = tt
  asked_of (look i) = by-test (Asked (look i)) (ltb i n) (λ e. tt) (λ e. tt)
  asked_of (has i p) = by-test (Asked (has i p)) (ltb i n) (λ e. by-test (Asked (has i p)) (ltb p (pieces h)) (λ f. tt) (λ f. tt)) (λ e. tt)
  asked_of (count p) = by-test (Asked (count p)) (ltb p (pieces h)) (λ e. tt) (λ e. tt)
  asked_of round = tt

  request-answer : (i : ℕ) (s : List ℕ) (bytes : ℕ) → Asks fixed h i s bytes → answer fixed h (feed i s) ≡ taken (request_by (by_history fixed h) i bytes)
  request-answer i s bytes f =
      frame-says fixed h i s (request f.piece f.begin f.count) bytes f.sits f.says
      ∙ rw (lt-ltb f.piece (pieces h) f.inside, fits-block fixed h f.piece f.begin f.count f.fits)

  serve_given : (c : Call) (bytes : ℕ) → Serves fixed h c bytes → answer fixed h c ≡ taken (serve bytes)
  serve_given c bytes (serves i s b f w) = request-answer i s b f ∙ rw (then-welcome i w)

  drop-given : (c : Call) (bytes : ℕ) → Drops fixed h c bytes → answer fixed h c ≡ taken (dropped bytes)
  drop-given c bytes (drops i s b f w) =
      request-answer i s b f ∙ rw (false-if (not (we_are_choking fixed h i) && they_are_interested h i) (λ e. w (welcome-then i e)))

  pub serve-exactly : (c : Call) (bytes : ℕ) → answer fixed h c ≡ taken (serve bytes) ↔ Serves fixed h c bytes
  serve-exactly c bytes = (λ e. subst (Asked c) e (asked_of c), serve_given c bytes)

  pub drop-exactly : (c : Call) (bytes : ℕ) → answer fixed h c ≡ taken (dropped bytes) ↔ Drops fixed h c bytes
  drop-exactly c bytes = (λ e. subst (Asked c) e (asked_of c), drop-given c bytes)
