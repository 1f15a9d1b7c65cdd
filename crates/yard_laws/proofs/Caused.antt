-- Every refusal and every wait of the answer by a view of the yard has its listed cause, and where a cause holds it is given. Assumes nothing.
use mathlib.Core.Path.{◌≡◌, refl, sym, ap, ◌∙◌, subst}
use mathlib.Core.Logic.{◌⊎◌, inl, inr, ◌↔◌}
use mathlib.Core.Bool.{Bool, true, false, not, cond, ◌&&◌, and-eq-true_iff}
use mathlib.Core.List.{List}
use Prim.Native.Nat.{ℕ, ◌+◌, ◌*◌, ◌≤◌, ◌<◌}
use native.Mathlib.Omega.{arith}
use borrow.Author.Tests.{eq-eqb, ne_eqb, eqb-true, eqb-false, lt-ltb, le-ltb, ltb-true, ltb-false, le-leb, lt-leb, leb-true, leb-false}
use lib.Dec.{eqb, ltb, leb}
use lib.ListN.{length}
use Rattle.refusal.specs.Paper.{Outcome, taken, refused}
use Rattle.refusal.specs.Numbers.{frame, payload, beyond, outside, seat, room, damaged}
use Rattle.refusal.specs.Limits.{most_sent}
use Rattle.refusal.proofs.Cases.{by-test, cannot, false-if, both_true}
use Rattle.torrent_blocks.specs.Answers.{lies}
use Rattle.torrent_blocks.proofs.Whole.{lies-is, is-lies}
use Rattle.peer_wire.specs.Message.{Message, keepalive, choke, unchoke, interested, not_interested, have, request, piece, cancel, other}
use Rattle.peer_wire.specs.Message.{bitfield as bits}
use Rattle.peer_wire.specs.Frames.{Found, found, read_of, meant}
use Rattle.peer_wire.specs.Frames.{wait as more}
use Rattle.peer_wire.specs.Causes.{TooLong, All, Right}
use Rattle.peer_wire.proofs.Decided.{exactly, wait-exactly, twenty-exactly, twenty-one-exactly}
use Rattle.yard_tables.specs.Rows.{width, bit_at}
use Rattle.yard_tables.specs.Frames.{spare_set}
use Rattle.yard_tables.specs.Tables.{Said, wait, done, used, serve, dropped, wrote, listed, shows, holds, held_by_of, scarce, unchoked}
use Rattle.yard_tables.specs.Tables.{seated as gives_seat}
use Rattle.yard_tables.specs.Step.{Call, start, sit, leave, feed, interest, missing, scarcest, look, has, count, round}
use Rattle.yard_tables.specs.Step.{choke as chokes}
use Rattle.yard_tables.proofs.Counts.{some_one, some-every}
use Rattle.yard_laws.specs.History.{Sizes, sizes_of}
use Rattle.yard_laws.specs.Expected.{no, Looks, sits_by, request_by, message_by, frame_by, mark_by, free_by, answer_by}
use Rattle.yard_laws.specs.View.{View}
use Rattle.yard_laws.specs.Causes.{SitsBy, NobodyBy, On, Marks, Says, SpeaksOf, FitsBy, CauseBy, WaitBy}
use Rattle.yard_laws.specs.Causes.On.{leaving, feeding, choking as on-choke, wanting as on-want}
use Rattle.yard_laws.specs.Causes.Marks.{choking, wanting}
use Rattle.yard_laws.specs.Causes.SpeaksOf.{asked, sent, called-off}
use Rattle.yard_laws.specs.Causes.CauseBy.{unfit, all-taken, nobody, past-list, past-look, past-has, no_room, too_long, wrong-payload, not_first, wrong-length, spare-bit, no-such-have, no-such-block, no-such-has, no-such-count, past-piece, too_much}
use Rattle.yard_laws.specs.Causes.WaitBy.{cut_off}
use Rattle.yard_laws.proofs.Lowest.{lowest-is, lowest-unique}

-- ---- tests as statements

module _ (v : View) where
  pub sits-then : (i : ℕ) → sits_by v i ≡ true → SitsBy v i
  sits-then i e = let k = (and-eq-true_iff (ltb i v.seats) (v.sits_at i)).0 e in (ltb-true i v.seats k.0, k.1)

  pub then-sits : (i : ℕ) → SitsBy v i → sits_by v i ≡ true
  then-sits i s = rw (lt-ltb i v.seats s.0, s.1)

  none-sits : (i : ℕ) → sits_by v i ≡ false → NobodyBy v i
  none-sits i e s = cannot _ e (then-sits i s)

  nobody-sits : (i : ℕ) → NobodyBy v i → sits_by v i ≡ false
  nobody-sits i f = go (sits_by v i) (sits-then i)
    where
      go : (b : Bool) → (b ≡ true → SitsBy v i) → b ≡ false
      go true g = absurd (f (g refl))
      go false g = refl

module _ (v : View) (p b k : ℕ) where
  pub fits-block : FitsBy v p b k → lies (v.longs p) b k ≡ true
  fits-block f = is-lies (v.longs p) b k f

  pub block-fits : lies (v.longs p) b k ≡ true → FitsBy v p b k
  block-fits e = lies-is (v.longs p) b k e

-- ---- a refusal and a wait have their cause

abbrev IfWait : Said → Type 0 → Type 0
IfWait wait Q = Q
IfWait done Q = Unit
IfWait (used b) Q = Unit
IfWait (serve b) Q = Unit
IfWait (dropped b) Q = Unit
IfWait (gives_seat i) Q = Unit
IfWait (wrote b) Q = Unit
IfWait (listed x) Q = Unit
IfWait (shows s) Q = Unit
IfWait (holds b) Q = Unit
IfWait (held_by_of m) Q = Unit
IfWait (scarce p) Q = Unit
IfWait (unchoked m) Q = Unit

-- starts decides which sizes a start may have
module _ (v : View) (starts : Sizes → Bool) (x : Looks)
    (fits-start : (z : Sizes) → v.MayStart z → starts z ≡ true) (start_fits : (z : Sizes) → starts z ≡ true → v.MayStart z) where
  abbrev Caused : Call → Outcome Said → Type 0
  Caused c (taken a) = IfWait a (WaitBy v c)
  Caused c (refused number place) = CauseBy v c number × (place ≡ 0)

  module _ (i : ℕ) (s : List ℕ) (here : SitsBy v i) where
    request-caused : (bytes : ℕ) → Caused (feed i s) (taken (request_by v i bytes))
    request-caused bytes = by-test (λ (a : Said). Caused (feed i s) (taken a)) (not (v.choked i) && v.interested i) (λ e. tt) (λ e. tt)

    -- a is the answer where the block is there
    block-caused : (m : Message (List ℕ)) (p b k bytes : ℕ) (a : Outcome Said) → Says s m bytes → SpeaksOf p b k m → (p < v.pieces → FitsBy v p b k → Caused (feed i s) a)
        → Caused (feed i s) (cond (ltb p v.pieces) (cond (lies (v.longs p) b k) a (no outside)) (no beyond))
    block-caused m p b k bytes a f o g = by-test (Caused (feed i s)) (ltb p v.pieces)
        (λ d. by-test (Caused (feed i s)) (lies (v.longs p) b k) (λ e. g (ltb-true p v.pieces d) (block-fits v p b k e))
        (λ e. (past-piece i s m p b k bytes here f o (ltb-true p v.pieces d) (λ q. cannot _ e (fits-block v p b k q)), refl)))
        (λ d. (no-such-block i s m p b k bytes here f o (ltb-false p v.pieces d), refl))

    sent-caused : (p b : ℕ) (block : List ℕ) (bytes : ℕ) → Says s (piece p b block) bytes → p < v.pieces → FitsBy v p b (length block)
        → Caused (feed i s) (cond (ltb most_sent (v.bytes i + length block)) (no damaged) (taken (used bytes)))
    sent-caused p b block bytes f l d = by-test (Caused (feed i s)) (ltb most_sent (v.bytes i + length block))
        (λ e. (too_much i s p b block bytes here f l d (ltb-true most_sent (v.bytes i + length block) e), refl)) (λ e. tt)

    message-caused : (m : Message (List ℕ)) (bytes : ℕ) → Says s m bytes → Caused (feed i s) (message_by v i bytes m)
    message-caused keepalive bytes f = tt
    message-caused choke bytes f = tt
    message-caused unchoke bytes f = tt
    message-caused interested bytes f = tt
    message-caused not_interested bytes f = tt
    message-caused (have p) bytes f = by-test (Caused (feed i s)) (ltb p v.pieces) (λ e. tt) (λ e. (no-such-have i s p bytes here f (ltb-false p v.pieces e), refl))
    message-caused (bits b) bytes f = by-test (Caused (feed i s)) (v.silent i)
        (λ new. by-test (Caused (feed i s)) (eqb (length b) (width v.pieces))
        (λ size. by-test (Caused (feed i s)) (spare_set v.pieces b)
        (λ e. let k = some_one (λ p. leb v.pieces p && bit_at b p) (8 * length b) e in
        let q = (and-eq-true_iff (leb v.pieces k.0) (bit_at b k.0)).0 k.2 in
        (spare-bit i s b bytes k.0 here f new (eqb-true (length b) (width v.pieces) size) (leb-true v.pieces k.0 q.0) k.1 q.1, refl))
        (λ e. tt))
        (λ size. (wrong-length i s b bytes here f new (eqb-false (length b) (width v.pieces) size), refl)))
        (λ old. (not_first i s b bytes here f old, refl))
    message-caused (request p b k) bytes f = block-caused (request p b k) p b k bytes (taken (request_by v i bytes)) f asked (λ l d. request-caused bytes)
    message-caused (piece p b block) bytes f = block-caused (piece p b block) p b (length block) bytes _ f (sent block refl) (sent-caused p b block bytes f)
    message-caused (cancel p b k) bytes f = block-caused (cancel p b k) p b k bytes (taken (used bytes)) f called-off (λ l d. tt)
    message-caused (other id rest) bytes f = tt

    frame-caused : (o : Outcome Found) → read_of s ≡ o → Caused (feed i s) (frame_by v i s o)
    frame-caused (refused number place) e = go ((exactly s (refused number place)).0 e).0
      where
        go : ((number ≡ frame) × TooLong s) ⊎ ((number ≡ payload) × All s × (Right s → ⊥)) → CauseBy v (feed i s) number × (◌≡◌ {A = ℕ} 0 0)
        go (inl (q, t)) = rw q (too_long i s here t, refl)
        go (inr (q, a, r)) = rw q (wrong-payload i s here a r, refl)
    frame-caused (taken more) e = cut_off i s here ((wait-exactly s).0 e)
    frame-caused (taken (found m bytes)) e = message-caused (meant s m) bytes (record { at = m; reads = e; means = refl })

  mark-caused : (c : Call) (i space : ℕ) → On i c → Marks i space c → Caused c (mark_by v i space)
  mark-caused c i space o m = by-test (Caused c) (sits_by v i)
      (λ e. by-test (Caused c) (ltb space 5) (λ f. (no_room c i space m (sits-then v i e) (ltb-true space 5 f), refl)) (λ f. tt))
      (λ e. (nobody c i o (none-sits v i e), refl))

  caused : (c : Call) → Caused c (answer_by v starts x c)
  caused (start p l k) = by-test (Caused (start p l k)) (starts (sizes_of p l k)) (λ e. tt) (λ e. (unfit p l k (λ f. cannot _ e (fits-start (sizes_of p l k) f)), refl))
  caused sit = by-test (Caused sit) (leb v.seats (free_by v))
      (λ e. (all-taken (λ i l. (lowest-is v.sits_at v.seats).below i (omega (arith, leb-true v.seats (free_by v) e))), refl))
      (λ e. tt)
  caused (leave i) = by-test (Caused (leave i)) (sits_by v i) (λ e. tt) (λ e. (nobody (leave i) i leaving (none-sits v i e), refl))
  caused (feed i s) = by-test (Caused (feed i s)) (sits_by v i) (λ e. frame-caused i s (sits-then v i e) (read_of s) refl) (λ e. (nobody (feed i s) i (feeding s) (none-sits v i e), refl))
  caused (chokes i b space) = mark-caused (chokes i b space) i space (on-choke b space) (choking b)
  caused (interest i b space) = mark-caused (interest i b space) i space (on-want b space) (wanting b)
  caused (missing first space) = by-test (Caused (missing first space)) (leb first v.seats) (λ e. tt) (λ e. (past-list first space (leb-false first v.seats e), refl))
  caused scarcest = tt
  caused (look i) = by-test (Caused (look i)) (ltb i v.seats) (λ e. tt) (λ e. (past-look i (ltb-false i v.seats e), refl))
  caused (has i p) = by-test (Caused (has i p)) (ltb i v.seats)
      (λ e. by-test (Caused (has i p)) (ltb p v.pieces) (λ f. tt) (λ f. (no-such-has i p (ltb-true i v.seats e) (ltb-false p v.pieces f), refl)))
      (λ e. (past-has i p (ltb-false i v.seats e), refl))
  caused (count p) = by-test (Caused (count p)) (ltb p v.pieces) (λ e. tt) (λ e. (no-such-count p (ltb-false p v.pieces e), refl))
  caused round = tt

  -- ---- where a cause holds it is given

  pub frame-says : (i : ℕ) (s : List ℕ) (m : Message (List ℕ)) (bytes : ℕ) → SitsBy v i → Says s m bytes → answer_by v starts x (feed i s) ≡ message_by v i bytes m
  frame-says i s m bytes here f =
      ap (λ (b : Bool). cond b (frame_by v i s (read_of s)) (no seat)) (then-sits v i here)
      ∙ ap (frame_by v i s) f.reads
      ∙ ap (message_by v i bytes) f.means

  frame-reads : (i : ℕ) (s : List ℕ) (o : Outcome Found) → SitsBy v i → read_of s ≡ o → answer_by v starts x (feed i s) ≡ frame_by v i s o
  frame-reads i s o here e = ap (λ (b : Bool). cond b (frame_by v i s (read_of s)) (no seat)) (then-sits v i here) ∙ ap (frame_by v i s) e

  nobody-answer : (c : Call) (i : ℕ) → On i c → NobodyBy v i → answer_by v starts x c ≡ no seat
  nobody-answer c i leaving f = rw (nobody-sits v i f)
  nobody-answer c i (feeding s) f = rw (nobody-sits v i f)
  nobody-answer c i (on-choke b space) f = rw (nobody-sits v i f)
  nobody-answer c i (on-want b space) f = rw (nobody-sits v i f)

  room-answer : (c : Call) (i space : ℕ) → Marks i space c → SitsBy v i → space < 5 → answer_by v starts x c ≡ no room
  room-answer c i space (choking b) here l = rw (then-sits v i here, lt-ltb space 5 l)
  room-answer c i space (wanting b) here l = rw (then-sits v i here, lt-ltb space 5 l)

  block-beyond : (i bytes p b k : ℕ) (m : Message (List ℕ)) → SpeaksOf p b k m → v.pieces ≤ p → message_by v i bytes m ≡ no beyond
  block-beyond i bytes p b k m asked l = rw (le-ltb p v.pieces l)
  block-beyond i bytes p b k m (sent block e) l = rw (le-ltb p v.pieces l)
  block-beyond i bytes p b k m called-off l = rw (le-ltb p v.pieces l)

  block-outside : (i bytes p b k : ℕ) (m : Message (List ℕ)) → SpeaksOf p b k m → p < v.pieces → (FitsBy v p b k → ⊥) → message_by v i bytes m ≡ no outside
  block-outside i bytes p b k m asked l f = rw (lt-ltb p v.pieces l, false-if (lies (v.longs p) b k) (λ e. f (block-fits v p b k e)))
  block-outside i bytes p b k m (sent block q) l f = rw (lt-ltb p v.pieces l, q, false-if (lies (v.longs p) b k) (λ e. f (block-fits v p b k e)))
  block-outside i bytes p b k m called-off l f = rw (lt-ltb p v.pieces l, false-if (lies (v.longs p) b k) (λ e. f (block-fits v p b k e)))

  spare-set : (b : List ℕ) (p : ℕ) → v.pieces ≤ p → p < 8 * length b → bit_at b p ≡ true → spare_set v.pieces b ≡ true
  spare-set b p l m e = go (spare_set v.pieces b) (some-every (λ q. leb v.pieces q && bit_at b q) (8 * length b))
    where
      go : (t : Bool) → (t ≡ false → (k : ℕ) → k < 8 * length b → (leb v.pieces k && bit_at b k) ≡ false) → t ≡ true
      go true f = refl
      go false f = cannot _ (f refl p m) (both_true _ _ (le-leb v.pieces p l) e)

  full-seats : ((i : ℕ) → i < v.seats → v.sits_at i ≡ true) → v.seats ≡ free_by v
  full-seats f = lowest-unique v.sits_at v.seats _ _ (record { within = omega arith; below = f; lacks = λ l. absurd (omega arith) }) (lowest-is v.sits_at v.seats)

  pub cause-given : (c : Call) (number : ℕ) → CauseBy v c number → answer_by v starts x c ≡ refused number 0
  cause-given c number (unfit p l k f) = rw (false-if (starts (sizes_of p l k)) (λ e. f (start_fits (sizes_of p l k) e)))
  cause-given c number (all-taken f) = rw (← full-seats f, le-leb v.seats v.seats (omega arith))
  cause-given c number (nobody d i o f) = nobody-answer d i o f
  cause-given c number (past-list first space l) = rw (lt-leb first v.seats l)
  cause-given c number (past-look i l) = rw (le-ltb i v.seats l)
  cause-given c number (past-has i p l) = rw (le-ltb i v.seats l)
  cause-given c number (no_room d i space m here l) = room-answer d i space m here l
  cause-given c number (too_long i s here t) = frame-reads i s (refused frame 0) here ((twenty-exactly s).1 t)
  cause-given c number (wrong-payload i s here a r) = frame-reads i s (refused payload 0) here ((twenty-one-exactly s).1 (a, r))
  cause-given c number (not_first i s b bytes here f old) = frame-says i s (bits b) bytes here f ∙ rw old
  cause-given c number (wrong-length i s b bytes here f new d) = frame-says i s (bits b) bytes here f ∙ rw (new, ne_eqb (length b) (width v.pieces) d)
  cause-given c number (spare-bit i s b bytes p here f new size l m e) =
      frame-says i s (bits b) bytes here f ∙ rw (new, spare-set b p l m e, eq-eqb (length b) (width v.pieces) size)
  cause-given c number (no-such-have i s p bytes here f l) = frame-says i s (have p) bytes here f ∙ rw (le-ltb p v.pieces l)
  cause-given c number (no-such-block i s m p b k bytes here f o l) = frame-says i s m bytes here f ∙ block-beyond i bytes p b k m o l
  cause-given c number (no-such-has i p l m) = rw (lt-ltb i v.seats l, le-ltb p v.pieces m)
  cause-given c number (no-such-count p l) = rw (le-ltb p v.pieces l)
  cause-given c number (past-piece i s m p b k bytes here f o l d) = frame-says i s m bytes here f ∙ block-outside i bytes p b k m o l d
  cause-given c number (too_much i s p b block bytes here f l d m) =
      frame-says i s (piece p b block) bytes here f ∙ rw (lt-ltb p v.pieces l, fits-block v p b (length block) d, lt-ltb most_sent (v.bytes i + length block) m)

  -- ---- both directions

  pub refused-exactly : (c : Call) (number place : ℕ) → answer_by v starts x c ≡ refused number place ↔ (CauseBy v c number × (place ≡ 0))
  refused-exactly c number place = (λ e. subst (Caused c) e (caused c), λ q. cause-given c number q.0 ∙ ap (refused number) (sym q.1))

  wait-given : (c : Call) → WaitBy v c → answer_by v starts x c ≡ taken wait
  wait-given c (cut_off i s here f) = frame-reads i s (taken more) here ((wait-exactly s).1 f)

  pub wait-exactly-when : (c : Call) → answer_by v starts x c ≡ taken wait ↔ WaitBy v c
  wait-exactly-when c = (λ e. subst (Caused c) e (caused c), wait-given c)

  -- where no cause holds the call is taken
  pub taken-without : (c : Call) → ((number : ℕ) → CauseBy v c number → ⊥) → (a : Said) × (answer_by v starts x c ≡ taken a)
  taken-without c f = go (answer_by v starts x c) refl
    where
      go : (o : Outcome Said) → answer_by v starts x c ≡ o → (a : Said) × (answer_by v starts x c ≡ taken a)
      go (taken a) e = (a, e)
      go (refused number place) e = absurd (f number ((refused-exactly c number place).0 e).0)
