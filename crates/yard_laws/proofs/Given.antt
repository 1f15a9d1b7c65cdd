-- A call is taken with an answer exactly when that answer is given by the history, and writes what is said beside it. Assumes nothing.
use mathlib.Core.Path.{◌≡◌, refl, sym, ap, ◌∙◌, subst}
use mathlib.Core.Logic.{◌⊎◌, inl, inr, ◌↔◌}
use mathlib.Core.Bool.{Bool, true, false, not, cond, ◌&&◌}
use mathlib.Core.List.{List, []}
use Prim.Native.Nat.{ℕ, ◌+◌, ◌≤◌, ◌<◌}
use native.Mathlib.Omega.{arith}
use borrow.Author.Tests.{lt-ltb, le-ltb, ltb-true, ltb-false, le-leb, leb-true, leb-false, lt-leb}
use lib.Dec.{eqb, ltb, leb}
use lib.ListN.{length, take}
use Rattle.refusal.specs.Paper.{Outcome, taken, refused}
use Rattle.refusal.specs.Numbers.{late, beyond, bitfield, spare, outside, full, seat, room, sizes, damaged}
use Rattle.refusal.specs.Limits.{most_sent}
use Rattle.refusal.proofs.Cases.{by_bool, no_way}
use Rattle.torrent_blocks.specs.Answers.{lies}
use Rattle.peer_wire.specs.Message.{Message, keepalive, choke, unchoke, interested, not_interested, have, request, piece, cancel, other, bitfield as bits}
use Rattle.peer_wire.specs.Frames.{Found, found, read_of, meant, wait as more}
use Rattle.yard_tables.specs.Rows.{width}
use Rattle.yard_tables.specs.Frames.{spare_set}
use Rattle.yard_tables.specs.Tables.{Said, wait, done, used, serve, dropped, wrote, listed, scarce, seated as gives_seat}
use Rattle.yard_tables.specs.Step.{Call, start, sit, leave, feed, interest, missing, scarcest, look, has, count, round, choke_frame, interest_frame, if_taken, choke as chokes}
use Rattle.yard_tables.proofs.Scarce.{least-unique}
use Rattle.yard_laws.specs.History.{History, Fixed, sizes_of, seated, fresh, we_are_choking, they_are_interested, sent, pieces}
use Rattle.yard_laws.specs.Says.{holders, page_of}
use Rattle.yard_laws.specs.View.{by_history}
use Rattle.yard_laws.specs.Expected.{no, start_fits_of, sits_by, block_by, request_by, message_by, frame_by, mark_by, free_by, answer, missing_from, page_from, writes, output}
use Rattle.yard_laws.specs.Causes.{Sits, Marks, Says, Cause, WaitCause, Serves, Drops}
use Rattle.yard_laws.specs.Causes.ServesBy.{serves as answered-serve}
use Rattle.yard_laws.specs.Causes.DropsBy.{drops as answered-drop}
use Rattle.yard_laws.specs.Causes.Marks.{choking, wanting}
use Rattle.yard_laws.specs.Causes.WaitBy.{cut_off}
use Rattle.yard_laws.specs.Given.{Gives, begins, leaves, seats, waits, serves, drops, hears, marks, lists, picks, records, tells, counts, turns, Silent, starting, sitting, leaving, hearing, picking, looking, asking, counting, turning, Writes}
use Rattle.yard_laws.proofs.Lowest.{lowest-is, lowest-unique, least-some}
use Rattle.yard_laws.proofs.Fair.{sits-then, then-sits, start_fits, fits-start, frame-says, refused-exactly, wait-exactly-when, cause-given, taken-without}
use Rattle.yard_laws.proofs.Serving.{serve-exactly, drop-exactly}
use Rattle.yard_laws.proofs.Pages.{missing-is, missing-unique}
use Rattle.yard_laws.proofs.Damage.{skip}
use Rattle.yard_laws.proofs.OnTables.{not-both}

taken-same : (x a : Said) → taken x ≡ taken a → x ≡ a
taken-same x a e = cc

-- m asks for no block
abbrev Other : Message (List ℕ) → Type 0
Other m = (p b k : ℕ) → m ≡ request p b k → ⊥

module _ (fixed : Fixed) (h : History) where
  abbrev n : ℕ
  n = fixed.seats

  -- ---- an answer that is taken is given

  module _ (i bytes : ℕ) (a : Said) where
    -- a test whose one way is an answer and whose other is a refusal
    way : (t : Bool) (x : Said) (number : ℕ) → cond t (taken x) (no number) ≡ taken a → (t ≡ true) × (x ≡ a)
    way true x number e = (refl, taken-same x a e)
    way false x number e = absurd (not-both a number 0 (sym e))

    inner : (t : Bool) (o : Outcome Said) (number : ℕ) → cond t o (no number) ≡ taken a → (t ≡ true) × (o ≡ taken a)
    inner true o number e = (refl, e)
    inner false o number e = absurd (not-both a number 0 (sym e))

    block-used : (p b k : ℕ) (x : Said) → block_by (by_history fixed h) p b k x ≡ taken a → x ≡ a
    block-used p b k x e = (way (lies ((by_history fixed h).longs p) b k) x outside (inner (ltb p (pieces h)) _ beyond e).1).1

    -- a test whose one way is a refusal and whose other is an answer
    unless : (t : Bool) (x : Said) (number : ℕ) → cond t (no number) (taken x) ≡ taken a → x ≡ a
    unless true x number e = absurd (not-both a number 0 (sym e))
    unless false x number e = taken-same x a e

    heard-used : (m : Message (List ℕ)) → Other m → message_by (by_history fixed h) i bytes m ≡ taken a → used bytes ≡ a
    heard-used keepalive f e = taken-same (used bytes) a e
    heard-used choke f e = taken-same (used bytes) a e
    heard-used unchoke f e = taken-same (used bytes) a e
    heard-used interested f e = taken-same (used bytes) a e
    heard-used not_interested f e = taken-same (used bytes) a e
    heard-used (have p) f e = (way (ltb p (pieces h)) (used bytes) beyond e).1
    heard-used (bits b) f e = unless (spare_set (pieces h) b) (used bytes) spare (inner (eqb (length b) (width (pieces h))) _ bitfield (inner (fresh h i) _ late e).1).1
    heard-used (request p b k) f e = absurd (f p b k refl)
    heard-used (piece p b block) f e =
        unless (ltb most_sent (sent h i + length block)) (used bytes) damaged (inner (lies ((by_history fixed h).longs p) b (length block)) _ outside (inner (ltb p (pieces h)) _ beyond e).1).1
    heard-used (cancel p b k) f e = block-used p b k (used bytes) e
    heard-used (other id rest) f e = taken-same (used bytes) a e

  asked-or : (m : Message (List ℕ)) → ((p : ℕ) × (b : ℕ) × (k : ℕ) × (m ≡ request p b k)) ⊎ Other m
  asked-or (request p b k) = inl (p, b, k, refl)
  asked-or keepalive = inr (λ p b k e. no_way (cc))
  asked-or choke = inr (λ p b k e. no_way (cc))
  asked-or unchoke = inr (λ p b k e. no_way (cc))
  asked-or interested = inr (λ p b k e. no_way (cc))
  asked-or not_interested = inr (λ p b k e. no_way (cc))
  asked-or (have q) = inr (λ p b k e. no_way (cc))
  asked-or (bits q) = inr (λ p b k e. no_way (cc))
  asked-or (piece q o block) = inr (λ p b k e. no_way (cc))
  asked-or (cancel q o l) = inr (λ p b k e. no_way (cc))
  asked-or (other id rest) = inr (λ p b k e. no_way (cc))

  same : (c : Call) (x a : Said) → x ≡ a → Gives fixed h c x → Gives fixed h c a
  same c x a e g = subst (Gives fixed h c) e g

  module _ (i : ℕ) (s : List ℕ) (here : Sits fixed h i) (a : Said) (e : answer fixed h (feed i s) ≡ taken a) where
    no-cause : (number : ℕ) → Cause fixed h (feed i s) number → ⊥
    no-cause number k = not-both a number 0 (sym e ∙ cause-given fixed h (feed i s) number k)

    request-given : (p b k bytes : ℕ) → Says s (request p b k) bytes → Gives fixed h (feed i s) a
    request-given p b k bytes f = by_bool (not (we_are_choking fixed h i) && they_are_interested h i)
        (λ t. same (feed i s) (serve bytes) a (sym (ap (λ (b : Bool). cond b (serve bytes) (dropped bytes)) t) ∙ is)
        (served ((serve-exactly fixed h (feed i s) bytes).0 (e ∙ ap taken (sym (sym (ap (λ (b : Bool). cond b (serve bytes) (dropped bytes)) t) ∙ is))))))
        (λ t. same (feed i s) (dropped bytes) a (sym (ap (λ (b : Bool). cond b (serve bytes) (dropped bytes)) t) ∙ is)
        (left-off ((drop-exactly fixed h (feed i s) bytes).0 (e ∙ ap taken (sym (sym (ap (λ (b : Bool). cond b (serve bytes) (dropped bytes)) t) ∙ is))))))
      where
        is : request_by (by_history fixed h) i bytes ≡ a
        is = block-used i bytes a p b k (request_by (by_history fixed h) i bytes) (sym (frame-says fixed h i s (request p b k) bytes here f) ∙ e)

        served : {c : Call} {m : ℕ} → Serves fixed h c m → Gives fixed h c (serve m)
        served (answered-serve j t m q w) = serves j t m q w

        left-off : {c : Call} {m : ℕ} → Drops fixed h c m → Gives fixed h c (dropped m)
        left-off (answered-drop j t m q w) = drops j t m q w

    message-given : (m : Message (List ℕ)) (bytes : ℕ) → Says s m bytes → Gives fixed h (feed i s) a
    message-given m bytes f = go (asked-or m)
      where
        go : ((p : ℕ) × (b : ℕ) × (k : ℕ) × (m ≡ request p b k)) ⊎ Other m → Gives fixed h (feed i s) a
        go (inl (p, b, k, q)) = request-given p b k bytes (subst (λ (x : Message (List ℕ)). Says s x bytes) q f)
        go (inr o) = same (feed i s) (used bytes) a (heard-used i bytes a m o (sym (frame-says fixed h i s m bytes here f) ∙ e)) (hears i s m bytes here f o no-cause)

    frame-given : (o : Outcome Found) → read_of s ≡ o → frame_by (by_history fixed h) i s o ≡ taken a → Gives fixed h (feed i s) a
    frame-given (refused number place) r q = absurd (not-both a number 0 (sym q))
    frame-given (taken more) r q = same (feed i s) wait a (taken-same wait a q) (waited ((wait-exactly-when fixed h (feed i s)).0 (e ∙ sym q)))
      where
        waited : {c : Call} → WaitCause fixed h c → Gives fixed h c wait
        waited (cut_off j t g w) = waits j t g w
    frame-given (taken (found m bytes)) r q = message-given (meant s m) bytes (record { at = m; reads = r; means = refl })

  mark-taken : (i space : ℕ) (a : Said) → mark_by (by_history fixed h) i space ≡ taken a → Sits fixed h i × (5 ≤ space) × (wrote 5 ≡ a)
  mark-taken i space a e =
      let s = inner i 5 a (sits_by (by_history fixed h) i) _ seat e in
      let r = go (ltb space 5) refl s.1 in
      (sits-then fixed h i s.0, r.0, r.1)
    where
      go : (t : Bool) → ltb space 5 ≡ t → cond t (no room) (taken (wrote 5)) ≡ taken a → (5 ≤ space) × (wrote 5 ≡ a)
      go true r q = absurd (not-both a room 0 (sym q))
      go false r q = (ltb-false space 5 r, taken-same (wrote 5) a q)

  mark-given : (c : Call) (i space : ℕ) (a : Said) → Marks i space c → mark_by (by_history fixed h) i space ≡ taken a → Gives fixed h c a
  mark-given c i space a m e = let (here, l, q) = mark-taken i space a e in same c (wrote 5) a q (marks c i space m here l)

  given-of : (c : Call) (a : Said) → 0 < pieces h → answer fixed h c ≡ taken a → Gives fixed h c a
  given-of (start p l k) a z e = let w = way 0 0 a (start_fits_of h (sizes_of p l k)) done sizes e in same _ _ a w.1 (begins p l k (start_fits h (sizes_of p l k) w.0))
  given-of sit a z e = go (leb n (free_by (by_history fixed h))) refl e
    where
      go : (t : Bool) → leb n (free_by (by_history fixed h)) ≡ t → cond t (no full) (taken (gives_seat (free_by (by_history fixed h)))) ≡ taken a → Gives fixed h sit a
      go true r q = absurd (not-both a full 0 (sym q))
      go false r q = same sit _ a (taken-same _ a q) (seats (free_by (by_history fixed h)) (leb-false n (free_by (by_history fixed h)) r) (lowest-is (seated h) n))
  given-of (leave i) a z e = let w = way 0 0 a (sits_by (by_history fixed h) i) done seat e in same _ _ a w.1 (leaves i (sits-then fixed h i w.0))
  given-of (feed i s) a z e =
      let w = inner 0 0 a (sits_by (by_history fixed h) i) (frame_by (by_history fixed h) i s (read_of s)) seat e in
      frame-given i s (sits-then fixed h i w.0) a e (read_of s) refl w.1
  given-of (chokes i b space) a z e = mark-given (chokes i b space) i space a (choking b) e
  given-of (interest i b space) a z e = mark-given (interest i b space) i space a (wanting b) e
  given-of (missing first space) a z e =
      let w = way 0 0 a (leb first n) _ seat e in
      let l = leb-true first n w.0 in
      same _ _ a w.1 (lists first space (missing_from fixed h first) l (missing-is fixed h first l))
  given-of scarcest a z e = same scarcest _ a (taken-same _ a e) (picks _ (least-some (holders fixed h) (pieces h) z))
  given-of (look i) a z e = let w = way 0 0 a (ltb i n) _ seat e in same _ _ a w.1 (records i (ltb-true i n w.0))
  given-of (has i p) a z e =
      let u = inner 0 0 a (ltb i n) _ seat e in
      let w = way 0 0 a (ltb p (pieces h)) _ beyond u.1 in
      same _ _ a w.1 (tells i p (ltb-true i n u.0) (ltb-true p (pieces h) w.0))
  given-of (count p) a z e = let w = way 0 0 a (ltb p (pieces h)) _ beyond e in same _ _ a w.1 (counts p (ltb-true p (pieces h) w.0))
  given-of round a z e = same round _ a (taken-same _ a e) turns

  -- ---- and what is given is the answer

  mark-is : (c : Call) (i space : ℕ) → Marks i space c → Sits fixed h i → 5 ≤ space → answer fixed h c ≡ taken (wrote 5)
  mark-is c i space (choking b) here l = rw (then-sits fixed h i here, le-ltb space 5 l)
  mark-is c i space (wanting b) here l = rw (then-sits fixed h i here, le-ltb space 5 l)

  -- a frame that nothing is wrong with is taken, and one that is no request by the bytes that it used
  hear-is : (i : ℕ) (s : List ℕ) (m : Message (List ℕ)) (bytes : ℕ) → Sits fixed h i → Says s m bytes → Other m → ((number : ℕ) → Cause fixed h (feed i s) number → ⊥)
      → answer fixed h (feed i s) ≡ taken (used bytes)
  hear-is i s m bytes here f o none =
      let t = taken-without fixed h (feed i s) none in
      t.1 ∙ ap taken (sym (heard-used i bytes t.0 m o (sym (frame-says fixed h i s m bytes here f) ∙ t.1)))

  given_is : (c : Call) (a : Said) → Gives fixed h c a → answer fixed h c ≡ taken a
  given_is c a (begins p l k f) = rw (fits-start h (sizes_of p l k) f)
  given_is c a (leaves i here) = rw (then-sits fixed h i here)
  given_is c a (seats i l w) =
      let e : free_by (by_history fixed h) ≡ i = lowest-unique (seated h) n _ _ (lowest-is (seated h) n) w in
      ap (λ (k : ℕ). cond (leb n k) (no full) (taken (gives_seat k))) e ∙ skip (leb n i) _ _ (lt-leb n i l)
  given_is c a (waits i s here w) = (wait-exactly-when fixed h (feed i s)).1 (cut_off i s here w)
  given_is c a (serves i s bytes f w) = (serve-exactly fixed h (feed i s) bytes).1 (answered-serve i s bytes f w)
  given_is c a (drops i s bytes f w) = (drop-exactly fixed h (feed i s) bytes).1 (answered-drop i s bytes f w)
  given_is c a (hears i s m bytes here f o none) = hear-is i s m bytes here f o none
  given_is c a (marks d i space m here l) = mark-is d i space m here l
  given_is c a (lists first space l f m) =
      ap (λ (b : Bool). cond b (taken (listed (page_from fixed h first space))) (no seat)) (le-leb first n f)
      ∙ ap (λ (k : List ℕ). taken (listed (page_of fixed h space k))) (missing-unique fixed h first _ l (missing-is fixed h first f) m)
  given_is c a (picks p l) =
      ap (λ (k : ℕ). taken (scarce k)) (least-unique (holders fixed h) (pieces h) _ p (least-some (holders fixed h) (pieces h) (omega (arith, l.within))) l)
  given_is c a (records i l) = rw (lt-ltb i n l)
  given_is c a (tells i p l m) = rw (lt-ltb i n l, lt-ltb p (pieces h) m)
  given_is c a (counts p l) = rw (lt-ltb p (pieces h) l)
  given_is c a turns = refl

  pub given-exactly : 0 < pieces h → (c : Call) (a : Said) → answer fixed h c ≡ taken a ↔ Gives fixed h c a
  given-exactly z c a = (given-of c a z, given_is c a)

  -- ---- what is written

  taken-writes : (c : Call) (a : Said) → answer fixed h c ≡ taken a → Writes fixed h c (writes fixed h c)
  taken-writes (start p l k) a e = Writes.quiet _ (starting p l k)
  taken-writes sit a e = Writes.quiet _ sitting
  taken-writes (leave i) a e = Writes.quiet _ (leaving i)
  taken-writes (feed i s) a e = Writes.quiet _ (hearing i s)
  taken-writes (chokes i b space) a e = let (here, l, q) = mark-taken i space a e in Writes.chokes i b space here l
  taken-writes (interest i b space) a e = let (here, l, q) = mark-taken i space a e in Writes.wants i b space here l
  taken-writes (missing first space) a e =
      let l = leb-true first n (way 0 0 a (leb first n) _ seat e).0 in
      Writes.lines first space (missing_from fixed h first) l (missing-is fixed h first l)
  taken-writes scarcest a e = Writes.quiet _ picking
  taken-writes (look i) a e = Writes.quiet _ (looking i)
  taken-writes (has i p) a e = Writes.quiet _ (asking i p)
  taken-writes (count p) a e = Writes.quiet _ (counting p)
  taken-writes round a e = Writes.quiet _ turning

  output-writes : (c : Call) → Writes fixed h c (output fixed h c)
  output-writes c = go (answer fixed h c) refl
    where
      go : (o : Outcome Said) → answer fixed h c ≡ o → Writes fixed h c (if_taken o (writes fixed h c))
      go (taken a) e = taken-writes c a e
      go (refused number place) e = Writes.refuses c number ((refused-exactly fixed h c number place).0 e).0

  nothing-either : (o : Outcome Said) → if_taken o [] ≡ []
  nothing-either (taken a) = refl
  nothing-either (refused number place) = refl

  quiet_is : (c : Call) → Silent c → output fixed h c ≡ []
  quiet_is c (starting p l k) = nothing-either (answer fixed h c)
  quiet_is c sitting = nothing-either (answer fixed h c)
  quiet_is c (leaving i) = nothing-either (answer fixed h c)
  quiet_is c (hearing i s) = nothing-either (answer fixed h c)
  quiet_is c picking = nothing-either (answer fixed h c)
  quiet_is c (looking i) = nothing-either (answer fixed h c)
  quiet_is c (asking i p) = nothing-either (answer fixed h c)
  quiet_is c (counting p) = nothing-either (answer fixed h c)
  quiet_is c turning = nothing-either (answer fixed h c)

  writes-is : (c : Call) (w : List ℕ) → Writes fixed h c w → output fixed h c ≡ w
  writes-is c w (Writes.refuses _ number k) = ap (λ (o : Outcome Said). if_taken o (writes fixed h c)) (cause-given fixed h c number k)
  writes-is c w (Writes.quiet _ s) = quiet_is c s
  writes-is c w (Writes.chokes i b space here l) = ap (λ (o : Outcome Said). if_taken o (choke_frame b)) (mark-is (chokes i b space) i space (choking b) here l)
  writes-is c w (Writes.wants i b space here l) = ap (λ (o : Outcome Said). if_taken o (interest_frame b)) (mark-is (interest i b space) i space (wanting b) here l)
  writes-is c w (Writes.lines first space l f m) =
      ap (λ (b : Bool). if_taken (cond b (taken (listed (page_from fixed h first space))) (no seat)) (take space (missing_from fixed h first))) (le-leb first n f)
      ∙ ap (take space) (missing-unique fixed h first _ l (missing-is fixed h first f) m)

  pub writes-exactly : (c : Call) (w : List ℕ) → output fixed h c ≡ w ↔ Writes fixed h c w
  writes-exactly c w = (λ e. subst (Writes fixed h c) e (output-writes c), writes-is c w)
