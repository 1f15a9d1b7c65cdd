-- A frame for a seat, by what it says and by the checks before it. Assumes nothing.
use Rattle.std.specs.Prelude.{Err, Ok, Result}
use mathlib.Core.Path.{◌≡◌, refl, sym, ap, ◌∙◌, subst}
use mathlib.Core.Logic.{inl, inr}
use mathlib.Core.Bool.{Bool, true, false, ◌&&◌}
use mathlib.Core.List.{List}
use Prim.Native.Nat.{ℕ, ◌+◌, ◌-◌, ◌≤◌, ◌<◌}
use native.Mathlib.Omega.{arith}
use borrow.Author.Tests.{lt-ltb, le-ltb}
use lib.Dec.{ltb}
use lib.ListN.{length, get_or, take, drop, length-drop}
use lib.Seq.{length-take-le}
use Rattle.refusal.specs.Numbers.{seat, sizes}
use Rattle.refusal.specs.Paper.{Outcome, taken}
use Rattle.refusal.specs.declared.Refusal.{Refusal}
use Rattle.refusal.specs.Parts.{bytes_at}
use Rattle.refusal.specs.declared.Part.{Part}
use Rattle.refusal.proofs.Cases.{pick_yes, pick_no}
use Rattle.peer_wire.specs.Message.{Message, have}
use Rattle.peer_wire.specs.Frames.{least, allowed, sized_of, Found, found, message_of as message_by, number_in, read_of, message, meant, read_paper as read}
use Rattle.peer_wire.specs.Causes.{named, Cause}
use Rattle.torrent_blocks.specs.declared.PieceNumber.{PieceNumber}
use Rattle.torrent_blocks.specs.declared.PieceOffset.{PieceOffset}
use Rattle.peer_wire.specs.declared.Frame.{Frame}
use Rattle.peer_wire.specs.declared.Frame.TheVariants.{Choke, Unchoke, Interested, NotInterested, Have, Bitfield, Request, Piece, Cancel, Other}
use Rattle.peer_wire.specs.declared.Read.{Read}
use Rattle.peer_wire.specs.declared.Read.TheVariants.{Wait, Keepalive, Whole}
use Rattle.peer_wire.proofs.Decided.{exactly}
use Rattle.peer_wire.proofs.Steps.{by-id, message-other, read-sized, sized-whole}
use Rattle.yard_tables.specs.Replies.{stepped, refusing}
use Rattle.yard_tables.specs.Seats.{on, spoken, they_choke, they_want}
use Rattle.yard_tables.specs.Tables.{used, Turn, around, turn, sizes_fit}
use Rattle.yard_tables.specs.Frames.{have_of, bitfield_of, block_of, piece_of, requested, message_of, frame_of, feed_of}
use Rattle.yard_tables.specs.declared.Head.{Head}
use Rattle.yard_tables.specs.declared.Seat.{Seat}
use Rattle.yard_tables.specs.declared.Answer.TheVariants as A
use Rattle.yard_tables.specs.declared.Stepped.{Stepped}
use Rattle.yard_tables.proofs.Sizing.{fitting}
use Rattle.yard_hearing.specs.Steps.{InTables, Inside}

-- ---- the bytes that a frame speaks of lie in the text

module _ (s : List ℕ) (n : ℕ) (all : 4 + n ≤ length s) where
  abbrev says : ℕ → Message Part
  says id = message_by (λ k. number_in s (5 + k)) (λ k. record { from = 5 + k; len = n - (1 + k) }) id

  lies : (id : ℕ) → least id ≤ n → Inside s (says id)
  unfolding message_by
  lies = by-id (λ id. least id ≤ n → Inside s (says id))
      (λ l. tt) (λ l. tt) (λ l. tt) (λ l. tt) (λ l. tt) (λ l. omega arith) (λ l. tt) (λ l. omega arith) (λ l. tt)
      (λ k h l. subst (Inside s) (sym (message-other (λ j. number_in s (5 + j)) (λ j. record { from = 5 + j; len = n - (1 + j) }) k h)) tt)

pub inside : (s : List ℕ) (m : Message Part) (u : ℕ) → read_of s ≡ taken (found m u) → Inside s m
inside s m u e = go ((exactly s (taken (found m u))).0 e)
  where
    go : Cause s (taken (found m u)) → Inside s m
    go (inl h) = subst (Inside s) (sym h.1) tt
    go (inr (a, r, f, v)) = subst (Inside s) (sym f) (lies s (named s) a.2 (get_or s 4 0) r.0)

-- a whole have, by its length and its id
pub whole-have : (s : List ℕ) (k b : ℕ) → k ≡ number_in s 0 → 9 ≤ length s → k ≡ 5 → b ≡ get_or s 4 0 → b ≡ 4 → read_of s ≡ taken (found (have (number_in s 5)) 9)
unfolding message_by
whole-have s k b ek l e eb f =
    let id : get_or s 4 0 ≡ 4 = sym eb ∙ f in
    read-sized s (omega arith) ∙ ap (sized_of s) (sym ek ∙ e) ∙ sized-whole s 5 (omega arith) (omega arith) (omega arith) (ap (λ (x : ℕ). allowed x 5) id)
    ∙ ap {B = Outcome Found} (λ (x : ℕ). taken (found (message_by (λ j. number_in s (5 + j)) (λ j. record { from = 5 + j; len = 5 - (1 + j) }) x) 9)) id

-- ---- by what the frame says

module _ (h : Head) (s : Seat) (rows holders : List ℕ) (n i u : ℕ) (text : List ℕ) (f : Frame) where
  -- a frame that changes the seat t alone
  module _ (t : Seat) (r : Stepped) (er : r ≡ stepped h (spoken t) (Ok (A.Taken u))) where
    heard : (g : Frame) (t' : Seat) → f ≡ g → t ≡ t' → turn (stepped h (spoken t') (Ok (A.Taken u))) rows holders ≡ message_of n i u (meant text (message g)) (around h s rows holders)
        → turn r rows holders ≡ message_of n i u (meant text (message f)) (around h s rows holders)
    heard g t' ef et e =
        ap (λ (a : Stepped). turn a rows holders) (er ∙ ap (λ (x : Seat). stepped h (spoken x) (Ok (A.Taken u))) et) ∙ e
        ∙ ap (λ (x : Frame). message_of n i u (meant text (message x)) (around h s rows holders)) (sym ef)

    pub heard-choke : f ≡ Choke → t ≡ they_choke true s → turn r rows holders ≡ message_of n i u (meant text (message f)) (around h s rows holders)
    unfolding message_of
    heard-choke ef et = heard Choke (they_choke true s) ef et refl

    pub heard-unchoke : f ≡ Unchoke → t ≡ they_choke false s → turn r rows holders ≡ message_of n i u (meant text (message f)) (around h s rows holders)
    unfolding message_of
    heard-unchoke ef et = heard Unchoke (they_choke false s) ef et refl

    pub heard-interested : f ≡ Interested → t ≡ they_want true s → turn r rows holders ≡ message_of n i u (meant text (message f)) (around h s rows holders)
    unfolding message_of
    heard-interested ef et = heard Interested (they_want true s) ef et refl

    pub heard-not-interested : f ≡ NotInterested → t ≡ they_want false s → turn r rows holders ≡ message_of n i u (meant text (message f)) (around h s rows holders)
    unfolding message_of
    heard-not-interested ef et = heard NotInterested (they_want false s) ef et refl

    pub heard-other : (id : ℕ) (rest : Part) → f ≡ Other id rest → t ≡ s → turn r rows holders ≡ message_of n i u (meant text (message f)) (around h s rows holders)
    unfolding message_of
    heard-other id rest ef et = heard (Other id rest) s ef et refl

  said : (g : Frame) (o : Turn) → f ≡ g → o ≡ message_of n i u (meant text (message g)) (around h s rows holders) → o ≡ message_of n i u (meant text (message f)) (around h s rows holders)
  said g o ef e = e ∙ ap (λ (x : Frame). message_of n i u (meant text (message x)) (around h s rows holders)) (sym ef)

  pub said-have : (o : Turn) (p : PieceNumber) → f ≡ Have p → o ≡ have_of n i u p.0 (around h s rows holders) → o ≡ message_of n i u (meant text (message f)) (around h s rows holders)
  unfolding message_of
  said-have o p ef eo = said (Have p) o ef eo

  pub part_in : (part : Part) → f ≡ Bitfield part → Inside text (message f) → part.from + part.len ≤ length text
  part_in part ef h = subst (λ (g : Frame). Inside text (message g)) ef h

  pub said-bits : (o : Turn) (part : Part) → f ≡ Bitfield part → o ≡ bitfield_of n i u (take (part.from + part.len - part.from) (drop part.from text)) (around h s rows holders)
      → o ≡ message_of n i u (meant text (message f)) (around h s rows holders)
  unfolding message_of
  said-bits o part ef eo =
      let e : part.from + part.len - part.from ≡ part.len = omega arith in
      said (Bitfield part) o ef (eo ∙ ap (λ (k : ℕ). bitfield_of n i u (take k (drop part.from text)) (around h s rows holders)) e)

  pub said-request : (o : Turn) (p : PieceNumber) (b : PieceOffset) (l k : ℕ) → f ≡ Request p b l → k ≡ l → o ≡ block_of p.0 b.0 k (requested u s) (around h s rows holders)
      → o ≡ message_of n i u (meant text (message f)) (around h s rows holders)
  unfolding message_of
  said-request o p b l k ef e eo = said (Request p b l) o ef (eo ∙ ap (λ (x : ℕ). block_of p.0 b.0 x (requested u s) (around h s rows holders)) e)

  pub said-piece : (o : Turn) (p : PieceNumber) (b : PieceOffset) (part : Part) → f ≡ Piece p b part → Inside text (message f) → o ≡ piece_of p.0 b.0 part.len u (around h s rows holders)
      → o ≡ message_of n i u (meant text (message f)) (around h s rows holders)
  unfolding message_of
  said-piece o p b part ef fit eo =
      let l : part.from + part.len ≤ length text = subst (λ (g : Frame). Inside text (message g)) ef fit in
      let e : length (bytes_at text part) ≡ part.len = length-take-le part.len (drop part.from text) (omega (arith, length-drop part.from text)) in
      said (Piece p b part) o ef (eo ∙ ap (λ (x : ℕ). piece_of p.0 b.0 x u (around h s rows holders)) (sym e))

  pub said-cancel : (o : Turn) (p : PieceNumber) (b : PieceOffset) (l k : ℕ) → f ≡ Cancel p b l → k ≡ l → o ≡ block_of p.0 b.0 k (used u) (around h s rows holders)
      → o ≡ message_of n i u (meant text (message f)) (around h s rows holders)
  unfolding message_of
  said-cancel o p b l k ef e eo = said (Cancel p b l) o ef (eo ∙ ap (λ (x : ℕ). block_of p.0 b.0 x (used u) (around h s rows holders)) e)

-- ---- the checks before

module _ (h : Head) (s : Seat) (rows holders : List ℕ) (n i : ℕ) (text : List ℕ) (t : Bool) (et : t ≡ sizes_fit h n (length rows) (length holders)) where
  as-turn : {r x : Stepped} → r ≡ x → turn r rows holders ≡ turn x rows holders
  as-turn e = ap (λ (a : Stepped). turn a rows holders) e

  pub feed-sizes : (r : Stepped) → t ≡ false → r ≡ refusing h s sizes → turn r rows holders ≡ feed_of i text n (around h s rows holders)
  unfolding feed_of
  feed-sizes r f er = pick_no _ (sizes_fit h n (length rows) (length holders)) (sym et ∙ f) (as-turn er)

  module _ (f : t ≡ true) where
    no-and : (a b : Bool) → a ≡ false → (a && b) ≡ false
    no-and a b e = rw e

    and_no : (a b : Bool) → b ≡ false → (a && b) ≡ false
    and_no true b e = e
    and_no false b e = refl

    pub feed-past : (r : Stepped) → n ≤ i → r ≡ refusing h s seat → turn r rows holders ≡ feed_of i text n (around h s rows holders)
    unfolding feed_of
    feed-past r l er = pick_yes _ (sizes_fit h n (length rows) (length holders)) (sym et ∙ f)
        (pick_no _ (ltb i n && on s.taken) (no-and (ltb i n) (on s.taken) (le-ltb i n l)) (as-turn er))

    pub feed-free : (r : Stepped) → on s.taken ≡ false → r ≡ refusing h s seat → turn r rows holders ≡ feed_of i text n (around h s rows holders)
    unfolding feed_of
    feed-free r g er = pick_yes _ (sizes_fit h n (length rows) (length holders)) (sym et ∙ f)
        (pick_no _ (ltb i n && on s.taken) (and_no (ltb i n) (on s.taken) g) (as-turn er))

    pub have-sized : i < n → InTables h n i rows holders
    have-sized l =
        let z = fitting h n (length rows) (length holders) (sym et ∙ f) in
        record { few = z.few; seats = z.seats; seat = l; row = z.row; counts = z.counts }

    module _ (l : i < n) (g : on s.taken ≡ true) (q : Result Read Refusal) (eq : read q ≡ read_of text) where
      both : (a b : Bool) → a ≡ true → b ≡ true → (a && b) ≡ true
      both a b e k = rw (e, k)

      fed : (o : Turn) (p : Result Read Refusal) → q ≡ p → o ≡ frame_of n i text (read p) (around h s rows holders) → o ≡ feed_of i text n (around h s rows holders)
      unfolding feed_of
      fed o p ep eo = pick_yes _ (sizes_fit h n (length rows) (length holders)) (sym et ∙ f)
          (pick_yes _ (ltb i n && on s.taken) (both (ltb i n) (on s.taken) (lt-ltb i n l) g)
          (eo ∙ ap (λ (x : Outcome Found). frame_of n i text x (around h s rows holders)) (ap read (sym ep) ∙ eq)))

      pub feed-wait : (r : Stepped) → q ≡ Ok Wait → r ≡ stepped h s (Ok A.Wait) → turn r rows holders ≡ feed_of i text n (around h s rows holders)
      feed-wait r e er = fed (turn r rows holders) (Ok Wait) e (as-turn er)

      pub feed-refused : (r : Stepped) (why : Refusal) → q ≡ Err why → r ≡ refusing h s why.number → turn r rows holders ≡ feed_of i text n (around h s rows holders)
      feed-refused r why e er = fed (turn r rows holders) (Err why) e (as-turn er)

      pub feed-keepalive : (r : Stepped) (u : ℕ) → q ≡ Ok (Keepalive u) → r ≡ stepped h s (Ok (A.Taken u)) → turn r rows holders ≡ feed_of i text n (around h s rows holders)
      unfolding message_of
      feed-keepalive r u e er = fed (turn r rows holders) (Ok (Keepalive u)) e (as-turn er)

      pub feed-whole : (o : Turn) (x : Frame) (u : ℕ) → q ≡ Ok (Whole x u) → o ≡ message_of n i u (meant text (message x)) (around h s rows holders) → o ≡ feed_of i text n (around h s rows holders)
      feed-whole o x u e eo = fed o (Ok (Whole x u)) e eo

      pub whole-inside : (x : Frame) (u : ℕ) → q ≡ Ok (Whole x u) → Inside text (message x)
      whole-inside x u e = inside text (message x) u (sym eq ∙ ap read e)

      pub whole-sized : InTables h n i rows holders
      whole-sized = have-sized l

    -- a have that is all there, before any reader
    pub feed-have : (o : Turn) (p : PieceNumber) → i < n → on s.taken ≡ true → p.0 ≡ number_in text 5 → read_of text ≡ taken (found (have (number_in text 5)) 9)
        → o ≡ have_of n i 9 p.0 (around h s rows holders) → o ≡ feed_of i text n (around h s rows holders)
    feed-have o p l g ep er eo =
        feed-whole l g (Ok (Whole (Have p) 9)) (ap {B = Outcome Found} (λ (x : ℕ). taken (found (have x) 9)) ep ∙ sym er) o (Have p) 9 refl (said-have h s rows holders n i 9 text (Have p) o p refl eo)
