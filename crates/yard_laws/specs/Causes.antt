-- The listed causes of a refusal and of a wait, by the history before the call or by the tables; each says that the checks before it hold. Assumes nothing: these are definitions.
use Rattle.std.specs.Prelude.{◌≡◌, ◌⊎◌, Bool, true, false, List, ℕ, ◌+◌, ◌*◌, ◌≤◌, ◌<◌, length}
use Rattle.refusal.specs.Paper.{taken}
use Rattle.refusal.specs.Numbers.{frame, payload, late, beyond, bitfield, spare, outside, full, seat, room, sizes, damaged}
use Rattle.refusal.specs.Limits.{most_sent}
use Rattle.refusal.specs.declared.Part.{Part}
use Rattle.torrent_blocks.specs.Covers.{Block}
use Rattle.peer_wire.specs.Message.{Message, have, request, piece, cancel}
use Rattle.peer_wire.specs.Message.{bitfield as bits}
use Rattle.peer_wire.specs.Frames.{found, read_of, meant}
use Rattle.peer_wire.specs.Causes.{Few, Cut, TooLong, All, Right}
use Rattle.yard_tables.specs.Rows.{width, bit_at}
use Rattle.yard_tables.specs.Step.{Call, start, sit, leave, feed, choke, interest, missing, look, has, count}
use Rattle.yard_laws.specs.History.{History, Fixed, sizes_of}
use Rattle.yard_laws.specs.View.{View, by_history}
pub use Rattle.yard_laws.specs.View.{StartFits}

-- ---- words

-- a truck sits at seat i; none does
abbrev pub SitsBy : View → ℕ → Type 0
SitsBy v i = (i < v.seats) × (v.sits_at i ≡ true)

abbrev pub NobodyBy : View → ℕ → Type 0
NobodyBy v i = SitsBy v i → ⊥

-- the block of k bytes at b in piece p has 1 to 16,384 bytes and ends within its piece
abbrev pub FitsBy : View → ℕ → ℕ → ℕ → Type 0
FitsBy v p b k = Block (v.longs p) b k

-- a call on the truck of seat i
pub data On (i : ℕ) : Call → Type 0 where
  leaving : On i (leave i)
  feeding : (s : List ℕ) → On i (feed i s)
  choking : (b : Bool) (space : ℕ) → On i (choke i b space)
  wanting : (b : Bool) (space : ℕ) → On i (interest i b space)

-- a call that sets our own mark at seat i, with so much room for its frame
pub data Marks (i space : ℕ) : Call → Type 0 where
  choking : (b : Bool) → Marks i space (choke i b space)
  wanting : (b : Bool) → Marks i space (interest i b space)

-- the bytes s begin with a whole frame, of so many bytes, that says m
pub record Says (s : List ℕ) (m : Message (List ℕ)) (bytes : ℕ) : Type 0 where
  pub at : Message Part
  pub reads : read_of s ≡ taken (found at bytes)
  pub means : meant s at ≡ m

-- m speaks of the block of k bytes at b in piece p
pub data SpeaksOf (p b k : ℕ) : Message (List ℕ) → Type 0 where
  asked : SpeaksOf p b k (request p b k)
  sent : (block : List ℕ) → length block ≡ k → SpeaksOf p b k (piece p b block)
  called-off : SpeaksOf p b k (cancel p b k)

-- ---- refusals

pub data CauseBy (v : View) : Call → ℕ → Type 0 where
  -- 38
  unfit : (p l k : ℕ) → (v.MayStart (sizes_of p l k) → ⊥) → CauseBy v (start p l k) sizes
  -- 35
  all-taken : ((i : ℕ) → i < v.seats → v.sits_at i ≡ true) → CauseBy v sit full
  -- 36
  nobody : (c : Call) (i : ℕ) → On i c → NobodyBy v i → CauseBy v c seat
  past-list : (first space : ℕ) → v.seats < first → CauseBy v (missing first space) seat
  past-look : (i : ℕ) → v.seats ≤ i → CauseBy v (look i) seat
  past-has : (i p : ℕ) → v.seats ≤ i → CauseBy v (has i p) seat
  -- 37
  no_room : (c : Call) (i space : ℕ) → Marks i space c → SitsBy v i → space < 5 → CauseBy v c room
  -- 20, 21
  too_long : (i : ℕ) (s : List ℕ) → SitsBy v i → TooLong s → CauseBy v (feed i s) frame
  wrong-payload : (i : ℕ) (s : List ℕ) → SitsBy v i → All s → (Right s → ⊥) → CauseBy v (feed i s) payload
  -- 30, 32, 33
  not_first : (i : ℕ) (s b : List ℕ) (bytes : ℕ) → SitsBy v i → Says s (bits b) bytes → v.silent i ≡ false → CauseBy v (feed i s) late
  wrong-length : (i : ℕ) (s b : List ℕ) (bytes : ℕ) → SitsBy v i → Says s (bits b) bytes → v.silent i ≡ true → (length b ≡ width v.pieces → ⊥) → CauseBy v (feed i s) bitfield
  spare-bit : (i : ℕ) (s b : List ℕ) (bytes p : ℕ) → SitsBy v i → Says s (bits b) bytes → v.silent i ≡ true → length b ≡ width v.pieces
      → v.pieces ≤ p → p < 8 * length b → bit_at b p ≡ true → CauseBy v (feed i s) spare
  -- 31
  no-such-have : (i : ℕ) (s : List ℕ) (p bytes : ℕ) → SitsBy v i → Says s (have p) bytes → v.pieces ≤ p → CauseBy v (feed i s) beyond
  no-such-block : (i : ℕ) (s : List ℕ) (m : Message (List ℕ)) (p b k bytes : ℕ) → SitsBy v i → Says s m bytes → SpeaksOf p b k m → v.pieces ≤ p → CauseBy v (feed i s) beyond
  no-such-has : (i p : ℕ) → i < v.seats → v.pieces ≤ p → CauseBy v (has i p) beyond
  no-such-count : (p : ℕ) → v.pieces ≤ p → CauseBy v (count p) beyond
  -- 34
  past-piece : (i : ℕ) (s : List ℕ) (m : Message (List ℕ)) (p b k bytes : ℕ) → SitsBy v i → Says s m bytes → SpeaksOf p b k m → p < v.pieces → (FitsBy v p b k → ⊥) → CauseBy v (feed i s) outside
  -- 39: its truck would have sent more than 2^53 bytes of blocks since the last round
  too_much : (i : ℕ) (s : List ℕ) (p b : ℕ) (block : List ℕ) (bytes : ℕ) → SitsBy v i → Says s (piece p b block) bytes → p < v.pieces → FitsBy v p b (length block)
      → most_sent < v.bytes i + length block → CauseBy v (feed i s) damaged

-- ---- a wait: the frame's four bytes of length, or the rest of it, are not all there

pub data WaitBy (v : View) : Call → Type 0 where
  cut_off : (i : ℕ) (s : List ℕ) → SitsBy v i → Few s ⊎ Cut s → WaitBy v (feed i s)

-- ---- a request for a block that is there: to be served exactly if we don't choke the truck and it is interested, else to be dropped

abbrev pub WelcomeBy : View → ℕ → Type 0
WelcomeBy v i = (v.choked i ≡ false) × (v.interested i ≡ true)

pub record AsksBy (v : View) (i : ℕ) (s : List ℕ) (bytes : ℕ) : Type 0 where
  pub sits : SitsBy v i
  pub piece : ℕ
  pub begin : ℕ
  pub count : ℕ
  pub says : Says s (request piece begin count) bytes
  pub inside : piece < v.pieces
  pub fits : FitsBy v piece begin count

pub data ServesBy (v : View) : Call → ℕ → Type 0 where
  serves : (i : ℕ) (s : List ℕ) (bytes : ℕ) → AsksBy v i s bytes → WelcomeBy v i → ServesBy v (feed i s) bytes

pub data DropsBy (v : View) : Call → ℕ → Type 0 where
  drops : (i : ℕ) (s : List ℕ) (bytes : ℕ) → AsksBy v i s bytes → (WelcomeBy v i → ⊥) → DropsBy v (feed i s) bytes

-- ---- the same by the history

abbrev pub Sits : Fixed → History → ℕ → Type 0
Sits fixed h i = SitsBy (by_history fixed h) i

abbrev pub Nobody : Fixed → History → ℕ → Type 0
Nobody fixed h i = NobodyBy (by_history fixed h) i

abbrev pub Fits : Fixed → History → ℕ → ℕ → ℕ → Type 0
Fits fixed h p b k = FitsBy (by_history fixed h) p b k

abbrev pub Cause : Fixed → History → Call → ℕ → Type 0
Cause fixed h c number = CauseBy (by_history fixed h) c number

abbrev pub WaitCause : Fixed → History → Call → Type 0
WaitCause fixed h c = WaitBy (by_history fixed h) c

abbrev pub Welcome : Fixed → History → ℕ → Type 0
Welcome fixed h i = WelcomeBy (by_history fixed h) i

abbrev pub Asks : Fixed → History → ℕ → List ℕ → ℕ → Type 0
Asks fixed h i s bytes = AsksBy (by_history fixed h) i s bytes

abbrev pub Serves : Fixed → History → Call → ℕ → Type 0
Serves fixed h c bytes = ServesBy (by_history fixed h) c bytes

abbrev pub Drops : Fixed → History → Call → ℕ → Type 0
Drops fixed h c bytes = DropsBy (by_history fixed h) c bytes
