-- What a call that is not refused is answered, by the history before it: which answer, and with which numbers; and what any call writes. Beside the causes of refusals this
-- fixes every answer and every output. Assumes nothing: these are definitions.
use Rattle.std.specs.Prelude.{◌≡◌, ◌⊎◌, Bool, List, [], ℕ, ◌≤◌, ◌<◌, take}
use Rattle.peer_wire.specs.Message.{Message, request}
use Rattle.peer_wire.specs.Causes.{Few, Cut}
use Rattle.yard_tables.specs.Counting.{Least}
use Rattle.yard_tables.specs.Tables.{Said, wait, done, used, serve, dropped, wrote, listed, shows, holds, held_by_of, scarce, unchoked, seated as gives_seat}
use Rattle.yard_tables.specs.Step.{Call, start, sit, leave, feed, choke, interest, missing, scarcest, look, has, count, round, choke_frame, interest_frame}
use Rattle.yard_laws.specs.History.{History, Fixed, sizes_of, seated, pieces}
use Rattle.yard_laws.specs.Says.{has_piece, record_of, holders, unchokes, Missing, page_of, Lowest}
use Rattle.yard_laws.specs.View.{StartFits}
use Rattle.yard_laws.specs.Causes.{Sits, Marks, Says, Cause, Asks, Welcome}

pub data Gives (fixed : Fixed) (h : History) : Call → Said → Type 0 where
  -- a start and a leaving are done
  begins : (p l k : ℕ) → StartFits h (sizes_of p l k) → Gives fixed h (start p l k) done
  leaves : (i : ℕ) → Sits fixed h i → Gives fixed h (leave i) done
  -- who sits down gets the lowest free seat
  seats : (i : ℕ) → i < fixed.seats → Lowest (seated h) fixed.seats i → Gives fixed h sit (gives_seat i)
  -- of a frame that is not all there: wait
  waits : (i : ℕ) (s : List ℕ) → Sits fixed h i → Few s ⊎ Cut s → Gives fixed h (feed i s) wait
  -- a request for a block that is there is served exactly if we don't choke the truck and it is interested
  serves : (i : ℕ) (s : List ℕ) (bytes : ℕ) → Asks fixed h i s bytes → Welcome fixed h i → Gives fixed h (feed i s) (serve bytes)
  drops : (i : ℕ) (s : List ℕ) (bytes : ℕ) → Asks fixed h i s bytes → (Welcome fixed h i → ⊥) → Gives fixed h (feed i s) (dropped bytes)
  -- any other frame that nothing is wrong with: how many bytes it used
  hears : (i : ℕ) (s : List ℕ) (m : Message (List ℕ)) (bytes : ℕ) → Sits fixed h i → Says s m bytes → ((p b k : ℕ) → m ≡ request p b k → ⊥)
      → ((number : ℕ) → Cause fixed h (feed i s) number → ⊥) → Gives fixed h (feed i s) (used bytes)
  -- our own mark writes a frame of 5 bytes
  marks : (c : Call) (i space : ℕ) → Marks i space c → Sits fixed h i → 5 ≤ space → Gives fixed h c (wrote 5)
  -- looks: a page, the smallest number among the pieces with fewest holders, a seat's record, whether its truck has a piece, how many trucks have one
  lists : (first space : ℕ) (l : List ℕ) → first ≤ fixed.seats → Missing fixed h first l → Gives fixed h (missing first space) (listed (page_of fixed h space l))
  picks : (p : ℕ) → Least (holders fixed h) (pieces h) p → Gives fixed h scarcest (scarce p)
  records : (i : ℕ) → i < fixed.seats → Gives fixed h (look i) (shows (record_of fixed h i))
  tells : (i p : ℕ) → i < fixed.seats → p < pieces h → Gives fixed h (has i p) (holds (has_piece h i p))
  counts : (p : ℕ) → p < pieces h → Gives fixed h (count p) (held_by_of (holders fixed h p))
  -- a round: how many trucks it unchokes
  turns : Gives fixed h round (unchoked (unchokes fixed h))

-- ---- what is written

-- a call for which nothing is lent to write into
pub data Silent : Call → Type 0 where
  starting : (p l k : ℕ) → Silent (start p l k)
  sitting : Silent sit
  leaving : (i : ℕ) → Silent (leave i)
  hearing : (i : ℕ) (s : List ℕ) → Silent (feed i s)
  picking : Silent scarcest
  looking : (i : ℕ) → Silent (look i)
  asking : (i p : ℕ) → Silent (has i p)
  counting : (p : ℕ) → Silent (count p)
  turning : Silent round

-- what a call writes into what is lent for it, from its start on
pub data Writes (fixed : Fixed) (h : History) : Call → List ℕ → Type 0 where
  -- a refused call writes nothing, and neither does one for which nothing is lent
  refuses : (c : Call) (number : ℕ) → Cause fixed h c number → Writes fixed h c []
  quiet : (c : Call) → Silent c → Writes fixed h c []
  -- our own mark writes its frame, a page as many lines as fit
  chokes : (i : ℕ) (b : Bool) (space : ℕ) → Sits fixed h i → 5 ≤ space → Writes fixed h (choke i b space) (choke_frame b)
  wants : (i : ℕ) (b : Bool) (space : ℕ) → Sits fixed h i → 5 ≤ space → Writes fixed h (interest i b space) (interest_frame b)
  lines : (first space : ℕ) (l : List ℕ) → first ≤ fixed.seats → Missing fixed h first l → Writes fixed h (missing first space) (take space l)
