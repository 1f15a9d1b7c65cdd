-- What the calls and their answers so far say, with no look at the tables. Assumes nothing: these are definitions.
use Rattle.std.specs.Prelude.{◌≡◌, Bool, true, false, not, cond, ◌&&◌, ◌||◌, ℕ, ◌+◌, ◌-◌, eqb, length}
use mathlib.Core.List.{List, [], ◌∷◌, ◌++◌, Memᴰ as In}
use Rattle.refusal.specs.Paper.{Outcome, taken, refused}
use Rattle.peer_wire.specs.Message.{Message, keepalive, choke, unchoke, interested, not_interested, have, bitfield, request, piece, cancel, other, body}
use Rattle.peer_wire.specs.Frames.{Found, wait, found, read_of, meant}
use Rattle.yard_tables.specs.Rows.{bit_at}
use Rattle.yard_tables.specs.Rounds.{nobody, free_then, last_then, served, next_round}
use Rattle.yard_tables.specs.Tables.{Said, done, used, serve, dropped, wrote, listed, holds, held_by_of, scarce, unchoked}
use Rattle.yard_tables.specs.Tables.{shows as shows_seat}
use Rattle.yard_tables.specs.Tables.{wait as waits, seated as gives_seat}
use Rattle.yard_tables.specs.Step.{Call, start, sit, leave, feed, interest, missing, scarcest, look, has, count, round}
use Rattle.yard_tables.specs.Step.{choke as chokes_at}

-- a call, its answer, and what it wrote into what was lent for it
pub record Entry : Type 0 where
  pub call : Call
  pub answer : Outcome Said
  pub output : List ℕ

abbrev pub entry : Call → Outcome Said → List ℕ → Entry
entry c a w = record { call = c; answer = a; output = w }

-- the newest first
abbrev pub History : Type 0
History = List Entry

-- what no call of a run changes: how many seats the yard has
pub record Fixed : Type 0 where
  pub seats : ℕ

-- ---- what a message says of its truck

pub data Sort : Type 0 where
  -- nothing that is kept
  quiet : Sort
  -- it chokes us, or no longer; it is interested in us, or no longer
  chokes : Bool → Sort
  wants : Bool → Sort
  -- it has these pieces
  shows : (ℕ → Bool) → Sort
  -- bytes of a piece, from an offset in it on
  sends : ℕ → ℕ → List ℕ → Sort

abbrev pub sort_of : Message (List ℕ) → Sort
sort_of keepalive = quiet
sort_of choke = chokes true
sort_of unchoke = chokes false
sort_of interested = wants true
sort_of not_interested = wants false
sort_of (have p) = shows (λ q. eqb q p)
sort_of (bitfield bits) = shows (bit_at bits)
sort_of (request p o l) = quiet
sort_of (piece p o block) = sends p o block
sort_of (cancel p o l) = quiet
sort_of (other id payload) = quiet

-- ---- what a call means for the truck of one seat

pub data Event : Type 0 where
  nothing : Event
  -- a truck sat down there; no truck sits there any more
  came : Event
  gone : Event
  -- a message of the truck was taken
  heard : Message (List ℕ) → Event
  -- our own marks were set
  we_choke : Bool → Event
  we_want : Bool → Event
  -- a round took place
  turned : Event

-- the message of bytes that were taken; a wait takes none
abbrev pub heard_in : List ℕ → Outcome Found → Event
heard_in s (taken (found m bytes)) = heard (meant s m)
heard_in s (taken wait) = nothing
heard_in s (refused n p) = nothing

-- the answer gives seat i
abbrev pub gives : Said → ℕ → Bool
gives (gives_seat j) i = eqb i j
gives waits i = false
gives done i = false
gives (used n) i = false
gives (serve n) i = false
gives (dropped n) i = false
gives (wrote n) i = false
gives (listed x) i = false
gives (shows_seat s) i = false
gives (holds b) i = false
gives (held_by_of n) i = false
gives (scarce p) i = false
gives (unchoked n) i = false

-- what a taken call means for seat i: a start empties every seat
abbrev pub meaning : ℕ → Call → Said → Event
meaning i (start pieces piece_length_of last_length_of) a = gone
meaning i sit a = cond (gives a i) came nothing
meaning i (leave j) a = cond (eqb i j) gone nothing
meaning i (feed j s) a = cond (eqb i j) (heard_in s (read_of s)) nothing
meaning i (chokes_at j b space) a = cond (eqb i j) (we_choke b) nothing
meaning i (interest j b space) a = cond (eqb i j) (we_want b) nothing
meaning i (missing first space) a = nothing
meaning i scarcest a = nothing
meaning i (look j) a = nothing
meaning i (has j p) a = nothing
meaning i (count p) a = nothing
meaning i round a = turned

-- a refused call means nothing
abbrev pub event_of : ℕ → Call → Outcome Said → Event
event_of i c (taken a) = meaning i c a
event_of i c (refused n p) = nothing

-- what an entry means for seat i
unfoldable pub event : ℕ → Entry → Event
event i e = event_of i e.call e.answer

-- ---- a truck sits at seat i

abbrev pub seated_by : Event → Bool → Bool
seated_by nothing b = b
seated_by came b = true
seated_by gone b = false
seated_by (heard m) b = b
seated_by (we_choke c) b = b
seated_by (we_want c) b = b
seated_by turned b = b

abbrev pub seated : History → ℕ → Bool
seated [] i = false
seated (e ∷ h) i = seated_by (event i e) (seated h i)

-- ---- it has announced piece p since it sat down

abbrev pub announced_in : Sort → ℕ → Bool
announced_in quiet p = false
announced_in (chokes c) p = false
announced_in (wants c) p = false
announced_in (shows these) p = these p
announced_in (sends q b block) p = false

abbrev pub announces : Message (List ℕ) → ℕ → Bool
announces m p = announced_in (sort_of m) p

abbrev pub announced_by : Event → ℕ → Bool → Bool
announced_by nothing p b = b
announced_by came p b = false
announced_by gone p b = b
announced_by (heard m) p b = b || announces m p
announced_by (we_choke c) p b = b
announced_by (we_want c) p b = b
announced_by turned p b = b

abbrev pub announced : History → ℕ → ℕ → Bool
announced [] i p = false
announced (e ∷ h) i p = announced_by (event i e) p (announced h i p)

-- ---- no message of it with an id was taken since it sat down

-- a message has an id where anything follows its length: a keepalive has none
abbrev pub has_id : List ℕ → Bool
has_id [] = false
has_id (id ∷ payload) = true

abbrev pub fresh_by : Event → Bool → Bool
fresh_by nothing b = b
fresh_by came b = true
fresh_by gone b = false
fresh_by (heard m) b = not (has_id (body m)) && b
fresh_by (we_choke c) b = b
fresh_by (we_want c) b = b
fresh_by turned b = b

abbrev pub fresh : History → ℕ → Bool
fresh [] i = false
fresh (e ∷ h) i = fresh_by (event i e) (fresh h i)

-- a message of the truck of seat i with an id was taken, and no truck has sat down there since
pub record Spoke (h : History) (i : ℕ) : Type 0 where
  pub later : History
  pub frame : Entry
  pub earlier : History
  pub message : Message (List ℕ)
  pub parts : h ≡ later ++ (frame ∷ earlier)
  pub heard-there : event i frame ≡ heard message
  pub with-id : has_id (body message) ≡ true
  pub nobody-came : (e : Entry) → In e later → event i e ≡ came → ⊥

-- ---- three of the four marks: who sits down finds both sides choking and uninterested

abbrev pub wanting_by : Event → Bool → Bool
wanting_by nothing b = b
wanting_by came b = false
wanting_by gone b = false
wanting_by (heard m) b = b
wanting_by (we_choke c) b = b
wanting_by (we_want c) b = c
wanting_by turned b = b

-- we are interested in it
abbrev pub we_are_interested : History → ℕ → Bool
we_are_interested [] i = false
we_are_interested (e ∷ h) i = wanting_by (event i e) (we_are_interested h i)

-- its choke after one more message
abbrev pub choke_after : Sort → Bool → Bool
choke_after quiet b = b
choke_after (chokes c) b = c
choke_after (wants c) b = b
choke_after (shows these) b = b
choke_after (sends q o block) b = b

abbrev pub choked_by : Event → Bool → Bool
choked_by nothing b = b
choked_by came b = true
choked_by gone b = false
choked_by (heard m) b = choke_after (sort_of m) b
choked_by (we_choke c) b = b
choked_by (we_want c) b = b
choked_by turned b = b

-- it chokes us
abbrev pub they_are_choking : History → ℕ → Bool
they_are_choking [] i = false
they_are_choking (e ∷ h) i = choked_by (event i e) (they_are_choking h i)

-- its interest after one more message
abbrev pub interest_after : Sort → Bool → Bool
interest_after quiet b = b
interest_after (chokes c) b = b
interest_after (wants c) b = c
interest_after (shows these) b = b
interest_after (sends q o block) b = b

abbrev pub wanted_by : Event → Bool → Bool
wanted_by nothing b = b
wanted_by came b = false
wanted_by gone b = false
wanted_by (heard m) b = interest_after (sort_of m) b
wanted_by (we_choke c) b = b
wanted_by (we_want c) b = b
wanted_by turned b = b

-- it is interested in us
abbrev pub they_are_interested : History → ℕ → Bool
they_are_interested [] i = false
they_are_interested (e ∷ h) i = wanted_by (event i e) (they_are_interested h i)

-- ---- what a call means for the whole yard

-- the sizes that a start sets
pub record Sizes : Type 0 where
  pub pieces : ℕ
  pub piece_length_of : ℕ
  pub last_length_of : ℕ

abbrev pub sizes_of : ℕ → ℕ → ℕ → Sizes
sizes_of p l k = record { pieces = p; piece_length_of = l; last_length_of = k }

-- it starts anew, a round takes place, or neither
pub data Phase : Type 0 where
  still : Phase
  begins : Sizes → Phase
  turns : Phase

abbrev pub phase_by : Call → Phase
phase_by (start p l k) = begins (sizes_of p l k)
phase_by sit = still
phase_by (leave j) = still
phase_by (feed j s) = still
phase_by (chokes_at j b space) = still
phase_by (interest j b space) = still
phase_by (missing first space) = still
phase_by scarcest = still
phase_by (look j) = still
phase_by (has j p) = still
phase_by (count p) = still
phase_by round = turns

-- a refused call means nothing
abbrev pub phase_of : Call → Outcome Said → Phase
phase_of c (taken a) = phase_by c
phase_of c (refused n p) = still

unfoldable pub phase : Entry → Phase
phase e = phase_of e.call e.answer

-- ---- the sizes that the last accepted start set

abbrev pub sizes_by : Phase → Sizes → Sizes
sizes_by still z = z
sizes_by (begins x) z = x
sizes_by turns z = z

abbrev pub sizes_set : History → Sizes
sizes_set [] = sizes_of 0 0 0
sizes_set (e ∷ h) = sizes_by (phase e) (sizes_set h)

abbrev pub pieces : History → ℕ
pieces h = (sizes_set h).pieces

-- ---- the bytes of blocks that the truck of seat i sent since the last round, or since it sat down

abbrev pub block_bytes : Sort → ℕ
block_bytes quiet = 0
block_bytes (chokes c) = 0
block_bytes (wants c) = 0
block_bytes (shows these) = 0
block_bytes (sends q o block) = length block

-- a round is of the trucks that sit: at a free seat nothing happens
abbrev pub sent_by : Event → Bool → ℕ → ℕ
sent_by nothing sits k = k
sent_by came sits k = 0
sent_by gone sits k = 0
sent_by (heard m) sits k = k + block_bytes (sort_of m)
sent_by (we_choke c) sits k = k
sent_by (we_want c) sits k = k
sent_by turned sits k = cond sits 0 k

abbrev pub sent : History → ℕ → ℕ
sent [] i = 0
sent (e ∷ h) i = sent_by (event i e) (seated h i) (sent h i)

-- ---- rounds

-- a truck sits at seat i and is interested
abbrev pub wanting : History → ℕ → Bool
wanting h i = seated h i && they_are_interested h i

-- the number of the next round, modulo 3
abbrev pub number_by_of : Phase → ℕ → ℕ
number_by_of still k = k
number_by_of (begins z) k = 0
number_by_of turns k = next_round k

abbrev pub round_number : History → ℕ
round_number [] = 0
round_number (e ∷ h) = number_by_of (phase e) (round_number h)

-- where the free place last was: at a start, and before any, the last seat; `after` is what a round makes of it
abbrev pub last_by : Phase → ℕ → ℕ → ℕ → ℕ
last_by still first after k = k
last_by (begins z) first after k = first
last_by turns first after k = after

abbrev pub last_place : Fixed → History → ℕ
last_place fixed [] = fixed.seats - 1
last_place fixed (e ∷ h) = last_by (phase e) (fixed.seats - 1) (last_then fixed.seats (wanting h) (round_number h) (last_place fixed h)) (last_place fixed h)

-- the free place, by what a call means for its holder: leaving gives it up
abbrev pub free_by : Event → ℕ → ℕ → ℕ
free_by nothing after k = k
free_by came after k = k
free_by gone after k = nobody
free_by (heard m) after k = k
free_by (we_choke c) after k = k
free_by (we_want c) after k = k
free_by turned after k = after

-- whose it is after a round, k being its holder before
abbrev pub turn_of : Fixed → History → ℕ → ℕ
turn_of fixed h k = free_then fixed.seats (wanting h) (round_number h) k (last_place fixed h)

abbrev pub free_place : Fixed → History → ℕ
free_place fixed [] = nobody
free_place fixed (e ∷ h) = free_by (event (free_place fixed h) e) (turn_of fixed h (free_place fixed h)) (free_place fixed h)

-- seat i is unchoked by a round
abbrev pub served_at : Fixed → History → ℕ → Bool
served_at fixed h i = served fixed.seats (wanting h) (sent h) (turn_of fixed h (free_place fixed h)) i

-- ---- our choke: a round sets it at each truck that sits

abbrev pub choking_by : Event → Bool → Bool → Bool → Bool
choking_by nothing sits picked b = b
choking_by came sits picked b = true
choking_by gone sits picked b = false
choking_by (heard m) sits picked b = b
choking_by (we_choke c) sits picked b = c
choking_by (we_want c) sits picked b = b
choking_by turned sits picked b = cond sits (not picked) b

-- we choke the truck of seat i
abbrev pub we_are_choking : Fixed → History → ℕ → Bool
we_are_choking fixed [] i = false
we_are_choking fixed (e ∷ h) i = choking_by (event i e) (seated h i) (served_at fixed h i) (we_are_choking fixed h i)

-- ---- the bytes of blocks that came in since the last round, a start counting as one

abbrev pub bytes_in : Event → ℕ
bytes_in nothing = 0
bytes_in came = 0
bytes_in gone = 0
bytes_in (heard m) = block_bytes (sort_of m)
bytes_in (we_choke c) = 0
bytes_in (we_want c) = 0
bytes_in turned = 0

-- those of a call that is taken: the block of a piece frame
abbrev pub block_in_of : Call → ℕ
block_in_of (start p l k) = 0
block_in_of sit = 0
block_in_of (leave j) = 0
block_in_of (feed j s) = bytes_in (heard_in s (read_of s))
block_in_of (chokes_at j b space) = 0
block_in_of (interest j b space) = 0
block_in_of (missing first space) = 0
block_in_of scarcest = 0
block_in_of (look j) = 0
block_in_of (has j p) = 0
block_in_of (count p) = 0
block_in_of round = 0

abbrev pub brought_by : Call → Outcome Said → ℕ
brought_by c (taken a) = block_in_of c
brought_by c (refused n p) = 0

abbrev pub came_by : Phase → ℕ → ℕ → ℕ
came_by still b k = k + b
came_by (begins z) b k = 0
came_by turns b k = 0

abbrev pub came_in : History → ℕ
came_in [] = 0
came_in (e ∷ h) = came_by (phase e) (brought_by e.call e.answer) (came_in h)
