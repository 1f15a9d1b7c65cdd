-- THE WORKED CASES: every ★ block, yard step and text of document 01 as one table, in its order and numbers, and what tickets 2 and 6 of document 02 add to the yard and ticket 8 to texts, each
-- beside the answer that it is to have; and that the definitions give these answers, by computation. Assumes nothing.
use Rattle.std.specs.Prelude.{Bool, true, false, List, [], ◌∷◌, ℕ, suc, length, get_or, replicate}
use Prim.Native.String.{String}
use Rattle.refusal.specs.Texts.{bytes}
use Rattle.refusal.specs.Paper.{Outcome, taken, refused}
use Rattle.bencode.specs.Answers.{check_of}
use Rattle.torrent_blocks.specs.Spans.{Span, FilePart, part, joined_files}
use Rattle.torrent_blocks.specs.Answers.{Spot, spot, block_of, byte_of}
use Rattle.peer_wire.specs.Message.{Message, keepalive, interested, not_interested, have, bitfield, request, other, encode as frame_of}
use Rattle.torrent_lines.specs.Lines.{listing_of}
use Rattle.yard_tables.specs.Seats.{cleared}
use Rattle.yard_tables.specs.Tables.{Yard, Said, done, used, serve, dropped, seated, unchoked, Out}
use Rattle.yard_tables.specs.Rounds.{nobody, next_of, chosen}
use Rattle.yard_tables.specs.Step.{Call, start, sit, leave, feed, round, step}
use Rattle.yard_laws.specs.History.{History, Fixed, entry}
use Rattle.yard_laws.specs.Says.{holders, complete_seats}
use Rattle.yard_laws.specs.Expected.{answer}

-- ---- what a row is

-- refused by a number, at a place
infix 20 ◌at◌
abbrev pub ◌at◌ : {A : Type 0} → ℕ → ℕ → Outcome A
n at p = refused n p

-- a seat wants the uplink and sent so many bytes, or it does not want it
pub data Wanting : Type 0 where
  sent : ℕ → Wanting
  idle : Wanting

-- what is asked, and what it is to give
pub data Star : Type 0 where
  -- a block by piece, offset and length: its parts
  block : ℕ → ℕ → ℕ → Outcome (List FilePart) → Star
  -- a byte by file and offset: its piece and offset
  byte : ℕ → ℕ → Outcome Spot → Star
  -- a yard of so many pieces starts: the answer
  starts : ℕ → Outcome Said → Star
  -- a call on the yard as the rows before left it: the answer, and after it the seats complete and the holders of piece 9
  call : Call → Outcome Said → ℕ → ℕ → Star
  -- a call in place of the one before
  instead : Call → Outcome Said → ℕ → ℕ → Star
  -- of the seats' bytes, and `idle` of one that does not want the uplink, and where the free place last was: which are the four, and who is next
  uplink : List Wanting → ℕ → List Bool → ℕ → Star
  -- a text: its count of values
  text : String → Outcome ℕ → Star
  -- a text for the listing program: what is printed
  prints : String → String → Star

-- a frame from the truck of seat i
abbrev pub says : ℕ → Message (List ℕ) → Call
says i m = feed i (frame_of m)

-- ---- the table

unfoldable pub stars : List Star
stars =
    -- Where a block falls. With lengths 20000, 0, 12769 and piece length 16384:
    block 1 0 16384 (taken (part 0 16384 3616 ∷ part 2 0 12768 ∷ []))
    ∷ block 2 0 1 (taken (part 2 12768 1 ∷ []))
    ∷ block 2 0 2 (34 at 0)
    ∷ block 3 0 1 (31 at 0)
    ∷ byte 2 0 (taken (spot 1 3616))
    ∷ byte 1 0 (34 at 0)
    -- The yard. S = 2, P = 10: seats 0, 1, then 35
    ∷ starts 10 (taken done)
    ∷ call sit (taken (seated 0)) 0 0
    ∷ call sit (taken (seated 1)) 0 0
    ∷ call sit (35 at 0) 0 0
    -- Seat 0 bitfield FF C0: complete 1; FF C1 instead: 33; one byte: 32
    ∷ call (says 0 (bitfield (0xff ∷ 0xc0 ∷ []))) (taken (used 7)) 1 1
    ∷ instead (says 0 (bitfield (0xff ∷ 0xc1 ∷ []))) (33 at 0) 0 0
    ∷ instead (says 0 (bitfield (0xff ∷ []))) (32 at 0) 0 0
    -- Seat 1 have 9: piece 9 has 2; have 10: 31; then its bitfield: 30
    ∷ call (says 1 (have 9)) (taken (used 9)) 1 2
    ∷ call (says 1 (have 10)) (31 at 0) 1 2
    ∷ call (says 1 (bitfield (0xff ∷ 0xc0 ∷ []))) (30 at 0) 1 2
    -- Seat 0 leaves: complete 0, piece 9 has 1; the next truck gets seat 0
    ∷ call (leave 0) (taken done) 0 1
    ∷ call sit (taken (seated 0)) 0 1
    -- Document 02, ticket 2. Its keepalive says nothing, so its bitfield is taken; seat 1 a keepalive after its have: still 30
    ∷ call (says 0 keepalive) (taken (used 4)) 0 1
    ∷ call (says 0 (bitfield (0xff ∷ 0xc0 ∷ []))) (taken (used 7)) 1 2
    ∷ call (says 1 keepalive) (taken (used 4)) 1 2
    ∷ call (says 1 (bitfield (0xff ∷ 0xc0 ∷ []))) (30 at 0) 1 2
    -- An id that is not known is one: the next truck's bitfield after it is 30
    ∷ call (leave 0) (taken done) 0 1
    ∷ call sit (taken (seated 0)) 0 1
    ∷ call (says 0 (other 20 [])) (taken (used 5)) 0 1
    ∷ call (says 0 (bitfield (0xff ∷ 0xc0 ∷ []))) (30 at 0) 0 1
    -- Ticket 6. Both want the uplink: both are served, and seat 0 has the free place; it leaves, and the next truck finds itself choked until the next round
    ∷ call (says 0 interested) (taken (used 5)) 0 1
    ∷ call (says 1 interested) (taken (used 5)) 0 1
    ∷ call (says 0 (request 0 0 1)) (taken (dropped 17)) 0 1
    ∷ call round (taken (unchoked 2)) 0 1
    ∷ call (says 0 (request 0 0 1)) (taken (serve 17)) 0 1
    ∷ call (leave 0) (taken done) 0 1
    ∷ call sit (taken (seated 0)) 0 1
    ∷ call (says 0 interested) (taken (used 5)) 0 1
    ∷ call (says 0 (request 0 0 1)) (taken (dropped 17)) 0 1
    ∷ call (says 1 not_interested) (taken (used 5)) 0 1
    ∷ call round (taken (unchoked 1)) 0 1
    ∷ call (says 1 (request 0 0 1)) (taken (dropped 17)) 0 1
    -- The four that sent most, ties to the lower seat, and none at all being enough; the next going round, the last holder last, and nobody
    ∷ uplink (sent 5 ∷ sent 3 ∷ sent 9 ∷ idle ∷ sent 3 ∷ sent 3 ∷ sent 1 ∷ []) 3 (true ∷ true ∷ true ∷ false ∷ true ∷ false ∷ false ∷ []) 4
    ∷ uplink (sent 0 ∷ idle ∷ sent 0 ∷ []) 2 (true ∷ false ∷ true ∷ []) 0
    ∷ uplink (idle ∷ sent 7 ∷ idle ∷ []) 1 (false ∷ true ∷ false ∷ []) 1
    ∷ uplink (idle ∷ idle ∷ []) 1 (false ∷ false ∷ []) nobody
    -- Texts to try
    ∷ text "i-3e" (taken 1)
    ∷ text "i-0e" (2 at 2)
    ∷ text "i03e" (2 at 2)
    ∷ text "d3:cow3:moo4:spam4:eggse" (taken 5)
    ∷ text "d4:spam4:eggs3:cow3:mooe" (3 at 13)
    ∷ text "d1:a0:1:a0:e" (3 at 6)
    ∷ text "" (1 at 0)
    ∷ text "4:spa" (1 at 5)
    ∷ text "00:" (2 at 1)
    ∷ text "lee" (7 at 2)
    -- Ticket 8: integers of any length in proper form
    ∷ text "i9223372036854775807e" (taken 1)
    ∷ text "i9223372036854775808e" (taken 1)
    ∷ text "i-9223372036854775809e" (taken 1)
    ∷ text "i1234567890123456789012345678901234567890e" (taken 1)
    ∷ text "i-e" (2 at 2)
    ∷ text "ie" (2 at 1)
    ∷ text "i00e" (2 at 2)
    ∷ text "i9223372036854775808" (1 at 20)
    -- The listing program
    ∷ prints "d8:announce15:http://yard/ann4:infod5:filesld6:lengthi20000e4:pathl3:rte1:aeed6:lengthi0e4:pathl1:beed6:lengthi12769e4:pathl1:ceee4:name3:pkg12:piece lengthi16384e6:pieces60:AAAAAAAAAAAAAAAAAAAAAAAAAAAAAAAAAAAAAAAAAAAAAAAAAAAAAAAAAAAAee"
    "pkg 3 files 32769 bytes 3 pieces of 16384\n0 20000 rte/a\n20000 0 b\n20000 12769 c\n"
    -- Ticket 8: a torrent with a signature of forty digits
    ∷ prints "d8:announce15:http://yard/ann4:infod6:lengthi5e4:name3:pkg12:piece lengthi16384e6:pieces20:AAAAAAAAAAAAAAAAAAAA9:signaturei1234567890123456789012345678901234567890eee"
    "pkg 1 files 5 bytes 1 pieces of 16384\n0 5 pkg\n"
    ∷ []

-- ---- what the definitions give

-- an answer of any row
pub data Given : Type 0 where
  parts : Outcome (List FilePart) → Given
  spots : Outcome Spot → Given
  said : Outcome Said → ℕ → ℕ → Given
  counted : Outcome ℕ → Given
  ranked : List Bool → ℕ → Given
  printed : List ℕ → Given

-- the yard as it is, and what was called
pub record Now : Type 0 where
  pub yard : Yard
  pub past : History

abbrev pub files : List Span
files = joined_files (20000 ∷ 0 ∷ 12769 ∷ [])

-- S = 2
abbrev pub two : Fixed
two = record { seats = 2 }

-- a call's answer, the seats complete and the holders of piece 9: by the tables, and by the history alone
abbrev pub by_tables : Out → Given
by_tables o = said o.answer o.yard.head.complete (get_or o.yard.holders 9 0)

abbrev pub by_history : History → Call → Given
by_history h c = said (answer two h c) (complete_seats two (entry c (answer two h c) [] ∷ h)) (holders two (entry c (answer two h c) [] ∷ h) 9)

abbrev pub after : Call → Now → Now
after c x = record { yard = (step c x.yard).yard; past = entry c (answer two x.past c) [] ∷ x.past }

-- of seats as a row has them: which want the uplink, what each sent, and which are the four
abbrev pub wants : Wanting → Bool
wants (sent k) = true
wants idle = false

abbrev pub bytes_of : Wanting → ℕ
bytes_of (sent k) = k
bytes_of idle = 0

abbrev pub wants_at : List Wanting → ℕ → Bool
wants_at seats i = wants (get_or seats i idle)

unfoldable pub four_from : List Wanting → ℕ → List Wanting → List Bool
four_from seats i [] = []
four_from seats i (w ∷ ws) = chosen (length seats) (wants_at seats) (λ j. bytes_of (get_or seats j idle)) i ∷ four_from seats (suc i) ws

abbrev pub four_of : List Wanting → List Bool
four_of seats = four_from seats 0 seats

-- the rows one after the other, with the yard before the last call and after it
unfoldable pub given : List Star → Now → Now → List Given
given [] before x = []
given (block p o n a ∷ rows) before x = parts (block_of files 16384 (spot p o) n) ∷ given rows before x
given (byte f o a ∷ rows) before x = spots (byte_of files 16384 f o) ∷ given rows before x
given (starts p a ∷ rows) before x =
    let o : Out = step (start p 16384 16384) x.yard in
    by_tables o ∷ given rows x (record { yard = o.yard; past = entry (start p 16384 16384) o.answer [] ∷ [] })
given (call c a f n ∷ rows) before x = by_tables (step c x.yard) ∷ by_history x.past c ∷ given rows x (after c x)
given (instead c a f n ∷ rows) before x = by_tables (step c before.yard) ∷ by_history before.past c ∷ given rows before x
given (uplink seats last four next ∷ rows) before x = ranked (four_of seats) (next_of (length seats) (wants_at seats) last) ∷ given rows before x
given (text s a ∷ rows) before x = counted (check_of (bytes s)) ∷ given rows before x
given (prints s t ∷ rows) before x = printed (listing_of (bytes s)) ∷ given rows before x

-- and what they are to give: a call's answer is asked twice
unfoldable pub asked : List Star → List Given
asked [] = []
asked (block p o n a ∷ rows) = parts a ∷ asked rows
asked (byte f o a ∷ rows) = spots a ∷ asked rows
asked (starts p a ∷ rows) = said a 0 0 ∷ asked rows
asked (call c a f n ∷ rows) = said a f n ∷ said a f n ∷ asked rows
asked (instead c a f n ∷ rows) = said a f n ∷ said a f n ∷ asked rows
asked (uplink seats last four next ∷ rows) = ranked four next ∷ asked rows
asked (text s a ∷ rows) = counted a ∷ asked rows
asked (prints s t ∷ rows) = printed (bytes t) ∷ asked rows

-- tables for two seats and ten pieces, with anything in them, and no call made
abbrev pub lent : Now
lent = record {
  yard = record { head = record { pieces = 3; piece_length = 1; last_length = 9; taken = 7; complete = 7; round = 9; free = 9; last = 9 }; seats = cleared ∷ cleared ∷ []; rows = replicate 4 255; holders = replicate 10 77 };
  past = [];
}
