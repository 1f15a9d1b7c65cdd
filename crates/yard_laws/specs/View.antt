-- What the causes of a refusal ask of a yard, said once for a history and for tables. Assumes nothing: these are definitions.
use Rattle.std.specs.Prelude.{ℕ, ◌+◌, ◌*◌, ◌≤◌, ◌≡◌, Bool, cond, eqb, length, get_or}
use Rattle.refusal.specs.Limits.{most_pieces, most_seats}
use Rattle.torrent_blocks.specs.Rules.{PieceLength}
use Rattle.yard_tables.specs.Rows.{width}
use Rattle.yard_tables.specs.Seats.{on, cleared}
use Rattle.yard_tables.specs.Tables.{Yard}
use Rattle.yard_tables.specs.Frames.{piece_size}
use Rattle.yard_laws.specs.History.{History, Fixed, seated, fresh, we_are_choking, they_are_interested, sent, Sizes, sizes_set}
use Rattle.yard_laws.specs.History.{pieces as pieces_in}

pub record View : Type 1 where
  pub seats : ℕ
  -- of each seat: a truck sits there, no frame of it with an id was taken yet, we choke it, it is interested; the bytes of blocks that it sent since the last round
  pub sits_at : ℕ → Bool
  pub silent : ℕ → Bool
  pub choked : ℕ → Bool
  pub interested : ℕ → Bool
  pub bytes : ℕ → ℕ
  -- how many pieces there are, and how long each is
  pub pieces : ℕ
  pub longs : ℕ → ℕ
  -- the sizes that a start may have
  pub MayStart : Sizes → Type 0

-- ---- as the history says

-- the length of piece p
abbrev pub length_of : History → ℕ → ℕ
length_of h p = cond (eqb (p + 1) (pieces_in h)) (sizes_set h).last_length_of (sizes_set h).piece_length_of

-- a further start has as many pieces as the tables, a legal piece length, and a last piece from 1 to it
abbrev pub StartFits : History → Sizes → Type 0
StartFits h z = (z.pieces ≡ pieces_in h) × PieceLength z.piece_length_of × (1 ≤ z.last_length_of) × (z.last_length_of ≤ z.piece_length_of)

abbrev pub by_history : Fixed → History → View
by_history fixed h = record {
  seats = fixed.seats;
  sits_at = seated h;
  silent = fresh h;
  choked = we_are_choking fixed h;
  interested = they_are_interested h;
  bytes = sent h;
  pieces = pieces_in h;
  longs = length_of h;
  MayStart = StartFits h;
}

-- ---- as the tables say

-- sizes are legal, and the tables have them
pub record SizesFit (z : Sizes) (y : Yard) : Type 0 where
  pub some-pieces : 1 ≤ z.pieces
  pub few-pieces : z.pieces ≤ most_pieces
  pub some-seats : 1 ≤ length y.seats
  pub few-seats : length y.seats ≤ most_seats
  pub piece-length : PieceLength z.piece_length_of
  pub some-last : 1 ≤ z.last_length_of
  pub last_within : z.last_length_of ≤ z.piece_length_of
  pub rows_fit : length y.rows ≡ length y.seats * width z.pieces
  pub holders-fit : length y.holders ≡ z.pieces

abbrev pub by_tables : Yard → View
by_tables y = record {
  seats = length y.seats;
  sits_at = λ i. on (get_or y.seats i cleared).taken;
  silent = λ i. on (get_or y.seats i cleared).fresh;
  choked = λ i. on (get_or y.seats i cleared).am_choking;
  interested = λ i. on (get_or y.seats i cleared).peer_interested;
  bytes = λ i. (get_or y.seats i cleared).bytes;
  pieces = y.head.pieces;
  longs = piece_size y.head;
  MayStart = λ z. SizesFit z y;
}
