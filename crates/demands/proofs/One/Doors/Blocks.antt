-- Demand 1 of `torrent_blocks`: where a block falls, where a byte lies, and how long a piece is. Assumes nothing.
use Rattle.refusal.specs.Paper.{paper}
use Rattle.std.specs.Prelude.{List, ℕ}
use Rattle.torrent_blocks.specs.declared.PieceNumber.{PieceNumber}
use Rattle.torrent_blocks.specs.declared.PieceOffset.{PieceOffset}
use Rattle.torrent_blocks.proofs.Determined as laws
use Rattle.refusal.proofs.Outcomes.{paper-determined}
use Rattle.demands.specs.One.{Lent, Determined1, Keeps1, Refused, Determined}
use Rattle.demands.specs.One.Doors.Blocks.{block-ensures, byte-ensures, piece_size-ensures}

-- torrent_blocks::block
pub block-determined : (lengths : Lent (List ℕ)) (piece_length : ℕ) (piece : PieceNumber) (offset : PieceOffset) (count : ℕ) → Determined1 (block-ensures lengths piece_length piece offset count)
block-determined lengths piece_length piece offset count out r r' out₁ out₂ e f = laws.block-determined _ _ _ _ _ _ r _ e r' _ f

pub block-keeps : (lengths : Lent (List ℕ)) (piece_length : ℕ) (piece : PieceNumber) (offset : PieceOffset) (count : ℕ) → Keeps1 (block-ensures lengths piece_length piece offset count) (λ r. Refused (paper r))
block-keeps lengths piece_length piece offset count r out e k = laws.block-refusal-keeps _ _ _ _ _ _ r _ e k.0 k.1 k.2

-- torrent_blocks::byte
pub byte-determined : (lengths : Lent (List ℕ)) (piece_length file offset : ℕ) → Determined (byte-ensures lengths piece_length file offset)
byte-determined lengths piece_length file offset r r' e f = laws.byte-determined _ _ _ _ r r' e f

-- torrent_blocks::piece_size
pub piece_size-determined : (lengths : Lent (List ℕ)) (piece_length : ℕ) (piece : PieceNumber) → Determined (piece_size-ensures lengths piece_length piece)
piece_size-determined lengths piece_length piece r r' e f = paper-determined _ r r' e f
