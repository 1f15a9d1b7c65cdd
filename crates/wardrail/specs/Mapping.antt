-- What a byte's place says to C, in numbers. Assumes nothing: these are definitions.
use Rattle.std.specs.Prelude.{List, [], ◌∷◌, ℕ}
use Rattle.torrent_blocks.specs.Answers.{Spot}

-- the piece and the offset in it
abbrev pub spot_detail : Spot → List ℕ
spot_detail x = x.piece ∷ x.offset ∷ []
