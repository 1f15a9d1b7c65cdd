-- The three numberings, and the size of a piece: between the number of a piece, an offset in it, and an offset in the joined content. Assumes nothing: these are definitions.
use Rattle.std.specs.Prelude.{ℕ, ◌+◌, ◌-◌, ◌*◌, ◌/◌, ◌%◌, min}
use Rattle.torrent_blocks.specs.Rules.{largest}

-- the largest number of 32 bits, which is no piece's number and no offset in one
abbrev pub widest : ℕ
widest = 4294967295

-- the content offset of offset o of piece p; what does not fit stands as the largest number
abbrev pub content_offset : ℕ → ℕ → ℕ → ℕ
content_offset pl p o = min (p * pl + o) largest

-- the piece of a content offset, and the offset in it
abbrev pub piece_number : ℕ → ℕ → ℕ
piece_number pl x = min (x / pl) widest

abbrev pub piece_offset : ℕ → ℕ → ℕ
piece_offset pl x = min (x % pl) widest

-- how many bytes piece p of so many bytes has: the piece length, or what is left for the last
abbrev pub piece_bytes_of : ℕ → ℕ → ℕ → ℕ
piece_bytes_of total pl p = min pl (total - p * pl)
