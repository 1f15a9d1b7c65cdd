-- What a torrent says to C, in numbers. Assumes nothing: these are definitions.
use Rattle.std.specs.Prelude.{cond, List, [], ◌∷◌, ℕ}
use Rattle.torrent_metainfo.specs.declared.Torrent.{Torrent}

-- the parts by first byte and length, then the numbers
abbrev pub torrent_detail : Torrent → List ℕ
torrent_detail t =
    t.announce.from ∷ t.announce.len ∷ t.info.from ∷ t.info.len ∷ t.name.from ∷ t.name.len ∷ t.pieces.from ∷ t.pieces.len
    ∷ t.piece_length ∷ t.piece_count ∷ cond t.content.single 1 0 ∷ t.content.place ∷ t.content.files ∷ t.content.total ∷ []
