-- Demand 1 of `torrent_authoring`: torrents of one file, written. Assumes nothing.
use Rattle.refusal.specs.Paper.{paper}
use Rattle.refusal.specs.declared.Refusal.{Refusal}
use Rattle.std.specs.Prelude.{List, ◌≡◌, ℕ, Result}
use Rattle.bencode_writer.specs.Put.{left}
use Rattle.torrent_authoring.specs.Writing.{fields, write_of, size_of}
use Rattle.demands.specs.One.{Lent, now}

-- torrent_authoring::write
abbrev pub write-ensures : (announce name : Lent (List ℕ)) (piece_length : ℕ) (pieces : Lent (List ℕ)) (length : ℕ) → Result ℕ Refusal → Lent (List ℕ) → Type 0
write-ensures announce name piece_length pieces length r out =
    left (paper r) (now out.exit) ≡ write_of (fields (now announce.entry) (now name.entry) piece_length (now pieces.entry) length) (now out.entry)

-- torrent_authoring::size
abbrev pub size-ensures : (announce name : Lent (List ℕ)) (piece_length : ℕ) (pieces : Lent (List ℕ)) (length : ℕ) → Result ℕ Refusal → Type 0
size-ensures announce name piece_length pieces length r =
    paper r ≡ size_of (fields (now announce.entry) (now name.entry) piece_length (now pieces.entry) length)
