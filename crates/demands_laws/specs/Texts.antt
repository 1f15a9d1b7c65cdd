-- What the statements on texts say of bytes, values, and what a torrent or a link says. Assumes nothing: these are definitions.
use Rattle.std.specs.Prelude.{◌≡◌, false, List, [], ℕ, ◌-◌, ◌*◌, ◌≤◌, ◌<◌, min, length, get_or, take, drop}
use Rattle.bencode.specs.Value.{Value, dict, encode, count, Keeps}
use Rattle.hash_sha1.specs.Sha1.{sha1}
use Rattle.torrent_blocks.specs.Rules.{sum}
use Rattle.torrent_laws.specs.Torrent.{OneFile, TorrentSays, lengths_in, sizes_of}
use Rattle.torrent_laws.specs.Exact.{PathAt}
use Rattle.torrent_contents.specs.declared.Entry.{Entry}
use Rattle.links.specs.Link.{Said, absent, said}
use Rattle.links.specs.Writing.{text_of}

-- the bytes s are the value v as BEP 3 writes it, and v keeps the rules: keys strictly ascending, at most 32 levels;
-- at most 16,384 values, each key counted, and at most 1,048,576 bytes
abbrev pub Encodes : List ℕ → Value → Type 0
Encodes s v = (s ≡ encode v) × Keeps v 32 × (count v ≤ 16384) × (length s ≤ 1048576)

-- past the last file
abbrev pub no_file : OneFile
no_file = record { size = 0; path = [] }

-- an entry is file number n of these: it starts where those before it end, has its length and its path, and is not said to be the only one
abbrev pub NumberOf : List ℕ → ℕ → List OneFile → Entry → Type 0
NumberOf s n fs e = (e.offset.0 ≡ sum (take n (sizes_of fs))) × (e.length ≡ (get_or fs n no_file).size) × PathAt s e.path (get_or fs n no_file).path × (e.single ≡ false)

-- the bytes m are as many as piece n of the torrent has
abbrev pub IsPiece : ℕ → List ℕ → TorrentSays → Type 0
IsPiece n m t = (n < t.count) × (length m ≡ min t.piece-length (sum (lengths_in t.files) - n * t.piece-length))

-- and their digest is the n-th 20 bytes of pieces
abbrev pub Agrees : ℕ → List ℕ → TorrentSays → Type 0
Agrees n m t = sha1 m ≡ take 20 (drop (20 * n) t.pieces)

-- the link of a torrent: of the digest of info's dictionary as it is written, its name, and its announce as the tracker's address
abbrev pub link_of : TorrentSays → List ℕ
link_of t = text_of (sha1 (encode (dict t.info))) t.name t.announce

-- the bytes that a link says of a thing: none where it says nothing
abbrev pub bytes_in : Said → List ℕ
bytes_in absent = []
bytes_in (said bs) = bs
