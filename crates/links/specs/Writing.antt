-- Links as they are written, by document 02. Assumes nothing: these are definitions.
use Rattle.std.specs.Prelude.{Bool, cond, ◌||◌, List, ◌++◌, ℕ, ltb, eqb, length}
use Rattle.refusal.specs.Texts.{bytes}
use Rattle.refusal.specs.Paper.{Outcome, taken, refused, then}
use Rattle.refusal.specs.Numbers.{long}
use Rattle.refusal.specs.Limits.{most_text}
use Rattle.refusal.specs.Parts.{bytes_at}
use Rattle.bencode_writer.specs.Escaped.{escaped_by, small_hex}
use Rattle.bencode_writer.specs.Put.{Left, puts}
use Rattle.hash_sha1.specs.Sha1.{sha1}
use Rattle.torrent_metainfo.specs.Reading.{read_of}
use Rattle.torrent_metainfo.specs.declared.Torrent.{Torrent}
use Rattle.links.specs.Link.{letter_or_digit}

-- RFC 3986's unreserved bytes: letters, digits, "-", ".", "_", "~"
abbrev pub unreserved : ℕ → Bool
unreserved b = letter_or_digit b || (eqb b 45 || (eqb b 46 || (eqb b 95 || eqb b 126)))

-- all others as "%" and two capital hex digits
abbrev pub escaped : List ℕ → List ℕ
escaped bs = escaped_by unreserved bs

-- the link of an info hash, a name and an address
unfoldable pub text_of : List ℕ → List ℕ → List ℕ → List ℕ
text_of hash name address = bytes "magnet:?xt=urn:btih:" ++ (small_hex hash ++ (bytes "&dn=" ++ (escaped name ++ (bytes "&tr=" ++ escaped address))))

-- the link of a torrent that was read in the text s
abbrev pub link_text : List ℕ → Torrent → List ℕ
link_text s t = text_of (sha1 (bytes_at s t.info)) (bytes_at s t.name) (bytes_at s t.announce)

-- 8 for a link that is too long
abbrev pub unless_long : List ℕ → Outcome (List ℕ)
unless_long w = cond (ltb most_text (length w)) (refused long 0) (taken w)

-- the link of a torrent's text, or the torrent's refusal
unfoldable pub written_of : List ℕ → Outcome (List ℕ)
written_of s = then (read_of s) (λ t. unless_long (link_text s t))

-- into the lent output o
abbrev pub write_of : List ℕ → List ℕ → Left
write_of s o = puts o (written_of s)
