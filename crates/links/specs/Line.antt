-- The line that the program `link` prints for a text. Assumes nothing: these are definitions.
use Rattle.std.specs.Prelude.{cond, List, ◌++◌, ℕ, ltb, length}
use Rattle.refusal.specs.Texts.{bytes}
use Rattle.refusal.specs.Paper.{Outcome, taken, refused}
use Rattle.refusal.specs.Numbers.{long}
use Rattle.torrent_lines.specs.Lines.{refused_line, most_listed}
use Rattle.links.specs.Writing.{written_of}

-- the most bytes that a line has: 69, and three for each byte of the name and of the announce, each of which is a part of the text
abbrev pub most_line : ℕ
most_line = 393285

-- the link and a line feed, or the refusal
abbrev pub line_by : Outcome (List ℕ) → List ℕ
line_by (taken w) = w ++ bytes "\n"
line_by (refused n p) = refused_line n p

-- of a text; 8 where it has more bytes than are listed
unfoldable pub line_of : List ℕ → List ℕ
line_of s = let all : List ℕ = line_by (written_of s) in cond (ltb most_listed (length s)) (refused_line long 0) all
