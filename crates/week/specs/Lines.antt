-- The lines that are printed for a week's file. Assumes nothing: these are definitions.
use Rattle.std.specs.Prelude.{List, [], ◌++◌, ℕ, zero, suc}
use Rattle.refusal.specs.Texts.{bytes}
use Rattle.refusal.specs.Paper.{Outcome, taken, refused}
use Rattle.refusal.specs.Parts.{bytes_at}
use Rattle.bencode_scalar.specs.Written.{decimal}
use Rattle.bencode_writer.specs.Escaped.{small_hex}
use Rattle.torrent_lines.specs.Lines.{refused_line}
use Rattle.week.specs.Rules.{package_at, week_of}
use Rattle.week.specs.declared.Entry.{Entry}
use Rattle.week.specs.declared.Week.{Week}

-- the most bytes that all lines have: 83 for each package, and 84 for the last line
abbrev pub most_listing : ℕ
most_listing = 21332

-- a package: its hash in small hex digits, its files, its bytes
unfoldable pub package_line : List ℕ → ℕ → ℕ → List ℕ
package_line hash files total = small_hex hash ++ (bytes " " ++ (decimal files ++ (bytes " " ++ (decimal total ++ bytes "\n"))))

-- the sums
unfoldable pub last_line : Week → List ℕ
last_line w = decimal w.count ++ (bytes " packages " ++ (decimal w.files ++ (bytes " files " ++ (decimal w.total ++ bytes " bytes\n"))))

-- the lines of k packages of a file, from package i on
abbrev pub line_in : List ℕ → Outcome Entry → List ℕ
line_in s (taken e) = package_line (bytes_at s e.hash) e.files e.total
line_in s (refused n p) = []

unfoldable pub lines_from : List ℕ → ℕ → ℕ → List ℕ
lines_from s zero i = []
lines_from s (suc k) i = line_in s (package_at s i) ++ lines_from s k (suc i)

-- a line for each package and the sums, or the refusal
abbrev pub lines_by : List ℕ → Outcome Week → List ℕ
lines_by s (taken w) = lines_from s w.count 0 ++ last_line w
lines_by s (refused n p) = refused_line n p

unfoldable pub listing_of : List ℕ → List ℕ
listing_of s = lines_by s (week_of s)
