-- The lines of a week's file by its packages and their torrents. Assumes nothing: these are definitions.
use Rattle.std.specs.Prelude.{List, [], ◌∷◌, ◌++◌, ℕ}
use Rattle.torrent_laws.specs.Torrent.{TorrentSays}
use Rattle.week.specs.File.{Package}
use Rattle.week.specs.Lines.{package_line, last_line}
use Rattle.week_laws.specs.Week.{files_in, total_in, answer_of}

-- a line for each package: its hash, its files, their bytes
unfoldable pub package_lines : List Package → List TorrentSays → List ℕ
package_lines [] ts = []
package_lines (p ∷ ps) [] = []
package_lines (p ∷ ps) (t ∷ ts) = package_line p.hash (files_in t) (total_in t) ++ package_lines ps ts

-- and one with the sums
abbrev pub lines_of : List Package → List TorrentSays → List ℕ
lines_of ps ts = package_lines ps ts ++ last_line (answer_of ts)
