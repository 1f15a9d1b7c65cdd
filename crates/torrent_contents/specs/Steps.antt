-- A file by its number, as the walk over a text comes to it. Assumes nothing: these are definitions.
-- It serves an inner contract alone and need not be believed: `number-listed` of torrent_contents/proofs/Numbering.antt ties it to Files.antt.
use Rattle.std.specs.Prelude.{List, ℕ, zero, suc, ◌+◌, min}
use Rattle.refusal.specs.Paper.{Outcome, map, then}
use Rattle.torrent_blocks.specs.Rules.{largest}
use Rattle.torrent_metainfo.specs.Reading.{file_at}
use Rattle.torrent_contents.specs.declared.Entry.{Entry}
use Rattle.torrent_contents.specs.Files.{entry}

-- the file n files past the one at p, which starts at o of the content
unfoldable pub walk_to : ℕ → List ℕ → ℕ → ℕ → Outcome Entry
walk_to zero s p o = map (entry o) (file_at s p)
walk_to (suc n) s p o = then (file_at s p) (λ f. walk_to n s f.next (min (o + f.length) largest))
