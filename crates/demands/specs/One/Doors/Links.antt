-- Demand 1 of `links`: magnet links, read and written. Assumes nothing.
use Rattle.refusal.specs.declared.Refusal.{Refusal}
use Rattle.std.specs.Prelude.{List, ◌≡◌, ℕ, ◌≤◌, length, Option, Result}
use Rattle.refusal.specs.Paper.{paper, map}
use Rattle.bencode_writer.specs.Put.{left as put_left, Ran}
use Rattle.links.specs.Reading.{left_of, left, linked_paper}
use Rattle.links.specs.Writing.{written_of, write_of}
use Rattle.links.specs.Line.{line_of, most_line}
use Rattle.demands.specs.One.{Lent, now}

-- links::read
abbrev pub read-ensures : (text : Lent (List ℕ)) → Result (Option ℕ × Option ℕ) Refusal → (hash name address : Lent (List ℕ)) → Type 0
read-ensures text r hash name address =
    left (linked_paper r) (now hash.exit) (now name.exit) (now address.exit) ≡ left_of (now text.entry) (now hash.entry) (now name.entry) (now address.entry)

-- links::write
abbrev pub write-ensures : (torrent : Lent (List ℕ)) → Result ℕ Refusal → Lent (List ℕ) → Type 0
write-ensures torrent r out = put_left (paper r) (now out.exit) ≡ write_of (now torrent.entry) (now out.entry)

-- links::size
abbrev pub size-ensures : (torrent : Lent (List ℕ)) → Result ℕ Refusal → Type 0
size-ensures torrent r = paper r ≡ map length (written_of (now torrent.entry))

-- links::line
abbrev pub line-ensures : (torrent : Lent (List ℕ)) → ℕ → Lent (List ℕ) → Type 0
line-ensures torrent r out = (Ran (line_of (now torrent.entry)) 0 (now out.entry) r (now out.exit)) × (r ≤ most_line)
