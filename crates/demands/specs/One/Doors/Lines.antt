-- Demand 1 of `torrent_lines`: the listing. Assumes nothing.
use Rattle.refusal.specs.declared.Refusal.{Refusal}
use Rattle.std.specs.Prelude.{List, ◌≡◌, ℕ, ◌≤◌, length, Result}
use Rattle.refusal.specs.Paper.{paper, taken}
use Rattle.bencode_writer.specs.Put.{left, put_of, Ran}
use Rattle.torrent_lines.specs.Lines.{most_printed, refused_line, listing_of}
use Rattle.demands.specs.One.{Lent, now}

-- torrent_lines::listing
abbrev pub listing-ensures : (text : Lent (List ℕ)) → Result ℕ Refusal → Lent (List ℕ) → Type 0
listing-ensures text r out =
    (left (paper r) (now out.exit) ≡ put_of (listing_of (now text.entry)) 0 (now out.entry))
    × (most_printed ≤ length (now out.entry) → paper r ≡ taken (length (listing_of (now text.entry))))

-- torrent_lines::size
abbrev pub size-ensures : (text : Lent (List ℕ)) → ℕ → Type 0
size-ensures text r = r ≡ length (listing_of (now text.entry))

-- torrent_lines::refused
abbrev pub refused-ensures : (number place : ℕ) → ℕ → Lent (List ℕ) → Type 0
refused-ensures number place r out = (Ran (refused_line number place) 0 (now out.entry) r (now out.exit)) × (r ≤ most_printed)
