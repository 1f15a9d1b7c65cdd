-- Demand 1 of `sheets`: the tracker's address for a torrent, by a sheet. Assumes nothing.
use Rattle.std.specs.Prelude.{List, ◌≡◌, ℕ}
use Rattle.sheets.specs.Reading.{told, find_of, chosen, handed, handed_at}
use Rattle.sheets.specs.declared.Found.{Found}
use Rattle.demands.specs.One.{Lent, now, Ref}

-- sheets::find
abbrev pub find-ensures : (torrent sheet : Lent (List ℕ)) → Found → Type 0
find-ensures torrent sheet r = told r ≡ find_of (now torrent.entry) (now sheet.entry)

-- sheets::address
abbrev pub address-ensures : (torrent sheet : Lent (List ℕ)) → Ref (List ℕ) → Type 0
address-ensures torrent sheet r =
    (now r ≡ handed (find_of (now torrent.entry) (now sheet.entry)) (now torrent.entry) (now sheet.entry))
    × ((r.ptr.0 ≡ chosen (find_of (now torrent.entry) (now sheet.entry)).source torrent.entry.ptr.0 sheet.entry.ptr.0) × (r.ptr.1 ≡ handed_at (find_of (now torrent.entry) (now sheet.entry)) (now torrent.entry) (now sheet.entry) torrent.entry.ptr.1 sheet.entry.ptr.1))
