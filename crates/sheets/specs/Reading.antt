-- What the calls answer for a torrent and a sheet, in document 02's words. Assumes nothing: these are definitions.
use Rattle.refusal.specs.declared.Refusal.{Refusal}
use Rattle.std.specs.Prelude.{List, ℕ, ◌+◌, min, length, Err, None, Ok, Option, Result, Some}
use Rattle.refusal.specs.Paper.{Outcome, taken, refused, refusal, paper, map}
use Rattle.refusal.specs.Parts.{bytes_at}
use Rattle.refusal.specs.declared.Part.{Part}
use Rattle.hash_sha1.specs.Sha1.{sha1}
use Rattle.torrent_metainfo.specs.declared.Torrent.{Torrent as Says}
use Rattle.torrent_metainfo.specs.Reading.{read_of}
use Rattle.sheets.specs.declared.Source.{Source}
use Rattle.sheets.specs.declared.Source.TheVariants.{Torrent, Sheet}
use Rattle.sheets.specs.declared.Found.{Found}
use Rattle.sheets.specs.Rules.{Listed, listed, unlisted, sheet_of}

-- what is said, and of which text: where the address stands there, or its refusal
pub record Answered : Type 0 where
  pub source : Source
  pub what : Outcome Part

abbrev pub of : Source → Outcome Part → Answered
of c o = record { source = c; what = o }

-- the answer of `find` in these words
abbrev pub told : Found → Answered
told r = of r.source (paper r.part)

-- the answer of the pass over a sheet
abbrev pub listed_as : Result (Option Part) Refusal → Outcome Listed
listed_as (Ok (Some p)) = taken (listed p)
listed_as (Ok None) = taken unlisted
listed_as (Err r) = refusal r

-- by what the sheet says: its own part, its refusal, or announce
abbrev pub address_in : Part → Outcome Listed → Answered
address_in announce (taken (listed p)) = of Sheet (taken p)
address_in announce (taken unlisted) = of Torrent (taken announce)
address_in announce (refused n p) = of Sheet (refused n p)

-- the torrent first, then the sheet for the digest of info's bytes as they stand
abbrev pub found_by : List ℕ → List ℕ → Outcome Says → Answered
found_by t s (taken x) = address_in x.announce (sheet_of (sha1 (bytes_at t x.info)) s)
found_by t s (refused n p) = of Torrent (refused n p)

unfoldable pub find_of : List ℕ → List ℕ → Answered
find_of t s = found_by t s (read_of t)

-- of two things, one for each text, that of one text
abbrev pub chosen : {A : Type 0} → Source → A → A → A
chosen Torrent x y = x
chosen Sheet x y = y

-- the part that is handed back
abbrev pub part_in_of : Outcome Part → Part
part_in_of (taken p) = p
part_in_of (refused n p) = record { from = 0; len = 0 }

-- the bytes that are handed back, none on a refusal; and where they lie, if the torrent lies at a and the sheet at b
abbrev pub handed : Answered → List ℕ → List ℕ → List ℕ
handed x t s = bytes_at (chosen x.source t s) (part_in_of x.what)

abbrev pub handed_at : Answered → List ℕ → List ℕ → ℕ → ℕ → ℕ
handed_at x t s a b = chosen x.source a b + min (part_in_of x.what).from (length (chosen x.source t s))

-- what is said of one text alone: the refusal, where it is of that text
abbrev pub of_one : Source → Source → Outcome Part → Outcome (Unit {0})
of_one Torrent Torrent o = map (λ p. tt) o
of_one Torrent Sheet o = taken tt
of_one Sheet Torrent o = taken tt
of_one Sheet Sheet o = map (λ p. tt) o

abbrev pub about : Source → Answered → Outcome (Unit {0})
about c x = of_one c x.source x.what
