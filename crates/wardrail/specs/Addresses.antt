-- What the address for a torrent by a sheet says to C. Assumes nothing: these are definitions.
use Rattle.std.specs.Prelude.{◌≡◌, List, [], ◌∷◌, ℕ, ◌+◌, ◌*◌, ◌%◌, ◌^◌}
use Rattle.refusal.specs.Paper.{Outcome, taken, refused, map}
use Rattle.refusal.specs.declared.Part.{Part}
use Rattle.sheets.specs.declared.Source.{Source}
use Rattle.sheets.specs.declared.Source.TheVariants.{Torrent, Sheet}
use Rattle.sheets.specs.Reading.{Answered}
use Rattle.wardrail.specs.Said.{word_of, left_of}

-- the word that is answered: of the torrent as by every call; of a refusal of the sheet the number in the lowest 8 bits, the place in the 55 above
-- them, and the top bit set
abbrev pub word_from : Source → Outcome Part → ℕ
word_from Torrent x = word_of x
word_from Sheet (taken x) = 0
word_from Sheet (refused n p) = n + 256 * (p % 2 ^ 55) + 2 ^ 63

-- 1 for the torrent, 2 for the sheet
abbrev pub text_number : Source → ℕ
text_number Torrent = 1
text_number Sheet = 2

-- the text that the address stands in, and its first byte and length there
abbrev pub address_detail : Source → Part → List ℕ
address_detail c x = text_number c ∷ x.from ∷ x.len ∷ []

-- of the answer x the word r is told, and what was lent for the rest, `was` before, is d then
pub record TellsOf (x : Answered) (was : List ℕ) (r : ℕ) (d : List ℕ) : Type 0 where
  pub word : r ≡ word_from x.source x.what
  pub left : d ≡ left_of (map (address_detail x.source) x.what) was
