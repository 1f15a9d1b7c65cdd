-- What a week's file says to C, in numbers. Assumes nothing: these are definitions.
use Rattle.std.specs.Prelude.{List, [], ◌∷◌, ℕ}
use Rattle.week.specs.declared.Entry.{Entry}
use Rattle.week.specs.declared.Week.{Week}

-- how many packages, and the sums of files and of bytes
abbrev pub week_detail : Week → List ℕ
week_detail w = w.count ∷ w.files ∷ w.total ∷ []

-- hash and body of a package by first byte and length, its files and its bytes
abbrev pub package_detail : Entry → List ℕ
package_detail e = e.hash.from ∷ e.hash.len ∷ e.body.from ∷ e.body.len ∷ e.files ∷ e.total ∷ []
