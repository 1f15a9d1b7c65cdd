-- A week's file as it is written of bodies, by document 02. Assumes nothing: these are definitions.
use Rattle.std.specs.Prelude.{◌&&◌, not, List, [], ◌∷◌, ℕ, leb, eqb, length, take, drop}
use Rattle.refusal.specs.Limits.{most_packages}
use Rattle.refusal.specs.Numbers.{week}
use Rattle.refusal.specs.Paper.{Outcome, taken, refused, map, then}
use Rattle.refusal.specs.Parts.{bytes_at}
use Rattle.bencode.specs.Decode.{unless_long}
use Rattle.bencode_writer.specs.Put.{Left, puts}
use Rattle.hash_sha1.specs.Sha1.{sha1}
use Rattle.torrent_blocks.specs.Rules.{sum}
use Rattle.torrent_metainfo.specs.Rules.{provided}
use Rattle.torrent_metainfo.specs.Reading.{read_of}
use Rattle.torrent_metainfo.specs.declared.Torrent.{Torrent}
use Rattle.week.specs.File.{Package, file_of}
use Rattle.week.specs.Rules.{among}

-- bytes cut into bodies of these lengths, one after the other
unfoldable pub cut_by : List ℕ → List ℕ → List (List ℕ)
cut_by [] s = []
cut_by (n ∷ ns) s = take n s ∷ cut_by ns (drop n s)

-- a writer's refusals have place 0
abbrev pub at_start : {A : Type 0} → Outcome A → Outcome A
at_start (taken x) = taken x
at_start (refused n p) = refused n 0

-- a body that is a torrent, with its info hash
abbrev pub package_of : List ℕ → Torrent → Package
package_of b t = record { body = b; hash = sha1 (bytes_at b t.info) }

-- the package of a body, after others whose hashes are `seen`: a torrent, with a hash that was not given before
unfoldable pub package_in : List (List ℕ) → List ℕ → Outcome Package
package_in seen b = then (at_start (read_of b)) (λ t. provided (not (among (package_of b t).hash seen)) week 0 (taken (package_of b t)))

-- those of bodies in their order
unfoldable pub packages_from : List (List ℕ) → List (List ℕ) → Outcome (List Package)
packages_from seen [] = taken []
packages_from seen (b ∷ bs) = then (package_in seen b) (λ p. map (λ ps. p ∷ ps) (packages_from (p.hash ∷ seen) bs))

-- the file of bodies that stand one after the other and have these lengths: how many they are and that they are all, then body by body, then the file's length
unfoldable pub written_of : List ℕ → List ℕ → Outcome (List ℕ)
written_of bs ns =
    provided (leb 1 (length ns) && leb (length ns) most_packages) week 0
    (provided (eqb (sum ns) (length bs)) week 0
    (then (packages_from [] (cut_by ns bs)) (λ ps. unless_long (file_of ps) (taken (file_of ps)))))

-- into the lent output o: 37 where it does not fit
abbrev pub write_of : List ℕ → List ℕ → List ℕ → Left
write_of bs ns o = puts o (written_of bs ns)
