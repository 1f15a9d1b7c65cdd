-- Two answers that a contract permits for one text are the same: document 01's words tell the answers apart. Assumes nothing.
use Rattle.std.proofs.Common.{Err, Ok, Result, ◌≡◌, refl, sym, ap, ◌∙◌, Bool, List, ℕ}
use Rattle.refusal.specs.declared.Refusal.{Refusal}
use Rattle.refusal.specs.Paper.{paper, Outcome, taken, refused}
use Rattle.refusal.proofs.Outcomes.{paper-determined}
use Rattle.refusal.specs.declared.Part.{Part}
use Rattle.torrent_contents.specs.declared.Entry.{Entry}
use Rattle.torrent_contents.specs.declared.Element.{Element}
use Rattle.torrent_contents.specs.declared.Element.TheVariants.{Is as ElementIs, End}
use Rattle.torrent_contents.specs.Files.{entry_of}
use Rattle.torrent_contents.specs.Paths.{PathStep, element, done, element_paper, element_of}
use Rattle.torrent_contents.specs.Pieces.{hash_of, check_of}

-- the way back
abbrev element_as : Outcome PathStep → Result Element Refusal
element_as (taken (element x q)) = Ok (ElementIs x q)
element_as (taken (done q)) = Ok (End q)
element_as (refused n p) = Err (record { number = n; place = p })

element-again : (r : Result Element Refusal) → element_as (element_paper r) ≡ r
element-again (Ok (ElementIs x q)) = refl
element-again (Ok (End q)) = refl
element-again (Err r) = refl

module _ (s : List ℕ) where
  pub file-determined : (n : ℕ) (r t : Result Entry Refusal) → paper r ≡ entry_of s n → paper t ≡ entry_of s n → r ≡ t
  file-determined n = paper-determined (entry_of s n)

  pub element-determined : (p : ℕ) (r t : Result Element Refusal) → element_paper r ≡ element_of s p → element_paper t ≡ element_of s p → r ≡ t
  element-determined p r t e f = sym (element-again r) ∙ ap element_as (e ∙ sym f) ∙ element-again t

  pub hash-determined : (n : ℕ) (r t : Result Part Refusal) → paper r ≡ hash_of s n → paper t ≡ hash_of s n → r ≡ t
  hash-determined n = paper-determined (hash_of s n)

  pub check-determined : (n : ℕ) (m : List ℕ) (r t : Result Bool Refusal) → paper r ≡ check_of s n m → paper t ≡ check_of s n m → r ≡ t
  check-determined n m = paper-determined (check_of s n m)
