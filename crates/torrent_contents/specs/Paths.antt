-- The elements of a path, one after the other. Assumes nothing: these are definitions.
use Rattle.refusal.specs.declared.Refusal.{Refusal}
use Rattle.std.specs.Prelude.{cond, List, ℕ, take, drop, Err, Ok, Result}
use Rattle.refusal.specs.Paper.{Outcome, taken, refused, refusal, then}
use Rattle.refusal.specs.Numbers.{kind, name}
use Rattle.refusal.specs.declared.Part.{Part}
use Rattle.bencode_walk.specs.Walk.{Head, string, integer, long, list, dictionary, end, look_of}
use Rattle.torrent_metainfo.specs.Rules.{good_name}
use Rattle.torrent_contents.specs.declared.Element.{Element}
use Rattle.torrent_contents.specs.declared.Element.TheVariants.{Is, End}

-- an element and the place of the next; or the end of the path, and the place past it
pub data PathStep : Type 0 where
  element : Part → ℕ → PathStep
  done : ℕ → PathStep

abbrev pub element_paper : Result Element Refusal → Outcome PathStep
element_paper (Ok (Is x q)) = taken (element x q)
element_paper (Ok (End q)) = taken (done q)
element_paper (Err r) = refusal r

-- a string that may be a name, else 13; or the end; another kind is 10
abbrev pub element_in : List ℕ → ℕ → Head → Outcome PathStep
element_in s p (string a m q) = cond (good_name (take m (drop a s))) (taken (element (record { from = a; len = m }) q)) (refused name p)
element_in s p (integer z q) = refused kind p
element_in s p (long a m q) = refused kind p
element_in s p (list q) = refused kind p
element_in s p (dictionary q) = refused kind p
element_in s p (end q) = taken (done q)

-- what stands at p of any text, in a path
abbrev pub element_of : List ℕ → ℕ → Outcome PathStep
element_of s p = then (look_of s p) (element_in s p)
