-- The value under a key of a dictionary, and its place in the text. Assumes nothing: these are definitions.
use Rattle.std.specs.Prelude.{Bool, true, false, cond, List, [], ◌∷◌, ℕ, ◌+◌, eqb, length}
use Rattle.bencode_scalar.specs.Written.{written_string}
use Rattle.bencode.specs.Value.{Value, Entries, empty, entry, encode}

-- the same bytes
unfoldable pub same_key : List ℕ → List ℕ → Bool
same_key [] [] = true
same_key [] (y ∷ ys) = false
same_key (x ∷ xs) [] = false
same_key (x ∷ xs) (y ∷ ys) = let r : Bool = same_key xs ys in cond (eqb x y) r false

-- there is none; or where it stands, and what it is
pub data Under : Type 0 where
  nothing : Under
  under : ℕ → Value → Under

-- among entries that stand at p
unfoldable pub lookup : ℕ → Entries → List ℕ → Under
lookup p empty k = nothing
lookup p (entry j v es) k =
    let r : Under = lookup (p + length (written_string j) + length (encode v)) es k in
    cond (same_key j k) (under (p + length (written_string j)) v) r
