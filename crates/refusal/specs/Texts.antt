-- Words as their bytes. Assumes nothing: these are definitions.
use Rattle.std.specs.Prelude.{List, [], ◌∷◌, ℕ}
use Prim.Native.Char.{code}
use Prim.Native.String as Text
use Prim.Native.String.{String}

-- the codes of a text's characters, which in ASCII are its bytes
abbrev pub bytes : String → List ℕ
bytes Text.[] = []
bytes (Text.◌∷◌ c s) = code c ∷ bytes s
