-- How the code's answers say what was read. Assumes nothing: these are definitions.
use Rattle.refusal.specs.declared.Part.{Part}
use Rattle.refusal.specs.declared.Refusal.{Refusal}
use Rattle.refusal.specs.Parts.{bytes_at}
use Rattle.std.specs.Prelude.{cond, List, ℕ, ◌+◌, ℤ, drop, Err, Ok, Result}
use Rattle.bencode_scalar.specs.Written.{in_range}
use Rattle.bencode_scalar.specs.Reading.{Got, got, bad}
use Rattle.bencode_scalar.specs.declared.Int.{Int}
use Rattle.bencode_scalar.specs.declared.Int.TheVariants.{Is, Large}

-- a string's answer, in a text s
abbrev pub text_of : List ℕ → ℕ → Result Part Refusal → Got (List ℕ)
text_of s n (Ok p) = got (bytes_at s p) (drop (p.from + p.len) s) (p.from + p.len) n
text_of s n (Err r) = bad r.number r.place

-- an integer's answer
abbrev pub integer_is : Got ℤ → Result Int Refusal
integer_is (got z l q m) = cond (in_range z) (Ok (Is z q)) (Ok (Large q))
integer_is (bad r p) = Err (record { number = r; place = p })
