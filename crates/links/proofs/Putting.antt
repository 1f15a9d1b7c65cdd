-- The bytes of a link put into output one after the other, and how many there are. Assumes nothing.
use mathlib.Core.Path.{◌≡◌, refl, ap, ◌∙◌}
use mathlib.Core.Bool.{true, false}
use mathlib.Core.List.{List, ◌++◌, append_assoc}
use Prim.Native.Nat.{ℕ, ◌+◌, ◌<◌, ◌≤◌}
use native.Mathlib.Omega.{arith}
use lib.ListN.{length, get_or, drop, set, length-append}
use Rattle.refusal.specs.Texts.{bytes}
use Rattle.refusal.specs.Paper.{Outcome}
use Rattle.bencode_writer.specs.Escaped.{escaped_byte, small_hex}
use Rattle.bencode_writer.specs.Put.{left, put_of, place_past, Ran}
use Rattle.bencode_writer.proofs.Escapes.{escape-plain, escape-other, escaped-more, hex-length}
use Rattle.bencode_writer.proofs.Runs.{ran-length, ran_then, ran-as, put-ran}
use Rattle.links.specs.Writing.{unreserved, escaped, text_of}

-- ---- a byte of a value

module _ (b : ℕ) where
  pub one_byte : unreserved b ≡ true → (1 ≡ length (escaped_byte unreserved b)) × (1 ≤ 3)
  one_byte e = (ap length (escape-plain unreserved b e), omega arith)

  pub three-bytes : unreserved b ≡ false → (3 ≡ length (escaped_byte unreserved b)) × (3 ≤ 3)
  three-bytes e = (ap length (escape-other unreserved b e), omega arith)

  pub put-plain : (at : ℕ) (o : List ℕ) → unreserved b ≡ true → Ran (escaped_byte unreserved b) at o (at + 1) (set o at b)
  put-plain at o e = ran-as (record { place = refl; out = refl }) (escape-plain unreserved b e)

-- one byte of a value more, and how many bytes a value has
module _ (s : List ℕ) (i : ℕ) where
  pub escaped-length : i < length s → length (escaped (drop i s)) ≡ length (escaped_byte unreserved (get_or s i 0)) + length (escaped (drop (i + 1) s))
  escaped-length h = ap length (escaped-more unreserved s i h) ∙ length-append (escaped_byte unreserved (get_or s i 0)) (escaped (drop (i + 1) s))

-- ---- a whole link

module _ (h d t : List ℕ) where
  pub text-length : length h ≡ 20 → length (text_of h d t) ≡ 68 + length (escaped d) + length (escaped t)
  unfolding text_of
  text-length e =
      omega (arith, e, hex-length h, length-append (small_hex h) (bytes "&dn=" ++ (escaped d ++ (bytes "&tr=" ++ escaped t))), length-append (escaped d) (bytes "&tr=" ++ escaped t))

  -- by its four parts
  text-parts : length (text_of h d t) ≡ 20 + length (small_hex h) + length (bytes "&dn=" ++ escaped d) + length (bytes "&tr=" ++ escaped t)
  unfolding text_of
  text-parts =
      omega (arith, length-append (small_hex h) (bytes "&dn=" ++ (escaped d ++ (bytes "&tr=" ++ escaped t))), length-append (escaped d) (bytes "&tr=" ++ escaped t))

  module _ (o : List ℕ) (l : length (text_of h d t) ≤ length o) {a : ℕ} {o₁ : List ℕ} {x : Outcome ℕ}
      (e : left x o₁ ≡ put_of (bytes "magnet:?xt=urn:btih:") 0 o) (f : a ≡ place_past x) where
    start : Ran (bytes "magnet:?xt=urn:btih:") 0 o a o₁
    start = put-ran (bytes "magnet:?xt=urn:btih:") 0 o (omega (arith, l, text-parts)) e f

    module _ {b : ℕ} {o₂ : List ℕ} {y : Outcome ℕ} (e₂ : left y o₂ ≡ put_of (small_hex h) a o₁) (f₂ : b ≡ place_past y) where
      g : Ran (small_hex h) a o₁ b o₂
      g = put-ran (small_hex h) a o₁ (omega (arith, l, text-parts, start.place, ran-length start)) e₂ f₂

      pub name-room : b + length (bytes "&dn=" ++ escaped d) ≤ length o₂
      name-room = omega (arith, l, text-parts, start.place, ran-length start, g.place, ran-length g)

      module _ {c : ℕ} {o₃ : List ℕ} (i : Ran (bytes "&dn=" ++ escaped d) b o₂ c o₃) where
        pub address_room : c + length (bytes "&tr=" ++ escaped t) ≤ length o₃
        address_room = omega (arith, l, text-parts, start.place, ran-length start, g.place, ran-length g, i.place, ran-length i)

        pub text-put : {q : ℕ} {o₄ : List ℕ} → Ran (bytes "&tr=" ++ escaped t) c o₃ q o₄ → Ran (text_of h d t) 0 o q o₄
        unfolding text_of
        text-put j = ran-as (ran_then (ran_then (ran_then start g) i) j) (joined (bytes "magnet:?xt=urn:btih:") (small_hex h) (bytes "&dn=") (escaped d) (bytes "&tr=" ++ escaped t))
          where
            joined : (u v w x y : List ℕ) → ((u ++ v) ++ (w ++ x)) ++ y ≡ u ++ (v ++ (w ++ (x ++ y)))
            joined u v w x y = append_assoc (u ++ v) (w ++ x) y ∙ append_assoc u v ((w ++ x) ++ y) ∙ ap (λ (z : List ℕ). u ++ (v ++ z)) (append_assoc w x y)
