-- A string that was read whole lies within the text, and two answers that the contract of `string` permits for one text and place are the same. Assumes nothing.
use Rattle.std.proofs.Common.{Err, Ok, Result, ◌≡◌, refl, sym, ap, ◌∙◌, subst, Bool, true, false, List, [], ℕ, ◌+◌, ◌≤◌, arith, ltb, length, drop, length-drop, length-take, drop_of_length-le}
use Rattle.refusal.specs.declared.Part.{Part}
use Rattle.refusal.specs.declared.Refusal.{Refusal}
use Rattle.refusal.specs.Parts.{bytes_at}
use borrow.Author.Tests.{ltb-true, ltb-false}
use Rattle.refusal.proofs.Cases.{no_way}
use Rattle.bencode_scalar.specs.Reading.{bad, string_at}
use Rattle.bencode_scalar.specs.Answers.{text_of}
use Rattle.bencode_scalar.proofs.Sound.{Holds, at_left, TextP, string_at-sound}

pub whole-inside : (s : List ℕ) (p : ℕ) (a : Part) → p ≤ length s → text_of s 0 (Ok a) ≡ string_at (length s) (drop p s) p 0 → a.from + a.len ≤ length s
whole-inside s p a h e =
    let q : ℕ = a.from + a.len in
    let v : TextP (drop p s) p 0 (bytes_at s a) (drop q s) q 0 = subst (Holds (TextP (drop p s) p 0)) (sym e) (string_at-sound (length s) (drop p s) p 0 (omega (arith, length-drop p s))) in
    let z : q + length (drop q s) ≡ length s = at_left v.0 (omega (arith, length-drop p s)) in
    omega (arith, length-drop q s)

module _ (s : List ℕ) (p : ℕ) where
  abbrev Permits : Result Part Refusal → Type 0
  Permits r = text_of s 0 r ≡ string_at (length s) (drop p s) p 0

  inside : (a : Part) → Permits (Ok a) → (t : Bool) → ltb p (length s) ≡ t → a.from + a.len ≤ length s
  inside a e true x = whole-inside s p a (omega (arith, ltb-true p (length s) x)) e
  inside a e false x =
      let o : drop p s ≡ [] = drop_of_length-le s (ltb-false p (length s) x) in
      let f : text_of s 0 (Ok a) ≡ bad 1 (length s) = e ∙ rw o in
      no_way (cc)

  sized : (a : Part) → Permits (Ok a) → length (bytes_at s a) ≡ a.len
  sized a e = let i = inside a e (ltb p (length s)) refl in length-take a.len (drop a.from s) ∙ omega (arith, length-drop a.from s)

  same : (r t : Result Part Refusal) → Permits r → Permits t → text_of s 0 r ≡ text_of s 0 t → r ≡ t
  same (Ok a) (Ok b) x y e =
      let f : bytes_at s a ≡ bytes_at s b = cc in
      let g : a.from + a.len ≡ b.from + b.len = cc in
      let h : a.len ≡ b.len = sym (sized a x) ∙ ap length f ∙ sized b y in
      let i : a.from ≡ b.from = omega arith in
      rw (h, i)
  same (Ok a) (Err r) x y e = no_way (cc)
  same (Err r) (Ok b) x y e = no_way (cc)
  same (Err r) (Err q) x y e =
      let f : r.number ≡ q.number = cc in
      let g : r.place ≡ q.place = cc in
      rw (f, g)

  pub string-determined : (r t : Result Part Refusal) → ((n : ℕ) → text_of s n r ≡ string_at (length s) (drop p s) p n) → ((n : ℕ) → text_of s n t ≡ string_at (length s) (drop p s) p n) → r ≡ t
  string-determined r t x y = same r t (x 0) (y 0) (x 0 ∙ sym (y 0))
