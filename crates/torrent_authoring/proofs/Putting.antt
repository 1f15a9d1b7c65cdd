-- A torrent's text, put part by part. Assumes nothing.
use Rattle.std.proofs.Common.{◌≡◌, sym, ap, ◌∙◌, List, [], ◌∷◌, ◌++◌, append_assoc, ℕ, ◌+◌, ◌≤◌, arith, length, length-append}
use Rattle.refusal.specs.Paper.{Outcome}
use Rattle.bencode_scalar.specs.Written.{decimal, decimal_in, written_string}
use Rattle.bencode.specs.Value.{encode}
use Rattle.bencode_writer.specs.Put.{left, put_of, place_past, Ran}
use Rattle.bencode_writer.proofs.Runs.{ran_then, ran-as, ran-room, ran-put}
use Rattle.torrent_authoring.specs.Writing.{Fields, text_of}

-- ---- the text's parts

-- d8:announce
abbrev pub to_announce : List ℕ
to_announce = 100 ∷ 56 ∷ 58 ∷ 97 ∷ 110 ∷ 110 ∷ 111 ∷ 117 ∷ 110 ∷ 99 ∷ 101 ∷ []

-- 4:infod6:lengthi
abbrev pub to_length : List ℕ
to_length = 52 ∷ 58 ∷ 105 ∷ 110 ∷ 102 ∷ 111 ∷ 100 ∷ 54 ∷ 58 ∷ 108 ∷ 101 ∷ 110 ∷ 103 ∷ 116 ∷ 104 ∷ 105 ∷ []

-- 4:name
abbrev pub to_name : List ℕ
to_name = 52 ∷ 58 ∷ 110 ∷ 97 ∷ 109 ∷ 101 ∷ []

-- 12:piece lengthi
abbrev pub to_piece_length : List ℕ
to_piece_length = 49 ∷ 50 ∷ 58 ∷ 112 ∷ 105 ∷ 101 ∷ 99 ∷ 101 ∷ 32 ∷ 108 ∷ 101 ∷ 110 ∷ 103 ∷ 116 ∷ 104 ∷ 105 ∷ []

-- 6:pieces
abbrev pub to_pieces : List ℕ
to_pieces = 54 ∷ 58 ∷ 112 ∷ 105 ∷ 101 ∷ 99 ∷ 101 ∷ 115 ∷ []

-- e
abbrev pub e : List ℕ
e = 101 ∷ []

-- all of it, from the parts that are put one after the other
abbrev pub joined : Fields → List ℕ
joined f =
    (((((to_announce ++ written_string f.announce)
    ++ (to_length ++ (decimal f.length ++ e)))
    ++ (to_name ++ written_string f.name))
    ++ (to_piece_length ++ (decimal f.piece_length_of ++ e)))
    ++ (to_pieces ++ written_string f.pieces))
    ++ (101 ∷ e)

regroup : (A a I L l E N n P p Q q : List ℕ)
    → A ++ (a ++ (I ++ ((L ++ ((l ++ E) ++ (N ++ (n ++ (P ++ ((p ++ E) ++ (Q ++ (q ++ E)))))))) ++ E)))
    ≡ (((((A ++ a) ++ ((I ++ L) ++ (l ++ E))) ++ (N ++ n)) ++ (P ++ (p ++ E))) ++ (Q ++ q)) ++ (E ++ E)
regroup A a I L l E N n P p Q q = simp append_assoc

pub parts : (f : Fields) → text_of f ≡ joined f
unfolding encode decimal_in
parts f =
    regroup to_announce (written_string f.announce) (52 ∷ 58 ∷ 105 ∷ 110 ∷ 102 ∷ 111 ∷ 100 ∷ []) (54 ∷ 58 ∷ 108 ∷ 101 ∷ 110 ∷ 103 ∷ 116 ∷ 104 ∷ 105 ∷ []) (decimal f.length) e to_name (written_string f.name) to_piece_length (decimal f.piece_length_of) to_pieces (written_string f.pieces)

module _ (f : Fields) where
  -- how long the text is
  pub size : length (text_of f) ≡ length (written_string f.announce) + length (written_string f.name) + length (written_string f.pieces) + length (decimal f.piece_length_of) + length (decimal f.length) + 61
  size =
      let w₁ : List ℕ = to_announce ++ written_string f.announce in
      let v₂ : List ℕ = to_length ++ (decimal f.length ++ e) in
      let v₃ : List ℕ = to_name ++ written_string f.name in
      let v₄ : List ℕ = to_piece_length ++ (decimal f.piece_length_of ++ e) in
      let v₅ : List ℕ = to_pieces ++ written_string f.pieces in
      ap length (parts f)
      ∙ omega (
        arith,
        length-append ((((w₁ ++ v₂) ++ v₃) ++ v₄) ++ v₅) (101 ∷ e),
        length-append (((w₁ ++ v₂) ++ v₃) ++ v₄) v₅,
        length-append ((w₁ ++ v₂) ++ v₃) v₄,
        length-append (w₁ ++ v₂) v₃,
        length-append w₁ v₂,
        length-append to_announce (written_string f.announce),
        length-append to_length (decimal f.length ++ e),
        length-append (decimal f.length) e,
        length-append to_name (written_string f.name),
        length-append to_piece_length (decimal f.piece_length_of ++ e),
        length-append (decimal f.piece_length_of) e,
        length-append to_pieces (written_string f.pieces),
      )

-- the parts one after the other, where the whole text fits
module _ (f : Fields) (o : List ℕ) (h : length (text_of f) ≤ length o) where
  abbrev v₁ : List ℕ
  v₁ = to_announce ++ written_string f.announce

  abbrev v₂ : List ℕ
  v₂ = to_length ++ (decimal f.length ++ e)

  abbrev v₃ : List ℕ
  v₃ = to_name ++ written_string f.name

  abbrev v₄ : List ℕ
  v₄ = to_piece_length ++ (decimal f.piece_length_of ++ e)

  abbrev v₅ : List ℕ
  v₅ = to_pieces ++ written_string f.pieces

  fits₆ : 0 + length (joined f) ≤ length o
  fits₆ = omega (arith, ap length (parts f))

  fits₅ : 0 + length ((((v₁ ++ v₂) ++ v₃) ++ v₄) ++ v₅) ≤ length o
  fits₅ = omega (arith, fits₆, length-append ((((v₁ ++ v₂) ++ v₃) ++ v₄) ++ v₅) (101 ∷ e))

  fits₄ : 0 + length (((v₁ ++ v₂) ++ v₃) ++ v₄) ≤ length o
  fits₄ = omega (arith, fits₅, length-append (((v₁ ++ v₂) ++ v₃) ++ v₄) v₅)

  fits₃ : 0 + length ((v₁ ++ v₂) ++ v₃) ≤ length o
  fits₃ = omega (arith, fits₄, length-append ((v₁ ++ v₂) ++ v₃) v₄)

  fits₂ : 0 + length (v₁ ++ v₂) ≤ length o
  fits₂ = omega (arith, fits₃, length-append (v₁ ++ v₂) v₃)

  pub room-announce : 0 + length v₁ ≤ length o
  room-announce = omega (arith, fits₂, length-append v₁ v₂)

  module _ {a : ℕ} {o₁ : List ℕ} (r₁ : Ran v₁ 0 o a o₁) where
    pub room-length : a + length v₂ ≤ length o₁
    room-length = ran-room r₁ v₂ fits₂

    module _ {b : ℕ} {o₂ : List ℕ} (p₂ : Ran v₂ a o₁ b o₂) where
      r₂ : Ran (v₁ ++ v₂) 0 o b o₂
      r₂ = ran_then r₁ p₂

      pub room-name : b + length v₃ ≤ length o₂
      room-name = ran-room r₂ v₃ fits₃

      module _ {c : ℕ} {o₃ : List ℕ} (p₃ : Ran v₃ b o₂ c o₃) where
        r₃ : Ran ((v₁ ++ v₂) ++ v₃) 0 o c o₃
        r₃ = ran_then r₂ p₃

        pub room-piece : c + length v₄ ≤ length o₃
        room-piece = ran-room r₃ v₄ fits₄

        module _ {d : ℕ} {o₄ : List ℕ} (p₄ : Ran v₄ c o₃ d o₄) where
          r₄ : Ran (((v₁ ++ v₂) ++ v₃) ++ v₄) 0 o d o₄
          r₄ = ran_then r₃ p₄

          pub room-pieces : d + length v₅ ≤ length o₄
          room-pieces = ran-room r₄ v₅ fits₅

          pub all-put : {i j : ℕ} {o₅ o₆ : List ℕ} {a : Outcome ℕ} → Ran v₅ d o₄ i o₅ → left a o₆ ≡ put_of (101 ∷ e) i o₅ → j ≡ place_past a → Ran (text_of f) 0 o j o₆
          all-put p₅ g k =
              let r₅ = ran_then r₄ p₅ in
              ran-as (ran-put r₅ (101 ∷ e) fits₆ g k) (sym (parts f))
