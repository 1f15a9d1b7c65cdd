-- A compact reply, put part by part. Assumes nothing.
use Rattle.std.proofs.Common.{Err, Result, ◌≡◌, sym, ap, ◌∙◌, List, [], ◌∷◌, ◌++◌, append_assoc, ℕ, ◌+◌, ◌%◌, ◌<◌, ◌≤◌, arith, length, length-append, lt-ltb, le-ltb}
use Rattle.std.proofs.lemmas.List.Edits.{sets}
use Rattle.refusal.specs.declared.Refusal.{Refusal}
use Rattle.refusal.specs.Paper.{paper, Outcome, taken}
use Rattle.bencode_scalar.specs.Written.{decimal, decimal_in, written_string}
use Rattle.bencode.specs.Value.{encode}
use Rattle.bencode_writer.specs.Put.{left, put_of, place_past}
use Rattle.bencode_writer.proofs.Laws.{put_whole, put-none}
use Rattle.bencode_writer.proofs.Runs.{ran-as, ran-put, put-ran}
use Rattle.tracker.specs.Writing.{text_of, write_of}

-- what stands before the number of seconds, and between that and the entries
abbrev pub opening : List ℕ
opening = 100 ∷ 56 ∷ 58 ∷ 105 ∷ 110 ∷ 116 ∷ 101 ∷ 114 ∷ 118 ∷ 97 ∷ 108 ∷ 105 ∷ []

abbrev pub between : List ℕ
between = 101 ∷ 53 ∷ 58 ∷ 112 ∷ 101 ∷ 101 ∷ 114 ∷ 115 ∷ []

pub parts : (n : ℕ) (bs : List ℕ) → text_of n bs ≡ opening ++ (decimal n ++ (between ++ (written_string bs ++ (101 ∷ []))))
unfolding encode decimal_in
parts n bs = ap (λ (l : List ℕ). opening ++ l) (append_assoc (decimal n) (101 ∷ []) (53 ∷ 58 ∷ 112 ∷ 101 ∷ 101 ∷ 114 ∷ 115 ∷ (written_string bs ++ (101 ∷ []))))

pub size : (n : ℕ) (bs : List ℕ) → length (text_of n bs) ≡ length (decimal n) + length (decimal (length bs)) + length bs + 22
size n bs =
    ap length (parts n bs)
    ∙ omega (arith, length-append (decimal n) (between ++ (written_string bs ++ (101 ∷ []))), length-append (written_string bs) (101 ∷ []), length-append (decimal (length bs)) (58 ∷ bs))

joined : (n : ℕ) (bs : List ℕ) → (((opening ++ decimal n) ++ between) ++ written_string bs) ++ (101 ∷ []) ≡ text_of n bs
joined n bs =
    append_assoc ((opening ++ decimal n) ++ between) (written_string bs) (101 ∷ [])
    ∙ append_assoc (opening ++ decimal n) between (written_string bs ++ (101 ∷ []))
    ∙ append_assoc opening (decimal n) (between ++ (written_string bs ++ (101 ∷ [])))
    ∙ sym (parts n bs)

-- each part fits where the whole does
module _ (o : List ℕ) (n : ℕ) (bs : List ℕ) (h : length (text_of n bs) ≤ length o) where
  whole-size : length ((((opening ++ decimal n) ++ between) ++ written_string bs) ++ (101 ∷ [])) ≤ length o
  whole-size = omega (arith, ap length (joined n bs))

  pub put-parts : {a b c d e : ℕ} {o₁ o₂ o₃ o₄ o₅ : List ℕ} {r₁ r₂ r₃ r₄ r₅ : Outcome ℕ}
      → left r₁ o₁ ≡ put_of opening 0 o → a ≡ place_past r₁ → left r₂ o₂ ≡ put_of (decimal n) a o₁ → b ≡ place_past r₂ → left r₃ o₃ ≡ put_of between b o₂ → c ≡ place_past r₃
      → left r₄ o₄ ≡ put_of (written_string bs) c o₃ → d ≡ place_past r₄ → left r₅ o₅ ≡ put_of (101 ∷ []) d o₄ → e ≡ place_past r₅ → (e ≡ length (text_of n bs)) × (o₅ ≡ sets o 0 (text_of n bs))
  put-parts e₁ f₁ e₂ f₂ e₃ f₃ e₄ f₄ e₅ f₅ =
      let l = whole-size in
      let l₄ = length-append (((opening ++ decimal n) ++ between) ++ written_string bs) (101 ∷ []) in
      let l₃ = length-append ((opening ++ decimal n) ++ between) (written_string bs) in
      let l₂ = length-append (opening ++ decimal n) between in
      let l₁ = length-append opening (decimal n) in
      let r₁ = put-ran opening 0 o (omega arith) e₁ f₁ in
      let r₂ = ran-put r₁ (decimal n) (omega arith) e₂ f₂ in
      let r₃ = ran-put r₂ between (omega arith) e₃ f₃ in
      let r₄ = ran-put r₃ (written_string bs) (omega arith) e₄ f₄ in
      let r₅ = ran-as (ran-put r₄ (101 ∷ []) (omega arith) e₅ f₅) (joined n bs) in
      (omega (arith, r₅.place), r₅.out)

-- what the code answers, test by test
module _ (n : ℕ) (bs o : List ℕ) where
  pub write-range : {r : Result ℕ Refusal} → 2147483647 < n → r ≡ Err (record { number = 11; place = 0 }) → left (paper r) o ≡ write_of n bs o
  unfolding write_of
  write-range h e = rw (e, lt-ltb 2147483647 n h)

  module _ (small : n ≤ 2147483647) where
    pub write-peer : {r : Result ℕ Refusal} → 0 < length bs % 6 → r ≡ Err (record { number = 15; place = 0 }) → left (paper r) o ≡ write_of n bs o
    unfolding write_of
    write-peer h e = rw (e, le-ltb 2147483647 n small, lt-ltb 0 (length bs % 6) h)

    module _ (whole : length bs % 6 ≤ 0) where
      pub write-long : {r : Result ℕ Refusal} → 1048576 < length (text_of n bs) → r ≡ Err (record { number = 8; place = 0 }) → left (paper r) o ≡ write_of n bs o
      unfolding write_of
      write-long h e = rw (e, le-ltb 2147483647 n small, le-ltb 0 (length bs % 6) whole, lt-ltb 1048576 (length (text_of n bs)) h)

      module _ (short : length (text_of n bs) ≤ 1048576) where
        pub write-puts : write_of n bs o ≡ put_of (text_of n bs) 0 o
        unfolding write_of
        write-puts = rw (le-ltb 2147483647 n small, le-ltb 0 (length bs % 6) whole, le-ltb 1048576 (length (text_of n bs)) short)

        pub write-none : {r : Result ℕ Refusal} → length o < length (text_of n bs) → r ≡ Err (record { number = 37; place = 0 }) → left (paper r) o ≡ write_of n bs o
        write-none h e = ap (λ (x : Result ℕ Refusal). left (paper x) o) e ∙ sym (write-puts ∙ put-none (text_of n bs) 0 o (omega arith))

        pub write-whole : {at : ℕ} {out : List ℕ} → length (text_of n bs) ≤ length o → at ≡ length (text_of n bs) → out ≡ sets o 0 (text_of n bs) → left (taken at) out ≡ write_of n bs o
        write-whole h e f = rw (e, f) (let z : 0 + length (text_of n bs) ≡ length (text_of n bs) = omega arith in ap (λ (i : ℕ). left (taken i) (sets o 0 (text_of n bs))) (sym z) ∙ sym (write-puts ∙ put_whole (text_of n bs) 0 o (omega arith)))
