-- One byte more of lines, their digits, and lines put together. Assumes nothing.
use Rattle.std.proofs.Common.{◌≡◌, sym, ap, ◌∙◌, List, [], ◌∷◌, ◌++◌, map, append_assoc, ℕ, ◌+◌, ◌-◌, ◌<◌, ◌≤◌, arith, add-one, length, get_or, take, drop, drop-cons, replicate}
use Rattle.bencode_scalar.specs.Written.{decimal, decimal_in}
use Rattle.refusal.specs.Paper.{Outcome}
use Rattle.bencode_writer.specs.Put.{left, put_of, place_past}
use Rattle.bencode_writer.proofs.Decimals.{length_most}
use Rattle.bencode_writer.proofs.Runs.{ran-length, ran-there, put-ran}
use Rattle.refusal.specs.Texts.{bytes}
use Rattle.torrent_lines.specs.Lines.{escaped, slashed}

-- what is left from a place of a list on, by the element there
module _ (s : List ℕ) (i : ℕ) (h : i < length s) where
  pub one_more : drop i s ≡ (get_or s i 0 ∷ []) ++ drop (i + 1) s
  one_more = drop-cons s i 0 h ∙ ap (λ (k : ℕ). get_or s i 0 ∷ drop k s) (sym (add-one i))

-- a number of 64 bits has 20 digits at most
pub digits-most : (n : ℕ) → n < 18446744073709551616 → length (decimal n) ≤ 20
digits-most n h = length_most 19 n (omega arith)

-- 20 bytes that the digits were written to begin with them
pub digits-there : (n : ℕ) {a : Outcome ℕ} {count : ℕ} {word : List ℕ} → n < 18446744073709551616 → left a word ≡ put_of (decimal n) 0 (replicate 20 0) → count ≡ place_past a
    → (count ≤ 20) × (length word ≡ 20) × (take (count - 0) (drop 0 word) ≡ decimal n)
digits-there n h e f =
    let l : 0 + length (decimal n) ≤ length (replicate {A = ℕ} 20 0) = omega (arith, digits-most n h) in
    let r = put-ran (decimal n) 0 (replicate 20 0) l e f in
    (omega (arith, r.place), ran-length r, ran-there (decimal n) 0 (replicate 20 0) r l)

-- ---- lines, as the code puts them together

pub refused-joined : (n p : List ℕ) → bytes "refused " ++ ((n ++ bytes " at ") ++ (p ++ bytes "\n")) ≡ bytes "refused " ++ (n ++ (bytes " at " ++ (p ++ bytes "\n")))
refused-joined n p = ap (λ (l : List ℕ). bytes "refused " ++ l) (append_assoc n (bytes " at ") (p ++ bytes "\n"))

pub first-joined : (e f t q l : List ℕ)
    → e ++ (bytes " " ++ ((f ++ bytes " files ") ++ ((t ++ bytes " bytes ") ++ ((q ++ bytes " pieces of ") ++ (l ++ bytes "\n")))))
    ≡ e ++ (bytes " " ++ (f ++ (bytes " files " ++ (t ++ (bytes " bytes " ++ (q ++ (bytes " pieces of " ++ (l ++ bytes "\n"))))))))
first-joined e f t q l =
    ap (λ (x : List ℕ). e ++ (bytes " " ++ x)) (append_assoc f (bytes " files ") ((t ++ bytes " bytes ") ++ ((q ++ bytes " pieces of ") ++ (l ++ bytes "\n")))
    ∙ ap (λ (x : List ℕ). f ++ (bytes " files " ++ x)) (append_assoc t (bytes " bytes ") ((q ++ bytes " pieces of ") ++ (l ++ bytes "\n")) ∙ ap (λ (x : List ℕ). t ++ (bytes " bytes " ++ x)) (append_assoc q (bytes " pieces of ") (l ++ bytes "\n"))))

pub only-joined : (n name : List ℕ) → bytes "0 " ++ ((n ++ bytes " ") ++ (escaped name ++ bytes "\n")) ≡ decimal 0 ++ (bytes " " ++ (n ++ (bytes " " ++ (slashed (map escaped (name ∷ [])) ++ bytes "\n"))))
unfolding decimal_in slashed
only-joined n name = ap (λ (x : List ℕ). bytes "0 " ++ x) (append_assoc n (bytes " ") (escaped name ++ bytes "\n"))
