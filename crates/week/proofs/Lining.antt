-- The lines of a week's file, put one after the other, and how many bytes they have. Assumes nothing.
use mathlib.Core.Path.{◌≡◌, sym, ap, ◌∙◌}
use mathlib.Core.List.{List, [], ◌++◌}
use Prim.Native.Nat.{ℕ, suc, ◌+◌, ◌*◌, ◌-◌, ◌<◌, ◌≤◌}
use native.Mathlib.Omega.{arith}
use native.Mathlib.Numerals.{add-one}
use lib.ListN.{length, take, drop, get_or, length-drop, length-append}
use lib.Seq.{length-take-le}
use Rattle.refusal.specs.Texts.{bytes}
use Rattle.refusal.specs.Paper.{Outcome, taken, refused}
use Rattle.refusal.specs.Parts.{bytes_at}
use Rattle.bencode_scalar.specs.Written.{decimal}
use Rattle.bencode_writer.specs.Escaped.{small_hex}
use Rattle.bencode_writer.specs.Put.{left, put_of, place_past, Ran}
use Rattle.bencode_writer.proofs.Escapes.{hex-length}
use Rattle.bencode_writer.proofs.Runs.{ran_then, ran-as, ran-room, put-ran, Going, going_more, going_end}
use Rattle.torrent_lines.specs.Lines.{refused_line}
use Rattle.torrent_lines.proofs.Running.{digits-most}
use Rattle.week.specs.Rules.{package_at, week_of}
use Rattle.week.specs.Lines.{package_line, last_line, line_in, lines_from, lines_by, listing_of}
use Rattle.week.specs.Noted.{Noted}
use Rattle.week.proofs.Summing.{Taken, package-taken, week-each}
use Rattle.week.specs.declared.Entry.{Entry}
use Rattle.week.specs.declared.Week.{Week}

-- ---- six writers one after the other

-- one of them, and then the rest
put_next : (v w : List ℕ) (at : ℕ) (o : List ℕ) {a : Outcome ℕ} {r q : ℕ} {p e : List ℕ} → at + length (v ++ w) ≤ length o → left a p ≡ put_of v at o → r ≡ place_past a
    → (r + length w ≤ length p → Ran w r p q e) → Ran (v ++ w) at o q e
put_next v w at o l e f k = let ran = put-ran v at o (omega (arith, length-append v w)) e f in ran_then ran (k (ran-room ran w l))

module _ (u v w x y z : List ℕ) where
  six-length : length (u ++ (v ++ (w ++ (x ++ (y ++ z))))) ≡ length u + length v + length w + length x + length y + length z
  six-length =
      omega (arith, length-append u (v ++ (w ++ (x ++ (y ++ z)))), length-append v (w ++ (x ++ (y ++ z))), length-append w (x ++ (y ++ z)), length-append x (y ++ z), length-append y z)

  put_six : (at : ℕ) (o : List ℕ) {a₁ a₂ a₃ a₄ a₅ a₆ : Outcome ℕ} {r₁ r₂ r₃ r₄ r₅ r₆ : ℕ} {p₁ p₂ p₃ p₄ p₅ p₆ : List ℕ} → at + length (u ++ (v ++ (w ++ (x ++ (y ++ z))))) ≤ length o
      → left a₁ p₁ ≡ put_of u at o → r₁ ≡ place_past a₁ → left a₂ p₂ ≡ put_of v r₁ p₁ → r₂ ≡ place_past a₂ → left a₃ p₃ ≡ put_of w r₂ p₂ → r₃ ≡ place_past a₃
      → left a₄ p₄ ≡ put_of x r₃ p₃ → r₄ ≡ place_past a₄ → left a₅ p₅ ≡ put_of y r₄ p₄ → r₅ ≡ place_past a₅ → left a₆ p₆ ≡ put_of z r₅ p₅ → r₆ ≡ place_past a₆
      → Ran (u ++ (v ++ (w ++ (x ++ (y ++ z))))) at o r₆ p₆
  put_six at o l e₁ f₁ e₂ f₂ e₃ f₃ e₄ f₄ e₅ f₅ e₆ f₆ =
      put_next u _ _ _ l e₁ f₁ (λ l₁. put_next v _ _ _ l₁ e₂ f₂ (λ l₂. put_next w _ _ _ l₂ e₃ f₃ (λ l₃. put_next x _ _ _ l₃ e₄ f₄ (λ l₄. put_next y z _ _ l₄ e₅ f₅ (λ l₅. put-ran z _ _ l₅ e₆ f₆)))))

-- a package's line, and the last one
module _ (hash : List ℕ) (files total : ℕ) (h : length hash ≡ 20) (f : files < 18446744073709551616) (t : total < 18446744073709551616) where
  package-most : length (package_line hash files total) ≤ 83
  unfolding package_line
  package-most =
      omega (arith, h, hex-length hash, digits-most files f, digits-most total t, six-length (small_hex hash) (bytes " ") (decimal files) (bytes " ") (decimal total) (bytes "\n"))

  pub line-put : (at : ℕ) (o : List ℕ) → at + 83 ≤ length o → {a₁ a₂ a₃ a₄ a₅ a₆ : Outcome ℕ} {r₁ r₂ r₃ r₄ r₅ r₆ : ℕ} {p₁ p₂ p₃ p₄ p₅ p₆ : List ℕ}
      → left a₁ p₁ ≡ put_of (small_hex hash) at o → r₁ ≡ place_past a₁ → left a₂ p₂ ≡ put_of (bytes " ") r₁ p₁ → r₂ ≡ place_past a₂ → left a₃ p₃ ≡ put_of (decimal files) r₂ p₂ → r₃ ≡ place_past a₃
      → left a₄ p₄ ≡ put_of (bytes " ") r₃ p₃ → r₄ ≡ place_past a₄ → left a₅ p₅ ≡ put_of (decimal total) r₄ p₄ → r₅ ≡ place_past a₅ → left a₆ p₆ ≡ put_of (bytes "\n") r₅ p₅ → r₆ ≡ place_past a₆
      → Ran (package_line hash files total) at o r₆ p₆ × (r₆ ≤ at + 83)
  unfolding package_line
  line-put at o l e₁ f₁ e₂ f₂ e₃ f₃ e₄ f₄ e₅ f₅ e₆ f₆ =
      let most = package-most in
      let ran = put_six (small_hex hash) (bytes " ") (decimal files) (bytes " ") (decimal total) (bytes "\n") at o (omega (arith, l, most)) e₁ f₁ e₂ f₂ e₃ f₃ e₄ f₄ e₅ f₅ e₆ f₆ in
      (ran, omega (arith, ran.place, most))

module _ (w : Week) (c : w.count < 18446744073709551616) (f : w.files < 18446744073709551616) (t : w.total < 18446744073709551616) where
  last-most : length (last_line w) ≤ 84
  unfolding last_line
  last-most =
      omega (arith, digits-most w.count c, digits-most w.files f, digits-most w.total t, six-length (decimal w.count) (bytes " packages ") (decimal w.files) (bytes " files ") (decimal w.total) (bytes " bytes\n"))

  pub last-put : (at : ℕ) (o : List ℕ) → at + 84 ≤ length o → {a₁ a₂ a₃ a₄ a₅ a₆ : Outcome ℕ} {r₁ r₂ r₃ r₄ r₅ r₆ : ℕ} {p₁ p₂ p₃ p₄ p₅ p₆ : List ℕ}
      → left a₁ p₁ ≡ put_of (decimal w.count) at o → r₁ ≡ place_past a₁ → left a₂ p₂ ≡ put_of (bytes " packages ") r₁ p₁ → r₂ ≡ place_past a₂ → left a₃ p₃ ≡ put_of (decimal w.files) r₂ p₂ → r₃ ≡ place_past a₃
      → left a₄ p₄ ≡ put_of (bytes " files ") r₃ p₃ → r₄ ≡ place_past a₄ → left a₅ p₅ ≡ put_of (decimal w.total) r₄ p₄ → r₅ ≡ place_past a₅ → left a₆ p₆ ≡ put_of (bytes " bytes\n") r₅ p₅ → r₆ ≡ place_past a₆
      → Ran (last_line w) at o r₆ p₆ × (r₆ ≤ at + 84)
  unfolding last_line
  last-put at o l e₁ f₁ e₂ f₂ e₃ f₃ e₄ f₄ e₅ f₅ e₆ f₆ =
      let most = last-most in
      let ran = put_six (decimal w.count) (bytes " packages ") (decimal w.files) (bytes " files ") (decimal w.total) (bytes " bytes\n") at o (omega (arith, l, most)) e₁ f₁ e₂ f₂ e₃ f₃ e₄ f₄ e₅ f₅ e₆ f₆ in
      (ran, omega (arith, ran.place, most))

-- ---- line after line

module _ (s : List ℕ) (n i : ℕ) where
  lines_more : (e : Entry) → i < n → package_at s i ≡ taken e → lines_from s (n - i) i ≡ package_line (bytes_at s e.hash) e.files e.total ++ lines_from s (n - (i + 1)) (i + 1)
  unfolding lines_from
  lines_more e h q =
      let k : n - i ≡ suc (n - (i + 1)) = omega arith in
      ap (λ (m : ℕ). lines_from s m i) k ∙ ap (λ (x : Outcome Entry). line_in s x ++ lines_from s (n - (i + 1)) (suc i)) q
      ∙ ap (λ (j : ℕ). package_line (bytes_at s e.hash) e.files e.total ++ lines_from s (n - (i + 1)) j) (sym (add-one i))

  lines_none : n ≤ i → lines_from s (n - i) i ≡ []
  unfolding lines_from
  lines_none h = let k : n - i ≡ 0 = omega arith in ap (λ (m : ℕ). lines_from s m i) k

-- the lines of i packages are put to the front of o, which leaves p, and `at` is the place past them
pub record Lined (s : List ℕ) (n : ℕ) (o p : List ℕ) (at i : ℕ) : Type 0 where
  pub within : i ≤ n
  pub near : at ≤ 83 * i
  pub going : Going (lines_from s n 0) 0 o (lines_from s (n - i) i) at p

module _ (s : List ℕ) (n : ℕ) (o : List ℕ) where
  module _ {p : List ℕ} {at i : ℕ} (g : Lined s n o p at i) where
    pub lined-more : (e : Entry) → i < n → package_at s i ≡ taken e → {x : List ℕ} {f t : ℕ} → x ≡ bytes_at s e.hash → f ≡ e.files → t ≡ e.total
        → {r : ℕ} {q : List ℕ} → Ran (package_line x f t) at p r q × (r ≤ at + 83) → Lined s n o q r (i + 1)
    lined-more e h b {x} {f} {t} u v w m = record {
      within = omega arith;
      near = omega (arith, g.near, m.1);
      going =
          going_more _ _ _ g.going _ _ (lines_more s n i e h b)
          (ran-as m.0 (ap (λ (l : List ℕ). package_line l f t) u ∙ ap (λ (k : ℕ). package_line (bytes_at s e.hash) k t) v ∙ ap (package_line (bytes_at s e.hash) e.files) w));
    }

    pub lined-end : n ≤ i → Ran (lines_from s n 0) 0 o at p
    lined-end h = going_end _ _ _ g.going (lines_none s n i h)

-- the line of package i of a file that is taken
module _ (s : List ℕ) (w : Week) (t : week_of s ≡ taken w) (i : ℕ) (h : i < w.count) where
  told : (e : Entry) × (package_at s i ≡ taken e)
  told = week-each s w i t h

  fields : Taken s i told.0
  fields = package-taken s i told.0 told.1

  pub hash-there : 12 + 28 * i + 20 ≤ length s
  hash-there = fields.hash

  -- its bytes, as the code takes them
  span : 12 + 28 * i + 20 - (12 + 28 * i) ≡ 20
  span = omega arith

  pub hash-whole : length (take (12 + 28 * i + 20 - (12 + 28 * i)) (drop (12 + 28 * i) s)) ≡ 20
  hash-whole = ap (λ (m : ℕ). length (take m (drop (12 + 28 * i) s))) span ∙ length-take-le 20 (drop (12 + 28 * i) s) (rw length-drop (omega (arith, hash-there)))

  pub lined-again : {o p : List ℕ} {at : ℕ} → Lined s w.count o p at i → (l : List ℕ) → Noted s w.count l
      → {r : ℕ} {q : List ℕ} → Ran (package_line (take (12 + 28 * i + 20 - (12 + 28 * i)) (drop (12 + 28 * i) s)) (get_or l (2 * i) 0) (get_or l (2 * i + 1) 0)) at p r q × (r ≤ at + 83) → Lined s w.count o q r (i + 1)
  lined-again g l b m =
      let there = ap (λ (x : ℕ). take x (drop (12 + 28 * i) s)) span ∙ ap (λ (x : Entry). bytes_at s x.hash) fields.is in
      let kept = b i h told.0 told.1 in
      lined-more s w.count _ g told.0 h told.1 there kept.0 kept.1 m

-- all lines
module _ (s : List ℕ) where
  pub lines-taken : (w : Week) → week_of s ≡ taken w → lines_from s w.count 0 ++ last_line w ≡ listing_of s
  unfolding listing_of
  lines-taken w e = sym (ap (lines_by s) e)

  pub lines-refused : (n p : ℕ) → week_of s ≡ refused n p → refused_line n p ≡ listing_of s
  unfolding listing_of
  lines-refused n p e = sym (ap (lines_by s) e)

-- how long the line of a refusal can be
pub refused-most : (n p : ℕ) → n < 18446744073709551616 → p < 18446744073709551616 → length (refused_line n p) ≤ 53
refused-most n p h k =
    omega (arith, digits-most n h, digits-most p k, length-append (decimal n) (bytes " at " ++ (decimal p ++ bytes "\n")), length-append (decimal p) (bytes "\n"))
