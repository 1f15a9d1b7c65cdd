-- The passes over a bitfield: one turn more, turns over pieces that bring nothing, and what a whole pass comes to. Assumes nothing.
use mathlib.Core.Path.{◌≡◌, refl, sym, ap, ◌∙◌}
use mathlib.Core.Bool.{Bool, true, false, not, ◌&&◌, ◌||◌}
use mathlib.Core.List.{List}
use Prim.Native.Nat.{ℕ, zero, suc, ◌+◌, ◌*◌, ◌/◌, ◌%◌, ◌-◌, ◌^◌, min, ◌≤◌, ◌<◌}
use native.Mathlib.Omega.{arith}
use native.Mathlib.Numerals.{add-one}
use lib.Dec.{leb, eqb}
use native.Mathlib.Nat.{pow-suc}
use lib.Bits.{bit_or, bit_and, and_step}
use lib.ListN.{length, get_or, set}
use borrow.Author.Tests.{leb-false, lt-leb, le-leb}
use Rattle.refusal.proofs.Cases.{same_or, by_bool, cannot, both_true}
use Rattle.yard_tables.specs.Counting.{bit, count, some, each}
use Rattle.yard_tables.specs.Rows.{digit, bit_at, with_bits}
use Rattle.yard_tables.specs.Frames.{spare_set}
use Rattle.yard_tables.proofs.Counts.{bit_le, some-every}
use Rattle.yard_tables.proofs.Digits.{digit-zero}
use Rattle.yard_tables.proofs.Sweeps.{sweep, sweep-start, sweep-next, sweep-turn, sweep-skip, sweep-out, sweep-ext, length-sweep, sweep-each, sweep-or}
use Rattle.yard_hearing.specs.Passes.{new_at, noted, nothing, checked, up, raised, merged, spare_below}
use Rattle.yard_hearing.specs.declared.row.News.{News}

-- ---- the new bits of a byte

min-bit : (x y : ℕ) → x < 2 → y < 2 → eqb (min x (1 - y)) 1 ≡ (eqb x 1 && not (eqb y 1))
min-bit zero zero h l = refl
min-bit zero (suc zero) h l = refl
min-bit (suc zero) zero h l = refl
min-bit (suc zero) (suc zero) h l = refl
min-bit zero (suc (suc y)) h l = absurd (omega arith)
min-bit (suc zero) (suc (suc y)) h l = absurd (omega arith)
min-bit (suc (suc x)) y h l = absurd (omega arith)

and-low : (a b : ℕ) → bit_and a b % 2 ≡ min (a % 2) (b % 2)
and-low a b = omega (arith, and_step a b)

and-half : (a b : ℕ) → bit_and a b / 2 ≡ bit_and (a / 2) (b / 2)
and-half a b = omega (arith, and_step a b)

-- the digits of a that b lacks, where b has w of them
digit-less : (k w a b : ℕ) → k < w → b < 2 ^ w → digit k (bit_and a (2 ^ w - 1 - b)) ≡ (digit k a && not (digit k b))
digit-less k zero a b l h = absurd (omega arith)
digit-less zero (suc w) a b l h =
    let t : 2 ^ suc w ≡ 2 ^ w * 2 = pow-suc 2 w in
    let e : (2 ^ suc w - 1 - b) % 2 ≡ 1 - b % 2 = omega arith in
    rw (and-low a (2 ^ suc w - 1 - b), e) (min-bit (a % 2) (b % 2) (omega arith) (omega arith))
digit-less (suc k) (suc w) a b l h =
    let t : 2 ^ suc w ≡ 2 ^ w * 2 = pow-suc 2 w in
    let e : (2 ^ suc w - 1 - b) / 2 ≡ 2 ^ w - 1 - b / 2 = omega arith in
    rw (and-half a (2 ^ suc w - 1 - b), e) (digit-less k w (a / 2) (b / 2) (omega arith) (omega arith))

pub new-digit : (had says k : ℕ) → had < 256 → k < 8 → digit k (bit_and says (255 - had)) ≡ (digit k says && not (digit k had))
new-digit had says k h l = digit-less k 8 says had l h

-- ---- one piece

pub none-noted : (top : ℕ) (a : News) (b : Bool) (k : ℕ) → b ≡ false → noted a b k top ≡ a
none-noted top a b k e = rw e (go a.added a.over)
  where
    go : (n : ℕ) (o : Bool) → ◌≡◌ {A = News} (record { added = n + 0; over = o || false }) (record { added = n; over = o })
    go n true = let r : n + 0 ≡ n = omega arith in ap (λ (m : ℕ). record { added = m; over = true }) r
    go n false = let r : n + 0 ≡ n = omega arith in ap (λ (m : ℕ). record { added = m; over = false }) r

-- a count of a piece that is not new
up_none : (b : Bool) (x : ℕ) → b ≡ false → up b x ≡ x
up_none b x e = rw e

-- ---- the passes

module _ (rows : List ℕ) (at : ℕ) (said : List ℕ) where
  -- v is the new bits of byte k
  abbrev pub New : ℕ → ℕ → Type 0
  New k v = (j : ℕ) → j < 8 → digit j v ≡ (digit j (get_or said k 0) && not (digit j (get_or rows (at + k) 0)))

  -- one of its pieces, and where there is none
  pub new-is : (p k v : ℕ) (b : Bool) → p / 8 ≡ k → New k v → b ≡ digit (7 - p % 8) v → b ≡ new_at rows at said p
  new-is p k v b h n e = e ∙ n (7 - p % 8) (omega arith) ∙ rw h

  pub nothing-new : (p k v : ℕ) → p / 8 ≡ k → New k v → v ≡ 0 → new_at rows at said p ≡ false
  nothing-new p k v h n z = sym (new-is p k v false h n (sym (digit-zero (7 - p % 8)) ∙ ap (digit (7 - p % 8)) (sym z)))

  module _ (holders : List ℕ) (top : ℕ) where
    pub checked-start : nothing ≡ checked rows at said holders top 0
    unfolding checked
    checked-start = refl

    checked-next : (n : ℕ) → checked rows at said holders top (n + 1) ≡ noted (checked rows at said holders top n) (new_at rows at said n) (get_or holders n 0) top
    unfolding checked
    checked-next n = rw add-one

    pub checked-turn : (k q v : ℕ) (acc r : News) (b : Bool) → q / 8 ≡ k → New k v → acc ≡ checked rows at said holders top q → b ≡ digit (7 - q % 8) v
        → r ≡ noted acc b (get_or holders q 0) top → r ≡ checked rows at said holders top (q + 1)
    checked-turn k q v acc r b e n ea eb er = let x : b ≡ new_at rows at said q = new-is q k v b e n eb in rw (er, ea, x, checked-next q)

    pub checked-le : (n : ℕ) → (checked rows at said holders top n).added ≤ n
    unfolding checked
    checked-le zero = omega arith
    checked-le (suc n) = omega (arith, checked-le n, bit_le (new_at rows at said n))

    pub checked-skip : (n e : ℕ) → n ≤ e → ((q : ℕ) → n ≤ q → q < e → new_at rows at said q ≡ false) → checked rows at said holders top e ≡ checked rows at said holders top n
    unfolding checked
    checked-skip n zero l h = let r : 0 ≡ n = omega arith in ap (checked rows at said holders top) r
    checked-skip n (suc e) l h = same_or n (suc e)
        (λ r. ap (checked rows at said holders top) (sym r))
        (λ r. none-noted top (checked rows at said holders top e) (new_at rows at said e) (get_or holders e 0) (h e (omega arith) (omega arith))
        ∙ checked-skip n e (omega arith) (λ q l' s. h q l' (omega arith)))

    -- what it found
    pub added_is : (n : ℕ) → (checked rows at said holders top n).added ≡ count n (new_at rows at said)
    unfolding checked
    added_is zero = refl
    added_is (suc n) = ap (λ (x : ℕ). x + bit (new_at rows at said n)) (added_is n)

    pub over-is : (n : ℕ) → (checked rows at said holders top n).over ≡ some n (λ p. new_at rows at said p && leb top (get_or holders p 0))
    unfolding checked
    over-is zero = refl
    over-is (suc n) = ap (λ (x : Bool). x || (new_at rows at said n && leb top (get_or holders n 0))) (over-is n)

  abbrev raise : ℕ → ℕ → ℕ
  raise p x = up (new_at rows at said p) x

  pub raised-start : (l : List ℕ) → l ≡ raised rows at said 0 l
  unfolding raised
  raised-start l = sweep-start 0 (λ p. p) raise l

  pub raised-turn : (k q w : ℕ) (t l : List ℕ) (v : ℕ) (b : Bool) → q / 8 ≡ k → New k w → t ≡ raised rows at said q l → b ≡ digit (7 - q % 8) w
      → v ≡ up b (get_or t q 0) → set t q v ≡ raised rows at said (q + 1) l
  unfolding raised
  raised-turn k q w t l v b e n et eb ev = sweep-turn 0 (λ p. p) raise q l t v et (ev ∙ ap (λ (x : Bool). up x (get_or t q 0)) (new-is q k w b e n eb))

  pub raised-len : (n : ℕ) (l : List ℕ) → length (raised rows at said n l) ≡ length l
  unfolding raised
  raised-len n l = length-sweep 0 (λ p. p) raise n l

  pub raised-skip : (n e : ℕ) (l : List ℕ) → n ≤ e → ((q : ℕ) → n ≤ q → q < e → new_at rows at said q ≡ false) → raised rows at said e l ≡ raised rows at said n l
  unfolding raised
  raised-skip n e l le h = sweep-skip 0 (λ p. p) raise n e l le (λ q a b x. up_none (new_at rows at said q) x (h q a b))

  -- no count is at its top, so none stops short: the counts of the definition
  module _ (holders : List ℕ) (top : ℕ) where
    up-plain : (b : Bool) (x : ℕ) → top ≤ 65535 → (b && leb top x) ≡ false → up b x ≡ x + bit b
    up-plain false x l e = omega arith
    up-plain true x l e = omega (arith, leb-false top x e)

    plain : ℕ → ℕ → ℕ
    plain p x = x + bit (new_at rows at said p)

    pub raised_is : top ≤ 65535 → (checked rows at said holders top (length holders)).over ≡ false
        → raised rows at said (length holders) holders ≡ each (λ p x. x + bit (new_at rows at said p)) holders
    unfolding raised plain
    raised_is l e =
        sweep-ext 0 (λ p. p) raise plain (length holders) holders
        (λ k h. up-plain (new_at rows at said k) (get_or (sweep 0 (λ p. p) plain k holders) k 0) l
        (ap (λ (x : ℕ). new_at rows at said k && leb top x) (sweep-out 0 (λ p. p) plain k k holders (λ q r s. omega arith))
        ∙ some-every (λ p. new_at rows at said p && leb top (get_or holders p 0)) (length holders) (sym (over-is holders top (length holders)) ∙ e) k h))
        ∙ sweep-each plain 0 holders

module _ (at : ℕ) (said : List ℕ) where
  abbrev merge : ℕ → ℕ → ℕ
  merge k x = bit_or x (get_or said k 0)

  pub merged-start : (rows : List ℕ) → rows ≡ merged at said 0 rows
  unfolding merged
  merged-start rows = sweep-start 0 (λ k. at + k) merge rows

  pub merged-next : (n : ℕ) (rows : List ℕ) → merged at said (n + 1) rows ≡ set (merged at said n rows) (at + n) (bit_or (get_or (merged at said n rows) (at + n) 0) (get_or said n 0))
  unfolding merged
  merged-next n rows = sweep-next 0 (λ k. at + k) merge n rows

pub merged-is : (w i : ℕ) (said rows : List ℕ) → i * w + w ≤ length rows → merged (i * w) said w rows ≡ with_bits w i said rows
unfolding merged
merged-is w i said rows h = sweep-or w i rows h said

-- ---- spare bits

module _ (pieces : ℕ) (said : List ℕ) where
  pub spare-start : (n : ℕ) → n ≤ pieces → false ≡ spare_below pieces said n
  unfolding spare_below
  spare-start zero h = refl
  spare-start (suc n) h =
      let e : leb pieces n ≡ false = lt-leb pieces n (omega arith) in rw (← spare-start n (omega arith), e)

  pub spare-turn : (n : ℕ) → pieces ≤ n → spare_below pieces said n ≡ false → bit_at said n ≡ false → spare_below pieces said (n + 1) ≡ false
  unfolding spare_below
  spare-turn n l f e = let t : leb pieces n ≡ true = le-leb pieces n l in rw (add-one, f, t, e)

  pub spare-found : (n : ℕ) → pieces ≤ n → n < 8 * length said → bit_at said n ≡ true → true ≡ spare_set pieces said
  spare-found n l h e =
      let b : Bool = spare_set pieces said in
      by_bool b (λ y. sym y) (λ y. cannot (leb pieces n && bit_at said n) (some-every (λ p. leb pieces p && bit_at said p) (8 * length said) y n h) (both_true (leb pieces n) (bit_at said n) (le-leb pieces n l) e))

  pub spare-is : spare_below pieces said (8 * length said) ≡ spare_set pieces said
  unfolding spare_below
  spare-is = refl
