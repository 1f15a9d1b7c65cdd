-- What a pass over all seats comes to, in order from the first. Assumes nothing.
use mathlib.Core.Path.{◌≡◌, refl, sym, ap, ◌∙◌}
use mathlib.Core.Logic.{inl, inr}
use mathlib.Core.Bool.{Bool, true, false, cond, not}
use mathlib.Core.List.{List, [], ◌∷◌, ◌++◌, append-nil}
use Prim.Native.Nat.{ℕ, zero, suc, ◌+◌, ◌≤◌, ◌<◌}
use native.Mathlib.Numerals.{add-one}
use native.Mathlib.Omega.{arith}
use native.Mathlib.Nat.{add-zero, zero-add}
use borrow.Author.Tests.{lt-ltb, le-ltb, ltb-true, ltb-false}
use lib.Dec.{ltb}
use lib.ListN.{length, get_or, set, take, drop, drop_of_length-le, length-drop}
use lib.Seq.{sets, drop-cons, drop-set-lt, take-suc-set, append_snoc, take_all}
use Rattle.std.specs.Prelude.{position, Some, None, unwrap_or}
use Rattle.std.specs.List.{position_or_len}
use Rattle.refusal.proofs.Cases.{less-or}
use Rattle.std.proofs.lemmas.List.Recursion.{is_position_or_len}
use Rattle.std.proofs.lemmas.List.Sums.{prefix_len-le-length}
use Rattle.yard_tables.specs.Seats.{on, cleared}
use Rattle.yard_tables.specs.Counting.{each_from, each}
use Rattle.yard_tables.specs.Ranks.{rank_step, rank_from, choke_step}
use Rattle.yard_tables.specs.Seating.{lowest_free}
use Rattle.yard_tables.specs.Looks.{is_missing, missing_from, lines_of, first_or, page_of}
use Rattle.yard_tables.specs.declared.Seat.{Seat}
use Rattle.yard_tables.specs.declared.Page.{Page}
use Rattle.yard_tables.specs.declared.rank.Ranking.{Ranking}
use Rattle.yard_scans.specs.declared.Asked.{Asked}
use Rattle.yard_scans.specs.Pages.{line_of, as_lines, empty_page, counted, listed, passed, page_step, line_step}
use Rattle.yard_scans.proofs.Steps.{by-test, pick_yes, pick_no, step_skip, step-early, step_line, step_past}

-- ---- the lowest free seat
abbrev pub is_free : Seat → Bool
is_free s = not (on s.taken)

turned : (b : Bool) (x y : ℕ) → cond b (suc x) y ≡ cond (not b) y (1 + x)
turned true x y = omega arith
turned false x y = refl

lowest-first : (ss : List Seat) → lowest_free ss ≡ position_or_len is_free ss
unfolding lowest_free
lowest-first = is_position_or_len lowest_free is_free refl (λ s ss. turned (on s.taken) (lowest_free ss) 0)

pub lowest-is : (ss : List Seat) → unwrap_or (position is_free ss) (length ss) ≡ lowest_free ss
lowest-is ss =
    let p = position_or_len is_free ss in
    less-or p (length ss)
    (λ l. ap (λ (b : Bool). unwrap_or (cond b (Some p) None) (length ss)) (lt-ltb p (length ss) l) ∙ sym (lowest-first ss))
    (λ l. ap (λ (b : Bool). unwrap_or (cond b (Some p) None) (length ss)) (le-ltb p (length ss) l) ∙ omega (arith, prefix_len-le-length (λ s. not (is_free s)) ss) ∙ sym (lowest-first ss))

-- ---- the seats ranked
pub rank-next : (last : ℕ) (ys : List Seat) (i : ℕ) (r : Ranking) → i < length ys → rank_from last (drop (i + 1) ys) (i + 1) (rank_step last r (get_or ys i cleared) i) ≡ rank_from last (drop i ys) i r
unfolding rank_from
rank-next last ys i r l = rw (add-one, drop-cons ys i cleared)

pub rank-end : (last : ℕ) (ys : List Seat) (i : ℕ) (r : Ranking) → length ys ≤ i → r ≡ rank_from last (drop i ys) i r
unfolding rank_from
rank-end last ys i r l = rw (drop_of_length-le ys)

-- ---- every seat changed by its number
pub each_next : (f : ℕ → Seat → Seat) (zs : List Seat) (i : ℕ) (r : Seat) → i < length zs → r ≡ f i (get_or zs i cleared)
    → take (i + 1) (set zs i r) ++ each_from (i + 1) f (drop (i + 1) (set zs i r)) ≡ take i zs ++ each_from i f (drop i zs)
unfolding each_from
each_next f zs i r l e =
    rw (add-one i, drop-set-lt (suc i) zs i r (omega arith), take-suc-set zs i r l)
    (append_snoc (take i zs) r (each_from (suc i) f (drop (suc i) zs))
    ∙ ap (λ (s : Seat). take i zs ++ s ∷ each_from (suc i) f (drop (suc i) zs)) e
    ∙ ap (λ (d : List Seat). take i zs ++ each_from i f d) (sym (drop-cons zs i cleared l)))

pub each-end : (f : ℕ → Seat → Seat) (ys zs : List Seat) (i : ℕ) → length zs ≤ i → take i zs ++ each_from i f (drop i zs) ≡ each f ys → zs ≡ each f ys
unfolding each_from
each-end f ys zs i l e =
    sym (append-nil zs)
    ∙ ap (λ (t : List Seat). t ++ []) (sym (take_all i zs l))
    ∙ ap (λ (d : List Seat). take i zs ++ each_from i f d) (sym (drop_of_length-le zs l))
    ∙ e

-- choked by a round
abbrev pub choke_by : ℕ → Seat → Seat
choke_by i s = choke_step s

-- ---- a page of the missing list, with its lines
pub record Listing : Type 0 where
  pub page : Page
  pub lines : List ℕ

abbrev pub listing : Page → List ℕ → Listing
listing p l = record { page = p; lines = l }

abbrev pub list_step : Asked → Listing → Seat → ℕ → Listing
list_step a x s i = listing (page_step a x.page s i) (line_step a x.page s i x.lines)

unfoldable pub list_from : Asked → List Seat → ℕ → Listing → Listing
list_from a [] i x = x
list_from a (s ∷ ss) i x = list_from a ss (suc i) (list_step a x s i)

pub list-next : (a : Asked) (ys : List Seat) (i : ℕ) (x : Listing) → i < length ys → list_from a (drop (i + 1) ys) (i + 1) (list_step a x (get_or ys i cleared) i) ≡ list_from a (drop i ys) i x
unfolding list_from
list-next a ys i x l = rw (add-one, drop-cons ys i cleared)

pub list-end : (a : Asked) (ys : List Seat) (i : ℕ) (x : Listing) → length ys ≤ i → x ≡ list_from a (drop i ys) i x
unfolding list_from
list-end a ys i x l = rw (drop_of_length-le ys)

-- the missing seats that are asked for
unfoldable wanted_from : Asked → ℕ → List Seat → List ℕ
wanted_from a k [] = []
wanted_from a k (s ∷ ss) = let r : List ℕ = wanted_from a (suc k) ss in cond (is_missing a.pieces s) (cond (ltb k a.first) r (k ∷ r)) r

module _ (a : Asked) (k : ℕ) (s : Seat) (ss : List Seat) where
  abbrev T : Bool
  T = is_missing a.pieces s

  abbrev M : List ℕ
  M = missing_from a.pieces (suc k) ss

  abbrev N : List ℕ
  N = wanted_from a (suc k) ss

  both-skip : T ≡ false → (missing_from a.pieces k (s ∷ ss) ≡ M) × (wanted_from a k (s ∷ ss) ≡ N)
  unfolding missing_from wanted_from
  both-skip e = (pick_no T (k ∷ M) M e, pick_no T (cond (ltb k a.first) N (k ∷ N)) N e)

  both-early : T ≡ true → k < a.first → (missing_from a.pieces k (s ∷ ss) ≡ k ∷ M) × (wanted_from a k (s ∷ ss) ≡ N)
  unfolding missing_from wanted_from
  both-early e f = (pick_yes T (k ∷ M) M e, pick_yes T (cond (ltb k a.first) N (k ∷ N)) N e ∙ pick_yes (ltb k a.first) N (k ∷ N) (lt-ltb k a.first f))

  both-line : T ≡ true → a.first ≤ k → (missing_from a.pieces k (s ∷ ss) ≡ k ∷ M) × (wanted_from a k (s ∷ ss) ≡ k ∷ N)
  unfolding missing_from wanted_from
  both-line e f = (pick_yes T (k ∷ M) M e, pick_yes T (cond (ltb k a.first) N (k ∷ N)) N e ∙ pick_no (ltb k a.first) N (k ∷ N) (le-ltb k a.first f))

-- what a page comes to with room for m lines more, where the seats to come have the missing l, of which w are asked for
abbrev ended : ℕ → Listing → List ℕ → List ℕ → Listing
ended m x w l = record {
  page = record { written = x.page.written + length (take m w); total = x.page.total + length l; next = first_or x.page.next (drop m w) };
  lines = sets x.lines x.page.written (as_lines (take m w));
}

-- and once the next seat is known
abbrev shut : Listing → List ℕ → Listing
shut x l = record { page = record { written = x.page.written; total = x.page.total + length l; next = x.page.next }; lines = x.lines }

abbrev page_with : ℕ → ℕ → ℕ → Page
page_with w t n = record { written = w; total = t; next = n }

same : {w w' t t' n n' : ℕ} {l l' : List ℕ} → w ≡ w' → t ≡ t' → n ≡ n' → l ≡ l' → listing (page_with w t n) l ≡ listing (page_with w' t' n') l'
same {w} {w'} {t} {t'} {n} {n'} {l} {l'} ew et en el =
    ap (λ (z : ℕ). listing (page_with z t n) l) ew ∙ ap (λ (z : ℕ). listing (page_with w' z n) l) et ∙ ap (λ (z : ℕ). listing (page_with w' t' z) l) en ∙ ap (λ (z : List ℕ). listing (page_with w' t' n') z) el

one_more : (t n : ℕ) → t + 1 + n ≡ t + suc n
one_more t n = omega arith

-- one step of a listing, and what comes after it
after : (a : Asked) (s : Seat) (ss : List Seat) (k : ℕ) (x : Listing) (p : Page) (l : List ℕ) → (page_step a x.page s k ≡ p) × (line_step a x.page s k x.lines ≡ l)
    → list_from a (s ∷ ss) k x ≡ list_from a ss (suc k) (listing p l)
unfolding list_from
after a s ss k x p l (e, f) =
    ap (λ (q : Page). list_from a ss (suc k) (listing q (line_step a x.page s k x.lines))) e ∙ ap (λ (m : List ℕ). list_from a ss (suc k) (listing p m)) f

shut-all : (a : Asked) (ss : List Seat) (k : ℕ) (x : Listing) → a.lines ≤ x.page.written → x.page.next < k → list_from a ss k x ≡ shut x (missing_from a.pieces k ss)
unfolding list_from missing_from
shut-all a [] k x f g = same refl (sym (add-zero x.page.total)) refl refl
shut-all a (s ∷ ss) k x f g = elim (by-test (is_missing a.pieces s)) [
  | inl t ↦ elim (by-test (ltb k a.first)) [
    | inl u ↦ let b = both-early a k s ss t (ltb-true k a.first u) in
        after a s ss k x (counted x.page) x.lines (step-early a x.page s k x.lines t (ltb-true k a.first u))
        ∙ shut-all a ss (suc k) (listing (counted x.page) x.lines) f (omega arith)
        ∙ same refl (one_more x.page.total (length (missing_from a.pieces (suc k) ss)) ∙ ap (λ (l : List ℕ). x.page.total + length l) (sym b.0)) refl refl
    | inr u ↦ let b = both-line a k s ss t (ltb-false k a.first u) in
        after a s ss k x (passed k x.page) x.lines (step_past a x.page s k x.lines t (ltb-false k a.first u) f)
        ∙ shut-all a ss (suc k) (listing (passed k x.page) x.lines) f (omega arith)
        ∙ same refl (one_more x.page.total (length (missing_from a.pieces (suc k) ss)) ∙ ap (λ (l : List ℕ). x.page.total + length l) (sym b.0)) (omega arith) refl
  ]
  | inr t ↦ let b = both-skip a k s ss t in
      after a s ss k x x.page x.lines (step_skip a x.page s k x.lines t)
      ∙ shut-all a ss (suc k) x f (omega arith)
      ∙ same refl (ap (λ (l : List ℕ). x.page.total + length l) (sym b.0)) refl refl
]

-- a seat that is asked for, where the seats after it are known
module _ (a : Asked) (s : Seat) (ss : List Seat) (k : ℕ) (x : Listing) (t : is_missing a.pieces s ≡ true) (u : a.first ≤ k) where
  lined : (m : ℕ) → x.page.written + m ≡ a.lines → k < x.page.next
      → ((y : Listing) (j : ℕ) → y.page.written + j ≡ a.lines → y.page.next ≡ x.page.next → list_from a ss (suc k) y ≡ ended j y (wanted_from a (suc k) ss) (missing_from a.pieces (suc k) ss))
      → list_from a (s ∷ ss) k x ≡ ended m x (k ∷ wanted_from a (suc k) ss) (k ∷ missing_from a.pieces (suc k) ss)
  unfolding as_lines
  lined zero f g on =
      after a s ss k x (passed k x.page) x.lines (step_past a x.page s k x.lines t u (omega arith))
      ∙ shut-all a ss (suc k) (listing (passed k x.page) x.lines) (omega arith) (omega arith)
      ∙ same (sym (add-zero x.page.written)) (one_more x.page.total (length (missing_from a.pieces (suc k) ss))) (omega arith) refl
  lined (suc m) f g on =
      after a s ss k x (listed x.page) (set x.lines x.page.written (line_of k)) (step_line a x.page s k x.lines t u (omega arith))
      ∙ on (listing (listed x.page) (set x.lines x.page.written (line_of k))) m (omega arith) refl
      ∙ same (one_more x.page.written (length (take m (wanted_from a (suc k) ss)))) (one_more x.page.total (length (missing_from a.pieces (suc k) ss))) refl
      (ap (λ (j : ℕ). sets (set x.lines x.page.written (line_of k)) j (as_lines (take m (wanted_from a (suc k) ss)))) (add-one x.page.written))

open-all : (a : Asked) (ss : List Seat) (k : ℕ) (x : Listing) (m : ℕ) → x.page.written + m ≡ a.lines → k + length ss ≤ x.page.next
    → list_from a ss k x ≡ ended m x (wanted_from a k ss) (missing_from a.pieces k ss)
unfolding list_from missing_from wanted_from as_lines
open-all a [] k x zero f g = same (sym (add-zero x.page.written)) (sym (add-zero x.page.total)) refl refl
open-all a [] k x (suc m) f g = same (sym (add-zero x.page.written)) (sym (add-zero x.page.total)) refl refl
open-all a (s ∷ ss) k x m f g = elim (by-test (is_missing a.pieces s)) [
  | inl t ↦ elim (by-test (ltb k a.first)) [
    | inl u ↦ let b = both-early a k s ss t (ltb-true k a.first u) in
        after a s ss k x (counted x.page) x.lines (step-early a x.page s k x.lines t (ltb-true k a.first u))
        ∙ open-all a ss (suc k) (listing (counted x.page) x.lines) m f (omega arith)
        ∙ ap (λ (w : List ℕ). ended m (listing (counted x.page) x.lines) w (missing_from a.pieces (suc k) ss)) (sym b.1)
        ∙ same refl (one_more x.page.total (length (missing_from a.pieces (suc k) ss)) ∙ ap (λ (l : List ℕ). x.page.total + length l) (sym b.0)) refl refl
    | inr u ↦ let b = both-line a k s ss t (ltb-false k a.first u) in
        lined a s ss k x t (ltb-false k a.first u) m f (omega arith) (λ y j h e. open-all a ss (suc k) y j h (omega arith))
        ∙ ap (λ (w : List ℕ). ended m x w (k ∷ missing_from a.pieces (suc k) ss)) (sym b.1)
        ∙ ap (λ (l : List ℕ). ended m x (wanted_from a k (s ∷ ss)) l) (sym b.0)
  ]
  | inr t ↦ let b = both-skip a k s ss t in
      after a s ss k x x.page x.lines (step_skip a x.page s k x.lines t)
      ∙ open-all a ss (suc k) x m f (omega arith)
      ∙ ap (λ (w : List ℕ). ended m x w (missing_from a.pieces (suc k) ss)) (sym b.1)
      ∙ same refl (ap (λ (l : List ℕ). x.page.total + length l) (sym b.0)) refl refl
]

wanted-late : (a : Asked) (k : ℕ) (ss : List Seat) → a.first ≤ k → wanted_from a k ss ≡ missing_from a.pieces k ss
unfolding wanted_from missing_from
wanted-late a k [] f = refl
wanted-late a k (s ∷ ss) f = elim (by-test (is_missing a.pieces s)) [
  | inl t ↦ let b = both-line a k s ss t f in b.1 ∙ ap {B = List ℕ} (λ r. k ∷ r) (wanted-late a (suc k) ss (omega arith)) ∙ sym b.0
  | inr t ↦ let b = both-skip a k s ss t in b.1 ∙ wanted-late a (suc k) ss (omega arith) ∙ sym b.0
]

wanted-at : (a : Asked) (k d : ℕ) (ss : List Seat) → a.first ≡ k + d → wanted_from a k ss ≡ missing_from a.pieces a.first (drop d ss)
unfolding wanted_from missing_from
wanted-at a k zero ss e = wanted-late a k ss (omega arith) ∙ ap (λ (j : ℕ). missing_from a.pieces j ss) (sym (e ∙ add-zero k))
wanted-at a k (suc d) [] e = refl
wanted-at a k (suc d) (s ∷ ss) e = elim (by-test (is_missing a.pieces s)) [
  | inl t ↦ (both-early a k s ss t (omega arith)).1 ∙ wanted-at a (suc k) d ss (omega arith)
  | inr t ↦ (both-skip a k s ss t).1 ∙ wanted-at a (suc k) d ss (omega arith)
]

-- all seats, from an empty page on
pub list_all : (a : Asked) (ys : List Seat) (l : List ℕ)
    → list_from a ys 0 (listing (empty_page (length ys)) l) ≡ listing (page_of a.pieces a.first a.lines ys) (sets l 0 (as_lines (lines_of a.pieces a.first a.lines ys)))
unfolding page_of
list_all a ys l =
    open-all a ys 0 (listing (empty_page (length ys)) l) a.lines (zero-add a.lines) (omega arith)
    ∙ ap (λ (w : List ℕ). ended a.lines (listing (empty_page (length ys)) l) w (missing_from a.pieces 0 ys)) (wanted-at a 0 a.first ys (sym (zero-add a.first)))
    ∙ same (zero-add (length (lines_of a.pieces a.first a.lines ys))) (zero-add (length (missing_from a.pieces 0 ys))) refl refl

-- ---- a line of 32 bits holds a seat's number
lines_fit : (p k m : ℕ) (ss : List Seat) → k + length ss ≤ 4294967296 → as_lines (take m (missing_from p k ss)) ≡ take m (missing_from p k ss)
unfolding missing_from as_lines
lines_fit p k zero ss f = refl
lines_fit p k (suc m) [] f = refl
lines_fit p k (suc m) (s ∷ ss) f = elim (by-test (is_missing p s)) [
  | inl t ↦ ap (λ (l : List ℕ). as_lines (take (suc m) l)) (pick_yes (is_missing p s) (k ∷ missing_from p (suc k) ss) (missing_from p (suc k) ss) t)
      ∙ ap {B = List ℕ} (λ j. j ∷ as_lines (take m (missing_from p (suc k) ss))) (omega arith) ∙ ap {B = List ℕ} (λ r. k ∷ r) (lines_fit p (suc k) m ss (omega arith))
      ∙ ap (λ (l : List ℕ). take (suc m) l) (sym (pick_yes (is_missing p s) (k ∷ missing_from p (suc k) ss) (missing_from p (suc k) ss) t))
  | inr t ↦ ap (λ (l : List ℕ). as_lines (take (suc m) l)) (pick_no (is_missing p s) (k ∷ missing_from p (suc k) ss) (missing_from p (suc k) ss) t)
      ∙ lines_fit p (suc k) (suc m) ss (omega arith)
      ∙ ap (λ (l : List ℕ). take (suc m) l) (sym (pick_no (is_missing p s) (k ∷ missing_from p (suc k) ss) (missing_from p (suc k) ss) t))
]

pub lines_are : (p first m : ℕ) (ys : List Seat) → first ≤ length ys → length ys ≤ 4294967296 → as_lines (lines_of p first m ys) ≡ lines_of p first m ys
lines_are p first m ys f g = lines_fit p first m (drop first ys) (omega (arith, length-drop first ys))
