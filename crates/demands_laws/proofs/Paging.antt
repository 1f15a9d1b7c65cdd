-- What a page of the missing list says, put together from the laws of pages; and what pages one after the other yield. Assumes nothing.
use mathlib.Core.Path.{◌≡◌, refl, sym, ap, ap₂, subst, ◌∙◌}
use mathlib.Core.Logic.{◌↔◌}
use mathlib.Core.Bool.{Bool, true, false, cond}
use mathlib.Core.List.{List, [], ◌∷◌, ◌++◌, Memᴰ as In}
use Prim.Native.Nat.{ℕ, zero, suc, ◌+◌, ◌-◌, ◌≤◌, ◌<◌, min}
use native.Mathlib.Omega.{arith}
use borrow.Author.Tests.{leb-true, le-leb, lt-ltb, le-ltb, ltb-true, ltb-false}
use lib.Dec.{ltb, leb}
use lib.ListN.{length, get_or, take, drop, length-take}
use lib.Seq.{sets, sets-eq, get_or-drop, take-append_seam}
use Rattle.refusal.specs.Paper.{Outcome, taken, refused}
use Rattle.refusal.proofs.Cases.{no_way, by-test, same_or}
use Rattle.paging_laws.specs.Pages as Pages
use Rattle.paging_laws.specs.Pages.{Ascends, from, Printed, PageOf, Follows, Yields, printed}
use Rattle.paging_laws.proofs.Following.{from_all, follows-yields}
use Rattle.yard_tables.specs.Counting.{count}
use Rattle.yard_tables.specs.Seats.{cleared}
use Rattle.yard_tables.specs.Looks.{first_or, is_missing, lines_of}
use Rattle.yard_tables.specs.Tables.{Yard, Said, listed}
use Rattle.yard_tables.specs.Step.{missing, step, written, if_taken}
use Rattle.yard_tables.specs.declared.Page.{Page}
use Rattle.yard_laws.specs.History.{History, Fixed}
use Rattle.yard_laws.specs.Says.{Ascending, none, one, lacking}
use Rattle.yard_laws.specs.Damage.{Fit}
use Rattle.yard_laws.specs.Expected.{those, missing_from, page_from, answer, output}
use Rattle.yard_laws.proofs.Damage.{is-fit}
use Rattle.yard_laws.proofs.Missing.{those-all, lines_are, page-is}
use Rattle.yard_laws.proofs.Pages.{not-before, those-ascend, those-members, missing-is}
use Rattle.yard_telling.specs.Telling.{code_of, told_of, Looks}
use Rattle.yard_telling.specs.declared.Told.{Told}
use Rattle.demands_laws.specs.Paging.{Paged}

-- the total is of all seats, whatever the page
pub page-total : (fixed : Fixed) (h : History) (first space : ℕ) (x : Page) → answer fixed h (missing first space) ≡ taken (listed x) → x.total ≡ count fixed.seats (lacking h)
page-total fixed h first space x e = go (leb first fixed.seats) e
  where
    go : (b : Bool) → cond b (taken (listed (page_from fixed h first space))) (refused 36 0) ≡ taken (listed x) → x.total ≡ count fixed.seats (lacking h)
    go true q = let d : page_from fixed h first space ≡ x = cc in ap (λ (y : Page). y.total) (sym d)
    go false q = no_way (cc)

-- the lines stand at the start of the page, and after them what stood there
lines-put : (page l : List ℕ) → sets page 0 (take (length page) l) ≡ take (length page) l ++ drop (length (take (length page) l)) page
lines-put page l =
    let z : 0 + length (take (length page) l) ≡ length (take (length page) l) = omega arith in
    rw z at (sets-eq (take (length page) l) page 0 (omega (arith, length-take (length page) l)))

module _ (fixed : Fixed) (h : History) (first : ℕ) (page out : List ℕ) (x : Page) where
  abbrev Listed : Type 0
  Listed =
      (x.total ≡ count fixed.seats (lacking h))
      × ((l : List ℕ) × Ascending first l × ((j : ℕ) → In j l ↔ ((first ≤ j) × (j < fixed.seats) × (lacking h j ≡ true))) × (x.written ≡ min (length page) (length l))
      × (out ≡ take (length page) l ++ drop x.written page) × (x.next ≡ first_or fixed.seats (drop (length page) l)))

  abbrev list : List ℕ
  list = missing_from fixed h first

  pub page-listed : answer fixed h (missing first (length page)) ≡ taken (listed x) → out ≡ sets page 0 (output fixed h (missing first (length page))) → Listed
  page-listed e w = go (leb first fixed.seats) refl e w
    where
      go : (b : Bool) → leb first fixed.seats ≡ b → cond b (taken (listed (page_from fixed h first (length page)))) (refused 36 0) ≡ taken (listed x)
          → out ≡ sets page 0 (if_taken (cond b (taken (listed (page_from fixed h first (length page)))) (refused 36 0)) (take (length page) list)) → Listed
      go true t q v =
          let m = missing-is fixed h first (leb-true first fixed.seats t) in
          let d : page_from fixed h first (length page) ≡ x = cc in
          let k : x.written ≡ length (take (length page) list) = ap (λ (y : Page). y.written) (sym d) in (
            page-total fixed h first (length page) x e,
            (
              list,
              m.ascends,
              m.members,
              k ∙ length-take (length page) list,
              v ∙ lines-put page list ∙ ap (λ (i : ℕ). take (length page) list ++ drop i page) (sym k),
              ap (λ (y : Page). y.next) (sym d),
            ),
          )
      go false t q v = no_way (cc)

-- ---- the missing list of any tables whose sizes fit, read page by page. f has the missing seats

lt-one-way : (a b : ℕ) → ltb a b ≡ true → ltb b a ≡ false
lt-one-way a b e = le-ltb b a (let h = ltb-true a b e in omega arith)

ascends : {k : ℕ} {l : List ℕ} → Ascending k l → Ascends ltb l
ascends (none k) = Pages.none
ascends (one k a l h s) = Pages.one a l (λ b i. lt-ltb a b (not-before s b i)) (ascends s)

-- those from a on
from-those : (f : ℕ → Bool) (a k m : ℕ) → k ≤ a → a ≤ k + m → from ltb a (those f k m) ≡ those f a (k + m - a)
unfolding those
from-those f a k zero h l = let e : k + 0 - a ≡ 0 = omega arith in rw e
from-those f a k (suc m) h l = same_or k a here (λ d. later d (from-those f a (suc k) m (omega arith) (omega arith)))
  where
    here : k ≡ a → from ltb a (those f k (suc m)) ≡ those f a (k + suc m - a)
    here e =
        let d : suc m ≡ k + suc m - a = omega arith in
        from_all ltb a (those f k (suc m)) (λ b i. le-ltb b a (let t = (those-members f b k (suc m)).0 i in omega (arith, t.0)))
        ∙ ap₂ (those f) e d

    later : (k ≡ a → ⊥) → from ltb a (those f (suc k) m) ≡ those f a (suc k + m - a) → from ltb a (those f k (suc m)) ≡ those f a (k + suc m - a)
    later d r =
        let e : suc k + m - a ≡ k + suc m - a = omega arith in
        by-test (λ (l : List ℕ). from ltb a l ≡ from ltb a (those f (suc k) m)) (f k) (λ _. rw (lt-ltb k a (omega arith))) (λ _. refl)
        ∙ r
        ∙ ap (those f a) e

first-at : (n : ℕ) (l : List ℕ) → first_or n l ≡ get_or l 0 n
first-at n [] = refl
first-at n (a ∷ l) = refl

module _ (y : Yard) (fit : Fit y) (f : ℕ → Bool) (is : (j : ℕ) → is_missing y.head.pieces (get_or y.seats j cleared) ≡ f j) where
  abbrev n : ℕ
  n = length y.seats

  abbrev pub missing_seats : List ℕ
  missing_seats = those f 0 n

  -- a call that asks for a page from a first seat up to the last gives a page of the list
  module _ (first : ℕ) (h : first ≤ n) (page out : List ℕ) (roomy : 1 ≤ length page) (r : ℕ) (was told : Told)
      (looks : Looks (step (missing first (length page)) y).answer was r told) (puts : out ≡ sets page 0 (written (missing first (length page)) y)) where
    abbrev rest : List ℕ
    rest = those f first (n - first)

    abbrev here : Page
    here = record { written = length (take (length page) rest); total = count n f; next = first_or n (drop (length page) rest) }

    answered : (step (missing first (length page)) y).answer ≡ taken (listed here)
    unfolding step
    answered = rw (is-fit y fit, le-leb first n h, page-is y.head.pieces f n y.seats refl is first (length page))

    told_is : told ≡ record { value = here.written; request = 0; total = here.total; next = here.next }
    told_is = looks.1 ∙ ap (λ (a : Outcome Said). told_of a was) answered

    put_is : out ≡ sets page 0 (take (length page) rest)
    put_is =
        puts
        ∙ ap (λ (a : Outcome Said). sets page 0 (if_taken a (lines_of y.head.pieces first (length page) y.seats))) answered
        ∙ ap (sets page 0) (lines_are y.head.pieces f n y.seats refl is first (length page))

    rest-is : rest ≡ from ltb first missing_seats
    rest-is = let e : 0 + n - first ≡ n - first = omega arith in sym (from-those f first 0 n (omega arith) (omega arith) ∙ ap (those f first) e)

    pub page-of : PageOf ltb missing_seats n first (record { number = r; room = length page; lines = take told.value out; total = told.total; next = told.next })
    page-of = record {
      taken = looks.0 ∙ ap code_of answered;
      roomy = roomy;
      written =
          ap₂ (λ (k : ℕ) (o : List ℕ). take k o) (ap (λ (t : Told). t.value) told_is) (put_is ∙ lines-put page rest)
          ∙ take-append_seam (take (length page) rest) _
          ∙ ap (take (length page)) rest-is;
      counted = ap (λ (t : Told). t.total) told_is ∙ sym (those-all f n);
      onward =
          ap (λ (t : Told). t.next) told_is
          ∙ first-at n (drop (length page) rest)
          ∙ get_or-drop (length page) rest 0 n
          ∙ (let e : length page + 0 ≡ length page = omega arith in ap₂ (λ (l : List ℕ) (k : ℕ). get_or l k n) rest-is e);
    }

  -- so following `next` yields it
  module _ (Asks : Yard → ℕ → Printed ℕ → Yard → Type 0) (right : (a : ℕ) (p : Printed ℕ) (z : Yard) → a ≤ n → Asks y a p z → (z ≡ y) × PageOf ltb missing_seats n a p) where
    pub paged : (pages : List (Printed ℕ)) (next : ℕ) → Follows Asks n y 0 pages next → Paged f n pages next
    paged pages next follows =
        let members : (j : ℕ) → In j missing_seats ↔ ((j < n) × (f j ≡ true)) =
        λ j. let t = those-members f j 0 n in (λ i. let (_, b, e) = t.0 i in (omega arith, e), λ (b, e). t.1 (omega arith, omega arith, e)) in
        let g = follows-yields ltb lt-one-way missing_seats (ascends (those-ascend f 0 n)) n (λ a i. lt-ltb a n ((members a).0 i).0) Asks y
        (λ a p z h. right a p z (ltb-false n a h)) 0 (le-ltb n 0 (omega arith)) (λ a i. le-ltb a 0 (omega arith)) pages next follows in
        (missing_seats, those-ascend f 0 n, members, those-all f n, subst (λ (k : ℕ). Yields k missing_seats n pages next) (those-all f n) g)

-- when `next` is S, what is written on the pages is the list
pub in_all : (f : ℕ → Bool) (n : ℕ) (pages : List (Printed ℕ)) → Paged f n pages n
    → Ascending 0 (printed pages) × ((j : ℕ) → In j (printed pages) ↔ ((j < n) × (f j ≡ true))) × ((p : Printed ℕ) → In p pages → p.total ≡ length (printed pages))
in_all f n pages (l, up, members, many, g) =
    let e : l ≡ printed pages = sym (g.all refl) in (
      subst (Ascending 0) e up,
      subst (λ (k : List ℕ). (j : ℕ) → In j k ↔ ((j < n) × (f j ≡ true))) e members,
      λ p i. (g.told p i).1 ∙ sym many ∙ ap length e,
    )
