-- The writer of a week's file: it writes exactly the week's files, of their bodies and lengths, and refuses exactly for the causes. Assumes nothing.
use mathlib.Core.Path.{◌≡◌, refl, sym, ap, ◌∙◌, subst}
use mathlib.Core.Logic.{◌⊎◌, inl, inr, ⊎_elim}
use mathlib.Core.Bool.{Bool, ◌&&◌, not}
use mathlib.Core.List.{List, [], ◌∷◌}
use mathlib.Core.List.{Memᴰ as In}
use Prim.Native.Nat.{ℕ, suc, ◌<◌, ◌≤◌}
use native.Mathlib.Omega.{arith}
use borrow.Author.Tests.{lt-ltb, le-ltb, leb-true, le-leb, eq-eqb, ne_eqb}
use lib.Dec.{leb, eqb}
use lib.ListN.{length, take, drop, length-append, length-drop, take-append-drop}
use lib.Seq.{length-take-le, take-append_seam, drop-append_seam}
use Rattle.refusal.specs.Limits.{most_text, most_packages}
use Rattle.refusal.specs.Numbers.{week, long, room}
use Rattle.refusal.specs.Paper.{Outcome, taken, refused, map, then}
use Rattle.refusal.proofs.Cases.{no_way, by_bool, less-or, same_or, both, false-if}
use Rattle.refusal.proofs.Outcomes.{not_taken, not-refused, same-refusal, then-taken, then-refused, map-taken, map-refused}
use Rattle.bencode.specs.Decode.{unless_long}
use Rattle.hash_sha1.specs.Sha1.{sha1}
use Rattle.torrent_blocks.specs.Rules.{sum}
use Rattle.torrent_metainfo.specs.Rules.{provided}
use Rattle.torrent_metainfo.specs.Reading.{read_of}
use Rattle.torrent_metainfo.specs.declared.Torrent.{Torrent}
use Rattle.torrent_laws.specs.Torrent.{TorrentSays}
use Rattle.torrent_laws.proofs.Laws.{torrent-exact}
use Rattle.week.specs.File.{Package, bodies_of, file_of}
use Rattle.week.specs.Rules.{among}
use Rattle.week.specs.Writing.{cut_by, at_start, package_of, package_in, packages_from, written_of}
use Rattle.week_laws.specs.Week.{IsPackage, ArePackages, no_more, one_more, AllNew, none_left, new-one, IsWeek, lengths_of}
use Rattle.week_laws.specs.Causes.{NoPackages, this-body, this-hash, later, Unwritten, wrong-number, wrong-sum, bad-package, long-week, no_room}
use Rattle.week_laws.proofs.Among.{among_in, in-among, among-not, not-among}

-- ---- a refusal moved to the start

start-taken : {A : Type 0} (o : Outcome A) (x : A) → at_start o ≡ taken x → o ≡ taken x
start-taken (taken y) x e = e
start-taken (refused n p) x e = not_taken e

start-refused : {A : Type 0} (o : Outcome A) (n p : ℕ) → at_start o ≡ refused n p → (q : ℕ) × (p ≡ 0) × (o ≡ refused n q)
start-refused (taken y) n p e = not-refused e
start-refused (refused m q) n p e = let z = same-refusal e in (q, sym z.1, ap (λ (k : ℕ). refused k q) z.0)

-- ---- one body

-- what is read is a package, and a package is what is read
read-package : (b : List ℕ) (x : Torrent) → read_of b ≡ taken x → (t : TorrentSays) × IsPackage (package_of b x) t
read-package b x e = let r = (torrent-exact b).only x e in (r.1, record { value = r.0; encodes = r.2; torrent = r.3; hashed = ap sha1 r.4.info })

package-read : (p : Package) (t : TorrentSays) → IsPackage p t → (x : Torrent) × (read_of p.body ≡ taken x) × (package_of p.body x ≡ p)
package-read p t i =
    let r = (torrent-exact p.body).every i.value t i.encodes i.torrent in
    (r.0, r.1, ap (λ (h : List ℕ). record { body = p.body; hash = h }) (ap sha1 r.2.info ∙ sym i.hashed))

-- a package, whose hash may have been given before
abbrev unless_seen : List (List ℕ) → Package → Outcome Package
unless_seen seen p = provided (not (among p.hash seen)) week 0 (taken p)

module _ (seen : List (List ℕ)) where
  new-taken : (p : Package) → (In p.hash seen → ⊥) → unless_seen seen p ≡ taken p
  new-taken p n = rw (not-among p.hash seen n)

  seen-refused : (p : Package) → In p.hash seen → unless_seen seen p ≡ refused week 0
  seen-refused p i = rw (in-among p.hash seen i)

  taken-new : (p q : Package) → unless_seen seen p ≡ taken q → (In p.hash seen → ⊥) × (p ≡ q)
  taken-new p q e =
      by_bool (among p.hash seen) (λ a. not_taken (sym (seen-refused p (among_in p.hash seen a)) ∙ e))
      (λ a. let n = among-not p.hash seen a in let z : taken p ≡ taken q = sym (new-taken p n) ∙ e in (n, cc))

  refused-seen : (p : Package) (n k : ℕ) → unless_seen seen p ≡ refused n k → In p.hash seen × (n ≡ week) × (k ≡ 0)
  refused-seen p n k e =
      by_bool (among p.hash seen)
      (λ a. let i = among_in p.hash seen a in let z = same-refusal {A = Package} (sym (seen-refused p i) ∙ e) in (i, sym z.0, sym z.1))
      (λ a. not-refused (sym (new-taken p (among-not p.hash seen a)) ∙ e))

  package-as : (b : List ℕ) → package_in seen b ≡ then (at_start (read_of b)) (λ x. unless_seen seen (package_of b x))
  unfolding package_in
  package-as b = refl

  -- what is taken
  package-only : (b : List ℕ) (p : Package) → package_in seen b ≡ taken p → (t : TorrentSays) × IsPackage p t × (p.body ≡ b) × (In p.hash seen → ⊥)
  package-only b p e =
      let (x, f, g) = then-taken (at_start (read_of b)) (λ x. unless_seen seen (package_of b x)) p (sym (package-as b) ∙ e) in
      let (t, i) = read-package b x (start-taken (read_of b) x f) in
      let (n, z) = taken-new (package_of b x) p g in
      subst (λ (q : Package). (t : TorrentSays) × IsPackage q t × (q.body ≡ b) × (In q.hash seen → ⊥)) z (t, i, refl, n)

  package-on : (p : Package) (t : TorrentSays) → IsPackage p t → package_in seen p.body ≡ unless_seen seen p
  package-on p t i =
      let (x, e, z) = package-read p t i in
      package-as p.body ∙ ap (λ (o : Outcome Torrent). then (at_start o) (λ x. unless_seen seen (package_of p.body x))) e ∙ ap (unless_seen seen) z

  package-every : (p : Package) (t : TorrentSays) → IsPackage p t → (In p.hash seen → ⊥) → package_in seen p.body ≡ taken p
  package-every p t i n = package-on p t i ∙ new-taken p n

  -- what is refused: the torrent's own refusal, or a hash given before
  package-refused : (b : List ℕ) (bs : List (List ℕ)) (n k : ℕ) → package_in seen b ≡ refused n k → (k ≡ 0) × NoPackages seen (b ∷ bs) n
  package-refused b bs n k e =
      ⊎_elim
      (λ (f : at_start (read_of b) ≡ refused n k). let (q, z, g) = start-refused (read_of b) n k f in (z, this-body seen b bs n q g))
      (λ (h : (x : Torrent) × (at_start (read_of b) ≡ taken x) × (unless_seen seen (package_of b x) ≡ refused n k)).
      let (t, i) = read-package b h.0 (start-taken (read_of b) h.0 h.1) in
      let (j, m, z) = refused-seen (package_of b h.0) n k h.2 in
      (z, subst (NoPackages seen (b ∷ bs)) (sym m) (this-hash seen (package_of b h.0) t bs i j)))
      (then-refused (at_start (read_of b)) (λ x. unless_seen seen (package_of b x)) n k (sym (package-as b) ∙ e))

-- ---- the bodies one by one

unfoldable each : List Package → List (List ℕ)
each [] = []
each (p ∷ ps) = p.body ∷ each ps

packages-as : (seen : List (List ℕ)) (b : List ℕ) (bs : List (List ℕ)) → packages_from seen (b ∷ bs) ≡ then (package_in seen b) (λ p. map (λ ps. p ∷ ps) (packages_from (p.hash ∷ seen) bs))
unfolding packages_from
packages-as seen b bs = refl

-- one, and those after it
packages-next : (seen : List (List ℕ)) (p : Package) (t : TorrentSays) (bs : List (List ℕ)) → IsPackage p t → (In p.hash seen → ⊥)
    → packages_from seen (p.body ∷ bs) ≡ map (λ ps. p ∷ ps) (packages_from (p.hash ∷ seen) bs)
packages-next seen p t bs i n =
    packages-as seen p.body bs ∙ ap (λ (o : Outcome Package). then o (λ p. map (λ ps. p ∷ ps) (packages_from (p.hash ∷ seen) bs))) (package-every seen p t i n)

packages-every : (seen : List (List ℕ)) (ps : List Package) (ts : List TorrentSays) → ArePackages ps ts → AllNew seen ps → packages_from seen (each ps) ≡ taken ps
unfolding packages_from each
packages-every seen [] ts a d = refl
packages-every seen (p ∷ ps) ts (one_more _ _ t us i a) (new-one _ _ _ n d) = packages-next seen p t (each ps) i n ∙ ap (map (λ qs. p ∷ qs)) (packages-every (p.hash ∷ seen) ps us a d)

packages-only : (seen bs : List (List ℕ)) (ps : List Package) → packages_from seen bs ≡ taken ps → (ts : List TorrentSays) × ArePackages ps ts × AllNew seen ps × (bs ≡ each ps)
unfolding packages_from each
packages-only seen [] ps e =
    let z : [] ≡ ps = cc in
    subst (λ (qs : List Package). (ts : List TorrentSays) × ArePackages qs ts × AllNew seen qs × ([] ≡ each qs)) z ([], no_more, none_left seen, refl)
packages-only seen (b ∷ bs) ps e =
    let (p, f, g) = then-taken (package_in seen b) (λ p. map (λ ps. p ∷ ps) (packages_from (p.hash ∷ seen) bs)) ps (sym (packages-as seen b bs) ∙ e) in
    let (qs, h, z) = map-taken (λ ps. p ∷ ps) (packages_from (p.hash ∷ seen) bs) ps g in
    let (t, i, y, n) = package-only seen b p f in
    let (ts, a, d, w) = packages-only (p.hash ∷ seen) bs qs h in
    subst (λ (rs : List Package). (ts : List TorrentSays) × ArePackages rs ts × AllNew seen rs × (b ∷ bs ≡ each rs)) z (t ∷ ts, one_more p qs t ts i a, new-one seen p qs n d, cc)

packages-refuses : (seen bs : List (List ℕ)) (n : ℕ) → NoPackages seen bs n → packages_from seen bs ≡ refused n 0
packages-refuses seen bs n (this-body s b cs m p e) =
    packages-as s b cs ∙ ap (λ (o : Outcome Package). then o (λ p. map (λ ps. p ∷ ps) (packages_from (p.hash ∷ s) cs))) (package-as s b ∙ ap (λ (o : Outcome Torrent). then (at_start o) (λ x. unless_seen s (package_of b x))) e)
packages-refuses seen bs n (this-hash s p t cs i j) =
    packages-as s p.body cs ∙ ap (λ (o : Outcome Package). then o (λ p. map (λ ps. p ∷ ps) (packages_from (p.hash ∷ s) cs))) (package-on s p t i ∙ seen-refused s p j)
packages-refuses seen bs n (later s p t cs m i j h) = packages-next s p t cs i j ∙ ap (map (λ ps. p ∷ ps)) (packages-refuses (p.hash ∷ s) cs m h)

packages-refused : (seen bs : List (List ℕ)) (n k : ℕ) → packages_from seen bs ≡ refused n k → (k ≡ 0) × NoPackages seen bs n
unfolding packages_from
packages-refused seen [] n k e = not-refused e
packages-refused seen (b ∷ bs) n k e =
    ⊎_elim (package-refused seen b bs n k)
    (λ (h : (p : Package) × (package_in seen b ≡ taken p) × (map (λ ps. p ∷ ps) (packages_from (p.hash ∷ seen) bs) ≡ refused n k)).
    let (t, i, y, j) = package-only seen b h.0 h.1 in
    let (z, w) = packages-refused (h.0.hash ∷ seen) bs n k (map-refused (λ ps. h.0 ∷ ps) (packages_from (h.0.hash ∷ seen) bs) n k h.2) in
    (z, subst (λ (c : List ℕ). NoPackages seen (c ∷ bs) n) y (later seen h.0 t bs n i j w)))
    (then-refused (package_in seen b) (λ p. map (λ ps. p ∷ ps) (packages_from (p.hash ∷ seen) bs)) n k (sym (packages-as seen b bs) ∙ e))

-- ---- bodies cut out of all of them

cut_of : (ps : List Package) → cut_by (lengths_of ps) (bodies_of ps) ≡ each ps
unfolding cut_by lengths_of bodies_of each
cut_of [] = refl
cut_of (p ∷ ps) = rw (take-append_seam p.body (bodies_of ps), drop-append_seam p.body (bodies_of ps), cut_of ps)

pub sum_of : (ps : List Package) → sum (lengths_of ps) ≡ length (bodies_of ps)
unfolding sum lengths_of bodies_of
sum_of [] = refl
sum_of (p ∷ ps) = omega (arith, sum_of ps, length-append p.body (bodies_of ps))

pub length-of : (ps : List Package) → length (lengths_of ps) ≡ length ps
unfolding lengths_of
length-of [] = refl
length-of (p ∷ ps) = ap suc (length-of ps)

of_cut : (ns bs : List ℕ) (ps : List Package) → sum ns ≡ length bs → cut_by ns bs ≡ each ps → (bodies_of ps ≡ bs) × (lengths_of ps ≡ ns)
unfolding sum cut_by lengths_of bodies_of each
of_cut [] [] [] h e = (refl, refl)
of_cut [] (b ∷ bs) ps h e = absurd (omega arith)
of_cut [] [] (p ∷ ps) h e = no_way (cc)
of_cut (n ∷ ns) bs [] h e = no_way (cc)
of_cut (n ∷ ns) bs (p ∷ ps) h e =
    let a : take n bs ≡ p.body = cc in
    let b : cut_by ns (drop n bs) ≡ each ps = cc in
    let (c, d) = of_cut ns (drop n bs) ps (omega (arith, length-drop n bs)) b in
    let l : length p.body ≡ n = ap length (sym a) ∙ length-take-le n bs (omega arith) in
    (rw (← a, c) (take-append-drop n bs), rw (l, d))

-- ---- the whole file

unless-long : (w : List ℕ) → most_text < length w → unless_long w (taken w) ≡ refused long 0
unless-long w l = rw (lt-ltb most_text (length w) l)

unless-short : (w : List ℕ) → length w ≤ most_text → unless_long w (taken w) ≡ taken w
unless-short w l = rw (le-ltb most_text (length w) l)

unless-taken : (w y : List ℕ) → unless_long w (taken w) ≡ taken y → (length w ≤ most_text) × (w ≡ y)
unless-taken w y e = less-or most_text (length w) (λ l. not_taken (sym (unless-long w l) ∙ e)) (λ l. let z : taken w ≡ taken y = sym (unless-short w l) ∙ e in (l, cc))

unless-refused : (w : List ℕ) (n p : ℕ) → unless_long w (taken w) ≡ refused n p → (most_text < length w) × (long ≡ n) × (p ≡ 0)
unless-refused w n p e =
    less-or most_text (length w) (λ l. let z = same-refusal {A = List ℕ} (sym (unless-long w l) ∙ e) in (l, z.0, sym z.1)) (λ l. not-refused (sym (unless-short w l) ∙ e))

-- the bodies bs of the lengths ns
module _ (bs ns : List ℕ) where
  -- what is left to do once their number and their sum are right
  abbrev filed : Outcome (List ℕ)
  filed = then (packages_from [] (cut_by ns bs)) (λ ps. unless_long (file_of ps) (taken (file_of ps)))

  abbrev number : Bool
  number = leb 1 (length ns) && leb (length ns) most_packages

  written_as : written_of bs ns ≡ provided number week 0 (provided (eqb (sum ns) (length bs)) week 0 filed)
  unfolding written_of
  written_as = refl

  not-number : (1 ≤ length ns → length ns ≤ most_packages → ⊥) → written_of bs ns ≡ refused week 0
  not-number h =
      let z = false-if number (λ e. let (a, b) = both (leb 1 (length ns)) (leb (length ns) most_packages) e in h (leb-true 1 (length ns) a) (leb-true (length ns) most_packages b)) in
      written_as ∙ rw z

  not-sum : 1 ≤ length ns → length ns ≤ most_packages → (sum ns ≡ length bs → ⊥) → written_of bs ns ≡ refused week 0
  not-sum a b h = written_as ∙ rw (le-leb 1 (length ns) a, le-leb (length ns) most_packages b, ne_eqb (sum ns) (length bs) h)

  all_right : 1 ≤ length ns → length ns ≤ most_packages → sum ns ≡ length bs → written_of bs ns ≡ filed
  all_right a b h = written_as ∙ rw (le-leb 1 (length ns) a, le-leb (length ns) most_packages b, eq-eqb (sum ns) (length bs) h)

  -- by what is wrong
  by-rules : {Q : Type 0} → ((1 ≤ length ns → length ns ≤ most_packages → ⊥) → Q) → (1 ≤ length ns → length ns ≤ most_packages → (sum ns ≡ length bs → ⊥) → Q)
      → (1 ≤ length ns → length ns ≤ most_packages → sum ns ≡ length bs → Q) → Q
  by-rules x y z =
      less-or 0 (length ns)
      (λ a. less-or most_packages (length ns) (λ b. x (λ c d. omega arith)) (λ b. same_or (sum ns) (length bs) (z a b) (y a b)))
      (λ a. x (λ c d. omega arith))

  -- packages that are found are the bodies
  found : (ps : List Package) → sum ns ≡ length bs → packages_from [] (cut_by ns bs) ≡ taken ps → (ts : List TorrentSays) × ArePackages ps ts × AllNew [] ps × (bodies_of ps ≡ bs) × (lengths_of ps ≡ ns)
  found ps c e =
      let (ts, k, d, z) = packages-only [] (cut_by ns bs) ps e in
      let (x, y) = of_cut ns bs ps c z in
      (ts, k, d, x, y)

  -- what is written is a week's file of these bodies
  pub written-only : (w : List ℕ) → written_of bs ns ≡ taken w → (ps : List Package) × (ts : List TorrentSays) × IsWeek w ps ts × (bodies_of ps ≡ bs) × (lengths_of ps ≡ ns)
  written-only w e =
      by-rules (λ h. not_taken (sym (not-number h) ∙ e)) (λ a b h. not_taken (sym (not-sum a b h) ∙ e))
      (λ a b c.
      let (ps, f, g) = then-taken (packages_from [] (cut_by ns bs)) (λ ps. unless_long (file_of ps) (taken (file_of ps))) w (sym (all_right a b c) ∙ e) in
      let (ts, k, d, x, y) = found ps c f in
      let (l, q) = unless-taken (file_of ps) w g in
      let m : length ps ≡ length ns = sym (length-of ps) ∙ ap length y in
      (ps, ts, record { some = omega arith; few = omega arith; packages = k; different = d; short = subst (λ (v : List ℕ). length v ≤ most_text) q l; text = sym q }, x, y))

  -- what is refused, whatever the room
  pub written-refused : (n p size : ℕ) → written_of bs ns ≡ refused n p → (p ≡ 0) × Unwritten bs ns size n
  written-refused n p size e =
      by-rules
      (λ h. let z = same-refusal {A = List ℕ} (sym (not-number h) ∙ e) in (sym z.1, subst (Unwritten bs ns size) z.0 (wrong-number h)))
      (λ a b h. let z = same-refusal {A = List ℕ} (sym (not-sum a b h) ∙ e) in (sym z.1, subst (Unwritten bs ns size) z.0 (wrong-sum a b h)))
      (λ a b c.
      ⊎_elim
      (λ (f : packages_from [] (cut_by ns bs) ≡ refused n p). let (z, h) = packages-refused [] (cut_by ns bs) n p f in (z, bad-package n a b c h))
      (λ (h : (ps : List Package) × (packages_from [] (cut_by ns bs) ≡ taken ps) × (unless_long (file_of ps) (taken (file_of ps)) ≡ refused n p)).
      let (ts, k, d, x, y) = found h.0 c h.1 in
      let (l, m, z) = unless-refused (file_of h.0) n p h.2 in
      (z, subst (Unwritten bs ns size) m (long-week h.0 ts a b k d x y l)))
      (then-refused (packages_from [] (cut_by ns bs)) (λ ps. unless_long (file_of ps) (taken (file_of ps))) n p (sym (all_right a b c) ∙ e)))

-- of packages it is their file that is left to be looked at
filed-of : (ps : List Package) (ts : List TorrentSays) → 1 ≤ length ps → length ps ≤ most_packages → ArePackages ps ts → AllNew [] ps
    → written_of (bodies_of ps) (lengths_of ps) ≡ unless_long (file_of ps) (taken (file_of ps))
filed-of ps ts a b k d =
    all_right (bodies_of ps) (lengths_of ps) (omega (arith, length-of ps)) (omega (arith, length-of ps)) (sum_of ps)
    ∙ ap (λ (o : Outcome (List Package)). then o (λ ps. unless_long (file_of ps) (taken (file_of ps)))) (ap (packages_from []) (cut_of ps) ∙ packages-every [] ps ts k d)

-- a week's file, written again of its bodies, is itself
pub written-every : (w : List ℕ) (ps : List Package) (ts : List TorrentSays) → IsWeek w ps ts → written_of (bodies_of ps) (lengths_of ps) ≡ taken w
written-every w ps ts i =
    filed-of ps ts i.some i.few i.packages i.different ∙ unless-short (file_of ps) (subst (λ (v : List ℕ). length v ≤ most_text) i.text i.short) ∙ ap taken (sym i.text)

-- the causes refuse: all but the want of room before any output is looked at
pub written-refuses : (bs ns : List ℕ) (size n : ℕ) → Unwritten bs ns size n → (written_of bs ns ≡ refused n 0) ⊎ ((n ≡ room) × ((w : List ℕ) × (written_of bs ns ≡ taken w) × (size < length w)))
written-refuses bs ns size n (wrong-number h) = inl (not-number bs ns h)
written-refuses bs ns size n (wrong-sum a b h) = inl (not-sum bs ns a b h)
written-refuses bs ns size n (bad-package m a b c h) = inl (all_right bs ns a b c ∙ ap (λ (o : Outcome (List Package)). then o (λ ps. unless_long (file_of ps) (taken (file_of ps)))) (packages-refuses [] (cut_by ns bs) m h))
written-refuses bs ns size n (long-week ps ts a b k d x y l) =
    let m : length ps ≡ length ns = sym (length-of ps) ∙ ap length y in
    inl (rw (← x, ← y) (filed-of ps ts (omega arith) (omega arith) k d ∙ unless-long (file_of ps) l))
written-refuses bs ns size n (no_room ps ts a b k d x y l s) =
    let m : length ps ≡ length ns = sym (length-of ps) ∙ ap length y in
    inr (refl, (file_of ps, rw (← x, ← y) (filed-of ps ts (omega arith) (omega arith) k d ∙ unless-short (file_of ps) l), s))
