-- The laws of the reader of a week's file: which files are taken and what is told of them, when each refusal is given, and how a walk package by package stands to reading all. Assumes nothing.
use mathlib.Core.Path.{◌≡◌, refl, sym, ap, ◌∙◌, subst}
use mathlib.Core.Logic.{◌⊎◌, inl, inr, ⊎_elim, ◌↔◌}
use mathlib.Core.List.{List, [], ◌∷◌, ◌++◌}
use Prim.Native.Nat.{ℕ, suc, ◌+◌, ◌<◌, ◌≤◌}
use native.Mathlib.Omega.{arith}
use lib.Dec.{ltb}
use lib.ListN.{length, length-append}
use borrow.Author.Tests.{lt-ltb, le-ltb}
use Rattle.refusal.specs.BigEndian.{Bytes}
use Rattle.refusal.specs.Limits.{most_levels}
use Rattle.refusal.specs.Numbers.{beyond}
use Rattle.refusal.specs.Paper.{Outcome, taken, refused, then}
use Rattle.refusal.specs.Parts.{bytes_at}
use Rattle.refusal.proofs.Cases.{no_way, less-or}
use Rattle.refusal.proofs.Outcomes.{then-refused, same-refusal, not-refused}
use Rattle.bencode.specs.Value.{Value}
use Rattle.bencode.proofs.Exact.{fine-taken}
use Rattle.torrent_metainfo.specs.Rules.{provided}
use Rattle.torrent_laws.specs.Torrent.{TorrentSays, IsTorrent}
use Rattle.torrent_laws.proofs.Determined.{said-determined}
use Rattle.week.specs.File.{Package, bodies_of, table_bytes}
use Rattle.week.specs.Rules.{runs_at, table_of, package_at, none, week_of, package_of}
use Rattle.week.specs.declared.Week.{Week}
use Rattle.week.proofs.Summing.{package-of}
use Rattle.week_laws.specs.Week.{IsPackage, ArePackages, no_more, one_more, IsWeek, answer_of, entry_of}
use Rattle.week_laws.specs.Causes.{Counts, RightTo, counted, NoTable, NoWeek, NoEntry}
use Rattle.week_laws.proofs.Tables.{right-counts, table-checks}
use Rattle.week_laws.proofs.Bodies.{pack_in, package-checks}
use Rattle.week_laws.proofs.Walks.{week-is, table_is}
pub use Rattle.week_laws.proofs.Walks.{walk_refused, walk-taken, week-walked, week-faults}
use Rattle.week_laws.proofs.Exact.{Listed, ended, listed, right-listed, listed-right, listed-new, body-length, week-listed, listed-text, listed-packages, first-told, listed-sums}

pub are-long : (ps : List Package) (ts : List TorrentSays) → ArePackages ps ts → length ps ≡ length ts
are-long ps ts no_more = refl
are-long ps ts (one_more p qs t us h more) = ap suc (are-long qs us more)

module _ (s : List ℕ) where
  -- ---- week-exact

  pub week-right : (ps : List Package) (ts : List TorrentSays) → IsWeek s ps ts → RightTo s (length ps) (length ps) (length s)
  week-right ps ts w = let l = week-listed s ps ts w in listed-right s (length ps) 0 (table_bytes (length ps)) ps l.1 (counted l.0) (omega arith)

  -- every week's file is taken, with the number of its packages and the sums over them
  pub week-every : (ps : List Package) (ts : List TorrentSays) → IsWeek s ps ts → week_of s ≡ taken (answer_of ts)
  week-every ps ts w =
      let n = length ps in
      let r = week-right ps ts w in
      week-is s n (table_is s n w.short r) ∙ listed-sums s n w.short r 0 (table_bytes n) (none n) ps ts w.packages (week-listed s ps ts w).1 (omega arith)
      ∙ ap taken (made (are-long ps ts w.packages) (omega arith) (omega arith))
    where
      made : {c d f g t u : ℕ} → c ≡ d → f ≡ g → t ≡ u → ◌≡◌ {A = Week} (record { count = c; files = f; total = t }) (record { count = d; files = g; total = u })
      made e f g = rw (e, f, g)

  -- and no other file is
  pub week-only : Bytes s → (w : Week) → week_of s ≡ taken w → (ps : List Package) × (ts : List TorrentSays) × IsWeek s ps ts × (w ≡ answer_of ts)
  unfolding runs_at
  week-only bytes w e =
      let n = w.count in
      let v = week-walked s w e in
      let t = (table-checks s).only n v.0 in
      let right = subst (λ (x : ℕ). RightTo s x x (length s)) (sym t.2) t.1.1 in
      let c = right-counts s n n (length s) right in
      let x = right-listed s n n (length s) right [] (ended n (length s) refl) in
      let f : n ≡ length x.0 = omega (arith, x.2) in
      let y = listed-packages s n t.1.0 right 0 (table_bytes n) x.0 x.1 (omega arith) (λ j a b. v.1 j b) in
      let i : IsWeek s x.0 y.0 = record {
        some = omega (arith, c.some);
        few = omega (arith, c.few);
        packages = y.1;
        different = listed-new s 0 (table_bytes n) x.0 x.1;
        short = t.1.0;
        text = listed-text s x.0 bytes (subst (Counts s) f c) (subst (λ (z : ℕ). Listed s 0 (table_bytes z) x.0) f x.1);
      } in
      (x.0, y.0, i, taken-one (week_of s) w (answer_of y.0) e (week-every x.0 y.0 i))
    where
      taken-one : (o : Outcome Week) (v u : Week) → o ≡ taken v → o ≡ taken u → v ≡ u
      taken-one o v u e f = cc

  -- ---- a file is a week's file in one way

  listed-one : (i at : ℕ) (ps : List Package) → Listed s i at ps → (qs : List Package) → length ps ≡ length qs → Listed s i at qs → ps ≡ qs
  listed-one i at ps (ended j p e) qs f (ended k q g) = refl
  listed-one i at ps (ended j p e) qs f (listed k q m r rs g a h l) = no_way (omega arith)
  listed-one i at ps (listed j p m x xs e a h l) qs f (ended k q g) = no_way (omega arith)
  listed-one i at ps (listed j p m x xs e a h l) qs f (listed k q n y ys g b o u) =
      let z : n ≡ m = sym b.size.is ∙ a.size.is in
      let v : x ≡ y = e ∙ ap (pack_in s i at) (sym z) ∙ sym g in
      let r = listed-one (suc i) (at + m) xs l ys (omega arith) (subst (λ (c : ℕ). Listed s (suc i) (at + c) ys) z u) in
      rw (v, r)

are-one : (ps : List Package) (ts : List TorrentSays) → ArePackages ps ts → (us : List TorrentSays) → ArePackages ps us → ts ≡ us
are-one ps ts no_more us no_more = refl
are-one ps ts (one_more p qs t xs h more) us (one_more q rs u ys i others) =
    let a : taken h.value ≡ taken i.value = sym (fine-taken p.body h.value h.encodes) ∙ fine-taken p.body i.value i.encodes in
    let b : h.value ≡ i.value = cc in
    let c = said-determined h.value most_levels t u h.encodes.keeps h.torrent (subst (λ (v : Value). IsTorrent v u) (sym b) i.torrent) in
    let d = are-one qs xs more ys others in
    rw (c, d)

pub week-says-one : (s : List ℕ) (ps qs : List Package) (ts us : List TorrentSays) → IsWeek s ps ts → IsWeek s qs us → (ps ≡ qs) × (ts ≡ us)
week-says-one s ps qs ts us v w =
    let a = week-listed s ps ts v in
    let b = week-listed s qs us w in
    let e : length ps ≡ length qs = sym a.0.number.is ∙ b.0.number.is in
    let f = listed-one s 0 (table_bytes (length ps)) ps a.1 qs e (subst (λ (n : ℕ). Listed s 0 (table_bytes n) qs) (sym e) b.1) in
    (f, are-one ps ts v.packages us (subst (λ (x : List Package). ArePackages x us) (sym f) w.packages))

-- ---- one package

listed-from : (s : List ℕ) (i at : ℕ) (qs ps : List Package) → Listed s i at (qs ++ ps) → Listed s (length qs + i) (at + length (bodies_of qs)) ps
unfolding bodies_of
listed-from s i at [] ps l = let e : 0 + i ≡ i = omega arith in let f : at + 0 ≡ at = omega arith in rw (e, f) l
listed-from s i at (p ∷ qs) ps (listed j a m q rs e b h l) =
    let f : length p.body ≡ m = ap (λ (x : Package). length x.body) e ∙ body-length s at m b.inside in
    let g : length qs + suc i ≡ suc (length qs) + i = omega arith in
    let k : at + m + length (bodies_of qs) ≡ at + length (p.body ++ bodies_of qs) = omega (arith, length-append p.body (bodies_of qs)) in
    subst (λ (x : ℕ). Listed s x (at + length (p.body ++ bodies_of qs)) ps) g (subst (λ (x : ℕ). Listed s (length qs + suc i) x ps) k (listed-from s (suc i) (at + m) qs ps l))

are-from : (qs ps : List Package) (us ts : List TorrentSays) → length qs ≡ length us → ArePackages (qs ++ ps) (us ++ ts) → ArePackages ps ts
are-from [] ps [] ts e h = h
are-from [] ps (u ∷ us) ts e h = no_way (omega arith)
are-from (q ∷ qs) ps [] ts e h = no_way (omega arith)
are-from (q ∷ qs) ps (u ∷ us) ts e (one_more p xs t ys i more) = are-from qs ps us ts (omega arith) more

are-first : (p : Package) (ps : List Package) (t : TorrentSays) (ts : List TorrentSays) → ArePackages (p ∷ ps) (t ∷ ts) → IsPackage p t
are-first p ps t ts (one_more q qs u us h more) = h

module _ (s : List ℕ) where
  -- where the file is taken, a package of it is that by its entry, and past the last there is none
  of-week : (w : Week) (i : ℕ) → week_of s ≡ taken w → package_of s i ≡ provided (ltb i w.count) beyond 0 (package_at s i)
  of-week w i e = sym (package-of s i (sym e))

  -- what is told of each package of a week's file: its hash and its body, by their places, and what its torrent has
  pub package-every : (qs rs : List Package) (p : Package) (us vs : List TorrentSays) (t : TorrentSays) → IsWeek s (qs ++ (p ∷ rs)) (us ++ (t ∷ vs)) → length qs ≡ length us
      → (package_of s (length qs) ≡ taken (entry_of (length (qs ++ (p ∷ rs))) qs p t)) × (bytes_at s (entry_of (length (qs ++ (p ∷ rs))) qs p t).hash ≡ p.hash)
      × (bytes_at s (entry_of (length (qs ++ (p ∷ rs))) qs p t).body ≡ p.body)
  package-every qs rs p us vs t w e =
      let ps = qs ++ (p ∷ rs) in
      let ts = us ++ (t ∷ vs) in
      let i = length qs in
      let at = table_bytes (length ps) + length (bodies_of qs) in
      let b : i < length ps = omega (arith, length-append qs (p ∷ rs)) in
      let f : i + 0 ≡ i = omega arith in
      let l = subst (λ (x : ℕ). Listed s x at (p ∷ rs)) f (listed-from s 0 (table_bytes (length ps)) qs (p ∷ rs) (week-listed s ps ts w).1) in
      let x = first-told s (length ps) w.short (week-right s ps ts w) i at p rs t b l (are-first p rs t vs (are-from qs (p ∷ rs) us (t ∷ vs) e w.packages)) in
      let c : i < length ts = omega (arith, are-long ps ts w.packages) in
      (of-week (answer_of ts) i (week-every s ps ts w) ∙ rw (lt-ltb i (length ts) c) x.0, sym (ap (λ (z : Package). z.hash) x.1), sym (ap (λ (z : Package). z.body) x.1))

  -- ---- each refusal exactly for its cause

  -- of the table alone, and of a package by its entry alone (of the whole file: `week-faults`)
  pub table-faults : (k q : ℕ) → table_of s ≡ refused k q ↔ NoTable s k q
  table-faults k q = ((table-checks s).blames k q, (table-checks s).refuses k q)

  pub entry-faults : (i k q : ℕ) → package_at s i ≡ refused k q ↔ NoEntry s i k q
  entry-faults i k q = ((package-checks s i).blames k q, (package-checks s i).refuses k q)

  -- of a package of a week's file: the file's own, or 31 where there is no such package
  pub package-faults : (i k q : ℕ) → package_of s i ≡ refused k q ↔ (NoWeek s k q ⊎ ((w : Week) × (week_of s ≡ taken w) × (w.count ≤ i) × (k ≡ beyond) × (q ≡ 0)))
  unfolding package_of
  package-faults i k q = (λ e. ⊎_elim (λ (h : week_of s ≡ refused k q). inl ((week-faults s k q).0 h)) past (then-refused (week_of s) (λ w. provided (ltb i w.count) beyond 0 (package_at s i)) k q e), back)
    where
      past : (w : Week) × (week_of s ≡ taken w) × (provided (ltb i w.count) beyond 0 (package_at s i) ≡ refused k q) → NoWeek s k q ⊎ ((v : Week) × (week_of s ≡ taken v) × (v.count ≤ i) × (k ≡ beyond) × (q ≡ 0))
      past (w, e, f) =
          less-or i w.count
          (λ l. let h = (week-walked s w e).1 i l in let g = sym h.1 ∙ (let t = lt-ltb i w.count l in rw t at f) in not-refused g)
          (λ l. let z = same-refusal (let t = le-ltb i w.count l in rw t at f) in inr (w, e, l, sym z.0, sym z.1))

      back : NoWeek s k q ⊎ ((v : Week) × (week_of s ≡ taken v) × (v.count ≤ i) × (k ≡ beyond) × (q ≡ 0)) → package_of s i ≡ refused k q
      back (inl h) = ap (λ (o : Outcome Week). then o (λ w. provided (ltb i w.count) beyond 0 (package_at s i))) ((week-faults s k q).1 h)
      back (inr (w, e, l, a, b)) = of-week w i e ∙ rw (le-ltb i w.count l, a, b)
