-- A week's file is read exactly when it is the text of its packages. Assumes nothing.
use mathlib.Core.Path.{◌≡◌, refl, sym, ap, ◌∙◌, subst}
use mathlib.Core.List.{List, [], ◌∷◌, ◌++◌, append_assoc}
use mathlib.Core.List.{Memᴰ as In}
use Prim.Native.Nat.{ℕ, suc, ◌+◌, ◌*◌, ◌^◌, ◌<◌, ◌≤◌}
use native.Mathlib.Omega.{arith}
use lib.Dec.{lit<}
use lib.ListN.{length, take, drop, length-append, length-drop, take-append-drop}
use lib.Seq.{length-take-le, take_at, drop_at, drop-drop, drop-length}
use Rattle.refusal.specs.BigEndian.{Bytes, big_endian_of, bytes_of}
use Rattle.refusal.specs.Limits.{most_text}
use Rattle.refusal.specs.Paper.{taken}
use Rattle.refusal.proofs.Bytes.{length-bytes_of, big_endian-bytes_of, bytes_of-big_endian}
use Rattle.refusal.proofs.Places.{bytes_drop, bytes_take}
use Rattle.hash_sha1.specs.Sha1.{sha1}
use Rattle.torrent_laws.specs.Torrent.{TorrentSays}
use Rattle.week.specs.File.{Package, entries_from, bodies_of, table_bytes, file_of}
use Rattle.week.specs.Rules.{offset_place, length_place, hash_place, runs_at, hash_at, hashes_before, package_at, plus, sums_from}
use Rattle.week.specs.declared.Week.{Week}
use Rattle.week_laws.specs.Week.{IsPackage, ArePackages, no_more, one_more, AllNew, none_left, new-one, IsWeek, all_files, all_bytes}
use Rattle.week_laws.specs.Causes.{Number, Counts, EntryAt, NewHash, RightTo, counted, entered}
use Rattle.week_laws.proofs.Fields.{before-in, in-before}
use Rattle.week_laws.proofs.Bodies.{pack_in, told_of, body-checks}
use Rattle.week_laws.proofs.Walks.{Each, next-sums, there}

-- packages, from package i on, of which the first body stands at a place, as the file has them to its end
pub data Listed (s : List ℕ) : ℕ → ℕ → List Package → Type 0 where
  ended : (i at : ℕ) → at ≡ length s → Listed s i at []
  listed : (i at m : ℕ) (p : Package) (ps : List Package) → p ≡ pack_in s i at m → EntryAt s i at m → NewHash s i → Listed s (suc i) (at + m) ps → Listed s i at (p ∷ ps)

module _ (s : List ℕ) where
  -- ---- a table that is right to its end has its packages listed

  pub right-listed : (n i at : ℕ) → RightTo s n i at → (ps : List Package) → Listed s i at ps → (qs : List Package) × Listed s 0 (table_bytes n) qs × (length qs ≡ length ps + i)
  right-listed n i at (counted c) ps l = (ps, l, omega arith)
  right-listed n i at (entered j p m r f e h) ps l =
      let x = right-listed n j p r (pack_in s j p m ∷ ps) (listed j p m (pack_in s j p m) ps refl e h l) in
      (x.0, x.1, omega (arith, x.2))

  pub listed-right : (n i at : ℕ) (ps : List Package) → Listed s i at ps → RightTo s n i at → length ps + i ≡ n → RightTo s n n (length s)
  listed-right n i at ps (ended j p e) r f = let g : i ≡ n = omega arith in subst (RightTo s n n) e (subst (λ (x : ℕ). RightTo s n x at) g r)
  listed-right n i at ps (listed j p m q qs e a h l) r f = listed-right n (suc i) (at + m) qs l (entered i at m r (omega arith) a h) (omega arith)

  -- ---- the text of packages that are listed

  -- w bytes at a place, and what comes after them
  cut : (p w q : ℕ) (x rest : List ℕ) → p + w ≡ q → take w (drop p s) ≡ x → drop q s ≡ rest → drop p s ≡ x ++ rest
  cut p w q x rest e f g = sym (take-append-drop w (drop p s)) ∙ rw (drop-drop w p s, e, f, g)

  pub body-length : (at m : ℕ) → at + m ≤ length s → length (take m (drop at s)) ≡ m
  body-length at m l = length-take-le m (drop at s) (rw length-drop (omega arith))

  module _ (bytes : Bytes s) where
    number-bytes : (p x : ℕ) → Number s p x → take 4 (drop p s) ≡ bytes_of 4 x
    number-bytes p x h =
        let l : length (take 4 (drop p s)) ≡ 4 = body-length p 4 h.there in
        sym (bytes_of-big_endian (take 4 (drop p s)) (bytes_take 4 (drop p s) (bytes_drop p s bytes))) ∙ rw (l, h.is)

    entry-text : (i at m : ℕ) (rest : List ℕ) → EntryAt s i at m → drop (offset_place (suc i)) s ≡ rest → drop (offset_place i) s ≡ bytes_of 4 at ++ (bytes_of 4 m ++ (hash_at s i ++ rest))
    entry-text i at m rest e f =
        cut (offset_place i) 4 (length_place i) (bytes_of 4 at) (bytes_of 4 m ++ (hash_at s i ++ rest)) (omega arith) (number-bytes (offset_place i) at e.offset)
        (cut (length_place i) 4 (hash_place i) (bytes_of 4 m) (hash_at s i ++ rest) (omega arith) (number-bytes (length_place i) m e.size) (cut (hash_place i) 20 (offset_place (suc i)) (hash_at s i) rest (omega arith) refl f))

    listed-entries : (i at : ℕ) (ps : List Package) → Listed s i at ps → drop (offset_place i) s ≡ entries_from at ps ++ drop (offset_place (length ps + i)) s
    unfolding entries_from
    listed-entries i at ps (ended j p e) = let f : 0 + i ≡ i = omega arith in rw f
    listed-entries i at ps (listed j p m q qs e a h l) =
        let f : length qs + suc i ≡ suc (length qs) + i = omega arith in
        let r = listed-entries (suc i) (at + m) qs l ∙ ap (λ (x : ℕ). entries_from (at + m) qs ++ drop (offset_place x) s) f in
        entry-text i at m (entries_from (at + m) qs ++ drop (offset_place (suc (length qs) + i)) s) a r
        ∙ rw (e, body-length at m a.inside, append_assoc (bytes_of 4 at), append_assoc (bytes_of 4 m), append_assoc (hash_at s i))

  listed-bodies : (i at : ℕ) (ps : List Package) → Listed s i at ps → drop at s ≡ bodies_of ps
  unfolding bodies_of
  listed-bodies i at ps (ended j p e) = ap (λ (x : ℕ). drop x s) e ∙ drop-length s
  listed-bodies i at ps (listed j p m q qs e a h l) = cut at m (at + m) (take m (drop at s)) (bodies_of qs) refl refl (listed-bodies (suc i) (at + m) qs l) ∙ rw e

  pub listed-new : (i at : ℕ) (ps : List Package) → Listed s i at ps → AllNew (hashes_before s i) ps
  unfolding runs_at
  listed-new i at ps (ended j p e) = none_left (hashes_before s i)
  listed-new i at ps (listed j p m q qs e a h l) =
      subst (λ (x : Package). AllNew (hashes_before s i) (x ∷ qs)) (sym e)
      (new-one (hashes_before s i) (pack_in s i at m) qs (λ k. let x = in-before s i (hash_at s i) k in h x.0 x.1 x.2) (listed-new (suc i) (at + m) qs l))

  -- ---- packages of which the file is the text are listed

  -- what stands at a place, by what is there
  piece : (p w q : ℕ) (x rest : List ℕ) → p ≤ length s → drop p s ≡ x ++ rest → length x ≡ w → p + w ≡ q → (take w (drop p s) ≡ x) × (drop q s ≡ rest) × (q ≤ length s)
  piece p w q x rest l e f g = (
    ap (take w) e ∙ take_at x rest w f,
    sym (drop-drop w p s ∙ ap (λ (y : ℕ). drop y s) g) ∙ ap (drop w) e ∙ drop_at x rest w f,
    omega (arith, length-drop p s, ap length e, length-append x rest),
  )

  number_at : (p x : ℕ) → p + 4 ≤ length s → x < 256 ^ 4 → take 4 (drop p s) ≡ bytes_of 4 x → Number s p x
  number_at p x l h e = record { there = l; is = ap big_endian_of e ∙ big_endian-bytes_of 4 x h }

  hash-length : (p : Package) (t : TorrentSays) → IsPackage p t → length p.hash ≡ 20
  unfolding sha1 bytes_of
  hash-length p t h = ap length h.hashed

  -- a package's entry and its body
  pub record Standing (i at : ℕ) (p : Package) (rest bodies : List ℕ) : Type 0 where
    pub entry : EntryAt s i at (length p.body)
    pub same : p ≡ pack_in s i at (length p.body)
    pub others : drop (offset_place (suc i)) s ≡ rest
    pub low : offset_place (suc i) ≤ length s
    pub after : drop (at + length p.body) s ≡ bodies

  stands : (i at : ℕ) (rest bodies : List ℕ) (p : Package) (t : TorrentSays) → IsPackage p t → length s ≤ most_text → offset_place i ≤ length s → at ≤ length s
      → drop (offset_place i) s ≡ bytes_of 4 at ++ (bytes_of 4 (length p.body) ++ (p.hash ++ rest)) → drop at s ≡ p.body ++ bodies → Standing i at p rest bodies
  stands i at rest bodies p t h short low l e f =
      let m = length p.body in
      let a = piece (offset_place i) 4 (length_place i) (bytes_of 4 at) (bytes_of 4 m ++ (p.hash ++ rest)) low e (length-bytes_of 4 at) (omega arith) in
      let b = piece (length_place i) 4 (hash_place i) (bytes_of 4 m) (p.hash ++ rest) a.2 a.1 (length-bytes_of 4 m) (omega arith) in
      let c = piece (hash_place i) 20 (offset_place (suc i)) p.hash rest b.2 b.1 (hash-length p t h) (omega arith) in
      let d = piece at m (at + m) p.body bodies l f refl refl in
      let w : most_text < 256 ^ 4 = lit< tt in
      record {
        entry = record {
          offset = number_at (offset_place i) at (omega (arith, a.2)) (omega arith) a.0;
          size = number_at (length_place i) m (omega (arith, b.2)) (omega (arith, d.2)) b.0;
          inside = d.2;
          hash = omega (arith, c.2);
        };
        same = made p.body p.hash (take m (drop at s)) (hash_at s i) (sym d.0) (sym c.0);
        others = c.1;
        low = c.2;
        after = d.1;
      }
    where
      made : (b h c g : List ℕ) → b ≡ c → h ≡ g → ◌≡◌ {A = Package} (record { body = b; hash = h }) (record { body = c; hash = g })
      made b h c g e f = rw (e, f)

  new-parts : (seen : List (List ℕ)) (p : Package) (ps : List Package) → AllNew seen (p ∷ ps) → (In p.hash seen → ⊥) × AllNew (p.hash ∷ seen) ps
  new-parts seen p ps (new-one x q qs h more) = (h, more)

  text-listed : (i at : ℕ) (rest : List ℕ) (ps : List Package) (ts : List TorrentSays) → ArePackages ps ts → length s ≤ most_text → offset_place i ≤ length s → at ≤ length s
      → drop (offset_place i) s ≡ entries_from at ps ++ rest → drop at s ≡ bodies_of ps → AllNew (hashes_before s i) ps → Listed s i at ps
  unfolding entries_from bodies_of runs_at
  text-listed i at rest ps ts no_more short low l e f new = ended i at (omega (arith, length-drop at s, ap length f))
  text-listed i at rest ps ts (one_more p qs t us h more) short low l e f new =
      let m = length p.body in
      let others = entries_from (at + m) qs in
      let x = stands i at (others ++ rest) (bodies_of qs) p t h short low l
      (e ∙ rw (append_assoc (bytes_of 4 at), append_assoc (bytes_of 4 m), append_assoc p.hash)) f in
      let y = new-parts (hashes_before s i) p qs new in
      let g : p.hash ≡ hash_at s i = ap (λ (z : Package). z.hash) x.same in
      listed i at m p qs x.same x.entry (λ j b k. y.0 (before-in s i j p.hash b (k ∙ sym g)))
      (text-listed (suc i) (at + m) rest qs us more short x.low x.entry.inside x.others x.after (subst (λ (z : List ℕ). AllNew (z ∷ hashes_before s i) qs) g y.1))

  -- ---- the file

  entries-length : (at : ℕ) (ps : List Package) (ts : List TorrentSays) → ArePackages ps ts → length (entries_from at ps) ≡ 28 * length ps
  unfolding entries_from
  entries-length at ps ts no_more = refl
  entries-length at ps ts (one_more p qs t us h more) =
      let m = length p.body in
      let rest = entries_from (at + m) qs in
      omega (arith, length-append (bytes_of 4 at) (bytes_of 4 m ++ (p.hash ++ rest)), length-append (bytes_of 4 m) (p.hash ++ rest), length-append p.hash rest, length-bytes_of 4 at, length-bytes_of 4 m, hash-length p t h, entries-length (at + m) qs us more)

  -- how many packages there are, and those
  pub week-listed : (ps : List Package) (ts : List TorrentSays) → IsWeek s ps ts → Counts s (length ps) × Listed s 0 (table_bytes (length ps)) ps
  unfolding file_of runs_at
  week-listed ps ts w =
      let n = length ps in
      let entries = entries_from (table_bytes n) ps in
      let a = piece 0 4 4 (bytes_of 4 n) (entries ++ bodies_of ps) (omega arith) w.text (length-bytes_of 4 n) refl in
      let b = piece 4 (28 * n) (table_bytes n) entries (bodies_of ps) a.2 a.1 (entries-length (table_bytes n) ps ts w.packages) refl in
      let z : 256 < 256 ^ 4 = lit< tt in (
        record { number = number_at 0 n a.2 (omega (arith, w.few)) a.0; some = w.some; few = w.few },
        text-listed 0 (table_bytes n) (bodies_of ps) ps ts w.packages w.short a.2 b.2 a.1 b.1 w.different,
      )

  pub listed-text : (ps : List Package) → Bytes s → Counts s (length ps) → Listed s 0 (table_bytes (length ps)) ps → s ≡ file_of ps
  unfolding file_of
  listed-text ps bytes c l =
      let n = length ps in
      let e : n + 0 ≡ n = omega arith in
      cut 0 4 4 (bytes_of 4 n) (entries_from (table_bytes n) ps ++ bodies_of ps) refl (number-bytes bytes 0 n c.number)
      (listed-entries bytes 0 (table_bytes n) ps l ∙ rw (e, listed-bodies 0 (table_bytes n) ps l))

  -- ---- its packages

  module _ (n : ℕ) (short : length s ≤ most_text) (right : RightTo s n n (length s)) where
    pub listed-packages : (i at : ℕ) (ps : List Package) → Listed s i at ps → length ps + i ≡ n → Each s i n → (ts : List TorrentSays) × ArePackages ps ts
    listed-packages i at ps (ended j p e) f h = ([], no_more)
    listed-packages i at ps (listed j p m q qs e a b l) f h =
        let x = h i (omega arith) (omega arith) in
        let r = (body-checks s i at m).only x.0 (sym (there s n short right i at m (omega arith) a) ∙ x.1) in
        let y = listed-packages (suc i) (at + m) qs l (omega arith) (λ k c d. h k (omega arith) d) in
        (r.0 ∷ y.0, one_more q qs r.0 y.0 (subst (λ (z : Package). IsPackage z r.0) (sym e) r.1) y.1)

    -- what is told of the first package of a list
    pub first-told : (i at : ℕ) (p : Package) (ps : List Package) (t : TorrentSays) → i < n → Listed s i at (p ∷ ps) → IsPackage p t
        → (package_at s i ≡ taken (told_of s i at (length p.body) t)) × (p ≡ pack_in s i at (length p.body)) × Listed s (suc i) (at + length p.body) ps
    first-told i at p ps t f (listed j q m r qs e a b l) h =
        let x = (body-checks s i at m).every t (subst (λ (z : Package). IsPackage z t) e h) in
        let g : m ≡ length p.body = sym (ap (λ (z : Package). length z.body) e ∙ body-length at m a.inside) in
        (there s n short right i at m f a ∙ x.1 ∙ ap taken x.2 ∙ ap (λ (z : ℕ). taken (told_of s i at z t)) g, e ∙ ap (pack_in s i at) g, subst (λ (z : ℕ). Listed s (suc i) (at + z) ps) g l)

    -- the sums with those of more packages
    abbrev plus_all : Week → List TorrentSays → Week
    plus_all w ts = record { count = w.count; files = w.files + all_files ts; total = w.total + all_bytes ts }

    made : {c f g t u : ℕ} → f ≡ g → t ≡ u → ◌≡◌ {A = Week} (record { count = c; files = f; total = t }) (record { count = c; files = g; total = u })
    made e f = rw (e, f)

    pub listed-sums : (i at : ℕ) (w : Week) (ps : List Package) (ts : List TorrentSays) → ArePackages ps ts → Listed s i at ps → length ps + i ≡ n → sums_from s (length ps) i w ≡ taken (plus_all w ts)
    unfolding sums_from all_files all_bytes
    listed-sums i at w ps ts no_more l f = ap taken (made (omega arith) (omega arith))
    listed-sums i at w ps ts (one_more p qs t us h more) l f =
        let x = first-told i at p qs t (omega arith) l h in
        let e = told_of s i at (length p.body) t in
        next-sums s (length qs) i w (taken e) x.0 ∙ listed-sums (suc i) (at + length p.body) (plus w e) qs us more x.2 (omega arith) ∙ ap taken (made (omega arith) (omega arith))
