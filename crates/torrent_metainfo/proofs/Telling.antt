-- What the searches for the keys of a dictionary tell of the values under them. Assumes nothing.
use Rattle.std.proofs.Common.{Err, Ok, Result, ◌≡◌, refl, sym, ap, ◌∙◌, subst, true, List, ℕ, ◌≤◌, length}
use Rattle.refusal.specs.declared.Refusal.{Refusal}
use Rattle.refusal.specs.Paper.{Outcome, taken, refused}
use Rattle.refusal.specs.Limits.{most_text}
use Rattle.bencode_scalar.specs.Written.{key_lt}
use Rattle.bencode.specs.Decode.{unless_long}
use Rattle.bencode.specs.Value.{Value, Entries, Prev, start, last, follows}
use Rattle.bencode_walk.specs.Walk.{Hit, seek_paper}
use Rattle.bencode_walk.specs.Stands.{Stands, StandEntries}
use Rattle.bencode_walk.specs.Lookup.{Under, nothing, under, lookup}
use Rattle.bencode_walk.specs.declared.Sought.{Sought}
use Rattle.bencode_walk.specs.declared.Sought.TheVariants.{Found, Missing}
use Rattle.bencode_walk.proofs.Limited.{unless-short}
use Rattle.bencode_walk.proofs.Finding.{Says, it-is, it-is-not, found-stands, place_of}
use Rattle.bencode_fields.specs.Looks.{needed, sought_from}
use Rattle.bencode_fields.specs.Values.{must}
use Rattle.bencode_fields.proofs.Seeking.{Left, all_left, seeks}
use Rattle.torrent_metainfo.specs.Keys.{Tells, stop_of, place_found}
use Rattle.torrent_metainfo.specs.Rules.{place_under}
use Rattle.torrent_metainfo.proofs.Naming.{no_way}

-- ---- what is asked of a value under a key

module _ {A : Type 0} (s : List ℕ) (d D : ℕ) (f : ℕ → Value → Outcome A) where
  pub tells-found : (u : Under) (w : Result Sought Refusal) (p r : ℕ) → Tells s d u w → w ≡ (Ok (Found p r)) → (o : Outcome A) → ((v : Value) → Stands s d r v → o ≡ f r v) → o ≡ must D u f
  tells-found (under q v) (Ok (Found i j)) p r t e o h =
      let a : q ≡ r = sym t.0 ∙ (cc) in
      let b : Stands s d r v = (rw a at t.1) in
      h v b ∙ ap (λ (x : ℕ). f x v) (sym a)
  tells-found (under q v) (Ok (Missing i)) p r t e o h = absurd t
  tells-found (under q v) (Err i) p r t e o h = absurd t
  tells-found nothing (Ok (Found i j)) p r t e o h = absurd t
  tells-found nothing (Ok (Missing i)) p r t e o h = no_way (cc)
  tells-found nothing (Err i) p r t e o h = absurd t

  pub tells-needed : (u : Under) (w : Result Sought Refusal) → Tells s d u w → (g : ℕ → Outcome A) → ((q : ℕ) (v : Value) → Stands s d q v → g q ≡ f q v) → unless_long s (needed D (seek_paper w) g) ≡ must D u f
  tells-needed (under q v) (Ok (Found i j)) t g h = sym (unless-short s (g j) t.1.short) ∙ ap g t.0 ∙ h q v t.1
  tells-needed (under q v) (Ok (Missing i)) t g h = absurd t
  tells-needed (under q v) (Err i) t g h = absurd t
  tells-needed nothing (Ok (Found i j)) t g h = absurd t
  tells-needed nothing (Ok (Missing i)) t g h = sym (unless-short s (refused 10 D) t)
  tells-needed nothing (Err i) t g h = absurd t

module _ (s : List ℕ) (d : ℕ) where
  pub tells-read : {B : Type 0} (u : Under) (w : Result Sought Refusal) → Tells s d u w → {r : _} → w ≡ Err r → B
  tells-read (under q v) (Ok (Found i j)) t e = no_way (cc)
  tells-read (under q v) (Ok (Missing i)) t e = absurd t
  tells-read (under q v) (Err i) t e = absurd t
  tells-read nothing (Ok (Found i j)) t e = absurd t
  tells-read nothing (Ok (Missing i)) t e = no_way (cc)
  tells-read nothing (Err i) t e = absurd t

  pub tells-place : (u : Under) (w : Result Sought Refusal) → Tells s d u w → place_found w ≡ place_under u
  tells-place (under q v) (Ok (Found i j)) t = t.0
  tells-place (under q v) (Ok (Missing i)) t = absurd t
  tells-place (under q v) (Err i) t = absurd t
  tells-place nothing (Ok (Found i j)) t = absurd t
  tells-place nothing (Ok (Missing i)) t = refl
  tells-place nothing (Err i) t = absurd t

  pub tells-stands : (q : ℕ) (v : Value) (w : Result Sought Refusal) → Tells s d (under q v) w → Stands s d q v
  tells-stands q v (Ok (Found i j)) t = t.1
  tells-stands q v (Ok (Missing i)) t = absurd t
  tells-stands q v (Err i) t = absurd t

  by-hit : length s ≤ most_text → (u : Under) (h : Hit) → Says u h → ((q : ℕ) (v : Value) → u ≡ under q v → Stands s d q v) → (w : Result Sought Refusal) → seek_paper w ≡ taken h → Tells s d u w × (place_of h ≡ stop_of w)
  by-hit l u h (it-is p q v) t (Ok (Found i j)) e = ((cc, t q v refl), cc)
  by-hit l u h (it-is p q v) t (Ok (Missing i)) e = no_way (cc)
  by-hit l u h (it-is p q v) t (Err i) e = no_way (cc)
  by-hit l u h (it-is-not p) t (Ok (Found i j)) e = no_way (cc)
  by-hit l u h (it-is-not p) t (Ok (Missing i)) e = (l, cc)
  by-hit l u h (it-is-not p) t (Err i) e = no_way (cc)

  module _ (levels : d ≤ 32) (p : ℕ) (before : Prev) (es : Entries) (t : StandEntries s d p before es) where
    -- one search in a row of them
    pub record Told (k : List ℕ) (w : Result Sought Refusal) : Type 0 where
      pub told : Tells s d (lookup p es k) w
      pub next : Left s d p es (last k) (stop_of w)

    pub tell : (j : Prev) (k : List ℕ) (q : ℕ) (w : Result Sought Refusal) → Left s d p es j q → follows j k ≡ true → seek_paper w ≡ sought_from s q k → Told k w
    tell j k q w l h e =
        let y = seeks s d p es levels j k q l h in
        let z = by-hit t.short (lookup p es k) y.hit y.says (found-stands s d p before es k t) w (e ∙ y.seen) in
        record { told = z.0; next = subst (Left s d p es (last k)) z.1 y.next }

    pub tell-first : (k : List ℕ) (w : Result Sought Refusal) → seek_paper w ≡ sought_from s p k → Told k w
    tell-first k w e = tell start k p w (all_left s d p es before t) refl e

    pub tell-second : (j k : List ℕ) (w x : Result Sought Refusal) → Told j w → key_lt j k ≡ true → seek_paper x ≡ sought_from s (stop_of w) k → Told k x
    tell-second j k w x y h e = tell (last j) k (stop_of w) x y.next h e
