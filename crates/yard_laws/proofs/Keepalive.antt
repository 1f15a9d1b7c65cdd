-- A keepalive says nothing, to the tables or to the history; a truck that sits is fresh until a message of it with an id is taken. Assumes nothing.
use mathlib.Core.Path.{◌≡◌, refl, sym, ap, ap₂, ◌∙◌}
use mathlib.Core.Logic.{◌⊎◌, inl, inr, ◌↔◌}
use mathlib.Core.Bool.{Bool, true, false, not, ◌&&◌}
use mathlib.Core.List.Memᴰ
use mathlib.Core.List.{List, [], ◌∷◌, ◌++◌, Memᴰ as In}
use Prim.Native.Nat.{ℕ}
use native.Mathlib.Nat.{add-zero}
use lib.Dec.{eqb}
use lib.ListN.{length}
use Rattle.refusal.specs.Paper.{Outcome, taken, refused}
use Rattle.refusal.proofs.Cases.{no_way, cannot, by_bool, by-test, and-not, or-first}
use Rattle.peer_wire.specs.Message.{Message, keepalive, body}
use Rattle.peer_wire.specs.Frames.{found, read_of}
use Rattle.peer_wire.specs.Causes.{Zero}
use Rattle.peer_wire.proofs.Decided.{decides}
use Rattle.yard_tables.specs.Seats.{holding, having}
use Rattle.yard_tables.specs.Tables.{Yard, Said, used, Turn, says}
use Rattle.yard_tables.specs.Frames.{message_of, feed_of}
use Rattle.yard_tables.specs.Step.{feed, step}
use Rattle.yard_tables.proofs.Counts.{count-ext}
use Rattle.yard_tables.proofs.Keeping.{put_back}
use Rattle.yard_laws.specs.History.{Entry, History, Fixed, entry, Event, nothing, came, gone, heard, we_choke, we_want, turned, event, event_of, seated, seated_by, announced, announced_by, fresh, fresh_by, has_id, Spoke, pieces, sizes_set, still, phase, phase_of, sent, round_number, free_place, free_by, turn_of, last_place}
use Rattle.yard_laws.specs.Says.{record_of}
use Rattle.yard_laws.specs.Damage.{Fit, Taken}
use Rattle.yard_laws.proofs.Agreeing.{record_then, still-sizes, record-then}
use Rattle.yard_laws.proofs.Damage.{seat_at, heard-at}

reads : (s : List ℕ) → Zero s → read_of s ≡ taken (found keepalive 4)
reads s none = decides s (taken (found keepalive 4)) (inl (none, refl, refl))

-- ---- to the tables, whatever stands in them

module _ (y : Yard) (i : ℕ) (s : List ℕ) (none : Zero s) (fit : Fit y) (here : Taken y i) where
  at-its-seat : feed_of i s (length y.seats) (seat_at y i) ≡ says (used 4) (seat_at y i)
  unfolding message_of
  at-its-seat = heard-at y i s keepalive 4 fit here (record { at = keepalive; reads = reads s none; means = refl })

  pub keepalive-kept : ((step (feed i s) y).answer ≡ taken (used 4)) × ((step (feed i s) y).yard ≡ y)
  unfolding step
  keepalive-kept = (ap (λ (t : Turn). t.answer) at-its-seat, put_back y i (feed_of i s) (ap (λ (t : Turn). t.after) at-its-seat))

-- ---- to the history

module _ (h : History) (i : ℕ) (s : List ℕ) (a : Outcome Said) (w : List ℕ) (none : Zero s) where
  abbrev fed : Entry
  fed = entry (feed i s) a w

  -- at its seat it is a keepalive heard, or refused, and at the others nothing
  so-of-both : (P : Event → Type 0) → P nothing → P (heard keepalive) → (j : ℕ) → P (event j fed)
  unfolding event
  so-of-both P x y j = go a
    where
      go : (o : Outcome Said) → P (event_of j (feed i s) o)
      go (taken said) = by-test P (eqb j i) (λ q. rw (reads s none) y) (λ q. x)
      go (refused n p) = x

  still-so : phase fed ≡ still
  unfolding phase
  still-so = go a
    where
      go : (o : Outcome Said) → phase_of (feed i s) o ≡ still
      go (taken said) = refl
      go (refused n p) = refl

  pub keepalive-unsaid : (fixed : Fixed) → ((j : ℕ) → record_of fixed (fed ∷ h) j ≡ record_of fixed h j) × ((j p : ℕ) → announced (fed ∷ h) j p ≡ announced h j p)
      × (sizes_set (fed ∷ h) ≡ sizes_set h) × (round_number (fed ∷ h) ≡ round_number h) × (free_place fixed (fed ∷ h) ≡ free_place fixed h) × (last_place fixed (fed ∷ h) ≡ last_place fixed h)
  keepalive-unsaid fixed = (
    λ j. record-then h fed (still-sizes h fed still-so) j (event j fed) refl fixed
        ∙ so-of-both (λ v. record_then fixed v h j ≡ record_of fixed h j) refl
        (ap₂ (λ (k b : ℕ). holding k (having b (record_of fixed h j)))
        (count-ext _ _ (pieces h) (λ p l. ap (λ (b : Bool). seated h j && b) (or-first (announced h j p) false refl))) (add-zero (sent h j))) j,
    λ j p. so-of-both (λ v. announced_by v p (announced h j p) ≡ announced h j p) refl (or-first (announced h j p) false refl) j,
    rw still-so,
    rw still-so,
    so-of-both (λ v. free_by v (turn_of fixed h (free_place fixed h)) (free_place fixed h) ≡ free_place fixed h) refl refl (free_place fixed h),
    rw still-so,
  )

-- ---- fresh until a message with an id

-- only who sits down becomes fresh
stays-spoken : (v : Event) → (v ≡ came → ⊥) → (b : Bool) → b ≡ false → fresh_by v b ≡ false
stays-spoken nothing d b e = e
stays-spoken came d b e = absurd (d refl)
stays-spoken gone d b e = refl
stays-spoken (heard m) d b e = and-not (not (has_id (body m))) b (λ _. e)
stays-spoken (we_choke c) d b e = e
stays-spoken (we_want c) d b e = e
stays-spoken turned d b e = e

module _ (i : ℕ) where
  -- after a message with an id, nobody sitting down since
  not-fresh : (later : History) (frame : Entry) (earlier : History) (m : Message (List ℕ)) → event i frame ≡ heard m → has_id (body m) ≡ true
      → ((e : Entry) → In e later → event i e ≡ came → ⊥) → fresh (later ++ (frame ∷ earlier)) i ≡ false
  not-fresh [] frame earlier m e k f = rw (e, k)
  not-fresh (x ∷ later) frame earlier m e k f =
      stays-spoken (event i x) (f x (In.head refl)) _ (not-fresh later frame earlier m e k (λ z q. f z (In.tail q)))

  just-now : (e : Entry) (h : History) (m : Message (List ℕ)) → event i e ≡ heard m → has_id (body m) ≡ true → Spoke (e ∷ h) i
  just-now e h m q k = record { later = []; frame = e; earlier = h; message = m; parts = refl; heard-there = q; with-id = k; nobody-came = λ x n. absurd (Memᴰ.not-nil n) }

  before-it : (e : Entry) (h : History) → (event i e ≡ came → ⊥) → Spoke h i → Spoke (e ∷ h) i
  before-it e h d k = record {
    later = e ∷ k.later;
    frame = k.frame;
    earlier = k.earlier;
    message = k.message;
    parts = ap (λ (l : History). e ∷ l) k.parts;
    heard-there = k.heard-there;
    with-id = k.with-id;
    nobody-came = λ x n c. go x c (Memᴰ.cases_cons n);
  }
    where
      go : (x : Entry) → event i x ≡ came → (x ≡ e) ⊎ In x k.later → ⊥
      go x c (inl q) = d (ap (event i) (sym q) ∙ c)
      go x c (inr q) = k.nobody-came x q c

  spoke : (h : History) → seated h i ≡ true → fresh h i ≡ false → Spoke h i
  spoke [] s f = cannot false refl s
  spoke (e ∷ h) s f = go (event i e) refl s f (spoke h)
    where
      go : (v : Event) → event i e ≡ v → seated_by v (seated h i) ≡ true → fresh_by v (fresh h i) ≡ false → (seated h i ≡ true → fresh h i ≡ false → Spoke h i) → Spoke (e ∷ h) i
      go nothing q a b k = before-it e h (λ c. no_way (cc)) (k a b)
      go came q a b k = cannot true b refl
      go gone q a b k = cannot false refl a
      go (heard m) q a b k = by_bool (has_id (body m)) (λ t. just-now e h m q t) (λ t. before-it e h (λ c. no_way (cc)) (k a (ap (λ (x : Bool). not x && fresh h i) (sym t) ∙ b)))
      go (we_choke c) q a b k = before-it e h (λ d. no_way (cc)) (k a b)
      go (we_want c) q a b k = before-it e h (λ d. no_way (cc)) (k a b)
      go turned q a b k = before-it e h (λ d. no_way (cc)) (k a b)

  pub spoke-exactly : (h : History) → seated h i ≡ true → fresh h i ≡ false ↔ Spoke h i
  spoke-exactly h s = (spoke h s, λ k. ap (λ (g : History). fresh g i) k.parts ∙ not-fresh k.later k.frame k.earlier k.message k.heard-there k.with-id k.nobody-came)
