-- What decides each answer of the handshake reader; what it takes was written so, and what was written so it takes. Assumes nothing.
use mathlib.Core.Path.{◌≡◌, refl, sym, ap, ◌∙◌}
use mathlib.Core.Logic.{inl, inr}
use mathlib.Core.Bool.{Bool, true, false}
use mathlib.Core.List.{List, ◌++◌, append_assoc}
use Prim.Native.Nat.{ℕ, ◌≤◌, ◌<◌}
use native.Mathlib.Omega.{arith}
use borrow.Author.Tests.{lt-ltb, le-ltb, ltb-true, ltb-false}
use lib.Dec.{ltb}
use lib.ListN.{length, get_or, take, drop, length-drop, length-append, get_or-append}
use lib.Seq.{length-take-le, take_at, drop_at, take-add, drop-drop, get_or-take, ext_get_or}
use Rattle.refusal.specs.Numbers.{protocol, hash}
use Rattle.refusal.specs.Paper.{Outcome, taken, refused}
use Rattle.refusal.specs.Parts.{bytes_at}
use Rattle.refusal.specs.declared.Part.{Part}
use Rattle.refusal.proofs.Cases.{by-test, cannot}
use Rattle.peer_wire.specs.Handshake.{Shaken, wait, hello, name, handshake, agree, shake_of}
use Rattle.peer_wire.specs.Causes.{Named, Misnamed, info_in, ShakeCause}
use Rattle.peer_wire.proofs.Agreeing.{agree-true, agree-false, agree-if, agree-not, agree-equal, equal-agree}

-- where the free bytes and the peer id lie
abbrev pub free_part : Part
free_part = record { from = 20; len = 8 }

abbrev pub peer_part : Part
peer_part = record { from = 48; len = 20 }

-- ---- the ways out

module _ (info s : List ℕ) where
  pub shake-misnamed : agree name s ≡ false → shake_of info s ≡ refused protocol 0
  unfolding shake_of
  shake-misnamed e = rw e

  module _ (named : agree name s ≡ true) where
    pub shake-wait : length s < 68 → shake_of info s ≡ taken wait
    unfolding shake_of
    shake-wait h = rw (named, lt-ltb (length s) 68 h)

    module _ (there : 68 ≤ length s) where
      pub shake-other : agree (info_in s) info ≡ false → shake_of info s ≡ refused hash 0
      unfolding shake_of
      shake-other e = rw (named, le-ltb (length s) 68 there, e)

      pub shake-hello : agree (info_in s) info ≡ true → shake_of info s ≡ taken (hello free_part peer_part 68)
      unfolding shake_of
      shake-hello e = rw (named, le-ltb (length s) 68 there, e)

-- ---- what decides

module _ (info s : List ℕ) (twenty : length info ≡ 20) where
  info-length : 68 ≤ length s → length (info_in s) ≡ length info
  info-length h =
      let l = length-take-le 20 (drop 28 s) (rw length-drop (omega arith)) in
      omega arith

  decided : ShakeCause info s (shake_of info s)
  unfolding shake_of
  decided =
      by-test (ShakeCause info s) (agree name s)
      (λ e. let n = agree-true name s e in
      by-test (ShakeCause info s) (ltb (length s) 68) (λ f. (n, ltb-true (length s) 68 f))
      (λ f. let h = ltb-false (length s) 68 f in
      by-test (ShakeCause info s) (agree (info_in s) info) (λ g. ((n, h, agree-equal (info_in s) info (info-length h) g), refl, refl, refl))
      (λ g. (inr (refl, n, h, λ q. cannot _ g (equal-agree (info_in s) info q)), refl))))
      (λ e. (inl (refl, agree-false name s e), refl))

  pub shake-decides : (o : Outcome Shaken) → ShakeCause info s o → shake_of info s ≡ o
  shake-decides (taken wait) (n, h) = shake-wait info s (agree-if name s n) h
  shake-decides (taken (hello free peer used)) ((n, h, e), f, p, u) =
      shake-hello info s (agree-if name s n) h (equal-agree (info_in s) info e) ∙ rw (f, p, u)
  shake-decides (refused k p) (inl (e, d), z) = shake-misnamed info s (agree-not name s d) ∙ rw (e, z)
  shake-decides (refused k p) (inr (e, n, h, d), z) = shake-other info s (agree-if name s n) h (differs (agree (info_in s) info) refl) ∙ rw (e, z)
    where
      differs : (t : Bool) → agree (info_in s) info ≡ t → t ≡ false
      differs true q = absurd (d (agree-equal (info_in s) info (info-length h) q))
      differs false q = refl

  -- an answer is given exactly for its cause
  pub shake-exactly : (o : Outcome Shaken) → (shake_of info s ≡ o → ShakeCause info s o) × (ShakeCause info s o → shake_of info s ≡ o)
  shake-exactly o = (λ e. rw e at decided, shake-decides o)

  -- and so for each by itself
  pub shake-wait-exactly : (shake_of info s ≡ taken wait → Named s × (length s < 68)) × (Named s × (length s < 68) → shake_of info s ≡ taken wait)
  shake-wait-exactly = shake-exactly (taken wait)

  pub twenty-two-exactly : (shake_of info s ≡ refused protocol 0 → Misnamed s) × (Misnamed s → shake_of info s ≡ refused protocol 0)
  twenty-two-exactly = (λ e. go ((shake-exactly (refused protocol 0)).0 e), λ h. shake-decides (refused protocol 0) (inl (refl, h), refl))
    where
      go : ShakeCause info s (refused protocol 0) → Misnamed s
      go (inl h, z) = h.1
      go (inr h, z) = let e = h.0 in absurd (omega arith)

  abbrev pub Another : Type 0
  Another = Named s × (68 ≤ length s) × (info_in s ≡ info → ⊥)

  pub twenty-three-exactly : (shake_of info s ≡ refused hash 0 → Another) × (Another → shake_of info s ≡ refused hash 0)
  twenty-three-exactly = (λ e. go ((shake-exactly (refused hash 0)).0 e), λ h. shake-decides (refused hash 0) (inr (refl, h.0, h.1, h.2), refl))
    where
      go : ShakeCause info s (refused hash 0) → Another
      go (inl h, z) = let e = h.0 in absurd (omega arith)
      go (inr h, z) = (h.1, h.2, h.3)

  -- ---- what is taken was written so

  name-is : 68 ≤ length s → Named s → name ≡ take 20 s
  name-is h n =
      let l = length-take-le 20 s (omega arith) in
      ext_get_or 0 name (take 20 s) (sym l) (λ i g. n i g (omega arith) ∙ sym (get_or-take 20 s i 0 g))

  pub hello-was-written : (free peer : Part) (used : ℕ) → shake_of info s ≡ taken (hello free peer used)
      → handshake (bytes_at s free) info (bytes_at s peer) ≡ take used s
  hello-was-written free peer used e = go ((shake-exactly (taken (hello free peer used))).0 e)
    where
      parts : take 68 s ≡ take 20 s ++ (take 8 (drop 20 s) ++ (take 20 (drop 28 s) ++ take 20 (drop 48 s)))
      parts = rw (take-add 20 48 s, take-add 8 40 (drop 20 s), drop-drop 8 20 s, take-add 20 20 (drop 28 s), drop-drop 20 28 s)

      go : ShakeCause info s (taken (hello free peer used)) → handshake (bytes_at s free) info (bytes_at s peer) ≡ take used s
      go ((n, h, i), f, p, u) =
          rw (f, p, u, parts, ← name-is h n, i)

-- ---- what was written so is taken

module _ (free info peer rest : List ℕ) (eight : length free ≡ 8) (twenty : length info ≡ 20) (same : length peer ≡ 20) where
  abbrev text : List ℕ
  text = handshake free info peer ++ rest

  after : (free ++ (info ++ peer)) ++ rest ≡ free ++ (info ++ (peer ++ rest))
  after = append_assoc free (info ++ peer) rest ∙ ap (λ (q : List ℕ). free ++ q) (append_assoc info peer rest)

  from-info : drop 28 text ≡ info ++ (peer ++ rest)
  from-info = ap (drop 8) after ∙ drop_at free (info ++ (peer ++ rest)) 8 eight

  from-peer : drop 48 text ≡ peer ++ rest
  from-peer = sym (drop-drop 20 28 text) ∙ ap (drop 20) from-info ∙ drop_at info (peer ++ rest) 20 twenty

  long : 68 ≤ length text
  long =
      let a = ap length from-info in
      let b = length-append info (peer ++ rest) in
      let c = length-append peer rest in
      let d = length-drop 28 text in
      omega arith

  pub handshake-reads-back : (shake_of info text ≡ taken (hello free_part peer_part (length (handshake free info peer)))) × (bytes_at text free_part ≡ free) × (bytes_at text peer_part ≡ peer)
  handshake-reads-back =
      let named : Named text = λ i h g. refl-at i h in
      let e : info_in text ≡ info = ap (take 20) from-info ∙ take_at info (peer ++ rest) 20 twenty in (
        shake-decides info text twenty (taken (hello free_part peer_part (length (handshake free info peer)))) ((named, long, e), refl, refl, all),
        ap (take 8) after ∙ take_at free (info ++ (peer ++ rest)) 8 eight,
        ap (take 20) from-peer ∙ take_at peer rest 20 same,
      )
    where
      refl-at : (i : ℕ) → i < 20 → get_or name i 0 ≡ get_or text i 0
      refl-at i h = sym (get_or-append name ((free ++ (info ++ peer)) ++ rest) 0 i h)

      all : length (handshake free info peer) ≡ 68
      all =
          let a = length-append free (info ++ peer) in
          let b = length-append info peer in
          omega arith
