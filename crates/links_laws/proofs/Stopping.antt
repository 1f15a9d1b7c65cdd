-- Where the reader stops: after which bytes, in one way, and for which of two reasons. Assumes nothing.
use mathlib.Core.Path.{◌≡◌, refl, sym, ap, ◌∙◌}
use mathlib.Core.Logic.{◌⊎◌, inl, inr}
use mathlib.Core.Bool.{Bool, true, false, cond}
use mathlib.Core.List.{List, [], ◌∷◌, ◌++◌}
use Prim.Native.Nat.{ℕ, zero, suc, ◌+◌, ◌-◌}
use borrow.Author.Tests.{eqb-true}
use lib.Dec.{eqb}
use lib.ListN.{length}
use Rattle.refusal.proofs.Cases.{no_way}
use Rattle.links.specs.Link.{name_byte, plain_byte}
use Rattle.links.specs.Reading.{nibble, is_hex, field_of, Seen, has, with, Mode, prefix, naming, urn, digits, half, value, percent, digit, State, going, stopped, prefixed, urned, opening, valued, in_mode, step, fed}
use Rattle.links.specs.declared.scan.Field.TheVariants.{Hash}
use Rattle.links.proofs.Running.{fed-append, fed-stopped}

-- ---- after which bytes

-- after the bytes q of s it goes on, and not after the byte behind them; it gives the place p
pub record Stops (st : State) (s : List ℕ) (p : ℕ) : Type 0 where
  pub bytes : List ℕ
  pub byte : ℕ
  pub rest : List ℕ
  pub text : s ≡ bytes ++ (byte ∷ rest)
  pub place : ℕ
  pub seen : Seen
  pub mode : Mode
  pub before : fed st bytes ≡ going place seen mode
  pub stops : in_mode place seen mode byte ≡ stopped p

pub stopped-same : {p q : ℕ} → stopped p ≡ stopped q → p ≡ q
stopped-same e = cc

pub stop-point : (s : List ℕ) (p : ℕ) (n : Seen) (m : Mode) (e : ℕ) → fed (going p n m) s ≡ stopped e → Stops (going p n m) s e
unfolding fed
stop-point [] p n m e f = no_way (cc)
stop-point (b ∷ s) p n m e f = go (in_mode p n m b) refl f (λ i k j g. stop-point s i k j e g)
  where
    go : (st : State) → in_mode p n m b ≡ st → fed st s ≡ stopped e → ((i : ℕ) (k : Seen) (j : Mode) → fed (going i k j) s ≡ stopped e → Stops (going i k j) s e) → Stops (going p n m) (b ∷ s) e
    go (going i k j) x g more =
        let w = more i k j g in
        record {
          bytes = b ∷ w.bytes;
          byte = w.byte;
          rest = w.rest;
          text = ap (λ (l : List ℕ). b ∷ l) w.text;
          place = w.place;
          seen = w.seen;
          mode = w.mode;
          before = ap (λ (st : State). fed st w.bytes) x ∙ w.before;
          stops = w.stops;
        }
    go (stopped i) x g more = record {
      bytes = [];
      byte = b;
      rest = s;
      text = refl;
      place = p;
      seen = n;
      mode = m;
      before = refl;
      stops = x ∙ sym (fed-stopped i s) ∙ g;
    }

-- what follows changes nothing
pub stops-fed : (st : State) (s : List ℕ) (p : ℕ) → Stops st s p → fed st s ≡ stopped p
unfolding fed
stops-fed st s p w = ap (fed st) w.text ∙ fed-append st w.bytes (w.byte ∷ w.rest) ∙ ap (λ (x : State). fed x (w.byte ∷ w.rest)) w.before ∙ ap (λ (x : State). fed x w.rest) w.stops ∙ fed-stopped p w.rest

-- in one way
no-more-after : {A : Type 0} (st : State) (b : ℕ) (t : List ℕ) (e p : ℕ) (n : Seen) (m : Mode) → step st b ≡ stopped e → fed (step st b) t ≡ going p n m → A
no-more-after st b t e p n m x y = let z : stopped e ≡ going p n m = sym (fed-stopped e t) ∙ ap (λ (u : State). fed u t) (sym x) ∙ y in no_way (cc)

pub stop-same : (st : State) (q t r u : List ℕ) (b c : ℕ) (i j : ℕ) (k l : Seen) (m o : Mode) (d e : ℕ) → q ++ (b ∷ r) ≡ t ++ (c ∷ u)
    → fed st q ≡ going i k m → in_mode i k m b ≡ stopped d → fed st t ≡ going j l o → in_mode j l o c ≡ stopped e → q ≡ t
unfolding fed
stop-same st [] [] r u b c i j k l m o d e x f g h v = refl
stop-same st [] (y ∷ t) r u b c i j k l m o d e x f g h v =
    let z : b ≡ y = cc in
    no-more-after st y t d j l o (ap (step st) (sym z) ∙ ap (λ (w : State). step w b) f ∙ g) h
stop-same st (x₁ ∷ q) [] r u b c i j k l m o d e x f g h v =
    let z : x₁ ≡ c = cc in
    no-more-after st x₁ q e i k m (ap (step st) z ∙ ap (λ (w : State). step w c) h ∙ v) f
stop-same st (x₁ ∷ q) (y ∷ t) r u b c i j k l m o d e x f g h v =
    let z : x₁ ≡ y = cc in
    let w = stop-same (step st x₁) q t r u b c i j k l m o d e (cc) f g (ap (λ (a : ℕ). fed (step st a) t) z ∙ h) v in
    ap (λ (a : ℕ). a ∷ q) z ∙ ap {B = List ℕ} (λ (a : List ℕ). y ∷ a) w

-- ---- for which reason

-- a name that was said before, at its "="
pub record Twice (p : ℕ) (n : Seen) (m : Mode) (b e : ℕ) : Type 0 where
  pub name : List ℕ
  pub mode : m ≡ naming name
  pub byte : b ≡ 61
  pub before : has (field_of name) n ≡ true
  pub place : e ≡ p - length name

module _ (p : ℕ) (n : Seen) (e : ℕ) where
  else-here : (t : Bool) (i : ℕ) (k : Seen) (m : Mode) → cond t (going i k m) (stopped p) ≡ stopped e → e ≡ p
  else-here true i k m f = no_way (cc)
  else-here false i k m f = cc

  at-equals : (k : List ℕ) (b : ℕ) → b ≡ 61 → valued p n k ≡ stopped e → (e ≡ p) ⊎ Twice p n (naming k) b e
  at-equals [] b x f = inl (cc)
  at-equals (c ∷ k) b x f = go (has (field_of (c ∷ k)) n) refl f
    where
      go : (t : Bool) → has (field_of (c ∷ k)) n ≡ t → cond t (stopped (p - length (c ∷ k))) (going (p + 1) n (opening (field_of (c ∷ k)))) ≡ stopped e → (e ≡ p) ⊎ Twice p n (naming (c ∷ k)) b e
      go true h g = inr (record { name = c ∷ k; mode = refl; byte = x; before = h; place = sym (stopped-same g) })
      go false h g = no_way (cc)

  in-name : (k : List ℕ) (b : ℕ) (s t : Bool) → eqb b 61 ≡ t → cond s (going (p + 1) n (naming (k ++ (b ∷ [])))) (cond t (valued p n k) (stopped p)) ≡ stopped e → (e ≡ p) ⊎ Twice p n (naming k) b e
  in-name k b true t x f = no_way (cc)
  in-name k b false true x f = at-equals k b (eqb-true b 61 x) f
  in-name k b false false x f = inl (cc)

  in-value : (r s t : Bool) (i : ℕ) (k : Seen) (m : Mode) (j : ℕ) (l : Seen) (o : Mode) (u : ℕ) (v : Seen) (w : Mode) → cond r (going i k m) (cond s (going j l o) (cond t (going u v w) (stopped p))) ≡ stopped e → e ≡ p
  in-value true s t i k m j l o u v w f = no_way (cc)
  in-value false true t i k m j l o u v w f = no_way (cc)
  in-value false false t i k m j l o u v w f = else-here t u v w f

  pub stop-kind : (m : Mode) (b : ℕ) → in_mode p n m b ≡ stopped e → (e ≡ p) ⊎ Twice p n m b e
  unfolding in_mode
  stop-kind (prefix c w) b f = inl (else-here (eqb b c) (p + 1) n (prefixed w) f)
  stop-kind (naming k) b f = in-name k b (name_byte b) (eqb b 61) refl f
  stop-kind (urn c w) b f = inl (else-here (eqb b c) (p + 1) n (urned w) f)
  stop-kind (digits zero h) b f = inl (else-here (eqb b 38) (p + 1) (with Hash h n) (naming []) f)
  stop-kind (digits (suc k) h) b f = inl (else-here (is_hex b) (p + 1) n (half k h (nibble b)) f)
  stop-kind (half k h x) b f = inl (else-here (is_hex b) (p + 1) n _ f)
  stop-kind (value g v) b f = inl (in-value (plain_byte b) (eqb b 37) (eqb b 38) (p + 1) n _ (p + 1) n _ (p + 1) (with g v n) _ f)
  stop-kind (percent g v) b f = inl (else-here (is_hex b) (p + 1) n _ f)
  stop-kind (digit g v x) b f = inl (else-here (is_hex b) (p + 1) n _ f)
