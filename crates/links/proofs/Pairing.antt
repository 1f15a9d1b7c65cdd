-- A pair as the code goes through it: what each of its steps comes to. Assumes nothing.
use Rattle.std.specs.Prelude.{Err, None, Ok, Option, Some}
use mathlib.Core.Path.{◌≡◌, refl, sym, ap, ◌∙◌, subst}
use mathlib.Core.Bool.{true, false}
use mathlib.Core.List.{List, [], ◌++◌}
use Prim.Native.Nat.{ℕ, ◌+◌, ◌-◌, ◌<◌, ◌≤◌, min}
use native.Mathlib.Omega.{arith}
use lib.ListN.{length, get_or, take, drop, length-append, length-drop, get_or-eq_default}
use lib.Seq.{drop-drop, drop_at}
use Rattle.refusal.specs.Texts.{bytes}
use Rattle.refusal.specs.Paper.{Outcome, refused}
use Rattle.refusal.specs.Numbers as no
use Rattle.refusal.proofs.Cases.{less-or}
use Rattle.links.specs.Link.{Meaning, Said}
use Rattle.links.specs.Reading.{is_hex, field_of, Seen, unsaid, with, naming, digits, value, opening, going, fed, finish, told, begun}
use Rattle.links.specs.Places.{answer_at, runs, common, HashAt, Holds, unheld, held, Shows, Valued, Turn, TurnedAs, named_at, keeps, kept, closed_at, found_by, whole_of, Scanned, ScannedAs, found, unfound}
use Rattle.links.specs.declared.scan.Field.{Field}
use Rattle.links.specs.declared.scan.Field.TheVariants.{Hash, Name, Address, Other}
use Rattle.links.specs.declared.scan.Spelt.{Spelt}
use Rattle.links.specs.declared.scan.Pass.{Pass}
use Rattle.links.proofs.Running.{prefix-run, urn-run, hex-run}
use Rattle.links.proofs.Lengths.{common-within, common-there}
use Rattle.links.proofs.Turning.{prefix-off, urn-off, keeps-has, keep-hash, keep-value, named_again, named-first, closes, closing-hash, closing-value, closing_end}
use Rattle.links.proofs.Spelling.{hash-off, Leads, hash-there, spelt_run, spelt-at}

-- ---- what a pair comes to, by its answer

module _ (s : List ℕ) (o : Outcome Meaning) (p : ℕ) where
  pub turned_as : {r : Turn} (t : Turn) → r ≡ t → TurnedAs s o p t → TurnedAs s o p r
  turned_as t e x = subst (TurnedAs s o p) (sym e) x

  pub turned-from : (u : Outcome Meaning) (r : Turn) → o ≡ u → TurnedAs s u p r → TurnedAs s o p r
  turned-from u r e x = subst (λ (v : Outcome Meaning). TurnedAs s v p r) (sym e) x

  -- it began before
  pub turned-lower : (q : ℕ) (r : Turn) → p ≤ q → TurnedAs s o q r → TurnedAs s o p r
  turned-lower q (Ok (x, Some i)) h (m, w, e, l, z) = (m, w, e, omega arith, z)
  turned-lower q (Ok (x, None)) h y = y
  turned-lower q (Err i) h y = y

-- ---- after the name

module _ (s : List ℕ) (p q : ℕ) (x : Pass) (f : Field) (l : p < q) (h : q < length s) (e : f ≡ field_of (take (q - p) (drop p s))) where
  pub again-off : keeps f x ≡ true → (n : Seen) → Shows s x n → named_at s p q n ≡ refused no.link p
  again-off g n w = named_again s p q n f l h e (sym (keeps-has s x n w f) ∙ g)

  module _ (g : keeps f x ≡ false) (r : Turn) where
    pub first-hash : f ≡ Hash → ((n : Seen) → Shows s x n → TurnedAs s (answer_at s (q + 1) n (opening Hash)) (q + 1) r) → (n : Seen) → Shows s x n → TurnedAs s (named_at s p q n) p r
    first-hash z y n w = turned-from s (named_at s p q n) p (answer_at s (q + 1) n (opening Hash)) r (named-first s p q n f l h e (sym (keeps-has s x n w f) ∙ g) ∙ ap (λ (k : Field). answer_at s (q + 1) n (opening k)) z) (turned-lower s (answer_at s (q + 1) n (opening Hash)) p (q + 1) r (omega arith) (y n w))

    pub first-value : (f ≡ Hash → ⊥) → ((n : Seen) → Shows s x n → (f ≡ Hash → ⊥) → TurnedAs s (answer_at s (q + 1) n (value f [])) (q + 1) r) → (n : Seen) → Shows s x n → TurnedAs s (named_at s p q n) p r
    first-value z y n w =
        turned-from s (named_at s p q n) p (answer_at s (q + 1) n (value f [])) r (named-first s p q n f l h e (sym (keeps-has s x n w f) ∙ g) ∙ ap (answer_at s (q + 1) n) (opens f z)) (turned-lower s (answer_at s (q + 1) n (value f [])) p (q + 1) r (omega arith) (y n w z))
      where
        opens : (k : Field) → (k ≡ Hash → ⊥) → opening k ≡ value k []
        opens Hash i = absurd (i refl)
        opens Name i = refl
        opens Address i = refl
        opens Other i = refl

-- ---- a hash

module _ (s : List ℕ) (p : ℕ) (x : Pass) where
  pub urn-broken : (k : ℕ) → k ≡ common (drop p s) (bytes "urn:btih:") → k < 9 → (n : Seen) → answer_at s p n (opening Hash) ≡ refused no.link (p + k)
  urn-broken k e h n = urn-off p n (drop p s) (bytes "urn:btih:") (omega (arith, e)) ∙ ap (λ (i : ℕ). refused no.link (p + i)) (sym e)

  module _ (i : 9 ≤ common (drop p s) (bytes "urn:btih:")) where
    e : common (drop p s) (bytes "urn:btih:") ≡ 9
    e = omega (arith, i, common-within (drop p s) (bytes "urn:btih:"))

    -- the word stands there
    lead : (n : Seen) → answer_at s p n (opening Hash) ≡ answer_at s (p + 9) n (digits 20 [])
    lead n =
        ap (λ (t : List ℕ). finish (fed (going p n (opening Hash)) t)) (common-there (drop p s) (bytes "urn:btih:") e ∙ ap (λ (t : List ℕ). bytes "urn:btih:" ++ t) (drop-drop 9 p s))
        ∙ ap finish (urn-run p n (bytes "urn:btih:") (drop (p + 9) s))

    pub lead-within : p + 9 ≤ length s
    lead-within =
        let t = common-there (drop p s) (bytes "urn:btih:") e in
        omega (arith, ap length t, length-append (bytes "urn:btih:") (drop 9 (drop p s)), length-drop p s)

    pub digits-broken : (k : ℕ) → k ≡ min 40 (runs is_hex (drop (p + 9) s)) → k < 40 → (n : Seen) → answer_at s p n (opening Hash) ≡ refused no.link (p + 9 + k)
    digits-broken k f h n =
        let g : runs is_hex (drop (p + 9) s) ≡ k = omega arith in
        lead n ∙ hash-off (p + 9) n 20 [] (drop (p + 9) s) (omega arith) ∙ ap (λ (i : ℕ). refused no.link (p + 9 + i)) g

    module _ (h : 40 ≤ runs is_hex (drop (p + 9) s)) where
      all : Leads (drop (p + 9) s) 20
      all = hash-there 20 (drop (p + 9) s) (omega arith)

      pub hash-within : p + 49 ≤ length s
      hash-within = omega (arith, lead-within, ap length all.there, length-append all.text all.rest, all.double, length-drop (p + 9) s)

      -- it goes on after its digits
      hash-goes : (n : Seen) → answer_at s p n (opening Hash) ≡ answer_at s (p + 49) n (digits 0 all.hash)
      hash-goes n =
          let k : length all.hash + 0 ≡ 20 = omega (arith, all.whole) in
          let i : p + 9 + length all.text ≡ p + 49 = omega (arith, all.double) in
          let z : p + 9 + 40 ≡ p + 49 = omega arith in
          let d : all.rest ≡ drop (p + 49) s = sym (drop_at all.text all.rest 40 (omega (arith, all.double))) ∙ ap (drop 40) (sym all.there) ∙ drop-drop 40 (p + 9) s ∙ ap (λ (j : ℕ). drop j s) z in
          lead n ∙ ap (λ (t : List ℕ). finish (fed (going (p + 9) n (digits 20 [])) t)) all.there
          ∙ ap (λ (j : ℕ). finish (fed (going (p + 9) n (digits j [])) (all.text ++ all.rest))) (sym k)
          ∙ ap finish (hex-run (p + 9) n 0 [] all.rest all.hex)
          ∙ ap (λ (j : ℕ). finish (fed (going j n (digits 0 all.hash)) all.rest)) i
          ∙ ap (λ (t : List ℕ). finish (fed (going (p + 49) n (digits 0 all.hash)) t)) d

      pub hash-closed : (n : Seen) → Shows s x n → TurnedAs s (answer_at s p n (opening Hash)) p (closed_at s (p + 49) (kept Hash (record { from = p + 9; size = 20 }) x))
      hash-closed n w =
          let there : HashAt s (p + 9) all.hash = record { text = all.text; rest = all.rest; there = all.there; hex = all.hex; whole = all.whole } in
          turned-from s (answer_at s p n (opening Hash)) p (answer_at s (p + 49) n (digits 0 all.hash)) (closed_at s (p + 49) (kept Hash (record { from = p + 9; size = 20 }) x)) (hash-goes n)
          (closes s p (p + 49) n (with Hash all.hash n) (digits 0 all.hash) (kept Hash (record { from = p + 9; size = 20 }) x) (closing-hash n all.hash (p + 49) (get_or s (p + 49) 0))
          (keep-hash s x n w (p + 9) all.hash there) (omega arith) hash-within)

-- ---- another value

module _ (s : List ℕ) (p : ℕ) (x : Pass) (f : Field) where
  pub value-within : (q k : ℕ) → Valued s p (Ok (q, k)) → q ≤ length s
  value-within q k v = v.1.end

  pub value-closed : (q k : ℕ) → Valued s p (Ok (q, k)) → (n : Seen) → Shows s x n → (f ≡ Hash → ⊥) → TurnedAs s (answer_at s p n (value f [])) p (closed_at s q (kept f (record { from = p; size = k }) x))
  value-closed q k (bs, t, e, stops) n w g =
      turned-from s (answer_at s p n (value f [])) p (answer_at s q n (value f bs)) (closed_at s q (kept f (record { from = p; size = k }) x)) (spelt_run s t n f [])
      (closes-value (keep-value s x n w f p k bs g (spelt-at s t) e))
    where
      closes-value : Shows s (kept f (record { from = p; size = k }) x) (with f bs n) → TurnedAs s (answer_at s q n (value f bs)) p (closed_at s q (kept f (record { from = p; size = k }) x))
      closes-value y = less-or q (length s)
          (λ h. closes s p q n (with f bs n) (value f bs) (kept f (record { from = p; size = k }) x) (closing-value n f bs q (get_or s q 0) (stops h).0 (stops h).1) y (omega (arith, t.place)) (omega arith))
          (λ h. closes s p q n (with f bs n) (value f bs) (kept f (record { from = p; size = k }) x) (closing_end n f bs q (get_or s q 0) (get_or-eq_default s 0 h)) y (omega (arith, t.place)) t.end)

-- ---- the whole text

-- what the pass is at, before a name at p
pub record Passing (s : List ℕ) (x : Pass) (p : ℕ) : Type 0 where
  pub seen : Seen
  pub shows : Shows s x seen
  pub same : finish (fed begun s) ≡ answer_at s p seen (naming [])
  pub end : p ≤ length s

module _ (s : List ℕ) where
  pub prefix-broken : (k : ℕ) (r : Scanned) → r ≡ Err k → k ≡ common (drop 0 s) (bytes "magnet:?") → k < 8 → ScannedAs s r (finish (fed begun s))
  prefix-broken k r z e h =
      let f : finish (fed begun s) ≡ refused no.link k = prefix-off 0 unsaid s (bytes "magnet:?") (omega (arith, e)) ∙ ap (refused no.link) (omega (arith, e)) in
      subst (λ (t : Scanned). ScannedAs s t (finish (fed begun s))) (sym z) (subst (ScannedAs s (Err k)) (sym f) (unfound k))

  pub passing-start : (x : Pass) → x ≡ record { hash = None; name = None; address = None } → 8 ≤ common (drop 0 s) (bytes "magnet:?") → Passing s x 8
  passing-start x z i =
      let e : common s (bytes "magnet:?") ≡ 8 = omega (arith, i, common-within s (bytes "magnet:?")) in
      let t = common-there s (bytes "magnet:?") e in
      record {
        seen = unsaid;
        shows = subst (λ (y : Pass). Shows s y unsaid) (sym z) (record { hash = unheld; name = unheld; address = unheld });
        same = ap (λ (l : List ℕ). finish (fed begun l)) t ∙ ap finish (prefix-run 0 unsaid (bytes "magnet:?") (drop 8 s));
        end = omega (arith, ap length t, length-append (bytes "magnet:?") (drop 8 s));
      }

  module _ {x : Pass} {p : ℕ} (g : Passing s x p) where
    pub passing-more : (y : Pass) (q : ℕ) → TurnedAs s (answer_at s p g.seen (naming [])) p (Ok (y, Some q)) → Passing s y q
    passing-more y q (m, w, e, l, h) = record { seen = m; shows = w; same = g.same ∙ e; end = h }

    pub passing-further : (y : Pass) (q : ℕ) → TurnedAs s (answer_at s p g.seen (naming [])) p (Ok (y, Some q)) → (p < q) × (q ≤ length s)
    passing-further y q (m, w, e, l, h) = (l, h)

    pub passing-last : (y : Pass) (r : Scanned) → r ≡ whole_of y (length s) → TurnedAs s (answer_at s p g.seen (naming [])) p (Ok (y, None)) → ScannedAs s r (finish (fed begun s))
    passing-last y r z (m, w, e) = subst (λ (t : Scanned). ScannedAs s t (finish (fed begun s))) (sym z) (subst (ScannedAs s (whole_of y (length s))) (sym (g.same ∙ e)) (go y.hash m.hash w.hash))
      where
        go : (v : Option Spelt) (u : Said) → Holds (HashAt s) v u → ScannedAs s (found_by v y (length s)) (told (length s) u m)
        go v u unheld = unfound (length s)
        go v u (held h k bs i j) = found h y.name y.address (record { hash = bs; name = m.name; address = m.address }) i w.name w.address

    pub passing-broken : (q : ℕ) (r : Scanned) → r ≡ Err q → TurnedAs s (answer_at s p g.seen (naming [])) p (Err q) → ScannedAs s r (finish (fed begun s))
    passing-broken q r z e = subst (λ (t : Scanned). ScannedAs s t (finish (fed begun s))) (sym z) (subst (ScannedAs s (Err q)) (sym (g.same ∙ e)) (unfound q))
