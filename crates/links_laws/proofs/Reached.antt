-- Where the reader stands after bytes: which of them are whole pairs, what these say, and what is there of the next pair. Assumes nothing.
use mathlib.Core.Path.{◌≡◌, refl, sym, ap, ◌∙◌, subst}
use mathlib.Core.Bool.{true, false}
use mathlib.Core.List.{List, [], ◌∷◌, ◌++◌, append_assoc, append-nil}
use Prim.Native.Nat.{ℕ, zero, suc, ◌+◌, ◌*◌, ◌<◌}
use native.Mathlib.Omega.{arith}
use borrow.Author.Tests.{eqb-true}
use lib.Dec.{eqb}
use lib.ListN.{length, length-append}
use Rattle.refusal.specs.Texts.{bytes}
use Rattle.refusal.proofs.Cases.{by-test, cannot}
use Rattle.bencode_walk.specs.Lookup.{same_key}
use Rattle.bencode_walk.proofs.Finding.{same_true}
use Rattle.links.specs.Link.{name_byte, plain_byte, Hex, HexText, no_byte, a_byte, Spells, nothing, plain, escape, NameBytes, no_more, one_more}
use Rattle.links_laws.specs.Form.{Pair, pair_text}
use Rattle.links_laws.specs.Causes.{ended}
use Rattle.links.specs.Reading.{nibble, is_hex, field_of, Seen, unsaid, has, with, Mode, prefix, naming, urn, digits, half, value, percent, digit, State, going, stopped, prefixed, urned, opening, valued, in_mode, fed, begun}
use Rattle.links.specs.declared.scan.Field.{Field}
use Rattle.links.specs.declared.scan.Field.TheVariants.{Hash, Name, Address, Other}
use Rattle.links.proofs.Digits.{nibble-hex}
use Rattle.links.proofs.Running.{fed-stopped}
use Rattle.links_laws.proofs.Saying.{is_hash, kinds, Gives, Adds, Says, says-more, ended-more}
use Rattle.links.proofs.Spelling.{spells-join}

-- ---- texts

-- after whole pairs, the text of a part of the next
pub record In (q : List ℕ) (n : Seen) (part : List ℕ) : Type 0 where
  pub pairs : List Pair
  pub text : q ≡ bytes "magnet:?" ++ (ended pairs ++ part)
  pub says : Says unsaid pairs n

text-more : (q : List ℕ) (ps : List Pair) (t : List ℕ) (b : ℕ) → q ≡ bytes "magnet:?" ++ (ended ps ++ t) → q ++ (b ∷ []) ≡ bytes "magnet:?" ++ (ended ps ++ (t ++ (b ∷ [])))
text-more q ps t b e = ap (λ (l : List ℕ). l ++ (b ∷ [])) e ∙ ap (λ (l : List ℕ). bytes "magnet:?" ++ l) (append_assoc (ended ps) t (b ∷ []))

in-more : (q : List ℕ) (n : Seen) (t : List ℕ) (b : ℕ) → In q n t → In (q ++ (b ∷ [])) n (t ++ (b ∷ []))
in-more q n t b i = record { pairs = i.pairs; text = text-more q i.pairs t b i.text; says = i.says }

in-as : (q : List ℕ) (n : Seen) {t u : List ℕ} → t ≡ u → In q n t → In q n u
in-as q n e i = subst (λ (l : List ℕ). In q n l) e i

-- a pair that is whole at its "&"
in-closed : (q : List ℕ) (n : Seen) (x : Pair) (bs : List ℕ) → In q n (pair_text x) → Adds n x bs → In (q ++ (38 ∷ [])) (with (field_of x.name) bs n) []
in-closed q n x bs i a = record {
  pairs = i.pairs ++ (x ∷ []);
  text = text-more q i.pairs (pair_text x) 38 i.text ∙ ap (λ (l : List ℕ). bytes "magnet:?" ++ l) (sym (ended-more i.pairs x) ∙ sym (append-nil (ended (i.pairs ++ (x ∷ [])))));
  says = says-more i.pairs unsaid n x bs i.says a;
}

names-join : {k : List ℕ} (j : List ℕ) → NameBytes k → NameBytes j → NameBytes (k ++ j)
names-join j no_more h = h
names-join j (one_more b k e g) h = one_more b (k ++ j) e (names-join j g h)

hex-join : {w v : List ℕ} (u x : List ℕ) → HexText w v → HexText u x → HexText (w ++ u) (v ++ x)
hex-join u x no_byte t = t
hex-join u x (a_byte h l y z w bs i j s) t = a_byte h l y z (w ++ u) (bs ++ x) i j (hex-join u x s t)

-- ---- the pair of a hash, and others

abbrev pub pair : List ℕ → List ℕ → Pair
pair k v = record { name = k; value = v }

abbrev pub hash_pair : List ℕ → Pair
hash_pair d = pair (bytes "xt") (bytes "urn:btih:" ++ d)

pub hash-adds : (n : Seen) (d h : List ℕ) → HexText d h → length h ≡ 20 → has Hash n ≡ false → Adds n (hash_pair d) h
unfolding field_of same_key
hash-adds n d h t e f = record {
  some = omega arith;
  name = one_more 120 (116 ∷ []) refl (one_more 116 [] refl no_more);
  value = record { digits = d; text = refl; hex = t; whole = e };
  fresh = f;
}

-- the name of a pair of which there was none before, and that is not of a hash
pub record Named (n : Seen) (j : List ℕ) (f : Field) : Type 0 where
  pub some : 0 < length j
  pub name : NameBytes j
  pub field : field_of j ≡ f
  pub other : is_hash f ≡ false
  pub fresh : has f n ≡ false

gives-spelt : (f : Field) (v bs : List ℕ) → is_hash f ≡ false → Spells v bs → Gives f v bs
gives-spelt Hash v bs e s = cannot true e refl
gives-spelt Name v bs e s = s
gives-spelt Address v bs e s = s
gives-spelt Other v bs e s = s

pub value-adds : (n : Seen) (j : List ℕ) (f : Field) (w v : List ℕ) → Named n j f → Spells w v → Adds n (pair j w) v
value-adds n j f w v h s = record {
  some = h.some;
  name = h.name;
  value = subst (λ (g : Field). Gives g w v) (sym h.field) (gives-spelt f w v h.other s);
  fresh = ap (λ (g : Field). has g n) h.field ∙ h.fresh;
}

-- ---- where the reader stands

abbrev pub Spot : List ℕ → Seen → Mode → Type 0
Spot q n (prefix c w) = (q ++ (c ∷ w) ≡ bytes "magnet:?") × (n ≡ unsaid)
Spot q n (naming k) = In q n k × NameBytes k
Spot q n (urn c w) = (v : List ℕ) × In q n (bytes "xt=" ++ v) × (v ++ (c ∷ w) ≡ bytes "urn:btih:") × (has Hash n ≡ false)
Spot q n (digits k h) = (d : List ℕ) × In q n (bytes "xt=urn:btih:" ++ d) × HexText d h × (k + length h ≡ 20) × (has Hash n ≡ false)
Spot q n (half k h x) = (d : List ℕ) × (c : ℕ) × In q n (bytes "xt=urn:btih:" ++ (d ++ (c ∷ []))) × HexText d h × Hex c x × (suc k + length h ≡ 20) × (has Hash n ≡ false)
Spot q n (value f v) = (j : List ℕ) × (w : List ℕ) × In q n (j ++ (61 ∷ w)) × Named n j f × Spells w v
Spot q n (percent f v) = (j : List ℕ) × (w : List ℕ) × In q n (j ++ (61 ∷ (w ++ (37 ∷ [])))) × Named n j f × Spells w v
Spot q n (digit f v x) = (j : List ℕ) × (w : List ℕ) × (c : ℕ) × In q n (j ++ (61 ∷ (w ++ (37 ∷ c ∷ [])))) × Named n j f × Spells w v × Hex c x

abbrev pub Reached : List ℕ → State → Type 0
Reached q (going p n m) = (p ≡ length q) × Spot q n m
Reached q (stopped p) = Unit {0}

-- ---- one byte more

module _ (q : List ℕ) (p : ℕ) (n : Seen) (a : p ≡ length q) where
  on : (b : ℕ) → p + 1 ≡ length (q ++ (b ∷ []))
  on b = omega (arith, length-append q (b ∷ []))

  -- in "magnet:?"
  in-prefix : (c : ℕ) (w : List ℕ) → q ++ (c ∷ w) ≡ bytes "magnet:?" → n ≡ unsaid → Spot (q ++ (c ∷ [])) n (prefixed w)
  unfolding ended
  in-prefix c [] e u = (record { pairs = []; text = e; says = sym u }, no_more)
  in-prefix c (d ∷ w) e u = (append_assoc q (c ∷ []) (d ∷ w) ∙ e, u)

  -- a name's "="
  at_value : (k : List ℕ) → 0 < length k → In q n k → NameBytes k → (f : Field) → field_of k ≡ f → has f n ≡ false → Spot (q ++ (61 ∷ [])) n (opening f)
  at_value k l i h Hash e g =
      let x : k ≡ bytes "xt" = same_true k (bytes "xt") ((kinds k).xt ∙ ap is_hash e) in
      ([], in-as (q ++ (61 ∷ [])) n (ap (λ (j : List ℕ). j ++ (61 ∷ [])) x) (in-more q n k 61 i), refl, g)
  at_value k l i h Name e g = (k, [], in-more q n k 61 i, record { some = l; name = h; field = e; other = refl; fresh = g }, nothing)
  at_value k l i h Address e g = (k, [], in-more q n k 61 i, record { some = l; name = h; field = e; other = refl; fresh = g }, nothing)
  at_value k l i h Other e g = (k, [], in-more q n k 61 i, record { some = l; name = h; field = e; other = refl; fresh = g }, nothing)

  at-equals : (k : List ℕ) → In q n k → NameBytes k → Reached (q ++ (61 ∷ [])) (valued p n k)
  at-equals [] i h = tt
  at-equals (c ∷ k) i h = by-test (Reached (q ++ (61 ∷ []))) (has (field_of (c ∷ k)) n) (λ t. tt) (λ t. (on 61, at_value (c ∷ k) (omega arith) i h (field_of (c ∷ k)) refl t))

  -- in "urn:btih:"
  in-urn : (v : List ℕ) (c : ℕ) (w : List ℕ) → In q n (bytes "xt=" ++ v) → v ++ (c ∷ w) ≡ bytes "urn:btih:" → has Hash n ≡ false → Spot (q ++ (c ∷ [])) n (urned w)
  in-urn v c [] i e h = ([], in-as (q ++ (c ∷ [])) n (ap (λ (l : List ℕ). bytes "xt=" ++ l) e) (in-more q n (bytes "xt=" ++ v) c i), no_byte, refl, h)
  in-urn v c (d ∷ w) i e h = (v ++ (c ∷ []), in-more q n (bytes "xt=" ++ v) c i, append_assoc v (c ∷ []) (d ∷ w) ∙ e, h)

  -- a pair's "&"
  at-hash-end : (d h : List ℕ) → In q n (bytes "xt=urn:btih:" ++ d) → HexText d h → length h ≡ 20 → has Hash n ≡ false → Spot (q ++ (38 ∷ [])) (with Hash h n) (naming [])
  unfolding field_of same_key
  at-hash-end d h i t e f = (in-closed q n (hash_pair d) h i (hash-adds n d h t e f), no_more)

  at-value-end : (j : List ℕ) (f : Field) (w v : List ℕ) → In q n (j ++ (61 ∷ w)) → Named n j f → Spells w v → Spot (q ++ (38 ∷ [])) (with f v n) (naming [])
  at-value-end j f w v i h s = (subst (λ (g : Field). In (q ++ (38 ∷ [])) (with g v n) []) h.field (in-closed q n (pair j w) v i (value-adds n j f w v h s)), no_more)

  -- in a hash and in a value
  at-half : (k : ℕ) (d h : List ℕ) (c x b y : ℕ) → In q n (bytes "xt=urn:btih:" ++ (d ++ (c ∷ []))) → HexText d h → Hex c x → Hex b y → suc k + length h ≡ 20 → has Hash n ≡ false
      → Spot (q ++ (b ∷ [])) n (digits k (h ++ ((16 * x + y) ∷ [])))
  at-half k d h c x b y i t g j e f = (
    d ++ (c ∷ b ∷ []),
    in-as (q ++ (b ∷ [])) n (ap (λ (l : List ℕ). bytes "xt=urn:btih:" ++ l) (append_assoc d (c ∷ []) (b ∷ []))) (in-more q n (bytes "xt=urn:btih:" ++ (d ++ (c ∷ []))) b i),
    hex-join (c ∷ b ∷ []) ((16 * x + y) ∷ []) t (a_byte c b x y [] [] g j no_byte),
    omega (arith, length-append h ((16 * x + y) ∷ [])),
    f,
  )

  in-value : (j w : List ℕ) (b : ℕ) → In q n (j ++ (61 ∷ w)) → In (q ++ (b ∷ [])) n (j ++ (61 ∷ (w ++ (b ∷ []))))
  in-value j w b i = in-as (q ++ (b ∷ [])) n (append_assoc j (61 ∷ w) (b ∷ [])) (in-more q n (j ++ (61 ∷ w)) b i)

  in-escape : (j w u : List ℕ) (b : ℕ) → In q n (j ++ (61 ∷ (w ++ u))) → In (q ++ (b ∷ [])) n (j ++ (61 ∷ (w ++ (u ++ (b ∷ [])))))
  in-escape j w u b i = in-as (q ++ (b ∷ [])) n (ap (λ (l : List ℕ). j ++ (61 ∷ l)) (append_assoc w u (b ∷ []))) (in-value j (w ++ u) b i)

  -- a byte that is known
  it-is : (b c : ℕ) (st : State) → eqb b c ≡ true → Reached (q ++ (c ∷ [])) st → Reached (q ++ (b ∷ [])) st
  it-is b c st e h = subst (λ (d : ℕ). Reached (q ++ (d ∷ [])) st) (sym (eqb-true b c e)) h

  reached-more : (m : Mode) (b : ℕ) → Spot q n m → Reached (q ++ (b ∷ [])) (in_mode p n m b)
  unfolding in_mode
  reached-more (prefix c w) b (e, u) = by-test (Reached (q ++ (b ∷ []))) (eqb b c) (λ t. it-is b c (going (p + 1) n (prefixed w)) t (on c, in-prefix c w e u)) (λ t. tt)
  reached-more (naming k) b (i, h) =
      by-test (Reached (q ++ (b ∷ []))) (name_byte b) (λ t. (on b, (in-more q n k b i, names-join (b ∷ []) h (one_more b [] t no_more))))
      (λ s. by-test (Reached (q ++ (b ∷ []))) (eqb b 61) (λ t. it-is b 61 (valued p n k) t (at-equals k i h)) (λ t. tt))
  reached-more (urn c w) b (v, i, e, h) = by-test (Reached (q ++ (b ∷ []))) (eqb b c) (λ t. it-is b c (going (p + 1) n (urned w)) t (on c, in-urn v c w i e h)) (λ t. tt)
  reached-more (digits zero h) b (d, i, t, e, f) =
      by-test (Reached (q ++ (b ∷ []))) (eqb b 38) (λ u. it-is b 38 (going (p + 1) (with Hash h n) (naming [])) u (on 38, at-hash-end d h i t (omega arith) f)) (λ u. tt)
  reached-more (digits (suc k) h) b (d, i, t, e, f) =
      by-test (Reached (q ++ (b ∷ []))) (is_hex b) (λ u. (on b, (d, b, in-more q n (bytes "xt=urn:btih:" ++ d) b i, t, nibble-hex b u, e, f))) (λ u. tt)
  reached-more (half k h x) b (d, c, i, t, g, e, f) =
      by-test (Reached (q ++ (b ∷ []))) (is_hex b) (λ u. (on b, at-half k d h c x b (nibble b) i t g (nibble-hex b u) e f)) (λ u. tt)
  reached-more (value f v) b (j, w, i, h, s) =
      by-test (Reached (q ++ (b ∷ []))) (plain_byte b) (λ t. (on b, (j, w ++ (b ∷ []), in-value j w b i, h, spells-join (b ∷ []) (b ∷ []) s (plain b [] [] t nothing))))
      (λ y. by-test (Reached (q ++ (b ∷ []))) (eqb b 37) (λ t. it-is b 37 (going (p + 1) n (percent f v)) t (on 37, (j, w, in-value j w 37 i, h, s)))
      (λ z. by-test (Reached (q ++ (b ∷ []))) (eqb b 38) (λ t. it-is b 38 (going (p + 1) (with f v n) (naming [])) t (on 38, at-value-end j f w v i h s)) (λ t. tt)))
  reached-more (percent f v) b (j, w, i, h, s) =
      by-test (Reached (q ++ (b ∷ []))) (is_hex b) (λ u. (on b, (j, w, b, in-escape j w (37 ∷ []) b i, h, s, nibble-hex b u))) (λ u. tt)
  reached-more (digit f v x) b (j, w, c, i, h, s, g) =
      by-test (Reached (q ++ (b ∷ []))) (is_hex b)
      (λ u. (on b, (j, w ++ (37 ∷ c ∷ b ∷ []), in-escape j w (37 ∷ c ∷ []) b i, h, spells-join (37 ∷ c ∷ b ∷ []) ((16 * x + nibble b) ∷ []) s (escape c b x (nibble b) [] [] g (nibble-hex b u) nothing))))
      (λ u. tt)

-- ---- any bytes

reached-from : (q s : List ℕ) (st : State) → Reached q st → Reached (q ++ s) (fed st s)
unfolding fed
reached-from q [] st r = rw (append-nil q) r
reached-from q (b ∷ s) (going p n m) (a, r) = subst (λ (l : List ℕ). Reached l (fed (in_mode p n m b) s)) (append_assoc q (b ∷ []) s) (reached-from (q ++ (b ∷ [])) s (in_mode p n m b) (reached-more q p n a m b r))
reached-from q (b ∷ s) (stopped p) r = rw (fed-stopped p s) tt

pub reached : (s : List ℕ) → Reached s (fed begun s)
reached s = reached-from [] s begun (refl, (refl, refl))
