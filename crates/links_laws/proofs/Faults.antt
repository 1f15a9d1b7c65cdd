-- What the reader refuses, by 19, is at the first fault of a text, and every fault is refused so. Assumes nothing.
use mathlib.Core.Path.{◌≡◌, refl, sym, ap, ◌∙◌, subst}
use mathlib.Core.Logic.{◌⊎◌, inl, inr}
use mathlib.Core.Bool.{true, false}
use mathlib.Core.List.{List, [], ◌∷◌, ◌++◌, append_assoc, append-nil, append_cancel_left}
use Prim.Native.Nat.{ℕ, zero, suc, ◌+◌, ◌-◌, ◌<◌}
use native.Mathlib.Omega.{arith}
use lib.ListN.{length, length-append}
use Rattle.refusal.specs.Texts.{bytes}
use Rattle.refusal.specs.Paper.{Outcome, taken, refused}
use Rattle.refusal.specs.Numbers as no
use Rattle.refusal.proofs.Cases.{cannot}
use Rattle.refusal.proofs.Outcomes.{not-refused, same-refusal}
use Rattle.bencode_walk.specs.Lookup.{same_key}
use Rattle.bencode_walk.proofs.Finding.{same_true}
use Rattle.links.specs.Link.{NameBytes, no_more, one_more, Said, absent, said, Meaning}
use Rattle.links_laws.specs.Form.{Pair, parted, values_of, AtMostOne, none, one, IsLink}
use Rattle.links_laws.specs.Causes.{Opens, Breaks, ended, Known, hash, name, address, Again, Fault, again, breaks, short}
use Rattle.links.specs.Reading.{field_of, Seen, unsaid, is_said, has, with, Mode, prefix, naming, urn, digits, half, value, percent, digit, State, going, stopped, prefixed, in_mode, fed, told, meant, finish, begun}
use Rattle.links.specs.declared.scan.Field.{Field}
use Rattle.links.specs.declared.scan.Field.TheVariants.{Hash, Name, Address, Other}
use Rattle.links.proofs.Running.{fed-append, prefix-run, name-run}
use Rattle.links_laws.proofs.Saying.{is_hash, is_name, is_address, kinds, Says, says-split, says-form, says-through}
use Rattle.links_laws.proofs.Reached.{Reached, reached}
use Rattle.links_laws.proofs.Exact.{ended-run, seen_in, link-says, link-sound, link-complete}
use Rattle.links_laws.proofs.Opening.{going-opens, stopped-shut, opens-going}
use Rattle.links_laws.proofs.Parting.{pairs_first}
use Rattle.links_laws.proofs.Stopping.{Stops, stopped-same, stop-point, stops-fed, stop-same, Twice, stop-kind}

-- ---- at the end of a text

-- where the reader stands after s, if it goes on
stands : (s : List ℕ) (p : ℕ) (n : Seen) (m : Mode) → fed begun s ≡ going p n m → Reached s (going p n m)
stands s p n m e = subst (Reached s) e (reached s)

meant-refused : (p : ℕ) (n : Seen) (a b : ℕ) → meant p n ≡ refused a b → (a ≡ no.link) × (b ≡ p)
meant-refused p n a b e = go n.hash e
  where
    go : (h : Said) → told p h n ≡ refused a b → (a ≡ no.link) × (b ≡ p)
    go absent f = let z = same-refusal f in (sym z.0, sym z.1)
    go (said h) f = not-refused f

end_refused : (p : ℕ) (n : Seen) (m : Mode) (a b : ℕ) → finish (going p n m) ≡ refused a b → (a ≡ no.link) × (b ≡ p)
unfolding finish
end_refused p n (prefix c w) a b e = let z = same-refusal e in (sym z.0, sym z.1)
end_refused p n (naming k) a b e = let z = same-refusal e in (sym z.0, sym z.1)
end_refused p n (urn c w) a b e = let z = same-refusal e in (sym z.0, sym z.1)
end_refused p n (digits zero h) a b e = meant-refused p (with Hash h n) a b e
end_refused p n (digits (suc k) h) a b e = let z = same-refusal e in (sym z.0, sym z.1)
end_refused p n (half k h x) a b e = let z = same-refusal e in (sym z.0, sym z.1)
end_refused p n (value f v) a b e = meant-refused p (with f v n) a b e
end_refused p n (percent f v) a b e = let z = same-refusal e in (sym z.0, sym z.1)
end_refused p n (digit f v x) a b e = let z = same-refusal e in (sym z.0, sym z.1)

-- ---- a name that comes once too often

some-said : {R : List ℕ → List ℕ → Type 0} {vs : List (List ℕ)} {a : Said} → AtMostOne R vs a → is_said a ≡ true → 0 < length vs
some-said none e = cannot false refl e
some-said (one v bs r) e = omega arith

said-some : {R : List ℕ → List ℕ → Type 0} {vs : List (List ℕ)} {a : Said} → AtMostOne R vs a → 0 < length vs → is_said a ≡ true
said-some none e = absurd (omega arith)
said-some (one v bs r) e = refl

module _ (ps : List Pair) (n : Seen) (a : Says unsaid ps n) where
  -- a name of which something is said is one of the three, and has a value
  known-before : (k : List ℕ) (f : Field) → field_of k ≡ f → has f n ≡ true → Known k × (0 < length (values_of k ps))
  known-before k Hash e h =
      let x : k ≡ bytes "xt" = same_true k (bytes "xt") ((kinds k).xt ∙ ap is_hash e) in
      rw x (hash, some-said (says-through ps unsaid n a).hash h)
  known-before k Name e h =
      let x : k ≡ bytes "dn" = same_true k (bytes "dn") ((kinds k).dn ∙ ap is_name e) in
      rw x (name, some-said (says-through ps unsaid n a).name h)
  known-before k Address e h =
      let x : k ≡ bytes "tr" = same_true k (bytes "tr") ((kinds k).tr ∙ ap is_address e) in
      rw x (address, some-said (says-through ps unsaid n a).address h)
  known-before k Other e h = cannot false refl h

  -- and the other way round
  before-known : (k : List ℕ) → Known k → 0 < length (values_of k ps) → NameBytes k × (has (field_of k) n ≡ true) × (0 < length k)
  unfolding field_of same_key
  before-known k hash l = (one_more 120 (116 ∷ []) refl (one_more 116 [] refl no_more), said-some (says-through ps unsaid n a).hash l, omega arith)
  before-known k name l = (one_more 100 (110 ∷ []) refl (one_more 110 [] refl no_more), said-some (says-through ps unsaid n a).name l, omega arith)
  before-known k address l = (one_more 116 (114 ∷ []) refl (one_more 114 [] refl no_more), said-some (says-through ps unsaid n a).address l, omega arith)

opens-less : (q r : List ℕ) → Opens (q ++ r) → Opens q
opens-less q r (t, (m, l)) = (r ++ t, (m, subst (λ (s : List ℕ). IsLink s m) (append_assoc q r t) l))

-- where the reader stops by a name
twice-again : (s q r : List ℕ) (b p : ℕ) (n : Seen) (m : Mode) (e : ℕ) → s ≡ q ++ (b ∷ r) → fed begun q ≡ going p n m → Twice p n m b e → Again s e
twice-again s q r b p n m e x f t =
    let k = t.name in
    let z = stands q p n (naming t.name) (f ∙ ap (going p n) t.mode) in
    let i = z.1.0 in
    let w = known-before i.pairs n i.says k (field_of k) refl t.before in
    let y : length q ≡ 8 + (length (ended i.pairs) + length k) = ap length i.text ∙ (let v = length-append (ended i.pairs) k in omega arith) in
    record {
      pairs = i.pairs;
      name = k;
      rest = r;
      text = x ∙ ap (λ (c : ℕ). q ++ (c ∷ r)) t.byte ∙ ap (λ (l : List ℕ). l ++ (61 ∷ r)) i.text ∙ ap (λ (l : List ℕ). bytes "magnet:?" ++ l) (append_assoc (ended i.pairs) k (61 ∷ r));
      place = omega (arith, t.place, z.0, y);
      form = says-form i.pairs unsaid n i.says;
      opens = opens-less (bytes "magnet:?" ++ ended i.pairs) k (subst Opens i.text (going-opens q p n m f));
      known = w.0;
      before = w.1;
    }

-- the other way round: there the reader stops, further on than the place that it gives
record Stays (s : List ℕ) (p : ℕ) : Type 0 where
  stop : Stops begun s p
  behind : p < length stop.bytes

named-twice : (p : ℕ) (n : Seen) (k : List ℕ) → 0 < length k → has (field_of k) n ≡ true → in_mode p n (naming k) 61 ≡ stopped (p - length k)
unfolding in_mode
named-twice p n [] l h = absurd (omega arith)
named-twice p n (c ∷ k) l h = rw h

module _ (s : List ℕ) (p : ℕ) (a : Again s p) where
  again-says : (n : Seen) × Says unsaid a.pairs n
  again-says =
      let o = a.opens in
      let m = o.1.0 in
      let l = o.1.1 in
      let x = pairs_first a.pairs l.pairs o.0 a.form l.form (append_cancel_left (bytes "magnet:?") (ended a.pairs ++ o.0) (parted l.pairs) l.text) in
      let y = says-split a.pairs x.0 unsaid (seen_in m) (subst (λ (ps : List Pair). Says unsaid ps (seen_in m)) x.1 (link-says ((bytes "magnet:?" ++ ended a.pairs) ++ o.0) m l)) in
      (y.0, y.1)

  again-there : (n : Seen) → NameBytes a.name → Says unsaid a.pairs n → (i : ℕ) × (fed begun (bytes "magnet:?" ++ (ended a.pairs ++ a.name)) ≡ going i n (naming a.name))
  unfolding fed
  again-there n b h =
      let x = ended-run (0 + length (bytes "magnet:?")) a.pairs unsaid n a.name h in (
        _,
        prefix-run 0 unsaid (bytes "magnet:?") (ended a.pairs ++ a.name)
            ∙ x.1
            ∙ ap (fed (going x.0 n (naming []))) (sym (append-nil a.name))
            ∙ name-run x.0 n [] [] b,
      )

  again-stops : Stays s p
  again-stops =
      let n = again-says.0 in
      let h = again-says.1 in
      let w = before-known a.pairs n h a.name a.known a.before in
      let x = again-there n w.0 h in
      let z = (stands (bytes "magnet:?" ++ (ended a.pairs ++ a.name)) x.0 n (naming a.name) x.1).0 in
      let v = length-append (ended a.pairs) a.name in
      let y : x.0 - length a.name ≡ p = omega (arith, a.place) in
      record {
        stop = record {
          bytes = bytes "magnet:?" ++ (ended a.pairs ++ a.name);
          byte = 61;
          rest = a.rest;
          text = a.text ∙ ap (λ (l : List ℕ). bytes "magnet:?" ++ l) (sym (append_assoc (ended a.pairs) a.name (61 ∷ a.rest)));
          place = x.0;
          seen = n;
          mode = naming a.name;
          before = x.1;
          stops = named-twice x.0 n a.name w.2 w.1 ∙ ap stopped y;
        };
        behind = omega (arith, a.place, w.2);
      }

-- ---- the laws

-- where it stops for another reason, no name comes once too often
not-again : (s : List ℕ) (e : ℕ) (w : Stops begun s e) → e ≡ w.place → (p : ℕ) → Again s p → ⊥
not-again s e w x p a =
    let c = again-stops s p a in
    let d = c.stop in
    let y : e ≡ p = stopped-same (sym (stops-fed begun s e w) ∙ stops-fed begun s p d) in
    let z = (stands w.bytes w.place w.seen w.mode w.before).0 in
    let q = stop-same begun w.bytes d.bytes w.rest d.rest w.byte d.byte w.place d.place w.seen d.seen w.mode d.mode e p (sym w.text ∙ d.text) w.before w.stops d.before d.stops in
    let l : length w.bytes ≡ length d.bytes = ap length q in
    let b = c.behind in
    omega arith

stop-fault : (s : List ℕ) (e : ℕ) → Stops begun s e → Fault s e
unfolding fed
stop-fault s e w = go (stop-kind w.place w.seen e w.mode w.byte w.stops)
  where
    go : (e ≡ w.place) ⊎ Twice w.place w.seen w.mode w.byte e → Fault s e
    go (inl x) =
        let z = (stands w.bytes w.place w.seen w.mode w.before).0 in
        subst (Fault s) (sym (x ∙ z)) (breaks w.bytes (record {
          byte = w.byte;
          rest = w.rest;
          text = w.text;
          opens = going-opens w.bytes w.place w.seen w.mode w.before;
          breaks = stopped-shut (w.bytes ++ (w.byte ∷ [])) e (fed-append begun w.bytes (w.byte ∷ []) ∙ ap (λ (st : State). fed st (w.byte ∷ [])) w.before ∙ w.stops);
        }) (not-again s e w x))
    go (inr t) = again e (twice-again s w.bytes w.rest w.byte w.place w.seen w.mode e w.text w.before t)

pub fault-sound : (s : List ℕ) (n p : ℕ) → finish (fed begun s) ≡ refused n p → (n ≡ no.link) × Fault s p
unfolding finish
fault-sound s n p e = go (fed begun s) refl e
  where
    go : (st : State) → fed begun s ≡ st → finish st ≡ refused n p → (n ≡ no.link) × Fault s p
    go (going i k m) f g =
        let x = end_refused i k m n p g in
        let z = (stands s i k m f).0 in
        (x.0, subst (Fault s) (sym (x.1 ∙ z)) (short (going-opens s i k m f) (λ o l. not-refused (sym (link-complete s o l) ∙ e))))
    go (stopped i) f g =
        let x = same-refusal g in
        (sym x.0, subst (Fault s) x.1 (stop-fault s i (stop-point s 0 unsaid (prefixed (bytes "magnet:?")) i f)))

stops-refused : (s : List ℕ) (p : ℕ) → Stops begun s p → finish (fed begun s) ≡ refused no.link p
unfolding finish
stops-refused s p w = ap finish (stops-fed begun s p w)

breaks-refused : (s q : List ℕ) → Breaks s q → ((p : ℕ) → Again s p → ⊥) → finish (fed begun s) ≡ refused no.link (length q)
unfolding fed
breaks-refused s q b h = go (opens-going q b.opens)
  where
    at : (i : ℕ) (k : Seen) (m : Mode) → fed begun q ≡ going i k m → (st : State) → in_mode i k m b.byte ≡ st → finish (fed begun s) ≡ refused no.link (length q)
    at i k m e (going j l o) f = absurd (b.breaks (going-opens (q ++ (b.byte ∷ [])) j l o (fed-append begun q (b.byte ∷ []) ∙ ap (λ (st : State). fed st (b.byte ∷ [])) e ∙ f)))
    at i k m e (stopped j) f = by (stop-kind i k j m b.byte f)
      where
        by : (j ≡ i) ⊎ Twice i k m b.byte j → finish (fed begun s) ≡ refused no.link (length q)
        by (inl x) =
            stops-refused s j (record {
              bytes = q;
              byte = b.byte;
              rest = b.rest;
              text = b.text;
              place = i;
              seen = k;
              mode = m;
              before = e;
              stops = f;
            }) ∙ ap (refused no.link) (x ∙ (stands q i k m e).0)
        by (inr t) = absurd (h j (twice-again s q b.rest b.byte i k m j b.text e t))

    go : (p : ℕ) × (n : Seen) × (m : Mode) × (fed begun q ≡ going p n m) → finish (fed begun s) ≡ refused no.link (length q)
    go (i, k, m, e) = at i k m e (in_mode i k m b.byte) refl

short-refused : (s : List ℕ) → Opens s → ((m : Meaning) → IsLink s m → ⊥) → finish (fed begun s) ≡ refused no.link (length s)
short-refused s o h = go (opens-going s o)
  where
    by : (i : ℕ) (k : Seen) (m : Mode) → fed begun s ≡ going i k m → (x : Outcome Meaning) → finish (going i k m) ≡ x → finish (fed begun s) ≡ refused no.link (length s)
    by i k m e (taken x) f = absurd (h x (link-sound s x (ap finish e ∙ f)))
    by i k m e (refused a b) f =
        let z = end_refused i k m a b f in
        ap finish e ∙ f ∙ ap (λ (c : ℕ). refused c b) z.0 ∙ ap (refused no.link) (z.1 ∙ (stands s i k m e).0)

    go : (p : ℕ) × (n : Seen) × (m : Mode) × (fed begun s ≡ going p n m) → finish (fed begun s) ≡ refused no.link (length s)
    go (i, k, m, e) = by i k m e (finish (going i k m)) refl

pub fault-complete : (s : List ℕ) (p : ℕ) → Fault s p → finish (fed begun s) ≡ refused no.link p
fault-complete s p (again e a) = stops-refused s e (again-stops s e a).stop
fault-complete s p (breaks q b h) = breaks-refused s q b h
fault-complete s p (short o h) = short-refused s o h
