-- The entries of a reply can be walked, and asked for by number. Assumes nothing.
use Rattle.refusal.proofs.Cases.{no_way}
use Rattle.std.proofs.Common.{Result, ◌≡◌, refl, sym, ap, ◌∙◌, subst, Bool, true, false, cond, List, [], ◌∷◌, ◌++◌, append_assoc, ℕ, zero, suc, ◌+◌, ◌*◌, ◌%◌, ◌≤◌, arith, ltb, leb, eqb, length, get_or, drop, length-append, get_or-drop, lt-ltb, le-ltb, ltb-true, ltb-false}
use Rattle.refusal.specs.declared.Refusal.{Refusal}
use Rattle.refusal.specs.Paper.{Outcome, taken, refused, map, then}
use Rattle.refusal.specs.Limits.{most_text}
use Rattle.refusal.specs.declared.Part.{Part}
use Rattle.bencode_scalar.specs.Written.{decimal}
use Rattle.bencode.specs.Value.{Value, Items, Entries, str, int, list, dict, none, item, encode, start}
use Rattle.bencode.specs.Decode.{decode}
use Rattle.bencode.proofs.Exact.{taken_fine}
use Rattle.bencode_walk.specs.Stands.{Stands, StandItems, StandEntries}
use Rattle.bencode_walk.specs.Lookup.{Under, nothing, under, lookup}
use Rattle.bencode_walk.proofs.Standing.{past, room, fine-stands, list-stands, items-next, dictionary-stands}
use Rattle.bencode_walk.proofs.Finding.{found-stands}
use Rattle.bencode_fields.specs.Values.{part_of, string_at, natural_at, dictionary_at, must}
use Rattle.tracker.specs.Keys.{failure_reason, interval, peers}
use Rattle.tracker.specs.Entries.{PeerEntry, packed, listed, PeerStep, packed_of, six_at, packed_at, listed_at, nth_at}
use Rattle.tracker.specs.Reply.{Answer, failure, compact, listing, sixes, peer_at, peers_from, peers_at, reply_by, reply_in, reply_of, counted, nth_of}
use Rattle.bencode_fields.specs.Nth.{nth}
use Rattle.tracker.specs.Reading.{reply_paper, entry_at}
use Rattle.tracker.specs.Walks.{Walks, ends, goes, Walked}
use Rattle.tracker.specs.declared.Reply.{Reply}
use Rattle.tracker.specs.declared.listed.Listed.{Listed}
use Rattle.tracker.proofs.Steps.{packed-whole, listed-skips}
use Rattle.tracker.proofs.Agreeing.{peer-is}

-- six bytes and more stand at p
module _ (s : List ℕ) (p a b c d e f : ℕ) (l : List ℕ) (t : drop p s ≡ a ∷ b ∷ c ∷ d ∷ e ∷ f ∷ l) where
  byte_at : (i : ℕ) → get_or s (p + i) 0 ≡ get_or (a ∷ b ∷ c ∷ d ∷ e ∷ f ∷ l) i 0
  byte_at i = sym (get_or-drop p s i 0) ∙ ap (λ (m : List ℕ). get_or m i 0) t

  first-byte-at : get_or s p 0 ≡ a
  first-byte-at = let z : p ≡ p + 0 = omega arith in ap (λ (i : ℕ). get_or s i 0) z ∙ byte_at 0

  six-there : six_at s p ≡ packed_of a b c d e f
  six-there = rw (first-byte-at, byte_at 1, byte_at 2, byte_at 3, byte_at 4, byte_at 5)

pub packed-walks : (s bs rest : List ℕ) → length s ≤ most_text → (p : ℕ) → p ≤ length s → drop p s ≡ bs ++ rest → Walks (packed_at s) p (sixes bs)
unfolding sixes
packed-walks s [] rest l p h t = ends p
packed-walks s (a ∷ []) rest l p h t = ends p
packed-walks s (a ∷ b ∷ []) rest l p h t = ends p
packed-walks s (a ∷ b ∷ c ∷ []) rest l p h t = ends p
packed-walks s (a ∷ b ∷ c ∷ d ∷ []) rest l p h t = ends p
packed-walks s (a ∷ b ∷ c ∷ d ∷ e ∷ []) rest l p h t = ends p
packed-walks s (a ∷ b ∷ c ∷ d ∷ e ∷ f ∷ more) rest l p h t =
    let r = room s p (a ∷ b ∷ c ∷ d ∷ e ∷ f ∷ []) (more ++ rest) h t in
    goes p (packed (packed_of a b c d e f)) (p + 6) (sixes more)
    (sym (packed-whole s p l r) ∙ ap (λ x. taken (record { entry = packed x; next = p + 6 })) (six-there s p a b c d e f (more ++ rest) t))
    (packed-walks s more rest l (p + 6) r (past s p (a ∷ b ∷ c ∷ d ∷ e ∷ f ∷ []) (more ++ rest) t))

module _ (s : List ℕ) (d : ℕ) (levels : d ≤ 32) where
  walks_more : (p : ℕ) (v : Value) (l : List PeerEntry) (o : Outcome Listed) (m : Outcome (List PeerEntry)) → listed_at s p ≡ map (λ x. record { entry = listed x; next = p + length (encode v) }) o
      → ((k : List PeerEntry) → m ≡ taken k → Walks (listed_at s) (p + length (encode v)) k) → then o (λ x. map (λ k. listed x ∷ k) m) ≡ taken l → Walks (listed_at s) p l
  walks_more p v l (refused n q) m e more t = no_way (cc)
  walks_more p v l (taken x) (refused n q) e more t = no_way (cc)
  walks_more p v l (taken x) (taken k) e more t =
      let w = goes p (listed x) (p + length (encode v)) k e (more k refl) in
      let z : listed x ∷ k ≡ l = cc in
      subst (Walks (listed_at s) p) z w

  pub listed-walks : (vs : Items) (p : ℕ) (l : List PeerEntry) → StandItems s d p vs → peers_from p vs ≡ taken l → Walks (listed_at s) p l
  unfolding peers_from
  listed-walks none p l t e = let z : ◌≡◌ {A = List PeerEntry} [] l = cc in subst (Walks (listed_at s) p) z (ends p)
  listed-walks (item v vs) p l t e =
      let i = items-next s d p v vs t in
      walks_more p v l (peer_at p v) (peers_from (p + length (encode v)) vs) (peer-is s d p levels v i.0) (λ k g. listed-walks vs (p + length (encode v)) k i.1 g) e

-- entry number n of a walk
ltb-suc : (n m : ℕ) → ltb (suc n) (suc m) ≡ ltb n m
ltb-suc n m = go (ltb n m) refl
  where
    go : (b : Bool) → ltb n m ≡ b → ltb (suc n) (suc m) ≡ b
    go true e = let h = ltb-true n m e in lt-ltb (suc n) (suc m) (omega arith)
    go false e = let h = ltb-false n m e in le-ltb (suc n) (suc m) (omega arith)

packed-next : (s : List ℕ) (p : ℕ) (x : PeerEntry) (q : ℕ) → packed_at s p ≡ taken (record { entry = x; next = q }) → q ≡ p + 6
unfolding packed_at
packed-next s p x q e = by (ltb most_text (length s)) e
  where
    go : (b : Bool) → cond {A = Outcome PeerStep} b (taken (record { entry = packed (six_at s p); next = p + 6 })) (refused 1 (length s)) ≡ taken (record { entry = x; next = q }) → q ≡ p + 6
    go true f = let g : ◌≡◌ {A = PeerStep} (record { entry = packed (six_at s p); next = p + 6 }) (record { entry = x; next = q }) = cc in sym (ap (λ (z : PeerStep). z.next) g)
    go false f = no_way (cc)

    by : (b : Bool) → cond {A = Outcome PeerStep} b (refused 8 0) (cond (leb (p + 6) (length s)) (taken (record { entry = packed (six_at s p); next = p + 6 })) (refused 1 (length s))) ≡ taken (record { entry = x; next = q }) → q ≡ p + 6
    by true f = no_way (cc)
    by false f = go (leb (p + 6) (length s)) f

pub packed-nth : (s : List ℕ) (p : ℕ) (l : List PeerEntry) → Walks (packed_at s) p l → (n : ℕ) → cond (ltb n (length l)) (map (λ x. x.entry) (packed_at s (p + n * 6))) (refused 31 0) ≡ nth n l
unfolding nth
packed-nth s p l (ends q) n = rw (le-ltb n 0 (omega arith))
packed-nth s p l (goes q x r m e w) zero =
    let z : q + 0 * 6 ≡ q = omega arith in
    let y : packed_at s (q + 0 * 6) ≡ taken (record { entry = x; next = r }) = ap (packed_at s) z ∙ e in
    ap (λ o. cond (ltb 0 (suc (length m))) (map (λ (i : PeerStep). i.entry) o) (refused 31 0)) y ∙ rw (lt-ltb 0 (suc (length m)) (omega arith))
packed-nth s p l (goes q x r m e w) (suc n) =
    let k = packed-next s q x r e in
    let z : q + suc n * 6 ≡ r + n * 6 = omega arith in
    ap (λ (i : ℕ). cond (ltb (suc n) (suc (length m))) (map (λ (j : PeerStep). j.entry) (packed_at s i)) (refused 31 0)) z
    ∙ ap (λ (t : Bool). cond t (map (λ (j : PeerStep). j.entry) (packed_at s (r + n * 6))) (refused 31 0)) (ltb-suc n (length m))
    ∙ packed-nth s r m w n

pub listed_nth : (s : List ℕ) (p : ℕ) (l : List PeerEntry) → Walks (listed_at s) p l → (n : ℕ) → cond (ltb n (length l)) (map (λ x. x.entry) (nth_at n s p)) (refused 31 0) ≡ nth n l
unfolding nth nth_at
listed_nth s p l (ends q) n = rw (le-ltb n 0 (omega arith))
listed_nth s p l (goes q x r m e w) zero = rw (lt-ltb 0 (suc (length m)) (omega arith), e)
listed_nth s p l (goes q x r m e w) (suc n) =
    ap (λ (o : Outcome ℕ). cond (ltb (suc n) (suc (length m))) (map (λ (j : PeerStep). j.entry) (then o (λ i. nth_at n s i))) (refused 31 0)) (listed-skips s q (record { entry = x; next = r }) e)
    ∙ ap (λ (t : Bool). cond t (map (λ (j : PeerStep). j.entry) (nth_at n s r)) (refused 31 0)) (ltb-suc n (length m))
    ∙ listed_nth s r m w n

-- what is taken can be walked
module _ (s : List ℕ) where
  abbrev Fit : Outcome (Answer (List PeerEntry)) → Type 0
  Fit (taken x) = Walked s x
  Fit (refused n p) = Unit

  fit-failure : (o : Outcome Part) → Fit (map failure o)
  fit-failure (taken x) = tt
  fit-failure (refused n p) = tt

  fit_then : (o : Outcome ℕ) (g : ℕ → Outcome (Answer (List PeerEntry))) → ((n : ℕ) → Fit (g n)) → Fit (then o g)
  fit_then (taken n) g h = h n
  fit_then (refused n p) g h = tt

  fit-must : (u : Under) (g : ℕ → Value → Outcome (Answer (List PeerEntry))) → ((q : ℕ) (v : Value) → u ≡ under q v → Fit (g q v)) → Fit (must 0 u g)
  fit-must nothing g h = tt
  fit-must (under q v) g h = h q v refl

  fit-cond : (t : Bool) (x : Answer (List PeerEntry)) (p : ℕ) → Walked s x → Fit (cond t (taken x) (refused 15 p))
  fit-cond true x p h = h
  fit-cond false x p h = tt

  fit-list : (n p : ℕ) (o : Outcome (List PeerEntry)) → ((l : List PeerEntry) → o ≡ taken l → Walks (listed_at s) p l) → Fit (map (listing n p) o)
  fit-list n p (taken l) h = h l refl
  fit-list n p (refused m q) h = tt

  fit-peers : (e : ℕ) → e ≤ 32 → (n p : ℕ) (v : Value) → Stands s e p v → Fit (peers_at n p v)
  unfolding encode
  fit-peers e levels n p (str bs) t =
      let k = length-append (decimal (length bs)) (58 ∷ []) in
      let g : drop p s ≡ (decimal (length bs) ++ 58 ∷ []) ++ (bs ++ t.rest) = t.text ∙ append_assoc (decimal (length bs)) (58 ∷ bs) t.rest ∙ sym (append_assoc (decimal (length bs)) (58 ∷ []) (bs ++ t.rest)) in
      let r = room s p (decimal (length bs) ++ 58 ∷ []) (bs ++ t.rest) t.inside g in
      let z : p + length (decimal (length bs) ++ 58 ∷ []) ≡ (part_of p bs).from = omega arith in
      fit-cond (eqb (length bs % 6) 0) (compact n (part_of p bs).from (sixes bs)) p
      (packed-walks s bs t.rest t.short (part_of p bs).from (omega (arith, r, z)) (ap (λ (i : ℕ). drop i s) (sym z) ∙ past s p (decimal (length bs) ++ 58 ∷ []) (bs ++ t.rest) g))
  fit-peers e levels n p (int z) t = tt
  fit-peers e levels n p (list vs) t =
      let l = (list-stands s e p vs t).1 in
      fit-list n (p + 1) (peers_from (p + 1) vs) (λ k g. listed-walks s l.0 (omega (arith, l.1)) vs (p + 1) k l.2 g)
  fit-peers e levels n p (dict es) t = tt

  fit-by : (e : ℕ) → e ≤ 32 → (es : Entries) → StandEntries s e 1 start es → (u : Under) → Fit (reply_by es u)
  fit-by e levels es t nothing =
      fit_then (must 0 (lookup 1 es interval) (natural_at 2147483647)) (λ n. must 0 (lookup 1 es peers) (peers_at n))
      (λ n. fit-must (lookup 1 es peers) (peers_at n) (λ q v u. fit-peers e levels n q v (found-stands s e 1 start es peers t q v u)))
  fit-by e levels es t (under p v) = fit-failure (string_at p v)

  fit-value : (v : Value) → Stands s 32 0 v → Fit (then (dictionary_at 0 v) reply_in)
  fit-value (str bs) t = tt
  fit-value (int z) t = tt
  fit-value (list vs) t = tt
  fit-value (dict es) t = let k = (dictionary-stands s 32 0 es t).1 in fit-by k.0 (omega (arith, k.1)) es k.2 (lookup 1 es failure_reason)

  fit-text : (o : Outcome Value) → decode s ≡ o → Fit (then o (λ v. then (dictionary_at 0 v) reply_in))
  fit-text (taken v) e = fit-value v (fine-stands s v (taken_fine s v e))
  fit-text (refused n p) e = tt

  fit : Fit (reply_of s)
  unfolding reply_of
  fit = fit-text (decode s) refl

  -- from the place of the first entry on, the entries of a reply come in order
  pub walked : (x : Answer (List PeerEntry)) → reply_of s ≡ taken x → Walked s x
  walked x e = subst Fit e fit

  nth-by : (n : ℕ) (o : Outcome (Answer (List PeerEntry))) → Fit o → then (map counted o) (entry_at s n) ≡ then o (nth_of n)
  nth-by n (taken (failure p)) h = refl
  nth-by n (taken (compact i p l)) h = packed-nth s p l h n
  nth-by n (taken (listing i p l)) h = listed_nth s p l h n
  nth-by n (refused m p) h = refl

  -- an entry by its number, as the code goes on from the reply r, known to be w
  pub peer-by : (n : ℕ) {r w : Result Reply Refusal} → reply_paper r ≡ map counted (reply_of s) → r ≡ w → then (reply_paper w) (entry_at s n) ≡ then (reply_of s) (nth_of n)
  peer-by n e g = ap (λ (x : Result Reply Refusal). then (reply_paper x) (entry_at s n)) (sym g) ∙ ap (λ (o : Outcome (Answer ℕ)). then o (entry_at s n)) e ∙ nth-by n (reply_of s) fit
