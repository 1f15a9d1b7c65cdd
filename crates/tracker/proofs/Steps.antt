-- What the code goes through, step by step: an answer that was taken apart, an entry of a list, the loops. Assumes nothing.
use Rattle.std.proofs.Common.{Err, Ok, ◌≡◌, refl, sym, ap, ◌∙◌, true, false, cond, List, ℕ, zero, suc, min, ◌+◌, ◌*◌, ◌-◌, ◌<◌, ◌≤◌, arith, ltb, eqb, length, get_or, take, drop, length-drop, drop_of_length-le, drop-cons, le-leb, eq-eqb, ne_eqb, lt-ltb, le-ltb}
use Rattle.std.proofs.Math.Seq.{take-length}
use Rattle.std.proofs.lemmas.Bool.{lt-leb}
use Rattle.std.proofs.lemmas.List.{get_or-drop}
use Rattle.refusal.specs.Paper.{paper, Outcome, taken, refused, refusal, map, then}
use Rattle.refusal.proofs.Outcomes.{then-taken, map-taken}
use Rattle.refusal.specs.Limits.{most_text}
use Rattle.refusal.specs.declared.Refusal.{Refusal}
use Rattle.refusal.specs.declared.Part.{Part}
use Rattle.bencode_walk.proofs.Seeking.{skip-further}
use Rattle.bencode_walk.proofs.Limited.{unless-long}
use Rattle.bencode_walk.proofs.Seeing.{look-out}
use Rattle.bencode_fields.proofs.Seeking.{sought-limited, after-limited, needed-limited}
use Rattle.bencode.specs.Decode.{closes, unless_long}
use Rattle.bencode_walk.specs.Walk.{Head, Hit, skip_of}
use Rattle.bencode_fields.specs.Looks.{string_of, natural_of, dictionary_of, dictionary_in, needed, sought_from, sought_after}
use Rattle.tracker.specs.Keys.{interval, peers, ip, peer_id, port}
use Rattle.tracker.specs.Entries.{PeerEntry, packed, listed, PeerStep, id_of, six_at, packed_at, past_peer, peer_by, listed_paper, listed_at, count_from, nth_at}
use Rattle.tracker.specs.Reading.{reply_paper, peers_of, answered_of, entry_at}
use Rattle.tracker.specs.declared.Peers.{Peers}
use Rattle.tracker.specs.declared.Reply.{Reply}
use Rattle.tracker.specs.declared.Reply.TheVariants.{Failure, Compact, List as Listing}
use Rattle.tracker.specs.declared.listed.Listed.{Listed}

-- the continuation of each check of a peer
abbrev pub after_port : List ℕ → ℕ → Part → Part → ℕ → Outcome PeerStep
after_port s p id a n = past_peer s p (record { id = id; ip = a; port = n })

abbrev pub after_ip : List ℕ → ℕ → Outcome Hit → Part → Part → Outcome PeerStep
after_ip s p ports id a = then (needed p ports (natural_of 65535 s)) (after_port s p id a)

abbrev pub after_id : List ℕ → ℕ → Outcome Hit → Outcome Hit → Part → Outcome PeerStep
after_id s p ips ports id = then (needed p ips (string_of s)) (after_ip s p ports id)

-- six bytes that are there, or not
module _ (s : List ℕ) (p : ℕ) where
  pub packed-long : most_text < length s → refused 8 0 ≡ packed_at s p
  unfolding packed_at
  packed-long h = unless-long s _ h

  pub packed-whole : length s ≤ most_text → p + 6 ≤ length s → taken (record { entry = packed (six_at s p); next = p + 6 }) ≡ packed_at s p
  unfolding packed_at
  packed-whole l h = rw (le-ltb most_text (length s) l, le-leb (p + 6) (length s) h)

  pub packed-cut : length s ≤ most_text → length s < p + 6 → refused 1 (length s) ≡ packed_at s p
  unfolding packed_at
  packed-cut l h = rw (le-ltb most_text (length s) l, lt-leb (p + 6) (length s) h)

  -- from any place past the end on it is the same
  pub packed-past : (q : ℕ) → length s < p + 6 → length s < q + 6 → packed_at s p ≡ packed_at s q
  unfolding packed_at
  packed-past q h k = rw (lt-leb (p + 6) (length s) h, lt-leb (q + 6) (length s) k)

-- what is left of a text from a place on, where the place may be past its end
pub drop-whole : (s : List ℕ) (p : ℕ) → take (length s - p) (drop p s) ≡ drop p s
drop-whole s p = ap (λ (n : ℕ). take n (drop p s)) (sym (length-drop p s)) ∙ take-length (drop p s)

module _ (s : List ℕ) (p m : ℕ) (e : m ≡ min p (length s)) (l : length s ≤ most_text) where
  abbrev rest : List ℕ
  rest = take (length s - m) (drop m s)

  rest-long : length rest ≡ length s - m
  rest-long = ap length (drop-whole s m) ∙ length-drop m s

  pub rest-cut : length rest < 6 → refused 1 (length s) ≡ packed_at s p
  rest-cut h = packed-cut s p l (omega (arith, rest-long))

  rest-at : (i : ℕ) → 6 ≤ length rest → get_or rest i 0 ≡ get_or s (p + i) 0
  rest-at i h = let k : m ≡ p = omega (arith, rest-long) in ap (λ (r : List ℕ). get_or r i 0) (drop-whole s m) ∙ get_or-drop m s i 0 ∙ ap (λ (j : ℕ). get_or s (j + i) 0) k

  pub rest-whole : (x : ℕ) → 6 ≤ length rest → x ≡ get_or rest 4 0 * 256 + get_or rest 5 0
      → taken (record { entry = packed (record { address = record { 0 = get_or rest 0 0; 1 = get_or rest 1 0; 2 = get_or rest 2 0; 3 = get_or rest 3 0 }; port = x }); next = p + 6 }) ≡ packed_at s p
  rest-whole x h f =
      let z : p + 0 ≡ p = omega arith in
      let first : get_or rest 0 0 ≡ get_or s p 0 = rest-at 0 h ∙ ap (λ (j : ℕ). get_or s j 0) z in
      rw (f, first, rest-at 1 h, rest-at 2 h, rest-at 3 h, rest-at 4 h, rest-at 5 h) (packed-whole s p l (omega (arith, rest-long)))

-- the place past a peer that was read: further on, and within the text
pub listed-skips : (s : List ℕ) (p : ℕ) (x : PeerStep) → listed_at s p ≡ taken x → skip_of s p ≡ taken x.next
unfolding listed_at
listed-skips s p x e =
    let a = then-taken (dictionary_of s p) (peer_by s p) x e in
    let b = then-taken (needed p (sought_after s (sought_from s a.0 ip) peer_id) (id_of s)) (after_id s p (sought_from s a.0 ip) (sought_after s (sought_after s (sought_from s a.0 ip) peer_id) port)) x a.2 in
    let c = then-taken (needed p (sought_from s a.0 ip) (string_of s)) (after_ip s p (sought_after s (sought_after s (sought_from s a.0 ip) peer_id) port) b.0) x b.2 in
    let d = then-taken (needed p (sought_after s (sought_after s (sought_from s a.0 ip) peer_id) port) (natural_of 65535 s)) (after_port s p b.0 c.0) x c.2 in
    let e = map-taken (λ q. record { entry = listed (record { id = b.0; ip = c.0; port = d.0 }); next = q }) (skip_of s p) x d.2 in
    e.1 ∙ ap (λ (y : PeerStep). taken y.next) e.2

-- where the text is at its end there is no entry
nothing-listed : (s : List ℕ) (p : ℕ) → length s ≤ most_text → length s ≤ p → listed_at s p ≡ refused 1 (length s)
unfolding listed_at
nothing-listed s p l h = ap (λ (o : Outcome Head). then (then o (dictionary_in p)) (peer_by s p)) (sym (look-out s p l h))

closes_at : (s : List ℕ) (p : ℕ) → p < length s → closes (drop p s) ≡ eqb (get_or s p 0) 101
closes_at s p h = ap closes (drop-cons s p 0 h)

closes-none : (s : List ℕ) (p : ℕ) → length s ≤ p → closes (drop p s) ≡ false
closes-none s p h = ap closes (drop_of_length-le s h)

-- n entries are counted, and the rest is still to come
pub record Counting (s : List ℕ) (first at n : ℕ) : Type 0 where
  pub left : ℕ
  pub enough : length s < at + left
  pub few : n ≤ at
  pub same : map (λ k. n + k) (count_from left s at) ≡ count_from (suc (length s)) s first

map-none : (o : Outcome ℕ) → map (λ k. 0 + k) o ≡ o
map-none (taken k) = let e : 0 + k ≡ k = omega arith in ap taken e
map-none (refused n p) = refl

map_more : (n : ℕ) (o : Outcome ℕ) → map (λ k. n + 1 + k) o ≡ map (λ k. n + k) (map suc o)
map_more n (taken k) = let e : n + 1 + k ≡ n + suc k = omega arith in ap taken e
map_more n (refused m p) = refl

pub counting-start : (s : List ℕ) (first : ℕ) → Counting s first first 0
counting-start s first = record { left = suc (length s); enough = omega arith; few = omega arith; same = map-none (count_from (suc (length s)) s first) }

module _ (s : List ℕ) (first at n : ℕ) where
  count-close : (f : ℕ) → map (λ k. n + k) (count_from f s at) ≡ count_from (suc (length s)) s first → length s < at + f → at < length s → get_or s at 0 ≡ 101 → taken n ≡ count_from (suc (length s)) s first
  unfolding count_from
  count-close zero e h l b = absurd (omega arith)
  count-close (suc f) e h l b =
      let c : closes (drop at s) ≡ true = closes_at s at l ∙ eq-eqb (get_or s at 0) 101 b in
      let z : n ≡ n + 0 = omega arith in
      ap taken z ∙ (rw c at e)

  pub counting-close : Counting s first at n → at < length s → get_or s at 0 ≡ 101 → taken n ≡ count_from (suc (length s)) s first
  counting-close c l b = count-close c.left c.same c.enough l b

  count-bad : (f : ℕ) (r : Refusal) → map (λ k. n + k) (count_from f s at) ≡ count_from (suc (length s)) s first → length s < at + f → closes (drop at s) ≡ false → at < length s → listed_at s at ≡ refusal r → refusal r ≡ count_from (suc (length s)) s first
  unfolding count_from
  count-bad zero r e h c l b = absurd (omega arith)
  count-bad (suc f) r e h c l b = rw (c, b) at e

  pub counting-bad : Counting s first at n → (r : Refusal) → at < length s → (get_or s at 0 ≡ 101 → ⊥) → listed_paper (Err r) ≡ listed_at s at → refusal r ≡ count_from (suc (length s)) s first
  counting-bad c r l b e = count-bad c.left r c.same c.enough (closes_at s at l ∙ ne_eqb (get_or s at 0) 101 b) l (sym e)

  count-out : (f : ℕ) → map (λ k. n + k) (count_from f s at) ≡ count_from (suc (length s)) s first → length s ≤ most_text → length s ≤ at → refused 1 (length s) ≡ count_from (suc (length s)) s first
  unfolding count_from
  count-out zero e h l = e
  count-out (suc f) e h l = rw (closes-none s at l, nothing-listed s at h l) at e

  pub counting-out : Counting s first at n → length s ≤ most_text → length s ≤ at → refused 1 (length s) ≡ count_from (suc (length s)) s first
  counting-out c h l = count-out c.left c.same h l

  count-more : (f : ℕ) (x : Listed) (q : ℕ) → map (λ k. n + k) (count_from f s at) ≡ count_from (suc (length s)) s first → length s < at + f → n ≤ at → at < length s → closes (drop at s) ≡ false → listed_at s at ≡ taken (record { entry = listed x; next = q }) → Counting s first q (n + 1)
  unfolding count_from
  count-more zero x q e h w l c b = absurd (omega arith)
  count-more (suc f) x q e h w l c b =
      let g = skip-further s at q (listed-skips s at (record { entry = listed x; next = q }) b) in
      record { left = f; enough = omega (arith, g.0); few = omega (arith, g.0); same = map_more n (count_from f s q) ∙ (rw (c, b) at e) }

  pub counting_more : Counting s first at n → (x : Listed) (q : ℕ) → at < length s → (get_or s at 0 ≡ 101 → ⊥) → listed_paper (Ok (x, q)) ≡ listed_at s at → Counting s first q (n + 1)
  counting_more c x q l b e = count-more c.left x q c.same c.enough c.few l (closes_at s at l ∙ ne_eqb (get_or s at 0) 101 b) (sym e)

  pub listed-further : (x : Listed) (q : ℕ) → listed_paper (Ok (x, q)) ≡ listed_at s at → (at < q) × (q ≤ length s)
  listed-further x q e = skip-further s at q (listed-skips s at (record { entry = listed x; next = q }) (sym e))

-- one entry passed over, on the way to number n
module _ (s : List ℕ) (at : ℕ) where
  pub nth-more : (left q : ℕ) → 0 < left → paper (Ok q) ≡ skip_of s at → nth_at (left - 1) s q ≡ nth_at left s at
  unfolding nth_at
  nth-more zero q h e = absurd (omega arith)
  nth-more (suc left) q h e = let z : suc left - 1 ≡ left = omega arith in rw (z, ← e)

  pub nth-bad : (left : ℕ) (r : Refusal) → 0 < left → paper (Err r) ≡ skip_of s at → refusal r ≡ nth_at left s at
  unfolding nth_at
  nth-bad zero r h e = absurd (omega arith)
  nth-bad (suc left) r h e = rw (← e)

  pub nth_here : (left : ℕ) → left ≤ 0 → listed_at s at ≡ nth_at left s at
  unfolding nth_at
  nth_here zero h = refl
  nth_here (suc left) h = absurd (omega arith)

-- a peer id that is refused. The test of the text's length in the search for it says nothing more than the search for ip
pub no-id : (s : List ℕ) (p first : ℕ) (ips ids : Outcome Hit) {r : Refusal} → ips ≡ sought_from s first ip → ids ≡ unless_long s (sought_after s ips peer_id)
    → refusal r ≡ needed p ids (id_of s) → refusal r ≡ peer_by s p first
no-id s p first ips ids a b e =
    let c : ids ≡ sought_after s (sought_from s first ip) peer_id = b ∙ sym (after-limited s ips (sought-limited s ips first ip a) peer_id) ∙ ap (λ (o : Outcome Hit). sought_after s o peer_id) a in
    ap (λ (o : Outcome Part). then o (after_id s p (sought_from s first ip) (sought_after s (sought_after s (sought_from s first ip) peer_id) port))) (e ∙ ap (λ (o : Outcome Hit). needed p o (id_of s)) c)

-- an entry's number against how many there are
module _ (x : Outcome PeerEntry) (count n : ℕ) where
  pub in_count : n < count → x ≡ cond (ltb n count) x (refused 31 0)
  in_count h = rw (lt-ltb n count h)

  pub no-count : count ≤ n → refused 31 0 ≡ cond (ltb n count) x (refused 31 0)
  no-count h = rw (le-ltb n count h)

-- a failure reason has no entries
pub no-entry : (s : List ℕ) (n : ℕ) (x : Reply) → ((p : Peers) → x ≡ Compact p → ⊥) → ((p : Peers) → x ≡ Listing p → ⊥) → refused 31 0 ≡ then (reply_paper (Ok x)) (entry_at s n)
no-entry s n (Failure p) f g = refl
no-entry s n (Compact p) f g = absurd (f p refl)
no-entry s n (Listing p) f g = absurd (g p refl)

-- an interval that is refused
pub no-interval : (s : List ℕ) (at : ℕ) (i : Outcome Hit) {r : Refusal} → i ≡ sought_from s at interval → refusal r ≡ unless_long s (needed 0 i (natural_of 2147483647 s)) → refusal r ≡ answered_of s at
no-interval s at i a e =
    ap (λ (o : Outcome ℕ). then o (λ n. needed 0 (sought_after s (sought_from s at interval) peers) (peers_of s n)))
    (e ∙ sym (needed-limited s i (sought-limited s i at interval a) 0 (natural_of 2147483647 s)) ∙ ap (λ (o : Outcome Hit). needed 0 o (natural_of 2147483647 s)) a)
