-- Where a value stands, what the code goes through is what document 01's rules say of that value. Assumes nothing.
use Rattle.std.proofs.Common.{◌≡◌, refl, sym, ap, ◌∙◌, Bool, true, false, cond, List, [], ◌∷◌, ℕ, zero, suc, ◌+◌, ◌/◌, ◌%◌, ◌<◌, ◌≤◌, arith, eqb, length}
use Rattle.refusal.specs.Paper.{Outcome, taken, refused, refusal, map, then}
use Rattle.refusal.proofs.Cases.{no_way, by-test}
use Rattle.bencode_scalar.specs.Written.{in_range, key_lt}
use Rattle.bencode.specs.Value.{Value, Items, Entries, str, int, list, dict, none, item, count, encode, start, last}
use Rattle.bencode.specs.Decode.{decode}
use Rattle.bencode.specs.Answers.{check_of}
use Rattle.refusal.specs.declared.Refusal.{Refusal}
use Rattle.refusal.specs.declared.Part.{Part}
use Rattle.bencode.proofs.Complete.{encode-pos}
use Rattle.bencode.proofs.Exact.{taken_fine}
use Rattle.bencode_walk.specs.Walk.{Head, Hit, look_of, skip_of}
use Rattle.bencode_walk.specs.Stands.{Stands, StandItems, StandEntries}
use Rattle.bencode_walk.specs.Lookup.{Under, nothing, under, lookup}
use Rattle.bencode_walk.proofs.Standing.{room, fine-stands, skip-past, string-stands, integer-stands, list-stands, items-next, dictionary-stands, closes-none, closes-item}
use Rattle.bencode_walk.proofs.Limited.{unless-short}
use Rattle.bencode_walk.proofs.Finding.{Says, it-is, it-is-not, found-stands, place_of}
use Rattle.bencode_fields.specs.Looks.{string_of, natural_of, needed, sought_from, sought_after}
use Rattle.bencode_fields.specs.Values.{part_of, string_at, natural_at, dictionary_at, must}
use Rattle.bencode_fields.proofs.Standing.{begins, string-is, natural-is, dictionary-is}
use Rattle.bencode_fields.proofs.Seeking.{Left, all_left, seeks, asked, sought-next}
use Rattle.tracker.specs.Keys.{failure_reason, interval, peers, ip, peer_id, port}
use Rattle.tracker.specs.Entries.{PeerEntry, listed, PeerStep, id_length, id_of, past_peer, peer_by, listed_at, count_from}
use Rattle.tracker.specs.Reply.{failure, compact, listing, sixes, id_at, peer_in, peer_at, peers_from, peers_at, answered_in, reply_by, reply_in, reply_of, counted}
use Rattle.tracker.specs.Reading.{compact_of, peers_in, peers_of, answered_of, top_by, top_of, whole_of}
use Rattle.tracker.specs.declared.listed.Listed.{Listed}

-- three checks, and what is made of them
abbrev made : Outcome Part → Outcome Part → Outcome ℕ → Outcome Listed
made a b c = then a (λ id. then b (λ y. then c (λ n. taken (record { id = id; ip = y; port = n }))))

joined : (a b : Outcome Part) (c : Outcome ℕ) (k : Listed → Outcome PeerStep) (f : Listed → PeerStep) → ((x : Listed) → k x ≡ taken (f x))
    → then a (λ id. then b (λ y. then c (λ n. k (record { id = id; ip = y; port = n })))) ≡ map f (made a b c)
joined (refused m q) b c k f e = refl
joined (taken x) (refused m q) c k f e = refl
joined (taken x) (taken y) (refused m q) k f e = refl
joined (taken x) (taken y) (taken n) k f e = e (record { id = x; ip = y; port = n })

map-must : {A B : Type 0} (f : A → B) (d : ℕ) (u : Under) (g : ℕ → Value → Outcome A) → must d u (λ q v. map f (g q v)) ≡ map f (must d u g)
map-must f d nothing g = refl
map-must f d (under q v) g = refl

map-then : {A B C : Type 0} (f : B → C) (o : Outcome A) (g : A → Outcome B) → then o (λ x. map f (g x)) ≡ map f (then o g)
map-then f (taken x) g = refl
map-then f (refused n p) g = refl

map-map : {A B C : Type 0} (f : B → C) (g : A → B) (h : A → C) → ((x : A) → f (g x) ≡ h x) → (o : Outcome A) → map h o ≡ map f (map g o)
map-map f g h e (taken x) = sym (ap taken (e x))
map-map f g h e (refused n p) = refl

ip-id : key_lt ip peer_id ≡ true
unfolding key_lt
ip-id = refl

id-port : key_lt peer_id port ≡ true
unfolding key_lt
id-port = refl

reason-interval : key_lt failure_reason interval ≡ true
unfolding key_lt
reason-interval = refl

interval-peers : key_lt interval peers ≡ true
unfolding key_lt
interval-peers = refl

module _ (s : List ℕ) where
  id-is : (d q : ℕ) (v : Value) → Stands s d q v → id_of s q ≡ id_at q v
  id-is d q v t = ap (λ (o : Outcome Part). then o (id_length q)) (string-is s d q v t)

  -- the entries of a peer's dictionary, from its first key on
  peer-in : (e p : ℕ) (es : Entries) (next : ℕ) → e ≤ 32 → StandEntries s e (p + 1) start es → skip_of s p ≡ taken next
      → peer_by s p (p + 1) ≡ map (λ x. record { entry = listed x; next = next }) (peer_in p es)
  peer-in e p es next levels t past =
      let a = seeks s e (p + 1) es levels start ip (p + 1) (all_left s e (p + 1) es start t) refl in
      let b = seeks s e (p + 1) es levels (last ip) peer_id (place_of a.hit) a.next ip-id in
      let c = seeks s e (p + 1) es levels (last peer_id) port (place_of b.hit) b.next id-port in
      let x = sought-next s e (p + 1) es (sought_from s (p + 1) ip) a.hit a.seen peer_id b in
      let y = sought-next s e (p + 1) es (sought_after s (sought_from s (p + 1) ip) peer_id) b.hit x port c in
      let i = asked s e p (lookup (p + 1) es peer_id) (sought_after s (sought_from s (p + 1) ip) peer_id) b.hit x b.says (λ q v u. found-stands s e (p + 1) start es peer_id t q v u) (id_of s) id_at (id-is e) in
      let j = asked s e p (lookup (p + 1) es ip) (sought_from s (p + 1) ip) a.hit a.seen a.says (λ q v u. found-stands s e (p + 1) start es ip t q v u) (string_of s) string_at (λ q v u. string-is s e q v u) in
      let k = asked s e p (lookup (p + 1) es port) (sought_after s (sought_after s (sought_from s (p + 1) ip) peer_id) port) c.hit y c.says (λ q v u. found-stands s e (p + 1) start es port t q v u) (natural_of 65535 s) (natural_at 65535) (λ q v u. natural-is s e q 65535 (omega arith) v u) in
      joined (needed p (sought_after s (sought_from s (p + 1) ip) peer_id) (id_of s)) (needed p (sought_from s (p + 1) ip) (string_of s)) (needed p (sought_after s (sought_after s (sought_from s (p + 1) ip) peer_id) port) (natural_of 65535 s))
      (past_peer s p) (λ z. record { entry = listed z; next = next }) (λ z. ap (map (λ q. record { entry = listed z; next = q })) past)
      ∙ ap (λ (o : Outcome Part). map (λ z. record { entry = listed z; next = next }) (made o (needed p (sought_from s (p + 1) ip) (string_of s)) (needed p (sought_after s (sought_after s (sought_from s (p + 1) ip) peer_id) port) (natural_of 65535 s)))) i
      ∙ ap (λ (o : Outcome Part). map (λ z. record { entry = listed z; next = next }) (made (must p (lookup (p + 1) es peer_id) id_at) o (needed p (sought_after s (sought_after s (sought_from s (p + 1) ip) peer_id) port) (natural_of 65535 s)))) j
      ∙ ap (λ (o : Outcome ℕ). map (λ z. record { entry = listed z; next = next }) (made (must p (lookup (p + 1) es peer_id) id_at) (must p (lookup (p + 1) es ip) string_at) o)) k

  -- the peer whose dictionary stands at p
  pub peer-is : (d p : ℕ) → d ≤ 32 → (v : Value) → Stands s d p v → listed_at s p ≡ map (λ x. record { entry = listed x; next = p + length (encode v) }) (peer_at p v)
  unfolding listed_at
  peer-is d p levels (str bs) t = ap (λ (o : Outcome ℕ). then o (peer_by s p)) (dictionary-is s d p (str bs) t)
  peer-is d p levels (int z) t = ap (λ (o : Outcome ℕ). then o (peer_by s p)) (dictionary-is s d p (int z) t)
  peer-is d p levels (list vs) t = ap (λ (o : Outcome ℕ). then o (peer_by s p)) (dictionary-is s d p (list vs) t)
  peer-is d p levels (dict es) t =
      let k = (dictionary-stands s d p es t).1 in
      ap (λ (o : Outcome ℕ). then o (peer_by s p)) (dictionary-is s d p (dict es) t)
      ∙ peer-in k.0 p es (p + length (encode (dict es))) (omega (arith, k.1)) k.2 (skip-past s d p (dict es) levels t)

  none_inside : (d p : ℕ) → StandItems s d p none → p < length s
  unfolding encode
  none_inside d p t = omega (arith, room s p (101 ∷ []) t.rest t.inside t.text)

  count_by : (v : Value) (p : ℕ) (vs : Items) (g : ℕ → Outcome ℕ) → g (p + length (encode v)) ≡ map length (peers_from (p + length (encode v)) vs) → (o : Outcome Listed)
      → then (map (λ x. record { entry = listed x; next = p + length (encode v) }) o) (λ (x : PeerStep). map suc (g x.next))
      ≡ map length (then o (λ x. map (λ l. listed x ∷ l) (peers_from (p + length (encode v)) vs)))
  count_by v p vs g e (refused n q) = refl
  count_by v p vs g e (taken x) =
      ap (map suc) e
      ∙ sym (map-map suc length (λ l. suc (length l)) (λ (l : List PeerEntry). refl) (peers_from (p + length (encode v)) vs))
      ∙ map-map length (λ l. listed x ∷ l) (λ l. suc (length l)) (λ (l : List PeerEntry). refl) (peers_from (p + length (encode v)) vs)

  pub count-is : (d : ℕ) → d ≤ 32 → (vs : Items) (f p : ℕ) → StandItems s d p vs → length s < p + f → count_from f s p ≡ map length (peers_from p vs)
  unfolding count_from peers_from
  count-is d levels none zero p t h = absurd (omega (arith, none_inside d p t))
  count-is d levels none (suc f) p t h = rw (closes-none s d p t)
  count-is d levels (item v vs) zero p t h = absurd (omega (arith, t.inside))
  count-is d levels (item v vs) (suc f) p t h =
      let i = items-next s d p v vs t in
      ap (λ (b : Bool). cond b (taken 0) (then (listed_at s p) (λ x. map suc (count_from f s x.next)))) (closes-item s d p v vs t)
      ∙ ap (λ (o : Outcome PeerStep). then o (λ x. map suc (count_from f s x.next))) (peer-is d p levels v i.0)
      ∙ count_by v p vs (λ q. count_from f s q) (count-is d levels vs f (p + length (encode v)) i.1 (omega (arith, encode-pos v))) (peer_at p v)

pub sixes-length : (bs : List ℕ) → length (sixes bs) ≡ length bs / 6
unfolding sixes
sixes-length [] = refl
sixes-length (a ∷ []) = refl
sixes-length (a ∷ b ∷ []) = refl
sixes-length (a ∷ b ∷ c ∷ []) = refl
sixes-length (a ∷ b ∷ c ∷ d ∷ []) = refl
sixes-length (a ∷ b ∷ c ∷ d ∷ e ∷ []) = refl
sixes-length (a ∷ b ∷ c ∷ d ∷ e ∷ f ∷ more) = omega (arith, sixes-length more)

module _ (s : List ℕ) (e : ℕ) (levels : e ≤ 32) where
  looked : {A : Type 0} (f : Head → Outcome A) (p : ℕ) {h : Head} → look_of s p ≡ taken h → then (look_of s p) f ≡ f h
  looked f p g = ap (λ (o : Outcome Head). then o f) g

  compact-is : (n p a : ℕ) (bs : List ℕ) (t : Bool) → cond t (taken (compact n a (length bs / 6))) (refused 15 p) ≡ map counted (cond t (taken (compact n a (sixes bs))) (refused 15 p))
  compact-is n p a bs true = ap (λ (k : ℕ). taken (compact n a k)) (sym (sixes-length bs))
  compact-is n p a bs false = refl

  -- the peers that stand at p
  pub peers-is : (n p : ℕ) (v : Value) → Stands s e p v → peers_of s n p ≡ map counted (peers_at n p v)
  peers-is n p (str bs) t =
      let b = string-stands s e p bs t in
      looked (peers_in s n p) p b.seen ∙ ap (λ (a : ℕ). compact_of n p a (length bs)) (begins s e p bs b) ∙ compact-is n p (part_of p bs).from bs (eqb (length bs % 6) 0)
  peers-is n p (int z) t = looked (peers_in s n p) p (integer-stands s e p z t) ∙ by-test (λ (h : Head). peers_in s n p h ≡ refused 10 p) (in_range z) (λ i. refl) (λ o. refl)
  peers-is n p (list vs) t =
      let l = list-stands s e p vs t in
      looked (peers_in s n p) p l.0
      ∙ ap (map (listing n (p + 1))) (sym (unless-short s (count_from (suc (length s)) s (p + 1)) t.short) ∙ count-is s l.1.0 (omega (arith, l.1.1)) vs (suc (length s)) (p + 1) l.1.2 (omega arith))
      ∙ sym (map-map (listing n (p + 1)) length (λ k. listing n (p + 1) (length k)) (λ (k : List PeerEntry). refl) (peers_from (p + 1) vs))
      ∙ map-map counted (listing n (p + 1)) (λ k. listing n (p + 1) (length k)) (λ (k : List PeerEntry). refl) (peers_from (p + 1) vs)
  peers-is n p (dict es) t = looked (peers_in s n p) p (dictionary-stands s e p es t).0

  module _ (es : Entries) (t : StandEntries s e 1 start es) where
    answered-is : (p : ℕ) → Left s e 1 es (last failure_reason) p → answered_of s p ≡ map counted (answered_in es)
    answered-is p l =
        let a = seeks s e 1 es levels (last failure_reason) interval p l reason-interval in
        let b = seeks s e 1 es levels (last interval) peers (place_of a.hit) a.next interval-peers in
        let x = sought-next s e 1 es (sought_from s p interval) a.hit a.seen peers b in
        let i = asked s e 0 (lookup 1 es interval) (sought_from s p interval) a.hit a.seen a.says (λ q v u. found-stands s e 1 start es interval t q v u) (natural_of 2147483647 s) (natural_at 2147483647) (λ q v u. natural-is s e q 2147483647 (omega arith) v u) in
        let j : (n : ℕ) → needed 0 (sought_after s (sought_from s p interval) peers) (peers_of s n) ≡ map counted (must 0 (lookup 1 es peers) (peers_at n)) = λ n.
        asked s e 0 (lookup 1 es peers) (sought_after s (sought_from s p interval) peers) b.hit x b.says (λ q v u. found-stands s e 1 start es peers t q v u) (peers_of s n) (λ q v. map counted (peers_at n q v)) (λ q v u. peers-is n q v u)
        ∙ map-must counted 0 (lookup 1 es peers) (peers_at n) in
        ap (λ (o : Outcome ℕ). then o (λ n. needed 0 (sought_after s (sought_from s p interval) peers) (peers_of s n))) i
        ∙ same_then (must 0 (lookup 1 es interval) (natural_at 2147483647)) j
      where
        same_then : (o : Outcome ℕ) → ((n : ℕ) → needed 0 (sought_after s (sought_from s p interval) peers) (peers_of s n) ≡ map counted (must 0 (lookup 1 es peers) (peers_at n)))
            → then o (λ n. needed 0 (sought_after s (sought_from s p interval) peers) (peers_of s n)) ≡ map counted (then o (λ n. must 0 (lookup 1 es peers) (peers_at n)))
        same_then (taken n) k = k n
        same_then (refused n q) k = refl

    top-by : (u : Under) (h : Hit) → Says u h → ((q : ℕ) (v : Value) → u ≡ under q v → Stands s e q v) → Left s e 1 es (last failure_reason) (place_of h) → top_by s h ≡ map counted (reply_by es u)
    top-by u h (it-is p q v) f l =
        ap (map failure) (string-is s e q v (f q v refl)) ∙ map-map counted failure failure (λ (x : Part). refl) (string_at q v)
    top-by u h (it-is-not p) f l = answered-is p l

    pub top-is : top_of s 1 ≡ map counted (reply_in es)
    top-is =
        let a = seeks s e 1 es levels start failure_reason 1 (all_left s e 1 es start t) refl in
        ap (λ (o : Outcome Hit). then o (top_by s)) a.seen ∙ top-by (lookup 1 es failure_reason) a.hit a.says (λ q v u. found-stands s e 1 start es failure_reason t q v u) a.next

-- the whole text, where v stands at 0
pub whole_is : (s : List ℕ) (v : Value) → Stands s 32 0 v → whole_of s ≡ map counted (then (dictionary_at 0 v) reply_in)
whole_is s (str bs) t = ap (λ (o : Outcome ℕ). then o (top_of s)) (dictionary-is s 32 0 (str bs) t)
whole_is s (int z) t = ap (λ (o : Outcome ℕ). then o (top_of s)) (dictionary-is s 32 0 (int z) t)
whole_is s (list vs) t = ap (λ (o : Outcome ℕ). then o (top_of s)) (dictionary-is s 32 0 (list vs) t)
whole_is s (dict es) t =
    let k = (dictionary-stands s 32 0 es t).1 in
    ap (λ (o : Outcome ℕ). then o (top_of s)) (dictionary-is s 32 0 (dict es) t) ∙ top-is s k.0 (omega (arith, k.1)) es k.2

module _ (s : List ℕ) where
  whole_by : (n : ℕ) (o : Outcome Value) → decode s ≡ o → taken n ≡ map count o → whole_of s ≡ map counted (then o (λ v. then (dictionary_at 0 v) reply_in))
  whole_by n (taken v) d e = whole_is s v (fine-stands s v (taken_fine s v d))
  whole_by n (refused m p) d e = no_way (cc)

  -- a text that is taken as bencode
  pub read_whole : (n : ℕ) → taken n ≡ check_of s → whole_of s ≡ map counted (reply_of s)
  unfolding reply_of
  read_whole n e = whole_by n (decode s) refl e

  refused-by : (r : Refusal) (o : Outcome Value) → refusal r ≡ map count o → refusal r ≡ map counted (then o (λ v. then (dictionary_at 0 v) reply_in))
  refused-by r (taken v) e = no_way (cc)
  refused-by r (refused m p) e = let f : r.number ≡ m = cc in let g : r.place ≡ p = cc in rw (f, g)

  -- and one that is not
  pub read-refused : (r : Refusal) → refusal r ≡ check_of s → refusal r ≡ map counted (reply_of s)
  unfolding reply_of
  read-refused r e = refused-by r (decode s) e
