-- The checks of a reply, both ways: what is taken is a reply that says so, every such reply is taken, and a refusal has its cause. Assumes nothing.
use Rattle.std.proofs.Common.{◌≡◌, refl, sym, ◌∙◌, subst, ◌⊎◌, inl, inr, [], List, ◌∷◌, ℕ, ◌+◌, ◌%◌, ◌≤◌, arith, eqb, pos, length, eq-eqb, eqb-true}
use Rattle.refusal.specs.Paper.{refused, then}
use Rattle.refusal.proofs.Cases.{no_way}
use Rattle.bencode.specs.Value.{Value, Items, Entries, str, int, list, dict, none, item, encode, start}
use Rattle.bencode_walk.specs.Has.{Has}
use Rattle.bencode_walk.specs.Stands.{Stands, StandItems, StandEntries}
use Rattle.bencode_walk.specs.Lookup.{Under, nothing, under, lookup}
use Rattle.bencode_walk.proofs.Standing.{list-stands, items-next, dictionary-stands}
use Rattle.bencode_walk.proofs.Finding.{found-stands}
use Rattle.bencode_walk.proofs.Having.{found-has, has-found, none_has}
use Rattle.bencode_fields.specs.Values.{part_of, dictionary_at, must}
use Rattle.bencode_fields.specs.Causes.{Lacks, Other, other, NoString, NoNumber, UpTo}
use Rattle.bencode_fields.proofs.Standing.{part_bytes}
use Rattle.bencode_fields.proofs.Checks.{Checks, checks-refused, checks-taken, checks-as, checks-is, Fault, fault, checks-if, checks-then, checks-of, checks-map, checks-last}
use Rattle.bencode_fields.proofs.Typed.{Shown, string-checks, number-checks, dictionary-checks, kind-checks, checks-must, string-under, number-under}
use Rattle.tracker.specs.Keys.{failure_reason, interval, peers, ip, peer_id, port}
use Rattle.tracker.specs.Entries.{PeerEntry, listed}
use Rattle.tracker.specs.Reply.{Answer, failure, compact, listing, sixes, id_at, peer_in, peer_at, peers_from, peers_at, reply_by, reply_in}
use Rattle.tracker.specs.Exact.{Peer, IsPeer, ArePeers, no_more, one_more, ReplySays, failed, packs, lists, Waits, IsReply, fails, has-string, has-list, Is, ShowsPeers, shows-none, shows-one, ShowsReply, shows-failure, shows-packs, shows-lists}
use Rattle.tracker.specs.Causes.{AString, AnId, ANumber, NoId, no-id, other_length, NoPeer, no-dictionary, bad-id, bad-ip, bad-port, SomeNoPeer, this, later, NoPeers, other-kind, not-whole, bad-peer, NoReply, no_top, bad-reason, bad-interval, bad-peers}
use Rattle.tracker.specs.declared.listed.Listed.{Listed}

-- ---- a peer id

-- the value is a string of 20 bytes
abbrev Id : Value → List ℕ → Type 0
Id v bs = (v ≡ str bs) × (length bs ≡ 20)

abbrev BadId : ℕ → Value → ℕ → ℕ → Type 0
BadId q v n p = NoString q v n p ⊎ ((bs : List ℕ) × (v ≡ str bs) × Fault (length bs ≡ 20) 15 q n p)

id-bad : (q : ℕ) (v : Value) (n p : ℕ) → BadId q v n p → NoId q v n p
id-bad q v n p (inl h) = no-id v n p h
id-bad q v n p (inr (bs, e, fault h)) = subst (λ (w : Value). NoId q w 15 q) (sym e) (other_length bs h)

bad-by-id : (q : ℕ) (v : Value) (n p : ℕ) → NoId q v n p → BadId q v n p
bad-by-id q v n p (no-id w m r h) = inl h
bad-by-id q v n p (other_length bs h) = inr (bs, refl, fault h)

id-checks : (s : List ℕ) (e q : ℕ) (v : Value) → Stands s e q v → Checks (id_at q v) (Id v) (Shown s) (NoId q v)
id-checks s e q v t =
    checks-as
    (checks-then (string-checks s e q v t)
    (λ x bs i sh. checks-if (λ y. Shown s y bs) x (eqb x.len 20) (λ f. sym sh.1 ∙ eqb-true x.len 20 f) (λ l. eq-eqb x.len 20 (sh.1 ∙ l)) sh))
    (λ x k i sh. (k.0, i, sh)) (λ bs i. ((bs, tt), i, λ x sh. sh)) (id-bad q v) (bad-by-id q v)

-- ---- a peer, whose dictionary stands at p

-- what is handed back is that peer
abbrev ShownPeer : List ℕ → Listed → Peer → Type 0
ShownPeer s y x = Is s y.id x.id × Is s y.ip x.ip × (y.port ≡ x.port)

-- the value is that peer
abbrev Peered : Value → Peer → Type 0
Peered v x = (es : Entries) × (v ≡ dict es) × IsPeer es x

peer-kind : (p : ℕ) (v : Value) (n q : ℕ) → NoPeer p v n q → Other dict p v n q ⊎ ((es : Entries) × (v ≡ dict es))
peer-kind p v n q (no-dictionary w h) = inl (other w h)
peer-kind p v n q (bad-id es m r h) = inr (es, refl)
peer-kind p v n q (bad-ip es m r i h) = inr (es, refl)
peer-kind p v n q (bad-port es m r i a h) = inr (es, refl)

module _ {s : List ℕ} {e p : ℕ} {es : Entries} (t : StandEntries s e p start es) where
  -- what a dictionary has under a key is what is found there
  a-string : (k bs : List ℕ) → Has es k (str bs) → AString (lookup p es k)
  a-string k bs h = let r = has-found p es k (str bs) e start h t.keeps in (r.0, bs, r.1)

  an-id : (bs : List ℕ) → Has es peer_id (str bs) → length bs ≡ 20 → AnId (lookup p es peer_id)
  an-id bs h l = let r = has-found p es peer_id (str bs) e start h t.keeps in (r.0, bs, r.1, l)

  a-number : (k : List ℕ) (most n : ℕ) → Has es k (int (pos n)) → n ≤ most → ANumber most (lookup p es k)
  a-number k most n h l = let r = has-found p es k (int (pos n)) e start h t.keeps in (r.0, n, r.1, l)

-- why a dictionary is no peer
abbrev BadPeer : ℕ → Entries → ℕ → ℕ → Type 0
BadPeer p es n q =
    Lacks p (lookup (p + 1) es peer_id) NoId n q
    ⊎ ((bs : List ℕ) × (Has es peer_id (str bs) × (length bs ≡ 20))
    × (Lacks p (lookup (p + 1) es ip) NoString n q ⊎ ((cs : List ℕ) × Has es ip (str cs) × Lacks p (lookup (p + 1) es port) (NoNumber (UpTo 65535)) n q)))

bad-by-peer : (p : ℕ) (es : Entries) (n q : ℕ) → NoPeer p (dict es) n q → BadPeer p es n q
bad-by-peer p es n q (no-dictionary v h) = absurd (h es refl)
bad-by-peer p es n q (bad-id ds m r h) = inl h
bad-by-peer p es n q (bad-ip ds m r (o, bs, f, l) h) = inr (bs, (found-has (p + 1) es peer_id o (str bs) f, l), inl h)
bad-by-peer p es n q (bad-port ds m r (o, bs, f, l) (a, cs, g) h) = inr (bs, (found-has (p + 1) es peer_id o (str bs) f, l), inr (cs, found-has (p + 1) es ip a (str cs) g, h))

module _ {s : List ℕ} {e p : ℕ} {es : Entries} (t : StandEntries s e (p + 1) start es) where
  id-under : Checks (must p (lookup (p + 1) es peer_id) id_at) (λ bs. Has es peer_id (str bs) × (length bs ≡ 20)) (Shown s) (Lacks p (lookup (p + 1) es peer_id) NoId)
  id-under = checks-is (checks-must p t peer_id (id-checks s e)) (λ bs h. (subst (Has es peer_id) h.2.0 h.1, h.2.1)) (λ bs h. (str bs, h.0, (refl, h.1)))

  peer-bad : (n q : ℕ) → BadPeer p es n q → NoPeer p (dict es) n q
  peer-bad n q (inl h) = bad-id es n q h
  peer-bad n q (inr (bs, i, inl h)) = bad-ip es n q (an-id t bs i.0 i.1) h
  peer-bad n q (inr (bs, i, inr (cs, a, h))) = bad-port es n q (an-id t bs i.0 i.1) (a-string t ip cs a) h

  peer-in : Checks (peer_in p es) (IsPeer es) (ShownPeer s) (NoPeer p (dict es))
  peer-in =
      checks-as
      (checks-then id-under
      (λ i bs hi si. checks-then (string-under p t ip)
      (λ a cs ha sa. checks-last (λ n. record { id = i; ip = a; port = n }) {Shows' = λ y m. ShownPeer s y (record { id = bs; ip = cs; port = m })} (number-under p t port (number-checks 65535))
      (λ n m h sn. (si.0, sa.0, sn)))))
      (λ y k h sh. (
        record { id = k.0; ip = k.1.0; port = k.1.1 },
        record { has-id = h.0.0; id-long = h.0.1; has-ip = h.1.0; has-port = h.1.1.0; port-small = h.1.1.1 },
        sh,
      ))
      (λ x h. ((x.id, (x.ip, x.port)), ((h.has-id, h.id-long), (h.has-ip, (h.has-port, h.port-small))), λ y sh. sh))
      peer-bad (bad-by-peer p es)

peer-checks : (s : List ℕ) (d p : ℕ) (v : Value) → Stands s d p v → Checks (peer_at p v) (Peered v) (ShownPeer s) (NoPeer p v)
peer-checks s d p v t =
    kind-checks (NoPeer p) (dictionary-checks p v) (λ es e. peer-in (dictionary-stands s d p es (subst (Stands s d p) e t)).1.2) (no-dictionary v) (peer-kind p v)

-- ---- the peers of a list, from p on

no-peers : (l : List Peer) → ArePeers none l → l ≡ []
no-peers l no_more = refl

none-bad : (p n q : ℕ) → SomeNoPeer p none n q → ⊥
none-bad p n q h = elim h [ ]

joined : (v : Value) (vs : Items) (k : Peer × List Peer) → Peered v k.0 × ArePeers vs k.1 → ArePeers (item v vs) (k.0 ∷ k.1)
joined v vs k h = subst (λ (w : Value). ArePeers (item w vs) (k.0 ∷ k.1)) (sym h.0.1) (one_more h.0.0 vs k.0 k.1 h.0.2 h.1)

parted : (s : List ℕ) (v : Value) (vs : Items) (l : List Peer) → ArePeers (item v vs) l → (k : Peer × List Peer) × (Peered v k.0 × ArePeers vs k.1) × ((x : List PeerEntry) → ShowsPeers s x (k.0 ∷ k.1) → ShowsPeers s x l)
parted s v vs l (one_more es ws x m i h) = ((x, m), ((es, refl, i), h), λ y sh. sh)

abbrev SomeBad : ℕ → Value → Items → ℕ → ℕ → Type 0
SomeBad p v vs n q = NoPeer p v n q ⊎ ((x : Peer) × Peered v x × SomeNoPeer (p + length (encode v)) vs n q)

some-by : (p : ℕ) (v : Value) (vs : Items) (n q : ℕ) → SomeNoPeer p (item v vs) n q → SomeBad p v vs n q
some-by p v vs n q (this o w ws m r h) = inl h
some-by p v vs n q (later o w ws m r (es, e, (i, bs, f, l), (a, cs, g), (b, k, j, u)) h) =
    inr (record { id = bs; ip = cs; port = k }, (es, e, record { has-id = found-has (p + 1) es peer_id i (str bs) f; id-long = l; has-ip = found-has (p + 1) es ip a (str cs) g; has-port = found-has (p + 1) es port b (int (pos k)) j; port-small = u }), h)

module _ (s : List ℕ) where
  by-some : (d p : ℕ) (v : Value) (vs : Items) → Stands s d p v → (n q : ℕ) → SomeBad p v vs n q → SomeNoPeer p (item v vs) n q
  by-some d p v vs t n q (inl h) = this p v vs n q h
  by-some d p v vs t n q (inr (x, (es, e, i), h)) =
      let u = (dictionary-stands s d p es (subst (Stands s d p) e t)).1.2 in
      later p v vs n q (es, e, an-id u x.id i.has-id i.id-long, a-string u ip x.ip i.has-ip, a-number u port 65535 x.port i.has-port i.port-small) h

  items-checks : (d p : ℕ) (vs : Items) → StandItems s d p vs → Checks (peers_from p vs) (ArePeers vs) (ShowsPeers s) (SomeNoPeer p vs)
  unfolding peers_from
  items-checks d p none t = checks-taken [] no_more shows-none no-peers (none-bad p)
  items-checks d p (item v vs) t =
      let i = items-next s d p v vs t in
      checks-as
      (checks-then (peer-checks s d p v i.0)
      (λ y x j sh. checks-map (λ l. listed y ∷ l) {Shows' = λ m k. ShowsPeers s m (x ∷ k)} (items-checks d (p + length (encode v)) vs i.1)
      (λ l k h more. subst (λ (n : ℕ). ShowsPeers s (listed (record { id = y.id; ip = y.ip; port = n }) ∷ l) (x ∷ k)) (sym sh.2) (shows-one y.id y.ip x l k sh.0 sh.1 more))))
      (λ x k h sh. (k.0 ∷ k.1, joined v vs k h, sh)) (parted s v vs) (by-some d p v vs i.0) (some-by p v vs)

-- ---- the value under peers, beside n seconds to wait

data ArePeersOf (n : ℕ) : Value → ReplySays → Type 0 where
  of-string : (bs : List ℕ) → length bs % 6 ≡ 0 → ArePeersOf n (str bs) (packs n bs)
  of-list : (vs : Items) (l : List Peer) → ArePeers vs l → ArePeersOf n (list vs) (lists n l)

module _ (s : List ℕ) (e n q : ℕ) where
  by-string : (bs : List ℕ) (r : ReplySays) → ArePeersOf n (str bs) r → (u : Unit {0}) × (length bs % 6 ≡ 0) × ((x : Answer (List PeerEntry)) → ShowsReply s x (packs n bs) → ShowsReply s x r)
  by-string bs r (of-string cs l) = (tt, l, λ x sh. sh)

  not-sixes : (bs : List ℕ) (m p : ℕ) → Fault (length bs % 6 ≡ 0) 15 q m p → NoPeers q (str bs) m p
  not-sixes bs m p (fault h) = not-whole bs (omega (arith, h))

  by-sixes : (bs : List ℕ) (m p : ℕ) → NoPeers q (str bs) m p → Fault (length bs % 6 ≡ 0) 15 q m p
  by-sixes bs m p (other-kind v h k) = absurd (h bs refl)
  by-sixes bs m p (not-whole cs h) = fault (λ f. omega arith)

  by-list : (vs : Items) (r : ReplySays) → ArePeersOf n (list vs) r → (l : List Peer) × ArePeers vs l × ((x : Answer (List PeerEntry)) → ShowsReply s x (lists n l) → ShowsReply s x r)
  by-list vs r (of-list ws l h) = (l, h, λ x sh. sh)

  by-peer : (vs : Items) (m p : ℕ) → NoPeers q (list vs) m p → SomeNoPeer (q + 1) vs m p
  by-peer vs m p (other-kind v h k) = absurd (k vs refl)
  by-peer vs m p (bad-peer ws o r h) = h

  module _ (v : Value) (h : (bs : List ℕ) → v ≡ str bs → ⊥) (k : (vs : Items) → v ≡ list vs → ⊥) where
    neither-has : (w : Value) → v ≡ w → (r : ReplySays) → ArePeersOf n w r → ⊥
    neither-has w f r (of-string bs l) = h bs f
    neither-has w f r (of-list vs l i) = k vs f

    neither-why : (w : Value) → v ≡ w → (m p : ℕ) → NoPeers q w m p → (m ≡ 10) × (p ≡ q)
    neither-why w f m p (other-kind u i j) = (refl, refl)
    neither-why w f m p (not-whole bs i) = absurd (h bs f)
    neither-why w f m p (bad-peer vs o r i) = absurd (k vs f)

    neither : Checks (refused 10 q) (ArePeersOf n v) (ShowsReply s) (NoPeers q v)
    neither = checks-refused (neither-has v refl) (other-kind v h k) (neither-why v refl)

  peers-checks : (v : Value) → Stands s e q v → Checks (peers_at n q v) (ArePeersOf n v) (ShowsReply s) (NoPeers q v)
  peers-checks (str bs) t =
      checks-as
      (checks-if (λ x. ShowsReply s x (packs n bs)) (compact n (part_of q bs).from (sixes bs)) (eqb (length bs % 6) 0) (eqb-true (length bs % 6) 0) (eq-eqb (length bs % 6) 0) (shows-packs n (part_of q bs).from bs (part_bytes s e q bs t)))
      (λ x u l sh. (packs n bs, of-string bs l, sh)) (by-string bs) (not-sixes bs) (by-sixes bs)
  peers-checks (int z) t = neither (int z) (λ bs f. no_way (cc)) (λ vs f. no_way (cc))
  peers-checks (list vs) t =
      let g = (list-stands s e q vs t).1 in
      checks-as
      (checks-map (listing n (q + 1)) {Shows' = λ x l. ShowsReply s x (lists n l)} (items-checks s g.0 (q + 1) vs g.2) (λ m l i sh. shows-lists n (q + 1) m l sh))
      (λ x l i sh. (lists n l, of-list vs l i, sh)) (by-list vs) (λ m p h. bad-peer vs m p h) (by-peer vs)
  peers-checks (dict es) t = neither (dict es) (λ bs f. no_way (cc)) (λ vs f. no_way (cc))

-- ---- the whole

abbrev BadAnswer : Entries → ℕ → ℕ → Type 0
BadAnswer es n q = Lacks 0 (lookup 1 es interval) (NoNumber (UpTo 2147483647)) n q ⊎ ((m : ℕ) × (Has es interval (int (pos m)) × (m ≤ 2147483647)) × Lacks 0 (lookup 1 es peers) NoPeers n q)

abbrev Answers : Entries → ℕ × ReplySays → Type 0
Answers es k = (Has es interval (int (pos k.0)) × (k.0 ≤ 2147483647)) × ((v : Value) × Has es peers v × ArePeersOf k.0 v k.1)

module _ (s : List ℕ) (e : ℕ) where
  -- no failure reason: interval, then peers
  said : (es : Entries) → StandEntries s e 1 start es → lookup 1 es failure_reason ≡ nothing → (r : ReplySays) → IsReply (dict es) r
      → (k : ℕ × ReplySays) × Answers es k × ((x : Answer (List PeerEntry)) → ShowsReply s x k.1 → ShowsReply s x r)
  said es t f r (fails ds bs h) = absurd (none_has 1 es failure_reason e start t.keeps f (str bs) h)
  said es t f r (has-string ds n bs w h l) = ((n, packs n bs), ((w.has-interval, w.interval-small), (str bs, h, of-string bs l)), λ x sh. sh)
  said es t f r (has-list ds n vs l w h i) = ((n, lists n l), ((w.has-interval, w.interval-small), (list vs, h, of-list vs l i)), λ x sh. sh)

  answer-by : (es : Entries) → lookup 1 es failure_reason ≡ nothing → (n q : ℕ) → NoReply (dict es) n q → BadAnswer es n q
  answer-by es f n q (no_top v h) = absurd (h es refl)
  answer-by es f n q (bad-reason ds p v m r g h) = no_way (cc)
  answer-by es f n q (bad-interval ds m r g h) = inl h
  answer-by es f n q (bad-peers ds m r g (p, k, i, l) h) = inr (k, (found-has 1 es interval p (int (pos k)) i, l), h)

  -- a failure reason, and nothing else
  reason-said : (es : Entries) → StandEntries s e 1 start es → (q : ℕ) (v : Value) → lookup 1 es failure_reason ≡ under q v → (r : ReplySays) → IsReply (dict es) r
      → (bs : List ℕ) × (v ≡ str bs) × ((x : Answer (List PeerEntry)) → ShowsReply s x (failed bs) → ShowsReply s x r)
  reason-said es t q v f r (fails ds bs h) = (bs, (let a = (has-found 1 es failure_reason (str bs) e start h t.keeps).1 in cc), λ x sh. sh)
  reason-said es t q v f r (has-string ds n bs w h l) = absurd (w.no-failure v (found-has 1 es failure_reason q v f))
  reason-said es t q v f r (has-list ds n vs l w h i) = absurd (w.no-failure v (found-has 1 es failure_reason q v f))

  reason-by : (es : Entries) (q : ℕ) (v : Value) → lookup 1 es failure_reason ≡ under q v → (n p : ℕ) → NoReply (dict es) n p → NoString q v n p
  reason-by es q v f n p (no_top w h) = absurd (h es refl)
  reason-by es q v f n p (bad-reason ds o w m r g h) =
      let a : o ≡ q = cc in
      let b : w ≡ v = cc in
      subst (λ (i : ℕ). NoString i v m r) a (subst (λ (u : Value). NoString o u m r) b h)
  reason-by es q v f n p (bad-interval ds m r g h) = no_way (cc)
  reason-by es q v f n p (bad-peers ds m r g i h) = no_way (cc)

  module _ (es : Entries) (t : StandEntries s e 1 start es) where
    says : lookup 1 es failure_reason ≡ nothing → (k : ℕ × ReplySays) → Answers es k → IsReply (dict es) k.1
    says f k h = go h.1.0 k.1 h.1.1 h.1.2
      where
        waits : Waits es k.0
        waits = record { no-failure = none_has 1 es failure_reason e start t.keeps f; has-interval = h.0.0; interval-small = h.0.1 }

        go : (v : Value) (r : ReplySays) → Has es peers v → ArePeersOf k.0 v r → IsReply (dict es) r
        go v r i (of-string bs l) = has-string es k.0 bs waits i l
        go v r i (of-list vs l j) = has-list es k.0 vs l waits i j

    by_answer : lookup 1 es failure_reason ≡ nothing → (n q : ℕ) → BadAnswer es n q → NoReply (dict es) n q
    by_answer f n q (inl h) = bad-interval es n q f h
    by_answer f n q (inr (m, i, h)) = bad-peers es n q f (a-number t interval 2147483647 m i.0 i.1) h

    reply-in : (u : Under) → lookup 1 es failure_reason ≡ u → Checks (reply_by es u) (IsReply (dict es)) (ShowsReply s) (NoReply (dict es))
    reply-in nothing f =
        checks-as (checks-of (number-under 0 t interval (number-checks 2147483647)) (λ n i. checks-must 0 t peers (λ q v. peers-checks s e n q v)))
        (λ x k h sh. (k.1, says f k h, sh)) (said es t f) (by_answer f) (answer-by es f)
    reply-in (under q v) f =
        checks-as
        (checks-map failure {Shows' = λ x bs. ShowsReply s x (failed bs)} (string-checks s e q v (found-stands s e 1 start es failure_reason t q v f)) (λ x bs i sh. shows-failure x bs sh.0))
        (λ x bs i sh. (failed bs, fails es bs (subst (Has es failure_reason) i (found-has 1 es failure_reason q v f)), sh)) (reason-said es t q v f)
        (λ n p h. bad-reason es q v n p f h) (reason-by es q v f)

reply-kind : (v : Value) (n q : ℕ) → NoReply v n q → Other dict 0 v n q ⊎ ((es : Entries) × (v ≡ dict es))
reply-kind v n q (no_top w h) = inl (other w h)
reply-kind v n q (bad-reason es p w m r g h) = inr (es, refl)
reply-kind v n q (bad-interval es m r g h) = inr (es, refl)
reply-kind v n q (bad-peers es m r g i h) = inr (es, refl)

reply-of : (v : Value) (r : ReplySays) → IsReply v r → (es : Entries) × (v ≡ dict es) × IsReply (dict es) r
reply-of v r (fails es bs h) = (es, refl, fails es bs h)
reply-of v r (has-string es n bs w h l) = (es, refl, has-string es n bs w h l)
reply-of v r (has-list es n vs l w h i) = (es, refl, has-list es n vs l w h i)

pub reply-checks : (s : List ℕ) (v : Value) → Stands s 32 0 v → Checks (then (dictionary_at 0 v) reply_in) (IsReply v) (ShowsReply s) (NoReply v)
reply-checks s v t =
    checks-is
    (kind-checks NoReply (dictionary-checks 0 v) (λ es f. let g = (dictionary-stands s 32 0 es (subst (Stands s 32 0) f t)).1 in reply-in s g.0 es g.2 (lookup 1 es failure_reason) refl) (no_top v) (reply-kind v))
    (λ r h. subst (λ (w : Value). IsReply w r) (sym h.1) h.2) (reply-of v)
