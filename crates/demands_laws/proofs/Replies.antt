-- Tracker replies: when each number is given. Assumes nothing.
use mathlib.Core.Path.{◌≡◌, refl, sym, ap, subst, ◌∙◌}
use mathlib.Core.Logic.Iff
use mathlib.Core.Logic.{◌⊎◌, inl, inr, ⊎_elim, ◌↔◌}
use mathlib.Core.List.Memᴰ
use mathlib.Core.List.{List, [], ◌∷◌, Memᴰ as In}
use Prim.Native.Nat.{ℕ, ◌≤◌}
use native.Mathlib.Omega.{arith}
use Rattle.refusal.specs.Paper.{taken, refused, map, then}
use Rattle.bencode.specs.Value.{Value, Items}
use Rattle.bencode.specs.Decode.{decode}
use Rattle.bencode_laws.proofs.Laws as bencode
use Rattle.bencode_walk.specs.Lookup.{Under}
use Rattle.tracker.specs.Reply.{Answer, reply_of, counted, nth_of}
use Rattle.tracker.specs.Entries.{PeerEntry}
use Rattle.tracker.specs.Reading.{entries_in}
use Rattle.bencode_fields.specs.Causes.{Lacks, missing, wrong, NoString, no_string, NoNumber, no-integer, out_of_range}
use Rattle.tracker.specs.Causes.{NoId, no-id, other_length, NoPeer, no-dictionary, bad-id, bad-ip, bad-port, SomeNoPeer, this, later, NoPeers, other-kind, not-whole, bad-peer, NoReply, no_top, bad-reason, bad-interval, bad-peers, WhyRefused, no-bencode, no-reply}
use Rattle.tracker.proofs.Causes.{reply-causes, reply-refused}
use Rattle.tracker.proofs.Numbering.{entry-within, entry-beyond}
use Rattle.refusal.proofs.Cases.{less-or}
use Rattle.refusal.proofs.Outcomes.{not-refused, same-refusal, map-taken}
use Rattle.demands_laws.proofs.Refusals.{first_of, second-of, refusal_is, map-refused, then-refused}
use Rattle.demands_laws.specs.Causes.{NoReplyText}

-- the numbers by which a value is no reply: 10, 11 and 15
abbrev Ours : ℕ → Type 0
Ours n = In n (10 ∷ 11 ∷ 15 ∷ [])

ten : Ours 10
ten = In.head refl

eleven : Ours 11
eleven = In.tail (In.head refl)

fifteen : Ours 15
fifteen = In.tail (In.tail (In.head refl))

ours-within : (n : ℕ) → Ours n → (10 ≤ n) × (n ≤ 15)
ours-within n h = go (Memᴰ.cases_cons h)
  where
    last : (n ≡ 15) ⊎ In n [] → (10 ≤ n) × (n ≤ 15)
    last (inl e) = (omega arith, omega arith)
    last (inr m) = absurd (Memᴰ.not-nil m)

    next : (n ≡ 11) ⊎ In n (15 ∷ []) → (10 ≤ n) × (n ≤ 15)
    next (inl e) = (omega arith, omega arith)
    next (inr m) = last (Memᴰ.cases_cons m)

    go : (n ≡ 10) ⊎ In n (11 ∷ 15 ∷ []) → (10 ≤ n) × (n ≤ 15)
    go (inl e) = (omega arith, omega arith)
    go (inr m) = next (Memᴰ.cases_cons m)

lacks-ours : (d : ℕ) (u : Under) (W : ℕ → Value → ℕ → ℕ → Type 0) → ((p : ℕ) (v : Value) (n q : ℕ) → W p v n q → Ours n) → (n q : ℕ) → Lacks d u W n q → Ours n
lacks-ours d u W h n q (missing e) = ten
lacks-ours d u W h n q (wrong p v m r e i) = h p v m r i

string-ours : (p : ℕ) (v : Value) (n q : ℕ) → NoString p v n q → Ours n
string-ours p v n q (no_string w h) = ten

id-ours : (p : ℕ) (v : Value) (n q : ℕ) → NoId p v n q → Ours n
id-ours p v n q (no-id w m r h) = string-ours p w m r h
id-ours p v n q (other_length bs h) = fifteen

number-ours : (R : ℕ → Type 0) (p : ℕ) (v : Value) (n q : ℕ) → NoNumber R p v n q → Ours n
number-ours R p v n q (no-integer w h) = ten
number-ours R p v n q (out_of_range z h) = eleven

peer-ours : (p : ℕ) (v : Value) (n q : ℕ) → NoPeer p v n q → Ours n
peer-ours p v n q (no-dictionary w h) = ten
peer-ours p v n q (bad-id es m r h) = lacks-ours _ _ _ id-ours m r h
peer-ours p v n q (bad-ip es m r i h) = lacks-ours _ _ _ string-ours m r h
peer-ours p v n q (bad-port es m r i j h) = lacks-ours _ _ _ (number-ours _) m r h

some-ours : (p : ℕ) (vs : Items) (n q : ℕ) → SomeNoPeer p vs n q → Ours n
some-ours p vs n q (this o v ws m r h) = peer-ours o v m r h
some-ours p vs n q (later o v ws m r i h) = some-ours _ ws m r h

peers-ours : (p : ℕ) (v : Value) (n q : ℕ) → NoPeers p v n q → Ours n
peers-ours p v n q (other-kind w f g) = ten
peers-ours p v n q (not-whole bs h) = fifteen
peers-ours p v n q (bad-peer vs m r h) = some-ours _ vs m r h

pub reply-ours : (v : Value) (n q : ℕ) → NoReply v n q → Ours n
reply-ours v n q (no_top w h) = ten
reply-ours v n q (bad-reason es p w m r e h) = string-ours p w m r h
reply-ours v n q (bad-interval es m p e h) = lacks-ours _ _ _ (number-ours _) m p h
reply-ours v n q (bad-peers es m r e i h) = lacks-ours _ _ _ peers-ours m r h

module _ (s : List ℕ) (n p : ℕ) where
  why : WhyRefused s n p → (decode s ≡ refused n p) ⊎ NoReplyText s n p
  why (no-bencode m q e) = inl e
  why (no-reply v m q e h) = inr (v, e, h)

  -- a refusal is bencode's, or that of a value that is no reply
  read-law : reply_of s ≡ refused n p ↔ ((decode s ≡ refused n p) ⊎ NoReplyText s n p)
  read-law = (
    λ e. why (reply-causes s n p e),
    ⊎_elim (λ (h : decode s ≡ refused n p). reply-refused s n p (no-bencode n p h)) (λ (h : NoReplyText s n p). reply-refused s n p (no-reply h.0 n p h.1 h.2)),
  )

  pub reply-law : map counted (reply_of s) ≡ refused n p ↔ ((decode s ≡ refused n p) ⊎ NoReplyText s n p)
  reply-law = Iff.trans (map-refused counted (reply_of s) n p) read-law

  -- 1 to 8 are bencode's, the others the reply's
  pub reply-bencode : n ≤ 8 → map counted (reply_of s) ≡ refused n p ↔ decode s ≡ refused n p
  reply-bencode l = first_of reply-law (λ h. let o = ours-within n (reply-ours h.0 n p h.2) in omega arith)

  pub reply-own : 9 ≤ n → map counted (reply_of s) ≡ refused n p ↔ NoReplyText s n p
  reply-own l = second-of reply-law (λ h. let o = bencode.none_other s n p h in omega arith)

  reply-numbers : reply_of s ≡ refused n p → n ≤ 15
  reply-numbers e = ⊎_elim (λ (h : decode s ≡ refused n p). let o = bencode.none_other s n p h in omega arith) (λ (h : NoReplyText s n p). (ours-within n (reply-ours h.0 n p h.2)).1) (read-law.0 e)

-- ---- an entry by its number

-- 31 exactly beyond the last
numbered : (n k p : ℕ) (x : Answer (List PeerEntry)) → nth_of n x ≡ refused k p ↔ ((k ≡ 31) × (entries_in (counted x) ≤ n) × (p ≡ 0))
numbered n k p x = (
  λ e. less-or n (entries_in (counted x))
      (λ h. not-refused (sym (entry-within n x h).1 ∙ e))
      (λ h. let z = same-refusal {A = PeerEntry} (sym (entry-beyond n x h) ∙ e) in (sym z.0, h, sym z.1)),
  λ h. entry-beyond n x h.1 ∙ refusal_is (sym h.0) (sym h.2),
)

peer-exactly : (s : List ℕ) (n p : ℕ) → then (reply_of s) (nth_of n) ≡ refused 31 p ↔ ((x : Answer (List PeerEntry)) × (reply_of s ≡ taken x) × (entries_in (counted x) ≤ n) × (p ≡ 0))
peer-exactly s n p = Iff.trans (second-of (then-refused (reply_of s) (nth_of n) 31 p) (λ h. let l = reply-numbers s 31 p h in omega arith))
    (λ (x, e, h). let c = (numbered n 31 p x).0 h in (x, e, c.1, c.2), λ (x, e, l, z). (x, e, (numbered n 31 p x).1 (refl, l, z)))

-- by what the reply's own answer counts
pub peer-counted : (s : List ℕ) (n p : ℕ) → then (reply_of s) (nth_of n) ≡ refused 31 p ↔ ((x : Answer ℕ) × (map counted (reply_of s) ≡ taken x) × (entries_in x ≤ n) × (p ≡ 0))
peer-counted s n p = Iff.trans (peer-exactly s n p) (
  λ (x, e, l, z). (counted x, ap (map counted) e, l, z),
  λ (x, e, l, z). let y = map-taken counted (reply_of s) x e in (y.0, y.1, subst (λ (a : Answer ℕ). entries_in a ≤ n) (sym y.2) l, z),
)

pub peer-alike : (s : List ℕ) (n k p : ℕ) → (k ≡ 31 → ⊥) → then (reply_of s) (nth_of n) ≡ refused k p ↔ map counted (reply_of s) ≡ refused k p
peer-alike s n k p l = let m = map-refused counted (reply_of s) k p in Iff.trans (first_of (then-refused (reply_of s) (nth_of n) k p) (λ h. l ((numbered n k p h.0).0 h.2).0)) (m.1, m.0)
