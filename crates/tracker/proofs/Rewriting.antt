-- What is written is read back, and what is read with only those keys is written again as it was. Assumes nothing.
use Rattle.std.proofs.Common.{Result, ◌≡◌, refl, sym, ap, ◌∙◌, subst, Bool, true, false, cond, List, ℕ, ◌+◌, ◌%◌, ◌<◌, ◌≤◌, arith, ltb, leb, pos, length, take, drop, ltb-true, ltb-false, leb-true, leb-false}
use Rattle.std.proofs.lemmas.List.Edits.{sets}
use Rattle.refusal.specs.declared.Refusal.{Refusal}
use Rattle.refusal.specs.Paper.{paper, taken, refused}
use Rattle.refusal.proofs.Cases.{no_way}
use Rattle.bencode_scalar.specs.Written.{key_lt}
use Rattle.bencode.specs.Value.{Value, Entries, str, int, dict, empty, entry, encode, count, Keeps, start}
use Rattle.bencode.specs.Decode.{decode}
use Rattle.bencode.specs.Exact.{Fine}
use Rattle.bencode.proofs.Exact.{fine-taken}
use Rattle.bencode_walk.specs.Has.{Has, here, there}
use Rattle.bencode_walk.specs.Lookup.{same_key, nothing, lookup}
use Rattle.bencode_writer.specs.Put.{Left, left, put_of}
use Rattle.bencode_writer.proofs.Laws.{paper-apart, Standing, put_whole, put-none, standing}
use Rattle.tracker.specs.Keys.{failure_reason, interval, peers}
use Rattle.tracker.specs.Entries.{PeerEntry}
use Rattle.tracker.specs.Reply.{Answer, compact, sixes, reply_of}
use Rattle.tracker.specs.Writing.{compact_reply, text_of, write_of}
use Rattle.tracker.specs.Faults.{NotWritten, too-late, not-sixes, too_long, no_room}
use Rattle.tracker.specs.Exact.{ReplySays, packs, Waits, IsReply, fails, has-string, has-list, ShowsReply, shows-failure, shows-packs, shows-lists}
use Rattle.bencode_walk.proofs.Having.{has-found}
use Rattle.tracker.proofs.Exact.{reply-only, reply-every}

interval-peers : key_lt interval peers ≡ true
unfolding key_lt
interval-peers = refl

-- what is written is a reply
module _ (n : ℕ) (bs : List ℕ) (small : n ≤ 2147483647) (whole : length bs % 6 ≡ 0) where
  reply-fine : length (text_of n bs) ≤ 1048576 → Fine (text_of n bs) (compact_reply n bs)
  unfolding Keeps count
  reply-fine h = record {
    text = refl;
    keeps = (31, refl, (refl, tt, (interval-peers, tt, tt)));
    few = omega arith;
    short = h;
  }

  no-reason : lookup 1 (entry interval (int (pos n)) (entry peers (str bs) empty)) failure_reason ≡ nothing
  unfolding lookup same_key
  no-reason = refl

  no-failure-here : (v : Value) → Has (entry interval (int (pos n)) (entry peers (str bs) empty)) failure_reason v → ⊥
  unfolding Keeps
  no-failure-here v h =
      let r = has-found 1 (entry interval (int (pos n)) (entry peers (str bs) empty)) failure_reason v 31 start h (refl, tt, (interval-peers, tt, tt)) in
      let a = r.1 in
      let b = no-reason in
      let z : ◌≡◌ {A = ℕ} 0 1 = cc in omega arith

  reply-waits : Waits (entry interval (int (pos n)) (entry peers (str bs) empty)) n
  reply-waits = record { no-failure = no-failure-here; has-interval = here interval (int (pos n)) (entry peers (str bs) empty); interval-small = small }

  written-reply : IsReply (compact_reply n bs) (packs n bs)
  written-reply = has-string (entry interval (int (pos n)) (entry peers (str bs) empty)) n bs reply-waits (there interval (int (pos n)) (entry peers (str bs) empty) peers (str bs) (here peers (str bs) empty)) whole

  shown : (s : List ℕ) (x : Answer (List PeerEntry)) (r : ReplySays) → ShowsReply s x r → r ≡ packs n bs → (p : ℕ) × (x ≡ compact n p (sixes bs)) × (take (length bs) (drop p s) ≡ bs)
  shown s x r (shows-failure p cs h) e = no_way (cc)
  shown s x r (shows-packs m p cs h) e =
      let a : m ≡ n = cc in
      let b : cs ≡ bs = cc in
      (p, rw (a, b), rw b at h)
  shown s x r (shows-lists m p l k h) e = no_way (cc)

  -- reading gives the fields back: the seconds, and the entries of the very bytes
  pub reads-back : length (text_of n bs) ≤ 1048576 → (p : ℕ) × (reply_of (text_of n bs) ≡ taken (compact n p (sixes bs))) × (take (length bs) (drop p (text_of n bs)) ≡ bs)
  reads-back h =
      let y = reply-every (text_of n bs) (compact_reply n bs) (packs n bs) (reply-fine h) written-reply in
      let z = shown (text_of n bs) y.0 (packs n bs) y.2 refl in
      (z.0, y.1 ∙ ap taken z.1, z.2)

-- what a call leaves, case by case
module _ (n : ℕ) (bs o : List ℕ) where
  pub data Case : Left → Type 0 where
    not_written : (k : ℕ) → NotWritten n bs o k → Case (left (refused k 0) o)
    is-written : n ≤ 2147483647 → length bs % 6 ≡ 0 → length (text_of n bs) ≤ 1048576 → length (text_of n bs) ≤ length o → Case (left (taken (length (text_of n bs))) (sets o 0 (text_of n bs)))

  put_is : length (text_of n bs) ≤ length o → left (taken (length (text_of n bs))) (sets o 0 (text_of n bs)) ≡ put_of (text_of n bs) 0 o
  put_is f =
      let z : length (text_of n bs) ≡ 0 + length (text_of n bs) = omega arith in
      let g : 0 + length (text_of n bs) ≤ length o = omega arith in
      ap (λ (i : ℕ). left (taken i) (sets o 0 (text_of n bs))) z ∙ sym (put_whole (text_of n bs) 0 o g)

  put-is-not : length o < length (text_of n bs) → left (refused 37 0) o ≡ put_of (text_of n bs) 0 o
  put-is-not f = let g : length o < 0 + length (text_of n bs) = omega arith in sym (put-none (text_of n bs) 0 o g)

  case-room : n ≤ 2147483647 → length bs % 6 ≡ 0 → length (text_of n bs) ≤ 1048576 → (b : Bool) → leb (length (text_of n bs)) (length o) ≡ b → Case (put_of (text_of n bs) 0 o)
  case-room h w l true e = let f = leb-true (length (text_of n bs)) (length o) e in subst Case (put_is f) (is-written h w l f)
  case-room h w l false e = let f = leb-false (length (text_of n bs)) (length o) e in subst Case (put-is-not f) (not_written 37 (no_room h w l f))

  pub cases : Case (write_of n bs o)
  unfolding write_of
  cases = go (ltb 2147483647 n) refl (ltb 0 (length bs % 6)) refl (ltb 1048576 (length (text_of n bs))) refl
    where
      go : (a : Bool) → ltb 2147483647 n ≡ a → (b : Bool) → ltb 0 (length bs % 6) ≡ b → (c : Bool) → ltb 1048576 (length (text_of n bs)) ≡ c
          → Case (cond a (left (refused 11 0) o) (cond b (left (refused 15 0) o) (cond c (left (refused 8 0) o) (put_of (text_of n bs) 0 o))))
      go true e b f c g = not_written 11 (too-late (ltb-true _ _ e))
      go false e true f c g = not_written 15 (not-sixes (ltb-false _ _ e) (ltb-true _ _ f))
      go false e false f true g = let h = ltb-false 0 (length bs % 6) f in not_written 8 (too_long (ltb-false _ _ e) (omega arith) (ltb-true _ _ g))
      go false e false f false g = let h = ltb-false 0 (length bs % 6) f in case-room (ltb-false _ _ e) (omega arith) (ltb-false _ _ g) (leb (length (text_of n bs)) (length o)) refl

  module _ (r : Result ℕ Refusal) {out : List ℕ} (e : left (paper r) out ≡ write_of n bs o) where
    pub write-determined : (t : Result ℕ Refusal) {out' : List ℕ} → left (paper t) out' ≡ write_of n bs o → (r ≡ t) × (out ≡ out')
    write-determined t f = (paper-apart r t (ap (λ (x : Left). x.answer) (e ∙ sym f)), ap (λ (x : Left). x.out) (e ∙ sym f))

    -- a refusal leaves the output as it was, and has its cause
    pub refusal-keeps : (k p : ℕ) → paper r ≡ refused k p → (p ≡ 0) × NotWritten n bs o k × (out ≡ o)
    refusal-keeps k p h = go (write_of n bs o) cases e
      where
        go : (l : Left) → Case l → left (paper r) out ≡ l → (p ≡ 0) × NotWritten n bs o k × (out ≡ o)
        go l (not_written m c) f =
            let a : refused k p ≡ refused m 0 = sym h ∙ ap (λ (x : Left). x.answer) f in
            let b : m ≡ k = cc in
            (cc, subst (NotWritten n bs o) b c, ap (λ (x : Left). x.out) f)
        go l (is-written a b c d) f = let g : refused k p ≡ taken (length (text_of n bs)) = sym h ∙ ap (λ (x : Left). x.answer) f in no_way (cc)

    -- what is taken stands at the start of the output, the rest of which stays, and is read back
    pub reply-reads-back : (q : ℕ) → paper r ≡ taken q → (q ≡ length (text_of n bs)) × Standing (text_of n bs) 0 o out × ((p : ℕ) × (reply_of (text_of n bs) ≡ taken (compact n p (sixes bs))) × (take (length bs) (drop p (text_of n bs)) ≡ bs))
    reply-reads-back q h = go (write_of n bs o) cases e
      where
        go : (l : Left) → Case l → left (paper r) out ≡ l → (q ≡ length (text_of n bs)) × Standing (text_of n bs) 0 o out × ((p : ℕ) × (reply_of (text_of n bs) ≡ taken (compact n p (sixes bs))) × (take (length bs) (drop p (text_of n bs)) ≡ bs))
        go l (not_written m c) f = let a : taken q ≡ refused m 0 = sym h ∙ ap (λ (x : Left). x.answer) f in no_way (cc)
        go l (is-written a b c d) f =
            let g : taken q ≡ taken (length (text_of n bs)) = sym h ∙ ap (λ (x : Left). x.answer) f in
            let i = ap (λ (x : Left). x.out) f in
            (cc, subst (Standing (text_of n bs) 0 o) (sym i) (standing (text_of n bs) 0 o (omega arith)), reads-back n bs a b c)

-- a text with only those keys
module _ (s : List ℕ) (v w : Value) (f : Fine s (dict (entry interval v (entry peers w empty)))) where
  interval-first : (u : Value) → Has (entry interval v (entry peers w empty)) interval u → v ≡ u
  unfolding Keeps lookup same_key
  interval-first u h = let r = has-found 1 (entry interval v (entry peers w empty)) interval u f.keeps.0 start h f.keeps.2 in let a = r.1 in cc

  peers-next : (u : Value) → Has (entry interval v (entry peers w empty)) peers u → w ≡ u
  unfolding Keeps lookup same_key
  peers-next u h = let r = has-found 1 (entry interval v (entry peers w empty)) peers u f.keeps.0 start h f.keeps.2 in let a = r.1 in cc

  packs-only : (n : ℕ) (bs : List ℕ) (y : Value) (r : ReplySays) → IsReply y r → y ≡ dict (entry interval v (entry peers w empty)) → r ≡ packs n bs → (v ≡ int (pos n)) × (w ≡ str bs)
  packs-only n bs y r (fails es cs h) e g = no_way (cc)
  packs-only n bs y r (has-string es m cs t h l) e g =
      let a : es ≡ entry interval v (entry peers w empty) = cc in
      let b : m ≡ n = cc in
      let c : cs ≡ bs = cc in (
        interval-first (int (pos n)) (subst (λ (k : ℕ). Has (entry interval v (entry peers w empty)) interval (int (pos k))) b (subst (λ (ds : Entries). Has ds interval (int (pos m))) a t.has-interval)),
        peers-next (str bs) (subst (λ (k : List ℕ). Has (entry interval v (entry peers w empty)) peers (str k)) c (subst (λ (ds : Entries). Has ds peers (str cs)) a h)),
      )
  packs-only n bs y r (has-list es m vs l t h ps) e g = no_way (cc)

  compact-said : (n p : ℕ) (l : List PeerEntry) (x : Answer (List PeerEntry)) (r : ReplySays) → ShowsReply s x r → x ≡ compact n p l → (bs : List ℕ) × (r ≡ packs n bs) × (take (length bs) (drop p s) ≡ bs) × (l ≡ sixes bs)
  compact-said n p l x r (shows-failure q cs h) e = no_way (cc)
  compact-said n p l x r (shows-packs m q cs h) e =
      let a : m ≡ n = cc in
      let b : q ≡ p = cc in
      let c : sixes cs ≡ l = cc in
      (cs, rw a, rw b at h, sym c)
  compact-said n p l x r (shows-lists m q k j h) e = no_way (cc)

  -- a text that is read with only those keys, its peers a string, is written again from the fields that were read
  pub rewrite : (n p : ℕ) (l : List PeerEntry) → reply_of s ≡ taken (compact n p l) → (bs : List ℕ) × (take (length bs) (drop p s) ≡ bs) × (l ≡ sixes bs) × (text_of n bs ≡ s)
  rewrite n p l e =
      let o = reply-only s (compact n p l) e in
      let c = compact-said n p l (compact n p l) o.1 o.4 refl in
      let a : decode s ≡ taken o.0 = fine-taken s o.0 o.2 in
      let b : decode s ≡ taken (dict (entry interval v (entry peers w empty))) = fine-taken s (dict (entry interval v (entry peers w empty))) f in
      let d : o.0 ≡ dict (entry interval v (entry peers w empty)) = cc in
      let g = packs-only n c.0 o.0 o.1 o.3 d c.1 in
      (c.0, c.2, c.3, sym (f.text ∙ ap (λ (z : Value). encode (dict (entry interval z (entry peers w empty)))) g.0 ∙ ap (λ (z : Value). encode (dict (entry interval (int (pos n)) (entry peers z empty)))) g.1))
