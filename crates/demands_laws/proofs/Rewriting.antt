-- A compact reply written, and one that was read written again. Assumes nothing.
use Rattle.std.specs.Prelude.{Result}
use Rattle.refusal.specs.declared.Refusal.{Refusal}
use mathlib.Core.Path.{◌≡◌, refl, sym, ap, ◌∙◌}
use mathlib.Core.Bool.{Bool, true, false, cond}
use mathlib.Core.List.{List}
use Prim.Native.Nat.{ℕ, ◌+◌, ◌%◌, ◌≤◌}
use native.Mathlib.Omega.{arith}
use borrow.Author.Tests.{eqb-true, le-ltb}
use lib.Dec.{leb, eqb}
use lib.ListN.{length, take, drop}
use Rattle.refusal.specs.Paper.{paper, Outcome, taken, refused, map, then}
use Rattle.bencode_scalar.specs.Written.{key_lt}
use Rattle.bencode.specs.Value.{Value, dict, empty, entry, count, Keeps}
use Rattle.bencode.specs.Exact.{Fine}
use Rattle.bencode.proofs.Exact.{fine-taken}
use Rattle.bencode_walk.specs.Lookup.{lookup, same_key}
use Rattle.bencode_fields.specs.Values.{part_of, dictionary_at}
use Rattle.bencode_writer.specs.Put.{put_of, left}
use Rattle.tracker.specs.Keys.{interval, peers}
use Rattle.tracker.specs.Entries.{PeerEntry}
use Rattle.tracker.specs.Reply.{Answer, failure, compact, listing, counted, sixes, reply_in, reply_of}
use Rattle.tracker.specs.Exact.{packs, IsReply, fails, has-string, has-list, shows-failure, shows-packs, shows-lists, ReplySays, ShowsReply}
use Rattle.tracker.proofs.Exact.{reply-only}
use Rattle.tracker.proofs.Rewriting.{rewrite}
use Rattle.tracker.proofs.Rewriting as replies
use Rattle.refusal.proofs.Cases.{no_way}
use Rattle.tracker.specs.Writing.{compact_reply, text_of, write_of}
use Rattle.demands_laws.specs.Texts.{Encodes}
use Rattle.demands_laws.proofs.Texts.{fine}

-- ---- written, it reads back

pub reply-reads-back : (n : ℕ) (bs o out : List ℕ) (r : Result ℕ Refusal) → left (paper r) out ≡ write_of n bs o → (q : ℕ) → paper r ≡ taken q
    → (take q out ≡ text_of n bs) × (drop q out ≡ drop q o)
    × ((p : ℕ) × (reply_of (take q out) ≡ taken (compact n p (sixes bs))) × (take (length bs) (drop p (take q out)) ≡ bs))
reply-reads-back n bs o out r c q t =
    let b = replies.reply-reads-back n bs o r c q t in
    let l = b.0 in
    let w : take q out ≡ text_of n bs = ap (λ (k : ℕ). take k out) l ∙ b.1.there in
    let z : 0 + length (text_of n bs) ≡ q = omega (arith, l) in
    let d : drop q out ≡ drop q o = rw z at b.1.past in
    (w, d, (b.2.0, ap reply_of w ∙ b.2.1, ap (λ (k : List ℕ). take (length bs) (drop b.2.0 k)) w ∙ b.2.2))

-- ---- read, it is written again

interval-peers : key_lt interval peers ≡ true
unfolding key_lt
interval-peers = refl

said-small : (v : Value) (t : ReplySays) (n : ℕ) (bs : List ℕ) → IsReply v t → t ≡ packs n bs → n ≤ 2147483647
said-small v t n bs (fails es cs h) e = no_way (cc)
said-small v t n bs (has-string es m cs w h l) e = let a : m ≡ n = cc in omega (arith, a, w.interval-small)
said-small v t n bs (has-list es m vs l w h ps) e = no_way (cc)

shown-small : (s : List ℕ) (x : Answer (List PeerEntry)) (v : Value) (t : ReplySays) (n p : ℕ) (l : List PeerEntry) → ShowsReply s x t → IsReply v t → x ≡ compact n p l → n ≤ 2147483647
shown-small s x v t n p l (shows-failure q cs h) i e = no_way (cc)
shown-small s x v t n p l (shows-packs m q cs h) i e = let a : m ≡ n = cc in omega (arith, a, said-small v (packs m cs) m cs i refl)
shown-small s x v t n p l (shows-lists m q k j h) i e = no_way (cc)

-- its entries are whole
whole-sixes : (s : List ℕ) (n : ℕ) (bs : List ℕ) → Fine s (compact_reply n bs) → (p : ℕ) (l : List PeerEntry) → reply_of s ≡ taken (compact n p l) → length bs % 6 ≡ 0
unfolding reply_of lookup same_key
whole-sixes s n bs f p l e =
    go _ _ (leb n 2147483647) (eqb (length bs % 6) 0) refl (sym (ap (λ (o : Outcome Value). then o (λ v. then (dictionary_at 0 v) reply_in)) (fine-taken s (compact_reply n bs) f)) ∙ e)
  where
    go : (i j : ℕ) (a b : Bool) → eqb (length bs % 6) 0 ≡ b
        → then (cond a (taken n) (refused 11 i)) (λ m. cond b (taken (compact m (part_of j bs).from (sixes bs))) (refused 15 j)) ≡ taken (compact n p l) → length bs % 6 ≡ 0
    go i j true true h q = eqb-true (length bs % 6) 0 h
    go i j true false h q = no_way (cc)
    go i j false b h q = no_way (cc)

writes_again : (n : ℕ) (bs o s : List ℕ) → n ≤ 2147483647 → length bs % 6 ≡ 0 → length s ≤ 1048576 → text_of n bs ≡ s → write_of n bs o ≡ put_of s 0 o
unfolding write_of
writes_again n bs o s a b c g = rw (le-ltb 2147483647 n a, le-ltb 0 (length bs % 6) (omega (arith, b)), g, le-ltb 1048576 (length s) c)

pub reply-again : (s : List ℕ) (v w : Value) → Encodes s (dict (entry interval v (entry peers w empty))) → (n p : ℕ) (l : List PeerEntry) → reply_of s ≡ taken (compact n p l)
    → (bs : List ℕ) × (take (length bs) (drop p s) ≡ bs) × (l ≡ sixes bs) × ((o : List ℕ) → write_of n bs o ≡ put_of s 0 o)
unfolding Keeps count
reply-again s v w f n p l e =
    let b = rewrite s v w (fine f) n p l e in
    let h = reply-only s (compact n p l) e in
    let k = shown-small s (compact n p l) h.0 h.1 n p l h.4 h.3 refl in
    let g : Fine s (compact_reply n b.0) = record {
      text = sym b.3;
      keeps = (31, refl, (refl, tt, (interval-peers, tt, tt)));
      few = omega arith;
      short = f.3;
    } in
    (b.0, b.1, b.2, λ o. writes_again n b.0 o s k (whole-sixes s n b.0 g p l e) f.3 b.3)

-- a reply whose answer says compact entries has them
pub compact-of : (s : List ℕ) (n p k : ℕ) → map counted (reply_of s) ≡ taken (compact n p k) → (l : List PeerEntry) × (reply_of s ≡ taken (compact n p l)) × (k ≡ length l)
compact-of s n p k e = go (reply_of s) e
  where
    go : (o : Outcome (Answer (List PeerEntry))) → map counted o ≡ taken (compact n p k) → (l : List PeerEntry) × (o ≡ taken (compact n p l)) × (k ≡ length l)
    go (taken (failure a)) d = no_way (cc)
    go (taken (compact m q l)) d = let a : m ≡ n = cc in let b : q ≡ p = cc in let c : length l ≡ k = cc in (l, rw (a, b), sym c)
    go (taken (listing m q l)) d = no_way (cc)
    go (refused m q) d = no_way (cc)
