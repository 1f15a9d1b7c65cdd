-- What the frame reader takes was written so, and what was written so it takes, whatever follows. Assumes nothing.
use mathlib.Core.Path.{◌≡◌, refl, sym, ap, ◌∙◌}
use mathlib.Core.Logic.{inl, inr}
use mathlib.Core.List.{List, [], ◌∷◌, ◌++◌, append_assoc}
use Prim.Native.Nat.{ℕ, zero, suc, ◌+◌, ◌-◌, ◌≤◌, ◌<◌}
use native.Mathlib.Omega.{arith}
use lib.ListN.{length, get_or, take, drop, length-drop, length-append, take-append-drop}
use lib.Seq.{take-nil, take-add, take_at, take-take, drop-drop, drop-cons, length-take-le, drop-append_seam}
use Rattle.refusal.specs.BigEndian.{Bytes, bytes_of}
use Rattle.refusal.specs.Paper.{Outcome, taken, refused}
use Rattle.refusal.specs.Parts.{bytes_at}
use Rattle.refusal.specs.declared.Part.{Part}
use Rattle.refusal.proofs.Bytes.{big_endian-bytes_of, bytes_of-big_endian}
use Rattle.refusal.proofs.Places.{bytes_drop, bytes_take}
use Rattle.peer_wire.specs.Message.{Message, keepalive, word, body, framed, encode}
use Rattle.peer_wire.specs.Frames.{least, Allowed, Lengths, Keeps, Found, wait, found, number_in, message_in, read_of, meant, Stream, onward, stream_of, encode_all, KeepAll}
use Rattle.peer_wire.specs.Causes.{named, All, Right, Zero, Cause}
use Rattle.peer_wire.proofs.Steps.{most-most, message-map, message-same}
use Rattle.peer_wire.proofs.Bodies.{parse, Laid, laid, written}
use Rattle.peer_wire.proofs.Decided.{exactly, decides}

drop-take : (k m : ℕ) (t : List ℕ) → drop k (take m t) ≡ take (m - k) (drop k t)
drop-take zero m t = let e : m ≡ m - 0 = omega arith in ap (λ (k : ℕ). take k t) e
drop-take (suc k) zero t = let e : zero - suc k ≡ 0 = omega arith in rw e
drop-take (suc k) (suc m) [] = sym (take-nil (suc m - suc k))
drop-take (suc k) (suc m) (a ∷ t) = let e : suc m - suc k ≡ m - k = omega arith in rw e (drop-take k m t)

-- what follows the id of a frame of length n
abbrev payload_in : List ℕ → ℕ → List ℕ
payload_in s n = take (n - 1) (drop 5 s)

module _ (s : List ℕ) (n : ℕ) (there : 4 + n ≤ length s) (some : 0 < n) where
  rest-is : take n (drop 4 s) ≡ get_or s 4 0 ∷ payload_in s n
  rest-is =
      let e : n ≡ suc (n - 1) = omega arith in
      ap (λ (k : ℕ). take k (drop 4 s)) e ∙ ap (take (suc (n - 1))) (drop-cons s 4 0 (omega arith))

  payload-length : suc (length (payload_in s n)) ≡ n
  payload-length =
      let l = length-take-le (n - 1) (drop 5 s) (rw length-drop (omega arith)) in
      omega arith

  -- the message found means what its id and payload say
  pub meant_is : least (get_or s 4 0) ≤ n → meant s (message_in s n) ≡ parse (payload_in s n) (get_or s 4 0)
  meant_is h =
      message-map (bytes_at s) (λ k. number_in s (5 + k)) (λ k. record { from = 5 + k; len = n - (1 + k) }) (get_or s 4 0)
      ∙ message-same n same alike (get_or s 4 0) h
    where
      inside : (k : ℕ) → drop k (payload_in s n) ≡ take (n - (1 + k)) (drop (5 + k) s)
      inside k =
          let e : n - 1 - k ≡ n - (1 + k) = omega arith in
          rw (drop-take k (n - 1) (drop 5 s), drop-drop k 5 s, e)

      same : (k : ℕ) → 5 + k ≤ n → number_in s (5 + k) ≡ number_in (payload_in s n) k
      same k l = rw (inside k, take-take 4 (n - (1 + k)) (drop (5 + k) s) (omega arith))

      alike : (k : ℕ) → take (n - (1 + k)) (drop (5 + k) s) ≡ drop k (payload_in s n)
      alike k = sym (inside k)

-- ---- what is taken was written so

module _ (s : List ℕ) (bytes : Bytes s) where
  prefix-is : 4 ≤ length s → word (named s) ≡ take 4 s
  prefix-is h = rw (length-take-le 4 s h) at (bytes_of-big_endian (take 4 s) (bytes_take 4 s bytes))

  zero_is : Zero s → encode keepalive ≡ take 4 s
  unfolding bytes_of
  zero_is z = rw z.1 at (prefix-is z.0)

  whole_is : All s → Right s → let m = meant s (message_in s (named s)) in (encode m ≡ take (4 + named s) s) × Keeps m
  whole_is a r =
      let n = named s in
      let p = payload_in s n in
      let l : suc (length p) ≡ n = payload-length s n a.2 a.0 in
      let w = written p (bytes_take (n - 1) (drop 5 s) (bytes_drop 5 s bytes)) (get_or s 4 0) (bytes 4) (rw l r) in
      let e : framed (get_or s 4 0 ∷ p) ≡ take (4 + n) s =
      ap (λ (k : ℕ). word k ++ (get_or s 4 0 ∷ p)) l
      ∙ ap (λ (q : List ℕ). q ++ (get_or s 4 0 ∷ p)) (prefix-is (omega arith))
      ∙ ap (λ (q : List ℕ). take 4 s ++ q) (sym (rest-is s n a.2 a.0))
      ∙ sym (take-add 4 n s) in
      rw (meant_is s n a.2 a.0 r.0) (ap framed w.0 ∙ e, (w.1, rw w.0 (rw l r)))

  pub taken-was-written : (m : Message Part) (used : ℕ) → read_of s ≡ taken (found m used) → (encode (meant s m) ≡ take used s) × Keeps (meant s m)
  taken-was-written m used e = go ((exactly s (taken (found m used))).0 e)
    where
      go : Cause s (taken (found m used)) → (encode (meant s m) ≡ take used s) × Keeps (meant s m)
      go (inl (z, k, u)) = rw (k, u) (zero_is z, (tt, tt))
      go (inr (a, r, k, u)) = rw (k, u) (whole_is a r)

-- ---- what was written so is taken

-- reading a frame and any bytes after it finds the message m and uses the frame's bytes
pub record Reads (bytes rest : List ℕ) (m : Message (List ℕ)) : Type 0 where
  pub at : Message Part
  pub answer : read_of (bytes ++ rest) ≡ taken (found at (length bytes))
  pub means : meant (bytes ++ rest) at ≡ m

pub framed-reads : (id : ℕ) (p rest : List ℕ) → Allowed id (suc (length p)) → Reads (framed (id ∷ p)) rest (parse p id)
unfolding bytes_of
framed-reads id p rest a =
    let s = framed (id ∷ p) ++ rest in
    let n = suc (length p) in
    let e : named s ≡ n = big_endian-bytes_of 4 n (omega (arith, most-most id)) in
    let l : length s ≡ 5 + (length p + length rest) = omega (arith, length-append p rest) in
    let all : All s = (omega arith, omega (arith, most-most id), omega arith) in
    let right : Right s = rw e a in
    let t : payload_in s (named s) ≡ p = take_at p rest (named s - 1) (omega arith) in
    record {
      at = message_in s (named s);
      answer = decides s (taken (found (message_in s (named s)) (length (framed (id ∷ p))))) (inr (all, right, refl, omega arith));
      means = meant_is s (named s) (omega arith) (omega arith) right.0 ∙ ap (λ (q : List ℕ). parse q id) t;
    }

keepalive-reads : (rest : List ℕ) → Reads (encode keepalive) rest keepalive
unfolding bytes_of
keepalive-reads rest =
    let s = encode keepalive ++ rest in
    let e : named s ≡ 0 = big_endian-bytes_of 4 0 (omega arith) in
    record { at = keepalive; answer = decides s (taken (found keepalive 4)) (inl ((omega arith, e), refl, refl)); means = refl }

-- a message that may be sent reads back, whatever follows
pub reads-back : (m : Message (List ℕ)) → Keeps m → (rest : List ℕ) → Reads (encode m) rest m
reads-back m k rest = go (body m) (laid m k.0) k.1
  where
    go : (b : List ℕ) → Laid m b → Lengths b → Reads (framed b) rest m
    go [] e l = rw e (keepalive-reads rest)
    go (id ∷ p) e l = rw (← e) (framed-reads id p rest l)

-- ---- a stream

-- messages written one after the other are read back in order, and what follows them is left
pub stream-reads-back : (ms : List (Message (List ℕ))) → KeepAll ms → (rest : List ℕ) → stream_of (length ms) (encode_all ms ++ rest) ≡ record { messages = ms; after = rest }
stream-reads-back [] k rest = refl
stream-reads-back (m ∷ ms) k rest =
    let r = reads-back m k.0 (encode_all ms ++ rest) in
    let later : stream_of (length ms) (encode_all ms ++ rest) ≡ record { messages = ms; after = rest } = stream-reads-back ms k.1 rest in
    rw (append_assoc (encode m) (encode_all ms) rest, r.answer, drop-append_seam (encode m) (encode_all ms ++ rest), later, r.means)

-- a stream's messages, which may be sent, and what is left after them, are its bytes
abbrev Kept : List ℕ → Stream → Type 0
Kept s t = (encode_all t.messages ++ t.after ≡ s) × KeepAll t.messages

kept_by : (s : List ℕ) → Bytes s → (later : ℕ → Stream) → ((used : ℕ) → Kept (drop used s) (later used)) → (o : Outcome Found) → read_of s ≡ o → Kept s (onward s later o)
kept_by s bytes later go (taken (found m used)) e =
    let t = taken-was-written s bytes m used e in
    let l = go used in (
      append_assoc (encode (meant s m)) (encode_all (later used).messages) (later used).after
          ∙ ap (λ (q : List ℕ). encode (meant s m) ++ q) l.0
          ∙ ap (λ (q : List ℕ). q ++ drop used s) t.0
          ∙ take-append-drop used s,
      (t.1, l.1),
    )
kept_by s bytes later go (taken wait) e = (refl, tt)
kept_by s bytes later go (refused n p) e = (refl, tt)

pub stream-kept : (k : ℕ) (s : List ℕ) → Bytes s → Kept s (stream_of k s)
stream-kept zero s bytes = (refl, tt)
stream-kept (suc k) s bytes = kept_by s bytes (λ used. stream_of k (drop used s)) (λ used. stream-kept k (drop used s) (bytes_drop used s bytes)) (read_of s) refl
