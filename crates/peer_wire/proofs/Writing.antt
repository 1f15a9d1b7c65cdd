-- Runs of puts joined, and the ways out of the frame writer. Assumes nothing.
use Rattle.std.specs.Prelude.{Err, Result}
use Rattle.refusal.specs.declared.Refusal.{Refusal}
use mathlib.Core.Path.{◌≡◌, refl, sym, ap, ◌∙◌}
use mathlib.Core.Bool.{true, false}
use mathlib.Core.List.{List, [], ◌∷◌, ◌++◌, append_assoc}
use Prim.Native.Nat.{ℕ, ◌+◌, ◌≤◌, ◌<◌}
use native.Mathlib.Omega.{arith}
use borrow.Author.Tests.{lt-ltb, le-ltb, le-leb}
use lib.ListN.{length, set, length-append, replicate}
use lib.Seq.{sets, length-sets}
use Rattle.refusal.specs.BigEndian.{bytes_of, number_written}
use Rattle.refusal.specs.Limits.{longest_frame}
use Rattle.refusal.specs.Numbers.{frame, payload, room}
use Rattle.refusal.specs.Paper.{paper, Outcome, refused}
use Rattle.refusal.proofs.Bytes.{length-bytes_of}
use Rattle.refusal.proofs.Places.{sets-append}
use Rattle.bencode_writer.specs.Put.{Left, left, put_of}
use Rattle.bencode_writer.proofs.Laws.{put_whole, put-nothing}
use Rattle.peer_wire.specs.Message.{word, framed}
use Rattle.peer_wire.specs.Frames.{allowed, write_of}
use Rattle.peer_wire.specs.Handshake.{name, zeros, handshake}

-- ---- puts one after the other

-- what a put that fits leaves
pub put-out : (w : List ℕ) (at : ℕ) (o : List ℕ) {a : Outcome ℕ} {out : List ℕ} → at + length w ≤ length o → left a out ≡ put_of w at o → out ≡ sets o at w
put-out w at o h e = ap (λ (x : Left). x.out) (e ∙ put_whole w at o h)

-- bytes put right after bytes that were stored are put with them
pub put-after : (v w : List ℕ) (at q : ℕ) (o : List ℕ) {a : Outcome ℕ} {mid out : List ℕ} → at + length v + length w ≤ length o → q ≡ at + length v → mid ≡ sets o at v
    → left a out ≡ put_of w q mid → left a out ≡ put_of (v ++ w) at o
put-after v w at q o {mid = mid} h p m e =
    let l : length mid ≡ length o = ap length m ∙ length-sets o at v in
    let k : length (v ++ w) ≡ length v + length w = length-append v w in
    let u : q + length w ≡ at + length (v ++ w) = omega arith in
    let s : sets mid q w ≡ sets o at (v ++ w) = rw (p, m) (sym (sets-append o at v w)) in
    e ∙ put_whole w q mid (omega arith) ∙ rw (u, s) (sym (put_whole (v ++ w) at o (omega arith)))

-- ---- the frame writer

refusing : {r : Result ℕ Refusal} {n : ℕ} {o : List ℕ} {l : Left} → r ≡ Err (record { number = n; place = 0 }) → l ≡ left (refused n 0) o → left (paper r) o ≡ l
refusing e f = rw e (sym f)

module _ (id : ℕ) (numbers rest o : List ℕ) where
  abbrev whole : List ℕ
  whole = id ∷ (numbers ++ rest)

  length_whole : length whole ≡ 1 + length numbers + length rest
  length_whole = omega (arith, length-append numbers rest)

  pub write-long : {r : Result ℕ Refusal} → longest_frame < 1 + length numbers + length rest → r ≡ Err (record { number = frame; place = 0 }) → left (paper r) o ≡ write_of whole o
  unfolding write_of
  write-long h e = refusing e (rw (lt-ltb longest_frame (length whole) (rw length_whole h)))

  module _ (n : ℕ) (l : n ≡ 1 + length numbers + length rest) (few : n ≤ longest_frame) where
    abbrev head : List ℕ
    head = word n ++ (id ∷ [])

    length-head : length head ≡ 5
    length-head = omega (arith, length-append (word n) (id ∷ []), length-bytes_of 4 n)

    length-is : length whole ≡ n
    length-is = length_whole ∙ sym l

    pub write-wrong : {r : Result ℕ Refusal} → allowed id n ≡ false → r ≡ Err (record { number = payload; place = 0 }) → left (paper r) o ≡ write_of whole o
    unfolding write_of
    write-wrong a e = refusing e (rw (length-is, le-ltb longest_frame n few, a))

    module _ (a : allowed id n ≡ true) where
      write-right : write_of whole o ≡ put_of (framed whole) 0 o
      unfolding write_of
      write-right = rw (length-is, le-ltb longest_frame n few, a)

      length-framed : length (framed whole) ≡ 4 + n
      length-framed = omega (arith, length-append (word (length whole)) whole, length-bytes_of 4 (length whole), length-is)

      pub write-short : {r : Result ℕ Refusal} → length o < 4 + n → r ≡ Err (record { number = room; place = 0 }) → left (paper r) o ≡ write_of whole o
      write-short h e = put-nothing (framed whole) 0 o (omega (arith, length-framed)) e ∙ sym write-right

      -- the length, the id, the numbers, the rest
      module _ (there : 4 + n ≤ length o) {b d : Outcome ℕ} {first mid out : List ℕ} (q : ℕ) (p : q ≡ 5 + length numbers) (w : first ≡ number_written 4 o 0 n)
          (x : left b mid ≡ put_of numbers 5 (set first 4 id)) (y : left d out ≡ put_of rest q mid) where
        head-out : set first 4 id ≡ sets o 0 head
        head-out =
            let e : number_written 4 o 0 n ≡ sets o 0 (word n) = rw (le-leb 4 (length o) (omega arith)) in
            let s : sets o 0 head ≡ sets (sets o 0 (word n)) (0 + length (word n)) (id ∷ []) = sets-append o 0 (word n) (id ∷ []) in
            rw (w, e, s, length-bytes_of 4 n)

        mid-out : mid ≡ sets o 0 (head ++ numbers)
        mid-out =
            put-out (head ++ numbers) 0 o (omega (arith, length-append head numbers, length-head))
            (put-after head numbers 0 5 o (omega (arith, length-head)) (sym length-head ∙ omega arith) head-out x)

        pub write_done : left d out ≡ write_of whole o
        write_done =
            let e : (head ++ numbers) ++ rest ≡ framed whole =
            append_assoc head numbers rest ∙ append_assoc (word n) (id ∷ []) (numbers ++ rest) ∙ ap (λ (k : ℕ). word k ++ whole) (sym length-is) in
            (rw e at (put-after (head ++ numbers) rest 0 q o (omega (arith, length-append head numbers, length-head)) (omega (arith, length-append head numbers, length-head)) mid-out y))
            ∙ sym write-right

        pub write_kept : length out ≡ length o
        write_kept =
            ap length (put-out rest q mid (omega (arith, ap length mid-out, length-sets o 0 (head ++ numbers))) y)
            ∙ length-sets mid q rest
            ∙ ap length mid-out
            ∙ length-sets o 0 (head ++ numbers)

-- ---- numbers in arrays

module _ (a b c : ℕ) where
  pub one_written : {x : List ℕ} → x ≡ number_written 4 (replicate 4 0) 0 a → x ≡ word a
  unfolding bytes_of
  one_written e = e

  pub two-written : {x y : List ℕ} → x ≡ number_written 4 (replicate 8 0) 0 a → y ≡ number_written 4 x 4 b → y ≡ word a ++ word b
  unfolding bytes_of
  two-written e f = rw e at f

  pub three-written : {x y z : List ℕ} → x ≡ number_written 4 (replicate 12 0) 0 a → y ≡ number_written 4 x 4 b → z ≡ number_written 4 y 8 c → z ≡ word a ++ (word b ++ word c)
  unfolding bytes_of
  three-written e f g = rw (f, e) at g

  -- numbers and what follows them
  pub one-alone : {x : List ℕ} → x ≡ word a → x ++ [] ≡ word a
  unfolding bytes_of
  one-alone e = rw e

  pub three-alone : {x : List ℕ} → x ≡ word a ++ (word b ++ word c) → x ++ [] ≡ word a ++ (word b ++ word c)
  unfolding bytes_of
  three-alone e = rw e

  pub two-before : (block : List ℕ) {x : List ℕ} → x ≡ word a ++ word b → x ++ block ≡ word a ++ (word b ++ block)
  two-before block e = rw e (append_assoc (word a) (word b) block)

-- ---- the handshake

module _ (info peer o : List ℕ) (i : length info ≡ 20) (p : length peer ≡ 20) where
  shake-length : length (handshake zeros info peer) ≡ 68
  shake-length = omega (arith, length-append info peer)

  pub shake-short : {r : Result ℕ Refusal} → length o < 68 → r ≡ Err (record { number = room; place = 0 }) → left (paper r) o ≡ put_of (handshake zeros info peer) 0 o
  shake-short h e = put-nothing (handshake zeros info peer) 0 o (omega (arith, shake-length)) e

  module _ (there : 68 ≤ length o) {a b d : Outcome ℕ} {first mid out : List ℕ} (w : left a first ≡ put_of (name ++ zeros) 0 o)
      (x : left b mid ≡ put_of info 28 first) (y : left d out ≡ put_of peer 48 mid) where
    shake-mid : mid ≡ sets o 0 ((name ++ zeros) ++ info)
    shake-mid =
        put-out ((name ++ zeros) ++ info) 0 o (omega (arith, length-append (name ++ zeros) info))
        (put-after (name ++ zeros) info 0 28 o (omega arith) refl (put-out (name ++ zeros) 0 o (omega arith) w) x)

    pub shake-done : left d out ≡ put_of (handshake zeros info peer) 0 o
    shake-done =
        put-after ((name ++ zeros) ++ info) peer 0 48 o (omega (arith, length-append (name ++ zeros) info)) (omega (arith, length-append (name ++ zeros) info)) shake-mid y
