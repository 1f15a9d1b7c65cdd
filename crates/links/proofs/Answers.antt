-- What the calls leave and answer, by what their steps come to. Assumes nothing.
use Rattle.std.specs.Prelude.{Err, Ok, Option, Result, Some}
use mathlib.Core.Path.{◌≡◌, refl, sym, ap, ◌∙◌}
use mathlib.Core.Bool.{Bool, true, false, cond}
use mathlib.Core.List.{List}
use Prim.Native.Nat.{ℕ, ◌+◌, ◌<◌, ◌≤◌}
use native.Mathlib.Omega.{arith}
use borrow.Author.Tests.{lt-ltb, le-ltb, le-leb, lt-leb}
use lib.ListN.{length}
use lib.Seq.{length-sets}
use Rattle.refusal.specs.Limits.{most_text}
use Rattle.refusal.specs.Paper.{paper, Outcome, taken, refused, refusal, map}
use Rattle.refusal.specs.Numbers as no
use Rattle.refusal.specs.declared.Refusal.{Refusal}
use Rattle.refusal.specs.Parts.{bytes_at}
use Rattle.bencode_writer.specs.Put.{puts, Ran}
use Rattle.bencode_writer.specs.Put.{left as put_left}
use Rattle.bencode_writer.proofs.Laws.{put-done, put-nothing}
use Rattle.bencode_writer.proofs.Puts.{puts-keeps}
use Rattle.refusal.proofs.Cases.{no_way, less-or}
use Rattle.refusal.proofs.Outcomes.{not-refused, map-refused}
use Rattle.hash_sha1.specs.Sha1.{sha1}
use Rattle.hash_sha1.proofs.Determined.{digest-length}
use Rattle.torrent_metainfo.specs.declared.Torrent.{Torrent}
use Rattle.torrent_metainfo.specs.Reading.{read_of as torrent_in}
use Rattle.links.specs.Link.{Said, absent, said, Meaning}
use Rattle.links.specs.Reading.{fed, finish, begun, read_of, size_of, stored_in, given_of, sizes_of, Left, left, room_for, decoded_to, left_of, linked_paper}
use Rattle.links.specs.Writing.{escaped, text_of, link_text, unless_long, written_of, write_of}
use Rattle.links.specs.Places.{SpeltAt, HashAt, Holds, unheld, held, ScannedAs, found, unfound, size_in, given_in}
use Rattle.links.specs.declared.scan.Spelt.{Spelt}
use Rattle.links.proofs.Putting.{text-length}

-- ---- reading

module _ {R : ℕ → List ℕ → Type 0} where
  held-size : {x : Option Spelt} {v : Said} → Holds R x v → size_in x ≡ size_of v
  held-size unheld = refl
  held-size (held p k bs r e) = e

  held-given : {x : Option Spelt} {v : Said} → Holds R x v → given_in x ≡ given_of v
  held-given unheld = refl
  held-given (held p k bs r e) = ap Some e

pub stored-length : (v : Said) (d : List ℕ) → length (stored_in v d) ≡ length d
stored-length absent d = refl
stored-length (said bs) d = length-sets d 0 bs

-- what was found is stored, if there is room
module _ (s : List ℕ) (m : Meaning) (x y : Option Spelt) (i : Holds (SpeltAt s) x m.name) (j : Holds (SpeltAt s) y m.address) (h d t : List ℕ) where
  pub no_name-room : {b : Result (Option ℕ × Option ℕ) Refusal} → length d < size_in x → b ≡ Err (record { number = no.room; place = 0 }) → left (linked_paper b) h d t ≡ decoded_to h d t (taken m)
  no_name-room e f = rw (f, lt-leb (size_of m.name) (length d) (omega (arith, held-size i, e)))

  module _ (e : size_in x ≤ length d) where
    pub no-address-room : {b : Result (Option ℕ × Option ℕ) Refusal} → length t < size_in y → b ≡ Err (record { number = no.room; place = 0 }) → left (linked_paper b) h d t ≡ decoded_to h d t (taken m)
    no-address-room f g =
        rw (g, le-leb (size_of m.name) (length d) (omega (arith, held-size i, e)), lt-leb (size_of m.address) (length t) (omega (arith, held-size j, f)))

    pub stored : size_in y ≤ length t → {b : Result (Option ℕ × Option ℕ) Refusal} {u v : Option ℕ} {h' d' t' : List ℕ} → b ≡ Ok (u, v) → u ≡ given_in x → v ≡ given_in y
        → h' ≡ m.hash → d' ≡ stored_in m.name d → t' ≡ stored_in m.address t → left (linked_paper b) h' d' t' ≡ decoded_to h d t (taken m)
    stored f g a c p q r =
        rw (g, a, c, p, q, r, held-given i, held-given j, le-leb (size_of m.name) (length d) (omega (arith, held-size i, e)), le-leb (size_of m.address) (length t) (omega (arith, held-size j, f)))

-- what was found in a text that is not too long
pub record FoundIn (s : List ℕ) (p : ℕ) (x y : Option Spelt) (o : Outcome Meaning) : Type 0 where
  pub meaning : Meaning
  pub same : o ≡ taken meaning
  pub hash : HashAt s p meaning.hash
  pub name : Holds (SpeltAt s) x meaning.name
  pub address : Holds (SpeltAt s) y meaning.address

pub found_in : {s : List ℕ} {p : ℕ} {x y : Option Spelt} {o : Outcome Meaning} → ScannedAs s (Ok (p, x, y)) o → FoundIn s p x y o
found_in (found p x y m a b c) = record { meaning = m; same = refl; hash = a; name = b; address = c }

broken-at : {s : List ℕ} {p : ℕ} {o : Outcome Meaning} → ScannedAs s (Err p) o → o ≡ refused no.link p
broken-at (unfound p) = refl

module _ (s h d t : List ℕ) where
  pub read-long : {b : Result (Option ℕ × Option ℕ) Refusal} → most_text < length s → b ≡ Err (record { number = no.long; place = 0 }) → left (linked_paper b) h d t ≡ left_of s h d t
  unfolding left_of read_of
  read-long l e = rw (e, lt-ltb most_text (length s) l)

  module _ (l : length s ≤ most_text) where
    read_short : {o : Outcome Meaning} → finish (fed begun s) ≡ o → left_of s h d t ≡ decoded_to h d t o
    unfolding left_of read_of
    read_short e = rw (le-ltb most_text (length s) l, e)

    pub read-broken : {b : Result (Option ℕ × Option ℕ) Refusal} {p : ℕ} → ScannedAs s (Err p) (finish (fed begun s)) → b ≡ Err (record { number = no.link; place = p }) → left (linked_paper b) h d t ≡ left_of s h d t
    read-broken x e = rw e (sym (read_short (broken-at x)))

    pub read_found : {p : ℕ} {x y : Option Spelt} (f : FoundIn s p x y (finish (fed begun s))) → decoded_to h d t (taken f.meaning) ≡ left_of s h d t
    read_found f = sym (read_short f.same)

-- ---- writing

-- what is written, by its length
pub length-taken : (w : List ℕ) {c : ℕ} → taken c ≡ map length (unless_long w) → (c ≡ length w) × (c ≤ most_text)
length-taken w {c} e =
    less-or most_text (length w)
    (λ l.
    let z : taken c ≡ refused no.long 0 = e ∙ rw (lt-ltb most_text (length w) l) refl in not-refused z)
    (λ l.
    let z : taken c ≡ taken (length w) = e ∙ rw (le-ltb most_text (length w) l) refl in
    let k : c ≡ length w = cc in (k, omega (arith, k, l)))

pub length_refused : (o : Outcome (List ℕ)) (d : List ℕ) {n p : ℕ} → refused n p ≡ map length o → put_left (refused n p) d ≡ puts d o
length_refused o d {n} {p} e = rw (map-refused length o n p (sym e)) refl

module _ (s : List ℕ) (t : Torrent) where
  -- how many bytes the link has, by what the parts are
  pub link-length : {c : ℕ} {n a : List ℕ} → n ≡ bytes_at s t.name → a ≡ bytes_at s t.announce → c ≡ 68 + length (escaped n) + length (escaped a) → c ≡ length (link_text s t)
  link-length e f g =
      g ∙ rw (e, f) (sym (text-length (sha1 (bytes_at s t.info)) (bytes_at s t.name) (bytes_at s t.announce) (digest-length (bytes_at s t.info))))

  -- what was handed on is what the link is made of
  module _ {h n a : List ℕ} (e : h ≡ sha1 (bytes_at s t.info)) (f : n ≡ bytes_at s t.name) (g : a ≡ bytes_at s t.announce) where
    pub link-of : text_of h n a ≡ link_text s t
    link-of = ap (λ (x : List ℕ). text_of x n a) e ∙ ap (λ (x : List ℕ). text_of (sha1 (bytes_at s t.info)) x a) f ∙ ap (text_of (sha1 (bytes_at s t.info)) (bytes_at s t.name)) g

    pub link-room : {c : ℕ} (o : List ℕ) → c ≡ length (link_text s t) → c ≤ length o → length (text_of h n a) ≤ length o
    link-room o i l = omega (arith, i, l, ap length link-of)

  module _ {c : ℕ} (e : c ≡ length (link_text s t)) where
    pub size-long : {r : Refusal} → most_text < c → r ≡ record { number = no.long; place = 0 } → refusal r ≡ map length (unless_long (link_text s t))
    size-long l f = rw (f, lt-ltb most_text (length (link_text s t)) (omega arith))

    pub size-whole : c ≤ most_text → taken c ≡ map length (unless_long (link_text s t))
    size-whole l = rw (le-ltb most_text (length (link_text s t)) (omega arith)) (ap taken e)

    module _ (o : List ℕ) where
      module _ (l : c ≤ most_text) where
        pub write-room : {b : Result ℕ Refusal} → length o < c → b ≡ Err (record { number = no.room; place = 0 }) → put_left (paper b) o ≡ puts o (unless_long (link_text s t))
        write-room h f = rw (le-ltb most_text (length (link_text s t)) (omega arith)) (put-nothing (link_text s t) 0 o (omega arith) f)

        pub write-whole : {q : ℕ} {p : List ℕ} → c ≤ length o → Ran (link_text s t) 0 o q p → put_left (taken q) p ≡ puts o (unless_long (link_text s t))
        write-whole h r = rw (le-ltb most_text (length (link_text s t)) (omega arith)) (put-done (link_text s t) 0 o (omega arith) r.place r.out)

  module _ (e : torrent_in s ≡ taken t) where
    pub written_read : unless_long (link_text s t) ≡ written_of s
    unfolding written_of
    written_read = rw e

pub written-refused : (s : List ℕ) (n p : ℕ) → torrent_in s ≡ refused n p → refused n p ≡ written_of s
unfolding written_of
written-refused s n p e = rw e

-- ---- a refusal leaves what is lent

pub reading-keeps : (s h d t : List ℕ) (n p : ℕ) → (left_of s h d t).answer ≡ refused n p → ((left_of s h d t).hash ≡ h) × ((left_of s h d t).name ≡ d) × ((left_of s h d t).address ≡ t)
unfolding left_of
reading-keeps s h d t n p = go (read_of s)
  where
    go : (o : Outcome Meaning) → (decoded_to h d t o).answer ≡ refused n p → ((decoded_to h d t o).hash ≡ h) × ((decoded_to h d t o).name ≡ d) × ((decoded_to h d t o).address ≡ t)
    go (taken m) e = room (room_for m d t) e
      where
        room : (b : Bool) → (cond b (left (taken (sizes_of m)) m.hash (stored_in m.name d) (stored_in m.address t)) (left (refused no.room 0) h d t)).answer ≡ refused n p
            → let l : Left = cond b (left (taken (sizes_of m)) m.hash (stored_in m.name d) (stored_in m.address t)) (left (refused no.room 0) h d t) in (l.hash ≡ h) × (l.name ≡ d) × (l.address ≡ t)
        room true f = no_way (cc)
        room false f = (refl, refl, refl)
    go (refused k q) e = (refl, refl, refl)

pub link-keeps : (s o : List ℕ) (r : Result ℕ Refusal) {out : List ℕ} → put_left (paper r) out ≡ write_of s o → (n p : ℕ) → paper r ≡ refused n p → out ≡ o
link-keeps s o r e n p h = puts-keeps (written_of s) o r e n p h
