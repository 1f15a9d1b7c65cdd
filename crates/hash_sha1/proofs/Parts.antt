-- However a message is cut, adding its parts and finishing gives what hashing the whole gives. Assumes nothing.
use Rattle.std.proofs.Common.{◌≡◌, refl, sym, ap, ◌∙◌, Bool, true, false, cond, List, [], ◌∷◌, ◌++◌, append-nil, append_assoc, ℕ, ◌+◌, ◌≤◌, ◌<◌, arith, le-leb, leb-true, leb-false, leb, length, length-append}
use borrow.Author.Tests.{lt-leb}
use Rattle.refusal.specs.Paper.{taken, refused}
use Rattle.refusal.specs.Numbers.{long}
use Rattle.refusal.specs.Limits.{longest_piece}
use Rattle.hash_digest.specs.Message.{padding, folded, hashed, rest, filled}
use Rattle.hash_digest.proofs.Blocks.{held-rest, hashed-append, rest-append}
use Rattle.hash_sha1.specs.Sha1.{initial, compress, output, sha1}
use Rattle.hash_sha1.specs.Digest.{left, digest_of}
use Rattle.hash_sha1.specs.Parts.{begun, over, held, grown, add_of, joined, add_all, finish_of}
use Rattle.hash_sha1.specs.declared.block.Hash.{Hash}
use Rattle.hash_sha1.specs.declared.stream.Stream.{Stream}

-- the state of a message: after its whole blocks, with what they leave
abbrev pub state : List ℕ → Stream
state m = record { hash = hashed compress initial m; tail = filled 64 (rest m); length = length m }

-- the same, or that it is too long
abbrev pub state_of : List ℕ → Stream
state_of m = cond (leb (length m) longest_piece) (state m) over

-- a state is its three parts
pub same-state : {h h' : Hash} {t t' : List ℕ} {n n' : ℕ} → h ≡ h' → t ≡ t' → n ≡ n'
    → ◌≡◌ {A = Stream} (record { hash = h; tail = t; length = n }) (record { hash = h'; tail = t'; length = n' })
same-state a b c = cc

-- a part after a message: the state of both
pub grown-state : (m l : List ℕ) → grown (state m) l ≡ state (m ++ l)
grown-state m l =
    let e : held (state m) ≡ rest m = held-rest m in
    same-state
    (ap (λ (x : List ℕ). hashed compress (hashed compress initial m) (x ++ l)) e ∙ sym (hashed-append compress initial m l))
    (ap (λ (x : List ℕ). filled 64 (rest (x ++ l))) e ∙ ap (filled 64) (sym (rest-append m l)))
    (sym (length-append m l))

state-whole : (m : List ℕ) → length m ≤ longest_piece → state_of m ≡ state m
state-whole m h = ap (λ (t : Bool). cond t (state m) over) (le-leb (length m) longest_piece h)

state-over : (m : List ℕ) → longest_piece < length m → state_of m ≡ over
state-over m h = ap (λ (t : Bool). cond t (state m) over) (lt-leb (length m) longest_piece h)

-- a state with a part that keeps within the limit, or not
pub add-whole : (s : Stream) (l : List ℕ) → s.length + length l ≤ longest_piece → add_of s l ≡ grown s l
unfolding add_of
add-whole s l h = ap (λ (t : Bool). cond t (grown s l) over) (le-leb (s.length + length l) longest_piece h)

pub add-over : (s : Stream) (l : List ℕ) → longest_piece < s.length + length l → add_of s l ≡ over
unfolding add_of
add-over s l h = ap (λ (t : Bool). cond t (grown s l) over) (lt-leb (s.length + length l) longest_piece h)

-- by whether a number is within the limit
pub by-limit : (n : ℕ) {P : Type 0} → (n ≤ longest_piece → P) → (longest_piece < n → P) → P
by-limit n {P} x y = go (leb n longest_piece) refl
  where
    go : (t : Bool) → leb n longest_piece ≡ t → P
    go true e = x (leb-true n longest_piece e)
    go false e = y (leb-false n longest_piece e)

pub add-state : (m l : List ℕ) → add_of (state_of m) l ≡ state_of (m ++ l)
add-state m l =
    let k = length-append m l in
    by-limit (length m)
    (λ h.
    ap (λ (s : Stream). add_of s l) (state-whole m h)
    ∙ by-limit (length m + length l)
    (λ b. add-whole (state m) l b ∙ grown-state m l ∙ sym (state-whole (m ++ l) (omega arith)))
    (λ b. add-over (state m) l b ∙ sym (state-over (m ++ l) (omega arith))))
    (λ h. ap (λ (s : Stream). add_of s l) (state-over m h) ∙ add-over over l (omega arith) ∙ sym (state-over (m ++ l) (omega arith)))

begun-state : begun ≡ state_of []
unfolding folded
begun-state = refl

-- all parts, after a message
pub add-all : (m : List ℕ) (parts : List (List ℕ)) → add_all (state_of m) parts ≡ state_of (m ++ joined parts)
unfolding add_all joined
add-all m [] = ap state_of (sym (append-nil m))
add-all m (l ∷ parts) = ap (λ (s : Stream). add_all s parts) (add-state m l) ∙ add-all (m ++ l) parts ∙ ap state_of (append_assoc m l (joined parts))

pub finish-whole : (s : Stream) (o : List ℕ) → s.length ≤ longest_piece
    → finish_of s o ≡ left (taken tt) (output (hashed compress s.hash (held s ++ padding s.length)))
unfolding finish_of
finish-whole s o h = rw (le-leb s.length longest_piece h)

pub finish-over : (s : Stream) (o : List ℕ) → longest_piece < s.length → finish_of s o ≡ left (refused long 0) o
unfolding finish_of
finish-over s o h = rw (lt-leb s.length longest_piece h)

pub digest-whole : (m o : List ℕ) → length m ≤ longest_piece → digest_of m o ≡ left (taken tt) (sha1 m)
unfolding digest_of
digest-whole m o h = rw (le-leb (length m) longest_piece h)

pub digest-over : (m o : List ℕ) → longest_piece < length m → digest_of m o ≡ left (refused long 0) o
unfolding digest_of
digest-over m o h = rw (lt-leb (length m) longest_piece h)

-- the state of a message, finished
pub finish-state : (m o : List ℕ) → finish_of (state_of m) o ≡ digest_of m o
unfolding sha1
finish-state m o =
    by-limit (length m)
    (λ h.
    ap (λ (s : Stream). finish_of s o) (state-whole m h) ∙ finish-whole (state m) o h
    ∙ ap (λ (x : List ℕ). left (taken tt) (output (hashed compress (hashed compress initial m) (x ++ padding (length m))))) (held-rest m)
    ∙ ap (λ (x : Hash). left (taken tt) (output x)) (sym (hashed-append compress initial m (padding (length m)))) ∙ sym (digest-whole m o h))
    (λ h. ap (λ (s : Stream). finish_of s o) (state-over m h) ∙ finish-over over o (omega arith) ∙ sym (digest-over m o h))

-- however a message is cut, what its parts give is what the whole gives
pub parts_whole : (parts : List (List ℕ)) (o : List ℕ) → finish_of (add_all begun parts) o ≡ digest_of (joined parts) o
parts_whole parts o =
    ap (λ (s : Stream). finish_of (add_all s parts) o) begun-state ∙ ap (λ (s : Stream). finish_of s o) (add-all [] parts) ∙ finish-state (joined parts) o
