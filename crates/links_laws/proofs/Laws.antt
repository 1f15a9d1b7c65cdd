-- The laws: which texts are read and what is left of the outputs, why a text is refused, and that each contract permits one outcome. Assumes nothing.
use Rattle.std.specs.Prelude.{Err, Ok, Option, Result}
use Rattle.refusal.specs.declared.Refusal.{Refusal}
use mathlib.Core.Path.{◌≡◌, refl, sym, ap, ◌∙◌, subst}
use mathlib.Core.Logic.{◌⊎◌, inl, inr, ◌↔◌}
use mathlib.Core.List.{List, [], ◌∷◌, ◌++◌}
use Prim.Native.Nat.{ℕ, zero, suc, ◌<◌, ◌≤◌}
use native.Mathlib.Omega.{arith}
use borrow.Author.Tests.{lt-ltb, le-ltb, le-leb, lt-leb}
use lib.Dec.{lit<}
use lib.ListN.{length}
use Rattle.refusal.specs.Limits.{most_text}
use Rattle.refusal.specs.Paper.{paper, Outcome, taken, refused, map}
use Rattle.refusal.specs.Numbers as no
use Rattle.refusal.specs.BigEndian.{Bytes, bytes_of}
use Rattle.refusal.proofs.Cases.{less-or}
use Rattle.refusal.proofs.Outcomes.{not_taken, not-refused, same-refusal, paper-determined}
use Rattle.bencode_writer.specs.Put.{Left as PutLeft, left as put_left}
use Rattle.hash_digest.specs.Message.{pad, hashed}
use Rattle.hash_sha1.specs.Sha1.{initial, compress, output, sha1}
use Rattle.hash_sha1.specs.declared.block.Hash.{Hash}
use Rattle.links.specs.Link.{Meaning}
use Rattle.links_laws.specs.Form.{IsLink}
use Rattle.links_laws.specs.Causes.{Fault}
use Rattle.links.specs.Reading.{fed, finish, begun, read_of, size_of, stored_in, Sizes, sizes_of, Left, left, decoded_to, left_of, linked_paper}
use Rattle.links.specs.Writing.{written_of, write_of}
use Rattle.links.proofs.Answers.{reading-keeps}
use Rattle.links_laws.proofs.Exact.{link-sound, link-complete}
use Rattle.links_laws.proofs.Faults.{fault-sound, fault-complete}

refusal_is : {A : Type 0} {m q n p : ℕ} → m ≡ n → q ≡ p → ◌≡◌ {A = Outcome A} (refused m q) (refused n p)
refusal_is a b = rw (a, b)

-- ---- what a text is read as

-- a text says one thing as a link
pub one-meaning : (s : List ℕ) (m n : Meaning) → IsLink s m → IsLink s n → m ≡ n
one-meaning s m n a b = let e : taken m ≡ taken n = sym (link-complete s m a) ∙ link-complete s n b in cc

module _ (s : List ℕ) where
  read-long : most_text < length s → read_of s ≡ refused no.long 0
  unfolding read_of
  read-long l = rw (lt-ltb most_text (length s) l)

  read_short : length s ≤ most_text → read_of s ≡ finish (fed begun s)
  unfolding read_of
  read_short l = rw (le-ltb most_text (length s) l)

  pub read-exact : (m : Meaning) → read_of s ≡ taken m ↔ ((length s ≤ most_text) × IsLink s m)
  read-exact m = (
    λ e. less-or most_text (length s) (λ l. not_taken (sym (read-long l) ∙ e)) (λ l. (l, link-sound s m (sym (read_short l) ∙ e))),
    λ (l, h). read_short l ∙ link-complete s m h,
  )

  read-unread : (n p : ℕ) → read_of s ≡ refused n p → ((n ≡ no.long) × (most_text < length s) × (p ≡ 0)) ⊎ ((n ≡ no.link) × (length s ≤ most_text) × Fault s p)
  read-unread n p e =
      less-or most_text (length s)
      (λ l. let z = same-refusal {A = Meaning} (sym (read-long l) ∙ e) in inl (sym z.0, l, sym z.1))
      (λ l. let z = fault-sound s n p (sym (read_short l) ∙ e) in inr (z.0, l, z.1))

-- ---- what is left of the outputs

module _ (s h d t : List ℕ) where
  -- one of them is too short for what a link says
  abbrev pub Cramped : Meaning → Type 0
  Cramped m = (length d < size_of m.name) ⊎ (length t < size_of m.address)

  data Case : Left → Type 0 where
    stored : (m : Meaning) → read_of s ≡ taken m → size_of m.name ≤ length d → size_of m.address ≤ length t → Case (left (taken (sizes_of m)) m.hash (stored_in m.name d) (stored_in m.address t))
    cramped : (m : Meaning) → read_of s ≡ taken m → Cramped m → Case (left (refused no.room 0) h d t)
    unread : (n p : ℕ) → read_of s ≡ refused n p → Case (left (refused n p) h d t)

  left_by : {o : Outcome Meaning} → read_of s ≡ o → left_of s h d t ≡ decoded_to h d t o
  unfolding left_of
  left_by e = ap (decoded_to h d t) e

  module _ (m : Meaning) (e : read_of s ≡ taken m) where
    pub left-stored : size_of m.name ≤ length d → size_of m.address ≤ length t → left_of s h d t ≡ left (taken (sizes_of m)) m.hash (stored_in m.name d) (stored_in m.address t)
    left-stored a b = left_by e ∙ rw (le-leb (size_of m.name) (length d) a, le-leb (size_of m.address) (length t) b)

    no_name-room : length d < size_of m.name → left_of s h d t ≡ left (refused no.room 0) h d t
    no_name-room a = left_by e ∙ rw (lt-leb (size_of m.name) (length d) a)

    no-address-room : size_of m.name ≤ length d → length t < size_of m.address → left_of s h d t ≡ left (refused no.room 0) h d t
    no-address-room a b = left_by e ∙ rw (le-leb (size_of m.name) (length d) a, lt-leb (size_of m.address) (length t) b)

    left-cramped : Cramped m → left_of s h d t ≡ left (refused no.room 0) h d t
    left-cramped (inl a) = no_name-room a
    left-cramped (inr b) = less-or (length d) (size_of m.name) no_name-room (λ a. no-address-room a b)

    case-taken : Case (left_of s h d t)
    case-taken =
        less-or (length d) (size_of m.name)
        (λ a. subst Case (sym (left-cramped (inl a))) (cramped m e (inl a)))
        (λ a. less-or (length t) (size_of m.address)
        (λ b. subst Case (sym (left-cramped (inr b))) (cramped m e (inr b)))
        (λ b. subst Case (sym (left-stored a b)) (stored m e a b)))

  cases : Case (left_of s h d t)
  cases = go (read_of s) refl
    where
      go : (o : Outcome Meaning) → read_of s ≡ o → Case (left_of s h d t)
      go (taken m) e = case-taken m e
      go (refused n p) e = subst Case (sym (left_by e)) (unread n p e)

  -- taken exactly for a link with room in both outputs
  taken-only : (l : Left) → Case l → (x : Sizes) → l.answer ≡ taken x → (m : Meaning) × (length s ≤ most_text) × IsLink s m × (size_of m.name ≤ length d) × (size_of m.address ≤ length t)
  taken-only l (stored m e a b) x f = let z = (read-exact s m).0 e in (m, z.0, z.1, a, b)
  taken-only l (cramped m e c) x f = not_taken f
  taken-only l (unread n p e) x f = not_taken f

  pub left-exact : ((x : Sizes) × ((left_of s h d t).answer ≡ taken x)) ↔ ((m : Meaning) × (length s ≤ most_text) × IsLink s m × (size_of m.name ≤ length d) × (size_of m.address ≤ length t))
  left-exact = (
    λ (x, e). taken-only (left_of s h d t) cases x e,
    λ (m, l, i, a, b). (sizes_of m, ap (λ (x : Left). x.answer) (left-stored m ((read-exact s m).1 (l, i)) a b)),
  )

  -- and then the answer and the outputs are by what the link says
  said-only : (l : Left) → Case l → (x : Sizes) → l.answer ≡ taken x → (m : Meaning) → IsLink s m
      → (size_of m.name ≤ length d) × (size_of m.address ≤ length t) × (l ≡ left (taken (sizes_of m)) m.hash (stored_in m.name d) (stored_in m.address t))
  said-only l (stored n e a b) x f m i = let z = one-meaning s n m ((read-exact s n).0 e).1 i in rw (sym z) (a, b, refl)
  said-only l (cramped n e c) x f m i = not_taken f
  said-only l (unread n p e) x f m i = not_taken f

  pub left-said : (x : Sizes) → (left_of s h d t).answer ≡ taken x → (m : Meaning) → IsLink s m
      → (size_of m.name ≤ length d) × (size_of m.address ≤ length t) × (left_of s h d t ≡ left (taken (sizes_of m)) m.hash (stored_in m.name d) (stored_in m.address t))
  left-said = said-only (left_of s h d t) cases

  -- why a text is refused, and where: it is too long, has a fault, or is a link for which an output is too short
  abbrev pub Unread : ℕ → ℕ → Type 0
  Unread n p =
      ((n ≡ no.long) × (most_text < length s) × (p ≡ 0))
      ⊎ (((n ≡ no.link) × (length s ≤ most_text) × Fault s p) ⊎ ((n ≡ no.room) × ((m : Meaning) × (length s ≤ most_text) × IsLink s m × Cramped m) × (p ≡ 0)))

  refused-only : (n p : ℕ) (l : Left) → Case l → l.answer ≡ refused n p → Unread n p
  refused-only n p l (stored m e a b) f = not-refused f
  refused-only n p l (cramped m e c) f = let z = same-refusal f in let x = (read-exact s m).0 e in inr (inr (sym z.0, (m, x.0, x.1, c), sym z.1))
  refused-only n p l (unread a b e) f = let z = same-refusal f in by (read-unread s n p (e ∙ refusal_is z.0 z.1))
    where
      by : ((n ≡ no.long) × (most_text < length s) × (p ≡ 0)) ⊎ ((n ≡ no.link) × (length s ≤ most_text) × Fault s p) → Unread n p
      by (inl x) = inl x
      by (inr x) = inr (inl x)

  refused-every : (n p : ℕ) → Unread n p → (left_of s h d t).answer ≡ refused n p
  refused-every n p (inl (e, l, z)) = ap (λ (x : Left). x.answer) (left_by (read-long s l)) ∙ refusal_is (sym e) (sym z)
  refused-every n p (inr (inl (e, l, f))) = ap (λ (x : Left). x.answer) (left_by (read_short s l ∙ fault-complete s p f)) ∙ refusal_is (sym e) refl
  refused-every n p (inr (inr (e, (m, l, i, c), z))) = ap (λ (x : Left). x.answer) (left-cramped m ((read-exact s m).1 (l, i)) c) ∙ refusal_is (sym e) (sym z)

  pub left-refused : (n p : ℕ) → (left_of s h d t).answer ≡ refused n p ↔ Unread n p
  left-refused n p = (refused-only n p (left_of s h d t) cases, refused-every n p)

-- ---- each contract permits one outcome, and a refusal keeps the outputs

abbrev linked_as : Outcome Sizes → Result (Option ℕ × Option ℕ) Refusal
linked_as (taken x) = Ok (x.name, x.address)
linked_as (refused n p) = Err (record { number = n; place = p })

again : (r : Result (Option ℕ × Option ℕ) Refusal) → linked_as (linked_paper r) ≡ r
again (Ok (a, b)) = refl
again (Err r) = refl

module _ (s h d t : List ℕ) (r : Result (Option ℕ × Option ℕ) Refusal) {h₁ d₁ t₁ : List ℕ} (e : left (linked_paper r) h₁ d₁ t₁ ≡ left_of s h d t) where
  pub read-determined : (q : Result (Option ℕ × Option ℕ) Refusal) {h₂ d₂ t₂ : List ℕ} → left (linked_paper q) h₂ d₂ t₂ ≡ left_of s h d t → (r ≡ q) × (h₁ ≡ h₂) × (d₁ ≡ d₂) × (t₁ ≡ t₂)
  read-determined q f =
      let g = e ∙ sym f in
      (sym (again r) ∙ ap (λ (x : Left). linked_as x.answer) g ∙ again q, ap (λ (x : Left). x.hash) g, ap (λ (x : Left). x.name) g, ap (λ (x : Left). x.address) g)

  pub read-keeps : (n p : ℕ) → linked_paper r ≡ refused n p → (h₁ ≡ h) × (d₁ ≡ d) × (t₁ ≡ t)
  read-keeps n p k =
      let (x, y, z) = reading-keeps s h d t n p (sym (ap (λ (l : Left). l.answer) e) ∙ k) in
      (ap (λ (l : Left). l.hash) e ∙ x, ap (λ (l : Left). l.name) e ∙ y, ap (λ (l : Left). l.address) e ∙ z)

pub write-determined : (s o : List ℕ) (r q : Result ℕ Refusal) {out out₁ : List ℕ} → put_left (paper r) out ≡ write_of s o → put_left (paper q) out₁ ≡ write_of s o → (r ≡ q) × (out ≡ out₁)
write-determined s o r q e f = (paper-determined (paper q) r q (ap (λ (x : PutLeft). x.answer) (e ∙ sym f)) refl, ap (λ (x : PutLeft). x.out) (e ∙ sym f))

pub size-determined : (s : List ℕ) (r q : Result ℕ Refusal) → paper r ≡ map length (written_of s) → paper q ≡ map length (written_of s) → r ≡ q
size-determined s r q e f = paper-determined (map length (written_of s)) r q e f

-- ---- bytes

bytes-append : (p q : List ℕ) → Bytes p → Bytes q → Bytes (p ++ q)
bytes-append [] q g h i = h i
bytes-append (b ∷ p) q g h zero = g 0
bytes-append (b ∷ p) q g h (suc i) = bytes-append p q (λ j. g (suc j)) h i

bytes-of : (w x : ℕ) → Bytes (bytes_of w x)
unfolding bytes_of
bytes-of zero x i = lit< tt
bytes-of (suc w) x zero = omega arith
bytes-of (suc w) x (suc i) = bytes-of w x i

one_word : (p : List ℕ) (x : ℕ) → Bytes p → Bytes (p ++ bytes_of 4 x)
one_word p x h = bytes-append p (bytes_of 4 x) h (bytes-of 4 x)

output-bytes : (h : Hash) → Bytes (output h)
output-bytes h =
    let one : List ℕ = bytes_of 4 h.a in
    let two : List ℕ = one ++ bytes_of 4 h.b in
    let three : List ℕ = two ++ bytes_of 4 h.c in
    let four : List ℕ = three ++ bytes_of 4 h.d in
    one_word four h.e (one_word three h.d (one_word two h.c (one_word one h.b (bytes-of 4 h.a))))

pub digest-bytes : (m : List ℕ) → Bytes (sha1 m)
unfolding sha1
digest-bytes m = output-bytes (hashed compress initial (pad m))
