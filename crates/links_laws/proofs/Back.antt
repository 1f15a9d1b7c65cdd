-- A link as it is written is a link, and says what it was written for. Assumes nothing.
use mathlib.Core.Path.{sym, ◌≡◌, refl, subst}
use mathlib.Core.Logic.{◌⊎◌, inl, inr}
use mathlib.Core.Bool.{Bool, true, ◌||◌}
use mathlib.Core.List.{List, [], ◌∷◌}
use Prim.Native.Nat.{ℕ, zero, suc, ◌+◌, ◌*◌, ◌/◌, ◌%◌, ◌<◌}
use native.Mathlib.Omega.{arith}
use borrow.Author.Tests.{eqb-true}
use lib.Dec.{eqb}
use lib.ListN.{length}
use Rattle.refusal.specs.Texts.{bytes}
use Rattle.refusal.specs.BigEndian.{Bytes}
use Rattle.refusal.proofs.Cases.{by_bool, or_cases}
use Rattle.bencode_walk.specs.Lookup.{same_key}
use Rattle.bencode_writer.specs.Escaped.{hex_digit, small_digit, small_hex, escaped_by}
use Rattle.links.specs.Link.{between, letter_or_digit, plain_byte, HexText, no_byte, a_byte, Spells, nothing, plain, escape, NameBytes, no_more, one_more, said}
use Rattle.links_laws.specs.Form.{parted, IsLink}
use Rattle.links.specs.Reading.{field_of, unsaid}
use Rattle.links.specs.Writing.{unreserved, escaped, text_of}
use Rattle.links.specs.declared.scan.Field.TheVariants.{Name, Address}
use Rattle.links.proofs.Digits.{within, most-plain}
use Rattle.links_laws.proofs.Reached.{pair, hash_pair, hash-adds, value-adds}
use Rattle.links_laws.proofs.Exact.{link-of}

-- ---- a byte by its two digits

halves : (b : ℕ) → b < 256 → (16 * (b / 16) + b % 16 ≡ b) × (b / 16 < 16) × (b % 16 < 16)
halves b h = (omega arith, omega arith, omega arith)

hex-written : (bs : List ℕ) → Bytes bs → HexText (small_hex bs) bs
unfolding small_hex
hex-written [] h = no_byte
hex-written (b ∷ bs) h =
    let z = halves b (h zero) in
    subst (λ (c : ℕ). HexText (small_digit (b / 16) ∷ small_digit (b % 16) ∷ small_hex bs) (c ∷ bs)) z.0
    (a_byte (small_digit (b / 16)) (small_digit (b % 16)) (b / 16) (b % 16) (small_hex bs) bs (z.1, inr refl) (z.2, inr refl) (hex-written bs (λ i. h (suc i))))

-- ---- bytes with escapes, by which of them are kept plain

pub spelt-escaped : (kept : ℕ → Bool) → ((b : ℕ) → kept b ≡ true → plain_byte b ≡ true) → (bs : List ℕ) → Bytes bs → Spells (escaped_by kept bs) bs
unfolding escaped_by
spelt-escaped kept k [] h = nothing
spelt-escaped kept k (b ∷ bs) h = go (spelt-escaped kept k bs (λ i. h (suc i)))
  where
    go : Spells (escaped_by kept bs) bs → Spells (escaped_by kept (b ∷ bs)) (b ∷ bs)
    go s =
        by_bool (kept b)
        (λ e. rw e (plain b (escaped_by kept bs) bs (k b e) s))
        (λ e.
        let z = halves b (h zero) in
        rw e
        (subst (λ (c : ℕ). Spells (37 ∷ hex_digit (b / 16) ∷ hex_digit (b % 16) ∷ escaped_by kept bs) (c ∷ bs)) z.0
        (escape (hex_digit (b / 16)) (hex_digit (b % 16)) (b / 16) (b % 16) (escaped_by kept bs) bs (z.1, inl refl) (z.2, inl refl) s)))

-- the unreserved may stand for themselves
unreserved-plain : (b : ℕ) → unreserved b ≡ true → plain_byte b ≡ true
unreserved-plain b e = any (or_cases (letter_or_digit b) (eqb b 45 || (eqb b 46 || (eqb b 95 || eqb b 126))) e)
  where
    in-range : (a c : ℕ) → between a c b ≡ true → 39 < a → c < 127 → plain_byte b ≡ true
    in-range a c f l h = let w = within a c b f in sym (most-plain b (omega (arith, w)) (omega (arith, w)))

    is : (c : ℕ) → eqb b c ≡ true → 39 < c → c < 127 → plain_byte b ≡ true
    is c f l h = let x = eqb-true b c f in sym (most-plain b (omega arith) (omega arith))

    small : (between 97 122 b ≡ true) ⊎ (between 48 57 b ≡ true) → plain_byte b ≡ true
    small (inl f) = in-range 97 122 f (omega arith) (omega arith)
    small (inr f) = in-range 48 57 f (omega arith) (omega arith)

    letter : (between 65 90 b ≡ true) ⊎ ((between 97 122 b || between 48 57 b) ≡ true) → plain_byte b ≡ true
    letter (inl f) = in-range 65 90 f (omega arith) (omega arith)
    letter (inr f) = small (or_cases (between 97 122 b) (between 48 57 b) f)

    last : (eqb b 95 ≡ true) ⊎ (eqb b 126 ≡ true) → plain_byte b ≡ true
    last (inl f) = is 95 f (omega arith) (omega arith)
    last (inr f) = is 126 f (omega arith) (omega arith)

    dot : (eqb b 46 ≡ true) ⊎ ((eqb b 95 || eqb b 126) ≡ true) → plain_byte b ≡ true
    dot (inl f) = is 46 f (omega arith) (omega arith)
    dot (inr f) = last (or_cases (eqb b 95) (eqb b 126) f)

    mark : (eqb b 45 ≡ true) ⊎ ((eqb b 46 || (eqb b 95 || eqb b 126)) ≡ true) → plain_byte b ≡ true
    mark (inl f) = is 45 f (omega arith) (omega arith)
    mark (inr f) = dot (or_cases (eqb b 46) (eqb b 95 || eqb b 126) f)

    any : (letter_or_digit b ≡ true) ⊎ ((eqb b 45 || (eqb b 46 || (eqb b 95 || eqb b 126))) ≡ true) → plain_byte b ≡ true
    any (inl f) = letter (or_cases (between 65 90 b) (between 97 122 b || between 48 57 b) f)
    any (inr f) = mark (or_cases (eqb b 45) (eqb b 46 || (eqb b 95 || eqb b 126)) f)

-- ---- the whole link

name-dn : NameBytes (bytes "dn")
name-dn = one_more 100 (110 ∷ []) refl (one_more 110 [] refl no_more)

name-tr : NameBytes (bytes "tr")
name-tr = one_more 116 (114 ∷ []) refl (one_more 114 [] refl no_more)

pub written-is-link : (h d t : List ℕ) → length h ≡ 20 → Bytes h → Bytes d → Bytes t → IsLink (text_of h d t) (record { hash = h; name = said d; address = said t })
unfolding text_of parted field_of same_key
written-is-link h d t l x y z =
    link-of (text_of h d t) (hash_pair (small_hex h) ∷ pair (bytes "dn") (escaped d) ∷ pair (bytes "tr") (escaped t) ∷ []) 0
    (record { hash = said h; name = said d; address = said t }) (record { hash = h; name = said d; address = said t }) refl (
      h,
      hash-adds unsaid (small_hex h) h (hex-written h x) l refl,
      (
        d,
        value-adds _ (bytes "dn") Name (escaped d) d (record { some = omega arith; name = name-dn; field = refl; other = refl; fresh = refl }) (spelt-escaped unreserved unreserved-plain d y),
        (
          t,
          value-adds _ (bytes "tr") Address (escaped t) t (record { some = omega arith; name = name-tr; field = refl; other = refl; fresh = refl }) (spelt-escaped unreserved unreserved-plain t z),
          refl,
        ),
      ),
    )
    refl
