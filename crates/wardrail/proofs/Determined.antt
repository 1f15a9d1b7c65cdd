-- What the calls from C permit is one answer and one content of what is lent, and what C holds of a message is the very state. Assumes nothing.
-- Each law is stated of any outcome, so it serves each call.
use mathlib.Core.Path.{◌≡◌, refl, sym, ◌∙◌}
use mathlib.Core.List.{List}
use Prim.Native.Nat.{ℕ}
use Rattle.refusal.specs.Paper.{Outcome, Left}
use Rattle.hash_sha1.specs.declared.stream.Stream.{Stream}
use Rattle.sheets.specs.Reading.{Answered}
use Rattle.links.specs.Reading.{Left as Link}
use Rattle.wardrail.specs.Said.{Tells}
use Rattle.wardrail.specs.Addresses.{TellsOf}
use Rattle.wardrail.specs.Hashing.{words_of, state_of, Digested}
use Rattle.wardrail.specs.Magnets.{ReadTo}
use Rattle.wardrail.specs.Writers.{Wrote}

pub tells-determined : {D : Type 0} {x : Outcome D} {was d d' : D} {r t : ℕ} → Tells x was r d → Tells x was t d' → (r ≡ t) × (d ≡ d')
tells-determined e f = (e.word ∙ sym f.word, e.left ∙ sym f.left)

pub tells-of-determined : {x : Answered} {was d d' : List ℕ} {r t : ℕ} → TellsOf x was r d → TellsOf x was t d' → (r ≡ t) × (d ≡ d')
tells-of-determined e f = (e.word ∙ sym f.word, e.left ∙ sym f.left)

-- of a call with lent output: the word, the output and the detail
pub wrote-determined : {l : Left ℕ} {was r t d d' : ℕ} {o o' : List ℕ} → Wrote l was r d o → Wrote l was t d' o' → (r ≡ t) × (o ≡ o') × (d ≡ d')
wrote-determined e f = (e.word ∙ sym f.word, e.out ∙ sym f.out, e.left ∙ sym f.left)

pub digested-determined : {l : Left (Unit {0})} {r t : ℕ} {o o' : List ℕ} → Digested l r o → Digested l t o' → (r ≡ t) × (o ≡ o')
digested-determined e f = (e.word ∙ sym f.word, e.out ∙ sym f.out)

-- of a link that is read: the word, the three outputs and the detail
pub read-to-determined : {l : Link} {was d d' : List ℕ} {r t : ℕ} {h h' n n' a a' : List ℕ} → ReadTo l was r d h n a → ReadTo l was t d' h' n' a'
    → (r ≡ t) × (h ≡ h') × (n ≡ n') × (a ≡ a') × (d ≡ d')
read-to-determined e f = (e.word ∙ sym f.word, e.hash ∙ sym f.hash, e.name ∙ sym f.name, e.address ∙ sym f.address, e.left ∙ sym f.left)

pub state-is-held : (s : Stream) → state_of (words_of s) s.tail ≡ s
state-is-held s = refl
