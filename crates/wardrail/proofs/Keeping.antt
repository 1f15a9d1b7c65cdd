-- An answer other than 0, a refusal or a wait, leaves all that is lent as it was. Assumes nothing.
use Rattle.std.specs.Prelude.{Err}
use mathlib.Core.Path.{◌≡◌, refl, sym, ap, ◌∙◌}
use mathlib.Core.List.{List}
use Prim.Native.Nat.{ℕ}
use Rattle.refusal.specs.Paper.{Outcome, taken, refused, map, Left, left}
use Rattle.refusal.specs.declared.Part.{Part}
use Rattle.torrent_blocks.specs.Spans.{joined_files}
use Rattle.torrent_blocks.specs.Answers.{spot, block_of, parts_written}
use Rattle.torrent_blocks.proofs.Determined.{block-refusal-keeps}
use Rattle.bencode_writer.specs.Put.{put_of}
use Rattle.bencode_writer.proofs.Laws.{refusal-keeps}
use Rattle.peer_wire.specs.Frames.{write_of}
use Rattle.peer_wire.proofs.Written.{write-keeps}
use Rattle.tracker.specs.Writing.{write_of as reply_text_of}
use Rattle.tracker.proofs.Rewriting.{refusal-keeps as reply-keeps}
use Rattle.torrent_authoring.specs.Writing.{Fields, write_of as torrent_text_of}
use Rattle.torrent_authoring.proofs.Written.{refusal-keeps as torrent-keeps}
use Rattle.sheets.specs.declared.Source.{Source}
use Rattle.sheets.specs.declared.Source.TheVariants.{Torrent, Sheet}
use Rattle.sheets.specs.Reading.{Answered}
use Rattle.links.specs.Reading.{Sizes, left_of as read_to}
use Rattle.links.specs.Writing.{write_of as link_text_of}
use Rattle.links.proofs.Answers.{link-keeps, reading-keeps}
use Rattle.week.specs.Writing.{write_of as week_text_of}
use Rattle.week.proofs.Answers.{write-keeps as week-keeps}
use Rattle.wardrail.specs.Said.{word_of, left_of, Tells}
use Rattle.wardrail.specs.Addresses.{word_from, address_detail, TellsOf}
use Rattle.wardrail.specs.Magnets.{link_detail, ReadTo}
use Rattle.wardrail.specs.Writers.{Wrote}

-- a word other than 0 is a refusal's
refusing : {A Q : Type 0} (x : Outcome A) {r : ℕ} → r ≡ word_of x → (r ≡ 0 → ⊥) → ((n p : ℕ) → x ≡ refused n p → Q) → Q
refusing (taken y) e k f = absurd (k e)
refusing (refused n p) e k f = f n p refl

pub tells-keeps : {D : Type 0} {x : Outcome D} {was d : D} {r : ℕ} → Tells x was r d → (r ≡ 0 → ⊥) → d ≡ was
tells-keeps {D} {x} {was} {d} {r} e k = go x e.word e.left
  where
    go : (y : Outcome D) → r ≡ word_of y → d ≡ left_of y was → d ≡ was
    go (taken v) f g = absurd (k f)
    go (refused n p) f g = g

pub tells-of-keeps : {x : Answered} {was d : List ℕ} {r : ℕ} → TellsOf x was r d → (r ≡ 0 → ⊥) → d ≡ was
tells-of-keeps {x} {was} {d} {r} e k = go x.source x.what e.word e.left
  where
    go : (c : Source) (y : Outcome Part) → r ≡ word_from c y → d ≡ left_of (map (address_detail c) y) was → d ≡ was
    go Torrent (taken v) f g = absurd (k f)
    go Sheet (taken v) f g = absurd (k f)
    go c (refused n p) f g = g

-- ---- output: l leaves o where its answer is a refusal

abbrev Keeps : Left ℕ → List ℕ → Type 0
Keeps l o = (was r d : ℕ) (out : List ℕ) → Wrote l was r d out → (r ≡ 0 → ⊥) → (out ≡ o) × (d ≡ was)

keeps : (l : Left ℕ) (o : List ℕ) → ((n p : ℕ) → l.answer ≡ refused n p → l.out ≡ o) → Keeps l o
keeps l o h was r d out w k = (
  w.out ∙ refusing l.answer w.word k h,
  tells-keeps {x = l.answer} (record { word = w.word; left = w.left }) k,
)

-- l is what is left where its answer is a refusal
same_left : (l : Left ℕ) (n p : ℕ) → l.answer ≡ refused n p → left (refused n p) l.out ≡ l
same_left l n p e = ap (λ (a : Outcome ℕ). left a l.out) (sym e)

pub write-frame-keeps : (body o : List ℕ) → Keeps (write_of body o) o
write-frame-keeps body o = keeps (write_of body o) o (write-keeps body o)

-- of a keepalive and a handshake, which are put as they are
pub put_keeps : (w o : List ℕ) → Keeps (put_of w 0 o) o
put_keeps w o = keeps (put_of w 0 o) o (λ n p e. (refusal-keeps w 0 o (Err (record { number = n; place = p })) (same_left (put_of w 0 o) n p e) refl).1)

pub write-reply-keeps : (n : ℕ) (bs o : List ℕ) → Keeps (reply_text_of n bs o) o
write-reply-keeps n bs o = keeps (reply_text_of n bs o) o (λ k p e. (reply-keeps n bs o (Err (record { number = k; place = p })) (same_left (reply_text_of n bs o) k p e) k p refl).2)

pub write-torrent-keeps : (f : Fields) (o : List ℕ) → Keeps (torrent_text_of f o) o
write-torrent-keeps f o = keeps (torrent_text_of f o) o (λ n p e. (torrent-keeps f o (Err (record { number = n; place = p })) (same_left (torrent_text_of f o) n p e) n p refl).2)

pub write-link-keeps : (s o : List ℕ) → Keeps (link_text_of s o) o
write-link-keeps s o = keeps (link_text_of s o) o (λ n p e. link-keeps s o (Err (record { number = n; place = p })) (same_left (link_text_of s o) n p e) n p refl)

pub write-week-keeps : (bs ns o : List ℕ) → Keeps (week_text_of bs ns o) o
write-week-keeps bs ns o = keeps (week_text_of bs ns o) o (λ n p e. week-keeps bs ns o (Err (record { number = n; place = p })) (same_left (week_text_of bs ns o) n p e) n p refl)

-- of a link that is read: the three outputs and the detail
pub read-to-keeps : (s h n a was : List ℕ) (r : ℕ) (d h' n' a' : List ℕ) → ReadTo (read_to s h n a) was r d h' n' a' → (r ≡ 0 → ⊥) → (h' ≡ h) × (n' ≡ n) × (a' ≡ a) × (d ≡ was)
read-to-keeps s h n a was r d h' n' a' w k =
    let (x, y, z) = refusing (read_to s h n a).answer w.word k (reading-keeps s h n a) in
    (w.hash ∙ x, w.name ∙ y, w.address ∙ z, refusing (read_to s h n a).answer w.word k (λ m p e. w.left ∙ ap (λ (o : Outcome Sizes). left_of (map link_detail o) was) e))

pub block-keeps : (ns : List ℕ) (pl p o n : ℕ) (out : List ℕ) → Keeps (parts_written (block_of (joined_files ns) pl (spot p o) n) out) out
block-keeps ns pl p o n out = keeps l out (λ m q e. block-refusal-keeps (joined_files ns) pl p o n out (Err (record { number = m; place = q })) l.out (same_left l m q e) m q refl)
  where
    l : Left ℕ
    l = parts_written (block_of (joined_files ns) pl (spot p o) n) out
