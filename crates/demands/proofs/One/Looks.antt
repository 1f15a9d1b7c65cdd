-- Statement 4 of demand 1, of the looks at a place of any text: a look refuses by 8 exactly where the text is too long, and by no number but those listed
-- here; r is any answer that the contract of the look permits. Assumes nothing.
use Rattle.refusal.specs.declared.Refusal.{Refusal}
use Rattle.torrent_metainfo.specs.declared.File.{File}
use Rattle.tracker.specs.declared.compact.Packed.{Packed}
use Rattle.tracker.specs.declared.listed.Listed.{Listed}
use Rattle.std.specs.Prelude.{◌≡◌, ◌↔◌, ℕ, ◌<◌, length, Result}
use Rattle.std.proofs.Common.{sym, ◌∙◌}
use mathlib.Core.Logic.Iff
use mathlib.Core.List.{List, [], ◌∷◌, Memᴰ as In}
use Rattle.refusal.specs.Paper.{paper, refused}
use Rattle.refusal.specs.Limits.{most_text}
use Rattle.bencode_walk.specs.Walk.{seen_paper, entry_paper, seek_paper}
use Rattle.bencode_walk.specs.declared.Seen.{Seen}
use Rattle.bencode_walk.specs.declared.Next.{Next}
use Rattle.bencode_walk.specs.declared.Sought.{Sought}
use Rattle.torrent_contents.specs.Paths.{element_paper}
use Rattle.torrent_contents.specs.declared.Element.{Element}
use Rattle.tracker.specs.Entries.{packed_paper, listed_paper}
use Rattle.demands_laws.proofs.Refusals.{same_answer}
use Rattle.demands_laws.proofs.Looks as looks
use Rattle.demands.specs.One.{Lent, now}
use Rattle.demands.specs.One.Doors.Walk as walk
use Rattle.demands.specs.One.Doors.Metainfo as metainfo
use Rattle.demands.specs.One.Doors.Contents as contents
use Rattle.demands.specs.One.Doors.Tracker as tracker

-- of bencode_walk::look
pub look-8 : (text : Lent (List ℕ)) (at : ℕ) (r : Result Seen Refusal) → walk.look-ensures text at r → (p : ℕ) → seen_paper r ≡ refused 8 p ↔ ((most_text < length (now text.entry)) × (p ≡ 0))
look-8 text at r e p = Iff.trans (same_answer e) (looks.look-8 (now text.entry) at p)

pub look-no-other : (text : Lent (List ℕ)) (at : ℕ) (r : Result Seen Refusal) → walk.look-ensures text at r → (k p : ℕ) → seen_paper r ≡ refused k p → In k (1 ∷ 2 ∷ 8 ∷ [])
look-no-other text at r e k p x = looks.look (now text.entry) at k p (sym e ∙ x)

-- of bencode_walk::entry
pub entry-8 : (text : Lent (List ℕ)) (at : ℕ) (r : Result Next Refusal) → walk.entry-ensures text at r → (p : ℕ) → entry_paper r ≡ refused 8 p ↔ ((most_text < length (now text.entry)) × (p ≡ 0))
entry-8 text at r e p = Iff.trans (same_answer e) (looks.entry-8 (now text.entry) at p)

pub entry-no-other : (text : Lent (List ℕ)) (at : ℕ) (r : Result Next Refusal) → walk.entry-ensures text at r → (k p : ℕ) → entry_paper r ≡ refused k p → In k (1 ∷ 2 ∷ 8 ∷ [])
entry-no-other text at r e k p x = looks.entry-look (now text.entry) at k p (sym e ∙ x)

-- of bencode_walk::skip
pub skip-8 : (text : Lent (List ℕ)) (at : ℕ) (r : Result ℕ Refusal) → walk.skip-ensures text at r → (p : ℕ) → paper r ≡ refused 8 p ↔ ((most_text < length (now text.entry)) × (p ≡ 0))
skip-8 text at r e p = Iff.trans (same_answer e) (looks.skip-8 (now text.entry) at p)

pub skip-no-other : (text : Lent (List ℕ)) (at : ℕ) (r : Result ℕ Refusal) → walk.skip-ensures text at r → (k p : ℕ) → paper r ≡ refused k p → In k (1 ∷ 2 ∷ 3 ∷ 5 ∷ 6 ∷ 8 ∷ [])
skip-no-other text at r e k p x = looks.skip (now text.entry) at k p (sym e ∙ x)

-- of bencode_walk::seek
pub seek-8 : (text : Lent (List ℕ)) (at : ℕ) (key : Lent (List ℕ)) (r : Result Sought Refusal) → walk.seek-ensures text at key r → (p : ℕ) → seek_paper r ≡ refused 8 p ↔ ((most_text < length (now text.entry)) × (p ≡ 0))
seek-8 text at key r e p = Iff.trans (same_answer e) (looks.seek-8 (now text.entry) at p (now key.entry))

pub seek-no-other : (text : Lent (List ℕ)) (at : ℕ) (key : Lent (List ℕ)) (r : Result Sought Refusal) → walk.seek-ensures text at key r → (k p : ℕ) → seek_paper r ≡ refused k p → In k (1 ∷ 2 ∷ 3 ∷ 5 ∷ 6 ∷ 8 ∷ [])
seek-no-other text at key r e k p x = looks.seek (now text.entry) at (now key.entry) k p (sym e ∙ x)

-- of torrent_metainfo::file_at
pub file_at-8 : (text : Lent (List ℕ)) (at : ℕ) (r : Result File Refusal) → metainfo.file_at-ensures text at r → (p : ℕ) → paper r ≡ refused 8 p ↔ ((most_text < length (now text.entry)) × (p ≡ 0))
file_at-8 text at r e p = Iff.trans (same_answer e) (looks.file_at-8 (now text.entry) at p)

pub file_at-no-other : (text : Lent (List ℕ)) (at : ℕ) (r : Result File Refusal) → metainfo.file_at-ensures text at r → (k p : ℕ) → paper r ≡ refused k p → In k (1 ∷ 2 ∷ 3 ∷ 5 ∷ 6 ∷ 8 ∷ 10 ∷ 11 ∷ 13 ∷ [])
file_at-no-other text at r e k p x = looks.file-at (now text.entry) at k p (sym e ∙ x)

-- of torrent_contents::element_at
pub element_at-8 : (text : Lent (List ℕ)) (at : ℕ) (r : Result Element Refusal) → contents.element_at-ensures text at r → (p : ℕ) → element_paper r ≡ refused 8 p ↔ ((most_text < length (now text.entry)) × (p ≡ 0))
element_at-8 text at r e p = Iff.trans (same_answer e) (looks.element_at-8 (now text.entry) at p)

pub element_at-no-other : (text : Lent (List ℕ)) (at : ℕ) (r : Result Element Refusal) → contents.element_at-ensures text at r → (k p : ℕ) → element_paper r ≡ refused k p → In k (1 ∷ 2 ∷ 8 ∷ 10 ∷ 13 ∷ [])
element_at-no-other text at r e k p x = looks.element-at (now text.entry) at k p (sym e ∙ x)

-- of tracker::compact::packed_at
pub packed_at-8 : (text : Lent (List ℕ)) (at : ℕ) (r : Result (Packed × ℕ) Refusal) → tracker.packed_at-ensures text at r → (p : ℕ) → packed_paper r ≡ refused 8 p ↔ ((most_text < length (now text.entry)) × (p ≡ 0))
packed_at-8 text at r e p = Iff.trans (same_answer e) (looks.packed_at-8 (now text.entry) at p)

pub packed_at-no-other : (text : Lent (List ℕ)) (at : ℕ) (r : Result (Packed × ℕ) Refusal) → tracker.packed_at-ensures text at r → (k p : ℕ) → packed_paper r ≡ refused k p → In k (1 ∷ 8 ∷ [])
packed_at-no-other text at r e k p x = looks.packed-at (now text.entry) at k p (sym e ∙ x)

-- of tracker::listed::listed_at
pub listed_at-8 : (text : Lent (List ℕ)) (at : ℕ) (r : Result (Listed × ℕ) Refusal) → tracker.listed_at-ensures text at r → (p : ℕ) → listed_paper r ≡ refused 8 p ↔ ((most_text < length (now text.entry)) × (p ≡ 0))
listed_at-8 text at r e p = Iff.trans (same_answer e) (looks.listed_at-8 (now text.entry) at p)

pub listed_at-no-other : (text : Lent (List ℕ)) (at : ℕ) (r : Result (Listed × ℕ) Refusal) → tracker.listed_at-ensures text at r → (k p : ℕ) → listed_paper r ≡ refused k p → In k (1 ∷ 2 ∷ 3 ∷ 5 ∷ 6 ∷ 8 ∷ 10 ∷ 11 ∷ 15 ∷ [])
listed_at-no-other text at r e k p x = looks.listed-at (now text.entry) at k p (sym e ∙ x)
