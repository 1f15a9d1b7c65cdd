-- Demand 1 of `wardrail`, for C: texts, torrents, replies and digests. Assumes nothing.
use Rattle.std.specs.Prelude.{List, ◌≡◌, refl, ℕ, ◌<◌, ◌^◌}
use Rattle.std.proofs.Common.{sym, ◌∙◌}
use Rattle.refusal.specs.Paper.{Outcome, refused}
use Rattle.refusal.specs.declared.Part.{Part}
use Rattle.sheets.specs.declared.Source.{Source}
use Rattle.wardrail.specs.Hashing.{state_of}
use Rattle.wardrail.specs.Said.{word_of, number_in, place_in, text_in}
use Rattle.wardrail.specs.Addresses.{word_from, text_number}
use Rattle.wardrail.proofs.Determined as said
use Rattle.wardrail.proofs.Keeping as kept
use Rattle.wardrail.proofs.Said as told
use Rattle.demands_laws.proofs.Digests as digests
use Rattle.demands.specs.One.{Lent, now, Determined1, Keeps1, Determined2, Determined4, Keeps4}
use Rattle.demands.specs.One.Doors.HostTexts.{check-ensures, look-ensures, address-ensures, link-ensures, week-ensures, week-package-ensures, week-table-ensures, week-package-at-ensures, sha1-ensures, sha1-start-ensures, sha1-add-ensures, sha1-finish-ensures, peer-ensures, reply-ensures, listed_at-ensures, packed_at-ensures, torrent-ensures, info_hash-ensures}

-- ---- the word of a refusal gives its number back, and its place below 2^55

pub word_number : {A : Type 0} (x : Outcome A) (n p : ℕ) → x ≡ refused n p → n < 256 → number_in (word_of x) ≡ n
word_number x n p e h = told.number-told x n p e h

pub word-place : {A : Type 0} (x : Outcome A) (n p : ℕ) → x ≡ refused n p → n < 256 → p < 2 ^ 55 → place_in (word_of x) ≡ p
word-place x n p e h k = told.place-told x n p e h k

-- and so does that of a refusal of one of two texts, which tells the text too: 1 for the torrent, 2 for the sheet

pub word-of-number : (c : Source) (x : Outcome Part) (n p : ℕ) → x ≡ refused n p → n < 256 → number_in (word_from c x) ≡ n
word-of-number c x n p e h = told.number-from c x n p e h

pub word-of-place : (c : Source) (x : Outcome Part) (n p : ℕ) → x ≡ refused n p → n < 256 → p < 2 ^ 55 → place_in (word_from c x) ≡ p
word-of-place c x n p e h k = told.place-from c x n p e h k

pub word-of-text : (c : Source) (x : Outcome Part) (n p : ℕ) → x ≡ refused n p → n < 256 → p < 2 ^ 55 → text_in (word_from c x) ≡ text_number c
word-of-text c x n p e h k = told.text-from c x n p e h k

-- wardrail::wardrail_check
pub check-determined : (text : Lent (List ℕ)) → Determined1 (check-ensures text)
check-determined text detail r r' detail₁ detail₂ e f = said.tells-determined e f

pub check-keeps : (text : Lent (List ℕ)) → Keeps1 (check-ensures text) (λ (r : ℕ). r ≡ 0 → ⊥)
check-keeps text r detail e k = kept.tells-keeps e k

-- wardrail::looks::wardrail_look
pub look-determined : (text : Lent (List ℕ)) (at : ℕ) → Determined1 (look-ensures text at)
look-determined text at detail r r' detail₁ detail₂ e f = said.tells-determined e f

pub look-keeps : (text : Lent (List ℕ)) (at : ℕ) → Keeps1 (look-ensures text at) (λ (r : ℕ). r ≡ 0 → ⊥)
look-keeps text at r detail e k = kept.tells-keeps e k

-- wardrail::addresses::wardrail_address
pub address-determined : (torrent sheet : Lent (List ℕ)) → Determined1 (address-ensures torrent sheet)
address-determined torrent sheet detail r r' detail₁ detail₂ e f = said.tells-of-determined e f

pub address-keeps : (torrent sheet : Lent (List ℕ)) → Keeps1 (address-ensures torrent sheet) (λ (r : ℕ). r ≡ 0 → ⊥)
address-keeps torrent sheet r detail e k = kept.tells-of-keeps e k

-- wardrail::magnets::wardrail_link
pub link-determined : (text : Lent (List ℕ)) → Determined4 (link-ensures text)
link-determined text hash name address detail r r' hash₁ name₁ address₁ detail₁ hash₂ name₂ address₂ detail₂ e f = said.read-to-determined e f

pub link-keeps : (text : Lent (List ℕ)) → Keeps4 (link-ensures text) (λ (r : ℕ). r ≡ 0 → ⊥)
link-keeps text r hash name address detail e k = kept.read-to-keeps _ _ _ _ _ _ _ _ _ _ e k

-- wardrail::weeks::wardrail_week
pub week-determined : (file : Lent (List ℕ)) → Determined1 (week-ensures file)
week-determined file detail r r' detail₁ detail₂ e f = said.tells-determined e f

pub week-keeps : (file : Lent (List ℕ)) → Keeps1 (week-ensures file) (λ (r : ℕ). r ≡ 0 → ⊥)
week-keeps file r detail e k = kept.tells-keeps e k

-- wardrail::weeks::wardrail_week_package
pub week-package-determined : (file : Lent (List ℕ)) (number : ℕ) → Determined1 (week-package-ensures file number)
week-package-determined file number detail r r' detail₁ detail₂ e f = said.tells-determined e f

pub week-package-keeps : (file : Lent (List ℕ)) (number : ℕ) → Keeps1 (week-package-ensures file number) (λ (r : ℕ). r ≡ 0 → ⊥)
week-package-keeps file number r detail e k = kept.tells-keeps e k

-- wardrail::weeks::wardrail_week_table
pub week-table-determined : (file : Lent (List ℕ)) → Determined1 (week-table-ensures file)
week-table-determined file detail r r' detail₁ detail₂ e f = said.tells-determined e f

pub week-table-keeps : (file : Lent (List ℕ)) → Keeps1 (week-table-ensures file) (λ (r : ℕ). r ≡ 0 → ⊥)
week-table-keeps file r detail e k = kept.tells-keeps e k

-- wardrail::weeks::wardrail_week_package_at
pub week-package-at-determined : (file : Lent (List ℕ)) (number : ℕ) → Determined1 (week-package-at-ensures file number)
week-package-at-determined file number detail r r' detail₁ detail₂ e f = said.tells-determined e f

pub week-package-at-keeps : (file : Lent (List ℕ)) (number : ℕ) → Keeps1 (week-package-at-ensures file number) (λ (r : ℕ). r ≡ 0 → ⊥)
week-package-at-keeps file number r detail e k = kept.tells-keeps e k

-- wardrail::wardrail_sha1
pub sha1-determined : (message : Lent (List ℕ)) → Determined1 (sha1-ensures message)
sha1-determined message digest r r' digest₁ digest₂ e f = said.digested-determined e f

pub sha1-keeps : (message : Lent (List ℕ)) → Keeps1 (sha1-ensures message) (λ (r : ℕ). r ≡ 0 → ⊥)
sha1-keeps message r digest e k = e.out ∙ digests.digest-kept k (now message.entry) (now digest.entry) e.word

-- wardrail::hashing::wardrail_sha1_start
pub sha1-start-determined : Determined2 sha1-start-ensures
sha1-start-determined words tail r r' words₁ words₂ tail₁ tail₂ e f = (refl, e.0 ∙ sym f.0, e.1 ∙ sym f.1)

-- wardrail::hashing::wardrail_sha1_add
pub sha1-add-determined : (part : Lent (List ℕ)) → Determined2 (sha1-add-ensures part)
sha1-add-determined part words tail r r' words₁ words₂ tail₁ tail₂ e f = (refl, e.0 ∙ sym f.0, e.1 ∙ sym f.1)

-- wardrail::hashing::wardrail_sha1_finish
pub sha1-finish-determined : (words tail : Lent (List ℕ)) → Determined1 (sha1-finish-ensures words tail)
sha1-finish-determined words tail digest r r' digest₁ digest₂ e f = said.digested-determined e f

pub sha1-finish-keeps : (words tail : Lent (List ℕ)) → Keeps1 (sha1-finish-ensures words tail) (λ (r : ℕ). r ≡ 0 → ⊥)
sha1-finish-keeps words tail r digest e k = e.out ∙ digests.finish-kept k (state_of (now words.entry) (now tail.entry)) (now digest.entry) e.word

-- wardrail::peers::wardrail_peer
pub peer-determined : (text : Lent (List ℕ)) (number : ℕ) → Determined1 (peer-ensures text number)
peer-determined text number detail r r' detail₁ detail₂ e f = said.tells-determined e f

pub peer-keeps : (text : Lent (List ℕ)) (number : ℕ) → Keeps1 (peer-ensures text number) (λ (r : ℕ). r ≡ 0 → ⊥)
peer-keeps text number r detail e k = kept.tells-keeps e k

-- wardrail::replies::wardrail_reply
pub reply-determined : (text : Lent (List ℕ)) → Determined1 (reply-ensures text)
reply-determined text detail r r' detail₁ detail₂ e f = said.tells-determined e f

pub reply-keeps : (text : Lent (List ℕ)) → Keeps1 (reply-ensures text) (λ (r : ℕ). r ≡ 0 → ⊥)
reply-keeps text r detail e k = kept.tells-keeps e k

-- wardrail::replies::wardrail_listed_at
pub listed_at-determined : (text : Lent (List ℕ)) (at : ℕ) → Determined1 (listed_at-ensures text at)
listed_at-determined text at detail r r' detail₁ detail₂ e f = said.tells-determined e f

pub listed_at-keeps : (text : Lent (List ℕ)) (at : ℕ) → Keeps1 (listed_at-ensures text at) (λ (r : ℕ). r ≡ 0 → ⊥)
listed_at-keeps text at r detail e k = kept.tells-keeps e k

-- wardrail::replies::wardrail_packed_at
pub packed_at-determined : (text : Lent (List ℕ)) (at : ℕ) → Determined1 (packed_at-ensures text at)
packed_at-determined text at detail r r' detail₁ detail₂ e f = said.tells-determined e f

pub packed_at-keeps : (text : Lent (List ℕ)) (at : ℕ) → Keeps1 (packed_at-ensures text at) (λ (r : ℕ). r ≡ 0 → ⊥)
packed_at-keeps text at r detail e k = kept.tells-keeps e k

-- wardrail::torrents::wardrail_torrent
pub torrent-determined : (text : Lent (List ℕ)) → Determined1 (torrent-ensures text)
torrent-determined text detail r r' detail₁ detail₂ e f = said.tells-determined e f

pub torrent-keeps : (text : Lent (List ℕ)) → Keeps1 (torrent-ensures text) (λ (r : ℕ). r ≡ 0 → ⊥)
torrent-keeps text r detail e k = kept.tells-keeps e k

-- wardrail::torrents::wardrail_info_hash
pub info_hash-determined : (text : Lent (List ℕ)) → Determined1 (info_hash-ensures text)
info_hash-determined text digest r r' digest₁ digest₂ e f = said.digested-determined e f

pub info_hash-keeps : (text : Lent (List ℕ)) → Keeps1 (info_hash-ensures text) (λ (r : ℕ). r ≡ 0 → ⊥)
info_hash-keeps text r digest e k = e.out ∙ digests.info_hash-kept k (now text.entry) (now digest.entry) e.word
