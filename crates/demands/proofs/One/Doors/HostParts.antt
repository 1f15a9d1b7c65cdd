-- Demand 1 of `wardrail`, for C: files, frames and blocks. Assumes nothing.
use Rattle.std.specs.Prelude.{List, ◌≡◌, ℕ}
use Rattle.wardrail.proofs.Determined as said
use Rattle.wardrail.proofs.Keeping as kept
use Rattle.demands.specs.One.{Lent, now, Determined1, Keeps1, Determined2, Keeps2}
use Rattle.demands.specs.One.Doors.HostParts.{file-ensures, file_at-ensures, element_at-ensures, piece_hash-ensures, piece-check-ensures, frame-ensures, handshake-ensures, block-ensures, byte-ensures, piece_size-ensures}

-- wardrail::files::wardrail_file
pub file-determined : (text : Lent (List ℕ)) (number : ℕ) → Determined1 (file-ensures text number)
file-determined text number detail r r' detail₁ detail₂ e f = said.tells-determined e f

pub file-keeps : (text : Lent (List ℕ)) (number : ℕ) → Keeps1 (file-ensures text number) (λ (r : ℕ). r ≡ 0 → ⊥)
file-keeps text number r detail e k = kept.tells-keeps e k

-- wardrail::files::wardrail_file_at
pub file_at-determined : (text : Lent (List ℕ)) (at : ℕ) → Determined1 (file_at-ensures text at)
file_at-determined text at detail r r' detail₁ detail₂ e f = said.tells-determined e f

pub file_at-keeps : (text : Lent (List ℕ)) (at : ℕ) → Keeps1 (file_at-ensures text at) (λ (r : ℕ). r ≡ 0 → ⊥)
file_at-keeps text at r detail e k = kept.tells-keeps e k

-- wardrail::files::wardrail_element_at
pub element_at-determined : (text : Lent (List ℕ)) (at : ℕ) → Determined1 (element_at-ensures text at)
element_at-determined text at detail r r' detail₁ detail₂ e f = said.tells-determined e f

pub element_at-keeps : (text : Lent (List ℕ)) (at : ℕ) → Keeps1 (element_at-ensures text at) (λ (r : ℕ). r ≡ 0 → ⊥)
element_at-keeps text at r detail e k = kept.tells-keeps e k

-- wardrail::files::wardrail_piece_hash
pub piece_hash-determined : (text : Lent (List ℕ)) (piece : ℕ) → Determined1 (piece_hash-ensures text piece)
piece_hash-determined text piece detail r r' detail₁ detail₂ e f = said.tells-determined e f

pub piece_hash-keeps : (text : Lent (List ℕ)) (piece : ℕ) → Keeps1 (piece_hash-ensures text piece) (λ (r : ℕ). r ≡ 0 → ⊥)
piece_hash-keeps text piece r detail e k = kept.tells-keeps e k

-- wardrail::files::wardrail_piece_check
pub piece-check-determined : (text : Lent (List ℕ)) (piece : ℕ) (bytes : Lent (List ℕ)) → Determined1 (piece-check-ensures text piece bytes)
piece-check-determined text piece bytes detail r r' detail₁ detail₂ e f = said.tells-determined e f

pub piece-check-keeps : (text : Lent (List ℕ)) (piece : ℕ) (bytes : Lent (List ℕ)) → Keeps1 (piece-check-ensures text piece bytes) (λ (r : ℕ). r ≡ 0 → ⊥)
piece-check-keeps text piece bytes r detail e k = kept.tells-keeps e k

-- wardrail::frames::wardrail_frame
pub frame-determined : (bytes : Lent (List ℕ)) → Determined1 (frame-ensures bytes)
frame-determined bytes detail r r' detail₁ detail₂ e f = said.tells-determined e f

pub frame-keeps : (bytes : Lent (List ℕ)) → Keeps1 (frame-ensures bytes) (λ (r : ℕ). r ≡ 0 → ⊥)
frame-keeps bytes r detail e k = kept.tells-keeps e k

-- wardrail::frames::wardrail_handshake
pub handshake-determined : (bytes info : Lent (List ℕ)) → Determined1 (handshake-ensures bytes info)
handshake-determined bytes info detail r r' detail₁ detail₂ e f = said.tells-determined e f

pub handshake-keeps : (bytes info : Lent (List ℕ)) → Keeps1 (handshake-ensures bytes info) (λ (r : ℕ). r ≡ 0 → ⊥)
handshake-keeps bytes info r detail e k = kept.tells-keeps e k

-- wardrail::mapping::wardrail_block
pub block-determined : (lengths : Lent (List ℕ)) (piece_length piece offset count : ℕ) → Determined2 (block-ensures lengths piece_length piece offset count)
block-determined lengths piece_length piece offset count out detail r r' out₁ out₂ detail₁ detail₂ e f = said.wrote-determined e f

pub block-keeps : (lengths : Lent (List ℕ)) (piece_length piece offset count : ℕ) → Keeps2 (block-ensures lengths piece_length piece offset count) (λ (r : ℕ). r ≡ 0 → ⊥)
block-keeps lengths piece_length piece offset count r out detail e k = kept.block-keeps (now lengths.entry) piece_length piece offset count (now out.entry) _ _ _ _ e k

-- wardrail::mapping::wardrail_byte
pub byte-determined : (lengths : Lent (List ℕ)) (piece_length file offset : ℕ) → Determined1 (byte-ensures lengths piece_length file offset)
byte-determined lengths piece_length file offset detail r r' detail₁ detail₂ e f = said.tells-determined e f

pub byte-keeps : (lengths : Lent (List ℕ)) (piece_length file offset : ℕ) → Keeps1 (byte-ensures lengths piece_length file offset) (λ (r : ℕ). r ≡ 0 → ⊥)
byte-keeps lengths piece_length file offset r detail e k = kept.tells-keeps e k

-- wardrail::mapping::wardrail_piece_size
pub piece_size-determined : (lengths : Lent (List ℕ)) (piece_length piece : ℕ) → Determined1 (piece_size-ensures lengths piece_length piece)
piece_size-determined lengths piece_length piece detail r r' detail₁ detail₂ e f = said.tells-determined e f

pub piece_size-keeps : (lengths : Lent (List ℕ)) (piece_length piece : ℕ) → Keeps1 (piece_size-ensures lengths piece_length piece) (λ (r : ℕ). r ≡ 0 → ⊥)
piece_size-keeps lengths piece_length piece r detail e k = kept.tells-keeps e k
