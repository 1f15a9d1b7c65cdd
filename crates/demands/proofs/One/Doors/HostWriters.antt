-- Demand 1 of `wardrail`, for C: what is written. Assumes nothing.
use Rattle.std.specs.Prelude.{List, ◌≡◌, ℕ, length}
use Rattle.wardrail.proofs.Determined as said
use Rattle.wardrail.proofs.Keeping as kept
use Rattle.demands.specs.One.{Lent, Determined2, Keeps2, Determined1, Keeps1}
use Rattle.demands.specs.One.Doors.HostWriters.{write-frame-ensures, write-keepalive-ensures, write-handshake-ensures, write-torrent-ensures, torrent-size-ensures, write-link-ensures, write-week-ensures, link-size-ensures, write-reply-ensures}

-- wardrail::writers::wardrail_write_frame
pub write-frame-determined : (id : ℕ) (payload : Lent (List ℕ)) → Determined2 (write-frame-ensures id payload)
write-frame-determined id payload out detail r r' out₁ out₂ detail₁ detail₂ e f = said.wrote-determined e f

pub write-frame-keeps : (id : ℕ) (payload : Lent (List ℕ)) → Keeps2 (write-frame-ensures id payload) (λ (r : ℕ). r ≡ 0 → ⊥)
write-frame-keeps id payload r out detail e k = kept.write-frame-keeps _ _ _ _ _ _ e k

-- wardrail::writers::wardrail_write_keepalive
pub write-keepalive-determined : Determined2 write-keepalive-ensures
write-keepalive-determined out detail r r' out₁ out₂ detail₁ detail₂ e f = said.wrote-determined e f

pub write-keepalive-keeps : Keeps2 write-keepalive-ensures (λ (r : ℕ). r ≡ 0 → ⊥)
write-keepalive-keeps r out detail e k = kept.put_keeps _ _ _ _ _ _ e k

-- wardrail::writers::wardrail_write_handshake
pub write-handshake-determined : (info peer : Lent (List ℕ)) → Determined2 (write-handshake-ensures info peer)
write-handshake-determined info peer out detail r r' out₁ out₂ detail₁ detail₂ e f = said.wrote-determined e f

pub write-handshake-keeps : (info peer : Lent (List ℕ)) → Keeps2 (write-handshake-ensures info peer) (λ (r : ℕ). r ≡ 0 → ⊥)
write-handshake-keeps info peer r out detail e k = kept.put_keeps _ _ _ _ _ _ e k

-- wardrail::writers::wardrail_write_torrent
pub write-torrent-determined : (announce name : Lent (List ℕ)) (piece_length : ℕ) (pieces : Lent (List ℕ)) (length : ℕ) → Determined2 (write-torrent-ensures announce name piece_length pieces length)
write-torrent-determined announce name piece_length pieces length out detail r r' out₁ out₂ detail₁ detail₂ e f = said.wrote-determined e f

pub write-torrent-keeps : (announce name : Lent (List ℕ)) (piece_length : ℕ) (pieces : Lent (List ℕ)) (length : ℕ) → Keeps2 (write-torrent-ensures announce name piece_length pieces length) (λ (r : ℕ). r ≡ 0 → ⊥)
write-torrent-keeps announce name piece_length pieces length r out detail e k = kept.write-torrent-keeps _ _ _ _ _ _ e k

-- wardrail::writers::wardrail_torrent_size
pub torrent-size-determined : (announce name : Lent (List ℕ)) (piece_length : ℕ) (pieces : Lent (List ℕ)) (length : ℕ) → Determined1 (torrent-size-ensures announce name piece_length pieces length)
torrent-size-determined announce name piece_length pieces length detail r r' detail₁ detail₂ e f = said.tells-determined e f

pub torrent-size-keeps : (announce name : Lent (List ℕ)) (piece_length : ℕ) (pieces : Lent (List ℕ)) (length : ℕ) → Keeps1 (torrent-size-ensures announce name piece_length pieces length) (λ (r : ℕ). r ≡ 0 → ⊥)
torrent-size-keeps announce name piece_length pieces length r detail e k = kept.tells-keeps e k

-- wardrail::writers::wardrail_write_link
pub write-link-determined : (torrent : Lent (List ℕ)) → Determined2 (write-link-ensures torrent)
write-link-determined torrent out detail r r' out₁ out₂ detail₁ detail₂ e f = said.wrote-determined e f

pub write-link-keeps : (torrent : Lent (List ℕ)) → Keeps2 (write-link-ensures torrent) (λ (r : ℕ). r ≡ 0 → ⊥)
write-link-keeps torrent r out detail e k = kept.write-link-keeps _ _ _ _ _ _ e k

-- wardrail::writers::wardrail_write_week
pub write-week-determined : (bodies lengths : Lent (List ℕ)) → Determined2 (write-week-ensures bodies lengths)
write-week-determined bodies lengths out detail r r' out₁ out₂ detail₁ detail₂ e f = said.wrote-determined e f

pub write-week-keeps : (bodies lengths : Lent (List ℕ)) → Keeps2 (write-week-ensures bodies lengths) (λ (r : ℕ). r ≡ 0 → ⊥)
write-week-keeps bodies lengths r out detail e k = kept.write-week-keeps _ _ _ _ _ _ _ e k

-- wardrail::writers::wardrail_link_size
pub link-size-determined : (torrent : Lent (List ℕ)) → Determined1 (link-size-ensures torrent)
link-size-determined torrent detail r r' detail₁ detail₂ e f = said.tells-determined e f

pub link-size-keeps : (torrent : Lent (List ℕ)) → Keeps1 (link-size-ensures torrent) (λ (r : ℕ). r ≡ 0 → ⊥)
link-size-keeps torrent r detail e k = kept.tells-keeps e k

-- wardrail::writers::wardrail_write_reply
pub write-reply-determined : (interval : ℕ) (peers : Lent (List ℕ)) → Determined2 (write-reply-ensures interval peers)
write-reply-determined interval peers out detail r r' out₁ out₂ detail₁ detail₂ e f = said.wrote-determined e f

pub write-reply-keeps : (interval : ℕ) (peers : Lent (List ℕ)) → Keeps2 (write-reply-ensures interval peers) (λ (r : ℕ). r ≡ 0 → ⊥)
write-reply-keeps interval peers r out detail e k = kept.write-reply-keeps _ _ _ _ _ _ _ e k
