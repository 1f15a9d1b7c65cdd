-- Demand 1 of `wardrail`, for C: what is written. Assumes nothing.
use Rattle.std.specs.Prelude.{List, ◌∷◌, ℕ, length}
use Rattle.refusal.specs.Paper.{map}
use Rattle.bencode_writer.specs.Put.{put_of}
use Rattle.peer_wire.specs.Frames.{write_of as frame_of}
use Rattle.peer_wire.specs.Handshake.{handshake, zeros}
use Rattle.peer_wire.specs.Message.{keepalive, encode}
use Rattle.tracker.specs.Writing.{write_of as reply_text_of}
use Rattle.torrent_authoring.specs.Writing.{write_of as torrent_text_of, fields, size_of}
use Rattle.links.specs.Writing.{written_of, write_of as link_text_of}
use Rattle.week.specs.Writing.{write_of as week_text_of}
use Rattle.wardrail.specs.Said.{Tells}
use Rattle.wardrail.specs.Writers.{Wrote}
use Rattle.demands.specs.One.{Lent, now}

-- wardrail::writers::wardrail_write_frame
abbrev pub write-frame-ensures : (id : ℕ) (payload : Lent (List ℕ)) → ℕ → Lent (List ℕ) → Lent ℕ → Type 0
write-frame-ensures id payload r out detail =
    Wrote (frame_of (id ∷ now payload.entry) (now out.entry)) (now detail.entry) r (now detail.exit) (now out.exit)

-- wardrail::writers::wardrail_write_keepalive
abbrev pub write-keepalive-ensures : ℕ → Lent (List ℕ) → Lent ℕ → Type 0
write-keepalive-ensures r out detail =
    Wrote (put_of (encode keepalive) 0 (now out.entry)) (now detail.entry) r (now detail.exit) (now out.exit)

-- wardrail::writers::wardrail_write_handshake
abbrev pub write-handshake-ensures : (info peer : Lent (List ℕ)) → ℕ → Lent (List ℕ) → Lent ℕ → Type 0
write-handshake-ensures info peer r out detail =
    Wrote (put_of (handshake zeros (now info.entry) (now peer.entry)) 0 (now out.entry)) (now detail.entry) r (now detail.exit) (now out.exit)

-- wardrail::writers::wardrail_write_torrent
abbrev pub write-torrent-ensures : (announce name : Lent (List ℕ)) (piece_length : ℕ) (pieces : Lent (List ℕ)) (length : ℕ) → ℕ → Lent (List ℕ) → Lent ℕ → Type 0
write-torrent-ensures announce name piece_length pieces length r out detail =
    Wrote (torrent_text_of (fields (now announce.entry) (now name.entry) piece_length (now pieces.entry) length) (now out.entry)) (now detail.entry) r (now detail.exit) (now out.exit)

-- wardrail::writers::wardrail_torrent_size
abbrev pub torrent-size-ensures : (announce name : Lent (List ℕ)) (piece_length : ℕ) (pieces : Lent (List ℕ)) (length : ℕ) → ℕ → Lent ℕ → Type 0
torrent-size-ensures announce name piece_length pieces length r detail =
    Tells (size_of (fields (now announce.entry) (now name.entry) piece_length (now pieces.entry) length)) (now detail.entry) r (now detail.exit)

-- wardrail::writers::wardrail_write_link
abbrev pub write-link-ensures : (torrent : Lent (List ℕ)) → ℕ → Lent (List ℕ) → Lent ℕ → Type 0
write-link-ensures torrent r out detail =
    Wrote (link_text_of (now torrent.entry) (now out.entry)) (now detail.entry) r (now detail.exit) (now out.exit)

-- wardrail::writers::wardrail_write_week
abbrev pub write-week-ensures : (bodies lengths : Lent (List ℕ)) → ℕ → Lent (List ℕ) → Lent ℕ → Type 0
write-week-ensures bodies lengths r out detail =
    Wrote (week_text_of (now bodies.entry) (now lengths.entry) (now out.entry)) (now detail.entry) r (now detail.exit) (now out.exit)

-- wardrail::writers::wardrail_link_size
abbrev pub link-size-ensures : (torrent : Lent (List ℕ)) → ℕ → Lent ℕ → Type 0
link-size-ensures torrent r detail = Tells (map length (written_of (now torrent.entry))) (now detail.entry) r (now detail.exit)

-- wardrail::writers::wardrail_write_reply
abbrev pub write-reply-ensures : (interval : ℕ) (peers : Lent (List ℕ)) → ℕ → Lent (List ℕ) → Lent ℕ → Type 0
write-reply-ensures interval peers r out detail =
    Wrote (reply_text_of interval (now peers.entry) (now out.entry)) (now detail.entry) r (now detail.exit) (now out.exit)
