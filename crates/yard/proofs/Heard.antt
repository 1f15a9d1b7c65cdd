-- A frame changes nothing of the head but the seats complete. Assumes nothing.
use mathlib.Core.Path.{◌≡◌, refl}
use mathlib.Core.Bool.{Bool, true, false, cond, ◌&&◌}
use mathlib.Core.List.{List}
use Prim.Native.Nat.{ℕ, ◌+◌}
use lib.Dec.{eqb, ltb}
use lib.ListN.{length}
use Rattle.refusal.specs.Limits.{most_sent}
use Rattle.refusal.specs.Paper.{Outcome, taken, refused}
use Rattle.peer_wire.specs.Message.{Message, keepalive, choke, unchoke, interested, not_interested, have, bitfield, request, piece, cancel, other}
use Rattle.peer_wire.specs.Frames.{Found, wait, found, read_of, meant}
use Rattle.yard_tables.specs.Rows.{width, bit_at, with_bit, with_bits}
use Rattle.yard_tables.specs.Seats.{on, counted}
use Rattle.yard_tables.specs.Tables.{Said, Around, Turn, sizes_fit}
use Rattle.yard_tables.specs.Frames.{over_top, announced, announce, have_of, spare_set, bitfield_of, block_fits, block_of, piece_of, message_of, frame_of, feed_of}

-- the head after a turn is the head before it with the seats complete
pub record Same (x : Around) (t : Turn) : Type 0 where
  pub head : counted x.head.taken t.after.head.complete x.head ≡ t.after.head

module _ (n i : ℕ) (x : Around) where
  either : (b : Bool) {t u : Turn} → Same x t → Same x u → Same x (cond b t u)
  either true f g = f
  either false f g = g

  announce-same : (bytes : ℕ) (said : ℕ → Bool) (rows : List ℕ) → Same x (announce n i bytes said rows x)
  unfolding announced
  announce-same bytes said rows = either (over_top n i said x) (record { head = refl }) (record { head = refl })

  have-same : (bytes p : ℕ) → Same x (have_of n i bytes p x)
  unfolding have_of
  have-same bytes p =
      either (ltb p x.head.pieces) (announce-same bytes (λ q. eqb q p) (with_bit (width x.head.pieces) i p x.rows)) (record { head = refl })

  bitfield-same : (bytes : ℕ) (bits : List ℕ) → Same x (bitfield_of n i bytes bits x)
  unfolding bitfield_of
  bitfield-same bytes bits =
      either (on x.seat.fresh)
      (either (eqb (length bits) (width x.head.pieces))
      (either (spare_set x.head.pieces bits) (record { head = refl })
      (announce-same bytes (bit_at bits) (with_bits (width x.head.pieces) i bits x.rows)))
      (record { head = refl }))
      (record { head = refl })

  block_same : (p begin len : ℕ) (a : Said) → Same x (block_of p begin len a x)
  unfolding block_of
  block_same p begin len a =
      either (ltb p x.head.pieces) (either (block_fits x.head p begin len) (record { head = refl }) (record { head = refl })) (record { head = refl })

  piece-same : (p begin len bytes : ℕ) → Same x (piece_of p begin len bytes x)
  unfolding piece_of
  piece-same p begin len bytes =
      either (ltb p x.head.pieces)
      (either (block_fits x.head p begin len)
      (either (ltb most_sent (x.seat.bytes + len)) (record { head = refl }) (record { head = refl }))
      (record { head = refl }))
      (record { head = refl })

  message-same : (bytes : ℕ) (m : Message (List ℕ)) → Same x (message_of n i bytes m x)
  unfolding message_of
  message-same bytes keepalive = record { head = refl }
  message-same bytes choke = record { head = refl }
  message-same bytes unchoke = record { head = refl }
  message-same bytes interested = record { head = refl }
  message-same bytes not_interested = record { head = refl }
  message-same bytes (have p) = have-same bytes p
  message-same bytes (bitfield bits) = bitfield-same bytes bits
  message-same bytes (request p b l) = block_same p b l _
  message-same bytes (piece p b block) = piece-same p b (length block) bytes
  message-same bytes (cancel p b l) = block_same p b l _
  message-same bytes (other id payload) = record { head = refl }

  frame_same : (s : List ℕ) (o : Outcome Found) → Same x (frame_of n i s o x)
  frame_same s (refused number place) = record { head = refl }
  frame_same s (taken wait) = record { head = refl }
  frame_same s (taken (found m bytes)) = message-same bytes (meant s m)

  pub head-same : (s : List ℕ) → Same x (feed_of i s n x)
  unfolding feed_of
  head-same s =
      either (sizes_fit x.head n (length x.rows) (length x.holders))
      (either (ltb i n && on x.seat.taken) (frame_same s (read_of s)) (record { head = refl }))
      (record { head = refl })
