-- Two answers that a reader's contract permits for the same bytes are the same. Assumes nothing.
use Rattle.std.specs.Prelude.{Err, Ok, Result}
use Rattle.refusal.specs.declared.Refusal.{Refusal}
use mathlib.Core.Path.{◌≡◌, refl, sym, ap, ◌∙◌}
use mathlib.Core.List.{List}
use Prim.Native.Nat.{ℕ}
use Rattle.refusal.specs.Paper.{Outcome, taken, refused}
use Rattle.refusal.specs.declared.Part.{Part}
use Rattle.peer_wire.specs.Message.{Message, keepalive, choke, unchoke, interested, not_interested, have, bitfield, request, piece, cancel, other}
use Rattle.peer_wire.specs.Frames.{Found, wait, found, message, read_paper, read_of}
use Rattle.peer_wire.specs.Handshake.{Shaken, hello, shake_of}
use Rattle.peer_wire.specs.Handshake.{wait as await, greeting_paper as shaken}
use Rattle.peer_wire.specs.declared.Frame.{Frame}
use Rattle.peer_wire.specs.declared.Frame.TheVariants.{Choke, Unchoke, Interested, NotInterested, Have, Bitfield, Request, Piece, Cancel, Other}
use Rattle.peer_wire.specs.declared.Read.{Read}
use Rattle.peer_wire.specs.declared.Read.TheVariants.{Wait, Keepalive, Whole}
use Rattle.peer_wire.specs.declared.Greeting.{Greeting}
use Rattle.peer_wire.specs.declared.Greeting.TheVariants.{Await, Hello}

-- the answer that the paper's words say
abbrev found_as_of : Message Part → ℕ → Result Read Refusal
found_as_of keepalive u = (Ok (Keepalive u))
found_as_of choke u = (Ok (Whole Choke u))
found_as_of unchoke u = (Ok (Whole Unchoke u))
found_as_of interested u = (Ok (Whole Interested u))
found_as_of not_interested u = (Ok (Whole NotInterested u))
found_as_of (have p) u = (Ok (Whole (Have (record { 0 = p })) u))
found_as_of (bitfield bits) u = (Ok (Whole (Bitfield bits) u))
found_as_of (request p b l) u = (Ok (Whole (Request (record { 0 = p }) (record { 0 = b }) l) u))
found_as_of (piece p b block) u = (Ok (Whole (Piece (record { 0 = p }) (record { 0 = b }) block) u))
found_as_of (cancel p b l) u = (Ok (Whole (Cancel (record { 0 = p }) (record { 0 = b }) l) u))
found_as_of (other id rest) u = (Ok (Whole (Other id rest) u))

abbrev read_as : Outcome Found → Result Read Refusal
read_as (taken wait) = (Ok Wait)
read_as (taken (found m u)) = found_as_of m u
read_as (refused n p) = Err (record { number = n; place = p })

frame-again : (f : Frame) (u : ℕ) → found_as_of (message f) u ≡ (Ok (Whole f u))
frame-again Choke u = refl
frame-again Unchoke u = refl
frame-again Interested u = refl
frame-again NotInterested u = refl
frame-again (Have p) u = refl
frame-again (Bitfield bits) u = refl
frame-again (Request p b l) u = refl
frame-again (Piece p b block) u = refl
frame-again (Cancel p b l) u = refl
frame-again (Other id rest) u = refl

read_again : (r : Result Read Refusal) → read_as (read_paper r) ≡ r
read_again (Ok Wait) = refl
read_again (Ok (Keepalive u)) = refl
read_again (Ok (Whole f u)) = frame-again f u
read_again (Err r) = refl

pub read-determined : (s : List ℕ) (r t : Result Read Refusal) → read_paper r ≡ read_of s → read_paper t ≡ read_of s → r ≡ t
read-determined s r t e f = sym (read_again r) ∙ ap read_as (e ∙ sym f) ∙ read_again t

abbrev greeting_as : Outcome Shaken → Result Greeting Refusal
greeting_as (taken await) = (Ok Await)
greeting_as (taken (hello free peer u)) = (Ok (Hello free peer u))
greeting_as (refused n p) = Err (record { number = n; place = p })

greeting-again : (r : Result Greeting Refusal) → greeting_as (shaken r) ≡ r
greeting-again (Ok Await) = refl
greeting-again (Ok (Hello free peer u)) = refl
greeting-again (Err r) = refl

pub handshake-determined : (info s : List ℕ) (r t : Result Greeting Refusal) → shaken r ≡ shake_of info s → shaken t ≡ shake_of info s → r ≡ t
handshake-determined info s r t e f = sym (greeting-again r) ∙ ap greeting_as (e ∙ sym f) ∙ greeting-again t
