-- DEMAND 2: exactly the right texts, what is written reads back, and blocks fall where they should. Assumes nothing.
-- Each statement is about any answer r, and any lent output `out`, that the contract of the call named above it permits: its premise is that contract itself, as
-- One/Doors has it from the source. `before text` is what is lent as the call finds it, `after out` as it leaves it.
-- A text is a list of bytes. An outcome is `taken` with what is handed back, or `refused` with number and place.
-- `Encodes s v`: the bytes s are the value v as BEP 3 writes it, and v keeps document 01's limits. It and the other words that are not another crate's stand
-- in demands_laws/specs/Texts.antt, those on where parts stand in Places.antt beside it.
use Rattle.refusal.specs.declared.Refusal.{Refusal}
use Rattle.std.specs.Prelude.{◌≡◌, List, ℕ, Result}
use Rattle.refusal.specs.Paper.{taken}
use Rattle.refusal.specs.declared.Part.{Part}
use Rattle.peer_wire.specs.Message.{Message}
use Rattle.peer_wire.specs.Frames.{found, meant, read_paper}
use Rattle.peer_wire.specs.declared.Read.{Read}
use Rattle.demands.specs.One.{Lent, before, after}
use Rattle.demands.specs.One.Doors.Wire as wire

-- ---- 7. "What is written reads back": "Reading gives the fields back; rewriting a read text that has only those keys [..] gives its bytes."

-- the reader of what a call left in `out`: of its first q bytes it makes a message of which P holds
abbrev pub ReadsBack : Lent (List ℕ) → ℕ → (Message (List ℕ) → Type 0) → Type 0
ReadsBack out q P = (bytes : Lent (List ℕ)) (f : Result Read Refusal) → wire.read_frame-ensures bytes f → before bytes ≡ after out → (at : Message Part) × (read_paper f ≡ taken (found at q)) × P (meant (after out) at)
