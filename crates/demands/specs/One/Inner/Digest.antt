-- Demand 1 of `hash_digest`: words of 32 bits and blocks of a message. Assumes nothing.
use Rattle.std.specs.Prelude.{List, ◌++◌, ◌≡◌, ℕ}
use Rattle.hash_digest.specs.Message.{filled}
use Rattle.hash_digest.specs.Words.{ch, parity, maj}
use Rattle.demands.specs.One.{Lent, now}

-- hash_digest::message::gathered
abbrev pub gathered-ensures : (held part : Lent (List ℕ)) → List ℕ → Type 0
gathered-ensures held part r = r ≡ filled 64 (now held.entry ++ now part.entry)

-- hash_digest::word::choose
abbrev pub choose-ensures : (x y z : ℕ) → ℕ → Type 0
choose-ensures x y z r = r ≡ ch x y z

-- hash_digest::word::odd
abbrev pub odd-ensures : (x y z : ℕ) → ℕ → Type 0
odd-ensures x y z r = r ≡ parity x y z

-- hash_digest::word::most
abbrev pub most-ensures : (x y z : ℕ) → ℕ → Type 0
most-ensures x y z r = r ≡ maj x y z
