-- Demand 1 of `hash_sha1`: a digest of a slice or in parts, and digests compared. Assumes nothing.
use Rattle.refusal.specs.Paper.{paper}
use Rattle.refusal.specs.declared.Refusal.{Refusal}
use Rattle.std.specs.Prelude.{List, ◌≡◌, ℕ, Bool, Result}
use Rattle.hash_sha1.specs.Digest.{left, digest_of, agreement_of}
use Rattle.hash_sha1.specs.Parts.{begun, add_of, finish_of}
use Rattle.hash_sha1.specs.declared.stream.Stream.{Stream}
use Rattle.demands.specs.One.{Lent, now}

-- hash_sha1::digest
abbrev pub digest-ensures : (message : Lent (List ℕ)) → Result (Unit {0}) Refusal → Lent (List ℕ) → Type 0
digest-ensures message r out = left (paper r) (now out.exit) ≡ digest_of (now message.entry) (now out.entry)

-- hash_sha1::agrees
abbrev pub agrees-ensures : (message expected : Lent (List ℕ)) → Result Bool Refusal → Type 0
agrees-ensures message expected r = paper r ≡ agreement_of (now message.entry) (now expected.entry)

-- hash_sha1::stream::start
abbrev pub start-ensures : Stream → Type 0
start-ensures r = r ≡ begun

-- hash_sha1::stream::add
abbrev pub add-ensures : (s : Stream) (part : Lent (List ℕ)) → Stream → Type 0
add-ensures s part r = r ≡ add_of s (now part.entry)

-- hash_sha1::stream::finish
abbrev pub finish-ensures : (s : Stream) → Result (Unit {0}) Refusal → Lent (List ℕ) → Type 0
finish-ensures s r out = left (paper r) (now out.exit) ≡ finish_of s (now out.entry)
