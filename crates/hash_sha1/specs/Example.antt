-- The standard's first worked example, "abc", by computation on the definition. Assumes nothing.
use Rattle.std.specs.Prelude.{◌≡◌, refl, [], ◌∷◌}
use Rattle.refusal.specs.BigEndian.{big_endian_of, bytes_of}
use Rattle.hash_digest.specs.Message.{padding, folded}
use Rattle.hash_sha1.specs.Sha1.{sha1, compress, schedule, rounds}

pub abc : sha1 (97 ∷ 98 ∷ 99 ∷ [])
    ≡ 0xa9 ∷ 0x99 ∷ 0x3e ∷ 0x36 ∷ 0x47 ∷ 0x06 ∷ 0x81 ∷ 0x6a ∷ 0xba ∷ 0x3e ∷ 0x25 ∷ 0x71 ∷ 0x78 ∷ 0x50 ∷ 0xc2 ∷ 0x6c ∷ 0x9c ∷ 0xd0 ∷ 0xd8 ∷ 0x9d ∷ []
unfolding sha1 padding folded compress schedule rounds big_endian_of bytes_of
abc = refl
