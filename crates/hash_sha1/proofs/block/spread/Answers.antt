-- `spread` meets its contract: each word's bytes in their place. Assumes nothing.
use Rattle.std.proofs.Common.{div-one}
use Rattle.refusal.specs.BigEndian.{bytes_of}
use Rattle.hash_sha1.proofs.block.spread.Goals as goal

pub returns : goal.returns
unfolding bytes_of
returns c = rw (c.copy_from_slice.ensures.after, c.to_be_bytes.ensures, c.copy_from_slice-2.ensures.after, c.to_be_bytes-2.ensures, c.copy_from_slice-3.ensures.after, c.to_be_bytes-3.ensures, c.copy_from_slice-4.ensures.after, c.to_be_bytes-4.ensures, c.copy_from_slice-5.ensures.after, c.to_be_bytes-5.ensures, div-one, div-one, div-one, div-one, div-one)
