-- `listing::main` is safe and ends. Assumes nothing.
use Rattle.std.proofs.Common.{List, Result, Ok, ℕ, ◌≡◌, ◌≤◌, length, ap, arith, sym}
use Rattle.std.proofs.lemmas.List.{length-take-le}
use Rattle.refusal.specs.Paper.{paper, left}
use Rattle.refusal.specs.declared.Refusal.{Refusal}
use Rattle.bencode_writer.specs.Put.{put_of}
use Rattle.torrent_lines.specs.Lines.{listing_of}
use Rattle.torrent_lines.proofs.Laws.{listing-written}
use Rattle.listing.proofs.main.Goals as goal

-- so many bytes are written, within the output
within : (s o out : List ℕ) (r : Result ℕ Refusal) (n : ℕ) → left (paper r) out ≡ put_of (listing_of s) 0 o → r ≡ Ok n → length out ≡ length o → n ≤ length out
within s o out r n e h k = let w = listing-written s o r e (ap paper h) in omega (arith, w.0.0, w.0.1, k)

pub slice_bounds-printed-end : goal.slice_bounds-printed-end
slice_bounds-printed-end c = within _ _ _ _ _ c.listing.ensures.out_after c.in-Ok.is c.listing.auto.out

pub slice_bounds-write_all-end : goal.slice_bounds-write_all-end
slice_bounds-write_all-end c = sym (length-take-le _ _ (within _ _ _ _ _ c.listing.ensures.out_after c.in-Ok.is c.listing.auto.out))
