-- Calls that a statement speaks of at once, each by its own contract, and what their contracts have in common. Assumes nothing.
use Rattle.refusal.specs.declared.Refusal.{Refusal}
use Rattle.std.specs.Prelude.{◌≡◌, ◌↔◌, List, ℕ, ◌≤◌, Result}
use Rattle.std.proofs.Common.{sym, ap, ◌∙◌}
use mathlib.Core.Logic.Iff
use Rattle.refusal.specs.Paper.{paper, refused, left}
use Rattle.bencode.specs.Decode.{decode}
use Rattle.bencode_writer.specs.Put.{put_of}
use Rattle.sheets.specs.declared.Source.TheVariants.{Torrent as OfTorrent, Sheet as OfSheet}
use Rattle.sheets.specs.Reading.{about}
use Rattle.peer_wire.specs.Frames.{write_of}
use Rattle.demands_laws.proofs.Refusals.{same_answer, left-answer}
use Rattle.demands_laws.proofs.Readers as readers
use Rattle.demands_laws.proofs.Sheets as sheets-laws
use Rattle.demands_laws.proofs.Links as links-laws
use Rattle.demands.specs.One.{Lent, before, after}
use Rattle.demands.specs.One.Alike.{Reader, check, torrent, info-hash, a-file, piece-hash, piece-check, reply, a-peer, beside-a-sheet, a-sheet, a-link-written, a-link-sized, answer_of, Frames, raw, plain, a-have, a-bitfield, a-request, a_piece, a-cancel, Puts, literal, small-hex, a-decimal, string, integer, a-keepalive, a-handshake, a-listing}

-- they refuse by 1 to 7 as bencode does
pub as-decoded : (text : Lent (List ℕ)) (r : Reader text) (k p : ℕ) → k ≤ 7 → answer_of r ≡ refused k p ↔ decode (before text) ≡ refused k p
as-decoded text (check r c) k p l = Iff.trans (same_answer c.0) (readers.check (before text) k p l)
as-decoded text (torrent r c) k p l = Iff.trans (same_answer c) (readers.torrent (before text) k p l)
as-decoded text (info-hash r out c) k p l = Iff.trans (left-answer c) (readers.info-hash (before out) (before text) k p l)
as-decoded text (a-file n r c) k p l = Iff.trans (same_answer c) (readers.file n (before text) k p l)
as-decoded text (piece-hash n r c) k p l = Iff.trans (same_answer c) (readers.piece-hash n.0 (before text) k p l)
as-decoded text (piece-check n bytes r c) k p l = Iff.trans (same_answer c) (readers.piece-check n.0 (before bytes) (before text) k p l)
as-decoded text (reply r c) k p l = Iff.trans (same_answer c) (readers.reply (before text) k p l)
as-decoded text (a-peer n r c) k p l = Iff.trans (same_answer c) (readers.peer n (before text) k p l)
as-decoded text (beside-a-sheet other r c) k p l = Iff.trans (same_answer (ap (about OfTorrent) c)) (sheets-laws.torrent-read (before text) (before other) k p l)
as-decoded text (a-sheet other q t d e r c) k p l = Iff.trans (same_answer (ap (about OfSheet) c)) (sheets-laws.sheet-read (before other) (before text) t (sym d ∙ e) k p l)
as-decoded text (a-link-written r out c) k p l = Iff.trans (left-answer c) (links-laws.write_read (before text) (before out) k p l)
as-decoded text (a-link-sized r c) k p l = Iff.trans (same_answer c) (links-laws.size-read (before text) k p l)

-- what they answer and leave goes by the rest alone
pub as-framed : (r : Result ℕ Refusal) (out : Lent (List ℕ)) (rest : List ℕ) → Frames r out rest → left (paper r) (after out) ≡ write_of rest (before out)
as-framed r out rest (raw id payload c) = c
as-framed r out rest (plain id c) = c
as-framed r out rest (a-have index c) = c
as-framed r out rest (a-bitfield bits c) = c
as-framed r out rest (a-request index begin len c) = c
as-framed r out rest (a_piece index begin block c) = c
as-framed r out rest (a-cancel index begin len c) = c

pub as-put : (r : Result ℕ Refusal) (out : Lent (List ℕ)) (w : List ℕ) (at : ℕ) → Puts r out w at → left (paper r) (after out) ≡ put_of w at (before out)
as-put r out w at (literal i bytes c) = c
as-put r out w at (small-hex i bytes c) = c
as-put r out w at (a-decimal i n c) = c
as-put r out w at (string i bytes c) = c
as-put r out w at (integer i z c) = c
as-put r out w at (a-keepalive c) = c
as-put r out w at (a-handshake info id c) = c
as-put r out w at (a-listing text c) = c.0
