-- `torrent_metainfo::keys::note` meets its contract. Assumes nothing.
use Rattle.torrent_metainfo.proofs.Closing.{noted}
use Rattle.std.proofs.Common.{ℕ, ap, ◌∙◌}
use Rattle.torrent_metainfo.specs.Keys.{length_key, name_key, piece_length_key, pieces_key}
use Rattle.bencode_fields.specs.Looks.{sought_from}
use Rattle.torrent_metainfo.proofs.keys.note.Goals as goal

pub returns : goal.returns
returns c = λ d b es l t. noted c.args.text.now d l c.args.first b es t c.args.info _ c.seek-files.ensures (λ u w. c.under-listed.ensures d u l w) (c.seek-length.ensures ∙ ap (λ (q : ℕ). sought_from c.args.text.now q length_key) c.past.ensures) (c.seek-name.ensures ∙ ap (λ (q : ℕ). sought_from c.args.text.now q name_key) c.stop.ensures) (c.seek-piece_length.ensures ∙ ap (λ (q : ℕ). sought_from c.args.text.now q piece_length_key) c.stop-2.ensures) (c.seek-pieces.ensures ∙ ap (λ (q : ℕ). sought_from c.args.text.now q pieces_key) c.stop-3.ensures)
