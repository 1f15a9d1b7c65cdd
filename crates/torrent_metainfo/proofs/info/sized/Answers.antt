-- `torrent_metainfo::info::sized` meets its contract. Assumes nothing.
use Rattle.refusal.specs.Paper.{refusal}
use Rattle.torrent_metainfo.proofs.Sizing.{sized-many, sized-total, sized-wrong, sized-right}
use Rattle.std.proofs.Common.{arith, sym, ap, ◌∙◌}
use Rattle.torrent_metainfo.proofs.info.sized.Goals as goal

pub returns-then-pieces-count : goal.returns-then-pieces-count
returns-then-pieces-count c = sized-right c.args.announce c.args.info c.args.name c.args.pieces c.args.place c.args.piece_length c.args.c (sym c.legal_file_count.ensures ∙ c.if-legal_file_count.true) (sym c.legal_total.ensures ∙ c.if-legal_total.true) c.pieces-count.result c.pieces-count.ensures (omega arith)

pub returns-then-legal_total : goal.returns-then-legal_total
returns-then-legal_total c = ap refusal c.refuse.ensures ∙ sized-wrong c.args.announce c.args.info c.args.name c.args.pieces c.args.place c.args.piece_length c.args.c (sym c.legal_file_count.ensures ∙ c.if-legal_file_count.true) (sym c.legal_total.ensures ∙ c.if-legal_total.true) c.pieces-count.result c.pieces-count.ensures (omega arith)

pub returns-then-legal_file_count : goal.returns-then-legal_file_count
returns-then-legal_file_count c = ap refusal c.refuse-then-legal_file_count.ensures ∙ sized-total c.args.announce c.args.info c.args.name c.args.pieces c.args.place c.args.piece_length c.args.c (sym c.legal_file_count.ensures ∙ c.if-legal_file_count.true) (sym c.legal_total.ensures ∙ c.if-legal_total.false)

pub returns : goal.returns
returns c = ap refusal c.refuse-2.ensures ∙ sized-many c.args.announce c.args.info c.args.name c.args.pieces c.args.place c.args.piece_length c.args.c (sym c.legal_file_count.ensures ∙ c.if-legal_file_count.false)
