-- `torrent_metainfo::info::read` meets its contract. Assumes nothing.
use Rattle.std.proofs.Common.{◌≡◌, Err, sym, ap, ◌∙◌, ◌+◌, subst, rules}
use Rattle.refusal.specs.Paper.{paper}
use Rattle.bencode_walk.specs.Lookup.{lookup}
use Rattle.torrent_metainfo.specs.Keys.{files_key, length_key, name_key, piece_length_key}
use Rattle.torrent_metainfo.specs.Noted.{Goes}
use Rattle.torrent_metainfo.proofs.Closing.{info-part, info-read}
use Rattle.torrent_metainfo.proofs.Informing.{info-name, info-length, info-pieces, info-content, info-sized, informed, pieces-asked, pieces-place}
use Rattle.torrent_metainfo.proofs.info.read.Goals as goal

-- in each, i says what is known once the keys are noted
pub returns : goal.returns
returns c = λ d es l t e.
    let i = informed c.args.text.now d c.args.at c.args.first es l t e c.note-k.result (λ f b ws g u. c.note-k.ensures f b ws g u) in
    c.sized.ensures
    ∙ info-sized c.args.announce c.args.at es c.in_ok-name.name (c.in_ok-name.ensures i.deep (lookup (c.args.at + 1) es name_key) i.noted.name)
    c.in_ok-n.n (c.in_ok-n.ensures i.deep (lookup (c.args.at + 1) es piece_length_key) i.noted.piece)
    c.in_ok-hashes.hashes (c.in_ok-hashes.ensures ∙ pieces-asked c.args.text.now c.args.at es c.note-k.result i)
    c.from_to.result c.value.result c.in_ok-c.c
    (c.from_to.ensures
    ∙ info-part c.args.text.now i.deep c.args.at c.stop.result es i.levels (subst (Goes c.args.text.now i.deep (c.args.at + 1) es) (sym c.stop.ensures) i.noted.close) (paper c.close.result) (λ f b ws g u. c.close.ensures f b ws g u)
    c.in_ok-end.end (ap paper (sym c.in_ok-end.was)))
    (c.value.ensures ∙ pieces-place c.args.text.now c.args.at es c.note-k.result i)
    (c.in_ok-c.ensures i.deep (lookup (c.args.at + 1) es length_key) (lookup (c.args.at + 1) es files_key) i.levels i.noted.length i.noted.files i.noted.listed)

pub returns-in_err-end : goal.returns-in_err-end
returns-in_err-end c = λ d es l t e.
    let x : c.from_residual-in_err-end.result ≡ Err c.in_err-end.field-0.0 = search rules in
    let i = informed c.args.text.now d c.args.at c.args.first es l t e c.note-k.result (λ f b ws g u. c.note-k.ensures f b ws g u) in
    ap paper x ∙ info-read c.args.text.now i.deep c.args.at c.stop.result es i.levels (subst (Goes c.args.text.now i.deep (c.args.at + 1) es) (sym c.stop.ensures) i.noted.close) (paper c.close.result) (λ f b ws g u. c.close.ensures f b ws g u)
    c.in_err-end.field-0.0.number c.in_err-end.field-0.0.place (ap paper (sym c.in_err-end.was))

pub returns-in_err-c : goal.returns-in_err-c
returns-in_err-c c = λ d es l t e.
    let x : c.from_residual-in_err-c.result ≡ Err c.in_err-c.field-0.0 = search rules in
    let i = informed c.args.text.now d c.args.at c.args.first es l t e c.note-k.result (λ f b ws g u. c.note-k.ensures f b ws g u) in
    ap paper x ∙ info-content c.args.announce c.args.at es c.in_ok-name.name (c.in_ok-name.ensures i.deep (lookup (c.args.at + 1) es name_key) i.noted.name)
    c.in_ok-n.n (c.in_ok-n.ensures i.deep (lookup (c.args.at + 1) es piece_length_key) i.noted.piece)
    c.in_ok-hashes.hashes (c.in_ok-hashes.ensures ∙ pieces-asked c.args.text.now c.args.at es c.note-k.result i)
    _ _
    (c.in_err-c.ensures i.deep (lookup (c.args.at + 1) es length_key) (lookup (c.args.at + 1) es files_key) i.levels i.noted.length i.noted.files i.noted.listed)

pub returns-in_err-hashes : goal.returns-in_err-hashes
returns-in_err-hashes c = λ d es l t e.
    let x : c.from_residual-in_err-hashes.result ≡ Err c.in_err-hashes.field-0.0 = search rules in
    let i = informed c.args.text.now d c.args.at c.args.first es l t e c.note-k.result (λ f b ws g u. c.note-k.ensures f b ws g u) in
    ap paper x ∙ info-pieces c.args.announce c.args.at es c.in_ok-name.name (c.in_ok-name.ensures i.deep (lookup (c.args.at + 1) es name_key) i.noted.name)
    c.in_ok-n.n (c.in_ok-n.ensures i.deep (lookup (c.args.at + 1) es piece_length_key) i.noted.piece)
    _ _
    (c.in_err-hashes.ensures ∙ pieces-asked c.args.text.now c.args.at es c.note-k.result i)

pub returns-in_err-n : goal.returns-in_err-n
returns-in_err-n c = λ d es l t e.
    let x : c.from_residual-in_err-n.result ≡ Err c.in_err-n.field-0.0 = search rules in
    let i = informed c.args.text.now d c.args.at c.args.first es l t e c.note-k.result (λ f b ws g u. c.note-k.ensures f b ws g u) in
    ap paper x ∙ info-length c.args.announce c.args.at es c.in_ok-name.name (c.in_ok-name.ensures i.deep (lookup (c.args.at + 1) es name_key) i.noted.name)
    _ _
    (c.in_err-n.ensures i.deep (lookup (c.args.at + 1) es piece_length_key) i.noted.piece)

pub returns-in_err-name : goal.returns-in_err-name
returns-in_err-name c = λ d es l t e.
    let x : c.from_residual.result ≡ Err c.in_err-name.field-0.0 = search rules in
    let i = informed c.args.text.now d c.args.at c.args.first es l t e c.note-k.result (λ f b ws g u. c.note-k.ensures f b ws g u) in
    ap paper x ∙ info-name c.args.announce c.args.at es _ _
    (c.in_err-name.ensures i.deep (lookup (c.args.at + 1) es name_key) i.noted.name)
