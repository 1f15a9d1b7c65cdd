-- `torrent_metainfo::files::file` meets its contract. Assumes nothing.
use Rattle.std.proofs.Common.{◌≡◌, Ok, Err, ap, ◌∙◌, rules}
use Rattle.refusal.specs.Paper.{paper}
use Rattle.torrent_metainfo.proofs.Filing.{file-none, file-missing, file-unread, file-not, file-with, rest-missing, rest-unread, rest-not, rest-with}
use Rattle.torrent_metainfo.proofs.files.file.Goals as goal

pub returns-in_err-first : goal.returns-in_err-first
returns-in_err-first c =
    let e : c.from_residual.result ≡ Err c.in_err-first.field-0.0 = search rules in
    λ d v l t. ap paper e ∙ file-none c.args.text.now d c.args.at l v t _ _ c.in_err-first.ensures

pub returns-in_err-size : goal.returns-in_err-size
returns-in_err-size c = λ d v l t. file-unread c.args.text.now d c.args.at l _ c.in_ok-first.ensures _ c.seek.ensures v t c.in_err-size.was

pub returns-in_err-found : goal.returns-in_err-found
returns-in_err-found c =
    let e : c.from_residual-in_err-found.result ≡ Err c.in_err-found.field-0.0 = search rules in
    λ d v l t. ap paper e ∙ file-missing c.args.text.now d c.args.at l _ c.in_ok-first.ensures (Ok c.in_ok-size.size) c.in_ok-size.ensures v t _ _ c.in_err-found.ensures

pub returns-in_err-length : goal.returns-in_err-length
returns-in_err-length c =
    let e : c.from_residual-in_err-length.result ≡ Err c.in_err-length.field-0.0 = search rules in
    λ d v l t. ap paper e ∙ file-not c.args.text.now d c.args.at l _ c.in_ok-first.ensures (Ok c.in_ok-size.size) c.in_ok-size.ensures c.in_ok-found.field-0 c.in_ok-found.ensures v t _ _ c.in_err-length.ensures

pub returns-in_err-elements : goal.returns-in_err-elements
returns-in_err-elements c =
    let e : c.from_residual-in_err-elements.result ≡ Err c.in_err-elements.field-0.0 = search rules in
    λ d v l t. ap paper e ∙ file-with c.args.text.now d c.args.at l _ c.in_ok-first.ensures (Ok c.in_ok-size.size) c.in_ok-size.ensures c.in_ok-found.field-0 c.in_ok-found.ensures _ c.in_ok-length.rest c.in_ok-length.ensures _ (λ e b ws k u. rest-unread c.args.text.now e c.in_ok-length.rest b ws k u c.args.at c.in_ok-length.length _ c.seek-2.ensures c.in_err-elements.was) v t

pub returns-in_err-found-2 : goal.returns-in_err-found-2
returns-in_err-found-2 c =
    let e : c.from_residual-in_err-found-2.result ≡ Err c.in_err-found-2.field-0.0 = search rules in
    λ d v l t. ap paper e ∙ file-with c.args.text.now d c.args.at l _ c.in_ok-first.ensures (Ok c.in_ok-size.size) c.in_ok-size.ensures c.in_ok-found.field-0 c.in_ok-found.ensures _ c.in_ok-length.rest c.in_ok-length.ensures _ (λ e b ws k u. rest-missing c.args.text.now e c.in_ok-length.rest b ws k u c.args.at c.in_ok-length.length (Ok c.in_ok-elements.elements) c.in_ok-elements.ensures _ _ c.in_err-found-2.ensures) v t

pub returns-in_err-path : goal.returns-in_err-path
returns-in_err-path c =
    let e : c.from_residual-in_err-path.result ≡ Err c.in_err-path.field-0.0 = search rules in
    λ d v l t. ap paper e ∙ file-with c.args.text.now d c.args.at l _ c.in_ok-first.ensures (Ok c.in_ok-size.size) c.in_ok-size.ensures c.in_ok-found.field-0 c.in_ok-found.ensures _ c.in_ok-length.rest c.in_ok-length.ensures _ (λ e b ws k u. rest-not c.args.text.now e c.in_ok-length.rest b ws k u c.args.at c.in_ok-length.length (Ok c.in_ok-elements.elements) c.in_ok-elements.ensures c.in_ok-found-2.field-0 c.in_ok-found-2.ensures _ _ c.in_err-path.ensures) v t

pub returns-in_err-next : goal.returns-in_err-next
returns-in_err-next c =
    let e : c.from_residual-in_err-next.result ≡ Err c.in_err-next.field-0.0 = search rules in
    λ d v l t. ap paper e ∙ file-with c.args.text.now d c.args.at l _ c.in_ok-first.ensures (Ok c.in_ok-size.size) c.in_ok-size.ensures c.in_ok-found.field-0 c.in_ok-found.ensures _ c.in_ok-length.rest c.in_ok-length.ensures _ (λ e b ws k u. rest-with c.args.text.now e c.in_ok-length.rest b ws k u c.args.at c.in_ok-length.length (Ok c.in_ok-elements.elements) c.in_ok-elements.ensures c.in_ok-found-2.field-0 c.in_ok-found-2.ensures c.in_ok-path.path c.in_ok-path.end c.in_ok-path.ensures _ c.in_err-next.ensures) v t

pub returns : goal.returns
returns c = λ d v l t. file-with c.args.text.now d c.args.at l _ c.in_ok-first.ensures (Ok c.in_ok-size.size) c.in_ok-size.ensures c.in_ok-found.field-0 c.in_ok-found.ensures _ c.in_ok-length.rest c.in_ok-length.ensures _ (λ e b ws k u. rest-with c.args.text.now e c.in_ok-length.rest b ws k u c.args.at c.in_ok-length.length (Ok c.in_ok-elements.elements) c.in_ok-elements.ensures c.in_ok-found-2.field-0 c.in_ok-found-2.ensures c.in_ok-path.path c.in_ok-path.end c.in_ok-path.ensures _ c.in_ok-next.ensures) v t
