-- `links::writing::written` meets its contract. Assumes nothing.
use Rattle.std.specs.Prelude.{◌≡◌, List, ℕ, ◌≤◌, Err}
use Rattle.std.proofs.Common.{sym, ap, ◌∙◌, subst, length, rules}
use Rattle.refusal.specs.Limits.{longest_piece}
use Rattle.refusal.specs.Paper.{paper}
use Rattle.hash_sha1.specs.Sha1.{sha1}
use Rattle.hash_sha1.proofs.Determined.{digest-written}
use Rattle.torrent_metainfo.proofs.Hashing.{info-short}
use Rattle.bencode_writer.specs.Put.{left}
use Rattle.bencode_writer.proofs.Runs.{ran-as, ran-length}
use Rattle.links.specs.Writing.{link_text, unless_long}
use Rattle.links.proofs.Answers.{length-taken, length_refused, link-of, link-room, write-room, write-whole}
use Rattle.links.proofs.writing.written.Goals as goal

pub returns-in_err-count : goal.returns-in_err-count
returns-in_err-count c =
    let e : c.from_residual.result ≡ Err c.in_err-count.field-0.0 = search rules in
    ap (λ r. left (paper r) c.args.out.now) e ∙ length_refused (unless_long (link_text c.args.torrent.now c.args.t)) c.args.out.now c.in_err-count.ensures

pub returns-then-out-count : goal.returns-then-out-count
returns-then-out-count c =
    let k = length-taken (link_text c.args.torrent.now c.args.t) c.in_ok-count.ensures in
    write-room c.args.torrent.now c.args.t k.0 c.args.out.now k.1 c.if-out-count.true (ap Err c.refuse.ensures)

pub put-requires : goal.put-requires
put-requires c =
    let k = length-taken (link_text c.args.torrent.now c.args.t) c.in_ok-count.ensures in
    link-room c.args.torrent.now c.args.t ((digest-written _ _ c.digest.result c.digest.ensures (subst (λ (m : List ℕ). length m ≤ longest_piece) (sym c.bytes.ensures.same) (info-short c.args.torrent.now c.args.t c.requires))).1 ∙ ap sha1 c.bytes.ensures.same) c.bytes-name.ensures.same c.bytes-announce.ensures.same c.args.out.now k.0 c.if-out-count.false

pub shape_of-out : goal.shape_of-out
shape_of-out c = ran-length c.put.ensures

pub returns : goal.returns
returns c =
    let k = length-taken (link_text c.args.torrent.now c.args.t) c.in_ok-count.ensures in
    write-whole c.args.torrent.now c.args.t k.0 c.args.out.now k.1 c.if-out-count.false (ran-as c.put.ensures (link-of c.args.torrent.now c.args.t ((digest-written _ _ c.digest.result c.digest.ensures (subst (λ (m : List ℕ). length m ≤ longest_piece) (sym c.bytes.ensures.same) (info-short c.args.torrent.now c.args.t c.requires))).1 ∙ ap sha1 c.bytes.ensures.same) c.bytes-name.ensures.same c.bytes-announce.ensures.same))
