-- `torrent_metainfo::names::elements` meets its contract. Assumes nothing.
use Rattle.std.proofs.Common.{◌≡◌, Ok, Err, false, [], ◌∷◌, refl, sym, ap, ◌∙◌, arith, rules}
use Rattle.refusal.specs.Paper.{paper, taken, refusal}
use Rattle.bencode_walk.specs.Walk.{seen_paper}
use Rattle.bencode_walk.proofs.Rest.{But, rest-but}
use Rattle.bencode_fields.specs.Looks.{string_in}
use Rattle.torrent_metainfo.specs.Rules.{good_name}
use Rattle.torrent_metainfo.proofs.Naming.{string-further, going_more, going-bad, going_end, is_end, going-other, going-refused}
use Rattle.torrent_metainfo.proofs.names.elements.Goals as goal

pub loop-part-smaller : goal.loop-part-smaller
loop-part-smaller c = let x = string-further c.args.text.now c.args.first c.loop-part.p c.loop-part.invariant c.in-String.part.from c.in-String.part.len c.in-String.next (ap (λ v. seen_paper (Ok v)) (sym c.in-String.is) ∙ c.in_ok-part.ensures) in omega (arith, x.0, x.1)

pub loop-part-preserved : goal.loop-part-preserved
loop-part-preserved c = going_more c.args.text.now c.args.first c.loop-part.p c.loop-part.invariant c.in-String.part c.in-String.next (ap (λ v. seen_paper (Ok v)) (sym c.in-String.is) ∙ c.in_ok-part.ensures) (sym (c.is_good.ensures ∙ ap good_name c.bytes.ensures.same) ∙ c.if-is_good.true)

pub returns-else-is_good : goal.returns-else-is_good
returns-else-is_good c = λ d vs t. ap refusal c.refuse.ensures ∙ going-bad c.args.text.now c.args.first c.loop-part.p c.loop-part.invariant c.in-String.part c.in-String.next (ap (λ v. seen_paper (Ok v)) (sym c.in-String.is) ∙ c.in_ok-part.ensures) (sym (c.is_good.ensures ∙ ap good_name c.bytes.ensures.same) ∙ c.if-is_good.false) d vs t

pub returns-in-End : goal.returns-in-End
returns-in-End c = going_end c.args.text.now c.args.first c.loop-part.p c.loop-part.invariant c.in-End.past (ap (λ v. seen_paper (Ok v)) (sym c.in-End.is) ∙ c.in_ok-part.ensures)

pub returns-in_err-part : goal.returns-in_err-part
returns-in_err-part c =
    let e : c.from_residual.result ≡ Err c.in_err-part.field-0.0 = search rules in
    λ d vs t. ap paper e ∙ going-refused c.args.text.now c.args.first c.loop-part.p c.loop-part.invariant _ _ c.in_err-part.ensures d vs t

pub returns-in_default : goal.returns-in_default
returns-in_default c =
    let v = c.in_ok-part.field-0 in
    let k : But (1 ∷ 2 ∷ 3 ∷ 4 ∷ []) v = (c.in_default.not-String, tt, tt, tt, tt, c.in_default.not-End) in
    let p = c.loop-part.p in
    λ d vs t. ap refusal c.refuse-in_default.ensures
    ∙ going-other c.args.text.now c.args.first p c.loop-part.invariant
    (rest-but (1 ∷ 2 ∷ 3 ∷ 4 ∷ []) (string_in p) _ (tt, λ z q. refl, λ a m q. refl, λ q. refl, λ q. refl, tt) v _ c.in_ok-part.ensures k)
    (rest-but (1 ∷ 2 ∷ 3 ∷ 4 ∷ []) (λ h. taken (is_end h)) (taken false) (tt, λ z q. refl, λ a m q. refl, λ q. refl, λ q. refl, tt) v _ c.in_ok-part.ensures k) d vs t
