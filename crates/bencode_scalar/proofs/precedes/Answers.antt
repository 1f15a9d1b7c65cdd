-- `bencode_scalar::precedes` meets its contract. Assumes nothing.
use Rattle.std.proofs.Common.{arith, rules, sym, subst}
use Rattle.std.proofs.lemmas.List.{length_push}
use Rattle.std.proofs.lemmas.Slice.Zip.{zip_turn, zip_end}
use Rattle.bencode_scalar.proofs.Keys.{Comparing, comparing-more, comparing-differ, comparing-ended}
use Rattle.bencode_scalar.proofs.precedes.Goals as goal

pub returns-then-x-y : goal.returns-then-x-y
returns-then-x-y c =
    let t = zip_turn c.args.a.now c.args.b.now c.loop-x.yielded c.into_iter-x-iterator.result _ c.next.new.self _ (search rules) (search rules) c.loop-x.yielded_by _ c.in-Some.is c.next.ensures.steps in
    comparing-differ _ _ c.loop-x.invariant t.0 t.1 _ _ (λ l. omega (arith, t.2 0, t.3 0)) (λ l. omega (arith, t.2 0, t.3 0))

pub loop-x-preserved : goal.loop-x-preserved
loop-x-preserved c =
    let t = zip_turn c.args.a.now c.args.b.now c.loop-x.yielded c.into_iter-x-iterator.result _ c.next.new.self _ (search rules) (search rules) c.loop-x.yielded_by _ c.in-Some.is c.next.ensures.steps in
    let m = comparing-more _ _ c.loop-x.invariant t.0 t.1 (omega (arith, t.2 0, t.3 0)) (omega (arith, t.2 0, t.3 0)) in
    subst (Comparing _ _) (sym (length_push _ _)) m

pub returns : goal.returns
returns c =
    let e = zip_end c.args.a.now c.args.b.now c.loop-x.yielded c.into_iter-x-iterator.result _ c.next.new.self _ (search rules) (search rules) c.loop-x.yielded_by c.in-None.is c.next.ensures.steps in
    comparing-ended _ _ c.loop-x.invariant e
