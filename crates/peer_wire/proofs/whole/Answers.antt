-- `peer_wire::whole` meets its contract. Each arm of the match by its id. Assumes nothing.
use Rattle.peer_wire.specs.Message.{have}
use mathlib.Core.Path.{ap, ◌∙◌}
use native.Mathlib.Omega.{arith}
use Rattle.peer_wire.proofs.Steps.{reaches, says, request-says, piece-says, cancel-says, other-says, other-id, least-least, allowed-true}
use Rattle.peer_wire.proofs.whole.Goals as goal

pub word-requires : goal.word-requires
word-requires c = let r = reaches c.args.bytes.now c.args.n c.requires.1 4 c.in-4.is c.requires.2 in omega arith

pub overflow_sub-result : goal.overflow_sub-result
overflow_sub-result c = let r = reaches c.args.bytes.now c.args.n c.requires.1 5 c.in-5.is c.requires.2 in omega arith

pub word-requires-in-6 : goal.word-requires-in-6
word-requires-in-6 c = let r = reaches c.args.bytes.now c.args.n c.requires.1 6 c.in-6.is c.requires.2 in omega arith

pub word-requires-in-6-2 : goal.word-requires-in-6-2
word-requires-in-6-2 c = let r = reaches c.args.bytes.now c.args.n c.requires.1 6 c.in-6.is c.requires.2 in omega arith

pub word-requires-in-6-3 : goal.word-requires-in-6-3
word-requires-in-6-3 c = let r = reaches c.args.bytes.now c.args.n c.requires.1 6 c.in-6.is c.requires.2 in omega arith

pub word-requires-in-7 : goal.word-requires-in-7
word-requires-in-7 c = let r = reaches c.args.bytes.now c.args.n c.requires.1 7 c.in-7.is c.requires.2 in omega arith

pub word-requires-in-7-2 : goal.word-requires-in-7-2
word-requires-in-7-2 c = let r = reaches c.args.bytes.now c.args.n c.requires.1 7 c.in-7.is c.requires.2 in omega arith

pub overflow_sub-result-in-7 : goal.overflow_sub-result-in-7
overflow_sub-result-in-7 c = let r = reaches c.args.bytes.now c.args.n c.requires.1 7 c.in-7.is c.requires.2 in omega arith

pub word-requires-in-8 : goal.word-requires-in-8
word-requires-in-8 c = let r = reaches c.args.bytes.now c.args.n c.requires.1 8 c.in-8.is c.requires.2 in omega arith

pub word-requires-in-8-2 : goal.word-requires-in-8-2
word-requires-in-8-2 c = let r = reaches c.args.bytes.now c.args.n c.requires.1 8 c.in-8.is c.requires.2 in omega arith

pub word-requires-in-8-3 : goal.word-requires-in-8-3
word-requires-in-8-3 c = let r = reaches c.args.bytes.now c.args.n c.requires.1 8 c.in-8.is c.requires.2 in omega arith

pub overflow_sub-result-in_default : goal.overflow_sub-result-in_default
overflow_sub-result-in_default c = omega (arith, least-least c.args.id, (allowed-true c.args.id c.args.n c.requires.2).0)

pub returns-in-0 : goal.returns-in-0
returns-in-0 c = says c.args.bytes.now c.args.n c.requires.1 0 c.in-0.is

pub returns-in-1 : goal.returns-in-1
returns-in-1 c = says c.args.bytes.now c.args.n c.requires.1 1 c.in-1.is

pub returns-in-2 : goal.returns-in-2
returns-in-2 c = says c.args.bytes.now c.args.n c.requires.1 2 c.in-2.is

pub returns-in-3 : goal.returns-in-3
returns-in-3 c = says c.args.bytes.now c.args.n c.requires.1 3 c.in-3.is

pub returns-in-4 : goal.returns-in-4
returns-in-4 c = ap have c.word.ensures ∙ says c.args.bytes.now c.args.n c.requires.1 4 c.in-4.is

pub returns-in-5 : goal.returns-in-5
returns-in-5 c = says c.args.bytes.now c.args.n c.requires.1 5 c.in-5.is

pub returns-in-6 : goal.returns-in-6
returns-in-6 c = request-says c.args.bytes.now c.args.n c.requires.1 c.word-in-6.ensures c.word-in-6-2.ensures c.word-in-6-3.ensures c.in-6.is

pub returns-in-7 : goal.returns-in-7
returns-in-7 c = piece-says c.args.bytes.now c.args.n c.requires.1 c.word-in-7.ensures c.word-in-7-2.ensures c.in-7.is

pub returns-in-8 : goal.returns-in-8
returns-in-8 c = cancel-says c.args.bytes.now c.args.n c.requires.1 c.word-in-8.ensures c.word-in-8-2.ensures c.word-in-8-3.ensures c.in-8.is

pub returns-in_default : goal.returns-in_default
returns-in_default c = other-says c.args.bytes.now c.args.n c.requires.1 (other-id c.args.id c.in_default.in_default-own.rest.0.0.0.0.0.0.0.0.1 c.in_default.in_default-own.rest.0.0.0.0.0.0.0.1 c.in_default.in_default-own.rest.0.0.0.0.0.0.1 c.in_default.in_default-own.rest.0.0.0.0.0.1 c.in_default.in_default-own.rest.0.0.0.0.1 c.in_default.in_default-own.rest.0.0.0.1 c.in_default.in_default-own.rest.0.0.1 c.in_default.in_default-own.rest.0.1 c.in_default.in_default-own.rest.1)
