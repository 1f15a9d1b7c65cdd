-- `sheets::hashed` meets its contract. Assumes nothing.
use mathlib.Core.Path.{sym, ap, ◌∙◌, subst}
use mathlib.Core.List.{List}
use Prim.Native.Nat.{ℕ, ◌≤◌}
use lib.ListN.{length}
use Rattle.refusal.specs.Limits.{longest_piece}
use Rattle.refusal.proofs.Cases.{no_way}
use Rattle.hash_sha1.specs.Sha1.{sha1}
use Rattle.hash_sha1.proofs.Determined.{digest-written}
use Rattle.sheets.specs.Rules.{sheet_of}
use Rattle.sheets.specs.Reading.{address_in}
use Rattle.sheets.proofs.hashed.Goals as goal

pub returns-in-Ok : goal.returns-in-Ok
returns-in-Ok c = λ h. c.listed.ensures ∙ ap (λ (b : List ℕ). address_in c.args.announce (sheet_of b c.args.sheet.now)) ((digest-written _ _ c.digest.result c.digest.ensures (subst (λ (m : List ℕ). length m ≤ longest_piece) (sym c.bytes.ensures.same) h)).1 ∙ ap sha1 c.bytes.ensures.same)

pub returns-in-Err : goal.returns-in-Err
returns-in-Err c = λ h. let w = (digest-written _ _ c.digest.result c.digest.ensures (subst (λ (m : List ℕ). length m ≤ longest_piece) (sym c.bytes.ensures.same) h)).0 in let r = c.in-Err.is in no_way (cc)
