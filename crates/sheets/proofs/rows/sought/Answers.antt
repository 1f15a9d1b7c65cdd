-- `sheets::rows::sought` meets its contract. Assumes nothing.
use mathlib.Core.Path.{◌≡◌, refl, sym, ap, ◌∙◌}
use mathlib.Core.List.{List}
use Prim.Native.Nat.{ℕ}
use Rattle.refusal.specs.Paper.{taken}
use Rattle.refusal.specs.Parts.{bytes_at}
use Rattle.refusal.proofs.Cases.{pick_yes, pick_no}
use Rattle.bencode_walk.specs.Lookup.{same_key}
use Rattle.sheets.proofs.Lines.{same_bytes}
use Rattle.sheets.proofs.rows.sought.Goals as goal

pub returns-then-same : goal.returns-then-same
returns-then-same c = let e : c.same.result ≡ same_key (bytes_at c.args.sheet.now c.args.k) c.args.hash.now = same_bytes _ _ c.same.result c.same.ensures.0 c.same.ensures.1 ∙ ap (λ (l : List ℕ). same_key l c.args.hash.now) c.bytes-own.ensures.same in ap taken (pick_yes _ _ (sym e ∙ c.if-same.true) refl)

pub returns : goal.returns
returns c = let e : c.same.result ≡ same_key (bytes_at c.args.sheet.now c.args.k) c.args.hash.now = same_bytes _ _ c.same.result c.same.ensures.0 c.same.ensures.1 ∙ ap (λ (l : List ℕ). same_key l c.args.hash.now) c.bytes-own.ensures.same in ap taken (pick_no _ _ (sym e ∙ c.if-same.false) refl)
