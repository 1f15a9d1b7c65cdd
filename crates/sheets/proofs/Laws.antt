-- The laws: which texts are sheets, what is found in one, and when each refusal is given. Assumes nothing.
use mathlib.Core.Path.{◌≡◌, refl, sym, ap, ◌∙◌, subst}
use mathlib.Core.Logic.Iff
use mathlib.Core.Logic.{◌⊎◌, inl, inr, ⊎_elim, ◌↔◌}
use mathlib.Core.List.{List}
use Prim.Native.Nat.{ℕ, ◌<◌, ◌≤◌}
use native.Mathlib.Omega.{arith}
use lib.ListN.{length}
use Rattle.refusal.specs.Paper.{Outcome, taken, refused, then}
use Rattle.refusal.specs.Numbers.{long, kind, peer}
use Rattle.refusal.specs.Limits.{most_text}
use Rattle.refusal.specs.Parts.{bytes_at}
use Rattle.refusal.specs.declared.Part.{Part}
use Rattle.refusal.proofs.Cases.{no_way}
use Rattle.refusal.proofs.Outcomes.{then-taken, then-refused}
use Rattle.bencode.specs.Value.{Value, Entries, str, int, list, dict, start}
use Rattle.bencode.specs.Decode.{decode}
use Rattle.bencode.specs.Exact.{Fine}
use Rattle.bencode.proofs.Exact.{taken_fine, fine-taken}
use Rattle.bencode_laws.proofs.Laws as bencode
use Rattle.bencode_walk.specs.Has.{Has}
use Rattle.bencode_walk.specs.Stands.{StandEntries}
use Rattle.bencode_walk.specs.Lookup.{Under, nothing, under, lookup}
use Rattle.bencode_walk.proofs.Standing.{fine-stands, dictionary-stands}
use Rattle.bencode_walk.proofs.Finding.{found-stands}
use Rattle.bencode_walk.proofs.Having.{found-has, has-found, has-none}
use Rattle.bencode_fields.specs.Values.{part_of}
use Rattle.bencode_fields.proofs.Standing.{part_bytes}
use Rattle.sheets.specs.Sheet.{IsSheet}
use Rattle.sheets.specs.Rules.{Listed, listed, unlisted, listed_under, sheet_at, sheet_of}
use Rattle.sheets.specs.Causes.{NoRows, bad-key, bad-address, later-row, NoSheet, no-dictionary, bad-row, NoSheetText}
use Rattle.sheets.proofs.Checking.{rows-of, rows-checks, sheet-checks}

-- by what a text is decoded to
by_value : (h s : List ℕ) (v : Value) → Fine s v → sheet_of h s ≡ sheet_at h v
by_value h s v f = ap (λ (o : Outcome Value). then o (sheet_at h)) (fine-taken s v f)

-- a text is taken exactly when it is the encoding of a sheet that keeps bencode's limits
pub sheet-exact : (h s : List ℕ) → ((x : Listed) × (sheet_of h s ≡ taken x)) ↔ ((v : Value) × Fine s v × IsSheet v)
sheet-exact h s = (
  λ r. let t = then-taken (decode s) (sheet_at h) r.0 r.1 in
      let f = taken_fine s t.0 t.1 in
      (t.0, f, ((sheet-checks h s t.0 (fine-stands s t.0 f)).only r.0 t.2).1),
  λ r. let c = (sheet-checks h s r.0 (fine-stands s r.0 r.1)).every tt r.2 in (c.0, by_value h s r.0 r.1 ∙ c.1),
)

-- ---- what is found

-- the address for h, in what a search for it told
found-listed : (h : List ℕ) (es : Entries) (x : Part) (u : Under) → lookup 1 es h ≡ u → listed_under u ≡ listed x → (q : ℕ) × (bs : List ℕ) × (lookup 1 es h ≡ under q (str bs)) × (x ≡ part_of q bs)
found-listed h es x (under q (str bs)) e f = (q, bs, e, cc)
found-listed h es x (under q (int z)) e f = no_way (cc)
found-listed h es x (under q (list vs)) e f = no_way (cc)
found-listed h es x (under q (dict ds)) e f = no_way (cc)
found-listed h es x nothing e f = no_way (cc)

module _ (h s : List ℕ) (es : Entries) (f : Fine s (dict es)) where
  -- its rows stand in the text
  stand : (d : ℕ) × StandEntries s d 1 start es
  stand = let g = (dictionary-stands s 32 0 es (fine-stands s (dict es) f)).1 in (g.0, g.2)

  bytes-found : (q : ℕ) (bs : List ℕ) → lookup 1 es h ≡ under q (str bs) → bytes_at s (part_of q bs) ≡ bs
  bytes-found q bs e = part_bytes s stand.0 q bs (found-stands s stand.0 1 start es h stand.1 q (str bs) e)

  module _ (i : IsSheet (dict es)) where
    -- all rows are good, so the answer is what the search tells
    sheet-found : sheet_of h s ≡ taken (listed_under (lookup 1 es h))
    sheet-found =
        by_value h s (dict es) f
        ∙ ap (λ (o : Outcome (Unit {0})). then o (λ x. taken (listed_under (lookup 1 es h)))) ((rows-checks s stand.0 1 start es stand.1).every tt (rows-of es i)).1

    pub sheet-listed : (bs : List ℕ) → Has es h (str bs) → (q : ℕ) × (lookup 1 es h ≡ under q (str bs)) × (sheet_of h s ≡ taken (listed (part_of q bs))) × (bytes_at s (part_of q bs) ≡ bs)
    sheet-listed bs a =
        let r = has-found 1 es h (str bs) stand.0 start a stand.1.keeps in
        (r.0, r.1, sheet-found ∙ ap (λ (u : Under). taken (listed_under u)) r.1, bytes-found r.0 bs r.1)

    pub sheet-unlisted : ((v : Value) → Has es h v → ⊥) → sheet_of h s ≡ taken unlisted
    sheet-unlisted a = sheet-found ∙ ap (λ (u : Under). taken (listed_under u)) (has-none 1 es h a)

    -- and back
    pub listed_has : (x : Part) → sheet_of h s ≡ taken (listed x) → (q : ℕ) × (bs : List ℕ) × Has es h (str bs) × (lookup 1 es h ≡ under q (str bs)) × (x ≡ part_of q bs) × (bytes_at s x ≡ bs)
    listed_has x e =
        let g : listed_under (lookup 1 es h) ≡ listed x = let k = sheet-found in cc in
        let r = found-listed h es x (lookup 1 es h) refl g in
        (r.0, r.1, found-has 1 es h r.0 (str r.1) r.2, r.2, r.3, ap (bytes_at s) r.3 ∙ bytes-found r.0 r.1 r.2)

    pub unlisted-has : sheet_of h s ≡ taken unlisted → (v : Value) → Has es h v → ⊥
    unlisted-has e v a =
        let b = (rows-of es i h v a).1 in
        let g = (sheet-listed b.0 (subst (Has es h) b.1 a)).2 in
        no_way (cc)

-- ---- refusals

rows-numbers : (p : ℕ) (es : Entries) (n q : ℕ) → NoRows p es n q → (n ≡ 10) ⊎ (n ≡ 15)
rows-numbers p es n q (bad-key o k v ds h) = inr refl
rows-numbers p es n q (bad-address o k v ds l h) = inl refl
rows-numbers p es n q (later-row o k bs ds m r l h) = rows-numbers _ ds m r h

-- a value is no sheet by 10 or by 15
pub sheet-numbers : (v : Value) (n p : ℕ) → NoSheet v n p → (n ≡ 10) ⊎ (n ≡ 15)
sheet-numbers v n p (no-dictionary w h) = inl refl
sheet-numbers v n p (bad-row es m q h) = rows-numbers 1 es m q h

module _ (h s : List ℕ) (n p : ℕ) where
  by-text : NoSheetText s n p → sheet_of h s ≡ refused n p
  by-text (v, f, c) = by_value h s v f ∙ (sheet-checks h s v (fine-stands s v f)).refuses n p c

  -- a refusal is bencode's, or that of a value that is no sheet
  pub refused-law : sheet_of h s ≡ refused n p ↔ ((decode s ≡ refused n p) ⊎ NoSheetText s n p)
  refused-law = (
    λ e. ⊎_elim (λ (d : decode s ≡ refused n p). inl d)
        (λ (r : (v : Value) × (decode s ≡ taken v) × (sheet_at h v ≡ refused n p)). let f = taken_fine s r.0 r.1 in inr (r.0, f, (sheet-checks h s r.0 (fine-stands s r.0 f)).blames n p r.2))
        (then-refused (decode s) (sheet_at h) n p e),
    ⊎_elim (λ (d : decode s ≡ refused n p). ap (λ (o : Outcome Value). then o (sheet_at h)) d) by-text,
  )

  -- its number is one of bencode's, 1 to 8, or 10 or 15
  pub none_other : sheet_of h s ≡ refused n p → bencode.Numbered n ⊎ ((n ≡ 10) ⊎ (n ≡ 15))
  none_other e = ⊎_elim (λ (d : decode s ≡ refused n p). inl (bencode.none_other s n p d)) (λ (c : NoSheetText s n p). inr (sheet-numbers c.0 n p c.2)) (refused-law.0 e)

  -- 1 to 8 are bencode's, the others the sheet's
  not_ours : n ≤ 8 → NoSheetText s n p → ⊥
  not_ours l c = ⊎_elim (λ (e : n ≡ 10). omega arith) (λ (e : n ≡ 15). omega arith) (sheet-numbers c.0 n p c.2)

  pub by-bencode : n ≤ 8 → sheet_of h s ≡ refused n p ↔ (decode s ≡ refused n p)
  by-bencode l = (λ e. ⊎_elim (λ (d : decode s ≡ refused n p). d) (λ (c : NoSheetText s n p). absurd (not_ours l c)) (refused-law.0 e), λ d. refused-law.1 (inl d))

  by-sheet : 9 ≤ n → sheet_of h s ≡ refused n p ↔ NoSheetText s n p
  by-sheet l = (λ e. ⊎_elim (λ (d : decode s ≡ refused n p). absurd (let o = bencode.none_other s n p d in omega arith)) (λ (c : NoSheetText s n p). c) (refused-law.0 e), by-text)

-- each number of its own exactly for its cause
module _ (h s : List ℕ) (p : ℕ) where
  -- 8
  pub long-law : sheet_of h s ≡ refused long p ↔ ((most_text < length s) × (p ≡ 0))
  long-law = Iff.trans (by-bencode h s long p (omega arith)) ((bencode.long-law s p).0, λ c. (bencode.long-law s p).1 c.0 ∙ ap (λ (q : ℕ). refused long q) (sym c.1))

  -- 10
  pub kind-law : sheet_of h s ≡ refused kind p ↔ NoSheetText s kind p
  kind-law = by-sheet h s kind p (omega arith)

  -- 15
  pub peer-law : sheet_of h s ≡ refused peer p ↔ NoSheetText s peer p
  peer-law = by-sheet h s peer p (omega arith)
