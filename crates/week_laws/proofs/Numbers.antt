-- The numbers of refusals: when 8 is given, that there is no other than a torrent's and 18, and a table that is cut off. Assumes nothing.
use mathlib.Core.Path.{◌≡◌, refl, sym, ap, ◌∙◌, subst}
use mathlib.Core.Logic.Iff
use mathlib.Core.Logic.{◌⊎◌, inl, inr, ⊎_elim, ◌↔◌}
use mathlib.Core.List.{List}
use Prim.Native.Nat.{ℕ, ◌<◌, ◌≤◌}
use native.Mathlib.Omega.{arith}
use lib.ListN.{length, take, drop, length-take, length-drop}
use Rattle.refusal.specs.Limits.{most_text}
use Rattle.refusal.specs.Numbers.{week, long}
use Rattle.refusal.specs.Paper.{refused}
use Rattle.bencode_laws.proofs.Laws.{Numbered, eight}
use Rattle.torrent_laws.proofs.Laws as torrent
use Rattle.week.specs.File.{table_bytes}
use Rattle.week.specs.Rules.{offset_place, length_place, table_of, package_at, week_of}
use Rattle.week_laws.specs.Causes.{Number, Counts, counted, wrong-length, NoBody, no-torrent, other-hash, NoTable, long-table, no_table, NoWeek, bad-table, bad-body, NoEntry, long-file, no-count, past-last, no-offset, no_length, no_hash, no_body}
use Rattle.week_laws.proofs.Laws.{week-faults, table-faults, entry-faults}

module _ (s : List ℕ) where
  -- a body of the file is no longer than the file
  body-8 : (i at m k q : ℕ) → length s ≤ most_text → NoBody s i at m k q → k ≡ 8 → ⊥
  body-8 i at m k q l (no-torrent n p e) h =
      let z = (torrent.long-law (take m (drop at s)) p).0 (e ∙ ap (λ (x : ℕ). refused x p) h) in
      omega (arith, z.0, length-take m (drop at s), length-drop at s)
  body-8 i at m k q l (other-hash v t f g d) h = omega (arith, h)

  -- 8: of the table, of the whole file, and of a package by its entry
  long-table-only : (k q : ℕ) → k ≡ 8 → NoTable s k q → (most_text < length s) × (q ≡ 0)
  long-table-only k q e (long-table l) = (l, refl)
  long-table-only k q e (no_table r l w) = absurd (omega (arith, e))

  pub table-8 : (q : ℕ) → table_of s ≡ refused 8 q ↔ ((most_text < length s) × (q ≡ 0))
  table-8 q = Iff.trans (table-faults s 8 q) (long-table-only 8 q refl, λ h. subst (NoTable s long) (sym h.1) (long-table h.0))

  pub week-8 : (q : ℕ) → week_of s ≡ refused 8 q ↔ ((most_text < length s) × (q ≡ 0))
  week-8 q = Iff.trans (week-faults s 8 q) (only 8 q refl, λ h. subst (NoWeek s long) (sym h.1) (bad-table long 0 (long-table h.0)))
    where
      only : (k p : ℕ) → k ≡ 8 → NoWeek s k p → (most_text < length s) × (p ≡ 0)
      only k p e (bad-table j r h) = long-table-only j r e h
      only k p e (bad-body n i at m j r l t b g x h) = absurd (body-8 i at m j r l h e)

  pub entry-8 : (i q : ℕ) → package_at s i ≡ refused 8 q ↔ ((most_text < length s) × (q ≡ 0))
  entry-8 i q = Iff.trans (entry-faults s i 8 q) (only 8 q refl, λ h. subst (NoEntry s i long) (sym h.1) (long-file h.0))
    where
      only : (k p : ℕ) → k ≡ 8 → NoEntry s i k p → (most_text < length s) × (p ≡ 0)
      only k p e (long-file l) = (l, refl)
      only k p e (no-count l h) = absurd (omega (arith, e))
      only k p e (past-last n l c h) = absurd (omega (arith, e))
      only k p e (no-offset n l c b h) = absurd (omega (arith, e))
      only k p e (no_length n at l c b o h) = absurd (omega (arith, e))
      only k p e (no_hash n at m l c b o f g h) = absurd (omega (arith, e))
      only k p e (no_body n at m j r l c b x h) = absurd (body-8 i at m j r l h e)

  -- no other number: bencode's, the torrent's, 10 to 13, or 18
  abbrev pub Ours : ℕ → Type 0
  Ours k = Numbered k ⊎ (((10 ≤ k) × (k ≤ 13)) ⊎ (k ≡ week))

  pub body-ours : (i at m k q : ℕ) → NoBody s i at m k q → Ours k
  body-ours i at m k q (no-torrent n p e) = ⊎_elim (λ (z : Numbered n). inl z) (λ (z : (10 ≤ n) × (n ≤ 13)). inr (inl z)) (torrent.none_other (take m (drop at s)) n p e)
  body-ours i at m k q (other-hash v t f h d) = inr (inr refl)

  pub none_other : (k q : ℕ) → NoWeek s k q → Ours k
  none_other k q (bad-table j r (long-table l)) = inl eight
  none_other k q (bad-table j r (no_table p l w)) = inr (inr refl)
  none_other k q (bad-body n i at m j r l t b g x h) = body-ours i at m j r h

  -- a file that is cut anywhere in its table after the first offset is refused at the first length
  pub cut-table : (n : ℕ) → Counts s n → Number s (offset_place 0) (table_bytes n) → length s < table_bytes n → week_of s ≡ refused week (length_place 0)
  cut-table n c o l =
      let short : length s ≤ most_text = omega (arith, c.few) in
      (week-faults s week (length_place 0)).1 (bad-table week (length_place 0) (no_table (length_place 0) short (wrong-length n 0 (table_bytes n) (counted c) c.some o (λ m x y. absurd (omega arith)))))
