-- The lines of a week's file are those of its packages, and a file that is refused has one line for it. Assumes nothing.
use mathlib.Core.Path.{◌≡◌, refl, sym, ap, ◌∙◌}
use mathlib.Core.List.{List, ◌++◌}
use Prim.Native.Nat.{ℕ, suc, ◌+◌, ◌≤◌}
use native.Mathlib.Omega.{arith}
use lib.ListN.{length}
use Rattle.refusal.specs.Limits.{most_text}
use Rattle.refusal.specs.Paper.{Outcome, refused}
use Rattle.torrent_lines.specs.Lines.{refused_line}
use Rattle.torrent_laws.specs.Torrent.{TorrentSays}
use Rattle.week.specs.File.{Package, table_bytes}
use Rattle.week.specs.Lines.{package_line, last_line, line_in, lines_from, lines_by, listing_of}
use Rattle.week.specs.Rules.{week_of}
use Rattle.week.specs.declared.Entry.{Entry}
use Rattle.week_laws.specs.Week.{ArePackages, no_more, one_more, IsWeek, files_in, total_in, answer_of}
use Rattle.week_laws.specs.Causes.{RightTo}
use Rattle.week_laws.specs.Lines.{package_lines, lines_of}
use Rattle.week_laws.proofs.Exact.{Listed, week-listed, first-told}
use Rattle.week_laws.proofs.Laws.{week-right, are-long, week-every}

module _ (s : List ℕ) where
  -- the lines from package i on are those of the packages listed from there on
  listed-lines : (n : ℕ) → length s ≤ most_text → RightTo s n n (length s) → (i at : ℕ) (ps : List Package) (ts : List TorrentSays) → ArePackages ps ts → Listed s i at ps → length ps + i ≡ n
      → lines_from s (length ps) i ≡ package_lines ps ts
  unfolding lines_from package_lines
  listed-lines n short right i at ps ts no_more l f = refl
  listed-lines n short right i at ps ts (one_more p qs t us h more) l f =
      let x = first-told s n short right i at p qs t (omega arith) l h in
      let rest = lines_from s (length qs) (suc i) in
      ap (λ (o : Outcome Entry). line_in s o ++ rest) x.0
      ∙ ap (λ (q : Package). package_line q.hash (files_in t) (total_in t) ++ rest) (sym x.1)
      ∙ ap (◌++◌ (package_line p.hash (files_in t) (total_in t))) (listed-lines n short right (suc i) (at + length p.body) qs us more x.2 (omega arith))

  week-lines : (ps : List Package) (ts : List TorrentSays) → IsWeek s ps ts → lines_from s (length ts) 0 ≡ package_lines ps ts
  week-lines ps ts w =
      ap (λ (k : ℕ). lines_from s k 0) (sym (are-long ps ts w.packages))
      ∙ listed-lines (length ps) w.short (week-right s ps ts w) 0 (table_bytes (length ps)) ps ts w.packages (week-listed s ps ts w).1 (omega arith)

  -- a line for each package, as its torrent has it, and the sums
  pub listing-every : (ps : List Package) (ts : List TorrentSays) → IsWeek s ps ts → listing_of s ≡ lines_of ps ts
  unfolding listing_of
  listing-every ps ts w = ap (lines_by s) (week-every s ps ts w) ∙ ap (λ (x : List ℕ). x ++ last_line (answer_of ts)) (week-lines ps ts w)

  -- the refusal
  pub listing-refused : (k q : ℕ) → week_of s ≡ refused k q → listing_of s ≡ refused_line k q
  unfolding listing_of
  listing-refused k q e = ap (lines_by s) e
