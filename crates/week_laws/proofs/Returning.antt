-- A week's file that is written is read back, and one that is read gives its bytes when it is written again. Assumes nothing.
use mathlib.Core.Path.{◌≡◌, sym, ap, ◌∙◌}
use mathlib.Core.List.{List, ◌++◌}
use Prim.Native.Nat.{ℕ, ◌≤◌}
use lib.ListN.{length, take, drop}
use Rattle.refusal.specs.Paper.{taken}
use Rattle.bencode_writer.specs.Put.{left}
use Rattle.torrent_laws.specs.Torrent.{TorrentSays}
use Rattle.week.specs.File.{Package, bodies_of, table_bytes}
use Rattle.week.specs.Rules.{week_of}
use Rattle.week.specs.Writing.{write_of}
use Rattle.week.specs.declared.Week.{Week}
use Rattle.week_laws.specs.Week.{IsWeek, lengths_of, answer_of}
use Rattle.week_laws.proofs.Laws.{are-long, week-every}
use Rattle.week_laws.proofs.Back.{write-week, rewrite}

-- what stands in the output is a week's file of these bodies, and the reader takes it for that
pub reads-back : (bs ns o : List ℕ) (q : ℕ) → (write_of bs ns o).answer ≡ taken q
    → (ps : List Package) × (ts : List TorrentSays) × IsWeek (take q (write_of bs ns o).out) ps ts × (bodies_of ps ≡ bs) × (lengths_of ps ≡ ns) × (week_of (take q (write_of bs ns o).out) ≡ taken (answer_of ts))
reads-back bs ns o q e = let (ps, ts, i, b, c) = write-week bs ns o q e in (ps, ts, i, b, c, week-every (take q (write_of bs ns o).out) ps ts i)

-- of what stands after the table of a file that is read, and the lengths of its packages, that file is written, wherever there is room
pub again : (s : List ℕ) (w : Week) (ps : List Package) (ts : List TorrentSays) → IsWeek s ps ts → week_of s ≡ taken w
    → (bs ns o : List ℕ) → bs ≡ drop (table_bytes w.count) s → ns ≡ lengths_of ps → length s ≤ length o → write_of bs ns o ≡ left (taken (length s)) (s ++ drop (length s) o)
again s w ps ts i e bs ns o b l k =
    let z : taken w ≡ taken (answer_of ts) = sym e ∙ week-every s ps ts i in
    let x : w ≡ answer_of ts = cc in
    let n : w.count ≡ length ps = ap (λ (y : Week). y.count) x ∙ sym (are-long ps ts i.packages) in
    ap (λ (y : List ℕ). write_of y ns o) (b ∙ ap (λ (j : ℕ). drop (table_bytes j) s) n) ∙ ap (λ (y : List ℕ). write_of (drop (table_bytes (length ps)) s) y o) l ∙ rewrite s ps ts i o k
