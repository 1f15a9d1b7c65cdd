-- Demand 1 of `bencode_walk`: the steps over a text. Assumes nothing.
use Rattle.refusal.specs.Paper.{paper}
use Rattle.refusal.specs.declared.Refusal.{Refusal}
use Rattle.std.specs.Prelude.{List, ◌≡◌, ℕ, suc, ◌+◌, min, length, Result}
use Rattle.refusal.specs.Parts.{bytes_at}
use Rattle.refusal.specs.declared.Part.{Part}
use Rattle.bencode_walk.specs.Walk.{seen_paper, look_of, entry_paper, entry_of, seek_paper, seek_of, skip_of}
use Rattle.bencode_walk.specs.declared.Next.{Next}
use Rattle.bencode_walk.specs.declared.Seen.{Seen}
use Rattle.bencode_walk.specs.declared.Sought.{Sought}
use Rattle.demands.specs.One.{Lent, now, Ref}

-- bencode_walk::look
abbrev pub look-ensures : (text : Lent (List ℕ)) (at : ℕ) → Result Seen Refusal → Type 0
look-ensures text at r = seen_paper r ≡ look_of (now text.entry) at

-- bencode_walk::entry
abbrev pub entry-ensures : (text : Lent (List ℕ)) (at : ℕ) → Result Next Refusal → Type 0
entry-ensures text at r = entry_paper r ≡ entry_of (now text.entry) at

-- bencode_walk::seek
abbrev pub seek-ensures : (text : Lent (List ℕ)) (at : ℕ) (key : Lent (List ℕ)) → Result Sought Refusal → Type 0
seek-ensures text at key r = seek_paper r ≡ seek_of (suc (length (now text.entry))) (now text.entry) at (now key.entry)

-- bencode_walk::skip
abbrev pub skip-ensures : (text : Lent (List ℕ)) (at : ℕ) → Result ℕ Refusal → Type 0
skip-ensures text at r = paper r ≡ skip_of (now text.entry) at

-- bencode_walk::bytes
abbrev pub bytes-ensures : (text : Lent (List ℕ)) (p : Part) → Ref (List ℕ) → Type 0
bytes-ensures text p r =
    (now r ≡ bytes_at (now text.entry) p)
    × ((r.ptr.0 ≡ text.entry.ptr.0) × (r.ptr.1 ≡ text.entry.ptr.1 + min p.from (length (now text.entry))))
