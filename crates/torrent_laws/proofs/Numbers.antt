-- The numbers by which a value is no torrent: 10 to 13. Assumes nothing.
use mathlib.Core.List.{List}
use Prim.Native.Nat.{ℕ, ◌≤◌}
use native.Mathlib.Omega.{arith}
use Rattle.bencode.specs.Value.{Value, Items, Entries}
use Rattle.bencode_walk.specs.Lookup.{Under}
use Rattle.torrent_laws.specs.Causes.{NoName, no_name, bad_name, NoElements, this, later, NoPath, no_list, empty-path, bad_element, NoFile, no-dictionary, bad-length, bad-path, NoFiles, this-file, later-file, NoFileList, no_file-list, bad-file, NoContent, neither, both, wrong-length, wrong-files, BadSizes, file-count, no_bytes, many-pieces, wrong-pieces, NoInfo, info-name, info-piece-length, info-pieces, info-content, info-sizes, NoInfoAt, no-info-dictionary, no-info, NoTorrent, no_top, bad-announce, bad-info}
use Rattle.bencode_fields.specs.Causes.{Lacks, missing, wrong, NoString, no_string, NoNumber, no-integer, out_of_range}

abbrev pub Ours : ℕ → Type 0
Ours n = (10 ≤ n) × (n ≤ 13)

lacks-ours : (d : ℕ) (u : Under) (W : ℕ → Value → ℕ → ℕ → Type 0) → ((p : ℕ) (v : Value) (n q : ℕ) → W p v n q → Ours n) → (n q : ℕ) → Lacks d u W n q → Ours n
lacks-ours d u W h n q (missing e) = (omega arith, omega arith)
lacks-ours d u W h n q (wrong p v m r e w) = h p v m r w

string-ours : (p : ℕ) (v : Value) (n q : ℕ) → NoString p v n q → Ours n
string-ours p v n q (no_string w h) = (omega arith, omega arith)

number-ours : (R : ℕ → Type 0) (p : ℕ) (v : Value) (n q : ℕ) → NoNumber R p v n q → Ours n
number-ours R p v n q (no-integer w h) = (omega arith, omega arith)
number-ours R p v n q (out_of_range z h) = (omega arith, omega arith)

name-ours : (p : ℕ) (v : Value) (n q : ℕ) → NoName p v n q → Ours n
name-ours p v n q (no_name w h) = (omega arith, omega arith)
name-ours p v n q (bad_name bs h) = (omega arith, omega arith)

elements-ours : (p : ℕ) (vs : Items) (n q : ℕ) → NoElements p vs n q → Ours n
elements-ours p vs n q (this o v ws m r h) = name-ours o v m r h
elements-ours p vs n q (later o bs ws m r g h) = elements-ours _ ws m r h

path-ours : (p : ℕ) (v : Value) (n q : ℕ) → NoPath p v n q → Ours n
path-ours p v n q (no_list w h) = (omega arith, omega arith)
path-ours p v n q empty-path = (omega arith, omega arith)
path-ours p v n q (bad_element vs m r h) = elements-ours _ vs m r h

file-ours : (p : ℕ) (v : Value) (n q : ℕ) → NoFile p v n q → Ours n
file-ours p v n q (no-dictionary w h) = (omega arith, omega arith)
file-ours p v n q (bad-length es m r h) = lacks-ours _ _ _ (number-ours _) m r h
file-ours p v n q (bad-path es k m r g h) = lacks-ours _ _ _ path-ours m r h

files-ours : (p : ℕ) (vs : Items) (n q : ℕ) → NoFiles p vs n q → Ours n
files-ours p vs n q (this-file o v ws m r h) = file-ours o v m r h
files-ours p vs n q (later-file o es ws f m r g h) = files-ours _ ws m r h

list-ours : (p : ℕ) (v : Value) (n q : ℕ) → NoFileList p v n q → Ours n
list-ours p v n q (no_file-list w h) = (omega arith, omega arith)
list-ours p v n q (bad-file vs m r h) = files-ours _ vs m r h

content-ours : (d : ℕ) (es : Entries) (n q : ℕ) → NoContent d es n q → Ours n
content-ours d es n q (neither e f) = (omega arith, omega arith)
content-ours d es n q (both a b c f g h) = (omega arith, omega arith)
content-ours d es n q (wrong-length p v m r e f h) = number-ours _ p v m r h
content-ours d es n q (wrong-files p v m r e f h) = list-ours p v m r h

sizes-ours : (ns : List ℕ) (pl : ℕ) (hs : List ℕ) (a b : ℕ) (n q : ℕ) → BadSizes ns pl hs a b n q → Ours n
sizes-ours ns pl hs a b n q (file-count h) = (omega arith, omega arith)
sizes-ours ns pl hs a b n q (no_bytes f g h) = (omega arith, omega arith)
sizes-ours ns pl hs a b n q (many-pieces k f g h i j) = (omega arith, omega arith)
sizes-ours ns pl hs a b n q (wrong-pieces k f g h i j l) = (omega arith, omega arith)

info-ours : (d : ℕ) (es : Entries) (n q : ℕ) → NoInfo d es n q → Ours n
info-ours d es n q (info-name m r h) = lacks-ours _ _ _ name-ours m r h
info-ours d es n q (info-piece-length bs m r i h) = lacks-ours _ _ _ (number-ours _) m r h
info-ours d es n q (info-pieces bs k m r i j h) = lacks-ours _ _ _ string-ours m r h
info-ours d es n q (info-content bs k hs m r i j l h) = content-ours d es m r h
info-ours d es n q (info-sizes bs k hs fs m r i j l o h) = sizes-ours _ _ _ _ _ m r h

at-ours : (p : ℕ) (v : Value) (n q : ℕ) → NoInfoAt p v n q → Ours n
at-ours p v n q (no-info-dictionary w h) = (omega arith, omega arith)
at-ours p v n q (no-info es m r h) = info-ours p es m r h

pub torrent-ours : (v : Value) (n q : ℕ) → NoTorrent v n q → Ours n
torrent-ours v n q (no_top w h) = (omega arith, omega arith)
torrent-ours v n q (bad-announce es m r h) = lacks-ours _ _ _ string-ours m r h
torrent-ours v n q (bad-info es bs m r g h) = lacks-ours _ _ _ at-ours m r h
