-- The elements of a path and the files of a list, one after the other, as the code meets them. Assumes nothing.
use Rattle.std.proofs.Common.{◌≡◌, refl, sym, ap, ◌∙◌, subst, List, [], ◌∷◌, ◌++◌, ℕ, ◌+◌, ◌*◌, ◌<◌, ◌≤◌, arith, pos, length, take, drop, length-append}
use mathlib.Core.List as lists
use Rattle.refusal.specs.Paper.{Outcome, taken, refused, map, then}
use Rattle.refusal.specs.Limits.{longest_file}
use Rattle.refusal.specs.declared.Part.{Part}
use Rattle.refusal.proofs.Outcomes.{then-taken, map-taken}
use Rattle.bencode_scalar.specs.Written.{decimal}
use Rattle.bencode.specs.Value.{Value, Items, Entries, str, int, list, dict, none, item, encode, start}
use Rattle.bencode.proofs.Complete.{encode-pos}
use Rattle.bencode_walk.specs.Walk.{Head}
use Rattle.bencode_walk.specs.Stands.{Stands, StandItems}
use Rattle.bencode_walk.specs.Lookup.{under, lookup}
use Rattle.bencode_walk.proofs.Standing.{list-stands, items-end, items-next, dictionary-stands, room}
use Rattle.bencode_walk.proofs.Finding.{found-stands}
use Rattle.bencode_walk.proofs.Having.{found-has}
use Rattle.bencode_fields.specs.Looks.{string_in, string_of}
use Rattle.bencode_fields.specs.Values.{part_of, natural_at, dictionary_at, must}
use Rattle.bencode_fields.proofs.Standing.{string-is, part_bytes}
use Rattle.torrent_blocks.specs.Rules.{sum}
use Rattle.torrent_metainfo.specs.Keys.{length_key, path_key}
use Rattle.torrent_metainfo.specs.Rules.{elements_of, path_at, file_in, file_of, lengths_of}
use Rattle.torrent_metainfo.specs.Reading.{file_at}
use Rattle.torrent_metainfo.specs.declared.File.{File}
use Rattle.torrent_metainfo.proofs.Naming.{no_way}
use Rattle.torrent_metainfo.proofs.Filing.{file-stands, file-end, file-next}
use Rattle.torrent_lines.specs.Lines.{number_in, items_in, elements_in, files_in, found, escaped, slashed, file_lines}
use Rattle.torrent_lines.specs.Lines as lines
use Rattle.bencode_writer.specs.Put.{Ran}
use Rattle.torrent_lines.specs.Places.{marked, PathPrinted, FilesPrinted, far}
use Rattle.bencode_writer.proofs.Runs.{Going, going_start, going_more, going_end}
use Rattle.torrent_lines.proofs.Fitting.{marked-most, has_room, list_length, dict-length}
use Rattle.torrent_lines.proofs.Taken.{must-taken, number-taken, dictionary-taken, element-taken, path-taken, found-is}

-- ---- paths

-- a mark before each element, or one before all and "/" between them
pub marked-joined : (m : ℕ) (x : List ℕ) (xs : List (List ℕ)) → m ∷ slashed (lists.map escaped (x ∷ xs)) ≡ marked m (x ∷ xs)
unfolding slashed marked
marked-joined m x [] = ap (λ (l : List ℕ). m ∷ l) (sym (lists.append-nil (escaped x)))
marked-joined m x (y ∷ t) = ap (λ (l : List ℕ). m ∷ (escaped x ++ l)) (marked-joined 47 y t)

-- the element at p, and what is left after it
pub record Element (s : List ℕ) (m : ℕ) (w : List ℕ) (p : ℕ) (x : Part) : Type 0 where
  pub rest : List ℕ
  pub whole : w ≡ m ∷ (escaped (take x.len (drop x.from s)) ++ rest)
  pub next : PathPrinted s (x.from + x.len) 47 rest
  pub further : p < x.from + x.len
  pub inside : x.from + x.len ≤ length s

module _ (s : List ℕ) (p m : ℕ) (w : List ℕ) (a : PathPrinted s p m w) where
  pub path-more : (x : Part) → taken x ≡ string_of s p → Element s m w p x
  unfolding elements_in marked encode
  path-more x e = go a.items a.stands a.good a.printed
    where
      go : (vs : Items) → StandItems s a.deep p vs → elements_of p vs ≡ taken a.end → w ≡ marked m (elements_in vs) → Element s m w p x
      go none t g h = let f = e ∙ ap (λ (o : Outcome Head). then o (string_in p)) (items-end s a.deep p t) in no_way (cc)
      go (item v vs) t g h =
          let n = items-next s a.deep p v vs t in
          let k = element-taken p v vs a.end g in
          by k.0 v vs k.1 n.0 n.1 k.2 h
        where
          by : (bs : List ℕ) (v : Value) (vs : Items) → v ≡ str bs → Stands s a.deep p v → StandItems s a.deep (p + length (encode v)) vs → elements_of (p + length (encode v)) vs ≡ taken a.end
              → w ≡ marked m (elements_in (item v vs)) → Element s m w p x
          by bs v vs i t u g h =
              let t' : Stands s a.deep p (str bs) = subst (Stands s a.deep p) i t in
              let f : taken x ≡ taken (part_of p bs) = e ∙ string-is s a.deep p (str bs) t' in
              let j : x ≡ part_of p bs = cc in
              let b : take x.len (drop x.from s) ≡ bs = ap (λ (y : Part). take y.len (drop y.from s)) j ∙ part_bytes s a.deep p bs t' in
              let q : x.from + x.len ≡ p + length (encode v) =
              omega (arith, ap (λ (y : Part). y.from + y.len) j, ap (λ (y : Value). length (encode y)) i, length-append (decimal (length bs)) (58 ∷ bs)) in
              record {
                rest = marked 47 (elements_in vs);
                whole = h ∙ ap (λ (y : Value). m ∷ (escaped (lines.bytes_in y) ++ marked 47 (elements_in vs))) i ∙ ap (λ (l : List ℕ). m ∷ (escaped l ++ marked 47 (elements_in vs))) (sym b);
                next = record { deep = a.deep; items = vs; stands = rw q u; end = a.end; good = rw q g; printed = refl };
                further = omega (arith, encode-pos v);
                inside = omega (arith, room s p (encode v) t.rest t.inside t.text);
              }

  pub path-end : (r o : ℕ) → refused r o ≡ string_of s p → w ≡ []
  unfolding elements_in marked
  path-end r o e = go a.items a.stands a.good a.printed
    where
      go : (vs : Items) → StandItems s a.deep p vs → elements_of p vs ≡ taken a.end → w ≡ marked m (elements_in vs) → w ≡ []
      go none t g h = h
      go (item v vs) t g h =
          let n = items-next s a.deep p v vs t in
          let k = element-taken p v vs a.end g in
          let t' : Stands s a.deep p (str k.0) = subst (Stands s a.deep p) k.1 n.0 in
          let f : refused r o ≡ taken (part_of p k.0) = e ∙ string-is s a.deep p (str k.0) t' in
          no_way (cc)

-- where the loop over a path stands: of whatever path stands at `first`, what is left stands at p, and the rest is put
pub record PathLeft (s : List ℕ) (at : ℕ) (o w : List ℕ) (p m to : ℕ) (out : List ℕ) : Type 0 where
  pub left : List ℕ
  pub stands : PathPrinted s p m left
  pub going : Going w at o left to out

abbrev pub PathGoing : List ℕ → ℕ → ℕ → List ℕ → ℕ → ℕ → ℕ → List ℕ → Type 0
PathGoing s first at o p m to out = (w : List ℕ) → PathPrinted s first 32 w → PathLeft s at o w p m to out

pub path-start : (s : List ℕ) (first at : ℕ) (o : List ℕ) → PathGoing s first at o first 32 at o
path-start s first at o w a = record { left = w; stands = a; going = going_start w at o }

module _ {s : List ℕ} {first at : ℕ} {o : List ℕ} {p m to : ℕ} {out : List ℕ} (g : PathGoing s first at o p m to out) where
  pub path-done : {r q : ℕ} → refused r q ≡ string_of s p → (w : List ℕ) → PathPrinted s first 32 w → Ran w at o to out
  path-done {r} {q} e w a = let l = g w a in going_end w at o l.going (path-end s p m l.left l.stands r q e)

  module _ {x : Part} (e : taken x ≡ string_of s p) where
    pub path-again : {b : List ℕ} → b ≡ take x.len (drop x.from s) → {i j : ℕ} {out₁ out₂ : List ℕ} → Ran (m ∷ []) to out i out₁ → Ran (escaped b) i out₁ j out₂
        → PathGoing s first at o (x.from + x.len) 47 j out₂
    path-again {b} f h k w a =
        let l = g w a in
        let n = path-more s p m l.left l.stands x e in
        let y = going_more w at o l.going (m ∷ []) (escaped b ++ n.rest) (n.whole ∙ ap (λ (v : List ℕ). m ∷ (escaped v ++ n.rest)) (sym f)) h in
        record { left = n.rest; stands = n.next; going = going_more w at o y (escaped b) n.rest refl k }

    -- the room that one path found is enough
    pub path_room : (w : List ℕ) → PathPrinted s first 32 w → to + 1 + length (escaped (take x.len (drop x.from s))) ≤ at + length w
    path_room w a =
        let l = g w a in
        let n = path-more s p m l.left l.stands x e in
        omega (arith, l.going.place, ap length n.whole, length-append (escaped (take x.len (drop x.from s))) n.rest)

    pub path-further : (w : List ℕ) → PathPrinted s first 32 w → (p < x.from + x.len) × (x.from + x.len ≤ length s)
    path-further w a = let l = g w a in let n = path-more s p m l.left l.stands x e in (n.further, n.inside)

-- ---- files

-- what a file's rules say of its dictionary
pub record File' (s : List ℕ) (p : ℕ) (v : Value) (f : File) : Type 0 where
  pub small : f.length ≤ longest_file
  pub is : (lines.file_in v).length ≡ f.length
  pub path : List ℕ
  pub stands : PathPrinted s f.path 32 path
  pub printed : 32 ∷ slashed (lists.map escaped (lines.file_in v).path) ≡ path
  pub most : length path + 30 ≤ 3 * length (encode v)

pub file-read : (s : List ℕ) (d p : ℕ) (v : Value) → Stands s d p v → (f : File) → file_of p v ≡ taken f → File' s p v f
unfolding file_of elements_in
file-read s d p v t f e =
    let a = then-taken (dictionary_at p v) (file_in p (p + length (encode v))) f e in
    go a.0 (dictionary-taken p v a.0 a.1) a.2
  where
    go : (es : Entries) → v ≡ dict es → file_in p (p + length (encode v)) es ≡ taken f → File' s p v f
    go es i h =
        let b = then-taken (must p (lookup (p + 1) es length_key) (natural_at longest_file)) (λ n. then (must p (lookup (p + 1) es path_key) path_at) (λ q. taken (record { length = n; path = q; next = p + length (encode v) }))) f h in
        let c = then-taken (must p (lookup (p + 1) es path_key) path_at) (λ q. taken (record { length = b.0; path = q; next = p + length (encode v) })) f b.2 in
        let j : record { length = b.0; path = c.0; next = p + length (encode v) } ≡ f = cc in
        let n = must-taken p (lookup (p + 1) es length_key) (natural_at longest_file) b.0 b.1 in
        let m = number-taken longest_file n.0 n.1 b.0 n.3 in
        let u = must-taken p (lookup (p + 1) es path_key) path_at c.0 c.1 in
        let k = path-taken u.0 u.1 c.0 u.3 in
        let x = (dictionary-stands s d p es (subst (Stands s d p) i t)).1 in
        let y = found-stands s x.0 (p + 1) start es path_key x.2 u.0 (list (item k.0 k.1)) (u.2 ∙ ap (under u.0) k.3) in
        let z = (list-stands s x.0 u.0 (item k.0 k.1) y).1 in
        let len : b.0 ≡ f.length = ap (λ (w : File). w.length) j in
        let at : f.path ≡ u.0 + 1 = sym (ap (λ (w : File). w.path) j) ∙ k.4 in
        let l : found (lookup 0 es length_key) ≡ int (pos b.0) = found-is (p + 1) n.0 es length_key (int (pos b.0)) (n.2 ∙ ap (under n.0) m.0) in
        let r : found (lookup 0 es path_key) ≡ list (item k.0 k.1) = found-is (p + 1) u.0 es path_key (list (item k.0 k.1)) (u.2 ∙ ap (under u.0) k.3) in
        record {
          small = omega (arith, m.1);
          is = ap (λ (w : Value). (lines.file_in w).length) i ∙ ap number_in l ∙ len;
          path = marked 32 (elements_in (item k.0 k.1));
          stands = record { deep = z.0; items = item k.0 k.1; stands = subst (λ (q : ℕ). StandItems s z.0 q (item k.0 k.1)) (sym at) z.2; end = k.2; good = subst (λ (q : ℕ). elements_of q (item k.0 k.1) ≡ taken k.2) (sym at) k.5; printed = refl };
          printed = ap (λ (w : Value). 32 ∷ slashed (lists.map escaped (lines.file_in w).path)) i
              ∙ ap (λ (w : Value). 32 ∷ slashed (lists.map escaped (elements_in (items_in w)))) r
              ∙ marked-joined 32 (lines.bytes_in k.0) (elements_in k.1);
          most = omega (
            arith,
            marked-most 32 (item k.0 k.1),
            has_room es path_key (list (item k.0 k.1)) (found-has (p + 1) es path_key u.0 (list (item k.0 k.1)) (u.2 ∙ ap (under u.0) k.3)),
            list_length (item k.0 k.1),
            dict-length es,
            ap (λ (w : Value). length (encode w)) i,
          );
        }

-- the file at p, and what is left after it
pub record Filing (s : List ℕ) (o : ℕ) (w : List ℕ) (p : ℕ) (f : File) : Type 0 where
  pub path : List ℕ
  pub stands : PathPrinted s f.path 32 path
  pub rest : List ℕ
  pub whole : w ≡ (decimal o ++ (32 ∷ (decimal f.length ++ (path ++ (10 ∷ []))))) ++ rest
  pub next : FilesPrinted s f.next (o + f.length) rest
  pub small : o + f.length ≤ 281474976710656

module _ (s : List ℕ) (p o : ℕ) (w : List ℕ) (a : FilesPrinted s p o w) where
  pub files-more : (f : File) → taken f ≡ file_at s p → Filing s o w p f
  unfolding lengths_of files_in file_lines sum
  files-more f e = go a.items a.stands a.good a.printed
    where
      go : (vs : Items) → StandItems s a.deep p vs → lengths_of p vs ≡ taken a.lengths → w ≡ file_lines o (files_in vs) → Filing s o w p f
      go none t g h = let i = e ∙ file-end s p a.deep t in no_way (cc)
      go (item v vs) t g h =
          let n = items-next s a.deep p v vs t in
          let b = then-taken (file_of p v) (λ f. map (λ ns. f.length ∷ ns) (lengths_of f.next vs)) a.lengths g in
          let c = map-taken (λ ns. b.0.length ∷ ns) (lengths_of b.0.next vs) a.lengths b.2 in
          let i : taken f ≡ taken b.0 = e ∙ file-stands s p a.deep v a.levels n.0 ∙ b.1 in
          let j : b.0 ≡ f = cc in
          let k : file_of p v ≡ taken f = b.1 ∙ ap (λ (x : File). taken x) j in
          let r = file-read s a.deep p v n.0 f k in
          let q : f.next ≡ p + length (encode v) = file-next p v f (sym k) in
          let z : a.lengths ≡ f.length ∷ c.0 = sym c.2 ∙ ap (λ (x : File). x.length ∷ c.0) j in
          let y : o + f.length + sum c.0 ≤ 281474976710656 = omega (arith, a.small, ap sum z) in
          record {
            path = r.path;
            stands = r.stands;
            rest = file_lines (o + f.length) (files_in vs);
            whole = h
                ∙ ap (λ (i : ℕ). (decimal o ++ (32 ∷ (decimal i ++ (32 ∷ (slashed (lists.map escaped (lines.file_in v).path) ++ (10 ∷ [])))))) ++ file_lines (o + i) (files_in vs)) r.is
                ∙ ap (λ (l : List ℕ). (decimal o ++ (32 ∷ (decimal f.length ++ (l ++ (10 ∷ []))))) ++ file_lines (o + f.length) (files_in vs)) r.printed;
            next = record { deep = a.deep; levels = a.levels; items = vs; stands = rw q n.1; lengths = c.0; good = ap (λ (x : File). lengths_of x.next vs) (sym j) ∙ c.1; small = y; printed = refl };
            small = omega arith;
          }

  pub files-end : (r q : ℕ) → refused r q ≡ file_at s p → w ≡ []
  unfolding lengths_of files_in file_lines
  files-end r q e = go a.items a.stands a.good a.printed
    where
      go : (vs : Items) → StandItems s a.deep p vs → lengths_of p vs ≡ taken a.lengths → w ≡ file_lines o (files_in vs) → w ≡ []
      go none t g h = h
      go (item v vs) t g h =
          let n = items-next s a.deep p v vs t in
          let b = then-taken (file_of p v) (λ f. map (λ ns. f.length ∷ ns) (lengths_of f.next vs)) a.lengths g in
          let i : refused r q ≡ taken b.0 = e ∙ file-stands s p a.deep v a.levels n.0 ∙ b.1 in
          no_way (cc)

-- where the loop over files stands, in the same way
pub record FilesLeft (s : List ℕ) (at : ℕ) (o w : List ℕ) (p offset to : ℕ) (out : List ℕ) : Type 0 where
  pub left : List ℕ
  pub stands : FilesPrinted s p offset left
  pub going : Going w at o left to out

abbrev pub FilesGoing : List ℕ → ℕ → ℕ → List ℕ → ℕ → ℕ → ℕ → List ℕ → Type 0
FilesGoing s first at o p offset to out = (w : List ℕ) → FilesPrinted s first 0 w → FilesLeft s at o w p offset to out

pub files-start : (s : List ℕ) (first at : ℕ) (o : List ℕ) → FilesGoing s first at o first 0 at o
files-start s first at o w a = record { left = w; stands = a; going = going_start w at o }

module _ {s : List ℕ} {first at : ℕ} {o : List ℕ} {p offset to : ℕ} {out : List ℕ} (g : FilesGoing s first at o p offset to out) where
  pub files-done : {r q : ℕ} → refused r q ≡ file_at s p → (w : List ℕ) → FilesPrinted s first 0 w → Ran w at o to out
  files-done {r} {q} e w a = let l = g w a in going_end w at o l.going (files-end s p offset l.left l.stands r q e)

  module _ {f : File} (e : taken f ≡ file_at s p) where
    pub files-again : {r : ℕ} {out₁ : List ℕ} → ((x : List ℕ) → PathPrinted s f.path 32 x → Ran (decimal offset ++ (32 ∷ (decimal f.length ++ (x ++ (10 ∷ []))))) to out r out₁)
        → FilesGoing s first at o f.next (offset + f.length) r out₁
    files-again h w a =
        let l = g w a in
        let n = files-more s p offset l.left l.stands f e in
        record { left = n.rest; stands = n.next; going = going_more w at o l.going _ n.rest n.whole (h n.path n.stands) }

    -- the room that the files found is enough for this one
    pub files-room : (w : List ℕ) → FilesPrinted s first 0 w → at + length w + 60 ≤ far → (x : List ℕ) × PathPrinted s f.path 32 x × (to + length x + 60 ≤ far)
    files-room w a h =
        let l = g w a in
        let n = files-more s p offset l.left l.stands f e in
        let i = length-append n.path (10 ∷ []) in
        let j = length-append (decimal f.length) (n.path ++ (10 ∷ [])) in
        let k = length-append (decimal offset) (32 ∷ (decimal f.length ++ (n.path ++ (10 ∷ [])))) in
        let m = length-append (decimal offset ++ (32 ∷ (decimal f.length ++ (n.path ++ (10 ∷ []))))) n.rest in
        (n.path, n.stands, omega (arith, l.going.place, ap length n.whole))

    pub files-small : (w : List ℕ) → FilesPrinted s first 0 w → offset + f.length ≤ 281474976710656
    files-small w a = let l = g w a in (files-more s p offset l.left l.stands f e).small
