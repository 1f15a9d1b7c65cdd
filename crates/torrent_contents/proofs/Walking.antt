-- The files of a torrent and the elements of their paths can be walked, each from the place past the one before. Assumes nothing.
use Rattle.std.proofs.Common.{◌≡◌, refl, sym, ap, ◌∙◌, subst, Bool, true, false, cond, List, [], ◌∷◌, ℕ, ◌+◌, ◌≤◌, arith, length, take, drop}
use Rattle.refusal.specs.Paper.{Outcome, taken, refused, then, map}
use Rattle.refusal.specs.Limits.{longest_file}
use Rattle.refusal.specs.Parts.{bytes_at}
use Rattle.refusal.specs.declared.Part.{Part}
use Rattle.refusal.proofs.Outcomes.{then-taken}
use Rattle.bencode_scalar.specs.Written.{written_string}
use Rattle.bencode.specs.Value.{Value, Items, str, int, list, dict, none, item, encode, start}
use Rattle.bencode_walk.specs.Walk.{Head, string, look_of}
use Rattle.bencode_walk.specs.Stands.{Stands, StandItems}
use Rattle.bencode_walk.specs.Lookup.{Under, nothing, under, lookup}
use Rattle.bencode_walk.proofs.Standing.{string-stands, list-stands, dictionary-stands, items-end, items-next}
use Rattle.bencode_walk.proofs.Finding.{found-stands}
use Rattle.bencode_fields.specs.Values.{part_of, natural_at, must}
use Rattle.torrent_metainfo.specs.Keys.{length_key, path_key}
use Rattle.torrent_metainfo.specs.Rules.{good_name, elements_of, path_at, file_of, lengths_of}
use Rattle.torrent_metainfo.specs.Reading.{read_of}
use Rattle.torrent_metainfo.specs.declared.File.{File}
use Rattle.torrent_metainfo.specs.declared.Torrent.{Torrent}
use Rattle.torrent_metainfo.proofs.Naming.{no_way}
use Rattle.torrent_metainfo.proofs.Filing.{file-stands, file-end, file-next}
use Rattle.torrent_contents.specs.declared.Entry.{Entry}
use Rattle.torrent_contents.specs.Files.{entry, entries_from}
use Rattle.torrent_contents.specs.Paths.{element, element_in, element_of}
use Rattle.torrent_contents.specs.Walks.{strings_in, strings_under, path_of, Elements, ends, goes, FilesWalked, last, next, Walked}
use Rattle.torrent_contents.proofs.Numbering.{lengths-next, entries-taken, value_of, listed}

-- ---- the elements of a path

module _ (s : List ℕ) (d : ℕ) where
  seen : (p : ℕ) {h : Head} → look_of s p ≡ taken h → element_of s p ≡ element_in s p h
  seen p e = ap (λ (o : Outcome Head). then o (element_in s p)) e

  good : (b : Bool) (p : ℕ) (bs : List ℕ) (o : ℕ → Outcome ℕ) (q : ℕ) → then (cond b (taken (part_of p bs)) (refused 13 p)) (λ x. o 0) ≡ taken q → (b ≡ true) × (o 0 ≡ taken q)
  good true p bs o q e = (refl, e)
  good false p bs o q e = no_way (cc)

  pub elements-walk : (vs : Items) (p q : ℕ) → StandItems s d p vs → elements_of p vs ≡ taken q → Elements s p (strings_in vs)
  unfolding elements_of strings_in encode
  elements-walk none p q t e = ends p (seen p (items-end s d p t))
  elements-walk (item (str bs) vs) p q t e =
      let i = items-next s d p (str bs) vs t in
      let b = string-stands s d p bs i.0 in
      let g = good (good_name bs) p bs (λ z. elements_of (p + length (written_string bs)) vs) q e in
      let f : good_name (take (length bs) (drop b.from s)) ≡ true = ap good_name b.bytes ∙ g.0 in
      let x : element_of s p ≡ taken (element (record { from = b.from; len = length bs }) (p + length (written_string bs))) = seen p b.seen ∙ rw f in
      subst (λ (l : List ℕ). Elements s p (l ∷ strings_in vs)) b.bytes
      (goes p (record { from = b.from; len = length bs }) (p + length (written_string bs)) (strings_in vs) x (elements-walk vs (p + length (written_string bs)) q i.1 g.1))
  elements-walk (item (int z) vs) p q t e = no_way (cc)
  elements-walk (item (list ws) vs) p q t e = no_way (cc)
  elements-walk (item (dict es) vs) p q t e = no_way (cc)

-- an element by its name's rule
pub element-good : (s : List ℕ) (p : ℕ) (x : Part) (q : ℕ) → taken (string x.from x.len q) ≡ look_of s p → good_name (bytes_at s x) ≡ true → taken (element x q) ≡ element_of s p
element-good s p x q e g = sym (rw g) ∙ ap (λ (o : Outcome Head). then o (element_in s p)) e

pub element-bad : (s : List ℕ) (p : ℕ) (x : Part) (q : ℕ) → taken (string x.from x.len q) ≡ look_of s p → good_name (bytes_at s x) ≡ false → refused 13 p ≡ element_of s p
element-bad s p x q e g = sym (rw g) ∙ ap (λ (o : Outcome Head). then o (element_in s p)) e

-- the path of a file
module _ (s : List ℕ) where
  path-walk : (d : ℕ) (u : Under) → ((q : ℕ) (v : Value) → u ≡ under q v → Stands s d q v) → (D a : ℕ) → must D u path_at ≡ taken a → Elements s a (strings_under u)
  path-walk d nothing h D a e = no_way (cc)
  path-walk d (under q (str bs)) h D a e = no_way (cc)
  path-walk d (under q (int z)) h D a e = no_way (cc)
  path-walk d (under q (dict es)) h D a e = no_way (cc)
  path-walk d (under q (list none)) h D a e = no_way (cc)
  path-walk d (under q (list (item v vs))) h D a e = go (elements_of (q + 1) (item v vs)) refl e
    where
      go : (o : Outcome ℕ) → elements_of (q + 1) (item v vs) ≡ o → map (λ (r : ℕ). q + 1) o ≡ taken a → Elements s a (strings_in (item v vs))
      go (taken r) f g =
          let i = (list-stands s d q (item v vs) (h q (list (item v vs)) refl)).1 in
          let k : q + 1 ≡ a = cc in
          subst (λ (b : ℕ). Elements s b (strings_in (item v vs))) k (elements-walk s i.0 (item v vs) (q + 1) r i.2 f)
      go (refused r o) f g = no_way (cc)

  pub path-walked : (d p : ℕ) (v : Value) (f : File) → Stands s d p v → file_of p v ≡ taken f → Elements s f.path (path_of p v)
  unfolding file_of
  path-walked d p (str bs) f t e = no_way (cc)
  path-walked d p (int z) f t e = no_way (cc)
  path-walked d p (list vs) f t e = no_way (cc)
  path-walked d p (dict es) f t e =
      let q : ℕ = p + length (encode (dict es)) in
      let n = then-taken (must p (lookup (p + 1) es length_key) (natural_at longest_file)) (λ n. then (must p (lookup (p + 1) es path_key) path_at) (λ a. taken (record { length = n; path = a; next = q }))) f e in
      let a = then-taken (must p (lookup (p + 1) es path_key) path_at) (λ a. taken (record { length = n.0; path = a; next = q })) f n.2 in
      let i = (dictionary-stands s d p es t).1 in
      let h : taken (record { length = n.0; path = a.0; next = q }) ≡ taken f = a.2 in
      let g : ◌≡◌ {A = File} (record { length = n.0; path = a.0; next = q }) f = cc in
      subst (λ (b : ℕ). Elements s b (path_of p (dict es))) (ap (λ (x : File). x.path) g)
      (path-walk i.0 (lookup (p + 1) es path_key) (λ r w u. found-stands s i.0 (p + 1) start es path_key i.2 r w u) p a.0 a.1)

-- ---- the files

module _ (s : List ℕ) (d : ℕ) (levels : d ≤ 32) where
  pub files-walk : (vs : Items) (p o : ℕ) (ns : List ℕ) (es : List Entry) → StandItems s d p vs → lengths_of p vs ≡ taken ns → entries_from p o vs ≡ taken es → FilesWalked s p o vs es
  unfolding entries_from
  files-walk none p o ns es t e f = let g : ◌≡◌ {A = List Entry} [] es = cc in subst (λ (l : List Entry). FilesWalked s p o none l) g (last p o (file-end s p d t))
  files-walk (item v vs) p o ns es t e f =
      let x = lengths-next p v vs ns e in
      let i = items-next s d p v vs t in
      let m = entries-taken vs x.file.next (o + x.file.length) x.others x.lengths in
      let j : x.file.next ≡ p + length (encode v) = file-next p v x.file (sym x.is) in
      let g : taken (entry o x.file ∷ m.0) ≡ taken es = sym (rw (x.is, m.1)) ∙ f in
      let h : entry o x.file ∷ m.0 ≡ es = cc in
      subst (λ (l : List Entry). FilesWalked s p o (item v vs) l) h
      (next p o v vs x.file m.0 (file-stands s p d v levels i.0 ∙ x.is) (path-walked s d p v x.file i.0 x.is)
      (files-walk vs x.file.next (o + x.file.length) x.others m.0 (subst (λ (q : ℕ). StandItems s d q vs) (sym j) i.1) x.lengths m.1))

-- from one past the place of the list on, `file_at` and `element_at` walk exactly the files of a torrent
pub files-walked : (s : List ℕ) (t : Torrent) → read_of s ≡ taken t → t.content.single ≡ false → Walked s t
files-walked s t e x =
    let h = value_of s t e in
    let k = listed s t e 0 x in
    let i = (list-stands s k.deep t.content.place k.items k.stands).1 in
    let m = entries-taken k.items (t.content.place + 1) 0 k.lengths k.taken-lengths in
    record {
      value = h.value;
      items = k.items;
      entries = m.0;
      decoded = h.decoded;
      listed = k.listed;
      numbered = k.entries ∙ m.1;
      counted = m.2 ∙ sym k.files;
      walked = files-walk s i.0 (omega (arith, i.1, k.levels)) k.items (t.content.place + 1) 0 k.lengths m.0 i.2 k.taken-lengths m.1;
    }
