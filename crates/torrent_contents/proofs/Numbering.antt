-- A file by its number: what the walk comes to is what the decoded value says. Assumes nothing.
use Rattle.std.proofs.Common.{◌≡◌, refl, sym, ap, ◌∙◌, subst, Bool, true, false, cond, List, [], ◌∷◌, ℕ, zero, suc, ◌+◌, ◌-◌, ◌<◌, ◌≤◌, min, arith, length}
use Rattle.refusal.specs.Paper.{Outcome, taken, refused, then, map}
use Rattle.refusal.specs.Limits.{most_text}
use Rattle.refusal.proofs.Outcomes.{map-taken, then-taken}
use Rattle.bencode.specs.Value.{Value, Items, list, none, item, encode}
use Rattle.bencode.specs.Decode.{decode}
use Rattle.bencode.proofs.Exact.{taken_fine}
use Rattle.bencode.proofs.Complete.{encode-pos}
use Rattle.bencode_walk.specs.Stands.{Stands, StandItems}
use Rattle.bencode_walk.specs.Lookup.{under}
use Rattle.bencode_walk.proofs.Standing.{list-stands, items-next, room}
use Rattle.torrent_blocks.specs.Rules.{sum, largest}
use Rattle.torrent_blocks.proofs.Legal.{piece-length-is, piece-bounds, few-pieces}
use Rattle.torrent_metainfo.specs.Keys.{files_key}
use Rattle.torrent_metainfo.specs.Rules.{file_of, lengths_of, torrent_of}
use Rattle.torrent_metainfo.specs.Reading.{file_at, read_of}
use Rattle.torrent_metainfo.specs.declared.File.{File}
use Rattle.torrent_metainfo.specs.declared.Content.{Content}
use Rattle.torrent_metainfo.specs.declared.Torrent.{Torrent}
use Rattle.torrent_metainfo.proofs.Naming.{no_way}
use Rattle.torrent_metainfo.proofs.Filing.{file-stands, file-next}
use Rattle.torrent_contents.specs.declared.Entry.{Entry}
use Rattle.torrent_contents.specs.Files.{in_info, entry, single, entries_from, entries_under, all_entries, entry_in, entry_of}
use Rattle.bencode_fields.specs.Nth.{nth}
use Rattle.bencode_fields.proofs.Nth.{nth_beyond}
use Rattle.torrent_contents.specs.Steps.{walk_to}
use Rattle.torrent_contents.proofs.Facts.{Facts, facts, Holds, one, many}

-- ---- one file and the others

pub record Next (p : ℕ) (v : Value) (vs : Items) (ns : List ℕ) : Type 0 where
  pub file : File
  pub others : List ℕ
  pub is : file_of p v ≡ taken file
  pub lengths : lengths_of file.next vs ≡ taken others
  pub same : ns ≡ file.length ∷ others

pub lengths-next : (p : ℕ) (v : Value) (vs : Items) (ns : List ℕ) → lengths_of p (item v vs) ≡ taken ns → Next p v vs ns
unfolding lengths_of
lengths-next p v vs ns e =
    let x = then-taken (file_of p v) (λ f. map (λ ms. f.length ∷ ms) (lengths_of f.next vs)) ns e in
    let y = map-taken (λ ms. x.0.length ∷ ms) (lengths_of x.0.next vs) ns x.2 in
    record { file = x.0; others = y.0; is = x.1; lengths = y.1; same = sym y.2 }

-- the entries of files that have lengths, as many as the lengths
pub entries-taken : (vs : Items) (p o : ℕ) (ns : List ℕ) → lengths_of p vs ≡ taken ns → (es : List Entry) × (entries_from p o vs ≡ taken es) × (length es ≡ length ns)
unfolding entries_from lengths_of
entries-taken none p o ns e = let f : ◌≡◌ {A = List ℕ} [] ns = cc in ([], refl, ap length f)
entries-taken (item v vs) p o ns e =
    let n = lengths-next p v vs ns e in
    let m = entries-taken vs n.file.next (o + n.file.length) n.others n.lengths in
    (entry o n.file ∷ m.0, rw (n.is, m.1), ap suc m.2 ∙ sym (ap length n.same))

-- ---- by number

module _ (s : List ℕ) (d : ℕ) (levels : d ≤ 32) where
  pub walk-number : (vs : Items) (p o n : ℕ) (ns : List ℕ) → StandItems s d p vs → lengths_of p vs ≡ taken ns → o + sum ns ≤ largest → n < length ns → walk_to n s p o ≡ then (entries_from p o vs) (nth n)
  unfolding entries_from lengths_of nth walk_to sum
  walk-number none p o n ns t e h l = let f : ◌≡◌ {A = List ℕ} [] ns = cc in let g : n < length {A = ℕ} [] = subst (λ (m : List ℕ). n < length m) (sym f) l in absurd (omega arith)
  walk-number (item v vs) p o zero ns t e h l =
      let x = lengths-next p v vs ns e in
      let i = items-next s d p v vs t in
      let m = entries-taken vs x.file.next (o + x.file.length) x.others x.lengths in
      ap (map (entry o)) (file-stands s p d v levels i.0 ∙ x.is) ∙ sym (rw (x.is, m.1))
  walk-number (item v vs) p o (suc n) ns t e h l =
      let x = lengths-next p v vs ns e in
      let i = items-next s d p v vs t in
      let m = entries-taken vs x.file.next (o + x.file.length) x.others x.lengths in
      let j : x.file.next ≡ p + length (encode v) = file-next p v x.file (sym x.is) in
      let b : o + (x.file.length + sum x.others) ≤ largest = subst (λ (ms : List ℕ). o + sum ms ≤ largest) x.same h in
      let c : suc n < suc (length x.others) = subst (λ (ms : List ℕ). suc n < length ms) x.same l in
      let k : min (o + x.file.length) largest ≡ o + x.file.length = omega arith in
      ap (λ (y : Outcome File). then y (λ f. walk_to n s f.next (min (o + f.length) largest))) (file-stands s p d v levels i.0 ∙ x.is)
      ∙ ap (walk_to n s x.file.next) k
      ∙ walk-number vs x.file.next (o + x.file.length) n x.others (subst (λ (q : ℕ). StandItems s d q vs) (sym j) i.1) x.lengths (omega arith) (omega arith)
      ∙ ap (λ (y : Outcome (List Entry)). then y (nth n)) m.1
      ∙ sym (rw (x.is, m.1))

-- ---- of a torrent that was taken

-- its value and what is known of it
pub record Value-of (s : List ℕ) (t : Torrent) : Type 0 where
  pub value : Value
  pub decoded : decode s ≡ taken value
  pub torrent : torrent_of value ≡ taken t
  pub known : Facts s value t

pub value_of : (s : List ℕ) (t : Torrent) → read_of s ≡ taken t → Value-of s t
value_of s t e =
    let x = then-taken (decode s) torrent_of t e in
    record { value = x.0; decoded = x.1; torrent = x.2; known = facts s x.0 t (taken_fine s x.0 x.1) x.2 }

-- a legal total is far below the largest number
total-fits : (s : List ℕ) (v : Value) (t : Torrent) → Facts s v t → t.content.total ≤ largest
total-fits s v t f =
    let b = piece-bounds t.piece_length (piece-length-is t.piece_length f.legal) in
    let m = few-pieces t.content.total t.piece_length (omega arith) (omega (arith, f.count, f.few)) in
    omega arith

module _ (s : List ℕ) (t : Torrent) (e : read_of s ≡ taken t) (n : ℕ) where
  abbrev held : Value-of s t
  held = value_of s t e

  entry-is : entry_of s n ≡ then (all_entries held.value t) (nth n)
  entry-is = ap (λ (o : Outcome Value). then o (entry_in n)) held.decoded ∙ ap (λ (o : Outcome Torrent). then o (λ t. then (all_entries held.value t) (nth n))) held.torrent

  -- the files of a list
  pub record Listed : Type 0 where
    pub deep : ℕ
    pub levels : deep ≤ 32
    pub items : Items
    pub lengths : List ℕ
    pub listed : in_info held.value files_key ≡ under t.content.place (list items)
    pub stands : Stands s deep t.content.place (list items)
    pub taken-lengths : lengths_of (t.content.place + 1) items ≡ taken lengths
    pub files : t.content.files ≡ length lengths
    pub total : t.content.total ≡ sum lengths
    pub entries : all_entries held.value t ≡ entries_from (t.content.place + 1) 0 items

  pub listed : t.content.single ≡ false → Listed
  listed x = go held.known.content
    where
      go : Holds (in_info held.value files_key) t.content → Listed
      go (one a b) = no_way (cc)
      go (many q vs ns u l c) =
          let p : t.content.place ≡ q = ap (λ (y : Content). y.place) c in
          let i : in_info held.value files_key ≡ under t.content.place (list vs) = u ∙ ap (λ (y : ℕ). under y (list vs)) (sym p) in
          record {
            deep = held.known.deep;
            levels = held.known.levels;
            items = vs;
            lengths = ns;
            listed = i;
            stands = held.known.files-stand t.content.place (list vs) i;
            taken-lengths = ap (λ (y : ℕ). lengths_of (y + 1) vs) p ∙ l;
            files = ap (λ (y : Content). y.files) c;
            total = ap (λ (y : Content). y.total) c;
            entries = ap (λ (b : Bool). cond b (taken (single t ∷ [])) (entries_under (in_info held.value files_key))) x ∙ ap entries_under i;
          }

  -- there is a place past the list's l
  pub place-fits : t.content.single ≡ false → t.content.place + 1 ≤ most_text
  place-fits x =
      let l = listed x in
      let r = room s t.content.place (encode (list l.items)) l.stands.rest l.stands.inside l.stands.text in
      omega (arith, encode-pos (list l.items), held.known.short)

  pub number-only : t.content.single ≡ true → n < t.content.files → taken (single t) ≡ entry_of s n
  unfolding nth
  number-only x l = go held.known.content n l ∙ sym entry-is
    where
      go : Holds (in_info held.value files_key) t.content → (n : ℕ) → n < t.content.files → taken (single t) ≡ then (all_entries held.value t) (nth n)
      go (many q vs ns u k c) n l = let z : t.content.single ≡ false = ap (λ (y : Content). y.single) c in no_way (cc)
      go (one a b) zero l = sym (ap (λ (b : Bool). then (cond b (taken (single t ∷ [])) (entries_under (in_info held.value files_key))) (nth 0)) x)
      go (one a b) (suc n) l = absurd (omega arith)

  pub number-listed : t.content.single ≡ false → n < t.content.files → walk_to n s (t.content.place + 1) 0 ≡ entry_of s n
  number-listed x l =
      let k = listed x in
      let i = (list-stands s k.deep t.content.place k.items k.stands).1 in
      walk-number s i.0 (omega (arith, i.1, k.levels)) k.items (t.content.place + 1) 0 n k.lengths i.2 k.taken-lengths (omega (arith, k.total, total-fits s held.value t held.known)) (omega (arith, k.files))
      ∙ sym (ap (λ (o : Outcome (List Entry)). then o (nth n)) k.entries)
      ∙ sym entry-is

  pub number_past : t.content.files ≤ n → refused 31 0 ≡ entry_of s n
  unfolding nth
  number_past l = go t.content.single refl ∙ sym entry-is
    where
      only : Holds (in_info held.value files_key) t.content → (n : ℕ) → t.content.files ≤ n → t.content.single ≡ true → refused 31 0 ≡ then (all_entries held.value t) (nth n)
      only (many q vs ns u k c) n l x = let z : t.content.single ≡ false = ap (λ (y : Content). y.single) c in no_way (cc)
      only (one a b) zero l x = absurd (omega arith)
      only (one a b) (suc n) l x = sym (ap (λ (b : Bool). then (cond b (taken (single t ∷ [])) (entries_under (in_info held.value files_key))) (nth (suc n))) x)

      go : (b : Bool) → t.content.single ≡ b → refused 31 0 ≡ then (all_entries held.value t) (nth n)
      go true x = only held.known.content n l x
      go false x =
          let k = listed x in
          let m = entries-taken k.items (t.content.place + 1) 0 k.lengths k.taken-lengths in
          sym (ap (λ (o : Outcome (List Entry)). then o (nth n)) (k.entries ∙ m.1) ∙ nth_beyond n m.0 (omega (arith, m.2, k.files)))

pub entry-refused : (s : List ℕ) (n r q : ℕ) → refused r q ≡ read_of s → refused r q ≡ entry_of s n
entry-refused s n r q e = go (decode s) e
  where
    by : (v : Value) (o : Outcome Torrent) → refused r q ≡ o → refused r q ≡ then o (λ t. then (all_entries v t) (nth n))
    by v (taken t) f = no_way (cc)
    by v (refused i j) f = ap (λ (x : Outcome Torrent). then x (λ t. then (all_entries v t) (nth n))) f

    go : (o : Outcome Value) → refused r q ≡ then o torrent_of → refused r q ≡ then o (entry_in n)
    go (taken v) f = by v (torrent_of v) f
    go (refused i j) f = ap (λ (x : Outcome Torrent). then x (λ t. refused 0 0)) f

-- ---- the walk's steps

module _ (s : List ℕ) (p o : ℕ) {f : File} (e : taken f ≡ file_at s p) where
  pub walk_here : {n : ℕ} → n ≡ 0 → taken (entry o f) ≡ walk_to n s p o
  unfolding walk_to
  walk_here z = rw z (ap (map (entry o)) e)

  -- i files of n are passed, and this one
  pub walk_more : {n i k : ℕ} → i < n → k ≡ min (o + f.length) largest → walk_to (n - (i + 1)) s f.next k ≡ walk_to (n - i) s p o
  unfolding walk_to
  walk_more {n} {i} {k} l m =
      let b : n - i ≡ suc (n - (i + 1)) = omega arith in
      ap (walk_to (n - (i + 1)) s f.next) m
      ∙ ap (λ (x : Outcome File). then x (λ f. walk_to (n - (i + 1)) s f.next (min (o + f.length) largest))) e
      ∙ ap (λ (j : ℕ). walk_to j s p o) (sym b)

pub walk-bad : (s : List ℕ) (p o n : ℕ) {r q : ℕ} → refused r q ≡ file_at s p → refused r q ≡ walk_to n s p o
unfolding walk_to
walk-bad s p o zero e = ap (map (entry o)) e
walk-bad s p o (suc k) e = ap (λ (x : Outcome File). then x (λ f. walk_to k s f.next (min (o + f.length) largest))) e
