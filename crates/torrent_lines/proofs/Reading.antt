-- What the torrent that is read tells of the listing: its lines, where they come from, and how long they can be. Assumes nothing.
use Rattle.std.proofs.Common.{◌≡◌, refl, sym, ap, ◌∙◌, subst, Bool, true, false, cond, List, [], ◌∷◌, ◌++◌, ℕ, suc, ◌+◌, ◌*◌, ◌<◌, ◌≤◌, arith, le-ltb, lt-ltb, leb-true, leb, eqb, pos, length, take, drop, length-append}
use mathlib.Core.List as lists
use Rattle.refusal.specs.Paper.{Outcome, taken, refused, map, then}
use Rattle.refusal.specs.Limits.{longest_file, longest_piece, most_files, most_pieces}
use Rattle.refusal.specs.declared.Part.{Part}
use Rattle.refusal.proofs.Cases.{both}
use Rattle.refusal.proofs.Outcomes.{then-taken, map-taken}
use Rattle.bencode_scalar.specs.Written.{decimal, decimal_in}
use Rattle.bencode_writer.proofs.Decimals.{length_most}
use Rattle.bencode.specs.Value.{Value, Items, Entries, str, int, list, dict, none, item, encode, encode_items, start}
use Rattle.bencode.specs.Decode.{decode}
use Rattle.bencode.specs.Exact.{Fine}
use Rattle.bencode.proofs.Exact.{taken_fine}
use Rattle.bencode_walk.specs.Stands.{Stands, StandItems, StandEntries}
use Rattle.bencode_walk.specs.Lookup.{Under, nothing, under, lookup}
use Rattle.bencode_walk.proofs.Standing.{fine-stands, list-stands, items-next, dictionary-stands, room}
use Rattle.bencode_walk.proofs.Finding.{found-stands}
use Rattle.bencode_walk.proofs.Having.{found-has}
use Rattle.bencode_fields.specs.Values.{string_at, natural_at, list_at_of, dictionary_at, must}
use Rattle.bencode_fields.proofs.Standing.{part_bytes}
use Rattle.torrent_blocks.specs.Rules.{piece_length_of, file_count, pieces_of, total_and, sum}
use Rattle.torrent_metainfo.specs.Keys.{announce_key, info_key, files_key, length_key, name_key, piece_length_key, pieces_key}
use Rattle.torrent_metainfo.specs.Rules.{name_at, file_of, lengths_of, one_file, many_files, content_of, piece_length_at, place_under, sized_of, info_of, info_at, top_of, torrent_of}
use Rattle.torrent_metainfo.specs.Reading.{read_of}
use Rattle.torrent_metainfo.specs.declared.Content.{Content}
use Rattle.torrent_metainfo.specs.declared.Torrent.{Torrent}
use Rattle.torrent_metainfo.proofs.Naming.{no_way}
use Rattle.torrent_metainfo.proofs.Filing.{file-next}
use Rattle.refusal.specs.Texts.{bytes}
use Rattle.torrent_lines.specs.Lines.{bytes_in, number_in, found, within, Listed, files_in, files_by, files_of, lengths_in, escaped, slashed, file_line, file_lines, Totals, first_line, lines_by, refused_line, torrent_lines, value_lines, most_listed, most_printed, listing_of, plain}
use Rattle.torrent_lines.specs.Lines as lines
use Rattle.torrent_lines.specs.Places.{FilesPrinted}
use Rattle.bencode_writer.proofs.Escapes.{escaped-most}
use Rattle.torrent_lines.proofs.Fitting.{string-length, list_length, dict-length, has_room}
use Rattle.torrent_lines.proofs.Taken.{provided-taken, must-taken, number-taken, list-taken, dictionary-taken, name-taken, found-any, found-is}
use Rattle.torrent_lines.proofs.Walking.{file-read}

-- ---- many files

-- the lengths are those that are read, and each is a file length
pub lengths-are : (s : List ℕ) (d p : ℕ) (vs : Items) (ns : List ℕ) → StandItems s d p vs → lengths_of p vs ≡ taken ns → (lengths_in (files_in vs) ≡ ns) × (sum ns ≤ length ns * longest_file)
unfolding lengths_of files_in sum
lengths-are s d p none ns t e = let f : [] ≡ ns = cc in (f, omega (arith, ap sum (sym f), ap length (sym f)))
lengths-are s d p (item v vs) ns t e =
    let n = items-next s d p v vs t in
    let b = then-taken (file_of p v) (λ f. map (λ ns. f.length ∷ ns) (lengths_of f.next vs)) ns e in
    let c = map-taken (λ ns. b.0.length ∷ ns) (lengths_of b.0.next vs) ns b.2 in
    let r = file-read s d p v n.0 b.0 b.1 in
    let q : b.0.next ≡ p + length (encode v) = file-next p v b.0 (sym b.1) in
    let m = lengths-are s d b.0.next vs c.0 (subst (λ (i : ℕ). StandItems s d i vs) (sym q) n.1) c.1 in
    (ap (λ (i : ℕ). i ∷ lengths_in (files_in vs)) r.is ∙ ap (λ (l : List ℕ). b.0.length ∷ l) m.0 ∙ c.2, omega (arith, m.1, r.small, ap sum c.2, ap length c.2))

-- three bytes at most are printed for each byte of the list
pub files-most : (s : List ℕ) (d p o : ℕ) (vs : Items) (ns : List ℕ) → StandItems s d p vs → lengths_of p vs ≡ taken ns → o + sum ns ≤ 281474976710656
    → length (file_lines o (files_in vs)) + 3 ≤ 3 * length (encode_items vs)
unfolding lengths_of files_in file_lines sum encode_items
files-most s d p o none ns t e h = omega arith
files-most s d p o (item v vs) ns t e h =
    let n = items-next s d p v vs t in
    let b = then-taken (file_of p v) (λ f. map (λ ns. f.length ∷ ns) (lengths_of f.next vs)) ns e in
    let c = map-taken (λ ns. b.0.length ∷ ns) (lengths_of b.0.next vs) ns b.2 in
    let r = file-read s d p v n.0 b.0 b.1 in
    let f : Listed = lines.file_in v in
    let q : b.0.next ≡ p + length (encode v) = file-next p v b.0 (sym b.1) in
    let m = files-most s d b.0.next (o + f.length) vs c.0 (subst (λ (i : ℕ). StandItems s d i vs) (sym q) n.1) c.1 (omega (arith, r.is, ap sum c.2)) in
    let j = slashed (lists.map escaped f.path) in
    omega (
      arith,
      m,
      r.most,
      r.is,
      r.small,
      ap length r.printed,
      length_most 14 o (omega (arith, ap sum c.2)),
      length_most 11 f.length (omega (arith, r.is, r.small)),
      length-append (file_line o f) (file_lines (o + f.length) (files_in vs)),
      length-append (decimal o) (bytes " " ++ (decimal f.length ++ (bytes " " ++ (j ++ bytes "\n")))),
      length-append (decimal f.length) (bytes " " ++ (j ++ bytes "\n")),
      length-append j (bytes "\n"),
      length-append (encode v) (encode_items vs),
    )

-- ---- the torrent

-- as many lengths as files
mapped : (fs : List Listed) → length (lengths_in fs) ≡ length fs
mapped [] = refl
mapped (f ∷ fs) = ap (λ (n : ℕ). suc n) (mapped fs)

found_none : (p : ℕ) (es : Entries) (k : List ℕ) → lookup p es k ≡ nothing → found (lookup 0 es k) ≡ str []
found_none p es k e = found-any 0 p es k ∙ ap found e

-- where the files of the torrent t, with this name, come from: one whose length is the total, or those of a list
pub data Content' (s : List ℕ) (fs : List Listed) (name : List ℕ) (c : Content) : Type 0 where
  alone : c.single ≡ true → c.files ≡ 1 → c.total ≤ longest_file → fs ≡ record { length = c.total; path = name ∷ [] } ∷ [] → Content' s fs name c
  several : c.single ≡ false → c.files ≤ most_files → c.total ≤ 281474976710656 → FilesPrinted s (c.place + 1) 0 (file_lines 0 fs) → c.place < length s
      → c.files ≡ length fs → c.total ≡ sum (lengths_in fs) → length (file_lines 0 fs) + 51 ≤ 3 * length s → Content' s fs name c

pub record Told (s : List ℕ) (info : Value) (t : Torrent) : Type 0 where
  pub name : List ℕ
  pub named : bytes_in (within name_key info) ≡ name
  pub bytes : take t.name.len (drop t.name.from s) ≡ name
  pub short : length name + 18 ≤ length s
  pub size : number_in (within piece_length_key info) ≡ t.piece_length
  pub little : t.piece_length ≤ longest_piece
  pub count : t.piece_count ≡ pieces_of t.content.total t.piece_length
  pub few : t.piece_count ≤ most_pieces
  pub content : Content' s (files_of info) name t.content

module _ (s : List ℕ) (d p : ℕ) (es : Entries) (deep : d ≤ 32) (t : StandEntries s d (p + 1) start es) (whole : length (encode (dict es)) + 8 ≤ length s) where
  -- exactly one of length and files
  content-told : (name : List ℕ) → bytes_in (found (lookup 0 es name_key)) ≡ name → (c : Content) → content_of p (lookup (p + 1) es length_key) (lookup (p + 1) es files_key) ≡ taken c
      → file_count c.files ≡ true → Content' s (files_of (dict es)) name c
  content-told name named c e few = go (lookup (p + 1) es length_key) refl (lookup (p + 1) es files_key) refl e
    where
      go : (a : Under) → lookup (p + 1) es length_key ≡ a → (b : Under) → lookup (p + 1) es files_key ≡ b → content_of p a b ≡ taken c → Content' s (files_of (dict es)) name c
      go (under q v) x nothing y h =
          let m = map-taken (one_file q) (natural_at longest_file q v) c h in
          let n = number-taken longest_file q v m.0 m.1 in
          let z : found (lookup 0 es files_key) ≡ str [] = found_none (p + 1) es files_key y in
          let k : found (lookup 0 es length_key) ≡ int (pos m.0) = found-is (p + 1) q es length_key (int (pos m.0)) (x ∙ ap (under q) n.0) in
          let i : m.0 ≡ c.total = ap (λ (w : Content). w.total) m.2 in
          alone (ap (λ (w : Content). w.single) (sym m.2)) (ap (λ (w : Content). w.files) (sym m.2)) (omega (arith, n.1))
          (ap (files_by (dict es)) z ∙ ap (λ (w : Value). record { length = number_in w; path = bytes_in (found (lookup 0 es name_key)) ∷ [] } ∷ []) k
          ∙ ap (λ (w : ℕ). record { length = w; path = bytes_in (found (lookup 0 es name_key)) ∷ [] } ∷ []) i ∙ ap (λ (w : List ℕ). record { length = c.total; path = w ∷ [] } ∷ []) named)
      go nothing x (under q v) y h =
          let a = then-taken (list_at_of q v) (λ vs. map (many_files q) (lengths_of (q + 1) vs)) c h in
          let l = list-taken q v a.0 a.1 in
          let m = map-taken (many_files q) (lengths_of (q + 1) a.0) c a.2 in
          let f : lookup (p + 1) es files_key ≡ under q (list a.0) = y ∙ ap (under q) l in
          let st = found-stands s d (p + 1) start es files_key t q (list a.0) f in
          let u = (list-stands s d q a.0 st).1 in
          let k : files_of (dict es) ≡ files_in a.0 = ap (files_by (dict es)) (found-is (p + 1) q es files_key (list a.0) f) in
          let r = lengths-are s u.0 (q + 1) a.0 m.0 u.2 m.1 in
          let cf : c.files ≡ length m.0 = ap (λ (w : Content). w.files) (sym m.2) in
          let ct : c.total ≡ sum m.0 = ap (λ (w : Content). w.total) (sym m.2) in
          let cp : c.place ≡ q = ap (λ (w : Content). w.place) (sym m.2) in
          let fc = leb-true c.files most_files (both (leb 1 c.files) (leb c.files most_files) few).1 in
          let small : 0 + sum m.0 ≤ 281474976710656 = omega (arith, r.1) in
          let most = files-most s u.0 (q + 1) 0 a.0 m.0 u.2 m.1 small in
          several (ap (λ (w : Content). w.single) (sym m.2)) fc (omega arith)
          (subst (λ (w : List Listed). FilesPrinted s (c.place + 1) 0 (file_lines 0 w)) (sym k) (subst (λ (w : ℕ). FilesPrinted s (w + 1) 0 (file_lines 0 (files_in a.0))) (sym cp)
          (record { deep = u.0; levels = omega (arith, u.1); items = a.0; stands = u.2; lengths = m.0; good = m.1; small = small; printed = refl })))
          (omega (arith, room s q (encode (list a.0)) st.rest st.inside st.text, list_length a.0))
          (cf ∙ sym (ap length r.0) ∙ mapped (files_in a.0) ∙ ap length (sym k))
          (ct ∙ ap sum (sym r.0) ∙ ap (λ (w : List Listed). sum (lengths_in w)) (sym k))
          (omega (arith, most, ap (λ (w : List Listed). length (file_lines 0 w)) k, list_length a.0, has_room es files_key (list a.0) (found-has (p + 1) es files_key q (list a.0) f), dict-length es))
      go (under q v) x (under r w) y h = no_way (cc)
      go nothing x nothing y h = no_way (cc)

  pub info-told : (a : Part) (u : Torrent) → info_of a p es ≡ taken u → Told s (dict es) u
  unfolding info_of sized_of
  info-told a u e =
      let i : Part = record { from = p; len = length (encode (dict es)) } in
      let q : ℕ = place_under (lookup (p + 1) es pieces_key) in
      let n₁ = then-taken (must p (lookup (p + 1) es name_key) name_at) (λ n. then (must p (lookup (p + 1) es piece_length_key) piece_length_at) (λ pl. then (must p (lookup (p + 1) es pieces_key) string_at) (λ x. then (content_of p (lookup (p + 1) es length_key) (lookup (p + 1) es files_key)) (λ c. sized_of a i n x q pl c)))) u e in
      let n₂ = then-taken (must p (lookup (p + 1) es piece_length_key) piece_length_at) (λ pl. then (must p (lookup (p + 1) es pieces_key) string_at) (λ x. then (content_of p (lookup (p + 1) es length_key) (lookup (p + 1) es files_key)) (λ c. sized_of a i n₁.0 x q pl c))) u n₁.2 in
      let n₃ = then-taken (must p (lookup (p + 1) es pieces_key) string_at) (λ x. then (content_of p (lookup (p + 1) es length_key) (lookup (p + 1) es files_key)) (λ c. sized_of a i n₁.0 x q n₂.0 c)) u n₂.2 in
      let n₄ = then-taken (content_of p (lookup (p + 1) es length_key) (lookup (p + 1) es files_key)) (λ c. sized_of a i n₁.0 n₃.0 q n₂.0 c) u n₃.2 in
      let c : Content = n₄.0 in
      let pl : ℕ = n₂.0 in
      let done : Torrent = record { announce = a; info = i; name = n₁.0; pieces = n₃.0; piece_length = pl; piece_count = pieces_of c.total pl; content = c } in
      let s₁ = provided-taken (file_count c.files) 11 c.place _ u n₄.2 in
      let s₂ = provided-taken (total_and c.total (pieces_of c.total pl)) 11 c.place _ u s₁.1 in
      let s₃ = provided-taken (eqb n₃.0.len (20 * pieces_of c.total pl)) 12 q (taken done) u s₂.1 in
      let w : done ≡ u = cc in
      let nm = must-taken p (lookup (p + 1) es name_key) name_at n₁.0 n₁.1 in
      let nt = name-taken nm.0 nm.1 n₁.0 nm.3 in
      let nl : lookup (p + 1) es name_key ≡ under nm.0 (str nt.0) = nm.2 ∙ ap (under nm.0) nt.1 in
      let pm = must-taken p (lookup (p + 1) es piece_length_key) piece_length_at pl n₂.1 in
      let pt = then-taken (natural_at longest_piece pm.0 pm.1) _ pl pm.3 in
      let pv = provided-taken (piece_length_of pt.0) 11 pm.0 (taken pt.0) pl pt.2 in
      let pe : pt.0 ≡ pl = cc in
      let pn = number-taken longest_piece pm.0 pm.1 pt.0 pt.1 in
      let named : bytes_in (found (lookup 0 es name_key)) ≡ nt.0 = ap bytes_in (found-is (p + 1) nm.0 es name_key (str nt.0) nl) in
      let base : Told s (dict es) done = record {
        name = nt.0;
        named = named;
        bytes = ap (λ (x : Part). take x.len (drop x.from s)) (sym nt.2) ∙ part_bytes s d nm.0 nt.0 (found-stands s d (p + 1) start es name_key t nm.0 (str nt.0) nl);
        short = omega (arith, whole, string-length nt.0, has_room es name_key (str nt.0) (found-has (p + 1) es name_key nm.0 (str nt.0) nl), dict-length es);
        size = ap number_in (found-is (p + 1) pm.0 es piece_length_key (int (pos pt.0)) (pm.2 ∙ ap (under pm.0) pn.0)) ∙ pe;
        little = omega (arith, pn.1);
        count = refl;
        few = leb-true (pieces_of c.total pl) most_pieces (both (leb 1 c.total) (leb (pieces_of c.total pl) most_pieces) s₂.0).1;
        content = content-told nt.0 named c n₄.1 s₁.0;
      } in
      subst (Told s (dict es)) w base

-- of a text that is a torrent
pub torrent-told : (s : List ℕ) (v : Value) → Fine s v → (t : Torrent) → torrent_of v ≡ taken t → Told s (within info_key v) t
unfolding torrent_of top_of
torrent-told s v f t e =
    let a = then-taken (dictionary_at 0 v) top_of t e in
    go a.0 (dictionary-taken 0 v a.0 a.1) a.2
  where
    go : (es : Entries) → v ≡ dict es → top_of es ≡ taken t → Told s (within info_key v) t
    go es i h =
        let b = then-taken (must 0 (lookup 1 es announce_key) string_at) (λ a. must 0 (lookup 1 es info_key) (info_at a)) t h in
        let m = must-taken 0 (lookup 1 es info_key) (info_at b.0) t b.2 in
        let c = then-taken (dictionary_at m.0 m.1) (info_of b.0 m.0) t m.3 in
        let w = dictionary-taken m.0 m.1 c.0 c.1 in
        let l : lookup 1 es info_key ≡ under m.0 (dict c.0) = m.2 ∙ ap (under m.0) w in
        let top = (dictionary-stands s 32 0 es (subst (Stands s 32 0) i (fine-stands s v f))).1 in
        let st = found-stands s top.0 1 start es info_key top.2 m.0 (dict c.0) l in
        let in' = (dictionary-stands s top.0 m.0 c.0 st).1 in
        let k : length (encode (dict c.0)) + 8 ≤ length s =
        omega (arith, ap length f.text, ap (λ (x : Value). length (encode x)) i, dict-length es, has_room es info_key (dict c.0) (found-has 1 es info_key m.0 (dict c.0) l)) in
        let r = info-told s in'.0 m.0 c.0 (omega (arith, top.1, in'.1)) in'.2 k b.0 t c.2 in
        subst (λ (x : Value). Told s x t) (sym (ap (within info_key) i ∙ found-is 1 m.0 es info_key (dict c.0) l)) r

-- ---- the listing

abbrev pub first_of : Torrent → List ℕ → List ℕ
first_of t b = first_line b (record { files = t.content.files; total = t.content.total; pieces = t.piece_count; size = t.piece_length })

first-most : (b : List ℕ) (t : Totals) → t.files ≤ most_files → t.total ≤ 281474976710656 → t.pieces ≤ most_pieces → t.size ≤ longest_piece → length (first_line b t) ≤ 3 * length b + 59
first-most b t hf hn hq hl =
    let f = t.files in
    let n = t.total in
    let q = t.pieces in
    let l = t.size in
    let x₃ = decimal q ++ (bytes " pieces of " ++ (decimal l ++ bytes "\n")) in
    let x₂ = decimal n ++ (bytes " bytes " ++ x₃) in
    omega (
      arith,
      escaped-most plain b,
      length_most 3 f (omega arith),
      length_most 14 n (omega arith),
      length_most 4 q (omega arith),
      length_most 7 l (omega arith),
      length-append (escaped b) (bytes " " ++ (decimal f ++ (bytes " files " ++ x₂))),
      length-append (decimal f) (bytes " files " ++ x₂),
      length-append (decimal n) (bytes " bytes " ++ x₃),
      length-append (decimal q) (bytes " pieces of " ++ (decimal l ++ bytes "\n")),
      length-append (decimal l) (bytes "\n"),
    )

module _ (s name : List ℕ) (fs : List Listed) (c : Content) where
  files-count : Content' s fs name c → length fs ≡ c.files
  files-count (alone a f n e) = ap length e ∙ sym f
  files-count (several a f n p i g m h) = sym g

  files-total : Content' s fs name c → sum (lengths_in fs) ≡ c.total
  unfolding sum
  files-total (alone a f n e) = ap (λ (l : List Listed). sum (lengths_in l)) e ∙ omega arith
  files-total (several a f n p i g m h) = sym m

  files-few : Content' s fs name c → (c.files ≤ most_files) × (c.total ≤ 281474976710656)
  files-few (alone a f n e) = (omega arith, omega arith)
  files-few (several a f n p i g m h) = (f, n)

  alone-lines : Content' s fs name c → c.single ≡ true → file_lines 0 fs ≡ file_line 0 (record { length = c.total; path = name ∷ [] })
  unfolding file_lines
  alone-lines (alone a f n e) t = ap (file_lines 0) e ∙ lists.append-nil (file_line 0 (record { length = c.total; path = name ∷ [] }))
  alone-lines (several a f n p i g m h) t = no_way (cc)

  several-lines : Content' s fs name c → c.single ≡ false → FilesPrinted s (c.place + 1) 0 (file_lines 0 fs) × (c.place < length s)
  several-lines (alone a f n e) t = no_way (cc)
  several-lines (several a f n p i g m h) t = (p, i)

  lines-most : length name + 18 ≤ length s → Content' s fs name c → length (file_lines 0 fs) + 38 ≤ 3 * length s
  unfolding slashed decimal_in
  lines-most k (alone a f n e) =
      omega (
        arith,
        ap length (alone-lines (alone a f n e) a),
        escaped-most plain name,
        length_most 11 c.total (omega arith),
        length-append (decimal c.total) (bytes " " ++ (escaped name ++ bytes "\n")),
        length-append (escaped name) (bytes "\n"),
      )
  lines-most k (several a f n p i g m h) = omega arith

-- what the code needs, for the bytes b of the name
pub record Ready (s b : List ℕ) (t : Torrent) : Type 0 where
  pub short : length (escaped b) ≤ 196608
  pub head : length (first_of t b) ≤ most_printed
  pub most : length (listing_of s) ≤ most_printed
  pub alone-is : t.content.single ≡ true → first_of t b ++ file_line 0 (record { length = t.content.total; path = b ∷ [] }) ≡ listing_of s
  pub several-are : t.content.single ≡ false
      → (w : List ℕ) × FilesPrinted s (t.content.place + 1) 0 w × (first_of t b ++ w ≡ listing_of s) × (t.content.place < length s) × (length w ≤ 196608)

pub listing-torrent : (s : List ℕ) (v : Value) → length s ≤ most_listed → decode s ≡ taken v → listing_of s ≡ torrent_lines v (torrent_of v)
unfolding listing_of
listing-torrent s v h e = ap (λ (b : Bool). cond b (refused_line 8 0) (value_lines (decode s))) (le-ltb most_listed (length s) h) ∙ ap value_lines e

pub ready : {s b : List ℕ} {t : Torrent} → read_of s ≡ taken t → length s ≤ most_listed → b ≡ take t.name.len (drop t.name.from s) → Ready s b t
ready {s} {b} {t} e h k =
    let a = then-taken (decode s) torrent_of t e in
    let info : Value = within info_key a.0 in
    let d = torrent-told s a.0 (taken_fine s a.0 a.1) t a.2 in
    let fs : List Listed = files_of info in
    let n : bytes_in (within name_key info) ≡ b = d.named ∙ sym d.bytes ∙ sym k in
    let m : length b + 18 ≤ length s = omega (arith, d.short, ap length d.bytes, ap length k) in
    let con : Content' s fs b t.content = subst (λ (x : List ℕ). Content' s fs x t.content) (sym d.bytes ∙ sym k) d.content in
    let cn = files-count s b fs t.content con in
    let tot = files-total s b fs t.content con in
    let few = files-few s b fs t.content con in
    let pc : pieces_of (sum (lengths_in fs)) t.piece_length ≡ t.piece_count = ap (λ (x : ℕ). pieces_of x t.piece_length) tot ∙ sym d.count in
    let whole : listing_of s ≡ first_of t b ++ file_lines 0 fs =
    listing-torrent s a.0 h a.1
    ∙ ap (torrent_lines a.0) a.2
    ∙ ap (λ (x : List ℕ). lines_by x (number_in (within piece_length_key info)) fs) n
    ∙ ap (λ (x : ℕ). lines_by b x fs) d.size
    ∙ ap (λ (x : ℕ). first_line b (record { files = length fs; total = sum (lengths_in fs); pieces = x; size = t.piece_length }) ++ file_lines 0 fs) pc
    ∙ ap (λ (x : ℕ). first_line b (record { files = length fs; total = x; pieces = t.piece_count; size = t.piece_length }) ++ file_lines 0 fs) tot
    ∙ ap (λ (x : ℕ). first_line b (record { files = x; total = t.content.total; pieces = t.piece_count; size = t.piece_length }) ++ file_lines 0 fs) cn in
    let fm = first-most b (record { files = t.content.files; total = t.content.total; pieces = t.piece_count; size = t.piece_length }) few.0 few.1 d.few d.little in
    let lm = lines-most s b fs t.content m con in
    record {
      short = omega (arith, escaped-most plain b);
      head = omega arith;
      most = omega (arith, ap length whole, length-append (first_of t b) (file_lines 0 fs));
      alone-is = λ x. ap (λ (l : List ℕ). first_of t b ++ l) (sym (alone-lines s b fs t.content con x)) ∙ sym whole;
      several-are = λ x. let y = several-lines s b fs t.content con x in (file_lines 0 fs, y.0, sym whole, y.1, omega arith);
    }

-- ---- refusals

pub listing-long : (s : List ℕ) → most_listed < length s → refused_line 8 0 ≡ listing_of s
unfolding listing_of
listing-long s h = sym (ap (λ (b : Bool). cond b (refused_line 8 0) (value_lines (decode s))) (lt-ltb most_listed (length s) h))

pub listing-refused : (s : List ℕ) (n p : ℕ) → length s ≤ most_listed → refused n p ≡ read_of s → refused_line n p ≡ listing_of s
unfolding listing_of
listing-refused s n p h e = go (decode s) e ∙ sym (ap (λ (b : Bool). cond b (refused_line 8 0) (value_lines (decode s))) (le-ltb most_listed (length s) h))
  where
    by : (v : Value) (o : Outcome Torrent) → refused n p ≡ o → refused_line n p ≡ torrent_lines v o
    by v (taken t) f = no_way (cc)
    by v (refused i j) f = let x : n ≡ i = cc in let y : p ≡ j = cc in ap (λ (z : ℕ). refused_line z p) x ∙ ap (refused_line i) y

    go : (o : Outcome Value) → refused n p ≡ then o torrent_of → refused_line n p ≡ value_lines o
    go (taken v) f = by v (torrent_of v) f
    go (refused i j) f = let x : n ≡ i = cc in let y : p ≡ j = cc in ap (λ (z : ℕ). refused_line z p) x ∙ ap (refused_line i) y
