-- What is known of a torrent that was taken. Assumes nothing.
use Rattle.std.proofs.Common.{◌≡◌, refl, sym, ap, ◌∙◌, subst, Bool, true, false, cond, List, ℕ, ◌+◌, ◌*◌, ◌≤◌, arith, eqb, length, eqb-true}
use Rattle.refusal.specs.Paper.{Outcome, taken, refused, map}
use Rattle.refusal.specs.Limits.{most_text, most_pieces, longest_piece, longest_file}
use Rattle.refusal.specs.declared.Part.{Part}
use Rattle.refusal.proofs.Outcomes.{then-taken}
use Rattle.bencode.specs.Value.{Value, Items, Entries, str, int, list, dict, encode, start}
use Rattle.bencode.specs.Exact.{Fine}
use Rattle.bencode_walk.specs.Stands.{Stands}
use Rattle.bencode_walk.specs.Lookup.{Under, nothing, under, lookup}
use Rattle.bencode_walk.proofs.Standing.{fine-stands, dictionary-stands}
use Rattle.bencode_walk.proofs.Finding.{found-stands}
use Rattle.bencode_fields.specs.Values.{part_of, string_at, natural_at, must}
use Rattle.torrent_blocks.specs.Rules.{piece_length_of, file_count, pieces_of, total_and}
use Rattle.torrent_blocks.proofs.Legal.{piece-length-is, piece-bounds}
use Rattle.torrent_metainfo.specs.declared.Content.{Content}
use Rattle.torrent_metainfo.specs.declared.Torrent.{Torrent}
use Rattle.torrent_metainfo.specs.Keys.{announce_key, info_key, files_key, length_key, piece_length_key, pieces_key}
use Rattle.torrent_metainfo.specs.Rules.{lengths_of, one_file, many_files, content_of, place_under, sized_of, info_of, info_at, top_of, torrent_of}
use Rattle.torrent_metainfo.proofs.Naming.{no_way}
use Rattle.torrent_metainfo.proofs.Sizing.{few-pieces, piece-legal}
use Rattle.torrent_metainfo.proofs.Informing.{named, pieced, hashed, contained, after_content, after_pieces, after_length, after_name}
use Rattle.torrent_contents.specs.Files.{inside, into, in_info}

-- ---- checks one after the other that took something

must-taken : {A : Type 0} (D : ℕ) (u : Under) (f : ℕ → Value → Outcome A) (x : A) → must D u f ≡ taken x → (q : ℕ) × (v : Value) × (u ≡ under q v) × (f q v ≡ taken x)
must-taken D nothing f x e = no_way (cc)
must-taken D (under q v) f x e = (q, v, refl, e)

provided-taken : {A : Type 0} (b : Bool) (n p : ℕ) (o : Outcome A) (x : A) → cond b o (refused n p) ≡ taken x → (b ≡ true) × (o ≡ taken x)
provided-taken true n p o x e = (refl, e)
provided-taken false n p o x e = no_way (cc)

-- ---- the numbers

record Sized (a i n s : Part) (pl : ℕ) (c : Content) (t : Torrent) : Type 0 where
  pub total : total_and c.total (pieces_of c.total pl) ≡ true
  pub hashes : s.len ≡ 20 * pieces_of c.total pl
  pub is : t ≡ record { announce = a; info = i; name = n; pieces = s; piece_length = pl; piece_count = pieces_of c.total pl; content = c }

module _ (a i n s : Part) (p pl : ℕ) (c : Content) (t : Torrent) where
  abbrev whole : Torrent
  whole = record { announce = a; info = i; name = n; pieces = s; piece_length = pl; piece_count = pieces_of c.total pl; content = c }

  abbrev matched : Outcome Torrent
  matched = cond (eqb s.len (20 * pieces_of c.total pl)) (taken whole) (refused 12 p)

  abbrev summed : Outcome Torrent
  summed = cond (total_and c.total (pieces_of c.total pl)) matched (refused 11 c.place)

  sized : sized_of a i n s p pl c ≡ taken t → Sized a i n s pl c t
  unfolding sized_of
  sized e =
      let x = provided-taken (file_count c.files) 11 c.place summed t e in
      let y = provided-taken (total_and c.total (pieces_of c.total pl)) 11 c.place matched t x.1 in
      let z = provided-taken (eqb s.len (20 * pieces_of c.total pl)) 12 p (taken whole) t y.1 in
      let w : taken t ≡ taken whole = sym z.1 in
      record { total = y.0; hashes = eqb-true s.len (20 * pieces_of c.total pl) z.0; is = cc }

-- ---- the content

-- one file, or files of these lengths in a list
pub data Holds (u : Under) (c : Content) : Type 0 where
  one : c.single ≡ true → c.files ≡ 1 → Holds u c
  many : (q : ℕ) (vs : Items) (ns : List ℕ) → u ≡ under q (list vs) → lengths_of (q + 1) vs ≡ taken ns → c ≡ many_files q ns → Holds u c

holds : (info : ℕ) (a b : Under) (c : Content) → content_of info a b ≡ taken c → Holds b c
holds info (under p v) nothing c e = go (natural_at longest_file p v) e
  where
    go : (o : Outcome ℕ) → map (one_file p) o ≡ taken c → Holds nothing c
    go (taken n) f = let g : one_file p n ≡ c = cc in one (sym (ap (λ (x : Content). x.single) g)) (sym (ap (λ (x : Content). x.files) g))
    go (refused r o) f = no_way (cc)
holds info nothing (under p (list vs)) c e = go (lengths_of (p + 1) vs) refl e
  where
    go : (o : Outcome (List ℕ)) → lengths_of (p + 1) vs ≡ o → map (many_files p) o ≡ taken c → Holds (under p (list vs)) c
    go (taken ns) f h = let g : many_files p ns ≡ c = cc in many p vs ns refl f (sym g)
    go (refused r o) f h = no_way (cc)
holds info nothing (under p (str bs)) c e = no_way (cc)
holds info nothing (under p (int z)) c e = no_way (cc)
holds info nothing (under p (dict es)) c e = no_way (cc)
holds info nothing nothing c e = no_way (cc)
holds info (under p v) (under q w) c e = no_way (cc)

-- ---- the whole

pub record Facts (s : List ℕ) (v : Value) (t : Torrent) : Type 0 where
  pub short : length s ≤ most_text
  pub piece : t.piece_length ≤ longest_piece
  pub count : t.piece_count ≡ pieces_of t.content.total t.piece_length
  pub few : t.piece_count ≤ most_pieces
  pub legal : piece_length_of t.piece_length ≡ true
  pub hashes : t.pieces.len ≡ 20 * t.piece_count
  pub deep : ℕ
  pub levels : deep ≤ 32
  -- the hashes
  pub place : ℕ
  pub bytes : List ℕ
  pub under-pieces : in_info v pieces_key ≡ under place (str bytes)
  pub pieces-stand : Stands s deep place (str bytes)
  pub pieces-part : t.pieces ≡ part_of place bytes
  -- the files
  pub content : Holds (in_info v files_key) t.content
  pub files-stand : (q : ℕ) (w : Value) → in_info v files_key ≡ under q w → Stands s deep q w

module _ (s : List ℕ) (d : ℕ) (levels : d ≤ 32) (short : length s ≤ most_text) (v : Value) (q : ℕ) (ws : Entries) (u : inside 0 v info_key ≡ under q (dict ws)) (t₀ : Stands s d q (dict ws)) (a : Part) (t : Torrent) where
  by-string : (w : Under) (x : Part) → must q w string_at ≡ taken x → (r : ℕ) × (bs : List ℕ) × (w ≡ under r (str bs)) × (x ≡ part_of r bs)
  by-string nothing x e = no_way (cc)
  by-string (under r (str bs)) x e = (r, bs, refl, cc)
  by-string (under r (int z)) x e = no_way (cc)
  by-string (under r (list vs)) x e = no_way (cc)
  by-string (under r (dict es)) x e = no_way (cc)

  info-facts : info_of a q ws ≡ taken t → Facts s v t
  unfolding info_of
  info-facts e =
      let n = then-taken (named a q ws) (after_name a q ws) t e in
      let l = then-taken (pieced a q ws) (after_length a q ws n.0) t n.2 in
      let h = then-taken (hashed a q ws) (after_pieces a q ws n.0 l.0) t l.2 in
      let c = then-taken (contained a q ws) (after_content a q ws n.0 l.0 h.0) t h.2 in
      let z = sized a (record { from = q; len = length (encode (dict ws)) }) n.0 h.0 (place_under (lookup (q + 1) ws pieces_key)) l.0 c.0 t c.2 in
      let x = by-string (lookup (q + 1) ws pieces_key) h.0 h.1 in
      let legal = piece-legal q (lookup (q + 1) ws piece_length_key) l.0 (sym l.1) in
      let i : t.pieces ≡ h.0 = ap (λ (y : Torrent). y.pieces) z.is in
      let j : t.content ≡ c.0 = ap (λ (y : Torrent). y.content) z.is in
      let k : t.piece_length ≡ l.0 = ap (λ (y : Torrent). y.piece_length) z.is in
      let m : t.piece_count ≡ pieces_of c.0.total l.0 = ap (λ (y : Torrent). y.piece_count) z.is in
      let b = (dictionary-stands s d q ws t₀).1 in
      let f : (k : List ℕ) → in_info v k ≡ lookup (q + 1) ws k = λ k. ap (λ (y : Under). into y k) u in
      record {
        short = short;
        piece = omega (arith, k, piece-bounds l.0 (piece-length-is l.0 legal));
        count = m ∙ sym (ap (λ (y : Content). pieces_of y.total l.0) j) ∙ sym (ap (λ (y : ℕ). pieces_of t.content.total y) k);
        few = omega (arith, m, few-pieces c.0.total (pieces_of c.0.total l.0) z.total);
        legal = ap piece_length_of k ∙ legal;
        hashes = ap (λ (y : Part). y.len) i ∙ z.hashes ∙ sym (ap (λ (y : ℕ). 20 * y) m);
        deep = b.0;
        levels = omega (arith, b.1);
        place = x.0;
        bytes = x.1;
        under-pieces = f pieces_key ∙ x.2;
        pieces-stand = found-stands s b.0 (q + 1) start ws pieces_key b.2 x.0 (str x.1) x.2;
        pieces-part = i ∙ x.3;
        content = subst (λ (y : Content). Holds (in_info v files_key) y) (sym j) (subst (λ (y : Under). Holds y c.0) (sym (f files_key)) (holds q (lookup (q + 1) ws length_key) (lookup (q + 1) ws files_key) c.0 c.1));
        files-stand = λ r w g. found-stands s b.0 (q + 1) start ws files_key b.2 r w (sym (f files_key) ∙ g);
      }

pub facts : (s : List ℕ) (v : Value) (t : Torrent) → Fine s v → torrent_of v ≡ taken t → Facts s v t
unfolding torrent_of top_of
facts s (str bs) t f e = no_way (cc)
facts s (int z) t f e = no_way (cc)
facts s (list vs) t f e = no_way (cc)
facts s (dict es) t f e =
    let a = then-taken (must 0 (lookup 1 es announce_key) string_at) (λ a. must 0 (lookup 1 es info_key) (info_at a)) t e in
    let m = must-taken 0 (lookup 1 es info_key) (info_at a.0) t a.2 in
    let b = (dictionary-stands s 32 0 es (fine-stands s (dict es) f)).1 in
    go a.0 m.0 m.1 m.2 b.0 (omega (arith, b.1)) (found-stands s b.0 1 start es info_key b.2 m.0 m.1 m.2) m.3
  where
    go : (a : Part) (q : ℕ) (w : Value) → lookup 1 es info_key ≡ under q w → (d : ℕ) → d ≤ 32 → Stands s d q w → info_at a q w ≡ taken t → Facts s (dict es) t
    go a q (str bs) u d l x i = no_way (cc)
    go a q (int z) u d l x i = no_way (cc)
    go a q (list vs) u d l x i = no_way (cc)
    go a q (dict ws) u d l x i = info-facts s d l f.short (dict es) q ws u x a t i
