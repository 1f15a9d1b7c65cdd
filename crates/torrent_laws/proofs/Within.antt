-- A torrent's refusal has its place within the text, and a torrent that is taken has no more files and bytes than the limits permit. Assumes nothing.
use mathlib.Core.Path.{◌≡◌, refl}
use mathlib.Core.Logic.{⊎_elim}
use mathlib.Core.List.{List, ◌∷◌, ◌++◌}
use Prim.Native.Nat.{ℕ, zero, suc, ◌+◌, ◌<◌, ◌≤◌}
use native.Mathlib.Omega.{arith}
use native.Mathlib.Nat.{mul-le-mul}
use lib.ListN.{length, length-append}
use Rattle.refusal.specs.Paper.{taken, refused}
use Rattle.refusal.specs.Limits.{most_text, most_pieces, longest_piece}
use Rattle.refusal.proofs.Cases.{by-test, no_way, lt-or-le}
use Rattle.bencode_scalar.specs.Written.{written_string}
use Rattle.bencode.specs.Value.{Value, Items, Entries, str, list, dict, item, empty, entry, encode, encode_items, encode_entries}
use Rattle.bencode.specs.Decode.{decode}
use Rattle.bencode_laws.specs.Causes.{Cut, Byte, Order, Deep, Many, After}
use Rattle.bencode_laws.proofs.Fails.{Cause, place}
use Rattle.bencode_laws.proofs.Whole.{caused}
use Rattle.bencode_laws.proofs.Laws as bencode
use Rattle.bencode_walk.specs.Lookup.{Under, nothing, under, lookup, same_key}
use Rattle.bencode_fields.specs.Causes.{Lacks, missing, wrong, NoString, no_string, NoNumber, no-integer, out_of_range}
use Rattle.torrent_blocks.specs.Rules.{PieceLength, sum}
use Rattle.torrent_blocks.proofs.Legal.{piece-bounds}
use Rattle.torrent_metainfo.specs.Rules.{place_under}
use Rattle.torrent_metainfo.specs.Reading.{read_of}
use Rattle.torrent_metainfo.specs.declared.Torrent.{Torrent}
use Rattle.torrent_laws.specs.Torrent.{TorrentSays, lengths_in, GoodSizes, IsTorrent, is-torrent}
use Rattle.torrent_laws.specs.Causes.{NoName, no_name, bad_name, NoElements, this, later, NoPath, no_list, empty-path, bad_element, NoFile, no-dictionary, bad-length, bad-path, NoFiles, this-file, later-file, NoFileList, no_file-list, bad-file, NoContent, neither, both, wrong-length, wrong-files, BadSizes, file-count, no_bytes, many-pieces, wrong-pieces, NoInfo, info-name, info-piece-length, info-pieces, info-content, info-sizes, NoInfoAt, no-info-dictionary, no-info, NoTorrent, no_top, bad-announce, bad-info, NoTorrentText}
use Rattle.torrent_laws.proofs.Laws.{refused-law, torrent-exact}

-- ---- bencode's refusals

cut-within : (s : List ℕ) (p : ℕ) → Cut s p → p ≤ length s
cut-within s p (Cut.at_once c) = omega arith
cut-within s p (Cut.within c few h) = omega arith

byte-within : (s : List ℕ) (p : ℕ) → Byte s p → p ≤ length s
byte-within s p (Byte.no_value c h) = omega (arith, place c)
byte-within s p (Byte.no_key c h n) = omega (arith, place c)
byte-within s p (Byte.within w b t c few h) = omega (arith, place c, length-append w (b ∷ t))

order-within : (s : List ℕ) (p : ℕ) → Order s p → p ≤ length s
order-within s p (Order.not-greater k l c few h) = omega (arith, place c)

deep-within : (s : List ℕ) (p : ℕ) → Deep s p → p ≤ length s
deep-within s p (Deep.level c few h) = omega (arith, place c)

many-within : (s : List ℕ) (p : ℕ) → Many s p → p ≤ length s
many-within s p (Many.begins c h b) = omega (arith, place c)

after-within : (s : List ℕ) (p : ℕ) → After s p → p ≤ length s
after-within s p (After.bytes {l} v e k c h) = rw e (omega (arith, length-append (encode v) l))

cause-within : (s : List ℕ) (n p : ℕ) → Cause s n p → p ≤ length s
cause-within s zero p c = absurd c
cause-within s (suc zero) p c = cut-within s p c
cause-within s (suc (suc zero)) p c = byte-within s p c
cause-within s (suc (suc (suc zero))) p c = order-within s p c
cause-within s (suc (suc (suc (suc zero)))) p c = absurd c
cause-within s (suc (suc (suc (suc (suc zero))))) p c = deep-within s p c
cause-within s (suc (suc (suc (suc (suc (suc zero)))))) p c = many-within s p c
cause-within s (suc (suc (suc (suc (suc (suc (suc zero))))))) p c = after-within s p c
cause-within s (suc (suc (suc (suc (suc (suc (suc (suc n)))))))) p c = absurd c

pub decode-within : (s : List ℕ) (n p : ℕ) → decode s ≡ refused n p → p ≤ length s
decode-within s n p e =
    ⊎_elim (λ (l : most_text < length s). let x = (bencode.long-law s p).1 l in let q : p ≡ 0 = cc in omega arith)
    (λ (l : length s ≤ most_text). cause-within s n p (caused s n p l e))
    (lt-or-le most_text (length s))

-- ---- a value under a key lies within its dictionary

lookup-within : (p : ℕ) (es : Entries) (k : List ℕ) (q : ℕ) (v : Value) → lookup p es k ≡ under q v → q + length (encode v) ≤ p + length (encode_entries es)
unfolding lookup encode
lookup-within p empty k q v e = no_way (cc)
lookup-within p (entry j w es) k q v e =
    by-test (λ (u : Under). u ≡ under q v → q + length (encode v) ≤ p + length (written_string j ++ (encode w ++ encode_entries es))) (same_key j k)
    (λ t (h : under (p + length (written_string j)) w ≡ under q v). let a : p + length (written_string j) ≡ q = cc in let b : w ≡ v = cc in rw (← b) (omega (arith, length-append (written_string j) (encode w ++ encode_entries es), length-append (encode w) (encode_entries es))))
    (λ t h. omega (arith, lookup-within (p + length (written_string j) + length (encode w)) es k q v h, length-append (written_string j) (encode w ++ encode_entries es), length-append (encode w) (encode_entries es)))
    e

length-dict : (es : Entries) → length (encode (dict es)) ≡ suc (length (encode_entries es))
unfolding encode
length-dict es = refl

length-list : (vs : Items) → length (encode (list vs)) ≡ suc (length (encode_items vs))
unfolding encode
length-list vs = refl

length-item : (v : Value) (vs : Items) → length (encode_items (item v vs)) ≡ length (encode v) + length (encode_items vs)
unfolding encode
length-item v vs = length-append (encode v) (encode_items vs)

-- at the place of the dictionary es
module _ (d : ℕ) (es : Entries) where
  value-within : (k : List ℕ) (q : ℕ) (v : Value) → lookup (d + 1) es k ≡ under q v → q + length (encode v) ≤ d + length (encode (dict es))
  value-within k q v e = omega (arith, lookup-within (d + 1) es k q v e, length-dict es)

  place-within : (k : List ℕ) → place_under (lookup (d + 1) es k) ≤ d + length (encode (dict es))
  place-within k = go (lookup (d + 1) es k) refl
    where
      go : (u : Under) → lookup (d + 1) es k ≡ u → place_under u ≤ d + length (encode (dict es))
      go nothing e = omega arith
      go (under q v) e = omega (arith, value-within k q v e)

  lacks-within : (k : List ℕ) (W : ℕ → Value → ℕ → ℕ → Type 0) → ((p : ℕ) (v : Value) (n q : ℕ) → W p v n q → q ≤ p + length (encode v)) → (n q : ℕ) → Lacks d (lookup (d + 1) es k) W n q
      → q ≤ d + length (encode (dict es))
  lacks-within k W h n q (missing e) = omega arith
  lacks-within k W h n q (wrong p v m r e w) = omega (arith, h p v m r w, value-within k p v e)

-- ---- the torrent's refusals

string-within : (p : ℕ) (v : Value) (n q : ℕ) → NoString p v n q → q ≤ p + length (encode v)
string-within p v n q (no_string w h) = omega arith

number-within : (R : ℕ → Type 0) (p : ℕ) (v : Value) (n q : ℕ) → NoNumber R p v n q → q ≤ p + length (encode v)
number-within R p v n q (no-integer w h) = omega arith
number-within R p v n q (out_of_range z h) = omega arith

name-within : (p : ℕ) (v : Value) (n q : ℕ) → NoName p v n q → q ≤ p + length (encode v)
name-within p v n q (no_name w h) = omega arith
name-within p v n q (bad_name bs h) = omega arith

elements-within : (p : ℕ) (vs : Items) (n q : ℕ) → NoElements p vs n q → q ≤ p + length (encode_items vs)
elements-within p vs n q (this o v ws m r h) = omega (arith, name-within o v m r h, length-item v ws)
elements-within p vs n q (later o bs ws m r g h) = omega (arith, elements-within (o + length (encode (str bs))) ws m r h, length-item (str bs) ws)

path-within : (p : ℕ) (v : Value) (n q : ℕ) → NoPath p v n q → q ≤ p + length (encode v)
path-within p v n q (no_list w h) = omega arith
path-within p v n q empty-path = omega arith
path-within p v n q (bad_element vs m r h) = omega (arith, elements-within (p + 1) vs m r h, length-list vs)

file-within : (p : ℕ) (v : Value) (n q : ℕ) → NoFile p v n q → q ≤ p + length (encode v)
file-within p v n q (no-dictionary w h) = omega arith
file-within p v n q (bad-length es m r h) = lacks-within p es _ _ (number-within _) m r h
file-within p v n q (bad-path es k m r g h) = lacks-within p es _ _ path-within m r h

files-within : (p : ℕ) (vs : Items) (n q : ℕ) → NoFiles p vs n q → q ≤ p + length (encode_items vs)
files-within p vs n q (this-file o v ws m r h) = omega (arith, file-within o v m r h, length-item v ws)
files-within p vs n q (later-file o es ws f m r g h) = omega (arith, files-within (o + length (encode (dict es))) ws m r h, length-item (dict es) ws)

list-within : (p : ℕ) (v : Value) (n q : ℕ) → NoFileList p v n q → q ≤ p + length (encode v)
list-within p v n q (no_file-list w h) = omega arith
list-within p v n q (bad-file vs m r h) = omega (arith, files-within (p + 1) vs m r h, length-list vs)

content-within : (d : ℕ) (es : Entries) (n q : ℕ) → NoContent d es n q → q ≤ d + length (encode (dict es))
content-within d es n q (neither e f) = omega arith
content-within d es n q (both a b c f g h) = omega arith
content-within d es n q (wrong-length p v m r e f h) = omega (arith, number-within _ p v m r h, value-within d es _ p v e)
content-within d es n q (wrong-files p v m r e f h) = omega (arith, list-within p v m r h, value-within d es _ p v f)

-- a bound of both places bounds the refusal's
sizes-within : (ns : List ℕ) (pl : ℕ) (hs : List ℕ) (a b x : ℕ) → a ≤ x → b ≤ x → (n q : ℕ) → BadSizes ns pl hs a b n q → q ≤ x
sizes-within ns pl hs a b x l m n q (file-count h) = l
sizes-within ns pl hs a b x l m n q (no_bytes f g h) = l
sizes-within ns pl hs a b x l m n q (many-pieces k f g h i j) = l
sizes-within ns pl hs a b x l m n q (wrong-pieces k f g h i j o) = m

info-within : (d : ℕ) (es : Entries) (n q : ℕ) → NoInfo d es n q → q ≤ d + length (encode (dict es))
info-within d es n q (info-name m r h) = lacks-within d es _ _ name-within m r h
info-within d es n q (info-piece-length bs m r i h) = lacks-within d es _ _ (number-within _) m r h
info-within d es n q (info-pieces bs k m r i j h) = lacks-within d es _ _ string-within m r h
info-within d es n q (info-content bs k hs m r i j l h) = content-within d es m r h
info-within d es n q (info-sizes bs k hs fs m r i j l o h) = sizes-within _ _ _ _ _ _ (place-within d es _) (place-within d es _) m r h

at-within : (p : ℕ) (v : Value) (n q : ℕ) → NoInfoAt p v n q → q ≤ p + length (encode v)
at-within p v n q (no-info-dictionary w h) = omega arith
at-within p v n q (no-info es m r h) = info-within p es m r h

torrent-within : (v : Value) (n q : ℕ) → NoTorrent v n q → q ≤ length (encode v)
torrent-within v n q (no_top w h) = omega arith
torrent-within v n q (bad-announce es m r h) = omega (arith, lacks-within 0 es _ _ string-within m r h)
torrent-within v n q (bad-info es bs m r g h) = omega (arith, lacks-within 0 es _ _ at-within m r h)

text-within : (s : List ℕ) (n p : ℕ) → NoTorrentText s n p → p ≤ length s
text-within s n p (v, f, h) = rw f.text (torrent-within v n p h)

-- ---- the laws

pub read-within : (s : List ℕ) (n p : ℕ) → read_of s ≡ refused n p → p ≤ length s
read-within s n p e = ⊎_elim (decode-within s n p) (text-within s n p) ((refused-law s n p).0 e)

sized-small : (ns : List ℕ) (pl : ℕ) (hs : List ℕ) (k : ℕ) → PieceLength pl → GoodSizes ns pl hs k → sum ns ≤ 274877906944
sized-small ns pl hs k w g =
    let b = piece-bounds pl w in
    let m = mul-le-mul {n₁ = k} {m₁ = pl} {n₂ = most_pieces} {m₂ = longest_piece} g.few-pieces b.1 in
    omega (arith, g.counted.enough)

says-small : (v : Value) (t : TorrentSays) → IsTorrent v t → (length (lengths_in t.files) ≤ 1024) × (sum (lengths_in t.files) ≤ 274877906944)
says-small v t (is-torrent es u a b i) = (i.sized.few-files, sized-small (lengths_in u.files) u.piece-length u.pieces u.count i.has-piece-length.power i.sized)

pub read_small : (s : List ℕ) (t : Torrent) → read_of s ≡ taken t → (t.content.files ≤ 1024) × (t.content.total ≤ 274877906944)
read_small s t e =
    let r = (torrent-exact s).only t e in
    let b = says-small r.0 r.1 r.3 in
    (omega (arith, r.4.files.files), omega (arith, r.4.files.total))
