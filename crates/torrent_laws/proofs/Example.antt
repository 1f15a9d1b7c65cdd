-- Document 01's torrent is one by the definition, and says what it should; its text is its value as BEP 3 writes it. Assumes nothing.
use mathlib.Core.Path.{◌≡◌, refl}
use mathlib.Core.Bool.{false}
use mathlib.Core.List.{List, [], ◌∷◌}
use mathlib.Core.List.Memᴰ
use Prim.Native.Nat.{ℕ, ◌≤◌}
use native.Mathlib.Omega.{arith}
use lib.IntN.{pos}
use Rattle.refusal.specs.Paper.{taken}
use Rattle.bencode_scalar.specs.Written.{key_lt}
use Rattle.bencode_scalar.specs.Reading.{digits_val, digits_len, string_of, closed_of, integer_of}
use Rattle.bencode.specs.Value.{Value, Entries, int, empty, entry}
use Rattle.bencode.specs.Decode.{decode, kind_of, key_of, items_of, entries_of, value_from}
use Rattle.bencode.specs.Exact.{Fine}
use Rattle.bencode.proofs.Exact.{taken_fine}
use Rattle.bencode_walk.specs.Lookup.{same_key}
use Rattle.bencode_walk.specs.Has.{Has, here, there}
use Rattle.bencode_walk.proofs.Finding.{same_refl}
use Rattle.torrent_blocks.specs.Rules.{sum}
use Rattle.torrent_metainfo.specs.Keys.{announce_key, info_key, files_key, length_key, name_key, path_key, piece_length_key, pieces_key}
use Rattle.torrent_metainfo.specs.Rules.{good_name, clean}
use Rattle.torrent_laws.specs.Torrent.{GoodName, OneFile, IsFile, AreFiles, no_more, one_more, by-files, IsInfo, IsTorrent, is-torrent, sizes_of, string_items}
use Rattle.torrent_laws.specs.Example.{text, pkg, file_a, file_b, file_c, file_entries, files, info, value, says}
use Rattle.torrent_laws.proofs.Names.{no_way, good-is}
use Rattle.torrent_laws.proofs.Paths.{AllGood, more-good}

-- the text is read as the value
text-decodes : decode text ≡ taken value
unfolding text string_items decode value_from items_of entries_of kind_of string_of closed_of integer_of key_of digits_val digits_len key_lt
text-decodes = refl

pub listing-fine : Fine text value
listing-fine = taken_fine text value text-decodes

no-more-good : AllGood []
no-more-good bs i = absurd (Memᴰ.not-nil i)

good-rte : GoodName (114 ∷ 116 ∷ 101 ∷ [])
unfolding good_name clean
good-rte = good-is _ refl

good-a : GoodName (97 ∷ [])
unfolding good_name clean
good-a = good-is _ refl

good-b : GoodName (98 ∷ [])
unfolding good_name clean
good-b = good-is _ refl

good-c : GoodName (99 ∷ [])
unfolding good_name clean
good-c = good-is _ refl

good-pkg : GoodName pkg
unfolding good_name clean
good-pkg = good-is _ refl

is-file : (f : OneFile) → f.size ≤ 274877906944 → (f.path ≡ [] → ⊥) → AllGood f.path → IsFile (file_entries f) f
is-file f l s g = record {
  has-length = record { has = here length_key (int (pos f.size)) _; small = l };
  has-path = record { has = there _ _ _ path_key _ (here path_key _ empty); some = s; good = g };
}

are-files : AreFiles files (file_a ∷ file_b ∷ file_c ∷ [])
are-files =
    one_more (file_entries file_a) _ file_a _ (is-file file_a (omega arith) (λ e. no_way (cc)) (more-good _ _ good-rte (more-good _ [] good-a no-more-good)))
    (one_more (file_entries file_b) _ file_b _ (is-file file_b (omega arith) (λ e. no_way (cc)) (more-good _ [] good-b no-more-good))
    (one_more (file_entries file_c) _ file_c _ (is-file file_c (omega arith) (λ e. no_way (cc)) (more-good _ [] good-c no-more-good)) no_more))

-- a dictionary whose first key is another has a key among the others
among : (j k : List ℕ) (w v : Value) (es : Entries) → same_key j k ≡ false → Has (entry j w es) k v → Has es k v
among j k w v es f (here i u ds) = let g = same_refl i in no_way (cc)
among j k w v es f (there i u ds l x h) = h

-- info has no length
no_length : (v : Value) → Has info length_key v → ⊥
unfolding same_key
no_length v h =
    let i = among files_key length_key _ v _ refl h in
    let j = among name_key length_key _ v _ refl i in
    let k = among piece_length_key length_key _ v _ refl j in
    let l : Has empty length_key v = among pieces_key length_key _ v _ refl k in
    elim l [ ]

is-info : IsInfo info says
unfolding sizes_of sum
is-info = record {
  has-name = record { has = there _ _ _ name_key _ (here name_key _ _); good = good-pkg };
  has-piece-length = record { has = there _ _ _ piece_length_key _ (there _ _ _ piece_length_key _ (here piece_length_key _ _)); power = record { exponent = 14; low = omega arith; high = omega arith; power = refl } };
  has-pieces = there _ _ _ pieces_key _ (there _ _ _ pieces_key _ (there _ _ _ pieces_key _ (here pieces_key _ empty)));
  has-files = by-files files _ (here files_key _ _) are-files no_length;
  sized = record {
    some-files = omega arith;
    few-files = omega arith;
    some_bytes = omega arith;
    counted = record { enough = omega arith; least = λ k h. omega arith };
    few-pieces = omega arith;
    hashes = refl;
  };
}

-- and the value is a torrent that says so
pub listing-is-torrent : IsTorrent value says
listing-is-torrent = is-torrent _ says (here announce_key _ _) (there _ _ _ info_key _ (here info_key _ empty)) is-info
