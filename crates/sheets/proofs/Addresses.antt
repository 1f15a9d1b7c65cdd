-- The value under a key by search and by what is there, and the address that a sheet gives a torrent. Assumes nothing.
use mathlib.Core.Path.{◌≡◌, refl, ap, ◌∙◌}
use mathlib.Core.Bool.{Bool, true, false, cond}
use mathlib.Core.List.{List, []}
use Prim.Native.Nat.{ℕ, ◌+◌}
use lib.ListN.{length}
use Rattle.bencode_scalar.specs.Written.{written_string}
use Rattle.bencode.specs.Value.{Value, Entries, str, dict, empty, entry, encode, Keeps, KeepsEntries, Prev, start}
use Rattle.bencode.specs.Exact.{Fine}
use Rattle.bencode_walk.specs.Has.{Has}
use Rattle.bencode_walk.specs.Lookup.{same_key, Under, nothing, under, lookup}
use Rattle.bencode_walk.proofs.Having.{has-found, has-none}
use Rattle.hash_sha1.specs.Sha1.{sha1}
use Rattle.torrent_metainfo.specs.Keys.{announce_key, info_key}
use Rattle.torrent_laws.specs.Torrent.{TorrentSays, IsTorrent, is-torrent}
use Rattle.sheets.specs.Sheet.{held_or, value_under, address_of}

-- ---- the value under a key, or another

-- what was found, or w
abbrev found_or : Value → Under → Value
found_or w nothing = w
found_or w (under q v) = v

held_found : (w : Value) (p : ℕ) (es : Entries) (k : List ℕ) → held_or w es k ≡ found_or w (lookup p es k)
unfolding held_or lookup
held_found w p empty k = refl
held_found w p (entry j v es) k = go (same_key j k) (held_found w (p + length (written_string j) + length (encode v)) es k)
  where
    go : (b : Bool) → held_or w es k ≡ found_or w (lookup (p + length (written_string j) + length (encode v)) es k)
        → cond b v (held_or w es k) ≡ found_or w (cond b (under (p + length (written_string j)) v) (lookup (p + length (written_string j) + length (encode v)) es k))
    go true e = refl
    go false e = e

module _ (w : Value) (es : Entries) (k : List ℕ) where
  -- by a search
  pub held-under : (p q : ℕ) (v : Value) → lookup p es k ≡ under q v → held_or w es k ≡ v
  held-under p q v e = held_found w p es k ∙ ap (found_or w) e

  pub held-nothing : (p : ℕ) → lookup p es k ≡ nothing → held_or w es k ≡ w
  held-nothing p e = held_found w p es k ∙ ap (found_or w) e

  -- by what is there
  pub held-has : (v : Value) (d : ℕ) (before : Prev) → KeepsEntries es d before → Has es k v → held_or w es k ≡ v
  held-has v d before h i = let r = has-found 0 es k v d before i h in held-under 0 r.0 v r.1

  pub held_none : ((v : Value) → Has es k v → ⊥) → held_or w es k ≡ w
  held_none h = held-nothing 0 (has-none 0 es k h)

-- ---- the address

entries-keep : (es : Entries) (d : ℕ) → Keeps (dict es) d → (e : ℕ) × KeepsEntries es e start
unfolding Keeps
entries-keep es d k = (k.0, k.2)

-- what a torrent has under its two keys
module _ (t : List ℕ) where
  announce-held : (v : Value) (T : TorrentSays) → Fine t v → IsTorrent v T → value_under v announce_key ≡ str T.announce
  announce-held v T f (is-torrent es u a i h) = let k = entries-keep es 32 f.keeps in held-has (str []) es announce_key (str T.announce) k.0 start k.1 a

  info-held : (v : Value) (T : TorrentSays) → Fine t v → IsTorrent v T → value_under v info_key ≡ dict T.info
  info-held v T f (is-torrent es u a i h) = let k = entries-keep es 32 f.keeps in held-has (str []) es info_key (dict T.info) k.0 start k.1 i

module _ (t : List ℕ) (v : Value) (T : TorrentSays) (f : Fine t v) (i : IsTorrent v T) (es : Entries) where
  -- the address is what the sheet has under the info hash, else announce
  address-held : address_of v (dict es) ≡ held_or (str T.announce) es (sha1 (encode (dict T.info)))
  address-held = ap (λ (w : Value). held_or w es (sha1 (encode (value_under v info_key)))) (announce-held t v T f i) ∙ ap (λ (w : Value). held_or (str T.announce) es (sha1 (encode w))) (info-held t v T f i)

  pub address-listed : (d : ℕ) → Keeps (dict es) d → (bs : List ℕ) → Has es (sha1 (encode (dict T.info))) (str bs) → address_of v (dict es) ≡ str bs
  address-listed d k bs h = let r = entries-keep es d k in address-held ∙ held-has (str T.announce) es (sha1 (encode (dict T.info))) (str bs) r.0 start r.1 h

  pub address-unlisted : ((w : Value) → Has es (sha1 (encode (dict T.info))) w → ⊥) → address_of v (dict es) ≡ str T.announce
  address-unlisted h = address-held ∙ held_none (str T.announce) es (sha1 (encode (dict T.info))) h
