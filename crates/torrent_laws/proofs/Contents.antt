-- The check that info has exactly one of length and files, and the check of that one. Assumes nothing.
use mathlib.Core.Path.{◌≡◌, refl, sym, ap, ◌∙◌, subst}
use mathlib.Core.Logic.{◌⊎◌, inl, inr}
use mathlib.Core.List.{List}
use Prim.Native.Nat.{ℕ, ◌+◌, ◌≤◌}
use native.Mathlib.Omega.{arith}
use lib.IntN.{pos}
use lib.ListN.{length, take}
use lib.Seq.{take-append_seam}
use Rattle.refusal.specs.Paper.{map, then}
use Rattle.refusal.specs.Limits.{longest_file}
use Rattle.bencode.specs.Value.{Value, Items, Entries, int, list, encode, start}
use Rattle.bencode_walk.specs.Stands.{Stands, StandEntries}
use Rattle.bencode_walk.specs.Lookup.{Under, nothing, under, lookup}
use Rattle.bencode_walk.specs.Has.{Has}
use Rattle.bencode_walk.proofs.Standing.{list-stands}
use Rattle.bencode_walk.proofs.Finding.{found-stands}
use Rattle.bencode_walk.proofs.Having.{found-has, has-found, none_has}
use Rattle.bencode_fields.specs.Values.{list_at_of}
use Rattle.torrent_blocks.specs.Rules.{sum}
use Rattle.torrent_metainfo.specs.Keys.{files_key, length_key}
use Rattle.torrent_metainfo.specs.Rules.{lengths_of, one_file, many_files, content_of, place_under}
use Rattle.torrent_metainfo.specs.declared.Content.{Content}
use Rattle.torrent_laws.specs.Torrent.{OneFile, TorrentFiles, single, many, sizes_of, AreFiles, HasFiles, by_length, by-files}
use Rattle.torrent_laws.specs.Exact.{files_under, StandsAt, FilesAt, ShowsFiles}
use Rattle.torrent_laws.specs.Causes.{NoFiles, NoFileList, no_file-list, bad-file, NoContent, neither, both, wrong-length, wrong-files}
use Rattle.bencode_fields.specs.Causes.{Other, other, NoNumber, UpTo}
use Rattle.torrent_laws.proofs.Names.{no_way}
use Rattle.bencode_fields.proofs.Checks.{Checks, checks-refused, checks-as, checks-map}
use Rattle.bencode_fields.proofs.Typed.{Number, number-checks, list-checks, kind-checks}
use Rattle.torrent_laws.proofs.Filing.{files-checks, files-at}

-- what stands at a place is written there
pub stands_at : (s : List ℕ) (e q : ℕ) (v : Value) → Stands s e q v → StandsAt s q v
stands_at s e q v t = ap (take (length (encode v))) t.text ∙ take-append_seam (encode v) t.rest

-- ---- the list under files

-- the value is the list of those files
abbrev Listed : Value → List OneFile → Type 0
Listed v fs = (vs : Items) × (v ≡ list vs) × AreFiles vs fs

abbrev ShownMany : ℕ → Content → List OneFile → Type 0
ShownMany q c fs = c ≡ many_files q (sizes_of fs)

list-kind : (q : ℕ) (v : Value) (n p : ℕ) → NoFileList q v n p → Other list q v n p ⊎ ((vs : Items) × (v ≡ list vs))
list-kind q v n p (no_file-list w h) = inl (other w h)
list-kind q v n p (bad-file vs m r h) = inr (vs, refl)

only-file : (q : ℕ) (vs : Items) (n p : ℕ) → NoFileList q (list vs) n p → NoFiles (q + 1) vs n p
only-file q vs n p (no_file-list v h) = absurd (h vs refl)
only-file q vs n p (bad-file ws m r h) = h

many-checks : (s : List ℕ) (e q : ℕ) (v : Value) → Stands s e q v → Checks (then (list_at_of q v) (λ vs. map (many_files q) (lengths_of (q + 1) vs))) (Listed v) (ShownMany q) (NoFileList q v)
many-checks s e q v t =
    kind-checks (NoFileList q) (list-checks q v)
    (λ vs f. let g = (list-stands s e q vs (subst (Stands s e q) f t)).1 in
    checks-as (checks-map (many_files q) {Shows' = ShownMany q} (files-checks s g.0 (q + 1) vs g.2) (λ ns fs i sh. ap (many_files q) sh))
    (λ c fs h sh. (fs, h, sh)) (λ fs h. (fs, h, λ c sh. sh)) (λ n p h. bad-file vs n p h) (only-file q vs))
    (no_file-list v) (list-kind q v)

-- ---- exactly one

module _ (s : List ℕ) (e p : ℕ) (es : Entries) (t : StandEntries s e (p + 1) start es) (low : e ≤ 32) where
  -- the content that is handed back, and the place that a refusal of it names
  abbrev pub ShownContent : Content → TorrentFiles → Type 0
  ShownContent c fs = ShowsFiles s es c fs × (c.place ≡ place_under (lookup (p + 1) es (files_under fs)))

  -- what a key has is what is found under it
  same-under : (k : List ℕ) (q : ℕ) (v w : Value) → lookup (p + 1) es k ≡ under q v → Has es k w → v ≡ w
  same-under k q v w f h = let r = has-found (p + 1) es k w e start h t.keeps in let g = r.1 in cc

  not-under : (k : List ℕ) (w : Value) → lookup (p + 1) es k ≡ nothing → Has es k w → ⊥
  not-under k w f h = none_has (p + 1) es k e start t.keeps f w h

  shown-one : (q n : ℕ) → lookup (p + 1) es length_key ≡ under q (int (pos n)) → ShownContent (one_file q n) (single n)
  unfolding sum
  shown-one q n f = (
    record {
      one = refl;
      files = refl;
      total = omega arith;
      place = (int (pos n), found-has (p + 1) es length_key q (int (pos n)) f, stands_at s e q (int (pos n)) (found-stands s e (p + 1) start es length_key t q (int (pos n)) f));
      each = tt;
    },
    ap place_under (sym f),
  )

  each_at : (q : ℕ) (vs : Items) (fs : List OneFile) → lookup (p + 1) es files_key ≡ under q (list vs) → AreFiles vs fs → FilesAt s (q + 1) fs
  each_at q vs fs f h = let g = (list-stands s e q vs (found-stands s e (p + 1) start es files_key t q (list vs) f)).1 in files-at s g.0 (q + 1) vs fs (omega (arith, g.1)) g.2 h

  shown-many : (q : ℕ) (v : Value) (fs : List OneFile) → lookup (p + 1) es files_key ≡ under q v → Listed v fs → ShownContent (many_files q (sizes_of fs)) (many fs)
  shown-many q v fs f h = (
    record {
      one = refl;
      files = refl;
      total = refl;
      place = (v, found-has (p + 1) es files_key q v f, stands_at s e q v (found-stands s e (p + 1) start es files_key t q v f));
      each = each_at q h.0 fs (f ∙ ap (under q) h.1) h.2;
    },
    ap place_under (sym f),
  )

  only-length : (q : ℕ) (v : Value) → lookup (p + 1) es length_key ≡ under q v → lookup (p + 1) es files_key ≡ nothing → (n r : ℕ) → NoContent p es n r → NoNumber (UpTo longest_file) q v n r
  only-length q v f g n r (neither h i) = no_way (cc)
  only-length q v f g n r (both a b c d h i) = no_way (cc)
  only-length q v f g n r (wrong-length a b m o h i j) =
      let x : a ≡ q = cc in
      let y : b ≡ v = cc in
      subst (λ (z : ℕ). NoNumber (UpTo longest_file) z v m o) x (subst (λ (z : Value). NoNumber (UpTo longest_file) a z m o) y j)
  only-length q v f g n r (wrong-files a b m o h i j) = no_way (cc)

  only-files : (q : ℕ) (v : Value) → lookup (p + 1) es length_key ≡ nothing → lookup (p + 1) es files_key ≡ under q v → (n r : ℕ) → NoContent p es n r → NoFileList q v n r
  only-files q v f g n r (neither h i) = no_way (cc)
  only-files q v f g n r (both a b c d h i) = no_way (cc)
  only-files q v f g n r (wrong-length a b m o h i j) = no_way (cc)
  only-files q v f g n r (wrong-files a b m o h i j) =
      let x : a ≡ q = cc in
      let y : b ≡ v = cc in
      subst (λ (z : ℕ). NoFileList z v m o) x (subst (λ (z : Value). NoFileList a z m o) y j)

  only-neither : lookup (p + 1) es length_key ≡ nothing → lookup (p + 1) es files_key ≡ nothing → (n r : ℕ) → NoContent p es n r → (n ≡ 10) × (r ≡ p)
  only-neither f g n r (neither h i) = (refl, refl)
  only-neither f g n r (both a b c d h i) = (refl, refl)
  only-neither f g n r (wrong-length a b m o h i j) = no_way (cc)
  only-neither f g n r (wrong-files a b m o h i j) = no_way (cc)

  only-both : (q : ℕ) (v : Value) (o : ℕ) (w : Value) → lookup (p + 1) es length_key ≡ under q v → lookup (p + 1) es files_key ≡ under o w → (n r : ℕ) → NoContent p es n r → (n ≡ 10) × (r ≡ p)
  only-both q v o w f g n r (neither h i) = (refl, refl)
  only-both q v o w f g n r (both a b c d h i) = (refl, refl)
  only-both q v o w f g n r (wrong-length a b m k h i j) = no_way (cc)
  only-both q v o w f g n r (wrong-files a b m k h i j) = no_way (cc)

  neither-has : lookup (p + 1) es length_key ≡ nothing → lookup (p + 1) es files_key ≡ nothing → (fs : TorrentFiles) → HasFiles es fs → ⊥
  neither-has f g fs (by_length n h i) = not-under length_key (int (pos n)) f h.has
  neither-has f g fs (by-files vs l h i j) = not-under files_key (list vs) g h

  both-have : (q : ℕ) (v : Value) (o : ℕ) (w : Value) → lookup (p + 1) es length_key ≡ under q v → lookup (p + 1) es files_key ≡ under o w → (fs : TorrentFiles) → HasFiles es fs → ⊥
  both-have q v o w f g fs (by_length n h i) = i w (found-has (p + 1) es files_key o w g)
  both-have q v o w f g fs (by-files vs l h i j) = j v (found-has (p + 1) es length_key q v f)

  one_has : (q : ℕ) (v : Value) → lookup (p + 1) es length_key ≡ under q v → (fs : TorrentFiles) → HasFiles es fs → (n : ℕ) × Number (UpTo longest_file) v n × ((c : Content) → ShownContent c (single n) → ShownContent c fs)
  one_has q v f fs (by_length n h i) = (n, (same-under length_key q v (int (pos n)) f h.has, h.small), λ c sh. sh)
  one_has q v f fs (by-files vs l h i j) = absurd (j v (found-has (p + 1) es length_key q v f))

  many-have : (q : ℕ) (v : Value) → lookup (p + 1) es files_key ≡ under q v → (fs : TorrentFiles) → HasFiles es fs → (l : List OneFile) × Listed v l × ((c : Content) → ShownMany q c l → ShownContent c fs)
  many-have q v g fs (by_length n h i) = absurd (i v (found-has (p + 1) es files_key q v g))
  many-have q v g fs (by-files vs l h i j) = (l, (vs, same-under files_key q v (list vs) g h, i), λ c sh. subst (λ (z : Content). ShownContent z (many l)) (sym sh) (shown-many q v l g (vs, same-under files_key q v (list vs) g h, i)))

  pub content-checks : Checks (content_of p (lookup (p + 1) es length_key) (lookup (p + 1) es files_key)) (HasFiles es) ShownContent (NoContent p es)
  content-checks = go (lookup (p + 1) es length_key) refl (lookup (p + 1) es files_key) refl
    where
      go : (u : Under) → lookup (p + 1) es length_key ≡ u → (w : Under) → lookup (p + 1) es files_key ≡ w → Checks (content_of p u w) (HasFiles es) ShownContent (NoContent p es)
      go nothing f nothing g = checks-refused (neither-has f g) (neither f g) (only-neither f g)
      go (under q v) f (under o w) g = checks-refused (both-have q v o w f g) (both q v o w f g) (only-both q v o w f g)
      go (under q v) f nothing g =
          checks-as
          (checks-map (one_file q) {Shows' = λ c n. ShownContent c (single n)} (number-checks longest_file q v)
          (λ x n i sh. subst (λ (z : ℕ). ShownContent (one_file q z) (single n)) (sym sh) (shown-one q n (f ∙ ap (under q) i.0))))
          (λ c n h sh. (single n, by_length n (record { has = subst (Has es length_key) h.0 (found-has (p + 1) es length_key q v f); small = h.1 }) (λ w z. not-under files_key w g z), sh))
          (one_has q v f) (λ n r h. wrong-length q v n r f g h) (only-length q v f g)
      go nothing f (under q v) g =
          checks-as (many-checks s e q v (found-stands s e (p + 1) start es files_key t q v g))
          (λ c fs h sh. (
            many fs,
            by-files h.0 fs (subst (Has es files_key) h.1 (found-has (p + 1) es files_key q v g)) h.2 (λ w z. not-under length_key w f z),
            subst (λ (z : Content). ShownContent z (many fs)) (sym sh) (shown-many q v fs g h),
          ))
          (many-have q v g) (λ n r h. wrong-files q v n r f g h) (only-files q v f g)
