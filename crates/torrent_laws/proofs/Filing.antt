-- The checks of files. Assumes nothing.
use mathlib.Core.Path.{◌≡◌, refl, sym, ap, ◌∙◌, subst}
use mathlib.Core.Logic.{◌⊎◌, inl, inr}
use mathlib.Core.List.{List, [], ◌∷◌}
use Prim.Native.Nat.{ℕ, ◌+◌, ◌≤◌}
use lib.IntN.{pos}
use lib.ListN.{length}
use Rattle.refusal.specs.Limits.{longest_file}
use Rattle.bencode.specs.Value.{Value, Items, Entries, int, list, dict, none, item, encode, start}
use Rattle.bencode_walk.specs.Stands.{Stands, StandItems, StandEntries}
use Rattle.bencode_walk.specs.Lookup.{lookup}
use Rattle.bencode_walk.specs.Has.{Has}
use Rattle.bencode_walk.proofs.Standing.{items-next, dictionary-stands}
use Rattle.torrent_metainfo.specs.Keys.{length_key, path_key}
use Rattle.torrent_metainfo.specs.Rules.{file_in, file_of, lengths_of}
use Rattle.torrent_metainfo.specs.declared.File.{File}
use Rattle.torrent_metainfo.proofs.Filing.{file-stands}
use Rattle.torrent_laws.specs.Torrent.{string_items, OneFile, sizes_of, HasPath, IsFile, AreFiles, no_more, one_more}
use Rattle.torrent_laws.specs.Exact.{PathAt, FilesAt, none_left, file-at}
use Rattle.torrent_laws.specs.Causes.{NoPath, NoFile, no-dictionary, bad-length, bad-path, NoFiles, this-file, later-file}
use Rattle.bencode_fields.specs.Causes.{Lacks, Other, other, NoNumber, UpTo}
use Rattle.bencode_fields.proofs.Checks.{Checks, checks-taken, checks-as, checks-then, checks-of, checks-map, checks-last}
use Rattle.bencode_fields.proofs.Typed.{number-checks, dictionary-checks, kind-checks, checks-must, number-under}
use Rattle.torrent_laws.proofs.Paths.{Pathed, path-checks}

-- a file that is handed back, of which q is the place past it
abbrev pub ShownFile : List ℕ → ℕ → File → OneFile → Type 0
ShownFile s q x f = (x.length ≡ f.size) × (x.next ≡ q) × PathAt s x.path f.path

-- a length and a path under their keys
abbrev LengthIs : Entries → ℕ → Type 0
LengthIs es n = Has es length_key (int (pos n)) × (n ≤ longest_file)

abbrev PathIs : Entries → List (List ℕ) → Type 0
PathIs es l = (v : Value) × Has es path_key v × Pathed v l

path-has : (es : Entries) (l : List (List ℕ)) → PathIs es l → HasPath es l
path-has es l (v, h, (vs, e, (f, some, good))) = record { has = subst (Has es path_key) (e ∙ ap list f) h; some = some; good = good }

-- why a dictionary is no file
abbrev BadFile : ℕ → Entries → ℕ → ℕ → Type 0
BadFile p es n q = Lacks p (lookup (p + 1) es length_key) (NoNumber (UpTo longest_file)) n q ⊎ ((m : ℕ) × LengthIs es m × Lacks p (lookup (p + 1) es path_key) NoPath n q)

file-bad : (p : ℕ) (es : Entries) (n q : ℕ) → BadFile p es n q → NoFile p (dict es) n q
file-bad p es n q (inl h) = bad-length es n q h
file-bad p es n q (inr (m, i, h)) = bad-path es m n q (record { has = i.0; small = i.1 }) h

bad-file : (p : ℕ) (es : Entries) (n q : ℕ) → NoFile p (dict es) n q → BadFile p es n q
bad-file p es n q (no-dictionary v h) = absurd (h es refl)
bad-file p es n q (bad-length ds m r h) = inl h
bad-file p es n q (bad-path ds k m r g h) = inr (k, (g.has, g.small), h)

file-kind : (p : ℕ) (v : Value) (n q : ℕ) → NoFile p v n q → Other dict p v n q ⊎ ((es : Entries) × (v ≡ dict es))
file-kind p v n q (no-dictionary w h) = inl (other w h)
file-kind p v n q (bad-length es m r h) = inr (es, refl)
file-kind p v n q (bad-path es k m r g h) = inr (es, refl)

-- the value is that file
abbrev Filed : Value → OneFile → Type 0
Filed v f = (es : Entries) × (v ≡ dict es) × IsFile es f

module _ (s : List ℕ) where
  entries-checks : (e p q : ℕ) (es : Entries) → StandEntries s e (p + 1) start es → Checks (file_in p q es) (IsFile es) (ShownFile s q) (NoFile p (dict es))
  entries-checks e p q es t =
      checks-as
      (checks-of (number-under p t length_key (number-checks longest_file))
      (λ n i. checks-last (λ a. record { length = n; path = a; next = q }) {Shows' = λ y l. ShownFile s q y (record { size = n; path = l })} (checks-must p t path_key (path-checks s e)) (λ a l j u. (refl, refl, u))))
      (λ x k h sh. (record { size = k.0; path = k.1 }, record { has-length = record { has = h.0.0; small = h.0.1 }; has-path = path-has es k.1 h.1 }, sh))
      (λ f h. (
        (f.size, f.path),
        ((h.has-length.has, h.has-length.small), (list (string_items f.path), h.has-path.has, (string_items f.path, refl, (refl, h.has-path.some, h.has-path.good)))),
        λ x sh. sh,
      ))
      (file-bad p es) (bad-file p es)

  file-checks : (d p : ℕ) (v : Value) → Stands s d p v → Checks (file_of p v) (Filed v) (ShownFile s (p + length (encode v))) (NoFile p v)
  unfolding file_of
  file-checks d p v t =
      kind-checks (NoFile p) (dictionary-checks p v) (λ es f. let g = (dictionary-stands s d p es (subst (Stands s d p) f t)).1 in entries-checks g.0 p (p + length (encode v)) es g.2) (no-dictionary v) (file-kind p v)

-- ---- the files of a list

no-files : (p n q : ℕ) → NoFiles p none n q → ⊥
no-files p n q h = elim h [ ]

none-files : (fs : List OneFile) → AreFiles none fs → fs ≡ []
none-files fs no_more = refl

abbrev SomeBad : ℕ → Value → Items → ℕ → ℕ → Type 0
SomeBad p v vs n q = NoFile p v n q ⊎ ((f : OneFile) × Filed v f × NoFiles (p + length (encode v)) vs n q)

by-file : (p : ℕ) (v : Value) (vs : Items) (n q : ℕ) → NoFiles p (item v vs) n q → SomeBad p v vs n q
by-file p v vs n q (this-file o w ws m r h) = inl h
by-file p v vs n q (later-file o es ws f m r g h) = inr (f, (es, refl, g), h)

file-by : (p : ℕ) (v : Value) (vs : Items) (n q : ℕ) → SomeBad p v vs n q → NoFiles p (item v vs) n q
file-by p v vs n q (inl h) = this-file p v vs n q h
file-by p v vs n q (inr h) =
    subst (λ (w : Value). NoFiles p (item w vs) n q) (sym h.1.1)
    (later-file p h.1.0 vs h.0 n q h.1.2 (subst (λ (w : Value). NoFiles (p + length (encode w)) vs n q) h.1.1 h.2))

abbrev FirstAndRest : Value → Items → OneFile × List OneFile → Type 0
FirstAndRest v vs k = Filed v k.0 × AreFiles vs k.1

joined : (v : Value) (vs : Items) (k : OneFile × List OneFile) → FirstAndRest v vs k → AreFiles (item v vs) (k.0 ∷ k.1)
joined v vs k h = subst (λ (w : Value). AreFiles (item w vs) (k.0 ∷ k.1)) (sym h.0.1) (one_more h.0.0 vs k.0 k.1 h.0.2 h.1)

-- the lengths that are handed back
abbrev pub ShownLengths : List ℕ → List OneFile → Type 0
ShownLengths ns fs = ns ≡ sizes_of fs

parted : (v : Value) (vs : Items) (fs : List OneFile) → AreFiles (item v vs) fs → (k : OneFile × List OneFile) × FirstAndRest v vs k × ((ns : List ℕ) → ShownLengths ns (k.0 ∷ k.1) → ShownLengths ns fs)
parted v vs fs (one_more es ws f gs i h) = ((f, gs), ((es, refl, i), h), λ ns sh. sh)

module _ (s : List ℕ) where
  pub files-checks : (d p : ℕ) (vs : Items) → StandItems s d p vs → Checks (lengths_of p vs) (AreFiles vs) ShownLengths (NoFiles p vs)
  unfolding lengths_of sizes_of
  files-checks d p none t = checks-taken [] no_more refl none-files (no-files p)
  files-checks d p (item v vs) t =
      let i = items-next s d p v vs t in
      checks-as
      (checks-then (file-checks s d p v i.0)
      (λ x f j sh. checks-map (λ ns. x.length ∷ ns) {Shows' = λ ns fs. ShownLengths ns (f ∷ fs)}
      (subst (λ (q : ℕ). Checks (lengths_of q vs) (AreFiles vs) ShownLengths (NoFiles (p + length (encode v)) vs)) (sym sh.1) (files-checks d (p + length (encode v)) vs i.1))
      (λ ns fs k e. let a = sh.0 in rw (a, e))))
      (λ ns k h sh. (k.0 ∷ k.1, joined v vs k h, sh)) (parted v vs) (file-by p v vs) (by-file p v vs)

  -- the files of a list, one after the other
  pub files-at : (d p : ℕ) (vs : Items) (fs : List OneFile) → d ≤ 32 → StandItems s d p vs → AreFiles vs fs → FilesAt s p fs
  files-at d p vs fs low t no_more = none_left p
  files-at d p vs fs low t (one_more es ws f gs i more) =
      let j = items-next s d p (dict es) ws t in
      let h = (file-checks s d p (dict es) j.0).every f (es, refl, i) in
      file-at p h.0 f gs (file-stands s p d (dict es) low j.0 ∙ h.1) h.2.0 h.2.2
      (subst (λ (q : ℕ). FilesAt s q gs) (sym h.2.1) (files-at d (p + length (encode (dict es))) ws gs low j.1 more))
