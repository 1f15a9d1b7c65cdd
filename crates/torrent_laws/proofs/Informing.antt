-- The checks of info, and of the whole. Assumes nothing.
use mathlib.Core.Path.{◌≡◌, refl, sym, ap, ◌∙◌, subst}
use mathlib.Core.Logic.{◌⊎◌, inl, inr}
use mathlib.Core.List.{List}
use Prim.Native.Nat.{ℕ, ◌+◌, ◌≤◌}
use native.Mathlib.Omega.{arith}
use lib.ListN.{length}
use Rattle.refusal.specs.Parts.{bytes_at}
use Rattle.refusal.specs.declared.Part.{Part}
use Rattle.bencode.specs.Value.{Value, Entries, str, dict, encode, start}
use Rattle.bencode_walk.specs.Stands.{Stands, StandEntries}
use Rattle.bencode_walk.specs.Lookup.{lookup}
use Rattle.bencode_walk.specs.Has.{Has}
use Rattle.bencode_walk.proofs.Standing.{dictionary-stands}
use Rattle.bencode_fields.specs.Values.{must}
use Rattle.torrent_blocks.specs.Rules.{PieceLength}
use Rattle.torrent_metainfo.specs.Keys.{announce_key, info_key, name_key, piece_length_key, pieces_key}
use Rattle.torrent_metainfo.specs.Rules.{name_at, piece_length_at, place_under, sized_of, info_of, info_at, top_of, torrent_of}
use Rattle.torrent_metainfo.specs.declared.Content.{Content}
use Rattle.torrent_laws.specs.Torrent.{TorrentFiles, TorrentSays, lengths_in, HasName, HasPieceLength, HasFiles, GoodSizes, IsInfo, IsTorrent, is-torrent}
use Rattle.torrent_laws.specs.Exact.{files_under, ShowsTorrent}
use Rattle.torrent_laws.specs.Causes.{NoName, NoContent, BadSizes, NoInfo, info-name, info-piece-length, info-pieces, info-content, info-sizes, NoInfoAt, no-info-dictionary, no-info, NoTorrent, no_top, bad-announce, bad-info}
use Rattle.bencode_fields.specs.Causes.{Lacks, Other, other, NoString, NoNumber}
use Rattle.bencode_fields.proofs.Checks.{Checks, Same, checks-as, checks-is, checks-shows, checks-then, checks-of}
use Rattle.bencode_fields.proofs.Typed.{Shown, dictionary-checks, kind-checks, checks-must, string-under, number-under}
use Rattle.torrent_laws.proofs.Values.{piece-checks, name-checks}
use Rattle.torrent_laws.proofs.Sizes.{sized-checks}
use Rattle.torrent_laws.proofs.Contents.{stands_at, ShownContent, content-checks}

-- what info says, with announce
abbrev pub saying : List ℕ → Entries → List ℕ → ℕ → List ℕ → TorrentFiles → ℕ → TorrentSays
saying an es bs m hs fs k = record { announce = an; info = es; name = bs; piece-length = m; pieces = hs; count = k; files = fs }

-- what is said is said of this dictionary, with this announce
abbrev InfoSays : List ℕ → Entries → TorrentSays → Type 0
InfoSays an es x = (x.info ≡ es) × (x.announce ≡ an) × IsInfo es x

-- ---- one key

module _ {s : List ℕ} {e p : ℕ} (d : ℕ) {es : Entries} (t : StandEntries s e p start es) where
  name-under : Checks (must d (lookup p es name_key) name_at) (HasName es) (Shown s) (Lacks d (lookup p es name_key) NoName)
  name-under = checks-is (checks-must d t name_key (name-checks s e)) (λ bs h. record { has = subst (Has es name_key) h.2.0 h.1; good = h.2.1 }) (λ bs h. (str bs, h.has, (refl, h.good)))

  piece-under : Checks (must d (lookup p es piece_length_key) piece_length_at) (HasPieceLength es) Same (Lacks d (lookup p es piece_length_key) (NoNumber PieceLength))
  piece-under = checks-is (number-under d t piece_length_key piece-checks) (λ n h. record { has = h.0; power = h.1 }) (λ n h. (h.has, h.power))

-- ---- why a dictionary is no info

module _ (p : ℕ) (es : Entries) where
  abbrev Sizes : ℕ → List ℕ → TorrentFiles → ℕ → ℕ → Type 0
  Sizes m hs fs = BadSizes (lengths_in fs) m hs (place_under (lookup (p + 1) es (files_under fs))) (place_under (lookup (p + 1) es pieces_key))

  -- the name, the piece length, the pieces, the content, the sizes
  abbrev BadInfo : ℕ → ℕ → Type 0
  BadInfo n q =
      Lacks p (lookup (p + 1) es name_key) NoName n q
      ⊎ ((bs : List ℕ) × HasName es bs × (Lacks p (lookup (p + 1) es piece_length_key) (NoNumber PieceLength) n q
      ⊎ ((m : ℕ) × HasPieceLength es m × (Lacks p (lookup (p + 1) es pieces_key) NoString n q
      ⊎ ((hs : List ℕ) × Has es pieces_key (str hs) × (NoContent p es n q ⊎ ((fs : TorrentFiles) × HasFiles es fs × Sizes m hs fs n q)))))))

  info-bad : (n q : ℕ) → BadInfo n q → NoInfo p es n q
  info-bad n q (inl h) = info-name n q h
  info-bad n q (inr (bs, i, inl h)) = info-piece-length bs n q i h
  info-bad n q (inr (bs, i, inr (m, j, inl h))) = info-pieces bs m n q i j h
  info-bad n q (inr (bs, i, inr (m, j, inr (hs, k, inl h)))) = info-content bs m hs n q i j k h
  info-bad n q (inr (bs, i, inr (m, j, inr (hs, k, inr (fs, l, h))))) = info-sizes bs m hs fs n q i j k l h

  bad-by : (n q : ℕ) → NoInfo p es n q → BadInfo n q
  bad-by n q (info-name o r h) = inl h
  bad-by n q (info-piece-length bs o r i h) = inr (bs, i, inl h)
  bad-by n q (info-pieces bs m o r i j h) = inr (bs, i, inr (m, j, inl h))
  bad-by n q (info-content bs m hs o r i j k h) = inr (bs, i, inr (m, j, inr (hs, k, inl h)))
  bad-by n q (info-sizes bs m hs fs o r i j k l h) = inr (bs, i, inr (m, j, inr (hs, k, inr (fs, l, h))))

-- ---- info, whose dictionary stands at p; the part a is announce

module _ (s : List ℕ) (e p : ℕ) (es : Entries) (t : StandEntries s e (p + 1) start es) (low : e ≤ 32) (whole : bytes_at s (record { from = p; len = length (encode (dict es)) }) ≡ encode (dict es)) (a : Part) (an : List ℕ) (first : bytes_at s a ≡ an) where
  sizes : (n x : Part) (bs hs : List ℕ) (m : ℕ) (c : Content) (fs : TorrentFiles) → Shown s n bs → Shown s x hs → PieceLength m → ShownContent s e p es t low c fs
      → Checks (sized_of a (record { from = p; len = length (encode (dict es)) }) n x (place_under (lookup (p + 1) es pieces_key)) m c) (GoodSizes (lengths_in fs) m hs) (λ y k. ShowsTorrent s y (saying an es bs m hs fs k)) (Sizes p es m hs fs)
  sizes n x bs hs m c fs hn hx w hc =
      checks-shows
      (subst (λ (q : ℕ). Checks (sized_of a (record { from = p; len = length (encode (dict es)) }) n x (place_under (lookup (p + 1) es pieces_key)) m c) (GoodSizes (lengths_in fs) m hs)
      (λ y k. y ≡ record { announce = a; info = record { from = p; len = length (encode (dict es)) }; name = n; pieces = x; piece_length = m; piece_count = k; content = c })
      (BadSizes (lengths_in fs) m hs q (place_under (lookup (p + 1) es pieces_key)))) hc.1
      (sized-checks a (record { from = p; len = length (encode (dict es)) }) n x (place_under (lookup (p + 1) es pieces_key)) m c (lengths_in fs) hs hc.0.files hc.0.total hx.1 w))
      (λ y k i h. subst (λ z. ShowsTorrent s z (saying an es bs m hs fs k)) (sym h) (record { announce = first; info = whole; name = hn.0; pieces = hx.0; piece-length = refl; count = refl; files = hc.0 }))

  info-checks : Checks (info_of a p es) (InfoSays an es) (ShowsTorrent s) (NoInfo p es)
  unfolding info_of
  info-checks =
      checks-as
      (checks-then (name-under p t)
      (λ n bs i hn. checks-of (piece-under p t)
      (λ m w. checks-then (string-under p t pieces_key)
      (λ x hs j hx. checks-then (content-checks s e p es t low)
      (λ c fs l hc. sizes n x bs hs m c fs hn hx w.power hc)))))
      (λ y k h sh. (
        saying an es k.0 k.1.0 k.1.1.0 k.1.1.1.0 k.1.1.1.1,
        (refl, refl, record { has-name = h.0; has-piece-length = h.1.0; has-pieces = h.1.1.0; has-files = h.1.1.1.0; sized = h.1.1.1.1 }),
        sh,
      ))
      (λ x h. (
        (x.name, (x.piece-length, (x.pieces, (x.files, x.count)))),
        (h.2.has-name, (h.2.has-piece-length, (h.2.has-pieces, (h.2.has-files, h.2.sized)))),
        λ y sh. subst (λ (z : List ℕ). ShowsTorrent s y (saying z x.info x.name x.piece-length x.pieces x.files x.count)) (sym h.1)
            (subst (λ (z : Entries). ShowsTorrent s y (saying an z x.name x.piece-length x.pieces x.files x.count)) (sym h.0) sh),
      ))
      (info-bad p es) (bad-by p es)

-- ---- the value under info

abbrev InfoIs : List ℕ → Value → TorrentSays → Type 0
InfoIs an v x = (es : Entries) × (v ≡ dict es) × InfoSays an es x

info-kind : (q : ℕ) (v : Value) (n p : ℕ) → NoInfoAt q v n p → Other dict q v n p ⊎ ((es : Entries) × (v ≡ dict es))
info-kind q v n p (no-info-dictionary w h) = inl (other w h)
info-kind q v n p (no-info es m r h) = inr (es, refl)

only-info : (q : ℕ) (es : Entries) (n p : ℕ) → NoInfoAt q (dict es) n p → NoInfo q es n p
only-info q es n p (no-info-dictionary v h) = absurd (h es refl)
only-info q es n p (no-info ds m r h) = h

value-checks : (s : List ℕ) (a : Part) (an : List ℕ) → bytes_at s a ≡ an → (d q : ℕ) (v : Value) → d ≤ 32 → Stands s d q v → Checks (info_at a q v) (InfoIs an v) (ShowsTorrent s) (NoInfoAt q v)
value-checks s a an first d q v low t =
    kind-checks (NoInfoAt q) (dictionary-checks q v)
    (λ es f. let u = subst (Stands s d q) f t in let g = (dictionary-stands s d q es u).1 in
    checks-as (info-checks s g.0 q es g.2 (omega (arith, g.1)) (stands_at s d q (dict es) u) a an first)
    (λ y x h sh. (x, h, sh)) (λ x h. (x, h, λ y sh. sh)) (λ n p h. no-info es n p h) (only-info q es))
    (no-info-dictionary v) (info-kind q v)

-- ---- the whole

abbrev BadTop : Entries → ℕ → ℕ → Type 0
BadTop es n q = Lacks 0 (lookup 1 es announce_key) NoString n q ⊎ ((bs : List ℕ) × Has es announce_key (str bs) × Lacks 0 (lookup 1 es info_key) NoInfoAt n q)

top-bad : (es : Entries) (n q : ℕ) → BadTop es n q → NoTorrent (dict es) n q
top-bad es n q (inl h) = bad-announce es n q h
top-bad es n q (inr (bs, i, h)) = bad-info es bs n q i h

bad-top : (es : Entries) (n q : ℕ) → NoTorrent (dict es) n q → BadTop es n q
bad-top es n q (no_top v h) = absurd (h es refl)
bad-top es n q (bad-announce ds m r h) = inl h
bad-top es n q (bad-info ds bs m r i h) = inr (bs, i, h)

top-kind : (v : Value) (n q : ℕ) → NoTorrent v n q → Other dict 0 v n q ⊎ ((es : Entries) × (v ≡ dict es))
top-kind v n q (no_top w h) = inl (other w h)
top-kind v n q (bad-announce es m r h) = inr (es, refl)
top-kind v n q (bad-info es bs m r i h) = inr (es, refl)

-- what is said, by announce and info
abbrev Parts : Entries → List ℕ × TorrentSays → Type 0
Parts es k = Has es announce_key (str k.0) × ((v : Value) × Has es info_key v × InfoIs k.0 v k.1)

parts_are : (es : Entries) (k : List ℕ × TorrentSays) → Parts es k → IsTorrent (dict es) k.1
parts_are es k (h, (v, i, (ds, e, (f, g, j)))) =
    is-torrent es k.1 (subst (λ (bs : List ℕ). Has es announce_key (str bs)) (sym g) h) (subst (Has es info_key) (e ∙ ap dict (sym f)) i) (subst (λ (z : Entries). IsInfo z k.1) (sym f) j)

are-parts : (es : Entries) (x : TorrentSays) → IsTorrent (dict es) x → Parts es (x.announce, x)
are-parts es x (is-torrent ds y h i j) = (h, (dict y.info, i, (y.info, refl, (refl, refl, j))))

torrent-of : (v : Value) (x : TorrentSays) → IsTorrent v x → (es : Entries) × (v ≡ dict es) × IsTorrent (dict es) x
torrent-of v x (is-torrent es y h i j) = (es, refl, is-torrent es y h i j)

top-checks : (s : List ℕ) (e : ℕ) (es : Entries) → e ≤ 32 → StandEntries s e 1 start es → Checks (top_of es) (IsTorrent (dict es)) (ShowsTorrent s) (NoTorrent (dict es))
unfolding top_of
top-checks s e es low t =
    checks-as (checks-then (string-under 0 t announce_key) (λ a an i sh. checks-must 0 t info_key (λ q v u. value-checks s a an sh.0 e q v low u)))
    (λ y k h sh. (k.1, parts_are es k h, sh)) (λ x h. ((x.announce, x), are-parts es x h, λ y sh. sh)) (top-bad es) (bad-top es)

pub torrent-checks : (s : List ℕ) (v : Value) → Stands s 32 0 v → Checks (torrent_of v) (IsTorrent v) (ShowsTorrent s) (NoTorrent v)
unfolding torrent_of
torrent-checks s v t =
    checks-is
    (kind-checks NoTorrent (dictionary-checks 0 v) (λ es f. let g = (dictionary-stands s 32 0 es (subst (Stands s 32 0) f t)).1 in top-checks s g.0 es (omega (arith, g.1)) g.2) (no_top v) (top-kind v))
    (λ x h. subst (λ (w : Value). IsTorrent w x) (sym h.1) h.2) (torrent-of v)
