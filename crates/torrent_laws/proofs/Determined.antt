-- What a torrent says is determined by its value. Assumes nothing.
use mathlib.Core.Path.{◌≡◌, refl, sym, ap, subst}
use mathlib.Core.List.{List, [], ◌∷◌}
use Prim.Native.Nat.{ℕ}
use lib.IntN.{pos}
use Rattle.bencode.specs.Value.{Value, Items, Entries, str, int, list, dict, Keeps, KeepsItems, KeepsEntries, Prev, start, last}
use Rattle.bencode_walk.specs.Has.{Has, here, there}
use Rattle.bencode_walk.proofs.Having.{has-found}
use Rattle.torrent_blocks.specs.Rules.{sum}
use Rattle.torrent_metainfo.specs.Keys.{announce_key, info_key, files_key, length_key, name_key, path_key, piece_length_key, pieces_key}
use Rattle.torrent_laws.specs.Torrent.{RoundedUp, OneFile, TorrentFiles, single, many, TorrentSays, lengths_in, string_items, IsFile, AreFiles, no_more, one_more, HasFiles, by_length, by-files, IsInfo, IsTorrent, is-torrent}
use Rattle.torrent_laws.proofs.Names.{no_way}
use Rattle.torrent_laws.proofs.Sizes.{rounded-one}

-- a dictionary has one value under a key, which keeps the limits
module _ (es : Entries) (d : ℕ) (keeps : KeepsEntries es d start) where
  one_value : (k : List ℕ) (v w : Value) → Has es k v → Has es k w → v ≡ w
  one_value k v w h i = let a = has-found 0 es k v d start h keeps in let b = has-found 0 es k w d start i keeps in let e = a.1 in let f = b.1 in cc

  one-string : (k bs cs : List ℕ) → Has es k (str bs) → Has es k (str cs) → bs ≡ cs
  one-string k bs cs h i = let e = one_value k (str bs) (str cs) h i in cc

  one_number : (k : List ℕ) (m n : ℕ) → Has es k (int (pos m)) → Has es k (int (pos n)) → m ≡ n
  one_number k m n h i = let e = one_value k (int (pos m)) (int (pos n)) h i in cc

  one_list : (k : List ℕ) (vs ws : Items) → Has es k (list vs) → Has es k (list ws) → vs ≡ ws
  one_list k vs ws h i = let e = one_value k (list vs) (list ws) h i in cc

has-keeps : (es : Entries) (k : List ℕ) (v : Value) (d : ℕ) (before : Prev) → Has es k v → KeepsEntries es d before → Keeps v d
unfolding Keeps
has-keeps es k v d before (here j w ds) h = h.1
has-keeps es k v d before (there j w ds l u x) h = has-keeps ds l u d (last j) x h.2

strings-tell : (l m : List (List ℕ)) → string_items l ≡ string_items m → l ≡ m
unfolding string_items
strings-tell [] [] e = refl
strings-tell [] (bs ∷ m) e = no_way (cc)
strings-tell (bs ∷ l) [] e = no_way (cc)
strings-tell (bs ∷ l) (cs ∷ m) e = let a : bs ≡ cs = cc in let b = strings-tell l m (cc) in rw (a, b)

one-file : (es : Entries) (d : ℕ) (f g : OneFile) → KeepsEntries es d start → IsFile es f → IsFile es g → f ≡ g
one-file es d f g k h i =
    let a = one_number es d k length_key f.size g.size h.has-length.has i.has-length.has in
    let b = strings-tell f.path g.path (one_list es d k path_key (string_items f.path) (string_items g.path) h.has-path.has i.has-path.has) in
    made f.size g.size f.path g.path a b
  where
    made : (m n : ℕ) (l k : List (List ℕ)) → m ≡ n → l ≡ k → ◌≡◌ {A = OneFile} (record { size = m; path = l }) (record { size = n; path = k })
    made m n l k e f = rw (e, f)

same-files : (vs : Items) (fs gs : List OneFile) (d : ℕ) → KeepsItems vs d → AreFiles vs fs → AreFiles vs gs → fs ≡ gs
unfolding Keeps
same-files vs fs gs d k no_more no_more = refl
same-files vs fs gs d k (one_more es ws f hs i more) (one_more ds us g js h others) =
    let a = one-file es k.0.0 f g k.0.2 i h in
    let b = same-files ws hs js d k.1 more others in
    rw (a, b)

list-keeps : (vs : Items) (d : ℕ) → Keeps (list vs) d → (e : ℕ) × KeepsItems vs e
unfolding Keeps
list-keeps vs d k = (k.0, k.2)

entries-keep : (es : Entries) (d : ℕ) → Keeps (dict es) d → (e : ℕ) × KeepsEntries es e start
unfolding Keeps
entries-keep es d k = (k.0, k.2)

module _ (es : Entries) (d : ℕ) (keeps : KeepsEntries es d start) where
  one-content : (fs gs : TorrentFiles) → HasFiles es fs → HasFiles es gs → fs ≡ gs
  one-content fs gs (by_length n h i) (by_length m j k) = ap single (one_number es d keeps length_key n m h.has j.has)
  one-content fs gs (by_length n h i) (by-files vs l j k o) = absurd (i (list vs) j)
  one-content fs gs (by-files vs l j k o) (by_length n h i) = absurd (i (list vs) j)
  one-content fs gs (by-files vs l j k o) (by-files ws m h i q) =
      let e = one_list es d keeps files_key vs ws j h in
      let x = list-keeps vs d (has-keeps es files_key (list vs) d start j keeps) in
      ap many (same-files vs l m x.0 x.1 k (subst (λ (z : Items). AreFiles z m) (sym e) i))

  one-info : (t u : TorrentSays) → IsInfo es t → IsInfo es u → (t.name ≡ u.name) × (t.piece-length ≡ u.piece-length) × (t.pieces ≡ u.pieces) × (t.count ≡ u.count) × (t.files ≡ u.files)
  one-info t u h i =
      let p = one_number es d keeps piece_length_key t.piece-length u.piece-length h.has-piece-length.has i.has-piece-length.has in
      let f = one-content t.files u.files h.has-files i.has-files in (
        one-string es d keeps name_key t.name u.name h.has-name.has i.has-name.has,
        p,
        one-string es d keeps pieces_key t.pieces u.pieces h.has-pieces i.has-pieces,
        counts t.piece-length u.piece-length t.files u.files t.count u.count p f h.sized.counted i.sized.counted,
        f,
      )
    where
      counts : (m n : ℕ) (fs gs : TorrentFiles) (j k : ℕ) → m ≡ n → fs ≡ gs → RoundedUp (sum (lengths_in fs)) m j → RoundedUp (sum (lengths_in gs)) n k → j ≡ k
      counts m n fs gs j k e f a b =
          rounded-one (sum (lengths_in gs)) n j k (subst (λ (z : ℕ). RoundedUp (sum (lengths_in gs)) z j) e (subst (λ (z : TorrentFiles). RoundedUp (sum (lengths_in z)) m j) f a)) b

made : (a b : List ℕ) (i j : Entries) (n m : List ℕ) (p q : ℕ) (x y : List ℕ) (c k : ℕ) (f g : TorrentFiles) → a ≡ b → i ≡ j → n ≡ m → p ≡ q → x ≡ y → c ≡ k → f ≡ g
    → ◌≡◌ {A = TorrentSays} (record { announce = a; info = i; name = n; piece-length = p; pieces = x; count = c; files = f }) (record { announce = b; info = j; name = m; piece-length = q; pieces = y; count = k; files = g })
made a b i j n m p q x y c k f g e₁ e₂ e₃ e₄ e₅ e₆ e₇ = rw (e₁, e₂, e₃, e₄, e₅, e₆, e₇)

one-said : (es : Entries) (d : ℕ) (t u : TorrentSays) → KeepsEntries es d start → Has es announce_key (str t.announce) → Has es announce_key (str u.announce) → Has es info_key (dict t.info) → Has es info_key (dict u.info)
    → IsInfo t.info t → IsInfo u.info u → t ≡ u
one-said es d t u k a b i j x y =
    let e : dict t.info ≡ dict u.info = one_value es d k info_key (dict t.info) (dict u.info) i j in
    let f : t.info ≡ u.info = cc in
    let w = entries-keep t.info d (has-keeps es info_key (dict t.info) d start i k) in
    let r = one-info t.info w.0 w.1 t u x (subst (λ (z : Entries). IsInfo z u) (sym f) y) in
    made t.announce u.announce t.info u.info t.name u.name t.piece-length u.piece-length t.pieces u.pieces t.count u.count t.files u.files
    (one-string es d k announce_key t.announce u.announce a b) f r.0 r.1 r.2 r.3 r.4

-- a value that keeps bencode's limits is a torrent in one way
pub said-determined : (v : Value) (d : ℕ) (t u : TorrentSays) → Keeps v d → IsTorrent v t → IsTorrent v u → t ≡ u
said-determined v d t u k (is-torrent es x a i h) y = go (dict es) refl k y
  where
    go : (w : Value) → w ≡ dict es → Keeps w d → IsTorrent w u → x ≡ u
    go w e k (is-torrent ds z b j l) =
        let f : ds ≡ es = cc in
        let m = entries-keep es d (subst (λ (q : Entries). Keeps (dict q) d) f k) in
        one-said es m.0 x z m.1 a (subst (λ (q : Entries). Has q announce_key (str z.announce)) f b) i (subst (λ (q : Entries). Has q info_key (dict z.info)) f j) h l
