-- The checks of info and of the whole, one after the other. Assumes nothing.
use Rattle.std.proofs.Common.{Result, ◌≡◌, refl, sym, ap, ◌∙◌, subst, List, ℕ, ◌+◌, ◌≤◌, arith, length}
use Rattle.refusal.specs.declared.Refusal.{Refusal}
use Rattle.refusal.specs.Paper.{Outcome, taken, refused, then, map}
use Rattle.refusal.specs.declared.Part.{Part}
use Rattle.bencode_scalar.specs.Written.{key_lt}
use Rattle.bencode.specs.Decode.{unless_long}
use Rattle.bencode.specs.Value.{Value, Entries, dict, encode, count, Prev, start}
use Rattle.bencode.specs.Decode.{decode}
use Rattle.bencode.specs.Exact.{Fine}
use Rattle.bencode.proofs.Exact.{taken_fine}
use Rattle.bencode_walk.specs.Walk.{seek_paper}
use Rattle.bencode_walk.specs.Stands.{Stands, StandEntries}
use Rattle.bencode_walk.specs.Lookup.{Under, nothing, under, lookup}
use Rattle.bencode_walk.specs.declared.Sought.{Sought}
use Rattle.bencode_walk.proofs.Standing.{dictionary-stands, fine-stands}
use Rattle.bencode_fields.specs.Looks.{string_of, dictionary_of, needed, sought_from}
use Rattle.bencode_fields.specs.Values.{string_at, dictionary_at, must}
use Rattle.bencode_fields.proofs.Standing.{string-is, dictionary-is}
use Rattle.torrent_metainfo.specs.declared.Known.{Known}
use Rattle.torrent_metainfo.specs.declared.Content.{Content}
use Rattle.torrent_metainfo.specs.declared.Torrent.{Torrent}
use Rattle.torrent_metainfo.specs.Keys.{announce_key, info_key, files_key, length_key, name_key, piece_length_key, pieces_key, Tells, stop_of, place_found}
use Rattle.torrent_metainfo.specs.Noted.{Noted}
use Rattle.torrent_metainfo.specs.Rules.{name_at, content_of, piece_length_at, place_under, sized_of, info_of, info_at, top_of, torrent_of}
use Rattle.torrent_metainfo.specs.Reading.{stopped, read_of}
use Rattle.torrent_metainfo.proofs.Naming.{no_way, moved, not-then}
use Rattle.torrent_metainfo.proofs.Telling.{tells-needed, tells-place, tells-stands, tell-first, tell-second}
use Rattle.torrent_metainfo.proofs.Filing.{opened}
use Rattle.torrent_metainfo.proofs.Sizing.{sized-stopped, piece-legal}

stop-then : {A B : Type 0} (f : A → Outcome B) (o : Outcome A) {r q : ℕ} → refused r q ≡ o → refused r q ≡ then o f
stop-then {A} f o e = ap (λ (x : Outcome A). then x f) e

go-then : {A B : Type 0} (f : A → Outcome B) (o : Outcome A) (x : A) → taken x ≡ o → f x ≡ then o f
go-then {A} f o x e = ap (λ (y : Outcome A). then y f) e

-- ---- the checks of info, in their order

module _ (a : Part) (p : ℕ) (es : Entries) where
  abbrev pub named : Outcome Part
  named = must p (lookup (p + 1) es name_key) name_at

  abbrev pub pieced : Outcome ℕ
  pieced = must p (lookup (p + 1) es piece_length_key) piece_length_at

  abbrev pub hashed : Outcome Part
  hashed = must p (lookup (p + 1) es pieces_key) string_at

  abbrev pub contained : Outcome Content
  contained = content_of p (lookup (p + 1) es length_key) (lookup (p + 1) es files_key)

  abbrev pub after_content : Part → ℕ → Part → Content → Outcome Torrent
  after_content n pl s c = sized_of a (record { from = p; len = length (encode (dict es)) }) n s (place_under (lookup (p + 1) es pieces_key)) pl c

  abbrev pub after_pieces : Part → ℕ → Part → Outcome Torrent
  after_pieces n pl s = then contained (after_content n pl s)

  abbrev pub after_length : Part → ℕ → Outcome Torrent
  after_length n pl = then hashed (after_pieces n pl)

  abbrev pub after_name : Part → Outcome Torrent
  after_name n = then pieced (after_length n)

  pub info-name : (r o : ℕ) → refused r o ≡ named → refused r o ≡ info_of a p es
  unfolding info_of
  info-name r o e = stop-then after_name named e

  module _ (n : Part) (x : taken n ≡ named) where
    pub info-length : (r o : ℕ) → refused r o ≡ pieced → refused r o ≡ info_of a p es
    unfolding info_of
    info-length r o e = stop-then (after_length n) pieced e ∙ go-then after_name named n x

    module _ (pl : ℕ) (y : taken pl ≡ pieced) where
      pub info-pieces : (r o : ℕ) → refused r o ≡ hashed → refused r o ≡ info_of a p es
      unfolding info_of
      info-pieces r o e = stop-then (after_pieces n pl) hashed e ∙ go-then (after_length n) pieced pl y ∙ go-then after_name named n x

      module _ (s : Part) (z : taken s ≡ hashed) where
        rest : after_pieces n pl s ≡ info_of a p es
        unfolding info_of
        rest = go-then (after_pieces n pl) hashed s z ∙ go-then (after_length n) pieced pl y ∙ go-then after_name named n x

        pub info-content : (r o : ℕ) → refused r o ≡ map stopped contained → refused r o ≡ info_of a p es
        info-content r o e = go contained e ∙ rest
          where
            go : (w : Outcome Content) → refused r o ≡ map stopped w → refused r o ≡ then w (after_content n pl s)
            go (taken c) f = no_way (cc)
            go (refused i j) f = moved f

        pub info-sized : (i : Part) (w c : _) → i ≡ record { from = p; len = length (encode (dict es)) } → w ≡ place_under (lookup (p + 1) es pieces_key) → taken c ≡ map stopped contained → sized_of a i n s w pl c ≡ info_of a p es
        info-sized i w c j k e = ap (λ (q : Part). sized_of a q n s w pl c) j ∙ ap (λ (q : ℕ). sized_of a (record { from = p; len = length (encode (dict es)) }) n s q pl c) k ∙ go contained e ∙ rest
          where
            go : (w : Outcome Content) → taken c ≡ map stopped w → after_content n pl s c ≡ then w (after_content n pl s)
            go (taken b) f =
                let g : c ≡ stopped b = cc in
                ap (after_content n pl s) g ∙ sized-stopped a (record { from = p; len = length (encode (dict es)) }) n s (place_under (lookup (p + 1) es pieces_key)) pl b (piece-legal p (lookup (p + 1) es piece_length_key) pl y)
            go (refused i j) f = no_way (cc)

-- ---- what the code learns of info

-- its keys, and where it ends
pub record Informed (s : List ℕ) (p : ℕ) (es : Entries) (k : Known) : Type 0 where
  pub deep : ℕ
  pub levels : deep ≤ 32
  pub noted : Noted s deep p (p + 1) es k

pub informed : (s : List ℕ) (d p first : ℕ) (es : Entries) → d ≤ 32 → Stands s d p (dict es) → first ≡ p + 1 → (k : Known)
    → ((d : ℕ) → (before : Prev) → (ws : Entries) → d ≤ 32 → StandEntries s d first before ws → Noted s d p first ws k) → Informed s p es k
informed s d p first es l t e k h =
    let x = (dictionary-stands s d p es t).1 in
    let g : x.0 ≤ 32 = omega (arith, x.1) in
    let y = h x.0 start es g (subst (λ (q : ℕ). StandEntries s x.0 q start es) (sym e) x.2) in
    record { deep = x.0; levels = g; noted = subst (λ (q : ℕ). Noted s x.0 p q es k) e y }

pub pieces-asked : (s : List ℕ) (p : ℕ) (es : Entries) (k : Known) → Informed s p es k → unless_long s (needed p (seek_paper k.pieces) (string_of s)) ≡ must p (lookup (p + 1) es pieces_key) string_at
pieces-asked s p es k i = tells-needed s i.deep p string_at (lookup (p + 1) es pieces_key) k.pieces i.noted.pieces (string_of s) (λ q v t. string-is s i.deep q v t)

pub pieces-place : (s : List ℕ) (p : ℕ) (es : Entries) (k : Known) → Informed s p es k → place_found k.pieces ≡ place_under (lookup (p + 1) es pieces_key)
pieces-place s p es k i = tells-place s i.deep (lookup (p + 1) es pieces_key) k.pieces i.noted.pieces

-- ---- the whole

module _ (s : List ℕ) (d : ℕ) (before : Prev) (es : Entries) (levels : d ≤ 32) (first : ℕ) (t : StandEntries s d first before es) (one : first ≡ 1) (a i : Result Sought Refusal)
    (e : seek_paper a ≡ sought_from s first announce_key) (f : seek_paper i ≡ sought_from s (stop_of a) info_key) where
  told : Tells s d (lookup 1 es announce_key) a × Tells s d (lookup 1 es info_key) i
  unfolding key_lt
  told =
      let u : StandEntries s d 1 before es = (rw one at t) in
      let x = tell-first s d levels 1 before es u announce_key a (e ∙ ap (λ (q : ℕ). sought_from s q announce_key) one) in
      let y = tell-second s d levels 1 before es u announce_key info_key a i x refl f in
      (x.told, y.told)

  announce-asked : unless_long s (needed 0 (seek_paper a) (string_of s)) ≡ must 0 (lookup 1 es announce_key) string_at
  announce-asked = tells-needed s d 0 string_at (lookup 1 es announce_key) a told.0 (string_of s) (λ q v x. string-is s d q v x)

  pub top-announce : (r o : ℕ) → refused r o ≡ unless_long s (needed 0 (seek_paper a) (string_of s)) → refused r o ≡ top_of es
  unfolding top_of
  top-announce r o h = stop-then (λ b. must 0 (lookup 1 es info_key) (info_at b)) (must 0 (lookup 1 es announce_key) string_at) (h ∙ announce-asked)

  module _ (b : Part) (h : taken b ≡ unless_long s (needed 0 (seek_paper a) (string_of s))) where
    onward : must 0 (lookup 1 es info_key) (info_at b) ≡ top_of es
    unfolding top_of
    onward = go-then (λ b. must 0 (lookup 1 es info_key) (info_at b)) (must 0 (lookup 1 es announce_key) string_at) b (h ∙ announce-asked)

    pub top-info : (r o : ℕ) → refused r o ≡ unless_long s (needed 0 (seek_paper i) (dictionary_of s)) → refused r o ≡ top_of es
    top-info r o g = go (lookup 1 es info_key) told.1 ∙ onward
      where
        by : (q : ℕ) (v : Value) → Stands s d q v → refused r o ≡ dictionary_of s q → refused r o ≡ info_at b q v
        by q v x y = not-then (λ ws. q + 1) (info_of b q) (dictionary_at q v) (y ∙ dictionary-is s d q v x)

        go : (u : Under) → Tells s d u i → refused r o ≡ must 0 u (info_at b)
        go nothing x = moved (g ∙ tells-needed s d 0 (λ q v. dictionary_of s q) nothing i x (dictionary_of s) (λ q v y. refl))
        go (under q v) x = by q v (tells-stands s d q v i x) (g ∙ tells-needed s d 0 (λ q v. dictionary_of s q) (under q v) i x (dictionary_of s) (λ q v y. refl))

    pub top_read : (inside : ℕ) → taken inside ≡ unless_long s (needed 0 (seek_paper i) (dictionary_of s)) → (at : ℕ) → at ≡ place_found i → (o : Outcome Torrent)
        → ((d : ℕ) → (ws : Entries) → d ≤ 32 → Stands s d at (dict ws) → inside ≡ at + 1 → o ≡ info_of b at ws) → o ≡ top_of es
    top_read inside g at v₀ o h = go (lookup 1 es info_key) told.1 ∙ onward
      where
        by : (q : ℕ) (v : Value) → Stands s d q v → at ≡ q → taken inside ≡ dictionary_of s q → o ≡ info_at b q v
        by q v x w y =
            let z = opened s d q v inside x y in
            subst (λ (u : Value). o ≡ info_at b q u) (sym z.1)
            (h d z.0 levels (subst (λ (j : ℕ). Stands s d j (dict z.0)) (sym w) z.2) (z.3 ∙ ap (λ (j : ℕ). j + 1) (sym w)) ∙ ap (λ (j : ℕ). info_of b j z.0) w)

        go : (u : Under) → Tells s d u i → o ≡ must 0 u (info_at b)
        go nothing x = let z : taken inside ≡ refused 10 0 = g ∙ tells-needed s d 0 (λ q v. dictionary_of s q) nothing i x (dictionary_of s) (λ q v y. refl) in no_way (cc)
        go (under q v) x = by q v (tells-stands s d q v i x) (v₀ ∙ tells-place s d (under q v) i x) (g ∙ tells-needed s d 0 (λ q v. dictionary_of s q) (under q v) i x (dictionary_of s) (λ q v y. refl))

module _ (s : List ℕ) where
  pub whole-not : (v : Value) → Fine s v → (r o : ℕ) → refused r o ≡ dictionary_of s 0 → refused r o ≡ torrent_of v
  unfolding torrent_of
  whole-not v f r o e = not-then (λ es. 0 + 1) top_of (dictionary_at 0 v) (e ∙ dictionary-is s 32 0 v (fine-stands s v f))

  pub whole_with : (v : Value) → Fine s v → (first : ℕ) → taken first ≡ dictionary_of s 0 → (o : Outcome Torrent)
      → ((d : ℕ) → (before : Prev) → (es : Entries) → d ≤ 32 → StandEntries s d first before es → first ≡ 1 → o ≡ top_of es) → o ≡ torrent_of v
  unfolding torrent_of
  whole_with v f first e o h =
      let z = opened s 32 0 v first (fine-stands s v f) e in
      let x = (dictionary-stands s 32 0 z.0 z.2).1 in
      subst (λ (u : Value). o ≡ torrent_of u) (sym z.1) (h x.0 start z.0 (omega (arith, x.1)) (subst (λ (q : ℕ). StandEntries s x.0 q start z.0) (sym z.3) x.2) (omega (arith, z.3)))

  pub read-with : (n : ℕ) → taken n ≡ map count (decode s) → (o : Outcome Torrent) → ((v : Value) → Fine s v → o ≡ torrent_of v) → o ≡ read_of s
  read-with n e o h = go (decode s) refl e
    where
      go : (w : Outcome Value) → decode s ≡ w → taken n ≡ map count w → o ≡ then w torrent_of
      go (taken v) f g = h v (taken_fine s v f)
      go (refused i j) f g = no_way (cc)

  pub read-not : (r o : ℕ) → refused r o ≡ map count (decode s) → refused r o ≡ read_of s
  read-not r o e = not-then count torrent_of (decode s) e
