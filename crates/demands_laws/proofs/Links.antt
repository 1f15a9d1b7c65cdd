-- Links read and written, said of the bytes and the values, and the numbers of the three calls. Assumes nothing.
use mathlib.Core.Path.{◌≡◌, refl, sym, ap, ◌∙◌, subst}
use mathlib.Core.Logic.Iff
use mathlib.Core.Logic.{◌⊎◌, inl, inr, ⊎_elim, ◌↔◌}
use mathlib.Core.List.{List, ◌++◌}
use Prim.Native.Nat.{ℕ, ◌≤◌, ◌<◌}
use native.Mathlib.Omega.{arith}
use borrow.Author.Tests.{lt-ltb, le-ltb}
use lib.ListN.{length, take, drop}
use lib.Seq.{sets, take_at}
use Rattle.refusal.specs.BigEndian.{Bytes}
use Rattle.refusal.specs.Limits.{most_text}
use Rattle.refusal.specs.Numbers as no
use Rattle.refusal.specs.Paper.{Outcome, taken, refused, map, then}
use Rattle.refusal.specs.Parts.{bytes_at}
use Rattle.refusal.specs.declared.Part.{Part}
use Rattle.refusal.proofs.Cases.{less-or}
use Rattle.refusal.proofs.Outcomes.{not_taken, not-refused, same-refusal, then-taken, map-taken}
use Rattle.refusal.proofs.Places.{bytes_take, bytes_drop}
use Rattle.bencode.specs.Value.{Value, dict, encode}
use Rattle.bencode.specs.Decode.{decode}
use Rattle.bencode_laws.proofs.Laws.{Numbered}
use Rattle.bencode_writer.specs.Put.{puts}
use Rattle.bencode_writer.proofs.Puts.{put_front, put-taken, NoRoom, puts-refused, puts-taken}
use Rattle.hash_sha1.specs.Sha1.{sha1}
use Rattle.hash_sha1.proofs.Determined.{digest-length}
use Rattle.torrent_metainfo.specs.Reading.{read_of}
use Rattle.torrent_metainfo.specs.declared.Torrent.{Torrent}
use Rattle.torrent_laws.specs.Torrent.{TorrentSays, IsTorrent}
use Rattle.torrent_laws.proofs.Laws as torrents
use Rattle.links.specs.Link.{Said, absent, said, Meaning}
use Rattle.links_laws.specs.Form.{IsLink}
use Rattle.links_laws.specs.Causes.{Fault}
use Rattle.links.specs.Reading.{size_of, stored_in, given_of, Sizes, sizes_of, Left, left, left_of}
use Rattle.links.specs.Writing.{link_text, unless_long, written_of, write_of}
use Rattle.links.proofs.Answers as answers
use Rattle.links_laws.proofs.Back.{written-is-link}
use Rattle.links_laws.proofs.Laws as links
use Rattle.demands_laws.specs.Texts.{Encodes, link_of, bytes_in}
use Rattle.demands_laws.proofs.Refusals.{first_of, second-of, given, same_answer, refusal_is, map-refused, then-refused}
use Rattle.demands_laws.proofs.Texts.{torrent-exact, torrent-shown}

neither : {A B : Type 0} → (A → ⊥) → (B → ⊥) → (A ⊎ B) → ⊥
neither f g (inl a) = f a
neither f g (inr b) = g b

or_else : {A B C : Type 0} → B ↔ C → (A ⊎ B) ↔ (A ⊎ C)
or_else {A} {B} {C} f = (⊎_elim (λ (a : A). inl a) (λ (b : B). inr (f.0 b)), ⊎_elim (λ (a : A). inl a) (λ (c : C). inr (f.1 c)))

part_bytes : (s : List ℕ) (p : Part) → Bytes s → Bytes (bytes_at s p)
part_bytes s p h = bytes_take p.len (drop p.from s) (bytes_drop p.from s h)

-- what the link of a torrent says
abbrev meaning : TorrentSays → Meaning
meaning t = record { hash = sha1 (encode (dict t.info)); name = said t.name; address = said t.announce }

-- ---- reading

-- a refusal of the reader, in the place of its answer
pub read_answer : {r x : Outcome Sizes} {h d t : List ℕ} {l : Left} → left r h d t ≡ l → r ≡ x ↔ l.answer ≡ x
read_answer c = same_answer (ap (λ (y : Left). y.answer) c)

-- what an output holds: the bytes that are said, and the rest as it was
stored : (v : Said) (o : List ℕ) → size_of v ≤ length o → stored_in v o ≡ bytes_in v ++ drop (size_of v) o
stored absent o l = refl
stored (said bs) o l = put_front bs o l

module _ (s h d t : List ℕ) where
  pub exact : ((x : Sizes) × ((left_of s h d t).answer ≡ taken x)) ↔ ((m : Meaning) × (length s ≤ most_text) × IsLink s m × (size_of m.name ≤ length d) × (size_of m.address ≤ length t))
  exact = links.left-exact s h d t

  pub fields : {r : Outcome Sizes} {h₁ d₁ t₁ : List ℕ} → left r h₁ d₁ t₁ ≡ left_of s h d t → (x : Sizes) → r ≡ taken x → (m : Meaning) → IsLink s m
      → (x.name ≡ given_of m.name) × (x.address ≡ given_of m.address) × (h₁ ≡ m.hash) × (d₁ ≡ bytes_in m.name ++ drop (size_of m.name) d) × (t₁ ≡ bytes_in m.address ++ drop (size_of m.address) t)
  fields c x e m i =
      let (a, b, q) = links.left-said s h d t x ((read_answer c).0 e) m i in
      let y = c ∙ q in
      let z : taken x ≡ taken (sizes_of m) = sym e ∙ ap (λ (k : Left). k.answer) y in
      let k : x ≡ sizes_of m = cc in (
        ap (λ (n : Sizes). n.name) k,
        ap (λ (n : Sizes). n.address) k,
        ap (λ (l : Left). l.hash) y,
        ap (λ (l : Left). l.name) y ∙ stored m.name d a,
        ap (λ (l : Left). l.address) y ∙ stored m.address t b,
      )

  -- the numbers: of three reasons the one that has it
  pub read-8 : (p : ℕ) → (left_of s h d t).answer ≡ refused 8 p ↔ ((most_text < length s) × (p ≡ 0))
  read-8 p = given (first_of (links.left-refused s h d t 8 p) (neither (λ x. omega (arith, x.0)) (λ x. omega (arith, x.0))))

  pub read-19 : (p : ℕ) → (left_of s h d t).answer ≡ refused 19 p ↔ ((length s ≤ most_text) × Fault s p)
  read-19 p = given (first_of (second-of (links.left-refused s h d t 19 p) (λ x. omega (arith, x.0))) (λ x. omega (arith, x.0)))

  pub read-37 : (p : ℕ) → (left_of s h d t).answer ≡ refused 37 p ↔ (((m : Meaning) × (length s ≤ most_text) × IsLink s m × ((length d < size_of m.name) ⊎ (length t < size_of m.address))) × (p ≡ 0))
  read-37 p = given (second-of (second-of (links.left-refused s h d t 37 p) (λ x. omega (arith, x.0))) (λ x. omega (arith, x.0)))

-- ---- writing

unless-long : (w : List ℕ) → most_text < length w → unless_long w ≡ refused no.long 0
unless-long w l = rw (lt-ltb most_text (length w) l)

unless-short : (w : List ℕ) → length w ≤ most_text → unless_long w ≡ taken w
unless-short w l = rw (le-ltb most_text (length w) l)

unless-refused : (w : List ℕ) (n p : ℕ) → unless_long w ≡ refused n p ↔ ((n ≡ 8) × (most_text < length w) × (p ≡ 0))
unless-refused w n p = (
  λ e. less-or most_text (length w)
      (λ l. let z = same-refusal {A = List ℕ} (sym (unless-long w l) ∙ e) in (sym z.0, l, sym z.1))
      (λ l. not-refused (sym (unless-short w l) ∙ e)),
  λ h. unless-long w h.1 ∙ refusal_is (sym h.0) (sym h.2),
)

unless-taken : (w y : List ℕ) → unless_long w ≡ taken y → (length w ≤ most_text) × (w ≡ y)
unless-taken w y e = less-or most_text (length w) (λ l. not_taken (sym (unless-long w l) ∙ e)) (λ l. let z : taken w ≡ taken y = sym (unless-short w l) ∙ e in (l, cc))

module _ (s : List ℕ) where
  written_as : written_of s ≡ then (read_of s) (λ x. unless_long (link_text s x))
  unfolding written_of
  written_as = refl

  -- the text of a link is by what the torrent says
  text_of : (x : Torrent) → read_of s ≡ taken x → (v : Value) (t : TorrentSays) → Encodes s v → IsTorrent v t → link_text s x ≡ link_of t
  text_of x e v t n i = let w = torrent-shown s x e v t n i in sym (answers.link-of s x (ap sha1 (sym w.info)) (sym w.name) (sym w.announce))

  written-said : (w : List ℕ) → written_of s ≡ taken w → (v : Value) (t : TorrentSays) → Encodes s v → IsTorrent v t → (length (link_of t) ≤ most_text) × (w ≡ link_of t)
  written-said w e v t n i =
      let (x, f, g) = then-taken (read_of s) (λ x. unless_long (link_text s x)) w (sym written_as ∙ e) in
      let z = text_of x f v t n i in
      let (l, q) = unless-taken (link_text s x) w g in
      (subst (λ (y : List ℕ). length y ≤ most_text) z l, sym q ∙ z)

  written-torrent : (w : List ℕ) → written_of s ≡ taken w → (v : Value) × (t : TorrentSays) × Encodes s v × IsTorrent v t
  written-torrent w e = let (x, f, g) = then-taken (read_of s) (λ x. unless_long (link_text s x)) w (sym written_as ∙ e) in (torrent-exact s).0 (x, f)

  written-every : (v : Value) (t : TorrentSays) → Encodes s v → IsTorrent v t → length (link_of t) ≤ most_text → written_of s ≡ taken (link_of t)
  written-every v t n i l =
      let (x, f) = (torrent-exact s).1 (v, t, n, i) in
      written_as ∙ ap (λ (o : Outcome Torrent). then o (λ x. unless_long (link_text s x))) f ∙ ap unless_long (text_of x f v t n i) ∙ unless-short (link_of t) l

  -- a torrent whose link is too long
  abbrev pub Over : Type 0
  Over = (v : Value) × (t : TorrentSays) × Encodes s v × IsTorrent v t × (most_text < length (link_of t))

  over : (n p : ℕ) → ((x : Torrent) × (read_of s ≡ taken x) × (unless_long (link_text s x) ≡ refused n p)) ↔ ((n ≡ 8) × Over × (p ≡ 0))
  over n p = (
    λ (x, e, f).
        let (v, t, k, i) = (torrent-exact s).0 (x, e) in
        let (a, l, z) = (unless-refused (link_text s x) n p).0 f in
        (a, (v, t, k, i, subst (λ (y : List ℕ). most_text < length y) (text_of x e v t k i) l), z),
    λ (a, (v, t, k, i, l), z).
        let (x, e) = (torrent-exact s).1 (v, t, k, i) in
        (x, e, (unless-refused (link_text s x) n p).1 (a, subst (λ (y : List ℕ). most_text < length y) (sym (text_of x e v t k i)) l, z)),
  )

  -- the torrent's refusal, or 8
  pub written-refused : (n p : ℕ) → written_of s ≡ refused n p ↔ ((read_of s ≡ refused n p) ⊎ ((n ≡ 8) × Over × (p ≡ 0)))
  written-refused n p = Iff.trans (same_answer written_as) (Iff.trans (then-refused (read_of s) (λ x. unless_long (link_text s x)) n p) (or_else (over n p)))

  written_8 : (p : ℕ) → written_of s ≡ refused 8 p ↔ (((most_text < length s) ⊎ Over) × (p ≡ 0))
  written_8 p = Iff.trans (written-refused 8 p) (only, every)
    where
      only : (read_of s ≡ refused 8 p) ⊎ (◌≡◌ {A = ℕ} 8 8 × Over × (p ≡ 0)) → ((most_text < length s) ⊎ Over) × (p ≡ 0)
      only (inl e) = let (l, z) = (torrents.long-law s p).0 e in (inl l, z)
      only (inr (a, x, z)) = (inr x, z)

      every : ((most_text < length s) ⊎ Over) × (p ≡ 0) → (read_of s ≡ refused 8 p) ⊎ (◌≡◌ {A = ℕ} 8 8 × Over × (p ≡ 0))
      every (inl l, z) = inl ((torrents.long-law s p).1 (l, z))
      every (inr x, z) = inr (refl, x, z)

  written-alike : (n p : ℕ) → (n ≡ 8 → ⊥) → written_of s ≡ refused n p ↔ read_of s ≡ refused n p
  written-alike n p h = first_of (written-refused n p) (λ x. h x.0)

  not-37 : (p : ℕ) → written_of s ≡ refused 37 p → ⊥
  not-37 p e = let f = (written-alike 37 p (λ x. omega (arith, x))).0 e in ⊎_elim (λ (h : Numbered 37). omega (arith, h.1)) (λ (h : (10 ≤ 37) × (37 ≤ 13)). omega (arith, h.1)) (torrents.none_other s 37 p f)

  -- ---- into an output

  module _ (o : List ℕ) where
    pub write-refused : (n p : ℕ) → (write_of s o).answer ≡ refused n p ↔ ((written_of s ≡ refused n p) ⊎ NoRoom o (written_of s) n p)
    write-refused n p = puts-refused o (written_of s) n p

    pub write-alike : (n p : ℕ) → (n ≡ 8 → ⊥) → (n ≡ 37 → ⊥) → (write_of s o).answer ≡ refused n p ↔ read_of s ≡ refused n p
    write-alike n p h k = Iff.trans (first_of (write-refused n p) (λ x. k x.0)) (written-alike n p h)

    pub write_read : (n p : ℕ) → n ≤ 7 → (write_of s o).answer ≡ refused n p ↔ decode s ≡ refused n p
    write_read n p l = Iff.trans (write-alike n p (λ x. omega (arith, l, x)) (λ x. omega (arith, l, x))) (torrents.by-bencode s n p (omega arith))

    pub write-8 : (p : ℕ) → (write_of s o).answer ≡ refused 8 p ↔ (((most_text < length s) ⊎ Over) × (p ≡ 0))
    write-8 p = Iff.trans (first_of (write-refused 8 p) (λ x. omega (arith, x.0))) (written_8 p)

    pub write-37 : (p : ℕ) → (write_of s o).answer ≡ refused 37 p ↔ (((v : Value) × (t : TorrentSays) × Encodes s v × IsTorrent v t × (length (link_of t) ≤ most_text) × (length o < length (link_of t))) × (p ≡ 0))
    write-37 p = Iff.trans (given (second-of (write-refused 37 p) (not-37 p))) (
      λ ((w, e, l), z).
          let (v, t, n, i) = written-torrent w e in
          let (k, q) = written-said w e v t n i in
          ((v, t, n, i, k, subst (λ (y : List ℕ). length o < length y) q l), z),
      λ ((v, t, n, i, k, l), z). ((link_of t, written-every v t n i k, l), z),
    )

    -- what is taken, and what stands in the output then
    module _ (q : ℕ) where
      pub write-exact : (write_of s o).answer ≡ taken q ↔ ((v : Value) × (t : TorrentSays) × Encodes s v × IsTorrent v t × (length (link_of t) ≤ most_text) × (length (link_of t) ≤ length o) × (q ≡ length (link_of t)))
      write-exact = (
        λ e.
            let (w, f, l, z, y) = puts-taken o (written_of s) q e in
            let (v, t, n, i) = written-torrent w f in
            let (k, a) = written-said w f v t n i in
            (v, t, n, i, k, subst (λ (b : List ℕ). length b ≤ length o) a l, z ∙ ap length a),
        λ (v, t, n, i, k, l, z). ap (λ (x : Outcome (List ℕ)). (puts o x).answer) (written-every v t n i k) ∙ (put-taken (link_of t) o q).1 (l, z),
      )

      module _ (e : (write_of s o).answer ≡ taken q) (v : Value) (t : TorrentSays) (n : Encodes s v) (i : IsTorrent v t) where
        pub write-left : (q ≡ length (link_of t)) × ((write_of s o).out ≡ link_of t ++ drop q o)
        write-left =
            let (w, f, l, z, y) = puts-taken o (written_of s) q e in
            let (k, a) = written-said w f v t n i in
            (z ∙ ap length a, y ∙ ap (λ (b : List ℕ). b ++ drop q o) a)

        write-short : length (link_of t) ≤ most_text
        write-short = let (w, f, l, z, y) = puts-taken o (written_of s) q e in (written-said w f v t n i).0

        write-front : take q (write_of s o).out ≡ link_of t
        write-front = let (z, y) = write-left in ap (take q) y ∙ take_at (link_of t) (drop q o) q (sym z)

        -- read back into outputs with room, where the torrent's text is of bytes
        pub reads-back : Bytes s → (h d a : List ℕ) → length t.name ≤ length d → length t.announce ≤ length a
            → left_of (take q (write_of s o).out) h d a ≡ left (taken (sizes_of (meaning t))) (sha1 (encode (dict t.info))) (t.name ++ drop (length t.name) d) (t.announce ++ drop (length t.announce) a)
        reads-back b h d a l m =
            let (x, f) = (torrent-exact s).1 (v, t, n, i) in
            let w = torrent-shown s x f v t n i in
            let j = written-is-link (sha1 (encode (dict t.info))) t.name t.announce (digest-length (encode (dict t.info))) (links.digest-bytes (encode (dict t.info))) (subst Bytes w.name (part_bytes s x.name b)) (subst Bytes w.announce (part_bytes s x.announce b)) in
            let r = (links.read-exact (link_of t) (meaning t)).1 (write-short, j) in
            ap (λ (y : List ℕ). left_of y h d a) write-front
            ∙ links.left-stored (link_of t) h d a (meaning t) r l m
            ∙ ap (λ (y : List ℕ). left (taken (sizes_of (meaning t))) (meaning t).hash y (sets a 0 t.announce)) (put_front t.name d l)
            ∙ ap (left (taken (sizes_of (meaning t))) (meaning t).hash (t.name ++ drop (length t.name) d)) (put_front t.announce a m)

  -- ---- how many bytes

  pub size-refused : (n p : ℕ) → map length (written_of s) ≡ refused n p ↔ written_of s ≡ refused n p
  size-refused n p = map-refused length (written_of s) n p

  pub size-alike : (n p : ℕ) → (n ≡ 8 → ⊥) → map length (written_of s) ≡ refused n p ↔ read_of s ≡ refused n p
  size-alike n p h = Iff.trans (size-refused n p) (written-alike n p h)

  pub size-read : (n p : ℕ) → n ≤ 7 → map length (written_of s) ≡ refused n p ↔ decode s ≡ refused n p
  size-read n p l = Iff.trans (size-alike n p (λ x. omega (arith, l, x))) (torrents.by-bencode s n p (omega arith))

  pub size-8 : (p : ℕ) → map length (written_of s) ≡ refused 8 p ↔ (((most_text < length s) ⊎ Over) × (p ≡ 0))
  size-8 p = Iff.trans (size-refused 8 p) (written_8 p)

  pub size_exact : (q : ℕ) → map length (written_of s) ≡ taken q ↔ ((v : Value) × (t : TorrentSays) × Encodes s v × IsTorrent v t × (length (link_of t) ≤ most_text) × (q ≡ length (link_of t)))
  size_exact q = (
    λ e.
        let (w, f, z) = map-taken length (written_of s) q e in
        let (v, t, n, i) = written-torrent w f in
        let (k, a) = written-said w f v t n i in
        (v, t, n, i, k, sym z ∙ ap length a),
    λ (v, t, n, i, k, z). ap (map length) (written-every v t n i k) ∙ ap taken (sym z),
  )

  -- as many as are written, wherever there is room
  pub sized : (o : List ℕ) (q : ℕ) → (write_of s o).answer ≡ taken q ↔ ((map length (written_of s) ≡ taken q) × (q ≤ length o))
  sized o q = (
    λ e. let (w, f, l, z, y) = puts-taken o (written_of s) q e in (ap (map length) f ∙ ap taken (sym z), omega arith),
    λ (e, l). let (w, f, z) = map-taken length (written_of s) q e in ap (λ (x : Outcome (List ℕ)). (puts o x).answer) f ∙ (put-taken w o q).1 (omega arith, sym z),
  )
