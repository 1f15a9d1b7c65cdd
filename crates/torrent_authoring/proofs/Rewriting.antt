-- What is read with only those keys is written again as it was. Assumes nothing.
use Rattle.std.proofs.Common.{◌≡◌, refl, sym, ap, ◌∙◌, subst, Bool, true, false, cond, List, ℕ, ◌≤◌, arith, leb, pos, negsuc, length}
use Rattle.refusal.specs.Paper.{Outcome, taken, refused, then}
use Rattle.refusal.specs.Limits.{longest_file, longest_piece}
use Rattle.refusal.specs.declared.Part.{Part}
use Rattle.refusal.proofs.Cases.{no_way}
use Rattle.refusal.proofs.Outcomes.{then-then, map-then}
use Rattle.bencode.specs.Value.{Value, str, int, list, dict}
use Rattle.bencode.specs.Exact.{Fine}
use Rattle.bencode.proofs.Exact.{fine-taken}
use Rattle.bencode_walk.specs.Lookup.{nothing, under}
use Rattle.bencode_fields.specs.Values.{part_of, string_at, natural_at}
use Rattle.bencode_writer.specs.Put.{put_of}
use Rattle.torrent_blocks.specs.Rules.{piece_length_of}
use Rattle.torrent_metainfo.specs.Rules.{good_name, name_at, piece_length_at, content_of, one_file, sized_of, torrent_of}
use Rattle.torrent_metainfo.specs.Reading.{read_of}
use Rattle.torrent_metainfo.specs.declared.Content.{Content}
use Rattle.torrent_metainfo.specs.declared.Torrent.{Torrent}
use Rattle.torrent_metainfo.proofs.Exact.{torrent-exact}
use Rattle.torrent_authoring.specs.Writing.{Fields, fields, top_with, info_with, torrent_value, text_of, puts, write_of}
use Rattle.torrent_authoring.specs.Rules.{Ruled}
use Rattle.torrent_authoring.specs.Reading.{fields_of, OnlyThose, only}
use Rattle.torrent_authoring.proofs.Ruling.{announce_place, info_place, length_place, name_place, piece_place, pieces_place, info_part, reading}
use Rattle.torrent_authoring.proofs.Steps.{size-is-short}
use Rattle.torrent_authoring.proofs.Written.{told-gives, taken-told}

-- ---- what a check takes is of its kind

module _ {B : Type 0} (t : B) (p : ℕ) where
  string-only : (v : Value) (g : Part → Outcome B) → then (string_at p v) g ≡ taken t → (bs : List ℕ) × (v ≡ str bs) × (g (part_of p bs) ≡ taken t)
  string-only (str bs) g e = (bs, refl, e)
  string-only (int z) g e = no_way (cc)
  string-only (list vs) g e = no_way (cc)
  string-only (dict es) g e = no_way (cc)

  name-only : (v : Value) (g : Part → Outcome B) → then (name_at p v) g ≡ taken t → (bs : List ℕ) × (v ≡ str bs) × (g (part_of p bs) ≡ taken t)
  name-only (str bs) g e = go (good_name bs) e
    where
      go : (b : Bool) → then (cond b (taken (part_of p bs)) (refused 13 p)) g ≡ taken t → (cs : List ℕ) × (str bs ≡ str cs) × (g (part_of p cs) ≡ taken t)
      go true h = (bs, refl, h)
      go false h = no_way (cc)
  name-only (int z) g e = no_way (cc)
  name-only (list vs) g e = no_way (cc)
  name-only (dict es) g e = no_way (cc)

  number-only : (most : ℕ) (v : Value) (g : ℕ → Outcome B) → then (natural_at most p v) g ≡ taken t → (n : ℕ) × (v ≡ int (pos n)) × (g n ≡ taken t)
  number-only most (int (pos n)) g e = go (leb n most) e
    where
      go : (b : Bool) → then (cond b (taken n) (refused 11 p)) g ≡ taken t → (m : ℕ) × (int (pos n) ≡ int (pos m)) × (g m ≡ taken t)
      go true h = (n, refl, h)
      go false h = no_way (cc)
  number-only most (int (negsuc n)) g e = no_way (cc)
  number-only most (str bs) g e = no_way (cc)
  number-only most (list vs) g e = no_way (cc)
  number-only most (dict es) g e = no_way (cc)

-- ---- a torrent with only those keys has fields

same-value : (a l n pl ps : Value) {A N S : List ℕ} {p m : ℕ} → a ≡ str A → n ≡ str N → pl ≡ int (pos p) → ps ≡ str S → l ≡ int (pos m) → top_with a (info_with l n pl ps) ≡ torrent_value (fields A N p S m)
same-value a l n pl ps e₁ e₂ e₃ e₄ e₅ = rw (e₁, e₂, e₃, e₄, e₅)

module _ (a l n pl ps : Value) (t : Torrent) where
  abbrev Q : ℕ
  Q = pieces_place a l n pl

  k₅ : Part → Part → ℕ → Part → Content → Outcome Torrent
  k₅ x y m z c = sized_of x (info_part a l n pl ps) y z Q m c

  k₄ : Part → Part → ℕ → Part → Outcome Torrent
  k₄ x y m z = then (content_of (info_place a) (under (length_place a) l) nothing) (k₅ x y m z)

  k₃ : Part → Part → ℕ → Outcome Torrent
  k₃ x y m = then (string_at Q ps) (k₄ x y m)

  k₂ : Part → Part → Outcome Torrent
  k₂ x y = then (piece_length_at (piece_place a l n) pl) (k₃ x y)

  k₁ : Part → Outcome Torrent
  k₁ x = then (name_at (name_place a l) n) (k₂ x)

  in-steps : torrent_of (top_with a (info_with l n pl ps)) ≡ then (string_at announce_place a) k₁
  unfolding k₁ k₂ k₃ k₄ k₅
  in-steps = reading a l n pl ps

  after-announce : (x : Part) → k₁ x ≡ taken t → (bs : List ℕ) × (n ≡ str bs) × (k₂ x (part_of (name_place a l) bs) ≡ taken t)
  unfolding k₁
  after-announce x e = name-only t (name_place a l) n (k₂ x) e

  after-name : (x y : Part) → k₂ x y ≡ taken t → (m : ℕ) × (pl ≡ int (pos m)) × (k₃ x y m ≡ taken t)
  unfolding k₂
  after-name x y e =
      let r = number-only t (piece_place a l n) longest_piece pl (λ m. then (tested m) (k₃ x y)) (sym (then-then (natural_at longest_piece (piece_place a l n) pl) tested (k₃ x y)) ∙ e) in
      (r.0, r.1, legal r.0 (piece_length_of r.0) r.2)
    where
      tested : ℕ → Outcome ℕ
      tested m = cond (piece_length_of m) (taken m) (refused 11 (piece_place a l n))

      legal : (m : ℕ) (b : Bool) → then (cond b (taken m) (refused 11 (piece_place a l n))) (k₃ x y) ≡ taken t → k₃ x y m ≡ taken t
      legal m true h = h
      legal m false h = no_way (cc)

  after-piece : (x y : Part) (m : ℕ) → k₃ x y m ≡ taken t → (bs : List ℕ) × (ps ≡ str bs) × (k₄ x y m (part_of Q bs) ≡ taken t)
  unfolding k₃
  after-piece x y m e = string-only t Q ps (k₄ x y m) e

  after-pieces : (x y : Part) (m : ℕ) (z : Part) → k₄ x y m z ≡ taken t → (i : ℕ) × (l ≡ int (pos i))
  unfolding k₄
  after-pieces x y m z e =
      let r = number-only t (length_place a) longest_file l (λ i. k₅ x y m z (one_file (length_place a) i)) (sym (map-then (natural_at longest_file (length_place a) l) (one_file (length_place a)) (k₅ x y m z)) ∙ e) in
      (r.0, r.1)

  pub has-fields : torrent_of (top_with a (info_with l n pl ps)) ≡ taken t → (f : Fields) × (top_with a (info_with l n pl ps) ≡ torrent_value f)
  has-fields e =
      let r₁ = string-only t announce_place a k₁ (sym in-steps ∙ e) in
      let r₂ = after-announce _ r₁.2 in
      let r₃ = after-name _ _ r₂.2 in
      let r₄ = after-piece _ _ r₃.0 r₃.2 in
      let r₅ = after-pieces _ _ r₃.0 _ r₄.2 in
      (fields r₁.0 r₂.0 r₃.0 r₄.0 r₅.0, same-value a l n pl ps r₁.1 r₂.1 r₃.1 r₄.1 r₅.1)

written : (f : Fields) → Ruled f → length (text_of f) ≤ 1048576 → (o : List ℕ) → write_of f o ≡ put_of (text_of f) 0 o
unfolding write_of
written f h l o = ap (puts (text_of f) o) (size-is-short f h l)

-- a text that is read with only those keys has one file, and is written again from the fields that were read: where it fits, and else by 37
pub rewrite : (s : List ℕ) (v : Value) → Fine s v → OnlyThose v → (t : Torrent) → read_of s ≡ taken t
    → (t.content.single ≡ true) × (text_of (fields_of s t) ≡ s) × ((o : List ℕ) → write_of (fields_of s t) o ≡ put_of s 0 o)
rewrite s v h k t e = go v k h (torrent-is ((torrent-exact s).only t e))
  where
    Again : Torrent → Type 0
    Again u = (u.content.single ≡ true) × (text_of (fields_of s u) ≡ s) × ((o : List ℕ) → write_of (fields_of s u) o ≡ put_of s 0 o)

    torrent-is : (w : Value) × Fine s w × (torrent_of w ≡ taken t) → torrent_of v ≡ taken t
    torrent-is x =
        let a = fine-taken s x.0 x.1 in
        let b = fine-taken s v h in
        let c : v ≡ x.0 = cc in
        ap torrent_of c ∙ x.2

    again : (f : Fields) → Fine s (torrent_value f) → torrent_of (torrent_value f) ≡ taken t → Again t
    again f b c =
        let r = taken-told f t c in
        let g = told-gives f s b in
        let m : fields_of s t ≡ f = subst (λ (u : Torrent). fields_of s u ≡ f) r.1 g.same in
        let w : text_of f ≡ s = sym b.text in
        let y : length (text_of f) ≤ 1048576 = omega (arith, ap length w, b.short) in (
          subst (λ (u : Torrent). u.content.single ≡ true) r.1 g.single,
          ap text_of m ∙ w,
          λ o. ap (λ (x : Fields). write_of x o) m ∙ written f r.0 y o ∙ ap (λ (x : List ℕ). put_of x 0 o) w,
        )

    go : (w : Value) → OnlyThose w → Fine s w → torrent_of w ≡ taken t → Again t
    go w (only a l n pl ps) b c =
        let x = has-fields a l n pl ps t c in
        again x.0 (subst (Fine s) x.1 b) (ap torrent_of (sym x.1) ∙ c)
