-- What a call leaves, and that what is written is read back. Assumes nothing.
use Rattle.std.proofs.Common.{Result, ◌≡◌, refl, sym, ap, ◌∙◌, subst, Bool, true, false, List, ℕ, ◌+◌, ◌<◌, ◌≤◌, arith, leb, pos, length, leb-true, leb-false}
use Rattle.refusal.specs.declared.Refusal.{Refusal}
use lib.Seq.{sets}
use Rattle.refusal.specs.Paper.{paper, Outcome, taken, refused}
use Rattle.refusal.proofs.Cases.{no_way}
use Rattle.bencode_scalar.specs.Written.{key_lt}
use Rattle.bencode.specs.Value.{Value, str, int, empty, entry, encode, count, Keeps, start, last}
use Rattle.bencode.specs.Exact.{Fine}
use Rattle.bencode_walk.proofs.Standing.{fine-stands, dictionary-stands, entries_next}
use Rattle.bencode_fields.proofs.Standing.{part_bytes}
use Rattle.bencode_writer.specs.Put.{Left, left, put_of}
use Rattle.bencode_writer.proofs.Laws.{paper-apart, put_whole, put-none, standing}
use Rattle.torrent_metainfo.specs.Keys.{announce_key, info_key, length_key, name_key, piece_length_key, pieces_key}
use Rattle.torrent_metainfo.specs.Rules.{torrent_of}
use Rattle.torrent_metainfo.specs.Reading.{read_of}
use Rattle.torrent_metainfo.specs.declared.Torrent.{Torrent}
use Rattle.torrent_metainfo.proofs.Exact.{torrent-exact}
use Rattle.torrent_authoring.specs.Writing.{Fields, info_with, torrent_value, text_of, size_of, puts, write_of}
use Rattle.torrent_authoring.specs.Rules.{Ruled, NotWritten, broken, too_long, no_room}
use Rattle.torrent_authoring.specs.Reading.{Gives, ReadsBack}
use Rattle.refusal.proofs.Outcomes.{paper-determined}
use Rattle.torrent_authoring.proofs.Ruling as ruling
use Rattle.torrent_authoring.proofs.Ruling.{ruled-broken, limited, size-ruled, announce_place, info_place, length_place, name_place, piece_place, pieces_place, told, Judged, kept, judged, kept-told}
use Rattle.torrent_authoring.proofs.Steps.{SizeCase, size-not, size-over, size-fine, size-cases, size-is-long, size-is-short}

-- ---- the text is fine

ascending : (key_lt announce_key info_key ≡ true) × (key_lt length_key name_key ≡ true) × (key_lt name_key piece_length_key ≡ true) × (key_lt piece_length_key pieces_key ≡ true)
unfolding key_lt
ascending = (refl, refl, refl, refl)

module _ (f : Fields) where
  pub text-fine : length (text_of f) ≤ 1048576 → Fine (text_of f) (torrent_value f)
  unfolding Keeps count
  text-fine l =
      let k = ascending in
      record {
        text = refl;
        keeps = (31, refl, (refl, tt, (k.0, (30, refl, (refl, tt, (k.1, tt, (k.2, tt, (k.3, tt, tt))))), tt)));
        few = omega arith;
        short = l;
      }

  -- ---- and has the fields

  module _ (s : List ℕ) (h : Fine s (torrent_value f)) where
    abbrev A : Value
    A = str f.announce

    abbrev L : Value
    L = int (pos f.length)

    abbrev N : Value
    N = str f.name

    abbrev P : Value
    P = int (pos f.piece_length_of)

    abbrev S : Value
    S = str f.pieces

    pub told-gives : Gives s (told f) f
    told-gives =
        let top = (dictionary-stands s 32 0 (entry announce_key A (entry info_key (info_with L N P S) empty)) (fine-stands s (torrent_value f) h)).1 in
        let d = top.0 in
        let x₁ = entries_next s d 1 start announce_key A (entry info_key (info_with L N P S) empty) top.2 in
        let x₂ = entries_next s d (announce_place + length (encode A)) (last announce_key) info_key (info_with L N P S) empty x₁.others in
        let info = (dictionary-stands s d (info_place A) (entry length_key L (entry name_key N (entry piece_length_key P (entry pieces_key S empty)))) x₂.value).1 in
        let i = info.0 in
        let y₁ = entries_next s i (info_place A + 1) start length_key L (entry name_key N (entry piece_length_key P (entry pieces_key S empty))) info.2 in
        let y₂ = entries_next s i (length_place A + length (encode L)) (last length_key) name_key N (entry piece_length_key P (entry pieces_key S empty)) y₁.others in
        let y₃ = entries_next s i (name_place A L + length (encode N)) (last name_key) piece_length_key P (entry pieces_key S empty) y₂.others in
        let y₄ = entries_next s i (piece_place A L N + length (encode P)) (last piece_length_key) pieces_key S empty y₃.others in
        let e₁ = part_bytes s d announce_place f.announce x₁.value in
        let e₂ = part_bytes s i (name_place A L) f.name y₂.value in
        let e₃ = part_bytes s i (pieces_place A L N P) f.pieces y₄.value in
        record { same = rw (e₁, e₂, e₃); single = refl }

  -- a torrent that is taken keeps the rules, and is told as it stands
  pub taken-told : (t : Torrent) → torrent_of (torrent_value f) ≡ taken t → Ruled f × (told f ≡ t)
  taken-told t e = go (torrent_of (torrent_value f)) (judged f) e
    where
      go : (o : Outcome Torrent) → Judged f o → o ≡ taken t → Ruled f × (told f ≡ t)
      go o (kept h) g = (h, cc)
      go o (ruling.broken n p h) g = no_way (cc)

  -- reading what is written
  pub text-read : Ruled f → length (text_of f) ≤ 1048576 → read_of (text_of f) ≡ taken (told f)
  text-read h l = (torrent-exact (text_of f)).every (torrent_value f) (told f) (text-fine l) (kept-told f h)

-- ---- what a call leaves, case by case

module _ (f : Fields) (o : List ℕ) where
  pub data Case : Left → Type 0 where
    not_written : (n : ℕ) → NotWritten f o n → Case (left (refused n 0) o)
    is-written : Ruled f → length (text_of f) ≤ 1048576 → length (text_of f) ≤ length o → Case (left (taken (length (text_of f))) (sets o 0 (text_of f)))

  put_is : length (text_of f) ≤ length o → left (taken (length (text_of f))) (sets o 0 (text_of f)) ≡ put_of (text_of f) 0 o
  put_is l =
      let z : length (text_of f) ≡ 0 + length (text_of f) = omega arith in
      let g : 0 + length (text_of f) ≤ length o = omega arith in
      ap (λ (i : ℕ). left (taken i) (sets o 0 (text_of f))) z ∙ sym (put_whole (text_of f) 0 o g)

  put-is-not : length o < length (text_of f) → left (refused 37 0) o ≡ put_of (text_of f) 0 o
  put-is-not l = let g : length o < 0 + length (text_of f) = omega arith in sym (put-none (text_of f) 0 o g)

  pub cases : Case (write_of f o)
  unfolding write_of
  cases = go (size_of f) (size-cases f)
    where
      by : Ruled f → length (text_of f) ≤ 1048576 → (b : Bool) → leb (length (text_of f)) (length o) ≡ b → Case (put_of (text_of f) 0 o)
      by h l true e = let g = leb-true (length (text_of f)) (length o) e in subst Case (put_is g) (is-written h l g)
      by h l false e = let g = leb-false (length (text_of f)) (length o) e in subst Case (put-is-not g) (not_written 37 (no_room h l g))

      go : (x : Outcome ℕ) → SizeCase f x → Case (puts (text_of f) o x)
      go x (size-not n b) = not_written n (broken b)
      go x (size-over h l) = not_written 8 (too_long h l)
      go x (size-fine h l) = by h l (leb (length (text_of f)) (length o)) refl

  -- what is refused is so by the first rule that is broken, and by no other
  pub refused-every : (n : ℕ) → NotWritten f o n → write_of f o ≡ left (refused n 0) o
  unfolding write_of
  refused-every n (broken b) = ap (puts (text_of f) o) (size-ruled f ∙ ruled-broken f (limited f) b)
  refused-every n (too_long h l) = ap (puts (text_of f) o) (size-is-long f h l)
  refused-every n (no_room h l g) = ap (puts (text_of f) o) (size-is-short f h l) ∙ sym (put-is-not g)

  module _ (r : Result ℕ Refusal) {out : List ℕ} (e : left (paper r) out ≡ write_of f o) where
    pub write-determined : (t : Result ℕ Refusal) {out' : List ℕ} → left (paper t) out' ≡ write_of f o → (r ≡ t) × (out ≡ out')
    write-determined t g = (paper-apart r t (ap (λ (x : Left). x.answer) (e ∙ sym g)), ap (λ (x : Left). x.out) (e ∙ sym g))

    -- a refusal has place 0 and its cause, and leaves the output as it was
    pub refusal-keeps : (n p : ℕ) → paper r ≡ refused n p → (p ≡ 0) × NotWritten f o n × (out ≡ o)
    refusal-keeps n p h = go (write_of f o) cases e
      where
        go : (l : Left) → Case l → left (paper r) out ≡ l → (p ≡ 0) × NotWritten f o n × (out ≡ o)
        go l (not_written m c) g =
            let a : refused n p ≡ refused m 0 = sym h ∙ ap (λ (x : Left). x.answer) g in
            let b : m ≡ n = cc in
            (cc, subst (NotWritten f o) b c, ap (λ (x : Left). x.out) g)
        go l (is-written a b c) g = let i : refused n p ≡ taken (length (text_of f)) = sym h ∙ ap (λ (x : Left). x.answer) g in no_way (cc)

    -- what is taken stands at the start of the output and is read back; past it the output stays
    pub torrent-reads-back : (q : ℕ) → paper r ≡ taken q → ReadsBack f q o out
    torrent-reads-back q h = go (write_of f o) cases e
      where
        back : Ruled f → length (text_of f) ≤ 1048576 → length (text_of f) ≤ length o → ReadsBack f (length (text_of f)) o (sets o 0 (text_of f))
        back a b c =
            let w = standing (text_of f) 0 o (omega arith) in
            let z : 0 + length (text_of f) ≡ length (text_of f) = omega arith in
            record {
              text = w.there;
              torrent = told f;
              read = ap read_of w.there ∙ text-read f a b;
              gives = subst (λ (s : List ℕ). Gives s (told f) f) (sym w.there) (told-gives f (text_of f) (text-fine f b));
              past = rw z at w.past;
            }

        go : (l : Left) → Case l → left (paper r) out ≡ l → ReadsBack f q o out
        go l (not_written m c) g = let a : taken q ≡ refused m 0 = sym h ∙ ap (λ (x : Left). x.answer) g in no_way (cc)
        go l (is-written a b c) g =
            let i : taken q ≡ taken (length (text_of f)) = sym h ∙ ap (λ (x : Left). x.answer) g in
            let j : length (text_of f) ≡ q = cc in
            subst (λ (x : ℕ). ReadsBack f x o out) j (subst (ReadsBack f (length (text_of f)) o) (sym (ap (λ (x : Left). x.out) g)) (back a b c))

-- how many bytes: the same is told of the same torrent
pub size-determined : (f : Fields) (r t : Result ℕ Refusal) → paper r ≡ size_of f → paper t ≡ size_of f → r ≡ t
size-determined f r t a b = paper-determined (size_of f) r t a b
