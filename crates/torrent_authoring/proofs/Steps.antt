-- What the code answers, test by test. Assumes nothing.
use Rattle.std.proofs.Common.{Err, Result, ◌≡◌, refl, sym, ap, ◌∙◌, Bool, true, false, cond, List, ◌∷◌, ℕ, ◌+◌, ◌*◌, ◌<◌, ◌≤◌, arith, eqb, ltb, length, length-append, eq-eqb, ne_eqb, lt-ltb, le-ltb, ltb-true, ltb-false, eqb-true}
use Rattle.refusal.specs.declared.Refusal.{Refusal}
use Rattle.refusal.specs.Paper.{paper, Outcome, taken, refused, then}
use Rattle.refusal.proofs.Cases.{no_way}
use Rattle.bencode_scalar.specs.Written.{decimal, written_string}
use Rattle.bencode_writer.specs.Put.{left, put_of, Ran}
use Rattle.bencode_writer.proofs.Laws.{put-none, put-done}
use Rattle.torrent_metainfo.specs.Rules.{torrent_of}
use Rattle.torrent_metainfo.specs.declared.Torrent.{Torrent}
use Rattle.torrent_metainfo.proofs.Sizing.{few-pieces}
use Rattle.torrent_authoring.specs.Writing.{Fields, torrent_value, text_of, at_start, size_of, puts, write_of}
use Rattle.torrent_authoring.specs.Rules.{piece_count_of, Ruled, Broken}
use Rattle.torrent_authoring.proofs.Putting.{size}
use Rattle.torrent_authoring.proofs.Ruling.{Judged, kept, broken, judged, ruled-broken, ruled-kept, limited, size-ruled}

pub written-size : (bs : List ℕ) → length (written_string bs) ≡ length (decimal (length bs)) + 1 + length bs
written-size bs = omega (arith, length-append (decimal (length bs)) (58 ∷ bs))

module _ (f : Fields) where
  -- the text is longer than its strings
  pub at_least : length f.announce + length f.name ≤ length (text_of f)
  at_least = omega (arith, size f, written-size f.announce, written-size f.name)

  pub hashes-right : (k : ℕ) → k ≡ piece_count_of f → length f.pieces ≡ 20 * k → eqb (length f.pieces) (20 * piece_count_of f) ≡ true
  hashes-right k e h = eq-eqb _ _ (h ∙ ap (λ (x : ℕ). 20 * x) e)

  pub hashes-wrong : (k : ℕ) → k ≡ piece_count_of f → (length f.pieces ≡ 20 * k → ⊥) → eqb (length f.pieces) (20 * piece_count_of f) ≡ false
  hashes-wrong k e h = ne_eqb _ _ (λ g. h (g ∙ ap (λ (x : ℕ). 20 * x) (sym e)))

  -- ---- how many bytes

  pub size-broken : {r : Result ℕ Refusal} {n : ℕ} → Broken f n → r ≡ Err (record { number = n; place = 0 }) → paper r ≡ size_of f
  size-broken b e = ap paper e ∙ sym (size-ruled f ∙ ruled-broken f (limited f) b)

  module _ (h : Ruled f) where
    pub few-hashes : length f.pieces ≤ 327680
    few-hashes = omega (arith, few-pieces f.length (piece_count_of f) h.total, eqb-true (length f.pieces) (20 * piece_count_of f) h.hashes)

    size-kept : size_of f ≡ limited f
    size-kept = size-ruled f ∙ ruled-kept f (limited f) h

    pub size-is-long : 1048576 < length (text_of f) → size_of f ≡ refused 8 0
    size-is-long l = size-kept ∙ rw (lt-ltb 1048576 (length (text_of f)) l)

    pub size-is-short : length (text_of f) ≤ 1048576 → size_of f ≡ taken (length (text_of f))
    size-is-short l = size-kept ∙ rw (le-ltb 1048576 (length (text_of f)) l)

    pub size-long : {r : Result ℕ Refusal} → 1048576 < length (text_of f) → r ≡ Err (record { number = 8; place = 0 }) → paper r ≡ size_of f
    size-long l e = ap paper e ∙ sym (size-is-long l)

    pub size-short : {n : ℕ} → n ≡ length (text_of f) → n ≤ 1048576 → taken n ≡ size_of f
    size-short e l = ap taken e ∙ sym (size-is-short (omega arith))

  -- ---- case by case

  pub data SizeCase : Outcome ℕ → Type 0 where
    size-not : (n : ℕ) → Broken f n → SizeCase (refused n 0)
    size-over : Ruled f → 1048576 < length (text_of f) → SizeCase (refused 8 0)
    size-fine : Ruled f → length (text_of f) ≤ 1048576 → SizeCase (taken (length (text_of f)))

  pub size-cases : SizeCase (size_of f)
  unfolding size_of
  size-cases = go (torrent_of (torrent_value f)) (judged f)
    where
      by : Ruled f → (b : Bool) → ltb 1048576 (length (text_of f)) ≡ b → SizeCase (cond b (refused 8 0) (taken (length (text_of f))))
      by h true e = size-over h (ltb-true 1048576 (length (text_of f)) e)
      by h false e = size-fine h (ltb-false 1048576 (length (text_of f)) e)

      go : (o : Outcome Torrent) → Judged f o → SizeCase (then (at_start o) (λ t. limited f))
      go o (kept h) = by h (ltb 1048576 (length (text_of f))) refl
      go o (broken n p h) = size-not n h

  -- a size that is taken is the text's
  pub size_is : (n : ℕ) → taken n ≡ size_of f → n ≡ length (text_of f)
  size_is n e = go (size_of f) size-cases e
    where
      go : (o : Outcome ℕ) → SizeCase o → taken n ≡ o → n ≡ length (text_of f)
      go o (size-not k h) g = no_way (cc)
      go o (size-over h l) g = no_way (cc)
      go o (size-fine h l) g = cc

  -- ---- and into the output

  module _ (o : List ℕ) where
    pub write-not : (k p : ℕ) → refused k p ≡ size_of f → left (refused k p) o ≡ write_of f o
    unfolding write_of
    write-not k p e = ap (puts (text_of f) o) e

    module _ (n : ℕ) (e : taken n ≡ size_of f) where
      write-puts : write_of f o ≡ put_of (text_of f) 0 o
      unfolding write_of
      write-puts = ap (puts (text_of f) o) (sym e)

      pub write-none : {r : Result ℕ Refusal} → length o < n → r ≡ Err (record { number = 37; place = 0 }) → left (paper r) o ≡ write_of f o
      write-none h g = ap (λ (x : Result ℕ Refusal). left (paper x) o) g ∙ sym (write-puts ∙ put-none (text_of f) 0 o (omega (arith, size_is n e)))

      pub write-whole : {at : ℕ} {out : List ℕ} → n ≤ length o → Ran (text_of f) 0 o at out → left (taken at) out ≡ write_of f o
      write-whole h r = put-done (text_of f) 0 o (omega (arith, size_is n e)) r.place r.out ∙ sym write-puts
