-- The reader's rules on the torrent to be written are the writer's, one by one. Assumes nothing.
use Rattle.std.proofs.Common.{◌≡◌, refl, sym, ◌∙◌, Bool, true, false, cond, ℕ, ◌+◌, ◌*◌, arith, leb, ltb, eqb, pos, length, le-leb}
use Rattle.refusal.specs.Paper.{Outcome, taken, refused, then}
use Rattle.refusal.specs.Limits.{longest_piece, most_text}
use Rattle.refusal.specs.declared.Part.{Part}
use Rattle.bencode_scalar.specs.Written.{written_string}
use Rattle.bencode.specs.Value.{Value, str, int, encode}
use Rattle.bencode_walk.specs.Lookup.{nothing, under, lookup, same_key}
use Rattle.bencode_fields.specs.Values.{part_of, string_at}
use Rattle.torrent_blocks.proofs.Legal.{piece-length-is, piece-bounds}
use Rattle.torrent_blocks.specs.Rules.{piece_length_of, file_length, total_and}
use Rattle.torrent_metainfo.specs.Keys.{announce_key, info_key, length_key, name_key, piece_length_key, pieces_key}
use Rattle.torrent_metainfo.specs.Rules.{good_name, name_at, piece_length_at, content_of, one_file, sized_of, info_of, top_of, torrent_of}
use Rattle.torrent_metainfo.specs.declared.Torrent.{Torrent}
use Rattle.torrent_authoring.specs.Writing.{Fields, top_with, info_with, torrent_value, text_of, at_start, size_of}
use Rattle.torrent_authoring.specs.Rules.{piece_count_of, ruled, Ruled, Broken, bad_name, bad-piece, bad-file, bad-total, bad-pieces}

-- ---- where the values stand

abbrev pub announce_place : ℕ
announce_place = 1 + length (written_string announce_key)

abbrev pub info_place : Value → ℕ
info_place a = announce_place + length (encode a) + length (written_string info_key)

abbrev pub length_place : Value → ℕ
length_place a = info_place a + 1 + length (written_string length_key)

abbrev pub name_place : Value → Value → ℕ
name_place a l = length_place a + length (encode l) + length (written_string name_key)

abbrev pub piece_place : Value → Value → Value → ℕ
piece_place a l n = name_place a l + length (encode n) + length (written_string piece_length_key)

abbrev pub pieces_place : Value → Value → Value → Value → ℕ
pieces_place a l n pl = piece_place a l n + length (encode pl) + length (written_string pieces_key)

-- the reader's checks of a torrent with only those keys, one after the other
module _ (a l n pl ps : Value) where
  abbrev pub info_part : Part
  info_part = record { from = info_place a; len = length (encode (info_with l n pl ps)) }

  pub reading : torrent_of (top_with a (info_with l n pl ps)) ≡
      then (string_at announce_place a) (λ x.
      then (name_at (name_place a l) n) (λ y.
      then (piece_length_at (piece_place a l n) pl) (λ m.
      then (string_at (pieces_place a l n pl) ps) (λ z.
      then (content_of (info_place a) (under (length_place a) l) nothing) (λ c.
      sized_of x info_part y z (pieces_place a l n pl) m c)))))
  unfolding torrent_of top_of info_of lookup same_key
  reading = refl

-- ---- the torrent with the fields f

module _ (f : Fields) where
  abbrev A : Value
  A = str f.announce

  abbrev L : Value
  L = int (pos f.length)

  abbrev N : Value
  N = str f.name

  abbrev P : Value
  P = int (pos f.piece_length_of)

  abbrev S : Value
  S = str f.pieces

  -- what is told of it
  abbrev pub told : Torrent
  told = record {
    announce = part_of announce_place f.announce;
    info = info_part A L N P S;
    name = part_of (name_place A L) f.name;
    pieces = part_of (pieces_place A L N P) f.pieces;
    piece_length = f.piece_length_of;
    piece_count = piece_count_of f;
    content = one_file (length_place A) f.length;
  }

  -- kept, or broken at some place
  pub data Judged : Outcome Torrent → Type 0 where
    kept : Ruled f → Judged (taken told)
    broken : (n p : ℕ) → Broken f n → Judged (refused n p)

  abbrev Is : Outcome Torrent → Type 0
  Is o = torrent_of (torrent_value f) ≡ o

  wrong_name : good_name f.name ≡ false → Is (refused 13 (name_place A L))
  wrong_name h = reading A L N P S ∙ rw h

  module _ (h₁ : good_name f.name ≡ true) where
    wrong-piece : piece_length_of f.piece_length_of ≡ false → Is (refused 11 (piece_place A L N))
    wrong-piece h = go (leb f.piece_length_of longest_piece) refl
      where
        go : (b : Bool) → leb f.piece_length_of longest_piece ≡ b → Is (refused 11 (piece_place A L N))
        go true e = reading A L N P S ∙ rw (h₁, e, h)
        go false e = reading A L N P S ∙ rw (h₁, e)

    module _ (h₂ : piece_length_of f.piece_length_of ≡ true) where
      small : leb f.piece_length_of longest_piece ≡ true
      small = let b = piece-bounds f.piece_length_of (piece-length-is f.piece_length_of h₂) in le-leb f.piece_length_of longest_piece (omega arith)

      wrong-file : file_length f.length ≡ false → Is (refused 11 (length_place A))
      wrong-file h = reading A L N P S ∙ rw (h₁, small, h₂, h)

      module _ (h₃ : file_length f.length ≡ true) where
        wrong-total : total_and f.length (piece_count_of f) ≡ false → Is (refused 11 (length_place A))
        unfolding sized_of
        wrong-total h = reading A L N P S ∙ rw (h₁, small, h₂, h₃, h)

        module _ (h₄ : total_and f.length (piece_count_of f) ≡ true) where
          wrong-pieces : eqb (length f.pieces) (20 * piece_count_of f) ≡ false → Is (refused 12 (pieces_place A L N P))
          unfolding sized_of
          wrong-pieces h = reading A L N P S ∙ rw (h₁, small, h₂, h₃, h₄, h)

          right : eqb (length f.pieces) (20 * piece_count_of f) ≡ true → Is (taken told)
          unfolding sized_of
          right h = reading A L N P S ∙ rw (h₁, small, h₂, h₃, h₄, h)

  pub kept-told : Ruled f → Is (taken told)
  kept-told h = right h.name h.piece h.file h.total h.hashes

  pub judged : Judged (torrent_of (torrent_value f))
  judged = go (good_name f.name) refl (piece_length_of f.piece_length_of) refl (file_length f.length) refl (total_and f.length (piece_count_of f)) refl (eqb (length f.pieces) (20 * piece_count_of f)) refl
    where
      go : (a : Bool) → good_name f.name ≡ a → (b : Bool) → piece_length_of f.piece_length_of ≡ b → (c : Bool) → file_length f.length ≡ c
          → (d : Bool) → total_and f.length (piece_count_of f) ≡ d → (e : Bool) → eqb (length f.pieces) (20 * piece_count_of f) ≡ e → Judged (torrent_of (torrent_value f))
      go false h₁ b h₂ c h₃ d h₄ e h₅ = rw (wrong_name h₁) (broken 13 (name_place A L) (bad_name h₁))
      go true h₁ false h₂ c h₃ d h₄ e h₅ = rw (wrong-piece h₁ h₂) (broken 11 (piece_place A L N) (bad-piece h₁ h₂))
      go true h₁ true h₂ false h₃ d h₄ e h₅ = rw (wrong-file h₁ h₂ h₃) (broken 11 (length_place A) (bad-file h₁ h₂ h₃))
      go true h₁ true h₂ true h₃ false h₄ e h₅ = rw (wrong-total h₁ h₂ h₃ h₄) (broken 11 (length_place A) (bad-total h₁ h₂ h₃ h₄))
      go true h₁ true h₂ true h₃ true h₄ false h₅ = rw (wrong-pieces h₁ h₂ h₃ h₄ h₅) (broken 12 (pieces_place A L N P) (bad-pieces h₁ h₂ h₃ h₄ h₅))
      go true h₁ true h₂ true h₃ true h₄ true h₅ = rw (right h₁ h₂ h₃ h₄ h₅) (kept (record { name = h₁; piece = h₂; file = h₃; total = h₄; hashes = h₅ }))

  -- what the rules come to
  module _ {X : Type 0} (o : Outcome X) where
    pub ruled-broken : {n : ℕ} → Broken f n → ruled f o ≡ refused n 0
    unfolding ruled
    ruled-broken (bad_name h₁) = rw h₁
    ruled-broken (bad-piece h₁ h₂) = rw (h₁, h₂)
    ruled-broken (bad-file h₁ h₂ h₃) = rw (h₁, h₂, h₃)
    ruled-broken (bad-total h₁ h₂ h₃ h₄) = rw (h₁, h₂, h₃, h₄)
    ruled-broken (bad-pieces h₁ h₂ h₃ h₄ h₅) = rw (h₁, h₂, h₃, h₄, h₅)

    pub ruled-kept : Ruled f → ruled f o ≡ o
    unfolding ruled
    ruled-kept h = rw (h.name, h.piece, h.file, h.total, h.hashes)

  -- the reader's rules on the torrent to be written, every place 0, are those rules
  pub rules-are : at_start (torrent_of (torrent_value f)) ≡ ruled f (taken told)
  rules-are = go (torrent_of (torrent_value f)) judged
    where
      go : (o : Outcome Torrent) → Judged o → at_start o ≡ ruled f (taken told)
      go o (kept h) = sym (ruled-kept (taken told) h)
      go o (broken n p h) = sym (ruled-broken (taken told) h)

  -- then the limit of a text
  abbrev pub limited : Outcome ℕ
  limited = cond (ltb most_text (length (text_of f))) (refused 8 0) (taken (length (text_of f)))

  pub size-ruled : size_of f ≡ ruled f limited
  unfolding size_of
  size-ruled = go (torrent_of (torrent_value f)) judged
    where
      go : (o : Outcome Torrent) → Judged o → then (at_start o) (λ t. limited) ≡ ruled f limited
      go o (kept h) = sym (ruled-kept limited h)
      go o (broken n p h) = sym (ruled-broken limited h)
