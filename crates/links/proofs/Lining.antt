-- The line that is printed for a text, by what reading it comes to, and how long it can be. Assumes nothing.
use mathlib.Core.Path.{◌≡◌, sym, ap, ◌∙◌}
use mathlib.Core.List.{List, ◌++◌}
use Prim.Native.Nat.{ℕ, ◌+◌, ◌<◌, ◌≤◌}
use native.Mathlib.Omega.{arith}
use borrow.Author.Tests.{lt-ltb, le-ltb}
use lib.ListN.{length, length-take, length-drop, length-append}
use Rattle.refusal.specs.Texts.{bytes}
use Rattle.refusal.specs.Limits.{most_text}
use Rattle.refusal.specs.Paper.{Outcome, taken, refused}
use Rattle.refusal.specs.Numbers.{long}
use Rattle.refusal.specs.Parts.{bytes_at}
use Rattle.refusal.specs.declared.Part.{Part}
use Rattle.bencode_writer.specs.Put.{left, put_of, puts, place_past, Ran}
use Rattle.bencode_writer.proofs.Escapes.{escaped-most}
use Rattle.bencode_writer.proofs.Runs.{ran-as, put_two}
use Rattle.hash_sha1.specs.Sha1.{sha1}
use Rattle.torrent_metainfo.specs.declared.Torrent.{Torrent}
use Rattle.torrent_metainfo.specs.Reading.{read_of}
use Rattle.torrent_lines.specs.Lines.{refused_line, most_listed}
use Rattle.links.specs.Writing.{unreserved, link_text, unless_long, written_of}
use Rattle.links.specs.Line.{most_line, line_by, line_of}
use Rattle.links.proofs.Putting.{text-length}
use Rattle.hash_sha1.proofs.Determined.{digest-length}
use Rattle.links.proofs.Answers.{written_read, written-refused}

module _ (s : List ℕ) where
  pub line-long : most_listed < length s → refused_line long 0 ≡ line_of s
  unfolding line_of
  line-long l = rw (lt-ltb most_listed (length s) l)

  part-within : (p : Part) → length (bytes_at s p) ≤ length s
  part-within p = simp (length-take, length-drop) (omega arith)

  module _ (l : length s ≤ most_listed) where
    -- by the link of the torrent that the text is, or the refusal
    pub line-short : line_by (written_of s) ≡ line_of s
    unfolding line_of
    line-short = rw (le-ltb most_listed (length s) l)

    pub line_refused : (n p : ℕ) → read_of s ≡ refused n p → refused_line n p ≡ line_of s
    line_refused n p e = ap line_by (written-refused s n p e) ∙ line-short

    module _ (t : Torrent) where
      link-within : length (link_text s t) + 1 ≤ most_line
      link-within =
          omega (arith, l, text-length (sha1 (bytes_at s t.info)) (bytes_at s t.name) (bytes_at s t.announce) (digest-length (bytes_at s t.info)), escaped-most unreserved (bytes_at s t.name), escaped-most unreserved (bytes_at s t.announce), part-within t.name, part-within t.announce)

      -- no link of such a text is too long
      link-whole : unless_long (link_text s t) ≡ taken (link_text s t)
      link-whole = rw (le-ltb most_text (length (link_text s t)) (omega (arith, link-within)))

      pub line-linked : read_of s ≡ taken t → link_text s t ++ bytes "\n" ≡ line_of s
      line-linked e = ap line_by (sym link-whole ∙ written_read s t e) ∙ line-short

      -- the link and a line feed, in output that has room for every line
      pub line-put : read_of s ≡ taken t → (o : List ℕ) → most_line ≤ length o → {a b : Outcome ℕ} {r q : ℕ} {p e : List ℕ}
          → left a p ≡ puts o (unless_long (link_text s t)) → r ≡ place_past a → left b e ≡ put_of (bytes "\n") r p → q ≡ place_past b → Ran (line_of s) 0 o q e × (q ≤ most_line)
      line-put g o h e₁ f₁ e₂ f₂ =
          let whole : 0 + length (link_text s t ++ bytes "\n") ≤ most_line = omega (arith, link-within, length-append (link_text s t) (bytes "\n")) in
          let ran = put_two (link_text s t) (bytes "\n") 0 o (omega arith) (e₁ ∙ ap (puts o) link-whole) f₁ e₂ f₂ in
          (ran-as ran (line-linked g), omega (arith, ran.place))
