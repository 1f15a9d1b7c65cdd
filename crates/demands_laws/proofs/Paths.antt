-- Where the elements of a path stand, `element_at` gives them one after the other, and then the end. Assumes nothing.
use mathlib.Core.Path.{◌≡◌, sym, ap, ◌∙◌}
use mathlib.Core.Bool.{true}
use mathlib.Core.List.{List, [], ◌∷◌, ◌++◌, append_assoc}
use Prim.Native.Nat.{ℕ, ◌+◌, ◌≤◌, ◌<◌}
use native.Mathlib.Omega.{arith}
use lib.ListN.{length, take, drop, length-append, length-drop, take-append-drop}
use lib.Seq.{take-append_seam}
use Rattle.refusal.specs.Limits.{most_text}
use Rattle.refusal.specs.Paper.{Outcome, taken, then}
use Rattle.refusal.specs.Parts.{bytes_at}
use Rattle.refusal.specs.declared.Part.{Part}
use Rattle.bencode_scalar.specs.Written.{decimal, written_string}
use Rattle.bencode.specs.Value.{encode, encode_items, Keeps, KeepsItems, count}
use Rattle.bencode_walk.specs.Walk.{Head, look_of}
use Rattle.bencode_walk.proofs.Standing.{past, string-stands, items-end}
use Rattle.torrent_metainfo.specs.Rules.{good_name}
use Rattle.torrent_laws.specs.Torrent.{GoodName, string_items}
use Rattle.torrent_laws.specs.Exact.{PathAt}
use Rattle.torrent_laws.proofs.Names.{is-good}
use Rattle.torrent_contents.specs.Paths.{element, done, element_in, element_of}

module _ (s : List ℕ) (p : ℕ) (short : length s ≤ most_text) where
  -- what stands there, and what follows it
  there : (w : List ℕ) → take (length w) (drop p s) ≡ w → drop p s ≡ w ++ drop (length w) (drop p s)
  there w e = sym (take-append-drop (length w) (drop p s)) ∙ ap (λ (l : List ℕ). l ++ drop (length w) (drop p s)) e

  within : (w r : List ℕ) → 0 < length w → drop p s ≡ w ++ r → p ≤ length s
  within w r h e = omega (arith, length-drop p s, ap length e, length-append w r)

  seen : {h : Head} → look_of s p ≡ taken h → element_of s p ≡ element_in s p h
  seen e = ap (λ (o : Outcome Head). then o (element_in s p)) e

  pub path-end : PathAt s p [] → element_of s p ≡ taken (done (p + 1))
  unfolding string_items encode_items count KeepsItems
  path-end e =
      let t = there (101 ∷ []) e in
      seen (items-end s 0 p (record { rest = drop 1 (drop p s); text = t; inside = within (101 ∷ []) (drop 1 (drop p s)) (omega arith) t; short = short; keeps = tt; few = omega arith }))

  pub path-next : (x : List ℕ) (l : List (List ℕ)) → PathAt s p (x ∷ l) → GoodName x
      → (q : Part) × (element_of s p ≡ taken (element q (p + length (written_string x)))) × (bytes_at s q ≡ x) × PathAt s (p + length (written_string x)) l
  unfolding string_items encode Keeps count
  path-next x l e g =
      let w = encode_items (string_items l) in
      let r = drop (length (written_string x ++ w)) (drop p s) in
      let t : drop p s ≡ written_string x ++ (w ++ r) = there (written_string x ++ w) e ∙ append_assoc (written_string x) w r in
      let h : 0 < length (written_string x) = omega (arith, length-append (decimal (length x)) (58 ∷ x)) in
      let b = string-stands s 0 p x (record { rest = w ++ r; text = t; inside = within (written_string x) (w ++ r) h t; short = short; keeps = tt; few = omega arith }) in
      let f : good_name (take (length x) (drop b.from s)) ≡ true = ap good_name b.bytes ∙ is-good x g in (
        record { from = b.from; len = length x },
        seen b.seen ∙ rw f,
        b.bytes,
        ap (take (length w)) (past s p (written_string x) (w ++ r) t) ∙ take-append_seam w r,
      )
