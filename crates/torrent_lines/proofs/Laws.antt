-- The listing's answer is determined, a refusal leaves the lent output as it was, and 37 is given exactly where the lines do not fit. Assumes nothing.
use Rattle.std.proofs.Common.{Result, ◌≡◌, sym, ◌∙◌, List, ℕ, ◌<◌, ◌≤◌, arith, length}
use Rattle.refusal.specs.declared.Refusal.{Refusal}
use Rattle.refusal.specs.Paper.{paper, taken, refused}
use Rattle.refusal.specs.Numbers.{room}
use Rattle.bencode_writer.specs.Put.{left, put_of, Ran}
use Rattle.bencode_writer.proofs.Laws.{Standing}
use Rattle.bencode_writer.proofs.Laws as put
use Rattle.torrent_lines.specs.Lines.{listing_of}

-- what `listing` permits of a text s and an output o
module _ (s o : List ℕ) (r : Result ℕ Refusal) {out : List ℕ} (e : left (paper r) out ≡ put_of (listing_of s) 0 o) where
  pub listing-determined : (q : Result ℕ Refusal) {out' : List ℕ} → left (paper q) out' ≡ put_of (listing_of s) 0 o → (r ≡ q) × (out ≡ out')
  listing-determined q f = put.determined (listing_of s) 0 o r e q f

  pub listing-refusal-keeps : {n p : ℕ} → paper r ≡ refused n p → ((n ≡ room) × (p ≡ 0) × (length o < length (listing_of s))) × (out ≡ o)
  listing-refusal-keeps h = let k = put.refusal-keeps (listing_of s) 0 o r e h in ((k.0.0, k.0.1, omega (arith, k.0.2)), k.1)

  -- the lines stand at the front, and what is past them stays
  pub listing-written : {q : ℕ} → paper r ≡ taken q → ((q ≡ length (listing_of s)) × (length (listing_of s) ≤ length o)) × Standing (listing_of s) 0 o out
  listing-written h = let k = put.reads-back (listing_of s) 0 o r e h in ((omega (arith, k.0.0), omega (arith, k.0.1)), k.1)

-- what `size` permits
pub size-determined : (s : List ℕ) (m n : ℕ) → m ≡ length (listing_of s) → n ≡ length (listing_of s) → m ≡ n
size-determined s m n e f = e ∙ sym f

-- what bytes put as far as the output goes permit, as the line of a refusal is
pub ran-determined : (w : List ℕ) (at : ℕ) (o : List ℕ) {r q : ℕ} {out out' : List ℕ} → Ran w at o r out → Ran w at o q out' → (r ≡ q) × (out ≡ out')
ran-determined w at o x y = (x.place ∙ sym y.place, x.out ∙ sym y.out)
