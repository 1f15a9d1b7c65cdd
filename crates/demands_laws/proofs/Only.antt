-- The number of a refusal is one of a list, call by call. Assumes nothing.
use mathlib.Core.Path.{◌≡◌, refl, sym, ◌∙◌, subst}
use mathlib.Core.Bool.{Bool, false, ◌||◌}
use mathlib.Core.Logic.{◌⊎◌, inl, inr, ⊎_elim}
use mathlib.Core.List.Memᴰ
use mathlib.Core.List.{List, [], ◌∷◌, ◌++◌, Memᴰ as In}
use Prim.Native.Nat.{ℕ, zero, suc, ◌+◌, ◌≤◌, ◌<◌}
use native.Mathlib.Omega.{arith}
use lib.Dec.{eqb}
use lib.ListN.{length}
use borrow.Author.Tests.{eq-eqb}
use Rattle.refusal.specs.Paper.{taken, refused, map, then}
use Rattle.bencode.specs.Value as value
use Rattle.bencode.specs.Decode.{decode}
use Rattle.bencode.specs.Answers.{check_of}
use Rattle.bencode_laws.proofs.Laws as bencode
use Rattle.bencode_laws.proofs.Laws.{Numbered, eight}
use Rattle.torrent_blocks.specs.Spans.{Span}
use Rattle.torrent_blocks.specs.Answers.{spot}
use Rattle.torrent_blocks.specs.Covers.{run, BlockCause, block-range, block-beyond, block-outside, block_room, ByteCause, byte-range, byte-beyond, byte-outside, SizeCause, size-range, size-beyond}
use Rattle.peer_wire.specs.Causes.{ShakeCause, WriteCause, Cause as FrameCause}
use Rattle.tracker.specs.Reply.{reply_of, counted, nth_of}
use Rattle.tracker.specs.Faults as faults
use Rattle.torrent_metainfo.specs.Reading.{read_of}
use Rattle.torrent_metainfo.specs.declared.Torrent.{Torrent}
use Rattle.torrent_authoring.specs.Writing.{Fields}
use Rattle.torrent_authoring.specs.Rules as rules
use Rattle.torrent_laws.proofs.Laws as torrents
use Rattle.torrent_contents.specs.Pieces.{hash_in, hash_of, check_of as piece_of}
use Rattle.torrent_contents.specs.Files as file
use Rattle.sheets.specs.Reading.{of, find_of}
use Rattle.sheets.specs.declared.Source.TheVariants.{Torrent as OfTorrent, Sheet as OfSheet}
use Rattle.bencode_writer.proofs.Puts.{NoRoom}
use Rattle.links.specs.Reading.{left_of}
use Rattle.links.specs.Writing.{written_of, write_of}
use Rattle.links_laws.proofs.Laws.{Unread, left-refused}
use Rattle.week.specs.Rules.{table_of, package_at, week_of, package_of}
use Rattle.week.specs.Writing.{write_of as week_text_of}
use Rattle.week_laws.specs.Causes.{NoTable, long-table, no_table, NoEntry, long-file, no-count, past-last, no-offset, no_length, no_hash, no_body}
use Rattle.week_laws.proofs.Laws as week-laws
use Rattle.week_laws.proofs.Numbers as weeks
use Rattle.week_laws.proofs.Back as week-back
use Rattle.refusal.proofs.Cases.{cannot, less-or, same_or, or_left, or_right}
use Rattle.demands_laws.proofs.Refusals.{map-refused, then-refused}
use Rattle.demands_laws.specs.Causes.{NoReplyText, Unchecked, no-such-piece, long-piece, wrong-length, Unsized, broken, over}
use Rattle.demands_laws.proofs.Contents.{in-hash, check-exactly, file-alike}
use Rattle.demands_laws.proofs.Replies.{peer-alike, reply-law, reply-ours}
use Rattle.demands_laws.proofs.Sheets.{of-torrent, sheet-only}
use Rattle.demands_laws.proofs.Weeks.{package-alike}
use Rattle.demands_laws.proofs.Links.{Over, written-refused, write-refused, size-refused}

abbrev of_bencode : List ℕ
of_bencode = 1 ∷ 2 ∷ 3 ∷ 5 ∷ 6 ∷ 7 ∷ 8 ∷ []

abbrev of_torrent : List ℕ
of_torrent = of_bencode ++ (10 ∷ 11 ∷ 12 ∷ 13 ∷ [])

abbrev of_reply : List ℕ
of_reply = of_bencode ++ (10 ∷ 11 ∷ 15 ∷ [])

-- whether a list has a number; one that it has not is none of its numbers
unfoldable pub has : List ℕ → ℕ → Bool
has [] j = false
has (n ∷ ns) j = let r : Bool = has ns j in eqb n j || r

pub without : (ns : List ℕ) (j : ℕ) → has ns j ≡ false → {k : ℕ} → In k ns → k ≡ j → ⊥
unfolding has
without [] j f i h = Memᴰ.not-nil i
without (n ∷ ns) j f {k} i h = ⊎_elim
    (λ (e : k ≡ n). cannot (eqb n j) (or_left (eqb n j) (has ns j) f) (eq-eqb n j (sym e ∙ h)))
    (λ (m : In k ns). without ns j (or_right (eqb n j) (has ns j) f) m h)
    (Memᴰ.cases_cons i)

-- n numbers from a on
in-run : (a n k : ℕ) → a ≤ k → k < a + n → In k (run a n)
unfolding run
in-run a zero k l h = absurd (omega arith)
in-run a (suc n) k l h = same_or k a (λ e. In.head e) (λ (f : k ≡ a → ⊥). In.tail (in-run (suc a) n k (omega arith) (omega arith)))

among-bencode : (k : ℕ) → Numbered k → In k of_bencode
unfolding run
among-bencode k (l, h, n) = less-or k 4
    (λ f. Memᴰ.append_left (run 5 4) (in-run 1 3 k l (omega arith)))
    (λ f. Memᴰ.append_right (run 1 3) (same_or k 4 (λ e. absurd (n e)) (λ e. in-run 5 4 k (omega (arith, e)) (omega arith))))

among-torrent : (k : ℕ) → 10 ≤ k → k ≤ 13 → In k (10 ∷ 11 ∷ 12 ∷ 13 ∷ [])
unfolding run
among-torrent k l h = in-run 10 4 k l (omega arith)

decoded : (s : List ℕ) (k p : ℕ) → decode s ≡ refused k p → In k of_bencode
decoded s k p e = among-bencode k (bencode.none_other s k p e)

pub check : (s : List ℕ) (k p : ℕ) → check_of s ≡ refused k p → In k of_bencode
check s k p e = decoded s k p ((map-refused value.count (decode s) k p).0 e)

pub torrent : (s : List ℕ) (k p : ℕ) → read_of s ≡ refused k p → In k of_torrent
torrent s k p e = ⊎_elim
    (λ (h : Numbered k). Memᴰ.append_left (10 ∷ 11 ∷ 12 ∷ 13 ∷ []) (among-bencode k h))
    (λ (h : (10 ≤ k) × (k ≤ 13)). Memᴰ.append_right of_bencode (among-torrent k h.0 h.1))
    (torrents.none_other s k p e)

pub reply : (s : List ℕ) (k p : ℕ) → map counted (reply_of s) ≡ refused k p → In k of_reply
reply s k p e = ⊎_elim
    (λ (h : decode s ≡ refused k p). Memᴰ.append_left (10 ∷ 11 ∷ 15 ∷ []) (decoded s k p h))
    (λ (h : NoReplyText s k p). Memᴰ.append_right of_bencode (reply-ours h.0 k p h.2))
    ((reply-law s k p).0 e)

-- of a torrent beside a sheet, and of the sheet
pub torrent-beside : (t s : List ℕ) (k p : ℕ) → find_of t s ≡ of OfTorrent (refused k p) → In k of_torrent
torrent-beside t s k p e = torrent t k p ((of-torrent t s k p).0 e)

pub sheet : (t s : List ℕ) (k p : ℕ) → find_of t s ≡ of OfSheet (refused k p) → In k (of_bencode ++ (10 ∷ 15 ∷ []))
sheet t s k p e = ⊎_elim
    (λ (h : Numbered k). Memᴰ.append_left (10 ∷ 15 ∷ []) (among-bencode k h))
    (λ (h : (k ≡ 10) ⊎ (k ≡ 15)). Memᴰ.append_right of_bencode (⊎_elim (λ (f : k ≡ 10). In.head f) (λ (f : k ≡ 15). In.tail (In.head f)) h))
    (sheet-only t s k p e)

-- of a link that is read, and of a torrent whose link is written
unread : (s h d t : List ℕ) (k p : ℕ) → Unread s h d t k p → In k (8 ∷ 19 ∷ 37 ∷ [])
unread s h d t k p (inl x) = In.head x.0
unread s h d t k p (inr (inl x)) = In.tail (In.head x.0)
unread s h d t k p (inr (inr x)) = In.tail (In.tail (In.head x.0))

pub link : (s h d t : List ℕ) (k p : ℕ) → (left_of s h d t).answer ≡ refused k p → In k (8 ∷ 19 ∷ 37 ∷ [])
link s h d t k p e = unread s h d t k p ((left-refused s h d t k p).0 e)

link-text : (s : List ℕ) (k p : ℕ) → written_of s ≡ refused k p → In k of_torrent
link-text s k p e = ⊎_elim
    (λ (h : read_of s ≡ refused k p). torrent s k p h)
    (λ (h : (k ≡ 8) × Over s × (p ≡ 0)). Memᴰ.append_left (10 ∷ 11 ∷ 12 ∷ 13 ∷ []) (among-bencode k (subst Numbered (sym h.0) eight)))
    ((written-refused s k p).0 e)

pub link-writer : (s o : List ℕ) (k p : ℕ) → (write_of s o).answer ≡ refused k p → In k (37 ∷ of_torrent)
link-writer s o k p e = ⊎_elim
    (λ (h : written_of s ≡ refused k p). In.tail (link-text s k p h))
    (λ (h : NoRoom o (written_of s) k p). In.head h.0)
    ((write-refused s o k p).0 e)

pub link-size : (s : List ℕ) (k p : ℕ) → map length (written_of s) ≡ refused k p → In k of_torrent
link-size s k p e = link-text s k p ((size-refused s k p).0 e)

-- of a week's file: a torrent's numbers, or 18 too
among-week : (k : ℕ) → Numbered k ⊎ (((10 ≤ k) × (k ≤ 13)) ⊎ (k ≡ 18)) → In k (18 ∷ of_torrent)
among-week k h = ⊎_elim
    (λ (x : Numbered k). In.tail (Memᴰ.append_left (10 ∷ 11 ∷ 12 ∷ 13 ∷ []) (among-bencode k x)))
    (⊎_elim (λ (x : (10 ≤ k) × (k ≤ 13)). In.tail (Memᴰ.append_right of_bencode (among-torrent k x.0 x.1))) (λ (x : k ≡ 18). In.head x))
    h

pub week : (s : List ℕ) (k p : ℕ) → week_of s ≡ refused k p → In k (18 ∷ of_torrent)
week s k p e = among-week k (weeks.none_other s k p ((week-laws.week-faults s k p).0 e))

pub week-table : (s : List ℕ) (k p : ℕ) → table_of s ≡ refused k p → In k (8 ∷ 18 ∷ [])
week-table s k p e = go k p ((week-laws.table-faults s k p).0 e)
  where
    go : (j q : ℕ) → NoTable s j q → In j (8 ∷ 18 ∷ [])
    go j q (long-table l) = In.head refl
    go j q (no_table r l w) = In.tail (In.head refl)

pub week-entry : (s : List ℕ) (i k p : ℕ) → package_at s i ≡ refused k p → In k (31 ∷ 18 ∷ of_torrent)
week-entry s i k p e = go k p ((week-laws.entry-faults s i k p).0 e)
  where
    go : (j q : ℕ) → NoEntry s i j q → In j (31 ∷ 18 ∷ of_torrent)
    go j q (long-file l) = In.tail (among-week j (inl eight))
    go j q (no-count l h) = In.tail (In.head refl)
    go j q (past-last n l c h) = In.head refl
    go j q (no-offset n l c b h) = In.tail (In.head refl)
    go j q (no_length n at l c b o h) = In.tail (In.head refl)
    go j q (no_hash n at m l c b o f g h) = In.tail (In.head refl)
    go j q (no_body n at m a b l c d x h) = In.tail (among-week a (weeks.body-ours s i at m a b h))

pub week-writer : (bs ns o : List ℕ) (k p : ℕ) → (week_text_of bs ns o).answer ≡ refused k p → In k (37 ∷ 18 ∷ of_torrent)
week-writer bs ns o k p e = go (week-back.none_other bs ns o k p e)
  where
    go : week-back.Ours k → In k (37 ∷ 18 ∷ of_torrent)
    go (inl h) = In.tail (among-week k (inl h))
    go (inr (inl h)) = In.tail (among-week k (inr (inl h)))
    go (inr (inr (inl h))) = In.tail (In.head h)
    go (inr (inr (inr h))) = In.head h

-- as another call, or 31
beyond-or : (ns : List ℕ) (k : ℕ) → ((k ≡ 31 → ⊥) → In k ns) → In k (31 ∷ ns)
beyond-or ns k f = same_or k 31 (λ e. In.head e) (λ n. In.tail (f n))

pub week-package : (s : List ℕ) (i k p : ℕ) → package_of s i ≡ refused k p → In k (31 ∷ 18 ∷ of_torrent)
week-package s i k p e = beyond-or (18 ∷ of_torrent) k (λ l. week s k p ((package-alike s i k p l).0 e))

pub file-entry : (s : List ℕ) (n k p : ℕ) → file.entry_of s n ≡ refused k p → In k (31 ∷ of_torrent)
file-entry s n k p e = beyond-or of_torrent k (λ l. torrent s k p ((file-alike s n k p l).0 e))

pub piece-hash : (s : List ℕ) (n k p : ℕ) → hash_of s n ≡ refused k p → In k (31 ∷ of_torrent)
piece-hash s n k p e = ⊎_elim
    (λ (h : read_of s ≡ refused k p). In.tail (torrent s k p h))
    (λ (h : (t : Torrent) × (read_of s ≡ taken t) × (hash_in n t ≡ refused k p)). In.head ((in-hash h.0 n k p).0 h.2).0)
    ((then-refused (read_of s) (hash_in n) k p).0 e)

unchecked : (t : Torrent) (n : ℕ) (m : List ℕ) (k : ℕ) → Unchecked t n m k → In k (31 ∷ 34 ∷ of_torrent)
unchecked t n m k (no-such-piece l) = In.head refl
unchecked t n m k (long-piece l h) = In.tail (In.tail (Memᴰ.append_left (10 ∷ 11 ∷ 12 ∷ 13 ∷ []) (among-bencode 8 eight)))
unchecked t n m k (wrong-length l h g) = In.tail (In.head refl)

pub piece-check : (s : List ℕ) (n : ℕ) (m : List ℕ) (k p : ℕ) → piece_of s n m ≡ refused k p → In k (31 ∷ 34 ∷ of_torrent)
piece-check s n m k p e = ⊎_elim
    (λ (h : read_of s ≡ refused k p). In.tail (In.tail (torrent s k p h)))
    (λ (h : (t : Torrent) × (read_of s ≡ taken t) × Unchecked t n m k × (p ≡ 0)). unchecked h.0 n m k h.2)
    ((check-exactly s n m k p).0 e)

pub peer : (s : List ℕ) (n k p : ℕ) → then (reply_of s) (nth_of n) ≡ refused k p → In k (31 ∷ of_reply)
peer s n k p e = beyond-or of_reply k (λ l. reply s k p ((peer-alike s n k p l).0 e))

-- ---- blocks

module _ (files : List Span) (pl : ℕ) where
  pub block : (p o n room k : ℕ) → BlockCause files pl (spot p o) n room k → In k (11 ∷ 31 ∷ 34 ∷ 37 ∷ [])
  block p o n room k (block-range h) = In.head refl
  block p o n room k (block-beyond f h) = In.tail (In.head refl)
  block p o n room k (block-outside f g h) = In.tail (In.tail (In.head refl))
  block p o n room k (block_room f g h i) = In.tail (In.tail (In.tail (In.head refl)))

  pub byte : (f o k : ℕ) → ByteCause files pl f o k → In k (11 ∷ 31 ∷ 34 ∷ [])
  byte f o k (byte-range h) = In.head refl
  byte f o k (byte-beyond g h) = In.tail (In.head refl)
  byte f o k (byte-outside g h i) = In.tail (In.tail (In.head refl))

  pub piece-size : (p k : ℕ) → SizeCause files pl p k → In k (11 ∷ 31 ∷ [])
  piece-size p k (size-range h) = In.head refl
  piece-size p k (size-beyond f h) = In.tail (In.head refl)

-- ---- frames and handshakes

pub frame : (s : List ℕ) (k p : ℕ) → FrameCause s (refused k p) → In k (20 ∷ 21 ∷ [])
frame s k p (inl h, z) = In.head h.0
frame s k p (inr h, z) = In.tail (In.head h.0)

pub handshake : (info s : List ℕ) (k p : ℕ) → ShakeCause info s (refused k p) → In k (22 ∷ 23 ∷ [])
handshake info s k p (inl h, z) = In.head h.0
handshake info s k p (inr h, z) = In.tail (In.head h.0)

pub write : (rest o : List ℕ) (k p : ℕ) → WriteCause rest o (refused k p) → In k (20 ∷ 21 ∷ 37 ∷ [])
write rest o k p (inl h, z) = In.head h.0
write rest o k p (inr (inl h), z) = In.tail (In.head h.0)
write rest o k p (inr (inr h), z) = In.tail (In.tail (In.head h.0))

-- ---- the writers of texts

pub reply-writer : (n : ℕ) (bs o : List ℕ) (k : ℕ) → faults.NotWritten n bs o k → In k (8 ∷ 11 ∷ 15 ∷ 37 ∷ [])
reply-writer n bs o k (faults.too-late h) = In.tail (In.head refl)
reply-writer n bs o k (faults.not-sixes a h) = In.tail (In.tail (In.head refl))
reply-writer n bs o k (faults.too_long a b h) = In.head refl
reply-writer n bs o k (faults.no_room a b c h) = In.tail (In.tail (In.tail (In.head refl)))

module _ (f : Fields) where
  rule : (k : ℕ) → rules.Broken f k → In k (11 ∷ 12 ∷ 13 ∷ [])
  rule k (rules.bad_name a) = In.tail (In.tail (In.head refl))
  rule k (rules.bad-piece a b) = In.head refl
  rule k (rules.bad-file a b c) = In.head refl
  rule k (rules.bad-total a b c d) = In.head refl
  rule k (rules.bad-pieces a b c d e) = In.tail (In.head refl)

  pub torrent-writer : (o : List ℕ) (k : ℕ) → rules.NotWritten f o k → In k (8 ∷ 11 ∷ 12 ∷ 13 ∷ 37 ∷ [])
  torrent-writer o k (rules.broken b) = In.tail (Memᴰ.append_left (37 ∷ []) (rule k b))
  torrent-writer o k (rules.too_long h l) = In.head refl
  torrent-writer o k (rules.no_room h l r) = In.tail (In.tail (In.tail (In.tail (In.head refl))))

  pub torrent-size : (k : ℕ) → Unsized f k → In k (8 ∷ 11 ∷ 12 ∷ 13 ∷ [])
  torrent-size k (broken b) = In.tail (rule k b)
  torrent-size k (over h l) = In.head refl
