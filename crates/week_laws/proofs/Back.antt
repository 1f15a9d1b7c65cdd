-- A week's file put into lent output: what is answered, what then stands there, and that it is read back. Assumes nothing.
use mathlib.Core.Path.{◌≡◌, refl, sym, ap, ◌∙◌, subst}
use mathlib.Core.Logic.{◌⊎◌, inl, inr, ⊎_elim, ◌↔◌}
use mathlib.Core.List.{List, [], ◌∷◌, ◌++◌, append_assoc}
use Prim.Native.Nat.{ℕ, ◌+◌, ◌*◌, ◌<◌, ◌≤◌}
use native.Mathlib.Omega.{arith}
use lib.ListN.{length, take, drop, length-append}
use lib.Seq.{take_at, drop_at}
use Rattle.refusal.specs.BigEndian.{bytes_of}
use Rattle.refusal.specs.Numbers.{room}
use Rattle.refusal.specs.Paper.{taken, refused}
use Rattle.refusal.proofs.Bytes.{length-bytes_of}
use Rattle.bencode.specs.Value.{dict, encode}
use Rattle.bencode_writer.specs.Put.{Left, left, put_of, puts}
use Rattle.bencode_writer.proofs.Puts.{put-there, NoRoom, puts-refused, puts-taken}
use Rattle.hash_sha1.proofs.Determined.{digest-length}
use Rattle.bencode_laws.proofs.Laws.{Numbered, eight}
use Rattle.torrent_laws.specs.Torrent.{TorrentSays}
use Rattle.torrent_laws.proofs.Laws as torrents
use Rattle.week.specs.File.{Package, entries_from, bodies_of, table_bytes, file_of}
use Rattle.week.specs.Writing.{cut_by, written_of, write_of}
use Rattle.week_laws.specs.Week.{ArePackages, one_more, IsWeek, lengths_of}
use Rattle.week_laws.specs.Causes.{NoPackages, this-body, this-hash, later, Unwritten, wrong-number, wrong-sum, bad-package, long-week, no_room}
use Rattle.week_laws.proofs.Writing.{length-of, written-only, written-every, written-refused, written-refuses}

-- ---- the bodies bs of the lengths ns, into the output o

module _ (bs ns o : List ℕ) where
  by_written : (w : List ℕ) → written_of bs ns ≡ taken w → write_of bs ns o ≡ put_of w 0 o
  by_written w e = ap (puts o) e

  -- refused exactly for the causes, and at 0
  refused-only : (n p : ℕ) → (write_of bs ns o).answer ≡ refused n p → (p ≡ 0) × Unwritten bs ns (length o) n
  refused-only n p e = ⊎_elim (λ (h : written_of bs ns ≡ refused n p). written-refused bs ns n p (length o) h) no_place ((puts-refused o (written_of bs ns) n p).0 e)
    where
      no_place : NoRoom o (written_of bs ns) n p → (p ≡ 0) × Unwritten bs ns (length o) n
      no_place (m, (w, f, l), z) =
          let (ps, ts, i, b, c) = written-only bs ns w f in
          let k : length ps ≡ length ns = sym (length-of ps) ∙ ap length c in
          let t : length w ≡ length (file_of ps) = ap length i.text in
          (z, subst (Unwritten bs ns (length o)) (sym m) (no_room ps ts (omega (arith, i.some)) (omega (arith, i.few)) i.packages i.different b c (omega (arith, i.short)) (omega arith)))

  refused-every : (n : ℕ) → Unwritten bs ns (length o) n → (write_of bs ns o).answer ≡ refused n 0
  refused-every n u = (puts-refused o (written_of bs ns) n 0).1 (⊎_elim (λ (e : written_of bs ns ≡ refused n 0). inl e) (λ (h : (n ≡ room) × ((w : List ℕ) × (written_of bs ns ≡ taken w) × (length o < length w))). inr (h.0, h.1, refl)) (written-refuses bs ns (length o) n u))

  pub write-refused : (n p : ℕ) → (write_of bs ns o).answer ≡ refused n p ↔ ((p ≡ 0) × Unwritten bs ns (length o) n)
  write-refused n p = (refused-only n p, λ h. refused-every n h.1 ∙ ap (λ (k : ℕ). refused n k) (sym h.0))

  -- taken exactly where the bodies are those of a week's file that has room, with that file's length; and then that file stands in the output
  module _ (q : ℕ) where
    taken-only : (write_of bs ns o).answer ≡ taken q → (w : List ℕ) × (written_of bs ns ≡ taken w) × (length w ≤ length o) × (q ≡ length w) × ((write_of bs ns o).out ≡ w ++ drop q o)
    taken-only e = puts-taken o (written_of bs ns) q e

    pub write-exact : (write_of bs ns o).answer ≡ taken q ↔ ((w : List ℕ) × (ps : List Package) × (ts : List TorrentSays) × IsWeek w ps ts × (bodies_of ps ≡ bs) × (lengths_of ps ≡ ns) × (length w ≤ length o) × (q ≡ length w))
    write-exact = (
      λ e. let (w, f, l, z, y) = taken-only e in let (ps, ts, i, b, c) = written-only bs ns w f in (w, ps, ts, i, b, c, l, z),
      λ (w, ps, ts, i, b, c, l, z).
          let f : written_of bs ns ≡ taken w = rw (← b, ← c) (written-every w ps ts i) in
          ap (λ (x : Left). x.answer) (by_written w f ∙ put-there w o l) ∙ ap taken (sym z),
    )

    pub write-left : (write_of bs ns o).answer ≡ taken q → (w : List ℕ) (ps : List Package) (ts : List TorrentSays) → IsWeek w ps ts → bodies_of ps ≡ bs → lengths_of ps ≡ ns
        → (q ≡ length w) × ((write_of bs ns o).out ≡ w ++ drop q o)
    write-left e w ps ts i b c =
        let (v, f, l, z, y) = taken-only e in
        let g : written_of bs ns ≡ taken w = rw (← b, ← c) (written-every w ps ts i) in
        let h : taken v ≡ taken w = sym f ∙ g in
        let k : v ≡ w = cc in
        (z ∙ ap length k, y ∙ ap (λ (u : List ℕ). u ++ drop q o) k)

    -- what stands there is a week's file of these bodies
    pub write-week : (write_of bs ns o).answer ≡ taken q → (ps : List Package) × (ts : List TorrentSays) × IsWeek (take q (write_of bs ns o).out) ps ts × (bodies_of ps ≡ bs) × (lengths_of ps ≡ ns)
    write-week e =
        let (w, f, l, z, y) = taken-only e in
        let (ps, ts, i, b, c) = written-only bs ns w f in
        let t : take q (write_of bs ns o).out ≡ w = ap (take q) y ∙ take_at w (drop q o) q (sym z) in
        (ps, ts, subst (λ (u : List ℕ). IsWeek u ps ts) (sym t) i, b, c)

-- ---- the numbers: a torrent's, 18, 8 and 37

abbrev pub Ours : ℕ → Type 0
Ours n = Numbered n ⊎ (((10 ≤ n) × (n ≤ 13)) ⊎ ((n ≡ 18) ⊎ (n ≡ 37)))

packages-ours : (seen bs : List (List ℕ)) (n : ℕ) → NoPackages seen bs n → Ours n
packages-ours seen bs n (this-body s b cs m p e) = ⊎_elim (λ (h : Numbered m). inl h) (λ (h : (10 ≤ m) × (m ≤ 13)). inr (inl h)) (torrents.none_other b m p e)
packages-ours seen bs n (this-hash s p t cs i j) = inr (inr (inl refl))
packages-ours seen bs n (later s p t cs m i j h) = packages-ours _ cs m h

unwritten-ours : (bs ns : List ℕ) (size n : ℕ) → Unwritten bs ns size n → Ours n
unwritten-ours bs ns size n (wrong-number h) = inr (inr (inl refl))
unwritten-ours bs ns size n (wrong-sum a b h) = inr (inr (inl refl))
unwritten-ours bs ns size n (bad-package m a b c h) = packages-ours _ (cut_by ns bs) m h
unwritten-ours bs ns size n (long-week ps ts a b k d x y l) = inl eight
unwritten-ours bs ns size n (no_room ps ts a b k d x y l s) = inr (inr (inr refl))

pub none_other : (bs ns o : List ℕ) (n p : ℕ) → (write_of bs ns o).answer ≡ refused n p → Ours n
none_other bs ns o n p e = unwritten-ours bs ns (length o) n ((write-refused bs ns o n p).0 e).1

-- ---- a week's file written again

entries-length : (at : ℕ) (ps : List Package) (ts : List TorrentSays) → ArePackages ps ts → length (entries_from at ps) ≡ 28 * length ps
unfolding entries_from
entries-length at [] ts a = refl
entries-length at (p ∷ ps) ts (one_more _ _ t us i a) =
    let rest : List ℕ = entries_from (at + length p.body) ps in
    let h : length p.hash ≡ 20 = ap length i.hashed ∙ digest-length (encode (dict t.info)) in
    omega (arith, h, entries-length (at + length p.body) ps us a, length-bytes_of 4 at, length-bytes_of 4 (length p.body), length-append (bytes_of 4 at) (bytes_of 4 (length p.body) ++ (p.hash ++ rest)), length-append (bytes_of 4 (length p.body)) (p.hash ++ rest), length-append p.hash rest)

-- a week's file
module _ (s : List ℕ) (ps : List Package) (ts : List TorrentSays) (i : IsWeek s ps ts) where
  -- its bodies are all that stands after its table
  pub bodies-there : drop (table_bytes (length ps)) s ≡ bodies_of ps
  unfolding file_of
  bodies-there =
      let table : List ℕ = bytes_of 4 (length ps) ++ entries_from (table_bytes (length ps)) ps in
      let l : length table ≡ table_bytes (length ps) = omega (arith, entries-length (table_bytes (length ps)) ps ts i.packages, length-bytes_of 4 (length ps), length-append (bytes_of 4 (length ps)) (entries_from (table_bytes (length ps)) ps)) in
      ap (drop (table_bytes (length ps))) (i.text ∙ sym (append_assoc (bytes_of 4 (length ps)) (entries_from (table_bytes (length ps)) ps) (bodies_of ps))) ∙ drop_at table (bodies_of ps) (table_bytes (length ps)) l

  -- of them its bytes are written, wherever there is room
  pub rewrite : (o : List ℕ) → length s ≤ length o → write_of (drop (table_bytes (length ps)) s) (lengths_of ps) o ≡ left (taken (length s)) (s ++ drop (length s) o)
  rewrite o l = rw (bodies-there) (ap (puts o) (written-every s ps ts i) ∙ put-there s o l)
