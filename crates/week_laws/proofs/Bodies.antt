-- The body of a package, and a package by its entry alone, both ways: what is taken is a package, every package is taken, and a refusal has its cause. Assumes nothing.
use mathlib.Core.Path.{◌≡◌, refl, sym, ap, ◌∙◌, subst}
use mathlib.Core.Logic.{◌⊎◌, inl, inr}
use mathlib.Core.Bool.{true}
use mathlib.Core.List.{List}
use Prim.Native.Nat.{ℕ, ◌+◌, ◌<◌, ◌≤◌}
use native.Mathlib.Omega.{arith}
use lib.Dec.{leb, ltb}
use lib.ListN.{length, take, drop}
use borrow.Author.Tests.{leb-true, le-leb, ltb-true, lt-ltb}
use Rattle.refusal.specs.Limits.{most_text}
use Rattle.refusal.specs.Numbers.{week, beyond, long}
use Rattle.refusal.specs.Paper.{Outcome, taken, refused, then}
use Rattle.refusal.specs.Parts.{bytes_at}
use Rattle.refusal.proofs.Cases.{less-or}
use Rattle.refusal.proofs.Outcomes.{not_taken, not-refused, same-refusal}
use Rattle.bencode.specs.Value.{Value, dict, encode}
use Rattle.bencode.specs.Exact.{Fine}
use Rattle.bencode_walk.proofs.Limited.{unless-short}
use Rattle.bencode_fields.proofs.Checks.{Checks, Fault, fault, checks-as, checks-if, checks-then, checks-of}
use Rattle.hash_sha1.specs.Sha1.{sha1}
use Rattle.hash_sha1.specs.Digest.{same}
use Rattle.hash_sha1.proofs.Same.{same_refl, same-equal}
use Rattle.torrent_metainfo.specs.Rules.{provided}
use Rattle.torrent_metainfo.specs.Reading.{read_of}
use Rattle.torrent_metainfo.specs.declared.Torrent.{Torrent}
use Rattle.torrent_laws.specs.Torrent.{TorrentSays, IsTorrent}
use Rattle.torrent_laws.specs.Exact.{ShowsTorrent}
use Rattle.torrent_laws.proofs.Laws.{torrent-exact}
use Rattle.week.specs.File.{Package}
use Rattle.week.specs.Rules.{offset_place, length_place, hash_place, field_at, hash_at, moved, entry_for, body_of, placed_of, within_of, package_at}
use Rattle.week.specs.declared.Entry.{Entry}
use Rattle.week_laws.specs.Week.{IsPackage, files_in, total_in}
use Rattle.week_laws.specs.Causes.{Number, Counts, EntryAt, NoBody, no-torrent, other-hash, NoEntry, long-file, no-count, past-last, no-offset, no_length, no_hash, no_body}
use Rattle.week_laws.proofs.Fields.{checks-provided, checks-unless, checks-field, number_is, count-checks, counts-is}

-- ---- a torrent, whose refusals have their places moved

read-checks : (b : List ℕ) → Checks {M = Value × TorrentSays} (read_of b) (λ k. Fine b k.0 × IsTorrent k.0 k.1) (λ x k. ShowsTorrent b x k.1) (λ n p. read_of b ≡ refused n p)
read-checks b = record {
  only = λ x e. let h = (torrent-exact b).only x e in ((h.0, h.1), (h.2, h.3), h.4);
  every = λ k h. let r = (torrent-exact b).every k.0 k.1 h.0 h.1 in (r.0, r.1, r.2);
  blames = λ n p e. e;
  refuses = λ n p e. e;
}

checks-moved : {A M : Type 0} {o : Outcome A} {Is : M → Type 0} {Shows : A → M → Type 0} {Fails : ℕ → ℕ → Type 0} (from : ℕ) → Checks o Is Shows Fails
    → Checks (moved from o) Is Shows (λ n q. (p : ℕ) × Fails n p × (q ≡ from + p))
checks-moved {A} {M} {o} {Is} {Shows} {Fails} from c = record {
  only = λ x e. c.only x (still o x e);
  every = λ m i. let h = c.every m i in (h.0, ap (moved from) h.1, h.2);
  blames = λ n q e. let h = back o n q e in (h.0, c.blames n h.0 h.1, h.2);
  refuses = λ n q h. ap (moved from) (c.refuses n h.0 h.1) ∙ ap (λ (x : ℕ). refused n x) (sym h.2);
}
  where
    still : (y : Outcome A) (x : A) → moved from y ≡ taken x → y ≡ taken x
    still (taken y) x e = e
    still (refused n p) x e = not_taken e

    back : (y : Outcome A) (n q : ℕ) → moved from y ≡ refused n q → (p : ℕ) × (y ≡ refused n p) × (q ≡ from + p)
    back (taken y) n q e = not-refused e
    back (refused m p) n q e = let z = same-refusal e in (p, ap (λ (x : ℕ). refused x p) z.0, sym z.1)

module _ (s : List ℕ) (i : ℕ) where
  -- ---- package i, whose body of m bytes stands at a place

  abbrev pub pack_in : ℕ → ℕ → Package
  pack_in at m = record { body = take m (drop at s); hash = hash_at s i }

  abbrev pub told_of : ℕ → ℕ → TorrentSays → Entry
  told_of at m t = record { hash = record { from = hash_place i; len = 20 }; body = record { from = at; len = m }; files = files_in t; total = total_in t }

  module _ (at m : ℕ) where
    abbrev text : List ℕ
    text = take m (drop at s)

    abbrev HashIs : TorrentSays → Type 0
    HashIs t = hash_at s i ≡ sha1 (encode (dict t.info))

    abbrev BadBody : ℕ → ℕ → Type 0
    BadBody n q = ((p : ℕ) × (read_of text ≡ refused n p) × (q ≡ at + p)) ⊎ ((k : Value × TorrentSays) × (Fine text k.0 × IsTorrent k.0 k.1) × Fault (HashIs k.1) week (hash_place i) n q)

    to-cause : (n q : ℕ) → BadBody n q → NoBody s i at m n q
    to-cause n q (inl (p, e, f)) = subst (NoBody s i at m n) (sym f) (no-torrent n p e)
    to-cause n q (inr (k, h, fault f)) = other-hash k.0 k.1 h.0 h.1 f

    from-cause : (n q : ℕ) → NoBody s i at m n q → BadBody n q
    from-cause n q (no-torrent a p e) = inl (p, e, refl)
    from-cause n q (other-hash v t f h g) = inr ((v, t), (f, h), fault g)

    told_is : (x : Torrent) (t : TorrentSays) → ShowsTorrent text x t → entry_for i at m x ≡ told_of at m t
    told_is x t h = let a = h.files.files in let b = h.files.total in rw (a, b)

    hash-checks : (x : Torrent) (t : TorrentSays) → ShowsTorrent text x t
        → Checks {M = Unit {0}} (provided (same (sha1 (bytes_at text x.info)) (hash_at s i)) week (hash_place i) (taken (entry_for i at m x))) (λ u. HashIs t) (λ e u. e ≡ told_of at m t) (Fault (HashIs t) week (hash_place i))
    hash-checks x t h =
        checks-if (λ (e : Entry). e ≡ told_of at m t) (entry_for i at m x) (same (sha1 (bytes_at text x.info)) (hash_at s i))
        (λ e. sym (same-equal (sha1 (bytes_at text x.info)) (hash_at s i) e) ∙ ap sha1 h.info)
        (λ e. ap (same (sha1 (bytes_at text x.info))) (e ∙ sym (ap sha1 h.info)) ∙ same_refl (sha1 (bytes_at text x.info))) (told_is x t h)

    pub body-checks : Checks (body_of s i at m) (IsPackage (pack_in at m)) (λ e t. e ≡ told_of at m t) (NoBody s i at m)
    unfolding body_of
    body-checks =
        checks-as (checks-then (checks-moved at (read-checks text)) (λ x k h sh. hash-checks x k.1 sh))
        (λ e k h sh. (k.0.1, record { value = k.0.0; encodes = h.0.0; torrent = h.0.1; hashed = h.1 }, sh))
        (λ t h. (((h.value, t), tt), ((h.encodes, h.torrent), h.hashed), λ e sh. sh)) to-cause from-cause

  -- ---- package i by its entry alone

  -- how many packages there are, where its body stands, how many bytes that has, and what its torrent says
  pub record Entered (n at m : ℕ) (t : TorrentSays) : Type 0 where
    pub short : length s ≤ most_text
    pub counts : Counts s n
    pub before : i < n
    pub entry : EntryAt s i at m
    pub good : IsPackage (pack_in at m) t

  abbrev BadPlaced : ℕ → ℕ → ℕ → ℕ → Type 0
  BadPlaced at m n q = Fault (hash_place i + 20 ≤ length s) week (hash_place i) n q ⊎ ((hash_place i + 20 ≤ length s) × NoBody s i at m n q)

  abbrev BadWithin : ℕ → ℕ → Type 0
  BadWithin n q =
      Fault ((at : ℕ) × Number s (offset_place i) at × Unit {0}) week (offset_place i) n q
      ⊎ ((at : ℕ) × Number s (offset_place i) at × Unit {0}
      × (Fault ((m : ℕ) × Number s (length_place i) m × (at + m ≤ length s)) week (length_place i) n q ⊎ ((m : ℕ) × Number s (length_place i) m × (at + m ≤ length s) × BadPlaced at m n q)))

  abbrev BadPackage : ℕ → ℕ → Type 0
  BadPackage n q =
      Fault (length s ≤ most_text) long 0 n q
      ⊎ ((length s ≤ most_text)
      × (Fault ((x : ℕ) × Counts s x) week 0 n q ⊎ ((x : ℕ) × Counts s x × (Fault (i < x) beyond 0 n q ⊎ ((i < x) × BadWithin n q)))))

  to-entry : (n q : ℕ) → BadPackage n q → NoEntry s i n q
  to-entry n q (inl (fault h)) = long-file (less-or most_text (length s) (λ l. l) (λ l. absurd (h l)))
  to-entry n q (inr (l, inl (fault h))) = no-count l (λ x c. h (x, c))
  to-entry n q (inr (l, inr (x, c, inl (fault h)))) = past-last x l c (less-or i x (λ b. absurd (h b)) (λ b. b))
  to-entry n q (inr (l, inr (x, c, inr (b, inl (fault h))))) = no-offset x l c b (λ at o. h (at, o, tt))
  to-entry n q (inr (l, inr (x, c, inr (b, inr (at, o, u, inl (fault h)))))) = no_length x at l c b o (λ m f g. h (m, f, g))
  to-entry n q (inr (l, inr (x, c, inr (b, inr (at, o, u, inr (m, f, g, inl (fault h))))))) = no_hash x at m l c b o f g h
  to-entry n q (inr (l, inr (x, c, inr (b, inr (at, o, u, inr (m, f, g, inr (a, h))))))) = no_body x at m n q l c b (record { offset = o; size = f; inside = g; hash = a }) h

  from-entry : (n q : ℕ) → NoEntry s i n q → BadPackage n q
  from-entry n q (long-file l) = inl (fault (λ h. absurd (omega arith)))
  from-entry n q (no-count l h) = inr (l, inl (fault (λ c. h c.0 c.1)))
  from-entry n q (past-last x l c b) = inr (l, inr (x, c, inl (fault (λ h. absurd (omega arith)))))
  from-entry n q (no-offset x l c b h) = inr (l, inr (x, c, inr (b, inl (fault (λ o. h o.0 o.1)))))
  from-entry n q (no_length x at l c b o h) = inr (l, inr (x, c, inr (b, inr (at, o, tt, inl (fault (λ f. h f.0 f.1 f.2))))))
  from-entry n q (no_hash x at m l c b o f g h) = inr (l, inr (x, c, inr (b, inr (at, o, tt, inr (m, f, g, inl (fault h))))))
  from-entry n q (no_body x at m k p l c b e h) = inr (l, inr (x, c, inr (b, inr (at, e.offset, tt, inr (m, e.size, e.inside, inr (e.hash, h))))))

  within-checks : Checks {M = ℕ × ℕ × TorrentSays} (within_of s i) (λ k. EntryAt s i k.0 k.1 × IsPackage (pack_in k.0 k.1) k.2) (λ e k. e ≡ told_of k.0 k.1 k.2) BadWithin
  unfolding within_of placed_of
  within-checks =
      checks-as
      (checks-field s (offset_place i) (λ x. true) (λ x. Unit {0}) (λ x e. tt) (λ x u. refl)
      (λ at o u. checks-field s (length_place i) (λ m. leb (at + m) (length s)) (λ m. at + m ≤ length s) (λ m. leb-true (at + m) (length s)) (λ m. le-leb (at + m) (length s))
      (λ m f g. checks-provided (leb (hash_place i + 20) (length s)) (leb-true (hash_place i + 20) (length s)) (le-leb (hash_place i + 20) (length s)) (λ h. body-checks at m))))
      (λ e k h sh. ((k.0, k.1.0, k.1.1), (record { offset = h.0; size = h.2.0; inside = h.2.1; hash = h.2.2.0 }, h.2.2.1), sh))
      (λ k h. ((k.0, (k.1, k.2)), (h.0.offset, tt, (h.0.size, h.0.inside, (h.0.hash, h.1))), λ e sh. sh)) (λ n q h. h) (λ n q h. h)

  pub package-checks : Checks {M = ℕ × ℕ × ℕ × TorrentSays} (package_at s i) (λ k. Entered k.0 k.1 k.2 k.3) (λ e k. e ≡ told_of k.1 k.2 k.3) (NoEntry s i)
  unfolding package_at
  package-checks =
      checks-as (checks-unless s (checks-of (count-checks s) (λ n c. checks-provided (ltb i n) (ltb-true i n) (lt-ltb i n) (λ b. within-checks))))
      (λ e k h sh. ((k.0, k.1.0, k.1.1, k.1.2), record { short = h.0; counts = h.1.0; before = h.1.1.0; entry = h.1.1.1.0; good = h.1.1.1.1 }, sh))
      (λ k h. ((k.0, (k.1, k.2, k.3)), (h.short, (h.counts, (h.before, (h.entry, h.good)))), λ e sh. sh)) to-entry from-entry

  -- where its entry stands in the table, it is its body
  pub at_entry : (n at m : ℕ) → length s ≤ most_text → Counts s n → i < n → EntryAt s i at m → package_at s i ≡ body_of s i at m
  unfolding package_at within_of placed_of
  at_entry n at m l c b e =
      sym (unless-short s _ l) ∙ ap (λ (o : Outcome ℕ). then o (λ x. provided (ltb i x) beyond 0 (within_of s i))) (counts-is s n c) ∙ rw (lt-ltb i n b)
      (ap (λ (o : Outcome ℕ). then o (λ x. then (field_at s (length_place i)) (λ y. placed_of s i x y))) (number_is s (offset_place i) at e.offset)
      ∙ ap (λ (o : Outcome ℕ). then o (λ y. placed_of s i at y)) (number_is s (length_place i) m e.size) ∙ rw (le-leb (at + m) (length s) e.inside, le-leb (hash_place i + 20) (length s) e.hash))
