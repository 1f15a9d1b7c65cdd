-- Where a dictionary ends: past the entries that are left where a search stopped. Assumes nothing.
use Rattle.std.proofs.Common.{Err, Ok, Result, ◌≡◌, refl, sym, ap, ◌∙◌, subst, Bool, true, false, cond, List, ℕ, suc, ◌+◌, ◌-◌, ◌<◌, ◌≤◌, arith, length}
use Rattle.refusal.specs.declared.Refusal.{Refusal}
use Rattle.refusal.specs.Paper.{paper, Outcome, taken, refused, map, then}
use Rattle.refusal.specs.declared.Part.{Part}
use Rattle.bencode_scalar.specs.Written.{written_string, key_lt}
use Rattle.bencode.specs.Value.{Value, Items, Entries, dict, empty, entry, encode, encode_entries, Prev, last}
use Rattle.bencode_walk.specs.Walk.{Hit, found, missing, seek_paper, key, close, entry_of, skip_of}
use Rattle.bencode_walk.specs.Stands.{StandEntries}
use Rattle.bencode_walk.specs.Lookup.{Under, nothing, under, lookup}
use Rattle.bencode_walk.specs.declared.Sought.{Sought}
use Rattle.bencode_walk.specs.declared.Sought.TheVariants.{Found, Missing}
use Rattle.bencode_walk.proofs.Standing.{entries-end, entries_next, skip-past}
use Rattle.bencode_walk.proofs.Seeking.{key-further, skip-further}
use Rattle.bencode_walk.proofs.Finding.{sought_of, place_of, seek-stands, entry_length, beyond}
use Rattle.bencode_fields.specs.Values.{list_at_of, must}
use Rattle.bencode_fields.proofs.Seeking.{Left}
use Rattle.torrent_metainfo.specs.declared.Known.{Known}
use Rattle.torrent_metainfo.specs.Keys.{files_key, length_key, name_key, piece_length_key, pieces_key, Tells, stop_of, past_of}
use Rattle.bencode_fields.specs.Looks.{sought_from}
use Rattle.torrent_metainfo.specs.Rules.{lengths_of}
use Rattle.torrent_metainfo.specs.Reading.{listed_to, files_at, running}
use Rattle.torrent_metainfo.specs.Noted.{Goes, Noted}
use Rattle.torrent_metainfo.specs.declared.Content.{Content}
use Rattle.torrent_metainfo.proofs.Naming.{no_way}
use Rattle.torrent_metainfo.proofs.Telling.{Told, tell, tell-first, tell-second}

-- ---- a search stops at one of the entries, or at the e

goes-sought : (s : List ℕ) (d p : ℕ) (before : Prev) (es : Entries) (k : List ℕ) → StandEntries s d p before es → Goes s d p es (place_of (sought_of p es k))
unfolding sought_of
goes-sought s d p before empty k t = record { before = before; left = empty; stands = t; ends = refl }
goes-sought s d p before (entry j v es) k t = go (goes-sought s d (p + length (written_string j) + length (encode v)) (last j) es k (entries_next s d p before j v es t).others) (key_lt j k) refl (key_lt k j) refl
  where
    go : Goes s d (p + length (written_string j) + length (encode v)) es (place_of (sought_of (p + length (written_string j) + length (encode v)) es k)) → (a : Bool) → key_lt j k ≡ a → (b : Bool) → key_lt k j ≡ b
        → Goes s d p (entry j v es) (place_of (cond (key_lt j k) (sought_of (p + length (written_string j) + length (encode v)) es k) (cond (key_lt k j) (missing p) (found p (p + length (written_string j))))))
    go r true x b y = rw x (record { before = r.before; left = r.left; stands = r.stands; ends = r.ends ∙ omega (arith, entry_length j v es) })
    go r false x true y = rw (x, y) (record { before = before; left = entry j v es; stands = t; ends = refl })
    go r false x false y = rw (x, y) (record { before = before; left = entry j v es; stands = t; ends = refl })

stopped-at : (w : Result Sought Refusal) (h : Hit) → seek_paper w ≡ taken h → place_of h ≡ stop_of w
stopped-at (Ok (Found i j)) (found a b) e = cc
stopped-at (Ok (Found i j)) (missing a) e = no_way (cc)
stopped-at (Ok (Missing i)) (found a b) e = no_way (cc)
stopped-at (Ok (Missing i)) (missing a) e = cc
stopped-at (Err r) h e = no_way (cc)

module _ (s : List ℕ) (d : ℕ) (levels : d ≤ 32) (p : ℕ) (es : Entries) where
  goes-seek : (q : ℕ) → Goes s d p es q → (k : List ℕ) (w : Result Sought Refusal) → seek_paper w ≡ sought_from s q k → Goes s d p es (stop_of w)
  goes-seek q g k w e =
      let r = goes-sought s d q g.before g.left k g.stands in
      let z = stopped-at w (sought_of q g.left k) (e ∙ seek-stands s k d levels q g.before g.left g.stands) in
      subst (Goes s d p es) z (record { before = r.before; left = r.left; stands = r.stands; ends = r.ends ∙ g.ends })

-- ---- the entries that are left, one after the other

abbrev pub Closing : List ℕ → ℕ → ℕ → Type 0
Closing s from p = (d : ℕ) → (before : Prev) → (es : Entries) → d ≤ 32 → StandEntries s d from before es → Goes s d from es p

pub closing-start : (s : List ℕ) (from : ℕ) → Closing s from from
closing-start s from d before es l t = record { before = before; left = es; stands = t; ends = refl }

-- a key and the value after it are further on
pub entry-further : (s : List ℕ) (p a m q next : ℕ) → taken (key a m q) ≡ entry_of s p → taken next ≡ skip_of s q → (p < next) × (next ≤ length s)
entry-further s p a m q next e r =
    let x = key-further s p a m q (sym e) in
    let y = skip-further s q next (sym r) in
    (omega arith, omega arith)

module _ (s : List ℕ) (from p : ℕ) (g : Closing s from p) where
  pub closing_end : (q : ℕ) → taken (close q) ≡ entry_of s p → (d : ℕ) → (before : Prev) → (es : Entries) → d ≤ 32 → StandEntries s d from before es → taken q ≡ taken (from + length (encode_entries es))
  unfolding encode
  closing_end q e d before es l t = go (g d before es l t).before (g d before es l t).left (g d before es l t).stands (g d before es l t).ends
    where
      go : (b : Prev) (left : Entries) → StandEntries s d p b left → p + length (encode_entries left) ≡ from + length (encode_entries es) → taken q ≡ taken (from + length (encode_entries es))
      go b empty u i = let f : taken (close q) ≡ taken (close (p + 1)) = e ∙ entries-end s d p b u in let h : q ≡ p + 1 = cc in ap taken (h ∙ i)
      go b (entry j v ws) u i = let f = e ∙ (entries_next s d p b j v ws u).seen in no_way (cc)

  pub closing-not : (r o : ℕ) → refused r o ≡ entry_of s p → (d : ℕ) → (before : Prev) → (es : Entries) → d ≤ 32 → StandEntries s d from before es → refused r o ≡ taken (from + length (encode_entries es))
  closing-not r o e d before es l t = go (g d before es l t).before (g d before es l t).left (g d before es l t).stands
    where
      go : (b : Prev) (left : Entries) → StandEntries s d p b left → refused r o ≡ taken (from + length (encode_entries es))
      go b empty u = let f = e ∙ entries-end s d p b u in no_way (cc)
      go b (entry j v ws) u = let f = e ∙ (entries_next s d p b j v ws u).seen in no_way (cc)

  module _ (a m q : ℕ) (e : taken (key a m q) ≡ entry_of s p) where
    -- the value under the key
    skipped : (d : ℕ) → d ≤ 32 → (b : Prev) (j : List ℕ) (v : Value) (ws : Entries) → StandEntries s d p b (entry j v ws) → skip_of s q ≡ taken (p + length (written_string j) + length (encode v))
    skipped d l b j v ws u =
        let n = entries_next s d p b j v ws u in
        let f : taken (key a m q) ≡ taken (key n.from (length j) (p + length (written_string j))) = e ∙ n.seen in
        let h : q ≡ p + length (written_string j) = cc in
        ap (skip_of s) h ∙ skip-past s d (p + length (written_string j)) v l n.value

    pub closing-bad : (r o : ℕ) → refused r o ≡ skip_of s q → (d : ℕ) → (before : Prev) → (es : Entries) → d ≤ 32 → StandEntries s d from before es → refused r o ≡ taken (from + length (encode_entries es))
    closing-bad r o k d before es l t = go (g d before es l t).before (g d before es l t).left (g d before es l t).stands
      where
        go : (b : Prev) (left : Entries) → StandEntries s d p b left → refused r o ≡ taken (from + length (encode_entries es))
        go b empty u = let f = e ∙ entries-end s d p b u in no_way (cc)
        go b (entry j v ws) u = let f = k ∙ skipped d l b j v ws u in no_way (cc)

    pub closing-more : (next : ℕ) → taken next ≡ skip_of s q → Closing s from next
    closing-more next k d before es l t = go (g d before es l t).before (g d before es l t).left (g d before es l t).stands (g d before es l t).ends
      where
        go : (b : Prev) (left : Entries) → StandEntries s d p b left → p + length (encode_entries left) ≡ from + length (encode_entries es) → Goes s d from es next
        go b empty u i = let f = e ∙ entries-end s d p b u in no_way (cc)
        go b (entry j v ws) u i =
            let f : taken next ≡ taken (p + length (written_string j) + length (encode v)) = k ∙ skipped d l b j v ws u in
            let h : next ≡ p + length (written_string j) + length (encode v) = cc in
            record {
              before = last j;
              left = ws;
              stands = subst (λ (x : ℕ). StandEntries s d x (last j) ws) (sym h) (entries_next s d p b j v ws u).others;
              ends = omega (arith, entry_length j v ws);
            }

-- ---- the keys of info, the files read on the way

files-past : (x : ℕ) (v : Value) (c : Content) (q : ℕ) → taken (listed_to q c) ≡ files_at x v → q ≡ x + length (encode v)
files-past x v c q e = go (list_at_of x v) e
  where
    by : (o : Outcome (List ℕ)) → taken (listed_to q c) ≡ map (λ ns. listed_to (x + length (encode v)) (running x 0 0 ns)) o → q ≡ x + length (encode v)
    by (taken ns) f = let g : listed_to q c ≡ listed_to (x + length (encode v)) (running x 0 0 ns) = cc in ap (λ (y : Content × ℕ). y.1) g
    by (refused r i) f = no_way (cc)

    go : (o : Outcome Items) → taken (listed_to q c) ≡ then o (λ vs. map (λ ns. listed_to (x + length (encode v)) (running x 0 0 ns)) (lengths_of (x + 1) vs)) → q ≡ x + length (encode v)
    go (taken vs) f = by (lengths_of (x + 1) vs) f
    go (refused r i) f = no_way (cc)

module _ (s : List ℕ) (d : ℕ) (levels : d ≤ 32) (p : ℕ) (before : Prev) (es : Entries) (t : StandEntries s d p before es) (info : ℕ) where
  -- past the files, all later keys are left, up to the same end
  passed : (w : Result Sought Refusal) (l : Result (Content × ℕ) Refusal) → Told s d levels p before es t files_key w → Goes s d p es (stop_of w) → paper l ≡ must info (lookup p es files_key) files_at
      → Left s d p es (last files_key) (past_of w l) × Goes s d p es (past_of w l)
  passed w (Err r) a g e = (a.next, g)
  passed w (Ok (c, q)) a g e = go (lookup p es files_key) refl e
    where
      go : (u : Under) → lookup p es files_key ≡ u → taken (listed_to q c) ≡ must info u files_at → Left s d p es (last files_key) q × Goes s d p es q
      go nothing f h = no_way (cc)
      go (under x v) f h =
          let b = beyond s d p before es files_key t x v f in
          let i : x + length (encode v) ≡ q = sym (files-past x v c q h) in (
            subst (Left s d p es (last files_key)) i (record { before = last files_key; left = b.left; stands = b.stands; same = b.same }),
            subst (Goes s d p es) i (record { before = last files_key; left = b.left; stands = b.stands; ends = b.ends }),
          )

  pub noted : (k : Known) → seek_paper k.files ≡ sought_from s p files_key → ((u : Under) → Tells s d u k.files → paper k.listed ≡ must info u files_at)
      → seek_paper k.length ≡ sought_from s (past_of k.files k.listed) length_key → seek_paper k.name ≡ sought_from s (stop_of k.length) name_key
      → seek_paper k.piece_length ≡ sought_from s (stop_of k.name) piece_length_key → seek_paper k.pieces ≡ sought_from s (stop_of k.piece_length) pieces_key
      → Noted s d info p es k
  unfolding key_lt
  noted k e h f i j m =
      let a = tell-first s d levels p before es t files_key k.files e in
      let g = goes-seek s d levels p es p (record { before = before; left = es; stands = t; ends = refl }) files_key k.files e in
      let l = h (lookup p es files_key) a.told in
      let x = passed k.files k.listed a g l in
      let b = tell s d levels p before es t (last files_key) length_key (past_of k.files k.listed) k.length x.0 refl f in
      let c = tell-second s d levels p before es t length_key name_key k.length k.name b refl i in
      let n = tell-second s d levels p before es t name_key piece_length_key k.name k.piece_length c refl j in
      let o = tell-second s d levels p before es t piece_length_key pieces_key k.piece_length k.pieces n refl m in
      let y = goes-seek s d levels p es (past_of k.files k.listed) x.1 length_key k.length f in
      let z = goes-seek s d levels p es (stop_of k.length) y name_key k.name i in
      let v = goes-seek s d levels p es (stop_of k.name) z piece_length_key k.piece_length j in
      let w = goes-seek s d levels p es (stop_of k.piece_length) v pieces_key k.pieces m in
      record { files = a.told; listed = l; length = b.told; name = c.told; piece = n.told; pieces = o.told; close = w }

-- ---- info as a part of the text

module _ (s : List ℕ) (d p from : ℕ) (es : Entries) (levels : d ≤ 32) (g : Goes s d (p + 1) es from) (o : Outcome ℕ)
    (h : (d : ℕ) → (before : Prev) → (ws : Entries) → d ≤ 32 → StandEntries s d from before ws → o ≡ taken (from + length (encode_entries ws))) where
  info-end : o ≡ taken (p + length (encode (dict es)))
  unfolding encode
  info-end =
      let z : p + 1 + length (encode_entries es) ≡ p + suc (length (encode_entries es)) = omega arith in
      h d g.before g.left levels g.stands ∙ ap taken (g.ends ∙ z)

  pub info-part : (q : ℕ) → taken q ≡ o → ◌≡◌ {A = Part} (record { from = p; len = q - p }) (record { from = p; len = length (encode (dict es)) })
  info-part q f =
      let x : taken q ≡ taken (p + length (encode (dict es))) = f ∙ info-end in
      let y : q ≡ p + length (encode (dict es)) = cc in
      let z : q - p ≡ length (encode (dict es)) = omega arith in
      ap (λ (i : ℕ). record { from = p; len = i }) z

  pub info-read : {A : Type 0} (r i : ℕ) → refused r i ≡ o → A
  info-read r i f = let x : refused r i ≡ taken (p + length (encode (dict es))) = f ∙ info-end in no_way (cc)
