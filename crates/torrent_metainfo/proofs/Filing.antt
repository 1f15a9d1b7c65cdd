-- A file that stands at a place, and the files one after the other. Assumes nothing.
use Rattle.std.proofs.Common.{◌≡◌, refl, sym, ap, ◌∙◌, subst, arith, Bool, true, false, cond, List, [], ◌∷◌, ◌++◌, ℕ, suc, ◌+◌, ◌<◌, ◌≤◌, min, length, drop, length-append, length-drop, drop_of_length-le, ltb, leb, pos, negsuc, ltb-true, ltb-false, leb-true, Err, Ok, Result}
use Rattle.refusal.specs.declared.Refusal.{Refusal}
use Rattle.refusal.specs.Paper.{Outcome, taken, refused, then, map}
use Rattle.refusal.specs.Limits.{most_text, longest_file}
use Rattle.refusal.proofs.Cases.{less-or}
use Rattle.refusal.proofs.Outcomes.{map-taken}
use Rattle.bencode_scalar.specs.Reading.{Got, got, bad}
use Rattle.bencode_scalar.specs.Written.{key_lt}
use Rattle.bencode_scalar.proofs.Sound.{Holds}
use Rattle.bencode.specs.Value.{Value, Items, Entries, str, int, list, dict, none, item, encode, encode_items, encode_entries, count, Prev, start, last}
use Rattle.bencode.specs.Decode.{closes, kind_of, value_from}
use Rattle.bencode.proofs.Complete.{complete, encode-pos}
use Rattle.bencode.proofs.Sound.{Took, value-sound}
use Rattle.bencode_walk.specs.Walk.{seek_paper, skip_of, past_of}
use Rattle.bencode_walk.specs.Stands.{Stands, StandItems, StandEntries}
use Rattle.bencode_walk.specs.Lookup.{Under, nothing, under, lookup}
use Rattle.bencode_walk.specs.declared.Sought.{Sought}
use Rattle.bencode_walk.specs.declared.Sought.TheVariants.{Found, Missing}
use Rattle.bencode_walk.proofs.Standing.{list-stands, dictionary-stands, items-next, room, keeps-more, closes-none, closes-item, skip-long, skip-short}
use Rattle.bencode_walk.proofs.Limited.{unless-long, unless-short}
use Rattle.bencode_walk.proofs.Finding.{beyond}
use Rattle.bencode_fields.specs.Looks.{ending_at, needed, number_of, list_of, dictionary_of, sought_from}
use Rattle.bencode_fields.specs.Values.{natural_at, list_at_of, dictionary_at, must}
use Rattle.bencode_fields.proofs.Standing.{number_is, list-is, dictionary-is}
use Rattle.bencode_fields.proofs.Typed.{dictionary-checks}
use Rattle.torrent_blocks.specs.Rules.{sum, largest}
use Rattle.torrent_metainfo.specs.declared.File.{File}
use Rattle.torrent_metainfo.specs.declared.Content.{Content}
use Rattle.torrent_metainfo.specs.Keys.{length_key, path_key, Tells}
use Rattle.torrent_metainfo.specs.Rules.{path_at, file_in, file_of, lengths_of, one_file, content_of}
use Rattle.torrent_metainfo.specs.Reading.{value_in_of, value_at, file_at, listed_to, files_at, running, stopped}
use Rattle.torrent_metainfo.proofs.Naming.{no_way, moved, not_taken, not-then}
use Rattle.torrent_metainfo.proofs.Telling.{tells-read, tell-first}

-- what is read with the place past it, and without
took : (y m past : ℕ) (o : Outcome ℕ) → taken (ending_at past m) ≡ map (ending_at y) o → (taken m ≡ o) × (y ≡ past)
took y m past (taken n) e = let g : ending_at past m ≡ ending_at y n = cc in (ap (λ (x : ℕ × ℕ). taken x.0) g, sym (ap (λ (x : ℕ × ℕ). x.1) g))
took y m past (refused r i) e = no_way (cc)

-- what a search tells of a key that must be there, once its value's place is known or the key is refused
module _ {A : Type 0} (s : List ℕ) (d D : ℕ) (f : ℕ → Value → Outcome A) where
  value-under : (u : Under) (w : Result Sought Refusal) → Tells s d u w → (q : ℕ) → taken q ≡ needed D (seek_paper w) taken → (v : Value) × (u ≡ under q v) × Stands s d q v
  value-under (under p v) (Ok (Found i j)) t q e = let j : q ≡ p = (cc) ∙ t.0 in (v, ap (λ (r : ℕ). under r v) (sym j), rw j t.1)
  value-under (under p v) (Ok (Missing i)) t q e = absurd t
  value-under (under p v) (Err i) t q e = absurd t
  value-under nothing (Ok (Found i j)) t q e = absurd t
  value-under nothing (Ok (Missing i)) t q e = no_way (cc)
  value-under nothing (Err i) t q e = absurd t

  pub with-under : (u : Under) (w : Result Sought Refusal) → Tells s d u w → (q : ℕ) → taken q ≡ needed D (seek_paper w) taken → (o : Outcome A) → ((v : Value) → Stands s d q v → o ≡ f q v) → o ≡ must D u f
  with-under u w t q e o h = let x = value-under u w t q e in h x.0 x.2 ∙ ap (λ (r : Under). must D r f) (sym x.1)

  pub not-under : (u : Under) (w : Result Sought Refusal) → Tells s d u w → (r o : ℕ) → refused r o ≡ needed D (seek_paper w) taken → refused r o ≡ must D u f
  not-under (under p v) (Ok (Found i j)) t r o e = no_way (cc)
  not-under (under p v) (Ok (Missing i)) t r o e = absurd t
  not-under (under p v) (Err i) t r o e = absurd t
  not-under nothing (Ok (Found i j)) t r o e = absurd t
  not-under nothing (Ok (Missing i)) t r o e = moved e
  not-under nothing (Err i) t r o e = absurd t

-- a dictionary was seen at p, and its first key: that is what stands there
pub opened : (s : List ℕ) (d p : ℕ) (v : Value) (first : ℕ) → Stands s d p v → taken first ≡ dictionary_of s p → (es : Entries) × (v ≡ dict es) × Stands s d p (dict es) × (first ≡ p + 1)
opened s d p v first t e =
    let x = map-taken (λ es. p + 1) (dictionary_at p v) first (sym (e ∙ dictionary-is s d p v t)) in
    let y = (dictionary-checks p v).only x.0 x.1 in
    (y.0, y.1, subst (Stands s d p) y.1 t, sym x.2)

-- ---- one file

module _ (s : List ℕ) (d p : ℕ) (levels : d ≤ 32) where
  pub file-none : (v : Value) → Stands s d p v → (r o : ℕ) → refused r o ≡ dictionary_of s p → refused r o ≡ file_of p v
  unfolding file_of
  file-none v t r o e = not-then (λ es. p + 1) (file_in p (p + length (encode v))) (dictionary_at p v) (e ∙ dictionary-is s d p v t)

  module _ (first : ℕ) (e : taken first ≡ dictionary_of s p) (w : Result Sought Refusal) (a : seek_paper w ≡ sought_from s first length_key) where
    -- the entries of the file's dictionary, and the search for its length
    record Entered (v : Value) : Type 0 where
      pub entries : Entries
      pub is : v ≡ dict entries
      pub deep : ℕ
      pub low : deep ≤ 32
      pub stands : StandEntries s deep (p + 1) start entries
      pub length : Tells s deep (lookup (p + 1) entries length_key) w

    entered : (v : Value) → Stands s d p v → Entered v
    entered v t =
        let y = opened s d p v first t e in
        let n = (dictionary-stands s d p y.0 y.2).1 in
        let g : n.0 ≤ 32 = omega (arith, n.1) in
        let x = tell-first s n.0 g (p + 1) start y.0 n.2 length_key w (a ∙ ap (λ (q : ℕ). sought_from s q length_key) y.3) in
        record { entries = y.0; is = y.1; deep = n.0; low = g; stands = n.2; length = x.told }

    -- what comes of the entries comes of the file
    by_entries : (v : Value) (n : Entered v) (o : Outcome File) → o ≡ file_in p (p + length (encode (dict n.entries))) n.entries → o ≡ file_of p v
    unfolding file_of
    by_entries v n o h = rw n.is h

    stop-file : (v : Value) (n : Entered v) (r o : ℕ) → refused r o ≡ must p (lookup (p + 1) n.entries length_key) (natural_at longest_file) → refused r o ≡ file_of p v
    stop-file v n r o h =
        by_entries v n (refused r o)
        (ap (λ (y : Outcome ℕ). then y (λ m. then (must p (lookup (p + 1) n.entries path_key) path_at) (λ q. taken (record { length = m; path = q; next = p + length (encode (dict n.entries)) })))) h)

    pub file-unread : {B : Type 0} (v : Value) → Stands s d p v → {r : _} → w ≡ Err r → B
    file-unread v t f = let n = entered v t in tells-read s n.deep (lookup (p + 1) n.entries length_key) w n.length f

    pub file-missing : (v : Value) → Stands s d p v → (r o : ℕ) → refused r o ≡ needed p (seek_paper w) taken → refused r o ≡ file_of p v
    file-missing v t r o f = let n = entered v t in stop-file v n r o (not-under s n.deep p (natural_at longest_file) (lookup (p + 1) n.entries length_key) w n.length r o f)

    module _ (q : ℕ) (f : taken q ≡ needed p (seek_paper w) taken) where
      pub file-not : (v : Value) → Stands s d p v → (r o : ℕ) → refused r o ≡ number_of longest_file s q → refused r o ≡ file_of p v
      file-not v t r o h =
          let n = entered v t in
          stop-file v n r o
          (with-under s n.deep p (natural_at longest_file) (lookup (p + 1) n.entries length_key) w n.length q f (refused r o)
          (λ x u. not_taken (ending_at (q + length (encode x))) r o (natural_at longest_file q x) (h ∙ number_is s n.deep q longest_file (omega arith) x u)))

      module _ (m past : ℕ) (h : taken (ending_at past m) ≡ number_of longest_file s q) (o : Outcome File)
          (j : (d : ℕ) → (before : Prev) → (es : Entries) → d ≤ 32 → StandEntries s d past before es → o ≡ then (must p (lookup past es path_key) path_at) (λ b. taken (record { length = m; path = b; next = past + length (encode_entries es) }))) where
        length-with : (es : Entries) (k : ℕ) → k ≤ 32 → StandEntries s k (p + 1) start es → Tells s k (lookup (p + 1) es length_key) w → o ≡ file_in p (p + length (encode (dict es))) es
        unfolding key_lt encode
        length-with es k l t g =
            let y = value-under s k p (natural_at longest_file) (lookup (p + 1) es length_key) w g q f in
            let c = took (q + length (encode y.0)) m past (natural_at longest_file q y.0) (h ∙ number_is s k q longest_file (omega arith) y.0 y.2) in
            let n = beyond s k (p + 1) start es length_key t q y.0 y.1 in
            let same : lookup past n.left path_key ≡ lookup (p + 1) es path_key = ap (λ (r : ℕ). lookup r n.left path_key) (sym c.1) ∙ n.same path_key refl in
            let ends : past + length (encode_entries n.left) ≡ p + suc (length (encode_entries es)) = omega (arith, c.1, n.ends) in
            j k (last length_key) n.left l (subst (λ (r : ℕ). StandEntries s k r (last length_key) n.left) c.1 n.stands)
            ∙ ap (λ (r : Under). then (must p r path_at) (λ b. taken (record { length = m; path = b; next = past + length (encode_entries n.left) }))) same
            ∙ ap (λ (r : ℕ). then (must p (lookup (p + 1) es path_key) path_at) (λ b. taken (record { length = m; path = b; next = r }))) ends
            ∙ ap (λ (r : Outcome ℕ). then r (λ n. then (must p (lookup (p + 1) es path_key) path_at) (λ b. taken (record { length = n; path = b; next = p + suc (length (encode_entries es)) })))) (c.0 ∙ ap (λ (r : Under). must p r (natural_at longest_file)) (sym y.1))

        pub file-with : (v : Value) → Stands s d p v → o ≡ file_of p v
        file-with v t = let n = entered v t in by_entries v n o (length-with n.entries n.deep n.low n.stands n.length)

-- ---- the rest of a file, whose path is sought among the entries that stand at `from`

module _ (s : List ℕ) (d from : ℕ) (before : Prev) (es : Entries) (levels : d ≤ 32) (t : StandEntries s d from before es) (at m : ℕ) (w : Result Sought Refusal) (a : seek_paper w ≡ sought_from s from path_key) where
  abbrev on_path : Outcome ℕ → Outcome File
  on_path o = then o (λ b. taken (record { length = m; path = b; next = from + length (encode_entries es) }))

  path-told : Tells s d (lookup from es path_key) w
  path-told = (tell-first s d levels from before es t path_key w a).told

  pub rest-unread : {B : Type 0} {r : _} → w ≡ Err r → B
  rest-unread f = tells-read s d (lookup from es path_key) w path-told f

  pub rest-missing : (r o : ℕ) → refused r o ≡ needed at (seek_paper w) taken → refused r o ≡ on_path (must at (lookup from es path_key) path_at)
  rest-missing r o f = ap on_path (not-under s d at path_at (lookup from es path_key) w path-told r o f)

  module _ (q : ℕ) (f : taken q ≡ needed at (seek_paper w) taken) where
    pub rest-not : (r o : ℕ) → ((d : ℕ) → (v : Value) → Stands s d q v → refused r o ≡ map (ending_at (q + length (encode v))) (path_at q v)) → refused r o ≡ on_path (must at (lookup from es path_key) path_at)
    rest-not r o h = ap on_path (with-under s d at path_at (lookup from es path_key) w path-told q f (refused r o) (λ v u. not_taken (ending_at (q + length (encode v))) r o (path_at q v) (h d v u)))

    pub rest-with : (b past : ℕ) → ((d : ℕ) → (v : Value) → Stands s d q v → taken (ending_at past b) ≡ map (ending_at (q + length (encode v))) (path_at q v)) → (o : Outcome ℕ)
        → ((d : ℕ) → (before : Prev) → (ws : Entries) → d ≤ 32 → StandEntries s d past before ws → o ≡ taken (past + length (encode_entries ws)))
        → map {B = File} (λ x. record { length = m; path = b; next = x }) o ≡ on_path (must at (lookup from es path_key) path_at)
    rest-with b past h o j =
        let y = value-under s d at path_at (lookup from es path_key) w path-told q f in
        let c = took (q + length (encode y.0)) b past (path_at q y.0) (h d y.0 y.2) in
        let n = beyond s d from before es path_key t q y.0 y.1 in
        let ends : past + length (encode_entries n.left) ≡ from + length (encode_entries es) = ap (λ (r : ℕ). r + length (encode_entries n.left)) (sym c.1) ∙ n.ends in
        ap (λ (r : Outcome ℕ). map {B = File} (λ x. record { length = m; path = b; next = x }) r)
        (j d (last path_key) n.left levels (subst (λ (r : ℕ). StandEntries s d r (last path_key) n.left) c.1 n.stands) ∙ ap taken ends)
        ∙ ap on_path (c.0 ∙ ap (λ (r : Under). must at r path_at) (sym y.1))

-- ---- a file at any place

module _ (s : List ℕ) (p : ℕ) where
  abbrev Passed : Got Value → Type 0
  Passed (got v l q n) = Stands s 32 p v × (q ≡ p + length (encode v))
  Passed (bad r o) = Unit

  passed-by : length s ≤ most_text → p ≤ length s → (g : Got Value) → Holds (Took (drop p s) 32 p 0) g → Passed g
  passed-by l h (got v r q m) t = (record { rest = r; text = t.at.text; inside = h; short = l; keeps = t.keeps; few = omega (arith, t.counted, t.few) }, t.at.place)
  passed-by l h (bad r q) t = tt

  passed : length s ≤ most_text → (t : Bool) → ltb p (length s) ≡ t → Passed (value_from 32 (length s) (drop p s) p 0)
  unfolding value_from
  passed l true e =
      let h = ltb-true p (length s) e in
      passed-by l (omega arith) (value_from 32 (length s) (drop p s) p 0) (value-sound 32 (length s) (drop p s) p 0 (omega (arith, length-drop p s)))
  passed l false e = subst (λ (l : List ℕ). Passed (value_from 32 (length s) l p 0)) (sym (drop_of_length-le s (ltb-false p (length s) e))) tt

  -- of a text that is not too long, the value reader alone decides
  value-short : length s ≤ most_text → value_in_of (value_from 32 (length s) (drop p s) p 0) ≡ value_at s p
  unfolding value_at
  value-short l = unless-short s _ l

  value-long : most_text < length s → refused 8 0 ≡ value_at s p
  unfolding value_at
  value-long h = unless-long s _ h

  -- what skip goes past is the value there
  pub value-past : (q : ℕ) → taken q ≡ skip_of s p → (v : Value) × (value_at s p ≡ taken v) × Stands s 32 p v × (q ≡ p + length (encode v))
  value-past q e = less-or most_text (length s)
      (λ h. let f = e ∙ sym (skip-long s p h) in no_way (cc))
      (λ l. let x = go (value_from 32 (length s) (drop p s) p 0) (passed l (ltb p (length s)) refl) (e ∙ sym (skip-short s p l)) in (x.0, sym (value-short l) ∙ x.1, x.2, x.3))
    where
      go : (g : Got Value) → Passed g → taken q ≡ past_of g → (v : Value) × (value_in_of g ≡ taken v) × Stands s 32 p v × (q ≡ p + length (encode v))
      go (got v l i n) h f = (v, refl, h.0, (cc) ∙ h.1)
      go (bad r o) h f = no_way (cc)

  pub value-bad : (r o : ℕ) → refused r o ≡ skip_of s p → refused r o ≡ file_at s p
  value-bad r o e = less-or most_text (length s)
      (λ h. let f = e ∙ sym (skip-long s p h) in moved f ∙ ap (λ (x : Outcome Value). then x (file_of p)) (value-long h))
      (λ l. go (value_from 32 (length s) (drop p s) p 0) (e ∙ sym (skip-short s p l)) ∙ ap (λ (x : Outcome Value). then x (file_of p)) (value-short l))
    where
      go : (g : Got Value) → refused r o ≡ past_of g → refused r o ≡ then (value_in_of g) (file_of p)
      go (got v l i n) f = no_way (cc)
      go (bad i j) f = moved f

  pub file-past : (q : ℕ) → taken q ≡ skip_of s p → (o : Outcome File) → ((d : ℕ) → (v : Value) → d ≤ 32 → Stands s d p v → o ≡ file_of p v) → o ≡ file_at s p
  file-past q e o h = let x = value-past q e in h 32 x.0 (omega arith) x.2 ∙ sym (ap (λ (y : Outcome Value). then y (file_of p)) x.1)

  -- where a value stands, the file there is that value's
  pub file-stands : (d : ℕ) (v : Value) → d ≤ 32 → Stands s d p v → file_at s p ≡ file_of p v
  file-stands d v h t =
      let x : value_from 32 (length s) (encode v ++ t.rest) p 0 ≡ got v t.rest (p + length (encode v)) (0 + count v) =
      complete v 32 (length s) t.rest p 0 (keeps-more v d 32 h t.keeps) (omega (arith, length-drop p s, ap length t.text, t.inside)) (omega (arith, t.few)) in
      ap (λ (y : Outcome Value). then y (file_of p)) (sym (value-short t.short))
      ∙ ap (λ (l : List ℕ). then (value_in_of (value_from 32 (length s) l p 0)) (file_of p)) t.text ∙ ap (λ (g : Got Value). then (value_in_of g) (file_of p)) x

  -- where a list of files ends, no file stands
  pub file-end : (d : ℕ) → StandItems s d p none → file_at s p ≡ refused 2 p
  unfolding value_from kind_of encode_items
  file-end d t = ap (λ (y : Outcome Value). then y (file_of p)) (sym (value-short t.short)) ∙ ap (λ (l : List ℕ). then (value_in_of (value_from 32 (length s) l p 0)) (file_of p)) t.text

-- ---- a file's next place

pub file-next : (p : ℕ) (v : Value) (f : File) → taken f ≡ file_of p v → f.next ≡ p + length (encode v)
unfolding file_of
file-next p v f e = go (dictionary_at p v) e
  where
    whole : (a b q : ℕ) → taken f ≡ taken (record { length = a; path = b; next = q }) → f.next ≡ q
    whole a b q h = cc

    path : (a q : ℕ) (o : Outcome ℕ) → taken f ≡ then o (λ b. taken (record { length = a; path = b; next = q })) → f.next ≡ q
    path a q (taken b) h = whole a b q h
    path a q (refused r i) h = no_way (cc)

    size : (q : ℕ) (o i : Outcome ℕ) → taken f ≡ then o (λ a. then i (λ b. taken (record { length = a; path = b; next = q }))) → f.next ≡ q
    size q (taken a) i h = path a q i h
    size q (refused r o) i h = no_way (cc)

    go : (o : Outcome Entries) → taken f ≡ then o (file_in p (p + length (encode v))) → f.next ≡ p + length (encode v)
    go (taken es) h = size (p + length (encode v)) (must p (lookup (p + 1) es length_key) (natural_at longest_file)) (must p (lookup (p + 1) es path_key) path_at) h
    go (refused r o) h = no_way (cc)

-- a file goes further
pub file-further : (s : List ℕ) (p : ℕ) (f : File) → taken f ≡ file_at s p → (p < f.next) × (f.next ≤ length s)
file-further s p f e = less-or most_text (length s)
    (λ h. let x = e ∙ sym (ap (λ (y : Outcome Value). then y (file_of p)) (value-long s p h)) in no_way (cc))
    (λ l. go (value_from 32 (length s) (drop p s) p 0) (passed s p l (ltb p (length s)) refl) (e ∙ sym (ap (λ (y : Outcome Value). then y (file_of p)) (value-short s p l))))
  where
    go : (g : Got Value) → Passed s p g → taken f ≡ then (value_in_of g) (file_of p) → (p < f.next) × (f.next ≤ length s)
    go (got v l i n) h k =
        let j = file-next p v f k in
        let r = room s p (encode v) h.0.rest h.0.inside h.0.text in
        (omega (arith, encode-pos v), omega arith)
    go (bad r o) h k = no_way (cc)

-- ---- files one after the other

-- what is left at p of the files that stand at `first`, after so many files of so many bytes, up to the same end
pub record Rest (s : List ℕ) (d place first p files total : ℕ) (vs : Items) : Type 0 where
  pub left : Items
  pub stands : StandItems s d p left
  pub same : map (running place files total) (lengths_of p left) ≡ map (running place 0 0) (lengths_of first vs)
  pub within : files ≤ p
  pub ends : p + length (encode_items left) ≡ first + length (encode_items vs)

abbrev pub Listing : List ℕ → ℕ → ℕ → ℕ → ℕ → ℕ → Type 0
Listing s place first p files total = (d : ℕ) → (vs : Items) → d ≤ 32 → StandItems s d first vs → Rest s d place first p files total vs

-- the content, and the place past the list
abbrev Listed : ℕ → ℕ → Items → Outcome (Content × ℕ)
Listed place first vs = map (λ ns. listed_to (first + length (encode_items vs)) (running place 0 0 ns)) (lengths_of first vs)

with-place : (place y : ℕ) (c : Content) (o : Outcome (List ℕ)) → taken c ≡ map (running place 0 0) o → taken (listed_to y c) ≡ map (λ ns. listed_to y (running place 0 0 ns)) o
with-place place y c (taken ns) e = let f : c ≡ running place 0 0 ns = cc in ap (λ (x : Content). taken (listed_to y x)) f
with-place place y c (refused r i) e = no_way (cc)

without-place : (place y r i : ℕ) (o : Outcome (List ℕ)) → refused r i ≡ map (running place 0 0) o → refused r i ≡ map (λ ns. listed_to y (running place 0 0 ns)) o
without-place place y r i (taken ns) e = no_way (cc)
without-place place y r i (refused n q) e = moved e

pub listing_start : (s : List ℕ) (place first : ℕ) → Listing s place first first 0 0
listing_start s place first d vs h t = record { left = vs; stands = t; same = refl; within = omega arith; ends = refl }

module _ (s : List ℕ) (place first p files total : ℕ) (g : Listing s place first p files total) where
  -- each file has a byte
  pub listing-out : {A : Type 0} → length s ≤ files → (d : ℕ) → (vs : Items) → d ≤ 32 → StandItems s d first vs → A
  unfolding encode_items
  listing-out l d vs h t = go (g d vs h t).left (g d vs h t).stands (g d vs h t).within
    where
      go : {A : Type 0} (left : Items) → StandItems s d p left → files ≤ p → A
      go none u i = absurd (omega (arith, room s p (101 ∷ []) u.rest u.inside u.text))
      go (item v ws) u i =
          let n = (items-next s d p v ws u).0 in
          absurd (omega (arith, encode-pos v, room s p (encode v) n.rest n.inside n.text))

  pub listing-end : total ≤ largest → closes (drop p s) ≡ true → (d : ℕ) → (vs : Items) → d ≤ 32 → StandItems s d first vs
      → taken (listed_to (p + 1) (record { single = false; place = place; files = files; total = total })) ≡ Listed place first vs
  unfolding lengths_of sum encode_items
  listing-end l c d vs h t = go (g d vs h t).left (g d vs h t).stands (g d vs h t).same (g d vs h t).ends
    where
      go : (left : Items) → StandItems s d p left → map (running place files total) (lengths_of p left) ≡ map (running place 0 0) (lengths_of first vs)
          → p + length (encode_items left) ≡ first + length (encode_items vs)
          → taken (listed_to (p + 1) (record { single = false; place = place; files = files; total = total })) ≡ Listed place first vs
      go none u i e =
          let a : files ≡ files + 0 = omega arith in
          let b : total ≡ min (total + 0) largest = omega arith in
          let f : p + 1 ≡ first + length (encode_items vs) = e in
          ap (λ (x : ℕ). taken (listed_to x (record { single = false; place = place; files = files; total = total }))) f
          ∙ with-place place (first + length (encode_items vs)) (record { single = false; place = place; files = files; total = total }) (lengths_of first vs)
          (ap (λ (x : ℕ). taken (record { single = false; place = place; files = x; total = total })) a ∙ ap (λ (x : ℕ). taken (record { single = false; place = place; files = files + 0; total = x })) b ∙ i)
      go (item v ws) u i e = let k = closes-item s d p v ws u in no_way (cc)

  module _ (c : closes (drop p s) ≡ false) where
    pub listing-not : (r o : ℕ) → ((d : ℕ) → (v : Value) → d ≤ 32 → Stands s d p v → refused r o ≡ file_of p v) → (d : ℕ) → (vs : Items) → d ≤ 32 → StandItems s d first vs → refused r o ≡ Listed place first vs
    unfolding lengths_of
    listing-not r o e d vs h t = without-place place (first + length (encode_items vs)) r o (lengths_of first vs) (go (g d vs h t).left (g d vs h t).stands (g d vs h t).same)
      where
        go : (left : Items) → StandItems s d p left → map (running place files total) (lengths_of p left) ≡ map (running place 0 0) (lengths_of first vs) → refused r o ≡ map (running place 0 0) (lengths_of first vs)
        go none u i = let k = closes-none s d p u in no_way (cc)
        go (item v ws) u i =
            let n = items-next s d p v ws u in
            let k : refused r o ≡ file_of p v = e d v h n.0 in
            (rw (← k) at i)

    pub listing-more : (f : File) → ((d : ℕ) → (v : Value) → d ≤ 32 → Stands s d p v → taken f ≡ file_of p v) → (next : ℕ) → next ≡ min (total + f.length) largest → Listing s place first f.next (files + 1) next
    unfolding lengths_of sum encode_items
    listing-more f e next m d vs h t = go (g d vs h t).left (g d vs h t).stands (g d vs h t).same (g d vs h t).within (g d vs h t).ends
      where
        more : (o : Outcome (List ℕ)) → map (running place (files + 1) next) o ≡ map (running place files total) (map (λ ns. f.length ∷ ns) o)
        more (taken ns) =
            let a : files + 1 + length ns ≡ files + suc (length ns) = omega arith in
            let b : min (next + sum ns) largest ≡ min (total + (f.length + sum ns)) largest = omega arith in
            ap (λ (x : ℕ). taken (record { single = false; place = place; files = x; total = min (next + sum ns) largest })) a ∙ ap (λ (x : ℕ). taken (record { single = false; place = place; files = files + suc (length ns); total = x })) b
        more (refused r o) = refl

        go : (left : Items) → StandItems s d p left → map (running place files total) (lengths_of p left) ≡ map (running place 0 0) (lengths_of first vs) → files ≤ p
            → p + length (encode_items left) ≡ first + length (encode_items vs) → Rest s d place first f.next (files + 1) next vs
        go none u i y z = let k = closes-none s d p u in no_way (cc)
        go (item v ws) u i y z =
            let n = items-next s d p v ws u in
            let k : taken f ≡ file_of p v = e d v h n.0 in
            let j : f.next ≡ p + length (encode v) = file-next p v f k in
            let q : map (running place files total) (map (λ ns. f.length ∷ ns) (lengths_of f.next ws)) ≡ map (running place 0 0) (lengths_of first vs) = (rw (← k) at i) in
            record { left = ws; stands = rw j n.1; same = more (lengths_of f.next ws) ∙ q; within = omega (arith, encode-pos v); ends = omega (arith, j, z, length-append (encode v) (encode_items ws)) }

-- ---- exactly one of length and files

module _ (s : List ℕ) (p : ℕ) where
  pub many-not : (d : ℕ) (v : Value) → Stands s d p v → (r o : ℕ) → refused r o ≡ list_of s p → refused r o ≡ files_at p v
  many-not d v t r o e = not-then (λ vs. p + 1) (λ vs. map (λ ns. listed_to (p + length (encode v)) (running p 0 0 ns)) (lengths_of (p + 1) vs)) (list_at_of p v) (e ∙ list-is s d p v t)

  pub many-with : (d : ℕ) (v : Value) → d ≤ 32 → Stands s d p v → (first : ℕ) → taken first ≡ list_of s p
      → (o : Outcome (Content × ℕ)) → ((d : ℕ) → (vs : Items) → d ≤ 32 → StandItems s d first vs → o ≡ Listed p first vs) → o ≡ files_at p v
  unfolding encode
  many-with d (str bs) l t first e o h = let f = e ∙ list-is s d p (str bs) t in no_way (cc)
  many-with d (int z) l t first e o h = let f = e ∙ list-is s d p (int z) t in no_way (cc)
  many-with d (list vs) l t first e o h =
      let f : taken first ≡ taken (p + 1) = e ∙ list-is s d p (list vs) t in
      let i : first ≡ p + 1 = cc in
      let n = (list-stands s d p vs t).1 in
      let j : p + 1 + length (encode_items vs) ≡ p + suc (length (encode_items vs)) = omega arith in
      h n.0 vs (omega (arith, n.1)) (rw i n.2) ∙ ap (λ (q : ℕ). Listed p q vs) i ∙ ap (λ (q : ℕ). map (λ ns. listed_to q (running p 0 0 ns)) (lengths_of (p + 1) vs)) j
  many-with d (dict es) l t first e o h = let f = e ∙ list-is s d p (dict es) t in no_way (cc)

-- a content that did not have to stop
stop-one : (p : ℕ) (v : Value) → map (one_file p) (natural_at longest_file p v) ≡ map stopped (map (one_file p) (natural_at longest_file p v))
stop-one p (str bs) = refl
stop-one p (int (pos n)) = go (leb n longest_file) refl
  where
    go : (b : Bool) → leb n longest_file ≡ b → map (one_file p) (cond b (taken n) (refused 11 p)) ≡ map stopped (map (one_file p) (cond b (taken n) (refused 11 p)))
    go true e = let l = leb-true n longest_file e in let m : n ≡ min n largest = omega arith in ap (λ (x : ℕ). taken (one_file p x)) m
    go false e = refl
stop-one p (int (negsuc n)) = refl
stop-one p (list vs) = refl
stop-one p (dict es) = refl

module _ (s : List ℕ) (d info : ℕ) (levels : d ≤ 32) where
  pub content-one : (a b : Under) (l f : Result Sought Refusal) → Tells s d a l → Tells s d b f → (i j k : ℕ) → l ≡ (Ok (Found i j)) → f ≡ (Ok (Missing k))
      → (o : Outcome Content) → ((d : ℕ) → (v : Value) → Stands s d j v → o ≡ map (one_file j) (natural_at longest_file j v)) → o ≡ map stopped (content_of info a b)
  content-one (under p v) nothing l f t u i j k x y o h =
      let z : Tells s d (under p v) (Ok (Found i j)) = subst (Tells s d (under p v)) x t in
      let w : Stands s d j v = rw z.0 z.1 in
      h d v w ∙ ap (λ (q : ℕ). map (one_file q) (natural_at longest_file q v)) z.0 ∙ stop-one p v
  content-one (under p v) (under q w) l f t u i j k x y o h = let z : Tells s d (under q w) (Ok (Missing k)) = subst (Tells s d (under q w)) y u in absurd z
  content-one nothing b l f t u i j k x y o h = let z : Tells s d nothing (Ok (Found i j)) = subst (Tells s d nothing) x t in absurd z
