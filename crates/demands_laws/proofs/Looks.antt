-- A look at a place of any text refuses by few numbers: 8, exactly where the text is too long, those of what is read there, and those of what it is asked to be. Assumes nothing.
use mathlib.Core.Path.{◌≡◌, refl, sym, ap, ◌∙◌, subst}
use mathlib.Core.Bool.{Bool, true, false}
use mathlib.Core.Logic.{◌↔◌}
use mathlib.Core.List.{List, [], ◌∷◌, Memᴰ as In}
use Prim.Native.Nat.{ℕ, zero, suc, ◌+◌, ◌-◌, ◌<◌}
use native.Mathlib.Omega.{arith}
use lib.Dec.{ltb, leb, eqb}
use lib.IntN.{ℤ, pos, negsuc}
use lib.ListN.{length, take, drop}
use borrow.Author.Tests.{ltb-true, eqb-false}
use Rattle.refusal.specs.Numbers as no
use Rattle.refusal.specs.Limits.{most_text, most_values, most_levels, longest_file, largest_port}
use Rattle.refusal.specs.Paper.{Outcome, taken, refused, map, then}
use Rattle.refusal.proofs.Cases.{by-test, less-or, no_way}
use Rattle.refusal.proofs.Outcomes.{same-refusal}
use Rattle.bencode_scalar.specs.Written.{key_lt}
use Rattle.bencode_scalar.specs.Reading.{Got, got, bad, and_then, map_got, on_head, is_digit, num_val, num_len, colon_of, string_of, integer_end, closed_of, minus_at, integer_of}
use Rattle.bencode_scalar.specs.Reading.{string_at as string_read, integer_at as integer_read}
use Rattle.bencode.specs.Value.{Value, Items, Entries, str, int, list, dict, none, item, entry, Prev, start, last, follows, encode}
use Rattle.bencode.specs.Decode.{Kind, digit, letter_i, letter_l, letter_d, other, kind_of, begin, value_by, closes, items_by, items_of, ordered, key_of, entries_by_of, entries_of, value_from, unless_long}
use Rattle.bencode_laws.proofs.Fails.{Fails, fails-map}
use Rattle.bencode_walk.specs.Walk as walk
use Rattle.bencode_walk.specs.Walk.{Head, string_head, integer_head, look_at_of, look_of, NextEntry, key, close, as_entry, entry_of, past_of, skip_of, Hit, found, missing, seek_by, seek_of}
use Rattle.bencode_walk.proofs.Limited.{unless-long, Limited, limited, limited-then, limited-look, limited-entry, limited-skip, limited-seek}
use Rattle.bencode_walk.specs.Lookup.{Under, nothing, under, lookup}
use Rattle.bencode_fields.specs.Looks.{ranged, string_in, natural_in, dictionary_in, natural_of, dictionary_of, hit_at, needed, sought_from, sought_after, stopped}
use Rattle.bencode_fields.specs.Looks.{string_of as field_string}
use Rattle.bencode_fields.specs.Values.{natural_at, list_at_of, dictionary_at, must}
use Rattle.torrent_metainfo.specs.Rules.{good_name, name_at, elements_of, path_in, path_at, file_of}
use Rattle.torrent_metainfo.specs.Keys.{length_key, path_key}
use Rattle.torrent_metainfo.specs.Reading.{value_in_of, value_at, file_at}
use Rattle.torrent_contents.specs.Paths.{element_in, element_of}
use Rattle.tracker.specs.Keys.{ip as ip_key, peer_id as id_key, port as port_key}
use Rattle.tracker.specs.Entries.{packed_at, id_length, id_of, peer_from, peer_by, listed_at}

-- a refusal, if there is one, is by a number of which P holds
abbrev Among : {A : Type 0} → (ℕ → Type 0) → Outcome A → Type 0
Among P (taken x) = Unit
Among P (refused n p) = P n

module _ (P : ℕ → Type 0) where
  given : {A : Type 0} (o : Outcome A) → Among P o → (k p : ℕ) → o ≡ refused k p → P k
  given (taken x) h k p e = no_way (cc)
  given (refused n q) h k p e = let d : n ≡ k = cc in subst P d h

  after_map : {A B : Type 0} (f : A → B) (o : Outcome A) → Among P o → Among P (map f o)
  after_map f (taken x) h = tt
  after_map f (refused n p) h = h

  after : {A B : Type 0} (o : Outcome A) (f : A → Outcome B) → Among P o → ((x : A) → Among P (f x)) → Among P (then o f)
  after (taken x) f h k = k x
  after (refused n p) f h k = h

  abbrev Given : ℕ → ℕ → Type 0
  Given n p = P n

  after-got : {A B : Type 0} (g : Got A) (f : A → List ℕ → ℕ → ℕ → Got B) → Fails Given g → ((v : A) (l : List ℕ) (q m : ℕ) → Fails Given (f v l q m)) → Fails Given (and_then g f)
  after-got (got v l q m) f h k = k v l q m
  after-got (bad r p) f h k = h

  -- a text that is too long: 8
  abbrev Eight : List ℕ → Type 0
  Eight s = most_text < length s → P no.long

  unless : {A : Type 0} (s : List ℕ) (o : Outcome A) → Eight s → Among P o → Among P (unless_long s o)
  unless s o eight h = by-test (Among P) (ltb most_text (length s)) (λ e. eight (ltb-true most_text (length s) e)) (λ e. h)

  -- ---- strings, integers and what stands at a place: 1, 2

  module _ (one : P no.cut) (two : P no.byte) where
    colon : (e p m : ℕ) (l : List ℕ) (n : ℕ) → Fails Given (colon_of e p m l n)
    colon e p m [] n = one
    colon e p m (c ∷ t) n = by-test (Fails Given) (eqb c 58) (λ x. by-test (Fails Given) (leb m (e - (p + 1))) (λ y. tt) (λ y. one)) (λ x. two)

    string : (e b : ℕ) (t : List ℕ) (p n : ℕ) → Fails Given (string_of e b t p n)
    unfolding string_of
    string e b t p n = colon e (p + 1 + num_len b t) (num_val b t) (drop (num_len b t) t) n

    string-read : (e : ℕ) (l : List ℕ) (p n : ℕ) → Fails Given (string_read e l p n)
    string-read e [] p n = one
    string-read e (b ∷ t) p n = by-test (Fails Given) (is_digit b) (λ x. string e b t p n) (λ x. two)

    ending : (neg : Bool) (e p m : ℕ) (l : List ℕ) (n : ℕ) → Fails Given (integer_end neg e p m l n)
    ending neg e p m [] n = one
    ending neg e p m (c ∷ t) n = by-test (Fails Given) (eqb c 101) (λ x. tt) (λ x. two)

    closed : (neg : Bool) (e b : ℕ) (t : List ℕ) (p n : ℕ) → Fails Given (closed_of neg e b t p n)
    unfolding closed_of
    closed neg e b t p n = ending neg e (p + num_len b t) (num_val b t) (drop (num_len b t) t) n

    minus : (e : ℕ) (l : List ℕ) (p n : ℕ) → Fails Given (minus_at e l p n)
    minus e [] p n = one
    minus e (b ∷ t) p n = by-test (Fails Given) (eqb b 48) (λ x. two) (λ x. by-test (Fails Given) (is_digit b) (λ y. closed true e b t (p + 1) n) (λ y. two))

    integer : (e : ℕ) (l : List ℕ) (p n : ℕ) → Fails Given (integer_of e l p n)
    unfolding integer_of
    integer e [] p n = one
    integer e (b ∷ t) p n =
        by-test (Fails Given) (eqb b 45) (λ x. minus e t (p + 1) n) (λ x. by-test (Fails Given) (is_digit b) (λ y. closed false e b t (p + 1) n) (λ y. two))

    integer-read : (e : ℕ) (l : List ℕ) (p n : ℕ) → Fails Given (integer_read e l p n)
    integer-read e [] p n = one
    integer-read e (b ∷ t) p n = by-test (Fails Given) (eqb b 105) (λ x. integer e t (p + 1) n) (λ x. two)

    string-head : (g : Got (List ℕ)) → Fails Given g → Among P (string_head g)
    string-head (got k l q n) h = tt
    string-head (bad r p) h = h

    integer-head : (o : ℕ) (g : Got ℤ) → Fails Given g → Among P (integer_head o g)
    integer-head o (got z l q n) h = tt
    integer-head o (bad r p) h = h

    look_at : (s : List ℕ) (p b : ℕ) → Among P (look_at_of s p b)
    look_at s p b =
        by-test (Among P) (eqb b 105) (λ x. integer-head p (integer_read (length s) (drop p s) p 0) (integer-read (length s) (drop p s) p 0))
        (λ x. by-test (Among P) (eqb b 108) (λ y. tt)
        (λ y. by-test (Among P) (eqb b 100) (λ z. tt)
        (λ z. by-test (Among P) (eqb b 101) (λ w. tt)
        (λ w. string-head (string_read (length s) (drop p s) p 0) (string-read (length s) (drop p s) p 0)))))

    looked : (s : List ℕ) → Eight s → (p : ℕ) → Among P (look_of s p)
    unfolding look_of
    looked s eight p = unless s _ eight (go (drop p s))
      where
        go : (l : List ℕ) → Among P (on_head l (refused no.cut (length s)) (λ b t. look_at_of s p b))
        go [] = one
        go (b ∷ t) = look_at s p b

    as-entry : (p : ℕ) (h : Head) → Among P (as_entry p h)
    as-entry p (walk.string a m q) = tt
    as-entry p (walk.integer z q) = two
    as-entry p (walk.long a m q) = two
    as-entry p (walk.list q) = two
    as-entry p (walk.dictionary q) = two
    as-entry p (walk.end q) = tt

    entered : (s : List ℕ) → Eight s → (p : ℕ) → Among P (entry_of s p)
    entered s eight p = after (look_of s p) (as_entry p) (looked s eight p) (as-entry p)

    -- ---- values: 3, 5 and 6 too

    module _ (three : P no.order) (five : P no.deep) (six : P no.many) where
      begins : {A : Type 0} (n p : ℕ) (g : Got A) → Fails Given g → Fails Given (begin n p g)
      begins n p g h = by-test (Fails Given) (ltb n most_values) (λ x. h) (λ x. six)

      in_order : (prev : Prev) (p : ℕ) (g : Got (List ℕ)) → Fails Given g → Fails Given (ordered prev p g)
      in_order prev p (got k l q n) h = by-test (Fails Given) (follows prev k) (λ x. tt) (λ x. three)
      in_order prev p (bad r q) h = h

      key-read : (e : ℕ) (prev : Prev) (l : List ℕ) (p n : ℕ) → Fails Given (key_of e prev l p n)
      unfolding key_of
      key-read e prev [] p n = one
      key-read e prev (b ∷ t) p n = by-test (Fails Given) (is_digit b) (λ x. begins n p (ordered prev p (string_of e b t p (n + 1))) (in_order prev p (string_of e b t p (n + 1)) (string e b t p (n + 1)))) (λ x. two)

      value-by : (k : Kind) (ls : List ℕ → ℕ → ℕ → Got Items) (ds : List ℕ → ℕ → ℕ → Got Entries) (e b : ℕ) (t : List ℕ) (p n : ℕ)
          → ((l : List ℕ) (q m : ℕ) → Fails Given (ls l q m)) → ((l : List ℕ) (q m : ℕ) → Fails Given (ds l q m)) → Fails Given (value_by k ls ds e b t p n)
      value-by digit ls ds e b t p n hl hd = begins n p (map_got str (string_of e b t p (n + 1))) (fails-map Given str (string_of e b t p (n + 1)) (string e b t p (n + 1)))
      value-by letter_i ls ds e b t p n hl hd =
          begins n p (map_got int (integer_of e t (p + 1) (n + 1))) (fails-map Given int (integer_of e t (p + 1) (n + 1)) (integer e t (p + 1) (n + 1)))
      value-by letter_l ls ds e b t p n hl hd = begins n p (map_got list (ls t (p + 1) (n + 1))) (fails-map Given list (ls t (p + 1) (n + 1)) (hl t (p + 1) (n + 1)))
      value-by letter_d ls ds e b t p n hl hd = begins n p (map_got dict (ds t (p + 1) (n + 1))) (fails-map Given dict (ds t (p + 1) (n + 1)) (hd t (p + 1) (n + 1)))
      value-by other ls ds e b t p n hl hd = two

      module _ (e : ℕ) (value : List ℕ → ℕ → ℕ → Got Value) (h : (l : List ℕ) (p n : ℕ) → Fails Given (value l p n)) where
        items-by : (x : Bool) (go : List ℕ → ℕ → ℕ → Got Items) → ((l : List ℕ) (p n : ℕ) → Fails Given (go l p n)) → (l : List ℕ) (p n : ℕ) → Fails Given (items_by x value go l p n)
        items-by true go k l p n = tt
        items-by false go k l p n = after-got (value l p n) _ (h l p n) (λ v r q m. fails-map Given (item v) (go r q m) (k r q m))

        items : (f : ℕ) (l : List ℕ) (p n : ℕ) → Fails Given (items_of f value e l p n)
        unfolding items_of
        items zero l p n = one
        items (suc f) l p n = items-by (closes l) (items_of f value e) (items f) l p n

        entries_by : (x : Bool) (go : Prev → List ℕ → ℕ → ℕ → Got Entries) → ((j : Prev) (l : List ℕ) (p n : ℕ) → Fails Given (go j l p n))
            → (j : Prev) (l : List ℕ) (p n : ℕ) → Fails Given (entries_by_of x value go e j l p n)
        entries_by true go k j l p n = tt
        entries_by false go k j l p n =
            after-got (key_of e j l p n) _ (key-read e j l p n)
            (λ w l₁ p₁ n₁. after-got (value l₁ p₁ n₁) _ (h l₁ p₁ n₁) (λ v l₂ p₂ n₂. fails-map Given (entry w v) (go (last w) l₂ p₂ n₂) (k (last w) l₂ p₂ n₂)))

        entries : (f : ℕ) (j : Prev) (l : List ℕ) (p n : ℕ) → Fails Given (entries_of f value e j l p n)
        unfolding entries_of
        entries zero j l p n = one
        entries (suc f) j l p n = entries_by (closes l) (entries_of f value e) (entries f) j l p n

      value_read : (d e : ℕ) (l : List ℕ) (p n : ℕ) → Fails Given (value_from d e l p n)
      unfolding value_from
      value_read zero e [] p n = one
      value_read zero e (b ∷ t) p n = value-by (kind_of b) _ _ e b t p n (λ l q m. five) (λ l q m. five)
      value_read (suc d) e [] p n = one
      value_read (suc d) e (b ∷ t) p n =
          value-by (kind_of b) _ _ e b t p n
          (λ l q m. items e (value_from d e) (value_read d e) (suc e) l q m)
          (λ l q m. entries e (value_from d e) (value_read d e) (suc e) start l q m)

      past-of : (g : Got Value) → Fails Given g → Among P (past_of g)
      past-of (got v l q n) h = tt
      past-of (bad r p) h = h

      skipped : (s : List ℕ) → Eight s → (p : ℕ) → Among P (skip_of s p)
      unfolding skip_of
      skipped s eight p = unless s _ eight (past-of (value_from most_levels (length s) (drop p s) p 0) (value_read most_levels (length s) (drop p s) p 0))

      value_in : (g : Got Value) → Fails Given g → Among P (value_in_of g)
      value_in (got v l q n) h = tt
      value_in (bad r p) h = h

      value-at : (s : List ℕ) → Eight s → (p : ℕ) → Among P (value_at s p)
      unfolding value_at
      value-at s eight p = unless s _ eight (value_in (value_from most_levels (length s) (drop p s) p 0) (value_read most_levels (length s) (drop p s) p 0))

      -- a key that is sought
      seek-by : (s : List ℕ) → Eight s → (p : ℕ) (k : List ℕ) (on : ℕ → Outcome Hit) → ((q : ℕ) → Among P (on q)) → (x : NextEntry) → Among P (seek_by s p k on x)
      seek-by s eight p k on h (key a m q) = by-test (Among P) (key_lt (take m (drop a s)) k) (λ x. after (skip_of s q) on (skipped s eight q) h) (λ x. tt)
      seek-by s eight p k on h (close q) = tt

      sought : (f : ℕ) (s : List ℕ) → Eight s → (p : ℕ) (k : List ℕ) → Among P (seek_of f s p k)
      unfolding seek_of
      sought zero s eight p k = one
      sought (suc f) s eight p k = after (entry_of s p) _ (entered s eight p) (seek-by s eight p k (λ q. seek_of f s q k) (λ q. sought f s eight q k))

  -- ---- values that are asked to be of a kind: 10, 11

  module _ (ten : P no.kind) where
    as-string : P no.byte → (p : ℕ) (h : Head) → Among P (string_in p h)
    as-string two p (walk.string a m q) = tt
    as-string two p (walk.integer z q) = ten
    as-string two p (walk.long a m q) = ten
    as-string two p (walk.list q) = ten
    as-string two p (walk.dictionary q) = ten
    as-string two p (walk.end q) = two

    as-dictionary : P no.byte → (p : ℕ) (h : Head) → Among P (dictionary_in p h)
    as-dictionary two p (walk.string a m q) = ten
    as-dictionary two p (walk.integer z q) = ten
    as-dictionary two p (walk.long a m q) = ten
    as-dictionary two p (walk.list q) = ten
    as-dictionary two p (walk.dictionary q) = tt
    as-dictionary two p (walk.end q) = two

    hit : {A : Type 0} (d : ℕ) (f : ℕ → Outcome A) → ((q : ℕ) → Among P (f q)) → (h : Hit) → Among P (hit_at d f h)
    hit d f k (found p q) = k q
    hit d f k (missing p) = ten

    list_at : (p : ℕ) (v : Value) → Among P (list_at_of p v)
    list_at p (str bs) = ten
    list_at p (int z) = ten
    list_at p (list vs) = tt
    list_at p (dict es) = ten

    dictionary-at : (p : ℕ) (v : Value) → Among P (dictionary_at p v)
    dictionary-at p (str bs) = ten
    dictionary-at p (int z) = ten
    dictionary-at p (list vs) = ten
    dictionary-at p (dict es) = tt

    needs : {A : Type 0} (d : ℕ) (u : Under) (f : ℕ → Value → Outcome A) → ((p : ℕ) (v : Value) → Among P (f p v)) → Among P (must d u f)
    needs d nothing f h = ten
    needs d (under p v) f h = h p v

    module _ (eleven : P no.range) where
      within : (most p : ℕ) (z : ℤ) → Among P (ranged most p z)
      within most p (pos n) = by-test (Among P) (leb n most) (λ x. tt) (λ x. eleven)
      within most p (negsuc n) = eleven

      as-natural : P no.byte → (most p : ℕ) (h : Head) → Among P (natural_in most p h)
      as-natural two most p (walk.string a m q) = ten
      as-natural two most p (walk.integer z q) = within most p z
      as-natural two most p (walk.long a m q) = eleven
      as-natural two most p (walk.list q) = ten
      as-natural two most p (walk.dictionary q) = ten
      as-natural two most p (walk.end q) = two

      natural-at : (most p : ℕ) (v : Value) → Among P (natural_at most p v)
      natural-at most p (str bs) = ten
      natural-at most p (int z) = within most p z
      natural-at most p (list vs) = ten
      natural-at most p (dict es) = ten

-- ---- a file, an element of a path, an entry of a reply: 13, or 15

module _ (P : ℕ → Type 0) (ten : P no.kind) (thirteen : P no.name) where
  name-at : (p : ℕ) (v : Value) → Among P (name_at p v)
  name-at p (str bs) = by-test (Among P) (good_name bs) (λ x. tt) (λ x. thirteen)
  name-at p (int z) = ten
  name-at p (list vs) = ten
  name-at p (dict es) = ten

  elements : (p : ℕ) (vs : Items) → Among P (elements_of p vs)
  unfolding elements_of
  elements p none = tt
  elements p (item v vs) = after P (name_at p v) _ (name-at p v) (λ x. elements (p + length (encode v)) vs)

  path-in : (p : ℕ) (vs : Items) → Among P (path_in p vs)
  path-in p none = thirteen
  path-in p (item v vs) = after_map P (λ q. p + 1) (elements_of (p + 1) (item v vs)) (elements (p + 1) (item v vs))

  path-at : (p : ℕ) (v : Value) → Among P (path_at p v)
  path-at p v = after P (list_at_of p v) (path_in p) (list_at P ten p v) (path-in p)

  file-of : P no.range → (p : ℕ) (v : Value) → Among P (file_of p v)
  unfolding file_of
  file-of eleven p v =
      after P (dictionary_at p v) _ (dictionary-at P ten p v)
      (λ es. after P (must p (lookup (p + 1) es length_key) (natural_at longest_file)) _ (needs P ten p (lookup (p + 1) es length_key) (natural_at longest_file) (natural-at P ten eleven longest_file))
      (λ n. after P (must p (lookup (p + 1) es path_key) path_at) _ (needs P ten p (lookup (p + 1) es path_key) path_at path-at)
      (λ a. tt)))

  as-element : (s : List ℕ) (p : ℕ) (h : Head) → Among P (element_in s p h)
  as-element s p (walk.string a m q) = by-test (Among P) (good_name (take m (drop a s))) (λ x. tt) (λ x. thirteen)
  as-element s p (walk.integer z q) = ten
  as-element s p (walk.long a m q) = ten
  as-element s p (walk.list q) = ten
  as-element s p (walk.dictionary q) = ten
  as-element s p (walk.end q) = tt

-- ---- the looks, each by the numbers of which P must hold

module _ (P : ℕ → Type 0) (s : List ℕ) (eight : Eight P s) (one : P 1) (two : P 2) where
  by-look : (p : ℕ) → Among P (look_of s p)
  by-look p = looked P one two s eight p

  by-entry : (p : ℕ) → Among P (entry_of s p)
  by-entry p = entered P one two s eight p

  by-element : P 10 → P 13 → (p : ℕ) → Among P (element_of s p)
  by-element ten thirteen p = after P (look_of s p) (element_in s p) (by-look p) (as-element P ten thirteen s p)

  module _ (three : P 3) (five : P 5) (six : P 6) where
    by-skip : (p : ℕ) → Among P (skip_of s p)
    by-skip p = skipped P one two three five six s eight p

    by-seek : (p : ℕ) (k : List ℕ) → Among P (sought_from s p k)
    by-seek p k = sought P one two three five six (suc (length s)) s eight p k

    by-file : P 10 → P 11 → P 13 → (p : ℕ) → Among P (file_at s p)
    by-file ten eleven thirteen p = after P (value_at s p) (file_of p) (value-at P one two three five six s eight p) (file-of P ten thirteen eleven p)

    -- an entry of a list: the searches for its keys, peer id, ip and port, and the place past it
    module _ (ten : P 10) (eleven : P 11) (fifteen : P 15) where
      sought-after : (o : Outcome Hit) (k : List ℕ) → Among P o → Among P (sought_after s o k)
      sought-after o k h = after P o _ h (λ x. by-seek (stopped x) k)

      needed-at : {A : Type 0} (d : ℕ) (o : Outcome Hit) (f : ℕ → Outcome A) → Among P o → ((q : ℕ) → Among P (f q)) → Among P (needed d o f)
      needed-at d o f h k = after P o (hit_at d f) h (hit P ten d f k)

      a-string : (q : ℕ) → Among P (field_string s q)
      a-string q = after P (look_of s q) (string_in q) (by-look q) (as-string P ten two q)

      an-id : (q : ℕ) → Among P (id_of s q)
      an-id q = after P (field_string s q) (id_length q) (a-string q) (λ x. by-test (Among P) (eqb x.len 20) (λ y. tt) (λ y. fifteen))

      a-port : (q : ℕ) → Among P (natural_of largest_port s q)
      a-port q = after P (look_of s q) (natural_in largest_port q) (by-look q) (as-natural P ten eleven two largest_port q)

      peer-from : (p : ℕ) (ips ids ports : Outcome Hit) → Among P ips → Among P ids → Among P ports → Among P (peer_from s p ips ids ports)
      peer-from p ips ids ports a b c =
          after P (needed p ids (id_of s)) _ (needed-at p ids (id_of s) b an-id)
          (λ id. after P (needed p ips (field_string s)) _ (needed-at p ips (field_string s) a a-string)
          (λ ip. after P (needed p ports (natural_of largest_port s)) _ (needed-at p ports (natural_of largest_port s) c a-port)
          (λ n. after_map P _ (skip_of s p) (by-skip p))))

      inside : (p first : ℕ) → Among P (peer_by s p first)
      inside p first =
          let a = sought_from s first ip_key in
          let b = sought_after s a id_key in
          let h = by-seek first ip_key in
          let g = sought-after a id_key h in
          peer-from p a b (sought_after s b port_key) h g (sought-after b port_key g)

      by-listed : (p : ℕ) → Among P (listed_at s p)
      unfolding listed_at
      by-listed p = after P (dictionary_of s p) (peer_by s p) (after P (look_of s p) (dictionary_in p) (by-look p) (as-dictionary P ten two p)) (inside p)

by-packed : (P : ℕ → Type 0) (s : List ℕ) → Eight P s → P 1 → (p : ℕ) → Among P (packed_at s p)
unfolding packed_at
by-packed P s eight one p = unless P s _ eight (by-test (Among P) (leb (p + 6) (length s)) (λ x. tt) (λ x. one))

-- ---- no other number: the numbers of each look in a list

abbrev Of : List ℕ → ℕ → Type 0
Of ns n = In n ns

-- the numbers of a list by their places there
at0 : {a : ℕ} {l : List ℕ} → In a (a ∷ l)
at0 = In.head refl

at1 : {a b : ℕ} {l : List ℕ} → In a (b ∷ a ∷ l)
at1 = In.tail at0

at2 : {a b c : ℕ} {l : List ℕ} → In a (b ∷ c ∷ a ∷ l)
at2 = In.tail at1

at3 : {a b c d : ℕ} {l : List ℕ} → In a (b ∷ c ∷ d ∷ a ∷ l)
at3 = In.tail at2

on4 : {a b c d e : ℕ} {l : List ℕ} → In a l → In a (b ∷ c ∷ d ∷ e ∷ l)
on4 i = In.tail (In.tail (In.tail (In.tail i)))

-- of a value that is read, then 8, then others
abbrev of_value : List ℕ → List ℕ
of_value ns = 1 ∷ 2 ∷ 3 ∷ 5 ∷ 6 ∷ 8 ∷ ns

past : {a : ℕ} {l : List ℕ} → In a l → In a (of_value l)
past i = on4 (In.tail (In.tail i))

abbrev of_file : ℕ → Type 0
of_file = Of (of_value (10 ∷ 11 ∷ 13 ∷ []))

abbrev of_peer : ℕ → Type 0
of_peer = Of (of_value (10 ∷ 11 ∷ 15 ∷ []))

pub look : (s : List ℕ) (p k q : ℕ) → look_of s p ≡ refused k q → In k (1 ∷ 2 ∷ 8 ∷ [])
look s p = given (Of (1 ∷ 2 ∷ 8 ∷ [])) (look_of s p) (by-look (Of (1 ∷ 2 ∷ 8 ∷ [])) s (λ h. at2) at0 at1 p)

pub entry-look : (s : List ℕ) (p k q : ℕ) → entry_of s p ≡ refused k q → In k (1 ∷ 2 ∷ 8 ∷ [])
entry-look s p = given (Of (1 ∷ 2 ∷ 8 ∷ [])) (entry_of s p) (by-entry (Of (1 ∷ 2 ∷ 8 ∷ [])) s (λ h. at2) at0 at1 p)

pub skip : (s : List ℕ) (p k q : ℕ) → skip_of s p ≡ refused k q → In k (1 ∷ 2 ∷ 3 ∷ 5 ∷ 6 ∷ 8 ∷ [])
skip s p = given (Of (of_value [])) (skip_of s p) (by-skip (Of (of_value [])) s (λ h. on4 at1) at0 at1 at2 at3 (on4 at0) p)

pub seek : (s : List ℕ) (p : ℕ) (j : List ℕ) (k q : ℕ) → sought_from s p j ≡ refused k q → In k (1 ∷ 2 ∷ 3 ∷ 5 ∷ 6 ∷ 8 ∷ [])
seek s p j = given (Of (of_value [])) (sought_from s p j) (by-seek (Of (of_value [])) s (λ h. on4 at1) at0 at1 at2 at3 (on4 at0) p j)

pub file-at : (s : List ℕ) (p k q : ℕ) → file_at s p ≡ refused k q → In k (1 ∷ 2 ∷ 3 ∷ 5 ∷ 6 ∷ 8 ∷ 10 ∷ 11 ∷ 13 ∷ [])
file-at s p = given of_file (file_at s p) (by-file of_file s (λ h. on4 at1) at0 at1 at2 at3 (on4 at0) (past at0) (past at1) (past at2) p)

pub element-at : (s : List ℕ) (p k q : ℕ) → element_of s p ≡ refused k q → In k (1 ∷ 2 ∷ 8 ∷ 10 ∷ 13 ∷ [])
element-at s p = given (Of (1 ∷ 2 ∷ 8 ∷ 10 ∷ 13 ∷ [])) (element_of s p) (by-element (Of (1 ∷ 2 ∷ 8 ∷ 10 ∷ 13 ∷ [])) s (λ h. at2) at0 at1 at3 (on4 at0) p)

pub packed-at : (s : List ℕ) (p k q : ℕ) → packed_at s p ≡ refused k q → In k (1 ∷ 8 ∷ [])
packed-at s p = given (Of (1 ∷ 8 ∷ [])) (packed_at s p) (by-packed (Of (1 ∷ 8 ∷ [])) s (λ h. at1) at0 p)

pub listed-at : (s : List ℕ) (p k q : ℕ) → listed_at s p ≡ refused k q → In k (1 ∷ 2 ∷ 3 ∷ 5 ∷ 6 ∷ 8 ∷ 10 ∷ 11 ∷ 15 ∷ [])
listed-at s p = given of_peer (listed_at s p) (by-listed of_peer s (λ h. on4 at1) at0 at1 at2 at3 (on4 at0) (past at0) (past at1) (past at2) p)

-- ---- 8 exactly where the text is too long

abbrev Other : ℕ → Type 0
Other n = n ≡ 8 → ⊥

not-8 : (n : ℕ) → eqb n 8 ≡ false → Other n
not-8 n e h = eqb-false n 8 e h

module _ {A : Type 0} (s : List ℕ) (o : Outcome A) (first : Limited s o) (short : Eight Other s → Among Other o) (q : ℕ) where
  eight-only : o ≡ refused 8 q → (most_text < length s) × (q ≡ 0)
  eight-only e = less-or most_text (length s)
      (λ h. (h, (same-refusal (sym e ∙ first ∙ sym (unless-long s o h))).1))
      (λ l. absurd (given Other o (short (λ h. absurd (omega arith))) 8 q e refl))

  eight-law : o ≡ refused 8 q ↔ ((most_text < length s) × (q ≡ 0))
  eight-law = (eight-only, λ h. first ∙ sym (unless-long s o h.0) ∙ ap (refused 8) (sym h.1))

module _ (s : List ℕ) (p q : ℕ) where
  pub look-8 : look_of s p ≡ refused 8 q ↔ ((most_text < length s) × (q ≡ 0))
  look-8 = eight-law s (look_of s p) (limited-look s p) (λ e. by-look Other s e (not-8 1 refl) (not-8 2 refl) p) q

  pub entry-8 : entry_of s p ≡ refused 8 q ↔ ((most_text < length s) × (q ≡ 0))
  entry-8 = eight-law s (entry_of s p) (limited-entry s p) (λ e. by-entry Other s e (not-8 1 refl) (not-8 2 refl) p) q

  pub skip-8 : skip_of s p ≡ refused 8 q ↔ ((most_text < length s) × (q ≡ 0))
  skip-8 = eight-law s (skip_of s p) (limited-skip s p) (λ e. by-skip Other s e (not-8 1 refl) (not-8 2 refl) (not-8 3 refl) (not-8 5 refl) (not-8 6 refl) p) q

  pub seek-8 : (j : List ℕ) → sought_from s p j ≡ refused 8 q ↔ ((most_text < length s) × (q ≡ 0))
  seek-8 j = eight-law s (sought_from s p j) (limited-seek s p (length s) j) (λ e. by-seek Other s e (not-8 1 refl) (not-8 2 refl) (not-8 3 refl) (not-8 5 refl) (not-8 6 refl) p j) q

  value-limited : Limited s (value_at s p)
  unfolding value_at
  value-limited = limited s _

  pub file_at-8 : file_at s p ≡ refused 8 q ↔ ((most_text < length s) × (q ≡ 0))
  file_at-8 = eight-law s (file_at s p) (limited-then s (value_at s p) (file_of p) value-limited)
      (λ e. by-file Other s e (not-8 1 refl) (not-8 2 refl) (not-8 3 refl) (not-8 5 refl) (not-8 6 refl) (not-8 10 refl) (not-8 11 refl) (not-8 13 refl) p) q

  pub element_at-8 : element_of s p ≡ refused 8 q ↔ ((most_text < length s) × (q ≡ 0))
  element_at-8 = eight-law s (element_of s p) (limited-then s (look_of s p) (element_in s p) (limited-look s p)) (λ e. by-element Other s e (not-8 1 refl) (not-8 2 refl) (not-8 10 refl) (not-8 13 refl) p) q

  packed-limited : Limited s (packed_at s p)
  unfolding packed_at
  packed-limited = limited s _

  pub packed_at-8 : packed_at s p ≡ refused 8 q ↔ ((most_text < length s) × (q ≡ 0))
  packed_at-8 = eight-law s (packed_at s p) packed-limited (λ e. by-packed Other s e (not-8 1 refl) p) q

  listed-limited : Limited s (listed_at s p)
  unfolding listed_at
  listed-limited = limited-then s (dictionary_of s p) (peer_by s p) (limited-then s (look_of s p) (dictionary_in p) (limited-look s p))

  pub listed_at-8 : listed_at s p ≡ refused 8 q ↔ ((most_text < length s) × (q ≡ 0))
  listed_at-8 = eight-law s (listed_at s p) listed-limited
      (λ e. by-listed Other s e (not-8 1 refl) (not-8 2 refl) (not-8 3 refl) (not-8 5 refl) (not-8 6 refl) (not-8 10 refl) (not-8 11 refl) (not-8 15 refl) p) q
