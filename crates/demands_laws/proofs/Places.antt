-- Where the parts stand that a torrent or a reply hands back. Assumes nothing.
use mathlib.Core.Path.{◌≡◌, refl, sym, ap, ◌∙◌, subst}
use mathlib.Core.Bool.{Bool, true, false, cond}
use mathlib.Core.List.{List, [], ◌∷◌}
use Prim.Native.Nat.{ℕ, ◌+◌, ◌*◌, ◌%◌}
use lib.Dec.{eqb}
use lib.ListN.{length}
use Rattle.refusal.specs.Paper.{Outcome, taken, refused, map, then}
use Rattle.refusal.specs.declared.Part.{Part}
use Rattle.refusal.specs.Limits.{longest_interval, longest_file, largest_port}
use Rattle.bencode.specs.Value.{Value, Items, Entries, str, int, list, dict, none, item, encode}
use Rattle.bencode.specs.Decode.{decode}
use Rattle.torrent_blocks.specs.Rules.{file_count, total_and, pieces_of}
use Rattle.bencode_walk.specs.Lookup.{Under, nothing, under, lookup}
use Rattle.bencode_fields.specs.Values.{part_of, string_at, natural_at, list_at_of, dictionary_at, must}
use Rattle.torrent_metainfo.specs.Keys.{announce_key, info_key, files_key, length_key, name_key, path_key, piece_length_key, pieces_key}
use Rattle.torrent_metainfo.specs.Rules.{good_name, name_at, elements_of, path_at, file_in, file_of, piece_length_at, lengths_of, one_file, many_files, content_of, place_under, sized_of, info_of, info_at, top_of, torrent_of}
use Rattle.torrent_metainfo.specs.Reading.{read_of}
use Rattle.torrent_metainfo.specs.declared.File.{File}
use Rattle.torrent_metainfo.specs.declared.Content.{Content}
use Rattle.torrent_metainfo.specs.declared.Torrent.{Torrent}
use Rattle.torrent_contents.specs.Files.{into, in_info, entries_from, entries_under, entry_of, entry as file_entry, single as one_entry}
use Rattle.bencode_fields.specs.Nth.{nth}
use Rattle.torrent_contents.specs.declared.Entry.{Entry as FileEntry}
use Rattle.torrent_contents.proofs.Walking.{files-walked}
use Rattle.tracker.specs.Keys.{failure_reason, interval, peers, ip, peer_id, port}
use Rattle.tracker.specs.Entries.{PeerEntry, listed, id_length}
use Rattle.tracker.specs.declared.listed.Listed.{Listed}
use Rattle.refusal.proofs.Outcomes.{not_taken, then-taken, map-taken}
use Rattle.bencode.proofs.Exact.{fine-taken}
use Rattle.tracker.specs.Reply.{Answer, failure, compact, listing, sixes, id_at, peer_in, peer_at, peers_from, peers_at, reply_by, reply_of}
use Rattle.demands_laws.specs.Texts.{Encodes}
use Rattle.demands_laws.proofs.Texts.{fine, as-torrent, as-reply}
use Rattle.demands_laws.specs.Places.{PartUnder, PeersPlaced, no-peers, one-peer, ReplyPlaced, FilesPlaced, no-files, one-file}
use Rattle.demands_laws.proofs.Files.{by_number, one-within}

-- ---- what a look took

string-in : (p : ℕ) (v : Value) (a : Part) → string_at p v ≡ taken a → (bs : List ℕ) × (v ≡ str bs) × (a ≡ part_of p bs)
string-in p (str bs) a e = let z : part_of p bs ≡ a = cc in (bs, refl, sym z)
string-in p (int z) a e = not_taken e
string-in p (list vs) a e = not_taken e
string-in p (dict es) a e = not_taken e

name_in : (p : ℕ) (v : Value) (a : Part) → name_at p v ≡ taken a → (bs : List ℕ) × (v ≡ str bs) × (a ≡ part_of p bs)
name_in p (str bs) a e = go (good_name bs) e
  where
    go : (b : Bool) → cond b (taken (part_of p bs)) (refused 13 p) ≡ taken a → (cs : List ℕ) × (str bs ≡ str cs) × (a ≡ part_of p cs)
    go true f = let z : part_of p bs ≡ a = cc in (bs, refl, sym z)
    go false f = not_taken f
name_in p (int z) a e = not_taken e
name_in p (list vs) a e = not_taken e
name_in p (dict es) a e = not_taken e

dict-in : (p : ℕ) (v : Value) (es : Entries) → dictionary_at p v ≡ taken es → v ≡ dict es
dict-in p (str bs) es e = not_taken e
dict-in p (int z) es e = not_taken e
dict-in p (list vs) es e = not_taken e
dict-in p (dict fs) es e = let z : fs ≡ es = cc in ap dict z

must-in : {A : Type 0} (d : ℕ) (u : Under) (f : ℕ → Value → Outcome A) (x : A) → must d u f ≡ taken x → (p : ℕ) × (v : Value) × (u ≡ under p v) × (f p v ≡ taken x)
must-in d nothing f x e = not_taken e
must-in d (under p v) f x e = (p, v, refl, e)

-- a string that must be there
part_in : (d p : ℕ) (es : Entries) (key : List ℕ) (a : Part) → must d (lookup p es key) string_at ≡ taken a → PartUnder p es key a
part_in d p es key a e =
    let m = must-in d (lookup p es key) string_at a e in
    let s = string-in m.0 m.1 a m.3 in
    (m.0, s.0, m.2 ∙ ap (under m.0) s.1, s.2)

name-part : (d p : ℕ) (es : Entries) (key : List ℕ) (a : Part) → must d (lookup p es key) name_at ≡ taken a → PartUnder p es key a
name-part d p es key a e =
    let m = must-in d (lookup p es key) name_at a e in
    let s = name_in m.0 m.1 a m.3 in
    (m.0, s.0, m.2 ∙ ap (under m.0) s.1, s.2)

-- ---- torrents

content-in : (info : ℕ) (l f : Under) (c : Content) → content_of info l f ≡ taken c → (w : Value) × (cond c.single l f ≡ under c.place w)
content-in info (under p v) nothing c e =
    let m = map-taken (one_file p) (natural_at longest_file p v) c e in
    (v, subst (λ (k : Content). cond k.single (under p v) nothing ≡ under k.place v) m.2 refl)
content-in info nothing (under p v) c e =
    let t = then-taken (list_at_of p v) (λ vs. map (many_files p) (lengths_of (p + 1) vs)) c e in
    let m = map-taken (many_files p) (lengths_of (p + 1) t.0) c t.2 in
    (v, subst (λ (k : Content). cond k.single nothing (under p v) ≡ under k.place v) m.2 refl)
content-in info nothing nothing c e = not_taken e
content-in info (under p v) (under q w) c e = not_taken e

one-lookup : (b : Bool) (p : ℕ) (es : Entries) (k j : List ℕ) → lookup p es (cond b k j) ≡ cond b (lookup p es k) (lookup p es j)
one-lookup true p es k j = refl
one-lookup false p es k j = refl

three-passed : {A : Type 0} (b c d : Bool) (m n o p q r : ℕ) (z x : A) → cond b (cond c (cond d (taken z) (refused m n)) (refused o p)) (refused q r) ≡ taken x → z ≡ x
three-passed true true true m n o p q r z x e = cc
three-passed true true false m n o p q r z x e = not_taken e
three-passed true false d m n o p q r z x e = not_taken e
three-passed false c d m n o p q r z x e = not_taken e

abbrev torrent_of_parts : Part → Part → Part → Part → ℕ → Content → Torrent
torrent_of_parts a i n s pl c = record { announce = a; info = i; name = n; pieces = s; piece_length = pl; piece_count = pieces_of c.total pl; content = c }

sized-in : (a i n s : Part) (p pl : ℕ) (c : Content) (x : Torrent) → sized_of a i n s p pl c ≡ taken x → torrent_of_parts a i n s pl c ≡ x
unfolding sized_of
sized-in a i n s p pl c x e =
    three-passed (file_count c.files) (total_and c.total (pieces_of c.total pl)) (eqb s.len (20 * pieces_of c.total pl)) 12 p 11 c.place 11 c.place (torrent_of_parts a i n s pl c) x e

-- what info hands back, its dictionary at q
abbrev InfoPlaced : ℕ → Entries → Torrent → Type 0
InfoPlaced q is x =
    (x.info ≡ record { from = q; len = length (encode (dict is)) })
    × PartUnder (q + 1) is name_key x.name × PartUnder (q + 1) is pieces_key x.pieces
    × ((w : Value) × (lookup (q + 1) is (cond x.content.single length_key files_key) ≡ under x.content.place w))

module _ (a : Part) (q : ℕ) (is : Entries) where
  abbrev whole : Part
  whole = record { from = q; len = length (encode (dict is)) }

  abbrev sizes : Part → ℕ → Part → Content → Outcome Torrent
  sizes n pl s c = sized_of a whole n s (place_under (lookup (q + 1) is pieces_key)) pl c

  abbrev after_pieces : Part → ℕ → Part → Outcome Torrent
  after_pieces n pl s = then (content_of q (lookup (q + 1) is length_key) (lookup (q + 1) is files_key)) (λ c. sizes n pl s c)

  abbrev after_length : Part → ℕ → Outcome Torrent
  after_length n pl = then (must q (lookup (q + 1) is pieces_key) string_at) (λ s. after_pieces n pl s)

  abbrev after_name : Part → Outcome Torrent
  after_name n = then (must q (lookup (q + 1) is piece_length_key) piece_length_at) (λ pl. after_length n pl)

  info-in : (x : Torrent) → info_of a q is ≡ taken x → (x.announce ≡ a) × InfoPlaced q is x
  unfolding info_of
  info-in x e =
      let n = then-taken (must q (lookup (q + 1) is name_key) name_at) after_name x e in
      let l = then-taken (must q (lookup (q + 1) is piece_length_key) piece_length_at) (after_length n.0) x n.2 in
      let s = then-taken (must q (lookup (q + 1) is pieces_key) string_at) (after_pieces n.0 l.0) x l.2 in
      let c = then-taken (content_of q (lookup (q + 1) is length_key) (lookup (q + 1) is files_key)) (sizes n.0 l.0 s.0) x s.2 in
      let z = sized-in a whole n.0 s.0 (place_under (lookup (q + 1) is pieces_key)) l.0 c.0 x c.2 in
      let k = content-in q (lookup (q + 1) is length_key) (lookup (q + 1) is files_key) c.0 c.1 in
      subst (λ (y : Torrent). (y.announce ≡ a) × InfoPlaced q is y) z (
        refl,
        (refl, name-part q (q + 1) is name_key n.0 n.1, part_in q (q + 1) is pieces_key s.0 s.1, (k.0, one-lookup c.0.single (q + 1) is length_key files_key ∙ k.1)),
      )

placed : (es : Entries) (x : Torrent) → torrent_of (dict es) ≡ taken x
    → PartUnder 1 es announce_key x.announce × ((q : ℕ) × (is : Entries) × (lookup 1 es info_key ≡ under q (dict is)) × InfoPlaced q is x)
unfolding torrent_of top_of
placed es x e =
    let t = then-taken (must 0 (lookup 1 es announce_key) string_at) (λ a. must 0 (lookup 1 es info_key) (info_at a)) x e in
    let a = part_in 0 1 es announce_key t.0 t.1 in
    let m = must-in 0 (lookup 1 es info_key) (info_at t.0) x t.2 in
    let d = then-taken (dictionary_at m.0 m.1) (info_of t.0 m.0) x m.3 in
    let i = info-in t.0 m.0 d.0 x d.2 in
    (subst (PartUnder 1 es announce_key) (sym i.0) a, (m.0, d.0, m.2 ∙ ap (under m.0) (dict-in m.0 m.1 d.0 d.1), i.1))

pub torrent-placed : (s : List ℕ) (x : Torrent) → read_of s ≡ taken x → (es : Entries) → Encodes s (dict es)
    → PartUnder 1 es announce_key x.announce × ((q : ℕ) × (is : Entries) × (lookup 1 es info_key ≡ under q (dict is)) × InfoPlaced q is x)
torrent-placed s x e es n = placed es x (sym (as-torrent s (dict es) n) ∙ e)

-- ---- files by number

path-in : (q : ℕ) (w : Value) (a : ℕ) → path_at q w ≡ taken a → (ps : Items) × (w ≡ list ps) × (a ≡ q + 1)
path-in q (list none) a e = not_taken e
path-in q (list (item v vs)) a e = let m = map-taken (λ (k : ℕ). q + 1) (elements_of (q + 1) (item v vs)) a e in (item v vs, refl, sym m.2)
path-in q (str bs) a e = not_taken e
path-in q (int z) a e = not_taken e
path-in q (dict es) a e = not_taken e

module _ (p r : ℕ) (es : Entries) where
  abbrev after_size : ℕ → Outcome File
  after_size n = then (must p (lookup (p + 1) es path_key) path_at) (λ a. taken (record { length = n; path = a; next = r }))

  file-in : (f : File) → file_in p r es ≡ taken f → (q : ℕ) × (ps : Items) × (lookup (p + 1) es path_key ≡ under q (list ps)) × (f.path ≡ q + 1) × (f.next ≡ r)
  file-in f e =
      let n = then-taken (must p (lookup (p + 1) es length_key) (natural_at longest_file)) after_size f e in
      let a = then-taken (must p (lookup (p + 1) es path_key) path_at) (λ a. taken (record { length = n.0; path = a; next = r })) f n.2 in
      let made : File = record { length = n.0; path = a.0; next = r } in
      let z : made ≡ f = same made f a.2 in
      let m = must-in p (lookup (p + 1) es path_key) path_at a.0 a.1 in
      let w = path-in m.0 m.1 a.0 m.3 in
      (m.0, w.0, m.2 ∙ ap (under m.0) w.1, sym (ap (λ (g : File). g.path) z) ∙ w.2, sym (ap (λ (g : File). g.next) z))
    where
      same : (y z : File) → taken y ≡ taken z → y ≡ z
      same y z g = cc

files-placed : (p o : ℕ) (vs : Items) (l : List FileEntry) → entries_from p o vs ≡ taken l → FilesPlaced p vs l
unfolding entries_from file_of
files-placed p o none l e = let z : [] ≡ l = cc in subst (FilesPlaced p none) z (no-files p)
files-placed p o (item v vs) l e =
    let t = then-taken (file_of p v) (λ f. map (λ k. file_entry o f ∷ k) (entries_from f.next (o + f.length) vs)) l e in
    let m = map-taken (λ k. file_entry o t.0 ∷ k) (entries_from t.0.next (o + t.0.length) vs) l t.2 in
    let d = then-taken (dictionary_at p v) (file_in p (p + length (encode v))) t.0 t.1 in
    let w = dict-in p v d.0 d.1 in
    let x = file-in p (p + length (encode v)) d.0 t.0 d.2 in
    let r = files-placed t.0.next (o + t.0.length) vs m.0 m.1 in
    let rest = subst (λ (k : ℕ). FilesPlaced k vs m.0) (x.4 ∙ ap (λ (u : Value). p + length (encode u)) w) r in
    let all = one-file p x.0 d.0 x.1 vs (file_entry o t.0) m.0 x.2 x.3 rest in
    subst (FilesPlaced p (item v vs)) m.2 (subst (λ (u : Value). FilesPlaced p (item u vs) (file_entry o t.0 ∷ m.0)) (sym w) all)

-- where the files of a torrent of many stand
abbrev ListPlaced : List ℕ → ℕ → Entries → Torrent → FileEntry → Type 0
ListPlaced s n es x e = (q : ℕ) × (is : Entries) × (vs : Items) × (l : List FileEntry)
    × (lookup 1 es info_key ≡ under q (dict is)) × (lookup (q + 1) is files_key ≡ under x.content.place (list vs)) × FilesPlaced (x.content.place + 1) vs l × (nth n l ≡ taken e)

module _ (s : List ℕ) (n : ℕ) (es : Entries) (enc : Encodes s (dict es)) (x : Torrent) (r : read_of s ≡ taken x) (e : FileEntry) (h : entry_of s n ≡ taken e) where
  pub only-placed : x.content.single ≡ true → n ≡ 0 → e.path ≡ x.name.from
  only-placed one z = let q : taken (one_entry x) ≡ taken e = sym (one-within s n x r one z) ∙ h in let k : one_entry x ≡ e = cc in sym (ap (λ (y : FileEntry). y.path) k)

  pub many-placed : x.content.single ≡ false → ListPlaced s n es x e
  many-placed one =
      let w = files-walked s x r one in
      let d : decode s ≡ taken (dict es) = fine-taken s (dict es) (fine enc) in
      let v : taken w.value ≡ taken (dict es) = sym w.decoded ∙ d in
      let z : w.value ≡ dict es = cc in
      let t = torrent-placed s x r es enc in
      let u = t.1.2 in
      let a : in_info (dict es) files_key ≡ under x.content.place (list w.items) = ap (λ (y : Value). in_info y files_key) (sym z) ∙ w.listed in
      let b : lookup (t.1.0 + 1) t.1.1 files_key ≡ under x.content.place (list w.items) = sym (ap (λ (k : Under). into k files_key) u) ∙ a in
      let f : entries_under (under x.content.place (list w.items)) ≡ taken w.entries =
      sym (ap entries_under w.listed) ∙ sym (ap (λ (k : Bool). cond k (taken (one_entry x ∷ [])) (entries_under (in_info w.value files_key))) one) ∙ w.numbered in
      (t.1.0, t.1.1, w.items, w.entries, u, b, files-placed (x.content.place + 1) 0 w.items w.entries f, sym (by_number s n x r w.value w.entries w.decoded w.numbered) ∙ h)

-- ---- replies

id-part : (d p : ℕ) (es : Entries) (a : Part) → must d (lookup p es peer_id) id_at ≡ taken a → PartUnder p es peer_id a
id-part d p es a e =
    let m = must-in d (lookup p es peer_id) id_at a e in
    let t = then-taken (string_at m.0 m.1) (id_length m.0) a m.3 in
    let s = string-in m.0 m.1 t.0 t.1 in
    (m.0, s.0, m.2 ∙ ap (under m.0) s.1, sym (go m.0 (eqb t.0.len 20) t.0 t.2) ∙ s.2)
  where
    go : (q : ℕ) (b : Bool) (x : Part) → cond b (taken x) (refused 15 q) ≡ taken a → x ≡ a
    go q true x f = cc
    go q false x f = not_taken f

module _ (p : ℕ) (es : Entries) where
  abbrev after_ip : Part → Part → Outcome Listed
  after_ip i a = then (must p (lookup (p + 1) es port) (natural_at largest_port)) (λ n. taken (record { id = i; ip = a; port = n }))

  abbrev after_id : Part → Outcome Listed
  after_id i = then (must p (lookup (p + 1) es ip) string_at) (λ a. after_ip i a)

  peer-in : (x : Listed) → peer_in p es ≡ taken x → PartUnder (p + 1) es peer_id x.id × PartUnder (p + 1) es ip x.ip
  peer-in x e =
      let i = then-taken (must p (lookup (p + 1) es peer_id) id_at) after_id x e in
      let a = then-taken (must p (lookup (p + 1) es ip) string_at) (after_ip i.0) x i.2 in
      let n = then-taken (must p (lookup (p + 1) es port) (natural_at largest_port)) (λ n. taken (record { id = i.0; ip = a.0; port = n })) x a.2 in
      let f = n.2 in
      let made : Listed = record { id = i.0; ip = a.0; port = n.0 } in
      let z : made ≡ x = same made x f in
      subst (λ (y : Listed). PartUnder (p + 1) es peer_id y.id × PartUnder (p + 1) es ip y.ip) z (id-part p (p + 1) es i.0 i.1, part_in p (p + 1) es ip a.0 a.1)
    where
      same : (y z : Listed) → taken y ≡ taken z → y ≡ z
      same y z g = cc

peers-placed : (p : ℕ) (vs : Items) (l : List PeerEntry) → peers_from p vs ≡ taken l → PeersPlaced p vs l
unfolding peers_from
peers-placed p none l e = let z : [] ≡ l = cc in subst (PeersPlaced p none) z (no-peers p)
peers-placed p (item v vs) l e =
    let t = then-taken (peer_at p v) (λ x. map (λ k. listed x ∷ k) (peers_from (p + length (encode v)) vs)) l e in
    let m = map-taken (λ k. listed t.0 ∷ k) (peers_from (p + length (encode v)) vs) l t.2 in
    let d = then-taken (dictionary_at p v) (peer_in p) t.0 t.1 in
    let w = dict-in p v d.0 d.1 in
    let x = peer-in p d.0 t.0 d.2 in
    let r = peers-placed (p + length (encode v)) vs m.0 m.1 in
    let rest = subst (λ (u : Value). PeersPlaced (p + length (encode u)) vs m.0) w r in
    let all = one-peer p d.0 vs t.0.id t.0.ip t.0.port m.0 x.0 x.1 rest in
    subst (PeersPlaced p (item v vs)) m.2 (subst (λ (u : Value). PeersPlaced p (item u vs) (listed t.0 ∷ m.0)) (sym w) all)

peers-in : (n p : ℕ) (v : Value) (es : Entries) (x : Answer (List PeerEntry)) → lookup 1 es peers ≡ under p v → peers_at n p v ≡ taken x → ReplyPlaced es x
peers-in n p (str bs) es x u e = go (eqb (length bs % 6) 0) e
  where
    go : (b : Bool) → cond b (taken (compact n (part_of p bs).from (sixes bs))) (refused 15 p) ≡ taken x → ReplyPlaced es x
    go true f = let z : compact n (part_of p bs).from (sixes bs) ≡ x = cc in subst (ReplyPlaced es) z (p, bs, u, refl)
    go false f = not_taken f
peers-in n p (int z) es x u e = not_taken e
peers-in n p (list vs) es x u e =
    let m = map-taken (listing n (p + 1)) (peers_from (p + 1) vs) x e in
    subst (ReplyPlaced es) m.2 (p, vs, u, refl, peers-placed (p + 1) vs m.0 m.1)
peers-in n p (dict ds) es x u e = not_taken e

pub reply-placed : (s : List ℕ) (es : Entries) → Encodes s (dict es) → (x : Answer (List PeerEntry)) → reply_of s ≡ taken x → ReplyPlaced es x
reply-placed s es n x e = go (lookup 1 es failure_reason) refl (sym (as-reply s es n) ∙ e)
  where
    go : (u : Under) → lookup 1 es failure_reason ≡ u → reply_by es u ≡ taken x → ReplyPlaced es x
    go nothing f g =
        let t = then-taken (must 0 (lookup 1 es interval) (natural_at longest_interval)) (λ n. must 0 (lookup 1 es peers) (peers_at n)) x g in
        let m = must-in 0 (lookup 1 es peers) (peers_at t.0) x t.2 in
        peers-in t.0 m.0 m.1 es x m.2 m.3
    go (under p v) f g =
        let m = map-taken failure (string_at p v) x g in
        let s = string-in p v m.0 m.1 in
        subst (ReplyPlaced es) m.2 (p, s.0, f ∙ ap (under p) s.1, s.2)
