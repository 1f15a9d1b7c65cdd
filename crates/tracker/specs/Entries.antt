-- An entry at a place of any text, and the place past it. Assumes nothing: these are definitions.
-- From `six_at` on they serve contracts on any text and need not be believed: `peer-is` and `count-is` of tracker/proofs/Agreeing.antt tie them to Reply.antt, and `walked` of Walking.antt to Walks.antt.
use Rattle.refusal.specs.declared.Refusal.{Refusal}
use Rattle.std.specs.Prelude.{cond, List, ℕ, zero, suc, ◌+◌, ◌*◌, eqb, leb, length, get_or, drop, Err, Ok, Result}
use Rattle.refusal.specs.Paper.{Outcome, taken, refused, refusal, map, then}
use Rattle.refusal.specs.Numbers.{cut, peer}
use Rattle.refusal.specs.Limits.{largest_port}
use Rattle.refusal.specs.declared.Part.{Part}
use Rattle.bencode.specs.Decode.{closes, unless_long}
use Rattle.bencode_walk.specs.Walk.{Hit, skip_of}
use Rattle.bencode_fields.specs.Looks.{string_of, natural_of, dictionary_of, needed, sought_from, sought_after}
use Rattle.tracker.specs.Keys.{ip, peer_id, port}
use Rattle.tracker.specs.declared.compact.Packed.{Packed}
use Rattle.tracker.specs.declared.listed.Listed.{Listed}

-- an entry of six bytes, or a dictionary's peer id, ip and port
pub data PeerEntry : Type 0 where
  packed : Packed → PeerEntry
  listed : Listed → PeerEntry

-- an entry and the place past it
pub record PeerStep : Type 0 where
  pub entry : PeerEntry
  pub next : ℕ

-- four bytes of address and two of port, the most significant first
abbrev pub packed_of : ℕ → ℕ → ℕ → ℕ → ℕ → ℕ → Packed
packed_of a b c d e f = record { address = record { 0 = a; 1 = b; 2 = c; 3 = d }; port = e * 256 + f }

abbrev pub packed_paper : Result (Packed × ℕ) Refusal → Outcome PeerStep
packed_paper (Ok (x, q)) = taken (record { entry = packed x; next = q })
packed_paper (Err r) = refusal r

-- the six bytes at p
abbrev pub six_at : List ℕ → ℕ → Packed
six_at s p = packed_of (get_or s p 0) (get_or s (p + 1) 0) (get_or s (p + 2) 0) (get_or s (p + 3) 0) (get_or s (p + 4) 0) (get_or s (p + 5) 0)

unfoldable pub packed_at : List ℕ → ℕ → Outcome PeerStep
packed_at s p = unless_long s (cond (leb (p + 6) (length s)) (taken (record { entry = packed (six_at s p); next = p + 6 })) (refused cut (length s)))

abbrev pub listed_paper : Result (Listed × ℕ) Refusal → Outcome PeerStep
listed_paper (Ok (x, q)) = taken (record { entry = listed x; next = q })
listed_paper (Err r) = refusal r

-- a peer id at q: a string of 20 bytes; another length is 15
abbrev pub id_length : ℕ → Part → Outcome Part
id_length q x = cond (eqb x.len 20) (taken x) (refused peer q)

abbrev pub id_of : List ℕ → ℕ → Outcome Part
id_of s q = then (string_of s q) (id_length q)

-- the peer whose dictionary stands at p, once it is read: the place past it
abbrev pub past_peer : List ℕ → ℕ → Listed → Outcome PeerStep
past_peer s p x = map (λ q. record { entry = listed x; next = q }) (skip_of s p)

-- peer id, ip and port of the dictionary at p, by what the search for each gave
abbrev pub peer_from : List ℕ → ℕ → Outcome Hit → Outcome Hit → Outcome Hit → Outcome PeerStep
peer_from s p ips ids ports =
    then (needed p ids (id_of s)) (λ id.
    then (needed p ips (string_of s)) (λ a.
    then (needed p ports (natural_of largest_port s)) (λ n.
    past_peer s p (record { id = id; ip = a; port = n }))))

-- the keys are sought from the dictionary's first key on, in the order of their bytes
abbrev pub peer_by : List ℕ → ℕ → ℕ → Outcome PeerStep
peer_by s p first =
    peer_from s p
    (sought_from s first ip)
    (sought_after s (sought_from s first ip) peer_id)
    (sought_after s (sought_after s (sought_from s first ip) peer_id) port)

unfoldable pub listed_at : List ℕ → ℕ → Outcome PeerStep
listed_at s p = then (dictionary_of s p) (peer_by s p)

unfoldable pub count_from : ℕ → List ℕ → ℕ → Outcome ℕ
count_from zero s p = refused cut (length s)
count_from (suc f) s p =
    let r : Outcome ℕ = then (listed_at s p) (λ x. map suc (count_from f s x.next)) in
    cond (closes (drop p s)) (taken 0) r

abbrev pub count_of : List ℕ → ℕ → Outcome ℕ
count_of s p = unless_long s (count_from (suc (length s)) s p)

-- entry number n of those that stand from p on
unfoldable pub nth_at : ℕ → List ℕ → ℕ → Outcome PeerStep
nth_at zero s p = listed_at s p
nth_at (suc n) s p = then (skip_of s p) (λ q. nth_at n s q)
