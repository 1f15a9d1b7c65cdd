-- A peer's dictionary of just three keys, from its bytes to what is listed. Assumes nothing.
use Rattle.std.proofs.Common.{Result, Ok, Err, Some, eqb, ◌≡◌, refl, sym, ap, ◌∙◌, subst, Bool, true, false, List, [], ◌∷◌, ◌++◌, append_assoc, ℕ, ◌+◌, ◌-◌, ◌≤◌, arith, ℤ, pos, w64, to_z, of_z, length, take, drop, length-append, length-drop, length-take, take-append-drop, drop-drop, le-leb, eq-eqb}
use Rattle.std.specs.Result.{result_ok}
use Rattle.refusal.specs.declared.Refusal.{Refusal}
use Rattle.std.specs.List.{starts_with}
use Rattle.std.proofs.lemmas.Bool.Decides.{Decides-eqb}
use Rattle.std.proofs.lemmas.Slice.Eq.{starts_is}
use mir.ValLaws.{to_z-of_z}
use Rattle.refusal.specs.Paper.{taken, map}
use Rattle.refusal.specs.Texts.{bytes}
use Rattle.refusal.specs.declared.Part.{Part}
use Rattle.refusal.specs.Parts.{bytes_at}
use Rattle.refusal.proofs.Cases.{no_way}
use Rattle.bencode_scalar.specs.Written.{decimal, decimal_in, written_string, written_int, in_range, key_lt}
use Rattle.bencode_scalar.specs.Reading.{Got, got, bad, string_at, integer_at}
use Rattle.bencode_scalar.specs.Answers.{text_of, integer_is}
use Rattle.bencode_scalar.specs.declared.Int.TheVariants.{Is, Large}
use Rattle.bencode_scalar.proofs.Sound.{Holds, TextP, IntP, string_at-sound, integer-at-sound}
use Rattle.bencode_scalar.proofs.Determined.{whole-inside}
use Rattle.bencode.specs.Value.{Value, str, int, dict, empty, entry, encode, count, Keeps}
use Rattle.bencode_walk.specs.Stands.{Stands}
use Rattle.bencode_walk.proofs.Standing.{past, room}
use Rattle.bencode_walk.proofs.Seeing.{range-fits}
use Rattle.bencode_walk.specs.Lookup.{lookup, same_key}
use Rattle.bencode_fields.specs.Values.{part_of}
use Rattle.tracker.specs.Keys.{ip, peer_id, port}
use Rattle.tracker.specs.Entries.{listed, listed_at}
use Rattle.tracker.specs.Reply.{peer_at}
use Rattle.tracker.specs.Usual.{Reads, id_and_port, Ends}
use Rattle.tracker.proofs.Agreeing.{peer-is}
use Rattle.tracker.proofs.Steps.{drop-whole}

-- a run of bytes that a test found at a place
pub run-reads : (s run : List ℕ) (at : ℕ) (r : Bool) → at ≤ length s → r ≡ starts_with eqb (take (length s - at) (drop at s)) run → r ≡ true → Reads s at run (at + length run)
run-reads s run at r h e t =
    let f : drop at s ≡ run ++ drop (length run) (drop at s) = (starts_is Decides-eqb (drop at s) run r (e ∙ ap (λ (l : List ℕ). starts_with eqb l run) (drop-whole s at))).0 t in
    record { text = f ∙ ap (λ (l : List ℕ). run ++ l) (drop-drop (length run) at s); place = refl; inside = omega (arith, room s at run (drop (length run) (drop at s)) h f) }

-- one after the other
pub reads_then : {s v w : List ℕ} {p q o : ℕ} → Reads s p v q → Reads s q w o → Reads s p (v ++ w) o
reads_then {s} {v} {w} {p} {q} {o} x y = record {
  text = x.text ∙ ap (λ (l : List ℕ). v ++ l) y.text ∙ sym (append_assoc v w (drop o s));
  place = omega (arith, x.place, y.place, length-append v w);
  inside = y.inside;
}

-- the dictionary of just the ip a, the peer id i and the port n
abbrev three : List ℕ → List ℕ → ℕ → Value
three a i n = dict (entry ip (str a) (entry peer_id (str i) (entry port (int (pos n)) empty)))

three-stands : (s : List ℕ) (p q n : ℕ) (a i : List ℕ) → length s ≤ 1048576 → Reads s p (encode (three a i n)) q → Stands s 1 p (three a i n)
unfolding Keeps count key_lt
three-stands s p q n a i short r = record {
  rest = drop q s;
  text = r.text;
  inside = omega (arith, r.place, r.inside);
  short = short;
  keeps = (0, refl, (refl, tt, (refl, tt, (refl, tt, tt))));
  few = omega arith;
}

-- what its keys hold, by their places
three-peer : (p n : ℕ) (a i : List ℕ) → n ≤ 65535 → length i ≡ 20
    → peer_at p (three a i n) ≡ taken (record { id = part_of (p + 1 + 4 + length (encode (str a)) + 9) i; ip = part_of (p + 1 + 4) a; port = n })
unfolding lookup same_key decimal_in
three-peer p n a i small twenty = rw (le-leb n 65535 small, eq-eqb (length i) 20 twenty)

-- what the string reader answers, as bytes: the string that stands at p
read-string : (s : List ℕ) (p : ℕ) (x : Part) → p ≤ length s → text_of s 0 (Ok x) ≡ string_at (length s) (drop p s) p 0
    → Reads s p (written_string (bytes_at s x)) (x.from + x.len) × (length (bytes_at s x) ≡ x.len)
read-string s p x h e =
    let i : x.from + x.len ≤ length s = whole-inside s p x h e in
    let v : TextP (drop p s) p 0 (bytes_at s x) (drop (x.from + x.len) s) (x.from + x.len) 0 = subst (Holds (TextP (drop p s) p 0)) (sym e) (string_at-sound (length s) (drop p s) p 0 (omega (arith, length-drop p s))) in (
      record { text = v.0.text; place = v.0.place; inside = i },
      length-take x.len (drop x.from s) ∙ omega (arith, length-drop x.from s),
    )

pub string-reads : (s : List ℕ) (p : ℕ) (x : Part) (r : Result Part Refusal) → p ≤ length s → Some x ≡ result_ok r → text_of s 0 r ≡ string_at (length s) (drop p s) p 0
    → Reads s p (written_string (bytes_at s x)) (x.from + x.len) × (length (bytes_at s x) ≡ x.len)
string-reads s p x (Ok y) h f e = let g : y ≡ x = cc in read-string s p x h (ap (λ (z : Part). text_of s 0 (Ok z)) (sym g) ∙ e)
string-reads s p x (Err r) h f e = no_way (cc)

-- what the integer reader answers: the integer that stands at p
integer-by : (s : List ℕ) (p : ℕ) → p ≤ length s → (g : Got ℤ) → Holds (IntP (drop p s) p 0) g → (z : ℤ) (q : ℕ) → Ok (Is z q) ≡ integer_is g → Reads s p (written_int z) q × (in_range z ≡ true)
integer-by s p h (got y l o m) t z q e = go (in_range y) refl
  where
    go : (b : Bool) → in_range y ≡ b → Reads s p (written_int z) q × (in_range z ≡ true)
    go true x =
        let f : Ok (Is z q) ≡ Ok (Is y o) = e ∙ rw x in
        let k : y ≡ z = cc in
        let j : o ≡ q = cc in
        let w : drop p s ≡ written_int z ++ l = t.0.text ∙ ap (λ (u : ℤ). written_int u ++ l) k in
        let a : q ≡ p + length (written_int z) = sym j ∙ t.0.place ∙ ap (λ (u : ℤ). p + length (written_int u)) k in
        let r : drop q s ≡ l = ap (λ (u : ℕ). drop u s) a ∙ past s p (written_int z) l w in
        (record { text = w ∙ ap (λ (u : List ℕ). written_int z ++ u) (sym r); place = a; inside = omega (arith, room s p (written_int z) l h w) }, ap in_range (sym k) ∙ x)
    go false x = let f : Ok (Is z q) ≡ Ok (Large o) = e ∙ rw x in no_way (cc)
integer-by s p h (bad r o) t z q e = no_way (cc)

integer-reads : (s : List ℕ) (p : ℕ) (z : ℤ) (q : ℕ) → p ≤ length s → Ok (Is z q) ≡ integer_is (integer_at (length s) (drop p s) p 0) → Reads s p (written_int z) q × (in_range z ≡ true)
integer-reads s p z q h e = integer-by s p h (integer_at (length s) (drop p s) p 0) (integer-at-sound (length s) (drop p s) p 0) z q e

-- bytes that are there, whatever they are
reads-part : (s : List ℕ) (p m : ℕ) → p + m ≤ length s → Reads s p (take m (drop p s)) (p + m) × (length (take m (drop p s)) ≡ m)
reads-part s p m h =
    let k : length (take m (drop p s)) ≡ m = length-take m (drop p s) ∙ omega (arith, length-drop p s) in (
      record { text = sym (take-append-drop m (drop p s)) ∙ ap (λ (l : List ℕ). take m (drop p s) ++ l) (drop-drop m p s); place = omega (arith, k); inside = h },
      k,
    )

-- what stands before the peer id and before the port
abbrev pub id_run : List ℕ
id_run = bytes "7:peer id20:"

abbrev pub port_run : List ℕ
port_run = bytes "4:port"

id-and-port : (i : List ℕ) (n : ℕ) → length i ≡ 20 → id_and_port i n ≡ id_run ++ (i ++ (port_run ++ (written_int (pos n) ++ 101 ∷ [])))
unfolding encode decimal_in
id-and-port i n e = ap (λ (m : ℕ). written_string peer_id ++ ((decimal m ++ 58 ∷ i) ++ (port_run ++ (written_int (pos n) ++ 101 ∷ [])))) e

-- z is the port as the machine's word has it
pub ending-is : {s : List ℕ} {p id e n : ℕ} (z : ℤ) (past next : ℕ) → Reads s p id_run id → 20 ≤ length s - id → Reads s (id + 20) port_run e
    → Ok (Is z past) ≡ integer_is (integer_at (length s) (drop e s) e 0) → to_z w64 (of_z w64 z) ≡ pos n → n ≤ 65535 → Reads s past (101 ∷ []) next → Ends s p n next
ending-is {s} {p} {id} {e} {n} z past next a r b f g small d =
    let i = reads-part s id 20 (omega (arith, r, a.inside)) in
    let t = integer-reads s e z past b.inside f in
    let k : z ≡ pos n = sym (to_z-of_z w64 z (range-fits z t.1)) ∙ g in
    let c : Reads s e (written_int (pos n)) past = subst (λ (u : ℤ). Reads s e (written_int u) past) k t.0 in
    let w : Reads s p (id_run ++ (take 20 (drop id s) ++ (port_run ++ (written_int (pos n) ++ 101 ∷ [])))) next = reads_then a (reads_then i.0 (reads_then b (reads_then c d))) in
    let v : Reads s p (id_and_port (take 20 (drop id s)) n) next = subst (λ (l : List ℕ). Reads s p l next) (sym (id-and-port (take 20 (drop id s)) n i.1)) w in
    record { small = small; room = omega (arith, a.place, r, a.inside); bytes = subst (λ (j : ℕ). Reads s p (id_and_port (take 20 (drop j s)) n) next) a.place v }

-- and before the ip
abbrev pub ip_run : List ℕ
ip_run = bytes "d2:ip"

three-encoded : (a i : List ℕ) (n : ℕ) → ip_run ++ (written_string a ++ id_and_port i n) ≡ encode (three a i n)
unfolding encode decimal_in
three-encoded a i n = refl

part-is : {f g l m : ℕ} → f ≡ g → l ≡ m → ◌≡◌ {A = Part} (record { from = f; len = l }) (record { from = g; len = m })
part-is x y = rw (x, y)

module _ {s : List ℕ} {p string n q : ℕ} (ip : Part) (short : length s ≤ 1048576) (x : Reads s p ip_run string) (y : Reads s string (written_string (bytes_at s ip)) (ip.from + ip.len)) (k : length (bytes_at s ip) ≡ ip.len) (z : Ends s (ip.from + ip.len) n q) where
  abbrev a : List ℕ
  a = bytes_at s ip

  abbrev id : Part
  id = record { from = ip.from + ip.len + 12; len = 20 }

  twenty : length (bytes_at s id) ≡ 20
  twenty = (reads-part s id.from 20 (omega (arith, z.room))).1

  whole : Reads s p (encode (three a (bytes_at s id) n)) q
  whole = subst (λ (w : List ℕ). Reads s p w q) (three-encoded a (bytes_at s id) n) (reads_then x (reads_then y z.bytes))

  ip-part : part_of (p + 1 + 4) a ≡ ip
  ip-part = part-is (omega (arith, x.place, y.place, k, length-append (decimal (length a)) (58 ∷ a))) k

  id-part : part_of (p + 1 + 4 + length (encode (str a)) + 9) (bytes_at s id) ≡ id
  unfolding encode decimal_in
  id-part = part-is (omega (arith, x.place, y.place, ap (λ (m : ℕ). length (decimal m)) twenty)) twenty

  pub usual-is : listed_at s p ≡ taken (record { entry = listed (record { id = id; ip = ip; port = n }); next = q })
  usual-is =
      peer-is s 1 p (omega arith) (three a (bytes_at s id) n) (three-stands s p q n a (bytes_at s id) short whole)
      ∙ ap (map (λ u. record { entry = listed u; next = p + length (encode (three a (bytes_at s id) n)) })) (three-peer p n a (bytes_at s id) z.small twenty)
      ∙ rw (id-part, ip-part, ← whole.place)
