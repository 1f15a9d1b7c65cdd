-- The usual form of a listed peer, byte by byte. Assumes nothing: these are definitions.
-- They serve inner contracts alone and need not be believed: the contract of `listed_at` speaks of Entries.antt.
use Rattle.std.specs.Prelude.{◌≡◌, List, ◌++◌, ℕ, ◌+◌, ◌≤◌, pos, length, take, drop}
use Rattle.refusal.specs.Limits.{largest_port}
use Rattle.bencode.specs.Value.{str, int, empty, entry, encode_entries}
use Rattle.tracker.specs.Keys.{peer_id, port}

-- the text s reads w from p to q
pub record Reads (s : List ℕ) (p : ℕ) (w : List ℕ) (q : ℕ) : Type 0 where
  pub text : drop p s ≡ w ++ drop q s
  pub place : q ≡ p + length w
  pub inside : q ≤ length s

-- the peer id i and the port n as the last of a dictionary's entries
abbrev pub id_and_port : List ℕ → ℕ → List ℕ
id_and_port i n = encode_entries (entry peer_id (str i) (entry port (int (pos n)) empty))

-- from p to q of s stand a peer id of 20 bytes, the port n and the e
pub record Ends (s : List ℕ) (p n q : ℕ) : Type 0 where
  pub small : n ≤ largest_port
  pub room : p + 32 ≤ length s
  pub bytes : Reads s p (id_and_port (take 20 (drop (p + 12) s)) n) q
