-- What a handshake is, and what reading one comes to. Assumes nothing: these are definitions.
use Rattle.refusal.specs.declared.Refusal.{Refusal}
use Rattle.std.specs.Prelude.{Bool, cond, List, ◌∷◌, ◌++◌, ℕ, ltb, eqb, length, take, drop, replicate, Err, Ok, Result}
use Rattle.std.specs.List.{list_all, zip}
use Rattle.refusal.specs.Numbers.{protocol, hash}
use Rattle.refusal.specs.Texts.{bytes}
use Rattle.refusal.specs.Paper.{Outcome, taken, refused, refusal}
use Rattle.refusal.specs.declared.Part.{Part}
use Rattle.peer_wire.specs.declared.Greeting.{Greeting}
use Rattle.peer_wire.specs.declared.Greeting.TheVariants.{Await, Hello}

-- 19 and the words that it counts
abbrev pub name : List ℕ
name = 19 ∷ bytes "BitTorrent protocol"

-- the name, 8 free bytes, 20 of info hash, 20 of peer id
abbrev pub handshake : List ℕ → List ℕ → List ℕ → List ℕ
handshake free info peer = name ++ (free ++ (info ++ peer))

-- what writers put in the free bytes
abbrev pub zeros : List ℕ
zeros = replicate 8 0

-- whether two runs of bytes are the same, as far as both go
abbrev pub agree : List ℕ → List ℕ → Bool
agree s t = list_all (λ p. eqb p.0 p.1) (zip s t)

-- more bytes are needed; or where the free bytes and the peer id lie, and how many bytes were used
pub data Shaken : Type 0 where
  wait : Shaken
  hello : Part → Part → ℕ → Shaken

-- reading a handshake for an info hash: the name as far as it is there, then the length, then the hash
unfoldable pub shake_of : List ℕ → List ℕ → Outcome Shaken
shake_of info s =
    cond (agree name s)
    (cond (ltb (length s) 68) (taken wait)
    (cond (agree (take 20 (drop 28 s)) info) (taken (hello (record { from = 20; len = 8 }) (record { from = 48; len = 20 }) 68))
    (refused hash 0)))
    (refused protocol 0)

-- the code's answer in these words
abbrev pub greeting_paper : Result Greeting Refusal → Outcome Shaken
greeting_paper (Ok Await) = taken wait
greeting_paper (Ok (Hello free peer used)) = taken (hello free peer used)
greeting_paper (Err r) = refusal r
