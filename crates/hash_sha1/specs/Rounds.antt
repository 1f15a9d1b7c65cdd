-- What holds between the parts of the block function. Assumes nothing: these are definitions.
-- They serve inner contracts alone and need not be believed: the contract of `compressed` speaks of Sha1.antt.
use Rattle.std.specs.Prelude.{List, ℕ, zero, suc, ◌+◌, ◌*◌}
use Rattle.std.specs.Int.Bits.{bit_xor}
use Rattle.hash_digest.specs.Words.{rotl, ch}
use Rattle.hash_digest.specs.Window.{Rule, Window, in_window, moved}
use Rattle.hash_sha1.specs.Sha1.{k, schedule, step}
use Rattle.hash_sha1.specs.declared.block.Hash.{Hash}
use Rattle.hash_sha1.specs.declared.block.Constants.{Constants}

-- the standard's constants, one for each twenty rounds
abbrev pub constants : Constants
constants = record { first = k 0; second = k 20; third = k 40; last = k 60 }

-- ---- the words

-- how a word of the schedule is made from those before it
abbrev pub rule : Rule
rule = record { mix = λ x y z v. rotl 1 (bit_xor (bit_xor (bit_xor x y) z) v); first = 3; second = 8; third = 14 }

-- the last sixteen of the first n words of the schedule of the block b stand in the window
abbrev pub Made : List ℕ → ℕ → List ℕ → Type 0
Made b n w = Window (schedule b 80) n w

-- ---- the rounds of one kind, which has a function F and a constant k

-- a round
unfoldable pub turned : ℕ → ℕ → Hash → ℕ → Hash
turned f k g w = step g f k w

abbrev pub round_by : (ℕ → ℕ → ℕ → ℕ) → ℕ → Hash → ℕ → Hash
round_by F k g w = turned (F g.b g.c g.d) k g w

-- n rounds from t on, on words that stand in the window
unfoldable pub rounds_at : (ℕ → ℕ → ℕ → ℕ) → ℕ → ℕ → ℕ → Hash → List ℕ → Hash
rounds_at F k t zero g w = g
rounds_at F k t (suc n) g w = round_by F k (rounds_at F k t n g w) (in_window w (t + n))

-- a hash value and a window
pub record Run : Type 0 where
  pub hash : Hash
  pub words : List ℕ

abbrev pub run : Hash → List ℕ → Run
run g w = record { hash = g; words = w }

-- four words from t on, and four rounds on them
unfoldable pub turn : (ℕ → ℕ → ℕ → ℕ) → ℕ → ℕ → Run → Run
turn F k t x = let v = moved rule t 4 x.words in run (rounds_at F k t 4 x.hash v) v

-- n times
unfoldable pub turns : (ℕ → ℕ → ℕ → ℕ) → ℕ → ℕ → ℕ → Run → Run
turns F k t zero x = x
turns F k t (suc n) x = turn F k (t + 4 * n) (turns F k t n x)

-- the first twenty rounds: sixteen on the block's own words, and four
unfoldable pub opening : ℕ → Run → Run
opening k x = turn ch k 16 (run (rounds_at ch k 0 16 x.hash x.words) x.words)
