-- The rounds in a window of sixteen words are the standard's on its schedule of 80. Assumes nothing.
use Rattle.std.proofs.Common.{◌≡◌, refl, sym, ap, subst, ◌∙◌, List, [], ◌∷◌, ℕ, zero, suc, ◌+◌, ◌*◌, ◌≤◌, ◌<◌, add-zero, add-one, arith, length, get_or, set, lt-ltb, le-ltb}
use Rattle.refusal.specs.BigEndian.{big_endian_of}
use Rattle.refusal.proofs.Places.{four-there}
use Rattle.hash_digest.specs.Words.{ch, parity, maj}
use Rattle.hash_digest.specs.Window.{Near, Schedule, in_window, moved}
use Rattle.hash_digest.proofs.Window.{scheduled, window-none, window-early, window-late}
use Rattle.hash_sha1.specs.Sha1.{schedule, rounds, step, f, k}
use Rattle.hash_sha1.specs.Rounds.{constants, rule, Made, turned, round_by, rounds_at, Run, run, opening, turn, turns}
use Rattle.hash_sha1.specs.declared.block.Hash.{Hash}
use Rattle.hash_sha1.specs.declared.block.Constants.{Constants}

-- ---- the words

near : Near rule
near = (omega arith, omega arith, omega arith, omega arith, omega arith, omega arith)

-- the standard's schedule is one by the rule
by-rule : (b : List ℕ) → Schedule rule b 80 (schedule b 80)
unfolding schedule
by-rule b = scheduled rule near b (schedule b) refl (λ t. refl) 80

pub begun : (b w : List ℕ) → length w ≡ 16 → Made b 0 w
begun b w l = window-none (schedule b 80) w l

-- a word of the block's own
pub made-early : (b w : List ℕ) (t v : ℕ) → t < 16 → length b ≡ 64
    → v ≡ big_endian_of (get_or b (4 * t) 0 ∷ get_or b (4 * t + 1) 0 ∷ get_or b (4 * t + 2) 0 ∷ get_or b (4 * t + 3) 0 ∷ []) → Made b t w → Made b (t + 1) (set w t v)
made-early b w t v h l e d = window-early (by-rule b) w t v h (omega arith) (rw (four-there (4 * t) b (omega arith)) e) d

-- some words are as many
pub filled-to : (b w : List ℕ) (t n : ℕ) → t ≡ n → Made b t w → Made b n w
filled-to b w t n e d = subst (λ (i : ℕ). Made b i w) e d

-- ---- the rounds

-- t rounds on the block b led from h to g
abbrev Done : Hash → List ℕ → ℕ → Hash → Type 0
Done h b t g = g ≡ rounds h (schedule b 80) t

-- t rounds are done, and as many words made
abbrev Reached : Hash → List ℕ → ℕ → Run → Type 0
Reached h b t x = Done h b t x.hash × Made b t x.words

-- the rounds from a to n have the function F and the constant K
record Kind (F : ℕ → ℕ → ℕ → ℕ) (K a n : ℕ) : Type 0 where
  round : (t : ℕ) → a ≤ t → t < n → (g : Hash) (v : ℕ) → round_by F K g v ≡ step g (f t g.b g.c g.d) (k t) v

first : Kind ch constants.first 0 20
unfolding turned
first = record { round = λ t p q g v. rw (lt-ltb t 20 q) }

second : Kind parity constants.second 20 40
unfolding turned
second = record { round = λ t p q g v. rw (le-ltb t 20 p, lt-ltb t 40 q) }

third : Kind maj constants.third 40 60
unfolding turned
third = record { round = λ t p q g v. rw (le-ltb t 20 (omega arith), le-ltb t 40 p, lt-ltb t 60 q) }

last : Kind parity constants.last 60 80
unfolding turned
last = record { round = λ t p q g v. rw (le-ltb t 20 (omega arith), le-ltb t 40 (omega arith), le-ltb t 60 p) }

module _ {F : ℕ → ℕ → ℕ → ℕ} {K a n : ℕ} (κ : Kind F K a n) (h : Hash) (b : List ℕ) where
  one-done : (w : List ℕ) (m t : ℕ) {g : Hash} → a ≤ t → t < n → t < m → m ≤ t + 16 → Made b m w → Done h b t g → Done h b (t + 1) (round_by F K g (in_window w t))
  unfolding rounds
  one-done w m t {g} p q i j d x =
      let y = κ.round t p q g (in_window w t) in
      let z = d.1 t i j in
      rw add-one (cc)

  some-done : (w : List ℕ) (m t c : ℕ) (g : Hash) → a ≤ t → t + c ≤ n → t + c ≤ m → m ≤ t + 16 → Made b m w → Done h b t g → Done h b (t + c) (rounds_at F K t c g w)
  unfolding rounds_at
  some-done w m t zero g p q i j d x = rw add-zero x
  some-done w m t (suc c) g p q i j d x =
      let e : t + c + 1 ≡ t + suc c = omega arith in
      subst (λ (u : ℕ). Done h b u (rounds_at F K t (suc c) g w)) e
      (one-done w m (t + c) (omega arith) (omega arith) (omega arith) (omega arith) d (some-done w m t c g p (omega arith) (omega arith) j d x))

  -- four words, and four rounds on them
  turn-done : (x : Run) (t : ℕ) → a ≤ t → t + 4 ≤ n → 16 ≤ t → t + 4 ≤ 80 → Reached h b t x → Reached h b (t + 4) (turn F K t x)
  unfolding turn
  turn-done x t p q i j y =
      let d : Made b (t + 4) (moved rule t 4 x.words) = window-late near (by-rule b) x.words t 4 i j y.1 in
      (some-done (moved rule t 4 x.words) (t + 4) t 4 x.hash p q (omega arith) (omega arith) d y.0, d)

  turns-done : (x : Run) (t c : ℕ) → a ≤ t → t + 4 * c ≤ n → 16 ≤ t → t + 4 * c ≤ 80 → Reached h b t x → Reached h b (t + 4 * c) (turns F K t c x)
  unfolding turns
  turns-done x t zero p q i j y = rw add-zero y
  turns-done x t (suc c) p q i j y =
      let e : t + 4 * c + 4 ≡ t + 4 * suc c = omega arith in
      subst (λ (u : ℕ). Reached h b u (turns F K t (suc c) x)) e
      (turn-done (turns F K t c x) (t + 4 * c) (omega arith) (omega arith) (omega arith) (omega arith) (turns-done x t c p (omega arith) i (omega arith) y))

-- the first twenty
opened : (h : Hash) (b w : List ℕ) → Made b 16 w → Reached h b 20 (opening constants.first (run h w))
unfolding opening rounds
opened h b w d =
    let x = some-done first h b w 16 0 16 h (omega arith) (omega arith) (omega arith) (omega arith) d refl in
    turn-done first h b (run _ w) 16 (omega arith) (omega arith) (omega arith) (omega arith) (x, d)

-- all of them, by what the steps of the code ensure
module _ (h : Hash) (b w : List ℕ) (c : Constants) {v₁ v₂ v₃ v₄ : List ℕ} {g₁ g₂ g₃ r : Hash} where
  pub all_done : c ≡ constants → Made b 16 w → run g₁ v₁ ≡ opening c.first (run h w) → run g₂ v₂ ≡ turns parity c.second 20 5 (run g₁ v₁)
      → run g₃ v₃ ≡ turns maj c.third 40 5 (run g₂ v₂) → run r v₄ ≡ turns parity c.last 60 5 (run g₃ v₃) → r ≡ rounds h (schedule b 80) 80
  all_done e d e₁ e₂ e₃ e₄ =
      let y₁ : Reached h b 20 (run g₁ v₁) = subst (Reached h b 20) (sym (e₁ ∙ ap (λ (x : Constants). opening x.first (run h w)) e)) (opened h b w d) in
      let y₂ : Reached h b 40 (run g₂ v₂) =
      subst (Reached h b 40) (sym (e₂ ∙ ap (λ (x : Constants). turns parity x.second 20 5 (run g₁ v₁)) e))
      (turns-done second h b (run g₁ v₁) 20 5 (omega arith) (omega arith) (omega arith) (omega arith) y₁) in
      let y₃ : Reached h b 60 (run g₃ v₃) =
      subst (Reached h b 60) (sym (e₃ ∙ ap (λ (x : Constants). turns maj x.third 40 5 (run g₂ v₂)) e))
      (turns-done third h b (run g₂ v₂) 40 5 (omega arith) (omega arith) (omega arith) (omega arith) y₂) in
      let y₄ : Reached h b 80 (run r v₄) =
      subst (Reached h b 80) (sym (e₄ ∙ ap (λ (x : Constants). turns parity x.last 60 5 (run g₃ v₃)) e))
      (turns-done last h b (run g₃ v₃) 60 5 (omega arith) (omega arith) (omega arith) (omega arith) y₃) in
      y₄.0

-- ---- the steps of the code, joined

-- four words and four rounds, five times
pub turns-joined : (F : ℕ → ℕ → ℕ → ℕ) (K t : ℕ) (x : Run) {x₁ x₂ x₃ x₄ x₅ : Run} → x₁ ≡ turn F K t x → x₂ ≡ turn F K (t + 4) x₁ → x₃ ≡ turn F K (t + 8) x₂ → x₄ ≡ turn F K (t + 12) x₃
    → x₅ ≡ turn F K (t + 16) x₄ → x₅ ≡ turns F K t 5 x
unfolding turns
turns-joined F K t x e₁ e₂ e₃ e₄ e₅ = rw add-zero (cc)
