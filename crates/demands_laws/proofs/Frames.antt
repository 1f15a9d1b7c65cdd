-- Frames and handshakes: when each of 20 to 23 and 37 is given, and when a frame is read. Assumes nothing.
use Rattle.std.specs.Prelude.{Result}
use Rattle.refusal.specs.declared.Refusal.{Refusal}
use mathlib.Core.Path.{◌≡◌, refl, sym, ap, subst, ◌∙◌}
use mathlib.Core.Logic.Iff
use mathlib.Core.Logic.{inl, inr, ◌↔◌}
use mathlib.Core.List.{List, ◌∷◌, ◌++◌}
use Prim.Native.Nat.{ℕ, ◌+◌, ◌≤◌, ◌<◌}
use native.Mathlib.Omega.{arith}
use lib.ListN.{length, get_or, take, drop, take-append-drop}
use Rattle.refusal.specs.Paper.{paper, taken, refused}
use Rattle.refusal.specs.Limits.{longest_frame}
use Rattle.refusal.specs.declared.Part.{Part}
use Rattle.peer_wire.specs.Handshake.{shake_of}
use Rattle.peer_wire.proofs.Written.{write-exactly, write-taken, put-at-start}
use Rattle.peer_wire.proofs.Bodies.{written}
use Rattle.bencode_writer.specs.Put.{left}
use Rattle.peer_wire.specs.Causes.{TooLong, All, Right, Named, Misnamed, info_in, ShakeCause, WriteCause, Cause}
use Rattle.peer_wire.proofs.Decided.{exactly}
use Rattle.peer_wire.proofs.Shaking.{shake-exactly}
use lib.Seq.{length-take-le}
use Rattle.refusal.specs.BigEndian.{Bytes}
use Rattle.peer_wire.specs.Message.{Message, FieldsFit, body, framed, encode as frame_of}
use Rattle.peer_wire.specs.Frames.{found, meant, Lengths, read_of, Allowed, write_of}
use Rattle.peer_wire.proofs.Exact as frames

-- ---- 20 and 21 of a frame, 22 and 23 of a handshake, at any place

module _ (s : List ℕ) (p : ℕ) where
  pub frame-20 : read_of s ≡ refused 20 p ↔ (TooLong s × (p ≡ 0))
  frame-20 = Iff.trans (exactly s (refused 20 p)) (go, λ h. (inl (refl, h.0), h.1))
    where
      go : Cause s (refused 20 p) → TooLong s × (p ≡ 0)
      go (inl (e, h), z) = (h, z)
      go (inr h, z) = let e = h.0 in absurd (omega arith)

  pub frame-21 : read_of s ≡ refused 21 p ↔ (All s × (Right s → ⊥) × (p ≡ 0))
  frame-21 = Iff.trans (exactly s (refused 21 p)) (go, λ h. (inr (refl, h.0, h.1), h.2))
    where
      go : Cause s (refused 21 p) → All s × (Right s → ⊥) × (p ≡ 0)
      go (inl (e, h), z) = absurd (omega arith)
      go (inr (e, a, h), z) = (a, h, z)

module _ (info s : List ℕ) (p : ℕ) (l : length info ≡ 20) where
  pub handshake-22 : shake_of info s ≡ refused 22 p ↔ (Misnamed s × (p ≡ 0))
  handshake-22 = Iff.trans (shake-exactly info s l (refused 22 p)) (go, λ h. (inl (refl, h.0), h.1))
    where
      go : ShakeCause info s (refused 22 p) → Misnamed s × (p ≡ 0)
      go (inl (e, h), z) = (h, z)
      go (inr h, z) = let e = h.0 in absurd (omega arith)

  pub handshake-23 : shake_of info s ≡ refused 23 p ↔ (Named s × (68 ≤ length s) × (info_in s ≡ info → ⊥) × (p ≡ 0))
  handshake-23 = Iff.trans (shake-exactly info s l (refused 23 p)) (go, λ h. (inr (refl, h.0, h.1, h.2), h.3))
    where
      go : ShakeCause info s (refused 23 p) → Named s × (68 ≤ length s) × (info_in s ≡ info → ⊥) × (p ≡ 0)
      go (inl (e, h), z) = absurd (omega arith)
      go (inr (e, a, b, c), z) = (a, b, c, z)

-- ---- 20, 21 and 37 of the frame writers, one by one

module _ (rest o : List ℕ) (p : ℕ) where
  pub write-20 : (write_of rest o).answer ≡ refused 20 p ↔ ((longest_frame < length rest) × (p ≡ 0))
  write-20 = Iff.trans (write-exactly rest o (refused 20 p)) (go, λ h. (inl (refl, h.0), h.1))
    where
      go : WriteCause rest o (refused 20 p) → (longest_frame < length rest) × (p ≡ 0)
      go (inl (e, h), z) = (h, z)
      go (inr (inl (e, h, a)), z) = absurd (omega arith)
      go (inr (inr (e, a, h)), z) = absurd (omega arith)

  pub write-21 : (write_of rest o).answer ≡ refused 21 p ↔ ((length rest ≤ longest_frame) × (Allowed (get_or rest 0 0) (length rest) → ⊥) × (p ≡ 0))
  write-21 = Iff.trans (write-exactly rest o (refused 21 p)) (go, λ h. (inr (inl (refl, h.0, h.1)), h.2))
    where
      go : WriteCause rest o (refused 21 p) → (length rest ≤ longest_frame) × (Allowed (get_or rest 0 0) (length rest) → ⊥) × (p ≡ 0)
      go (inl (e, h), z) = absurd (omega arith)
      go (inr (inl (e, h, a)), z) = (h, a, z)
      go (inr (inr (e, a, h)), z) = absurd (omega arith)

  pub write-37 : (write_of rest o).answer ≡ refused 37 p ↔ (Allowed (get_or rest 0 0) (length rest) × (length o < 4 + length rest) × (p ≡ 0))
  write-37 = Iff.trans (write-exactly rest o (refused 37 p)) (go, λ h. (inr (inr (refl, h.0, h.1)), h.2))
    where
      go : WriteCause rest o (refused 37 p) → Allowed (get_or rest 0 0) (length rest) × (length o < 4 + length rest) × (p ≡ 0)
      go (inl (e, h), z) = absurd (omega arith)
      go (inr (inl (e, h, a)), z) = absurd (omega arith)
      go (inr (inr (e, a, h)), z) = (a, h, z)

-- ---- a frame is read exactly where a message that may be sent was written

module _ (s : List ℕ) (bytes : Bytes s) (m : Message (List ℕ)) (q : ℕ) where
  within : (at : Message Part) → Cause s (taken (found at q)) → q ≤ length s
  within at (inl (z, k, u)) = omega (arith, z.0, u)
  within at (inr (a, r, k, u)) = omega (arith, a.2, u)

  pub frame-exact : ((at : Message Part) × (read_of s ≡ taken (found at q)) × (meant s at ≡ m))
      ↔ ((s ≡ frame_of m ++ drop q s) × (q ≡ length (frame_of m)) × FieldsFit m × Lengths (body m))
  frame-exact = (
    λ (at, e, d).
        let t = frames.taken-was-written s bytes at q e in
        let u : frame_of m ≡ take q s = ap frame_of (sym d) ∙ t.0 in
        let k = subst (λ (n : Message (List ℕ)). FieldsFit n × Lengths (body n)) d t.1 in
        let l = within at ((exactly s (taken (found at q))).0 e) in
        (sym (ap (λ (l : List ℕ). l ++ drop q s) u ∙ take-append-drop q s), sym (ap length u ∙ length-take-le q s l), k.0, k.1),
    λ (e, l, f, k).
        let r = frames.reads-back m (f, k) (drop q s) in
        (r.at, ap read_of e ∙ r.answer ∙ ap (λ (n : ℕ). taken (found r.at n)) (sym l), ap (λ (t : List ℕ). meant t r.at) e ∙ r.means),
  )

-- ---- a frame of any id that was written reads back

pub raw-reads-back : (id : ℕ) (p o : List ℕ) → id < 256 → Bytes p → (r : Result ℕ Refusal) {out : List ℕ} {q : ℕ} → left (paper r) out ≡ write_of (id ∷ p) o → paper r ≡ taken q
    → (out ≡ framed (id ∷ p) ++ drop q o) × ((at : Message Part) × (read_of out ≡ taken (found at q)) × (body (meant out at) ≡ id ∷ p))
raw-reads-back id p o small bytes r {out} {q} e t =
    let w = write-taken (id ∷ p) o r e t in
    let s = put-at-start (framed (id ∷ p)) o r w.1 t in
    let b = frames.framed-reads id p (drop q o) w.0 in (
      s.1,
      (
        b.at,
        ap read_of s.1 ∙ b.answer ∙ ap (λ (n : ℕ). taken (found b.at n)) (sym s.0),
        ap (λ (l : List ℕ). body (meant l b.at)) s.1 ∙ ap body b.means ∙ (written p bytes id small w.0).0,
      ),
    )
