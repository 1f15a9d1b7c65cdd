-- Texts that are torrents or replies, said of the bytes and the value. Assumes nothing.
use mathlib.Core.Path.{◌≡◌, sym, ap, ◌∙◌, subst}
use mathlib.Core.Logic.{◌↔◌}
use mathlib.Core.List.{List}
use Prim.Native.Nat.{ℕ}
use Rattle.refusal.specs.Paper.{Outcome, taken, map, then}
use Rattle.bencode.specs.Value.{Value, Entries, dict, count}
use Rattle.bencode.specs.Decode.{decode}
use Rattle.bencode.specs.Exact.{Fine}
use Rattle.bencode.specs.Answers.{check_of}
use Rattle.bencode.proofs.Exact.{exactly, fine-taken}
use Rattle.bencode_fields.specs.Values.{dictionary_at}
use Rattle.torrent_metainfo.specs.Reading.{read_of as torrent_read}
use Rattle.torrent_metainfo.specs.Rules.{torrent_of}
use Rattle.torrent_metainfo.specs.declared.Torrent.{Torrent}
use Rattle.torrent_laws.specs.Torrent.{TorrentSays, IsTorrent}
use Rattle.torrent_laws.specs.Exact.{ShowsTorrent}
use Rattle.torrent_laws.proofs.Laws as torrents
use Rattle.tracker.specs.Entries.{PeerEntry}
use Rattle.tracker.specs.Reply.{Answer, counted, reply_in, reply_of, nth_of}
use Rattle.tracker.specs.Exact.{IsReply, ReplySays, ShowsReply}
use Rattle.tracker.proofs.Exact.{reply-only, reply-every}
use Rattle.refusal.proofs.Outcomes.{map-taken}
use Rattle.demands_laws.specs.Texts.{Encodes}

-- as the crates below say it
pub fine : {s : List ℕ} {v : Value} → Encodes s v → Fine s v
fine e = record { text = e.0; keeps = e.1; few = e.2; short = e.3 }

pub encodes : {s : List ℕ} {v : Value} → Fine s v → Encodes s v
encodes f = (f.text, f.keeps, f.few, f.short)

pub count-exact : (s : List ℕ) (n : ℕ) → check_of s ≡ taken n ↔ ((v : Value) × Encodes s v × (count v ≡ n))
count-exact s n = (λ e. let x = (exactly s).only n e in (x.0, encodes x.1, x.2), λ (v, e, c). (exactly s).every v (fine e) ∙ ap taken c)

pub one_value : (s : List ℕ) (v w : Value) → Encodes s v → Encodes s w → v ≡ w
one_value s v w e f =
    let a : decode s ≡ taken v = fine-taken s v (fine e) in
    let b : decode s ≡ taken w = fine-taken s w (fine f) in
    cc

-- ---- torrents

pub torrent-exact : (s : List ℕ) → ((x : Torrent) × (torrent_read s ≡ taken x)) ↔ ((v : Value) × (t : TorrentSays) × Encodes s v × IsTorrent v t)
torrent-exact s = (
  λ (x, e). let h = (torrents.torrent-exact s).only x e in (h.0, h.1, encodes h.2, h.3),
  λ (v, t, e, i). let x = (torrents.torrent-exact s).every v t (fine e) i in (x.0, x.1),
)

pub torrent-shown : (s : List ℕ) (x : Torrent) → torrent_read s ≡ taken x → (v : Value) (t : TorrentSays) → Encodes s v → IsTorrent v t → ShowsTorrent s x t
torrent-shown s x e v t n i =
    let h = (torrents.torrent-exact s).every v t (fine n) i in
    let q : taken h.0 ≡ taken x = sym h.1 ∙ e in
    let z : h.0 ≡ x = cc in
    subst (λ (y : Torrent). ShowsTorrent s y t) z h.2

-- what is read of a text is what its value is as a torrent
pub as-torrent : (s : List ℕ) (v : Value) → Encodes s v → torrent_read s ≡ torrent_of v
as-torrent s v e = ap (λ (o : Outcome Value). then o torrent_of) (fine-taken s v (fine e))

-- ---- replies

pub reply-exact : (s : List ℕ) → ((x : Answer ℕ) × (map counted (reply_of s) ≡ taken x)) ↔ ((v : Value) × (t : ReplySays) × Encodes s v × IsReply v t)
reply-exact s = (
  λ (x, e). let y = map-taken counted (reply_of s) x e in let h = reply-only s y.0 y.1 in (h.0, h.1, encodes h.2, h.3),
  λ (v, t, e, i). let y = reply-every s v t (fine e) i in (counted y.0, ap (map counted) y.1),
)

pub reply-shown : (s : List ℕ) (y : Answer (List PeerEntry)) → reply_of s ≡ taken y → (v : Value) (t : ReplySays) → Encodes s v → IsReply v t → ShowsReply s y t
reply-shown s y d v t e i =
    let h = reply-every s v t (fine e) i in
    let q : taken h.0 ≡ taken y = sym h.1 ∙ d in
    let z : h.0 ≡ y = cc in
    subst (λ (a : Answer (List PeerEntry)). ShowsReply s a t) z h.2

pub as-reply : (s : List ℕ) (es : Entries) → Encodes s (dict es) → reply_of s ≡ reply_in es
unfolding reply_of
as-reply s es e = ap (λ (o : Outcome Value). then o (λ v. then (dictionary_at 0 v) reply_in)) (fine-taken s (dict es) (fine e))

-- the reply that is counted, and an entry of it by its number
module _ (s : List ℕ) {r : Outcome (Answer ℕ)} (c : r ≡ map counted (reply_of s)) (x : Answer ℕ) (p : r ≡ taken x) where
  pub replied : (y : Answer (List PeerEntry)) × (reply_of s ≡ taken y) × (x ≡ counted y)
  replied = let y = map-taken counted (reply_of s) x (sym c ∙ p) in (y.0, y.1, sym y.2)

pub entry-of : (s : List ℕ) (y : Answer (List PeerEntry)) → reply_of s ≡ taken y → (n : ℕ) → then (reply_of s) (nth_of n) ≡ nth_of n y
entry-of s y d n = ap (λ (o : Outcome (Answer (List PeerEntry))). then o (nth_of n)) d
