-- Demand 1 of `wardrail`, for C: texts, torrents, replies and digests. Assumes nothing.
use Rattle.std.specs.Prelude.{List, ℕ}
use Rattle.refusal.specs.Paper.{then, map}
use Rattle.bencode.specs.Answers.{check_of}
use Rattle.bencode_walk.specs.Walk.{look_of}
use Rattle.hash_sha1.specs.Digest.{digest_of}
use Rattle.hash_sha1.specs.Parts.{begun, add_of, finish_of}
use Rattle.tracker.specs.Entries.{listed_at, packed_at}
use Rattle.tracker.specs.Reply.{reply_of, nth_of, counted}
use Rattle.torrent_metainfo.specs.Hashes.{info_hash_of}
use Rattle.torrent_metainfo.specs.Reading.{read_of}
use Rattle.sheets.specs.Reading.{find_of}
use Rattle.links.specs.Reading.{left_of}
use Rattle.week.specs.Rules.{table_of, package_at, week_of, package_of}
use Rattle.wardrail.specs.Hashing.{state_of, Holds, Digested}
use Rattle.wardrail.specs.Looks.{look_detail}
use Rattle.wardrail.specs.Peers.{peer_detail}
use Rattle.wardrail.specs.Replies.{reply_detail, entry_detail}
use Rattle.wardrail.specs.Said.{Tells}
use Rattle.wardrail.specs.Addresses.{TellsOf}
use Rattle.wardrail.specs.Magnets.{ReadTo}
use Rattle.wardrail.specs.Torrents.{torrent_detail}
use Rattle.wardrail.specs.Weeks.{week_detail, package_detail}
use Rattle.demands.specs.One.{Lent, now}

-- ---- the calls

-- wardrail::wardrail_check
abbrev pub check-ensures : (text : Lent (List ℕ)) → ℕ → Lent ℕ → Type 0
check-ensures text r detail =
    Tells (check_of (now text.entry)) (now detail.entry) r (now detail.exit)

-- wardrail::looks::wardrail_look
abbrev pub look-ensures : (text : Lent (List ℕ)) (at : ℕ) → ℕ → Lent (List ℕ) → Type 0
look-ensures text at r detail =
    Tells (map look_detail (look_of (now text.entry) at)) (now detail.entry) r (now detail.exit)

-- wardrail::addresses::wardrail_address
abbrev pub address-ensures : (torrent sheet : Lent (List ℕ)) → ℕ → Lent (List ℕ) → Type 0
address-ensures torrent sheet r detail =
    TellsOf (find_of (now torrent.entry) (now sheet.entry)) (now detail.entry) r (now detail.exit)

-- wardrail::magnets::wardrail_link
abbrev pub link-ensures : (text : Lent (List ℕ)) → ℕ → Lent (List ℕ) → Lent (List ℕ) → Lent (List ℕ) → Lent (List ℕ) → Type 0
link-ensures text r hash name address detail =
    ReadTo (left_of (now text.entry) (now hash.entry) (now name.entry) (now address.entry)) (now detail.entry) r (now detail.exit) (now hash.exit) (now name.exit) (now address.exit)

-- wardrail::weeks::wardrail_week
abbrev pub week-ensures : (file : Lent (List ℕ)) → ℕ → Lent (List ℕ) → Type 0
week-ensures file r detail = Tells (map week_detail (week_of (now file.entry))) (now detail.entry) r (now detail.exit)

-- wardrail::weeks::wardrail_week_package
abbrev pub week-package-ensures : (file : Lent (List ℕ)) (number : ℕ) → ℕ → Lent (List ℕ) → Type 0
week-package-ensures file number r detail = Tells (map package_detail (package_of (now file.entry) number)) (now detail.entry) r (now detail.exit)

-- wardrail::weeks::wardrail_week_table
abbrev pub week-table-ensures : (file : Lent (List ℕ)) → ℕ → Lent ℕ → Type 0
week-table-ensures file r detail = Tells (table_of (now file.entry)) (now detail.entry) r (now detail.exit)

-- wardrail::weeks::wardrail_week_package_at
abbrev pub week-package-at-ensures : (file : Lent (List ℕ)) (number : ℕ) → ℕ → Lent (List ℕ) → Type 0
week-package-at-ensures file number r detail = Tells (map package_detail (package_at (now file.entry) number)) (now detail.entry) r (now detail.exit)

-- wardrail::wardrail_sha1
abbrev pub sha1-ensures : (message : Lent (List ℕ)) → ℕ → Lent (List ℕ) → Type 0
sha1-ensures message r digest =
    Digested (digest_of (now message.entry) (now digest.entry)) r (now digest.exit)

-- wardrail::hashing::wardrail_sha1_start
abbrev pub sha1-start-ensures : Unit {0} → Lent (List ℕ) → Lent (List ℕ) → Type 0
sha1-start-ensures r words tail =
    Holds begun (now words.exit) (now tail.exit)

-- it refuses nothing

-- wardrail::hashing::wardrail_sha1_add
abbrev pub sha1-add-ensures : (part : Lent (List ℕ)) → Unit {0} → Lent (List ℕ) → Lent (List ℕ) → Type 0
sha1-add-ensures part r words tail =
    Holds (add_of (state_of (now words.entry) (now tail.entry)) (now part.entry)) (now words.exit) (now tail.exit)

-- it refuses nothing

-- wardrail::hashing::wardrail_sha1_finish
abbrev pub sha1-finish-ensures : (words tail : Lent (List ℕ)) → ℕ → Lent (List ℕ) → Type 0
sha1-finish-ensures words tail r digest =
    Digested (finish_of (state_of (now words.entry) (now tail.entry)) (now digest.entry)) r (now digest.exit)

-- wardrail::peers::wardrail_peer
abbrev pub peer-ensures : (text : Lent (List ℕ)) (number : ℕ) → ℕ → Lent (List ℕ) → Type 0
peer-ensures text number r detail =
    Tells (map peer_detail (then (reply_of (now text.entry)) (nth_of number))) (now detail.entry) r (now detail.exit)

-- wardrail::replies::wardrail_reply
abbrev pub reply-ensures : (text : Lent (List ℕ)) → ℕ → Lent (List ℕ) → Type 0
reply-ensures text r detail =
    Tells (map reply_detail (map counted (reply_of (now text.entry)))) (now detail.entry) r (now detail.exit)

-- wardrail::replies::wardrail_listed_at
abbrev pub listed_at-ensures : (text : Lent (List ℕ)) (at : ℕ) → ℕ → Lent (List ℕ) → Type 0
listed_at-ensures text at r detail =
    Tells (map entry_detail (listed_at (now text.entry) at)) (now detail.entry) r (now detail.exit)

-- wardrail::replies::wardrail_packed_at
abbrev pub packed_at-ensures : (text : Lent (List ℕ)) (at : ℕ) → ℕ → Lent (List ℕ) → Type 0
packed_at-ensures text at r detail =
    Tells (map entry_detail (packed_at (now text.entry) at)) (now detail.entry) r (now detail.exit)

-- wardrail::torrents::wardrail_torrent
abbrev pub torrent-ensures : (text : Lent (List ℕ)) → ℕ → Lent (List ℕ) → Type 0
torrent-ensures text r detail =
    Tells (map torrent_detail (read_of (now text.entry))) (now detail.entry) r (now detail.exit)

-- wardrail::torrents::wardrail_info_hash
abbrev pub info_hash-ensures : (text : Lent (List ℕ)) → ℕ → Lent (List ℕ) → Type 0
info_hash-ensures text r digest =
    Digested (info_hash_of (now text.entry) (now digest.entry)) r (now digest.exit)
