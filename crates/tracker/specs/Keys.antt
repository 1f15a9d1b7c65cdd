-- The keys of a reply. Assumes nothing: these are definitions.
use Rattle.std.specs.Prelude.{List, ℕ}
use Rattle.refusal.specs.Texts.{bytes}

abbrev pub failure_reason : List ℕ
failure_reason = bytes "failure reason"

abbrev pub interval : List ℕ
interval = bytes "interval"

abbrev pub peers : List ℕ
peers = bytes "peers"

abbrev pub ip : List ℕ
ip = bytes "ip"

abbrev pub peer_id : List ℕ
peer_id = bytes "peer id"

abbrev pub port : List ℕ
port = bytes "port"
