-- Demand 1 of `bencode_fields`: typed looks. Assumes nothing.
use Rattle.refusal.specs.Paper.{paper}
use Rattle.refusal.specs.declared.Part.{Part}
use Rattle.refusal.specs.declared.Refusal.{Refusal}
use Rattle.std.specs.Prelude.{List, ◌≡◌, ℕ, Result}
use Rattle.bencode.specs.Decode.{unless_long}
use Rattle.bencode_walk.specs.Walk.{seek_paper}
use Rattle.bencode_walk.specs.declared.Sought.{Sought}
use Rattle.bencode_fields.specs.Looks.{string_of, natural_of, number_of, list_of, dictionary_of, needed, sought_after}
use Rattle.demands.specs.One.{Lent, now}

-- bencode_fields::string_at
abbrev pub string_at-ensures : (text : Lent (List ℕ)) (at : ℕ) → Result Part Refusal → Type 0
string_at-ensures text at r = paper r ≡ string_of (now text.entry) at

-- bencode_fields::natural_at
abbrev pub natural_at-ensures : (text : Lent (List ℕ)) (at most : ℕ) → Result ℕ Refusal → Type 0
natural_at-ensures text at most r = paper r ≡ natural_of most (now text.entry) at

-- bencode_fields::number_at
abbrev pub number_at-ensures : (text : Lent (List ℕ)) (at most : ℕ) → Result (ℕ × ℕ) Refusal → Type 0
number_at-ensures text at most r = paper r ≡ number_of most (now text.entry) at

-- bencode_fields::list_at
abbrev pub list_at-ensures : (text : Lent (List ℕ)) (at : ℕ) → Result ℕ Refusal → Type 0
list_at-ensures text at r = paper r ≡ list_of (now text.entry) at

-- bencode_fields::dictionary_at
abbrev pub dictionary_at-ensures : (text : Lent (List ℕ)) (at : ℕ) → Result ℕ Refusal → Type 0
dictionary_at-ensures text at r = paper r ≡ dictionary_of (now text.entry) at

-- bencode_fields::string_under
abbrev pub string_under-ensures : (text : Lent (List ℕ)) (dictionary : ℕ) (sought : Result Sought Refusal) → Result Part Refusal → Type 0
string_under-ensures text dictionary sought r = paper r ≡ unless_long (now text.entry) (needed dictionary (seek_paper sought) (string_of (now text.entry)))

-- bencode_fields::natural_under
abbrev pub natural_under-ensures : (text : Lent (List ℕ)) (dictionary : ℕ) (sought : Result Sought Refusal) (most : ℕ) → Result ℕ Refusal → Type 0
natural_under-ensures text dictionary sought most r = paper r ≡ unless_long (now text.entry) (needed dictionary (seek_paper sought) (natural_of most (now text.entry)))

-- bencode_fields::list_under
abbrev pub list_under-ensures : (text : Lent (List ℕ)) (dictionary : ℕ) (sought : Result Sought Refusal) → Result ℕ Refusal → Type 0
list_under-ensures text dictionary sought r = paper r ≡ unless_long (now text.entry) (needed dictionary (seek_paper sought) (list_of (now text.entry)))

-- bencode_fields::dictionary_under
abbrev pub dictionary_under-ensures : (text : Lent (List ℕ)) (dictionary : ℕ) (sought : Result Sought Refusal) → Result ℕ Refusal → Type 0
dictionary_under-ensures text dictionary sought r = paper r ≡ unless_long (now text.entry) (needed dictionary (seek_paper sought) (dictionary_of (now text.entry)))

-- bencode_fields::seek_after
abbrev pub seek_after-ensures : (text : Lent (List ℕ)) (sought : Result Sought Refusal) (key : Lent (List ℕ)) → Result Sought Refusal → Type 0
seek_after-ensures text sought key r = seek_paper r ≡ unless_long (now text.entry) (sought_after (now text.entry) (seek_paper sought) (now key.entry))
