-- Demand 1 of `bencode_fields`: typed looks. Assumes nothing.
use Rattle.refusal.specs.declared.Refusal.{Refusal}
use Rattle.std.specs.Prelude.{List, ℕ, Result}
use Rattle.bencode_walk.specs.declared.Sought.{Sought}
use Rattle.bencode_fields.proofs.Determined as laws
use Rattle.refusal.proofs.Outcomes.{paper-determined}
use Rattle.demands.specs.One.{Lent, Determined}
use Rattle.demands.specs.One.Inner.Fields.{string_at-ensures, natural_at-ensures, number_at-ensures, list_at-ensures, dictionary_at-ensures, string_under-ensures, natural_under-ensures, list_under-ensures, dictionary_under-ensures, seek_after-ensures}

-- bencode_fields::string_at
pub string_at-determined : (text : Lent (List ℕ)) (at : ℕ) → Determined (string_at-ensures text at)
string_at-determined text at r r' e f = paper-determined _ r r' e f

-- bencode_fields::natural_at
pub natural_at-determined : (text : Lent (List ℕ)) (at most : ℕ) → Determined (natural_at-ensures text at most)
natural_at-determined text at most r r' e f = paper-determined _ r r' e f

-- bencode_fields::number_at
pub number_at-determined : (text : Lent (List ℕ)) (at most : ℕ) → Determined (number_at-ensures text at most)
number_at-determined text at most r r' e f = paper-determined _ r r' e f

-- bencode_fields::list_at
pub list_at-determined : (text : Lent (List ℕ)) (at : ℕ) → Determined (list_at-ensures text at)
list_at-determined text at r r' e f = paper-determined _ r r' e f

-- bencode_fields::dictionary_at
pub dictionary_at-determined : (text : Lent (List ℕ)) (at : ℕ) → Determined (dictionary_at-ensures text at)
dictionary_at-determined text at r r' e f = paper-determined _ r r' e f

-- bencode_fields::string_under
pub string_under-determined : (text : Lent (List ℕ)) (dictionary : ℕ) (sought : Result Sought Refusal) → Determined (string_under-ensures text dictionary sought)
string_under-determined text dictionary sought r r' e f = paper-determined _ r r' e f

-- bencode_fields::natural_under
pub natural_under-determined : (text : Lent (List ℕ)) (dictionary : ℕ) (sought : Result Sought Refusal) (most : ℕ) → Determined (natural_under-ensures text dictionary sought most)
natural_under-determined text dictionary sought most r r' e f = paper-determined _ r r' e f

-- bencode_fields::list_under
pub list_under-determined : (text : Lent (List ℕ)) (dictionary : ℕ) (sought : Result Sought Refusal) → Determined (list_under-ensures text dictionary sought)
list_under-determined text dictionary sought r r' e f = paper-determined _ r r' e f

-- bencode_fields::dictionary_under
pub dictionary_under-determined : (text : Lent (List ℕ)) (dictionary : ℕ) (sought : Result Sought Refusal) → Determined (dictionary_under-ensures text dictionary sought)
dictionary_under-determined text dictionary sought r r' e f = paper-determined _ r r' e f

-- bencode_fields::seek_after
pub seek_after-determined : (text : Lent (List ℕ)) (sought : Result Sought Refusal) (key : Lent (List ℕ)) → Determined (seek_after-ensures text sought key)
seek_after-determined text sought key r r' e f = laws.sought-determined _ r r' e f
