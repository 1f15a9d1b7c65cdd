-- Two answers that a contract of the walk permits for one text and place are the same. Assumes nothing.
use Rattle.std.specs.Prelude.{Err, Ok, Result}
use Rattle.refusal.specs.declared.Refusal.{Refusal}
use mathlib.Core.Path.{◌≡◌, refl, sym, ap, ◌∙◌}
use mathlib.Core.List.{List}
use Prim.Native.Nat.{ℕ, ◌+◌, min}
use lib.ListN.{length, take, drop}
use Rattle.refusal.specs.Paper.{paper, Outcome, taken, refused}
use Rattle.bencode_walk.specs.Walk.{Head, string, integer, long, list, dictionary, end, seen_paper, look_of, NextEntry, key, close, entry_paper, entry_of, skip_of, Hit, found, missing, seek_paper, seek_of}
use Rattle.bencode_walk.specs.declared.Seen.{Seen}
use Rattle.bencode_walk.specs.declared.Seen.TheVariants.{String, Integer, Long, List as ListSeen, Dictionary, End}
use Rattle.bencode_walk.specs.declared.Next.{Next}
use Rattle.bencode_walk.specs.declared.Next.TheVariants.{Key, Close}
use Rattle.bencode_walk.specs.declared.Sought.{Sought}
use Rattle.bencode_walk.specs.declared.Sought.TheVariants.{Found, Missing}

-- the answer that the paper's words say
abbrev seen_as : Outcome Head → Result Seen Refusal
seen_as (taken (string a m q)) = (Ok (String (record { from = a; len = m }) q))
seen_as (taken (integer z q)) = (Ok (Integer z q))
seen_as (taken (long a m q)) = (Ok (Long (record { from = a; len = m }) q))
seen_as (taken (list q)) = (Ok (ListSeen q))
seen_as (taken (dictionary q)) = (Ok (Dictionary q))
seen_as (taken (end q)) = (Ok (End q))
seen_as (refused n p) = Err (record { number = n; place = p })

seen-again : (r : Result Seen Refusal) → seen_as (seen_paper r) ≡ r
seen-again (Ok (String p q)) = refl
seen-again (Ok (Integer z q)) = refl
seen-again (Ok (Long p q)) = refl
seen-again (Ok (ListSeen q)) = refl
seen-again (Ok (Dictionary q)) = refl
seen-again (Ok (End q)) = refl
seen-again (Err r) = refl

abbrev next_as : Outcome NextEntry → Result Next Refusal
next_as (taken (key a m q)) = (Ok (Key (record { from = a; len = m }) q))
next_as (taken (close q)) = (Ok (Close q))
next_as (refused n p) = Err (record { number = n; place = p })

next-again : (r : Result Next Refusal) → next_as (entry_paper r) ≡ r
next-again (Ok (Key p q)) = refl
next-again (Ok (Close q)) = refl
next-again (Err r) = refl

abbrev past_as : Outcome ℕ → Result ℕ Refusal
past_as (taken q) = Ok q
past_as (refused n p) = Err (record { number = n; place = p })

past-again : (r : Result ℕ Refusal) → past_as (paper r) ≡ r
past-again (Ok q) = refl
past-again (Err r) = refl

module _ (s : List ℕ) (p : ℕ) where
  pub look-determined : (r t : Result Seen Refusal) → seen_paper r ≡ look_of s p → seen_paper t ≡ look_of s p → r ≡ t
  look-determined r t e f = sym (seen-again r) ∙ ap seen_as (e ∙ sym f) ∙ seen-again t

  pub entry-determined : (r t : Result Next Refusal) → entry_paper r ≡ entry_of s p → entry_paper t ≡ entry_of s p → r ≡ t
  entry-determined r t e f = sym (next-again r) ∙ ap next_as (e ∙ sym f) ∙ next-again t

  pub skip-determined : (r t : Result ℕ Refusal) → paper r ≡ skip_of s p → paper t ≡ skip_of s p → r ≡ t
  skip-determined r t e f = sym (past-again r) ∙ ap past_as (e ∙ sym f) ∙ past-again t

-- the bytes handed back and where they lie: block and offset
pub bytes-determined : (s l m : List ℕ) (from len block offset b c o q : ℕ) → l ≡ take len (drop from s) → m ≡ take len (drop from s)
    → (b ≡ block) × (o ≡ offset + min from (length s)) → (c ≡ block) × (q ≡ offset + min from (length s)) → (l ≡ m) × (b ≡ c) × (o ≡ q)
bytes-determined s l m from len block offset b c o q x y u v = (cc, cc, cc)

abbrev sought_as : Outcome Hit → Result Sought Refusal
sought_as (taken (found p q)) = (Ok (Found p q))
sought_as (taken (missing p)) = (Ok (Missing p))
sought_as (refused n p) = Err (record { number = n; place = p })

sought-again : (r : Result Sought Refusal) → sought_as (seek_paper r) ≡ r
sought-again (Ok (Found p q)) = refl
sought-again (Ok (Missing p)) = refl
sought-again (Err r) = refl

pub sought-determined : (o : Outcome Hit) (r t : Result Sought Refusal) → seek_paper r ≡ o → seek_paper t ≡ o → r ≡ t
sought-determined o r t e g = sym (sought-again r) ∙ ap sought_as (e ∙ sym g) ∙ sought-again t

pub seek-determined : (f : ℕ) (s : List ℕ) (p : ℕ) (k : List ℕ) (r t : Result Sought Refusal) → seek_paper r ≡ seek_of f s p k → seek_paper t ≡ seek_of f s p k → r ≡ t
seek-determined f s p k r t e g = sought-determined (seek_of f s p k) r t e g
