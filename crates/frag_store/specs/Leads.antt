-- What is remembered of the keys that were last asked for.
use Rattle.std.specs.Prelude.{◌≡◌, ℕ, Bool, false, cond, nat_eq, List, Option, None, Some}
use Rattle.std.specs.FinMap as map
use Rattle.linear_hash.specs.Places.{PlaceMap}
use Rattle.sig_core.specs.Same.{same_key}
use Rattle.frag_store.specs.declared.lead.Lead.{Lead}
use Rattle.frag_store.specs.declared.leads.Leads.{Leads}

-- the key that is remembered is led there
abbrev pub IsLed : PlaceMap → Option Lead → Type 0
IsLed index last = (lead : Lead) → last ≡ Some lead → map.get index lead.key.key ≡ lead.at

-- each of them is
pub record AreLed (index : PlaceMap) (leads : Leads) : Type 0 where
  pub last : IsLed index leads.last
  pub second : IsLed index leads.second
  pub third : IsLed index leads.third

-- every key but one is led where it was
abbrev pub IsElsewhereAs : List ℕ → PlaceMap → PlaceMap → Type 0
IsElsewhereAs key before after = (q : List ℕ) → same_key key q ≡ false → map.get after q ≡ map.get before q

-- it is of a key with this number
abbrev pub is_numbered : ℕ → Option Lead → Bool
is_numbered hash None = false
is_numbered hash (Some lead) = nat_eq lead.key.hash hash

-- what is remembered, unless it is of a key with this number
abbrev pub unless : ℕ → Option Lead → Option Lead
unless hash lead = cond (is_numbered hash lead) None lead
