-- Where an index leads keys, and what is remembered of it.
use Rattle.std.proofs.Common.{◌≡◌, ℕ, Bool, true, false, cond, nat_eq, List, refl, ap, sym, ◌∙◌}
use Rattle.std.specs.Prelude.{Option, None, Some}
use Rattle.std.specs.FinMap as map
use Rattle.std.specs.Cmp.Lexicographic.{bytes_decides, nat_list_cmp_total}
use Rattle.std.proofs.lemmas.Bool.{eq-eqb}
use Rattle.linear_hash.specs.Places as linear_hash
use Rattle.sig_core.specs.Digest.{hash_of}
use Rattle.sig_core.specs.Same.{same_key}
use Rattle.sig_core.specs.declared.hashed_key.HashedKey.{HashedKey}
use Rattle.sig_core.proofs.Keys.{same_key-self, same_key-swap, tied-same_key}
use Rattle.frag_store.specs.declared.lead.Lead.{Lead}
use Rattle.frag_store.specs.Leads.{IsElsewhereAs, IsLed, unless}

-- what an index has of other keys once a key is put in or taken out
pub others-removed : (index : linear_hash.PlaceMap) (key q : List ℕ) → same_key key q ≡ false
    → map.get (map.remove index key) q ≡ map.get index q
others-removed index key q apart =
    map.get-remove nat_list_cmp_total index key q
    ∙ ap (λ b. cond b None (map.get index q)) (tied-same_key q key ∙ same_key-swap q key ∙ apart)

pub others-inserted : (index : linear_hash.PlaceMap) (key q : List ℕ) (at : ℕ) → same_key key q ≡ false
    → map.get (map.insert index key at) q ≡ map.get index q
others-inserted index key q at apart =
    map.get-insert nat_list_cmp_total index key at q
    ∙ ap (λ b. cond b (Some at) (map.get index q)) (tied-same_key q key ∙ same_key-swap q key ∙ apart)

pub itself-removed : (index : linear_hash.PlaceMap) (key : List ℕ) → map.get (map.remove index key) key ≡ None
itself-removed index key =
    map.get-remove nat_list_cmp_total index key key
    ∙ ap (λ b. cond b None (map.get index key)) (tied-same_key key key ∙ same_key-self key)

pub itself-inserted : (index : linear_hash.PlaceMap) (key : List ℕ) (at : ℕ)
    → map.get (map.insert index key at) key ≡ Some at
itself-inserted index key at =
    map.get-insert nat_list_cmp_total index key at key
    ∙ ap (λ b. cond b (Some at) (map.get index key)) (tied-same_key key key ∙ same_key-self key)

-- none is remembered
pub led_none : (index : linear_hash.PlaceMap) → IsLed index None
led_none index lead is = cc

-- a key is remembered where it is led
pub led_some : (index : linear_hash.PlaceMap) (lead : Lead) → map.get index lead.key.key ≡ lead.at
    → IsLed index (Some lead)
led_some index lead there other is =
    let one : lead ≡ other = cc in
    ap (λ (l : Lead). map.get index l.key.key) (sym one) ∙ there ∙ ap (λ (l : Lead). l.at) one

pub elsewhere-inserted : (places : linear_hash.Places) (key : List ℕ) (at : ℕ)
    → IsElsewhereAs key places.at (linear_hash.inserted places key at).at
unfolding linear_hash.inserted
elsewhere-inserted places key at q differ = others-inserted places.at key q at differ

pub elsewhere-removed : (places : linear_hash.Places) (key : List ℕ)
    → IsElsewhereAs key places.at (linear_hash.removed places key).at
unfolding linear_hash.removed
elsewhere-removed places key q differ = others-removed places.at key q differ

-- a key is where it was led
pub led-inserted : (places : linear_hash.Places) (key : List ℕ) (at : ℕ)
    → map.get (linear_hash.inserted places key at).at key ≡ Some at
unfolding linear_hash.inserted
led-inserted places key at = itself-inserted places.at key at

-- keys with two numbers are two
apart : (key other : HashedKey) → nat_eq other.hash key.hash ≡ false → same_key key.key other.key ≡ false
apart key other differ = by (same_key key.key other.key) refl
  where
    by : (same : Bool) → same_key key.key other.key ≡ same → same ≡ false
    by true same =
        let one : other.hash ≡ key.hash =
        other.hashed ∙ sym (ap hash_of ((bytes_decides key.key other.key).0 same)) ∙ sym key.hashed in
        let both : true ≡ false = sym (eq-eqb other.hash key.hash one) ∙ differ in cc
    by false same = refl

-- what is remembered of other keys is so still once a key is led elsewhere
pub led_unless : (before after : linear_hash.PlaceMap) (key : HashedKey) (lead : Option Lead) → IsLed before lead
    → IsElsewhereAs key.key before after → IsLed after (unless key.hash lead)
led_unless before after key None led elsewhere = led_none after
led_unless before after key (Some lead) led elsewhere = by (nat_eq lead.key.hash key.hash) refl
  where
    by : (b : Bool) → nat_eq lead.key.hash key.hash ≡ b → IsLed after (cond b None (Some lead))
    by true same = led_none after
    by false differ =
        led_some after lead (elsewhere lead.key.key (apart key lead.key differ) ∙ led lead refl)

pub ruleset leads = (others-removed, others-inserted, itself-removed, itself-inserted, led_none, led_some)
