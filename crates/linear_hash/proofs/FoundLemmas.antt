-- What is found in a bucket: by its entries, and by the pairs of those that belong there.
use Rattle.std.proofs.Common.{◌≡◌, ◌≢◌, ℕ, Bool, true, false, not, cond, List, [], ◌∷◌, ◌++◌, refl, ap, sym, ◌∙◌}
use Rattle.std.proofs.Common.{Ordering}
use Rattle.std.specs.Prelude.{Option, Some, None, is_some, ◌==◌, ◌&&◌, nat_eq}
use Rattle.std.specs.Ordering.{nat_cmp, eq_by_cmp}
use Rattle.std.specs.Cmp.{eq_by_cmp_equiv}
use Rattle.std.specs.Cmp.Lexicographic.{slice_cmp, nat_list_cmp_total, texts_ties}
use Rattle.std.specs.FinMap as map
use Rattle.std.proofs.lemmas.Bool.{eqb-true, eq-eqb, true≢false, false≢true}
use Rattle.sig_core.specs.Digest.{hash_of}
use Rattle.sig_core.specs.Same.{same_key}
use Rattle.linear_hash.specs.declared.entry.Entry.{Entry}
use Rattle.linear_hash.specs.declared.growth.Growth.{Growth}
use Rattle.linear_hash.specs.Growth.{home}
use Rattle.linear_hash.specs.Entries.{part_of, place_in, without}
use Rattle.linear_hash.specs.Places.{pairs_at}

-- the order of keys
abbrev pub key_cmp : List ℕ → List ℕ → Ordering
key_cmp = slice_cmp nat_cmp

-- the two comparisons of keys agree, whichever way round
pub tie-same : (q k : List ℕ) → eq_by_cmp key_cmp q k ≡ same_key k q
tie-same q k = (eq_by_cmp_equiv nat_list_cmp_total).symm q k ∙ sym (texts_ties k q)

-- keys that compare as one are one
pub same_key-is : (a b : List ℕ) → same_key a b ≡ true → a ≡ b
same_key-is [] [] e = refl
same_key-is [] (y ∷ b) e = absurd (false≢true e)
same_key-is (x ∷ a) [] e = absurd (false≢true e)
same_key-is (x ∷ a) (y ∷ b) e = by (nat_eq x y) refl e (same_key-is a b)
  where
    by : (c : Bool) → nat_eq x y ≡ c → (c && same_key a b) ≡ true → (same_key a b ≡ true → a ≡ b) → x ∷ a ≡ y ∷ b
    by true p q rest = λ i. eqb-true x y p i ∷ rest q i
    by false p q rest = absurd (false≢true q)

-- keys with two numbers are two
pub numbered_apart : (one other : ℕ) (a b : List ℕ) → one ≡ hash_of a → other ≡ hash_of b → one ≢ other
    → same_key a b ≡ false
numbered_apart one other a b one_is other_is differ = by (same_key a b) refl
  where
    by : (same : Bool) → same_key a b ≡ same → same ≡ false
    by true same = absurd (differ (one_is ∙ ap hash_of (same_key-is a b same) ∙ sym other_is))
    by false same = refl

-- the first of the two places, if there is one
abbrev pub first_of_two : Option ℕ → Option ℕ → Option ℕ
first_of_two (Some at) other = Some at
first_of_two None other = other

-- the pair of an entry is found as the entry is
head-found : (q : List ℕ) (entry : Entry) (pairs : List (List ℕ × ℕ)) (b : Bool) → same_key entry.key q ≡ b
    → map.find key_cmp q ((entry.key, entry.at) ∷ pairs) ≡ cond b (Some entry.at) (map.find key_cmp q pairs)
head-found q entry pairs b is = ap (λ t. cond t (Some entry.at) (map.find key_cmp q pairs)) (tie-same q entry.key ∙ is)

-- in the key's bucket
pub found-here : (home_of : List ℕ → ℕ) (bucket : ℕ) (entries : List Entry) (rest : List (List ℕ × ℕ)) (q : List ℕ)
    → home_of q ≡ bucket
    → map.find key_cmp q (pairs_at home_of bucket entries ++ rest) ≡ first_of_two (place_in q entries)
    (map.find key_cmp q rest)
found-here home_of bucket [] rest q here = refl
found-here home_of bucket (entry ∷ entries) rest q here =
    by (same_key entry.key q) refl (home_of entry.key == bucket) refl (found-here home_of bucket entries rest q here)
  where
    by : (b : Bool) → same_key entry.key q ≡ b → (h : Bool) → (home_of entry.key == bucket) ≡ h
        → map.find key_cmp q (pairs_at home_of bucket entries ++ rest) ≡ first_of_two (place_in q entries)
        (map.find key_cmp q rest)
        → map.find key_cmp q
        (cond h ((entry.key, entry.at) ∷ pairs_at home_of bucket entries) (pairs_at home_of bucket entries) ++ rest)
        ≡ first_of_two (cond b (Some entry.at) (place_in q entries)) (map.find key_cmp q rest)
    by true same true at known = head-found q entry (pairs_at home_of bucket entries ++ rest) true same
    by true same false at known =
        absurd (true≢false
        (sym (eq-eqb (home_of entry.key) bucket (ap home_of (same_key-is entry.key q same) ∙ here)) ∙ at))
    by false same true at known = head-found q entry (pairs_at home_of bucket entries ++ rest) false same ∙ known
    by false same false at known = known

-- in another bucket
pub found-elsewhere : (home_of : List ℕ → ℕ) (bucket : ℕ) (entries : List Entry) (rest : List (List ℕ × ℕ)) (q : List ℕ)
    → home_of q ≢ bucket
    → map.find key_cmp q (pairs_at home_of bucket entries ++ rest) ≡ map.find key_cmp q rest
found-elsewhere home_of bucket [] rest q away = refl
found-elsewhere home_of bucket (entry ∷ entries) rest q away =
    by (same_key entry.key q) refl (home_of entry.key == bucket) refl
    (found-elsewhere home_of bucket entries rest q away)
  where
    by : (b : Bool) → same_key entry.key q ≡ b → (h : Bool) → (home_of entry.key == bucket) ≡ h
        → map.find key_cmp q (pairs_at home_of bucket entries ++ rest) ≡ map.find key_cmp q rest
        → map.find key_cmp q
        (cond h ((entry.key, entry.at) ∷ pairs_at home_of bucket entries) (pairs_at home_of bucket entries) ++ rest)
        ≡ map.find key_cmp q rest
    by true same true at known =
        absurd (away (sym (ap home_of (same_key-is entry.key q same)) ∙ eqb-true (home_of entry.key) bucket at))
    by true same false at known = known
    by false same true at known = head-found q entry (pairs_at home_of bucket entries ++ rest) false same ∙ known
    by false same false at known = known

some_is_not : (at : ℕ) → Some at ≡ None → ⊥
some_is_not at e = true≢false (ap is_some e)

-- after an entry was put in last whose key isn't there
pub place-added : (entries : List Entry) (entry : Entry) (q : List ℕ) → place_in entry.key entries ≡ None
    → place_in q (entries ++ entry ∷ []) ≡ cond (same_key entry.key q) (Some entry.at) (place_in q entries)
place-added [] entry q none = refl
place-added (first ∷ entries) entry q none =
    by (same_key first.key entry.key) refl (same_key first.key q) refl (same_key entry.key q) refl none
    (place-added entries entry q)
  where
    by : (a : Bool) → same_key first.key entry.key ≡ a → (b : Bool) → same_key first.key q ≡ b → (c : Bool)
        → same_key entry.key q ≡ c
        → cond a (Some first.at) (place_in entry.key entries) ≡ None
        → (place_in entry.key entries ≡ None → place_in q (entries ++ entry ∷ []) ≡ cond (same_key entry.key q)
        (Some entry.at) (place_in q entries))
        → cond b (Some first.at) (place_in q (entries ++ entry ∷ [])) ≡ cond c (Some entry.at)
        (cond b (Some first.at) (place_in q entries))
    by true x b y c z none known = absurd (some_is_not (first.at) none)
    by false x true y true z none known =
        absurd (true≢false (sym (ap (same_key first.key) (same_key-is entry.key q z) ∙ y) ∙ x))
    by false x true y false z none known = refl
    by false x false y c z none known = known none ∙ ap (λ t. cond t (Some entry.at) (place_in q entries)) z

cond_alike : {A : Type 0} (b : Bool) (x : A) → x ≡ cond b x x
cond_alike true x = refl
cond_alike false x = refl

-- after a key was taken out
pub place-without : (entries : List Entry) (k q : List ℕ)
    → place_in q (without k entries) ≡ cond (same_key k q) None (place_in q entries)
place-without [] k q = cond_alike (same_key k q) None
place-without (entry ∷ entries) k q =
    by (same_key entry.key k) refl (same_key k q) refl (same_key entry.key q) refl (place-without entries k q)
  where
    by : (a : Bool) → same_key entry.key k ≡ a → (b : Bool) → same_key k q ≡ b → (c : Bool) → same_key entry.key q ≡ c
        → place_in q (without k entries) ≡ cond (same_key k q) None (place_in q entries)
        → place_in q (cond (not a) (entry ∷ without k entries) (without k entries)) ≡ cond b None
        (cond c (Some entry.at) (place_in q entries))
    by true x true y c z known = known ∙ ap (λ t. cond t None (place_in q entries)) y
    by true x false y true z known =
        absurd (true≢false (sym (ap (λ t. same_key t q) (sym (same_key-is entry.key k x)) ∙ z) ∙ y))
    by true x false y false z known = known ∙ ap (λ t. cond t None (place_in q entries)) y
    by false x true y true z known =
        absurd (true≢false (sym (ap (same_key entry.key) (same_key-is k q y) ∙ z) ∙ x))
    by false x true y false z known = ap (λ t. cond t (Some entry.at) (place_in q (without k entries))) z ∙ known
        ∙ ap (λ t. cond t None (place_in q entries)) y
    by false x false y c z known =
        ap (λ t. cond t (Some entry.at) (place_in q (without k entries))) z
        ∙ ap (cond c (Some entry.at)) (known ∙ ap (λ t. cond t None (place_in q entries)) y)

-- in a part of a bucket all keys are found that belong there
pub place-part : (growth : Growth) (bucket : ℕ) (entries : List Entry) (q : List ℕ) → home growth q ≡ bucket
    → place_in q (part_of growth bucket entries) ≡ place_in q entries
place-part growth bucket [] q here = refl
place-part growth bucket (entry ∷ entries) q here =
    by (same_key entry.key q) refl (home growth entry.key == bucket) refl (place-part growth bucket entries q here)
  where
    by : (b : Bool) → same_key entry.key q ≡ b → (h : Bool) → (home growth entry.key == bucket) ≡ h
        → place_in q (part_of growth bucket entries) ≡ place_in q entries
        → place_in q (cond h (entry ∷ part_of growth bucket entries) (part_of growth bucket entries)) ≡ cond b
        (Some entry.at) (place_in q entries)
    by b same true at known =
        ap (λ t. cond t (Some entry.at) (place_in q (part_of growth bucket entries))) same
        ∙ ap (cond b (Some entry.at)) known
    by true same false at known =
        absurd (true≢false
        (sym (eq-eqb (home growth entry.key) bucket (ap (home growth) (same_key-is entry.key q same) ∙ here)) ∙ at))
    by false same false at known = known
