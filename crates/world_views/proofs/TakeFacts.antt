-- Taking the first signal of a link, and links that have none.
use Rattle.std.proofs.Common.{◌≡◌, ◌⊎◌, inl, inr, ℕ, zero, suc, ◌+◌, ◌<◌, ◌≤◌, List, [], ◌∷◌, length, Bool, true, false}
use Rattle.std.proofs.Common.{refl, ap, sym, ◌∙◌, arith}
use Rattle.std.specs.List.{prefix_len}
use Rattle.std.specs.Prelude.{if◌then◌else◌, is_some, nat_lt, not, position, slice_index_or, Option, None, Some}
use Rattle.std.proofs.lemmas.Bool.{cases_lt, true≢false}
use Rattle.std.proofs.lemmas.Bool.Decides.{nat_tests}
use Rattle.std.proofs.lemmas.List.{get_or_past}
use Rattle.std.proofs.lemmas.List.Quantifiers.{position-Some}
use Rattle.sig_core.specs.declared.signal.Signal.{Signal}
use Rattle.world_core.specs.Right.{arriving}
use Rattle.world_views.specs.Links.{AreIdle, AreLinks, Arrival, Inbox, LinkState, Links, arrival, changed, first_at}
use Rattle.world_views.specs.Links.{first_to, has_signal, inbox_of, is_busy, link, link_from, new_link, rest_on}
use Rattle.world_views.specs.Links.{take_between, take_first, taken_from}

-- Where a signal was taken from: it was the first one of a link, and the rest stays there.
pub record IsTakenFrom (n : ℕ) (links : Links) (t : Arrival) : Type 0 where
  pub from : ℕ
  pub to : ℕ
  pub from_low : from < n
  pub to_low : to < n
  pub signal : Signal
  pub rest : List Signal
  pub is : t.taken ≡ arriving to signal
  pub signals : (link links from to).signals ≡ signal ∷ rest
  pub left : t.left ≡ changed links from to (rest_on rest)

-- a link with a signal is one of an inbox, ..
in_inbox : (inbox : Inbox) (from : ℕ) (x : Signal) (rest : List Signal) → (link_from inbox from).signals ≡ x ∷ rest
    → from < length inbox
in_inbox inbox from x rest is = go (cases_lt from (length inbox))
  where
    none : [] ≡ x ∷ rest → ⊥
    none q = cc

    go : (from < length inbox) ⊎ (length inbox ≤ from) → from < length inbox
    go (inl low) = low
    go (inr past) =
        absurd (none (sym (ap (λ (l : LinkState). l.signals) (get_or_past inbox from new_link past)) ∙ is))

-- .. and that one of a host that is there
in_links : (links : Links) (from to : ℕ) (x : Signal) (rest : List Signal) → (link links from to).signals ≡ x ∷ rest
    → to < length links
in_links links from to x rest is = go (cases_lt to (length links))
  where
    low : from < length (inbox_of links to)
    low = in_inbox (inbox_of links to) from x rest is

    go : (to < length links) ⊎ (length links ≤ to) → to < length links
    go (inl fine) = fine
    go (inr past) = absurd (omega (arith, low, ap length (get_or_past links to [] past)))

taken_is : (n : ℕ) (links : Links) (from to : ℕ) (signals : List Signal) (t : Arrival) → AreLinks n links
    → (link links from to).signals ≡ signals → taken_from links from to signals ≡ Some t → IsTakenFrom n links t
taken_is n links from to [] t are is e = cc
taken_is n links from to (x ∷ rest) t are is e =
    let same : arrival to x (changed links from to (rest_on rest)) ≡ t = cc in
    let to_low : to < n = omega (arith, in_links links from to x rest is, are.inboxes) in
    record {
      from = from;
      to = to;
      from_low = omega (arith, in_inbox (inbox_of links to) from x rest is, are.each to to_low);
      to_low = to_low;
      signal = x;
      rest = rest;
      is = sym (ap (λ (u : Arrival). u.taken) same);
      signals = is;
      left = sym (ap (λ (u : Arrival). u.left) same);
    }

-- from one host to another
pub taken_on : (n : ℕ) (links : Links) (from to : ℕ) (t : Arrival) → AreLinks n links
    → take_between links from to ≡ Some t → IsTakenFrom n links t
taken_on n links from to t are e = taken_is n links from to (link links from to).signals t are refl e

taken_to : (n : ℕ) (links : Links) (to : ℕ) (at : Option ℕ) (t : Arrival) → AreLinks n links
    → first_to links to at ≡ Some t → IsTakenFrom n links t
taken_to n links to None t are e = cc
taken_to n links to (Some from) t are e = taken_on n links from to t are e

taken_at : (n : ℕ) (links : Links) (at : Option ℕ) (t : Arrival) → AreLinks n links
    → first_at links at ≡ Some t → IsTakenFrom n links t
taken_at n links None t are e = cc
taken_at n links (Some to) t are e = taken_to n links to (position is_busy (inbox_of links to)) t are e

-- from the first link that has one
pub taken_first : (n : ℕ) (links : Links) (t : Arrival) → AreLinks n links → take_first links ≡ Some t
    → IsTakenFrom n links t
taken_first n links t are e = taken_at n links (position has_signal links) t are e

-- where nothing is taken from a link, nothing is on it
none_from : (links : Links) (from to : ℕ) (signals : List Signal) → taken_from links from to signals ≡ None
    → signals ≡ []
none_from links from to [] e = refl
none_from links from to (x ∷ rest) e = cc

pub none_between : (links : Links) (from to : ℕ) → take_between links from to ≡ None
    → (link links from to).signals ≡ []
none_between links from to e = none_from links from to (link links from to).signals e

-- a test that the first so many of a list pass, where these are all
all_pass : {A : Type 0} (q : A → Bool) (xs : List A) (k : ℕ) (d : A) → length xs ≤ prefix_len q xs → k < length xs
    → q (slice_index_or xs k d) ≡ true
all_pass q [] k d all low = absurd (omega (arith, low))
all_pass q (x ∷ xs) zero d all low = go (q x) refl all
  where
    go : (b : Bool) → q x ≡ b → suc (length xs) ≤ (if b then 1 + prefix_len q xs else 0) → q x ≡ true
    go true e all = e
    go false e all = absurd (omega (arith, all))
all_pass q (x ∷ xs) (suc k) d all low = all_pass q xs k d (go (q x) all) (omega (arith, low))
  where
    go : (b : Bool) → suc (length xs) ≤ (if b then 1 + prefix_len q xs else 0) → length xs ≤ prefix_len q xs
    go true all = omega (arith, all)
    go false all = absurd (omega (arith, all))

-- where no place has what passes a test, no item passes it
none_found : {A : Type 0} (p : A → Bool) (xs : List A) (k : ℕ) (d : A) → position p xs ≡ None → k < length xs
    → p (slice_index_or xs k d) ≡ false
none_found p xs k d none low =
    not_true (p (slice_index_or xs k d))
    (all_pass (λ x. not (p x)) xs k d (far (nat_lt (prefix_len (λ x. not (p x)) xs) (length xs)) refl none) low)
  where
    not_true : (b : Bool) → not b ≡ true → b ≡ false
    not_true true e = cc
    not_true false e = refl

    far : (b : Bool) → nat_lt (prefix_len (λ x. not (p x)) xs) (length xs) ≡ b
        → (if b then Some (prefix_len (λ x. not (p x)) xs) else None) ≡ None
        → length xs ≤ prefix_len (λ x. not (p x)) xs
    far true e none = cc
    far false e none = grind (arith, nat_tests, e)

not_busy : (l : LinkState) → is_busy l ≡ false → l.signals ≡ []
not_busy l e = go l.signals e
  where
    go : (xs : List Signal) → nat_lt 0 (length xs) ≡ false → xs ≡ []
    go [] e = refl
    go (x ∷ xs) e = absurd (grind (arith, nat_tests, e))

-- no link of an inbox has a signal where no first one is found
link_idle : (inbox : Inbox) → position is_busy inbox ≡ None → (i : ℕ) → (link_from inbox i).signals ≡ []
link_idle inbox none i = go (cases_lt i (length inbox))
  where
    go : (i < length inbox) ⊎ (length inbox ≤ i) → (link_from inbox i).signals ≡ []
    go (inl low) = not_busy (link_from inbox i) (none_found is_busy inbox i new_link none low)
    go (inr past) = ap (λ (l : LinkState). l.signals) (get_or_past inbox i new_link past)

none_is : (o : Option ℕ) → is_some o ≡ false → o ≡ None
none_is None e = refl
none_is (Some at) e = cc

-- where nothing is taken from the links to a host, none of them is busy
none_busy : (links : Links) (to : ℕ) (at : Option ℕ) → position is_busy (inbox_of links to) ≡ at
    → first_to links to at ≡ None → at ≡ None
none_busy links to None is e = refl
none_busy links to (Some from) is e =
    let found = position-Some is_busy (inbox_of links to) from new_link is in
    let busy : nat_lt 0 (length (link links from to).signals) ≡ true = found.1 in
    absurd (true≢false (sym busy ∙ ap (λ xs. nat_lt 0 (length xs)) (none_between links from to e)))

none_there : (links : Links) (at : Option ℕ) → position has_signal links ≡ at → first_at links at ≡ None → at ≡ None
none_there links None is e = refl
none_there links (Some to) is e =
    let found = position-Some has_signal links to [] is in
    let none : position is_busy (inbox_of links to) ≡ None =
    none_busy links to (position is_busy (inbox_of links to)) refl e in
    absurd (true≢false (sym found.1 ∙ ap is_some none))

-- where nothing can be taken, nothing is under way
pub none_taken : (links : Links) → take_first links ≡ None → AreIdle links
none_taken links e i j = go (cases_lt j (length links))
  where
    none : position has_signal links ≡ None
    none = none_there links (position has_signal links) refl e

    go : (j < length links) ⊎ (length links ≤ j) → (link_from (inbox_of links j) i).signals ≡ []
    go (inl low) =
        link_idle (inbox_of links j)
        (none_is (position is_busy (inbox_of links j)) (none_found has_signal links j [] none low)) i
    go (inr past) = ap (λ b. (link_from b i).signals) (get_or_past links j [] past)
