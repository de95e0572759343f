-- Going through a list of sends: an event sends the portion of it from a place on, and knows whether more is left.
use Rattle.std.proofs.Common.{◌≡◌, ◌<◌, ◌+◌, ◌-◌, ◌++◌, ℕ, zero, suc, Bool, true, false, ◌||◌, List, [], ◌∷◌, length}
use Rattle.std.proofs.Common.{take, drop, map, get_or, nat_lt, refl, ap, sym, ◌∙◌, arith, append_assoc}
use Rattle.std.proofs.lemmas.Bool.Decides.{nat_tests}
use Rattle.std.proofs.lemmas.List.{drop_more, append-nil}
use Rattle.std.specs.List.{flat_map}
use Rattle.sig_core.specs.declared.outs.Outgoing.{Outgoing}
use Rattle.sig_core.specs.declared.place.Place.{Place}
use Rattle.sig_core.specs.declared.portion.Portion.{Portion}
use Rattle.sig_core.specs.declared.signal.host.Work.{Work}
use Rattle.sig_core.specs.Portion.{Offered, all_offered, go_on_at, left_after, left_if, offered, offered_by}
use Rattle.sig_core.specs.Portion.{offered_from, portion, portion_effects, rest_if, so_far}
use Rattle.sig_core.specs.Step.{Effects, joined, and_send, sends_only}

-- two lists, one after the other
pub all_offered-append : (o : Offered) (xs ys : List Outgoing)
    → all_offered o (xs ++ ys) ≡ all_offered (all_offered o xs) ys
all_offered-append o [] ys = refl
all_offered-append o (x ∷ xs) ys = all_offered-append (offered o x) xs ys

-- one item more, whose sends are a list: what is left leads to the same as all did
pub flat_offer_more : {A : Type 0} (f : A → List Outgoing) (items : List A) (i : ℕ) (d : A) (o next : Offered)
    → i < length items
    → next ≡ all_offered o (f (get_or items i d))
    → all_offered next (flat_map f (drop (i + 1) items)) ≡ all_offered o (flat_map f (drop i items))
flat_offer_more f items i d o next inside is =
    ap (λ p. all_offered p (flat_map f (drop (i + 1) items))) is
    ∙ sym (all_offered-append o (f (get_or items i d)) (flat_map f (drop (i + 1) items)))
    ∙ ap (λ xs. all_offered o (flat_map f xs)) (sym (drop_more items i d inside))

-- one item more, of which one signal is made
pub map_offer_more : {A : Type 0} (f : A → Outgoing) (items : List A) (i : ℕ) (d : A) (o next : Offered)
    → i < length items
    → next ≡ offered o (f (get_or items i d))
    → all_offered next (map f (drop (i + 1) items)) ≡ all_offered o (map f (drop i items))
map_offer_more f items i d o next inside is =
    ap (λ p. all_offered p (map f (drop (i + 1) items))) is
    ∙ ap (λ xs. all_offered o (map f xs)) (sym (drop_more items i d inside))

-- what was sent, and whether more is left, when all of a list was gone through
pub record IsSent (o : Offered) (before : Effects) (sends : List Outgoing) (left : Bool) : Type 0 where
  pub effects : o.effects ≡ joined before (sends_only sends)
  pub more : o.portion.more ≡ left

-- an event so far
abbrev at_work : ℕ → ℕ → Bool → Effects → Offered
at_work skip room more e = so_far (record { skip = skip; room = room; more = more }) e

above_zero : (n : ℕ) → nat_lt 0 (suc n) ≡ true
above_zero n = grind (arith, nat_tests)

both_more : (a b : ℕ) → nat_lt (suc a) (suc b) ≡ nat_lt a b
both_more a b = grind (arith, nat_tests)

or_true : (b : Bool) → (b || true) ≡ true
or_true true = refl
or_true false = refl

or_false : (b : Bool) → (b || false) ≡ b
or_false true = refl
or_false false = refl

abbrev no_sends : List Outgoing
no_sends = []

drop-nil : (n : ℕ) → drop n no_sends ≡ []
drop-nil zero = refl
drop-nil (suc n) = refl

take-nil : (n : ℕ) → take n no_sends ≡ []
take-nil zero = refl
take-nil (suc n) = refl

-- one of the list, at each of the three turns
passed : (skip room : ℕ) (more : Bool) (e : Effects) (x : Outgoing)
    → offered (at_work (suc skip) room more e) x ≡ at_work skip room more e
passed skip room more e x =
    let less : suc skip - 1 ≡ skip = omega arith in
    ap (λ b. offered_by (record { skip = suc skip; room = room; more = more }) e x b (nat_lt 0 room)) (above_zero skip)
    ∙ ap (λ n. at_work n room more e) less

sent_one : (room : ℕ) (more : Bool) (e : Effects) (x : Outgoing)
    → offered (at_work zero (suc room) more e) x ≡ at_work zero room more (and_send e x.to x.body)
sent_one room more e x =
    let less : suc room - 1 ≡ room = omega arith in
    ap (λ b. offered_by (record { skip = zero; room = suc room; more = more }) e x false b) (above_zero room)
    ∙ ap (λ n. at_work zero n more (and_send e x.to x.body)) less

sends_one_more : (e : Effects) (x : Outgoing) (xs : List Outgoing)
    → joined (and_send e x.to x.body) (sends_only xs) ≡ joined e (sends_only (x ∷ xs))
sends_one_more e x xs = ap (λ ys. record { sends = ys; marks = e.marks ++ [] }) (append_assoc e.sends (x ∷ []) xs)

sends_none : (e : Effects) → e ≡ joined e (sends_only [])
sends_none e = λ i. record { sends = sym (append-nil e.sends) i; marks = sym (append-nil e.marks) i }

-- what a list comes to
all_sent : (skip room : ℕ) (more : Bool) (e : Effects) (xs : List Outgoing)
    → IsSent (all_offered (at_work skip room more e) xs) e (take room (drop skip xs))
    (more || nat_lt (skip + room) (length xs))
all_sent skip room more e [] =
    let none : take room (drop skip no_sends) ≡ [] = ap (take room) (drop-nil skip) ∙ take-nil room in
    let below : nat_lt (skip + room) 0 ≡ false = grind (arith, nat_tests) in
    record {
      effects = sends_none e ∙ ap (λ ys. joined e (sends_only ys)) (sym none);
      more = sym (ap (λ b. more || b) below ∙ or_false more);
    }
all_sent (suc skip) room more e (x ∷ xs) =
    let rest = all_sent skip room more e xs in
    let step = passed skip room more e x in
    let next : suc skip + room ≡ suc (skip + room) = omega arith in
    record {
      effects = ap (λ o. (all_offered o xs).effects) step ∙ rest.effects;
      more = ap (λ o. (all_offered o xs).portion.more) step ∙ rest.more
          ∙ ap (λ b. more || b) (sym (ap (λ n. nat_lt n (suc (length xs))) next ∙ both_more (skip + room) (length xs)));
    }
all_sent zero (suc room) more e (x ∷ xs) =
    let rest = all_sent zero room more (and_send e x.to x.body) xs in
    let step = sent_one room more e x in
    let next : 0 + suc room ≡ suc (0 + room) = omega arith in
    record {
      effects = ap (λ o. (all_offered o xs).effects) step ∙ rest.effects ∙ sends_one_more e x (take room xs);
      more = ap (λ o. (all_offered o xs).portion.more) step ∙ rest.more
          ∙ ap (λ b. more || b) (sym (ap (λ n. nat_lt n (suc (length xs))) next ∙ both_more (0 + room) (length xs)));
    }
all_sent zero zero more e (x ∷ xs) =
    let rest = all_sent zero zero true e xs in
    record {
      effects = rest.effects;
      more = rest.more ∙ sym (ap (λ b. more || b) (above_zero (length xs)) ∙ or_true more);
    }

-- an event that sends from a place on
pub portion_sent : (at : ℕ) (e : Effects) (xs : List Outgoing)
    → IsSent (all_offered (offered_from at e) xs) e (portion xs at) (nat_lt (at + 8) (length xs))
portion_sent at e xs = all_sent at 8 false e xs

-- the place from which the list goes on is behind the portion, if the event left something of it
pub left_is : (at : ℕ) (e out : Effects) (p : Portion) (xs : List Outgoing) {left : Bool}
    → so_far p out ≡ all_offered (offered_from at e) xs → p.more ≡ left → left_if at left ≡ left_after xs at
left_is at e out p xs is more =
    ap (left_if at) (sym more ∙ ap (λ (o : Offered). o.portion.more) is ∙ (portion_sent at e xs).more)

-- the last portion of a list, and one that isn't
pub ends_with_portion : (by : Place) (work : Work) (at : ℕ) (e out : Effects) (p : Portion) (xs : List Outgoing)
    → so_far p out ≡ all_offered (offered_from at e) xs → p.more ≡ false
    → out ≡ joined e (portion_effects by work xs at)
ends_with_portion by work at e out p xs is none =
    let sent = portion_sent at e xs in
    let last : nat_lt (at + 8) (length xs) ≡ false =
    sym sent.more ∙ ap (λ (o : Offered). o.portion.more) (sym is) ∙ none in
    ap (λ (o : Offered). o.effects) is ∙ sent.effects
    ∙ ap (λ ys. joined e (sends_only ys))
    (sym (ap (λ b. portion xs at ++ rest_if by work at b) last ∙ append-nil (portion xs at)))

pub goes_on_after_portion : (by : Place) (work : Work) (at : ℕ) (e out : Effects) (p : Portion) (xs : List Outgoing)
    → so_far p out ≡ all_offered (offered_from at e) xs → p.more ≡ true
    → and_send out by (go_on_at by work (at + 8)).body ≡ joined e (portion_effects by work xs at)
goes_on_after_portion by work at e out p xs is some =
    let sent = portion_sent at e xs in
    let next : nat_lt (at + 8) (length xs) ≡ true =
    sym sent.more ∙ ap (λ (o : Offered). o.portion.more) (sym is) ∙ some in
    let go_on = go_on_at by work (at + 8) in
    ap (λ (o : Offered). and_send o.effects go_on.to go_on.body) is
    ∙ ap (λ (before : Effects). and_send before go_on.to go_on.body) sent.effects
    ∙ ap (λ ys. record { sends = ys; marks = e.marks ++ [] }) (append_assoc e.sends (portion xs at) (go_on ∷ []))
    ∙ ap (λ b. joined e (sends_only (portion xs at ++ rest_if by work at b))) (sym next)

pub ruleset portions = (all_offered-append, flat_offer_more, map_offer_more)
