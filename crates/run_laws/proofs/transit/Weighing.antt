-- Sums over signals: as they are sent, as they join those in transit, and as one of them is taken.
use Rattle.std.proofs.Common.{◌≡◌, ℕ, ◌+◌, ◌≤◌, List, [], ◌∷◌, ◌++◌, Bool, true, false, refl, ap, sym, subst, arith}
use Rattle.run_theory.specs.Lists.{Each}
use Rattle.run_theory.proofs.Pasts.{each_after, each_append, each_before}
use Rattle.world_core.specs.Steps.{Addressed, HostStep}
use Rattle.sig_core.specs.declared.outs.Outgoing.{Outgoing}
use Rattle.sig_core.specs.declared.place.Place.{Place}
use Rattle.sig_core.specs.declared.signal.Body.{Body}
use Rattle.node_core.specs.Requests.{is_request}
use Rattle.world_core.specs.Hosts.{Membership, first_membership, receiver}
use Rattle.world_core.specs.Machine.{all_addressed, counted, sent_count, signals_of, step_after}
use Rattle.world_core.specs.Start.{Start}
use Rattle.run_theory.specs.Counts.{one_if, tally}
use Rattle.run_laws.specs.Transit.{IsTaken, Takes, joined, taken_by}

-- the sum of f over a list
abbrev pub weigh : {A : Type 0} → (A → ℕ) → List A → ℕ
weigh f [] = 0
weigh f (x ∷ xs) = f x + weigh f xs

pub weigh_append : {A : Type 0} (f : A → ℕ) (xs ys : List A) → weigh f (xs ++ ys) ≡ weigh f xs + weigh f ys
weigh_append f [] ys = omega arith
weigh_append f (x ∷ xs) ys = omega (arith, weigh_append f xs ys)

pub weigh_less : {A : Type 0} (f g : A → ℕ) (xs : List A) → ((x : A) → f x ≤ g x) → weigh f xs ≤ weigh g xs
weigh_less f g [] less = omega arith
weigh_less f g (x ∷ xs) less = omega (arith, less x, weigh_less f g xs less)

pub weigh_none : {A : Type 0} (f : A → ℕ) (xs : List A) → Each (λ x. f x ≡ 0) xs → weigh f xs ≡ 0
weigh_none f [] none = refl
weigh_none f (x ∷ xs) none = omega (arith, none.0, weigh_none f xs none.1)

pub none_weighs : {A : Type 0} (f : A → ℕ) (xs : List A) → weigh f xs ≡ 0 → Each (λ x. f x ≡ 0) xs
none_weighs f [] none = tt
none_weighs f (x ∷ xs) none = (omega (arith, none), none_weighs f xs (omega (arith, none)))

-- where no item passes a test each fails it
pub none_passes : {A : Type 0} (p : A → Bool) (xs : List A) → tally p xs ≡ 0 → Each (λ x. p x ≡ false) xs
none_passes p [] none = tt
none_passes p (x ∷ xs) none = by (p x) refl (none_passes p xs)
  where
    by : (b : Bool) → p x ≡ b → (tally p xs ≡ 0 → Each (λ y. p y ≡ false) xs)
        → (p x ≡ false) × Each (λ y. p y ≡ false) xs
    by true e rest = absurd (omega (arith, none, ap one_if e))
    by false e rest = (e, rest (omega (arith, none)))

-- what signals weigh in transit, and as they are sent
abbrev pub in_transit : (Place → Body → ℕ) → List Addressed → ℕ
in_transit w xs = weigh (λ (x : Addressed). w x.signal.to x.signal.body) xs

abbrev pub in_sends : (Place → Body → ℕ) → List Outgoing → ℕ
in_sends w os = weigh (λ (o : Outgoing). w o.to o.body) os

headed_weigh : (w : Place → Body → ℕ) (who : Membership) (h stamp : ℕ) (count : ℕ → ℕ) (os : List Outgoing)
    → in_transit w (all_addressed who h stamp count os) ≡ in_sends w os
headed_weigh w who h stamp count [] = refl
headed_weigh w who h stamp count (o ∷ os) =
    ap (λ m. w o.to o.body + m) (headed_weigh w who h stamp (counted (receiver who o.to) count) os)

joined_weigh : (w : Place → Body → ℕ) (xs ys : List Addressed)
    → in_transit w (joined xs ys) ≡ in_transit w xs + in_transit w ys
joined_weigh w [] ys = omega arith
joined_weigh w (x ∷ xs) ys = omega (arith, joined_weigh w xs (x ∷ ys))

-- what is in transit behind a step
pub joins_weigh : (w : Place → Body → ℕ) (start : Start) (h : ℕ) (log : List HostStep) (e : HostStep)
    (between : List Addressed)
    → in_transit w (joined (signals_of start h log e) between)
    ≡ in_sends w (step_after start h log e).effects.sends + in_transit w between
joins_weigh w start h log e between =
    omega (
      arith,
      joined_weigh w (signals_of start h log e) between,
      headed_weigh w (first_membership start) h
          e.step.stamp (sent_count start h log) (step_after start h log e).effects.sends,
    )

-- and what was taken from it
pub takes_weigh : (w : Place → Body → ℕ) (e : HostStep) (before between : List Addressed)
    → (is_request e.step.taken.body ≡ true → w e.step.taken.to e.step.taken.body ≡ 0) → Takes e before between
    → in_transit w before ≡ w e.step.taken.to e.step.taken.body + in_transit w between
takes_weigh w e before between free takes = by (is_request e.step.taken.body) refl
  where
    f : Addressed → ℕ
    f x = w x.signal.to x.signal.body

    one : IsTaken (taken_by e) before between
        → in_transit w before ≡ w e.step.taken.to e.step.taken.body + in_transit w between
    one t = omega (
      arith,
      ap (weigh f) t.is,
      ap (weigh f) t.left,
      weigh_append f t.front (taken_by e ∷ t.back),
      weigh_append f t.front t.back,
    )

    by : (b : Bool) → is_request e.step.taken.body ≡ b
        → in_transit w before ≡ w e.step.taken.to e.step.taken.body + in_transit w between
    by true is = omega (arith, free is, ap (in_transit w) (takes.request is))
    by false is = one (takes.signal is)

-- what holds of each signal
pub each_between : (P : Addressed → Type 0) (e : HostStep) (before between : List Addressed) → Takes e before between
    → Each P before → Each P between
each_between P e before between takes all = by (is_request e.step.taken.body) refl
  where
    one : IsTaken (taken_by e) before between → Each P between
    one t =
        let parts : Each P (t.front ++ taken_by e ∷ t.back) = subst (Each P) t.is all in
        subst (Each P) (sym t.left) (each_append P t.front t.back (each_before P t.front (taken_by e ∷ t.back) parts)
        (each_after P t.front (taken_by e ∷ t.back) parts).1)

    by : (b : Bool) → is_request e.step.taken.body ≡ b → Each P between
    by true is = subst (Each P) (sym (takes.request is)) all
    by false is = one (takes.signal is)

pub each_taken : (P : Addressed → Type 0) (e : HostStep) (before between : List Addressed)
    → is_request e.step.taken.body ≡ false → Takes e before between → Each P before → P (taken_by e)
each_taken P e before between is takes all =
    let t = takes.signal is in
    (each_after P t.front (taken_by e ∷ t.back) (subst (Each P) t.is all)).0

pub headed_each : (P : Place → Body → Type 0) (who : Membership) (h stamp : ℕ) (count : ℕ → ℕ) (os : List Outgoing)
    → Each (λ (o : Outgoing). P o.to o.body) os
    → Each (λ (x : Addressed). P x.signal.to x.signal.body) (all_addressed who h stamp count os)
headed_each P who h stamp count [] all = tt
headed_each P who h stamp count (o ∷ os) all =
    (all.0, headed_each P who h stamp (counted (receiver who o.to) count) os all.1)

pub joined_each : (P : Addressed → Type 0) (xs ys : List Addressed) → Each P xs → Each P ys → Each P (joined xs ys)
joined_each P [] ys all others = others
joined_each P (x ∷ xs) ys all others = joined_each P xs (x ∷ ys) all.1 (all.0, others)

pub each_joins : (P : Place → Body → Type 0) (start : Start) (h : ℕ) (log : List HostStep) (e : HostStep)
    (between : List Addressed)
    → Each (λ (o : Outgoing). P o.to o.body) (step_after start h log e).effects.sends
    → Each (λ (x : Addressed). P x.signal.to x.signal.body) between
    → Each (λ (x : Addressed). P x.signal.to x.signal.body) (joined (signals_of start h log e) between)
each_joins P start h log e between sent rest =
    joined_each (λ (x : Addressed). P x.signal.to x.signal.body) (signals_of start h log e) between
    (headed_each P (first_membership start) h e.step.stamp (sent_count start h log)
    (step_after start h log e).effects.sends sent) rest
