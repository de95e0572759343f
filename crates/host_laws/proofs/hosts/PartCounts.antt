-- Of a list that is sent eight at a time, a part from a place on.
use Rattle.std.proofs.Common.{◌≡◌, ◌⊎◌, ℕ, zero, suc, ◌+◌, ◌-◌, ◌≤◌, ◌<◌, List, [], ◌∷◌, ◌++◌, length, take, drop, Bool}
use Rattle.std.proofs.Common.{true, false, min, refl, ap, sym, ◌∙◌, subst, arith, inl, inr, length-take, length-drop}
use Rattle.std.specs.Prelude.{◌==◌, ◌&&◌, nat_lt}
use Rattle.std.proofs.lemmas.Bool.Decides.{nat_tests}
use Rattle.run_theory.specs.Lists.{Each}
use Rattle.sig_core.specs.declared.member.TxId.{TxId}
use Rattle.sig_core.specs.declared.outs.Outgoing.{Outgoing}
use Rattle.sig_core.specs.declared.place.BlockId.TheVariants as block
use Rattle.sig_core.specs.declared.place.Place.{Place}
use Rattle.sig_core.specs.declared.signal.Body.{Body}
use Rattle.sig_core.specs.declared.signal.Body.TheVariants.{Host}
use Rattle.sig_core.specs.declared.signal.host.HostSignal.TheVariants.{Continue}
use Rattle.sig_core.specs.declared.signal.host.Work.TheVariants as work
use Rattle.sig_core.specs.Same.{same_tx}
use Rattle.tc_block.specs.Part.{part_effects, rest_if}
use Rattle.sig_core.proofs.Keys.{same_tx-self}
use Rattle.host_laws.proofs.rows.Operations.{true_and}
use Rattle.run_theory.proofs.Tally.{tally_append}
use Rattle.run_theory.specs.Counts.{one_if, tally}
use Rattle.host_laws.proofs.coordinator.Sends.{eqb-self}
use Rattle.host_laws.proofs.api.Wishes.{is_tc, sends_of}
use Rattle.sig_core.specs.declared.portion.TheConstants.{PORTION}

-- its coordinator goes on, at this place
abbrev pub is_cont : TxId → ℕ → Place → Body → Bool
is_cont tx a to (Host (Continue (work.Transaction other) at)) =
    (is_tc to.block && (to.node == tx.tc)) && (same_tx other tx && (at == a))
is_cont tx a to _ = false

pub cont_block : (tx : TxId) (a : ℕ) (to : Place) (body : Body) → is_tc to.block ≡ false → is_cont tx a to body ≡ false
cont_block tx a to (Host (Continue (work.Transaction other) at)) e =
    ap (λ b. (b && (to.node == tx.tc)) && (same_tx other tx && (at == a))) e
cont_block tx a to _ e = refl

-- a part of a list was sent, from a place on: eight and the signal to go on, or all that is left
abbrev pub IsPart : (test : Place → Body → Bool) → TxId → (l at : ℕ) → List Outgoing → Type 0
IsPart test tx l at sends = ((at + PORTION < l) × (PORTION ≤ sends_of test sends) ×
    (1 ≤ sends_of (is_cont tx (at + PORTION)) sends)) ⊎ (l ≤ at + sends_of test sends)

pub all_counted : {A : Type 0} (p : A → Bool) (xs : List A) → Each (λ x. p x ≡ true) xs → tally p xs ≡ length xs
all_counted p [] all = refl
all_counted p (x ∷ xs) all = omega (arith, ap one_if all.0, all_counted p xs all.1)

each_take : {A : Type 0} (P : A → Type 0) (m : ℕ) (xs : List A) → Each P xs → Each P (take m xs)
each_take P zero xs all = tt
each_take P (suc m) [] all = tt
each_take P (suc m) (x ∷ xs) all = (all.0, each_take P m xs all.1)

each_drop : {A : Type 0} (P : A → Type 0) (m : ℕ) (xs : List A) → Each P xs → Each P (drop m xs)
each_drop P zero xs all = all
each_drop P (suc m) [] all = tt
each_drop P (suc m) (x ∷ xs) all = each_drop P m xs all.1

-- eight and the signal to go on, or all that is left
pub part_is : (test : Place → Body → Bool) (node : ℕ) (tx : TxId) (xs : List Outgoing) (at : ℕ) → node ≡ tx.tc
    → Each (λ (x : Outgoing). test x.to x.body ≡ true) xs
    → IsPart test tx (length xs) at (part_effects node tx xs at).sends
unfolding part_effects
part_is test node tx xs at home all = go (nat_lt (at + PORTION) (length xs)) refl
  where
    part_count : tally (λ (x : Outgoing). test x.to x.body) (take PORTION (drop at xs)) ≡ min PORTION (length xs - at)
    part_count =
        all_counted (λ (x : Outgoing). test x.to x.body) (take PORTION (drop at xs))
        (each_take (λ (x : Outgoing). test x.to x.body ≡ true) PORTION (drop at xs)
        (each_drop (λ (x : Outgoing). test x.to x.body ≡ true) at xs all))
        ∙ (length-take PORTION (drop at xs) ∙ ap (λ m. min PORTION m) (length-drop at xs))

    cont_passes : is_cont tx (at + PORTION) (record { node = node; block = block.Tc })
        (Host (Continue (work.Transaction tx) (at + PORTION))) ≡ true
    cont_passes =
        true_and (node == tx.tc) (same_tx tx tx && ((at + PORTION) == (at + PORTION)))
        (subst (λ k. (k == tx.tc) ≡ true) (sym home) (eqb-self tx.tc))
        (true_and (same_tx tx tx) ((at + PORTION) == (at + PORTION)) (same_tx-self tx) (eqb-self (at + PORTION)))

    go : (b : Bool) → nat_lt (at + PORTION) (length xs) ≡ b
        → IsPart test tx (length xs) at (take PORTION (drop at xs) ++ rest_if node tx at b)
    go true e =
        let low : at + PORTION < length xs = grind (arith, nat_tests, e) in
        inl (
          low,
          omega (
            arith,
            low,
            part_count,
            tally_append (λ (x : Outgoing). test x.to x.body) (take PORTION (drop at xs))
                (rest_if node tx at true),
          ),
          omega (
            arith,
            ap one_if cont_passes,
            tally_append (λ (x : Outgoing). is_cont tx (at + PORTION) x.to x.body)
                (take PORTION (drop at xs)) (rest_if node tx at true),
          ),
        )
    go false e =
        let near : length xs ≤ at + PORTION = grind (arith, nat_tests, e) in
        inr (omega (
          arith,
          near,
          part_count,
          tally_append (λ (x : Outgoing). test x.to x.body)
              (take PORTION (drop at xs)) (rest_if node tx at false),
        ))
