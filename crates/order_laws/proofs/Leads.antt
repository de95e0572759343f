-- Which signals lead to one of a list that a coordinator sends eight at a time.
use Rattle.std.proofs.Common.{◌≡◌, ◌⊎◌, ◌≤◌, ◌<◌, ◌+◌, ℕ, Bool, true, false, List, [], ◌∷◌, ◌++◌, length, take, drop}
use Rattle.std.proofs.Common.{refl, sym}
use Rattle.std.proofs.Common.{ap, ◌∙◌, subst, arith, inl, inr}
use Rattle.std.proofs.lemmas.Bool.{cases_lt, false≢true, or_cases}
use Rattle.std.proofs.lemmas.Bool.Decides.{nat_tests}
use Rattle.std.proofs.lemmas.List.{drop-drop, drop_all, take-append-drop}
use Rattle.std.proofs.lemmas.List.Folds.{list_any-append}
use Rattle.std.specs.List.{list_any}
use Rattle.std.specs.Prelude.{◌==◌, ◌&&◌, nat_lt}
use Rattle.run_theory.specs.Counts.{one_if}
use Rattle.sig_core.proofs.Keys.{same_tx-self}
use Rattle.sig_core.specs.declared.member.TxId.{TxId}
use Rattle.sig_core.specs.declared.outs.Outgoing.{Outgoing}
use Rattle.sig_core.specs.declared.place.BlockId.{BlockId}
use Rattle.sig_core.specs.declared.place.BlockId.TheVariants as block
use Rattle.sig_core.specs.declared.place.Place.{Place}
use Rattle.sig_core.specs.declared.portion.TheConstants.{PORTION}
use Rattle.sig_core.specs.declared.signal.Body.{Body}
use Rattle.sig_core.specs.declared.signal.Body.TheVariants.{Host}
use Rattle.sig_core.specs.declared.signal.host.HostSignal.TheVariants.{Continue}
use Rattle.sig_core.specs.declared.signal.host.Work.TheVariants as work
use Rattle.sig_core.specs.Same.{same_tx}
use Rattle.tc_block.proofs.EachTurn.{is_onward}
use Rattle.tc_block.specs.Part.{part_effects, rest_if}
use Rattle.host_laws.proofs.hosts.Sums.{one_most}
use Rattle.host_laws.proofs.rows.Operations.{is_lqh, true_and}
use Rattle.host_laws.proofs.coordinator.Sends.{eqb-self}
use Rattle.host_laws.proofs.api.Wishes.{is_tc}
use Rattle.run_laws.proofs.transit.Weighing.{in_sends, weigh, weigh_append}

-- only the coordinators' block passes its test, and only that of the rows
pub tc_block_is : (b : BlockId) → is_tc b ≡ true → b ≡ block.Tc
tc_block_is block.Tc is = refl
tc_block_is _ is = absurd cc

pub lqh_block_is : (b : BlockId) → is_lqh b ≡ true → b ≡ block.Lqh
lqh_block_is block.Lqh is = refl
lqh_block_is _ is = absurd cc

-- one of the signals passes the test
abbrev pub any_sent : (Place → Body → Bool) → List Outgoing → Bool
any_sent test sends = list_any (λ (o : Outgoing). test o.to o.body) sends

-- The signal passes the test, or the coordinator goes on by it with a part of the list that has one.
abbrev pub leads : TxId → (Place → Body → Bool) → List Outgoing → Place → Body → Bool
leads tx test list to (Host (Continue (work.Transaction other) at)) =
    (is_tc to.block && (to.node == tx.tc)) && (same_tx other tx && any_sent test (drop at list))
leads tx test list to body = test to body

abbrev pub lead : TxId → (Place → Body → Bool) → List Outgoing → Place → Body → ℕ
lead tx test list to body = one_if (leads tx test list to body)

module _ (tx : TxId) (test : Place → Body → Bool)
    (plain : (to : Place) (body : Body) → is_onward body ≡ true → test to body ≡ false) where
  -- what passes the test leads there
  pub passing_leads : (list : List Outgoing) (to : Place) (body : Body) → test to body ≡ true
      → leads tx test list to body ≡ true
  passing_leads list to (Host (Continue (work.Transaction other) at)) is =
      absurd (false≢true (sym (plain to (Host (Continue (work.Transaction other) at)) refl) ∙ is))
  passing_leads list to _ is = is

  pub sent_leads : (list sends : List Outgoing) → any_sent test sends ≡ true
      → 1 ≤ in_sends (lead tx test list) sends
  sent_leads list [] is = absurd (false≢true is)
  sent_leads list (o ∷ sends) is = by (or_cases (test o.to o.body) (any_sent test sends) is) (sent_leads list sends)
    where
      by : (test o.to o.body ≡ true) ⊎ (any_sent test sends ≡ true)
          → (any_sent test sends ≡ true → 1 ≤ in_sends (lead tx test list) sends)
          → 1 ≤ in_sends (lead tx test list) (o ∷ sends)
      by (inl here) more = omega (arith, ap one_if (passing_leads list o.to o.body here))
      by (inr rest) more = omega (arith, more rest)

  -- a part of the list, where it has one from there on
  pub part_leads : (node : ℕ) (list : List Outgoing) (at : ℕ) → node ≡ tx.tc → any_sent test (drop at list) ≡ true
      → 1 ≤ in_sends (lead tx test list) (part_effects node tx list at).sends
  unfolding part_effects
  part_leads node list at home is =
      by (or_cases (any_sent test (take PORTION (drop at list))) (any_sent test (drop PORTION (drop at list)))
      (sym (list_any-append (λ (o : Outgoing). test o.to o.body) (take PORTION (drop at list))
      (drop PORTION (drop at list)))
      ∙ ap (any_sent test) (take-append-drop PORTION (drop at list)) ∙ is))
    where
      w : Outgoing → ℕ
      w o = lead tx test list o.to o.body

      here : any_sent test (drop PORTION (drop at list)) ≡ true → any_sent test (drop (at + PORTION) list) ≡ true
      here rest = ap (any_sent test) (sym (drop-drop PORTION at list)) ∙ rest

      more : any_sent test (drop (at + PORTION) list) ≡ true → nat_lt (at + PORTION) (length list) ≡ true
      more rest = which (cases_lt (at + PORTION) (length list))
        where
          which : (at + PORTION < length list) ⊎ (length list ≤ at + PORTION)
              → nat_lt (at + PORTION) (length list) ≡ true
          which (inl low) = grind (arith, nat_tests, low)
          which (inr high) =
              absurd (false≢true (ap (any_sent test) (sym (drop_all (at + PORTION) list high)) ∙ rest))

      next : any_sent test (drop (at + PORTION) list) ≡ true → 1 ≤ weigh w (rest_if node tx at true)
      next rest =
          omega (
            arith,
            ap one_if
                (true_and (node == tx.tc) (same_tx tx tx && any_sent test (drop (at + PORTION) list))
                (subst (λ k. (k == tx.tc) ≡ true) (sym home) (eqb-self tx.tc))
                (true_and (same_tx tx tx) (any_sent test (drop (at + PORTION) list)) (same_tx-self tx) rest)),
          )

      by : (any_sent test (take PORTION (drop at list)) ≡ true)
          ⊎ (any_sent test (drop PORTION (drop at list)) ≡ true)
          → 1 ≤ weigh w (take PORTION (drop at list) ++ rest_if node tx at (nat_lt (at + PORTION) (length list)))
      by (inl near) =
          omega (
            arith,
            sent_leads list (take PORTION (drop at list)) near,
            weigh_append w (take PORTION (drop at list))
                (rest_if node tx at (nat_lt (at + PORTION) (length list))),
          )
      by (inr far) =
          omega (
            arith,
            next (here far),
            weigh_append w (take PORTION (drop at list)) (rest_if node tx at true),
            ap (λ b. weigh w (take PORTION (drop at list) ++ rest_if node tx at b)) (more (here far)),
          )

  -- the signal to go on leads to no more than the part that is sent then
  pub next_leads : (node : ℕ) (list : List Outgoing) (at : ℕ) (to : Place) → node ≡ tx.tc
      → lead tx test list to (Host (Continue (work.Transaction tx) at))
      ≤ in_sends (lead tx test list) (part_effects node tx list at).sends
  next_leads node list at to home = by (any_sent test (drop at list)) refl
    where
      none : (a b c : Bool) → c ≡ false → one_if (a && (b && c)) ≡ 0
      none true true c off = ap one_if off
      none true false c off = refl
      none false b c off = refl

      by : (b : Bool) → any_sent test (drop at list) ≡ b
          → lead tx test list to (Host (Continue (work.Transaction tx) at))
          ≤ in_sends (lead tx test list) (part_effects node tx list at).sends
      by true is =
          omega (
            arith,
            one_most (leads tx test list to (Host (Continue (work.Transaction tx) at))),
            part_leads node list at home is,
          )
      by false off =
          omega (
            arith,
            none (is_tc to.block && (to.node == tx.tc)) (same_tx tx tx) (any_sent test (drop at list)) off,
          )

  -- behind the end of the list there is none
  pub late_leads : (list : List Outgoing) (at : ℕ) (to : Place) (other : TxId) → length list ≤ at
      → lead tx test list to (Host (Continue (work.Transaction other) at)) ≡ 0
  late_leads list at to other high = none (is_tc to.block && (to.node == tx.tc)) (same_tx other tx)
    where
      off : any_sent test (drop at list) ≡ false
      off = ap (any_sent test) (drop_all at list high)

      none : (a b : Bool) → one_if (a && (b && any_sent test (drop at list))) ≡ 0
      none true true = ap one_if off
      none true false = refl
      none false b = refl
