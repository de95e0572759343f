-- How much of what a transaction that completes awaits its signals stand for, and those of the rows of a node.
use Rattle.std.proofs.Common.{◌≡◌, ◌≤◌, ◌+◌, ℕ, Bool, true, false, List, [], ◌∷◌, ◌++◌, length, take, drop, refl, sym}
use Rattle.std.proofs.Common.{ap, ◌∙◌, arith}
use Rattle.std.proofs.lemmas.Bool.Decides.{nat_tests}
use Rattle.std.proofs.lemmas.List.{drop-drop, drop_all, take-append-drop}
use Rattle.std.specs.List.{flat_map}
use Rattle.std.specs.Prelude.{◌==◌, ◌&&◌, if◌then◌else◌, nat_lt}
use Rattle.run_theory.specs.Counts.{one_if}
use Rattle.sig_core.proofs.Keys.{same_tx-self}
use Rattle.sig_core.proofs.TxLemmas.{same_tx-is}
use Rattle.sig_core.specs.declared.member.TxId.{TxId}
use Rattle.sig_core.specs.declared.outs.Outgoing.{Outgoing}
use Rattle.sig_core.specs.declared.place.BlockId.TheVariants as block
use Rattle.sig_core.specs.declared.place.Place.{Place}
use Rattle.sig_core.specs.declared.portion.TheConstants.{PORTION}
use Rattle.sig_core.specs.declared.signal.Body.{Body}
use Rattle.sig_core.specs.declared.signal.Body.TheVariants.{Chain, Host}
use Rattle.sig_core.specs.declared.signal.chain.ChainSignal.TheVariants.{Complete, Completed}
use Rattle.sig_core.specs.declared.signal.host.HostSignal.TheVariants.{Continue}
use Rattle.sig_core.specs.declared.signal.host.Work.TheVariants as work
use Rattle.sig_core.specs.Same.{same_tx}
use Rattle.frag_map.specs.Layout.{Layout}
use Rattle.lqh_block.proofs.LqhForms.{complete_forms}
use Rattle.lqh_block.specs.Lqh.{lqh_table}
use Rattle.lqh_block.specs.State.{LqhState}
use Rattle.tc_block.specs.Complete as complete
use Rattle.tc_block.specs.declared.phase.Phase.TheVariants.{Completing}
use Rattle.tc_block.specs.declared.touched.Touched.{Touched}
use Rattle.tc_block.specs.Part.{part_effects, rest_if}
use Rattle.tc_block.specs.Sends.{complete_if, front_sends, key_sends, phase_sends}
use Rattle.host_laws.proofs.coordinator.Sends.{eqb-self}
use Rattle.host_laws.proofs.api.Wishes.{is_tc}
use Rattle.run_laws.proofs.transit.Weighing.{in_sends, weigh, weigh_append}

-- the signal has a row of the transaction completed
abbrev pub completes : TxId → Body → Bool
completes tx (Chain (Complete other key chain at)) = same_tx other tx
completes tx body = false

-- so many of a list do
abbrev pub completions : TxId → List Outgoing → ℕ
completions tx sends = weigh (λ (o : Outgoing). one_if (completes tx o.body)) sends

-- the place of the transaction's coordinator
abbrev pub is_home : TxId → Place → Bool
is_home tx to = is_tc to.block && (to.node == tx.tc)

-- A completion stands for one answer, and so does that; and the signal by which the coordinator goes on with a list for
-- the completions that are left of it.
abbrev pub stands : TxId → List Outgoing → Place → Body → ℕ
stands tx list to (Chain (Complete other key chain at)) = one_if (same_tx other tx)
stands tx list to (Chain (Completed other key)) = one_if (is_home tx to && same_tx other tx)
stands tx list to (Host (Continue (work.Transaction other) at)) =
    if is_home tx to && same_tx other tx then completions tx (drop at list) else 0
stands tx list to body = 0

module _ (tx : TxId) (list : List Outgoing) where
  one_stands : (to : Place) (body : Body) → one_if (completes tx body) ≤ stands tx list to body
  one_stands to (Chain (Complete other key chain at)) = omega arith
  one_stands to _ = omega arith

  sent_stand : (sends : List Outgoing) → completions tx sends ≤ in_sends (stands tx list) sends
  sent_stand [] = omega arith
  sent_stand (o ∷ sends) = omega (arith, one_stands o.to o.body, sent_stand sends)

  own_home : (node : ℕ) → node ≡ tx.tc → ((node == tx.tc) && same_tx tx tx) ≡ true
  own_home node home =
      ap (λ b. b && same_tx tx tx) (ap (λ n. n == tx.tc) home ∙ eqb-self tx.tc) ∙ same_tx-self tx

  -- a part of the list, and the signal to go on, stand for all that is left of it
  pub part_stands : (node at : ℕ) → node ≡ tx.tc
      → completions tx (drop at list) ≤ in_sends (stands tx list) (part_effects node tx list at).sends
  unfolding part_effects
  part_stands node at home = by (nat_lt (at + PORTION) (length list)) refl
    where
      w : Outgoing → ℕ
      w o = stands tx list o.to o.body

      far : completions tx (drop PORTION (drop at list)) ≡ completions tx (drop (at + PORTION) list)
      far = ap (completions tx) (drop-drop PORTION at list)

      parts : completions tx (drop at list)
          ≡ completions tx (take PORTION (drop at list)) + completions tx (drop PORTION (drop at list))
      parts =
          ap (completions tx) (sym (take-append-drop PORTION (drop at list)))
          ∙ weigh_append (λ (o : Outgoing). one_if (completes tx o.body)) (take PORTION (drop at list))
          (drop PORTION (drop at list))

      rest_is : weigh w (rest_if node tx at true) ≡ completions tx (drop (at + PORTION) list)
      rest_is =
          omega (
            arith,
            ap (λ b. if b then completions tx (drop (at + PORTION) list) else 0) (own_home node home),
          )

      by : (b : Bool) → nat_lt (at + PORTION) (length list) ≡ b
          → completions tx (drop at list) ≤ weigh w (take PORTION (drop at list) ++ rest_if node tx at b)
      by true e =
          omega (
            arith,
            parts,
            far,
            rest_is,
            sent_stand (take PORTION (drop at list)),
            weigh_append w (take PORTION (drop at list)) (rest_if node tx at true),
          )
      by false e =
          let high : length list ≤ at + PORTION = grind (arith, nat_tests, e) in
          omega (
            arith,
            parts,
            far,
            ap (completions tx) (drop_all (at + PORTION) list high),
            sent_stand (take PORTION (drop at list)),
            weigh_append w (take PORTION (drop at list)) (rest_if node tx at false),
          )

  -- the signal to go on stands for no more than what is sent then
  pub next_stands : (node at : ℕ) (to : Place) → node ≡ tx.tc
      → stands tx list to (Host (Continue (work.Transaction tx) at))
      ≤ in_sends (stands tx list) (part_effects node tx list at).sends
  next_stands node at to home = by (is_home tx to && same_tx tx tx)
    where
      by : (b : Bool) → (if b then completions tx (drop at list) else 0)
          ≤ in_sends (stands tx list) (part_effects node tx list at).sends
      by true = part_stands node at home
      by false = omega arith

  -- behind the end of the list it stands for nothing
  pub late_stands : (at : ℕ) (to : Place) (other : TxId) → length list ≤ at
      → stands tx list to (Host (Continue (work.Transaction other) at)) ≡ 0
  late_stands at to other high = by (is_home tx to && same_tx other tx)
    where
      by : (b : Bool) → (if b then completions tx (drop at list) else 0) ≡ 0
      by true = ap (completions tx) (drop_all at list high)
      by false = refl

  -- the rows of a node pass a completion on, or answer it
  pub rows_stand : (s : LqhState) (to : Place) (body : Body) → to.block ≡ block.Lqh
      → stands tx list to body ≤ in_sends (stands tx list) (lqh_table s body).effects.sends
  rows_stand s to (Chain (Complete other key chain at)) here =
      complete_forms (λ step. one_if (same_tx other tx) ≤ in_sends (stands tx list) step.effects.sends) s other key
      chain
      at (record { last = λ first. omega (arith, answered (same_tx other tx) refl); passes = λ is. omega arith })
    where
      answered : (b : Bool) → same_tx other tx ≡ b → one_if b ≤ one_if ((other.tc == tx.tc) && b) + 0
      answered true same =
          omega (
            arith,
            ap (λ c. one_if (c && true)) (ap (λ (v : TxId). v.tc == tx.tc) (same_tx-is other tx same) ∙ eqb-self tx.tc),
          )
      answered false off = omega arith
  rows_stand s to (Chain (Completed other key)) here =
      omega (arith, ap (λ b. one_if ((is_tc b && (to.node == tx.tc)) && same_tx other tx)) here)
  rows_stand s to (Host (Continue (work.Transaction other) at)) here =
      omega (
        arith,
        ap (λ b. if (is_tc b && (to.node == tx.tc)) && same_tx other tx then completions tx (drop at list) else 0) here,
      )
  rows_stand s to _ here = omega arith

-- the list of a transaction that completes has a completion of each key that was written
module _ (layout : Layout) (tx : TxId) where
  complete_count : (u : Touched) (b : Bool) → completions tx (complete_if tx u b) ≡ complete.one_if b
  complete_count u true = omega (arith, ap one_if (same_tx-self tx))
  complete_count u false = refl

  pub list_completions : (epoch n : ℕ) (us : List Touched)
      → completions tx (phase_sends layout tx (Completing epoch n) us) ≡ complete.written_count us
  unfolding phase_sends front_sends key_sends
  list_completions epoch n us = omega (arith, all us)
    where
      all : (us : List Touched) → completions tx (flat_map (key_sends layout tx (Completing epoch n)) us)
          ≡ complete.written_count us
      all [] = refl
      all (u ∷ us) =
          omega (
            arith,
            all us,
            complete_count u u.written,
            weigh_append (λ (o : Outgoing). one_if (completes tx o.body)) (complete_if tx u u.written)
                (flat_map (key_sends layout tx (Completing epoch n)) us),
          )
