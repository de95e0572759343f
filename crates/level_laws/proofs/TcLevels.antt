-- A coordinator doesn't look at epochs.
use Rattle.std.proofs.Common.{◌≡◌, ◌∙◌, ◌-◌, ◌^◌, ◌==◌, ◌||◌, ℕ, Bool, true, false, Option, None, Some, map, refl, ap}
use Rattle.std.proofs.lemmas.List.{length-map}
use Rattle.std.proofs.lemmas.Map.Made.{keys_of-map_values}
use Rattle.std.proofs.lemmas.Option.{slice_get-map}
use Rattle.std.specs.Map.{values_of}
use Rattle.std.specs.Option.{option_map}
use Rattle.std.specs.Prelude.{is_some, nat_le, position, slice_get}
use Rattle.sig_core.specs.declared.member.TxId.{TxId}
use Rattle.sig_core.specs.declared.signal.Body.{Body}
use Rattle.sig_core.specs.declared.signal.Body.TheVariants.{Host, Client, Chain, Epoch}
use Rattle.sig_core.specs.declared.signal.chain.ChainSignal.TheVariants.{LqhKeyConf, LqhKeyRef, Committed, Completed}
use Rattle.sig_core.specs.declared.signal.chain.ChainSignal.TheVariants.{Aborted}
use Rattle.sig_core.specs.declared.signal.client.ClientSignal.TheVariants.{TcBeginReq, TcBeginConf, TcKeyReq}
use Rattle.sig_core.specs.declared.signal.client.ClientSignal.TheVariants.{TcCommitReq, TcRollbackReq, TcWaitReq}
use Rattle.sig_core.specs.declared.signal.client.ClientSignal.TheVariants.{LqhWaitConf}
use Rattle.sig_core.specs.declared.signal.epoch.EpochSignal.TheVariants.{DiVerifyConf}
use Rattle.sig_core.specs.declared.signal.host.HostSignal.TheVariants.{Continue}
use Rattle.sig_core.specs.declared.signal.host.Work.TheVariants as work
use Rattle.sig_core.specs.Place.{client}
use Rattle.sig_core.specs.Same.{same_tx}
use Rattle.sig_core.specs.Step.{Step, sending}
use Rattle.tc_block.specs.Live.{place_in, step_of, step_place, step_value, stepped, turn_of, turn_place, turn_value}
use Rattle.tc_block.specs.Live.{turned, turned_if, without}
use Rattle.tc_block.specs.Operate.{fresh}
use Rattle.tc_block.specs.State.{TcState, with_live}
use Rattle.tc_block.specs.Tc.{begin_if, begin_row, begun, is_full, next_tx, pass_if, pass_row, tc_table}
use Rattle.tc_block.specs.Turn.{Turn}
use Rattle.tc_block.specs.declared.tc.TheConstants.{TRANSACTIONS}
use Rattle.tc_block.specs.declared.transaction.Transaction.{Transaction}
use Rattle.level_laws.specs.Laws.{CoordinatorsAreLevel}
use Rattle.level_laws.specs.Levels.{body_at, effects_at, live_at, step_at, tc_at, transaction_at}
use Rattle.level_laws.proofs.LevelLists.{insert_level, set_level, values_level}
use Rattle.level_laws.proofs.MappedLists.{remove-map}
use Rattle.level_laws.proofs.TcSends.{go_on_level}
use Rattle.level_laws.proofs.TcTurns.{aborted_level, answer_level, commit_level, committed_level, completed_level}
use Rattle.level_laws.proofs.TcTurns.{operate_level, refuse_level, rollback_level, taken_at, turn_at, verify_level}
use Rattle.level_laws.proofs.TcTurns.{wait_level}

module _ (epoch : ℕ) (s : TcState) where
  -- a transaction is found where it was, and is the one that it was
  place_level : (tx : TxId) → place_in (tc_at epoch s) tx ≡ place_in s tx
  place_level tx = ap (position (same_tx tx)) (keys_of-map_values (transaction_at epoch) s.live)

  value_level : (at : ℕ)
      → slice_get (values_of (map (live_at epoch) s.live)) at
      ≡ option_map (transaction_at epoch) (slice_get (values_of s.live) at)
  value_level at =
      ap (λ ts. slice_get ts at) (values_level (transaction_at epoch) s.live)
      ∙ slice_get-map (transaction_at epoch) (values_of s.live) at

  -- it takes a step, or a turn
  stepped_level : (at : ℕ) (step : Step Transaction)
      → stepped (tc_at epoch s) at (taken_at epoch step) ≡ step_at (tc_at epoch) epoch (stepped s at step)
  stepped_level at step =
      ap (λ live. record { state = with_live s live; effects = effects_at epoch step.effects })
      (set_level (transaction_at epoch) s.live at step.state)

  turned_if_level : (at : ℕ) (turn : Turn) (b : Bool)
      → turned_if (tc_at epoch s) at (turn_at epoch turn) b ≡ step_at (tc_at epoch) epoch (turned_if s at turn b)
  unfolding without
  turned_if_level at turn true =
      ap (λ live. record { state = with_live s live; effects = effects_at epoch turn.step.effects })
      (remove-map (live_at epoch) s.live at)
  turned_if_level at turn false = stepped_level at turn.step

  module _ (levelled row : Transaction → Step Transaction)
      (same : (t : Transaction) → levelled (transaction_at epoch t) ≡ taken_at epoch (row t))
    where
      step_value_level : (at : ℕ) (t : Option Transaction)
          → step_value (tc_at epoch s) levelled at (option_map (transaction_at epoch) t)
          ≡ step_at (tc_at epoch) epoch (step_value s row at t)
      step_value_level at None = refl
      step_value_level at (Some t) = ap (stepped (tc_at epoch s) at) (same t) ∙ stepped_level at (row t)

      step_place_level : (at : Option ℕ)
          → step_place (tc_at epoch s) levelled at ≡ step_at (tc_at epoch) epoch (step_place s row at)
      step_place_level None = refl
      step_place_level (Some at) =
          ap (step_value (tc_at epoch s) levelled at) (value_level at)
          ∙ step_value_level at (slice_get (values_of s.live) at)

      step_level : (tx : TxId) → step_of (tc_at epoch s) tx levelled ≡ step_at (tc_at epoch) epoch (step_of s tx row)
      step_level tx =
          ap (step_place (tc_at epoch s) levelled) (place_level tx) ∙ step_place_level (place_in s tx)

  module _ (levelled row : Transaction → Turn)
      (same : (t : Transaction) → levelled (transaction_at epoch t) ≡ turn_at epoch (row t))
    where
      turn_value_level : (at : ℕ) (t : Option Transaction)
          → turn_value (tc_at epoch s) levelled at (option_map (transaction_at epoch) t)
          ≡ step_at (tc_at epoch) epoch (turn_value s row at t)
      turn_value_level at None = refl
      turn_value_level at (Some t) =
          ap (turned (tc_at epoch s) at) (same t) ∙ turned_if_level at (row t) (row t).over

      turn_place_level : (at : Option ℕ)
          → turn_place (tc_at epoch s) levelled at ≡ step_at (tc_at epoch) epoch (turn_place s row at)
      turn_place_level None = refl
      turn_place_level (Some at) =
          ap (turn_value (tc_at epoch s) levelled at) (value_level at)
          ∙ turn_value_level at (slice_get (values_of s.live) at)

      turn_level : (tx : TxId) → turn_of (tc_at epoch s) tx levelled ≡ step_at (tc_at epoch) epoch (turn_of s tx row)
      turn_level tx =
          ap (turn_place (tc_at epoch s) levelled) (place_level tx) ∙ turn_place_level (place_in s tx)

  -- a transaction begins
  begun_level : begun (tc_at epoch s) ≡ tc_at epoch (begun s)
  begun_level =
      ap (λ live. with_live (begun s) live) (insert_level (transaction_at epoch) same_tx s.live (next_tx s) fresh)

  begin_if_level : (name : Option ℕ) (b : Bool)
      → begin_if (tc_at epoch s) name b ≡ step_at (tc_at epoch) epoch (begin_if s name b)
  begin_if_level name true = refl
  begin_if_level name false =
      ap (λ state. sending state client (Client (TcBeginConf name (next_tx s)))) begun_level

  begin_level : (name : Option ℕ)
      → begin_row (tc_at epoch s) name ≡ step_at (tc_at epoch) epoch (begin_row s name)
  unfolding begin_row
  begin_level name =
      ap (λ many. begin_if (tc_at epoch s) name (nat_le TRANSACTIONS many || s.next_seq == 2 ^ 64 - 1))
      (length-map s.live (live_at epoch))
      ∙ begin_if_level name (is_full s)

  -- who holds a lock is passed on
  pass_if_level : (tx ahead : TxId) (b : Bool)
      → pass_if (tc_at epoch s) tx ahead b ≡ step_at (tc_at epoch) epoch (pass_if s tx ahead b)
  pass_if_level tx ahead true = refl
  pass_if_level tx ahead false = refl

  pass_level : (tx ahead : TxId)
      → pass_row (tc_at epoch s) tx ahead ≡ step_at (tc_at epoch) epoch (pass_row s tx ahead)
  unfolding pass_row
  pass_level tx ahead =
      ap (λ place. pass_if (tc_at epoch s) tx ahead (is_some place)) (place_level tx)
      ∙ pass_if_level tx ahead (is_some (place_in s tx))

  -- whatever a signal says
  table_level : (body : Body)
      → tc_table (tc_at epoch s) (body_at epoch body) ≡ step_at (tc_at epoch) epoch (tc_table s body)
  table_level (Host (Continue (work.Transaction tx) at)) =
      step_level _ _ (λ t. go_on_level epoch tx s.node s.layout t at) tx
  table_level (Client (TcBeginReq name)) = begin_level name
  table_level (Client (TcKeyReq tx op)) = step_level _ _ (λ t. operate_level epoch s.layout tx t op) tx
  table_level (Client (TcCommitReq tx)) = step_level _ _ (λ t. verify_level epoch s.node tx t) tx
  table_level (Client (TcRollbackReq tx)) = turn_level _ _ (λ t. rollback_level epoch s.node s.layout tx t) tx
  table_level (Client (TcWaitReq tx)) = step_level _ _ (λ t. wait_level epoch tx t) tx
  table_level (Client (LqhWaitConf tx ahead)) = pass_level tx ahead
  table_level (Chain (LqhKeyConf tx key answer)) =
      step_level _ _ (λ t. answer_level epoch s.layout tx t key answer) tx
  table_level (Chain (LqhKeyRef tx key cause)) =
      turn_level _ _ (λ t. refuse_level epoch s.node s.layout tx t key cause) tx
  table_level (Chain (Committed tx key)) = turn_level _ _ (λ t. committed_level epoch s.node s.layout tx t) tx
  table_level (Chain (Completed tx key)) = turn_level _ _ (λ t. completed_level epoch s.node tx t) tx
  table_level (Chain (Aborted tx key)) = turn_level _ _ (λ t. aborted_level epoch s.node tx t) tx
  table_level (Epoch (DiVerifyConf tx other)) =
      turn_level _ _ (λ t. commit_level epoch s.node s.layout tx t other) tx
  table_level body = refl

pub coordinators_level : CoordinatorsAreLevel
coordinators_level epoch s x = table_level epoch s x.body
