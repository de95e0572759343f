-- What a step of a host does to the parts of a transaction's operations.
use Rattle.std.proofs.Common.{◌≡◌, ◌≢◌, ℕ, ◌+◌, ◌≤◌, true, List, [], ap, sym, ◌∙◌, arith}
use Rattle.std.specs.List.{list_any}
use Rattle.sig_core.specs.declared.member.TxId.{TxId}
use Rattle.sig_core.specs.declared.place.BlockId.TheVariants as block
use Rattle.sig_core.specs.declared.signal.Signal.{Signal}
use Rattle.sig_core.specs.Same.{same_tx}
use Rattle.sig_core.specs.Step.{Effects, Step}
use Rattle.api_block.specs.Api.{api_table}
use Rattle.lqh_block.specs.State.{LqhState}
use Rattle.tc_block.specs.State.{TcState}
use Rattle.tc_block.specs.Tc.{tc_row}
use Rattle.node_core.proofs.HostCases.{BlockCase, api_takes, block_case, dih_takes, none_takes, rows_take, tc_takes}
use Rattle.node_core.specs.Blocks.{api_of, dih_of, has_tc, lqh_of, tc_of}
use Rattle.node_core.specs.declared.host.Host.{Host}
use Rattle.node_core.specs.Dih.{dih_table}
use Rattle.node_core.specs.Row.{row}
use Rattle.host_laws.specs.Ways.{back_by, put_ways, tc_sends}
use Rattle.run_theory.specs.Counts.{one_if, tally}
use Rattle.host_laws.specs.Live.{of_live}
use Rattle.run_laws.specs.Live.{of_host}
use Rattle.run_laws.specs.Tokens.{budget_by, is_token, waiting_in}
use Rattle.run_laws.proofs.tokens.Rows.{is_own, lqh_tokens, tokens_out}
use Rattle.run_laws.proofs.hosts.TcSaid.{idle_silent, tc_silent, tc_speaks}
use Rattle.run_laws.proofs.hosts.TcSound.{IsSoundHost}
use Rattle.run_laws.proofs.tokens.Still.{api_still, dih_still, still_out}
use Rattle.run_laws.proofs.tokens.Coordinator.{tc_tokens}

module _ (tx : TxId) where
  -- At the host of its coordinator, whatever else of it there is, there are no more than there may be then; elsewhere
  -- no more
  -- than waited and came.
  pub record Kept (bs : List TxId) (s : Host) (x : Signal) : Type 0 where
    pub home : (m : ℕ)
        → m + (waiting_in tx s + one_if (is_token tx x.body)) ≤ budget_by (list_any (same_tx tx) bs) (of_host tx s)
        → m + (waiting_in tx (row s x).state + tokens_out tx (row s x).effects.sends)
        ≤ budget_by (list_any (same_tx tx) (put_ways back_by (tc_sends s x) bs)) (of_host tx (row s x).state)
    pub away : (has_tc s ≡ true → tx.tc ≢ (tc_of s).node)
        → waiting_in tx (row s x).state + tokens_out tx (row s x).effects.sends
        ≤ waiting_in tx s + one_if (is_token tx x.body)

  module _ (bs : List TxId) (s : Host) (x : Signal) (sound : IsSoundHost s bs) where
    -- its coordinator rests, and the others send no more than waited and came
    few_kept : tc_of (row s x).state ≡ tc_of s → tc_sends s x ≡ []
        → waiting_in tx (row s x).state + tokens_out tx (row s x).effects.sends
        ≤ waiting_in tx s + one_if (is_token tx x.body) → Kept bs s x
    few_kept same silent few =
        let stays : budget_by (list_any (same_tx tx) (put_ways back_by (tc_sends s x) bs)) (of_host tx (row s x).state)
        ≡ budget_by (list_any (same_tx tx) bs) (of_host tx s) =
        ap (λ sends. budget_by (list_any (same_tx tx) (put_ways back_by sends bs)) (of_host tx (row s x).state)) silent
        ∙ ap (λ (t : TcState). budget_by (list_any (same_tx tx) bs) (of_live tx t.live)) same in
        record { home = λ m low. omega (arith, low, few, stays); away = λ off. few }

    waits_in : {l m : LqhState} → l ≡ m → tally (is_own tx) l.waiting ≡ tally (is_own tx) m.waiting
    waits_in same = ap (λ (l : LqhState). tally (is_own tx) l.waiting) same

    kept_by : BlockCase s x (row s x) → Kept bs s x
    kept_by (api_takes step) =
        few_kept step.tc (tc_silent s x (λ at. let both : block.Api ≡ block.Tc = sym step.at ∙ at in cc))
        (omega (
          arith,
          waits_in step.rows,
          ap (λ (f : Effects). tokens_out tx f.sends) step.effects,
          still_out tx
              (api_table (api_of s) x.body).effects.sends (api_still tx (api_of s) x.body),
        ))
    kept_by (tc_takes step) =
        let turn = tc_tokens tx (tc_of s) bs sound.tc x.body in
        let sent = ap (λ (f : Effects). tokens_out tx f.sends) step.effects in
        let now : budget_by (list_any (same_tx tx) (put_ways back_by (tc_sends s x) bs)) (of_host tx (row s x).state)
        ≡ budget_by (list_any (same_tx tx) (put_ways back_by (tc_row (tc_of s) x).effects.sends bs))
        (of_live tx (tc_row (tc_of s) x).state.live) =
        ap (λ sends. budget_by (list_any (same_tx tx) (put_ways back_by sends bs)) (of_host tx (row s x).state))
        (tc_speaks s x step.runs step.at)
        ∙ ap (λ (t : TcState). budget_by (list_any (same_tx tx)
        (put_ways back_by (tc_row (tc_of s) x).effects.sends bs)) (of_live tx t.live)) step.state in
        record {
          home = λ m low. omega (
            arith,
            now,
            sent,
            waits_in step.rows,
            turn.home (m + waiting_in tx s)
                (omega (arith, low)),
          );
          away = λ off. omega (arith, sent, waits_in step.rows, turn.away (off step.runs));
        }
    kept_by (dih_takes step) =
        few_kept step.tc (tc_silent s x (λ at. let both : block.Dih ≡ block.Tc = sym step.at ∙ at in cc))
        (omega (
          arith,
          waits_in step.rows,
          ap (λ (f : Effects). tokens_out tx f.sends) step.effects,
          still_out tx
              (dih_table (dih_of s) x.body).effects.sends (dih_still tx (dih_of s) x.body),
        ))
    kept_by (rows_take step) =
        few_kept step.tc (tc_silent s x (λ at. let both : block.Lqh ≡ block.Tc = sym step.at ∙ at in cc))
        (omega (
          arith,
          waits_in step.state,
          ap (λ (f : Effects). tokens_out tx f.sends) step.effects,
          lqh_tokens tx
              (lqh_of s) x.body sound.asks,
        ))
    kept_by (none_takes step) =
        few_kept (ap (λ (u : Step Host). tc_of u.state) step.is) (idle_silent s x step.runs)
        (omega (
          arith,
          ap (λ (u : Step Host). waiting_in tx u.state) step.is,
          ap
              (λ (u : Step Host). tokens_out tx u.effects.sends) step.is,
        ))

    pub host_kept : Kept bs s x
    host_kept = kept_by (block_case s x)
