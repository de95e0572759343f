-- A step of a host, where no commit or abort of the transaction is wished for.
use Rattle.std.proofs.Common.{◌≡◌, ◌⊎◌, true, false, List, refl, sym, ap, ◌∙◌, subst, inl}
use Rattle.std.proofs.lemmas.Bool.{or_left, or_right}
use Rattle.std.specs.Prelude.{◌&&◌, Some}
use Rattle.sig_core.specs.declared.member.TxId.{TxId}
use Rattle.sig_core.specs.declared.outs.Outgoing.{Outgoing}
use Rattle.sig_core.specs.declared.place.BlockId.TheVariants as block
use Rattle.sig_core.specs.declared.signal.Signal.{Signal}
use Rattle.sig_core.specs.Step.{Effects, Step, nothing}
use Rattle.lqh_block.specs.Lqh.{lqh_table}
use Rattle.node_core.proofs.HostCases.{BlockCase, api_takes, block_case, dih_takes, none_takes, rows_take, tc_takes}
use Rattle.node_core.specs.Blocks.{api_of, dih_of, lqh_of, tc_of}
use Rattle.node_core.specs.declared.host.Host.{Host}
use Rattle.node_core.specs.Dih.{dih_table}
use Rattle.node_core.specs.Row.{row}
use Rattle.tc_block.specs.declared.transaction.Transaction.{Transaction}
use Rattle.tc_block.specs.State.{TcState}
use Rattle.tc_block.specs.Tc.{tc_row}
use Rattle.host_laws.proofs.api.Moves.{is_api_kind}
use Rattle.host_laws.proofs.hosts.DihSends.{dih_kinds}
use Rattle.host_laws.proofs.rows.Sends.{lqh_kinds}
use Rattle.host_laws.proofs.hosts.SendKinds.{is_dih_kind, is_lqh_kind, none_of}
use Rattle.host_laws.proofs.api.Wishes.{is_tc, sends_of}
use Rattle.host_laws.specs.Live.{of_live}
use Rattle.command_laws.proofs.operations.EarlySteps.{GoesPast, IsOpenNow, IsPastNow, Leaves, StaysClean, bad_tc}
use Rattle.command_laws.proofs.operations.EarlySteps.{clean_goes, fair_loss, is_bad, is_loss, is_wish_to, no_loss}
use Rattle.command_laws.proofs.operations.EarlySteps.{past_goes, tc_no_ref, wish_of}
use Rattle.command_laws.proofs.hosts.HostSends.{IsNotOfApi, api_silent, not_of_api, not_of_dih, not_of_lqh}
use Rattle.command_laws.proofs.hosts.BlockSteps.{tc_host}
use Rattle.command_laws.proofs.ends.FairRows.{is_fair, lqh_fair}
use Rattle.command_laws.proofs.hosts.TcPath.{IsSound, tc_goes}

module _ (tx : TxId) where
  loss_api : IsNotOfApi (is_loss tx)
  loss_api = record {
    kinds = λ to b e. no_loss tx to b (or_left (is_api_kind b) (is_dih_kind b) e);
    begins = λ name node. refl;
  }

  module _ (g : Host) (x : Signal) (sound : IsSound tx (tc_of g)) (wish : is_wish_to tx x.to x.body ≡ false)
      (Home : Type 0) (home_of : (t : Transaction) → of_live tx (tc_of g).live ≡ Some t → Home) where
    no_wish : x.to.block ≡ block.Tc → wish_of tx x.body ≡ false
    no_wish at = ap (λ of. is_tc of && wish_of tx x.body) (sym at) ∙ wish

    pub host_past : (Home → IsPastNow tx (tc_of g)) → GoesPast tx Home (tc_of (row g x).state) (row g x).effects.sends
    host_past was =
        tc_host (λ (step : Step TcState). GoesPast tx Home step.state step.effects.sends) g x
        (λ runs at. past_goes tx (tc_of g) x.body sound (no_wish at) (tc_row (tc_of g) x)
        (tc_no_ref (tc_of g) x.body) Home home_of was (tc_goes tx (tc_of g) x.body sound))
        (λ effects none off. record { good = none (is_bad tx) (bad_tc tx); past = was })

    abbrev pub CleanOr : TcState → List Outgoing → Type 0
    CleanOr s sends = StaysClean tx Home s sends ⊎ Leaves tx Home s sends

    -- the step leaves all clean, or the transaction is past it, at its home
    pub host_clean : is_fair tx x.body ≡ true → (Home → IsOpenNow tx (tc_of g))
        → CleanOr (tc_of (row g x).state) (row g x).effects.sends
    host_clean fair was = go (row g x) (block_case g x)
      where
        rests : (t : Step Host) (f : Effects) → tc_of t.state ≡ tc_of g → t.effects ≡ f
            → sends_of (is_bad tx) f.sends ≡ 0 → sends_of (is_loss tx) f.sends ≡ 0
            → CleanOr (tc_of t.state) t.effects.sends
        rests t f same effects bad loss = inl (record {
          good = ap (λ (e : Effects). sends_of (is_bad tx) e.sends) effects ∙ bad;
          fair = ap (λ (e : Effects). sends_of (is_loss tx) e.sends) effects ∙ loss;
          is_open = λ at. subst (IsOpenNow tx) (sym same) (was at);
        })

        go : (t : Step Host) → BlockCase g x t → CleanOr (tc_of t.state) t.effects.sends
        go t (tc_takes step) =
            subst (λ (s : TcState). CleanOr s t.effects.sends) (sym step.state)
            (subst (λ (f : Effects). CleanOr (tc_row (tc_of g) x).state f.sends) (sym step.effects)
            (clean_goes tx (tc_of g) x.body sound (no_wish step.at) (tc_row (tc_of g) x)
            (tc_no_ref (tc_of g) x.body) Home home_of fair was (tc_goes tx (tc_of g) x.body sound)))
        go t (api_takes step) = rests t _ step.tc step.effects
            (api_silent (is_bad tx) (not_of_api (is_bad tx) (bad_tc tx)) (api_of g) x.body)
            (api_silent (is_loss tx) loss_api (api_of g) x.body)
        go t (dih_takes step) =
            rests t _ step.tc step.effects (none_of is_dih_kind (is_bad tx) (not_of_dih (is_bad tx) (bad_tc tx))
            (dih_table (dih_of g) x.body).effects.sends (dih_kinds (dih_of g) x.body))
            (none_of is_dih_kind (is_loss tx) (λ to b e. no_loss tx to b (or_right (is_api_kind b) (is_dih_kind b) e))
            (dih_table (dih_of g) x.body).effects.sends (dih_kinds (dih_of g) x.body))
        go t (rows_take step) =
            rests t _ step.tc step.effects (none_of is_lqh_kind (is_bad tx) (not_of_lqh (is_bad tx) (bad_tc tx))
            (lqh_table (lqh_of g) x.body).effects.sends (lqh_kinds (lqh_of g) x.body))
            (none_of (is_fair tx) (is_loss tx) (fair_loss tx) (lqh_table (lqh_of g) x.body).effects.sends
            (lqh_fair tx (lqh_of g) x.body fair))
        go t (none_takes step) = rests t nothing (ap (λ (u : Step Host). tc_of u.state) step.is)
            (ap (λ (u : Step Host). u.effects) step.is) refl refl
