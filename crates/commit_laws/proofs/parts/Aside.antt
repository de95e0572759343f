-- The parts of a transaction's operations at an event, in the current view, of a host that neither coordinates it
-- nor runs rows.
use Rattle.std.proofs.Common.{◌≡◌, ◌≢◌, ◌⊎◌, ◌∙◌, ℕ, false, List, ◌∷◌, refl, sym, ap, subst, inl, inr}
use Rattle.std.specs.Prelude.{None}
use Rattle.run_theory.proofs.Runs.{log_of-other}
use Rattle.run_theory.specs.Lists.{Each, IsIn}
use Rattle.sig_core.specs.declared.member.Member.{Member}
use Rattle.sig_core.specs.declared.member.TxId.{TxId}
use Rattle.sig_core.specs.declared.outs.Outgoing.{Outgoing}
use Rattle.tc_block.specs.declared.transaction.Transaction.{Transaction}
use Rattle.node_views.specs.declared.host_body.HostBody as node
use Rattle.world_core.specs.Start.{Start, made}
use Rattle.world_core.specs.Steps.{Addressed, HostStep}
use Rattle.world_views.specs.Hosts.{started}
use Rattle.world_views.specs.Machine.{machine, step_after}
use Rattle.run_laws.specs.Tokens.{is_token}
use Rattle.moment_laws.specs.Moments.{IsMoment, current, logs_of}
use Rattle.moment_laws.specs.Places.{ldm_of, tc_of}
use Rattle.moment_laws.proofs.MomentHosts.{ldm_started}
use Rattle.moment_laws.proofs.MomentTurns.{host_low}
use Rattle.outcome_laws.proofs.coordinators.Lists.{none_passes}
use Rattle.outcome_laws.specs.Counts.{coordinator_member, count_sent}
use Rattle.request_laws.specs.Blocks.{coordinator_after}
use Rattle.request_laws.specs.Drives.{asked_in}
use Rattle.request_laws.specs.Ways.{entry_of}
use Rattle.request_laws.proofs.routes.Hosts.{IsBeside, PartHost, beside_sends, coordinates, is_beside, keeps_rows}
use Rattle.request_laws.proofs.routes.Hosts.{part_host}
use Rattle.request_laws.proofs.tokens.CoordinatorEvents.{foreign_none}
use Rattle.request_laws.proofs.tokens.OtherBlocks.{aside_none}
use Rattle.request_laws.proofs.tokens.HostsApart.{ldm_no_tc}
use Rattle.commit_laws.specs.Parts.{IsHale}
use Rattle.commit_laws.specs.Together.{Follows}
use Rattle.commit_laws.specs.Transit.{AreInTransit, Takes}
use Rattle.commit_laws.proofs.fates.Going.{hale_made}
use Rattle.commit_laws.proofs.parts.Own.{PartsOf, bodies_sent, goes_on_so, hale_was, sent_now}

module _ (start : Start) (all : ℕ → List HostStep) (e : HostStep) (es : List HostStep)
    (follows : Follows start all e es)
    (xs between : List Addressed) (transit : AreInTransit start es xs) (takes : Takes start e xs between)
    (same : current start (logs_of start (e ∷ es)) ≡ current start (logs_of start es)) (tx : TxId) (u : Transaction)
    (hale : IsHale start (logs_of start (e ∷ es)) tx u) (off : e.host ≢ tc_of start (coordinator_member tx))
  where
    abbrev old : ℕ → List HostStep
    old = logs_of start es

    abbrev new : ℕ → List HostStep
    new = logs_of start (e ∷ es)

    abbrev member : Member
    member = coordinator_member tx

    abbrev moment : IsMoment start all (e ∷ es)
    moment = follows.moment

    there : IsIn member (made start)
    there = hale_made start all (e ∷ es) moment tx u hale

    own_same : new (tc_of start member) ≡ old (tc_of start member)
    own_same = log_of-other (machine start) e es (tc_of start member) off

    -- it is as it was
    pub hale_same : IsHale start (logs_of start es) tx u
    hale_same =
        hale_was start all e es follows xs between transit takes same tx u u hale there
        (ap (λ log. entry_of (coordinator_after start member log) tx) (sym own_same) ∙ hale.there) hale.undecided
        (by hale.fresh)
      where
        by : (u.asked ≡ None) ⊎ (asked_in start member tx (new (tc_of start member)) ≡ (current start new).number)
            → (u.asked ≡ None) ⊎ (asked_in start member tx (old (tc_of start member)) ≡ (current start old).number)
        by (inl none) = inl none
        by (inr at) = inr (ap (asked_in start member tx) (sym own_same) ∙ (at ∙ ap (λ v. v.number) same))

    -- where the host runs no rows either
    module _ (apart : (m : Member) → IsIn m (made start) → e.host ≢ ldm_of start m) where
      none_out : count_sent (is_token tx) (step_after start e.host (old e.host) e).effects.sends ≡ 0
          → Each (λ (y : Addressed). is_token tx y.signal.body ≡ false)
          (sent_now start all e es follows xs between transit takes same tx)
      none_out none =
          bodies_sent start e.host (old e.host) e (λ b. is_token tx b ≡ false)
          (none_passes (λ (o : Outgoing). is_token tx o.body) (step_after start e.host (old e.host) e).effects.sends
          none)

      stays_so : Each (λ (y : Addressed). is_token tx y.signal.body ≡ false)
          (sent_now start all e es follows xs between transit takes same tx)
          → PartsOf start all e es follows xs between transit takes same tx u
      stays_so none =
          goes_on_so start all e es follows xs between transit takes same tx
          (λ m among. log_of-other (machine start) e es (ldm_of start m) (apart m among)) u u hale_same hale.full refl
          refl
          none

    beside_rows : IsBeside (started start e.host).parts → (m : Member) → IsIn m (made start) → e.host ≢ ldm_of start m
    beside_rows beside m among is =
        subst (λ (host : node.HostBody). IsBeside host.parts) (ldm_started start follows.moment.cluster.nobody m among)
        (subst (λ h. IsBeside (started start h).parts) is beside)

    -- rows of a member are to be seen to apart
    pub aside_parts : ((me : Member) → IsIn me (made start) → e.host ≡ ldm_of start me
        → PartsOf start all e es follows xs between transit takes same tx u)
        → PartsOf start all e es follows xs between transit takes same tx u
    aside_parts by_rows = by (part_host start follows.moment.cluster.nobody e.host (host_low start all e es moment))
      where
        by : PartHost start e.host → PartsOf start all e es follows xs between transit takes same tx u
        by (keeps_rows me among at) = by_rows me among at
        by (coordinates me among at) =
            stays_so (λ m there is. ldm_no_tc start follows.moment.cluster.nobody m me there among (sym is ∙ at))
            (none_out (λ m there is. ldm_no_tc start follows.moment.cluster.nobody m me there among (sym is ∙ at))
            (subst (λ k. count_sent (is_token tx) (step_after start k (old k) e).effects.sends ≡ 0) (sym at)
            (foreign_none start me among tx (λ is. off (at ∙ ap (tc_of start) (sym is))) follows.moment.cluster.nobody
            (old (tc_of start me)) e)))
        by (is_beside beside) =
            stays_so (beside_rows beside)
            (bodies_sent start e.host (old e.host) e (λ b. is_token tx b ≡ false)
            (aside_none tx (step_after start e.host (old e.host) e).effects.sends
            (beside_sends start e.host beside (old e.host) e)))
