-- At an event of the host of a coordinator it speaks truly of its own transactions: who has gone forth there commits,
-- and who is given up aborts.
use Rattle.std.proofs.Common.{◌≡◌, ◌||◌, ◌&&◌, ◌∙◌, not, ℕ, Bool, true, false, List, ◌∷◌, refl, sym, ap, subst}
use Rattle.std.proofs.lemmas.Bool.{true≢false, false_from_ne_true, or_left}
use Rattle.std.specs.Prelude.{Option, None, Some}
use Rattle.run_theory.specs.Lists.{IsIn}
use Rattle.run_theory.proofs.Runs.{log_of-own}
use Rattle.sig_core.specs.declared.member.Member.{Member}
use Rattle.sig_core.specs.declared.member.TxId.{TxId}
use Rattle.sig_core.specs.declared.outs.Outgoing.{Outgoing}
use Rattle.sig_core.specs.declared.signal.Body.{Body}
use Rattle.tc_block.specs.declared.phase.Phase.{Phase}
use Rattle.tc_block.specs.declared.transaction.Transaction.{Transaction}
use Rattle.tc_block.specs.Doom.{is_among}
use Rattle.tc_block.specs.Phases.{is_aborting, is_decided}
use Rattle.tc_views.specs.State.{CoordinatorState}
use Rattle.world_core.specs.Start.{Start, made}
use Rattle.world_core.specs.Steps.{HostStep}
use Rattle.world_views.specs.Machine.{machine, step_after}
use Rattle.moment_laws.specs.Moments.{IsMoment, current, logs_of}
use Rattle.moment_laws.specs.Places.{tc_of}
use Rattle.outcome_laws.specs.Counts.{coordinator_member}
use Rattle.request_laws.specs.Blocks.{coordinator_after}
use Rattle.request_laws.specs.Ways.{entry_of, has_gone, has_gone_back, has_gone_forth, is_at, is_sent, tells_abort}
use Rattle.request_laws.specs.Ways.{tells_commit}
use Rattle.request_laws.proofs.phases.GoneWays.{gone_here, gone_stays, gone_told}
use Rattle.request_laws.proofs.phases.OneWay.{at_aborting, at_decided, goes_one_way}
use Rattle.request_laws.proofs.orphans.ReportsOfOrphans.{coordinated}
use Rattle.commit_laws.specs.Fates.{aborts, commits, fate, is_led_by_full}
use Rattle.commit_laws.specs.Forth.{ForthIsKnown}
use Rattle.commit_laws.specs.Going.{is_back, is_forth, is_lost, own_coordinator}
use Rattle.commit_laws.specs.Traces.{has_trace, is_known}
use Rattle.commit_laws.proofs.fates.Cases.{forth_commits, lost_aborts}
use Rattle.commit_laws.proofs.fates.SpokenCoordinator.{Shows, before_it, behind_it, tells_it}

-- behind an event of the host of a member's coordinator
module _ (start : Start) (all : ℕ → List HostStep) (e : HostStep) (es : List HostStep)
    (moment : IsMoment start all (e ∷ es)) (member : Member) (there : IsIn member (made start))
    (at : e.host ≡ tc_of start member) (full : IsIn member (current start (logs_of start (e ∷ es))).full)
    (forth : ForthIsKnown start (logs_of start (e ∷ es)))
  where
    abbrev new : ℕ → List HostStep
    new = logs_of start (e ∷ es)

    abbrev log : List HostStep
    log = logs_of start es (tc_of start member)

    abbrev sends : List Outgoing
    sends = (step_after start (tc_of start member) log e).effects.sends

    own_log : logs_of start (e ∷ es) (tc_of start member) ≡ e ∷ log
    own_log = log_of-own (machine start) e es (tc_of start member) at

    module _ (tx : TxId) (own : coordinator_member tx ≡ member) where
      led : is_led_by_full start new tx ≡ true
      led = coordinated (current start new).full tx (subst (λ m. IsIn m (current start new).full) (sym own) full)

      -- which way it has gone, by the log behind the event
      way_is : (W : Member → List HostStep → Bool) → W member (e ∷ log) ≡ true
          → W (coordinator_member tx) (new (tc_of start (coordinator_member tx))) ≡ true
      way_is W is =
          subst (λ m. W m (new (tc_of start m)) ≡ true) (sym own)
          (subst (λ (l : List HostStep). W member l ≡ true) (sym own_log) is)

      pub goes_forth : has_gone_forth start member tx (e ∷ log) ≡ true → fate start new tx ≡ commits
      goes_forth is =
          forth_commits (is_known start new tx) (is_led_by_full start new tx) (is_forth start new tx)
          (is_lost start new tx) (has_trace start new tx) led
          (way_is (λ m l. has_gone_forth start m tx l) is)

      pub goes_back : has_gone_back start member tx (e ∷ log) ≡ true → fate start new tx ≡ aborts
      goes_back is =
          lost_aborts (is_known start new tx) (is_led_by_full start new tx) (is_forth start new tx)
          (is_lost start new tx) (has_trace start new tx)
          (false_from_ne_true (is_known start new tx) (λ known. true≢false (sym (forth.known tx known) ∙ unmoved))) led
          unmoved
          (lost (is_forth start new tx) (is_back start new tx || is_among (own_coordinator start new tx).doomed tx)
          unmoved
          (or_left (is_back start new tx) (is_among (own_coordinator start new tx).doomed tx) back))
        where
          back : is_back start new tx ≡ true
          back = way_is (λ m l. has_gone_back start m tx l) is

          one_way : has_gone_forth start member tx (e ∷ log) ≡ true → has_gone_back start member tx (e ∷ log) ≡ false
          one_way = (goes_one_way start member there tx moment.cluster.nobody (e ∷ log)).one_way

          not_forth : has_gone_forth start member tx (e ∷ log) ≡ false
          not_forth =
              false_from_ne_true (has_gone_forth start member tx (e ∷ log)) (λ yes. true≢false (sym is ∙ one_way yes))

          unmoved : is_forth start new tx ≡ false
          unmoved =
              subst (λ m. has_gone_forth start m tx (new (tc_of start m)) ≡ false) (sym own)
              (subst (λ (l : List HostStep). has_gone_forth start member tx l ≡ false) (sym own_log) not_forth)

          lost : (f b : Bool) → f ≡ false → b ≡ true → (not f && b) ≡ true
          lost true b is so = absurd (true≢false is)
          lost false b is so = so

      -- who is shown to have gone one way by the coordinator's step has gone so
      module _ (p : Phase → Bool) (tells : TxId → Body → Bool) (s now : CoordinatorState) (own_sends : List Outgoing)
          (before : entry_of s tx ≡ entry_of (coordinator_after start member log) tx)
          (behind : coordinator_after start member (e ∷ log) ≡ now)
          (sent : is_sent (tells tx) own_sends ≡ true → is_sent (tells tx) sends ≡ true)
          (stood : (t : Transaction) → entry_of (coordinator_after start member log) tx ≡ Some t → p t.phase ≡ true
          → has_gone start member tx p (tells tx) log ≡ true) where
        was_at : (o : Option Transaction) → entry_of (coordinator_after start member log) tx ≡ o → is_at p o ≡ true
            → has_gone start member tx p (tells tx) log ≡ true
        was_at None none is = absurd (true≢false (sym is))
        was_at (Some t) some is = stood t some is

        pub shown : Shows p tells s now tx own_sends → has_gone start member tx p (tells tx) (e ∷ log) ≡ true
        shown (before_it is) =
            gone_stays start member tx p (tells tx) log e
            (was_at (entry_of (coordinator_after start member log) tx) refl (sym (ap (is_at p) before) ∙ is))
        shown (behind_it is) =
            gone_here start member tx p (tells tx) log e
            (ap (λ (c : CoordinatorState). is_at p (entry_of c tx)) behind ∙ is)
        shown (tells_it is) = gone_told start member tx p (tells tx) log e (sent is)

      module _ (s now : CoordinatorState) (own_sends : List Outgoing)
          (before : entry_of s tx ≡ entry_of (coordinator_after start member log) tx)
          (behind : coordinator_after start member (e ∷ log) ≡ now)
          (sent : (p : Body → Bool) → is_sent p own_sends ≡ true → is_sent p sends ≡ true) where
        pub shown_back : Shows is_aborting tells_abort s now tx own_sends → fate start new tx ≡ aborts
        shown_back shows =
            goes_back
            (shown is_aborting tells_abort s now own_sends before behind (sent (tells_abort tx))
            (λ t some is. at_aborting t.phase (has_gone_forth start member tx log) (has_gone_back start member tx log)
            ((goes_one_way start member there tx moment.cluster.nobody log).says t some) is) shows)

        pub shown_forth : Shows is_decided tells_commit s now tx own_sends → fate start new tx ≡ commits
        shown_forth shows =
            goes_forth
            (shown is_decided tells_commit s now own_sends before behind (sent (tells_commit tx))
            (λ t some is. at_decided t.phase (has_gone_forth start member tx log) (has_gone_back start member tx log)
            ((goes_one_way start member there tx moment.cluster.nobody log).says t some) is) shows)
