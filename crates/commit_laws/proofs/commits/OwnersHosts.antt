-- At an event of the host of a coordinator and a takeover, what it sends of commits is as it should be.
use Rattle.std.proofs.Common.{◌≡◌, ◌∙◌, ℕ, List, ◌∷◌, refl, sym, ap, subst, arith}
use Rattle.std.specs.Prelude.{Some}
use Rattle.std.specs.List.{slice_get}
use Rattle.run_theory.specs.Lists.{Each, IsIn}
use Rattle.run_theory.proofs.Pasts.{each_append, each_map}
use Rattle.commit_laws.proofs.hosts.OwnTaken.{tc_taken}
use Rattle.sig_core.specs.declared.member.Member.{Member}
use Rattle.sig_core.specs.declared.member.TxId.{TxId}
use Rattle.sig_core.specs.declared.outs.Outgoing.{Outgoing}
use Rattle.sig_core.specs.declared.place.BlockId.{BlockId}
use Rattle.sig_core.specs.declared.place.BlockId.TheVariants as block
use Rattle.sig_core.specs.declared.signal.Body.{Body}
use Rattle.sig_core.specs.declared.signal.Body.TheVariants.{Chain, Client}
use Rattle.sig_core.specs.declared.signal.Signal.{Signal}
use Rattle.sig_core.specs.declared.signal.chain.ChainSignal.TheVariants.{Commit, Committed, Completed}
use Rattle.sig_core.specs.declared.signal.client.ClientSignal.TheVariants.{TcCommitAck, TcKeyFailConf}
use Rattle.sig_core.specs.declared.view.View.{View}
use Rattle.tc_views.specs.Views.{install_row}
use Rattle.dih_node.specs.Orders as dih
use Rattle.takeover_block.specs.declared.gathered.Gathered.{Gathered}
use Rattle.takeover_block.specs.State.{TakeoverState}
use Rattle.node_views.specs.declared.parts.Parts.TheVariants as part
use Rattle.node_views.specs.declared.tc_part.TcPart.{TcPart}
use Rattle.node_views.specs.Parts.{tc_row, tc_entered}
use Rattle.world_core.specs.Start.{Start, made}
use Rattle.world_core.specs.Steps.{HostStep}
use Rattle.world_views.specs.Machine.{step_after}
use Rattle.view_laws.specs.Runs.{view_after}
use Rattle.moment_laws.specs.Moments.{IsMoment, logs_of}
use Rattle.moment_laws.specs.Parts.{IsPassed}
use Rattle.moment_laws.specs.PartSteps.{PartEnters, installs, remains, tc_kind}
use Rattle.moment_laws.specs.Places.{tc_of}
use Rattle.moment_laws.proofs.MomentHosts.{tc_low}
use Rattle.moment_laws.proofs.MomentTurns.{current_rises}
use Rattle.moment_laws.proofs.MomentViews.{current_above, current_number}
use Rattle.moment_laws.proofs.PartTaken.{IsTakenNow}
use Rattle.request_laws.proofs.routes.PartSteps.{TcStep, own_tc, takeover_is}
use Rattle.commit_laws.specs.Takeovers.{takeover_at}
use Rattle.commit_laws.proofs.forth.Epochs.{dih_installs_speak, dih_speaks}
use Rattle.commit_laws.proofs.forth.Speaks.{AreSpoken, Speaks}
use Rattle.commit_laws.proofs.commits.OwnersCoordinator.{coordinator_installs_words, coordinator_words, AreWords}
use Rattle.commit_laws.proofs.commits.OwnersCoordinator.{IsWord}
use Rattle.commit_laws.proofs.commits.Owners.{IsAtCommit, IsOwnersWord, OwnersSayCommits}
use Rattle.commit_laws.proofs.hosts.PartEach.{part_each}
use Rattle.commit_laws.proofs.commits.OwnersTakeover.{IsBusy, IsTold, takeover_told}

module _ (start : Start) (all : ℕ → List HostStep) (e : HostStep) (es : List HostStep)
    (moment : IsMoment start all (e ∷ es)) (member : Member) (there : IsIn member (made start))
    (at : e.host ≡ tc_of start member)
  where
    abbrev old : ℕ → List HostStep
    old = logs_of start es

    abbrev new : ℕ → List HostStep
    new = logs_of start (e ∷ es)

    abbrev h : ℕ
    h = tc_of start member

    abbrev log : List HostStep
    log = logs_of start es (tc_of start member)

    abbrev stood : View
    stood = view_after start (tc_of start member) log

    abbrev view : View
    view = view_after start (tc_of start member) (e ∷ log)

    abbrev x : Signal
    x = e.step.taken

    abbrev sends : List Outgoing
    sends = (step_after start (tc_of start member) log e).effects.sends

    abbrev step : TcStep start (tc_of start member) (logs_of start es (tc_of start member)) e
    step = own_tc start moment.cluster.nobody member there log e

    abbrev p : TcPart
    p = step.own

    abbrev between : TcPart
    between = step.does.between

    abbrev Entering : Type 0
    Entering = PartEnters tc_kind p stood x between view step.does.front

    abbrev W : TxId → Type 0
    W tx = IsAtCommit start (logs_of start es) member tx

    abbrev AreOwners : List Outgoing → Type 0
    AreOwners os = Each (λ (sent : Outgoing). IsOwnersWord start (logs_of start es) member sent.body) os

    of_word : (body : Body) → IsWord body → IsOwnersWord start old member body
    of_word (Chain (Commit tx key epoch chain place)) is = is
    of_word (Chain (Committed tx key)) is = is
    of_word (Chain (Completed tx key)) is = is
    of_word (Client (TcCommitAck tx)) is = is
    of_word (Client (TcKeyFailConf tx epoch)) is = absurd is
    of_word body is = tt

    of_told : (body : Body) → IsTold W body → IsOwnersWord start old member body
    of_told (Chain (Commit tx key epoch chain place)) is = is
    of_told (Chain (Committed tx key)) is = is
    of_told (Chain (Completed tx key)) is = is
    of_told (Client (TcCommitAck tx)) is = is
    of_told (Client (TcKeyFailConf tx epoch)) is = is
    of_told body is = tt

    of_spoken : (body : Body) → Speaks (λ tx. ⊥) (λ tx. ⊥) body → IsOwnersWord start old member body
    of_spoken (Chain (Commit tx key epoch chain place)) is = absurd is
    of_spoken (Chain (Committed tx key)) is = is
    of_spoken (Chain (Completed tx key)) is = is
    of_spoken (Client (TcCommitAck tx)) is = is
    of_spoken (Client (TcKeyFailConf tx epoch)) is = absurd is
    of_spoken body is = tt

    words : (os : List Outgoing) → AreWords os → AreOwners os
    words os are =
        each_map (λ (o : Outgoing). IsWord o.body) (λ (o : Outgoing). IsOwnersWord start old member o.body) os
        (λ o is. of_word o.body is) are

    spoken : (os : List Outgoing) → AreSpoken (λ tx. ⊥) (λ tx. ⊥) os → AreOwners os
    spoken os are =
        each_map (λ (o : Outgoing). Speaks (λ tx. ⊥) (λ tx. ⊥) o.body)
        (λ (o : Outgoing). IsOwnersWord start old member o.body) os (λ o is. of_spoken o.body is) are

    -- an installation
    enters_owners : AreOwners (tc_entered p x.view).effects.sends
    enters_owners =
        each_append (λ (o : Outgoing). IsOwnersWord start old member o.body)
        (install_row p.coordinator x.view).effects.sends (dih.install_row p.dih x.view.number).effects.sends
        (words (install_row p.coordinator x.view).effects.sends (coordinator_installs_words p.coordinator x.view))
        (spoken (dih.install_row p.dih x.view.number).effects.sends
        (dih_installs_speak (λ tx. ⊥) (λ tx. ⊥) p.dih x.view.number))

    -- where the takeover is at work, it stood in the current view before
    module _ (passed : IsPassed start.shape (part.Tc between) view x) (entering : Entering) where
      taken : (b : BlockId) → x.to.block ≡ b → IsTakenNow start all e es moment b
      taken = tc_taken start all e es moment (tc_of start member) at step passed

      at_work : x.to.block ≡ block.Takeover → (g : Gathered) → IsBusy between.takeover.stage
          → slice_get between.takeover.gathered 0 ≡ Some g → W g.tx
      at_work to g busy first = by entering
        where
          by : Entering → W g.tx
          by (installs above same stands is) =
              absurd (subst (λ (q : TcPart). IsBusy q.takeover.stage) same busy)
          by (remains same stands none) =
              let low =
              current_above start old moment.cluster.nobody h (tc_low start moment.cluster.nobody member there) in
              let rises = current_rises start all e es moment in
              let here : view.number ≡ current_number start new =
              ap (λ k. (view_after start k (e ∷ old k)).number) (sym at)
              ∙ ap (λ (v : View). v.number) (taken block.Takeover to).stands in
              let still : view.number ≡ stood.number = ap (λ (v : View). v.number) stands in
              let is : takeover_at start old member ≡ between.takeover =
              takeover_is start member h log refl p step.runs ∙ ap (λ (q : TcPart). q.takeover) (sym same) in
              record {
                number_is = omega (arith, low, rises, here, still);
                busy = subst (λ (s : TakeoverState). IsBusy s.stage) (sym is) busy;
                gathered = g;
                first = subst (λ (s : TakeoverState). slice_get s.gathered 0 ≡ Some g) (sym is) first;
                tx_is = refl;
              }

      row_owners : (b : BlockId) → x.to.block ≡ b → AreOwners (tc_row between b x).effects.sends
      unfolding tc_row
      row_owners block.Tc to = words _ (coordinator_words between.coordinator x)
      row_owners block.Takeover to =
          each_map (λ (o : Outgoing). IsTold W o.body) (λ (o : Outgoing). IsOwnersWord start old member o.body) _
          (λ o is. of_told o.body is) (takeover_told W between.takeover x (at_work to))
      row_owners block.Dih to = spoken _ (dih_speaks (λ tx. ⊥) (λ tx. ⊥) between.dih x)
      row_owners _ to = tt

    owners_send : AreOwners sends
    owners_send =
        part_each tc_kind (λ (o : Outgoing). IsOwnersWord start old member o.body) start.shape p stood x _ view sends
        step.does (λ above. enters_owners) (λ passed. row_owners passed step.does.enters x.to.block refl)

pub owners_say_commits : OwnersSayCommits
owners_say_commits start all e es moment member there at = owners_send start all e es moment member there at
