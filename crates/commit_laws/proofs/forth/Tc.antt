-- The host of a member's coordinator says of commits what its takeover knows, and of transactions that go forth.
use Rattle.std.proofs.Common.{◌≡◌, ◌⊎◌, ◌∙◌, ◌++◌, true, List, [], refl, sym, ap, subst, inl, inr}
use Rattle.run_theory.proofs.Pasts.{each_append}
use Rattle.sig_core.specs.declared.member.Member.{Member}
use Rattle.sig_core.specs.declared.member.TxId.{TxId}
use Rattle.sig_core.specs.declared.outs.Outgoing.{Outgoing}
use Rattle.sig_core.specs.declared.place.BlockId.{BlockId}
use Rattle.sig_core.specs.declared.place.BlockId.TheVariants as block
use Rattle.sig_core.specs.declared.signal.Signal.{Signal}
use Rattle.sig_core.specs.declared.view.Shape.{Shape}
use Rattle.sig_core.specs.declared.view.View.{View}
use Rattle.tc_block.specs.Phases.{is_decided}
use Rattle.tc_views.specs.Coordinator.{coordinator_row}
use Rattle.tc_views.specs.Views as coordinators
use Rattle.dih_node.specs.Orders as epochs
use Rattle.node_views.specs.declared.parts.Parts.{Parts}
use Rattle.node_views.specs.declared.tc_part.TcPart.{TcPart}
use Rattle.node_views.specs.Parts.{tc_entered, tc_row}
use Rattle.node_views.specs.WellFormed.{is_well_formed}
use Rattle.moment_laws.specs.PartSteps.{PartEnters, PartTakes, TcDoes, handles, ignores, installs, remains, tc_kind}
use Rattle.outcome_laws.specs.Counts.{IsCoordinatorOf}
use Rattle.outcome_laws.specs.Known.{TakeoverKnows}
use Rattle.outcome_laws.proofs.takeovers.KnowEpochs.{takeover_install_knows}
use Rattle.outcome_laws.proofs.coordinators.BeginsAndAsks.{coordinator_of_installed}
use Rattle.request_laws.specs.Ways.{entry_of, is_at, is_sent, tells_commit}
use Rattle.request_laws.proofs.phases.Steps.{install_leaves}
use Rattle.request_laws.proofs.phases.OneWay.{sent_behind}
use Rattle.commit_laws.proofs.forth.Coordinator.{GoesForth, ShowsForth, before_it, behind_it}
use Rattle.commit_laws.proofs.forth.Coordinator.{coordinator_installs_speak, coordinator_speaks, tells_it}
use Rattle.commit_laws.proofs.forth.Epochs.{dih_installs_speak, dih_speaks}
use Rattle.commit_laws.proofs.forth.Speaks.{Anyone, AreSpoken, Of, Speaks}
use Rattle.commit_laws.proofs.forth.Takeover.{takeover_learns, takeover_speaks}

module _ (F A : TxId → Type 0) (member : Member) (shape : Shape) (p : TcPart) (view : View) (x : Signal)
    (spoken : is_well_formed shape x ≡ true → Speaks F A x.body) (of : IsCoordinatorOf member p.coordinator)
    (knows : TakeoverKnows (Of F) Anyone p.takeover)
  where
    -- what is so of a part in which the view of the signal is installed, or none
    record IsLike (between : TcPart) (front : List Outgoing) : Type 0 where
      fits : IsCoordinatorOf member between.coordinator
      entries : (tx : TxId) → entry_of between.coordinator tx ≡ entry_of p.coordinator tx
      knowing : TakeoverKnows (Of F) Anyone between.takeover
      speaking : AreSpoken F A front

    like_same : IsLike p []
    like_same = record { fits = of; entries = λ tx. refl; knowing = knows; speaking = tt }

    like_entered : IsLike (tc_entered p x.view).state (tc_entered p x.view).effects.sends
    like_entered = record {
      fits = coordinator_of_installed member p.coordinator x.view of;
      entries = λ tx. install_leaves member p.coordinator of tx x.view;
      knowing = takeover_install_knows (Of F) Anyone p.takeover x.view;
      speaking = each_append (λ (sent : Outgoing). Speaks F A sent.body)
          (coordinators.install_row p.coordinator x.view).effects.sends
          (epochs.install_row p.dih x.view.number).effects.sends
          (coordinator_installs_speak F A p.coordinator x.view) (dih_installs_speak F A p.dih x.view.number);
    }

    like : (between : TcPart) (seen : View) (front : List Outgoing)
        → PartEnters tc_kind p view x between seen front → IsLike between front
    like between seen front (remains same stands none) =
        subst (λ (q : TcPart). IsLike q front) (sym same) (subst (IsLike p) (sym none) like_same)
    like between seen front (installs above same stands sends) =
        subst (λ (q : TcPart). IsLike q front) (sym same)
        (subst (IsLike (tc_entered p x.view).state) (sym sends) like_entered)

    -- where the part comes to, and what is sent
    pub record Says (own : TcPart) (sends : List Outgoing) : Type 0 where
      pub knowing : TakeoverKnows (Of F) Anyone own.takeover
      pub speaking : AreSpoken F A sends

    -- a block takes the signal
    module _ (between : TcPart) (front : List Outgoing) (alike : IsLike between front) where
      row_knows : is_well_formed shape x ≡ true → (b : BlockId)
          → TakeoverKnows (Of F) Anyone (tc_row between b x).state.takeover
      unfolding tc_row
      row_knows sound block.Tc = alike.knowing
      row_knows sound block.Takeover = takeover_learns F A between.takeover x alike.knowing (spoken sound)
      row_knows sound block.Dih = alike.knowing
      row_knows sound _ = alike.knowing

      row_speaks : (sends : List Outgoing) (b : BlockId) → sends ≡ front ++ (tc_row between b x).effects.sends
          → ((tx : TxId) → GoesForth member p.coordinator (tc_row between b x).state.coordinator tx sends → F tx)
          → AreSpoken F A (tc_row between b x).effects.sends
      unfolding tc_row
      row_speaks sends block.Tc is shown =
          coordinator_speaks F A member between.coordinator alike.fits x
          (λ tx goes. shown tx (record { own = goes.own; shows = shows tx goes.shows }))
        where
          step : List Outgoing
          step = (coordinator_row between.coordinator x).effects.sends

          shows : (tx : TxId)
              → ShowsForth between.coordinator (coordinator_row between.coordinator x).state tx step
              → ShowsForth p.coordinator (coordinator_row between.coordinator x).state tx sends
          shows tx (before_it decided) = before_it (ap (is_at is_decided) (sym (alike.entries tx)) ∙ decided)
          shows tx (behind_it decided) = behind_it decided
          shows tx (tells_it sent) =
              tells_it (ap (is_sent (tells_commit tx)) is ∙ sent_behind (tells_commit tx) front step sent)
      row_speaks sends block.Takeover is shown = takeover_speaks F A between.takeover x alike.knowing
      row_speaks sends block.Dih is shown = dih_speaks F A between.dih x
      row_speaks sends _ is shown = tt

    pub tc_says : (now : Parts) (seen : View) (sends : List Outgoing) (did : TcDoes shape p view x now seen sends)
        → ((tx : TxId) → GoesForth member p.coordinator did.own.coordinator tx sends → F tx)
        → Says did.own sends
    tc_says now seen sends did shown = by did.takes
      where
        alike : IsLike did.between did.front
        alike = like did.between seen did.front did.enters

        out : (sends ≡ did.front ++ did.rest → AreSpoken F A did.rest) → AreSpoken F A sends
        out rest = either did.sent
          where
            either : (sends ≡ did.front ++ did.rest) ⊎ (sends ≡ []) → AreSpoken F A sends
            either (inl is) =
                subst (AreSpoken F A) (sym is)
                (each_append (λ (sent : Outgoing). Speaks F A sent.body) did.front did.rest alike.speaking (rest is))
            either (inr none) = subst (AreSpoken F A) (sym none) tt

        by : PartTakes tc_kind shape did.between seen x did.own did.rest → Says did.own sends
        by (ignores same none) = record {
          knowing = subst (λ (q : TcPart). TakeoverKnows (Of F) Anyone q.takeover) (sym same) alike.knowing;
          speaking = out (λ is. subst (AreSpoken F A) (sym none) tt);
        }
        by (handles passed same rest) = record {
          knowing = subst (λ (q : TcPart). TakeoverKnows (Of F) Anyone q.takeover) (sym same)
              (row_knows did.between did.front alike passed.sound x.to.block);
          speaking = out (λ is.
              subst (AreSpoken F A) (sym rest)
              (row_speaks did.between did.front alike sends x.to.block (is ∙ ap (λ r. did.front ++ r) rest)
              (subst (λ (q : TcPart). (tx : TxId) → GoesForth member p.coordinator q.coordinator tx sends → F tx) same
              shown)));
        }
