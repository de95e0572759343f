-- What hosts send of commits and completions at an event of a moment: a host of rows no more than it takes, and a host
-- that coordinates none that tells of an end.
use Rattle.std.proofs.Common.{◌≡◌, ◌≤◌, ◌⊎◌, ◌==◌, ◌&&◌, ◌++◌, ◌∙◌, ℕ, Bool, true, false, List, [], ◌∷◌, refl, sym, ap}
use Rattle.std.proofs.Common.{subst, arith, inl, inr, ⊎_elim}
use Rattle.std.proofs.lemmas.Bool.{eq-eqb, eqb-true, true≢false}
use Rattle.std.specs.List.{count_by}
use Rattle.run_theory.specs.Links.{sent_by}
use Rattle.run_theory.specs.Lists.{Each, IsIn}
use Rattle.run_theory.proofs.Links.{sent_by_each}
use Rattle.run_theory.proofs.Pasts.{each_append, each_filter, each_map}
use Rattle.commit_laws.proofs.hosts.PartEach.{part_each}
use Rattle.sig_core.specs.declared.member.Member.{Member}
use Rattle.sig_core.specs.declared.outs.Outgoing.{Outgoing}
use Rattle.sig_core.specs.declared.place.BlockId.{BlockId}
use Rattle.sig_core.specs.declared.place.BlockId.TheVariants as block
use Rattle.sig_core.specs.declared.signal.Body.{Body}
use Rattle.sig_core.specs.declared.signal.Body.TheVariants.{Chain}
use Rattle.sig_core.specs.declared.signal.chain.ChainSignal.TheVariants.{Committed, Completed}
use Rattle.sig_core.specs.declared.signal.Signal.{Signal}
use Rattle.sig_core.specs.declared.view.View.{View}
use Rattle.tc_block.specs.Complete.{one_if}
use Rattle.dih_node.specs.Dih.{dih_row}
use Rattle.dih_node.specs.Orders as dih
use Rattle.takeover_block.specs.Takeover.{takeover_row}
use Rattle.tc_views.specs.Coordinator.{coordinator_row}
use Rattle.tc_views.specs.Views as coordinator
use Rattle.lqh_saver.specs.State.{saving}
use Rattle.node_views.specs.declared.parts.Parts.TheVariants.{Ldm}
use Rattle.node_views.specs.declared.tc_part.TcPart.{TcPart}
use Rattle.node_views.specs.Fence.{is_body_fenced}
use Rattle.node_views.specs.Parts.{ldm_row, tc_entered, tc_row}
use Rattle.world_core.specs.Start.{NobodyStarts, Start, made}
use Rattle.world_core.specs.Steps.{Addressed, HostStep}
use Rattle.world_views.specs.Hosts.{started}
use Rattle.world_views.specs.Machine.{signals_of, step_after}
use Rattle.world_views.specs.Sending.{is_own_work}
use Rattle.view_laws.specs.Order.{is_sound, sound_machine}
use Rattle.view_laws.specs.Runs.{view_after}
use Rattle.view_laws.proofs.follow.Senders.{each_from}
use Rattle.view_laws.proofs.words.Coordinator.{coordinator_installs_kinds, coordinator_kinds}
use Rattle.view_laws.proofs.words.Sent.{IsOf}
use Rattle.view_laws.proofs.words.Takeover.{is_of_takeover, takeover_kinds}
use Rattle.view_laws.proofs.words.Turns.{is_of_coordinator}
use Rattle.moment_laws.specs.Moments.{IsMoment, logs_of}
use Rattle.moment_laws.specs.Parts.{IsPassed}
use Rattle.moment_laws.specs.PartSteps.{PartEnters, PartTakes, handles, ignores, installs, ldm_kind, remains, tc_kind}
use Rattle.moment_laws.specs.Places.{ldm_of, tc_of}
use Rattle.moment_laws.proofs.MomentTurns.{stands_behind}
use Rattle.moment_laws.proofs.MomentViews.{current_number}
use Rattle.moment_laws.proofs.PartKinds.{ldm_is}
use Rattle.moment_laws.proofs.PartTaken.{handled_now}
use Rattle.outcome_laws.specs.Counts.{count_sent}
use Rattle.outcome_laws.proofs.coordinators.Lists.{count_more, none_counted}
use Rattle.request_laws.proofs.routes.BesideRows.{epochs_aside, epochs_install_aside, is_of_rows}
use Rattle.request_laws.proofs.routes.Hosts.{IsBeside, beside_sends}
use Rattle.request_laws.proofs.routes.PartSteps.{LdmStep, ldm_step, tc_step}
use Rattle.request_laws.proofs.tokens.RowHosts.{sent_few, test_taken}
use Rattle.request_laws.proofs.tokens.FirstInView.{sent_now, taken_now}
use Rattle.commit_laws.proofs.drive.Kinds.{Drive, Keys, comes, committing, completing, either, either_aside, goes}
use Rattle.commit_laws.proofs.drive.Kinds.{numbered}
use Rattle.commit_laws.proofs.drive.Rows.{saving_pass}

-- a signal that passes is of a kind that fences stop, and no host asks itself for one
pub goes_plain : (drive : Drive) (w : Keys) (body : Body) → goes drive w body ≡ true
    → (is_own_work body ≡ false) × ((x : Signal) → is_body_fenced x body ≡ true)
goes_plain drive w (Chain signal) is = (refl, λ x. refl)
goes_plain committing w body is = absurd (true≢false (sym is))
goes_plain completing w body is = absurd (true≢false (sym is))

-- a block that coordinates tells of no end
module _ (drive : Drive) (w : Keys) where
  abbrev TellsNone : Outgoing → Type 0
  TellsNone o = comes drive w o.body ≡ false

  abbrev TellNone : List Outgoing → Type 0
  TellNone sends = Each TellsNone sends

  -- such a signal tells of one
  abbrev tells_end : Body → Bool
  tells_end (Chain (Committed tx key)) = true
  tells_end (Chain (Completed tx key)) = true
  tells_end body = false

  tells_none : (body : Body) → tells_end body ≡ false → comes drive w body ≡ false
  tells_none body is = by drive body is
    where
      by : (d : Drive) (body : Body) → tells_end body ≡ false → comes d w body ≡ false
      by committing (Chain (Committed tx key)) is = absurd (true≢false is)
      by committing body is = refl
      by completing (Chain (Completed tx key)) is = absurd (true≢false is)
      by completing body is = refl

  of_coordinator : (body : Body) → is_of_coordinator body ≡ true → tells_end body ≡ false
  of_coordinator (Chain (Committed tx key)) is = absurd (true≢false (sym is))
  of_coordinator (Chain (Completed tx key)) is = absurd (true≢false (sym is))
  of_coordinator body is = refl

  of_takeover : (body : Body) → is_of_takeover body ≡ true → tells_end body ≡ false
  of_takeover (Chain (Committed tx key)) is = absurd (true≢false (sym is))
  of_takeover (Chain (Completed tx key)) is = absurd (true≢false (sym is))
  of_takeover body is = refl

  of_aside : (body : Body) → is_of_rows body ≡ false → tells_end body ≡ false
  of_aside (Chain signal) is = absurd (true≢false is)
  of_aside body is = refl

  part_tells_none : (p : TcPart) (x : Signal) (b : BlockId) → TellNone (tc_row p b x).effects.sends
  unfolding tc_row
  part_tells_none p x block.Tc =
      ⊎_elim
      (λ kinds.
      each_map (IsOf is_of_coordinator) TellsNone (coordinator_row p.coordinator x).effects.sends
      (λ o is. tells_none o.body (of_coordinator o.body is)) kinds)
      (λ confirms. subst TellNone (sym confirms.1) (tells_none _ refl, tt)) (coordinator_kinds p.coordinator x)
  part_tells_none p x block.Takeover =
      each_map (IsOf is_of_takeover) TellsNone (takeover_row p.takeover x).effects.sends
      (λ o is. tells_none o.body (of_takeover o.body is)) (takeover_kinds p.takeover x)
  part_tells_none p x block.Dih =
      each_map _ TellsNone (dih_row p.dih x).effects.sends (λ o is. tells_none o.body (of_aside o.body is))
      (epochs_aside p.dih x)
  part_tells_none p x _ = tt

  enters_tells_none : (p : TcPart) (now : View) → TellNone (tc_entered p now).effects.sends
  enters_tells_none p now =
      each_append TellsNone (coordinator.install_row p.coordinator now).effects.sends
      (dih.install_row p.dih now.number).effects.sends
      (each_map (IsOf is_of_coordinator) TellsNone (coordinator.install_row p.coordinator now).effects.sends
      (λ o is. tells_none o.body (of_coordinator o.body is)) (coordinator_installs_kinds p.coordinator now))
      (each_map _ TellsNone (dih.install_row p.dih now.number).effects.sends
      (λ o is. tells_none o.body (of_aside o.body is)) (epochs_install_aside p.dih now.number))

  pub coordinator_tells_none : (start : Start) (nobody : NobodyStarts start) (member : Member)
      → IsIn member (made start) → (h : ℕ)
      → h ≡ tc_of start member → (log : List HostStep) (e : HostStep)
      → Each (λ (o : Outgoing). comes drive w o.body ≡ false) (step_after start h log e).effects.sends
  coordinator_tells_none start nobody member there h at log e =
      let step = tc_step start nobody member there h at log e in
      part_each tc_kind TellsNone start.shape step.own _ e.step.taken _ _ (step_after start h log e).effects.sends
      step.does (λ above. enters_tells_none step.own e.step.taken.view)
      (λ passed. part_tells_none step.does.between e.step.taken e.step.taken.to.block)

module _ (start : Start) (all : ℕ → List HostStep) (e : HostStep) (es : List HostStep)
    (moment : IsMoment start all (e ∷ es))
  where
    abbrev old : List HostStep
    old = logs_of start es e.host

    abbrev x : Signal
    x = e.step.taken

    abbrev now : ℕ
    now = current_number start (logs_of start (e ∷ es))

    abbrev sends : List Outgoing
    sends = (step_after start e.host old e).effects.sends

    abbrev seen : View
    seen = view_after start e.host (e ∷ old)

    -- the host of rows of a member sends no more than it takes
    module _ (drive : Drive) (w : Keys) (member : Member) (there : IsIn member (made start))
        (at : e.host ≡ ldm_of start member)
      where
        abbrev Few : Type 0
        Few =
            sent_now start all e es moment (numbered now (either drive w))
            ≤ taken_now start all e es moment (numbered now (goes drive w))

        step : LdmStep start e.host old e
        step = ldm_step start moment.cluster.nobody member there e.host at old e

        -- where it sends this
        few_of : (rest : List Outgoing) → (sends ≡ rest) ⊎ (sends ≡ [])
            → count_sent (either drive w) rest ≤ taken_now start all e es moment (numbered now (goes drive w)) → Few
        few_of rest (inl is) few =
            omega (
              arith,
              sent_few start (either drive w) now e.host old e,
              ap (count_sent (either drive w)) is,
              few,
            )
        few_of rest (inr is) few =
            let none : count_sent (either drive w) sends ≡ 0 = ap (count_sent (either drive w)) is in
            omega (arith, sent_few start (either drive w) now e.host old e, none)

        front_none : PartEnters ldm_kind step.own (view_after start e.host old) x step.does.between seen step.does.front
            → step.does.front ≡ []
        front_none (remains same stands none) = none
        front_none (installs above same stands none) = none

        sends_rest : (sends ≡ step.does.rest) ⊎ (sends ≡ [])
        sends_rest = by step.does.sent
          where
            by : (sends ≡ step.does.front ++ step.does.rest) ⊎ (sends ≡ []) → (sends ≡ step.does.rest) ⊎ (sends ≡ [])
            by (inl is) = inl (is ∙ ap (λ front. front ++ step.does.rest) (front_none step.does.enters))
            by (inr is) = inr is

        nothing_few : (rest : List Outgoing) → rest ≡ []
            → count_sent (either drive w) rest ≤ taken_now start all e es moment (numbered now (goes drive w))
        nothing_few rest nothing =
            let none : count_sent (either drive w) rest ≡ 0 = ap (count_sent (either drive w)) nothing in
            omega (arith, none)

        row_few : IsPassed start.shape (Ldm step.does.between) seen x → (b : BlockId) → x.to.block ≡ b
            → (rest : List Outgoing) → rest ≡ (ldm_row step.does.between b x).effects.sends
            → count_sent (either drive w) rest ≤ taken_now start all e es moment (numbered now (goes drive w))
        unfolding ldm_row
        row_few passed block.Lqh to rest is =
            let taken =
            handled_now start all e es moment ldm_kind ldm_is step.own step.runs step.does.between step.does.front
            step.does.enters passed block.Lqh to in
            omega (
              arith,
              ap (count_sent (either drive w)) is,
              saving_pass drive w (saving step.does.between.replica step.does.between.saver) x,
              test_taken start all e es moment (goes drive w) (goes_plain drive w) block.Lqh taken,
            )
        row_few passed _ to rest is = nothing_few rest is

        pub rows_few : Few
        rows_few = few_of step.does.rest sends_rest (by step.does.takes)
          where
            by : PartTakes ldm_kind start.shape step.does.between seen x step.does.own step.does.rest
                → count_sent (either drive w) step.does.rest
                ≤ taken_now start all e es moment (numbered now (goes drive w))
            by (ignores is nothing) = nothing_few step.does.rest nothing
            by (handles passed is sends_are) = row_few passed x.to.block refl step.does.rest sends_are

    -- a host beside sends none
    pub beside_none : (drive : Drive) (w : Keys) → IsBeside (started start e.host).parts
        → sent_now start all e es moment (numbered now (either drive w)) ≡ 0
    beside_none drive w beside =
        let none =
        none_counted (either drive w) sends
        (each_map _ (λ (o : Outgoing). either drive w o.body ≡ false) sends
        (λ o aside. either_aside drive w o.body aside) (beside_sends start e.host beside old e)) in
        omega (arith, none, sent_few start (either drive w) now e.host old e)

    -- of another view nothing is sent
    module _ (number : ℕ) (p : Body → Bool) (off : (number == now) ≡ false) where
      unnumbered : (xs : List Addressed) → Each (λ (y : Addressed). y.signal.view.number ≡ now) xs
          → count_by (λ (y : Addressed). numbered number p y.signal) xs ≡ 0
      unnumbered [] all = refl
      unnumbered (y ∷ xs) all =
          omega (
            arith,
            count_more (λ (y : Addressed). numbered number p y.signal) y xs,
            ap one_if (none (p y.signal.body) (y.signal.view.number == number) refl),
            unnumbered xs all.1,
          )
        where
          none : (b c : Bool) → (y.signal.view.number == number) ≡ c → (b && c) ≡ false
          none false c e = refl
          none true false e = refl
          none true true e =
              let same : number ≡ now = sym (eqb-true y.signal.view.number number e) ∙ all.0 in
              absurd (true≢false (sym (eq-self number now same) ∙ off))
            where
              eq-self : (n m : ℕ) → n ≡ m → (n == m) ≡ true
              eq-self n m same = eq-eqb n m same

      pub other_none : sent_now start all e es moment (numbered number p) ≡ 0
      other_none =
          unnumbered (sent_by (sound_machine start) e.host old e)
          (sent_by_each (sound_machine start) (λ (y : Addressed). y.signal.view.number ≡ now) e.host old e
          (λ goes_on.
          each_filter _ (is_sound start) (signals_of start e.host old e)
          (each_map _ (λ (y : Addressed). y.signal.view.number ≡ now) (signals_of start e.host old e)
          (λ y one.
          ap (λ (v : View). v.number) (one.view_is ∙ stands_behind start all e es moment goes_on))
          (each_from start e.host old e))))
