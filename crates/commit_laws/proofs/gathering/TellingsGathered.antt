-- When the last member ends, a takeover has noted what it was told in the current view.
use Rattle.std.proofs.Common.{◌≡◌, ◌∙◌, ℕ, true, List, [], ◌∷◌, inl, inr, refl, sym, ap, subst}
use Rattle.std.specs.Prelude.{None}
use Rattle.run_theory.specs.Links.{taken}
use Rattle.run_theory.specs.Lists.{Each, IsIn}
use Rattle.run_theory.specs.Logs.{IsRunning}
use Rattle.run_theory.specs.Runs.{Happens}
use Rattle.run_theory.proofs.Pasts.{each_from, each_in}
use Rattle.sig_core.specs.declared.member.Member.{Member}
use Rattle.sig_core.specs.declared.member.TxId.{TxId}
use Rattle.sig_core.specs.declared.place.BlockId.{BlockId}
use Rattle.sig_core.specs.declared.place.BlockId.TheVariants as block
use Rattle.sig_core.specs.declared.signal.Signal.{Signal}
use Rattle.sig_core.specs.declared.view.View.{View}
use Rattle.frag_map.specs.Layout.{first_layout}
use Rattle.takeover_block.specs.declared.gathered.Gathered.{Gathered}
use Rattle.takeover_block.specs.Gathered.{is_before, told_epoch}
use Rattle.takeover_block.specs.Keys.{has_key}
use Rattle.takeover_block.specs.Laws.{AreInOrder}
use Rattle.takeover_block.specs.State.{resting}
use Rattle.takeover_block.proofs.EachTakeover.{is_gathering}
use Rattle.node_views.specs.declared.host_body.HostBody as hosts_of
use Rattle.node_views.specs.declared.tc_part.TcPart.{TcPart}
use Rattle.node_views.specs.Parts.{tc_row}
use Rattle.world_core.specs.Start.{NobodyStarts, Start, made}
use Rattle.world_core.specs.Steps.{Addressed, HostStep}
use Rattle.view_laws.specs.Order.{sound_machine}
use Rattle.view_laws.specs.Runs.{view_after}
use Rattle.moment_laws.specs.Moments.{IsMoment, logs_of}
use Rattle.moment_laws.specs.PartSteps.{PartEnters, PartTakes, handles, ignores, installs, remains, tc_kind}
use Rattle.moment_laws.specs.Places.{tc_of}
use Rattle.moment_laws.proofs.MomentHosts.{tc_started}
use Rattle.moment_laws.proofs.MomentViews.{moment_less}
use Rattle.request_laws.specs.Blocks.{takeover_after, takeover_in}
use Rattle.request_laws.proofs.routes.PartSteps.{TcStep, own_tc, takeover_is}
use Rattle.commit_laws.specs.Gathering.{EndsGathering}
use Rattle.commit_laws.specs.Takeovers.{takeover_at}
use Rattle.commit_laws.specs.Telling.{IsTelling, OrdersComeFirst}
use Rattle.commit_laws.proofs.drive.Gathered.{AreFit, fit_stays, none_fit, not_before_itself}
use Rattle.commit_laws.proofs.gathering.Notes.{HasNoted}
use Rattle.commit_laws.proofs.gathering.TellingsNoted.{tellings_noted}
use Rattle.commit_laws.proofs.gathering.TellingsPlaced.{tellings_are_for_takeovers}

-- what is gathered stands in order along each log
module _ (start : Start) (nobody : NobodyStarts start) (member : Member) (there : IsIn member (made start)) where
  gathered_step : (log : List HostStep) (e : HostStep) → AreFit (takeover_after start member log).gathered
      → AreFit (takeover_after start member (e ∷ log)).gathered
  unfolding tc_row
  gathered_step log e fit =
      subst (λ s. AreFit s.gathered)
      (sym (takeover_is start member (tc_of start member) (e ∷ log) refl own.does.own own.does.is))
      (taken_fit own.does.takes)
    where
      own : TcStep start (tc_of start member) log e
      own = own_tc start nobody member there log e

      x : Signal
      x = e.step.taken

      view : View
      view = view_after start (tc_of start member) (e ∷ log)

      between_fit : PartEnters tc_kind own.own (view_after start (tc_of start member) log) x own.does.between view
          own.does.front
          → AreFit own.does.between.takeover.gathered
      between_fit (remains same stays none) =
          subst (λ (q : TcPart). AreFit q.takeover.gathered) (sym same)
          (subst (λ s. AreFit s.gathered) (takeover_is start member (tc_of start member) log refl own.own own.runs) fit)
      between_fit (installs above same stays sent) =
          subst (λ (q : TcPart). AreFit q.takeover.gathered) (sym same) none_fit

      row_fit : (b : BlockId) → AreFit (tc_row own.does.between b x).state.takeover.gathered
      row_fit block.Takeover = fit_stays own.does.between.takeover x (between_fit own.does.enters)
      row_fit block.Tc = between_fit own.does.enters
      row_fit block.Dih = between_fit own.does.enters
      row_fit _ = between_fit own.does.enters

      taken_fit : PartTakes tc_kind start.shape own.does.between view x own.does.own own.does.rest
          → AreFit own.does.own.takeover.gathered
      taken_fit (ignores same none) =
          subst (λ (q : TcPart). AreFit q.takeover.gathered) (sym same) (between_fit own.does.enters)
      taken_fit (handles passed same sent) =
          subst (λ (q : TcPart). AreFit q.takeover.gathered) (sym same) (row_fit x.to.block)

  pub gathered_fit : (log : List HostStep) → AreFit (takeover_after start member log).gathered
  gathered_fit [] =
      subst (λ s. AreFit s.gathered)
      (sym (ap (λ (s : hosts_of.HostBody). takeover_in (resting member.node (first_layout start.shape)) s.parts)
      (tc_started start nobody member there)))
      none_fit
  gathered_fit (e ∷ log) = gathered_step log e (gathered_fit log)

-- so each transaction is there once
alone : (gs : List Gathered) → AreInOrder gs → (v g : Gathered) → IsIn v gs → IsIn g gs → g.tx ≡ v.tx → g ≡ v
alone [] order v g v_in g_in same = absurd v_in
alone (w ∷ gs) order v g (inl v_is) (inl g_is) same = g_is ∙ sym v_is
alone (w ∷ gs) order v g (inl v_is) (inr g_in) same =
    absurd (not_before_itself w.tx
    (subst (λ u. is_before w.tx u ≡ true) (same ∙ ap (λ (q : Gathered). q.tx) v_is)
    (each_in (λ (q : Gathered). is_before w.tx q.tx ≡ true) g gs order.0 g_in)))
alone (w ∷ gs) order v g (inr v_in) (inl g_is) same =
    absurd (not_before_itself w.tx
    (subst (λ u. is_before w.tx u ≡ true) (sym same ∙ ap (λ (q : Gathered). q.tx) g_is)
    (each_in (λ (q : Gathered). is_before w.tx q.tx ≡ true) v gs order.0 v_in)))
alone (w ∷ gs) order v g (inr v_in) (inr g_in) same = alone gs order.1 v g v_in g_in same

-- what is noted is so of each entry of the transaction
pub noted_each : (tx : TxId) (key : List ℕ) (Marked : Type 0) (gs : List Gathered) → AreInOrder gs
    → HasNoted tx key Marked gs
    → Each (λ (g : Gathered). g.tx ≡ tx → (has_key g.keys key ≡ true) × (Marked → g.epoch ≡ None → ⊥)) gs
noted_each tx key Marked gs order has =
    each_from (λ (g : Gathered). g.tx ≡ tx → (has_key g.keys key ≡ true) × (Marked → g.epoch ≡ None → ⊥)) gs
    (λ g there same.
    let is : g ≡ has.entry = alone gs order has.entry g has.there there (same ∙ sym has.same) in (
      ap (λ (q : Gathered). has_key q.keys key) is ∙ has.key_in,
      λ marked none. has.committed marked (ap (λ (q : Gathered). q.epoch) (sym is) ∙ none),
    ))

-- the host of the takeover to which the last member ends runs
pub closing_runs : (start : Start) (all : ℕ → List HostStep) (e : HostStep) (es : List HostStep)
    → IsMoment start all (e ∷ es) → (member : Member) → EndsGathering start e es member
    → IsRunning (sound_machine start) (logs_of start es (tc_of start member))
closing_runs start all e es moment member closing =
    let happens : Happens (sound_machine start) es e = moment.run.1 in
    subst (λ k. IsRunning (sound_machine start) (logs_of start es k)) closing.host_is happens.step.runs

module _ (first : OrdersComeFirst) (start : Start) (all : ℕ → List HostStep) (e : HostStep) (es : List HostStep)
    (moment : IsMoment start all (e ∷ es)) (member : Member) (closing : EndsGathering start e es member)
  where
    abbrev old : ℕ → List HostStep
    old = logs_of start es

    -- what was told until the last member ends is noted
    pub gathered_noted : (i : ℕ) (y : Addressed)
        → IsIn y (taken (sound_machine start) i (logs_of start es (tc_of start member))) → (tx : TxId) (key : List ℕ)
        → (tells : IsTelling start (logs_of start es) tx key y)
        → Each (λ (g : Gathered). g.tx ≡ tx → (has_key g.keys key ≡ true)
        × ((told_epoch tells.told tells.epoch ≡ None → ⊥) → g.epoch ≡ None → ⊥))
        (takeover_at start (logs_of start es) member).gathered
    gathered_noted i y there tx key tells =
        noted_each tx key (told_epoch tells.told tells.epoch ≡ None → ⊥) (takeover_at start old member).gathered
        (gathered_fit start moment.cluster.nobody member closing.made_is (old (tc_of start member))).order
        (tellings_noted first tellings_are_for_takeovers start all es (moment_less start all e es moment) member
        closing.made_is
        (ap (λ (v : View). v.number) closing.stands) (closing_runs start all e es moment member closing) i y there tx
        key tells (ap is_gathering closing.gathers))
