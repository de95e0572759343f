-- What a step of a host that runs a coordinating part comes to: a view is installed in the part, or nothing is; and
-- behind that the part takes the signal, all of what it sends is sent, and its marks are the host's; or the part leaves
-- it alone.
use Rattle.std.proofs.Common.{◌≡◌, ◌⊎◌, ◌||◌, ◌∙◌, ℕ, zero, suc, Bool, true, false, nat_lt, List, [], ◌∷◌, refl, sym}
use Rattle.std.proofs.Common.{ap, subst, inl, inr}
use Rattle.std.specs.Prelude.{is_some, not, Option, None, Some}
use Rattle.std.specs.List.{list_any}
use Rattle.run_theory.specs.Lists.{Each}
use Rattle.run_theory.proofs.Pasts.{each_append}
use Rattle.sig_core.specs.declared.mark.Mark.{Mark}
use Rattle.sig_core.specs.declared.mark.Mark.TheVariants.{Decided, Installed}
use Rattle.sig_core.specs.declared.member.HostId.{HostId}
use Rattle.sig_core.specs.declared.outcome.StopCause.{StopCause}
use Rattle.sig_core.specs.declared.place.BlockId.{BlockId}
use Rattle.sig_core.specs.declared.place.BlockId.TheVariants as block
use Rattle.sig_core.specs.declared.signal.Body.{Body}
use Rattle.sig_core.specs.declared.signal.Body.TheVariants.{Host}
use Rattle.sig_core.specs.declared.signal.Signal.{Signal}
use Rattle.sig_core.specs.declared.signal.host.HostSignal.TheVariants.{Closed, Cut, Kill}
use Rattle.sig_core.specs.declared.view.Shape.{Shape}
use Rattle.sig_core.specs.declared.view.View.{View}
use Rattle.sig_core.specs.Step.{Effects, Step, joined, nothing}
use Rattle.api_views.specs.Members.{same_member}
use Rattle.tc_views.specs.State.{go_on_if}
use Rattle.tc_views.specs.Views.{install_row}
use Rattle.dih_node.specs.Dih.{dih_row}
use Rattle.dih_node.specs.Orders as dih
use Rattle.dih_node.specs.State as epochs
use Rattle.dih_node.specs.State.{DihState}
use Rattle.dih_node.specs.Verify.{given}
use Rattle.node_views.specs.declared.host_body.HostBody as hosts
use Rattle.node_views.specs.declared.parts.Parts.TheVariants as part
use Rattle.node_views.specs.declared.standing.Standing.{Standing}
use Rattle.node_views.specs.declared.tc_part.TcPart.{TcPart}
use Rattle.node_views.specs.Parts.{tc_entered, tc_row}
use Rattle.node_views.specs.Row.{behind, blocks_row, closed_if, counted_row, counted_stop, cut_if, entered}
use Rattle.node_views.specs.Row.{entering_if, headed_if, headed_row, host_row, host_table, hushed, in_view, is_barred}
use Rattle.node_views.specs.Row.{is_cut, is_excluded, is_stop, kill_row, killed_after, marks_only, passed_if}
use Rattle.node_views.specs.Row.{passed_row, taken_if, unless_stopped}
use Rattle.node_views.specs.WellFormed.{is_first, is_well_formed}
use Rattle.node_views.proofs.StopWalk.{counted_stops}
use Rattle.world_core.specs.Start.{NobodyStarts, Start}
use Rattle.world_core.specs.Steps.{HostStep}
use Rattle.world_views.specs.Machine.{after, own_stop, step_after, step_by, step_if}
use Rattle.view_laws.proofs.eras.Shapes.{shape_stays}
use Rattle.outcome_laws.proofs.epochs.Steps.{dih_each, dih_installs_quiet}
use Rattle.outcome_laws.proofs.takeovers.NoMarks.{takeover_marks_nothing}
use Rattle.outcome_laws.proofs.coordinators.NoMarks.{coordinator_marks}
use Rattle.request_laws.proofs.phases.TakeoverWords.{AreWordless, IsWordless}

-- the mark decides a transaction
abbrev pub is_decided_mark : Mark → Bool
is_decided_mark (Decided tx epoch) = true
is_decided_mark mark = false

abbrev pub AreNoDecisions : List Mark → Type 0
AreNoDecisions marks = Each (λ mark. is_decided_mark mark ≡ false) marks

-- neither does it tell that the host stops
abbrev pub AreGoing : List Mark → Type 0
AreGoing marks = Each (λ mark. is_stop mark ≡ false) marks

-- a view is installed in the part, or none
abbrev pub IsEntered : TcPart → TcPart → Type 0
IsEntered p between = (between ≡ p) ⊎ ((view : View) × (between ≡ (tc_entered p view).state))

-- what a step of the host comes to
pub data Goes (shape : Shape) (p : TcPart) (x : Signal) (step : Step hosts.HostBody) : Type 0 where
  leaves : (between : TcPart) → IsEntered p between → step.state.parts ≡ part.Tc between
      → AreWordless step.effects.sends → AreNoDecisions step.effects.marks → Goes shape p x step
  takes : (between : TcPart) → IsEntered p between → is_well_formed shape x ≡ true → (front : Effects)
      → AreWordless front.sends → AreNoDecisions front.marks → AreGoing front.marks
      → step.state.parts ≡ part.Tc (tc_row between x.to.block x).state
      → step.effects ≡ joined front (tc_row between x.to.block x).effects → Goes shape p x step

-- the part's own marks don't tell that the host stops
dih_going : (s : DihState) (x : Signal) → AreGoing (dih_row s x).effects.marks
unfolding given
dih_going s x =
    dih_each s (λ step. AreGoing step.effects.marks) x (record {
      quiet = λ step is. subst AreGoing (sym is.marks) tt;
      gives_it = λ tx ops is. (refl, tt);
      holds_it = λ tx ops is. tt;
      serves_it = λ tx first. (refl, tt);
    })

tc_going : (p : TcPart) (to : BlockId) (x : Signal) → AreGoing (tc_row p to x).effects.marks
unfolding tc_row
tc_going p block.Tc x = coordinator_marks (λ mark. is_stop mark ≡ false) p.coordinator x
tc_going p block.Takeover x =
    subst AreGoing (sym (takeover_marks_nothing p.takeover x)) tt
tc_going p block.Dih x = dih_going p.dih x
tc_going p _ x = tt

-- what an installation sends and marks
module _ (p : TcPart) (view : View) where
  going_on : (node : ℕ) (b : Bool) → AreWordless (go_on_if node b)
  going_on node true = (refl, tt)
  going_on node false = tt

  serving_on : (node : ℕ) (b : Bool) → AreWordless (epochs.go_on_if node b)
  serving_on node true = (refl, tt)
  serving_on node false = tt

  entered_wordless : AreWordless (tc_entered p view).effects.sends
  unfolding install_row dih.install_row
  entered_wordless =
      each_append IsWordless (install_row p.coordinator view).effects.sends
      (dih.install_row p.dih view.number).effects.sends (going_on p.coordinator.tc.node _) (serving_on p.dih.node _)

  entered_marks : (tc_entered p view).effects.marks ≡ []
  unfolding install_row
  entered_marks = (dih_installs_quiet p.dih view.number).marks

-- where the signal is passed to the part, or is the host's own
data Passes (p : TcPart) (x : Signal) (step : Step hosts.HostBody) : Type 0 where
  rests : step.state.parts ≡ part.Tc p → step.effects.sends ≡ [] → AreNoDecisions step.effects.marks → Passes p x step
  acts : step.state.parts ≡ part.Tc (tc_row p x.to.block x).state → step.effects ≡ (tc_row p x.to.block x).effects
      → Passes p x step

-- a host that runs the part
abbrev host_of : Standing → TcPart → hosts.HostBody
host_of standing p = record { standing = standing; parts = part.Tc p }

module _ (x : Signal) where
  module _ (standing : Standing) (p : TcPart) where
    abbrev s : hosts.HostBody
    s = host_of standing p

    blocks_pass : Passes p x (blocks_row s x)
    unfolding blocks_row
    blocks_pass = acts refl refl

    killed_passes : (after : ℕ) → Passes p x (kill_row s after)
    killed_passes zero = rests refl refl (refl, tt)
    killed_passes (suc after) = rests refl refl tt

    cut_passes : (first : HostId) (b : Bool) → Passes p x (cut_if s first b)
    cut_passes first true = rests refl refl tt
    cut_passes first false = rests refl refl (refl, (refl, (refl, tt)))

    closed_passes : (b : Bool) → Passes p x (closed_if s x b)
    closed_passes true = rests refl refl (refl, tt)
    closed_passes false = blocks_pass

    table_passes : (body : Body) → Passes p x (host_table s x body)
    table_passes (Host (Kill after)) = killed_passes after
    table_passes (Host (Cut node first)) = cut_passes first (is_cut standing first || not (is_first first))
    table_passes (Host (Closed cause)) = closed_passes (same_member standing.member x.member)
    table_passes body = blocks_pass

    row_passes : Passes p x (passed_row s x)
    unfolding passed_row
    row_passes = by (is_barred s x)
      where
        by : (b : Bool) → Passes p x (passed_if s x b)
        by true = rests refl refl tt
        by false = table_passes x.body

  module _ (shape : Shape) (sound : is_well_formed shape x ≡ true) where
    plain_goes : (p : TcPart) (step : Step hosts.HostBody) → Passes p x step → Goes shape p x step
    plain_goes p step (rests parts sends marks) = leaves p (inl refl) parts (subst AreWordless (sym sends) tt) marks
    plain_goes p step (acts parts effects) = takes p (inl refl) sound nothing tt tt tt parts effects

    behind_goes : (p between : TcPart) → IsEntered p between → (front : Effects) → AreWordless front.sends
        → AreNoDecisions front.marks → AreGoing front.marks → (step : Step hosts.HostBody) → Passes between x step
        → Goes shape p x (behind front step)
    behind_goes p between entered front words none going step (rests parts sends marks) =
        leaves between entered parts
        (each_append IsWordless front.sends step.effects.sends words (subst AreWordless (sym sends) tt))
        (each_append (λ mark. is_decided_mark mark ≡ false) front.marks step.effects.marks none marks)
    behind_goes p between entered front words none going step (acts parts effects) =
        takes between entered sound front words none going parts (ap (joined front) effects)

    headed_goes : (standing : Standing) (p : TcPart) → Goes shape p x (headed_row (host_of standing p) x)
    unfolding headed_row entered
    headed_goes standing p = by (nat_lt standing.view.number x.view.number)
      where
        unless_excluded : (b : Bool) → Goes shape p x (entering_if (host_of standing p) x b)
        unless_excluded true = leaves p (inl refl) refl tt (refl, tt)
        unless_excluded false =
            let between = (tc_entered p x.view).state in
            behind_goes p between (inr (x.view, refl))
            (joined (marks_only (Installed x.view ∷ [])) (tc_entered p x.view).effects) (entered_wordless p x.view)
            (refl, subst AreNoDecisions (sym (entered_marks p x.view)) tt)
            (refl, subst AreGoing (sym (entered_marks p x.view)) tt)
            (passed_row (host_of (in_view standing x.view) between) x) (row_passes (in_view standing x.view) between)

        by : (b : Bool) → Goes shape p x (headed_if (host_of standing p) x b)
        by true = unless_excluded (is_excluded standing x.view)
        by false = plain_goes p (passed_row (host_of standing p) x) (row_passes standing p)

    counted_goes : (standing : Standing) (p : TcPart) (left : Option ℕ)
        → Goes shape p x (counted_row (host_of standing p) x left)
    counted_goes standing p None = headed_goes standing p
    counted_goes standing p (Some zero) = leaves p (inl refl) refl tt (refl, tt)
    counted_goes standing p (Some (suc zero)) = leaves p (inl refl) refl tt (refl, tt)
    counted_goes standing p (Some (suc (suc left))) = headed_goes (killed_after standing (Some (suc left))) p

    none_stops : (marks : List Mark) → AreGoing marks → list_any is_stop marks ≡ false
    none_stops [] all = refl
    none_stops (mark ∷ marks) all = ap (λ b. b || list_any is_stop marks) all.0 ∙ none_stops marks all.1

    hushed_goes : (p : TcPart) (stops : Bool) (step : Step hosts.HostBody) → list_any is_stop step.effects.marks ≡ stops
        → Goes shape p x step → Goes shape p x (hushed stops step)
    hushed_goes p stops step is (leaves between entered parts words marks) =
        leaves between entered parts (by stops) marks
      where
        by : (b : Bool) → AreWordless (unless_stopped step.effects.sends b)
        by true = tt
        by false = words
    hushed_goes p stops step is (takes between entered well front words none going parts effects) =
        takes between entered well front words none going parts (on ∙ effects)
      where
        marks : AreGoing step.effects.marks
        marks =
            subst (λ (all : Effects). AreGoing all.marks) (sym effects)
            (each_append (λ mark. is_stop mark ≡ false) front.marks (tc_row between x.to.block x).effects.marks going
            (tc_going between x.to.block x))

        on : (hushed stops step).effects ≡ step.effects
        on =
            ap (λ b. record { sends = unless_stopped step.effects.sends b; marks = step.effects.marks })
            (sym is ∙ none_stops step.effects.marks marks)

  step_goes : (h : ℕ) (standing : Standing) (p : TcPart) → Goes standing.shape p x (step_by h (host_of standing p) x)
  unfolding host_row
  step_goes h standing p = stopped (own_stop h x)
    where
      by : (b : Bool) → is_well_formed standing.shape x ≡ b
          → Goes standing.shape p x (taken_if (host_of standing p) x b)
      by true sound =
          hushed_goes standing.shape sound p (is_some (counted_stop (host_of standing p) x standing.left))
          (counted_row (host_of standing p) x standing.left) (counted_stops (host_of standing p) x standing.left)
          (counted_goes standing.shape sound standing p standing.left)
      by false off = leaves p (inl refl) refl tt tt

      stopped : (o : Option StopCause) → Goes standing.shape p x (step_if (host_of standing p) x o)
      stopped (Some cause) = leaves p (inl refl) refl tt (refl, tt)
      stopped None = by (is_well_formed standing.shape x) refl

-- so it is along a log
module _ (start : Start) (nobody : NobodyStarts start) (h : ℕ) (log : List HostStep) (e : HostStep) (p : TcPart)
    (runs : (after start h log).parts ≡ part.Tc p)
  where
    pub tc_goes : Goes start.shape p e.step.taken (step_after start h log e)
    tc_goes =
        let standing = (after start h log).standing in
        subst (λ shape. Goes shape p e.step.taken (step_after start h log e)) (shape_stays start nobody h log)
        (subst
        (λ parts. Goes standing.shape p e.step.taken
        (step_by h (record { standing = standing; parts = parts }) e.step.taken))
        (sym runs) (step_goes e.step.taken h standing p))
