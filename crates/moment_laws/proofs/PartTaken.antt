-- A host whose blocks take the signal at an event of a moment stands in the current view then, and a signal of a kind
-- that fences stop has that view.
use Rattle.std.proofs.Common.{◌≡◌, ◌≤◌, ℕ, true, List, ◌∷◌, refl, sym, ap, subst, ◌∙◌, arith}
use Rattle.sig_core.specs.declared.outs.Outgoing.{Outgoing}
use Rattle.sig_core.specs.declared.place.BlockId.{BlockId}
use Rattle.sig_core.specs.declared.place.BlockId.TheVariants as block
use Rattle.sig_core.specs.declared.signal.Signal.{Signal}
use Rattle.sig_core.specs.declared.view.Shape.{Shape}
use Rattle.sig_core.specs.declared.view.View.{View}
use Rattle.node_views.specs.Blocks.{fence_at, parts_entered}
use Rattle.node_views.specs.declared.parts.Parts.{Parts}
use Rattle.node_views.specs.declared.parts.Parts.TheVariants as part
use Rattle.node_views.specs.Fence.{is_fenced}
use Rattle.node_views.specs.WellFormed.{is_well_formed}
use Rattle.world_core.specs.Start.{NobodyStarts, Start}
use Rattle.world_core.specs.Steps.{HostStep}
use Rattle.world_views.specs.Machine.{after}
use Rattle.view_laws.specs.Runs.{view_after}
use Rattle.view_laws.proofs.fences.Rows.{coordinator_enters, dih_enters}
use Rattle.view_laws.proofs.fences.AboveViews.{fences_are_not_below, greater_second}
use Rattle.moment_laws.specs.Moments.{IsMoment, current, logs_of}
use Rattle.moment_laws.specs.Parts.{Enters, IsPassed, enters, stays}
use Rattle.moment_laws.specs.PartSteps.{Kind, PartEnters}
use Rattle.moment_laws.proofs.MomentTurns.{taker_stands}
use Rattle.moment_laws.proofs.MomentViews.{current_number}
use Rattle.moment_laws.proofs.PartKinds.{IsKind, parts_enter}

-- A block of a host takes the signal, and the host stands in this view behind the step: it is none of a greater view,
-- nor, if it is of a kind that fences stop, of a lesser one.
pub record IsTaken (shape : Shape) (at : BlockId) (x : Signal) (seen : View) : Type 0 where
  pub block : x.to.block ≡ at
  pub sound : is_well_formed shape x ≡ true
  pub low : x.view.number ≤ seen.number
  pub fresh : is_fenced x ≡ true → x.view.number ≡ seen.number

-- the signal is passed to the blocks of a host, which stands in this view then
module _ (shape : Shape) (at : BlockId) (parts : Parts) (view : View) (x : Signal) (seen : View)
    (stands : seen ≡ view)
    (fenced : is_fenced x ≡ true → x.to.block ≡ at → view.number ≤ fence_at parts x.to.block view.number)
  where
    pub passed_taken : IsPassed shape parts view x → x.to.block ≡ at → IsTaken shape at x seen
    passed_taken passed to =
        let same : seen.number ≡ view.number = ap (λ (v : View). v.number) stands in
        let low = passed.low in
        record {
          block = to;
          sound = passed.sound;
          low = omega (arith, same, low);
          fresh = λ is.
              let above = passed.fresh is in
              let fence = fenced is to in
              omega (arith, same, low, above, fence);
        }

-- the fence of a block isn't below a view that is entered
pub entered_fence : (parts : Parts) (view : View) (at : BlockId)
    → view.number ≤ fence_at (parts_entered parts view).state at view.number
entered_fence (part.Tc p) view block.Tc =
    subst (λ fence. view.number ≤ fence) (sym (coordinator_enters p.coordinator view))
    (greater_second p.coordinator.fence view.number)
entered_fence (part.Tc p) view block.Dih =
    subst (λ fence. view.number ≤ fence) (sym (dih_enters p.dih view.number)) (greater_second p.dih.fence view.number)
entered_fence (part.Tc p) view _ = omega arith
entered_fence (part.Ldm p) view block.Lqh = greater_second p.fence view.number
entered_fence (part.Ldm p) view _ = omega arith
entered_fence (part.Shell p) view at = omega arith
entered_fence (part.Main p) view at = omega arith

-- nor below the view in which the host stands once that is installed
fence_stays : (parts : Parts) (view : View) (x : Signal) (between : Parts) (stood : View) (front : List Outgoing)
    (at : BlockId) → view.number ≤ fence_at parts at view.number → Enters parts view x between stood front
    → stood.number ≤ fence_at between at stood.number
fence_stays parts view x between stood front at fence (stays same stands none) =
    subst (λ view. view.number ≤ fence_at between at view.number) (sym stands)
    (subst (λ parts. view.number ≤ fence_at parts at view.number) (sym same) fence)
fence_stays parts view x between stood front at fence (enters above same stands sends) =
    subst (λ view. view.number ≤ fence_at between at view.number) (sym stands)
    (subst (λ parts. x.view.number ≤ fence_at parts at x.view.number) (sym same) (entered_fence parts x.view at))

-- whatever host takes it
module _ (start : Start) (nobody : NobodyStarts start) (h : ℕ) (log : List HostStep) (x : Signal) where
  pub passed_is : (between : Parts) (stood : View) (front : List Outgoing)
      → Enters (after start h log).parts (view_after start h log) x between stood front
      → IsPassed start.shape between stood x → (at : BlockId) → x.to.block ≡ at → IsTaken start.shape at x stood
  passed_is between stood front entering passed at to =
      passed_taken start.shape at between stood x stood refl
      (λ is same.
      fence_stays (after start h log).parts (view_after start h log) x between stood front x.to.block
      (fences_are_not_below start nobody h log x.to.block) entering)
      passed to

module _ (start : Start) (all : ℕ → List HostStep) (e : HostStep) (es : List HostStep)
    (moment : IsMoment start all (e ∷ es))
  where
    abbrev old : List HostStep
    old = logs_of start es e.host

    abbrev behind : View
    behind = view_after start e.host (e ∷ old)

    abbrev new : ℕ → List HostStep
    new = logs_of start (e ∷ es)

    abbrev x : Signal
    x = e.step.taken

    -- A block takes the signal of the event, whose host stands in the current view then; its header is that view, if it
    -- is of a kind that fences stop.
    pub record IsTakenNow (at : BlockId) : Type 0 where
      pub block : x.to.block ≡ at
      pub sound : is_well_formed start.shape x ≡ true
      pub stands : behind ≡ current start new
      pub fresh : is_fenced x ≡ true → x.view.number ≡ current_number start new

    pub taken_now : (at : BlockId) → IsTaken start.shape at x behind → IsTakenNow at
    taken_now at taken =
        let stands : behind ≡ current start new = taker_stands start all e es moment taken.low in
        record {
          block = taken.block;
          sound = taken.sound;
          stands = stands;
          fresh = λ is. taken.fresh is ∙ ap (λ (v : View). v.number) stands;
        }

    -- so it is of a signal that is passed to the blocks, once its view is installed in them
    pub passed_now : (between : Parts) (stood : View) (front : List Outgoing)
        → Enters (after start e.host old).parts (view_after start e.host old) x between stood front
        → IsPassed start.shape between stood x → behind ≡ stood → (at : BlockId) → x.to.block ≡ at → IsTakenNow at
    passed_now between stood front entering passed same at to =
        taken_now at
        (subst (IsTaken start.shape at x) (sym same)
        (passed_is start moment.cluster.nobody e.host old x between stood front entering passed at to))

    -- and to the part that the host runs
    pub handled_now : {P : Type 0} (kind : Kind P) → IsKind kind → (p : P)
        → (after start e.host old).parts ≡ kind.within p → (between : P) (front : List Outgoing)
        → PartEnters kind p (view_after start e.host old) x between behind front
        → IsPassed start.shape (kind.within between) behind x → (at : BlockId) → x.to.block ≡ at → IsTakenNow at
    handled_now kind fits p runs between front entering passed at to =
        passed_now (kind.within between) behind front
        (subst
        (λ parts. Enters parts (view_after start e.host old) x (kind.within between) behind front) (sym runs)
        (parts_enter kind fits start.shape x p (view_after start e.host old) between behind front entering))
        passed refl at to
