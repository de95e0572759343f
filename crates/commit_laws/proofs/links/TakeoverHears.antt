-- A sound signal to a takeover, of a view that isn't below the one in which its host stands, is taken unless the host
-- stops.
use Rattle.std.proofs.Common.{◌≡◌, ◌≤◌, ℕ, zero, suc, Bool, true, false, nat_lt, List, [], refl, sym, ap, subst, arith}
use Rattle.std.proofs.lemmas.Bool.{and_parts, ltb-true}
use Rattle.std.specs.List.{list_any}
use Rattle.std.specs.Prelude.{is_some, Option, None, Some}
use Rattle.sig_core.specs.declared.outcome.StopCause.{StopCause}
use Rattle.sig_core.specs.declared.outs.Outgoing.{Outgoing}
use Rattle.sig_core.specs.declared.place.BlockId.{BlockId}
use Rattle.sig_core.specs.declared.place.BlockId.TheVariants as block
use Rattle.sig_core.specs.declared.signal.Body.{Body}
use Rattle.sig_core.specs.declared.signal.Body.TheVariants.{Takeover}
use Rattle.sig_core.specs.declared.signal.Signal.{Signal}
use Rattle.sig_core.specs.declared.signal.takeover.TakeoverSignal.{TakeoverSignal}
use Rattle.sig_core.specs.declared.view.View.{View}
use Rattle.sig_core.specs.Step.{Step}
use Rattle.node_views.specs.declared.host_body.HostBody as hosts
use Rattle.node_views.specs.declared.parts.Parts.{Parts}
use Rattle.node_views.specs.declared.parts.Parts.TheVariants as part
use Rattle.node_views.specs.declared.standing.Standing.{Standing}
use Rattle.node_views.specs.declared.tc_part.TcPart.{TcPart}
use Rattle.node_views.specs.Blocks.{fence_at}
use Rattle.node_views.specs.Fence.{is_fenced}
use Rattle.node_views.specs.Parts.{tc_entered, tc_row}
use Rattle.node_views.specs.Row.{blocks_row, counted_row, counted_stop, entered, entering_if, headed_if, headed_row}
use Rattle.node_views.specs.Row.{host_row, host_table, in_view, is_barred, is_excluded, is_stop, hushed, killed_after}
use Rattle.node_views.specs.Row.{passed_if, passed_row, taken_if}
use Rattle.node_views.specs.WellFormed.{is_well_formed}
use Rattle.world_core.specs.Start.{NobodyStarts, Start}
use Rattle.world_core.specs.Steps.{HostStep}
use Rattle.world_views.specs.Machine.{after, own_stop, step_after, step_by, step_if}
use Rattle.view_laws.proofs.eras.Shapes.{shape_stays}
use Rattle.view_laws.specs.Runs.{view_after}
use Rattle.moment_laws.specs.PartSteps.{PartEnters, installs, remains, tc_kind}

-- what a step comes to: the host stops, or a view is installed or none, and behind that the part takes the signal
pub data Hears (p : TcPart) (view : View) (x : Signal) (step : Step hosts.HostBody) : Type 0 where
  stops : list_any is_stop step.effects.marks ≡ true → Hears p view x step
  heard : (between : TcPart) (seen : View) (front : List Outgoing)
      → PartEnters tc_kind p view x between seen front
      → step.state.parts ≡ part.Tc (tc_row between x.to.block x).state → step.state.standing.view ≡ seen
      → Hears p view x step

abbrev host_of : Standing → TcPart → hosts.HostBody
host_of standing p = record { standing = standing; parts = part.Tc p }

module _ (x : Signal) (signal : TakeoverSignal) (body_is : x.body ≡ Takeover signal) (to : x.to.block ≡ block.Takeover)
  where
    -- the part takes it
    record Takes (standing : Standing) (p : TcPart) (step : Step hosts.HostBody) : Type 0 where
      parts : step.state.parts ≡ part.Tc (tc_row p x.to.block x).state
      stood : step.state.standing.view ≡ standing.view

    module _ (standing : Standing) (p : TcPart) where
      blocks_take : Takes standing p (blocks_row (host_of standing p) x)
      unfolding blocks_row
      blocks_take = record { parts = refl; stood = refl }

      table_takes : Takes standing p (host_table (host_of standing p) x x.body)
      table_takes =
          subst (λ (body : Body). Takes standing p (host_table (host_of standing p) x body)) (sym body_is) blocks_take

      passed_takes : standing.view.number ≤ x.view.number → Takes standing p (passed_row (host_of standing p) x)
      unfolding passed_row
      passed_takes high = by (is_barred (host_of standing p) x) refl
        where
          fence : fence_at (part.Tc p) x.to.block standing.view.number ≡ standing.view.number
          fence = ap (λ (b : BlockId). fence_at (part.Tc p) b standing.view.number) to

          by : (b : Bool) → is_barred (host_of standing p) x ≡ b → Takes standing p (passed_if (host_of standing p) x b)
          by false is = table_takes
          by true is =
              let low =
              (and_parts (is_fenced x) (nat_lt x.view.number (fence_at (part.Tc p) x.to.block standing.view.number))
              is).1 in
              let less = ltb-true x.view.number (fence_at (part.Tc p) x.to.block standing.view.number) low in
              absurd (omega (arith, less, fence, high))

    module _ (p : TcPart) where
      headed_hears : (standing : Standing) → standing.view.number ≤ x.view.number
          → Hears p standing.view x (headed_row (host_of standing p) x)
      unfolding headed_row entered
      headed_hears standing high = by (nat_lt standing.view.number x.view.number) refl
        where
          unless_excluded : nat_lt standing.view.number x.view.number ≡ true → (b : Bool)
              → Hears p standing.view x (entering_if (host_of standing p) x b)
          unless_excluded newer true = stops refl
          unless_excluded newer false =
              let between = (tc_entered p x.view).state in
              let took = passed_takes (in_view standing x.view) between (omega arith) in
              heard between x.view (tc_entered p x.view).effects.sends
              (installs (ltb-true standing.view.number x.view.number newer) refl refl refl) took.parts took.stood

          by : (b : Bool) → nat_lt standing.view.number x.view.number ≡ b
              → Hears p standing.view x (headed_if (host_of standing p) x b)
          by true newer = unless_excluded newer (is_excluded standing x.view)
          by false older =
              let took = passed_takes standing p high in
              heard p standing.view [] (remains refl refl refl) took.parts took.stood

      counted_hears : (standing : Standing) → standing.view.number ≤ x.view.number → (left : Option ℕ)
          → Hears p standing.view x (counted_row (host_of standing p) x left)
      counted_hears standing high None = headed_hears standing high
      counted_hears standing high (Some zero) = stops refl
      counted_hears standing high (Some (suc zero)) = stops refl
      counted_hears standing high (Some (suc (suc left))) = headed_hears (killed_after standing (Some (suc left))) high

      step_hears : (h : ℕ) (standing : Standing) → standing.view.number ≤ x.view.number
          → is_well_formed standing.shape x ≡ true → Hears p standing.view x (step_by h (host_of standing p) x)
      unfolding host_row
      step_hears h standing high sound = stopped (own_stop h x)
        where
          hushed_hears : (hush : Bool) (step : Step hosts.HostBody) → Hears p standing.view x step
              → Hears p standing.view x (hushed hush step)
          hushed_hears hush step (stops is) = stops is
          hushed_hears hush step (heard between seen front entering parts stood) =
              heard between seen front entering parts stood

          well : Hears p standing.view x (taken_if (host_of standing p) x true)
          well =
              hushed_hears (is_some (counted_stop (host_of standing p) x standing.left))
              (counted_row (host_of standing p) x standing.left)
              (counted_hears standing high standing.left)

          stopped : (o : Option StopCause) → Hears p standing.view x (step_if (host_of standing p) x o)
          stopped (Some cause) = stops refl
          stopped None = subst (λ b. Hears p standing.view x (taken_if (host_of standing p) x b)) (sym sound) well

-- so it is along a log
module _ (start : Start) (nobody : NobodyStarts start) (h : ℕ) (log : List HostStep) (e : HostStep) (p : TcPart)
    (runs : (after start h log).parts ≡ part.Tc p) (signal : TakeoverSignal)
  where
    pub tc_hears : e.step.taken.body ≡ Takeover signal → e.step.taken.to.block ≡ block.Takeover
        → (view_after start h log).number ≤ e.step.taken.view.number
        → is_well_formed start.shape e.step.taken ≡ true
        → Hears p (view_after start h log) e.step.taken (step_after start h log e)
    tc_hears body_is to high sound =
        let standing = (after start h log).standing in
        subst
        (λ (parts : Parts). Hears p standing.view e.step.taken
        (step_by h (record { standing = standing; parts = parts }) e.step.taken))
        (sym runs)
        (step_hears e.step.taken signal body_is to p h standing high
        (subst (λ shape. is_well_formed shape e.step.taken ≡ true) (sym (shape_stays start nobody h log)) sound))
