-- What a step comes to of a host that settles on no view: it stops; or the view of the signal is installed, or none,
-- and behind that its blocks take the signal, or leave it alone. What is sent is told exactly.
use Rattle.std.proofs.Common.{◌≡◌, ◌≤◌, ◌⊎◌, ◌||◌, ◌&&◌, ◌++◌, ◌∙◌, ℕ, zero, suc, Bool, true, false, nat_lt, List, []}
use Rattle.std.proofs.Common.{◌∷◌, refl, sym, ap, subst, inl, inr, arith}
use Rattle.std.proofs.lemmas.Bool.{and_parts, ltb-true, true≢false}
use Rattle.std.proofs.lemmas.Bool.Decides.{nat_tests}
use Rattle.std.proofs.lemmas.List.{append-nil}
use Rattle.std.specs.List.{list_any}
use Rattle.std.specs.Prelude.{is_some, not, Option, None, Some}
use Rattle.sig_core.specs.declared.mark.Mark.{Mark}
use Rattle.sig_core.specs.declared.mark.Mark.TheVariants.{Installed}
use Rattle.sig_core.specs.declared.member.HostId.{HostId}
use Rattle.sig_core.specs.declared.outcome.StopCause.{StopCause}
use Rattle.sig_core.specs.declared.outs.Outgoing.{Outgoing}
use Rattle.sig_core.specs.declared.signal.Body.{Body}
use Rattle.sig_core.specs.declared.signal.Body.TheVariants.{Host}
use Rattle.sig_core.specs.declared.signal.Signal.{Signal}
use Rattle.sig_core.specs.declared.signal.host.HostSignal.TheVariants.{Closed, Cut, Kill}
use Rattle.sig_core.specs.declared.view.Shape.{Shape}
use Rattle.sig_core.specs.declared.view.View.{View}
use Rattle.sig_core.specs.Step.{Effects, Step, joined}
use Rattle.api_views.specs.Members.{same_member}
use Rattle.node_views.specs.Blocks.{fence_at, parts_entered, parts_row, settled_at}
use Rattle.node_views.specs.declared.host_body.HostBody as hosts
use Rattle.node_views.specs.declared.parts.Parts.{Parts}
use Rattle.node_views.specs.Fence.{is_fenced}
use Rattle.node_views.specs.Row.{behind, blocks_row, closed_if, counted_row, counted_stop, cut_if, entered}
use Rattle.node_views.specs.Row.{entering_if, headed_if, headed_row, host_row, host_table, hushed, is_barred, is_cut}
use Rattle.node_views.specs.Row.{is_excluded, is_stop, kill_row, killed_after, marks_only, passed_if, passed_row}
use Rattle.node_views.specs.Row.{settle, standing_at, taken_if, with_parts}
use Rattle.node_views.specs.WellFormed.{is_first, is_well_formed}
use Rattle.node_views.proofs.StopWalk.{counted_stops}
use Rattle.world_core.specs.Start.{NobodyStarts, Start}
use Rattle.world_core.specs.Steps.{HostStep}
use Rattle.world_views.specs.Machine.{after, own_stop, step_after, step_by, step_if}
use Rattle.view_laws.proofs.eras.Shapes.{shape_stays}
use Rattle.view_laws.specs.Runs.{view_after}
use Rattle.moment_laws.specs.Parts.{Enters, IsPassed, enters, stays}

-- the host itself may take it
abbrev pub is_for_host : Body → Bool
is_for_host (Host (Kill after)) = true
is_for_host (Host (Cut node first)) = true
is_for_host (Host (Closed cause)) = true
is_for_host body = false

-- what may keep blocks from taking a signal that is well formed
abbrev pub IsOff : Shape → Signal → Type 0
IsOff shape x = (is_well_formed shape x ≡ false) ⊎ ((is_fenced x ≡ true) ⊎ (is_for_host x.body ≡ true))

pub data HostGoes (shape : Shape) (parts : Parts) (view : View) (x : Signal) (step : Step hosts.HostBody) : Type 0 where
  halts : list_any is_stop step.effects.marks ≡ true → HostGoes shape parts view x step
  leaves : IsOff shape x → (between : Parts) (seen : View) (front : List Outgoing)
      → Enters parts view x between seen front → step.state.parts ≡ between → step.state.standing.view ≡ seen
      → step.effects.sends ≡ front → HostGoes shape parts view x step
  takes : (between : Parts) (seen : View) (front : List Outgoing) → Enters parts view x between seen front
      → IsPassed shape between seen x → step.state.parts ≡ (parts_row between x).state
      → step.state.standing.view ≡ seen → step.effects.sends ≡ front ++ (parts_row between x).effects.sends
      → HostGoes shape parts view x step

-- what one of the later passes, one of all passes
pub any_behind : (p : Mark → Bool) (xs ys : List Mark) → list_any p ys ≡ true → list_any p (xs ++ ys) ≡ true
any_behind p [] ys is = is
any_behind p (x ∷ xs) ys is = by (p x) (any_behind p xs ys is)
  where
    by : (b : Bool) → list_any p (xs ++ ys) ≡ true → (b || list_any p (xs ++ ys)) ≡ true
    by true rest = refl
    by false rest = rest

module _ (x : Signal) where
  -- where the signal is passed to the blocks, or is the host's own
  data Passes (s : hosts.HostBody) (step : Step hosts.HostBody) : Type 0 where
    ends : list_any is_stop step.effects.marks ≡ true → Passes s step
    rests : (is_fenced x ≡ true) ⊎ (is_for_host x.body ≡ true) → step.state.parts ≡ s.parts
        → step.state.standing.view ≡ s.standing.view → step.effects.sends ≡ [] → Passes s step
    acts : step.state.parts ≡ (parts_row s.parts x).state → step.state.standing.view ≡ s.standing.view
        → step.effects.sends ≡ (parts_row s.parts x).effects.sends → Passes s step

  module _ (s : hosts.HostBody) (unsettled : settled_at s.parts x ≡ None) where
    blocks_pass : Passes s (blocks_row s x)
    unfolding blocks_row
    blocks_pass =
        subst (λ (o : Option View). Passes s (settle (with_parts s (parts_row s.parts x)) o)) (sym unsettled)
        (acts refl refl refl)

    killed_passes : (after : ℕ) → x.body ≡ Host (Kill after) → Passes s (kill_row s after)
    killed_passes zero is = ends refl
    killed_passes (suc after) is = rests (inr (ap is_for_host is)) refl refl refl

    cut_passes : (node : ℕ) (first : HostId) → x.body ≡ Host (Cut node first) → (b : Bool) → Passes s (cut_if s first b)
    cut_passes node first is true = rests (inr (ap is_for_host is)) refl refl refl
    cut_passes node first is false = rests (inr (ap is_for_host is)) refl refl refl

    closed_passes : (b : Bool) → Passes s (closed_if s x b)
    closed_passes true = ends refl
    closed_passes false = blocks_pass

    table_passes : (body : Body) → x.body ≡ body → Passes s (host_table s x body)
    table_passes (Host (Kill after)) is = killed_passes after is
    table_passes (Host (Cut node first)) is =
        cut_passes node first is (is_cut s.standing first || not (is_first first))
    table_passes (Host (Closed cause)) is = closed_passes (same_member s.standing.member x.member)
    table_passes body is = blocks_pass

  -- and behind a fence
  data IsBehindFence (s : hosts.HostBody) (step : Step hosts.HostBody) : Type 0 where
    barred : is_fenced x ≡ true → step.state.parts ≡ s.parts → step.state.standing.view ≡ s.standing.view
        → step.effects.sends ≡ [] → IsBehindFence s step
    free : is_barred s x ≡ false → Passes s step → IsBehindFence s step

  row_passes : (s : hosts.HostBody) → settled_at s.parts x ≡ None → IsBehindFence s (passed_row s x)
  unfolding passed_row
  row_passes s unsettled = by (is_barred s x) refl
    where
      by : (b : Bool) → is_barred s x ≡ b → IsBehindFence s (passed_if s x b)
      by true is = barred (and_parts (is_fenced x) _ is).0 refl refl refl
      by false is = free is (table_passes s unsettled x.body refl)

  module _ (shape : Shape) (sound : is_well_formed shape x ≡ true) where
    -- it may be passed to the blocks
    passes : (s : hosts.HostBody) → x.view.number ≤ s.standing.view.number → is_barred s x ≡ false
        → IsPassed shape s.parts s.standing.view x
    passes s low unbarred = record { sound = sound; low = low; fresh = fresh }
      where
        by : (a b : Bool) → (a && b) ≡ false → a ≡ true → b ≡ false
        by true b is on = is
        by false b is on = absurd (true≢false (sym on))

        fresh : is_fenced x ≡ true → fence_at s.parts x.to.block s.standing.view.number ≤ x.view.number
        fresh on =
            let off = by (is_fenced x) (nat_lt x.view.number (fence_at s.parts x.to.block s.standing.view.number))
            unbarred on in
            grind (arith, nat_tests, off)

    -- with what is sent and marked in front
    behind_goes : (parts : Parts) (view : View) (s : hosts.HostBody) (front : Effects)
        → Enters parts view x s.parts s.standing.view front.sends → x.view.number ≤ s.standing.view.number
        → (step : Step hosts.HostBody) → IsBehindFence s step → HostGoes shape parts view x (behind front step)
    behind_goes parts view s front entering low step (barred is same stands none) =
        leaves (inr (inl is)) s.parts s.standing.view front.sends entering same stands
        (ap (λ (sends : List Outgoing). front.sends ++ sends) none ∙ append-nil front.sends)
    behind_goes parts view s front entering low step (free unbarred passed) = by passed
      where
        by : Passes s step → HostGoes shape parts view x (behind front step)
        by (ends is) = halts (any_behind is_stop front.marks step.effects.marks is)
        by (rests off same stands none) =
            leaves (inr off) s.parts s.standing.view front.sends entering same stands
            (ap (λ (sends : List Outgoing). front.sends ++ sends) none ∙ append-nil front.sends)
        by (acts same stands sends) =
            takes s.parts s.standing.view front.sends entering (passes s low unbarred) same stands
            (ap (λ (more : List Outgoing). front.sends ++ more) sends)

    plain_goes : (s : hosts.HostBody) → x.view.number ≤ s.standing.view.number → (step : Step hosts.HostBody)
        → IsBehindFence s step → HostGoes shape s.parts s.standing.view x step
    plain_goes s low step (barred is same stands none) =
        leaves (inr (inl is)) s.parts s.standing.view [] (stays refl refl refl) same stands none
    plain_goes s low step (free unbarred passed) = by passed
      where
        by : Passes s step → HostGoes shape s.parts s.standing.view x step
        by (ends is) = halts is
        by (rests off same stands none) =
            leaves (inr off) s.parts s.standing.view [] (stays refl refl refl) same stands none
        by (acts same stands sends) =
            takes s.parts s.standing.view [] (stays refl refl refl) (passes s low unbarred) same stands sends

    module _ (s : hosts.HostBody) (unsettled : settled_at s.parts x ≡ None)
        (then_unsettled : settled_at (parts_entered s.parts x.view).state x ≡ None)
      where
        headed_goes : HostGoes shape s.parts s.standing.view x (headed_row s x)
        unfolding headed_row entered
        headed_goes = by (nat_lt s.standing.view.number x.view.number) refl
          where
            unless_excluded : nat_lt s.standing.view.number x.view.number ≡ true → (b : Bool)
                → HostGoes shape s.parts s.standing.view x (entering_if s x b)
            unless_excluded newer true = halts refl
            unless_excluded newer false =
                let inside = (entered s x.view).state in
                behind_goes s.parts s.standing.view inside
                (joined (marks_only (Installed x.view ∷ [])) (parts_entered s.parts x.view).effects)
                (enters (ltb-true s.standing.view.number x.view.number newer) refl refl refl) (omega arith)
                (passed_row inside x) (row_passes inside then_unsettled)

            by : (b : Bool) → nat_lt s.standing.view.number x.view.number ≡ b
                → HostGoes shape s.parts s.standing.view x (headed_if s x b)
            by true newer = unless_excluded newer (is_excluded s.standing x.view)
            by false older =
                plain_goes s (grind (arith, nat_tests, older)) (passed_row s x) (row_passes s unsettled)

    counted_goes : (s : hosts.HostBody) → settled_at s.parts x ≡ None
        → settled_at (parts_entered s.parts x.view).state x ≡ None
        → (left : Option ℕ) → HostGoes shape s.parts s.standing.view x (counted_row s x left)
    counted_goes s unsettled then_unsettled None = headed_goes s unsettled then_unsettled
    counted_goes s unsettled then_unsettled (Some zero) = halts refl
    counted_goes s unsettled then_unsettled (Some (suc zero)) = halts refl
    counted_goes s unsettled then_unsettled (Some (suc (suc left))) =
        headed_goes (standing_at s (killed_after s.standing (Some (suc left)))) unsettled then_unsettled

  hushed_goes : (shape : Shape) (parts : Parts) (view : View) (stops : Bool) (step : Step hosts.HostBody)
      → list_any is_stop step.effects.marks ≡ stops → HostGoes shape parts view x step
      → HostGoes shape parts view x (hushed stops step)
  hushed_goes shape parts view true step is goes = halts is
  hushed_goes shape parts view false step is goes = goes

  step_goes : (h : ℕ) (s : hosts.HostBody) → settled_at s.parts x ≡ None
      → settled_at (parts_entered s.parts x.view).state x ≡ None
      → HostGoes s.standing.shape s.parts s.standing.view x (step_by h s x)
  unfolding host_row
  step_goes h s unsettled then_unsettled = stopped (own_stop h x)
    where
      by : (b : Bool) → is_well_formed s.standing.shape x ≡ b
          → HostGoes s.standing.shape s.parts s.standing.view x (taken_if s x b)
      by true sound =
          hushed_goes s.standing.shape s.parts s.standing.view (is_some (counted_stop s x s.standing.left))
          (counted_row s x s.standing.left) (counted_stops s x s.standing.left)
          (counted_goes s.standing.shape sound s unsettled then_unsettled s.standing.left)
      by false off = leaves (inl off) s.parts s.standing.view [] (stays refl refl refl) refl refl refl

      stopped : (o : Option StopCause) → HostGoes s.standing.shape s.parts s.standing.view x (step_if s x o)
      stopped (Some cause) = halts refl
      stopped None = by (is_well_formed s.standing.shape x) refl

-- so it is along a log
module _ (start : Start) (nobody : NobodyStarts start) (h : ℕ) (log : List HostStep) (e : HostStep) where
  pub host_goes : settled_at (after start h log).parts e.step.taken ≡ None
      → settled_at (parts_entered (after start h log).parts e.step.taken.view).state e.step.taken ≡ None
      → HostGoes start.shape (after start h log).parts (view_after start h log) e.step.taken (step_after start h log e)
  host_goes unsettled then_unsettled =
      subst
      (λ shape. HostGoes shape (after start h log).parts (view_after start h log) e.step.taken
      (step_after start h log e))
      (shape_stays start nobody h log)
      (step_goes e.step.taken h (after start h log) unsettled then_unsettled)
