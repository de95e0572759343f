-- What a step of a main host comes to for its master of checkpoints, with its marks: the master takes the signal, and
-- what it marks is marked; or it leaves it alone, or a view is installed in it, and no closing is marked.
use Rattle.std.proofs.Common.{◌≡◌, ◌≤◌, ◌<◌, ◌||◌, ◌++◌, ◌∙◌, ℕ, zero, suc, Bool, true, false, nat_lt, List, [], ◌∷◌}
use Rattle.std.proofs.Common.{refl, sym, ap, subst, arith}
use Rattle.std.proofs.lemmas.Bool.{ltb-false, ltb-true}
use Rattle.std.specs.Prelude.{is_some, not, Option, None, Some}
use Rattle.run_theory.specs.Lists.{Each}
use Rattle.run_theory.proofs.Pasts.{each_append}
use Rattle.sig_core.specs.declared.mark.Mark.{Mark}
use Rattle.sig_core.specs.declared.mark.Mark.TheVariants.{Installed}
use Rattle.sig_core.specs.declared.member.HostId.{HostId}
use Rattle.sig_core.specs.declared.outcome.StopCause.{StopCause}
use Rattle.sig_core.specs.declared.place.BlockId.{BlockId}
use Rattle.sig_core.specs.declared.place.BlockId.TheVariants as block
use Rattle.sig_core.specs.declared.signal.Body.{Body}
use Rattle.sig_core.specs.declared.signal.Body.TheVariants.{Host}
use Rattle.sig_core.specs.declared.signal.Signal.{Signal}
use Rattle.sig_core.specs.declared.signal.host.HostSignal.TheVariants.{Closed, Cut, Kill}
use Rattle.sig_core.specs.declared.view.Shape.{Shape}
use Rattle.sig_core.specs.declared.view.View.{View}
use Rattle.sig_core.specs.Step.{Step}
use Rattle.api_views.specs.Members.{same_member}
use Rattle.gcp_master.specs.Master.{master_row}
use Rattle.gcp_master.specs.Resume as master
use Rattle.gcp_master.specs.State.{MasterState}
use Rattle.node_views.specs.Blocks.{fence_at}
use Rattle.node_views.specs.declared.host_body.HostBody as hosts
use Rattle.node_views.specs.declared.main_part.MainPart.{MainPart}
use Rattle.node_views.specs.declared.parts.Parts.TheVariants as part
use Rattle.node_views.specs.declared.standing.Standing.{Standing}
use Rattle.node_views.specs.Parts.{main_entered, main_row, main_settled}
use Rattle.node_views.specs.Row.{blocks_row, closed_if, counted_row, counted_stop, cut_if, entered, entering_if}
use Rattle.node_views.specs.Row.{headed_if, headed_row, host_row, host_table, hushed, in_view, is_barred, is_cut}
use Rattle.node_views.specs.Row.{is_excluded, kill_row, killed_after, passed_if, passed_row, settle, taken_if}
use Rattle.node_views.specs.Row.{with_parts}
use Rattle.node_views.specs.WellFormed.{is_first, is_well_formed}
use Rattle.qmgr_block.specs.Qmgr.{qmgr_installed, qmgr_row}
use Rattle.world_core.specs.Start.{NobodyStarts, Start}
use Rattle.world_core.specs.Steps.{HostStep}
use Rattle.world_views.specs.Machine.{after, own_stop, step_after, step_by, step_if}
use Rattle.view_laws.proofs.eras.Shapes.{shape_stays}
use Rattle.view_laws.specs.Runs.{view_after}
use Rattle.moment_laws.specs.Parts.{IsPassed}
use Rattle.moment_laws.proofs.PartSteps.{not_barred}
use Rattle.closing_laws.proofs.closers.NoClosings.{IsNoClosing, membership_closes_none, membership_installs_close_none}

abbrev pub AreNoClosings : List Mark → Type 0
AreNoClosings marks = Each IsNoClosing marks

-- the master stays as it is, or comes to a view
pub data Left (s now : MasterState) : Type 0 where
  stays : now ≡ s → Left s now
  installs : (t : MasterState) (view : View) → now ≡ master.in_view t view → Left s now

-- the view of the signal is installed before, or nothing is
pub data Entering (p : MainPart) (view : View) (x : Signal) (between : MainPart) (seen : View) : Type 0 where
  remains : between ≡ p → seen ≡ view → Entering p view x between seen
  enters : view.number < x.view.number → between ≡ (main_entered p x.view).state → seen ≡ x.view
      → Entering p view x between seen

-- what a step of the host comes to
pub data Goes (shape : Shape) (p : MainPart) (view : View) (x : Signal) (step : Step hosts.HostBody) : Type 0 where
  leaves : (now : MainPart) → step.state.parts ≡ part.Main now → Left p.master now.master
      → AreNoClosings step.effects.marks → Goes shape p view x step
  takes : (between : MainPart) (seen : View) → Entering p view x between seen
      → IsPassed shape (part.Main between) seen x → x.to.block ≡ block.GcpMaster
      → step.state.parts ≡ part.Main (main_row between block.GcpMaster x).state → step.state.standing.view ≡ seen
      → (front : List Mark) → AreNoClosings front
      → step.effects.marks ≡ front ++ (master_row between.master x).effects.marks → Goes shape p view x step

-- where the signal is passed to the part, or is the host's own
data Passes (p : MainPart) (view : View) (x : Signal) (step : Step hosts.HostBody) : Type 0 where
  rests : (now : MainPart) → step.state.parts ≡ part.Main now → Left p.master now.master
      → AreNoClosings step.effects.marks → Passes p view x step
  acts : (standing : Standing) → standing.view ≡ view
      → is_barred (record { standing = standing; parts = part.Main p }) x ≡ false → x.to.block ≡ block.GcpMaster
      → step.state.parts ≡ part.Main (main_row p block.GcpMaster x).state → step.state.standing.view ≡ view
      → step.effects.marks ≡ (master_row p.master x).effects.marks → Passes p view x step

abbrev host_of : Standing → MainPart → hosts.HostBody
host_of standing p = record { standing = standing; parts = part.Main p }

module _ (x : Signal) where
  module _ (standing : Standing) (p : MainPart) where
    abbrev s : hosts.HostBody
    s = host_of standing p

    -- by the block that the signal is for
    by_block : is_barred s x ≡ false → (b : BlockId) → x.to.block ≡ b
        → Passes p standing.view x (settle (with_parts s (record {
          state = part.Main (main_row p b x).state;
          effects = (main_row p b x).effects;
        })) (main_settled p b x))
    unfolding main_row entered
    by_block clear block.Qmgr to = by (main_settled p block.Qmgr x)
      where
        row : AreNoClosings (qmgr_row p.qmgr x).effects.marks
        row = membership_closes_none p.qmgr x

        by : (o : Option View)
            → Passes p standing.view x (settle (with_parts s (record {
              state = part.Main (main_row p block.Qmgr x).state;
              effects = (main_row p block.Qmgr x).effects;
            })) o)
        by None = rests (main_row p block.Qmgr x).state refl (stays refl) row
        by (Some view) =
            rests (main_entered (main_row p block.Qmgr x).state view).state refl (installs p.master view refl)
            (each_append IsNoClosing (qmgr_row p.qmgr x).effects.marks
            (qmgr_installed (qmgr_row p.qmgr x).state view).effects.marks row
            (membership_installs_close_none (qmgr_row p.qmgr x).state view))
    by_block clear block.GcpMaster to = acts standing refl clear to refl refl refl
    by_block clear _ to = rests p refl (stays refl) tt

    module _ (clear : is_barred s x ≡ false) where
      blocks_pass : Passes p standing.view x (blocks_row s x)
      unfolding blocks_row
      blocks_pass = by_block clear x.to.block refl

      killed_passes : (after : ℕ) → Passes p standing.view x (kill_row s after)
      killed_passes zero = rests p refl (stays refl) (refl, tt)
      killed_passes (suc after) = rests p refl (stays refl) tt

      cut_passes : (first : HostId) (b : Bool) → Passes p standing.view x (cut_if s first b)
      cut_passes first true = rests p refl (stays refl) tt
      cut_passes first false = rests p refl (stays refl) (refl, (refl, (refl, tt)))

      closed_passes : (b : Bool) → Passes p standing.view x (closed_if s x b)
      closed_passes true = rests p refl (stays refl) (refl, tt)
      closed_passes false = blocks_pass

      table_passes : (body : Body) → Passes p standing.view x (host_table s x body)
      table_passes (Host (Kill after)) = killed_passes after
      table_passes (Host (Cut node first)) = cut_passes first (is_cut standing first || not (is_first first))
      table_passes (Host (Closed cause)) = closed_passes (same_member standing.member x.member)
      table_passes body = blocks_pass

    row_passes : Passes p standing.view x (passed_row s x)
    unfolding passed_row
    row_passes = by (is_barred s x) refl
      where
        by : (b : Bool) → is_barred s x ≡ b → Passes p standing.view x (passed_if s x b)
        by true is = rests p refl (stays refl) tt
        by false is = table_passes is x.body

  module _ (shape : Shape) (sound : is_well_formed shape x ≡ true) where
    -- what is left where a view was entered before is left
    left_behind : (p between : MainPart) (view seen : View) → Entering p view x between seen → (now : MasterState)
        → Left between.master now → Left p.master now
    left_behind p between view seen (remains same stands) now (stays is) =
        stays (is ∙ ap (λ (q : MainPart). q.master) same)
    left_behind p between view seen (enters above same stands) now (stays is) =
        installs p.master x.view (is ∙ ap (λ (q : MainPart). q.master) same)
    left_behind p between view seen entering now (installs t then is) = installs t then is

    -- behind what was done before
    goes_behind : (p between : MainPart) (view seen : View) → Entering p view x between seen
        → x.view.number ≤ seen.number → (front : List Mark) → AreNoClosings front → (step now : Step hosts.HostBody)
        → now.state ≡ step.state → now.effects.marks ≡ front ++ step.effects.marks → Passes between seen x step
        → Goes shape p view x now
    goes_behind p between view seen entering low front none step now state marks (rests q parts left unmarked) =
        leaves q (ap (λ (h : hosts.HostBody). h.parts) state ∙ parts)
        (left_behind p between view seen entering q.master left)
        (subst AreNoClosings (sym marks) (each_append IsNoClosing front step.effects.marks none unmarked))
    goes_behind p between view seen entering low front none step now state marks
        (acts standing view_is clear to parts stood effects) =
        takes between seen entering
        (record {
          sound = sound;
          low = low;
          fresh = λ fenced.
              subst (λ (v : View). fence_at (part.Main between) x.to.block v.number ≤ x.view.number) view_is
              (not_barred (host_of standing between) x clear fenced);
        })
        to (ap (λ (h : hosts.HostBody). h.parts) state ∙ parts)
        (ap (λ (h : hosts.HostBody). h.standing.view) state ∙ stood)
        front none (marks ∙ ap (λ (own : List Mark). front ++ own) effects)

    headed_goes : (standing : Standing) (p : MainPart) → Goes shape p standing.view x
        (headed_row (host_of standing p) x)
    unfolding headed_row entered
    headed_goes standing p = by (nat_lt standing.view.number x.view.number) refl
      where
        unless_excluded : nat_lt standing.view.number x.view.number ≡ true → (b : Bool)
            → Goes shape p standing.view x (entering_if (host_of standing p) x b)
        unless_excluded newer true = leaves p refl (stays refl) (refl, tt)
        unless_excluded newer false =
            let between = (main_entered p x.view).state in
            let step = passed_row (host_of (in_view standing x.view) between) x in
            goes_behind p between standing.view x.view
            (enters (ltb-true standing.view.number x.view.number newer) refl refl) (omega arith)
            (Installed x.view ∷ (qmgr_installed p.qmgr x.view).effects.marks)
            (refl, membership_installs_close_none p.qmgr x.view) step (entering_if (host_of standing p) x false)
            refl refl
            (row_passes (in_view standing x.view) between)

        by : (b : Bool) → nat_lt standing.view.number x.view.number ≡ b
            → Goes shape p standing.view x (headed_if (host_of standing p) x b)
        by true newer = unless_excluded newer (is_excluded standing x.view)
        by false older =
            goes_behind p p standing.view standing.view (remains refl refl)
            (ltb-false standing.view.number x.view.number older) [] tt (passed_row (host_of standing p) x)
            (passed_row (host_of standing p) x) refl refl (row_passes standing p)

    counted_goes : (standing : Standing) (p : MainPart) (left : Option ℕ)
        → Goes shape p standing.view x (counted_row (host_of standing p) x left)
    counted_goes standing p None = headed_goes standing p
    counted_goes standing p (Some zero) = leaves p refl (stays refl) (refl, tt)
    counted_goes standing p (Some (suc zero)) = leaves p refl (stays refl) (refl, tt)
    counted_goes standing p (Some (suc (suc left))) = headed_goes (killed_after standing (Some (suc left))) p

    -- a host that stops marks the same
    hushed_goes : (stops : Bool) (p : MainPart) (view : View) (step : Step hosts.HostBody) → Goes shape p view x step
        → Goes shape p view x (hushed stops step)
    hushed_goes stops p view step (leaves now parts left marks) = leaves now parts left marks
    hushed_goes stops p view step (takes between seen entering passed to parts stood front none marks) =
        takes between seen entering passed to parts stood front none marks

  step_goes : (h : ℕ) (standing : Standing) (p : MainPart)
      → Goes standing.shape p standing.view x (step_by h (host_of standing p) x)
  unfolding host_row
  step_goes h standing p = stopped (own_stop h x)
    where
      by : (b : Bool) → is_well_formed standing.shape x ≡ b
          → Goes standing.shape p standing.view x (taken_if (host_of standing p) x b)
      by true sound =
          hushed_goes standing.shape sound (is_some (counted_stop (host_of standing p) x standing.left)) p
          standing.view (counted_row (host_of standing p) x standing.left)
          (counted_goes standing.shape sound standing p standing.left)
      by false off = leaves p refl (stays refl) tt

      stopped : (o : Option StopCause) → Goes standing.shape p standing.view x (step_if (host_of standing p) x o)
      stopped (Some cause) = leaves p refl (stays refl) (refl, tt)
      stopped None = by (is_well_formed standing.shape x) refl

-- so it is along a log
module _ (start : Start) (nobody : NobodyStarts start) (h : ℕ) (log : List HostStep) (e : HostStep) (p : MainPart)
    (runs : (after start h log).parts ≡ part.Main p)
  where
    pub main_goes : Goes start.shape p (view_after start h log) e.step.taken (step_after start h log e)
    main_goes =
        let standing = (after start h log).standing in
        subst (λ shape. Goes shape p standing.view e.step.taken (step_after start h log e))
        (shape_stays start nobody h log)
        (subst
        (λ parts. Goes standing.shape p standing.view e.step.taken
        (step_by h (record { standing = standing; parts = parts }) e.step.taken))
        (sym runs) (step_goes e.step.taken h standing p))
