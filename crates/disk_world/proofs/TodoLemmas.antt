-- What a step of a host comes to for its rows and their saver; and what is to be done of a local checkpoint is what the
-- saver came to in the step, or nothing.
use Rattle.std.proofs.Common.{◌≡◌, ◌∙◌, ◌&&◌, ◌||◌, ◌++◌, ℕ, zero, suc, Bool, true, false, nat_lt, List, [], ◌∷◌}
use Rattle.std.proofs.Common.{refl, sym, ap, subst, inl, inr}
use Rattle.std.proofs.lemmas.Bool.{true≢false}
use Rattle.std.specs.Prelude.{not, Option, None, Some}
use Rattle.std.specs.List.{list_any}
use Rattle.run_theory.specs.Lists.{Each}
use Rattle.sig_core.specs.declared.mark.Mark.{Mark}
use Rattle.sig_core.specs.declared.mark.Mark.TheVariants as mark
use Rattle.sig_core.specs.declared.member.HostId.{HostId}
use Rattle.sig_core.specs.declared.outcome.StopCause.{StopCause}
use Rattle.sig_core.specs.declared.place.BlockId.{BlockId}
use Rattle.sig_core.specs.declared.place.BlockId.TheVariants as block
use Rattle.sig_core.specs.declared.signal.Body.{Body}
use Rattle.sig_core.specs.declared.signal.Body.TheVariants.{Checkpoint, Host, Membership}
use Rattle.sig_core.specs.declared.signal.Signal.{Signal}
use Rattle.sig_core.specs.declared.signal.checkpoint.CheckpointSignal.TheVariants.{LcpSwitch}
use Rattle.sig_core.specs.declared.signal.host.HostSignal.TheVariants.{Closed, Continue, Cut, Kill}
use Rattle.sig_core.specs.declared.signal.host.Work.TheVariants as work
use Rattle.sig_core.specs.declared.signal.membership.MembershipSignal.TheVariants.{FenceReq}
use Rattle.sig_core.specs.Step.{Step}
use Rattle.step_forms.specs.Does.{IsAmong}
use Rattle.api_views.specs.Members.{same_member}
use Rattle.lqh_views.specs.Replica.{replica_row}
use Rattle.lqh_views.specs.Words.{is_replica_mark}
use Rattle.lqh_views.proofs.Walk.{replica_words}
use Rattle.lqh_saver.specs.declared.stage.Todo.{Todo}
use Rattle.lqh_saver.specs.declared.stage.Todo.TheVariants as todo
use Rattle.lqh_saver.specs.Saver.{idling, saver_row, with_durable}
use Rattle.lqh_saver.specs.State.{SavingState, saving}
use Rattle.lqh_saver.proofs.StepLemmas.{saver_marks}
use Rattle.lqh_saver.proofs.Walk.{notices_todo, saver_outcomes}
use Rattle.node_views.specs.Blocks.{fence_at}
use Rattle.node_views.specs.declared.host_body.HostBody.{HostBody}
use Rattle.node_views.specs.declared.ldm_part.LdmPart.{LdmPart}
use Rattle.node_views.specs.declared.parts.Parts.{Parts}
use Rattle.node_views.specs.declared.parts.Parts.TheVariants.{Ldm}
use Rattle.node_views.specs.declared.standing.Standing.{Standing}
use Rattle.node_views.specs.Fence.{is_fenced}
use Rattle.node_views.specs.Parts.{ldm_entered, ldm_row, raised}
use Rattle.node_views.specs.Replies.{giving}
use Rattle.node_views.specs.Row.{blocks_row, closed_if, counted_row, cut_if, entered, entering_if, headed_if}
use Rattle.node_views.specs.Row.{headed_row, host_row, host_table, in_view, is_barred, is_cut, is_excluded, is_stop}
use Rattle.node_views.specs.Row.{kill_row, killed_after, passed_if, passed_row, taken_if}
use Rattle.node_views.specs.WellFormed.{is_first, is_well_formed}
use Rattle.world_views.specs.Machine.{own_stop, step_by, step_if, stops_by, told}
use Rattle.disk_world.specs.Keeping.{todo_by, todo_if, todo_in, todo_to}
use Rattle.disk_world.specs.Laws.{CheckpointsAreOfTheirSteps, IsBefore, IsBetween, RowsStepWithTheirSaver, StepCase}
use Rattle.disk_world.specs.Laws.{StepOfRows, TodoCase, goes_on, rests, rows_in, rows_rest, rows_take, stops}
use Rattle.disk_world.specs.Laws.{stops_host, takes}

-- nothing is nothing, whatever the signal
none_by : (body : Body) → todo_by body todo.Nothing ≡ todo.Nothing
none_by (Checkpoint LcpSwitch) = refl
none_by (Host (Continue work.Walk at)) = refl
none_by body = refl

-- no mark of rows stops their host
none_stops : (marks : List Mark) → Each (IsAmong is_replica_mark) marks → list_any is_stop marks ≡ false
none_stops [] among = refl
none_stops (m ∷ marks) (is, among) =
    ap (λ (b : Bool). b || list_any is_stop marks) (one m is) ∙ none_stops marks among
  where
    one : (m : Mark) → is_replica_mark m ≡ true → is_stop m ≡ false
    one (mark.Stopped cause) is = absurd (true≢false (sym is))
    one m is = refl

-- the saver comes to something at its own signals alone
module _ (s : SavingState) (x : Signal) where
  none : (it : Todo) → it ≡ todo.Nothing → todo_by x.body it ≡ it
  none it is = subst (λ (it : Todo). todo_by x.body it ≡ it) (sym is) (none_by x.body)

  at_walk : (n : ℕ) (it : Todo) → x.body ≡ Host (Continue work.Walk n) → todo_by x.body it ≡ it
  at_walk n it is = subst (λ (body : Body). todo_by body it ≡ it) (sym is) refl

  at_switch : (it : Todo) → x.body ≡ Checkpoint LcpSwitch → todo_by x.body it ≡ it
  at_switch it is = subst (λ (body : Body). todo_by body it ≡ it) (sym is) refl

  own_todo : todo_by x.body (saver_row s x).state.saver.todo ≡ (saver_row s x).state.saver.todo
  own_todo =
      saver_outcomes s x (λ step. todo_by x.body step.state.saver.todo ≡ step.state.saver.todo) (record {
        passes = λ is.
            none _ (notices_todo (idling s).saver s.replica.saved (replica_row s.replica x).state);
        durable = λ epoch is.
            none _
            (notices_todo (with_durable (idling s) epoch).saver s.replica.saved (replica_row s.replica x).state);
        orders = λ is. none _ refl;
        writes = λ n walk to at is walking some. at_walk n _ is;
        ends = λ n walk to is walking all. at_walk n _ is;
        switches = λ finished end is walked has usable. at_switch _ is;
        idles = λ is. none _ refl;
      })

abbrev of_rows : Standing → LdmPart → HostBody
of_rows standing q = record { standing = standing; parts = Ldm q }

module _ (x : Signal) where
  -- what a step comes to for the rows
  abbrev CaseOf : LdmPart → Step HostBody → Type 0
  CaseOf p t = StepCase p x t.state (list_any is_stop t.effects.marks)

  -- at a signal that isn't the saver's, and where it doesn't go on to the blocks
  not_to : (at : BlockId) (it : Todo) → todo_by x.body it ≡ todo.Nothing → todo_to at x.body it ≡ todo.Nothing
  not_to block.Lqh it is = is
  not_to _ it is = refl

  not_if : (b : Bool) (it : Todo) → todo_to x.to.block x.body it ≡ todo.Nothing → todo_if b x it ≡ todo.Nothing
  not_if true it is = is
  not_if false it is = refl

  not_own : (b : Bool) (it : Todo) → todo_by x.body it ≡ todo.Nothing → todo_if b x it ≡ todo.Nothing
  not_own b it is = not_if b it (not_to x.to.block it is)

  not_passed : (sound : Bool) (it : Todo) → todo_if (sound && false) x it ≡ todo.Nothing
  not_passed true it = refl
  not_passed false it = refl

  abbrev goes_to : Standing → LdmPart → Bool
  goes_to standing q = is_well_formed standing.shape x && not (is_barred (of_rows standing q) x)

  module _ (p : LdmPart) (standing : Standing) (q : LdmPart) (between : IsBetween p x q) where
    abbrev own : SavingState
    own = saving q.replica q.saver

    abbrev now : LdmPart
    now = (ldm_row q block.Lqh x).state

    module _ (sound : is_well_formed standing.shape x ≡ true) (clear : is_barred (of_rows standing q) x ≡ false) where
      -- the saver's own signals raise no fence
      taken_todo : x.to.block ≡ block.Lqh → todo_in (of_rows standing now) (Some x) ≡ now.saver.todo
      unfolding ldm_row
      taken_todo to = by x.body refl
        where
          it : Todo
          it = (saver_row own x).state.saver.todo

          still : raised q.fence x.body ≡ q.fence → todo_if (goes_to standing now) x it ≡ it
          still same =
              let fence : fence_at (Ldm now) x.to.block standing.view.number
              ≡ fence_at (Ldm q) x.to.block standing.view.number =
              subst
              (λ (at : BlockId). fence_at (Ldm now) at standing.view.number ≡ fence_at (Ldm q) at standing.view.number)
              (sym to) same in
              let goes : goes_to standing now ≡ true =
              ap (λ (f : ℕ). is_well_formed standing.shape x && not (is_fenced x && nat_lt x.view.number f)) fence
              ∙ ap (λ (b : Bool). is_well_formed standing.shape x && not b) clear
              ∙ ap (λ (b : Bool). b && true) sound in
              ap (λ (b : Bool). todo_if b x it) goes
              ∙ subst (λ (at : BlockId). todo_to at x.body it ≡ it) (sym to) (own_todo own x)

          by : (body : Body) → x.body ≡ body → todo_if (goes_to standing now) x it ≡ it
          by (Membership (FenceReq proposal)) is =
              let nothing : todo.Nothing ≡ it = subst (λ (body : Body). todo_by body it ≡ it) is (own_todo own x) in
              not_own (goes_to standing now) it (own_todo own x ∙ sym nothing) ∙ nothing
          by body is = still (subst (λ (body : Body). raised q.fence body ≡ q.fence) (sym is) refl)

      blocks_do : TodoCase p x (blocks_row (of_rows standing q) x).state
      unfolding blocks_row ldm_row
      blocks_do = by x.to.block refl
        where
          by : (at : BlockId) → x.to.block ≡ at → TodoCase p x (of_rows standing (ldm_row q at x).state)
          by block.Lqh to = takes q between to refl (taken_todo to)
          by at to =
              rests q between refl
              (not_if (goes_to standing q) q.saver.todo
              (subst (λ (at : BlockId). todo_to at x.body q.saver.todo ≡ todo.Nothing) (sym to) refl))

      -- nothing that rows and their saver mark stops their host
      blocks_run : list_any is_stop (blocks_row (of_rows standing q) x).effects.marks ≡ false
      unfolding blocks_row ldm_row
      blocks_run = by x.to.block
        where
          by : (at : BlockId) → list_any is_stop (ldm_row q at x).effects.marks ≡ false
          by block.Lqh =
              saver_marks own x (λ (marks : List Mark). list_any is_stop marks ≡ false)
              (none_stops (replica_row q.replica x).effects.marks (replica_words.takes q.replica x).1) refl
          by at = refl

      blocks_case : CaseOf p (blocks_row (of_rows standing q) x)
      blocks_case = goes_on blocks_run blocks_do

      -- it is the host's own
      killed : (after : ℕ) → x.body ≡ Host (Kill after) → CaseOf p (kill_row (of_rows standing q) after)
      killed zero is = stops q between refl refl
      killed (suc after) is =
          goes_on refl
          (rests q between refl
          (not_own (goes_to (killed_after standing (Some (suc after))) q) q.saver.todo
          (subst (λ (body : Body). todo_by body q.saver.todo ≡ todo.Nothing) (sym is) refl)))

      cut : (node : ℕ) (first : HostId) → x.body ≡ Host (Cut node first) → (b : Bool)
          → CaseOf p (cut_if (of_rows standing q) first b)
      cut node first is b = by b
        where
          nothing : (stands : Standing) → todo_in (of_rows stands q) (Some x) ≡ todo.Nothing
          nothing stands =
              not_own (goes_to stands q) q.saver.todo
              (subst (λ (body : Body). todo_by body q.saver.todo ≡ todo.Nothing) (sym is) refl)

          by : (b : Bool) → CaseOf p (cut_if (of_rows standing q) first b)
          by true = goes_on refl (rests q between refl (nothing standing))
          by false =
              goes_on refl
              (rests q between refl (nothing (record standing { cut = standing.cut ++ first ∷ [] })))

      closed : (b : Bool) → CaseOf p (closed_if (of_rows standing q) x b)
      closed true = stops q between refl refl
      closed false = blocks_case

      table_case : (body : Body) → x.body ≡ body → CaseOf p (host_table (of_rows standing q) x body)
      table_case (Host (Kill after)) is = killed after is
      table_case (Host (Cut node first)) is = cut node first is (is_cut standing first || not (is_first first))
      table_case (Host (Closed cause)) is = closed (same_member standing.member x.member)
      table_case body is = blocks_case

    passed_case : is_well_formed standing.shape x ≡ true → CaseOf p (passed_row (of_rows standing q) x)
    unfolding passed_row
    passed_case sound = by (is_barred (of_rows standing q) x) refl
      where
        by : (b : Bool) → is_barred (of_rows standing q) x ≡ b → CaseOf p (passed_if (of_rows standing q) x b)
        by true is =
            goes_on refl
            (rests q between refl
            (ap (λ (b : Bool). todo_if (is_well_formed standing.shape x && not b) x q.saver.todo) is
            ∙ not_passed (is_well_formed standing.shape x) q.saver.todo))
        by false is = table_case sound is x.body refl

  module _ (p : LdmPart) where
    headed_case : (standing : Standing) → is_well_formed standing.shape x ≡ true
        → CaseOf p (headed_row (of_rows standing p) x)
    unfolding headed_row entered
    headed_case standing sound = by (nat_lt standing.view.number x.view.number)
      where
        entering : (b : Bool) → CaseOf p (entering_if (of_rows standing p) x b)
        entering true = stops p (inl refl) refl refl
        entering false =
            passed_case p (in_view standing x.view) (ldm_entered p x.view).state (inr refl) sound

        by : (b : Bool) → CaseOf p (headed_if (of_rows standing p) x b)
        by true = entering (is_excluded standing x.view)
        by false = passed_case p standing p (inl refl) sound

    counted_case : (standing : Standing) → is_well_formed standing.shape x ≡ true → (left : Option ℕ)
        → CaseOf p (counted_row (of_rows standing p) x left)
    counted_case standing sound None = headed_case standing sound
    counted_case standing sound (Some zero) = stops p (inl refl) refl refl
    counted_case standing sound (Some (suc zero)) = stops p (inl refl) refl refl
    counted_case standing sound (Some (suc (suc left))) =
        headed_case (killed_after standing (Some (suc left))) sound

    row_case : (standing : Standing) → CaseOf p (host_row (of_rows standing p) x)
    unfolding host_row
    row_case standing = by (is_well_formed standing.shape x) refl
      where
        by : (b : Bool) → is_well_formed standing.shape x ≡ b → CaseOf p (taken_if (of_rows standing p) x b)
        by true sound = counted_case standing sound standing.left
        by false unsound =
            goes_on refl
            (rests p (inl refl) refl
            (ap (λ (b : Bool). todo_if (b && not (is_barred (of_rows standing p) x)) x p.saver.todo) unsound))

    -- also where it stops by a signal to itself
    step_case : (standing : Standing) (h : ℕ) → CaseOf p (step_by h (of_rows standing p) x)
    step_case standing h = by (own_stop h x)
      where
        by : (o : Option StopCause) → CaseOf p (step_if (of_rows standing p) x o)
        by (Some cause) = stops p (inl refl) refl refl
        by None = row_case standing

-- a host with these parts stands somewhere
with_rows : (s : HostBody) (p : LdmPart) → s.parts ≡ Ldm p → of_rows s.standing p ≡ s
with_rows s p is = ap (λ (parts : Parts). record { standing = s.standing; parts = parts }) (sym is)

pub checkpoints_are_of_their_steps : CheckpointsAreOfTheirSteps
checkpoints_are_of_their_steps s x p is runs =
    by (subst (λ (b : HostBody). CaseOf x p (host_row b x)) (with_rows s p is) (row_case x p s.standing))
  where
    by : CaseOf x p (host_row s x) → TodoCase p x (host_row s x).state
    by (stops between is_between at stopped) = absurd (true≢false (sym stopped ∙ runs))
    by (goes_on on case) = case

-- what comes of a step for its part is so of the rows and their saver
module _ (p : LdmPart) (x : Signal) where
  before : (q : LdmPart) → IsBetween p x q → IsBefore (rows_in p) x (rows_in q)
  before q (inl is) = inl (ap rows_in is)
  before q (inr is) = inr (ap rows_in is)

  of_case : (t : HostBody) (stopped : Bool) → StepCase p x t stopped → StepOfRows p x t stopped
  unfolding ldm_row
  of_case t stopped (stops q between at ends) =
      record { part = q; is = at; case = stops_host ends (before q between) }
  of_case t stopped (goes_on on (rests q between at nothing)) =
      record { part = q; is = at; case = rows_rest on (before q between) nothing }
  of_case t stopped (goes_on on (takes q between to at it)) =
      record {
        part = (ldm_row q block.Lqh x).state;
        is = at;
        case = rows_take on (rows_in q) (before q between) refl it;
      }

  -- replies are told by the shell alone
  of_told : (h : ℕ) (t : Step HostBody) → StepOfRows p x t.state (stops_by t.effects.marks)
      → StepOfRows p x (told h t) (stops_by t.effects.marks)
  of_told zero t of = subst (λ (b : HostBody). StepOfRows p x b (stops_by t.effects.marks)) same of
    where
      stands : Parts → HostBody
      stands parts = record { standing = t.state.standing; parts = parts }

      same : t.state ≡ told zero t
      same = subst (λ (parts : Parts). stands parts ≡ stands (giving parts [])) (sym of.is) refl
  of_told (suc h) t of = of

pub rows_step_with_their_saver : RowsStepWithTheirSaver
rows_step_with_their_saver h s x p is =
    of_told p x h (step_by h s x)
    (of_case p x (step_by h s x).state (stops_by (step_by h s x).effects.marks)
    (subst (λ (b : HostBody). CaseOf x p (step_by h b x)) (with_rows s p is) (step_case x p s.standing h)))
