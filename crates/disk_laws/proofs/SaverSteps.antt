-- What there is to be done of a local checkpoint of a step, and that such a step notes no epoch as saved.
use Rattle.std.proofs.Common.{◌≡◌, ◌∙◌, ℕ, Bool, true, false, List, ◌∷◌, refl, ap, sym, inl, inr}
use Rattle.std.specs.List.{list_any}
use Rattle.std.specs.Prelude.{Option, None, Some}
use Rattle.std.proofs.lemmas.Bool.{true≢false}
use Rattle.run_theory.specs.Lists.{IsIn}
use Rattle.sig_core.specs.declared.member.Member.{Member}
use Rattle.sig_core.specs.declared.outcome.StopCause.{StopCause}
use Rattle.sig_core.specs.declared.place.Part.TheVariants.{Ldm}
use Rattle.sig_core.specs.declared.signal.Signal.{Signal}
use Rattle.sig_core.specs.Step.{Step}
use Rattle.lqh_saver.specs.declared.stage.Todo.TheVariants as todo
use Rattle.lqh_saver.specs.Saver.{idling, saver_row, with_durable}
use Rattle.lqh_saver.specs.State.{SavingState, saving}
use Rattle.lqh_saver.proofs.Walk.{notices_todo, saver_outcomes}
use Rattle.lqh_views.specs.Replica.{replica_row}
use Rattle.lqh_views.specs.State.{ReplicaState}
use Rattle.node_views.specs.declared.host_body.HostBody as hosts
use Rattle.node_views.specs.declared.ldm_part.LdmPart.{LdmPart}
use Rattle.node_views.specs.declared.parts.Parts.TheVariants as part
use Rattle.node_views.specs.Parts.{ldm_row}
use Rattle.node_views.specs.Row.{host_row, is_stop}
use Rattle.node_views.specs.Saving.{saved_by}
use Rattle.moment_laws.specs.Places.{ldm_of}
use Rattle.moment_laws.proofs.MomentHosts.{part_some}
use Rattle.request_laws.specs.Blocks.{rows_after}
use Rattle.request_laws.proofs.routes.Layouts.{runs_ldm}
use Rattle.request_laws.proofs.routes.PartSteps.{rows_are}
use Rattle.world_core.specs.Start.{NobodyStarts, Start, made}
use Rattle.world_core.specs.Steps.{HostStep}
use Rattle.world_views.specs.Machine.{after, own_stop, step_after, step_by, step_if, stops_by}
use Rattle.disk_world.specs.Keeping.{todo_in}
use Rattle.disk_world.specs.Laws.{IsBetween, TodoCase, rests, takes}
use Rattle.disk_world.proofs.TodoLemmas.{checkpoints_are_of_their_steps}
use Rattle.journal_laws.specs.Saver.{todo_at, todo_unless}
use Rattle.disk_laws.proofs.SavedLemmas.{saved_is, stop_keeps, told_some}

-- where the saver of rows comes to something, the rows note no epoch
abbrev IfDone : SavingState → Step SavingState → Type 0
IfDone s t = (t.state.saver.todo ≡ todo.Nothing → ⊥) → t.state.replica.saved ≡ s.replica.saved

done_keeps : (s : SavingState) (x : Signal) → IfDone s (saver_row s x)
done_keeps s x =
    saver_outcomes s x (IfDone s) (record {
      passes = λ is done. absurd (done (notices_todo (idling s).saver s.replica.saved (replica_row s.replica x).state));
      durable = λ epoch is done.
          absurd (done
          (notices_todo (with_durable (idling s) epoch).saver s.replica.saved (replica_row s.replica x).state));
      orders = λ is done. refl;
      writes = λ n walk to at is walking some done. refl;
      ends = λ n walk to is walking all done. refl;
      switches = λ finished end is walked has usable done. refl;
      idles = λ is done. refl;
    })

between_same : (p : LdmPart) (x : Signal) (between : LdmPart) → IsBetween p x between
    → between.replica.saved ≡ p.replica.saved
between_same p x between (inl same) = ap (λ (q : LdmPart). q.replica.saved) same
between_same p x between (inr same) = ap (λ (q : LdmPart). q.replica.saved) same

-- a step of a host with rows that goes on
module _ (s : hosts.HostBody) (x : Signal) (p : LdmPart) where
  rows_keep : TodoCase p x (host_row s x).state → (todo_in (host_row s x).state (Some x) ≡ todo.Nothing → ⊥)
      → saved_by (host_row s x).state.parts ≡ p.replica.saved
  unfolding ldm_row
  rows_keep (rests between is parts nothing) done = absurd (done nothing)
  rows_keep (takes between is to parts came) done =
      ap saved_by parts
      ∙ done_keeps (saving between.replica between.saver) x (λ nothing. done (came ∙ nothing))
      ∙ between_same p x between is

  pub step_leaves : (h : ℕ) → s.parts ≡ part.Ldm p → list_any is_stop (step_by h s x).effects.marks ≡ false
      → (todo_in (step_by h s x).state (Some x) ≡ todo.Nothing → ⊥)
      → saved_by (step_by h s x).state.parts ≡ p.replica.saved
  step_leaves h runs = by (own_stop h x)
    where
      by : (o : Option StopCause) → list_any is_stop (step_if s x o).effects.marks ≡ false
          → (todo_in (step_if s x o).state (Some x) ≡ todo.Nothing → ⊥)
          → saved_by (step_if s x o).state.parts ≡ p.replica.saved
      by (Some cause) on = absurd (true≢false on)
      by None on = rows_keep (checkpoints_are_of_their_steps s x p runs on)

module _ (start : Start) (nobody : NobodyStarts start) (member : Member) (there : IsIn member (made start)) where
  abbrev h : ℕ
  h = ldm_of start member

  -- where something is to be done of a step, the rows note no epoch in it
  pub todo_keeps : (log : List HostStep) (e : HostStep) → (todo_at start member e log ≡ todo.Nothing → ⊥)
      → (rows_after start member (e ∷ log)).saved ≡ (rows_after start member log).saved
  todo_keeps log e done = by (stops_by t.effects.marks) refl
    where
      t : Step hosts.HostBody
      t = step_after start h log e

      own : LdmPart
      own = (runs_ldm start nobody member there log).own

      state : after start h (e ∷ log) ≡ t.state
      state = told_some h t (part_some start Ldm member)

      there_is : (b : Bool) → stops_by e.step.marks ≡ b
          → (todo_unless b (todo_in (after start h (e ∷ log)) (Some e.step.taken)) ≡ todo.Nothing → ⊥)
          → todo_in t.state (Some e.step.taken) ≡ todo.Nothing → ⊥
      there_is true stops some nothing = some refl
      there_is false goes some nothing =
          some (ap (λ (s : hosts.HostBody). todo_in s (Some e.step.taken)) state ∙ nothing)

      by : (b : Bool) → stops_by t.effects.marks ≡ b
          → (rows_after start member (e ∷ log)).saved ≡ (rows_after start member log).saved
      by true stops = stop_keeps start nobody member there log e stops
      by false goes =
          let at = runs_ldm start nobody member there log in
          sym (saved_is start nobody member there (e ∷ log))
          ∙ ap (λ (s : hosts.HostBody). saved_by s.parts) state
          ∙ step_leaves (after start h log) e.step.taken at.own h at.runs goes
          (there_is (stops_by e.step.marks) refl done)
          ∙ sym (ap (λ (r : ReplicaState). r.saved) (rows_are start member h log refl at.own at.runs))
