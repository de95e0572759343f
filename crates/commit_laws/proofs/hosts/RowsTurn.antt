-- What becomes of the rows of a member at an event: nothing but for their journal, or a view is installed, or they take
-- the signal of the event, which then is of the current view, if it is of a kind that fences stop. What their saver
-- does is of the first two: their journal may give up what stood before a position, and it sends signals of its own.
use Rattle.std.proofs.Common.{◌≡◌, ◌⊎◌, ◌++◌, ◌∙◌, ℕ, false, List, [], ◌∷◌, refl, sym, ap, subst, inl, inr, arith}
use Rattle.std.proofs.lemmas.Bool.{true≢false}
use Rattle.run_theory.specs.Lists.{IsIn, Each}
use Rattle.run_theory.proofs.Runs.{log_of-other, log_of-own}
use Rattle.run_theory.specs.Runs.{Happens}
use Rattle.run_theory.proofs.EventCases.{event_cases}
use Rattle.run_theory.proofs.Pasts.{each_append, each_map}
use Rattle.commit_laws.proofs.hosts.OwnTaken.{taken_at}
use Rattle.sig_core.specs.declared.mark.Mark.{Mark}
use Rattle.sig_core.specs.declared.member.Member.{Member}
use Rattle.sig_core.specs.declared.outs.Outgoing.{Outgoing}
use Rattle.sig_core.specs.declared.place.BlockId.{BlockId}
use Rattle.sig_core.specs.declared.place.BlockId.TheVariants as block
use Rattle.sig_core.specs.declared.place.Part.TheVariants.{Ldm}
use Rattle.sig_core.specs.declared.signal.Signal.{Signal}
use Rattle.sig_core.specs.declared.view.View.{View}
use Rattle.sig_core.specs.Step.{Effects, Step}
use Rattle.lqh_saver.specs.State.{SavingState, saving}
use Rattle.lqh_saver.specs.Saver.{saver_row}
use Rattle.lqh_views.specs.Replica.{installed, replica_row}
use Rattle.lqh_views.specs.State.{ReplicaState}
use Rattle.node_views.specs.declared.host_body.HostBody as hosts
use Rattle.node_views.specs.declared.ldm_part.LdmPart.{LdmPart}
use Rattle.node_views.specs.declared.parts.Parts.TheVariants as part
use Rattle.node_views.specs.Parts.{ldm_row}
use Rattle.world_core.specs.Start.{Start, made}
use Rattle.world_core.specs.Steps.{HostStep}
use Rattle.world_views.specs.Machine.{after, machine, step_after, stops_by}
use Rattle.view_laws.specs.Order.{sound_machine}
use Rattle.view_laws.specs.Runs.{view_after}
use Rattle.moment_laws.specs.Moments.{IsMoment, current, logs_of}
use Rattle.moment_laws.specs.Parts.{IsPassed}
use Rattle.moment_laws.specs.PartSteps.{installs, ldm_kind, remains}
use Rattle.moment_laws.specs.Places.{ldm_of}
use Rattle.moment_laws.proofs.MomentHosts.{part_some}
use Rattle.moment_laws.proofs.MomentTurns.{taker_stands}
use Rattle.moment_laws.proofs.PartKinds.{ldm_is}
use Rattle.moment_laws.proofs.PartTaken.{IsTakenNow}
use Rattle.request_laws.specs.Blocks.{rows_after}
use Rattle.request_laws.proofs.phases.AlongLogs.{told_some}
use Rattle.request_laws.proofs.routes.PartSteps.{LdmStep, own_ldm, rows_are}
use Rattle.commit_laws.specs.Traces.{rows_at}
use Rattle.commit_laws.proofs.hosts.RowsGo.{AreUnapplied, Entering, Goes, StopsSilent, ldm_goes, leaves, takes}
use Rattle.commit_laws.proofs.hosts.SaverGoes.{AreAlike, IsOfSaver, SaverGoes, saved, saver_goes, took, unjournaled}
use Rattle.commit_laws.proofs.hosts.RowsGo.{is_row_mark}

module _ (start : Start) (all : ℕ → List HostStep) (e : HostStep) (es : List HostStep)
    (moment : IsMoment start all (e ∷ es)) (member : Member) (there : IsIn member (made start))
  where
    abbrev pub old : ℕ → List HostStep
    old = logs_of start es

    abbrev pub new : ℕ → List HostStep
    new = logs_of start (e ∷ es)

    abbrev pub x : Signal
    x = e.step.taken

    abbrev h : ℕ
    h = ldm_of start member

    -- the rows before the signal is taken: as they were, where their host stood in its view before, or with another
    -- view
    pub data IsBetween (s : ReplicaState) : Type 0 where
      as_was : s ≡ rows_at start old member → view_after start h (e ∷ old h) ≡ view_after start h (old h) → IsBetween s
      entered : (view : View) → s ≡ installed (rows_at start old member) view → IsBetween s

    -- what is so of the rows as they were, and with each other view, is so of those that take the signal
    pub between_so : (P : ReplicaState → Type 0) (s : ReplicaState) → IsBetween s → P (rows_at start old member)
        → ((view : View) → P (installed (rows_at start old member) view)) → P s
    between_so P s (as_was is stood) here set = subst P (sym is) here
    between_so P s (entered view is) here set = subst P (sym is) (set view)

    -- what the host of the rows sends is what these send, or nothing; and its marks are theirs, among some that mark
    -- nothing to be applied
    pub record IsTakenAt (s : ReplicaState) : Type 0 where
      pub at : e.host ≡ h
      pub now : IsTakenNow start all e es moment block.Lqh
      pub rows_are : rows_at start new member ≡ (replica_row s x).state
      pub sent : ((step_after start h (old h) e).effects.sends ≡ (replica_row s x).effects.sends)
          ⊎ ((step_after start h (old h) e).effects.sends ≡ [])
      -- all of it, unless the host stops
      pub goes : stops_by e.step.marks ≡ false
          → (step_after start h (old h) e).effects.sends ≡ (replica_row s x).effects.sends
      pub front : List Mark
      pub back : List Mark
      pub unapplied : AreUnapplied front
      pub unapplied_behind : AreUnapplied back
      pub marks_are : e.step.marks ≡ front ++ ((replica_row s x).effects.marks ++ back)

    -- where the rows take nothing, their host sends nothing but what is their saver's, and marks nothing to be applied
    pub record IsQuiet : Type 0 where
      pub sends : Each IsOfSaver (step_after start h (old h) e).effects.sends
      pub marks : AreUnapplied e.step.marks

    pub data RowsGo : Type 0 where
      rest : AreAlike (rows_at start new member) (rows_at start old member) → (e.host ≡ h → IsQuiet) → RowsGo
      enter : (view : View) → AreAlike (rows_at start new member) (installed (rows_at start old member) view)
          → (e.host ≡ h → IsQuiet) → RowsGo
      take : (s : ReplicaState) → IsBetween s → IsTakenAt s → RowsGo

    -- the same, and which view it is: the current one
    pub data RowsTurn : Type 0 where
      rest_now : AreAlike (rows_at start new member) (rows_at start old member) → (e.host ≡ h → IsQuiet)
          → (e.host ≡ h → view_after start h (e ∷ old h) ≡ view_after start h (old h)) → RowsTurn
      enter_now : AreAlike (rows_at start new member) (installed (rows_at start old member) (current start new))
          → (e.host ≡ h → IsQuiet) → RowsTurn
      take_now : (s : ReplicaState) → IsBetween s
          → (s ≡ rows_at start old member) ⊎ (s ≡ installed (rows_at start old member) (current start new))
          → IsTakenAt s → RowsTurn

    forgets : RowsTurn → RowsGo
    forgets (rest_now is quiet stays) = rest is quiet
    forgets (enter_now is quiet) = enter (current start new) is quiet
    forgets (take_now s between which taken) = take s between taken

    module _ (at : e.host ≡ h) where
      abbrev log : List HostStep
      log = old h

      abbrev step : Step hosts.HostBody
      step = step_after start h log e

      abbrev own : LdmStep start h log e
      own = own_ldm start moment.cluster.nobody member there log e

      abbrev p : LdmPart
      p = own.own

      abbrev view_was : View
      view_was = view_after start h log

      was : rows_at start old member ≡ p.replica
      was = rows_are start member h log refl p own.runs

      -- behind the step
      behind_is : after start h (e ∷ log) ≡ step.state
      behind_is = told_some h (part_some start Ldm member) step

      now_is : (later : LdmPart) → step.state.parts ≡ part.Ldm later → rows_at start new member ≡ later.replica
      now_is later is =
          ap (rows_after start member) (log_of-own (machine start) e es h at)
          ∙ rows_are start member h (e ∷ log) refl later (ap (λ (s : hosts.HostBody). s.parts) behind_is ∙ is)

      view_is : (seen : View) → step.state.standing.view ≡ seen → view_after start h (e ∷ log) ≡ seen
      view_is seen is = ap (λ (s : hosts.HostBody). s.standing.view) behind_is ∙ is

      marks_of : e.step.marks ≡ step.effects.marks
      marks_of =
          let happens : Happens (sound_machine start) es e = moment.run.1 in
          subst (λ k. e.step.marks ≡ (step_after start k (old k) e).effects.marks) at happens.step.fits.marks

      between_is : (between : LdmPart) (seen : View) → Entering p view_was x between seen
          → step.state.standing.view ≡ seen → IsBetween between.replica
      between_is between seen (remains same stands none) stood =
          as_was (ap (λ (q : LdmPart). q.replica) same ∙ sym was) (view_is seen stood ∙ stands)
      between_is between seen (installs above same stands is) stood =
          entered x.view (ap (λ (q : LdmPart). q.replica) same
          ∙ ap (λ (s : ReplicaState). installed s x.view) (sym was))

      -- a view that is installed is the current one
      seen_now : view_after start h (e ∷ log) ≡ x.view → x.view ≡ current start new
      seen_now stands =
          let own : view_after start e.host (e ∷ old e.host) ≡ x.view =
          ap (λ k. view_after start k (e ∷ old k)) at ∙ stands in
          let number : (view_after start e.host (e ∷ old e.host)).number ≡ x.view.number =
          ap (λ (v : View). v.number) own in
          sym own ∙ taker_stands start all e es moment (omega (arith, number))

      which_is : (between : LdmPart) (seen : View) → Entering p view_was x between seen
          → step.state.standing.view ≡ seen
          → (between.replica ≡ rows_at start old member)
          ⊎ (between.replica ≡ installed (rows_at start old member) (current start new))
      which_is between seen (remains same stands none) stood = inl (ap (λ (q : LdmPart). q.replica) same ∙ sym was)
      which_is between seen (installs above same stands is) stood =
          inr (ap (λ (q : LdmPart). q.replica) same
          ∙ (λ i. installed (sym was i) (seen_now (view_is seen stood ∙ stands) i)))

      -- the rows take nothing
      idle : (between : LdmPart) (seen : View) → Entering p view_was x between seen
          → step.state.standing.view ≡ seen → AreAlike (rows_at start new member) between.replica → IsQuiet
          → RowsTurn
      idle between seen (remains same stands none) stood now quiet =
          rest_now (now ∙ ap unjournaled (ap (λ (q : LdmPart). q.replica) same ∙ sym was)) (λ here. quiet)
          (λ here. view_is seen stood ∙ stands)
      idle between seen (installs above same stands is) stood now quiet =
          enter_now
          (now ∙ ap unjournaled (ap (λ (q : LdmPart). q.replica) same
          ∙ (λ i. installed (sym was i) (seen_now (view_is seen stood ∙ stands) i))))
          (λ here. quiet)

      passed_to : (between : LdmPart) (seen : View) → Entering p view_was x between seen
          → step.state.standing.view ≡ seen → IsPassed start.shape (part.Ldm between) seen x → x.to.block ≡ block.Lqh
          → IsTakenNow start all e es moment block.Lqh
      passed_to between seen entering stood passed =
          taken_at start all e es moment h at ldm_kind ldm_is p between [] own.runs
          (subst (λ (v : View). Entering p view_was x between v) (sym (view_is seen stood)) entering)
          (subst (λ (v : View). IsPassed start.shape (part.Ldm between) v x) (sym (view_is seen stood)) passed)
          block.Lqh

      own_turn : RowsTurn
      unfolding ldm_row
      own_turn = by (ldm_goes start moment.cluster.nobody h log e p own.runs)
        where
          taking : (between : LdmPart) (seen : View) → Entering p view_was x between seen
              → IsPassed start.shape (part.Ldm between) seen x → step.state.standing.view ≡ seen → (b : BlockId)
              → x.to.block ≡ b → step.state.parts ≡ part.Ldm (ldm_row between b x).state
              → (step.effects.sends ≡ (ldm_row between b x).effects.sends) ⊎ StopsSilent step.effects
              → (front back : List Mark) → AreUnapplied front → AreUnapplied back
              → step.effects.marks ≡ front ++ ((ldm_row between b x).effects.marks ++ back) → RowsTurn
          taking between seen entering passed stood block.Lqh to parts sends front back none none_behind marks =
              by_rows (saver_goes own_saving x)
            where
              own_saving : SavingState
              own_saving = saving between.replica between.saver

              now : rows_at start new member ≡ (saver_row own_saving x).state.replica
              now = now_is (ldm_row between block.Lqh x).state parts

              sent_or : (list : List Outgoing) → (saver_row own_saving x).effects.sends ≡ list
                  → (step.effects.sends ≡ list) ⊎ (step.effects.sends ≡ [])
              sent_or list same = by sends
                where
                  by : (step.effects.sends ≡ (saver_row own_saving x).effects.sends) ⊎ StopsSilent step.effects
                      → (step.effects.sends ≡ list) ⊎ (step.effects.sends ≡ [])
                  by (inl is) = inl (is ∙ same)
                  by (inr silent) = inr silent.sends

              sent_on : (list : List Outgoing) → (saver_row own_saving x).effects.sends ≡ list
                  → stops_by e.step.marks ≡ false → step.effects.sends ≡ list
              sent_on list same on = by sends
                where
                  by : (step.effects.sends ≡ (saver_row own_saving x).effects.sends) ⊎ StopsSilent step.effects
                      → step.effects.sends ≡ list
                  by (inl is) = is ∙ same
                  by (inr silent) = absurd (true≢false (sym (ap stops_by marks_of ∙ silent.stops) ∙ on))

              marked : (list : List Mark) → (saver_row own_saving x).effects.marks ≡ list
                  → e.step.marks ≡ front ++ (list ++ back)
              marked list same = marks_of ∙ (marks ∙ ap (λ own_marks. front ++ (own_marks ++ back)) same)

              their_own : Each IsOfSaver (saver_row own_saving x).effects.sends → Each IsOfSaver step.effects.sends
              their_own all = by (sent_or (saver_row own_saving x).effects.sends refl)
                where
                  by : (step.effects.sends ≡ (saver_row own_saving x).effects.sends) ⊎ (step.effects.sends ≡ [])
                      → Each IsOfSaver step.effects.sends
                  by (inl is) = subst (Each IsOfSaver) (sym is) all
                  by (inr is) = subst (Each IsOfSaver) (sym is) tt

              by_rows : SaverGoes own_saving x (saver_row own_saving x) → RowsTurn
              by_rows (took rows effects) =
                  take_now between.replica (between_is between seen entering stood)
                  (which_is between seen entering stood) (record {
                    at = at;
                    now = passed_to between seen entering stood passed to;
                    rows_are = now ∙ rows;
                    sent = sent_or row.sends (ap (λ (all : Effects). all.sends) effects);
                    goes = sent_on row.sends (ap (λ (all : Effects). all.sends) effects);
                    front = front;
                    back = back;
                    unapplied = none;
                    unapplied_behind = none_behind;
                    marks_are = marked row.marks (ap (λ (all : Effects). all.marks) effects);
                  })
                where
                  row : Effects
                  row = (replica_row between.replica x).effects
              by_rows (saved alike own_sends unmarked) =
                  idle between seen entering stood (ap unjournaled now ∙ alike) (record {
                    sends = their_own own_sends;
                    marks =
                        subst AreUnapplied (sym (marked [] unmarked))
                        (each_append (λ mark. is_row_mark mark ≡ false) front back none none_behind);
                  })
          taking between seen entering passed stood _ to parts sends front back none none_behind marks =
              idle between seen entering stood (ap unjournaled (now_is between parts)) (record {
                sends = subst (Each IsOfSaver) (sym (quiet sends)) tt;
                marks =
                    subst AreUnapplied (sym (marks_of ∙ marks))
                    (each_append (λ mark. is_row_mark mark ≡ false) front back none none_behind);
              })
            where
              quiet : (step.effects.sends ≡ []) ⊎ StopsSilent step.effects → step.effects.sends ≡ []
              quiet (inl is) = is
              quiet (inr silent) = silent.sends

          by : Goes start.shape p view_was x step.state.parts step.state.standing.view step.effects.sends
              step.effects.marks → RowsTurn
          by (leaves between seen entering parts stood sends marks) =
              idle between seen entering stood (ap unjournaled (now_is between parts))
              (record {
                sends = subst (Each IsOfSaver) (sym sends) tt;
                marks = subst AreUnapplied (sym marks_of) marks;
              })
          by (takes between seen entering passed parts stood sends front back none none_behind marks) =
              taking between seen entering passed stood x.to.block refl parts sends front back none none_behind marks

    pub rows_turn : RowsTurn
    rows_turn =
        event_cases (machine start) e es h (λ log. RowsTurn) own_turn
        (λ other.
        rest_now (ap unjournaled (ap (rows_after start member) (log_of-other (machine start) e es h other)))
        (λ here. absurd (other here))
        (λ here. absurd (other here)))

    pub rows_go : RowsGo
    rows_go = forgets rows_turn

    -- what is so of all that its rows send at a signal that they take, and of their saver's signals, is so of all that
    -- their host sends
    pub rows_each : (Q : Outgoing → Type 0) → ((sent : Outgoing) → IsOfSaver sent → Q sent)
        → ((s : ReplicaState) → IsBetween s → IsTakenAt s → Each Q (replica_row s e.step.taken).effects.sends)
        → e.host ≡ ldm_of start member
        → Each Q (step_after start (ldm_of start member) (logs_of start es (ldm_of start member)) e).effects.sends
    rows_each Q own did at = by rows_go
      where
        of_saver : IsQuiet → Each Q (step_after start h (old h) e).effects.sends
        of_saver quiet = each_map IsOfSaver Q (step_after start h (old h) e).effects.sends own quiet.sends

        by : RowsGo → Each Q (step_after start h (old h) e).effects.sends
        by (rest is quiet) = of_saver (quiet at)
        by (enter view is quiet) = of_saver (quiet at)
        by (take s between taken) = sent taken.sent
          where
            sent : ((step_after start h (old h) e).effects.sends ≡ (replica_row s x).effects.sends)
                ⊎ ((step_after start h (old h) e).effects.sends ≡ [])
                → Each Q (step_after start h (old h) e).effects.sends
            sent (inl is) = subst (Each Q) (sym is) (did s between taken)
            sent (inr is) = subst (Each Q) (sym is) tt
