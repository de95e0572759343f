-- Along the log of a coordinator's host: what it gives with a request for an epoch are operations that it took, and
-- their answers, all that it has told.
use Rattle.std.proofs.Common.{◌≡◌, ◌≤◌, ◌+◌, ◌∙◌, ◌++◌, ◌⊎◌, ℕ, Bool, true, false, List, [], ◌∷◌, length, ap, arith}
use Rattle.std.proofs.Common.{inl, inr, refl, subst, sym}
use Rattle.std.specs.List.{cons_option}
use Rattle.std.specs.Prelude.{Option, None, Some}
use Rattle.run_theory.specs.Lists.{Each, IsIn}
use Rattle.run_theory.proofs.Pasts.{each_map}
use Rattle.sig_core.specs.declared.member.Member.{Member}
use Rattle.sig_core.specs.declared.member.TxId.{TxId}
use Rattle.sig_core.specs.declared.op.Answer.{Answer}
use Rattle.sig_core.specs.declared.op.Op.{Op}
use Rattle.sig_core.specs.declared.outs.Outgoing.{Outgoing}
use Rattle.sig_core.specs.declared.place.BlockId.{BlockId}
use Rattle.sig_core.specs.declared.place.BlockId.TheVariants as block
use Rattle.sig_core.specs.declared.signal.Body.{Body}
use Rattle.sig_core.specs.declared.signal.Body.TheVariants.{Client, Epoch}
use Rattle.sig_core.specs.declared.signal.Signal.{Signal}
use Rattle.sig_core.specs.declared.signal.client.ClientSignal.TheVariants.{TcKeyConf}
use Rattle.sig_core.specs.declared.signal.epoch.EpochSignal.TheVariants.{DiVerifyReq}
use Rattle.sig_core.specs.declared.view.View.{View}
use Rattle.report_laws.specs.Asked.{asked_by}
use Rattle.frag_map.specs.Layout.{first_layout}
use Rattle.sig_core.specs.declared.view.Shape.{Shape}
use Rattle.tc_block.specs.Complete.{one_if}
use Rattle.dih_node.specs.Orders as dih
use Rattle.dih_node.specs.Dih.{fresh_dih}
use Rattle.takeover_block.specs.State.{resting}
use Rattle.node_views.specs.declared.host_body.HostBody as node
use Rattle.node_views.specs.declared.parts.Parts.TheVariants as part
use Rattle.node_views.specs.declared.tc_part.TcPart.{TcPart}
use Rattle.node_views.specs.Parts.{tc_entered, tc_row}
use Rattle.tc_views.specs.Coordinator.{fresh_coordinator}
use Rattle.tc_views.specs.State.{CoordinatorState}
use Rattle.tc_views.specs.Views as coordinator
use Rattle.world_core.specs.Entries.{verified_by}
use Rattle.world_core.specs.Start.{NobodyStarts, Start, made}
use Rattle.world_core.specs.Steps.{HostStep}
use Rattle.world_views.specs.Machine.{after, step_after}
use Rattle.view_laws.specs.Runs.{view_after}
use Rattle.moment_laws.specs.PartSteps.{PartEnters, PartTakes, TcDoes, handles, ignores, installs, remains, tc_kind}
use Rattle.moment_laws.specs.Places.{tc_of}
use Rattle.moment_laws.proofs.MomentHosts.{tc_started}
use Rattle.moment_laws.proofs.PartKinds.{tc_after}
use Rattle.outcome_laws.specs.Counts.{IsCoordinatorOf, is_unborn}
use Rattle.outcome_laws.proofs.once.Begins.{tc_begins}
use Rattle.outcome_laws.proofs.once.Counted.{AreUncounted, IsUncounted, is_counted}
use Rattle.outcome_laws.proofs.once.CoordinatorScale.{IsTcOf, dih_installs_none, dih_none}
use Rattle.outcome_laws.proofs.takeovers.SendUncounted.{takeover_none}
use Rattle.outcome_laws.proofs.coordinators.BeginsAndAsks.{coordinator_of_installed, coordinator_of_stays}
use Rattle.talk_laws.proofs.Among.{AreAmong, among_none, among_same, among_trans}
use Rattle.talk_laws.proofs.Picks.{pick_sends, picked_both, picked_more, picked_none, sent_of, taken_of}
use Rattle.talk_laws.proofs.TcSteps.{gave_count, installs_talked, row_talked}
use Rattle.talk_laws.proofs.TcTrack.{Gives, IsFit, Talked, more_gives, more_took, told_by}

uncounted_told : (tx : TxId) (body : Body) → is_counted body ≡ false → told_by tx body ≡ None
uncounted_told tx (Client (TcKeyConf other answer)) none = absurd cc
uncounted_told tx body none = refl

uncounted_verified : (tx : TxId) (body : Body) → is_counted body ≡ false → verified_by tx body ≡ None
uncounted_verified tx (Epoch (DiVerifyReq other ops)) none = absurd cc
uncounted_verified tx body none = refl

each_picked : {A : Type 0} (P : A → Type 0) (f : Body → Option A) (sends : List Outgoing) (before : List A)
    → Each P (pick_sends f sends before) → Each P before
each_picked {A} P f [] before all = all
each_picked {A} P f (one ∷ sends) before all =
    by (f one.body) (each_picked P f sends (cons_option (f one.body) before) all)
  where
    by : (o : Option A) → Each P (cons_option o before) → Each P before
    by None all = all
    by (Some x) all = all.1

module _ (tx : TxId) (me : Member) where
  -- the coordinator of a part, so far
  pub record IsTalked (p : TcPart) (told : List Answer) (took : List Op) (gave : List (List (Op × Answer))) : Type 0
    where
      pub of : IsCoordinatorOf me p.coordinator
      pub talked : Talked tx p.coordinator told took gave

  -- other operations are taken
  takes_more : (s : CoordinatorState) (told : List Answer) (took : List Op) (gave : List (List (Op × Answer)))
      (o : Option Op) → Talked tx s told took gave → Talked tx s told (cons_option o took) gave
  takes_more s told took gave o is = record {
    unborn = is.unborn;
    fits = each_map (IsFit tx told took) (IsFit tx told (cons_option o took)) s.tc.live (more_took tx told took o)
        is.fits;
    gives = each_map (Gives told took) (Gives told (cons_option o took)) gave (more_gives tx told took o) is.gives;
    few = is.few;
  }

  -- what it sends doesn't go
  hushes : (s : CoordinatorState) (told : List Answer) (took : List Op) (gave : List (List (Op × Answer)))
      (sends : List Outgoing)
      → Talked tx s (pick_sends (told_by tx) sends told) took (pick_sends (verified_by tx) sends gave)
      → Talked tx s told took gave
  hushes s told took gave sends is = record {
    unborn = λ born. among_none told more fewer (is.unborn born);
    fits =
        each_map (IsFit tx more took) (IsFit tx told took) s.tc.live
        (λ e fit same opened.
        let own = fit same opened in
        record {
          answers_are = among_trans told more _ fewer own.answers_are;
          ops_are = own.ops_are;
        })
        is.fits;
    gives =
        each_picked (Gives told took) (verified_by tx) sends gave
        (each_map (Gives more took) (Gives told took) (pick_sends (verified_by tx) sends gave)
        (λ ops own.
        record { answers_are = among_trans told more _ fewer own.answers_are; ops_are = own.ops_are })
        is.gives);
    few = omega (arith, is.few, gave_count tx sends gave);
  }
    where
      more : List Answer
      more = pick_sends (told_by tx) sends told

      fewer : AreAmong told more
      fewer = picked_more (λ (sent : Outgoing). told_by tx sent.body) sends told told (among_same told)

  uncounted_picks : {A : Type 0} (f : Body → Option A) → ((body : Body) → is_counted body ≡ false → f body ≡ None)
      → (sends : List Outgoing) (before : List A) → AreUncounted sends → pick_sends f sends before ≡ before
  uncounted_picks f silent sends before none =
      picked_none (λ (sent : Outgoing). f sent.body) sends before
      (each_map IsUncounted (λ (sent : Outgoing). f sent.body ≡ None) sends (λ sent is. silent sent.body is) none)

  module _ (told : List Answer) (took : List Op) (gave : List (List (Op × Answer))) where
    abbrev After : TcPart → List Outgoing → List Op → Type 0
    After p sends asked = IsTalked p (pick_sends (told_by tx) sends told) asked (pick_sends (verified_by tx) sends gave)

    -- another block of the part sends nothing of it
    beside : (p now : TcPart) (sends : List Outgoing) (o : Option Op) → IsTalked p told took gave
        → now.coordinator ≡ p.coordinator → AreUncounted sends → After now sends (cons_option o took)
    beside p now sends o is same none = record {
      of = subst (IsCoordinatorOf me) (sym same) is.of;
      talked =
          subst (λ s. Talked tx s (pick_sends (told_by tx) sends told) (cons_option o took)
          (pick_sends (verified_by tx) sends gave)) (sym same)
          (subst (λ some. Talked tx p.coordinator some (cons_option o took) (pick_sends (verified_by tx) sends gave))
          (sym (uncounted_picks (told_by tx) (uncounted_told tx) sends told none))
          (subst (Talked tx p.coordinator told (cons_option o took))
          (sym (uncounted_picks (verified_by tx) (uncounted_verified tx) sends gave none))
          (takes_more p.coordinator told took gave o is.talked)));
    }

    row_is : (p : TcPart) (to : BlockId) (x : Signal) → IsTalked p told took gave
        → After (tc_row p to x).state (tc_row p to x).effects.sends (cons_option (asked_by tx x.body) took)
    unfolding tc_row
    row_is p block.Tc x is = record {
      of = coordinator_of_stays me p.coordinator x is.of;
      talked = row_talked tx told took gave me p.coordinator is.of is.talked x;
    }
    row_is p block.Takeover x is =
        beside p (tc_row p block.Takeover x).state (tc_row p block.Takeover x).effects.sends (asked_by tx x.body) is
        refl
        (takeover_none p.takeover x)
    row_is p block.Dih x is =
        beside p (tc_row p block.Dih x).state (tc_row p block.Dih x).effects.sends (asked_by tx x.body) is refl
        (dih_none p.dih x)
    row_is p to x is = beside p p [] (asked_by tx x.body) is refl tt

    enters_is : (p : TcPart) (view : View) → IsTalked p told took gave
        → After (tc_entered p view).state (tc_entered p view).effects.sends took
    enters_is p view is = record {
      of = coordinator_of_installed me p.coordinator view is.of;
      talked =
          subst (λ some. Talked tx (tc_entered p view).state.coordinator some took
          (pick_sends (verified_by tx) (tc_entered p view).effects.sends gave))
          (sym (same (told_by tx) (uncounted_told tx) told))
          (subst (Talked tx (tc_entered p view).state.coordinator (pick_sends (told_by tx) own told) took)
          (sym (same (verified_by tx) (uncounted_verified tx) gave))
          (installs_talked tx told took gave me p.coordinator is.of is.talked view));
    }
      where
        own : List Outgoing
        own = (coordinator.install_row p.coordinator view).effects.sends

        other : List Outgoing
        other = (dih.install_row p.dih view.number).effects.sends

        same : {A : Type 0} (f : Body → Option A) → ((body : Body) → is_counted body ≡ false → f body ≡ None)
            → (before : List A) → pick_sends f (own ++ other) before ≡ pick_sends f own before
        same f silent before =
            picked_both (λ (sent : Outgoing). f sent.body) own other before
            ∙ uncounted_picks f silent other (pick_sends f own before) (dih_installs_none p.dih view.number)

  -- a step of its part
  module _ (p : TcPart) (x : Signal) (told : List Answer) (took : List Op) (gave : List (List (Op × Answer)))
      (is : IsTalked p told took gave)
    where
      entered : (between : TcPart) (view stood : View) (front : List Outgoing)
          → PartEnters tc_kind p view x between stood front → After told took gave between front took
      entered between view stood front (remains same stands none) =
          subst (λ q. After told took gave q front took) (sym same)
          (subst (λ sends. After told took gave p sends took) (sym none) is)
      entered between view stood front (installs above same stands sends) =
          subst (λ q. After told took gave q front took) (sym same)
          (subst (λ sends. After told took gave (tc_entered p x.view).state sends took) (sym sends)
          (enters_is told took gave p x.view is))

      takes_it : (shape : Shape) (between own : TcPart) (stood : View) (front rest : List Outgoing)
          → After told took gave between front took → PartTakes tc_kind shape between stood x own rest
          → IsTalked own (pick_sends (told_by tx) (front ++ rest) told) (cons_option (asked_by tx x.body) took)
          (pick_sends (verified_by tx) (front ++ rest) gave)
      takes_it shape between own stood front rest before takes =
          subst (λ some. IsTalked own some (cons_option (asked_by tx x.body) took)
          (pick_sends (verified_by tx) (front ++ rest) gave))
          (sym (picked_both (λ (sent : Outgoing). told_by tx sent.body) front rest told))
          (subst (IsTalked own (pick_sends (told_by tx) rest (pick_sends (told_by tx) front told))
          (cons_option (asked_by tx x.body) took))
          (sym (picked_both (λ (sent : Outgoing). verified_by tx sent.body) front rest gave)) (by takes))
        where
          first : List Answer
          first = pick_sends (told_by tx) front told

          given : List (List (Op × Answer))
          given = pick_sends (verified_by tx) front gave

          by : PartTakes tc_kind shape between stood x own rest
              → After first took given own rest (cons_option (asked_by tx x.body) took)
          by (ignores same none) =
              subst (λ q. After first took given q rest (cons_option (asked_by tx x.body) took)) (sym same)
              (subst (λ sends. After first took given between sends (cons_option (asked_by tx x.body) took)) (sym none)
              (record {
                of = before.of;
                talked = takes_more between.coordinator first took given (asked_by tx x.body) before.talked;
              }))
          by (handles passed same sends) =
              subst (λ q. After first took given q rest (cons_option (asked_by tx x.body) took)) (sym same)
              (subst
              (λ list. After first took given (tc_row between x.to.block x).state list
              (cons_option (asked_by tx x.body) took))
              (sym sends) (row_is first took given between x.to.block x before))

      goes_or_not : (own : TcPart) (all sends : List Outgoing) (asked : List Op) → After told took gave own all asked
          → (sends ≡ all) ⊎ (sends ≡ []) → After told took gave own sends asked
      goes_or_not own all sends asked after (inl same) =
          subst (λ list. After told took gave own list asked) (sym same) after
      goes_or_not own all sends asked after (inr none) =
          subst (λ list. After told took gave own list asked) (sym none)
          (record { of = after.of; talked = hushes own.coordinator told asked gave all after.talked })

  -- along the log of its host, which begins with a part of its member
  module _ (start : Start) (there : IsIn me (made start)) where
    pub record TalkedLog (log : List HostStep) : Type 0 where
      pub own : TcPart
      pub runs : (after start (tc_of start me) log).parts ≡ part.Tc own
      pub is : IsTalked own (sent_of (told_by tx) start (tc_of start me) log) (taken_of (asked_by tx) log)
          (sent_of (verified_by tx) start (tc_of start me) log)

    abbrev first_part : TcPart
    first_part = record {
      coordinator = fresh_coordinator me.node me.start (first_layout start.shape);
      takeover = resting me.node (first_layout start.shape);
      dih = fresh_dih me.node (first_layout start.shape).view.number start.epoch start.start_epoch;
    }

    at_first : NobodyStarts start → TalkedLog []
    at_first nobody = record {
      own = first_part;
      runs = ap (λ (s : node.HostBody). s.parts) (tc_started start nobody me there);
      is = record {
        of = subst (IsTcOf me) (ap (λ (s : node.HostBody). s.parts) (tc_started start nobody me there))
            (tc_begins start nobody me there);
        talked = record {
          unborn = λ born. refl;
          fits = tt;
          gives = tt;
          few = ones (is_unborn first_part.coordinator tx);
        };
      };
    }
      where
        ones : (b : Bool) → length {A = List (Op × Answer)} [] + (one_if b + 0) ≤ 1
        ones true = omega arith
        ones false = omega arith

    pub log_talked : NobodyStarts start → 1 ≤ tc_of start me → (log : List HostStep) → TalkedLog log
    log_talked nobody some [] = at_first nobody
    log_talked nobody some (e ∷ log) = by (log_talked nobody some log)
      where
        h : ℕ
        h = tc_of start me

        by : TalkedLog log → TalkedLog (e ∷ log)
        by old = step (tc_after start nobody h log e some old.own old.runs)
          where
            told : List Answer
            told = sent_of (told_by tx) start h log

            took : List Op
            took = taken_of (asked_by tx) log

            gave : List (List (Op × Answer))
            gave = sent_of (verified_by tx) start h log

            step : TcDoes start.shape old.own (view_after start h log) e.step.taken (after start h (e ∷ log)).parts
                (view_after start h (e ∷ log)) (step_after start h log e).effects.sends → TalkedLog (e ∷ log)
            step did = record {
              own = did.own;
              runs = did.is;
              is =
                  goes_or_not old.own e.step.taken told took gave old.is did.own (did.front ++ did.rest)
                  (step_after start h log e).effects.sends (cons_option (asked_by tx e.step.taken.body) took)
                  (takes_it old.own e.step.taken told took gave old.is start.shape did.between did.own
                  (view_after start h (e ∷ log)) did.front did.rest
                  (entered old.own e.step.taken told took gave old.is did.between (view_after start h log)
                  (view_after start h (e ∷ log)) did.front did.enters)
                  did.takes)
                  did.sent;
            }
