-- A takeover that is complete in a view has told the client's side of each commit of which only members know.
use Rattle.std.proofs.Common.{◌≡◌, ◌⊎◌, ◌∙◌, ◌<◌, ◌==◌, ◌+◌, ◌++◌, ℕ, Bool, true, false, append-nil, nat_lt}
use Rattle.std.proofs.Common.{length, List, [], ◌∷◌, inl, inr, refl, sym, ap, subst, arith}
use Rattle.std.proofs.lemmas.Bool.{eqb-true, true≢false}
use Rattle.std.proofs.lemmas.Bool.Decides.{nat_tests}
use Rattle.std.specs.Prelude.{if◌then◌else◌, Option, None, Some, slice_get}
use Rattle.run_theory.specs.Links.{sent, sent_by}
use Rattle.run_theory.specs.Lists.{IsIn, IsPast}
use Rattle.run_theory.specs.Logs.{IsRunning}
use Rattle.run_theory.specs.Machine.{Machine}
use Rattle.run_theory.specs.Runs.{Happens}
use Rattle.run_theory.proofs.Links.{sent_more}
use Rattle.run_theory.proofs.Pasts.{each_in, each_map, in_append, in_past, past_self}
use Rattle.run_theory.proofs.EventCases.{event_cases}
use Rattle.commit_laws.proofs.fates.Moves.{begun_by}
use Rattle.commit_laws.proofs.forth.Grows.{known_grows}
use Rattle.sig_core.specs.declared.member.Member.{Member}
use Rattle.sig_core.specs.declared.member.TxId.{TxId}
use Rattle.sig_core.specs.declared.outs.Outgoing.{Outgoing}
use Rattle.sig_core.specs.declared.place.BlockId.{BlockId}
use Rattle.sig_core.specs.declared.place.BlockId.TheVariants as block
use Rattle.sig_core.specs.declared.place.Part.TheVariants as kinds
use Rattle.sig_core.specs.declared.signal.Body.{Body}
use Rattle.sig_core.specs.declared.signal.Body.TheVariants.{Client, Takeover}
use Rattle.sig_core.specs.declared.signal.Signal.{Signal}
use Rattle.sig_core.specs.declared.signal.client.ClientSignal.TheVariants.{NfCompleteRep, TcKeyFailConf}
use Rattle.sig_core.specs.declared.signal.takeover.TakeoverSignal.TheVariants.{LqhTransEnd}
use Rattle.sig_core.specs.declared.view.View.{View}
use Rattle.sig_core.specs.Step.{Step}
use Rattle.frag_map.specs.Layout.{Layout}
use Rattle.lqh_block.specs.Views.{was_begun_by}
use Rattle.takeover_block.specs.declared.gathered.Gathered.{Gathered}
use Rattle.takeover_block.specs.declared.stage.Stage.{Stage}
use Rattle.takeover_block.specs.declared.stage.Stage.TheVariants.{Aborting, Committing, Completing, Gathering, Resting}
use Rattle.takeover_block.specs.Gather.{member_count}
use Rattle.takeover_block.specs.Sends.{told_committed}
use Rattle.takeover_block.specs.State.{TakeoverState}
use Rattle.node_views.specs.declared.host_body.HostBody as hosts
use Rattle.node_views.specs.declared.parts.Parts.{Parts}
use Rattle.node_views.specs.declared.parts.Parts.TheVariants as part
use Rattle.node_views.specs.declared.tc_part.TcPart.{TcPart}
use Rattle.node_views.specs.Blocks.{parts_entered, parts_row, settled_at}
use Rattle.node_views.specs.Parts.{tc_entered, tc_row}
use Rattle.node_views.specs.WellFormed.{is_tx}
use Rattle.world_core.specs.Hosts.{hosts as host_count}
use Rattle.world_core.specs.Start.{NobodyStarts, Start, made}
use Rattle.world_core.specs.Steps.{Addressed, HostStep}
use Rattle.world_views.specs.Machine.{after, machine, step_after, stops_by}
use Rattle.view_laws.proofs.runs.FirstMembers.{node_low, node_some}
use Rattle.view_laws.specs.Order.{sound_machine}
use Rattle.view_laws.specs.Runs.{view_after}
use Rattle.view_laws.proofs.ballots.MadeSets.{in_either}
use Rattle.moment_laws.specs.Moments.{IsMoment, current, logs_of}
use Rattle.moment_laws.specs.Parts.{Enters, IsPassed, enters, stays}
use Rattle.moment_laws.specs.Places.{tc_of}
use Rattle.moment_laws.proofs.MomentHosts.{TcHost, of_none, of_tc, part_some, tc_host_is, tc_low}
use Rattle.moment_laws.proofs.MomentMembers.{current_made}
use Rattle.moment_laws.proofs.MomentTurns.{host_low}
use Rattle.moment_laws.proofs.MomentViews.{current_number, moment_less, number_in, stands_in_current}
use Rattle.moment_laws.proofs.PartTaken.{IsTakenNow, passed_now}
use Rattle.outcome_laws.specs.Counts.{coordinator_member}
use Rattle.request_laws.specs.Blocks.{takeover_after}
use Rattle.request_laws.proofs.phases.AlongLogs.{told_some}
use Rattle.request_laws.proofs.phases.Stands.{coordinators_stand}
use Rattle.request_laws.proofs.routes.Entering.{own_full}
use Rattle.request_laws.proofs.routes.Headers.{takeover_fenced}
use Rattle.request_laws.proofs.routes.Layouts.{RunsTc, runs_tc}
use Rattle.request_laws.proofs.routes.PartSteps.{takeover_is}
use Rattle.request_laws.specs.Orphans.{IsOrphan}
use Rattle.commit_laws.specs.Fates.{Fate, aborts, commits, fate, fate_if, is_led_by_full, undetermined}
use Rattle.commit_laws.specs.Gathering.{EndsGathering}
use Rattle.commit_laws.specs.Going.{is_forth, is_lost}
use Rattle.commit_laws.specs.Reported.{AreAttended, CompletesLast, GatheringsList, IsListed, IsSaid, aborted, known}
use Rattle.commit_laws.specs.Reported.{told}
use Rattle.commit_laws.specs.Takeovers.{takeover_at}
use Rattle.commit_laws.specs.Together.{FatesMove, Follows}
use Rattle.commit_laws.specs.Traces.{has_trace, is_known}
use Rattle.commit_laws.proofs.fates.Committed.{decided_made}
use Rattle.commit_laws.proofs.reported.CompleteOthers.{apart_say_none, blocks_say_none, installs_say_none}
use Rattle.commit_laws.proofs.reported.CompleteWords.{AreNoWords, is_no_word}
use Rattle.commit_laws.proofs.fates.Forth.{fate_decided}
use Rattle.commit_laws.proofs.hosts.Goes.{HostGoes, halts, host_goes, leaves, takes}
use Rattle.commit_laws.proofs.reported.Rulings.{AreLast, IsLast, SaidBy, TellsAll, goes_on_telling, tells_more}
use Rattle.commit_laws.proofs.reported.Sent.{CanTell, IsNew, IsPutAt, can_before, comes_now, goes_on_link, new_sent}
use Rattle.commit_laws.proofs.reported.Sent.{put_at, was_there}
use Rattle.commit_laws.proofs.fates.SpokenHost.{StandsStill, stood_still}
use Rattle.commit_laws.proofs.fates.SpokenTakeover.{IsAbortingAt}
use Rattle.commit_laws.proofs.takeover.GoesOn.{stands_on}
use Rattle.commit_laws.proofs.takeover.Words.{Aborts}
use Rattle.commit_laws.proofs.hosts.SomePasses.{passing}

-- a transaction whose coordinator is no node of the cluster aborts
made_sound : (start : Start) (nobody : NobodyStarts start) (tx : TxId) → IsIn (coordinator_member tx) (made start)
    → is_tx start.shape tx ≡ true
made_sound start nobody tx there =
    let some = node_some start nobody (coordinator_member tx) there in
    let low = node_low start nobody (coordinator_member tx) there in
    grind (arith, nat_tests, some, low)

pub led_fate : (known full forth lost trace : Bool) → fate_if known full forth lost trace ≡ undetermined → full ≡ true
led_fate true full forth lost trace is = absurd cc
led_fate false true forth lost trace is = refl
led_fate false false forth lost true is = absurd cc
led_fate false false forth lost false is = absurd cc

unsound_aborts : (start : Start) (all : ℕ → List HostStep) (es : List HostStep) → IsMoment start all es → (tx : TxId)
    → is_tx start.shape tx ≡ false → fate start (logs_of start es) tx ≡ aborts
unsound_aborts start all es moment tx off = by (fate start (logs_of start es) tx) refl
  where
    not_made : IsIn (coordinator_member tx) (made start) → ⊥
    not_made there = true≢false (sym (made_sound start moment.cluster.nobody tx there) ∙ off)

    by : (f : Fate) → fate start (logs_of start es) tx ≡ f → f ≡ aborts
    by aborts is = refl
    by commits is =
        absurd (not_made (decided_made start all es moment tx (fate_decided start all es moment tx is)))
    by undetermined is =
        let full =
        led_fate (is_known start (logs_of start es) tx) (is_led_by_full start (logs_of start es) tx)
        (is_forth start (logs_of start es) tx) (is_lost start (logs_of start es) tx)
        (has_trace start (logs_of start es) tx) is in
        let one = passing (was_begun_by tx) (current start (logs_of start es)).full full in
        absurd (not_made (subst (λ (m : Member). IsIn m (made start)) (begun_by tx one.item one.is)
        (current_made start all es moment one.item one.there)))

-- a view with a member counts some
pub has_members : (view : View) (m : Member) → IsIn m view.full → (member_count view == 0) ≡ true → ⊥
has_members view m there none = by view.full there none
  where
    by : (xs : List Member) → IsIn m xs → (length xs + length view.starting == 0) ≡ true → ⊥
    by [] there none = absurd there
    by (x ∷ xs) there none =
        absurd (omega (arith, eqb-true (length (x ∷ xs) + length view.starting) 0 none))

-- what a takeover has said where its host stands in the current view, runs, and may tell the client's side
abbrev pub TakeoverTells : Start → (ℕ → List HostStep) → Member → Type 0
TakeoverTells start logs member =
    number_in start logs (tc_of start member) ≡ current_number start logs
    → IsRunning (sound_machine start) (logs (tc_of start member))
    → CanTell start (tc_of start member) (logs (tc_of start member))
    → TellsAll (IsOrphan (current start logs))
    (λ tx. IsSaid start logs tx (sent (sound_machine start) (tc_of start member) 0 (logs (tc_of start member))))
    (takeover_at start logs member)

longer : (start : Start) (logs : ℕ → List HostStep) (tx : TxId) (ys zs : List Addressed) → IsPast ys zs
    → IsSaid start logs tx ys → IsSaid start logs tx zs
longer start logs tx ys zs past (aborted is) = aborted is
longer start logs tx ys zs past (known is) = known is
longer start logs tx ys zs past (told one) =
    told (record {
      epoch = one.epoch;
      signal = one.signal;
      there = in_past one.signal past one.there;
      place = one.place;
      body = one.body;
    })

module _ (list : GatheringsList) (start : Start) (all : ℕ → List HostStep) (e : HostStep) (es : List HostStep)
    (follows : Follows start all e es) (moves : (tx : TxId) → FatesMove start e es tx)
  where
    abbrev old : ℕ → List HostStep
    old = logs_of start es

    abbrev new : ℕ → List HostStep
    new = logs_of start (e ∷ es)

    abbrev n : Machine HostStep Addressed
    n = sound_machine start

    abbrev moment : IsMoment start all (e ∷ es)
    moment = follows.moment

    abbrev x : Signal
    x = e.step.taken

    less : IsMoment start all es
    less = moment_less start all e es moment

    happens : Happens (sound_machine start) es e
    happens = moment.run.1

    -- what was said is said behind the event
    said_more : (tx : TxId) (ys zs : List Addressed) → IsPast ys zs → IsSaid start old tx ys → IsSaid start new tx zs
    said_more tx ys zs past (aborted is) = aborted ((moves tx).aborting is)
    said_more tx ys zs past (known is) = known (known_grows start e es tx is)
    said_more tx ys zs past (told one) = longer start new tx ys zs past (told one)

    module _ (member : Member) (there : IsIn member (made start))
        (before : TakeoverTells start (logs_of start es) member) where
      abbrev h : ℕ
      h = tc_of start member

      abbrev log : List HostStep
      log = old (tc_of start member)

      abbrev stood : View
      stood = view_after start (tc_of start member) log

      abbrev view : View
      view = view_after start (tc_of start member) (e ∷ log)

      abbrev step : Step hosts.HostBody
      step = step_after start (tc_of start member) log e

      -- who has no coordinator now, and what was said before the event is sent
      abbrev O : TxId → Type 0
      O = IsOrphan (current start new)

      abbrev S : TxId → Type 0
      S tx = IsSaid start (logs_of start (e ∷ es)) tx (sent (sound_machine start) (tc_of start member) 0 log)

      was : StandsStill start e es member → IsRunning n log → CanTell start h log
          → TellsAll O S (takeover_after start member log)
      was still runs can =
          subst (λ (v : View). TellsAll (IsOrphan v) S (takeover_after start member log)) (sym still.current_is)
          (tells_more (IsOrphan (current start old)) (λ tx. IsSaid start old tx (sent n h 0 log)) S
          (λ tx said. said_more tx (sent n h 0 log) (sent n h 0 log) (past_self (sent n h 0 log)) said)
          (takeover_after start member log) (before still.number_is runs can))

      module _ (at : e.host ≡ tc_of start member) where
        own : RunsTc start (after start (tc_of start member) log)
        own = runs_tc start follows.moment.cluster.nobody member there log

        full : IsIn member view.full
        full = own_full start all e es moment member there at (coordinators_stand start all es less member there)

        goes : HostGoes start.shape (part.Tc own.own) stood x step
        goes =
            subst (λ (parts : Parts). HostGoes start.shape parts stood x step) own.runs
            (host_goes start follows.moment.cluster.nobody h log e (ap (λ (parts : Parts). settled_at parts x) own.runs)
            (ap (λ (parts : Parts). settled_at (parts_entered parts x.view).state x) own.runs))

        running : IsRunning (sound_machine start) log
        running = subst (λ k. IsRunning n (old k)) at happens.step.runs

        marks : e.step.marks ≡ step.effects.marks
        marks = subst (λ k. e.step.marks ≡ (step_after start k (old k) e).effects.marks) at happens.step.fits.marks

        -- where the part takes the signal its host stands in the current view
        taken_now : (between : Parts) (seen : View) (front : List Outgoing)
            → Enters (part.Tc own.own) stood x between seen front → IsPassed start.shape between seen x → view ≡ seen
            → (b : BlockId) → x.to.block ≡ b → IsTakenNow start all e es moment b
        taken_now between seen front entering passed same b to =
            passed_now start all e es moment between seen front
            (subst (λ k. Enters (after start k (old k)).parts (view_after start k (old k)) x between seen front)
            (sym at)
            (subst (λ (parts : Parts). Enters parts stood x between seen front) (sym own.runs) entering))
            passed (subst (λ k. view_after start k (e ∷ old k) ≡ seen) (sym at) same) b to

        current_is : (b : BlockId) → IsTakenNow start all e es moment b → view ≡ current start new
        current_is b taken = subst (λ k. view_after start k (e ∷ old k) ≡ current start new) at taken.stands

        module _ (can : CanTell start (tc_of start member) (e ∷ log)) (stands : view.number ≡ current_number start new)
          where
            -- the part before it takes the signal
            record Inside (between : Parts) : Type 0 where
              q : TcPart
              is : between ≡ part.Tc q
              tells : TellsAll O S q.takeover
              back : IsAbortingAt S q.takeover.stage (slice_get q.takeover.gathered 0)
              members : (member_count q.takeover.layout.view == 0) ≡ true → ⊥
              closes : IsTakenNow start all e es moment block.Takeover → (m : ℕ) → x.body ≡ Takeover LqhTransEnd
                  → q.takeover.stage ≡ Gathering m → nat_lt 1 m ≡ false → AreAttended O S q.takeover.gathered

            back_more : (stage : Stage) (first : Option Gathered) → IsAbortingAt (Aborts start new) stage first
                → IsAbortingAt S stage first
            back_more (Aborting m) (Some g) is = aborted is
            back_more (Aborting m) None is = tt
            back_more Resting first is = tt
            back_more (Gathering m) first is = tt
            back_more (Committing epoch m) first is = tt
            back_more (Completing epoch m) first is = tt

            -- where it stands still
            module _ (same : view ≡ stood) where
              still : StandsStill start e es member
              still =
                  let number : view.number ≡ stood.number = ap (λ (v : View). v.number) same in
                  stood_still start all e es moment member there view.number stands (omega (arith, number))

              takeover_same : takeover_after start member log ≡ own.own.takeover
              takeover_same = takeover_is start member h log refl own.own own.runs

              stood_is : stood ≡ current start old
              stood_is = stands_in_current start all es less h (tc_low start follows.moment.cluster.nobody member there)
                  still.number_is

              closes_still : IsTakenNow start all e es moment block.Takeover → (m : ℕ) → x.body ≡ Takeover LqhTransEnd
                  → own.own.takeover.stage ≡ Gathering m → nat_lt 1 m ≡ false
                  → AreAttended O S own.own.takeover.gathered
              closes_still taken m ends gathers last tx orphan =
                  by (list start all e es moment member closing tx
                  (subst (λ (v : View). IsOrphan v tx) still.current_is orphan))
                where
                  closing : EndsGathering start e es member
                  closing = record {
                    made_is = there;
                    host_is = at;
                    block_is = taken.block;
                    body_is = ends;
                    sound = taken.sound;
                    header = taken.fresh (takeover_fenced x LqhTransEnd ends);
                    same = still.current_is;
                    stands = stood_is;
                    awaited = m;
                    gathers = ap (λ (s : TakeoverState). s.stage) takeover_same ∙ gathers;
                    last = last;
                  }

                  nothing : IsPast [] (sent n h 0 log)
                  nothing = record { newer = sent n h 0 log; is = sym (append-nil (sent n h 0 log)) }

                  by : IsSaid start old tx [] ⊎ IsListed tx (takeover_at start old member).gathered
                      → S tx ⊎ IsListed tx own.own.takeover.gathered
                  by (inl said) = inl (said_more tx [] (sent n h 0 log) nothing said)
                  by (inr listed) = inr (subst (λ (s : TakeoverState). IsListed tx s.gathered) takeover_same listed)

              inside_still : Inside (part.Tc own.own)
              inside_still = record {
                q = own.own;
                is = refl;
                tells = subst (TellsAll O S) takeover_same (was still running (can_before start h log e same can));
                back =
                    subst (λ (s : TakeoverState). IsAbortingAt S s.stage (slice_get s.gathered 0)) takeover_same
                    (back_more (takeover_after start member log).stage
                    (slice_get (takeover_after start member log).gathered 0)
                    (stands_on start all e es follows moves member there still).aborting);
                members =
                    has_members own.own.takeover.layout.view member
                    (subst (λ (v : View). IsIn member v.full)
                    (same ∙ sym (ap (λ (l : Layout). l.view) own.laid.takeover)) full);
                closes = closes_still;
              }

            inside : (between : Parts) (seen : View) (front : List Outgoing)
                → Enters (part.Tc own.own) stood x between seen front → view ≡ seen → Inside between
            inside between seen front (stays same is none) seen_is =
                subst Inside (sym same) (inside_still (seen_is ∙ is))
            inside between seen front (enters above same is sends) seen_is = record {
              q = (tc_entered own.own x.view).state;
              is = same;
              tells = record { attended = tt; first = tt };
              back = tt;
              members =
                  has_members x.view member (subst (λ (v : View). IsIn member v.full) (seen_is ∙ is) full);
              closes = λ taken m ends gathers last. absurd cc;
            }

            -- what a block does
            record Did (q : TcPart) (b : BlockId) : Type 0 where
              tells : TellsAll O (SaidBy O S (tc_row q b x).effects.sends) (tc_row q b x).state.takeover
              words : AreLast O S (tc_row q b x).effects.sends

            wordless : (sends : List Outgoing) → AreNoWords sends → AreLast O S sends
            wordless sends all =
                each_map (λ (o : Outgoing). is_no_word o.body ≡ true) (λ (o : Outgoing). IsLast O S o.body) sends
                (λ o is. by o.body is) all
              where
                by : (body : Body) → is_no_word body ≡ true → IsLast O S body
                by (Client NfCompleteRep) is = absurd (true≢false (sym is))
                by body is = tt

            did : (between : Parts) → (i : Inside between) → IsTakenNow start all e es moment x.to.block → (b : BlockId)
                → x.to.block ≡ b → Did i.q b
            unfolding tc_row
            did between i taken block.Takeover to =
                let on =
                goes_on_telling O S i.q.takeover i.tells i.back x i.members
                (i.closes (subst (IsTakenNow start all e es moment) to taken)) in
                record { tells = on.state; words = on.sends }
            did between i taken block.Tc to = record {
              tells = tells_more O S _ (λ tx said. inl said) i.q.takeover i.tells;
              words = wordless _ (blocks_say_none i.q block.Tc x (λ is. absurd cc));
            }
            did between i taken block.Dih to = record {
              tells = tells_more O S _ (λ tx said. inl said) i.q.takeover i.tells;
              words = wordless _ (blocks_say_none i.q block.Dih x (λ is. absurd cc));
            }
            did between i taken _ to = record {
              tells = tells_more O S _ (λ tx said. inl said) i.q.takeover i.tells;
              words = tt;
            }

            -- what has been said behind the event, and what the takeover is then
            record Behind : Type 0 where
              now : TcPart
              parts : step.state.parts ≡ part.Tc now
              tells : TellsAll O (SaidBy O S step.effects.sends) now.takeover

            after_row : (front : List Outgoing) (q : TcPart) → Did q x.to.block
                → step.effects.sends ≡ front ++ (tc_row q x.to.block x).effects.sends
                → step.state.parts ≡ part.Tc (tc_row q x.to.block x).state → Behind
            after_row front q does sends parts = record {
              now = (tc_row q x.to.block x).state;
              parts = parts;
              tells =
                  tells_more O (SaidBy O S (tc_row q x.to.block x).effects.sends) (SaidBy O S step.effects.sends) more
                  (tc_row q x.to.block x).state.takeover does.tells;
            }
              where
                more : (tx : TxId) → SaidBy O S (tc_row q x.to.block x).effects.sends tx
                    → SaidBy O S step.effects.sends tx
                more tx (inl said) = inl said
                more tx (inr told_now) =
                    inr (record {
                      epoch = told_now.epoch;
                      there =
                          subst (IsIn (told_committed tx told_now.epoch)) (sym sends)
                          (in_append (told_committed tx told_now.epoch) front (tc_row q x.to.block x).effects.sends
                          told_now.there);
                    })

            behind : stops_by e.step.marks ≡ false → Behind
            behind runs = by goes
              where
                next_view : step.state.standing.view ≡ view
                next_view =
                    ap (λ (s : hosts.HostBody). s.standing.view)
                    (sym (told_some h (part_some start kinds.Tc member) step))

                by : HostGoes start.shape (part.Tc own.own) stood x step → Behind
                by (halts is) = absurd (true≢false (sym (ap stops_by marks ∙ is) ∙ runs))
                by (leaves off between seen front entering same stands sends) =
                    let i = inside between seen front entering (sym next_view ∙ stands) in
                    record {
                      now = i.q;
                      parts = same ∙ i.is;
                      tells = tells_more O S (SaidBy O S step.effects.sends) (λ tx said. inl said) i.q.takeover i.tells;
                    }
                by (takes between seen front entering passed same stands sends) =
                    let seen_is : view ≡ seen = sym next_view ∙ stands in
                    let i = inside between seen front entering seen_is in
                    let row : step.effects.sends ≡ front ++ (parts_row (part.Tc i.q) x).effects.sends =
                    sends ∙ ap (λ (parts : Parts). front ++ (parts_row parts x).effects.sends) i.is in
                    after_row front i.q
                    (did between i (taken_now between seen front entering passed seen_is x.to.block refl) x.to.block
                    refl)
                    row (same ∙ ap (λ (parts : Parts). (parts_row parts x).state) i.is)

            tells_now : stops_by e.step.marks ≡ false
                → TellsAll O (λ tx. IsSaid start new tx (sent n h 0 (e ∷ log))) (takeover_after start member (e ∷ log))
            tells_now runs =
                let b = behind runs in
                subst (TellsAll O (λ tx. IsSaid start new tx (sent n h 0 (e ∷ log))))
                (sym (takeover_is start member h (e ∷ log) refl b.now
                (ap (λ (s : hosts.HostBody). s.parts) (told_some h (part_some start kinds.Tc member) step) ∙ b.parts)))
                (tells_more O (SaidBy O S step.effects.sends) (λ tx. IsSaid start new tx (sent n h 0 (e ∷ log))) on
                b.now.takeover b.tells)
              where
                on : (tx : TxId) → SaidBy O S step.effects.sends tx → IsSaid start new tx (sent n h 0 (e ∷ log))
                on tx (inl said) =
                    longer start new tx (sent n h 0 log) (sent n h 0 (e ∷ log)) (sent_more n h 0 log e) said
                on tx (inr told_now) = by (is_tx start.shape tx) refl
                  where
                    by : (b : Bool) → is_tx start.shape tx ≡ b → IsSaid start new tx (sent n h 0 (e ∷ log))
                    by true is =
                        let link =
                        goes_on_link start h log e runs can (Client (TcKeyFailConf tx told_now.epoch)) told_now.there
                        refl
                        is in
                        told (record {
                          epoch = told_now.epoch;
                          signal = link.signal;
                          there = link.there;
                          place = link.place;
                          body = link.body_is;
                        })
                    by false off = aborted (unsound_aborts start all (e ∷ es) moment tx off)

        -- where it says that it is complete
        words_now : CanTell start (tc_of start member) (e ∷ log) → stops_by e.step.marks ≡ false → (o : Outgoing)
            → IsIn o step.effects.sends → o.body ≡ Client NfCompleteRep → (tx : TxId) → IsOrphan view tx → S tx
        words_now can runs o inside_sends is tx orphan = by goes
          where
            next_view : step.state.standing.view ≡ view
            next_view =
                ap (λ (s : hosts.HostBody). s.standing.view) (sym (told_some h (part_some start kinds.Tc member) step))

            never : (sends : List Outgoing) → AreNoWords sends → IsIn o sends → S tx
            never sends all there =
                absurd (true≢false (sym (each_in (λ (u : Outgoing). is_no_word u.body ≡ true) o sends all there)
                ∙ ap is_no_word is))

            front_none : (between : Parts) (seen : View) (front : List Outgoing)
                → Enters (part.Tc own.own) stood x between seen front → AreNoWords front
            front_none between seen front (stays same stands none) = subst AreNoWords (sym none) tt
            front_none between seen front (enters above same stands sends) =
                subst AreNoWords (sym sends) (installs_say_none own.own x.view)

            last : (q : TcPart) → AreLast O S (tc_row q x.to.block x).effects.sends
                → IsIn o (tc_row q x.to.block x).effects.sends → view ≡ current start new → S tx
            last q words there is_current =
                subst (IsLast O S) is
                (each_in (λ (u : Outgoing). IsLast O S u.body) o (tc_row q x.to.block x).effects.sends words there) tx
                (subst (λ (v : View). IsOrphan v tx) is_current orphan)

            by : HostGoes start.shape (part.Tc own.own) stood x step → S tx
            by (halts is) = absurd (true≢false (sym (ap stops_by marks ∙ is) ∙ runs))
            by (leaves off between seen front entering same stands sends) =
                never front (front_none between seen front entering) (subst (IsIn o) sends inside_sends)
            by (takes between seen front entering passed same stands sends) = which (in_either o front _ row_there)
              where
                seen_is : view ≡ seen
                seen_is = sym next_view ∙ stands

                now : IsTakenNow start all e es moment x.to.block
                now = taken_now between seen front entering passed seen_is x.to.block refl

                is_current : view ≡ current start new
                is_current = current_is x.to.block now

                i : Inside can (ap (λ (v : View). v.number) is_current) between
                i = inside can (ap (λ (v : View). v.number) is_current) between seen front entering seen_is

                row_there : IsIn o (front ++ (parts_row (part.Tc i.q) x).effects.sends)
                row_there =
                    subst (λ (parts : Parts). IsIn o (front ++ (parts_row parts x).effects.sends)) i.is
                    (subst (IsIn o) sends inside_sends)

                which : IsIn o front ⊎ IsIn o (parts_row (part.Tc i.q) x).effects.sends → S tx
                which (inl there) = never front (front_none between seen front entering) there
                which (inr there) =
                    last i.q (did can (ap (λ (v : View). v.number) is_current) between i now x.to.block refl).words
                    there
                    is_current

      -- so it is behind each event
      pub tells_next : TakeoverTells start (logs_of start (e ∷ es)) member
      tells_next =
          event_cases (machine start) e es h
          (λ log. (view_after start h log).number ≡ current_number start new → IsRunning n log → CanTell start h log
          → TellsAll O (λ tx. IsSaid start new tx (sent n h 0 log)) (takeover_after start member log))
          (λ at stands runs can. tells_now at can stands runs)
          (λ off stands. was (stood_still start all e es moment member there (number_in start old h) stands
          (omega arith)))

    -- and so it is of each word that a takeover is complete
    module _ (tells : (member : Member) → IsIn member (made start) → TakeoverTells start (logs_of start es) member)
        (last : CompletesLast start (logs_of start es))
      where
        module _ (i : ℕ) (y : Addressed) (older : List Addressed) (is : y.signal.body ≡ Client NfCompleteRep)
            (tx : TxId)
            (orphan : IsOrphan y.signal.view tx)
          where
            comes : (at : e.host ≡ i) → IsIn y (sent_by n i (old i) e) → (n.to y == 0) ≡ true
                → IsSaid start new tx (sent n i 0 (old i))
            comes at inside to =
                by (tc_host_is start follows.moment.cluster.nobody i
                (subst (λ k. k < host_count start) at (host_low start all e es moment)))
              where
                one : IsNew start i (old i) e y
                one = new_sent start i (old i) e y inside (eqb-true y.to 0 to)

                word : one.by.sent.body ≡ Client NfCompleteRep
                word = sym one.by.body ∙ is

                goes_on : stops_by e.step.marks ≡ false
                goes_on = either (stops_by e.step.marks) refl inside
                  where
                    either : (b : Bool) → stops_by e.step.marks ≡ b
                        → IsIn y (if b then [] else n.sends i (old i) e) → b ≡ false
                    either true stopped none = absurd none
                    either false going there = refl

                by : TcHost start i → IsSaid start new tx (sent n i 0 (old i))
                by (of_none none) =
                    absurd (true≢false (sym (each_in (λ (u : Outgoing). is_no_word u.body ≡ true) one.by.sent
                    (step_after start i (old i) e).effects.sends (apart_say_none start i none (old i) e) one.by.there)
                    ∙ ap is_no_word word))
                by (of_tc me there own) = at_takeover me there own at one goes_on
                  where
                    at_takeover : (me : Member) → IsIn me (made start) → i ≡ tc_of start me → e.host ≡ i
                        → IsNew start i (old i) e y → stops_by e.step.marks ≡ false
                        → IsSaid start new tx (sent n i 0 (old i))
                    at_takeover me there own at one going =
                        subst (λ k. IsSaid start new tx (sent n k 0 (old k))) (sym own)
                        (words_now me there (tells me there) (at ∙ own)
                        (subst (λ k. CanTell start k (e ∷ old k)) own one.can)
                        going one.by.sent
                        (subst (λ k. IsIn one.by.sent (step_after start k (old k) e).effects.sends) own one.by.there)
                        (sym one.by.body ∙ is) tx
                        (subst (λ k. IsOrphan (view_after start k (e ∷ old k)) tx) own
                        (subst (λ (v : View). IsOrphan v tx) one.by.view_is orphan)))

        pub completes_next : CompletesLast start (logs_of start (e ∷ es))
        completes_next i y newer older is body tx orphan =
            event_cases (machine start) e es i
            (λ log. sent n i 0 log ≡ newer ++ y ∷ older → IsSaid start new tx older)
            (λ at now. which at (put_at n 0 (sent_by n i (old i) e) (sent n i 0 (old i)) y newer older now))
            (λ off was. said_more tx older older (past_self older) (last i y newer older was body tx orphan)) is
          where
            which : e.host ≡ i → IsPutAt n 0 (sent_by n i (old i) e) (sent n i 0 (old i)) y older
                → IsSaid start new tx older
            which at (was_there front there) =
                said_more tx older older (past_self older) (last i y front older there body tx orphan)
            which at (comes_now inside to past) =
                longer start new tx (sent n i 0 (old i)) older past (comes i y older body tx orphan at inside to)
