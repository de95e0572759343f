-- Who speaks of commits and aborts says what becomes of them, behind each event.
use Rattle.std.proofs.Common.{◌≡◌, ◌∙◌, ◌≤◌, ℕ, true, List, ◌∷◌, refl, sym, ap, subst, arith}
use Rattle.run_theory.specs.Links.{sent}
use Rattle.run_theory.specs.Lists.{Each, IsIn}
use Rattle.run_theory.proofs.Pasts.{each_map}
use Rattle.commit_laws.proofs.hosts.PartEach.{part_each}
use Rattle.sig_core.specs.declared.member.Member.{Member}
use Rattle.sig_core.specs.declared.member.TxId.{TxId}
use Rattle.sig_core.specs.declared.outs.Outgoing.{Outgoing}
use Rattle.sig_core.specs.declared.place.BlockId.{BlockId}
use Rattle.sig_core.specs.declared.place.BlockId.TheVariants as block
use Rattle.sig_core.specs.declared.place.Place.{Place}
use Rattle.sig_core.specs.declared.signal.Body.{Body}
use Rattle.sig_core.specs.declared.signal.Body.TheVariants.{Chain}
use Rattle.sig_core.specs.declared.signal.Signal.{Signal}
use Rattle.sig_core.specs.declared.view.View.{View}
use Rattle.takeover_block.specs.declared.gathered.Gathered.{Gathered}
use Rattle.lqh_saver.specs.State.{saving}
use Rattle.node_views.specs.Parts.{ldm_row}
use Rattle.node_views.specs.Fence.{is_fenced}
use Rattle.world_core.specs.Start.{Start, made}
use Rattle.world_core.specs.Steps.{Addressed, HostStep}
use Rattle.world_views.specs.Machine.{step_after}
use Rattle.view_laws.specs.Order.{sound_machine}
use Rattle.view_laws.specs.Runs.{view_after}
use Rattle.moment_laws.specs.Moments.{IsMoment, current, logs_of}
use Rattle.moment_laws.specs.PartSteps.{ldm_kind}
use Rattle.moment_laws.specs.Places.{tc_of}
use Rattle.moment_laws.proofs.MomentSignals.{EachSent, sent_below, sent_next}
use Rattle.moment_laws.proofs.MomentTurns.{Turn, host_low, keeps, raises, turn}
use Rattle.moment_laws.proofs.MomentViews.{current_number, moment_less}
use Rattle.moment_laws.proofs.PartKinds.{ldm_is}
use Rattle.moment_laws.proofs.PartTaken.{IsTakenNow, handled_now}
use Rattle.request_laws.proofs.routes.BesideRows.{is_of_rows}
use Rattle.request_laws.proofs.routes.Headers.{chain_fenced, sent_so, told_of}
use Rattle.request_laws.proofs.routes.Hosts.{PartHost, coordinates, is_beside, keeps_rows, part_host}
use Rattle.request_laws.proofs.routes.PartSteps.{LdmStep, ldm_step}
use Rattle.commit_laws.specs.Fates.{aborts, commits, fate}
use Rattle.commit_laws.specs.Forth.{ForthIsKnownAlways}
use Rattle.commit_laws.specs.Speaks.{AreSpokenTruly, SaysAbort, SaysCommit}
use Rattle.commit_laws.specs.Together.{FatesMove, Follows}
use Rattle.commit_laws.proofs.fates.SpokenAside.{beside_speaks}
use Rattle.commit_laws.proofs.fates.SpokenHost.{TakeoverGoes, tc_speaks}
use Rattle.commit_laws.proofs.fates.SpokenRows.{Hears, saving_speak}
use Rattle.commit_laws.proofs.fates.SpokenWords.{AreSpoken, IsSpoken, Speaks, abort_said, aborts_grow, both_said}
use Rattle.commit_laws.proofs.fates.SpokenWords.{commit_said, commits_grow, speaks_so}

-- a signal of the current view, of a kind that fences stop, is taken only where that was the current view before
module _ (start : Start) (all : ℕ → List HostStep) (e : HostStep) (es : List HostStep)
    (moment : IsMoment start all (e ∷ es))
  where
    pub fenced_keeps : (b : BlockId) → IsTakenNow start all e es moment b → is_of_rows e.step.taken.body ≡ true
        → is_fenced e.step.taken ≡ true → current start (logs_of start (e ∷ es)) ≡ current start (logs_of start es)
    fenced_keeps b taken of_rows fenced = by (turn start all e es moment)
      where
        low : e.step.taken.view.number ≤ current_number start (logs_of start es)
        low =
            told_of start all e es moment (λ y. y.signal.view.number ≤ current_number start (logs_of start es))
            (sent_below start all es (moment_less start all e es moment)) taken.sound of_rows

        by : Turn start all e es moment → current start (logs_of start (e ∷ es)) ≡ current start (logs_of start es)
        by (keeps same stands) = same
        by (raises above stands) = let is = taken.fresh fenced in absurd (omega (arith, low, above, is))

module _ (known : ForthIsKnownAlways) (start : Start) (all : ℕ → List HostStep) (e : HostStep) (es : List HostStep)
    (follows : Follows start all e es) (moves : (tx : TxId) → FatesMove start e es tx) (W : Gathered → Type 0)
    (goes : (member : Member) → IsIn member (made start) → e.host ≡ tc_of start member
    → TakeoverGoes start all e es follows.moment member W)
  where
    abbrev old : ℕ → List HostStep
    old = logs_of start es

    abbrev new : ℕ → List HostStep
    new = logs_of start (e ∷ es)

    abbrev x : Signal
    x = e.step.taken

    abbrev view : View
    view = view_after start e.host (e ∷ old e.host)

    abbrev A : TxId → Type 0
    A tx = fate start (logs_of start (e ∷ es)) tx ≡ aborts

    abbrev C : TxId → Type 0
    C tx = fate start (logs_of start (e ∷ es)) tx ≡ commits

    abbrev moment : IsMoment start all (e ∷ es)
    moment = follows.moment

    abbrev Aborts : Addressed → Type 0
    Aborts y = SaysAbort (fate start (logs_of start es)) y.signal.body

    abbrev Commits : Addressed → Type 0
    Commits y =
        y.signal.view.number ≡ current_number start (logs_of start es)
        → SaysCommit (fate start (logs_of start es)) y.signal.body

    -- what is taken of chains is true behind the event
    heard : (b : BlockId) → IsTakenNow start all e es moment b → Hears A C x.body
    heard b taken = by x.body refl
      where
        by : (body : Body) → x.body ≡ body → Hears A C body
        by (Chain signal) is =
            speaks_so (λ tx. fate start old tx ≡ aborts) (λ tx. fate start old tx ≡ commits) A C
            (λ tx. (moves tx).aborting) (λ tx. (moves tx).committing same) (Chain signal)
            (subst (Speaks (λ tx. fate start old tx ≡ aborts) (λ tx. fate start old tx ≡ commits)) is
            (both_said (fate start old) x.body
            (told_of start all e es moment Aborts follows.stood.spoken.aborts_said taken.sound of_rows)
            (told_of start all e es moment Commits follows.stood.spoken.commits_said taken.sound of_rows header)))
          where
            of_rows : is_of_rows x.body ≡ true
            of_rows = ap is_of_rows is

            fenced : is_fenced x ≡ true
            fenced = chain_fenced x signal is

            same : current start new ≡ current start old
            same = fenced_keeps start all e es moment b taken of_rows fenced

            header : x.view.number ≡ current_number start old
            header = taken.fresh fenced ∙ ap (λ (v : View). v.number) same
        by body is = tt

    abbrev sends : List Outgoing
    sends = (step_after start e.host (old e.host) e).effects.sends

    ldm_speaks : LdmStep start e.host (old e.host) e → AreSpoken A C sends
    unfolding ldm_row
    ldm_speaks step =
        part_each ldm_kind (IsSpoken A C) start.shape step.own (view_after start e.host (old e.host)) x _ view sends
        step.does (λ above. tt)
        (λ passed.
        row x.to.block
        (handled_now start all e es moment ldm_kind ldm_is step.own step.runs step.does.between step.does.front
        step.does.enters passed x.to.block refl))
      where
        row : (b : BlockId) → IsTakenNow start all e es moment x.to.block
            → AreSpoken A C (ldm_row step.does.between b x).effects.sends
        row block.Lqh taken =
            saving_speak A C (saving step.does.between.replica step.does.between.saver) x (heard x.to.block taken)
        row _ taken = tt

    sends_speak : AreSpoken A C sends
    sends_speak = by (part_host start follows.moment.cluster.nobody e.host (host_low start all e es moment))
      where
        by : PartHost start e.host → AreSpoken A C sends
        by (coordinates me there at) =
            subst (λ k. AreSpoken A C (step_after start k (old k) e).effects.sends) (sym at)
            (tc_speaks start all e es moment me there at W (goes me there at) (known start all (e ∷ es) moment))
        by (keeps_rows me there at) =
            ldm_speaks (ldm_step start follows.moment.cluster.nobody me there e.host at (old e.host) e)
        by (is_beside first) = beside_speaks A C start e.host first (old e.host) e

    abbrev NowCommits : Addressed → Type 0
    NowCommits y =
        y.signal.view.number ≡ current_number start (logs_of start (e ∷ es))
        → SaysCommit (fate start (logs_of start (e ∷ es))) y.signal.body

    -- what was said before is true behind it
    old_aborts : EachSent start (λ y. SaysAbort (fate start new) y.signal.body) old
    old_aborts i j =
        each_map Aborts (λ y. SaysAbort (fate start new) y.signal.body) (sent (sound_machine start) i j (old i))
        (λ y says. aborts_grow (fate start old) (fate start new) (λ tx. (moves tx).aborting) y.signal.body says)
        (follows.stood.spoken.aborts_said i j)

    old_commits : EachSent start NowCommits old
    old_commits i j = by (turn start all e es moment)
      where
        by : Turn start all e es moment → Each NowCommits (sent (sound_machine start) i j (old i))
        by (keeps same stands) =
            each_map Commits NowCommits (sent (sound_machine start) i j (old i))
            (λ y says header.
            commits_grow (fate start old) (fate start new) (λ tx. (moves tx).committing same) y.signal.body
            (says (header ∙ ap (λ (v : View). v.number) same)))
            (follows.stood.spoken.commits_said i j)
        by (raises above stands) =
            each_map _ NowCommits (sent (sound_machine start) i j (old i))
            (λ y low header. absurd (omega (arith, low, header, above)))
            (sent_below start all es (moment_less start all e es moment) i j)

    pub spoken_next : AreSpokenTruly start (logs_of start (e ∷ es))
    spoken_next = record {
      aborts_said =
          sent_next start (λ y. SaysAbort (fate start new) y.signal.body) all e es moment old_aborts
          (λ on.
          sent_so start e.host (old e.host) e (λ (v : View) (to : Place) (body : Body). SaysAbort (fate start new) body)
          (each_map (IsSpoken A C) (λ (o : Outgoing). SaysAbort (fate start new) o.body) sends
          (λ o says. abort_said (fate start new) o.body says) sends_speak));
      commits_said =
          sent_next start NowCommits all e es moment old_commits
          (λ on.
          each_map (λ (y : Addressed). SaysCommit (fate start new) y.signal.body) NowCommits _ (λ y says header. says)
          (sent_so start e.host (old e.host) e
          (λ (v : View) (to : Place) (body : Body). SaysCommit (fate start new) body)
          (each_map (IsSpoken A C) (λ (o : Outgoing). SaysCommit (fate start new) o.body) sends
          (λ o says. commit_said (fate start new) o.body says) sends_speak)));
    }
