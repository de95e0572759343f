-- What the client's side has noted at a moment: the commits that it is told of, and which takeovers are complete.
use Rattle.std.proofs.Common.{◌≡◌, ◌≢◌, ◌≤◌, ◌<◌, ◌⊎◌, ◌∙◌, ◌||◌, ◌&&◌, ◌==◌, ◌+◌, ℕ, Bool, true, false, List, [], ◌∷◌}
use Rattle.std.proofs.Common.{inl, inr, nat_lt, refl, sym, ap, subst, arith}
use Rattle.std.proofs.lemmas.Bool.{cases_lt, or_left, true≢false}
use Rattle.std.proofs.lemmas.Bool.Decides.{nat_tests}
use Rattle.std.specs.List.{count_by}
use Rattle.std.specs.Prelude.{if◌then◌else◌, not, Option, None, Some}
use Rattle.run_theory.specs.Counts.{tally}
use Rattle.run_theory.specs.Links.{IsClosing, IsGiven, is_from, sent, sent_by, taken}
use Rattle.run_theory.specs.Lists.{Each, IsIn, IsPast}
use Rattle.run_theory.specs.Logs.{IsRunning}
use Rattle.run_theory.specs.Machine.{Machine}
use Rattle.run_theory.specs.Runs.{Happens}
use Rattle.run_theory.proofs.Links.{put_each, sent_by_each}
use Rattle.run_theory.proofs.Pasts.{each_filter, each_in, each_map, each_past}
use Rattle.run_theory.proofs.Runs.{log_of-other, log_of-own}
use Rattle.run_theory.proofs.EventCases.{event_cases}
use Rattle.commit_laws.proofs.forth.TellersFull.{untold_off}
use Rattle.commit_laws.proofs.gathering.TellingsNoted.{sound_of}
use Rattle.commit_laws.proofs.forth.Grows.{known_grows}
use Rattle.sig_core.proofs.TxLemmas.{same_tx-is}
use Rattle.sig_core.specs.declared.member.Member.{Member}
use Rattle.sig_core.specs.declared.member.TxId.{TxId}
use Rattle.sig_core.specs.declared.outs.Outgoing.{Outgoing}
use Rattle.sig_core.specs.declared.place.BlockId.{BlockId}
use Rattle.sig_core.specs.declared.place.BlockId.TheVariants as block
use Rattle.sig_core.specs.declared.place.Place.{Place}
use Rattle.sig_core.specs.declared.signal.Body.{Body}
use Rattle.sig_core.specs.declared.signal.Body.TheVariants.{Client, Host}
use Rattle.sig_core.specs.declared.signal.Signal.{Signal}
use Rattle.sig_core.specs.declared.signal.client.ClientSignal.TheVariants.{NfCompleteRep, TcCommitAck, TcKeyFailConf}
use Rattle.sig_core.specs.declared.signal.host.HostSignal.TheVariants.{Closed}
use Rattle.sig_core.specs.declared.view.View.{View}
use Rattle.sig_core.specs.Place.{client}
use Rattle.sig_core.specs.Step.{Step}
use Rattle.tc_block.specs.Complete.{one_if}
use Rattle.api_block.specs.declared.opened.OpenTransaction.{OpenTransaction}
use Rattle.api_block.specs.Opened.{has_tx}
use Rattle.api_block.specs.Outcome.{commit_report_row}
use Rattle.api_views.specs.Client.{client_row, is_known as is_vouched}
use Rattle.api_views.specs.Members.{is_among, is_member, noted, same_member}
use Rattle.api_views.specs.Reports.{greater_of}
use Rattle.api_views.specs.State.{ClientState}
use Rattle.arbiter_block.specs.Arbiter.{arbiter_row}
use Rattle.lqh_block.specs.Views.{is_coordinated, was_begun_by}
use Rattle.node_views.specs.declared.host_body.HostBody as hosts
use Rattle.node_views.specs.declared.parts.Parts.{Parts}
use Rattle.node_views.specs.declared.parts.Parts.TheVariants.{Shell}
use Rattle.node_views.specs.declared.shell_part.ShellPart.{ShellPart}
use Rattle.node_views.specs.Fence.{is_body_fenced, is_fenced}
use Rattle.node_views.specs.Parts.{shell_row}
use Rattle.node_views.specs.WellFormed.{is_well_formed}
use Rattle.world_core.specs.Hosts.{member_at}
use Rattle.world_core.specs.Start.{NobodyStarts, Start, made}
use Rattle.world_core.specs.Steps.{Addressed, HostStep}
use Rattle.world_views.specs.Machine.{after, cause_in, machine, signals_of, step_after, stops_by}
use Rattle.world_views.specs.Sending.{is_own_work}
use Rattle.view_laws.proofs.eras.Rises.{view_rises}
use Rattle.view_laws.proofs.follow.Senders.{each_from}
use Rattle.view_laws.proofs.runs.AllSound.{have_orderly}
use Rattle.view_laws.proofs.runs.ViewsShrink.{views_shrink}
use Rattle.view_laws.proofs.runs.ChosenViews.{one_view}
use Rattle.view_laws.specs.Order.{is_sound, sound_machine}
use Rattle.view_laws.specs.Runs.{WasInstalled, view_after}
use Rattle.view_laws.proofs.runs.Headers.{installed_at}
use Rattle.moment_laws.specs.Moments.{IsMoment, logs_of}
use Rattle.moment_laws.proofs.MomentViews.{moment_less}
use Rattle.outcome_laws.proofs.client.ReportsAndWishes.{reports_few}
use Rattle.outcome_laws.proofs.knowledge.Parts.{arbiter_tells_nothing}
use Rattle.outcome_laws.proofs.once.DecidesAndReports.{IsShell, client_light, in_client, of_client, reports_client}
use Rattle.outcome_laws.proofs.once.CoordinatorScale.{no_body}
use Rattle.outcome_laws.proofs.once.Scales.{step_light}
use Rattle.outcome_laws.specs.Counts.{coordinator_member, count_open, is_begin, is_report}
use Rattle.outcome_laws.specs.Once.{takes_in}
use Rattle.request_laws.proofs.routes.PartsOfTheFirst.{nobody_later}
use Rattle.request_laws.specs.Ways.{is_sent}
use Rattle.request_laws.specs.Orphans.{IsOrphan}
use Rattle.request_laws.proofs.routes.ChainsStay.{any_in}
use Rattle.commit_laws.specs.Fates.{aborts, fate}
use Rattle.commit_laws.specs.Reported.{CompletesLast, IsSaid, aborted, known, told}
use Rattle.commit_laws.specs.Together.{FatesMove, Follows}
use Rattle.commit_laws.specs.Traces.{has_sent, is_acknowledgement, is_known}
use Rattle.commit_laws.proofs.forth.ClientReports.{TakesWord, acknowledges_some, drops, notes, takes_word, tally_counts}
use Rattle.commit_laws.proofs.forth.ClientReports.{word_noted}
use Rattle.commit_laws.proofs.hosts.ShellViews.{client_notes}
use Rattle.commit_laws.proofs.forth.Client.{Answers, IsToldOf, by_coordinator, by_takeover, client_acknowledges}
use Rattle.commit_laws.proofs.hosts.Goes.{IsOff, is_for_host}
use Rattle.commit_laws.proofs.forth.KnownTold.{runs_shell}
use Rattle.commit_laws.proofs.hosts.SomePasses.{passing}
use Rattle.commit_laws.proofs.forth.ReportedBegun.{begun_once, begun_some, open_few}
use Rattle.commit_laws.proofs.reported.Client.{TakenNext, client_is_good, completes, noted_opened, noted_taken, stays}
use Rattle.commit_laws.proofs.hosts.ShellGoes.{IsSameBut, ShellGoes, acts, ends, rests, shell_goes, shell_next}
use Rattle.commit_laws.proofs.hosts.ShellGoes.{shell_view}
use Rattle.commit_laws.proofs.hosts.ShellSees.{seeing}

-- while the shell's host runs
pub record ClientStands (start : Start) (nobody : NobodyStarts start) (logs : ℕ → List HostStep) : Type 0 where
  -- of what a takeover told it of commits it knows, unless the sender isn't in the view that it sees
  pub heard : (i : ℕ) (z : Addressed) → IsIn z (taken (sound_machine start) i (logs 0)) → z.signal.to ≡ client
      → (tx : TxId) (epoch : ℕ) → z.signal.body ≡ Client (TcKeyFailConf tx epoch)
      → (is_known start logs tx ≡ true) ⊎ (is_member (view_after start 0 (logs 0)) z.signal.member ≡ false)
  -- a transaction of whose commit it knows isn't open any more
  pub closed : (tx : TxId) → is_known start logs tx ≡ true
      → in_client (count_open tx) (after start 0 (logs 0)).parts ≡ 0
  -- whoever has no coordinator in a view in which a takeover is complete aborts, unless its commit is known
  pub over : (view : View) → (seeing start nobody (logs 0)).part.client.taken_over ≡ Some view → (tx : TxId)
      → is_member view (coordinator_member tx) ≡ false
      → (fate start logs tx ≡ aborts) ⊎ (is_known start logs tx ≡ true)

-- all that a host sent has its member
sent_members : (start : Start) (i j : ℕ) (log : List HostStep)
    → Each (λ (y : Addressed). y.signal.member ≡ member_at (made start) i) (sent (sound_machine start) i j log)
sent_members start i j [] = tt
sent_members start i j (e ∷ log) =
    put_each (sound_machine start) IsOwn j (sent_by (sound_machine start) i log e) (sent (sound_machine start) i j log)
    (sent_by_each (sound_machine start) IsOwn i log e (λ goes.
    each_filter IsOwn (is_sound start) (signals_of start i log e)
    (each_map _ IsOwn (signals_of start i log e) (λ y one. one.member) (each_from start i log e))))
    (sent_members start i j log)
  where
    IsOwn : Addressed → Type 0
    IsOwn = λ y. y.signal.member ≡ member_at (made start) i

-- a word of a commit begins nothing
word_begins : (tx : TxId) (body : Body) → IsToldOf tx body → is_begin tx body ≡ false
word_begins tx body (by_coordinator epoch is) = ap (is_begin tx) is
word_begins tx body (by_takeover epoch is) = ap (is_begin tx) is

-- who isn't a member has no coordinator
not_led : (view : View) (tx : TxId) → is_member view (coordinator_member tx) ≡ false → IsOrphan view tx
unfolding is_member
not_led view tx out = by (is_coordinated view.full tx) refl
  where
    begun_same : (m : Member) → was_begun_by tx m ≡ true → same_member (coordinator_member tx) m ≡ true
    begun_same m is = grind (arith, nat_tests, is)

    by : (b : Bool) → is_coordinated view.full tx ≡ b → b ≡ false
    by false is = refl
    by true is =
        let one = passing (was_begun_by tx) view.full is in
        absurd (true≢false (sym (or_left (is_among view.full (coordinator_member tx))
        (is_among view.starting (coordinator_member tx))
        (any_in (same_member (coordinator_member tx)) one.item view.full one.there (begun_same one.item one.is)))
        ∙ out))

module _ (start : Start) (nobody : NobodyStarts start) (all : ℕ → List HostStep) (e : HostStep) (es : List HostStep)
    (follows : Follows start all e es) (moves : (tx : TxId) → FatesMove start e es tx)
    (last : CompletesLast start (logs_of start es)) (before : ClientStands start nobody (logs_of start es))
  where
    abbrev old : ℕ → List HostStep
    old = logs_of start es

    abbrev new : ℕ → List HostStep
    new = logs_of start (e ∷ es)

    abbrev n : Machine HostStep Addressed
    n = sound_machine start

    abbrev moment : IsMoment start all (e ∷ es)
    moment = follows.moment

    abbrev x : Signal
    x = e.step.taken

    less : IsMoment start all es
    less = moment_less start all e es moment

    happens : Happens (sound_machine start) es e
    happens = moment.run.1

    abbrev log : List HostStep
    log = logs_of start es 0

    -- what is said of a transaction goes on
    ended_more : (tx : TxId) → (fate start old tx ≡ aborts) ⊎ (is_known start old tx ≡ true)
        → (fate start new tx ≡ aborts) ⊎ (is_known start new tx ≡ true)
    ended_more tx (inl is) = inl ((moves tx).aborting is)
    ended_more tx (inr is) = inr (known_grows start e es tx is)

    -- where another host steps
    module _ (other : e.host ≢ 0) where
      same : new 0 ≡ old 0
      same = log_of-other (machine start) e es 0 other

      stands_beside : ClientStands start nobody new
      stands_beside = record {
        heard = λ i z there place tx epoch body.
            by tx z (before.heard i z (subst (λ l. IsIn z (taken n i l)) same there) place tx epoch body);
        closed = λ tx is.
            subst (λ l. in_client (count_open tx) (after start 0 l).parts ≡ 0) (sym same)
            (before.closed tx (sym (ap (has_sent start (is_acknowledgement tx) 0) same) ∙ is));
        over = λ view noted tx out.
            ended_more tx
            (before.over view (subst (λ l. (seeing start nobody l).part.client.taken_over ≡ Some view) same noted) tx
            out);
      }
        where
          by : (tx : TxId) (z : Addressed)
              → (is_known start old tx ≡ true) ⊎ (is_member (view_after start 0 (old 0)) z.signal.member ≡ false)
              → (is_known start new tx ≡ true) ⊎ (is_member (view_after start 0 (new 0)) z.signal.member ≡ false)
          by tx z (inl is) = inl (known_grows start e es tx is)
          by tx z (inr out) =
              inr (subst (λ l. is_member (view_after start 0 l) z.signal.member ≡ false) (sym same) out)

    -- where the shell's does, and goes on
    module _ (at : e.host ≡ 0) (runs : stops_by e.step.marks ≡ false) where
      abbrev step : Step hosts.HostBody
      step = step_after start 0 (logs_of start es 0) e

      abbrev own : ShellPart
      own = (seeing start nobody (logs_of start es 0)).part

      abbrev stood : View
      stood = view_after start 0 (logs_of start es 0)

      abbrev view : View
      view = view_after start 0 (e ∷ logs_of start es 0)

      new_is : new 0 ≡ e ∷ log
      new_is = log_of-own (machine start) e es 0 at

      marks : e.step.marks ≡ step.effects.marks
      marks = subst (λ k. e.step.marks ≡ (step_after start k (old k) e).effects.marks) at happens.step.fits.marks

      goes : ShellGoes start own x step
      goes = shell_goes start nobody log e

      known_next : (tx : TxId) → is_known start new tx
          ≡ (is_sent (is_acknowledgement tx) step.effects.sends || is_known start old tx)
      known_next tx = ap (has_sent start (is_acknowledgement tx) 0) new_is

      -- the views in which the host stands shrink
      stood_installed : WasInstalled start all stood
      stood_installed = installed_at start nobody all 0 (omega arith) log (less.inside 0)

      view_installed : WasInstalled start all view
      view_installed =
          installed_at start nobody all 0 (omega arith) (e ∷ log)
          (subst (λ l. IsPast l (all 0)) new_is (moment.inside 0))

      member_is : (v : View) → WasInstalled start all v → (m : Member) → is_member v m ≡ true
          → is_among v.full m ≡ true
      unfolding is_member
      member_is v was m is = by (is_among v.full m) refl is
        where
          by : (b : Bool) → is_among v.full m ≡ b → (b || is_among v.starting m) ≡ true → b ≡ true
          by true full is = refl
          by false full is =
              absurd (true≢false (sym is
              ∙ ap (λ ms. is_among ms m) (nobody_later start all moment.cluster v was).starting))

      still_out : (m : Member) → is_member stood m ≡ false → is_member view m ≡ false
      unfolding is_member
      still_out m out = by (is_member view m) refl (cases_lt stood.number view.number)
        where
          by : (b : Bool) → is_member view m ≡ b → (stood.number < view.number) ⊎ (view.number ≤ stood.number)
              → b ≡ false
          by false is either = refl
          by true is (inr low) =
              let rises = view_rises start nobody 0 log e in
              let same : stood ≡ view = one_view have_orderly start all moment.cluster stood view stood_installed
              view_installed (omega (arith, low, rises)) in
              sym is ∙ (ap (λ v. is_member v m) (sym same) ∙ out)
          by true is (inl above) =
              let one = passing (same_member m) view.full (member_is view view_installed m is) in
              let part = views_shrink start all moment.cluster stood view stood_installed view_installed above in
              absurd (true≢false (sym (or_left (is_among stood.full m) (is_among stood.starting m)
              (any_in (same_member m) one.item stood.full
              (which one.item (each_in (λ (u : Member). IsIn u stood.full ⊎ ⊥) one.item view.full part.full one.there))
              one.is)) ∙ out))
            where
              which : (u : Member) → IsIn u stood.full ⊎ ⊥ → IsIn u stood.full
              which u (inl there) = there
              which u (inr none) = absurd none

      -- a word of a takeover comes to the client's side, which takes it
      module _ (sound : is_well_formed start.shape x ≡ true) (tx : TxId) (epoch : ℕ)
          (body : x.body ≡ Client (TcKeyFailConf tx epoch)) (place : x.to ≡ client) where
        free : is_fenced x ≡ false
        unfolding is_fenced
        free = ap (is_body_fenced x) body

        not_off : IsOff start.shape x → ⊥
        not_off (inl off) = true≢false (sym sound ∙ off)
        not_off (inr (inl fenced)) = true≢false (sym fenced ∙ free)
        not_off (inr (inr own)) = true≢false (sym own ∙ ap is_for_host body)

        word_heard : (is_known start new tx ≡ true) ⊎ (is_member view x.member ≡ false)
        unfolding shell_row
        word_heard = by goes
          where
            to : x.to.block ≡ block.Api
            to = ap (λ (p : Place). p.block) place

            took : (q : ShellPart) → step.state.parts ≡ Shell (shell_row q block.Api x).state
                → step.effects.sends ≡ (shell_row q block.Api x).effects.sends
                → TakesWord tx (noted q.client x.view) x (client_row q.client x)
                → (is_known start new tx ≡ true) ⊎ (is_member view x.member ≡ false)
            took q parts sends word = which word
              where
                seen_is : (noted q.client x.view).api.view ≡ view
                seen_is =
                    sym (client_notes q.client x) ∙ shell_view start nobody log e (shell_row q block.Api x).state parts

                which : TakesWord tx (noted q.client x.view) x (client_row q.client x)
                    → (is_known start new tx ≡ true) ⊎ (is_member view x.member ≡ false)
                which (drops off is) = inr (subst (λ v. is_member v x.member ≡ false) seen_is off)
                which (notes number vouched is) =
                    let full = member_is view view_installed x.member
                    (subst (λ v. is_member v x.member ≡ true) seen_is vouched) in
                    let one = passing (same_member x.member) view.full full in
                    let acks = acknowledges_some tx (noted q.client x.view).api one.item
                    (subst (λ v. IsIn one.item v.full) (sym seen_is) one.there) in
                    inl (known_next tx
                    ∙ or_left (is_sent (is_acknowledgement tx) step.effects.sends) (is_known start old tx)
                    (ap (is_sent (is_acknowledgement tx))
                    (sends ∙ (ap (λ (t : Step ClientState). t.effects.sends) is
                    ∙ (word_noted tx number (noted q.client x.view).api).sends))
                    ∙ acks))

            by : ShellGoes start own x step → (is_known start new tx ≡ true) ⊎ (is_member view x.member ≡ false)
            by (ends is) = absurd (true≢false (sym (ap stops_by marks ∙ is) ∙ runs))
            by (rests off q same parts none) = absurd (not_off off)
            by (acts well q same parts sends) =
                took q (subst (λ b. step.state.parts ≡ Shell (shell_row q b x).state) to parts)
                (subst (λ b. step.effects.sends ≡ (shell_row q b x).effects.sends) to sends)
                (takes_word tx q.client x (by_takeover epoch body))

      heard_next : (i : ℕ) (z : Addressed) → IsIn z (taken n i (e ∷ log)) → z.signal.to ≡ client
          → (tx : TxId) (epoch : ℕ)
          → z.signal.body ≡ Client (TcKeyFailConf tx epoch)
          → (is_known start new tx ≡ true) ⊎ (is_member view z.signal.member ≡ false)
      heard_next i z there place tx epoch body = by (is_from n i e) refl there
        where
          older : IsIn z (taken n i log) → (is_known start new tx ≡ true) ⊎ (is_member view z.signal.member ≡ false)
          older inside = which (before.heard i z inside place tx epoch body)
            where
              which : (is_known start old tx ≡ true) ⊎ (is_member stood z.signal.member ≡ false)
                  → (is_known start new tx ≡ true) ⊎ (is_member view z.signal.member ≡ false)
              which (inl is) = inl (known_grows start e es tx is)
              which (inr out) = inr (still_out z.signal.member out)

          newest : is_from n i e ≡ true → z.signal ≡ x
              → (is_known start new tx ≡ true) ⊎ (is_member view z.signal.member ≡ false)
          newest from is =
              subst (λ (s : Signal). (is_known start new tx ≡ true) ⊎ (is_member view s.member ≡ false)) (sym is)
              (word_heard
              (sound_of ((machine start).asked e) (is_well_formed start.shape x) (n.from (n.signal e) == i) from) tx
              epoch
              (ap (λ (s : Signal). s.body) (sym is) ∙ body) (ap (λ (s : Signal). s.to) (sym is) ∙ place))

          by : (b : Bool) → is_from n i e ≡ b → IsIn z (if b then n.signal e ∷ taken n i log else taken n i log)
              → (is_known start new tx ≡ true) ⊎ (is_member view z.signal.member ≡ false)
          by false from inside = older inside
          by true from (inr inside) = older inside
          by true from (inl is) = newest from (ap (λ (y : Addressed). y.signal) is)

      -- what is open behind the step
      module _ (tx : TxId) where
        abbrev open_in : Parts → ℕ
        open_in parts = in_client (count_open tx) parts

        light : open_in (after start 0 (e ∷ log)).parts
            ≤ open_in (after start 0 log).parts + one_if (is_begin tx x.body)
        light =
            let is =
            step_light (of_client no_body (is_report tx) (count_open tx) (is_begin tx)) IsShell
            (client_light no_body (is_report tx) (count_open tx) (is_begin tx) (reports_client tx)) x 0
            (after start 0 log)
            (runs_shell start log) in
            let below = is.below in
            omega (arith, below)

        -- one that was closed doesn't begin again
        still_closed : is_known start old tx ≡ true → open_in (after start 0 (e ∷ log)).parts ≡ 0
        still_closed was =
            let some = begun_some start all es less tx was in
            let once : takes_in (is_begin tx) (e ∷ log) ≤ 1 =
            subst (λ l. takes_in (is_begin tx) l ≤ 1) new_is (begun_once start all (e ∷ es) moment tx) in
            let none = before.closed tx was in
            let more = light in
            omega (arith, some, once, none, more)

        own_open : (q : ShellPart) → IsSameBut own q → count_open tx q.client ≤ 1
        own_open q same =
            let few = open_few start all es less tx in
            let once = begun_once start all es less tx in
            let is : open_in (after start 0 log).parts ≡ count_open tx own.client =
            ap open_in (seeing start nobody log).runs in
            let also : count_open tx q.client ≡ count_open tx own.client =
            ap (λ (ts : List OpenTransaction). count_by (has_tx tx) ts) same.opened in
            omega (arith, few, once, is, also)

        next_open : (q : ShellPart) → step.state.parts ≡ Shell q
            → open_in (after start 0 (e ∷ log)).parts ≡ count_open tx q.client
        next_open q parts =
            ap open_in (seeing start nobody (e ∷ log)).runs
            ∙ ap (λ (ts : List OpenTransaction). count_by (has_tx tx) ts) (shell_next start nobody log e q parts).opened

        -- where the commit comes to be known
        now_closed : is_sent (is_acknowledgement tx) step.effects.sends ≡ true
            → open_in (after start 0 (e ∷ log)).parts ≡ 0
        unfolding shell_row
        now_closed acks = by goes
          where
            took : (q : ShellPart) → IsSameBut own q → step.state.parts ≡ Shell (shell_row q block.Api x).state
                → is_sent (is_acknowledgement tx) (client_row q.client x).effects.sends ≡ true
                → open_in (after start 0 (e ∷ log)).parts ≡ 0
            took q same parts acks =
                let o = passing (λ (u : Outgoing). is_acknowledgement tx u.body) (client_row q.client x).effects.sends
                acks in
                let word = told_of o.item.body o.is (each_in (λ (u : Outgoing). Answers x.body u.body) o.item
                (client_row q.client x).effects.sends (client_acknowledges x q.client) o.there) in
                let none = few word (takes_word tx q.client x word) in
                let is = next_open (shell_row q block.Api x).state parts in
                omega (arith, none, is)
              where
                told_of : (body : Body) → is_acknowledgement tx body ≡ true → Answers x.body body → IsToldOf tx x.body
                told_of (Client (TcCommitAck other)) own is =
                    subst (λ v. IsToldOf v x.body) (same_tx-is other tx own) is
                told_of body own is = absurd cc

                few : IsToldOf tx x.body → TakesWord tx (noted q.client x.view) x (client_row q.client x)
                    → count_open tx (client_row q.client x).state ≤ 0
                few word (drops off is) =
                    absurd (true≢false (sym acks
                    ∙ ap (λ (t : Step ClientState). is_sent (is_acknowledgement tx) t.effects.sends) is))
                few word (notes number vouched is) =
                    let rows = reports_few tx q.client x in
                    let begins = ap one_if (word_begins tx x.body word) in
                    let open_once = own_open q same in
                    which rows begins open_once (word_noted tx number (noted q.client x.view).api).marks
                  where
                    marks_are : count_by (is_report tx) (client_row q.client x).effects.marks
                        ≡ count_by (is_report tx)
                        (commit_report_row (noted q.client x.view).api tx number).effects.marks
                    marks_are = ap (λ (t : Step ClientState). count_by (is_report tx) t.effects.marks) is

                    which : count_by (is_report tx) (client_row q.client x).effects.marks
                        + count_open tx (client_row q.client x).state
                        ≤ count_open tx q.client + one_if (is_begin tx x.body)
                        → one_if (is_begin tx x.body) ≡ 0 → count_open tx q.client ≤ 1
                        → (tally (has_tx tx) (noted q.client x.view).api.opened ≡ 0)
                        ⊎ (1 ≤ count_by (is_report tx) (commit_report_row (noted q.client x.view).api tx
                        number).effects.marks)
                        → count_open tx (client_row q.client x).state ≤ 0
                    which rows begins once (inl none) =
                        let same_tally = tally_counts (has_tx tx) (noted q.client x.view).api.opened in
                        let same_open : count_by (has_tx tx) (noted q.client x.view).api.opened
                        ≡ count_open tx q.client =
                        ap (λ (ts : List OpenTransaction). count_by (has_tx tx) ts) (noted_opened q.client x.view) in
                        omega (arith, rows, begins, none, same_tally, same_open)
                    which rows begins once (inr one) = omega (arith, rows, begins, once, one, marks_are)

            row : (q : ShellPart) → IsSameBut own q → (b : BlockId) → step.state.parts ≡ Shell (shell_row q b x).state
                → is_sent (is_acknowledgement tx) (shell_row q b x).effects.sends ≡ true
                → open_in (after start 0 (e ∷ log)).parts ≡ 0
            row q same block.Api parts acks = took q same parts acks
            row q same block.Arbiter parts acks =
                absurd (true≢false (sym acks
                ∙ untold_off tx (arbiter_row q.arbiter x).effects.sends (arbiter_tells_nothing q.arbiter x).0))
            row q same _ parts acks = absurd (true≢false (sym acks))

            by : ShellGoes start own x step → open_in (after start 0 (e ∷ log)).parts ≡ 0
            by (ends is) = absurd (true≢false (sym (ap stops_by marks ∙ is) ∙ runs))
            by (rests off q same parts none) =
                absurd (true≢false (sym acks ∙ ap (is_sent (is_acknowledgement tx)) none))
            by (acts well q same parts sends) =
                row q same x.to.block parts (sym (ap (is_sent (is_acknowledgement tx)) sends) ∙ acks)

        closed_next : is_known start new tx ≡ true → open_in (after start 0 (e ∷ log)).parts ≡ 0
        closed_next is = by (is_known start old tx) refl
          where
            or_off : (a b : Bool) → b ≡ false → (a || b) ≡ true → a ≡ true
            or_off true b off is = refl
            or_off false b off is = absurd (true≢false (sym is ∙ off))

            by : (b : Bool) → is_known start old tx ≡ b → open_in (after start 0 (e ∷ log)).parts ≡ 0
            by true was = still_closed was
            by false off =
                now_closed (or_off (is_sent (is_acknowledgement tx) step.effects.sends) (is_known start old tx) off
                (sym (known_next tx) ∙ is))

      -- where it is told that a takeover is complete
      module _ (q : ShellPart) (parts : step.state.parts ≡ Shell (shell_row q block.Api x).state)
          (sound : is_well_formed start.shape x ≡ true) (body : x.body ≡ Client NfCompleteRep)
          (vouched : is_vouched (noted q.client x.view) x ≡ true) (tx : TxId)
          (out : is_member x.view (coordinator_member tx) ≡ false)
        where
          abbrev i : ℕ
          i = x.from.0

          unasked : n.asked e ≡ false
          unasked =
              neither ((x.from.0 == e.host) && is_own_work x.body) (is_well_formed start.shape x)
              (never (x.from.0 == e.host) (is_own_work x.body) (ap is_own_work body)) sound
            where
              never : (a b : Bool) → b ≡ false → (a && b) ≡ false
              never true b off = off
              never false b off = refl

              neither : (a b : Bool) → a ≡ false → b ≡ true → (a || not b) ≡ false
              neither true b off is = absurd (true≢false off)
              neither false true off is = refl
              neither false false off is = absurd (true≢false (sym is))

          given : IsGiven n i 0 (old i) (n.signal e ∷ taken n i log)
          given = subst (λ k. IsGiven n i k (old i) (n.signal e ∷ taken n i (old k))) at (happens.takes unasked)

          closing_none : (l : List HostStep) → IsClosing n i 0 l (n.signal e ∷ taken n i log) → ⊥
          closing_none [] closes = closes
          closing_none (f ∷ l) closes =
              let same : n.closing i l f 0 ≡ n.signal e = cc (closes.is) in
              let differ : Client NfCompleteRep ≡ Host (Closed (cause_in f.step.marks)) =
              sym body ∙ sym (ap (λ (y : Addressed). y.signal.body) same) in
              absurd cc

          seen_is : (noted q.client x.view).api.view ≡ view
          unfolding shell_row
          seen_is = sym (client_notes q.client x) ∙ shell_view start nobody log e (shell_row q block.Api x).state parts

          complete : (fate start new tx ≡ aborts) ⊎ (is_known start new tx ≡ true)
          complete = by given
            where
              of_past : IsPast (n.signal e ∷ taken n i log) (sent n i 0 (old i))
                  → (fate start new tx ≡ aborts) ⊎ (is_known start new tx ≡ true)
              of_past past =
                  which (last i (n.signal e) past.newer (taken n i log) past.is body tx (not_led x.view tx out))
                where
                  members : Each (λ (y : Addressed). y.signal.member ≡ member_at (made start) i)
                      (n.signal e ∷ taken n i log)
                  members = each_past _ past (sent_members start i 0 (old i))

                  not_both : (z : Addressed) → IsIn z (taken n i log) → is_member stood z.signal.member ≡ false → ⊥
                  not_both z there off =
                      let own_member : z.signal.member ≡ x.member =
                      each_in (λ (y : Addressed). y.signal.member ≡ member_at (made start) i) z (taken n i log)
                      members.1 there
                      ∙ sym members.0 in
                      true≢false (sym (subst (λ v. is_member v x.member ≡ true) seen_is vouched)
                      ∙ subst (λ m. is_member view m ≡ false) own_member (still_out z.signal.member off))

                  which : IsSaid start old tx (taken n i log)
                      → (fate start new tx ≡ aborts) ⊎ (is_known start new tx ≡ true)
                  which (aborted is) = ended_more tx (inl is)
                  which (known is) = ended_more tx (inr is)
                  which (told one) = heard_it (before.heard i one.signal one.there one.place tx one.epoch one.body)
                    where
                      heard_it : (is_known start old tx ≡ true) ⊎ (is_member stood one.signal.signal.member ≡ false)
                          → (fate start new tx ≡ aborts) ⊎ (is_known start new tx ≡ true)
                      heard_it (inl is) = ended_more tx (inr is)
                      heard_it (inr off) = absurd (not_both one.signal one.there off)

              by : IsGiven n i 0 (old i) (n.signal e ∷ taken n i log)
                  → (fate start new tx ≡ aborts) ⊎ (is_known start new tx ≡ true)
              by (inl past) = of_past past
              by (inr closes) = absurd (closing_none (old i) closes)

      over_next : (v : View) → (seeing start nobody (e ∷ log)).part.client.taken_over ≡ Some v → (tx : TxId)
          → is_member v (coordinator_member tx) ≡ false
          → (fate start new tx ≡ aborts) ⊎ (is_known start new tx ≡ true)
      unfolding shell_row
      over_next v taken_is tx out = by goes
        where
          was : own.client.taken_over ≡ Some v → (fate start new tx ≡ aborts) ⊎ (is_known start new tx ≡ true)
          was is = ended_more tx (before.over v is tx out)

          next_is : (q : ShellPart) → step.state.parts ≡ Shell q → q.client.taken_over ≡ Some v
          next_is q parts = sym (shell_next start nobody log e q parts).taken ∙ taken_is

          client_next : (q : ShellPart) → IsSameBut own q → is_well_formed start.shape x ≡ true
              → step.state.parts ≡ Shell (shell_row q block.Api x).state
              → TakenNext (noted q.client x.view) x (client_row q.client x).state.taken_over
              → (fate start new tx ≡ aborts) ⊎ (is_known start new tx ≡ true)
          client_next q same well parts (stays is) =
              was (sym same.taken ∙ (sym (noted_taken q.client x.view)
              ∙ (sym is ∙ next_is (shell_row q block.Api x).state parts)))
          client_next q same well parts (completes body vouched is) =
              greater (noted q.client x.view).taken_over refl
              (sym is ∙ next_is (shell_row q block.Api x).state parts)
            where
              now : x.view ≡ v → (fate start new tx ≡ aborts) ⊎ (is_known start new tx ≡ true)
              now own_view =
                  complete q parts well body vouched tx
                  (subst (λ w. is_member w (coordinator_member tx) ≡ false) (sym own_view) out)

              greater : (o : Option View) → (noted q.client x.view).taken_over ≡ o → Some (greater_of x.view o) ≡ Some v
                  → (fate start new tx ≡ aborts) ⊎ (is_known start new tx ≡ true)
              greater None is same_view = let own_view : x.view ≡ v = cc same_view in now own_view
              greater (Some w) is same_view = either (nat_lt w.number x.view.number) same_view
                where
                  either : (b : Bool) → Some (if b then x.view else w) ≡ Some v
                      → (fate start new tx ≡ aborts) ⊎ (is_known start new tx ≡ true)
                  either true same_view = let own_view : x.view ≡ v = cc same_view in now own_view
                  either false same_view =
                      let own_view : w ≡ v = cc same_view in
                      was (sym same.taken ∙ (sym (noted_taken q.client x.view) ∙ (is ∙ ap (λ u. Some u) own_view)))

          row : (q : ShellPart) → IsSameBut own q → is_well_formed start.shape x ≡ true → (b : BlockId)
              → step.state.parts ≡ Shell (shell_row q b x).state
              → (fate start new tx ≡ aborts) ⊎ (is_known start new tx ≡ true)
          row q same well block.Api parts = client_next q same well parts (client_is_good x q.client).1
          row q same well block.Arbiter parts =
              was (sym same.taken ∙ next_is (shell_row q block.Arbiter x).state parts)
          row q same well _ parts = was (sym same.taken ∙ next_is q parts)

          by : ShellGoes start own x step → (fate start new tx ≡ aborts) ⊎ (is_known start new tx ≡ true)
          by (ends is) = absurd (true≢false (sym (ap stops_by marks ∙ is) ∙ runs))
          by (rests off q same parts none) = was (sym same.taken ∙ next_is q parts)
          by (acts well q same parts sends) = row q same well x.to.block parts

      stands_here : ClientStands start nobody new
      stands_here = record {
        heard = λ j z there place tx epoch body.
            subst (λ l. (is_known start new tx ≡ true) ⊎ (is_member (view_after start 0 l) z.signal.member ≡ false))
            (sym new_is) (heard_next j z (subst (λ l. IsIn z (taken n j l)) new_is there) place tx epoch body);
        closed = λ tx is.
            subst (λ l. in_client (count_open tx) (after start 0 l).parts ≡ 0) (sym new_is) (closed_next tx is);
        over = λ v taken_is tx out.
            over_next v (subst (λ l. (seeing start nobody l).part.client.taken_over ≡ Some v) new_is taken_is) tx out;
      }

    -- so it is behind each event
    pub client_next : IsRunning (sound_machine start) (logs_of start (e ∷ es) 0)
        → ClientStands start nobody (logs_of start (e ∷ es))
    client_next =
        event_cases (machine start) e es 0 (λ log. IsRunning n log → ClientStands start nobody new) stands_here
        (λ other runs. stands_beside other)
