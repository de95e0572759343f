-- When a takeover takes the word of the last member that it asked, it has taken the end of each full member: it took as
-- many as there are members, no more than one of each, and none of others.
use Rattle.std.proofs.Common.{◌≡◌, ◌≤◌, ◌<◌, ◌+◌, ◌==◌, ◌&&◌, ◌||◌, ◌∙◌, ℕ, Bool, true, false, List, [], ◌∷◌, eq-eqb}
use Rattle.std.proofs.Common.{eqb-true, length, refl, sym, ap, arith, subst}
use Rattle.std.proofs.lemmas.Bool.{and_parts, ltb-false, true≢false}
use Rattle.std.specs.Prelude.{if◌then◌else◌, not}
use Rattle.std.specs.List.{count_by}
use Rattle.run_theory.specs.Counts.{total}
use Rattle.run_theory.specs.Links.{sent, taken}
use Rattle.run_theory.specs.Lists.{IsIn}
use Rattle.run_theory.specs.Machine.{Machine}
use Rattle.run_theory.proofs.Runs.{log_of-own, logs_of_run}
use Rattle.run_theory.specs.Runs.{AreLogs}
use Rattle.commit_laws.proofs.hosts.PartEach.{part_each}
use Rattle.host_laws.proofs.hosts.Sums.{total_at}
use Rattle.sig_core.specs.declared.member.Member.{Member}
use Rattle.sig_core.specs.declared.outs.Outgoing.{Outgoing}
use Rattle.sig_core.specs.declared.signal.Body.{Body}
use Rattle.sig_core.specs.declared.signal.Body.TheVariants.{Takeover}
use Rattle.sig_core.specs.declared.signal.Signal.{Signal}
use Rattle.sig_core.specs.declared.signal.takeover.TakeoverSignal.TheVariants.{LqhTransEnd}
use Rattle.sig_core.specs.declared.view.View.{View}
use Rattle.frag_map.specs.Layout.{Layout}
use Rattle.tc_block.specs.Complete.{one_if}
use Rattle.lqh_views.specs.WholeReports.{ends}
use Rattle.takeover_block.specs.Gather.{member_count}
use Rattle.node_views.specs.WellFormed.{is_well_formed}
use Rattle.world_core.specs.Hosts.{hosts}
use Rattle.world_core.specs.Start.{NobodyStarts, Start, made}
use Rattle.world_core.specs.Steps.{Addressed, HostStep}
use Rattle.world_views.specs.Machine.{machine, step_after}
use Rattle.world_views.specs.Sending.{is_own_work}
use Rattle.view_laws.specs.Order.{sound_machine}
use Rattle.view_laws.specs.Runs.{WasInstalled}
use Rattle.moment_laws.specs.Moments.{IsMoment, current, logs_of}
use Rattle.moment_laws.specs.PartSteps.{tc_kind}
use Rattle.moment_laws.specs.Places.{ldm_of, tc_of}
use Rattle.moment_laws.proofs.MomentHosts.{tc_low}
use Rattle.moment_laws.proofs.MomentMembers.{current_made}
use Rattle.moment_laws.proofs.MomentViews.{moment_installed, moment_less, moment_within}
use Rattle.outcome_laws.proofs.coordinators.Lists.{none_counted}
use Rattle.request_laws.specs.Tokens.{sent_along, taken_along}
use Rattle.request_laws.proofs.routes.Hosts.{PartHost, beside_sends, coordinates, is_beside, keeps_rows, part_host}
use Rattle.request_laws.proofs.routes.Layouts.{takeover_laid}
use Rattle.request_laws.proofs.routes.PartSteps.{TcStep, tc_step}
use Rattle.request_laws.proofs.tokens.RowHosts.{sent_few}
use Rattle.request_laws.proofs.tokens.SumsOverHosts.{given_count, sent_total, taken_total}
use Rattle.commit_laws.specs.Gathering.{EndsGathering}
use Rattle.commit_laws.specs.Takeovers.{takeover_at}
use Rattle.commit_laws.specs.Telling.{AllHaveEnded, HasEnded}
use Rattle.commit_laws.proofs.gathering.Asked.{asked}
use Rattle.commit_laws.proofs.answered.Told.{Passes, passes_some}
use Rattle.commit_laws.proofs.drive.Kinds.{numbered}
use Rattle.commit_laws.proofs.gathering.EndsCounts.{IsOfOne, each_has, hosts_few}
use Rattle.commit_laws.proofs.gathering.Ends.{ender_full, ends_once}
use Rattle.commit_laws.proofs.gathering.Words.{EndNone, aside_none, none_ends, tc_ends_none, tc_enters_none}

-- a host that coordinates ends no report
module _ (start : Start) (nobody : NobodyStarts start) (me : Member) (there : IsIn me (made start)) (h : ℕ)
    (at : h ≡ tc_of start me)
    (log : List HostStep) (e : HostStep)
  where
    step : TcStep start h log e
    step = tc_step start nobody me there h at log e

    coordinator_ends_none : EndNone (step_after start h log e).effects.sends
    coordinator_ends_none =
        part_each tc_kind (λ (o : Outgoing). ends o.body ≡ false) start.shape step.own _ e.step.taken _ _
        (step_after start h log e).effects.sends step.does
        (λ above. none_ends _ (tc_enters_none step.own e.step.taken.view))
        (λ passed. tc_ends_none step.does.between e.step.taken e.step.taken.to.block)

-- a host of whose steps none ends a report ended none
silent_along : (start : Start) (number h : ℕ)
    → ((log : List HostStep) (e : HostStep) → EndNone (step_after start h log e).effects.sends) → (log : List HostStep)
    → sent_along start (numbered number ends) h log ≡ 0
silent_along start number h none [] = refl
silent_along start number h none (e ∷ log) =
    omega (
      arith,
      sent_few start ends number h log e,
      none_counted ends (step_after start h log e).effects.sends (none log e),
      silent_along start number h none log,
    )

module _ (start : Start) (all : ℕ → List HostStep) (e : HostStep) (es : List HostStep)
    (moment : IsMoment start all (e ∷ es)) (member : Member) (closing : EndsGathering start e es member)
  where
    abbrev old : ℕ → List HostStep
    old = logs_of start es

    abbrev new : ℕ → List HostStep
    new = logs_of start (e ∷ es)

    abbrev n : Machine HostStep Addressed
    n = sound_machine start

    abbrev t : ℕ
    t = tc_of start member

    abbrev now : View
    now = current start (logs_of start (e ∷ es))

    abbrev number : ℕ
    number = (current start (logs_of start (e ∷ es))).number

    abbrev is_end : Signal → Bool
    is_end = numbered number ends

    -- ends of the view that were taken from a host
    abbrev ended : ℕ → ℕ
    ended i = count_by (λ (y : Addressed). is_end y.signal) (taken (sound_machine start) i (logs_of start (e ∷ es) t))

    -- the last end is taken
    one_more : taken_along start is_end (new t) ≡ 1 + taken_along start is_end (old t)
    one_more = ap (taken_along start is_end) (log_of-own (machine start) e es t closing.host_is) ∙ taken_it
      where
        unasked : (own work sound : Bool) → work ≡ false → sound ≡ true → ((own && work) || not sound) ≡ false
        unasked true true sound work well = absurd (true≢false work)
        unasked true false true work well = refl
        unasked true false false work well = absurd (true≢false (sym well))
        unasked false work true is well = refl
        unasked false work false is well = absurd (true≢false (sym well))

        counts : (asked own same : Bool) → asked ≡ false → own ≡ true → same ≡ true
            → (if asked then 0 else one_if (own && same)) ≡ 1
        counts true own same off is here = absurd (true≢false off)
        counts false false same off is here = absurd (true≢false (sym is))
        counts false true false off is here = absurd (true≢false (sym here))
        counts false true true off is here = refl

        taken_it : taken_along start is_end (e ∷ old t) ≡ 1 + taken_along start is_end (old t)
        taken_it =
            let one =
            counts (n.asked e) (ends e.step.taken.body) (e.step.taken.view.number == number)
            (unasked (e.step.taken.from.0 == e.host) (is_own_work e.step.taken.body)
            (is_well_formed start.shape e.step.taken) (ap is_own_work closing.body_is) closing.sound)
            (ap ends closing.body_is) (eq-eqb e.step.taken.view.number number closing.header) in
            omega (arith, one)

    -- it awaited no more than that
    waited : length now.full ≤ closing.awaited + taken_along start is_end (old t)
    waited =
        let count = ap member_count laid in
        omega (arith, waits, count)
      where
        same_number : (current start old).number ≡ number
        same_number = ap (λ (v : View). v.number) (sym closing.same)

        waits : member_count (takeover_at start old member).layout.view
            ≤ closing.awaited + taken_along start is_end (old t)
        waits =
            (((asked start member.node number all es (moment_less start all e es moment) member closing.made_is).now
            (ap (λ (v : View). v.number) closing.stands ∙ same_number)).stands closing.awaited closing.gathers).waits

        laid : (takeover_at start old member).layout.view ≡ now
        laid =
            ap (λ (l : Layout). l.view) (takeover_laid start moment.cluster.nobody member closing.made_is (old t))
            ∙ (closing.stands ∙ sym closing.same)

    enough : length now.full ≤ taken_along start is_end (new t)
    enough = omega (arith, waited, one_more, ltb-false 1 closing.awaited closing.last)

    -- what was taken from a host it sent
    given : (i : ℕ) → ended i ≤ count_by (λ (y : Addressed). is_end y.signal) (sent n i t (new i))
    given i =
        let right : AreLogs n new = logs_of_run n (e ∷ es) moment.run in
        given_count start is_end (λ i log e j. refl) i t (new i) (taken n i (new t)) (right.linked i t)

    ended_few : (i : ℕ) → ended i ≤ sent_along start is_end i (new i)
    ended_few i =
        omega (
          arith,
          given i,
          sent_total start is_end (hosts start) i (new i),
          total_at (hosts start) (λ j. count_by (λ (y : Addressed). is_end y.signal) (sent n i j (new i))) t
              (tc_low start moment.cluster.nobody member closing.made_is),
        )

    all_ended : taken_along start is_end (new t) ≤ total (hosts start) ended
    all_ended = taken_total start is_end (hosts start) (new t) none_above
      where
        none_above : (i : ℕ) → hosts start ≤ i → ended i ≡ 0
        none_above i high =
            let none : count_by (λ (y : Addressed). is_end y.signal) (sent n i t (new i)) ≡ 0 =
            ap (λ log. count_by (λ (y : Addressed). is_end y.signal) (sent n i t log))
            (moment_within start all (e ∷ es) moment i high) in
            omega (arith, given i, none)

    was : WasInstalled start all now
    was = moment_installed start all (e ∷ es) moment

    -- rows of full members alone ended reports
    of_full : (i : ℕ) → i < hosts start → 1 ≤ ended i → IsOfOne (ldm_of start) now.full i
    of_full i low some = by (part_host start moment.cluster.nobody i low)
      where
        silent : ((log : List HostStep) (f : HostStep) → EndNone (step_after start i log f).effects.sends)
            → IsOfOne (ldm_of start) now.full i
        silent none = absurd (omega (arith, some, ended_few i, silent_along start number i none (new i)))

        by : PartHost start i → IsOfOne (ldm_of start) now.full i
        by (coordinates me there at) =
            silent (λ log f. coordinator_ends_none start moment.cluster.nobody me there i at log f)
        by (keeps_rows me there at) = record {
          member = me;
          there =
              ender_full start all me there number now was refl (e ∷ es) moment
              (subst (λ k. 1 ≤ sent_along start is_end k (new k)) at (omega (arith, some, ended_few i)));
          at = at;
        }
        by (is_beside first) = silent (λ log f. none_ends _ (aside_none _ (beside_sends start i first log f)))

    once : (one : Member) → IsIn one now.full → ended (ldm_of start one) ≤ 1
    once one full =
        omega (
          arith,
          ended_few (ldm_of start one),
          ends_once start all one (current_made start all (e ∷ es) moment one full) number (e ∷ es) moment,
        )

    each_ended : (one : Member) → IsIn one now.full → 1 ≤ ended (ldm_of start one)
    each_ended =
        each_has (λ m. ended (ldm_of start m)) now.full once
        (omega (arith, enough, all_ended, hosts_few (ldm_of start) now.full (hosts start) ended of_full))

    has_ended : (one : Member) → IsIn one (current start (logs_of start es)).full → HasEnded start e es member one
    has_ended one full = record {
      signal = end.one;
      there = end.there;
      ends = record {
        body = is_the_end end.one.signal.body parts.0;
        number =
            eqb-true end.one.signal.view.number number parts.1 ∙ ap (λ (v : View). v.number) closing.same;
      };
    }
      where
        end : Passes is_end (taken n (ldm_of start one) (new t))
        end =
            passes_some is_end (taken n (ldm_of start one) (new t))
            (each_ended one (subst (λ (v : View). IsIn one v.full) (sym closing.same) full))

        parts : (ends end.one.signal.body ≡ true) × ((end.one.signal.view.number == number) ≡ true)
        parts = and_parts (ends end.one.signal.body) (end.one.signal.view.number == number) end.is

        is_the_end : (body : Body) → ends body ≡ true → body ≡ Takeover LqhTransEnd
        is_the_end (Takeover LqhTransEnd) is = refl
        is_the_end body is = absurd (true≢false (sym is))

pub all_have_ended : AllHaveEnded
all_have_ended start all e es moment member closing one full = has_ended start all e es moment member closing one full
