-- At each moment, in each view, no more keys were committed than their owners sent commits of, and no more completed.
use Rattle.std.proofs.Common.{◌≡◌, ◌≢◌, ◌≤◌, ◌+◌, ◌==◌, ◌&&◌, ◌||◌, ℕ, Bool, true, false, List, [], ◌∷◌, refl, sym}
use Rattle.std.proofs.Common.{ap, subst, arith, inl, inr}
use Rattle.std.proofs.lemmas.Bool.{and_parts, eqb-true, true≢false}
use Rattle.std.specs.List.{count_by}
use Rattle.run_theory.specs.Links.{sent_by}
use Rattle.run_theory.specs.Lists.{IsIn}
use Rattle.run_theory.proofs.EventCases.{event_cases, event_moves}
use Rattle.host_laws.proofs.hosts.Sums.{total_add, total_same, total_zero}
use Rattle.sig_core.specs.declared.member.Member.{Member}
use Rattle.sig_core.specs.declared.signal.Signal.{Signal}
use Rattle.tc_block.specs.Complete.{one_if}
use Rattle.world_core.proofs.MadeFirst.{begins_made}
use Rattle.world_core.specs.Hosts.{hosts}
use Rattle.world_core.specs.Start.{Start, made}
use Rattle.world_core.specs.Steps.{Addressed, HostStep}
use Rattle.world_views.specs.Machine.{step_after, machine}
use Rattle.view_laws.specs.Order.{sound_machine}
use Rattle.view_laws.proofs.runs.FirstMembers.{first_again, first_in, node_low, node_some}
use Rattle.moment_laws.specs.Moments.{IsMoment, logs_of}
use Rattle.moment_laws.specs.Places.{tc_of}
use Rattle.moment_laws.proofs.MomentHosts.{tc_number}
use Rattle.moment_laws.proofs.MomentTurns.{host_low, other_log, own_log}
use Rattle.moment_laws.proofs.MomentViews.{current_number, moment_less}
use Rattle.outcome_laws.proofs.coordinators.Lists.{count_more, none_counted}
use Rattle.request_laws.specs.Tokens.{all_sent, all_taken, sent_along, total_of}
use Rattle.request_laws.proofs.routes.BesideRows.{is_of_rows}
use Rattle.request_laws.proofs.routes.Hosts.{PartHost, coordinates, is_beside, keeps_rows, part_host}
use Rattle.request_laws.proofs.tokens.RowHosts.{sent_few}
use Rattle.request_laws.proofs.tokens.SumsOverHosts.{takes_few}
use Rattle.request_laws.proofs.tokens.FirstInView.{all_sent_more, all_taken_more, node_of, sent_now, taken_now}
use Rattle.request_laws.proofs.tokens.FirstInView.{total_of_made}
use Rattle.commit_laws.specs.Once.{owners_sent}
use Rattle.commit_laws.proofs.drive.Hosts.{beside_none, coordinator_tells_none, other_none, rows_few}
use Rattle.commit_laws.proofs.drive.Kinds.{Drive, Keys, comes, either, either_aside, either_parts, goes, numbered}

-- both together are each
module _ (drive : Drive) (w : Keys) (number : ℕ) where
  one_parts : (x : Signal)
      → one_if (numbered number (either drive w) x)
      ≡ one_if (numbered number (goes drive w) x) + one_if (numbered number (comes drive w) x)
  one_parts x = by (x.view.number == number)
    where
      none : (b : Bool) → one_if (b && false) ≡ 0
      none true = refl
      none false = refl

      all : (b : Bool) → one_if (b && true) ≡ one_if b
      all true = refl
      all false = refl

      by : (same : Bool)
          → one_if (either drive w x.body && same)
          ≡ one_if (goes drive w x.body && same) + one_if (comes drive w x.body && same)
      by true =
          omega (
            arith,
            all (either drive w x.body),
            all (goes drive w x.body),
            all (comes drive w x.body),
            either_parts drive w x.body,
          )
      by false =
          omega (arith, none (either drive w x.body), none (goes drive w x.body), none (comes drive w x.body))

  count_parts : (xs : List Addressed)
      → count_by (λ (y : Addressed). numbered number (either drive w) y.signal) xs
      ≡ count_by (λ (y : Addressed). numbered number (goes drive w) y.signal) xs
      + count_by (λ (y : Addressed). numbered number (comes drive w) y.signal) xs
  count_parts [] = refl
  count_parts (y ∷ xs) =
      omega (
        arith,
        count_more (λ (y : Addressed). numbered number (either drive w) y.signal) y xs,
        count_more (λ (y : Addressed). numbered number (goes drive w) y.signal) y xs,
        count_more (λ (y : Addressed). numbered number (comes drive w) y.signal) y xs,
        one_parts y.signal,
        count_parts xs,
      )

  along_parts : (start : Start) (h : ℕ) (log : List HostStep)
      → sent_along start (numbered number (either drive w)) h log
      ≡ sent_along start (numbered number (goes drive w)) h log
      + sent_along start (numbered number (comes drive w)) h log
  along_parts start h [] = refl
  along_parts start h (e ∷ log) =
      omega (arith, count_parts (sent_by (sound_machine start) h log e), along_parts start h log)

  pub all_parts : (start : Start) (logs : ℕ → List HostStep)
      → all_sent start (numbered number (either drive w)) logs
      ≡ all_sent start (numbered number (goes drive w)) logs + all_sent start (numbered number (comes drive w)) logs
  all_parts start logs =
      omega (
        arith,
        total_same (hosts start) (λ h. sent_along start (numbered number (either drive w)) h (logs h))
            (λ h. sent_along start (numbered number (goes drive w)) h (logs h)
            + sent_along start (numbered number (comes drive w)) h (logs h))
            (λ h low. along_parts start h (logs h)),
        total_add (hosts start) (λ h. sent_along start (numbered number (goes drive w)) h (logs h))
            (λ h. sent_along start (numbered number (comes drive w)) h (logs h)),
      )

-- sums over members
pub total_of_below : (ms : List Member) (f g : Member → ℕ) → ((m : Member) → IsIn m ms → f m ≤ g m)
    → total_of ms f ≤ total_of ms g
total_of_below [] f g less = omega arith
total_of_below (m ∷ ms) f g less =
    omega (arith, less m (inl refl), total_of_below ms f g (λ x there. less x (inr there)))

module _ (start : Start) (all : ℕ → List HostStep) (e : HostStep) (es : List HostStep)
    (moment : IsMoment start all (e ∷ es)) (p : Signal → Bool)
  where
    abbrev before : ℕ → List HostStep
    before = logs_of start es

    abbrev behind : ℕ → List HostStep
    behind = logs_of start (e ∷ es)

    abbrev along : Member → (ℕ → List HostStep) → ℕ
    along me logs = sent_along start p (tc_of start me) (logs (tc_of start me))

    -- what a host has sent, behind the event
    pub along_own : (h : ℕ) → e.host ≡ h
        → sent_along start p h (behind h) ≡ sent_now start all e es moment p + sent_along start p h (before h)
    along_own h at =
        subst
        (λ k. sent_along start p k (behind k) ≡ sent_now start all e es moment p + sent_along start p k (before k)) at
        (ap (sent_along start p e.host) (own_log start all e es moment))

    pub along_other : (h : ℕ) → e.host ≢ h → sent_along start p h (behind h) ≡ sent_along start p h (before h)
    along_other h off = ap (sent_along start p h) (other_log start all e es moment h off)

    pub along_rises : (h : ℕ) → sent_along start p h (before h) ≤ sent_along start p h (behind h)
    along_rises h =
        event_cases (machine start) e es h (λ log. sent_along start p h (before h) ≤ sent_along start p h log)
        (λ at. omega arith) (λ off. omega arith)

    -- where none is sent now, it is what it was
    pub along_still : (h : ℕ) → (e.host ≡ h → sent_now start all e es moment p ≡ 0)
        → sent_along start p h (behind h) ≡ sent_along start p h (before h)
    along_still =
        event_moves (machine start) e es
        (λ h was log. (e.host ≡ h → sent_now start all e es moment p ≡ 0)
        → sent_along start p h log ≡ sent_along start p h was)
        (λ none. let nothing = none refl in omega (arith, nothing)) (λ h log none. refl)

    pub owners_rise : owners_sent start p before ≤ owners_sent start p behind
    owners_rise =
        total_of_below (made start) (λ me. along me before) (λ me. along me behind)
        (λ me there. along_rises (tc_of start me))

    module _ (me : Member) (there : IsIn me (made start)) (at : e.host ≡ tc_of start me) where
      others : (k : ℕ) → 1 ≤ k → k ≤ start.shape.nodes → k ≢ me.node
          → along (node_of k) behind ≡ along (node_of k) before
      others k some low off =
          along_other (tc_of start (node_of k))
          (λ same.
          off
          (let own = tc_number start moment.cluster.nobody me there in
          let other = tc_number start moment.cluster.nobody (node_of k)
          (begins_made start _ (first_in start.shape.nodes k some low)) in
          omega (arith, own, other, at, same, node_some start moment.cluster.nobody me there, some)))

      pub owners_more : owners_sent start p behind ≡ owners_sent start p before + sent_now start all e es moment p
      owners_more =
          let swapped : owners_sent start p behind + along me before ≡ owners_sent start p before + along me behind =
          subst
          (λ one. owners_sent start p behind + along one before ≡ owners_sent start p before + along one behind)
          (first_again start moment.cluster.nobody me there)
          (total_of_made start moment.cluster.nobody (λ m. along m before) (λ m. along m behind) me.node
          (node_some start moment.cluster.nobody me there) (node_low start moment.cluster.nobody me there) others) in
          omega (arith, swapped, along_own (tc_of start me) at)

-- of commits and of completions, in each view
module _ (drive : Drive) (w : Keys) (number : ℕ) (start : Start) where
  abbrev going : Signal → Bool
  going = numbered number (goes drive w)

  abbrev moving : Signal → Bool
  moving = numbered number (either drive w)

  -- what is sent is no more than what owners sent and what is taken
  abbrev ArePassed : (ℕ → List HostStep) → Type 0
  ArePassed logs = all_sent start moving logs ≤ owners_sent start going logs + all_taken start going logs

  module _ (all : ℕ → List HostStep) (e : HostStep) (es : List HostStep) (moment : IsMoment start all (e ∷ es)) where
    abbrev now : ℕ
    now = current_number start (logs_of start (e ∷ es))

    abbrev More : Type 0
    More =
        owners_sent start going (logs_of start es) + sent_now start all e es moment moving
        ≤ owners_sent start going (logs_of start (e ∷ es)) + taken_now start all e es moment going

    -- an event in this view
    in_view : number ≡ now → PartHost start e.host → More
    in_view same (coordinates me there at) =
        let none : sent_now start all e es moment (numbered number (comes drive w)) ≡ 0 =
        subst (λ n. sent_now start all e es moment (numbered n (comes drive w)) ≡ 0) (sym same) untold in
        let parts = count_parts drive w number (sent_by (sound_machine start) e.host (logs_of start es e.host) e) in
        omega (arith, parts, none, owners_more start all e es moment going me there at)
      where
        untold : sent_now start all e es moment (numbered now (comes drive w)) ≡ 0
        untold =
            let sends = (step_after start e.host (logs_of start es e.host) e).effects.sends in
            let none =
            none_counted (comes drive w) sends
            (coordinator_tells_none drive w start moment.cluster.nobody me there e.host at (logs_of start es e.host) e)
            in
            omega (arith, none, sent_few start (comes drive w) now e.host (logs_of start es e.host) e)
    in_view same (keeps_rows me there at) =
        omega (
          arith,
          owners_rise start all e es moment going,
          subst
              (λ n. sent_now start all e es moment (numbered n (either drive w))
              ≤ taken_now start all e es moment (numbered n (goes drive w)))
              (sym same) (rows_few start all e es moment drive w me there at),
        )
    in_view same (is_beside beside) =
        omega (
          arith,
          owners_rise start all e es moment going,
          subst (λ n. sent_now start all e es moment (numbered n (either drive w)) ≡ 0) (sym same)
              (beside_none start all e es moment drive w beside),
        )

    more : More
    more = by (number == now) refl
      where
        by : (b : Bool) → (number == now) ≡ b → More
        by true is = in_view (eqb-true number now is)
            (part_host start moment.cluster.nobody e.host (host_low start all e es moment))
        by false off =
            omega (
              arith,
              owners_rise start all e es moment going,
              other_none start all e es moment number (either drive w) off,
            )

  pub passed_on : (all : ℕ → List HostStep) (es : List HostStep) → IsMoment start all es → ArePassed (logs_of start es)
  passed_on all [] moment =
      let none : all_sent start moving (logs_of start []) ≡ 0 = total_zero (hosts start) (λ h. 0) (λ h. refl) in
      omega (arith, none)
  passed_on all (e ∷ es) moment =
      omega (
        arith,
        passed_on all es (moment_less start all e es moment),
        more all e es moment,
        all_sent_more start all e es moment moving,
        all_taken_more start all e es moment going,
      )

  -- so no more is told of than owners sent
  going_rows : (x : Signal) → going x ≡ true → is_of_rows x.body ≡ true
  going_rows x is = by (is_of_rows x.body) refl
    where
      both : (g c : Bool) → (g || c) ≡ false → g ≡ true → true ≡ false
      both true c none is = none
      both false c none is = sym is

      by : (b : Bool) → is_of_rows x.body ≡ b → b ≡ true
      by true e = refl
      by false e =
          let own = (and_parts (goes drive w x.body) (x.view.number == number) is).0 in
          absurd (true≢false (both (goes drive w x.body) (comes drive w x.body) (either_aside drive w x.body e) own))

  pub told_few : (all : ℕ → List HostStep) (es : List HostStep) → IsMoment start all es
      → all_sent start (numbered number (comes drive w)) (logs_of start es) ≤ owners_sent start going (logs_of start es)
  told_few all es moment =
      omega (
        arith,
        passed_on all es moment,
        takes_few start going going_rows all es moment,
        all_parts drive w number start (logs_of start es),
      )
