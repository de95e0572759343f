-- At each moment, in each view, the rows of a member ended a report once at most, and only those of a full one did.
use Rattle.std.proofs.Common.{◌≡◌, ◌≢◌, ◌≤◌, ◌<◌, ◌+◌, ◌⊎◌, ◌==◌, ◌&&◌, ◌∙◌, ℕ, Bool, true, false, List, [], ◌∷◌}
use Rattle.std.proofs.Common.{eq-eqb, inl, inr, refl, sym, ap, arith, subst}
use Rattle.std.proofs.lemmas.Bool.{cases_eq, true≢false}
use Rattle.std.proofs.lemmas.Bool.Decides.{nat_tests}
use Rattle.std.specs.Prelude.{if◌then◌else◌}
use Rattle.run_theory.specs.Lists.{Each, IsIn, IsPast}
use Rattle.run_theory.proofs.Runs.{log_of-own}
use Rattle.run_theory.proofs.EventCases.{event_cases}
use Rattle.run_theory.proofs.Pasts.{each_map}
use Rattle.sig_core.specs.declared.member.Member.{Member}
use Rattle.sig_core.specs.declared.outs.Outgoing.{Outgoing}
use Rattle.sig_core.specs.declared.place.BlockId.TheVariants as block
use Rattle.sig_core.specs.declared.place.Part.TheVariants.{Ldm}
use Rattle.sig_core.specs.declared.place.Place.{Place}
use Rattle.sig_core.specs.declared.signal.Body.{Body}
use Rattle.sig_core.specs.declared.signal.Body.TheVariants.{Takeover}
use Rattle.sig_core.specs.declared.signal.Signal.{Signal}
use Rattle.sig_core.specs.declared.signal.takeover.TakeoverSignal.TheVariants.{LqhTransReq}
use Rattle.sig_core.specs.declared.view.View.{View}
use Rattle.tc_block.specs.Complete.{one_if}
use Rattle.lqh_views.specs.Replica.{replica_row}
use Rattle.lqh_views.specs.State.{ReplicaState}
use Rattle.lqh_views.specs.WholeReports.{asks, ends}
use Rattle.node_views.specs.declared.host_body.HostBody as hosts_of
use Rattle.node_views.specs.Fence.{is_body_fenced}
use Rattle.world_core.proofs.HostNumbers.{hosts_low}
use Rattle.world_core.specs.Hosts.{hosts}
use Rattle.world_core.specs.Start.{NobodyStarts, Start, made}
use Rattle.world_core.specs.Steps.{HostStep}
use Rattle.world_views.specs.Machine.{machine, step_after}
use Rattle.world_views.specs.Sending.{is_own_work}
use Rattle.view_laws.specs.Order.{sound_machine}
use Rattle.view_laws.specs.Runs.{WasInstalled, view_after}
use Rattle.view_laws.specs.Sets.{all_of}
use Rattle.view_laws.proofs.runs.AllSound.{have_orderly}
use Rattle.view_laws.proofs.runs.FirstMembers.{node_low, node_some}
use Rattle.view_laws.proofs.runs.ChosenViews.{one_view}
use Rattle.view_laws.proofs.standing.Members.{are_of_views}
use Rattle.moment_laws.specs.Moments.{IsMoment, logs_of}
use Rattle.moment_laws.specs.Places.{ldm_of}
use Rattle.moment_laws.proofs.MomentHosts.{ldm_member, ldm_number, ldm_started, part_some}
use Rattle.moment_laws.proofs.MomentMembers.{all_full}
use Rattle.moment_laws.proofs.MomentTurns.{other_log}
use Rattle.moment_laws.proofs.MomentViews.{current_number, moment_less}
use Rattle.moment_laws.proofs.PartTaken.{IsTakenNow}
use Rattle.outcome_laws.specs.Counts.{count_sent}
use Rattle.outcome_laws.proofs.coordinators.Lists.{none_counted}
use Rattle.request_laws.specs.Blocks.{no_replica, rows_after, rows_in}
use Rattle.request_laws.specs.Tokens.{sent_along, taken_along}
use Rattle.request_laws.proofs.routes.BesideRows.{is_of_rows}
use Rattle.request_laws.proofs.routes.Headers.{event_past, own_installed}
use Rattle.request_laws.proofs.routes.Places.{is_for_rows}
use Rattle.request_laws.proofs.tokens.RowHosts.{sent_few, test_taken}
use Rattle.request_laws.proofs.tokens.FirstInView.{sent_now, taken_now}
use Rattle.commit_laws.specs.Traces.{rows_at}
use Rattle.commit_laws.proofs.gathering.Asked.{asked_once}
use Rattle.commit_laws.proofs.drive.Kinds.{numbered}
use Rattle.commit_laws.proofs.drive.Moments.{along_other, along_own}
use Rattle.commit_laws.proofs.gathering.EndsReport.{rows_end, under_way}
use Rattle.commit_laws.proofs.gathering.Words.{asked_in}
use Rattle.commit_laws.proofs.orders.Unseen.{unseen_none}
use Rattle.commit_laws.proofs.hosts.RowsTurn.{IsBetween, IsTakenAt, RowsTurn, as_was, enter_now, entered, rest_now}
use Rattle.commit_laws.proofs.hosts.RowsTurn.{rows_turn, take_now}
use Rattle.commit_laws.proofs.hosts.SaverGoes.{IsOfSaver, of_saver}

plain_ask : (body : Body) → asks body ≡ true
    → (is_own_work body ≡ false) × ((y : Signal) → is_body_fenced y body ≡ true)
plain_ask (Takeover LqhTransReq) own = (refl, λ y. refl)
plain_ask body own = absurd (true≢false (sym own))

module _ (start : Start) (all : ℕ → List HostStep) (member : Member) (there : IsIn member (made start)) (number : ℕ)
  where
    abbrev h : ℕ
    h = ldm_of start member

    low : NobodyStarts start → ldm_of start member < hosts start
    low nobody =
        let is = ldm_number start nobody member there in
        let node = node_low start nobody member there in
        let some = node_some start nobody member there in
        omega (arith, is, node, some, hosts_low start)

    -- in the view so many ends were sent, reports are under way, and asks were taken
    abbrev sent_of : List HostStep → ℕ
    sent_of es = sent_along start (numbered number ends) h (logs_of start es h)

    abbrev waits_in : View → ℕ → ℕ
    waits_in view n = if view.number == number then n else 0

    abbrev waits_of : List HostStep → ℕ
    waits_of es =
        waits_in (view_after start h (logs_of start es h)) (under_way (rows_at start (logs_of start es) member))

    abbrev asked_of : List HostStep → ℕ
    asked_of es = taken_along start (asked_in member.node number) (logs_of start es h)

    abbrev Few : List HostStep → Type 0
    Few es = sent_of es + waits_of es ≤ asked_of es

    waits_few : (view : View) (n : ℕ) → waits_in view n ≤ n
    waits_few view n = by (view.number == number)
      where
        by : (b : Bool) → (if b then n else 0) ≤ n
        by true = omega arith
        by false = omega arith

    waits_all : (view : View) (n : ℕ) → view.number ≡ number → waits_in view n ≡ n
    waits_all view n same = ap (λ b. if b then n else 0) (eq-eqb view.number number same)

    first : NobodyStarts start → Few []
    first nobody =
        omega (arith, waits_few (view_after start h []) (under_way (rows_at start (logs_of start []) member)), none)
      where
        none : under_way (rows_at start (logs_of start []) member) ≡ 0
        none =
            ap (λ (s : hosts_of.HostBody). under_way (rows_in (no_replica start member) s.parts))
            (ldm_started start nobody member there)

    module _ (e : HostStep) (es : List HostStep) (moment : IsMoment start all (e ∷ es)) (before : Few es) where
      abbrev old : ℕ → List HostStep
      old = logs_of start es

      abbrev new : ℕ → List HostStep
      new = logs_of start (e ∷ es)

      abbrev x : Signal
      x = e.step.taken

      abbrev stood : View
      stood = view_after start h (old h)

      abbrev view : View
      view = view_after start h (e ∷ old h)

      -- an event of another host
      other : e.host ≢ h → Few (e ∷ es)
      other off =
          subst
          (λ log. sent_along start (numbered number ends) h log
          + waits_in (view_after start h log) (under_way (rows_after start member log))
          ≤ taken_along start (asked_in member.node number) log)
          (sym (other_log start all e es moment h off)) before

      module _ (at : e.host ≡ h) where
        own : new h ≡ e ∷ old h
        own = log_of-own (machine start) e es h at

        abbrev sends : List Outgoing
        sends = (step_after start h (old h) e).effects.sends

        sent_more : sent_of (e ∷ es) ≡ sent_now start all e es moment (numbered number ends) + sent_of es
        sent_more = along_own start all e es moment (numbered number ends) h at

        asked_more : asked_of (e ∷ es)
            ≡ taken_now start all e es moment (asked_in member.node number) + asked_of es
        asked_more = ap (taken_along start (asked_in member.node number)) own

        -- what is sent of ends are those of the step
        few_ends : sent_now start all e es moment (numbered number ends) ≤ count_sent ends sends
        few_ends =
            subst
            (λ k. sent_now start all e es moment (numbered number ends)
            ≤ count_sent ends (step_after start k (old k) e).effects.sends) at
            (sent_few start ends number e.host (old e.host) e)

        -- what waits behind
        waits_behind : waits_of (e ∷ es) ≡ waits_in view (under_way (rows_at start new member))
        waits_behind = ap (λ log. waits_in (view_after start h log) (under_way (rows_at start new member))) own

        quiet : Each IsOfSaver sends → waits_in view (under_way (rows_at start new member)) ≤ waits_of es
            → Few (e ∷ es)
        quiet own_sends less =
            let none : count_sent ends sends ≡ 0 =
            none_counted ends sends
            (each_map IsOfSaver (λ (o : Outgoing). ends o.body ≡ false) sends
            (λ o is.
            of_saver (λ body. ends body ≡ false) (record {
              reports = λ epoch. refl;
              confirms = refl;
              goes_on = λ at. refl;
            }) o.body is) own_sends) in
            omega (arith, before, sent_more, asked_more, few_ends, none, waits_behind, less)

        -- of another view
        unseen : view.number ≢ number → Few (e ∷ es)
        unseen off =
            let rests : waits_in view (under_way (rows_at start new member)) ≡ 0 =
            ap (λ b. if b then under_way (rows_at start new member) else 0) (apart view.number number off) in
            omega (
              arith,
              before,
              sent_more,
              asked_more,
              unseen_none start e.host (old e.host) e number (λ y. ends y.body)
                  (subst (λ k. (view_after start k (e ∷ old k)).number ≢ number) (sym at) off),
              waits_behind,
              rests,
            )
          where
            apart : (a b : ℕ) → a ≢ b → (a == b) ≡ false
            apart a b other = grind (arith, nat_tests)

        module _ (seen : view.number ≡ number) where
          -- what is asked for is counted
          asks_few : IsTakenNow start all e es moment block.Lqh
              → one_if (asks x.body) ≤ taken_now start all e es moment (asked_in member.node number)
          asks_few taken = by (asks x.body) refl
            where
              now : current_number start new ≡ number
              now =
                  sym (ap (λ (v : View). v.number) taken.stands)
                  ∙ (ap (λ k. (view_after start k (e ∷ old k)).number) at ∙ seen)

              counts : one_if (asks x.body) ≤ taken_now start all e es moment (numbered number asks)
              counts =
                  subst (λ m. one_if (asks x.body) ≤ taken_now start all e es moment (numbered m asks)) now
                  (test_taken start all e es moment asks plain_ask block.Lqh taken)

              at_node : asks x.body ≡ true → (x.to.node == member.node) ≡ true
              at_node is =
                  eq-eqb x.to.node member.node
                  (ap (λ (to : Place). to.node)
                  (is_for_rows start all e es moment member there at taken.sound taken.block (of_rows x.body is)))
                where
                  of_rows : (body : Body) → asks body ≡ true → is_of_rows body ≡ true
                  of_rows (Takeover LqhTransReq) own = refl
                  of_rows body own = absurd (true≢false (sym own))

              with_node : (a b c d : Bool) → c ≡ true
                  → (if a then 0 else one_if (b && d)) ≤ (if a then 0 else one_if ((b && c) && d))
              with_node true b c d is = omega arith
              with_node false true true d is = omega arith
              with_node false true false d is = absurd (true≢false (sym is))
              with_node false false c d is = omega arith

              by : (b : Bool) → asks x.body ≡ b
                  → one_if (asks x.body) ≤ taken_now start all e es moment (asked_in member.node number)
              by true is =
                  let more =
                  with_node ((sound_machine start).asked e) (asks x.body) (x.to.node == member.node)
                  (x.view.number == number) (at_node is) in
                  omega (arith, counts, more)
              by false off = omega (arith, ap one_if off)

          takes : (s : ReplicaState) → IsBetween start all e es moment member there s
              → IsTakenAt start all e es moment member there s → Few (e ∷ es)
          takes s between taken =
              omega (
                arith,
                before,
                sent_more,
                asked_more,
                few_ends,
                few_sent taken.sent,
                rows_end s x,
                asks_few taken.now,
                waits_behind,
                waits_few view (under_way (rows_at start new member)),
                ap under_way taken.rows_are,
                was_under_way between,
              )
            where
              few_sent : (sends ≡ (replica_row s x).effects.sends) ⊎ (sends ≡ [])
                  → count_sent ends sends ≤ count_sent ends (replica_row s x).effects.sends
              few_sent (inl is) = let same = ap (count_sent ends) is in omega (arith, same)
              few_sent (inr is) =
                  let none : count_sent ends sends ≡ 0 = ap (count_sent ends) is in omega (arith, none)

              was_under_way : IsBetween start all e es moment member there s → under_way s ≤ waits_of es
              was_under_way (as_was is stays) =
                  let same = ap under_way is in
                  let all_of_them =
                  waits_all stood (under_way (rows_at start old member))
                  (sym (ap (λ (v : View). v.number) stays) ∙ seen) in
                  omega (arith, same, all_of_them)
              was_under_way (entered now is) =
                  let none : under_way s ≡ 0 = ap under_way is in omega (arith, none)

          goes : RowsTurn start all e es moment member there → Few (e ∷ es)
          goes (rest_now is rests stays) =
              quiet (rests at).sends
              (let same = ap under_way is in
              let views = ap (λ (v : View). waits_in v (under_way (rows_at start new member))) (stays at) in
              let rows = ap (λ n. waits_in stood n) same in
              omega (arith, views, rows))
          goes (enter_now is rests) =
              quiet (rests at).sends
              (let none : under_way (rows_at start new member) ≡ 0 = ap under_way is in
              omega (arith, none, waits_few view (under_way (rows_at start new member))))
          goes (take_now s between which taken) = takes s between taken

        own_few : Few (e ∷ es)
        own_few = by (cases_eq view.number number)
          where
            by : (view.number ≡ number) ⊎ (view.number ≢ number) → Few (e ∷ es)
            by (inl seen) = goes seen (rows_turn start all e es moment member there)
            by (inr off) = unseen off

      next : Few (e ∷ es)
      next = event_cases (machine start) e es h (λ log. Few (e ∷ es)) own_few other

    few : (es : List HostStep) → IsMoment start all es → Few es
    few [] moment = first moment.cluster.nobody
    few (e ∷ es) moment = next e es moment (few es (moment_less start all e es moment))

    -- so they ended one at most
    pub ends_once : (es : List HostStep) → IsMoment start all es
        → sent_along start (numbered number ends) (ldm_of start member) (logs_of start es (ldm_of start member)) ≤ 1
    ends_once es moment =
        omega (arith, few es moment, asked_once start member.node number all es moment h (low moment.cluster.nobody))

    -- and the member is full in the view in which they did
    module _ (now : View) (was : WasInstalled start all now) (is : now.number ≡ number) where
      pub ender_full : (es : List HostStep) → IsMoment start all es
          → 1 ≤ sent_along start (numbered number ends) (ldm_of start member) (logs_of start es (ldm_of start member))
          → IsIn member now.full
      ender_full [] moment some = absurd (omega (arith, some))
      ender_full (e ∷ es) moment some = by (cases_eq e.host h) (ender_full es (moment_less start all e es moment))
        where
          view : View
          view = view_after start e.host (e ∷ logs_of start es e.host)

          full : e.host ≡ h → view.number ≡ number → IsIn member now.full
          full at seen =
              subst (λ (v : View). IsIn member v.full)
              (one_view have_orderly start all moment.cluster view now (own_installed start all e es moment) was
              (seen ∙ sym is))
              (subst (IsIn member) (all_full start all moment.cluster view (own_installed start all e es moment))
              (subst (λ k. IsIn member (all_of (view_after start k (e ∷ logs_of start es k)))) (sym at)
              (subst (λ (m : Member). IsIn m (all_of (view_after start h (e ∷ logs_of start es h))))
              (ldm_member start moment.cluster.nobody member there)
              (are_of_views start all moment.cluster h (part_some start Ldm member) (low moment.cluster.nobody)
              (e ∷ logs_of start es h)
              (subst (λ k. IsPast (e ∷ logs_of start es k) (all k)) at (event_past start all e es moment))))))

          older : e.host ≡ h → view.number ≢ number
              → 1 ≤ sent_along start (numbered number ends) h (logs_of start es h)
          older at off =
              omega (
                arith,
                some,
                along_own start all e es moment (numbered number ends) h at,
                unseen_none start e.host (logs_of start es e.host) e number (λ y. ends y.body) off,
              )

          by : (e.host ≡ h) ⊎ (e.host ≢ h)
              → (1 ≤ sent_along start (numbered number ends) h (logs_of start es h) → IsIn member now.full)
              → IsIn member now.full
          by (inl at) rest = which (cases_eq view.number number)
            where
              which : (view.number ≡ number) ⊎ (view.number ≢ number) → IsIn member now.full
              which (inl seen) = full at seen
              which (inr off) = rest (older at off)
          by (inr off) rest =
              rest
              (let same = along_other start all e es moment (numbered number ends) h off in omega (arith, some, same))
