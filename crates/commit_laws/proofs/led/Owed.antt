-- What keys are owed, from what stands at each moment.
use Rattle.std.proofs.Common.{◌≡◌, ◌∙◌, ◌++◌, not, ◌&&◌, ℕ, Bool, true, false, List, [], ◌∷◌, refl, sym, subst}
use Rattle.std.proofs.lemmas.Bool.{eq-eqb, true≢false}
use Rattle.run_theory.proofs.Pasts.{past_less}
use Rattle.run_theory.specs.Lists.{IsIn}
use Rattle.commit_laws.proofs.forth.DecidedStay.{decided_mark}
use Rattle.commit_laws.proofs.forth.Grows.{grows}
use Rattle.lqh_block.specs.Views.{was_begun_by}
use Rattle.sig_core.specs.declared.mark.Mark.TheVariants.{Decided}
use Rattle.sig_core.specs.declared.place.Part.TheVariants.{Tc}
use Rattle.sig_core.specs.declared.member.TxId.{TxId}
use Rattle.tc_block.specs.Phases.{is_aborting}
use Rattle.world_core.specs.Start.{Start, made}
use Rattle.world_core.specs.Steps.{HostStep}
use Rattle.view_laws.specs.Runs.{view_after}
use Rattle.moment_laws.proofs.MomentHosts.{part_some, tc_low, tc_member}
use Rattle.moment_laws.proofs.MomentMembers.{current_host}
use Rattle.moment_laws.proofs.MomentTurns.{own_behind, stands_behind}
use Rattle.moment_laws.proofs.MomentViews.{moment_less}
use Rattle.moment_laws.specs.Moments.{IsMoment, current, logs_of}
use Rattle.moment_laws.specs.Places.{tc_of}
use Rattle.outcome_laws.specs.Counts.{coordinator_member}
use Rattle.request_laws.proofs.phases.GoneWays.{gone_stays}
use Rattle.request_laws.proofs.phases.Stands.{coordinators_stand}
use Rattle.request_laws.specs.Ways.{has_gone_back, tells_abort}
use Rattle.request_laws.proofs.routes.ChainsStay.{any_in}
use Rattle.commit_laws.specs.Fates.{is_led_by_full}
use Rattle.commit_laws.specs.Going.{is_back, is_decided, is_forth, is_lost}
use Rattle.commit_laws.specs.Owed.{AbortedAreNotFinal, DecidersGoOn, FinalsAreDecidedNow, FinalsAreForth}
use Rattle.commit_laws.specs.Owed.{FinalsGoForward, IsAlong}
use Rattle.commit_laws.specs.Settled.{IsDecidedNow}
use Rattle.commit_laws.specs.Together.{AllStandAlways}
use Rattle.commit_laws.specs.Transit.{MomentsHaveTransit}
use Rattle.commit_laws.specs.Values.{KeysAreLed, is_final}
use Rattle.commit_laws.proofs.fates.Committed.{decided_made, forth_made}
use Rattle.commit_laws.proofs.fates.Decided.{decides_now}
use Rattle.commit_laws.proofs.forth.All.{forth_is_known}
use Rattle.commit_laws.proofs.led.Along.{keys_led}
use Rattle.commit_laws.proofs.led.Applied.{applied_are_final}
use Rattle.commit_laws.proofs.led.Begins.{replicas_begin_at_rest}
use Rattle.commit_laws.proofs.led.Entries.{decisions_fresh, entries_final, new_there}
use Rattle.commit_laws.proofs.led.Replicas.{moment_at, keys_have_primaries, replicas_were_so, who_let_go_are_final}
use Rattle.commit_laws.proofs.led.Rows.{events_lead}
use Rattle.commit_laws.proofs.fates.LostStays.{lost_stay}
use Rattle.commit_laws.proofs.settled.OfFullCoordinators.{decided_now, decisions_are_settled}
use Rattle.commit_laws.proofs.records.Replicas.{full_before}

-- who was given up stays so
back_past : (start : Start) (all : ℕ → List HostStep) (newer es : List HostStep) → IsMoment start all (newer ++ es)
    → (v : TxId) → is_back start (logs_of start es) v ≡ true → is_back start (logs_of start (newer ++ es)) v ≡ true
back_past start all [] es moment v is = is
back_past start all (e ∷ newer) es moment v is =
    grows start e (newer ++ es) (λ log. has_gone_back start (coordinator_member v) v log ≡ true)
    (tc_of start (coordinator_member v))
    (λ log was. gone_stays start (coordinator_member v) v is_aborting (tells_abort v) log e was)
    (back_past start all newer es (moment_less start all e (newer ++ es) moment) v is)

pub finals_go_forward : FinalsAreForth → FinalsGoForward
finals_go_forward forth start all end es along v is = by (is_back start (logs_of start es) v) refl
  where
    gone : is_forth start (logs_of start end) v ≡ true
    gone = forth start all end along.moment v is

    never : is_back start (logs_of start end) v ≡ false
    never =
        (coordinators_stand start all end along.moment (coordinator_member v)
        (forth_made start all end along.moment v gone)).one_way v gone

    by : (b : Bool) → is_back start (logs_of start es) v ≡ b → b ≡ false
    by false e = refl
    by true e =
        absurd (true≢false (sym (subst (λ list. is_back start (logs_of start list) v ≡ true) (sym along.past.is)
        (back_past start all along.past.newer es (subst (IsMoment start all) along.past.is along.moment) v e)) ∙ never))

-- who is lost stays so
lost_past : (start : Start) (all : ℕ → List HostStep) (newer es : List HostStep) → IsMoment start all (newer ++ es)
    → (v : TxId) → IsIn (coordinator_member v) (made start) → is_lost start (logs_of start es) v ≡ true
    → is_lost start (logs_of start (newer ++ es)) v ≡ true
lost_past start all [] es moment v own is = is
lost_past start all (e ∷ newer) es moment v own is =
    lost_stay start all e (newer ++ es) moment v own
    (lost_past start all newer es (moment_less start all e (newer ++ es) moment) v own is)

-- so whoever is final never was
pub finals_are_spared : FinalsAreForth → (start : Start) (all : ℕ → List HostStep) (end es : List HostStep)
    → IsAlong start all end es → (v : TxId) → is_final start end v ≡ true → is_lost start (logs_of start es) v ≡ false
finals_are_spared forth start all end es along v is = by (is_lost start (logs_of start es) v) refl
  where
    gone : is_forth start (logs_of start end) v ≡ true
    gone = forth start all end along.moment v is

    not_lost : (a b : Bool) → a ≡ true → (not a && b) ≡ false
    not_lost true b is = refl
    not_lost false b is = absurd (true≢false (sym is))

    by : (b : Bool) → is_lost start (logs_of start es) v ≡ b → b ≡ false
    by false e = refl
    by true e =
        absurd (true≢false (sym (subst (λ list. is_lost start (logs_of start list) v ≡ true) (sym along.past.is)
        (lost_past start all along.past.newer es (subst (IsMoment start all) along.past.is along.moment) v
        (forth_made start all end along.moment v gone) e)) ∙ not_lost _ _ gone))

-- and is decided by a full coordinator
module _ (forth : FinalsAreForth) (going : DecidersGoOn) (start : Start) (all : ℕ → List HostStep) (end : List HostStep)
    (e : HostStep) (es : List HostStep) (along : IsAlong start all end (e ∷ es)) (tx : TxId) (epoch : ℕ)
    (there : IsIn (Decided tx epoch) e.step.marks) where
  moment : IsMoment start all (e ∷ es)
  moment = moment_at start all end (e ∷ es) along

  decided : is_decided start (logs_of start (e ∷ es)) tx ≡ true
  decided = decided_now start all e es moment tx (decided_mark tx epoch e.step.marks there)

  made_own : IsIn (coordinator_member tx) (made start)
  made_own = decided_made start all (e ∷ es) moment tx decided

  home : e.host ≡ tc_of start (coordinator_member tx)
  home =
      (decides_now forth_is_known start all e es moment tx decided
      (new_there start all e es moment tx [] (decided_mark tx epoch e.step.marks there))).at

  full_now : IsIn (coordinator_member tx) (current start (logs_of start (e ∷ es))).full
  full_now =
      let h = tc_of start (coordinator_member tx) in
      let stands : view_after start e.host (logs_of start (e ∷ es) e.host) ≡ current start (logs_of start (e ∷ es)) =
      own_behind start all e es moment ∙ stands_behind start all e es moment
      (going start all e es moment tx epoch there) in
      subst (λ m. IsIn m (current start (logs_of start (e ∷ es))).full)
      (tc_member start along.moment.cluster.nobody (coordinator_member tx) made_own)
      (current_host start all (e ∷ es) moment h (part_some start Tc (coordinator_member tx))
      (tc_low start along.moment.cluster.nobody (coordinator_member tx) made_own)
      (subst (λ k. view_after start k (logs_of start (e ∷ es) k) ≡ current start (logs_of start (e ∷ es))) home stands))

  full_old : is_led_by_full start (logs_of start es) tx ≡ true
  full_old =
      any_in (was_begun_by tx) (coordinator_member tx) (current start (logs_of start es)).full
      (full_before start all e es moment (coordinator_member tx) full_now)
      (λ i. eq-eqb tx.tc tx.tc refl i && eq-eqb tx.start tx.start refl i)

  now_of : is_final start end tx ≡ true → IsDecidedNow start e es tx
  now_of final = record {
    epoch = epoch;
    marked = there;
    full = full_old;
    spared =
        finals_are_spared forth start all end es
        (record { moment = along.moment; past = past_less e along.past }) tx final;
  }

pub finals_are_decided_now : FinalsAreForth → DecidersGoOn → FinalsAreDecidedNow
finals_are_decided_now forth going start all end e es along tx epoch there final =
    now_of forth going start all end e es along tx epoch there final

-- all of it
pub keys_are_led : AllStandAlways → MomentsHaveTransit → DecidersGoOn → FinalsAreForth → AbortedAreNotFinal → KeysAreLed
keys_are_led stand transit going forth aborted =
    let applied = applied_are_final forth_is_known stand in
    keys_led (record {
      settled = decisions_are_settled forth_is_known transit stand;
      primaries = keys_have_primaries;
      replicas = replicas_were_so;
      begin = replicas_begin_at_rest;
      fresh = decisions_fresh;
      entries = entries_final;
      finals = finals_are_decided_now forth going;
      let_go = who_let_go_are_final stand applied;
      events = events_lead forth_is_known stand (finals_go_forward forth) applied aborted;
    })
