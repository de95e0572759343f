-- Records of a transaction on a key agree, unless an operation of it on that key is unanswered, or it is lost. Where
-- something of it is unanswered in the current view what is settled tells so; else no event changes an image.
use Rattle.std.proofs.Common.{◌≡◌, ◌≢◌, ◌⊎◌, ◌≤◌, ◌==◌, ◌∙◌, ℕ, Bool, true, false, List, [], ◌∷◌, eq-eqb, refl, sym, ap}
use Rattle.std.proofs.Common.{subst, inl, inr, arith}
use Rattle.std.proofs.lemmas.Bool.{eqb-true, true≢false}
use Rattle.std.specs.Prelude.{Option, None, Some, is_some}
use Rattle.run_theory.specs.Lists.{IsIn}
use Rattle.run_theory.proofs.Runs.{log_of-other, log_of-own}
use Rattle.run_theory.proofs.EventCases.{event_cases}
use Rattle.sig_core.specs.declared.member.Member.{Member}
use Rattle.sig_core.specs.declared.member.TxId.{TxId}
use Rattle.sig_core.specs.declared.place.BlockId.TheVariants as block
use Rattle.sig_core.specs.declared.rows.PendingRecord.{PendingRecord}
use Rattle.sig_core.specs.declared.view.View.{View}
use Rattle.tc_block.specs.declared.phase.Asked.{Asked}
use Rattle.tc_block.specs.declared.phase.Phase.TheVariants.{Open}
use Rattle.tc_block.specs.declared.transaction.Transaction.{Transaction}
use Rattle.tc_block.specs.Doom.{is_undecided}
use Rattle.sig_core.specs.declared.op.Answer.{Answer}
use Rattle.sig_core.specs.declared.op.Op.{Op}
use Rattle.key_laws.specs.Records.{found}
use Rattle.key_laws.specs.Replica.{at_key}
use Rattle.world_core.specs.Start.{Start, made}
use Rattle.world_core.specs.Steps.{HostStep}
use Rattle.world_views.specs.Machine.{machine}
use Rattle.view_laws.specs.Runs.{view_after}
use Rattle.moment_laws.specs.Moments.{IsMoment, current, logs_of}
use Rattle.moment_laws.specs.PartSteps.{tc_kind}
use Rattle.moment_laws.specs.Places.{ldm_of, tc_of}
use Rattle.moment_laws.proofs.MomentHosts.{tc_low}
use Rattle.moment_laws.proofs.MomentTurns.{current_rises}
use Rattle.moment_laws.proofs.MomentViews.{current_above, moment_less}
use Rattle.moment_laws.proofs.PartKinds.{tc_is}
use Rattle.moment_laws.proofs.PartTaken.{IsTakenNow, handled_now}
use Rattle.outcome_laws.specs.Counts.{coordinator_member}
use Rattle.request_laws.specs.Blocks.{coordinator_after, rows_after}
use Rattle.request_laws.specs.Drives.{asked_in, is_request}
use Rattle.request_laws.specs.Routed.{WasAskedIn}
use Rattle.request_laws.specs.Tokens.{has_asked}
use Rattle.request_laws.specs.Ways.{entry_of, has_gone_back}
use Rattle.request_laws.proofs.phases.Stands.{coordinators_stand}
use Rattle.request_laws.proofs.routes.Entering.{own_full}
use Rattle.request_laws.proofs.orphans.ReportsOfOrphans.{coordinated}
use Rattle.request_laws.proofs.tokens.CoordinatorEvents.{IsHandled}
use Rattle.request_laws.proofs.tokens.HostsApart.{ldm_no_tc}
use Rattle.commit_laws.specs.Cuts.{IsAnsweredOn, RecordsAgreeAlways}
use Rattle.commit_laws.specs.Fates.{is_led_by_full}
use Rattle.commit_laws.specs.Going.{is_back, is_lost, is_written_by, own_live}
use Rattle.commit_laws.specs.Owed.{HasPrimary}
use Rattle.commit_laws.specs.Parts.{IsHale, IsOff}
use Rattle.commit_laws.specs.Settled.{HasImageIf, IsSettledWith, row_behind}
use Rattle.commit_laws.specs.Traces.{IsReplicaOf, record_at}
use Rattle.commit_laws.proofs.settled.All.{all_stand}
use Rattle.commit_laws.proofs.fates.Committed.{IsCalm}
use Rattle.commit_laws.proofs.records.KeyGoes.{RecordGoes, key_goes, record_stays}
use Rattle.commit_laws.proofs.led.Replicas.{keys_have_primaries}
use Rattle.commit_laws.proofs.fates.LostStays.{lost_stay}
use Rattle.commit_laws.proofs.parts.Hosts.{EntryGoes, begun, entry_goes, kept, moved}
use Rattle.commit_laws.proofs.parts.Turns.{asks, gets, rests}
use Rattle.commit_laws.proofs.records.AgreedHome.{IsUndecidedBehind, asked_open, open_goes, sent_last, spared_back}
use Rattle.commit_laws.proofs.records.AgreedImages.{Agree, agree_on, first_record, never_goes, record_made}
use Rattle.commit_laws.proofs.settled.Kept.{replica_or}
use Rattle.commit_laws.proofs.links.Transit.{moments_have_transit}

-- at a moment
module _ (start : Start) (all : ℕ → List HostStep) (es : List HostStep) (moment : IsMoment start all es) (tx : TxId)
    (key : List ℕ)
  where
    abbrev logs : ℕ → List HostStep
    logs = logs_of start es

    -- what is settled agrees
    settled_agree : (ops : List (Op × Answer)) → IsSettledWith start (logs_of start es) key tx ops
        → Agree start (logs_of start es) tx key
    settled_agree ops settled one other is_one is_other r q at_one at_other =
        image_at one is_one r at_one ∙ sym (image_at other is_other q at_other)
      where
        primary : HasPrimary start (logs_of start es) key
        primary = keys_have_primaries start all es moment key

        image : Option (List ℕ)
        image = row_behind start logs key primary.primary ops

        as_written : (written : Bool) (o : Option PendingRecord) → HasImageIf written image o → (x : PendingRecord)
            → o ≡ Some x → x.image ≡ image
        as_written true o (y, (is, (prepared, image_is))) x at =
            let same : x ≡ y = (let both : Some x ≡ Some y = sym at ∙ is in cc) in
            ap (λ (z : PendingRecord). z.image) same ∙ image_is
        as_written false o none x at = absurd (let nothing : Some x ≡ None = sym at ∙ none in cc)

        image_at : (m : Member) → IsIn m (made start) → (x : PendingRecord) → record_at start logs m key tx ≡ Some x
            → x.image ≡ image
        image_at m among x at = by (replica_or start logs key m)
          where
            by : IsReplicaOf start logs key m ⊎ (IsReplicaOf start logs key m → ⊥) → x.image ≡ image
            by (inl is) =
                as_written (is_written_by ops key) (record_at start logs m key tx)
                (settled.images primary.primary primary.is m is) x at
            by (inr off) = absurd (let nothing : Some x ≡ None = sym at ∙ settled.others m among off in cc)

    off_of : (t : Transaction) → own_live start (logs_of start es) tx ≡ Some t
        → IsAnsweredOn start (logs_of start es) tx key → IsOff start (logs_of start es) key tx t t.asked
    off_of t there answered = by t.asked refl
      where
        by : (o : Option Asked) → t.asked ≡ o → IsOff start logs key tx t o
        by None is = tt
        by (Some asked) is = answered t there asked is

    -- so does what goes on
    hale_agree : (t : Transaction) → IsHale start (logs_of start es) tx t
        → IsAnsweredOn start (logs_of start es) tx key → Agree start (logs_of start es) tx key
    hale_agree t hale answered =
        let one = moments_have_transit start all es moment in
        settled_agree t.ops
        (((all_stand start all es moment).parts one.0 one.1).rests tx t hale key (off_of t hale.there answered))

-- at an event behind a moment at which they agree
module _ (start : Start) (all : ℕ → List HostStep) (e : HostStep) (es : List HostStep)
    (moment : IsMoment start all (e ∷ es)) (tx : TxId) (key : List ℕ)
    (there : IsIn (coordinator_member tx) (made start)) (spared : is_lost start (logs_of start (e ∷ es)) tx ≡ false)
    (answered : IsAnsweredOn start (logs_of start (e ∷ es)) tx key)
    (agreed : is_lost start (logs_of start es) tx ≡ false → IsAnsweredOn start (logs_of start es) tx key
    → Agree start (logs_of start es) tx key)
  where
    abbrev old : ℕ → List HostStep
    old = logs_of start es

    abbrev new : ℕ → List HostStep
    new = logs_of start (e ∷ es)

    abbrev member : Member
    member = coordinator_member tx

    abbrev h : ℕ
    h = tc_of start (coordinator_member tx)

    abbrev before : IsMoment start all es
    before = moment_less start all e es moment

    abbrev number : ℕ
    number = (current start (logs_of start (e ∷ es))).number

    abbrev Goes : Type 0
    Goes = (m : Member) (among : IsIn m (made start)) → RecordGoes start all e es moment m among key tx

    spared_before : is_lost start (logs_of start es) tx ≡ false
    spared_before = by (is_lost start old tx) refl
      where
        by : (b : Bool) → is_lost start old tx ≡ b → b ≡ false
        by false is = refl
        by true is = absurd (true≢false (sym (lost_stay start all e es moment tx there is) ∙ spared))

    back_before : is_back start (logs_of start es) tx ≡ false
    back_before = spared_back start all es before tx there spared_before

    still : Goes → IsAnsweredOn start (logs_of start es) tx key → Agree start (logs_of start (e ∷ es)) tx key
    still goes was = agree_on start all e es moment tx key goes (agreed spared_before was)

    -- nothing of it was unanswered
    calm_agree : has_asked (own_live start (logs_of start es) tx) ≡ false
        → Agree start (logs_of start (e ∷ es)) tx key
    calm_agree none =
        still (λ m among. (key_goes start all e es moment m among key tx calm).record_goes)
        (λ t is asked some. absurd (true≢false (sym (ap is_some some) ∙ (sym (ap has_asked is) ∙ none))))
      where
        calm : IsCalm start (logs_of start es) tx
        calm = record { made = there; back = back_before; answered = none }

    -- something was
    module _ (t : Transaction) (there_is : own_live start (logs_of start es) tx ≡ Some t) (asked : Asked)
        (some : t.asked ≡ Some asked)
      where
        opened : t.phase ≡ Open
        opened = asked_open start all es before tx there back_before t there_is asked some

        -- the event is of another host
        module _ (off : e.host ≢ tc_of start (coordinator_member tx)) where
          log_is : new (tc_of start (coordinator_member tx)) ≡ old (tc_of start (coordinator_member tx))
          log_is = log_of-other (machine start) e es (tc_of start (coordinator_member tx)) off

          live_is : own_live start new tx ≡ own_live start old tx
          live_is = ap (λ log. entry_of (coordinator_after start (coordinator_member tx) log) tx) log_is

          was_answered : IsAnsweredOn start old tx key
          was_answered u is a on = answered u (live_is ∙ is) a on

          unled : is_led_by_full start new tx ≡ false → WasAskedIn start old (current start new) tx → ⊥
          unled orphan was = true≢false (sym (coordinated (current start new).full tx was.full) ∙ orphan)

          unasked : (asked_in start member tx (old h) == number) ≡ false
              → WasAskedIn start old (current start new) tx → ⊥
          unasked stale was =
              true≢false (sym (eq-eqb (asked_in start member tx (old h)) number
              (sent_last start moment.cluster.nobody member (is_request tx) number (old h) low was.asked)) ∙ stale)
            where
              low : (view_after start h (old h)).number ≤ number
              low =
                  let below = current_above start old moment.cluster.nobody h
                  (tc_low start moment.cluster.nobody member there) in
                  let rises = current_rises start all e es moment in
                  omega (arith, below, rises)

          away_agree : Agree start (logs_of start (e ∷ es)) tx key
          away_agree =
              by (is_led_by_full start new tx) refl (asked_in start member tx (old h) == number) refl
            where
              by : (led : Bool) → is_led_by_full start new tx ≡ led → (fresh : Bool)
                  → (asked_in start member tx (old h) == number) ≡ fresh → Agree start new tx key
              by false orphan fresh is =
                  still (λ m among. never_goes start all e es moment tx key (unled orphan) m among) was_answered
              by true led false stale =
                  still (λ m among. never_goes start all e es moment tx key (unasked stale) m among) was_answered
              by true led true is =
                  hale_agree start all (e ∷ es) moment tx key t
                  (record {
                    there = live_is ∙ there_is;
                    undecided = ap is_undecided opened;
                    full = led;
                    spared = spared;
                    fresh =
                        inr (ap (asked_in start member tx) log_is
                        ∙ eqb-true (asked_in start member tx (old h)) number is);
                  }) answered

        -- the event is of its coordinator's host
        module _ (at : e.host ≡ tc_of start (coordinator_member tx)) where
          own_is : new (tc_of start (coordinator_member tx)) ≡ e ∷ old (tc_of start (coordinator_member tx))
          own_is = log_of-own (machine start) e es (tc_of start (coordinator_member tx)) at

          rows_stay : Goes
          rows_stay m among =
              record_stays (ap (λ log. found tx (at_key key (rows_after start m log).lqh).cell.pending)
              (log_of-other (machine start) e es (ldm_of start m)
              (λ is. ldm_no_tc start moment.cluster.nobody m (coordinator_member tx) among there (sym is ∙ at))))

          led_there : IsHandled start (tc_of start member) (old (tc_of start member)) e block.Tc
              → is_led_by_full start (logs_of start (e ∷ es)) tx ≡ true
          led_there handled =
              coordinated (current start new).full tx
              (subst (λ (v : View). IsIn (coordinator_member tx) v.full)
              (ap (λ k. view_after start k (e ∷ old k)) (sym at) ∙ taken.stands)
              (own_full start all e es moment (coordinator_member tx) there at
              (coordinators_stand start all es before (coordinator_member tx) there)))
            where
              taken : IsTakenNow start all e es moment block.Tc
              taken =
                  let here : IsHandled start e.host (old e.host) e block.Tc =
                  subst (λ k. IsHandled start k (old k) e block.Tc) (sym at) handled in
                  handled_now start all e es moment tc_kind tc_is here.own here.runs here.between here.front here.enters
                  here.passed block.Tc here.block_is

          module _ (u : Transaction) (now : own_live start (logs_of start (e ∷ es)) tx ≡ Some u)
              (undecided : is_undecided u.phase ≡ true)
            where
              goes_on : EntryGoes start (coordinator_member tx) there tx (old (tc_of start (coordinator_member tx))) e u
                  → Agree start (logs_of start (e ∷ es)) tx key
              goes_on (kept was) = still rows_stay (λ v is a on. answered v (now ∙ (sym was ∙ is)) a on)
              goes_on (begun none is) = absurd (let nothing : Some t ≡ None = sym there_is ∙ none in cc)
              goes_on (moved w was undecided_then own (rests ops same) handled out) =
                  still rows_stay (λ v is a on.
                  let one : w ≡ v = (let both : Some w ≡ Some v = sym was ∙ is in cc) in
                  answered u now a (same ∙ (ap (λ (x : Transaction). x.asked) one ∙ on)))
              goes_on (moved w was undecided_then own (asks op none ops requested is) handled out) =
                  still rows_stay (λ v is_v a on.
                  let one : w ≡ v = (let both : Some w ≡ Some v = sym was ∙ is_v in cc) in
                  let nothing : Some a ≡ None = sym on ∙ (ap (λ (x : Transaction). x.asked) (sym one) ∙ none) in
                  absurd cc)
              goes_on (moved w was undecided_then own (gets own_key answer a is on here ops none) handled out) =
                  hale_agree start all (e ∷ es) moment tx key u
                  (record {
                    there = now;
                    undecided = undecided;
                    full = led_there handled;
                    spared = spared;
                    fresh = inl none;
                  }) answered

          home_agree : Agree start (logs_of start (e ∷ es)) tx key
          home_agree = by (open_goes start member there tx (old h) e t there_is opened moment.cluster.nobody)
            where
              by : (has_gone_back start member tx (e ∷ old h) ≡ true)
                  ⊎ IsUndecidedBehind start member there tx (old h) e t there_is opened → Agree start new tx key
              by (inl back) =
                  absurd (true≢false (sym back
                  ∙ (ap (has_gone_back start member tx) (sym own_is)
                  ∙ spared_back start all (e ∷ es) moment tx there spared)))
              by (inr behind) =
                  goes_on behind.now
                  (ap (λ log. entry_of (coordinator_after start (coordinator_member tx) log) tx) own_is ∙ behind.is)
                  behind.undecided
                  (entry_goes start member there tx (old h) e behind.now moment.cluster.nobody behind.is
                  behind.undecided)

    agree_behind : Agree start (logs_of start (e ∷ es)) tx key
    agree_behind = by (own_live start old tx) refl
      where
        by_asked : (t : Transaction) → own_live start old tx ≡ Some t → (o : Option Asked) → t.asked ≡ o
            → Agree start new tx key
        by_asked t is None none = calm_agree (ap has_asked is ∙ ap is_some none)
        by_asked t is (Some asked) some =
            event_cases (machine start) e es h (λ log. Agree start new tx key) (home_agree t is asked some)
            (away_agree t is asked some)

        by : (o : Option Transaction) → own_live start old tx ≡ o → Agree start new tx key
        by None is = calm_agree (ap has_asked is)
        by (Some t) is = by_asked t is t.asked refl

module _ (start : Start) (all : ℕ → List HostStep) (tx : TxId) (key : List ℕ)
    (there : IsIn (coordinator_member tx) (made start))
  where
    agree_along : (es : List HostStep) → IsMoment start all es → is_lost start (logs_of start es) tx ≡ false
        → IsAnsweredOn start (logs_of start es) tx key → Agree start (logs_of start es) tx key
    agree_along [] moment spared answered = λ one other is_one is_other r q at_one at_other.
        absurd (let nothing : Some r ≡ None = sym at_one ∙ first_record start moment.cluster.nobody one is_one key tx in
        cc)
    agree_along (e ∷ es) moment spared answered =
        agree_behind start all e es moment tx key there spared answered
        (agree_along es (moment_less start all e es moment))

pub records_agree_always : RecordsAgreeAlways
records_agree_always start all es moment tx key spared answered one other is_one is_other r q at_one at_other =
    agree_along start all tx key (record_made start all tx key es moment one is_one r at_one) es moment spared answered
    one other is_one is_other r q at_one at_other
