-- Whoever aborts, and has something prepared at a replica, never takes effect: who wrote is applied nowhere, and who
-- wrote nothing has no record from its decision on.
use Rattle.std.proofs.Common.{◌≡◌, ◌∙◌, ◌++◌, ℕ, Bool, true, false, List, [], ◌∷◌, refl, sym, ap, subst}
use Rattle.std.proofs.lemmas.Bool.{true≢false}
use Rattle.std.specs.List.{list_any}
use Rattle.std.specs.Prelude.{None, Some}
use Rattle.run_theory.proofs.Pasts.{past_less}
use Rattle.run_theory.specs.Lists.{IsIn}
use Rattle.sig_core.specs.declared.member.Member.{Member}
use Rattle.sig_core.specs.declared.member.TxId.{TxId}
use Rattle.sig_core.specs.declared.op.Answer.{Answer}
use Rattle.sig_core.specs.declared.op.Op.{Op}
use Rattle.key_laws.specs.Primary.{HasPrepared}
use Rattle.key_laws.specs.Records.{as_committed, found, if_committed, unless_committed}
use Rattle.key_laws.specs.Replica.{at_key}
use Rattle.lqh_views.specs.State.{ReplicaState}
use Rattle.world_core.specs.History.{is_done, writes}
use Rattle.world_core.specs.Start.{Start, made}
use Rattle.world_core.specs.Steps.{HostStep}
use Rattle.moment_laws.proofs.MomentViews.{moment_less}
use Rattle.moment_laws.specs.Moments.{IsMoment, logs_of}
use Rattle.commit_laws.specs.Fates.{aborts, fate, fate_if, is_led_by_full}
use Rattle.commit_laws.specs.Going.{decided_ops, is_decided, is_forth, is_lost, is_written_by}
use Rattle.commit_laws.specs.Owed.{AbortedAreNotFinal, DecidersGoOn, HasPrimary, IsAlong}
use Rattle.commit_laws.specs.Settled.{HasImageIf, IsDecidedNow, IsSettledWith, row_behind}
use Rattle.commit_laws.specs.Together.{AllStandAlways, EventsMoveFates}
use Rattle.commit_laws.specs.Traces.{IsReplicaOf, has_trace, is_known, record_at, replica_at}
use Rattle.commit_laws.specs.Transit.{MomentsHaveTransit}
use Rattle.commit_laws.specs.Values.{is_final}
use Rattle.commit_laws.proofs.markers.AppliedCommits.{applied_commit}
use Rattle.commit_laws.proofs.fates.Committed.{IsCalm, decided_calm}
use Rattle.commit_laws.proofs.forth.DecidedStay.{decided_more, forth_decided, ops_same}
use Rattle.commit_laws.proofs.fates.Cases.{not_both}
use Rattle.commit_laws.proofs.views.AtEvents.{led_was}
use Rattle.commit_laws.proofs.fates.FinalsForth.{HasFinalEntry, IsFinalBy, by_report, by_write, final_by}
use Rattle.commit_laws.proofs.fates.FinalsForth.{finals_are_forth}
use Rattle.commit_laws.proofs.forth.All.{forth_is_known}
use Rattle.commit_laws.proofs.fates.Decided.{DecidesNow, decides_now, rows_same}
use Rattle.commit_laws.proofs.records.KeyGoes.{RecordGoes, is_aborted, is_committed, is_completed, key_goes}
use Rattle.commit_laws.proofs.records.KeyGoes.{record_stays}
use Rattle.commit_laws.proofs.led.Applied.{HasEntryOf, any_filtered, entry_of_decided}
use Rattle.commit_laws.proofs.led.Entries.{entries_final}
use Rattle.commit_laws.proofs.led.Owed.{finals_are_decided_now, finals_are_spared, finals_go_forward}
use Rattle.commit_laws.proofs.led.Replicas.{keys_have_primaries, moment_at}
use Rattle.commit_laws.proofs.records.Moves.{now_by}
use Rattle.commit_laws.proofs.records.Replicas.{replica_before, replica_made}
use Rattle.commit_laws.proofs.settled.OfFullCoordinators.{decisions_are_settled}

-- who aborts, and isn't lost, has no full coordinator
unled : (known full forth lost trace : Bool) → fate_if known full forth lost trace ≡ aborts → lost ≡ false
    → full ≡ false
unled true full forth lost trace is spared = absurd cc
unled false true true lost trace is spared = absurd cc
unled false true false true trace is spared = absurd (true≢false spared)
unled false true false false trace is spared = absurd cc
unled false false forth lost trace is spared = refl

module _ (start : Start) (all : ℕ → List HostStep) (es : List HostStep) (v : TxId) where
  -- what stays so behind more events
  aborts_past : EventsMoveFates → AllStandAlways → (newer : List HostStep) → IsMoment start all (newer ++ es)
      → fate start (logs_of start es) v ≡ aborts → fate start (logs_of start (newer ++ es)) v ≡ aborts
  aborts_past moves stand [] moment is = is
  aborts_past moves stand (e ∷ newer) moment is =
      let less = moment_less start all e (newer ++ es) moment in
      (moves start all e (newer ++ es) (record { moment = moment; stood = stand start all (newer ++ es) less })
      v).aborting (aborts_past moves stand newer less is)

  unled_past : (newer : List HostStep) → IsMoment start all (newer ++ es)
      → is_led_by_full start (logs_of start es) v ≡ false
      → is_led_by_full start (logs_of start (newer ++ es)) v ≡ false
  unled_past [] moment off = off
  unled_past (e ∷ newer) moment off =
      by (is_led_by_full start (logs_of start (e ∷ newer ++ es)) v) refl
      (unled_past newer (moment_less start all e (newer ++ es) moment) off)
    where
      by : (b : Bool) → is_led_by_full start (logs_of start (e ∷ newer ++ es)) v ≡ b
          → is_led_by_full start (logs_of start (newer ++ es)) v ≡ false → b ≡ false
      by false is was = refl
      by true is was = absurd (true≢false (sym (led_was start all e (newer ++ es) moment v is) ∙ was))

  decided_past : (newer : List HostStep) → IsMoment start all (newer ++ es)
      → is_decided start (logs_of start es) v ≡ true → is_decided start (logs_of start (newer ++ es)) v ≡ true
  decided_past [] moment is = is
  decided_past (e ∷ newer) moment is =
      decided_more start all e (newer ++ es) moment v
      (decided_past newer (moment_less start all e (newer ++ es) moment) is)

  ops_past : (newer : List HostStep) → IsMoment start all (newer ++ es)
      → is_decided start (logs_of start es) v ≡ true
      → decided_ops start (logs_of start (newer ++ es)) v ≡ decided_ops start (logs_of start es) v
  ops_past [] moment is = refl
  ops_past (e ∷ newer) moment is =
      let less = moment_less start all e (newer ++ es) moment in
      ops_same start all e (newer ++ es) moment v (decided_past newer less is) ∙ ops_past newer less is

  -- a final one that isn't decided, and has no full coordinator, never is
  undecided_past : DecidersGoOn → (end : List HostStep) → is_final start end v ≡ true → (newer : List HostStep)
      → IsAlong start all end (newer ++ es) → is_decided start (logs_of start es) v ≡ false
      → is_led_by_full start (logs_of start es) v ≡ false
      → is_decided start (logs_of start (newer ++ es)) v ≡ false
  undecided_past going end final [] along off led = off
  undecided_past going end final (e ∷ newer) along off led =
      by (is_decided start (logs_of start (e ∷ newer ++ es)) v) refl
      (undecided_past going end final newer (record { moment = along.moment; past = past_less e along.past }) off led)
    where
      moment : IsMoment start all (e ∷ newer ++ es)
      moment = moment_at start all end (e ∷ newer ++ es) along

      by : (b : Bool) → is_decided start (logs_of start (e ∷ newer ++ es)) v ≡ b
          → is_decided start (logs_of start (newer ++ es)) v ≡ false → b ≡ false
      by false is was = refl
      by true is was =
          let d = decides_now forth_is_known start all e (newer ++ es) moment v is was in
          let now =
          finals_are_decided_now finals_are_forth going start all end e (newer ++ es) along v d.epoch d.marked final in
          absurd (true≢false (sym now.full
          ∙ unled_past newer (moment_less start all e (newer ++ es) moment) led))

-- a final one that didn't write the key has no record there, once it is decided
module _ (stand : AllStandAlways) (transit : MomentsHaveTransit) (going : DecidersGoOn) (start : Start)
    (all : ℕ → List HostStep) (end : List HostStep) (v : TxId) (final : is_final start end v ≡ true) (key : List ℕ)
    (off : is_written_by (decided_ops start (logs_of start end) v) key ≡ false) (member : Member)
  where
    abbrev HasNone : List HostStep → Type 0
    HasNone es = record_at start (logs_of start es) member key v ≡ None

    ops_end : (es : List HostStep) → IsAlong start all end es → is_decided start (logs_of start es) v ≡ true
        → is_written_by (decided_ops start (logs_of start es) v) key ≡ false
    ops_end es along is =
        subst (λ (ops : List (Op × Answer)). is_written_by ops key ≡ false)
        (ap (λ list. decided_ops start (logs_of start list) v) along.past.is
        ∙ ops_past start all es v along.past.newer (subst (IsMoment start all) along.past.is along.moment) is)
        off

    module _ (e : HostStep) (es : List HostStep) (along : IsAlong start all end (e ∷ es))
        (replica : IsReplicaOf start (logs_of start (e ∷ es)) key member) where
      abbrev old : ℕ → List HostStep
      old = logs_of start es

      moment : IsMoment start all (e ∷ es)
      moment = moment_at start all end (e ∷ es) along

      before : IsMoment start all es
      before = moment_less start all e es moment

      along_old : IsAlong start all end es
      along_old = record { moment = along.moment; past = past_less e along.past }

      was : IsReplicaOf start (logs_of start es) key member
      was = replica_before start all e es moment key member replica

      there : IsIn member (made start)
      there = replica_made start all es before key member was

      none_goes : RecordGoes start all e es moment member there key v → HasNone es → HasNone (e ∷ es)
      none_goes (record_stays same) none = same ∙ none
      none_goes (is_committed takes epoch chain at about now) none = now ∙ ap (now_by as_committed) none
      none_goes (is_completed takes chain at about now) none = now ∙ ap (now_by unless_committed) none
      none_goes (is_aborted takes about now) none = now ∙ ap (now_by if_committed) none

      -- it stays without one
      none_stays : is_decided start old v ≡ true → HasNone es → HasNone (e ∷ es)
      none_stays is none =
          let calm : IsCalm start old v =
          decided_calm start all es before v is
          (finals_go_forward finals_are_forth start all end es along_old v final) in
          none_goes (key_goes start all e es moment member there key v calm).record_goes none

      -- it has none when it is decided
      none_first : is_decided start (logs_of start (e ∷ es)) v ≡ true → is_decided start old v ≡ false
          → HasNone (e ∷ es)
      none_first is isnt =
          ap (λ (s : ReplicaState). found v (at_key key s.lqh).cell.pending)
          (rows_same forth_is_known start all e es moment v decides member there)
          ∙ subst
          (λ b. HasImageIf b (row_behind start old key primary.primary (decided_ops start (logs_of start (e ∷ es)) v))
          (record_at start old member key v)) (ops_end (e ∷ es) along is)
          (settled.images primary.primary primary.is member was)
        where
          decides : DecidesNow forth_is_known start all e es moment v
          decides = decides_now forth_is_known start all e es moment v is isnt

          now : IsDecidedNow start e es v
          now =
              finals_are_decided_now finals_are_forth going start all end e es along v decides.epoch decides.marked
              final

          settled : IsSettledWith start old key v (decided_ops start (logs_of start (e ∷ es)) v)
          settled = decisions_are_settled forth_is_known transit stand start all e es moment v now key

          primary : HasPrimary start old key
          primary = keys_have_primaries start all es before key

    none_there : (es : List HostStep) → IsAlong start all end es → IsReplicaOf start (logs_of start es) key member
        → is_decided start (logs_of start es) v ≡ true → HasNone es
    none_there [] along replica is = absurd (true≢false (sym is))
    none_there (e ∷ es) along replica is =
        by (is_decided start (logs_of start es) v) refl
        (none_there es (along_old e es along replica) (was e es along replica))
      where
        by : (b : Bool) → is_decided start (logs_of start es) v ≡ b
            → (is_decided start (logs_of start es) v ≡ true → HasNone es) → HasNone (e ∷ es)
        by true before rest = none_stays e es along replica before (rest before)
        by false isnt rest = none_first e es along replica is isnt

module _ (stand : AllStandAlways) (moves : EventsMoveFates) (transit : MomentsHaveTransit) (going : DecidersGoOn)
    (start : Start) (all : ℕ → List HostStep) (end es : List HostStep) (along : IsAlong start all end es)
    (key : List ℕ) (member : Member) (replica : IsReplicaOf start (logs_of start es) key member) (v : TxId)
    (fate_is : fate start (logs_of start es) v ≡ aborts)
    (prepared : HasPrepared v (replica_at start (logs_of start es) member key).cell.pending)
    (final : is_final start end v ≡ true)
  where
    abbrev last : ℕ → List HostStep
    last = logs_of start end

    abbrev newer : List HostStep
    newer = along.past.newer

    later : IsMoment start all (newer ++ es)
    later = subst (IsMoment start all) along.past.is along.moment

    decided_end : is_decided start last v ≡ true
    decided_end = forth_decided start all end along.moment v (finals_are_forth start all end along.moment v final)

    aborts_end : fate start last v ≡ aborts
    aborts_end =
        ap (λ list. fate start (logs_of start list) v) along.past.is
        ∙ aborts_past start all es v moves stand newer later fate_is

    own : HasEntryOf start end v
    own = entry_of_decided start all end along.moment v decided_end

    one : HasFinalEntry start end v
    one = record {
      entry = own.entry;
      tx_is = own.tx_is;
      kept =
          entries_final start all end end (record { moment = along.moment; past = record { newer = []; is = refl } })
          own.entry own.there
          ∙ (ap (is_final start end) own.tx_is ∙ final);
    }

    -- it wrote nothing
    unwritten : writes own.entry ≡ false → is_written_by (decided_ops start last v) key ≡ false
    unwritten none = by (is_written_by (decided_ops start last v) key) refl
      where
        by : (b : Bool) → is_written_by (decided_ops start last v) key ≡ b → b ≡ false
        by false is = refl
        by true is =
            absurd (true≢false (sym
            (ap (λ (ops : List (Op × Answer)). list_any (λ (op : Op × Answer). is_done op.1) ops) own.ops_is
            ∙ any_filtered _ (λ (op : Op × Answer). is_done op.1) (decided_ops start last v) is) ∙ none))

    decided_before : is_decided start (logs_of start es) v ≡ true → ⊥
    unfolding one
    decided_before is = by (final_by start all end along.moment v one)
      where
        by : IsFinalBy start end v own.entry → ⊥
        by (by_write wrote other applied) =
            not_both (sym (applied_commit stand start all end along.moment v other applied) ∙ aborts_end)
        by (by_report none h has) =
            let nothing : None ≡ Some prepared.record_is =
            sym (none_there stand transit going start all end v final key (unwritten none) member es along replica is)
            ∙ prepared.there in
            absurd cc

    undecided_before : is_decided start (logs_of start es) v ≡ false → ⊥
    undecided_before off =
        true≢false (sym decided_end
        ∙ (ap (λ list. is_decided start (logs_of start list) v) along.past.is
        ∙ undecided_past start all es v going end final newer
        (record { moment = along.moment; past = record { newer = []; is = along.past.is } }) off
        (unled (is_known start (logs_of start es) v) (is_led_by_full start (logs_of start es) v)
        (is_forth start (logs_of start es) v) (is_lost start (logs_of start es) v)
        (has_trace start (logs_of start es) v) fate_is
        (finals_are_spared finals_are_forth start all end es along v final))))

    never : ⊥
    never = by (is_decided start (logs_of start es) v) refl
      where
        by : (b : Bool) → is_decided start (logs_of start es) v ≡ b → ⊥
        by true is = decided_before is
        by false off = undecided_before off

pub aborted_are_not_final : AllStandAlways → EventsMoveFates → MomentsHaveTransit → DecidersGoOn → AbortedAreNotFinal
aborted_are_not_final stand moves transit going start all end es along key member replica v fate_is prepared =
    by (is_final start end v) refl
  where
    by : (b : Bool) → is_final start end v ≡ b → b ≡ false
    by false is = refl
    by true is =
        absurd (never stand moves transit going start all end es along key member replica v fate_is prepared is)
