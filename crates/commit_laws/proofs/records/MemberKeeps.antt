-- What a member of the current view keeps of a transaction on a key at an event that isn't of it there: its record, its
-- hold on the lock, and the row, if it holds the lock.
use Rattle.std.proofs.Common.{◌≡◌, ◌⊎◌, ◌||◌, ◌&&◌, ◌∙◌, ℕ, Bool, true, false, cond, List, [], ◌∷◌, filter, refl, sym}
use Rattle.std.proofs.Common.{ap, subst, inl, inr}
use Rattle.std.proofs.lemmas.Bool.{or_left, or_right, true≢false}
use Rattle.std.specs.Prelude.{is_some}
use Rattle.run_theory.specs.Lists.{IsIn}
use Rattle.sig_core.specs.declared.member.Member.{Member}
use Rattle.sig_core.specs.declared.member.TxId.{TxId}
use Rattle.sig_core.specs.declared.signal.Signal.{Signal}
use Rattle.sig_core.specs.declared.view.View.{View}
use Rattle.sig_core.specs.Rows.{record_state, state_by}
use Rattle.sig_core.specs.Same.{same_tx}
use Rattle.sig_core.proofs.TxLemmas.{same_tx-is}
use Rattle.row_locks.specs.declared.claim.Holder.{Holder}
use Rattle.row_locks.specs.declared.mode.Mode.{Mode}
use Rattle.row_locks.specs.declared.mode.Mode.TheVariants.{Exclusive}
use Rattle.row_locks.specs.Holders.{holds, holds_enough}
use Rattle.row_locks.specs.Modes.{is_enough}
use Rattle.row_locks.specs.Orderly.{IsOrderly}
use Rattle.lqh_block.specs.Views.{goes_on_holding, is_coordinated}
use Rattle.lqh_views.specs.Replica.{installed, replica_row}
use Rattle.lqh_views.specs.State.{ReplicaState}
use Rattle.key_laws.specs.Primary.{HasPrepared}
use Rattle.key_laws.specs.Records.{found}
use Rattle.key_laws.specs.Replica.{Event, Replica, at_key, key_after}
use Rattle.key_laws.proofs.EpochLemmas.{state_found}
use Rattle.host_laws.specs.ReplicaLaws.{IsWell}
use Rattle.run_laws.proofs.circle.OthersStay.{is_of}
use Rattle.world_core.specs.Start.{Start, made}
use Rattle.world_core.specs.Steps.{HostStep}
use Rattle.moment_laws.specs.Moments.{IsMoment, current, logs_of}
use Rattle.moment_laws.specs.Places.{ldm_of}
use Rattle.request_laws.specs.Replicas.{event_under}
use Rattle.request_laws.proofs.replicas.KeyEvents.{installations_are_events, installations_keep_well}
use Rattle.request_laws.proofs.replicas.KeyEvents.{signals_are_events}
use Rattle.commit_laws.specs.Fates.{is_led_by_full}
use Rattle.commit_laws.specs.Traces.{replica_at, rows_at}
use Rattle.commit_laws.proofs.records.KeyStays.{AreHeld, holds_stay, record_stays, row_stays, worker_of}
use Rattle.commit_laws.proofs.records.Once.{rows_well}
use Rattle.commit_laws.proofs.hosts.RowsTurn.{IsBetween, IsTakenAt, RowsTurn, enter_now, rest_now, rows_turn, take_now}

-- of the holders those stay that pass a test
module _ (stays : TxId → Bool) (tx : TxId) (on : stays tx ≡ true) where
  abbrev left : List Holder → List Holder
  left hs = filter (λ (h : Holder). stays h.tx) hs

  own_stays : (t : TxId) → same_tx t tx ≡ true → stays t ≡ true
  own_stays t same = ap stays (same_tx-is t tx same) ∙ on

  holds_left : (hs : List Holder) → holds tx hs ≡ true → holds tx (left hs) ≡ true
  holds_left [] is = is
  holds_left (h ∷ hs) is = by (stays h.tx) refl (same_tx h.tx tx) refl is (holds_left hs)
    where
      by : (b : Bool) → stays h.tx ≡ b → (c : Bool) → same_tx h.tx tx ≡ c → (c || holds tx hs) ≡ true
          → (holds tx hs ≡ true → holds tx (left hs) ≡ true) → holds tx (cond b (h ∷ left hs) (left hs)) ≡ true
      by true e true f is more = or_left (same_tx h.tx tx) (holds tx (left hs)) f
      by true e false f is more = or_right (same_tx h.tx tx) (holds tx (left hs)) (more is)
      by false e true f is more = absurd (true≢false (sym (own_stays h.tx f) ∙ e))
      by false e false f is more = more is

  enough_left : (mode : Mode) (hs : List Holder) → holds_enough tx mode hs ≡ true
      → holds_enough tx mode (left hs) ≡ true
  enough_left mode [] is = is
  enough_left mode (h ∷ hs) is =
      by (stays h.tx) refl (same_tx h.tx tx) refl (is_enough h.mode mode) refl is (enough_left mode hs)
    where
      by : (b : Bool) → stays h.tx ≡ b → (c : Bool) → same_tx h.tx tx ≡ c → (d : Bool) → is_enough h.mode mode ≡ d
          → ((c && d) || holds_enough tx mode hs) ≡ true
          → (holds_enough tx mode hs ≡ true → holds_enough tx mode (left hs) ≡ true)
          → holds_enough tx mode (cond b (h ∷ left hs) (left hs)) ≡ true
      by true e true f true g is more =
          or_left (same_tx h.tx tx && is_enough h.mode mode) (holds_enough tx mode (left hs)) (λ i. f i && g i)
      by true e true f false g is more =
          or_right (same_tx h.tx tx && is_enough h.mode mode) (holds_enough tx mode (left hs)) (more is)
      by true e false f d g is more =
          or_right (same_tx h.tx tx && is_enough h.mode mode) (holds_enough tx mode (left hs)) (more is)
      by false e true f d g is more = absurd (true≢false (sym (own_stays h.tx f) ∙ e))
      by false e false f d g is more = more is

-- what of a key is the same for the transaction behind a step as before it
pub record KeepsFor (tx : TxId) (before after : Replica) : Type 0 where
  pub found_is : found tx after.cell.pending ≡ found tx before.cell.pending
  pub held : holds tx before.lock.holders ≡ true → holds tx after.lock.holders ≡ true
  pub exclusive : holds_enough tx Exclusive before.lock.holders ≡ true
      → holds_enough tx Exclusive after.lock.holders ≡ true
  pub row : AreHeld before → holds tx before.lock.holders ≡ true → after.cell.row ≡ before.cell.row

pub keeps_self : (tx : TxId) (r : Replica) → KeepsFor tx r r
keeps_self tx r =
    record { found_is = refl; held = λ is. is; exclusive = λ is. is; row = λ held is. refl }

-- where a view is installed
module _ (s : ReplicaState) (view : View) (key : List ℕ) (well : IsWell s.lqh) where
  abbrev stays : TxId → Bool
  stays = goes_on_holding s.lqh.rows view.full key

  pub installed_keeps : (tx : TxId) → is_coordinated view.full tx ≡ true
      → KeepsFor tx (at_key key s.lqh) (at_key key (installed s view).lqh)
  installed_keeps tx led =
      subst (KeepsFor tx (at_key key s.lqh)) (sym (installations_are_events s view key well)) (record {
        found_is = refl;
        held = holds_left stays tx on (at_key key s.lqh).lock.holders;
        exclusive = enough_left stays tx on Exclusive (at_key key s.lqh).lock.holders;
        row = λ held is. refl;
      })
    where
      on : goes_on_holding s.lqh.rows view.full key tx ≡ true
      on = or_right (is_some (record_state s.lqh.rows tx key)) (is_coordinated view.full tx) led

  -- who has something prepared holds on
  pub installed_held : AreHeld (at_key key s.lqh) → AreHeld (at_key key (installed s view).lqh)
  installed_held held =
      subst AreHeld (sym (installations_are_events s view key well))
      (λ u has. enough_left stays u (on u has) Exclusive (at_key key s.lqh).lock.holders (held u has))
    where
      on : (u : TxId) → HasPrepared u (at_key key s.lqh).cell.pending
          → goes_on_holding s.lqh.rows view.full key u ≡ true
      on u has =
          or_left (is_some (record_state s.lqh.rows u key)) (is_coordinated view.full u)
          (ap is_some (state_found s.lqh.rows u key ∙ ap state_by has.there))

-- one step behind the other
pub keeps_both : (tx : TxId) (a b c : Replica) → (AreHeld a → AreHeld b) → KeepsFor tx a b → KeepsFor tx b c
    → KeepsFor tx a c
keeps_both tx a b c more one other = record {
  found_is = other.found_is ∙ one.found_is;
  held = λ is. other.held (one.held is);
  exclusive = λ is. other.exclusive (one.exclusive is);
  row = λ held is. other.row (more held) (one.held is) ∙ one.row held is;
}

pub event_keeps : (tx : TxId) (r : Replica) (event : Event) → IsOrderly r.lock → is_of tx (worker_of event r) ≡ false
    → KeepsFor tx r (key_after event r)
event_keeps tx r event orderly off =
    let on = holds_stay tx r orderly event off in
    record {
      found_is = record_stays tx event r off;
      held = on.held;
      exclusive = on.exclusive;
      row = λ held is. row_stays tx r orderly event held off is;
    }

module _ (start : Start) (all : ℕ → List HostStep) (e : HostStep) (es : List HostStep)
    (moment : IsMoment start all (e ∷ es)) (member : Member) (there : IsIn member (made start)) (key : List ℕ)
    (tx : TxId)
  where
    abbrev old : ℕ → List HostStep
    old = logs_of start es

    abbrev new : ℕ → List HostStep
    new = logs_of start (e ∷ es)

    abbrev x : Signal
    x = e.step.taken

    -- the event that the rows make of the signal for the key isn't of the transaction
    abbrev pub IsOfOther : Type 0
    IsOfOther =
        (s : ReplicaState) → IsBetween start all e es moment member there s
        → IsTakenAt start all e es moment member there s
        → is_of tx (worker_of (event_under key s x) (at_key key s.lqh)) ≡ false

    abbrev rows_old : ReplicaState
    rows_old = rows_at start old member

    well_old : IsWell rows_old.lqh
    well_old = rows_well start moment.cluster.nobody member there (old (ldm_of start member))

    pub record KeepsTo (s : ReplicaState) : Type 0 where
      pub well : IsWell s.lqh
      pub keeps : KeepsFor tx (at_key key rows_old.lqh) (at_key key s.lqh)
      pub held : AreHeld (at_key key rows_old.lqh) → AreHeld (at_key key s.lqh)

    -- before the rows take the signal
    pub between_keeps : is_led_by_full start new tx ≡ true → (s : ReplicaState)
        → (s ≡ rows_old) ⊎ (s ≡ installed rows_old (current start new)) → KeepsTo s
    between_keeps led s (inl is) =
        subst KeepsTo (sym is)
        (record { well = well_old; keeps = keeps_self tx (at_key key rows_old.lqh); held = λ held. held })
    between_keeps led s (inr is) =
        subst KeepsTo (sym is) (record {
          well = installations_keep_well rows_old (current start new) well_old;
          keeps = installed_keeps rows_old (current start new) key well_old tx led;
          held = installed_held rows_old (current start new) key well_old;
        })

    pub member_keeps : is_led_by_full start new tx ≡ true → IsOfOther
        → KeepsFor tx (replica_at start old member key) (replica_at start new member key)
    member_keeps led aside = by (rows_turn start all e es moment member there)
      where
        Kept : ReplicaState → Type 0
        Kept s = KeepsFor tx (replica_at start old member key) (at_key key s.lqh)

        taken_keeps : (s : ReplicaState) → IsBetween start all e es moment member there s
            → IsTakenAt start all e es moment member there s → KeepsTo s
            → KeepsFor tx (replica_at start old member key) (at_key key (replica_row s x).state.lqh)
        taken_keeps s between taken kept =
            keeps_both tx (replica_at start old member key) (at_key key s.lqh) (at_key key (replica_row s x).state.lqh)
            kept.held kept.keeps
            (subst (KeepsFor tx (at_key key s.lqh)) (sym (signals_are_events s x key kept.well))
            (event_keeps tx (at_key key s.lqh) (event_under key s x) (kept.well.orderly.each key)
            (aside s between taken)))

        by : RowsTurn start all e es moment member there
            → KeepsFor tx (replica_at start old member key) (replica_at start new member key)
        by (rest_now is quiet stays) = subst Kept (sym is) (keeps_self tx (replica_at start old member key))
        by (enter_now is quiet) =
            subst Kept (sym is) (between_keeps led (installed rows_old (current start new)) (inr refl)).keeps
        by (take_now s between which taken) =
            subst Kept (sym taken.rows_are) (taken_keeps s between taken (between_keeps led s which))
