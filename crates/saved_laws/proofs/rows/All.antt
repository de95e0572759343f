-- The rows that a member has saved are those of the history.
use Rattle.std.proofs.Common.{◌≡◌, ◌≤◌, ◌<◌, ◌⊎◌, ◌∙◌, ◌++◌, ℕ, true, List, [], ◌∷◌, refl, sym, ap, subst, inl, inr}
use Rattle.std.proofs.Common.{append-nil, append_assoc, arith}
use Rattle.std.specs.FinMap as map
use Rattle.run_theory.proofs.Pasts.{each_after, each_before, each_map, each_past, past_trans}
use Rattle.run_theory.specs.Lists.{Each, IsIn, IsPast}
use Rattle.frag_map.specs.Layout.{holds}
use Rattle.sig_core.specs.Rows.{row_of}
use Rattle.sig_core.specs.Table.{Rows}
use Rattle.sig_core.specs.declared.mark.Mark.{Mark}
use Rattle.sig_core.specs.declared.mark.Mark.TheVariants.{Decided}
use Rattle.sig_core.specs.declared.member.Member.{Member}
use Rattle.serial_model.specs.Legal.{rows_of}
use Rattle.local_ckpt.specs.Events.{Event}
use Rattle.key_laws.specs.OneKey.{row_at_end}
use Rattle.request_laws.specs.Blocks.{rows_after}
use Rattle.world_core.specs.SerialLaw.{AreEpochsOrdered}
use Rattle.world_core.specs.Start.{Start, made}
use Rattle.world_core.specs.Steps.{HostStep}
use Rattle.view_laws.proofs.eras.Entries.{stand_in_order}
use Rattle.view_laws.specs.Order.{entries_along}
use Rattle.view_laws.specs.Runs.{AreOfCluster}
use Rattle.moment_laws.proofs.MomentRuns.{are_moments}
use Rattle.moment_laws.specs.Moments.{IsMoment, logs_of}
use Rattle.moment_laws.specs.Places.{ldm_of}
use Rattle.outcome_laws.proofs.order.EventsBefore.{moment_before}
use Rattle.epoch_laws.proofs.FallAll.{epochs_never_fall}
use Rattle.commit_laws.specs.Traces.{rows_at}
use Rattle.closing_laws.proofs.settled.Cuts.{HasLogAt, events_of, has_log, logs_are}
use Rattle.journal_laws.specs.Events.{own_behind}
use Rattle.journal_laws.specs.Journal.{AreEventsOf, first_rows}
use Rattle.saved_laws.specs.Closings.{ClosedOnesAreCommitted, CommitsWereDecided, CommittedOnesAreFinal}
use Rattle.saved_laws.specs.Closings.{SavedWereClosed, WasFullAtClosing}
use Rattle.saved_laws.specs.History.{SavedRowsAreHistory, row_up_to}
use Rattle.saved_laws.proofs.rows.Along.{own_is_history}
use Rattle.saved_laws.proofs.rows.Decisions.{DecideWith, HasLater, IsOfEpoch, Split, decide_both, part, split, whole}
use Rattle.saved_laws.proofs.rows.Front.{first_stays}
use Rattle.saved_laws.proofs.rows.Histories.{history_up_to}
use Rattle.saved_laws.proofs.rows.Later.{late_behind_closing, late_behind_later, late_in_life}
use Rattle.saved_laws.proofs.rows.Replicas.{row_begins}

-- what is decided later than one epoch is so than a lesser one
later_than : (epoch saved : ℕ) → epoch ≤ saved → (es : List HostStep) → DecideWith (λ at. saved < at) es
    → DecideWith (λ at. epoch < at) es
later_than epoch saved low es late =
    each_map (λ (e : HostStep). Each (IsOfEpoch (λ at. saved < at)) e.step.marks)
    (λ (e : HostStep). Each (IsOfEpoch (λ at. epoch < at)) e.step.marks) es
    (λ e all. each_map (IsOfEpoch (λ at. saved < at)) (IsOfEpoch (λ at. epoch < at)) e.step.marks one all) late
  where
    one : (mark : Mark) → IsOfEpoch (λ at. saved < at) mark → IsOfEpoch (λ at. epoch < at) mark
    one (Decided tx at) up = omega (arith, up, low)
    one mark up = tt

module _ (saved : SavedWereClosed) (closed : ClosedOnesAreCommitted) (finals : CommittedOnesAreFinal)
    (decided : CommitsWereDecided) (start : Start) (logs : ℕ → List HostStep) (begins : start.start_epoch < start.epoch)
    (are : AreOfCluster start logs) (member : Member) (there : IsIn member (made start)) (before : Rows)
    (before_is : (key : List ℕ) → map.get before key ≡ row_of (first_rows start member) key) (epoch : ℕ)
    (key : List ℕ) (held : holds start.shape member.node key ≡ true) where
  abbrev end : List HostStep
  end = events_of start logs

  moment : IsMoment start logs (events_of start logs)
  moment = are_moments start logs are

  ordered : AreEpochsOrdered (entries_along start (events_of start logs))
  ordered =
      subst AreEpochsOrdered (stand_in_order start logs are) (epochs_never_fall stand_in_order start logs begins are)

  abbrev HasHistory : List HostStep → List Event → Type 0
  HasHistory es events =
      AreEventsOf start member (logs_of start es (ldm_of start member)) events
      → map.get (own_behind epoch (first_rows start member) before events) key ≡ row_up_to start logs epoch key

  front_late : (xs ys : List HostStep) → DecideWith (λ at. epoch < at) (xs ++ ys) → DecideWith (λ at. epoch < at) xs
  front_late xs ys late = each_before (λ (e : HostStep). Each (IsOfEpoch (λ at. epoch < at)) e.step.marks) xs ys late

  back_late : (xs ys : List HostStep) → DecideWith (λ at. epoch < at) (xs ++ ys) → DecideWith (λ at. epoch < at) ys
  back_late xs ys late = each_after (λ (e : HostStep). Each (IsOfEpoch (λ at. epoch < at)) e.step.marks) xs ys late

  module _ (es : List HostStep) (past : IsPast es (events_of start logs)) where
    -- where nothing is decided up to the epoch the rows are the first ones
    from_start : epoch < start.epoch → (events : List Event) → HasHistory es events
    from_start low events is =
        first_stays decided start logs end begins moment member there epoch before key es past
        (each_past (λ (e : HostStep). Each (IsOfEpoch (λ at. epoch < at)) e.step.marks) past all_late) events is
        ∙ before_is key ∙ row_begins start are.nobody member key held there
        ∙ sym (ap (row_at_end key (map.get (rows_of start.rows) key))
        (history_up_to start logs are epoch end [] (sym (append-nil end)) tt all_late))
      where
        all_late : DecideWith (λ at. epoch < at) (events_of start logs)
        all_late = late_in_life start logs end begins moment epoch low

    -- behind a closing at which the member was full
    module _ (last : ℕ) (low : epoch ≤ last) (full : WasFullAtClosing start es last member) where
      -- the moment at which it came
      closing_past : IsPast (full.closing ∷ full.older) (events_of start logs)
      closing_past = past_trans (record { newer = full.newer; is = full.is }) past

      -- nobody is decided later before it
      all_before : DecideWith (λ at. at ≤ epoch) full.older → (events : List Event) → HasHistory es events
      all_before up_to events is =
          own_is_history closed finals decided start logs begins are member there before epoch key held (before_is key)
          es past last low full full.older [] refl up_to tt
          (decide_both (λ at. epoch < at) full.newer (full.closing ∷ []) (back_late past.newer full.newer front)
          (back_late (past.newer ++ full.newer) (full.closing ∷ []) late)) (front_late past.newer full.newer front)
          events is
        where
          late : DecideWith (λ at. epoch < at) ((past.newer ++ full.newer) ++ full.closing ∷ [])
          late =
              later_than epoch last low ((past.newer ++ full.newer) ++ full.closing ∷ [])
              (late_behind_closing start logs end begins moment last full.closing full.older full.marked closing_past
              (past.newer ++ full.newer)
              (record {
                newer = [];
                is = past.is ∙ ap (λ xs. past.newer ++ xs) full.is
                    ∙ sym (append_assoc past.newer full.newer (full.closing ∷ full.older));
              }))

          front : DecideWith (λ at. epoch < at) (past.newer ++ full.newer)
          front = front_late (past.newer ++ full.newer) (full.closing ∷ []) late

      -- an event before it is the first that decides in a later epoch
      first_later : (newer : List HostStep) (d : HostStep) (ms : List HostStep) → full.older ≡ newer ++ d ∷ ms
          → DecideWith (λ at. at ≤ epoch) ms → HasLater epoch d.step.marks → (events : List Event)
          → HasHistory es events
      first_later newer d ms older_is up_to has events is =
          own_is_history closed finals decided start logs begins are member there before epoch key held (before_is key)
          es past last low full ms (newer ++ d ∷ [])
          (older_is ∙ sym (append_assoc newer (d ∷ []) ms)) up_to
          (decide_both (λ at. epoch < at) newer (d ∷ [])
          (back_late (full.closing ∷ []) newer (back_late full.newer (full.closing ∷ newer) rest))
          (back_late all (d ∷ []) late))
          (decide_both (λ at. epoch < at) full.newer (full.closing ∷ [])
          (front_late full.newer (full.closing ∷ newer) rest)
          (front_late (full.closing ∷ []) newer (back_late full.newer (full.closing ∷ newer) rest)))
          (front_late past.newer (full.newer ++ full.closing ∷ newer) front) events is
        where
          all : List HostStep
          all = past.newer ++ (full.newer ++ full.closing ∷ newer)

          late : DecideWith (λ at. epoch < at) ((past.newer ++ (full.newer ++ full.closing ∷ newer)) ++ d ∷ [])
          late =
              late_behind_later start logs end begins moment epoch ordered d ms has all
              (record {
                newer = [];
                is = past.is ∙ ap (λ xs. past.newer ++ xs)
                    (full.is ∙ ap (λ xs. full.newer ++ full.closing ∷ xs) older_is
                    ∙ sym (append_assoc full.newer (full.closing ∷ newer) (d ∷ ms)))
                    ∙ sym (append_assoc past.newer (full.newer ++ full.closing ∷ newer) (d ∷ ms));
              })

          front : DecideWith (λ at. epoch < at) (past.newer ++ (full.newer ++ full.closing ∷ newer))
          front = front_late (past.newer ++ (full.newer ++ full.closing ∷ newer)) (d ∷ []) late

          rest : DecideWith (λ at. epoch < at) (full.newer ++ full.closing ∷ newer)
          rest = back_late past.newer (full.newer ++ full.closing ∷ newer) front

      from_closing : (events : List Event) → HasHistory es events
      from_closing = by (split epoch full.older)
        where
          by : Split epoch full.older → (events : List Event) → HasHistory es events
          by (whole up_to) = all_before up_to
          by (part newer d ms older_is up_to has) = first_later newer d ms older_is up_to has

    at_moment : epoch ≤ (rows_at start (logs_of start es) member).saved → (events : List Event) → HasHistory es events
    at_moment low =
        by
        (saved start logs es begins
        (moment_before start logs past.newer es (subst (IsMoment start logs) past.is moment)) member there)
      where
        by : ((rows_at start (logs_of start es) member).saved ≡ start.start_epoch)
            ⊎ WasFullAtClosing start es (rows_at start (logs_of start es) member).saved member
            → (events : List Event) → HasHistory es events
        by (inl first) = from_start (omega (arith, low, first, begins))
        by (inr full) = from_closing (rows_at start (logs_of start es) member).saved low full

  at_log : (log : List HostStep) → IsPast log (logs (ldm_of start member)) → (events : List Event)
      → AreEventsOf start member log events → epoch ≤ (rows_after start member log).saved
      → map.get (own_behind epoch (first_rows start member) before events) key ≡ row_up_to start logs epoch key
  at_log log past events is low =
      at_moment has.older (record { newer = has.newer; is = has.is })
      (subst (λ list. epoch ≤ (rows_after start member list).saved) (sym has.log_is) low) events
      (subst (λ list. AreEventsOf start member list events) (sym has.log_is) is)
    where
      has : HasLogAt start (ldm_of start member) log (events_of start logs)
      has =
          has_log start (ldm_of start member) log end
          (subst (λ (ls : ℕ → List HostStep). IsPast log (ls (ldm_of start member)))
          (sym (logs_are start logs are)) past)

pub saved_rows_history : SavedWereClosed → ClosedOnesAreCommitted → CommittedOnesAreFinal → CommitsWereDecided
    → SavedRowsAreHistory
saved_rows_history saved closed finals decided start logs begins are member there log past events is before before_is
    epoch low key held =
    at_log saved closed finals decided start logs begins are member there before before_is epoch key held log past
    events is low
