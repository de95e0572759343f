-- What a step of a log, and an event of a run, makes of the row of a key that takes what is committed up to an epoch.
use Rattle.std.proofs.Common.{◌≡◌, ◌≢◌, ◌⊎◌, ◌∙◌, ◌++◌, ℕ, false, List, [], ◌∷◌, refl, sym, ap, subst, inl, inr}
use Rattle.std.proofs.lemmas.Bool.{cases_eq}
use Rattle.std.specs.FinMap as map
use Rattle.std.specs.Prelude.{nat_le, if◌then◌else◌, option_to_list, Option, None, Some}
use Rattle.run_theory.proofs.Runs.{log_of-other, log_of-own}
use Rattle.run_theory.specs.Lists.{IsIn}
use Rattle.sig_core.specs.Rows.{RowsState}
use Rattle.sig_core.specs.Table.{Rows}
use Rattle.sig_core.specs.declared.member.Member.{Member}
use Rattle.sig_core.specs.declared.member.TxId.{TxId}
use Rattle.sig_core.specs.declared.rows.PendingRecord.{PendingRecord}
use Rattle.local_ckpt.specs.Events.{Commit, Event, changed, left_by}
use Rattle.key_laws.specs.Records.{as_committed, committed, found}
use Rattle.key_laws.specs.Replica.{Cell, cell_at, committing}
use Rattle.key_laws.proofs.RecordLemmas.{committed_keeps}
use Rattle.world_core.specs.Start.{NobodyStarts, Start, made}
use Rattle.world_core.specs.Steps.{HostStep}
use Rattle.world_views.specs.Machine.{machine}
use Rattle.moment_laws.specs.Moments.{logs_of}
use Rattle.moment_laws.specs.Places.{ldm_of}
use Rattle.commit_laws.proofs.records.Moves.{found_own, now_by}
use Rattle.commit_laws.proofs.records.Once.{rows_once, rows_well}
use Rattle.commit_laws.specs.Traces.{record_at, replica_at}
use Rattle.journal_laws.specs.Events.{IsOrdered, changed_if, own_behind, rows_behind}
use Rattle.journal_laws.specs.Journal.{AreEventsOf, first_rows, lqh_after}
use Rattle.saved_laws.specs.Closings.{Commits}
use Rattle.saved_laws.proofs.rows.ByStep.{ordered_at_step, rows_at_step}
use Rattle.saved_laws.proofs.rows.Cells.{Goes, NoneIsNew, commits, event_goes, still}

module _ (start : Start) (member : Member) where
  -- the rows behind the events of a log are those of the log
  pub rows_are : (log : List HostStep) (events : List Event) → AreEventsOf start member log events
      → rows_behind (first_rows start member) events ≡ (lqh_after start member log).rows
  rows_are [] events are = ap (rows_behind (first_rows start member)) are
  rows_are (e ∷ log) events are =
      ap (rows_behind (first_rows start member)) are.1.1.0 ∙ by are.0
      ∙ ap (changed_if are.0) (rows_are log are.1.0 are.1.1.1)
      ∙ sym (rows_at_step start member e log are.0 are.1.1.2)
    where
      by : (event : Option Event)
          → rows_behind (first_rows start member) (option_to_list event ++ are.1.0)
          ≡ changed_if event (rows_behind (first_rows start member) are.1.0)
      by None = refl
      by (Some event) = refl

  module _ (there : IsIn member (made start)) (epoch : ℕ) (before : Rows) (key : List ℕ) where
    -- the row of the key that takes what is committed up to the epoch
    abbrev pub own_row : List Event → Option (List ℕ)
    own_row events = map.get (own_behind epoch (first_rows start member) before events) key

    abbrev pub cell_of : List HostStep → Cell
    cell_of log = cell_at key (lqh_after start member log).rows

    -- what a step of the log makes of the key
    record LogGoes (e : HostStep) (log : List HostStep) (events : List Event) : Type 0 where
      older : List Event
      are : AreEventsOf start member log older
      event : Option Event
      goes : Goes epoch key event (cell_of log) (cell_of (e ∷ log)) (own_row older) (own_row events)
      ordered : IsOrdered event e.step.taken.body

    log_goes : NobodyStarts start → (e : HostStep) (log : List HostStep) (events : List Event)
        → AreEventsOf start member (e ∷ log) events
        → LogGoes e log events
    log_goes nobody e log events are = record {
      older = are.1.0;
      are = are.1.1.1;
      event = are.0;
      goes = subst (λ list. Goes epoch key are.0 (cell_of log) (cell_of (e ∷ log)) (own_row are.1.0) (own_row list))
          (sym are.1.1.0) (by are.0 (rows_at_step start member e log are.0 are.1.1.2));
      ordered = ordered_at_step start member e log are.0 are.1.1.2;
    }
      where
        older : List Event
        older = are.1.0

        s : RowsState
        s = (lqh_after start member log).rows

        by : (event : Option Event) → (lqh_after start member (e ∷ log)).rows ≡ changed_if event s
            → Goes epoch key event (cell_of log) (cell_of (e ∷ log)) (own_row are.1.0)
            (own_row (option_to_list event ++ are.1.0))
        by None is =
            still refl (ap (λ (t : RowsState). (cell_at key t).row) is)
            (subst (λ (t : RowsState). NoneIsNew (cell_of log) (cell_at key t)) (sym is) (λ v done. done))
        by (Some event) is =
            subst (λ (t : RowsState). Goes epoch key (Some event) (cell_of log) (cell_at key t) (own_row older)
            (own_row (event ∷ older))) (sym is)
            (subst (λ (t : RowsState). Goes epoch key (Some event) (cell_of log) (cell_at key (changed event s))
            (own_row older)
            (map.get (left_by epoch event t (own_behind epoch (first_rows start member) before older)) key))
            (sym (rows_are log older are.1.1.1))
            (event_goes epoch key s (rows_well start nobody member there log).placed
            (rows_once start nobody member there log key)
            (own_behind epoch (first_rows start member) before older) event))

    -- What an event of a run makes of the key at the member: nothing is committed of it there, or something that was
    -- prepared.
    pub data MomentGoes (e : HostStep) (es : List HostStep) (older events : List Event) : Type 0 where
      rests : own_row events ≡ own_row older
          → (replica_at start (logs_of start (e ∷ es)) member key).cell.row
          ≡ (replica_at start (logs_of start es) member key).cell.row
          → NoneIsNew (replica_at start (logs_of start es) member key).cell
          (replica_at start (logs_of start (e ∷ es)) member key).cell → MomentGoes e es older events
      takes : (tx : TxId) (at : ℕ) → Commits start e es member tx key at → (r : PendingRecord)
          → record_at start (logs_of start es) member key tx ≡ Some r → r.committed ≡ false
          → (replica_at start (logs_of start (e ∷ es)) member key).cell
          ≡ committing (replica_at start (logs_of start es) member key).cell tx
          → own_row events ≡ (if nat_le at epoch then r.image else own_row older) → MomentGoes e es older events

    -- the events of the log before, and what becomes of the key
    pub record OneMore (e : HostStep) (es : List HostStep) (events : List Event) : Type 0 where
      pub older : List Event
      pub are : AreEventsOf start member (logs_of start es (ldm_of start member)) older
      pub goes : MomentGoes e es older events

    pub one_more : NobodyStarts start → (e : HostStep) (es : List HostStep) (events : List Event)
        → AreEventsOf start member (logs_of start (e ∷ es) (ldm_of start member)) events → OneMore e es events
    one_more nobody e es events are = by (cases_eq e.host (ldm_of start member))
      where
        h : ℕ
        h = ldm_of start member

        elsewhere : logs_of start (e ∷ es) h ≡ logs_of start es h → OneMore e es events
        elsewhere same = record {
          older = events;
          are = subst (λ log. AreEventsOf start member log events) same are;
          goes = rests refl (ap (λ log. (cell_of log).row) same)
              (subst (λ log. NoneIsNew (cell_of (logs_of start es h)) (cell_of log)) (sym same) (λ v done. done));
        }

        own : e.host ≡ h → logs_of start (e ∷ es) h ≡ e ∷ logs_of start es h → OneMore e es events
        own host_is same = record { older = one.older; are = one.are; goes = goes one.event one.goes one.ordered }
          where
            one : LogGoes e (logs_of start es h) events
            one = log_goes nobody e (logs_of start es h) events
                (subst (λ log. AreEventsOf start member log events) same are)

            now_is : (replica_at start (logs_of start (e ∷ es)) member key).cell ≡ cell_of (e ∷ logs_of start es h)
            now_is = ap cell_of same

            goes : (event : Option Event)
                → Goes epoch key event (cell_of (logs_of start es h)) (cell_of (e ∷ logs_of start es h))
                (own_row one.older) (own_row events) → IsOrdered event e.step.taken.body
                → MomentGoes e es one.older events
            goes event (still own_is row none) ordered =
                rests own_is (ap (λ (c : Cell). c.row) now_is ∙ row)
                (subst (NoneIsNew (cell_of (logs_of start es h))) (sym now_is) none)
            goes event (commits tx at event_is r is begun cell own_is) ordered =
                takes tx at
                (record {
                  host_is = host_is;
                  members = told.0;
                  at = told.1.0;
                  body = told.1.1;
                  r = r;
                  there = is;
                  prepared = begun;
                  now = committed r;
                  is_now = now_found;
                  committed = refl;
                })
                r is begun (now_is ∙ cell) own_is
              where
                told : IsOrdered (Some (Commit tx key at)) e.step.taken.body
                told = subst (λ o. IsOrdered o e.step.taken.body) event_is ordered

                now_found : record_at start (logs_of start (e ∷ es)) member key tx ≡ Some (committed r)
                now_found =
                    ap (λ (c : Cell). found tx c.pending) (now_is ∙ cell)
                    ∙ found_own as_committed committed_keeps tx (cell_of (logs_of start es h)).pending
                    (rows_once start nobody member there (logs_of start es h) key)
                    ∙ ap (now_by as_committed) is

        by : (e.host ≡ h) ⊎ (e.host ≢ h) → OneMore e es events
        by (inl at) = own at (log_of-own (machine start) e es h at)
        by (inr off) = elsewhere (log_of-other (machine start) e es h off)
