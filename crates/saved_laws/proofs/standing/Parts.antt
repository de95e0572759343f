-- The events of an older part of a log, among those of the log; and of two older parts of events the one that reaches
-- further is the other one and more, as far as records go.
use Rattle.std.proofs.Common.{◌≡◌, ◌≤◌, ◌∙◌, List, [], ◌∷◌, ◌++◌, length, refl, sym, ap, subst, append_assoc}
use Rattle.std.proofs.Common.{ℕ, option_to_list, arith}
use Rattle.redo_log.specs.Replaying.{log_bytes}
use Rattle.run_theory.specs.Lists.{IsPast}
use Rattle.sig_core.specs.declared.member.Member.{Member}
use Rattle.sig_core.specs.declared.redo.Redo.{Redo}
use Rattle.sig_core.specs.Rows.{RowsState}
use Rattle.local_ckpt.specs.Events.{Event}
use Rattle.world_core.specs.Start.{Start}
use Rattle.world_core.specs.Steps.{HostStep}
use Rattle.journal_laws.specs.Events.{records_behind, rows_behind}
use Rattle.journal_laws.specs.Journal.{AreEventsOf}
use Rattle.journal_laws.proofs.follow.Oldest.{records_append}
use Rattle.saved_laws.proofs.standing.Records.{length_both, no_bytes}

module _ (start : Start) (member : Member) where
  pub record HasPart (older : List HostStep) (events : List Event) : Type 0 where
    pub newer : List Event
    pub part : List Event
    pub is : events ≡ newer ++ part
    pub part_of : AreEventsOf start member older part

  part_by : (newer older : List HostStep) (events : List Event) → AreEventsOf start member (newer ++ older) events
      → HasPart older events
  part_by [] older events are = record { newer = []; part = events; is = refl; part_of = are }
  part_by (e ∷ newer) older events (event, (before, (is, of, made))) =
      let rest = part_by newer older before of in
      record {
        newer = option_to_list event ++ rest.newer;
        part = rest.part;
        is = is ∙ ap (λ xs. option_to_list event ++ xs) rest.is
            ∙ sym (append_assoc (option_to_list event) rest.newer rest.part);
        part_of = rest.part_of;
      }

  pub part_of_log : (older log : List HostStep) (events : List Event) → IsPast older log
      → AreEventsOf start member log events → HasPart older events
  part_of_log older log events past are =
      part_by past.newer older events (subst (λ l. AreEventsOf start member l events) past.is are)

module _ (s : RowsState) where
  abbrev bytes_behind : List Event → List ℕ
  bytes_behind events = log_bytes (records_behind s events)

  -- these events, with further ones, have just the records of those
  pub record GoesOn (events more : List Event) : Type 0 where
    pub further : List Event
    pub same : records_behind s (further ++ events) ≡ records_behind s more

  -- those have no records that these don't have
  none_further : (newer part : List Event)
      → length (bytes_behind (newer ++ part)) ≤ length (bytes_behind part)
      → GoesOn (newer ++ part) part
  none_further newer part few = record {
    further = [];
    same = records_append s newer part
        ∙ ap (λ records. records ++ records_behind s part)
        (no_bytes own
        (omega (
          arith,
          few,
          ap (λ records. length (log_bytes records)) (records_append s newer part),
          length_both own (records_behind s part),
        )));
  }
    where
      own : List Redo
      own = records_behind (rows_behind s part) newer

  pub goes_on : (newer part later events : List Event) → newer ++ part ≡ later ++ events
      → length (bytes_behind events) ≤ length (bytes_behind part) → GoesOn events part
  goes_on [] part later events same few = record { further = later; same = ap (records_behind s) (sym same) }
  goes_on (one ∷ newer) part [] events same few =
      subst (λ xs. GoesOn xs part) same
      (none_further (one ∷ newer) part
      (subst (λ xs. length (bytes_behind xs) ≤ length (bytes_behind part)) (sym same) few))
  goes_on (one ∷ newer) part (other ∷ later) events same few =
      let rest : newer ++ part ≡ later ++ events = cc in goes_on newer part later events rest few
