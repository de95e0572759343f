-- The events of a member's rows keep locks.
use Rattle.std.proofs.Common.{◌≡◌, ◌≢◌, ◌⊎◌, ◌||◌, ◌∙◌, ◌++◌, ℕ, Bool, true, false, List, [], ◌∷◌, refl, sym, ap}
use Rattle.std.proofs.Common.{subst, inl, inr, length, arith}
use Rattle.std.proofs.lemmas.Bool.{and_parts, cases_eq}
use Rattle.std.proofs.lemmas.Bool.Decides.{nat_tests}
use Rattle.std.specs.Prelude.{if◌then◌else◌, nat_lt, option_to_list, position, IfSome, Option, None, Some, Ok, Err}
use Rattle.run_theory.proofs.Runs.{log_of-other, log_of-own}
use Rattle.run_theory.specs.Lists.{IsIn}
use Rattle.sig_core.specs.declared.member.Member.{Member}
use Rattle.sig_core.specs.declared.member.TxId.{TxId}
use Rattle.sig_core.specs.declared.redo.Redo.{Redo}
use Rattle.sig_core.specs.declared.word.WordFault.{WordFault}
use Rattle.sig_core.specs.declared.key.TheConstants.{KEY_BYTES}
use Rattle.sig_core.specs.declared.value.TheConstants.{VALUE_BYTES}
use Rattle.sig_core.specs.Rows.{RowsState, storing}
use Rattle.sig_core.specs.Same.{same_key, same_tx}
use Rattle.sig_core.specs.Word.{if_word, is_unprintable, unless_spoilt}
use Rattle.redo_format.specs.Records.{IsKey, IsValue}
use Rattle.redo_log.specs.Replaying.{AreRecords}
use Rattle.lcp_store.specs.Laws.{IsWordOf}
use Rattle.local_ckpt.specs.Events.{Abort, Commit, Complete, Event, Prepare, Step, changed, log_if, logged}
use Rattle.local_ckpt.specs.Laws.{IsImage}
use Rattle.local_ckpt.specs.Locking.{AreLocked, IsAlone, KeepsLock}
use Rattle.local_ckpt.specs.Orderly.{IsOrderly, image_in}
use Rattle.local_ckpt.proofs.EventLemmas.{Prepared, stores}
use Rattle.local_ckpt.proofs.RecordLemmas.{is_same, own_record}
use Rattle.world_core.specs.Start.{NobodyStarts, Start, made}
use Rattle.world_core.specs.Steps.{HostStep}
use Rattle.world_views.specs.Machine.{machine}
use Rattle.moment_laws.specs.Moments.{IsMoment, logs_of}
use Rattle.moment_laws.specs.Places.{ldm_of}
use Rattle.moment_laws.proofs.MomentViews.{moment_less}
use Rattle.journal_laws.specs.Checkpoints.{HaveKeptLocks}
use Rattle.journal_laws.specs.Events.{AreUpTo, IsUpTo, changed_if, records_behind, rows_behind}
use Rattle.journal_laws.specs.Journal.{AreEventsOf, first_rows, lqh_after}
use Rattle.journal_laws.proofs.events.FirstRows.{first_orderly}
use Rattle.journal_laws.proofs.replays.Replays.{orderly_behind}
use Rattle.saved_laws.specs.Locks.{MembersKeepLocks}
use Rattle.saved_laws.proofs.locking.Alone.{always_alone}
use Rattle.saved_laws.proofs.rows.ByStep.{rows_at_step}
use Rattle.saved_laws.proofs.rows.Own.{rows_are}

-- what can be written can be read
word_of : (least most : ℕ) (word : List ℕ) → if_word least most word word ≡ Ok word → IsWordOf least most word
word_of least most word is =
    let are = worded (nat_lt (length word) least) (nat_lt most (length word)) (position is_unprintable word) _ is in
    record {
      long_enough = grind (arith, nat_tests, are.0);
      short_enough = grind (arith, nat_tests, are.1);
      printable = are.2;
    }
  where
    worded : (short long : Bool) (spoilt : Option ℕ) (fault : WordFault)
        → (if short || long then Err fault else unless_spoilt word spoilt) ≡ Ok word
        → (short ≡ false) × (long ≡ false) × (spoilt ≡ None)
    worded true long spoilt fault e = absurd cc
    worded false true spoilt fault e = absurd cc
    worded false false None fault e = (refl, refl, refl)
    worded false false (Some at) fault e = absurd cc

image_of : (key : List ℕ) (image : Option (List ℕ)) → IsKey key → IfSome image IsValue → IsImage key image
image_of key image is_key value = record { key_is = word_of 1 KEY_BYTES key is_key; image_is = by image value }
  where
    by : (image : Option (List ℕ)) → IfSome image IsValue → IfSome image (IsWordOf 0 VALUE_BYTES)
    by None is = tt
    by (Some value) is = word_of 0 VALUE_BYTES value is

-- whoever prepares was alone, where it is so behind
prepares_alone : (s : RowsState) (tx : TxId) (key : List ℕ) (image : Option (List ℕ)) → IsOrderly s
    → AreLocked (storing s tx key image) → IsAlone s tx key
prepares_alone s tx key image orderly locked other found there = by (is_same tx key other key) refl
  where
    stored : Prepared s (storing s tx key image) tx key (Some image)
    stored = stores s tx key image orderly

    own : image_in (storing s tx key image) tx key ≡ Some image
    own = stored.images tx key ∙ ap (λ b. if b then Some image else image_in s tx key) (own_record tx key)

    by : (b : Bool) → is_same tx key other key ≡ b → same_tx tx other ≡ true
    by true e = (and_parts (same_tx tx other) (same_key key key) e).0
    by false e =
        locked tx key image own other found
        (stored.images other key ∙ ap (λ b. if b then Some image else image_in s other key) e ∙ there)

-- the records before an event
older_records_if : (redo : Redo) (o : Option (Option (List ℕ))) (log : List Redo) → AreRecords (log_if redo o log)
    → AreRecords log
older_records_if redo None log are = are
older_records_if redo (Some image) log are = are.1

older_records : (event : Event) (s : RowsState) (log : List Redo) → AreRecords (logged event s log) → AreRecords log
older_records (Prepare tx fragment key image) s log are = are.1
older_records (Commit tx key epoch) s log are = older_records_if _ (image_in s tx key) log are
older_records (Abort tx key) s log are = older_records_if _ (image_in s tx key) log are
older_records (Complete tx key) s log are = are
older_records Step s log are = are

module _ (most : ℕ) where
  keeps : (event : Event) (s : RowsState) (log : List Redo) → IsOrderly s → AreLocked (changed event s)
      → AreRecords (logged event s log) → IsUpTo most event → KeepsLock most s event
  keeps (Prepare tx fragment key image) s log orderly locked are up =
      (prepares_alone s tx key image orderly locked, image_of key image are.0.2 are.0.3)
  keeps (Commit tx key epoch) s log orderly locked are up = up
  keeps (Abort tx key) s log orderly locked are up = tt
  keeps (Complete tx key) s log orderly locked are up = tt
  keeps Step s log orderly locked are up = tt

  module _ (start : Start) (nobody : NobodyStarts start) (all : ℕ → List HostStep) (member : Member)
      (there : IsIn member (made start)) where
    abbrev h : ℕ
    h = ldm_of start member

    abbrev first : RowsState
    first = first_rows start member

    -- so do the events of a log
    abbrev Keep : List HostStep → Type 0
    Keep log =
        (events : List Event) → AreEventsOf start member log events → AreRecords (records_behind first events)
        → AreUpTo most events → HaveKeptLocks most first events

    own_step : (e : HostStep) (log : List HostStep) → AreLocked (lqh_after start member (e ∷ log)).rows → Keep log
        → Keep (e ∷ log)
    own_step e log locked keep events are records up =
        subst (HaveKeptLocks most first) (sym are.1.1.0)
        (by are.0 (rows_at_step start member e log are.0 are.1.1.2)
        (subst (λ list. AreRecords (records_behind first list)) are.1.1.0 records)
        (subst (AreUpTo most) are.1.1.0 up))
      where
        by : (event : Option Event)
            → (lqh_after start member (e ∷ log)).rows ≡ changed_if event (lqh_after start member log).rows
            → AreRecords (records_behind first (option_to_list event ++ are.1.0))
            → AreUpTo most (option_to_list event ++ are.1.0)
            → HaveKeptLocks most first (option_to_list event ++ are.1.0)
        by None is records up = keep are.1.0 are.1.1.1 records up
        by (Some event) is records up = (
          keeps event (rows_behind first are.1.0) (records_behind first are.1.0)
              (orderly_behind first are.1.0 (first_orderly start nobody member there))
              (subst AreLocked (is ∙ ap (changed event) (sym (rows_are start member log are.1.0 are.1.1.1))) locked)
              records up.0,
          keep are.1.0 are.1.1.1
              (older_records event (rows_behind first are.1.0) (records_behind first are.1.0) records) up.1,
        )

    all_keep : (es : List HostStep) → IsMoment start all es → Keep (logs_of start es h)
    all_keep [] moment = λ events are records up. subst (HaveKeptLocks most first) (sym are) tt
    all_keep (e ∷ es) moment =
        by (cases_eq e.host h) (always_alone start all member there (e ∷ es) moment)
        (all_keep es (moment_less start all e es moment))
      where
        by : (e.host ≡ h) ⊎ (e.host ≢ h) → AreLocked (lqh_after start member (logs_of start (e ∷ es) h)).rows
            → Keep (logs_of start es h) → Keep (logs_of start (e ∷ es) h)
        by (inl at) locked keep =
            let same : logs_of start (e ∷ es) h ≡ e ∷ logs_of start es h = log_of-own (machine start) e es h at in
            subst Keep (sym same)
            (own_step e (logs_of start es h) (subst (λ log. AreLocked (lqh_after start member log).rows) same locked)
            keep)
        by (inr off) locked keep = subst Keep (sym (log_of-other (machine start) e es h off)) keep

pub keep_locks : MembersKeepLocks
keep_locks start all es moment member there events has most up =
    all_keep most start moment.cluster.nobody all member there es moment events has.events_of has.records up
