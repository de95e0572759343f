-- The events and the records behind a log, and what each step adds to them.
use Rattle.std.proofs.Common.{◌≡◌, ◌∙◌, ℕ, Bool, true, List, [], ◌∷◌, ◌++◌, refl, ap, sym, subst, append_assoc}
use Rattle.std.proofs.Common.{append-nil, option_to_list}
use Rattle.std.specs.Prelude.{Option, None, Some}
use Rattle.std.proofs.lemmas.List.{append_cancel_left}
use Rattle.redo_log.specs.Replaying.{AreRecords, log_bytes}
use Rattle.redo_log.proofs.OrderLemmas.{one_newest}
use Rattle.run_theory.specs.Lists.{IsIn}
use Rattle.sig_core.specs.declared.member.Member.{Member}
use Rattle.sig_core.specs.declared.redo.Redo.{Redo}
use Rattle.sig_core.specs.declared.redo.Redo.TheVariants as redo
use Rattle.sig_core.specs.declared.signal.Body.{Body}
use Rattle.sig_core.specs.declared.walk.Finished.{Finished}
use Rattle.sig_core.specs.Journal.{OutletState, behind}
use Rattle.sig_core.specs.Redo.{bytes_of}
use Rattle.sig_core.specs.Rows.{RowsState}
use Rattle.local_ckpt.specs.Events.{Abort, Commit, Complete, Event, Prepare, Step, log_if, logged}
use Rattle.local_ckpt.specs.Orderly.{image_in}
use Rattle.lqh_block.specs.State.{LqhState}
use Rattle.lqh_saver.specs.declared.stage.Todo.{Todo}
use Rattle.lqh_saver.specs.declared.stage.Todo.TheVariants as todo
use Rattle.lqh_saver.specs.State.{SavingState}
use Rattle.lqh_saver.specs.Switching.{has_position, outlet_from}
use Rattle.lqh_views.specs.State.{ReplicaState}
use Rattle.moment_laws.proofs.MomentHosts.{ldm_started}
use Rattle.node_views.specs.declared.host_body.HostBody as hosts
use Rattle.request_laws.specs.Blocks.{no_replica, rows_in}
use Rattle.world_core.specs.Start.{NobodyStarts, Start, made}
use Rattle.world_core.specs.Steps.{HostStep}
use Rattle.journal_laws.specs.Events.{behind_all, changed_if, records_behind, records_if, rows_behind}
use Rattle.journal_laws.specs.Journal.{AreEventsOf, first_rows, lqh_after, outlet_with}
use Rattle.journal_laws.specs.Saver.{IsStepBy}
use Rattle.journal_laws.proofs.follow.GivenUp.{newer_records}
use Rattle.saved_laws.proofs.standing.Records.{older_records, records_more}
use Rattle.journal_laws.specs.Saver as steps

pub both_records : (newer older : List Redo) → AreRecords newer → AreRecords older → AreRecords (newer ++ older)
both_records [] older one other = other
both_records (newest ∷ newer) older one other = (one.0, both_records newer older one.1 other)

if_logged : (one : Redo) (found : Option (Option (List ℕ))) (log : List Redo)
    → log_if one found log ≡ log_if one found [] ++ log
if_logged one None log = refl
if_logged one (Some image) log = refl

pub logged_behind : (event : Event) (s : RowsState) (log : List Redo) → logged event s log ≡ logged event s [] ++ log
logged_behind (Prepare tx fragment key image) s log = refl
logged_behind (Commit tx key epoch) s log = if_logged (redo.Commit tx epoch key) (image_in s tx key) log
logged_behind (Abort tx key) s log = if_logged (redo.Abort tx key) (image_in s tx key) log
logged_behind (Complete tx key) s log = refl
logged_behind Step s log = refl

rows_more : (s : RowsState) (event : Option Event) (older : List Event)
    → rows_behind s (option_to_list event ++ older) ≡ changed_if event (rows_behind s older)
rows_more s None older = refl
rows_more s (Some event) older = refl

-- a journal that keeps its bytes
abbrev keeping : ℕ → ℕ → List ℕ → OutletState
keeping parity flushed left = record { keeps = true; parity = parity; flushed = flushed; left = left }

all_kept : (newer : List Redo) (parity flushed : ℕ) (left : List ℕ)
    → behind_all newer (keeping parity flushed left) ≡ keeping parity flushed (left ++ log_bytes newer)
all_kept [] parity flushed left = ap (keeping parity flushed) (sym (append-nil left))
all_kept (newest ∷ older) parity flushed left =
    ap (λ (o : OutletState). behind o newest) (all_kept older parity flushed left)
    ∙ ap (keeping parity flushed) (append_assoc left (log_bytes older) (bytes_of newest))

-- what is appended to it comes behind its bytes
pub appended : (newer : List Redo) (o : OutletState) → o.keeps ≡ true
    → behind_all newer o ≡ record o { left = o.left ++ log_bytes newer }
appended newer o keeps =
    ap (behind_all newer)
    (ap (λ (k : Bool). record { keeps = k; parity = o.parity; flushed = o.flushed; left = o.left }) keeps)
    ∙ all_kept newer o.parity o.flushed o.left
    ∙ sym (ap
    (λ (k : Bool). record { keeps = k; parity = o.parity; flushed = o.flushed; left = o.left ++ log_bytes newer })
    keeps)

-- the records of an event are appended
pub record Appends (s t : LqhState) (event : Option Event) : Type 0 where
  pub rows : t.rows ≡ changed_if event s.rows
  pub outlet : t.outlet ≡ behind_all (records_if event s.rows) s.outlet

-- or the journal gives up what stands before a checkpoint
pub record GivesUp (s t : LqhState) (finished : Finished) (event : Option Event) : Type 0 where
  pub none : event ≡ None
  pub has : has_position s.outlet finished.from ≡ true
  pub rows : t.rows ≡ s.rows
  pub outlet : t.outlet ≡ outlet_from s.outlet finished.from

abbrev pub IsNoName : Todo → Type 0
IsNoName it = (finished : Finished) → it ≡ todo.Name finished → ⊥

-- what a step makes of the rows and their journal
pub data Goes (s t : LqhState) (it : Todo) (event : Option Event) : Type 0 where
  appends : Appends s t event → IsNoName it → Goes s t it event
  gives_up : (finished : Finished) → GivesUp s t finished event → it ≡ todo.Name finished → Goes s t it event

pub goes : (s t : SavingState) (body : Body) (it : Todo) (event : Option Event) → IsStepBy s t body it event
    → Goes s.replica.lqh t.replica.lqh it event
goes s t body it event (steps.rows made keeps walk nothing) =
    appends (record { rows = made.rows; outlet = made.outlet }) (λ finished names. cc)
goes s t body it event (steps.begins walk none nothing) =
    appends
    (subst (Appends s.replica.lqh t.replica.lqh) (sym none)
    (record { rows = walk.leaves.rows; outlet = walk.leaves.outlet }))
    (λ finished names. cc)
goes s t body it event (steps.passes walk step writes) =
    appends
    (subst (Appends s.replica.lqh t.replica.lqh) (sym step)
    (record { rows = walk.leaves.rows; outlet = walk.leaves.outlet }))
    (λ finished names. cc)
goes s t body it event (steps.ends walk none syncs) =
    appends
    (subst (Appends s.replica.lqh t.replica.lqh) (sym none)
    (record { rows = walk.leaves.rows; outlet = walk.leaves.outlet }))
    (λ finished names. cc)
goes s t body it event (steps.switches finished switch none names) =
    gives_up finished (record { none = none; has = switch.has; rows = switch.rows; outlet = switch.outlet }) names

goes_rows : (s t : LqhState) (it : Todo) (event : Option Event) → Goes s t it event
    → t.rows ≡ changed_if event s.rows
goes_rows s t it event (appends of not_named) = of.rows
goes_rows s t it event (gives_up finished of named) =
    of.rows ∙ sym (ap (λ (o : Option Event). changed_if o s.rows) of.none)

goes_keeps : (s t : LqhState) (it : Todo) (event : Option Event) → Goes s t it event → s.outlet.keeps ≡ true
    → t.outlet.keeps ≡ true
goes_keeps s t it event (appends of not_named) keeps =
    ap (λ (o : OutletState). o.keeps) (of.outlet ∙ appended (records_if event s.rows) s.outlet keeps) ∙ keeps
goes_keeps s t it event (gives_up finished of named) keeps = ap (λ (o : OutletState). o.keeps) of.outlet ∙ keeps

-- as long as it gives up nothing, the journal begins where it began
pub flushed_same : (s t : LqhState) (event : Option Event) → s.outlet.keeps ≡ true → Appends s t event
    → t.outlet.flushed ≡ s.outlet.flushed
flushed_same s t event keeps of =
    ap (λ (o : OutletState). o.flushed) (of.outlet ∙ appended (records_if event s.rows) s.outlet keeps)

-- one step adds the same records, whatever event tells it
same_added : (s t : LqhState) (it : Todo) (one other : Option Event) → s.outlet.keeps ≡ true
    → Goes s t it one → Goes s t it other → AreRecords (records_if one s.rows) → AreRecords (records_if other s.rows)
    → records_if one s.rows ≡ records_if other s.rows
same_added s t it one other keeps (appends a none) (appends b not_so) are too =
    one_newest (records_if one s.rows) (records_if other s.rows) are too
    (append_cancel_left s.outlet.left (log_bytes (records_if one s.rows)) (log_bytes (records_if other s.rows))
    (ap (λ (o : OutletState). o.left)
    (sym (appended (records_if one s.rows) s.outlet keeps) ∙ sym a.outlet ∙ b.outlet
    ∙ appended (records_if other s.rows) s.outlet keeps)))
same_added s t it one other keeps (gives_up finished a names) (gives_up another b named) are too =
    ap (λ (o : Option Event). records_if o s.rows) (a.none ∙ sym b.none)
same_added s t it one other keeps (appends a none) (gives_up finished b names) are too =
    absurd (none finished names)
same_added s t it one other keeps (gives_up finished a names) (appends b none) are too =
    absurd (none finished names)

module _ (start : Start) (member : Member) (there : IsIn member (made start)) where
  abbrev lqh : List HostStep → LqhState
  lqh = lqh_after start member

  abbrev first : RowsState
  first = first_rows start member

  abbrev records : List Event → List Redo
  records = records_behind first

  -- as a life begins nothing is in the journal
  pub first_outlet : NobodyStarts start → (lqh []).outlet ≡ outlet_with []
  first_outlet nobody =
      ap (λ (s : hosts.HostBody). (of_host s).lqh.outlet) (ldm_started start nobody member there)
    where
      of_host : hosts.HostBody → ReplicaState
      of_host s = rows_in (no_replica start member) s.parts

  -- the rows are those behind the events
  pub rows_are_behind : (log : List HostStep) (events : List Event) → AreEventsOf start member log events
      → (lqh log).rows ≡ rows_behind first events
  rows_are_behind [] events are = sym (ap (rows_behind first) are)
  rows_are_behind (e ∷ log) events (event, (older, (is, of, step))) =
      goes_rows (lqh log) (lqh (e ∷ log)) _ event (goes _ _ _ _ event step)
      ∙ ap (changed_if event) (rows_are_behind log older of) ∙ sym (rows_more first event older)
      ∙ sym (ap (rows_behind first) is)

  -- their journal keeps its bytes
  pub keeps_bytes : NobodyStarts start → (log : List HostStep) (events : List Event)
      → AreEventsOf start member log events
      → (lqh log).outlet.keeps ≡ true
  keeps_bytes nobody [] events are = ap (λ (o : OutletState). o.keeps) (first_outlet nobody)
  keeps_bytes nobody (e ∷ log) events (event, (older, (is, of, step))) =
      goes_keeps (lqh log) (lqh (e ∷ log)) _ event (goes _ _ _ _ event step) (keeps_bytes nobody log older of)

  -- the records behind one event more, or none
  pub records_on : (log : List HostStep) (events : List Event) (event : Option Event)
      → AreEventsOf start member log events
      → records (option_to_list event ++ events) ≡ records_if event (lqh log).rows ++ records events
  records_on log events event of =
      records_more first event events
      ∙ ap (λ (rows : RowsState). records_if event rows ++ records events) (sym (rows_are_behind log events of))

  -- a step adds the same records to the same
  same_on : NobodyStarts start
      → (e : HostStep) (log : List HostStep) (it : Todo) (event other : Option Event) (older others : List Event)
      → AreEventsOf start member log older → AreEventsOf start member log others
      → Goes (lqh log) (lqh (e ∷ log)) it event → Goes (lqh log) (lqh (e ∷ log)) it other
      → AreRecords (records (option_to_list event ++ older)) → AreRecords (records (option_to_list other ++ others))
      → (AreRecords (records older) → AreRecords (records others) → records older ≡ records others)
      → records (option_to_list event ++ older) ≡ records (option_to_list other ++ others)
  same_on nobody e log it event other older others of of_others made by are too before =
      records_on log older event of
      ∙ ap (λ front. front ++ records older) added
      ∙ ap (λ back. records_if other (lqh log).rows ++ back)
      (before (older_records (records_if event (lqh log).rows) (records older) all)
      (older_records (records_if other (lqh log).rows) (records others) all_others))
      ∙ sym (records_on log others other of_others)
    where
      all : AreRecords (records_if event (lqh log).rows ++ records older)
      all = subst AreRecords (records_on log older event of) are

      all_others : AreRecords (records_if other (lqh log).rows ++ records others)
      all_others = subst AreRecords (records_on log others other of_others) too

      added : records_if event (lqh log).rows ≡ records_if other (lqh log).rows
      added =
          same_added (lqh log) (lqh (e ∷ log)) it event other (keeps_bytes nobody log older of) made by
          (newer_records (records_if event (lqh log).rows) (records older) all)
          (newer_records (records_if other (lqh log).rows) (records others) all_others)

  -- a log has one list of records, whatever events tell it
  pub same_records : NobodyStarts start → (log : List HostStep) (one other : List Event)
      → AreEventsOf start member log one
      → AreEventsOf start member log other → AreRecords (records one) → AreRecords (records other)
      → records one ≡ records other
  same_records nobody [] one other a b are too = ap records (a ∙ sym b)
  same_records nobody (e ∷ log) one other (event, (older, (is, of, step))) (event2, (older2, (is2, of2, step2))) are too
      =
      ap records is
      ∙ same_on nobody e log _ event event2 older older2 of of2 (goes _ _ _ _ event step) (goes _ _ _ _ event2 step2)
      (subst (λ events. AreRecords (records events)) is are)
      (subst (λ events. AreRecords (records events)) is2 too) (same_records nobody log older older2 of of2)
      ∙ sym (ap records is2)
