-- What the journal of a member's rows has.
use Rattle.std.specs.Prelude.{◌≡◌, true, List, [], ◌∷◌, ◌++◌, Option, option_to_list}
use Rattle.redo_log.specs.Replaying.{AreRecords, log_bytes}
use Rattle.sig_core.specs.declared.member.Member.{Member}
use Rattle.sig_core.specs.declared.redo.Redo.{Redo}
use Rattle.sig_core.specs.Journal.{OutletState}
use Rattle.sig_core.specs.Rows.{RowsState}
use Rattle.local_ckpt.specs.Events.{Event}
use Rattle.lqh_block.specs.State.{LqhState}
use Rattle.request_laws.specs.Blocks.{rows_after, saving_after}
use Rattle.world_core.specs.Start.{Start}
use Rattle.world_core.specs.Steps.{HostStep}
use Rattle.journal_laws.specs.Events.{records_behind}
use Rattle.journal_laws.specs.Saver.{IsRestOf, IsStepBy, todo_at}

-- a journal that has given out nothing, and has the bytes of these records, the newest first
abbrev pub outlet_with : List Redo → OutletState
outlet_with redo = record { keeps = true; parity = 0; flushed = 0; left = log_bytes redo }

module _ (start : Start) (member : Member) where
  abbrev pub lqh_after : List HostStep → LqhState
  lqh_after log = (rows_after start member log).lqh

  -- the rows with which the member begins
  abbrev pub first_rows : RowsState
  first_rows = (lqh_after []).rows

  -- these are the events of its rows in a log of their host, the newest first
  abbrev pub AreEventsOf : List HostStep → List Event → Type 0
  AreEventsOf [] events = events ≡ []
  AreEventsOf (e ∷ log) events =
      (event : Option Event) × ((older : List Event) × ((events ≡ option_to_list event ++ older)
      × AreEventsOf log older
      × IsStepBy (saving_after start member log) (saving_after start member (e ∷ log)) e.step.taken.body
      (todo_at start member e log) event))

  -- its journal has the records of these events, each of which has bytes, from a position on
  pub record HasRecords (log : List HostStep) (events : List Event) : Type 0 where
    pub events_of : AreEventsOf log events
    pub records : AreRecords (records_behind first_rows events)
    pub outlet : IsRestOf (lqh_after log).outlet (outlet_with (records_behind first_rows events))
