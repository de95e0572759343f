-- The blocks of a member, as logs leave them.
use Rattle.std.specs.Prelude.{List}
use Rattle.frag_map.specs.Layout.{first_layout}
use Rattle.sig_core.specs.declared.member.Member.{Member}
use Rattle.sig_core.specs.Rows.{no_rows}
use Rattle.lqh_block.specs.Fresh.{no_outlet, unused}
use Rattle.lqh_views.specs.Replica.{fresh_replica}
use Rattle.lqh_views.specs.State.{ReplicaState}
use Rattle.lqh_saver.specs.Saver.{fresh_saver}
use Rattle.lqh_saver.specs.State.{SaverState, SavingState, saving}
use Rattle.tc_views.specs.Coordinator.{fresh_coordinator}
use Rattle.tc_views.specs.State.{CoordinatorState}
use Rattle.takeover_block.specs.State.{TakeoverState, resting}
use Rattle.node_views.specs.declared.parts.Parts.{Parts}
use Rattle.node_views.specs.declared.parts.Parts.TheVariants as part
use Rattle.world_core.specs.Start.{Start}
use Rattle.world_core.specs.Steps.{HostStep}
use Rattle.world_views.specs.Machine.{after}
use Rattle.moment_laws.specs.Places.{ldm_of, tc_of}

-- the coordinator that a host runs, and its takeover; of a host that runs none, these
abbrev pub coordinator_in : CoordinatorState → Parts → CoordinatorState
coordinator_in other (part.Tc p) = p.coordinator
coordinator_in other parts = other

abbrev pub takeover_in : TakeoverState → Parts → TakeoverState
takeover_in other (part.Tc p) = p.takeover
takeover_in other parts = other

-- the rows that a host runs; of a host that runs none, these
abbrev pub rows_in : ReplicaState → Parts → ReplicaState
rows_in other (part.Ldm p) = p.replica
rows_in other parts = other

-- and their saver
abbrev pub saver_in : SaverState → Parts → SaverState
saver_in other (part.Ldm p) = p.saver
saver_in other parts = other

-- rows of the member, of which there are none
abbrev pub no_replica : Start → Member → ReplicaState
no_replica start member =
    fresh_replica member.node (first_layout start.shape) no_rows unused no_outlet start.epoch

module _ (start : Start) (member : Member) where
  -- the coordinator of a member behind a log of its host
  abbrev pub coordinator_after : List HostStep → CoordinatorState
  coordinator_after log =
      coordinator_in (fresh_coordinator member.node member.start (first_layout start.shape))
      (after start (tc_of start member) log).parts

  abbrev pub takeover_after : List HostStep → TakeoverState
  takeover_after log =
      takeover_in (resting member.node (first_layout start.shape)) (after start (tc_of start member) log).parts

  -- the rows of a member behind a log of their host
  abbrev pub rows_after : List HostStep → ReplicaState
  rows_after log = rows_in (no_replica start member) (after start (ldm_of start member) log).parts

  -- their saver, and both
  abbrev pub saver_after : List HostStep → SaverState
  saver_after log = saver_in (fresh_saver start.start_epoch 0) (after start (ldm_of start member) log).parts

  abbrev pub saving_after : List HostStep → SavingState
  saving_after log = saving (rows_after log) (saver_after log)
