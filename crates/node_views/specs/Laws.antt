-- What is true of the steps of a host, whatever comes.
use Rattle.std.specs.Prelude.{◌≡◌, Bool, true, false, is_some, nat_lt, [], None}
use Rattle.std.specs.List.{list_any}
use Rattle.sig_core.specs.declared.member.HostId.{HostId}
use Rattle.sig_core.specs.declared.signal.Body.{Body}
use Rattle.sig_core.specs.declared.signal.Body.TheVariants.{Host}
use Rattle.sig_core.specs.declared.signal.Signal.{Signal}
use Rattle.sig_core.specs.declared.signal.host.HostSignal.TheVariants.{Kill, Cut, Closed}
use Rattle.sig_core.specs.declared.view.View.{View}
use Rattle.sig_core.specs.Step.{stay}
use Rattle.lqh_saver.specs.declared.stage.Stage.TheVariants.{Resting}
use Rattle.lqh_saver.specs.declared.stage.Todo.TheVariants.{Nothing}
use Rattle.node_views.specs.Blocks.{stop_at}
use Rattle.node_views.specs.Parts.{ldm_entered}
use Rattle.node_views.specs.Row.{blocks_row, host_row, hushed, is_barred, is_cut, is_stop}
use Rattle.node_views.specs.WellFormed.{is_well_formed}
use Rattle.node_views.specs.declared.host_body.HostBody as hosts
use Rattle.node_views.specs.declared.ldm_part.LdmPart.{LdmPart}

-- signals that hosts handle themselves
abbrev pub is_own : Body → Bool
is_own (Host (Kill after)) = true
is_own (Host (Cut node first)) = true
is_own (Host (Closed cause)) = true
is_own body = false

-- nothing stands between the signal and the blocks of the host
pub record IsCalm (s : hosts.HostBody) (x : Signal) : Type 0 where
  pub fine : is_well_formed s.standing.shape x ≡ true
  pub lives : s.standing.left ≡ None
  pub same : nat_lt s.standing.view.number x.view.number ≡ false
  pub passes : is_barred s x ≡ false
  pub theirs : is_own x.body ≡ false

-- then the step is the blocks'
abbrev pub CalmHostsLeaveItToBlocks : Type 0
CalmHostsLeaveItToBlocks =
    (s : hosts.HostBody) (x : Signal) → IsCalm s x
    → host_row s x ≡ hushed (is_some (stop_at s.parts x)) (blocks_row s x)

-- a step that stops its host sends nothing
abbrev pub StoppingHostsAreSilent : Type 0
StoppingHostsAreSilent =
    (s : hosts.HostBody) (x : Signal) → list_any is_stop (host_row s x).effects.marks ≡ true
    → (host_row s x).effects.sends ≡ []

-- a signal that isn't well formed changes nothing
abbrev pub MalformedSignalsChangeNothing : Type 0
MalformedSignalsChangeNothing =
    (s : hosts.HostBody) (x : Signal) → is_well_formed s.standing.shape x ≡ false → host_row s x ≡ stay s

-- a host that was cut off stays so
abbrev pub CutHostsStayCut : Type 0
CutHostsStayCut =
    (s : hosts.HostBody) (x : Signal) (host : HostId) → is_cut s.standing host ≡ true
    → is_cut (host_row s x).state.standing host ≡ true

-- where a view is installed a local checkpoint is given up, and a disk has nothing to do of it
abbrev pub InstalledViewsGiveWalksUp : Type 0
InstalledViewsGiveWalksUp =
    (p : LdmPart) (view : View)
    → ((ldm_entered p view).state.saver.stage ≡ Resting) × ((ldm_entered p view).state.saver.todo ≡ Nothing)
