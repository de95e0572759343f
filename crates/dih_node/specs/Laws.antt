-- What is true of the epochs that a node gives, whatever comes, in whatever order.
use Rattle.std.specs.Prelude.{◌≡◌, ◌≤◌, ◌<◌, ℕ, false, List, [], ◌∷◌, ◌++◌}
use Rattle.std.specs.List.{All, AllPairs, flat_map}
use Rattle.sig_core.specs.declared.mark.Mark.{Mark}
use Rattle.sig_core.specs.declared.mark.Mark.TheVariants.{Decided}
use Rattle.sig_core.specs.declared.signal.Body.{Body}
use Rattle.sig_core.specs.declared.signal.Body.TheVariants.{Epoch}
use Rattle.sig_core.specs.declared.signal.Signal.{Signal}
use Rattle.sig_core.specs.declared.signal.epoch.EpochSignal.TheVariants.{GcpCommit, GcpNodeFinish}
use Rattle.sig_core.specs.Step.{Step}
use Rattle.dih_node.specs.Dih.{dih_row, fresh_dih}
use Rattle.dih_node.specs.Orders.{install_row}
use Rattle.dih_node.specs.State.{DihState, gives, is_unfinished}

-- the block takes a signal, or its host installs the view of a number
pub data Event : Type 0 where
  Takes : Signal → Event
  Installs : ℕ → Event

abbrev pub step_at : DihState → Event → Step DihState
step_at s (Takes x) = dih_row s x
step_at s (Installs number) = install_row s number

-- the epoch that a mark tells as given
abbrev pub given_by : Mark → List ℕ
given_by (Decided tx epoch) = epoch ∷ []
given_by mark = []

-- those given at a step, by its marks
abbrev pub given_at : Step DihState → List ℕ
given_at step = flat_map given_by step.effects.marks

-- those given along a list of events, in order
abbrev pub given_along : DihState → List Event → List ℕ
given_along s [] = []
given_along s (e ∷ events) = given_at (step_at s e) ++ given_along (step_at s e).state events

-- an order to commit an epoch names a greater one to follow
abbrev pub NamesGreater : Body → Type 0
NamesGreater (Epoch (GcpCommit epoch next)) = epoch < next
NamesGreater body = Unit {0}

abbrev pub AllNameGreater : List Event → Type 0
AllNameGreater [] = Unit {0}
AllNameGreater (Takes x ∷ events) = NamesGreater x.body × AllNameGreater events
AllNameGreater (Installs number ∷ events) = AllNameGreater events

-- the epochs that a node gives never fall
abbrev pub EpochsNeverFall : Type 0
EpochsNeverFall =
    (s : DihState) (events : List Event) → AllNameGreater events
    → AllPairs (λ one other. one ≤ other) (given_along s events)

-- none is given while an epoch is prepared, or a view is promised that isn't installed
abbrev pub NoneIsGivenWhilePrepared : Type 0
NoneIsGivenWhilePrepared = (s : DihState) (e : Event) → gives s ≡ false → given_at (step_at s e) ≡ []

-- the epoch whose end a signal reports
abbrev pub report_of : Body → List ℕ
report_of (Epoch (GcpNodeFinish epoch)) = epoch ∷ []
report_of body = []

-- those reported at a step
abbrev pub reports_at : Step DihState → List ℕ
reports_at step = flat_map (λ send. report_of send.body) step.effects.sends

-- the end of an epoch, reported by a node that is in this state then: it gives a greater one, and no transaction with
-- this epoch or one before is counted any more
pub record IsTrueOf (s : DihState) (epoch : ℕ) : Type 0 where
  pub current : epoch < s.current
  pub finished : is_unfinished s.counted epoch ≡ false

-- each report along a list of events is true
abbrev pub ReportsHold : DihState → List Event → Type 0
ReportsHold s [] = Unit {0}
ReportsHold s (e ∷ events) =
    All (IsTrueOf (step_at s e).state) (reports_at (step_at s e)) × ReportsHold (step_at s e).state events

-- and so is each of a node from its beginning
abbrev pub ReportsAreTrue : Type 0
ReportsAreTrue =
    (node number current start : ℕ) (events : List Event) → AllNameGreater events
    → ReportsHold (fresh_dih node number current start) events
