-- A joining is driven, signal by signal: a global checkpoint, the end of what was under way in the group, the copying
-- of the fragments, the first save of the member, another global checkpoint, and its promotion.
use Rattle.std.specs.Prelude.{ℕ, ◌-◌, ◌==◌, ◌&&◌, Bool, true, false, nat_lt, length, Option}
use Rattle.sig_core.specs.declared.member.Member.{Member}
use Rattle.sig_core.specs.declared.member.TxId.{TxId}
use Rattle.sig_core.specs.declared.place.BlockId.TheVariants as block
use Rattle.sig_core.specs.declared.signal.Body.TheVariants.{Epoch, Joining}
use Rattle.sig_core.specs.declared.signal.epoch.EpochSignal.TheVariants.{GcpReq}
use Rattle.sig_core.specs.declared.signal.joining.JoiningSignal.TheVariants.{CopySaveReq, DrainWait, PromoteReq}
use Rattle.sig_core.specs.Place.{checkpoints, client, membership, rows_of}
use Rattle.sig_core.specs.Step.{Step, sending, sends_only, stay}
use Rattle.frag_map.specs.Replicas.{is_member}
use Rattle.copy_block.specs.declared.sends.TheConstants.{SENDS}
use Rattle.copy_block.specs.declared.stage.Joiner.{Joiner}
use Rattle.copy_block.specs.declared.stage.Stage.{Stage}
use Rattle.copy_block.specs.declared.stage.Stage.TheVariants.{Resting, FirstCheckpoint, Draining, Fragments, Saving}
use Rattle.copy_block.specs.declared.stage.Stage.TheVariants.{LastCheckpoint, Promoting}
use Rattle.copy_block.specs.Sends.{drain_sends, is_full_beside, request_effects, request_sends, requests_left}
use Rattle.copy_block.specs.State.{CopyState, come_to, with_left}

-- a global checkpoint is asked for
abbrev pub asking : CopyState → Stage → Step CopyState
asking s stage = sending (come_to s stage 0) (checkpoints s.node) (Epoch (GcpReq block.Copy))

abbrev pub order_by : CopyState → Joiner → Stage → Step CopyState
order_by s joiner Resting = asking s (FirstCheckpoint joiner)
order_by s joiner _ = stay s

-- A joining is ordered. It begins where none is under way; else the next view brings the order again.
unfoldable pub order_row : CopyState → Member → Option ℕ → Step CopyState
order_row s member own = order_by s (record { member = member; own = own }) s.stage

-- the member is to save its rows
abbrev pub saving : CopyState → Joiner → Step CopyState
saving s joiner = sending (come_to s (Saving joiner) 0) (rows_of joiner.member.node) (Joining CopySaveReq)

abbrev pub copying_if : CopyState → Joiner → ℕ → Bool → Step CopyState
copying_if s joiner awaited true = saving s joiner
copying_if s joiner awaited false = record {
  state = come_to s (Fragments joiner awaited) (requests_left s.layout joiner 0);
  effects = request_effects s.node s.layout joiner 0;
}

-- the primary of each of its fragments is to copy it; where it has none, all is copied
unfoldable pub requesting : CopyState → Joiner → Step CopyState
requesting s joiner =
    copying_if s joiner (length (request_sends s.layout joiner)) (length (request_sends s.layout joiner) == 0)

abbrev pub draining_if : CopyState → Joiner → ℕ → Bool → Step CopyState
draining_if s joiner awaited true = requesting s joiner
draining_if s joiner awaited false = record {
  state = come_to s (Draining joiner awaited) 0;
  effects = sends_only (drain_sends s.layout joiner.member);
}

-- each full member of its group is to tell when what is under way there has ended
unfoldable pub draining : CopyState → Joiner → Step CopyState
draining s joiner =
    draining_if s joiner (length (drain_sends s.layout joiner.member))
    (length (drain_sends s.layout joiner.member) == 0)

-- the member is to become full
abbrev pub promoting : CopyState → Joiner → Step CopyState
promoting s joiner =
    sending (come_to s (Promoting joiner) 0) (membership s.node) (Joining (PromoteReq joiner.member))

abbrev pub closed_by : CopyState → Stage → Step CopyState
closed_by s (FirstCheckpoint joiner) = draining s joiner
closed_by s (LastCheckpoint joiner) = promoting s joiner
closed_by s _ = stay s

-- the global checkpoint that was asked for has ended
unfoldable pub closed_row : CopyState → Step CopyState
closed_row s = closed_by s s.stage

abbrev pub drained_if : CopyState → Joiner → ℕ → Bool → Step CopyState
drained_if s joiner awaited true = stay (come_to s (Draining joiner (awaited - 1)) s.left)
drained_if s joiner awaited false = requesting s joiner

abbrev pub drained_from : CopyState → Joiner → ℕ → Bool → Step CopyState
drained_from s joiner awaited true = drained_if s joiner awaited (nat_lt 1 awaited)
drained_from s joiner awaited false = stay s

abbrev pub drained_by : CopyState → Member → Stage → Step CopyState
drained_by s from (Draining joiner awaited) =
    drained_from s joiner awaited (is_full_beside s.layout joiner.member from)
drained_by s from _ = stay s

-- a full member of the group tells that what was under way there has ended, the last one or not
unfoldable pub drained_row : CopyState → Member → Step CopyState
drained_row s from = drained_by s from s.stage

-- it, or the rows that are copied, wait for a transaction: the client is told
abbrev pub wait_row : CopyState → TxId → Step CopyState
wait_row s tx = sending s client (Joining (DrainWait tx))

-- something of the list of requests is left, from this place on
abbrev pub is_left : CopyState → ℕ → Bool
is_left s at = nat_lt 0 at && (at == s.left && nat_lt at SENDS)

abbrev pub go_on_by : CopyState → ℕ → Bool → Stage → Step CopyState
go_on_by s at true (Fragments joiner awaited) = record {
  state = with_left s (requests_left s.layout joiner at);
  effects = request_effects s.node s.layout joiner at;
}
go_on_by s at _ _ = stay s

-- the primaries that weren't asked yet are, from a place on; another place than the one that is left does nothing
unfoldable pub go_on_row : CopyState → ℕ → Step CopyState
go_on_row s at = go_on_by s at (is_left s at) s.stage

abbrev pub copied_if : CopyState → Joiner → ℕ → Bool → Step CopyState
copied_if s joiner awaited true = stay (come_to s (Fragments joiner (awaited - 1)) s.left)
copied_if s joiner awaited false = saving s joiner

abbrev pub copied_by : CopyState → Stage → Step CopyState
copied_by s (Fragments joiner awaited) = copied_if s joiner awaited (nat_lt 1 awaited)
copied_by s _ = stay s

-- a fragment is copied, the last one or not
unfoldable pub copied_row : CopyState → Step CopyState
copied_row s = copied_by s s.stage

abbrev pub saved_if : CopyState → Joiner → Bool → Step CopyState
saved_if s joiner true = asking s (LastCheckpoint joiner)
saved_if s joiner false = stay s

abbrev pub saved_by : CopyState → Member → Stage → Step CopyState
saved_by s from (Saving joiner) = saved_if s joiner (is_member from joiner.member)
saved_by s from _ = stay s

-- the member that begins anew has saved its rows
unfoldable pub saved_row : CopyState → Member → Step CopyState
saved_row s from = saved_by s from s.stage
