-- In which views a coordinator asked for operations of a transaction, and sent its commits.
use Rattle.std.specs.Prelude.{◌||◌, ◌&&◌, ◌==◌, if◌then◌else◌, Bool, false, ℕ, List, [], ◌∷◌}
use Rattle.sig_core.specs.declared.member.Member.{Member}
use Rattle.sig_core.specs.declared.member.TxId.{TxId}
use Rattle.sig_core.specs.declared.signal.Body.{Body}
use Rattle.sig_core.specs.declared.signal.Body.TheVariants.{Chain}
use Rattle.sig_core.specs.declared.signal.chain.ChainSignal.TheVariants.{Commit, LqhKeyReq}
use Rattle.sig_core.specs.Same.{same_tx}
use Rattle.world_core.specs.Start.{Start}
use Rattle.world_core.specs.Steps.{HostStep}
use Rattle.world_views.specs.Machine.{step_after}
use Rattle.view_laws.specs.Runs.{view_after}
use Rattle.moment_laws.specs.Places.{tc_of}
use Rattle.request_laws.specs.Ways.{is_sent}

-- a request of an operation of the transaction, and a commit of a row of it
abbrev pub is_request : TxId → Body → Bool
is_request tx (Chain (LqhKeyReq other work chain at)) = same_tx other tx
is_request tx body = false

abbrev pub is_commit : TxId → Body → Bool
is_commit tx (Chain (Commit other key epoch chain at)) = same_tx other tx
is_commit tx body = false

module _ (start : Start) (member : Member) where
  -- the step sends such a signal from the coordinator's host
  abbrev pub sends_one : (Body → Bool) → List HostStep → HostStep → Bool
  sends_one p log e = is_sent p (step_after start (tc_of start member) log e).effects.sends

  -- the number of the view in which the host stood behind the newest step that sent one; 0 where none did
  abbrev pub last_view : (Body → Bool) → List HostStep → ℕ
  last_view p [] = 0
  last_view p (e ∷ log) =
      if sends_one p log e then (view_after start (tc_of start member) (e ∷ log)).number else last_view p log

  -- one was sent in the view of this number
  abbrev pub was_sent_in : (Body → Bool) → ℕ → List HostStep → Bool
  was_sent_in p number [] = false
  was_sent_in p number (e ∷ log) =
      (sends_one p log e && ((view_after start (tc_of start member) (e ∷ log)).number == number))
      || was_sent_in p number log

  -- the view of the last request of an operation
  abbrev pub asked_in : TxId → List HostStep → ℕ
  asked_in tx log = last_view (is_request tx) log
