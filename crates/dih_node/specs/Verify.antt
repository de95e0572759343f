-- Transactions are given epochs.
use Rattle.std.specs.Prelude.{ℕ, ◌+◌, ◌==◌, Bool, true, false, nat_lt, [], ◌∷◌, ◌++◌, length, position, remove}
use Rattle.std.specs.Prelude.{slice_get, Option, None, Some}
use Rattle.sig_core.specs.declared.mark.Mark.TheVariants.{Decided}
use Rattle.sig_core.specs.declared.member.TxId.{TxId}
use Rattle.sig_core.specs.declared.signal.Body.TheVariants.{Epoch}
use Rattle.sig_core.specs.declared.signal.epoch.EpochSignal.TheVariants.{DiVerifyConf, GcpNodeFinish}
use Rattle.sig_core.specs.Place.{checkpoints, coordinator}
use Rattle.sig_core.specs.Same.{same_tx}
use Rattle.sig_core.specs.Step.{Step, nothing, and_mark, and_send, joined, sends_only, sending, stay}
use Rattle.dih_node.specs.declared.dih.Counted.{Counted}
use Rattle.dih_node.specs.declared.dih.Report.{Report}
use Rattle.dih_node.specs.declared.dih.TheConstants.{TRANSACTIONS}
use Rattle.dih_node.specs.State.{DihState, gives, go_on_if, is_unfinished}

-- a transaction is decided: it has the current epoch, and is counted
unfoldable pub given : DihState → TxId → Step DihState
given s tx =
    record {
      state = record s { counted = s.counted ++ record { tx = tx; epoch = s.current } ∷ [] };
      effects =
          and_send (and_mark nothing (Decided tx s.current)) (coordinator s.node) (Epoch (DiVerifyConf tx s.current));
    }

-- where no epoch is given the request is held
abbrev pub verify_if : DihState → TxId → Bool → Step DihState
verify_if s tx true = given s tx
verify_if s tx false = stay (record s { held = s.held ++ tx ∷ [] })

-- there are as many as a coordinator keeps
abbrev pub take_if : DihState → TxId → Bool → Step DihState
take_if s tx true = verify_if s tx (gives s)
take_if s tx false = stay s

-- a transaction asks for an epoch
unfoldable pub verify_row : DihState → TxId → Step DihState
verify_row s tx = take_if s tx (nat_lt (length s.counted + length s.held) TRANSACTIONS)

-- the oldest request that is held is served, and then the next one
abbrev pub serve_one : DihState → Step DihState → Step DihState
serve_one s step =
    record {
      state = step.state;
      effects = joined step.effects (sends_only (go_on_if s.node (nat_lt 0 (length s.held))));
    }

abbrev pub serve_by : DihState → Option TxId → Step DihState
serve_by s None = stay s
serve_by s (Some tx) = serve_one (record s { held = remove s.held 0 }) (given (record s { held = remove s.held 0 }) tx)

abbrev pub serve_if : DihState → Bool → Bool → Step DihState
serve_if s true true = serve_by s (slice_get s.held 0)
serve_if s true false = stay s
serve_if s false _ = stay s

-- it goes on with the requests that are held, unless another view was installed since
unfoldable pub serve_row : DihState → ℕ → Step DihState
serve_row s number = serve_if s (number == s.number) (gives s)

-- the order that is carried out is reported when nothing up to its epoch is counted any more
abbrev pub report_if : DihState → Report → Bool → Step DihState
report_if s order true = stay s
report_if s order false = sending (record s { order = None }) (checkpoints order.to) (Epoch (GcpNodeFinish order.epoch))

abbrev pub report_by : DihState → Option Report → Step DihState
report_by s None = stay s
report_by s (Some order) = report_if s order (is_unfinished s.counted order.epoch)

unfoldable pub reported : DihState → Step DihState
reported s = report_by s s.order

-- a transaction ends: it leaves the count, or those that are held
abbrev pub is_of : TxId → Counted → Bool
is_of tx one = same_tx tx one.tx

abbrev pub held_by : DihState → Option ℕ → DihState
held_by s None = s
held_by s (Some at) = record s { held = remove s.held at }

abbrev pub ended_by : DihState → TxId → Option ℕ → DihState
ended_by s tx None = held_by s (position (same_tx tx) s.held)
ended_by s tx (Some at) = record s { counted = remove s.counted at }

unfoldable pub ended : DihState → TxId → DihState
ended s tx = ended_by s tx (position (is_of tx) s.counted)

unfoldable pub end_row : DihState → TxId → Step DihState
end_row s tx = reported (ended s tx)
