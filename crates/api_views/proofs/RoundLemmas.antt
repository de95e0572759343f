-- Signals that are sent one after the other.
use Rattle.std.proofs.Common.{◌≡◌, ◌++◌, List, [], append_assoc, arith}
use Rattle.std.proofs.lemmas.List.{append-nil}
use Rattle.sig_core.specs.declared.outs.Outgoing.{Outgoing}
use Rattle.api_views.specs.Rounds.{HasAllRoom}
use Rattle.sig_core.specs.Step.{Effects, HasRoom, joined, sends_only}

-- two lists of signals behind effects are one list behind them
pub joined_twice : (e : Effects) (first second : List Outgoing)
    → joined (joined e (sends_only first)) (sends_only second) ≡ joined e (sends_only (first ++ second))
joined_twice e first second =
    λ i. record {
      sends = append_assoc e.sends first second i;
      marks = append-nil (e.marks ++ []) i;
    }

-- where there is room for a round there is for any other step
pub has_room : (e : Effects) → HasAllRoom e → HasRoom e
has_room e room = record { sends = rw (room.sends) (omega arith); marks = room.marks }
