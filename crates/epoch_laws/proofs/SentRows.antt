-- The rows of a node send no order of epochs, whatever they take, and tell nothing of epochs: what they don't know is
-- 0.
use Rattle.std.proofs.Common.{◌≡◌, true, false, List, refl}
use Rattle.run_theory.specs.Lists.{Each}
use Rattle.sig_core.specs.declared.outs.Outgoing.{Outgoing}
use Rattle.sig_core.specs.declared.signal.Body.{Body}
use Rattle.sig_core.specs.declared.signal.Body.TheVariants.{Epoch}
use Rattle.sig_core.specs.declared.signal.Signal.{Signal}
use Rattle.sig_core.specs.declared.signal.epoch.EpochSignal.TheVariants.{GcpStateConf}
use Rattle.sig_core.specs.Step.{Step}
use Rattle.lqh_views.specs.Replica.{replica_row}
use Rattle.lqh_views.specs.State.{ReplicaState}
use Rattle.lqh_views.specs.Words.{is_row_word}
use Rattle.lqh_views.proofs.Walk.{replica_tells_each}
use Rattle.epoch_laws.proofs.SentNone.{is_order}

-- of epochs it tells nothing, and orders none
abbrev pub IsOfRowsBy : Body → Type 0
IsOfRowsBy (Epoch (GcpStateConf current prepared next closed saved durable)) = current ≡ 0
IsOfRowsBy body = is_order body ≡ false

abbrev pub IsOfRows : Outgoing → Type 0
IsOfRows send = IsOfRowsBy send.body

abbrev pub AreOfRows : List Outgoing → Type 0
AreOfRows sends = Each IsOfRows sends

abbrev pub SendsOfRows : {S : Type 0} → Step S → Type 0
SendsOfRows step = AreOfRows step.effects.sends

words : (body : Body) → is_row_word body ≡ true → IsOfRowsBy body
words (Epoch signal) is = absurd cc
words body is = refl

pub replica_tell : (s : ReplicaState) (x : Signal) → SendsOfRows (replica_row s x)
replica_tell s x =
    replica_tells_each s x IsOfRowsBy words (record {
      promises = λ proposal is. refl;
      closes = λ epoch is. refl;
      saves = λ epoch is. refl;
      states = λ is. refl;
      tells_committed = λ r under_way at one there is. refl;
      tells_prepared = λ r under_way at one there is. refl;
      tells_marker = λ r under_way at m there. refl;
      reports_on = λ r under_way. refl;
      ends = λ r under_way. refl;
    })
