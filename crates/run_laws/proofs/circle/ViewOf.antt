-- What the logs have of one transaction on one key.
use Rattle.std.proofs.Common.{ℕ, List}
use Rattle.world_core.specs.Steps.{HostStep}
use Rattle.sig_core.specs.declared.member.TxId.{TxId}
use Rattle.world_core.specs.Start.{Start}
use Rattle.key_laws.specs.Records.{found}
use Rattle.run_laws.specs.Circle.{at_host, at_primary}
use Rattle.run_laws.proofs.circle.View.{View}
use Rattle.run_laws.proofs.circle.OthersStay.{waits_of}

abbrev pub view_of : Start → (ℕ → List HostStep) → TxId → List ℕ → View
view_of start logs tx key =
    record {
      made = (at_primary start logs key).made tx;
      ended = (at_primary start logs key).ended tx;
      rec = λ h. found tx (at_host start logs key h).cell.pending;
      waits = λ h. waits_of tx (at_host start logs key h);
    }
