-- Effects behind one another.
use Rattle.std.proofs.Common.{◌≡◌, List, [], ◌++◌, append_assoc}
use Rattle.std.proofs.lemmas.List.{append-nil}
use Rattle.sig_core.specs.declared.outs.Outgoing.{Outgoing}
use Rattle.sig_core.specs.Step.{Effects, joined, sends_only}

-- signals that stand behind the effects of a step
pub joined-sends_only : (before step : Effects) (sends : List Outgoing)
    → joined (joined before step) (sends_only sends) ≡ joined before (record {
      sends = step.sends ++ sends;
      marks = step.marks;
    })
joined-sends_only before step sends =
    let behind : (before.sends ++ step.sends) ++ sends ≡ before.sends ++ (step.sends ++ sends) =
    append_assoc before.sends step.sends sends in
    let marks : (before.marks ++ step.marks) ++ [] ≡ before.marks ++ step.marks =
    append-nil (before.marks ++ step.marks) in
    cc

pub ruleset effects = (joined-sends_only)
