-- Effects of three blocks, one behind the other.
use Rattle.std.proofs.Common.{◌≡◌, [], ◌++◌, append_assoc, ap, ◌∙◌}
use Rattle.std.proofs.lemmas.List.{append-nil}
use Rattle.sig_core.specs.Step.{Effects, joined, nothing}

-- where the second has none
pub joined_thrice : (before first third : Effects)
    → joined (joined (joined before first) nothing) third ≡ joined before (joined first third)
joined_thrice before first third =
    let sends : ((before.sends ++ first.sends) ++ []) ++ third.sends ≡ before.sends ++ (first.sends ++ third.sends) =
    ap (λ s. s ++ third.sends) (append-nil (before.sends ++ first.sends))
    ∙ append_assoc before.sends first.sends third.sends in
    let marks : ((before.marks ++ first.marks) ++ []) ++ third.marks ≡ before.marks ++ (first.marks ++ third.marks) =
    ap (λ s. s ++ third.marks) (append-nil (before.marks ++ first.marks))
    ∙ append_assoc before.marks first.marks third.marks in
    cc
