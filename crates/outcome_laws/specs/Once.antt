-- How often the steps of a host take signals of a kind, and make marks of a kind.
use Rattle.std.specs.Prelude.{◌+◌, ℕ, Bool, List, [], ◌∷◌}
use Rattle.std.specs.List.{count_by}
use Rattle.sig_core.specs.declared.mark.Mark.{Mark}
use Rattle.sig_core.specs.declared.signal.Body.{Body}
use Rattle.tc_block.specs.Complete.{one_if}
use Rattle.world_core.specs.Steps.{HostStep}

abbrev pub takes_in : (Body → Bool) → List HostStep → ℕ
takes_in p [] = 0
takes_in p (e ∷ log) = one_if (p e.step.taken.body) + takes_in p log

abbrev pub marks_in : (Mark → Bool) → List HostStep → ℕ
marks_in p [] = 0
marks_in p (e ∷ log) = count_by p e.step.marks + marks_in p log
