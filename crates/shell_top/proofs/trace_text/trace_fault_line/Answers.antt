use Rattle.std.proofs.Common.{◌≡◌, append_assoc, string_bytes, subst, sym}
use Rattle.shell_top.specs.TraceText.{trace_fault_line}
use Rattle.shell_top.proofs.trace_text.trace_fault_line.Goals as goal

pub returns-in_ok-format-in-NotStep : goal.returns-in_ok-format-in-NotStep
returns-in_ok-format-in-NotStep c =
    subst (λ fault. string_bytes c.in_ok-format-in-NotStep.field-0 ≡ trace_fault_line fault) (sym c.in-NotStep.is)
    (simp append_assoc c.in_ok-format-in-NotStep.ensures.ok)
