use Rattle.std.proofs.Common.{◌≡◌, subst, sym}
use Rattle.std.specs.Prelude.{IfOk, string_bytes}
use Rattle.shell_top.specs.Text.{fault_line}
use Rattle.shell_top.proofs.text.opening_line.Goals as goal

pub returns-in-DiskFault : goal.returns-in-DiskFault
returns-in-DiskFault c =
    subst (λ ending. IfOk c.disk_line.result (λ line. string_bytes line ≡ fault_line ending)) (sym c.in-DiskFault.is)
    (c.disk_line.ensures c.in-DiskFault.count)
