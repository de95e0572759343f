-- A record has as many bytes as its size says, so a journal has to give out no more than it has used.
use Rattle.std.proofs.Common.{◌≤◌, ◌+◌, Bool, true, false, length, arith}
use Rattle.std.proofs.lemmas.List.{length-append}
use Rattle.sig_core.proofs.RedoLemmas.{bytes_size}
use Rattle.sig_core.specs.declared.redo.Redo.{Redo}
use Rattle.sig_core.specs.declared.redo.Redo.TheVariants as redo
use Rattle.sig_core.specs.Journal.{OutletState, behind, behind_by}
use Rattle.sig_core.specs.Redo.{bytes_of, size_of}

pub left_behind : (o : OutletState) (r : Redo) → length (behind o r).left ≤ length o.left + size_of r
left_behind o r = by o.keeps
  where
    by : (keeps : Bool) → length (behind_by keeps o r).left ≤ length o.left + size_of r
    by true = omega (arith, length-append o.left (bytes_of r), bytes_size r)
    by false = omega arith
