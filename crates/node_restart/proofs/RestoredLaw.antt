-- Whatever a crash leaves restores the rows that a disk has.
use Rattle.std.proofs.Common.{◌∙◌, ap, arith}
use Rattle.redo_log.specs.Stored.{files_of}
use Rattle.sysfile_core.specs.declared.place.TheConstants.{CONTROL_FILE}
use Rattle.sysfile_core.specs.Reading.{control_of_file}
use Rattle.sys_restart.proofs.ControlLemmas.{in_use_names}
use Rattle.sys_restart.proofs.StandsLemmas.{left_as}
use Rattle.node_restart.specs.Laws.{RowsAreRestored}
use Rattle.node_restart.proofs.NamedLemmas.{named_restored}

pub restored : RowsAreRestored
restored s least start redo calls image has left =
    let control = files_of calls CONTROL_FILE in
    let names = in_use_names s.control.generation control s.control has.control.in_use in
    named_restored s.control least start redo calls image names has.named left
    (ap (control_of_file s.control.generation)
    (left_as calls image CONTROL_FILE control left (omega arith) has.control.clean)
    ∙ has.control.in_use)
