use Rattle.sys_restart.proofs.rows.read_rows.Goals as goal

-- bytes that are read are no fault of the disk
pub returns-in-Ok-clause-cause : goal.returns-in-Ok-clause-cause
returns-in-Ok-clause-cause g c =
    c.rows_in_size.ensures.cause (g.D.Disk.faults c.args.disk.now) (g.D.Disk.faults c.read_file.new.disk)
