-- Which part of a node runs a block.
use Rattle.sig_core.specs.declared.place.BlockId.{BlockId}
use Rattle.sig_core.specs.declared.place.BlockId.TheVariants as block
use Rattle.sig_core.specs.declared.place.Part.{Part}
use Rattle.sig_core.specs.declared.place.Part.TheVariants.{Main, Tc, Ldm}

-- the coordinator, takeover and epochs; the rows, the disk, subscriptions and backups; all others
abbrev pub part_of : BlockId → Part
part_of block.Tc = Tc
part_of block.Takeover = Tc
part_of block.Dih = Tc
part_of block.Lqh = Ldm
part_of block.Files = Ldm
part_of block.Suma = Ldm
part_of block.Backup = Ldm
part_of _ = Main
