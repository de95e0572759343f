-- Where the blocks are.
use Rattle.std.specs.Prelude.{ℕ}
use Rattle.sig_core.specs.declared.member.TxId.{TxId}
use Rattle.sig_core.specs.declared.place.BlockId.TheVariants.{Api, Arbiter, Qmgr, Tc, Takeover, Dih, GcpMaster, Lqh}
use Rattle.sig_core.specs.declared.place.BlockId.TheVariants.{Copy, Files, Suma, Backup}
use Rattle.sig_core.specs.declared.place.Place.{Place}

-- the interface to clients, on the shell host
abbrev pub client : Place
client = record { node = 0; block = Api }

-- the block that grants views, on the shell host
abbrev pub arbiter : Place
arbiter = record { node = 0; block = Arbiter }

-- the membership of a node
abbrev pub membership : ℕ → Place
membership node = record { node = node; block = Qmgr }

-- the coordinator of a node
abbrev pub coordinator : ℕ → Place
coordinator node = record { node = node; block = Tc }

-- the coordinator of a transaction
abbrev pub coordinator_of : TxId → Place
coordinator_of tx = coordinator tx.tc

-- the block of a node that gives epochs
abbrev pub epochs : ℕ → Place
epochs node = record { node = node; block = Dih }

-- the rows of a node
abbrev pub rows_of : ℕ → Place
rows_of node = record { node = node; block = Lqh }

-- the block of a node that ends the transactions of coordinators that failed
abbrev pub takeover : ℕ → Place
takeover node = record { node = node; block = Takeover }

-- the block of a node that drives checkpoints
abbrev pub checkpoints : ℕ → Place
checkpoints node = record { node = node; block = GcpMaster }

-- the block of a node that copies rows to a node that starts
abbrev pub copying : ℕ → Place
copying node = record { node = node; block = Copy }

-- the disk of a node
abbrev pub files : ℕ → Place
files node = record { node = node; block = Files }

-- the block of a node that tells subscribers what changed
abbrev pub subscriptions : ℕ → Place
subscriptions node = record { node = node; block = Suma }

-- the block of a node that takes backups
abbrev pub backups : ℕ → Place
backups node = record { node = node; block = Backup }
