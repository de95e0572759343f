-- What one step of a host comes to, whatever it runs: its blocks take the signal behind an installation, or leave it.
-- What it marks and sends is what its blocks do, and so by their words what hosts of a kind never do.
-- No induction but that a host stays of its kind. It stands on the walks of node_views and world_views.
pub mod CoordinatorSends
pub mod Counted
pub mod DecidersGo
pub mod Goes
pub mod InstallMarks
pub mod MarkCases
pub mod MarkReasons
pub mod Marks
pub mod OwnTaken
pub mod PartEach
pub mod ReportsOfShell
pub mod RowsGo
pub mod RowsTurn
pub mod SaverGoes
pub mod ShellGoes
pub mod ShellSees
pub mod ShellViews
pub mod SomePasses
pub mod TakeoverDrives
pub mod Words
