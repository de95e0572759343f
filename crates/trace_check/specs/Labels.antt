-- Whose logs they are.
use Rattle.std.specs.Prelude.{ℕ, ◌==◌, ◌&&◌, Bool}
use Rattle.sig_core.specs.declared.log.HostLog.{HostLog}

-- a log says that it is that of this host, which was there from the start
abbrev pub is_labelled : ℕ → HostLog → Bool
is_labelled h log = (log.host.0 == h) && (log.made == 0)
