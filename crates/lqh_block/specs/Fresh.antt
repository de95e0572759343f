-- A journal as a life begins.
use Rattle.std.specs.Prelude.{true, []}
use Rattle.sig_core.specs.Journal.{JournalState, OutletState}

-- it has used no bytes and keeps none free
abbrev pub unused : JournalState
unused = record { used = 0; reserved = 0 }

-- it keeps the bytes of its records, of which there are none yet
abbrev pub no_outlet : OutletState
no_outlet = record { keeps = true; parity = 0; flushed = 0; left = [] }
