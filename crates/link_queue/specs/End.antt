-- The ends of a link, as contracts see them.
use Rattle.std.specs.Prelude.{◌≡◌, ℕ, List, ◌++◌, ⊤}
use Rattle.atomic_table.specs.Seated.{TableId}
use Rattle.crossbeam_queue.specs.Fifo.{Held}
use Rattle.sig_core.specs.declared.signal.Signal.{Signal}
use Rattle.link_queue.specs.declared.rule.TheConstants.{LINK_SIGNALS}

-- an end of a link: of which link, from which host to which, and the signals that went through this end, the first one
-- first
pub record End : Type 0 where
  pub link : TableId
  pub from : ℕ
  pub to : ℕ
  pub signals : List Signal

-- the header says that this host sent it
abbrev pub IsSentBy : ℕ → Signal → Type 0
IsSentBy host signal = signal.from.0 ≡ host

-- at one moment the queue was full, and held the newest of the signals that were sent
abbrev pub WasFull : List Signal → Type 0
WasFull sent = Held LINK_SIGNALS (λ held. (taken : List Signal) × (sent ≡ taken ++ held))

-- at one moment the queue held nothing
abbrev pub WasEmpty : Type 0
WasEmpty = Held 0 (λ (held : List Signal). ⊤)
