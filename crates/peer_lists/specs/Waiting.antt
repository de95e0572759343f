-- What waits to go on a link.
use Rattle.std.specs.Prelude.{ℕ, Bool, true, false, if◌then◌else◌, ◌==◌, List, [], ◌∷◌, ◌++◌}
use Rattle.sig_core.specs.declared.signal.Signal.{Signal}
use Rattle.world_core.specs.Machine.{one_more}
use Rattle.peer_lists.specs.declared.sending.Sending.{Sending}

-- signals that wait, the oldest first, and how many were sent so far, with those that didn't have to wait
pub record Waiting : Type 0 where
  pub signals : List Signal
  pub numbered : ℕ

abbrev pub nothing_waits : Waiting
nothing_waits = record { signals = []; numbered = 0 }

-- the signal has this number on its link
abbrev pub with_number : ℕ → Signal → Signal
with_number number x = record x { seq = number }

-- one more signal, with the next number, behind the others
abbrev pub behind : Signal → Waiting → Waiting
behind x w = record { signals = w.signals ++ with_number w.numbered x ∷ []; numbered = one_more w.numbered }

-- one more was sent, and dropped
abbrev pub skipped : Waiting → Waiting
skipped w = record { signals = w.signals; numbered = one_more w.numbered }

-- a signal is sent to a host: it waits, or is dropped where that host has shut its link
abbrev pub sent_if : Bool → Signal → Waiting → Waiting
sent_if true x w = skipped w
sent_if false x w = behind x w

-- of these signals those that are for host j are sent to it, one after the other
abbrev pub all_sent : Bool → ℕ → List Sending → Waiting → Waiting
all_sent shut j [] w = w
all_sent shut j (x ∷ xs) w = all_sent shut j xs (if x.to.0 == j then sent_if shut x.signal w else w)
