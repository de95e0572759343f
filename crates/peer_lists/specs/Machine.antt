-- What the peers of a host have of its log, in the machine of a cluster that may fail.
use Rattle.std.specs.Prelude.{◌≡◌, ◌≢◌, ℕ, true, false, List, [], ◌∷◌, ◌++◌, map, reverse, Some}
use Rattle.run_theory.specs.Links.{sent}
use Rattle.run_theory.specs.Lists.{IsPast}
use Rattle.world_core.specs.Right.{arriving}
use Rattle.world_core.specs.Start.{Start, made}
use Rattle.world_core.specs.Steps.{Addressed, HostStep}
use Rattle.world_views.specs.declared.sender.Sender.{Sender}
use Rattle.world_views.specs.Machine.{after, machine, routed_after, sender, sent_count}
use Rattle.world_views.specs.Sending.{Routed, headed}
use Rattle.peer_lists.specs.declared.sending.Sending.{Sending}
use Rattle.peer_lists.specs.Peers.{PeerState, peer_to, put_on}
use Rattle.peer_lists.specs.Waiting.{Waiting}

-- a signal as it is delivered, with its header but for its number, which it gets as it is sent
abbrev pub sending : Sender → Routed → Sending
sending by r = record { to = record { 0 = r.to }; signal = headed by 0 r.sent }

-- those that host h sends in a step after its log
abbrev pub sendings_of : Start → ℕ → List HostStep → HostStep → List Sending
sendings_of start h log e =
    map (sending (sender (made start) h e.step.stamp (after start h (e ∷ log)).standing.view))
    (routed_after start h log e)

-- A peer has all that host h sent it along its log, with their numbers: in the link, or waiting. Of one that has shut
-- its links the link has a front of it, and nothing waits.
pub record HasAllSent (start : Start) (h : ℕ) (log : List HostStep) (p : PeerState) : Type 0 where
  pub put : p.shut ≡ false → map (arriving p.host) (reverse (put_on p)) ≡ sent (machine start) h p.host log
  pub rest : p.shut ≡ true → IsPast (map (arriving p.host) (reverse p.sent)) (sent (machine start) h p.host log)
  pub empty : p.shut ≡ true → p.waiting.signals ≡ []
  pub numbered : p.waiting.numbered ≡ sent_count start h log p.host

-- each peer has, but for one with the number of the host itself
abbrev pub HaveAllSent : Start → ℕ → List HostStep → List PeerState → Type 0
HaveAllSent start h log ps = (j : ℕ) (p : PeerState) → j ≢ h → peer_to ps j ≡ Some p → HasAllSent start h log p

-- the queue of host h has all that it sent itself along its log but these, the oldest of them
pub record HasOwnSent (start : Start) (h : ℕ) (log : List HostStep) (gone : List Addressed) (own : Waiting)
    : Type 0 where
  pub holds : map (arriving h) (reverse own.signals) ++ gone ≡ sent (machine start) h h log
  pub numbered : own.numbered ≡ sent_count start h log h
