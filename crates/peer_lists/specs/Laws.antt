-- The laws of lists of peers, as the contracts of functions name them.
use Rattle.std.specs.Prelude.{◌≡◌, ◌≢◌, ℕ, false, List, ◌∷◌}
use Rattle.std.specs.Prelude.{option_map}
use Rattle.world_core.specs.Start.{Start}
use Rattle.world_core.specs.Steps.{Addressed, HostStep}
use Rattle.world_views.specs.Machine.{machine}
use Rattle.peer_lists.specs.declared.sending.Sending.{Sending}
use Rattle.peer_lists.specs.Machine.{HasOwnSent, HaveAllSent, sendings_of}
use Rattle.peer_lists.specs.Peers.{AreSameLinks, PeerState, delivered, own_of, peer_to, with_signals}
use Rattle.peer_lists.specs.Waiting.{Waiting}

-- of what a host sends each peer gets just what is for it, in order
abbrev pub PeersGetTheirs : Type 0
PeersGetTheirs =
    (h : ℕ) (xs : List Sending) (ps : List PeerState) (j : ℕ) → j ≢ h
    → peer_to (delivered h xs ps) j ≡ option_map (with_signals j xs) (peer_to ps j)

-- nothing else changes
abbrev pub LinksStay : Type 0
LinksStay = (h : ℕ) (xs : List Sending) (ps : List PeerState) → AreSameLinks ps (delivered h xs ps)

-- Where the peers of a host have all that it sent along its log, they have all that it sent along the log with one step
-- more once what that step sends is delivered.
abbrev pub StepsAreDelivered : Type 0
StepsAreDelivered =
    (start : Start) (h : ℕ) (log : List HostStep) (e : HostStep) (ps : List PeerState)
    → (machine start).stops e ≡ false → HaveAllSent start h log ps
    → HaveAllSent start h (e ∷ log) (delivered h (sendings_of start h log e) ps)

-- and so has its own queue
abbrev pub OwnStepsAreKept : Type 0
OwnStepsAreKept =
    (start : Start) (h : ℕ) (log : List HostStep) (e : HostStep) (gone : List Addressed) (own : Waiting)
    → (machine start).stops e ≡ false → HasOwnSent start h log gone own
    → HasOwnSent start h (e ∷ log) gone (own_of h (sendings_of start h log e) own)
