-- The peers of a host: the other hosts, as it has them.
use Rattle.std.specs.Prelude.{◌≡◌, ℕ, Bool, false, if◌then◌else◌, ◌==◌, List, [], ◌∷◌, ◌++◌, map, Option, None, Some}
use Rattle.std.specs.List.{position}
use Rattle.sig_core.specs.declared.signal.Signal.{Signal}
use Rattle.peer_lists.specs.declared.sending.Sending.{Sending}
use Rattle.peer_lists.specs.Waiting.{Waiting, all_sent, nothing_waits, sent_if}

-- A peer: its number, what went into the link to it and what came out of the link from it, the oldest first, what waits
-- to go into the former, and whether it has shut its links.
pub record PeerState : Type 0 where
  pub host : ℕ
  pub sent : List Signal
  pub taken : List Signal
  pub waiting : Waiting
  pub shut : Bool

abbrev pub is_peer : ℕ → PeerState → Bool
is_peer j p = p.host == j

-- all that was sent to it and wasn't dropped, in its link or waiting
abbrev pub put_on : PeerState → List Signal
put_on p = p.sent ++ p.waiting.signals

-- a signal is sent to it
abbrev pub with_signal : Signal → PeerState → PeerState
with_signal x p = record p { waiting = sent_if p.shut x p.waiting }

-- of these signals it gets its own
abbrev pub with_signals : ℕ → List Sending → PeerState → PeerState
with_signals j xs p = record p { waiting = all_sent p.shut j xs p.waiting }

-- the first peer that is host j
abbrev pub peer_to : List PeerState → ℕ → Option PeerState
peer_to [] j = None
peer_to (p ∷ ps) j = if is_peer j p then Some p else peer_to ps j

-- its place in a list of things that are peers
abbrev pub place_of : {P : Type 0} → (P → PeerState) → List P → ℕ → Option ℕ
place_of state peers j = position (λ p. is_peer j (state p)) peers

abbrev pub hosts_of : List PeerState → List ℕ
hosts_of ps = map (λ (p : PeerState). p.host) ps

-- what went into the link to host j, what came out of the one from it, and what waits for it; nothing where it is no
-- peer
abbrev pub sent_by : Option PeerState → List Signal
sent_by None = []
sent_by (Some p) = p.sent

abbrev pub taken_by : Option PeerState → List Signal
taken_by None = []
taken_by (Some p) = p.taken

abbrev pub waiting_by : Option PeerState → Waiting
waiting_by None = nothing_waits
waiting_by (Some p) = p.waiting

abbrev pub sent_to : List PeerState → ℕ → List Signal
sent_to ps j = sent_by (peer_to ps j)

abbrev pub taken_from : List PeerState → ℕ → List Signal
taken_from ps j = taken_by (peer_to ps j)

abbrev pub held_for : List PeerState → ℕ → List Signal
held_for ps j = (waiting_by (peer_to ps j)).signals

-- a signal is sent to the peer that it is for; what is for nobody is dropped
abbrev pub placed : Sending → List PeerState → List PeerState
placed x [] = []
placed x (p ∷ ps) = if is_peer x.to.0 p then with_signal x.signal p ∷ ps else p ∷ placed x ps

-- of what host h sends its peers get what is for others, one signal after the other
abbrev pub delivered : ℕ → List Sending → List PeerState → List PeerState
delivered h [] ps = ps
delivered h (x ∷ xs) ps = delivered h xs (if x.to.0 == h then ps else placed x ps)

-- and its own queue what is for itself
abbrev pub own_of : ℕ → List Sending → Waiting → Waiting
own_of h xs own = all_sent false h xs own

-- the hosts, and what is in the links from and to them, stayed as they were
pub record AreSameLinks (ps qs : List PeerState) : Type 0 where
  pub hosts : hosts_of qs ≡ hosts_of ps
  pub sent : (j : ℕ) → sent_to qs j ≡ sent_to ps j
  pub taken : (j : ℕ) → taken_from qs j ≡ taken_from ps j
