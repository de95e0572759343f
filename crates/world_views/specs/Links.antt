-- The links between the hosts: for each host, in their order, the links to it.
use Rattle.std.specs.Prelude.{◌≡◌, ◌<◌, ℕ, zero, suc, ◌-◌, nat_lt, if◌then◌else◌, Bool, true, false, List, [], ◌∷◌}
use Rattle.std.specs.Prelude.{◌++◌, is_some, length, map, position, slice_index_or, slice_set, take, Option, None, Some}
use Rattle.sig_core.specs.declared.signal.Signal.{Signal}
use Rattle.world_core.specs.Machine.{one_more}
use Rattle.world_core.specs.Steps.{Addressed}
use Rattle.world_views.specs.declared.sender.Sender.{Sender}
use Rattle.world_views.specs.Sending.{Routed, headed}

-- the signals on a link, the oldest first, and how many were sent on it
pub record LinkState : Type 0 where
  pub signals : List Signal
  pub sent : ℕ

abbrev pub new_link : LinkState
new_link = record { signals = []; sent = 0 }

abbrev pub is_busy : LinkState → Bool
is_busy link = nat_lt 0 (length link.signals)

abbrev pub Inbox : Type 0
Inbox = List LinkState

abbrev pub Links : Type 0
Links = List Inbox

-- the links to a host; there are none to a host that isn't there
abbrev pub inbox_of : Links → ℕ → Inbox
inbox_of links to = slice_index_or links to []

-- the link from a host; a host that isn't there has sent nothing
abbrev pub link_from : Inbox → ℕ → LinkState
link_from inbox from = slice_index_or inbox from new_link

abbrev pub link : Links → ℕ → ℕ → LinkState
link links from to = link_from (inbox_of links to) from

-- a link from each of n hosts to each
pub record AreLinks (n : ℕ) (links : Links) : Type 0 where
  pub inboxes : length links ≡ n
  pub each : (j : ℕ) → j < n → length (inbox_of links j) ≡ n

-- there is a link from one host to another
abbrev pub has_link : Links → ℕ → ℕ → Bool
has_link links from to = nat_lt from (length (inbox_of links to))

-- the link from a host of an inbox is this one now
abbrev pub with_link : Inbox → ℕ → LinkState → Inbox
with_link inbox from link = if nat_lt from (length inbox) then slice_set inbox from link else inbox

abbrev pub with_inbox : Links → ℕ → Inbox → Links
with_inbox links to inbox = if nat_lt to (length links) then slice_set links to inbox else links

-- one link is changed; there is none from or to a host that isn't there
abbrev pub changed : Links → ℕ → ℕ → (LinkState → LinkState) → Links
changed links from to change =
    with_inbox links to (with_link (inbox_of links to) from (change (link links from to)))

-- a signal is sent: it goes behind the others, with the next number
abbrev pub behind : Sender → Routed → LinkState → LinkState
behind by r link = record { signals = link.signals ++ headed by link.sent r.sent ∷ []; sent = one_more link.sent }

abbrev pub put : Links → Sender → Routed → Links
put links by r = changed links by.host r.to (behind by r)

-- all that a step sends, one after the other
abbrev pub put_all : Links → Sender → List Routed → Links
put_all links by [] = links
put_all links by (r ∷ more) = put_all (put links by r) by more

-- a closing goes behind the others
abbrev pub closed_by : Signal → LinkState → LinkState
closed_by signal link = record { signals = link.signals ++ signal ∷ []; sent = link.sent }

abbrev pub close_one : Bool → Links → ℕ → ℕ → Signal → Links
close_one true links from to signal = links
close_one false links from to signal = changed links from to (closed_by signal)

-- each link of a host to those below n is closed, but for those that stay as they are
abbrev pub close_below : ℕ → Links → ℕ → (ℕ → Bool) → (ℕ → Signal) → Links
close_below zero links from stays closing = links
close_below (suc n) links from stays closing =
    close_one (stays n) (close_below n links from stays closing) from n (closing n)

-- the youngest so many signals of a link are lost
abbrev pub without : ℕ → LinkState → LinkState
without lost link = record { signals = take (length link.signals - lost) link.signals; sent = link.sent }

-- of each link from a host
abbrev pub lose : Links → ℕ → ℕ → Links
lose links from lost = map (λ (inbox : Inbox). with_link inbox from (without lost (link_from inbox from))) links

-- a signal that was taken, with its host, and the links without it
pub record Arrival : Type 0 where
  pub taken : Addressed
  pub left : Links

abbrev pub arrival : ℕ → Signal → Links → Arrival
arrival to signal left = record { taken = record { to = to; signal = signal }; left = left }

abbrev pub rest_on : List Signal → LinkState → LinkState
rest_on rest link = record { signals = rest; sent = link.sent }

abbrev pub taken_from : Links → ℕ → ℕ → List Signal → Option Arrival
taken_from links from to [] = None
taken_from links from to (signal ∷ rest) = Some (arrival to signal (changed links from to (rest_on rest)))

-- the first signal of the link from one host to another
abbrev pub take_between : Links → ℕ → ℕ → Option Arrival
take_between links from to = taken_from links from to (link links from to).signals

-- a link of the inbox has a signal
abbrev pub has_signal : Inbox → Bool
has_signal inbox = is_some (position is_busy inbox)

abbrev pub first_to : Links → ℕ → Option ℕ → Option Arrival
first_to links to None = None
first_to links to (Some from) = take_between links from to

abbrev pub first_at : Links → Option ℕ → Option Arrival
first_at links None = None
first_at links (Some to) = first_to links to (position is_busy (inbox_of links to))

-- the first signal of the first link that has one: the links to host 0 first, and of these the one from host 0 first
abbrev pub take_first : Links → Option Arrival
take_first links = first_at links (position has_signal links)

-- nothing is on any link
abbrev pub AreIdle : Links → Type 0
AreIdle links = (i j : ℕ) → (link links i j).signals ≡ []
