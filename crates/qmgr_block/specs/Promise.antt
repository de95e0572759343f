-- Promises: a node promises one set for each number, and its fences are up before it says so.
use Rattle.std.specs.Prelude.{ℕ, ◌-◌, ◌%◌, ◌==◌, ◌&&◌, ◌||◌, Bool, true, false, if◌then◌else◌, nat_lt, List, [], ◌∷◌}
use Rattle.std.specs.Prelude.{◌++◌, Option, None, Some, position, remove, slice_get, slice_set}
use Rattle.sig_core.specs.declared.mark.Mark.TheVariants.{Promised}
use Rattle.sig_core.specs.declared.outs.Outgoing.{Outgoing}
use Rattle.sig_core.specs.declared.place.Place.{Place}
use Rattle.sig_core.specs.declared.signal.Body.TheVariants.{Membership}
use Rattle.sig_core.specs.declared.signal.membership.MembershipSignal.TheVariants.{FenceReq, PrepFailConf, PrepFailRef}
use Rattle.sig_core.specs.declared.view.View.{View}
use Rattle.sig_core.specs.Place.{coordinator, epochs, membership, rows_of}
use Rattle.sig_core.specs.Step.{Step, stay, to_place}
use Rattle.qmgr_block.specs.declared.known.Known.{Known}
use Rattle.qmgr_block.specs.declared.promise.Promise.{Promise}
use Rattle.qmgr_block.specs.Sets.{is_part, is_special, members_of, without}
use Rattle.qmgr_block.specs.Starts.{all_noted}
use Rattle.qmgr_block.specs.State.{QmgrState, beside, sent_before}
use Rattle.qmgr_block.specs.Suspects.{told_after, with_closed, with_suspects}

-- A set may be promised whose number is above that of the last promise, if it is a part of the last promise, or a join
-- or a promotion of the installed view, and that has the number of the last promise
unfoldable pub may_promise : Known → View → Bool
may_promise k set =
    nat_lt k.promised.number set.number
    && (is_part k.promised set || (is_special k.layout.view set && (k.promised.number == k.layout.view.number)))

-- the members of the view and of the last promise that the set is without
abbrev pub with_missing_from : Known → View → Known
with_missing_from k set =
    with_suspects
    (with_suspects k (without (members_of k.layout.view) (members_of set)))
    (without (members_of k.promised) (members_of set))

-- they are suspects, unless it is a join or a promotion
unfoldable pub with_absent : Known → View → Known
with_absent k set = if is_special k.layout.view set then k else with_missing_from k set

-- the set is the last promise
unfoldable pub promising : Known → View → Known
promising k set =
    with_closed (record k { promised = set; seen = all_noted k.seen (members_of set) })

-- a block is told to raise its fence
abbrev pub fence_of : Place → View → Outgoing
fence_of to set = to_place to (Membership (FenceReq set))

-- the blocks of the node that are fenced
abbrev pub fences : ℕ → View → List Outgoing
fences node set = fence_of (coordinator node) set ∷ fence_of (epochs node) set ∷ fence_of (rows_of node) set ∷ []

-- a promise that waits for the two blocks of the part tc, and for the one of the part ldm
abbrev pub waiting_promise : View → ℕ → Promise
waiting_promise set to = record { number = set.number; to = to; tc = 2; ldm = 1 }

abbrev pub refusal_of : Known → ℕ → Outgoing
refusal_of k to = to_place (membership to) (Membership (PrepFailRef k.promised))

abbrev pub promise_by : QmgrState → ℕ → View → Bool → Step QmgrState
promise_by s to set true =
    beside (s.promises ++ waiting_promise set to ∷ [])
    (sent_before (fences s.known.me.node set) (told_after s.known (promising (with_absent s.known set) set)))
promise_by s to set false =
    beside s.promises
    (sent_before (refusal_of s.known to ∷ []) (told_after s.known (with_absent s.known set)))

-- a node asks for a promise
unfoldable pub promise_row : QmgrState → ℕ → View → Step QmgrState
promise_row s to set = promise_by s to set (may_promise s.known set)

-- Hosts stand in threes, main, tc and ldm, from 1 on
abbrev pub is_ldm : ℕ → Bool
is_ldm host = host % 3 == 0

-- the promise waits for a block of that part
abbrev pub waits_for : Bool → Promise → Bool
waits_for true promise = nat_lt 0 promise.ldm
waits_for false promise = nat_lt 0 promise.tc

-- one block of that part has confirmed
abbrev pub less : Bool → Promise → Promise
less true promise = record promise { ldm = promise.ldm - 1 }
less false promise = record promise { tc = promise.tc - 1 }

abbrev pub is_fenced : Promise → Bool
is_fenced promise = (promise.tc == 0) && (promise.ldm == 0)

-- the promise at a place has come so far
abbrev pub with_promise : QmgrState → ℕ → Promise → QmgrState
with_promise s at promise = record { known = s.known; promises = slice_set s.promises at promise }

abbrev pub confirmed_if : QmgrState → ℕ → Promise → Bool → Step QmgrState
confirmed_if s at promise true = record {
  state = record { known = s.known; promises = remove s.promises at };
  effects = record {
    sends = to_place (membership promise.to) (Membership (PrepFailConf promise.number)) ∷ [];
    marks = Promised promise.number ∷ [];
  };
}
confirmed_if s at promise false = stay (with_promise s at promise)

abbrev pub confirmed_at : QmgrState → Bool → ℕ → Option Promise → Step QmgrState
confirmed_at s ldm at None = stay s
confirmed_at s ldm at (Some promise) = confirmed_if s at (less ldm promise) (is_fenced (less ldm promise))

abbrev pub confirmed_place : QmgrState → Bool → Option ℕ → Step QmgrState
confirmed_place s ldm None = stay s
confirmed_place s ldm (Some at) = confirmed_at s ldm at (slice_get s.promises at)

-- A block of the node has raised its fence. Each part confirms in order, so it is the first promise that waits for
-- that part. With the last of its blocks the promise is marked and confirmed
unfoldable pub fence_row : QmgrState → ℕ → Step QmgrState
fence_row s host =
    confirmed_place s (is_ldm host) (position (waits_for (is_ldm host)) s.promises)
