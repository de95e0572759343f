-- Who is told of the end of a transaction's part in a row: its owner in the view.
use Rattle.std.specs.Prelude.{ℕ, zero, suc, Bool, true, false, List, [], ◌∷◌, map, Option, None, Some}
use Rattle.sig_core.specs.declared.member.Member.{Member}
use Rattle.sig_core.specs.declared.member.TxId.{TxId}
use Rattle.sig_core.specs.declared.outs.Outgoing.{Outgoing}
use Rattle.sig_core.specs.declared.signal.Body.{Body}
use Rattle.sig_core.specs.declared.signal.Body.TheVariants.{Chain}
use Rattle.sig_core.specs.declared.signal.chain.ChainSignal.TheVariants.{Commit, Committed, Complete, Completed, Abort}
use Rattle.sig_core.specs.declared.signal.chain.ChainSignal.TheVariants.{Aborted}
use Rattle.sig_core.specs.declared.view.View.{View}
use Rattle.sig_core.specs.Place.{takeover}
use Rattle.sig_core.specs.Step.{to_place}
use Rattle.lqh_block.specs.Views.{is_coordinated}

-- the transaction of which a signal tells that its part in a row is committed, completed or aborted
abbrev pub about : Body → Option TxId
about (Chain (Committed tx key)) = Some tx
about (Chain (Completed tx key)) = Some tx
about (Chain (Aborted tx key)) = Some tx
about _ = None

-- a signal goes to the takeover of the oldest of these full members. Where there is none, it goes where it would
abbrev pub to_takeover : List Member → Outgoing → Outgoing
to_takeover [] send = send
to_takeover (oldest ∷ others) send = to_place (takeover oldest.node) send.body

abbrev pub owned_if : List Member → Outgoing → Bool → Outgoing
owned_if full send true = send
owned_if full send false = to_takeover full send

abbrev pub owned_by : List Member → Outgoing → Option TxId → Outgoing
owned_by full send None = send
owned_by full send (Some tx) = owned_if full send (is_coordinated full tx)

-- the signal, addressed in a view: what tells of the end of a transaction's part in a row goes to its coordinator
-- where that is a full member, and else to the takeover of the oldest full member
unfoldable pub addressed : View → Outgoing → Outgoing
addressed view send = owned_by view.full send (about send.body)

-- the first so many signals stay as they are, and those behind them are addressed
abbrev pub addressed_behind : View → ℕ → List Outgoing → List Outgoing
addressed_behind view zero sends = map (addressed view) sends
addressed_behind view (suc n) [] = []
addressed_behind view (suc n) (send ∷ sends) = send ∷ addressed_behind view n sends

-- the next of such a list
abbrev pub next_of : View → ℕ → Outgoing → Outgoing
next_of view zero send = addressed view send
next_of view (suc n) send = send

-- the transaction of whose part in a row the rows may tell, at this signal, that it is committed, completed or aborted
abbrev pub ended : Body → Option TxId
ended (Chain (Commit tx key epoch chain at)) = Some tx
ended (Chain (Complete tx key chain at)) = Some tx
ended (Chain (Abort tx key)) = Some tx
ended _ = None

abbrev pub is_owner : List Member → Option TxId → Bool
is_owner full None = true
is_owner full (Some tx) = is_coordinated full tx

-- all that the rows send at this signal goes where they send it
abbrev pub goes_straight : View → Body → Bool
goes_straight view body = is_owner view.full (ended body)
