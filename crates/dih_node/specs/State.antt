-- The state of a node's epochs.
use Rattle.std.specs.Prelude.{ℕ, ◌&&◌, ◌||◌, Bool, true, false, not, nat_lt, nat_le, List, [], ◌∷◌, length, Option}
use Rattle.std.specs.List.{list_any}
use Rattle.sig_core.specs.declared.member.TxId.{TxId}
use Rattle.sig_core.specs.declared.outs.Outgoing.{Outgoing}
use Rattle.sig_core.specs.declared.signal.host.Work.TheVariants.{Held}
use Rattle.sig_core.specs.Place.{epochs}
use Rattle.sig_core.specs.Portion.{go_on_at}
use Rattle.dih_node.specs.declared.dih.Counted.{Counted}
use Rattle.dih_node.specs.declared.dih.Report.{Report}

-- A node: the number of its view, and that below which it is fenced off; the epoch that it gives; the epoch of the last
-- order to prepare or to commit, and the one that follows it; the greatest epochs that it has noted as closed and as
-- durable; the transactions that have an epoch and haven't ended; the requests that are held, the oldest first; and the
-- order whose end is to be reported.
pub record DihState : Type 0 where
  pub node : ℕ
  pub number : ℕ
  pub fence : ℕ
  pub current : ℕ
  pub prepared : ℕ
  pub next : ℕ
  pub closed : ℕ
  pub durable : ℕ
  pub counted : List Counted
  pub held : List TxId
  pub order : Option Report

-- it has promised a view that isn't installed
abbrev pub is_fenced : DihState → Bool
is_fenced s = nat_lt s.number s.fence

-- an epoch is being prepared: the one that is to follow isn't the current one yet
abbrev pub is_prepared : DihState → Bool
is_prepared s = nat_lt s.current s.next

-- it gives epochs
unfoldable pub gives : DihState → Bool
gives s = not (is_prepared s || is_fenced s)

-- requests are held that may be served
abbrev pub can_serve : DihState → Bool
can_serve s = gives s && nat_lt 0 (length s.held)

-- the signal by which it serves the next one
abbrev pub go_on_if : ℕ → Bool → List Outgoing
go_on_if node true = go_on_at (epochs node) Held 0 ∷ []
go_on_if node false = []

-- a transaction that has this epoch or one before it hasn't ended
abbrev pub is_up_to : ℕ → Counted → Bool
is_up_to epoch one = nat_le one.epoch epoch

abbrev pub is_unfinished : List Counted → ℕ → Bool
is_unfinished counted epoch = list_any (is_up_to epoch) counted
