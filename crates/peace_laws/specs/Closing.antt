-- A closing of an epoch, from the moment at which the client's side has asked the president's master for it to that at
-- which nothing is under way any more: the client was told of its end, and all give the epoch that follows.
use Rattle.std.specs.Prelude.{◌≡◌, ◌<◌, ℕ, ◌+◌, ◌*◌, suc, Bool, true, false, List, [], ◌∷◌, ◌++◌, Option, None, Some}
use Rattle.api_views.specs.declared.closings.Closing.{Closing}
use Rattle.api_views.specs.declared.closings.Closing.TheVariants.{Gcp, Micro, Lcp}
use Rattle.api_views.specs.Closings.{ask_of, closed_reply}
use Rattle.api_views.specs.State.{ClientState}
use Rattle.frag_map.specs.Replicas.{first_start}
use Rattle.frag_map.specs.Shape.{IsShape}
use Rattle.gcp_master.specs.declared.phase.Phase.TheVariants.{Resting}
use Rattle.gcp_master.specs.Numbers.{next_global, next_micro}
use Rattle.gcp_master.specs.State.{MasterState}
use Rattle.node_views.specs.declared.parts.Parts.{Parts}
use Rattle.node_views.specs.declared.parts.Parts.TheVariants.{Shell, Main, Tc, Ldm}
use Rattle.run_theory.specs.Lists.{IsIn}
use Rattle.sig_core.specs.declared.outs.Outgoing.{Outgoing}
use Rattle.sig_core.specs.declared.reply.ApiReply.{ApiReply}
use Rattle.sig_core.specs.Place.{checkpoints}
use Rattle.sig_core.specs.Step.{to_place}
use Rattle.world_core.specs.Start.{Start}
use Rattle.calm_laws.specs.Alike.{first}
use Rattle.peace_laws.specs.Moments.{GoesOn, IsStill, Moment, newest}
use Rattle.peace_laws.specs.Rest.{GivesAlone, MasterRests}

-- what the client asked for closes an epoch, and nothing else
abbrev pub closes_epoch : Closing → Bool
closes_epoch Gcp = true
closes_epoch Micro = true
closes_epoch Lcp = false

-- A closing: the epoch that it closes, the one that follows, what the client asked for, and what it was told before.
pub record Course : Type 0 where
  pub epoch : ℕ
  pub next : ℕ
  pub kind : Closing
  pub closes : closes_epoch kind ≡ true
  pub before : List ApiReply

-- the number that follows, unless they are used up
abbrev pub next_of : Closing → ℕ → Option ℕ
next_of Gcp epoch = next_global epoch
next_of Micro epoch = next_micro epoch
next_of Lcp epoch = None

-- the host of the president's master, and those of the epochs and of the rows of the member at a place
abbrev pub main : ℕ
main = 1

abbrev pub host_in : ℕ → Bool → ℕ
host_in place false = suc (place * 3 + 1)
host_in place true = suc (place * 3 + 2)

-- the epochs of a member, and its rows
abbrev pub EpochsRest : ℕ → Parts → Type 0
EpochsRest epoch (Tc p) = GivesAlone epoch p.dih
EpochsRest epoch parts = ⊥

abbrev pub HasRows : Parts → Type 0
HasRows (Ldm p) = Unit {0}
HasRows parts = ⊥

-- the president's master, at rest in an epoch
abbrev pub PresidentRests : Start → ℕ → MasterState → Type 0
PresidentRests start epoch m = MasterRests start (first_start 1) (Resting epoch) m

abbrev pub MainRests : Start → ℕ → Parts → Type 0
MainRests start epoch (Main p) = PresidentRests start epoch p.master
MainRests start epoch parts = ⊥

-- the client's side, where this closing is under way, or none
pub record ClientWaits (start : Start) (closing : Option Closing) (s : ClientState) : Type 0 where
  pub view : s.api.view ≡ first start
  pub replies : s.api.replies ≡ []
  pub closing_is : s.closing ≡ closing

abbrev pub ShellWaits : Start → Option Closing → Parts → Type 0
ShellWaits start closing (Shell p) = ClientWaits start closing p.client
ShellWaits start closing parts = ⊥

-- All members rest in an epoch, and so does the president's master.
pub record AllRest (start : Start) (epoch : ℕ) (m : Moment) : Type 0 where
  pub master : MainRests start epoch (m.parts main)
  pub epochs : (place : ℕ) → place < start.shape.nodes → EpochsRest epoch (m.parts (host_in place false))
  pub rows : (place : ℕ) → place < start.shape.nodes → HasRows (m.parts (host_in place true))

-- the master is asked for it, and nothing else is under way
pub record IsAskedFor (start : Start) (c : Course) (m : Moment) : Type 0 where
  pub rest : AllRest start c.epoch m
  pub client : ShellWaits start (Some c.kind) (m.parts 0)
  pub replies : m.replies ≡ c.before
  pub request : m.under_way 0 main ≡ to_place (checkpoints 1) (ask_of c.kind) ∷ []
  pub alone : (i j : ℕ) (one : Outgoing) → IsIn one (m.under_way i j) → (i ≡ 0) × (j ≡ main)

-- the client was told that it has ended, and nothing else
pub record IsEnded (start : Start) (c : Course) (m : Moment) : Type 0 where
  pub rest : AllRest start c.next m
  pub client : ShellWaits start None (m.parts 0)
  pub replies : m.replies ≡ c.before ++ closed_reply c.kind c.epoch ∷ []

abbrev pub ClosingsEnd : Type 0
ClosingsEnd =
    (start : Start) (c : Course) (was : Moment) (since : List Moment) → IsShape start.shape
    → next_of c.kind c.epoch ≡ Some c.next → IsAskedFor start c was → GoesOn start was since
    → IsStill (newest was since)
    → IsEnded start c (newest was since)
