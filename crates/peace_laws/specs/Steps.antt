-- What a host does at something of a closing, beside its plain one.
use Rattle.std.specs.Prelude.{◌≡◌, ◌≤◌, ℕ, zero, suc, Bool, true, false, List, [], ◌++◌}
use Rattle.frag_map.specs.Shape.{IsShape}
use Rattle.node_core.specs.declared.host.Host as plain
use Rattle.node_core.specs.Row.{row}
use Rattle.node_views.specs.WellFormed.{is_well_formed}
use Rattle.node_views.specs.declared.host_body.HostBody as host
use Rattle.run_theory.specs.Lists.{Each}
use Rattle.sig_core.specs.declared.outs.Outgoing.{Outgoing}
use Rattle.sig_core.specs.declared.place.BlockId.TheVariants.{GcpMaster}
use Rattle.sig_core.specs.declared.reply.ApiReply.{ApiReply}
use Rattle.sig_core.specs.declared.signal.Body.{Body}
use Rattle.sig_core.specs.declared.signal.Body.TheVariants.{Epoch}
use Rattle.sig_core.specs.declared.signal.Signal.{Signal}
use Rattle.sig_core.specs.declared.signal.epoch.EpochSignal.TheVariants.{GcpReq, MicroReq}
use Rattle.world_core.specs.Start.{Start}
use Rattle.world_views.specs.Machine.{replies_at, step_by, stops_by, told}
use Rattle.calm_laws.specs.Alike.{first}
use Rattle.calm_laws.specs.Plain.{is_beating}
use Rattle.level_laws.specs.Levels.{host_at}
use Rattle.peace_laws.specs.Alike.{AreNear, RestsOfClosings}
use Rattle.peace_laws.specs.Parts.{plain_replies}
use Rattle.peace_laws.specs.Peace.{asks_closing, is_closing, is_for_closing}

-- the body asks a master for a closing
abbrev pub asks_master : Body → Bool
asks_master (Epoch (GcpReq by)) = true
asks_master (Epoch MicroReq) = true
asks_master body = false

-- a signal of the first view that host h takes of a closing, which the client's side alone asks for
pub record ComesForClosing (start : Start) (h : ℕ) (x : Signal) : Type 0 where
  pub closing : is_closing h x ≡ true
  pub fine : is_well_formed start.shape x ≡ true
  pub view : x.view ≡ first start
  pub client : asks_master x.body ≡ true → x.member.node ≡ 0

-- Whom host h tells of it: a main part the blocks that take something of closings, and another host a master alone, of
-- a node where it was told by one. The client's side alone asks for a closing.
abbrev pub IsOfClosing : ℕ → Outgoing → Type 0
IsOfClosing zero sent = is_for_closing sent.to.block sent.body ≡ true
IsOfClosing (suc h) sent = (is_for_closing sent.to.block sent.body ≡ true) × (asks_master sent.body ≡ false)

abbrev pub IsForMaster : Outgoing → Type 0
IsForMaster sent = (sent.to.block ≡ GcpMaster) × (1 ≤ sent.to.node)

-- Host h does something of a closing. Its plain one stays as it is, but for the epoch that it gives.
pub record StepsNear (start : Start) (h : ℕ) (given : List ApiReply) (s : host.HostBody) (other : plain.Host)
    (x : Signal)
    : Type 0
  where
    pub inner : plain.Host
    pub near : AreNear start (given ++ plain_replies (replies_at h (step_by h s x))) (told h (step_by h s x)) inner
    pub same : host_at start.epoch inner ≡ host_at start.epoch other
    pub marks : is_beating h ≡ false → (step_by h s x).effects.marks ≡ []
    pub sends : Each (IsOfClosing h) (step_by h s x).effects.sends
    pub masters : is_beating h ≡ false → 1 ≤ x.member.node → Each IsForMaster (step_by h s x).effects.sends

-- so it is of each host that goes on
abbrev pub ClosingsStepNear : Type 0
ClosingsStepNear =
    (start : Start) (h : ℕ) (given : List ApiReply) (s : host.HostBody) (other : plain.Host) (x : Signal)
    → AreNear start given s other → ComesForClosing start h x
    → stops_by (step_by h s x).effects.marks ≡ false → StepsNear start h given s other x

-- The client's side of a cluster of some nodes is asked for a closing, where none is under way: it asks a master for
-- it, and the plain one takes the same request, and sends nothing.
pub record RequestsNear (start : Start) (given : List ApiReply) (s : host.HostBody) (other : plain.Host) (x : Signal)
    : Type 0
  where
    pub near : AreNear start given (told 0 (step_by 0 s x)) (row other x).state
    pub plain : (row other x).effects.sends ≡ []
    pub plain_marks : (row other x).effects.marks ≡ []
    pub none : plain_replies (replies_at 0 (step_by 0 s x)) ≡ []
    pub marks : (step_by 0 s x).effects.marks ≡ []
    pub sends : Each (IsOfClosing 0) (step_by 0 s x).effects.sends
    pub masters : Each IsForMaster (step_by 0 s x).effects.sends

abbrev pub ClosingsAreAskedNear : Type 0
ClosingsAreAskedNear =
    (start : Start) (given : List ApiReply) (s : host.HostBody) (other : plain.Host) (x : Signal)
    → IsShape start.shape → AreNear start given s other → RestsOfClosings s.parts → asks_closing 0 x ≡ true
    → is_well_formed start.shape x ≡ true → x.view ≡ first start
    → RequestsNear start given s other x
