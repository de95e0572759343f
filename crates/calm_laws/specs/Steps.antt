-- In calm a step of a cluster that may fail is one of the plain machine, but for what the membership does besides.
use Rattle.std.specs.Prelude.{◌≡◌, ℕ, zero, suc, ◌⊎◌, Bool, true, false, not, List, [], ◌++◌, filter, map}
use Rattle.std.specs.Prelude.{if◌then◌else◌}
use Rattle.api_views.specs.Laws.{is_vouched}
use Rattle.api_views.specs.Members.{is_member}
use Rattle.frag_map.specs.Layout.{members}
use Rattle.frag_map.specs.Shape.{IsShape}
use Rattle.node_core.specs.Blocks.{has_api}
use Rattle.node_core.specs.declared.host.Host as plain
use Rattle.node_core.specs.Row.{row}
use Rattle.node_views.specs.WellFormed.{is_well_formed}
use Rattle.node_views.specs.declared.host_body.HostBody as host
use Rattle.run_theory.specs.Lists.{Each}
use Rattle.sig_core.specs.declared.member.Member.{Member}
use Rattle.sig_core.specs.declared.outs.Outgoing.{Outgoing}
use Rattle.sig_core.specs.declared.place.BlockId.{BlockId}
use Rattle.sig_core.specs.declared.place.BlockId.TheVariants.{Arbiter, Dih, Lqh, Qmgr, Tc}
use Rattle.sig_core.specs.declared.place.Place.{Place}
use Rattle.sig_core.specs.declared.reply.ApiReply.{ApiReply}
use Rattle.sig_core.specs.declared.reply.ApiReply.TheVariants.{View}
use Rattle.sig_core.specs.declared.request.ApiReq.TheVariants.{Tick}
use Rattle.sig_core.specs.declared.signal.Body.{Body}
use Rattle.sig_core.specs.declared.signal.Body.TheVariants.{Host}
use Rattle.sig_core.specs.declared.signal.Signal.{Signal}
use Rattle.sig_core.specs.declared.signal.host.HostSignal.TheVariants.{Continue, Round}
use Rattle.sig_core.specs.declared.signal.host.Work.TheVariants.{Request}
use Rattle.sig_core.specs.Place.{client, membership}
use Rattle.sig_core.specs.Step.{to_place}
use Rattle.world_core.specs.Hosts as plain_world
use Rattle.world_core.specs.Start.{NobodyStarts, Start}
use Rattle.world_views.specs.Hosts.{started}
use Rattle.world_views.specs.Machine.{replies_at, step_by, stops_by, told}
use Rattle.world_views.specs.Sending.{is_own_work}
use Rattle.calm_laws.specs.Alike.{AreAlike, first}
use Rattle.calm_laws.specs.Calm.{is_calm}
use Rattle.calm_laws.specs.Known.{IsOfFirst, txs_in}
use Rattle.calm_laws.specs.Plain.{is_beating}

-- A signal that host h takes in calm: it is well formed, of the first view, and of a member of that where only such may
-- say it.
pub record ComesCalmly (start : Start) (h : ℕ) (x : Signal) : Type 0 where
  pub calm : is_calm h x ≡ true
  pub fine : is_well_formed start.shape x ≡ true
  pub view : x.view ≡ first start
  pub known : Each (IsOfFirst start) (txs_in x.body)
  pub vouched : is_vouched x.body ≡ true → is_member (first start) x.member ≡ true

-- the view of the cluster is told, which no plain machine does
abbrev pub shows : ApiReply → Bool
shows (View view) = true
shows reply = false

-- of these replies those that a plain machine gives
abbrev pub plain_replies : List ApiReply → List ApiReply
plain_replies replies = filter (λ (reply : ApiReply). not (shows reply)) replies

-- a signal for the parts of a node that have its transactions and its rows
abbrev pub is_of_parts : BlockId → Bool
is_of_parts Tc = true
is_of_parts Dih = true
is_of_parts Lqh = true
is_of_parts block = false

-- the plain machine's shell sends to such alone, and its other hosts to the client besides
abbrev pub IsPlainPlace : ℕ → Place → Type 0
IsPlainPlace zero to = is_of_parts to.block ≡ true
IsPlainPlace (suc h) to = (is_of_parts to.block ≡ true) ⊎ (to ≡ client)

-- what plain host h sends: nothing that only a host itself asks of itself
pub record IsPlainSend (h : ℕ) (send : Outgoing) : Type 0 where
  pub place : IsPlainPlace h send.to
  pub work : is_own_work send.body ≡ false

-- the client asks for a round of time
abbrev pub is_tick : Body → Bool
is_tick (Host (Continue (Request (Tick round of)) at)) = true
is_tick body = false

-- a round for the membership of a member's node
abbrev pub round_for : Member → Outgoing
round_for member = to_place (membership member.node) (Host Round)

-- what host h sends besides its plain one: the shell, at a round of time, one for the membership of each node
abbrev pub besides : Start → ℕ → Body → List Outgoing
besides start zero body = if is_tick body then map round_for (members start.shape.nodes) else []
besides start (suc h) body = []

-- a signal for the membership, or for who grants views
abbrev pub is_of_views : BlockId → Bool
is_of_views Qmgr = true
is_of_views Arbiter = true
is_of_views block = false

abbrev pub IsForViews : Outgoing → Type 0
IsForViews send = is_of_views send.to.block ≡ true

-- Host h and its plain one do the same at a signal, but that the host tells memberships of a round of time besides.
pub record StepAlike (start : Start) (h : ℕ) (given : List ApiReply) (s : host.HostBody) (other : plain.Host)
    (x : Signal)
    : Type 0
  where
    pub marks : (step_by h s x).effects.marks ≡ (row other x).effects.marks
    pub sends : (step_by h s x).effects.sends ≡ (row other x).effects.sends ++ besides start h x.body
    pub plain : Each (IsPlainSend h) (row other x).effects.sends
    pub goes_on : stops_by (row other x).effects.marks ≡ false
    pub alike : AreAlike start (given ++ plain_replies (replies_at h (step_by h s x))) (told h (step_by h s x))
        (row other x).state

-- A main part of a node does something for the membership alone, of which its plain one knows nothing.
pub record StepAside (start : Start) (h : ℕ) (s : host.HostBody) (other : plain.Host) (x : Signal) : Type 0 where
  pub marks : (step_by h s x).effects.marks ≡ []
  pub sends : Each IsForViews (step_by h s x).effects.sends
  pub alike : AreAlike start [] (told h (step_by h s x)) other

-- the shell's host, a main part, and the other parts
abbrev pub ShellsStepAlike : Type 0
ShellsStepAlike =
    (start : Start) (given : List ApiReply) (s : host.HostBody) (other : plain.Host) (x : Signal) → IsShape start.shape
    → has_api other ≡ true → AreAlike start given s other → ComesCalmly start 0 x
    → StepAlike start 0 given s other x

abbrev pub MainPartsStepAside : Type 0
MainPartsStepAside =
    (start : Start) (h : ℕ) (s : host.HostBody) (other : plain.Host) (x : Signal)
    → is_beating h ≡ true → AreAlike start [] s other → ComesCalmly start h x
    → StepAside start h s other x

abbrev pub PartsStepAlike : Type 0
PartsStepAlike =
    (start : Start) (h : ℕ) (s : host.HostBody) (other : plain.Host) (x : Signal)
    → is_beating (suc h) ≡ false → AreAlike start [] s other → ComesCalmly start (suc h) x
    → StepAlike start (suc h) [] s other x

-- in a life that begins without rows they begin alike
abbrev pub HostsBeginAlike : Type 0
HostsBeginAlike =
    (start : Start) → NobodyStarts start → (h : ℕ) → start.rows ≡ []
    → AreAlike start [] (started start h) (plain_world.started start h)
