-- How a closing goes on from one moment to the next, where nothing else is under way and no host stops.
use Rattle.std.specs.Prelude.{◌≡◌, ◌≢◌, ◌⊎◌, ℕ, zero, suc, List, [], ◌∷◌, ◌++◌}
use Rattle.node_views.specs.Blocks.{parts_row}
use Rattle.node_views.specs.Replies.{giving, replies_in}
use Rattle.node_views.specs.declared.parts.Parts.{Parts}
use Rattle.run_theory.specs.Lists.{Each, IsIn}
use Rattle.sig_core.specs.declared.outs.Outgoing.{Outgoing}
use Rattle.sig_core.specs.declared.reply.ApiReply.{ApiReply}
use Rattle.sig_core.specs.declared.signal.Signal.{Signal}
use Rattle.world_core.specs.Hosts.{host_for, member_at}
use Rattle.world_core.specs.Start.{Start, made}
use Rattle.calm_laws.specs.Alike.{first}

-- A moment: what the parts of each host know, what is under way from one host to another, the newest first, and what
-- the client was told, the oldest first.
pub record Moment : Type 0 where
  pub parts : ℕ → Parts
  pub under_way : ℕ → ℕ → List Outgoing
  pub replies : List ApiReply

-- a signal of a host in the first view that says this
pub record IsSignal (start : Start) (h : ℕ) (sent : Outgoing) (x : Signal) : Type 0 where
  pub from : x.from.0 ≡ h
  pub member : x.member ≡ member_at (made start) h
  pub to : x.to ≡ sent.to
  pub view : x.view ≡ first start
  pub body : x.body ≡ sent.body

-- host h behind a step: the replies of the shell's were told
abbrev pub behind : ℕ → Parts → Parts
behind zero parts = giving parts []
behind (suc h) parts = parts

abbrev pub told_by : ℕ → Parts → List ApiReply
told_by zero parts = replies_in parts
told_by (suc h) parts = []

-- this is what was taken on the link from one host to another
abbrev pub IsTaken : ℕ → ℕ → Outgoing → ℕ → ℕ → Outgoing → Type 0
IsTaken sender host sent i j one = (i ≡ sender) × ((j ≡ host) × (one ≡ sent))

-- A host takes the oldest that is under way to it from another, and does what its parts do at that. What was under way
-- besides still is; so is what it sends; and nothing else.
pub record Takes (start : Start) (before after : Moment) : Type 0 where
  pub sender : ℕ
  pub host : ℕ
  pub sent : Outgoing
  pub rest : List Outgoing
  pub x : Signal
  pub says : IsSignal start sender sent x
  pub there : before.under_way sender host ≡ rest ++ sent ∷ []
  pub own : after.parts host ≡ behind host (parts_row (before.parts host) x).state
  pub others : (h : ℕ) → h ≢ host → after.parts h ≡ before.parts h
  pub told : after.replies ≡ before.replies ++ told_by host (parts_row (before.parts host) x).state
  pub keeps : (i j : ℕ) (one : Outgoing) → IsIn one (before.under_way i j)
      → IsIn one (after.under_way i j) ⊎ IsTaken sender host sent i j one
  pub sends : Each (λ (one : Outgoing). IsIn one (after.under_way host (host_for start one.to)))
      (parts_row (before.parts host) x).effects.sends
  pub only : (i j : ℕ) (one : Outgoing) → IsIn one (after.under_way i j)
      → (IsIn one (before.under_way i j) × (i ≡ sender → j ≡ host → IsIn one rest))
      ⊎ ((i ≡ host) × ((j ≡ host_for start one.to) × IsIn one (parts_row (before.parts host) x).effects.sends))

-- moments since one, the newest first, each of which comes of the one before it by such a step
abbrev pub newest : Moment → List Moment → Moment
newest was [] = was
newest was (now ∷ earlier) = now

abbrev pub GoesOn : Start → Moment → List Moment → Type 0
GoesOn start was [] = Unit {0}
GoesOn start was (now ∷ earlier) = GoesOn start was earlier × Takes start (newest was earlier) now

-- nothing is under way
abbrev pub IsStill : Moment → Type 0
IsStill m = (i j : ℕ) → m.under_way i j ≡ []
