-- Memberships at rest: no member has missed more than one round of the one before it. And what hosts of the plain
-- machine send to one another.
use Rattle.std.specs.Prelude.{◌≡◌, ◌≤◌, ◌<◌, ℕ, true, List, []}
use Rattle.frag_map.specs.Layout.{first_layout}
use Rattle.node_core.specs.Requests.{is_request}
use Rattle.node_views.specs.declared.main_part.MainPart.{MainPart}
use Rattle.node_views.specs.declared.parts.Parts.{Parts}
use Rattle.node_views.specs.declared.parts.Parts.TheVariants.{Main}
use Rattle.qmgr_block.specs.State.{QmgrState, fresh_known}
use Rattle.run_laws.specs.Transit.{Comes, logs_of}
use Rattle.run_theory.specs.Lists.{Each}
use Rattle.world_core.specs.Hosts.{first_hosts, member_at}
use Rattle.world_core.specs.Machine.{signals_of}
use Rattle.world_core.specs.Start.{NobodyStarts, Start, made}
use Rattle.world_core.specs.Steps.{Addressed, HostStep}
use Rattle.world_views.specs.Machine.{after}
use Rattle.world_views.specs.Sending.{is_asked}
use Rattle.calm_laws.specs.Calm.{is_calm}
use Rattle.calm_laws.specs.Plain.{is_beating}

-- all that the membership of host h knows, where it has missed so many rounds of the member before it
abbrev pub at_rest : Start → ℕ → ℕ → QmgrState
at_rest start h missed =
    record {
      known = record (fresh_known (member_at (made start) h) (first_layout start.shape)) { missed = missed };
      promises = [];
    }

-- it has missed so many at most
pub record IsResting (start : Start) (h most : ℕ) (p : MainPart) : Type 0 where
  pub missed : ℕ
  pub few : missed ≤ most
  pub is : p.qmgr ≡ at_rest start h missed

abbrev pub IsRestingPart : Start → ℕ → ℕ → Parts → Type 0
IsRestingPart start h most (Main p) = IsResting start h most p
IsRestingPart start h most parts = ⊥

-- each main part has missed one at most
abbrev pub AreResting : Start → (ℕ → List HostStep) → Type 0
AreResting start logs =
    (h : ℕ) → h < first_hosts start → is_beating h ≡ true → IsRestingPart start h 1 (after start h (logs h)).parts

-- no host stopped, or cut off another, of its own accord
abbrev pub NoneGivesUp : (ℕ → List HostStep) → Type 0
NoneGivesUp logs =
    (h : ℕ) → Each (λ e. is_asked h e.step.taken ≡ true → is_request e.step.taken.body ≡ true) (logs h)

-- a life begins at rest
abbrev pub LivesBeginAtRest : Type 0
LivesBeginAtRest = (start : Start) → NobodyStarts start → AreResting start (λ h. [])

-- what a host of the plain machine sends in a step, whoever is to take it takes in calm
abbrev pub PlainSendsAreCalm : Type 0
PlainSendsAreCalm =
    (start : Start) (es : List HostStep) (e : HostStep) → Comes start es e
    → Each (λ (x : Addressed). x.to < first_hosts start → is_calm x.to x.signal ≡ true)
    (signals_of start e.host (logs_of start es e.host) e)
