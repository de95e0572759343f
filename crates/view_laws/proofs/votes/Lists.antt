-- What is said of all that a host sends in a step, as a list, along with what happens to some of its blocks.
use Rattle.std.proofs.Common.{◌≡◌, ◌||◌, ◌++◌, ℕ, zero, suc, Bool, true, false, List, [], ◌∷◌, refl, ap}
use Rattle.std.specs.Prelude.{if◌then◌else◌, is_some, not, Option, None, Some}
use Rattle.sig_core.specs.declared.member.HostId.{HostId}
use Rattle.sig_core.specs.declared.outcome.StopCause.{StopCause}
use Rattle.sig_core.specs.declared.outs.Outgoing.{Outgoing}
use Rattle.sig_core.specs.declared.place.BlockId.{BlockId}
use Rattle.sig_core.specs.declared.signal.Body.{Body}
use Rattle.sig_core.specs.declared.signal.Body.TheVariants.{Host}
use Rattle.sig_core.specs.declared.signal.Signal.{Signal}
use Rattle.sig_core.specs.declared.signal.host.HostSignal.TheVariants.{Closed, Cut, Kill}
use Rattle.sig_core.specs.declared.view.View.{View}
use Rattle.api_views.specs.Members.{same_member}
use Rattle.node_views.specs.Blocks.{parts_entered, parts_row, settled_at}
use Rattle.node_views.specs.declared.host_body.HostBody as hosts
use Rattle.node_views.specs.declared.parts.Parts.{Parts}
use Rattle.node_views.specs.Row.{blocks_row, closed_if, counted_row, counted_stop, cut_if, entered, entering_if}
use Rattle.node_views.specs.Row.{headed_if, headed_row, host_row, host_table, is_barred, is_excluded, kill_row}
use Rattle.node_views.specs.Row.{killed_after, passed_if, passed_row, settle, standing_at, taken_if, unless_stopped}
use Rattle.node_views.specs.Row.{with_parts}
use Rattle.node_views.specs.WellFormed.{is_well_formed}
use Rattle.qmgr_block.specs.Laws.{Event, installs}
use Rattle.world_views.specs.Machine.{own_stop, step_by, step_if}
use Rattle.view_laws.specs.HostEvents.{block_events, counted_events, entering_events, events_at, events_by}
use Rattle.view_laws.specs.HostEvents.{headed_events, installing, is_handled, is_newer, passed_events, sound_events}
use Rattle.view_laws.specs.HostEvents.{taking}
use Rattle.view_laws.proofs.votes.NoVotes.{AreNoVotes}
use Rattle.view_laws.proofs.votes.Parts.{entered_none}

-- of all that is sent, with the events of the step so far
abbrev pub SayingAll : Type 1
SayingAll = List Event → List Outgoing → Type 0

abbrev pub behind_all : View → SayingAll → SayingAll
behind_all view P = λ events sends. P (events ++ installs view ∷ []) sends

-- it may be said of nothing, and what is no vote may stand before it
pub record IsOpenTo (P : SayingAll) : Type 0 where
  pub none : (events : List Event) → P events []
  pub front : (events : List Event) (more sends : List Outgoing) → AreNoVotes more → P events sends
      → P events (more ++ sends)

-- it is so of what these parts send at the signal, also where they install a view behind it
pub record IsSaidOf (mine : BlockId → Bool) (P : SayingAll) (parts : Parts) (x : Signal) : Type 0 where
  pub opens : IsOpenTo P
  pub row : P (taking mine x (mine x.to.block)) (parts_row parts x).effects.sends
  pub later : (view : View) (sends more : List Outgoing) → AreNoVotes more
      → P (taking mine x (mine x.to.block)) sends
      → P (installs view ∷ taking mine x (mine x.to.block)) (sends ++ more)

module _ (mine : BlockId → Bool) (x : Signal) where
  module _ (P : SayingAll) (s : hosts.HostBody) (said : IsSaidOf mine P s.parts x) where
    settle_said : (o : Option View)
        → P (installing mine o ++ taking mine x (mine x.to.block))
        (settle (with_parts s (parts_row s.parts x)) o).effects.sends
    unfolding entered
    settle_said None = said.row
    settle_said (Some view) =
        let now = (parts_row s.parts x).state in
        said.later view (parts_row s.parts x).effects.sends (parts_entered now view).effects.sends
        (entered_none now view) said.row

    blocks_said : P (block_events mine s x) (blocks_row s x).effects.sends
    unfolding blocks_row
    blocks_said = settle_said (settled_at s.parts x)

    kill_said : (after : ℕ) → P [] (kill_row s after).effects.sends
    kill_said zero = said.opens.none []
    kill_said (suc after) = said.opens.none []

    cut_said : (first : HostId) (b : Bool) → P [] (cut_if s first b).effects.sends
    cut_said first true = said.opens.none []
    cut_said first false = said.opens.none []

    closed_said : (b : Bool) → P (if not b then block_events mine s x else []) (closed_if s x b).effects.sends
    closed_said true = said.opens.none []
    closed_said false = blocks_said

    table_said : (body : Body)
        → P (if not (is_handled s x body) then block_events mine s x else []) (host_table s x body).effects.sends
    table_said (Host (Kill after)) = kill_said after
    table_said (Host (Cut node first)) = cut_said first _
    table_said (Host (Closed cause)) = closed_said (same_member s.standing.member x.member)
    table_said body = blocks_said

    passed_said : P (passed_events mine s x) (passed_row s x).effects.sends
    unfolding passed_row
    passed_said = by (is_barred s x)
      where
        by : (b : Bool)
            → P (if not (b || is_handled s x x.body) then block_events mine s x else []) (passed_if s x b).effects.sends
        by true = said.opens.none []
        by false = table_said x.body

  -- where its header may be installed
  module _ (P : SayingAll) where
    headed_said : (s : hosts.HostBody) → IsSaidOf mine P s.parts x
        → IsSaidOf mine (behind_all x.view P) (parts_entered s.parts x.view).state x
        → P (headed_events mine s x) (headed_row s x).effects.sends
    unfolding headed_row entered
    headed_said s said behind = by (is_newer mine s x)
      where
        unless_excluded : (b : Bool)
            → P (if b then [] else entering_events mine s x) (entering_if s x b).effects.sends
        unless_excluded true = said.opens.none []
        unless_excluded false =
            said.opens.front (entering_events mine s x) (parts_entered s.parts x.view).effects.sends
            (passed_row (entered s x.view).state x).effects.sends (entered_none s.parts x.view)
            (passed_said (behind_all x.view P) (entered s x.view).state behind)

        by : (b : Bool)
            → P (if b then (if is_excluded s.standing x.view then [] else entering_events mine s x)
            else passed_events mine s x)
            (headed_if s x b).effects.sends
        by true = unless_excluded (is_excluded s.standing x.view)
        by false = passed_said P s said

    module _ (s : hosts.HostBody) (said : IsSaidOf mine P s.parts x)
        (behind : IsSaidOf mine (behind_all x.view P) (parts_entered s.parts x.view).state x) where
      counted_said : (left : Option ℕ) → P (counted_events mine s x left) (counted_row s x left).effects.sends
      counted_said None = headed_said s said behind
      counted_said (Some zero) = said.opens.none []
      counted_said (Some (suc zero)) = said.opens.none []
      counted_said (Some (suc (suc left))) =
          headed_said (standing_at s (killed_after s.standing (Some (suc left)))) said behind

      hushed_said : (events : List Event) (sends : List Outgoing) (b : Bool) → P events sends
          → P events (unless_stopped sends b)
      hushed_said events sends true all = said.opens.none events
      hushed_said events sends false all = all

      host_said : P (sound_events mine s x (is_well_formed s.standing.shape x)) (host_row s x).effects.sends
      unfolding host_row
      host_said = by (is_well_formed s.standing.shape x)
        where
          by : (b : Bool) → P (sound_events mine s x b) (taken_if s x b).effects.sends
          by true =
              let step = counted_row s x s.standing.left in
              hushed_said (counted_events mine s x s.standing.left) step.effects.sends
              (is_some (counted_stop s x s.standing.left)) (counted_said s.standing.left)
          by false = said.opens.none []

      pub all_said : (h : ℕ) → P (events_at mine h s x) (step_by h s x).effects.sends
      all_said h = by (own_stop h x)
        where
          by : (o : Option StopCause) → P (events_by mine s x o) (step_if s x o).effects.sends
          by (Some cause) = said.opens.none []
          by None = host_said

-- at a signal that isn't well formed nothing is sent
unsound_sends : (s : hosts.HostBody) (x : Signal) → is_well_formed s.standing.shape x ≡ false
    → (host_row s x).effects.sends ≡ []
unfolding host_row
unsound_sends s x off = ap (λ b. (taken_if s x b).effects.sends) off

pub unsound_none : (h : ℕ) (s : hosts.HostBody) (x : Signal) → is_well_formed s.standing.shape x ≡ false
    → (step_by h s x).effects.sends ≡ []
unsound_none h s x off = by (own_stop h x)
  where
    by : (o : Option StopCause) → (step_if s x o).effects.sends ≡ []
    by (Some cause) = refl
    by None = unsound_sends s x off
