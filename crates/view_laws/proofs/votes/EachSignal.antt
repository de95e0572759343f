-- What is said of all that the blocks of a host send at their signal, along with what happens to some of these blocks,
-- is so of a step of the host, if it may be said of whatever is no vote.
use Rattle.std.proofs.Common.{◌++◌, ℕ, Bool, List, [], ◌∷◌}
use Rattle.run_theory.specs.Lists.{Each}
use Rattle.run_theory.proofs.Pasts.{each_append, each_map}
use Rattle.sig_core.specs.declared.outs.Outgoing.{Outgoing}
use Rattle.sig_core.specs.declared.place.BlockId.{BlockId}
use Rattle.sig_core.specs.declared.signal.Signal.{Signal}
use Rattle.sig_core.specs.declared.view.View.{View}
use Rattle.node_views.specs.Blocks.{parts_entered, parts_row}
use Rattle.node_views.specs.declared.host_body.HostBody as hosts
use Rattle.node_views.specs.declared.parts.Parts.{Parts}
use Rattle.qmgr_block.specs.Laws.{Event, installs}
use Rattle.world_views.specs.Machine.{step_by}
use Rattle.view_laws.specs.HostEvents.{events_at, taking}
use Rattle.view_laws.proofs.votes.Lists.{IsSaidOf, SayingAll, all_said}
use Rattle.view_laws.proofs.votes.NoVotes.{IsNoVote}

-- of what is sent, with the events of the step so far
abbrev pub Saying : Type 1
Saying = List Event → Outgoing → Type 0

-- it may be said of what these parts send at the signal, also where they install a view behind it, and of what is no
-- vote
pub record IsSaid (mine : BlockId → Bool) (P : Saying) (parts : Parts) (x : Signal) : Type 0 where
  pub row : Each (P (taking mine x (mine x.to.block))) (parts_row parts x).effects.sends
  pub later : (view : View) (sent : Outgoing) → P (taking mine x (mine x.to.block)) sent
      → P (installs view ∷ taking mine x (mine x.to.block)) sent
  pub none : (events : List Event) (sent : Outgoing) → IsNoVote sent → P events sent

-- what is said of events, said of those before which a view is installed
abbrev pub behind_view : View → Saying → Saying
behind_view view P = λ events sent. P (events ++ installs view ∷ []) sent

-- so of each of them
abbrev of_each : Saying → SayingAll
of_each P = λ events sends. Each (P events) sends

module _ (mine : BlockId → Bool) (x : Signal) where
  each_said : (P : Saying) (parts : Parts) → IsSaid mine P parts x → IsSaidOf mine (of_each P) parts x
  each_said P parts said = record {
    opens = record {
      none = λ events. tt;
      front = λ events more sends none all.
          each_append (P events) more sends (each_map IsNoVote (P events) more (said.none events) none) all;
    };
    row = said.row;
    later = λ view sends more none all.
        let taken = taking mine x (mine x.to.block) in
        let events = installs view ∷ taken in
        each_append (P events) sends more (each_map (P taken) (P events) sends (said.later view) all)
        (each_map IsNoVote (P events) more (said.none events) none);
  }

  pub step_said : (P : Saying) (s : hosts.HostBody) → IsSaid mine P s.parts x
      → IsSaid mine (behind_view x.view P) (parts_entered s.parts x.view).state x → (h : ℕ)
      → Each (P (events_at mine h s x)) (step_by h s x).effects.sends
  step_said P s said behind h =
      all_said mine x (of_each P) s (each_said P s.parts said)
      (each_said (behind_view x.view P) (parts_entered s.parts x.view).state behind) h
