-- What hosts of a kind send and mark: the words and marks of their blocks, since they stay of that kind.
use Rattle.std.proofs.Common.{◌≡◌, ℕ, true, List, [], ◌∷◌}
use Rattle.run_theory.specs.Lists.{Each}
use Rattle.sig_core.specs.declared.mark.Mark.{Mark}
use Rattle.sig_core.specs.declared.outs.Outgoing.{Outgoing}
use Rattle.sig_core.specs.declared.signal.Body.{Body}
use Rattle.sig_core.specs.declared.signal.Signal.{Signal}
use Rattle.sig_core.specs.declared.view.View.{View}
use Rattle.node_views.specs.Blocks.{parts_entered, parts_row}
use Rattle.node_views.specs.declared.host_body.HostBody as hosts
use Rattle.node_views.specs.declared.parts.Parts.{Parts}
use Rattle.node_views.specs.declared.parts.Parts.TheVariants.{Ldm, Main, Shell, Tc}
use Rattle.node_views.specs.Replies.{giving}
use Rattle.world_core.specs.Start.{Start}
use Rattle.world_core.specs.Steps.{HostStep}
use Rattle.world_views.specs.Hosts.{started}
use Rattle.world_views.specs.Machine.{after, step_after, step_by, told}
use Rattle.request_laws.proofs.routes.Hosts.{IsBeside}
use Rattle.node_views.specs.Words.{host_marks, parts_marks, parts_words}
use Rattle.node_views.proofs.HostEach.{IsOfHost}
use Rattle.sig_core.specs.declared.mark.Mark.TheVariants.{CutOff, Installed, Stopped}
use Rattle.world_views.proofs.StepEach.{step_words}
use Rattle.world_views.proofs.StepWalk.{IsTaken, next_comes}

-- the kind of a part is the kind of what it runs
abbrev pub OfKind : Type 0 → Type 0 → Type 0 → Type 0 → Parts → Type 0
OfKind shell main tc ldm (Shell p) = shell
OfKind shell main tc ldm (Main p) = main
OfKind shell main tc ldm (Tc p) = tc
OfKind shell main tc ldm (Ldm p) = ldm

-- the client's side, or a membership with the master of checkpoints; and those with hosts of rows
abbrev pub Beside : Parts → Type 0
Beside parts = OfKind (Unit {0}) (Unit {0}) ⊥ ⊥ parts

abbrev pub Apart : Parts → Type 0
Apart parts = OfKind (Unit {0}) (Unit {0}) ⊥ (Unit {0}) parts

pub of_beside : (parts : Parts) → IsBeside parts → Beside parts
of_beside (Shell p) beside = tt
of_beside (Main p) beside = tt
of_beside (Tc p) beside = absurd beside
of_beside (Ldm p) beside = absurd beside

module _ (shell main tc ldm : Type 0) where
  abbrev Is : Parts → Type 0
  Is parts = OfKind shell main tc ldm parts

  pub row_stays : (x : Signal) (parts : Parts) → Is parts → Is (parts_row parts x).state
  row_stays x (Shell p) is = is
  row_stays x (Main p) is = is
  row_stays x (Tc p) is = is
  row_stays x (Ldm p) is = is

  pub entered_stays : (parts : Parts) (view : View) → Is parts → Is (parts_entered parts view).state
  entered_stays (Shell p) view is = is
  entered_stays (Main p) view is = is
  entered_stays (Tc p) view is = is
  entered_stays (Ldm p) view is = is

  given_stays : (parts : Parts) → Is parts → Is (giving parts [])
  given_stays (Shell p) is = is
  given_stays (Main p) is = is
  given_stays (Tc p) is = is
  given_stays (Ldm p) is = is

  takes_stay : (x : Signal) (stood : View) (parts : Parts) (before : List Outgoing) → Is parts
      → IsTaken (λ view parts sends. Is parts) x stood parts before
  takes_stay x stood parts before is = record {
    row = λ none. row_stays x parts is;
    settles = λ view at. entered_stays (parts_row parts x).state view (row_stays x parts is);
  }

  step_stays : (h : ℕ) (s : hosts.HostBody) (x : Signal) → Is s.parts → Is (told h (step_by h s x)).parts
  step_stays h s x is =
      next_comes (λ view parts sends. Is parts) x h s (record {
        stays = is;
        hushed = λ view parts sends same. same;
        goes = λ old barred. takes_stay x s.standing.view s.parts [] is;
        enters = λ newer among. entered_stays s.parts x.view is;
        behind = λ newer among barred. takes_stay x x.view _ _ (entered_stays s.parts x.view is);
      }) (λ view parts sends same. given_stays parts same)

  -- a host stays of its kind
  pub kind_stays : (start : Start) (h : ℕ) → OfKind shell main tc ldm (started start h).parts → (log : List HostStep)
      → OfKind shell main tc ldm (after start h log).parts
  kind_stays start h first [] = first
  kind_stays start h first (e ∷ log) =
      step_stays h (after start h log) e.step.taken (kind_stays start h first log)

  -- what is so of each word of such a host is so of all that it sends
  pub host_each : (Q : Body → Type 0)
      → ((parts : Parts) → OfKind shell main tc ldm parts → (body : Body) → parts_words parts body ≡ true → Q body)
      → (start : Start) (h : ℕ) → OfKind shell main tc ldm (started start h).parts
      → (log : List HostStep) (e : HostStep)
      → Each (λ (sent : Outgoing). Q sent.body) (step_after start h log e).effects.sends
  host_each Q of_words start h first log e =
      (step_words Q (λ (mark : Mark). Unit {0}) h (after start h log) e.step.taken
      (of_words (after start h log).parts (kind_stays start h first log)) (λ mark among. tt)).0

  -- and so it is of its marks, and those that any host makes
  pub host_marks_each : (M : Mark → Type 0) → IsOfHost M
      → ((parts : Parts) → OfKind shell main tc ldm parts → (mark : Mark) → parts_marks parts mark ≡ true → M mark)
      → (start : Start) (h : ℕ) → OfKind shell main tc ldm (started start h).parts
      → (log : List HostStep) (e : HostStep)
      → Each M (step_after start h log e).effects.marks
  host_marks_each M own of_marks start h first log e =
      (step_words (λ (body : Body). Unit {0}) M h (after start h log) e.step.taken (λ body word. tt)
      (by (after start h log).parts (kind_stays start h first log))).1
    where
      by : (parts : Parts) → Is parts → (mark : Mark) → host_marks parts mark ≡ true → M mark
      by parts is (Stopped cause) among = own.stops cause
      by parts is (Installed view) among = own.installs view
      by parts is (CutOff host) among = own.cuts host
      by parts is mark among = of_marks parts is mark among
