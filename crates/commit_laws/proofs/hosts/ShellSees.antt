-- The client's side sees the view in which its host stands, and so when it takes a signal.
use Rattle.std.proofs.Common.{◌≡◌, ◌≤◌, ◌<◌, ◌∙◌, Bool, true, false, nat_lt, List, [], ◌∷◌, refl, sym, ap, arith}
use Rattle.std.proofs.lemmas.Bool.{lt-ltb, ltb-true}
use Rattle.std.specs.Prelude.{if◌then◌else◌}
use Rattle.sig_core.specs.declared.place.BlockId.{BlockId}
use Rattle.sig_core.specs.declared.place.BlockId.TheVariants as block
use Rattle.sig_core.specs.declared.signal.Signal.{Signal}
use Rattle.sig_core.specs.declared.view.View.{View}
use Rattle.api_views.specs.Members.{noted}
use Rattle.api_views.specs.State.{ClientState}
use Rattle.node_views.specs.declared.parts.Parts.{Parts}
use Rattle.node_views.specs.declared.parts.Parts.TheVariants.{Shell}
use Rattle.node_views.specs.declared.shell_part.ShellPart.{ShellPart}
use Rattle.node_views.specs.Parts.{shell_row}
use Rattle.node_views.specs.Replies.{giving}
use Rattle.world_core.specs.Start.{NobodyStarts, Start}
use Rattle.world_core.specs.Steps.{HostStep}
use Rattle.world_views.specs.Hosts.{started}
use Rattle.world_views.specs.Machine.{after, step_after}
use Rattle.view_laws.specs.Runs.{view_after}
use Rattle.moment_laws.specs.PartSteps.{PartEnters, PartTakes, ShellDoes, handles, ignores, installs, remains}
use Rattle.moment_laws.specs.PartSteps.{shell_kind}
use Rattle.moment_laws.proofs.PartKinds.{shell_after}
use Rattle.commit_laws.proofs.hosts.ShellViews.{client_notes}

-- a greater view is noted, and none else
noted_newer : (s : ClientState) (view : View) → s.api.view.number < view.number → (noted s view).api.view ≡ view
unfolding noted
noted_newer s view above =
    ap (λ b. if b then view else s.api.view) (lt-ltb s.api.view.number view.number above)

pub noted_older : (s : ClientState) (view : View) → view.number ≤ s.api.view.number
    → (noted s view).api.view ≡ s.api.view
unfolding noted
noted_older s view low = by (nat_lt s.api.view.number view.number) refl
  where
    by : (b : Bool) → nat_lt s.api.view.number view.number ≡ b → (if b then view else s.api.view) ≡ s.api.view
    by true is = let above = ltb-true s.api.view.number view.number is in absurd (omega (arith, low, above))
    by false is = refl

-- the shell's host runs this part, whose client's side sees the view in which the host stands
pub record IsSeeing (start : Start) (log : List HostStep) : Type 0 where
  pub part : ShellPart
  pub runs : (after start 0 log).parts ≡ Shell part
  pub sees : part.client.api.view ≡ view_after start 0 log

module _ (start : Start) (nobody : NobodyStarts start) (log : List HostStep) (e : HostStep) (p : ShellPart)
    (runs : (after start 0 log).parts ≡ Shell p) (sees : p.client.api.view ≡ view_after start 0 log)
  where
    abbrev x : Signal
    x = e.step.taken

    abbrev seen : View
    seen = view_after start 0 (e ∷ log)

    pub did : ShellDoes start.shape p (view_after start 0 log) e.step.taken (step_after start 0 log e).state.parts
        (view_after start 0 (e ∷ log)) (step_after start 0 log e).effects.sends
    did = shell_after start nobody log e p runs

    -- once the view of the signal is installed
    pub between_sees : did.between.client.api.view ≡ view_after start 0 (e ∷ log)
    between_sees = by did.enters
      where
        by : PartEnters shell_kind p (view_after start 0 log) x did.between seen did.front
            → did.between.client.api.view ≡ seen
        by (remains same stands none) = ap (λ (q : ShellPart). q.client.api.view) same ∙ (sees ∙ sym stands)
        by (installs above same stands is) =
            ap (λ (q : ShellPart). q.client.api.view) same
            ∙ (noted_newer p.client x.view
            (let stood = ap (λ (v : View). v.number) sees in omega (arith, above, stood)) ∙ sym stands)

    -- and once it is noted, which it is to no avail
    pub noted_sees : x.view.number ≤ seen.number
        → (noted did.between.client e.step.taken.view).api.view ≡ view_after start 0 (e ∷ log)
    noted_sees low =
        noted_older did.between.client x.view
        (let same = ap (λ (v : View). v.number) between_sees in omega (arith, low, same))
        ∙ between_sees

    row_sees : x.view.number ≤ seen.number → (b : BlockId) → (shell_row did.between b x).state.client.api.view ≡ seen
    unfolding shell_row
    row_sees low block.Api = client_notes did.between.client x ∙ noted_sees low
    row_sees low block.Arbiter = between_sees
    row_sees low _ = between_sees

    own_sees : did.own.client.api.view ≡ seen
    own_sees = by did.takes
      where
        by : PartTakes shell_kind start.shape did.between seen x did.own did.rest → did.own.client.api.view ≡ seen
        by (ignores same none) = ap (λ (q : ShellPart). q.client.api.view) same ∙ between_sees
        by (handles passed same is) =
            ap (λ (q : ShellPart). q.client.api.view) same ∙ row_sees passed.low x.to.block

    next_seeing : IsSeeing start (e ∷ log)
    next_seeing = record {
      part = told did.own;
      runs = ap (λ (parts : Parts). giving parts []) did.is;
      sees = own_sees;
    }
      where
        told : ShellPart → ShellPart
        told q = record {
          client =
              record (q.client) {
                api = record {
                  view = q.client.api.view;
                  opened = q.client.api.opened;
                  own = q.client.api.own;
                  dump = q.client.api.dump;
                  replies = [];
                };
              };
          arbiter = q.arbiter;
        }

first_seeing : (start : Start) → IsSeeing start []
unfolding started
first_seeing start = record { part = _; runs = refl; sees = refl }

pub seeing : (start : Start) (nobody : NobodyStarts start) (log : List HostStep) → IsSeeing start log
seeing start nobody [] = first_seeing start
seeing start nobody (e ∷ log) =
    let one = seeing start nobody log in next_seeing start nobody log e one.part one.runs one.sees
