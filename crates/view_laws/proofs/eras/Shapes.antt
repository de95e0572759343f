-- The shape of the cluster that a host knows doesn't change.
use Rattle.std.proofs.Common.{◌≡◌, ◌%◌, ℕ, zero, suc, List, [], ◌∷◌, refl, ap, ◌∙◌}
use Rattle.sig_core.specs.declared.member.Member.{Member}
use Rattle.sig_core.specs.declared.place.Part.{Part}
use Rattle.sig_core.specs.declared.place.Part.TheVariants.{Ldm, Main, Tc}
use Rattle.sig_core.specs.declared.signal.Signal.{Signal}
use Rattle.sig_core.specs.declared.view.Shape.{Shape}
use Rattle.sig_core.specs.Step.{Step}
use Rattle.node_views.specs.declared.host_body.HostBody as hosts
use Rattle.node_views.proofs.HostWalk.{Saying}
use Rattle.world_core.specs.Hosts.{member_at, part_by}
use Rattle.world_core.specs.Start.{NobodyStarts, Start, made}
use Rattle.world_core.specs.Steps.{HostStep}
use Rattle.world_views.specs.Hosts.{part_started, started}
use Rattle.world_views.specs.Machine.{after, step_by, told}
use Rattle.world_views.proofs.StepWalk.{step_so}
use Rattle.world_views.proofs.AllBegin.{started_behind}

abbrev shape_of : hosts.HostBody → Shape
shape_of s = s.standing.shape

-- no step changes it
abbrev Keeps : Shape → Saying
Keeps shape standing parts sends marks = standing.shape ≡ shape

step_keeps : (h : ℕ) (s : hosts.HostBody) (x : Signal) → shape_of (step_by h s x).state ≡ shape_of s
step_keeps h s x =
    step_so (Keeps (shape_of s)) x h s (record {
      own = record {
        counts = λ standing parts sends marks left so. so;
        cuts = λ standing parts sends marks first so. so;
        stops = λ standing parts sends marks cause so. so;
        hushes = λ standing parts sends marks stops so. so;
      };
      stays = refl;
      goes = λ sound old barred left. record { row = λ none. refl; settles = λ view at. refl };
      enters = λ sound newer among left. refl;
      behind = λ sound newer among barred left. record { row = λ none. refl; settles = λ view at. refl };
    })

told_keeps : (h : ℕ) (t : Step hosts.HostBody) → shape_of (told h t) ≡ shape_of t.state
told_keeps zero t = refl
told_keeps (suc h) t = refl

module _ (start : Start) (nobody : NobodyStarts start) where
  part_shape : (part : Part) (me : Member) → shape_of (part_started start part me) ≡ start.shape
  part_shape Main me = refl
  part_shape Tc me = refl
  part_shape Ldm me = refl

  shell_shape : shape_of (started start 0) ≡ start.shape
  unfolding started
  shell_shape = refl

  started_shape : (h : ℕ) → shape_of (started start h) ≡ start.shape
  started_shape zero = shell_shape
  started_shape (suc k) =
      ap shape_of (started_behind start nobody k) ∙ part_shape (part_by (k % 3)) (member_at (made start) (suc k))

  pub shape_stays : (h : ℕ) (log : List HostStep) → (after start h log).standing.shape ≡ start.shape
  shape_stays h [] = started_shape h
  shape_stays h (e ∷ log) =
      let s = after start h log in
      told_keeps h (step_by h s e.step.taken) ∙ step_keeps h s e.step.taken ∙ shape_stays h log
