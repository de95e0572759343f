-- What is known of a calm step of a peaceful run, where no closing is under way at its host.
use Rattle.std.proofs.Common.{◌≡◌, ◌<◌, List, ◌∷◌, Bool, true, false, refl, ◌∙◌, subst}
use Rattle.frag_map.specs.Shape.{IsShape}
use Rattle.run_laws.specs.Transit.{Comes}
use Rattle.run_theory.proofs.Runs.{log_of-own}
use Rattle.run_theory.specs.Runs.{IsWithin, Run, log_of}
use Rattle.world_core.specs.Hosts.{first_hosts}
use Rattle.world_core.specs.Machine as plain
use Rattle.world_core.specs.Start.{NobodyStarts, Start}
use Rattle.world_core.specs.Steps.{HostStep}
use Rattle.world_views.specs.Machine.{after, machine}
use Rattle.world_views.specs.Sending.{is_asked}
use Rattle.calm_laws.specs.Alike.{IsAtEase}
use Rattle.calm_laws.specs.Calm.{is_calm}
use Rattle.calm_laws.specs.Plain.{is_beating}
use Rattle.calm_laws.specs.Steps.{ComesCalmly}
use Rattle.calm_laws.proofs.lives.Events.{within_next}
use Rattle.level_laws.specs.Laws.{HostsAreLevel}
use Rattle.view_laws.proofs.fences.WhatLinksOwe.{running_if}
use Rattle.peace_laws.specs.Alike.{RestsOfClosings}
use Rattle.peace_laws.specs.Parts.{levelled}
use Rattle.peace_laws.proofs.lives.Arrivals.{Arrives, beats_unasked, main_comes, seen}
use Rattle.peace_laws.proofs.near.CalmNear.{main_marks, part_alike}
use Rattle.peace_laws.proofs.closings.Signals.{IsPlainKind, calm_apart, calm_kind, calm_links, not_closing}
use Rattle.peace_laws.proofs.near.Mirrored.{IsMirrored}
use Rattle.peace_laws.proofs.lives.NextGood.{IsNextInCalm}
use Rattle.peace_laws.proofs.near.PeaceNext.{IsCalmNext, calm_next}
use Rattle.peace_laws.proofs.plain.Events.{left_none, plain_events, plain_within}
use Rattle.peace_laws.proofs.near.Runs.{IsKept, arrival, fine, known}

module _ (hosts_level : HostsAreLevel) (start : Start) (nobody : NobodyStarts start) (shape : IsShape start.shape)
    (es : List HostStep) (e : HostStep)
    (run : Run (machine start) (e ∷ es)) (calm : is_calm e.host e.step.taken ≡ true)
    (within : IsWithin (first_hosts start) (log_of (machine start) es)) (low : e.host < first_hosts start)
    (kept : IsKept start es) (rests : RestsOfClosings (after start e.host (log_of (machine start) es e.host)).parts)
  where
    abbrev log : List HostStep
    log = log_of (machine start) es e.host

    abbrev before : IsMirrored start e.host log
    before = kept.mirrored e.host

    pub next : IsCalmNext start es e
    next = calm_next hosts_level start nobody shape es e run.1 calm within low kept rests

    at_ease : IsAtEase start (after start e.host (e ∷ log)).standing
    at_ease =
        subst (λ (all : List HostStep). IsAtEase start (after start e.host all).standing)
        (log_of-own (machine start) e es e.host refl) (next.kept.mirrored e.host).near.standing

    -- of a main part
    module _ (beats : is_beating e.host ≡ true) where
      unasked : is_asked e.host e.step.taken ≡ false
      unasked = beats_unasked start es e.host e.step.taken within kept.mirrored calm beats

      beat_comes : ComesCalmly start e.host e.step.taken
      beat_comes =
          main_comes start es e.host e.step.taken within kept.mirrored (calm_links e.host e.step.taken calm)
          (run.1.takes unasked) calm beats

    -- of another host
    module _ (takes : is_beating e.host ≡ false) where
      kind : IsPlainKind e.step.taken.to.block e.step.taken.body
      kind = calm_kind e.host e.step.taken takes calm

      arrives : Arrives start es e.host e.step.taken
      arrives = arrival hosts_level start shape es e run.1 within low kept nobody kind takes

      part_comes : ComesCalmly start e.host e.step.taken
      part_comes =
          record {
            calm = calm;
            fine = fine hosts_level start shape es e run.1 within low kept nobody kind takes;
            view = arrives.view;
            known = known hosts_level start shape es e run.1 within low kept nobody kind takes;
            vouched = arrives.vouched;
          }

      coming : Comes start (plain_events start es) (levelled start.epoch e)
      coming =
          let runs : Run (plain.machine start) (levelled start.epoch e ∷ plain_events start es) =
          subst (λ b. Run (plain.machine start) (running_if b (levelled start.epoch e) (plain_events start es)))
          (left_none e takes (not_closing e.host e.step.taken (calm_apart e.host e.step.taken calm))) next.kept.run in
          let here : IsWithin (first_hosts start) (log_of (plain.machine start) (plain_events start es)) =
          plain_within start (first_hosts start) es within in
          record {
            before = record { shape = shape; run = runs.0; within = here };
            happens = runs.1;
            now = record {
              shape = shape;
              run = runs;
              within = within_next start (first_hosts start) (levelled start.epoch e) (plain_events start es) low here;
            };
          }

    comes_by : (b : Bool) → is_beating e.host ≡ b → ComesCalmly start e.host e.step.taken
    comes_by true beats = beat_comes beats
    comes_by false takes = part_comes takes

    pub facts : IsNextInCalm start es e before
    facts =
        record {
          comes = comes_by (is_beating e.host) refl;
          goes_on = next.goes_on;
          ease = at_ease;
          unasked = unasked;
          member = λ beats.
              (seen start es e.host e.step.taken within kept.mirrored (calm_links e.host e.step.taken calm)
              (run.1.takes (unasked beats))).member;
          asked = λ takes. (arrives takes).asked;
          alike = λ takes. part_alike hosts_level start shape e.host log e takes before rests (part_comes takes);
          plain = coming;
          marks = run.1.step.fits.marks;
          none = λ beats. run.1.step.fits.marks ∙ main_marks start e.host log e beats before rests (beat_comes beats);
        }
