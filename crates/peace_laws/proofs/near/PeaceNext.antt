-- A calm step of a peaceful run, where no closing is under way at its host.
use Rattle.std.proofs.Common.{◌≡◌, ◌<◌, List, ◌∷◌, Bool, true, false, refl, ap, ◌∙◌}
use Rattle.frag_map.specs.Shape.{IsShape}
use Rattle.run_theory.specs.Runs.{Happens, IsWithin, log_of}
use Rattle.world_core.specs.Hosts.{first_hosts}
use Rattle.world_core.specs.Start.{NobodyStarts, Start}
use Rattle.world_core.specs.Steps.{HostStep}
use Rattle.world_views.specs.Machine.{after, machine, stops_by}
use Rattle.calm_laws.specs.Calm.{is_calm}
use Rattle.calm_laws.specs.Plain.{is_beating}
use Rattle.calm_laws.specs.Steps.{ComesCalmly}
use Rattle.level_laws.specs.Laws.{HostsAreLevel}
use Rattle.peace_laws.specs.Alike.{RestsOfClosings}
use Rattle.peace_laws.proofs.lives.Arrivals.{beats_unasked, main_comes}
use Rattle.peace_laws.proofs.near.CalmNear.{main_left, main_marks, main_rests, part_alike, part_rests, part_step}
use Rattle.peace_laws.proofs.closings.Signals.{IsPlainKind, calm_apart, calm_kind, calm_links, not_closing}
use Rattle.peace_laws.proofs.near.Mirrored.{IsMirrored}
use Rattle.peace_laws.proofs.plain.Events.{left_beating}
use Rattle.peace_laws.proofs.near.Runs.{IsKept, arrival, fine, known, later, left_next, plain_next}

-- the run is kept, its host rests of closings still, and goes on
pub record IsCalmNext (start : Start) (es : List HostStep) (e : HostStep) : Type 0 where
  pub kept : IsKept start (e ∷ es)
  pub rests : RestsOfClosings (after start e.host (e ∷ log_of (machine start) es e.host)).parts
  pub goes_on : stops_by e.step.marks ≡ false

module _ (hosts_level : HostsAreLevel) (start : Start) (nobody : NobodyStarts start) (shape : IsShape start.shape)
    (es : List HostStep) (e : HostStep)
    (happens : Happens (machine start) es e) (calm : is_calm e.host e.step.taken ≡ true)
    (within : IsWithin (first_hosts start) (log_of (machine start) es)) (low : e.host < first_hosts start)
    (kept : IsKept start es) (rests : RestsOfClosings (after start e.host (log_of (machine start) es e.host)).parts)
  where
    abbrev log : List HostStep
    log = log_of (machine start) es e.host

    abbrev before : IsMirrored start e.host log
    before = kept.mirrored e.host

    -- of a main part
    main_next : is_beating e.host ≡ true → IsCalmNext start es e
    main_next beats =
        let comes : ComesCalmly start e.host e.step.taken =
        main_comes start es e.host e.step.taken within kept.mirrored (calm_links e.host e.step.taken calm)
        (happens.takes (beats_unasked start es e.host e.step.taken within kept.mirrored calm beats)) calm beats in
        record {
          kept =
              left_next hosts_level start shape es e happens within low kept (left_beating e beats)
              (main_left start e.host log e beats before rests comes
              (later hosts_level start shape es e happens within low kept nobody));
          rests = main_rests start e.host log e beats before rests comes;
          goes_on = ap stops_by (happens.step.fits.marks ∙ main_marks start e.host log e beats before rests comes);
        }

    -- of another host
    part_next : is_beating e.host ≡ false → IsCalmNext start es e
    part_next takes =
        let kind : IsPlainKind e.step.taken.to.block e.step.taken.body = calm_kind e.host e.step.taken takes calm in
        let arrives = arrival hosts_level start shape es e happens within low kept nobody kind takes in
        let comes : ComesCalmly start e.host e.step.taken =
        record {
          calm = calm;
          fine = fine hosts_level start shape es e happens within low kept nobody kind takes;
          view = arrives.view;
          known = known hosts_level start shape es e happens within low kept nobody kind takes;
          vouched = arrives.vouched;
        } in
        let alike = part_alike hosts_level start shape e.host log e takes before rests comes in
        record {
          kept =
              plain_next hosts_level start shape es e happens within low kept nobody kind takes
              (not_closing e.host e.step.taken (calm_apart e.host e.step.taken calm))
              (part_step hosts_level start shape e.host log e takes before rests comes nobody happens.step.fits.marks
              arrives.asked)
              (happens.step.fits.marks ∙ alike.marks);
          rests = part_rests hosts_level start shape e.host log e takes before rests comes;
          goes_on = ap stops_by (happens.step.fits.marks ∙ alike.marks) ∙ alike.goes_on;
        }

    pub calm_next : IsCalmNext start es e
    calm_next = go (is_beating e.host) refl
      where
        go : (b : Bool) → is_beating e.host ≡ b → IsCalmNext start es e
        go true beats = main_next beats
        go false takes = part_next takes
