-- A world of which a host has stopped since its node's disk failed: its log has the stop, and each link from it has
-- lost the youngest signal, and may be closed. The other logs and links are as they were.
use Rattle.std.proofs.Common.{◌≡◌, ◌≢◌, ◌+◌, ◌*◌, ◌<◌, ◌&&◌, ◌==◌, ℕ, List, ◌∷◌, length, Bool, true, false, not, refl}
use Rattle.std.proofs.Common.{ap, ◌∙◌, arith, if◌then◌else◌}
use Rattle.std.proofs.lemmas.Bool.{eq-eqb}
use Rattle.run_theory.specs.Links.{is_from}
use Rattle.sig_core.specs.declared.log.LogStep.{LogStep}
use Rattle.sig_core.specs.declared.outcome.StopCause.TheVariants.{Disk}
use Rattle.sig_core.specs.declared.reply.ApiReply.{ApiReply}
use Rattle.sig_core.specs.declared.signal.Body.TheVariants as body
use Rattle.sig_core.specs.declared.signal.Signal.{Signal}
use Rattle.sig_core.specs.declared.signal.host.HostSignal.TheVariants.{Closed}
use Rattle.node_views.specs.Row.{stopping}
use Rattle.world_core.proofs.LogIndex.{logs_at_other, logs_at_own}
use Rattle.world_core.specs.Hosts.{hosts}
use Rattle.world_core.specs.Start.{Start}
use Rattle.world_core.specs.Steps.{HostStep}
use Rattle.world_core.specs.World.{logs_at, of_host}
use Rattle.world_views.specs.Links.{LinkState, close_below, closed_by, link, lose, without}
use Rattle.world_views.specs.Machine.{machine}
use Rattle.world_views.specs.Right.{IsRight}
use Rattle.world_views.specs.World.{Whole, body_at, halting, step_made, stopped}
use Rattle.world_views.proofs.LinkFacts.{close_other, close_own, lose_links, lose_other, lose_own}

module _ (w : Whole) (g count : ℕ) where
  abbrev pub ended : Whole
  ended = stopped w g (Disk count) 1

  abbrev made_step : LogStep
  made_step =
      step_made w (halting w g (body_at w.bodies g).standing.view (Disk count))
      (stopping (body_at w.bodies g) (Disk count))

  -- the step by which it stopped
  abbrev pub stop : HostStep
  stop = of_host g made_step

  pub stop_own : g < length w.logs → logs_at ended.logs g ≡ stop ∷ logs_at w.logs g
  stop_own there = logs_at_own w.logs g made_step there

  pub stop_other : (k : ℕ) → k ≢ g → logs_at ended.logs k ≡ logs_at w.logs k
  stop_other k apart = logs_at_other w.logs g k made_step apart

  -- it took nothing of a link
  pub stop_takes_none : (start : Start) (i : ℕ) → is_from (machine start) i stop ≡ false
  stop_takes_none start i = ap (λ b. not (b && true) && (g == i)) (eq-eqb g g refl)

  -- how its links ended
  record EndsLinks : Type 0 where
    stays : ℕ → Bool
    closing : ℕ → Signal
    says : (j : ℕ) → (closing j).body ≡ body.Host (Closed (Disk count))
    is : ended.links ≡ close_below (length w.made * 3 + 1) (lose w.links g 1) g stays closing

  ends : EndsLinks
  ends = record { stays = _; closing = _; says = λ j. refl; is = refl }

  pub link_other : (i j : ℕ) → i ≢ g → link ended.links i j ≡ link w.links i j
  link_other i j apart =
      ap (λ links. link links i j) ends.is
      ∙ close_other (length w.made * 3 + 1) (lose w.links g 1) g ends.stays ends.closing i j apart
      ∙ lose_other w.links g 1 i j apart

-- what is left of a link from it, and what is put behind that, if anything
pub data IsLeft (count : ℕ) (l now : LinkState) : Type 0 where
  stays_so : now ≡ without 1 l → IsLeft count l now
  is_closed : (signal : Signal) → signal.body ≡ body.Host (Closed (Disk count)) → now ≡ closed_by signal (without 1 l)
      → IsLeft count l now

module _ (start : Start) (given : List ApiReply) (w : Whole) (right : IsRight start given w) (g count : ℕ)
    (there : g < hosts start)
  where
    all : length w.made * 3 + 1 ≡ hosts start
    all = ap (λ ms. length ms * 3 + 1) right.made

    pub link_own : (j : ℕ) → j < hosts start → IsLeft count (link w.links g j) (link (ended w g count).links g j)
    link_own j low = by (e.stays j) is
      where
        e : EndsLinks w g count
        e = ends w g count

        l : LinkState
        l = without 1 (link w.links g j)

        is : link (ended w g count).links g j ≡ (if e.stays j then l else closed_by (e.closing j) l)
        is =
            ap (λ links. link links g j) e.is
            ∙ close_own (hosts start) (length w.made * 3 + 1) (lose w.links g 1) g e.stays e.closing j
            (lose_links (hosts start) w.links g 1 right.sizes.links) there low (omega (arith, low, all))
            ∙ ap (λ (m : LinkState). if e.stays j then m else closed_by (e.closing j) m)
            (lose_own (hosts start) w.links g 1 j right.sizes.links there low)

        by : (b : Bool) → link (ended w g count).links g j ≡ (if b then l else closed_by (e.closing j) l)
            → IsLeft count (link w.links g j) (link (ended w g count).links g j)
        by true same = stays_so same
        by false same = is_closed (e.closing j) (e.says j) same

    pub logs_there : g < length w.logs
    logs_there = let many = right.sizes.logs in omega (arith, many, there)
