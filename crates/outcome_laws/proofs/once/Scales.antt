-- Scales: what the blocks of a host weigh, with what they send and mark of a kind, grows in a step of the host by no
-- more than where they take its signal.
use Rattle.std.proofs.Common.{◌≡◌, ◌≤◌, ◌+◌, ◌++◌, ℕ, zero, suc, Bool, false, List, [], ◌∷◌, ap, arith}
use Rattle.std.specs.List.{count_by}
use Rattle.sig_core.specs.declared.mark.Mark.{Mark}
use Rattle.sig_core.specs.declared.mark.Mark.TheVariants.{CutOff, Installed, Stopped}
use Rattle.sig_core.specs.declared.member.HostId.{HostId}
use Rattle.sig_core.specs.declared.outcome.StopCause.{StopCause}
use Rattle.sig_core.specs.declared.outs.Outgoing.{Outgoing}
use Rattle.sig_core.specs.declared.signal.Body.{Body}
use Rattle.sig_core.specs.declared.signal.Signal.{Signal}
use Rattle.sig_core.specs.declared.view.View.{View}
use Rattle.sig_core.specs.Step.{Effects, joined, nothing}
use Rattle.tc_block.specs.Complete.{one_if}
use Rattle.node_views.specs.Blocks.{parts_entered, parts_row}
use Rattle.node_views.specs.declared.host_body.HostBody as hosts
use Rattle.node_views.specs.declared.parts.Parts.{Parts}
use Rattle.node_views.specs.declared.standing.Standing.{Standing}
use Rattle.node_views.specs.Replies.{giving}
use Rattle.node_views.specs.Row.{cut_marks, marks_only}
use Rattle.node_views.proofs.HostWalk.{Saying, StaysSo, TakesSo}
use Rattle.world_views.specs.Machine.{step_by, told}
use Rattle.world_views.proofs.StepWalk.{step_so}
use Rattle.outcome_laws.specs.Counts.{count_sent}
use Rattle.outcome_laws.proofs.coordinators.Lists.{count_both, count_more}

-- which signals and marks count, what blocks weigh by themselves, and which signals that they take add one
pub record Scale : Type 0 where
  pub sent : Body → Bool
  pub marked : Mark → Bool
  pub may : Parts → ℕ
  pub taken : Body → Bool

-- how many of these marks pass a test
abbrev pub count_marked : (Mark → Bool) → List Mark → ℕ
count_marked p marks = count_by p marks

-- effects, and blocks behind them, together
abbrev pub weighs : Scale → Effects → Parts → ℕ
weighs scale effects parts =
    count_marked scale.marked effects.marks + (count_sent scale.sent effects.sends + scale.may parts)

module _ (scale : Scale) (Q : Parts → Type 0) where
  -- blocks that are so weigh no more than this
  pub record IsLight (limit : ℕ) (effects : Effects) (parts : Parts) : Type 0 where
    pub keeps : Q parts
    pub below : weighs scale effects parts ≤ limit

  -- where they take a signal, and where views are installed; what the host marks itself doesn't count
  pub record AreLight : Type 0 where
    pub row : (parts : Parts) (x : Signal) → Q parts
        → IsLight (scale.may parts + one_if (scale.taken x.body)) (parts_row parts x).effects (parts_row parts x).state
    pub enters : (parts : Parts) (view : View) → Q parts
        → IsLight (scale.may parts) (parts_entered parts view).effects (parts_entered parts view).state
    pub tells : (parts : Parts) → Q parts → Q (giving parts [])
    pub tells_same : (parts : Parts) → scale.may (giving parts []) ≡ scale.may parts
    pub stops : (cause : StopCause) → scale.marked (Stopped cause) ≡ false
    pub installs : (view : View) → scale.marked (Installed view) ≡ false
    pub cuts : (host : HostId) → scale.marked (CutOff host) ≡ false

  -- one behind the other
  both : (limit more : ℕ) (first then : Effects) (between now : Parts) → IsLight limit first between
      → IsLight (scale.may between + more) then now → IsLight (limit + more) (joined first then) now
  both limit more first then between now one other = record {
    keeps = other.keeps;
    below =
        let marks = count_both scale.marked first.marks then.marks in
        let sends = count_both (λ (sent : Outgoing). scale.sent sent.body) first.sends then.sends in
        omega (arith, marks, sends, one.below, other.below);
  }

  module _ (light : AreLight) where
    unmarked : (mark : Mark) → scale.marked mark ≡ false → (more : List Mark)
        → count_marked scale.marked (mark ∷ more) ≡ count_marked scale.marked more
    unmarked mark none more =
        omega (arith, count_more scale.marked mark more, ap one_if none)

    -- what was sent and marked, with blocks behind it
    abbrev AreWithin : ℕ → Saying
    AreWithin limit standing parts sends marks = IsLight limit (record { sends = sends; marks = marks }) parts

    -- also where the host marks something of its own behind it
    marked : (limit : ℕ) (parts : Parts) (sends : List Outgoing) (marks more : List Mark)
        → count_marked scale.marked more ≡ 0 → IsLight limit (record { sends = sends; marks = marks }) parts
        → IsLight limit (record { sends = sends; marks = marks ++ more }) parts
    marked limit parts sends marks more none is = record {
      keeps = is.keeps;
      below = let all = count_both scale.marked marks more in omega (arith, all, none, is.below);
    }

    cuts_none : (first : HostId) → count_marked scale.marked (cut_marks first) ≡ 0
    cuts_none first =
        let second : HostId = record { 0 = first.0 + 1 } in
        let third : HostId = record { 0 = first.0 + 2 } in
        let one = unmarked (CutOff first) (light.cuts first) (CutOff second ∷ CutOff third ∷ []) in
        let two = unmarked (CutOff second) (light.cuts second) (CutOff third ∷ []) in
        let three = unmarked (CutOff third) (light.cuts third) [] in
        omega (arith, one, two, three)

    stays : (limit : ℕ) → StaysSo (AreWithin limit)
    stays limit = record {
      counts = λ standing parts sends marks left so. so;
      cuts = λ standing parts sends marks first so. marked limit parts sends marks _ (cuts_none first) so;
      stops = λ standing parts sends marks cause so.
          marked limit parts sends marks _ (unmarked (Stopped cause) (light.stops cause) []) so;
      hushes = λ standing parts sends marks stops so.
          record { keeps = so.keeps; below = let below = so.below in omega (arith, below) };
    }

    module _ (x : Signal) where
      abbrev gain : ℕ
      gain = one_if (scale.taken x.body)

      -- where blocks take the signal behind what was done before
      taken : (limit : ℕ) (standing : Standing) (parts : Parts) (before : Effects) → IsLight limit before parts
          → TakesSo (AreWithin (limit + one_if (scale.taken x.body))) x standing parts before.sends before.marks
      taken limit standing parts before was =
          let row = light.row parts x was.keeps in
          let now = (parts_row parts x).state in
          let does = (parts_row parts x).effects in record {
            row = λ none. both limit gain before does parts now was row;
            settles = λ view at.
                let enters = light.enters now view row.keeps in
                let later = parts_entered now view in
                let all =
                both (scale.may parts + gain) 0 does later.effects now later.state row
                (record { keeps = enters.keeps; below = omega (arith, enters.below) }) in
                both limit gain before (joined does later.effects) parts later.state was
                (record { keeps = all.keeps; below = omega (arith, all.below) });
          }

      step_is : (h : ℕ) (s : hosts.HostBody) → Q s.parts
          → IsLight (scale.may s.parts + one_if (scale.taken x.body)) (step_by h s x).effects
          (step_by h s x).state.parts
      step_is h s keeps =
          step_so (AreWithin (scale.may s.parts + one_if (scale.taken x.body))) x h s (record {
            own = stays (scale.may s.parts + gain);
            stays = record { keeps = keeps; below = omega arith };
            goes = λ sound old barred left.
                taken (scale.may s.parts) _ s.parts nothing (record { keeps = keeps; below = omega arith });
            enters = λ sound newer among left.
                record { keeps = entering.keeps; below = omega (arith, entering.below) };
            behind = λ sound newer among barred left. taken (scale.may s.parts) _ _ _ entering;
          })
        where
          entering : IsLight (scale.may s.parts)
              (joined (marks_only (Installed x.view ∷ [])) (parts_entered s.parts x.view).effects)
              (parts_entered s.parts x.view).state
          entering =
              let enters = light.enters s.parts x.view keeps in record {
                keeps = enters.keeps;
                below =
                    let none =
                    unmarked (Installed x.view) (light.installs x.view) (parts_entered s.parts x.view).effects.marks in
                    omega (arith, none, enters.below);
              }

      -- also behind the replies that are told
      pub step_light : (h : ℕ) (s : hosts.HostBody) → Q s.parts
          → IsLight (scale.may s.parts + one_if (scale.taken x.body)) (step_by h s x).effects
          (told h (step_by h s x)).parts
      step_light zero s keeps =
          let step = step_by zero s x in
          let is = step_is zero s keeps in
          let same = light.tells_same step.state.parts in
          record { keeps = light.tells step.state.parts is.keeps; below = omega (arith, same, is.below) }
      step_light (suc h) s keeps = step_is (suc h) s keeps
