-- What a walk gives out doesn't depend on the epoch that it notes; and that is no later than the commits that it was
-- told of.
use Rattle.std.proofs.Common.{◌≡◌, ◌≤◌, ℕ, List, [], ◌∷◌, max, refl, ap, ◌∙◌, arith}
use Rattle.std.specs.Prelude.{Option, None, Some}
use Rattle.sig_core.specs.declared.member.TxId.{TxId}
use Rattle.sig_core.specs.declared.redo.Redo.TheVariants as redo
use Rattle.sig_core.specs.Rows.{RowsState, commit_record, next_place}
use Rattle.sig_core.specs.Walk.{WalkState}
use Rattle.local_ckpt.specs.Events.{Abort, Commit, Complete, Event, Moment, Prepare, Step, given_by, log_if, moment}
use Rattle.local_ckpt.specs.Events.{next, noting_if, stepped_by}
use Rattle.local_ckpt.specs.Orderly.{image_in}
use Rattle.journal_laws.specs.Checkpoints.{moment_behind}
use Rattle.journal_laws.specs.Events.{AreUpTo, IsUpTo}

-- the moment, had its walk noted this epoch
abbrev pub had_noted : Moment → ℕ → Moment
had_noted m epoch = moment m.rows m.log (record m.walk { epoch = epoch }) m.pieces

-- it is this moment, had its walk noted some epoch
abbrev IsButEpoch : Moment → Moment → Type 0
IsButEpoch one m = (epoch : ℕ) × (one ≡ had_noted m epoch)

module _ (m : Moment) (epoch : ℕ) where
  commit_but : (tx : TxId) (key : List ℕ) (at : ℕ) (o : Option (Option (List ℕ)))
      → IsButEpoch
      (moment (commit_record m.rows tx key at) (log_if (redo.Commit tx at key) o m.log)
      (noting_if (had_noted m epoch).walk at o) m.pieces)
      (moment (commit_record m.rows tx key at) (log_if (redo.Commit tx at key) o m.log) (noting_if m.walk at o)
      m.pieces)
  commit_but tx key at None = (epoch, refl)
  commit_but tx key at (Some image) = (max epoch at, refl)

  step_but : (o : Option ℕ) → IsButEpoch
      (moment m.rows m.log (stepped_by m.rows (had_noted m epoch).walk o)
      (given_by m.rows (had_noted m epoch).walk m.pieces o))
      (moment m.rows m.log (stepped_by m.rows m.walk o) (given_by m.rows m.walk m.pieces o))
  step_but None = (epoch, refl)
  step_but (Some at) = (epoch, refl)

  next_but : (event : Event) → IsButEpoch (next event (had_noted m epoch)) (next event m)
  next_but (Prepare tx fragment key image) = (epoch, refl)
  next_but (Commit tx key at) = commit_but tx key at (image_in m.rows tx key)
  next_but (Abort tx key) = (epoch, refl)
  next_but (Complete tx key) = (epoch, refl)
  next_but Step = step_but (next_place m.rows m.walk.place)

pub behind_but : (m : Moment) (epoch : ℕ) (events : List Event)
    → IsButEpoch (moment_behind (had_noted m epoch) events) (moment_behind m events)
behind_but m epoch [] = (epoch, refl)
behind_but m epoch (event ∷ older) =
    let was = behind_but m epoch older in
    let more = next_but (moment_behind m older) was.0 event in (more.0, ap (next event) was.1 ∙ more.1)

module _ (noted : ℕ) where
  commit_noted : (w : WalkState) (at : ℕ) (o : Option (Option (List ℕ))) → at ≤ noted → w.epoch ≤ noted
      → (noting_if w at o).epoch ≤ noted
  commit_noted w at None few is = is
  commit_noted w at (Some image) few is = let e : max w.epoch at ≤ noted = omega (arith, few, is) in e

  step_noted : (s : RowsState) (w : WalkState) (o : Option ℕ) → w.epoch ≤ noted → (stepped_by s w o).epoch ≤ noted
  step_noted s w None is = is
  step_noted s w (Some at) is = is

  next_noted : (event : Event) (m : Moment) → IsUpTo noted event → m.walk.epoch ≤ noted
      → (next event m).walk.epoch ≤ noted
  next_noted (Prepare tx fragment key image) m up is = is
  next_noted (Commit tx key at) m up is = commit_noted m.walk at (image_in m.rows tx key) up is
  next_noted (Abort tx key) m up is = is
  next_noted (Complete tx key) m up is = is
  next_noted Step m up is = step_noted m.rows m.walk (next_place m.rows m.walk.place) is

  pub behind_noted : (m : Moment) → m.walk.epoch ≤ noted → (events : List Event) → AreUpTo noted events
      → (moment_behind m events).walk.epoch ≤ noted
  behind_noted m is [] up = is
  behind_noted m is (event ∷ older) up = next_noted event (moment_behind m older) up.0 (behind_noted m is older up.1)
