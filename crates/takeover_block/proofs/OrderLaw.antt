-- What is gathered stays in order, whatever comes.
use Rattle.std.proofs.Common.{List, [], ◌∷◌}
use Rattle.std.specs.Prelude.{Option, None, Some, remove, slice_get}
use Rattle.sig_core.specs.declared.signal.Body.{Body}
use Rattle.sig_core.specs.declared.signal.Signal.{Signal}
use Rattle.sig_core.specs.Step.{Step}
use Rattle.takeover_block.specs.declared.gathered.Gathered.{Gathered}
use Rattle.takeover_block.specs.Gather.{asking, member_count}
use Rattle.takeover_block.specs.Gathered.{told_epoch}
use Rattle.takeover_block.specs.Laws.{AreInOrder, GatheredStandInOrder, after_all}
use Rattle.takeover_block.specs.Rule.{entering, finishing, ruling, ruling_by}
use Rattle.takeover_block.specs.State.{TakeoverState, resting, with_gathered}
use Rattle.takeover_block.specs.Takeover.{takeover_row, takeover_table}
use Rattle.takeover_block.proofs.EachTakeover.{takeover_each}
use Rattle.takeover_block.proofs.OrderLemmas.{noted_order}

-- what is gathered in a state is in order
abbrev IsOrdered : TakeoverState → Type 0
IsOrdered s = AreInOrder s.gathered

ruled : (s : TakeoverState) → IsOrdered s → IsOrdered (ruling s).state
unfolding ruling entering
ruled s order = by (slice_get s.gathered 0)
  where
    by : (g : Option Gathered) → IsOrdered (ruling_by s g).state
    by None = order
    by (Some g) = order

without_first : (gs : List Gathered) → AreInOrder gs → AreInOrder (remove gs 0)
without_first [] order = order
without_first (g ∷ gs) order = order.1

finished : (s : TakeoverState) → IsOrdered s → IsOrdered (finishing s).state
unfolding finishing
finished s order = ruled (with_gathered s (remove s.gathered 0)) (without_first s.gathered order)

step_ordered : (s : TakeoverState) (body : Body) → IsOrdered s → IsOrdered (takeover_table s body).state
unfolding entering
step_ordered s body order =
    takeover_each s (λ (step : Step TakeoverState). IsOrdered step.state) body (record {
      stays = λ other. order;
      untold = λ tx key state epoch is idle. order;
      unended = λ is idle. order;
      orders = λ is some. tt;
      orders_nobody = λ is none. ruled (asking s (member_count s.layout.view) 0) tt;
      asks = λ place n is due at. order;
      tells = λ tx key state epoch n is at. noted_order s.gathered tx key (told_epoch state epoch) order;
      ends = λ n is at more. order;
      all_end = λ n is at last. ruled s order;
      commits = λ tx key g e n is first at more. order;
      all_commit = λ tx key g e n is first at last. order;
      completes = λ tx key g e n is first at more. order;
      all_complete = λ tx key g e n is first at last. finished s order;
      aborts = λ tx key g n is first at more. order;
      all_abort = λ tx key g n is first at last. finished s order;
      goes_on = λ tx place g is due work first. order;
    })

along : (s : TakeoverState) (xs : List Signal) → IsOrdered s → IsOrdered (after_all s xs)
along s [] order = order
along s (x ∷ xs) order = along (takeover_row s x).state xs (step_ordered s x.body order)

pub stand_in_order : GatheredStandInOrder
stand_in_order node layout xs = along (resting node layout) xs tt
