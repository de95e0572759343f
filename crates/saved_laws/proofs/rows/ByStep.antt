-- What a step makes of the rows of a member, and of their journal, whatever their saver does in it.
use Rattle.std.proofs.Common.{◌≡◌, ◌∙◌, List, ◌∷◌, sym, ap, subst}
use Rattle.std.specs.Prelude.{Option, None}
use Rattle.sig_core.specs.declared.signal.Body.{Body}
use Rattle.local_ckpt.specs.Events.{Event}
use Rattle.lqh_saver.specs.declared.stage.Todo.{Todo}
use Rattle.lqh_saver.specs.declared.stage.Todo.TheVariants as todo
use Rattle.lqh_saver.specs.State.{SavingState}
use Rattle.sig_core.specs.declared.member.Member.{Member}
use Rattle.world_core.specs.Start.{Start}
use Rattle.world_core.specs.Steps.{HostStep}
use Rattle.journal_laws.specs.Events.{IsOfPrepared, IsOrdered, behind_all, changed_if, records_if}
use Rattle.journal_laws.specs.Journal.{lqh_after}
use Rattle.journal_laws.specs.Saver.{IsStepBy, begins, ends, passes, rows, switches, todo_at}
use Rattle.request_laws.specs.Blocks.{saving_after}

module _ (s t : SavingState) (body : Body) (event : Option Event) where
  -- nothing is told to a journal that gives something up, and to any other what the event says
  abbrev pub IsTold : Todo → Type 0
  IsTold (todo.Name finished) = event ≡ None
  IsTold it = t.replica.lqh.outlet ≡ behind_all (records_if event s.replica.lqh.rows) s.replica.lqh.outlet

  none_made : event ≡ None → s.replica.lqh.rows ≡ changed_if event s.replica.lqh.rows
  none_made none = sym (ap (λ o. changed_if o s.replica.lqh.rows) none)

  none_told : event ≡ None → t.replica.lqh.outlet ≡ s.replica.lqh.outlet
      → t.replica.lqh.outlet ≡ behind_all (records_if event s.replica.lqh.rows) s.replica.lqh.outlet
  none_told none same =
      same ∙ sym (ap (λ o. behind_all (records_if o s.replica.lqh.rows) s.replica.lqh.outlet) none)

  pub rows_by : (it : Todo) → IsStepBy s t body it event
      → t.replica.lqh.rows ≡ changed_if event s.replica.lqh.rows
  rows_by it (rows made keeps step nothing) = made.rows
  rows_by it (begins begun none nothing) = begun.leaves.rows ∙ none_made none
  rows_by it (passes walks step write) =
      walks.leaves.rows ∙ sym (ap (λ o. changed_if o s.replica.lqh.rows) step)
  rows_by it (ends ended none sync) = ended.leaves.rows ∙ none_made none
  rows_by it (switches finished to none name) = to.rows ∙ none_made none

  pub ordered_by : (it : Todo) → IsStepBy s t body it event → IsOrdered event body
  ordered_by it (rows made keeps step nothing) = made.ordered
  ordered_by it (begins begun none nothing) = subst (λ o. IsOrdered o body) (sym none) tt
  ordered_by it (passes walks step write) = subst (λ o. IsOrdered o body) (sym step) tt
  ordered_by it (ends ended none sync) = subst (λ o. IsOrdered o body) (sym none) tt
  ordered_by it (switches finished to none name) = subst (λ o. IsOrdered o body) (sym none) tt

  pub prepared_by : (it : Todo) → IsStepBy s t body it event → IsOfPrepared event s.replica.lqh.rows
  prepared_by it (rows made keeps step nothing) = made.prepared
  prepared_by it (begins begun none nothing) = subst (λ o. IsOfPrepared o s.replica.lqh.rows) (sym none) tt
  prepared_by it (passes walks step write) = subst (λ o. IsOfPrepared o s.replica.lqh.rows) (sym step) tt
  prepared_by it (ends ended none sync) = subst (λ o. IsOfPrepared o s.replica.lqh.rows) (sym none) tt
  prepared_by it (switches finished to none name) =
      subst (λ o. IsOfPrepared o s.replica.lqh.rows) (sym none) tt

  pub told_by : (it : Todo) → IsStepBy s t body it event → IsTold it
  told_by it (rows made keeps step nothing) = subst IsTold (sym nothing) made.outlet
  told_by it (begins begun none nothing) = subst IsTold (sym nothing) (none_told none begun.leaves.outlet)
  told_by it (passes walks step write) =
      subst IsTold (sym write)
      (walks.leaves.outlet ∙ sym
      (ap (λ o. behind_all (records_if o s.replica.lqh.rows) s.replica.lqh.outlet) step))
  told_by it (ends ended none sync) = subst IsTold (sym sync) (none_told none ended.leaves.outlet)
  told_by it (switches finished to none name) = subst IsTold (sym name) none

-- of a step of the log of a member's host
module _ (start : Start) (member : Member) (e : HostStep) (log : List HostStep) (event : Option Event) where
  abbrev pub IsStepAt : Type 0
  IsStepAt =
      IsStepBy (saving_after start member log) (saving_after start member (e ∷ log)) e.step.taken.body
      (todo_at start member e log) event

  pub rows_at_step : IsStepAt
      → (lqh_after start member (e ∷ log)).rows ≡ changed_if event (lqh_after start member log).rows
  rows_at_step =
      rows_by (saving_after start member log) (saving_after start member (e ∷ log)) e.step.taken.body event
      (todo_at start member e log)

  pub ordered_at_step : IsStepAt → IsOrdered event e.step.taken.body
  ordered_at_step =
      ordered_by (saving_after start member log) (saving_after start member (e ∷ log)) e.step.taken.body event
      (todo_at start member e log)
