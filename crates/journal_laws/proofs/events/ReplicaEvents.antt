-- So does a step of the rows under views; and the epoch that they noted as saved falls in none.
use Rattle.std.proofs.Common.{◌≡◌, ◌≤◌, ℕ, Bool, true, false, nat_lt, refl, arith}
use Rattle.std.proofs.lemmas.Bool.{ltb-true}
use Rattle.std.specs.Prelude.{if◌then◌else◌}
use Rattle.sig_core.specs.declared.signal.Signal.{Signal}
use Rattle.lqh_views.specs.Epochs.{greater}
use Rattle.lqh_views.specs.Replica.{replica_row}
use Rattle.lqh_views.specs.State.{ReplicaState}
use Rattle.lqh_views.proofs.Walk.{replica_outcomes}
use Rattle.journal_laws.proofs.events.RowEvents.{Makes, rows_make, same_so}

pub replica_makes : (s : ReplicaState) (x : Signal) → Makes s.lqh (replica_row s x).state.lqh x.body
replica_makes s x =
    replica_outcomes s x (λ step. Makes s.lqh step.state.lqh x.body) (record {
      passes = λ of_rows. rows_make s.lqh x.body;
      stales = λ of_waits stale. stays;
      unasked = λ at is none. stays;
      ignores = λ signal is. stays;
      promises = λ proposal is. stays;
      closes = λ epoch is. stays;
      saves = λ epoch is. stays;
      states = λ is. stays;
      tells_record = λ r under_way at one last there. stays;
      tells_marker = λ r under_way at m none last there. stays;
      ends = λ r under_way none no_more. stays;
    })
  where
    stays : Makes s.lqh s.lqh x.body
    stays = same_so s.lqh x.body s.lqh refl refl refl (λ all. all)

-- the first is at most the greater
pub no_less : (one other : ℕ) → one ≤ greater one other
no_less one other = by (nat_lt one other) refl
  where
    by : (b : Bool) → nat_lt one other ≡ b → one ≤ (if b then other else one)
    by true is = omega (arith, ltb-true one other is)
    by false is = omega arith

pub saved_rises : (s : ReplicaState) (x : Signal) → s.saved ≤ (replica_row s x).state.saved
saved_rises s x =
    replica_outcomes s x (λ step. s.saved ≤ step.state.saved) (record {
      passes = λ of_rows. same;
      stales = λ of_waits stale. same;
      unasked = λ at is none. same;
      ignores = λ signal is. same;
      promises = λ proposal is. same;
      closes = λ epoch is. same;
      saves = λ epoch is. no_less s.saved epoch;
      states = λ is. same;
      tells_record = λ r under_way at one last there. same;
      tells_marker = λ r under_way at m none last there. same;
      ends = λ r under_way none no_more. same;
    })
  where
    same : s.saved ≤ s.saved
    same = omega arith
