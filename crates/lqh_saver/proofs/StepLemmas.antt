-- What a step of the rows and their saver sends, marks and leaves of the rows, as a whole: for what is so of one row of
-- them and not of each signal.
use Rattle.std.proofs.Common.{◌≡◌, ℕ, true, List, [], ◌∷◌, ap}
use Rattle.sig_core.specs.declared.mark.Mark.{Mark}
use Rattle.sig_core.specs.declared.outs.Outgoing.{Outgoing}
use Rattle.sig_core.specs.declared.signal.Signal.{Signal}
use Rattle.lqh_views.specs.Replica.{replica_row}
use Rattle.lqh_views.specs.State.{ReplicaState}
use Rattle.lqh_saver.specs.Saver.{saver_row}
use Rattle.lqh_saver.specs.State.{SavingState}
use Rattle.lqh_saver.specs.Switching.{given_up, has_position}
use Rattle.lqh_saver.proofs.Walk.{SaverSends, is_savers, saver_outcomes}

module _ (s : SavingState) (x : Signal) where
  -- so it is where the rows send it, where nothing is sent, and of what their saver sends, which is one signal
  pub saver_sends : (R : List Outgoing → Type 0) → R (replica_row s.replica x).effects.sends → R []
      → SaverSends s x (λ sent. R (sent ∷ [])) → R (saver_row s x).effects.sends
  saver_sends R rows none own =
      saver_outcomes s x (λ step. R step.effects.sends) (record {
        passes = λ is. rows;
        durable = λ epoch is. rows;
        orders = λ is. own.goes_on (ap is_savers is);
        writes = λ n walk to at is walking some. own.goes_on (ap is_savers is);
        ends = λ n walk to is walking all. own.reports walk to (ap is_savers is) walking;
        switches = λ finished end is walked has usable. own.confirms finished end is walked usable;
        idles = λ is. none;
      })

  -- their saver marks nothing
  pub saver_marks : (R : List Mark → Type 0) → R (replica_row s.replica x).effects.marks → R []
      → R (saver_row s x).effects.marks
  saver_marks R rows none =
      saver_outcomes s x (λ step. R step.effects.marks) (record {
        passes = λ is. rows;
        durable = λ epoch is. rows;
        orders = λ is. none;
        writes = λ n walk to at is walking some. none;
        ends = λ n walk to is walking all. none;
        switches = λ finished end is walked has usable. none;
        idles = λ is. none;
      })

  -- the rows are as they were, or as they leave themselves, or their journal alone gave up what stood before a position
  -- of it
  pub saver_rows : (Q : ReplicaState → Type 0) → Q s.replica → Q (replica_row s.replica x).state
      → ((at : ℕ) → has_position s.replica.lqh.outlet at ≡ true → Q (given_up s.replica at))
      → Q (saver_row s x).state.replica
  saver_rows Q before rows given =
      saver_outcomes s x (λ step. Q step.state.replica) (record {
        passes = λ is. rows;
        durable = λ epoch is. rows;
        orders = λ is. before;
        writes = λ n walk to at is walking some. before;
        ends = λ n walk to is walking all. before;
        switches = λ finished end is walked has usable. given finished.from has;
        idles = λ is. before;
      })
