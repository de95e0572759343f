-- Rows that aren't asked for what they have, and have no report under way, begin none and tell a takeover nothing.
use Rattle.std.proofs.Common.{◌≡◌, ◌∙◌, true, false, refl, sym}
use Rattle.std.specs.Prelude.{None, Some}
use Rattle.sig_core.specs.declared.signal.Body.{Body}
use Rattle.sig_core.specs.declared.signal.Body.TheVariants.{Takeover}
use Rattle.sig_core.specs.declared.signal.Signal.{Signal}
use Rattle.sig_core.specs.declared.signal.takeover.TakeoverSignal.TheVariants.{LqhTransReq}
use Rattle.sig_core.specs.Step.{Step}
use Rattle.lqh_views.specs.Replica.{replica_row}
use Rattle.lqh_views.specs.State.{ReplicaState}
use Rattle.lqh_views.specs.declared.report.Report.{Report}
use Rattle.lqh_views.specs.Words.{is_row_word}
use Rattle.lqh_views.proofs.Walk.{IsReporting, goes_on, is_asked, replica_outcomes, replica_tells_each}
use Rattle.std.proofs.lemmas.Bool.{true≢false}
use Rattle.commit_laws.proofs.orders.UnorderedHosts.{AreNoReports, is_of_reports}

-- no report is under way behind the step, and it tells nothing
pub record TellsNothing (step : Step ReplicaState) : Type 0 where
  pub report : step.state.report ≡ None
  pub sends : AreNoReports step.effects.sends

module _ (s : ReplicaState) (x : Signal) (none : s.report ≡ None) (unasked : x.body ≡ Takeover LqhTransReq → ⊥) where
  idle : (r : Report) → IsReporting s x r → ⊥
  idle r (is_asked is whole) = unasked is
  idle r (goes_on at is own under_way) = let both : Some r ≡ None = sym under_way ∙ none in cc

  behind : (replica_row s x).state.report ≡ None
  behind =
      replica_outcomes s x (λ step. step.state.report ≡ None) (record {
        passes = λ of_rows. none;
        stales = λ of_waits stale. none;
        unasked = λ at is other. none;
        ignores = λ signal is. none;
        promises = λ proposal is. none;
        closes = λ epoch is. none;
        saves = λ epoch is. none;
        states = λ is. none;
        tells_record = λ r under_way at one last there. absurd (idle r under_way);
        tells_marker = λ r under_way at m last_record last there. absurd (idle r under_way);
        ends = λ r under_way last_record last. refl;
      })

  words : (body : Body) → is_row_word body ≡ true → is_of_reports body ≡ false
  words (Takeover signal) is = absurd (true≢false (sym is))
  words body is = refl

  pub tells_nothing : TellsNothing (replica_row s x)
  tells_nothing = record {
    report = behind;
    sends = replica_tells_each s x (λ body. is_of_reports body ≡ false) words (record {
      promises = λ proposal is. refl;
      closes = λ epoch is. refl;
      saves = λ epoch is. refl;
      states = λ is. refl;
      tells_committed = λ r under_way at one there is. absurd (idle r under_way);
      tells_prepared = λ r under_way at one there is. absurd (idle r under_way);
      tells_marker = λ r under_way at m there. absurd (idle r under_way);
      reports_on = λ r under_way. refl;
      ends = λ r under_way. refl;
    });
  }
