-- Of a transaction whose token is taken, or waits, nothing else is under way.
use Rattle.std.proofs.Common.{◌≡◌, ◌≢◌, ◌≤◌, ◌+◌, ◌==◌, ◌∙◌, ℕ, Bool, true, false, List, [], ◌∷◌, refl, sym, ap, arith}
use Rattle.std.proofs.Common.{inl, inr}
use Rattle.std.proofs.lemmas.Bool.{and_parts}
use Rattle.std.specs.Prelude.{if◌then◌else◌}
use Rattle.run_theory.specs.Lists.{IsIn}
use Rattle.sig_core.specs.declared.member.Member.{Member}
use Rattle.sig_core.specs.declared.member.TxId.{TxId}
use Rattle.sig_core.specs.declared.signal.Signal.{Signal}
use Rattle.tc_block.specs.Complete.{one_if}
use Rattle.world_core.specs.Start.{Start, made}
use Rattle.world_core.specs.Steps.{HostStep}
use Rattle.run_laws.specs.Tokens.{is_token}
use Rattle.view_laws.specs.Order.{sound_machine}
use Rattle.moment_laws.specs.Moments.{logs_of}
use Rattle.moment_laws.proofs.MomentViews.{moment_less}
use Rattle.outcome_laws.proofs.coordinators.Lists.{one_few}
use Rattle.request_laws.specs.Tokens.{QuietUnlessAsked, TakenIsAlone, WaitingIsAlone, all_sent, all_taken, all_waiting}
use Rattle.request_laws.specs.Tokens.{is_token_in, may_go, number_now, total_of, waiting_at}
use Rattle.request_laws.proofs.tokens.Moments.{before_now, have_one}
use Rattle.request_laws.proofs.routes.BesideRows.{is_of_rows}
use Rattle.request_laws.proofs.tokens.SumsOverHosts.{takes_before, takes_few, token_of_rows}
use Rattle.request_laws.proofs.tokens.FirstInView.{all_taken_more}

one_is : (b : Bool) → 1 ≤ one_if b → b ≡ true
one_is true some = refl
one_is false some = absurd (omega (arith, some))

-- parts of a sum
total_of_part : (ms : List Member) (f : Member → ℕ) (m : Member) → IsIn m ms → f m ≤ total_of ms f
total_of_part [] f m there = absurd there
total_of_part (x ∷ ms) f m (inl is) = omega (arith, ap f is)
total_of_part (x ∷ ms) f m (inr there) = omega (arith, total_of_part ms f m there)

total_of_two : (ms : List Member) (f : Member → ℕ) (m other : Member) → IsIn m ms → IsIn other ms → other ≢ m
    → f m + f other ≤ total_of ms f
total_of_two [] f m other there among off = absurd there
total_of_two (x ∷ ms) f m other (inl is) (inl same) off = absurd (off (same ∙ sym is))
total_of_two (x ∷ ms) f m other (inl is) (inr among) off = omega (arith, ap f is, total_of_part ms f other among)
total_of_two (x ∷ ms) f m other (inr there) (inl same) off = omega (arith, ap f same, total_of_part ms f m there)
total_of_two (x ∷ ms) f m other (inr there) (inr among) off = omega (arith, total_of_two ms f m other there among off)

token_only : (tx : TxId) (number : ℕ) (x : Signal) → is_token_in tx number x ≡ true → is_of_rows x.body ≡ true
token_only tx number x is = token_of_rows tx x.body (and_parts (is_token tx x.body) (x.view.number == number) is).0

-- what is sent and what waits is no more than what is taken and may be under way
abbrev IsFew : Start → (ℕ → List HostStep) → TxId → ℕ → Type 0
IsFew start logs tx number =
    all_sent start (is_token_in tx number) logs + all_waiting start logs tx number
    ≤ all_taken start (is_token_in tx number) logs + one_if (may_go start logs tx number)

pub taken_alone : TakenIsAlone
taken_alone start all e es moment tx there asked is = record {
  waits = λ member among.
      let part = total_of_part (made start) (waiting_at start old tx now) member among in
      omega (arith, part, known, sent_one, one_few (may_go start old tx now));
  goes = omega (arith, known, sent_one, one_few (may_go start old tx now));
  may = one_is (may_go start old tx now) (omega (arith, known, sent_one));
}
  where
    old : ℕ → List HostStep
    old = logs_of start es

    now : ℕ
    now = number_now start (logs_of start (e ∷ es))

    known : IsFew start old tx now
    known =
        before_now start all e es moment tx there
        (have_one start all es (moment_less start all e es moment) tx there)

    taken_one : (if (sound_machine start).asked e then 0 else one_if (is_token_in tx now e.step.taken)) ≡ 1
    taken_one =
        ap (λ b. if b then 0 else one_if (is_token_in tx now e.step.taken)) asked ∙ ap one_if is

    -- it was sent before
    sent_one : all_taken start (is_token_in tx now) old + 1 ≤ all_sent start (is_token_in tx now) old
    sent_one =
        omega (
          arith,
          takes_before start (is_token_in tx now) (token_only tx now) all e es moment,
          all_taken_more start all e es moment (is_token_in tx now),
          taken_one,
        )

pub quiet_unless_asked : QuietUnlessAsked
quiet_unless_asked start all es moment tx there off = record {
  waits = λ member among.
      let part = total_of_part (made start) (waiting_at start logs tx now) member among in
      omega (arith, part, known, taken_few, ap one_if off);
  goes = omega (arith, known, taken_few, ap one_if off);
}
  where
    logs : ℕ → List HostStep
    logs = logs_of start es

    now : ℕ
    now = number_now start (logs_of start es)

    known : IsFew start logs tx now
    known = have_one start all es moment tx there

    taken_few : all_taken start (is_token_in tx now) logs ≤ all_sent start (is_token_in tx now) logs
    taken_few = takes_few start (is_token_in tx now) (token_only tx now) all es moment

pub waiting_alone : WaitingIsAlone
waiting_alone start all es moment tx there member among some = record {
  here =
      let part = total_of_part (made start) (waiting_at start logs tx now) member among in
      omega (arith, part, some, known, taken_few, one_few (may_go start logs tx now));
  elsewhere = λ other too off.
      let parts = total_of_two (made start) (waiting_at start logs tx now) member other among too off in
      omega (arith, parts, some, known, taken_few, one_few (may_go start logs tx now));
  goes =
      let part = total_of_part (made start) (waiting_at start logs tx now) member among in
      omega (arith, part, some, known, taken_few, one_few (may_go start logs tx now));
  may =
      let part = total_of_part (made start) (waiting_at start logs tx now) member among in
      one_is (may_go start logs tx now) (omega (arith, part, some, known, taken_few));
}
  where
    logs : ℕ → List HostStep
    logs = logs_of start es

    now : ℕ
    now = number_now start (logs_of start es)

    known : IsFew start logs tx now
    known = have_one start all es moment tx there

    taken_few : all_taken start (is_token_in tx now) logs ≤ all_sent start (is_token_in tx now) logs
    taken_few = takes_few start (is_token_in tx now) (token_only tx now) all es moment
