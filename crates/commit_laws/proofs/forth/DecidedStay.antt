-- What was decided stays so, with its operations; who was committed stays so, and what the client's side knows.
use Rattle.std.proofs.Common.{◌≡◌, ◌≢◌, ◌⊎◌, ◌∙◌, ℕ, Bool, true, false, List, [], ◌∷◌, refl, sym, ap, subst, inl, inr}
use Rattle.std.proofs.lemmas.Bool.{cases_eq, or_left, or_right, true≢false}
use Rattle.std.specs.List.{list_any}
use Rattle.run_theory.specs.Lists.{IsIn}
use Rattle.run_theory.proofs.Runs.{log_of-other, log_of-own}
use Rattle.commit_laws.proofs.forth.Grows.{grows, known_grows}
use Rattle.sig_core.specs.declared.mark.Mark.{Mark}
use Rattle.sig_core.specs.declared.mark.Mark.TheVariants.{Decided}
use Rattle.sig_core.specs.declared.member.Member.{Member}
use Rattle.sig_core.specs.declared.member.TxId.{TxId}
use Rattle.sig_core.specs.declared.op.Answer.{Answer}
use Rattle.sig_core.specs.declared.op.Op.{Op}
use Rattle.sig_core.proofs.Keys.{same_tx-self}
use Rattle.world_core.specs.Entries.{ops_of}
use Rattle.world_core.specs.Marks.{has_mark}
use Rattle.world_core.specs.Start.{Start, made}
use Rattle.world_core.specs.Steps.{HostStep}
use Rattle.world_views.specs.Machine.{machine}
use Rattle.moment_laws.specs.Moments.{IsMoment, logs_of}
use Rattle.moment_laws.specs.Places.{ldm_of, tc_of}
use Rattle.moment_laws.proofs.MomentViews.{moment_less}
use Rattle.outcome_laws.specs.Counts.{coordinator_member, is_decision}
use Rattle.outcome_laws.specs.Decided.{IsMarked}
use Rattle.request_laws.proofs.phases.HeardFromItself.{heard_at}
use Rattle.request_laws.proofs.phases.ToldByHosts.{Heard}
use Rattle.request_laws.proofs.phases.HeldAreAsked.{is_kept, ops_stay}
use Rattle.request_laws.proofs.phases.Stands.{coordinators_stand}
use Rattle.commit_laws.specs.Commits.{HasWritten}
use Rattle.commit_laws.specs.Going.{decided_ops, is_decided, is_forth, is_written_by, own_log}
use Rattle.commit_laws.specs.Traces.{IsApplied, is_known}
use Rattle.commit_laws.proofs.fates.Committed.{decided_at, decided_made, forth_made}

-- a mark of a decision makes it one
pub decided_mark : (tx : TxId) (epoch : ℕ) (marks : List Mark) → IsIn (Decided tx epoch) marks
    → list_any (is_decision tx) marks ≡ true
decided_mark tx epoch [] there = absurd there
decided_mark tx epoch (mark ∷ marks) (inl is) =
    or_left (is_decision tx mark) (list_any (is_decision tx) marks) (ap (is_decision tx) (sym is) ∙ same_tx-self tx)
decided_mark tx epoch (mark ∷ marks) (inr there) =
    or_right (is_decision tx mark) (list_any (is_decision tx) marks) (decided_mark tx epoch marks there)

pub decided_so : (tx : TxId) (epoch : ℕ) (log : List HostStep) → IsMarked (Decided tx epoch) log
    → has_mark (is_decision tx) log ≡ true
decided_so tx epoch [] is = absurd is
decided_so tx epoch (e ∷ log) (inl now) =
    or_left (list_any (is_decision tx) e.step.marks) (has_mark (is_decision tx) log)
    (decided_mark tx epoch e.step.marks now)
decided_so tx epoch (e ∷ log) (inr old) =
    or_right (list_any (is_decision tx) e.step.marks) (has_mark (is_decision tx) log) (decided_so tx epoch log old)

-- who was committed is decided
pub forth_decided : (start : Start) (all : ℕ → List HostStep) (es : List HostStep) → IsMoment start all es → (tx : TxId)
    → is_forth start (logs_of start es) tx ≡ true → is_decided start (logs_of start es) tx ≡ true
forth_decided start all es moment tx forth =
    let stands =
    coordinators_stand start all es moment (coordinator_member tx) (forth_made start all es moment tx forth) in
    let given = stands.forth tx forth in
    decided_so tx given.0 (own_log start (logs_of start es) tx) given.1

module _ (start : Start) (all : ℕ → List HostStep) (e : HostStep) (es : List HostStep)
    (moment : IsMoment start all (e ∷ es))
  where
    abbrev old : ℕ → List HostStep
    old = logs_of start es

    abbrev new : ℕ → List HostStep
    new = logs_of start (e ∷ es)

    pub decided_more : (tx : TxId) → is_decided start old tx ≡ true → is_decided start new tx ≡ true
    decided_more tx =
        grows start e es (λ log. has_mark (is_decision tx) log ≡ true) (tc_of start (coordinator_member tx))
        (λ log was. or_right (list_any (is_decision tx) e.step.marks) _ was)

    -- and what wasn't known behind the event wasn't before
    pub unknown_before : (tx : TxId) → is_known start new tx ≡ false → is_known start old tx ≡ false
    unknown_before tx off = by (is_known start old tx) refl
      where
        by : (b : Bool) → is_known start old tx ≡ b → b ≡ false
        by false is = refl
        by true is = absurd (true≢false (sym (known_grows start e es tx is) ∙ off))

    pub applied_more : (tx : TxId) (key : List ℕ) → IsApplied start old tx key → IsApplied start new tx key
    applied_more tx key applied = record {
      member = applied.member;
      is_made = applied.is_made;
      marked = grows start e es (IsMarked _) (ldm_of start applied.member) (λ log was. inr was) applied.marked;
    }

    pub ops_same : (tx : TxId) → is_decided start old tx ≡ true → decided_ops start new tx ≡ decided_ops start old tx
    ops_same tx is = by (cases_eq e.host (tc_of start member))
      where
        member : Member
        member = coordinator_member tx

        there : IsIn (coordinator_member tx) (made start)
        there = decided_made start all es (moment_less start all e es moment) tx is

        before : IsMoment start all es
        before = moment_less start all e es moment

        by : (e.host ≡ tc_of start member) ⊎ (e.host ≢ tc_of start member)
            → decided_ops start new tx ≡ decided_ops start old tx
        by (inl at) =
            let own = log_of-own (machine start) e es (tc_of start member) at in
            let heard : Heard start member (e ∷ old (tc_of start member)) =
            subst (Heard start member) own (heard_at start all member there (e ∷ es) moment) in
            let at_epoch = decided_at (old (tc_of start member)) tx is in
            ap (ops_of tx) own
            ∙ ops_stay start member there moment.cluster.nobody (old (tc_of start member)) e heard.0 tx
            ((is_kept start member there moment.cluster.nobody (old (tc_of start member)) heard.1).decided tx
            at_epoch.epoch at_epoch.marked)
        by (inr other) = ap (ops_of tx) (log_of-other (machine start) e es (tc_of start member) other)

    -- so what it wrote is the same
    pub written_more : (tx : TxId) (key : List ℕ) → is_decided start old tx ≡ true → HasWritten start old tx key
        → HasWritten start new tx key
    written_more tx key is written =
        subst (λ (ops : List (Op × Answer)). is_written_by ops key ≡ true) (sym (ops_same tx is)) written

    pub written_before : (tx : TxId) (key : List ℕ) → is_decided start old tx ≡ true → HasWritten start new tx key
        → HasWritten start old tx key
    written_before tx key is written =
        subst (λ (ops : List (Op × Answer)). is_written_by ops key ≡ true) (ops_same tx is) written
