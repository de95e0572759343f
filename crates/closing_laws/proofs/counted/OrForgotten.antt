-- Whoever was decided is counted, or its coordinator has forgotten it.
use Rattle.std.proofs.Common.{◌≡◌, ◌≢◌, ◌⊎◌, ◌∙◌, ◌++◌, ◌||◌, ℕ, Bool, true, false, List, [], ◌∷◌, refl, sym, ap, subst}
use Rattle.std.proofs.Common.{inl, inr}
use Rattle.std.proofs.lemmas.Bool.{cases_eq, or_cases, true≢false}
use Rattle.std.specs.List.{list_any}
use Rattle.std.specs.Prelude.{None}
use Rattle.run_theory.specs.Lists.{IsIn}
use Rattle.run_theory.specs.Runs.{Happens}
use Rattle.run_theory.proofs.Runs.{log_of-other, log_of-own}
use Rattle.sig_core.specs.declared.mark.Mark.{Mark}
use Rattle.sig_core.specs.declared.mark.Mark.TheVariants.{Decided}
use Rattle.sig_core.specs.declared.member.Member.{Member}
use Rattle.sig_core.specs.declared.member.TxId.{TxId}
use Rattle.sig_core.specs.declared.place.BlockId.{BlockId}
use Rattle.sig_core.specs.declared.place.BlockId.TheVariants as block
use Rattle.sig_core.specs.declared.signal.Body.TheVariants.{Epoch}
use Rattle.sig_core.specs.declared.signal.Signal.{Signal}
use Rattle.sig_core.specs.declared.signal.epoch.EpochSignal.TheVariants.{DiVerifyEnd}
use Rattle.dih_node.specs.Dih.{dih_row, fresh_dih}
use Rattle.sig_core.specs.Step.{Effects}
use Rattle.node_views.specs.declared.host_body.HostBody as hosts
use Rattle.node_views.specs.declared.parts.Parts.TheVariants as part
use Rattle.node_views.specs.declared.tc_part.TcPart.{TcPart}
use Rattle.node_views.specs.Parts.{tc_row}
use Rattle.node_views.specs.WellFormed.{is_well_formed}
use Rattle.sig_core.specs.declared.place.Part.TheVariants.{Tc}
use Rattle.world_core.specs.Marks.{has_mark}
use Rattle.world_core.specs.Start.{Start, made}
use Rattle.world_core.specs.Steps.{Addressed, HostStep}
use Rattle.world_views.specs.Machine.{after, machine, step_after}
use Rattle.view_laws.specs.Order.{sound_machine}
use Rattle.moment_laws.specs.Moments.{IsMoment, logs_of}
use Rattle.moment_laws.specs.Places.{tc_of}
use Rattle.moment_laws.proofs.MomentHosts.{part_some}
use Rattle.moment_laws.proofs.MomentSignals.{epoch_told}
use Rattle.moment_laws.proofs.MomentViews.{moment_less}
use Rattle.outcome_laws.specs.Counts.{coordinator_member, is_decision}
use Rattle.outcome_laws.proofs.takeovers.NoMarks.{takeover_marks_nothing}
use Rattle.outcome_laws.proofs.coordinators.NoMarks.{coordinator_marks_none}
use Rattle.request_laws.proofs.phases.AlongLogs.{IsRun, runs_tc, told_some}
use Rattle.request_laws.proofs.phases.HostSteps.{AreNoDecisions, Goes, IsEntered, is_decided_mark, leaves, takes}
use Rattle.request_laws.proofs.phases.HostSteps.{tc_goes}
use Rattle.epoch_laws.specs.Members.{dih_in}
use Rattle.commit_laws.specs.Going.{is_decided, own_live}
use Rattle.closing_laws.specs.Ended.{UncountedAreForgotten, is_counted}
use Rattle.closing_laws.proofs.counted.UntilItsEnd.{Counts, dih_counts, has, installs_still}
use Rattle.closing_laws.proofs.counted.Forgotten.{IsOut, SaysOut, ended_are_out, out_stays}

-- where no mark decides, none decides this transaction
none_decides : (tx : TxId) (marks : List Mark) → AreNoDecisions marks → list_any (is_decision tx) marks ≡ false
none_decides tx [] none = refl
none_decides tx (mark ∷ marks) none =
    ap (λ b. b || list_any (is_decision tx) marks) (by mark none.0) ∙ none_decides tx marks none.1
  where
    by : (mark : Mark) → is_decided_mark mark ≡ false → is_decision tx mark ≡ false
    by (Decided other epoch) is = absurd (true≢false is)
    by mark is = refl

any_behind : (tx : TxId) (front marks : List Mark) → list_any (is_decision tx) front ≡ false
    → list_any (is_decision tx) (front ++ marks) ≡ list_any (is_decision tx) marks
any_behind tx [] marks none = refl
any_behind tx (mark ∷ front) marks none = by (is_decision tx mark) none (any_behind tx front marks)
  where
    by : (b : Bool) → (b || list_any (is_decision tx) front) ≡ false
        → (list_any (is_decision tx) front ≡ false
        → list_any (is_decision tx) (front ++ marks) ≡ list_any (is_decision tx) marks)
        → (b || list_any (is_decision tx) (front ++ marks)) ≡ list_any (is_decision tx) marks
    by true none rest = absurd (true≢false none)
    by false none rest = rest none

-- it is counted, or forgotten
abbrev IsAccounted : Start → (ℕ → List HostStep) → TxId → Type 0
IsAccounted start logs tx =
    is_decided start logs tx ≡ true → (is_counted start logs tx ≡ true) ⊎ IsOut start logs tx

module _ (tx : TxId) (x : Signal) where
  -- what the step of the part comes to for the transaction
  record Accounts (p now : TcPart) (marks : List Mark) (sound : Type 0) : Type 0 where
    kept : has tx p.dih.counted ≡ true
        → (sound × (x.body ≡ Epoch (DiVerifyEnd tx))) ⊎ (has tx now.dih.counted ≡ true)
    decided : list_any (is_decision tx) marks ≡ true → has tx now.dih.counted ≡ true

  entered_same : (p between : TcPart) → IsEntered p between → between.dih.counted ≡ p.dih.counted
  entered_same p between (inl is) = ap (λ (q : TcPart). q.dih.counted) is
  entered_same p between (inr (view, is)) =
      ap (λ (q : TcPart). q.dih.counted) is ∙ installs_still p.dih view.number

  row_accounts : (between : TcPart) (b : BlockId) (sound : Type 0) → sound
      → Accounts between (tc_row between b x).state (tc_row between b x).effects.marks sound
  unfolding tc_row
  row_accounts between block.Dih sound is = record { kept = λ was. by (counts.kept was); decided = counts.decided }
    where
      counts : Counts tx between.dih x.body (dih_row between.dih x)
      counts = dih_counts tx between.dih x

      by : {A : Type 0} → (x.body ≡ Epoch (DiVerifyEnd tx)) ⊎ A → (sound × (x.body ≡ Epoch (DiVerifyEnd tx))) ⊎ A
      by (inl ends) = inl (is, ends)
      by (inr counted) = inr counted
  row_accounts between block.Tc sound is = record {
    kept = λ was. inr was;
    decided = λ marked.
        absurd
        (true≢false
        (sym marked ∙ ap (list_any (is_decision tx)) (coordinator_marks_none between.coordinator x)));
  }
  row_accounts between block.Takeover sound is = record {
    kept = λ was. inr was;
    decided = λ marked.
        absurd (true≢false (sym marked ∙ ap (list_any (is_decision tx)) (takeover_marks_nothing between.takeover x)));
  }
  row_accounts between b sound is =
      record { kept = λ was. inr was; decided = λ marked. absurd (true≢false (sym marked)) }

  -- in which part it comes out
  record Comes (p : TcPart) (parts : hosts.HostBody) (marks : List Mark) (sound : Type 0) : Type 0 where
    now : TcPart
    runs : parts.parts ≡ part.Tc now
    accounts : Accounts p now marks sound

module _ (start : Start) (all : ℕ → List HostStep) (e : HostStep) (es : List HostStep)
    (moment : IsMoment start all (e ∷ es)) (tx : TxId) (there : IsIn (coordinator_member tx) (made start))
  where
    abbrev old : ℕ → List HostStep
    old = logs_of start es

    abbrev new : ℕ → List HostStep
    new = logs_of start (e ∷ es)

    abbrev x : Signal
    x = e.step.taken

    abbrev me : Member
    me = coordinator_member tx

    abbrev h : ℕ
    h = tc_of start (coordinator_member tx)

    abbrev log : List HostStep
    log = logs_of start es (tc_of start (coordinator_member tx))

    abbrev Sound : Type 0
    Sound = is_well_formed start.shape e.step.taken ≡ true

    run : IsRun start me there log
    run = runs_tc start me there moment.cluster.nobody log

    comes : Comes tx x run.own (step_after start h log e).state (step_after start h log e).effects.marks Sound
    comes = by (tc_goes start moment.cluster.nobody h log e run.own run.runs)
      where
        by : Goes start.shape run.own x (step_after start h log e)
            → Comes tx x run.own (step_after start h log e).state (step_after start h log e).effects.marks Sound
        by (leaves between entered parts words marks) = record {
          now = between;
          runs = parts;
          accounts = record {
            kept = λ was. inr (ap (has tx) (entered_same tx x run.own between entered) ∙ was);
            decided = λ marked.
                absurd (true≢false (sym marked ∙ none_decides tx (step_after start h log e).effects.marks marks));
          };
        }
        by (takes between entered well front words none going parts effects) =
            let row = row_accounts tx x between x.to.block Sound well in
            record {
              now = (tc_row between x.to.block x).state;
              runs = parts;
              accounts = record {
                kept = λ was. row.kept (ap (has tx) (entered_same tx x run.own between entered) ∙ was);
                decided = λ marked.
                    row.decided
                    (sym
                    (any_behind tx front.marks (tc_row between x.to.block x).effects.marks
                    (none_decides tx front.marks none))
                    ∙ (ap (λ (made : Effects). list_any (is_decision tx) made.marks) (sym effects) ∙ marked));
              };
            }

    module _ (at : e.host ≡ tc_of start (coordinator_member tx)) where
      new_log : new h ≡ e ∷ log
      new_log = log_of-own (machine start) e es h at

      was_counted : (is_counted start old tx ≡ true) → has tx run.own.dih.counted ≡ true
      was_counted is =
          ap (λ parts. has tx (dih_in (fresh_dih 0 0 0 0) parts).counted) (sym run.runs) ∙ is

      is_counted_now : has tx comes.now.dih.counted ≡ true → is_counted start new tx ≡ true
      is_counted_now is =
          ap (λ one. has tx (dih_in (fresh_dih 0 0 0 0) (after start h one).parts).counted) new_log
          ∙ (ap (λ parts. has tx (dih_in (fresh_dih 0 0 0 0) parts).counted)
          (ap (λ (s : hosts.HostBody). s.parts) (told_some h (part_some start Tc me) (step_after start h log e))
          ∙ comes.runs)
          ∙ is)

      marks_are : e.step.marks ≡ (step_after start h log e).effects.marks
      marks_are =
          let happens : Happens (sound_machine start) es e = moment.run.1 in
          subst (λ k. e.step.marks ≡ (step_after start k (old k) e).effects.marks) at happens.step.fits.marks

      own_accounted : IsAccounted start old tx → IsAccounted start new tx
      own_accounted was decided =
          by (or_cases (list_any (is_decision tx) e.step.marks) (has_mark (is_decision tx) log) marked)
        where
          marked : (list_any (is_decision tx) e.step.marks || has_mark (is_decision tx) log) ≡ true
          marked = subst (λ one. has_mark (is_decision tx) one ≡ true) new_log decided

          taken : Sound × (x.body ≡ Epoch (DiVerifyEnd tx)) → IsOut start new tx
          taken ends =
              out_stays start all e es moment tx
              (subst (SaysOut start old) ends.1
              (epoch_told start (λ (y : Addressed). SaysOut start old y.signal.body) all e es moment
              (ended_are_out start all es (moment_less start all e es moment)) ends.0 (DiVerifyEnd tx) ends.1))

          still : (Sound × (x.body ≡ Epoch (DiVerifyEnd tx))) ⊎ (has tx comes.now.dih.counted ≡ true)
              → (is_counted start new tx ≡ true) ⊎ IsOut start new tx
          still (inl ends) = inr (taken ends)
          still (inr counted) = inl (is_counted_now counted)

          before : (is_counted start old tx ≡ true) ⊎ IsOut start old tx
              → (is_counted start new tx ≡ true) ⊎ IsOut start new tx
          before (inl counted) = still (comes.accounts.kept (was_counted counted))
          before (inr out) = inr (out_stays start all e es moment tx out)

          by : (list_any (is_decision tx) e.step.marks ≡ true) ⊎ (has_mark (is_decision tx) log ≡ true)
              → (is_counted start new tx ≡ true) ⊎ IsOut start new tx
          by (inl now) =
              inl (is_counted_now (comes.accounts.decided (ap (list_any (is_decision tx)) (sym marks_are) ∙ now)))
          by (inr earlier) = before (was earlier)

    accounted : IsAccounted start old tx → IsAccounted start new tx
    accounted was = by (cases_eq e.host h)
      where
        by : (e.host ≡ h) ⊎ (e.host ≢ h) → IsAccounted start new tx
        by (inl at) = own_accounted at was
        by (inr other) = λ decided. other_log (was (subst (λ one. has_mark (is_decision tx) one ≡ true) is decided))
          where
            is : new h ≡ log
            is = log_of-other (machine start) e es h other

            other_log : (is_counted start old tx ≡ true) ⊎ IsOut start old tx
                → (is_counted start new tx ≡ true) ⊎ IsOut start new tx
            other_log (inl counted) =
                inl (ap (λ one. has tx (dih_in (fresh_dih 0 0 0 0) (after start h one).parts).counted) is ∙ counted)
            other_log (inr out) = inr (out_stays start all e es moment tx out)

all_accounted : (start : Start) (all : ℕ → List HostStep) (es : List HostStep) → IsMoment start all es → (tx : TxId)
    → IsIn (coordinator_member tx) (made start) → IsAccounted start (logs_of start es) tx
all_accounted start all [] moment tx there = λ decided. absurd (true≢false (sym decided))
all_accounted start all (e ∷ es) moment tx there =
    accounted start all e es moment tx there (all_accounted start all es (moment_less start all e es moment) tx there)

pub uncounted_are_forgotten : UncountedAreForgotten
uncounted_are_forgotten start all es moment tx there decided uncounted =
    by (all_accounted start all es moment tx there decided)
  where
    by : (is_counted start (logs_of start es) tx ≡ true) ⊎ IsOut start (logs_of start es) tx
        → own_live start (logs_of start es) tx ≡ None
    by (inl counted) = absurd (true≢false (sym counted ∙ uncounted))
    by (inr out) = out.forgotten
