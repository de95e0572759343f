-- Whoever aborts at a moment, and has no full coordinator there, aborts too where another run comes to the view of that
-- moment: so it is never applied there.
use Rattle.std.proofs.Common.{◌≡◌, ◌∙◌, ◌++◌, ℕ, Bool, true, false, List, [], ◌∷◌, append_assoc, refl, sym, ap, subst}
use Rattle.std.proofs.lemmas.Bool.{true≢false}
use Rattle.run_theory.proofs.Pasts.{past_self, past_trans}
use Rattle.run_theory.specs.Lists.{IsIn, IsPast}
use Rattle.sig_core.specs.declared.member.Member.{Member}
use Rattle.sig_core.specs.declared.member.TxId.{TxId}
use Rattle.sig_core.specs.declared.op.Answer.{Answer}
use Rattle.sig_core.specs.declared.op.Op.{Op}
use Rattle.sig_core.specs.declared.view.View.{View}
use Rattle.lqh_block.specs.Views.{is_coordinated}
use Rattle.world_core.specs.Start.{Start}
use Rattle.world_core.specs.Steps.{HostStep}
use Rattle.moment_laws.proofs.MomentViews.{moment_less}
use Rattle.moment_laws.specs.Moments.{IsMoment, current, logs_of}
use Rattle.moment_laws.specs.Places.{ldm_of}
use Rattle.outcome_laws.proofs.order.EventsBefore.{moment_before}
use Rattle.request_laws.specs.Blocks.{rows_after}
use Rattle.commit_laws.specs.Commits.{HasWritten}
use Rattle.commit_laws.specs.Fates.{aborts, fate, is_led_by_full}
use Rattle.commit_laws.specs.Going.{decided_ops, is_decided, is_forth, is_lost, is_written_by}
use Rattle.commit_laws.specs.Owed.{HasPrimary}
use Rattle.commit_laws.specs.Traces.{IsApplied, IsReplicaOf, has_trace, is_known, leave_trace, members_now, rows_at}
use Rattle.commit_laws.proofs.settled.All.{all_stand}
use Rattle.commit_laws.proofs.markers.AppliedCommits.{applied_commit}
use Rattle.commit_laws.proofs.forth.DecidedStay.{decided_more, forth_decided, ops_same}
use Rattle.commit_laws.proofs.fates.Cases.{none_aborts, not_both}
use Rattle.commit_laws.proofs.fates.Moves.{fates_move}
use Rattle.commit_laws.proofs.forth.KnownComes.{known_commit}
use Rattle.commit_laws.proofs.led.Replicas.{keys_have_primaries}
use Rattle.commit_laws.proofs.records.Replicas.{members_full, replica_before}
use Rattle.commit_laws.proofs.hosts.SomePasses.{passing}
use Rattle.closing_laws.proofs.settled.Cuts.{goes_back, goes_on, log_past}
use Rattle.closing_laws.proofs.settled.KnownAreDone.{IsDoneBefore, done_before}
use Rattle.closing_laws.proofs.settled.NoTraces.{leaves_one, no_trace}
use Rattle.closing_laws.proofs.settled.TwoRuns.{ComesAlso}

-- the event at which the client's side comes to know of the commit
pub record BecomesKnown (start : Start) (tx : TxId) (es : List HostStep) : Type 0 where
  pub newer : List HostStep
  pub event : HostStep
  pub older : List HostStep
  pub is : es ≡ newer ++ event ∷ older
  pub off : is_known start (logs_of start older) tx ≡ false
  pub on : is_known start (logs_of start (event ∷ older)) tx ≡ true

pub becomes_known : (start : Start) (tx : TxId) (es : List HostStep) → is_known start (logs_of start es) tx ≡ true
    → BecomesKnown start tx es
becomes_known start tx [] is = absurd (true≢false (sym is))
becomes_known start tx (e ∷ es) is = by (is_known start (logs_of start es) tx) refl (becomes_known start tx es)
  where
    by : (b : Bool) → is_known start (logs_of start es) tx ≡ b
        → (is_known start (logs_of start es) tx ≡ true → BecomesKnown start tx es) → BecomesKnown start tx (e ∷ es)
    by false off rest = record { newer = []; event = e; older = es; is = refl; off = off; on = is }
    by true was rest =
        let k = rest was in
        record {
          newer = e ∷ k.newer;
          event = k.event;
          older = k.older;
          is = ap (λ xs. e ∷ xs) k.is;
          off = k.off;
          on = k.on;
        }

-- whoever is decided stays so, with its operations
pub record StaysDecided (start : Start) (tx : TxId) (es later : List HostStep) : Type 0 where
  pub decided : is_decided start (logs_of start later) tx ≡ true
  pub ops : decided_ops start (logs_of start later) tx ≡ decided_ops start (logs_of start es) tx

pub stays_decided : (start : Start) (all : ℕ → List HostStep) (newer es : List HostStep)
    → IsMoment start all (newer ++ es) → (tx : TxId) → is_decided start (logs_of start es) tx ≡ true
    → StaysDecided start tx es (newer ++ es)
stays_decided start all newer es moment tx is =
    goes_on start all (StaysDecided start tx es)
    (λ e xs at old. record {
      decided = decided_more start all e xs at tx old.decided;
      ops = ops_same start all e xs at tx old.decided ∙ old.ops;
    })
    newer es moment (record { decided = is; ops = refl })

module _ (start : Start) (all : ℕ → List HostStep) (es end : List HostStep) (at : IsMoment start all es)
    (last : IsMoment start all end) (also : ComesAlso start es end) (tx : TxId)
    (gone : is_led_by_full start (logs_of start es) tx ≡ false) (aborting : fate start (logs_of start es) tx ≡ aborts)
    (key : List ℕ) (written : HasWritten start (logs_of start end) tx key)
  where
    abbrev there : List HostStep
    there = also.moment

    here : IsMoment start all also.moment
    here = moment_before start all also.newer also.moment (subst (IsMoment start all) also.is last)

    -- no part of a full member's log up to there has a trace
    none : (member : Member) → IsIn member (current start (logs_of start also.moment)).full → (log : List HostStep)
        → IsPast log (logs_of start also.moment (ldm_of start member))
        → leave_trace tx (rows_after start member log) ≡ true → ⊥
    none member full log past =
        let full_too = subst (λ (v : View). IsIn member v.full) also.current_is full in
        no_trace start all es at tx gone aborting member full_too log (past_trans past (also.within member full_too))

    -- if it were known, it was done before, and each replica had a trace
    module _ (k : BecomesKnown start tx also.moment) where
      event_at : IsMoment start all (k.event ∷ k.older)
      event_at = moment_before start all k.newer (k.event ∷ k.older) (subst (IsMoment start all) k.is here)

      older_at : IsMoment start all k.older
      older_at = moment_less start all k.event k.older event_at

      before : IsDoneBefore start k.older tx
      before = done_before start all k.event k.older event_at tx k.off k.on

      decided : is_decided start (logs_of start k.older) tx ≡ true
      decided = forth_decided start all k.older older_at tx before.forth

      end_is : end ≡ (also.newer ++ (k.newer ++ k.event ∷ [])) ++ k.older
      end_is =
          also.is ∙ ap (λ xs. also.newer ++ xs) (k.is ∙ sym (append_assoc k.newer (k.event ∷ []) k.older))
          ∙ sym (append_assoc also.newer (k.newer ++ k.event ∷ []) k.older)

      written_then : HasWritten start (logs_of start k.older) tx key
      written_then =
          let stays =
          stays_decided start all (also.newer ++ (k.newer ++ k.event ∷ [])) k.older
          (subst (IsMoment start all) end_is last) tx decided in
          subst (λ (ops : List (Op × Answer)). is_written_by ops key ≡ true)
          (ap (λ xs. decided_ops start (logs_of start xs) tx) end_is ∙ stays.ops) written

      primary : HasPrimary start (logs_of start also.moment) key
      primary = keys_have_primaries start all also.moment here key

      abbrev member : Member
      member = primary.primary

      replica : IsReplicaOf start (logs_of start k.older) key primary.primary
      replica =
          replica_before start all k.event k.older event_at key member
          (goes_back start all (λ xs. IsReplicaOf start (logs_of start xs) key member)
          (λ e xs moment is. replica_before start all e xs moment key member is) k.newer (k.event ∷ k.older)
          (subst (IsMoment start all) k.is here)
          (subst (λ xs. IsReplicaOf start (logs_of start xs) key member) k.is primary.replica))

      never_known : ⊥
      never_known =
          none member primary.replica.full (logs_of start k.older (ldm_of start member))
          (subst (λ xs. IsPast (logs_of start k.older (ldm_of start member)) (logs_of start xs (ldm_of start member)))
          (sym (k.is ∙ sym (append_assoc k.newer (k.event ∷ []) k.older)))
          (log_past start (ldm_of start member) (k.newer ++ k.event ∷ []) k.older))
          (leaves_one start (logs_of start k.older) member key tx k.off
          ((before.done key written_then).committed member replica))

    unknown : is_known start (logs_of start also.moment) tx ≡ false
    unknown = by (is_known start (logs_of start there) tx) refl
      where
        by : (b : Bool) → is_known start (logs_of start also.moment) tx ≡ b → b ≡ false
        by false off = refl
        by true is = absurd (never_known (becomes_known start tx there is))

    untraced : has_trace start (logs_of start also.moment) tx ≡ false
    untraced = by (has_trace start (logs_of start there) tx) refl
      where
        by : (b : Bool) → has_trace start (logs_of start also.moment) tx ≡ b → b ≡ false
        by false off = refl
        by true is =
            let one = passing (λ (m : Member). leave_trace tx (rows_at start (logs_of start there) m))
            (members_now start (logs_of start there)) is in
            absurd (none one.item (subst (IsIn one.item) (members_full start all there here) one.there)
            (logs_of start there (ldm_of start one.item)) (past_self (logs_of start there (ldm_of start one.item)))
            one.is)

    aborts_there : fate start (logs_of start also.moment) tx ≡ aborts
    aborts_there =
        let logs = logs_of start there in
        none_aborts (is_known start logs tx) (is_led_by_full start logs tx) (is_forth start logs tx)
        (is_lost start logs tx) (has_trace start logs tx) unknown
        (ap (λ (v : View). is_coordinated v.full tx) also.current_is ∙ gone) untraced

    aborts_end : fate start (logs_of start end) tx ≡ aborts
    aborts_end =
        subst (λ xs. fate start (logs_of start xs) tx ≡ aborts) (sym also.is)
        (goes_on start all (λ xs. fate start (logs_of start xs) tx ≡ aborts)
        (λ e xs moment is.
        (fates_move known_commit start all e xs
        (record { moment = moment; stood = all_stand start all xs (moment_less start all e xs moment) })
        tx).aborting is)
        also.newer there (subst (IsMoment start all) also.is last) aborts_there)

    pub never_applied : (other : List ℕ) → IsApplied start (logs_of start end) tx other → ⊥
    never_applied other applied =
        not_both (sym (applied_commit all_stand start all end last tx other applied) ∙ aborts_end)
