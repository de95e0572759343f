-- What is decided and kept is settled for each key: it waited for its epoch with the operations with which it is
-- decided.
use Rattle.std.proofs.Common.{◌≡◌, ◌⊎◌, ◌||◌, ◌&&◌, ◌∙◌, ℕ, Bool, true, false, not, List, ◌∷◌, refl, sym, ap, subst}
use Rattle.std.proofs.Common.{inl, inr}
use Rattle.std.proofs.lemmas.Bool.{true≢false}
use Rattle.std.specs.Prelude.{if◌then◌else◌, None, Some}
use Rattle.run_theory.specs.Lists.{Each, IsIn}
use Rattle.run_theory.proofs.Pasts.{each_map}
use Rattle.run_theory.proofs.Runs.{log_of-own}
use Rattle.sig_core.specs.declared.mark.Mark.TheVariants.{Decided}
use Rattle.sig_core.specs.declared.member.Member.{Member}
use Rattle.sig_core.specs.declared.member.TxId.{TxId}
use Rattle.sig_core.specs.declared.op.Answer.{Answer}
use Rattle.sig_core.specs.declared.op.Op.{Op}
use Rattle.sig_core.specs.declared.signal.Body.{Body}
use Rattle.sig_core.proofs.Keys.{same_tx-self}
use Rattle.tc_block.specs.declared.phase.Phase.{Phase}
use Rattle.tc_block.specs.Doom.{is_among, is_undecided}
use Rattle.host_laws.proofs.coordinator.OfLive.{each_found}
use Rattle.world_core.specs.Entries.{else_of, ops_of, verified_by}
use Rattle.world_core.specs.Start.{Start, made}
use Rattle.world_core.specs.Steps.{HostStep}
use Rattle.world_views.specs.Machine.{machine}
use Rattle.moment_laws.specs.Moments.{IsMoment, logs_of}
use Rattle.moment_laws.specs.Places.{tc_of}
use Rattle.moment_laws.proofs.MomentViews.{moment_less}
use Rattle.outcome_laws.specs.Counts.{coordinator_member}
use Rattle.request_laws.specs.Phases.{HasGone, SaysIn, SaysOf, WaitsWith}
use Rattle.request_laws.proofs.phases.AlongLogs.{next}
use Rattle.request_laws.proofs.phases.AsksOnce.{request, told_waits}
use Rattle.request_laws.proofs.phases.HeardFromItself.{heard_at}
use Rattle.request_laws.proofs.phases.HeldAreAsked.{IsAskedFor, IsKept as IsKeptLog, is_kept, ops_stay}
use Rattle.request_laws.proofs.phases.Stands.{coordinators_stand}
use Rattle.request_laws.proofs.phases.ToldByHosts.{HasTold, Heard}
use Rattle.commit_laws.specs.Commits.{IsKept}
use Rattle.commit_laws.specs.Forth.{ForthIsKnownAlways}
use Rattle.commit_laws.specs.Going.{decided_ops, is_back, is_decided, is_forth, is_lost, own_coordinator}
use Rattle.commit_laws.specs.Parts.{IsHale, IsOff}
use Rattle.commit_laws.specs.Settled.{IsDecidedNow, IsSettledWith}
use Rattle.commit_laws.specs.Together.{Follows}
use Rattle.commit_laws.specs.Transit.{MomentsHaveTransit}
use Rattle.commit_laws.proofs.forth.DecidedStay.{forth_decided}
use Rattle.commit_laws.proofs.fates.Decided.{DecidesNow, decides_now, is_now}

module _ (forth : ForthIsKnownAlways) (transit : MomentsHaveTransit) (start : Start) (all : ℕ → List HostStep)
    (e : HostStep) (es : List HostStep) (follows : Follows start all e es) (tx : TxId)
    (is : is_decided start (logs_of start (e ∷ es)) tx ≡ true) (now : IsDecidedNow start e es tx)
    (isnt : is_decided start (logs_of start es) tx ≡ false)
  where
    abbrev old : ℕ → List HostStep
    old = logs_of start es

    abbrev new : ℕ → List HostStep
    new = logs_of start (e ∷ es)

    abbrev moment : IsMoment start all (e ∷ es)
    moment = follows.moment

    abbrev before : IsMoment start all es
    before = moment_less start all e es moment

    decides : DecidesNow forth start all e es moment tx
    decides = decides_now forth start all e es moment tx is isnt

    abbrev member : Member
    member = coordinator_member tx

    there : IsIn (coordinator_member tx) (made start)
    there = decides.made

    abbrev log : List HostStep
    log = old (tc_of start (coordinator_member tx))

    own : new (tc_of start (coordinator_member tx)) ≡ e ∷ log
    own = log_of-own (machine start) e es (tc_of start (coordinator_member tx)) decides.at

    heard : Heard start (coordinator_member tx) (e ∷ log)
    heard = subst (Heard start (coordinator_member tx)) own
        (heard_at start all (coordinator_member tx) there (e ∷ es) moment)

    kept_log : IsKeptLog start (coordinator_member tx) there log
    kept_log = is_kept start (coordinator_member tx) there follows.moment.cluster.nobody log heard.1

    -- an epoch was asked for before, with the operations of the request that was taken by now
    abbrev WasAsked : TxId → Type 0
    WasAsked u = HasTold start (tc_of start (coordinator_member tx)) (request u (ops_of u (e ∷ log))) log

    held : Each WasAsked kept_log.at.own.dih.held
    held =
        each_map (IsAskedFor start (coordinator_member tx) there log) WasAsked kept_log.at.own.dih.held
        (λ u asked.
        subst (λ ops. HasTold start (tc_of start (coordinator_member tx)) (request u ops) log)
        (sym (ops_stay start (coordinator_member tx) there follows.moment.cluster.nobody log e heard.0 u asked)) asked)
        kept_log.held

    asks : (u : TxId) (ops : List (Op × Answer)) → e.step.taken.body ≡ request u ops → WasAsked u
    asks u ops is =
        subst (λ more. HasTold start (tc_of start (coordinator_member tx)) (request u more) log) (sym taken)
        (heard.0.asks u ops is)
      where
        taken : ops_of u (e ∷ log) ≡ ops
        taken =
            ap (λ (body : Body). else_of (verified_by u body) (ops_of u log)) is
            ∙ ap (λ b. else_of (if b then Some ops else None) (ops_of u log)) (same_tx-self u)

    was_asked : WasAsked tx
    was_asked =
        (next start (coordinator_member tx) there log e kept_log.at WasAsked held asks
        follows.moment.cluster.nobody).said.decided tx decides.epoch
        (subst (IsIn (Decided tx decides.epoch)) heard.0.marks decides.marked)

    not_gone : HasGone start (coordinator_member tx) log tx → ⊥
    not_gone (inl gone) = true≢false (sym (forth_decided start all es before tx gone) ∙ isnt)
    not_gone (inr back) = by (is_forth start old tx) refl
      where
        lost : is_forth start old tx ≡ false → is_lost start old tx ≡ true
        lost off =
            ap (λ f. not f && (is_back start old tx || is_among (own_coordinator start old tx).doomed tx)) off
            ∙ ap (λ b. b || is_among (own_coordinator start old tx).doomed tx) back

        by : (b : Bool) → is_forth start old tx ≡ b → ⊥
        by true gone = true≢false (sym (forth_decided start all es before tx gone) ∙ isnt)
        by false off = true≢false (sym (lost off) ∙ now.spared)

    waits : WaitsWith start (coordinator_member tx) log tx (ops_of tx (e ∷ log))
    waits = by (told_waits start (coordinator_member tx) there tx follows.moment.cluster.nobody log
        (ops_of tx (e ∷ log)) was_asked)
      where
        by : HasGone start (coordinator_member tx) log tx
            ⊎ WaitsWith start (coordinator_member tx) log tx (ops_of tx (e ∷ log))
            → WaitsWith start (coordinator_member tx) log tx (ops_of tx (e ∷ log))
        by (inl gone) = absurd (not_gone gone)
        by (inr with_it) = with_it

    answered : waits.transaction.asked ≡ None
    answered =
        (subst (λ (phase : Phase). SaysIn start (coordinator_member tx) log tx waits.transaction phase) waits.phase
        (each_found (SaysOf start (coordinator_member tx) log) _ tx waits.transaction
        (coordinators_stand start all es before (coordinator_member tx) there).says waits.there)).0

    hale : IsHale start old tx waits.transaction
    hale = record {
      there = waits.there;
      undecided = ap is_undecided waits.phase;
      full = now.full;
      spared = now.spared;
      fresh = inl answered;
    }

    off : (key : List ℕ) → IsOff start old key tx waits.transaction waits.transaction.asked
    off key = subst (IsOff start old key tx waits.transaction) (sym answered) tt

    pub settled_then : (key : List ℕ)
        → IsSettledWith start (logs_of start es) key tx (decided_ops start (logs_of start (e ∷ es)) tx)
    settled_then key =
        let one = transit start all es before in
        subst (IsSettledWith start old key tx) (waits.ops_are ∙ sym (ap (ops_of tx) own))
        ((follows.stood.parts one.0 one.1).rests tx waits.transaction hale key (off key))

-- and so it is of one that is kept
pub settled_now : (forth : ForthIsKnownAlways) → MomentsHaveTransit
    → (start : Start) (all : ℕ → List HostStep) (e : HostStep)
    (es : List HostStep) → Follows start all e es → (tx : TxId) → IsKept start (logs_of start (e ∷ es)) tx
    → is_decided start (logs_of start es) tx ≡ false → (key : List ℕ)
    → IsSettledWith start (logs_of start es) key tx (decided_ops start (logs_of start (e ∷ es)) tx)
settled_now forth transit start all e es follows tx kept isnt key =
    settled_then forth transit start all e es follows tx kept.decided
    (is_now forth start all e es follows.moment tx
    (decides_now forth start all e es follows.moment tx kept.decided isnt) isnt
    kept) isnt key
