-- Whoever is reported committed takes effect: it was decided with the epoch that is reported, and the client's side is
-- told of a commit when all that was written is committed.
use Rattle.std.proofs.Common.{◌≡◌, ◌∙◌, ℕ, Bool, true, false, List, [], ◌∷◌, filter, reverse, refl, sym, ap, subst}
use Rattle.std.proofs.Common.{inl, inr, arith}
use Rattle.std.proofs.lemmas.Bool.{or_left, or_right, true≢false}
use Rattle.std.proofs.lemmas.List.{reverse-reverse}
use Rattle.std.specs.List.{list_any}
use Rattle.std.specs.Prelude.{if◌then◌else◌}
use Rattle.run_theory.proofs.Pasts.{each_in}
use Rattle.run_theory.specs.Links.{sent}
use Rattle.run_theory.specs.Lists.{Each, IsIn}
use Rattle.run_theory.specs.Ranks.{in_order}
use Rattle.run_theory.specs.Runs.{Happens}
use Rattle.commit_laws.proofs.markers.Lists.{in_filter}
use Rattle.commit_laws.proofs.hosts.MarkCases.{mark_cases}
use Rattle.sig_core.proofs.Keys.{same_key-self, same_tx-self}
use Rattle.sig_core.proofs.TxLemmas.{same_tx-is}
use Rattle.sig_core.specs.declared.entry.Entry.{Entry}
use Rattle.sig_core.specs.declared.mark.Mark.{Mark}
use Rattle.sig_core.specs.declared.mark.Mark.TheVariants.{Reported}
use Rattle.sig_core.specs.declared.member.TxId.{TxId}
use Rattle.sig_core.specs.declared.op.Answer.{Answer}
use Rattle.sig_core.specs.declared.op.Op.{Op}
use Rattle.sig_core.specs.declared.outcome.Outcome.TheVariants.{Committed}
use Rattle.sig_core.specs.declared.signal.Body.{Body}
use Rattle.sig_core.specs.declared.signal.Body.TheVariants.{Client, Host}
use Rattle.sig_core.specs.declared.signal.client.ClientSignal.{ClientSignal}
use Rattle.sig_core.specs.declared.signal.client.ClientSignal.TheVariants.{TcCommitConf, TcKeyFailConf}
use Rattle.sig_core.specs.declared.signal.host.HostSignal.TheVariants.{Closed}
use Rattle.sig_core.specs.Op.{key_of}
use Rattle.sig_core.specs.Same.{same_key, same_tx}
use Rattle.node_views.specs.declared.parts.Parts.{Parts}
use Rattle.node_views.specs.declared.parts.Parts.TheVariants.{Ldm, Main, Shell, Tc}
use Rattle.node_views.specs.WellFormed.{is_well_formed}
use Rattle.world_core.specs.Entries.{entries}
use Rattle.world_core.specs.History.{history, is_applied, is_done, is_kept, is_reported, writes}
use Rattle.world_core.specs.Hosts.{hosts}
use Rattle.world_core.specs.Marks.{has_mark, have_mark}
use Rattle.world_core.specs.Start.{Start}
use Rattle.world_core.specs.Steps.{Addressed, HostStep}
use Rattle.world_views.specs.Hosts.{started}
use Rattle.world_views.specs.Machine.{IsOwnWork}
use Rattle.view_laws.proofs.eras.Entries.{stand_in_order}
use Rattle.view_laws.proofs.eras.Order.{run_in_views}
use Rattle.view_laws.specs.Order.{by_views, decisions, sound_machine}
use Rattle.view_laws.specs.Runs.{AreOfCluster}
use Rattle.moment_laws.proofs.MomentRuns.{are_moments}
use Rattle.moment_laws.proofs.MomentSignals.{taken_told}
use Rattle.moment_laws.proofs.MomentViews.{moment_less}
use Rattle.moment_laws.specs.Moments.{IsMoment, logs_of}
use Rattle.moment_laws.specs.Places.{ldm_of}
use Rattle.outcome_laws.proofs.knowledge.CommitsWereDecided.{commits_were_decided, in_turned}
use Rattle.outcome_laws.specs.Decided.{IsMarked}
use Rattle.outcome_laws.specs.Outcomes.{HasEntry}
use Rattle.request_laws.proofs.tokens.HostsApart.{ldm_low}
use Rattle.request_laws.proofs.routes.ChainsStay.{any_in}
use Rattle.commit_laws.specs.Commits.{ComesWhenDone, HasWritten, IsDone}
use Rattle.commit_laws.specs.Cuts.{CommitsTakeEffect}
use Rattle.commit_laws.specs.Forth.{TellsForth}
use Rattle.commit_laws.specs.Going.{decided_ops, is_decided, is_forth, is_written_by}
use Rattle.commit_laws.specs.Together.{AllStandAlways}
use Rattle.commit_laws.specs.Traces.{IsApplied}
use Rattle.commit_laws.proofs.forth.DecidedStay.{applied_more, decided_more, forth_decided, written_before}
use Rattle.commit_laws.proofs.forth.All.{forth_is_known}
use Rattle.commit_laws.proofs.forth.Client.{IsToldOf, by_coordinator, by_takeover}
use Rattle.commit_laws.proofs.led.Applied.{HasEntryOf, entry_of_decided, has_applied, have_it}
use Rattle.commit_laws.proofs.led.Entries.{decisions_once, one_entry}
use Rattle.commit_laws.proofs.hosts.MarkReasons.{HasReason, RunsIf, marks_have_reasons}
use Rattle.commit_laws.proofs.hosts.SomePasses.{passing}

-- it is decided, and applied on each key that it wrote
pub record TookEffect (start : Start) (logs : ℕ → List HostStep) (tx : TxId) : Type 0 where
  pub decided : is_decided start logs tx ≡ true
  pub applied : (key : List ℕ) → HasWritten start logs tx key → IsApplied start logs tx key

runs_any : (T : TxId → Type 0) (parts : Parts) → RunsIf (Unit {0}) T parts
runs_any T (Shell p) = tt
runs_any T (Main p) = tt
runs_any T (Tc p) = tt
runs_any T (Ldm p) = tt

module _ (stand : AllStandAlways) (start : Start) (all : ℕ → List HostStep) (e : HostStep) (es : List HostStep)
    (moment : IsMoment start all (e ∷ es))
  where
    abbrev old : ℕ → List HostStep
    old = logs_of start es

    before : IsMoment start all es
    before = moment_less start all e es moment

    -- what is told of all signals is told of one of a client that comes
    client_told : (K : Body → Type 0)
        → ((i j : ℕ) → Each (λ (y : Addressed). K y.signal.body) (sent (sound_machine start) i j (old i)))
        → (signal : ClientSignal) → e.step.taken.body ≡ Client signal
        → is_well_formed start.shape e.step.taken ≡ true → K (Client signal)
    client_told K each signal is sound =
        subst K is
        (taken_told start (λ (y : Addressed). K y.signal.body) all e es moment each sound
        (λ work. absurd (subst (IsOwnWork start e.host) is work))
        (λ closes. let differ : Client signal ≡ Host (Closed closes.cause) = sym is ∙ closes.is in absurd cc))

    took : (tx : TxId) → is_forth start old tx ≡ true → IsDone start old tx → TookEffect start old tx
    took tx forth done = record {
      decided = forth_decided start all es before tx forth;
      applied = λ key written. (done key written).applied;
    }

    told : is_well_formed start.shape e.step.taken ≡ true → (tx : TxId) → IsToldOf tx e.step.taken.body
        → TookEffect start old tx
    told sound tx (by_coordinator epoch is) =
        took tx
        (client_told (TellsForth (λ v. is_forth start old v ≡ true)) (forth_is_known start all es before).signals
        (TcCommitConf tx epoch) is sound)
        (client_told (ComesWhenDone start old) (stand start all es before).commits.done (TcCommitConf tx epoch) is
        sound)
    told sound tx (by_takeover epoch is) =
        took tx
        (client_told (TellsForth (λ v. is_forth start old v ≡ true)) (forth_is_known start all es before).signals
        (TcKeyFailConf tx epoch) is sound)
        (client_told (ComesWhenDone start old) (stand start all es before).commits.done (TcKeyFailConf tx epoch) is
        sound).0

    reasons : Each (HasReason (Unit {0}) (TookEffect start old)) e.step.marks
    reasons =
        let happens : Happens (sound_machine start) es e = moment.run.1 in
        subst (Each (HasReason (Unit {0}) (TookEffect start old))) (sym happens.step.fits.marks)
        (marks_have_reasons start moment.cluster.nobody e.host (Unit {0})
        (runs_any (λ tx. Unit {0}) (started start e.host).parts)
        (TookEffect start old) (old e.host) e told)

    -- so it is of whoever is reported now
    reported_now : (v : TxId) → list_any (is_reported v) e.step.marks ≡ true → TookEffect start old v
    reported_now v is =
        let one = passing (is_reported v) e.step.marks is in
        by one.item one.is
        (each_in (HasReason (Unit {0}) (TookEffect start old)) one.item e.step.marks reasons one.there)
      where
        by : (mark : Mark) → is_reported v mark ≡ true → HasReason (Unit {0}) (TookEffect start old) mark
            → TookEffect start old v
        by (Reported other (Committed epoch)) is has = subst (TookEffect start old) (same_tx-is other v is) has
        by mark is has = absurd cc

    -- and it stays so
    effect_more : (v : TxId) → TookEffect start old v → TookEffect start (logs_of start (e ∷ es)) v
    effect_more v was = record {
      decided = decided_more start all e es moment v was.decided;
      applied = λ key written.
          applied_more start all e es moment v key
          (was.applied key (written_before start all e es moment v key was.decided written));
    }

pub reported_effect : AllStandAlways → (start : Start) (all : ℕ → List HostStep) (es : List HostStep)
    → IsMoment start all es → (v : TxId) (h : ℕ) → has_mark (is_reported v) (logs_of start es h) ≡ true
    → TookEffect start (logs_of start es) v
reported_effect stand start all [] moment v h is = absurd (true≢false (sym is))
reported_effect stand start all (e ∷ es) moment v h is =
    effect_more stand start all e es moment v
    (mark_cases start e es h (is_reported v) (λ at now. reported_now stand start all e es moment v now)
    (reported_effect stand start all es (moment_less start all e es moment) v h) is)

-- marks that are there
any_report : (v : TxId) (epoch : ℕ) (marks : List Mark) → IsIn (Reported v (Committed epoch)) marks
    → list_any (is_reported v) marks ≡ true
any_report v epoch marks there = any_in (is_reported v) (Reported v (Committed epoch)) marks there (same_tx-self v)

pub has_report : (v : TxId) (epoch : ℕ) (log : List HostStep) → IsMarked (Reported v (Committed epoch)) log
    → has_mark (is_reported v) log ≡ true
has_report v epoch [] is = absurd is
has_report v epoch (e ∷ log) (inl now) = or_left _ _ (any_report v epoch e.step.marks now)
has_report v epoch (e ∷ log) (inr older) = or_right _ _ (has_report v epoch log older)

-- whoever wrote something wrote some key
record WritesOne (ops : List (Op × Answer)) : Type 0 where
  key : List ℕ
  written : is_written_by ops key ≡ true

writes_one : (ops : List (Op × Answer)) → list_any (λ (op : Op × Answer). is_done op.1) ops ≡ true → WritesOne ops
writes_one ops is =
    let done = passing (λ (op : Op × Answer). is_done op.1) ops is in
    record {
      key = key_of done.item.0;
      written =
          any_in (λ (op : Op × Answer). is_done op.1)
          done.item (filter (λ (op : Op × Answer). same_key (key_of op.0) (key_of done.item.0)) ops)
          (in_filter (λ (op : Op × Answer). same_key (key_of op.0) (key_of done.item.0)) done.item ops done.there
          (same_key-self (key_of done.item.0)))
          done.is;
    }

module _ (stand : AllStandAlways) (start : Start) (logs : ℕ → List HostStep) (are : AreOfCluster start logs) (tx : TxId)
    (epoch : ℕ) (marked : IsMarked (Reported tx (Committed epoch)) (logs 0))
  where
    abbrev events : List HostStep
    events = in_order (by_views start logs)

    moment : IsMoment start logs events
    moment = are_moments start logs are

    log_is : (h : ℕ) → logs_of start events h ≡ logs h
    log_is h = (run_in_views start logs are).has h

    decided : HasEntry tx epoch (entries (hosts start) logs)
    decided = commits_were_decided start logs are tx epoch marked

    abbrev entry : Entry
    entry = decided.entry

    effect : TookEffect start (logs_of start events) tx
    effect =
        reported_effect stand start logs events moment tx 0
        (subst (λ log. has_mark (is_reported tx) log ≡ true) (sym (log_is 0)) (has_report tx epoch (logs 0) marked))

    own : HasEntryOf start events tx
    own = entry_of_decided start logs events moment tx effect.decided

    -- its entry has the operations with which it is decided
    there : IsIn entry (decisions start events)
    there =
        subst (IsIn entry) (reverse-reverse (decisions start events))
        (in_turned entry (reverse (decisions start events))
        (subst (IsIn entry) (stand_in_order start logs are) decided.there))

    ops_are : entry.ops ≡ decided_ops start (logs_of start events) tx
    ops_are =
        ap (λ (z : Entry). z.ops)
        (one_entry (decisions start events) entry own.entry (decisions_once start logs events moment) there own.there
        (ap (λ v. same_tx v own.entry.tx) (decided.tx_is ∙ sym own.tx_is) ∙ same_tx-self own.entry.tx))
        ∙ own.ops_is

    reported : have_mark (is_reported entry.tx) (hosts start) logs ≡ true
    reported =
        subst (λ v. have_mark (is_reported v) (hosts start) logs ≡ true) (sym decided.tx_is)
        (have_it (is_reported tx) (hosts start) 0 logs (omega arith) (has_report tx epoch (logs 0) marked))

    applied : writes entry ≡ true → have_mark (is_applied entry.tx) (hosts start) logs ≡ true
    applied is =
        let one =
        writes_one (decided_ops start (logs_of start events) tx)
        (sym (ap (λ (ops : List (Op × Answer)). list_any (λ (op : Op × Answer). is_done op.1) ops) ops_are) ∙ is) in
        let at = effect.applied one.key one.written in
        subst (λ v. have_mark (is_applied v) (hosts start) logs ≡ true) (sym decided.tx_is)
        (have_it (is_applied tx) (hosts start) (ldm_of start at.member) logs
        (ldm_low start are.nobody at.member at.is_made)
        (subst (λ log. has_mark (is_applied tx) log ≡ true) (log_is (ldm_of start at.member))
        (has_applied tx one.key (logs_of start events (ldm_of start at.member)) at.marked)))

    kept : is_kept (hosts start) logs entry ≡ true
    kept = by (writes entry) refl
      where
        by : (b : Bool) → writes entry ≡ b
            → (if b then have_mark (is_applied entry.tx) (hosts start) logs else
            have_mark (is_reported entry.tx) (hosts start) logs) ≡ true
        by true is = applied is
        by false is = reported

    has_effect : HasEntry tx epoch (history (hosts start) logs)
    has_effect = record {
      entry = entry;
      there = in_filter (is_kept (hosts start) logs) entry (entries (hosts start) logs) decided.there kept;
      tx_is = decided.tx_is;
      epoch_is = decided.epoch_is;
    }

pub commits_take_effect : AllStandAlways → CommitsTakeEffect
commits_take_effect stand start logs are tx epoch marked = has_effect stand start logs are tx epoch marked
