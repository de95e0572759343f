-- Whoever was applied has an entry that takes effect.
use Rattle.std.proofs.Common.{◌≡◌, ◌≢◌, ◌⊎◌, ◌||◌, ◌<◌, ◌∙◌, ◌++◌, cond, ℕ, zero, suc, Bool, true, false, List, [], ◌∷◌}
use Rattle.std.proofs.Common.{filter, refl, sym, ap, subst, inl, inr, arith}
use Rattle.std.proofs.lemmas.Bool.{cases_eq, or_left, or_right, true≢false}
use Rattle.std.specs.List.{list_any}
use Rattle.std.specs.Prelude.{if◌then◌else◌}
use Rattle.run_theory.proofs.Runs.{log_of-own}
use Rattle.run_theory.specs.Lists.{IsIn}
use Rattle.commit_laws.proofs.markers.Lists.{in_filter}
use Rattle.commit_laws.proofs.hosts.MarkCases.{mark_cases, marked_cases}
use Rattle.sig_core.proofs.Keys.{same_tx-self}
use Rattle.sig_core.specs.declared.entry.Entry.{Entry}
use Rattle.sig_core.specs.declared.mark.Mark.{Mark}
use Rattle.sig_core.specs.declared.mark.Mark.TheVariants.{Applied, Decided}
use Rattle.sig_core.specs.declared.member.TxId.{TxId}
use Rattle.sig_core.specs.declared.op.Answer.{Answer}
use Rattle.sig_core.specs.declared.op.Op.{Op}
use Rattle.sig_core.specs.declared.signal.chain.ChainSignal.TheVariants.{Commit}
use Rattle.sig_core.specs.Same.{same_tx}
use Rattle.world_core.specs.Entries.{entries_in, entry_of, ops_of}
use Rattle.world_core.specs.History.{is_applied, is_done, is_reported, writes}
use Rattle.world_core.specs.Hosts.{hosts}
use Rattle.world_core.specs.Marks.{has_mark, have_mark}
use Rattle.world_core.specs.Start.{Start}
use Rattle.world_core.specs.Steps.{HostStep}
use Rattle.world_views.specs.Machine.{machine}
use Rattle.view_laws.specs.Order.{decisions, entries_along}
use Rattle.moment_laws.proofs.MomentViews.{moment_less}
use Rattle.moment_laws.specs.Moments.{IsMoment, logs_of}
use Rattle.moment_laws.specs.Places.{ldm_of, tc_of}
use Rattle.outcome_laws.proofs.knowledge.CommitsWereDecided.{in_before, in_turned}
use Rattle.outcome_laws.specs.Counts.{coordinator_member, is_decision}
use Rattle.outcome_laws.specs.Decided.{IsMarked}
use Rattle.request_laws.proofs.tokens.HostsApart.{ldm_low}
use Rattle.request_laws.proofs.routes.ChainsStay.{any_in}
use Rattle.commit_laws.specs.Commits.{HasWritten}
use Rattle.commit_laws.specs.Forth.{ForthIsKnownAlways}
use Rattle.commit_laws.specs.Going.{decided_ops, is_decided}
use Rattle.commit_laws.specs.Owed.{AppliedAreFinal}
use Rattle.commit_laws.specs.Together.{AllStandAlways}
use Rattle.commit_laws.specs.Traces.{IsApplied}
use Rattle.commit_laws.specs.Values.{history_at, is_final_entry}
use Rattle.commit_laws.proofs.markers.AppliedMarks.{marks_of_commit}
use Rattle.commit_laws.proofs.fates.Committed.{decision_in}
use Rattle.commit_laws.proofs.forth.DecidedStay.{applied_more, decided_more, ops_same, written_more}
use Rattle.commit_laws.proofs.led.Entries.{decision_stays}
use Rattle.commit_laws.proofs.led.Replicas.{moment_at}
use Rattle.commit_laws.proofs.links.TakenChains.{commit_kept}

-- the transaction is decided, and wrote the key
record WritesKey (start : Start) (logs : ℕ → List HostStep) (v : TxId) (key : List ℕ) : Type 0 where
  decided : is_decided start logs v ≡ true
  written : HasWritten start logs v key

applied_written : ForthIsKnownAlways → AllStandAlways → (start : Start) (all : ℕ → List HostStep) (es : List HostStep)
    → IsMoment start all es → (v : TxId) (key : List ℕ) → IsApplied start (logs_of start es) v key
    → WritesKey start (logs_of start es) v key
applied_written forth stand start all [] moment v key applied = absurd applied.marked
applied_written forth stand start all (e ∷ es) moment v key applied =
    more (marked_cases start e es (ldm_of start applied.member) (Applied v key) new
    (λ older. applied_written forth stand start all es before v key
    (record { member = applied.member; is_made = applied.is_made; marked = older })) applied.marked)
  where
    before : IsMoment start all es
    before = moment_less start all e es moment

    more : WritesKey start (logs_of start es) v key → WritesKey start (logs_of start (e ∷ es)) v key
    more old = record {
      decided = decided_more start all e es moment v old.decided;
      written = written_more start all e es moment v key old.decided old.written;
    }

    new : e.host ≡ ldm_of start applied.member → IsIn (Applied v key) e.step.marks
        → WritesKey start (logs_of start es) v key
    new at marked =
        let c = marks_of_commit start all e es moment applied.member applied.is_made v key at marked in
        let stood = stand start all es before in
        let kept =
        (commit_kept start all e es moment c.takes.now
        (Commit v key c.epoch c.chain 0) c.body_is forth stood.spoken v key
        c.epoch c.chain 0 refl).kept in
        record {
          decided = kept.decided;
          written = (stood.commits.records v kept applied.member applied.is_made key c.own c.record_is).0;
        }

-- it stays applied
applied_past : (start : Start) (all : ℕ → List HostStep) (newer es : List HostStep) → IsMoment start all (newer ++ es)
    → (v : TxId) (key : List ℕ) → IsApplied start (logs_of start es) v key → IsApplied start
    (logs_of start (newer ++ es)) v key
applied_past start all [] es moment v key applied = applied
applied_past start all (e ∷ newer) es moment v key applied =
    applied_more start all e (newer ++ es) moment v key
    (applied_past start all newer es (moment_less start all e (newer ++ es) moment) v key applied)

-- the entry of a decision
entry_there : (h stamp : ℕ) (log : List HostStep) (v : TxId) (epoch : ℕ) (marks : List Mark) (before : List Entry)
    → IsIn (Decided v epoch) marks → IsIn (entry_of h stamp log v epoch) (entries_in h stamp log marks before)
entry_there h stamp log v epoch [] before there = absurd there
entry_there h stamp log v epoch (Decided tx k ∷ marks) before (inl same) =
    in_before h stamp log (entry_of h stamp log v epoch) marks (entry_of h stamp log tx k ∷ before)
    (inl (λ i. entry_of h stamp log (tx_of (same i)) (epoch_of (same i))))
  where
    tx_of : Mark → TxId
    tx_of (Decided u n) = u
    tx_of mark = v

    epoch_of : Mark → ℕ
    epoch_of (Decided u n) = n
    epoch_of mark = epoch
entry_there h stamp log v epoch (Decided tx k ∷ marks) before (inr there) =
    entry_there h stamp log v epoch marks (entry_of h stamp log tx k ∷ before) there
entry_there h stamp log v epoch (mark ∷ marks) before (inl same) = absurd cc
entry_there h stamp log v epoch (mark ∷ marks) before (inr there) = entry_there h stamp log v epoch marks before there

pub record HasEntryOf (start : Start) (es : List HostStep) (v : TxId) : Type 0 where
  pub entry : Entry
  pub there : IsIn entry (decisions start es)
  pub tx_is : entry.tx ≡ v
  pub ops_is : entry.ops ≡ decided_ops start (logs_of start es) v

pub entry_of_decided : (start : Start) (all : ℕ → List HostStep) (es : List HostStep) → IsMoment start all es
    → (v : TxId)
    → is_decided start (logs_of start es) v ≡ true → HasEntryOf start es v
entry_of_decided start all [] moment v is = absurd (true≢false (sym is))
entry_of_decided start all (e ∷ es) moment v is =
    by (is_decided start (logs_of start es) v) refl
    (entry_of_decided start all es (moment_less start all e es moment) v)
  where
    h : ℕ
    h = tc_of start (coordinator_member v)

    new : is_decided start (logs_of start es) v ≡ false → HasEntryOf start (e ∷ es) v
    new off =
        mark_cases start e es h (is_decision v)
        (λ at marked.
        let d = decision_in v e.step.marks marked in
        record {
          entry = entry_of e.host e.step.stamp (e ∷ logs_of start es e.host) v d.epoch;
          there =
              entry_there e.host e.step.stamp (e ∷ logs_of start es e.host) v d.epoch e.step.marks
              (decisions start es) d.inside;
          tx_is = refl;
          ops_is =
              ap (λ k. ops_of v (e ∷ logs_of start es k)) at ∙ sym
              (ap (ops_of v) (log_of-own (machine start) e es h at));
        })
        (λ was. absurd (true≢false (sym was ∙ off))) is

    by : (b : Bool) → is_decided start (logs_of start es) v ≡ b
        → (is_decided start (logs_of start es) v ≡ true → HasEntryOf start es v) → HasEntryOf start (e ∷ es) v
    by true was rest =
        let old = rest was in
        record {
          entry = old.entry;
          there =
              in_before e.host e.step.stamp (e ∷ logs_of start es e.host) old.entry e.step.marks
              (decisions start es) old.there;
          tx_is = old.tx_is;
          ops_is = old.ops_is ∙ sym (ops_same start all e es moment v was);
        }
    by false off rest = new off

-- marks that are there
any_mark : (v : TxId) (key : List ℕ) (marks : List Mark) → IsIn (Applied v key) marks
    → list_any (is_applied v) marks ≡ true
any_mark v key [] there = absurd there
any_mark v key (mark ∷ marks) (inl same) =
    or_left (is_applied v mark) (list_any (is_applied v) marks) (ap (is_applied v) (sym same) ∙ same_tx-self v)
any_mark v key (mark ∷ marks) (inr there) =
    or_right (is_applied v mark) (list_any (is_applied v) marks) (any_mark v key marks there)

pub has_applied : (v : TxId) (key : List ℕ) (log : List HostStep) → IsMarked (Applied v key) log
    → has_mark (is_applied v) log ≡ true
has_applied v key [] is = absurd is
has_applied v key (e ∷ log) (inl now) = or_left _ _ (any_mark v key e.step.marks now)
has_applied v key (e ∷ log) (inr older) = or_right _ _ (has_applied v key log older)

pub have_it : (test : Mark → Bool) (n h : ℕ) (logs : ℕ → List HostStep) → h < n → has_mark test (logs h) ≡ true
    → have_mark test n logs ≡ true
have_it test zero h logs below has = absurd (omega (arith, below))
have_it test (suc n) h logs below has = by (cases_eq h n) (have_it test n h logs)
  where
    by : (h ≡ n) ⊎ (h ≢ n) → (h < n → has_mark test (logs h) ≡ true → have_mark test n logs ≡ true)
        → (has_mark test (logs n) || have_mark test n logs) ≡ true
    by (inl at) more =
        or_left (has_mark test (logs n)) (have_mark test n logs) (subst (λ g. has_mark test (logs g) ≡ true) at has)
    by (inr off) more =
        or_right (has_mark test (logs n)) (have_mark test n logs) (more (omega (arith, below, off)) has)

-- one of those on a key is one of all
pub any_filtered : (p q : Op × Answer → Bool) (ops : List (Op × Answer)) → list_any q (filter p ops) ≡ true
    → list_any q ops ≡ true
any_filtered p q [] is = is
any_filtered p q (op ∷ ops) is = by (p op) is (any_filtered p q ops)
  where
    both : (a b c : Bool) → (b ≡ true → c ≡ true) → (a || b) ≡ true → (a || c) ≡ true
    both true b c more is = refl
    both false b c more is = more is

    by : (b : Bool) → list_any q (cond b (op ∷ filter p ops) (filter p ops)) ≡ true
        → (list_any q (filter p ops) ≡ true → list_any q ops ≡ true) → (q op || list_any q ops) ≡ true
    by true is more = both (q op) (list_any q (filter p ops)) (list_any q ops) more is
    by false is more = or_right (q op) (list_any q ops) (more is)

pub applied_are_final : ForthIsKnownAlways → AllStandAlways → AppliedAreFinal
applied_are_final forth stand start all end es along v key applied =
    any_in (λ (b : Entry). same_tx b.tx v) own.entry (history_at start end end)
    (in_filter (is_final_entry start end) own.entry (entries_along start end)
    (in_turned own.entry (decisions start end) (decision_stays start all end es along own.entry own.there)) kept)
    (ap (λ t. same_tx t v) own.tx_is ∙ same_tx-self v)
  where
    moment : IsMoment start all es
    moment = moment_at start all end es along

    wrote : WritesKey start (logs_of start es) v key
    wrote = applied_written forth stand start all es moment v key applied

    own : HasEntryOf start es v
    own = entry_of_decided start all es moment v wrote.decided

    applied_end : IsApplied start (logs_of start end) v key
    applied_end =
        subst (λ list. IsApplied start (logs_of start list) v key) (sym along.past.is)
        (applied_past start all along.past.newer es
        (subst (IsMoment start all) along.past.is along.moment) v key applied)

    marked : have_mark (is_applied own.entry.tx) (hosts start) (logs_of start end) ≡ true
    marked =
        subst (λ t. have_mark (is_applied t) (hosts start) (logs_of start end) ≡ true) (sym own.tx_is)
        (have_it (is_applied v) (hosts start) (ldm_of start applied_end.member) (logs_of start end)
        (ldm_low start along.moment.cluster.nobody applied_end.member applied_end.is_made)
        (has_applied v key (logs_of start end (ldm_of start applied_end.member)) applied_end.marked))

    written : writes own.entry ≡ true
    written =
        ap (λ (ops : List (Op × Answer)). list_any (λ (op : Op × Answer). is_done op.1) ops) own.ops_is
        ∙ any_filtered _ (λ (op : Op × Answer). is_done op.1) (decided_ops start (logs_of start es) v) wrote.written

    kept : is_final_entry start end own.entry ≡ true
    kept =
        ap (λ w. if w then have_mark (is_applied own.entry.tx) (hosts start) (logs_of start end) else
        have_mark (is_reported own.entry.tx) (hosts start) (logs_of start end)) written
        ∙ marked
