-- Whoever is final was committed by its coordinator: what it wrote was applied by rows at a commit, or the client's
-- side reported a commit that it was told of.
use Rattle.std.proofs.Common.{◌≡◌, ◌⊎◌, ◌∙◌, cond, ℕ, zero, suc, Bool, true, false, List, [], ◌∷◌, filter, refl}
use Rattle.std.proofs.Common.{sym, ap, subst, inl, inr}
use Rattle.std.proofs.lemmas.Bool.{true≢false, or_cases}
use Rattle.std.specs.List.{list_any}
use Rattle.std.specs.Prelude.{if◌then◌else◌}
use Rattle.run_theory.proofs.Pasts.{each_in}
use Rattle.run_theory.proofs.Runs.{log_of-own}
use Rattle.run_theory.specs.Lists.{Each, IsIn}
use Rattle.run_theory.specs.Runs.{Happens}
use Rattle.commit_laws.proofs.forth.Grows.{forth_grows}
use Rattle.commit_laws.proofs.hosts.MarkCases.{mark_cases, marked_cases}
use Rattle.sig_core.proofs.TxLemmas.{same_tx-is}
use Rattle.sig_core.specs.declared.entry.Entry.{Entry}
use Rattle.sig_core.specs.declared.mark.Mark.{Mark}
use Rattle.sig_core.specs.declared.mark.Mark.TheVariants.{Applied, Reported}
use Rattle.sig_core.specs.declared.member.Member.{Member}
use Rattle.sig_core.specs.declared.member.TxId.{TxId}
use Rattle.sig_core.specs.declared.outcome.Outcome.TheVariants.{Committed}
use Rattle.sig_core.specs.declared.signal.Body.TheVariants.{Client, Host}
use Rattle.sig_core.specs.declared.signal.chain.ChainSignal.TheVariants.{Commit}
use Rattle.sig_core.specs.declared.signal.client.ClientSignal.{ClientSignal}
use Rattle.sig_core.specs.declared.signal.client.ClientSignal.TheVariants.{TcCommitConf, TcKeyFailConf}
use Rattle.sig_core.specs.declared.signal.host.HostSignal.TheVariants.{Closed}
use Rattle.sig_core.specs.Same.{same_tx}
use Rattle.node_views.specs.declared.parts.Parts.{Parts}
use Rattle.node_views.specs.declared.parts.Parts.TheVariants.{Ldm, Main, Shell, Tc}
use Rattle.node_views.specs.WellFormed.{is_well_formed}
use Rattle.world_core.specs.History.{is_applied, is_reported, writes}
use Rattle.world_core.specs.Hosts.{hosts}
use Rattle.world_core.specs.Marks.{has_mark, have_mark}
use Rattle.world_core.specs.Start.{NobodyStarts, Start, made}
use Rattle.world_core.specs.Steps.{Addressed, HostStep}
use Rattle.world_views.specs.Hosts.{started}
use Rattle.world_views.specs.Machine.{IsOwnWork, machine}
use Rattle.view_laws.specs.Order.{entries_along, sound_machine}
use Rattle.moment_laws.proofs.MomentHosts.{tc_started}
use Rattle.moment_laws.proofs.MomentSignals.{taken_told}
use Rattle.moment_laws.proofs.MomentTurns.{host_low}
use Rattle.moment_laws.proofs.MomentViews.{moment_less}
use Rattle.moment_laws.specs.Moments.{IsMoment, logs_of}
use Rattle.moment_laws.specs.Places.{ldm_of}
use Rattle.outcome_laws.specs.Decided.{IsMarked}
use Rattle.request_laws.proofs.routes.Hosts.{IsBeside, PartHost, coordinates, is_beside, keeps_rows, part_host}
use Rattle.commit_laws.specs.Forth.{IsForth, TellsForth}
use Rattle.commit_laws.specs.Going.{is_forth}
use Rattle.commit_laws.specs.Owed.{FinalsAreForth}
use Rattle.commit_laws.specs.Traces.{IsApplied}
use Rattle.commit_laws.specs.Values.{history_at, is_final, is_final_entry}
use Rattle.commit_laws.proofs.markers.AppliedMarks.{marks_of_commit}
use Rattle.commit_laws.proofs.forth.DecidedStay.{applied_more}
use Rattle.commit_laws.proofs.forth.All.{forth_is_known}
use Rattle.commit_laws.proofs.forth.Client.{IsToldOf, by_coordinator, by_takeover}
use Rattle.commit_laws.proofs.hosts.MarkReasons.{HasReason, RunsIf, marks_have_reasons}
use Rattle.commit_laws.proofs.links.TakenChains.{chain_told}
use Rattle.commit_laws.proofs.hosts.SomePasses.{passing}

-- whoever is said to run rows does
runs_any : (A : Type 0) (T : TxId → Type 0) → A → (parts : Parts) → RunsIf A T parts
runs_any A T runs (Shell p) = tt
runs_any A T runs (Main p) = tt
runs_any A T runs (Tc p) = tt
runs_any A T runs (Ldm p) = runs

runs_none : (A : Type 0) (T : TxId → Type 0) (parts : Parts) → IsBeside parts → RunsIf A T parts
runs_none A T (Shell p) beside = tt
runs_none A T (Main p) beside = tt
runs_none A T (Tc p) beside = tt
runs_none A T (Ldm p) beside = absurd beside

-- the host of a member's rows
record RunsRows (start : Start) (h : ℕ) : Type 0 where
  me : Member
  is_made : IsIn me (made start)
  at : h ≡ ldm_of start me

runs_first : (start : Start) (nobody : NobodyStarts start) (h : ℕ) → PartHost start h
    → RunsIf (RunsRows start h) (λ tx. Unit {0}) (started start h).parts
runs_first start nobody h (coordinates me there at) =
    subst (λ k. RunsIf (RunsRows start h) (λ tx. Unit {0}) (started start k).parts) (sym at)
    (subst (λ s. RunsIf (RunsRows start h) (λ tx. Unit {0}) s.parts) (sym (tc_started start nobody me there)) tt)
runs_first start nobody h (keeps_rows me there at) =
    runs_any (RunsRows start h) (λ tx. Unit {0}) (record { me = me; is_made = there; at = at }) (started start h).parts
runs_first start nobody h (is_beside beside) =
    runs_none (RunsRows start h) (λ tx. Unit {0}) (started start h).parts beside

module _ (start : Start) (all : ℕ → List HostStep) (e : HostStep) (es : List HostStep)
    (moment : IsMoment start all (e ∷ es))
  where
    abbrev old : ℕ → List HostStep
    old = logs_of start es

    abbrev F : TxId → Type 0
    F = IsForth start old

    before : IsMoment start all es
    before = moment_less start all e es moment

    -- whom the client's side is told of has gone forth
    client_told : (signal : ClientSignal) → e.step.taken.body ≡ Client signal
        → is_well_formed start.shape e.step.taken ≡ true → TellsForth F (Client signal)
    client_told signal is sound =
        subst (TellsForth F) is
        (taken_told start (λ (y : Addressed). TellsForth F y.signal.body) all e es moment
        (forth_is_known start all es before).signals sound
        (λ work. absurd (subst (IsOwnWork start e.host) is work))
        (λ closes. let differ : Client signal ≡ Host (Closed closes.cause) = sym is ∙ closes.is in absurd cc))

    told_forth : is_well_formed start.shape e.step.taken ≡ true → (tx : TxId) → IsToldOf tx e.step.taken.body → F tx
    told_forth sound tx (by_coordinator epoch is) = client_told (TcCommitConf tx epoch) is sound
    told_forth sound tx (by_takeover epoch is) = client_told (TcKeyFailConf tx epoch) is sound

    reasons : Each (HasReason (RunsRows start e.host) F) e.step.marks
    reasons =
        let happens : Happens (sound_machine start) es e = moment.run.1 in
        subst (Each (HasReason (RunsRows start e.host) F)) (sym happens.step.fits.marks)
        (marks_have_reasons start moment.cluster.nobody e.host (RunsRows start e.host)
        (runs_first start moment.cluster.nobody e.host
        (part_host start moment.cluster.nobody e.host (host_low start all e es moment))) F (old e.host) e
        told_forth)

    -- what is reported now has gone forth
    reported_now : (v : TxId) → list_any (is_reported v) e.step.marks ≡ true → F v
    reported_now v is =
        let one = passing (is_reported v) e.step.marks is in
        by one.item one.is
        (each_in (HasReason (RunsRows start e.host) F) one.item e.step.marks reasons one.there)
      where
        by : (mark : Mark) → is_reported v mark ≡ true → HasReason (RunsRows start e.host) F mark → F v
        by (Reported other (Committed epoch)) is has = subst F (same_tx-is other v is) has
        by mark is has = absurd cc

    -- and what is applied now is so at the host of rows
    record AppliesNow (v : TxId) : Type 0 where
      key : List ℕ
      runs : RunsRows start e.host
      marked : IsIn (Applied v key) e.step.marks

    applied_now : (v : TxId) → list_any (is_applied v) e.step.marks ≡ true → AppliesNow v
    applied_now v is =
        let one = passing (is_applied v) e.step.marks is in
        by one.item one.is
        (each_in (HasReason (RunsRows start e.host) F) one.item e.step.marks reasons one.there) one.there
      where
        by : (mark : Mark) → is_applied v mark ≡ true → HasReason (RunsRows start e.host) F mark
            → IsIn mark e.step.marks → AppliesNow v
        by (Applied other key) is has there = record {
          key = key;
          runs = has;
          marked = subst (λ t. IsIn (Applied t key) e.step.marks) (same_tx-is other v is) there;
        }
        by mark is has there = absurd cc

    -- it is of a commit
    applied_forth_now : (member : Member) → IsIn member (made start) → (v : TxId) (key : List ℕ)
        → e.host ≡ ldm_of start member → IsIn (Applied v key) e.step.marks → F v
    applied_forth_now member there v key at marked =
        let c = marks_of_commit start all e es moment member there v key at marked in
        subst (TellsForth F) c.body_is
        (chain_told start all e es moment c.takes.now (Commit v key c.epoch c.chain 0) c.body_is
        (λ (y : Addressed). TellsForth F y.signal.body) (forth_is_known start all es before).signals)

reported_forth : (start : Start) (all : ℕ → List HostStep) (es : List HostStep) → IsMoment start all es → (v : TxId)
    (h : ℕ) → has_mark (is_reported v) (logs_of start es h) ≡ true → is_forth start (logs_of start es) v ≡ true
reported_forth start all [] moment v h is = absurd (true≢false (sym is))
reported_forth start all (e ∷ es) moment v h is =
    forth_grows start e es v
    (mark_cases start e es h (is_reported v) (λ at now. reported_now start all e es moment v now)
    (reported_forth start all es (moment_less start all e es moment) v h) is)

-- on some key it is applied
record IsAppliedOnOne (start : Start) (logs : ℕ → List HostStep) (v : TxId) : Type 0 where
  key : List ℕ
  applied : IsApplied start logs v key

applied_on_one : (start : Start) (all : ℕ → List HostStep) (es : List HostStep) → IsMoment start all es → (v : TxId)
    (h : ℕ) → has_mark (is_applied v) (logs_of start es h) ≡ true → IsAppliedOnOne start (logs_of start es) v
applied_on_one start all [] moment v h is = absurd (true≢false (sym is))
applied_on_one start all (e ∷ es) moment v h is =
    mark_cases start e es h (is_applied v) (λ at now. now_one (applied_now start all e es moment v now))
    (λ was. more (applied_on_one start all es (moment_less start all e es moment) v h was)) is
  where
    more : IsAppliedOnOne start (logs_of start es) v → IsAppliedOnOne start (logs_of start (e ∷ es)) v
    more one = record { key = one.key; applied = applied_more start all e es moment v one.key one.applied }

    now_one : AppliesNow start all e es moment v → IsAppliedOnOne start (logs_of start (e ∷ es)) v
    now_one now = record {
      key = now.key;
      applied = record {
        member = now.runs.me;
        is_made = now.runs.is_made;
        marked =
            subst (IsMarked (Applied v now.key))
            (sym (log_of-own (machine start) e es (ldm_of start now.runs.me) now.runs.at)) (inl now.marked);
      };
    }

-- whoever was applied has gone forth
pub applied_forth : (start : Start) (all : ℕ → List HostStep) (es : List HostStep) → IsMoment start all es → (v : TxId)
    (key : List ℕ) → IsApplied start (logs_of start es) v key → is_forth start (logs_of start es) v ≡ true
applied_forth start all [] moment v key applied = absurd applied.marked
applied_forth start all (e ∷ es) moment v key applied =
    forth_grows start e es v
    (marked_cases start e es (ldm_of start applied.member) (Applied v key)
    (applied_forth_now start all e es moment applied.member applied.is_made v key)
    (λ older. applied_forth start all es (moment_less start all e es moment) v key
    (record { member = applied.member; is_made = applied.is_made; marked = older })) applied.marked)

-- a host that has the mark
record HasItAt (test : Mark → Bool) (logs : ℕ → List HostStep) : Type 0 where
  h : ℕ
  has : has_mark test (logs h) ≡ true

host_with : (test : Mark → Bool) (n : ℕ) (logs : ℕ → List HostStep) → have_mark test n logs ≡ true → HasItAt test logs
host_with test zero logs is = absurd (true≢false (sym is))
host_with test (suc n) logs is =
    by (or_cases (has_mark test (logs n)) (have_mark test n logs) is) (host_with test n logs)
  where
    by : (has_mark test (logs n) ≡ true) ⊎ (have_mark test n logs ≡ true)
        → (have_mark test n logs ≡ true → HasItAt test logs) → HasItAt test logs
    by (inl has) rest = record { h = n; has = has }
    by (inr lower) rest = rest lower

-- what is left by a filter passes
left_passes : {A : Type 0} (p : A → Bool) (x : A) (xs : List A) → IsIn x (filter p xs) → p x ≡ true
left_passes p x [] there = absurd there
left_passes {A} p x (y ∷ xs) there = by (p y) refl there (left_passes p x xs)
  where
    by : (b : Bool) → p y ≡ b → IsIn x (cond b (y ∷ filter p xs) (filter p xs)) → (IsIn x (filter p xs) → p x ≡ true)
        → p x ≡ true
    by true is (inl same) rest = ap p same ∙ is
    by true is (inr there) rest = rest there
    by false is there rest = rest there

-- an entry that takes effect, of the transaction
pub record HasFinalEntry (start : Start) (end : List HostStep) (v : TxId) : Type 0 where
  pub entry : Entry
  pub tx_is : entry.tx ≡ v
  pub kept : is_final_entry start end entry ≡ true

pub final_entry : (start : Start) (end : List HostStep) (v : TxId) → is_final start end v ≡ true
    → HasFinalEntry start end v
final_entry start end v is =
    let one = passing (λ (b : Entry). same_tx b.tx v) (history_at start end end) is in
    record {
      entry = one.item;
      tx_is = same_tx-is one.item.tx v one.is;
      kept = left_passes (is_final_entry start end) one.item (entries_along start end) one.there;
    }

-- it wrote, and was applied on some key; or it didn't, and was reported
pub data IsFinalBy (start : Start) (end : List HostStep) (v : TxId) (entry : Entry) : Type 0 where
  by_write : writes entry ≡ true → (key : List ℕ) → IsApplied start (logs_of start end) v key
      → IsFinalBy start end v entry
  by_report : writes entry ≡ false → (h : ℕ) → has_mark (is_reported v) (logs_of start end h) ≡ true
      → IsFinalBy start end v entry

pub final_by : (start : Start) (all : ℕ → List HostStep) (end : List HostStep) → IsMoment start all end → (v : TxId)
    → (one : HasFinalEntry start end v) → IsFinalBy start end v one.entry
final_by start all end moment v one = by (writes one.entry) refl one.kept
  where
    logs : ℕ → List HostStep
    logs = logs_of start end

    by : (b : Bool) → writes one.entry ≡ b
        → (if b then have_mark (is_applied one.entry.tx) (hosts start) logs else
        have_mark (is_reported one.entry.tx) (hosts start) logs) ≡ true
        → IsFinalBy start end v one.entry
    by true is kept =
        let at = host_with (is_applied one.entry.tx) (hosts start) logs kept in
        let on =
        applied_on_one start all end moment v at.h
        (subst (λ t. has_mark (is_applied t) (logs at.h) ≡ true) one.tx_is at.has) in
        by_write is on.key on.applied
    by false is kept =
        let at = host_with (is_reported one.entry.tx) (hosts start) logs kept in
        by_report is at.h (subst (λ t. has_mark (is_reported t) (logs at.h) ≡ true) one.tx_is at.has)

pub finals_are_forth : FinalsAreForth
finals_are_forth start all end moment v is = by (final_by start all end moment v one)
  where
    one : HasFinalEntry start end v
    one = final_entry start end v is

    by : IsFinalBy start end v one.entry → is_forth start (logs_of start end) v ≡ true
    by (by_write is key applied) = applied_forth start all end moment v key applied
    by (by_report is h has) = reported_forth start all end moment v h has
