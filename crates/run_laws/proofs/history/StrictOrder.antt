-- Strict order: what was reported before another was asked for stands before it.
use Rattle.std.proofs.Common.{◌≡◌, ◌⊎◌, ◌≤◌, ◌<◌, ℕ, Bool, true, false, ◌||◌, List, [], ◌∷◌, ◌++◌, append_assoc, refl}
use Rattle.std.proofs.Common.{sym, ap, ◌∙◌, subst, inl, inr, arith}
use Rattle.std.proofs.lemmas.Bool.{or_cases}
use Rattle.std.specs.List.{list_any}
use Rattle.run_theory.specs.Lists.{Each, IsIn}
use Rattle.run_theory.specs.Logs.{IsLog, last}
use Rattle.run_theory.specs.Runs.{AreLogs}
use Rattle.run_theory.proofs.Links.{log_after, stamps_below, step_above}
use Rattle.run_theory.proofs.Pasts.{each_in, each_map, in_append}
use Rattle.sig_core.specs.declared.entry.Entry.{Entry}
use Rattle.world_core.specs.Steps.{HostStep}
use Rattle.sig_core.specs.declared.mark.Mark.{Mark}
use Rattle.sig_core.specs.declared.mark.Mark.TheVariants as mark
use Rattle.sig_core.specs.declared.member.TxId.{TxId}
use Rattle.sig_core.specs.declared.signal.Body.{Body}
use Rattle.sig_core.specs.declared.signal.Body.TheVariants.{Client, Chain, Epoch}
use Rattle.sig_core.specs.declared.signal.chain.ChainSignal.TheVariants.{Commit}
use Rattle.sig_core.specs.declared.signal.client.ClientSignal.TheVariants.{TcBeginConf, TcCommitReq, TcCommitConf}
use Rattle.sig_core.specs.declared.signal.epoch.EpochSignal.TheVariants.{DiVerifyReq, DiVerifyConf}
use Rattle.sig_core.specs.Same.{same_tx}
use Rattle.node_core.specs.Requests.{is_request}
use Rattle.world_core.specs.Entries.{entries_in, entries_of, installed_in, view_at}
use Rattle.world_core.specs.History.{history, is_reported}
use Rattle.world_core.specs.Hosts.{home, first_hosts}
use Rattle.world_core.specs.Machine.{machine}
use Rattle.world_core.specs.Marks.{has_mark}
use Rattle.frag_map.specs.Layout.{first_number}
use Rattle.world_core.specs.Start.{Start}
use Rattle.world_core.specs.Strict.{IsStrictOrder}
use Rattle.host_laws.specs.Causes.{is_decision}
use Rattle.host_laws.specs.Kinds.{kind_of}
use Rattle.host_laws.specs.Kinds as kind
use Rattle.run_laws.specs.Laws.{CommitsAreOfDecided, HistoriesAreStrict}
use Rattle.run_laws.proofs.causes.Causal.{AreCausal, cuts_are_causal}
use Rattle.run_laws.proofs.causes.Facts.{CommitsRightly, DecidesAt, DecidesRightly}
use Rattle.run_laws.proofs.history.EachEntry.{each_kept}
use Rattle.run_laws.proofs.history.Epochs.{inside_right, plain_entries, step_marks}
use Rattle.host_laws.proofs.hosts.HostMarks.{AreMarks, decides, plain}
use Rattle.sig_core.proofs.Keys.{same_tx-self}
use Rattle.host_laws.proofs.hosts.PlainMarks.{ArePlain}
use Rattle.run_laws.proofs.history.SortedEntries.{sorted_history, stands_before}
use Rattle.run_laws.proofs.causes.Unique.{Takes, begun_of, begun_reads, one_begun, one_verified, verified_of}
use Rattle.run_laws.proofs.causes.Unique.{verified_reads}
use Rattle.host_laws.proofs.coordinator.Numbers.{begun_by, verified_by}

-- no request begins a transaction or asks for an epoch
begun_asked : (body : Body) (tx : TxId) → kind_of body ≡ kind.begun tx → is_request body ≡ false
begun_asked (Client (TcBeginConf name other)) tx is = refl
begun_asked (Client (TcCommitReq other)) tx is = absurd cc
begun_asked (Client (TcCommitConf other epoch)) tx is = absurd cc
begun_asked (Epoch (DiVerifyReq other ops)) tx is = absurd cc
begun_asked (Epoch (DiVerifyConf other epoch)) tx is = absurd cc
begun_asked (Chain (Commit other key epoch chain at)) tx is = absurd cc
begun_asked _ tx is = absurd cc

verified_asked : (body : Body) (tx : TxId) → kind_of body ≡ kind.verified tx → is_request body ≡ false
verified_asked (Client (TcBeginConf name other)) tx is = absurd cc
verified_asked (Client (TcCommitReq other)) tx is = absurd cc
verified_asked (Client (TcCommitConf other epoch)) tx is = absurd cc
verified_asked (Epoch (DiVerifyReq other ops)) tx is = refl
verified_asked (Epoch (DiVerifyConf other epoch)) tx is = absurd cc
verified_asked (Chain (Commit other key epoch chain at)) tx is = absurd cc
verified_asked _ tx is = absurd cc

-- the step of an entry
pub record IsEntryOf (h : ℕ) (log : List HostStep) (b : Entry) : Type 0 where
  pub view : b.view ≡ first_number
  pub step : HostStep
  pub inside : IsIn step log
  pub marked : list_any (is_decision b.tx) step.step.marks ≡ true
  pub stamp : b.stamp ≡ step.step.stamp

plain_installed : (marks : List Mark) (number : ℕ) → ArePlain marks → installed_in marks number ≡ number
plain_installed [] number all = refl
plain_installed (mark.Installed view ∷ marks) number all = absurd cc
plain_installed (m ∷ marks) number all = plain_installed marks number all.1

step_installed : (epoch : ℕ) (marks : List Mark) (number : ℕ) → AreMarks epoch marks
    → installed_in marks number ≡ number
step_installed epoch marks number (plain all) = plain_installed marks number all
step_installed epoch marks number (decides tx is) = ap (λ w. installed_in w number) is

-- a reported transaction was so in a step
record HasReport (tx : TxId) (log : List HostStep) : Type 0 where
  step : HostStep
  inside : IsIn step log
  marked : list_any (is_reported tx) step.step.marks ≡ true

has_report : (tx : TxId) (log : List HostStep) → has_mark (is_reported tx) log ≡ true → HasReport tx log
has_report tx [] is = absurd cc
has_report tx (e ∷ log) is =
    by (or_cases (list_any (is_reported tx) e.step.marks) (has_mark (is_reported tx) log) is) (has_report tx log)
  where
    by : (list_any (is_reported tx) e.step.marks ≡ true) ⊎ (has_mark (is_reported tx) log ≡ true)
        → (has_mark (is_reported tx) log ≡ true → HasReport tx log) → HasReport tx (e ∷ log)
    by (inl own) more = record { step = e; inside = inl refl; marked = own }
    by (inr rest) more = let report = more rest in record {
      step = report.step;
      inside = inr report.inside;
      marked = report.marked;
    }

module _ (start : Start) where
  pub view_stays : (h : ℕ) (log : List HostStep) → IsLog (machine start) h log → view_at log ≡ first_number
  view_stays h [] l = refl
  view_stays h (e ∷ log) l =
      step_installed start.epoch e.step.marks (view_at log) (step_marks start h log e l.0) ∙ view_stays h log l.1

  entry_more : (h : ℕ) (e : HostStep) (log : List HostStep) (b : Entry) → IsEntryOf h log b → IsEntryOf h (e ∷ log) b
  entry_more h e log b is = record {
    view = is.view;
    step = is.step;
    inside = inr is.inside;
    marked = is.marked;
    stamp = is.stamp;
  }

  pub entries_are : (h : ℕ) (log : List HostStep) → IsLog (machine start) h log
      → Each (IsEntryOf h log) (entries_of h log)
  entries_are h [] l = tt
  entries_are h (e ∷ log) l =
      by (step_marks start h log e l.0) (each_map (IsEntryOf h log) (IsEntryOf h (e ∷ log)) (entries_of h log)
      (entry_more h e log) (entries_are h log l.1))
    where
      by : AreMarks start.epoch e.step.marks → Each (IsEntryOf h (e ∷ log)) (entries_of h log)
          → Each (IsEntryOf h (e ∷ log)) (entries_of h (e ∷ log))
      by (plain all) before =
          plain_entries (IsEntryOf h (e ∷ log)) h e.step.stamp (e ∷ log) e.step.marks (entries_of h log) all before
      by (decides tx is) before =
          subst (λ w. Each (IsEntryOf h (e ∷ log)) (entries_in h e.step.stamp (e ∷ log) w (entries_of h log)))
          (sym is) (
            record {
              view = view_stays h (e ∷ log) l;
              step = e;
              inside = inl refl;
              marked = ap (list_any (is_decision tx)) is ∙ itself (same_tx tx tx) (same_tx-self tx);
              stamp = refl;
            },
            before,
          )
        where
          itself : (b : Bool) → b ≡ true → (b || false) ≡ true
          itself true same = refl
          itself false same = same

  -- the entries of a cut, each with its host
  record HasHost (logs : ℕ → List HostStep) (b : Entry) : Type 0 where
    host : ℕ
    is : IsEntryOf host (logs host) b

  -- stamps rise along a log
  stamp_above : (h : ℕ) (newer : List HostStep) (e : HostStep) (older : List HostStep) (f : HostStep)
      → IsLog (machine start) h (newer ++ e ∷ older) → IsIn f older → f.step.stamp < e.step.stamp
  stamp_above h newer e older f l inside =
      let whole = log_after (machine start) h newer (e ∷ older) l in
      let above = step_above (machine start) h older e whole.0 in
      let below : f.step.stamp ≤ last (machine start) h older = each_in
      (λ (g : HostStep). g.step.stamp ≤ last (machine start) h older) f older
      (stamps_below (machine start) h older whole.1) inside in
      omega (arith, above, below)

  module _ (logs : ℕ → List HostStep) (right : AreLogs (machine start) logs) (causal : AreCausal start logs) where
    decided_at : (h : ℕ) (e : HostStep) (tx : TxId) → IsIn e (logs h) → list_any (is_decision tx) e.step.marks ≡ true
        → DecidesAt start logs e tx
    decided_at h e tx inside marked =
        each_in (DecidesRightly start logs) e (logs h) (causal.decisions h) inside tx marked

    -- the step of a decision is one of the coordinator's host
    at_home : (h : ℕ) (e : HostStep) (tx : TxId) → IsIn e (logs h) → DecidesAt start logs e tx
        → IsIn e (logs (home start tx))
    at_home h e tx inside is =
        subst (λ g. IsIn e (logs g)) (sym (host_of (logs h) (right.local h) inside) ∙ is.to) inside
      where
        host_of : (log : List HostStep) → IsLog (machine start) h log → IsIn e log → e.host ≡ h
        host_of [] l inside = absurd inside
        host_of (f ∷ log) l (inl same) = ap (λ (g : HostStep). g.host) same ∙ l.0.at
        host_of (f ∷ log) l (inr rest) = host_of log l.1 rest

    takes_verified : (e : HostStep) (tx : TxId) → DecidesAt start logs e tx
        → Takes start verified_of verified_by verified_reads (home start tx) tx e
    takes_verified e tx is = record {
      from = is.from;
      asked = verified_asked e.step.taken.body tx is.took;
      of = ap verified_of is.took;
    }

    -- a transaction is decided in one step
    pub one_decided : (tx : TxId) (g h : ℕ) (a b : HostStep) → IsIn a (logs g) → IsIn b (logs h)
        → list_any (is_decision tx) a.step.marks ≡ true → list_any (is_decision tx) b.step.marks ≡ true → a ≡ b
    one_decided tx g h a b left other marked too =
        let at_a = decided_at g a tx left marked in
        let at_b = decided_at h b tx other too in
        one_verified start logs right causal tx a b (at_home g a tx left at_a) (at_home h b tx other at_b)
        (takes_verified a tx at_a) (takes_verified b tx at_b)

    takes_begun : (e : HostStep) (tx : TxId) → IsIn e (logs 0) → kind_of e.step.taken.body ≡ kind.begun tx
        → Takes start begun_of begun_by begun_reads (home start tx) tx e
    takes_begun e tx inside is = record {
      from = each_in _ e (logs 0) causal.begins inside tx is;
      asked = begun_asked e.step.taken.body tx is;
      of = ap begun_of is;
    }

    strictly : IsStrictOrder start (logs 0) (history (first_hosts start) logs)
    strictly a b before in_a in_b asked reported =
        stands_before a b (history (first_hosts start) logs)
        (sorted_history first_number (first_hosts start) logs
        (λ h. each_map (IsEntryOf h (logs h)) (λ (c : Entry). c.view ≡ first_number) (entries_of h (logs h))
        (λ c is. is.view) (entries_are h (logs h) (right.local h))))
        in_a in_b lesser
      where
        kept : Each (HasHost logs) (history (first_hosts start) logs)
        kept = each_kept (HasHost logs) (first_hosts start) logs
            (λ h. each_map (IsEntryOf h (logs h)) (HasHost logs) (entries_of h (logs h))
            (λ c is. record { host = h; is = is }) (entries_are h (logs h) (right.local h)))

        lesser : a.stamp < b.stamp
        lesser =
            let of_a = each_in (HasHost logs) a (history (first_hosts start) logs) kept in_a in
            let of_b = each_in (HasHost logs) b (history (first_hosts start) logs) kept in_b in
            let report = has_report a.tx before reported in
            let parts : logs 0 ≡ asked.newer ++ (asked.told ∷ (asked.between ++ asked.asking ∷ before)) =
            asked.is ∙ append_assoc asked.newer (asked.told ∷ asked.between) (asked.asking ∷ before) in
            let whole = log_after (machine start) 0 asked.newer (asked.told ∷ (asked.between ++ asked.asking ∷ before))
            (subst (IsLog (machine start) 0) parts (right.local 0)) in
            let behind : IsIn report.step (asked.between ++ asked.asking ∷ before) =
            in_append report.step asked.between (asked.asking ∷ before) (inr report.inside) in
            let inside : IsIn report.step (logs 0) = subst (IsIn report.step) (sym parts)
            (in_append report.step asked.newer (asked.told ∷ (asked.between ++ asked.asking ∷ before)) (inr behind))
            in
            let told_inside : IsIn asked.told (logs 0) = subst (IsIn asked.told) (sym parts)
            (in_append asked.told asked.newer (asked.told ∷ (asked.between ++ asked.asking ∷ before)) (inl refl)) in
            let first : report.step.step.stamp < asked.told.step.stamp =
            stamp_above 0 [] asked.told (asked.between ++ asked.asking ∷ before) report.step whole behind in
            let decided = each_in _ report.step (logs 0) causal.reports inside a.tx report.marked in
            let own : decided.step ≡ of_a.is.step = one_decided a.tx decided.host of_a.host decided.step of_a.is.step
            decided.inside of_a.is.inside decided.marked of_a.is.marked in
            let at_b = decided_at of_b.host of_b.is.step b.tx of_b.is.inside of_b.is.marked in
            let begun : at_b.told.step ≡ asked.told =
            one_begun start logs right causal b.tx at_b.told.step asked.told at_b.told.inside told_inside
            (takes_begun at_b.told.step b.tx at_b.told.inside (ap kind_of at_b.told.told))
            (takes_begun asked.told b.tx told_inside (ap kind_of asked.begun)) in
            let one : a.stamp ≡ decided.step.step.stamp =
            of_a.is.stamp ∙ ap (λ (e : HostStep). e.step.stamp) (sym own) in
            let two : at_b.told.step.step.stamp ≡ asked.told.step.stamp = ap (λ (e : HostStep). e.step.stamp) begun in
            omega (arith, one, decided.below, first, two, at_b.told.below, of_b.is.stamp)

pub histories_strict : HistoriesAreStrict
histories_strict start inside logs is =
    strictly start inside (inside_right start inside logs is) (cuts_are_causal start inside logs is)

pub commits_decided : CommitsAreOfDecided
commits_decided start inside logs is h e tx key epoch chain at here took =
    each_in (CommitsRightly inside) e (inside h) ((cuts_are_causal start inside logs is).commits h) here tx
    (ap kind_of took)
