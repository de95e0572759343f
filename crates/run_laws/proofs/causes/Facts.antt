-- What signals and steps tell of how transactions come to be decided.
use Rattle.std.proofs.Common.{◌≡◌, ◌⊎◌, ◌≤◌, ℕ, ◌+◌, true, List, [], ◌∷◌, refl, ap, ◌∙◌, inl, inr, arith}
use Rattle.std.proofs.lemmas.Bool.{or_cases}
use Rattle.std.specs.List.{list_any}
use Rattle.run_theory.specs.Lists.{Each, IsPast}
use Rattle.run_theory.proofs.Pasts.{in_past}
use Rattle.world_core.specs.Steps.{Addressed, HostStep}
use Rattle.sig_core.specs.declared.mark.Mark.{Mark}
use Rattle.sig_core.specs.declared.mark.Mark.TheVariants as mark
use Rattle.sig_core.specs.declared.member.TxId.{TxId}
use Rattle.sig_core.specs.declared.outcome.Outcome.TheVariants as outcome
use Rattle.sig_core.specs.declared.signal.Body.{Body}
use Rattle.sig_core.specs.declared.signal.Body.TheVariants.{Client, Chain, Epoch}
use Rattle.sig_core.specs.declared.signal.chain.ChainSignal.TheVariants.{Commit}
use Rattle.sig_core.specs.declared.signal.client.ClientSignal.TheVariants.{TcBeginConf, TcCommitReq, TcCommitConf}
use Rattle.sig_core.specs.declared.signal.epoch.EpochSignal.TheVariants.{DiVerifyReq, DiVerifyConf}
use Rattle.sig_core.proofs.TxLemmas.{same_tx-is}
use Rattle.node_core.specs.Requests.{is_request}
use Rattle.world_core.specs.History.{is_reported}
use Rattle.world_core.specs.Hosts.{home}
use Rattle.world_core.specs.Start.{Start}
use Rattle.host_laws.specs.Causes.{IsDecidedBelow, IsToldBelow, is_decision}
use Rattle.host_laws.specs.Kinds.{Kind, kind_of}
use Rattle.host_laws.specs.Kinds as kind
use Rattle.host_laws.proofs.api.Told.{Reports}
use Rattle.host_laws.proofs.hosts.HostGoes.{Decides}

-- a request says nothing of these
pub request_other : (body : Body) → is_request body ≡ true → kind_of body ≡ kind.other
request_other (Client (TcBeginConf name tx)) is = absurd cc
request_other (Client (TcCommitReq tx)) is = absurd cc
request_other (Client (TcCommitConf tx epoch)) is = absurd cc
request_other (Epoch (DiVerifyReq tx ops)) is = absurd cc
request_other (Epoch (DiVerifyConf tx epoch)) is = absurd cc
request_other (Chain (Commit tx key epoch chain at)) is = absurd cc
request_other _ is = refl

-- facts stay as logs grow, and as the limit does
pub told_more : (small large : ℕ → List HostStep) (tx : TxId) (a b : ℕ) → ((h : ℕ) → IsPast (small h) (large h)) → a ≤ b
    → IsToldBelow small tx a → IsToldBelow large tx b
told_more small large tx a b past le is = record {
  name = is.name;
  step = is.step;
  inside = in_past is.step (past 0) is.inside;
  told = is.told;
  below = omega (arith, is.below, le);
}

pub decided_more : (small large : ℕ → List HostStep) (tx : TxId) (a b : ℕ) → ((h : ℕ) → IsPast (small h) (large h))
    → a ≤ b → IsDecidedBelow small tx a → IsDecidedBelow large tx b
decided_more small large tx a b past le is = record {
  host = is.host;
  step = is.step;
  inside = in_past is.step (past is.host) is.inside;
  marked = is.marked;
  below = omega (arith, is.below, le);
}

module _ (start : Start) where
  -- what a signal tells of the logs
  abbrev pub Says : (ℕ → List HostStep) → Addressed → Kind → Type 0
  Says logs x (kind.begun tx) = x.signal.from.0 ≡ home start tx
  Says logs x (kind.wanted tx) = IsToldBelow logs tx (x.signal.stamp + 1)
  Says logs x (kind.verified tx) =
      IsToldBelow logs tx (x.signal.stamp + 1) × (x.signal.from.0 ≡ home start tx) × (x.to ≡ home start tx)
  Says logs x (kind.decided tx) = IsDecidedBelow logs tx (x.signal.stamp + 1)
  Says logs x (kind.committing tx) = IsDecidedBelow logs tx (x.signal.stamp + 1)
  Says logs x (kind.ended tx) = IsDecidedBelow logs tx (x.signal.stamp + 1)
  Says logs x kind.other = Unit {0}

  abbrev pub SignalSays : Addressed → (ℕ → List HostStep) → Type 0
  SignalSays x logs = Says logs x (kind_of x.signal.body)

  pub says_more : (small large : ℕ → List HostStep) (x : Addressed) (k : Kind) → ((h : ℕ) → IsPast (small h) (large h))
      → Says small x k → Says large x k
  says_more small large x (kind.begun tx) past says = says
  says_more small large x (kind.wanted tx) past says =
      told_more small large tx (x.signal.stamp + 1) (x.signal.stamp + 1) past (omega arith) says
  says_more small large x (kind.verified tx) past says =
      (told_more small large tx (x.signal.stamp + 1) (x.signal.stamp + 1) past (omega arith) says.0, says.1, says.2)
  says_more small large x (kind.decided tx) past says =
      decided_more small large tx (x.signal.stamp + 1) (x.signal.stamp + 1) past (omega arith) says
  says_more small large x (kind.committing tx) past says =
      decided_more small large tx (x.signal.stamp + 1) (x.signal.stamp + 1) past (omega arith) says
  says_more small large x (kind.ended tx) past says =
      decided_more small large tx (x.signal.stamp + 1) (x.signal.stamp + 1) past (omega arith) says
  says_more small large x kind.other past says = tt

  -- a decision in a step
  pub record DecidesAt (logs : ℕ → List HostStep) (e : HostStep) (tx : TxId) : Type 0 where
    pub told : IsToldBelow logs tx e.step.stamp
    pub from : e.step.taken.from.0 ≡ home start tx
    pub to : e.host ≡ home start tx
    pub took : kind_of e.step.taken.body ≡ kind.verified tx

  abbrev pub DecidesRightly : (ℕ → List HostStep) → HostStep → Type 0
  DecidesRightly logs e = (tx : TxId) → list_any (is_decision tx) e.step.marks ≡ true → DecidesAt logs e tx

  abbrev pub BeginsRightly : HostStep → Type 0
  BeginsRightly e = (tx : TxId) → kind_of e.step.taken.body ≡ kind.begun tx → e.step.taken.from.0 ≡ home start tx

-- and a report
abbrev pub ReportsRightly : (ℕ → List HostStep) → HostStep → Type 0
ReportsRightly logs e =
    (tx : TxId) → list_any (is_reported tx) e.step.marks ≡ true → IsDecidedBelow logs tx e.step.stamp

abbrev pub CommitsRightly : (ℕ → List HostStep) → HostStep → Type 0
CommitsRightly logs e =
    (tx : TxId) → kind_of e.step.taken.body ≡ kind.committing tx → IsDecidedBelow logs tx e.step.stamp

pub decision_of : (taken : Kind) (marks : List Mark) (tx : TxId) → Each (Decides taken) marks
    → list_any (is_decision tx) marks ≡ true → taken ≡ kind.verified tx
decision_of taken [] tx all is = absurd cc
decision_of taken (m ∷ marks) tx all is =
    by (or_cases (is_decision tx m) (list_any (is_decision tx) marks) is) (decision_of taken marks tx all.1)
  where
    here : (m : Mark) → Decides taken m → is_decision tx m ≡ true → taken ≡ kind.verified tx
    here (mark.Decided other epoch) decides own = decides ∙ ap (λ t. kind.verified t) (same_tx-is other tx own)
    here _ decides own = absurd cc

    by : (is_decision tx m ≡ true) ⊎ (list_any (is_decision tx) marks ≡ true)
        → (list_any (is_decision tx) marks ≡ true → taken ≡ kind.verified tx) → taken ≡ kind.verified tx
    by (inl own) more = here m all.0 own
    by (inr rest) more = more rest

pub report_of : (taken : Kind) (marks : List Mark) (tx : TxId) → Each (Reports taken) marks
    → list_any (is_reported tx) marks ≡ true → taken ≡ kind.ended tx
report_of taken [] tx all is = absurd cc
report_of taken (m ∷ marks) tx all is =
    by (or_cases (is_reported tx m) (list_any (is_reported tx) marks) is) (report_of taken marks tx all.1)
  where
    here : (m : Mark) → Reports taken m → is_reported tx m ≡ true → taken ≡ kind.ended tx
    here (mark.Reported other (outcome.Committed epoch)) reports own =
        reports ∙ ap (λ t. kind.ended t) (same_tx-is other tx own)
    here (mark.Reported other (outcome.Aborted cause)) reports own = absurd cc
    here _ reports own = absurd cc

    by : (is_reported tx m ≡ true) ⊎ (list_any (is_reported tx) marks ≡ true)
        → (list_any (is_reported tx) marks ≡ true → taken ≡ kind.ended tx) → taken ≡ kind.ended tx
    by (inl own) more = here m all.0 own
    by (inr rest) more = more rest
