-- What is counted of the words that a key is committed was sent: the key was committed in that view.
use Rattle.std.proofs.Common.{◌≡◌, ◌≤◌, ◌==◌, ℕ, zero, suc, Bool, true, false, List, [], ◌∷◌, inl, inr, refl, sym, ap}
use Rattle.std.proofs.Common.{arith}
use Rattle.std.proofs.lemmas.Bool.{and_parts, eqb-true, true≢false}
use Rattle.std.specs.List.{count_by}
use Rattle.run_theory.specs.Links.{sent, sent_by}
use Rattle.run_theory.specs.Lists.{IsIn}
use Rattle.run_theory.proofs.Links.{sent_more}
use Rattle.run_theory.proofs.Pasts.{in_past}
use Rattle.host_laws.proofs.hosts.Sums.{IsSome, total_some}
use Rattle.sig_core.specs.declared.member.TxId.{TxId}
use Rattle.sig_core.specs.declared.signal.Body.{Body}
use Rattle.sig_core.specs.declared.signal.Body.TheVariants.{Chain}
use Rattle.sig_core.specs.declared.signal.Signal.{Signal}
use Rattle.sig_core.specs.declared.signal.chain.ChainSignal.TheVariants.{Committed}
use Rattle.sig_core.specs.Same.{same_key, same_tx}
use Rattle.row_records.proofs.KeyLemmas.{same as same_key-is}
use Rattle.sig_core.proofs.TxLemmas.{same_tx-is}
use Rattle.tc_block.specs.Complete.{one_if}
use Rattle.world_core.specs.Hosts.{hosts}
use Rattle.world_core.specs.Start.{Start}
use Rattle.world_core.specs.Steps.{Addressed, HostStep}
use Rattle.view_laws.specs.Order.{sound_machine}
use Rattle.outcome_laws.proofs.coordinators.Lists.{count_more}
use Rattle.request_laws.specs.Tokens.{all_sent, sent_along}
use Rattle.commit_laws.specs.Answered.{WasCommittedIn}
use Rattle.commit_laws.proofs.answered.Counts.{told}
use Rattle.commit_laws.proofs.drive.Kinds.{comes, committing}
use Rattle.commit_laws.proofs.drive.Lists.{mine, only}
use Rattle.commit_laws.proofs.links.TransitCounts.{put_in}

-- one of a list passes
pub record Passes (p : Signal → Bool) (ys : List Addressed) : Type 0 where
  pub one : Addressed
  pub there : IsIn one ys
  pub is : p one.signal ≡ true

pub passes_some : (p : Signal → Bool) (ys : List Addressed) → 1 ≤ count_by (λ (y : Addressed). p y.signal) ys
    → Passes p ys
passes_some p [] some = absurd (omega (arith, some))
passes_some p (y ∷ ys) some = by (p y.signal) refl (passes_some p ys)
  where
    by : (b : Bool) → p y.signal ≡ b → (1 ≤ count_by (λ (y : Addressed). p y.signal) ys → Passes p ys)
        → Passes p (y ∷ ys)
    by true is less = record { one = y; there = inl refl; is = is }
    by false off less =
        let nothing : one_if (p y.signal) ≡ 0 = ap one_if off in
        let rest = less (omega (arith, some, count_more (λ (y : Addressed). p y.signal) y ys, nothing)) in
        record { one = rest.one; there = inr rest.there; is = rest.is }

-- one that was sent does
pub record WasSent (start : Start) (p : Signal → Bool) (h : ℕ) (log : List HostStep) : Type 0 where
  pub to_host : ℕ
  pub signal : Addressed
  pub there : IsIn signal (sent (sound_machine start) h to_host log)
  pub is : p signal.signal ≡ true

pub sent_some : (start : Start) (p : Signal → Bool) (h : ℕ) (log : List HostStep) → 1 ≤ sent_along start p h log
    → WasSent start p h log
sent_some start p h [] some = absurd (omega (arith, some))
sent_some start p h (e ∷ log) some =
    by (count_by (λ (y : Addressed). p y.signal) (sent_by (sound_machine start) h log e)) refl
    (sent_some start p h log)
  where
    by : (k : ℕ) → count_by (λ (y : Addressed). p y.signal) (sent_by (sound_machine start) h log e) ≡ k
        → (1 ≤ sent_along start p h log → WasSent start p h log) → WasSent start p h (e ∷ log)
    by zero none less =
        let rest = less (omega (arith, some, none)) in
        record {
          to_host = rest.to_host;
          signal = rest.signal;
          there = in_past rest.signal (sent_more (sound_machine start) h rest.to_host log e) rest.there;
          is = rest.is;
        }
    by (suc k) more less =
        let own = passes_some p (sent_by (sound_machine start) h log e) (omega (arith, more)) in
        record {
          to_host = own.one.to;
          signal = own.one;
          there =
              put_in start own.one (sent_by (sound_machine start) h log e)
              (sent (sound_machine start) h own.one.to log) own.there;
          is = own.is;
        }

-- so a key that is told of was committed
pub told_sent : (start : Start) (logs : ℕ → List HostStep) (number : ℕ) (tx : TxId) (key : List ℕ)
    → 1 ≤ all_sent start (told tx number (only key)) logs → WasCommittedIn start logs number tx key
told_sent start logs number tx key some = record {
  from = host.at;
  to = own.to_host;
  signal = own.signal;
  there = own.there;
  body = body_is own.signal.signal.body (and_parts (comes committing (mine tx (only key)) own.signal.signal.body) same
      own.is).0;
  view =
      eqb-true own.signal.signal.view.number number
      (and_parts (comes committing (mine tx (only key)) own.signal.signal.body) same own.is).1;
}
  where
    host : IsSome (hosts start) (λ h. sent_along start (told tx number (only key)) h (logs h))
    host = total_some (hosts start) (λ h. sent_along start (told tx number (only key)) h (logs h)) some

    own : WasSent start (told tx number (only key)) host.at (logs host.at)
    own = sent_some start (told tx number (only key)) host.at (logs host.at) host.some

    same : Bool
    same = own.signal.signal.view.number == number

    body_is : (body : Body) → comes committing (mine tx (only key)) body ≡ true → body ≡ Chain (Committed tx key)
    body_is (Chain (Committed one other)) is =
        let parts = and_parts (same_tx one tx) (same_key other key) is in
        λ i. Chain (Committed (same_tx-is one tx parts.0 i) (same_key-is other key parts.1 i))
    body_is body is = absurd (true≢false (sym is))
