-- What the client's side does where it is told of a commit: it drops that, if the sender isn't in the view that it
-- sees, and else acknowledges it, and reports it if the transaction is open.
use Rattle.std.proofs.Common.{◌≡◌, ◌≤◌, ◌⊎◌, ◌∙◌, ◌||◌, ◌++◌, ◌-◌, ℕ, Bool, true, false, length, List, [], ◌∷◌, inl}
use Rattle.std.proofs.Common.{inr, take, refl, ap, arith}
use Rattle.std.specs.List.{count_by}
use Rattle.run_theory.specs.Counts.{one_if as tallied, tally}
use Rattle.run_theory.specs.Lists.{IsIn}
use Rattle.sig_core.specs.declared.mark.Mark.TheVariants.{Reported}
use Rattle.sig_core.specs.declared.member.Member.{Member}
use Rattle.sig_core.specs.declared.member.TxId.{TxId}
use Rattle.sig_core.specs.declared.outcome.Outcome.TheVariants.{Committed}
use Rattle.sig_core.specs.declared.signal.Body.{Body}
use Rattle.sig_core.specs.declared.signal.Body.TheVariants.{Client}
use Rattle.sig_core.specs.declared.signal.Signal.{Signal}
use Rattle.sig_core.specs.declared.signal.client.ClientSignal.TheVariants.{TcCommitConf, TcKeyFailConf}
use Rattle.sig_core.specs.Step.{Step, stay}
use Rattle.sig_core.proofs.Keys.{same_tx-self}
use Rattle.tc_block.specs.Complete.{one_if}
use Rattle.api_block.specs.Api.{api_table}
use Rattle.api_block.specs.declared.members.News.TheVariants as news
use Rattle.api_block.specs.declared.members.TheConstants.{TOLD}
use Rattle.api_block.specs.declared.opened.OpenTransaction.{OpenTransaction}
use Rattle.api_block.specs.Members.{everyone, telling_all}
use Rattle.api_block.specs.Opened.{has_tx}
use Rattle.api_block.specs.Outcome.{acknowledging, commit_report_row}
use Rattle.api_block.specs.State.{ApiState}
use Rattle.api_block.proofs.WhereFound.{where_found}
use Rattle.api_views.specs.Client.{client_row, client_table, is_known as is_vouched, vouched_table}
use Rattle.api_views.specs.Members.{noted}
use Rattle.api_views.specs.State.{ClientState, within}
use Rattle.outcome_laws.specs.Counts.{is_report}
use Rattle.outcome_laws.proofs.coordinators.Lists.{count_more}
use Rattle.request_laws.specs.Ways.{is_sent}
use Rattle.commit_laws.specs.Traces.{is_acknowledgement}
use Rattle.commit_laws.proofs.forth.Client.{IsToldOf, by_coordinator, by_takeover}

-- what it does, where it sees this
pub data TakesWord (tx : TxId) (s : ClientState) (x : Signal) (step : Step ClientState) : Type 0 where
  drops : is_vouched s x ≡ false → step ≡ stay s → TakesWord tx s x step
  notes : (epoch : ℕ) → is_vouched s x ≡ true → step ≡ within s (commit_report_row s.api tx epoch)
      → TakesWord tx s x step

module _ (tx : TxId) (s : ClientState) (x : Signal) where
  -- a word whose row is this, once it is vouched for or not
  vouched_word : (epoch : ℕ) (body : Body) → x.body ≡ body
      → vouched_table s x body true ≡ within s (commit_report_row s.api tx epoch)
      → vouched_table s x body false ≡ stay s
      → client_table s x body ≡ vouched_table s x x.body (is_vouched s x) → TakesWord tx s x (client_table s x x.body)
  vouched_word epoch body is heard off table = by (is_vouched s x) refl
    where
      same : client_table s x x.body ≡ vouched_table s x body (is_vouched s x)
      same = ap (λ b. client_table s x b) is ∙ (table ∙ ap (λ b. vouched_table s x b (is_vouched s x)) is)

      by : (b : Bool) → is_vouched s x ≡ b → TakesWord tx s x (client_table s x x.body)
      by true known = notes epoch known (same ∙ (ap (λ b. vouched_table s x body b) known ∙ heard))
      by false known = drops known (same ∙ (ap (λ b. vouched_table s x body b) known ∙ off))

  table_takes : IsToldOf tx x.body → TakesWord tx s x (client_table s x x.body)
  table_takes (by_coordinator epoch is) =
      vouched_word epoch (Client (TcCommitConf tx epoch)) is (ap (λ b. within s (api_table s.api b)) is) refl refl
  table_takes (by_takeover epoch is) = vouched_word epoch (Client (TcKeyFailConf tx epoch)) is refl refl refl

pub takes_word : (tx : TxId) (s : ClientState) (x : Signal) → IsToldOf tx x.body
    → TakesWord tx (noted s x.view) x (client_row s x)
takes_word tx s x told = table_takes tx (noted s x.view) x told

-- it acknowledges the word
pub record Notes (tx : TxId) (a : ApiState) (step : Step ApiState) : Type 0 where
  pub sends : step.effects.sends ≡ acknowledging a tx
  pub marks : (tally (has_tx tx) a.opened ≡ 0) ⊎ (1 ≤ count_by (is_report tx) step.effects.marks)

pub word_noted : (tx : TxId) (epoch : ℕ) (a : ApiState) → Notes tx a (commit_report_row a tx epoch)
unfolding commit_report_row
word_noted tx epoch a =
    where_found (has_tx tx) a.opened _ _ (Notes tx a) (λ none. record { sends = refl; marks = inl none })
    (λ at f. record { sends = refl; marks = inr one })
  where
    one : 1 ≤ count_by (is_report tx) (Reported tx (Committed epoch) ∷ [])
    one = omega (
      arith,
      count_more (is_report tx) (Reported tx (Committed epoch)) [],
      ap one_if (same_tx-self tx),
    )

-- of which rows of some member are told, if the view has a full one
pub acknowledges_some : (tx : TxId) (a : ApiState) (m : Member) → IsIn m a.view.full
    → is_sent (is_acknowledgement tx) (acknowledging a tx) ≡ true
unfolding everyone
acknowledges_some tx a m there = by a.view.full there (take (TOLD - length a.view.full) a.view.starting)
  where
    by : (xs : List Member) → IsIn m xs → (more : List Member)
        → is_sent (is_acknowledgement tx) (telling_all (news.Committed tx) (xs ++ more)) ≡ true
    by [] there more = absurd there
    by (y ∷ xs) there more =
        ap (λ b. b || is_sent (is_acknowledgement tx) (telling_all (news.Committed tx) (xs ++ more))) (same_tx-self tx)

-- as many are open as the tally says
pub tally_counts : (p : OpenTransaction → Bool) (xs : List OpenTransaction) → tally p xs ≡ count_by p xs
tally_counts p [] = refl
tally_counts p (t ∷ xs) = omega (arith, tally_counts p xs, count_more p t xs, same (p t))
  where
    same : (b : Bool) → tallied b ≡ one_if b
    same true = refl
    same false = refl
