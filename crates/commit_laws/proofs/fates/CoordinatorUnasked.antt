-- A coordinator that hasn't come to the number of a transaction has asked for nothing of it.
use Rattle.std.proofs.Common.{◌≡◌, ◌<◌, ◌&&◌, ◌==◌, ◌||◌, ◌+◌, ◌∙◌, ℕ, Bool, true, false, List, [], ◌∷◌, refl, sym, ap}
use Rattle.std.proofs.Common.{arith}
use Rattle.std.proofs.lemmas.Bool.{leb-false, leb-true, true≢false}
use Rattle.std.specs.Prelude.{nat_le, Option, None, Some}
use Rattle.run_theory.specs.Lists.{IsIn}
use Rattle.sig_core.specs.declared.member.Member.{Member}
use Rattle.sig_core.specs.declared.member.TxId.{TxId}
use Rattle.sig_core.specs.declared.outs.Outgoing.{Outgoing}
use Rattle.node_views.specs.WellFormed.{is_well_formed}
use Rattle.tc_block.specs.declared.transaction.Transaction.{Transaction}
use Rattle.tc_block.specs.Operate.{fresh}
use Rattle.tc_views.specs.State.{CoordinatorState}
use Rattle.host_laws.proofs.coordinator.OfLive.{each_found}
use Rattle.world_core.specs.Start.{NobodyStarts, Start, made}
use Rattle.world_core.specs.Steps.{HostStep}
use Rattle.world_views.specs.Machine.{step_after}
use Rattle.run_laws.specs.Tokens.{is_token}
use Rattle.view_laws.specs.Runs.{view_after}
use Rattle.moment_laws.specs.Places.{tc_of}
use Rattle.outcome_laws.proofs.coordinators.Lists.{none_passes}
use Rattle.outcome_laws.specs.Counts.{coordinator_member, count_sent, is_unborn}
use Rattle.request_laws.specs.Blocks.{coordinator_after}
use Rattle.request_laws.specs.Drives.{is_request, was_sent_in}
use Rattle.request_laws.specs.Tokens.{has_asked}
use Rattle.request_laws.specs.Ways.{entry_of, has_gone_back, is_sent}
use Rattle.request_laws.proofs.phases.AlongLogs.{coordinator_comes, coordinator_of}
use Rattle.request_laws.proofs.phases.Moves.{Comes, begun, changed, same}
use Rattle.request_laws.proofs.tokens.CoordinatorEvents.{StepTokens, always_fits, step_tokens}
use Rattle.request_laws.proofs.tokens.Steps.{TokenMove, quiet, sends_one}
use Rattle.commit_laws.proofs.parts.Own.{no_request}

module _ (start : Start) (tx : TxId) (there : IsIn (coordinator_member tx) (made start)) where
  abbrev member : Member
  member = coordinator_member tx

  abbrev c : List HostStep → CoordinatorState
  c log = coordinator_after start member log

  -- the transaction is unborn behind a log of its coordinator's host
  abbrev pub IsUnborn : List HostStep → Type 0
  IsUnborn log = is_unborn (coordinator_after start (coordinator_member tx) log) tx ≡ true

  -- so it was before
  pub unborn_before : NobodyStarts start → (log : List HostStep) (e : HostStep) → IsUnborn (e ∷ log) → IsUnborn log
  unborn_before nobody log e now = by (coordinator_comes start member there nobody log e tx)
    where
      less : (n m : ℕ) → nat_le (n + 1) m ≡ true → (b : Bool) → nat_le n m ≡ b → b ≡ true
      less n m is true e = refl
      less n m is false e = absurd (omega (arith, leb-true (n + 1) m is, leb-false n m e))

      by : Comes member (c log) e.step.taken (is_well_formed start.shape e.step.taken ≡ true) tx (c (e ∷ log))
          (step_after start (tc_of start member) log e).effects.sends → IsUnborn log
      by (same is unborn untold) = sym (unborn refl) ∙ now
      by (begun none some is next untold) =
          less (c log).tc.next_seq tx.seq (sym (ap (λ n. nat_le n tx.seq) next) ∙ now) _ refl
      by (changed well t found turn changes left next front more before behind all) =
          sym (ap (λ n. nat_le n tx.seq) next) ∙ now

  -- who is there isn't unborn
  born : NobodyStarts start → (log : List HostStep) (t : Transaction) → entry_of (c log) tx ≡ Some t → IsUnborn log → ⊥
  born nobody log t found is =
      let below = each_found (λ (e : TxId × Transaction). e.0.seq < (c log).tc.next_seq) (c log).tc.live tx t
      (coordinator_of start member there nobody log).begun found in
      omega (arith, below, leb-true (c log).tc.next_seq tx.seq is)

  -- and nothing is asked for it
  unborn_unsent : NobodyStarts start → (log : List HostStep) (e : HostStep) → IsUnborn (e ∷ log)
      → is_sent (is_request tx) (step_after start (tc_of start member) log e).effects.sends ≡ false
  unborn_unsent nobody log e now =
      no_request tx sends (none_passes (λ (o : Outgoing). is_token tx o.body) sends (by tokens.step.moves))
    where
      sends : List Outgoing
      sends = (step_after start (tc_of start member) log e).effects.sends

      tokens : StepTokens start member there tx refl log e
      tokens = step_tokens start member there tx refl nobody log e (always_fits start member there tx refl nobody log)

      none_there : (o : Option Transaction) → entry_of (c (e ∷ log)) tx ≡ o → has_asked o ≡ true → ⊥
      none_there None is asked = true≢false (sym asked)
      none_there (Some t) is asked = born nobody (e ∷ log) t is now

      by : TokenMove tx tokens.body (has_gone_back start member tx log) (entry_of (c log) tx)
          (entry_of (c (e ∷ log)) tx) sends → count_sent (is_token tx) sends ≡ 0
      by (quiet none goes) = none
      by (sends_one one request none asked off) = absurd (none_there (entry_of (c (e ∷ log)) tx) refl asked)

  pub never_asked : NobodyStarts start → (number : ℕ) (log : List HostStep) → IsUnborn log
      → was_sent_in start (coordinator_member tx) (is_request tx) number log ≡ false
  never_asked nobody number [] now = refl
  never_asked nobody number (e ∷ log) now =
      ap (λ b. (b && ((view_after start (tc_of start member) (e ∷ log)).number == number))
      || was_sent_in start member (is_request tx) number log) (unborn_unsent nobody log e now)
      ∙ never_asked nobody number log (unborn_before nobody log e now)

  -- Where it isn't there before a step of the host, and just begun behind it, it was unborn.
  pub begun_unborn : NobodyStarts start → (log : List HostStep) (e : HostStep)
      → entry_of (coordinator_after start (coordinator_member tx) log) tx ≡ None
      → entry_of (coordinator_after start (coordinator_member tx) (e ∷ log)) tx ≡ Some fresh → IsUnborn log
  begun_unborn nobody log e none some = by (coordinator_comes start member there nobody log e tx)
    where
      at : (n m : ℕ) → n ≡ m → (b : Bool) → nat_le n m ≡ b → b ≡ true
      at n m is true e = refl
      at n m is false e = absurd (omega (arith, is, leb-false n m e))

      by : Comes member (c log) e.step.taken (is_well_formed start.shape e.step.taken ≡ true) tx (c (e ∷ log))
          (step_after start (tc_of start member) log e).effects.sends → IsUnborn log
      by (same is unborn untold) = absurd (let nothing : Some fresh ≡ None = sym some ∙ (is ∙ none) in cc)
      by (begun absent now is next untold) =
          at (c log).tc.next_seq tx.seq (ap (λ (v : TxId). v.seq) is) _ refl
      by (changed well t found turn changes left next front more before behind all) =
          absurd (let nothing : Some t ≡ None = sym found ∙ none in cc)
