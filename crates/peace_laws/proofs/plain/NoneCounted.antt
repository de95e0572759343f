-- Where nothing is under way in the plain machine, no node counts a transaction.
use Rattle.std.proofs.Common.{◌≡◌, ◌≤◌, ◌<◌, ℕ, List, [], ◌∷◌, length, Bool, false, refl, ap, sym, ◌∙◌, arith, inl, inr}
use Rattle.std.proofs.lemmas.Bool.{false≢true}
use Rattle.std.specs.Prelude.{Option, None, Some}
use Rattle.run_theory.specs.Counts.{one_if, tally}
use Rattle.run_theory.specs.Lists.{IsIn}
use Rattle.sig_core.specs.declared.member.TxId.{TxId}
use Rattle.tc_block.specs.Abort.{is_verifying}
use Rattle.tc_block.specs.declared.phase.Asked.{Asked}
use Rattle.tc_block.specs.declared.phase.Phase.{Phase}
use Rattle.tc_block.specs.declared.phase.Phase.TheVariants.{Open, Verifying, Committing, Completing, Aborting}
use Rattle.tc_block.specs.declared.transaction.Transaction.{Transaction}
use Rattle.tc_block.specs.Phases.{is_aborting, is_committing, is_completing}
use Rattle.node_core.specs.Blocks.{dih_of, tc_of}
use Rattle.world_core.proofs.HostNumbers.{host_below}
use Rattle.world_core.specs.Hosts.{first_hosts, tc_host}
use Rattle.world_core.specs.Machine.{after}
use Rattle.world_core.specs.Start.{Start}
use Rattle.world_core.specs.Steps.{HostStep}
use Rattle.sig_core.specs.Place.{coordinator}
use Rattle.answer_laws.specs.Answered.{AreQuiet}
use Rattle.answer_laws.proofs.Aborts.{no_abort}
use Rattle.answer_laws.proofs.Commits.{no_commit}
use Rattle.answer_laws.proofs.EpochCounts.{counted_of}
use Rattle.answer_laws.proofs.EpochGiven.{DihIs, SentCounts, all_own, dih_is, own_sent, own_taken, sent_counts}
use Rattle.answer_laws.proofs.EpochLives.{is_counted, is_counted_one}
use Rattle.answer_laws.proofs.Verified.{no_epoch}
use Rattle.command_laws.proofs.quiet.NoAbortWaits.{no_abort_waits}
use Rattle.peace_laws.proofs.plain.NoneCompletes.{none_completes}

-- one that is neither verified, committed, completed nor aborted isn't counted
uncounted : (phase : Phase) → is_verifying phase ≡ false → is_committing phase ≡ false → is_completing phase ≡ false
    → is_aborting phase ≡ false → is_counted phase ≡ false
uncounted Open v c k a = refl
uncounted Verifying v c k a = absurd (false≢true (sym v))
uncounted (Committing epoch awaited) v c k a = absurd (false≢true (sym c))
uncounted (Completing epoch awaited) v c k a = absurd (false≢true (sym k))
uncounted (Aborting why verifying awaited) v c k a = absurd (false≢true (sym a))

-- where each item fails a test none passes it
none_tallied : {A : Type 0} (p : A → Bool) (xs : List A) → ((x : A) → IsIn x xs → p x ≡ false) → tally p xs ≡ 0
none_tallied p [] off = refl
none_tallied p (x ∷ xs) off =
    omega (arith, ap one_if (off x (inl refl)), none_tallied p xs (λ y there. off y (inr there)))

nobody : (xs : List TxId) → length xs ≡ 0 → xs ≡ []
nobody [] is = refl
nobody (x ∷ xs) is = absurd (omega (arith, is))

module _ (start : Start) (logs : ℕ → List HostStep) (quiet : AreQuiet start logs) (node : ℕ) (some : 1 ≤ node)
    (few : node ≤ start.shape.nodes) where
  low : tc_host start node < first_hosts start
  low = host_below start (coordinator node) some few

  one_off : (e : TxId × Transaction)
      → IsIn e (tc_of (after start (tc_host start node) (logs (tc_host start node)))).live
      → is_counted_one e ≡ false
  one_off (tx, t) there =
      uncounted t.phase (no_epoch start logs (tc_host start node) tx t quiet low there)
      (no_commit start logs (tc_host start node) tx t quiet low there)
      (none_completes start logs (tc_host start node) tx t quiet low there) (unaborted t.asked refl)
    where
      unaborted : (o : Option Asked) → t.asked ≡ o → is_aborting t.phase ≡ false
      unaborted None is = no_abort start logs (tc_host start node) tx t quiet low there is
      unaborted (Some asked) is = no_abort_waits start logs (tc_host start node) tx t asked quiet low there is

  pub none_counted : (dih_of (after start (tc_host start node) (logs (tc_host start node)))).counted ≡ []
  none_counted = d.counted ∙ ap counted_of whole ∙ nobody _ nil
    where
      whole : own_taken start node (logs (tc_host start node)) ≡ own_sent start node (logs (tc_host start node))
      whole = quiet.quiet (tc_host start node) (tc_host start node) low low

      d : DihIs start node some few (logs (tc_host start node))
      d =
          dih_is start node some few (logs (tc_host start node))
          (all_own start node some few logs quiet.within quiet.right)

      s : SentCounts start node some few (logs (tc_host start node))
      s = sent_counts start node some few (logs (tc_host start node))

      nil : length (counted_of (own_sent start node (logs (tc_host start node)))) ≡ 0
      nil =
          s.counted.all
          ∙ none_tallied is_counted_one
          (tc_of (after start (tc_host start node) (logs (tc_host start node)))).live one_off
