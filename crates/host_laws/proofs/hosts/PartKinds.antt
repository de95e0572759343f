-- Kinds of signals that have all that stands in a transaction's lists, the report of a commit too.
use Rattle.std.proofs.Common.{◌≡◌, ℕ, List, Bool, true, refl}
use Rattle.sig_core.specs.declared.member.Member.{Member}
use Rattle.sig_core.specs.declared.member.TxId.{TxId}
use Rattle.sig_core.specs.declared.signal.Body.{Body}
use Rattle.sig_core.specs.declared.signal.Body.TheVariants.{Host, Client, Chain}
use Rattle.sig_core.specs.declared.signal.chain.ChainSignal.TheVariants.{Commit, Complete, Abort}
use Rattle.sig_core.specs.declared.signal.client.ClientSignal.TheVariants.{TcCommitConf}
use Rattle.sig_core.specs.declared.signal.host.HostSignal.TheVariants.{Continue}
use Rattle.sig_core.specs.declared.signal.host.Work.TheVariants as work
use Rattle.tc_block.specs.declared.phase.Phase.{Phase}
use Rattle.tc_block.specs.declared.phase.Phase.TheVariants.{Open, Verifying, Committing, Completing, Aborting}
use Rattle.tc_block.specs.declared.touched.Touched.{Touched}
use Rattle.tc_block.specs.declared.transaction.Transaction.{Transaction}
use Rattle.frag_map.specs.Layout.{Layout}
use Rattle.tc_block.specs.Part.{part_effects}
use Rattle.tc_block.specs.Sends.{entering, front_sends, phase_sends}
use Rattle.host_laws.proofs.coordinator.PhaseSends.{HasChains, entering_of_kind, parts_of_kind}
use Rattle.host_laws.proofs.hosts.SendKinds.{are_of, one_kind}

-- the kind has all that stands in a transaction's lists
pub record IsPartKind (kind : Body → Bool) (tx : TxId) : Type 0 where
  pub commit : (key : List ℕ) (epoch : ℕ) (chain : List Member) (at : ℕ)
      → kind (Chain (Commit tx key epoch chain at)) ≡ true
  pub complete : (key : List ℕ) (chain : List Member) (at : ℕ) → kind (Chain (Complete tx key chain at)) ≡ true
  pub abort : (key : List ℕ) → kind (Chain (Abort tx key)) ≡ true
  pub cont : (at : ℕ) → kind (Host (Continue (work.Transaction tx) at)) ≡ true
  pub report : (epoch : ℕ) → kind (Client (TcCommitConf tx epoch)) ≡ true

module _ (kind : Body → Bool) (tx : TxId) (p : IsPartKind kind tx) where
  chains : HasChains tx kind
  chains = record { commits = p.commit; completes = p.complete; aborts = p.abort; goes_on = p.cont }

  front_of : (phase : Phase) → are_of kind (front_sends tx phase) ≡ true
  unfolding front_sends
  front_of Open = refl
  front_of Verifying = refl
  front_of (Committing epoch awaited) = refl
  front_of (Completing epoch awaited) = one_kind _ (p.report epoch)
  front_of (Aborting why verifying awaited) = refl

  -- a part of a list, and the first part
  pub parts_of : (node : ℕ) (layout : Layout) (phase : Phase) (touched : List Touched) (at : ℕ)
      → are_of kind (part_effects node tx (phase_sends layout tx phase touched) at).sends ≡ true
  parts_of node layout phase touched at = parts_of_kind kind layout tx chains node phase touched at (front_of phase)

  pub entering_of : (node : ℕ) (layout : Layout) (t : Transaction) (phase : Phase)
      → are_of kind (entering node layout tx t phase).effects.sends ≡ true
  entering_of node layout t phase = entering_of_kind kind layout tx chains node t phase (front_of phase)
