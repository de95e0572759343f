-- What a signal, or a view that is installed, makes of the fences of the blocks that have one.
use Rattle.std.proofs.Common.{◌≡◌, ◌==◌, ℕ, Bool, true, false, List, [], ◌∷◌, nat_lt, refl, ◌∙◌, ◌⊎◌, inl, inr, ap, sym}
use Rattle.std.proofs.Common.{subst}
use Rattle.sig_core.specs.declared.member.TxId.{TxId}
use Rattle.sig_core.specs.declared.signal.Body.{Body}
use Rattle.sig_core.specs.declared.signal.Body.TheVariants.{Client, Epoch, Host, Membership}
use Rattle.sig_core.specs.declared.signal.client.ClientSignal.TheVariants.{TcKeyReq, TcRollbackReq}
use Rattle.sig_core.specs.declared.signal.epoch.EpochSignal.TheVariants.{DiVerifyConf}
use Rattle.sig_core.specs.declared.signal.host.HostSignal.TheVariants.{Continue}
use Rattle.sig_core.specs.declared.signal.host.Work.TheVariants.{Installation, Transaction}
use Rattle.sig_core.specs.declared.signal.membership.MembershipSignal.TheVariants.{FenceReq}
use Rattle.sig_core.specs.declared.signal.Signal.{Signal}
use Rattle.sig_core.specs.declared.view.View.{View}
use Rattle.tc_block.specs.declared.task.Task.{Task}
use Rattle.tc_block.specs.Doom.{is_among}
use Rattle.dih_node.specs.Dih.{dih_row, dih_table}
use Rattle.dih_node.specs.Orders as dih
use Rattle.dih_node.specs.State.{DihState}
use Rattle.dih_node.proofs.Walk.{IsEnded, ReportOutcomes, dih_outcomes, was_counted, was_held, was_unknown}
use Rattle.node_views.specs.Parts.{greater, raised}
use Rattle.tc_views.specs.Coordinator.{calm_unless, coordinator_row, coordinator_table, is_to_fail}
use Rattle.tc_views.specs.State.{CoordinatorState, within}
use Rattle.tc_views.specs.Views as coordinator
use Rattle.view_laws.proofs.votes.NoVotes.{is_fencing}

-- a coordinator's
module _ (s : CoordinatorState) where
  unless_fence : (body : Body) (b : Bool) → (calm_unless s body b).state.fence ≡ s.fence
  unfolding within
  unless_fence body true = refl
  unless_fence body false = refl

  resumes_by : (left : List Task) → (coordinator.resume_by s left).state.fence ≡ s.fence
  unfolding within
  resumes_by [] = refl
  resumes_by (task ∷ left) = refl

  resumes_if : (b : Bool) → (coordinator.resume_if s b).state.fence ≡ s.fence
  resumes_if true = resumes_by s.left
  resumes_if false = refl

  resumes_fence : (number : ℕ) → (coordinator.resume_row s number).state.fence ≡ s.fence
  unfolding coordinator.resume_row
  resumes_fence number = resumes_if (number == s.number)

  coordinator_by : (number : ℕ) (body : Body)
      → (coordinator_table s number body).state.fence ≡ raised s.fence body
  unfolding coordinator.fence_row within
  coordinator_by number (Membership (FenceReq proposal)) = refl
  coordinator_by number (Host (Continue Installation at)) = resumes_fence number
  coordinator_by number (Host (Continue (Transaction tx) at)) =
      unless_fence (Host (Continue (Transaction tx) at)) (nat_lt number s.number)
  coordinator_by number (Epoch (DiVerifyConf tx epoch)) =
      unless_fence (Epoch (DiVerifyConf tx epoch)) (is_among s.doomed tx)
  coordinator_by number (Client (TcKeyReq tx op)) = unless_fence (Client (TcKeyReq tx op)) (is_to_fail s.left tx)
  coordinator_by number (Client (TcRollbackReq tx)) = unless_fence (Client (TcRollbackReq tx)) (is_to_fail s.left tx)
  coordinator_by number body = refl

  pub coordinator_fence : (x : Signal) → (coordinator_row s x).state.fence ≡ raised s.fence x.body
  coordinator_fence x = coordinator_by x.view.number x.body

  pub coordinator_enters : (view : View)
      → (coordinator.install_row s view).state.fence ≡ greater s.fence view.number
  unfolding coordinator.install_row
  coordinator_enters view = refl

-- that of a node's epochs, which stay of their node
module _ (s : DihState) where
  -- it stays, unless a fence is asked for
  abbrev Keeps : Body → DihState → Type 0
  Keeps body t = (t.node ≡ s.node) × ((is_fencing body ≡ true) ⊎ (t.fence ≡ s.fence))

  ended_keeps : (tx : TxId) (now : DihState) → IsEnded s tx now → (now.node ≡ s.node) × (now.fence ≡ s.fence)
  ended_keeps tx _ (was_counted at is) = (refl, refl)
  ended_keeps tx _ (was_held at none is) = (refl, refl)
  ended_keeps tx _ (was_unknown none is) = (refl, refl)

  report_keeps : (body : Body) (now : DihState) → (now.node ≡ s.node) × (now.fence ≡ s.fence)
      → ReportOutcomes now (λ step. Keeps body step.state)
  report_keeps body now same = record {
    unordered = λ none. (same.0, inr same.1);
    waits = λ order there left. (same.0, inr same.1);
    reports = λ order there none. (same.0, inr same.1);
  }

  row_keeps : (x : Signal) → Keeps x.body (dih_row s x).state
  row_keeps x =
      dih_outcomes s x (λ step. Keeps x.body step.state) (record {
        stays = (refl, inr refl);
        decides = λ tx ops is on. (refl, inr refl);
        holds = λ tx ops is off. (refl, inr refl);
        serves = λ at tx is own on first. (refl, inr refl);
        ends = λ tx now is ended. report_keeps x.body now (ended_keeps tx now ended);
        prepares = λ epoch next is ahead. (refl, inr refl);
        prepares_late = λ epoch next is late. (refl, inr refl);
        commits = λ epoch next is ahead. record {
          unordered = λ none. (refl, inr refl);
          waits = λ order there left. (refl, inr refl);
          reports = λ order there none. (refl, inr refl);
        };
        commits_late = λ epoch next is late. report_keeps x.body _ (refl, refl);
        closes = λ epoch is. (refl, inr refl);
        copies = λ epoch mask is. (refl, inr refl);
        notes = λ epoch is. (refl, inr refl);
        tells = λ is. (refl, inr refl);
        fences = λ proposal is. (refl, inl (ap is_fencing is));
      })

  pub dih_fence : (x : Signal) → (dih_row s x).state.fence ≡ raised s.fence x.body
  unfolding dih.fence_row
  dih_fence x = by x.body refl (row_keeps x).1
    where
      by : (body : Body) → x.body ≡ body → (is_fencing x.body ≡ true) ⊎ ((dih_row s x).state.fence ≡ s.fence)
          → (dih_row s x).state.fence ≡ raised s.fence x.body
      by (Membership (FenceReq proposal)) is kept =
          subst (λ body. (dih_table s x.member.node x.view.number body).state.fence ≡ raised s.fence body) (sym is) refl
      by body is (inl asked) = let asks : is_fencing body ≡ true = sym (ap is_fencing is) ∙ asked in absurd cc
      by body is (inr same) = same ∙ sym (ap (raised s.fence) is)

  pub dih_node : (x : Signal) → (dih_row s x).state.node ≡ s.node
  dih_node x = (row_keeps x).0

  pub dih_enters : (number : ℕ) → (dih.install_row s number).state.fence ≡ greater s.fence number
  unfolding dih.install_row
  dih_enters number = refl
