-- What a step of a coordinator makes of its number, its fence and whom it has doomed.
use Rattle.std.proofs.Common.{◌≡◌, ◌⊎◌, ◌∙◌, ◌||◌, ◌==◌, ℕ, Bool, true, false, cond, nat_lt, List, [], ◌∷◌, ◌++◌}
use Rattle.std.proofs.Common.{refl, sym, ap, inl, inr}
use Rattle.std.specs.Prelude.{Option, None, Some, is_some}
use Rattle.run_theory.specs.Lists.{IsIn}
use Rattle.run_theory.proofs.Pasts.{each_in}
use Rattle.sig_core.specs.declared.member.TxId.{TxId}
use Rattle.sig_core.specs.declared.signal.Body.{Body}
use Rattle.sig_core.specs.declared.signal.Body.TheVariants.{Client, Epoch, Host, Membership}
use Rattle.sig_core.specs.declared.signal.client.ClientSignal.TheVariants.{TcKeyReq, TcRollbackReq}
use Rattle.sig_core.specs.declared.signal.epoch.EpochSignal.TheVariants.{DiVerifyConf}
use Rattle.sig_core.specs.declared.signal.host.HostSignal.TheVariants.{Continue}
use Rattle.sig_core.specs.declared.signal.host.Work.TheVariants.{Installation, Transaction}
use Rattle.sig_core.specs.declared.signal.membership.MembershipSignal.TheVariants.{FenceReq}
use Rattle.sig_core.specs.declared.signal.Signal.{Signal}
use Rattle.sig_core.specs.declared.view.View.{View}
use Rattle.sig_core.specs.Same.{same_tx}
use Rattle.sig_core.proofs.TxLemmas.{same_tx-is}
use Rattle.sig_core.proofs.Keys.{same_tx-self}
use Rattle.tc_block.specs.declared.task.Task.{Task}
use Rattle.tc_block.specs.declared.transaction.Transaction as transactions
use Rattle.tc_block.specs.Doom.{doomed_if, doomed_in, is_among, is_doomed_by}
use Rattle.tc_block.specs.Live.{is_live, place_in}
use Rattle.tc_block.specs.State.{TcState}
use Rattle.tc_block.proofs.LiveSplit.{Live, no_place}
use Rattle.tc_views.specs.Coordinator.{calm_unless, coordinator_row, coordinator_table, is_to_fail}
use Rattle.tc_views.specs.State.{CoordinatorState, still_live, within}
use Rattle.tc_views.specs.Views as coordinator
use Rattle.tc_views.specs.Views.{fence_row}

-- It promises a view; or its number and fence stay, and of the doomed ones those that it hasn't forgotten.
pub data Fences (s : CoordinatorState) (body : Body) (t : CoordinatorState) : Type 0 where
  promises : (proposal : View) → body ≡ Membership (FenceReq proposal) → t ≡ (fence_row s proposal).state
      → Fences s body t
  keeps : t.number ≡ s.number → t.fence ≡ s.fence
      → (t.doomed ≡ s.doomed) ⊎ (t.doomed ≡ still_live t.tc s.doomed) → Fences s body t

module _ (s : CoordinatorState) where
  unless_fences : (body other : Body) (b : Bool) → Fences s body (calm_unless s other b).state
  unfolding within
  unless_fences body other true = keeps refl refl (inl refl)
  unless_fences body other false = keeps refl refl (inr refl)

  resumes_fences : (body : Body) (number : ℕ) → Fences s body (coordinator.resume_row s number).state
  unfolding coordinator.resume_row within
  resumes_fences body number = by (number == s.number)
    where
      first : (left : List Task) → Fences s body (coordinator.resume_by s left).state
      first [] = keeps refl refl (inl refl)
      first (task ∷ left) = keeps refl refl (inr refl)

      by : (b : Bool) → Fences s body (coordinator.resume_if s b).state
      by true = first s.left
      by false = keeps refl refl (inl refl)

  table_fences : (number : ℕ) (body : Body) → Fences s body (coordinator_table s number body).state
  unfolding within
  table_fences number (Membership (FenceReq proposal)) = promises proposal refl refl
  table_fences number (Host (Continue Installation at)) = resumes_fences (Host (Continue Installation at)) number
  table_fences number (Host (Continue (Transaction tx) at)) =
      unless_fences (Host (Continue (Transaction tx) at)) (Host (Continue (Transaction tx) at)) (nat_lt number s.number)
  table_fences number (Epoch (DiVerifyConf tx epoch)) =
      unless_fences (Epoch (DiVerifyConf tx epoch)) (Epoch (DiVerifyConf tx epoch)) (is_among s.doomed tx)
  table_fences number (Client (TcKeyReq tx op)) =
      unless_fences (Client (TcKeyReq tx op)) (Client (TcKeyReq tx op)) (is_to_fail s.left tx)
  table_fences number (Client (TcRollbackReq tx)) =
      unless_fences (Client (TcRollbackReq tx)) (Client (TcRollbackReq tx)) (is_to_fail s.left tx)
  table_fences number body = keeps refl refl (inr refl)

  pub row_fences : (x : Signal) → Fences s x.body (coordinator_row s x).state
  row_fences x = table_fences x.view.number x.body

-- who isn't forgotten has a place
has_place : (tc : TcState) (e : TxId × transactions.Transaction) → IsIn e tc.live → is_live tc e.0 ≡ true
has_place tc e there = by (place_in tc e.0) refl
  where
    by : (o : Option ℕ) → place_in tc e.0 ≡ o → is_some o ≡ true
    by (Some at) is = refl
    by None is =
        let other : same_tx e.0 e.0 ≡ false =
        each_in (λ (x : TxId × transactions.Transaction). same_tx x.0 e.0 ≡ false) e tc.live
        (no_place e.0 tc.live is) there in
        let both : true ≡ false = sym (same_tx-self e.0) ∙ other in absurd cc

-- so it stays among those of whom others are forgotten
stays_among : (tc : TcState) (txs : List TxId) (tx : TxId) → is_live tc tx ≡ true → is_among txs tx ≡ true
    → is_among (still_live tc txs) tx ≡ true
stays_among tc [] tx lives among = absurd cc
stays_among tc (one ∷ txs) tx lives among =
    by (same_tx tx one) refl (is_live tc one) refl among (stays_among tc txs tx lives)
  where
    by : (same : Bool) → same_tx tx one ≡ same → (live : Bool) → is_live tc one ≡ live
        → (same || is_among txs tx) ≡ true
        → (is_among txs tx ≡ true → is_among (still_live tc txs) tx ≡ true)
        → is_among (cond live (one ∷ still_live tc txs) (still_live tc txs)) tx ≡ true
    by true same true is among rest = ap (λ b. b || is_among (still_live tc txs) tx) same
    by true same false is among rest =
        let both : true ≡ false = sym lives ∙ ap (is_live tc) (same_tx-is tx one same) ∙ is in absurd cc
    by false same true is among rest = ap (λ b. b || is_among (still_live tc txs) tx) same ∙ rest among
    by false same false is among rest = rest among

-- whom the promise of a view dooms
module _ (view : View) (before : List TxId) where
  among_if : (tx one : TxId) (dooms : Bool) (rest : List TxId)
      → ((same_tx tx one ≡ true) × (dooms ≡ true)) ⊎ (is_among rest tx ≡ true)
      → is_among (doomed_if one dooms ++ rest) tx ≡ true
  among_if tx one true rest (inl (same, is)) = ap (λ b. b || is_among rest tx) same
  among_if tx one true rest (inr there) = ap (λ b. same_tx tx one || b) there ∙ or_true (same_tx tx one)
    where
      or_true : (b : Bool) → (b || true) ≡ true
      or_true true = refl
      or_true false = refl
  among_if tx one false rest (inl (same, is)) = absurd cc
  among_if tx one false rest (inr there) = there

  pub dooms : (live : Live) (e : TxId × transactions.Transaction) → IsIn e live
      → (is_among before e.0 || is_doomed_by view e.1) ≡ true → is_among (doomed_in view before live) e.0 ≡ true
  unfolding doomed_in
  dooms [] e there is = absurd there
  dooms (one ∷ live) e (inl same) is =
      among_if e.0 one.0 (is_among before one.0 || is_doomed_by view one.1) (doomed_in view before live)
      (inl (
        ap (λ (o : TxId × transactions.Transaction). same_tx e.0 o.0) (sym same) ∙ same_tx-self e.0,
        ap (λ (o : TxId × transactions.Transaction). is_among before o.0 || is_doomed_by view o.1) (sym same) ∙ is,
      ))
  dooms (one ∷ live) e (inr behind) is =
      among_if e.0 one.0 (is_among before one.0 || is_doomed_by view one.1) (doomed_in view before live)
      (inr (dooms live e behind is))

-- whoever is doomed stays so, unless it is forgotten
pub stays_doomed : (s t : CoordinatorState) (e : TxId × transactions.Transaction) → IsIn e t.tc.live
    → (t.doomed ≡ s.doomed) ⊎ (t.doomed ≡ still_live t.tc s.doomed) → is_among s.doomed e.0 ≡ true
    → is_among t.doomed e.0 ≡ true
stays_doomed s t e there (inl same) among = ap (λ txs. is_among txs e.0) same ∙ among
stays_doomed s t e there (inr still) among =
    ap (λ txs. is_among txs e.0) still ∙ stays_among t.tc s.doomed e.0 (has_place t.tc e there) among
