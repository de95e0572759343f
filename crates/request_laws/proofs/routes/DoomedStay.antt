-- Whoever is doomed stays so until it is forgotten.
use Rattle.std.proofs.Common.{◌≡◌, ◌==◌, ℕ, Bool, true, false, cond, List, [], ◌∷◌, inl, inr, nat_lt, refl, sym, ap}
use Rattle.std.proofs.Common.{◌∙◌}
use Rattle.std.proofs.lemmas.Bool.{true≢false}
use Rattle.std.proofs.lemmas.List.Folds.{list_any-append}
use Rattle.std.specs.Prelude.{◌||◌, filter, is_some, position, Option, None, Some}
use Rattle.std.specs.List.{flat_map}
use Rattle.std.specs.Map.{keys_of}
use Rattle.run_theory.specs.Lists.{IsIn}
use Rattle.sig_core.specs.declared.member.TxId.{TxId}
use Rattle.sig_core.specs.declared.signal.Body.{Body}
use Rattle.sig_core.specs.declared.signal.Body.TheVariants.{Client, Epoch, Host, Membership}
use Rattle.sig_core.specs.declared.signal.Signal.{Signal}
use Rattle.sig_core.specs.declared.signal.client.ClientSignal.TheVariants.{TcKeyReq, TcRollbackReq}
use Rattle.sig_core.specs.declared.signal.epoch.EpochSignal.TheVariants.{DiVerifyConf}
use Rattle.sig_core.specs.declared.signal.host.HostSignal.TheVariants.{Continue}
use Rattle.sig_core.specs.declared.signal.host.Work.TheVariants as work
use Rattle.sig_core.specs.declared.signal.membership.MembershipSignal.TheVariants.{FenceReq}
use Rattle.sig_core.specs.declared.view.View.{View}
use Rattle.sig_core.specs.Same.{same_tx}
use Rattle.sig_core.specs.Step.{Step}
use Rattle.sig_core.proofs.Firsts.{place_by, position-cons}
use Rattle.sig_core.proofs.Keys.{same_tx-self}
use Rattle.sig_core.proofs.TxLemmas.{same_tx-is}
use Rattle.tc_block.specs.Doom.{doomed_if, doomed_in, doomed_of, is_among, is_doomed_by}
use Rattle.tc_block.specs.Live.{is_live}
use Rattle.tc_block.specs.Resume.{resume_step}
use Rattle.tc_block.specs.State.{TcState}
use Rattle.tc_block.specs.Tc.{tc_table}
use Rattle.tc_block.specs.declared.task.Task.{Task}
use Rattle.tc_block.specs.declared.transaction.Transaction.{Transaction}
use Rattle.tc_views.specs.Coordinator.{calm_row, calm_unless, coordinator_row, coordinator_table, is_to_fail}
use Rattle.tc_views.specs.State.{CoordinatorState, within}
use Rattle.tc_views.specs.Views.{fence_row, resume_by as tasks_by, resume_if, resume_row as tasks_row}

any_or : (a b : Bool) → b ≡ true → (a || b) ≡ true
any_or true b is = refl
any_or false b is = is

-- who has an entry isn't forgotten
entry_live : (live : List (TxId × Transaction)) (e : TxId × Transaction) → IsIn e live
    → is_some (position (same_tx e.0) (keys_of live)) ≡ true
entry_live [] e inside = absurd inside
entry_live (one ∷ live) e inside =
    ap is_some (position-cons (same_tx e.0) one.0 (keys_of live))
    ∙ by (same_tx e.0 one.0) refl inside (λ more. entry_live live e more)
  where
    some_by : (rest : Option ℕ) → is_some rest ≡ true → is_some (place_by false rest) ≡ true
    some_by None is = absurd (true≢false (sym is))
    some_by (Some at) is = refl

    by : (b : Bool) → same_tx e.0 one.0 ≡ b → IsIn e (one ∷ live)
        → (IsIn e live → is_some (position (same_tx e.0) (keys_of live)) ≡ true)
        → is_some (place_by b (position (same_tx e.0) (keys_of live))) ≡ true
    by true own inside more = refl
    by false other (inl same) more =
        absurd
        (true≢false (sym (ap (λ (o : TxId × Transaction). same_tx e.0 o.0) (sym same) ∙ same_tx-self e.0) ∙ other))
    by false other (inr inside) more = some_by (position (same_tx e.0) (keys_of live)) (more inside)

-- who passes stays among those that do
among_left : (p : TxId → Bool) (tx : TxId) (txs : List TxId) → p tx ≡ true → is_among txs tx ≡ true
    → is_among (filter p txs) tx ≡ true
among_left p tx [] passes is = absurd (true≢false (sym is))
among_left p tx (one ∷ txs) passes is =
    by (same_tx tx one) refl (p one) refl is (λ more. among_left p tx txs passes more)
  where
    by : (own : Bool) → same_tx tx one ≡ own → (left : Bool) → p one ≡ left → (own || is_among txs tx) ≡ true
        → (is_among txs tx ≡ true → is_among (filter p txs) tx ≡ true)
        → is_among (cond left (one ∷ filter p txs) (filter p txs)) tx ≡ true
    by true own true left is more = ap (λ b. b || is_among (filter p txs) tx) own
    by true own false gone is more =
        absurd (true≢false (sym passes ∙ ap p (same_tx-is tx one own) ∙ gone))
    by false other true left is more = any_or (same_tx tx one) (is_among (filter p txs) tx) (more is)
    by false other false gone is more = more is

-- and a promise dooms whom another one has
among_doomed : (view : View) (before : List TxId) (live : List (TxId × Transaction)) (e : TxId × Transaction)
    → IsIn e live → is_among before e.0 ≡ true → is_among (flat_map (doomed_of view before) live) e.0 ≡ true
among_doomed view before [] e inside doomed = absurd inside
among_doomed view before (one ∷ live) e inside doomed =
    list_any-append (same_tx e.0) (doomed_of view before one) (flat_map (doomed_of view before) live)
    ∙ by inside (λ more. among_doomed view before live e more doomed)
  where
    rest : List TxId
    rest = flat_map (doomed_of view before) live

    first : (b c : Bool) → b ≡ true → (is_among (doomed_if e.0 (b || c)) e.0 || is_among rest e.0) ≡ true
    first true c is = ap (λ b. (b || false) || is_among rest e.0) (same_tx-self e.0)
    first false c is = absurd (true≢false (sym is))

    by : IsIn e (one ∷ live) → (IsIn e live → is_among rest e.0 ≡ true)
        → (is_among (doomed_of view before one) e.0 || is_among rest e.0) ≡ true
    by (inl same) more =
        ap (λ (o : TxId × Transaction). is_among (doomed_of view before o) e.0 || is_among rest e.0) (sym same)
        ∙ first (is_among before e.0) (is_doomed_by view e.1) doomed
    by (inr inside) more = any_or (is_among (doomed_of view before one) e.0) (is_among rest e.0) (more inside)

module _ (s : CoordinatorState) where
  -- whoever has an entry behind the step, and was doomed before it
  abbrev Stay : Step CoordinatorState → Type 0
  Stay step =
      (e : TxId × Transaction) → IsIn e step.state.tc.live → is_among s.doomed e.0 ≡ true
      → is_among step.state.doomed e.0 ≡ true

  within_stay : (left : List Task) (step : Step TcState) → Stay (within (record s { left = left }) step)
  unfolding within
  within_stay left step e inside doomed =
      among_left (is_live step.state) e.0 s.doomed (entry_live step.state.live e inside) doomed

  calm_stay : (body : Body) → Stay (calm_row s body)
  calm_stay body = within_stay s.left (tc_table s.tc body)

  unless_stay : (body : Body) (b : Bool) → Stay (calm_unless s body b)
  unless_stay body true e inside doomed = doomed
  unless_stay body false e inside doomed = calm_stay body e inside doomed

  left_stay : (left : List Task) → Stay (tasks_by s left)
  left_stay [] e inside doomed = doomed
  left_stay (task ∷ left) e inside doomed =
      within_stay left (resume_step s.tc task s.number) e inside doomed

  tasks_stay : (number : ℕ) → Stay (tasks_row s number)
  unfolding tasks_row
  tasks_stay number = by (number == s.number)
    where
      by : (b : Bool) → Stay (resume_if s b)
      by true e inside doomed = left_stay s.left e inside doomed
      by false e inside doomed = doomed

  fence_stay : (proposal : View) → Stay (fence_row s proposal)
  unfolding fence_row doomed_in
  fence_stay proposal e inside doomed = among_doomed proposal s.doomed s.tc.live e inside doomed

  table_stay : (number : ℕ) (body : Body) → Stay (coordinator_table s number body)
  table_stay number (Membership (FenceReq proposal)) = fence_stay proposal
  table_stay number (Host (Continue work.Installation at)) = tasks_stay number
  table_stay number (Host (Continue (work.Transaction tx) at)) =
      unless_stay (Host (Continue (work.Transaction tx) at)) (nat_lt number s.number)
  table_stay number (Epoch (DiVerifyConf tx epoch)) = unless_stay (Epoch (DiVerifyConf tx epoch)) (is_among s.doomed tx)
  table_stay number (Client (TcKeyReq tx op)) = unless_stay (Client (TcKeyReq tx op)) (is_to_fail s.left tx)
  table_stay number (Client (TcRollbackReq tx)) = unless_stay (Client (TcRollbackReq tx)) (is_to_fail s.left tx)
  table_stay number body = calm_stay body

-- who has an entry behind a step, and isn't doomed there, wasn't before
pub doomed_stay : (s : CoordinatorState) (x : Signal) (e : TxId × Transaction)
    → IsIn e (coordinator_row s x).state.tc.live → is_among (coordinator_row s x).state.doomed e.0 ≡ false
    → is_among s.doomed e.0 ≡ false
doomed_stay s x e inside spared = by (is_among s.doomed e.0) refl
  where
    by : (b : Bool) → is_among s.doomed e.0 ≡ b → is_among s.doomed e.0 ≡ false
    by true doomed = absurd (true≢false (sym (table_stay s x.view.number x.body e inside doomed) ∙ spared))
    by false own = own
