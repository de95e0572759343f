-- Which transactions the API holds as begun: those that it was told to have begun, until it is told of their end.
use Rattle.std.proofs.Common.{◌≡◌, ◌⊎◌, ℕ, ◌+◌, ◌≤◌, List, [], ◌∷◌, ◌++◌, Bool, true, false, refl, ap, sym, ◌∙◌, subst}
use Rattle.std.proofs.Common.{arith, inl, inr}
use Rattle.std.specs.Prelude.{◌==◌, ◌&&◌, Some}
use Rattle.std.proofs.lemmas.Bool.{false≢true}
use Rattle.world_core.specs.Steps.{HostStep}
use Rattle.sig_core.specs.declared.member.TxId.{TxId}
use Rattle.sig_core.specs.declared.outs.Outgoing.{Outgoing}
use Rattle.sig_core.specs.declared.place.BlockId.{BlockId}
use Rattle.sig_core.specs.declared.place.BlockId.TheVariants as block
use Rattle.sig_core.specs.declared.signal.Body.{Body}
use Rattle.sig_core.specs.declared.signal.Signal.{Signal}
use Rattle.sig_core.specs.declared.signal.Body.TheVariants.{Client}
use Rattle.sig_core.specs.declared.signal.client.ClientSignal.TheVariants.{TcCommitConf, TcRollbackRep}
use Rattle.sig_core.specs.declared.view.View.{View}
use Rattle.api_block.specs.declared.opened.OpenTransaction.{OpenTransaction}
use Rattle.api_block.specs.Opened.{asked_for, begins, has_tx, is_beginning, is_tx, same_name}
use Rattle.api_block.specs.Requests.{is_request}
use Rattle.api_block.specs.State.{ApiState}
use Rattle.node_core.specs.Row.{shell_row}
use Rattle.world_core.specs.Machine.{after}
use Rattle.world_core.specs.Start.{Start}
use Rattle.host_laws.proofs.rows.Operations.{left_of}
use Rattle.host_laws.proofs.api.Begins.{AreGood, IsGood, each_at}
use Rattle.host_laws.proofs.api.Moves.{ApiMove, api_moves, begun_as, ended, ends, goes, opens, refuses, rests}
use Rattle.api_block.proofs.ApiTurns.{IsVoid}
use Rattle.host_laws.proofs.hosts.ShellHost.{opened_first, opened_next, shell_after}
use Rattle.host_laws.proofs.hosts.LinkCounts.{steps}
use Rattle.run_theory.proofs.Tally.{tally_append, tally_between}
use Rattle.run_theory.specs.Counts.{one_if, tally}
use Rattle.host_laws.proofs.coordinator.Lives.{is_start, start_of}
use Rattle.host_laws.proofs.coordinator.Moves.{end_of, is_end, same_tx-is}
use Rattle.host_laws.proofs.api.Wishes.{is_api}
use Rattle.host_laws.specs.OpenedAfter.{opened_in}

-- so many transactions are held after a step as before, and one more if it was told to have begun. One whose end was
-- told is held once less
pub record HoldsOn (tx : TxId) (body : Body) (before now : ℕ) : Type 0 where
  pub grows : now ≤ before + one_if (start_of tx body)
  pub ends : end_of tx body ≡ true → (now + 1 ≤ before) ⊎ (now ≡ 0)

ended_is : (tx : TxId) (body : Body) → end_of tx body ≡ true → ended body ≡ Some tx
ended_is tx (Client (TcCommitConf other epoch)) e = ap (λ t. Some t) (same_tx-is other tx e)
ended_is tx (Client (TcRollbackRep other cause)) e = ap (λ t. Some t) (same_tx-is other tx e)
ended_is tx _ e = cc

-- nothing is held of what the signal tells to be over
void_held : (tx : TxId) (xs : List OpenTransaction) (body : Body) → IsVoid xs body → end_of tx body ≡ true
    → tally (has_tx tx) xs ≡ 0
void_held tx xs (Client (TcCommitConf other epoch)) void e =
    subst (λ t. tally (has_tx t) xs ≡ 0) (same_tx-is other tx e) void
void_held tx xs (Client (TcRollbackRep other cause)) void e =
    subst (λ t. tally (has_tx t) xs ≡ 0) (same_tx-is other tx e) void
void_held tx xs _ void e = cc

-- a beginning transaction isn't held yet
not_held : (view : View) (tx : TxId) (t : OpenTransaction) → IsGood view t → is_beginning t.doing ≡ true
    → one_if (has_tx tx t) ≡ 0
not_held view tx t good e = ap (λ o. one_if (is_tx tx o)) (good.fresh e)

move_holds : (tx : TxId) (s : ApiState) (body : Body) (after : View × List OpenTransaction) (sends : List Outgoing)
    → ApiMove s body after sends → AreGood s.view s.opened
    → HoldsOn tx body (tally (has_tx tx) s.opened) (tally (has_tx tx) after.1)
move_holds tx s body after sends (rests is kind void) good =
    let same : tally (has_tx tx) after.1 ≡ tally (has_tx tx) s.opened =
    ap (λ (a : View × List OpenTransaction). tally (has_tx tx) a.1) is in
    record { grows = omega (arith, same); ends = λ e. inr (same ∙ void_held tx s.opened body void e) }
move_holds tx s body after sends (opens name node op new request is told) good =
    let same : tally (has_tx tx) after.1 ≡ tally (has_tx tx) s.opened + 0 =
    ap (λ (a : View × List OpenTransaction). tally (has_tx tx) a.1) is
    ∙ tally_append (has_tx tx) s.opened (asked_for name node op ∷ []) in
    record { grows = omega (arith, same); ends = λ e. absurd (none_ended body request e) }
  where
    none_ended : (b : Body) → is_request b ≡ true → end_of tx b ≡ true → ⊥
    none_ended (Client (TcCommitConf other epoch)) r e = cc
    none_ended (Client (TcRollbackRep other cause)) r e = cc
    none_ended _ r e = cc
move_holds tx s body after sends (begun_as name one front t u back about passes begun was is kind) good =
    let g = each_at (λ x. IsGood s.view x) front t back s.opened was good.each in
    let t_none = not_held s.view tx t g (left_of (is_beginning t.doing) (same_name t.name name)
    (left_of (begins name t) (t.node == one.tc) passes)) in
    let now = ap (λ (a : View × List OpenTransaction). tally (has_tx tx) a.1) is in
    record {
      grows = omega (
        arith,
        t_none,
        now,
        tally_between (has_tx tx) front t back s.opened was,
        tally_between (has_tx tx) front u back (front ++ u ∷ back) refl,
        ap (λ o. one_if (is_tx tx o)) begun.is,
        ap (λ b. one_if (start_of tx b)) about,
      );
      ends = λ e. absurd (false≢true (ap (end_of tx) (sym about) ∙ e));
    }
move_holds tx s body after sends (goes front t u back go void was is kind) good =
    let same : tally (has_tx tx) after.1 ≡ tally (has_tx tx) s.opened =
    omega (
      arith,
      ap (λ (a : View × List OpenTransaction). tally (has_tx tx) a.1) is,
      tally_between (has_tx tx) front t back s.opened was,
      tally_between (has_tx tx) front u back (front ++ u ∷ back) refl,
      ap (λ o. one_if (is_tx tx o)) go.tx,
    ) in
    record { grows = omega (arith, same); ends = λ e. inr (same ∙ void_held tx s.opened body void e) }
move_holds tx s body after sends (ends one front t back about passes was is kind) good =
    let less = ap (λ (a : View × List OpenTransaction). tally (has_tx tx) a.1) is in
    let between = tally_between (has_tx tx) front t back s.opened was in
    record {
      grows = omega (arith, less, between);
      ends = λ e. inl (
          let both : Some one ≡ Some tx = sym about ∙ ended_is tx body e in
          let same : one ≡ tx = cc in
          let here : has_tx tx t ≡ true = subst (λ x. has_tx x t ≡ true) same passes in
          omega (arith, less, between, ap one_if here)
          );
    }
move_holds tx s body after sends (refuses name front t back about passes was is kind) good =
    let less = ap (λ (a : View × List OpenTransaction). tally (has_tx tx) a.1) is in
    record {
      grows = omega (arith, less, tally_between (has_tx tx) front t back s.opened was);
      ends = λ e. absurd (false≢true (ap (end_of tx) (sym about) ∙ e));
    }

-- a step of the shell's host
pub shell_holds : (tx : TxId) (s : ApiState) (at : BlockId) (x : Signal) → AreGood s.view s.opened
    → (tally (has_tx tx) (shell_row s at x).state.opened ≤ tally (has_tx tx) s.opened + one_if
    (is_api at && start_of tx x.body))
    × ((is_api at && end_of tx x.body) ≡ true → (tally (has_tx tx) (shell_row s at x).state.opened + 1 ≤ tally
    (has_tx tx) s.opened) ⊎ (tally (has_tx tx) (shell_row s at x).state.opened ≡ 0))
unfolding shell_row
shell_holds tx s block.Api x good = let h = move_holds tx s x.body _ _ (api_moves s x.body) good in (h.grows, h.ends)
shell_holds tx s _ x good = (omega arith, λ e. absurd (false≢true e))

-- in a log of the shell's host, what has ended has begun before
abbrev pub IsOrdered : TxId → List HostStep → Type 0
IsOrdered tx [] = Unit {0}
IsOrdered tx (e ∷ log) =
    (is_end tx e.step.taken.to e.step.taken.body ≡ true → 1 ≤ steps (is_start tx) log) × IsOrdered tx log

ordered_some : (tx : TxId) (log : List HostStep) → IsOrdered tx log → 1 ≤ steps (is_end tx) log
    → 1 ≤ steps (is_start tx) log
ordered_some tx [] ordered some = absurd (omega (arith, some))
ordered_some tx (e ∷ log) ordered some =
    go (is_end tx e.step.taken.to e.step.taken.body) refl (ordered_some tx log ordered.1)
  where
    go : (b : Bool) → is_end tx e.step.taken.to e.step.taken.body ≡ b
        → (1 ≤ steps (is_end tx) log → 1 ≤ steps (is_start tx) log) → 1 ≤ steps (is_start tx) (e ∷ log)
    go true is rest = omega (arith, ordered.0 is)
    go false is rest = omega (arith, rest (omega (arith, some, ap one_if is)))

-- what the API holds was told to have begun, and its end wasn't told
pub record AreHeld (tx : TxId) (held : ℕ) (log : List HostStep) : Type 0 where
  pub few : held ≤ steps (is_start tx) log
  pub none : 1 ≤ steps (is_end tx) log → held ≡ 0

module _ (start : Start) where
  pub log_holds : (tx : TxId) (log : List HostStep) → steps (is_start tx) log ≤ 1 → IsOrdered tx log
      → AreHeld tx (tally (has_tx tx) (opened_in (after start 0 log))) log
  log_holds tx [] once ordered = record {
    few = omega (arith, ap (tally (has_tx tx)) (opened_first start));
    none = λ e. absurd (omega (arith, e));
  }
  log_holds tx (e ∷ log) once ordered =
      next (log_holds tx log (omega (arith, once)) ordered.1)
      (shell_holds tx (shell_after start log).state e.step.taken.to.block e.step.taken (shell_after start log).good)
    where
      before : ℕ
      before = tally (has_tx tx) (shell_after start log).state.opened

      now : ℕ
      now = tally (has_tx tx) (shell_row (shell_after start log).state e.step.taken.to.block e.step.taken).state.opened

      is_before : tally (has_tx tx) (opened_in (after start 0 log)) ≡ before
      is_before = ap (λ g. tally (has_tx tx) (opened_in g)) (shell_after start log).is

      is_now : tally (has_tx tx) (opened_in (after start 0 (e ∷ log))) ≡ now
      is_now = ap (tally (has_tx tx)) (opened_next start e log)

      next : AreHeld tx (tally (has_tx tx) (opened_in (after start 0 log))) log
          → (now ≤ before + one_if (is_start tx e.step.taken.to e.step.taken.body))
          × (is_end tx e.step.taken.to e.step.taken.body ≡ true → (now + 1 ≤ before) ⊎ (now ≡ 0))
          → AreHeld tx (tally (has_tx tx) (opened_in (after start 0 (e ∷ log)))) (e ∷ log)
      next held step = record {
        few = omega (arith, held.few, step.0, is_before, is_now);
        none = λ some. by (is_end tx e.step.taken.to e.step.taken.body) refl some;
      }
        where
          fewer : is_end tx e.step.taken.to e.step.taken.body ≡ true
              → tally (has_tx tx) (opened_in (after start 0 (e ∷ log))) ≡ 0
          fewer is = which (step.1 is)
            where
              which : (now + 1 ≤ before) ⊎ (now ≡ 0) → tally (has_tx tx) (opened_in (after start 0 (e ∷ log))) ≡ 0
              which (inl less) = omega (arith, less, held.few, once, is_before, is_now)
              which (inr zero) = omega (arith, zero, is_now)

          by : (b : Bool) → is_end tx e.step.taken.to e.step.taken.body ≡ b → 1 ≤ steps (is_end tx) (e ∷ log)
              → tally (has_tx tx) (opened_in (after start 0 (e ∷ log))) ≡ 0
          by true is some = fewer is
          by false is some =
              let ended_before : 1 ≤ steps (is_end tx) log = omega (arith, some, ap one_if is) in
              let zero : tally (has_tx tx) (opened_in (after start 0 log)) ≡ 0 = held.none ended_before in
              let begun_before : 1 ≤ steps (is_start tx) log = ordered_some tx log ordered.1 ended_before in
              omega (arith, zero, begun_before, once, step.0, is_before, is_now)
