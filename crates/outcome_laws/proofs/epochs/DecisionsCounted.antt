-- The epochs of a node decide a transaction for each request: one that they hold, or that comes.
use Rattle.std.proofs.Common.{◌≡◌, ◌∙◌, ◌∷◌, ◌++◌, ◌≤◌, ◌+◌, ℕ, zero, suc, Bool, true, false, cond, List, [], ap, arith}
use Rattle.std.proofs.Common.{inl, inr, refl, sym}
use Rattle.std.proofs.lemmas.List.Sums.{sum_by-cons, sum_by_push}
use Rattle.std.specs.List.{count_by}
use Rattle.std.specs.Prelude.{Some, remove, slice_get}
use Rattle.sig_core.specs.declared.mark.Mark.TheVariants.{Decided}
use Rattle.sig_core.specs.declared.member.TxId.{TxId}
use Rattle.sig_core.specs.declared.op.Answer.{Answer}
use Rattle.sig_core.specs.declared.op.Op.{Op}
use Rattle.sig_core.specs.declared.signal.Body.{Body}
use Rattle.sig_core.specs.declared.signal.Body.TheVariants.{Epoch}
use Rattle.sig_core.specs.declared.signal.Signal.{Signal}
use Rattle.sig_core.specs.declared.signal.epoch.EpochSignal.TheVariants.{DiVerifyReq}
use Rattle.sig_core.specs.Same.{same_tx}
use Rattle.sig_core.specs.Step.{Step}
use Rattle.sig_core.proofs.TxLemmas.{same_tx-swap}
use Rattle.tc_block.specs.Complete.{one_if}
use Rattle.dih_node.specs.Dih.{dih_row}
use Rattle.dih_node.specs.Orders.{install_row}
use Rattle.dih_node.specs.State.{DihState}
use Rattle.dih_node.specs.Verify.{given}
use Rattle.outcome_laws.specs.Counts.{count_held, is_asking, is_decision}
use Rattle.outcome_laws.proofs.epochs.Steps.{HoldsNoMore, IsQuiet, dih_each, dih_installs_hold}

-- counts of what was removed are at most those of the whole
removed_count : (p : TxId → Bool) (held : List TxId) (place : ℕ) → count_by p (remove held place) ≤ count_by p held
removed_count p [] zero = omega arith
removed_count p [] (suc place) = omega arith
removed_count p (tx ∷ held) zero =
    let more = sum_by-cons (λ u. cond (p u) 1 0) tx held in
    omega (arith, more)
removed_count p (tx ∷ held) (suc place) =
    let more = sum_by-cons (λ u. cond (p u) 1 0) tx held in
    let less = sum_by-cons (λ u. cond (p u) 1 0) tx (remove held place) in
    omega (arith, more, less, removed_count p held place)

held_count : (p : TxId → Bool) (now held : List TxId) → HoldsNoMore now held → count_by p now ≤ count_by p held
held_count p now held (inl same) = let equal = ap (count_by p) same in omega (arith, equal)
held_count p now held (inr less) =
    let equal = ap (count_by p) less.is in
    omega (arith, equal, removed_count p held less.place)

-- one where the test passes
ones : (b : Bool) → ◌≡◌ {A = ℕ} (cond b 1 0) (one_if b)
ones true = refl
ones false = refl

module _ (tx : TxId) (s : DihState) where
  -- a step that decides the transaction, and leaves it held, no more often than it was held and is asked for
  abbrev Counts : Body → Step DihState → Type 0
  Counts body step =
      count_by (is_decision tx) step.effects.marks + count_held tx step.state
      ≤ count_held tx s + one_if (is_asking tx body)

  quiet_counts : (body : Body) (step : Step DihState) → IsQuiet s.held step → Counts body step
  quiet_counts body step is =
      let none : count_by (is_decision tx) step.effects.marks ≡ 0 = ap (count_by (is_decision tx)) is.marks in
      let fewer = held_count (same_tx tx) step.state.held s.held is.holds in
      omega (arith, none, fewer)

  -- the request that comes
  asks : (body : Body) (u : TxId) (ops : List (Op × Answer)) → body ≡ Epoch (DiVerifyReq u ops)
      → one_if (is_asking tx body) ≡ cond (same_tx u tx) 1 0
  asks body u ops is = ap (λ b. one_if (is_asking tx b)) is ∙ sym (ones (same_tx u tx))

  decided : (u : TxId) (epoch : ℕ) → count_by (is_decision tx) (Decided u epoch ∷ []) ≡ cond (same_tx u tx) 1 0
  decided u epoch =
      let more = sum_by-cons (λ mark. cond (is_decision tx mark) 1 0) (Decided u epoch) [] in
      omega (arith, more)

  gives_counts : (body : Body) (u : TxId) (ops : List (Op × Answer)) → body ≡ Epoch (DiVerifyReq u ops)
      → Counts body (given s u)
  unfolding given
  gives_counts body u ops is =
      let own = asks body u ops is in
      let one = decided u s.current in
      omega (arith, own, one)

  holds_counts : (body : Body) (u : TxId) (ops : List (Op × Answer)) → body ≡ Epoch (DiVerifyReq u ops)
      → count_by (same_tx tx) (s.held ++ u ∷ []) ≤ count_held tx s + one_if (is_asking tx body)
  holds_counts body u ops is =
      let own = asks body u ops is in
      let more = sum_by_push (λ t. cond (same_tx tx t) 1 0) s.held u in
      let same : ◌≡◌ {A = ℕ} (cond (same_tx tx u) 1 0) (cond (same_tx u tx) 1 0) =
      ap (λ b. cond b 1 0) (same_tx-swap tx u) in
      omega (arith, own, more, same)

  serves_counts : (epoch : ℕ) (u : TxId) (held : List TxId) → slice_get held 0 ≡ Some u
      → count_by (is_decision tx) (Decided u epoch ∷ []) + count_by (same_tx tx) (remove held 0)
      ≤ count_by (same_tx tx) held
  serves_counts epoch u [] is = absurd cc
  serves_counts epoch u (v ∷ held) is =
      let first : v ≡ u = cc in
      let one = decided u epoch in
      let more = sum_by-cons (λ t. cond (same_tx tx t) 1 0) v held in
      let same : ◌≡◌ {A = ℕ} (cond (same_tx tx v) 1 0) (cond (same_tx u tx) 1 0) =
      ap (λ t. cond (same_tx tx t) 1 0) first ∙ ap (λ b. cond b 1 0) (same_tx-swap tx u) in
      omega (arith, one, more, same)

pub decides_few : (tx : TxId) (s : DihState) (x : Signal)
    → count_by (is_decision tx) (dih_row s x).effects.marks + count_held tx (dih_row s x).state
    ≤ count_held tx s + one_if (is_asking tx x.body)
unfolding given
decides_few tx s x =
    dih_each s (λ step. Counts tx s x.body step) x (record {
      quiet = λ step is. quiet_counts tx s x.body step is;
      gives_it = λ u ops is. gives_counts tx s x.body u ops is;
      holds_it = λ u ops is.
          let few = holds_counts tx s x.body u ops is in
          omega (arith, few);
      serves_it = λ u first.
          let few = serves_counts tx s s.current u s.held first in
          omega (arith, few);
    })

-- a view that is installed leaves what is held, and decides none
pub installs_count_held : (tx : TxId) (s : DihState) (number : ℕ)
    → count_held tx (install_row s number).state ≡ count_held tx s
installs_count_held tx s number = ap (count_by (same_tx tx)) (dih_installs_hold s number)
