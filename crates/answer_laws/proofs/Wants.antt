-- What the API has asked of a transaction, its coordinator has heard, or it is on its way.
use Rattle.std.proofs.Common.{◌≡◌, ℕ, zero, suc, ◌+◌, ◌≤◌, ◌<◌, List, [], ◌∷◌, Bool, true, false, refl, ap, sym, ◌∙◌}
use Rattle.std.proofs.Common.{subst, arith}
use Rattle.std.specs.Prelude.{nat_lt, is_some, Option, None, Some}
use Rattle.std.proofs.lemmas.Bool.{false≢true}
use Rattle.std.proofs.lemmas.Bool.Decides.{nat_tests}
use Rattle.api_block.specs.declared.operate.TheConstants.{OPERATIONS}
use Rattle.api_block.specs.declared.opened.Doing.{Doing}
use Rattle.api_block.specs.declared.opened.Doing.TheVariants.{Beginning, Ready, Operating, Committing}
use Rattle.api_block.specs.declared.opened.OpenTransaction.{OpenTransaction}
use Rattle.api_block.specs.Opened.{asked_for, has_tx, is_beginning}
use Rattle.api_block.specs.State.{ApiState}
use Rattle.node_core.specs.Row.{shell_row}
use Rattle.run_theory.proofs.Pasts.{each_append}
use Rattle.run_theory.specs.Lists.{Each}
use Rattle.run_theory.specs.Links.{sent}
use Rattle.world_core.specs.Steps.{HostStep}
use Rattle.sig_core.specs.declared.member.TxId.{TxId}
use Rattle.sig_core.specs.declared.outs.Outgoing.{Outgoing}
use Rattle.sig_core.specs.declared.place.BlockId.{BlockId}
use Rattle.sig_core.specs.declared.place.BlockId.TheVariants as block
use Rattle.sig_core.specs.declared.signal.Body.{Body}
use Rattle.sig_core.specs.declared.signal.Signal.{Signal}
use Rattle.sig_core.specs.Step.{Step}
use Rattle.world_core.specs.Machine.{after}
use Rattle.world_core.specs.Start.{Start}
use Rattle.host_laws.proofs.api.Begins.{each_changed, each_less}
use Rattle.answer_laws.proofs.ApiEntries.{EntryStep, IsEntryRight, Moves, asks_end, commits_to, goes, is_answered}
use Rattle.answer_laws.proofs.ApiEntries.{is_answered_last, is_noted, keys_to, moves, starts_ready, starts_working}
use Rattle.answer_laws.proofs.ApiEntries.{stays, works_on}
use Rattle.host_laws.proofs.api.Holds.{shell_holds}
use Rattle.answer_laws.proofs.ApiSteps.{ApiStep, Changes, answered_last, answered_ready, api_step, begins_ready}
use Rattle.answer_laws.proofs.ApiSteps.{begins_working, changes, commits, drops, notes, opens, rests, works}
use Rattle.host_laws.proofs.hosts.ShellHost.{opened_first, opened_next, shell_after}
use Rattle.host_laws.proofs.hosts.LinkCounts.{steps}
use Rattle.run_theory.specs.Counts.{one_if, tally}
use Rattle.host_laws.proofs.coordinator.Keys.{answer_of}
use Rattle.host_laws.proofs.coordinator.Lives.{is_start, start_of}
use Rattle.answer_laws.specs.Answered.{is_operating}
use Rattle.host_laws.proofs.hosts.Sums.{one_most}
use Rattle.host_laws.specs.OpenedAfter.{opened_in}

-- what is so of each entry
changed_right : (body : Body) (t u : OpenTransaction) (sends : List Outgoing) → Changes body t u sends → IsEntryRight t
    → IsEntryRight u
changed_right body t u sends (begins_ready name one about b is ops doing kind) r = record {
  few = omega (arith, r.few, ops);
  begun = λ e. ap is_some is;
}
changed_right body t u sends (begins_working name one op about b is ops doing sent) r = record {
  few = omega (arith, ops);
  begun = λ e. ap is_some is;
}
changed_right body t u sends (works one op none is ready low same ops doing sent) r = record {
  few = omega (arith, ops, under low);
  begun = λ e. ap is_some (same ∙ is);
}
  where
    under : nat_lt t.operations OPERATIONS ≡ true → t.operations < OPERATIONS
    under q = grind (arith, nat_tests, q)
changed_right body t u sends (commits one none is ready same ops doing sent) r = record {
  few = omega (arith, r.few, ops);
  begun = λ e. ap is_some (same ∙ is);
}
changed_right body t u sends (answered_ready one answer about on working same ops doing kind) r =
    record { few = omega (arith, r.few, ops); begun = λ e. ap is_some same ∙ r.begun (ap is_beginning working) }
changed_right body t u sends (answered_last one answer about on working same ops doing sent) r =
    record { few = omega (arith, r.few, ops); begun = λ e. ap is_some same ∙ r.begun (ap is_beginning working) }
changed_right body t u sends (notes none same ops doing kind) r =
    record { few = omega (arith, r.few, ops); begun = λ e. ap is_some same ∙ r.begun (sym (ap is_beginning doing) ∙ e) }

step_right : (s : ApiState) (body : Body) (step : Step ApiState) → ApiStep s body step → Each IsEntryRight s.opened
    → Each IsEntryRight step.state.opened
step_right s body step (rests is kind unheard) right = subst (Each IsEntryRight) (sym is) right
step_right s body step (opens name node op is kind none) right =
    subst (Each IsEntryRight) (sym is)
    (each_append IsEntryRight s.opened (asked_for name node op ∷ []) right
    (record { few = omega arith; begun = λ e. absurd (false≢true (sym e)) }, tt))
step_right s body step (changes front t u back was is change) right =
    subst (Each IsEntryRight) (sym is)
    (each_changed IsEntryRight front t u back s.opened was right
    (λ r. changed_right body t u step.effects.sends change r))
step_right s body step (drops front t back was is kind none) right =
    subst (Each IsEntryRight) (sym is) (each_less IsEntryRight front t back s.opened was right)

shell_right : (s : ApiState) (at : BlockId) (x : Signal) → Each IsEntryRight s.opened
    → Each IsEntryRight (shell_row s at x).state.opened
unfolding shell_row
shell_right s block.Api x right = step_right s x.body _ (api_step s x.body) right
shell_right s _ x right = right

module _ (start : Start) where
  pub all_right : (log : List HostStep) → Each IsEntryRight (opened_in (after start 0 log))
  all_right [] = subst (Each IsEntryRight) (sym (opened_first start)) tt
  all_right (e ∷ log) =
      subst (Each IsEntryRight) (sym (opened_next start e log))
      (shell_right (shell_after start log).state e.step.taken.to.block e.step.taken
      (subst (Each IsEntryRight) (ap opened_in (shell_after start log).is) (all_right log)))

  -- what the API has of a transaction it was told to have begun
  pub held_few : (tx : TxId) (log : List HostStep)
      → tally (has_tx tx) (opened_in (after start 0 log)) ≤ steps (is_start tx) log
  held_few tx [] = omega (arith, ap (tally (has_tx tx)) (opened_first start))
  held_few tx (e ∷ log) =
      let s = shell_after start log in
      omega (
        arith,
        held_few tx log,
        (shell_holds tx s.state e.step.taken.to.block e.step.taken s.good).0,
        ap (tally (has_tx tx)) (opened_next start e log),
        ap (λ g. tally (has_tx tx) (opened_in g)) s.is,
      )

-- how a transaction stands of which so many operations and commits were asked for, and so many answered
abbrev pub IsHeld : (operations keys commits answers : ℕ) → Doing → Type 0
IsHeld o k c a (Beginning op) = Unit {0}
IsHeld o k c a Ready = (k ≤ a) × ((c ≡ 0) × (k ≤ o))
IsHeld o k c a Operating = (a + 1 ≤ k) × ((c ≡ 0) × (k ≤ o))
IsHeld o k c a Committing = (1 ≤ c) × (k ≤ a)

-- what the API has of a transaction, after so many operations and commits that it asked for, and so many answers and
-- beginnings that it took: one operation at a time, no more than 64, and none behind a commit
pub record IsAsking (before : Option OpenTransaction) (k c a b : ℕ) : Type 0 where
  pub held : (t : OpenTransaction) → before ≡ Some t → IsHeld t.operations k c a t.doing
  pub few : k ≤ OPERATIONS
  pub ahead : k ≤ a + 1
  pub done : 1 ≤ c → k ≤ a
  pub new : b ≡ 0 → (k ≡ 0) × (c ≡ 0)

no_entry : {A : Type 0} (t : OpenTransaction) → None ≡ Some t → A
no_entry t e = absurd cc

the_entry : (t u : OpenTransaction) → Some t ≡ Some u → t ≡ u
the_entry t u e = cc

-- the same operations and commits, and perhaps one more answer
still_held : (o p k c a more : ℕ) (d e : Doing) → e ≡ d → o ≡ p → more ≤ 1 → (more ≡ 1 → is_operating d ≡ false)
    → IsHeld o k c a d → IsHeld p k c (a + more) e
still_held o p k c a more d e same ops low idle held = subst (IsHeld p k c (a + more)) (sym same) (by d idle held)
  where
    none : (d : Doing) → (more ≡ 1 → is_operating d ≡ false) → is_operating d ≡ true → more ≡ 0
    none d idle on = go more refl
      where
        go : (m : ℕ) → more ≡ m → more ≡ 0
        go zero e = e
        go (suc zero) e = absurd (false≢true (sym (idle e) ∙ on))
        go (suc (suc m)) e = absurd (omega (arith, low, e))

    by : (d : Doing) → (more ≡ 1 → is_operating d ≡ false) → IsHeld o k c a d → IsHeld p k c (a + more) d
    by (Beginning op) i h = tt
    by Ready i h = (omega (arith, h.0), (h.1.0, omega (arith, h.1.1, ops)))
    by Operating i h = (omega (arith, h.0, none Operating i refl), (h.1.0, omega (arith, h.1.1, ops)))
    by Committing i h = (h.0, omega (arith, h.1))

pub entry_next : (tx : TxId) (body : Body) (before after : Option OpenTransaction) (sends : List Outgoing) (k c a b : ℕ)
    → EntryStep tx body before after sends → IsAsking before k c a b → a ≤ k
    → (start_of tx body ≡ true → b ≡ 0) → ((t : OpenTransaction) → before ≡ Some t → 1 ≤ b)
    → IsAsking after (keys_to tx sends + k) (commits_to tx sends + c) (a + one_if (answer_of tx body))
    (one_if (start_of tx body) + b)
entry_next tx body before after sends k c a b (stays same asks idle) q less first there =
    subst
    (λ m. IsAsking after m (commits_to tx sends + c) (a + one_if (answer_of tx body)) (one_if (start_of tx body) + b))
    (omega (arith, asks.keys))
    (subst (λ m. IsAsking after k m (a + one_if (answer_of tx body)) (one_if (start_of tx body) + b))
    (omega (arith, asks.commits)) (record {
      held = λ t at. still_held t.operations t.operations k c a (one_if (answer_of tx body)) t.doing t.doing refl refl
          (one_most (answer_of tx body)) (λ one. idle (on (answer_of tx body) one) t (sym same ∙ at))
          (q.held t (sym same ∙ at));
      few = q.few;
      ahead = omega (arith, q.ahead);
      done = λ some. omega (arith, q.done some);
      new = λ none. q.new (omega (arith, none));
    }))
  where
    on : (b : Bool) → one_if b ≡ 1 → b ≡ true
    on true e = refl
    on false e = absurd (omega (arith, e))
entry_next tx body before after sends k c a b (goes gone asks none) q less first there =
    subst
    (λ m. IsAsking after m (commits_to tx sends + c) (a + one_if (answer_of tx body)) (one_if (start_of tx body) + b))
    (omega (arith, asks.keys))
    (subst (λ m. IsAsking after k m (a + one_if (answer_of tx body)) (one_if (start_of tx body) + b))
    (omega (arith, asks.commits)) (record {
      held = λ t at. no_entry t (sym gone ∙ at);
      few = q.few;
      ahead = omega (arith, q.ahead);
      done = λ some. omega (arith, q.done some);
      new = λ none. q.new (omega (arith, none));
    }))
entry_next tx body before after sends k c a b (starts_ready u starts none now low ready asks) q less first there =
    let zero_k = (q.new (first starts)).0 in
    let zero_c = (q.new (first starts)).1 in
    record {
      held = λ t at.
          subst (λ (x : OpenTransaction). IsHeld x.operations (keys_to tx sends + k) (commits_to tx sends + c)
          (a + one_if (answer_of tx body)) x.doing) (the_entry u t (sym now ∙ at))
          (subst (IsHeld u.operations (keys_to tx sends + k) (commits_to tx sends + c) (a + one_if (answer_of tx body)))
          (sym ready) (
            omega (arith, asks.keys, zero_k),
            (omega (arith, asks.commits, zero_c), omega (arith, asks.keys, zero_k)),
          ));
      few = omega (arith, asks.keys, zero_k);
      ahead = omega (arith, asks.keys, zero_k);
      done = λ some. omega (arith, asks.keys, zero_k);
      new = λ e. absurd (omega (arith, e, ap one_if starts));
    }
entry_next tx body before after sends k c a b (starts_working u starts none now one working asks) q less first there =
    let zero_k = (q.new (first starts)).0 in
    let zero_c = (q.new (first starts)).1 in
    record {
      held = λ t at.
          subst (λ (x : OpenTransaction). IsHeld x.operations (keys_to tx sends + k) (commits_to tx sends + c)
          (a + one_if (answer_of tx body)) x.doing) (the_entry u t (sym now ∙ at))
          (subst (IsHeld u.operations (keys_to tx sends + k) (commits_to tx sends + c) (a + one_if (answer_of tx body)))
          (sym working) (
            omega (arith, asks.keys, zero_k, less, ap one_if none),
            (omega (arith, asks.commits, zero_c), omega (arith, asks.keys, zero_k, one)),
          ));
      few = omega (arith, asks.keys, zero_k);
      ahead = omega (arith, asks.keys, zero_k);
      done = λ some. absurd (omega (arith, asks.commits, zero_c, some));
      new = λ e. absurd (omega (arith, e, ap one_if starts));
    }
entry_next tx body before after sends k c a b (moves t u was now move) q less first there = go move
  where
    held : IsHeld t.operations k c a t.doing
    held = q.held t was

    some_b : 1 ≤ b
    some_b = there t was

    result : IsHeld u.operations (keys_to tx sends + k) (commits_to tx sends + c)
        (a + one_if (answer_of tx body)) u.doing
        → keys_to tx sends + k ≤ OPERATIONS → keys_to tx sends + k ≤ a + one_if (answer_of tx body) + 1
        → (1 ≤ commits_to tx sends + c → keys_to tx sends + k ≤ a + one_if (answer_of tx body))
        → IsAsking after (keys_to tx sends + k) (commits_to tx sends + c) (a + one_if (answer_of tx body))
        (one_if (start_of tx body) + b)
    result h few ahead done = record {
      held = λ v at.
          subst (λ (x : OpenTransaction). IsHeld x.operations (keys_to tx sends + k) (commits_to tx sends + c)
          (a + one_if (answer_of tx body)) x.doing) (the_entry u v (sym now ∙ at)) h;
      few = few;
      ahead = ahead;
      done = done;
      new = λ e. absurd (omega (arith, e, some_b));
    }

    was_held : (d : Doing) → t.doing ≡ d → IsHeld t.operations k c a d
    was_held d is = subst (IsHeld t.operations k c a) is held

    be : (d : Doing) → u.doing ≡ d
        → IsHeld u.operations (keys_to tx sends + k) (commits_to tx sends + c) (a + one_if (answer_of tx body)) d
        → IsHeld u.operations (keys_to tx sends + k) (commits_to tx sends + c) (a + one_if (answer_of tx body)) u.doing
    be d is h =
        subst (IsHeld u.operations (keys_to tx sends + k) (commits_to tx sends + c) (a + one_if (answer_of tx body)))
        (sym is) h

    go : Moves tx body t u sends
        → IsAsking after (keys_to tx sends + k) (commits_to tx sends + c) (a + one_if (answer_of tx body))
        (one_if (start_of tx body) + b)
    go (works_on none ready low ops working asks) =
        let h = was_held Ready ready in
        result (be Operating working (
          omega (arith, asks.keys, less, ap one_if none),
          (omega (arith, asks.commits, h.1.0), omega (arith, asks.keys, ops, h.1.1)),
        ))
        (omega (arith, asks.keys, low, h.1.1)) (omega (arith, asks.keys, h.0))
        (λ some. absurd (omega (arith, asks.commits, h.1.0, some)))
    go (asks_end none ready ops committing asks) =
        let h = was_held Ready ready in
        result (be Committing committing (omega (arith, asks.commits), omega (arith, asks.keys, h.0)))
        (omega (arith, asks.keys, q.few)) (omega (arith, asks.keys, h.0)) (λ some. omega (arith, asks.keys, h.0))
    go (is_answered mine working ops ready asks) =
        let h = was_held Operating working in
        result (be Ready ready (
          omega (arith, asks.keys, q.ahead, ap one_if mine),
          (omega (arith, asks.commits, h.1.0), omega (arith, asks.keys, ops, h.1.1)),
        ))
        (omega (arith, asks.keys, q.few)) (omega (arith, asks.keys, q.ahead))
        (λ some. absurd (omega (arith, asks.commits, h.1.0, some)))
    go (is_answered_last mine working ops committing asks) =
        let h = was_held Operating working in
        result
        (be Committing committing (omega (arith, asks.commits), omega (arith, asks.keys, q.ahead, ap one_if mine)))
        (omega (arith, asks.keys, q.few)) (omega (arith, asks.keys, q.ahead))
        (λ some. omega (arith, asks.keys, q.ahead, ap one_if mine))
    go (is_noted none ops doing asks) =
        result (subst (λ m. IsHeld u.operations m (commits_to tx sends + c) (a + one_if (answer_of tx body)) u.doing)
        (omega (arith, asks.keys))
        (subst (λ m. IsHeld u.operations k m (a + one_if (answer_of tx body)) u.doing) (omega (arith, asks.commits))
        (still_held t.operations u.operations k c a (one_if (answer_of tx body)) t.doing u.doing doing (sym ops)
        (omega (arith, ap one_if none)) (λ one. absurd (omega (arith, one, ap one_if none))) held)))
        (omega (arith, asks.keys, q.few)) (omega (arith, asks.keys, q.ahead))
        (λ some. omega (arith, asks.keys, q.done (omega (arith, some, asks.commits))))
