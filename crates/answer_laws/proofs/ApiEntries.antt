-- What a step of the API does to one transaction, and which operations and commits it asks for then.
use Rattle.std.proofs.Common.{◌≡◌, ◌⊎◌, ℕ, ◌+◌, ◌≤◌, ◌<◌, List, [], ◌∷◌, ◌++◌, Bool, true, false, refl, ap, sym, ◌∙◌}
use Rattle.std.proofs.Common.{subst, arith, inl, inr}
use Rattle.std.specs.Prelude.{◌==◌, ◌&&◌, nat_lt, is_some, if◌then◌else◌, Option, None, Some}
use Rattle.std.proofs.lemmas.Bool.{false≢true}
use Rattle.std.proofs.lemmas.Bool.Decides.{nat_tests}
use Rattle.run_theory.specs.Lists.{Each, IsIn}
use Rattle.sig_core.specs.declared.member.TxId.{TxId}
use Rattle.sig_core.specs.declared.op.Answer.{Answer}
use Rattle.sig_core.specs.declared.op.Op.{Op}
use Rattle.sig_core.specs.declared.outs.Outgoing.{Outgoing}
use Rattle.sig_core.specs.declared.place.BlockId.{BlockId}
use Rattle.sig_core.specs.declared.place.BlockId.TheVariants as block
use Rattle.sig_core.specs.declared.place.Place.{Place}
use Rattle.sig_core.specs.declared.signal.Body.{Body}
use Rattle.sig_core.specs.declared.signal.Signal.{Signal}
use Rattle.sig_core.specs.declared.signal.Body.TheVariants.{Client}
use Rattle.sig_core.specs.declared.signal.client.ClientSignal.TheVariants.{TcBeginConf, TcKeyReq, TcKeyConf}
use Rattle.sig_core.specs.declared.signal.client.ClientSignal.TheVariants.{TcCommitReq}
use Rattle.sig_core.specs.Place.{coordinator_of}
use Rattle.sig_core.specs.Same.{same_tx}
use Rattle.sig_core.specs.Step.{Step, to_place}
use Rattle.api_block.specs.declared.operate.TheConstants.{OPERATIONS}
use Rattle.api_block.specs.declared.opened.Doing.TheVariants.{Ready, Operating, Committing}
use Rattle.api_block.specs.declared.opened.OpenTransaction.{OpenTransaction}
use Rattle.api_block.specs.Opened.{asked_for, has_tx, is_beginning, is_tx}
use Rattle.api_block.specs.Api.{api_table}
use Rattle.api_block.specs.State.{ApiState}
use Rattle.node_core.specs.Row.{shell_row}
use Rattle.host_laws.proofs.api.Begins.{AreGood, IsGood, each_at}
use Rattle.answer_laws.proofs.ApiSteps.{ApiStep, Changes, IsUnheard, Unheard, absent, answered_last, answered_ready}
use Rattle.answer_laws.proofs.ApiSteps.{api_step, begins_ready, begins_working, changes, commits, drops, idle, is_calm}
use Rattle.answer_laws.proofs.ApiSteps.{notes, opens, rests, works}
use Rattle.host_laws.proofs.hosts.SendKinds.{are_of, none_of}
use Rattle.run_theory.proofs.Tally.{none_if, tally_append, tally_between, tally_in}
use Rattle.run_theory.specs.Counts.{one_if, tally}
use Rattle.host_laws.proofs.coordinator.Keys.{answer_of, is_key, key_of_tx}
use Rattle.host_laws.proofs.coordinator.Lives.{start_of}
use Rattle.host_laws.proofs.coordinator.Moves.{same_tx-is}
use Rattle.host_laws.proofs.coordinator.Sends.{eqb-self}
use Rattle.host_laws.proofs.api.Wishes.{and_false, is_tc, second_fails, sends_of, to_node}
use Rattle.answer_laws.specs.Answered.{is_operating}

-- the commit of the transaction is asked for
abbrev pub is_commit_req : TxId → Place → Body → Bool
is_commit_req tx to (Client (TcCommitReq other)) = is_tc to.block && same_tx other tx
is_commit_req tx to _ = false

-- the transaction among those of the API
abbrev pub of_opened : TxId → List OpenTransaction → Option OpenTransaction
of_opened tx [] = None
of_opened tx (t ∷ opened) = if has_tx tx t then Some t else of_opened tx opened

opened_none : (tx : TxId) (opened : List OpenTransaction) → tally (has_tx tx) opened ≡ 0 → of_opened tx opened ≡ None
opened_none tx [] none = refl
opened_none tx (t ∷ opened) none = go (has_tx tx t) refl (opened_none tx opened)
  where
    go : (b : Bool) → has_tx tx t ≡ b → (tally (has_tx tx) opened ≡ 0 → of_opened tx opened ≡ None)
        → (if b then Some t else of_opened tx opened) ≡ None
    go true is rest = absurd (omega (arith, none, ap one_if is))
    go false is rest = rest (omega (arith, none, ap one_if is))

opened_between : (tx : TxId) (front : List OpenTransaction) (t : OpenTransaction) (back : List OpenTransaction)
    → has_tx tx t ≡ false → of_opened tx (front ++ t ∷ back) ≡ of_opened tx (front ++ back)
opened_between tx [] t back off = ap (λ b. if b then Some t else of_opened tx back) off
opened_between tx (x ∷ front) t back off =
    ap (λ o. if has_tx tx x then Some x else o) (opened_between tx front t back off)

opened_here : (tx : TxId) (front : List OpenTransaction) (t : OpenTransaction) (back : List OpenTransaction)
    → has_tx tx t ≡ true → tally (has_tx tx) front ≡ 0 → of_opened tx (front ++ t ∷ back) ≡ Some t
opened_here tx [] t back on none = ap (λ b. if b then Some t else of_opened tx back) on
opened_here tx (x ∷ front) t back on none = go (has_tx tx x) refl (opened_here tx front t back on)
  where
    go : (b : Bool) → has_tx tx x ≡ b → (tally (has_tx tx) front ≡ 0 → of_opened tx (front ++ t ∷ back) ≡ Some t)
        → (if b then Some x else of_opened tx (front ++ t ∷ back)) ≡ Some t
    go true is rest = absurd (omega (arith, none, ap one_if is))
    go false is rest = rest (omega (arith, none, ap one_if is))

-- one that is there, where no two are
pub opened_at : (tx : TxId) (t : OpenTransaction) (opened : List OpenTransaction) → tally (has_tx tx) opened ≤ 1
    → IsIn t opened → has_tx tx t ≡ true → of_opened tx opened ≡ Some t
opened_at tx t [] once i on = absurd i
opened_at tx t (x ∷ opened) once (inl same) on =
    ap (λ b. if b then Some x else of_opened tx opened) (ap (has_tx tx) (sym same) ∙ on)
    ∙ ap (λ (y : OpenTransaction). Some y) (sym same)
opened_at tx t (x ∷ opened) once (inr i) on = go (has_tx tx x) refl (opened_at tx t opened)
  where
    go : (b : Bool) → has_tx tx x ≡ b
        → (tally (has_tx tx) opened ≤ 1 → IsIn t opened → has_tx tx t ≡ true → of_opened tx opened ≡ Some t)
        → (if b then Some x else of_opened tx opened) ≡ Some t
    go true is rest = absurd (omega (arith, once, ap one_if is, tally_in (has_tx tx) t opened i on))
    go false is rest = rest (omega (arith, once, ap one_if is)) i on

opened_append : (tx : TxId) (opened : List OpenTransaction) (t : OpenTransaction) → has_tx tx t ≡ false
    → of_opened tx (opened ++ t ∷ []) ≡ of_opened tx opened
opened_append tx [] t off = ap (λ b. if b then Some t else None) off
opened_append tx (x ∷ opened) t off = ap (λ o. if has_tx tx x then Some x else o) (opened_append tx opened t off)

-- how many operations, and commits, of the transaction a step asks its coordinator for
abbrev pub keys_to : TxId → List Outgoing → ℕ
keys_to tx sends = sends_of (to_node tx.tc (is_key tx)) sends

abbrev pub commits_to : TxId → List Outgoing → ℕ
commits_to tx sends = sends_of (to_node tx.tc (is_commit_req tx)) sends

calm_keys : (tx : TxId) (sends : List Outgoing) → are_of is_calm sends ≡ true → keys_to tx sends ≡ 0
calm_keys tx sends kind =
    none_of is_calm (to_node tx.tc (is_key tx)) (λ to b k. and_false (to.node == tx.tc) (is_tc to.block) (fails b k))
    sends kind
  where
    fails : (b : Body) → is_calm b ≡ true → key_of_tx tx b ≡ false
    fails (Client (TcKeyReq other op)) e = absurd (false≢true e)
    fails _ e = refl

calm_commits : (tx : TxId) (sends : List Outgoing) → are_of is_calm sends ≡ true → commits_to tx sends ≡ 0
calm_commits tx sends kind =
    none_of is_calm (to_node tx.tc (is_commit_req tx)) (λ to b k. second_fails (to.node == tx.tc) (fails to b k)) sends
    kind
  where
    fails : (to : Place) (b : Body) → is_calm b ≡ true → is_commit_req tx to b ≡ false
    fails to (Client (TcCommitReq other)) e = absurd (false≢true e)
    fails to _ e = refl

-- one operation or commit that is asked for
pub record Asks (tx : TxId) (sends : List Outgoing) (k c : ℕ) : Type 0 where
  pub keys : keys_to tx sends ≡ k
  pub commits : commits_to tx sends ≡ c

asks_none : (tx : TxId) (sends : List Outgoing) → are_of is_calm sends ≡ true → Asks tx sends 0 0
asks_none tx sends kind = record { keys = calm_keys tx sends kind; commits = calm_commits tx sends kind }

asks_key : (tx one : TxId) (op : Op) (sends : List Outgoing)
    → sends ≡ to_place (coordinator_of one) (Client (TcKeyReq one op)) ∷ [] → Asks tx sends (one_if (same_tx one tx)) 0
asks_key tx one op sends is = record {
  keys = by (same_tx one tx) refl;
  commits = ap (commits_to tx) is ∙ none_if (one.tc == tx.tc);
}
  where
    by : (b : Bool) → same_tx one tx ≡ b → keys_to tx sends ≡ one_if (same_tx one tx)
    by true e = omega (
      arith,
      ap (keys_to tx) is,
      ap one_if (ap (λ b. b && (true && same_tx one tx))
          (ap (λ (t : TxId). t.tc == tx.tc) (same_tx-is one tx e) ∙ eqb-self tx.tc)),
    )
    by false e = omega (
      arith,
      ap (keys_to tx) is,
      ap (λ b. one_if ((one.tc == tx.tc) && (true && b))) e,
      none_if (one.tc == tx.tc),
      ap one_if e,
    )

asks_commit : (tx one : TxId) (sends : List Outgoing)
    → sends ≡ to_place (coordinator_of one) (Client (TcCommitReq one)) ∷ [] → Asks tx sends 0 (one_if (same_tx one tx))
asks_commit tx one sends is = record {
  keys = ap (keys_to tx) is ∙ none_if (one.tc == tx.tc);
  commits = by (same_tx one tx) refl;
}
  where
    by : (b : Bool) → same_tx one tx ≡ b → commits_to tx sends ≡ one_if (same_tx one tx)
    by true e = omega (
      arith,
      ap (commits_to tx) is,
      ap one_if (ap (λ b. b && (true && same_tx one tx))
          (ap (λ (t : TxId). t.tc == tx.tc) (same_tx-is one tx e) ∙ eqb-self tx.tc)),
    )
    by false e = omega (
      arith,
      ap (commits_to tx) is,
      ap (λ b. one_if ((one.tc == tx.tc) && (true && b))) e,
      none_if (one.tc == tx.tc),
      ap one_if e,
    )

-- how the transaction goes on: what it does before and after, how many operations it has been asked for, and what is
-- asked for
pub data Moves (tx : TxId) (body : Body) (t u : OpenTransaction) (sends : List Outgoing) : Type 0 where
  works_on : answer_of tx body ≡ false → t.doing ≡ Ready → t.operations < OPERATIONS → u.operations ≡ t.operations + 1
      → u.doing ≡ Operating → Asks tx sends 1 0 → Moves tx body t u sends
  asks_end : answer_of tx body ≡ false → t.doing ≡ Ready → u.operations ≡ t.operations → u.doing ≡ Committing
      → Asks tx sends 0 1 → Moves tx body t u sends
  is_answered : answer_of tx body ≡ true → t.doing ≡ Operating → u.operations ≡ t.operations → u.doing ≡ Ready
      → Asks tx sends 0 0 → Moves tx body t u sends
  is_answered_last : answer_of tx body ≡ true → t.doing ≡ Operating → u.operations ≡ t.operations → u.doing ≡ Committing
      → Asks tx sends 0 1 → Moves tx body t u sends
  is_noted : answer_of tx body ≡ false → u.operations ≡ t.operations → u.doing ≡ t.doing → Asks tx sends 0 0
      → Moves tx body t u sends

-- A step of the API, as far as one transaction goes.
pub data EntryStep (tx : TxId) (body : Body) (before after : Option OpenTransaction)
    (sends : List Outgoing) : Type 0 where
  stays : after ≡ before → Asks tx sends 0 0
      → (answer_of tx body ≡ true → (t : OpenTransaction) → before ≡ Some t → is_operating t.doing ≡ false)
      → EntryStep tx body before after sends
  starts_ready : (u : OpenTransaction) → start_of tx body ≡ true → answer_of tx body ≡ false → after ≡ Some u
      → u.operations ≤ OPERATIONS → u.doing ≡ Ready → Asks tx sends 0 0 → EntryStep tx body before after sends
  starts_working : (u : OpenTransaction) → start_of tx body ≡ true → answer_of tx body ≡ false → after ≡ Some u
      → u.operations ≡ 1 → u.doing ≡ Operating → Asks tx sends 1 0 → EntryStep tx body before after sends
  moves : (t u : OpenTransaction) → before ≡ Some t → after ≡ Some u → Moves tx body t u sends
      → EntryStep tx body before after sends
  goes : after ≡ None → Asks tx sends 0 0 → answer_of tx body ≡ false → EntryStep tx body before after sends

-- what is so of each entry
pub record IsEntryRight (t : OpenTransaction) : Type 0 where
  pub few : t.operations ≤ OPERATIONS
  pub begun : is_beginning t.doing ≡ false → is_some t.tx ≡ true

module _ (tx : TxId) (s : ApiState) (body : Body) (good : AreGood s.view s.opened) (right : Each IsEntryRight s.opened)
    (once : tally (has_tx tx) s.opened ≤ 1) (new : start_of tx body ≡ true → tally (has_tx tx) s.opened ≡ 0) where
  entry_of : (step : Step ApiState) → ApiStep s body step
      → EntryStep tx body (of_opened tx s.opened) (of_opened tx step.state.opened) step.effects.sends
  entry_of step (rests is kind unheard) =
      stays (ap (of_opened tx) is) (asks_none tx step.effects.sends kind) (λ e t there. heard body unheard e t there)
    where
      heard : (b : Body) → IsUnheard s.opened b → answer_of tx b ≡ true → (t : OpenTransaction)
          → of_opened tx s.opened ≡ Some t → is_operating t.doing ≡ false
      heard (Client (TcKeyConf one answer)) un e t there = by un
        where
          same : one ≡ tx
          same = same_tx-is one tx e

          by : Unheard s.opened one → is_operating t.doing ≡ false
          by (absent none) =
              absurd
              (no_some (sym (opened_none tx s.opened (subst (λ x. tally (has_tx x) s.opened ≡ 0) same none)) ∙ there))
            where
              no_some : None ≡ Some t → ⊥
              no_some q = cc
          by (idle front v back is on off) =
              let on_tx : has_tx tx v ≡ true = subst (λ x. has_tx x v ≡ true) same on in
              let here : of_opened tx s.opened ≡ Some v = ap (of_opened tx) is ∙ opened_here tx front v back on_tx
              (omega (
                arith,
                once,
                tally_between (has_tx tx) front v back s.opened is,
                tally_append (has_tx tx) front back,
                ap one_if on_tx,
              )) in
              let alike : v ≡ t = the_one v (sym here ∙ there) in
              ap (λ (y : OpenTransaction). is_operating y.doing) (sym alike) ∙ off
            where
              the_one : (v : OpenTransaction) → Some v ≡ Some t → v ≡ t
              the_one v q = cc
      heard _ un e t there = cc
  entry_of step (opens name node op is kind none) =
      stays (ap (of_opened tx) is ∙ opened_append tx s.opened (asked_for name node op) refl)
      (asks_none tx step.effects.sends kind) (λ e. absurd (false≢true (sym (none tx) ∙ e)))
  entry_of step (drops front t back was is kind none) = by (has_tx tx t) refl
    where
      by : (b : Bool) → has_tx tx t ≡ b
          → EntryStep tx body (of_opened tx s.opened) (of_opened tx step.state.opened) step.effects.sends
      by true on =
          goes (ap (of_opened tx) is ∙ opened_none tx (front ++ back)
          (omega (arith, once, tally_between (has_tx tx) front t back s.opened was, ap one_if on)))
          (asks_none tx step.effects.sends kind) (none tx)
      by false off =
          stays (ap (of_opened tx) is ∙ sym (ap (of_opened tx) was ∙ opened_between tx front t back off))
          (asks_none tx step.effects.sends kind) (λ e. absurd (false≢true (sym (none tx) ∙ e)))
  entry_of step (changes front t u back was is change) = by (has_tx tx t) refl
    where
      sends : List Outgoing
      sends = step.effects.sends

      front_none : has_tx tx t ≡ true → tally (has_tx tx) front ≡ 0
      front_none on = omega (
        arith,
        once,
        tally_between (has_tx tx) front t back s.opened was,
        tally_append (has_tx tx) front back,
        ap one_if on,
      )

      before_is : has_tx tx t ≡ true → of_opened tx s.opened ≡ Some t
      before_is on = ap (of_opened tx) was ∙ opened_here tx front t back on (front_none on)

      beginning_none : is_beginning t.doing ≡ true → has_tx tx t ≡ false
      beginning_none b = ap (is_tx tx) ((each_at (λ x. IsGood s.view x) front t back s.opened was good.each).fresh b)

      -- of another transaction
      other : u.tx ≡ t.tx → has_tx tx t ≡ false → Asks tx sends 0 0 → answer_of tx body ≡ false
          → EntryStep tx body (of_opened tx s.opened) (of_opened tx step.state.opened) sends
      other same off asks none =
          stays (ap (of_opened tx) is
          ∙ (opened_between tx front u back (ap (is_tx tx) same ∙ off)
          ∙ sym (ap (of_opened tx) was ∙ opened_between tx front t back off))) asks
          (λ e. absurd (false≢true (sym none ∙ e)))

      -- of this one
      this : u.tx ≡ t.tx → (on : has_tx tx t ≡ true) → Moves tx body t u sends
          → EntryStep tx body (of_opened tx s.opened) (of_opened tx step.state.opened) sends
      this same on moved =
          moves t u (before_is on)
          (ap (of_opened tx) is ∙ opened_here tx front u back (ap (is_tx tx) same ∙ on) (front_none on)) moved

      one_is : (one : TxId) → t.tx ≡ Some one → (b : Bool) → has_tx tx t ≡ b → same_tx one tx ≡ b
      one_is one is b on = ap (is_tx tx) (sym is) ∙ on

      lower : nat_lt t.operations OPERATIONS ≡ true → t.operations < OPERATIONS
      lower q = grind (arith, nat_tests, q)

      asks_as : (b : Bool) (one : TxId) → same_tx one tx ≡ b → (k c : ℕ) → Asks tx sends k c
          → (k ≡ one_if (same_tx one tx)) → Asks tx sends (one_if b) c
      asks_as b one e k c asks k_is = record { keys = asks.keys ∙ (k_is ∙ ap one_if e); commits = asks.commits }

      commits_as : (b : Bool) (one : TxId) → same_tx one tx ≡ b → Asks tx sends 0 (one_if (same_tx one tx))
          → Asks tx sends 0 (one_if b)
      commits_as b one e asks = record { keys = asks.keys; commits = asks.commits ∙ ap one_if e }

      begun_one : (name : Option ℕ) (one : TxId) → body ≡ Client (TcBeginConf name one) → (b : Bool)
          → same_tx one tx ≡ b → (start_of tx body ≡ b) × (answer_of tx body ≡ false)
      begun_one name one about b e = (ap (start_of tx) about ∙ e, ap (answer_of tx) about)

      -- an operation's answer is for who asked
      answers_same : (one : TxId) (answer : Answer) → body ≡ Client (TcKeyConf one answer) → has_tx one t ≡ true
          → (b : Bool) → has_tx tx t ≡ b → answer_of tx body ≡ b
      answers_same one answer about on b is = ap (answer_of tx) about ∙ go t.tx refl
        where
          go : (o : Option TxId) → t.tx ≡ o → same_tx one tx ≡ b
          go None q = absurd (false≢true (ap (is_tx one) (sym q) ∙ on))
          go (Some two) q =
              let same : two ≡ one = same_tx-is two one (ap (is_tx one) (sym q) ∙ on) in
              ap (λ x. same_tx x tx) (sym same) ∙ (ap (is_tx tx) (sym q) ∙ is)

      starts : (one : TxId) (name : Option ℕ) → u.tx ≡ Some one → body ≡ Client (TcBeginConf name one)
          → is_beginning t.doing ≡ true → (b : Bool) → same_tx one tx ≡ b
          → Asks tx sends 0 0 ⊎ Asks tx sends (one_if (same_tx one tx)) 0
          → ((start_of tx body ≡ true) → (answer_of tx body ≡ false) → of_opened tx step.state.opened ≡ Some u
          → EntryStep tx body (of_opened tx s.opened) (of_opened tx step.state.opened) sends)
          → EntryStep tx body (of_opened tx s.opened) (of_opened tx step.state.opened) sends
      starts one name u_is about b true e asks begun =
          let st = begun_one name one about true e in
          let none : tally (has_tx tx) front ≡ 0 = omega (
            arith,
            new st.0,
            tally_between (has_tx tx) front t back s.opened was,
            tally_append (has_tx tx) front back,
          ) in
          begun st.0 st.1 (ap (of_opened tx) is ∙ opened_here tx front u back (ap (is_tx tx) u_is ∙ e) none)
      starts one name u_is about b false e asks begun =
          let st = begun_one name one about false e in
          stays (ap (of_opened tx) is
          ∙ (opened_between tx front u back (ap (is_tx tx) u_is ∙ e)
          ∙ sym (ap (of_opened tx) was ∙ opened_between tx front t back (beginning_none b)))) (calm asks)
          (λ q. absurd (false≢true (sym st.1 ∙ q)))
        where
          calm : Asks tx sends 0 0 ⊎ Asks tx sends (one_if (same_tx one tx)) 0 → Asks tx sends 0 0
          calm (inl a) = a
          calm (inr a) = record { keys = a.keys ∙ ap one_if e; commits = a.commits }

      by : (b : Bool) → has_tx tx t ≡ b
          → EntryStep tx body (of_opened tx s.opened) (of_opened tx step.state.opened) sends
      by b on = go b on change
        where
          go : (b : Bool) → has_tx tx t ≡ b → Changes body t u sends
              → EntryStep tx body (of_opened tx s.opened) (of_opened tx step.state.opened) sends
          go b on (begins_ready name one about beginning u_is ops doing kind) =
              starts one name u_is about beginning (same_tx one tx) refl (inl (asks_none tx sends kind))
              (λ st none there. starts_ready u st none there
              (omega (arith, ops, (each_at IsEntryRight front t back s.opened was right).few)) doing
              (asks_none tx sends kind))
          go b on (begins_working name one op about beginning u_is ops doing sent) =
              starts one name u_is about beginning (same_tx one tx) refl (inr (asks_key tx one op sends sent))
              (λ st none there. starts_working u st none there ops doing
              (asks_as true one (sym (ap (start_of tx) about) ∙ st) _ 0 (asks_key tx one op sends sent) refl))
          go true on (works one op none t_is ready low u_is ops doing sent) =
              this u_is on (works_on (none tx) ready (lower low) ops doing
              (asks_as true one (one_is one t_is true on) _ 0 (asks_key tx one op sends sent) refl))
          go false off (works one op none t_is ready low u_is ops doing sent) =
              other u_is off (asks_as false one (one_is one t_is false off) _ 0 (asks_key tx one op sends sent) refl)
              (none tx)
          go true on (commits one none t_is ready u_is ops doing sent) =
              this u_is on (asks_end (none tx) ready ops doing
              (commits_as true one (one_is one t_is true on) (asks_commit tx one sends sent)))
          go false off (commits one none t_is ready u_is ops doing sent) =
              other u_is off (commits_as false one (one_is one t_is false off) (asks_commit tx one sends sent))
              (none tx)
          go true on (answered_ready one answer about t_is working u_is ops doing kind) =
              this u_is on
              (is_answered (answers_same one answer about t_is true on) working ops doing (asks_none tx sends kind))
          go false off (answered_ready one answer about t_is working u_is ops doing kind) =
              other u_is off (asks_none tx sends kind) (answers_same one answer about t_is false off)
          go true on (answered_last one answer about t_is working u_is ops doing sent) =
              let yes = answers_same one answer about t_is true on in
              this u_is on (is_answered_last yes working ops doing
              (commits_as true one (sym (ap (answer_of tx) about) ∙ yes) (asks_commit tx one sends sent)))
          go false off (answered_last one answer about t_is working u_is ops doing sent) =
              let not_this = answers_same one answer about t_is false off in
              other u_is off
              (commits_as false one (sym (ap (answer_of tx) about) ∙ not_this) (asks_commit tx one sends sent)) not_this
          go true on (notes none u_is ops doing kind) =
              this u_is on (is_noted (none tx) ops doing (asks_none tx sends kind))
          go false off (notes none u_is ops doing kind) = other u_is off (asks_none tx sends kind) (none tx)

  pub shell_entry : (at : BlockId) (x : Signal) → at ≡ block.Api → x.body ≡ body
      → EntryStep tx body (of_opened tx s.opened) (of_opened tx (shell_row s at x).state.opened)
      (shell_row s at x).effects.sends
  unfolding shell_row
  shell_entry at x is about =
      subst (λ (a : BlockId). EntryStep tx body (of_opened tx s.opened) (of_opened tx (shell_row s a x).state.opened)
      (shell_row s a x).effects.sends) (sym is)
      (entry_of (api_table s x.body) (subst (λ b. ApiStep s b (api_table s x.body)) about (api_step s x.body)))
