-- A step of a node, where no commit or abort of the transaction is wished for.
use Rattle.std.proofs.Common.{◌≡◌, ◌⊎◌, ◌<◌, ◌+◌, Bool, true, false, List, [], ◌∷◌, refl, sym, ap, ◌∙◌, subst, inl, inr}
use Rattle.std.proofs.Common.{arith}
use Rattle.std.specs.Prelude.{◌&&◌, if◌then◌else◌, Option, None, Some, not, ◌||◌}
use Rattle.sig_core.proofs.Keys.{same_tx-self}
use Rattle.sig_core.specs.declared.member.TxId.{TxId}
use Rattle.sig_core.specs.declared.outs.Outgoing.{Outgoing}
use Rattle.sig_core.specs.declared.place.Place.{Place}
use Rattle.sig_core.specs.declared.signal.Body.{Body}
use Rattle.sig_core.specs.declared.signal.Body.TheVariants.{Client, Chain}
use Rattle.sig_core.specs.declared.signal.chain.ChainSignal.TheVariants.{Abort, LqhKeyRef}
use Rattle.sig_core.specs.declared.signal.client.ClientSignal.TheVariants.{TcCommitConf, TcCommitReq, TcRollbackRep}
use Rattle.sig_core.specs.declared.signal.client.ClientSignal.TheVariants.{TcRollbackReq}
use Rattle.sig_core.specs.Same.{same_tx}
use Rattle.sig_core.specs.Step.{Step}
use Rattle.tc_block.specs.declared.phase.Phase.TheVariants.{Open}
use Rattle.tc_block.specs.declared.transaction.Transaction.{Transaction}
use Rattle.tc_block.specs.State.{TcState}
use Rattle.tc_block.specs.Tc.{tc_table}
use Rattle.tc_block.specs.Turn.{Turn}
use Rattle.run_theory.specs.Counts.{one_if}
use Rattle.host_laws.proofs.api.Moves.{is_api_kind}
use Rattle.host_laws.proofs.hosts.SendKinds.{are_of, is_dih_kind, is_tc_kind, none_of}
use Rattle.host_laws.proofs.coordinator.Sends.{tc_only}
use Rattle.host_laws.proofs.api.Wishes.{is_tc, sends_of}
use Rattle.host_laws.specs.Live.{of_live}
use Rattle.command_laws.proofs.operations.EarlyTurns.{EarlyTurn, IsLeaving, is_no_end, is_past, is_wish, open_turn}
use Rattle.command_laws.proofs.operations.EarlyTurns.{past_turn}
use Rattle.command_laws.proofs.hosts.HostSends.{IsOfTc, is_other_kind}
use Rattle.command_laws.proofs.ends.FairRows.{is_fair}
use Rattle.command_laws.proofs.hosts.TcPath.{IsSound, TcGoes, aside, begins, is_told, takes, told_of}
use Rattle.host_laws.proofs.coordinator.Steps.{left_of_turn, live_early}
use Rattle.tc_block.proofs.TurnRows.{tx_in, turn_row}
use Rattle.command_laws.specs.Served.{is_refusal}

-- an abort of the transaction, or a refusal for another cause
abbrev pub is_loss : TxId → Place → Body → Bool
is_loss tx to body = not (is_fair tx body)

-- all but the report of its commit, or of its abort for another cause
abbrev pub is_good : TxId → Body → Bool
is_good tx (Client (TcCommitConf other epoch)) = not (same_tx other tx)
is_good tx (Client (TcRollbackRep other cause)) = if is_refusal cause then true else not (same_tx other tx)
is_good tx _ = true

abbrev pub is_bad : TxId → Place → Body → Bool
is_bad tx to body = not (is_good tx body)

-- its commit or abort is wished for
abbrev pub wish_of : TxId → Body → Bool
wish_of tx (Client (TcCommitReq other)) = same_tx other tx
wish_of tx (Client (TcRollbackReq other)) = same_tx other tx
wish_of tx _ = false

abbrev pub is_wish_to : TxId → Place → Body → Bool
is_wish_to tx to body = is_tc to.block && wish_of tx body

-- no operation is refused by it
abbrev pub is_no_ref : Body → Bool
is_no_ref (Chain (LqhKeyRef tx key why)) = false
is_no_ref _ = true

no_ref_tc : (one : TxId) (body : Body) → is_tc_kind one body ≡ true → is_no_ref body ≡ true
no_ref_tc one (Chain (LqhKeyRef tx key why)) e = cc
no_ref_tc one _ e = refl

pub tc_no_ref : (s : TcState) (body : Body) → are_of is_no_ref (tc_table s body).effects.sends ≡ true
tc_no_ref = tc_only is_no_ref no_ref_tc (λ name. refl) (λ name tx. refl)

abbrev pub OpenOption : Option Transaction → Type 0
OpenOption None = Unit {0}
OpenOption (Some t) = t.phase ≡ Open

-- the transaction is open, or isn't there
pub record IsOpenNow (tx : TxId) (s : TcState) : Type 0 where
  pub open_now : OpenOption (of_live tx s.live)

abbrev pub PastOption : Option Transaction → Type 0
PastOption None = Unit {0}
PastOption (Some t) = is_past t.phase ≡ true

-- or it is aborted for want of room or of time, or over
pub record IsPastNow (tx : TxId) (s : TcState) : Type 0 where
  pub past : PastOption (of_live tx s.live)
  pub early : tx.seq < s.next_seq

module _ (tx : TxId) where
  told_fair : (b : Body) → told_of tx b ≡ false → is_no_ref b ≡ true → is_fair tx b ≡ true
  told_fair (Chain (Abort other key)) told ref = ap not told
  told_fair (Chain (LqhKeyRef other key why)) told ref = cc
  told_fair _ told ref = refl

  told_good : (b : Body) → told_of tx b ≡ false → is_good tx b ≡ true
  told_good (Client (TcCommitConf other epoch)) told = ap not told
  told_good (Client (TcRollbackRep other cause)) told = by (is_refusal cause)
    where
      by : (b : Bool) → (if b then true else not (same_tx other tx)) ≡ true
      by true = refl
      by false = ap not told
  told_good _ told = refl

  -- what tells nothing of it is good, and aborts nothing
  none_bad : (xs : List Outgoing) → sends_of (is_told tx) xs ≡ 0 → sends_of (is_bad tx) xs ≡ 0
  none_bad [] none = refl
  none_bad (x ∷ xs) none = by (told_of tx x.body) refl (none_bad xs (omega (arith, none)))
    where
      by : (b : Bool) → told_of tx x.body ≡ b → sends_of (is_bad tx) xs ≡ 0
          → one_if (is_bad tx x.to x.body) + sends_of (is_bad tx) xs ≡ 0
      by true told rest = absurd (omega (arith, none, ap one_if told))
      by false told rest = omega (arith, rest, ap (λ b. one_if (not b)) (told_good x.body told))

  none_loss : (xs : List Outgoing) → sends_of (is_told tx) xs ≡ 0 → are_of is_no_ref xs ≡ true
      → sends_of (is_loss tx) xs ≡ 0
  none_loss [] none refs = refl
  none_loss (x ∷ xs) none refs = by (told_of tx x.body) (is_no_ref x.body) refl refl refs (none_loss xs)
    where
      by : (a b : Bool) → told_of tx x.body ≡ a → is_no_ref x.body ≡ b
          → (if b then are_of is_no_ref xs else false) ≡ true
          → (sends_of (is_told tx) xs ≡ 0 → are_of is_no_ref xs ≡ true → sends_of (is_loss tx) xs ≡ 0)
          → one_if (is_loss tx x.to x.body) + sends_of (is_loss tx) xs ≡ 0
      by true b told ref rest more = absurd (omega (arith, none, ap one_if told))
      by false true told ref rest more =
          omega (arith, more (omega (arith, none)) rest, ap (λ c. one_if (not c)) (told_fair x.body told ref))
      by false false told ref rest more = cc

  good_end : (to : Place) (b : Body) → is_no_end b ≡ true → is_bad tx to b ≡ false
  good_end to (Client (TcCommitConf other epoch)) e = cc
  good_end to (Client (TcRollbackRep other cause)) e = ap (λ b. not (if b then true else not (same_tx other tx))) e
  good_end to _ e = refl

  pub fair_loss : (to : Place) (b : Body) → is_fair tx b ≡ true → is_loss tx to b ≡ false
  fair_loss to b e = ap not e

  pub bad_tc : IsOfTc (is_bad tx)
  bad_tc = record { others = others; begins = λ name node. refl }
    where
      others : (to : Place) (b : Body) → is_other_kind b ≡ true → is_bad tx to b ≡ false
      others to (Client (TcCommitConf other epoch)) e = cc
      others to (Client (TcRollbackRep other cause)) e = cc
      others to _ e = refl

  -- epochs and the API lose none
  pub no_loss : (to : Place) (b : Body) → (is_api_kind b || is_dih_kind b) ≡ true → is_loss tx to b ≡ false
  no_loss to (Chain (Abort other key)) e = cc
  no_loss to (Chain (LqhKeyRef other key why)) e = cc
  no_loss to _ e = refl

  wish_kind : (body : Body) → wish_of tx body ≡ false → tx_in body ≡ tx → is_wish body ≡ false
  wish_kind (Client (TcCommitReq other)) off same =
      absurd (let both : false ≡ true = sym off ∙ (ap (λ v. same_tx v tx) same ∙ same_tx-self tx) in cc)
  wish_kind (Client (TcRollbackReq other)) off same =
      absurd (let both : false ≡ true = sym off ∙ (ap (λ v. same_tx v tx) same ∙ same_tx-self tx) in cc)
  wish_kind _ off same = refl

  -- nothing bad is sent, and the coordinator is past it
  pub record GoesPast (Home : Type 0) (s : TcState) (sends : List Outgoing) : Type 0 where
    pub good : sends_of (is_bad tx) sends ≡ 0
    pub past : Home → IsPastNow tx s

  -- nothing bad is sent, and nothing is aborted, and it is open
  pub record StaysClean (Home : Type 0) (s : TcState) (sends : List Outgoing) : Type 0 where
    pub good : sends_of (is_bad tx) sends ≡ 0
    pub fair : sends_of (is_loss tx) sends ≡ 0
    pub is_open : Home → IsOpenNow tx s

  -- or it leaves that state, at its coordinator
  pub record Leaves (Home : Type 0) (s : TcState) (sends : List Outgoing) : Type 0 where
    pub good : sends_of (is_bad tx) sends ≡ 0
    pub home : Home
    pub past : IsPastNow tx s

  module _ (s : TcState) (body : Body) (sound : IsSound tx s) (wish : wish_of tx body ≡ false) (step : Step TcState)
      (refs : are_of is_no_ref step.effects.sends ≡ true)
      (Home : Type 0) (home_of : (t : Transaction) → of_live tx s.live ≡ Some t → Home) where
    left_past : (turn : Turn) → (turn.over ≡ false → is_past turn.step.state.phase ≡ true)
        → PastOption (left_of_turn turn)
    left_past turn past = by turn.over refl
      where
        by : (b : Bool) → turn.over ≡ b → PastOption (if b then None else Some turn.step.state)
        by true over = tt
        by false over = past over

    pub clean_goes : is_fair tx body ≡ true → (Home → IsOpenNow tx s) → TcGoes tx s body step
        → StaysClean Home step.state step.effects.sends ⊎ Leaves Home step.state step.effects.sends
    clean_goes fair was (aside same none more absent) =
        inl (record {
          good = none_bad step.effects.sends none;
          fair = none_loss step.effects.sends none refs;
          is_open = λ at. record { open_now = subst OpenOption (sym same) (was at).open_now };
        })
    clean_goes fair was (begins number now none more) =
        inl (record {
          good = none_bad step.effects.sends none;
          fair = none_loss step.effects.sends none refs;
          is_open = λ at. record { open_now = subst OpenOption (sym now) refl };
        })
    clean_goes fair was (takes t same live sends left more) = own (cases_home)
      where
        cases_home : EarlyTurn tx t (turn_row s body t)
        cases_home = open_turn s tx body t (wish_kind body wish same) same fair
            (subst OpenOption live (was (home_of t live)).open_now)

        own : EarlyTurn tx t (turn_row s body t)
            → StaysClean Home step.state step.effects.sends ⊎ Leaves Home step.state step.effects.sends
        own (inl q) = inl (record {
          good = ap (sends_of (is_bad tx)) sends
              ∙ none_of is_no_end (is_bad tx) good_end (turn_row s body t).step.effects.sends q.ends;
          fair = ap (sends_of (is_loss tx)) sends
              ∙ none_of (is_fair tx) (is_loss tx) fair_loss (turn_row s body t).step.effects.sends q.fair;
          is_open = λ at. record {
            open_now =
                subst OpenOption (sym
                (left ∙ ap (λ b. if b then None else Some (turn_row s body t).step.state) q.goes)) q.now;
          };
        })
        own (inr q) = inr (record {
          good = ap (sends_of (is_bad tx)) sends
              ∙ none_of is_no_end (is_bad tx) good_end (turn_row s body t).step.effects.sends q.ends;
          home = home_of t live;
          past = record {
            past = subst PastOption (sym left) (left_past (turn_row s body t) q.past);
            early =
                omega (arith, live_early tx s t live sound.own, more);
          };
        })

    pub past_goes : (Home → IsPastNow tx s) → TcGoes tx s body step → GoesPast Home step.state step.effects.sends
    past_goes was (aside same none more absent) = record {
      good = none_bad step.effects.sends none;
      past = λ at. let p =
          was at in record { past = subst PastOption (sym same) p.past; early = omega (arith, p.early, more) };
    }
    past_goes was (begins number now none more) = record {
      good = none_bad step.effects.sends none;
      past = λ at. let p = was at in absurd (omega (arith, p.early, number));
    }
    past_goes was (takes t same live sends left more) = record {
      good = ap (sends_of (is_bad tx)) sends
          ∙ none_of is_no_end (is_bad tx) good_end (turn_row s body t).step.effects.sends q.ends;
      past = λ at. record {
        past = subst PastOption (sym left) (left_past (turn_row s body t) q.past);
        early =
            omega (arith, live_early tx s t live sound.own, more);
      };
    }
      where
        q : IsLeaving (turn_row s body t)
        q = past_turn s tx body t (wish_kind body wish same) same (subst PastOption live (was (home_of t live)).past)
