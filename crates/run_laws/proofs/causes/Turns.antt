-- What each row of a coordinator does to a transaction as to its epoch: it asks for one when it is open, and waits
-- until it has
-- one or is given up.
use Rattle.std.proofs.Common.{◌≡◌, ◌⊎◌, ℕ, Bool, true, false, List, [], ◌∷◌, refl, sym, ap, ◌∙◌, subst, inl, inr, arith}
use Rattle.std.specs.Prelude.{None, Some}
use Rattle.std.proofs.lemmas.Bool.{and_parts}
use Rattle.run_theory.specs.Lists.{Each}
use Rattle.run_theory.proofs.Pasts.{each_map}
use Rattle.sig_core.specs.declared.member.TxId.{TxId}
use Rattle.sig_core.specs.declared.outs.Outgoing.{Outgoing}
use Rattle.sig_core.specs.declared.place.Place.{Place}
use Rattle.sig_core.specs.declared.signal.Body.{Body}
use Rattle.sig_core.specs.declared.signal.Body.TheVariants.{Epoch}
use Rattle.sig_core.specs.declared.signal.epoch.EpochSignal.TheVariants.{DiVerifyReq, DiVerifyConf}
use Rattle.frag_map.specs.Layout.{Layout}
use Rattle.sig_core.specs.Place.{epochs}
use Rattle.sig_core.specs.Same.{same_tx}
use Rattle.sig_core.specs.Step.{to_place}
use Rattle.tc_block.specs.Abort as abort
use Rattle.tc_block.specs.Operate as operate
use Rattle.tc_block.specs.declared.phase.Asked.{Asked}
use Rattle.tc_block.specs.declared.phase.Phase.{Phase}
use Rattle.tc_block.specs.declared.phase.Phase.TheVariants.{Open, Verifying}
use Rattle.tc_block.specs.declared.transaction.Transaction.{Transaction}
use Rattle.tc_block.specs.Turn.{Turn, at_phase}
use Rattle.host_laws.specs.Kinds.{kind_of}
use Rattle.sig_core.proofs.Keys.{same_tx-self}
use Rattle.tc_block.specs.State.{TcState}
use Rattle.tc_block.proofs.EachTurn.{CommittedForms, ready_is, rows_of, TurnForms}
use Rattle.tc_block.proofs.LiveKeeps.{SendsBeside}
use Rattle.run_theory.specs.Counts.{one_if}
use Rattle.host_laws.proofs.coordinator.Goes.{AllSay, SaysOf, turn_goes}
use Rattle.run_laws.specs.Keyed.{HasTouchedAsked}
use Rattle.run_laws.proofs.ways.Aborts.{enters_told}
use Rattle.run_laws.proofs.tokens.Turns.{end_gives_up, gives_up}
use Rattle.tc_block.proofs.TurnRows.{turn_for}
use Rattle.host_laws.proofs.coordinator.Steps.{left_of_turn}
use Rattle.run_laws.proofs.hosts.TxTurns.{OthersSend, is_for, turn_each}
use Rattle.run_laws.proofs.transit.Weighing.{in_sends}

-- the signal asks for an epoch for the transaction, or gives it one
abbrev pub is_ask : TxId → Body → Bool
is_ask tx (Epoch (DiVerifyReq other ops)) = same_tx other tx
is_ask tx (Epoch (DiVerifyConf other epoch)) = same_tx other tx
is_ask tx body = false

-- it gives it one
abbrev pub is_conf : TxId → Body → Bool
is_conf tx (Epoch (DiVerifyConf other epoch)) = same_tx other tx
is_conf tx body = false

-- of no transaction
abbrev pub is_mute : Body → Bool
is_mute (Epoch (DiVerifyReq other ops)) = false
is_mute (Epoch (DiVerifyConf other epoch)) = false
is_mute body = true

abbrev pub AreMute : List Outgoing → Type 0
AreMute sends = Each (λ (o : Outgoing). is_mute o.body ≡ true) sends

-- one signal asks for an epoch, with the operations of a transaction that was open, and waits for it then
pub record IsAsking (tx : TxId) (t : Transaction) (turn : Turn) : Type 0 where
  pub node : ℕ
  pub was : t.phase ≡ Open
  pub free : t.asked ≡ None
  pub left : left_of_turn turn ≡ Some (at_phase t Verifying)
  pub is : turn.step.effects.sends ≡ to_place (epochs node) (Epoch (DiVerifyReq tx t.ops)) ∷ []

-- what becomes of one that waits for its epoch: it waits on, was given the epoch, or is given up
abbrev pub IsLate : TxId → Body → Transaction → Turn → Type 0
IsLate tx body t turn = (left_of_turn turn ≡ Some t)
    ⊎ ((is_conf tx body ≡ true) ⊎ (gives_up tx turn.step.effects.sends ≡ true))

pub record AskTurn (tx : TxId) (body : Body) (t : Transaction) (turn : Turn) : Type 0 where
  pub sends : AreMute turn.step.effects.sends ⊎ IsAsking tx t turn
  pub late : t.phase ≡ Verifying → t.asked ≡ None → IsLate tx body t turn

mute_of : (tx : TxId) (body : Body) → SaysOf tx (Unit {0}) (kind_of body) → is_mute body ≡ true
mute_of tx (Epoch (DiVerifyReq other ops)) says = absurd says
mute_of tx (Epoch (DiVerifyConf other epoch)) says = absurd says
mute_of tx _ says = refl

all_mute : (tx : TxId) (sends : List Outgoing) → AllSay tx (Unit {0}) sends → AreMute sends
all_mute tx sends all = each_map (λ (o : Outgoing). SaysOf tx (Unit {0}) (kind_of o.body))
    (λ (o : Outgoing). is_mute o.body ≡ true) sends (λ o says. mute_of tx o.body says) all

module _ (tx : TxId) where
  module _ (node : ℕ) (layout : Layout) (t : Transaction) where
    -- a turn sends nothing of an epoch, but for the one that asks for it
    abbrev Asks : Turn → Type 0
    Asks turn = AreMute turn.step.effects.sends ⊎ IsAsking tx t turn

    asks_forms : (body : Body) → TurnForms node layout tx t body Asks
    asks_forms body =
        turn_goes tx (Unit {0}) Asks node layout t body
        (λ turn goes. inl (all_mute tx turn.step.effects.sends goes.sends))
        (λ is ready. let was = ready_is t.phase t.asked ready in
        inr (record { node = node; was = was.0; free = was.1; left = refl; is = refl }))
        (λ is. tt) (λ epoch is. tt)

    -- what becomes of it where it waits for its epoch
    record Late (body : Body) (turn : Turn) : Type 0 where
      late : t.phase ≡ Verifying → t.asked ≡ None → IsLate tx body t turn

    -- it doesn't wait for it in another phase
    other_phase : (body : Body) (turn : Turn) (phase : Phase) → t.phase ≡ phase
        → abort.is_verifying phase ≡ false → Late body turn
    other_phase body turn phase at off = record {
      late = λ waits none. absurd (let both : true ≡ false = sym (ap abort.is_verifying waits)
          ∙ (ap abort.is_verifying at ∙ off) in cc);
    }

    -- nor with an operation unanswered
    still_asked : (body : Body) (turn : Turn) (asked : Asked) → t.asked ≡ Some asked → Late body turn
    still_asked body turn asked on =
        record { late = λ waits none. absurd (let both : None ≡ Some asked = sym none ∙ on in cc) }

    other_committed : (body : Body) (epoch : ℕ) (phase : Phase) → t.phase ≡ phase → abort.is_verifying phase ≡ false
        → CommittedForms node layout tx t epoch (Late body)
    other_committed body epoch phase at off =
        record { enters = λ some. other_phase body _ phase at off; ends = λ none. other_phase body _ phase at off }

    -- it has the epoch
    given : (body : Body) (turn : Turn) (epoch : ℕ) → body ≡ Epoch (DiVerifyConf tx epoch) → Late body turn
    given body turn epoch is = record { late = λ waits none. inr (inl (ap (is_conf tx) is ∙ same_tx-self tx)) }

    late_forms : (body : Body) → TurnForms node layout tx t body (Late body)
    late_forms body = record {
      stays = record { late = λ waits none. inl refl };
      goes_on = λ at. record { late = λ waits none. inl refl };
      operates = λ op is can. other_phase body _ Open
          (ready_is t.phase t.asked (and_parts (operate.is_ready t.phase t.asked) _ can).0).0 refl;
      answers = λ key answer asked is on at. still_asked body _ asked on;
      late = λ key asked why verifying awaited on at. still_asked body _ asked on;
      waits = λ asked on. still_asked body _ asked on;
      decides = λ is ready. other_phase body _ Open (ready_is t.phase t.asked ready).0 refl;
      commits = λ epoch is at some. given body _ epoch is;
      commits_none = λ epoch is at. record {
        enters = λ some. given body _ epoch is;
        ends =
            λ none. given body _ epoch is;
      };
      committed = λ epoch awaited at more. other_phase body _ _ at refl;
      committed_all = λ epoch awaited at. other_committed body epoch _ at refl;
      completed = λ epoch awaited at more. other_phase body _ _ at refl;
      completed_all = λ epoch awaited at last. other_phase body _ _ at refl;
      rolls_back = λ is undecided unaborted. record {
        enters = λ some. record {
          late = λ waits none. inr
              (inr (enters_told tx node layout t _ _ _ (subst (HasTouchedAsked t.touched) (sym none) tt) some));
        };
        ends = λ nothing. record {
          late =
              λ waits none. inr (inr (end_gives_up tx node _ (abort.is_verifying t.phase)));
        };
      };
      refuses = λ key why asked is on at. record {
        enters = λ some. still_asked body _ asked on;
        ends =
            λ none. still_asked body _ asked on;
      };
      aborted = λ why verifying awaited at more. other_phase body _ _ at refl;
      aborted_all = λ why verifying awaited at last. other_phase body _ _ at refl;
    }

    pub turn_asks : (body : Body) → is_for tx body ≡ true → AskTurn tx body t (turn_for node layout tx body t)
    turn_asks body is = record {
      sends = turn_each node layout tx body t Asks (rows_of node layout tx t body Asks (asks_forms body)) is;
      late = (turn_each node layout tx body t (Late body)
          (rows_of node layout tx t body (Late body) (late_forms body)) is).late;
    }

-- how many signals ask for an epoch for the transaction, or give it one
abbrev pub ask : TxId → Place → Body → ℕ
ask tx to body = one_if (is_ask tx body)

mute_ask : (tx : TxId) (body : Body) → is_mute body ≡ true → is_ask tx body ≡ false
mute_ask tx (Epoch (DiVerifyReq other ops)) is = absurd cc
mute_ask tx (Epoch (DiVerifyConf other epoch)) is = absurd cc
mute_ask tx _ is = refl

pub unasked_none : (tx : TxId) (sends : List Outgoing) → Each (λ (o : Outgoing). is_ask tx o.body ≡ false) sends
    → in_sends (ask tx) sends ≡ 0
unasked_none tx [] all = refl
unasked_none tx (o ∷ more) all = omega (arith, ap one_if all.0, unasked_none tx more all.1)

mute_each : (tx : TxId) (sends : List Outgoing) → AreMute sends
    → Each (λ (o : Outgoing). is_ask tx o.body ≡ false) sends
mute_each tx sends =
    each_map (λ (o : Outgoing). is_mute o.body ≡ true) (λ (o : Outgoing). is_ask tx o.body ≡ false) sends
    (λ o. mute_ask tx o.body)

pub mute_none : (tx : TxId) (sends : List Outgoing) → AreMute sends → in_sends (ask tx) sends ≡ 0
mute_none tx sends mute = unasked_none tx sends (mute_each tx sends mute)

-- the turns of other transactions ask for none of this one, nor does the coordinator beside them
pub others_mute : (tx : TxId) (s : TcState) (body : Body)
    → OthersSend (λ (o : Outgoing). is_ask tx o.body ≡ false) tx s body
others_mute tx s body one off its t = by (turn_asks one s.node s.layout t body its).sends
  where
    turn : Turn
    turn = turn_for s.node s.layout one body t

    by : AreMute turn.step.effects.sends ⊎ IsAsking one t turn
        → Each (λ (o : Outgoing). is_ask tx o.body ≡ false) turn.step.effects.sends
    by (inl mute) = mute_each tx turn.step.effects.sends mute
    by (inr asking) = subst (Each (λ (o : Outgoing). is_ask tx o.body ≡ false)) (sym asking.is) (off, tt)

pub beside_mute : (tx : TxId) (s : TcState) → SendsBeside (λ (o : Outgoing). is_ask tx o.body ≡ false) s
beside_mute tx s = record { full = λ name. (refl, tt); begins = λ name. (refl, tt); passes = λ one ahead. (refl, tt) }
