-- What a coordinator sends of its transactions' operations at each signal, and how many parts of one there may be then.
use Rattle.std.proofs.Common.{◌≡◌, ◌≢◌, ◌⊎◌, ◌<◌, ℕ, ◌+◌, ◌≤◌, Bool, true, false, ◌||◌, List, [], ◌∷◌, refl, ap, ◌∙◌}
use Rattle.std.proofs.Common.{subst, arith, inl, inr}
use Rattle.std.specs.List.{list_any}
use Rattle.std.specs.Prelude.{if◌then◌else◌, Option, None, Some}
use Rattle.std.proofs.lemmas.Bool.{or_cases, or_left, or_right}
use Rattle.run_theory.specs.Lists.{Each}
use Rattle.run_theory.proofs.Pasts.{each_map}
use Rattle.sig_core.specs.declared.member.TxId.{TxId}
use Rattle.sig_core.specs.declared.outs.Outgoing.{Outgoing}
use Rattle.sig_core.specs.declared.signal.Body.{Body}
use Rattle.sig_core.specs.Same.{same_tx}
use Rattle.sig_core.specs.Step.{Step}
use Rattle.sig_core.proofs.TxLemmas.{same_tx-is}
use Rattle.tc_block.specs.declared.transaction.Transaction.{Transaction}
use Rattle.tc_block.specs.State.{TcState}
use Rattle.tc_block.specs.Tc.{tc_table}
use Rattle.tc_block.specs.Turn.{Turn}
use Rattle.tc_block.specs.Phases.{is_aborting}
use Rattle.host_laws.specs.Ways.{Way, back, back_by, closes, forth, neither, put_ways, way_of}
use Rattle.tc_block.proofs.EachTurn.{rows_of}
use Rattle.tc_block.proofs.LiveSplit.{KeysOnce, Live}
use Rattle.host_laws.proofs.coordinator.OneWay.{back_more}
use Rattle.run_theory.specs.Counts.{one_if, tally}
use Rattle.run_theory.proofs.Tally.{tally_none}
use Rattle.host_laws.proofs.coordinator.Lives.{IsOwn, is_keyed}
use Rattle.sig_core.proofs.Keys.{same_tx-self}
use Rattle.host_laws.proofs.coordinator.Operations.{is_right}
use Rattle.run_laws.specs.Keyed.{HasTouchedAsked}
use Rattle.run_laws.specs.Tokens.{budget_by, budget_of, is_token}
use Rattle.run_laws.proofs.tokens.Rows.{tokens_out}
use Rattle.run_laws.proofs.hosts.LiveAfter.{unborn_none}
use Rattle.host_laws.proofs.coordinator.OfLive.{each_found}
use Rattle.host_laws.proofs.coordinator.Steps.{live_none, left_of_turn}
use Rattle.host_laws.specs.Live.{of_live}
use Rattle.run_laws.proofs.tokens.Still.{beside_still, others_still, still_out}
use Rattle.run_laws.proofs.tokens.Turns.{TurnTokens, budget_after, gives_up, tokens_forms}
use Rattle.tc_block.proofs.TurnRows.{turn_for}
use Rattle.run_laws.proofs.hosts.TxTurns.{TcTurn, tc_turn, turn_each}
use Rattle.run_laws.proofs.hosts.TxTurns as turn

-- one of the coordinator's transactions: its number is of this node, and below the next one, and it is given up if it
-- is aborted
pub record IsOwned (node next : ℕ) (bs : List TxId) (e : TxId × Transaction) : Type 0 where
  pub home : e.0.tc ≡ node
  pub below : e.0.seq < next
  pub right : is_right e.1.asked e.1.phase ≡ true
  pub touched : HasTouchedAsked e.1.touched e.1.asked
  pub given : is_aborting e.1.phase ≡ true → list_any (same_tx e.0) bs ≡ true

-- a coordinator that has given these transactions up
pub record IsSound (s : TcState) (bs : List TxId) : Type 0 where
  pub once : KeysOnce s.live
  pub live : Each (IsOwned s.node s.next_seq bs) s.live
  pub begun : Each (λ (v : TxId). v.seq < s.next_seq) bs

-- who is given up then is so, whoever was before
given_up_more : (v : TxId) (sends : List Outgoing) (xs ys : List TxId)
    → (list_any (same_tx v) xs ≡ true → list_any (same_tx v) ys ≡ true)
    → list_any (same_tx v) (put_ways back_by sends xs) ≡ true → list_any (same_tx v) (put_ways back_by sends ys) ≡ true
given_up_more v [] xs ys more is = more is
given_up_more v (o ∷ sends) xs ys more is = given_up_more v sends (back_by (way_of o.body) xs)
    (back_by (way_of o.body) ys) (by (way_of o.body)) is
  where
    by : (w : Way) → list_any (same_tx v) (back_by w xs) ≡ true → list_any (same_tx v) (back_by w ys) ≡ true
    by (forth tx) is = more is
    by (closes tx) is = more is
    by neither is = more is
    by (back tx) is = which (or_cases (same_tx v tx) (list_any (same_tx v) xs) is)
      where
        which : (same_tx v tx ≡ true) ⊎ (list_any (same_tx v) xs ≡ true)
            → (same_tx v tx || list_any (same_tx v) ys) ≡ true
        which (inl one) = or_left (same_tx v tx) (list_any (same_tx v) ys) one
        which (inr rest) = or_right (same_tx v tx) (list_any (same_tx v) ys) (more rest)

pub now_given_up : (v : TxId) (sends : List Outgoing) (bs : List TxId) → gives_up v sends ≡ true
    → list_any (same_tx v) (put_ways back_by sends bs) ≡ true
now_given_up v sends bs is = given_up_more v sends [] bs (λ e. absurd cc) is

-- the more is given up the more there may be
pub budget_grows : (b c : Bool) (o : Option Transaction) → (b ≡ true → c ≡ true) → budget_by b o ≤ budget_by c o
budget_grows b c (Some t) more = omega arith
budget_grows false c None more = omega arith
budget_grows true c None more = omega (arith, ap (λ d. budget_by d None) (more refl))

-- How many parts of transaction v there may be after a step at which so many came.
pub record StepTokens (v : TxId) (s : TcState) (bs : List TxId) (came : ℕ) (step : Step TcState) : Type 0 where
  pub home : (m : ℕ) → m + came ≤ budget_by (list_any (same_tx v) bs) (of_live v s.live)
      → m + tokens_out v step.effects.sends ≤ budget_by (list_any (same_tx v) (put_ways back_by step.effects.sends bs))
      (of_live v step.state.live)
  pub away : v.tc ≢ s.node → tokens_out v step.effects.sends ≡ 0

-- who stands there once is counted once at most
once_few : (v : TxId) (live : Live) → KeysOnce live → tally (is_keyed v) live ≤ 1
once_few v [] once = omega arith
once_few v (e ∷ live) once = by (same_tx e.0 v) refl (once_few v live once.1)
  where
    by : (b : Bool) → same_tx e.0 v ≡ b → tally (is_keyed v) live ≤ 1 → one_if (same_tx e.0 v)
        + tally (is_keyed v) live ≤ 1
    by true same more =
        let apart = subst (λ w. Each (λ (x : TxId × Transaction). same_tx x.0 w ≡ false) live)
        (same_tx-is e.0 v same) once.0 in
        omega (arith, tally_none (is_keyed v) live apart, ap one_if same)
    by false off more = omega (arith, more, ap one_if off)

module _ (v : TxId) (s : TcState) (bs : List TxId) (n : IsSound s bs) (body : Body) where
  abbrev came : ℕ
  came = one_if (is_token v body)

  own : Each (λ (e : TxId × Transaction). IsOwn s.node s.next_seq e.0) s.live
  own =
      each_map (IsOwned s.node s.next_seq bs) (λ (e : TxId × Transaction). IsOwn s.node s.next_seq e.0) s.live
      (λ e is. record { early = is.below; home = is.home }) n.live

  -- no transaction is given up whose number isn't given yet
  not_yet : (tx : TxId) (xs : List TxId) → s.next_seq ≤ tx.seq → Each (λ (w : TxId). w.seq < s.next_seq) xs
      → list_any (same_tx tx) xs ≡ false
  not_yet tx [] early below = refl
  not_yet tx (w ∷ xs) early below = by (same_tx tx w) refl (not_yet tx xs early below.1)
    where
      by : (b : Bool) → same_tx tx w ≡ b → list_any (same_tx tx) xs ≡ false → (b || list_any (same_tx tx) xs) ≡ false
      by true same rest = absurd (omega (arith, early, below.0, ap (λ (x : TxId). x.seq) (same_tx-is tx w same)))
      by false off rest = rest

  -- behind a turn
  turn_tokens : (step : Step TcState) (t : Transaction) (turn : Turn) → of_live v s.live ≡ Some t
      → TurnTokens v t came turn
      → step.effects.sends ≡ turn.step.effects.sends → of_live v step.state.live ≡ left_of_turn turn
      → StepTokens v s bs came step
  turn_tokens step t turn was is sent left = record {
    home = λ m low. omega (
      arith,
      is.own m (omega (arith, low, ap (budget_by (list_any (same_tx v) bs)) was)),
      ap (tokens_out v) sent,
      after turn.over refl,
      ap (λ sends. budget_by (list_any (same_tx v) (put_ways back_by sends bs)) (of_live v step.state.live)) sent,
      ap (budget_by given) left,
    );
    away = λ off. absurd
        (off (each_found (λ (e : TxId × Transaction). IsOwn s.node s.next_seq e.0) s.live v t own was).home);
  }
    where
      given : Bool
      given = list_any (same_tx v) (put_ways back_by turn.step.effects.sends bs)

      ends : (b : Bool) → gives_up v turn.step.effects.sends ≡ b → one_if b ≤ budget_by given None
      ends false e = omega arith
      ends true e = omega (arith, ap (λ d. budget_by d None) (now_given_up v turn.step.effects.sends bs e))

      after : (b : Bool) → turn.over ≡ b → budget_after v turn ≤ budget_by given (left_of_turn turn)
      after true over =
          omega (
            arith,
            ends (gives_up v turn.step.effects.sends) refl,
            ap (λ b. if b then one_if (gives_up v turn.step.effects.sends) else budget_of turn.step.state) over,
            ap (λ b. budget_by given (if b then None else Some turn.step.state)) over,
          )
      after false over =
          omega (
            arith,
            ap (λ b. if b then one_if (gives_up v turn.step.effects.sends) else budget_of turn.step.state) over,
            ap (λ b. budget_by given (if b then None else Some turn.step.state)) over,
          )

  -- what each signal does
  pub tc_tokens : StepTokens v s bs came (tc_table s body)
  tc_tokens =
      by (tc_table s body)
      (tc_turn (λ (o : Outgoing). is_token v o.body ≡ false) v s (beside_still v s) own
      (once_few v s.live n.once) body
      (others_still v s body))
    where
      by : (step : Step TcState) → TcTurn (λ (o : Outgoing). is_token v o.body ≡ false) v s body step
          → StepTokens v s bs came step
      by step (turn.idle same still deaf) = record {
        home = λ m low. omega (
          arith,
          low,
          still_out v step.effects.sends still,
          budget_grows (list_any (same_tx v) bs) (list_any (same_tx v) (put_ways back_by step.effects.sends bs))
              (of_live v s.live)
              (back_more (same_tx v) step.effects.sends bs),
          ap (budget_by (list_any (same_tx v) (put_ways back_by step.effects.sends bs))) same,
        );
        away = λ off. still_out v step.effects.sends still;
      }
      by step (turn.begins is left still other) =
          let early : s.next_seq ≤ v.seq = omega (arith, ap (λ (x : TxId). x.seq) is) in
          record {
            home = λ m low. omega (
              arith,
              low,
              still_out v step.effects.sends still,
              ap (λ b. budget_by b (of_live v s.live)) (not_yet v bs early n.begun),
              ap (budget_by false) (live_none v s.live (unborn_none v s.node s.next_seq s.live own early)),
            );
            away = λ off. still_out v step.effects.sends still;
          }
      by step (turn.turns t was its sent left) =
          turn_tokens step t (turn_for s.node s.layout v body t) was
          (turn_each s.node s.layout v body t (λ turn. TurnTokens v t came turn)
          (rows_of s.node s.layout v t body (λ turn. TurnTokens v t came turn)
          (tokens_forms s.node s.layout v t
          (each_found (IsOwned s.node s.next_seq bs) s.live v t n.live was).right came body
          (λ key answer is. omega (arith, ap one_if (ap (is_token v) is ∙ same_tx-self v))))) its)
          sent left
