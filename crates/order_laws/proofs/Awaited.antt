-- Along every run no more of a transaction's commit, completion or abort is under way than its coordinator awaits.
use Rattle.std.proofs.Common.{◌≡◌, ◌≢◌, ◌≤◌, ◌+◌, ℕ, Bool, true, false, List, [], ◌∷◌, refl, sym, ap, ◌∙◌, subst}
use Rattle.std.proofs.Common.{arith}
use Rattle.std.proofs.lemmas.Bool.{false≢true}
use Rattle.std.specs.Prelude.{if◌then◌else◌, Option, None, Some}
use Rattle.run_theory.specs.Lists.{Each}
use Rattle.sig_core.proofs.Keys.{same_tx-self}
use Rattle.sig_core.specs.declared.member.TxId.{TxId}
use Rattle.sig_core.specs.declared.outs.Outgoing.{Outgoing}
use Rattle.sig_core.specs.declared.signal.Body.{Body}
use Rattle.sig_core.specs.declared.signal.Body.TheVariants.{Chain, Client, Epoch, Host}
use Rattle.sig_core.specs.declared.signal.chain.ChainSignal.TheVariants.{Abort, Aborted, Commit, Committed, Complete}
use Rattle.sig_core.specs.declared.signal.chain.ChainSignal.TheVariants.{Completed}
use Rattle.sig_core.specs.declared.signal.host.HostSignal.TheVariants.{Continue, Round}
use Rattle.sig_core.specs.declared.signal.host.Work.TheVariants as work
use Rattle.sig_core.specs.declared.signal.Signal.{Signal}
use Rattle.sig_core.specs.Same.{same_tx}
use Rattle.sig_core.specs.Step.{Effects, Step}
use Rattle.frag_map.specs.Layout.{Layout, first_layout}
use Rattle.tc_block.proofs.LiveKeeps.{SendsBeside}
use Rattle.tc_block.proofs.TurnRows.{turn_for}
use Rattle.tc_block.specs.declared.transaction.Transaction.{Transaction}
use Rattle.tc_block.specs.Operate.{fresh}
use Rattle.tc_block.specs.State.{TcState}
use Rattle.tc_block.specs.Tc.{next_tx, tc_row}
use Rattle.tc_block.specs.Turn.{Turn}
use Rattle.node_core.proofs.HostCases.{BlockCase, IsRowsStep, IsTcStep, api_takes, block_case, dih_takes, none_takes}
use Rattle.node_core.proofs.HostCases.{rows_take, tc_takes}
use Rattle.node_core.specs.Blocks.{api_of, dih_of, lqh_of, tc_of}
use Rattle.node_core.specs.declared.host.Host as host
use Rattle.node_core.specs.Row.{row}
use Rattle.world_core.specs.Hosts.{home}
use Rattle.world_core.specs.Machine.{after, signals_of, step_after}
use Rattle.world_core.specs.Start.{Start}
use Rattle.world_core.specs.Steps.{Addressed, HostStep}
use Rattle.host_laws.proofs.api.Moves.{is_api_kind}
use Rattle.host_laws.proofs.hosts.BlocksAlong.{first_live, tc_layout}
use Rattle.host_laws.proofs.hosts.DihSends.{dih_kinds}
use Rattle.host_laws.proofs.hosts.SendKinds.{each_of, is_dih_kind}
use Rattle.host_laws.proofs.coordinator.Lives.{IsOwn, apart}
use Rattle.host_laws.proofs.coordinator.Steps.{left_of_turn}
use Rattle.host_laws.proofs.coordinator.TurnKinds.{OwnKinds, TurnOnly, own_kinds}
use Rattle.host_laws.specs.Live.{of_live}
use Rattle.run_laws.specs.Live.{live_at, of_host}
use Rattle.run_laws.specs.Transit.{Comes, Takes, joined, logs_of}
use Rattle.run_laws.proofs.hosts.HomeSteps.{IsHome, all_home, here_now, here_was, own_home, unborn_absent, live_leaves}
use Rattle.run_laws.proofs.hosts.LiveOf.{of_each}
use Rattle.run_laws.proofs.transit.Transit.{along_transit}
use Rattle.run_laws.proofs.hosts.TxTurns as turn
use Rattle.run_laws.proofs.hosts.TxTurns.{OthersSend, TcTurn, is_for, tc_turn, turn_each}
use Rattle.run_laws.proofs.ways.Passed.{api_each}
use Rattle.run_laws.proofs.transit.Weighing.{in_transit, joins_weigh, takes_weigh}
use Rattle.order_laws.specs.Awaited.{AllIsAwaited, IsAwaited, due, due_in, list_length}
use Rattle.order_laws.proofs.AwaitedSends.{is_due, lqh_weighs, none_due, off_due, off_weighs, request_due, weighs}
use Rattle.order_laws.proofs.AwaitedTurns.{Awaits, ends, enters, goes, turn_awaits}

abbrev pub AreOff : TxId → List Outgoing → Type 0
AreOff tx sends = Each (λ (o : Outgoing). is_due tx o.body ≡ false) sends

-- it is of this transaction, or of no kind that is awaited
abbrev is_own : TxId → Body → Bool
is_own one (Chain (Commit tx key epoch chain at)) = same_tx tx one
is_own one (Chain (Committed tx key)) = false
is_own one (Chain (Complete tx key chain at)) = same_tx tx one
is_own one (Chain (Completed tx key)) = false
is_own one (Chain (Abort tx key)) = same_tx tx one
is_own one (Chain (Aborted tx key)) = false
is_own one (Host (Continue (work.Transaction tx) at)) = same_tx tx one
is_own one _ = true

own_off : (one tx : TxId) → same_tx one tx ≡ false → (body : Body) → is_own one body ≡ true → is_due tx body ≡ false
own_off one tx differs (Chain (Commit other key epoch chain at)) e = apart tx one other differs e
own_off one tx differs (Chain (Committed other key)) e = absurd (false≢true e)
own_off one tx differs (Chain (Complete other key chain at)) e = apart tx one other differs e
own_off one tx differs (Chain (Completed other key)) e = absurd (false≢true e)
own_off one tx differs (Chain (Abort other key)) e = apart tx one other differs e
own_off one tx differs (Chain (Aborted other key)) e = absurd (false≢true e)
own_off one tx differs (Host (Continue (work.Transaction other) at)) e = apart tx one other differs e
own_off one tx differs _ e = refl

own : (tx : TxId) (body : Body) → OwnKinds tx (is_own tx) body
own tx body = record {
  chains = record {
    commits = λ key epoch chain at. same_tx-self tx;
    completes = λ key chain at. same_tx-self tx;
    aborts = λ key. same_tx-self tx;
    goes_on = λ at. same_tx-self tx;
  };
  operates = λ op chain. refl;
  answers = λ key answer is. refl;
  waits = λ key. refl;
  verifies = λ ops. refl;
  verified = refl;
  committed = λ epoch. refl;
  rolled_back = λ why. refl;
}

-- other transactions send nothing of it, nor does the coordinator beside their turns
others_off : (tx : TxId) (s : TcState) (body : Body) → OthersSend (λ (o : Outgoing). is_due tx o.body ≡ false) tx s body
others_off tx s body one off its t =
    each_of (is_own one) (λ o. is_due tx o.body ≡ false) (λ o e. own_off one tx off o.body e)
    (turn_for s.node s.layout one body t).step.effects.sends
    (turn_each s.node s.layout one body t (TurnOnly (is_own one))
    (own_kinds (is_own one) one body (own one body) s.node s.layout t) its)

beside_off : (tx : TxId) (s : TcState) → SendsBeside (λ (o : Outgoing). is_due tx o.body ≡ false) s
beside_off tx s = record { full = λ name. (refl, tt); begins = λ name. (refl, tt); passes = λ one ahead. (refl, tt) }

api_off : (tx : TxId) (body : Body) → is_api_kind body ≡ true → is_due tx body ≡ false
api_off tx (Client c) is = refl
api_off tx (Host Round) is = refl
api_off tx _ is = absurd cc

dih_off : (tx : TxId) (body : Body) → is_dih_kind body ≡ true → is_due tx body ≡ false
dih_off tx (Epoch x) is = refl
dih_off tx _ is = absurd cc

-- What a step does to one transaction: nothing, and it sends nothing of it; a step of rows; it begins, or takes a turn.
pub data Fares (tx : TxId) (s : host.Host) (x : Signal) (t : Step host.Host) : Type 0 where
  aside : of_host tx t.state ≡ of_host tx s → AreOff tx t.effects.sends → Fares tx s x t
  rows : IsRowsStep s x t → Fares tx s x t
  begins : IsTcStep s x t → next_tx (tc_of s) ≡ tx → of_host tx t.state ≡ Some fresh → AreOff tx t.effects.sends
      → Fares tx s x t
  turns : (u : Transaction) → IsTcStep s x t → of_host tx s ≡ Some u → is_for tx x.body ≡ true
      → t.effects.sends ≡ (turn_for (tc_of s).node (tc_of s).layout tx x.body u).step.effects.sends
      → of_host tx t.state ≡ left_of_turn (turn_for (tc_of s).node (tc_of s).layout tx x.body u) → Fares tx s x t

module _ (tx : TxId) (s : host.Host) (x : Signal) (home : IsHome tx (tc_of s)) where
  quiet : (t : Step host.Host) (f : Effects) → t.effects ≡ f → tc_of t.state ≡ tc_of s → AreOff tx f.sends
      → Fares tx s x t
  quiet t f same kept off =
      aside (ap (λ (c : TcState). of_live tx c.live) kept)
      (subst (λ (f : Effects). AreOff tx f.sends) (sym same) off)

  takes_turn : (t : Step host.Host) → IsTcStep s x t → Fares tx s x t
  takes_turn t step =
      by (tc_turn (λ (o : Outgoing). is_due tx o.body ≡ false) tx (tc_of s) (beside_off tx (tc_of s)) home.own home.once
      x.body (others_off tx (tc_of s) x.body))
    where
      live_is : of_host tx t.state ≡ of_live tx (tc_row (tc_of s) x).state.live
      live_is = ap (λ (c : TcState). of_live tx c.live) step.state

      off_too : AreOff tx (tc_row (tc_of s) x).effects.sends → AreOff tx t.effects.sends
      off_too = subst (λ (f : Effects). AreOff tx f.sends) (sym step.effects)

      by : TcTurn (λ (o : Outgoing). is_due tx o.body ≡ false) tx (tc_of s) x.body (tc_row (tc_of s) x)
          → Fares tx s x t
      by (turn.idle same off next) = aside (live_is ∙ same) (off_too off)
      by (turn.begins is left off none) = begins step is (live_is ∙ left) (off_too off)
      by (turn.turns u was same sent left) =
          turns u step was same (ap (λ (f : Effects). f.sends) step.effects ∙ sent) (live_is ∙ left)

  pub fares : Fares tx s x (row s x)
  fares = by (row s x) (block_case s x)
    where
      by : (t : Step host.Host) → BlockCase s x t → Fares tx s x t
      by t (api_takes step) =
          quiet t _ step.effects step.tc
          (api_each (λ (o : Outgoing). is_due tx o.body ≡ false) (λ o is. api_off tx o.body is) (λ name node. refl)
          (api_of s) x.body)
      by t (tc_takes step) = takes_turn t step
      by t (dih_takes step) =
          quiet t _ step.effects step.tc
          (each_of is_dih_kind (λ (o : Outgoing). is_due tx o.body ≡ false) (λ o is. dih_off tx o.body is) _
          (dih_kinds (dih_of s) x.body))
      by t (rows_take step) = rows step
      by t (none_takes step) =
          quiet t _ (ap (λ (u : Step host.Host). u.effects) step.is)
          (ap (λ (u : Step host.Host). tc_of u.state) step.is) tt

module _ (tx : TxId) where
  due_is : (count : ℕ) (xs : List Addressed) → due_in tx count xs ≡ in_transit (λ to body. due tx count body) xs
  due_is count [] = refl
  due_is count (x ∷ xs) = ap (λ n. due tx count x.signal.body + n) (due_is count xs)

  pub none_in : (count other : ℕ) (xs : List Addressed) → due_in tx count xs ≡ 0 → due_in tx other xs ≡ 0
  none_in count other [] none = refl
  none_in count other (x ∷ xs) none =
      omega (
        arith,
        none_due tx count other x.signal.body (omega (arith, none)),
        none_in count other xs (omega (arith, none)),
      )

  -- a step of a run
  module _ (start : Start) (es : List HostStep) (e : HostStep) (come : Comes start es e)
      (before between : List Addressed) (takes : Takes e before between) where
    abbrev g : host.Host
    g = after start e.host (logs_of start es e.host)

    abbrev sends : List Outgoing
    sends = (step_after start e.host (logs_of start es e.host) e).effects.sends

    abbrev later : List Addressed
    later = joined (signals_of start e.host (logs_of start es e.host) e) between

    pub out : (count : ℕ) → due_in tx count before ≡ due tx count e.step.taken.body + due_in tx count between
    out count =
        omega (
          arith,
          due_is count before,
          due_is count between,
          takes_weigh (λ to body. due tx count body) e before between
              (λ is. off_due tx count e.step.taken.body (request_due tx e.step.taken.body is)) takes,
        )

    pub into : (count : ℕ) → due_in tx count later ≡ weighs tx count sends + due_in tx count between
    into count =
        omega (
          arith,
          due_is count later,
          due_is count between,
          joins_weigh (λ to body. due tx count body) start e.host (logs_of start es e.host) e between,
        )

    -- where it stays as it is, and what is sent stands for no more than what came
    light : (layout : Layout) → ((count : ℕ) → weighs tx count sends ≤ due tx count e.step.taken.body)
        → (o : Option Transaction) → IsAwaited layout tx before o → IsAwaited layout tx later o
    light layout less None was = omega (arith, was, out 0, into 0, less 0)
    light layout less (Some t) was =
        let n = list_length layout t.phase t.touched in omega (arith, was, out n, into n, less n)

    turned : (node : ℕ) (layout : Layout) (t : Transaction) (turn : Turn)
        → Awaits node layout tx t e.step.taken.body turn → sends ≡ turn.step.effects.sends
        → IsAwaited layout tx before (Some t) → IsAwaited layout tx later (left_of_turn turn)
    turned node layout t turn (goes going same less) sent was =
        subst (λ b. IsAwaited layout tx later (if b then None else Some turn.step.state)) (sym going)
        (omega (
          arith,
          was,
          less,
          out (list_length layout t.phase t.touched),
          into (list_length layout t.phase t.touched),
          ap (weighs tx (list_length layout t.phase t.touched)) sent,
          ap (λ n. due_in tx n later) same,
        ))
    turned node layout t turn (enters going come_all less) sent was =
        let rest : due_in tx (list_length layout t.phase t.touched) between ≡ 0 =
        omega (arith, was, come_all, out (list_length layout t.phase t.touched)) in
        subst (λ b. IsAwaited layout tx later (if b then None else Some turn.step.state)) (sym going)
        (omega (
          arith,
          less,
          none_in (list_length layout t.phase t.touched)
              (list_length layout turn.step.state.phase turn.step.state.touched) between rest,
          into (list_length layout turn.step.state.phase turn.step.state.touched),
          ap (weighs tx (list_length layout turn.step.state.phase turn.step.state.touched)) sent,
        ))
    turned node layout t turn (ends over come_all none) sent was =
        let rest : due_in tx (list_length layout t.phase t.touched) between ≡ 0 =
        omega (arith, was, come_all, out (list_length layout t.phase t.touched)) in
        subst (λ b. IsAwaited layout tx later (if b then None else Some turn.step.state)) (sym over)
        (omega (
          arith,
          none,
          none_in (list_length layout t.phase t.touched) 0 between rest,
          into 0,
          ap (weighs tx 0)
              sent,
        ))

    abbrev Before : Option Transaction → Type 0
    Before o = IsAwaited (first_layout start.shape) tx before o

    abbrev Later : Option Transaction → Type 0
    Later o = IsAwaited (first_layout start.shape) tx later o

    none_sent : AreOff tx sends → (count : ℕ) → weighs tx count sends ≤ due tx count e.step.taken.body
    none_sent off count = omega (arith, off_weighs tx count sends off)

    awaited_next : Before (live_at start (logs_of start es) tx) → Later (live_at start (logs_of start (e ∷ es)) tx)
    awaited_next was = by (fares tx g e.step.taken facts)
      where
        facts : IsHome tx (tc_of g)
        facts = all_home start tx e.host (logs_of start es e.host)

        stays_so : of_host tx (row g e.step.taken).state ≡ of_host tx g
            → ((count : ℕ) → weighs tx count sends ≤ due tx count e.step.taken.body)
            → Later (live_at start (logs_of start (e ∷ es)) tx)
        stays_so same less =
            subst Later (sym (live_leaves start es e come tx same))
            (light (first_layout start.shape) less (live_at start (logs_of start es) tx) was)

        by : Fares tx g e.step.taken (row g e.step.taken) → Later (live_at start (logs_of start (e ∷ es)) tx)
        by (aside same off) = stays_so same (none_sent off)
        by (rows step) =
            stays_so (ap (λ (c : TcState). of_live tx c.live) step.tc)
            (λ count. omega (
              arith,
              lqh_weighs tx (lqh_of g) count e.step.taken.body,
              ap (λ (f : Effects). weighs tx count f.sends) step.effects,
            ))
        by (begins step is left off) =
            subst Later (sym (ap (of_host tx) (here_now start es e come tx own) ∙ left))
            (omega (arith, none, out 0, into 0, off_weighs tx 0 sends off))
          where
            own : e.host ≡ home start tx
            own = own_home start es e come tx step.runs (sym (ap (λ (v : TxId). v.tc) is))

            none : due_in tx 0 before ≡ 0
            none =
                subst Before
                (ap (of_host tx) (here_was start es e come tx own)
                ∙ unborn_absent start tx e.host (logs_of start es e.host)
                (omega (arith, ap (λ (v : TxId). v.seq) is))) was
        by (turns u step there own_body sent left) =
            subst Later (sym (ap (of_host tx) (here_now start es e come tx own) ∙ left))
            (subst
            (λ l. IsAwaited l tx later (left_of_turn (turn_for (tc_of g).node (tc_of g).layout tx e.step.taken.body u)))
            same_layout
            (turned (tc_of g).node (tc_of g).layout u
            (turn_for (tc_of g).node (tc_of g).layout tx e.step.taken.body u)
            (turn_awaits (tc_of g).node (tc_of g).layout tx u e.step.taken.body own_body) sent
            (subst (λ l. IsAwaited l tx before (Some u)) (sym same_layout)
            (subst Before (ap (of_host tx) (here_was start es e come tx own) ∙ there) was))))
          where
            own : e.host ≡ home start tx
            own =
                own_home start es e come tx step.runs
                (of_each (λ one t. IsOwn (tc_of g).node (tc_of g).next_seq one) tx (tc_of g).live u facts.own
                there).home

            same_layout : (tc_of g).layout ≡ first_layout start.shape
            same_layout = tc_layout start e.host (logs_of start es e.host) step.runs

pub all_is_awaited : AllIsAwaited
all_is_awaited start es xs tx =
    along_transit start
    (λ es xs. IsAwaited (first_layout start.shape) tx xs (live_at start (logs_of start es) tx))
    (subst (IsAwaited (first_layout start.shape) tx []) (sym (ap (of_live tx) (first_live start (home start tx)))) refl)
    (λ es e before between come transit was takes. awaited_next tx start es e come before between takes was) es xs
