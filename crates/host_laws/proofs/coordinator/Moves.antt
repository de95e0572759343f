-- What each row of a coordinator does to its transactions, and which of its signals report the end of one.
use Rattle.std.proofs.Common.{◌≡◌, ◌⊎◌, ℕ, ◌≤◌, List, [], ◌∷◌, ◌++◌, Bool, true, false, refl, ap, sym, ◌∙◌, subst}
use Rattle.std.proofs.Common.{arith, inl, inr}
use Rattle.std.specs.Prelude.{◌==◌, ◌&&◌, ◌||◌, Option, None}
use Rattle.std.proofs.lemmas.Bool.{false≢true}
use Rattle.sig_core.specs.declared.member.TxId.{TxId}
use Rattle.sig_core.specs.declared.outcome.AbortCause.{AbortCause}
use Rattle.sig_core.specs.declared.outs.Outgoing.{Outgoing}
use Rattle.sig_core.specs.declared.place.Place.{Place}
use Rattle.sig_core.specs.declared.signal.Body.{Body}
use Rattle.sig_core.specs.declared.signal.Signal.{Signal}
use Rattle.sig_core.specs.Place.{client}
use Rattle.sig_core.specs.Same.{same_tx}
use Rattle.sig_core.specs.declared.view.View.{View}
use Rattle.sig_core.specs.Step.{Step, to_place}
use Rattle.api_block.specs.declared.opened.OpenTransaction.{OpenTransaction}
use Rattle.api_block.specs.State.{ApiState}
use Rattle.lqh_block.specs.Lqh.{lqh_table}
use Rattle.node_core.proofs.HostCases.{BlockCase, api_takes, block_case, dih_takes, none_takes, rows_take, tc_takes}
use Rattle.node_core.specs.Blocks.{api_of, dih_of, lqh_of, tc_of}
use Rattle.node_core.specs.declared.host.Host as host
use Rattle.node_core.specs.Dih.{dih_table}
use Rattle.node_core.specs.Row.{row}
use Rattle.tc_block.specs.declared.transaction.Transaction.{Transaction}
use Rattle.tc_block.specs.Abort as abort
use Rattle.tc_block.specs.State.{TcState, with_live}
use Rattle.sig_core.proofs.Keys.{same_tx-self}
use Rattle.host_laws.proofs.api.Moves.{ApiMove, api_moves, begun_as, ends, goes, is_api_kind, opens, refuses, rests}
use Rattle.host_laws.proofs.hosts.DihSends.{dih_kinds}
use Rattle.host_laws.proofs.rows.Sends.{lqh_kinds}
use Rattle.host_laws.proofs.hosts.SendKinds.{are_of, is_dih_kind, is_lqh_kind, is_tc_kind, of_kind}
use Rattle.run_theory.specs.Counts.{one_if}
use Rattle.host_laws.proofs.api.Wishes.{is_api, sends_of, to_node}
use Rattle.sig_core.specs.declared.signal.Body.TheVariants.{Client}
use Rattle.sig_core.specs.declared.signal.client.ClientSignal.TheVariants.{TcBeginConf, TcCommitConf, TcRollbackRep}
use Rattle.frag_map.specs.Layout.{Layout}
use Rattle.tc_block.specs.Part.{part_effects}
use Rattle.tc_block.specs.Sends.{entering, front_sends, phase_sends}
use Rattle.tc_block.specs.Tc.{begun, next_tx, tc_table}
use Rattle.tc_block.specs.Turn.{Turn, asking}
use Rattle.tc_block.specs.Phases.{is_completing}
use Rattle.tc_block.proofs.EachTurn.{AbortForms, CommittedForms, TurnForms, rows_of}
use Rattle.tc_block.proofs.TurnRows.{TcStep, begins, misses, passes as passed_on, refuses as lacks, rests as rested}
use Rattle.tc_block.proofs.TurnRows.{takes, tc_step, turn_by, turn_row, tx_in, left_if, left_step}
use Rattle.host_laws.proofs.coordinator.Sends.{TurnSends, turn_sends}
pub use Rattle.sig_core.proofs.TxLemmas.{same_tx-is}

-- the end of a transaction is reported
abbrev pub end_of : TxId → Body → Bool
end_of tx (Client (TcCommitConf other epoch)) = same_tx other tx
end_of tx (Client (TcRollbackRep other cause)) = same_tx other tx
end_of tx _ = false

abbrev pub is_end : TxId → Place → Body → Bool
is_end tx to body = is_api to.block && end_of tx body

abbrev pub ends_in : TxId → List Outgoing → ℕ
ends_in tx sends = sends_of (to_node 0 (is_end tx)) sends

-- the end is reported with a turn after which the transaction is over or completes, unless it was completing
abbrev IsTold : TxId → Transaction → Turn → Type 0
IsTold tx t turn = (turn.over || is_completing turn.step.state.phase) ≡ true
    → (is_completing t.phase ≡ true) ⊎ (1 ≤ ends_in tx turn.step.effects.sends)

abort_end_told : (node : ℕ) (tx : TxId) (why : AbortCause) (b : Bool) → 1 ≤ ends_in tx (abort.abort_end node tx why b)
abort_end_told node tx why true = omega (arith, ap one_if (same_tx-self tx), none (node == 0))
  where
    none : (b : Bool) → one_if (b && false) ≡ 0
    none true = refl
    none false = refl
abort_end_told node tx why false = omega (arith, ap one_if (same_tx-self tx))

module _ (node : ℕ) (layout : Layout) (tx : TxId) (t : Transaction) where
  commit_told : (epoch : ℕ) → CommittedForms node layout tx t epoch (IsTold tx t)
  unfolding entering part_effects phase_sends front_sends
  commit_told epoch = record {
    enters = λ some over. inr (omega (arith, ap one_if (same_tx-self tx)));
    ends = λ none over. inr (omega (arith, ap one_if (same_tx-self tx)));
  }

  abort_told : (u : Transaction) (why : AbortCause) → AbortForms node layout tx u why (IsTold tx t)
  unfolding entering
  abort_told u why = record {
    enters = λ some over. absurd (false≢true over);
    ends = λ none over. inr (abort_end_told node tx why (abort.is_verifying u.phase));
  }

  told_forms : (body : Body) → TurnForms node layout tx t body (IsTold tx t)
  unfolding entering
  told_forms body = record {
    stays = λ over. inl over;
    goes_on = λ at over. inl over;
    operates = λ op is can over. inl over;
    answers = λ key answer asked is on at over. inl over;
    late = λ key asked why verifying awaited on at over. inl over;
    waits = λ asked on over. inl over;
    decides = λ is ready over. absurd (false≢true over);
    commits = λ epoch is at some over. absurd (false≢true over);
    commits_none = λ epoch is at. commit_told epoch;
    committed = λ epoch awaited at more over. absurd (false≢true over);
    committed_all = λ epoch awaited at. commit_told epoch;
    completed = λ epoch awaited at more over. inl (ap is_completing at);
    completed_all = λ epoch awaited at last over. inl (ap is_completing at);
    rolls_back = λ is undecided unaborted. abort_told t _;
    refuses = λ key why asked is on at. abort_told (asking t None) why;
    aborted = λ why verifying awaited at more over. absurd (false≢true over);
    aborted_all = λ why verifying awaited at last over. inr (abort_end_told node tx why verifying);
  }

turn_told : (s : TcState) (body : Body) (t : Transaction) → IsTold (tx_in body) t (turn_row s body t)
turn_told s body t =
    let tx = tx_in body in
    turn_by s t (IsTold tx t) body
    (rows_of s.node s.layout tx t body (IsTold tx t) (told_forms s.node s.layout tx t body))
    (λ off over. inl over)

-- what tells neither that a transaction has begun nor of its end
abbrev pub is_still_kind : Body → Bool
is_still_kind (Client (TcBeginConf name tx)) = false
is_still_kind (Client (TcCommitConf tx epoch)) = false
is_still_kind (Client (TcRollbackRep tx cause)) = false
is_still_kind _ = true

-- what a step of a coordinator from s does to its transactions, and sends
pub data TcMove (s : TcState) (after : TcState) (sends : List Outgoing) : Type 0 where
  stays : after ≡ s → are_of is_still_kind sends ≡ true → TcMove s after sends
  starts : (name : Option ℕ) → after ≡ begun s → sends ≡ to_place client (Client (TcBeginConf name (next_tx s))) ∷ []
      → TcMove s after sends
  turns : (tx : TxId) (t u : Transaction) (front back : List (TxId × Transaction)) → s.live ≡ front ++ (tx, t) ∷ back
      → after ≡ with_live s (front ++ (tx, u) ∷ back)
      → are_of (is_tc_kind tx) sends ≡ true
      → (is_completing u.phase ≡ true → (is_completing t.phase ≡ true) ⊎ (1 ≤ ends_in tx sends))
      → TcMove s after sends
  forgets : (tx : TxId) (t : Transaction) (front back : List (TxId × Transaction)) → s.live ≡ front ++ (tx, t) ∷ back
      → after ≡ with_live s (front ++ back)
      → are_of (is_tc_kind tx) sends ≡ true → (is_completing t.phase ≡ true) ⊎ (1 ≤ ends_in tx sends)
      → TcMove s after sends

abbrev pub Moves : TcState → Step TcState → Type 0
Moves s step = TcMove s step.state step.effects.sends

-- every step of a coordinator is such a move
pub tc_moves : (s : TcState) (body : Body) → Moves s (tc_table s body)
tc_moves s body = by (tc_table s body) (tc_step s body)
  where
    idle : (step other : Step TcState) → step ≡ other → other.state ≡ s
        → are_of is_still_kind other.effects.sends ≡ true
        → Moves s step
    idle step other is same kind =
        stays (ap (λ (x : Step TcState). x.state) is ∙ same)
        (ap (λ (x : Step TcState). are_of is_still_kind x.effects.sends) is ∙ kind)

    by : (step : Step TcState) → TcStep s body step → Moves s step
    by step (rested off is) = idle step _ is refl refl
    by step (lacks name about is) = idle step _ is refl refl
    by step (begins name about room is) =
        starts name (ap (λ (x : Step TcState). x.state) is) (ap (λ (x : Step TcState). x.effects.sends) is)
    by step (passed_on tx ahead about is) = idle step _ is refl refl
    by step (misses turn none is) = idle step _ is refl refl
    by step (takes turn t front back was is) =
        subst (Moves s) (sym is) (over (turn_row s body t) (turn_sends s body t) (turn_told s body t))
      where
        over : (turn : Turn) → TurnSends (tx_in body) turn → IsTold (tx_in body) t turn
            → Moves s (left_step s (tx_in body) front back turn)
        over turn kind told = which turn.over refl
          where
            done : (b : Bool) → turn.over ≡ b
                → (turn.over || is_completing turn.step.state.phase) ≡ (b || is_completing turn.step.state.phase)
            done b e = ap (λ c. c || is_completing turn.step.state.phase) e

            which : (b : Bool) → turn.over ≡ b
                → Moves s (left_if s (tx_in body) front back turn b)
            which true e = forgets (tx_in body) t front back was refl kind (told (done true e))
            which false e =
                turns (tx_in body) t turn.step.state front back was refl kind (λ c. told (done false e ∙ c))

-- no move changes the layout
pub tc_view : (s after : TcState) (sends : List Outgoing) → TcMove s after sends → after.layout ≡ s.layout
tc_view s after sends (stays is kind) = ap (λ (t : TcState). t.layout) is
tc_view s after sends (starts name is told) = ap (λ (t : TcState). t.layout) is
tc_view s after sends (turns one t u front back is now kind told) = ap (λ (t : TcState). t.layout) now
tc_view s after sends (forgets one t front back is now kind told) = ap (λ (t : TcState). t.layout) now

still_api : (body : Body) → is_api_kind body ≡ true → is_still_kind body ≡ true
still_api (Client (TcBeginConf name tx)) e = cc
still_api (Client (TcCommitConf tx epoch)) e = cc
still_api (Client (TcRollbackRep tx cause)) e = cc
still_api _ e = refl

move_still : (s : ApiState) (body : Body) (after : View × List OpenTransaction) (sends : List Outgoing)
    → ApiMove s body after sends → are_of is_still_kind sends ≡ true
move_still s body after sends (rests is kind void) = of_kind is_api_kind is_still_kind still_api sends kind
move_still s body after sends (opens other at op new request is told) = ap (are_of is_still_kind) told
move_still s body after sends (begun_as other one front t u back about passes begun was is kind) =
    of_kind is_api_kind is_still_kind still_api sends kind
move_still s body after sends (goes front t u back go void was is kind) =
    of_kind is_api_kind is_still_kind still_api sends kind
move_still s body after sends (ends one front t back about passes was is kind) =
    of_kind is_api_kind is_still_kind still_api sends kind
move_still s body after sends (refuses other front t back about passes was is kind) =
    of_kind is_api_kind is_still_kind still_api sends kind

-- nor whose coordinator it is
pub tc_node : (s after : TcState) (sends : List Outgoing) → TcMove s after sends → after.node ≡ s.node
tc_node s after sends (stays is kind) = ap (λ (t : TcState). t.node) is
tc_node s after sends (starts name is told) = ap (λ (t : TcState). t.node) is
tc_node s after sends (turns one t u front back is now kind told) = ap (λ (t : TcState). t.node) now
tc_node s after sends (forgets one t front back is now kind told) = ap (λ (t : TcState). t.node) now

still_dih : (body : Body) → is_dih_kind body ≡ true → is_still_kind body ≡ true
still_dih (Client (TcBeginConf name tx)) e = cc
still_dih (Client (TcCommitConf tx epoch)) e = cc
still_dih (Client (TcRollbackRep tx cause)) e = cc
still_dih _ e = refl

still_lqh : (body : Body) → is_lqh_kind body ≡ true → is_still_kind body ≡ true
still_lqh (Client (TcBeginConf name tx)) e = cc
still_lqh (Client (TcCommitConf tx epoch)) e = cc
still_lqh (Client (TcRollbackRep tx cause)) e = cc
still_lqh _ e = refl

-- every step of a host is such a move of its coordinator
pub host_moves : (s : host.Host) (x : Signal) → TcMove (tc_of s) (tc_of (row s x).state) (row s x).effects.sends
host_moves s x = go (row s x) (block_case s x)
  where
    go : (t : Step host.Host) → BlockCase s x t → TcMove (tc_of s) (tc_of t.state) t.effects.sends
    go t (tc_takes step) =
        subst (λ u. TcMove (tc_of s) u t.effects.sends) (sym step.state)
        (subst (λ f. TcMove (tc_of s) (tc_table (tc_of s) x.body).state f.sends) (sym step.effects)
        (tc_moves (tc_of s) x.body))
    go t (api_takes step) =
        stays step.tc (ap (λ f. are_of is_still_kind f.sends) step.effects
        ∙ move_still (api_of s) x.body _ _ (api_moves (api_of s) x.body))
    go t (dih_takes step) =
        stays step.tc
        (ap (λ f. are_of is_still_kind f.sends) step.effects
        ∙ of_kind is_dih_kind is_still_kind still_dih (dih_table (dih_of s) x.body).effects.sends
        (dih_kinds (dih_of s) x.body))
    go t (rows_take step) =
        stays step.tc
        (ap (λ f. are_of is_still_kind f.sends) step.effects
        ∙ of_kind is_lqh_kind is_still_kind still_lqh (lqh_table (lqh_of s) x.body).effects.sends
        (lqh_kinds (lqh_of s) x.body))
    go t (none_takes step) =
        stays (ap (λ u. tc_of u.state) step.is) (ap (λ u. are_of is_still_kind u.effects.sends) step.is)
