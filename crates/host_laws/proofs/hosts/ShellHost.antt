-- What the hosts of right logs are: the shell's, whose transactions are good, and those of coordinators, which tell
-- truly.
use Rattle.std.proofs.Common.{◌≡◌, ℕ, ◌+◌, ◌<◌, List, [], ◌∷◌, Bool, true, false, refl, ap, sym, ◌∙◌, subst, arith}
use Rattle.std.specs.Prelude.{◌==◌, ◌&&◌, Option}
use Rattle.std.proofs.lemmas.Bool.{false≢true}
use Rattle.run_theory.proofs.Pasts.{each_map}
use Rattle.run_theory.specs.Links.{sent}
use Rattle.run_theory.specs.Lists.{Each}
use Rattle.sig_core.specs.declared.member.TxId.{TxId}
use Rattle.sig_core.specs.declared.outs.Outgoing.{Outgoing}
use Rattle.sig_core.specs.declared.place.BlockId.{BlockId}
use Rattle.sig_core.specs.declared.place.BlockId.TheVariants as block
use Rattle.sig_core.specs.declared.signal.Body.{Body}
use Rattle.sig_core.specs.declared.signal.Body.TheVariants.{Client}
use Rattle.sig_core.specs.declared.signal.Signal.{Signal}
use Rattle.sig_core.specs.declared.signal.client.ClientSignal.TheVariants.{TcBeginConf, TcBeginRef}
use Rattle.sig_core.specs.declared.view.View.{View}
use Rattle.sig_core.specs.Place.{coordinator}
use Rattle.sig_core.specs.Step.{Step}
use Rattle.frag_map.specs.Layout.{first_view}
use Rattle.api_block.specs.declared.opened.OpenTransaction.{OpenTransaction}
use Rattle.api_block.specs.Opened.{begins_at}
use Rattle.api_block.specs.State.{ApiState, idle}
use Rattle.lqh_block.specs.Lqh.{lqh_table}
use Rattle.node_core.proofs.HostCases.{BlockCase, api_takes, block_case, dih_takes, each_send, none_takes, rows_take}
use Rattle.node_core.proofs.HostCases.{runs, tc_takes}
use Rattle.node_core.specs.Blocks.{api_of, dih_of, has_api, has_tc, lqh_of, tc_of}
use Rattle.node_core.specs.declared.host.Host as host
use Rattle.node_core.specs.declared.host.Host.TheVariants.{Shell, Main, Tc, Ldm}
use Rattle.node_core.specs.Dih.{dih_table}
use Rattle.node_core.specs.Fresh.{fresh_shell}
use Rattle.node_core.specs.Row.{row, shell_row}
use Rattle.tc_block.specs.State.{TcState}
use Rattle.tc_block.specs.Tc.{next_tx, tc_table}
use Rattle.world_core.specs.Hosts.{host_for, first_hosts, started}
use Rattle.world_core.specs.Machine.{after, machine, step_after}
use Rattle.world_core.specs.Start.{Start}
use Rattle.world_core.specs.Steps.{Addressed, HostStep}
use Rattle.host_laws.proofs.api.Begins.{AreGood, IsDue, count_move, good_move}
use Rattle.host_laws.proofs.api.Moves.{ApiMove, api_moves, begun_as, ends, goes, is_api_kind, opens, refuses, rests}
use Rattle.host_laws.proofs.hosts.DihSends.{dih_kinds}
use Rattle.host_laws.proofs.hosts.BlocksAlong.{IsHome, at_own_node}
use Rattle.host_laws.proofs.hosts.LinkCounts.{sent_truths}
use Rattle.host_laws.proofs.rows.Sends.{lqh_kinds}
use Rattle.host_laws.proofs.hosts.SendKinds.{are_of, each_of, is_dih_kind, is_lqh_kind, is_tc_kind, none_of}
use Rattle.tc_block.proofs.TurnRows as turns
use Rattle.tc_block.proofs.TurnRows.{TcStep, tc_step, tx_in}
use Rattle.host_laws.proofs.coordinator.Sends.{turn_sends}
use Rattle.host_laws.proofs.api.Wishes.{and_false, dih_replies, dih_wishes, is_api, is_reply, is_tc, is_wish}
use Rattle.host_laws.proofs.api.Wishes.{lqh_replies, lqh_wishes, reply_of, sends_of, tc_replies, tc_wishes, to_node}
use Rattle.host_laws.proofs.api.Wishes.{wish_of}
use Rattle.host_laws.specs.OpenedAfter.{opened_in}
use Rattle.run_theory.proofs.Tally.{none_if}
use Rattle.run_theory.specs.Counts.{one_if, tally}

move_view : (s : ApiState) (body : Body) (after : View × List OpenTransaction) (sends : List Outgoing)
    → ApiMove s body after sends → after.0 ≡ s.view
move_view s body after sends (rests is kind void) = ap (λ (a : View × List OpenTransaction). a.0) is
move_view s body after sends (opens name node op new request is told) = ap (λ (a : View × List OpenTransaction). a.0) is
move_view s body after sends (begun_as name tx front t u back about passes begun was is kind) =
    ap (λ (a : View × List OpenTransaction). a.0) is
move_view s body after sends (goes front t u back go void was is kind) =
    ap (λ (a : View × List OpenTransaction). a.0) is
move_view s body after sends (ends tx front t back about passes was is kind) =
    ap (λ (a : View × List OpenTransaction). a.0) is
move_view s body after sends (refuses name front t back about passes was is kind) =
    ap (λ (a : View × List OpenTransaction). a.0) is

shell_good : (s : ApiState) (at : BlockId) (x : Signal) → AreGood s.view s.opened
    → AreGood (shell_row s at x).state.view (shell_row s at x).state.opened
unfolding shell_row
shell_good s block.Api x good = good_move s x.body _ _ (api_moves s x.body) good
shell_good s _ x good = good

shell_view : (s : ApiState) (at : BlockId) (x : Signal) → (shell_row s at x).state.view ≡ s.view
unfolding shell_row
shell_view s block.Api x = move_view s x.body _ _ (api_moves s x.body)
shell_view s _ x = refl

pub shell_count : (s : ApiState) (at : BlockId) (x : Signal) (from : ℕ) (name : Option ℕ) (node : ℕ)
    → AreGood s.view s.opened → (is_api at ≡ true → IsDue s x.body from)
    → tally (begins_at name node) (shell_row s at x).state.opened
    + one_if ((from == node) && (is_api at && reply_of name x.body))
    ≡ tally (begins_at name node) s.opened + sends_of (to_node node (is_wish name)) (shell_row s at x).effects.sends
unfolding shell_row
shell_count s block.Api x from name node good due =
    count_move s x.body _ _ from name node (api_moves s x.body) good (due refl)
shell_count s _ x from name node good due = omega (arith, none_if (from == node))

-- the API replies to no wish
no_reply_api : (name : Option ℕ) (body : Body) → is_api_kind body ≡ true → reply_of name body ≡ false
no_reply_api name (Client (TcBeginConf other tx)) e = cc
no_reply_api name (Client (TcBeginRef other)) e = cc
no_reply_api name _ e = refl

no_replies : (name : Option ℕ) (j : ℕ) (sends : List Outgoing) → are_of is_api_kind sends ≡ true
    → sends_of (to_node j (is_reply name)) sends ≡ 0
no_replies name j sends kind = none_of is_api_kind (to_node j (is_reply name))
    (λ to b k. and_false (to.node == j) (is_api to.block) (no_reply_api name b k)) sends kind

move_replies : (name : Option ℕ) (j : ℕ) (s : ApiState) (body : Body) (after : View × List OpenTransaction)
    (sends : List Outgoing) → ApiMove s body after sends
    → sends_of (to_node j (is_reply name)) sends ≡ 0
move_replies name j s body after sends (rests is kind void) = no_replies name j sends kind
move_replies name j s body after sends (opens other at op new request is told) =
    ap (sends_of (to_node j (is_reply name))) told ∙ none_if (at == j)
move_replies name j s body after sends (begun_as other tx front t u back about passes begun was is kind) =
    no_replies name j sends kind
move_replies name j s body after sends (goes front t u back go void was is kind) = no_replies name j sends kind
move_replies name j s body after sends (ends tx front t back about passes was is kind) = no_replies name j sends kind
move_replies name j s body after sends (refuses other front t back about passes was is kind) =
    no_replies name j sends kind

-- a host replies to each wish that its coordinator takes, and to nothing else
pub host_replies : (name : Option ℕ) (s : host.Host) (x : Signal)
    → sends_of (to_node 0 (is_reply name)) (row s x).effects.sends ≡ one_if (has_tc s && is_wish name x.to x.body)
host_replies name s x = go (row s x) (block_case s x)
  where
    count : Step host.Host → ℕ
    count t = sends_of (to_node 0 (is_reply name)) t.effects.sends

    off : (a : Bool) {b : Bool} → b ≡ false → 0 ≡ one_if (a && (b && wish_of name x.body))
    off true e = ap (λ c. one_if (c && wish_of name x.body)) (sym e)
    off false e = refl

    idle_off : (h : host.Host) (b : BlockId) → runs h b ≡ false
        → 0 ≡ one_if (has_tc h && (is_tc b && wish_of name x.body))
    idle_off (Tc p) block.Tc e = absurd (false≢true (sym e))
    idle_off (Tc p) _ e = refl
    idle_off (Shell a) b e = refl
    idle_off (Main m) b e = refl
    idle_off (Ldm l) b e = refl

    go : (t : Step host.Host) → BlockCase s x t → count t ≡ one_if (has_tc s && is_wish name x.to x.body)
    go t (tc_takes step) =
        ap (λ f. sends_of (to_node 0 (is_reply name)) f.sends) step.effects ∙ tc_replies name (tc_of s) x.body
        ∙ ap (λ b. one_if (b && (true && wish_of name x.body))) (sym step.runs)
        ∙ ap (λ b. one_if (has_tc s && (is_tc b && wish_of name x.body))) (sym step.at)
    go t (api_takes step) =
        ap (λ f. sends_of (to_node 0 (is_reply name)) f.sends) step.effects
        ∙ move_replies name 0 (api_of s) x.body _ _ (api_moves (api_of s) x.body)
        ∙ off (has_tc s) (ap is_tc step.at)
    go t (dih_takes step) = ap (λ f. sends_of (to_node 0 (is_reply name)) f.sends) step.effects
        ∙ dih_replies name (dih_of s) x.body ∙ off (has_tc s) (ap is_tc step.at)
    go t (rows_take step) = ap (λ f. sends_of (to_node 0 (is_reply name)) f.sends) step.effects
        ∙ lqh_replies name (lqh_of s) x.body ∙ off (has_tc s) (ap is_tc step.at)
    go t (none_takes step) = ap count step.is ∙ idle_off s x.to.block step.runs

-- one that doesn't run the API wishes for none
pub host_wishes : (name : Option ℕ) (s : host.Host) (x : Signal) → has_api s ≡ false
    → sends_of (is_wish name) (row s x).effects.sends ≡ 0
host_wishes name s x other = go (row s x) (block_case s x)
  where
    go : (t : Step host.Host) → BlockCase s x t → sends_of (is_wish name) t.effects.sends ≡ 0
    go t (api_takes step) = absurd (false≢true (sym other ∙ step.runs))
    go t (tc_takes step) = ap (λ f. sends_of (is_wish name) f.sends) step.effects ∙ tc_wishes name (tc_of s) x.body
    go t (dih_takes step) = ap (λ f. sends_of (is_wish name) f.sends) step.effects ∙ dih_wishes name (dih_of s) x.body
    go t (rows_take step) = ap (λ f. sends_of (is_wish name) f.sends) step.effects ∙ lqh_wishes name (lqh_of s) x.body
    go t (none_takes step) = ap (λ (u : Step host.Host). sends_of (is_wish name) u.effects.sends) step.is

-- what comes with a transaction that begins
abbrev TellsOf : (TxId → Type 0) → Body → Type 0
TellsOf P body = (name : Option ℕ) (tx : TxId) → body ≡ Client (TcBeginConf name tx) → P tx

never : (P : TxId → Type 0) (kind : Body → Bool)
    → ((name : Option ℕ) (tx : TxId) → kind (Client (TcBeginConf name tx)) ≡ false) → (sends : List Outgoing)
    → are_of kind sends ≡ true
    → Each (λ (o : Outgoing). TellsOf P o.body) sends
never P kind fails sends all =
    each_of kind (λ (o : Outgoing). TellsOf P o.body)
    (λ o k name tx is. absurd (false≢true (sym (fails name tx) ∙ (ap kind (sym is) ∙ k)))) sends all

-- the API tells of none
move_tells : (P : TxId → Type 0) (s : ApiState) (body : Body) (after : View × List OpenTransaction)
    (sends : List Outgoing) → ApiMove s body after sends → Each (λ (o : Outgoing). TellsOf P o.body) sends
move_tells P s body after sends (rests is kind void) = never P is_api_kind (λ name tx. refl) sends kind
move_tells P s body after sends (opens name node op new request is told) =
    subst (Each (λ (o : Outgoing). TellsOf P o.body)) (sym told) (λ other tx e. cc, tt)
move_tells P s body after sends (begun_as name tx front t u back about passes begun was is kind) =
    never P is_api_kind (λ name tx. refl) sends kind
move_tells P s body after sends (goes front t u back go void was is kind) =
    never P is_api_kind (λ name tx. refl) sends kind
move_tells P s body after sends (ends tx front t back about passes was is kind) =
    never P is_api_kind (λ name tx. refl) sends kind
move_tells P s body after sends (refuses name front t back about passes was is kind) =
    never P is_api_kind (λ name tx. refl) sends kind

tc_tells : (s : TcState) (body : Body)
    → Each (λ (o : Outgoing). TellsOf (λ tx. tx.tc ≡ s.node) o.body) (tc_table s body).effects.sends
tc_tells s body = by (tc_table s body) (tc_step s body)
  where
    Told : Step TcState → Type 0
    Told step = Each (λ (o : Outgoing). TellsOf (λ tx. tx.tc ≡ s.node) o.body) step.effects.sends

    the_tx : (name other : Option ℕ) (tx : TxId) → Client (TcBeginConf name (next_tx s)) ≡ Client (TcBeginConf other tx)
        → next_tx s ≡ tx
    the_tx name other tx is = cc

    by : (step : Step TcState) → TcStep s body step → Told step
    by step (turns.rests off is) = subst Told (sym is) tt
    by step (turns.refuses name about is) = subst Told (sym is) (λ other tx e. cc, tt)
    by step (turns.begins name about room is) =
        subst Told (sym is) (λ other tx e. ap (λ (t : TxId). t.tc) (sym (the_tx name other tx e)), tt)
    by step (turns.passes one ahead about is) = subst Told (sym is) (λ other tx e. cc, tt)
    by step (turns.misses turn none is) = subst Told (sym is) tt
    by step (turns.takes turn t front back was is) =
        subst Told (sym is)
        (never (λ tx. tx.tc ≡ s.node) (is_tc_kind (tx_in body)) (λ name tx. refl) _ (turn_sends s body t))

-- who tells that a transaction begins runs the coordinator that gave it its number
abbrev TellsTruly : host.Host → Body → Type 0
TellsTruly s body = TellsOf (λ tx. (has_tc s ≡ true) × (tx.tc ≡ (tc_of s).node)) body

host_tells : (s : host.Host) (x : Signal) → Each (λ (o : Outgoing). TellsTruly s o.body) (row s x).effects.sends
host_tells s x =
    each_send (λ (o : Outgoing). TellsTruly s o.body) s x
    (record {
      api = λ runs at. move_tells _ (api_of s) x.body _ _ (api_moves (api_of s) x.body);
      tc = λ runs at. each_map (λ (o : Outgoing). TellsOf (λ tx. tx.tc ≡ (tc_of s).node) o.body)
          (λ (o : Outgoing). TellsTruly s o.body) (tc_table (tc_of s) x.body).effects.sends
          (λ o tells name tx is. (runs, tells name tx is)) (tc_tells (tc_of s) x.body);
      dih = λ runs at. never _ is_dih_kind (λ name tx. refl) (dih_table (dih_of s) x.body).effects.sends
          (dih_kinds (dih_of s) x.body);
      rows = λ runs at. never _ is_lqh_kind (λ name tx. refl) (lqh_table (lqh_of s) x.body).effects.sends
          (lqh_kinds (lqh_of s) x.body);
    })

-- who tells that a transaction begins is the host of its coordinator
abbrev pub TellsHome : Start → ℕ → Body → Type 0
TellsHome start h body = (name : Option ℕ) (tx : TxId) → body ≡ Client (TcBeginConf name tx) → IsHome start tx h

-- the shell's host after a log
pub record IsShell (start : Start) (h : host.Host) : Type 0 where
  pub state : ApiState
  pub is : h ≡ Shell state
  pub view : state.view ≡ first_view start.shape.nodes
  pub good : AreGood state.view state.opened

module _ (start : Start) where
  pub shell_after : (log : List HostStep) → IsShell start (after start 0 log)
  unfolding started fresh_shell row
  shell_after [] = record {
    state = idle (first_view start.shape.nodes);
    is = refl;
    view = refl;
    good = record {
      each = tt;
      once = λ n. omega arith;
    };
  }
  shell_after (e ∷ log) =
      let s = shell_after log in
      record {
        state = (shell_row s.state e.step.taken.to.block e.step.taken).state;
        is = ap (λ h. (row h e.step.taken).state) s.is;
        view = shell_view s.state e.step.taken.to.block e.step.taken ∙ s.view;
        good = shell_good s.state e.step.taken.to.block e.step.taken s.good;
      }

  -- what it sends
  pub shell_sends : (e : HostStep) (log : List HostStep)
      → (step_after start 0 log e).effects.sends
      ≡ (shell_row (shell_after log).state e.step.taken.to.block e.step.taken).effects.sends
  unfolding row
  shell_sends e log = ap (λ h. (row h e.step.taken).effects.sends) (shell_after log).is

  -- what it has opened: nothing at first, and then what its steps leave
  pub opened_first : opened_in (after start 0 []) ≡ []
  unfolding started fresh_shell
  opened_first = refl

  pub opened_next : (e : HostStep) (log : List HostStep)
      → opened_in (after start 0 (e ∷ log))
      ≡ (shell_row (shell_after log).state e.step.taken.to.block e.step.taken).state.opened
  unfolding row
  opened_next e log = ap (λ h. opened_in (row h e.step.taken).state) (shell_after log).is

  -- what a host sends tells truly
  pub told : (h j : ℕ) (log : List HostStep) → h < first_hosts start
      → Each (λ (x : Addressed). TellsHome start h x.signal.body) (sent (machine start) h j log)
  told h j log low =
      sent_truths start (λ (x : Addressed). TellsHome start h x.signal.body) h j
      (λ e older. each_map (λ (o : Outgoing). TellsTruly (after start h older) o.body)
      (λ (o : Outgoing). (number : ℕ) → TellsHome start h o.body)
      (step_after start h older e).effects.sends (λ o tells number name tx is. at_home older (tells name tx is))
      (host_tells (after start h older) e.step.taken))
      log
    where
      at_home : (older : List HostStep) {tx : TxId}
          → (has_tc (after start h older) ≡ true) × (tx.tc ≡ (tc_of (after start h older)).node) → IsHome start tx h
      at_home older tells =
          let own = at_own_node start h older low tells.0 in
          record {
            some = omega (arith, own.some, tells.1);
            low = omega (arith, own.low, tells.1);
            is = own.is ∙ ap (λ n. host_for start (coordinator n)) (sym tells.1);
          }
