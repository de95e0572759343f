-- Wishes for a transaction are replied to, one by one: so many begin as were wished for and not replied to.
use Rattle.std.proofs.Common.{◌≡◌, ◌≢◌, ◌⊎◌, ℕ, zero, suc, ◌+◌, ◌≤◌, ◌<◌, List, [], ◌∷◌, ◌++◌, Bool, true, false, refl}
use Rattle.std.proofs.Common.{ap, sym, ◌∙◌, subst, arith, inl, inr}
use Rattle.std.specs.Prelude.{◌==◌, ◌&&◌, ◌||◌, ◌/◌, not, Option}
use Rattle.std.specs.List.{list_any}
use Rattle.std.proofs.lemmas.Bool.{cases_lt, eqb-true, false≢true, true≢false}
use Rattle.std.proofs.lemmas.Bool.Decides.{nat_tests}
use Rattle.std.proofs.lemmas.List.Folds.{list_any-append}
use Rattle.api_block.specs.declared.opened.OpenTransaction.{OpenTransaction}
use Rattle.api_block.specs.Members.{is_at}
use Rattle.api_block.specs.Opened.{begins_at, is_beginning, same_name}
use Rattle.api_block.specs.State.{ApiState}
use Rattle.node_core.specs.Requests.{is_request}
use Rattle.node_core.proofs.HostCases.{tc_stays}
use Rattle.node_core.specs.Blocks.{has_tc}
use Rattle.node_core.specs.Row.{shell_row}
use Rattle.run_theory.proofs.Pasts.{each_in, each_past}
use Rattle.run_theory.specs.Links.{IsGiven, is_from, sent, taken}
use Rattle.run_theory.specs.Lists.{IsIn, IsPast}
use Rattle.run_theory.specs.Runs.{AreLogs, IsWithin, log_of}
use Rattle.sig_core.specs.declared.member.TxId.{TxId}
use Rattle.sig_core.specs.declared.place.BlockId.{BlockId}
use Rattle.sig_core.specs.declared.place.BlockId.TheVariants as block
use Rattle.sig_core.specs.declared.place.Part.TheVariants as part
use Rattle.sig_core.specs.declared.place.Place.{Place}
use Rattle.sig_core.specs.declared.signal.Body.{Body}
use Rattle.sig_core.specs.declared.signal.Body.TheVariants.{Client}
use Rattle.sig_core.specs.declared.signal.Signal.{Signal}
use Rattle.sig_core.specs.declared.signal.client.ClientSignal.TheVariants.{TcBeginReq, TcBeginConf, TcBeginRef}
use Rattle.sig_core.specs.declared.view.View.{View}
use Rattle.sig_core.specs.Part.{part_of}
use Rattle.sig_core.specs.Place.{coordinator}
use Rattle.frag_map.specs.Layout.{members}
use Rattle.world_core.proofs.HostNumbers.{IsNodes, given_past, host_below, node_host, tc_found, tc_runs}
use Rattle.world_core.specs.Hosts.{first_hosts, tc_host}
use Rattle.world_core.specs.Machine.{after, machine, step_after}
use Rattle.world_core.specs.Start.{Start}
use Rattle.world_core.specs.Steps.{Addressed, HostStep}
use Rattle.run_laws.proofs.hosts.AlongSteps.{Goes, along, few_taken, goes_cases}
use Rattle.host_laws.proofs.rows.Operations.{left_of, right_of}
use Rattle.host_laws.proofs.api.Begins.{IsDue, IsGood, same_name-self}
use Rattle.host_laws.proofs.hosts.ShellHost.{TellsHome, host_replies, host_wishes, opened_first, opened_next}
use Rattle.host_laws.proofs.hosts.ShellHost.{shell_after, shell_count, shell_sends, told}
use Rattle.host_laws.proofs.hosts.BlocksAlong.{at_tc_host, no_api, sent_to_tc}
use Rattle.host_laws.proofs.hosts.LinkCounts.{few_sends, sent_signals, shell_signals, signals, steps, steps_from}
use Rattle.host_laws.proofs.hosts.LinkCounts.{taken_signals, taken_steps}
use Rattle.run_theory.proofs.Tally.{tally_in, tally_past}
use Rattle.run_theory.specs.Counts.{one_if, tally}
use Rattle.host_laws.proofs.api.Wishes.{is_api, is_reply, is_tc, is_wish, reply_of, sends_of, to_node, wish_of}
use Rattle.answer_laws.specs.Answered.{AreQuiet, NoBeginIsLost}
use Rattle.host_laws.specs.OpenedAfter.{opened_after, opened_in}

-- a request is no reply, and no wish
plain_reply : (name : Option ℕ) (body : Body) → reply_of name body ≡ true → is_request body ≡ false
plain_reply name (Client (TcBeginConf other tx)) e = refl
plain_reply name (Client (TcBeginRef other)) e = refl
plain_reply name _ e = cc

plain_wish : (name : Option ℕ) (body : Body) → wish_of name body ≡ true → is_request body ≡ false
plain_wish name (Client (TcBeginReq other)) e = refl
plain_wish name _ e = cc

plain_conf : (name : Option ℕ) (tx : TxId) (body : Body) → body ≡ Client (TcBeginConf name tx) → is_request body ≡ false
plain_conf name tx body is = ap is_request is

all_true : (a b c : Bool) → a ≡ true → b ≡ true → c ≡ true → ((a && b) && c) ≡ true
all_true true true c p q r = r
all_true true false c p q r = cc
all_true false b c p q r = cc

-- the members of the first view are the nodes from 1 on
pub within : (n node : ℕ) → list_any (is_at node) (members n) ≡ true → (1 ≤ node) × (node ≤ n)
within zero node e = cc
within (suc n) node e = go (list_any (is_at node) (members n)) (n + 1 == node) refl refl (within n node)
    (list_any-append (is_at node) (members n) (record { node = n + 1; start = 0 } ∷ []))
  where
    go : (a b : Bool) → list_any (is_at node) (members n) ≡ a → (n + 1 == node) ≡ b
        → (list_any (is_at node) (members n) ≡ true → (1 ≤ node) × (node ≤ n))
        → list_any (is_at node) (members (suc n)) ≡ (list_any (is_at node) (members n) || (n + 1 == node || false))
        → (1 ≤ node) × (node ≤ suc n)
    go true b p q rest r =
        let w = rest p in
        (w.0, omega (arith, w.1))
    go false true p q rest r =
        let same : n + 1 ≡ node = eqb-true (n + 1) node q in
        (omega (arith, same), omega (arith, same))
    go false false p q rest r =
        absurd (true≢false (sym e ∙ (r ∙ (ap (λ a. a || (n + 1 == node || false)) p ∙ ap (λ b. b || false) q))))

-- a wish is for a coordinator
pub wish_part : (to : Place) (b : Bool) → (is_tc to.block && b) ≡ true → part_of to.block ≡ part.Tc
wish_part to b w = go to.block (left_of (is_tc to.block) b w)
  where
    go : (at : BlockId) → is_tc at ≡ true → part_of at ≡ part.Tc
    go block.Tc e = refl
    go _ e = absurd (false≢true e)

-- so many begin at a node as were wished for there, less the replies that were taken
pub record IsBalanced (start : Start) (name : Option ℕ) (node : ℕ) (logs : ℕ → List HostStep) : Type 0 where
  pub balance : tally (begins_at name node) (opened_in (after start 0 (logs 0)))
      + signals (is_reply name) (taken (machine start) (tc_host start node) (logs 0))
      ≡ signals (is_wish name) (sent (machine start) 0 (tc_host start node) (logs 0))

abbrev pub AreBalanced : Start → (ℕ → List HostStep) → Type 0
AreBalanced start logs =
    (name : Option ℕ) (node : ℕ) → 1 ≤ node → node ≤ start.shape.nodes → IsBalanced start name node logs

module _ (start : Start) where
  -- a coordinator's host sends as many replies as it takes wishes, and another host none
  replied : (name : Option ℕ) (h : ℕ) (log : List HostStep) → has_tc (after start h log) ≡ true
      → signals (is_reply name) (sent (machine start) h 0 log) ≡ steps (is_wish name) log
  replied name h [] runs = refl
  replied name h (e ∷ log) runs =
      let before : has_tc (after start h log) ≡ true = sym (tc_stays (after start h log) e.step.taken) ∙ runs in
      omega (
        arith,
        shell_signals start (is_reply name) h e log,
        replied name h log before,
        host_replies name (after start h log) e.step.taken,
        ap (λ b. one_if (b && is_wish name e.step.taken.to e.step.taken.body)) before,
      )

  silent : (name : Option ℕ) (h : ℕ) (log : List HostStep) → has_tc (after start h log) ≡ false
      → signals (is_reply name) (sent (machine start) h 0 log) ≡ 0
  silent name h [] idle = refl
  silent name h (e ∷ log) idle =
      let before : has_tc (after start h log) ≡ false = sym (tc_stays (after start h log) e.step.taken) ∙ idle in
      omega (
        arith,
        shell_signals start (is_reply name) h e log,
        silent name h log before,
        host_replies name (after start h log) e.step.taken,
        ap (λ b. one_if (b && is_wish name e.step.taken.to e.step.taken.body)) before,
      )

  -- none but the shell's host sends a wish
  not_wished : (name : Option ℕ) (h j : ℕ) (log : List HostStep) → h ≢ 0
      → signals (is_wish name) (sent (machine start) h j log) ≡ 0
  not_wished name h j [] other = refl
  not_wished name h j (e ∷ log) other =
      omega (
        arith,
        sent_signals start (is_wish name) h j e log,
        not_wished name h j log other,
        few_sends start j (is_wish name) (step_after start h log e).effects.sends,
        host_wishes name (after start h log) e.step.taken (no_api start h log other),
      )

  -- the node whose coordinator's host this is, if it is one
  abbrev node_of : ℕ → ℕ
  node_of host = host / 3 + 1

  own_node : (host node : ℕ) → 1 ≤ node → node ≤ start.shape.nodes → host ≡ tc_host start node → node ≡ node_of host
  own_node host node some low is = omega (arith, is, node_host start (coordinator node) some low, some)

  -- replies come of wishes
  module _ (logs : ℕ → List HostStep) (right : AreLogs (machine start) logs)
      (in_n : IsWithin (first_hosts start) logs) where
    steps_wished : (name : Option ℕ) (h : ℕ)
        → steps (is_wish name) (logs h) ≤ signals (is_wish name) (sent (machine start) 0 h (logs 0))
    steps_wished name h =
        omega (
          arith,
          steps_from start (is_wish name) 0
              (λ to body w. plain_wish name body (right_of (is_tc to.block) (wish_of name body) w)) (logs h)
              (λ k other. omega (
                arith,
                not_wished name k h (logs k) other,
                few_taken start logs right (is_wish name) k
                    h,
              )),
          few_taken start logs right (is_wish name) 0 h,
        )

    module _ (from : ℕ) (x : Addressed) (xs : List Addressed)
        (given : IsGiven (machine start) from 0 (logs from) (x ∷ xs)) where
      past : IsPast (x ∷ xs) (sent (machine start) from 0 (logs from))
      past = given_past start from 0 (logs from) (x ∷ xs) given

      -- who sends is there
      from_there : (from < first_hosts start) ⊎ (first_hosts start ≤ from) → from < first_hosts start
      from_there (inl low) = low
      from_there (inr high) = absurd (nothing (sym (ap (sent (machine start) from 0) (in_n from high)) ∙ past.is))
        where
          nothing : [] ≡ past.newer ++ x ∷ xs → ⊥
          nothing e = none past.newer e
            where
              none : (newer : List Addressed) → [] ≡ newer ++ x ∷ xs → ⊥
              none [] e = cc
              none (y ∷ newer) e = cc

      low : from < first_hosts start
      low = from_there (cases_lt from (first_hosts start))

      -- who replies is a coordinator's host
      replier : (name : Option ℕ) → is_reply name x.signal.to x.signal.body ≡ true → IsNodes start (tc_host start) from
      replier name reply = go (has_tc (after start from (logs from))) refl
        where
          go : (b : Bool) → has_tc (after start from (logs from)) ≡ b → IsNodes start (tc_host start) from
          go true runs = tc_found start from (logs from) low runs
          go false idle = absurd (omega (
            arith,
            ap one_if reply,
            tally_past
                (λ (y : Addressed). is_reply name y.signal.to y.signal.body) past,
            silent name from (logs from) idle,
          ))

      told_next : (name : Option ℕ) (tx : TxId) → x.signal.body ≡ Client (TcBeginConf name tx) → tx.tc ≡ node_of from
      told_next name tx is =
          let home = (each_past (λ (y : Addressed). TellsHome start from y.signal.body) past
          (told start from 0 (logs from) low)).0 name tx is in
          own_node from tx.tc home.some home.low home.is

    due_next : AreBalanced start logs → (from : ℕ) (x : Addressed)
        → IsGiven (machine start) from 0 (logs from) (x ∷ taken (machine start) from (logs 0))
        → (name : Option ℕ) → is_reply name x.signal.to x.signal.body ≡ true
        → 1 ≤ tally (begins_at name (node_of from)) (opened_in (after start 0 (logs 0)))
    due_next balanced from x given name reply =
        subst (λ node. 1 ≤ tally (begins_at name node) (opened_in (after start 0 (logs 0))))
        (own_node from of.node of.some of.low of.is)
        (omega (
          arith,
          ap one_if reply,
          tally_past (λ (y : Addressed). is_reply name y.signal.to y.signal.body)
              (past from x (taken (machine start) from (logs 0)) given),
          replied name from (logs from) runs,
          steps_wished name from,
          subst (λ h. tally (begins_at name of.node) (opened_in (after start 0 (logs 0))) + signals (is_reply name)
              (taken (machine start) h (logs 0)) ≡ signals (is_wish name) (sent (machine start) 0 h (logs 0)))
              (sym of.is) (balanced name of.node of.some of.low).balance,
        ))
      where
        of : IsNodes start (tc_host start) from
        of = replier from x (taken (machine start) from (logs 0)) given name reply

        runs : has_tc (after start from (logs from)) ≡ true
        runs = subst (λ h. has_tc (after start h (logs from)) ≡ true) (sym of.is)
            (tc_runs start of.node (logs from) of.some of.low)

  -- one more step of the shell's host
  module _ (e : HostStep) (logs : ℕ → List HostStep) (right : AreLogs (machine start) logs)
      (in_n : IsWithin (first_hosts start) logs) (balanced : AreBalanced start logs)
      (given : is_request e.step.taken.body ≡ false
      → IsGiven (machine start) e.step.taken.from.0 0 (logs e.step.taken.from.0)
      (record { to = e.host; signal = e.step.taken } ∷ taken (machine start) e.step.taken.from.0 (logs 0)))
      (name : Option ℕ) (node : ℕ) (some : 1 ≤ node) (low : node ≤ start.shape.nodes) where
    abbrev x : Signal
    x = e.step.taken

    abbrev from : ℕ
    from = x.from.0

    abbrev s : ApiState
    s = (shell_after start (logs 0)).state

    due : is_api x.to.block ≡ true → IsDue s x.body (node_of from)
    due api = record {
      told = λ n tx is. told_next logs right in_n from _ (taken (machine start) from (logs 0))
          (given (plain_conf n tx x.body is)) n tx is;
      due = λ n r. subst (λ g. 1 ≤ tally (begins_at n (node_of from)) (opened_in g)) (shell_after start (logs 0)).is
          (due_next logs right in_n balanced from _ (given (plain_reply n x.body r)) n
          (ap (λ b. b && reply_of n x.body) api ∙ r));
    }

    count : tally (begins_at name node) (shell_row s x.to.block x).state.opened
        + one_if ((node_of from == node) && is_reply name x.to x.body)
        ≡ tally (begins_at name node) s.opened
        + sends_of (to_node node (is_wish name)) (shell_row s x.to.block x).effects.sends
    count = shell_count s x.to.block x (node_of from) name node (shell_after start (logs 0)).good due

    -- a reply is from the node's coordinator where it is from its host
    from_node : one_if (is_from (machine start) (tc_host start node) e && is_reply name x.to x.body)
        ≡ one_if ((node_of from == node) && is_reply name x.to x.body)
    from_node = go (is_reply name x.to x.body) refl
      where
        off : (a b : Bool) → one_if (a && false) ≡ one_if (b && false)
        off true true = refl
        off true false = refl
        off false true = refl
        off false false = refl

        go : (b : Bool) → is_reply name x.to x.body ≡ b
            → one_if (is_from (machine start) (tc_host start node) e && b) ≡ one_if ((node_of from == node) && b)
        go false r = off (is_from (machine start) (tc_host start node) e) (node_of from == node)
        go true r = ap (λ b. one_if ((not b && (from == tc_host start node)) && true)) plain
            ∙ ap (λ b. one_if (b && true)) same
          where
            plain : is_request x.body ≡ false
            plain = plain_reply name x.body (right_of (is_api x.to.block) (reply_of name x.body) r)

            of : IsNodes start (tc_host start) from
            of = replier logs right in_n from _ (taken (machine start) from (logs 0)) (given plain) name r

            same : (from == tc_host start node) ≡ (node_of from == node)
            same =
                ap (λ h. h == tc_host start node) of.is ∙ at_tc_host start node (coordinator of.node) some low refl
                ∙ ap (λ k. k == node) (own_node from of.node of.some of.low of.is)

    shell_next : tally (begins_at name node) (opened_in (after start 0 (e ∷ logs 0)))
        + signals (is_reply name) (taken (machine start) (tc_host start node) (e ∷ logs 0))
        ≡ signals (is_wish name) (sent (machine start) 0 (tc_host start node) (e ∷ logs 0))
    shell_next =
        omega (
          arith,
          count,
          (balanced name node some low).balance,
          ap (λ g. tally (begins_at name node) (opened_in g)) (shell_after start (logs 0)).is,
          ap (tally (begins_at name node)) (opened_next start e (logs 0)),
          sent_signals start (is_wish name) 0 (tc_host start node) e (logs 0),
          sent_to_tc start node some low (is_wish name) (λ to body w. wish_part to (wish_of name body) w)
              (step_after start 0 (logs 0) e).effects.sends,
          taken_signals start (is_reply name) (tc_host start node) e (logs 0),
          ap (sends_of (to_node node (is_wish name))) (shell_sends start e (logs 0)),
          from_node,
        )

  pub logs_balanced : (logs : ℕ → List HostStep) → IsWithin (first_hosts start) logs → AreLogs (machine start) logs
      → AreBalanced start logs
  logs_balanced logs in_n right = along start (AreBalanced start) first next logs in_n right
    where
      first : AreBalanced start (log_of (machine start) [])
      first name node some low = record {
        balance = omega (arith, ap (tally (begins_at name node)) (opened_first start));
      }

      next : (logs now : ℕ → List HostStep) (h : ℕ) (e : HostStep) → Goes start logs now h e → AreBalanced start logs
          → AreBalanced start now
      next logs now h e g balanced name node some low = record {
        balance = goes_cases start logs now h e g 0
            (λ own. subst Holds (sym own.own)
            (shell_next e logs own.before own.was_within balanced own.takes name node some low))
            (λ other same. subst Holds (sym same) (balanced name node some low).balance);
      }
        where
          Holds : List HostStep → Type 0
          Holds log = tally (begins_at name node) (opened_in (after start 0 log))
              + signals (is_reply name) (taken (machine start) (tc_host start node) log)
              ≡ signals (is_wish name) (sent (machine start) 0 (tc_host start node) log)

  -- at quiet
  none_begins : (logs : ℕ → List HostStep) (t : OpenTransaction) → AreQuiet start logs
      → IsIn t (opened_after start logs) → is_beginning t.doing ≡ true → ⊥
  none_begins logs t q inside begins =
      omega (
        arith,
        tally_in (begins_at t.name t.node) t (opened_in (after start 0 (logs 0))) inside passes,
        (logs_balanced logs q.within q.right t.name t.node place.0 place.1).balance,
        replied t.name (tc_host start t.node) (logs (tc_host start t.node))
            (tc_runs start t.node (logs (tc_host start t.node)) place.0 place.1),
        taken_steps start (is_wish t.name) 0 (logs (tc_host start t.node)),
        ap (signals (is_reply t.name)) (q.quiet (tc_host start t.node) 0 low (omega arith)),
        ap (signals (is_wish t.name)) (q.quiet 0 (tc_host start t.node) (omega arith) low),
      )
    where
      s : ApiState
      s = (shell_after start (logs 0)).state

      t_good : IsGood s.view t
      t_good = each_in (λ u. IsGood s.view u) t s.opened (shell_after start (logs 0)).good.each
          (subst (λ g. IsIn t (opened_in g)) (shell_after start (logs 0)).is inside)

      place : (1 ≤ t.node) × (t.node ≤ start.shape.nodes)
      place = within start.shape.nodes t.node
          (subst (λ (v : View). list_any (is_at t.node) v.full ≡ true) (shell_after start (logs 0)).view
          (t_good.there begins))

      low : tc_host start t.node < first_hosts start
      low = host_below start (coordinator t.node) place.0 place.1

      passes : begins_at t.name t.node t ≡ true
      passes = all_true (is_beginning t.doing) (same_name t.name t.name) (t.node == t.node) begins
          (same_name-self t.name) (grind (arith, nat_tests))

-- at quiet no transaction is beginning
pub no_begin : NoBeginIsLost
no_begin start logs t q inside = go (is_beginning t.doing) refl
  where
    go : (b : Bool) → is_beginning t.doing ≡ b → b ≡ false
    go true e = absurd (none_begins start logs t q inside e)
    go false e = refl
