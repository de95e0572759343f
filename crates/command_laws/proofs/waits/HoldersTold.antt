-- The two questions about a command that left something unanswered tell for whom that waits.
use Rattle.std.proofs.Common.{◌≡◌, ◌<◌, ◌≤◌, ◌+◌, ℕ, zero, suc, Bool, true, false, List, [], ◌∷◌, ◌++◌, length, refl}
use Rattle.std.proofs.Common.{sym, ap, ◌∙◌, subst, inl, inr, append_assoc, arith}
use Rattle.std.specs.Prelude.{Option, None, Some, drop, is_some, option_to_list, slice_get}
use Rattle.run_theory.proofs.Orders.{each_log}
use Rattle.run_theory.proofs.Pasts.{past_self}
use Rattle.run_theory.specs.Cuts.{IsCut}
use Rattle.run_theory.specs.Lists.{IsIn}
use Rattle.run_theory.specs.Runs.{log_of}
use Rattle.sig_core.proofs.Keys.{same_tx-self}
use Rattle.sig_core.specs.declared.member.TxId.{TxId}
use Rattle.sig_core.specs.declared.place.Place.{Place}
use Rattle.sig_core.specs.declared.reply.ApiReply.TheVariants.{Pending}
use Rattle.sig_core.specs.declared.reply.Waiting.TheVariants.{HeldBy}
use Rattle.sig_core.specs.declared.request.ApiReq.TheVariants as request
use Rattle.sig_core.specs.declared.signal.Body.{Body}
use Rattle.sig_core.specs.Op.{key_of}
use Rattle.sig_core.specs.Place.{client, rows_of}
use Rattle.api_block.specs.declared.opened.Doing.{Doing}
use Rattle.api_block.specs.declared.opened.Doing.TheVariants.{Beginning, Ready, Operating, Committing}
use Rattle.api_block.specs.declared.opened.OpenTransaction.{OpenTransaction}
use Rattle.api_block.specs.Opened.{has_tx, if_there, is_tx, is_unanswered, own_place, where_at}
use Rattle.api_block.specs.State.{ApiState}
use Rattle.node_core.specs.Blocks.{api_of, has_api, has_lqh, has_tc}
use Rattle.node_core.specs.declared.host.Host.{Host}
use Rattle.node_core.specs.declared.host.Host.TheVariants.{Ldm, Main, Shell, Tc}
use Rattle.node_core.specs.Replies.{is_left_open, replies_of}
use Rattle.tc_block.specs.declared.transaction.Transaction.{Transaction}
use Rattle.world_core.proofs.HostNumbers.{api_runs, host_below}
use Rattle.world_core.specs.Hosts.{home, first_hosts, receiver, rows_host}
use Rattle.world_core.specs.Machine.{after, machine, step_after}
use Rattle.world_core.specs.Requests.{request_in, requests}
use Rattle.world_core.specs.Start.{Start}
use Rattle.world_core.specs.Steps.{HostStep}
use Rattle.run_theory.proofs.Tally.{Counted, counted, tally_append, tally_between}
use Rattle.run_theory.specs.Counts.{one_if, tally}
use Rattle.run_laws.proofs.hosts.AlongSteps.{live_tx}
use Rattle.host_laws.proofs.api.Begins.{in_middle}
use Rattle.host_laws.proofs.hosts.BlocksAlong.{no_live, replies_are}
use Rattle.host_laws.proofs.hosts.LinkCounts.{steps, to_host}
use Rattle.answer_laws.proofs.Lives.{holds_at, live_low, once_started}
use Rattle.host_laws.proofs.api.Wishes.{sends_of}
use Rattle.answer_laws.specs.Answered.{EachIsAnswered, IsLiveAs, is_answered_by}
use Rattle.host_laws.specs.OpenedAfter.{opened_after}
use Rattle.host_laws.specs.Live.{of_live}
use Rattle.command_laws.proofs.quiet.First.{IsFirst, first_step, request_first, with_first}
use Rattle.command_laws.proofs.hosts.HostKinds.{api_alone, api_no_rows, no_rows}
use Rattle.command_laws.proofs.hosts.BlockSteps.{api_seen}
use Rattle.command_laws.proofs.quiet.Since.{sent_since_to, arrives}
use Rattle.command_laws.proofs.operations.TellsSince.{OnTc}
use Rattle.command_laws.proofs.hosts.Told.{told_since}
use Rattle.command_laws.proofs.waits.Api.{IsAboutOne, IsAsking, IsOwn, TellsHolder, own_found, pending_first}
use Rattle.command_laws.proofs.waits.Api.{waits_first}
use Rattle.command_laws.proofs.waits.Rows.{is_found, is_passed, is_probe, is_telling_who, is_wait_of, is_want}
use Rattle.command_laws.proofs.waits.Run.{AllHold, all_hold}
use Rattle.command_laws.proofs.waits.Behind.{IsBehindThere, behind_there}
use Rattle.command_laws.specs.Served.{name_of_tx, EachIsHeldUp, HoldersAreTold, IsHeldUp, IsHeldUpAt, IsServedBetween}
use Rattle.command_laws.specs.Served.{IsToldHolder, own_in}

pub sent_to_append : (start : Start) (test : Place → Body → Bool) (h j : ℕ) (xs ys log : List HostStep)
    → sent_since_to start test h j (xs ++ ys) log
    ≡ sent_since_to start test h j xs (ys ++ log) + sent_since_to start test h j ys log
sent_to_append start test h j [] ys log = omega arith
sent_to_append start test h j (e ∷ xs) ys log =
    omega (
      arith,
      sent_to_append start test h j xs ys log,
      ap
          (λ l. sends_of (to_host start j test) (step_after start h l e).effects.sends) (append_assoc xs ys log),
    )

-- what is unanswered at quiet is an operation that was sent
pub record IsWaiting (t : OpenTransaction) : Type 0 where
  pub tx : TxId
  pub own : t.tx ≡ Some tx
  pub does : t.doing ≡ Operating

is_waiting : (start : Start) (logs : ℕ → List HostStep) (t : OpenTransaction) → is_unanswered t.doing ≡ true
    → is_answered_by start logs t.doing t.tx → IsWaiting t
is_waiting start logs t unanswered answered = by t.doing t.tx refl refl unanswered answered
  where
    by : (doing : Doing) (o : Option TxId) → t.doing ≡ doing → t.tx ≡ o → is_unanswered doing ≡ true
        → is_answered_by start logs doing o → IsWaiting t
    by Operating (Some tx) does own some a = record { tx = tx; own = own; does = does }
    by Operating None does own some a = absurd a
    by Ready o does own some a = cc
    by (Beginning op) (Some tx) does own some a = absurd a
    by (Beginning op) None does own some a = absurd a
    by Committing (Some tx) does own some a = absurd a
    by Committing None does own some a = absurd a

-- what is for no node is for the shell's host
shell_place : (start : Start) → rows_host start 0 ≡ 0
unfolding receiver
shell_place start = refl

-- a host whose coordinator or rows have something isn't the shell's
not_shell : (start : Start) (logs : ℕ → List HostStep) (P : Host → Type 0) → ((g : Host) → has_api g ≡ true → P g → ⊥)
    → (k : ℕ) → P (after start k (logs k)) → (j : ℕ) × (k ≡ suc j)
not_shell start logs P none zero p = absurd (none (after start 0 (logs 0)) (api_runs start (logs 0)) p)
not_shell start logs P none (suc h) p = (h, refl)

not_live : (tx : TxId) (u : Transaction) (g : Host) → has_api g ≡ true → IsLiveAs tx u g → ⊥
not_live tx u g api live = by (has_tc g) refl
  where
    by : (b : Bool) → has_tc g ≡ b → ⊥
    by true tc = api_alone g api tc
    by false none = subst (IsIn (tx, u)) (no_live g none) live

not_held : (tx : TxId) (key : List ℕ) (g : Host) → has_api g ≡ true → IsHeldUpAt tx key g → ⊥
not_held tx key g api held = by (has_lqh g) refl
  where
    by : (b : Bool) → has_lqh g ≡ b → ⊥
    by true rows = api_no_rows g api rows
    by false none = let both : false ≡ true = sym (ap is_some (no_rows g none key tx)) ∙ held in cc

module _ (answered : EachIsAnswered) (held_up : EachIsHeldUp) (start : Start) (was mid now : ℕ → List HostStep)
    (t : OpenTransaction) (first_served : IsServedBetween start was mid request.Waits)
    (then_served : IsServedBetween start mid now request.Pending) (own : own_in (after start 0 (was 0)) ≡ Some t)
    (unanswered : is_unanswered t.doing ≡ true) where
  abbrev s : ApiState
  s = api_of (after start 0 (was 0))

  pub i : IsOwn s t
  i = own_found s t own

  in_opened : IsIn t (opened_after start was)
  in_opened = subst (IsIn t) (sym i.is) (in_middle i.front t i.back)

  pub w : IsWaiting t
  w = is_waiting start was t unanswered (answered start was t first_served.before in_opened)

  pub up : IsHeldUp start was w.tx
  up = held_up start was t first_served.before in_opened w.tx w.own w.does

  abbrev c_host : ℕ
  c_host = home start w.tx

  abbrev m_host : ℕ
  m_host = rows_host start up.member.node

  -- the transaction as its coordinator has it
  pub live : OnTc (λ c. of_live w.tx c.live ≡ Some up.transaction) (after start c_host (was c_host))
  live = live_tx start w.tx c_host (was c_host) up.transaction up.live

  -- no other transaction of the API has its number
  pub none : tally (has_tx w.tx) i.front ≡ 0
  none =
      let h = holds_at start w.tx was first_served.before in
      omega (
        arith,
        h.few,
        once_started start w.tx was first_served.before,
        tally_between (has_tx w.tx) i.front t i.back s.opened i.is,
        ap one_if (ap (is_tx w.tx) w.own ∙ same_tx-self w.tx),
        tally_append (has_tx w.tx) i.front i.back,
      )

  pub f : IsFirst start was mid request.Waits
  f = request_first start was mid request.Waits first_served

  pub asking : IsAsking start s t w.tx i (api_seen (step_after start 0 (was 0) f.first))
  asking = subst (IsAsking start s t w.tx i) (sym (first_step start was mid request.Waits f))
      (waits_first start s t w.tx i unanswered w.own)

  abbrev first_cut : IsCut (with_first was f.first) mid
  first_cut zero = record { newer = f.later; is = f.is }
  first_cut (suc h) = first_served.cut (suc h)

  asked_same : requests (mid 0) ≡ requests (f.first ∷ was 0)
  asked_same = first_served.asked ∙ ap (λ o. requests (was 0) ++ option_to_list o) (sym (ap request_in f.body))

  pub all : AllHold start was first_served.before f.first w.tx up.transaction up.asked up.member up.unanswered up.inside
      live up.held i.front t i.back (Some (length i.front)) w.own none asking.plain mid
  all =
      all_hold start was first_served.before f.first w.tx up.transaction up.asked up.member up.unanswered up.inside live
      up.held i.front t i.back (Some (length i.front)) w.own none asking.plain mid f.right
      first_served.since first_cut asked_same asking.about

  abbrev cut : IsCut was mid
  cut zero = record {
    newer = log_of (machine start) all.more 0 ++ f.first ∷ [];
    is = all.is 0 ∙ sym (append_assoc (log_of (machine start) all.more 0) (f.first ∷ []) (was 0));
  }
  cut (suc h) = record { newer = log_of (machine start) all.more (suc h); is = all.is (suc h) }

  -- where it is held up is a host that is there
  held_low : m_host < first_hosts start
  held_low = by up.member.node refl
    where
      by : (node : ℕ) → up.member.node ≡ node → m_host < first_hosts start
      by zero is = omega (arith, ap (rows_host start) is, shell_place start)
      by (suc n) is = host_below start (rows_of up.member.node) (omega (arith, is)) up.low

  -- the question goes to the coordinator, from there to the node where the lock is, and the answer back
  module _ (c m : ℕ) (c_is : c_host ≡ suc c) (m_is : m_host ≡ suc m) where
    c_low : suc c < first_hosts start
    c_low =
        let low = live_low start was w.tx up.transaction first_served.before c_host up.live in omega (arith, low, c_is)

    m_low : suc m < first_hosts start
    m_low = omega (arith, held_low, m_is)

    -- a host sends on to host k as many as it takes
    abbrev Less : (Place → Body → Bool) → (Place → Body → Bool) → ℕ → ℕ → Type 0
    Less took sends h k = steps took (log_of (machine start) all.more (suc h)) ≤ sent_since_to start sends (suc h) k
        (log_of (machine start) all.more (suc h)) (was (suc h))

    wanted : 1 ≤ steps (is_want w.tx) (log_of (machine start) all.more (suc c))
    wanted =
        arrives start was mid first_served.before first_served.since cut (is_want w.tx) 0 (suc c) (omega arith) c_low
        (omega (
          arith,
          asking.wants,
          ap (λ k. sends_of (to_host start k (is_want w.tx)) (step_after start 0 (was 0) f.first).effects.sends) c_is,
          sent_to_append start (is_want w.tx) 0 (suc c) (log_of (machine start) all.more 0) (f.first ∷ []) (was 0),
        ))

    probed : 1 ≤ steps (is_probe w.tx (key_of up.asked.op)) (log_of (machine start) all.more (suc m))
    probed =
        arrives start was mid first_served.before first_served.since cut (is_probe w.tx (key_of up.asked.op)) (suc c)
        (suc m) c_low m_low
        (omega (
          arith,
          wanted,
          subst (Less (is_want w.tx) (is_probe w.tx (key_of up.asked.op)) c) m_is
              ((all.nodes c).wants c_is),
        ))

    found : 1 ≤ steps (is_found w.tx) (log_of (machine start) all.more (suc c))
    found =
        arrives start was mid first_served.before first_served.since cut (is_found w.tx) (suc m) (suc c) m_low c_low
        (omega (
          arith,
          probed,
          subst (Less (is_probe w.tx (key_of up.asked.op)) (is_found w.tx) m) c_is
              ((all.nodes m).finds m_is),
        ))

    passed : 1 ≤ steps (is_passed w.tx) (log_of (machine start) all.more 0)
    passed =
        omega (
          arith,
          arrives start was mid first_served.before first_served.since cut (is_passed w.tx) (suc c) 0 c_low
              (omega arith) (omega (arith, found, (all.nodes c).passes c_is)),
          tally_append (λ (e : HostStep). is_passed w.tx e.step.taken.to e.step.taken.body)
              (log_of (machine start) all.more 0) (f.first ∷ []),
          ap one_if (ap (λ (to : Place). is_passed w.tx to f.first.step.taken.body) f.place ∙ ap (is_passed w.tx client)
              f.body),
        )

  ahead_known : is_some all.shell.ahead ≡ true
  ahead_known =
      let c = not_shell start was (IsLiveAs w.tx up.transaction) (not_live w.tx up.transaction) c_host up.live in
      let m = not_shell start was (IsHeldUpAt w.tx (key_of up.asked.op))
      (not_held w.tx (key_of up.asked.op)) m_host up.held in
      all.shell.known (passed c.0 m.0 c.1 m.1)

  pub then : IsFirst start mid now request.Pending
  then = request_first start mid now request.Pending then_served

  pub about : IsAboutOne i.front t i.back (Some (length i.front)) all.shell.ahead (api_of (after start 0 (mid 0)))
  about = subst (λ log. IsAboutOne i.front t i.back (Some (length i.front)) all.shell.ahead
      (api_of (after start 0 log))) (sym (all.is 0)) all.shell.about

  pub tells : TellsHolder t.name all.shell.ahead (api_of (after start 0 (mid 0)))
      (api_seen (step_after start 0 (mid 0) then.first))
  tells =
      subst (TellsHolder t.name all.shell.ahead (api_of (after start 0 (mid 0))))
      (sym (first_step start mid now request.Pending then))
      (pending_first (api_of (after start 0 (mid 0))) i.front t i.back all.shell.ahead about unanswered ahead_known)

  tells_reply : replies_of (after start 0 (then.first ∷ mid 0)) ≡ replies_of (after start 0 (mid 0)) ++ Pending t.name
      (HeldBy (name_of_tx (opened_after start mid) tells.who)) ∷ []
  tells_reply = replies_are (after start 0 (then.first ∷ mid 0)) ∙ tells.told
      ∙ ap (λ rs. rs ++ Pending t.name (HeldBy (name_of_tx (opened_after start mid) tells.who)) ∷ [])
      (sym (replies_are (after start 0 (mid 0))))

  -- the signal that told it came from a node where the transaction waits behind that one
  telling : Counted (λ (e : HostStep). is_telling_who w.tx tells.who e.step.taken.to e.step.taken.body)
      (log_of (machine start) all.more 0)
  telling = counted (λ (e : HostStep). is_telling_who w.tx tells.who e.step.taken.to e.step.taken.body)
      (log_of (machine start) all.more 0) (all.shell.from tells.who tells.is)

  in_front : (xs ys : List HostStep) (e : HostStep) → IsIn e xs → IsIn e (xs ++ ys)
  in_front [] ys e inside = absurd inside
  in_front (x ∷ xs) ys e (inl same) = inl same
  in_front (x ∷ xs) ys e (inr rest) = inr (in_front xs ys e rest)

  behind : IsBehindThere start was mid w.tx tells.who first_served.before first_served.since cut
      (λ h. each_log (machine start) (λ (e : HostStep). is_wait_of w.tx e.step.taken.body ≡ true) all.more (suc h)
      all.waits)
  behind =
      behind_there start was mid w.tx tells.who first_served.before first_served.since cut
      (λ h. each_log (machine start) (λ (e : HostStep). is_wait_of w.tx e.step.taken.body ≡ true) all.more (suc h)
      all.waits)
      telling.item (in_front (log_of (machine start) all.more 0) (f.first ∷ []) telling.item telling.inside)
      telling.passes

  holder_told : IsToldHolder start was mid now
  holder_told =
      let reply = Pending t.name (HeldBy (name_of_tx (opened_after start mid) tells.who)) in
      record {
        own = t;
        is = own;
        tx = w.tx;
        number = w.own;
        ahead = tells.who;
        node = behind.node;
        low = behind.low;
        key = behind.key;
        behind = behind.behind;
        told = subst (λ log. IsIn reply (drop (length (replies_of (after start 0 (mid 0))))
            (replies_of (after start 0 log)))) (sym then.is)
            (told_since start (mid 0) (mid 0) then.later then.first reply (past_self (mid 0)) tells_reply);
      }

-- the own transaction of a host whose last command left it unanswered
pub record IsLeft (g : Host) : Type 0 where
  pub t : OpenTransaction
  pub own : own_in g ≡ Some t
  pub unanswered : is_unanswered t.doing ≡ true

pub left_own : (g : Host) → is_left_open g ≡ true → IsLeft g
unfolding is_left_open
left_own (Main m) left = cc
left_own (Tc p) left = cc
left_own (Ldm l) left = cc
left_own (Shell s) left = at_place (own_place s) refl left
  where
    at_get : (at : ℕ) (x : Option OpenTransaction) → own_place s ≡ Some at → slice_get s.opened at ≡ x
        → if_there false (λ (y : OpenTransaction). is_unanswered y.doing) x ≡ true → IsLeft (Shell s)
    at_get at None place get is = cc
    at_get at (Some y) place get is = record {
      t = y;
      own = ap (where_at s.opened None (λ p (x : OpenTransaction). Some x)) place
          ∙ ap (if_there None (λ (x : OpenTransaction). Some x)) get;
      unanswered = is;
    }

    at_place : (o : Option ℕ) → own_place s ≡ o
        → where_at s.opened false (λ at (y : OpenTransaction). is_unanswered y.doing) o ≡ true → IsLeft (Shell s)
    at_place None place is = cc
    at_place (Some at) place is = at_get at (slice_get s.opened at) place refl is

-- so it is where each command is answered, but for an operation that is held up
pub holders_told : EachIsAnswered → EachIsHeldUp → HoldersAreTold
holders_told answered held_up start was mid now first_served then_served left =
    let own = left_own (after start 0 (was 0)) left in
    holder_told answered held_up start was mid now own.t first_served then_served own.own own.unanswered
