-- Once the shell asked what its own transaction waits for, nothing else is under way until that is told.
use Rattle.std.proofs.Common.{◌≡◌, ◌⊎◌, ◌<◌, ◌≤◌, ℕ, zero, suc, Bool, true, false, List, [], ◌∷◌, ◌++◌, ◌==◌}
use Rattle.std.proofs.Common.{if◌then◌else◌, length, refl, sym, ap, ◌∙◌, inl, inr, append_assoc, length-append, arith}
use Rattle.std.proofs.lemmas.Bool.{cases_lt}
use Rattle.std.specs.Prelude.{Option, None, Some, not, option_to_list}
use Rattle.run_theory.proofs.EventCases.{event_cases}
use Rattle.run_theory.proofs.Cuts.{taken_past}
use Rattle.run_theory.proofs.Growth.{along_cuts}
use Rattle.run_theory.proofs.Runs.{log_of-own, log_of-past}
use Rattle.run_theory.specs.Cuts.{IsCut}
use Rattle.run_theory.specs.Links.{sent, taken}
use Rattle.run_theory.specs.Lists.{Each, IsIn, IsPast}
use Rattle.run_theory.specs.Runs.{AreLogs, Happens, IsWithin, Run, log_of}
use Rattle.sig_core.specs.declared.member.Member.{Member}
use Rattle.sig_core.specs.declared.member.TxId.{TxId}
use Rattle.sig_core.specs.declared.signal.Body.{Body}
use Rattle.sig_core.specs.declared.signal.Body.TheVariants.{Host}
use Rattle.sig_core.specs.declared.signal.host.HostSignal.TheVariants.{Continue}
use Rattle.sig_core.specs.declared.signal.host.Work.TheVariants.{Request}
use Rattle.sig_core.specs.Op.{key_of}
use Rattle.api_block.specs.declared.opened.OpenTransaction.{OpenTransaction}
use Rattle.api_block.specs.Opened.{has_tx}
use Rattle.node_core.specs.Blocks.{api_of}
use Rattle.node_core.specs.Requests.{is_request}
use Rattle.tc_block.specs.declared.phase.Asked.{Asked}
use Rattle.tc_block.specs.declared.transaction.Transaction.{Transaction}
use Rattle.world_core.proofs.HostNumbers.{given_past}
use Rattle.world_core.proofs.Stamped.{stamped}
use Rattle.world_core.specs.Hosts.{first_membership, home, first_hosts, rows_host}
use Rattle.world_core.specs.Machine.{IsAsked, after, machine, step_after}
use Rattle.world_core.specs.Requests.{request_in, requests}
use Rattle.world_core.specs.Start.{Start}
use Rattle.world_core.specs.Steps.{Addressed, HostStep}
use Rattle.host_laws.proofs.hosts.LinkCounts.{sent_signals, signals, few_sends}
use Rattle.run_theory.proofs.Tally.{tally_past}
use Rattle.host_laws.proofs.api.Wishes.{sends_of}
use Rattle.run_theory.specs.Counts.{one_if, tally}
use Rattle.host_laws.specs.Live.{of_live}
use Rattle.answer_laws.specs.Answered.{AreQuiet}
use Rattle.command_laws.proofs.quiet.First.{fits_asked, requests_append, with_first}
use Rattle.command_laws.proofs.quiet.Since.{link_sent}
use Rattle.command_laws.proofs.operations.TellsSince.{OnTc}
use Rattle.command_laws.proofs.waits.Api.{IsAboutOne}
use Rattle.command_laws.proofs.waits.Hosts.{NodeHolds, ShellHolds, node_next, node_none, shell_next, shell_none}
use Rattle.command_laws.proofs.waits.Rows.{is_other, is_wait_of}
use Rattle.command_laws.specs.Served.{IsHeldUpAt}

-- of a request one is asked
pub is_asked_in : (body : Body) → is_request body ≡ true → length (option_to_list (request_in body)) ≡ 1
is_asked_in (Host (Continue (Request request) at)) e = refl
is_asked_in _ e = cc

module _ (start : Start) (was : ℕ → List HostStep) (before : AreQuiet start was) (first : HostStep) (tx : TxId)
    (u : Transaction) (asked : Asked) (member : Member) (unanswered : u.asked ≡ Some asked)
    (inside : IsIn member asked.chain)
    (live : OnTc (λ s. of_live tx s.live ≡ Some u) (after start (home start tx) (was (home start tx))))
    (held : IsHeldUpAt tx (key_of asked.op)
    (after start (rows_host start member.node) (was (rows_host start member.node))))
    (front : List OpenTransaction) (t : OpenTransaction) (back : List OpenTransaction) (own : Option ℕ)
    (own_tx : t.tx ≡ Some tx) (none : tally (has_tx tx) front ≡ 0)
    (plain_first : sends_of (is_other tx) (step_after start 0 (was 0) first).effects.sends ≡ 0) where
  abbrev NodesHold : List HostStep → Type 0
  NodesHold more = (h : ℕ) → NodeHolds start was tx u asked member unanswered inside live held h
      (log_of (machine start) more (suc h))

  abbrev ShellHas : List HostStep → Type 0
  ShellHas more = ShellHolds start was tx u asked member unanswered inside live held (first ∷ was 0) front t back own
      own_tx none (log_of (machine start) more 0)

  -- these logs are those with the request and the steps of some events, which are questions and answers to them
  pub record AllHold (logs : ℕ → List HostStep) : Type 0 where
    pub more : List HostStep
    pub waits : Each (λ (e : HostStep). is_wait_of tx e.step.taken.body ≡ true) more
    pub is : (h : ℕ) → logs h ≡ log_of (machine start) more h ++ with_first was first h
    pub shell : ShellHas more
    pub nodes : NodesHold more

  -- as long as nothing else is asked for
  record Holds (logs : ℕ → List HostStep) : Type 0 where
    holds : IsWithin (first_hosts start) logs → length (requests (logs 0)) ≤ length (requests (first ∷ was 0))
        → AllHold logs

  module _ (logs : ℕ → List HostStep) (all : AllHold logs) where
    -- of other signals no more are sent than were taken before
    few_others : (i j : ℕ) → j < first_hosts start → IsWithin (first_hosts start) logs
        → signals (is_other tx) (sent (machine start) i j (logs i))
        ≤ signals (is_other tx) (taken (machine start) i (was j))
    few_others i j low within = by i (cases_lt i (first_hosts start))
      where
        by : (i : ℕ) → (i < first_hosts start) ⊎ (first_hosts start ≤ i)
            → signals (is_other tx) (sent (machine start) i j (logs i))
            ≤ signals (is_other tx) (taken (machine start) i (was j))
        by i (inr high) =
            omega (arith, ap (λ log. signals (is_other tx) (sent (machine start) i j log)) (within i high))
        by zero (inl under) =
            omega (
              arith,
              ap (λ log. signals (is_other tx) (sent (machine start) 0 j log)) (all.is 0),
              link_sent start (is_other tx) 0 j (log_of (machine start) all.more 0) (first ∷ was 0),
              all.shell.plain,
              sent_signals start (is_other tx) 0 j first (was 0),
              few_sends start j (is_other tx) (step_after start 0 (was 0) first).effects.sends,
              plain_first,
              ap (signals (is_other tx)) (before.quiet 0 j under low),
            )
        by (suc h) (inl under) =
            omega (
              arith,
              ap (λ log. signals (is_other tx) (sent (machine start) (suc h) j log)) (all.is (suc h)),
              link_sent start (is_other tx) (suc h) j (log_of (machine start) all.more (suc h)) (was (suc h)),
              (all.nodes h).plain,
              ap (signals (is_other tx)) (before.quiet (suc h) j under low),
            )

    past_was : (j : ℕ) → IsPast (was j) (logs j)
    past_was zero = record {
      newer = log_of (machine start) all.more 0 ++ first ∷ [];
      is = all.is 0 ∙ sym (append_assoc (log_of (machine start) all.more 0) (first ∷ []) (was 0));
    }
    past_was (suc h) = record { newer = log_of (machine start) all.more (suc h); is = all.is (suc h) }

  is_wait : (b : Bool) → not b ≡ false → b ≡ true
  is_wait true e = refl
  is_wait false e = cc

  -- so what comes is a question or an answer to one
  comes_wait : (es : List HostStep) (e : HostStep) → Happens (machine start) es e → AllHold (log_of (machine start) es)
      → IsWithin (first_hosts start) (log_of (machine start) es) → e.host < first_hosts start
      → is_request e.step.taken.body ≡ false
      → is_wait_of tx e.step.taken.body ≡ true
  comes_wait es e happens all within low plain =
      is_wait (is_wait_of tx e.step.taken.body) (by (is_other tx e.step.taken.to e.step.taken.body) refl)
    where
      by : (b : Bool) → is_other tx e.step.taken.to e.step.taken.body ≡ b → b ≡ false
      by false is = refl
      by true is =
          absurd (omega (
            arith,
            ap one_if is,
            tally_past (λ (x : Addressed). is_other tx x.signal.to x.signal.body)
                (given_past start e.step.taken.from.0 e.host (log_of (machine start) es e.step.taken.from.0)
                (record { to = e.host; signal = e.step.taken } ∷ taken (machine start) e.step.taken.from.0
                (log_of (machine start) es e.host)) (happens.takes plain)),
            few_others (log_of (machine start) es) all e.step.taken.from.0 e.host low within,
            tally_past (λ (x : Addressed). is_other tx x.signal.to x.signal.body)
                (taken_past (machine start) e.step.taken.from.0 (past_was (log_of (machine start) es) all e.host)),
          ))

  module _ (es : List HostStep) (e : HostStep) (all : AllHold (log_of (machine start) es))
      (is : is_wait_of tx e.step.taken.body ≡ true) where
    log_more : (h : ℕ)
        → log_of (machine start) (e ∷ es) h ≡ log_of (machine start) (e ∷ all.more) h ++ with_first was first h
    log_more h = by (e.host == h)
      where
        by : (b : Bool) → (if b then e ∷ log_of (machine start) es h else log_of (machine start) es h)
            ≡ (if b then e ∷ log_of (machine start) all.more h else log_of (machine start) all.more h)
            ++ with_first was first h
        by true = ap (λ w. e ∷ w) (all.is h)
        by false = all.is h

    shell_more : ShellHas (e ∷ all.more)
    shell_more =
        event_cases (machine start) e all.more 0
        (ShellHolds start was tx u asked member unanswered inside live held (first ∷ was 0) front t back own own_tx
        none)
        (λ at. shell_next start was tx u asked member unanswered inside live held (first ∷ was 0) front t back own
        own_tx none e (log_of (machine start) all.more 0) is all.shell) (λ off. all.shell)

    nodes_more : NodesHold (e ∷ all.more)
    nodes_more h =
        event_cases (machine start) e all.more (suc h)
        (NodeHolds start was tx u asked member unanswered inside live held h)
        (λ at. node_next start was tx u asked member unanswered inside live held h e
        (log_of (machine start) all.more (suc h)) is (all.nodes h)) (λ off. all.nodes h)

    all_more : AllHold (log_of (machine start) (e ∷ es))
    all_more = record {
      more = e ∷ all.more;
      waits = (is, all.waits);
      is = log_more;
      shell = shell_more;
      nodes = nodes_more;
    }

  -- nothing else is asked for
  not_asked : (es : List HostStep) (e : HostStep) → Happens (machine start) es e → AllHold (log_of (machine start) es)
      → length (requests (log_of (machine start) (e ∷ es) 0)) ≤ length (requests (first ∷ was 0))
      → is_request e.step.taken.body ≡ false
  not_asked es e happens all few = by (is_request e.step.taken.body) refl
    where
      by : (b : Bool) → is_request e.step.taken.body ≡ b → b ≡ false
      by false is = refl
      by true is =
          let at : IsAsked (first_membership start) e.host _ e.step.taken =
          fits_asked start e.host _ e.step.taken (is_request e.step.taken.body) is happens.step.fits.asked in
          absurd (omega (
            arith,
            few,
            ap (λ log. length (requests log)) (log_of-own (machine start) e es 0 at.shell),
            length-append (requests (log_of (machine start) es 0)) (option_to_list (request_in e.step.taken.body)),
            is_asked_in e.step.taken.body is,
            ap (λ log. length (requests log)) (all.is 0),
            ap length (requests_append (log_of (machine start) all.more 0) (first ∷ was 0)),
            length-append (requests (first ∷ was 0)) (requests (log_of (machine start) all.more 0)),
          ))

  within_less : (es : List HostStep) (e : HostStep) → IsWithin (first_hosts start) (log_of (machine start) (e ∷ es))
      → IsWithin (first_hosts start) (log_of (machine start) es)
  within_less es e within h high = let past = log_of-past (machine start) e es h in
      older_nil past.newer (log_of (machine start) es h) (sym (within h high) ∙ past.is)
    where
      older_nil : (newer log : List HostStep) → [] ≡ newer ++ log → log ≡ []
      older_nil [] log is = sym is
      older_nil (x ∷ newer) log is = absurd cc

  under_hosts : (es : List HostStep) (e : HostStep) → IsWithin (first_hosts start) (log_of (machine start) (e ∷ es))
      → e.host < first_hosts start
  under_hosts es e within = by (cases_lt e.host (first_hosts start))
    where
      by : (e.host < first_hosts start) ⊎ (first_hosts start ≤ e.host) → e.host < first_hosts start
      by (inl low) = low
      by (inr high) = absurd (let none : e ∷ log_of (machine start) es e.host ≡ [] = sym
          (log_of-own (machine start) e es e.host refl) ∙ within e.host high in cc)

  fewer_asked : (es : List HostStep) (e : HostStep)
      → length (requests (log_of (machine start) es 0)) ≤ length (requests (log_of (machine start) (e ∷ es) 0))
  fewer_asked es e =
      let past = log_of-past (machine start) e es 0 in
      omega (
        arith,
        ap (λ log. length (requests log)) past.is,
        ap length (requests_append past.newer (log_of (machine start) es 0)),
        length-append (requests (log_of (machine start) es 0)) (requests past.newer),
      )

  event_holds : (es : List HostStep) (e : HostStep) → Run (machine start) es → Happens (machine start) es e
      → Holds (log_of (machine start) es) → Holds (log_of (machine start) (e ∷ es))
  event_holds es e run happens h = record { holds = now }
    where
      now : IsWithin (first_hosts start) (log_of (machine start) (e ∷ es))
          → length (requests (log_of (machine start) (e ∷ es) 0)) ≤ length (requests (first ∷ was 0))
          → AllHold (log_of (machine start) (e ∷ es))
      now within few =
          let less = within_less es e within in
          let all = h.holds less (omega (arith, few, fewer_asked es e)) in
          all_more es e all (comes_wait es e happens all less (under_hosts es e within)
          (not_asked es e happens all few))

  -- so it is at each later cut
  pub all_hold : (now : ℕ → List HostStep) → AreLogs (machine start) (with_first was first) → AreQuiet start now
      → IsCut (with_first was first) now → requests (now 0) ≡ requests (first ∷ was 0)
      → IsAboutOne front t back own None (api_of (after start 0 (first ∷ was 0))) → AllHold now
  all_hold now right quiet cut same about =
      (along_cuts (machine start) (stamped start) Holds event_holds (first_hosts start) (with_first was first) now
      quiet.within quiet.right right cut begin).holds quiet.within (omega (arith, ap length same))
    where
      begin : Holds (with_first was first)
      begin = record {
        holds = λ within few. record {
          more = [];
          waits = tt;
          is = λ h. refl;
          shell = shell_none start was tx u asked member unanswered inside live held (first ∷ was 0) front t back own
              own_tx none about;
          nodes = λ h. node_none start was tx u asked member unanswered inside live held h;
        };
      }
