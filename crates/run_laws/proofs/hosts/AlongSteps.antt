-- Laws that each step of a host keeps, and what is known of a coordinator after a log.
use Rattle.std.proofs.Common.{◌≡◌, ◌≢◌, ◌⊎◌, ℕ, ◌+◌, ◌≤◌, ◌<◌, List, [], ◌∷◌, ◌++◌, Bool, true, false, refl, ap, sym}
use Rattle.std.proofs.Common.{◌∙◌, subst, arith, inl, inr}
use Rattle.std.specs.Prelude.{◌==◌, ◌&&◌, nat_lt, None, Some}
use Rattle.std.proofs.lemmas.Bool.{cases_eq, cases_lt, eqb-true, false≢true}
use Rattle.std.proofs.lemmas.Bool.Decides.{nat_tests}
use Rattle.node_core.proofs.HostCases.{IsRowsStep}
use Rattle.node_core.specs.Blocks.{has_lqh, tc_of}
use Rattle.node_core.specs.Requests.{is_request}
use Rattle.node_core.specs.Row.{row}
use Rattle.run_theory.proofs.Along.{along_run, of_runs}
use Rattle.run_theory.proofs.Runs.{log_of-other, log_of-own, log_of-past, logs_of_run}
use Rattle.run_theory.specs.Links.{IsGiven, sent, taken}
use Rattle.run_theory.specs.Lists.{Each, IsIn, IsPast}
use Rattle.run_theory.specs.Runs.{AreLogs, Happens, IsWithin, Run, log_of}
use Rattle.sig_core.specs.declared.member.TxId.{TxId}
use Rattle.sig_core.specs.declared.place.BlockId.{BlockId}
use Rattle.sig_core.specs.declared.place.BlockId.TheVariants as block
use Rattle.sig_core.specs.declared.place.Place.{Place}
use Rattle.sig_core.specs.declared.signal.Body.{Body}
use Rattle.sig_core.specs.Place.{coordinator, rows_of}
use Rattle.tc_block.specs.declared.transaction.Transaction.{Transaction}
use Rattle.tc_block.specs.State.{TcState}
use Rattle.world_core.proofs.HostNumbers.{addressed_rightly, given_past, rows_run}
use Rattle.world_core.proofs.Stamped.{stamped}
use Rattle.world_core.specs.Hosts.{home, host_for, first_hosts, tc_host}
use Rattle.world_core.specs.Machine.{after, machine, step_after}
use Rattle.world_core.specs.Start.{Start}
use Rattle.world_core.specs.Steps.{Addressed, HostStep}
use Rattle.host_laws.proofs.hosts.BlocksAlong.{IsHome, at_own_node, first_live}
pub use Rattle.host_laws.proofs.coordinator.HostTurns.{tx_at}
use Rattle.host_laws.proofs.coordinator.HostTurns.{HostTurn, IsAside, aside, host_turn, in_rows, starting, turning}
use Rattle.host_laws.proofs.coordinator.HostTurns.{tx_runs}
use Rattle.host_laws.proofs.hosts.LinkCounts.{signals}
use Rattle.host_laws.proofs.rows.Operations.{is_lqh, is_node, left_of, right_of}
use Rattle.host_laws.proofs.coordinator.Lives.{IsKept, IsOwn, is_over, is_keyed, kept_move, starts_in}
use Rattle.host_laws.proofs.coordinator.Moves.{ends_in, host_moves}
use Rattle.host_laws.specs.Live.{of_live}
use Rattle.host_laws.proofs.coordinator.Steps.{live_home, live_in}
use Rattle.host_laws.proofs.api.Wishes.{is_tc}
use Rattle.run_theory.proofs.Tally.{tally_past}
use Rattle.run_theory.specs.Counts.{tally}

abbrev pub is_dih : BlockId → Bool
is_dih block.Dih = true
is_dih _ = false

pub the_transaction : (t u : Transaction) → Some t ≡ Some u → t ≡ u
the_transaction t u e = cc

pub no_transaction : {A : Type 0} (t : Transaction) → None ≡ Some t → A
no_transaction t e = absurd cc

-- where nothing is live all is kept
pub none_kept : (tx : TxId) (s : TcState) → s.live ≡ [] → IsKept tx s 0 0
none_kept tx s none = record {
  began = omega (arith, ap (tally (is_keyed tx)) none);
  order = λ e. e;
  kept = λ e. absurd (omega (arith, e));
  told = λ e. absurd (omega (arith, e, ap (tally (is_over tx)) none));
  once = omega arith;
  unborn = λ e. refl;
  own = subst (Each (λ (e : TxId × Transaction). IsOwn s.node s.next_seq e.0)) (sym none) tt;
}

-- a place for rows, or for a coordinator
pub rows_place : (to : Place) → is_lqh to.block ≡ true → to ≡ rows_of to.node
rows_place to e = ap (λ b. record { node = to.node; block = b }) (only to.block e)
  where
    only : (b : BlockId) → is_lqh b ≡ true → b ≡ block.Lqh
    only block.Lqh e = refl
    only _ e = absurd (false≢true e)

pub tc_place : (to : Place) → is_tc to.block ≡ true → to ≡ coordinator to.node
tc_place to e = ap (λ b. record { node = to.node; block = b }) (only to.block e)
  where
    only : (b : BlockId) → is_tc b ≡ true → b ≡ block.Tc
    only block.Tc e = refl
    only _ e = absurd (false≢true e)

module _ (start : Start) where
  -- host h makes the step e behind these logs
  pub record Goes (logs now : ℕ → List HostStep) (h : ℕ) (e : HostStep) : Type 0 where
    pub at : e.host ≡ h
    pub low : h < first_hosts start
    pub before : AreLogs (machine start) logs
    pub right : AreLogs (machine start) now
    pub was_within : IsWithin (first_hosts start) logs
    pub within : IsWithin (first_hosts start) now
    pub own : now h ≡ e ∷ logs h
    pub others : (k : ℕ) → k ≢ h → now k ≡ logs k
    pub takes : is_request e.step.taken.body ≡ false
        → IsGiven (machine start) e.step.taken.from.0 h (logs e.step.taken.from.0)
        (record { to = e.host; signal = e.step.taken } ∷ taken (machine start) e.step.taken.from.0 (logs h))

  -- host k makes it, or its log stays
  pub goes_cases : {P : Type 0} (logs now : ℕ → List HostStep) (h : ℕ) (e : HostStep) → Goes logs now h e → (k : ℕ)
      → (Goes logs now k e → P) → (h ≢ k → now k ≡ logs k → P) → P
  goes_cases {P} logs now h e g k own other = by (cases_eq h k)
    where
      by : (h ≡ k) ⊎ (h ≢ k) → P
      by (inl at) = own (subst (λ j. Goes logs now j e) at g)
      by (inr off) = other off (g.others k (λ same. off (sym same)))

  log_nil : (newer log : List HostStep) → [] ≡ newer ++ log → log ≡ []
  log_nil [] log is = sym is
  log_nil (e ∷ newer) log is = absurd cc

  -- what holds at the start, and is kept by each step of a host, holds of all right logs
  pub along : (Q : (ℕ → List HostStep) → Type 0) → Q (log_of (machine start) [])
      → ((logs now : ℕ → List HostStep) (h : ℕ) (e : HostStep) → Goes logs now h e → Q logs → Q now)
      → (logs : ℕ → List HostStep) → IsWithin (first_hosts start) logs → AreLogs (machine start) logs → Q logs
  along Q first next logs in_n right =
      of_runs (machine start) (stamped start) (λ ls. IsWithin (first_hosts start) ls → Q ls)
      (along_run (machine start) (λ es. IsWithin (first_hosts start) (log_of (machine start) es) → Q
      (log_of (machine start) es)) (λ w. first) run_next) (first_hosts start) logs in_n right in_n
    where
      run_next : (es : List HostStep) (e : HostStep) → Run (machine start) es → Happens (machine start) es e
          → (IsWithin (first_hosts start) (log_of (machine start) es) → Q (log_of (machine start) es))
          → IsWithin (first_hosts start) (log_of (machine start) (e ∷ es)) → Q (log_of (machine start) (e ∷ es))
      run_next es e run happens before in_now =
          next (log_of (machine start) es) (log_of (machine start) (e ∷ es)) e.host e
          (record {
            at = refl;
            low = under (cases_lt e.host (first_hosts start));
            before = logs_of_run (machine start) es run;
            right = logs_of_run (machine start) (e ∷ es) (run, happens);
            was_within = was;
            within = in_now;
            own = log_of-own (machine start) e es e.host refl;
            others = λ k differs. log_of-other (machine start) e es k (λ same. differs (sym same));
            takes = happens.takes;
          })
          (before was)
        where
          was : IsWithin (first_hosts start) (log_of (machine start) es)
          was k high = let past = log_of-past (machine start) e es k in
              log_nil past.newer (log_of (machine start) es k) (sym (in_now k high) ∙ past.is)

          under : (e.host < first_hosts start) ⊎ (first_hosts start ≤ e.host) → e.host < first_hosts start
          under (inl fine) = fine
          under (inr high) = absurd (nothing (sym (log_of-own (machine start) e es e.host refl) ∙ in_now e.host high))
            where
              nothing : e ∷ log_of (machine start) es e.host ≡ [] → ⊥
              nothing q = cc

  -- what was taken from a link was sent over it
  pub link : (logs : ℕ → List HostStep) → AreLogs (machine start) logs → (i j : ℕ)
      → IsPast (taken (machine start) i (logs j)) (sent (machine start) i j (logs i))
  link logs right i j = given_past start i j (logs i) (taken (machine start) i (logs j)) (right.linked i j)

  pub few_taken : (logs : ℕ → List HostStep) → AreLogs (machine start) logs → (test : Place → Body → Bool) (i j : ℕ)
      → signals test (taken (machine start) i (logs j)) ≤ signals test (sent (machine start) i j (logs i))
  few_taken logs right test i j = tally_past (λ (x : Addressed). test x.signal.to x.signal.body) (link logs right i j)

  -- where one host alone that is there sends such signals to the shell's host, that takes none of another
  pub none_else : (logs : ℕ → List HostStep) → AreLogs (machine start) logs → IsWithin (first_hosts start) logs
      → (test : Place → Body → Bool) (i : ℕ)
      → ((h : ℕ) (log : List HostStep) → h < first_hosts start → h ≢ i → signals test (sent (machine start) h 0 log) ≡
      0)
      → (k : ℕ) → k ≢ i → signals test (taken (machine start) k (logs 0)) ≡ 0
  none_else logs right in_n test i silent k differs = go (cases_lt k (first_hosts start))
    where
      go : (k < first_hosts start) ⊎ (first_hosts start ≤ k) → signals test (taken (machine start) k (logs 0)) ≡ 0
      go (inl low) = omega (arith, silent k (logs k) low differs, few_taken logs right test k 0)
      go (inr high) = omega (
        arith,
        few_taken logs right test k 0,
        ap
            (λ log. signals test (sent (machine start) k 0 log)) (in_n k high),
      )

  -- each step is one of the host of its signal's place
  pub addressed : (logs now : ℕ → List HostStep) (h : ℕ) (e : HostStep) → Goes logs now h e
      → host_for start e.step.taken.to ≡ h
  addressed logs now h e g = (subst (Each (λ (d : HostStep). host_for start d.step.taken.to ≡ h)) g.own
      (addressed_rightly start now g.right h)).0

  -- what is known of a transaction at the coordinator of a host, after a log
  pub record AtTc (tx : TxId) (h : ℕ) (log : List HostStep) : Type 0 where
    pub once : tally (is_keyed tx) (tc_of (after start h log)).live ≤ 1
    pub own : Each (λ (e : TxId × Transaction). IsOwn (tc_of (after start h log)).node
        (tc_of (after start h log)).next_seq e.0) (tc_of (after start h log)).live

  record KeptTc (tx : TxId) (h : ℕ) (log : List HostStep) : Type 0 where
    begun : ℕ
    ended : ℕ
    keeps : IsKept tx (tc_of (after start h log)) begun ended

  kept_tc : (tx : TxId) (h : ℕ) (log : List HostStep) → KeptTc tx h log
  kept_tc tx h [] = record {
    begun = 0;
    ended = 0;
    keeps = none_kept tx (tc_of (after start h [])) (first_live start h);
  }
  kept_tc tx h (e ∷ log) =
      let k = kept_tc tx h log in
      let t = row (after start h log) e.step.taken in
      record {
        begun = starts_in tx t.effects.sends + k.begun;
        ended = ends_in tx t.effects.sends + k.ended;
        keeps = kept_move tx (tc_of (after start h log)) (tc_of t.state) t.effects.sends k.begun k.ended
            (host_moves (after start h log) e.step.taken) k.keeps;
      }

  pub at_tc : (tx : TxId) (h : ℕ) (log : List HostStep) → AtTc tx h log
  at_tc tx h log = let k = kept_tc tx h log in record {
    once = omega (arith, k.keeps.began, k.keeps.once);
    own = k.keeps.own;
  }

  -- one that is live is the transaction there
  pub live_tx : (tx : TxId) (h : ℕ) (log : List HostStep) (t : Transaction)
      → IsIn (tx, t) (tc_of (after start h log)).live → tx_at tx (after start h log) ≡ Some t
  live_tx tx h log t live = live_in tx t (tc_of (after start h log)).live (at_tc tx h log).once live

  -- a transaction is at its home
  pub at_home : (tx : TxId) (h : ℕ) (log : List HostStep) (t : Transaction) → h < first_hosts start
      → tx_at tx (after start h log) ≡ Some t → IsHome start tx h
  at_home tx h log t low at =
      let number = live_home tx (tc_of (after start h log)) t at (at_tc tx h log).own in
      let of = at_own_node start h log low (tx_runs tx (after start h log) t at) in
      record {
        some = omega (arith, number, of.some);
        low = omega (arith, number, of.low);
        is = of.is ∙ ap (tc_host start) (sym number);
      }

  -- none is there at the start
  pub first_none : (tx : TxId) (h : ℕ) → tx_at tx (after start h []) ≡ None
  first_none tx h = ap (of_live tx) (first_live start h)

  -- a step of a host, as far as a transaction of its coordinator goes
  pub turn_at : (tx : TxId) (h : ℕ) (log : List HostStep) (e : HostStep)
      → HostTurn tx (after start h log) e.step.taken (step_after start h log e)
  turn_at tx h log e = let x = at_tc tx h log in host_turn tx (after start h log) e.step.taken x.once x.own

  -- at another host than its home it is left as it is
  pub other_turn : (tx : TxId) (h : ℕ) (log : List HostStep) (e : HostStep) → h < first_hosts start → h ≢ home start tx
      → IsRowsStep (after start h log) e.step.taken (step_after start h log e)
      ⊎ IsAside tx (after start h log) e.step.taken (step_after start h log e)
  other_turn tx h log e low differs = by (turn_at tx h log e)
    where
      by : HostTurn tx (after start h log) e.step.taken (step_after start h log e)
          → IsRowsStep (after start h log) e.step.taken (step_after start h log e)
          ⊎ IsAside tx (after start h log) e.step.taken (step_after start h log e)
      by (in_rows step) = inl step
      by (aside step) = inr step
      by (starting step) =
          absurd (differs ((at_own_node start h log low step.runs).is ∙ sym (ap (home start) step.one)))
      by (turning step) = absurd (differs (at_home tx h log step.was low step.there).is)

  -- what is for a transaction's coordinator goes to its home
  pub home_place : (tx : TxId) (to : Place) → (is_tc to.block && (to.node == tx.tc)) ≡ true
      → host_for start to ≡ home start tx
  home_place tx to e =
      ap (host_for start) (tc_place to (left_of (is_tc to.block) (to.node == tx.tc) e))
      ∙ ap (tc_host start) (eqb-true to.node tx.tc (right_of (is_tc to.block) (to.node == tx.tc) e))

  -- what a host takes for rows of a node is for rows that it runs
  pub heard_rows : (h : ℕ) (log : List HostStep) (to : Place) → host_for start to ≡ h
      → (is_lqh to.block && is_node (start.shape.nodes + 1) to.node) ≡ true → has_lqh (after start h log) ≡ true
  heard_rows h log to here e =
      subst (λ k. has_lqh (after start k log) ≡ true)
      (sym (ap (host_for start) (rows_place to (left_of (is_lqh to.block) (is_node n to.node) e))) ∙ here)
      (rows_run start to.node log (grind (arith, nat_tests, left_of (nat_lt 0 to.node) (nat_lt to.node n) node))
      (omega (arith, under)))
    where
      n : ℕ
      n = start.shape.nodes + 1

      node : is_node n to.node ≡ true
      node = right_of (is_lqh to.block) (is_node n to.node) e

      under : to.node < n
      under = grind (arith, nat_tests, right_of (nat_lt 0 to.node) (nat_lt to.node n) node)
