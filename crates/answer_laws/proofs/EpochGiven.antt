-- What a node's block of epochs counts is what the node's coordinator has asked for, and each that asks is given an
-- epoch.
use Rattle.std.proofs.Common.{◌≡◌, ◌≢◌, ◌⊎◌, ℕ, ◌+◌, ◌≤◌, ◌<◌, List, [], ◌∷◌, length, Bool, true, false, refl, ap, sym}
use Rattle.std.proofs.Common.{◌∙◌, subst, arith, inl, inr}
use Rattle.std.specs.Prelude.{◌==◌, ◌&&◌, not, if◌then◌else◌}
use Rattle.std.proofs.lemmas.Bool.{cases_eq, cases_lt, eq-eqb, eqb-true, false≢true, true≢false}
use Rattle.std.proofs.lemmas.Bool.Decides.{nat_tests}
use Rattle.lqh_block.specs.Lqh.{lqh_table}
use Rattle.node_core.proofs.HostCases.{BlockCase, IsDihStep, api_takes, block_case, dih_takes, none_takes, of_effects}
use Rattle.node_core.proofs.HostCases.{rows_take, runs, tc_takes}
use Rattle.node_core.specs.Blocks.{api_of, dih_of, has_api, has_lqh, has_tc, lqh_of, tc_of}
use Rattle.node_core.specs.declared.host.Host.{Host}
use Rattle.node_core.specs.declared.host.Host.TheVariants.{Shell, Main, Tc, Ldm}
use Rattle.node_core.specs.Dih.{DihState, dih_table}
use Rattle.node_core.specs.Fresh.{fresh_part}
use Rattle.node_core.specs.Requests.{is_request as is_asked}
use Rattle.run_theory.proofs.Tally.{and_few}
use Rattle.run_theory.specs.Links.{is_from, sent, taken}
use Rattle.run_theory.specs.Runs.{AreLogs, IsWithin}
use Rattle.sig_core.specs.declared.member.TxId.{TxId}
use Rattle.sig_core.specs.declared.place.BlockId.{BlockId}
use Rattle.sig_core.specs.declared.place.BlockId.TheVariants as block
use Rattle.sig_core.specs.declared.place.Place.{Place}
use Rattle.sig_core.specs.declared.signal.Body.{Body}
use Rattle.sig_core.specs.declared.signal.Body.TheVariants.{Epoch}
use Rattle.sig_core.specs.declared.signal.Signal.{Signal}
use Rattle.sig_core.specs.declared.signal.epoch.EpochSignal.TheVariants.{DiVerifyReq, DiVerifyEnd}
use Rattle.sig_core.specs.Place.{coordinator, epochs}
use Rattle.sig_core.specs.Same.{same_tx}
use Rattle.sig_core.specs.Step.{Step}
use Rattle.tc_block.specs.declared.tc.TheConstants.{TRANSACTIONS}
use Rattle.tc_block.specs.Tc.{tc_table}
use Rattle.world_core.proofs.HostNumbers.{host_below, tc_runs, tc_started}
use Rattle.world_core.specs.Hosts.{host_for, first_hosts, receiver, started, tc_host}
use Rattle.world_core.specs.Machine.{after, machine, sent_count, step_after}
use Rattle.world_core.specs.Start.{Start}
use Rattle.world_core.specs.Steps.{Addressed, HostStep}
use Rattle.run_theory.specs.Counts.{one_if}
use Rattle.run_laws.proofs.hosts.AlongSteps.{at_tc, few_taken, is_dih}
use Rattle.host_laws.proofs.api.Moves.{api_moves}
use Rattle.host_laws.proofs.hosts.DihSends.{dih_kinds}
use Rattle.answer_laws.proofs.EpochCounts.{AreFew, SendsFew, counted_of, counts_by, counts_if, is_epochless, is_request}
use Rattle.answer_laws.proofs.EpochCounts.{plain_counts, put_counts, put_few, sends_count}
use Rattle.answer_laws.proofs.EpochFlow.{at_place, dih_counts, dih_few, dih_gives, dih_plain, dih_stays, is_conf}
use Rattle.answer_laws.proofs.EpochFlow.{is_epoch, is_req, lqh_plain, move_epochs, plain_none, req_body, tc_confless}
use Rattle.answer_laws.proofs.EpochFlow.{tc_epochs}
use Rattle.answer_laws.proofs.EpochLives.{AreCounted, step_counts}
use Rattle.host_laws.proofs.hosts.BlocksAlong.{IsAtNode, at_own_node}
use Rattle.host_laws.proofs.hosts.LinkCounts.{all_three, sent_signals, signals, taken_signals}
use Rattle.host_laws.proofs.rows.Sends.{lqh_kinds}
use Rattle.host_laws.proofs.hosts.SendKinds.{are_of, is_dih_kind, is_lqh_kind, of_kind}
use Rattle.host_laws.proofs.api.Wishes.{second_fails, sends_of}
use Rattle.host_laws.proofs.hosts.StartedHosts.{one_part}

-- a host of a coordinator runs nothing else than that and epochs
pub tc_no_api : (s : Host) → has_tc s ≡ true → has_api s ≡ true → ⊥
tc_no_api (Shell s) on api = false≢true on
tc_no_api (Main m) on api = false≢true on
tc_no_api (Tc p) on api = false≢true api
tc_no_api (Ldm s) on api = false≢true on

pub tc_no_rows : (s : Host) → has_tc s ≡ true → has_lqh s ≡ true → ⊥
tc_no_rows (Shell s) on rows = false≢true on
tc_no_rows (Main m) on rows = false≢true on
tc_no_rows (Tc p) on rows = false≢true rows
tc_no_rows (Ldm s) on rows = false≢true on

idle_dih : (s : Host) (at : BlockId) → has_tc s ≡ true → runs s at ≡ false → is_dih at ≡ false
idle_dih (Tc p) block.Dih on off = absurd (true≢false off)
idle_dih (Tc p) _ on off = refl
idle_dih (Shell s) at on off = absurd (false≢true on)
idle_dih (Main m) at on off = absurd (false≢true on)
idle_dih (Ldm s) at on off = absurd (false≢true on)

module _ (start : Start) (node : ℕ) where
  -- what the host sends to itself, and takes of that
  abbrev pub own_sent : List HostStep → List Addressed
  own_sent log = sent (machine start) (tc_host start node) (tc_host start node) log

  abbrev pub own_taken : List HostStep → List Addressed
  own_taken log = taken (machine start) (tc_host start node) log

  abbrev pub here : Place → Bool
  here to = host_for start to == tc_host start node

module _ (start : Start) (node : ℕ) (some : 1 ≤ node) (few_nodes : node ≤ start.shape.nodes) where
  any : TxId
  any = record { tc = 0; start = 0; seq = 0 }

  abbrev h : ℕ
  h = tc_host start node

  low : h < first_hosts start
  low = host_below start (coordinator node) some few_nodes

  on : (log : List HostStep) → has_tc (after start h log) ≡ true
  on log = tc_runs start node log some few_nodes

  own_place : (log : List HostStep) → here start node (epochs (tc_of (after start h log)).node) ≡ true
  own_place log =
      let of : IsAtNode start h (tc_of (after start h log)) = at_own_node start h log low (on log) in
      eq-eqb _ _ (one_part start (tc_of (after start h log)).node ∙ sym of.is)

  -- the block of epochs counts, of what its node's coordinator has sent to it, what that has asked for
  pub record SentCounts (log : List HostStep) : Type 0 where
    pub counted : AreCounted (tc_of (after start h log)) (counted_of (own_sent start node log))
    pub few : AreFew (own_sent start node log)

  first_counts : AreCounted (tc_of (started start h)) []
  unfolding fresh_part
  first_counts = subst (λ g. AreCounted (tc_of g) []) (sym (tc_started start node some few_nodes))
      (record { all = refl; own = λ v. refl; room = omega arith })

  pub sent_counts : (log : List HostStep) → SentCounts log
  sent_counts [] = record { counted = first_counts; few = tt }
  sent_counts (e ∷ log) =
      next (sent_counts log) (step_after start h log e) refl (block_case (after start h log) e.step.taken)
    where
      next : SentCounts log → (t : Step Host) → step_after start h log e ≡ t
          → BlockCase (after start h log) e.step.taken t → SentCounts (e ∷ log)
      next k t is case = finish case
        where
          s : Host
          s = after start h log

          before : List Addressed
          before = own_sent start node log

          few_from : SendsFew (here start node) t.effects.sends (counted_of before)
              → AreFew (own_sent start node (e ∷ log))
          few_from f =
              put_few start h e.step.stamp (sent_count start h log) (step_after start h log e).effects.sends before
              k.few
              (subst (λ (u : Step Host). SendsFew (here start node) u.effects.sends (counted_of before)) (sym is) f)

          count_is : counted_of (own_sent start node (e ∷ log)) ≡ sends_count (here start node) t.effects.sends
              (counted_of before)
          count_is =
              put_counts start h e.step.stamp (sent_count start h log) (step_after start h log e).effects.sends before
              ∙ ap (λ (u : Step Host). sends_count (here start node) u.effects.sends (counted_of before)) is

          made : AreCounted (tc_of t.state) (sends_count (here start node) t.effects.sends (counted_of before))
              → SendsFew (here start node) t.effects.sends (counted_of before) → SentCounts (e ∷ log)
          made c f = record {
            counted =
                subst (λ (u : Step Host). AreCounted (tc_of u.state) (counted_of (own_sent start node (e ∷ log))))
                (sym is) (subst (AreCounted (tc_of t.state)) (sym count_is) c);
            few = few_from f;
          }

          plain : tc_of t.state ≡ tc_of s → are_of is_epochless t.effects.sends ≡ true → SentCounts (e ∷ log)
          plain tc kind =
              let p = plain_counts (here start node) t.effects.sends (counted_of before) kind in
              made (subst (AreCounted (tc_of t.state)) (sym p.0)
              (subst (λ u. AreCounted u (counted_of before)) (sym tc) k.counted)) p.1

          finish : BlockCase s e.step.taken t → SentCounts (e ∷ log)
          finish (tc_takes step) =
              let c = step_counts (tc_of s) (here start node) (own_place log) e.step.taken.body
              (counted_of before) k.counted (at_tc start any h log).own in
              made
              (subst (λ u. AreCounted u (sends_count (here start node) t.effects.sends (counted_of before)))
              (sym step.state)
              (subst (λ f. AreCounted (tc_table (tc_of s) e.step.taken.body).state
              (sends_count (here start node) f.sends (counted_of before))) (sym step.effects) c.counted))
              (subst (λ f. SendsFew (here start node) f.sends (counted_of before)) (sym step.effects) c.few)
          finish (dih_takes step) =
              plain step.tc (ap (λ f. are_of is_epochless f.sends) step.effects
              ∙ of_kind is_dih_kind is_epochless dih_plain (dih_table (dih_of s) e.step.taken.body).effects.sends
              (dih_kinds (dih_of s) e.step.taken.body))
          finish (none_takes step) =
              plain (ap (λ u. tc_of u.state) step.is) (ap (λ u. are_of is_epochless u.effects.sends) step.is)
          finish (api_takes step) = absurd (tc_no_api s (on log) step.runs)
          finish (rows_take step) = absurd (tc_no_rows s (on log) step.runs)

  -- no other host sends anything to it
  other_epochless : (k : ℕ) (log : List HostStep) → k < first_hosts start → k ≢ h
      → signals is_epoch (sent (machine start) k h log) ≡ 0
  other_epochless k [] under differs = refl
  other_epochless k (e ∷ log) under differs =
      omega (arith, other_epochless k log under differs, sent_signals start is_epoch k h e log, none)
    where
      s : Host
      s = after start k log

      off : has_tc s ≡ true → here start node (epochs (tc_of s).node) ≡ false
      off runs = go (here start node (epochs (tc_of s).node)) refl
        where
          go : (b : Bool) → here start node (epochs (tc_of s).node) ≡ b
              → here start node (epochs (tc_of s).node) ≡ false
          go false q = q
          go true q = absurd (differs ((at_own_node start k log under runs).is ∙ sym (one_part start (tc_of s).node)
              ∙ eqb-true _ _ q))

      none : sends_of (at_place (here start node) is_epoch) (step_after start k log e).effects.sends ≡ 0
      none =
          of_effects (λ f. sends_of (at_place (here start node) is_epoch) f.sends ≡ 0) s e.step.taken refl (record {
            api = λ runs at. move_epochs (here start node)
                (api_of s) e.step.taken.body _ _ (api_moves (api_of s) e.step.taken.body);
            tc = λ runs at. tc_epochs (tc_of s) (here start node) (off runs) e.step.taken.body;
            dih = λ runs at. plain_none (here start node) _ (of_kind is_dih_kind is_epochless dih_plain
                (dih_table (dih_of s) e.step.taken.body).effects.sends (dih_kinds (dih_of s) e.step.taken.body));
            rows = λ runs at. plain_none (here start node) _ (of_kind is_lqh_kind is_epochless lqh_plain
                (lqh_table (lqh_of s) e.step.taken.body).effects.sends (lqh_kinds (lqh_of s) e.step.taken.body));
          })

  -- it took such signals from itself alone
  abbrev pub AreOwn : List HostStep → Type 0
  AreOwn log = (k : ℕ) → k ≢ h → signals is_epoch (taken (machine start) k log) ≡ 0

  pub all_own : (logs : ℕ → List HostStep) → IsWithin (first_hosts start) logs → AreLogs (machine start) logs
      → AreOwn (logs h)
  all_own logs within right k differs = by (cases_lt k (first_hosts start))
    where
      by : (k < first_hosts start) ⊎ (first_hosts start ≤ k) → signals is_epoch (taken (machine start) k (logs h)) ≡ 0
      by (inl under) = omega (arith, few_taken start logs right is_epoch k h, other_epochless k (logs k) under differs)
      by (inr high) = omega (
        arith,
        few_taken start logs right is_epoch k h,
        ap (λ log. signals is_epoch (sent (machine start) k h log)) (within k high),
      )

  less_own : (e : HostStep) (log : List HostStep) → AreOwn (e ∷ log) → AreOwn log
  less_own e log own k differs = omega (arith, own k differs, taken_signals start is_epoch k e log)

  plain_asked : (body : Body) → is_epochless body ≡ false → is_asked body ≡ false
  plain_asked (Epoch (DiVerifyReq tx ops)) e = refl
  plain_asked (Epoch (DiVerifyEnd tx)) e = refl
  plain_asked _ e = cc

  from_own : (e : HostStep) (log : List HostStep) → AreOwn (e ∷ log) → is_epoch e.step.taken.to e.step.taken.body ≡ true
      → is_from (machine start) h e ≡ true
  from_own e log own is = at (cases_eq e.step.taken.from.0 h)
    where
      kind : (b : Bool) → is_epochless e.step.taken.body ≡ b → is_epochless e.step.taken.body ≡ false
      kind false q = q
      kind true q = absurd (false≢true (sym (second_fails (is_dih e.step.taken.to.block) (ap not q)) ∙ is))

      from : (k : ℕ) → e.step.taken.from.0 ≡ k
          → (is_from (machine start) k e && is_epoch e.step.taken.to e.step.taken.body) ≡ true
      from k same =
          all_three (is_asked e.step.taken.body) (e.step.taken.from.0 == k) (is_epoch e.step.taken.to e.step.taken.body)
          (plain_asked e.step.taken.body (kind (is_epochless e.step.taken.body) refl)) (grind (arith, nat_tests, same))
          is

      first : (a b : Bool) → (a && b) ≡ true → a ≡ true
      first true b q = refl
      first false b q = q

      at : (e.step.taken.from.0 ≡ h) ⊎ (e.step.taken.from.0 ≢ h) → is_from (machine start) h e ≡ true
      at (inl same) = first _ _ (from h same)
      at (inr differs) = absurd (omega (
        arith,
        own e.step.taken.from.0 differs,
        taken_signals start is_epoch e.step.taken.from.0 e log,
        ap one_if (from e.step.taken.from.0 refl),
      ))

  -- what the block counts, and whom it has given an epoch
  pub record DihIs (log : List HostStep) : Type 0 where
    pub number : (dih_of (after start h log)).node ≡ node
    pub counted : (dih_of (after start h log)).counted ≡ counted_of (own_taken start node log)
    pub few : (tx : TxId)
        → signals (is_conf tx) (own_sent start node log) ≤ signals (is_req tx) (own_taken start node log)
    pub gives : AreFew (own_taken start node log) → (tx : TxId)
        → signals (is_req tx) (own_taken start node log) ≤ signals (is_conf tx) (own_sent start node log)

  first_dih : DihIs []
  unfolding fresh_part
  first_dih = record {
    number = ap (λ g. (dih_of g).node) (tc_started start node some few_nodes);
    counted = ap (λ g. (dih_of g).counted) (tc_started start node some few_nodes);
    few = λ tx. omega arith;
    gives = λ f tx. omega arith;
  }

  -- a step that isn't the block's, and which isn't for it
  record IsOther (s : Host) (x : Signal) (t : Step Host) : Type 0 where
    same : dih_of t.state ≡ dih_of s
    off : is_dih x.to.block ≡ false
    none : (tx : TxId) → sends_of (at_place (here start node) (is_conf tx)) t.effects.sends ≡ 0

  dih_turn : (s : Host) (x : Signal) (t : Step Host) → has_tc s ≡ true → BlockCase s x t
      → IsDihStep s x t ⊎ IsOther s x t
  dih_turn s x t runs (dih_takes step) = inl step
  dih_turn s x t runs (tc_takes step) =
      inr (record {
        same = step.dih;
        off = ap is_dih step.at;
        none = λ tx. ap (λ f. sends_of (at_place (here start node) (is_conf tx)) f.sends) step.effects ∙ tc_confless
            (here start node) tx (tc_of s) x.body;
      })
  dih_turn s x t runs (none_takes step) =
      inr (record {
        same = ap (λ u. dih_of u.state) step.is;
        off = idle_dih s x.to.block runs step.runs;
        none = λ tx. ap (λ u. sends_of (at_place (here start node) (is_conf tx)) u.effects.sends) step.is;
      })
  dih_turn s x t runs (api_takes step) = absurd (tc_no_api s runs step.runs)
  dih_turn s x t runs (rows_take step) = absurd (tc_no_rows s runs step.runs)

  -- one asked at another block, or a signal of another kind, is none
  req_epoch : (tx : TxId) (to : Place) (body : Body) → is_req tx to body ≡ true → is_epoch to body ≡ true
  req_epoch tx to (Epoch (DiVerifyReq other ops)) e = by (is_dih to.block) e
    where
      by : (b : Bool) → (b && same_tx other tx) ≡ true → (b && true) ≡ true
      by true q = refl
      by false q = q
  req_epoch tx to _ e = cc

  req_at : (tx : TxId) (to : Place) (body : Body)
      → one_if (is_req tx to body) ≡ one_if (is_dih to.block && req_body tx body)
  req_at tx to (Epoch (DiVerifyReq other ops)) = refl
  req_at tx to _ = by (is_dih to.block)
    where
      by : (c : Bool) → 0 ≡ one_if (c && false)
      by true = refl
      by false = refl

  pub dih_is : (log : List HostStep) → AreOwn log → DihIs log
  dih_is [] own = first_dih
  dih_is (e ∷ log) own = next (dih_is log (less_own e log own))
      (dih_turn (after start h log) e.step.taken (step_after start h log e) (on log)
      (block_case (after start h log) e.step.taken))
    where
      next : DihIs log
          → IsDihStep (after start h log) e.step.taken (step_after start h log e) ⊎ IsOther
          (after start h log) e.step.taken (step_after start h log e)
          → DihIs (e ∷ log)
      next k which = finish which
        where
          d : DihState
          d = dih_of (after start h log)

          x : Signal
          x = e.step.taken

          sent_now : (tx : TxId)
              → signals (is_conf tx) (own_sent start node (e ∷ log)) ≡ sends_of
              (at_place (here start node) (is_conf tx)) (step_after start h log e).effects.sends + signals (is_conf tx)
              (own_sent start node log)
          sent_now tx = sent_signals start (is_conf tx) h h e log

          few_before : AreFew (own_taken start node (e ∷ log)) → AreFew (own_taken start node log)
          few_before f = by (is_from (machine start) h e) f
            where
              by : (b : Bool) → AreFew
                  (if b then record {
                    to = e.host;
                    signal =
                        x;
                  } ∷ own_taken start node log else own_taken start node log) → AreFew (own_taken start node log)
              by true f = f.1
              by false f = f

          -- of what it doesn't heed nothing comes
          unheeded : (b c : Bool) (body : Body) (xs : List TxId) → (b && not (is_epochless body)) ≡ false → c ≡ b
              → counts_if c body xs ≡ xs
          unheeded true true (Epoch (DiVerifyReq tx ops)) xs off same = cc
          unheeded true true (Epoch (DiVerifyEnd tx)) xs off same = cc
          unheeded true true _ xs off same = refl
          unheeded b false body xs off same = refl
          unheeded false true body xs off same = cc

          skipped : is_epoch x.to x.body ≡ false
              → counted_of (own_taken start node (e ∷ log)) ≡ counted_of (own_taken start node log)
          skipped off = by (is_from (machine start) h e)
            where
              by : (b : Bool) → counted_of
                  (if b then record {
                    to = e.host;
                    signal =
                        x;
                  } ∷ own_taken start node log else own_taken start node log) ≡ counted_of (own_taken start node log)
              by true =
                  unheeded (is_dih x.to.block) (is_dih x.to.block) x.body (counted_of (own_taken start node log)) off
                  refl
              by false = refl

          heeded : is_epoch x.to x.body ≡ true
              → counted_of (own_taken start node (e ∷ log)) ≡ counts_if (is_dih x.to.block) x.body
              (counted_of (own_taken start node log))
          heeded on = ap (λ b. counted_of
              (if b then record { to = e.host; signal = x } ∷ own_taken start node log else own_taken start node log))
              (from_own e log own on)

          -- a step of the block
          counted_now : is_dih x.to.block ≡ true → (b : Bool) → is_epoch x.to x.body ≡ b
              → counts_by x.body (counted_of (own_taken start node log)) ≡ counted_of (own_taken start node (e ∷ log))
          counted_now at true q =
              sym (heeded q ∙ ap (λ b. counts_if b x.body (counted_of (own_taken start node log))) at)
          counted_now at false q =
              sym (skipped q ∙ sym (unheeded (is_dih x.to.block) true x.body (counted_of (own_taken start node log)) q
              (sym at)))

          at_most : (tx : TxId) (b : Bool) → is_req tx x.to x.body ≡ b
              → one_if (is_req tx x.to x.body) ≤ one_if (is_from (machine start) h e && is_req tx x.to x.body)
          at_most tx true q =
              omega
              (arith, ap (λ c. one_if (c && is_req tx x.to x.body)) (from_own e log own (req_epoch tx x.to x.body q)))
          at_most tx false q = omega (arith, ap one_if q)

          -- who asks finds fewer counted than a coordinator keeps
          few_here : AreFew (own_taken start node (e ∷ log)) → is_dih x.to.block ≡ true → (tx : TxId)
              → req_body tx x.body ≡ true → length d.counted < TRANSACTIONS
          few_here f at tx q =
              subst (λ c. length c < TRANSACTIONS) (sym k.counted)
              (by (is_from (machine start) h e) (from_own e log own (asks (is_dih x.to.block) x.body at q)) f)
            where
              asks : (b : Bool) (body : Body) → b ≡ true → req_body tx body ≡ true
                  → (b && not (is_epochless body)) ≡ true
              asks true (Epoch (DiVerifyReq other ops)) p q = refl
              asks true _ p q = cc
              asks false body p q = absurd (false≢true p)

              wants : (b : Bool) (body : Body) → b ≡ true → req_body tx body ≡ true → (b && is_request body) ≡ true
              wants true (Epoch (DiVerifyReq other ops)) p q = refl
              wants true _ p q = cc
              wants false body p q = absurd (false≢true p)

              by : (b : Bool) → b ≡ true → AreFew
                  (if b then record {
                    to = e.host;
                    signal =
                        x;
                  } ∷ own_taken start node log else own_taken start node log) → length
                  (counted_of (own_taken start node log)) < TRANSACTIONS
              by true p f = f.0 (wants (is_dih x.to.block) x.body at q)
              by false p f = absurd (false≢true p)

          finish : IsDihStep (after start h log) x (step_after start h log e) ⊎ IsOther (after start h log) x
              (step_after start h log e)
              → DihIs (e ∷ log)
          finish (inl step) = record {
            number = ap (λ u. u.node) step.state ∙ dih_stays d x.body ∙ k.number;
            counted = ap (λ u. u.counted) step.state ∙ dih_counts d x.body ∙ ap (counts_by x.body) k.counted
                ∙ counted_now (ap is_dih step.at) (is_epoch x.to x.body) refl;
            few = λ tx. omega (
              arith,
              k.few tx,
              sent_now tx,
              taken_signals start (is_req tx) h e log,
              ap (λ f. sends_of (at_place (here start node) (is_conf tx)) f.sends) step.effects,
              dih_few (here start node) tx d x.body,
              req_at tx x.to x.body,
              ap (λ c. one_if (c && req_body tx x.body)) (ap is_dih step.at),
              at_most tx (is_req tx x.to x.body) refl,
            );
            gives = λ f tx. omega (
              arith,
              k.gives (few_before f) tx,
              sent_now tx,
              taken_signals start (is_req tx) h e log,
              and_few (is_from (machine start) h e) (is_req tx x.to x.body),
              ap (λ g. sends_of (at_place (here start node) (is_conf tx)) g.sends) step.effects,
              dih_gives (here start node) tx d x.body (eq-eqb _ _ (ap (tc_host start) k.number))
                  (few_here f (ap is_dih step.at) tx),
              req_at tx x.to x.body,
              ap (λ c. one_if (c && req_body tx x.body)) (ap is_dih step.at),
            );
          }
          finish (inr step) = record {
            number = ap (λ u. u.node) step.same ∙ k.number;
            counted = ap (λ u. u.counted) step.same ∙ k.counted
                ∙ sym (skipped (ap (λ c. c && not (is_epochless x.body)) step.off));
            few = λ tx. omega (arith, k.few tx, sent_now tx, taken_signals start (is_req tx) h e log, step.none tx);
            gives = λ f tx. omega (
              arith,
              k.gives (few_before f) tx,
              sent_now tx,
              taken_signals start (is_req tx) h e log,
              and_few (is_from (machine start) h e) (is_req tx x.to x.body),
              req_at tx x.to x.body,
              ap (λ c. one_if (c && req_body tx x.body)) step.off,
            );
          }
