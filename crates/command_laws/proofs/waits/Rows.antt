-- What a node does at questions of what a transaction waits for: it changes nothing, and asks, finds or passes on.
use Rattle.std.proofs.Common.{◌≡◌, ◌≤◌, ℕ, suc, Bool, true, false, List, [], ◌∷◌, refl, sym, ap, ◌∙◌, subst, inl, inr}
use Rattle.std.proofs.Common.{arith}
use Rattle.std.proofs.lemmas.Bool.Decides.{nat_tests}
use Rattle.std.specs.Map.{keys_of, values_of}
use Rattle.std.specs.Prelude.{◌==◌, ◌&&◌, Option, None, Some, if◌then◌else◌, is_some, map, nat_eq, not, position}
use Rattle.std.specs.Prelude.{slice_get}
use Rattle.indexmap.specs.IndexMap.{set_value_at}
use Rattle.run_theory.specs.Lists.{IsIn}
use Rattle.sig_core.proofs.Firsts.{place_by, position-cons}
use Rattle.sig_core.proofs.Keys.{same_key-self, same_tx-self}
use Rattle.sig_core.proofs.TxLemmas.{same_tx-swap}
use Rattle.sig_core.specs.declared.member.Member.{Member}
use Rattle.sig_core.specs.declared.member.TxId.{TxId}
use Rattle.sig_core.specs.declared.outs.Outgoing.{Outgoing}
use Rattle.sig_core.specs.declared.place.BlockId.{BlockId}
use Rattle.sig_core.specs.declared.place.BlockId.TheVariants as block
use Rattle.sig_core.specs.declared.place.Place.{Place}
use Rattle.sig_core.specs.declared.signal.Body.{Body}
use Rattle.sig_core.specs.declared.signal.Body.TheVariants.{Client}
use Rattle.sig_core.specs.declared.signal.client.ClientSignal.TheVariants.{LqhWaitConf, LqhWaitReq, TcWaitConf}
use Rattle.sig_core.specs.declared.signal.client.ClientSignal.TheVariants.{TcWaitReq}
use Rattle.sig_core.specs.declared.signal.Signal.{Signal}
use Rattle.sig_core.specs.Op.{key_of}
use Rattle.sig_core.specs.Place.{client}
use Rattle.sig_core.specs.Same.{same_key, same_tx}
use Rattle.sig_core.specs.Step.{Effects, Step}
use Rattle.row_locks.specs.Tables.{ahead_at}
use Rattle.lqh_block.specs.Lqh.{lqh_table}
use Rattle.lqh_block.specs.State.{LqhState}
use Rattle.lqh_block.proofs.LqhForms.{wait_forms}
use Rattle.node_core.proofs.HostCases.{BlockCase, HostCase, api_takes, block_case, dih_takes, host_case, none_takes}
use Rattle.node_core.proofs.HostCases.{of_api, of_dih, of_none, of_rows, of_tc, rows_take, runs, tc_takes}
use Rattle.node_core.specs.Blocks.{has_api, has_lqh, lqh_of, tc_of}
use Rattle.node_core.specs.declared.host.Host.{Host}
use Rattle.node_core.specs.declared.host.Host.TheVariants.{Ldm, Tc}
use Rattle.node_core.specs.Dih.{DihState, dih_table}
use Rattle.node_core.specs.Row.{row}
use Rattle.tc_block.proofs.LiveSplit.{split_at}
use Rattle.tc_block.specs.declared.phase.Asked.{Asked}
use Rattle.tc_block.specs.declared.transaction.Transaction.{Transaction}
use Rattle.tc_block.specs.Live.{place_in, step_of, step_place, step_value, stepped}
use Rattle.tc_block.specs.Operate.{wait_by, wait_row}
use Rattle.tc_block.specs.Sends.{wait_of, waits_of}
use Rattle.tc_block.specs.State.{TcState, with_live}
use Rattle.tc_block.specs.Tc.{pass_if, pass_row, tc_table, tc_row}
use Rattle.world_core.proofs.HostNumbers.{client_host}
use Rattle.world_core.specs.Hosts.{home, host_for, rows_host}
use Rattle.world_core.specs.Start.{Start}
use Rattle.host_laws.proofs.hosts.BlocksAlong.{no_live}
use Rattle.host_laws.proofs.hosts.LinkCounts.{to_host}
use Rattle.host_laws.proofs.rows.Operations.{is_lqh, true_and, left_of, right_of}
use Rattle.host_laws.proofs.hosts.SendKinds.{are_of, none_of, of_map, one_kind}
use Rattle.run_theory.proofs.Tally.{tally_in}
use Rattle.host_laws.proofs.coordinator.Moves.{same_tx-is}
use Rattle.host_laws.proofs.coordinator.Sends.{eqb-self}
use Rattle.host_laws.proofs.api.Wishes.{is_api, is_tc, sends_of}
use Rattle.run_theory.specs.Counts.{one_if}
use Rattle.host_laws.specs.Live.{of_live}
use Rattle.command_laws.proofs.hosts.HostKinds.{no_rows, runs_rows}
use Rattle.command_laws.proofs.hosts.BlockSteps.{tc_host}

-- a question of what the transaction waits for, or an answer to one
abbrev pub is_wait_of : TxId → Body → Bool
is_wait_of tx (Client (TcWaitReq other)) = same_tx other tx
is_wait_of tx (Client (LqhWaitReq other key)) = same_tx other tx
is_wait_of tx (Client (LqhWaitConf other ahead)) = same_tx other tx
is_wait_of tx (Client (TcWaitConf other ahead)) = same_tx other tx
is_wait_of tx _ = false

abbrev pub is_other : TxId → Place → Body → Bool
is_other tx to body = not (is_wait_of tx body)

-- its coordinator is asked
abbrev pub want_of : TxId → Body → Bool
want_of tx (Client (TcWaitReq other)) = same_tx other tx
want_of tx _ = false

abbrev pub is_want : TxId → Place → Body → Bool
is_want tx to body = is_tc to.block && want_of tx body

-- the rows of a node are asked, about a key
abbrev pub probe_of : TxId → List ℕ → Body → Bool
probe_of tx key (Client (LqhWaitReq other at)) = same_tx other tx && same_key at key
probe_of tx key _ = false

abbrev pub is_probe : TxId → List ℕ → Place → Body → Bool
is_probe tx key to body = is_lqh to.block && probe_of tx key body

-- its coordinator is told
abbrev pub found_of : TxId → Body → Bool
found_of tx (Client (LqhWaitConf other ahead)) = same_tx other tx
found_of tx _ = false

abbrev pub is_found : TxId → Place → Body → Bool
is_found tx to body = is_tc to.block && found_of tx body

-- the API is told
abbrev pub passed_of : TxId → Body → Bool
passed_of tx (Client (TcWaitConf other ahead)) = same_tx other tx
passed_of tx _ = false

abbrev pub is_passed : TxId → Place → Body → Bool
is_passed tx to body = is_api to.block && passed_of tx body

-- and of this one
abbrev pub tells_who : TxId → TxId → Body → Bool
tells_who tx who (Client (TcWaitConf other ahead)) = same_tx other tx && same_tx ahead who
tells_who tx who _ = false

abbrev pub is_telling_who : TxId → TxId → Place → Body → Bool
is_telling_who tx who to body = is_api to.block && tells_who tx who body

pub same_key-is : (a b : List ℕ) → same_key a b ≡ true → a ≡ b
same_key-is [] [] e = refl
same_key-is [] (y ∷ b) e = cc
same_key-is (x ∷ a) [] e = cc
same_key-is (x ∷ a) (y ∷ b) e = by (nat_eq x y) refl e (same_key-is a b)
  where
    by : (c : Bool) → nat_eq x y ≡ c → (c && same_key a b) ≡ true → (same_key a b ≡ true → a ≡ b) → x ∷ a ≡ y ∷ b
    by true is both rest = let first : x ≡ y = grind (arith, nat_tests, is) in ap (λ n. n ∷ a) first
        ∙ ap (λ w. y ∷ w) (rest both)
    by false is both rest = cc

-- one of a list stands among what is made of it
in_made : {A B : Type 0} (g : A → B) (x : A) (xs : List A) → IsIn x xs → IsIn (g x) (map g xs)
in_made g x [] i = absurd i
in_made g x (y ∷ xs) (inl same) = inl (ap g same)
in_made g x (y ∷ xs) (inr i) = inr (in_made g x xs i)

-- where the transaction stands among those of its coordinator
pub record IsPlacedAt (tx : TxId) (t : Transaction) (live : List (TxId × Transaction)) : Type 0 where
  pub at : ℕ
  pub place : position (same_tx tx) (keys_of live) ≡ Some at
  pub get : slice_get (values_of live) at ≡ Some t

pub placed_at : (tx : TxId) (live : List (TxId × Transaction)) (t : Transaction) → of_live tx live ≡ Some t
    → IsPlacedAt tx t live
placed_at tx [] t is = absurd cc
placed_at tx (e ∷ live) t is = by (same_tx e.0 tx) refl is (placed_at tx live t)
  where
    by : (b : Bool) → same_tx e.0 tx ≡ b → (if b then Some e.1 else of_live tx live) ≡ Some t
        → (of_live tx live ≡ Some t → IsPlacedAt tx t live) → IsPlacedAt tx t (e ∷ live)
    by true same found rest = record {
      at = 0;
      place = position-cons (same_tx tx) e.0 (keys_of live)
          ∙ ap (λ b. place_by b (position (same_tx tx) (keys_of live))) (same_tx-swap tx e.0 ∙ same);
      get = found;
    }
    by false differs found rest =
        let r = rest found in
        record {
          at = suc r.at;
          place = position-cons (same_tx tx) e.0 (keys_of live)
              ∙ ap (λ b. place_by b (position (same_tx tx) (keys_of live))) (same_tx-swap tx e.0 ∙ differs)
              ∙ ap (place_by false) r.place;
          get = r.get;
        }

-- the coordinator at these signals
module _ (start : Start) (tx : TxId) where
  no_other : (to : Place) (body : Body) → is_wait_of tx body ≡ true → is_other tx to body ≡ false
  no_other to body e = ap not e

  -- nothing changes, and no other signals are sent
  pub record IsQuietStep {S : Type 0} (s : S) (step : Step S) : Type 0 where
    pub same : step.state ≡ s
    pub plain : sends_of (is_other tx) step.effects.sends ≡ 0

  of_kind_step : {S : Type 0} (s : S) (step : Step S) → step.state ≡ s
      → are_of (is_wait_of tx) step.effects.sends ≡ true → IsQuietStep s step
  of_kind_step s step same kind = record {
    same = same;
    plain =
        none_of (is_wait_of tx) (is_other tx) no_other step.effects.sends kind;
  }

  waits_kind : (one : TxId) (key : List ℕ) (members : List Member) → same_tx one tx ≡ true
      → are_of (is_wait_of tx) (waits_of one key members) ≡ true
  waits_kind one key members e = of_map (is_wait_of tx) (wait_of one key) members (λ m. e)

  row_state_same : (one : TxId) (t : Transaction) → (wait_row one t).state ≡ t
  unfolding wait_row
  row_state_same one t = by t.asked
    where
      by : (o : Option Asked) → (wait_by one t o).state ≡ t
      by None = refl
      by (Some asked) = refl

  row_kind : (one : TxId) (t : Transaction) → same_tx one tx ≡ true
      → are_of (is_wait_of tx) (wait_row one t).effects.sends ≡ true
  unfolding wait_row
  row_kind one t e = by t.asked
    where
      by : (o : Option Asked) → are_of (is_wait_of tx) (wait_by one t o).effects.sends ≡ true
      by None = refl
      by (Some asked) = waits_kind one (key_of asked.op) asked.chain e

  want_step : (s : TcState) (one : TxId) → same_tx one tx ≡ true → IsQuietStep s (step_of s one (wait_row one))
  want_step s one e = at_place (place_in s one) refl
    where
      at_value : (at : ℕ) → place_in s one ≡ Some at → (o : Option Transaction) → slice_get (values_of s.live) at ≡ o
          → IsQuietStep s (step_value s (wait_row one) at o)
      at_value at at_is None is = of_kind_step s _ refl refl
      at_value at at_is (Some t) is =
          let split = split_at one s.live at t at_is is in
          let live_same : set_value_at s.live at (wait_row one t).state ≡ s.live =
          ap (set_value_at s.live at) (row_state_same one t) ∙ split.set t ∙ sym split.is in
          of_kind_step s (stepped s at (wait_row one t)) (ap (with_live s) live_same) (row_kind one t e)

      at_place : (o : Option ℕ) → place_in s one ≡ o → IsQuietStep s (step_place s (wait_row one) o)
      at_place None is = of_kind_step s _ refl refl
      at_place (Some at) is = at_value at is (slice_get (values_of s.live) at) refl

  pass_step : (s : TcState) (one ahead : TxId) (b : Bool) → same_tx one tx ≡ true
      → IsQuietStep s (pass_if s one ahead b)
  pass_step s one ahead true e = of_kind_step s (pass_if s one ahead true) refl (one_kind (same_tx one tx) e)
  pass_step s one ahead false e = of_kind_step s (pass_if s one ahead false) refl refl

  tc_waits : (s : TcState) (body : Body) → is_wait_of tx body ≡ true → IsQuietStep s (tc_table s body)
  unfolding pass_row
  tc_waits s (Client (TcWaitReq one)) e = want_step s one e
  tc_waits s (Client (LqhWaitConf one ahead)) e = pass_step s one ahead (is_some (place_in s one)) e
  tc_waits s (Client (LqhWaitReq one key)) e = of_kind_step s _ refl refl
  tc_waits s (Client (TcWaitConf one ahead)) e = of_kind_step s _ refl refl
  tc_waits s _ e = cc

  dih_waits : (s : DihState) (body : Body) → is_wait_of tx body ≡ true → IsQuietStep s (dih_table s body)
  dih_waits s (Client (TcWaitReq one)) e = of_kind_step s _ refl refl
  dih_waits s (Client (LqhWaitConf one ahead)) e = of_kind_step s _ refl refl
  dih_waits s (Client (LqhWaitReq one key)) e = of_kind_step s _ refl refl
  dih_waits s (Client (TcWaitConf one ahead)) e = of_kind_step s _ refl refl
  dih_waits s _ e = cc

  lqh_waits : (s : LqhState) (body : Body) → is_wait_of tx body ≡ true → IsQuietStep s (lqh_table s body)
  lqh_waits s (Client (TcWaitReq one)) e = of_kind_step s _ refl refl
  lqh_waits s (Client (LqhWaitConf one ahead)) e = of_kind_step s _ refl refl
  lqh_waits s (Client (LqhWaitReq one key)) e =
      wait_forms (λ step. IsQuietStep s step) s one key (record {
        none = λ is. of_kind_step s _ refl refl;
        some = λ ahead is. of_kind_step s _ refl (one_kind (same_tx one tx) e);
      })
  lqh_waits s (Client (TcWaitConf one ahead)) e = of_kind_step s _ refl refl
  lqh_waits s _ e = cc

  -- a host behind the shell's changes nothing
  pub host_waits : (g : Host) (x : Signal) → has_api g ≡ false → is_wait_of tx x.body ≡ true → IsQuietStep g (row g x)
  host_waits g x none e = go (row g x) (host_case g x)
    where
      go : (t : Step Host) → HostCase g x t → IsQuietStep g t
      go t (of_api a is at) = absurd (let both : true ≡ false = sym (ap has_api is) ∙ none in cc)
      go t (of_tc p is at) = let q = tc_waits p.tc x.body e in
          record { same = ap (λ (s : TcState). Tc (record { tc = s; dih = p.dih })) q.same ∙ sym is; plain = q.plain }
      go t (of_dih p is at) = let q = dih_waits p.dih x.body e in
          record { same = ap (λ (s : DihState). Tc (record { tc = p.tc; dih = s })) q.same ∙ sym is; plain = q.plain }
      go t (of_rows l is at) = let q = lqh_waits l x.body e in record {
        same = ap (λ (s : LqhState). Ldm s) q.same
            ∙ sym is;
        plain = q.plain;
      }
      go t (of_none off) = record { same = refl; plain = refl }

  -- what it sends on
  -- a coordinator that has the transaction's operation unanswered asks each node that this was sent along
  wants_here : (s : TcState) (t : Transaction) (asked : Asked) (member : Member) → of_live tx s.live ≡ Some t
      → t.asked ≡ Some asked → IsIn member asked.chain
      → 1 ≤ sends_of (to_host start (rows_host start member.node) (is_probe tx (key_of asked.op)))
      (step_of s tx (wait_row tx)).effects.sends
  unfolding wait_row
  wants_here s t asked member live unanswered inside =
      subst (λ (step : Step TcState). 1 ≤ sends_of
      (to_host start (rows_host start member.node) (is_probe tx (key_of asked.op))) step.effects.sends) (sym there)
      (tally_in (λ (x : Outgoing). to_host start (rows_host start member.node)
      (is_probe tx (key_of asked.op)) x.to x.body) (wait_of tx (key_of asked.op) member)
      (waits_of tx (key_of asked.op) asked.chain)
      (in_made (wait_of tx (key_of asked.op)) member asked.chain inside)
      (true_and (rows_host start member.node == rows_host start member.node) _ (eqb-self (rows_host start member.node))
      (true_and (same_tx tx tx) (same_key (key_of asked.op) (key_of asked.op)) (same_tx-self tx)
      (same_key-self (key_of asked.op)))))
    where
      p : IsPlacedAt tx t s.live
      p = placed_at tx s.live t live

      there : step_of s tx (wait_row tx) ≡ stepped s p.at (wait_by tx t (Some asked))
      there = ap (step_place s (wait_row tx)) p.place ∙ ap (step_value s (wait_row tx) p.at) p.get
          ∙ ap (λ o. stepped s p.at (wait_by tx t o)) unanswered

  tc_wants : (s : TcState) (t : Transaction) (asked : Asked) (member : Member) → of_live tx s.live ≡ Some t
      → t.asked ≡ Some asked → IsIn member asked.chain → (body : Body) → want_of tx body ≡ true
      → 1 ≤ sends_of (to_host start (rows_host start member.node) (is_probe tx (key_of asked.op)))
      (tc_table s body).effects.sends
  tc_wants s t asked member live unanswered inside (Client (TcWaitReq one)) e =
      subst (λ v. 1 ≤ sends_of (to_host start (rows_host start member.node) (is_probe tx (key_of asked.op)))
      (step_of s v (λ w. wait_row v w)).effects.sends) (sym (same_tx-is one tx e))
      (wants_here s t asked member live unanswered inside)
  tc_wants s t asked member live unanswered inside _ e = cc

  -- where a coordinator has the transaction, what it sends at such a signal is sent
  has_it : (test : Place → Body → Bool) (of : Body → Bool) (g : Host) (x : Signal) (t : Transaction)
      → of_live tx (tc_of g).live ≡ Some t → (is_tc x.to.block && of x.body) ≡ true
      → (of x.body ≡ true → 1 ≤ sends_of test (tc_row (tc_of g) x).effects.sends)
      → 1 ≤ sends_of test (row g x).effects.sends
  has_it test of g x t live is sends =
      tc_host (λ (step : Step TcState). 1 ≤ sends_of test step.effects.sends) g x
      (λ runs at. sends (last x.to.block is))
      (λ effects none off. absurd (let both : None ≡ Some t =
      sym (ap (of_live tx) (no_live g (off (for_tc x.to.block is)))) ∙ live in cc))
    where
      last : (at : BlockId) → (is_tc at && of x.body) ≡ true → of x.body ≡ true
      last block.Tc e = e
      last _ e = cc

      for_tc : (at : BlockId) → (is_tc at && of x.body) ≡ true → at ≡ block.Tc
      for_tc block.Tc e = refl
      for_tc _ e = cc

  pub host_wants : (g : Host) (t : Transaction) (asked : Asked) (member : Member) → of_live tx (tc_of g).live ≡ Some t
      → t.asked ≡ Some asked → IsIn member asked.chain → (x : Signal) → is_want tx x.to x.body ≡ true
      → 1 ≤ sends_of (to_host start (rows_host start member.node) (is_probe tx (key_of asked.op)))
      (row g x).effects.sends
  host_wants g t asked member live unanswered inside x is = has_it _ (want_of tx) g x t live is
      (λ e. tc_wants (tc_of g) t asked member live unanswered inside x.body e)

  -- the rows of a node where it is held up tell its coordinator
  lqh_finds : (s : LqhState) (key : List ℕ) → is_some (ahead_at s.locks key tx) ≡ true → (body : Body)
      → probe_of tx key body ≡ true → 1 ≤ sends_of (to_host start (home start tx) (is_found tx))
      (lqh_table s body).effects.sends
  lqh_finds s key held (Client (LqhWaitReq one at)) e =
      wait_forms (λ step. 1 ≤ sends_of (to_host start (home start tx) (is_found tx)) step.effects.sends) s one at
      (record {
        none = λ is. absurd (let both : false ≡ true = sym (ap is_some is) ∙ here in cc);
        some = λ ahead is. omega (
          arith,
          ap one_if (true_and (home start one == home start tx) (same_tx one tx)
              (subst (λ u. (home start u == home start tx) ≡ true) (sym own) (eqb-self (home start tx))) mine),
        );
      })
    where
      mine : same_tx one tx ≡ true
      mine = left_of (same_tx one tx) (same_key at key) e

      own : one ≡ tx
      own = same_tx-is one tx mine

      here : is_some (ahead_at s.locks at one) ≡ true
      here =
          ap (λ u. is_some (ahead_at s.locks at u)) own
          ∙ (ap (λ k. is_some (ahead_at s.locks k tx))
          (same_key-is at key (right_of (same_tx one tx) (same_key at key) e)) ∙ held)
  lqh_finds s key held _ e = cc

  pub host_finds : (g : Host) (key : List ℕ) → is_some (ahead_at (lqh_of g).locks key tx) ≡ true → (x : Signal)
      → is_probe tx key x.to x.body ≡ true
      → 1 ≤ sends_of (to_host start (home start tx) (is_found tx)) (row g x).effects.sends
  host_finds g key held x is = go (row g x) (block_case g x)
    where
      for_rows : (at : BlockId) → (is_lqh at && probe_of tx key x.body) ≡ true → at ≡ block.Lqh
      for_rows block.Lqh e = refl
      for_rows _ e = cc

      last : (at : BlockId) → (is_lqh at && probe_of tx key x.body) ≡ true → probe_of tx key x.body ≡ true
      last block.Lqh e = e
      last _ e = cc

      at_rows : x.to.block ≡ block.Lqh
      at_rows = for_rows x.to.block is

      no_locks : has_lqh g ≡ false → ⊥
      no_locks none = let both : false ≡ true = sym (ap is_some (no_rows g none key tx)) ∙ held in cc

      go : (t : Step Host) → BlockCase g x t
          → 1 ≤ sends_of (to_host start (home start tx) (is_found tx)) t.effects.sends
      go t (rows_take step) =
          subst (λ (f : Effects). 1 ≤ sends_of (to_host start (home start tx) (is_found tx)) f.sends) (sym step.effects)
          (lqh_finds (lqh_of g) key held x.body (last x.to.block is))
      go t (api_takes step) = absurd (let both : block.Lqh ≡ block.Api = sym at_rows ∙ step.at in cc)
      go t (tc_takes step) = absurd (let both : block.Lqh ≡ block.Tc = sym at_rows ∙ step.at in cc)
      go t (dih_takes step) = absurd (let both : block.Lqh ≡ block.Dih = sym at_rows ∙ step.at in cc)
      go t (none_takes step) = absurd (no_locks (sym (runs_rows g) ∙ ap (runs g) (sym at_rows) ∙ step.runs))

  -- its coordinator passes that on to the API
  pass_one : (s : TcState) (ahead : TxId) (b : Bool) → b ≡ true
      → 1 ≤ sends_of (to_host start 0 (is_passed tx)) (pass_if s tx ahead b).effects.sends
  pass_one s ahead true e =
      omega (
        arith,
        ap one_if (true_and (host_for start client == 0) (same_tx tx tx) (ap (λ h. h == 0) (client_host start))
            (same_tx-self tx)),
      )
  pass_one s ahead false e = cc

  tc_passes : (s : TcState) (t : Transaction) → of_live tx s.live ≡ Some t → (body : Body) → found_of tx body ≡ true
      → 1 ≤ sends_of (to_host start 0 (is_passed tx)) (tc_table s body).effects.sends
  unfolding pass_row
  tc_passes s t live (Client (LqhWaitConf one ahead)) e =
      subst (λ v. 1 ≤ sends_of (to_host start 0 (is_passed tx))
      (pass_if s v ahead (is_some (place_in s v))).effects.sends) (sym (same_tx-is one tx e))
      (pass_one s ahead (is_some (place_in s tx)) (ap is_some (placed_at tx s.live t live).place))
  tc_passes s t live _ e = cc

  pub host_passes : (g : Host) (t : Transaction) → of_live tx (tc_of g).live ≡ Some t → (x : Signal)
      → is_found tx x.to x.body ≡ true → 1 ≤ sends_of (to_host start 0 (is_passed tx)) (row g x).effects.sends
  host_passes g t live x is = has_it _ (found_of tx) g x t live is (λ e. tc_passes (tc_of g) t live x.body e)
