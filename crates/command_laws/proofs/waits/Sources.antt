-- Where it comes from that a transaction waits for another: its coordinator was told so, by a node where it waits
-- behind that.
use Rattle.std.proofs.Common.{◌≡◌, ◌⊎◌, ◌<◌, ◌≤◌, ◌+◌, ℕ, Bool, true, false, List, [], ◌∷◌, ◌++◌, refl, sym, ap, ◌∙◌}
use Rattle.std.proofs.Common.{inl, inr, arith}
use Rattle.std.proofs.lemmas.Bool.{cases_lt}
use Rattle.std.proofs.lemmas.Bool.Decides.{nat_tests}
use Rattle.std.specs.Map.{values_of}
use Rattle.std.specs.Prelude.{◌==◌, ◌&&◌, Option, None, Some, is_some, slice_get}
use Rattle.run_theory.specs.Cuts.{IsCut}
use Rattle.run_theory.specs.Links.{is_from}
use Rattle.run_theory.specs.Lists.{IsIn}
use Rattle.sig_core.specs.declared.member.TxId.{TxId}
use Rattle.sig_core.specs.declared.place.Place.{Place}
use Rattle.sig_core.specs.declared.signal.Body.{Body}
use Rattle.sig_core.specs.declared.signal.Body.TheVariants.{Client}
use Rattle.sig_core.specs.declared.signal.client.ClientSignal.TheVariants.{TcWaitReq, LqhWaitReq, LqhWaitConf}
use Rattle.sig_core.specs.declared.signal.client.ClientSignal.TheVariants.{TcWaitConf}
use Rattle.sig_core.specs.declared.signal.Signal.{Signal}
use Rattle.sig_core.specs.Same.{same_tx}
use Rattle.row_locks.specs.Tables.{ahead_at}
use Rattle.lqh_block.specs.Lqh.{lqh_table}
use Rattle.lqh_block.specs.State.{LqhState}
use Rattle.lqh_block.proofs.LqhForms.{wait_forms}
use Rattle.node_core.proofs.HostCases.{of_effects}
use Rattle.node_core.specs.Blocks.{api_of, dih_of, lqh_of, tc_of}
use Rattle.node_core.specs.declared.host.Host.{Host}
use Rattle.node_core.specs.Dih.{dih_table}
use Rattle.node_core.specs.Requests.{is_request}
use Rattle.node_core.specs.Row.{row}
use Rattle.tc_block.specs.declared.phase.Asked.{Asked}
use Rattle.tc_block.specs.declared.transaction.Transaction.{Transaction}
use Rattle.tc_block.specs.Live.{place_in, step_of, step_place, step_value}
use Rattle.tc_block.specs.Operate.{wait_by, wait_row}
use Rattle.tc_block.specs.State.{TcState}
use Rattle.tc_block.specs.Tc.{pass_if, pass_row, tc_table}
use Rattle.world_core.specs.Machine.{machine, step_after}
use Rattle.world_core.specs.Start.{Start}
use Rattle.world_core.specs.Steps.{HostStep}
use Rattle.run_theory.proofs.Tally.{tally_in}
use Rattle.run_theory.specs.Counts.{one_if}
use Rattle.host_laws.proofs.api.Moves.{is_api_kind}
use Rattle.host_laws.proofs.hosts.DihSends.{dih_kinds}
use Rattle.host_laws.proofs.hosts.LinkCounts.{all_three}
use Rattle.host_laws.proofs.rows.Sends.{lqh_kinds}
use Rattle.host_laws.proofs.hosts.SendKinds.{are_of, is_dih_kind, is_lqh_kind, is_tc_kind, none_of, of_map}
use Rattle.host_laws.proofs.coordinator.Moves.{same_tx-is}
use Rattle.host_laws.proofs.coordinator.Sends.{tc_kinds}
use Rattle.host_laws.proofs.api.Wishes.{is_api, is_tc, sends_of}
use Rattle.host_laws.proofs.coordinator.Turns.{is_wait_kind}
use Rattle.answer_laws.specs.Answered.{AreQuiet}
use Rattle.command_laws.proofs.hosts.HostSends.{IsNotOfApi, IsOfTc, api_silent, is_other_kind, not_of_api, not_of_dih}
use Rattle.command_laws.proofs.hosts.HostSends.{not_of_lqh}
use Rattle.command_laws.proofs.quiet.Since.{few_taken, sent_since}
use Rattle.command_laws.proofs.waits.Rows.{is_telling_who, is_wait_of, tells_who}

-- a step of these sends what passes the test
pub record SentBy (start : Start) (test : Place → Body → Bool) (h : ℕ) (newer log : List HostStep) : Type 0 where
  pub step : HostStep
  pub front : List HostStep
  pub back : List HostStep
  pub is : newer ≡ front ++ step ∷ back
  pub sends : 1 ≤ sends_of test (step_after start h (back ++ log) step).effects.sends

pub sent_by : (start : Start) (test : Place → Body → Bool) (h : ℕ) (newer log : List HostStep)
    → 1 ≤ sent_since start test h newer log → SentBy start test h newer log
sent_by start test h [] log some = absurd (omega (arith, some))
sent_by start test h (e ∷ newer) log some =
    by (cases_lt 0 (sends_of test (step_after start h (newer ++ log) e).effects.sends)) (sent_by start test h newer log)
  where
    by : (0 < sends_of test (step_after start h (newer ++ log) e).effects.sends)
        ⊎ (sends_of test (step_after start h (newer ++ log) e).effects.sends ≤ 0)
        → (1 ≤ sent_since start test h newer log → SentBy start test h newer log) → SentBy start test h (e ∷ newer) log
    by (inl here) rest = record { step = e; front = []; back = newer; is = refl; sends = omega (arith, here) }
    by (inr none) rest =
        let r = rest (omega (arith, some, none)) in
        record { step = r.step; front = e ∷ r.front; back = r.back; is = ap (λ w. e ∷ w) r.is; sends = r.sends }

-- what was taken from a link since a quiet moment was sent since by its host
pub came_from : (start : Start) (was now : ℕ → List HostStep) (before : AreQuiet start was) (since : AreQuiet start now)
    (cut : IsCut was now) (test : Place → Body → Bool) (j : ℕ) (e : HostStep) → IsIn e (cut j).newer
    → is_request e.step.taken.body ≡ false → test e.step.taken.to e.step.taken.body ≡ true → (i : ℕ)
    → e.step.taken.from.0 ≡ i → 1 ≤ sent_since start test i (cut i).newer (was i)
came_from start was now before since cut test j e inside plain passes i at =
    let here = all_three (is_request e.step.taken.body) (e.step.taken.from.0 == i)
    (test e.step.taken.to e.step.taken.body) plain (grind (arith, nat_tests, at)) passes in
    omega (
      arith,
      tally_in (λ (x : HostStep). is_from (machine start) i x && test x.step.taken.to x.step.taken.body) e
          (cut j).newer inside here,
      few_taken start was now before since cut test i j,
    )

-- a node answers that the transaction waits behind this one
abbrev pub finds_who : TxId → TxId → Body → Bool
finds_who tx who (Client (LqhWaitConf one ahead)) = same_tx one tx && same_tx ahead who
finds_who tx who _ = false

abbrev pub is_finding_who : TxId → TxId → Place → Body → Bool
is_finding_who tx who to body = is_tc to.block && finds_who tx who body

module _ (tx who : TxId) where
  tells_in : (a : Bool) (body : Body) → tells_who tx who body ≡ false → (a && tells_who tx who body) ≡ false
  tells_in true body e = e
  tells_in false body e = refl

  finds_in : (a : Bool) (body : Body) → finds_who tx who body ≡ false → (a && finds_who tx who body) ≡ false
  finds_in true body e = e
  finds_in false body e = refl

  pub telling_tc : IsOfTc (is_telling_who tx who)
  telling_tc = record {
    others = λ to body e. tells_in (is_api to.block) body (plain body e);
    begins = λ name node. refl;
  }
    where
      plain : (b : Body) → is_other_kind b ≡ true → tells_who tx who b ≡ false
      plain (Client (TcWaitConf one ahead)) k = cc
      plain _ k = refl

  pub no_find_api : IsNotOfApi (is_finding_who tx who)
  no_find_api = record {
    kinds = λ to body e. finds_in (is_tc to.block) body (plain body e);
    begins = λ name node. refl;
  }
    where
      plain : (b : Body) → is_api_kind b ≡ true → finds_who tx who b ≡ false
      plain (Client (LqhWaitConf one ahead)) k = cc
      plain _ k = refl

  no_tell_seek : (to : Place) (body : Body) → is_wait_kind body ≡ true → is_telling_who tx who to body ≡ false
  no_tell_seek to body e = tells_in (is_api to.block) body (plain body e)
    where
      plain : (b : Body) → is_wait_kind b ≡ true → tells_who tx who b ≡ false
      plain (Client (TcWaitConf one ahead)) k = cc
      plain _ k = refl

  no_find_dih : (to : Place) (body : Body) → is_dih_kind body ≡ true → is_finding_who tx who to body ≡ false
  no_find_dih to body e = finds_in (is_tc to.block) body (plain body e)
    where
      plain : (b : Body) → is_dih_kind b ≡ true → finds_who tx who b ≡ false
      plain (Client (LqhWaitConf one ahead)) k = cc
      plain _ k = refl

  no_find_tc : (one : TxId) (to : Place) (body : Body) → is_tc_kind one body ≡ true
      → is_finding_who tx who to body ≡ false
  no_find_tc one to body e = finds_in (is_tc to.block) body (plain body e)
    where
      plain : (b : Body) → is_tc_kind one b ≡ true → finds_who tx who b ≡ false
      plain (Client (LqhWaitConf v ahead)) k = cc
      plain _ k = refl

  -- one signal that passes
  one_passes : (b : Bool) → 1 ≤ one_if b + 0 → b ≡ true
  one_passes true some = refl
  one_passes false some = absurd (omega (arith, some))

  none_sent : {A : Type 0} → 1 ≤ 0 → A
  none_sent some = absurd (omega (arith, some))

  -- a coordinator asks the replicas
  seeks_only : (s : TcState) (one : TxId)
      → are_of is_wait_kind (step_of s one (λ t. wait_row one t)).effects.sends ≡ true
  unfolding wait_row
  seeks_only s one = at_place (place_in s one)
    where
      turn : (t : Transaction) (o : Option Asked) → are_of is_wait_kind (wait_by one t o).effects.sends ≡ true
      turn t None = refl
      turn t (Some asked) = of_map is_wait_kind _ asked.chain (λ m. refl)

      at_value : (at : ℕ) (t : Option Transaction)
          → are_of is_wait_kind (step_value s (λ t. wait_row one t) at t).effects.sends ≡ true
      at_value at None = refl
      at_value at (Some t) = turn t t.asked

      at_place : (at : Option ℕ) → are_of is_wait_kind (step_place s (λ t. wait_row one t) at).effects.sends ≡ true
      at_place None = refl
      at_place (Some at) = at_value at (slice_get (values_of s.live) at)

  passes_told : (s : TcState) (one ahead : TxId) (b : Bool)
      → 1 ≤ sends_of (is_telling_who tx who) (pass_if s one ahead b).effects.sends
      → (same_tx one tx && same_tx ahead who) ≡ true
  passes_told s one ahead true some = one_passes (same_tx one tx && same_tx ahead who) some
  passes_told s one ahead false some = none_sent some

  tc_told : (s : TcState) (body : Body) → is_wait_of tx body ≡ true
      → 1 ≤ sends_of (is_telling_who tx who) (tc_table s body).effects.sends → finds_who tx who body ≡ true
  unfolding pass_row
  tc_told s (Client (TcWaitReq one)) own some =
      absurd (omega (
        arith,
        some,
        none_of is_wait_kind (is_telling_who tx who) no_tell_seek
            (step_of s one (λ t. wait_row one t)).effects.sends (seeks_only s one),
      ))
  tc_told s (Client (LqhWaitReq one key)) own some = none_sent some
  tc_told s (Client (LqhWaitConf one ahead)) own some = passes_told s one ahead (is_some (place_in s one)) some
  tc_told s (Client (TcWaitConf one ahead)) own some = none_sent some
  tc_told s _ own some = cc

  -- who tells the client was told
  pub host_told : (g : Host) (x : Signal) → is_wait_of tx x.body ≡ true
      → 1 ≤ sends_of (is_telling_who tx who) (row g x).effects.sends
      → (is_tc x.to.block && finds_who tx who x.body) ≡ true
  host_told g x own = of_effects (λ f. 1 ≤ sends_of (is_telling_who tx who) f.sends
      → (is_tc x.to.block && finds_who tx who x.body) ≡ true) g x none_sent (record {
        api = λ runs at some. absurd
            (omega (
              arith,
              some,
              api_silent (is_telling_who tx who) (not_of_api (is_telling_who tx who) telling_tc)
                  (api_of g) x.body,
            ));
        tc = λ runs at some. ap (λ of. is_tc of && finds_who tx who x.body) at ∙ tc_told (tc_of g) x.body own some;
        dih = λ runs at some. absurd
            (omega (
              arith,
              some,
              none_of is_dih_kind (is_telling_who tx who) (not_of_dih (is_telling_who tx who) telling_tc)
                  (dih_table (dih_of g) x.body).effects.sends (dih_kinds (dih_of g) x.body),
            ));
        rows = λ runs at some. absurd
            (omega (
              arith,
              some,
              none_of is_lqh_kind (is_telling_who tx who) (not_of_lqh (is_telling_who tx who) telling_tc)
                  (lqh_table (lqh_of g) x.body).effects.sends (lqh_kinds (lqh_of g) x.body),
            ));
      })

  -- the transaction waits behind it here
  pub record FoundAt (s : LqhState) : Type 0 where
    pub key : List ℕ
    pub is : ahead_at s.locks key tx ≡ Some who

  lqh_found : (s : LqhState) (body : Body) → is_wait_of tx body ≡ true
      → 1 ≤ sends_of (is_finding_who tx who) (lqh_table s body).effects.sends → FoundAt s
  lqh_found s (Client (TcWaitReq one)) own some = none_sent some
  lqh_found s (Client (LqhWaitReq one key)) own some =
      wait_forms (λ step. 1 ≤ sends_of (is_finding_who tx who) step.effects.sends → FoundAt s) s one key (record {
        none = λ is some. none_sent some;
        some = λ ahead is some. by ahead is (same_tx one tx) (same_tx ahead who) refl refl
            (one_passes (same_tx one tx && same_tx ahead who) some);
      }) some
    where
      by : (ahead : TxId) → ahead_at s.locks key one ≡ Some ahead → (a b : Bool) → same_tx one tx ≡ a
          → same_tx ahead who ≡ b → (a && b) ≡ true → FoundAt s
      by ahead is true true p q e = record {
        key = key;
        is = ap (ahead_at s.locks key) (sym (same_tx-is one tx p)) ∙ is
            ∙ ap (λ v. Some v) (same_tx-is ahead who q);
      }
      by ahead is true false p q e = cc
      by ahead is false b p q e = cc
  lqh_found s (Client (LqhWaitConf one ahead)) own some = none_sent some
  lqh_found s (Client (TcWaitConf one ahead)) own some = none_sent some
  lqh_found s _ own some = cc

  no_begin : (body : Body) → is_wait_of tx body ≡ true → (s : TcState)
      → sends_of (is_finding_who tx who) (tc_table s body).effects.sends ≡ 0
  no_begin (Client (TcWaitReq one)) own s =
      none_of (is_tc_kind one) (is_finding_who tx who) (no_find_tc one)
      (tc_table s (Client (TcWaitReq one))).effects.sends (tc_kinds s (Client (TcWaitReq one)) refl)
  no_begin (Client (LqhWaitReq one key)) own s = refl
  no_begin (Client (LqhWaitConf one ahead)) own s =
      none_of (is_tc_kind one) (is_finding_who tx who) (no_find_tc one)
      (tc_table s (Client (LqhWaitConf one ahead))).effects.sends (tc_kinds s (Client (LqhWaitConf one ahead)) refl)
  no_begin (Client (TcWaitConf one ahead)) own s = refl
  no_begin _ own s = cc

  -- and who told it found it so
  pub host_found : (g : Host) (x : Signal) → is_wait_of tx x.body ≡ true
      → 1 ≤ sends_of (is_finding_who tx who) (row g x).effects.sends → FoundAt (lqh_of g)
  host_found g x own = of_effects (λ f. 1 ≤ sends_of (is_finding_who tx who) f.sends → FoundAt (lqh_of g)) g x none_sent
      (record {
        api = λ runs at some. absurd
            (omega (arith, some, api_silent (is_finding_who tx who) no_find_api (api_of g) x.body));
        tc = λ runs at some. absurd (omega (arith, some, no_begin x.body own (tc_of g)));
        dih = λ runs at some. absurd (omega (
          arith,
          some,
          none_of is_dih_kind (is_finding_who tx who) no_find_dih
              (dih_table (dih_of g) x.body).effects.sends (dih_kinds (dih_of g) x.body),
        ));
        rows = λ runs at some. lqh_found (lqh_of g) x.body own some;
      })
