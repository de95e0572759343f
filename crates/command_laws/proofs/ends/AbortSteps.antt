-- A step of a host, where neither an operation nor a commit of the transaction is asked for.
use Rattle.std.proofs.Common.{◌≡◌, ◌<◌, ◌≤◌, ◌+◌, ℕ, Bool, true, false, List, [], ◌∷◌, ◌++◌, refl, sym, ap, ◌∙◌, subst}
use Rattle.std.proofs.Common.{arith}
use Rattle.std.specs.Prelude.{◌&&◌, if◌then◌else◌, Option, None, Some}
use Rattle.run_theory.specs.Lists.{Each}
use Rattle.sig_core.proofs.Keys.{same_tx-self}
use Rattle.sig_core.specs.declared.member.TxId.{TxId}
use Rattle.sig_core.specs.declared.outs.Outgoing.{Outgoing}
use Rattle.sig_core.specs.declared.place.BlockId.{BlockId}
use Rattle.sig_core.specs.declared.place.BlockId.TheVariants as block
use Rattle.sig_core.specs.declared.place.Place.{Place}
use Rattle.sig_core.specs.declared.signal.Body.{Body}
use Rattle.sig_core.specs.declared.signal.Body.TheVariants.{Client}
use Rattle.sig_core.specs.declared.signal.client.ClientSignal.TheVariants.{TcCommitConf, TcKeyReq, TcCommitReq}
use Rattle.sig_core.specs.declared.signal.client.ClientSignal.TheVariants.{TcRollbackReq, TcRollbackRep}
use Rattle.sig_core.specs.declared.signal.Signal.{Signal}
use Rattle.sig_core.specs.Same.{same_tx}
use Rattle.sig_core.specs.Step.{Step}
use Rattle.node_core.specs.Blocks.{has_tc, tc_of}
use Rattle.node_core.specs.declared.host.Host.{Host}
use Rattle.node_core.specs.Row.{row}
use Rattle.tc_block.specs.declared.transaction.Transaction.{Transaction}
use Rattle.tc_block.specs.State.{TcState}
use Rattle.tc_block.specs.Tc.{tc_row, tc_table}
use Rattle.world_core.specs.Hosts.{home, first_hosts}
use Rattle.world_core.specs.Machine.{after}
use Rattle.world_core.specs.Start.{Start}
use Rattle.world_core.specs.Steps.{HostStep}
use Rattle.run_theory.specs.Counts.{one_if}
use Rattle.host_laws.proofs.hosts.BlocksAlong.{no_live}
use Rattle.host_laws.proofs.hosts.SendKinds.{none_of}
use Rattle.host_laws.proofs.coordinator.Moves.{same_tx-is}
use Rattle.host_laws.proofs.coordinator.Steps.{left_of_turn}
use Rattle.tc_block.proofs.TurnRows.{tx_in, is_turn, turn_row}
use Rattle.host_laws.proofs.api.Wishes.{is_tc, sends_of}
use Rattle.host_laws.specs.Live.{of_live}
use Rattle.command_laws.proofs.ends.AbortTurns.{StaysLoose, is_loose, is_mild, is_more, is_requested, is_roll}
use Rattle.command_laws.proofs.ends.AbortTurns.{loose_turn}
use Rattle.command_laws.proofs.quiet.Homes.{lives_home, sound_at}
use Rattle.command_laws.proofs.hosts.HostSends.{IsOfTc, is_other_kind}
use Rattle.command_laws.proofs.hosts.BlockSteps.{tc_host}
use Rattle.command_laws.proofs.quiet.Since.{sent_since}
use Rattle.command_laws.proofs.hosts.TcPath.{IsSound, TcGoes, aside, begins, is_told, takes, tc_goes, told_of}
use Rattle.command_laws.proofs.operations.TellsSince.{OnTc}
use Rattle.command_laws.proofs.operations.TellsOnce.{is_wish_back_to, wish_back_of}

-- an operation of the transaction, or the wish for its commit
abbrev pub more_of : TxId → Body → Bool
more_of tx (Client (TcKeyReq other op)) = same_tx other tx
more_of tx (Client (TcCommitReq other)) = same_tx other tx
more_of tx _ = false

abbrev pub is_more_to : TxId → Place → Body → Bool
is_more_to tx to body = is_tc to.block && more_of tx body

-- the report of another end than an abort at the client's request
abbrev pub wrong_of : TxId → Body → Bool
wrong_of tx (Client (TcCommitConf other epoch)) = same_tx other tx
wrong_of tx (Client (TcRollbackRep other why)) = if is_requested why then false else same_tx other tx
wrong_of tx _ = false

abbrev pub is_wrong : TxId → Place → Body → Bool
is_wrong tx to body = wrong_of tx body

abbrev pub LooseOption : Bool → Option Transaction → Type 0
LooseOption c None = Unit {0}
LooseOption c (Some t) = (is_loose c t.phase ≡ true) × (t.asked ≡ None)

-- the transaction has begun: it is loose, or over
pub record IsLooseNow (tx : TxId) (c : Bool) (s : TcState) : Type 0 where
  pub loose : LooseOption c (of_live tx s.live)
  pub early : tx.seq < s.next_seq

module _ (tx : TxId) where
  mild_right : (to : Place) (b : Body) → is_mild b ≡ true → is_wrong tx to b ≡ false
  mild_right to (Client (TcCommitConf other epoch)) e = cc
  mild_right to (Client (TcRollbackRep other why)) e = ap (λ b. if b then false else same_tx other tx) e
  mild_right to _ e = refl

  told_right : (b : Body) → told_of tx b ≡ false → wrong_of tx b ≡ false
  told_right (Client (TcCommitConf other epoch)) e = e
  told_right (Client (TcRollbackRep other why)) e = by (is_requested why)
    where
      by : (b : Bool) → (if b then false else same_tx other tx) ≡ false
      by true = refl
      by false = e
  told_right _ e = refl

  none_wrong : (xs : List Outgoing) → sends_of (is_told tx) xs ≡ 0 → sends_of (is_wrong tx) xs ≡ 0
  none_wrong [] none = refl
  none_wrong (x ∷ xs) none = by (told_of tx x.body) refl (none_wrong xs (omega (arith, none)))
    where
      by : (b : Bool) → told_of tx x.body ≡ b → sends_of (is_wrong tx) xs ≡ 0
          → one_if (is_wrong tx x.to x.body) + sends_of (is_wrong tx) xs ≡ 0
      by true told rest = absurd (omega (arith, none, ap one_if told))
      by false told rest = omega (arith, rest, ap one_if (told_right x.body told))

  more_kind : (body : Body) → more_of tx body ≡ false → tx_in body ≡ tx → is_more body ≡ false
  more_kind (Client (TcKeyReq other op)) off same =
      absurd (let both : false ≡ true = sym off ∙ (ap (λ v. same_tx v tx) same ∙ same_tx-self tx) in cc)
  more_kind (Client (TcCommitReq other)) off same =
      absurd (let both : false ≡ true = sym off ∙ (ap (λ v. same_tx v tx) same ∙ same_tx-self tx) in cc)
  more_kind _ off same = refl

  pub roll_same : (body : Body) → tx_in body ≡ tx → is_roll body ≡ wish_back_of tx body
  roll_same (Client (TcRollbackReq other)) same = sym (ap (λ v. same_tx v tx) same ∙ same_tx-self tx)
  roll_same _ same = refl

  roll_in : (body : Body) → wish_back_of tx body ≡ true → tx_in body ≡ tx
  roll_in (Client (TcRollbackReq other)) e = same_tx-is other tx e
  roll_in _ e = cc

  roll_turn : (body : Body) → wish_back_of tx body ≡ true → is_turn body ≡ true
  roll_turn (Client (TcRollbackReq other)) e = refl
  roll_turn _ e = cc

  -- no other end is reported, and the transaction is loose at its home
  record LooseStep (Home : Type 0) (c : Bool) (s : TcState) (sends : List Outgoing) : Type 0 where
    silent : sends_of (is_wrong tx) sends ≡ 0
    loose : Home → IsLooseNow tx c s

  module _ (c : Bool) (s : TcState) (body : Body) (sound : IsSound tx s) (plain : more_of tx body ≡ false)
      (Home : Type 0) (home_of : (t : Transaction) → of_live tx s.live ≡ Some t → Home)
      (was : Home → IsLooseNow tx c s) where
    abbrev step : Step TcState
    step = tc_table s body

    abbrev then_c : Bool
    then_c = if wish_back_of tx body then true else c

    at_turn : (t : Transaction) → tx_in body ≡ tx → of_live tx s.live ≡ Some t
        → step.effects.sends ≡ (turn_row s body t).step.effects.sends
        → of_live tx step.state.live ≡ left_of_turn (turn_row s body t) → s.next_seq ≤ step.state.next_seq
        → LooseStep Home then_c step.state step.effects.sends
    at_turn t same live sends left more = record {
      silent = ap (sends_of (is_wrong tx)) sends
          ∙ none_of is_mild (is_wrong tx) mild_right (turn_row s body t).step.effects.sends q.sends;
      loose = λ at. record {
        loose = subst (LooseOption then_c) (sym left) (by (turn_row s body t).over refl);
        early = omega (arith, old.early, more);
      };
    }
      where
        old : IsLooseNow tx c s
        old = was (home_of t live)

        fine : LooseOption c (Some t)
        fine = subst (LooseOption c) live old.loose

        q : StaysLoose then_c (turn_row s body t)
        q =
            subst (λ b. StaysLoose (if b then true else c) (turn_row s body t)) (roll_same body same)
            (loose_turn c s tx body t same (more_kind body plain same) fine.0 fine.1)

        by : (b : Bool) → (turn_row s body t).over ≡ b
            → LooseOption then_c (if b then None else Some (turn_row s body t).step.state)
        by true over = tt
        by false over = (q.phase over, q.none)

    at_none : of_live tx s.live ≡ None → of_live tx step.state.live ≡ of_live tx s.live
        → sends_of (is_told tx) step.effects.sends ≡ 0 → s.next_seq ≤ step.state.next_seq
        → LooseStep Home then_c step.state step.effects.sends
    at_none missing same none more = record {
      silent = none_wrong step.effects.sends none;
      loose = λ at. record {
        loose = subst (LooseOption then_c) (sym (same ∙ missing)) tt;
        early = omega (arith, (was at).early, more);
      };
    }

    loose_goes : TcGoes tx s body step → LooseStep Home then_c step.state step.effects.sends
    loose_goes (takes t same live sends left more) = at_turn t same live sends left more
    loose_goes (begins number now none more) = record {
      silent = none_wrong step.effects.sends none;
      loose = λ at. absurd (omega (arith, (was at).early, number));
    }
    loose_goes (aside same none more absent) = by (wish_back_of tx body) refl
      where
        by : (b : Bool) → wish_back_of tx body ≡ b → LooseStep Home then_c step.state step.effects.sends
        by false off = record {
          silent = none_wrong step.effects.sends none;
          loose = λ at. let old = was at in
              record {
                loose = subst (λ b. LooseOption (if b then true else c) (of_live tx step.state.live)) (sym off)
                    (subst (LooseOption c) (sym same) old.loose);
                early = omega (arith, old.early, more);
              };
        }
        by true on = at_none (absent (roll_turn body on) (roll_in body on)) same none more

  wrong_tc : IsOfTc (is_wrong tx)
  wrong_tc = record { others = others; begins = λ name node. refl }
    where
      others : (to : Place) (body : Body) → is_other_kind body ≡ true → is_wrong tx to body ≡ false
      others to (Client (TcCommitConf other epoch)) e = cc
      others to (Client (TcRollbackRep other why)) e = cc
      others to _ e = refl

  host_loose : (c : Bool) (g : Host) (x : Signal) → IsSound tx (tc_of g) → is_more_to tx x.to x.body ≡ false
      → (Home : Type 0) → ((t : Transaction) → of_live tx (tc_of g).live ≡ Some t → Home)
      → (Home → IsLooseNow tx c (tc_of g)) → LooseStep Home (if is_wish_back_to tx x.to x.body then true else c)
      (tc_of (row g x).state) (row g x).effects.sends
  host_loose c g x sound plain Home home_of was =
      tc_host (λ (step : Step TcState). LooseStep Home
      (if is_wish_back_to tx x.to x.body then true else c) step.state step.effects.sends) g x
      (λ runs at. subst (λ of. LooseStep Home (if is_tc of && wish_back_of tx x.body then true else c)
      (tc_row (tc_of g) x).state (tc_row (tc_of g) x).effects.sends) (sym at)
      (loose_goes c (tc_of g) x.body sound (ap (λ of. is_tc of && more_of tx x.body) (sym at) ∙ plain) Home home_of was
      (tc_goes tx (tc_of g) x.body sound)))
      (λ effects none off. record {
        silent = none (is_wrong tx) wrong_tc;
        loose = λ at. by x.to.block (is_wish_back_to tx x.to x.body) refl off (was at);
      })
    where
      by : (of : BlockId) (b : Bool) → (is_tc of && wish_back_of tx x.body) ≡ b → (of ≡ block.Tc → has_tc g ≡ false)
          → IsLooseNow tx c (tc_of g) → IsLooseNow tx (if b then true else c) (tc_of g)
      by block.Tc true is off old =
          record {
            loose = subst (LooseOption true) (sym (ap (of_live tx) (no_live g (off refl)))) tt;
            early = old.early;
          }
      by of false is off old = old
      by of true is off old = cc

  -- the abort was asked for in one of these steps
  abbrev pub rolled : List HostStep → Bool
  rolled [] = false
  rolled (e ∷ newer) = if is_wish_back_to tx e.step.taken.to e.step.taken.body then true else rolled newer

  module _ (start : Start) (h : ℕ) (low : h < first_hosts start) where
    record HostRun (newer log : List HostStep) : Type 0 where
      silent : sent_since start (is_wrong tx) h newer log ≡ 0
      loose : home start tx ≡ h → OnTc (IsLooseNow tx (rolled newer)) (after start h (newer ++ log))

    pub host_run : (newer log : List HostStep)
        → Each (λ (e : HostStep). is_more_to tx e.step.taken.to e.step.taken.body ≡ false) newer
        → (home start tx ≡ h → OnTc (IsLooseNow tx false) (after start h log))
        → (sent_since start (is_wrong tx) h newer log ≡ 0)
        × (home start tx ≡ h → OnTc (IsLooseNow tx (rolled newer)) (after start h (newer ++ log)))
    host_run newer log plain was = let r = run newer plain in (r.silent, r.loose)
      where
        run : (some : List HostStep)
            → Each (λ (e : HostStep). is_more_to tx e.step.taken.to e.step.taken.body ≡ false) some → HostRun some log
        run [] off = record { silent = refl; loose = was }
        run (e ∷ some) off =
            let before = run some off.1 in
            let next = host_loose (rolled some) (after start h (some ++ log)) e.step.taken
            (sound_at start tx h (some ++ log)) off.0 (home start tx ≡ h)
            (lives_home start tx h (some ++ log) low) before.loose in
            record { silent = omega (arith, before.silent, next.silent); loose = next.loose }
