-- Along the log of its home a transaction whose abort the client asked for stays so, or is over, and nothing else is
-- told of it.
use Rattle.std.proofs.Common.{◌≡◌, ◌<◌, ◌+◌, ℕ, Bool, true, false, List, [], ◌∷◌, ◌++◌, refl, sym, ap, ◌∙◌, subst}
use Rattle.std.proofs.Common.{arith}
use Rattle.std.specs.Prelude.{◌&&◌, if◌then◌else◌, not, Option, None, Some}
use Rattle.sig_core.specs.declared.member.TxId.{TxId}
use Rattle.sig_core.specs.declared.outs.Outgoing.{Outgoing}
use Rattle.sig_core.specs.declared.place.BlockId.{BlockId}
use Rattle.sig_core.specs.declared.place.BlockId.TheVariants as block
use Rattle.sig_core.specs.declared.place.Place.{Place}
use Rattle.sig_core.specs.declared.signal.Body.{Body}
use Rattle.sig_core.specs.declared.signal.Body.TheVariants.{Client}
use Rattle.sig_core.specs.declared.signal.client.ClientSignal.TheVariants.{TcCommitConf, TcKeyConf, TcRollbackReq}
use Rattle.sig_core.specs.declared.signal.client.ClientSignal.TheVariants.{TcRollbackRep}
use Rattle.sig_core.specs.declared.signal.Signal.{Signal}
use Rattle.sig_core.specs.Same.{same_tx}
use Rattle.sig_core.specs.Step.{Step}
use Rattle.node_core.specs.Blocks.{has_tc, tc_of}
use Rattle.node_core.specs.declared.host.Host.{Host}
use Rattle.node_core.specs.Row.{row}
use Rattle.tc_block.proofs.TurnRows.{is_turn, turn_row, tx_in}
use Rattle.tc_block.specs.declared.phase.Phase.{Phase}
use Rattle.tc_block.specs.declared.phase.Phase.TheVariants.{Open, Verifying, Committing, Completing, Aborting}
use Rattle.tc_block.specs.declared.transaction.Transaction.{Transaction}
use Rattle.tc_block.specs.State.{TcState}
use Rattle.tc_block.specs.Tc.{tc_table}
use Rattle.world_core.specs.Machine.{after, step_after}
use Rattle.world_core.specs.Start.{Start}
use Rattle.world_core.specs.Steps.{HostStep}
use Rattle.run_theory.specs.Counts.{one_if}
use Rattle.host_laws.specs.Live.{of_live}
use Rattle.host_laws.proofs.hosts.BlocksAlong.{no_live}
use Rattle.host_laws.proofs.hosts.SendKinds.{none_of}
use Rattle.host_laws.proofs.coordinator.Moves.{same_tx-is}
use Rattle.host_laws.proofs.api.Wishes.{is_tc, sends_of}
use Rattle.run_laws.proofs.hosts.AlongSteps.{first_none}
use Rattle.command_laws.proofs.ends.AbortSteps.{roll_same}
use Rattle.command_laws.proofs.ends.AbortTurns.{is_loose, is_requested}
use Rattle.command_laws.proofs.hosts.BlockSteps.{tc_host}
use Rattle.command_laws.proofs.quiet.Homes.{sound_at}
use Rattle.command_laws.proofs.hosts.HostSends.{IsOfTc, is_other_kind}
use Rattle.command_laws.proofs.ends.RolledTurns.{IsWished, StaysRolled, is_meek, rolled_turn, wished_turn}
use Rattle.command_laws.proofs.quiet.Since.{sent_since}
use Rattle.command_laws.proofs.hosts.TcPath.{IsSound, TcGoes, aside, begins, is_told, takes, tc_goes, told_of}
use Rattle.command_laws.proofs.operations.TellsSince.{OnTc}
use Rattle.command_laws.proofs.operations.TellsOnce.{is_wish_back_to, wish_back_of}

-- an answer, or the report of another end than an abort at the client's request
abbrev pub stray_of : TxId → Body → Bool
stray_of tx (Client (TcKeyConf other answer)) = same_tx other tx
stray_of tx (Client (TcCommitConf other epoch)) = same_tx other tx
stray_of tx (Client (TcRollbackRep other why)) = if is_requested why then false else same_tx other tx
stray_of tx _ = false

abbrev pub is_stray : TxId → Place → Body → Bool
is_stray tx to body = stray_of tx body

abbrev pub RolledOption : Bool → Option Transaction → Type 0
RolledOption c None = Unit {0}
RolledOption c (Some t) = is_loose c t.phase ≡ true

-- The transaction has begun. It is over, or aborted at the client's request; and else, where c isn't so, open.
pub record IsRolledNow (tx : TxId) (c : Bool) (s : TcState) : Type 0 where
  pub rolled : RolledOption c (of_live tx s.live)
  pub early : tx.seq < s.next_seq

-- one of which it is known whose abort it is
abbrev pub WishedOption : Option Transaction → Type 0
WishedOption None = Unit {0}
WishedOption (Some t) = IsWished t

module _ (tx : TxId) where
  meek_right : (to : Place) (b : Body) → is_meek b ≡ true → is_stray tx to b ≡ false
  meek_right to (Client (TcKeyConf other answer)) e = cc
  meek_right to (Client (TcCommitConf other epoch)) e = cc
  meek_right to (Client (TcRollbackRep other why)) e = ap (λ b. if b then false else same_tx other tx) e
  meek_right to _ e = refl

  told_right : (b : Body) → told_of tx b ≡ false → stray_of tx b ≡ false
  told_right (Client (TcKeyConf other answer)) e = e
  told_right (Client (TcCommitConf other epoch)) e = e
  told_right (Client (TcRollbackRep other why)) e = by (is_requested why)
    where
      by : (b : Bool) → (if b then false else same_tx other tx) ≡ false
      by true = refl
      by false = e
  told_right _ e = refl

  none_stray : (xs : List Outgoing) → sends_of (is_told tx) xs ≡ 0 → sends_of (is_stray tx) xs ≡ 0
  none_stray [] none = refl
  none_stray (x ∷ xs) none = by (told_of tx x.body) refl (none_stray xs (omega (arith, none)))
    where
      by : (b : Bool) → told_of tx x.body ≡ b → sends_of (is_stray tx) xs ≡ 0
          → one_if (is_stray tx x.to x.body) + sends_of (is_stray tx) xs ≡ 0
      by true told rest = absurd (omega (arith, none, ap one_if told))
      by false told rest = omega (arith, rest, ap one_if (told_right x.body told))

  roll_in : (body : Body) → wish_back_of tx body ≡ true → (is_turn body ≡ true) × (tx_in body ≡ tx)
  roll_in (Client (TcRollbackReq other)) e = (refl, same_tx-is other tx e)
  roll_in _ e = cc

  -- nothing else is told, and the transaction is aborted at the client's request
  pub record RolledStep (s : TcState) (sends : List Outgoing) : Type 0 where
    pub silent : sends_of (is_stray tx) sends ≡ 0
    pub rolled : IsRolledNow tx true s

  module _ (s : TcState) (body : Body) (sound : IsSound tx s) (was : IsRolledNow tx (not (wish_back_of tx body)) s)
    where
      abbrev step : Step TcState
      step = tc_table s body

      goes_rolled : TcGoes tx s body step → RolledStep step.state step.effects.sends
      goes_rolled (takes t same live sends left more) = record {
        silent = ap (sends_of (is_stray tx)) sends
            ∙ none_of is_meek (is_stray tx) meek_right (turn_row s body t).step.effects.sends q.sends;
        rolled = record {
          rolled = subst (RolledOption true) (sym left) (by (turn_row s body t).over refl);
          early = omega (arith, was.early, more);
        };
      }
        where
          fine : is_loose (not (wish_back_of tx body)) t.phase ≡ true
          fine = subst (RolledOption (not (wish_back_of tx body))) live was.rolled

          q : StaysRolled (turn_row s body t)
          q = rolled_turn s body t (ap (λ r. is_loose (not r) t.phase) (roll_same tx body same) ∙ fine)

          by : (b : Bool) → (turn_row s body t).over ≡ b
              → RolledOption true (if b then None else Some (turn_row s body t).step.state)
          by true over = tt
          by false over = q.phase over
      goes_rolled (begins number now none more) = absurd (omega (arith, was.early, number))
      goes_rolled (aside same none more absent) = record {
        silent = none_stray step.effects.sends none;
        rolled = record {
          rolled = subst (RolledOption true) (sym same) (by (wish_back_of tx body) refl);
          early = omega (arith, was.early, more);
        };
      }
        where
          by : (b : Bool) → wish_back_of tx body ≡ b → RolledOption true (of_live tx s.live)
          by false off = subst (λ r. RolledOption (not r) (of_live tx s.live)) off was.rolled
          by true on =
              let r = roll_in body on in
              subst (RolledOption true) (sym (absent r.0 r.1)) tt

  stray_tc : IsOfTc (is_stray tx)
  stray_tc = record { others = others; begins = λ name node. refl }
    where
      others : (to : Place) (body : Body) → is_other_kind body ≡ true → is_stray tx to body ≡ false
      others to (Client (TcKeyConf other answer)) e = cc
      others to (Client (TcCommitConf other epoch)) e = cc
      others to (Client (TcRollbackRep other why)) e = cc
      others to _ e = refl

  host_rolled : (g : Host) (x : Signal) → IsSound tx (tc_of g)
      → IsRolledNow tx (not (is_wish_back_to tx x.to x.body)) (tc_of g)
      → RolledStep (tc_of (row g x).state) (row g x).effects.sends
  host_rolled g x sound was =
      tc_host (λ (step : Step TcState). RolledStep step.state step.effects.sends) g x
      (λ runs at. goes_rolled (tc_of g) x.body sound
      (subst (λ of. IsRolledNow tx (not (is_tc of && wish_back_of tx x.body)) (tc_of g)) at was)
      (tc_goes tx (tc_of g) x.body sound))
      (λ effects none off. record {
        silent = none (is_stray tx) stray_tc;
        rolled = by x.to.block (is_wish_back_to tx x.to x.body) refl off was;
      })
    where
      by : (of : BlockId) (b : Bool) → (is_tc of && wish_back_of tx x.body) ≡ b → (of ≡ block.Tc → has_tc g ≡ false)
          → IsRolledNow tx (not b) (tc_of g) → IsRolledNow tx true (tc_of g)
      by block.Tc true is off old =
          record {
            rolled = subst (RolledOption true) (sym (ap (of_live tx) (no_live g (off refl)))) tt;
            early = old.early;
          }
      by of false is off old = old
      by of true is off old = cc

  weaker : (c : Bool) (phase : Phase) → is_loose true phase ≡ true → is_loose c phase ≡ true
  weaker c Open e = cc
  weaker c Verifying e = cc
  weaker c (Committing epoch awaited) e = cc
  weaker c (Completing epoch awaited) e = cc
  weaker c (Aborting why verifying awaited) e = e

  weaker_option : (c : Bool) (o : Option Transaction) → RolledOption true o → RolledOption c o
  weaker_option c None r = tt
  weaker_option c (Some t) r = weaker c t.phase r

  weaker_now : (c : Bool) (s : TcState) → IsRolledNow tx true s → IsRolledNow tx c s
  weaker_now c s r = record { rolled = weaker_option c (of_live tx s.live) r.rolled; early = r.early }

  -- from the step on that takes the wish for the abort
  pub rolled_since : (start : Start) (h : ℕ) (newer log : List HostStep) (e : HostStep)
      → is_wish_back_to tx e.step.taken.to e.step.taken.body ≡ true → OnTc (IsRolledNow tx false) (after start h log)
      → (sent_since start (is_stray tx) h (newer ++ e ∷ []) log ≡ 0)
      × OnTc (IsRolledNow tx true) (after start h (newer ++ e ∷ log))
  rolled_since start h [] log e roll was =
      let r = host_rolled (after start h log) e.step.taken (sound_at start tx h log)
      (subst (λ b. IsRolledNow tx (not b) (tc_of (after start h log))) (sym roll) was) in
      (omega (arith, r.silent), r.rolled)
  rolled_since start h (x ∷ newer) log e roll was = next (rolled_since start h newer log e roll was)
    where
      parts : (xs : List HostStep) → (xs ++ e ∷ []) ++ log ≡ xs ++ e ∷ log
      parts [] = refl
      parts (y ∷ ys) = ap (λ w. y ∷ w) (parts ys)

      next : (sent_since start (is_stray tx) h (newer ++ e ∷ []) log ≡ 0)
          × OnTc (IsRolledNow tx true) (after start h (newer ++ e ∷ log))
          → (sent_since start (is_stray tx) h ((x ∷ newer) ++ e ∷ []) log ≡ 0)
          × OnTc (IsRolledNow tx true) (after start h ((x ∷ newer) ++ e ∷ log))
      next before =
          let r = host_rolled (after start h (newer ++ e ∷ log)) x.step.taken (sound_at start tx h (newer ++ e ∷ log))
          (weaker_now (not (is_wish_back_to tx x.step.taken.to x.step.taken.body))
          (tc_of (after start h (newer ++ e ∷ log)))
          before.1) in (
            omega (
              arith,
              before.0,
              r.silent,
              ap (λ l. sends_of (is_stray tx) (step_after start h l x).effects.sends) (parts newer),
            ),
            r.rolled,
          )

  -- what isn't told of it isn't such either
  pub stray_none : (start : Start) (h : ℕ) (newer log : List HostStep) → sent_since start (is_told tx) h newer log ≡ 0
      → sent_since start (is_stray tx) h newer log ≡ 0
  stray_none start h [] log none = refl
  stray_none start h (e ∷ newer) log none =
      omega (
        arith,
        stray_none start h newer log (omega (arith, none)),
        none_stray (step_after start h (newer ++ log) e).effects.sends (omega (arith, none)),
      )

  goes_wished : (s : TcState) (body : Body) → WishedOption (of_live tx s.live) → TcGoes tx s body (tc_table s body)
      → WishedOption (of_live tx (tc_table s body).state.live)
  goes_wished s body was (takes t same live sends left more) =
      subst WishedOption (sym left) (by (turn_row s body t).over refl)
    where
      by : (b : Bool) → (turn_row s body t).over ≡ b
          → WishedOption (if b then None else Some (turn_row s body t).step.state)
      by true over = tt
      by false over = wished_turn s body t (subst WishedOption live was) over
  goes_wished s body was (begins number now none more) = subst WishedOption (sym now) refl
  goes_wished s body was (aside same none more absent) = subst WishedOption (sym same) was

  -- so it is of each transaction
  pub wished_after : (start : Start) (h : ℕ) (log : List HostStep)
      → WishedOption (of_live tx (tc_of (after start h log)).live)
  wished_after start h [] = subst WishedOption (sym (first_none start tx h)) tt
  wished_after start h (e ∷ log) =
      tc_host (λ (step : Step TcState). WishedOption (of_live tx step.state.live)) (after start h log) e.step.taken
      (λ runs at. goes_wished (tc_of (after start h log)) e.step.taken.body (wished_after start h log)
      (tc_goes tx (tc_of (after start h log)) e.step.taken.body (sound_at start tx h log)))
      (λ effects none off. wished_after start h log)
