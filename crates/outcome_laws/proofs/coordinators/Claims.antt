-- What a coordinator's transactions claim: no turn tells that one has begun, and an open transaction asks for an epoch
-- and isn't open any more.
use Rattle.std.proofs.Common.{◌≡◌, ◌+◌, ℕ, Bool, true, false, List, [], ◌∷◌, take, drop, length, nat_lt, refl, ap}
use Rattle.std.specs.Prelude.{None}
use Rattle.std.specs.List.{flat_map}
use Rattle.run_theory.specs.Lists.{Each}
use Rattle.run_theory.proofs.EachSent.{each_drop, each_flat, each_mapped, each_take}
use Rattle.run_theory.proofs.Pasts.{each_append}
use Rattle.sig_core.specs.declared.member.TxId.{TxId}
use Rattle.sig_core.specs.declared.op.Answer.{Answer}
use Rattle.sig_core.specs.declared.op.Op.{Op}
use Rattle.sig_core.specs.declared.outcome.AbortCause.{AbortCause}
use Rattle.sig_core.specs.declared.outs.Outgoing.{Outgoing}
use Rattle.sig_core.specs.declared.signal.Body.{Body}
use Rattle.sig_core.specs.declared.signal.Body.TheVariants.{Client, Epoch}
use Rattle.sig_core.specs.declared.signal.client.ClientSignal.TheVariants.{TcBeginConf, TcCommitReq}
use Rattle.sig_core.specs.declared.signal.epoch.EpochSignal.TheVariants.{DiVerifyReq}
use Rattle.sig_core.specs.Op.{key_of}
use Rattle.sig_core.specs.Place.{epochs}
use Rattle.sig_core.specs.Step.{to_place}
use Rattle.frag_map.specs.Layout.{Layout, chain_of}
use Rattle.tc_block.proofs.EachResume.{ResumeForms}
use Rattle.tc_block.specs.Abort.{abort_end, is_verifying}
use Rattle.tc_block.specs.Part.{part_effects, rest_if}
use Rattle.tc_block.specs.Phases.{is_open}
use Rattle.tc_block.specs.Resume.{anew_if}
use Rattle.tc_block.specs.Sends.{abort_of, complete_if, entering, front_sends, key_sends, phase_sends, wait_of}
use Rattle.tc_block.specs.Turn.{Turn, asking, going}
use Rattle.tc_block.specs.declared.phase.Phase.{Phase}
use Rattle.tc_block.specs.declared.phase.Phase.TheVariants.{Open, Verifying, Committing, Completing, Aborting}
use Rattle.tc_block.specs.declared.touched.Touched.{Touched}
use Rattle.tc_block.specs.declared.transaction.Transaction.{Transaction}
use Rattle.tc_block.proofs.EachTurn.{AbortForms, CommittedForms, TurnForms, ready_is}
use Rattle.tc_views.specs.State.{go_on_if}

-- the signal tells that a transaction has begun, asks for an epoch, or asks a coordinator for the commit
abbrev pub is_claim : Body → Bool
is_claim (Client (TcBeginConf name tx)) = true
is_claim (Client (TcCommitReq tx)) = true
is_claim (Epoch (DiVerifyReq tx ops)) = true
is_claim body = false

abbrev pub IsQuiet : Outgoing → Type 0
IsQuiet sent = is_claim sent.body ≡ false

abbrev pub AreQuiet : List Outgoing → Type 0
AreQuiet sends = Each IsQuiet sends

-- what a turn claims: nothing, and only who was open is open behind it; or an open transaction asks for an epoch
pub data Claims (node : ℕ) (tx : TxId) (t : Transaction) (turn : Turn) : Type 0 where
  quiet : AreQuiet turn.step.effects.sends
      → (is_open turn.step.state.phase ≡ true → is_open t.phase ≡ true) → Claims node tx t turn
  asks : (ops : List (Op × Answer)) → is_open t.phase ≡ true → is_open turn.step.state.phase ≡ false
      → turn.step.effects.sends ≡ to_place (epochs node) (Epoch (DiVerifyReq tx ops)) ∷ [] → Claims node tx t turn

pub more_quiet : (node : ℕ) (b : Bool) → AreQuiet (go_on_if node b)
more_quiet node true = (refl, tt)
more_quiet node false = tt

module _ (node : ℕ) (layout : Layout) (tx : TxId) where
  rest_quiet : (at : ℕ) (b : Bool) → AreQuiet (rest_if node tx at b)
  rest_quiet at true = (refl, tt)
  rest_quiet at false = tt

  part_quiet : (sends : List Outgoing) (at : ℕ) → AreQuiet sends → AreQuiet (part_effects node tx sends at).sends
  unfolding part_effects
  part_quiet sends at all =
      each_append IsQuiet (take 8 (drop at sends)) (rest_if node tx at (nat_lt (at + 8) (length sends)))
      (each_take IsQuiet 8 (drop at sends) (each_drop IsQuiet at sends all))
      (rest_quiet at (nat_lt (at + 8) (length sends)))

  front_quiet : (phase : Phase) → AreQuiet (front_sends tx phase)
  unfolding front_sends
  front_quiet Open = tt
  front_quiet Verifying = tt
  front_quiet (Committing epoch awaited) = tt
  front_quiet (Completing epoch awaited) = (refl, tt)
  front_quiet (Aborting why verifying awaited) = tt

  complete_quiet : (t : Touched) (b : Bool) → AreQuiet (complete_if tx t b)
  complete_quiet t true = (refl, tt)
  complete_quiet t false = tt

  key_quiet : (phase : Phase) (t : Touched) → AreQuiet (key_sends layout tx phase t)
  unfolding key_sends
  key_quiet Open t = tt
  key_quiet Verifying t = tt
  key_quiet (Committing epoch awaited) t = (refl, tt)
  key_quiet (Completing epoch awaited) t = complete_quiet t t.written
  key_quiet (Aborting why verifying awaited) t =
      each_mapped IsQuiet (abort_of tx t.key) (chain_of layout t.key) (λ r. refl)

  phase_quiet : (phase : Phase) (touched : List Touched) → AreQuiet (phase_sends layout tx phase touched)
  unfolding phase_sends
  phase_quiet phase touched =
      each_append IsQuiet (front_sends tx phase) (flat_map (key_sends layout tx phase) touched) (front_quiet phase)
      (each_flat IsQuiet (key_sends layout tx phase) touched (key_quiet phase))

  -- a transaction comes to a phase in which it isn't open
  enters : (t u : Transaction) (phase : Phase) → is_open phase ≡ false
      → Claims node tx t (going (entering node layout tx u phase))
  unfolding entering
  enters t u phase shut =
      quiet (part_quiet (phase_sends layout tx phase u.touched) 0 (phase_quiet phase u.touched)) (λ is. absurd cc)

  committed_claims : (t : Transaction) (epoch : ℕ)
      → CommittedForms node layout tx t epoch (λ turn. Claims node tx t turn)
  committed_claims t epoch = record {
    enters = λ some. enters t t _ refl;
    ends = λ none. quiet (refl, (refl, tt)) (λ is. is);
  }

  end_quiet : (why : AbortCause) (b : Bool) → AreQuiet (abort_end node tx why b)
  end_quiet why true = (refl, (refl, tt))
  end_quiet why false = (refl, tt)

  abort_claims : (t u : Transaction) (why : AbortCause) → (is_open u.phase ≡ true → is_open t.phase ≡ true)
      → AbortForms node layout tx u why (λ turn. Claims node tx t turn)
  abort_claims t u why same = record {
    enters = λ some. enters t u _ refl;
    ends = λ none. quiet (end_quiet why (is_verifying u.phase)) same;
  }

  pub turn_claims : (t : Transaction) (body : Body)
      → TurnForms node layout tx t body (λ turn. Claims node tx t turn)
  turn_claims t body = record {
    stays = quiet tt (λ is. is);
    goes_on = λ at.
        quiet (part_quiet (phase_sends layout tx t.phase t.touched) at (phase_quiet t.phase t.touched)) (λ is. is);
    operates = λ op is can. quiet (refl, tt) (λ is. is);
    answers = λ key answer asked is on at. quiet (refl, tt) (λ is. is);
    late = λ key asked why verifying awaited on at.
        quiet (each_mapped IsQuiet (abort_of tx key) (chain_of layout key) (λ r. refl)) (λ is. is);
    waits = λ asked on.
        quiet (each_mapped IsQuiet (wait_of tx (key_of asked.op)) asked.chain (λ r. refl)) (λ is. is);
    decides = λ is ready. asks t.ops (ap is_open (ready_is t.phase t.asked ready).0) refl refl;
    commits = λ epoch is at some. enters t t _ refl;
    commits_none = λ epoch is at. committed_claims t epoch;
    committed = λ epoch awaited at more. quiet tt (λ is. absurd cc);
    committed_all = λ epoch awaited at. committed_claims t epoch;
    completed = λ epoch awaited at more. quiet tt (λ is. absurd cc);
    completed_all = λ epoch awaited at last. quiet (refl, tt) (λ is. is);
    rolls_back = λ is undecided unaborted. abort_claims t t _ (λ is. is);
    refuses = λ key why asked is on at. abort_claims t (asking t None) why (λ is. is);
    aborted = λ why verifying awaited at more. quiet tt (λ is. absurd cc);
    aborted_all = λ why verifying awaited at last. quiet (end_quiet why verifying) (λ is. is);
  }

  pub resume_claims : (t : Transaction) → ResumeForms node layout tx t (λ turn. Claims node tx t turn)
  resume_claims t = record {
    stays = quiet tt (λ is. is);
    fails = λ number is. abort_claims t (asking t None) _ (λ is. is);
    anew = λ why verifying awaited at b. anew t why verifying b;
    recommits = λ epoch awaited at. enters t _ _ refl;
    recompletes = λ epoch awaited at. enters t _ _ refl;
  }
    where
      anew : (t : Transaction) (why : AbortCause) (verifying b : Bool)
          → Claims node tx t (anew_if node layout tx (asking t None) why verifying b)
      anew t why verifying true = quiet (end_quiet why verifying) (λ is. is)
      anew t why verifying false = enters t (asking t None) _ refl
