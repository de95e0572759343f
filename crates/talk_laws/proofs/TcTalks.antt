-- What a turn of a coordinator's transaction has to do with its operations: one is asked for, one is answered, or all
-- go with the request for an epoch.
use Rattle.std.proofs.Common.{◌≡◌, ◌⊎◌, ◌+◌, ◌&&◌, ℕ, Bool, true, false, List, [], ◌∷◌, ◌++◌, take, drop, length}
use Rattle.std.proofs.Common.{nat_lt, refl, ap, inl, inr}
use Rattle.std.specs.Prelude.{Option, None, Some}
use Rattle.std.specs.List.{flat_map}
use Rattle.run_theory.specs.Lists.{Each}
use Rattle.run_theory.proofs.EachSent.{each_drop, each_flat, each_mapped, each_take}
use Rattle.run_theory.proofs.Pasts.{each_append}
use Rattle.sig_core.specs.declared.member.TxId.{TxId}
use Rattle.sig_core.specs.declared.op.Answer.{Answer}
use Rattle.sig_core.specs.declared.outcome.AbortCause.{AbortCause}
use Rattle.sig_core.specs.declared.outs.Outgoing.{Outgoing}
use Rattle.sig_core.specs.declared.signal.Body.{Body}
use Rattle.sig_core.specs.declared.signal.Body.TheVariants.{Client, Epoch}
use Rattle.sig_core.specs.declared.signal.client.ClientSignal.TheVariants.{TcKeyConf, TcKeyReq}
use Rattle.sig_core.specs.declared.signal.epoch.EpochSignal.TheVariants.{DiVerifyReq}
use Rattle.sig_core.specs.Op.{key_of}
use Rattle.sig_core.specs.Place.{client, epochs}
use Rattle.sig_core.specs.Step.{to_place}
use Rattle.frag_map.specs.Layout.{Layout, chain_of}
use Rattle.tc_block.proofs.EachResume.{ResumeForms}
use Rattle.tc_block.specs.Abort.{abort_end, is_verifying}
use Rattle.tc_block.specs.Operate.{is_ready}
use Rattle.tc_block.specs.Part.{part_effects, rest_if}
use Rattle.tc_block.specs.Phases.{is_open}
use Rattle.tc_block.specs.Resume.{anew_if}
use Rattle.tc_block.specs.Sends.{abort_of, complete_if, entering, front_sends, key_sends, phase_sends, wait_of}
use Rattle.tc_block.specs.Touched.{fits}
use Rattle.tc_block.specs.Turn.{Turn, asking, going}
use Rattle.tc_block.specs.declared.phase.Asked.{Asked}
use Rattle.tc_block.specs.declared.phase.Phase.{Phase}
use Rattle.tc_block.specs.declared.phase.Phase.TheVariants.{Open, Verifying, Committing, Completing, Aborting}
use Rattle.tc_block.specs.declared.touched.Touched.{Touched}
use Rattle.tc_block.specs.declared.transaction.Transaction.{Transaction}
use Rattle.tc_block.proofs.EachTurn.{AbortForms, CommittedForms, TurnForms, ready_is}
use Rattle.tc_views.specs.State.{go_on_if}
use Rattle.host_laws.proofs.rows.Operations.{left_of}

-- the signal asks for an operation or answers one, or asks for an epoch with them all
abbrev pub is_talk : Body → Bool
is_talk (Client (TcKeyReq tx op)) = true
is_talk (Client (TcKeyConf tx answer)) = true
is_talk (Epoch (DiVerifyReq tx ops)) = true
is_talk body = false

abbrev pub IsMute : Outgoing → Type 0
IsMute sent = is_talk sent.body ≡ false

abbrev pub AreMute : List Outgoing → Type 0
AreMute sends = Each IsMute sends

-- the transaction is open only if it was, with the same operations, and none unanswered that wasn't before
pub record Rests (t u : Transaction) : Type 0 where
  pub open_is : is_open u.phase ≡ true → is_open t.phase ≡ true
  pub ops_are : u.ops ≡ t.ops
  pub asked_is : (u.asked ≡ t.asked) ⊎ (u.asked ≡ None)

pub data Talks (node : ℕ) (tx : TxId) (t : Transaction) (body : Body) (turn : Turn) : Type 0 where
  rests : AreMute turn.step.effects.sends → Rests t turn.step.state → Talks node tx t body turn
  operates : (asked : Asked) → body ≡ Client (TcKeyReq tx asked.op) → AreMute turn.step.effects.sends
      → is_open t.phase ≡ true → turn.step.state.ops ≡ t.ops → turn.step.state.asked ≡ Some asked
      → Talks node tx t body turn
  answers : (asked : Asked) (answer : Answer) → is_open t.phase ≡ true → t.asked ≡ Some asked
      → turn.step.state.ops ≡ t.ops ++ (asked.op, answer) ∷ [] → turn.step.state.asked ≡ None
      → turn.step.effects.sends ≡ to_place client (Client (TcKeyConf tx answer)) ∷ [] → Talks node tx t body turn
  asks : is_open t.phase ≡ true → is_open turn.step.state.phase ≡ false
      → turn.step.effects.sends ≡ to_place (epochs node) (Epoch (DiVerifyReq tx t.ops)) ∷ []
      → Talks node tx t body turn

pub more_mute : (node : ℕ) (b : Bool) → AreMute (go_on_if node b)
more_mute node true = (refl, tt)
more_mute node false = tt

module _ (node : ℕ) (layout : Layout) (tx : TxId) where
  rest_mute : (at : ℕ) (b : Bool) → AreMute (rest_if node tx at b)
  rest_mute at true = (refl, tt)
  rest_mute at false = tt

  part_mute : (sends : List Outgoing) (at : ℕ) → AreMute sends → AreMute (part_effects node tx sends at).sends
  unfolding part_effects
  part_mute sends at all =
      each_append IsMute (take 8 (drop at sends)) (rest_if node tx at (nat_lt (at + 8) (length sends)))
      (each_take IsMute 8 (drop at sends) (each_drop IsMute at sends all))
      (rest_mute at (nat_lt (at + 8) (length sends)))

  front_mute : (phase : Phase) → AreMute (front_sends tx phase)
  unfolding front_sends
  front_mute Open = tt
  front_mute Verifying = tt
  front_mute (Committing epoch awaited) = tt
  front_mute (Completing epoch awaited) = (refl, tt)
  front_mute (Aborting why verifying awaited) = tt

  complete_mute : (t : Touched) (b : Bool) → AreMute (complete_if tx t b)
  complete_mute t true = (refl, tt)
  complete_mute t false = tt

  key_mute : (phase : Phase) (t : Touched) → AreMute (key_sends layout tx phase t)
  unfolding key_sends
  key_mute Open t = tt
  key_mute Verifying t = tt
  key_mute (Committing epoch awaited) t = (refl, tt)
  key_mute (Completing epoch awaited) t = complete_mute t t.written
  key_mute (Aborting why verifying awaited) t =
      each_mapped IsMute (abort_of tx t.key) (chain_of layout t.key) (λ r. refl)

  phase_mute : (phase : Phase) (touched : List Touched) → AreMute (phase_sends layout tx phase touched)
  unfolding phase_sends
  phase_mute phase touched =
      each_append IsMute (front_sends tx phase) (flat_map (key_sends layout tx phase) touched) (front_mute phase)
      (each_flat IsMute (key_sends layout tx phase) touched (key_mute phase))

  -- a transaction comes to a phase in which it isn't open
  enters : (t u : Transaction) (body : Body) (phase : Phase) → is_open phase ≡ false → u.ops ≡ t.ops
      → (u.asked ≡ t.asked) ⊎ (u.asked ≡ None) → Talks node tx t body (going (entering node layout tx u phase))
  unfolding entering
  enters t u body phase shut ops asked =
      rests (part_mute (phase_sends layout tx phase u.touched) 0 (phase_mute phase u.touched))
      (record { open_is = λ is. absurd cc; ops_are = ops; asked_is = asked })

  same : (t : Transaction) → Rests t t
  same t = record { open_is = λ is. is; ops_are = refl; asked_is = inl refl }

  committed_talks : (t : Transaction) (body : Body) (epoch : ℕ)
      → CommittedForms node layout tx t epoch (λ turn. Talks node tx t body turn)
  committed_talks t body epoch = record {
    enters = λ some. enters t t body _ refl refl (inl refl);
    ends = λ none. rests (refl, (refl, tt)) (same t);
  }

  end_mute : (why : AbortCause) (b : Bool) → AreMute (abort_end node tx why b)
  end_mute why true = (refl, (refl, tt))
  end_mute why false = (refl, tt)

  abort_talks : (t u : Transaction) (body : Body) (why : AbortCause) → Rests t u
      → AbortForms node layout tx u why (λ turn. Talks node tx t body turn)
  abort_talks t u body why is = record {
    enters = λ some. enters t u body _ refl is.ops_are is.asked_is;
    ends = λ none. rests (end_mute why (is_verifying u.phase)) is;
  }

  unasked : (t : Transaction) → Rests t (asking t None)
  unasked t = record { open_is = λ is. is; ops_are = refl; asked_is = inr refl }

  shut : (t u : Transaction) → is_open u.phase ≡ false → u.ops ≡ t.ops → u.asked ≡ t.asked → Rests t u
  shut t u off ops asked = record { open_is = λ is. absurd cc; ops_are = ops; asked_is = inl asked }

  opens : (phase : Phase) (asked : Option Asked) (fit : Bool) → (is_ready phase asked && fit) ≡ true
      → is_open phase ≡ true
  opens phase asked fit is = ap is_open (ready_is phase asked (left_of (is_ready phase asked) fit is)).0

  pub turn_talks : (t : Transaction) (body : Body)
      → TurnForms node layout tx t body (λ turn. Talks node tx t body turn)
  turn_talks t body = record {
    stays = rests tt (same t);
    goes_on = λ at.
        rests (part_mute (phase_sends layout tx t.phase t.touched) at (phase_mute t.phase t.touched)) (same t);
    operates = λ op is can.
        operates (record { op = op; chain = chain_of layout (key_of op) }) is (refl, tt)
        (opens t.phase t.asked (fits t.touched (key_of op)) can) refl
        refl;
    answers = λ key answer asked is on at. answers asked answer (ap is_open at) on refl refl refl;
    late = λ key asked why verifying awaited on at.
        rests (each_mapped IsMute (abort_of tx key) (chain_of layout key) (λ r. refl)) (unasked t);
    waits = λ asked on.
        rests (each_mapped IsMute (wait_of tx (key_of asked.op)) asked.chain (λ r. refl)) (same t);
    decides = λ is ready. asks (ap is_open (ready_is t.phase t.asked ready).0) refl refl;
    commits = λ epoch is at some. enters t t body _ refl refl (inl refl);
    commits_none = λ epoch is at. committed_talks t body epoch;
    committed = λ epoch awaited at more. rests tt (shut t _ refl refl refl);
    committed_all = λ epoch awaited at. committed_talks t body epoch;
    completed = λ epoch awaited at more. rests tt (shut t _ refl refl refl);
    completed_all = λ epoch awaited at last. rests (refl, tt) (same t);
    rolls_back = λ is undecided unaborted. abort_talks t t body _ (same t);
    refuses = λ key why asked is on at. abort_talks t (asking t None) body why (unasked t);
    aborted = λ why verifying awaited at more. rests tt (shut t _ refl refl refl);
    aborted_all = λ why verifying awaited at last. rests (end_mute why verifying) (same t);
  }

  pub resume_talks : (t : Transaction) (body : Body) → ResumeForms node layout tx t (λ turn. Talks node tx t body turn)
  resume_talks t body = record {
    stays = rests tt (same t);
    fails = λ number is. abort_talks t (asking t None) body _ (unasked t);
    anew = λ why verifying awaited at b. anew t why verifying b;
    recommits = λ epoch awaited at. enters t _ body _ refl refl (inl refl);
    recompletes = λ epoch awaited at. enters t _ body _ refl refl (inl refl);
  }
    where
      anew : (t : Transaction) (why : AbortCause) (verifying b : Bool)
          → Talks node tx t body (anew_if node layout tx (asking t None) why verifying b)
      anew t why verifying true = rests (end_mute why verifying) (unasked t)
      anew t why verifying false = enters t (asking t None) body _ refl refl (inr refl)
