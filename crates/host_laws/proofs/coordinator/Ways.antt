-- Which way a transaction goes at its coordinator: it goes forth only in phases from which it doesn't go back, and the
-- other way round.
use Rattle.std.proofs.Common.{◌≡◌, ◌⊎◌, ℕ, List, [], ◌∷◌, ◌++◌, take, drop, length, Bool, true, false, refl, ap, inl}
use Rattle.std.proofs.Common.{inr}
use Rattle.std.specs.Prelude.{◌+◌, ◌-◌, ◌||◌, nat_lt, Option, None, Some}
use Rattle.std.specs.List.{flat_map, list_any}
use Rattle.sig_core.specs.declared.member.TxId.{TxId}
use Rattle.sig_core.specs.declared.outcome.AbortCause.{AbortCause}
use Rattle.sig_core.specs.declared.outs.Outgoing.{Outgoing}
use Rattle.sig_core.specs.declared.signal.Body.{Body}
use Rattle.sig_core.specs.declared.signal.Body.TheVariants.{Client}
use Rattle.sig_core.specs.declared.signal.client.ClientSignal.TheVariants.{TcKeyConf}
use Rattle.frag_map.specs.Layout.{Layout}
use Rattle.sig_core.specs.Op.{key_of}
use Rattle.sig_core.specs.Place.{client}
use Rattle.sig_core.specs.Step.{Step, sending}
use Rattle.tc_block.specs.declared.phase.Asked.{Asked}
use Rattle.tc_block.specs.declared.phase.Phase.{Phase}
use Rattle.tc_block.specs.declared.phase.Phase.TheVariants.{Open, Verifying, Committing, Completing, Aborting}
use Rattle.tc_block.specs.declared.touched.Touched.{Touched}
use Rattle.tc_block.specs.declared.transaction.Transaction.{Transaction}
use Rattle.tc_block.specs.Abort as abort
use Rattle.frag_map.specs.Layout.{chain_of}
use Rattle.tc_block.specs.Commit as commit
use Rattle.tc_block.specs.Complete as complete
use Rattle.tc_block.specs.Operate as operate
use Rattle.tc_block.specs.Part.{part_effects, rest, rest_if}
use Rattle.tc_block.specs.Sends.{abort_of, complete_if, entering, front_sends, go_on_if, key_sends, phase_sends}
use Rattle.tc_block.specs.Sends.{reported, verify_end, wait_of}
use Rattle.tc_block.specs.Turn.{Turn, asking, going}
use Rattle.run_theory.specs.Lists.{Each}
use Rattle.run_theory.proofs.Pasts.{each_append}
use Rattle.sig_core.specs.Step.{stay}
use Rattle.tc_block.specs.Phases.{is_completing, is_decided}
use Rattle.tc_block.specs.Phases.{is_aborting}
use Rattle.host_laws.specs.Ways.{Way, back, closes, forth, is_forth, neither, way_of}
use Rattle.sig_core.proofs.Keys.{same_tx-self}
use Rattle.tc_block.proofs.EachTurn.{AbortForms, CommittedForms, TurnForms}
use Rattle.run_theory.proofs.EachSent.{each_drop, each_flat, each_mapped, each_take}
use Rattle.sig_core.specs.declared.portion.TheConstants.{PORTION}

-- what a transaction in this phase sends
abbrev pub WayOf : TxId → Phase → Way → Type 0
WayOf tx phase (forth other) = (other ≡ tx) × (is_decided phase ≡ true)
WayOf tx phase (back other) = (other ≡ tx) × (is_aborting phase ≡ true)
WayOf tx phase (closes other) = (other ≡ tx) × (is_completing phase ≡ true)
WayOf tx phase neither = Unit {0}

abbrev pub AllWays : TxId → Phase → List Outgoing → Type 0
AllWays tx phase sends = Each (λ (o : Outgoing). WayOf tx phase (way_of o.body)) sends

-- who comes to complete tells the client
abbrev pub TellsForth : TxId → Phase → Phase → List Outgoing → Type 0
TellsForth tx before after sends = is_completing after ≡ true → (is_completing before ≡ true)
    ⊎ (list_any (λ (o : Outgoing). is_forth tx (way_of o.body)) sends ≡ true)

-- a step of a transaction in this phase
pub record Ways (tx : TxId) (phase : Phase) (step : Step Transaction) : Type 0 where
  pub sends : AllWays tx step.state.phase step.effects.sends
  pub forward : is_decided phase ≡ true → is_decided step.state.phase ≡ true
  pub backward : is_aborting phase ≡ true → is_aborting step.state.phase ≡ true
  pub told : TellsForth tx phase step.state.phase step.effects.sends

-- a turn, after which the transaction is in this phase or is over
pub record TurnWays (tx : TxId) (phase : Phase) (turn : Turn) : Type 0 where
  pub last : Phase
  pub sends : AllWays tx last turn.step.effects.sends
  pub forward : is_decided phase ≡ true → is_decided last ≡ true
  pub backward : is_aborting phase ≡ true → is_aborting last ≡ true
  pub told : TellsForth tx phase last turn.step.effects.sends
  pub stands : turn.over ≡ false → turn.step.state.phase ≡ last

pub decided_apart : (phase : Phase) → is_decided phase ≡ true → is_aborting phase ≡ false
decided_apart (Aborting why verifying awaited) is = absurd cc
decided_apart Open is = refl
decided_apart Verifying is = refl
decided_apart (Committing epoch awaited) is = refl
decided_apart (Completing epoch awaited) is = refl

pub aborting_apart : (phase : Phase) → is_aborting phase ≡ true → is_decided phase ≡ false
aborting_apart (Aborting why verifying awaited) is = refl
aborting_apart Open is = refl
aborting_apart Verifying is = refl
aborting_apart (Committing epoch awaited) is = absurd cc
aborting_apart (Completing epoch awaited) is = absurd cc

pub not_both : {A : Type 0} (b : Bool) → b ≡ true → b ≡ false → A
not_both true yes_is no_is = absurd cc
not_both false yes_is no_is = absurd cc

module _ (tx : TxId) where
  stays : (t : Transaction) → Ways tx t.phase (stay t)
  stays t = record { sends = tt; forward = λ is. is; backward = λ is. is; told = λ is. inl is }

  goes : (phase : Phase) (step : Step Transaction) → Ways tx phase step → TurnWays tx phase (going step)
  goes phase step ways = record {
    last = step.state.phase;
    sends = ways.sends;
    forward = ways.forward;
    backward = ways.backward;
    told = ways.told;
    stands = λ off. refl;
  }

  still : (t : Transaction) → TurnWays tx t.phase (going (stay t))
  still t = goes t.phase (stay t) (stays t)

  rest_ways : (phase : Phase) (node at : ℕ) (b : Bool) → AllWays tx phase (rest_if node tx at b)
  rest_ways phase node at true = (tt, tt)
  rest_ways phase node at false = tt

  part_ways : (phase : Phase) (node : ℕ) (sends : List Outgoing) (at : ℕ) → AllWays tx phase sends
      → AllWays tx phase (part_effects node tx sends at).sends
  unfolding part_effects
  part_ways phase node sends at all =
      each_append (λ (o : Outgoing). WayOf tx phase (way_of o.body)) (take PORTION (drop at sends))
      (rest_if node tx at (nat_lt (at + PORTION) (length sends)))
      (each_take (λ (o : Outgoing). WayOf tx phase (way_of o.body)) PORTION (drop at sends)
      (each_drop (λ (o : Outgoing). WayOf tx phase (way_of o.body)) at sends all))
      (rest_ways phase node at (nat_lt (at + PORTION) (length sends)))

  front_ways : (phase : Phase) → AllWays tx phase (front_sends tx phase)
  unfolding front_sends
  front_ways Open = tt
  front_ways Verifying = tt
  front_ways (Committing epoch awaited) = tt
  front_ways (Completing epoch awaited) = ((refl, refl), tt)
  front_ways (Aborting why verifying awaited) = tt

  complete_ways : (phase : Phase) (t : Touched) (b : Bool) → is_completing phase ≡ true
      → AllWays tx phase (complete_if tx t b)
  complete_ways phase t true on = ((refl, on), tt)
  complete_ways phase t false on = tt

  key_ways : (layout : Layout) (phase : Phase) (t : Touched) → AllWays tx phase (key_sends layout tx phase t)
  unfolding key_sends
  key_ways layout Open t = tt
  key_ways layout Verifying t = tt
  key_ways layout (Committing epoch awaited) t = ((refl, refl), tt)
  key_ways layout (Completing epoch awaited) t = complete_ways (Completing epoch awaited) t t.written refl
  key_ways layout (Aborting why verifying awaited) t =
      each_mapped (λ (o : Outgoing). WayOf tx (Aborting why verifying awaited) (way_of o.body)) (abort_of tx t.key)
      (chain_of layout t.key) (λ r. (refl, refl))

  phase_ways : (layout : Layout) (phase : Phase) (touched : List Touched)
      → AllWays tx phase (phase_sends layout tx phase touched)
  unfolding phase_sends
  phase_ways layout phase touched =
      each_append (λ (o : Outgoing). WayOf tx phase (way_of o.body)) (front_sends tx phase)
      (flat_map (key_sends layout tx phase) touched) (front_ways phase)
      (each_flat (λ (o : Outgoing). WayOf tx phase (way_of o.body)) (key_sends layout tx phase) touched
      (key_ways layout phase))

  enters : (node : ℕ) (layout : Layout) (t : Transaction) (before phase : Phase)
      → (is_decided before ≡ true → is_decided phase ≡ true) → (is_aborting before ≡ true → is_aborting phase ≡ true)
      → TellsForth tx before phase (part_effects node tx (phase_sends layout tx phase t.touched) 0).sends
      → Ways tx before (entering node layout tx t phase)
  unfolding entering
  enters node layout t before phase forward backward told = record {
    sends = part_ways phase node (phase_sends layout tx phase t.touched) 0 (phase_ways layout phase t.touched);
    forward = forward;
    backward = backward;
    told = told;
  }

  tells_first : (epoch : ℕ) (more : List Outgoing)
      → list_any (λ (o : Outgoing). is_forth tx (way_of o.body)) (reported tx epoch ∷ more) ≡ true
  tells_first epoch more =
      ap (λ b. b || list_any (λ (o : Outgoing). is_forth tx (way_of o.body)) more) (same_tx-self tx)

  completing_tells : (node : ℕ) (layout : Layout) (touched : List Touched) (epoch awaited : ℕ)
      → list_any (λ (o : Outgoing). is_forth tx (way_of o.body))
      (part_effects node tx (phase_sends layout tx (Completing epoch awaited) touched) 0).sends ≡ true
  unfolding part_effects phase_sends front_sends
  completing_tells node layout touched epoch awaited =
      tells_first epoch (take (PORTION - 1)
      (flat_map (key_sends layout tx (Completing epoch awaited)) touched) ++ rest node tx
      (phase_sends layout tx (Completing epoch awaited) touched) 0)

  -- an answer that comes late sends aborts again
  late_ways : (layout : Layout) (t : Transaction) (key : List ℕ) → is_aborting t.phase ≡ true
      → Ways tx t.phase (operate.late_answer layout tx t key)
  late_ways layout t key is = record {
    sends = each_mapped (λ (o : Outgoing). WayOf tx t.phase (way_of o.body)) (abort_of tx key) (chain_of layout key)
        (λ r. (refl, is));
    forward = λ is. is;
    backward = λ is. is;
    told = λ is. inl is;
  }

  -- a transaction that is open waits for its epoch
  decide_ways : (node : ℕ) (t : Transaction) → operate.is_ready t.phase t.asked ≡ true
      → Ways tx t.phase (commit.verify_if node tx t true)
  decide_ways node t ready = record {
    sends = (tt, tt);
    forward = λ is. not_both (is_decided t.phase) is (undecided t.phase t.asked ready);
    backward = λ is. not_both (is_aborting t.phase) is (unaborted t.phase t.asked ready);
    told = λ is. absurd cc;
  }
    where
      undecided : (phase : Phase) (asked : Option Asked) → operate.is_ready phase asked ≡ true
          → is_decided phase ≡ false
      undecided Open asked is = refl
      undecided Verifying asked is = refl
      undecided (Aborting why verifying awaited) asked is = refl
      undecided (Committing epoch awaited) asked is = absurd cc
      undecided (Completing epoch awaited) asked is = absurd cc

      unaborted : (phase : Phase) (asked : Option Asked) → operate.is_ready phase asked ≡ true
          → is_aborting phase ≡ false
      unaborted Open asked is = refl
      unaborted Verifying asked is = refl
      unaborted (Aborting why verifying awaited) asked is = absurd cc
      unaborted (Committing epoch awaited) asked is = refl
      unaborted (Completing epoch awaited) asked is = refl

  module _ (node : ℕ) (layout : Layout) where
    -- from a phase in which nothing is aborted
    committed_ways : (t : Transaction) (epoch : ℕ) → is_aborting t.phase ≡ false
        → CommittedForms node layout tx t epoch (λ turn. TurnWays tx t.phase turn)
    committed_ways t epoch off = record {
      enters = λ some. goes t.phase (entering node layout tx t (Completing epoch (complete.written_count t.touched)))
          (enters node layout t t.phase (Completing epoch (complete.written_count t.touched)) (λ is. refl)
          (λ is. not_both (is_aborting t.phase) is off)
          (λ is. inr (completing_tells node layout t.touched epoch (complete.written_count t.touched))));
      ends = λ none. record {
        last = Completing epoch 0;
        sends = ((refl, refl), (tt, tt));
        forward = λ is. refl;
        backward = λ is. not_both (is_aborting t.phase) is off;
        told = λ is. inr (tells_first epoch (verify_end node tx ∷ []));
        stands = λ going_on. absurd cc;
      };
    }

    abort_end_ways : (phase : Phase) (why : AbortCause) (b : Bool) → is_aborting phase ≡ true
        → AllWays tx phase (abort.abort_end node tx why b)
    abort_end_ways phase why true on = (tt, ((refl, on), tt))
    abort_end_ways phase why false on = ((refl, on), tt)

    -- from a phase in which nothing is committed
    abort_ways : (t : Transaction) → is_decided t.phase ≡ false → (why : AbortCause)
        → AbortForms node layout tx t why (λ turn. TurnWays tx t.phase turn)
    abort_ways t off why = record {
      enters = λ some. goes t.phase
          (entering node layout tx t (Aborting why (abort.is_verifying t.phase) (abort.aborts_awaited layout t)))
          (enters node layout t t.phase (Aborting why (abort.is_verifying t.phase) (abort.aborts_awaited layout t))
          (λ is. not_both (is_decided t.phase) is off) (λ is. refl) (λ is. absurd cc));
      ends = λ none. record {
        last = Aborting why (abort.is_verifying t.phase) 0;
        sends = abort_end_ways (Aborting why (abort.is_verifying t.phase) 0) why (abort.is_verifying t.phase) refl;
        forward = λ is. not_both (is_decided t.phase) is off;
        backward = λ is. refl;
        told = λ is. absurd cc;
        stands = λ going_on. absurd cc;
      };
    }

    -- whatever turn it takes
    pub turn_ways : (t : Transaction) (body : Body) → TurnForms node layout tx t body (λ turn. TurnWays tx t.phase turn)
    turn_ways t body = record {
      stays = still t;
      goes_on = λ at. goes t.phase (go_on_if node layout tx t at true)
          (record {
            sends = part_ways t.phase node (phase_sends layout tx t.phase t.touched) at
                (phase_ways layout t.phase t.touched);
            forward = λ is. is;
            backward = λ is. is;
            told = λ is. inl is;
          });
      operates = λ op is can. goes t.phase (operate.operating tx t op (chain_of layout (key_of op)))
          (record { sends = (tt, tt); forward = λ is. is; backward = λ is. is; told = λ is. inl is });
      answers = λ key answer asked is on at. goes t.phase
          (sending (operate.answered t asked answer) client (Client (TcKeyConf tx answer)))
          (record { sends = (tt, tt); forward = λ is. is; backward = λ is. is; told = λ is. inl is });
      late = λ key asked why verifying awaited on at. goes t.phase (operate.late_answer layout tx t key)
          (late_ways layout t key (ap is_aborting at));
      waits = λ asked on. goes t.phase (operate.wait_by tx t (Some asked)) (record {
        sends = each_mapped (λ (o : Outgoing). WayOf tx t.phase (way_of o.body))
            (wait_of tx (key_of asked.op)) asked.chain (λ r. tt);
        forward = λ is. is;
        backward = λ is. is;
        told = λ is. inl is;
      });
      decides = λ is ready. goes t.phase (commit.verify_if node tx t true) (decide_ways node t ready);
      commits = λ epoch is at some. goes t.phase (entering node layout tx t (Committing epoch (length t.touched)))
          (enters node layout t t.phase (Committing epoch (length t.touched)) (λ is. refl)
          (λ is. not_both (is_aborting t.phase) is (ap is_aborting at)) (λ is. absurd cc));
      commits_none = λ epoch is at. committed_ways t epoch (ap is_aborting at);
      committed = λ epoch awaited at more. record {
        last = Committing epoch (awaited - 1);
        sends = tt;
        forward = λ is. refl;
        backward = λ is. not_both (is_aborting t.phase) is (ap is_aborting at);
        told = λ is. absurd cc;
        stands = λ off. refl;
      };
      committed_all = λ epoch awaited at. committed_ways t epoch (ap is_aborting at);
      completed = λ epoch awaited at more. record {
        last = Completing epoch (awaited - 1);
        sends = tt;
        forward = λ is. refl;
        backward = λ is. not_both (is_aborting t.phase) is (ap is_aborting at);
        told = λ is. inl (ap is_completing at);
        stands = λ off. refl;
      };
      completed_all = λ epoch awaited at ends. record {
        last = t.phase;
        sends = (tt, tt);
        forward = λ is. is;
        backward =
            λ is. is;
        told = λ is. inl is;
        stands = λ off. refl;
      };
      rolls_back = λ is undecided unaborted. abort_ways t undecided _;
      refuses = λ key why asked is on at. abort_ways (asking t None) (ap is_decided at) why;
      aborted = λ why verifying awaited at more. record {
        last = Aborting why verifying (awaited - 1);
        sends = tt;
        forward = λ is. not_both (is_decided t.phase) is (ap is_decided at);
        backward = λ is. refl;
        told = λ is. absurd cc;
        stands = λ off. refl;
      };
      aborted_all = λ why verifying awaited at ends. record {
        last = t.phase;
        sends = abort_end_ways t.phase why verifying (ap is_aborting at);
        forward = λ is. is;
        backward = λ is. is;
        told = λ is. inl is;
        stands = λ off. refl;
      };
    }
