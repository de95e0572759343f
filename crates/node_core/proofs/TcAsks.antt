-- The coordinator sends no request of the shell.
use Rattle.std.proofs.Common.{ℕ, List, take, drop, length, Bool, true, false, refl}
use Rattle.std.specs.Prelude.{◌+◌, nat_lt}
use Rattle.std.specs.List.{flat_map}
use Rattle.run_theory.specs.Lists.{Each}
use Rattle.run_theory.proofs.EachSent.{each_drop, each_flat, each_mapped, each_take}
use Rattle.run_theory.proofs.Pasts.{each_append}
use Rattle.sig_core.specs.declared.portion.TheConstants.{PORTION}
use Rattle.sig_core.specs.declared.member.TxId.{TxId}
use Rattle.sig_core.specs.declared.outcome.AbortCause.{AbortCause}
use Rattle.sig_core.specs.declared.outs.Outgoing.{Outgoing}
use Rattle.sig_core.specs.declared.signal.Body.{Body}
use Rattle.frag_map.specs.Layout.{Layout, chain_of}
use Rattle.sig_core.specs.Op.{key_of}
use Rattle.tc_block.specs.declared.phase.Phase.{Phase}
use Rattle.tc_block.specs.declared.phase.Phase.TheVariants.{Open, Verifying, Committing, Completing, Aborting}
use Rattle.tc_block.specs.declared.touched.Touched.{Touched}
use Rattle.tc_block.specs.declared.transaction.Transaction.{Transaction}
use Rattle.tc_block.specs.Abort.{abort_end, is_verifying}
use Rattle.tc_block.specs.Part.{part_effects, rest_if}
use Rattle.tc_block.specs.Sends.{abort_of, complete_if, entering, front_sends, key_sends, phase_sends, wait_of}
use Rattle.tc_block.specs.State.{TcState}
use Rattle.tc_block.specs.Tc.{tc_table}
use Rattle.tc_block.specs.Turn.{Turn}
use Rattle.tc_block.proofs.EachTurn.{AbortForms, CommittedForms, TurnForms, rows_of}
use Rattle.tc_block.proofs.EachTc.{tc_each}
use Rattle.tc_block.specs.Live.{turned_if}
use Rattle.api_block.proofs.Quiet.{AsksNone, AsksNothing, each_asks_none}

-- a turn of a transaction that sends no request
abbrev AsksInTurn : Turn → Type 0
AsksInTurn turn = Each AsksNone turn.step.effects.sends

module _ (node : ℕ) (layout : Layout) (tx : TxId) where
  rest_asks : (at : ℕ) (b : Bool) → Each AsksNone (rest_if node tx at b)
  rest_asks at true = (refl, tt)
  rest_asks at false = tt

  part_asks : (sends : List Outgoing) (at : ℕ) → Each AsksNone sends
      → Each AsksNone (part_effects node tx sends at).sends
  unfolding part_effects
  part_asks sends at all =
      each_append AsksNone (take PORTION (drop at sends)) (rest_if node tx at (nat_lt (at + PORTION) (length sends)))
      (each_take AsksNone PORTION (drop at sends) (each_drop AsksNone at sends all))
      (rest_asks at (nat_lt (at + PORTION) (length sends)))

  front_asks : (phase : Phase) → Each AsksNone (front_sends tx phase)
  unfolding front_sends
  front_asks Open = tt
  front_asks Verifying = tt
  front_asks (Committing epoch awaited) = tt
  front_asks (Completing epoch awaited) = (refl, tt)
  front_asks (Aborting why verifying awaited) = tt

  complete_asks : (t : Touched) (b : Bool) → Each AsksNone (complete_if tx t b)
  complete_asks t true = (refl, tt)
  complete_asks t false = tt

  key_asks : (phase : Phase) (t : Touched) → Each AsksNone (key_sends layout tx phase t)
  unfolding key_sends
  key_asks Open t = tt
  key_asks Verifying t = tt
  key_asks (Committing epoch awaited) t = (refl, tt)
  key_asks (Completing epoch awaited) t = complete_asks t t.written
  key_asks (Aborting why verifying awaited) t =
      each_mapped AsksNone (abort_of tx t.key) (chain_of layout t.key) (λ r. refl)

  phase_asks : (phase : Phase) (touched : List Touched) → Each AsksNone (phase_sends layout tx phase touched)
  unfolding phase_sends
  phase_asks phase touched =
      each_append AsksNone (front_sends tx phase) (flat_map (key_sends layout tx phase) touched) (front_asks phase)
      (each_flat AsksNone (key_sends layout tx phase) touched (key_asks phase))

  enters : (t : Transaction) (phase : Phase) → Each AsksNone (entering node layout tx t phase).effects.sends
  unfolding entering
  enters t phase = part_asks (phase_sends layout tx phase t.touched) 0 (phase_asks phase t.touched)

  committed_asks : (t : Transaction) (epoch : ℕ) → CommittedForms node layout tx t epoch AsksInTurn
  committed_asks t epoch = record { enters = λ some. enters t _; ends = λ none. (refl, (refl, tt)) }

  abort_end_asks : (why : AbortCause) (b : Bool) → Each AsksNone (abort_end node tx why b)
  abort_end_asks why true = (refl, (refl, tt))
  abort_end_asks why false = (refl, tt)

  abort_asks : (t : Transaction) (why : AbortCause) → AbortForms node layout tx t why AsksInTurn
  abort_asks t why = record { enters = λ some. enters t _; ends = λ none. abort_end_asks why (is_verifying t.phase) }

  turn_asks : (t : Transaction) (body : Body) → TurnForms node layout tx t body AsksInTurn
  turn_asks t body = record {
    stays = tt;
    goes_on = λ at. part_asks (phase_sends layout tx t.phase t.touched) at (phase_asks t.phase t.touched);
    operates = λ op is can. (refl, tt);
    answers = λ key answer asked is on at. (refl, tt);
    late = λ key asked why verifying awaited on at. each_mapped AsksNone (abort_of tx key) (chain_of layout key)
        (λ r. refl);
    waits = λ asked on. each_mapped AsksNone (wait_of tx (key_of asked.op)) asked.chain (λ r. refl);
    decides = λ is ready. (refl, tt);
    commits = λ epoch is at some. enters t _;
    commits_none = λ epoch is at. committed_asks t epoch;
    committed = λ epoch awaited at more. tt;
    committed_all = λ epoch awaited at. committed_asks t epoch;
    completed = λ epoch awaited at more. tt;
    completed_all = λ epoch awaited at last. (refl, tt);
    rolls_back = λ is undecided unaborted. abort_asks t _;
    refuses = λ key why asked is on at. abort_asks _ why;
    aborted = λ why verifying awaited at more. tt;
    aborted_all = λ why verifying awaited at last. abort_end_asks why verifying;
  }

pub tc_asks : (s : TcState) (body : Body) → AsksNothing (tc_table s body)
tc_asks s body =
    each_asks_none (tc_table s body).effects.sends
    (tc_each (λ tx t turn. AsksInTurn turn) (λ step. Each AsksNone step.effects.sends) s body
    (record {
      turns = λ tx t at split. rows_of s.node s.layout tx t body AsksInTurn (turn_asks s.node s.layout tx t body);
      turned = λ tx t at split turn plain. over at turn plain turn.over;
      stays = tt;
      full = λ name. (refl, tt);
      begins = λ name. (refl, tt);
      passes = λ tx ahead. (refl, tt);
    }))
  where
    over : (at : ℕ) (turn : Turn) → AsksInTurn turn → (b : Bool) → Each AsksNone (turned_if s at turn b).effects.sends
    over at turn plain true = plain
    over at turn plain false = plain
