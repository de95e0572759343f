-- A coordinator does in calm what the plain one does.
use Rattle.std.proofs.Common.{◌≡◌, ◌∙◌, ℕ, suc, List, [], take, drop, length, Bool, true, false, refl, ap, inl, inr}
use Rattle.std.specs.Prelude.{◌+◌, nat_lt}
use Rattle.std.specs.List.{flat_map}
use Rattle.std.proofs.lemmas.Bool.{false≢true}
use Rattle.frag_map.specs.Layout.{Layout, chain_of, first_number}
use Rattle.host_laws.proofs.coordinator.Marks.{tc_marks}
use Rattle.node_core.specs.declared.host.Host.TheVariants as plain_host
use Rattle.node_core.specs.declared.tc_part.TcPart as plain
use Rattle.node_core.specs.Row as plain_row
use Rattle.node_views.specs.Blocks.{in_tc}
use Rattle.node_views.specs.Parts.{in_coordinator}
use Rattle.node_views.specs.declared.parts.Parts.TheVariants.{Tc}
use Rattle.node_views.specs.declared.tc_part.TcPart.{TcPart}
use Rattle.run_theory.specs.Lists.{Each}
use Rattle.run_theory.proofs.EachSent.{each_drop, each_flat, each_mapped, each_take}
use Rattle.run_theory.proofs.Pasts.{each_append}
use Rattle.sig_core.specs.declared.member.TxId.{TxId}
use Rattle.sig_core.specs.declared.outcome.AbortCause.{AbortCause}
use Rattle.sig_core.specs.declared.outs.Outgoing.{Outgoing}
use Rattle.sig_core.specs.declared.portion.TheConstants.{PORTION}
use Rattle.sig_core.specs.declared.signal.Body.{Body}
use Rattle.sig_core.specs.declared.signal.Body.TheVariants.{Host, Membership}
use Rattle.sig_core.specs.declared.signal.Signal.{Signal}
use Rattle.sig_core.specs.declared.signal.host.HostSignal.TheVariants.{Continue}
use Rattle.sig_core.specs.declared.signal.host.Work.TheVariants as work
use Rattle.sig_core.specs.declared.signal.membership.MembershipSignal.TheVariants.{FenceReq}
use Rattle.sig_core.specs.Op.{key_of}
use Rattle.sig_core.specs.Step.{Step}
use Rattle.tc_block.specs.Abort.{abort_end, is_verifying}
use Rattle.tc_block.specs.Live.{turned_if}
use Rattle.tc_block.specs.Part.{part_effects, rest_if}
use Rattle.tc_block.specs.Sends.{abort_of, complete_if, entering, front_sends, key_sends, phase_sends, wait_of}
use Rattle.tc_block.specs.State.{TcState}
use Rattle.tc_block.specs.Tc.{tc_row, tc_table}
use Rattle.tc_block.specs.Turn.{Turn}
use Rattle.tc_block.specs.declared.phase.Phase.{Phase}
use Rattle.tc_block.specs.declared.phase.Phase.TheVariants.{Open, Verifying, Committing, Completing, Aborting}
use Rattle.tc_block.specs.declared.touched.Touched.{Touched}
use Rattle.tc_block.specs.declared.transaction.Transaction.{Transaction}
use Rattle.tc_block.proofs.EachTc.{tc_each}
use Rattle.tc_block.proofs.EachTurn.{AbortForms, CommittedForms, TurnForms, rows_of}
use Rattle.tc_views.specs.Coordinator.{coordinator_row}
use Rattle.tc_views.specs.Laws.{IsCalm, alone}
use Rattle.tc_views.specs.State.{CoordinatorState}
use Rattle.tc_views.proofs.CalmLemmas.{calm_steps}
use Rattle.world_core.specs.Start.{Start}
use Rattle.world_views.specs.Machine.{stops_by}
use Rattle.calm_laws.specs.Alike.{ArePartsAlike, at_ease}
use Rattle.calm_laws.specs.Calm.{is_for_coordinator}
use Rattle.calm_laws.specs.Steps.{IsPlainSend}
use Rattle.calm_laws.proofs.plain_steps.PartsAlike.{PartsAlike}

-- a coordinator sends to the parts of nodes, and to the client
module _ (h : ℕ) where
  abbrev Plain : Outgoing → Type 0
  Plain send = IsPlainSend (suc h) send

  abbrev PlainTurn : Turn → Type 0
  PlainTurn turn = Each Plain turn.step.effects.sends

  module _ (node : ℕ) (layout : Layout) (tx : TxId) where
    rest_plain : (at : ℕ) (b : Bool) → Each Plain (rest_if node tx at b)
    rest_plain at true = (record { place = inl refl; work = refl }, tt)
    rest_plain at false = tt

    part_plain : (sends : List Outgoing) (at : ℕ) → Each Plain sends → Each Plain (part_effects node tx sends at).sends
    unfolding part_effects
    part_plain sends at all =
        each_append Plain (take PORTION (drop at sends)) (rest_if node tx at (nat_lt (at + PORTION) (length sends)))
        (each_take Plain PORTION (drop at sends) (each_drop Plain at sends all))
        (rest_plain at (nat_lt (at + PORTION) (length sends)))

    front_plain : (phase : Phase) → Each Plain (front_sends tx phase)
    unfolding front_sends
    front_plain Open = tt
    front_plain Verifying = tt
    front_plain (Committing epoch awaited) = tt
    front_plain (Completing epoch awaited) = (record { place = inr refl; work = refl }, tt)
    front_plain (Aborting why verifying awaited) = tt

    complete_plain : (t : Touched) (b : Bool) → Each Plain (complete_if tx t b)
    complete_plain t true = (record { place = inl refl; work = refl }, tt)
    complete_plain t false = tt

    key_plain : (phase : Phase) (t : Touched) → Each Plain (key_sends layout tx phase t)
    unfolding key_sends
    key_plain Open t = tt
    key_plain Verifying t = tt
    key_plain (Committing epoch awaited) t = (record { place = inl refl; work = refl }, tt)
    key_plain (Completing epoch awaited) t = complete_plain t t.written
    key_plain (Aborting why verifying awaited) t =
        each_mapped Plain (abort_of tx t.key) (chain_of layout t.key) (λ r. record { place = inl refl; work = refl })

    phase_plain : (phase : Phase) (touched : List Touched) → Each Plain (phase_sends layout tx phase touched)
    unfolding phase_sends
    phase_plain phase touched =
        each_append Plain (front_sends tx phase) (flat_map (key_sends layout tx phase) touched) (front_plain phase)
        (each_flat Plain (key_sends layout tx phase) touched (key_plain phase))

    enters : (t : Transaction) (phase : Phase) → Each Plain (entering node layout tx t phase).effects.sends
    unfolding entering
    enters t phase = part_plain (phase_sends layout tx phase t.touched) 0 (phase_plain phase t.touched)

    committed_plain : (t : Transaction) (epoch : ℕ) → CommittedForms node layout tx t epoch PlainTurn
    committed_plain t epoch = record {
      enters = λ some. enters t _;
      ends = λ none. (record { place = inr refl; work = refl }, (record { place = inl refl; work = refl }, tt));
    }

    abort_end_plain : (why : AbortCause) (b : Bool) → Each Plain (abort_end node tx why b)
    abort_end_plain why true =
        (record { place = inl refl; work = refl }, (record { place = inr refl; work = refl }, tt))
    abort_end_plain why false = (record { place = inr refl; work = refl }, tt)

    abort_plain : (t : Transaction) (why : AbortCause) → AbortForms node layout tx t why PlainTurn
    abort_plain t why =
        record { enters = λ some. enters t _; ends = λ none. abort_end_plain why (is_verifying t.phase) }

    turn_plain : (t : Transaction) (body : Body) → TurnForms node layout tx t body PlainTurn
    turn_plain t body = record {
      stays = tt;
      goes_on = λ at. part_plain (phase_sends layout tx t.phase t.touched) at (phase_plain t.phase t.touched);
      operates = λ op is can. (record { place = inl refl; work = refl }, tt);
      answers = λ key answer asked is on at. (record { place = inr refl; work = refl }, tt);
      late = λ key asked why verifying awaited on at.
          each_mapped Plain (abort_of tx key) (chain_of layout key) (λ r. record { place = inl refl; work = refl });
      waits = λ asked on.
          each_mapped Plain (wait_of tx (key_of asked.op)) asked.chain (λ r. record { place = inl refl; work = refl });
      decides = λ is ready. (record { place = inl refl; work = refl }, tt);
      commits = λ epoch is at some. enters t _;
      commits_none = λ epoch is at. committed_plain t epoch;
      committed = λ epoch awaited at more. tt;
      committed_all = λ epoch awaited at. committed_plain t epoch;
      completed = λ epoch awaited at more. tt;
      completed_all = λ epoch awaited at last. (record { place = inl refl; work = refl }, tt);
      rolls_back = λ is undecided unaborted. abort_plain t _;
      refuses = λ key why asked is on at. abort_plain _ why;
      aborted = λ why verifying awaited at more. tt;
      aborted_all = λ why verifying awaited at last. abort_end_plain why verifying;
    }

  tc_plain : (s : TcState) (body : Body) → Each Plain (tc_table s body).effects.sends
  tc_plain s body =
      tc_each (λ tx t turn. PlainTurn turn) (λ step. Each Plain step.effects.sends) s body
      (record {
        turns = λ tx t at split. rows_of s.node s.layout tx t body PlainTurn (turn_plain s.node s.layout tx t body);
        turned = λ tx t at split turn plain. over at turn plain turn.over;
        stays = tt;
        full = λ name. (record { place = inr refl; work = refl }, tt);
        begins = λ name. (record { place = inr refl; work = refl }, tt);
        passes = λ tx ahead. (record { place = inr refl; work = refl }, tt);
      })
    where
      over : (at : ℕ) (turn : Turn) → PlainTurn turn → (b : Bool) → Each Plain (turned_if s at turn b).effects.sends
      over at turn plain true = plain
      over at turn plain false = plain

-- it promises no view, installs none, and takes nothing of an older one
calm_for : (body : Body) (number : ℕ) → is_for_coordinator body ≡ true → number ≡ first_number
    → IsCalm first_number number body
calm_for (Membership (FenceReq proposal)) number is same = absurd (false≢true is)
calm_for (Host (Continue work.Installation at)) number is same = absurd (false≢true is)
calm_for (Host (Continue (work.Transaction tx) at)) number is same = ap (λ n. nat_lt n first_number) same
calm_for body number is same = tt

pub tc_step : (start : Start) (h : ℕ) (p : TcPart) (q : plain.TcPart) (x : Signal)
    → ArePartsAlike start [] (Tc p) (plain_host.Tc q) → is_for_coordinator x.body ≡ true
    → x.view.number ≡ first_number
    → PartsAlike start h (in_tc (in_coordinator p (coordinator_row p.coordinator x)))
    (plain_row.in_tc_part (plain_row.in_tc q (tc_row q.tc x)))
tc_step start h p q x alike is view = record {
  marks = ap (λ (step : Step CoordinatorState). step.effects.marks) same;
  sends = ap (λ (step : Step CoordinatorState). step.effects.sends) same;
  plain = tc_plain h q.tc x.body;
  goes_on = ap stops_by (tc_marks q.tc x.body);
  alike = (ap (λ (step : Step CoordinatorState). step.state) same, alike.1);
}
  where
    same : coordinator_row p.coordinator x ≡ alone (at_ease q.tc) (tc_row q.tc x)
    same =
        ap (λ (c : CoordinatorState). coordinator_row c x) alike.0
        ∙ calm_steps (at_ease q.tc) x refl refl (calm_for x.body x.view.number is view)
