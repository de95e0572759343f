-- Turn by turn: an abort of each key that a transaction has touched is sent to each replica, or still to be sent.
use Rattle.std.proofs.Common.{◌≡◌, ◌⊎◌, ◌≤◌, ◌<◌, ◌+◌, ◌-◌, ℕ, zero, suc, Bool, true, false, List, [], ◌∷◌, ◌++◌, drop}
use Rattle.std.proofs.Common.{length, take}
use Rattle.std.proofs.Common.{refl, sym, ap, ◌∙◌, subst, arith, inl, inr}
use Rattle.std.proofs.lemmas.Bool.{and_parts, eqb-true, false≢true, or_cases, or_left, or_right, true≢false}
use Rattle.std.proofs.lemmas.List.Folds.{list_any-append}
use Rattle.std.specs.List.{flat_map, list_any}
use Rattle.std.specs.Prelude.{◌==◌, ◌&&◌, ◌||◌, nat_lt, Option, None, Some}
use Rattle.run_theory.proofs.EachSent.{each_drop, each_flat, each_mapped, each_take}
use Rattle.run_theory.proofs.Pasts.{each_append}
use Rattle.run_theory.specs.Counts.{one_if}
use Rattle.sig_core.proofs.Keys.{same_tx-self}
use Rattle.sig_core.specs.declared.member.Member.{Member}
use Rattle.sig_core.specs.declared.member.TxId.{TxId}
use Rattle.sig_core.specs.declared.outcome.AbortCause.{AbortCause}
use Rattle.sig_core.specs.declared.outs.Outgoing.{Outgoing}
use Rattle.sig_core.specs.declared.place.Place.{Place}
use Rattle.sig_core.specs.declared.portion.TheConstants.{PORTION}
use Rattle.sig_core.specs.declared.signal.Body.{Body}
use Rattle.sig_core.specs.declared.signal.Body.TheVariants.{Chain, Host}
use Rattle.sig_core.specs.declared.signal.chain.ChainSignal.TheVariants.{Abort, LqhKeyConf, LqhKeyRef, LqhKeyReq}
use Rattle.sig_core.specs.declared.signal.host.HostSignal.TheVariants.{Continue}
use Rattle.sig_core.specs.declared.signal.host.Work.TheVariants as work
use Rattle.sig_core.specs.Chain.{node_at}
use Rattle.sig_core.specs.Op.{key_of}
use Rattle.sig_core.specs.Same.{same_key, same_tx}
use Rattle.sig_core.specs.Step.{stay}
use Rattle.frag_map.specs.Layout.{Layout, chain_of}
use Rattle.row_records.proofs.KeyLemmas as keys
use Rattle.tc_block.specs.Abort as abort
use Rattle.tc_block.specs.Complete as complete
use Rattle.tc_block.specs.declared.phase.Asked.{Asked}
use Rattle.tc_block.specs.declared.phase.Phase.{Phase}
use Rattle.tc_block.specs.declared.phase.Phase.TheVariants.{Open, Verifying, Committing, Completing, Aborting}
use Rattle.tc_block.specs.declared.sends.TheConstants.{SENDS}
use Rattle.tc_block.specs.declared.touched.Touched.{Touched}
use Rattle.tc_block.specs.declared.transaction.Transaction.{Transaction}
use Rattle.tc_block.specs.Operate.{asked_if, asked_on, is_ready, late_answer, wait_by}
use Rattle.tc_block.specs.Part.{part_effects, rest_if}
use Rattle.tc_block.specs.Phases.{is_aborting}
use Rattle.tc_block.specs.Sends.{aborts_of, complete_if, entering, front_sends, go_on_if, key_sends, phase_sends}
use Rattle.tc_block.specs.Sends.{wait_of, waits_of}
use Rattle.tc_block.specs.Touched.{fits, is_on}
use Rattle.tc_block.specs.Turn.{Turn, asking, at_phase, going}
use Rattle.tc_block.proofs.EachTurn.{AbortForms, CommittedForms, IsMissed, IsRowAnswer, TurnFormsAt, by_conf}
use Rattle.tc_block.proofs.EachTurn.{by_ref, is_onward, may_ask, ready_is, rows_at}
use Rattle.tc_block.proofs.TurnRows.{is_turn, tx_in, turn_for}
use Rattle.host_laws.proofs.rows.Operations.{is_lqh, true_and}
use Rattle.host_laws.proofs.coordinator.Sends.{eqb-self}
use Rattle.run_laws.proofs.hosts.TxTurns.{is_for, turn_each}
use Rattle.run_laws.proofs.transit.Weighing.{in_sends}
use Rattle.order_laws.specs.Awaited.{awaited_in, due, list_length}
use Rattle.order_laws.specs.Unanswered.{is_on_key, is_part_on}
use Rattle.order_laws.proofs.AwaitedTurns.{last_is}
use Rattle.order_laws.proofs.UnansweredTurns.{end_none, enters_none, front_plain, is_plain, parts_out, plain_chains}
use Rattle.order_laws.proofs.UnansweredTurns.{plain_out}
use Rattle.order_laws.proofs.UnansweredTurns.{AreUnbacked, is_backing}
use Rattle.host_laws.proofs.coordinator.PhaseSends.{aborts_of_kind, rest_of_kind}
use Rattle.host_laws.proofs.hosts.SendKinds.{of_map}
use Rattle.order_laws.proofs.Leads.{any_sent, late_leads, lead, next_leads, part_leads, sent_leads}

-- the signal has a replica, at this node, abort the transaction's row
abbrev pub is_abort_to : TxId → List ℕ → ℕ → Place → Body → Bool
is_abort_to tx key node to (Chain (Abort other own)) =
    (is_lqh to.block && (to.node == node)) && (same_tx other tx && same_key own key)
is_abort_to tx key node to body = false

pub onward_none : (tx : TxId) (key : List ℕ) (node : ℕ) (to : Place) (body : Body) → is_onward body ≡ true
    → is_abort_to tx key node to body ≡ false
onward_none tx key node to (Chain c) is = absurd (false≢true is)
onward_none tx key node to _ is = refl

-- the key was touched
abbrev pub has_touched : List ℕ → List Touched → Bool
has_touched key touched = list_any (is_on key) touched

abbrev pub has_node : ℕ → List Member → Bool
has_node node chain = list_any (λ (r : Member). r.node == node) chain

-- a place of a chain has its node
pub place_there : (chain : List Member) (at : ℕ) → at < length chain → has_node (node_at chain at) chain ≡ true
place_there [] at low = absurd (omega (arith, low))
place_there (r ∷ chain) zero low = or_left (r.node == r.node) (has_node r.node chain) (eqb-self r.node)
place_there (r ∷ chain) (suc at) low =
    or_right (r.node == node_at chain at) (has_node (node_at chain at) chain)
    (place_there chain at (omega (arith, low)))

module _ (layout : Layout) (tx : TxId) where
  -- what it sends in an abort doesn't depend on what it awaits then
  pub aborts_same : (why : AbortCause) (verifying : Bool) (n m : ℕ) (us : List Touched)
      → phase_sends layout tx (Aborting why verifying n) us ≡ phase_sends layout tx (Aborting why verifying m) us
  unfolding phase_sends front_sends key_sends
  aborts_same why verifying n m us = all us
    where
      all : (us : List Touched) → flat_map (key_sends layout tx (Aborting why verifying n)) us
          ≡ flat_map (key_sends layout tx (Aborting why verifying m)) us
      all [] = refl
      all (u ∷ us) = ap (λ os. aborts_of tx u.key (chain_of layout u.key) ++ os) (all us)

  module _ (key : List ℕ) (node : ℕ) where
    -- a key is aborted at each of its replicas
    pub any_replica : (own : List ℕ) → same_key own key ≡ true → (chain : List Member) → has_node node chain ≡ true
        → any_sent (is_abort_to tx key node) (aborts_of tx own chain) ≡ true
    any_replica own same [] is = absurd (false≢true is)
    any_replica own same (r ∷ chain) is =
        by (or_cases (r.node == node) (has_node node chain) is) (any_replica own same chain)
      where
        by : ((r.node == node) ≡ true) ⊎ (has_node node chain ≡ true)
            → (has_node node chain ≡ true → any_sent (is_abort_to tx key node) (aborts_of tx own chain) ≡ true)
            → any_sent (is_abort_to tx key node) (aborts_of tx own (r ∷ chain)) ≡ true
        by (inl here) more =
            or_left ((r.node == node) && (same_tx tx tx && same_key own key))
            (any_sent (is_abort_to tx key node) (aborts_of tx own chain))
            (true_and (r.node == node) (same_tx tx tx && same_key own key) here
            (true_and (same_tx tx tx) (same_key own key) (same_tx-self tx) same))
        by (inr rest) more =
            or_right ((r.node == node) && (same_tx tx tx && same_key own key))
            (any_sent (is_abort_to tx key node) (aborts_of tx own chain)) (more rest)

    -- a key that was touched is among those that are aborted
    pub any_aborted : has_node node (chain_of layout key) ≡ true → (why : AbortCause) (verifying : Bool) (n : ℕ)
        (us : List Touched) → has_touched key us ≡ true
        → any_sent (is_abort_to tx key node) (phase_sends layout tx (Aborting why verifying n) us) ≡ true
    unfolding phase_sends front_sends key_sends
    any_aborted there why verifying n us is = all us is
      where
        all : (us : List Touched) → has_touched key us ≡ true
            → any_sent (is_abort_to tx key node) (flat_map (key_sends layout tx (Aborting why verifying n)) us) ≡ true
        all [] is = absurd (false≢true is)
        all (u ∷ us) is =
            list_any-append (λ (o : Outgoing). is_abort_to tx key node o.to o.body)
            (aborts_of tx u.key (chain_of layout u.key)) (flat_map (key_sends layout tx (Aborting why verifying n)) us)
            ∙ by (or_cases (is_on key u) (has_touched key us) is) (all us)
          where
            rest : List Outgoing
            rest = flat_map (key_sends layout tx (Aborting why verifying n)) us

            own : List Outgoing
            own = aborts_of tx u.key (chain_of layout u.key)

            by : (is_on key u ≡ true) ⊎ (has_touched key us ≡ true)
                → (has_touched key us ≡ true → any_sent (is_abort_to tx key node) rest ≡ true)
                → (any_sent (is_abort_to tx key node) own || any_sent (is_abort_to tx key node) rest) ≡ true
            by (inl here) more =
                or_left (any_sent (is_abort_to tx key node) own) (any_sent (is_abort_to tx key node) rest)
                (any_replica u.key here (chain_of layout u.key)
                (subst (λ k. has_node node (chain_of layout k) ≡ true) (sym (keys.same u.key key here)) there))
            by (inr later) more =
                or_right (any_sent (is_abort_to tx key node) own) (any_sent (is_abort_to tx key node) rest) (more later)

    touched_some : has_node node (chain_of layout key) ≡ true → (us : List Touched) → has_touched key us ≡ true
        → 1 ≤ abort.replica_count layout us
    touched_some there [] is = absurd (false≢true is)
    touched_some there (u ∷ us) is =
        by (or_cases (is_on key u) (has_touched key us) is) (touched_some there us)
      where
        some : (chain : List Member) → has_node node chain ≡ true → 1 ≤ length chain
        some [] is = absurd (false≢true is)
        some (r ∷ chain) is = omega arith

        by : (is_on key u ≡ true) ⊎ (has_touched key us ≡ true)
            → (has_touched key us ≡ true → 1 ≤ abort.replica_count layout us)
            → 1 ≤ abort.replica_count layout (u ∷ us)
        by (inl here) more =
            omega (
              arith,
              some (chain_of layout key) there,
              ap (λ k. length (chain_of layout k)) (keys.same u.key key here),
            )
        by (inr later) more = omega (arith, more later)

  -- in no phase but an abort it sends what takes it back
  complete_unbacked : (u : Touched) (b : Bool) → AreUnbacked tx (complete_if tx u b)
  complete_unbacked u true = (refl, tt)
  complete_unbacked u false = tt

  key_unbacked : (phase : Phase) → is_aborting phase ≡ false → (u : Touched)
      → AreUnbacked tx (key_sends layout tx phase u)
  unfolding key_sends
  key_unbacked (Committing epoch awaited) off u = (refl, tt)
  key_unbacked (Completing epoch awaited) off u = complete_unbacked u u.written
  key_unbacked (Aborting why verifying awaited) off u = absurd (true≢false off)
  key_unbacked Open off u = tt
  key_unbacked Verifying off u = tt

  front_unbacked : (phase : Phase) → AreUnbacked tx (front_sends tx phase)
  unfolding front_sends
  front_unbacked (Committing epoch awaited) = tt
  front_unbacked (Completing epoch awaited) = (refl, tt)
  front_unbacked (Aborting why verifying awaited) = tt
  front_unbacked Open = tt
  front_unbacked Verifying = tt

  rest_unbacked : (node at : ℕ) (b : Bool) → AreUnbacked tx (rest_if node tx at b)
  rest_unbacked node at true = (refl, tt)
  rest_unbacked node at false = tt

  pub part_unbacked : (node : ℕ) (phase : Phase) (touched : List Touched) (at : ℕ) → is_aborting phase ≡ false
      → AreUnbacked tx (part_effects node tx (phase_sends layout tx phase touched) at).sends
  unfolding part_effects phase_sends
  part_unbacked node phase touched at off =
      each_append (λ (o : Outgoing). is_backing tx o.body ≡ false) (take PORTION (drop at list))
      (rest_if node tx at (nat_lt (at + PORTION) (length list)))
      (each_take (λ (o : Outgoing). is_backing tx o.body ≡ false) PORTION (drop at list)
      (each_drop (λ (o : Outgoing). is_backing tx o.body ≡ false) at list
      (each_append (λ (o : Outgoing). is_backing tx o.body ≡ false) (front_sends tx phase)
      (flat_map (key_sends layout tx phase) touched) (front_unbacked phase)
      (each_flat (λ (o : Outgoing). is_backing tx o.body ≡ false) (key_sends layout tx phase) touched
      (key_unbacked phase off)))))
      (rest_unbacked node at (nat_lt (at + PORTION) (length list)))
    where
      list : List Outgoing
      list = front_sends tx phase ++ flat_map (key_sends layout tx phase) touched

module _ (node : ℕ) (layout : Layout) (tx : TxId) (key : List ℕ) (replica : ℕ) (home : node ≡ tx.tc)
    (there : has_node replica (chain_of layout key) ≡ true) where
  abbrev pub list_of : Transaction → List Outgoing
  list_of t = phase_sends layout tx t.phase t.touched

  abbrev pub backs : List Outgoing → Place → Body → ℕ
  backs list to body = lead tx (is_abort_to tx key replica) list to body

  -- A turn of one that isn't aborted takes it nowhere back, or begins its abort. One of an abort goes on with that, and
  -- no part of an operation on the key comes; that comes, and the key is aborted once more; or the last answer comes.
  pub data Aborts (t : Transaction) (to : Place) (body : Body) (turn : Turn) : Type 0 where
    unbacked : is_aborting t.phase ≡ false → AreUnbacked tx turn.step.effects.sends → Aborts t to body turn
    begins : is_aborting t.phase ≡ false → turn.over ≡ false
        → 1 ≤ in_sends (backs (list_of turn.step.state)) turn.step.effects.sends
        → parts_out tx key turn.step.effects.sends ≡ 0 → Aborts t to body turn
    keeps : is_aborting t.phase ≡ true → turn.over ≡ false → list_of turn.step.state ≡ list_of t
        → backs (list_of t) to body ≤ in_sends (backs (list_of t)) turn.step.effects.sends
        → is_part_on tx key body ≡ false → parts_out tx key turn.step.effects.sends ≡ 0 → Aborts t to body turn
    late : is_aborting t.phase ≡ true → turn.over ≡ false
        → 1 ≤ in_sends (backs (list_of turn.step.state)) turn.step.effects.sends
        → parts_out tx key turn.step.effects.sends ≡ 0 → Aborts t to body turn
    ends : is_aborting t.phase ≡ true → turn.over ≡ true
        → awaited_in t.phase ≤ due tx (list_length layout t.phase t.touched) body
        → backs (list_of t) to body ≡ 0 → is_part_on tx key body ≡ false
        → parts_out tx key turn.step.effects.sends ≡ 0 → Aborts t to body turn

  turn_none : (list : List Outgoing) (to : Place) (body : Body) → is_turn body ≡ true → is_onward body ≡ false
      → backs list to body ≡ 0
  turn_none list to (Host (Continue (work.Transaction one) at)) is off = absurd (true≢false off)
  turn_none list to (Chain (Abort one own)) is off = absurd (false≢true is)
  turn_none list to _ is off = refl

  module _ (t : Transaction) (to : Place) (body : Body) (own : is_for tx body ≡ true)
      (touched : is_aborting t.phase ≡ false → has_touched key t.touched ≡ true)
      (asks : is_part_on tx key body ≡ true → is_on_key key t.asked ≡ true)
      (short : is_aborting t.phase ≡ true → length (list_of t) ≤ SENDS) where
    abbrev R : Turn → Type 0
    R turn = Aborts t to body turn

    a_turn : is_turn body ≡ true
    a_turn = (and_parts (is_turn body) (same_tx (tx_in body) tx) own).0

    -- where it stays as it is
    same_state : (turn : Turn) → turn.over ≡ false → turn.step.state ≡ t
        → (is_aborting t.phase ≡ false → AreUnbacked tx turn.step.effects.sends)
        → (is_aborting t.phase ≡ true
        → (backs (list_of t) to body ≤ in_sends (backs (list_of t)) turn.step.effects.sends)
        × (is_part_on tx key body ≡ false)) → parts_out tx key turn.step.effects.sends ≡ 0 → R turn
    same_state turn over is none on still = by (is_aborting t.phase) refl
      where
        by : (b : Bool) → is_aborting t.phase ≡ b → R turn
        by true aborting = keeps aborting over (ap list_of is) (on aborting).0 (on aborting).1 still
        by false off = unbacked off (none off)

    -- no part of an operation on the key is missed by an abort
    missed_apart : is_aborting t.phase ≡ true → IsMissed t body → is_part_on tx key body ≡ false
    missed_apart on missed = by body refl missed
      where
        may : (phase : Phase) → is_aborting phase ≡ true → may_ask phase ≡ true
        may (Aborting why verifying awaited) is = refl
        may Open is = absurd (false≢true is)
        may Verifying is = absurd (false≢true is)
        may (Committing epoch awaited) is = absurd (false≢true is)
        may (Completing epoch awaited) is = absurd (false≢true is)

        found : (asked : Option Asked) → is_on_key key asked ≡ true → asked_on asked key ≡ None → ⊥
        found None is none = false≢true is
        found (Some a) is none =
            let both : Some a ≡ None = sym (ap (asked_if a) is) ∙ none in cc

        apart : (v : TxId) (at : List ℕ) → (same_tx v tx && same_key at key) ≡ is_part_on tx key body
            → (asked_on t.asked at ≡ None) ⊎ (may_ask t.phase ≡ false) → is_part_on tx key body ≡ false
        apart v at is (inr shut) = absurd (true≢false (sym (may t.phase on) ∙ shut))
        apart v at is (inl none) = which (is_part_on tx key body) refl
          where
            which : (b : Bool) → is_part_on tx key body ≡ b → b ≡ false
            which false e = refl
            which true e =
                let parts = and_parts (same_tx v tx) (same_key at key) (is ∙ e) in
                absurd (found t.asked (asks e)
                (subst (λ k. asked_on t.asked k ≡ None) (keys.same at key parts.1) none))

        by : (b : Body) → body ≡ b → IsMissed t b → is_part_on tx key body ≡ false
        by (Chain (LqhKeyConf v at answer)) is missed = apart v at (sym (ap (is_part_on tx key) is)) missed
        by (Chain (LqhKeyRef v at why)) is missed = apart v at (sym (ap (is_part_on tx key) is)) missed
        by (Chain (LqhKeyReq v w chain at)) is missed =
            absurd (false≢true (sym (ap is_turn is) ∙ a_turn))
        by _ is missed = ap (is_part_on tx key) is

    aborts : (u : Transaction) (why : AbortCause) → is_aborting t.phase ≡ false → u.touched ≡ t.touched
        → AbortForms node layout tx u why R
    unfolding entering
    aborts u why off same = record {
      enters = λ some.
          begins off refl
          (part_leads tx (is_abort_to tx key replica) (onward_none tx key replica) node
          (phase_sends layout tx (Aborting why (abort.is_verifying u.phase) (abort.aborts_awaited layout u)) u.touched)
          0
          home
          (any_aborted layout tx key replica there why (abort.is_verifying u.phase) (abort.aborts_awaited layout u)
          u.touched (ap (has_touched key) same ∙ touched off)))
          (enters_none tx key node layout u _);
      ends = λ none.
          absurd (omega (
            arith,
            eqb-true (abort.aborts_awaited layout u) 0 none,
            touched_some layout tx key replica there u.touched (ap (has_touched key) same ∙ touched off),
          ));
    }

    all_committed : (epoch : ℕ) → is_aborting t.phase ≡ false → CommittedForms node layout tx t epoch R
    unfolding entering
    all_committed epoch off = record {
      enters = λ some.
          unbacked off
          (part_unbacked layout tx node (Completing epoch (complete.written_count t.touched)) t.touched 0 refl);
      ends = λ none. unbacked off (refl, (refl, tt));
    }

    one_less : (why : AbortCause) (verifying : Bool) (awaited : ℕ) → t.phase ≡ Aborting why verifying awaited
        → backs (list_of t) to body ≡ 0 → is_part_on tx key body ≡ false
        → R (going (stay (at_phase t (Aborting why verifying (awaited - 1)))))
    one_less why verifying awaited at none off =
        keeps (ap is_aborting at) refl
        (aborts_same layout tx why verifying (awaited - 1) awaited t.touched
        ∙ sym (ap (λ p. phase_sends layout tx p t.touched) at))
        (omega (arith, none)) off refl

    -- an answer of the operation: it is on the key, or on another one
    late_forms : (at : List ℕ) (asked : Asked) (why : AbortCause) (verifying : Bool) (awaited : ℕ)
        → IsRowAnswer tx at body → t.phase ≡ Aborting why verifying awaited
        → R (going (late_answer layout tx t at))
    late_forms at asked why verifying awaited is phase = by (same_key at key) refl
      where
        part_is : is_part_on tx key body ≡ (same_tx tx tx && same_key at key)
        part_is = which is
          where
            which : IsRowAnswer tx at body → is_part_on tx key body ≡ (same_tx tx tx && same_key at key)
            which (by_conf answer about) = ap (is_part_on tx key) about
            which (by_ref cause about) = ap (is_part_on tx key) about

        none : backs (list_of t) to body ≡ 0
        none = which is
          where
            which : IsRowAnswer tx at body → backs (list_of t) to body ≡ 0
            which (by_conf answer about) = ap (backs (list_of t) to) about
            which (by_ref cause about) = ap (backs (list_of t) to) about

        off : (b : Bool) → (b && false) ≡ false
        off true = refl
        off false = refl

        late_none : parts_out tx key (aborts_of tx at (chain_of layout at)) ≡ 0
        late_none =
            plain_out tx key (aborts_of tx at (chain_of layout at))
            (aborts_of_kind (is_plain tx key) layout tx (plain_chains tx key) at (chain_of layout at))

        by : (b : Bool) → same_key at key ≡ b → R (going (late_answer layout tx t at))
        by true same =
            late (ap is_aborting phase) refl
            (sent_leads tx (is_abort_to tx key replica) (onward_none tx key replica) (list_of t)
            (aborts_of tx at (chain_of layout at))
            (any_replica layout tx key replica at same (chain_of layout at)
            (subst (λ k. has_node replica (chain_of layout k) ≡ true) (sym (keys.same at key same)) there))) late_none
        by false differs =
            keeps (ap is_aborting phase) refl refl (omega (arith, none))
            (part_is ∙ ap (λ b. same_tx tx tx && b) differs ∙ off (same_tx tx tx)) late_none

    aborts_forms : TurnFormsAt node layout tx t body R
    unfolding entering
    aborts_forms = record {
      stays = λ off missed.
          same_state (going (stay t)) refl refl (λ un. tt)
          (λ on. (omega (arith, turn_none (list_of t) to body a_turn off), missed_apart on missed)) refl;
      stops = λ at is high.
          same_state (going (stay t)) refl refl (λ un. tt)
          (λ on. (
            omega (
              arith,
              ap (backs (list_of t) to) is,
              late_leads tx (is_abort_to tx key replica) (onward_none tx key replica) (list_of t) at to tx
                  (omega (arith, short on, high)),
            ),
            ap (is_part_on tx key) is,
          )) refl;
      goes_on = λ at is low.
          same_state (going (go_on_if node layout tx t at true)) refl refl
          (λ un. part_unbacked layout tx node t.phase t.touched at un)
          (λ on. (
            omega (
              arith,
              ap (backs (list_of t) to) is,
              next_leads tx (is_abort_to tx key replica) (onward_none tx key replica) node (list_of t) at to home,
            ),
            ap (is_part_on tx key) is,
          ))
          (plain_out tx key (go_on_if node layout tx t at true).effects.sends
          (rest_of_kind (is_plain tx key) layout tx (plain_chains tx key) node t at
          (front_plain tx key node layout t.phase)));
      operates = λ op is can.
          unbacked
          (ap is_aborting (ready_is t.phase t.asked (and_parts (is_ready t.phase t.asked)
          (fits t.touched (key_of op)) can).0).0) (refl, tt);
      answers = λ at answer asked is on phase. unbacked (ap is_aborting phase) (refl, tt);
      late = λ at asked why verifying awaited is on phase. late_forms at asked why verifying awaited is phase;
      waits = λ asked is on.
          same_state (going (wait_by tx t (Some asked))) refl refl
          (λ un. each_mapped (λ (o : Outgoing). is_backing tx o.body ≡ false) (wait_of tx (key_of asked.op)) asked.chain
          (λ r. refl))
          (λ aborting. (
            omega (arith, turn_none (list_of t) to body a_turn (ap is_onward is)),
            ap (is_part_on tx key) is,
          ))
          (plain_out tx key (waits_of tx (key_of asked.op) asked.chain)
          (of_map (is_plain tx key) (wait_of tx (key_of asked.op)) asked.chain (λ r. refl)));
      decides = λ is ready. unbacked (ap is_aborting (ready_is t.phase t.asked ready).0) (refl, tt);
      commits = λ epoch is at some.
          unbacked (ap is_aborting at)
          (part_unbacked layout tx node (Committing epoch (length t.touched)) t.touched 0 refl);
      commits_none = λ epoch is at none. all_committed epoch (ap is_aborting at);
      committed = λ at epoch awaited is phase more. unbacked (ap is_aborting phase) tt;
      committed_all = λ at epoch awaited is phase last. all_committed epoch (ap is_aborting phase);
      completed = λ at epoch awaited is phase more. unbacked (ap is_aborting phase) tt;
      completed_all = λ at epoch awaited is phase last. unbacked (ap is_aborting phase) (refl, tt);
      rolls_back = λ is undecided unaborted. aborts t _ unaborted refl;
      refuses = λ at why asked is on phase. aborts (asking t None) why (ap is_aborting phase) refl;
      aborted = λ at why verifying awaited is phase more.
          one_less why verifying awaited phase (ap (backs (list_of t) to) is) (ap (is_part_on tx key) is);
      aborted_all = λ at why verifying awaited is phase last.
          ends (ap is_aborting phase) refl
          (omega (
            arith,
            ap awaited_in phase,
            last_is node layout tx awaited last,
            ap (due tx (list_length layout t.phase t.touched)) is,
            ap one_if (same_tx-self tx),
          ))
          (ap (backs (list_of t) to) is) (ap (is_part_on tx key) is) (end_none tx key node layout why verifying);
    }

    pub turn_aborts : Aborts t to body (turn_for node layout tx body t)
    turn_aborts = turn_each node layout tx body t R (rows_at node layout tx t body R aborts_forms) own
