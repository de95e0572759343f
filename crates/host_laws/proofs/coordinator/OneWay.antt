-- No coordinator takes one transaction both forth and back.
use Rattle.std.proofs.Common.{◌≡◌, ◌⊎◌, ◌<◌, ℕ, ◌+◌, Bool, true, false, List, [], ◌∷◌, ◌++◌, refl, sym, ap, ◌∙◌, subst}
use Rattle.std.proofs.Common.{inl, inr, arith}
use Rattle.std.specs.List.{list_any}
use Rattle.std.specs.Prelude.{◌||◌, Option}
use Rattle.std.proofs.lemmas.Bool.{or_cases, or_right}
use Rattle.run_theory.specs.Lists.{Each}
use Rattle.run_theory.proofs.Pasts.{each_after, each_append, each_before, each_map}
use Rattle.world_core.specs.Steps.{HostStep}
use Rattle.sig_core.specs.declared.member.TxId.{TxId}
use Rattle.sig_core.specs.declared.outs.Outgoing.{Outgoing}
use Rattle.sig_core.specs.declared.place.BlockId.{BlockId}
use Rattle.sig_core.specs.declared.place.BlockId.TheVariants as block
use Rattle.sig_core.specs.declared.signal.Body.{Body}
use Rattle.sig_core.specs.declared.signal.Signal.{Signal}
use Rattle.sig_core.specs.Same.{same_tx}
use Rattle.sig_core.specs.Step.{Step, stay}
use Rattle.sig_core.proofs.TxLemmas.{same_tx-swap}
use Rattle.tc_block.specs.declared.phase.Phase.{Phase}
use Rattle.tc_block.specs.declared.transaction.Transaction.{Transaction}
use Rattle.tc_block.specs.Live.{stepped, turned_if, without}
use Rattle.tc_block.specs.Operate.{fresh}
use Rattle.tc_block.specs.State.{TcState}
use Rattle.tc_block.specs.Tc.{begin_if, next_tx, tc_table}
use Rattle.tc_block.specs.Turn.{Turn}
use Rattle.node_core.specs.declared.host.Host as host
use Rattle.node_core.specs.declared.host.Host.TheVariants.{Shell, Main, Tc, Ldm}
use Rattle.node_core.specs.declared.tc_part.TcPart.{TcPart}
use Rattle.node_core.specs.Blocks.{tc_of}
use Rattle.node_core.specs.Row.{row, tc_part_row}
use Rattle.world_core.specs.Machine.{after}
use Rattle.world_core.specs.Hosts.{started}
use Rattle.world_core.specs.Start.{Start}
use Rattle.tc_block.specs.Phases.{is_completing, is_decided}
use Rattle.tc_block.specs.Phases.{is_aborting}
use Rattle.host_laws.specs.Ways.{AreSaid, CoordinatorsGoOneWay, CoordinatorsSay, IsSaid, Way, back, back_by, closes}
use Rattle.host_laws.specs.Ways.{forth, forth_by, is_forth, neither, put_ways, sends_for, sent_ways, tc_sends, way_of}
use Rattle.sig_core.proofs.Keys.{same_tx-self}
use Rattle.tc_block.proofs.LiveSplit.{KeysOnce, Live, Split, each_inserted, once_back, once_front, once_gone}
use Rattle.tc_block.proofs.LiveSplit.{once_inserted, once_set}
use Rattle.host_laws.proofs.hosts.StartedHosts.{none_live}
use Rattle.host_laws.proofs.coordinator.Lives.{lower_apart}
use Rattle.host_laws.proofs.coordinator.Numbers.{NotIn}
use Rattle.tc_block.proofs.EachTc.{tc_each}
use Rattle.tc_block.proofs.EachTurn.{rows_of}
use Rattle.host_laws.proofs.coordinator.Ways.{AllWays, TellsForth, TurnWays, WayOf, Ways, aborting_apart, decided_apart}
use Rattle.host_laws.proofs.coordinator.Ways.{not_both, turn_ways}

-- one of the coordinator's transactions, where these went forth, and those back
record IsLive (node next : ℕ) (cs bs : List TxId) (e : TxId × Transaction) : Type 0 where
  home : e.0.tc ≡ node
  below : e.0.seq < next
  carried : is_completing e.1.phase ≡ true → list_any (same_tx e.0) cs ≡ true
  uncommitted : is_decided e.1.phase ≡ false → NotIn e.0 cs
  unaborted : is_aborting e.1.phase ≡ false → NotIn e.0 bs

record IsOneWay (s : TcState) (cs bs : List TxId) : Type 0 where
  once : KeysOnce s.live
  live : Each (IsLive s.node s.next_seq cs bs) s.live
  cs_below : Each (λ (v : TxId). v.seq < s.next_seq) cs
  bs_below : Each (λ (v : TxId). v.seq < s.next_seq) bs
  apart : Each (λ tx. NotIn tx bs) cs

-- a step of a coordinator of this node, and what it sends
record StaysOneWay (node : ℕ) (cs bs : List TxId) (step : Step TcState) : Type 0 where
  one : IsOneWay step.state (put_ways forth_by step.effects.sends cs) (put_ways back_by step.effects.sends bs)
  says : Each (λ (o : Outgoing). IsSaid node (put_ways forth_by step.effects.sends cs)
      (put_ways back_by step.effects.sends bs) (way_of o.body)) step.effects.sends

-- who went a way is among those that went it later
pub forth_more : (p : TxId → Bool) (sends : List Outgoing) (cs : List TxId) → list_any p cs ≡ true
    → list_any p (put_ways forth_by sends cs) ≡ true
forth_more p [] cs is = is
forth_more p (o ∷ more) cs is = forth_more p more (forth_by (way_of o.body) cs) (by (way_of o.body))
  where
    by : (w : Way) → list_any p (forth_by w cs) ≡ true
    by (forth other) = or_right (p other) (list_any p cs) is
    by (back other) = is
    by (closes other) = is
    by neither = is

pub back_more : (p : TxId → Bool) (sends : List Outgoing) (bs : List TxId) → list_any p bs ≡ true
    → list_any p (put_ways back_by sends bs) ≡ true
back_more p [] bs is = is
back_more p (o ∷ more) bs is = back_more p more (back_by (way_of o.body) bs) (by (way_of o.body))
  where
    by : (w : Way) → list_any p (back_by w bs) ≡ true
    by (forth other) = is
    by (back other) = or_right (p other) (list_any p bs) is
    by (closes other) = is
    by neither = is

-- what is told puts the transaction there
told_in : (tx : TxId) (sends : List Outgoing) (cs : List TxId)
    → list_any (λ (o : Outgoing). is_forth tx (way_of o.body)) sends ≡ true
    → list_any (same_tx tx) (put_ways forth_by sends cs) ≡ true
told_in tx [] cs told = absurd cc
told_in tx (o ∷ more) cs told =
    by (way_of o.body) (or_cases (is_forth tx (way_of o.body))
    (list_any (λ (p : Outgoing). is_forth tx (way_of p.body)) more) told)
    (told_in tx more (forth_by (way_of o.body) cs))
  where
    here : (w : Way) → is_forth tx w ≡ true → list_any (same_tx tx) (forth_by w cs) ≡ true
    here (forth other) is = ap (λ b. b || list_any (same_tx tx) cs) is
    here (back other) is = absurd cc
    here (closes other) is = absurd cc
    here neither is = absurd cc

    by : (w : Way) → (is_forth tx w ≡ true) ⊎ (list_any (λ (p : Outgoing). is_forth tx (way_of p.body)) more ≡ true)
        → (list_any (λ (p : Outgoing). is_forth tx (way_of p.body)) more ≡ true → list_any (same_tx tx)
        (put_ways forth_by more (forth_by w cs)) ≡ true)
        → list_any (same_tx tx) (put_ways forth_by more (forth_by w cs)) ≡ true
    by w (inl is) rest = forth_more (same_tx tx) more (forth_by w cs) (here w is)
    by w (inr is) rest = rest is

-- what a transaction of this node sends is said
says_all : (node : ℕ) (tx : TxId) (phase : Phase) (sends : List Outgoing) (cs bs : List TxId) → tx.tc ≡ node
    → AllWays tx phase sends
    → (is_completing phase ≡ true → list_any (same_tx tx) (put_ways forth_by sends cs) ≡ true)
    → Each (λ (o : Outgoing). IsSaid node (put_ways forth_by sends cs) (put_ways back_by sends bs) (way_of o.body))
    sends
says_all node tx phase [] cs bs home all carried = tt
says_all node tx phase (o ∷ more) cs bs home all carried = (
  by (way_of o.body) all.0 carried,
  says_all node tx phase more (forth_by (way_of o.body) cs)
      (back_by (way_of o.body) bs) home all.1 carried,
)
  where
    by : (w : Way) → WayOf tx phase w
        → (is_completing phase ≡ true → list_any (same_tx tx) (put_ways forth_by more (forth_by w cs)) ≡ true)
        → IsSaid node (put_ways forth_by more (forth_by w cs)) (put_ways back_by more (back_by w bs)) w
    by (forth other) is carried = (
      ap (λ (v : TxId). v.tc) is.0 ∙ home,
      forth_more (same_tx other) more (other ∷ cs)
          (ap (λ b. b || list_any (same_tx other) cs) (same_tx-self other)),
    )
    by (back other) is carried = (
      ap (λ (v : TxId). v.tc) is.0 ∙ home,
      back_more (same_tx other) more (other ∷ bs)
          (ap (λ b. b || list_any (same_tx other) bs) (same_tx-self other)),
    )
    by (closes other) is carried = (
      ap (λ (v : TxId). v.tc) is.0 ∙ home,
      subst
          (λ v. list_any (same_tx v) (put_ways forth_by more cs) ≡ true) (sym is.0) (carried is.1),
    )
    by neither is carried = tt

-- what holds of each that went forth before, and of the transaction if it is in such a phase, holds of each then
each_forth : (P : TxId → Type 0) (tx : TxId) (phase : Phase) (sends : List Outgoing) (cs : List TxId)
    → AllWays tx phase sends → (is_decided phase ≡ true → P tx) → Each P cs → Each P (put_ways forth_by sends cs)
each_forth P tx phase [] cs all own before = before
each_forth P tx phase (o ∷ more) cs all own before =
    each_forth P tx phase more (forth_by (way_of o.body) cs) all.1 own (by (way_of o.body) all.0)
  where
    by : (w : Way) → WayOf tx phase w → Each P (forth_by w cs)
    by (forth other) is = (subst P (sym is.0) (own is.1), before)
    by (back other) is = before
    by (closes other) is = before
    by neither is = before

each_back_way : (P : TxId → Type 0) (tx : TxId) (phase : Phase) (sends : List Outgoing) (bs : List TxId)
    → AllWays tx phase sends → (is_aborting phase ≡ true → P tx) → Each P bs → Each P (put_ways back_by sends bs)
each_back_way P tx phase [] bs all own before = before
each_back_way P tx phase (o ∷ more) bs all own before =
    each_back_way P tx phase more (back_by (way_of o.body) bs) all.1 own (by (way_of o.body) all.0)
  where
    by : (w : Way) → WayOf tx phase w → Each P (back_by w bs)
    by (forth other) is = before
    by (back other) is = (subst P (sym is.0) (own is.1), before)
    by (closes other) is = before
    by neither is = before

module _ (s : TcState) (cs bs : List TxId) (n : IsOneWay s cs bs) where
  module _ (tx : TxId) (t : Transaction) (at : ℕ) (split : Split tx t s.live at) (after_phase : Phase)
      (sends : List Outgoing) (all : AllWays tx after_phase sends)
      (forward : is_decided t.phase ≡ true → is_decided after_phase ≡ true)
      (backward : is_aborting t.phase ≡ true → is_aborting after_phase ≡ true)
      (told : TellsForth tx t.phase after_phase sends) where
    all_split : Each (IsLive s.node s.next_seq cs bs) (split.front ++ (tx, t) ∷ split.back)
    all_split = subst (Each (IsLive s.node s.next_seq cs bs)) split.is n.live

    once_split : KeysOnce (split.front ++ (tx, t) ∷ split.back)
    once_split = subst KeysOnce split.is n.once

    own : IsLive s.node s.next_seq cs bs (tx, t)
    own = (each_after (IsLive s.node s.next_seq cs bs) split.front ((tx, t) ∷ split.back) all_split).0

    abbrev cs_now : List TxId
    cs_now = put_ways forth_by sends cs

    abbrev bs_now : List TxId
    bs_now = put_ways back_by sends bs

    -- who goes forth didn't go back, and the other way round
    none_back : is_decided after_phase ≡ true → NotIn tx bs
    none_back is = by (is_aborting t.phase) refl
      where
        by : (b : Bool) → is_aborting t.phase ≡ b → NotIn tx bs
        by true e = not_both (is_decided after_phase) is (aborting_apart after_phase (backward e))
        by false e = own.unaborted e

    none_forth : is_aborting after_phase ≡ true → NotIn tx cs
    none_forth is = by (is_decided t.phase) refl
      where
        by : (b : Bool) → is_decided t.phase ≡ b → NotIn tx cs
        by true e = not_both (is_aborting after_phase) is (decided_apart after_phase (forward e))
        by false e = own.uncommitted e

    still_forth : is_decided after_phase ≡ false → NotIn tx cs
    still_forth off = by (is_decided t.phase) refl
      where
        by : (b : Bool) → is_decided t.phase ≡ b → NotIn tx cs
        by true e = not_both (is_decided after_phase) (forward e) off
        by false e = own.uncommitted e

    still_back : is_aborting after_phase ≡ false → NotIn tx bs
    still_back off = by (is_aborting t.phase) refl
      where
        by : (b : Bool) → is_aborting t.phase ≡ b → NotIn tx bs
        by true e = not_both (is_aborting after_phase) (backward e) off
        by false e = own.unaborted e

    carried_now : is_completing after_phase ≡ true → list_any (same_tx tx) cs_now ≡ true
    carried_now is = by (told is)
      where
        by : (is_completing t.phase ≡ true) ⊎ (list_any (λ (o : Outgoing). is_forth tx (way_of o.body)) sends ≡ true)
            → list_any (same_tx tx) cs_now ≡ true
        by (inl was) = forth_more (same_tx tx) sends cs (own.carried was)
        by (inr tells) = told_in tx sends cs tells

    says_now : Each (λ (o : Outgoing). IsSaid s.node cs_now bs_now (way_of o.body)) sends
    says_now = says_all s.node tx after_phase sends cs bs own.home all carried_now

    -- the others are left alone
    others : (xs : Live) → Each (λ (x : TxId × Transaction). same_tx x.0 tx ≡ false) xs
        → Each (IsLive s.node s.next_seq cs bs) xs → Each (IsLive s.node s.next_seq cs_now bs_now) xs
    others [] apart live = tt
    others (x ∷ xs) apart live = (
      record {
        home = live.0.home;
        below = live.0.below;
        carried = λ on. forth_more (same_tx x.0) sends cs (live.0.carried on);
        uncommitted = λ off. each_forth (λ v. same_tx v x.0 ≡ false) tx after_phase sends cs all
            (λ is. same_tx-swap tx x.0 ∙ apart.0) (live.0.uncommitted off);
        unaborted = λ off. each_back_way (λ v. same_tx v x.0 ≡ false) tx after_phase sends bs all
            (λ is. same_tx-swap tx x.0 ∙ apart.0) (live.0.unaborted off);
      },
      others xs apart.1 live.1,
    )

    front_now : Each (IsLive s.node s.next_seq cs_now bs_now) split.front
    front_now = others split.front (once_front split.front split.back tx t once_split)
        (each_before (IsLive s.node s.next_seq cs bs) split.front ((tx, t) ∷ split.back) all_split)

    back_now : Each (IsLive s.node s.next_seq cs_now bs_now) split.back
    back_now = others split.back (once_back split.front split.back tx t once_split)
        (each_after (IsLive s.node s.next_seq cs bs) split.front ((tx, t) ∷ split.back) all_split).1

    own_now : (w : Transaction) → w.phase ≡ after_phase → IsLive s.node s.next_seq cs_now bs_now (tx, w)
    own_now w is = record {
      home = own.home;
      below = own.below;
      carried = λ on. carried_now (sym (ap is_completing is) ∙ on);
      uncommitted = λ off. let was = sym (ap is_decided is) ∙ off in
          each_forth (λ v. same_tx v tx ≡ false) tx after_phase sends cs all
          (λ on. not_both (is_decided after_phase) on was) (still_forth was);
      unaborted = λ off. let was = sym (ap is_aborting is) ∙ off in
          each_back_way (λ v. same_tx v tx ≡ false) tx after_phase sends bs all
          (λ on. not_both (is_aborting after_phase) on was) (still_back was);
    }

    apart_now : Each (λ v. NotIn v bs_now) cs_now
    apart_now =
        each_forth (λ v. NotIn v bs_now) tx after_phase sends cs all
        (λ is. each_back_way (λ w. same_tx w tx ≡ false) tx after_phase sends bs all
        (λ on. not_both (is_aborting after_phase) on (decided_apart after_phase is)) (none_back is))
        (by (is_aborting after_phase) refl)
      where
        each_two : (v : TxId) → NotIn v bs → (is_aborting after_phase ≡ true → same_tx tx v ≡ false) → NotIn v bs_now
        each_two v none on = each_back_way (λ w. same_tx w v ≡ false) tx after_phase sends bs all on none

        all_two : (xs : List TxId) → Each (λ v. NotIn v bs) xs → (is_aborting after_phase ≡ true → NotIn tx xs)
            → Each (λ v. NotIn v bs_now) xs
        all_two [] none on = tt
        all_two (v ∷ xs) none on =
            (each_two v none.0 (λ is. same_tx-swap tx v ∙ (on is).0), all_two xs none.1 (λ is. (on is).1))

        by : (b : Bool) → is_aborting after_phase ≡ b → Each (λ v. NotIn v bs_now) cs
        by b e = all_two cs n.apart none_forth

    below_cs : Each (λ (v : TxId). v.seq < s.next_seq) cs_now
    below_cs = each_forth (λ (v : TxId). v.seq < s.next_seq) tx after_phase sends cs all (λ is. own.below) n.cs_below

    below_bs : Each (λ (v : TxId). v.seq < s.next_seq) bs_now
    below_bs = each_back_way (λ (v : TxId). v.seq < s.next_seq) tx after_phase sends bs all (λ is. own.below) n.bs_below

  step_stays : (tx : TxId) (t : Transaction) (at : ℕ) → Split tx t s.live at → (step : Step Transaction)
      → Ways tx t.phase step → StaysOneWay s.node cs bs (stepped s at step)
  step_stays tx t at split step ways = record {
    one = record {
      once = subst KeysOnce (sym (split.set step.state))
          (once_set split.front split.back tx t step.state
          (once_split tx t at split step.state.phase step.effects.sends ways.sends ways.forward ways.backward
          ways.told));
      live = subst (Each (IsLive s.node s.next_seq (put_ways forth_by step.effects.sends cs)
          (put_ways back_by step.effects.sends bs))) (sym (split.set step.state))
          (each_append (IsLive s.node s.next_seq (put_ways forth_by step.effects.sends cs)
          (put_ways back_by step.effects.sends bs)) split.front ((tx, step.state) ∷ split.back)
          (front_now tx t at split step.state.phase step.effects.sends ways.sends ways.forward ways.backward
          ways.told) (
            own_now tx t at split step.state.phase step.effects.sends ways.sends ways.forward ways.backward ways.told
                step.state refl,
            back_now tx t at split step.state.phase step.effects.sends ways.sends ways.forward ways.backward ways.told,
          ));
      cs_below =
          below_cs tx t at split step.state.phase step.effects.sends ways.sends ways.forward ways.backward ways.told;
      bs_below =
          below_bs tx t at split step.state.phase step.effects.sends ways.sends ways.forward ways.backward ways.told;
      apart =
          apart_now tx t at split step.state.phase step.effects.sends ways.sends ways.forward ways.backward ways.told;
    };
    says = says_now tx t at split step.state.phase step.effects.sends ways.sends ways.forward ways.backward ways.told;
  }

  gone_stays : (tx : TxId) (t : Transaction) (at : ℕ) → Split tx t s.live at → (turn : Turn) → TurnWays tx t.phase turn
      → StaysOneWay s.node cs bs (turned_if s at turn true)
  unfolding without
  gone_stays tx t at split turn ways = record {
    one = record {
      once = subst KeysOnce (sym split.gone)
          (once_gone split.front split.back tx t
          (once_split tx t at split ways.last turn.step.effects.sends ways.sends ways.forward ways.backward
          ways.told));
      live = subst (Each (IsLive s.node s.next_seq (put_ways forth_by turn.step.effects.sends cs)
          (put_ways back_by turn.step.effects.sends bs))) (sym split.gone)
          (each_append (IsLive s.node s.next_seq (put_ways forth_by turn.step.effects.sends cs)
          (put_ways back_by turn.step.effects.sends bs)) split.front split.back
          (front_now tx t at split ways.last turn.step.effects.sends ways.sends ways.forward ways.backward ways.told)
          (back_now tx t at split ways.last turn.step.effects.sends ways.sends ways.forward ways.backward ways.told));
      cs_below =
          below_cs tx t at split ways.last turn.step.effects.sends ways.sends ways.forward ways.backward ways.told;
      bs_below =
          below_bs tx t at split ways.last turn.step.effects.sends ways.sends ways.forward ways.backward ways.told;
      apart = apart_now tx t at split ways.last turn.step.effects.sends ways.sends ways.forward ways.backward ways.told;
    };
    says = says_now tx t at split ways.last turn.step.effects.sends ways.sends ways.forward ways.backward ways.told;
  }

  -- a turn after which the transaction isn't over is a step
  step_ways : (tx : TxId) (phase : Phase) (turn : Turn) → TurnWays tx phase turn → turn.over ≡ false
      → Ways tx phase turn.step
  step_ways tx phase turn ways off = record {
    sends = subst (λ last. AllWays tx last turn.step.effects.sends) (sym (ways.stands off)) ways.sends;
    forward = λ is. ap is_decided (ways.stands off) ∙ ways.forward is;
    backward = λ is. ap is_aborting (ways.stands off) ∙ ways.backward is;
    told = subst (λ last. TellsForth tx phase last turn.step.effects.sends) (sym (ways.stands off)) ways.told;
  }

  turn_stays : (tx : TxId) (t : Transaction) (at : ℕ) → Split tx t s.live at → (turn : Turn) → TurnWays tx t.phase turn
      → (b : Bool) → turn.over ≡ b → StaysOneWay s.node cs bs (turned_if s at turn b)
  turn_stays tx t at split turn ways true over = gone_stays tx t at split turn ways
  turn_stays tx t at split turn ways false over =
      step_stays tx t at split turn.step (step_ways tx t.phase turn ways over)

  nothing_stays : StaysOneWay s.node cs bs (stay s)
  nothing_stays = record { one = n; says = tt }

  lower_none : (xs : List TxId) → Each (λ (v : TxId). v.seq < s.next_seq) xs → NotIn (next_tx s) xs
  lower_none xs all =
      each_map (λ (v : TxId). v.seq < s.next_seq) (λ v. same_tx v (next_tx s) ≡ false) xs (lower_apart s) all

  begins_one : (name : Option ℕ) → StaysOneWay s.node cs bs (begin_if s name false)
  begins_one name = record {
    one = record {
      once = once_inserted s.live (next_tx s) fresh
          (each_map (IsLive s.node s.next_seq cs bs) (λ (x : TxId × Transaction). same_tx x.0 (next_tx s) ≡ false)
          s.live (λ x is. lower_apart s x.0 is.below) n.live) n.once;
      live = each_inserted (IsLive s.node (s.next_seq + 1) cs bs) s.live (next_tx s) fresh
          (each_map (IsLive s.node s.next_seq cs bs) (λ (x : TxId × Transaction). same_tx x.0 (next_tx s) ≡ false)
          s.live (λ x is. lower_apart s x.0 is.below) n.live)
          (record {
            home = refl;
            below = omega arith;
            carried = λ on. absurd cc;
            uncommitted = λ off. lower_none cs n.cs_below;
            unaborted = λ off. lower_none bs n.bs_below;
          })
          (each_map (IsLive s.node s.next_seq cs bs) (IsLive s.node (s.next_seq + 1) cs bs) s.live
          (λ x is. record {
            home = is.home;
            below = omega (arith, is.below);
            carried = is.carried;
            uncommitted =
                is.uncommitted;
            unaborted = is.unaborted;
          }) n.live);
      cs_below = each_map (λ (v : TxId). v.seq < s.next_seq) (λ (v : TxId). v.seq < s.next_seq + 1) cs
          (λ v lt. omega (arith, lt)) n.cs_below;
      bs_below = each_map (λ (v : TxId). v.seq < s.next_seq) (λ (v : TxId). v.seq < s.next_seq + 1) bs
          (λ v lt. omega (arith, lt)) n.bs_below;
      apart = n.apart;
    };
    says = (tt, tt);
  }

tc_one : (s : TcState) (cs bs : List TxId) (body : Body) → IsOneWay s cs bs → StaysOneWay s.node cs bs (tc_table s body)
tc_one s cs bs body n =
    tc_each (λ tx t turn. TurnWays tx t.phase turn) (StaysOneWay s.node cs bs) s body (record {
      turns = λ tx t at split. rows_of s.node s.layout tx t body (λ turn. TurnWays tx t.phase turn)
          (turn_ways tx s.node s.layout t body);
      turned = λ tx t at split turn ways. turn_stays s cs bs n tx t at split turn ways turn.over refl;
      stays = nothing_stays s cs bs n;
      full = λ name. record { one = n; says = (tt, tt) };
      begins = begins_one s cs bs n;
      passes = λ tx ahead. record { one = n; says = (tt, tt) };
    })

-- a step of a host, and what its coordinator sends
record HostStays (before after : host.Host) (cs bs : List TxId) (sends : List Outgoing) : Type 0 where
  one : IsOneWay (tc_of after) (put_ways forth_by sends cs) (put_ways back_by sends bs)
  says : AreSaid before (put_ways forth_by sends cs) (put_ways back_by sends bs) sends

part_one : (p : TcPart) (at : BlockId) (x : Signal) (cs bs : List TxId) → IsOneWay p.tc cs bs
    → HostStays (Tc p) (Tc (tc_part_row p at x).state) cs bs (sends_for p at x)
unfolding tc_part_row
part_one p block.Tc x cs bs is =
    let stays = tc_one p.tc cs bs x.body is in record { one = stays.one; says = stays.says }
part_one p block.Dih x cs bs is = record { one = is; says = tt }
part_one p _ x cs bs is = record { one = is; says = tt }

host_one : (s : host.Host) (x : Signal) (cs bs : List TxId) → IsOneWay (tc_of s) cs bs
    → HostStays s (row s x).state cs bs (tc_sends s x)
unfolding row
host_one (Shell a) x cs bs is = record { one = is; says = tt }
host_one (Main m) x cs bs is = record { one = is; says = tt }
host_one (Tc p) x cs bs is = part_one p x.to.block x cs bs is
host_one (Ldm l) x cs bs is = record { one = is; says = tt }

started_one : (s : TcState) → s.live ≡ [] → IsOneWay s [] []
started_one s none = record {
  once = subst KeysOnce (sym none) tt;
  live = subst (Each (IsLive s.node s.next_seq [] [])) (sym none) tt;
  cs_below = tt;
  bs_below = tt;
  apart = tt;
}

log_one : (start : Start) (h : ℕ) (log : List HostStep)
    → IsOneWay (tc_of (after start h log)) (sent_ways start forth_by h log) (sent_ways start back_by h log)
log_one start h [] = started_one (tc_of (started start h)) (none_live start h)
log_one start h (e ∷ log) = (host_one (after start h log) e.step.taken (sent_ways start forth_by h log)
    (sent_ways start back_by h log) (log_one start h log)).one

pub coordinators_one_way : CoordinatorsGoOneWay
coordinators_one_way start h log = (log_one start h log).apart

pub coordinators_say : CoordinatorsSay
coordinators_say start h log e = (host_one (after start h log) e.step.taken (sent_ways start forth_by h log)
    (sent_ways start back_by h log) (log_one start h log)).says

-- who is among those that went forth isn't apart from all of them
pub not_apart : (tx : TxId) (cs : List TxId) → list_any (same_tx tx) cs ≡ true → NotIn tx cs → ⊥
not_apart tx [] among off = cc
not_apart tx (v ∷ cs) among off =
    by (or_cases (same_tx tx v) (list_any (same_tx tx) cs) among) (λ more. not_apart tx cs more off.1)
  where
    by : (same_tx tx v ≡ true) ⊎ (list_any (same_tx tx) cs ≡ true) → (list_any (same_tx tx) cs ≡ true → ⊥) → ⊥
    by (inl own) rest = let both : true ≡ false = sym own ∙ (same_tx-swap tx v ∙ off.0) in cc
    by (inr more) rest = rest more

-- one that a coordinator took forth knows that it is decided
pub forth_decided : (start : Start) (h : ℕ) (log : List HostStep)
    → Each (λ (e : TxId × Transaction). list_any (same_tx e.0) (sent_ways start forth_by h log) ≡ true
    → is_decided e.1.phase ≡ true) (tc_of (after start h log)).live
forth_decided start h log =
    each_map (IsLive s.node s.next_seq cs bs)
    (λ (e : TxId × Transaction). list_any (same_tx e.0) cs ≡ true → is_decided e.1.phase ≡ true) s.live known
    (log_one start h log).live
  where
    s : TcState
    s = tc_of (after start h log)

    cs : List TxId
    cs = sent_ways start forth_by h log

    bs : List TxId
    bs = sent_ways start back_by h log

    known : (e : TxId × Transaction) → IsLive s.node s.next_seq cs bs e → list_any (same_tx e.0) cs ≡ true
        → is_decided e.1.phase ≡ true
    known e live among = by (is_decided e.1.phase) refl
      where
        by : (b : Bool) → is_decided e.1.phase ≡ b → is_decided e.1.phase ≡ true
        by true on = on
        by false off = absurd (not_apart e.0 cs among (live.uncommitted off))

-- and one that it took back, that it is aborted
pub back_aborting : (start : Start) (h : ℕ) (log : List HostStep)
    → Each (λ (e : TxId × Transaction). list_any (same_tx e.0) (sent_ways start back_by h log) ≡ true
    → is_aborting e.1.phase ≡ true) (tc_of (after start h log)).live
back_aborting start h log =
    each_map (IsLive s.node s.next_seq cs bs)
    (λ (e : TxId × Transaction). list_any (same_tx e.0) bs ≡ true → is_aborting e.1.phase ≡ true) s.live known
    (log_one start h log).live
  where
    s : TcState
    s = tc_of (after start h log)

    cs : List TxId
    cs = sent_ways start forth_by h log

    bs : List TxId
    bs = sent_ways start back_by h log

    known : (e : TxId × Transaction) → IsLive s.node s.next_seq cs bs e → list_any (same_tx e.0) bs ≡ true
        → is_aborting e.1.phase ≡ true
    known e live among = by (is_aborting e.1.phase) refl
      where
        by : (b : Bool) → is_aborting e.1.phase ≡ b → is_aborting e.1.phase ≡ true
        by true on = on
        by false off = absurd (not_apart e.0 bs among (live.unaborted off))
