-- Each step of a coordinator leaves it sound.
use Rattle.std.proofs.Common.{◌≡◌, ◌⊎◌, ◌<◌, ℕ, ◌+◌, Bool, true, false, ◌&&◌, List, [], ◌∷◌, ◌++◌, refl, sym, ap, ◌∙◌}
use Rattle.std.proofs.Common.{subst, arith, inl, inr}
use Rattle.std.specs.FinMap as finite
use Rattle.std.specs.List.{list_any}
use Rattle.std.specs.Prelude.{Option, nat_eq}
use Rattle.std.proofs.lemmas.Bool.{and_right, ne_eqb}
use Rattle.run_theory.specs.Lists.{Each}
use Rattle.run_theory.proofs.Pasts.{each_after, each_append, each_before, each_map}
use Rattle.world_core.specs.Steps.{HostStep}
use Rattle.sig_core.specs.declared.member.TxId.{TxId}
use Rattle.sig_core.specs.declared.outs.Outgoing.{Outgoing}
use Rattle.sig_core.specs.declared.signal.Body.{Body}
use Rattle.sig_core.specs.declared.signal.Signal.{Signal}
use Rattle.sig_core.specs.Same.{same_tx}
use Rattle.sig_core.specs.Step.{Step}
use Rattle.row_locks.specs.Queues.{waits}
use Rattle.row_locks.specs.Tables.{or_unlocked}
use Rattle.row_locks.proofs.LocksLemmas.{key_cmp}
use Rattle.tc_block.specs.declared.phase.Phase.{Phase}
use Rattle.tc_block.specs.declared.transaction.Transaction.{Transaction}
use Rattle.tc_block.specs.Live.{turned_if, without}
use Rattle.tc_block.specs.Operate.{fresh}
use Rattle.tc_block.specs.State.{TcState}
use Rattle.tc_block.specs.Tc.{begin_if, next_tx, tc_row, tc_table}
use Rattle.tc_block.specs.Turn.{Turn}
use Rattle.node_core.specs.declared.host.Host.{Host}
use Rattle.node_core.specs.Blocks.{lqh_of, tc_of}
use Rattle.node_core.specs.Row.{row}
use Rattle.node_core.proofs.HostCases.{keeps_rows}
use Rattle.world_core.specs.Machine.{after}
use Rattle.world_core.specs.Hosts.{started}
use Rattle.world_core.specs.Start.{Start}
use Rattle.tc_block.specs.Phases.{is_aborting}
use Rattle.host_laws.specs.Ways.{Way, back, back_by, closes, forth, neither, put_ways, sent_ways, tc_sends, way_of}
use Rattle.tc_block.proofs.LiveSplit.{KeysOnce, Live, Split, each_inserted, once_gone, once_inserted, once_set}
use Rattle.host_laws.proofs.coordinator.OneWay.{back_more}
use Rattle.tc_block.proofs.EachTc.{tc_each}
use Rattle.tc_block.proofs.EachTurn.{rows_both, rows_of}
use Rattle.host_laws.proofs.coordinator.Ways.{AllWays, TurnWays, WayOf, turn_ways}
use Rattle.host_laws.proofs.hosts.BlocksAlong.{first_live}
use Rattle.host_laws.proofs.coordinator.Operations.{is_right}
use Rattle.run_laws.proofs.hosts.FreshHosts.{started_unasked}
use Rattle.run_laws.proofs.tokens.Waiting.{WaitersAsk, lqh_asks}
use Rattle.run_laws.proofs.ways.Aborts.{TurnAborts, turn_aborts}
use Rattle.run_laws.proofs.hosts.TcSaid.{TcSays, rests, takes, tc_says}
use Rattle.run_laws.proofs.tokens.Coordinator.{IsOwned, IsSound, now_given_up}
use Rattle.run_laws.proofs.tokens.Turns.{TurnTokens, gives_up, tokens_forms}

-- what gives a transaction up is of this one
abbrev IsBackOf : TxId → Way → Type 0
IsBackOf tx (forth other) = Unit {0}
IsBackOf tx (back other) = other ≡ tx
IsBackOf tx (closes other) = Unit {0}
IsBackOf tx neither = Unit {0}

abbrev AreBackOf : TxId → List Outgoing → Type 0
AreBackOf tx sends = Each (λ (o : Outgoing). IsBackOf tx (way_of o.body)) sends

of_ways : (tx : TxId) (phase : Phase) (sends : List Outgoing) → AllWays tx phase sends → AreBackOf tx sends
of_ways tx phase sends all = each_map (λ (o : Outgoing). WayOf tx phase (way_of o.body))
    (λ (o : Outgoing). IsBackOf tx (way_of o.body)) sends (λ o. by (way_of o.body)) all
  where
    by : (w : Way) → WayOf tx phase w → IsBackOf tx w
    by (forth other) is = tt
    by (back other) is = is.0
    by (closes other) is = tt
    by neither is = tt

each_back : (P : TxId → Type 0) (tx : TxId) (sends : List Outgoing) (bs : List TxId) → AreBackOf tx sends → P tx
    → Each P bs → Each P (put_ways back_by sends bs)
each_back P tx [] bs all own before = before
each_back P tx (o ∷ more) bs all own before = each_back P tx more (back_by (way_of o.body) bs) all.1 own
    (by (way_of o.body) all.0)
  where
    by : (w : Way) → IsBackOf tx w → Each P (back_by w bs)
    by (forth other) is = before
    by (back other) is = (subst P (sym is) own, before)
    by (closes other) is = before
    by neither is = before

-- a turn of the transaction keeps it right, and gives up no other one
record Turns (tx : TxId) (t : Transaction) (turn : Turn) : Type 0 where
  right : is_right turn.step.state.asked turn.step.state.phase ≡ true
  gives : AreBackOf tx turn.step.effects.sends
  aborts : TurnAborts tx t turn

of_turn : (tx : TxId) (t : Transaction) (turn : Turn) → TurnTokens tx t 1 turn → TurnAborts tx t turn
    → TurnWays tx t.phase turn → Turns tx t turn
of_turn tx t turn is aborts ways =
    record { right = is.right; gives = of_ways tx ways.last turn.step.effects.sends ways.sends; aborts = aborts }

abbrev StaysSound : List TxId → Step TcState → Type 0
StaysSound bs step = IsSound step.state (put_ways back_by step.effects.sends bs)

module _ (s : TcState) (bs : List TxId) (n : IsSound s bs) where
  module _ (tx : TxId) (t : Transaction) (at : ℕ) (split : Split tx t s.live at) where
    all_split : Each (IsOwned s.node s.next_seq bs) (split.front ++ (tx, t) ∷ split.back)
    all_split = subst (Each (IsOwned s.node s.next_seq bs)) split.is n.live

    front_owned : Each (IsOwned s.node s.next_seq bs) split.front
    front_owned = each_before (IsOwned s.node s.next_seq bs) split.front ((tx, t) ∷ split.back) all_split

    back_owned : Each (IsOwned s.node s.next_seq bs) ((tx, t) ∷ split.back)
    back_owned = each_after (IsOwned s.node s.next_seq bs) split.front ((tx, t) ∷ split.back) all_split

    once_split : KeysOnce (split.front ++ (tx, t) ∷ split.back)
    once_split = subst KeysOnce split.is n.once

    -- the others stay as they are, and given up if they were
    still_owned : (sends : List Outgoing) (xs : Live) → Each (IsOwned s.node s.next_seq bs) xs
        → Each (IsOwned s.node s.next_seq (put_ways back_by sends bs)) xs
    still_owned sends xs all =
        each_map (IsOwned s.node s.next_seq bs) (IsOwned s.node s.next_seq (put_ways back_by sends bs)) xs
        (λ x is. record {
          home = is.home;
          below = is.below;
          right = is.right;
          touched = is.touched;
          given =
              λ on. back_more (same_tx x.0) sends bs (is.given on);
        }) all

    own : IsOwned s.node s.next_seq bs (tx, t)
    own = back_owned.0

    given_now : (turn : Turn) → (is_aborting t.phase ≡ true) ⊎ (gives_up tx turn.step.effects.sends ≡ true)
        → list_any (same_tx tx) (put_ways back_by turn.step.effects.sends bs) ≡ true
    given_now turn (inl was) = back_more (same_tx tx) turn.step.effects.sends bs (own.given was)
    given_now turn (inr gives) = now_given_up tx turn.step.effects.sends bs gives

    turn_sound : (turn : Turn) → Turns tx t turn → (b : Bool) → StaysSound bs (turned_if s at turn b)
    unfolding without
    turn_sound turn is false = record {
      once = subst KeysOnce (sym (split.set turn.step.state))
          (once_set split.front split.back tx t turn.step.state once_split);
      live = subst (Each (IsOwned s.node s.next_seq (put_ways back_by turn.step.effects.sends bs)))
          (sym (split.set turn.step.state))
          (each_append (IsOwned s.node s.next_seq (put_ways back_by turn.step.effects.sends bs)) split.front
          ((tx, turn.step.state) ∷ split.back) (still_owned turn.step.effects.sends split.front front_owned) (
            record {
              home = own.home;
              below = own.below;
              right = is.right;
              touched = is.aborts.touched;
              given =
                  λ on. given_now turn (is.aborts.aborts on);
            },
            still_owned turn.step.effects.sends
                split.back back_owned.1,
          ));
      begun = each_back (λ (v : TxId). v.seq < s.next_seq) tx turn.step.effects.sends bs is.gives own.below n.begun;
    }
    turn_sound turn is true = record {
      once = subst KeysOnce (sym split.gone) (once_gone split.front split.back tx t once_split);
      live = subst (Each (IsOwned s.node s.next_seq (put_ways back_by turn.step.effects.sends bs))) (sym split.gone)
          (each_append (IsOwned s.node s.next_seq (put_ways back_by turn.step.effects.sends bs)) split.front split.back
          (still_owned turn.step.effects.sends split.front front_owned)
          (still_owned turn.step.effects.sends split.back back_owned.1));
      begun = each_back (λ (v : TxId). v.seq < s.next_seq) tx turn.step.effects.sends bs is.gives own.below n.begun;
    }

  begins_sound : (name : Option ℕ) → StaysSound bs (begin_if s name false)
  begins_sound name = record {
    once = once_inserted s.live (next_tx s) fresh others n.once;
    live = each_inserted (IsOwned s.node (s.next_seq + 1) bs) s.live (next_tx s) fresh others
        (record { home = refl; below = omega arith; right = refl; touched = tt; given = λ is. absurd cc })
        (each_map (IsOwned s.node s.next_seq bs) (IsOwned s.node (s.next_seq + 1) bs) s.live
        (λ x is. record {
          home = is.home;
          below = omega (arith, is.below);
          right = is.right;
          touched =
              is.touched;
          given = is.given;
        }) n.live);
    begun = each_map (λ (v : TxId). v.seq < s.next_seq) (λ (v : TxId). v.seq < s.next_seq + 1) bs
        (λ v lt. omega (arith, lt)) n.begun;
  }
    where
      lower : (w : TxId) → w.seq < s.next_seq → same_tx w (next_tx s) ≡ false
      lower w lt =
          let off : nat_eq w.seq s.next_seq ≡ false = ne_eqb w.seq s.next_seq (λ same. omega (arith, lt, same)) in
          and_right (nat_eq w.tc s.node) (nat_eq w.start s.start && nat_eq w.seq s.next_seq)
          (and_right (nat_eq w.start s.start) (nat_eq w.seq s.next_seq) off)

      others : Each (λ (x : TxId × Transaction). same_tx x.0 (next_tx s) ≡ false) s.live
      others = each_map (IsOwned s.node s.next_seq bs) (λ (x : TxId × Transaction). same_tx x.0 (next_tx s) ≡ false)
          s.live (λ x is. lower x.0 is.below) n.live

  -- so is each step
  pub tc_sound : (body : Body) → StaysSound bs (tc_table s body)
  tc_sound body =
      tc_each (λ tx t turn. Both tx t turn) (StaysSound bs) s body (record {
        turns = λ tx t at split. rows_both s.node s.layout tx t body (λ turn. TurnTokens tx t 1 turn)
            (λ turn. TurnAborts tx t turn × TurnWays tx t.phase turn)
            (rows_of s.node s.layout tx t body (λ turn. TurnTokens tx t 1 turn)
            (tokens_forms s.node s.layout tx t (own tx t at split).right 1 body (λ key answer is. omega arith)))
            (rows_both s.node s.layout tx t body (λ turn. TurnAborts tx t turn) (λ turn. TurnWays tx t.phase turn)
            (rows_of s.node s.layout tx t body (λ turn. TurnAborts tx t turn)
            (turn_aborts s.node s.layout tx t (own tx t at split).touched body))
            (rows_of s.node s.layout tx t body (λ turn. TurnWays tx t.phase turn)
            (turn_ways tx s.node s.layout t body)));
        turned = λ tx t at split turn both. turn_sound tx t at split turn
            (of_turn tx t turn both.0 both.1.0 both.1.1) turn.over;
        stays = n;
        full = λ name. n;
        begins = begins_sound;
        passes = λ tx ahead. n;
      })
    where
      Both : TxId → Transaction → Turn → Type 0
      Both tx t turn = TurnTokens tx t 1 turn × (TurnAborts tx t turn × TurnWays tx t.phase turn)

-- a host is sound: its coordinator is, and who waits in a queue of its rows has a request that waits
pub record IsSoundHost (s : Host) (bs : List TxId) : Type 0 where
  pub tc : IsSound (tc_of s) bs
  pub asks : WaitersAsk (lqh_of s)

host_sound : (s : Host) (x : Signal) (bs : List TxId) → IsSound (tc_of s) bs → IsSound (tc_of (row s x).state)
    (put_ways back_by (tc_sends s x) bs)
host_sound s x bs is = by (tc_says s x)
  where
    by : TcSays s x (row s x) → IsSound (tc_of (row s x).state) (put_ways back_by (tc_sends s x) bs)
    by (takes step says) =
        subst (λ sends. IsSound (tc_of (row s x).state) (put_ways back_by sends bs)) (sym says)
        (subst (λ t. IsSound t (put_ways back_by (tc_row (tc_of s) x).effects.sends bs)) (sym step.state)
        (tc_sound (tc_of s) bs is x.body))
    by (rests state says) =
        subst (λ sends. IsSound (tc_of (row s x).state) (put_ways back_by sends bs)) (sym says)
        (subst (λ t. IsSound t bs) (sym state) is)

started_sound : (start : Start) (h : ℕ) → IsSoundHost (started start h) []
started_sound start h = record {
  tc = record {
    once = subst KeysOnce (sym (first_live start h)) tt;
    live =
        subst (Each (IsOwned (tc_of (started start h)).node (tc_of (started start h)).next_seq []))
        (sym (first_live start h)) tt;
    begun = tt;
  };
  asks = let unasked = started_unasked start h in subst (λ l. WaitersAsk l) (sym unasked.is)
      (record {
        asks = λ key tx is. absurd (let both : true ≡ false = sym is ∙ ap (λ o. waits tx (or_unlocked o).queue)
            (finite.get-empty key_cmp key) in cc);
      });
}

-- so it is along any log
pub log_sound : (start : Start) (h : ℕ) (log : List HostStep) → IsSoundHost (after start h log)
    (sent_ways start back_by h log)
log_sound start h [] = started_sound start h
log_sound start h (e ∷ log) =
    let is = log_sound start h log in
    record {
      tc = host_sound (after start h log) e.step.taken (sent_ways start back_by h log) is.tc;
      asks = keeps_rows WaitersAsk (λ l x. lqh_asks l x.body) (after start h log) e.step.taken is.asks;
    }
