-- What a coordinator says, transaction by transaction: it begins each once, asks for an epoch of each at most once, and
-- tells
-- of the commit of those alone that are decided.
use Rattle.std.proofs.Common.{◌≡◌, ◌<◌, ℕ, ◌+◌, Bool, true, false, List, [], ◌∷◌, ◌++◌, refl, sym, ap, ◌∙◌, subst}
use Rattle.std.proofs.Common.{subst₂, arith}
use Rattle.std.specs.Prelude.{Option}
use Rattle.run_theory.specs.Lists.{Each}
use Rattle.run_theory.proofs.Pasts.{each_after, each_append, each_before, each_map}
use Rattle.sig_core.specs.declared.member.TxId.{TxId}
use Rattle.sig_core.specs.declared.outs.Outgoing.{Outgoing}
use Rattle.sig_core.specs.declared.signal.Body.{Body}
use Rattle.sig_core.specs.Place.{epochs}
use Rattle.sig_core.specs.Same.{same_tx}
use Rattle.sig_core.specs.Step.{Step, stay}
use Rattle.sig_core.proofs.TxLemmas.{same_tx-swap}
use Rattle.tc_block.specs.declared.phase.Asked.{Asked}
use Rattle.tc_block.specs.declared.phase.Phase.{Phase}
use Rattle.tc_block.specs.declared.phase.Phase.TheVariants.{Open, Verifying, Committing, Completing, Aborting}
use Rattle.tc_block.specs.declared.transaction.Transaction.{Transaction}
use Rattle.tc_block.specs.Commit as commit
use Rattle.tc_block.specs.Live.{stepped, turned, turned_if, without}
use Rattle.tc_block.specs.Operate.{fresh, is_ready}
use Rattle.tc_block.specs.State.{TcState}
use Rattle.tc_block.specs.Tc.{begin_if, next_tx, tc_table}
use Rattle.tc_block.specs.Turn.{Turn, at_phase}
use Rattle.host_laws.specs.Kinds.{Kind, kind_of}
use Rattle.host_laws.specs.Kinds as kind
use Rattle.tc_block.specs.Phases.{is_decided, is_open}
use Rattle.tc_block.proofs.LiveSplit.{KeysOnce, Live, Split, each_inserted, once_back, once_front, once_gone}
use Rattle.tc_block.proofs.LiveSplit.{once_inserted, once_set}
use Rattle.tc_block.proofs.EachTc.{tc_each}
use Rattle.tc_block.proofs.EachTurn.{rows_of}
use Rattle.host_laws.proofs.coordinator.Goes.{AllSay, Goes, SaysOf, TurnGoes, turn_goes}
use Rattle.host_laws.proofs.coordinator.Lives.{lower_apart}

-- the transactions that signals say to have begun, and those for which an epoch is asked, in front of those before
abbrev pub begun_by : Kind → List TxId → List TxId
begun_by (kind.begun tx) before = tx ∷ before
begun_by k before = before

abbrev pub verified_by : Kind → List TxId → List TxId
verified_by (kind.verified tx) before = tx ∷ before
verified_by k before = before

abbrev pub put_kinds : (Kind → List TxId → List TxId) → List Outgoing → List TxId → List TxId
put_kinds f [] before = before
put_kinds f (o ∷ more) before = put_kinds f more (f (kind_of o.body) before)

-- none of them is this transaction
abbrev pub NotIn : TxId → List TxId → Type 0
NotIn tx xs = Each (λ v. same_tx v tx ≡ false) xs

abbrev pub AreApart : List TxId → Type 0
AreApart [] = Unit {0}
AreApart (tx ∷ rest) = NotIn tx rest × AreApart rest

-- one of the coordinator's transactions, where D is known of those that are decided
pub record IsLive (node next : ℕ) (D : TxId → Type 0) (verified : List TxId) (e : TxId × Transaction) : Type 0 where
  pub tc : e.0.tc ≡ node
  pub below : e.0.seq < next
  pub decided : is_decided e.1.phase ≡ true → D e.0
  pub unverified : is_open e.1.phase ≡ true → NotIn e.0 verified

-- the coordinator of a node, which has said these to have begun, and asked for an epoch for those
pub record IsNumbered (node : ℕ) (D : TxId → Type 0) (s : TcState) (begun_yet verified : List TxId) : Type 0 where
  pub own : s.node ≡ node
  pub once : KeysOnce s.live
  pub live : Each (IsLive node s.next_seq D verified) s.live
  pub begun_below : Each (λ (v : TxId). v.seq < s.next_seq) begun_yet
  pub begun_apart : AreApart begun_yet
  pub verified_below : Each (λ (v : TxId). v.seq < s.next_seq) verified
  pub verified_apart : AreApart verified

-- what one signal of a coordinator says, of a step that took this
abbrev pub SaysAt : ℕ → (TxId → Type 0) → Kind → Outgoing → Kind → Type 0
SaysAt node D taken o (kind.begun tx) = tx.tc ≡ node
SaysAt node D taken o (kind.verified tx) = (taken ≡ kind.wanted tx) × (tx.tc ≡ node) × (o.to ≡ epochs node)
SaysAt node D taken o (kind.committing tx) = D tx
SaysAt node D taken o (kind.ended tx) = D tx
SaysAt node D taken o kind.other = Unit {0}
SaysAt node D taken o _ = ⊥

abbrev pub AllSayAt : ℕ → (TxId → Type 0) → Kind → List Outgoing → Type 0
AllSayAt node D taken sends = Each (λ (o : Outgoing). SaysAt node D taken o (kind_of o.body)) sends

pub record StaysNumbered (node : ℕ) (D : TxId → Type 0) (taken : Kind) (begun_yet verified : List TxId)
    (step : Step TcState) : Type 0 where
  pub numbered : IsNumbered node D step.state (put_kinds begun_by step.effects.sends begun_yet)
      (put_kinds verified_by step.effects.sends verified)
  pub says : AllSayAt node D taken step.effects.sends

-- signals of a transaction's own add to neither list
begun_none : (tx : TxId) (D : Type 0) (sends : List Outgoing) (before : List TxId) → AllSay tx D sends
    → put_kinds begun_by sends before ≡ before
begun_none tx D [] before all = refl
begun_none tx D (o ∷ more) before all =
    ap (put_kinds begun_by more) (by (kind_of o.body) all.0) ∙ begun_none tx D more before all.1
  where
    by : (k : Kind) → SaysOf tx D k → begun_by k before ≡ before
    by (kind.begun other) says = absurd says
    by (kind.wanted other) says = refl
    by (kind.verified other) says = refl
    by (kind.decided other) says = refl
    by (kind.committing other) says = refl
    by (kind.ended other) says = refl
    by kind.other says = refl

verified_none : (tx : TxId) (D : Type 0) (sends : List Outgoing) (before : List TxId) → AllSay tx D sends
    → put_kinds verified_by sends before ≡ before
verified_none tx D [] before all = refl
verified_none tx D (o ∷ more) before all =
    ap (put_kinds verified_by more) (by (kind_of o.body) all.0) ∙ verified_none tx D more before all.1
  where
    by : (k : Kind) → SaysOf tx D k → verified_by k before ≡ before
    by (kind.begun other) says = refl
    by (kind.wanted other) says = refl
    by (kind.verified other) says = absurd says
    by (kind.decided other) says = refl
    by (kind.committing other) says = refl
    by (kind.ended other) says = refl
    by kind.other says = refl

says_at : (node : ℕ) (D : TxId → Type 0) (taken : Kind) (tx : TxId) (sends : List Outgoing) → AllSay tx (D tx) sends
    → AllSayAt node D taken sends
says_at node D taken tx sends all = each_map (λ (o : Outgoing). SaysOf tx (D tx) (kind_of o.body))
    (λ (o : Outgoing). SaysAt node D taken o (kind_of o.body)) sends (λ o. by o (kind_of o.body)) all
  where
    by : (o : Outgoing) (k : Kind) → SaysOf tx (D tx) k → SaysAt node D taken o k
    by o (kind.begun other) says = absurd says
    by o (kind.wanted other) says = absurd says
    by o (kind.verified other) says = absurd says
    by o (kind.decided other) says = absurd says
    by o (kind.committing other) says = subst D (sym says.0) says.1
    by o (kind.ended other) says = subst D (sym says.0) says.1
    by o kind.other says = tt

module _ (node : ℕ) (D : TxId → Type 0) (taken : Kind) (s : TcState) (begun_yet verified : List TxId)
    (n : IsNumbered node D s begun_yet verified) where
  nothing_said : StaysNumbered node D taken begun_yet verified (stay s)
  nothing_said = record { numbered = n; says = tt }

  -- the transaction that stands at a place
  module _ (tx : TxId) (t : Transaction) (at : ℕ) (split : Split tx t s.live at) where
    all_split : Each (IsLive node s.next_seq D verified) (split.front ++ (tx, t) ∷ split.back)
    all_split = subst (Each (IsLive node s.next_seq D verified)) split.is n.live

    once_split : KeysOnce (split.front ++ (tx, t) ∷ split.back)
    once_split = subst KeysOnce split.is n.once

    pub own_live : IsLive node s.next_seq D verified (tx, t)
    own_live = (each_after (IsLive node s.next_seq D verified) split.front ((tx, t) ∷ split.back) all_split).0

    -- it takes a step
    step_stays : (step : Step Transaction) → Goes tx (D tx) t.phase step
        → StaysNumbered node D taken begun_yet verified (stepped s at step)
    step_stays step goes = record {
      numbered = subst₂ (IsNumbered node D (stepped s at step).state)
          (sym (begun_none tx (D tx) step.effects.sends begun_yet goes.sends))
          (sym (verified_none tx (D tx) step.effects.sends verified goes.sends))
          (record {
            own = n.own;
            once = subst KeysOnce (sym (split.set step.state))
                (once_set split.front split.back tx t step.state once_split);
            live = subst (Each (IsLive node s.next_seq D verified)) (sym (split.set step.state))
                (each_append (IsLive node s.next_seq D verified) split.front ((tx, step.state) ∷ split.back)
                (each_before (IsLive node s.next_seq D verified) split.front ((tx, t) ∷ split.back) all_split)
                (now, (each_after (IsLive node s.next_seq D verified) split.front ((tx, t) ∷ split.back) all_split).1));
            begun_below = n.begun_below;
            begun_apart = n.begun_apart;
            verified_below = n.verified_below;
            verified_apart = n.verified_apart;
          });
      says = says_at node D taken tx step.effects.sends goes.sends;
    }
      where
        opened : (b : Bool) → is_open t.phase ≡ b → is_open step.state.phase ≡ true → NotIn tx verified
        opened true was is = own_live.unverified was
        opened false was is = absurd (let both : true ≡ false = sym is ∙ goes.closed was in cc)

        now : IsLive node s.next_seq D verified (tx, step.state)
        now = record {
          tc = own_live.tc;
          below = own_live.below;
          decided = goes.deciding;
          unverified = opened (is_open t.phase) refl;
        }

    -- it is forgotten
    gone_stays : (turn : Turn) → TurnGoes tx (D tx) t.phase turn
        → StaysNumbered node D taken begun_yet verified (turned_if s at turn true)
    unfolding without
    gone_stays turn goes = record {
      numbered = subst₂ (IsNumbered node D (turned_if s at turn true).state)
          (sym (begun_none tx (D tx) turn.step.effects.sends begun_yet goes.sends))
          (sym (verified_none tx (D tx) turn.step.effects.sends verified goes.sends))
          (record {
            own = n.own;
            once = subst KeysOnce (sym split.gone) (once_gone split.front split.back tx t once_split);
            live = subst (Each (IsLive node s.next_seq D verified)) (sym split.gone)
                (each_append (IsLive node s.next_seq D verified) split.front split.back
                (each_before (IsLive node s.next_seq D verified) split.front ((tx, t) ∷ split.back) all_split)
                (each_after (IsLive node s.next_seq D verified) split.front ((tx, t) ∷ split.back) all_split).1);
            begun_below = n.begun_below;
            begun_apart = n.begun_apart;
            verified_below = n.verified_below;
            verified_apart = n.verified_apart;
          });
      says = says_at node D taken tx turn.step.effects.sends goes.sends;
    }

    turn_stays : (turn : Turn) → TurnGoes tx (D tx) t.phase turn → (b : Bool)
        → StaysNumbered node D taken begun_yet verified (turned_if s at turn b)
    turn_stays turn goes true = gone_stays turn goes
    turn_stays turn goes false = step_stays turn.step goes

    -- it asks for an epoch
    pub verify_stays : taken ≡ kind.wanted tx → is_ready t.phase t.asked ≡ true
        → StaysNumbered node D taken begun_yet verified (stepped s at (commit.verify_if s.node tx t true))
    verify_stays is ready = record {
      numbered = record {
        own = n.own;
        once = subst KeysOnce (sym (split.set (at_phase t Verifying)))
            (once_set split.front split.back tx t (at_phase t Verifying) once_split);
        live = subst (Each (IsLive node s.next_seq D (tx ∷ verified))) (sym (split.set (at_phase t Verifying)))
            (each_append (IsLive node s.next_seq D (tx ∷ verified)) split.front
            ((tx, (at_phase t Verifying)) ∷ split.back)
            (others split.front (once_front split.front split.back tx t once_split)
            (each_before (IsLive node s.next_seq D verified) split.front ((tx, t) ∷ split.back) all_split)) (
              record {
                tc = own_live.tc;
                below = own_live.below;
                decided = λ is. absurd cc;
                unverified = λ is. absurd cc;
              },
              others split.back (once_back split.front split.back tx t once_split)
                  (each_after (IsLive node s.next_seq D verified) split.front ((tx, t) ∷ split.back) all_split).1,
            ));
        begun_below = n.begun_below;
        begun_apart = n.begun_apart;
        verified_below = (own_live.below, n.verified_below);
        verified_apart = (own_live.unverified (opened t.phase t.asked ready), n.verified_apart);
      };
      says = ((is, own_live.tc, ap epochs n.own), tt);
    }
      where
        opened : (phase : Phase) (asked : Option Asked) → is_ready phase asked ≡ true → is_open phase ≡ true
        opened Open asked is = refl
        opened Verifying asked is = absurd cc
        opened (Committing epoch awaited) asked is = absurd cc
        opened (Completing epoch awaited) asked is = absurd cc
        opened (Aborting why verifying awaited) asked is = absurd cc

        others : (xs : Live) → Each (λ (x : TxId × Transaction). same_tx x.0 tx ≡ false) xs
            → Each (IsLive node s.next_seq D verified) xs → Each (IsLive node s.next_seq D (tx ∷ verified)) xs
        others [] apart all = tt
        others (x ∷ xs) apart all = (
          record {
            tc = all.0.tc;
            below = all.0.below;
            decided = all.0.decided;
            unverified = λ is.
                (same_tx-swap tx x.0 ∙ apart.0, all.0.unverified is);
          },
          others xs apart.1 all.1,
        )

  -- a transaction begins, whose number nobody has
  pub begins_stays : (name : Option ℕ) → StaysNumbered node D taken begun_yet verified (begin_if s name false)
  begins_stays name = record {
    numbered = record {
      own = n.own;
      once = once_inserted s.live (next_tx s) fresh
          (each_map (IsLive node s.next_seq D verified) (λ (x : TxId × Transaction). same_tx x.0 (next_tx s) ≡ false)
          s.live (λ x is. lower_apart s x.0 is.below) n.live) n.once;
      live = each_inserted (IsLive node (s.next_seq + 1) D verified) s.live (next_tx s) fresh
          (each_map (IsLive node s.next_seq D verified) (λ (x : TxId × Transaction). same_tx x.0 (next_tx s) ≡ false)
          s.live (λ x is. lower_apart s x.0 is.below) n.live)
          (record {
            tc = n.own;
            below = omega arith;
            decided = λ is. absurd cc;
            unverified = λ is. each_map (λ (v : TxId). v.seq < s.next_seq) (λ v. same_tx v (next_tx s) ≡ false)
                verified (lower_apart s) n.verified_below;
          })
          (each_map (IsLive node s.next_seq D verified) (IsLive node (s.next_seq + 1) D verified) s.live
          (λ x is. record {
            tc = is.tc;
            below = omega (arith, is.below);
            decided = is.decided;
            unverified =
                is.unverified;
          }) n.live);
      begun_below = (
        omega arith,
        each_map (λ (v : TxId). v.seq < s.next_seq) (λ (v : TxId). v.seq < s.next_seq + 1)
            begun_yet (λ v lt. omega (arith, lt)) n.begun_below,
      );
      begun_apart = (
        each_map (λ (v : TxId). v.seq < s.next_seq) (λ v. same_tx v (next_tx s) ≡ false) begun_yet
            (lower_apart s) n.begun_below,
        n.begun_apart,
      );
      verified_below = each_map (λ (v : TxId). v.seq < s.next_seq) (λ (v : TxId). v.seq < s.next_seq + 1) verified
          (λ v lt. omega (arith, lt)) n.verified_below;
      verified_apart = n.verified_apart;
    };
    says = (n.own, tt);
  }

-- a signal that tells of a decision, or commits a row, tells the truth
abbrev pub Tells : (TxId → Type 0) → Kind → Type 0
Tells D (kind.decided tx) = D tx
Tells D (kind.committing tx) = D tx
Tells D k = Unit {0}

pub tc_numbered : (node : ℕ) (D : TxId → Type 0) (s : TcState) (begun_yet verified : List TxId) (body : Body)
    → IsNumbered node D s begun_yet verified → Tells D (kind_of body)
    → StaysNumbered node D (kind_of body) begun_yet verified (tc_table s body)
tc_numbered node D s bs vs body n tells =
    tc_each Stays (StaysNumbered node D (kind_of body) bs vs) s body (record {
      turns = λ tx t at split. rows_of s.node s.layout tx t body (Stays tx t)
          (turn_goes tx (D tx) (Stays tx t) s.node s.layout t body
          (λ turn goes at split. turn_stays node D (kind_of body) s bs vs n tx t at split turn goes turn.over)
          (λ is ready at split. verify_stays node D (kind_of body) s bs vs n tx t at split (ap kind_of is) ready)
          (own_live node D (kind_of body) s bs vs n tx t at split).decided
          (λ epoch is. subst (λ b. Tells D (kind_of b)) is tells));
      turned = λ tx t at split turn stays. stays at split;
      stays = nothing_said node D (kind_of body) s bs vs n;
      full = λ name. record { numbered = n; says = (tt, tt) };
      begins = λ name. begins_stays node D (kind_of body) s bs vs n name;
      passes = λ tx ahead. record { numbered = n; says = (tt, tt) };
    })
  where
    Stays : TxId → Transaction → Turn → Type 0
    Stays tx t turn = (at : ℕ) → Split tx t s.live at → StaysNumbered node D (kind_of body) bs vs (turned s at turn)
