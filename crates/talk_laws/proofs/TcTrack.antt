-- A coordinator has each operation of an open transaction from its client, and each answer that it has given is of one
-- of them; and so it is with the operations with which it asks for an epoch, for good.
use Rattle.std.proofs.Common.{◌≡◌, ◌≤◌, ◌<◌, ◌+◌, ◌∙◌, ◌⊎◌, ◌++◌, ◌&&◌, ℕ, Bool, true, false, List, [], ◌∷◌, length, ap}
use Rattle.std.proofs.Common.{arith, inl, inr, refl, subst, sym}
use Rattle.std.proofs.lemmas.Bool.{leb-false, leb-true}
use Rattle.std.specs.List.{cons_option, count_by}
use Rattle.std.specs.Prelude.{if◌then◌else◌, nat_le, Option, None, Some}
use Rattle.run_theory.specs.Lists.{Each}
use Rattle.run_theory.proofs.Pasts.{each_after, each_append, each_before, each_map}
use Rattle.sig_core.specs.declared.member.TxId.{TxId}
use Rattle.sig_core.specs.declared.op.Answer.{Answer}
use Rattle.sig_core.specs.declared.op.Op.{Op}
use Rattle.sig_core.specs.declared.outs.Outgoing.{Outgoing}
use Rattle.sig_core.specs.declared.signal.Body.{Body}
use Rattle.sig_core.specs.declared.signal.Body.TheVariants.{Client, Epoch}
use Rattle.sig_core.specs.declared.signal.client.ClientSignal.TheVariants.{TcKeyConf, TcKeyReq}
use Rattle.sig_core.specs.declared.signal.epoch.EpochSignal.TheVariants.{DiVerifyReq}
use Rattle.sig_core.specs.Place.{client, epochs}
use Rattle.sig_core.specs.Same.{same_tx}
use Rattle.sig_core.specs.Step.{Step, to_place}
use Rattle.sig_core.proofs.TxLemmas.{same_tx-is}
use Rattle.report_laws.specs.Asked.{asked_by}
use Rattle.talk_laws.proofs.Newest.{newest, newest_more, newest_ops, newest_ops_more}
use Rattle.tc_block.specs.Live.{turned, turned_if, without}
use Rattle.tc_block.specs.Operate.{fresh}
use Rattle.tc_block.specs.Phases.{is_open}
use Rattle.tc_block.specs.State.{TcState}
use Rattle.tc_block.specs.Tc.{begin_if, begun, next_tx}
use Rattle.tc_block.specs.Turn.{Turn}
use Rattle.tc_block.specs.declared.phase.Asked.{Asked}
use Rattle.tc_block.specs.declared.transaction.Transaction.{Transaction}
use Rattle.tc_block.proofs.LiveSplit.{KeysOnce, Live, Split, once_back, once_front}
use Rattle.tc_block.specs.Complete.{one_if}
use Rattle.tc_views.specs.State.{CoordinatorState}
use Rattle.world_core.specs.Entries.{verified_by}
use Rattle.outcome_laws.specs.Counts.{is_open_of, is_unborn, may_ask}
use Rattle.outcome_laws.proofs.coordinators.Lists.{count_between, next_is_other, put_last}
use Rattle.talk_laws.proofs.Among.{AreAmong, among_more, among_same, among_trans}
use Rattle.talk_laws.proofs.Picks.{cons_more, pick_sends, picked_none}
use Rattle.talk_laws.proofs.TcTalks.{AreMute, IsMute, Rests, Talks, answers, asks, is_talk, operates, rests}

-- the answer for the client that the signal has, of this transaction
abbrev pub told_by : TxId → Body → Option Answer
told_by tx (Client (TcKeyConf other answer)) = if same_tx other tx then Some answer else None
told_by tx body = None

-- the operation that is unanswered, in front of those before
abbrev pub with_asked : Option Asked → List Op → List Op
with_asked None ops = ops
with_asked (Some asked) ops = asked.op ∷ ops

-- the answers are of these operations, and these were asked for
pub record Gives (told : List Answer) (took : List Op) (ops : List (Op × Answer)) : Type 0 where
  pub answers_are : AreAmong told (newest ops [])
  pub ops_are : AreAmong (newest_ops ops []) took

-- and so are those of a transaction
pub record Fits (told : List Answer) (took : List Op) (t : Transaction) : Type 0 where
  pub answers_are : AreAmong told (newest t.ops [])
  pub ops_are : AreAmong (with_asked t.asked (newest_ops t.ops [])) took

less_asked : (o : Option Asked) (ops : List Op) → AreAmong ops (with_asked o ops)
less_asked None ops = among_same ops
less_asked (Some asked) ops = among_more asked.op ops ops (among_same ops)

fits_gives : (told : List Answer) (took : List Op) (t : Transaction) → Fits told took t → Gives told took t.ops
fits_gives told took t fits = record {
  answers_are = fits.answers_are;
  ops_are =
      among_trans (newest_ops t.ops []) (with_asked t.asked (newest_ops t.ops [])) took
      (less_asked t.asked (newest_ops t.ops [])) fits.ops_are;
}

-- a signal that is no talk says nothing of it
pub mute_told : (tx : TxId) (body : Body) → is_talk body ≡ false → told_by tx body ≡ None
mute_told tx (Client (TcKeyConf other answer)) mute = absurd cc
mute_told tx body mute = refl

pub mute_verified : (tx : TxId) (body : Body) → is_talk body ≡ false → verified_by tx body ≡ None
mute_verified tx (Epoch (DiVerifyReq other ops)) mute = absurd cc
mute_verified tx body mute = refl

same_below : (n : ℕ) → nat_le n n ≡ true
same_below n = by (nat_le n n) refl
  where
    by : (b : Bool) → nat_le n n ≡ b → b ≡ true
    by true is = refl
    by false is = absurd (omega (arith, leb-false n n is))

module _ (tx : TxId) where
  -- of an open transaction of this number
  abbrev pub IsFit : List Answer → List Op → TxId × Transaction → Type 0
  IsFit told took e = same_tx e.0 tx ≡ true → is_open e.1.phase ≡ true → Fits told took e.1

  -- the coordinator, with the answers that it gave, the operations that it was asked for, and the requests for epochs
  pub record Talked (s : CoordinatorState) (told : List Answer) (took : List Op) (gave : List (List (Op × Answer)))
      : Type 0
    where
      pub unborn : is_unborn s tx ≡ true → told ≡ []
      pub fits : Each (IsFit told took) s.tc.live
      pub gives : Each (Gives told took) gave
      pub few : length gave + may_ask s tx ≤ 1

  pub more_took : (told : List Answer) (took : List Op) (o : Option Op) (e : TxId × Transaction) → IsFit told took e
      → IsFit told (cons_option o took) e
  more_took told took o e fit same opened =
      let is = fit same opened in
      record {
        answers_are = is.answers_are;
        ops_are = cons_more o (with_asked e.1.asked (newest_ops e.1.ops [])) took is.ops_are;
      }

  pub more_gives : (told : List Answer) (took : List Op) (o : Option Op) (ops : List (Op × Answer))
      → Gives told took ops
      → Gives told (cons_option o took) ops
  more_gives told took o ops gives =
      record { answers_are = gives.answers_are; ops_are = cons_more o (newest_ops ops []) took gives.ops_are }

  pub mute_picks : {A : Type 0} (f : Body → Option A) → ((body : Body) → is_talk body ≡ false → f body ≡ None)
      → (sends : List Outgoing) (before : List A) → AreMute sends → pick_sends f sends before ≡ before
  mute_picks f silent sends before mute =
      picked_none (λ (sent : Outgoing). f sent.body) sends before
      (each_map IsMute (λ (sent : Outgoing). f sent.body ≡ None) sends (λ sent is. silent sent.body is) mute)

  module _ (told : List Answer) (took : List Op) (gave : List (List (Op × Answer))) (body : Body) where
    abbrev told_then : List Outgoing → List Answer
    told_then sends = pick_sends (told_by tx) sends told

    abbrev took_then : List Op
    took_then = cons_option (asked_by tx body) took

    abbrev gave_then : List Outgoing → List (List (Op × Answer))
    gave_then sends = pick_sends (verified_by tx) sends gave

    -- so it is behind a step
    pub record Says (next : ℕ) (live : Live) (sends : List Outgoing) : Type 0 where
      pub unborn : nat_le next tx.seq ≡ true → told_then sends ≡ []
      pub fits : Each (IsFit (told_then sends) took_then) live
      pub gives : Each (Gives (told_then sends) took_then) (gave_then sends)

    abbrev pub SaysBy : Step TcState → Type 0
    SaysBy step = Says step.state.next_seq step.state.live step.effects.sends

    module _ (s : TcState) (unborn : nat_le s.next_seq tx.seq ≡ true → told ≡ [])
        (fits : Each (IsFit told took) s.live) (gives : Each (Gives told took) gave)
        (few : length gave + (one_if (nat_le s.next_seq tx.seq) + count_by (is_open_of tx) s.live) ≤ 1)
      where
        old_gives : Each (Gives told took_then) gave
        old_gives =
            each_map (Gives told took) (Gives told took_then) gave (more_gives told took (asked_by tx body)) gives

        old_fits : Each (IsFit told took_then) s.live
        old_fits =
            each_map (IsFit told took) (IsFit told took_then) s.live (more_took told took (asked_by tx body)) fits

        -- where nothing is told or given
        says_none : (next : ℕ) (live : Live) (sends : List Outgoing) → told_then sends ≡ told → gave_then sends ≡ gave
            → (nat_le next tx.seq ≡ true → told ≡ []) → Each (IsFit told took_then) live → Says next live sends
        says_none next live sends told_is gave_is born all = record {
          unborn = λ is. told_is ∙ born is;
          fits = subst (λ some. Each (IsFit some took_then) live) (sym told_is) all;
          gives =
              subst (λ some. Each (Gives some took_then) (gave_then sends)) (sym told_is)
              (subst (Each (Gives told took_then)) (sym gave_is) old_gives);
        }

        mute_says : (next : ℕ) (live : Live) (sends : List Outgoing) → AreMute sends
            → (nat_le next tx.seq ≡ true → told ≡ []) → Each (IsFit told took_then) live → Says next live sends
        mute_says next live sends mute born all =
            says_none next live sends (mute_picks (told_by tx) (mute_told tx) sends told mute)
            (mute_picks (verified_by tx) (mute_verified tx) sends gave mute) born all

        pub quiet_says : (sends : List Outgoing) → AreMute sends → Says s.next_seq s.live sends
        quiet_says sends mute = mute_says s.next_seq s.live sends mute unborn old_fits

        -- the turn of a transaction
        module _ (u : TxId) (t : Transaction) (at : ℕ) (split : Split u t s.live at) (once : KeysOnce s.live) where
          abbrev live_by : Transaction → Bool → Live
          live_by w true = split.front ++ split.back
          live_by w false = split.front ++ (u, w) ∷ split.back

          own_fit : IsFit told took (u, t)
          own_fit =
              (each_after (IsFit told took) split.front ((u, t) ∷ split.back)
              (subst (Each (IsFit told took)) split.is fits)).0

          module _ (w : Transaction) (P : TxId × Transaction → Type 0) (own : P (u, w)) where
            all_of : Each P split.front → Each P split.back → (b : Bool) → Each P (live_by w b)
            all_of front back true = each_append P split.front split.back front back
            all_of front back false = each_append P split.front ((u, w) ∷ split.back) front (own, back)

            from_all : Each P s.live → (b : Bool) → Each P (live_by w b)
            from_all all =
                let whole = subst (Each P) split.is all in
                all_of (each_before P split.front ((u, t) ∷ split.back) whole)
                (each_after P split.front ((u, t) ∷ split.back) whole).1

          -- a transaction that is as it was, or less
          rests_fit : (w : Transaction) → Rests t w → IsFit told took_then (u, w)
          rests_fit w is same opened =
              let fit = more_took told took (asked_by tx body) (u, t) own_fit same (is.open_is opened) in
              record {
                answers_are = subst (λ ops. AreAmong told (newest ops [])) (sym is.ops_are) fit.answers_are;
                ops_are = asked_less w.asked is.asked_is fit.ops_are;
              }
            where
              asked_less : (o : Option Asked) → (o ≡ t.asked) ⊎ (o ≡ None)
                  → AreAmong (with_asked t.asked (newest_ops t.ops [])) took_then
                  → AreAmong (with_asked o (newest_ops w.ops [])) took_then
              asked_less o (inl same) among =
                  subst (λ ops. AreAmong (with_asked o (newest_ops ops [])) took_then) (sym is.ops_are)
                  (subst (λ p. AreAmong (with_asked p (newest_ops t.ops [])) took_then) (sym same) among)
              asked_less o (inr none) among =
                  subst (λ ops. AreAmong (with_asked o (newest_ops ops [])) took_then) (sym is.ops_are)
                  (subst (λ p. AreAmong (with_asked p (newest_ops t.ops [])) took_then) (sym none)
                  (among_trans (newest_ops t.ops []) (with_asked t.asked (newest_ops t.ops [])) took_then
                  (less_asked t.asked (newest_ops t.ops [])) among))

          -- one more operation is unanswered
          operates_fit : (w : Transaction) (asked : Asked) → body ≡ Client (TcKeyReq u asked.op)
              → is_open t.phase ≡ true → w.ops ≡ t.ops → w.asked ≡ Some asked → IsFit told took_then (u, w)
          operates_fit w asked is opened ops asked_is same now = record {
            answers_are = subst (λ ops. AreAmong told (newest ops [])) (sym ops) fit.answers_are;
            ops_are =
                subst (λ o. AreAmong (with_asked o (newest_ops w.ops [])) took_then) (sym asked_is)
                (subst (λ ops. AreAmong (asked.op ∷ newest_ops ops []) took_then) (sym ops)
                (subst (AreAmong (asked.op ∷ newest_ops t.ops [])) (sym takes)
                (inl (refl, (fits_gives told took t fit).ops_are))));
          }
            where
              fit : Fits told took t
              fit = own_fit same opened

              takes : took_then ≡ asked.op ∷ took
              takes =
                  ap (λ b. cons_option (asked_by tx b) took) is
                  ∙ ap (λ (b : Bool). cons_option (if b then Some asked.op else None) took) same

          module _ (same : same_tx u tx ≡ true) (opened : is_open t.phase ≡ true) where
            counted : count_by (is_open_of tx) s.live
                ≡ count_by (is_open_of tx) split.front + (1 + count_by (is_open_of tx) split.back)
            counted =
                ap (count_by (is_open_of tx)) split.is
                ∙ count_between (is_open_of tx) split.front (u, t) split.back
                ∙ ap (λ (b : Bool). count_by (is_open_of tx) split.front +
                (one_if b + count_by (is_open_of tx) split.back))
                (ap (λ (b : Bool). b && is_open t.phase) same ∙ opened)

            -- it never asked for an epoch, and has begun
            none_gave : gave ≡ []
            none_gave = by gave few
              where
                by : (list : List (List (Op × Answer)))
                    → length list + (one_if (nat_le s.next_seq tx.seq) + count_by (is_open_of tx) s.live) ≤ 1
                    → list ≡ []
                by [] few = refl
                by (one ∷ list) few = absurd (omega (arith, few, counted))

            born : nat_le s.next_seq tx.seq ≡ true → ⊥
            born is = omega (arith, few, counted, ap one_if is)

            -- all others are of other numbers
            apart : (heard : List Answer) (had : List Op) (e : TxId × Transaction) → same_tx e.0 u ≡ false
                → IsFit heard had e
            apart heard had e off is opened =
                absurd (let both : true ≡ false =
                sym is ∙ (ap (same_tx e.0) (sym (same_tx-is u tx same)) ∙ off) in cc)

            others_front : (heard : List Answer) (had : List Op) → Each (IsFit heard had) split.front
            others_front heard had =
                each_map (λ (x : TxId × Transaction). same_tx x.0 u ≡ false) (IsFit heard had) split.front
                (apart heard had) (once_front split.front split.back u t (subst KeysOnce split.is once))

            others_back : (heard : List Answer) (had : List Op) → Each (IsFit heard had) split.back
            others_back heard had =
                each_map (λ (x : TxId × Transaction). same_tx x.0 u ≡ false) (IsFit heard had) split.back
                (apart heard had) (once_back split.front split.back u t (subst KeysOnce split.is once))

          -- an operation is answered
          answers_fit : (w : Transaction) (asked : Asked) (answer : Answer) → same_tx u tx ≡ true
              → is_open t.phase ≡ true → t.asked ≡ Some asked → w.ops ≡ t.ops ++ (asked.op, answer) ∷ []
              → w.asked ≡ None → IsFit (answer ∷ told) took_then (u, w)
          answers_fit w asked answer same opened asked_is ops none is now = record {
            answers_are =
                subst (λ ops. AreAmong (answer ∷ told) (newest ops [])) (sym ops)
                (subst (AreAmong (answer ∷ told)) (sym (newest_more t.ops (asked.op, answer) []))
                (inl (refl, fit.answers_are)));
            ops_are =
                subst (λ o. AreAmong (with_asked o (newest_ops w.ops [])) took_then) (sym none)
                (subst (λ ops. AreAmong (newest_ops ops []) took_then) (sym ops)
                (subst (λ list. AreAmong list took_then) (sym (newest_ops_more t.ops (asked.op, answer) []))
                (subst (λ o. AreAmong (with_asked o (newest_ops t.ops [])) took_then) asked_is fit.ops_are)));
          }
            where
              fit : Fits told took_then t
              fit = more_took told took (asked_by tx body) (u, t) own_fit same opened

          turn_says : (turn : Turn) → Talks s.node u t body turn → (b : Bool)
              → Says s.next_seq (live_by turn.step.state b) turn.step.effects.sends
          turn_says turn (rests mute is) b =
              mute_says s.next_seq (live_by turn.step.state b) turn.step.effects.sends mute unborn
              (from_all turn.step.state (IsFit told took_then) (rests_fit turn.step.state is) old_fits b)
          turn_says turn (operates asked is mute opened ops asked_is) b =
              mute_says s.next_seq (live_by turn.step.state b) turn.step.effects.sends mute unborn
              (from_all turn.step.state (IsFit told took_then)
              (operates_fit turn.step.state asked is opened ops asked_is) old_fits b)
          turn_says turn (answers asked answer opened asked_is ops none sends) b =
              subst (Says s.next_seq (live_by turn.step.state b)) (sym sends) (by (same_tx u tx) refl)
            where
              confs : List Outgoing
              confs = to_place client (Client (TcKeyConf u answer)) ∷ []

              by : (own : Bool) → same_tx u tx ≡ own → Says s.next_seq (live_by turn.step.state b) confs
              by false off =
                  says_none s.next_seq (live_by turn.step.state b) confs
                  (ap (λ (c : Bool). cons_option (if c then Some answer else None) told) off) refl unborn
                  (from_all turn.step.state (IsFit told took_then)
                  (λ is now. absurd (let both : true ≡ false = sym is ∙ off in cc)) old_fits b)
              by true same =
                  let told_is : told_then confs ≡ answer ∷ told =
                  ap (λ (c : Bool). cons_option (if c then Some answer else None) told) same in
                  record {
                    unborn = λ is. absurd (born same opened is);
                    fits =
                        subst (λ some. Each (IsFit some took_then) (live_by turn.step.state b)) (sym told_is)
                        (all_of turn.step.state (IsFit (answer ∷ told) took_then)
                        (answers_fit turn.step.state asked answer same opened asked_is ops none)
                        (others_front same opened (answer ∷ told) took_then)
                        (others_back same opened (answer ∷ told) took_then) b);
                    gives = subst (Each (Gives (told_then confs) took_then)) (sym (none_gave same opened)) tt;
                  }
          turn_says turn (asks opened shut sends) b =
              subst (Says s.next_seq (live_by turn.step.state b)) (sym sends) (by (same_tx u tx) refl)
            where
              asking : List Outgoing
              asking = to_place (epochs s.node) (Epoch (DiVerifyReq u t.ops)) ∷ []

              closed : IsFit told took_then (u, turn.step.state)
              closed same now = absurd (let both : true ≡ false = sym now ∙ shut in cc)

              by : (own : Bool) → same_tx u tx ≡ own → Says s.next_seq (live_by turn.step.state b) asking
              by false off =
                  says_none s.next_seq (live_by turn.step.state b) asking refl
                  (ap (λ (c : Bool). cons_option (if c then Some t.ops else None) gave) off) unborn
                  (from_all turn.step.state (IsFit told took_then) closed old_fits b)
              by true same =
                  let gave_is : gave_then asking ≡ t.ops ∷ gave =
                  ap (λ (c : Bool). cons_option (if c then Some t.ops else None) gave) same in
                  record {
                    unborn = unborn;
                    fits = from_all turn.step.state (IsFit told took_then) closed old_fits b;
                    gives =
                        subst (Each (Gives told took_then)) (sym gave_is) (
                          more_gives told took (asked_by tx body) t.ops (fits_gives told took t (own_fit same opened)),
                          old_gives,
                        );
                  }

          pub turned_says : (turn : Turn) → Talks s.node u t body turn → SaysBy (turned s at turn)
          unfolding without
          turned_says turn talks = by turn.over
            where
              by : (b : Bool) → SaysBy (turned_if s at turn b)
              by true =
                  subst (λ live. Says s.next_seq live turn.step.effects.sends) (sym split.gone)
                  (turn_says turn talks true)
              by false =
                  subst (λ live. Says s.next_seq live turn.step.effects.sends) (sym (split.set turn.step.state))
                  (turn_says turn talks false)

        -- one begins, of which nothing was told
        pub begins_says : Each (λ (e : TxId × Transaction). e.0.seq < s.next_seq) s.live → (name : Option ℕ)
            → SaysBy (begin_if s name false)
        begins_says begun_are name =
            mute_says (s.next_seq + 1) (begun s).live (begin_if s name false).effects.sends (refl, tt)
            (λ is. unborn (lower (nat_le s.next_seq tx.seq) refl is))
            (subst (Each (IsFit told took_then)) (sym last)
            (each_append (IsFit told took_then) s.live ((next_tx s, fresh) ∷ []) old_fits (new, tt)))
          where
            last : (begun s).live ≡ s.live ++ (next_tx s, fresh) ∷ []
            last = put_last s.live (next_tx s) fresh (next_is_other s.live (next_tx s) begun_are)

            lower : (b : Bool) → nat_le s.next_seq tx.seq ≡ b → nat_le (s.next_seq + 1) tx.seq ≡ true → b ≡ true
            lower true is above = refl
            lower false is above =
                absurd (omega (arith, leb-true (s.next_seq + 1) tx.seq above, leb-false s.next_seq tx.seq is))

            at_first : same_tx (next_tx s) tx ≡ true → told ≡ []
            at_first same =
                unborn (ap (λ (x : TxId). nat_le s.next_seq x.seq) (sym (same_tx-is (next_tx s) tx same)) ∙ same_below
                s.next_seq)

            new : IsFit told took_then (next_tx s, fresh)
            new same opened = record {
              answers_are = subst (λ some. AreAmong some []) (sym (at_first same)) tt;
              ops_are = tt;
            }
