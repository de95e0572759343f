-- A transaction that goes on, of one key, where its coordinator takes a step.
use Rattle.std.proofs.Common.{◌≡◌, ◌⊎◌, ◌&&◌, ◌++◌, ℕ, Bool, true, false, List, [], ◌∷◌, refl, sym, ap, ◌∙◌, subst, inl}
use Rattle.std.proofs.Common.{inr}
use Rattle.std.proofs.lemmas.Bool.{and_parts}
use Rattle.std.specs.Prelude.{if◌then◌else◌, Option, None, Some}
use Rattle.run_theory.specs.Lists.{Each}
use Rattle.run_theory.proofs.Pasts.{each_map}
use Rattle.world_core.specs.Steps.{Addressed, HostStep}
use Rattle.sig_core.specs.declared.member.Member.{Member}
use Rattle.sig_core.specs.declared.member.TxId.{TxId}
use Rattle.sig_core.specs.declared.op.Answer.{Answer}
use Rattle.sig_core.specs.declared.op.Op.{Op}
use Rattle.sig_core.specs.declared.outs.Outgoing.{Outgoing}
use Rattle.sig_core.specs.declared.place.Place.{Place}
use Rattle.sig_core.specs.declared.signal.Body.{Body}
use Rattle.sig_core.specs.declared.signal.Body.TheVariants.{Chain}
use Rattle.sig_core.specs.declared.signal.chain.ChainSignal.TheVariants.{LqhKeyReq, LqhKeyConf, LqhKeyRef}
use Rattle.sig_core.specs.declared.signal.chain.RowWork.TheVariants.{Operate}
use Rattle.sig_core.specs.Chain.{node_at}
use Rattle.sig_core.specs.Op.{key_of}
use Rattle.sig_core.specs.Place.{coordinator, rows_of}
use Rattle.sig_core.specs.Same.{same_key, same_tx}
use Rattle.sig_core.specs.Step.{to_place}
use Rattle.row_records.proofs.KeyLemmas.{same}
use Rattle.node_core.specs.Requests.{is_request}
use Rattle.tc_block.specs.declared.phase.Asked.{Asked}
use Rattle.tc_block.specs.declared.phase.Phase.TheVariants.{Open, Verifying}
use Rattle.tc_block.specs.declared.transaction.Transaction.{Transaction}
use Rattle.tc_block.specs.Operate.{asked_if, asked_on, fresh}
use Rattle.world_core.specs.Hosts.{first_membership}
use Rattle.world_core.specs.Machine.{sent_count, signals_of, step_after}
use Rattle.world_core.specs.Start.{Start}
use Rattle.sig_core.proofs.Keys.{same_tx-self}
use Rattle.run_laws.specs.Live.{live_at}
use Rattle.run_laws.specs.Tokens.{is_token}
use Rattle.run_laws.specs.Transit.{AreInTransit, Comes, Takes, joined, logs_of}
use Rattle.run_laws.proofs.circle.Kept.{IsGoing, SignalTells, cleared_going, rests_going, sent_going}
use Rattle.run_laws.proofs.circle.Circle.{IsPristine, pristine_as, pristine_settles}
use Rattle.run_laws.proofs.circle.View.{IsAnswered, IsAsked, Settles, Tells, View, settles_as, settles_other}
use Rattle.run_laws.proofs.circle.KeyMoves.{IsLike, host_of, view_before, view_now}
use Rattle.run_laws.proofs.tokens.Signals.{Token, answers, home_is, is_home, performs, put, put_if, refuses, some_if}
use Rattle.run_laws.proofs.tokens.Signals.{token_of, tokens_of}
use Rattle.run_laws.proofs.tokens.OnlyToken.{NoTokens, none_asked}
use Rattle.run_laws.proofs.circle.Turns.{Going, IsDeaf, is_early, notes, operates, rests, verifies}
use Rattle.run_laws.proofs.transit.Lists.{Told, joined_old, none_out, sent_none, takes_more, uncounted}
use Rattle.run_laws.proofs.transit.Weighing.{headed_each, joined_each, each_taken, each_between}

-- the unanswered operation on this key is the unanswered operation
pub asked_is : (a b : Asked) (own : List ℕ) → asked_on (Some a) own ≡ Some b
    → (a ≡ b) × (same_key (key_of a.op) own ≡ true)
asked_is a b own is = by (same_key (key_of a.op) own) is
  where
    by : (c : Bool) → asked_if a c ≡ Some b → (a ≡ b) × (c ≡ true)
    by true is = (cc, refl)
    by false is = absurd cc

-- a request of the shell is no part of an operation
token_given : (tx : TxId) (key : List ℕ) (to : Place) (body : Body) (token : Token)
    → token_of tx key to body ≡ Some token → is_request body ≡ false
token_given tx key to (Chain (LqhKeyReq v work chain at)) token is = refl
token_given tx key to (Chain (LqhKeyConf v own answer)) token is = refl
token_given tx key to (Chain (LqhKeyRef v own why)) token is = refl
token_given tx key to _ token is = absurd cc

module _ (start : Start) (key : List ℕ) where
  -- an operation on the key is answered by a signal on it
  asked_contra : (t : Transaction) (op : Op) (own : List ℕ) → IsAsked start key t op → own ≡ key
      → (t.phase ≡ Verifying → t.asked ≡ None) → (asked_on t.asked own ≡ None) ⊎ (t.phase ≡ Verifying) → ⊥
  asked_contra t op own asks here closed (inl none) = some_none
      (sym (ap (λ o. asked_on o own) asks.is ∙ ap (asked_if asks.asked)
      (ap (same_key (key_of asks.asked.op)) here ∙ ap (λ op. same_key (key_of op) key) asks.op_is ∙ asks.here))
      ∙ none)
    where
      some_none : Some asks.asked ≡ None → ⊥
      some_none is = cc
  asked_contra t op own asks here closed (inr verifying) = some_none (sym asks.is ∙ closed verifying)
    where
      some_none : Some asks.asked ≡ None → ⊥
      some_none is = cc

  -- where a part of an operation is taken that answers none the key is settled
  deaf_settles : (tx : TxId) (h : ℕ) (v : View) (t : Transaction) (body : Body) (token : Token) → IsDeaf t body
      → token_of tx key (coordinator h) body ≡ Some token → Tells start key v t token
      → (t.phase ≡ Verifying → t.asked ≡ None) → Settles start key v t.ops
  deaf_settles tx h v t (Chain (LqhKeyReq w what chain at)) token deaf is tells closed = absurd cc
  deaf_settles tx h v t (Chain (LqhKeyConf w own answer)) token deaf is tells closed =
      let parts = some_if (is_home w (coordinator h) && (same_tx w tx && same_key own key)) (answers answer) token is in
      let here = (and_parts (same_tx w tx) (same_key own key)
      (and_parts (is_home w (coordinator h)) (same_tx w tx && same_key own key) parts.0).1).1 in
      let answered = subst (Tells start key v t) (sym parts.1) tells in
      absurd (asked_contra t answered.op own answered.asks (same own key here) closed deaf)
  deaf_settles tx h v t (Chain (LqhKeyRef w own why)) token deaf is tells closed =
      let parts = some_if (is_home w (coordinator h) && (same_tx w tx && same_key own key)) refuses token is in
      let here = (and_parts (same_tx w tx) (same_key own key)
      (and_parts (is_home w (coordinator h)) (same_tx w tx && same_key own key) parts.0).1).1 in
      by (same own key here) (subst (Tells start key v t) (sym parts.1) tells)
    where
      by : own ≡ key → Tells start key v t refuses → Settles start key v t.ops
      by here (inl asked) = absurd (asked_contra t asked.op own asked.asks here closed deaf)
      by here (inr settled) = settled
  deaf_settles tx h v t _ token deaf is tells closed = absurd cc

module _ (start : Start) (es : List HostStep) (e : HostStep) (tx : TxId) (key : List ℕ) (come : Comes start es e)
    (before between : List Addressed) (transit : AreInTransit start es before)
    (takes : Takes e before between) (home : e.step.taken.to ≡ coordinator tx.tc)
    (quiet : IsLike (view_before start es e tx key) (view_now start es e tx key)) where
  abbrev n : ℕ
  n = host_of start es e tx key

  abbrev sends : List Outgoing
  sends = (step_after start n (logs_of start es n) e).effects.sends

  abbrev sent : List Addressed
  sent = signals_of start n (logs_of start es n) e

  abbrev v : View
  v = view_before start es e tx key

  abbrev w : View
  w = view_now start es e tx key

  transit_now : AreInTransit start (e ∷ es) (joined sent between)
  transit_now = (before, (transit, record { between = between; takes = takes; is = refl }))

  taken_is : token_of tx key e.step.taken.to e.step.taken.body ≡ token_of tx key (coordinator tx.tc) e.step.taken.body
  taken_is = ap (λ to. token_of tx key to e.step.taken.body) home

  -- no part is sent, and the key is settled where one is taken
  pub rest_goes : (t : Transaction) → IsGoing start tx key v t before → tokens_of tx key sends ≡ []
      → (token_of tx key e.step.taken.to e.step.taken.body ≡ None) ⊎ Settles start key v t.ops
      → IsGoing start tx key w t (joined sent between)
  rest_goes t going none taken = rests_going start tx key v w t e before between takes (first_membership start) n
      e.step.stamp (sent_count start n (logs_of start es n)) sends going quiet taken none

  -- it rests
  deaf_goes : (t : Transaction) → IsGoing start tx key v t before → tokens_of tx key sends ≡ []
      → IsDeaf t e.step.taken.body → IsGoing start tx key w t (joined sent between)
  deaf_goes t going none deaf = rest_goes t going none (by (token_of tx key (coordinator tx.tc) e.step.taken.body) refl)
    where
      by : (o : Option Token) → token_of tx key (coordinator tx.tc) e.step.taken.body ≡ o
          → (token_of tx key e.step.taken.to e.step.taken.body ≡ None) ⊎ Settles start key v t.ops
      by None is = inl (taken_is ∙ is)
      by (Some token) is =
          inr (deaf_settles start key tx tx.tc v t e.step.taken.body token deaf is
          (subst (Told tx key (Tells start key v t)) (taken_is ∙ is)
          (each_taken (SignalTells start tx key v t) e before between
          (token_given tx key (coordinator tx.tc) e.step.taken.body token is) takes going.signals))
          going.asked)

  -- nothing is asked before it
  module _ (t : Transaction) (live : live_at start (logs_of start es) tx ≡ Some t) (early : is_early t.phase ≡ true)
      (going : IsGoing start tx key v t before) (none : t.asked ≡ None) where
    zero : NoTokens tx key start es come.before before transit t live early
    zero = none_asked tx key start es come.before before transit t live early none

    -- then the key is settled
    idle_settles : Settles start key w t.ops
    idle_settles =
        settles_as start key v w t.ops quiet.likewise
        (going.settled
        (each_map (λ (x : Addressed). is_token tx x.signal.body ≡ false)
        (λ (x : Addressed). token_of tx key x.signal.to x.signal.body ≡ None) before
        (λ x off. uncounted tx key x.signal.to x.signal.body off) zero.signals) zero.waits)

    -- an operation is sent
    operate_goes : (u : Transaction) (op : Op) (chain : List Member) → u.ops ≡ t.ops
        → u.asked ≡ Some (record { op = op; chain = chain }) → u.phase ≡ Open
        → sends ≡ to_place (rows_of (node_at chain 0)) (Chain (LqhKeyReq tx (Operate op) chain 0)) ∷ []
        → IsGoing start tx key w u (joined sent between)
    operate_goes u op chain ops_is asked_is phase_is sends_is = by (same_key (key_of op) key) refl
      where
        closed : u.phase ≡ Verifying → u.asked ≡ None
        closed verifying = absurd (let both : Open ≡ Verifying = sym phase_is ∙ verifying in cc)

        settled : Settles start key w u.ops
        settled = subst (Settles start key w) (sym ops_is) idle_settles

        left : Each (λ (x : Addressed). is_token tx x.signal.body ≡ false) between
        left = each_between (λ (x : Addressed). is_token tx x.signal.body ≡ false) e before between takes zero.signals

        waits : (g : ℕ) → w.waits g ≡ []
        waits g = quiet.waits g ∙ zero.waits g

        tokens : (b : Bool) → same_key (key_of op) key ≡ b
            → tokens_of tx key sends ≡ (if b then performs (Operate op) 0 ∷ [] else [])
        tokens b e = ap (tokens_of tx key) sends_is
            ∙ ap (λ c. put (if c && same_key (key_of op) key then Some (performs (Operate op) 0) else None) [])
            (same_tx-self tx)
            ∙ ap (λ c. put (if c then Some (performs (Operate op) 0) else None) []) e
            ∙ put_if b (performs (Operate op) 0) []

        by : (b : Bool) → same_key (key_of op) key ≡ b → IsGoing start tx key w u (joined sent between)
        by true here =
            sent_going start tx key w u between (first_membership start) n e.step.stamp
            (sent_count start n (logs_of start es n)) sends (performs (Operate op) 0) closed (tokens true here) left
            waits
            (settled, record { asked = record { op = op; chain = chain }; is = asked_is; op_is = refl; here = here })
        by false off =
            cleared_going start tx key w u (joined sent between) closed
            (joined_each (λ (x : Addressed). token_of tx key x.signal.to x.signal.body ≡ None) sent between
            (headed_each (λ to body. token_of tx key to body ≡ None) (first_membership start) n e.step.stamp
            (sent_count start n (logs_of start es n)) sends (sent_none tx key sends (tokens false off)))
            (each_map (λ (x : Addressed). is_token tx x.signal.body ≡ false)
            (λ (x : Addressed). token_of tx key x.signal.to x.signal.body ≡ None) between
            (λ x off. uncounted tx key x.signal.to x.signal.body off) left))
            waits settled

  -- nothing is asked behind it
  module _ (u : Transaction) (live : live_at start (logs_of start (e ∷ es)) tx ≡ Some u)
      (early : is_early u.phase ≡ true) (none : u.asked ≡ None) where
    then : NoTokens tx key start (e ∷ es) come.now (joined sent between) transit_now u live early
    then = none_asked tx key start (e ∷ es) come.now (joined sent between) transit_now u live early none

    none_then : Each (λ (x : Addressed). token_of tx key x.signal.to x.signal.body ≡ None) (joined sent between)
    none_then =
        each_map (λ (x : Addressed). is_token tx x.signal.body ≡ false)
        (λ (x : Addressed). token_of tx key x.signal.to x.signal.body ≡ None) (joined sent between)
        (λ x off. uncounted tx key x.signal.to x.signal.body off) then.signals

    idle_goes : Settles start key w u.ops → IsGoing start tx key w u (joined sent between)
    idle_goes settled =
        cleared_going start tx key w u (joined sent between) (λ verifying. none) none_then then.waits settled

    -- an answer is noted
    note_goes : (t : Transaction) (asked : Asked) (answer : Answer) (own : List ℕ) → IsGoing start tx key v t before
        → e.step.taken.body ≡ Chain (LqhKeyConf tx own answer) → asked_on t.asked own ≡ Some asked
        → u.ops ≡ t.ops ++ (asked.op, answer) ∷ [] → IsGoing start tx key w u (joined sent between)
    note_goes t asked answer own going body_is on ops_is =
        idle_goes (subst (Settles start key w) (sym ops_is) (by (same_key own key) refl))
      where
        token : (b : Bool) → same_key own key ≡ b
            → token_of tx key e.step.taken.to e.step.taken.body ≡ (if b then Some (answers answer) else None)
        token b e_is =
            taken_is ∙ ap (token_of tx key (coordinator tx.tc)) body_is
            ∙ (λ i. if home_is tx i && (same_tx-self tx i && e_is i) then Some (answers answer) else None)

        from : (o : Option Asked) → t.asked ≡ o → asked_on o own ≡ Some asked
            → (t.asked ≡ Some asked) × (same_key (key_of asked.op) own ≡ true)
        from None is on = absurd cc
        from (Some a) is on =
            let parts = asked_is a asked own on in
            (is ∙ ap (λ a. Some a) parts.0, ap (λ (a : Asked). same_key (key_of a.op) own) (sym parts.0) ∙ parts.1)

        asks : (t.asked ≡ Some asked) × (same_key (key_of asked.op) own ≡ true)
        asks = from t.asked refl on

        by : (b : Bool) → same_key own key ≡ b → Settles start key w (t.ops ++ (asked.op, answer) ∷ [])
        by true here =
            told (subst (Told tx key (Tells start key v t)) (token true here)
            (each_taken (SignalTells start tx key v t) e before between (ap is_request body_is) takes going.signals))
          where
            told : IsAnswered start key v t answer → Settles start key w (t.ops ++ (asked.op, answer) ∷ [])
            told a =
                let one : a.asks.asked ≡ asked = some (sym a.asks.is ∙ asks.0) in
                let op_is : asked.op ≡ a.op = ap (λ (a : Asked). a.op) (sym one) ∙ a.asks.op_is in
                settles_as start key v w (t.ops ++ (asked.op, answer) ∷ []) quiet.likewise
                (subst (λ op. Settles start key v (t.ops ++ (op, answer) ∷ [])) (sym op_is) a.settles)
              where
                some : Some a.asks.asked ≡ Some asked → a.asks.asked ≡ asked
                some is = cc
        by false off =
            settles_as start key v w (t.ops ++ (asked.op, answer) ∷ []) quiet.likewise
            (settles_other start key v t.ops (asked.op, answer)
            (ap (λ k. same_key k key) (same (key_of asked.op) own asks.1) ∙ off)
            (going.settled
            (takes_more (λ (x : Addressed). token_of tx key x.signal.to x.signal.body ≡ None) e before between takes
            (joined_old (λ (x : Addressed). token_of tx key x.signal.to x.signal.body ≡ None) sent between
            none_then) (token false off))
            (λ g. sym (quiet.waits g) ∙ then.waits g)))

  -- a row of the coordinator
  pub row_goes : (t u : Transaction) → live_at start (logs_of start es) tx ≡ Some t
      → live_at start (logs_of start (e ∷ es)) tx ≡ Some u → is_early u.phase ≡ true
      → (is_early t.phase ≡ true → IsGoing start tx key v t before) → Going tx e.step.taken.body t u sends
      → IsGoing start tx key w u (joined sent between)
  row_goes t u live now early going (rests same_is none deaf) =
      subst (λ x. IsGoing start tx key w x (joined sent between)) (sym same_is)
      (deaf_goes t (going (ap (λ (x : Transaction). is_early x.phase) (sym same_is) ∙ early))
      (none_out tx key sends none) deaf)
  row_goes t u live now early going (operates op chain asked_none opened ops_is asked_is phase_is sends_is) =
      operate_goes t live (ap is_early opened) (going (ap is_early opened)) asked_none u op chain ops_is asked_is
      phase_is sends_is
  row_goes t u live now early going (notes asked answer own body_is on opened ops_is asked_none phase_is none) =
      note_goes u now early asked_none t asked answer own (going (ap is_early opened)) body_is on ops_is
  row_goes t u live now early going (verifies asked_none opened ops_is still_none phase_is none) =
      idle_goes u now early still_none (subst (Settles start key w) (sym ops_is)
      (idle_settles t live (ap is_early opened) (going (ap is_early opened)) asked_none))

  -- it begins
  pub begin_goes : (u : Transaction) → live_at start (logs_of start (e ∷ es)) tx ≡ Some u → is_early u.phase ≡ true
      → fresh ≡ u → IsPristine v → IsGoing start tx key w u (joined sent between)
  begin_goes u now early is pristine =
      idle_goes u now early (ap (λ (x : Transaction). x.asked) (sym is))
      (subst (Settles start key w) (ap (λ (x : Transaction). x.ops) is)
      (pristine_settles start key w (pristine_as v w quiet.likewise pristine)))
