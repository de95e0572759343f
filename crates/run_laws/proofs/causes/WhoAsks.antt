-- What asks for an epoch is of a transaction that waits for it with these operations, unless it is given up.
use Rattle.std.proofs.Common.{◌≡◌, ◌≢◌, ◌⊎◌, ℕ, ◌+◌, ◌≤◌, List, [], ◌∷◌, Bool, true, false, refl, sym, ap, ◌∙◌, subst}
use Rattle.std.proofs.Common.{inl, inr, arith}
use Rattle.std.proofs.lemmas.Bool.{cases_eq}
use Rattle.std.specs.List.{list_any}
use Rattle.std.specs.Prelude.{Option, None, Some}
use Rattle.run_theory.specs.Lists.{Each, IsIn}
use Rattle.run_theory.proofs.Pasts.{each_from, each_in, each_map}
use Rattle.run_theory.proofs.Runs.{log_of-own, log_of-past}
use Rattle.world_core.specs.Steps.{Addressed, HostStep}
use Rattle.sig_core.specs.declared.member.TxId.{TxId}
use Rattle.sig_core.specs.declared.op.Answer.{Answer}
use Rattle.sig_core.specs.declared.op.Op.{Op}
use Rattle.sig_core.specs.declared.outs.Outgoing.{Outgoing}
use Rattle.sig_core.specs.declared.signal.Body.{Body}
use Rattle.sig_core.specs.declared.signal.Body.TheVariants.{Epoch}
use Rattle.sig_core.specs.declared.signal.epoch.EpochSignal.TheVariants.{DiVerifyReq, DiVerifyConf}
use Rattle.sig_core.specs.Same.{same_tx}
use Rattle.tc_block.specs.Abort.{is_verifying}
use Rattle.tc_block.specs.declared.phase.Phase.{Phase}
use Rattle.tc_block.specs.declared.phase.Phase.TheVariants.{Open, Verifying, Committing, Completing, Aborting}
use Rattle.tc_block.specs.declared.transaction.Transaction.{Transaction}
use Rattle.tc_block.specs.Operate.{fresh}
use Rattle.tc_block.specs.Tc.{next_tx}
use Rattle.tc_block.specs.Turn.{Turn, at_phase}
use Rattle.node_core.specs.declared.host.Host.{Host}
use Rattle.node_core.specs.Blocks.{has_tc, tc_of}
use Rattle.node_core.specs.Requests.{is_request}
use Rattle.node_core.specs.Row.{row}
use Rattle.world_core.specs.Machine.{after, machine, signals_of, step_after}
use Rattle.world_core.specs.Hosts.{home}
use Rattle.world_core.specs.Start.{Start}
use Rattle.host_laws.specs.Ways.{back_by, sent_ways, tc_sends}
use Rattle.sig_core.proofs.Keys.{same_tx-self}
use Rattle.host_laws.proofs.hosts.BlocksAlong.{first_live}
use Rattle.run_theory.specs.Counts.{one_if}
use Rattle.run_laws.specs.Circle.{IsOfWaiting, WaitsWith, WhoAsksWaits}
use Rattle.run_laws.specs.GivenUp.{is_given_up}
use Rattle.run_laws.specs.Live.{live_at, of_host}
use Rattle.run_laws.specs.Transit.{AreInTransit, Comes, IsRun, Takes, joined, logs_of}
use Rattle.run_laws.proofs.causes.Hosts as asks
use Rattle.run_laws.proofs.causes.Hosts.{HostAsks, Leaves, OpsOf, host_asks, none_ops, zero_ops}
use Rattle.run_laws.proofs.hosts.HomeSteps.{IsHome, IsUnborn, all_home, here_now, here_was, own_home, live_leaves}
use Rattle.run_laws.proofs.hosts.HomeSteps.{unborn_leaves}
use Rattle.host_laws.proofs.coordinator.Steps.{live_none, left_of_turn}
use Rattle.host_laws.specs.Live.{of_live}
use Rattle.run_laws.proofs.hosts.LiveAfter.{strange_none, unborn_none}
use Rattle.run_laws.proofs.causes.Turns.{AreMute, AskTurn, IsAsking, ask, is_ask, is_conf, mute_none}
use Rattle.run_laws.proofs.circle.Turns.{Going, GoesOn, is_early, notes, operates, rests, verifies}
use Rattle.run_laws.proofs.tokens.Coordinator.{now_given_up}
use Rattle.run_laws.proofs.tokens.Turns.{gives_up}
use Rattle.run_laws.proofs.transit.Transit.{along_transit}
use Rattle.run_laws.proofs.ways.Ways.{given_more}
use Rattle.run_laws.proofs.transit.Weighing.{each_between, each_joins, in_sends, in_transit, joins_weigh, none_weighs}
use Rattle.run_laws.proofs.transit.Weighing.{takes_weigh, weigh}

verifying_is : (phase : Phase) → is_verifying phase ≡ true → phase ≡ Verifying
verifying_is Verifying is = refl
verifying_is Open is = absurd cc
verifying_is (Committing epoch awaited) is = absurd cc
verifying_is (Completing epoch awaited) is = absurd cc
verifying_is (Aborting why verifying awaited) is = absurd cc

no_request : (tx : TxId) (body : Body) → is_request body ≡ true → one_if (is_ask tx body) ≡ 0
no_request tx (Epoch (DiVerifyReq other ops)) is = absurd cc
no_request tx (Epoch (DiVerifyConf other epoch)) is = absurd cc
no_request tx _ is = refl

conf_asks : (tx : TxId) (body : Body) → is_conf tx body ≡ true → is_ask tx body ≡ true
conf_asks tx (Epoch (DiVerifyConf other epoch)) is = is
conf_asks tx _ is = absurd cc

weigh_in : {A : Type 0} (f : A → ℕ) (x : A) (xs : List A) → IsIn x xs → f x ≤ weigh f xs
weigh_in f x [] i = absurd i
weigh_in f x (y ∷ ys) (inl same) = omega (arith, ap f same)
weigh_in f x (y ∷ ys) (inr i) = omega (arith, weigh_in f x ys i)

module _ (start : Start) (tx : TxId) where
  -- so many signals ask for an epoch for it or give it one
  abbrev asking : List Addressed → ℕ
  asking xs = in_transit (ask tx) xs

  -- it waits for its epoch: one is on its way at most, asked for with its operations
  record IsWaiting (t : Transaction) (xs : List Addressed) : Type 0 where
    few : asking xs ≤ 1
    free : t.asked ≡ None
    ops : Each (λ (x : Addressed). OpsOf tx t.ops x.signal.body) xs

  record IsAllowed (t : Transaction) (xs : List Addressed) : Type 0 where
    waits : t.phase ≡ Verifying → IsWaiting t xs
    none : is_verifying t.phase ≡ false → asking xs ≡ 0

  abbrev Allowed : Option Transaction → List Addressed → Type 0
  Allowed None xs = asking xs ≡ 0
  Allowed (Some t) xs = IsAllowed t xs

  record Holds (logs : ℕ → List HostStep) (xs : List Addressed) : Type 0 where
    unborn : IsUnborn tx (after start (home start tx) (logs (home start tx))) → asking xs ≡ 0
    free : is_given_up start logs tx ≡ false → Allowed (live_at start logs tx) xs

  -- fewer signals are allowed too
  less_allowed : (o : Option Transaction) (xs ys : List Addressed) → asking ys ≤ asking xs
      → ((ops : List (Op × Answer)) → Each (λ (x : Addressed). OpsOf tx ops x.signal.body) xs → Each
      (λ (x : Addressed). OpsOf tx ops x.signal.body) ys) → Allowed o xs → Allowed o ys
  less_allowed None xs ys low more is = omega (arith, low, is)
  less_allowed (Some t) xs ys low more is = record {
    waits = λ v. let w = is.waits v in record {
      few = omega (arith, low, w.few);
      free = w.free;
      ops = more t.ops w.ops;
    };
    none = λ off. omega (arith, low, is.none off);
  }

  module _ (es : List HostStep) (e : HostStep) (before between : List Addressed) (come : Comes start es e)
      (held : Holds (logs_of start es) before) (takes : Takes e before between) where
    abbrev h : ℕ
    h = e.host

    abbrev old : ℕ → List HostStep
    old = logs_of start es

    abbrev now : ℕ → List HostStep
    now = logs_of start (e ∷ es)

    abbrev s : Host
    s = after start h (old h)

    abbrev later : Host
    later = (row s e.step.taken).state

    abbrev sends : List Outgoing
    sends = (step_after start h (old h) e).effects.sends

    abbrev then_is : List Addressed
    then_is = joined (signals_of start h (old h) e) between

    own_now : now h ≡ e ∷ old h
    own_now = log_of-own (machine start) e es h refl

    taken_weighs : asking before ≡ one_if (is_ask tx e.step.taken.body) + asking between
    taken_weighs = takes_weigh (ask tx) e before between (λ is. no_request tx e.step.taken.body is) takes

    now_weighs : asking then_is ≡ in_sends (ask tx) sends + asking between
    now_weighs = joins_weigh (ask tx) start h (old h) e between

    -- who isn't given up now wasn't before
    not_before : is_given_up start now tx ≡ false → is_given_up start old tx ≡ false
    not_before off = by (is_given_up start old tx) refl
      where
        by : (b : Bool) → is_given_up start old tx ≡ b → is_given_up start old tx ≡ false
        by false is = is
        by true is = absurd (let both : true ≡ false = sym (given_more start old now tx
            (λ g. log_of-past (machine start) e es g) is) ∙ off in cc)

    ops_now : (ops : List (Op × Answer)) → Each (λ (o : Outgoing). OpsOf tx ops o.body) sends
        → Each (λ (x : Addressed). OpsOf tx ops x.signal.body) between
        → Each (λ (x : Addressed). OpsOf tx ops x.signal.body) then_is
    ops_now ops sent rest = each_joins (λ to body. OpsOf tx ops body) start h (old h) e between sent rest

    none_between : (ops : List (Op × Answer)) → asking between ≡ 0
        → Each (λ (x : Addressed). OpsOf tx ops x.signal.body) between
    none_between ops none =
        each_map (λ (x : Addressed). ask tx x.signal.to x.signal.body ≡ 0)
        (λ (x : Addressed). OpsOf tx ops x.signal.body) between (λ x is. zero_ops tx ops x.signal.body is)
        (none_weighs (λ (x : Addressed). ask tx x.signal.to x.signal.body) between none)

    abbrev at_home : ℕ
    at_home = home start tx

    -- a step that leaves it alone
    leaves_hold : Leaves tx s e.step.taken.body later sends → Holds now then_is
    leaves_hold is = record {
      unborn = λ low. omega (arith, fewer, held.unborn (unborn_leaves start es e come tx is.unborn low));
      free = λ off. subst (λ o. Allowed o then_is) (sym (live_leaves start es e come tx is.live))
          (less_allowed (live_at start old tx) before then_is fewer
          (λ ops all. ops_now ops (is.passes.ops ops)
          (each_between (λ (x : Addressed). OpsOf tx ops x.signal.body) e before between takes all))
          (held.free (not_before off)));
    }
      where
        fewer : asking then_is ≤ asking before
        fewer = omega (arith, taken_weighs, now_weighs, is.passes.few)

    -- its beginning
    begun_holds : has_tc s ≡ true → next_tx (tc_of s) ≡ tx → of_host tx later ≡ Some fresh → in_sends (ask tx) sends ≡ 0
        → Holds now then_is
    begun_holds runs next live none = record {
      unborn = λ low. nothing;
      free = λ off. subst (λ o. Allowed o then_is) (sym (ap (of_host tx) (here_now start es e come tx its_home) ∙ live))
          (record { waits = λ v. absurd cc; none = λ open_is. nothing });
    }
      where
        its_home : h ≡ at_home
        its_home = own_home start es e come tx runs (ap (λ (v : TxId). v.tc) (sym next))

        low : IsUnborn tx s
        low = omega (arith, ap (λ (v : TxId). v.seq) next)

        nothing : asking then_is ≡ 0
        nothing = omega (
          arith,
          taken_weighs,
          now_weighs,
          none,
          held.unborn
              (subst (IsUnborn tx) (sym (here_was start es e come tx its_home)) low),
        )

    -- a turn of it
    module _ (runs : has_tc s ≡ true) (t : Transaction) (turn : Turn) (was : of_host tx s ≡ Some t)
        (live : of_host tx later ≡ left_of_turn turn) (sent : sends ≡ turn.step.effects.sends)
        (said : tc_sends s e.step.taken ≡ turn.step.effects.sends) (unborn_was : IsUnborn tx later → IsUnborn tx s)
        (ask_turn : AskTurn tx e.step.taken.body t turn) (goes : GoesOn tx e.step.taken.body t turn) where
      home_is : IsHome tx (tc_of s)
      home_is = all_home start tx h (old h)

      not_none : of_host tx s ≡ None → ⊥
      not_none none = let both : None ≡ Some t = sym none ∙ was in cc

      its_home : h ≡ at_home
      its_home = by (cases_eq tx.tc (tc_of s).node)
        where
          by : (tx.tc ≡ (tc_of s).node) ⊎ (tx.tc ≢ (tc_of s).node) → h ≡ at_home
          by (inl at) = own_home start es e come tx runs at
          by (inr off) = absurd (not_none (live_none tx (tc_of s).live
              (strange_none tx (tc_of s).node (tc_of s).next_seq (tc_of s).live home_is.own off)))

      born : IsUnborn tx later → ⊥
      born low = not_none (live_none tx (tc_of s).live (unborn_none tx (tc_of s).node (tc_of s).next_seq (tc_of s).live
          home_is.own (unborn_was low)))

      -- if it isn't given up
      module _ (off : is_given_up start now tx ≡ false) where
        allowed : IsAllowed t before
        allowed =
            subst (λ o. Allowed o before) (ap (of_host tx) (here_was start es e come tx its_home) ∙ was)
            (held.free (not_before off))

        no_back : gives_up tx turn.step.effects.sends ≡ true → ⊥
        no_back goes_back =
            let given : list_any (same_tx tx) (sent_ways start back_by h (e ∷ old h)) ≡ true =
            now_given_up tx (tc_sends s e.step.taken) (sent_ways start back_by h (old h))
            (subst (λ w. gives_up tx w ≡ true) (sym said) goes_back) in
            let up : is_given_up start now tx ≡ true =
            subst (λ k. list_any (same_tx tx) (sent_ways start back_by k (now k)) ≡ true) its_home
            (subst (λ log. list_any (same_tx tx) (sent_ways start back_by h log) ≡ true) (sym own_now) given) in
            let both : true ≡ false = sym up ∙ off in cc

        mute_weighs : AreMute turn.step.effects.sends → in_sends (ask tx) sends ≡ 0
        mute_weighs mute = ap (in_sends (ask tx)) sent ∙ mute_none tx turn.step.effects.sends mute

        -- one that waited goes on to wait, or nothing is left
        waited : t.phase ≡ Verifying → AreMute turn.step.effects.sends
            → (left_of_turn turn ≡ Some t) ⊎ (asking then_is ≡ 0)
        waited v mute = by (ask_turn.late v (allowed.waits v).free)
          where
            by : (left_of_turn turn ≡ Some t)
                ⊎ ((is_conf tx e.step.taken.body ≡ true) ⊎ (gives_up tx turn.step.effects.sends ≡ true))
                → (left_of_turn turn ≡ Some t) ⊎ (asking then_is ≡ 0)
            by (inl stays) = inl stays
            by (inr (inl conf)) = inr (omega (
              arith,
              taken_weighs,
              now_weighs,
              mute_weighs mute,
              (allowed.waits v).few,
              ap one_if (conf_asks tx e.step.taken.body conf),
            ))
            by (inr (inr goes_back)) = absurd (no_back goes_back)

        -- where it doesn't wait any more nothing is left
        none_left : AreMute turn.step.effects.sends
            → ((u : Transaction) → left_of_turn turn ≡ Some u → is_verifying u.phase ≡ false) → asking then_is ≡ 0
        none_left mute ended = by (is_verifying t.phase) refl
          where
            by : (b : Bool) → is_verifying t.phase ≡ b → asking then_is ≡ 0
            by false rest = omega (arith, taken_weighs, now_weighs, mute_weighs mute, allowed.none rest)
            by true v = which (waited (verifying_is t.phase v) mute)
              where
                which : (left_of_turn turn ≡ Some t) ⊎ (asking then_is ≡ 0) → asking then_is ≡ 0
                which (inl stays) = absurd (let both : true ≡ false = sym v ∙ ended t stays in cc)
                which (inr none) = none

        asked_now : (a : IsAsking tx t turn) → IsAllowed (at_phase t Verifying) then_is
        asked_now a = record {
          waits = λ v. record {
            few = omega (arith, taken_weighs, now_weighs, weighs, nothing);
            free = a.free;
            ops = ops_now t.ops (subst (λ w. Each (λ (o : Outgoing). OpsOf tx t.ops o.body) w) (sym (sent ∙ a.is))
                ((λ same. refl), tt)) (none_between t.ops (omega (arith, taken_weighs, nothing)));
          };
          none = λ no_wait. absurd cc;
        }
          where
            nothing : asking before ≡ 0
            nothing = allowed.none (ap is_verifying a.was)

            weighs : in_sends (ask tx) sends ≤ 1
            weighs = omega (arith, ap (in_sends (ask tx)) (sent ∙ a.is), ap one_if (same_tx-self tx))

        mute_waits : AreMute turn.step.effects.sends → (u : Transaction) → left_of_turn turn ≡ Some u
            → u.phase ≡ Verifying → IsWaiting u then_is
        mute_waits mute u left v = by (goes.goes u left (ap is_early v))
          where
            open_waits : u.phase ≡ Open → ⊥
            open_waits o = let both : Open ≡ Verifying = sym o ∙ v in cc

            by : Going tx e.step.taken.body t u turn.step.effects.sends → IsWaiting u then_is
            by (rests same quiet deaf) =
                let w : IsWaiting u before = subst (λ x. IsWaiting x before) (sym same)
                (allowed.waits (ap (λ (x : Transaction). x.phase) (sym same) ∙ v)) in
                record {
                  few = omega (arith, taken_weighs, now_weighs, mute_weighs mute, w.few);
                  free = w.free;
                  ops = ops_now u.ops (none_ops tx u.ops sends (mute_weighs mute))
                      (each_between (λ (x : Addressed). OpsOf tx u.ops x.signal.body) e before between takes w.ops);
                }
            by (operates op chain free open_was ops asked phase sent_is) = absurd (open_waits phase)
            by (notes asked answer own body_is on open_was ops free phase quiet) = absurd (open_waits phase)
            by (verifies free open_was ops asked phase quiet) =
                let nothing : asking before ≡ 0 = allowed.none (ap is_verifying open_was) in
                record {
                  few = omega (arith, taken_weighs, now_weighs, mute_weighs mute, nothing);
                  free = asked;
                  ops = ops_now u.ops (none_ops tx u.ops sends (mute_weighs mute))
                      (none_between u.ops (omega (arith, taken_weighs, nothing)));
                }

        mute_now : AreMute turn.step.effects.sends → (o : Option Transaction) → left_of_turn turn ≡ o
            → Allowed o then_is
        mute_now mute None left = none_left mute (λ u is_u. absurd (let both : None ≡ Some u = sym left ∙ is_u in cc))
        mute_now mute (Some w) left = record {
          waits = λ v. mute_waits mute w left v;
          none = λ rest. none_left mute (λ u is_u. let same : w ≡ u = the_same u (sym left ∙ is_u) in ap
              (λ (x : Transaction). is_verifying x.phase) (sym same) ∙ rest);
        }
          where
            the_same : (u : Transaction) → Some w ≡ Some u → w ≡ u
            the_same u same = cc

        allowed_now : Allowed (left_of_turn turn) then_is
        allowed_now = by ask_turn.sends
          where
            by : AreMute turn.step.effects.sends ⊎ IsAsking tx t turn → Allowed (left_of_turn turn) then_is
            by (inl mute) = mute_now mute (left_of_turn turn) refl
            by (inr a) = subst (λ o. Allowed o then_is) (sym a.left) (asked_now a)

      turned_holds : Holds now then_is
      turned_holds = record {
        unborn = λ low. absurd (born (subst (IsUnborn tx) (here_now start es e come tx its_home) low));
        free = λ off. subst (λ o. Allowed o then_is)
            (sym (ap (of_host tx) (here_now start es e come tx its_home) ∙ live)) (allowed_now off);
      }

    holds_next : Holds now then_is
    holds_next = by (host_asks tx s e.step.taken (all_home start tx h (old h)))
      where
        by : HostAsks tx s e.step.taken later sends → Holds now then_is
        by (asks.leaves is) = leaves_hold is
        by (asks.turned runs t turn was live sent said unborn_was ask_turn goes) =
            turned_holds runs t turn was live sent said unborn_was ask_turn goes
        by (asks.begun runs next live none) = begun_holds runs next live none

  holds_first : Holds (logs_of start []) []
  holds_first = record {
    unborn = λ low. refl;
    free = λ off. subst (λ o. Allowed o [])
        (sym (ap (of_live tx) (first_live start (home start tx)))) refl;
  }

  all_hold : (es : List HostStep) (xs : List Addressed) → IsRun start es → AreInTransit start es xs
      → Holds (logs_of start es) xs
  all_hold es xs run transit =
      along_transit start (λ es xs. Holds (logs_of start es) xs) holds_first
      (λ es e before between come rest held takes. holds_next es e before between come held takes) es xs run transit

  -- whose epoch is asked for waits
  waits_with : (logs : ℕ → List HostStep) (xs : List Addressed) (x : Addressed) (ops : List (Op × Answer))
      → Holds logs xs → IsIn x xs → x.signal.body ≡ Epoch (DiVerifyReq tx ops) → is_given_up start logs tx ≡ false
      → WaitsWith start logs tx ops
  waits_with logs xs x ops holds inside is off = by (live_at start logs tx) refl (holds.free off)
    where
      some : 1 ≤ asking xs
      some = omega (
        arith,
        weigh_in (λ (y : Addressed). ask tx y.signal.to y.signal.body) x xs inside,
        ap
            (λ b. one_if (is_ask tx b)) is,
        ap one_if (same_tx-self tx),
      )

      phase_is : (t : Transaction) → IsAllowed t xs → (b : Bool) → is_verifying t.phase ≡ b → t.phase ≡ Verifying
      phase_is t allowed true v = verifying_is t.phase v
      phase_is t allowed false v = absurd (omega (arith, some, allowed.none v))

      by : (o : Option Transaction) → live_at start logs tx ≡ o → Allowed o xs → WaitsWith start logs tx ops
      by None live none = absurd (omega (arith, some, none))
      by (Some t) live allowed =
          let v = phase_is t allowed (is_verifying t.phase) refl in
          let own : OpsOf tx t.ops x.signal.body =
          each_in (λ (y : Addressed). OpsOf tx t.ops y.signal.body) x xs (allowed.waits v).ops inside in
          record {
            transaction = t;
            live = live;
            phase = v;
            ops_are = sym (subst (OpsOf tx t.ops) is own (same_tx-self tx));
          }

pub who_asks_waits : WhoAsksWaits
who_asks_waits start es xs run transit = each_from
    (λ (x : Addressed). IsOfWaiting start (logs_of start es) x.signal.body) xs
    (λ x inside. by x inside x.signal.body refl)
  where
    by : (x : Addressed) → IsIn x xs → (body : Body) → x.signal.body ≡ body → IsOfWaiting start (logs_of start es) body
    by x inside (Epoch (DiVerifyReq tx ops)) is =
        λ off. waits_with start tx (logs_of start es) xs x ops (all_hold start tx es xs run transit) inside is off
    by x inside _ is = tt
