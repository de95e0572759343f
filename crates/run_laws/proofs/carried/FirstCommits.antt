-- Where a transaction comes to be carried out it is settled for each key that it touched, and so all that is to hold of
-- it then does.
use Rattle.std.proofs.Common.{◌≡◌, ◌≤◌, ◌<◌, ◌+◌, ℕ, Bool, true, false, length, List, [], ◌∷◌, refl, sym, ap, ◌∙◌}
use Rattle.std.proofs.Common.{subst, arith, inl}
use Rattle.std.specs.Prelude.{if◌then◌else◌, None, Some}
use Rattle.run_theory.specs.Lists.{Each}
use Rattle.run_theory.proofs.Pasts.{each_map}
use Rattle.world_core.specs.Steps.{Addressed, HostStep}
use Rattle.sig_core.specs.declared.member.TxId.{TxId}
use Rattle.sig_core.specs.declared.outs.Outgoing.{Outgoing}
use Rattle.sig_core.specs.declared.place.BlockId.TheVariants as block
use Rattle.sig_core.specs.declared.place.Place.{Place}
use Rattle.sig_core.specs.declared.signal.Body.{Body}
use Rattle.sig_core.specs.Chain.{last_place}
use Rattle.sig_core.specs.Step.{Effects}
use Rattle.tc_block.specs.declared.touched.TheConstants.{KEYS}
use Rattle.tc_block.specs.declared.phase.Phase.TheVariants.{Committing, Verifying}
use Rattle.tc_block.specs.declared.touched.Touched.{Touched}
use Rattle.tc_block.specs.declared.transaction.Transaction.{Transaction}
use Rattle.tc_block.specs.Part.{part_effects}
use Rattle.tc_block.specs.Sends.{commit_of, phase_sends}
use Rattle.tc_block.specs.Turn.{Turn, at_phase}
use Rattle.tc_block.specs.State.{TcState}
use Rattle.node_core.proofs.HostCases.{IsTcStep}
use Rattle.node_core.specs.Blocks.{lqh_of, tc_of}
use Rattle.node_core.specs.declared.host.Host.{Host}
use Rattle.node_core.specs.Row.{row}
use Rattle.world_core.specs.Hosts.{home}
use Rattle.world_core.specs.Machine.{after, signals_of, step_after}
use Rattle.world_core.specs.Start.{Start}
use Rattle.key_laws.specs.Primary.{HasPrepared}
use Rattle.key_laws.specs.Replica.{Replica, at_key}
use Rattle.host_laws.specs.ReplicaLaws.{key_in}
use Rattle.host_laws.specs.Ways.{tc_sends}
use Rattle.host_laws.proofs.coordinator.Ways.{not_both}
use Rattle.sig_core.proofs.Keys.{same_tx-self}
use Rattle.run_theory.specs.Counts.{one_if}
use Rattle.run_laws.proofs.hosts.Always.{few_touched}
use Rattle.host_laws.proofs.coordinator.Lives.{IsOwn}
use Rattle.run_laws.specs.Circle.{IsSettled, at_host}
use Rattle.run_laws.specs.Completions.{IsCommittedAtAll}
use Rattle.run_laws.specs.GivenUp.{is_carried_out, is_given_up}
use Rattle.run_laws.specs.Keyed.{IsTouchedRightly, IsWrittenRightly}
use Rattle.run_laws.specs.Live.{live_at, of_host}
use Rattle.run_laws.specs.Routes.{IsTouchedRouted, IsTransactionRouted, primary_host}
use Rattle.run_laws.specs.Transit.{AreInTransit, Comes, Takes, joined, logs_of}
use Rattle.run_laws.proofs.carried.Out.{IsAlong, IsCarried, IsGoing, IsLiveAhead, IsSpread, TellsOf, along_stays}
use Rattle.run_laws.proofs.carried.Begins.{carried_first, carried_silent, given_first, said_silent}
use Rattle.run_laws.proofs.carried.CommitBegins.{Aborts, Begins, turn_begins}
use Rattle.run_laws.proofs.carried.CommitBegins as turn
use Rattle.run_laws.proofs.ways.GivenUp.{none_is_both}
use Rattle.run_laws.proofs.hosts.HomeSteps.{all_home, here_now, here_was, own_home}
use Rattle.run_laws.proofs.hosts.HostAfter.{each_host}
use Rattle.run_laws.proofs.hosts.TxSteps.{TxStep, aside, begins, next_number, number_rises, rows, turns, tx_step}
use Rattle.run_laws.proofs.hosts.Keyed.{log_keyed}
use Rattle.run_laws.proofs.hosts.LiveOf.{of_each}
use Rattle.run_laws.proofs.fades.RowsPass.{lqh_silent}
use Rattle.run_laws.proofs.fades.PartSends.{commits_tell, first_commit, no_commits, part_covers, part_weighs}
use Rattle.run_laws.proofs.fades.Records.{HasRecord}
use Rattle.run_laws.proofs.routes.Routes.{signals_are_routed}
use Rattle.run_laws.proofs.circle.SettledAlong.{settled_along}
use Rattle.run_laws.proofs.fades.Steps.{StepFades, marks_at}
use Rattle.run_laws.proofs.hosts.TcSaid.{tc_silent, tc_speaks}
use Rattle.run_laws.proofs.fades.Signals.{cover, is_part, is_sign, part_tells, part_weight, request_part, sign_part}
use Rattle.run_laws.proofs.fades.Signals.{weight}
use Rattle.run_laws.proofs.hosts.TcOwn.{AreSilent}
use Rattle.tc_block.proofs.TurnRows.{turn_for}
use Rattle.host_laws.proofs.coordinator.Steps.{left_of_turn}
use Rattle.run_laws.proofs.hosts.TxTurns.{is_for}
use Rattle.run_laws.proofs.circle.VerifiedSettled.{verified_settled}
use Rattle.run_laws.proofs.transit.Weighing.{each_joins, in_sends, in_transit, joins_weigh, none_weighs, takes_weigh}
use Rattle.run_laws.proofs.transit.Weighing.{weigh_none}

-- a signal that commits or completes a row of the transaction
abbrev pub part : TxId → Place → Body → ℕ
part tx to b = one_if (is_part tx b)

off_part : (tx : TxId) (b : Body) → one_if (is_part tx b) ≡ 0 → is_part tx b ≡ false
off_part tx b none = by (is_part tx b) refl
  where
    by : (x : Bool) → is_part tx b ≡ x → is_part tx b ≡ false
    by true e = absurd (omega (arith, none, ap one_if e))
    by false e = e

module _ (start : Start) (es : List HostStep) (e : HostStep) (come : Comes start es e) (before between : List Addressed)
    (transit : AreInTransit start es before) (takes : Takes e before between)
    (tx : TxId) (uncarried : is_carried_out start (logs_of start es) tx ≡ false)
    (ungiven : is_given_up start (logs_of start es) tx ≡ false) (none : in_transit (part tx) before ≡ 0) where
  abbrev h : ℕ
  h = e.host

  abbrev at_home : ℕ
  at_home = home start tx

  abbrev g : Host
  g = after start h (logs_of start es h)

  abbrev sends : List Outgoing
  sends = (step_after start h (logs_of start es h) e).effects.sends

  abbrev later : List Addressed
  later = joined (signals_of start h (logs_of start es h) e) between

  out : in_transit (part tx) before ≡ part tx e.step.taken.to e.step.taken.body + in_transit (part tx) between
  out = takes_weigh (part tx) e before between (λ is. ap one_if (request_part tx e.step.taken.body is)) takes

  no_part : is_part tx e.step.taken.body ≡ false
  no_part = off_part tx e.step.taken.body (omega (arith, out, none))

  between_none : Each (λ (x : Addressed). is_part tx x.signal.body ≡ false) between
  between_none =
      each_map (λ (x : Addressed). one_if (is_part tx x.signal.body) ≡ 0)
      (λ (x : Addressed). is_part tx x.signal.body ≡ false) between (λ x z. off_part tx x.signal.body z)
      (none_weighs (λ (x : Addressed). one_if (is_part tx x.signal.body)) between (omega (arith, out, none)))

  -- what the step leaves
  pub record IsFirst : Type 0 where
    pub carried : is_carried_out start (logs_of start (e ∷ es)) tx ≡ true
        → IsCarried start (logs_of start (e ∷ es)) later tx
    pub silent : is_carried_out start (logs_of start (e ∷ es)) tx ≡ false
        → is_given_up start (logs_of start (e ∷ es)) tx ≡ false → in_transit (part tx) later ≡ 0

  later_none : Each (λ (o : Outgoing). is_part tx o.body ≡ false) sends → in_transit (part tx) later ≡ 0
  later_none light =
      omega (
        arith,
        out,
        none,
        joins_weigh (part tx) start h (logs_of start es h) e between,
        weigh_none (λ (o : Outgoing). part tx o.to o.body) sends
            (each_map (λ (o : Outgoing). is_part tx o.body ≡ false) (λ (o : Outgoing). part tx o.to o.body ≡ 0) sends
            (λ o f. ap one_if f) light),
      )

  -- nothing is said of it
  unsaid : Each (λ (o : Outgoing). is_part tx o.body ≡ false) sends
      → is_carried_out start (logs_of start (e ∷ es)) tx ≡ is_carried_out start (logs_of start es) tx → IsFirst
  unsaid light same = record {
    carried = λ now. not_both (is_carried_out start (logs_of start (e ∷ es)) tx) now (same ∙ uncarried);
    silent = λ off free. later_none light;
  }

  light_of : AreSilent tx sends → Each (λ (o : Outgoing). is_part tx o.body ≡ false) sends
  light_of silent =
      each_map (λ (o : Outgoing). is_sign tx o.body ≡ false) (λ (o : Outgoing). is_part tx o.body ≡ false) sends
      (λ o f. sign_part tx o.body f) silent

  quiet_first : AreSilent tx sends → IsFirst
  quiet_first silent =
      unsaid (light_of silent) (carried_silent start es e come tx (said_silent start es e come tx silent))

  told_later : Each (λ (o : Outgoing). TellsOf start (logs_of start (e ∷ es)) tx o.body) sends
      → Each (λ (x : Addressed). TellsOf start (logs_of start (e ∷ es)) tx x.signal.body) later
  told_later sent =
      each_joins (λ to b. TellsOf start (logs_of start (e ∷ es)) tx b) start h (logs_of start es h) e between sent
      (each_map (λ (x : Addressed). is_part tx x.signal.body ≡ false)
      (λ (x : Addressed). TellsOf start (logs_of start (e ∷ es)) tx x.signal.body) between
      (λ x f. part_tells tx (IsSpread start (logs_of start (e ∷ es)) tx)
      (IsCommittedAtAll start (logs_of start (e ∷ es)) tx) x.signal.body f) between_none)

  -- a turn of the transaction
  module _ (t : Transaction) (step : IsTcStep g e.step.taken (row g e.step.taken)) (was : of_host tx g ≡ Some t)
      (own : is_for tx e.step.taken.body ≡ true)
      (sent : sends ≡ (turn_for (tc_of g).node (tc_of g).layout tx e.step.taken.body t).step.effects.sends)
      (left : of_host tx (row g e.step.taken).state ≡ left_of_turn
      (turn_for (tc_of g).node (tc_of g).layout tx e.step.taken.body t)) where
    abbrev s : TcState
    s = tc_of g

    abbrev turn_is : Turn
    turn_is = turn_for s.node s.layout tx e.step.taken.body t

    -- what holds of each of the coordinator's transactions holds of it
    of_is : (P : TxId → Transaction → Type 0) → Each (λ (x : TxId × Transaction). P x.0 x.1) s.live → P tx t
    of_is P all = of_each P tx s.live t all was

    own_is : IsOwn s.node s.next_seq tx
    own_is = of_is (λ one u. IsOwn s.node s.next_seq one) (all_home start tx h (logs_of start es h)).own

    same : h ≡ at_home
    same = own_home start es e come tx step.runs own_is.home

    node_is : s.node ≡ tx.tc
    node_is = sym own_is.home

    live_now : live_at start (logs_of start (e ∷ es)) tx ≡ left_of_turn turn_is
    live_now = ap (of_host tx) (here_now start es e come tx same) ∙ left

    live_was : live_at start (logs_of start es) tx ≡ Some t
    live_was = ap (of_host tx) (here_was start es e come tx same) ∙ was

    old_now : tx.seq < next_number (after start at_home (logs_of start (e ∷ es) at_home))
    old_now =
        subst (λ x. tx.seq < next_number x) (sym (here_now start es e come tx same))
        (omega (arith, number_rises g e.step.taken, own_is.early))

    -- no row is touched
    at_same : (key : List ℕ) (k : ℕ)
        → at_host start (logs_of start (e ∷ es)) key k ≡ at_host start (logs_of start es) key k
    at_same key k =
        each_host start (λ j x. key_in key x ≡ at_host start (logs_of start es) key j) es e (ap (at_key key) step.rows)
        (λ j. refl) k

    fades : StepFades start (logs_of start es) (logs_of start (e ∷ es)) e tx
    fades = record {
      prepared = λ key k p. subst (λ (r : Replica). HasPrepared tx r.cell.pending) (at_same key k) p;
      there = λ key k p. subst (λ (r : Replica). HasRecord tx r.cell.pending) (at_same key k) p;
      at_primary = λ key p. inl
          (subst (λ (r : Replica). HasPrepared tx r.cell.pending) (sym (at_same key (primary_host start key))) p);
      committed = λ key one own_key epoch chain place body_is rows_at same_one same_own p. absurd
          (let other : block.Tc ≡ block.Lqh = sym step.at ∙ rows_at in cc);
      marks = marks_at start es e come tx;
    }

    -- it is settled for each key that it touched
    along : t.phase ≡ Verifying → Each (IsAlong start (logs_of start (e ∷ es)) tx) t.touched
    along phase =
        along_stays start (logs_of start es) (logs_of start (e ∷ es)) e tx fades t.touched (all t.touched routed keyed)
      where
        settled : IsSettled start (logs_of start es) tx t
        settled = verified_settled start es before tx t come.before transit ungiven live_was phase

        routed : Each (IsTouchedRouted start) t.touched
        routed = (of_is (λ one u. IsTransactionRouted start u)
            ((signals_are_routed start es before come.before transit).hosts h).live).touched

        keyed : Each (IsWrittenRightly t.ops) t.touched
        keyed = (of_is (λ one u. IsTouchedRightly u) (log_keyed start h (logs_of start es h))).written

        all : (us : List Touched) → Each (IsTouchedRouted start) us → Each (IsWrittenRightly t.ops) us
            → Each (IsAlong start (logs_of start es) tx) us
        all [] r k = tt
        all (u ∷ us) r k =
            (settled_along start (logs_of start es) tx t.ops u (settled.settled u.key) r.0 k.0, all us r.1 k.1)

    few : length t.touched ≤ KEYS
    few = few_touched start tx h (logs_of start es h) t was

    abbrev PartOf : ℕ → List Outgoing
    PartOf epoch =
        (part_effects s.node tx (phase_sends s.layout tx (Committing epoch (length t.touched)) t.touched) 0).sends

    carries : (epoch : ℕ) → t.phase ≡ Verifying → turn_is.over ≡ false
        → turn_is.step.state ≡ at_phase t (Committing epoch (length t.touched)) → sends ≡ PartOf epoch
        → IsCarried start (logs_of start (e ∷ es)) later tx
    carries epoch phase over st part_is = record {
      old = old_now;
      told = told_later
          (subst (Each (λ (o : Outgoing). TellsOf start (logs_of start (e ∷ es)) tx o.body)) (sym part_is)
          (commits_tell tx s.node s.layout (IsSpread start (logs_of start (e ∷ es)) tx)
          (IsCommittedAtAll start (logs_of start (e ∷ es)) tx) epoch (length t.touched) 0 t.touched
          (each_map (IsAlong start (logs_of start (e ∷ es)) tx)
          (λ (u : Touched). IsSpread start (logs_of start (e ∷ es)) tx u.key u.chain (last_place u.chain)) t.touched
          (λ u a. a.spread) (along phase))));
      live = subst (IsLiveAhead start (logs_of start (e ∷ es)) later tx) (sym (live_now ∙ left_is)) going;
    }
      where
        left_is : left_of_turn turn_is ≡ Some (at_phase t (Committing epoch (length t.touched)))
        left_is = ap (λ b. if b then None else Some turn_is.step.state) over ∙ ap (λ v. Some v) st

        going : IsGoing start (logs_of start (e ∷ es)) later tx t.touched (length t.touched)
        going = record {
          few = omega (arith, few);
          weighs = omega (
            arith,
            joins_weigh (weight tx (length t.touched)) start h (logs_of start es h) e between,
            ap (in_sends (weight tx (length t.touched))) part_is,
            part_weighs tx s.node s.layout epoch (length t.touched) 0 t.touched,
            weigh_none (λ (x : Addressed). weight tx (length t.touched) x.signal.to x.signal.body) between
                (each_map (λ (x : Addressed). is_part tx x.signal.body ≡ false)
                (λ (x : Addressed). weight tx (length t.touched) x.signal.to x.signal.body ≡ 0) between
                (λ x f. part_weight tx (length t.touched) x.signal.to x.signal.body f) between_none),
          );
          along = along phase;
          covered = λ front u back split. inl (omega (
            arith,
            joins_weigh (cover tx u.key (length front)) start h (logs_of start es h) e between,
            ap (in_sends (cover tx u.key (length front))) part_is,
            ap (λ us. in_sends (cover tx u.key (length front))
                (part_effects s.node tx (phase_sends s.layout tx (Committing epoch (length t.touched)) us) 0).sends)
                split,
            part_covers tx s.node s.layout epoch (length t.touched) 0 front u back node_is (omega arith),
          ));
        }

    said_sends : tc_sends g e.step.taken ≡ sends
    said_sends = tc_speaks g e.step.taken step.runs step.at ∙ sym (ap (λ (f : Effects). f.sends) step.effects)

    -- with keys it is carried out then; without one there is nothing to send
    none_unless : (epoch : ℕ) (us : List Touched) → t.touched ≡ us → sends ≡ PartOf epoch
        → is_carried_out start (logs_of start (e ∷ es)) tx ≡ false → in_transit (part tx) later ≡ 0
    none_unless epoch [] none_touched part_is off =
        later_none (subst (Each (λ (o : Outgoing). is_part tx o.body ≡ false))
        (sym (part_is ∙ (ap (λ us.
        (part_effects s.node tx
        (phase_sends s.layout tx (Committing epoch (length t.touched)) us) 0).sends) none_touched
        ∙ no_commits tx s.node s.layout epoch (length t.touched)))) tt)
    none_unless epoch (u ∷ us) some_touched part_is off =
        let first = first_commit tx s.node s.layout epoch (length t.touched) u us in
        not_both (is_carried_out start (logs_of start (e ∷ es)) tx)
        (carried_first start es e come tx same (commit_of tx epoch u) first.more
        (said_sends ∙ (part_is
        ∙ (ap (λ vs. (part_effects s.node tx
        (phase_sends s.layout tx (Committing epoch (length t.touched)) vs) 0).sends) some_touched ∙ first.is)))
        (same_tx-self tx)) off

    turn_first : Begins s.node s.layout tx t turn_is → IsFirst
    turn_first (turn.silent silent) = quiet_first (subst (AreSilent tx) (sym sent) silent)
    turn_first (turn.ends over light) =
        let sends_light = subst (Each (λ (o : Outgoing). is_part tx o.body ≡ false)) (sym sent) light in
        record {
          carried = λ now. record {
            old = old_now;
            told = told_later
                (each_map (λ (o : Outgoing). is_part tx o.body ≡ false)
                (λ (o : Outgoing). TellsOf start (logs_of start (e ∷ es)) tx o.body) sends
                (λ o f. part_tells tx (IsSpread start (logs_of start (e ∷ es)) tx)
                (IsCommittedAtAll start (logs_of start (e ∷ es)) tx) o.body f) sends_light);
            live = subst (IsLiveAhead start (logs_of start (e ∷ es)) later tx)
                (sym (live_now ∙ ap (λ b. if b then None else Some turn_is.step.state) over)) tt;
          };
          silent = λ off free. later_none sends_light;
        }
    turn_first (turn.backs a) =
        let given = given_first start es e come tx same (subst (Aborts tx) (sym (said_sends ∙ sent)) a) in
        record {
          carried = λ now. not_both (is_given_up start (logs_of start (e ∷ es)) tx) given
              (none_is_both start (logs_of start (e ∷ es)) tx now);
          silent = λ off free. not_both (is_given_up start (logs_of start (e ∷ es)) tx) given free;
        }
    turn_first (turn.commits epoch phase over st part_is) = record {
      carried = λ now. carries epoch phase over st (sent ∙ part_is);
      silent = λ off free. none_unless epoch t.touched refl (sent ∙ part_is) off;
    }

    its_turn : IsFirst
    its_turn = turn_first (turn_begins s.node s.layout tx t e.step.taken.body own no_part)

  first_by : TxStep tx g e.step.taken (row g e.step.taken) → IsFirst
  first_by (aside same silent missed) = quiet_first silent
  first_by (begins step is silent) = quiet_first silent
  first_by (rows step) =
      unsaid (subst (λ (f : Effects). Each (λ (o : Outgoing). is_part tx o.body ≡ false) f.sends) (sym step.effects)
      (lqh_silent (lqh_of g) tx e.step.taken.body no_part))
      (carried_silent start es e come tx
      (subst (AreSilent tx)
      (sym (tc_silent g e.step.taken (λ at. let other : block.Lqh ≡ block.Tc = sym step.at ∙ at in cc))) tt))
  first_by (turns t step was own sent left) = its_turn t step was own sent left

  pub first_next : IsFirst
  first_next = first_by (tx_step tx g e.step.taken (all_home start tx h (logs_of start es h)))
