-- A transaction that is carried out stays so in each turn.
use Rattle.std.proofs.Common.{◌≡◌, ◌⊎◌, ◌≤◌, ◌<◌, ◌+◌, ◌-◌, ℕ, Bool, true, false, length, List, [], ◌∷◌, ◌++◌, refl}
use Rattle.std.proofs.Common.{sym, ap, ◌∙◌, subst, arith, inl, inr, append_assoc}
use Rattle.std.specs.Prelude.{◌==◌, ◌&&◌, nat_le, if◌then◌else◌, None, Some}
use Rattle.std.proofs.lemmas.Bool.{cases_lt}
use Rattle.std.proofs.lemmas.Bool.Decides.{nat_tests}
use Rattle.run_theory.specs.Lists.{Each}
use Rattle.run_theory.proofs.Pasts.{each_map}
use Rattle.world_core.specs.Steps.{Addressed, HostStep}
use Rattle.sig_core.specs.declared.member.TxId.{TxId}
use Rattle.sig_core.specs.declared.outs.Outgoing.{Outgoing}
use Rattle.sig_core.specs.declared.place.BlockId.TheVariants as block
use Rattle.sig_core.specs.declared.place.Place.{Place}
use Rattle.sig_core.specs.declared.signal.Body.{Body}
use Rattle.sig_core.specs.declared.signal.Body.TheVariants.{Host, Chain}
use Rattle.sig_core.specs.declared.signal.chain.ChainSignal.TheVariants.{Committed}
use Rattle.sig_core.specs.declared.signal.host.HostSignal.TheVariants.{Continue}
use Rattle.sig_core.specs.declared.signal.host.Work.TheVariants as work
use Rattle.frag_map.specs.Layout.{Layout}
use Rattle.sig_core.specs.Chain.{last_place}
use Rattle.sig_core.specs.Same.{same_tx}
use Rattle.tc_block.specs.declared.sends.TheConstants.{SENDS}
use Rattle.tc_block.specs.declared.phase.Phase.{Phase}
use Rattle.tc_block.specs.declared.phase.Phase.TheVariants.{Open, Verifying, Committing, Completing, Aborting}
use Rattle.tc_block.specs.declared.touched.Touched.{Touched}
use Rattle.tc_block.specs.declared.transaction.Transaction.{Transaction}
use Rattle.tc_block.specs.Part.{part_effects}
use Rattle.tc_block.specs.Sends.{phase_sends}
use Rattle.tc_block.specs.Turn.{Turn, at_phase}
use Rattle.node_core.specs.Requests.{is_request}
use Rattle.world_core.specs.Start.{Start}
use Rattle.host_laws.proofs.hosts.Sums.{one_most}
use Rattle.host_laws.proofs.rows.Operations.{is_lqh}
use Rattle.run_theory.specs.Counts.{one_if}
use Rattle.host_laws.proofs.api.Wishes.{is_tc}
use Rattle.run_laws.specs.Completions.{IsCommittedAtAll}
use Rattle.run_laws.proofs.carried.Ahead as ahead
use Rattle.run_laws.proofs.carried.Ahead.{FromCommitting, FromCompleting, from_committing, from_completing}
use Rattle.run_laws.proofs.carried.Out.{IsAhead, IsAlong, IsDone, IsGoing, IsLiveAhead, IsSpread, TellsOf, along_stays}
use Rattle.run_laws.proofs.carried.Out.{at_all, committed_stays, done_stays}
use Rattle.run_laws.proofs.hosts.TxSteps.{aside_cover}
use Rattle.run_laws.proofs.fades.PartSends.{commits_tell, completions_tell, length_middle, part_covers, part_weighs}
use Rattle.run_laws.proofs.fades.Steps.{StepFades}
use Rattle.run_laws.proofs.fades.Signals.{cover, cover_weight, covers, is_next, is_part, is_sign, part_cover}
use Rattle.run_laws.proofs.fades.Signals.{part_tells}
use Rattle.run_laws.proofs.fades.Signals.{part_weight, request_part, sign_part, weight}
use Rattle.run_laws.proofs.hosts.TcOwn.{AreSilent}
use Rattle.tc_block.proofs.TurnRows.{turn_for}
use Rattle.host_laws.proofs.coordinator.Steps.{left_of_turn}
use Rattle.run_laws.proofs.hosts.TxTurns.{is_for}
use Rattle.run_laws.proofs.transit.Weighing.{in_sends, in_transit, weigh_less, weigh_none}

-- what holds at each place of a list holds of each of it
each_split : {A : Type 0} (P : A → Type 0) (pre xs : List A)
    → ((front : List A) (x : A) (back : List A) → pre ++ xs ≡ front ++ x ∷ back → P x) → Each P xs
each_split P pre [] all = tt
each_split P pre (x ∷ xs) all = (
  all pre x xs refl,
  each_split P (pre ++ x ∷ []) xs (λ front y back is. all front y back (sym (append_assoc pre (x ∷ []) xs) ∙ is)),
)

shorter : {A : Type 0} (front : List A) (x : A) (back all : List A) → all ≡ front ++ x ∷ back
    → length front < length all
shorter front x back all is = omega (arith, ap length is, length_middle front x back)

-- a coordinator that goes on behind a place leads to no commit before it
late_cover : (tx : TxId) (key : List ℕ) (i : ℕ) (to : Place) (one : TxId) (at : ℕ) → i < at
    → cover tx key i to (Host (Continue (work.Transaction one) at)) ≡ 0
late_cover tx key i to one at late = by (is_tc to.block && (to.node == tx.tc)) (same_tx one tx)
  where
    off : nat_le at i ≡ false
    off = grind (arith, nat_tests, late)

    by : (a b : Bool) → one_if (a && (b && nat_le at i)) ≡ 0
    by true true = ap one_if off
    by true false = refl
    by false b = refl

module _ (start : Start) (logs now : ℕ → List HostStep) (e : HostStep) (before between after : List Addressed)
    (sends : List Outgoing) (tx : TxId) (f : StepFades start logs now e tx)
    (out : (w : Place → Body → ℕ) → (is_request e.step.taken.body ≡ true → w e.step.taken.to e.step.taken.body ≡ 0)
    → in_transit w before ≡ w e.step.taken.to e.step.taken.body + in_transit w between)
    (into : (w : Place → Body → ℕ) → in_transit w after ≡ in_sends w sends + in_transit w between) where
  abbrev Leads : List Touched → Type 0
  Leads touched =
      (front : List Touched) (u : Touched) (back : List Touched) → touched ≡ front ++ u ∷ back
      → (cover tx u.key (length front) e.step.taken.to e.step.taken.body ≤ in_sends
      (cover tx u.key (length front)) sends) ⊎ IsDone start now tx u.key

  weight_free : (count : ℕ) → is_request e.step.taken.body ≡ true
      → weight tx count e.step.taken.to e.step.taken.body ≡ 0
  weight_free count is = part_weight tx count e.step.taken.to e.step.taken.body (request_part tx e.step.taken.body is)

  cover_free : (key : List ℕ) (i : ℕ) → is_request e.step.taken.body ≡ true
      → cover tx key i e.step.taken.to e.step.taken.body ≡ 0
  cover_free key i is = part_cover tx key i e.step.taken.to e.step.taken.body (request_part tx e.step.taken.body is)

  covered_stays : (touched : List Touched) → Leads touched
      → ((front : List Touched) (u : Touched) (back : List Touched) → touched ≡ front ++ u ∷ back
      → (1 ≤ in_transit (cover tx u.key (length front)) before) ⊎ IsDone start logs tx u.key)
      → (front : List Touched) (u : Touched) (back : List Touched) → touched ≡ front ++ u ∷ back
      → (1 ≤ in_transit (cover tx u.key (length front)) after) ⊎ IsDone start now tx u.key
  covered_stays touched leads was front u back is = by (was front u back is) (leads front u back is)
    where
      by : (1 ≤ in_transit (cover tx u.key (length front)) before) ⊎ IsDone start logs tx u.key
          → (cover tx u.key (length front) e.step.taken.to e.step.taken.body ≤ in_sends
          (cover tx u.key (length front)) sends) ⊎ IsDone start now tx u.key
          → (1 ≤ in_transit (cover tx u.key (length front)) after) ⊎ IsDone start now tx u.key
      by (inr d) more = inr (done_stays start logs now e tx f u.key d)
      by (inl some) (inr d) = inr d
      by (inl some) (inl less) = inl (omega (
        arith,
        some,
        less,
        out (cover tx u.key (length front)) (cover_free u.key (length front)),
        into (cover tx u.key (length front)),
      ))

  -- where what is sent weighs no more than what came, and leads where that led
  pub ahead_stays : (touched : List Touched) (phase : Phase)
      → in_sends (weight tx (length touched)) sends ≤ weight tx (length touched) e.step.taken.to e.step.taken.body
      → Leads touched
      → IsAhead start logs before tx touched phase → IsAhead start now after tx touched phase
  ahead_stays touched (Committing epoch awaited) less leads g = record {
    few = g.few;
    weighs = omega (
      arith,
      g.weighs,
      less,
      out (weight tx (length touched)) (weight_free (length touched)),
      into (weight tx (length touched)),
    );
    along = along_stays start logs now e tx f touched g.along;
    covered = covered_stays touched leads g.covered;
  }
  ahead_stays touched (Completing epoch awaited) less leads all =
      each_map (λ (u : Touched). IsCommittedAtAll start logs tx u.key)
      (λ (u : Touched). IsCommittedAtAll start now tx u.key) touched
      (λ u c. committed_stays start logs now e tx f u.key c) all
  ahead_stays touched Open less leads g = g
  ahead_stays touched Verifying less leads g = g
  ahead_stays touched (Aborting why verifying awaited) less leads g = g

  pub parts_light : (count : ℕ) → Each (λ (o : Outgoing). is_part tx o.body ≡ false) sends
      → in_sends (weight tx count) sends ≡ 0
  parts_light count none =
      weigh_none (λ (o : Outgoing). weight tx count o.to o.body) sends
      (each_map (λ (o : Outgoing). is_part tx o.body ≡ false) (λ (o : Outgoing). weight tx count o.to o.body ≡ 0) sends
      (λ o off. part_weight tx count o.to o.body off) none)

  pub parts_tell : Each (λ (o : Outgoing). is_part tx o.body ≡ false) sends
      → Each (λ (o : Outgoing). TellsOf start now tx o.body) sends
  parts_tell none =
      each_map (λ (o : Outgoing). is_part tx o.body ≡ false) (λ (o : Outgoing). TellsOf start now tx o.body) sends
      (λ o off. part_tells tx (IsSpread start now tx) (IsCommittedAtAll start now tx) o.body off) none

  pub silent_parts : AreSilent tx sends → Each (λ (o : Outgoing). is_part tx o.body ≡ false) sends
  silent_parts silent =
      each_map (λ (o : Outgoing). is_sign tx o.body ≡ false) (λ (o : Outgoing). is_part tx o.body ≡ false) sends
      (λ o off. sign_part tx o.body off) silent

  -- where nothing of it is sent, and what came led to nothing
  pub silent_stays : (touched : List Touched) (phase : Phase) → AreSilent tx sends
      → ((front : List Touched) (u : Touched) (back : List Touched) → touched ≡ front ++ u ∷ back → cover tx u.key
      (length front) e.step.taken.to e.step.taken.body ≡ 0)
      → IsAhead start logs before tx touched phase → IsAhead start now after tx touched phase
  silent_stays touched phase silent none g =
      ahead_stays touched phase (omega (arith, parts_light (length touched) (silent_parts silent)))
      (λ front u back is. inl (omega (arith, none front u back is))) g

  -- what a turn leaves
  pub record TurnLeaves (turn : Turn) : Type 0 where
    pub live : IsLiveAhead start now after tx (left_of_turn turn)
    pub told : Each (λ (o : Outgoing). TellsOf start now tx o.body) sends

  over_leaves : (turn : Turn) → turn.over ≡ true → IsLiveAhead start now after tx (left_of_turn turn)
  over_leaves turn over =
      subst (λ b. IsLiveAhead start now after tx (if b then None else Some turn.step.state)) (sym over) tt

  state_leaves : (turn : Turn) (t : Transaction) → turn.over ≡ false → turn.step.state ≡ t
      → IsAhead start now after tx t.touched t.phase → IsLiveAhead start now after tx (left_of_turn turn)
  state_leaves turn t over is g =
      subst (λ b. IsLiveAhead start now after tx (if b then None else Some turn.step.state)) (sym over)
      (subst (λ (v : Transaction). IsAhead start now after tx v.touched v.phase) (sym is) g)

  module _ (node : ℕ) (layout : Layout) (t : Transaction) (home : node ≡ tx.tc)
      (at_tc : e.step.taken.to.block ≡ block.Tc) (own : is_for tx e.step.taken.body ≡ true) where
    off_rows : is_lqh e.step.taken.to.block ≡ false
    off_rows = ap is_lqh at_tc

    next_none : is_next tx e.step.taken.body ≡ false → (key : List ℕ) (i : ℕ)
        → cover tx key i e.step.taken.to e.step.taken.body ≡ 0
    next_none none key i = aside_cover tx key i e.step.taken.to e.step.taken.body off_rows
        (λ next tc. let both : true ≡ false = sym next ∙ none in absurd cc)

    own_cont : (one : TxId) (at : ℕ) → e.step.taken.body ≡ Host (Continue (work.Transaction one) at)
        → same_tx one tx ≡ true
    own_cont one at is = ap (λ b. is_for tx b) (sym is) ∙ own

    own_answer : (one : TxId) (key : List ℕ) → e.step.taken.body ≡ Chain (Committed one key) → same_tx one tx ≡ true
    own_answer one key is = ap (λ b. is_for tx b) (sym is) ∙ own

    module _ (turn : Turn) (sent : sends ≡ turn.step.effects.sends) where
      sent_silent : AreSilent tx turn.step.effects.sends → AreSilent tx sends
      sent_silent silent = subst (AreSilent tx) (sym sent) silent

      sent_none : turn.step.effects.sends ≡ [] → AreSilent tx sends
      sent_none nil = sent_silent (subst (AreSilent tx) (sym nil) tt)

      module _ (epoch awaited : ℕ) (phase : t.phase ≡ Committing epoch awaited)
          (g : IsGoing start logs before tx t.touched awaited) where
        going_now : IsAhead start logs before tx t.touched t.phase
        going_now = subst (IsAhead start logs before tx t.touched) (sym phase) g

        -- the answer of a commit weighs one and leads nowhere
        answer_weighs : (one : TxId) (key : List ℕ) → e.step.taken.body ≡ Chain (Committed one key) → (count : ℕ)
            → weight tx count e.step.taken.to e.step.taken.body ≡ 1
        answer_weighs one key is count = ap (weight tx count e.step.taken.to) is ∙ ap one_if (own_answer one key is)

        answer_covers : (one : TxId) (own_key : List ℕ) → e.step.taken.body ≡ Chain (Committed one own_key)
            → (key : List ℕ) (i : ℕ) → cover tx key i e.step.taken.to e.step.taken.body ≡ 0
        answer_covers one own_key is key i = ap (cover tx key i e.step.taken.to) is

        -- with the last answer nothing more is on its way
        last_done : (one : TxId) (own_key : List ℕ) → e.step.taken.body ≡ Chain (Committed one own_key) → awaited ≤ 1
            → (front : List Touched) (u : Touched) (back : List Touched) → t.touched ≡ front ++ u ∷ back
            → IsDone start logs tx u.key
        last_done one own_key is last front u back split = by (g.covered front u back split)
          where
            fewer : in_transit (cover tx u.key (length front)) between ≤ in_transit
                (weight tx (length t.touched)) between
            fewer =
                weigh_less (λ (x : Addressed). cover tx u.key (length front) x.signal.to x.signal.body)
                (λ (x : Addressed). weight tx (length t.touched) x.signal.to x.signal.body) between
                (λ x. cover_weight tx u.key (length front) (length t.touched) x.signal.to x.signal.body
                (shorter front u back t.touched split))

            by : (1 ≤ in_transit (cover tx u.key (length front)) before) ⊎ IsDone start logs tx u.key
                → IsDone start logs tx u.key
            by (inr d) = d
            by (inl some) =
                absurd (omega (
                  arith,
                  some,
                  fewer,
                  last,
                  g.weighs,
                  answer_weighs one own_key is (length t.touched),
                  answer_covers one own_key is u.key (length front),
                  out (weight tx (length t.touched)) (weight_free (length t.touched)),
                  out (cover tx u.key (length front)) (cover_free u.key (length front)),
                ))

        all_done : (one : TxId) (own_key : List ℕ) → e.step.taken.body ≡ Chain (Committed one own_key) → awaited ≤ 1
            → Each (λ (u : Touched). IsCommittedAtAll start now tx u.key) t.touched
        all_done one own_key is last = both t.touched g.along done
          where
            done : Each (λ (u : Touched). IsDone start logs tx u.key) t.touched
            done = each_split (λ (u : Touched). IsDone start logs tx u.key) [] t.touched (last_done one own_key is last)

            both : (us : List Touched) → Each (IsAlong start logs tx) us
                → Each (λ (u : Touched). IsDone start logs tx u.key) us
                → Each (λ (u : Touched). IsCommittedAtAll start now tx u.key) us
            both [] a d = tt
            both (u ∷ us) a d = (
              committed_stays start logs now e tx f u.key (at_all start logs tx u.key a.0.marked d.0),
              both us a.1 d.1,
            )

        abbrev PartOf : ℕ → List Outgoing
        PartOf at = (part_effects node tx (phase_sends layout tx (Committing epoch awaited) t.touched) at).sends

        sent_part : (at : ℕ)
            → turn.step.effects.sends ≡ (part_effects node tx (phase_sends layout tx t.phase t.touched) at).sends
            → sends ≡ PartOf at
        sent_part at is =
            sent ∙ is ∙ ap (λ ph. (part_effects node tx (phase_sends layout tx ph t.touched) at).sends) phase

        part_leads : (one : TxId) (at : ℕ) → e.step.taken.body ≡ Host (Continue (work.Transaction one) at)
            → sends ≡ PartOf at → Leads t.touched
        part_leads one at is part front u back split = inl (by (cases_lt (length front) at))
          where
            by : (length front < at) ⊎ (at ≤ length front)
                → cover tx u.key (length front) e.step.taken.to e.step.taken.body ≤ in_sends
                (cover tx u.key (length front)) sends
            by (inl late) = omega (
              arith,
              ap (cover tx u.key (length front) e.step.taken.to) is,
              late_cover tx u.key (length front) e.step.taken.to one at late,
            )
            by (inr low) =
                omega (
                  arith,
                  one_most (covers tx u.key (length front) e.step.taken.to e.step.taken.body),
                  ap (in_sends (cover tx u.key (length front))) part,
                  ap (λ us. in_sends (cover tx u.key (length front))
                      (part_effects node tx (phase_sends layout tx (Committing epoch awaited) us) at).sends) split,
                  part_covers tx node layout epoch awaited at front u back home low,
                )

        part_light : (one : TxId) (at : ℕ) → e.step.taken.body ≡ Host (Continue (work.Transaction one) at)
            → sends ≡ PartOf at
            → in_sends (weight tx (length t.touched)) sends ≤ weight tx
            (length t.touched) e.step.taken.to e.step.taken.body
        part_light one at is part =
            omega (
              arith,
              ap (in_sends (weight tx (length t.touched))) part,
              part_weighs tx node layout epoch awaited at t.touched,
              ap (weight tx (length t.touched) e.step.taken.to) is,
              ap (λ b. if b then length t.touched - at else 0) (own_cont one at is),
            )

        spread_now : Each (λ (u : Touched). IsSpread start now tx u.key u.chain (last_place u.chain)) t.touched
        spread_now =
            each_map (IsAlong start now tx) (λ (u : Touched). IsSpread start now tx u.key u.chain (last_place u.chain))
            t.touched (λ u a. a.spread) (along_stays start logs now e tx f t.touched g.along)

        stop_leads : (one : TxId) (at : ℕ) → e.step.taken.body ≡ Host (Continue (work.Transaction one) at) → SENDS ≤ at
            → Leads t.touched
        stop_leads one at is high front u back split =
            inl (omega (
              arith,
              ap (cover tx u.key (length front) e.step.taken.to) is,
              late_cover tx u.key (length front) e.step.taken.to one at
                  (omega (arith, high, g.few, shorter front u back t.touched split)),
            ))

        committing_leaves : FromCommitting node layout tx t awaited e.step.taken.body turn → TurnLeaves turn
        committing_leaves (ahead.rests over st silent none) = record {
          live = state_leaves turn t over st
              (silent_stays t.touched t.phase (sent_silent silent)
              (λ front u back is. next_none none u.key (length front)) going_now);
          told = parts_tell (silent_parts (sent_silent silent));
        }
        committing_leaves (ahead.stops one at is high over st nil) = record {
          live = state_leaves turn t over st
              (ahead_stays t.touched t.phase
              (omega (arith, parts_light (length t.touched) (silent_parts (sent_none nil))))
              (stop_leads one at is high) going_now);
          told = parts_tell (silent_parts (sent_none nil));
        }
        committing_leaves (ahead.goes_on one at is over st part) = record {
          live = state_leaves turn t over st
              (ahead_stays t.touched t.phase (part_light one at is (sent_part at part))
              (part_leads one at is (sent_part at part)) going_now);
          told = subst (Each (λ (o : Outgoing). TellsOf start now tx o.body)) (sym (sent_part at part))
              (commits_tell tx node layout (IsSpread start now tx)
              (IsCommittedAtAll start now tx) epoch awaited at t.touched spread_now);
        }
        committing_leaves (ahead.counts one key ep is less over st nil) = record {
          live = state_leaves turn (at_phase t (Committing ep (awaited - 1))) over st (record {
            few = g.few;
            weighs = omega (
              arith,
              less,
              g.weighs,
              answer_weighs one key is (length t.touched),
              parts_light (length t.touched) (silent_parts (sent_none nil)),
              out (weight tx (length t.touched)) (weight_free (length t.touched)),
              into (weight tx (length t.touched)),
            );
            along = along_stays start logs now e tx f t.touched g.along;
            covered = covered_stays t.touched
                (λ front u back split. inl (omega (arith, answer_covers one key is u.key (length front)))) g.covered;
          });
          told = parts_tell (silent_parts (sent_none nil));
        }
        committing_leaves (ahead.completes one key ep next is last over st part) = record {
          live = state_leaves turn (at_phase t (Completing ep next)) over st (all_done one key is last);
          told = subst (Each (λ (o : Outgoing). TellsOf start now tx o.body)) (sym (sent ∙ part))
              (completions_tell tx node layout (IsSpread start now tx)
              (IsCommittedAtAll start now tx) ep next 0 t.touched (all_done one key is last));
        }
        committing_leaves (ahead.ends over none) = record {
          live = over_leaves turn over;
          told = parts_tell (subst (Each (λ (o : Outgoing). is_part tx o.body ≡ false)) (sym sent) none);
        }

      completing_leaves : Each (λ (u : Touched). IsCommittedAtAll start logs tx u.key) t.touched
          → FromCompleting node layout tx t turn → TurnLeaves turn
      completing_leaves all (ahead.still ep next over st silent) = record {
        live = state_leaves turn (at_phase t (Completing ep next)) over st
            (each_map (λ (u : Touched). IsCommittedAtAll start logs tx u.key)
            (λ (u : Touched). IsCommittedAtAll start now tx u.key) t.touched
            (λ u c. committed_stays start logs now e tx f u.key c) all);
        told = parts_tell (silent_parts (sent_silent silent));
      }
      completing_leaves all (ahead.more ep next at over st part) =
          let still_all = each_map (λ (u : Touched). IsCommittedAtAll start logs tx u.key)
          (λ (u : Touched). IsCommittedAtAll start now tx u.key) t.touched
          (λ u c. committed_stays start logs now e tx f u.key c) all in
          record {
            live = state_leaves turn (at_phase t (Completing ep next)) over st still_all;
            told = subst (Each (λ (o : Outgoing). TellsOf start now tx o.body)) (sym (sent ∙ part))
                (completions_tell tx node layout (IsSpread start now tx)
                (IsCommittedAtAll start now tx) ep next at t.touched still_all);
          }
      completing_leaves all (ahead.over over silent) = record {
        live = over_leaves turn over;
        told = parts_tell (silent_parts (sent_silent silent));
      }

    -- a turn of a transaction that is carried out
    pub turn_leaves : IsAhead start logs before tx t.touched t.phase
        → sends ≡ (turn_for node layout tx e.step.taken.body t).step.effects.sends
        → TurnLeaves (turn_for node layout tx e.step.taken.body t)
    turn_leaves g sent = by t.phase refl g
      where
        by : (phase : Phase) → t.phase ≡ phase → IsAhead start logs before tx t.touched phase
            → TurnLeaves (turn_for node layout tx e.step.taken.body t)
        by (Committing epoch awaited) is g = committing_leaves (turn_for node layout tx e.step.taken.body t) sent epoch
            awaited is g (from_committing node layout tx t epoch awaited is e.step.taken.body own)
        by (Completing epoch awaited) is g = completing_leaves (turn_for node layout tx e.step.taken.body t) sent g
            (from_completing node layout tx t epoch awaited is e.step.taken.body own)
        by Open is g = absurd g
        by Verifying is g = absurd g
        by (Aborting why verifying awaited) is g = absurd g
