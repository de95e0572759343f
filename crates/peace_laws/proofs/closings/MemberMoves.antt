-- What a member of a closing does at an order: it answers, and is in the epoch that ends, or has gone on to the next.
use Rattle.std.proofs.Common.{◌≡◌, ◌⊎◌, ◌∙◌, ◌++◌, inl, inr, ℕ, Bool, true, false, nat_le, nat_lt, List, [], ◌∷◌, refl}
use Rattle.std.proofs.Common.{sym}
use Rattle.std.proofs.Common.{ap, subst, map, arith}
use Rattle.std.proofs.lemmas.Bool.{and_right, true≢false}
use Rattle.std.proofs.lemmas.Bool.Decides.{nat_tests}
use Rattle.std.specs.Prelude.{◌&&◌, None, Some, length}
use Rattle.dih_node.specs.declared.dih.Counted.{Counted}
use Rattle.dih_node.specs.Dih.{dih_row, dih_table}
use Rattle.dih_node.specs.Orders.{close_row, commit_if, commit_row, committed, copy_row, done_row, noting, prepare_row}
use Rattle.dih_node.specs.Orders.{prepared_if, serving}
use Rattle.dih_node.specs.State.{DihState, gives, go_on_if, is_unfinished}
use Rattle.dih_node.specs.Verify.{report_if, reported}
use Rattle.gcp_master.specs.declared.orders.Order.{Order}
use Rattle.gcp_master.specs.declared.orders.Order.TheVariants as order
use Rattle.gcp_master.specs.Orders.{order_body}
use Rattle.lqh_saver.specs.Saver.{idling, saver_by}
use Rattle.lqh_saver.specs.State.{SavingState, saving}
use Rattle.lqh_views.specs.Replica.{replica_by, replica_row}
use Rattle.lqh_views.specs.State.{ReplicaState}
use Rattle.node_views.specs.Blocks.{parts_row}
use Rattle.node_views.specs.Parts.{ldm_row, tc_row}
use Rattle.node_views.specs.declared.parts.Parts.{Parts}
use Rattle.node_views.specs.declared.parts.Parts.TheVariants.{Tc, Ldm}
use Rattle.run_theory.specs.Lists.{Each}
use Rattle.sig_core.specs.declared.member.TxId.{TxId}
use Rattle.sig_core.specs.declared.outs.Outgoing.{Outgoing}
use Rattle.sig_core.specs.declared.signal.Body.TheVariants.{Epoch}
use Rattle.sig_core.specs.declared.signal.epoch.EpochSignal.{EpochSignal}
use Rattle.sig_core.specs.declared.signal.epoch.EpochSignal.TheVariants as signal
use Rattle.sig_core.specs.declared.signal.Signal.{Signal}
use Rattle.sig_core.specs.Place.{checkpoints}
use Rattle.sig_core.specs.Step.{Step, joined, sending, sends_only, to_place}
use Rattle.peace_laws.specs.Closing.{Course, HasRows}
use Rattle.peace_laws.specs.UnderWay.{HasCommitted, HasGoneOn, HasMember, IsAnswer, IsMember, IsOrder, answer, block_of}
use Rattle.peace_laws.proofs.closings.Steps.{row_at, row_is}

-- what a block of a member answers to an order
abbrev pub answers : Bool → Order → List EpochSignal
answers false (order.Prepare epoch next) = signal.GcpPrepareConf epoch ∷ []
answers false (order.Commit epoch next) = signal.GcpNodeFinish epoch ∷ []
answers false (order.Close epoch) = signal.GcpClosedConf epoch ∷ []
answers false (order.Copy epoch mask) = signal.CopyGciConf epoch ∷ []
answers true (order.Close epoch) = signal.GcpClosedConf epoch ∷ []
answers true (order.Save epoch) = signal.GcpSaveConf epoch ∷ []
answers rows order = []

abbrev answer_to : ℕ → EpochSignal → Outgoing
answer_to from signal = to_place (checkpoints from) (Epoch signal)

-- a step of the epochs of a member
record EpochsMove (c : Course) (from : ℕ) (order : Order) (d : DihState) (t : Step DihState) : Type 0 where
  member : IsMember c t.state
  keeps : HasGoneOn c d → HasGoneOn c t.state
  says : Each (IsAnswer (HasGoneOn c t.state)) (answers false order)
  sends : t.effects.sends ≡ map (answer_to from) (answers false order)

-- what is due is reported at once, and nothing that was held is served
noting_is : (s : DihState) (from epoch : ℕ) → s.counted ≡ []
    → noting s from epoch ≡ sending (record s { order = None }) (checkpoints from) (Epoch (signal.GcpNodeFinish epoch))
unfolding reported
noting_is s from epoch none =
    ap (λ (counted : List Counted).
    report_if (record s { order = Some (record { epoch = epoch; to = from }) }) (record { epoch = epoch; to = from })
    (is_unfinished counted epoch)) none

serving_is : (t : Step DihState) → t.state.held ≡ []
    → serving t ≡ record { state = t.state; effects = joined t.effects (sends_only []) }
serving_is t none =
    ap (λ b. record { state = t.state; effects = joined t.effects (sends_only (go_on_if t.state.node b)) })
    (ap (λ (held : List TxId). gives t.state && nat_lt 0 (length held)) none ∙ and_right (gives t.state) false refl)

module _ (c : Course) (d : DihState) (member : IsMember c d) (from : ℕ) where
  prepares : (epoch next : ℕ) → next ≡ c.next
      → EpochsMove c from (order.Prepare epoch next) d (prepare_row d from epoch next)
  unfolding prepare_row
  prepares epoch next is = by (nat_le d.current epoch)
    where
      by : (b : Bool)
          → EpochsMove c from (order.Prepare epoch next) d
          (sending (prepared_if d epoch next b) (checkpoints from) (Epoch (signal.GcpPrepareConf epoch)))
      by true = record {
        member = record {
          counted = member.counted;
          held = member.held;
          order_none = member.order_none;
          at = at member.at;
        };
        keeps = λ gone. (gone.0, is);
        says = (tt, tt);
        sends = refl;
      }
        where
          at : (d.current ≡ c.epoch) ⊎ HasGoneOn c d
              → (d.current ≡ c.epoch) ⊎ HasGoneOn c (prepared_if d epoch next true)
          at (inl same) = inl same
          at (inr gone) = inr (gone.0, is)
      by false = record { member = member; keeps = λ gone. gone; says = (tt, tt); sends = refl }

  -- it reports what it has committed
  noted : (s : DihState) (epoch next : ℕ) → s.counted ≡ [] → s.held ≡ [] → HasGoneOn c s
      → EpochsMove c from (order.Commit epoch next) d (noting s from epoch)
  noted s epoch next counted held gone =
      subst (EpochsMove c from (order.Commit epoch next) d) (sym (noting_is s from epoch counted)) (record {
        member = record { counted = counted; held = held; order_none = refl; at = inr gone };
        keeps = λ was. gone;
        says = (gone, tt);
        sends = refl;
      })

  commits : (epoch next : ℕ) → epoch ≡ c.epoch → next ≡ c.next
      → EpochsMove c from (order.Commit epoch next) d (commit_row d from epoch next)
  unfolding commit_row
  commits epoch next at is = by (nat_le d.current epoch) refl
    where
      beyond : nat_le d.current epoch ≡ false → (d.current ≡ c.epoch) ⊎ HasGoneOn c d → HasGoneOn c d
      beyond not_yet (inl same) = absurd (grind (arith, nat_tests, not_yet, same, at))
      beyond not_yet (inr gone) = gone

      by : (b : Bool) → nat_le d.current epoch ≡ b
          → EpochsMove c from (order.Commit epoch next) d (commit_if d from epoch next b)
      by true now =
          let step : EpochsMove c from (order.Commit epoch next) d (noting (committed d epoch next) from epoch) =
          noted (committed d epoch next) epoch next member.counted member.held (is, is) in
          subst (EpochsMove c from (order.Commit epoch next) d)
          (sym (serving_is (noting (committed d epoch next) from epoch) step.member.held)) (record {
            member = step.member;
            keeps = step.keeps;
            says = step.says;
            sends = ap (λ (sends : List Outgoing). sends ++ []) step.sends;
          })
      by false not_yet = noted d epoch next member.counted member.held (beyond not_yet member.at)

  moves : (number : ℕ) (order : Order) → IsOrder c order
      → EpochsMove c from order d (dih_table d from number (order_body order))
  unfolding order_body close_row copy_row done_row
  moves number order.State fits = absurd fits
  moves number (order.Prepare epoch next) fits = prepares epoch next fits.1
  moves number (order.Commit epoch next) fits = commits epoch next fits.0 fits.1
  moves number (order.Close epoch) fits = record {
    member = record {
      counted = member.counted;
      held = member.held;
      order_none = member.order_none;
      at = member.at;
    };
    keeps = λ gone. gone;
    says = (tt, tt);
    sends = refl;
  }
  moves number (order.Save epoch) fits =
      record { member = member; keeps = λ gone. gone; says = tt; sends = refl }
  moves number (order.Copy epoch mask) fits =
      record { member = member; keeps = λ gone. gone; says = (tt, tt); sends = refl }
  moves number (order.Done epoch) fits = record {
    member = record {
      counted = member.counted;
      held = member.held;
      order_none = member.order_none;
      at = member.at;
    };
    keeps = λ gone. gone;
    says = tt;
    sends = refl;
  }
  moves number order.Walk fits = absurd fits
  moves number order.Switch fits = absurd fits

-- the rows answer too
rows_move : (c : Course) (s : ReplicaState) (x : Signal) (order : Order) → IsOrder c order
    → (replica_by s x (order_body order)).effects.sends ≡ map (answer_to x.member.node) (answers true order)
unfolding order_body
rows_move c s x order.State fits = absurd fits
rows_move c s x (order.Prepare epoch next) fits = refl
rows_move c s x (order.Commit epoch next) fits = refl
rows_move c s x (order.Close epoch) fits = refl
rows_move c s x (order.Save epoch) fits = refl
rows_move c s x (order.Copy epoch mask) fits = refl
rows_move c s x (order.Done epoch) fits = refl
rows_move c s x order.Walk fits = absurd fits
rows_move c s x order.Switch fits = absurd fits

-- and their saver hands it on to them
saver_hands_on : (c : Course) (s : SavingState) (x : Signal) (order : Order) → IsOrder c order
    → (saver_by s x (order_body order)).effects.sends ≡ (replica_row s.replica x).effects.sends
unfolding order_body
saver_hands_on c s x order.State fits = absurd fits
saver_hands_on c s x (order.Prepare epoch next) fits = refl
saver_hands_on c s x (order.Commit epoch next) fits = refl
saver_hands_on c s x (order.Close epoch) fits = refl
saver_hands_on c s x (order.Save epoch) fits = refl
saver_hands_on c s x (order.Copy epoch mask) fits = refl
saver_hands_on c s x (order.Done epoch) fits = refl
saver_hands_on c s x order.Walk fits = absurd fits
saver_hands_on c s x order.Switch fits = absurd fits

-- A member of a closing takes an order of the president's master.
pub record PartsMove (c : Course) (order : Order) (rows : Bool) (parts : Parts) (t : Step Parts) : Type 0 where
  pub member : HasMember c parts → HasMember c t.state
  pub keeps : HasCommitted c parts → HasCommitted c t.state
  pub has_rows : HasRows parts → HasRows t.state
  pub says : rows ≡ false → Each (IsAnswer (HasCommitted c t.state)) (answers false order)
  pub sends : t.effects.sends ≡ map answer (answers rows order)

-- the part of the member that has the block
abbrev pub HasBlock : Course → Bool → Parts → Type 0
HasBlock c false parts = HasMember c parts
HasBlock c true parts = HasRows parts

module _ (c : Course) (x : Signal) (order : Order) (fits : IsOrder c order) (from : x.member.node ≡ 1)
    (body : x.body ≡ order_body order) where
  to_first : (signals : List EpochSignal) → map (answer_to x.member.node) signals ≡ map answer signals
  to_first signals = ap (λ n. map (answer_to n) signals) from

  at_row : (rows : Bool) (parts : Parts) → HasBlock c rows parts
      → PartsMove c order rows parts (row_at parts (block_of rows) x)
  unfolding tc_row ldm_row
  at_row false (Tc p) member =
      let step : EpochsMove c x.member.node order p.dih (dih_row p.dih x) =
      subst (λ b. EpochsMove c x.member.node order p.dih (dih_table p.dih x.member.node x.view.number b)) (sym body)
      (moves c p.dih member x.member.node x.view.number order fits) in
      record {
        member = λ was. step.member;
        keeps = step.keeps;
        has_rows = λ none. absurd none;
        says = λ is. step.says;
        sends = step.sends ∙ to_first (answers false order);
      }
  at_row true (Ldm p) there = record {
    member = λ none. absurd none;
    keeps = λ none. absurd none;
    has_rows = λ was. tt;
    says = λ is. absurd (true≢false is);
    sends =
        ap (λ b. (saver_by (idling (saving p.replica p.saver)) x b).effects.sends) body
        ∙ saver_hands_on c (idling (saving p.replica p.saver)) x order fits
        ∙ ap (λ b. (replica_by p.replica x b).effects.sends) body
        ∙ rows_move c p.replica x order fits
        ∙ to_first (answers true order);
  }
  at_row false parts member = absurd member
  at_row true parts member = absurd member

  pub parts_move : (rows : Bool) (parts : Parts) → x.to.block ≡ block_of rows → HasBlock c rows parts
      → PartsMove c order rows parts (parts_row parts x)
  parts_move rows parts to has =
      subst (PartsMove c order rows parts)
      (ap (λ b. row_at parts b x) (sym to) ∙ row_is parts x) (at_row rows parts has)
