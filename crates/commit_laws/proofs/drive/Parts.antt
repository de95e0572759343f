-- At an event of a host that coordinates, takeovers and coordinators of other members send nothing for a transaction
-- whose coordinator is a full member of the view.
use Rattle.std.proofs.Common.{◌≡◌, ◌==◌, ◌&&◌, ◌++◌, ◌∙◌, ℕ, Bool, true, false, List, [], ◌∷◌, Some, inl, inr, refl}
use Rattle.std.proofs.Common.{sym, ap, arith, subst}
use Rattle.std.proofs.lemmas.Bool.{true≢false}
use Rattle.run_theory.specs.Lists.{Each}
use Rattle.run_theory.proofs.Pasts.{each_map}
use Rattle.sig_core.specs.declared.member.Member.{Member}
use Rattle.sig_core.specs.declared.member.TxId.{TxId}
use Rattle.sig_core.specs.declared.outs.Outgoing.{Outgoing}
use Rattle.sig_core.specs.declared.place.BlockId.{BlockId}
use Rattle.sig_core.specs.declared.place.BlockId.TheVariants as block
use Rattle.sig_core.specs.declared.place.Place.{Place}
use Rattle.sig_core.specs.declared.signal.Body.{Body}
use Rattle.sig_core.specs.declared.signal.Body.TheVariants.{Chain, Client, Host}
use Rattle.sig_core.specs.declared.signal.chain.ChainSignal.TheVariants.{Commit, Complete}
use Rattle.sig_core.specs.declared.signal.client.ClientSignal.TheVariants.{TcBeginConf, TcWaitConf}
use Rattle.sig_core.specs.declared.signal.host.HostSignal.TheVariants.{Continue}
use Rattle.sig_core.specs.declared.signal.host.Work.TheVariants as work
use Rattle.sig_core.specs.declared.signal.Signal.{Signal}
use Rattle.sig_core.specs.declared.view.View.{View}
use Rattle.sig_core.specs.Place.{client}
use Rattle.sig_core.specs.Same.{same_tx}
use Rattle.sig_core.specs.Step.{to_place}
use Rattle.sig_core.proofs.TxLemmas.{same_tx-is}
use Rattle.frag_map.specs.Layout.{Layout}
use Rattle.host_laws.proofs.coordinator.OfLive.{each_found}
use Rattle.dih_node.specs.Dih.{dih_row}
use Rattle.lqh_block.specs.Views.{is_coordinated}
use Rattle.takeover_block.specs.State.{TakeoverState}
use Rattle.takeover_block.specs.Takeover.{takeover_row}
use Rattle.tc_block.specs.declared.transaction.Transaction.{Transaction}
use Rattle.tc_views.specs.Coordinator.{coordinator_row}
use Rattle.tc_views.specs.State.{CoordinatorState}
use Rattle.node_views.specs.declared.tc_part.TcPart.{TcPart}
use Rattle.node_views.specs.Parts.{tc_row}
use Rattle.outcome_laws.specs.Counts.{IsCoordinatorOf, coordinator_member, count_sent}
use Rattle.outcome_laws.proofs.coordinators.Lists.{count_both, none_counted}
use Rattle.request_laws.specs.Orphans.{GatheredAre, IsOrphan}
use Rattle.request_laws.specs.Routes.{IsRouted, IsSentRouted}
use Rattle.request_laws.specs.Ways.{entry_of}
use Rattle.request_laws.proofs.phases.Steps.{AreAway, Walks, begins, coordinator_walks, passes, resumes, stays, turns}
use Rattle.request_laws.proofs.routes.BesideRows.{AreAside, IsAside, epochs_aside, is_of_rows}
use Rattle.request_laws.proofs.routes.Sends.{Nobody}
use Rattle.request_laws.proofs.routes.Takeovers.{ChainsAreSome, takeover_sends_routed}
use Rattle.commit_laws.proofs.drive.Coordinators.{away_keys, away_onward}
use Rattle.commit_laws.proofs.drive.Kinds.{Drive, committing, completing, goes}
use Rattle.commit_laws.proofs.drive.Lists.{mine, onward}

-- of the transaction these neither commit nor complete a key, nor go on
pub record AreOff (tx : TxId) (sends : List Outgoing) : Type 0 where
  pub keys : (drive : Drive) (wk : List ℕ → Bool) → count_sent (goes drive (mine tx wk)) sends ≡ 0
  pub goes_on : (at : ℕ) → count_sent (onward tx at) sends ≡ 0

pub away_off : (tx : TxId) (sends : List Outgoing) → AreAway tx sends → AreOff tx sends
away_off tx sends away =
    record { keys = λ drive wk. away_keys tx drive wk sends away; goes_on = λ at. away_onward tx at sends away }

pub none_off : (tx : TxId) → AreOff tx []
none_off tx = record { keys = λ drive wk. refl; goes_on = λ at. refl }

pub both_off : (tx : TxId) (front rest : List Outgoing) → AreOff tx front → AreOff tx rest → AreOff tx (front ++ rest)
both_off tx front rest one other = record {
  keys = λ drive wk.
      omega (
        arith,
        count_both (λ (o : Outgoing). goes drive (mine tx wk) o.body) front rest,
        one.keys drive wk,
        other.keys drive wk,
      );
  goes_on = λ at.
      omega (arith, count_both (λ (o : Outgoing). onward tx at o.body) front rest, one.goes_on at, other.goes_on at);
}

pub aside_off : (tx : TxId) (sends : List Outgoing) → AreAside sends → AreOff tx sends
aside_off tx sends all = record {
  keys = λ drive wk.
      none_counted (goes drive (mine tx wk)) sends
      (each_map IsAside (λ (o : Outgoing). goes drive (mine tx wk) o.body ≡ false) sends
      (λ o is. key drive wk o.body is) all);
  goes_on = λ at.
      none_counted (onward tx at) sends
      (each_map IsAside (λ (o : Outgoing). onward tx at o.body ≡ false) sends (λ o is. on at o.body is) all);
}
  where
    key : (drive : Drive) (wk : List ℕ → Bool) (body : Body) → is_of_rows body ≡ false
        → goes drive (mine tx wk) body ≡ false
    key drive wk (Chain signal) is = absurd (true≢false is)
    key committing wk body is = refl
    key completing wk body is = refl

    on : (at : ℕ) (body : Body) → is_of_rows body ≡ false → onward tx at body ≡ false
    on at (Host (Continue (work.Transaction one) left)) is = absurd (true≢false is)
    on at body is = refl

-- a coordinator sends nothing for transactions of others
pub other_off : (tx : TxId) (member : Member) (s : CoordinatorState) → IsCoordinatorOf member s
    → (coordinator_member tx ≡ member → ⊥) → (x : Signal) → AreOff tx (coordinator_row s x).effects.sends
other_off tx member s of other x = by (coordinator_walks member s of tx x)
  where
    off : (t : Transaction) → entry_of s tx ≡ Some t → ⊥
    off t found =
        other
        (each_found (λ (e : TxId × Transaction). coordinator_member e.0 ≡ member) s.tc.live tx t of.own found)

    told : (o : Outgoing) → is_of_rows o.body ≡ false → AreOff tx (o ∷ [])
    told o is = aside_off tx (o ∷ []) (is, tt)

    by : Walks member s x.view.number x.body tx (coordinator_row s x)
        → AreOff tx (coordinator_row s x).effects.sends
    by (stays same unborn away) = away_off tx (coordinator_row s x).effects.sends away
    by (passes ahead about same next out) =
        subst (AreOff tx) (sym out) (told (to_place client (Client (TcWaitConf tx ahead))) refl)
    by (begins name about room is none some next out) =
        subst (AreOff tx) (sym out) (told (to_place client (Client (TcBeginConf name tx))) refl)
    by (turns t found takes about free left next out) = absurd (off t found)
    by (resumes t verdict rest at node found about newer is_left left next out) = absurd (off t found)

-- a takeover drives orphans alone
module _ (view : View) (layout : Layout) (some : ChainsAreSome layout) (tx : TxId)
    (led : is_coordinated view.full tx ≡ true)
  where
    other_one : (one : TxId) (c : Bool) → IsOrphan view one → (same_tx one tx && c) ≡ false
    other_one one c orphan = by (same_tx one tx) refl
      where
        by : (b : Bool) → same_tx one tx ≡ b → (b && c) ≡ false
        by false e = refl
        by true e =
            absurd (true≢false (sym led ∙ (ap (is_coordinated view.full) (sym (same_tx-is one tx e)) ∙ orphan)))

    abbrev Routed : Place → Body → Type 0
    Routed to body = IsRouted layout Nobody (IsOrphan view) Nobody to body

    routed_key : (drive : Drive) (wk : List ℕ → Bool) (to : Place) (body : Body) → Routed to body
        → goes drive (mine tx wk) body ≡ false
    routed_key committing wk to (Chain (Commit one key epoch chain at)) routed = other_one one (wk key) routed.1
    routed_key committing wk to body routed = refl
    routed_key completing wk to (Chain (Complete one key chain at)) routed = other_one one (wk key) routed.1
    routed_key completing wk to body routed = refl

    routed_on : (at : ℕ) (to : Place) (body : Body) → Routed to body → onward tx at body ≡ false
    routed_on at to (Host (Continue (work.Transaction one) left)) (inl orphan) = other_one one (left == at) orphan
    routed_on at to (Host (Continue (work.Transaction one) left)) (inr nobody) = absurd nobody
    routed_on at to body routed = refl

    pub takeover_off : (s : TakeoverState) (x : Signal) → s.layout ≡ layout → GatheredAre (IsOrphan view) s
        → AreOff tx (takeover_row s x).effects.sends
    takeover_off s x laid all = record {
      keys = λ drive wk.
          none_counted (goes drive (mine tx wk)) sends
          (each_map (IsSentRouted layout Nobody (IsOrphan view) Nobody)
          (λ (o : Outgoing). goes drive (mine tx wk) o.body ≡ false) sends
          (λ o routed. routed_key drive wk o.to o.body routed) routed);
      goes_on = λ at.
          none_counted (onward tx at) sends
          (each_map (IsSentRouted layout Nobody (IsOrphan view) Nobody) (λ (o : Outgoing). onward tx at o.body ≡ false)
          sends (λ o routed. routed_on at o.to o.body routed) routed);
    }
      where
        sends : List Outgoing
        sends = (takeover_row s x).effects.sends

        routed : Each (IsSentRouted layout Nobody (IsOrphan view) Nobody) sends
        routed = takeover_sends_routed Nobody (IsOrphan view) Nobody layout s x laid some all

    -- whatever block of the part takes the signal, but for the coordinator of its own transactions
    pub part_off : (member : Member) (p : TcPart) → IsCoordinatorOf member p.coordinator → p.takeover.layout ≡ layout
        → GatheredAre (IsOrphan view) p.takeover → (x : Signal) (b : BlockId)
        → (b ≡ block.Tc → coordinator_member tx ≡ member → ⊥) → AreOff tx (tc_row p b x).effects.sends
    unfolding tc_row
    part_off member p of laid all x block.Tc other = other_off tx member p.coordinator of (other refl) x
    part_off member p of laid all x block.Takeover other = takeover_off p.takeover x laid all
    part_off member p of laid all x block.Dih other =
        aside_off tx (dih_row p.dih x).effects.sends (epochs_aside p.dih x)
    part_off member p of laid all x _ other = none_off tx
