-- Hosts that send none: a coordinator of another member tells of no begin of the transaction and asks for no epoch for
-- it, hosts without a coordinator do neither, and none but the shell's asks for a commit.
use Rattle.std.proofs.Common.{◌≡◌, ◌≤◌, ◌+◌, ◌∙◌, ℕ, Bool, true, false, List, [], ap, arith, refl, sym}
use Rattle.run_theory.specs.Lists.{Each}
use Rattle.run_theory.proofs.Pasts.{each_map}
use Rattle.sig_core.specs.declared.mark.Mark.{Mark}
use Rattle.sig_core.specs.declared.member.Member.{Member}
use Rattle.sig_core.specs.declared.member.TxId.{TxId}
use Rattle.sig_core.specs.declared.outs.Outgoing.{Outgoing}
use Rattle.sig_core.specs.declared.place.BlockId.{BlockId}
use Rattle.sig_core.specs.declared.place.BlockId.TheVariants as block
use Rattle.sig_core.specs.declared.place.Place.{Place}
use Rattle.sig_core.specs.declared.signal.Body.{Body}
use Rattle.sig_core.specs.declared.signal.Body.TheVariants.{Client, Epoch}
use Rattle.sig_core.specs.declared.signal.client.ClientSignal.TheVariants.{TcBeginConf, TcCommitReq}
use Rattle.sig_core.specs.declared.signal.epoch.EpochSignal.TheVariants.{DiVerifyReq}
use Rattle.sig_core.specs.declared.signal.Signal.{Signal}
use Rattle.sig_core.specs.declared.view.View.{View}
use Rattle.sig_core.specs.Same.{same_tx}
use Rattle.sig_core.proofs.TxLemmas.{same_tx-is}
use Rattle.node_views.specs.Blocks.{parts_entered, parts_row}
use Rattle.node_views.specs.Replies.{giving}
use Rattle.lqh_saver.specs.State.{saving}
use Rattle.node_views.specs.Parts.{ldm_row, main_row, shell_row}
use Rattle.node_views.specs.declared.ldm_part.LdmPart.{LdmPart}
use Rattle.node_views.specs.declared.main_part.MainPart.{MainPart}
use Rattle.node_views.specs.declared.parts.Parts.{Parts}
use Rattle.node_views.specs.declared.parts.Parts.TheVariants.{Ldm, Main, Shell, Tc}
use Rattle.node_views.specs.declared.shell_part.ShellPart.{ShellPart}
use Rattle.tc_views.specs.Coordinator.{coordinator_row}
use Rattle.tc_views.specs.State.{CoordinatorState}
use Rattle.tc_views.specs.Views as coordinator
use Rattle.moment_laws.proofs.MomentHosts.{HasNoTc}
use Rattle.outcome_laws.specs.Counts.{IsCoordinatorOf, coordinator_member, count_sent, is_asking, is_begin, is_wish}
use Rattle.outcome_laws.specs.Own.{IsOwnAt, IsOwnSend}
use Rattle.outcome_laws.proofs.knowledge.MasterTellsNothing.{master_tells_nothing}
use Rattle.outcome_laws.proofs.knowledge.MembershipTellsNothing.{membership_installs_nothing, membership_tells_nothing}
use Rattle.outcome_laws.proofs.knowledge.TellsNothing.{untold_uncounted}
use Rattle.outcome_laws.proofs.knowledge.Parts.{arbiter_tells_nothing}
use Rattle.outcome_laws.proofs.client.SendsNoAnswers.{client_sends, is_coordinators}
use Rattle.outcome_laws.proofs.once.Counted.{AreUncounted, IsUncounted, count_none, is_counted}
use Rattle.outcome_laws.proofs.once.CoordinatorScale.{IsTcOf, coordinator_light, no_body, no_mark, no_marks}
use Rattle.outcome_laws.proofs.once.CoordinatorScale.{of_coordinator}
use Rattle.outcome_laws.proofs.rows.SendUncounted.{rows_none}
use Rattle.outcome_laws.proofs.once.Scales.{AreLight, IsLight, Scale}
use Rattle.outcome_laws.proofs.coordinators.BeginsAndAsks.{coordinator_installs_own, coordinator_own}

-- a coordinator of which no send is of a kind weighs nothing
abbrev pub nothing : CoordinatorState → ℕ
nothing s = 0

module _ (me : Member) (p : Body → Bool) (counts : (body : Body) → is_counted body ≡ false → p body ≡ false)
    (apart : (to : Place) (body : Body) → IsOwnAt me to body → p body ≡ false)
  where
    apart_none : (sends : List Outgoing) → Each (IsOwnSend me) sends → count_sent p sends ≡ 0
    apart_none sends own =
        count_none (λ (sent : Outgoing). p sent.body) sends
        (each_map (IsOwnSend me) (λ (sent : Outgoing). p sent.body ≡ false) sends
        (λ sent is. apart sent.to sent.body is) own)

    pub apart_light : AreLight (of_coordinator p nothing) (IsTcOf me)
    apart_light = coordinator_light p counts me nothing rows installs
      where
        rows : (s : CoordinatorState) (x : Signal) → IsCoordinatorOf me s
            → count_sent p (coordinator_row s x).effects.sends + 0 ≤ 0
        rows s x of =
            omega (arith, apart_none (coordinator_row s x).effects.sends (coordinator_own me s x of))

        installs : (s : CoordinatorState) (view : View) → IsCoordinatorOf me s
            → count_sent p (coordinator.install_row s view).effects.sends + 0 ≤ 0
        installs s view of =
            let sends = (coordinator.install_row s view).effects.sends in
            omega (arith, apart_none sends (coordinator_installs_own me s view))

-- what only a transaction's own member sends
module _ (tx : TxId) (me : Member) (other : coordinator_member tx ≡ me → ⊥) where
  differs : (u : TxId) → coordinator_member u ≡ me → same_tx u tx ≡ false
  differs u own = by (same_tx u tx) refl
    where
      by : (b : Bool) → same_tx u tx ≡ b → b ≡ false
      by true is = absurd (other (sym (ap coordinator_member (same_tx-is u tx is)) ∙ own))
      by false is = refl

  pub begins_apart : (to : Place) (body : Body) → IsOwnAt me to body → is_begin tx body ≡ false
  begins_apart to (Client (TcBeginConf name u)) own = differs u own
  begins_apart to body own = refl

  pub asks_apart : (to : Place) (body : Body) → IsOwnAt me to body → is_asking tx body ≡ false
  asks_apart to (Epoch (DiVerifyReq u ops)) own = differs u own.0
  asks_apart to body own = refl

-- no coordinator asks for a commit
pub wishes_apart : (tx : TxId) (me : Member) (to : Place) (body : Body) → IsOwnAt me to body → is_wish tx body ≡ false
wishes_apart tx me to (Client (TcCommitReq u)) own = absurd own
wishes_apart tx me to body own = refl

pub begin_coordinators : (tx : TxId) (body : Body) → is_coordinators body ≡ false → is_begin tx body ≡ false
begin_coordinators tx (Client (TcBeginConf name other)) none = absurd cc
begin_coordinators tx body none = refl

pub asking_coordinators : (tx : TxId) (body : Body) → is_coordinators body ≡ false → is_asking tx body ≡ false
asking_coordinators tx (Epoch (DiVerifyReq other ops)) none = absurd cc
asking_coordinators tx body none = refl

-- hosts whose blocks send none of a kind
abbrev pub of_nobody : (Body → Bool) → Scale
of_nobody p = record { sent = p; marked = no_mark; may = λ parts. 0; taken = no_body }

-- a part of a node without its coordinator
abbrev pub IsBeside : Parts → Type 0
IsBeside (Main p) = Unit {0}
IsBeside (Ldm p) = Unit {0}
IsBeside parts = ⊥

pub main_uncounted : (q : MainPart) (b : BlockId) (x : Signal) → AreUncounted (main_row q b x).effects.sends
unfolding main_row
main_uncounted q block.Qmgr x = untold_uncounted _ (membership_tells_nothing q.qmgr x).0
main_uncounted q block.GcpMaster x = untold_uncounted _ (master_tells_nothing q.master x).0
main_uncounted q _ x = tt

pub ldm_uncounted : (q : LdmPart) (b : BlockId) (x : Signal) → AreUncounted (ldm_row q b x).effects.sends
unfolding ldm_row
ldm_uncounted q block.Lqh x = rows_none (saving q.replica q.saver) x
ldm_uncounted q _ x = tt

module _ (p : Body → Bool) (counts : (body : Body) → is_counted body ≡ false → p body ≡ false) where
  light : (Q : Parts → Type 0) (parts : Parts) (sends : List Outgoing) (marks : List Mark) → Q parts
      → Each (λ (sent : Outgoing). p sent.body ≡ false) sends
      → IsLight (of_nobody p) Q 0 (record { sends = sends; marks = marks }) parts
  light Q parts sends marks keeps none = record {
    keeps = keeps;
    below = omega (arith, no_marks marks, count_none (λ (sent : Outgoing). p sent.body) sends none);
  }

  not_counted : (sends : List Outgoing) → AreUncounted sends → Each (λ (sent : Outgoing). p sent.body ≡ false) sends
  not_counted sends none =
      each_map IsUncounted (λ (sent : Outgoing). p sent.body ≡ false) sends (λ sent is. counts sent.body is) none

  beside_row : (parts : Parts) (x : Signal) → IsBeside parts
      → IsLight (of_nobody p) IsBeside 0 (parts_row parts x).effects (parts_row parts x).state
  beside_row (Main q) x beside =
      light IsBeside (parts_row (Main q) x).state (main_row q x.to.block x).effects.sends
      (main_row q x.to.block x).effects.marks tt (not_counted _ (main_uncounted q x.to.block x))
  beside_row (Ldm q) x beside =
      light IsBeside (parts_row (Ldm q) x).state (ldm_row q x.to.block x).effects.sends
      (ldm_row q x.to.block x).effects.marks tt (not_counted _ (ldm_uncounted q x.to.block x))
  beside_row (Shell q) x beside = absurd beside
  beside_row (Tc q) x beside = absurd beside

  beside_enters : (parts : Parts) (view : View) → IsBeside parts
      → IsLight (of_nobody p) IsBeside 0 (parts_entered parts view).effects (parts_entered parts view).state
  beside_enters (Main q) view beside =
      light IsBeside (parts_entered (Main q) view).state (parts_entered (Main q) view).effects.sends
      (parts_entered (Main q) view).effects.marks tt
      (not_counted _ (untold_uncounted _ (membership_installs_nothing q.qmgr view).0))
  beside_enters (Ldm q) view beside = light IsBeside (parts_entered (Ldm q) view).state [] [] tt tt
  beside_enters (Shell q) view beside = absurd beside
  beside_enters (Tc q) view beside = absurd beside

  pub beside_light : AreLight (of_nobody p) IsBeside
  beside_light = record {
    row = beside_row;
    enters = beside_enters;
    tells = tells;
    tells_same = λ parts. refl;
    stops = λ cause. refl;
    installs = λ view. refl;
    cuts = λ host. refl;
  }
    where
      tells : (parts : Parts) → IsBeside parts → IsBeside (giving parts [])
      tells (Main q) beside = tt
      tells (Ldm q) beside = tt
      tells (Shell q) beside = absurd beside
      tells (Tc q) beside = absurd beside

  -- also the shell's, where only coordinators send it
  module _ (coordinators : (body : Body) → is_coordinators body ≡ false → p body ≡ false) where
    pub shell_none : (q : ShellPart) (b : BlockId) (x : Signal)
        → Each (λ (sent : Outgoing). p sent.body ≡ false) (shell_row q b x).effects.sends
    unfolding shell_row
    shell_none q block.Api x =
        each_map (λ (sent : Outgoing). is_coordinators sent.body ≡ false) (λ (sent : Outgoing). p sent.body ≡ false) _
        (λ sent is. coordinators sent.body is) (client_sends q.client x)
    shell_none q block.Arbiter x = not_counted _ (untold_uncounted _ (arbiter_tells_nothing q.arbiter x).0)
    shell_none q _ x = tt

    pub no_tc_light : AreLight (of_nobody p) HasNoTc
    no_tc_light = record {
      row = row;
      enters = enters;
      tells = tells;
      tells_same = λ parts. refl;
      stops = λ cause. refl;
      installs = λ view. refl;
      cuts = λ host. refl;
    }
      where
        row : (parts : Parts) (x : Signal) → HasNoTc parts
            → IsLight (of_nobody p) HasNoTc 0 (parts_row parts x).effects (parts_row parts x).state
        row (Main q) x none =
            let is = beside_row (Main q) x tt in record { keeps = tt; below = is.below }
        row (Ldm q) x none = let is = beside_row (Ldm q) x tt in record { keeps = tt; below = is.below }
        row (Shell q) x none =
            light HasNoTc (parts_row (Shell q) x).state (shell_row q x.to.block x).effects.sends
            (shell_row q x.to.block x).effects.marks tt (shell_none q x.to.block x)
        row (Tc q) x none = absurd none

        enters : (parts : Parts) (view : View) → HasNoTc parts
            → IsLight (of_nobody p) HasNoTc 0 (parts_entered parts view).effects (parts_entered parts view).state
        enters (Main q) view none =
            let is = beside_enters (Main q) view tt in record { keeps = tt; below = is.below }
        enters (Ldm q) view none = light HasNoTc (parts_entered (Ldm q) view).state [] [] tt tt
        enters (Shell q) view none = light HasNoTc (parts_entered (Shell q) view).state [] [] tt tt
        enters (Tc q) view none = absurd none

        tells : (parts : Parts) → HasNoTc parts → HasNoTc (giving parts [])
        tells (Main q) none = tt
        tells (Ldm q) none = tt
        tells (Shell q) none = tt
        tells (Tc q) none = absurd none
