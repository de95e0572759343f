-- What the part of a coordinator weighs: how often it may still send what only coordinators send, as that a transaction
-- has begun, or that it asks for an epoch.
use Rattle.std.proofs.Common.{◌≡◌, ◌≤◌, ◌+◌, ℕ, Bool, false, List, [], ◌∷◌, ap, arith, refl, subst, sym}
use Rattle.run_theory.specs.Lists.{Each}
use Rattle.run_theory.proofs.Pasts.{each_map}
use Rattle.sig_core.specs.declared.mark.Mark.{Mark}
use Rattle.sig_core.specs.declared.member.Member.{Member}
use Rattle.sig_core.specs.declared.outs.Outgoing.{Outgoing}
use Rattle.sig_core.specs.declared.place.BlockId.{BlockId}
use Rattle.sig_core.specs.declared.place.BlockId.TheVariants as block
use Rattle.sig_core.specs.declared.signal.Body.{Body}
use Rattle.sig_core.specs.declared.signal.Body.TheVariants.{Chain, Client, Epoch}
use Rattle.sig_core.specs.declared.signal.chain.ChainSignal.TheVariants.{LqhKeyRef}
use Rattle.sig_core.specs.declared.signal.client.ClientSignal.TheVariants.{TcBeginConf, TcCommitReq, TcKeyConf}
use Rattle.sig_core.specs.declared.signal.client.ClientSignal.TheVariants.{TcKeyReq, TcRollbackRep}
use Rattle.sig_core.specs.declared.signal.epoch.EpochSignal.TheVariants.{DiVerifyEnd, DiVerifyReq}
use Rattle.sig_core.specs.declared.signal.Signal.{Signal}
use Rattle.sig_core.specs.declared.view.View.{View}
use Rattle.sig_core.specs.Step.{Effects}
use Rattle.dih_node.specs.Dih.{dih_row}
use Rattle.dih_node.specs.Orders as dih
use Rattle.dih_node.specs.State.{DihState, go_on_if}
use Rattle.dih_node.specs.Verify.{given}
use Rattle.node_views.specs.Blocks.{parts_entered, parts_row}
use Rattle.node_views.specs.Replies.{giving}
use Rattle.node_views.specs.Parts.{tc_entered, tc_row}
use Rattle.node_views.specs.declared.parts.Parts.{Parts}
use Rattle.node_views.specs.declared.parts.Parts.TheVariants.{Ldm, Main, Shell, Tc}
use Rattle.node_views.specs.declared.tc_part.TcPart.{TcPart}
use Rattle.takeover_block.specs.Takeover.{takeover_row}
use Rattle.tc_views.specs.Coordinator.{coordinator_row}
use Rattle.tc_views.specs.State.{CoordinatorState}
use Rattle.tc_views.specs.Views as coordinator
use Rattle.outcome_laws.specs.Counts.{IsCoordinatorOf, count_sent}
use Rattle.outcome_laws.proofs.epochs.Silent.{AreSilent, IsSilent, is_telling}
use Rattle.outcome_laws.proofs.epochs.Steps.{dih_each, dih_installs_quiet, goes_on_silent}
use Rattle.outcome_laws.proofs.once.Counted.{AreUncounted, IsUncounted, count_none, is_counted}
use Rattle.outcome_laws.proofs.takeovers.SendUncounted.{takeover_none}
use Rattle.outcome_laws.proofs.once.Scales.{AreLight, IsLight, Scale, count_marked}
use Rattle.outcome_laws.proofs.coordinators.BeginsAndAsks.{coordinator_of_installed, coordinator_of_stays}
use Rattle.outcome_laws.proofs.coordinators.Lists.{count_both}

-- nothing that counts
abbrev pub no_body : Body → Bool
no_body body = false

abbrev pub no_mark : Mark → Bool
no_mark mark = false

pub no_marks : (marks : List Mark) → count_marked no_mark marks ≡ 0
no_marks marks = count_none no_mark marks (all marks)
  where
    all : (marks : List Mark) → Each (λ mark. no_mark mark ≡ false) marks
    all [] = tt
    all (mark ∷ marks) = (refl, all marks)

pub no_sends : (sends : List Outgoing) → count_sent no_body sends ≡ 0
no_sends sends = count_none (λ (sent : Outgoing). no_body sent.body) sends (all sends)
  where
    all : (sends : List Outgoing) → Each (λ (sent : Outgoing). no_body sent.body ≡ false) sends
    all [] = tt
    all (sent ∷ sends) = (refl, all sends)

-- epochs send nothing that counts
silent_uncounted : (sends : List Outgoing) → AreSilent sends → AreUncounted sends
silent_uncounted sends all = each_map IsSilent IsUncounted sends (λ sent is. by sent.body is) all
  where
    by : (body : Body) → is_telling body ≡ false → is_counted body ≡ false
    by (Client (TcBeginConf name tx)) is = absurd cc
    by (Client (TcKeyReq tx op)) is = absurd cc
    by (Client (TcKeyConf tx answer)) is = absurd cc
    by (Client (TcCommitReq tx)) is = absurd cc
    by (Client (TcRollbackRep tx cause)) is = absurd cc
    by (Chain (LqhKeyRef tx key cause)) is = absurd cc
    by (Epoch (DiVerifyReq tx ops)) is = absurd cc
    by (Epoch (DiVerifyEnd tx)) is = absurd cc
    by body is = refl

pub dih_none : (s : DihState) (x : Signal) → AreUncounted (dih_row s x).effects.sends
unfolding given
dih_none s x =
    dih_each s (λ step. AreUncounted step.effects.sends) x (record {
      quiet = λ step is. silent_uncounted step.effects.sends is.sends;
      gives_it = λ tx ops is. (refl, tt);
      holds_it = λ tx ops is. tt;
      serves_it = λ tx first. (refl, silent_uncounted (go_on_if _ _) (goes_on_silent _ _));
    })

pub dih_installs_none : (s : DihState) (number : ℕ) → AreUncounted (dih.install_row s number).effects.sends
dih_installs_none s number =
    silent_uncounted (dih.install_row s number).effects.sends (dih_installs_quiet s number).sends

-- the part of a member with its coordinator
abbrev pub IsTcOf : Member → Parts → Type 0
IsTcOf me (Tc p) = IsCoordinatorOf me p.coordinator
IsTcOf me parts = ⊥

-- signals of a kind that only coordinators send, and how many more one may send
abbrev pub may_send : (CoordinatorState → ℕ) → Parts → ℕ
may_send may (Tc p) = may p.coordinator
may_send may parts = 0

abbrev pub of_coordinator : (Body → Bool) → (CoordinatorState → ℕ) → Scale
of_coordinator p may = record { sent = p; marked = no_mark; may = may_send may; taken = no_body }

module _ (p : Body → Bool) (counts : (body : Body) → is_counted body ≡ false → p body ≡ false) where
  pub uncounted_none : (sends : List Outgoing) → AreUncounted sends → count_sent p sends ≡ 0
  uncounted_none sends all =
      count_none (λ (sent : Outgoing). p sent.body) sends
      (each_map IsUncounted (λ (sent : Outgoing). p sent.body ≡ false) sends (λ sent is. counts sent.body is) all)

  module _ (me : Member) (may : CoordinatorState → ℕ)
      (rows : (s : CoordinatorState) (x : Signal) → IsCoordinatorOf me s
      → count_sent p (coordinator_row s x).effects.sends + may (coordinator_row s x).state ≤ may s)
      (installs : (s : CoordinatorState) (view : View) → IsCoordinatorOf me s
      → count_sent p (coordinator.install_row s view).effects.sends + may (coordinator.install_row s view).state
      ≤ may s)
    where
      abbrev scale : Scale
      scale = of_coordinator p may

      abbrev Light : TcPart → Effects → Parts → Type 0
      Light q effects parts = IsLight scale (IsTcOf me) (may q.coordinator + 0) effects parts

      -- what the others do leaves it
      beside : (q now : TcPart) (effects : Effects) → IsCoordinatorOf me q.coordinator
          → now.coordinator ≡ q.coordinator → AreUncounted effects.sends → Light q effects (Tc now)
      beside q now effects of same none = record {
        keeps = subst (IsCoordinatorOf me) (sym same) of;
        below =
            omega (arith, no_marks effects.marks, uncounted_none effects.sends none, ap may same);
      }

      row_is : (q : TcPart) (b : BlockId) (x : Signal) → IsCoordinatorOf me q.coordinator
          → Light q (tc_row q b x).effects (Tc (tc_row q b x).state)
      unfolding tc_row
      row_is q block.Tc x of = record {
        keeps = coordinator_of_stays me q.coordinator x of;
        below =
            omega (
              arith,
              no_marks (coordinator_row q.coordinator x).effects.marks,
              rows q.coordinator x of,
            );
      }
      row_is q block.Takeover x of =
          beside q (tc_row q block.Takeover x).state (takeover_row q.takeover x).effects of refl
          (takeover_none q.takeover x)
      row_is q block.Dih x of =
          beside q (tc_row q block.Dih x).state (dih_row q.dih x).effects of refl (dih_none q.dih x)
      row_is q _ x of = beside q q (record { sends = []; marks = [] }) of refl tt

      enters_is : (q : TcPart) (view : View) → IsCoordinatorOf me q.coordinator
          → IsLight scale (IsTcOf me) (may q.coordinator) (tc_entered q view).effects (Tc (tc_entered q view).state)
      enters_is q view of = record {
        keeps = coordinator_of_installed me q.coordinator view of;
        below =
            let own = (coordinator.install_row q.coordinator view).effects.sends in
            let other = (dih.install_row q.dih view.number).effects.sends in
            omega (
              arith,
              no_marks (tc_entered q view).effects.marks,
              count_both (λ (sent : Outgoing). p sent.body) own other,
              uncounted_none other (dih_installs_none q.dih view.number),
              installs q.coordinator view of,
            );
      }

      pub coordinator_light : AreLight scale (IsTcOf me)
      coordinator_light = record {
        row = row;
        enters = enters;
        tells = tells;
        tells_same = tells_same;
        stops = λ cause. refl;
        installs = λ view. refl;
        cuts = λ host. refl;
      }
        where
          row : (parts : Parts) (x : Signal) → IsTcOf me parts
              → IsLight scale (IsTcOf me) (scale.may parts + 0) (parts_row parts x).effects (parts_row parts x).state
          row (Tc q) x of = row_is q x.to.block x of
          row (Shell q) x of = absurd of
          row (Main q) x of = absurd of
          row (Ldm q) x of = absurd of

          enters : (parts : Parts) (view : View) → IsTcOf me parts
              → IsLight scale (IsTcOf me) (scale.may parts) (parts_entered parts view).effects
              (parts_entered parts view).state
          enters (Tc q) view of = enters_is q view of
          enters (Shell q) view of = absurd of
          enters (Main q) view of = absurd of
          enters (Ldm q) view of = absurd of

          tells : (parts : Parts) → IsTcOf me parts → IsTcOf me (giving parts [])
          tells (Tc q) of = of
          tells (Shell q) of = absurd of
          tells (Main q) of = absurd of
          tells (Ldm q) of = absurd of

          tells_same : (parts : Parts) → scale.may (giving parts []) ≡ scale.may parts
          tells_same (Tc q) = refl
          tells_same (Shell q) = refl
          tells_same (Main q) = refl
          tells_same (Ldm q) = refl
