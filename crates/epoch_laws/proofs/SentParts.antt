-- What the blocks of a host send of the orders of epochs: where a view is installed nothing, the shell nothing, the
-- rows only what they don't know.
use Rattle.std.proofs.Common.{◌≡◌, ℕ, false, true, refl}
use Rattle.run_theory.specs.Lists.{Each}
use Rattle.run_theory.proofs.Pasts.{each_append, each_map}
use Rattle.sig_core.specs.declared.mark.Mark.{Mark}
use Rattle.sig_core.specs.declared.outs.Outgoing.{Outgoing}
use Rattle.sig_core.specs.declared.place.BlockId.{BlockId}
use Rattle.sig_core.specs.declared.place.BlockId.TheVariants as block
use Rattle.sig_core.specs.declared.signal.Body.{Body}
use Rattle.sig_core.specs.declared.signal.Body.TheVariants.{Epoch, Host}
use Rattle.sig_core.specs.declared.signal.epoch.EpochSignal.TheVariants.{GcpReq, MicroReq}
use Rattle.sig_core.specs.declared.signal.Signal.{Signal}
use Rattle.sig_core.specs.declared.view.View.{View}
use Rattle.dih_node.specs.Orders as dih
use Rattle.dih_node.specs.State.{DihState}
use Rattle.lqh_saver.specs.State.{saving}
use Rattle.lqh_saver.proofs.StepLemmas.{saver_sends}
use Rattle.node_views.specs.Blocks.{parts_entered}
use Rattle.node_views.specs.Parts.{ldm_row}
use Rattle.node_views.specs.declared.host_body.HostBody as hosts
use Rattle.node_views.specs.declared.ldm_part.LdmPart.{LdmPart}
use Rattle.node_views.specs.declared.parts.Parts.{Parts}
use Rattle.node_views.specs.declared.parts.Parts.TheVariants.{Shell, Main, Tc, Ldm}
use Rattle.node_views.specs.declared.shell_part.ShellPart.{ShellPart}
use Rattle.tc_views.specs.Views as coordinator
use Rattle.node_views.specs.Words.{parts_words}
use Rattle.world_views.specs.Machine.{step_by}
use Rattle.world_views.proofs.StepEach.{step_words}
use Rattle.epoch_laws.proofs.DihSends.{IsOwn, dih_installs_own}
use Rattle.epoch_laws.proofs.SentKinds.{coordinator_installs_none}
use Rattle.epoch_laws.proofs.SentMembership.{membership_installs_none}
use Rattle.epoch_laws.proofs.SentNone.{AreNoOrders, IsNoOrder, SendsNoOrder, is_order}
use Rattle.epoch_laws.proofs.SentRows.{IsOfRows, SendsOfRows, replica_tell}
use Rattle.world_views.proofs.SentWalk.{IsSent, step_sends}

-- what the epochs send themselves at an installation is none
own_none : (send : Outgoing) → IsOwn send.body → IsNoOrder send
own_none send own = by send.body own
  where
    by : (body : Body) → IsOwn body → is_order body ≡ false
    by (Host signal) own = refl
    by _ own = absurd own

pub dih_installs_none : (s : DihState) (number : ℕ) → SendsNoOrder (dih.install_row s number)
dih_installs_none s number =
    each_map (λ (send : Outgoing). IsOwn send.body) IsNoOrder (dih.install_row s number).effects.sends own_none
    (dih_installs_own s number)

-- where a view is installed
pub entered_none : (parts : Parts) (view : View) → SendsNoOrder (parts_entered parts view)
entered_none (Shell p) view = tt
entered_none (Main p) view = membership_installs_none p.qmgr view
entered_none (Tc p) view =
    each_append IsNoOrder (coordinator.install_row p.coordinator view).effects.sends
    (dih.install_row p.dih view.number).effects.sends (coordinator_installs_none p.coordinator view)
    (dih_installs_none p.dih view.number)
entered_none (Ldm p) view = tt

-- the shell's host
shell_words : (parts : Parts) (p : ShellPart) → parts ≡ Shell p → (body : Body) → parts_words parts body ≡ true
    → is_order body ≡ false
shell_words (Shell q) p is (Epoch (GcpReq by)) word = refl
shell_words (Shell q) p is (Epoch MicroReq) word = refl
shell_words (Shell q) p is (Epoch signal) word = absurd cc
shell_words (Shell q) p is body word = refl
shell_words (Main q) p is body word = absurd cc
shell_words (Tc q) p is body word = absurd cc
shell_words (Ldm q) p is body word = absurd cc

pub shell_sends_none : (h : ℕ) (s : hosts.HostBody) (x : Signal) (p : ShellPart) → s.parts ≡ Shell p
    → AreNoOrders (step_by h s x).effects.sends
shell_sends_none h s x p is =
    (step_words (λ body. is_order body ≡ false) (λ (mark : Mark). Unit {0}) h s x (shell_words s.parts p is)
    (λ mark is. tt)).0

-- a host of rows
ldm_rows : (p : LdmPart) (b : BlockId) (x : Signal) → SendsOfRows (ldm_row p b x)
unfolding ldm_row
ldm_rows p block.Lqh x =
    saver_sends (saving p.replica p.saver) x (Each IsOfRows) (replica_tell p.replica x) tt (record {
      goes_on = λ own. (refl, tt);
      reports = λ walk to own walking. (refl, tt);
      confirms = λ finished end ordered walked usable. (refl, tt);
    })
ldm_rows p _ x = tt

ldm_sent : (p : LdmPart) (x : Signal) → IsSent IsOfRows x (Ldm p)
ldm_sent p x = record { row = ldm_rows p x.to.block x; settles = λ view is. tt }

pub rows_send : (h : ℕ) (s : hosts.HostBody) (x : Signal) (p : LdmPart) → s.parts ≡ Ldm p
    → Each IsOfRows (step_by h s x).effects.sends
rows_send h s x p is =
    step_sends IsOfRows h s x (record {
      goes = λ newer barred. by s.parts is;
      enters = enters s.parts is;
      behind = λ newer excluded barred. behind s.parts is;
    })
  where
    by : (parts : Parts) → parts ≡ Ldm p → IsSent IsOfRows x parts
    by (Ldm q) is = ldm_sent q x
    by (Main q) is = absurd cc
    by (Tc q) is = absurd cc
    by (Shell q) is = absurd cc

    enters : (parts : Parts) → parts ≡ Ldm p → Each IsOfRows (parts_entered parts x.view).effects.sends
    enters (Ldm q) is = tt
    enters (Main q) is = absurd cc
    enters (Tc q) is = absurd cc
    enters (Shell q) is = absurd cc

    behind : (parts : Parts) → parts ≡ Ldm p → IsSent IsOfRows x (parts_entered parts x.view).state
    behind (Ldm q) is = ldm_sent _ x
    behind (Main q) is = absurd cc
    behind (Tc q) is = absurd cc
    behind (Shell q) is = absurd cc
