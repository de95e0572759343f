-- What the blocks of a part send is no vote, but for what the membership and the arbitrator do at their signals, and
-- where fences are confirmed.
use Rattle.std.proofs.Common.{◌≡◌, ℕ, Bool, true, false, refl, inl}
use Rattle.std.specs.Prelude.{None}
use Rattle.run_theory.proofs.Pasts.{each_append}
use Rattle.sig_core.specs.declared.member.Member.{Member}
use Rattle.sig_core.specs.declared.place.BlockId.{BlockId}
use Rattle.sig_core.specs.declared.place.BlockId.TheVariants as block
use Rattle.sig_core.specs.declared.signal.Signal.{Signal}
use Rattle.sig_core.specs.declared.view.View.{View}
use Rattle.dih_node.specs.Orders as dih
use Rattle.lqh_saver.specs.State.{saving}
use Rattle.lqh_saver.proofs.StepLemmas.{saver_sends}
use Rattle.node_views.specs.Blocks.{parts_entered, parts_row}
use Rattle.node_views.specs.Parts.{ldm_row, tc_row}
use Rattle.node_views.specs.declared.ldm_part.LdmPart.{LdmPart}
use Rattle.node_views.specs.declared.parts.Parts.{Parts}
use Rattle.node_views.specs.declared.parts.Parts.TheVariants.{Shell, Main, Tc, Ldm}
use Rattle.node_views.specs.declared.tc_part.TcPart.{TcPart}
use Rattle.qmgr_block.specs.Install.{installed_row, installing, is_oldest, is_some_suspect, left_by}
use Rattle.qmgr_block.specs.Qmgr.{qmgr_installed}
use Rattle.qmgr_block.specs.State.{QmgrState}
use Rattle.tc_views.specs.Views as coordinator
use Rattle.view_laws.specs.Votes.{arbiter_in, membership_in}
use Rattle.view_laws.proofs.votes.OtherBlocks.{coordinator_installs_none, coordinator_quiet, dih_installs_none}
use Rattle.view_laws.proofs.votes.OtherBlocks.{dih_quiet, replica_quiet, takeover_none}
use Rattle.view_laws.proofs.votes.NoVotes.{AreNoVotes, AreQuiet, IsNoVote, SendsNoVote}

left_none : (me : Member) (b c : Bool) → AreNoVotes (left_by me b c)
left_none me true c = (refl, tt)
left_none me false true = (refl, tt)
left_none me false false = tt

installed_none : (s : QmgrState) (view : View) → SendsNoVote (qmgr_installed s view)
unfolding installed_row
installed_none s view =
    let k = installing s.known view in
    left_none k.me (is_oldest k) (is_some_suspect k.suspects)

-- where a view is installed
pub entered_none : (parts : Parts) (view : View) → SendsNoVote (parts_entered parts view)
entered_none (Shell p) view = tt
entered_none (Main p) view = installed_none p.qmgr view
entered_none (Tc p) view =
    each_append IsNoVote (coordinator.install_row p.coordinator view).effects.sends
    (dih.install_row p.dih view.number).effects.sends (coordinator_installs_none p.coordinator view)
    (dih_installs_none p.dih view.number)
entered_none (Ldm p) view = tt

-- the node that a block of these parts knows as its own
abbrev pub own_node : Parts → BlockId → ℕ
own_node (Tc p) block.Dih = p.dih.node
own_node (Tc p) b = p.coordinator.tc.node
own_node (Ldm p) b = p.replica.lqh.node
own_node _ b = 0

-- at a signal
tc_quiet : (p : TcPart) (b : BlockId) (x : Signal) → AreQuiet (own_node (Tc p) b) x.body (tc_row p b x).effects.sends
unfolding tc_row
tc_quiet p block.Tc x = coordinator_quiet p.coordinator x
tc_quiet p block.Takeover x = inl (takeover_none p.takeover x)
tc_quiet p block.Dih x = dih_quiet p.dih x
tc_quiet p _ x = inl tt

ldm_quiet : (p : LdmPart) (b : BlockId) (x : Signal)
    → AreQuiet (own_node (Ldm p) b) x.body (ldm_row p b x).effects.sends
unfolding ldm_row
ldm_quiet p block.Lqh x =
    saver_sends (saving p.replica p.saver) x (AreQuiet p.replica.lqh.node x.body) (replica_quiet p.replica x) (inl tt)
    (record {
      goes_on = λ own. inl (refl, tt);
      reports = λ walk to own walking. inl (refl, tt);
      confirms = λ finished end ordered walked usable. inl (refl, tt);
    })
ldm_quiet p _ x = inl tt

-- a part that runs neither of them
pub others_quiet : (parts : Parts) (x : Signal) → membership_in parts ≡ None → arbiter_in parts ≡ None
    → AreQuiet (own_node parts x.to.block) x.body (parts_row parts x).effects.sends
others_quiet (Shell p) x no_membership no_arbiter = absurd cc
others_quiet (Main p) x no_membership no_arbiter = absurd cc
others_quiet (Tc p) x no_membership no_arbiter = tc_quiet p x.to.block x
others_quiet (Ldm p) x no_membership no_arbiter = ldm_quiet p x.to.block x

-- an installation doesn't change that
pub still_others : (parts : Parts) (view : View) → membership_in parts ≡ None → arbiter_in parts ≡ None
    → (membership_in (parts_entered parts view).state ≡ None) × (arbiter_in (parts_entered parts view).state ≡ None)
still_others (Shell p) view no_membership no_arbiter = absurd cc
still_others (Main p) view no_membership no_arbiter = absurd cc
still_others (Tc p) view no_membership no_arbiter = (refl, refl)
still_others (Ldm p) view no_membership no_arbiter = (refl, refl)
