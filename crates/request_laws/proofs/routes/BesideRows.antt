-- Signals that aren't about the rows of transactions, and blocks that send no others.
use Rattle.std.proofs.Common.{◌≡◌, ℕ, Bool, true, false, List, refl}
use Rattle.run_theory.specs.Lists.{Each}
use Rattle.run_theory.proofs.Pasts.{each_map}
use Rattle.sig_core.specs.declared.member.TxId.{TxId}
use Rattle.sig_core.specs.declared.outs.Outgoing.{Outgoing}
use Rattle.sig_core.specs.declared.place.Place.{Place}
use Rattle.sig_core.specs.declared.signal.Body.{Body}
use Rattle.sig_core.specs.declared.signal.Body.TheVariants.{Chain, Host, Takeover}
use Rattle.sig_core.specs.declared.signal.Signal.{Signal}
use Rattle.sig_core.specs.declared.signal.host.HostSignal.TheVariants.{Continue}
use Rattle.sig_core.specs.declared.signal.host.Work.TheVariants.{Transaction as Sends}
use Rattle.sig_core.specs.declared.signal.takeover.TakeoverSignal.TheVariants.{LqhTransConf, LqhTransEnd, LqhTransReq}
use Rattle.sig_core.specs.declared.view.View.{View}
use Rattle.frag_map.specs.Layout.{Layout}
use Rattle.step_forms.specs.Does.{IsWord}
use Rattle.api_views.specs.Client.{client_row}
use Rattle.api_views.specs.State.{ClientState}
use Rattle.api_views.specs.Words.{is_client_word}
use Rattle.api_views.proofs.Walk.{client_words}
use Rattle.arbiter_block.specs.Arbiter.{ArbiterState, arbiter_row}
use Rattle.dih_node.specs.Dih.{dih_row}
use Rattle.dih_node.specs.Orders as dih
use Rattle.dih_node.specs.State.{DihState}
use Rattle.dih_node.specs.Words.{is_dih_word}
use Rattle.dih_node.proofs.Walk.{dih_words}
use Rattle.gcp_master.specs.Master.{master_row}
use Rattle.gcp_master.specs.State.{MasterState}
use Rattle.qmgr_block.specs.Qmgr.{qmgr_installed, qmgr_row}
use Rattle.qmgr_block.specs.State.{QmgrState}
use Rattle.outcome_laws.proofs.epochs.Silent.{AreSilent, IsSilent, is_telling}
use Rattle.outcome_laws.proofs.knowledge.MasterTellsNothing.{master_tells_nothing}
use Rattle.outcome_laws.proofs.knowledge.MembershipTellsNothing.{membership_installs_nothing, membership_tells_nothing}
use Rattle.outcome_laws.proofs.knowledge.TellsNothing.{AreUntold, untold_silent}
use Rattle.outcome_laws.proofs.knowledge.Parts.{arbiter_tells_nothing}
use Rattle.request_laws.specs.Orphans.{TellsOf}
use Rattle.request_laws.specs.Routes.{IsRouted, IsSentRouted}

-- a signal of chains, one that goes on with what is sent of a transaction, or one by which a takeover asks for a
-- report, is told of a transaction, or is told the end
abbrev pub is_of_rows : Body → Bool
is_of_rows (Chain signal) = true
is_of_rows (Host (Continue (Sends tx) at)) = true
is_of_rows (Takeover (LqhTransConf tx key told epoch)) = true
is_of_rows (Takeover LqhTransReq) = true
is_of_rows (Takeover LqhTransEnd) = true
is_of_rows body = false

abbrev pub IsAside : Outgoing → Type 0
IsAside sent = is_of_rows sent.body ≡ false

abbrev pub AreAside : List Outgoing → Type 0
AreAside sends = Each IsAside sends

-- it is routed anyhow, and tells a takeover nothing
module _ (layout : Layout) (A D G : TxId → Type 0) where
  pub aside_routed : (to : Place) (body : Body) → is_of_rows body ≡ false → IsRouted layout A D G to body
  aside_routed to (Chain signal) aside = absurd cc
  aside_routed to (Host (Continue (Sends tx) at)) aside = absurd cc
  aside_routed to body aside = tt

  pub all_aside_routed : (sends : List Outgoing) → AreAside sends → Each (IsSentRouted layout A D G) sends
  all_aside_routed sends all =
      each_map IsAside (IsSentRouted layout A D G) sends (λ sent aside. aside_routed sent.to sent.body aside) all

pub aside_tells : (D : TxId → Type 0) (body : Body) → is_of_rows body ≡ false → TellsOf D body
aside_tells D (Takeover (LqhTransConf tx key told epoch)) aside = absurd cc
aside_tells D body aside = tt

-- what tells nothing of transactions is none
silent_one : (body : Body) → is_telling body ≡ false → is_of_rows body ≡ false
silent_one (Chain signal) silent = absurd cc
silent_one (Host (Continue (Sends tx) at)) silent = absurd cc
silent_one (Takeover (LqhTransConf tx key told epoch)) silent = absurd cc
silent_one (Takeover LqhTransReq) silent = absurd cc
silent_one (Takeover LqhTransEnd) silent = absurd cc
silent_one body silent = refl

pub silent_aside : (sends : List Outgoing) → AreSilent sends → AreAside sends
silent_aside sends all = each_map IsSilent IsAside sends (λ sent silent. silent_one sent.body silent) all

pub untold_aside : (sends : List Outgoing) → AreUntold sends → AreAside sends
untold_aside sends none = silent_aside sends (untold_silent sends none)

-- a client's side sends none
client_one : (body : Body) → is_client_word body ≡ true → is_of_rows body ≡ false
client_one (Chain signal) is = absurd cc
client_one (Host (Continue (Sends tx) at)) is = absurd cc
client_one (Takeover signal) is = absurd cc
client_one body is = refl

pub client_aside : (s : ClientState) (x : Signal) → AreAside (client_row s x).effects.sends
client_aside s x =
    each_map (IsWord is_client_word) IsAside (client_row s x).effects.sends (λ sent is. client_one sent.body is)
    (client_words s x).0

-- nor does the arbitrator, a membership, a master of checkpoints, or the epochs of a node
pub arbiter_aside : (s : ArbiterState) (x : Signal) → AreAside (arbiter_row s x).effects.sends
arbiter_aside s x = untold_aside (arbiter_row s x).effects.sends (arbiter_tells_nothing s x).0

pub membership_aside : (s : QmgrState) (x : Signal) → AreAside (qmgr_row s x).effects.sends
membership_aside s x = untold_aside (qmgr_row s x).effects.sends (membership_tells_nothing s x).0

pub membership_installs_aside : (s : QmgrState) (view : View) → AreAside (qmgr_installed s view).effects.sends
membership_installs_aside s view =
    untold_aside (qmgr_installed s view).effects.sends (membership_installs_nothing s view).0

pub master_aside : (s : MasterState) (x : Signal) → AreAside (master_row s x).effects.sends
master_aside s x = untold_aside (master_row s x).effects.sends (master_tells_nothing s x).0

epochs_one : (body : Body) → is_dih_word body ≡ true → is_of_rows body ≡ false
epochs_one (Chain signal) is = absurd cc
epochs_one (Host (Continue (Sends tx) at)) is = absurd cc
epochs_one (Takeover signal) is = absurd cc
epochs_one body is = refl

pub epochs_aside : (s : DihState) (x : Signal) → AreAside (dih_row s x).effects.sends
epochs_aside s x =
    each_map (IsWord is_dih_word) IsAside (dih_row s x).effects.sends (λ sent is. epochs_one sent.body is)
    (dih_words.0 s x).0

pub epochs_install_aside : (s : DihState) (number : ℕ) → AreAside (dih.install_row s number).effects.sends
epochs_install_aside s number =
    each_map (IsWord is_dih_word) IsAside (dih.install_row s number).effects.sends
    (λ sent is. epochs_one sent.body is) (dih_words.1 s number).0
