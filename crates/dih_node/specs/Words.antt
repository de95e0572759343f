-- The words of a node's epochs: all that they ever send, and all that marks their steps.
use Rattle.std.specs.Prelude.{ℕ, Bool, true, false}
use Rattle.sig_core.specs.declared.mark.Mark.{Mark}
use Rattle.sig_core.specs.declared.mark.Mark.TheVariants.{Decided}
use Rattle.sig_core.specs.declared.signal.Body.{Body}
use Rattle.sig_core.specs.declared.signal.Body.TheVariants.{Host, Membership, Epoch}
use Rattle.sig_core.specs.declared.signal.Signal.{Signal}
use Rattle.sig_core.specs.declared.signal.epoch.EpochSignal.TheVariants.{DiVerifyConf, GcpPrepareConf, GcpNodeFinish}
use Rattle.sig_core.specs.declared.signal.epoch.EpochSignal.TheVariants.{GcpClosedConf, CopyGciConf, GcpStateConf}
use Rattle.sig_core.specs.declared.signal.host.HostSignal.TheVariants.{Continue}
use Rattle.sig_core.specs.declared.signal.host.Work.TheVariants.{Held}
use Rattle.sig_core.specs.declared.signal.membership.MembershipSignal.TheVariants.{FenceConf}
use Rattle.step_forms.specs.Does.{Speaks}
use Rattle.dih_node.specs.Dih.{dih_row}
use Rattle.dih_node.specs.Orders.{install_row}
use Rattle.dih_node.specs.State.{DihState}

-- they give epochs, answer masters, confirm fences, and tell themselves to go on with what they hold
abbrev pub is_dih_word : Body → Bool
is_dih_word (Epoch (DiVerifyConf tx epoch)) = true
is_dih_word (Epoch (GcpPrepareConf epoch)) = true
is_dih_word (Epoch (GcpNodeFinish epoch)) = true
is_dih_word (Epoch (GcpClosedConf epoch)) = true
is_dih_word (Epoch (CopyGciConf epoch)) = true
is_dih_word (Epoch (GcpStateConf current prepared next closed saved durable)) = true
is_dih_word (Membership FenceConf) = true
is_dih_word (Host (Continue Held at)) = true
is_dih_word _ = false

-- they decide transactions
abbrev pub is_dih_mark : Mark → Bool
is_dih_mark (Decided tx epoch) = true
is_dih_mark _ = false

-- whatever they take, and whatever view is installed
abbrev pub DihKeepsToItsWords : Type 0
DihKeepsToItsWords =
    ((s : DihState) (x : Signal) → Speaks is_dih_word is_dih_mark (dih_row s x))
    × ((s : DihState) (number : ℕ) → Speaks is_dih_word is_dih_mark (install_row s number))
