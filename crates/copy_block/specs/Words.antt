-- The words of the copying: all that it ever sends. It marks nothing.
use Rattle.std.specs.Prelude.{Bool, true, false}
use Rattle.sig_core.specs.declared.mark.Mark.{Mark}
use Rattle.sig_core.specs.declared.signal.Body.{Body}
use Rattle.sig_core.specs.declared.signal.Body.TheVariants.{Copying, Epoch, Host, Joining}
use Rattle.sig_core.specs.declared.signal.Signal.{Signal}
use Rattle.sig_core.specs.declared.signal.copying.CopyingSignal.TheVariants.{CopyFragConf, CopyFragReq, CopyKeyReq}
use Rattle.sig_core.specs.declared.signal.copying.CopyingSignal.TheVariants.{CopyRowReq, LqhScanReq, LqhUnlock}
use Rattle.sig_core.specs.declared.signal.epoch.EpochSignal.TheVariants.{GcpReq}
use Rattle.sig_core.specs.declared.signal.host.HostSignal.TheVariants.{Continue}
use Rattle.sig_core.specs.declared.signal.host.Work.TheVariants.{Members}
use Rattle.sig_core.specs.declared.signal.joining.JoiningSignal.TheVariants.{CopySaveReq, DrainReq, DrainWait}
use Rattle.sig_core.specs.declared.signal.joining.JoiningSignal.TheVariants.{PromoteReq}
use Rattle.sig_core.specs.declared.view.View.{View}
use Rattle.step_forms.specs.Does.{Speaks}
use Rattle.copy_block.specs.Copying.{copy_installed, copy_row}
use Rattle.copy_block.specs.State.{CopyState}

abbrev pub is_copy_word : Body → Bool
is_copy_word (Epoch (GcpReq by)) = true
is_copy_word (Joining DrainReq) = true
is_copy_word (Joining (DrainWait tx)) = true
is_copy_word (Joining CopySaveReq) = true
is_copy_word (Joining (PromoteReq member)) = true
is_copy_word (Copying (CopyFragReq member fragment own)) = true
is_copy_word (Copying CopyFragConf) = true
is_copy_word (Copying (LqhScanReq fragment at)) = true
is_copy_word (Copying (LqhUnlock key)) = true
is_copy_word (Copying (CopyRowReq row epoch)) = true
is_copy_word (Copying (CopyKeyReq key epoch)) = true
is_copy_word (Host (Continue Members at)) = true
is_copy_word _ = false

abbrev pub is_copy_mark : Mark → Bool
is_copy_mark _ = false

-- whatever the copying takes, and whatever view is installed
pub record CopyKeepsToItsWords : Type 0 where
  pub takes : (s : CopyState) (x : Signal) → Speaks is_copy_word is_copy_mark (copy_row s x)
  pub installs : (s : CopyState) (view : View) → Speaks is_copy_word is_copy_mark (copy_installed s view)
