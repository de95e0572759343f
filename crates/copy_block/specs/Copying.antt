-- What the copying does, signal by signal.
use Rattle.sig_core.specs.declared.member.Member.{Member}
use Rattle.sig_core.specs.declared.signal.Body.{Body}
use Rattle.sig_core.specs.declared.signal.Body.TheVariants.{Copying, Epoch, Host, Joining}
use Rattle.sig_core.specs.declared.signal.Signal.{Signal}
use Rattle.sig_core.specs.declared.signal.copying.CopyingSignal.{CopyingSignal}
use Rattle.sig_core.specs.declared.signal.copying.CopyingSignal.TheVariants.{CopyFragConf, CopyFragReq, CopyKeyConf}
use Rattle.sig_core.specs.declared.signal.copying.CopyingSignal.TheVariants.{CopyKeyRef, CopyRowConf, LqhScanConf}
use Rattle.sig_core.specs.declared.signal.epoch.EpochSignal.TheVariants.{GcpRep}
use Rattle.sig_core.specs.declared.signal.host.HostSignal.TheVariants.{Continue}
use Rattle.sig_core.specs.declared.signal.host.Work.TheVariants.{Members}
use Rattle.sig_core.specs.declared.signal.joining.JoiningSignal.{JoiningSignal}
use Rattle.sig_core.specs.declared.signal.joining.JoiningSignal.TheVariants.{CopyOrd, CopySaveConf, DrainConf}
use Rattle.sig_core.specs.declared.signal.joining.JoiningSignal.TheVariants.{DrainWait}
use Rattle.sig_core.specs.declared.view.View.{View}
use Rattle.sig_core.specs.Step.{Step, stay}
use Rattle.copy_block.specs.Feeding.{fragment_row, named_row, refused_row, scan_row, taken_row}
use Rattle.copy_block.specs.Joinings.{closed_row, copied_row, drained_row, go_on_row, order_row, saved_row, wait_row}
use Rattle.copy_block.specs.State.{CopyState, in_view}

-- what the copying does at a signal of a joining, by who sent it
abbrev pub joining_table : CopyState → Member → JoiningSignal → Step CopyState
joining_table s from (CopyOrd member own) = order_row s member own
joining_table s from DrainConf = drained_row s from
joining_table s from (DrainWait tx) = wait_row s tx
joining_table s from CopySaveConf = saved_row s from
joining_table s from _ = stay s

-- what it does at a signal about rows
abbrev pub copying_table : CopyState → Member → CopyingSignal → Step CopyState
copying_table s from (CopyFragReq member fragment own) =
    fragment_row s
    (record { from = from.node; joiner = record { member = member; own = own }; fragment = fragment })
copying_table s from CopyFragConf = copied_row s
copying_table s from (LqhScanConf row epoch next) = scan_row s row epoch next
copying_table s from CopyRowConf = taken_row s
copying_table s from CopyKeyConf = named_row s
copying_table s from CopyKeyRef = refused_row s
copying_table s from _ = stay s

-- what it does, by who sent a signal and what it says. It leaves the others alone
abbrev pub copy_table : CopyState → Member → Body → Step CopyState
copy_table s from (Joining signal) = joining_table s from signal
copy_table s from (Copying signal) = copying_table s from signal
copy_table s from (Epoch (GcpRep epoch)) = closed_row s
copy_table s from (Host (Continue Members at)) = go_on_row s at
copy_table s from _ = stay s

-- what it does at each signal
abbrev pub copy_row : CopyState → Signal → Step CopyState
copy_row s x = copy_table s x.member x.body

-- a view is installed
abbrev pub copy_installed : CopyState → View → Step CopyState
copy_installed s view = stay (in_view s view)
