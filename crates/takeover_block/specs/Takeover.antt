-- What a takeover does, signal by signal.
use Rattle.sig_core.specs.declared.signal.Body.{Body}
use Rattle.sig_core.specs.declared.signal.Body.TheVariants.{Host, Chain, Takeover}
use Rattle.sig_core.specs.declared.signal.Signal.{Signal}
use Rattle.sig_core.specs.declared.signal.chain.ChainSignal.TheVariants.{Committed, Completed, Aborted}
use Rattle.sig_core.specs.declared.signal.host.HostSignal.TheVariants.{Continue}
use Rattle.sig_core.specs.declared.signal.host.Work.TheVariants.{Transaction, Members}
use Rattle.sig_core.specs.declared.signal.takeover.TakeoverSignal.TheVariants.{TakeoverOrd, LqhTransConf, LqhTransEnd}
use Rattle.sig_core.specs.Step.{Step, stay}
use Rattle.takeover_block.specs.Abort.{aborted_row}
use Rattle.takeover_block.specs.Commit.{committed_row, completed_row}
use Rattle.takeover_block.specs.Gather.{ask_row, end_row, order_row, tell_row}
use Rattle.takeover_block.specs.Rule.{go_on_row}
use Rattle.takeover_block.specs.State.{TakeoverState}

-- what the takeover does, by what a signal says. It leaves the others alone
abbrev pub takeover_table : TakeoverState → Body → Step TakeoverState
takeover_table s (Takeover TakeoverOrd) = order_row s
takeover_table s (Takeover (LqhTransConf tx key state epoch)) = tell_row s tx key state epoch
takeover_table s (Takeover LqhTransEnd) = end_row s
takeover_table s (Chain (Committed tx key)) = committed_row s tx
takeover_table s (Chain (Completed tx key)) = completed_row s tx
takeover_table s (Chain (Aborted tx key)) = aborted_row s tx
takeover_table s (Host (Continue (Transaction tx) at)) = go_on_row s tx at
takeover_table s (Host (Continue Members at)) = ask_row s at
takeover_table s _ = stay s

-- what the takeover does at each signal
abbrev pub takeover_row : TakeoverState → Signal → Step TakeoverState
takeover_row s x = takeover_table s x.body
