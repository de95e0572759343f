-- What the blocks of a host may ever send and mark, block by block and for all that a part runs.
use Rattle.std.specs.Prelude.{◌||◌, Bool, true, false}
use Rattle.sig_core.specs.declared.mark.Mark.{Mark}
use Rattle.sig_core.specs.declared.mark.Mark.TheVariants.{CutOff, Installed, Stopped}
use Rattle.sig_core.specs.declared.place.BlockId.{BlockId}
use Rattle.sig_core.specs.declared.place.BlockId.TheVariants as block
use Rattle.sig_core.specs.declared.signal.Body.{Body}
use Rattle.sig_core.specs.declared.signal.Signal.{Signal}
use Rattle.sig_core.specs.declared.view.View.{View}
use Rattle.step_forms.specs.Does.{Speaks}
use Rattle.api_views.specs.Words.{is_client_mark, is_client_word}
use Rattle.arbiter_block.specs.Words.{is_arbiter_mark, is_arbiter_word}
use Rattle.dih_node.specs.Words.{is_dih_mark, is_dih_word}
use Rattle.gcp_master.specs.Words.{is_master_mark, is_master_word}
use Rattle.lqh_saver.specs.Words.{is_saver_word}
use Rattle.lqh_views.specs.Words.{is_replica_mark}
use Rattle.qmgr_block.specs.Words.{is_qmgr_mark, is_qmgr_word}
use Rattle.takeover_block.specs.Words.{is_takeover_mark, is_takeover_word}
use Rattle.tc_views.specs.Words.{is_coordinator_mark, is_coordinator_word}
use Rattle.node_views.specs.Blocks.{parts_entered, parts_row}
use Rattle.node_views.specs.declared.host_body.HostBody as hosts
use Rattle.node_views.specs.declared.parts.Parts.{Parts}
use Rattle.node_views.specs.declared.parts.Parts.TheVariants.{Shell, Main, Tc, Ldm}
use Rattle.node_views.specs.Row.{host_row}

-- of each block
abbrev pub block_words : BlockId → Body → Bool
block_words block.Api body = is_client_word body
block_words block.Arbiter body = is_arbiter_word body
block_words block.Qmgr body = is_qmgr_word body
block_words block.GcpMaster body = is_master_word body
block_words block.Tc body = is_coordinator_word body
block_words block.Takeover body = is_takeover_word body
block_words block.Dih body = is_dih_word body
block_words block.Lqh body = is_saver_word body
block_words _ body = false

abbrev pub block_marks : BlockId → Mark → Bool
block_marks block.Api mark = is_client_mark mark
block_marks block.Arbiter mark = is_arbiter_mark mark
block_marks block.Qmgr mark = is_qmgr_mark mark
block_marks block.GcpMaster mark = is_master_mark mark
block_marks block.Tc mark = is_coordinator_mark mark
block_marks block.Takeover mark = is_takeover_mark mark
block_marks block.Dih mark = is_dih_mark mark
block_marks block.Lqh mark = is_replica_mark mark
block_marks _ mark = false

-- of all blocks of a part
abbrev pub parts_words : Parts → Body → Bool
parts_words (Shell p) body = is_client_word body || is_arbiter_word body
parts_words (Main p) body = is_qmgr_word body || is_master_word body
parts_words (Tc p) body = is_coordinator_word body || (is_takeover_word body || is_dih_word body)
parts_words (Ldm p) body = is_saver_word body

abbrev pub parts_marks : Parts → Mark → Bool
parts_marks (Shell p) mark = is_client_mark mark || is_arbiter_mark mark
parts_marks (Main p) mark = is_qmgr_mark mark || is_master_mark mark
parts_marks (Tc p) mark = is_coordinator_mark mark || (is_takeover_mark mark || is_dih_mark mark)
parts_marks (Ldm p) mark = is_replica_mark mark

-- the marks that a host makes of its own
abbrev pub is_host_mark : Mark → Bool
is_host_mark (Stopped cause) = true
is_host_mark (Installed view) = true
is_host_mark (CutOff host) = true
is_host_mark _ = false

abbrev pub host_marks : Parts → Mark → Bool
host_marks parts mark = is_host_mark mark || parts_marks parts mark

-- A host sends and marks what the blocks of its part may, whatever it takes and whatever view is installed. What is
-- sent at a signal the block may say that the signal is for.
pub record HostsKeepToTheirWords : Type 0 where
  pub at_blocks : (parts : Parts) (x : Signal)
      → Speaks (block_words x.to.block) (block_marks x.to.block) (parts_row parts x)
  pub at_signals : (parts : Parts) (x : Signal) → Speaks (parts_words parts) (parts_marks parts) (parts_row parts x)
  pub at_installations : (parts : Parts) (view : View)
      → Speaks (parts_words parts) (parts_marks parts) (parts_entered parts view)
  pub of_hosts : (s : hosts.HostBody) (x : Signal) → Speaks (parts_words s.parts) (host_marks s.parts) (host_row s x)
