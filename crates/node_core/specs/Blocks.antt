-- The blocks of a host. A host that doesn't run a block has one in its place that nobody asked for anything.
use Rattle.std.specs.Prelude.{Bool, true, false}
use Rattle.sig_core.specs.Rows.{no_rows}
use Rattle.frag_map.specs.Layout.{nowhere}
use Rattle.api_block.specs.State as api
use Rattle.lqh_block.specs.Fresh.{no_outlet, unused}
use Rattle.lqh_block.specs.Lqh.{unasked_yet}
use Rattle.lqh_block.specs.State.{LqhState}
use Rattle.tc_block.specs.State.{TcState}
use Rattle.tc_block.specs.Tc as tc
use Rattle.node_core.specs.declared.host.Host.{Host}
use Rattle.node_core.specs.declared.host.Host.TheVariants.{Shell, Tc, Ldm}
use Rattle.node_core.specs.Dih.{DihState, fresh_dih}

-- the API
abbrev pub api_of : Host → api.ApiState
api_of (Shell s) = s
api_of _ = api.idle nowhere.view

-- the coordinator
abbrev pub tc_of : Host → TcState
tc_of (Tc p) = p.tc
tc_of _ = tc.idle 0 0 nowhere

-- the block of epochs
abbrev pub dih_of : Host → DihState
dih_of (Tc p) = p.dih
dih_of _ = fresh_dih 0 0

-- the rows
abbrev pub lqh_of : Host → LqhState
lqh_of (Ldm s) = s
lqh_of _ = unasked_yet 0 nowhere no_rows unused no_outlet

-- the host runs the API, a coordinator and epochs, rows
abbrev pub has_api : Host → Bool
has_api (Shell s) = true
has_api _ = false

abbrev pub has_tc : Host → Bool
has_tc (Tc p) = true
has_tc _ = false

abbrev pub has_lqh : Host → Bool
has_lqh (Ldm s) = true
has_lqh _ = false
