-- Hosts as they begin.
use Rattle.std.specs.Prelude.{ℕ, [], None}
use Rattle.sig_core.specs.declared.member.Member.{Member}
use Rattle.sig_core.specs.Members.{nobody}
use Rattle.sig_core.specs.Rows.{RowsState}
use Rattle.frag_map.specs.Layout.{Layout}
use Rattle.api_views.specs.Members.{is_member}
use Rattle.api_views.specs.State.{fresh_client}
use Rattle.arbiter_block.specs.Arbiter.{fresh_arbiter}
use Rattle.dih_node.specs.Dih.{fresh_dih}
use Rattle.gcp_master.specs.Master.{fresh_master}
use Rattle.lqh_block.specs.Fresh.{no_outlet, unused}
use Rattle.lqh_saver.specs.Saver.{fresh_saver}
use Rattle.lqh_views.specs.Replica.{fresh_replica}
use Rattle.qmgr_block.specs.State.{fresh_qmgr}
use Rattle.takeover_block.specs.State.{resting}
use Rattle.tc_views.specs.Coordinator.{fresh_coordinator}
use Rattle.node_views.specs.declared.host_body.HostBody as hosts
use Rattle.node_views.specs.declared.parts.Parts.TheVariants.{Shell, Main, Tc, Ldm}
use Rattle.node_views.specs.declared.standing.Standing.{Standing}

-- a host of the member begins in this layout
abbrev pub standing_in : Member → Layout → Standing
standing_in member layout =
    record {
      shape = layout.shape;
      member = member;
      view = layout.view;
      has_joined = is_member layout.view member;
      left = None;
      cut = [];
    }

-- the shell's host
abbrev pub fresh_shell : Layout → hosts.HostBody
fresh_shell layout =
    record {
      standing = standing_in nobody layout;
      parts = Shell (record {
        client = fresh_client layout.shape.nodes layout.view;
        arbiter = fresh_arbiter layout.view.full;
      });
    }

-- the parts of a member: its main part, with its current epoch
abbrev pub fresh_main : Member → Layout → ℕ → hosts.HostBody
fresh_main member layout epoch =
    record {
      standing = standing_in member layout;
      parts = Main (record { qmgr = fresh_qmgr member layout; master = fresh_master member layout.view epoch });
    }

-- its coordinating part, in a life that starts from an epoch
abbrev pub fresh_tc : Member → Layout → ℕ → ℕ → hosts.HostBody
fresh_tc member layout epoch start =
    record {
      standing = standing_in member layout;
      parts = Tc (record {
        coordinator = fresh_coordinator member.node member.start layout;
        takeover = resting member.node layout;
        dih = fresh_dih member.node layout.view.number epoch start;
      });
    }

-- the part that has its rows
abbrev pub fresh_ldm : Member → Layout → RowsState → ℕ → hosts.HostBody
fresh_ldm member layout rows start =
    record {
      standing = standing_in member layout;
      parts = Ldm (record {
        replica = fresh_replica member.node layout rows unused no_outlet start;
        saver = fresh_saver start 0;
        fence = layout.view.number;
      });
    }
