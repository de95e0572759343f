-- Hosts as they begin.
use Rattle.std.specs.Prelude.{ℕ, List, [], ◌∷◌, filter}
use Rattle.sig_core.specs.declared.member.Member.{Member}
use Rattle.sig_core.specs.declared.place.Part.{Part}
use Rattle.sig_core.specs.declared.place.Part.TheVariants as part
use Rattle.sig_core.specs.declared.view.Shape.{Shape}
use Rattle.sig_core.specs.declared.view.View.{View}
use Rattle.sig_core.specs.Rows.{RowsState, no_rows, put_row}
use Rattle.frag_map.specs.Layout.{Layout, holds}
use Rattle.api_block.specs.State as api
use Rattle.lqh_block.specs.Fresh.{no_outlet, unused}
use Rattle.lqh_block.specs.Lqh.{unasked_yet}
use Rattle.tc_block.specs.Tc as tc
use Rattle.node_core.specs.declared.host.Host.{Host}
use Rattle.node_core.specs.declared.host.Host.TheVariants.{Shell, Main, Tc, Ldm}
use Rattle.node_core.specs.Dih.{fresh_dih}

-- the shell's host, which was asked for nothing
unfoldable pub fresh_shell : View → Host
fresh_shell view = Shell (api.idle view)

-- rows that were put one after the other, all of this epoch
abbrev pub with_rows : RowsState → List (List ℕ × List ℕ) → ℕ → RowsState
with_rows s [] epoch = s
with_rows s (row ∷ rows) epoch = with_rows (put_row s row.0 row.1 epoch) rows epoch

-- of these rows those that a node's group has
abbrev pub own_rows : Shape → ℕ → List (List ℕ × List ℕ) → List (List ℕ × List ℕ)
own_rows shape node rows = filter (λ (row : List ℕ × List ℕ). holds shape node row.0) rows

-- a part of a member that begins a life in this layout and epoch, with its group's part of these rows, which are of
-- that epoch
unfoldable pub fresh_part : Part → Member → Layout → ℕ → List (List ℕ × List ℕ) → Host
fresh_part part.Main member layout epoch rows = Main (record { member = member })
fresh_part part.Tc member layout epoch rows = Tc (record {
  tc = tc.idle member.node member.start layout;
  dih = fresh_dih member.node epoch;
})
fresh_part part.Ldm member layout epoch rows =
    Ldm (unasked_yet member.node layout (with_rows no_rows (own_rows layout.shape member.node rows) epoch) unused
    no_outlet)
