-- In a life that begins without rows the hosts begin alike.
use Rattle.std.proofs.Common.{◌≡◌, ◌∙◌, ◌%◌, ℕ, zero, suc, List, [], refl, ap, sym, subst}
use Rattle.frag_map.specs.Layout.{first_layout}
use Rattle.lqh_block.specs.Fresh.{no_outlet, unused}
use Rattle.lqh_block.specs.Lqh.{unasked_yet}
use Rattle.lqh_block.specs.State.{LqhState}
use Rattle.node_core.specs.Fresh as plain
use Rattle.node_core.specs.Fresh.{own_rows, with_rows}
use Rattle.sig_core.specs.declared.member.Member.{Member}
use Rattle.sig_core.specs.declared.place.Part.{Part}
use Rattle.sig_core.specs.declared.place.Part.TheVariants as part
use Rattle.sig_core.specs.Rows.{RowsState, no_rows}
use Rattle.world_core.specs.Hosts as plain_world
use Rattle.world_core.specs.Hosts.{member_at, part_by}
use Rattle.world_core.specs.Start.{Start, made}
use Rattle.world_views.specs.Hosts.{part_started, started}
use Rattle.world_views.proofs.AllBegin.{started_behind}
use Rattle.calm_laws.specs.Alike.{AreAlike}
use Rattle.calm_laws.specs.Steps.{HostsBeginAlike}

-- without rows nothing is put into any
none_put : (start : Start) (member : Member) (epoch : ℕ) → start.rows ≡ []
    → with_rows no_rows (own_rows start.shape member.node start.rows) epoch ≡ no_rows
none_put start member epoch none =
    ap (λ (rows : List (List ℕ × List ℕ)). with_rows no_rows (own_rows start.shape member.node rows) epoch) none

part_begins : (start : Start) (of : Part) (member : Member) → start.rows ≡ []
    → AreAlike start [] (part_started start of member)
    (plain.fresh_part of member (first_layout start.shape) start.epoch start.rows)
unfolding plain.fresh_part
part_begins start part.Main member none =
    record { standing = record { shape = refl; view = refl; lives = refl; uncut = refl }; parts = tt }
part_begins start part.Tc member none = record {
  standing = record { shape = refl; view = refl; lives = refl; uncut = refl };
  parts = (
    refl,
    record {
      node = refl;
      number = refl;
      fence = refl;
      current = refl;
      next = refl;
      counted = refl;
      held = refl;
      order = refl;
    },
  );
}
part_begins start part.Ldm member none = record {
  standing = record { shape = refl; view = refl; lives = refl; uncut = refl };
  parts = (same, (refl, refl));
}
  where
    of_rows : RowsState → LqhState
    of_rows rows = unasked_yet member.node (first_layout start.shape) rows unused no_outlet

    same : of_rows (with_rows no_rows (own_rows start.shape member.node start.rows) start.start_epoch)
        ≡ of_rows (with_rows no_rows (own_rows start.shape member.node start.rows) start.epoch)
    same =
        ap of_rows
        (none_put start member start.start_epoch none ∙ sym (none_put start member start.epoch none))

pub begin_alike : HostsBeginAlike
unfolding started plain_world.started plain.fresh_shell
begin_alike start nobody zero none = record {
  standing = record { shape = refl; view = refl; lives = refl; uncut = refl };
  parts = (refl, (refl, (refl, refl)));
}
begin_alike start nobody (suc h) none =
    subst (λ s. AreAlike start [] s (plain.fresh_part (part_by (h % 3)) (member_at (made start) (suc h))
    (first_layout start.shape) start.epoch start.rows)) (sym (started_behind start nobody h))
    (part_begins start (part_by (h % 3)) (member_at (made start) (suc h)) none)
