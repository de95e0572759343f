-- A member begins with the rows of its group: it has those of the keys that its node holds, and no others.
use Rattle.std.proofs.Common.{◌≡◌, ◌∙◌, ℕ, Bool, true, false, List, [], ◌∷◌, get_or, refl, sym, ap}
use Rattle.std.proofs.lemmas.Bool.{eqb-true, true≢false}
use Rattle.std.specs.FinMap as map
use Rattle.std.specs.Prelude.{if◌then◌else◌, None, Some}
use Rattle.run_theory.specs.Lists.{IsIn}
use Rattle.frag_map.specs.Fragment.{group_of_key}
use Rattle.frag_map.specs.Layout.{holds}
use Rattle.frag_map.specs.Shape.{group_of}
use Rattle.sig_core.specs.Rows.{RowsState, no_rows, put_row, row_of, with_place}
use Rattle.sig_core.specs.Same.{same_key}
use Rattle.sig_core.specs.declared.member.Member.{Member}
use Rattle.sig_core.specs.declared.view.Shape.{Shape}
use Rattle.sys_restart.specs.Calls.{rows_of_node}
use Rattle.row_records.proofs.KeyLemmas.{same}
use Rattle.row_records.proofs.PlaceLemmas.{has-own_place, row-set_row, row-with_place, row_at, row_of-at}
use Rattle.node_core.specs.Fresh.{own_rows, with_rows}
use Rattle.node_views.specs.declared.host_body.HostBody as node
use Rattle.world_core.specs.Start.{NobodyStarts, Start, made}
use Rattle.view_laws.proofs.runs.FirstMembers.{node_low, node_some}
use Rattle.moment_laws.proofs.MomentHosts.{ldm_started}
use Rattle.request_laws.specs.Blocks.{no_replica, rows_in}
use Rattle.journal_laws.specs.Journal.{first_rows}
use Rattle.saved_laws.proofs.rows.Replicas.{row_begins}
use Rattle.restart_laws.specs.Lived.{RowsBegin, start_behind}
use Rattle.restart_laws.proofs.begun.Groups.{group_has}

-- of the rows that a node has of some none is of a key that it doesn't hold
own_stay : (shape : Shape) (node epoch : ℕ) (s : RowsState) (rows : List (List ℕ × List ℕ)) (key : List ℕ)
    → holds shape node key ≡ false
    → row_at (with_rows s (own_rows shape node rows) epoch).places key ≡ row_at s.places key
own_stay shape node epoch s [] key off = refl
own_stay shape node epoch s (row ∷ rows) key off =
    by (holds shape node row.0) refl (own_stay shape node epoch (put_row s row.0 row.1 epoch) rows key off)
    (own_stay shape node epoch s rows key off)
  where
    -- a row that it has is of another key
    other : holds shape node row.0 ≡ true → (b : Bool) → same_key row.0 key ≡ b
        → (if b then Some row.1 else row_at s.places key) ≡ row_at s.places key
    other held true own = absurd (true≢false (sym held ∙ ap (holds shape node) (same row.0 key own) ∙ off))
    other held false own = refl

    put : holds shape node row.0 ≡ true
        → row_at (put_row s row.0 row.1 epoch).places key ≡ row_at s.places key
    put held =
        row-set_row (with_place s.places row.0) row.0 key (Some row.1) epoch (has-own_place s.places row.0)
        ∙ ap (λ w. if same_key row.0 key then Some row.1 else w) (row-with_place 0 s.places row.0 key)
        ∙ other held (same_key row.0 key) refl

    by : (b : Bool) → holds shape node row.0 ≡ b
        → row_at (with_rows (put_row s row.0 row.1 epoch) (own_rows shape node rows) epoch).places key
        ≡ row_at (put_row s row.0 row.1 epoch).places key
        → row_at (with_rows s (own_rows shape node rows) epoch).places key ≡ row_at s.places key
        → row_at (with_rows s (if b then row ∷ own_rows shape node rows else own_rows shape node rows) epoch).places key
        ≡ row_at s.places key
    by true held own without = own ∙ put held
    by false is own without = without

-- so a member begins with none of such a key
others_begin : (start : Start) (nobody : NobodyStarts start) (member : Member) (key : List ℕ) → IsIn member (made start)
    → holds start.shape member.node key ≡ false → row_of (first_rows start member) key ≡ None
others_begin start nobody member key there off =
    ap (λ (s : node.HostBody). row_of (rows_in (no_replica start member) s.parts).lqh.rows key)
    (ldm_started start nobody member there)
    ∙ row_of-at (with_rows no_rows (own_rows start.shape member.node start.rows) start.start_epoch) key
    ∙ own_stay start.shape member.node start.start_epoch no_rows start.rows key off

pub rows_begin : RowsBegin
rows_begin shape r member may there key = by (holds shape member.node key) refl
  where
    start : Start
    start = start_behind shape r

    by : (b : Bool) → holds shape member.node key ≡ b
        → map.get (rows_of_node shape member.node r) key ≡ row_of (first_rows start member) key
    by true held =
        ap (λ group. map.get (get_or r.groups group map.empty) key)
        (eqb-true (group_of shape member.node) (group_of_key shape key) held)
        ∙ sym (group_has shape r may key) ∙ sym (row_begins start refl member key held there)
    by false off =
        may.grouped member.node key (node_some start refl member there) (node_low start refl member there) off
        ∙ sym (others_begin start refl member key there off)
