-- Hosts as they begin.
use Rattle.std.proofs.Common.{◌≡◌, ℕ, suc, ◌+◌, ◌%◌, List, [], ◌∷◌, ◌++◌, refl, ap, sym, ◌∙◌, arith}
use Rattle.sig_core.specs.declared.member.Member.{Member}
use Rattle.sig_core.specs.declared.place.Part.{Part}
use Rattle.sig_core.specs.Rows.{RowsState, put_row}
use Rattle.frag_map.specs.Layout.{Layout, first_layout}
use Rattle.node_core.specs.Fresh.{with_rows}
use Rattle.node_views.specs.declared.host_body.HostBody.{HostBody}
use Rattle.node_views.specs.Fresh.{fresh_shell}
use Rattle.world_core.specs.Hosts.{member_at, part_by}
use Rattle.world_core.specs.Start.{NobodyStarts, Start, made}
use Rattle.world_views.specs.Hosts.{part_started, started}
use Rattle.world_views.proofs.AllBegin.{started_behind}

-- the first of all is put behind none
pub first_put : (none items : List HostBody) (host first : HostBody) → items ≡ none ++ host ∷ [] → none ≡ []
    → host ≡ first
    → items ≡ first ∷ []
first_put none items host first put are is = put ∙ ap (λ hosts. hosts ++ host ∷ []) are ∙ ap (λ h. h ∷ []) is

module _ (start : Start) where
  -- the shell's host
  pub shell_begins : (layout : Layout) (shell : HostBody) → layout ≡ first_layout start.shape
      → shell ≡ fresh_shell layout
      → shell ≡ started start 0
  unfolding started
  shell_begins layout shell first is = is ∙ ap fresh_shell first

  -- one of a member
  pub part_begins : NobodyStarts start
      → (k : ℕ) (there : List Member) (layout : Layout) (part : Part) (member : Member) (body : HostBody)
      → there ≡ made start → layout ≡ first_layout start.shape → part ≡ part_by (k % 3)
      → member ≡ member_at there (k + 1)
      → body ≡ part_started (record {
        shape = layout.shape;
        epoch = start.epoch;
        start_epoch = start.start_epoch;
        rows = start.rows;
        late = start.late;
      }) part member
      → body ≡ started start (k + 1)
  part_begins nobody k there layout part member body are first part_is member_is is =
      let next : k + 1 ≡ suc k = omega arith in
      is
      ∙ ap (λ (l : Layout). part_started (record {
        shape = l.shape;
        epoch = start.epoch;
        start_epoch = start.start_epoch;
        rows = start.rows;
        late = start.late;
      }) part member) first
      ∙ ap (λ p. part_started start p member) part_is
      ∙ ap (part_started start (part_by (k % 3)))
      (member_is ∙ ap (λ n. member_at there n) next ∙ ap (λ ms. member_at ms (suc k)) are)
      ∙ sym (ap (started start) next ∙ started_behind start nobody k)

-- no record is at work on rows that were put
pub none_pending : (s : RowsState) (rows : List (List ℕ × List ℕ)) (epoch : ℕ)
    → (with_rows s rows epoch).pending ≡ s.pending
none_pending s [] epoch = refl
none_pending s (row ∷ rows) epoch = none_pending (put_row s row.0 row.1 epoch) rows epoch
