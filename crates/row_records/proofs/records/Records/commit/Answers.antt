use Rattle.std.proofs.Common.{◌≡◌, ◌∙◌, ap, map, refl}
use Rattle.std.specs.Prelude.{slice_get}
use Rattle.row_records.specs.Records.{committed_at, record_in}
use Rattle.row_records.proofs.RecordLemmas.{set_committed}
use Rattle.row_records.proofs.records.Records.commit.Goals as goal

pub returns : goal.returns
returns c =
    let pending : map record_in c.self.inside.entries.entries ≡ c.args.self.now.pending =
    ap (λ s. s.pending) c.self.view_is in
    set_committed c.self.inside.entries.entries c.args.at c.args.epoch c.index_mut-version.result.now _
    c.index_mut-version.ensures.value refl
    ∙ ap (λ p. committed_at p c.args.at c.args.epoch (slice_get p c.args.at)) pending
