use Rattle.std.proofs.Common.{◌≡◌, ◌∙◌, ap, map}
use Rattle.std.specs.Prelude.{remove}
use Rattle.row_records.specs.Records.{record_in}
use Rattle.row_records.proofs.RecordLemmas.{remove_record}
use Rattle.row_records.proofs.records.Records.remove.Goals as goal

pub returns : goal.returns
returns c =
    let pending : map record_in c.self.inside.entries.entries ≡ c.args.self.now.pending =
    ap (λ s. s.pending) c.self.view_is in
    ap (map record_in) c.shift_remove_index.ensures.entries ∙ remove_record c.self.inside.entries.entries c.args.at
    ∙ ap (λ p. remove p c.args.at) pending
