use Rattle.std.proofs.Common.{◌≡◌, ◌∙◌, ap, arith, map, not, refl}
use Rattle.std.specs.Prelude.{is_some}
use Rattle.sig_core.specs.Rows.{prepared, record_at, recorded_by}
use Rattle.row_records.specs.Records.{record_in}
use Rattle.row_records.proofs.RecordLemmas.{id_of, lookup-position, made, position-ids, put_record, same_id}
use Rattle.row_records.proofs.records.Records.put.Goals as goal

pub returns-clause-record : goal.returns-clause-record
returns-clause-record c =
    let entries = c.self.inside.entries.entries in
    let tx = c.args.tx in
    let key = c.args.key.now in
    let pending : map record_in entries ≡ c.args.self.now.pending = ap (λ s. s.pending) c.self.view_is in
    ap (map record_in) c.in-Ok.ensures.entries ∙ put_record entries tx key c.args.image.now _ refl
    ∙ ap (λ p. recorded_by p (prepared tx key c.args.image.now) (record_at p tx key)) pending

pub returns-clause-made : goal.returns-clause-made
returns-clause-made c =
    let entries = c.self.inside.entries.entries in
    let tx = c.args.tx in
    let key = c.args.key.now in
    let pending : map record_in entries ≡ c.args.self.now.pending = ap (λ s. s.pending) c.self.view_is in
    made c.len-count.result c.len.result (is_some c.in-Ok.field-0)
    (omega (arith, c.in-Ok.ensures.len, c.len.ensures.len, c.len-count.ensures.len))
    ∙ ap not (ap is_some c.in-Ok.ensures.old ∙ lookup-position entries (same_id (id_of tx key))
    ∙ ap is_some (position-ids entries tx key)
    ∙ ap (λ p. is_some (record_at p tx key)) pending)
