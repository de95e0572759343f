use Rattle.std.proofs.Common.{◌≡◌, ◌∙◌, ap, sym, map}
use Rattle.std.specs.Prelude.{slice_get}
use Rattle.sig_core.specs.Rows.{record_at}
use Rattle.row_records.specs.Records.{record_in}
use Rattle.row_records.proofs.RecordLemmas.{entry_record, lookup_key-is, position-ids}
use Rattle.row_records.proofs.records.Records.look_up.Goals as goal

pub returns-in-Some-clause-place : goal.returns-in-Some-clause-place
returns-in-Some-clause-place c =
    let pending : map record_in c.self.inside.entries.entries ≡ c.args.self.now.pending =
    ap (λ s. s.pending) c.self.view_is in
    c.in-Some.ensures.index ∙ position-ids c.self.inside.entries.entries c.args.tx c.args.key.now
    ∙ ap (λ p. record_at p c.args.tx c.args.key.now) pending

pub returns-in-Some-clause-record : goal.returns-in-Some-clause-record
returns-in-Some-clause-record c =
    let entries = c.self.inside.entries.entries in
    let pending : map record_in entries ≡ c.args.self.now.pending = ap (λ s. s.pending) c.self.view_is in
    ap (λ p. slice_get p c.in-Some.at) (sym pending)
    ∙ entry_record entries c.args.tx c.args.key.now c.in-Some.at _ c.in-Some.version.now c.in-Some.ensures.entry
    (lookup_key-is entries c.args.tx c.args.key.now _ (sym c.in-Some.ensures.key))

pub returns-in-None-clause-place : goal.returns-in-None-clause-place
returns-in-None-clause-place c =
    let pending : map record_in c.self.inside.entries.entries ≡ c.args.self.now.pending =
    ap (λ s. s.pending) c.self.view_is in
    c.in-None.ensures.index ∙ position-ids c.self.inside.entries.entries c.args.tx c.args.key.now
    ∙ ap (λ p. record_at p c.args.tx c.args.key.now) pending
