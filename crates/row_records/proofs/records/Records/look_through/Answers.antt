use Rattle.std.proofs.Common.{rules, ◌≡◌, ◌∙◌, ap, sym, map}
use Rattle.std.specs.Prelude.{None, Some, position, slice_get}
use Rattle.std.specs.Map.{keys_of}
use Rattle.sig_core.specs.Rows.{record_at}
use Rattle.row_records.specs.Records.{is_id, record_in}
use Rattle.row_records.proofs.EntryLemmas.{entry_found}
use Rattle.row_records.proofs.RecordLemmas.{position-records, record_there}
use Rattle.row_records.proofs.records.Records.look_through.Goals as goal

pub returns-in-Some-clause-place : goal.returns-in-Some-clause-place
returns-in-Some-clause-place c =
    let entries = c.self.inside.entries.entries in
    let tx = c.args.tx in
    let key = c.args.key.now in
    let pending : map record_in entries ≡ c.args.self.now.pending = ap (λ s. s.pending) c.self.view_is in
    let place : Some c.in-Some.at ≡ position (is_id tx key) (keys_of entries) = search rules in
    place ∙ position-records entries tx key ∙ ap (λ p. record_at p tx key) pending

pub returns-in-Some-clause-record : goal.returns-in-Some-clause-record
returns-in-Some-clause-record c =
    let entries = c.self.inside.entries.entries in
    let tx = c.args.tx in
    let key = c.args.key.now in
    let pending : map record_in entries ≡ c.args.self.now.pending = ap (λ s. s.pending) c.self.view_is in
    let place : Some c.in-Some.at ≡ position (is_id tx key) (keys_of entries) = search rules in
    let found = entry_found (is_id tx key) entries c.in-Some.at c.index.result.now (sym place) c.index.ensures in
    ap (λ p. slice_get p c.in-Some.at) (sym pending)
    ∙ record_there entries tx key c.in-Some.at found.key c.index.result.now found.there found.passes

pub returns-in-None-clause-place : goal.returns-in-None-clause-place
returns-in-None-clause-place c =
    let entries = c.self.inside.entries.entries in
    let tx = c.args.tx in
    let key = c.args.key.now in
    let pending : map record_in entries ≡ c.args.self.now.pending = ap (λ s. s.pending) c.self.view_is in
    let place : None ≡ position (is_id tx key) (keys_of entries) = search rules in
    place ∙ position-records entries tx key ∙ ap (λ p. record_at p tx key) pending
