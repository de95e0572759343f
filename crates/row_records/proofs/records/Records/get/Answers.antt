use Rattle.std.proofs.Common.{◌≡◌, ◌∙◌, ap, sym, map}
use Rattle.std.specs.Prelude.{option_map, slice_get}
use Rattle.std.proofs.lemmas.Option.{slice_get-map}
use Rattle.row_records.specs.Records.{record_in}
use Rattle.row_records.proofs.records.Records.get.Goals as goal

pub returns-in-Some : goal.returns-in-Some
returns-in-Some c =
    let entries = c.self.inside.entries.entries in
    let pending : map record_in entries ≡ c.args.self.now.pending = ap (λ s. s.pending) c.self.view_is in
    ap (option_map record_in) c.in-Some.ensures.entry ∙ sym (slice_get-map record_in entries c.args.at)
    ∙ ap (λ p. slice_get p c.args.at) pending

pub returns-in-None : goal.returns-in-None
returns-in-None c =
    let entries = c.self.inside.entries.entries in
    let pending : map record_in entries ≡ c.args.self.now.pending = ap (λ s. s.pending) c.self.view_is in
    ap (option_map record_in) c.in-None.ensures.entry ∙ sym (slice_get-map record_in entries c.args.at)
    ∙ ap (λ p. slice_get p c.args.at) pending
