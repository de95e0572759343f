use Rattle.std.proofs.Common.{sym, ◌∙◌}
use Rattle.std.proofs.lemmas.Bool.{ne_eqb}
use Rattle.linear_hash.proofs.FoundLemmas.{numbered_apart}
use Rattle.linear_hash.proofs.entry.Entry.is_of.Goals as goal

-- the numbers differ, and so do the keys
pub returns-else-self-key : goal.returns-else-self-key
returns-else-self-key c =
    let own = c.args.self.now in
    let other = c.args.key.now in
    let differ = c.if-self-key.false in
    ne_eqb own.hash other.hash differ
    ∙ sym (numbered_apart own.hash other.hash own.key other.key own.hashed other.hashed differ)
