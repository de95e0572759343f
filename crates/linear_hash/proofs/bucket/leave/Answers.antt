use Rattle.std.proofs.Common.{rules, not}
use Rattle.std.proofs.lemmas.Fn.{filter_same}
use Rattle.sig_core.specs.Same.{same_key}
use Rattle.linear_hash.proofs.bucket.leave.Goals as goal

-- all others are kept
pub returns : goal.returns
returns c =
    filter_same _ (λ e. not (same_key e.key c.args.key.now.key)) _ (λ x b f t. search rules) _ _
    c.retain.ensures.filtered
