use Rattle.std.proofs.Common.{rules, ◌==◌}
use Rattle.std.proofs.lemmas.Fn.{filter_same}
use Rattle.linear_hash.specs.Growth.{home}
use Rattle.linear_hash.proofs.bucket.keep.Goals as goal

-- all others are dropped
pub returns : goal.returns
returns c =
    filter_same _ (λ e. home c.args.growth e.key == c.args.bucket) _ (λ x b f t. search rules) _ _
    c.retain.ensures.filtered
