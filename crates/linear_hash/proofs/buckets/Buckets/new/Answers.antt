use Rattle.std.proofs.Common.{[], ◌∷◌, ◌++◌, ap, ◌∙◌}
use Rattle.linear_hash.proofs.SplitLemmas.{first-view}
use Rattle.linear_hash.proofs.buckets.Buckets.new.Goals as goal

-- the only bucket is empty
pub returns : goal.returns
returns c =
    first-view c.push.new.self.items
    (c.in_ok-push.ensures.items ∙ ap (λ bs. bs ++ c.new.result ∷ []) c.new-buckets.ensures.items ∙ ap
    (λ b. b ∷ []) c.new.ensures)
