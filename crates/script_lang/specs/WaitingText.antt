-- What an unanswered command waits for, in words.
use Rattle.std.specs.Prelude.{ℕ, List, ◌++◌, None, Some, codes}
use Rattle.std.specs.Fmt.{decimal}
use Rattle.sig_core.specs.declared.reply.Waiting.{Waiting}
use Rattle.sig_core.specs.declared.reply.Waiting.TheVariants.{HeldBy, Cut, Node}

-- the words of a wait. A holder without a name is printed as name 0
abbrev pub waiting_words : Waiting → List ℕ
waiting_words (HeldBy None) = codes "pending held by @0"
waiting_words (HeldBy (Some name)) = codes "pending held by @" ++ decimal name
waiting_words (Cut one other) = codes "pending cut " ++ decimal one ++ codes " " ++ decimal other
waiting_words (Node node) = codes "pending node " ++ decimal node
