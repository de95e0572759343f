-- What is done to one item of a list after another: what is left leads to the same as all did.
use Rattle.std.proofs.Common.{◌≡◌, ◌≤◌, ◌<◌, ◌+◌, ℕ, List, drop, length, get_or, ap, sym, ◌∙◌}
use Rattle.std.proofs.lemmas.List.{drop_all, drop_more}
use Rattle.sig_core.specs.declared.member.Member.{Member}
use Rattle.qmgr_block.specs.declared.known.Known.{Known}
use Rattle.qmgr_block.specs.declared.starts.Starts.{Starts}
use Rattle.qmgr_block.specs.Starts.{all_noted, noted}
use Rattle.qmgr_block.specs.Suspects.{with_suspect, with_suspects}

pub noted_more : (items : List Member) (i : ℕ) (d : Member) (s next : Starts) → i < length items
    → next ≡ noted s (get_or items i d) → all_noted next (drop (i + 1) items) ≡ all_noted s (drop i items)
unfolding all_noted
noted_more items i d s next inside is =
    ap (λ t. all_noted t (drop (i + 1) items)) is ∙ ap (all_noted s) (sym (drop_more items i d inside))

pub noted_over : (items : List Member) (i : ℕ) (s : Starts) → length items ≤ i → all_noted s (drop i items) ≡ s
unfolding all_noted
noted_over items i s past = ap (all_noted s) (drop_all i items past)

pub suspects_more : (items : List Member) (i : ℕ) (d : Member) (k next : Known) → i < length items
    → next ≡ with_suspect k (get_or items i d)
    → with_suspects next (drop (i + 1) items) ≡ with_suspects k (drop i items)
unfolding with_suspects
suspects_more items i d k next inside is =
    ap (λ t. with_suspects t (drop (i + 1) items)) is ∙ ap (with_suspects k) (sym (drop_more items i d inside))

pub suspects_over : (items : List Member) (i : ℕ) (k : Known) → length items ≤ i → with_suspects k (drop i items) ≡ k
unfolding with_suspects
suspects_over items i k past = ap (with_suspects k) (drop_all i items past)

pub ruleset folds = (noted_more, noted_over, suspects_more, suspects_over)
