-- Where all replies are the command's own there is nothing to arrange.
use Rattle.std.proofs.Common.{◌≡◌, List, [], ◌∷◌, ◌++◌, Bool, true, false, cond, refl, ap, ◌∙◌}
use Rattle.std.specs.Prelude.{◌&&◌, filter, map, not}
use Rattle.std.specs.List.{list_all}
use Rattle.std.proofs.lemmas.List.{append-nil}
use Rattle.sig_core.specs.declared.reply.ApiReply.{ApiReply}
use Rattle.shell_top.specs.Arranged.{arranged, by_rank, is_others, late}
use Rattle.shell_top.specs.Subject.{is_own}
use Rattle.shell_top.specs.declared.subject.Subject.{Subject}

module _ (asked : Subject) where
  own-kept : (replies : List ApiReply) → list_all (is_own asked) replies ≡ true
      → filter (is_own asked) replies ≡ replies
  own-kept [] all = refl
  own-kept (reply ∷ replies) all = by (is_own asked reply) all (own-kept replies)
    where
      by : (b : Bool) → (b && list_all (is_own asked) replies) ≡ true
          → (list_all (is_own asked) replies ≡ true → filter (is_own asked) replies ≡ replies)
          → cond b (reply ∷ filter (is_own asked) replies) (filter (is_own asked) replies) ≡ reply ∷ replies
      by true all further = ap (λ rs. reply ∷ rs) (further all)
      by false all further = cc

  no-others : (replies : List ApiReply) → list_all (is_own asked) replies ≡ true
      → filter (is_others asked) replies ≡ []
  no-others [] all = refl
  no-others (reply ∷ replies) all = by (is_own asked reply) all (no-others replies)
    where
      by : (b : Bool) → (b && list_all (is_own asked) replies) ≡ true
          → (list_all (is_own asked) replies ≡ true → filter (is_others asked) replies ≡ [])
          → cond (not b) (reply ∷ filter (is_others asked) replies) (filter (is_others asked) replies) ≡ []
      by true all further = further all
      by false all further = cc

  pub all_own : (replies : List ApiReply) → list_all (is_own asked) replies ≡ true → arranged asked replies ≡ replies
  all_own replies all =
      ap (λ own. own ++ by_rank [] (map late (filter (is_others asked) replies))) (own-kept replies all)
      ∙ ap (λ others. replies ++ by_rank [] (map late others)) (no-others replies all)
      ∙ append-nil replies
