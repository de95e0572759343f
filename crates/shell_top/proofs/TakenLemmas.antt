-- The shell takes the replies of a world, one after the other.
use Rattle.std.proofs.Common.{◌≡◌, ◌<◌, ℕ, List, [], ◌∷◌, ◌++◌, length, ap, subst, sym, ◌∙◌, append_assoc, arith}
use Rattle.std.proofs.lemmas.List.{append-nil}
use Rattle.std.specs.Global.{Vec}
use Rattle.std.specs.Prelude.{IfOk, Result}
use Rattle.shell_top.specs.Text.{reply_lines}
use Rattle.sig_core.specs.declared.reply.ApiReply.{ApiReply}
use Rattle.world_views.specs.World.{Whole}

-- the world with these replies for the shell
abbrev pub with_replies : Whole → List ApiReply → Whole
with_replies w replies = record w { replies = replies }

-- before the first
pub none_taken : (w : Whole) (taken : List ApiReply) → taken ≡ [] → w ≡ with_replies w (taken ++ w.replies)
none_taken w taken none = sym (ap (λ rs. with_replies w (rs ++ w.replies)) none)

-- one more
pub one_taken : (w now next : Whole) (taken after : List ApiReply) (reply : ApiReply)
    → w ≡ with_replies now (taken ++ now.replies) → now ≡ with_replies next (reply ∷ next.replies)
    → after ≡ taken ++ reply ∷ []
    → w ≡ with_replies next (after ++ next.replies)
one_taken w now next taken after reply is from kept =
    is ∙ ap (λ (u : Whole). with_replies u (taken ++ u.replies)) from
    ∙ ap (with_replies next)
    (sym (append_assoc taken (reply ∷ []) next.replies) ∙ ap (λ rs. rs ++ next.replies) (sym kept))

pub fewer_left : (now next : Whole) (reply : ApiReply) → now ≡ with_replies next (reply ∷ next.replies)
    → length next.replies < length now.replies
fewer_left now next reply from = omega (arith, ap (λ (u : Whole). length u.replies) from)

-- until none is left
pub all_taken : (w now : Whole) (taken : List ApiReply) → w ≡ with_replies now (taken ++ now.replies) → now.replies ≡ []
    → taken ≡ w.replies
all_taken w now taken is none =
    sym (ap (λ (u : Whole). u.replies) is ∙ ap (λ rs. taken ++ rs) none ∙ append-nil taken)

pub told_all : (w now next : Whole) (taken : List ApiReply) → w ≡ with_replies now (taken ++ now.replies)
    → now.replies ≡ [] → now ≡ with_replies next next.replies
    → next ≡ with_replies w []
told_all w now next taken is none from =
    sym (ap (λ (u : Whole). with_replies u []) is ∙ ap (with_replies now) (sym none) ∙ from)

-- the lines of given replies are those of the replies that they are
pub lines_are : {E : Type 0} (result : Result (Vec ℕ) E) (given replies : List ApiReply)
    → IfOk result (λ text. text.items ≡ reply_lines given) → given ≡ replies
    → IfOk result (λ text. text.items ≡ reply_lines replies)
lines_are result given replies told same =
    subst (λ (rs : List ApiReply). IfOk result (λ (text : Vec ℕ). text.items ≡ reply_lines rs)) same told
