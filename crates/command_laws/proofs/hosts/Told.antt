-- What a step of the shell's host replies is among the replies since an older log.
use Rattle.std.proofs.Common.{◌≡◌, List, [], ◌∷◌, ◌++◌, refl, sym, ap, ◌∙◌, subst, append_assoc}
use Rattle.std.proofs.Math.Seq.{drop-append_seam}
use Rattle.std.specs.Prelude.{drop, length}
use Rattle.node_core.proofs.HostLemmas.{IsFront}
use Rattle.node_core.specs.Replies.{replies_of}
use Rattle.run_theory.specs.Lists.{IsIn, IsPast}
use Rattle.world_core.specs.Steps.{HostStep}
use Rattle.sig_core.specs.declared.reply.ApiReply.{ApiReply}
use Rattle.world_core.proofs.Replies.{replies_grow}
use Rattle.world_core.specs.Machine.{after}
use Rattle.world_core.specs.Start.{Start}
use Rattle.host_laws.proofs.api.Begins.{in_middle}

in_rest : {A : Type 0} (xs before : List A) (x : A) (behind : List A)
    → IsIn x (drop (length xs) (((xs ++ before) ++ x ∷ []) ++ behind))
in_rest xs before x behind =
    subst (IsIn x) (sym (ap (drop (length xs)) flat ∙ drop-append_seam xs (before ++ x ∷ behind)))
    (in_middle before x behind)
  where
    flat : ((xs ++ before) ++ x ∷ []) ++ behind ≡ xs ++ (before ++ x ∷ behind)
    flat = append_assoc (xs ++ before) (x ∷ []) behind ∙ append_assoc xs before (x ∷ behind)

pub told_since : (start : Start) (base log newer : List HostStep) (e : HostStep) (reply : ApiReply) → IsPast base log
    → replies_of (after start 0 (e ∷ log)) ≡ replies_of (after start 0 log) ++ reply ∷ []
    → IsIn reply (drop (length (replies_of (after start 0 base))) (replies_of (after start 0 (newer ++ e ∷ log))))
told_since start base log newer e reply past told =
    subst (λ xs. IsIn reply (drop (length (replies_of (after start 0 base))) xs)) (sym all)
    (in_rest (replies_of (after start 0 base)) before.more reply behind.more)
  where
    before : IsFront (replies_of (after start 0 base)) (replies_of (after start 0 log))
    before = replies_grow start base log past

    behind : IsFront (replies_of (after start 0 (e ∷ log))) (replies_of (after start 0 (newer ++ e ∷ log)))
    behind = replies_grow start (e ∷ log) (newer ++ e ∷ log) (record { newer = newer; is = refl })

    all : replies_of (after start 0 (newer ++ e ∷ log))
        ≡ ((replies_of (after start 0 base) ++ before.more) ++ reply ∷ []) ++ behind.more
    all = behind.is ∙ ap (λ xs. xs ++ behind.more) (told ∙ ap (λ xs. xs ++ reply ∷ []) before.is)
