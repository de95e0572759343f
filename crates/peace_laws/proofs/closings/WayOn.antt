-- A step of a closing leaves as it is what its host doesn't know, and under way what it doesn't take.
use Rattle.std.proofs.Common.{◌≡◌, ◌≢◌, ◌⊎◌, ◌∙◌, ◌++◌, inl, inr, ℕ, zero, suc, Bool, true, false, List, [], ◌∷◌, refl}
use Rattle.std.proofs.Common.{sym}
use Rattle.std.proofs.Common.{ap, subst, append-nil, arith}
use Rattle.std.proofs.lemmas.Bool.{cases_eq}
use Rattle.node_views.specs.Blocks.{parts_row}
use Rattle.node_views.specs.declared.parts.Parts.{Parts}
use Rattle.run_theory.specs.Lists.{IsIn}
use Rattle.run_theory.proofs.Pasts.{in_append}
use Rattle.sig_core.specs.declared.outs.Outgoing.{Outgoing}
use Rattle.sig_core.specs.declared.reply.ApiReply.{ApiReply}
use Rattle.sig_core.specs.declared.signal.epoch.EpochSignal.{EpochSignal}
use Rattle.sig_core.specs.declared.signal.epoch.EpochSignal.TheVariants as signal
use Rattle.sig_core.specs.Step.{Step}
use Rattle.world_core.specs.Hosts.{host_for}
use Rattle.world_core.specs.Start.{Start}
use Rattle.peace_laws.specs.Closing.{Course, host_in, main}
use Rattle.peace_laws.specs.Moments.{Moment, Takes, behind, told_by}
use Rattle.peace_laws.specs.UnderWay.{CommittedAt, HasCommitted, IsAnswer, IsAnswered, IsClient, IsLetter, IsUnderWay}
use Rattle.peace_laws.specs.UnderWay.{IsUntold, ShellHas}

-- hosts that differ
pub main_apart : (place : ℕ) (rows : Bool) → main ≢ host_in place rows
main_apart place false same = omega (arith, same)
main_apart place true same = omega (arith, same)

pub shell_apart : (place : ℕ) (rows : Bool) → 0 ≢ host_in place rows
shell_apart place false same = omega (arith, same)
shell_apart place true same = omega (arith, same)

-- what stands behind a part of a node, which tells no reply
pub behind_part : (h : ℕ) → 0 ≢ h → (parts : Parts) → behind h parts ≡ parts
behind_part zero apart parts = absurd (apart refl)
behind_part (suc h) apart parts = refl

none_told : (h : ℕ) → 0 ≢ h → (parts : Parts) → told_by h parts ≡ []
none_told zero apart parts = absurd (apart refl)
none_told (suc h) apart parts = refl

answer_on : {A B : Type 0} → (A → B) → (said : EpochSignal) → IsAnswer A said → IsAnswer B said
answer_on f (signal.GcpPrepareConf epoch) is = tt
answer_on f (signal.GcpNodeFinish epoch) is = f is
answer_on f (signal.GcpClosedConf epoch) is = tt
answer_on f (signal.GcpSaveConf epoch) is = tt
answer_on f (signal.CopyGciConf epoch) is = tt
answer_on f said is = absurd is

module _ (start : Start) (c : Course) (before after : Moment) (w : IsUnderWay start c before)
    (step : Takes start before after) where
  -- what the parts of its host do
  abbrev pub stepped : Step Parts
  stepped = parts_row (before.parts step.host) step.x

  pub is_there : IsIn step.sent (before.under_way step.sender step.host)
  is_there =
      subst (IsIn step.sent) (sym step.there) (in_append step.sent step.rest (step.sent ∷ []) (inl refl))

  pub letter : IsLetter start c before step.sender step.host step.sent
  letter = w.letters step.sender step.host step.sent is_there

  -- what is true of the parts of a host still is, where the step leaves it so
  pub stays_true : (P : Parts → Type 0)
      → (P (before.parts step.host) → P (behind step.host stepped.state)) → (h : ℕ) → P (before.parts h)
      → P (after.parts h)
  stays_true P own h was = go (cases_eq h step.host)
    where
      go : (h ≡ step.host) ⊎ (h ≢ step.host) → P (after.parts h)
      go (inl same) =
          subst (λ k. P (after.parts k)) (sym same)
          (subst P (sym step.own) (own (subst (λ k. P (before.parts k)) same was)))
      go (inr apart) = subst P (sym (step.others h apart)) was

  -- so it is of members that have gone on
  pub committed_on : (HasCommitted c (before.parts step.host) → HasCommitted c (behind step.host stepped.state))
      → (place : ℕ) → CommittedAt c before place → CommittedAt c after place
  committed_on own place was = stays_true (HasCommitted c) own (host_in place false) was

  -- all that is under way is of this closing, where what it sends is
  pub letters_on : ((place : ℕ) → CommittedAt c before place → CommittedAt c after place)
      → ((one : Outgoing) → IsIn one stepped.effects.sends
      → IsLetter start c after step.host (host_for start one.to) one)
      → (i j : ℕ) (one : Outgoing) → IsIn one (after.under_way i j) → IsLetter start c after i j one
  letters_on committed new i j one is = go (step.only i j one is)
    where
      kept : IsLetter start c before i j one → IsLetter start c after i j one
      kept (inl order) = inl order
      kept (inr (inl said)) =
          inr (inl (record {
            place = said.place;
            low = said.low;
            rows = said.rows;
            signal = said.signal;
            fits = answer_on (committed said.place) said.signal said.fits;
            from = said.from;
            to = said.to;
            is = said.is;
          }))
      kept (inr (inr other)) = inr (inr other)

      go : (IsIn one (before.under_way i j) × (i ≡ step.sender → j ≡ step.host → IsIn one step.rest))
          ⊎ ((i ≡ step.host) × ((j ≡ host_for start one.to) × IsIn one stepped.effects.sends))
          → IsLetter start c after i j one
      go (inl was) = kept (w.letters i j one was.0)
      go (inr sent) =
          subst (λ k. IsLetter start c after k j one) (sym sent.0)
          (subst (λ k. IsLetter start c after step.host k one) (sym sent.1.0) (new one sent.1.1))

  -- the client's side, at a step of a part of a node
  module _ (apart : 0 ≢ step.host) where
    shell_stays : after.parts 0 ≡ before.parts 0
    shell_stays = step.others 0 apart

    replies_stay : after.replies ≡ before.replies
    replies_stay =
        step.told
        ∙ ap (λ (more : List ApiReply). before.replies ++ more) (none_told step.host apart stepped.state)
        ∙ append-nil before.replies

    pub client_stays : ShellHas (IsClient start) (after.parts 0)
    client_stays = subst (ShellHas (IsClient start)) (sym shell_stays) w.shell

    untold_stays : IsUntold c before → IsUntold c after
    untold_stays is = (subst (ShellHas _) (sym shell_stays) is.0, replies_stay ∙ is.1)

    pub answered_stays : IsAnswered c before → IsAnswered c after
    answered_stays is = (subst (ShellHas _) (sym shell_stays) is.0, replies_stay ∙ is.1)

    pub told_stays : IsUntold c after ⊎ IsAnswered c after
    told_stays = go w.told
      where
        go : IsUntold c before ⊎ IsAnswered c before → IsUntold c after ⊎ IsAnswered c after
        go (inl is) = inl (untold_stays is)
        go (inr is) = inr (answered_stays is)
