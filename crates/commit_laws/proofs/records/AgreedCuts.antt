-- Records of whoever takes effect in a later cut agree: it isn't lost in the cut.
use Rattle.std.proofs.Common.{◌≡◌, ◌++◌, ◌&&◌, ◌||◌, ◌∙◌, ℕ, Bool, true, false, not, List, [], ◌∷◌, refl, sym}
use Rattle.std.proofs.Common.{ap, subst}
use Rattle.std.proofs.lemmas.Bool.{true≢false}
use Rattle.run_theory.specs.Cuts.{IsCut}
use Rattle.run_theory.specs.Lists.{IsIn, IsPast}
use Rattle.run_theory.specs.Ranks.{in_order}
use Rattle.sig_core.specs.declared.entry.Entry.{Entry}
use Rattle.sig_core.specs.declared.member.Member.{Member}
use Rattle.sig_core.specs.declared.member.TxId.{TxId}
use Rattle.sig_core.specs.Same.{same_tx}
use Rattle.sig_core.proofs.Keys.{same_tx-self}
use Rattle.tc_block.specs.Doom.{is_among}
use Rattle.world_core.specs.History.{history}
use Rattle.world_core.specs.Hosts.{hosts}
use Rattle.world_core.specs.Start.{NobodyStarts, Start, made}
use Rattle.world_core.specs.Steps.{HostStep}
use Rattle.view_laws.specs.Order.{by_views}
use Rattle.view_laws.specs.Runs.{AreOfCluster}
use Rattle.moment_laws.proofs.MomentRuns.{are_moments, logs_in_views}
use Rattle.moment_laws.specs.Moments.{logs_of}
use Rattle.moment_laws.specs.Places.{tc_of}
use Rattle.outcome_laws.specs.Counts.{coordinator_member}
use Rattle.request_laws.proofs.routes.ChainsStay.{any_in}
use Rattle.commit_laws.proofs.led.CutsLegal.{history_in_views}
use Rattle.commit_laws.specs.Cuts.{IsAnsweredOn, RecordsAgree}
use Rattle.commit_laws.specs.Going.{is_back, is_forth, is_lost, own_coordinator}
use Rattle.commit_laws.specs.Values.{history_at, is_final}
use Rattle.commit_laws.proofs.fates.Committed.{forth_made}
use Rattle.commit_laws.proofs.fates.FinalsForth.{finals_are_forth}
use Rattle.commit_laws.proofs.fates.LostStays.{lost_along, lost_next}
use Rattle.commit_laws.proofs.records.Agreed.{records_agree_always}
use Rattle.commit_laws.proofs.records.AgreedImages.{Agree}

-- whoever is lost along a log is so along each longer one
lost_on : (start : Start) (nobody : NobodyStarts start) (member : Member) (there : IsIn member (made start)) (tx : TxId)
    (newer log : List HostStep)
    → lost_along start member there tx log ≡ true → lost_along start member there tx (newer ++ log) ≡ true
lost_on start nobody member there tx [] log lost = lost
lost_on start nobody member there tx (e ∷ newer) log lost =
    lost_next start member there tx nobody (newer ++ log) e (lost_on start nobody member there tx newer log lost)

-- right logs are those of the last moment of their run
module _ (start : Start) (logs : ℕ → List HostStep) (are : AreOfCluster start logs) where
  abbrev events : List HostStep
  events = in_order (by_views start logs)

  -- whoever has an entry in their history went forth
  module _ (tx : TxId) (entry : Entry) (inside : IsIn entry (history (hosts start) logs)) (own : entry.tx ≡ tx) where
    final : is_final start events tx ≡ true
    final =
        any_in (λ (b : Entry). same_tx b.tx tx) entry (history_at start events events)
        (subst (IsIn entry) (sym (history_in_views start logs are)) inside)
        (ap (λ (v : TxId). same_tx v tx) own ∙ same_tx-self tx)

    forth_at_end : is_forth start (logs_of start events) tx ≡ true
    forth_at_end = finals_are_forth start logs events (are_moments start logs are) tx final

    went_forth : is_forth start logs tx ≡ true
    went_forth = subst (λ ls. is_forth start ls tx ≡ true) (logs_in_views start logs are) forth_at_end

    coordinator_made : IsIn (coordinator_member tx) (made start)
    coordinator_made = forth_made start logs events (are_moments start logs are) tx forth_at_end

    -- and isn't lost in an earlier cut
    not_lost : (small : ℕ → List HostStep) → IsCut small logs → is_lost start small tx ≡ false
    not_lost small cut = by (is_lost start small tx) refl
      where
        h : ℕ
        h = tc_of start (coordinator_member tx)

        past : IsPast (small (tc_of start (coordinator_member tx))) (logs (tc_of start (coordinator_member tx)))
        past = cut (tc_of start (coordinator_member tx))

        spared : is_lost start logs tx ≡ false
        spared =
            ap (λ f. not f && (is_back start logs tx || is_among (own_coordinator start logs tx).doomed tx)) went_forth

        by : (b : Bool) → is_lost start small tx ≡ b → b ≡ false
        by false is = refl
        by true lost =
            absurd (true≢false (sym (subst
            (λ log. lost_along start (coordinator_member tx) coordinator_made tx log ≡ true) (sym past.is)
            (lost_on start are.nobody (coordinator_member tx) coordinator_made tx past.newer
            (small (tc_of start (coordinator_member tx))) lost)) ∙ spared))

pub records_agree : RecordsAgree
records_agree start small large are_small are_large cut tx key answered entry inside own =
    subst
    (λ ls. is_lost start ls tx ≡ false → IsAnsweredOn start ls tx key → Agree start ls tx key)
    (logs_in_views start small are_small)
    (records_agree_always start small (in_order (by_views start small)) (are_moments start small are_small) tx key)
    (not_lost start large are_large tx entry inside own small cut) answered
