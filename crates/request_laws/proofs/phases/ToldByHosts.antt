-- What a host has told along its log, and what its steps hear: an epoch is asked for only as the host told itself, and
-- given only if its epochs have decided so.
use Rattle.std.proofs.Common.{◌≡◌, ◌⊎◌, ℕ, true, List, [], ◌∷◌, sym, inl, inr}
use Rattle.run_theory.proofs.Links.{put_each, sent_by_each}
use Rattle.run_theory.proofs.Pasts.{each_filter, each_map}
use Rattle.run_theory.specs.Links.{sent, sent_by}
use Rattle.run_theory.specs.Lists.{Each, IsIn}
use Rattle.run_theory.specs.Machine.{Machine}
use Rattle.sig_core.specs.declared.mark.Mark.TheVariants.{Decided}
use Rattle.sig_core.specs.declared.member.Member.{Member}
use Rattle.sig_core.specs.declared.member.TxId.{TxId}
use Rattle.sig_core.specs.declared.op.Answer.{Answer}
use Rattle.sig_core.specs.declared.op.Op.{Op}
use Rattle.sig_core.specs.declared.outs.Outgoing.{Outgoing}
use Rattle.sig_core.specs.declared.signal.Body.{Body}
use Rattle.sig_core.specs.declared.signal.Body.TheVariants.{Epoch}
use Rattle.sig_core.specs.declared.signal.epoch.EpochSignal.TheVariants.{DiVerifyConf, DiVerifyReq}
use Rattle.node_views.specs.WellFormed.{is_well_formed}
use Rattle.world_core.specs.Start.{Start}
use Rattle.world_core.specs.Steps.{Addressed, HostStep}
use Rattle.world_views.specs.Machine.{signals_of, step_after}
use Rattle.view_laws.specs.Order.{is_sound, sound_machine}
use Rattle.view_laws.proofs.follow.Senders.{each_from}
use Rattle.moment_laws.specs.Places.{tc_of}
use Rattle.outcome_laws.specs.Counts.{coordinator_member}
use Rattle.outcome_laws.specs.Decided.{IsMarked}

-- a signal that says this is among these
pub record IsTold (body : Body) (sends : List Outgoing) : Type 0 where
  pub one : Outgoing
  pub there : IsIn one sends
  pub says : one.body ≡ body

module _ (start : Start) (h : ℕ) where
  -- a step of the log told it
  abbrev pub HasTold : Body → List HostStep → Type 0
  HasTold body [] = ⊥
  HasTold body (e ∷ log) = IsTold body (step_after start h log e).effects.sends ⊎ HasTold body log

  -- so it is of all that was sent
  pub sent_told : (j : ℕ) (log : List HostStep)
      → Each (λ (x : Addressed). HasTold x.signal.body log) (sent (sound_machine start) h j log)
  sent_told j [] = tt
  sent_told j (e ∷ log) =
      put_each m Now j (sent_by m h log e) (sent m h j log) (sent_by_each m Now h log e (λ goes. new))
      (each_map (λ (x : Addressed). HasTold x.signal.body log) Now (sent m h j log) (λ x told. inr told)
      (sent_told j log))
    where
      m : Machine HostStep Addressed
      m = sound_machine start

      Now : Addressed → Type 0
      Now = λ x. HasTold x.signal.body (e ∷ log)

      new : Each Now (m.sends h log e)
      new =
          each_filter Now (is_sound start) (signals_of start h log e)
          (each_map _ Now (signals_of start h log e)
          (λ x one. inl (record { one = one.sent; there = one.there; says = sym one.body }))
          (each_from start h log e))

module _ (start : Start) (member : Member) where
  -- The step, behind this log of the host of the member's coordinator, has the marks of its row. If an epoch is asked
  -- for by the signal that it takes, the host has told so; and if one is given to a transaction of the member, it is
  -- decided.
  pub record IsHeard (e : HostStep) (log : List HostStep) : Type 0 where
    pub marks : e.step.marks ≡ (step_after start (tc_of start member) log e).effects.marks
    pub asks : (tx : TxId) (ops : List (Op × Answer)) → e.step.taken.body ≡ Epoch (DiVerifyReq tx ops)
        → HasTold start (tc_of start member) (Epoch (DiVerifyReq tx ops)) log
    pub gives : (tx : TxId) (epoch : ℕ) → e.step.taken.body ≡ Epoch (DiVerifyConf tx epoch)
        → is_well_formed start.shape e.step.taken ≡ true → coordinator_member tx ≡ member
        → IsMarked (Decided tx epoch) log

  -- so it is of each step
  abbrev pub Heard : List HostStep → Type 0
  Heard [] = Unit {0}
  Heard (e ∷ log) = IsHeard e log × Heard log
