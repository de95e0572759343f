-- An end that is reported and is no abort is a commit, which is replied and marked.
use Rattle.std.proofs.Common.{◌≡◌, ℕ, true, false, List, [], ◌∷◌, ◌++◌, refl, sym, ap, ◌∙◌, subst, inl, append_assoc}
use Rattle.std.specs.Prelude.{Option, Some, drop, length}
use Rattle.run_theory.proofs.Links.{log_after}
use Rattle.run_theory.proofs.Pasts.{each_in, past_trans}
use Rattle.run_theory.specs.Lists.{Each, IsIn, IsPast}
use Rattle.run_theory.specs.Logs.{IsLog}
use Rattle.sig_core.proofs.Keys.{same_tx-self}
use Rattle.sig_core.specs.declared.mark.Mark.TheVariants.{Reported}
use Rattle.sig_core.specs.declared.member.TxId.{TxId}
use Rattle.sig_core.specs.declared.outcome.AbortCause.{AbortCause}
use Rattle.sig_core.specs.declared.outcome.Outcome.{Outcome}
use Rattle.sig_core.specs.declared.outcome.Outcome.TheVariants as outcome
use Rattle.sig_core.specs.declared.reply.ApiReply.TheVariants.{Ended}
use Rattle.sig_core.specs.declared.signal.Body.{Body}
use Rattle.sig_core.specs.declared.signal.Body.TheVariants.{Client}
use Rattle.sig_core.specs.declared.signal.client.ClientSignal.TheVariants.{TcCommitConf, TcRollbackRep}
use Rattle.sig_core.specs.Same.{same_tx}
use Rattle.node_core.specs.Replies.{replies_of}
use Rattle.node_core.specs.Requests.{is_request}
use Rattle.world_core.specs.Machine.{after, machine}
use Rattle.world_core.specs.Start.{Start}
use Rattle.world_core.specs.Steps.{HostStep}
use Rattle.host_laws.proofs.api.Begins.{in_middle}
use Rattle.answer_laws.specs.Answered.{AreQuiet}
use Rattle.command_laws.proofs.hosts.ApiChanges.{outcome_in}
use Rattle.command_laws.proofs.hosts.EntryGoes.{HasEnded}
use Rattle.command_laws.proofs.ends.FirmHosts.{back_of}
use Rattle.command_laws.proofs.hosts.Told.{told_since}
use Rattle.command_laws.specs.Served.{IsMarked, replies_since}

abbrev pub OutcomeOf : Type 0
OutcomeOf = TxId × Outcome

pub ending_is : (a b : OutcomeOf) → Some a ≡ Some b → a ≡ b
ending_is a b is = cc

-- an end by abort is told by the report of one
pub was_aborted : (tx : TxId) (body : Body) (cause : AbortCause) → outcome_in body ≡ Some (tx, outcome.Aborted cause)
    → back_of tx body ≡ true
was_aborted tx (Client (TcRollbackRep one other)) cause is = ap (λ (e : OutcomeOf). same_tx e.0 tx)
    (ending_is (one, outcome.Aborted other) (tx, outcome.Aborted cause) is) ∙ same_tx-self tx
was_aborted tx (Client (TcCommitConf one epoch)) cause is = absurd
    (let both : outcome.Committed epoch ≡ outcome.Aborted cause = ap (λ (e : OutcomeOf). e.1)
    (ending_is (one, outcome.Committed epoch) (tx, outcome.Aborted cause) is) in cc)
was_aborted tx _ cause is = cc

-- none is unknown
pub never_unknown : (tx : TxId) (body : Body) → outcome_in body ≡ Some (tx, outcome.Unknown) → ⊥
never_unknown tx (Client (TcRollbackRep one other)) is = let both : outcome.Aborted other
    ≡ outcome.Unknown =
    ap (λ (e : OutcomeOf). e.1) (ending_is (one, outcome.Aborted other) (tx, outcome.Unknown) is) in cc
never_unknown tx (Client (TcCommitConf one epoch)) is = let both : outcome.Committed epoch
    ≡ outcome.Unknown =
    ap (λ (e : OutcomeOf). e.1) (ending_is (one, outcome.Committed epoch) (tx, outcome.Unknown) is) in cc
never_unknown tx _ is = cc

-- the transaction of this name was reported committed
pub record IsReported (start : Start) (was now : ℕ → List HostStep) (name : Option ℕ) (tx : TxId) : Type 0 where
  pub epoch : ℕ
  pub told : IsIn (Ended name (outcome.Committed epoch)) (replies_since start was now)
  pub marked : IsMarked was now tx epoch

module _ (start : Start) (was now : ℕ → List HostStep) (since : AreQuiet start now) (tx : TxId) (name : Option ℕ)
    (later log : List HostStep) (is_now : now 0 ≡ later ++ log) (past : IsPast (was 0) log)
    (plain : Each (λ (e : HostStep). is_request e.step.taken.body ≡ false) later)
    (none : Each (λ (e : HostStep). is_request e.step.taken.body ≡ false → back_of tx e.step.taken.body ≡ false)
    later)
    (ended : HasEnded tx name start later log) where
  now_is : now 0 ≡ ended.newer ++ ended.step ∷ (ended.older ++ log)
  now_is = is_now ∙ ap (λ w. w ++ log) ended.is ∙ append_assoc ended.newer (ended.step ∷ ended.older) log

  inside : IsIn ended.step later
  inside = subst (IsIn ended.step) (sym ended.is) (in_middle ended.newer ended.step ended.older)

  not_back : back_of tx ended.step.step.taken.body ≡ false
  not_back =
      each_in (λ (e : HostStep). is_request e.step.taken.body ≡ false → back_of tx e.step.taken.body ≡ false) ended.step
      later none inside
      (each_in (λ (e : HostStep). is_request e.step.taken.body ≡ false) ended.step later plain inside)

  before : IsPast (was 0) (ended.older ++ log)
  before = past_trans past (record { newer = ended.older; is = refl })

  logged : IsLog (machine start) 0 (ended.step ∷ (ended.older ++ log))
  logged = log_after (machine start) 0 ended.newer (ended.step ∷ (ended.older ++ log))
      (subst (IsLog (machine start) 0) now_is (since.right.local 0))

  marks : ended.step.step.marks ≡ Reported tx ended.ending.outcome ∷ []
  marks = logged.0.fits.marks ∙ ended.ending.marked

  pub reported : IsReported start was now name tx
  reported = by ended.ending.outcome refl
    where
      by : (end : Outcome) → ended.ending.outcome ≡ end → IsReported start was now name tx
      by (outcome.Committed epoch) is = record {
        epoch = epoch;
        told = subst (λ w. IsIn (Ended name (outcome.Committed epoch))
            (drop (length (replies_of (after start 0 (was 0)))) (replies_of (after start 0 w)))) (sym now_is)
            (told_since start (was 0) (ended.older ++ log) ended.newer ended.step (Ended name (outcome.Committed epoch))
            before
            (ended.ending.told ∙ ap (λ end. replies_of (after start 0 (ended.older ++ log)) ++ Ended name end ∷ [])
            is));
        marked = record {
          step = ended.step;
          older = ended.older ++ log;
          inside = record { newer = ended.newer; is = now_is };
          later = before;
          marked = subst (IsIn (Reported tx (outcome.Committed epoch)))
              (sym (marks ∙ ap (λ end. Reported tx end ∷ []) is)) (inl refl);
        };
      }
      by (outcome.Aborted cause) is =
          absurd (let both : false ≡ true = sym not_back ∙ was_aborted tx ended.step.step.taken.body cause
          (ended.ending.about ∙ ap (λ end. Some (tx, end)) is) in cc)
      by outcome.Unknown is =
          absurd (never_unknown tx ended.step.step.taken.body (ended.ending.about ∙ ap (λ end. Some (tx, end)) is))
