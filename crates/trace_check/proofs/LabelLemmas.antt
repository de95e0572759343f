-- Logs that aren't one for each host.
use Rattle.std.proofs.Common.{◌≡◌, ◌<◌, ℕ, true, false, List, length, sym, ap, ◌∙◌, arith}
use Rattle.std.specs.Prelude.{slice_index_or, ◌&&◌}
use Rattle.std.proofs.lemmas.Bool.{eq-eqb, true≢false}
use Rattle.sig_core.specs.declared.log.HostLog.{HostLog}
use Rattle.sig_core.specs.declared.member.HostId.{HostId}
use Rattle.world_core.proofs.MadeFirst.{made_at_first}
use Rattle.world_core.specs.Labels.{AreLabelled}
use Rattle.world_core.specs.Right.{IsLabelled}
use Rattle.world_core.specs.Start.{NobodyStarts, Start}
use Rattle.world_core.specs.World.{no_steps}
use Rattle.trace_check.specs.Labels.{is_labelled}

-- one of them says that it is another's
labelled : (start : Start) (nobody : NobodyStarts start) (h : ℕ) (log : HostLog) → IsLabelled start h log
    → is_labelled h log ≡ true
labelled start nobody h log is = rw (is.made ∙ made_at_first start nobody h)
    (ap (λ b. b && true) (eq-eqb log.host.0 h (ap (λ (at : HostId). at.0) is.host)))

pub other_label : (start : Start) (nobody : NobodyStarts start) (logs : List HostLog) (at : ℕ) → at < length logs
    → is_labelled at (slice_index_or logs at (no_steps 0)) ≡ false → AreLabelled start logs → ⊥
other_label start nobody logs at inside other labels =
    true≢false (sym (labelled start nobody at (slice_index_or logs at (no_steps 0))
    (labels.labels at (omega (arith, inside, labels.one_each)))) ∙ other)
