-- A member's journal keeps what is told to it, and ends where the bytes of the records of all its events do, whatever
-- it gave up.
use Rattle.std.proofs.Common.{◌≡◌, ◌∙◌, ◌+◌, ℕ, true, List, [], ◌∷◌, ◌++◌, length, sym, ap, append_assoc, append-nil}
use Rattle.std.proofs.Common.{arith}
use Rattle.run_theory.specs.Lists.{IsIn}
use Rattle.redo_log.specs.Replaying.{log_bytes}
use Rattle.sig_core.specs.declared.member.Member.{Member}
use Rattle.sig_core.specs.declared.redo.Redo.{Redo}
use Rattle.sig_core.specs.Journal.{OutletState, behind, behind_by, end_of}
use Rattle.sig_core.specs.Redo.{bytes_of}
use Rattle.local_ckpt.specs.Events.{Event}
use Rattle.world_core.specs.Start.{NobodyStarts, Start, made}
use Rattle.world_core.specs.Steps.{HostStep}
use Rattle.journal_laws.specs.Events.{behind_all, records_behind}
use Rattle.journal_laws.specs.Journal.{AreEventsOf, first_rows, lqh_after, outlet_with}
use Rattle.journal_laws.proofs.events.HostEvents.{events_come}
use Rattle.journal_laws.proofs.events.Outlets.{end_same}

-- a journal with these bytes behind its own
abbrev pub with_bytes : OutletState → List ℕ → OutletState
with_bytes o bytes =
    record o { left = o.left ++ bytes }

-- one that keeps its bytes has those of what is appended
pub appended : (o : OutletState) → o.keeps ≡ true → (records : List Redo)
    → behind_all records o ≡ with_bytes o (log_bytes records)
appended o keeps [] = ap (λ bytes. record o { left = bytes }) (sym (append-nil o.left))
appended o keeps (newest ∷ older) =
    ap (λ (p : OutletState). behind p newest) (appended o keeps older)
    ∙ ap (λ b. behind_by b (with_bytes o (log_bytes older)) newest) keeps
    ∙ ap (λ bytes. record o { left = bytes }) (append_assoc o.left (log_bytes older) (bytes_of newest))

module _ (start : Start) (nobody : NobodyStarts start) (member : Member) (there : IsIn member (made start))
    (log : List HostStep)
    (events : List Event) (are : AreEventsOf start member log events) where
  abbrev outlet : OutletState
  outlet = (lqh_after start member log).outlet

  abbrev records : List Redo
  records = records_behind (first_rows start member) events

  pub keeps_bytes : (lqh_after start member log).outlet.keeps ≡ true
  keeps_bytes = ap (λ (o : OutletState). o.keeps) (events_come start member there nobody log events are).outlet.is

  pub ends_behind : end_of (lqh_after start member log).outlet
      ≡ length (log_bytes (records_behind (first_rows start member) events))
  ends_behind =
      end_same outlet (outlet_with records) (events_come start member there nobody log events are).outlet
      ∙ (let e : 0 + length (log_bytes records) ≡ length (log_bytes records) = omega arith in e)
