-- How what is told stands where a life begins, and where the shell asks for something.
use Rattle.std.proofs.Common.{◌≡◌, ◌≢◌, ℕ, List, [], sym, ap, subst, ◌∙◌, arith}
use Rattle.run_theory.specs.Lists.{IsIn}
use Rattle.sig_core.specs.declared.member.Member.{Member}
use Rattle.sig_core.specs.declared.request.ApiReq.{ApiReq}
use Rattle.sig_core.specs.declared.signal.Body.{Body}
use Rattle.world_core.specs.Start.{Start, made}
use Rattle.world_core.specs.Steps.{HostStep}
use Rattle.world_core.specs.World.{logs_at}
use Rattle.world_views.specs.Driven.{HasAsked, IsSound}
use Rattle.world_views.specs.World.{Whole}
use Rattle.moment_laws.specs.Places.{ldm_of, tc_of}
use Rattle.disk_laws.specs.Noted.{kept_part}
use Rattle.restart_laws.specs.Told.{IsTold, TellsNotedDurable, TellsNotedRows, TellsWhatIsKept}
use Rattle.restart_laws.proofs.telling.Alone.{stays_told}
use Rattle.restart_laws.proofs.telling.Facts.{TellsByLog}
use Rattle.restart_laws.proofs.telling.Noted.{epochs_tell_by_log}
use Rattle.restart_laws.proofs.telling.Rows.{rows_tell_by_log}
use Rattle.restart_laws.proofs.telling.Whole.{all_told}

-- a host that did nothing yet has told nothing
module _ (start : Start) (w : Whole) (sound : IsSound start w) (none : (h : ℕ) → logs_at w.logs h ≡ []) where
  fresh_told : (h : ℕ) (Tells : List HostStep → Body → Type 0) → TellsByLog start h Tells
      → IsTold start h (Tells (kept_part (logs_at w.logs h))) w
  fresh_told h Tells tells =
      subst (λ log. IsTold start h (Tells log) w) (none h ∙ sym (ap kept_part (none h)))
      (all_told start h Tells tells sound.given w sound.right)

  pub fresh_worlds_tell_what_is_kept : (member : Member) → IsIn member (made start) → TellsWhatIsKept start member w
  fresh_worlds_tell_what_is_kept member there = record {
    saved =
        fresh_told (ldm_of start member) (TellsNotedRows start member)
        (rows_tell_by_log start sound.right.nobody member there);
    durable = fresh_told (tc_of start member) (TellsNotedDurable start member)
        (epochs_tell_by_log start sound.right.nobody member there);
  }

-- and what the shell asks for changes none of it
module _ (start : Start) (request : ApiReq) (w t : Whole) (sound : IsSound start w)
    (asked : HasAsked start request w t)
  where
    sound_then : IsSound start t
    sound_then = record { given = sound.given; right = asked.right sound.given sound.right }

    stays : (h : ℕ) (Tells : List HostStep → Body → Type 0) → TellsByLog start h Tells
        → IsTold start h (Tells (kept_part (logs_at w.logs h))) w
        → IsTold start h (Tells (kept_part (logs_at t.logs h))) t
    stays h Tells tells told =
        let apart : h ≢ 0 = λ at. let some = tells.some in omega (arith, at, some) in
        let same = asked.alone.others h apart in
        subst (λ log. IsTold start h (Tells (kept_part log)) t) (sym same)
        (stays_told start w t 0 asked.alone sound_then h (Tells (kept_part (logs_at w.logs h))) same told)

    pub requests_tell_what_is_kept : (member : Member) → IsIn member (made start) → TellsWhatIsKept start member w
        → TellsWhatIsKept start member t
    requests_tell_what_is_kept member there told = record {
      saved =
          stays (ldm_of start member) (TellsNotedRows start member)
          (rows_tell_by_log start sound.right.nobody member there) told.saved;
      durable =
          stays (tc_of start member) (TellsNotedDurable start member)
          (epochs_tell_by_log start sound.right.nobody member there)
          told.durable;
    }
