-- A life on disks where the shell asks for something, and where it is given replies.
use Rattle.std.proofs.Common.{◌≡◌, ◌+◌, ◌∙◌, ℕ, List, ap, sym, subst}
use Rattle.std.specs.Prelude.{IfSome}
use Rattle.run_theory.specs.Links.{taken}
use Rattle.run_theory.proofs.Pasts.{past_self}
use Rattle.run_theory.specs.Cuts.{IsCut}
use Rattle.run_theory.specs.Lists.{Each, IsPast}
use Rattle.sig_core.specs.declared.log.HostLog.{HostLog}
use Rattle.sig_core.specs.declared.member.Member.{Member}
use Rattle.sig_core.specs.declared.signal.Body.{Body}
use Rattle.sig_core.specs.declared.signal.Signal.{Signal}
use Rattle.sys_restart.specs.Calls.{next_system, rows_of_node}
use Rattle.world_core.specs.Start.{Start}
use Rattle.world_core.specs.Steps.{Addressed}
use Rattle.world_core.specs.World.{logs_at}
use Rattle.world_views.specs.Links.{Links, link}
use Rattle.world_views.specs.Machine.{machine}
use Rattle.world_views.specs.Requests.{request_of, requests}
use Rattle.world_views.specs.Right.{IsOpen}
use Rattle.world_views.specs.World.{Whole}
use Rattle.moment_laws.specs.Places.{ldm_of, tc_of}
use Rattle.disk_world.specs.Disks.{Disks}
use Rattle.journal_laws.specs.Asked.{AreOfWords, IsOfRequest}
use Rattle.disk_laws.proofs.RequestLaw.{keeps_same, requests_kept}
use Rattle.restart_laws.specs.Lived.{LivesAsk, LivesHear}
use Rattle.disk_laws.specs.Noted.{kept_part}
use Rattle.disk_laws.specs.ToldSlots.{KeepsTold}
use Rattle.disk_laws.proofs.told_slots.Logs.{leaves_along}
use Rattle.restart_laws.specs.Told.{IsTold, TellsNotedDurable, TellsNotedRows}
use Rattle.restart_laws.proofs.lived.Goes.{asked_is}
use Rattle.restart_laws.proofs.telling.Lives.{requests_tell_what_is_kept}

-- what a disk leaves of control slots is so of a world with longer logs
told_longer : (start : Start) (member : Member) (generation : ℕ) (w t : Whole) (disks : Disks)
    → IsCut (logs_at w.logs) (logs_at t.logs) → KeepsTold start member generation w disks
    → KeepsTold start member generation t disks
told_longer start member generation w t disks grown kept = record {
  calls = kept.calls;
  told = kept.told;
  leaves =
      leaves_along start member generation (logs_at w.logs) (logs_at t.logs) grown kept.calls kept.leaves;
}

pub lives_ask : LivesAsk
lives_ask start r request w t disks asked well lived =
    record {
      is_start = lived.is_start;
      may = lived.may;
      sound = record { given = lived.sound.given; right = asked.right lived.sound.given lived.sound.right };
      words =
          subst AreOfWords (sym asked.next) (
            subst (λ o. IfSome o IsOfRequest)
                (sym (asked_is (requests (logs_at w.logs 0)) (request_of asked.asking) request
                (sym (ap requests asked.next) ∙ asked.requests)))
                well,
            lived.words,
          );
      told = lived.told;
      slots = lived.slots;
      each = λ member there.
          let was = lived.each member there in
          record {
            up =
                requests_kept start member (rows_of_node start.shape member.node r) (next_system start.shape r) request
                w t disks lived.sound there asked was.up;
            tells = requests_tell_what_is_kept start request w t lived.sound asked member there was.tells;
            shape = was.shape;
            told_slots = told_longer start member (r.generation + 1) w t disks asked.more was.told_slots;
            owner = was.owner;
            storable = was.storable;
          };
    }

-- what was told is the same where logs and links are
same_told : (start : Start) (h : ℕ) (Q : Body → Type 0) (w t : Whole) → t.logs ≡ w.logs → t.links ≡ w.links
    → IsTold start h Q w → IsTold start h Q t
same_told start h Q w t logs links told =
    record {
      taken = λ j low.
          subst (λ (ls : List HostLog). Each (λ (y : Addressed). Q y.signal.body)
          (taken (machine start) h (logs_at ls j)))
          (sym logs) (told.taken j low);
      in_transit = λ j low still.
          subst (λ (ls : Links). Each (λ (x : Signal). Q x.body) (link ls h j).signals) (sym links)
          (told.in_transit j low (subst (λ (ls : List HostLog). IsOpen start h j (logs_at ls j)) logs still));
    }

pub lives_hear : LivesHear
lives_hear start r w t disks sound logs links lived =
    record {
      is_start = lived.is_start;
      may = lived.may;
      sound = sound;
      words = subst (λ (ls : List HostLog). AreOfWords (logs_at ls 0)) (sym logs) lived.words;
      told = lived.told;
      slots = lived.slots;
      each = λ member there.
          let was = lived.each member there in
          record {
            up =
                keeps_same start member (rows_of_node start.shape member.node r) (next_system start.shape r) w t disks
                (ap (λ (ls : List HostLog). logs_at ls (ldm_of start member)) logs)
                (ap (λ (ls : List HostLog). logs_at ls (tc_of start member)) logs) was.up;
            tells =
                record {
                  saved =
                      subst
                      (λ (ls : List HostLog). IsTold start (ldm_of start member)
                      (TellsNotedRows start member (kept_part (logs_at ls (ldm_of start member)))) t) (sym logs)
                      (same_told start (ldm_of start member)
                      (TellsNotedRows start member (kept_part (logs_at w.logs (ldm_of start member)))) w t logs links
                      was.tells.saved);
                  durable =
                      subst
                      (λ (ls : List HostLog). IsTold start (tc_of start member)
                      (TellsNotedDurable start member (kept_part (logs_at ls (tc_of start member)))) t) (sym logs)
                      (same_told start (tc_of start member)
                      (TellsNotedDurable start member (kept_part (logs_at w.logs (tc_of start member)))) w t logs links
                      was.tells.durable);
                };
            shape = was.shape;
            told_slots =
                told_longer start member (r.generation + 1) w t disks
                (λ h.
                subst (λ (ls : List HostLog). IsPast (logs_at w.logs h) (logs_at ls h)) (sym logs)
                (past_self (logs_at w.logs h))) was.told_slots;
            owner = was.owner;
            storable = was.storable;
          };
    }
