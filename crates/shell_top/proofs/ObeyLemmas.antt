-- A cluster obeys a crash, a restart where it is down, or a command that is refused: what comes of it is one line.
use Rattle.std.proofs.Common.{◌≡◌, ℕ, List, ◌++◌, true, false, ap, sym, subst}
use Rattle.std.specs.Prelude.{Option, None, Some, codes, is_some}
use Rattle.disk_world.specs.declared.disk_world.DiskWorld.{DiskWorld}
use Rattle.frag_map.specs.Shape.{IsShape}
use Rattle.host_io.specs.Call.{Call}
use Rattle.script_lang.specs.declared.command.Command.{Command}
use Rattle.script_lang.specs.declared.command.Command.TheVariants as command
use Rattle.script_lang.specs.ReplyText.{newline, reply_text}
use Rattle.sig_core.specs.declared.log.Life.{Life}
use Rattle.sig_core.specs.declared.reply.ApiReply.TheVariants.{Crashed, Restarted}
use Rattle.sig_core.specs.declared.view.Shape.{Shape}
use Rattle.shell_top.specs.declared.ended.Ending.{Ending}
use Rattle.shell_top.specs.declared.lives.Lives.{Lives}
use Rattle.shell_top.specs.Lives.{Going, HasBegun, HaveLostPower, IsLineTold, Obeys, all_lives, disks_of, going_in}
use Rattle.shell_top.specs.Lives.{is_up, now_of, start_in}
use Rattle.shell_top.specs.OnDisks.{LivesOn, UnlessWanting}
use Rattle.shell_top.specs.Seen.{HasGrown, Seen, seen_on}
use Rattle.shell_top.specs.Served.{PrintsCommand}
use Rattle.shell_top.specs.Setting.{setting_of}
use Rattle.shell_top.proofs.BetweenLemmas.{crashes, line_obeys, refuses, restarts}
use Rattle.shell_top.proofs.KeptLemmas.{disks_within, goes, goes_same}
use Rattle.shell_top.proofs.LivesLemmas.{obeys_served}
use Rattle.world_core.specs.Start.{Start}
use Rattle.world_views.specs.WorldOf.{whole_of}

module _ (shape : Shape) (sound : IsShape shape) (ended : List Life) (written written_now : Option (List ℕ))
    (result : Option Ending) where
  -- no life goes on
  pub obeys_refused : (c : Command) (seen : Seen) (now : Option Going) → is_some now ≡ false
      → IsLineTold result (codes "down" ++ newline) written written_now
      → Obeys shape c seen seen ended ended now now written written_now result
  obeys_refused c seen None none told =
      line_obeys shape sound c (codes "down" ++ newline) seen seen ended ended None None written written_now
      (refuses shape sound c seen ended) result told
  obeys_refused c seen (Some g) none told = cc

  -- the life that goes on ends by a crash
  pub obeys_crash : (seen lost : Seen) (now : Option Going) → is_some now ≡ true → HaveLostPower now seen lost
      → IsLineTold result (reply_text Crashed) written written_now
      → Obeys shape command.Crash seen lost ended (all_lives ended now) now None written written_now result
  obeys_crash seen lost None some cut told = cc
  obeys_crash seen lost (Some g) some cut told =
      line_obeys shape sound command.Crash (reply_text Crashed) seen lost ended (all_lives ended (Some g)) (Some g) None
      written written_now (crashes shape sound seen lost cut ended g) result told

  -- the next life begins
  pub obeys_restart : (seen lost seen_now : Seen) (now next : Option Going) → is_up now ≡ false
      → HaveLostPower now seen lost → HasBegun shape lost seen_now next → HasGrown lost seen_now
      → IsLineTold result (reply_text (Restarted (start_in shape next).start_epoch)) written written_now
      → Obeys shape command.Restart seen seen_now ended (all_lives ended now) now next written written_now result
  obeys_restart seen lost seen_now now next down cut begun grown told =
      line_obeys shape sound command.Restart (reply_text (Restarted begun.going.start.start_epoch)) seen seen_now ended
      (all_lives ended now) now next written written_now
      (restarts shape sound seen lost seen_now ended now next down cut begun grown) result
      (subst (λ (start : Start). IsLineTold result (reply_text (Restarted start.start_epoch)) written written_now)
      (ap (start_in shape) begun.is) told)

-- the life that goes on obeys in its world
module _ {D : Type 0} (told : D → Option (List Call)) (faults : D → ℕ) (lives : Lives D) (sound : IsShape lives.shape)
    (w t : DiskWorld D) (is : lives.world ≡ Some w) (same : setting_of t ≡ setting_of w)
    (grown : HasGrown (seen_on told faults w.disks.items) (seen_on told faults t.disks.items)) where
  pub obeys_within : (c : Command) (written written_now : Option (List ℕ)) (result : Option Ending)
      → UnlessWanting result (LivesOn (start_in lives.shape (now_of lives)) told w t)
      → PrintsCommand (start_in lives.shape (now_of lives)) c (whole_of w.world) (whole_of t.world) result written
      written_now
      → Obeys lives.shape c (seen_on told faults (disks_of lives)) (seen_on told faults t.disks.items)
      lives.ended.items lives.ended.items (now_of lives) (Some (going_in lives.shape t)) written written_now result
  obeys_within c written written_now result on printed =
      subst
      (λ disks.
      Obeys lives.shape c (seen_on told faults disks) (seen_on told faults t.disks.items) lives.ended.items
      lives.ended.items (now_of lives) (Some (going_in lives.shape t)) written written_now result)
      (sym (disks_within lives w is))
      (subst
      (λ now.
      UnlessWanting result (LivesOn (start_in lives.shape now) told w t)
      → PrintsCommand (start_in lives.shape now) c (whole_of w.world) (whole_of t.world) result written written_now
      → Obeys lives.shape c (seen_on told faults w.disks.items) (seen_on told faults t.disks.items) lives.ended.items
      lives.ended.items now (Some (going_in lives.shape t)) written written_now result)
      (sym (goes lives w is)) by on printed)
    where
      by : UnlessWanting result (LivesOn (going_in lives.shape w).start told w t)
          → PrintsCommand (going_in lives.shape w).start c (whole_of w.world) (whole_of t.world) result written
          written_now
          → Obeys lives.shape c (seen_on told faults w.disks.items) (seen_on told faults t.disks.items)
          lives.ended.items lives.ended.items (Some (going_in lives.shape w)) (Some (going_in lives.shape t)) written
          written_now result
      by comes prints =
          subst
          (λ next.
          Obeys lives.shape c (seen_on told faults w.disks.items) (seen_on told faults t.disks.items) lives.ended.items
          lives.ended.items (Some (going_in lives.shape w)) (Some next) written written_now result)
          (sym (goes_same lives.shape w t same))
          (obeys_served lives.shape sound lives.ended.items c (going_in lives.shape w) (whole_of t.world)
          t.slots.items (seen_on told faults w.disks.items) (seen_on told faults t.disks.items) grown written
          written_now result comes prints)
