-- How the next life of a cluster begins, or doesn't, as what is kept of its lives tells it.
use Rattle.std.proofs.Common.{◌≡◌, List, ℕ, false, true, refl, sym, subst, ◌∙◌}
use Rattle.std.specs.Prelude.{IfSome, Option, None, Some, is_some}
use Rattle.frag_map.specs.Shape.{IsShape}
use Rattle.host_io.specs.Call.{Call}
use Rattle.script_lang.specs.declared.command.Command.{Command}
use Rattle.script_lang.specs.declared.command.Command.TheVariants as command
use Rattle.script_lang.specs.ReplyText.{reply_text}
use Rattle.sig_core.specs.declared.log.Life.{Life}
use Rattle.sig_core.specs.declared.reply.ApiReply.TheVariants.{Crashed, Restarted}
use Rattle.sig_core.specs.declared.view.Shape.{Shape}
use Rattle.shell_top.specs.declared.ended.Ending.{Ending}
use Rattle.shell_top.specs.declared.lives.Lives.{Lives}
use Rattle.shell_top.specs.Lives.{Going, HasBegun, HaveLostPower, IsLineTold, IsUnopened, Obeys, all_lives, disks_of}
use Rattle.shell_top.specs.Lives.{is_up, now_of, start_in}
use Rattle.shell_top.specs.Seen.{HasGrown, HaveLost, Seen, seen_on}
use Rattle.shell_top.proofs.BetweenLemmas.{restart_refused}
use Rattle.shell_top.proofs.KeptLemmas.{disks_aside, goes_where, none_goes}
use Rattle.shell_top.proofs.ObeyLemmas.{obeys_crash, obeys_restart}

-- a cluster that obeyed is the same under other names
pub obeys_alike : (shape : Shape) (c : Command) (seen seen_now as_seen : Seen) (ended later as_later : List Life)
    (now next as_next : Option Going) (written written_now : Option (List ℕ)) (result : Option Ending)
    → seen_now ≡ as_seen → later ≡ as_later → next ≡ as_next
    → Obeys shape c seen seen_now ended later now next written written_now result
    → Obeys shape c seen as_seen ended as_later now as_next written written_now result
obeys_alike shape c seen seen_now as_seen ended later as_later now next as_next written written_now result same_seen
    same_later same_next obeys =
    subst (λ s. Obeys shape c seen s ended as_later now as_next written written_now result) same_seen
    (subst (λ ls. Obeys shape c seen seen_now ended ls now as_next written written_now result) same_later
    (subst (λ n. Obeys shape c seen seen_now ended later now n written written_now result) same_next obeys))

-- a life ends, and the power of its disks is cut
module _ {D : Type 0} (told : D → Option (List Call)) (faults : D → ℕ) (old : Lives D) where
  abbrev was : Seen
  was = seen_on told faults (disks_of old)

  -- where one went on
  pub lost_power : (cut : Lives D) (disks : List D) → disks ≡ disks_of old → is_some (now_of old) ≡ true
      → cut.world ≡ None → HaveLost (seen_on told faults disks) (seen_on told faults cut.disks.items)
      → HaveLostPower (now_of old) was (seen_on told faults (disks_of cut))
  lost_power cut disks same some none lost =
      by (now_of old) some
      (subst (λ ds. HaveLost was (seen_on told faults ds)) (sym (disks_aside cut none))
      (subst (λ ds. HaveLost (seen_on told faults ds) (seen_on told faults cut.disks.items)) same lost))
    where
      by : (now : Option Going) → is_some now ≡ true → HaveLost was (seen_on told faults (disks_of cut))
          → HaveLostPower now was (seen_on told faults (disks_of cut))
      by None some lost = cc
      by (Some g) some lost = lost

  -- where none did, nothing is done
  pub kept_power : is_some old.world ≡ false → HaveLostPower (now_of old) was was
  kept_power none = by (now_of old) (goes_where old.shape old.world ∙ none)
    where
      by : (now : Option Going) → is_some now ≡ false → HaveLostPower now was was
      by None none = refl
      by (Some g) none = cc

module _ {D : Type 0} (told : D → Option (List Call)) (faults : D → ℕ) (old : Lives D) (sound : IsShape old.shape)
    (written written_now : Option (List ℕ)) (result : Option Ending) where
  abbrev pub seen_of : Lives D → Seen
  seen_of lives = seen_on told faults (disks_of lives)

  -- the life that went on has ended, and power was cut
  pub crash_obeys : (cut : Lives D) → is_some (now_of old) ≡ true
      → cut.ended.items ≡ all_lives old.ended.items (now_of old) → cut.world ≡ None
      → HaveLostPower (now_of old) (seen_of old) (seen_of cut)
      → IsLineTold result (reply_text Crashed) written written_now
      → Obeys old.shape command.Crash (seen_of old) (seen_of cut) old.ended.items cut.ended.items (now_of old)
      (now_of cut) written written_now result
  crash_obeys cut some ended none lost told_line =
      obeys_alike old.shape command.Crash (seen_of old) (seen_of cut) (seen_of cut) old.ended.items
      (all_lives old.ended.items (now_of old)) cut.ended.items (now_of old) None (now_of cut) written written_now
      result refl (sym ended) (sym (none_goes cut none))
      (obeys_crash old.shape sound old.ended.items written written_now result (seen_of old) (seen_of cut) (now_of old)
      some lost told_line)

  -- the life that went on, if one did, has ended, power was cut, and the next one was to begin
  module _ (over new : Lives D) (shape : over.shape ≡ old.shape)
      (ended : over.ended.items ≡ all_lives old.ended.items (now_of old))
      (lost : HaveLostPower (now_of old) (seen_of old) (seen_of over)) (down : is_up (now_of old) ≡ false)
      (new_shape : new.shape ≡ over.shape) (new_ended : new.ended.items ≡ over.ended.items)
      (grown : HasGrown (seen_of over) (seen_of new)) where
    -- it did
    pub begun_obeys : HasBegun over.shape (seen_of over) (seen_of new) (now_of new)
        → IsLineTold result (reply_text (Restarted (start_in new.shape (now_of new)).start_epoch)) written written_now
        → Obeys old.shape command.Restart (seen_of old) (seen_of new) old.ended.items new.ended.items (now_of old)
        (now_of new) written written_now result
    begun_obeys begun line =
        subst
        (λ ls.
        Obeys old.shape command.Restart (seen_of old) (seen_of new) old.ended.items ls (now_of old) (now_of new)
        written written_now result)
        (sym (new_ended ∙ ended))
        (obeys_restart old.shape sound old.ended.items written written_now result (seen_of old) (seen_of over)
        (seen_of new) (now_of old) (now_of new) down lost
        (subst (λ sh. HasBegun sh (seen_of over) (seen_of new) (now_of new)) shape begun) grown
        (subst (λ sh.
        IsLineTold result (reply_text (Restarted (start_in sh (now_of new)).start_epoch)) written written_now)
        (new_shape ∙ shape) line))

    -- or didn't
    pub unopened_obeys : (ending : Option Ending) → (ending ≡ None → ⊥)
        → IfSome ending (λ e. IsUnopened over.shape (seen_of over) (seen_of new) (now_of new) e)
        → Obeys old.shape command.Restart (seen_of old) (seen_of new) old.ended.items new.ended.items (now_of old)
        (now_of new) written written ending
    unopened_obeys None some unopened = absurd (some refl)
    unopened_obeys (Some e) some unopened =
        subst
        (λ ls.
        Obeys old.shape command.Restart (seen_of old) (seen_of new) old.ended.items ls (now_of old) (now_of new)
        written written (Some e))
        (sym (new_ended ∙ ended))
        (restart_refused old.shape sound (seen_of old) (seen_of over) (seen_of new) old.ended.items (now_of old)
        (now_of new) written down lost e
        (subst (λ sh. IsUnopened sh (seen_of over) (seen_of new) (now_of new) e) shape unopened) grown)
