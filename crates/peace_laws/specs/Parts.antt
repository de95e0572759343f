-- The plain part of peaceful logs: what is left of them without the main parts of nodes and without closings, and with
-- all epochs made the one in which the life began. It is what a cluster does in which nothing can fail and no epoch
-- ends.
use Rattle.std.specs.Prelude.{ℕ, if◌then◌else◌, Bool, true, false, not, List, [], filter, map}
use Rattle.sig_core.specs.declared.reply.ApiReply.{ApiReply}
use Rattle.sig_core.specs.declared.reply.ApiReply.TheVariants.{Closed, Durable, View}
use Rattle.world_core.specs.Start.{Start}
use Rattle.world_core.specs.Steps.{HostStep}
use Rattle.calm_laws.specs.Plain.{is_beating}
use Rattle.level_laws.specs.Levels.{mark_at, reply_at, signal_at}
use Rattle.peace_laws.specs.Peace.{is_closing}

-- a step with all epochs made one
abbrev pub levelled : ℕ → HostStep → HostStep
levelled epoch e =
    record {
      host = e.host;
      step = record {
        stamp = e.step.stamp;
        taken = signal_at epoch e.step.taken;
        marks = map (mark_at epoch) e.step.marks;
      };
    }

-- host h does it beside closings
abbrev pub is_beside : ℕ → HostStep → Bool
is_beside h e = not (is_closing h e.step.taken)

abbrev pub plain_part : Start → ℕ → List HostStep → List HostStep
plain_part start h log = if is_beating h then [] else map (levelled start.epoch) (filter (is_beside h) log)

abbrev pub plain_parts : Start → (ℕ → List HostStep) → ℕ → List HostStep
plain_parts start logs h = plain_part start h (logs h)

-- the view of the cluster is told, or the end of a closing, which no plain machine does
abbrev pub shows : ApiReply → Bool
shows (View view) = true
shows (Closed epoch) = true
shows (Durable epoch) = true
shows reply = false

-- of these replies those that a plain machine gives
abbrev pub plain_replies : List ApiReply → List ApiReply
plain_replies replies = filter (λ (reply : ApiReply). not (shows reply)) replies

abbrev pub levelled_replies : ℕ → List ApiReply → List ApiReply
levelled_replies epoch replies = map (reply_at epoch) (plain_replies replies)
