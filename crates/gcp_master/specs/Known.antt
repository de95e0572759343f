-- What a master knows of how far the members are, and where it goes on.
use Rattle.std.specs.Prelude.{ℕ, ◌-◌, ◌^◌, ◌==◌, ◌&&◌, if◌then◌else◌, false, nat_lt}
use Rattle.gcp_master.specs.declared.known.Known.{Known}
use Rattle.gcp_master.specs.declared.known.Told.{Told}
use Rattle.gcp_master.specs.declared.phase.Phase.{Phase}
use Rattle.gcp_master.specs.declared.phase.Phase.TheVariants.{Resting, Preparing, Committing, Copying}
use Rattle.gcp_master.specs.declared.phase.Run.{Run}
use Rattle.gcp_master.specs.Numbers.{is_first}

-- the lesser and the greater of two
abbrev pub lesser : ℕ → ℕ → ℕ
lesser one other = if nat_lt one other then one else other

abbrev pub greater : ℕ → ℕ → ℕ
greater one other = if nat_lt one other then other else one

-- nothing was told: no least one is known yet
abbrev pub nothing_known : Known
nothing_known =
    record {
      epoch = 0;
      next = 0;
      least = 2 ^ 64 - 1;
      greatest = 0;
      closed = 2 ^ 64 - 1;
      saved = 2 ^ 64 - 1;
      durable = 2 ^ 64 - 1;
    }

-- the rows of a full member have told this
abbrev pub learned_of_rows : Known → Told → Known
learned_of_rows known told =
    record known { closed = lesser known.closed told.closed; saved = lesser known.saved told.saved }

-- its block of epochs has
abbrev pub learned_of_epochs : Known → Told → Known
learned_of_epochs known told =
    record {
      epoch = greater known.epoch told.prepared;
      next = greater known.next told.next;
      least = lesser known.least told.current;
      greatest = greater known.greatest told.current;
      closed = lesser known.closed told.closed;
      saved = known.saved;
      durable = lesser known.durable told.durable;
    }

-- a block of a full member has told this: rows tell no current epoch
abbrev pub learned : Known → Told → Known
learned known told = if told.current == 0 then learned_of_rows known told else learned_of_epochs known told

-- the epoch that the last order named, and the one that follows it; no copying and no local checkpoint waits for it any
-- more
abbrev pub last_run : Known → Run
last_run known = record { epoch = known.epoch; next = known.next; copy = false; local = false }

-- Where a master goes on, when all have told. No full member has committed the last order: with it, from its beginning.
-- One hasn't, or one hasn't noted the epoch as closed, or of a checkpoint one hasn't saved it: from the commit on. Of a
-- checkpoint one doesn't know that it is durable: from the system files on. Else with nothing.
abbrev pub resumed : Known → Phase
resumed known =
    if nat_lt known.greatest known.next then Preparing (last_run known)
    else if nat_lt known.least known.next then Committing (last_run known)
    else if nat_lt known.closed known.epoch then Committing (last_run known)
    else if is_first known.next && nat_lt known.saved known.epoch then Committing (last_run known)
    else if is_first known.next && nat_lt known.durable known.epoch then Copying (last_run known)
    else Resting known.next
