-- How a closing begins.
use Rattle.std.specs.Prelude.{ℕ, ◌||◌, Bool, true, false, [], Option, None, Some}
use Rattle.sig_core.specs.declared.mark.Mark.TheVariants.{Stopped}
use Rattle.sig_core.specs.declared.outcome.StopCause.TheVariants.{Clock}
use Rattle.sig_core.specs.Step.{Step, nothing, and_mark, stay}
use Rattle.gcp_master.specs.declared.phase.Asked.{Asked}
use Rattle.gcp_master.specs.declared.phase.Phase.TheVariants.{Resting, Preparing}
use Rattle.gcp_master.specs.Numbers.{next_global, next_micro}
use Rattle.gcp_master.specs.Sends.{listing}
use Rattle.gcp_master.specs.State.{MasterState}

-- a master that was to begin a closing: its state, and whether the numbers of epochs are used up
pub record Begun : Type 0 where
  pub state : MasterState
  pub spent : Bool

-- a global checkpoint begins: it serves all that asked for one
abbrev pub begin_global : MasterState → ℕ → Option ℕ → Begun
begin_global s current None = record { state = s; spent = true }
begin_global s current (Some next) =
    record {
      state = record s {
        phase = Preparing (record { epoch = current; next = next; copy = s.asked.copy; local = s.asked.local });
        asked = record { global = false; copy = false; local = false; micro = s.asked.micro };
        voices = [];
      };
      spent = false;
    }

-- a micro closing begins
abbrev pub begin_micro : MasterState → ℕ → Option ℕ → Begun
begin_micro s current None = record { state = s; spent = true }
begin_micro s current (Some next) =
    record {
      state = record s {
        phase = Preparing (record { epoch = current; next = next; copy = false; local = false });
        asked = record s.asked { micro = false };
        voices = [];
      };
      spent = false;
    }

-- nothing is asked for
abbrev pub begin_none : MasterState → ℕ → Begun
begin_none s current = record { state = record s { phase = Resting current; voices = [] }; spent = false }

-- a master whose current epoch is this one begins what is asked for: a global checkpoint first
abbrev pub begin_if : MasterState → ℕ → Bool → Bool → Begun
begin_if s current true micro = begin_global s current (next_global current)
begin_if s current false true = begin_micro s current (next_micro current)
begin_if s current false false = begin_none s current

-- a global checkpoint is asked for, by whom ever
abbrev pub is_global_asked : Asked → Bool
is_global_asked asked = asked.global || (asked.copy || asked.local)

unfoldable pub begun : MasterState → ℕ → Begun
begun s current = begin_if s current (is_global_asked s.asked) s.asked.micro

-- Where the numbers are used up the host stops, and sends nothing. Where a list is under way it goes on with what has
-- begun.
abbrev pub begins_if : MasterState → Bool → Bool → Step MasterState
begins_if s true listed = record { state = s; effects = and_mark nothing (Stopped Clock) }
begins_if s false true = stay s
begins_if s false false = listing s 0

-- a master has nothing under way, or has just ended it, and begins what is asked for
unfoldable pub begins : MasterState → ℕ → Bool → Step MasterState
begins s current listed = begins_if (begun s current).state (begun s current).spent listed
