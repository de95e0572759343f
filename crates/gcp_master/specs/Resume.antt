-- How a master goes on in a view that was installed.
use Rattle.std.specs.Prelude.{Bool, true, false, [], slice_get, Option, None, Some}
use Rattle.sig_core.specs.declared.member.Member.{Member}
use Rattle.sig_core.specs.declared.view.View.{View}
use Rattle.sig_core.specs.Step.{Step, stay}
use Rattle.gcp_master.specs.declared.known.Known.{Known}
use Rattle.gcp_master.specs.declared.known.Told.{Told}
use Rattle.gcp_master.specs.declared.phase.Asked.{Asked}
use Rattle.gcp_master.specs.declared.phase.Phase.{Phase}
use Rattle.gcp_master.specs.declared.phase.Phase.TheVariants.{Unordered, Gathering, Resting}
use Rattle.gcp_master.specs.declared.voices.Voice.{Voice}
use Rattle.gcp_master.specs.Begin.{begins}
use Rattle.gcp_master.specs.Known.{learned, nothing_known, resumed}
use Rattle.gcp_master.specs.Sends.{entering}
use Rattle.gcp_master.specs.State.{MasterState, all_in, counted, counts, no_local}
use Rattle.gcp_master.specs.Voices.{is_among, same_member}

-- the master is ordered to go on: it asks both blocks of each member how far they are
abbrev pub order_by : MasterState → Phase → Step MasterState
order_by s Unordered = entering s (Gathering nothing_known)
order_by s _ = stay s

unfoldable pub order_row : MasterState → Step MasterState
order_row s = order_by s s.phase

-- what a starting member tells is left out
abbrev pub learned_if : Known → Told → Bool → Known
learned_if known told true = learned known told
learned_if known told false = known

-- all have told: the master resumes, or begins what is asked for
abbrev pub resume_at : MasterState → Phase → Step MasterState
resume_at s (Resting current) = begins s current false
resume_at s phase = entering s phase

abbrev pub told_all_if : MasterState → Known → Bool → Step MasterState
told_all_if s known true = resume_at s (resumed known)
told_all_if s known false = stay s

-- it knows this by now
abbrev pub knowing : MasterState → Known → MasterState
knowing s known = record s { phase = Gathering known }

abbrev pub state_if : MasterState → Voice → Known → Bool → Step MasterState
state_if s voice known true = told_all_if (knowing (counted s voice) known) known (all_in 2 (counted s voice))
state_if s voice known false = stay s

abbrev pub state_by : MasterState → Voice → Told → Phase → Step MasterState
state_by s voice told (Gathering known) =
    state_if s voice (learned_if known told (is_among s.view.full voice.member)) (counts s voice)
state_by s voice told _ = stay s

-- a block of a member tells how far it is
unfoldable pub state_row : MasterState → Voice → Told → Step MasterState
state_row s voice told = state_by s voice told s.phase

-- the member is the oldest full one
abbrev pub is_first_by : Member → Option Member → Bool
is_first_by member None = false
is_first_by member (Some oldest) = same_member member oldest

abbrev pub is_president : Member → View → Bool
is_president member view = is_first_by member (slice_get view.full 0)

-- what is still asked for when a view is installed: of the president what the client asked for, of others nothing
abbrev pub still_asked : Asked → Bool → Asked
still_asked asked true = record { global = asked.global; copy = false; local = false; micro = asked.micro }
still_asked asked false = record { global = false; copy = false; local = false; micro = false }

-- another view is installed: what was under way is over, a local checkpoint too, and a takeover has yet to end
unfoldable pub in_view : MasterState → View → MasterState
in_view s view =
    record {
      member = s.member;
      view = view;
      phase = Unordered;
      front = None;
      asked = still_asked s.asked (is_president s.member view);
      owed = true;
      voices = [];
      local = no_local;
    }
