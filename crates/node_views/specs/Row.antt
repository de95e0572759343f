-- What a host does at a signal.
use Rattle.std.specs.Prelude.{ℕ, zero, suc, ◌+◌, ◌&&◌, ◌||◌, Bool, true, false, not, nat_le, nat_lt, List, [], ◌∷◌}
use Rattle.std.specs.Prelude.{◌++◌, is_some, Option, None, Some}
use Rattle.std.specs.List.{list_any}
use Rattle.sig_core.specs.declared.mark.Mark.{Mark}
use Rattle.sig_core.specs.declared.mark.Mark.TheVariants.{CutOff, Installed, Stopped}
use Rattle.sig_core.specs.declared.member.HostId.{HostId}
use Rattle.sig_core.specs.declared.outcome.StopCause.{StopCause}
use Rattle.sig_core.specs.declared.outcome.StopCause.TheVariants.{Excluded, Killed, Sibling}
use Rattle.sig_core.specs.declared.outs.Outgoing.{Outgoing}
use Rattle.sig_core.specs.declared.signal.Body.{Body}
use Rattle.sig_core.specs.declared.signal.Body.TheVariants.{Host}
use Rattle.sig_core.specs.declared.signal.Signal.{Signal}
use Rattle.sig_core.specs.declared.signal.host.HostSignal.TheVariants.{Kill, Cut, Closed}
use Rattle.sig_core.specs.declared.view.View.{View}
use Rattle.sig_core.specs.Step.{Effects, Step, joined, stay}
use Rattle.api_views.specs.Members.{is_member, same_member}
use Rattle.node_views.specs.Blocks.{fence_at, parts_entered, parts_row, settled_at, stop_at}
use Rattle.node_views.specs.Fence.{is_fenced}
use Rattle.node_views.specs.WellFormed.{is_first, is_well_formed}
use Rattle.node_views.specs.declared.host_body.HostBody as hosts
use Rattle.node_views.specs.declared.parts.Parts.{Parts}
use Rattle.node_views.specs.declared.standing.Standing.{Standing}

-- marks and no signals
abbrev pub marks_only : List Mark → Effects
marks_only marks = record { sends = []; marks = marks }

-- the host stops, and does nothing else
abbrev pub stopping : hosts.HostBody → StopCause → Step hosts.HostBody
stopping s cause = record { state = s; effects = marks_only (Stopped cause ∷ []) }

-- the host stands elsewhere, or its blocks have stepped
abbrev pub standing_at : hosts.HostBody → Standing → hosts.HostBody
standing_at s standing = record { standing = standing; parts = s.parts }

abbrev pub with_parts : hosts.HostBody → Step Parts → Step hosts.HostBody
with_parts s t = record { state = record { standing = s.standing; parts = t.state }; effects = t.effects }

-- effects, and then a step
abbrev pub behind : Effects → Step hosts.HostBody → Step hosts.HostBody
behind effects step = record { state = step.state; effects = joined effects step.effects }

-- it is killed once it has taken so many more signals
abbrev pub killed_after : Standing → Option ℕ → Standing
killed_after standing left = record standing { left = left }

-- it stands in another view
abbrev pub in_view : Standing → View → Standing
in_view standing view =
    record standing { view = view; has_joined = standing.has_joined || is_member view standing.member }

-- a view is installed: the host stands in it, and so does each block
unfoldable pub entered : hosts.HostBody → View → Step hosts.HostBody
entered s view = with_parts (standing_at s (in_view s.standing view)) (parts_entered s.parts view)

-- the blocks handle a signal; a view that the membership settles on is installed at once
abbrev pub settle : Step hosts.HostBody → Option View → Step hosts.HostBody
settle t None = t
settle t (Some view) = behind t.effects (entered t.state view)

unfoldable pub blocks_row : hosts.HostBody → Signal → Step hosts.HostBody
blocks_row s x = settle (with_parts s (parts_row s.parts x)) (settled_at s.parts x)

-- an order to stop: at once, or once so many more signals are taken
abbrev pub kill_row : hosts.HostBody → ℕ → Step hosts.HostBody
kill_row s zero = stopping s Killed
kill_row s (suc after) = stay (standing_at s (killed_after s.standing (Some (suc after))))

-- why that stops it, where it does
abbrev pub kill_stop : ℕ → Option StopCause
kill_stop zero = Some Killed
kill_stop (suc after) = None

-- the hosts of a node, of which this is the first: three, one for each part
abbrev pub is_one_of : HostId → HostId → Bool
is_one_of host first = nat_le first.0 host.0 && nat_lt host.0 (first.0 + 3)

-- the host has cut that one off
abbrev pub is_cut : Standing → HostId → Bool
is_cut standing host = list_any (is_one_of host) standing.cut

abbrev pub cut_marks : HostId → List Mark
cut_marks first = CutOff first ∷ CutOff (record { 0 = first.0 + 1 }) ∷ CutOff (record { 0 = first.0 + 2 }) ∷ []

abbrev pub cut_if : hosts.HostBody → HostId → Bool → Step hosts.HostBody
cut_if s first true = stay s
cut_if s first false =
    record {
      state = standing_at s (record s.standing { cut = s.standing.cut ++ first ∷ [] });
      effects = marks_only (cut_marks first);
    }

-- the hosts of a node are cut off, unless they are already, or have no number
abbrev pub cut_row : hosts.HostBody → HostId → Step hosts.HostBody
cut_row s first = cut_if s first (is_cut s.standing first || not (is_first first))

-- a host has closed its links: one of the same member takes this host with it
abbrev pub closed_if : hosts.HostBody → Signal → Bool → Step hosts.HostBody
closed_if s x true = stopping s (Sibling x.from)
closed_if s x false = blocks_row s x

abbrev pub closed_stop : hosts.HostBody → Signal → Bool → Option StopCause
closed_stop s x true = Some (Sibling x.from)
closed_stop s x false = stop_at s.parts x

-- what the host does itself, and what it leaves to its blocks
abbrev pub host_table : hosts.HostBody → Signal → Body → Step hosts.HostBody
host_table s x (Host (Kill after)) = kill_row s after
host_table s x (Host (Cut node first)) = cut_row s first
host_table s x (Host (Closed cause)) = closed_if s x (same_member s.standing.member x.member)
host_table s x body = blocks_row s x

-- why it stops by that, where it does
abbrev pub table_stop : hosts.HostBody → Signal → Body → Option StopCause
table_stop s x (Host (Kill after)) = kill_stop after
table_stop s x (Host (Cut node first)) = None
table_stop s x (Host (Closed cause)) = closed_stop s x (same_member s.standing.member x.member)
table_stop s x body = stop_at s.parts x

-- a signal of a fenced kind, from a view below the fence of the block that it is for, is dropped
abbrev pub is_barred : hosts.HostBody → Signal → Bool
is_barred s x = is_fenced x && nat_lt x.view.number (fence_at s.parts x.to.block s.standing.view.number)

abbrev pub passed_if : hosts.HostBody → Signal → Bool → Step hosts.HostBody
passed_if s x true = stay s
passed_if s x false = host_table s x x.body

unfoldable pub passed_row : hosts.HostBody → Signal → Step hosts.HostBody
passed_row s x = passed_if s x (is_barred s x)

abbrev pub passed_stop_if : hosts.HostBody → Signal → Bool → Option StopCause
passed_stop_if s x true = None
passed_stop_if s x false = table_stop s x x.body

unfoldable pub passed_stop : hosts.HostBody → Signal → Option StopCause
passed_stop s x = passed_stop_if s x (is_barred s x)

-- a view without the member stops a host that has joined
abbrev pub is_excluded : Standing → View → Bool
is_excluded standing view = standing.has_joined && not (is_member view standing.member)

abbrev pub entering_if : hosts.HostBody → Signal → Bool → Step hosts.HostBody
entering_if s x true = stopping s (Excluded x.view.number)
entering_if s x false =
    behind (joined (marks_only (Installed x.view ∷ [])) (entered s x.view).effects)
    (passed_row (entered s x.view).state x)

abbrev pub headed_if : hosts.HostBody → Signal → Bool → Step hosts.HostBody
headed_if s x true = entering_if s x (is_excluded s.standing x.view)
headed_if s x false = passed_row s x

-- a signal from a greater view than the host's installs that first
unfoldable pub headed_row : hosts.HostBody → Signal → Step hosts.HostBody
headed_row s x = headed_if s x (nat_lt s.standing.view.number x.view.number)

abbrev pub entering_stop : hosts.HostBody → Signal → Bool → Option StopCause
entering_stop s x true = Some (Excluded x.view.number)
entering_stop s x false = passed_stop (entered s x.view).state x

abbrev pub headed_stop_if : hosts.HostBody → Signal → Bool → Option StopCause
headed_stop_if s x true = entering_stop s x (is_excluded s.standing x.view)
headed_stop_if s x false = passed_stop s x

unfoldable pub headed_stop : hosts.HostBody → Signal → Option StopCause
headed_stop s x = headed_stop_if s x (nat_lt s.standing.view.number x.view.number)

-- a host that is to be killed takes so many more signals, the last of which it leaves alone
abbrev pub counted_row : hosts.HostBody → Signal → Option ℕ → Step hosts.HostBody
counted_row s x None = headed_row s x
counted_row s x (Some zero) = stopping s Killed
counted_row s x (Some (suc zero)) = stopping s Killed
counted_row s x (Some (suc (suc left))) = headed_row (standing_at s (killed_after s.standing (Some (suc left)))) x

abbrev pub counted_stop : hosts.HostBody → Signal → Option ℕ → Option StopCause
counted_stop s x None = headed_stop s x
counted_stop s x (Some zero) = Some Killed
counted_stop s x (Some (suc zero)) = Some Killed
counted_stop s x (Some (suc (suc left))) = headed_stop (standing_at s (killed_after s.standing (Some (suc left)))) x

-- a mark that tells that the host stops; no step looks at it
abbrev pub is_stop : Mark → Bool
is_stop (Stopped cause) = true
is_stop mark = false

abbrev pub unless_stopped : List Outgoing → Bool → List Outgoing
unless_stopped sends true = []
unless_stopped sends false = sends

-- a step that stops the host sends nothing
abbrev pub hushed : Bool → Step hosts.HostBody → Step hosts.HostBody
hushed stops step =
    record {
      state = step.state;
      effects = record { sends = unless_stopped step.effects.sends stops; marks = step.effects.marks };
    }

abbrev pub taken_if : hosts.HostBody → Signal → Bool → Step hosts.HostBody
taken_if s x true = hushed (is_some (counted_stop s x s.standing.left)) (counted_row s x s.standing.left)
taken_if s x false = stay s

-- What a host does at a signal. One that isn't well formed changes nothing.
unfoldable pub host_row : hosts.HostBody → Signal → Step hosts.HostBody
host_row s x = taken_if s x (is_well_formed s.standing.shape x)

-- why the host stops by it, where it does
abbrev pub stop_if : hosts.HostBody → Signal → Bool → Option StopCause
stop_if s x true = counted_stop s x s.standing.left
stop_if s x false = None

unfoldable pub host_stop : hosts.HostBody → Signal → Option StopCause
host_stop s x = stop_if s x (is_well_formed s.standing.shape x)
