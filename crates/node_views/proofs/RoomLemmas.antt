-- Where there is room for what the blocks of a host may send.
use Rattle.std.proofs.Common.{◌≡◌, ◌≤◌, [], length, true, arith, refl, subst, sym}
use Rattle.sig_core.specs.Step.{Effects, HasRoom, nothing}
use Rattle.api_views.proofs.RoundLemmas.{has_room}
use Rattle.api_views.specs.Rounds.{HasAllRoom}
use Rattle.node_views.specs.Blocks.{HasRoomFor, is_shell}
use Rattle.node_views.specs.declared.parts.Parts.{Parts}
use Rattle.node_views.specs.declared.parts.Parts.TheVariants.{Shell}
use Rattle.node_views.specs.declared.shell_part.ShellPart.{ShellPart}

-- for the client's side
pub shell_room : (p : ShellPart) (out : Effects) → HasRoomFor (Shell p) out → HasAllRoom out
shell_room p out has = record { sends = has.shell refl; marks = has.room.marks }

-- for any block
pub some_room : (parts : Parts) (out : Effects) → HasRoomFor parts out → HasRoom out
some_room parts out has = has.room

-- where nothing was done
pub all_room : (parts : Parts) (out : Effects) → out ≡ nothing → HasRoomFor parts out
all_room parts out is =
    subst (λ (e : Effects). HasRoomFor parts e) (sym is)
    (record { room = record { sends = omega arith; marks = omega arith }; shell = λ shell. refl })

-- behind the installation of a view
pub installed_room : (parts : Parts) (out : Effects) → length out.sends ≤ 3 → length out.marks ≤ 1
    → (is_shell parts ≡ true → out.sends ≡ [])
    → HasRoomFor parts out
installed_room parts out few fewer shell =
    record { room = record { sends = omega (arith, few); marks = omega (arith, fewer) }; shell = shell }

-- and for a block that takes less
pub all_has : (out : Effects) → HasAllRoom out → HasRoom out
all_has = has_room
