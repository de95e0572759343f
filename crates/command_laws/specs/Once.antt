-- Which replies are about a transaction with a name, and how many of them a command brings.
use Rattle.std.specs.Prelude.{◌≡◌, ◌==◌, ℕ, Bool, false, List, Some}
use Rattle.world_core.specs.Steps.{HostStep}
use Rattle.sig_core.specs.declared.reply.ApiReply.{ApiReply}
use Rattle.sig_core.specs.declared.reply.ApiReply.TheVariants.{Answered, Begun, Ended, Pending, Refused}
use Rattle.api_block.specs.Opened.{same_name}
use Rattle.world_core.specs.Start.{Start}
use Rattle.run_theory.specs.Counts.{tally}
use Rattle.command_laws.specs.Served.{replies_since}

-- the reply has this name
abbrev pub is_about : ℕ → ApiReply → Bool
is_about name (Begun called node) = called == name
is_about name (Answered called answer) = same_name called (Some name)
is_about name (Ended called outcome) = same_name called (Some name)
is_about name (Pending called on) = same_name called (Some name)
is_about name (Refused called refusal) = same_name called (Some name)
is_about name reply = false

-- of the replies since then just one has it
abbrev pub IsToldOnce : Start → (was now : ℕ → List HostStep) → ℕ → Type 0
IsToldOnce start was now name = tally (is_about name) (replies_since start was now) ≡ 1
