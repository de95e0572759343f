-- What the arbitrator may ever say: answers to requests for a grant. It marks nothing.
use Rattle.std.specs.Prelude.{Bool, true, false}
use Rattle.sig_core.specs.declared.mark.Mark.{Mark}
use Rattle.sig_core.specs.declared.signal.Body.{Body}
use Rattle.sig_core.specs.declared.signal.Body.TheVariants.{Membership}
use Rattle.sig_core.specs.declared.signal.Signal.{Signal}
use Rattle.sig_core.specs.declared.signal.membership.MembershipSignal.TheVariants.{ArbitConf, ArbitRef}
use Rattle.step_forms.specs.Does.{Speaks}
use Rattle.arbiter_block.specs.Arbiter.{ArbiterState, arbiter_row}

-- a grant, or a refusal
abbrev pub is_arbiter_word : Body → Bool
is_arbiter_word (Membership (ArbitConf number)) = true
is_arbiter_word (Membership (ArbitRef number members)) = true
is_arbiter_word _ = false

abbrev pub is_arbiter_mark : Mark → Bool
is_arbiter_mark _ = false

-- whatever it keeps, and whatever comes
abbrev pub ArbiterKeepsToItsWords : Type 0
ArbiterKeepsToItsWords =
    (s : ArbiterState) (x : Signal) → Speaks is_arbiter_word is_arbiter_mark (arbiter_row s x)
