-- The API decides nothing and installs nothing.
use Rattle.std.proofs.Common.{◌≡◌, true, refl}
use Rattle.sig_core.specs.declared.mark.Mark.{Mark}
use Rattle.sig_core.specs.declared.signal.Body.{Body}
use Rattle.api_block.specs.Api.{api_table}
use Rattle.api_block.specs.State.{ApiState}
use Rattle.api_block.proofs.EachApi.{api_marks_each}
use Rattle.host_laws.proofs.hosts.PlainMarks.{HasPlainMarks, is_plain}

pub api_marks : (s : ApiState) (body : Body) → HasPlainMarks (api_table s body)
api_marks s body = api_marks_each (λ (m : Mark). is_plain m ≡ true) s body (λ tx epoch is. refl) (λ tx why is. refl)
