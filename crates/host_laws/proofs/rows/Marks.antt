-- The rows of a node decide nothing and install nothing.
use Rattle.std.proofs.Common.{◌≡◌, true, refl}
use Rattle.sig_core.specs.declared.mark.Mark.{Mark}
use Rattle.sig_core.specs.declared.signal.Body.{Body}
use Rattle.lqh_block.specs.Lqh.{lqh_table}
use Rattle.lqh_block.specs.State.{LqhState}
use Rattle.lqh_block.proofs.EachLqh.{lqh_marks_each}
use Rattle.host_laws.proofs.hosts.PlainMarks.{HasPlainMarks, is_plain}

pub lqh_marks : (s : LqhState) (body : Body) → HasPlainMarks (lqh_table s body)
lqh_marks s body =
    lqh_marks_each (λ (m : Mark). is_plain m ≡ true) s body (record {
      prepared = λ tx key. refl;
      applied = λ tx key epoch chain at committed is first there. refl;
      completed = λ tx key chain at is. refl;
      given_up = λ tx key is there. refl;
      expired = λ tx key. refl;
    })
