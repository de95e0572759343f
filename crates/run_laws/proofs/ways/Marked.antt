-- Whose marks the steps of a host have: a row is applied, or a commit reported, of the transaction that the signal
-- takes forth.
use Rattle.std.proofs.Common.{◌≡◌, sym, ap, subst}
use Rattle.sig_core.specs.declared.signal.Body.{Body}
use Rattle.lqh_block.specs.Lqh.{lqh_table}
use Rattle.lqh_block.specs.State.{LqhState}
use Rattle.sig_core.specs.declared.mark.Mark.{Mark}
use Rattle.sig_core.specs.declared.mark.Mark.TheVariants.{Applied, Reported}
use Rattle.sig_core.specs.declared.outcome.Outcome.TheVariants as outcome
use Rattle.sig_core.specs.Step.{Step}
use Rattle.api_block.specs.Api.{api_table}
use Rattle.api_block.specs.State.{ApiState}
use Rattle.tc_block.specs.State.{TcState}
use Rattle.tc_block.specs.Tc.{tc_table}
use Rattle.node_core.specs.Dih.{DihState, dih_table}
use Rattle.node_core.proofs.DihForms.{dih_marks_each}
use Rattle.run_theory.specs.Lists.{Each}
use Rattle.api_block.proofs.EachApi.{api_marks_each}
use Rattle.lqh_block.proofs.EachLqh.{lqh_marks_each}
use Rattle.host_laws.specs.Ways.{Way, forth, way_of}
use Rattle.host_laws.proofs.coordinator.Marks.{tc_marks}

-- a row that was applied, or a commit that was reported, is of the transaction that the signal takes forth
abbrev pub IsMarked : Way → Mark → Type 0
IsMarked taken (Applied tx key) = taken ≡ forth tx
IsMarked taken (Reported tx (outcome.Committed epoch)) = taken ≡ forth tx
IsMarked taken mark = Unit {0}

abbrev AreMarked : Way → {S : Type 0} → Step S → Type 0
AreMarked taken step = Each (IsMarked taken) step.effects.marks

pub lqh_marked : (s : LqhState) (body : Body) → AreMarked (way_of body) (lqh_table s body)
lqh_marked s body =
    lqh_marks_each (IsMarked (way_of body)) s body (record {
      prepared = λ tx key. tt;
      applied = λ tx key epoch chain at committed is first there. ap way_of is;
      completed = λ tx key chain at is. tt;
      given_up = λ tx key is there. tt;
      expired = λ tx key. tt;
    })

pub dih_marked : (s : DihState) (body : Body) → AreMarked (way_of body) (dih_table s body)
dih_marked s body = dih_marks_each (IsMarked (way_of body)) s body (λ tx ops is. tt)

pub tc_marked : (s : TcState) (body : Body) → AreMarked (way_of body) (tc_table s body)
tc_marked s body = subst (Each (IsMarked (way_of body))) (sym (tc_marks s body)) tt

pub api_marked : (s : ApiState) (body : Body) → AreMarked (way_of body) (api_table s body)
api_marked s body = api_marks_each (IsMarked (way_of body)) s body (λ tx epoch is. ap way_of is) (λ tx why is. tt)
