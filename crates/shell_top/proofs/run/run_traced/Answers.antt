use Rattle.std.proofs.Common.{◌≡◌, [], subst, sym}
use Rattle.std.specs.Prelude.{IfOk, IfSome}
use Rattle.shell_top.specs.Traced.{last_life, traced}
use Rattle.shell_top.proofs.TellingLemmas.{told_as_meant, told_of_sink}
use Rattle.shell_top.proofs.TracedLemmas.{none_rose, session_slotless, traced_read, traced_write, unheard}
use Rattle.shell_top.proofs.run.run_traced.Goals as goal

pub traced-telling-requires : goal.traced-telling-requires
traced-telling-requires g c =
    subst (λ lives. IfSome (last_life lives) (λ life. life.slots ≡ [])) (sym c.as_slice.ensures.value)
    (session_slotless _ _ _ _ _ _ _ _ _ _ _ c.run_shape-outcome.ensures.session)

pub returns-clause-traced : goal.returns-clause-traced
returns-clause-traced g c = record {
  ending = c.run_shape-outcome.result.ending;
  session = unheard _ _ _ _ _ _ _ _ _ _ _ none_rose c.run_shape-outcome.ensures.session;
  unfailing = λ is. none_rose (c.run_shape-outcome.ensures.write_fault is);
  told = c.tell.ensures
      (traced c.args.shape c.run_shape-outcome.result.ending c.run_shape-outcome.result.lives.items)
      (subst (λ lives. IfOk c.traced-telling.result (λ telling. telling
      ≡ traced c.args.shape c.run_shape-outcome.result.ending lives)) c.as_slice.ensures.value c.traced-telling.ensures);
}

pub returns-clause-read_fault : goal.returns-clause-read_fault
returns-clause-read_fault g c is =
    c.run_shape-outcome.ensures.read_fault
    (traced_read c.args.shape c.run_shape-outcome.result.ending c.run_shape-outcome.result.lives.items
    (told_as_meant _ _ _ _ c.tell.result
    (c.tell.ensures
    (traced c.args.shape c.run_shape-outcome.result.ending c.run_shape-outcome.result.lives.items)
    (subst (λ lives. IfOk c.traced-telling.result (λ telling. telling
    ≡ traced c.args.shape c.run_shape-outcome.result.ending lives)) c.as_slice.ensures.value c.traced-telling.ensures)) is))

pub returns-clause-write_fault : goal.returns-clause-write_fault
returns-clause-write_fault g c is =
    told_of_sink _ _ _ _ c.tell.result
    (c.tell.ensures
    (traced c.args.shape c.run_shape-outcome.result.ending c.run_shape-outcome.result.lives.items)
    (subst (λ lives. IfOk c.traced-telling.result (λ telling. telling
    ≡ traced c.args.shape c.run_shape-outcome.result.ending lives)) c.as_slice.ensures.value c.traced-telling.ensures))
    (λ four. none_rose (c.run_shape-outcome.ensures.write_fault
    (traced_write c.args.shape c.run_shape-outcome.result.ending c.run_shape-outcome.result.lives.items four))) is
