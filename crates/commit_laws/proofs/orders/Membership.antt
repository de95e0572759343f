-- A membership orders no takeover but where it goes on with its orders, and asks no rows for what they have.
use Rattle.std.proofs.Common.{◌≡◌, ◌∙◌, Bool, true, false, ap, refl, sym}
use Rattle.std.proofs.lemmas.Bool.{true≢false}
use Rattle.sig_core.specs.declared.mark.Mark.{Mark}
use Rattle.sig_core.specs.declared.signal.Body.{Body}
use Rattle.sig_core.specs.declared.signal.Body.TheVariants.{Host}
use Rattle.sig_core.specs.declared.signal.Signal.{Signal}
use Rattle.sig_core.specs.declared.signal.host.HostSignal.TheVariants.{Continue}
use Rattle.sig_core.specs.declared.signal.host.Work.TheVariants.{Members}
use Rattle.qmgr_block.specs.Qmgr.{qmgr_row}
use Rattle.qmgr_block.specs.State.{QmgrState}
use Rattle.qmgr_block.proofs.Walk.{qmgr_each}
use Rattle.commit_laws.proofs.orders.Words.{AreStill, IsStill}

-- it goes on with what is left to order
abbrev pub is_going_on : Body → Bool
is_going_on (Host (Continue Members at)) = true
is_going_on body = false

pub membership_orders_none : (s : QmgrState) (x : Signal) → is_going_on x.body ≡ false
    → AreStill (qmgr_row s x).effects.sends
membership_orders_none s x off =
    (qmgr_each s x IsStill (λ (mark : Mark). Unit {0}) (record {
      beats = λ next is behind. refl;
      tells = λ member suspects. refl;
      requests = λ set member there. refl;
      questions = λ number members joining. refl;
      fences = λ set is may. (refl, (refl, (refl, tt)));
      refuses = λ set is may. refl;
      confirms = λ at promise is place there up. (refl, tt);
      settles = λ p stands. tt;
      orders_stop = λ p member cause stands. refl;
      goes_down = λ group is. tt;
      stops = λ cause is. tt;
      is_full = λ member own is. refl;
      has_been = λ member own is. refl;
      orders = λ at is own oldest. absurd (true≢false (sym (ap is_going_on is) ∙ off));
    })).0
