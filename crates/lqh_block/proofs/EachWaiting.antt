-- What holds of each request that waits at a node, and of each that comes, holds of all that wait after a step of its
-- rows.
use Rattle.std.proofs.Common.{◌≡◌, [], ◌∷◌, refl}
use Rattle.run_theory.specs.Lists.{Each}
use Rattle.run_theory.proofs.EachSent.{each_removed}
use Rattle.run_theory.proofs.Pasts.{each_append}
use Rattle.sig_core.specs.declared.signal.Body.{Body}
use Rattle.sig_core.specs.declared.signal.Body.TheVariants.{Chain}
use Rattle.sig_core.specs.declared.signal.chain.ChainSignal.TheVariants.{LqhKeyReq}
use Rattle.lqh_block.specs.declared.request.Request.{Request}
use Rattle.lqh_block.specs.Lqh.{lqh_table}
use Rattle.lqh_block.specs.State.{LqhState}
use Rattle.lqh_block.proofs.LqhForms.{LqhForms, lqh_forms}

module _ (P : Request → Type 0) where
  abbrev AreWaiting : LqhState → Type 0
  AreWaiting s = Each P s.waiting

  -- the request that comes, if one does
  abbrev Comes : Body → Type 0
  Comes body = (r : Request) → body ≡ Chain (LqhKeyReq r.tx r.work r.chain r.at) → P r

  waiting_forms : (s : LqhState) → AreWaiting s → LqhForms (λ body step. Comes body → AreWaiting step.state) s
  waiting_forms s all = record {
    asks = λ r. record {
      granted = λ is own. all;
      queued = λ ahead is own. each_append P s.waiting (r ∷ []) all (own r refl, tt);
    };
    grants = λ at. record { none = λ is own. all; some = λ place r is here own. each_removed P s.waiting place all };
    commits = λ tx key epoch chain at. record {
      last = λ had st markers applies first own. all;
      passes =
          λ had st markers applies first own. all;
    };
    completes = λ tx key chain at. record { last = λ first own. all; passes = λ first own. all };
    aborts = λ tx key. record {
      none = λ had st gives none own. all;
      some = λ had st gives at r there here own. each_removed P s.waiting at all;
    };
    acknowledges = λ tx markers own. all;
    waits = λ tx key. record { none = λ is own. all; some = λ ahead is own. all };
    dumps = λ at rows next own. all;
    ages = record {
      rests = λ is own. all;
      none = λ tx key is none own. all;
      some = λ tx key is at r there here own. each_removed P s.waiting at all;
    };
    expires = λ at. record {
      rests = λ is own. all;
      none = λ tx key is none own. all;
      some = λ tx key is place r there here own. each_removed P s.waiting place all;
    };
    rests = λ body is own. all;
  }

  -- whatever the rows take
  pub waiting_each : (s : LqhState) (body : Body)
      → ((r : Request) → body ≡ Chain (LqhKeyReq r.tx r.work r.chain r.at) → P r)
      → AreWaiting s → AreWaiting (lqh_table s body).state
  waiting_each s body own all = lqh_forms (λ body step. Comes body → AreWaiting step.state) s
      (waiting_forms s all) body own
