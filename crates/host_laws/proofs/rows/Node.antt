-- The rows of a node stay those of that node.
use Rattle.std.proofs.Common.{◌≡◌, refl}
use Rattle.sig_core.specs.declared.signal.Body.{Body}
use Rattle.lqh_block.specs.Lqh.{lqh_table}
use Rattle.lqh_block.specs.State.{LqhState}
use Rattle.lqh_block.proofs.LqhForms.{lqh_forms}

pub lqh_node : (s : LqhState) (body : Body) → (lqh_table s body).state.node ≡ s.node
lqh_node s =
    lqh_forms (λ body step. step.state.node ≡ s.node) s (record {
      asks = λ r. record { granted = λ is. refl; queued = λ ahead is. refl };
      grants = λ at. record { none = λ is. refl; some = λ place r is here. refl };
      commits = λ tx key epoch chain at. record {
        last = λ had st markers applies first. refl;
        passes = λ had st markers applies first. refl;
      };
      completes = λ tx key chain at. record { last = λ first. refl; passes = λ first. refl };
      aborts = λ tx key. record { none = λ had st gives none. refl; some = λ had st gives at r there here. refl };
      acknowledges = λ tx markers. refl;
      waits = λ tx key. record { none = λ is. refl; some = λ ahead is. refl };
      dumps = λ at rows next. refl;
      ages = record { rests = λ is. refl; none = λ tx key is none. refl; some = λ tx key is at r there here. refl };
      expires = λ at. record {
        rests = λ is. refl;
        none = λ tx key is none. refl;
        some = λ tx key is place r there here.
            refl;
      };
      rests = λ body is. refl;
    })
