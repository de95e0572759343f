-- Tests put together.
use Rattle.std.proofs.Common.{◌≡◌, Bool, true, false, refl}
use Rattle.sig_core.specs.declared.place.Place.{Place}
use Rattle.sig_core.specs.declared.signal.Body.{Body}
use Rattle.node_core.specs.Requests.{is_request}
use Rattle.world_core.specs.Steps.{HostStep}

-- a test that no request passes, and no signal of this step, isn't passed there
pub none_at : (test : Place → Body → Bool)
    → ((to : Place) (body : Body) → is_request body ≡ true → test to body ≡ false) → (e : HostStep)
    → (is_request e.step.taken.body ≡ false → test e.step.taken.to e.step.taken.body ≡ false)
    → test e.step.taken.to e.step.taken.body ≡ false
none_at test fails e none = by (is_request e.step.taken.body) refl
  where
    by : (b : Bool) → is_request e.step.taken.body ≡ b → test e.step.taken.to e.step.taken.body ≡ false
    by true is = fails e.step.taken.to e.step.taken.body is
    by false is = none is
