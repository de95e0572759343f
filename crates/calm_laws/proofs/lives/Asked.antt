-- What a host was asked for: the same in both machines, where both say of the same steps that they were; and more
-- after more steps.
use Rattle.std.proofs.Common.{◌≡◌, Bool, true, false, List, [], ◌∷◌, ◌++◌, if◌then◌else◌}
use Rattle.std.proofs.Common.{refl, sym, ap, ◌∙◌, subst, append-nil, append_assoc}
use Rattle.std.specs.Prelude.{Option, None, option_to_list}
use Rattle.api_block.specs.Requests.{is_request}
use Rattle.run_theory.specs.Lists.{Each, IsPast}
use Rattle.sig_core.specs.declared.request.ApiReq.{ApiReq}
use Rattle.sig_core.specs.declared.signal.Body.{Body}
use Rattle.sig_core.specs.declared.signal.Body.TheVariants.{Host}
use Rattle.sig_core.specs.declared.signal.host.HostSignal.TheVariants.{Continue}
use Rattle.sig_core.specs.declared.signal.host.Work.TheVariants.{Request}
use Rattle.world_core.specs.Requests.{request_in}
use Rattle.world_core.specs.Requests as plain
use Rattle.world_core.specs.Steps.{HostStep}
use Rattle.world_views.specs.Requests.{request_of, requests}
use Rattle.world_views.specs.Sending.{is_asked}

-- both machines say that the step was asked for, or neither does
abbrev pub IsAskedAlike : HostStep → Type 0
IsAskedAlike e = is_asked e.host e.step.taken ≡ is_request e.step.taken.body

-- what is no request asks for nothing
none_in : (body : Body) → is_request body ≡ false → request_in body ≡ None
none_in (Host (Continue (Request request) at)) e = absurd cc
none_in body e = refl

request_by : (body : Body) (b : Bool) → b ≡ is_request body → request_in body ≡ (if b then request_in body else None)
request_by body true e = refl
request_by body false e = none_in body (sym e)

pub same_requests : (log : List HostStep) → Each IsAskedAlike log → plain.requests log ≡ requests log
same_requests [] all = refl
same_requests (e ∷ log) all =
    ap (λ (rest : List ApiReq). rest ++ option_to_list (request_in e.step.taken.body)) (same_requests log all.1)
    ∙ ap (λ (o : Option ApiReq). requests log ++ option_to_list o)
    (request_by e.step.taken.body (is_asked e.host e.step.taken) all.0)

-- the requests of an older part come first
pub record IsAskedBehind (base all : List HostStep) : Type 0 where
  pub more : List ApiReq
  pub is : requests all ≡ requests base ++ more

pub asked_behind : {base all : List HostStep} → IsPast base all → IsAskedBehind base all
asked_behind {base} {all} past = subst (IsAskedBehind base) (sym past.is) (go past.newer)
  where
    go : (newer : List HostStep) → IsAskedBehind base (newer ++ base)
    go [] = record { more = []; is = sym (append-nil (requests base)) }
    go (e ∷ newer) =
        let before : IsAskedBehind base (newer ++ base) = go newer in
        record {
          more = before.more ++ option_to_list (request_of e);
          is =
              ap (λ (all : List ApiReq). all ++ option_to_list (request_of e)) before.is
              ∙ append_assoc (requests base) before.more (option_to_list (request_of e));
        }
