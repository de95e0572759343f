-- When nothing is under way no dump is: at first none is, and each request leaves none.
use Rattle.std.proofs.Common.{◌≡◌, ◌⊎◌, ◌≤◌, ◌<◌, ℕ, zero, suc, Bool, true, false, List, [], ◌∷◌, ◌++◌, length, refl}
use Rattle.std.proofs.Common.{sym, ap, ◌∙◌, inl, inr, append_assoc, length-append, arith}
use Rattle.std.proofs.lemmas.List.{append-nil}
use Rattle.std.specs.Prelude.{is_some, None, Some, option_to_list}
use Rattle.frag_map.specs.Shape.{IsShape}
use Rattle.run_theory.specs.Cuts.{IsCut}
use Rattle.run_theory.specs.Lists.{Each}
use Rattle.run_theory.specs.Runs.{AreLogs, IsWithin}
use Rattle.sig_core.specs.declared.request.ApiReq.{ApiReq}
use Rattle.sig_core.specs.declared.request.ApiReq.TheVariants as request
use Rattle.sig_core.specs.declared.signal.Body.{Body}
use Rattle.sig_core.specs.declared.signal.Body.TheVariants.{Host}
use Rattle.sig_core.specs.declared.signal.host.HostSignal.TheVariants.{Continue}
use Rattle.sig_core.specs.declared.signal.host.Work.TheVariants.{Request}
use Rattle.sig_core.specs.Step.{Step}
use Rattle.api_block.specs.Api.{request_row}
use Rattle.api_block.specs.Commands.{dump_if, dump_row}
use Rattle.api_block.specs.Members.{is_full}
use Rattle.api_block.specs.State.{ApiState}
use Rattle.node_core.specs.Blocks.{api_of}
use Rattle.node_core.specs.Requests.{is_request}
use Rattle.world_core.specs.Hosts.{first_hosts}
use Rattle.world_core.specs.Machine.{after, machine}
use Rattle.world_core.specs.Requests.{AreAskedAtQuiet, QuietBefore, request_in, requests}
use Rattle.world_core.specs.Start.{Start}
use Rattle.world_core.specs.Steps.{HostStep}
use Rattle.answer_laws.specs.Answered.{AreQuiet}
use Rattle.command_laws.proofs.dumps.Dump.{dump_over}
use Rattle.command_laws.proofs.dumps.State.{none_along, none_first, request_keeps}
use Rattle.command_laws.proofs.quiet.First.{IsFirst, first_step, request_first}
use Rattle.command_laws.proofs.quiet.ServedBetween.{IsDriven, are_quiet, served_is}
use Rattle.command_laws.specs.Served.{IsServedBetween}

-- no dump is under way
abbrev pub IsIdle : Start → (ℕ → List HostStep) → Type 0
IsIdle start logs = (api_of (after start 0 (logs 0))).dump ≡ None

module _ (start : Start) (was now : ℕ → List HostStep) (idle : IsIdle start was) where
  abbrev s : ApiState
  s = api_of (after start 0 (was 0))

  -- a request that leaves none at once leaves none
  left : (r : ApiReq) → IsServedBetween start was now r → (request_row s r).state.dump ≡ None → IsIdle start now
  left r served none =
      ap (λ log. (api_of (after start 0 log)).dump) f.is
      ∙ none_along start f.later (f.first ∷ was 0) f.plain
      (ap (λ (step : Step ApiState). step.state.dump) (first_step start was now r f) ∙ none)
    where
      f : IsFirst start was now r
      f = request_first start was now r served

  asked : (r : ApiReq) (node : ℕ) (digest : Bool) → request_row s r ≡ dump_row s node digest
      → IsServedBetween start was now r → IsIdle start now
  unfolding dump_row
  asked r node digest is served = by (is_full s.view node) refl
    where
      by : (full : Bool) → is_full s.view node ≡ full → IsIdle start now
      by true full = dump_over start was now r node digest served is full idle
      by false full = left r served
          (ap (λ (step : Step ApiState). step.state.dump)
          (is ∙ ap (λ b. dump_if s node digest b (is_some s.dump)) full) ∙ idle)

  -- each leaves none in the end
  pub still_idle : (r : ApiReq) → IsServedBetween start was now r → IsIdle start now
  unfolding request_row
  still_idle (request.Rows node) served = asked (request.Rows node) node false refl served
  still_idle (request.Digest node) served = asked (request.Digest node) node true refl served
  still_idle r served = left r served (request_keeps s r refl ∙ idle)

-- the last request in a log
record LastAsked (log : List HostStep) : Type 0 where
  newer : List HostStep
  step : HostStep
  older : List HostStep
  is : log ≡ newer ++ step ∷ older
  asks : is_request step.step.taken.body ≡ true
  plain : Each (λ (e : HostStep). is_request e.step.taken.body ≡ false) newer

last_asked : (log : List HostStep) → Each (λ (e : HostStep). is_request e.step.taken.body ≡ false) log ⊎ LastAsked log
last_asked [] = inl tt
last_asked (e ∷ log) = by (is_request e.step.taken.body) refl (last_asked log)
  where
    by : (b : Bool) → is_request e.step.taken.body ≡ b
        → Each (λ (d : HostStep). is_request d.step.taken.body ≡ false) log ⊎ LastAsked log
        → Each (λ (d : HostStep). is_request d.step.taken.body ≡ false) (e ∷ log) ⊎ LastAsked (e ∷ log)
    by true is rest = inr (record { newer = []; step = e; older = log; is = refl; asks = is; plain = tt })
    by false is (inl plain) = inl (is, plain)
    by false is (inr l) =
        inr (record {
          newer = e ∷ l.newer;
          step = l.step;
          older = l.older;
          is = ap (λ w. e ∷ w) l.is;
          asks =
              l.asks;
          plain = (is, l.plain);
        })

request_there : (body : Body) → is_request body ≡ true → (r : ApiReq) × (request_in body ≡ Some r)
request_there (Host (Continue (Request r) at)) is = (r, refl)
request_there _ is = cc

none_in : (body : Body) → is_request body ≡ false → option_to_list (request_in body) ≡ []
none_in (Host (Continue (Request r) at)) is = cc
none_in _ is = refl

no_requests : (newer : List HostStep) → Each (λ (e : HostStep). is_request e.step.taken.body ≡ false) newer
    → requests newer ≡ []
no_requests [] plain = refl
no_requests (e ∷ newer) plain =
    ap (λ rs. rs ++ option_to_list (request_in e.step.taken.body)) (no_requests newer plain.1)
    ∙ none_in e.step.taken.body plain.0

module _ (start : Start) (logs : ℕ → List HostStep) (right : AreLogs (machine start) logs)
    (within : IsWithin (first_hosts start) logs)
    (at_quiet : AreAskedAtQuiet start logs) (shape : IsShape start.shape) where
  -- none is where none was at each earlier one
  none_if : (was : ℕ → List HostStep) → AreQuiet start was → IsCut was logs
      → ((earlier : ℕ → List HostStep) → AreQuiet start earlier → IsCut earlier logs
      → length (earlier 0) < length (was 0) → IsIdle start earlier)
      → IsIdle start was
  none_if was quiet cut before = by (last_asked (was 0))
    where
      by : Each (λ (e : HostStep). is_request e.step.taken.body ≡ false) (was 0) ⊎ LastAsked (was 0) → IsIdle start was
      by (inl plain) =
          ap (λ log. (api_of (after start 0 log)).dump) (sym (append-nil (was 0)))
          ∙ none_along start (was 0) [] plain (none_first start)
      by (inr l) =
          still_idle start q.inside was
          (before q.inside (are_quiet start logs right within at_quiet shape l.older q) q.cut
          (omega (arith, ap length l.is, length-append l.newer (l.step ∷ l.older), ap length q.at)))
          asked.0 (served_is start logs right within at_quiet shape l.step l.older asked.0 asked.1 q d)
        where
          past : logs 0 ≡ ((cut 0).newer ++ l.newer) ++ l.step ∷ l.older
          past = (cut 0).is ∙ ap (λ log. (cut 0).newer ++ log) l.is
              ∙ sym (append_assoc (cut 0).newer l.newer (l.step ∷ l.older))

          q : QuietBefore start logs l.older
          q = at_quiet ((cut 0).newer ++ l.newer) l.step l.older past l.asks

          asked : (r : ApiReq) × (request_in l.step.step.taken.body ≡ Some r)
          asked = request_there l.step.step.taken.body l.asks

          d : IsDriven start logs right within at_quiet (l.step ∷ l.older)
          d = record {
            between = l.newer;
            none = no_requests l.newer l.plain;
            ends = record { inside = was; cut = cut; at = l.is; right = quiet.right; quiet = quiet.quiet };
          }

  none_before : (n : ℕ) (was : ℕ → List HostStep) → AreQuiet start was → IsCut was logs → length (was 0) ≤ n
      → IsIdle start was
  none_before zero was quiet cut few = none_if was quiet cut (λ earlier q c less. absurd (omega (arith, less, few)))
  none_before (suc n) was quiet cut few =
      none_if was quiet cut (λ earlier q c less. none_before n earlier q c (omega (arith, less, few)))

  -- so none is at a quiet moment of these logs
  pub none_under_way : (was : ℕ → List HostStep) → AreQuiet start was → IsCut was logs → IsIdle start was
  none_under_way was quiet cut = none_before (length (was 0)) was quiet cut (omega arith)
