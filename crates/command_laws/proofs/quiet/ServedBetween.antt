-- Each request is served between two quiet moments: the one at which it is asked for, and the next one at which a
-- request is asked for, or the end.
use Rattle.std.proofs.Common.{◌≡◌, ◌⊎◌, ℕ, true, false, List, [], ◌∷◌, ◌++◌, refl, sym, ap, ◌∙◌, inl, inr, append_assoc}
use Rattle.std.proofs.lemmas.Bool.{false≢true}
use Rattle.std.proofs.lemmas.List.{append-nil}
use Rattle.std.specs.Prelude.{Option, None, Some, option_to_list}
use Rattle.run_theory.proofs.Along.{within_cut}
use Rattle.run_theory.proofs.Pasts.{each_after, past_self}
use Rattle.run_theory.specs.Cuts.{IsCut}
use Rattle.run_theory.specs.Lists.{IsPast}
use Rattle.run_theory.specs.Runs.{AreLogs, IsWithin}
use Rattle.sig_core.specs.declared.request.ApiReq.{ApiReq}
use Rattle.sig_core.specs.declared.signal.Body.{Body}
use Rattle.sig_core.specs.declared.signal.Body.TheVariants.{Host}
use Rattle.sig_core.specs.declared.signal.host.HostSignal.TheVariants.{Continue}
use Rattle.sig_core.specs.declared.signal.host.Work.TheVariants.{Request}
use Rattle.frag_map.specs.Shape.{IsShape}
use Rattle.node_core.specs.Requests.{is_request}
use Rattle.world_core.proofs.Stamped.{stamped}
use Rattle.world_core.specs.Hosts.{first_hosts}
use Rattle.world_core.specs.Machine.{machine}
use Rattle.world_core.specs.Quiet.{IsQuiet}
use Rattle.world_core.specs.Requests.{AreAskedAtQuiet, QuietBefore, request_in, requests}
use Rattle.world_core.specs.Start.{Start}
use Rattle.world_core.specs.Steps.{HostStep}
use Rattle.answer_laws.specs.Answered.{AreQuiet}
use Rattle.command_laws.proofs.quiet.First.{fits_asked, no_requests, requests_append}
use Rattle.command_laws.proofs.quiet.Cuts.{IsAskedAtFirst, quiet_cut}
use Rattle.command_laws.specs.Between.{IsAskedAgain, IsServedIn, RequestsAreServed}
use Rattle.command_laws.specs.Served.{IsServedBetween}

-- what brings a request is a step that a request makes
asks_it : (body : Body) (request : ApiReq) → request_in body ≡ Some request → is_request body ≡ true
asks_it (Host (Continue (Request asked) at)) request is = refl
asks_it _ request is = cc

-- the oldest step of these that a request makes
record FirstAsked (newer : List HostStep) : Type 0 where
  later : List HostStep
  next : HostStep
  between : List HostStep
  is : newer ≡ later ++ next ∷ between
  asks : is_request next.step.taken.body ≡ true
  none : requests between ≡ []

first_asked : (newer : List HostStep) → (requests newer ≡ []) ⊎ FirstAsked newer
first_asked [] = inl refl
first_asked (e ∷ newer) = by (request_in e.step.taken.body) refl (first_asked newer)
  where
    by : (o : Option ApiReq) → request_in e.step.taken.body ≡ o → (requests newer ≡ []) ⊎ FirstAsked newer
        → (requests (e ∷ newer) ≡ []) ⊎ FirstAsked (e ∷ newer)
    by o asks (inr first) =
        inr (record {
          later = e ∷ first.later;
          next = first.next;
          between = first.between;
          is = ap (λ w. e ∷ w) first.is;
          asks = first.asks;
          none = first.none;
        })
    by None asks (inl none) =
        inl (ap (λ rs. rs ++ option_to_list (request_in e.step.taken.body)) none ∙ ap option_to_list asks)
    by (Some request) asks (inl none) =
        inr (record {
          later =
              [];
          next = e;
          between = newer;
          is = refl;
          asks = asks_it e.step.taken.body request asks;
          none = none;
        })

only_first : (start : Start) → IsAskedAtFirst (machine start)
only_first start =
    record {
      never = λ e. refl;
      first = λ h log e fits asked. (fits_asked start h _ e.step.taken (is_request e.step.taken.body) asked
          fits.asked).shell;
    }

module _ (start : Start) (logs : ℕ → List HostStep) (right : AreLogs (machine start) logs)
    (within : IsWithin (first_hosts start) logs) (at_quiet : AreAskedAtQuiet start logs) where
  -- behind this log of host 0 comes a quiet moment before anything else is asked for
  pub record IsDriven (log : List HostStep) : Type 0 where
    pub between : List HostStep
    pub none : requests between ≡ []
    pub ends : QuietBefore start logs (between ++ log)

  driven : (newer log : List HostStep) → logs 0 ≡ newer ++ log
      → IsQuiet (machine start) (first_hosts start) logs ⊎ IsAskedAgain start newer → IsDriven log
  driven newer log is ends = by (first_asked newer) ends
    where
      by : (requests newer ≡ []) ⊎ FirstAsked newer
          → IsQuiet (machine start) (first_hosts start) logs ⊎ IsAskedAgain start newer → IsDriven log
      by (inr first) ends =
          record {
            between = first.between;
            none = first.none;
            ends =
                at_quiet first.later first.next (first.between ++ log)
                (is ∙ ap (λ w. w ++ log) first.is ∙ append_assoc first.later (first.next ∷ first.between) log)
                first.asks;
          }
      by (inl none) (inl quiet) =
          record {
            between = newer;
            none = none;
            ends = record {
              inside = logs;
              cut = λ h. past_self (logs h);
              at = is;
              right = right;
              quiet = quiet;
            };
          }
      by (inl none) (inr again) =
          let rest = each_after (λ (e : HostStep). is_request e.step.taken.body ≡ false) again.later
          (again.next ∷ again.between) (no_requests _ (sym (ap requests again.is) ∙ none)) in
          absurd (false≢true (sym rest.0 ∙ again.asked))

  module _ (shape : IsShape start.shape) where
    pub are_quiet : (log : List HostStep) → (q : QuietBefore start logs log) → AreQuiet start q.inside
    are_quiet log q =
        record {
          shape = shape;
          right = q.right;
          within = within_cut (machine start) (stamped start) (first_hosts start) q.inside logs within q.cut;
          quiet = q.quiet;
        }

    -- the request is served between the quiet moment before it and the one to which it is driven
    pub served_is : (e : HostStep) (before : List HostStep) (request : ApiReq)
        → request_in e.step.taken.body ≡ Some request
        → (begins : QuietBefore start logs before) (d : IsDriven (e ∷ before))
        → IsServedBetween start begins.inside d.ends.inside request
    served_is e before request asks begins d =
        record {
          before =
              are_quiet before begins;
          since = are_quiet (d.between ++ e ∷ before) d.ends;
          cut = cut;
          asked = asked;
        }
      where
        first : IsPast (begins.inside 0) (d.ends.inside 0)
        first =
            record {
              newer = d.between ++ e ∷ [];
              is = d.ends.at ∙ sym (append_assoc d.between (e ∷ []) before)
                  ∙ ap (λ w. (d.between ++ e ∷ []) ++ w) (sym begins.at);
            }

        cut : IsCut begins.inside d.ends.inside
        cut =
            quiet_cut (machine start) (stamped start) (only_first start) (first_hosts start) begins.inside d.ends.inside
            logs
            (record {
              was_cut = begins.cut;
              now_cut = d.ends.cut;
              right = begins.right;
              within = within;
              quiet = d.ends.quiet;
              first = first;
            })

        asked : requests (d.ends.inside 0) ≡ requests (begins.inside 0) ++ request ∷ []
        asked =
            ap requests d.ends.at ∙ requests_append d.between (e ∷ before)
            ∙ ap (λ rs. requests (e ∷ before) ++ rs) d.none ∙ append-nil (requests (e ∷ before))
            ∙ ap (λ o. requests before ++ option_to_list o) asks ∙ ap (λ w. requests w ++ request ∷ []) (sym begins.at)

    served_between : (e : HostStep) (before : List HostStep) (request : ApiReq)
        → request_in e.step.taken.body ≡ Some request
        → QuietBefore start logs before → IsDriven (e ∷ before) → IsServedIn start logs request before
    served_between e before request asks begins d =
        record {
          was = begins.inside;
          now = d.ends.inside;
          served = served_is e before request asks begins d;
          at = begins.at;
          within = d.ends.cut;
        }

-- each request that was driven to quiet is served between two quiet moments
pub requests_served : RequestsAreServed
requests_served start logs shape right within at_quiet newer e before request is asks ends =
    served_between start logs right within at_quiet shape e before request asks
    (at_quiet newer e before is (asks_it e.step.taken.body request asks))
    (driven start logs right within at_quiet newer (e ∷ before) is ends)
