-- What each signal that was sent tells of its header.
use Rattle.std.proofs.Common.{◌≡◌, ℕ, ◌≤◌, List, [], ◌∷◌, Bool, true, false, refl, arith}
use Rattle.std.specs.Prelude.{if◌then◌else◌, ◌==◌}
use Rattle.std.proofs.lemmas.Bool.{eqb-true}
use Rattle.node_core.proofs.HostLemmas.{rows_ask}
use Rattle.node_core.specs.Requests.{asks_nothing, is_request}
use Rattle.run_theory.proofs.Links.{step_above}
use Rattle.run_theory.proofs.Pasts.{each_map}
use Rattle.run_theory.specs.Links.{put, sent}
use Rattle.run_theory.specs.Lists.{Each}
use Rattle.run_theory.specs.Logs.{IsLog, last}
use Rattle.sig_core.specs.declared.outs.Outgoing.{Outgoing}
use Rattle.world_core.specs.Hosts.{Membership, first_membership, receiver}
use Rattle.world_core.specs.Machine.{after, all_addressed, counted, last_stamp, machine, sent_count, step_after}
use Rattle.world_core.specs.Start.{Start}
use Rattle.world_core.specs.Steps.{Addressed, HostStep}

-- a signal of this host, not later than this stamp, and no request
pub record IsFrom (h stamp : ℕ) (x : Addressed) : Type 0 where
  pub from : x.signal.from.0 ≡ h
  pub early : x.signal.stamp ≤ stamp
  pub plain : is_request x.signal.body ≡ false

-- and for this host
pub record IsBetween (i j stamp : ℕ) (x : Addressed) : Type 0 where
  pub from : x.signal.from.0 ≡ i
  pub to : x.to ≡ j
  pub early : x.signal.stamp ≤ stamp
  pub plain : is_request x.signal.body ≡ false

plain_first : (b : Bool) (more : Bool) → (if b then false else more) ≡ true → b ≡ false
plain_first true more e = cc
plain_first false more e = refl

plain_rest : (b : Bool) (more : Bool) → (if b then false else more) ≡ true → more ≡ true
plain_rest true more e = cc
plain_rest false more e = e

addressed_each : (who : Membership) (h stamp : ℕ) (count : ℕ → ℕ) (sends : List Outgoing) → asks_nothing sends ≡ true
    → Each (λ x. IsFrom h stamp x) (all_addressed who h stamp count sends)
addressed_each who h stamp count [] none = tt
addressed_each who h stamp count (sent ∷ more) none = (
  record { from = refl; early = omega arith; plain = plain_first (is_request sent.body) (asks_nothing more) none },
  addressed_each who h stamp (counted (receiver who sent.to) count) more
      (plain_rest (is_request sent.body) (asks_nothing more) none),
)

module _ (start : Start) where
  put_between : (i j stamp : ℕ) (xs before : List Addressed) → Each (λ x. IsFrom i stamp x) xs
      → Each (λ x. IsBetween i j stamp x) before
      → Each (λ x. IsBetween i j stamp x) (put (machine start) j xs before)
  put_between i j stamp [] before each rest = rest
  put_between i j stamp (x ∷ xs) before each rest =
      put_between i j stamp xs (if x.to == j then x ∷ before else before) each.1 (first (x.to == j) refl)
    where
      first : (b : Bool) → (x.to == j) ≡ b → Each (λ y. IsBetween i j stamp y) (if b then x ∷ before else before)
      first true e =
          (record { from = each.0.from; to = eqb-true x.to j e; early = each.0.early; plain = each.0.plain }, rest)
      first false e = rest

  -- the newest stamp, as the theory has it
  pub last_is : (h : ℕ) (log : List HostStep) → last (machine start) h log ≡ last_stamp log
  last_is h [] = refl
  last_is h (e ∷ log) = refl

  -- all that a host sent another
  pub sent_between : (i j : ℕ) (log : List HostStep) → IsLog (machine start) i log
      → Each (λ x. IsBetween i j (last_stamp log) x) (sent (machine start) i j log)
  sent_between i j [] local = tt
  sent_between i j (e ∷ log) local =
      put_between i j e.step.stamp (all_addressed (first_membership start) i e.step.stamp (sent_count start i log)
      (step_after start i log e).effects.sends) (sent (machine start) i j log)
      (addressed_each (first_membership start) i e.step.stamp (sent_count start i log)
      (step_after start i log e).effects.sends (rows_ask (after start i log) e.step.taken))
      (each_map (λ x. IsBetween i j (last_stamp log) x) (λ x. IsBetween i j e.step.stamp x)
      (sent (machine start) i j log)
      (λ x was. record {
        from = was.from;
        to = was.to;
        early = omega
            (arith, was.early, step_above (machine start) i log e local.0, last_is i log);
        plain = was.plain;
      })
      (sent_between i j log local.1))
