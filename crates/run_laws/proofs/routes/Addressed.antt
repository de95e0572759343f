-- What comes to a host is for it.
use Rattle.std.proofs.Common.{◌≡◌, ◌⊎◌, ◌<◌, ◌≤◌, ℕ, List, [], ◌∷◌, refl, sym, ap, ◌∙◌, subst, inl, inr}
use Rattle.std.proofs.lemmas.Bool.{cases_lt, eq-eqb, eqb-true}
use Rattle.run_theory.proofs.Runs.{log_of-own, logs_of_run}
use Rattle.run_theory.specs.Lists.{Each}
use Rattle.sig_core.specs.declared.place.BlockId.TheVariants as block
use Rattle.sig_core.specs.declared.place.Part.TheVariants.{Tc, Ldm}
use Rattle.sig_core.specs.declared.place.Place.{Place}
use Rattle.sig_core.specs.Part.{part_of}
use Rattle.world_core.proofs.HostNumbers.{addressed_rightly}
use Rattle.world_core.specs.Hosts.{host_for, first_hosts, rows_host, tc_host}
use Rattle.world_core.specs.Machine.{machine}
use Rattle.world_core.specs.Start.{Start}
use Rattle.world_core.specs.Steps.{HostStep}
use Rattle.host_laws.proofs.hosts.BlocksAlong.{at_rows_host, at_tc_host}
use Rattle.run_laws.specs.Transit.{Comes, logs_of}

module _ (start : Start) (es : List HostStep) (e : HostStep) (comes : Comes start es e) where
  own_log : logs_of start (e ∷ es) e.host ≡ e ∷ logs_of start es e.host
  own_log = log_of-own (machine start) e es e.host refl

  pub comes_addressed : e.host ≡ host_for start e.step.taken.to
  comes_addressed =
      let all =
      addressed_rightly start (logs_of start (e ∷ es)) (logs_of_run (machine start) (e ∷ es) comes.now.run) e.host in
      sym (subst (Each (λ (d : HostStep). host_for start d.step.taken.to ≡ e.host)) own_log all).0

  -- it is one of the hosts that there are
  pub comes_below : e.host < first_hosts start
  comes_below = by (cases_lt e.host (first_hosts start))
    where
      by : (e.host < first_hosts start) ⊎ (first_hosts start ≤ e.host) → e.host < first_hosts start
      by (inl low) = low
      by (inr high) =
          absurd (let none : e ∷ logs_of start es e.host ≡ [] = sym own_log ∙ comes.now.within e.host high in cc)

  pub rows_addressed : e.step.taken.to.block ≡ block.Lqh → e.host ≡ rows_host start e.step.taken.to.node
  rows_addressed at =
      comes_addressed ∙ ap (λ block. host_for start (record { node = e.step.taken.to.node; block = block })) at

  pub tc_addressed : e.step.taken.to.block ≡ block.Tc → e.host ≡ tc_host start e.step.taken.to.node
  tc_addressed at =
      comes_addressed ∙ ap (λ block. host_for start (record { node = e.step.taken.to.node; block = block })) at

-- what goes to the host of a node's coordinator, or of its rows, is for that node
module _ (start : Start) (node : ℕ) (to : Place) (some : 1 ≤ node) (low : node ≤ start.shape.nodes) where
  pub for_tc : part_of to.block ≡ Tc → host_for start to ≡ tc_host start node → to.node ≡ node
  for_tc is same =
      eqb-true to.node node
      (sym (at_tc_host start node to some low is) ∙ eq-eqb (host_for start to) (tc_host start node) same)

  pub for_rows : part_of to.block ≡ Ldm → host_for start to ≡ rows_host start node → to.node ≡ node
  for_rows is same =
      eqb-true to.node node
      (sym (at_rows_host start node to some low is) ∙ eq-eqb (host_for start to) (rows_host start node) same)
