-- Where a closing has ended all hosts rest in the next epoch.
use Rattle.std.proofs.Common.{◌≡◌, ◌≢◌, ◌⊎◌, ◌<◌, ◌≤◌, ◌+◌, ◌/◌, ◌%◌, inl, inr, ℕ, zero, suc, List, [], ◌∷◌, true}
use Rattle.std.proofs.Common.{false}
use Rattle.std.proofs.Common.{refl, ap, sym, ◌∙◌, subst, ne_eqb, arith}
use Rattle.std.specs.Prelude.{◌&&◌, None}
use Rattle.std.proofs.lemmas.Bool.{cases_eq, false≢true}
use Rattle.frag_map.specs.Replicas.{first_start}
use Rattle.frag_map.specs.Shape.{IsShape}
use Rattle.gcp_master.specs.Master.{first_phase}
use Rattle.gcp_master.specs.Resume.{is_first_by, is_president}
use Rattle.node_core.specs.declared.host.Host as plain
use Rattle.node_core.specs.declared.host.Host.TheVariants as kind
use Rattle.node_views.specs.declared.parts.Parts.{Parts}
use Rattle.node_views.specs.declared.parts.Parts.TheVariants.{Shell, Main, Tc, Ldm}
use Rattle.run_theory.specs.Lists.{Each}
use Rattle.sig_core.specs.declared.mark.Mark.{Mark}
use Rattle.sig_core.specs.declared.mark.Mark.TheVariants.{Decided}
use Rattle.sig_core.specs.declared.member.Member.{Member}
use Rattle.sig_core.specs.declared.reply.ApiReply.{ApiReply}
use Rattle.world_core.specs.Hosts.{first_hosts, member_at}
use Rattle.world_core.specs.Start.{Start, made}
use Rattle.world_core.specs.Steps.{HostStep}
use Rattle.world_views.specs.Machine.{after}
use Rattle.world_views.specs.Right.{replies_in}
use Rattle.calm_laws.specs.Alike.{first}
use Rattle.calm_laws.specs.Plain.{is_beating}
use Rattle.calm_laws.proofs.places.Main.{main_at, main_beats, main_member}
use Rattle.peace_laws.specs.Alike.{ArePartsNear}
use Rattle.peace_laws.specs.Closing.{EpochsRest, HasRows, MainRests, ShellWaits, host_in, main}
use Rattle.peace_laws.specs.Parts.{plain_replies}
use Rattle.peace_laws.specs.Rest.{RestsIn}
use Rattle.peace_laws.proofs.near.CalmNear.{inner_main}
use Rattle.peace_laws.proofs.near.Mirrored.{IsMirrored}
use Rattle.peace_laws.proofs.near.NearHosts.{has_main}
use Rattle.peace_laws.proofs.near.PartKinds.{first_member, first_presides}
use Rattle.peace_laws.proofs.closings.ShellOwns.{ShellOwns}
use Rattle.peace_laws.proofs.lives.Stands.{AreBelow, IsBelow}

-- who was decided in no later epoch than this wasn't in one later than the next
below_later : (epoch next : ℕ) → epoch ≤ next → (marks : List Mark) → Each (IsBelow epoch) marks
    → Each (IsBelow next) marks
below_later epoch next later [] all = tt
below_later epoch next later (Decided tx other ∷ marks) all =
    (omega (arith, later, all.0), below_later epoch next later marks all.1)
below_later epoch next later (mark ∷ marks) all = (tt, below_later epoch next later marks all.1)

pub logs_later : (epoch next : ℕ) → epoch ≤ next → (log : List HostStep) → AreBelow epoch log → AreBelow next log
logs_later epoch next later [] all = tt
logs_later epoch next later (e ∷ log) all =
    (below_later epoch next later e.step.marks all.0, logs_later epoch next later log all.1)

-- the shell's host
shell_rests : (start : Start) (epoch : ℕ) (parts : Parts) → ShellWaits start None parts → ShellOwns parts
    → RestsIn start 0 epoch parts
shell_rests start epoch (Shell p) waits owns = (waits.closing_is, owns waits.closing_is)
shell_rests start epoch (Main p) waits owns = absurd waits
shell_rests start epoch (Tc p) waits owns = absurd waits
shell_rests start epoch (Ldm p) waits owns = absurd waits

epochs_rest : (start : Start) (h epoch : ℕ) (parts : Parts) → EpochsRest epoch parts → RestsIn start h epoch parts
epochs_rest start h epoch (Tc p) rests = rests
epochs_rest start h epoch (Shell p) rests = absurd rests
epochs_rest start h epoch (Main p) rests = absurd rests
epochs_rest start h epoch (Ldm p) rests = absurd rests

rows_rest : (start : Start) (h epoch : ℕ) (parts : Parts) → HasRows parts → RestsIn start h epoch parts
rows_rest start h epoch (Ldm p) has = tt
rows_rest start h epoch (Shell p) has = absurd has
rows_rest start h epoch (Main p) has = absurd has
rows_rest start h epoch (Tc p) has = absurd has

module _ (start : Start) (shape : IsShape start.shape) where
  main_rests : (epoch : ℕ) (parts : Parts) → MainRests start epoch parts → RestsIn start main epoch parts
  main_rests epoch (Main p) rests =
      record {
        member = rests.member ∙ sym (main_member start 0 shape.nodes_some);
        view = rests.view;
        phase =
            rests.phase
            ∙ sym
            (ap (λ (m : Member). first_phase epoch (is_president m (first start))) rests.member
            ∙ ap (first_phase epoch) (first_presides start shape));
        front = rests.front;
        asked = rests.asked;
        owed = rests.owed;
      }
  main_rests epoch (Shell p) rests = absurd rests
  main_rests epoch (Tc p) rests = absurd rests
  main_rests epoch (Ldm p) rests = absurd rests

  -- The masters of other nodes do nothing in any epoch.
  module _ (k : ℕ) (low : k < start.shape.nodes) (apart : k ≢ 0) where
    none_presides : is_president (member_at (made start) (main_at k)) (first start) ≡ false
    none_presides =
        ap (λ (m : Member). is_president m (first start)) (main_member start k low)
        ∙ ap (is_first_by (first_start (k + 1))) (first_member start.shape.nodes shape.nodes_some)
        ∙ ap (λ b. b && true) (ne_eqb (k + 1) 1 (λ same. apart (omega (arith, same))))

    other_rests : (epoch next : ℕ) (given : List ApiReply) (parts : Parts) (other : plain.Host)
        → ArePartsNear start given parts other → has_main other ≡ true → RestsIn start (main_at k) epoch parts
        → RestsIn start (main_at k) next parts
    other_rests epoch next given (Main p) (kind.Main m) near is rests =
        record {
          member = rests.member;
          view = rests.view;
          phase =
              rests.phase
              ∙ ap (first_phase epoch)
              (ap (λ (m : Member). is_president m (first start)) rests.member ∙ none_presides)
              ∙ sym
              (ap (first_phase next)
              (ap (λ (m : Member). is_president m (first start)) rests.member ∙ none_presides));
          front = rests.front;
          asked = rests.asked;
          owed = rests.owed;
        }
    other_rests epoch next given (Shell p) (kind.Main m) near is rests = absurd near
    other_rests epoch next given (Tc p) (kind.Main m) near is rests = absurd near
    other_rests epoch next given (Ldm p) (kind.Main m) near is rests = absurd near
    other_rests epoch next given parts (kind.Shell a) near is rests = absurd (false≢true is)
    other_rests epoch next given parts (kind.Tc q) near is rests = absurd (false≢true is)
    other_rests epoch next given parts (kind.Ldm s) near is rests = absurd (false≢true is)

    other_main : (epoch next : ℕ) (log : List HostStep) → IsMirrored start (main_at k) log
        → RestsIn start (main_at k) epoch (after start (main_at k) log).parts
        → RestsIn start (main_at k) next (after start (main_at k) log).parts
    other_main epoch next log before rests =
        other_rests epoch next (plain_replies (replies_in start (main_at k) log)) (after start (main_at k) log).parts
        before.inner before.near.parts (inner_main start (main_at k) log before ∙ main_beats k) rests

  -- Each host is one of these.
  module _ (epoch next : ℕ) (base now : ℕ → List HostStep)
      (mirrored : (h : ℕ) → IsMirrored start h (base h))
      (rests : (h : ℕ) → h < first_hosts start → RestsIn start h epoch (after start h (base h)).parts)
      (aside : (h : ℕ) → is_beating h ≡ true → h ≢ main
      → (after start h (now h)).parts ≡ (after start h (base h)).parts)
      (shell : ShellWaits start None (after start 0 (now 0)).parts) (owns : ShellOwns (after start 0 (now 0)).parts)
      (master : MainRests start next (after start main (now main)).parts)
      (epochs : (place : ℕ) → place < start.shape.nodes
      → EpochsRest next (after start (host_in place false) (now (host_in place false))).parts)
      (rows : (place : ℕ) → place < start.shape.nodes
      → HasRows (after start (host_in place true) (now (host_in place true))).parts) where
    abbrev Rested : ℕ → Type 0
    Rested h = RestsIn start h next (after start h (now h)).parts

    at_main : (k : ℕ) → k < start.shape.nodes → Rested (main_at k)
    at_main k low = go (cases_eq k 0)
      where
        go : (k ≡ 0) ⊎ (k ≢ 0) → Rested (main_at k)
        go (inl none) =
            subst (λ j. Rested (main_at j)) (sym none) (main_rests next (after start main (now main)).parts master)
        go (inr apart) =
            subst (RestsIn start (main_at k) next)
            (sym (aside (main_at k) (main_beats k) (λ same. apart (omega (arith, same)))))
            (other_main k low apart epoch next (base (main_at k)) (mirrored (main_at k))
            (rests (main_at k) (omega (arith, low))))

    at_part : (m left : ℕ) → m % 3 ≡ left → suc m < first_hosts start → Rested (suc m)
    at_part m zero is low =
        let at : suc m ≡ main_at (m / 3) = omega (arith, is) in
        subst Rested (sym at) (at_main (m / 3) (omega (arith, low)))
    at_part m (suc zero) is low =
        let at : suc m ≡ host_in (m / 3) false = omega (arith, is) in
        subst Rested (sym at)
        (epochs_rest start (host_in (m / 3) false) next _ (epochs (m / 3) (omega (arith, low))))
    at_part m (suc (suc zero)) is low =
        let at : suc m ≡ host_in (m / 3) true = omega (arith, is) in
        subst Rested (sym at) (rows_rest start (host_in (m / 3) true) next _ (rows (m / 3) (omega (arith, low))))
    at_part m (suc (suc (suc left))) is low = absurd (omega (arith, is))

    pub all_rest : (h : ℕ) → h < first_hosts start → Rested h
    all_rest zero low = shell_rests start next (after start 0 (now 0)).parts shell owns
    all_rest (suc m) low = at_part m (m % 3) refl low
