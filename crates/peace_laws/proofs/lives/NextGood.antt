-- Where peace goes on by a calm request: each step leaves what its host has done since the quiet moment good, and the
-- host at rest in its epoch.
use Rattle.std.proofs.Common.{◌≡◌, ◌+◌, ◌*◌, ◌≤◌, ◌<◌, ℕ, zero, suc, List, [], ◌∷◌, ◌++◌, length, true, false}
use Rattle.std.proofs.Common.{refl, ap, sym, ◌∙◌, subst, append-nil, arith}
use Rattle.std.specs.Prelude.{map}
use Rattle.std.proofs.lemmas.Bool.{true≢false}
use Rattle.frag_map.specs.Shape.{IsShape}
use Rattle.node_core.specs.declared.host.Host as plain_node
use Rattle.node_core.specs.Requests.{is_request}
use Rattle.node_core.specs.Row.{row}
use Rattle.run_laws.specs.Transit.{Comes}
use Rattle.run_theory.proofs.Pasts.{past_more}
use Rattle.run_theory.specs.Links.{taken}
use Rattle.run_theory.specs.Lists.{Each, IsPast}
use Rattle.run_theory.specs.Runs.{log_of}
use Rattle.sig_core.specs.declared.outs.Outgoing.{Outgoing}
use Rattle.sig_core.specs.declared.signal.Signal.{Signal}
use Rattle.sig_core.specs.Step.{Step}
use Rattle.world_core.specs.Hosts.{Membership, first_membership, first_hosts, member_at, receiver}
use Rattle.world_core.specs.Machine as plain
use Rattle.world_core.specs.Machine.{addressed, all_addressed, counted}
use Rattle.world_core.specs.Start.{NobodyStarts, Start, made}
use Rattle.world_core.specs.Steps.{HostStep}
use Rattle.world_views.specs.Machine.{after, machine, step_after, stops_by}
use Rattle.world_views.specs.Right.{replies_in}
use Rattle.world_views.specs.Sending.{is_asked}
use Rattle.calm_laws.specs.Alike.{AreAlike, IsAtEase}
use Rattle.calm_laws.specs.Plain.{is_beating}
use Rattle.calm_laws.specs.Steps.{ComesCalmly, IsPlainSend, StepAlike, besides}
use Rattle.calm_laws.proofs.lives.Arrivals.{arriving}
use Rattle.calm_laws.proofs.places.FineSends.{plain_fine}
use Rattle.calm_laws.proofs.places.Main.{main_at, main_beats}
use Rattle.calm_laws.proofs.places.PlainSends.{plain_sends_calm}
use Rattle.calm_laws.proofs.plain_steps.SentStep.{IsFine, IsFineSend, IsSince, since_next}
use Rattle.calm_laws.proofs.lives.Steady.{IsGood, IsMainGood, main_next, shell_next, shell_since}
use Rattle.level_laws.specs.Laws.{HostsAreLevel}
use Rattle.level_laws.specs.Levels.{send_at}
use Rattle.peace_laws.specs.Parts.{levelled, plain_part, plain_replies}
use Rattle.peace_laws.proofs.near.CalmNear.{inner_main, nothing_replied}
use Rattle.peace_laws.proofs.near.Signals.{calm_level}
use Rattle.peace_laws.proofs.near.Mirrored.{IsMirrored, level_step}
use Rattle.peace_laws.proofs.near.NearHosts.{main_stays, near_alike}
use Rattle.peace_laws.proofs.plain.Calm.{IsTakenCalmly}
use Rattle.peace_laws.proofs.plain.Events.{events_are, plain_events}
use Rattle.peace_laws.proofs.near.Resting.{StaysIn, main_stays_in, part_stays, stays_closeless}

-- whoever is to take it takes it in calm, whatever its epoch
level_calm : (start : Start) (epoch : ℕ) (who : Membership) (h stamp : ℕ) (count : ℕ → ℕ) (sends : List Outgoing)
    → Each (IsTakenCalmly start) (all_addressed who h stamp count (map (send_at epoch) sends))
    → Each (IsTakenCalmly start) (all_addressed who h stamp count sends)
level_calm start epoch who h stamp count [] all = tt
level_calm start epoch who h stamp count (one ∷ more) all = (
  λ low. sym (calm_level epoch (receiver who one.to) (addressed who h stamp (count (receiver who one.to)) one).signal)
      ∙ all.0 low,
  level_calm start epoch who h stamp (counted (receiver who one.to) count) more all.1,
)

-- What is known of the next step of a run, where it is calm and no closing is under way at its host.
pub record IsNextInCalm (start : Start) (es : List HostStep) (e : HostStep)
    (before : IsMirrored start e.host (log_of (machine start) es e.host)) : Type 0 where
  pub comes : ComesCalmly start e.host e.step.taken
  pub goes_on : stops_by e.step.marks ≡ false
  pub ease : IsAtEase start (after start e.host (e ∷ log_of (machine start) es e.host)).standing
  pub unasked : is_beating e.host ≡ true → is_asked e.host e.step.taken ≡ false
  pub member : is_beating e.host ≡ true → e.step.taken.member ≡ member_at (made start) e.step.taken.from.0
  pub asked : is_beating e.host ≡ false → is_asked e.host e.step.taken ≡ is_request e.step.taken.body
  pub alike : is_beating e.host ≡ false
      → StepAlike start e.host (plain_replies (replies_in start e.host (log_of (machine start) es e.host)))
      (after start e.host (log_of (machine start) es e.host)) before.inner e.step.taken
  pub plain : is_beating e.host ≡ false → Comes start (plain_events start es) (levelled start.epoch e)
  pub marks : e.step.marks ≡ (step_after start e.host (log_of (machine start) es e.host) e).effects.marks
  pub none : is_beating e.host ≡ true → e.step.marks ≡ []

module _ (hosts_level : HostsAreLevel) (start : Start) (shape : IsShape start.shape) (epoch : ℕ)
    (base : ℕ → List HostStep) (es : List HostStep) (e : HostStep)
    (mirrored : (h : ℕ) → IsMirrored start h (log_of (machine start) es h)) (low : e.host < first_hosts start)
    (next : IsNextInCalm start es e (mirrored e.host))
    (stays : StaysIn start e.host epoch (after start e.host (log_of (machine start) es e.host)).parts)
    (fine : is_asked e.host e.step.taken ≡ false → IsFine start e.step.taken.from.0 (arriving e.host e.step.taken))
    (before : IsGood start base e.host (log_of (machine start) es e.host)) where
  abbrev log : List HostStep
  log = log_of (machine start) es e.host

  abbrev x : Signal
  x = e.step.taken

  past : IsPast (base e.host) (e ∷ log)
  past = past_more e before.past

  -- of a main part
  module _ (beats : is_beating e.host ≡ true) (k : ℕ) (k_low : k < start.shape.nodes) (at : e.host ≡ main_at k)
      (room : x.from.0 ≡ 0
      → length (taken (machine start) 0 (e ∷ log)) ≤ 1 + length (taken (machine start) 0 (base e.host))) where
    abbrev inner : plain_node.Host
    inner = (mirrored e.host).inner

    no_replies : (h : ℕ) → h ≡ main_at k → (those : List HostStep) → plain_replies (replies_in start h those) ≡ []
    no_replies h is those =
        ap (λ j. plain_replies (replies_in start j those)) is ∙ ap plain_replies (nothing_replied start (k * 3) those)

    here_alike : AreAlike start [] (after start e.host log) inner
    here_alike =
        subst (λ given. AreAlike start given (after start e.host log) inner) (no_replies e.host at log)
        (near_alike start (plain_replies (replies_in start e.host log)) (after start e.host log) inner
        (mirrored e.host).near
        (stays_closeless start e.host epoch (after start e.host log).parts stays))

    main_on : NobodyStarts start →
        ((j : ℕ) → IsSince start (main_at k) j (base e.host) log
        → IsSince start (main_at k) j (base e.host) (e ∷ log))
        × IsMainGood start (base e.host) k (e ∷ log)
    main_on nobody =
        main_next start nobody shape k k_low (base e.host) log e inner
        (subst (λ h. AreAlike start [] (after start h log) inner) at here_alike)
        (subst (λ h. ComesCalmly start h x) at next.comes)
        (subst (λ h. IsAtEase start (after start h (e ∷ log)).standing) at next.ease)
        next.goes_on (next.unasked beats)
        (λ is. (fine (next.unasked beats)).round low beats is)
        (λ from. (fine (next.unasked beats)).told low beats from)
        (next.member beats) room (before.main k k_low at)

    pub main_good : NobodyStarts start → IsGood start base e.host (e ∷ log)
    main_good nobody =
        record {
          past = past;
          since = λ j.
              subst (λ h. IsSince start h j (base e.host) (e ∷ log)) (sym at)
              ((main_on nobody).0 j (subst (λ h. IsSince start h j (base e.host) log) at (before.since j)));
          main = λ i i_low is.
              let same : k ≡ i = omega (arith, at, is) in
              subst (λ m. IsMainGood start (base e.host) m (e ∷ log)) same (main_on nobody).1;
          shell = λ shell. absurd (cc (at, shell));
        }

    pub main_rests : StaysIn start e.host epoch (after start e.host (e ∷ log)).parts
    main_rests =
        main_stays_in start e.host epoch (after start e.host log) inner x beats here_alike
        (inner_main start e.host log (mirrored e.host) ∙ beats) next.comes stays

  -- of another host, which sends what its plain one does
  module _ (takes : is_beating e.host ≡ false) where
    abbrev sends : List Outgoing
    sends = (row (mirrored e.host).inner x).effects.sends

    alike_step : StepAlike start e.host (plain_replies (replies_in start e.host log)) (after start e.host log)
        (mirrored e.host).inner x
    alike_step = next.alike takes

    level_sends : (plain.step_after start e.host (plain_part start e.host log) (levelled start.epoch e)).effects.sends
        ≡ map (send_at start.epoch) sends
    level_sends =
        ap (λ (s : Step plain_node.Host). s.effects.sends)
        (level_step hosts_level start e.host log e (mirrored e.host))

    fine_sends : Each (IsFineSend start e.host) sends
    fine_sends =
        plain_fine start e.host e.step.stamp (plain.sent_count start e.host (plain_part start e.host log)) sends
        (level_calm start start.epoch (first_membership start) e.host e.step.stamp
        (plain.sent_count start e.host (plain_part start e.host log)) sends
        (subst
        (λ those. Each (IsTakenCalmly start) (all_addressed (first_membership start) e.host e.step.stamp
        (plain.sent_count start e.host (plain_part start e.host log)) those))
        level_sends
        (subst
        (λ (those : List HostStep).
        Each (IsTakenCalmly start) (plain.signals_of start e.host those (levelled start.epoch e)))
        (events_are start es e.host)
        (plain_sends_calm start (plain_events start es) (levelled start.epoch e) (next.plain takes)))))
        alike_step.plain

    none_main : (k : ℕ) → k < start.shape.nodes → e.host ≡ main_at k → IsMainGood start (base e.host) k (e ∷ log)
    none_main k k_low at = absurd (true≢false (sym (main_beats k) ∙ sym (ap is_beating at) ∙ takes))

    -- the shell
    module _ (at : e.host ≡ 0) where
      shell_are : (step_after start 0 log e).effects.sends ≡ sends ++ besides start 0 x.body
      shell_are =
          subst (λ h. (step_after start h log e).effects.sends ≡ sends ++ besides start h x.body) at alike_step.sends

      shell_plain : Each (IsPlainSend 0) sends
      shell_plain = subst (λ h. Each (IsPlainSend h) sends) at alike_step.plain

      shell_fine : Each (IsFineSend start 0) sends
      shell_fine = subst (λ h. Each (IsFineSend start h) sends) at fine_sends

      shell_ease : IsAtEase start (after start 0 (e ∷ log)).standing
      shell_ease = subst (λ h. IsAtEase start (after start h (e ∷ log)).standing) at next.ease

      shell_good : NobodyStarts start → IsGood start base e.host (e ∷ log)
      shell_good nobody =
          record {
            past = past;
            since = λ j.
                subst (λ h. IsSince start h j (base e.host) (e ∷ log)) (sym at)
                (shell_since start (base e.host) log e sends shell_are shell_plain shell_fine shell_ease next.goes_on
                (next.asked takes) nobody j
                (subst (λ h. IsSince start h j (base e.host) log) at (before.since j)));
            main = none_main;
            shell = λ shell.
                shell_next start (base e.host) log e sends shell_are shell_plain shell_fine shell_ease next.goes_on
                (next.asked takes) nobody (before.shell shell);
          }

    -- a part of a node
    module _ (nobody : NobodyStarts start) (h : ℕ) (at : e.host ≡ suc h) where
      part_are : (step_after start e.host log e).effects.sends ≡ sends
      part_are = alike_step.sends ∙ ap (λ i. sends ++ besides start i x.body) at ∙ append-nil sends

      part_good : IsGood start base e.host (e ∷ log)
      part_good =
          record {
            past = past;
            since = λ j.
                since_next start nobody e.host log e next.ease next.goes_on sends part_are fine_sends j (base e.host)
                (before.since j);
            main = none_main;
            shell = λ shell. absurd (cc (at, shell));
          }

    pub other_good : NobodyStarts start → IsGood start base e.host (e ∷ log)
    other_good nobody = go e.host refl
      where
        go : (h : ℕ) → e.host ≡ h → IsGood start base e.host (e ∷ log)
        go zero at = shell_good at nobody
        go (suc h) at = part_good nobody h at

    pub other_rests : StaysIn start e.host epoch (after start e.host (e ∷ log)).parts
    other_rests =
        part_stays start e.host epoch (plain_replies (replies_in start e.host log)) _ (after start e.host log)
        (after start e.host (e ∷ log)) (mirrored e.host).inner x (mirrored e.host).near.parts stays alike_step.alike
        (main_stays (mirrored e.host).inner x ∙ inner_main start e.host log (mirrored e.host) ∙ takes)
