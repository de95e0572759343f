-- The membership of a node at rest: a round, after which it has missed one more, and a heartbeat.
use Rattle.std.proofs.Common.{◌≡◌, ◌<◌, ◌≤◌, ◌+◌, ℕ, Bool, true, false, List, [], ◌∷◌, refl, sym, ap, ◌∙◌}
use Rattle.std.proofs.Common.{arith, ne_eqb, subst}
use Rattle.std.specs.Prelude.{if◌then◌else◌, Option, None, Some}
use Rattle.std.proofs.lemmas.Bool.{lt-ltb}
use Rattle.sig_core.specs.declared.member.Member.{Member}
use Rattle.sig_core.specs.declared.outs.Outgoing.{Outgoing}
use Rattle.sig_core.specs.declared.signal.Body.{Body}
use Rattle.sig_core.specs.declared.signal.Body.TheVariants.{Host, Membership}
use Rattle.sig_core.specs.declared.signal.Signal.{Signal}
use Rattle.sig_core.specs.declared.signal.host.HostSignal.TheVariants.{Round}
use Rattle.sig_core.specs.declared.signal.membership.MembershipSignal.TheVariants.{Heartbeat}
use Rattle.sig_core.specs.Step.{Step, stay}
use Rattle.qmgr_block.specs.declared.known.Known.{Known}
use Rattle.qmgr_block.specs.declared.known.TheConstants.{MISSED}
use Rattle.qmgr_block.specs.declared.ring.Sides.{Sides}
use Rattle.qmgr_block.specs.Qmgr.{qmgr_row, qmgr_table}
use Rattle.qmgr_block.specs.Ring.{heartbeat_by, heartbeat_row, heartbeat_to, round_by, round_row, sides, with_missing}
use Rattle.qmgr_block.specs.Ring.{with_round}
use Rattle.qmgr_block.specs.Sets.{same_member}
use Rattle.qmgr_block.specs.State.{QmgrState, beside, sent_before}
use Rattle.qmgr_block.specs.Suspects.{told_after, with_suspect}
use Rattle.world_core.specs.Start.{Start}
use Rattle.calm_laws.specs.Resting.{at_rest}

-- the heartbeat of a round, where there is a member behind it and one before it
abbrev pub beats_by : Option Member → Option Member → List Outgoing
beats_by (Some next) (Some before) = heartbeat_to next ∷ []
beats_by (Some next) None = []
beats_by None before = []

abbrev pub beats : Sides → List Outgoing
beats around = beats_by around.next around.before

module _ (start : Start) (h : ℕ) where
  -- what a membership at rest knows, and who is beside it in the ring
  abbrev pub known : ℕ → Known
  known missed = (at_rest start h missed).known

  abbrev pub ring : Sides
  ring = sides (known 0)

  pub same_ring : (missed : ℕ) → sides (known missed) ≡ ring
  unfolding sides
  same_ring missed = refl

  -- a step that leaves it at rest, with so many missed at most
  pub record StaysAtRest (most : ℕ) (sends : List Outgoing) (step : Step QmgrState) : Type 0 where
    pub missed : ℕ
    pub few : missed ≤ most
    pub is : step.state ≡ at_rest start h missed
    pub sent : step.effects.sends ≡ sends
    pub marks : step.effects.marks ≡ []

  -- a round: nobody is a suspect, so nobody is told of any
  rounds_by : (missed : ℕ) → missed < 3 → (next before : Option Member)
      → StaysAtRest (missed + 1) (beats_by next before) (beside [] (round_by (known missed) next before))
  rounds_by missed few (Some next) (Some before) = record {
    missed = missed + 1;
    few = omega arith;
    is = ap (λ (step : Step Known). (beside [] step).state) goes;
    sent = ap (λ (step : Step Known). step.effects.sends) goes;
    marks = ap (λ (step : Step Known). step.effects.marks) goes;
  }
    where
      counts : with_round (known missed) ≡ known (missed + 1)
      counts = ap (λ b. if b then known (missed + 1) else known missed) (lt-ltb missed MISSED (omega arith))

      trusts : with_missing (known (missed + 1)) before ≡ known (missed + 1)
      trusts =
          ap (λ b. if b then with_suspect (known (missed + 1)) before else known (missed + 1))
          (ne_eqb (missed + 1) MISSED (λ same. omega arith))

      goes : round_by (known missed) (Some next) (Some before)
          ≡ sent_before (heartbeat_to next ∷ []) (stay (known (missed + 1)))
      goes =
          ap (λ k. sent_before (heartbeat_to next ∷ []) (told_after (known missed) k))
          (ap (λ k. with_missing k before) counts ∙ trusts)
  rounds_by missed few (Some next) None =
      record { missed = missed; few = omega arith; is = refl; sent = refl; marks = refl }
  rounds_by missed few None before =
      record { missed = missed; few = omega arith; is = refl; sent = refl; marks = refl }

  -- a heartbeat: of the member before it, or of another
  beats_if : (missed : ℕ) (b : Bool) → (missed_now : ℕ) × ((missed_now ≤ missed)
      × ((if b then known 0 else known missed) ≡ known missed_now))
  beats_if missed true = (0, (omega arith, refl))
  beats_if missed false = (missed, (omega arith, refl))

  heard_by : (missed : ℕ) (member : Member) (before : Option Member)
      → StaysAtRest missed [] (beside [] (stay (heartbeat_by (known missed) member before)))
  heard_by missed member None =
      record { missed = missed; few = omega arith; is = refl; sent = refl; marks = refl }
  heard_by missed member (Some before) =
      let now = beats_if missed (same_member member before) in
      record {
        missed = now.0;
        few = now.1.0;
        is = ap (λ (k : Known). record { known = k; promises = [] }) now.1.1;
        sent = refl;
        marks = refl;
      }

  module _ (missed : ℕ) (s : QmgrState) (rests : s ≡ at_rest start h missed) (x : Signal) where
    taken : (body : Body) → x.body ≡ body
        → qmgr_row s x ≡ qmgr_table (at_rest start h missed) x.from.0 x.member x.view.number body
    taken body is =
        ap (λ q. qmgr_row q x) rests ∙ ap (qmgr_table (at_rest start h missed) x.from.0 x.member x.view.number) is

    stays_by : (most : ℕ) (sends : List Outgoing) (step : Step QmgrState) → qmgr_row s x ≡ step
        → StaysAtRest most sends step → StaysAtRest most sends (qmgr_row s x)
    stays_by most sends step is stays = subst (StaysAtRest most sends) (sym is) stays

    -- a round passes
    pub round_stays : missed < 3 → x.body ≡ Host Round → StaysAtRest (missed + 1) (beats ring) (qmgr_row s x)
    unfolding round_row
    round_stays few is =
        stays_by (missed + 1) (beats ring) _
        (taken (Host Round) is
        ∙ ap (λ (around : Sides). beside [] (round_by (known missed) around.next around.before)) (same_ring missed))
        (rounds_by missed few ring.next ring.before)

    -- a heartbeat comes
    heard : x.body ≡ Membership Heartbeat
        → qmgr_row s x ≡ beside [] (stay (heartbeat_by (known missed) x.member ring.before))
    unfolding heartbeat_row
    heard is =
        taken (Membership Heartbeat) is
        ∙ ap (λ (around : Sides). beside [] (stay (heartbeat_by (known missed) x.member around.before)))
        (same_ring missed)

    pub heartbeat_stays : x.body ≡ Membership Heartbeat → StaysAtRest missed [] (qmgr_row s x)
    heartbeat_stays is = stays_by missed [] _ (heard is) (heard_by missed x.member ring.before)

    -- it is of the member before it
    pub heartbeat_renews : (before : Member) → ring.before ≡ Some before → same_member x.member before ≡ true
        → x.body ≡ Membership Heartbeat → StaysAtRest 0 [] (qmgr_row s x)
    heartbeat_renews before at same is =
        stays_by 0 [] (beside [] (stay (known 0)))
        (heard is
        ∙ ap (λ o. beside [] (stay (heartbeat_by (known missed) x.member o))) at
        ∙ ap (λ b. beside [] (stay (if b then known 0 else known missed))) same)
        (record { missed = 0; few = omega arith; is = refl; sent = refl; marks = refl })
