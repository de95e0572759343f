-- A main part of a node at rest stays so: at a round it misses one more, and at a heartbeat none. So it is at first.
use Rattle.std.proofs.Common.{◌≡◌, ◌<◌, ◌+◌, ◌%◌, ℕ, zero, suc, true, List, [], refl, sym, ap, ◌∙◌, subst}
use Rattle.std.proofs.Common.{arith}
use Rattle.std.specs.Prelude.{Some}
use Rattle.std.specs.List.{list_any}
use Rattle.std.proofs.lemmas.Bool.{false≢true}
use Rattle.node_core.specs.declared.host.Host as plain
use Rattle.node_views.specs.Blocks.{in_main, parts_row}
use Rattle.node_views.specs.Parts.{main_row}
use Rattle.node_views.specs.Row.{is_stop}
use Rattle.node_views.specs.declared.host_body.HostBody as host
use Rattle.node_views.specs.declared.main_part.MainPart.{MainPart}
use Rattle.node_views.specs.declared.parts.Parts.{Parts}
use Rattle.node_views.specs.declared.parts.Parts.TheVariants.{Main}
use Rattle.qmgr_block.specs.Qmgr.{qmgr_row}
use Rattle.qmgr_block.specs.Sets.{same_member}
use Rattle.sig_core.specs.declared.member.Member.{Member}
use Rattle.sig_core.specs.declared.outs.Outgoing.{Outgoing}
use Rattle.sig_core.specs.declared.place.BlockId.{BlockId}
use Rattle.sig_core.specs.declared.place.BlockId.TheVariants.{Qmgr}
use Rattle.sig_core.specs.declared.place.Part.{Part}
use Rattle.sig_core.specs.declared.place.Part.TheVariants as part
use Rattle.sig_core.specs.declared.signal.Body.TheVariants.{Host, Membership}
use Rattle.sig_core.specs.declared.signal.Signal.{Signal}
use Rattle.sig_core.specs.declared.signal.host.HostSignal.TheVariants.{Round}
use Rattle.sig_core.specs.declared.signal.membership.MembershipSignal.TheVariants.{Heartbeat}
use Rattle.sig_core.specs.Step.{Step}
use Rattle.world_core.specs.Hosts.{member_at, part_by}
use Rattle.world_core.specs.Start.{Start, made}
use Rattle.world_views.specs.Hosts.{part_started, started}
use Rattle.world_views.specs.Machine.{step_by, told}
use Rattle.world_views.proofs.AllBegin.{started_behind}
use Rattle.calm_laws.specs.Alike.{AreAlike}
use Rattle.calm_laws.specs.Calm.{is_in}
use Rattle.calm_laws.specs.Plain.{is_beating, is_main}
use Rattle.calm_laws.specs.Resting.{IsResting, IsRestingPart, LivesBeginAtRest}
use Rattle.calm_laws.specs.Steps.{ComesCalmly}
use Rattle.calm_laws.proofs.plain_steps.Ease.{ease_parts, has_calm_block}
use Rattle.calm_laws.proofs.plain_steps.Resting.{StaysAtRest, beats, heartbeat_renews, heartbeat_stays, ring}
use Rattle.calm_laws.proofs.plain_steps.Resting.{round_stays}

-- a main part takes what is for its membership
membership_block : (of : Part) (to : BlockId) → is_main of ≡ true → is_in of to ≡ true → to ≡ Qmgr
membership_block part.Main Qmgr main there = refl
membership_block part.Main to main there = absurd (false≢true there)
membership_block of to main there = absurd (false≢true main)

for_membership : (start : Start) (h : ℕ) (x : Signal) → is_beating h ≡ true → ComesCalmly start h x → x.to.block ≡ Qmgr
for_membership start zero x beating calm = absurd (false≢true beating)
for_membership start (suc h) x beating calm =
    membership_block (part_by (h % 3)) x.to.block beating (has_calm_block (suc h) x calm.calm)

told_node : (h : ℕ) → is_beating h ≡ true → (t : Step host.HostBody) → told h t ≡ t.state
told_node zero beating t = absurd (false≢true beating)
told_node (suc h) beating t = refl

module _ (start : Start) (h : ℕ) where
  -- a step of the blocks leaves the part at rest, and sends these signals alone
  record PartsRest (most : ℕ) (sends : List Outgoing) (step : Step Parts) : Type 0 where
    rests : IsRestingPart start h most step.state
    sent : step.effects.sends ≡ sends
    marks : step.effects.marks ≡ []

  -- so does a step of the host
  pub record HostRests (most : ℕ) (sends : List Outgoing) (step : Step host.HostBody) : Type 0 where
    pub rests : IsRestingPart start h most (told h step).parts
    pub sent : step.effects.sends ≡ sends
    pub marks : step.effects.marks ≡ []

  -- where the membership does so
  parts_rest : (was most : ℕ) (sends : List Outgoing) (x : Signal) → x.to.block ≡ Qmgr
      → ((p : MainPart) → IsResting start h was p → StaysAtRest start h most sends (qmgr_row p.qmgr x))
      → (parts : Parts) → IsRestingPart start h was parts → PartsRest most sends (parts_row parts x)
  unfolding main_row
  parts_rest was most sends x at stays (Main p) rests =
      let step = stays p rests in
      subst (λ b. PartsRest most sends (in_main (main_row p b x))) (sym at)
      (record {
        rests = record { missed = step.missed; few = step.few; is = step.is };
        sent = step.sent;
        marks = step.marks;
      })
  parts_rest was most sends x at stays parts rests = absurd rests

  module _ (was most : ℕ) (sends : List Outgoing) (s : host.HostBody) (other : plain.Host) (x : Signal)
      (beating : is_beating h ≡ true) (alike : AreAlike start [] s other) (calm : ComesCalmly start h x)
      (rests : IsRestingPart start h was s.parts)
      (stays : (p : MainPart) → IsResting start h was p → StaysAtRest start h most sends (qmgr_row p.qmgr x)) where
    host_rests : HostRests most sends (step_by h s x)
    host_rests =
        let step = parts_rest was most sends x (for_membership start h x beating calm) stays s.parts rests in
        let eased = ease_parts start h [] s other x alike calm (ap (list_any is_stop) step.marks) in
        record {
          rests = subst (λ (now : host.HostBody). IsRestingPart start h most now.parts)
              (sym (told_node h beating (step_by h s x)))
              (subst (λ (t : Step host.HostBody). IsRestingPart start h most t.state.parts) (sym eased) step.rests);
          sent = ap (λ (t : Step host.HostBody). t.effects.sends) eased ∙ step.sent;
          marks = ap (λ (t : Step host.HostBody). t.effects.marks) eased ∙ step.marks;
        }

-- a round: it has missed one more, and the member behind it gets a heartbeat
pub round_steps : (start : Start) (h missed : ℕ) (s : host.HostBody) (other : plain.Host) (x : Signal)
    → is_beating h ≡ true → AreAlike start [] s other → ComesCalmly start h x → IsRestingPart start h missed s.parts
    → missed < 3 → x.body ≡ Host Round
    → HostRests start h (missed + 1) (beats (ring start h)) (step_by h s x)
round_steps start h missed s other x beating alike calm rests few is =
    host_rests start h missed (missed + 1) (beats (ring start h)) s other x beating alike calm rests
    (λ p own.
    let step = round_stays start h own.missed p.qmgr own.is x (omega (arith, own.few, few)) is in
    record {
      missed = step.missed;
      few = omega (arith, step.few, own.few);
      is = step.is;
      sent = step.sent;
      marks = step.marks;
    })

-- a heartbeat: it has missed no more
pub heartbeat_rests : (start : Start) (h missed : ℕ) (s : host.HostBody) (other : plain.Host) (x : Signal)
    → is_beating h ≡ true → AreAlike start [] s other → ComesCalmly start h x → IsRestingPart start h missed s.parts
    → x.body ≡ Membership Heartbeat
    → HostRests start h missed [] (step_by h s x)
heartbeat_rests start h missed s other x beating alike calm rests is =
    host_rests start h missed missed [] s other x beating alike calm rests
    (λ p own.
    let step = heartbeat_stays start h own.missed p.qmgr own.is x is in
    record {
      missed = step.missed;
      few = omega (arith, step.few, own.few);
      is = step.is;
      sent = step.sent;
      marks = step.marks;
    })

-- and none where it is of the member before it
pub heartbeat_restores : (start : Start) (h missed : ℕ) (s : host.HostBody) (other : plain.Host) (x : Signal)
    (before : Member)
    → is_beating h ≡ true → AreAlike start [] s other → ComesCalmly start h x → IsRestingPart start h missed s.parts
    → (ring start h).before ≡ Some before → same_member x.member before ≡ true → x.body ≡ Membership Heartbeat
    → HostRests start h 0 [] (step_by h s x)
heartbeat_restores start h missed s other x before beating alike calm rests at same is =
    host_rests start h missed 0 [] s other x beating alike calm rests
    (λ p own. heartbeat_renews start h own.missed p.qmgr own.is x before at same is)

pub lives_begin_at_rest : LivesBeginAtRest
unfolding started
lives_begin_at_rest start nobody zero low beating = absurd (false≢true beating)
lives_begin_at_rest start nobody (suc h) low beating =
    subst (λ s. IsRestingPart start (suc h) 1 s.parts) (sym (started_behind start nobody h))
    (by (part_by (h % 3)) beating)
  where
    by : (of : Part) → is_main of ≡ true
        → IsRestingPart start (suc h) 1 (part_started start of (member_at (made start) (suc h))).parts
    by part.Main main = record { missed = 0; few = omega arith; is = refl }
    by of main = absurd (false≢true main)
