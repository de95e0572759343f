-- So it stays with whatever a coordinator takes, and where a view is installed.
use Rattle.std.proofs.Common.{◌≡◌, ◌+◌, ◌∙◌, ◌++◌, ℕ, Bool, true, false, List, [], ◌∷◌, length, arith, refl, subst, sym}
use Rattle.std.specs.List.{cons_option}
use Rattle.std.specs.Prelude.{if◌then◌else◌, None, Some}
use Rattle.run_theory.specs.Lists.{Each}
use Rattle.sig_core.specs.declared.member.Member.{Member}
use Rattle.sig_core.specs.declared.member.TxId.{TxId}
use Rattle.sig_core.specs.declared.op.Answer.{Answer}
use Rattle.sig_core.specs.declared.op.Op.{Op}
use Rattle.sig_core.specs.declared.outs.Outgoing.{Outgoing}
use Rattle.sig_core.specs.declared.signal.Body.{Body}
use Rattle.sig_core.specs.declared.signal.Body.TheVariants.{Epoch}
use Rattle.sig_core.specs.declared.signal.Signal.{Signal}
use Rattle.sig_core.specs.declared.signal.epoch.EpochSignal.TheVariants.{DiVerifyReq}
use Rattle.sig_core.specs.declared.view.View.{View}
use Rattle.sig_core.specs.Same.{same_tx}
use Rattle.sig_core.specs.Step.{Step, joined, sends_only}
use Rattle.report_laws.specs.Asked.{asked_by}
use Rattle.tc_block.specs.State.{TcState}
use Rattle.tc_block.proofs.EachTurn.{rows_of}
use Rattle.tc_block.specs.Complete.{one_if}
use Rattle.tc_views.proofs.Walk.{coordinator_outcomes, inner}
use Rattle.tc_views.specs.Coordinator.{coordinator_row}
use Rattle.tc_views.specs.State.{CoordinatorState, go_on_if}
use Rattle.tc_views.specs.Views.{install_row}
use Rattle.world_core.specs.Entries.{verified_by}
use Rattle.outcome_laws.specs.Counts.{IsCoordinatorOf, count_sent, is_asking}
use Rattle.outcome_laws.proofs.coordinators.BeginsAndAsks.{asks_once}
use Rattle.outcome_laws.proofs.coordinators.Lists.{count_more, keys_once}
use Rattle.talk_laws.proofs.Picks.{pick_sends, picked_both}
use Rattle.talk_laws.proofs.TcTalks.{AreMute, Talks, more_mute, resume_talks, turn_talks}
use Rattle.talk_laws.proofs.TcTrack.{Gives, IsFit, Says, SaysBy, Talked, begins_says, mute_picks, mute_told}
use Rattle.talk_laws.proofs.TcTrack.{mute_verified, quiet_says, told_by, turned_says}

module _ (tx : TxId) where
  -- requests for epochs, counted and picked
  verified_count : (body : Body) (before : List (List (Op × Answer)))
      → length (cons_option (verified_by tx body) before) ≡ one_if (is_asking tx body) + length before
  verified_count (Epoch (DiVerifyReq other ops)) before = by (same_tx other tx)
    where
      by : (b : Bool) → length (cons_option (if b then Some ops else None) before) ≡ one_if b + length before
      by true = omega arith
      by false = omega arith
  verified_count body before = omega arith

  pub gave_count : (sends : List Outgoing) (before : List (List (Op × Answer)))
      → length (pick_sends (verified_by tx) sends before) ≡ count_sent (is_asking tx) sends + length before
  gave_count [] before = omega arith
  gave_count (one ∷ sends) before =
      omega (
        arith,
        gave_count sends (cons_option (verified_by tx one.body) before),
        verified_count one.body before,
        count_more (λ (sent : Outgoing). is_asking tx sent.body) one sends,
      )

  module _ (told : List Answer) (took : List Op) (gave : List (List (Op × Answer))) where
    -- what it goes on with says nothing
    goes_on_says : (body : Body) (step : Step TcState) (node : ℕ) (b : Bool) → SaysBy tx told took gave body step
        → SaysBy tx told took gave body
        (record { state = step.state; effects = joined step.effects (sends_only (go_on_if node b)) })
    goes_on_says body step node b says = record {
      unborn = λ is. told_is ∙ says.unborn is;
      fits =
          subst (λ some. Each (IsFit tx some (cons_option (asked_by tx body) took)) step.state.live) (sym told_is)
          says.fits;
      gives =
          subst (λ some. Each (Gives some (cons_option (asked_by tx body) took))
          (pick_sends (verified_by tx) (step.effects.sends ++ go_on_if node b) gave)) (sym told_is)
          (subst (Each (Gives (pick_sends (told_by tx) step.effects.sends told) (cons_option (asked_by tx body) took)))
          (sym gave_is) says.gives);
    }
      where
        told_is : pick_sends (told_by tx) (step.effects.sends ++ go_on_if node b) told
            ≡ pick_sends (told_by tx) step.effects.sends told
        told_is =
            picked_both (λ (sent : Outgoing). told_by tx sent.body) step.effects.sends (go_on_if node b) told
            ∙ mute_picks tx (told_by tx) (mute_told tx) (go_on_if node b)
            (pick_sends (told_by tx) step.effects.sends told) (more_mute node b)

        gave_is : pick_sends (verified_by tx) (step.effects.sends ++ go_on_if node b) gave
            ≡ pick_sends (verified_by tx) step.effects.sends gave
        gave_is =
            picked_both (λ (sent : Outgoing). verified_by tx sent.body) step.effects.sends (go_on_if node b) gave
            ∙ mute_picks tx (verified_by tx) (mute_verified tx) (go_on_if node b)
            (pick_sends (verified_by tx) step.effects.sends gave) (more_mute node b)

    module _ (me : Member) (s : CoordinatorState) (of : IsCoordinatorOf me s) (talked : Talked tx s told took gave)
      where
        row_says : (x : Signal) → SaysBy tx told took gave x.body (inner (coordinator_row s x))
        row_says x =
            coordinator_outcomes (λ u t turn. Talks s.tc.node u t x.body turn) (SaysBy tx told took gave x.body) s x
            (record {
              calm = record {
                turns = λ u t at split.
                    rows_of s.tc.node s.tc.layout u t x.body (λ turn. Talks s.tc.node u t x.body turn)
                    (turn_talks s.tc.node s.tc.layout u t x.body);
                turned = λ u t at split turn talks.
                    turned_says tx told took gave x.body s.tc talked.unborn talked.fits talked.gives talked.few u t at
                    split
                    (keys_once s.tc.live of.once) turn talks;
                stays = quiet [] tt;
                full = λ name. quiet _ (refl, tt);
                begins = λ name.
                    begins_says tx told took gave x.body s.tc talked.unborn talked.fits talked.gives talked.few of.begun
                    name;
                passes = λ u ahead. quiet _ (refl, tt);
              };
              resumes = λ u t at split. resume_talks s.tc.node s.tc.layout u t x.body;
              promises = quiet _ (refl, tt);
              goes_on = λ step node b says. goes_on_says x.body step node b says;
            })
          where
            quiet : (sends : List Outgoing) → AreMute sends
                → Says tx told took gave x.body s.tc.next_seq s.tc.live sends
            quiet sends mute =
                quiet_says tx told took gave x.body s.tc talked.unborn talked.fits talked.gives talked.few sends mute

        pub row_talked : (x : Signal)
            → Talked tx (coordinator_row s x).state
            (pick_sends (told_by tx) (coordinator_row s x).effects.sends told) (cons_option (asked_by tx x.body) took)
            (pick_sends (verified_by tx) (coordinator_row s x).effects.sends gave)
        row_talked x = record {
          unborn = (row_says x).unborn;
          fits = (row_says x).fits;
          gives = (row_says x).gives;
          few =
              omega (
                arith,
                asks_once me tx s x of,
                gave_count (coordinator_row s x).effects.sends gave,
                talked.few,
              );
        }

        pub installs_talked : (view : View)
            → Talked tx (install_row s view).state (pick_sends (told_by tx) (install_row s view).effects.sends told)
            took
            (pick_sends (verified_by tx) (install_row s view).effects.sends gave)
        unfolding install_row
        installs_talked view = by (go_on_if s.tc.node _) (more_mute s.tc.node _)
          where
            by : (sends : List Outgoing) → AreMute sends
                → Talked tx (install_row s view).state (pick_sends (told_by tx) sends told) took
                (pick_sends (verified_by tx) sends gave)
            by sends mute =
                subst (λ some. Talked tx (install_row s view).state some took (pick_sends (verified_by tx) sends gave))
                (sym (mute_picks tx (told_by tx) (mute_told tx) sends told mute))
                (subst (Talked tx (install_row s view).state told took)
                (sym (mute_picks tx (verified_by tx) (mute_verified tx) sends gave mute))
                (record { unborn = talked.unborn; fits = talked.fits; gives = talked.gives; few = talked.few }))
